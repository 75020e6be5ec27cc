-- The measure of a world: a number that bounds how many letters may still be taken. It is a sum of independent parts, one for each thing that
-- may still send letters: those on their way, events, transactions, programs, stops and returns, and copies.
use Rattle.std.specs.Prelude.{ℕ, ◌+◌, ◌-◌, ◌*◌, Bool, true, false, not, ◌&&◌, List, [], ◌∷◌, length, drop, count_by, sum_by, if◌then◌else◌}
use Rattle.std.specs.List.{list_any}
use Rattle.raid_base.specs.declared.names.Txn.{Txn}
use Rattle.raid_base.specs.declared.names.Item.{Item}
use Rattle.raid_base.specs.declared.names.Site.{Site}
use Rattle.raid_base.specs.declared.entry.Noted.{Noted}
use Rattle.raid_base.specs.Names.{is_item, is_site, has_site}
use Rattle.raid_base.specs.Sites.{site}
use Rattle.raid_workload.specs.declared.workload.Workload.{Workload}
use Rattle.raid_workload.specs.declared.workload.Event.{Event}
use Rattle.raid_workload.specs.Parts.{txns, sites, items, placement, home}
use Rattle.raid_rules.specs.History.{noted, has_begun, has_ended}
use Rattle.raid_rules.specs.Sessions.{holders}
use Rattle.raid_legal.specs.Seen.{is_up, is_locked}
use Rattle.raid_legal.specs.Legal.{downs, ups}
use Rattle.raid_message.specs.declared.letter.Message.{Message}
use Rattle.raid_message.specs.declared.letter.Message.TheVariants as letters
use Rattle.raid_message.specs.declared.letter.Letter.{Letter}
use Rattle.raid_steps.specs.State.{Phase, asking, preparing, sent, Running, SiteState, Sequencer, Copying}
use Rattle.raid_steps.specs.Programs.{runs_here}
use Rattle.raid_steps.specs.World.{Servers, World}

-- What one thing may bring forth.

-- as many reads as a program has statements at most, and the letters of one read: ReadAsk, ReadDo, Value, and Serving
abbrev pub most_reads : ℕ
most_reads = 32

abbrev pub read_cost : ℕ
read_cost = 4

-- a Prepare to each other site, with its Vote, and the CommitAsk
abbrev pub commit_cost : Workload → ℕ
commit_cost w = 2 * (w.sites - 1) + 1

-- a transaction that is taken up: its Begin, its reads, and its commit
abbrev pub start_cost : Workload → ℕ
start_cost w = 1 + read_cost * most_reads + commit_cost w

-- the end of a transaction: an Apply to each site, with its Ack, the Done, and the Ends
abbrev pub end_cost : Workload → ℕ
end_cost w = 2 * w.sites + 2

-- a stop that was ordered: Stop, Halted, Down; and as many programs as run at once may be lost with their site before they have begun
abbrev pub stop_cost : Workload → ℕ
stop_cost w = 3 + w.together * start_cost w

-- a return that was ordered: Return, Hello
abbrev pub return_cost : ℕ
return_cost = 2

-- the transactions at home at a site
abbrev pub homed_at : Workload → Site → ℕ
homed_at w s = count_by (λ t. is_site s (home w t)) (txns w)

-- a note to a site that another is down: each program of it may ask once more
abbrev pub down_note_cost : Workload → Site → ℕ
down_note_cost w s = 1 + read_cost * homed_at w s

-- a note to a site that another is up: each program of it may prepare there too, and await its vote
abbrev pub up_note_cost : Workload → Site → ℕ
up_note_cost w s = 1 + 2 * homed_at w s

-- a Down: a note to each other site
abbrev pub down_cost : Workload → ℕ
down_cost w = w.sites - 1 + read_cost * length (txns w)

-- an Up: the Welcome, and a note to each other site
abbrev pub up_cost : Workload → ℕ
up_cost w = w.sites + 2 * length (txns w)

-- a copy that is renewed: CopyDo, CopyValue, CopyDone
abbrev pub copier_cost : ℕ
copier_cost = 3

-- Letters on their way.

-- a letter to a server: itself, and what it may bring forth that no other part counts
abbrev pub letter_cost : Workload → ℕ → Message → ℕ
letter_cost w server (letters.ReadAsk t ask x) = read_cost
letter_cost w server (letters.ReadDo t ask x h n) = 2
letter_cost w server (letters.Apply t number) = 2
letter_cost w server (letters.Prepare t writes) = 2
letter_cost w server (letters.CopyDo x target n) = copier_cost
letter_cost w server (letters.CopyValue x v version) = 2
letter_cost w server letters.Stop = stop_cost w
letter_cost w server letters.Return = return_cost
letter_cost w server letters.Halted = 2
letter_cost w server (letters.DownNote s) = down_note_cost w (site (server - 1))
letter_cost w server (letters.UpNote s n) = up_note_cost w (site (server - 1))
letter_cost w server other = 1

-- the letters of a link to a server
abbrev pub link_cost : Workload → ℕ → List Letter → ℕ
link_cost w server queue = sum_by (λ (l : Letter). letter_cost w server l.message) queue

-- those on all links to it, and to the servers after it
abbrev pub links_cost : Workload → ℕ → List (List (List Letter)) → ℕ
links_cost w server [] = 0
links_cost w server (row ∷ rows) = sum_by (link_cost w server) row + links_cost w (server + 1) rows

-- Events that aren't sent yet.

abbrev pub event_cost : Workload → Event → ℕ
event_cost w e = if e.stop then stop_cost w else return_cost

abbrev pub events_cost : Workload → ℕ → ℕ
events_cost w fired = sum_by (event_cost w) (drop fired w.events)

-- Transactions, and programs.

-- the transactions that haven't ended
abbrev pub ends_cost : Workload → List Noted → ℕ
ends_cost w p = end_cost w * count_by (λ t. not (has_ended p t)) (txns w)

-- the transaction is at home at the site, and neither has begun nor runs there
abbrev pub is_idle_at : Workload → List Noted → SiteState → Txn → Bool
is_idle_at w p state t = is_site state.site (home w t) && not (has_begun p t) && not (runs_here state t)

-- a program that asks: the reads after the one that is under way, and the commit; one in preparation: its CommitAsk
abbrev pub phase_cost : Workload → ℕ → Phase → ℕ
phase_cost w answers (asking k x s) = read_cost * (most_reads - (answers + 1)) + commit_cost w
phase_cost w answers (preparing reads writes awaited) = 1
phase_cost w answers sent = 0

abbrev pub program_cost : Workload → Running → ℕ
program_cost w r = phase_cost w (length r.answers) r.phase

-- a site: the transactions that it may take up, and the programs that run there
abbrev pub site_cost : Workload → List Noted → SiteState → ℕ
site_cost w p state = start_cost w * count_by (is_idle_at w p state) (txns w) + sum_by (program_cost w) state.running

-- Stops and returns that the history doesn't have yet.

-- how many stops, or else returns, the workload has of a site
abbrev pub events_of : Workload → Bool → Site → ℕ
events_of w stop s = count_by (λ (e : Event). is_site s e.site && (if e.stop then stop else not stop)) w.events

-- how many Downs, and how many Ups, of the site may still be placed
abbrev pub downs_left : Workload → List Noted → Site → ℕ
downs_left w p s = events_of w true s - downs p s

abbrev pub ups_left : Workload → List Noted → Site → ℕ
ups_left w p s = events_of w false s - ups p s

abbrev pub turns_cost : Workload → List Noted → Site → ℕ
turns_cost w p s = down_cost w * downs_left w p s + up_cost w * ups_left w p s

-- Copies.

-- how many Downs of other sites may still be placed
abbrev pub other_downs_left : Workload → List Noted → Site → ℕ
other_downs_left w p s = sum_by (λ r. if is_site s r then 0 else downs_left w p r) (sites w)

-- the copy is to be renewed, and isn't under way
abbrev pub is_to_renew : Workload → Sequencer → Site → Item → Bool
is_to_renew w q s x = let p = noted q.history in is_up w p s && is_locked w p s x && not (list_any (λ (c : Copying). is_site s c.target && is_item x c.item) q.copying)

-- a site's copy of an item, if there is one: it may have to be renewed now, after each Up of its site, and, where its source is lost, after each
-- Down of another
abbrev pub copy_cost : Workload → Sequencer → Site → Item → ℕ
copy_cost w q s x =
    let p = noted q.history in
    if has_site (holders (placement w) x) s
    then copier_cost * (ups_left w p s + other_downs_left w p s + (if is_to_renew w q s x then 1 else 0))
    else 0

abbrev pub copies_cost : Workload → Sequencer → ℕ
copies_cost w q = sum_by (λ s. sum_by (copy_cost w q s) (items w)) (sites w)

-- The measure.

-- what the servers may still send
abbrev pub servers_cost : Workload → Servers → ℕ
servers_cost w s =
    let p = noted s.sequencer.history in
    events_cost w s.fired + ends_cost w p + sum_by (site_cost w p) s.sites + sum_by (turns_cost w p) (sites w) + copies_cost w s.sequencer

-- and what the letters on their way may bring forth
abbrev pub measure : Workload → World → ℕ
measure w state = links_cost w 0 state.links + servers_cost w state.servers
