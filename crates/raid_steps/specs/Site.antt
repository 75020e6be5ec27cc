-- A site's step: one definition for each letter that it may hear, and which letters it hears in which state.
use Rattle.std.specs.Prelude.{ℕ, ℤ, zero, suc, ◌+◌, ◌==◌, nat_le, Bool, true, false, not, ◌&&◌, List, [], length, fold, replicate, if◌then◌else◌}
use Rattle.std.specs.List.{list_any, list_all}
use Rattle.std.specs.Option.{option_map_or}
use Rattle.raid_base.specs.declared.names.Txn.{Txn}
use Rattle.raid_base.specs.declared.names.Item.{Item}
use Rattle.raid_base.specs.declared.names.Site.{Site}
use Rattle.raid_base.specs.declared.entry.Answer.{Answer}
use Rattle.raid_base.specs.declared.entry.Answer.TheVariants.{Yes, No}
use Rattle.raid_base.specs.Names.{is_txn, is_site}
use Rattle.raid_base.specs.Sites.{session, site}
use Rattle.raid_workload.specs.declared.workload.Workload.{Workload}
use Rattle.raid_rules.specs.Sessions.{with_session}
use Rattle.raid_legal.specs.Seen.{attempt}
use Rattle.raid_message.specs.declared.letter.Message.{Message}
use Rattle.raid_message.specs.declared.letter.Message.TheVariants as letters
use Rattle.raid_message.specs.declared.letter.Letter.{Letter}
use Rattle.raid_steps.specs.State.{Turn, with_state, opened, send, tell, Copy, SiteState}
use Rattle.raid_steps.specs.Fits.{is_of_sequencer, is_of_site}
use Rattle.raid_steps.specs.Copies.{copy_of, holds_copy, set_copy, unstage, stage, staged_of, apply}
use Rattle.raid_steps.specs.Programs.{runs_here, change, ended, begin, start, give, noted_at, without_vote, lose, join, ask_commits, next_attempt}

-- Letters of the sequencer.

-- Welcome: the site knows the vector and what it begins next, and starts
abbrev pub welcome_row : Workload → Turn SiteState → List ℕ → ℕ → Turn SiteState
welcome_row w turn v next = start w (with_state turn (record (turn.state) { vector = v; next = next }))

-- the value of a copy goes to the program here that asked, or else to its home
abbrev pub serve : Workload → Turn SiteState → Txn → ℕ → Site → ℕ → Copy → Turn SiteState
serve w turn t k h home_session c =
    if is_site turn.state.site h then give w turn t k c.value else send turn (h.0 + 1, home_session, letters.Value t k c.value)

-- ReadDo: the copy is read
abbrev pub read_row : Workload → Turn SiteState → Txn → ℕ → Item → Site → ℕ → Turn SiteState
read_row w turn t k x h home_session = option_map_or (serve w turn t k h home_session) (copy_of turn.state x) turn

-- Serving: the site that serves the ask is noted
abbrev pub serving_row : Turn SiteState → Txn → ℕ → Site → Turn SiteState
serving_row turn t k s = change turn t (noted_at k s)

-- Apply: the staged writes become the copies, and that is acknowledged
abbrev pub apply_row : Turn SiteState → Txn → ℕ → Turn SiteState
apply_row turn t number = option_map_or (λ ps. tell (with_state turn (apply turn.state t number ps)) (letters.Ack t)) (staged_of turn.state t) turn

-- Done: the transaction has ended here, and others may begin
abbrev pub done_row : Workload → Turn SiteState → Txn → Turn SiteState
done_row w turn t = start w (ended turn t)

-- Drop: what is staged for the transaction is dropped; where it ran here it has ended, and begins again as told; then others may begin
abbrev pub drop_row : Workload → Turn SiteState → Txn → Bool → Turn SiteState
drop_row w turn t again =
    let dropped = ended (with_state turn (record (turn.state) { staged = unstage t turn.state.staged })) t in
    start w (if runs_here turn.state t && again then begin w dropped (next_attempt w t) else dropped)

-- the turn in which a site has a session in the vector, 0 for none
abbrev pub with_vector : Turn SiteState → Site → ℕ → Turn SiteState
with_vector turn s n = with_state turn (record (turn.state) { vector = with_session turn.state.vector s n })

-- DownNote: the site is down in the vector, and each program loses what it awaited of it
abbrev pub down_row : Turn SiteState → Site → Turn SiteState
down_row turn s = fold (λ now r. lose s now r r.phase) (with_vector turn s 0) turn.state.running

-- UpNote: the site is up in the vector, and joins each preparation that concerns it
abbrev pub up_row : Workload → Turn SiteState → Site → ℕ → Turn SiteState
up_row w turn s n = fold (λ now r. join w s now r r.phase) (with_vector turn s n) turn.state.running

-- CopyDo: the copy goes to the target
abbrev pub copy_row : Turn SiteState → Item → Site → ℕ → Turn SiteState
copy_row turn x target n = option_map_or (λ (c : Copy). send turn (target.0 + 1, n, letters.CopyValue x c.value c.version)) (copy_of turn.state x) turn

-- Letters of another site.

-- Value: it goes to the program that asked
abbrev pub value_row : Workload → Turn SiteState → Txn → ℕ → ℤ → Turn SiteState
value_row w turn t k v = give w turn t k v

-- Prepare: the writes are staged, and the vote is yes; n is the session in which the home asked
abbrev pub prepare_row : Turn SiteState → Txn → List (Item × ℤ) → Site → ℕ → Turn SiteState
prepare_row turn t writes s n = send (with_state turn (record (turn.state) { staged = stage t writes turn.state.staged })) (s.0 + 1, n, letters.Vote t Yes)

-- Vote: a yes counts where it is of the voter's session in the vector; a no counts for nothing, since the voter's Down is on its way
abbrev pub vote_row : Turn SiteState → Txn → Site → ℕ → Answer → Turn SiteState
vote_row turn t s n Yes = if session turn.state.vector s == n then change turn t (without_vote s) else turn
vote_row turn t s n (No named own) = turn

-- a copy is brought to a version, unless it has a larger one
abbrev pub refresh : Turn SiteState → Item → ℤ → ℕ → Copy → Turn SiteState
refresh turn x v version c =
    if nat_le c.version version
    then tell (with_state turn (record (turn.state) { copies = set_copy x v version turn.state.copies })) (letters.CopyDone x version)
    else turn

-- CopyValue: the copy is renewed, and that is told
abbrev pub copied_row : Turn SiteState → Item → ℤ → ℕ → Turn SiteState
copied_row turn x v version = option_map_or (refresh turn x v version) (copy_of turn.state x) turn

-- Letters of the monitor.

-- what is left of a site that stops: its copies and its session
abbrev pub emptied : Workload → SiteState → SiteState
emptied w state = record state { up = false; staged = []; vector = replicate w.sites 0; next = 0; running = [] }

-- Stop: the site stops, and says which session that ended
abbrev pub stop_row : Workload → SiteState → Turn SiteState
stop_row w state = send (opened (emptied w state)) (0, 0, letters.Halted)

-- Return: a stopped site comes up in its next session, and says so
abbrev pub return_row : SiteState → Turn SiteState
return_row state = tell (opened (record state { up = true; session = state.session + 1 })) letters.Hello

-- Which letter has which row.

-- a letter of the sequencer
abbrev pub sequencer_row : Workload → Turn SiteState → Message → Turn SiteState
sequencer_row w turn (letters.Welcome v next) = welcome_row w turn v next
sequencer_row w turn (letters.ReadDo t k x h n) = read_row w turn t k x h n
sequencer_row w turn (letters.Serving t k s) = serving_row turn t k s
sequencer_row w turn (letters.Apply t number) = apply_row turn t number
sequencer_row w turn (letters.Done t) = done_row w turn t
sequencer_row w turn (letters.Drop t again) = drop_row w turn t again
sequencer_row w turn (letters.DownNote s) = down_row turn s
sequencer_row w turn (letters.UpNote s n) = up_row w turn s n
sequencer_row w turn (letters.CopyDo x target n) = copy_row turn x target n
sequencer_row w turn other = turn

-- a letter of another site, sent in a session of it
abbrev pub peer_row : Workload → Turn SiteState → Site → ℕ → Message → Turn SiteState
peer_row w turn s n (letters.Value t k v) = value_row w turn t k v
peer_row w turn s n (letters.Prepare t writes) = prepare_row turn t writes s n
peer_row w turn s n (letters.Vote t answer) = vote_row turn t s n answer
peer_row w turn s n (letters.CopyValue x v version) = copied_row turn x v version
peer_row w turn s n other = turn

-- a letter that fits the site as it is: it holds the items, has writes staged to apply, has nothing running when it is welcomed, and has
-- an attempt left where it is to try again
abbrev pub fits_here : Workload → SiteState → Message → Bool
fits_here w state (letters.ReadDo t k x h n) = holds_copy state x
fits_here w state (letters.CopyDo x target n) = holds_copy state x
fits_here w state (letters.CopyValue x v version) = holds_copy state x
fits_here w state (letters.Prepare t writes) = list_all (λ p. holds_copy state p.0) writes
fits_here w state (letters.Apply t number) = list_any (λ e. is_txn t e.0) state.staged
fits_here w state (letters.Welcome v next) = length state.running == 0
fits_here w state (letters.Drop t again) = not (again && attempt w t == w.restarts)
fits_here w state other = true

-- the row of a letter that fits, and then the commits that may be asked for; a letter that doesn't fit is dropped
abbrev pub hear_if : Bool → SiteState → Turn SiteState → Turn SiteState
hear_if fits state after = if fits then ask_commits after else opened state

-- the site hears the sequencer, in the session that the letter is meant for
abbrev pub hear_sequencer : Workload → SiteState → Letter → Turn SiteState
hear_sequencer w state l = hear_if (is_of_sequencer w l.message && fits_here w state l.message) state (sequencer_row w (opened state) l.message)

-- the site hears another site, in the session that the letter is meant for
abbrev pub hear_peer : Workload → SiteState → Site → Letter → Turn SiteState
hear_peer w state s l = hear_if (is_of_site w l.message && fits_here w state l.message) state (peer_row w (opened state) s l.from l.message)

-- a letter of another site that is meant for an old session: only a Prepare is answered, with both sessions
abbrev pub refuse : SiteState → ℕ → Letter → Message → Turn SiteState
refuse state from letter (letters.Prepare t writes) = send (opened state) (from, letter.from, letters.Vote t (No letter.to state.session))
refuse state from letter other = opened state

-- an up site hears the monitor
abbrev pub stop : Workload → SiteState → Message → Turn SiteState
stop w state letters.Stop = stop_row w state
stop w state other = opened state

-- a stopped site hears the monitor
abbrev pub return : SiteState → Message → Turn SiteState
return state letters.Return = return_row state
return state other = opened state

-- what an up site does, given the sender's server number
abbrev pub hear_up : Workload → SiteState → ℕ → Letter → Turn SiteState
hear_up w state zero letter = stop w state letter.message
hear_up w state (suc zero) letter = if letter.to == state.session then hear_sequencer w state letter else opened state
hear_up w state (suc (suc k)) letter = if letter.to == state.session then hear_peer w state (site (k + 1)) letter else refuse state (k + 2) letter letter.message

-- what a stopped site does: it hears the monitor alone
abbrev pub hear_down : SiteState → ℕ → Letter → Turn SiteState
hear_down state zero letter = return state letter.message
hear_down state (suc k) letter = opened state

-- the site's step, given the sender's server number
abbrev pub hear_site : Workload → SiteState → ℕ → Letter → Turn SiteState
hear_site w state from letter = if state.up then hear_up w state from letter else hear_down state from letter
