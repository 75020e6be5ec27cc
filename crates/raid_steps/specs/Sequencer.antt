-- The sequencer's step: a letter places entries in the history, and each entry sends letters.
use Rattle.std.specs.Prelude.{◌≡◌, ℕ, ℤ, zero, suc, ◌+◌, ◌-◌, ◌*◌, ◌==◌, nat_lt, nat_le, max, Bool, true, false, not, ◌&&◌, ◌||◌, List, [], ◌∷◌, ◌++◌, length, map, filter, filter_map, flat_map, slice_index, slice_set, slice_get, Option, Some, None, option_map, if◌then◌else◌}
use Rattle.std.specs.List.{list_any}
use Rattle.std.specs.Option.{option_map_or}
use Rattle.raid_base.specs.declared.names.Txn.{Txn}
use Rattle.raid_base.specs.declared.names.Item.{Item}
use Rattle.raid_base.specs.declared.names.Site.{Site}
use Rattle.raid_base.specs.declared.request.Request.{Request}
use Rattle.raid_base.specs.declared.entry.Entry.{Entry}
use Rattle.raid_base.specs.declared.entry.Entry.TheVariants.{Begin, Read, Commit, Abort, Ack, Down, Up, Clear}
use Rattle.raid_base.specs.declared.entry.Act.TheVariants as acts
use Rattle.raid_base.specs.declared.entry.Cause.{Cause}
use Rattle.raid_base.specs.declared.entry.Noted.{Noted}
use Rattle.raid_base.specs.Names.{is_item, is_site, has_site, holds}
use Rattle.raid_base.specs.Sites.{session, site}
use Rattle.raid_workload.specs.declared.workload.Workload.{Workload}
use Rattle.raid_workload.specs.Parts.{txns, sites, items, home}
use Rattle.raid_rules.specs.History.{noted, ends, version}
use Rattle.raid_rules.specs.Sessions.{owes}
use Rattle.raid_legal.specs.Seen.{vector, is_up, is_locked, sources, next_of, attempt, is_restartable}
use Rattle.raid_legal.specs.Answers.{answer_read, answer_commit}
use Rattle.raid_legal.specs.Forced.{forced}
use Rattle.raid_legal.specs.Legal.{is_free, may_begin}
use Rattle.raid_message.specs.declared.letter.Message.{Message}
use Rattle.raid_message.specs.declared.letter.Message.TheVariants as letters
use Rattle.raid_message.specs.declared.letter.Letter.{Letter}
use Rattle.raid_steps.specs.State.{Out, Turn, with_state, opened, sending, to_site, Copying, Sequencer}
use Rattle.raid_steps.specs.Fits.{is_to_sequencer, knows_site}

-- the history so far, as a prefix that rules speak of
abbrev pub so_far : Turn Sequencer → List Noted
so_far turn = noted turn.state.history

-- the same message to each up site, least first
abbrev pub to_all : Workload → List Noted → Message → List Out
to_all w p message = map (λ s. to_site (vector w p) s message) (filter (is_up w p) (sites w))

-- what a Read sends: its site is to serve it, and the home is told who serves it where that is another site
abbrev pub read_sends : Workload → List Noted → ℕ → Txn → Item → Site → List Out
read_sends w p ask t x s =
    let v = vector w p in
    let h = home w t in
    to_site v s (letters.ReadDo t ask x h (session v h)) ∷ (if is_site s h then [] else to_site v h (letters.Serving t ask s) ∷ [])

-- what a Commit sends one site: that it applies the writes, where it has staged them; then that all is done, where it is the home and up
abbrev pub commit_sends : Workload → List Noted → Txn → List Site → Site → List Out
commit_sends w p t applied s =
    let v = vector w p in
    (if has_site applied s then to_site v s (letters.Apply t (length p)) ∷ [] else [])
    ++ (if is_site s (home w t) && is_up w p s then to_site v s (letters.Done t) ∷ [] else [])

-- what an Abort sends each up site; its home tries again where the cause allows it and an attempt is left
abbrev pub drop_of : Workload → Txn → Cause → Message
drop_of w t cause = letters.Drop t (is_restartable cause && nat_lt (attempt w t) w.restarts)

-- the number of the transaction that a site begins next, 0 where none is left
abbrev pub next_number : Workload → List Noted → Site → ℕ
next_number w p s = option_map_or (λ (t : Txn). t.0) (next_of w p s) 0

-- what an Up sends: a welcome to the site, and a note to each other that is up
abbrev pub up_sends : Workload → List Noted → Site → ℕ → List Out
up_sends w p s n =
    let v = vector w p in
    to_site v s (letters.Welcome v (next_number w p s)) ∷ map (λ r. to_site v r (letters.UpNote s n)) (filter (λ r. is_up w p r && not (is_site s r)) (sites w))

-- what an entry sends, p being the history that ends with it, and ask the number of the ask that it answers
abbrev pub sends : Workload → List Noted → ℕ → Entry → List Out
sends w p ask (Read t x s) = read_sends w p ask t x s
sends w p ask (Commit t request applied) = flat_map (commit_sends w p t applied) (sites w)
sends w p ask (Abort t cause act) = to_all w p (drop_of w t cause)
sends w p ask (Down s) = to_all w p (letters.DownNote s)
sends w p ask (Up s n) = up_sends w p s n
sends w p ask other = []

-- the entry takes a copy off its way: a Down of either site, or a Commit that renews the copy
abbrev pub ends_copying : Entry → Copying → Bool
ends_copying (Commit t request applied) c = has_site applied c.target && holds c.item request.writes
ends_copying (Down s) c = is_site s c.target || is_site s c.source
ends_copying other c = false

-- the turn with one more entry placed, and what it sends
abbrev pub place : Workload → ℕ → Turn Sequencer → Entry → Turn Sequencer
place w ask turn e =
    let h = turn.state.history ++ e ∷ [] in
    let still = filter (λ c. not (ends_copying e c)) turn.state.copying in
    sending (with_state turn (record (turn.state) { history = h; copying = still })) (sends w (noted h) ask e)

-- the turn with the entry placed, if there is one
abbrev pub place_if : Workload → ℕ → Turn Sequencer → Option Entry → Turn Sequencer
place_if w ask turn e = option_map_or (place w ask turn) e turn

-- the second turn is the first with forced entries placed, one after the other until none is forced
pub data Settles (w : Workload) : Turn Sequencer → Turn Sequencer → Type 0 where
  quiet : {turn : Turn Sequencer} → forced w (so_far turn) ≡ None → Settles w turn turn
  more : {turn last : Turn Sequencer} {e : Entry} → forced w (so_far turn) ≡ Some e → Settles w (place w 0 turn e) last → Settles w turn last

-- the turn with the forced entries placed one after the other, at most so many
abbrev pub settle_from : Workload → ℕ → Turn Sequencer → Turn Sequencer
settle_from w zero turn = turn
settle_from w (suc n) turn = option_map_or (λ e. settle_from w n (place w 0 turn e)) (forced w (so_far turn)) turn

-- the turn with all forced entries placed. Each ends a transaction or is a SwitchOn or a SwitchEnd, so the bound leaves none out:
-- `Settles` says that, and a law that it holds
abbrev pub settle : Workload → Turn Sequencer → Turn Sequencer
settle w turn = settle_from w (length (txns w) + 2 * length w.switches) turn

-- the largest session of the site whose end was announced
abbrev pub announced : Turn Sequencer → Site → ℕ
announced turn s = slice_index turn.state.announced (s.0 - 1)

-- the turn in which the end of a session of the site was announced
abbrev pub announce : Turn Sequencer → Site → ℕ → Turn Sequencer
announce turn s n = with_state turn (record (turn.state) { announced = slice_set turn.state.announced (s.0 - 1) (max n (announced turn s)) })

-- Down: the end of the session is announced in any case; the Down is placed where the site is up in that session
abbrev pub down_row : Workload → Turn Sequencer → Site → ℕ → Turn Sequencer
down_row w turn s n = place_if w 0 (announce turn s n) (if is_up w (so_far turn) s && session (vector w (so_far turn)) s == n then Some (Down s) else None)

-- Hello, first: where the site is up in the history its stop wasn't announced yet, so it goes down now
abbrev pub leave : Workload → Turn Sequencer → Site → Turn Sequencer
leave w turn s = if is_up w (so_far turn) s then settle w (place w 0 turn (Down s)) else turn

-- Hello, last: where the end of the new session was announced already, the site goes down again
abbrev pub leave_again : Workload → Turn Sequencer → Site → ℕ → Turn Sequencer
leave_again w turn s n = if nat_le n (announced turn s) then place w 0 (settle w turn) (Down s) else turn

-- Hello: the site comes up in its new session
abbrev pub hello_row : Workload → Turn Sequencer → Site → ℕ → Turn Sequencer
hello_row w turn s n = leave_again w (place w 0 (leave w turn s) (Up s n)) s n

-- a transaction that may ask gets the answer; what others ask is dropped
abbrev pub free_row : Workload → ℕ → Turn Sequencer → Txn → Option Entry → Turn Sequencer
free_row w ask turn t e = if is_free (so_far turn) t then place_if w ask turn e else turn

-- the turn in which no copy of the item is under way to the site
abbrev pub close : Turn Sequencer → Site → Item → Turn Sequencer
close turn s x = with_state turn (record (turn.state) { copying = filter (λ c. not (is_site s c.target && is_item x c.item)) turn.state.copying })

-- CopyDone: the copy is unlocked where it was locked and has the item's version; in any case it isn't under way any more
abbrev pub copied_row : Workload → Turn Sequencer → Site → Item → ℕ → Turn Sequencer
copied_row w turn s x v = close (place_if w 0 turn (if is_locked w (so_far turn) s x && v == version (so_far turn) x then Some (Clear s x v) else None)) s x

-- Begin: the transaction begins at its home, where it may
abbrev pub begin_row : Workload → Turn Sequencer → Txn → Turn Sequencer
begin_row w turn t = place_if w 0 turn (if may_begin w (so_far turn) t then Some (Begin t (home w t)) else None)

-- ReadAsk: the read is answered
abbrev pub read_row : Workload → Turn Sequencer → Txn → ℕ → Item → Turn Sequencer
read_row w turn t ask x = free_row w ask turn t (Some (answer_read w (so_far turn) t x))

-- CommitAsk: the commit is answered
abbrev pub commit_row : Workload → Turn Sequencer → Txn → Request → Turn Sequencer
commit_row w turn t request = free_row w 0 turn t (answer_commit w (so_far turn) t request)

-- EndAsk: the program has ended by itself, and its transaction is aborted
abbrev pub end_row : Workload → Turn Sequencer → Txn → Cause → List (Item × ℤ) → Turn Sequencer
end_row w turn t cause reads = free_row w 0 turn t (Some (Abort t cause (acts.Ended reads)))

-- Ack: the site has applied the transaction's writes, where it owed that
abbrev pub ack_row : Workload → Turn Sequencer → Site → Txn → Turn Sequencer
ack_row w turn s t = place_if w 0 turn (if owes (so_far turn) s t then Some (Ack t s) else None)

-- what the sequencer places for a message of a site, sent in a session
abbrev pub site_row : Workload → Turn Sequencer → Site → ℕ → Message → Turn Sequencer
site_row w turn s n letters.Hello = hello_row w turn s n
site_row w turn s n (letters.Begin t) = begin_row w turn t
site_row w turn s n (letters.ReadAsk t ask x) = read_row w turn t ask x
site_row w turn s n (letters.CommitAsk t request) = commit_row w turn t request
site_row w turn s n (letters.EndAsk t cause reads) = end_row w turn t cause reads
site_row w turn s n (letters.Ack t) = ack_row w turn s t
site_row w turn s n (letters.CopyDone x v) = copied_row w turn s x v
site_row w turn s n other = turn

-- the copies of a site that are to be renewed: locked, with a source, and not under way; each from its least source
abbrev pub copies_due : Workload → List Noted → List Copying → Site → List Copying
copies_due w p out s =
    filter_map
    (λ x. if is_locked w p s x && not (list_any (λ c. is_site s c.target && is_item x c.item) out)
    then option_map (λ r. record { target = s; item = x; source = r }) (slice_get (sources w p x) 0)
    else None)
    (items w)

-- what is sent to the source of a copy
abbrev pub copy_out : List ℕ → Copying → Out
copy_out v c = to_site v c.source (letters.CopyDo c.item c.target (session v c.target))

-- the turn in which each copy that is due at an up site is sent for, by site, then item
abbrev pub send_copies : Workload → Turn Sequencer → Turn Sequencer
send_copies w turn =
    let p = so_far turn in
    let due = flat_map (copies_due w p turn.state.copying) (filter (is_up w p) (sites w)) in
    sending (with_state turn (record (turn.state) { copying = turn.state.copying ++ due })) (map (copy_out (vector w p)) due)

-- the turn in which the monitor is told the count of ends, where it has risen
abbrev pub send_ends : ℕ → Turn Sequencer → Turn Sequencer
send_ends before turn = let now = ends (so_far turn) in sending turn (if nat_lt before now then (0, 0, letters.Ends now) ∷ [] else [])

-- what follows the row of any letter: the forced entries, the copies that are due, and the count of ends
abbrev pub finish : Workload → Sequencer → Turn Sequencer → Turn Sequencer
finish w state turn = send_ends (ends (noted state.history)) (send_copies w (settle w turn))

-- the sequencer hears the monitor
abbrev pub hear_down : Workload → Sequencer → Message → Turn Sequencer
hear_down w state (letters.Down s n) = if knows_site w s then finish w state (down_row w (opened state) s n) else opened state
hear_down w state other = opened state

-- the message opens a new session, so its letter's session is no old one
abbrev pub is_hello : Message → Bool
is_hello letters.Hello = true
is_hello other = false

-- the sequencer hears a site: the letter is dropped where it is of another session than the site's in the vector, or doesn't fit
abbrev pub hear_of_site : Workload → Sequencer → Site → Letter → Turn Sequencer
hear_of_site w state s letter =
    if (is_hello letter.message || letter.from == session (vector w (noted state.history)) s) && is_to_sequencer w letter.message
    then finish w state (site_row w (opened state) s letter.from letter.message)
    else opened state

-- the sequencer's step, given the sender's server number
abbrev pub hear_sequencer : Workload → Sequencer → ℕ → Letter → Turn Sequencer
hear_sequencer w state zero letter = hear_down w state letter.message
hear_sequencer w state (suc zero) letter = opened state
hear_sequencer w state (suc (suc k)) letter = hear_of_site w state (site (k + 1)) letter
