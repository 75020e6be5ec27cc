-- The programs that run at a site: what each is about, and what each call makes of them. A turn has what they are, and what was sent.
use Rattle.std.specs.Prelude.{ℕ, ℤ, ◌+◌, ◌-◌, ◌==◌, nat_lt, Bool, true, false, not, List, [], ◌∷◌, length, fold, map, filter, flat_map, find, Option, Some, None, AllPairs, slice_get, ◌<◌, ◌≡◌, if◌then◌else◌}
use Rattle.std.specs.List.{list_all}
use Rattle.std.specs.Option.{option_map_or}
use Rattle.raid_base.specs.declared.names.Txn.{Txn}
use Rattle.raid_base.specs.declared.names.Item.{Item}
use Rattle.raid_base.specs.declared.names.Site.{Site}
use Rattle.raid_base.specs.declared.entry.Cause.TheVariants as causes
use Rattle.raid_base.specs.Names.{is_txn, is_site}
use Rattle.raid_program.specs.declared.program.Statement.{Statement}
use Rattle.raid_program.specs.declared.program.Want.{Want}
use Rattle.raid_program.specs.declared.program.Want.TheVariants as wants
use Rattle.raid_program.specs.Run.{Outcome, outcome_of, put, given}
use Rattle.raid_workload.specs.declared.workload.Workload.{Workload}
use Rattle.raid_workload.specs.Parts.{count_from, program}
use Rattle.raid_message.specs.declared.letter.Message.TheVariants as letters
use Rattle.raid_steps.specs.State.{Out, Turn, with_state, sending, tell}
use Rattle.raid_steps.specs.Programs.{following, next_attempt}
use Rattle.raid_driver.specs.declared.task.Doing.{Doing}
use Rattle.raid_driver.specs.declared.task.Doing.TheVariants.{Asking, Done, Over}
use Rattle.raid_driver.specs.declared.task.Task.{Task}

-- the programs of a site: the number of the transaction that begins next, 0 for none, and those that run, ascending. On a driver that
-- is finished, since it was refused memory, nothing else counts
pub record Drive : Type 0 where
  pub site : Site
  pub next : ℕ
  pub running : List Task
  pub finished : Bool

-- at the start no program runs, and the site's first transaction begins next
abbrev pub opened : Workload → Site → Drive
opened w s = record { site = s; next = following w s 0; running = []; finished = false }

-- what the programs are, with what was sent so far
abbrev pub turn : Drive → List Out → Turn Drive
turn d outs = record { state = d; outs = outs }

-- the transactions ascend by number
abbrev pub Ascends : List Txn → Type 0
Ascends ts = AllPairs (λ (a b : Txn). a.0 < b.0) ts

-- the transaction's program, if it runs
abbrev pub task_of : List Task → Txn → Option Task
task_of rs t = find (λ (r : Task). is_txn t r.txn) rs

-- the running programs with one put in its place, by its number, or in place of what it was
abbrev pub put_task : Task → List Task → List Task
put_task r [] = r ∷ []
put_task r (q ∷ qs) = if is_txn r.txn q.txn then r ∷ qs else if nat_lt r.txn.0 q.txn.0 then r ∷ q ∷ qs else q ∷ put_task r qs

-- the turn in which a program is so
abbrev pub with_task : Turn Drive → Task → Turn Drive
with_task now r = with_state now (record (now.state) { running = put_task r now.state.running })

-- the place of a transaction's program among those that run
pub record IsPlace (rs : List Task) (t : Txn) (k : ℕ) : Type 0 where
  pub within : k < length rs
  pub found : task_of rs t ≡ slice_get rs k

-- no program has asked as often as can be counted
abbrev pub may_ask : List Task → Bool
may_ask rs = list_all (λ (r : Task). nat_lt r.asks 4294967295) rs

-- a program asks for an item: its next ask is outstanding
abbrev pub asking : Task → Item → Task
asking r x = record r { asks = r.asks + 1; doing = Asking (r.asks + 1) x None }

-- what it sends then
abbrev pub ask_out : Task → Item → Out
ask_out r x = (1, 0, letters.ReadAsk r.txn (r.asks + 1) x)

-- a program that has come to this: it asks, or it is done, or it has ended by itself
abbrev pub come_to : Task → Outcome → Want → Task
come_to r o (wants.Read x) = asking r x
come_to r o wants.Done = record r { doing = Done o.reads o.writes }
come_to r o wants.Own = record r { doing = Over }
come_to r o wants.Overflow = record r { doing = Over }

-- what it sends then: a program that is done sends nothing yet
abbrev pub come_to_outs : Task → Outcome → Want → List Out
come_to_outs r o (wants.Read x) = ask_out r x ∷ []
come_to_outs r o wants.Done = []
come_to_outs r o wants.Own = (1, 0, letters.EndAsk r.txn causes.Own o.reads) ∷ []
come_to_outs r o wants.Overflow = (1, 0, letters.EndAsk r.txn causes.Overflow o.reads) ∷ []

-- a program after it went on with the answers that it has, to its next read or its end; and what it sends
abbrev pub gone : List Statement → Task → Task
gone p r = let o = outcome_of p (given r.answers) in come_to r o o.end

abbrev pub gone_outs : List Statement → Task → List Out
gone_outs p r = let o = outcome_of p (given r.answers) in come_to_outs r o o.end

-- the turn in which a program goes on
abbrev pub go_on : Workload → Turn Drive → Task → Turn Drive
go_on w now r = sending (with_task now (gone (program w r.txn) r)) (gone_outs (program w r.txn) r)

-- a program that has just begun
abbrev pub fresh : Txn → Task
fresh t = record { txn = t; answers = []; asks = 0; doing = Over }

-- a transaction begins: the sequencer is told, and its program goes on
abbrev pub begin : Workload → Turn Drive → Txn → Turn Drive
begin w now t = go_on w (tell now (letters.Begin t)) (fresh t)

-- the next transaction begins, if one is left
abbrev pub begin_next : Workload → Turn Drive → Turn Drive
begin_next w now =
    let k = now.state.next in
    if k == 0 then now else begin w (with_state now (record (now.state) { next = following w now.state.site k })) (record { 0 = k })

-- the transaction that begins next, if one is left
abbrev pub next_txn : Drive → Option Txn
next_txn d = if d.next == 0 then None else Some (record { 0 = d.next })

-- transactions begin until as many run as may at once, or none is left
abbrev pub start : Workload → Turn Drive → Turn Drive
start w now = fold (λ t k. begin_next w t) now (count_from 0 (w.together - length now.state.running))

-- the item that a program asks for under this number, if it does: a number that isn't the outstanding one asks for nothing
abbrev pub asked : ℕ → Doing → Option Item
asked k (Asking j x s) = if j == k then Some x else None
asked k (Done reads writes) = None
asked k Over = None

-- a program to which a value for an item came
abbrev pub answered : Task → ℤ → Item → Task
answered r v x = record r { answers = put r.answers x v }

-- a program to which a value for an ask came: it goes on where that ask is its outstanding one. And what it sends
abbrev pub gave : List Statement → ℕ → ℤ → Task → Task
gave p k v r = option_map_or (λ x. gone p (answered r v x)) (asked k r.doing) r

abbrev pub gave_outs : List Statement → ℕ → ℤ → Task → List Out
gave_outs p k v r = option_map_or (λ x. gone_outs p (answered r v x)) (asked k r.doing) []

-- the programs after a value for an ask of a transaction came; and what is sent
abbrev pub after_value : List Statement → Txn → ℕ → ℤ → List Task → List Task
after_value p t k v rs = option_map_or (λ (r : Task). put_task (gave p k v r) rs) (task_of rs t) rs

abbrev pub after_value_outs : List Statement → Txn → ℕ → ℤ → List Task → List Out
after_value_outs p t k v rs = option_map_or (gave_outs p k v) (task_of rs t) []

-- a value for an ask of a transaction comes
abbrev pub give : Workload → Turn Drive → Txn → ℕ → ℤ → Turn Drive
give w now t k v =
    sending (with_state now (record (now.state) { running = after_value (program w t) t k v now.state.running }))
    (after_value_outs (program w t) t k v now.state.running)

-- another site serves an ask: it is noted where that ask is the outstanding one
abbrev pub noted_at : ℕ → Site → Doing → Doing
noted_at k s (Asking j x r) = if j == k then Asking j x (Some s) else Asking j x r
noted_at k s (Done reads writes) = Done reads writes
noted_at k s Over = Over

-- the programs after the site that serves an ask of a transaction was noted
abbrev pub after_note : Txn → ℕ → Site → List Task → List Task
after_note t k s rs = option_map_or (λ (r : Task). put_task (record r { doing = noted_at k s r.doing }) rs) (task_of rs t) rs

-- the site that serves an ask of a transaction is noted
abbrev pub noting : Drive → Txn → ℕ → Site → Drive
noting d t k s = record d { running = after_note t k s d.running }

-- the item that a site was to serve to a program, if it was
abbrev pub awaited : Site → Doing → Option Item
awaited s (Asking k x (Some q)) = if is_site s q then Some x else None
awaited s (Asking k x None) = None
awaited s (Done reads writes) = None
awaited s Over = None

-- a site is down: a program asks again for what the site was to serve. And what it sends
abbrev pub lost : Site → Task → Task
lost s r = option_map_or (λ x. asking r x) (awaited s r.doing) r

abbrev pub lost_outs : Site → Task → List Out
lost_outs s r = option_map_or (λ x. ask_out r x ∷ []) (awaited s r.doing) []

-- all programs ask again for what the site was to serve, least first
abbrev pub lose : Site → Turn Drive → Turn Drive
lose s now =
    sending (with_state now (record (now.state) { running = map (lost s) now.state.running }))
    (flat_map (lost_outs s) now.state.running)

-- a transaction has ended
abbrev pub ended : Drive → Txn → Drive
ended d t = record d { running = filter (λ (r : Task). not (is_txn t r.txn)) d.running }

-- no program runs, and this transaction begins next
abbrev pub cleared : Drive → ℕ → Drive
cleared d next = record d { next = next; running = [] }

-- a transaction has ended, and the next attempt at its program begins
abbrev pub again : Workload → Turn Drive → Txn → Turn Drive
again w now t = begin w (with_state now (ended now.state t)) (next_attempt w t)

-- a program is done
abbrev pub is_done : Doing → Bool
is_done (Asking k x s) = false
is_done (Done reads writes) = true
is_done Over = false

-- what it read, and what it writes; nothing before it is done
abbrev pub reads_in : Doing → List (Item × ℤ)
reads_in (Asking k x s) = []
reads_in (Done reads writes) = reads
reads_in Over = []

abbrev pub writes_in : Doing → List (Item × ℤ)
writes_in (Asking k x s) = []
writes_in (Done reads writes) = writes
writes_in Over = []

-- the transactions that run, and those of them whose programs are done
abbrev pub txns_of : List Task → List Txn
txns_of rs = map (λ (r : Task). r.txn) rs

abbrev pub done_of : List Task → List Txn
done_of rs = txns_of (filter (λ (r : Task). is_done r.doing) rs)

-- what a transaction's program read and writes, nothing where it isn't done
abbrev pub reads_of : List Task → Txn → List (Item × ℤ)
reads_of rs t = option_map_or (λ (r : Task). reads_in r.doing) (task_of rs t) []

abbrev pub writes_of : List Task → Txn → List (Item × ℤ)
writes_of rs t = option_map_or (λ (r : Task). writes_in r.doing) (task_of rs t) []

-- the lists that a driver keeps are those of its programs, which ascend
pub record Keeps (tasks : List Task) (running prepared : List Txn) : Type 0 where
  pub ascends : Ascends (txns_of tasks)
  pub lists : running ≡ txns_of tasks
  pub done : prepared ≡ done_of tasks
