-- What becomes of a request that can't be granted yet, and facts of a result.
use Rattle.std.proofs.Common.{◌≡◌, Bool, true, if◌then◌else◌, List, Option, Some, None, ap, sym, ◌∙◌}
use Rattle.std.specs.Prelude.{Result, Ok, Err, IfOk}
use Rattle.raid_base.specs.declared.names.Txn.{Txn}
use Rattle.raid_base.specs.declared.request.Request.{Request}
use Rattle.raid_base.specs.declared.entry.Entry.{Entry}
use Rattle.raid_base.specs.declared.entry.Entry.TheVariants.{Wait, Abort}
use Rattle.raid_base.specs.declared.entry.Act.TheVariants as acts
use Rattle.raid_base.specs.declared.entry.Cause.TheVariants as causes
use Rattle.raid_base.specs.declared.entry.Noted.{Noted}
use Rattle.raid_workload.specs.declared.workload.Workload.{Workload}
use Rattle.raid_rules.specs.History.{waiting, is_waiting}
use Rattle.raid_legal.specs.Answers.{waits, closes_waits}
use Rattle.raid_waits.specs.Waiting.{is_among}

-- what follows of each success
pub if_ok : {T E : Type 0} {P Q : T → Type 0} (r : Result T E) → ((v : T) → P v → Q v) → IfOk r P → IfOk r Q
if_ok (Ok v) f h = f v h
if_ok (Err e) f h = h

abbrev pub off : Txn → Request → Bool → Bool → Option Entry
off t request among closes = if among then None else if closes then Some (Abort t causes.Deadlock (acts.Commit request)) else Some (Wait t request)

pub put_off_by : (w : Workload) (p : List Noted) (t : Txn) (request : Request) (rs : List (Txn × Request)) (among closes : Bool) → is_among rs t ≡ among → rs ≡ waiting p → closes ≡ closes_waits w p t request →
    off t request among closes ≡ waits w p t request
put_off_by w p t request rs among closes a e c =
    ap (λ b. off t request b closes) (sym a ∙ ap (λ (qs : List (Txn × Request)). is_among qs t) e) ∙ ap (λ b. off t request (is_among (waiting p) t) b) c

pub waits_already : (w : Workload) (p : List Noted) (t : Txn) (request : Request) (rs : List (Txn × Request)) → is_among rs t ≡ true → rs ≡ waiting p → None ≡ waits w p t request
waits_already w p t request rs a e = put_off_by w p t request rs true (closes_waits w p t request) a e (λ i. closes_waits w p t request)

pub waits_on : (w : Workload) (p : List Noted) (t : Txn) (request : Request) → is_waiting p t ≡ true → None ≡ waits w p t request
waits_on w p t request a = waits_already w p t request (waiting p) a (λ i. waiting p)
