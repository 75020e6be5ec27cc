-- What the controllers in force are asked, and the parts that stand for a history.
use Rattle.std.proofs.Common.{◌≡◌, ℕ, ℤ, true, List, Option, Some, slice_get, ap, sym, subst, refl, ◌∙◌}
use Rattle.std.specs.Prelude.{option_and_then}
use Rattle.std.specs.List.{All}
use Rattle.raid_base.specs.declared.names.Txn.{Txn}
use Rattle.raid_base.specs.declared.names.Item.{Item}
use Rattle.raid_base.specs.declared.request.Request.{Request}
use Rattle.raid_base.specs.declared.entry.Entry.{Entry}
use Rattle.raid_base.specs.declared.entry.Noted.{Noted}
use Rattle.raid_base.specs.Names.{has_txn}
use Rattle.raid_workload.specs.declared.workload.Workload.{Workload}
use Rattle.raid_workload.specs.Parts.{txns}
use Rattle.raid_rules.specs.History.{noted, stamp, waiting, is_running, is_waiting}
use Rattle.raid_rules.specs.Order.{Fits}
use Rattle.raid_rules.specs.Verdicts.{reading, writing}
use Rattle.raid_legal.specs.InForce.{in_force, controllers}
use Rattle.raid_legal.specs.Answers.{answer_commit}
use Rattle.raid_faillock.specs.Stands as faillocks
use Rattle.raid_serial.proofs.Ordered.{run_begun}
use Rattle.raid_switch.specs.declared.eras.Eras.{Eras}
use Rattle.raid_placed.specs.Placed.{Placed}
use Rattle.raid_placed.proofs.Orderly.{placed_known, placed_reads_fit, placed_commits_fit}
use Rattle.raid_boxed.specs.Boxed.{Says}
use Rattle.raid_decide.specs.Stand.{AreKept, PartsStand}
use Rattle.raid_decide.proofs.Waking.{waits_running, waits_among}

-- who runs is of the workload
pub runs_known : (w : Workload) (h : List Entry) (t : Txn) → Placed w h → is_running (noted h) t ≡ true → has_txn (txns w) t ≡ true
runs_known w h t placed run = placed_known w h placed t (run_begun (noted h) t run)

-- what is asked with the stamp that the tables tell fits each view
pub reads_fit : (w : Workload) (h : List Entry) (t : Txn) (k : ℕ) (x : Item) → k ≡ stamp (noted h) t → Placed w h → is_running (noted h) t ≡ true →
    All (λ c. Fits c.1 (reading t k x)) (controllers (in_force w (noted h)) (noted h))
reads_fit w h t k x same placed run = subst (λ j. All (λ c. Fits c.1 (reading t j x)) (controllers (in_force w (noted h)) (noted h))) (sym same) (placed_reads_fit w h placed t x run)

pub commits_fit : (w : Workload) (h : List Entry) (t : Txn) (k : ℕ) (writes : List (Item × ℤ)) → k ≡ stamp (noted h) t → Placed w h → is_running (noted h) t ≡ true →
    All (λ c. Fits c.1 (writing t k writes)) (controllers (in_force w (noted h)) (noted h))
commits_fit w h t k writes same placed run = subst (λ j. All (λ c. Fits c.1 (writing t j writes)) (controllers (in_force w (noted h)) (noted h))) (sym same) (placed_commits_fit w h placed t writes run)

-- the list of those that wait is that of the history
pub as_waiting : {V : Type 0} {D : V → Type 0} {say : Says V D} {w : Workload} {h : List Entry} {locks : faillocks.Parts} {waits : List (Txn × Request)} {eras : Eras V D} →
    PartsStand say w h locks waits eras → PartsStand say w h locks (waiting (noted h)) eras
as_waiting s = record { asked = s.asked; locked = s.locked; waited = refl }

-- kept and kept again
pub kept : {V : Type 0} {D : V → Type 0} (say : Says V D) (eras : Eras V D) → AreKept say eras eras
kept say eras = record { views = λ cs e. e; kinds = refl; structures = refl; since = refl; finished = refl }

pub kept_on : {V : Type 0} {D : V → Type 0} {say : Says V D} {a b c : Eras V D} → AreKept say a b → AreKept say b c → AreKept say a c
kept_on k l = record {
  views = λ cs e. l.views cs (k.views cs e);
  kinds = l.kinds ∙ k.kinds;
  structures = l.structures ∙ k.structures;
  since = l.since ∙ k.since;
  finished = l.finished ∙ k.finished;
}

-- and what stood for the history still stands for it
pub stands_on : {V : Type 0} {D : V → Type 0} {say : Says V D} {w : Workload} {h : List Entry} {locks : faillocks.Parts} {waits : List (Txn × Request)} {a b : Eras V D} →
    AreKept say a b → PartsStand say w h locks waits a → PartsStand say w h locks waits b
stands_on {w = w} {h = h} k s = record { asked = record { placed = s.asked.placed; views = k.views (controllers (in_force w (noted h)) (noted h)) s.asked.views }; locked = s.locked; waited = s.waited }

-- who waits at a place runs, and waits
pub runs_at : (p : List Noted) (waits : List (Txn × Request)) (k : ℕ) (r : Txn × Request) → waits ≡ waiting p → slice_get waits k ≡ Some r → is_running p r.0 ≡ true
runs_at p waits k r same found = waits_running p k r (subst (λ (rs : List (Txn × Request)). slice_get rs k ≡ Some r) same found)

pub waits_at : (p : List Noted) (waits : List (Txn × Request)) (k : ℕ) (r : Txn × Request) → waits ≡ waiting p → slice_get waits k ≡ Some r → is_waiting p r.0 ≡ true
waits_at p waits k r same found = waits_among p k r (subst (λ (rs : List (Txn × Request)). slice_get rs k ≡ Some r) same found)

-- what is answered to the request that waits at a place
pub at_place : (w : Workload) (p : List Noted) (waits : List (Txn × Request)) (k : ℕ) (r : Txn × Request) (o : Option Entry) →
    slice_get waits k ≡ Some r → o ≡ answer_commit w p r.0 r.1 → o ≡ option_and_then (λ (z : Txn × Request). answer_commit w p z.0 z.1) (slice_get waits k)
at_place w p waits k r o found answered = answered ∙ ap (option_and_then (λ (z : Txn × Request). answer_commit w p z.0 z.1)) (sym found)
