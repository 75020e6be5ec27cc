-- A placed history is in order, its transactions are the workload's, and what follows may follow.
use Rattle.std.proofs.Common.{◌≡◌, ℤ, arith, inl, inr, ◌||◌, Bool, true, false, not, List, [], ◌∷◌, sym, ap, subst, refl}
use Rattle.std.specs.List.{All, filter}
use Rattle.std.specs.Prelude.{cond}
use Rattle.std.proofs.lemmas.Bool.{true≢false}
use Rattle.std.proofs.lemmas.Grind.{common_steps}
use Rattle.raid_base.specs.declared.names.Txn.{Txn}
use Rattle.raid_base.specs.declared.names.Item.{Item}
use Rattle.raid_base.specs.declared.entry.Entry.{Entry}
use Rattle.raid_base.specs.declared.entry.Entry.TheVariants.{Begin, Read, Wait, Commit, Abort, Ack, SwitchOn, SwitchEnd, Down, Up, Clear}
use Rattle.raid_base.specs.declared.entry.Noted.{Noted}
use Rattle.raid_base.specs.Names.{is_txn, has_txn}
use Rattle.raid_workload.specs.declared.workload.Workload.{Workload}
use Rattle.raid_workload.specs.Parts.{txns}
use Rattle.raid_rules.specs.History.{noted, add, next, stamp, has_begun, is_running}
use Rattle.raid_rules.specs.Order.{IsInOrder, IsWhole, Fits}
use Rattle.raid_rules.specs.Verdicts.{reading, writing}
use Rattle.raid_rules.proofs.Push.{same_txn, has_begun_push}
use Rattle.raid_legal.specs.Seen.{running}
use Rattle.raid_legal.specs.InForce.{in_force, controllers}
use Rattle.raid_history.specs.Tables.{may_follow}
use Rattle.raid_serial.proofs.Facts.{Fact}
use Rattle.raid_serial.proofs.Ordered.{Ordered, ordered_add, ordered_none, run_begun}
use Rattle.raid_serial.proofs.Translate.{cases_true}
use Rattle.raid_serial.proofs.Tamed.{begun_fresh, keep_txn}
use Rattle.raid_serial.proofs.Views.{same_tests, view_in_order, read_fits_view, commit_fits_view, each_controller}
use Rattle.raid_placed.specs.Placed.{Placeable, Placed, AreKnown}
use Rattle.raid_placed.proofs.Sent.{placed_fact, by_facts}

pub placed_ordered : (w : Workload) (h : List Entry) → Placed w h → Ordered (noted h)
placed_ordered w = by_facts w Ordered ordered_none (λ h e l o f. ordered_add w (noted h) o e f)

pub placed_in_order : (w : Workload) (h : List Entry) → Placed w h → IsInOrder (noted h)
placed_in_order w h l = (placed_ordered w h l).in_order

pub placed_whole : (w : Workload) (h : List Entry) → Placed w h → IsWhole (noted h)
placed_whole w h l = (placed_ordered w h l).whole

-- those that have begun
pub placed_known : (w : Workload) (h : List Entry) → Placed w h → AreKnown w (noted h)
placed_known w = by_facts w (AreKnown w) (λ t q. absurd (true≢false (sym q))) more
  where
    more : (h : List Entry) (e : Entry) → Placed w h → AreKnown w (noted h) → Fact w (noted h) e → AreKnown w (add (noted h) e)
    more h e l known f t q = elim (cases_true (has_begun (noted h) t)) [
      | inl b ↦ known t b
      | inr b ↦ (begun_fresh w (noted h) e t f (grind (arith, common_steps, q, b, has_begun_push (noted h) (next (noted h) e) t))).0
    ]

-- who is left by a filter passes it
pub txn_kept : (f : Txn → Bool) (ts : List Txn) (t : Txn) → has_txn (filter f ts) t ≡ true → f t ≡ true
txn_kept f [] t h = absurd (true≢false (sym h))
txn_kept f (x ∷ xs) t h = kept_step (f x) refl h (txn_kept f xs t)
  where
    here_step : (b : Bool) → is_txn t x ≡ b → f x ≡ true → (has_txn (filter f xs) t ≡ true → f t ≡ true) → (b || has_txn (filter f xs) t) ≡ true → f t ≡ true
    here_step true q e rest h = subst (λ z. f z ≡ true) (same_txn x t q) e
    here_step false q e rest h = rest h

    kept_step : (b : Bool) → f x ≡ b → has_txn (cond b (x ∷ filter f xs) (filter f xs)) t ≡ true → (has_txn (filter f xs) t ≡ true → f t ≡ true) → f t ≡ true
    kept_step true e h rest = here_step (is_txn t x) refl e rest h
    kept_step false e h rest = rest h

-- and is in the list
pub txn_among : (f : Txn → Bool) (ts : List Txn) (t : Txn) → has_txn (filter f ts) t ≡ true → has_txn ts t ≡ true
txn_among f [] t k = k
txn_among f (x ∷ xs) t k = step (f x) (txn_among f xs t) k
  where
    there : (b : Bool) (c d : Bool) → (c ≡ true → d ≡ true) → (b || c) ≡ true → (b || d) ≡ true
    there true c d r q = refl
    there false c d r q = r q

    beside : (b d : Bool) → d ≡ true → (b || d) ≡ true
    beside true d q = refl
    beside false d q = q

    step : (c : Bool) → (has_txn (filter f xs) t ≡ true → has_txn xs t ≡ true) → has_txn (cond c (x ∷ filter f xs) (filter f xs)) t ≡ true → has_txn (x ∷ xs) t ≡ true
    step true rest k = there (is_txn t x) (has_txn (filter f xs) t) (has_txn xs t) rest k
    step false rest k = beside (is_txn t x) (has_txn xs t) (rest k)

pub known_running : (w : Workload) (p : List Noted) → AreKnown w p → (t : Txn) → has_txn (running w p) t ≡ is_running p t
known_running w p known t =
    same_tests (has_txn (running w p) t) (is_running p t) (txn_kept (is_running p) (txns w) t)
    (λ run. keep_txn (is_running p) (txns w) t run (known t (run_begun p t run)))

pub placed_running : (w : Workload) (h : List Entry) → Placed w h → (t : Txn) → has_txn (running w (noted h)) t ≡ is_running (noted h) t
placed_running w h l = known_running w (noted h) (placed_known w h l)

-- a transaction begins once, and acts while it runs
fact_follows : (w : Workload) (p : List Noted) (e : Entry) → Fact w p e → may_follow p e ≡ true
fact_follows w p (Begin t home) f = ap not f.1
fact_follows w p (Read t x site) f = f.0
fact_follows w p (Wait t request) f = f
fact_follows w p (Commit t request applied) f = f.0
fact_follows w p (Abort t cause act) f = f
fact_follows w p (Ack t site) f = refl
fact_follows w p (SwitchOn k kind method) f = refl
fact_follows w p (SwitchEnd k) f = refl
fact_follows w p (Down site) f = refl
fact_follows w p (Up site session) f = refl
fact_follows w p (Clear site x version) f = refl

pub placeable_follows : (w : Workload) (p : List Noted) (e : Entry) → Placeable w p e → may_follow p e ≡ true
placeable_follows w p e g = fact_follows w p e (placed_fact w p e g)

-- the views in force
pub placed_views : (w : Workload) (h : List Entry) → Placed w h → All (λ c. IsInOrder c.1) (controllers (in_force w (noted h)) (noted h))
placed_views w h l = each_controller IsInOrder w (noted h) (λ v. view_in_order v (noted h) (placed_ordered w h l))

pub placed_reads_fit : (w : Workload) (h : List Entry) → Placed w h → (t : Txn) (x : Item) → is_running (noted h) t ≡ true → All (λ c. Fits c.1 (reading t (stamp (noted h) t) x)) (controllers (in_force w (noted h)) (noted h))
placed_reads_fit w h l t x run = each_controller (λ view. Fits view (reading t (stamp (noted h) t) x)) w (noted h) (λ v. read_fits_view v (noted h) (placed_ordered w h l) t x run)

pub placed_commits_fit : (w : Workload) (h : List Entry) → Placed w h → (t : Txn) (writes : List (Item × ℤ)) → is_running (noted h) t ≡ true → All (λ c. Fits c.1 (writing t (stamp (noted h) t) writes)) (controllers (in_force w (noted h)) (noted h))
placed_commits_fit w h l t writes run = each_controller (λ view. Fits view (writing t (stamp (noted h) t) writes)) w (noted h) (λ v. commit_fits_view v (noted h) (placed_ordered w h l) t writes run)
