-- How the views in force grow by an entry, and that each controller may note it.
use Rattle.std.proofs.Common.{◌≡◌, ℕ, ◌+◌, ◌≤◌, ◌||◌, Bool, true, false, nat_lt, if◌then◌else◌, List, [], ◌∷◌, ◌++◌, length, arith, sym, ◌∙◌, ap, subst, refl, Option, Some, None, length-append}
use Rattle.std.specs.Prelude.{is_some}
use Rattle.std.specs.List.{All}
use Rattle.std.proofs.lemmas.Bool.{true≢false}
use Rattle.std.proofs.lemmas.Grind.{common_steps}
use Rattle.std.proofs.lemmas.List.Elements.{All-cons}
use Rattle.raid_base.specs.declared.names.Txn.{Txn}
use Rattle.raid_base.specs.declared.entry.Entry.{Entry}
use Rattle.raid_base.specs.declared.entry.Entry.TheVariants.{Read, Commit, SwitchOn, SwitchEnd}
use Rattle.raid_base.specs.declared.entry.Noted.{Noted}
use Rattle.raid_base.specs.declared.verdict.Kind.{Kind}
use Rattle.raid_base.specs.declared.verdict.Method.TheVariants.{Generic, Convert, Suffix}
use Rattle.raid_base.specs.declared.verdict.Verdict.TheVariants as verdicts
use Rattle.raid_base.specs.Names.{is_txn, has_txn}
use Rattle.raid_workload.specs.declared.workload.Workload.{Workload}
use Rattle.raid_rules.specs.Entries.{is_begin, is_read}
use Rattle.raid_rules.specs.History.{noted, add, next, stamp, has_ended, is_running}
use Rattle.raid_rules.specs.Last.{acts_by}
use Rattle.raid_rules.specs.Order.{IsInOrder, IsGranted, MayNote, AgreesOn}
use Rattle.raid_rules.specs.Verdicts.{Question, reading, writing, verdict_of}
use Rattle.raid_rules.specs.Views.{View, is_in, view_of}
use Rattle.raid_rules.proofs.Push.{same_txn}
use Rattle.raid_rules.proofs.ViewsOf.{view_push}
use Rattle.raid_legal.specs.InForce.{InForce, in_force, is_joint, is_over, turn, turn_end, past, newer, controllers, verdict}
use Rattle.raid_legal.specs.Forced.{forced}
use Rattle.raid_conflict.specs.Listed.{Extends}
use Rattle.raid_conflict.proofs.Extend.{before_last}
use Rattle.raid_switch.specs.Force.{grown, turns_nothing}
use Rattle.raid_serial.proofs.Facts.{Fact, each_grants, some_is, none_is}
use Rattle.raid_serial.proofs.Force.{in_force_push}
use Rattle.raid_serial.proofs.Ordered.{Ordered, ordered_add}
use Rattle.raid_serial.proofs.Real.{lt_true}
use Rattle.raid_serial.proofs.Views.{view_in_order, read_fits_view, commit_fits_view}
use Rattle.raid_placed.specs.Placed.{Placeable, Placed}
use Rattle.raid_placed.specs.Turned.{older}
use Rattle.raid_placed.proofs.Sent.{placed_fact, by_facts, forced_placeable}
use Rattle.raid_placed.proofs.Orderly.{placed_ordered}

-- no view in force begins after the number
pub record Bounds (f : InForce) (k : ℕ) : Type 0 where
  pub low : f.view.cut ≤ k
  pub low_too : (c : Kind × ℕ) → f.next ≡ Some c → c.1 ≤ k

ended_bounds : (f : InForce) (k at : ℕ) (o : Option (Kind × ℕ)) → f.next ≡ o → Bounds f k → k ≤ at → Bounds (turn_end f o) at
ended_bounds f k at None q b l = record { low = (let z : f.view.cut ≤ k = b.low in omega arith); low_too = λ c e. (let z : c.1 ≤ k = b.low_too c e in omega arith) }
ended_bounds f k at (Some d) q b l = record { low = (let z : d.1 ≤ k = b.low_too d q in omega arith); low_too = λ c e. absurd (none_is c e) }

later_bounds : (f : InForce) (k at : ℕ) → Bounds f k → k ≤ at → Bounds f at
later_bounds f k at b l = record { low = (let z : f.view.cut ≤ k = b.low in omega arith); low_too = λ c e. (let z : c.1 ≤ k = b.low_too c e in omega arith) }

turn_bounds : (w : Workload) (p : List Noted) (f : InForce) (k at : ℕ) (e : Entry) → Bounds f k → k ≤ at → Bounds (turn w p f at e) at
turn_bounds w p f k at (SwitchOn j to Generic) b l = record { low = (later_bounds f k at b l).low; low_too = (later_bounds f k at b l).low_too }
turn_bounds w p f k at (SwitchOn j to Convert) b l = record { low = omega arith; low_too = (later_bounds f k at b l).low_too }
turn_bounds w p f k at (SwitchOn j to Suffix) b l = record { low = (later_bounds f k at b l).low; low_too = λ c e. (let z : at ≡ c.1 = ap (λ d. d.1) (some_is (to, at) c e) in omega arith) }
turn_bounds w p f k at (SwitchEnd j) b l = ended_bounds f k at f.next refl b l
turn_bounds w p f k at other b l = later_bounds f k at b l

pub placed_bounds : (w : Workload) (h : List Entry) → Placed w h → Bounds (in_force w (noted h)) (length (noted h))
placed_bounds w = by_facts w (λ p. Bounds (in_force w p) (length p)) (record { low = omega arith; low_too = λ c e. absurd (none_is c e) }) more
  where
    more : (h : List Entry) (e : Entry) → Placed w h → Bounds (in_force w (noted h)) (length (noted h)) → Fact w (noted h) e → Bounds (in_force w (add (noted h) e)) (length (add (noted h) e))
    more h e l b f =
        let p : List Noted = noted h in
        subst (λ k. Bounds (in_force w (add p e)) k) (sym (length-append p (next p e ∷ [])))
        (subst (λ g. Bounds g (length p + 1)) (sym (in_force_push w p e)) (turn_bounds w p (in_force w p) (length p) (length p + 1) e b (omega arith)))

-- a view grows by each entry
in_past : (b c d : Bool) → b ≡ true → (b || c || d) ≡ true
in_past true c d q = refl
in_past false c d q = absurd (true≢false (sym q))

pub is_in_next : (v : View) (p : List Noted) (e : Entry) → v.cut ≤ length p → is_in v (next p e) ≡ true
is_in_next v p e low = in_past (nat_lt v.cut (length p + 1)) (is_begin (has_txn v.keep) e) (is_read (λ t x s. has_txn v.keep t) e) (lt_true v.cut (length p + 1) (omega (arith, low)))

pub grow_view : (v : View) (p : List Noted) (e : Entry) → v.cut ≤ length p → view_of v (add p e) ≡ view_of v p ++ next p e ∷ []
grow_view v p e low =
    view_push v p (next p e)
    ∙ ap (λ b. view_of v p ++ (if b then next p e ∷ [] else [])) (is_in_next v p e low)

grow_newer : (p : List Noted) (e : Entry) (o : Option (Kind × ℕ)) → ((c : Kind × ℕ) → o ≡ Some c → c.1 ≤ length p) → newer (add p e) o ≡ grown (next p e) (newer p o)
grow_newer p e None l = refl
grow_newer p e (Some c) l = ap (λ v. (c.0, v) ∷ []) (grow_view (past c.1) p e (l c refl))

grow_controllers : (f : InForce) (p : List Noted) (e : Entry) → Bounds f (length p) → controllers f (add p e) ≡ grown (next p e) (controllers f p)
grow_controllers f p e b =
    ap (λ v. (f.kind, v) ∷ newer (add p e) f.next) (grow_view f.view p e b.low)
    ∙ ap (λ cs. (f.kind, view_of f.view p ++ next p e ∷ []) ∷ cs) (grow_newer p e f.next b.low_too)

-- an entry that is no switch's changes nothing else
turn_same : (w : Workload) (p : List Noted) (f : InForce) (k : ℕ) (e : Entry) → turns_nothing e ≡ true → turn w p f k e ≡ f
turn_same w p f k (SwitchOn j to method) q = absurd (true≢false (sym q))
turn_same w p f k (SwitchEnd j) q = absurd (true≢false (sym q))
turn_same w p f k other q = refl

pub placed_grow : (w : Workload) (h : List Entry) (e : Entry) → Placed w h → turns_nothing e ≡ true →
    controllers (in_force w (add (noted h) e)) (add (noted h) e) ≡ grown (next (noted h) e) (controllers (in_force w (noted h)) (noted h))
placed_grow w h e l q =
    let p : List Noted = noted h in
    ap (λ f. controllers f (add p e)) (in_force_push w p e ∙ turn_same w p (in_force w p) (length p + 1) e q)
    ∙ grow_controllers (in_force w p) p e (placed_bounds w h l)

pub placed_same : (w : Workload) (p : List Noted) (e : Entry) → turns_nothing e ≡ true → in_force w (add p e) ≡ in_force w p
placed_same w p e q = in_force_push w p e ∙ turn_same w p (in_force w p) (length p + 1) e q

-- one controller alone
pub alone_next : (o : Option (Kind × ℕ)) → is_some o ≡ false → o ≡ None
alone_next None q = refl
alone_next (Some c) q = absurd (true≢false q)

pub alone_controllers : (f : InForce) (p : List Noted) → is_joint f ≡ false → controllers f p ≡ older f p ∷ []
alone_controllers f p q = ap (λ o. older f p ∷ newer p o) (alone_next f.next q)

-- what an entry does while nobody is left to be aborted
module _ (w : Workload) (p : List Noted) (o : Ordered p) where
  granted : (kind : Kind) (v : View) (e : Entry) → Fact w p e → ((q : Question) → verdict w p q ≡ verdicts.Grant → verdict_of kind (view_of v p) q ≡ verdicts.Grant) → IsGranted kind (view_of v p) (next p e).stamp e
  granted kind v (Read t x site) f g = ((read_fits_view v p o t x f.0).goes_on, g (reading t (stamp p t) x) f.2)
  granted kind v (Commit t request applied) f g = ((commit_fits_view v p o t request.writes f.0).goes_on, g (writing t (stamp p t) request.writes) f.2)
  granted kind v other f g = tt

  may_one : (kind : Kind) (v : View) (e : Entry) → Fact w p e → v.cut ≤ length p → ((q : Question) → verdict w p q ≡ verdicts.Grant → verdict_of kind (view_of v p) q ≡ verdicts.Grant) → MayNote kind (view_of v p) (next p e)
  may_one kind v e f low g = record {
    in_order = subst IsInOrder (grow_view v p e low) (view_in_order v (add p e) (ordered_add w p o e f));
    granted = granted kind v e f g;
  }

  may_newer : (e : Entry) → Fact w p e → (next_one : Option (Kind × ℕ)) → ((c : Kind × ℕ) → next_one ≡ Some c → c.1 ≤ length p) →
      ((c : Kind × ℕ) → next_one ≡ Some c → (q : Question) → verdict w p q ≡ verdicts.Grant → verdict_of c.0 (view_of (past c.1) p) q ≡ verdicts.Grant) → All (λ c. MayNote c.0 c.1 (next p e)) (newer p next_one)
  may_newer e f None low g = λ k d l. absurd (omega (arith, l))
  may_newer e f (Some c) low g = All-cons (λ d. MayNote d.0 d.1 (next p e)) (c.0, view_of (past c.1) p) [] (may_one c.0 (past c.1) e f (low c refl) (g c refl)) (λ k d l. absurd (omega (arith, l)))

  may_all : (e : Entry) → Fact w p e → Bounds (in_force w p) (length p) → All (λ c. MayNote c.0 c.1 (next p e)) (controllers (in_force w p) p)
  may_all e f b =
      All-cons (λ d. MayNote d.0 d.1 (next p e)) (older (in_force w p) p) (newer p (in_force w p).next)
      (may_one (in_force w p).kind (in_force w p).view e f b.low (λ q g. (each_grants w p q g).0))
      (may_newer e f (in_force w p).next b.low_too (λ c s q g. (each_grants w p q g).1 c s))

  -- who reads or commits has not ended
  still_on : (t : Txn) → is_running p t ≡ true → has_ended p t ≡ false
  still_on t run = grind (arith, common_steps, run)

  goes_on : (e : Entry) → Fact w p e → (t : Txn) → acts_by t e ≡ true → has_ended p t ≡ false
  goes_on (Read u x site) f t a = still_on t (subst (λ z. is_running p z ≡ true) (same_txn u t (left (is_txn t u) a)) f.0)
    where
      left : (b : Bool) → (b || false) ≡ true → b ≡ true
      left true e = refl
      left false e = e
  goes_on (Commit u request applied) f t a = still_on t (subst (λ z. is_running p z ≡ true) (same_txn u t a) f.0)
  goes_on other f t a = absurd (true≢false (sym a))

  extends : (e : Entry) → Fact w p e → Extends p (next p e)
  extends e f = record {
    above = o.bounded;
    stamped = λ t here k d l own. (before_last (AgreesOn t) p (next p e) ((ordered_add w p o e f).in_order.agrees t) k d l own here).0;
    goes_on = goes_on e f;
  }

pub placed_may_note : (w : Workload) (h : List Entry) (e : Entry) → Placed w h → Placeable w (noted h) e → All (λ c. MayNote c.0 c.1 (next (noted h) e)) (controllers (in_force w (noted h)) (noted h))
placed_may_note w h e l g = may_all w (noted h) (placed_ordered w h l) e (placed_fact w (noted h) e g) (placed_bounds w h l)

pub placed_extends : (w : Workload) (h : List Entry) (e : Entry) → Placed w h → Placeable w (noted h) e → Extends (noted h) (next (noted h) e)
placed_extends w h e l g = extends w (noted h) (placed_ordered w h l) e (placed_fact w (noted h) e g)

-- the end of a suffix-sufficient switch
over_some : (w : Workload) (p : List Noted) (o : Option (Kind × ℕ)) → is_over w p o ≡ true → is_some o ≡ true
over_some w p None q = absurd (true≢false (sym q))
over_some w p (Some c) q = refl

ended_grow : (f : InForce) (p : List Noted) (e : Entry) (o : Option (Kind × ℕ)) → is_some o ≡ true → ((c : Kind × ℕ) → o ≡ Some c → c.1 ≤ length p) → controllers (turn_end f o) (add p e) ≡ grown (next p e) (newer p o)
ended_grow f p e None q l = absurd (true≢false (sym q))
ended_grow f p e (Some c) q l = grow_newer p e (Some c) l

pub placed_joint : (w : Workload) (h : List Entry) (k : ℕ) → Placed w h → forced w (noted h) ≡ Some (SwitchEnd k) → is_joint (in_force w (noted h)) ≡ true
placed_joint w h k l q = over_some w (noted h) (in_force w (noted h)).next (placed_fact w (noted h) (SwitchEnd k) (forced_placeable w (noted h) (SwitchEnd k) q))

pub placed_ends : (w : Workload) (h : List Entry) (k : ℕ) → Placed w h → forced w (noted h) ≡ Some (SwitchEnd k) →
    controllers (in_force w (add (noted h) (SwitchEnd k))) (add (noted h) (SwitchEnd k)) ≡ grown (next (noted h) (SwitchEnd k)) (newer (noted h) (in_force w (noted h)).next)
placed_ends w h k l q =
    let p : List Noted = noted h in
    let e : Entry = SwitchEnd k in
    ap (λ f. controllers f (add p e)) (in_force_push w p e)
    ∙ ended_grow (in_force w p) p e (in_force w p).next (placed_joint w h k l q) (placed_bounds w h l).low_too
