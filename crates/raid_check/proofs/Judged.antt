-- What tests say of a report.
use Rattle.std.proofs.Common.{◌≡◌, ℕ, ◌+◌, ◌-◌, Bool, true, false, List, [], ◌∷◌, ◌++◌, Option, Some, None, map, take, length, true≢false, refl, ap, sym, subst, arith, ◌∙◌}
use Rattle.std.specs.Prelude.{ℤ, ◌==◌, not, ◌&&◌, ◌||◌, slice_get, if◌then◌else◌, ◌↔◌, IsTrue}
use Rattle.std.specs.Bool.{OnTrue}
use Rattle.std.specs.List.{list_all}
use Rattle.std.specs.Option.{option_map_or}
use Rattle.std.specs.Ordering.{int_eq}
use Rattle.std.proofs.lemmas.Bool.{and_parts, and_from, eqb-true, eq-eqb}
use Rattle.std.proofs.lemmas.Bool.Decides.{Decides-int_eq}
use Rattle.raid_base.specs.declared.names.Txn.{Txn}
use Rattle.raid_base.specs.declared.entry.Entry.{Entry}
use Rattle.raid_base.specs.declared.report.Report.{Report}
use Rattle.raid_base.specs.declared.entry.Noted.{Noted}
use Rattle.raid_workload.specs.declared.workload.Workload.{Workload}
use Rattle.raid_workload.specs.Parts.{txns, items}
use Rattle.raid_rules.specs.History.{noted, version}
use Rattle.raid_rules.specs.Conflict.{serial_order}
use Rattle.raid_legal.specs.Seen.{value_of, is_up, is_locked}
use Rattle.raid_legal.specs.Legal.{Legal, Allowed, Comes, Free, AnswersRead, Aborts, is_free, is_asked}
use Rattle.raid_legal.specs.Answers.{answer_read}
use Rattle.raid_rules.specs.declared.order.Order.{Order}
use Rattle.raid_rules.specs.declared.order.Order.TheVariants.{Cyclic}
use Rattle.raid_rules.specs.Committed.{CommittedEdge, IsOrderOf}
use Rattle.raid_rules.proofs.Cycle.{cycle_path}
use Rattle.raid_serial.proofs.Committed.{never_cycles}
use Rattle.raid_base.specs.declared.names.Item.{Item}
use Rattle.raid_base.specs.declared.names.Site.{Site}
use Rattle.raid_base.specs.declared.entry.Cause.{Cause}
use Rattle.raid_base.specs.declared.entry.Act.{Act}
use Rattle.raid_base.specs.declared.entry.Act.TheVariants as acts
use Rattle.raid_base.specs.declared.entry.Entry.TheVariants.{Abort, Read}
use Rattle.raid_base.specs.declared.report.CopyLine.{CopyLine}
use Rattle.raid_base.specs.Find.{first_of}
use Rattle.raid_base.specs.Names.{has_site}
use Rattle.raid_rules.specs.Sessions.{source_for}
use Rattle.raid_legal.specs.Forced.{forced}
use Rattle.raid_legal.specs.Serial as reports
use Rattle.raid_legal.specs.Serial.{Each, IsCurrent, places}
use Rattle.raid_legal.specs.Switched as ends
use Rattle.raid_legal.specs.Sound as all
use Rattle.raid_legal.proofs.Push.{legal_push}
use Rattle.raid_serial.proofs.Reports.{report_is_serial}
use Rattle.raid_serial.proofs.Switches.{legal_switched}
use Rattle.raid_check.specs.Replay.{IsQuiet, is_current}
use Rattle.raid_check.specs.Finding.{IsFirst}
use Rattle.raid_check.proofs.Once.{once_where_none_runs}

-- a test that fails tells that the fact doesn't hold, and one that is never passed is one of what never holds
pub refuted : {P : Type 0} (b : Bool) → (IsTrue b ↔ P) → b ≡ false → P → ⊥
refuted b iff q p = true≢false (sym (iff.1 p) ∙ q)

pub none_iff : {P : Type 0} → (P → ⊥) → IsTrue false ↔ P
none_iff f = (λ t. absurd (true≢false (sym t)), λ p. absurd (f p))

pub all_iff : {P : Type 0} → P → IsTrue true ↔ P
all_iff p = (λ t. p, λ q. refl)

-- an entry is allowed where it is the forced one, and else where it may come
pub forced_iff : (w : Workload) (p : List Noted) (e must : Entry) (b : Bool) → forced w p ≡ Some must → (IsTrue b ↔ must ≡ e) → IsTrue b ↔ Allowed w p e
forced_iff w p e must b q iff = (λ t. subst (Comes w p e) (sym q) (sym (iff.0 t)), λ a. iff.1 (sym (subst (Comes w p e) q a)))

pub free_iff : (w : Workload) (p : List Noted) (e : Entry) (b : Bool) → forced w p ≡ None → (IsTrue b ↔ Free w p e) → IsTrue b ↔ Allowed w p e
free_iff w p e b q iff = (λ t. subst (Comes w p e) (sym q) (iff.0 t), λ a. iff.1 (subst (Comes w p e) q a))

-- an entry is the answer to a read
pub read_iff : (w : Workload) (p : List Noted) (t : Txn) (x : Item) (answer e : Entry) (b : Bool) → is_free p t ≡ true → is_asked w p t x ≡ true → answer ≡ answer_read w p t x → (IsTrue b ↔ answer ≡ e) → IsTrue b ↔ AnswersRead w p t x e
read_iff w p t x answer e b free asked is iff = (λ q. (free, sym is ∙ iff.0 q, asked), λ a. iff.1 (is ∙ a.1))

-- the order of a legal history is whole
pub never_cyclic : (w : Workload) (h : List Entry) (order : Order) (ts : List Txn) → Legal w h → IsOrderOf (noted h) order → order ≡ Cyclic ts → ⊥
never_cyclic w h order ts l o q =
    let cycle : IsOrderOf (noted h) (Cyclic ts) = subst (IsOrderOf (noted h)) q o in
    let p = cycle_path (CommittedEdge (noted h)) ts cycle in
    never_cycles w h l p.0 p.1

-- the first entry that isn't allowed
pub first_refused : (w : Workload) (h : List Entry) (k : ℕ) (e : Entry) → Legal w (take k h) → take (k + 1) h ≡ take k h ++ e ∷ [] → (Allowed w (noted (take k h)) e → ⊥) → IsFirst w h (k + 1)
first_refused w h k e l more bad = record {
  before = subst (λ n. Legal w (take n h)) (let s : k ≡ k + 1 - 1 = omega arith in s) l;
  refused = λ m. bad ((legal_push w (take k h) e).0 (subst (Legal w) more m)).1;
}

-- nothing is left to do
pub finished_iff : (w : Workload) (h : List Entry) (b : Bool) → Legal w h → forced w (noted h) ≡ None → (IsTrue b ↔ IsQuiet w (noted h)) → IsTrue b ↔ ends.Finished w h
finished_iff w h b l none iff = (there, back)
  where
    there : IsTrue b → ends.Finished w h
    there t = let q = iff.0 t in record {
      unforced = none;
      ended = q.ended;
      once = once_where_none_runs w h (txns w) l q.ended;
      served = q.served;
      settled = q.settled;
      acked = q.acked;
    }

    back : ends.Finished w h → IsTrue b
    back f = iff.1 (record { ended = f.ended; served = f.served; settled = f.settled; acked = f.acked })

-- the report is serial
pub serial_iff : (w : Workload) (r : Report) (b : Bool) → Legal w r.entries → r.order ≡ serial_order (noted r.entries) → (IsTrue b ↔ r.finals ≡ map (λ x. (x, value_of w (noted r.entries) x)) (items w)) → IsTrue b ↔ reports.Serial w r
serial_iff w r b l order iff = (λ t. report_is_serial w r l order (iff.0 t), λ s. iff.1 s.finals)

-- all that is claimed of it
pub sound_of : (w : Workload) (r : Report) → Legal w r.entries → reports.Serial w r → reports.Copies w r → ends.Finished w r.entries → all.Sound w r
sound_of w r l s c f = record { legal = l; serial = s; copies = c; switched = legal_switched w r.entries l f.unforced; finished = f }

-- so for the entries that are answers to reads
pub aborts_read : (w : Workload) (p : List Noted) (t : Txn) (cause : Cause) (act : Act) (x : Item) (e : Entry) (b : Bool) → act ≡ acts.Read x → e ≡ Abort t cause act → (IsTrue b ↔ AnswersRead w p t x e) → IsTrue b ↔ Aborts w p t cause act
aborts_read w p t cause act x e b is same iff = subst (λ (a : Act). IsTrue b ↔ Aborts w p t cause a) (sym is) (subst (λ (z : Entry). IsTrue b ↔ AnswersRead w p t x z) (same ∙ ap (Abort t cause) is) iff)

pub free_read : (w : Workload) (p : List Noted) (t : Txn) (x : Item) (s : Site) (e : Entry) (b : Bool) → e ≡ Read t x s → (IsTrue b ↔ AnswersRead w p t x e) → IsTrue b ↔ Free w p e
free_read w p t x s e b is iff = subst (λ (z : Entry). IsTrue b ↔ Free w p z) (sym is) (subst (λ (z : Entry). IsTrue b ↔ AnswersRead w p t x z) is iff)

-- whether there is a source
source_none : (found : List Site) (home : Site) (b : Bool) → (if b then Some home else slice_get found 0) ≡ None → length found ≡ 0
source_none [] home b q = refl
source_none (s ∷ ss) home true q = absurd (cc q)
source_none (s ∷ ss) home false q = absurd (cc q)

pub no_source : (found : List Site) (home : Site) → source_for found home ≡ None → false ≡ not (length found == 0)
no_source found home q = let e = source_none found home (has_site found home) q in grind (arith, e)

pub some_source : (found : List Site) (home s : Site) → source_for found home ≡ Some s → true ≡ not (length found == 0)
some_source [] home s q = absurd (cc q)
some_source (r ∷ rs) home s q = let e : (length (r ∷ rs) == 0) ≡ false = grind arith in sym (ap not e)

-- each copy is current where the test says so
value_is : (o : Option ℤ) (v : ℤ) → option_map_or (λ u. int_eq u v) o false ≡ true → Some v ≡ o
value_is None v q = absurd (true≢false (sym q))
value_is (Some u) v q = ap Some (sym ((Decides-int_eq u v).0 q))

value_test : (o : Option ℤ) (v : ℤ) → Some v ≡ o → option_map_or (λ u. int_eq u v) o false ≡ true
value_test None v q = absurd (cc q)
value_test (Some u) v q = (Decides-int_eq u v).1 (cc q)

current_iff : (w : Workload) (p : List Noted) (finals : List (Item × ℤ)) (c : CopyLine) → IsTrue (is_current w p finals c) ↔ IsCurrent w p finals c
current_iff w p finals c = go (is_up w p c.site) (is_locked w p c.site c.item)
  where
    go : (up locked : Bool) → IsTrue (not up || locked || (option_map_or (λ v. int_eq v c.value) (first_of c.item finals) false && c.version == version p c.item)) ↔
        OnTrue (up && not locked) ((Some c.value ≡ first_of c.item finals) × (c.version ≡ version p c.item))
    go false locked = (λ t. tt, λ u. refl)
    go true true = (λ t. tt, λ u. refl)
    go true false = (
      λ t. let both = and_parts _ _ t in (value_is (first_of c.item finals) c.value both.0, eqb-true c.version (version p c.item) both.1),
      λ u. and_from _ _ (value_test (first_of c.item finals) c.value u.0) (eq-eqb c.version (version p c.item) u.1),
    )

each_iff : (w : Workload) (p : List Noted) (finals : List (Item × ℤ)) (cs : List CopyLine) → IsTrue (list_all (is_current w p finals) cs) ↔ Each (IsCurrent w p finals) cs
each_iff w p finals [] = (λ t. tt, λ u. refl)
each_iff w p finals (c ∷ cs) = (
  λ t. let both = and_parts _ _ t in ((current_iff w p finals c).0 both.0, (each_iff w p finals cs).0 both.1),
  λ u. and_from _ _ ((current_iff w p finals c).1 u.0) ((each_iff w p finals cs).1 u.1),
)

pub copies_iff : (w : Workload) (r : Report) (h : List Entry) (b : Bool) → h ≡ r.entries → map (λ (c : CopyLine). (c.site, c.item)) r.copies ≡ places w → b ≡ list_all (is_current w (noted h) r.finals) r.copies → IsTrue b ↔ reports.Copies w r
copies_iff w r h b is all same = (
  λ t. record { all = all; current = subst (λ (z : List Entry). Each (IsCurrent w (noted z) r.finals) r.copies) is ((each_iff w (noted h) r.finals r.copies).0 (sym same ∙ t)) },
  λ c. same ∙ (each_iff w (noted h) r.finals r.copies).1 (subst (λ (z : List Entry). Each (IsCurrent w (noted z) r.finals) r.copies) (sym is) c.current),
)

pub none_left : (ts : List Txn) → (length ts == 0) ≡ true → ts ≡ []
none_left [] e = refl
none_left (t ∷ ts) e = absurd (let z : ⊥ = grind (arith, e) in z)
