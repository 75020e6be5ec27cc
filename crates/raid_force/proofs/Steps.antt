-- Each entry keeps the force in step.
use Rattle.std.proofs.Common.{◌≡◌, ℕ, ◌+◌, ◌<◌, ◌≤◌, Bool, true, false, not, ◌&&◌, List, [], ◌∷◌, ◌++◌, length, filter, Option, Some, None, if◌then◌else◌, refl, sym, ap, subst, ◌∙◌, arith}
use Rattle.std.specs.Prelude.{is_some, option_to_list, nat_eq}
use Rattle.std.proofs.lemmas.Bool.{true≢false}
use Rattle.raid_base.specs.declared.names.Txn.{Txn}
use Rattle.raid_base.specs.declared.entry.Entry.{Entry}
use Rattle.raid_base.specs.declared.entry.Entry.TheVariants.{SwitchOn, SwitchEnd}
use Rattle.raid_base.specs.declared.entry.Noted.{Noted}
use Rattle.raid_base.specs.declared.verdict.Kind.{Kind}
use Rattle.raid_base.specs.declared.verdict.Kind.TheVariants.{Lock, Stamp, Valid, Graph}
use Rattle.raid_base.specs.declared.verdict.Method.{Method}
use Rattle.raid_base.specs.declared.verdict.Method.TheVariants.{Generic, Convert, Suffix}
use Rattle.raid_base.specs.declared.verdict.Structure.{Structure}
use Rattle.raid_base.specs.declared.verdict.Structure.TheVariants.{Native, GenericState}
use Rattle.raid_workload.specs.declared.workload.Workload.{Workload}
use Rattle.raid_workload.specs.Rules.{is_kind}
use Rattle.raid_rules.specs.History.{noted, add, next, stamp_at}
use Rattle.raid_rules.specs.Views.{view_of, is_backward}
use Rattle.raid_rules.proofs.Places.{noted_length}
use Rattle.raid_rules.proofs.Push.{noted_push}
use Rattle.raid_legal.specs.Seen.{running}
use Rattle.raid_legal.specs.InForce.{InForce, in_force, is_joint, controllers, newer, turn_end, off_list}
use Rattle.raid_control.specs.Carried.{is_generic}
use Rattle.raid_control.specs.Racked.{place}
use Rattle.raid_serial.proofs.Facts.{some_is, none_is}
use Rattle.raid_serial.proofs.Force.{in_force_push}
use Rattle.raid_switch.specs.Force.{Each, grown, turns_nothing}
use Rattle.raid_placed.specs.Placed.{Placeable, Placed}
use Rattle.raid_placed.specs.Turned.{older, turned}
use Rattle.raid_placed.proofs.Sent.{placed_fact}
use Rattle.raid_placed.proofs.Converted.{forced_alone, forced_turned}
use Rattle.raid_placed.proofs.Growth.{placed_grow, placed_same, placed_joint, placed_ends}
use Rattle.raid_force.specs.declared.force.Force.{Force}
use Rattle.raid_boxed.specs.Boxed.{Boxed, Says, kind_by, structure_by, StandsBy}
use Rattle.raid_force.specs.Lasting.{counts, lasting, wanted}
use Rattle.raid_force.specs.Force.{AreRuling, Racked, InStep, in_all, put_on}
use Rattle.raid_force.proofs.Racked.{one, all_alone}
use Rattle.raid_force.proofs.Coming.{comes_on, placeable_on, placeable_end}

-- the number and the stamp are those of the entry that comes next
pub next_is : (h : List Entry) (e : Entry) (at stamp : ℕ) → at ≡ length h + 1 → stamp ≡ stamp_at (noted h) at e → (let n : Noted = record { at = at; stamp = stamp; entry = e } in n) ≡ next (noted h) e
next_is h e at stamp number stamped = same at stamp (length (noted h) + 1) (stamp_at (noted h) (length (noted h) + 1) e) here (stamped ∙ ap (λ k. stamp_at (noted h) k e) here)
  where
    here : at ≡ length (noted h) + 1
    here = number ∙ ap (λ k. k + 1) (sym (noted_length h))

    same : (a s b t : ℕ) → a ≡ b → s ≡ t → (let n : Noted = record { at = a; stamp = s; entry = e } in n) ≡ (let n : Noted = record { at = b; stamp = t; entry = e } in n)
    same a s b t p q = ap (λ x. let n : Noted = record { at = x; stamp = s; entry = e } in n) p ∙ ap (λ x. let n : Noted = record { at = b; stamp = x; entry = e } in n) q

-- what a SwitchOn brings into force: how many switches there were, and whom it aborts
nobody : (test : Txn → Bool) (ts : List Txn) → filter (λ t. false && test t) ts ≡ []
nobody test [] = refl
nobody test (t ∷ ts) = nobody test ts

on_off : (w : Workload) (p : List Noted) (k : ℕ) (to : Kind) (method : Method) → (in_force w (add p (SwitchOn k to method))).off ≡ off_list w p method to
on_off w p k to Generic = ap (λ (f : InForce). f.off) (in_force_push w p (SwitchOn k to Generic))
on_off w p k to Convert = ap (λ (f : InForce). f.off) (in_force_push w p (SwitchOn k to Convert))
on_off w p k to Suffix = ap (λ (f : InForce). f.off) (in_force_push w p (SwitchOn k to Suffix)) ∙ sym (nobody (is_backward p) (running w p))

on_switches : (w : Workload) (p : List Noted) (k : ℕ) (to : Kind) (method : Method) → (in_force w (add p (SwitchOn k to method))).switches ≡ (in_force w p).switches + 1
on_switches w p k to Generic = ap (λ (f : InForce). f.switches) (in_force_push w p (SwitchOn k to Generic))
on_switches w p k to Convert = ap (λ (f : InForce). f.switches) (in_force_push w p (SwitchOn k to Convert))
on_switches w p k to Suffix = ap (λ (f : InForce). f.switches) (in_force_push w p (SwitchOn k to Suffix))

-- and which number its second controller came with
on_since : (w : Workload) (p : List Noted) (k since : ℕ) (to : Kind) (method : Method) → is_joint (in_force w p) ≡ false → (method ≡ Suffix → since ≡ length p + 1) →
    (c : Kind × ℕ) → (in_force w (add p (SwitchOn k to method))).next ≡ Some c → since ≡ c.1
on_since w p k since to Generic alone q c e = absurd (true≢false (sym (ap is_some (sym (ap (λ (f : InForce). f.next) (in_force_push w p (SwitchOn k to Generic))) ∙ e)) ∙ alone))
on_since w p k since to Convert alone q c e = absurd (true≢false (sym (ap is_some (sym (ap (λ (f : InForce). f.next) (in_force_push w p (SwitchOn k to Convert))) ∙ e)) ∙ alone))
on_since w p k since to Suffix alone q c e = q refl ∙ ap (λ (d : Kind × ℕ). d.1) (some_is (to, length p + 1) c (sym (ap (λ (f : InForce). f.next) (in_force_push w p (SwitchOn k to Suffix))) ∙ e))

turned_is : (method : Method) (to : Kind) (off : List Txn) (n : Noted) (old : Kind × List Noted) → turned method to off n old ≡ put_on method to off (old.0, old.1 ++ n ∷ [])
turned_is Generic to off n old = refl
turned_is Convert to off n old = refl
turned_is Suffix to off n old = refl

-- and an end
end_same : (f : InForce) (o : Option (Kind × ℕ)) → ((turn_end f o).off ≡ f.off) × ((turn_end f o).switches ≡ f.switches)
end_same f None = (refl, refl)
end_same f (Some c) = (refl, refl)

end_alone : (f : InForce) (o : Option (Kind × ℕ)) → f.next ≡ o → (turn_end f o).next ≡ None
end_alone f None q = q
end_alone f (Some c) q = refl

some_newer : (p : List Noted) (o : Option (Kind × ℕ)) → is_some o ≡ true → (c : Kind × List Noted) × (newer p o ≡ c ∷ [])
some_newer p None q = absurd (true≢false (sym q))
some_newer p (Some c) q = ((c.0, _), refl)

-- a kind that serves where another one is wanted is that
same_place : (a b : Kind) → nat_eq (place a) (place b) ≡ is_kind b a
same_place Lock Lock = refl
same_place Lock Stamp = refl
same_place Lock Valid = refl
same_place Lock Graph = refl
same_place Stamp Lock = refl
same_place Stamp Stamp = refl
same_place Stamp Valid = refl
same_place Stamp Graph = refl
same_place Valid Lock = refl
same_place Valid Stamp = refl
same_place Valid Valid = refl
same_place Valid Graph = refl
same_place Graph Lock = refl
same_place Graph Stamp = refl
same_place Graph Valid = refl
same_place Graph Graph = refl

-- one of another kind counts for nothing where a native one is wanted, and one of the generic structure for one
counts_little : (to : Kind) (s : Structure) (once : Bool) (k : Kind) (t : Structure) → is_kind k to ≡ false → counts to s once k t < wanted s
counts_little to Native true k t q = omega arith
counts_little to Native false k t q = let h : counts to Native false k t ≡ 0 = ap (λ b. if b && not (is_generic t) then 1 else 0) (same_place to k ∙ q) in omega (arith, h)
counts_little to GenericState true k t q = omega arith
counts_little to GenericState false k t q = go (is_generic t)
  where
    go : (b : Bool) → (if b then 1 else 0) < 2
    go true = omega arith
    go false = omega arith

module _ {V : Type 0} {D : V → Type 0} (say : Says V D) (f : Force V D) where
  -- one in force, and two
  pub ruling_alone : (c : Kind × List Noted) → AreRuling say f (c ∷ []) → f.eras.second ≡ None
  ruling_alone c r = go f.eras.second r
    where
      go : (o : Option (Boxed V D)) → Each (kind_by say) (StandsBy say) (f.eras.first ∷ option_to_list o) (c ∷ []) → o ≡ None
      go None e = refl
      go (Some b) e = absurd e.2

  pub ruling_joint : (c d : Kind × List Noted) → AreRuling say f (c ∷ d ∷ []) → is_some f.eras.second ≡ true
  ruling_joint c d r = go f.eras.second r
    where
      go : (o : Option (Boxed V D)) → Each (kind_by say) (StandsBy say) (f.eras.first ∷ option_to_list o) (c ∷ d ∷ []) → is_some o ≡ true
      go None e = absurd e.2
      go (Some b) e = refl

  -- where one of another kind is in force, one that serves is in the rack
  pub one_serves : (c : Kind × List Noted) (s : Structure) (to : Kind) → Racked say s f → AreRuling say f (c ∷ []) → is_kind c.0 to ≡ false → 0 < lasting say f.rack.slots.items to s
  one_serves c s to r e q =
      let enough : wanted s ≤ in_all say f to s = r.enough to s in
      let all : in_all say f to s ≡ lasting say f.rack.slots.items to s + one say to s f.first_once f.eras.first + 0 = all_alone say f to s (ruling_alone c e) in
      let little : one say to s f.first_once f.eras.first < wanted s = counts_little to s f.first_once (kind_by say f.eras.first) (structure_by say f.eras.first) (ap (λ k. is_kind k to) e.0 ∙ q) in
      omega (arith, enough, all, little)

module _ {V : Type 0} {D : V → Type 0} (say : Says V D) (w : Workload) (h : List Entry) (l : Placed w h) where
  abbrev p : List Noted
  p = noted h

  -- after a SwitchOn
  pub on_in_step : (g : Force V D) (k : ℕ) (to : Kind) (method : Method) → Placeable w p (SwitchOn k to method) →
      AreRuling say g (put_on method to (off_list w p method to) ((in_force w p).kind, view_of (in_force w p).view p ++ next p (SwitchOn k to method) ∷ [])) →
      g.off ≡ off_list w p method to → g.switches ≡ k → (method ≡ Suffix → g.eras.since ≡ length p + 1) → InStep say w g (noted (h ++ SwitchOn k to method ∷ []))
  on_in_step g k to method goes ruling off switches since =
      subst (InStep say w g) (sym (noted_push h (SwitchOn k to method))) (record {
        views = subst (AreRuling say g) (sym (turned_is method to (off_list w p method to) (next p (SwitchOn k to method)) (older (in_force w p) p)) ∙ sym (forced_turned w h k to method l (placeable_on w p k to method goes))) ruling;
        off = off ∙ sym (on_off w p k to method);
        switches = switches ∙ (comes_on w h k to method l goes).number ∙ sym (on_switches w p k to method);
        since = on_since w p k g.eras.since to method (placed_fact w p (SwitchOn k to method) goes).1 since;
      })

  -- after a SwitchEnd
  pub end_in_step : (f g : Force V D) (k : ℕ) → Placeable w p (SwitchEnd k) → InStep say w f p →
      AreRuling say g (grown (next p (SwitchEnd k)) (newer p (in_force w p).next)) → g.off ≡ f.off → g.switches ≡ f.switches → InStep say w g (noted (h ++ SwitchEnd k ∷ []))
  end_in_step f g k goes before ruling off switches =
      let kept = end_same (in_force w p) (in_force w p).next in
      subst (InStep say w g) (sym (noted_push h (SwitchEnd k))) (record {
        views = subst (AreRuling say g) (sym (placed_ends w h k l (placeable_end w p k goes))) ruling;
        off = off ∙ before.off ∙ sym (ap (λ (f : InForce). f.off) (in_force_push w p (SwitchEnd k)) ∙ kept.0);
        switches = switches ∙ before.switches ∙ sym (ap (λ (f : InForce). f.switches) (in_force_push w p (SwitchEnd k)) ∙ kept.1);
        since = λ c e. absurd (none_is c (sym (ap (λ (f : InForce). f.next) (in_force_push w p (SwitchEnd k)) ∙ end_alone (in_force w p) (in_force w p).next refl) ∙ e));
      })

  -- after any other entry
  pub other_in_step : (f g : Force V D) (e : Entry) → turns_nothing e ≡ true → InStep say w f p → AreRuling say g (grown (next p e) (controllers (in_force w p) p)) → g.off ≡ f.off → g.switches ≡ f.switches → g.eras.since ≡ f.eras.since →
      InStep say w g (noted (h ++ e ∷ []))
  other_in_step f g e quiet before ruling off switches since =
      let same = placed_same w p e quiet in
      subst (InStep say w g) (sym (noted_push h e)) (record {
        views = subst (AreRuling say g) (sym (placed_grow w h e l quiet)) ruling;
        off = off ∙ before.off ∙ sym (ap (λ (f : InForce). f.off) same);
        switches = switches ∙ before.switches ∙ sym (ap (λ (f : InForce). f.switches) same);
        since = λ c e. since ∙ before.since c (sym (ap (λ (f : InForce). f.next) same) ∙ e);
      })

  -- what is in force where a switch comes on, and where one ends
  pub old_alone : (f : Force V D) (k : ℕ) (to : Kind) (method : Method) → Placeable w p (SwitchOn k to method) → InStep say w f p → AreRuling say f (older (in_force w p) p ∷ [])
  old_alone f k to method goes s = subst (AreRuling say f) (forced_alone w h k to method l (placeable_on w p k to method goes)) s.views

  pub both_there : (k : ℕ) → Placeable w p (SwitchEnd k) → (c : Kind × List Noted) × (newer p (in_force w p).next ≡ c ∷ [])
  both_there k goes = some_newer p (in_force w p).next (placed_joint w h k l (placeable_end w p k goes))
