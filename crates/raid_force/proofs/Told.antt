-- The force once it has noted the next entry, and what is left to do then.
use Rattle.std.proofs.Common.{◌≡◌, ℕ, ◌+◌, ◌<◌, true, false, List, [], ◌∷◌, ◌++◌, length, None, refl, sym, ap, subst, ◌∙◌}
use Rattle.std.specs.Prelude.{is_some, AllPairs, Result, Ok, Err, IfOk}
use Rattle.std.specs.List.{All}
use Rattle.raid_base.specs.declared.names.Txn.{Txn}
use Rattle.raid_base.specs.declared.entry.Entry.{Entry}
use Rattle.raid_base.specs.declared.entry.Entry.TheVariants.{SwitchOn, SwitchEnd}
use Rattle.raid_base.specs.declared.entry.Noted.{Noted}
use Rattle.raid_base.specs.declared.verdict.Kind.{Kind}
use Rattle.raid_base.specs.declared.verdict.Method.{Method}
use Rattle.raid_base.specs.declared.verdict.Method.TheVariants.{Suffix}
use Rattle.raid_workload.specs.declared.workload.Workload.{Workload}
use Rattle.raid_workload.specs.Rules.{is_method_for}
use Rattle.raid_rules.specs.History.{noted, next, stamp_at, is_running, has_ended}
use Rattle.raid_rules.specs.Order.{IsInOrder, MayNote}
use Rattle.raid_rules.specs.Views.{view_of, abort_list}
use Rattle.raid_rules.proofs.Places.{noted_length}
use Rattle.raid_legal.specs.InForce.{in_force, controllers, newer, off_list}
use Rattle.raid_switch.specs.Force.{grown, turns_nothing}
use Rattle.raid_placed.specs.Placed.{Placeable, Placed}
use Rattle.raid_placed.specs.Turned.{older}
use Rattle.raid_placed.proofs.Converted.{forced_alone, forced_in_order}
use Rattle.raid_placed.proofs.Growth.{placed_may_note}
use Rattle.raid_placed.proofs.Backward.{forced_aborts, placed_running_on}
use Rattle.raid_placed.proofs.Listed.{placed_running_list}
use Rattle.raid_legal.specs.Seen.{running}
use Rattle.raid_base.specs.Names.{has_txn}
use Rattle.raid_force.specs.declared.force.Force.{Force}
use Rattle.raid_boxed.specs.Boxed.{Boxed, Says, StandsBy}
use Rattle.raid_force.specs.Lasting.{lasting}
use Rattle.raid_force.specs.Force.{AreRuling, Racked, InStep, put_on}
use Rattle.raid_force.proofs.Coming.{comes_on, placeable_on}
use Rattle.raid_force.proofs.Steps.{next_is, ruling_alone, ruling_joint, one_serves, on_in_step, end_in_step, other_in_step, both_there}

pub quiet : (e : Entry) → ((k : ℕ) (to : Kind) (method : Method) → e ≡ SwitchOn k to method → ⊥) → ((k : ℕ) → e ≡ SwitchEnd k → ⊥) → turns_nothing e ≡ true
quiet (SwitchOn k to method) on end = absurd (on k to method refl)
quiet (SwitchEnd k) on end = absurd (end k refl)
quiet other on end = refl

pub if_ok : {T E : Type 0} {P Q : T → Type 0} → (r : Result T E) → ((t : T) → P t → Q t) → IfOk r P → IfOk r Q
if_ok (Ok t) f h = f t h
if_ok (Err e) f h = h

-- whom the old controller tells that a switch aborts
pub aborts_so : {V : Type 0} {D : V → Type 0} (say : Says V D) (w : Workload) (h : List Entry) (f : Force V D) (k : ℕ) (to : Kind) (method : Method) → Placed w h → Placeable w (noted h) (SwitchOn k to method) →
    InStep say w f (noted h) → (ts : List Txn) → ((t : Txn) → has_txn ts t ≡ is_running (noted h) t) → AllPairs (λ a b. a.0 < b.0) ts → (old : Boxed V D) → old ≡ f.eras.first → (off : List Txn) →
    ((view : List Noted) → StandsBy say old view → All (λ t. has_ended view t ≡ false) ts → off ≡ abort_list method to view ts) → off ≡ off_list w (noted h) method to
aborts_so say w h f k to method l goes s ts has ascends old first off says =
    let same : ts ≡ running w (noted h) = placed_running_list w h ts l has ascends in
    let view = (older (in_force w (noted h)) (noted h)).1 in
    says view (subst (λ b. StandsBy say b view) (sym first) s.views.1) (subst (All (λ t. has_ended view t ≡ false)) (sym same) (placed_running_on w h l))
    ∙ ap (abort_list method to view) same ∙ forced_aborts w h k to method l (placeable_on w (noted h) k to method goes)

module _ {V : Type 0} {D : V → Type 0} (say : Says V D) (w : Workload) (h : List Entry) (e : Entry) (at stamp : ℕ) (f g : Force V D)
    (l : Placed w h) (goes : Placeable w (noted h) e) (number : at ≡ length h + 1) (stamped : stamp ≡ stamp_at (noted h) at e) (before : InStep say w f (noted h))
    (tells : (cs : List (Kind × List Noted)) → AreRuling say f cs → All (λ c. MayNote c.0 c.1 (record { at = at; stamp = stamp; entry = e })) cs → AreRuling say g (grown (record { at = at; stamp = stamp; entry = e }) cs)) where
  abbrev p : List Noted
  p = noted h

  told : AreRuling say g (grown (next p e) (controllers (in_force w p) p))
  told =
      let q = next_is h e at stamp number stamped in
      let cs = controllers (in_force w p) p in
      subst (λ n. AreRuling say g (grown n cs)) q (tells cs before.views (subst (λ n. All (λ c. MayNote c.0 c.1 n) cs) (sym q) (placed_may_note w h e l goes)))

  -- any other entry
  pub other_done : turns_nothing e ≡ true → g.off ≡ f.off → g.switches ≡ f.switches → g.eras.since ≡ f.eras.since → InStep say w g (noted (h ++ e ∷ []))
  other_done q off switches since = other_in_step say w h l f g e q before told off switches since

  module _ (k : ℕ) (to : Kind) (method : Method) (is : e ≡ SwitchOn k to method) where
    on_goes : Placeable w p (SwitchOn k to method)
    on_goes = subst (Placeable w p) is goes

    on_told : AreRuling say g (((in_force w p).kind, view_of (in_force w p).view p ++ next p (SwitchOn k to method) ∷ []) ∷ [])
    on_told =
        subst (λ x. AreRuling say g (((in_force w p).kind, view_of (in_force w p).view p ++ next p x ∷ []) ∷ [])) is
        (subst (λ cs. AreRuling say g (grown (next p e) cs)) (forced_alone w h k to method l (placeable_on w p k to method on_goes)) told)

    pub on_alone : g.eras.second ≡ None
    on_alone = ruling_alone say g ((in_force w p).kind, view_of (in_force w p).view p ++ next p (SwitchOn k to method) ∷ []) on_told

    pub on_fits : is_method_for w.structure method ≡ true
    on_fits = (comes_on w h k to method l on_goes).method_for

    pub on_serves : Racked say w.structure g → 0 < lasting say g.rack.slots.items to w.structure
    on_serves r = one_serves say g ((in_force w p).kind, view_of (in_force w p).view p ++ next p (SwitchOn k to method) ∷ []) w.structure to r on_told (comes_on w h k to method l on_goes).other

    pub on_done : (r : Force V D) (off : List Txn) → ((j : Kind) (view : List Noted) → AreRuling say g ((j, view) ∷ []) → IsInOrder view → AreRuling say r (put_on method to off (j, view))) →
        r.off ≡ off → ((w : Workload) (j : ℕ) → Placed w h → Placeable w p (SwitchOn j to method) → InStep say w f p → off ≡ off_list w p method to) → r.switches ≡ k → (method ≡ Suffix → r.eras.since ≡ at) → InStep say w r (noted (h ++ e ∷ []))
    on_done r off turns kept aborts switches since =
        let same : off ≡ off_list w p method to = aborts w k l on_goes before in
        let order = forced_in_order w h k to method l (placeable_on w p k to method on_goes) in
        subst (λ x. InStep say w r (noted (h ++ x ∷ []))) (sym is)
        (on_in_step say w h l r k to method on_goes
        (subst (λ ts. AreRuling say r (put_on method to ts ((in_force w p).kind, view_of (in_force w p).view p ++ next p (SwitchOn k to method) ∷ []))) same
        (turns (in_force w p).kind (view_of (in_force w p).view p ++ next p (SwitchOn k to method) ∷ []) on_told order))
        (kept ∙ same) switches (λ q. since q ∙ number ∙ ap (λ n. n + 1) (sym (noted_length h))))

  module _ (k : ℕ) (is : e ≡ SwitchEnd k) where
    end_goes : Placeable w p (SwitchEnd k)
    end_goes = subst (Placeable w p) is goes

    end_told : AreRuling say g (grown (next p (SwitchEnd k)) (older (in_force w p) p ∷ newer p (in_force w p).next))
    end_told = subst (λ x. AreRuling say g (grown (next p x) (controllers (in_force w p) p))) is told

    end_both : AreRuling say g (grown (next p (SwitchEnd k)) (older (in_force w p) p ∷ (both_there say w h l k end_goes).0 ∷ []))
    end_both = subst (λ cs. AreRuling say g (grown (next p (SwitchEnd k)) (older (in_force w p) p ∷ cs))) (both_there say w h l k end_goes).1 end_told

    pub end_joint : is_some g.eras.second ≡ true
    end_joint = ruling_joint say g _ _ end_both

    pub end_done : (r : Force V D) → ((c d : Kind × List Noted) → AreRuling say g (c ∷ d ∷ []) → AreRuling say r (d ∷ [])) → r.off ≡ f.off → r.switches ≡ f.switches → InStep say w r (noted (h ++ e ∷ []))
    end_done r turns off switches =
        subst (λ x. InStep say w r (noted (h ++ x ∷ []))) (sym is)
        (end_in_step say w h l f r k end_goes before
        (subst (λ cs. AreRuling say r (grown (next p (SwitchEnd k)) cs)) (sym (both_there say w h l k end_goes).1) (turns _ _ end_both)) off switches)
