-- A controller that gives way to another one goes back, so that there are as many as before.
use Rattle.std.proofs.Common.{◌≡◌, ℕ, ◌+◌, ◌≤◌, length, List, [], ◌∷◌, None, refl, sym, ap, subst, ◌∙◌, arith, Bool, true}
use Rattle.std.specs.Prelude.{vec_len, vec_capacity, option_to_list}
use Rattle.std.specs.List.{All}
use Rattle.std.specs.Option.{option_map_or}
use Rattle.std.proofs.lemmas.List.Elements.{All-cons, All-head, All-nil}
use Rattle.raid_base.specs.declared.verdict.Kind.{Kind}
use Rattle.raid_base.specs.declared.verdict.Structure.{Structure}
use Rattle.std.proofs.lemmas.Bool.{true≢false}
use Rattle.raid_base.specs.declared.verdict.Structure.TheVariants.{Native, GenericState}
use Rattle.raid_base.specs.declared.verdict.Method.{Method}
use Rattle.raid_base.specs.declared.verdict.Method.TheVariants.{Generic}
use Rattle.raid_workload.specs.Rules.{is_method_for}
use Rattle.raid_control.specs.Carried.{is_generic}
use Rattle.raid_control.specs.declared.rack.Slot.{Slot}
use Rattle.raid_force.specs.declared.force.Force.{Force}
use Rattle.raid_boxed.specs.Boxed.{Boxed, Says, kind_by, structure_by}
use Rattle.raid_force.specs.Lasting.{counts, lasting, wanted, AreClear}
use Rattle.raid_force.specs.Force.{in_all, Racked}

module _ {V : Type 0} {D : V → Type 0} (say : Says V D) where
  -- how one counts
  abbrev pub one : Kind → Structure → Bool → Boxed V D → ℕ
  one k t once b = counts k t once (kind_by say b) (structure_by say b)

  one_alike : (k : Kind) (t : Structure) (once again : Bool) (b c : Boxed V D) → once ≡ again → kind_by say b ≡ kind_by say c → structure_by say b ≡ structure_by say c → one k t once b ≡ one k t again c
  one_alike k t once again b c e f h = ap (λ o. counts k t o (kind_by say b) (structure_by say b)) e ∙ ap (λ j. counts k t again j (structure_by say b)) f ∙ ap (λ j. counts k t again (kind_by say c) j) h

  pub all_alone : (f : Force V D) (k : Kind) (t : Structure) → f.eras.second ≡ None → in_all say f k t ≡ lasting say f.rack.slots.items k t + one k t f.first_once f.eras.first + 0
  all_alone f k t e = ap (λ o. lasting say f.rack.slots.items k t + one k t f.first_once f.eras.first + option_map_or (one k t f.second_once) o 0) e

  -- one alone in force
  alone_racked : (f : Force V D) (s : Structure) → f.eras.second ≡ None → structure_by say f.eras.first ≡ s → AreClear say f.rack.slots.items →
      ((k : Kind) (t : Structure) → wanted t ≤ in_all say f k t) → vec_len f.rack.slots + 1 ≤ vec_capacity f.rack.slots → Racked say s f
  alone_racked f s e structured clear enough room = record {
    structured = subst (λ o. All (λ c. structure_by say c ≡ s) (f.eras.first ∷ option_to_list o)) (sym e) (All-cons (λ c. structure_by say c ≡ s) f.eras.first [] structured (All-nil (λ c. structure_by say c ≡ s)));
    clear = clear;
    enough = enough;
    room = subst (λ o. vec_len f.rack.slots + length (f.eras.first ∷ option_to_list o) ≤ vec_capacity f.rack.slots) (sym e) room;
  }

  pub alone_room : (f : Force V D) (s : Structure) → Racked say s f → f.eras.second ≡ None → vec_len f.rack.slots + 1 ≤ vec_capacity f.rack.slots
  alone_room f s r e = subst (λ o. vec_len f.rack.slots + length (f.eras.first ∷ option_to_list o) ≤ vec_capacity f.rack.slots) e r.room

  -- another in its place
  pub swapped : (f g : Force V D) (s : Structure) (mid : List (Slot V D)) (once : Bool) (next old : Boxed V D) → Racked say s f → f.eras.second ≡ None → g.eras.second ≡ None →
      old ≡ f.eras.first → kind_by say g.eras.first ≡ kind_by say next → structure_by say g.eras.first ≡ structure_by say next → structure_by say next ≡ s → g.first_once ≡ once →
      ((k : Kind) (t : Structure) → lasting say f.rack.slots.items k t ≡ lasting say mid k t + one k t once next) →
      ((k : Kind) (t : Structure) → lasting say g.rack.slots.items k t ≡ lasting say mid k t + one k t f.first_once old) →
      AreClear say g.rack.slots.items → vec_len g.rack.slots + 1 ≤ vec_capacity g.rack.slots → Racked say s g
  swapped f g s mid once next old r a b q kinds structures structured same took gave clear room = alone_racked g s b (structures ∙ structured) clear enough room
    where
      enough : (k : Kind) (t : Structure) → wanted t ≤ in_all say g k t
      enough k t =
          let before : wanted t ≤ in_all say f k t = r.enough k t in
          let all_f : in_all say f k t ≡ lasting say f.rack.slots.items k t + one k t f.first_once f.eras.first + 0 = all_alone f k t a in
          let all_g : in_all say g k t ≡ lasting say g.rack.slots.items k t + one k t g.first_once g.eras.first + 0 = all_alone g k t b in
          let came : one k t g.first_once g.eras.first ≡ one k t once next = one_alike k t g.first_once once g.eras.first next same kinds structures in
          let went : one k t f.first_once old ≡ one k t f.first_once f.eras.first = ap (one k t f.first_once) q in
          let taken : lasting say f.rack.slots.items k t ≡ lasting say mid k t + one k t once next = took k t in
          let given : lasting say g.rack.slots.items k t ≡ lasting say mid k t + one k t f.first_once old = gave k t in
          omega (arith, before, all_f, all_g, came, went, taken, given)

  -- the first of all
  pub placed_first : (f : Force V D) (s : Structure) (slots : List (Slot V D)) (first : Boxed V D) → f.eras.second ≡ None → f.eras.first ≡ first → structure_by say first ≡ s → AreClear say f.rack.slots.items →
      ((k : Kind) (t : Structure) → wanted t ≤ lasting say slots k t) →
      ((k : Kind) (t : Structure) → lasting say slots k t ≡ lasting say f.rack.slots.items k t + one k t f.first_once first) → vec_len f.rack.slots + 1 ≤ vec_capacity f.rack.slots → Racked say s f
  placed_first f s slots first a q structured clear whole took room = alone_racked f s a (ap (structure_by say) q ∙ structured) clear enough room
    where
      enough : (k : Kind) (t : Structure) → wanted t ≤ in_all say f k t
      enough k t =
          let before : wanted t ≤ lasting say slots k t = whole k t in
          let all_f : in_all say f k t ≡ lasting say f.rack.slots.items k t + one k t f.first_once f.eras.first + 0 = all_alone f k t a in
          let came : one k t f.first_once f.eras.first ≡ one k t f.first_once first = ap (one k t f.first_once) q in
          let taken : lasting say slots k t ≡ lasting say f.rack.slots.items k t + one k t f.first_once first = took k t in
          omega (arith, before, all_f, came, taken)

  -- of the generic structure
  pub generic_first : (f : Force V D) → Racked say GenericState f → (b : Bool) → b ≡ is_generic (structure_by say f.eras.first) → b ≡ true
  generic_first f r b e = e ∙ ap is_generic (All-head (λ c. structure_by say c ≡ GenericState) f.eras.first (option_to_list f.eras.second) r.structured)

  pub of_same : (f : Force V D) (s t : Structure) → s ≡ t → Racked say s f → Racked say t f
  of_same f s t e r = subst (λ u. Racked say u f) e r

pub generic_method : (s : Structure) (m : Method) → is_method_for s m ≡ true → m ≡ Generic → s ≡ GenericState
generic_method s m fits e = go s (sym (ap (is_method_for s) e) ∙ fits)
  where
    go : (t : Structure) → is_method_for t Generic ≡ true → t ≡ GenericState
    go Native q = absurd (true≢false (sym q))
    go GenericState q = refl
