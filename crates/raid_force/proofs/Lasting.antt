-- What is taken out of a list, and what is left.
use Rattle.std.proofs.Common.{◌≡◌, ℕ, ◌+◌, ◌<◌, Bool, true, false, not, ◌&&◌, cond, List, [], ◌∷◌, length, Some, None, find, sum_by, refl, sym, ap, subst, ◌∙◌, arith, if◌then◌else◌}
use Rattle.std.specs.Prelude.{nat_eq}
use Rattle.std.specs.List.{All}
use Rattle.std.proofs.lemmas.Bool.{true≢false, and_parts}
use Rattle.std.proofs.lemmas.List.Elements.{All-cons, All-head, All-tail}
use Rattle.std.proofs.lemmas.List.Sums.{sum_by-cons}
use Rattle.raid_base.specs.declared.verdict.Kind.{Kind}
use Rattle.raid_base.specs.declared.verdict.Kind.TheVariants.{Lock, Stamp, Valid, Graph}
use Rattle.raid_base.specs.declared.verdict.Structure.{Structure}
use Rattle.raid_base.specs.declared.verdict.Structure.TheVariants.{Native, GenericState}
use Rattle.raid_control.specs.Carried.{is_generic}
use Rattle.raid_control.specs.Racked.{serves, without_first, place}
use Rattle.raid_control.specs.declared.rack.Slot.{Slot}
use Rattle.raid_boxed.specs.Boxed.{Boxed, Says, kind_by, structure_by}
use Rattle.raid_force.specs.Lasting.{counts, lasting}

some_is : {X : Type 0} (a b : X) → Some a ≡ Some b → a ≡ b
some_is a b e = cc e

none_is : {X : Type 0} (a : X) → None ≡ Some a → ⊥
none_is a e = cc e

module _ {S : Type 0} (test : S → Bool) where
  -- what is taken passes, and with what is left it is all that there was
  pub taken_passes : (xs : List S) (s : S) → find test xs ≡ Some s → test s ≡ true
  taken_passes [] s e = absurd (none_is s e)
  taken_passes (x ∷ xs) s e = step (test x) refl (taken_passes xs s) e
    where
      step : (b : Bool) → test x ≡ b → (find test xs ≡ Some s → test s ≡ true) → cond b (Some x) (find test xs) ≡ Some s → test s ≡ true
      step true h rest q = subst (λ z. test z ≡ true) (some_is x s q) h
      step false h rest q = rest q

  pub taken_sum : (f : S → ℕ) (xs : List S) (s : S) → find test xs ≡ Some s → sum_by f xs ≡ sum_by f (without_first test xs) + f s
  taken_sum f [] s e = absurd (none_is s e)
  taken_sum f (x ∷ xs) s e = step (test x) (taken_sum f xs s) e
    where
      step : (b : Bool) → (find test xs ≡ Some s → sum_by f xs ≡ sum_by f (without_first test xs) + f s) → cond b (Some x) (find test xs) ≡ Some s →
          sum_by f (x ∷ xs) ≡ sum_by f (if b then xs else x ∷ without_first test xs) + f s
      step true rest q = let h : f x ≡ f s = ap f (some_is x s q) in let m : sum_by f (x ∷ xs) ≡ f x + sum_by f xs = sum_by-cons f x xs in let r : sum_by f (x ∷ xs) ≡ sum_by f xs + f s = omega (arith, h, m) in r
      step false rest q = let h : sum_by f xs ≡ sum_by f (without_first test xs) + f s = rest q in
          let m : sum_by f (x ∷ xs) ≡ f x + sum_by f xs = sum_by-cons f x xs in let n : sum_by f (x ∷ without_first test xs) ≡ f x + sum_by f (without_first test xs) = sum_by-cons f x (without_first test xs) in
          let r : sum_by f (x ∷ xs) ≡ sum_by f (x ∷ without_first test xs) + f s = omega (arith, h, m, n) in r

  pub taken_length : (xs : List S) (s : S) → find test xs ≡ Some s → length (without_first test xs) + 1 ≡ length xs
  taken_length [] s e = absurd (none_is s e)
  taken_length (x ∷ xs) s e = step (test x) (taken_length xs s) e
    where
      step : (b : Bool) → (find test xs ≡ Some s → length (without_first test xs) + 1 ≡ length xs) → cond b (Some x) (find test xs) ≡ Some s →
          length (if b then xs else x ∷ without_first test xs) + 1 ≡ length (x ∷ xs)
      step true rest q = omega arith
      step false rest q = let h : length (without_first test xs) + 1 ≡ length xs = rest q in omega (arith, h)

  pub taken_all : (P : S → Type 0) (xs : List S) (s : S) → All P xs → find test xs ≡ Some s → P s
  taken_all P [] s a e = absurd (none_is s e)
  taken_all P (x ∷ xs) s a e = step (test x) (taken_all P xs s (All-tail P x xs a)) e
    where
      step : (b : Bool) → (find test xs ≡ Some s → P s) → cond b (Some x) (find test xs) ≡ Some s → P s
      step true rest q = subst P (some_is x s q) (All-head P x xs a)
      step false rest q = rest q

  pub left_all : (P : S → Type 0) (xs : List S) → All P xs → All P (without_first test xs)
  left_all P [] a = a
  left_all P (x ∷ xs) a = step (test x) (left_all P xs (All-tail P x xs a))
    where
      step : (b : Bool) → All P (without_first test xs) → All P (if b then xs else x ∷ without_first test xs)
      step true rest = All-tail P x xs a
      step false rest = All-cons P x (without_first test xs) (All-head P x xs a) rest

  -- where some that count pass, one is found
  pub some_found : (f : S → ℕ) → ((x : S) → test x ≡ false → f x ≡ 0) → (xs : List S) → 0 < sum_by f xs → find test xs ≡ None → ⊥
  some_found f none [] l e = omega (arith, l)
  some_found f none (x ∷ xs) l e = step (test x) refl (some_found f none xs) (let m : sum_by f (x ∷ xs) ≡ f x + sum_by f xs = sum_by-cons f x xs in omega (arith, l, m)) e
    where
      step : (b : Bool) → test x ≡ b → (0 < sum_by f xs → find test xs ≡ None → ⊥) → 0 < f x + sum_by f xs → cond b (Some x) (find test xs) ≡ None → ⊥
      step true h rest l q = none_is x (sym q)
      step false h rest l q = let z : f x ≡ 0 = none x h in let m : 0 < sum_by f xs = omega (arith, z, l) in rest m q

-- one that serves nobody counts nowhere
pub counts_none : (kind : Kind) (structure : Structure) (once : Bool) (k : Kind) (s : Structure) → serves kind structure k s ≡ false → counts kind structure once k s ≡ 0
counts_none kind structure true k s e = refl
counts_none kind structure false k s e = let h : counts kind structure false k s ≡ 0 = ap (λ b. cond b 1 0) e in h

and_false : (b : Bool) → (b && false) ≡ false
and_false true = refl
and_false false = refl

-- a kind that is only another where the structure serves every kind makes no difference
pub counts_alike : (kind : Kind) (structure : Structure) (once : Bool) (a b : Kind) (s : Structure) → (is_generic s ≡ false → a ≡ b) → counts kind structure once a s ≡ counts kind structure once b s
counts_alike kind structure once a b Native h = ap (λ k. counts kind structure once k Native) (h refl)
counts_alike kind GenericState once a b GenericState h = refl
counts_alike kind Native once a b GenericState h = counts_none kind Native once a GenericState (and_false (nat_eq (place kind) (place a))) ∙ sym (counts_none kind Native once b GenericState (and_false (nat_eq (place kind) (place b))))

same_kind : (a b : Kind) → nat_eq (place a) (place b) ≡ true → a ≡ b
same_kind Lock Lock e = refl
same_kind Stamp Stamp e = refl
same_kind Valid Valid e = refl
same_kind Graph Graph e = refl
same_kind Lock Stamp e = absurd (true≢false (sym e))
same_kind Lock Valid e = absurd (true≢false (sym e))
same_kind Lock Graph e = absurd (true≢false (sym e))
same_kind Stamp Lock e = absurd (true≢false (sym e))
same_kind Stamp Valid e = absurd (true≢false (sym e))
same_kind Stamp Graph e = absurd (true≢false (sym e))
same_kind Valid Lock e = absurd (true≢false (sym e))
same_kind Valid Stamp e = absurd (true≢false (sym e))
same_kind Valid Graph e = absurd (true≢false (sym e))
same_kind Graph Lock e = absurd (true≢false (sym e))
same_kind Graph Stamp e = absurd (true≢false (sym e))
same_kind Graph Valid e = absurd (true≢false (sym e))

-- what serves is of the structure, and a native one of the kind
serving_structure : (kind : Kind) (structure : Structure) (k : Kind) (s : Structure) → serves kind structure k s ≡ true → s ≡ structure
serving_structure kind Native k Native e = refl
serving_structure kind Native k GenericState e = absurd (true≢false (sym (and_parts (nat_eq (place kind) (place k)) false e).1))
serving_structure kind GenericState k Native e = absurd (true≢false (sym e))
serving_structure kind GenericState k GenericState e = refl

serving_kind : (kind : Kind) (structure : Structure) (k : Kind) (s : Structure) → serves kind structure k s ≡ true → is_generic s ≡ false → k ≡ kind
serving_kind kind Native k s e g = sym (same_kind kind k (and_parts (nat_eq (place kind) (place k)) (not (is_generic s)) e).0)
serving_kind kind GenericState k s e g = absurd (true≢false (sym e ∙ g))

module _ {V : Type 0} {D : V → Type 0} (say : Says V D) (kind : Kind) (structure : Structure) (slots : List (Slot V D)) where
  abbrev test : Slot V D → Bool
  test s = serves kind structure (kind_by say s.control) (structure_by say s.control)

  module _ (s : Slot V D) (found : find test slots ≡ Some s) where
    pub found_structure : structure_by say s.control ≡ structure
    found_structure = serving_structure kind structure (kind_by say s.control) (structure_by say s.control) (taken_passes test slots s found)

    pub found_kind : is_generic (structure_by say s.control) ≡ false → kind_by say s.control ≡ kind
    found_kind = serving_kind kind structure (kind_by say s.control) (structure_by say s.control) (taken_passes test slots s found)

    -- the slot is lent with its kind set
    pub found_counts : (rest : List (Slot V D)) (lent : Boxed V D) → rest ≡ without_first test slots → kind_by say lent ≡ kind → structure_by say lent ≡ structure_by say s.control →
        (k : Kind) (t : Structure) → lasting say slots k t ≡ lasting say rest k t + counts k t s.once (kind_by say lent) (structure_by say lent)
    found_counts rest lent left same_kinds same k t =
        taken_sum test (λ x. counts k t x.once (kind_by say x.control) (structure_by say x.control)) slots s found
        ∙ ap (λ n. lasting say (without_first test slots) k t + n) (counts_alike k t s.once (kind_by say s.control) (kind_by say lent) (structure_by say s.control) (λ g. found_kind g ∙ sym same_kinds) ∙ ap (counts k t s.once (kind_by say lent)) (sym same))
        ∙ ap (λ xs. lasting say xs k t + counts k t s.once (kind_by say lent) (structure_by say lent)) (sym left)

  pub none_found : 0 < lasting say slots kind structure → find test slots ≡ None → ⊥
  none_found = some_found test (λ x. counts kind structure x.once (kind_by say x.control) (structure_by say x.control)) (λ x e. counts_none kind structure x.once (kind_by say x.control) (structure_by say x.control) e) slots
