-- What a turn has done while it goes on, and when it ends.
use Rattle.std.proofs.Common.{◌≡◌, ◌⊎◌, inl, inr, ℕ, zero, suc, ◌+◌, ◌<◌, ◌≤◌, List, [], ◌∷◌, ◌++◌, length, arith, sym, ap, subst, ◌∙◌, refl, length-append}
use Rattle.std.specs.Prelude.{slice_index_or}
use Rattle.std.proofs.lemmas.List.{append-nil}
use Rattle.raid_workload.specs.declared.workload.Workload.{Workload}
use Rattle.raid_message.specs.declared.letter.Letter.{Letter}
use Rattle.raid_causes.specs.Histories.{History}
use Rattle.raid_link.specs.Link.{known}
use Rattle.raid_link.specs.declared.ends.Receiver.{Receiver}
use Rattle.raid_nodes.specs.Nodes.{Heard}
use Rattle.raid_nodes.specs.Turns.{Took, SameKnown, NoneKnown, Found, Missed, Still, SomeKnown, TurnMade}
use Rattle.raid_nodes.specs.Fits.{element_of}
use Rattle.raid_nodes.specs.declared.node.ServerNode.{ServerNode}
use Rattle.raid_nodes.proofs.Fetches.{fetched_more, took_fetched, took_heard, took_more, some_none, positive}

pub one_longer : (h : History) (l : ℕ × Letter) (n : ℕ) → n ≡ length h → n + 1 ≡ length (h ++ l ∷ [])
one_longer h l n count = let e : length (h ++ l ∷ []) ≡ length h + 1 = length-append h (l ∷ []) in omega (arith, count, e)

module _ {V : Type 0} {D : V → Type 0} where
  not_known : (x : ServerNode V D) → NoneKnown x 0 (length x.inputs.items) → SomeKnown x → ⊥
  not_known x none (k, low, some) =
      let d : Receiver = element_of x.inputs.items k low in
      some_none (known (slice_index_or x.inputs.items k d)) (none.none k d (omega arith) low low) (some d)

  -- so many letters, none of which was taken only where none was known
  pub made : (w : Workload) (x : ServerNode V D) (h : History) (y : ServerNode V D) (n : ℕ) → n ≡ length h → Took w x h y → (n ≡ 0 → NoneKnown x 0 (length x.inputs.items)) → TurnMade w x n y
  made w x h y n count took none = record { history = h; count = count; took = took; some = λ some. positive n (λ q. not_known x (none q) some) }

  -- a turn that has all its letters, or has looked in vain often enough
  pub made_all : (w : Workload) (x : ServerNode V D) (h : History) (y : ServerNode V D) (n most vain : ℕ) → n ≡ length h → Took w x h y → (n ≡ most) ⊎ (vain ≡ 100000) → 1 ≤ most →
      (n ≡ 0 → 0 < vain → NoneKnown x 0 (length x.inputs.items)) → TurnMade w x n y
  made_all w x h y n most vain count took test some none = made w x h y n count took (λ q. go q test)
    where
      go : n ≡ 0 → (n ≡ most) ⊎ (vain ≡ 100000) → NoneKnown x 0 (length x.inputs.items)
      go q (inl e) = absurd (omega (arith, q, e, some))
      go q (inr e) = none q (omega (arith, e))

  same_none : (x y : ServerNode V D) (n : ℕ) → length y.inputs.items ≡ length x.inputs.items → SameKnown x y → NoneKnown y 0 n → NoneKnown x 0 n
  same_none x y n long same none = record { none = λ k d a b low. sym (same.same k d low) ∙ none.none k d a b (subst (λ i. k < i) (sym long) low) }

  -- nothing came, and the tokens were given back
  pub missed_took : (w : Workload) (x : ServerNode V D) (h : History) (y m z : ServerNode V D) (n : ℕ) → Took w x h y → Missed y 0 n m → Still m z → Took w x h z
  missed_took w x h y m z n took missed still =
      subst (λ g. Took w x g z) (append-nil h) (took_more w x y z h [] took (took_fetched w y z (fetched_more y m z [] [] missed.fetched still.fetched)))

  pub missed_none : (w : Workload) (x : ServerNode V D) (h : History) (y m : ServerNode V D) → Took w x h y → SameKnown x y → Missed y 0 (length y.inputs.items) m → NoneKnown x 0 (length x.inputs.items)
  missed_none w x h y m took same missed = same_none x y (length x.inputs.items) took.inputs same (subst (NoneKnown y 0) took.inputs missed.none)

  pub missed_same : (w : Workload) (x : ServerNode V D) (h : History) (y m z : ServerNode V D) (n : ℕ) → Took w x h y → SameKnown x y → Missed y 0 n m → Still m z → SameKnown x z
  missed_same w x h y m z n took same missed still = record {
    same = λ k d low.
        let a : k < length y.inputs.items = subst (λ i. k < i) (sym took.inputs) low in
        let b : k < length m.inputs.items = subst (λ i. k < i) (sym missed.fetched.inputs) a in
        still.same.same k d b ∙ missed.same.same k d a ∙ same.same k d low;
  }

  -- a letter came, and was heard
  pub found_took : (w : Workload) (x : ServerNode V D) (h : History) (y m z : ServerNode V D) (l : ℕ × Letter) → Took w x h y → Found y l m → Heard w m l z → Took w x (h ++ l ∷ []) z
  found_took w x h y m z l took found heard = took_more w x y z h (l ∷ []) took (took_heard w y m z l found.fetched heard)
