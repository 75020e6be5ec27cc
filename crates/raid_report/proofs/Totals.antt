-- A sum, value by value.
use Rattle.std.proofs.Common.{◌≡◌, ℕ, ℤ, ◌+◌, ◌<◌, ◌+ℤ◌, List, length, get_or, drop, fold, sym, ◌∙◌}
use Rattle.std.proofs.lemmas.List.{at_drop_more}
use Rattle.raid_base.specs.declared.names.Item.{Item}

pub summed_more : (t : ℤ) (i : ℕ) (pairs : List (Item × ℤ)) (d : Item × ℤ) (s : ℤ) → i < length pairs →
    fold (λ sum p. sum +ℤ p.1) t (drop i pairs) ≡ s → fold (λ sum p. sum +ℤ p.1) (t +ℤ (get_or pairs i d).1) (drop (i + 1) pairs) ≡ s
summed_more t i pairs d s less e = sym (at_drop_more (fold (λ sum p. sum +ℤ p.1) t) pairs i d less) ∙ e
