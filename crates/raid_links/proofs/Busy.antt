-- How many links hold a letter.
use Rattle.std.proofs.Common.{◌≡◌, ℕ, zero, suc, ◌==◌, List, [], ◌∷◌, length, replicate, refl, arith}
use Rattle.std.specs.List.{list_all, count_by}
use Rattle.std.proofs.lemmas.Grind.{common_steps}
use Rattle.raid_message.specs.declared.letter.Letter.{Letter}
use Rattle.raid_links.specs.First.{has_letter}

-- none does where the count is 0
pub none_busy : (queues : List (List Letter)) → list_all (λ queue. length queue == 0) queues ≡ (count_by has_letter queues == 0)
none_busy [] = refl
none_busy (q ∷ qs) = grind (arith, common_steps, none_busy qs)

-- none of so many empty ones does
pub none_of_new : (servers : ℕ) → count_by has_letter (replicate servers []) ≡ 0
none_of_new zero = refl
none_of_new (suc n) = none_of_new n
