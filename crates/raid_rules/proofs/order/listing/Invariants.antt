use Rattle.std.proofs.Common.{◌≡◌, [], fold, take}
use Rattle.raid_rules.specs.Conflict as words
use Rattle.raid_rules.proofs.order.listing.Given as goal

-- what the rounds so far have listed
abbrev pub invariant-loop-round : goal.invariant-loop-round
invariant-loop-round l = l.listed ≡ fold (λ listed t. words.list_next l.pairs l.all listed) [] (take l._round-index l.all)
