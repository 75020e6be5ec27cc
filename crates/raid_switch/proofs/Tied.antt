-- Who is tied to the time before a number: who began before it, and who reaches one that did.
use Rattle.std.proofs.Common.{◌≡◌, ℕ, nat_lt, ◌||◌, List, sym}
use Rattle.std.specs.List.{list_any}
use Rattle.raid_base.specs.declared.names.Txn.{Txn}
use Rattle.raid_base.specs.declared.entry.Noted.{Noted}
use Rattle.raid_rules.specs.History.{stamp}
use Rattle.raid_legal.specs.InForce.{is_tied}
use Rattle.raid_conflict.specs.Listed.{reaches_before}
use Rattle.raid_conflict.proofs.Lists.{any_or}

pub tied_apart : (p : List Noted) (before : ℕ) (ts : List Txn) →
    list_any (is_tied p before) ts ≡ (list_any (λ t. nat_lt (stamp p t) before) ts || list_any (λ t. reaches_before p t before) ts)
tied_apart p before ts = sym (any_or (λ t. nat_lt (stamp p t) before) (λ t. reaches_before p t before) ts)
