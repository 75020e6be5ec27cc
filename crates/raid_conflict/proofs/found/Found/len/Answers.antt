use Rattle.std.proofs.Common.{ℕ, List, arith, ap, ◌∙◌}
use Rattle.raid_base.specs.declared.names.Txn.{Txn}
use Rattle.raid_base.specs.Names.{has_txn}
use Rattle.raid_conflict.proofs.Marks.{once_marked}
use Rattle.raid_conflict.proofs.found.Found.len.Goals as goal

pub returns-clause-once : goal.returns-clause-once
returns-clause-once c ts once same =
    omega (
      arith,
      c.len.ensures,
      c.self.invariant.0.counted,
      once_marked ts c.self.inside.marks.items once (λ t. c.self.invariant.0.marked t ∙ ap (λ (z : List Txn × ℕ). has_txn z.0 t) c.self.view_is ∙ same t),
    )
