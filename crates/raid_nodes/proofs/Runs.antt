-- Rounds of nodes from the start on are a run.
use Rattle.std.proofs.Common.{◌≡◌, ℕ, ◌+◌, ◌≤◌, List, [], ◌∷◌, Bool, true, false, Result, Ok, Err, IfOk, OnOk, length, arith, refl}
use Rattle.raid_base.specs.declared.names.NoMemory.{NoMemory}
use Rattle.raid_workload.specs.declared.workload.Workload.{Workload}
use Rattle.raid_boxed.specs.Boxed.{Says}
use Rattle.raid_rounds.specs.Rounds.{Reached}
use Rattle.raid_rounds.specs.Ends.{Ended}
use Rattle.raid_rounds.specs.declared.run.Rounds.{Rounds}
use Rattle.raid_rounds.specs.declared.run.Rounds.TheVariants.{Idle, Spent}
use Rattle.raid_nodes.specs.Turns.{TurnMade}
use Rattle.raid_nodes.specs.Settled.{Settled, WholeNodes}
use Rattle.raid_nodes.specs.Ran.{AreOpen, BelowLimit, Ran, all_steps}
use Rattle.raid_nodes.specs.declared.node.ServerNode.{ServerNode}
use Rattle.raid_nodes.proofs.Together.{reached_together, together_steps}
use Rattle.raid_nodes.proofs.Ending.{ran_idle, ran_spent}

module _ {V : Type 0} {D : V → Type 0} (say : Says V D) (w : Workload) (E : ServerNode V D → ServerNode V D → Type 0) (most : ℕ) (xs ys : List (ServerNode V D)) (first : AreOpen say w xs) where
  pub idle_ran : (r : Result Rounds NoMemory) → IfOk r (λ e. Ended (λ x n y. TurnMade w x n y × E x y) Settled most xs e ys) → OnOk r (WholeNodes ys) → IfOk r (λ e. e ≡ Idle → BelowLimit ys → Ran w true ys)
  idle_ran (Ok Idle) h whole = λ q below.
      let t = reached_together w E h.0 xs false ys h.2 in
      ran_idle say w xs ys t.3 false t.0 first t.2 whole t.4 below refl
  idle_ran (Ok Spent) h whole = λ q. cc q
  idle_ran (Err e) h whole = h

  pub spent_ran : (r : Result Rounds NoMemory) → IfOk r (λ e. Ended (λ x n y. TurnMade w x n y × E x y) Settled most xs e ys) → OnOk r (WholeNodes ys) → IfOk r (λ e. e ≡ Spent → BelowLimit ys → Ran w false ys × (most ≤ all_steps ys))
  spent_ran (Ok Idle) h whole = λ q. cc q
  spent_ran (Ok Spent) h whole = λ q below.
      let t = reached_together w E most xs true ys h in
      let few : most ≤ t.0 = t.1 in
      let sum : all_steps ys ≡ all_steps xs + t.0 = together_steps w xs t.0 ys t.2 in
      (ran_spent say w xs ys t.3 true t.0 first t.2 whole t.4 below refl, omega (arith, few, sum))
  spent_ran (Err e) h whole = h
