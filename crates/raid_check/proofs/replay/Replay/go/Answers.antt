use Rattle.std.proofs.Common.{◌≡◌, ◌≤◌, ℕ, ◌+◌, List, [], ◌∷◌, ◌++◌, Some, take, length, ap, sym, subst, arith, ◌∙◌}
use Rattle.std.specs.Prelude.{Option}
use Rattle.std.proofs.lemmas.List.{take_more, length-take-le}
use Rattle.raid_base.specs.declared.entry.Entry.{Entry}
use Rattle.raid_rules.specs.History.{noted}
use Rattle.raid_legal.specs.Legal.{Legal, Allowed}
use Rattle.raid_check.specs.Replay.{Takes}
use Rattle.raid_check.specs.Finding.{IsFirst}
use Rattle.raid_check.proofs.Judged.{first_refused}
use Rattle.raid_check.proofs.replay.Replay.go.Goals as goal

pub returns-in-Some-clause-first : goal.returns-in-Some-clause-first
returns-in-Some-clause-first g c =
    let w = c.args.workload.now in
    let k = c.loop-entry.entry-index in
    let h = c.args.entries.now in
    let e : Entry = c.entry-item.result in
    let before : List Entry = c.loop-entry.self.tables.history in
    let taken : before ≡ take k h = c.loop-entry.invariant.taken in
    let below = c.loop-entry-test.true in
    let within : k ≤ length h = omega (arith, below) in
    let more : take (k + 1) h ≡ take k h ++ e ∷ [] = take_more h k e below ∙ ap (λ (x : Entry). take k h ++ x ∷ []) (sym c.entry-item.is) in
    let refused : Takes w before e (Some c.in-Some.number) c.take.new.self.tables.history = subst (λ (o : Option ℕ). Takes w before e o c.take.new.self.tables.history) c.in-Some.is c.in_ok-number.ensures.takes in
    let number : k + 1 ≡ c.in-Some.number = omega (arith, refused.0, ap length taken, length-take-le k h within) in
    subst (IsFirst w h) number
    (first_refused w h k e (subst (Legal w) taken c.loop-entry.invariant.stands.tables.legal) more (λ a. refused.1 (subst (λ (z : List Entry). Allowed w (noted z) e) (sym taken) a)))
