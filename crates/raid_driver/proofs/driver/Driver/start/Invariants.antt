use Rattle.std.proofs.Common.{◌≡◌, fold}
use Rattle.raid_workload.specs.Parts.{count_from}
use Rattle.raid_driver.specs.Drive.{turn, begin_next}
use Rattle.raid_driver.proofs.driver.Driver.start.Given as goal

-- so many rounds are done
abbrev pub invariant-loop : goal.invariant-loop
invariant-loop l = turn l.self l.outs ≡ fold (λ t k. begin_next l.workload t) (turn l.fn.self l.fn.outs) (count_from 0 l.counter)
