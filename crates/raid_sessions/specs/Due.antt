-- Stops, returns and renewed copies that come only where the rules of legal histories let them.
use Rattle.std.specs.Prelude.{List, [], ⊤}
use Rattle.raid_base.specs.declared.entry.Entry.{Entry}
use Rattle.raid_base.specs.declared.entry.Entry.TheVariants.{Down, Up, Clear}
use Rattle.raid_base.specs.declared.entry.Noted.{Noted}
use Rattle.raid_workload.specs.declared.workload.Workload.{Workload}
use Rattle.raid_rules.specs.History.{noted}
use Rattle.raid_legal.specs.Legal.{EachSeeing, Free}

-- a Down, an Up or a Clear comes where its rule lets it; of other entries nothing is said. None of the three is ever forced
abbrev pub IsDue : Workload → List Noted → Entry → Type 0
IsDue w p (Down s) = Free w p (Down s)
IsDue w p (Up s session) = Free w p (Up s session)
IsDue w p (Clear s x version) = Free w p (Clear s x version)
IsDue w p other = ⊤

-- so does each of the history, after those before it
abbrev pub AreDue : Workload → List Entry → Type 0
AreDue w h = EachSeeing (λ p n. IsDue w p n.entry) [] (noted h)
