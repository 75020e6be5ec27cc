-- Aborts for a switch, which answer nothing that their transactions asked for.
use Rattle.std.specs.Prelude.{◌≡◌, List, ⊤}
use Rattle.std.specs.List.{AllByRecursion}
use Rattle.raid_base.specs.declared.entry.Entry.{Entry}
use Rattle.raid_base.specs.declared.entry.Entry.TheVariants.{Abort}
use Rattle.raid_base.specs.declared.entry.Act.TheVariants as acts
use Rattle.raid_base.specs.declared.entry.Cause.TheVariants.{SwitchOff}

-- the entry, if it is an abort for a switch, has no act
abbrev pub IsUnasked : Entry → Type 0
IsUnasked (Abort t (SwitchOff k) act) = act ≡ acts.Nothing
IsUnasked other = ⊤

-- so of all entries
abbrev pub SwitchesUnasked : List Entry → Type 0
SwitchesUnasked h = AllByRecursion IsUnasked h
