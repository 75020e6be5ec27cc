-- The kinds that lay the transactions in an order of their own.
use Rattle.std.specs.Prelude.{Bool, true, false}
use Rattle.raid_base.specs.declared.verdict.Kind.{Kind}
use Rattle.raid_base.specs.declared.verdict.Kind.TheVariants.{Lock, Stamp, Valid, Graph}

-- the kind keeps running transactions from reaching any, or any with a smaller stamp
abbrev pub locks_or_stamps : Kind → Bool
locks_or_stamps Lock = true
locks_or_stamps Stamp = true
locks_or_stamps Valid = false
locks_or_stamps Graph = false
