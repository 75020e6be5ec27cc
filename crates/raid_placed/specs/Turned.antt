-- What a switch's entries make of the controllers in force.
use Rattle.std.specs.Prelude.{List, [], ◌∷◌, ◌++◌}
use Rattle.raid_base.specs.declared.names.Txn.{Txn}
use Rattle.raid_base.specs.declared.entry.Noted.{Noted}
use Rattle.raid_base.specs.declared.verdict.Kind.{Kind}
use Rattle.raid_base.specs.declared.verdict.Method.{Method}
use Rattle.raid_base.specs.declared.verdict.Method.TheVariants.{Generic, Convert, Suffix}
use Rattle.raid_rules.specs.Views.{view_of}
use Rattle.raid_legal.specs.InForce.{InForce}
use Rattle.raid_control.specs.Carried.{carried}
use Rattle.raid_switch.specs.Force.{without}

-- the controller in force, or the old one of two, with the entries of its view
abbrev pub older : InForce → List Noted → Kind × List Noted
older f p = (f.kind, view_of f.view p)

-- the controllers in force after a SwitchOn, n, to another kind that aborts those of the list off, given the one before: it notes the entry, and then
-- its verdicts are of the other kind; or it gives way to one with what it carries, without those that are aborted; or it gets another beside it, over nothing
abbrev pub turned : Method → Kind → List Txn → Noted → Kind × List Noted → List (Kind × List Noted)
turned Generic to off n old = (to, old.1 ++ n ∷ []) ∷ []
turned Convert to off n old = (to, without off (carried (old.1 ++ n ∷ []))) ∷ []
turned Suffix to off n old = (old.0, old.1 ++ n ∷ []) ∷ (to, []) ∷ []
