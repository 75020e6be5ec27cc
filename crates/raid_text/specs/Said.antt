-- What a text says, from its opening on.
use Rattle.std.specs.Prelude.{ℕ, Bool, List, []}
use Rattle.raid_base.specs.declared.verdict.Kind.{Kind}
use Rattle.raid_base.specs.declared.verdict.Kind.TheVariants.{Lock}
use Rattle.raid_base.specs.declared.verdict.Structure.{Structure}
use Rattle.raid_base.specs.declared.verdict.Structure.TheVariants.{Native}
use Rattle.raid_base.specs.Sites.{site}
use Rattle.raid_workload.specs.Rules.{is_workload}
use Rattle.raid_workload.specs.declared.workload.ItemLine.{ItemLine}
use Rattle.raid_workload.specs.declared.workload.Switch.{Switch}
use Rattle.raid_workload.specs.declared.workload.Event.{Event}
use Rattle.raid_workload.specs.declared.workload.Homed.{Homed}
use Rattle.raid_workload.specs.declared.workload.Workload.{Workload}
use Rattle.raid_text.specs.declared.state.State.{State}
use Rattle.raid_text.specs.declared.state.Place.TheVariants as places

-- the parts of a workload, without the promise that they keep the rules
pub record Said : Type 0 where
  pub version : ℕ
  pub restarts : ℕ
  pub sites : ℕ
  pub together : ℕ
  pub items : List ItemLine
  pub kind : Kind
  pub structure : Structure
  pub switches : List Switch
  pub events : List Event
  pub programs : List Homed

-- the parts of this workload
abbrev pub said : Workload → Said
said w = record { version = w.version; restarts = w.restarts; sites = w.sites; together = w.together; items = w.items; kind = w.kind; structure = w.structure; switches = w.switches; events = w.events; programs = w.programs }

-- the parts that the lines so far say
abbrev pub said_by : State → Said
said_by s = record { version = s.version; restarts = s.restarts; sites = s.sites; together = s.together; items = s.items; kind = s.kind; structure = s.structure; switches = s.switches; events = s.events; programs = s.programs }

-- whether these parts keep the rules
abbrev pub are_kept : Said → Bool
are_kept p = is_workload p.version p.restarts p.sites p.together p.items p.kind p.structure p.switches p.events p.programs

-- where every text begins
abbrev pub opening : State
opening = record { place = places.Start; version = 1; restarts = 0; sites = 1; together = 1; items = []; kind = Lock; structure = Native; latest_kind = Lock; switches = []; latest_switch = 1; events = []; latest_event = 1; programs = []; home = site 1; program = [] }
