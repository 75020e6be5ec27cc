-- The lines of the body: what each says, given the lines before it, or its first fault.
use Rattle.std.specs.Prelude.{ℕ, Bool, not, nat_lt, nat_le, List, [], ◌∷◌, ◌++◌, length, Result, Ok, codes}
use Rattle.raid_base.specs.declared.verdict.Kind.{Kind}
use Rattle.raid_base.specs.declared.verdict.Structure.{Structure}
use Rattle.raid_base.specs.Sites.{site}
use Rattle.raid_scan.specs.Words.{Word}
use Rattle.raid_tokens.specs.declared.fault.Fault.{Fault}
use Rattle.raid_tokens.specs.declared.fault.Fault.TheVariants as faults
use Rattle.raid_tokens.specs.Reading.{◌>>=◌}
use Rattle.raid_tokens.specs.Words.{keyword_at, number_at, end_at}
use Rattle.raid_workload.specs.Rules.{is_kind, is_method_for, is_stopped, is_turn}
use Rattle.raid_workload.specs.declared.workload.Switch.{Switch}
use Rattle.raid_workload.specs.declared.workload.Event.{Event}
use Rattle.raid_text.specs.declared.state.State.{State}
use Rattle.raid_text.specs.declared.state.Place.TheVariants as places
use Rattle.raid_text.specs.Choices.{kind_at, method_at}
use Rattle.raid_text.specs.Head.{unless}

unfoldable pub switch_at : List Word → Result Switch Fault
switch_at words = do
  kind ← kind_at words
  by ← keyword_at (codes "by") kind.1
  method ← method_at by
  after ← keyword_at (codes "after") method.1
  trigger ← number_at 1 2000 faults.Range after
  none ← end_at trigger.1
  Ok (record { kind = kind.0; method = method.0; trigger = trigger.0 })

-- the fault of a switch whose words all fit, after one to this kind with this trigger
unfoldable pub switch_fits : Structure → Kind → ℕ → Switch → Result (Unit {0}) Fault
switch_fits structure kind trigger switch = do
  able ← unless (not (is_method_for structure switch.method)) faults.Generic
  other ← unless (is_kind kind switch.kind) faults.Same
  unless (nat_lt switch.trigger trigger) faults.Order

unfoldable pub allowed_switch : Structure → Kind → ℕ → List Word → Result Switch Fault
allowed_switch structure kind trigger words = do
  switch ← switch_at words
  fits ← switch_fits structure kind trigger switch
  Ok switch

unfoldable pub switch_line : State → List Word → Result State Fault
switch_line s words = do
  room ← unless (nat_le 64 (length s.switches)) faults.Many
  switch ← allowed_switch s.structure s.latest_kind s.latest_switch words
  Ok (record s { switches = s.switches ++ switch ∷ []; latest_kind = switch.kind; latest_switch = switch.trigger })

unfoldable pub event_at : ℕ → Bool → List Word → Result Event Fault
event_at sites stop words = do
  s ← number_at 1 sites faults.Site words
  after ← keyword_at (codes "after") s.1
  trigger ← number_at 1 2000 faults.Range after
  none ← end_at trigger.1
  Ok (record { stop = stop; site = site s.0; trigger = trigger.0 })

unfoldable pub event_line : State → Bool → List Word → Result State Fault
event_line s stop words = do
  room ← unless (nat_le 64 (length s.events)) faults.Many
  event ← event_at s.sites stop words
  later ← unless (nat_lt event.trigger s.latest_event) faults.Order
  able ← unless (not (is_turn stop (is_stopped s.events event.site))) faults.State
  Ok (record s { events = s.events ++ event ∷ []; latest_event = event.trigger })

unfoldable pub program_line : State → List Word → Result State Fault
program_line s words = do
  room ← unless (nat_le 2000 (length s.programs)) faults.Many
  home ← number_at 1 s.sites faults.Site words
  none ← end_at home.1
  Ok (record s { place = places.Program; home = site home.0; program = [] })

unfoldable pub done_line : State → List Word → Result State Fault
done_line s words = do
  none ← end_at words
  Ok (record s { place = places.Over })

-- the end of a program
unfoldable pub end_line : State → List Word → Result State Fault
end_line s words = do
  none ← end_at words
  Ok (record s { place = places.Body; programs = s.programs ++ record { home = s.home; program = s.program } ∷ []; program = [] })
