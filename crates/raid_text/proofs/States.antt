-- States at each place, and what the rules say of their parts.
use Rattle.std.proofs.Common.{◌≡◌, ℕ, true, leb, List, [], ◌∷◌, length, refl}
use Rattle.std.specs.List.{list_all}
use Rattle.std.proofs.lemmas.Bool.{and_parts}
use Rattle.raid_base.specs.declared.verdict.Kind.{Kind}
use Rattle.raid_workload.specs.Rules.{is_within, are_restarts, are_items, are_switches, are_events, is_homed}
use Rattle.raid_workload.specs.declared.workload.ItemLine.{ItemLine}
use Rattle.raid_workload.specs.declared.workload.Switch.{Switch}
use Rattle.raid_workload.specs.declared.workload.Event.{Event}
use Rattle.raid_text.specs.declared.state.State.{State}
use Rattle.raid_text.specs.declared.state.Place.TheVariants as places
use Rattle.raid_text.specs.Said.{Said, are_kept, opening}

abbrev pub at_sites : ℕ → State
at_sites version = record opening { place = places.Sites; version = version }

abbrev pub at_restarts : ℕ → ℕ → ℕ → State
at_restarts version sites together = record opening { place = places.Restarts; version = version; sites = sites; together = together }

abbrev pub at_items : ℕ → ℕ → ℕ → ℕ → List ItemLine → State
at_items version restarts sites together items = record opening { place = places.Items; version = version; restarts = restarts; sites = sites; together = together; items = items }

-- the kind and the trigger of the last switch, the trigger of the last event
abbrev pub last_kind : Kind → List Switch → Kind
last_kind kind [] = kind
last_kind kind (switch ∷ switches) = last_kind switch.kind switches

abbrev pub last_trigger : ℕ → List Switch → ℕ
last_trigger trigger [] = trigger
last_trigger trigger (switch ∷ switches) = last_trigger switch.trigger switches

abbrev pub last_event : ℕ → List Event → ℕ
last_event trigger [] = trigger
last_event trigger (event ∷ events) = last_event event.trigger events

-- the rules, one by one
pub record Rules (p : Said) : Type 0 where
  pub restarts : are_restarts p.version p.restarts ≡ true
  pub sites : is_within 1 8 p.sites ≡ true
  pub together : is_within 1 16 p.together ≡ true
  pub few_items : leb (length p.items) 1024 ≡ true
  pub items : are_items p.sites p.items ≡ true
  pub few_switches : leb (length p.switches) 64 ≡ true
  pub switches : are_switches p.structure p.kind 1 p.switches ≡ true
  pub few_events : leb (length p.events) 64 ≡ true
  pub events : are_events p.sites [] 1 p.events ≡ true
  pub few_programs : leb (length p.programs) 2000 ≡ true
  pub programs : list_all (is_homed p.sites (length p.items)) p.programs ≡ true

pub rules_of : (p : Said) → are_kept p ≡ true → Rules p
rules_of p h =
    let a = and_parts _ (list_all (is_homed p.sites (length p.items)) p.programs) h in
    let b = and_parts _ (leb (length p.programs) 2000) a.0 in
    let c = and_parts _ (are_events p.sites [] 1 p.events) b.0 in
    let d = and_parts _ (leb (length p.events) 64) c.0 in
    let e = and_parts _ (are_switches p.structure p.kind 1 p.switches) d.0 in
    let f = and_parts _ (leb (length p.switches) 64) e.0 in
    let g = and_parts _ (are_items p.sites p.items) f.0 in
    let i = and_parts _ (leb (length p.items) 1024) g.0 in
    let j = and_parts _ (is_within 1 16 p.together) i.0 in
    let k = and_parts (are_restarts p.version p.restarts) (is_within 1 8 p.sites) j.0 in
    record { restarts = k.0; sites = k.1; together = j.1; few_items = i.1; items = g.1; few_switches = f.1; switches = e.1; few_events = d.1; events = c.1; few_programs = b.1; programs = a.1 }

pub kept_of : (p : Said) → Rules p → are_kept p ≡ true
kept_of p r = rw (r.restarts, r.sites, r.together, r.few_items, r.items, r.few_switches, r.switches, r.few_events, r.events, r.few_programs, r.programs) refl
