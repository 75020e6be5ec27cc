-- Each line of the body keeps the rules, given that the lines before it did.
use Rattle.std.proofs.Common.{◌≡◌, ℕ, ◌<◌, ◌≤◌, Bool, true, false, not, leb, ltb, List, [], ◌∷◌, ◌++◌, length, Result, Ok, refl, sym, ◌∙◌, arith, subst, append_assoc, codes}
use Rattle.std.specs.List.{list_all}
use Rattle.std.proofs.lemmas.Bool.{le-leb, leb-false, ltb-false, and_parts}
use Rattle.std.proofs.lemmas.List.{length-append, append-nil}
use Rattle.std.proofs.lemmas.List.Folds.{list_all-append}
use Rattle.raid_base.specs.declared.names.Site.{Site}
use Rattle.raid_base.specs.declared.verdict.Kind.{Kind}
use Rattle.raid_base.specs.declared.verdict.Structure.{Structure}
use Rattle.raid_base.specs.Sites.{site}
use Rattle.raid_program.specs.declared.program.Statement.{Statement}
use Rattle.raid_scan.specs.Words.{Word}
use Rattle.raid_tokens.specs.declared.fault.Fault.{Fault}
use Rattle.raid_tokens.specs.declared.fault.Fault.TheVariants as faults
use Rattle.raid_tokens.specs.Words.{keyword_at, number_at, end_at}
use Rattle.raid_tokens.proofs.Takes.{bind_ok, ok_is, number_at_ok}
use Rattle.raid_workload.specs.Rules.{is_within, is_site_of, is_kind, is_method_for, are_switches, is_stopped, is_turn, are_events, is_statement, is_homed}
use Rattle.raid_workload.specs.declared.workload.Switch.{Switch}
use Rattle.raid_workload.specs.declared.workload.Event.{Event}
use Rattle.raid_workload.specs.declared.workload.Homed.{Homed}
use Rattle.raid_text.specs.declared.state.State.{State}
use Rattle.raid_text.specs.declared.state.Place.{Place}
use Rattle.raid_text.specs.declared.state.Place.TheVariants as places
use Rattle.raid_text.specs.Choices.{kind_at, structure_at, method_at}
use Rattle.raid_text.specs.Head.{unless, open_line}
use Rattle.raid_text.specs.Body.{switch_at, switch_fits, allowed_switch, switch_line, event_at, event_line, program_line, done_line, end_line}
use Rattle.raid_text.specs.Statements.{statement_line}
use Rattle.raid_text.specs.Said.{said_by}
use Rattle.raid_text.proofs.Holders.{unless_ok, within}
use Rattle.raid_text.proofs.Kept.{IsItemsState}
use Rattle.raid_text.proofs.States.{at_items, last_kind, last_trigger, last_event, Rules}

-- what is kept in the body
pub record IsBodyState (s : State) : Type 0 where
  pub rules : Rules (said_by s)
  pub kind : s.latest_kind ≡ last_kind s.kind s.switches
  pub trigger : s.latest_switch ≡ last_trigger 1 s.switches
  pub event : s.latest_event ≡ last_event 1 s.events

pub open_keeps : (s : State) (words : List Word) (t : State) → IsItemsState s → open_line s words ≡ Ok t → (t.place ≡ places.Body) × IsBodyState t
unfolding open_line
open_keeps s words t kept e0 =
    let rules = kept.rules in
    let base : State = at_items s.version s.restarts s.sites s.together s.items in
    let e : open_line base words ≡ Ok t = subst (λ (u : State). open_line u words ≡ Ok t) kept.is e0 in
    let a = bind_ok (kind_at words) _ t e in
    let b = bind_ok (structure_at a.0.1) _ t a.2 in
    let c = bind_ok (end_at b.0.1) _ t b.2 in
    let made : State = record base { place = places.Body; kind = a.0.0; latest_kind = a.0.0; structure = b.0.0 } in
    subst (λ (u : State). (u.place ≡ places.Body) × IsBodyState u) (ok_is made t c.2)
    (refl, record { rules = record { restarts = rules.restarts; sites = rules.sites; together = rules.together; few_items = rules.few_items; items = rules.items; few_switches = refl; switches = refl; few_events = refl; events = refl; few_programs = refl; programs = refl }; kind = refl; trigger = refl; event = refl })

-- ---- switches

switches_push : (structure : Structure) (kind : Kind) (least : ℕ) (switches : List Switch) (switch : Switch) → are_switches structure kind least switches ≡ true →
    is_kind (last_kind kind switches) switch.kind ≡ false → is_method_for structure switch.method ≡ true → is_within (last_trigger least switches) 2000 switch.trigger ≡ true → are_switches structure kind least (switches ++ switch ∷ []) ≡ true
switches_push structure kind least [] switch are other method later = rw (other, method, later) refl
switches_push structure kind least (first ∷ switches) switch are other method later =
    let p = and_parts _ (are_switches structure first.kind first.trigger switches) are in
    rw (p.0, switches_push structure first.kind first.trigger switches switch p.1 other method later) refl

kind_push : (kind : Kind) (switches : List Switch) (switch : Switch) → switch.kind ≡ last_kind kind (switches ++ switch ∷ [])
kind_push kind [] switch = refl
kind_push kind (first ∷ switches) switch = kind_push first.kind switches switch

trigger_push : (least : ℕ) (switches : List Switch) (switch : Switch) → switch.trigger ≡ last_trigger least (switches ++ switch ∷ [])
trigger_push least [] switch = refl
trigger_push least (first ∷ switches) switch = trigger_push first.trigger switches switch

switch_ok : (words : List Word) (switch : Switch) → switch_at words ≡ Ok switch → switch.trigger ≤ 2000
unfolding switch_at
switch_ok words switch e =
    let a = bind_ok (kind_at words) _ switch e in
    let b = bind_ok (keyword_at (codes "by") a.0.1) _ switch a.2 in
    let c = bind_ok (method_at b.0) _ switch b.2 in
    let d = bind_ok (keyword_at (codes "after") c.0.1) _ switch c.2 in
    let f = bind_ok (number_at 1 2000 faults.Range d.0) _ switch d.2 in
    let g = bind_ok (end_at f.0.1) _ switch f.2 in
    let made : Switch = record { kind = a.0.0; method = c.0.0; trigger = f.0.0 } in
    let n = number_at_ok 1 2000 faults.Range d.0 f.0 f.1 in
    subst (λ (x : Switch). x.trigger ≤ 2000) (ok_is made switch g.2) n.1

last_unless : (b : Bool) (f : Fault) → unless b f ≡ Ok tt → b ≡ false
last_unless true f e = absurd cc
last_unless false f e = refl

not_not : (b : Bool) → not b ≡ false → b ≡ true
not_not true h = refl
not_not false h = absurd cc

pub record IsSwitch (structure : Structure) (kind : Kind) (least : ℕ) (switch : Switch) : Type 0 where
  pub other : is_kind kind switch.kind ≡ false
  pub method : is_method_for structure switch.method ≡ true
  pub later : least ≤ switch.trigger

switch_fits_ok : (structure : Structure) (kind : Kind) (least : ℕ) (switch : Switch) → switch_fits structure kind least switch ≡ Ok tt → IsSwitch structure kind least switch
unfolding switch_fits
switch_fits_ok structure kind least switch e =
    let a = unless_ok (not (is_method_for structure switch.method)) faults.Generic _ tt e in
    let b = unless_ok (is_kind kind switch.kind) faults.Same _ tt a.1 in
    let c = last_unless (ltb switch.trigger least) faults.Order b.1 in
    record { other = b.0; method = not_not _ a.0; later = ltb-false _ _ c }

allowed_ok : (structure : Structure) (kind : Kind) (least : ℕ) (words : List Word) (switch : Switch) → allowed_switch structure kind least words ≡ Ok switch → IsSwitch structure kind least switch × (switch.trigger ≤ 2000)
unfolding allowed_switch
allowed_ok structure kind least words switch e =
    let a = bind_ok (switch_at words) _ switch e in
    let b = bind_ok (switch_fits structure kind least a.0) _ switch a.2 in
    subst (λ (x : Switch). IsSwitch structure kind least x × (x.trigger ≤ 2000)) (ok_is a.0 switch b.2) (switch_fits_ok structure kind least a.0 b.1, switch_ok words a.0 a.1)

pub switch_keeps : (s : State) (words : List Word) (t : State) → IsBodyState s → switch_line s words ≡ Ok t → (s.place ≡ t.place) × IsBodyState t
unfolding switch_line
switch_keeps s words t kept e =
    let rules = kept.rules in
    let a = unless_ok (leb 64 (length s.switches)) faults.Many _ t e in
    let b = bind_ok (allowed_switch s.structure s.latest_kind s.latest_switch words) _ t a.1 in
    let switch = b.0 in
    let ok = allowed_ok s.structure s.latest_kind s.latest_switch words switch b.1 in
    let is : IsSwitch s.structure (last_kind s.kind s.switches) (last_trigger 1 s.switches) switch = rw (← kept.kind, ← kept.trigger) ok.0 in
    let made : State = record s { switches = s.switches ++ switch ∷ []; latest_kind = switch.kind; latest_switch = switch.trigger } in
    let few : leb (length (s.switches ++ switch ∷ [])) 64 ≡ true = le-leb _ _ (omega (arith, length-append s.switches (switch ∷ []), leb-false _ _ a.0)) in
    let pushed = switches_push s.structure s.kind 1 s.switches switch rules.switches is.other is.method (within (last_trigger 1 s.switches) 2000 switch.trigger is.later ok.1) in
    subst (λ (u : State). (s.place ≡ u.place) × IsBodyState u) (ok_is made t b.2)
    (refl, record { rules = record { restarts = rules.restarts; sites = rules.sites; together = rules.together; few_items = rules.few_items; items = rules.items; few_switches = few; switches = pushed; few_events = rules.few_events; events = rules.events; few_programs = rules.few_programs; programs = rules.programs }; kind = kind_push s.kind s.switches switch; trigger = trigger_push 1 s.switches switch; event = kept.event })

-- ---- events

events_push : (sites : ℕ) (earlier : List Event) (least : ℕ) (events : List Event) (event : Event) → are_events sites earlier least events ≡ true →
    is_site_of sites event.site ≡ true → is_within (last_event least events) 2000 event.trigger ≡ true → is_turn event.stop (is_stopped (earlier ++ events) event.site) ≡ true → are_events sites earlier least (events ++ event ∷ []) ≡ true
events_push sites earlier least [] event are here later turn =
    let now : is_turn event.stop (is_stopped earlier event.site) ≡ true = subst (λ (xs : List Event). is_turn event.stop (is_stopped xs event.site) ≡ true) (append-nil earlier) turn in
    rw (here, later, now) refl
events_push sites earlier least (first ∷ events) event are here later turn =
    let p = and_parts _ (are_events sites (earlier ++ first ∷ []) first.trigger events) are in
    let next = events_push sites (earlier ++ first ∷ []) first.trigger events event p.1 here later (subst (λ (xs : List Event). is_turn event.stop (is_stopped xs event.site) ≡ true) (sym (append_assoc earlier (first ∷ []) events)) turn) in
    rw (p.0, next) refl

last_push : (least : ℕ) (events : List Event) (event : Event) → event.trigger ≡ last_event least (events ++ event ∷ [])
last_push least [] event = refl
last_push least (first ∷ events) event = last_push first.trigger events event

pub record IsEventOf (sites : ℕ) (stop : Bool) (event : Event) : Type 0 where
  pub site : is_site_of sites event.site ≡ true
  pub below : event.trigger ≤ 2000
  pub same : event.stop ≡ stop

event_ok : (sites : ℕ) (stop : Bool) (words : List Word) (event : Event) → event_at sites stop words ≡ Ok event → IsEventOf sites stop event
unfolding event_at
event_ok sites stop words event e =
    let a = bind_ok (number_at 1 sites faults.Site words) _ event e in
    let b = bind_ok (keyword_at (codes "after") a.0.1) _ event a.2 in
    let c = bind_ok (number_at 1 2000 faults.Range b.0) _ event b.2 in
    let d = bind_ok (end_at c.0.1) _ event c.2 in
    let n = number_at_ok 1 sites faults.Site words a.0 a.1 in
    let m = number_at_ok 1 2000 faults.Range b.0 c.0 c.1 in
    let made : Event = record { stop = stop; site = site a.0.0; trigger = c.0.0 } in
    subst (IsEventOf sites stop) (ok_is made event d.2) (record { site = within 1 sites a.0.0 n.0 n.1; below = m.1; same = refl })

pub event_keeps : (s : State) (stop : Bool) (words : List Word) (t : State) → IsBodyState s → event_line s stop words ≡ Ok t → (s.place ≡ t.place) × IsBodyState t
unfolding event_line
event_keeps s stop words t kept e =
    let rules = kept.rules in
    let a = unless_ok (leb 64 (length s.events)) faults.Many _ t e in
    let b = bind_ok (event_at s.sites stop words) _ t a.1 in
    let event = b.0 in
    let c = unless_ok (ltb event.trigger s.latest_event) faults.Order _ t b.2 in
    let d = unless_ok (not (is_turn stop (is_stopped s.events event.site))) faults.State _ t c.1 in
    let ok = event_ok s.sites stop words event b.1 in
    let turn : is_turn event.stop (is_stopped s.events event.site) ≡ true = rw ok.same (not_not _ d.0) in
    let later : is_within (last_event 1 s.events) 2000 event.trigger ≡ true = within _ 2000 event.trigger (rw (← kept.event) (ltb-false _ _ c.0)) ok.below in
    let made : State = record s { events = s.events ++ event ∷ []; latest_event = event.trigger } in
    let few : leb (length (s.events ++ event ∷ [])) 64 ≡ true = le-leb _ _ (omega (arith, length-append s.events (event ∷ []), leb-false _ _ a.0)) in
    subst (λ (u : State). (s.place ≡ u.place) × IsBodyState u) (ok_is made t d.1)
    (refl, record { rules = record { restarts = rules.restarts; sites = rules.sites; together = rules.together; few_items = rules.few_items; items = rules.items; few_switches = rules.few_switches; switches = rules.switches; few_events = few; events = events_push s.sites [] 1 s.events event rules.events ok.site later turn; few_programs = rules.few_programs; programs = rules.programs }; kind = kept.kind; trigger = kept.trigger; event = last_push 1 s.events event })

-- ---- programs

-- what is kept in a program
pub record IsProgramState (s : State) : Type 0 where
  pub body : IsBodyState s
  pub room : length s.programs < 2000
  pub home : is_site_of s.sites s.home ≡ true
  pub few : leb (length s.program) 32 ≡ true
  pub statements : list_all (is_statement (length s.items)) s.program ≡ true

-- a state that differs in the place and in the program that is being read
same_body : (s : State) (place : Place) (home : Site) (program : List Statement) → IsBodyState s → IsBodyState (record s { place = place; home = home; program = program })
same_body s place home program kept =
    let rules = kept.rules in
    record { rules = record { restarts = rules.restarts; sites = rules.sites; together = rules.together; few_items = rules.few_items; items = rules.items; few_switches = rules.few_switches; switches = rules.switches; few_events = rules.few_events; events = rules.events; few_programs = rules.few_programs; programs = rules.programs }; kind = kept.kind; trigger = kept.trigger; event = kept.event }

pub program_keeps : (s : State) (words : List Word) (t : State) → IsBodyState s → program_line s words ≡ Ok t → (t.place ≡ places.Program) × IsProgramState t
unfolding program_line
program_keeps s words t kept e =
    let a = unless_ok (leb 2000 (length s.programs)) faults.Many _ t e in
    let b = bind_ok (number_at 1 s.sites faults.Site words) _ t a.1 in
    let c = bind_ok (end_at b.0.1) _ t b.2 in
    let n = number_at_ok 1 s.sites faults.Site words b.0 b.1 in
    let made : State = record s { place = places.Program; home = site b.0.0; program = [] } in
    subst (λ (u : State). (u.place ≡ places.Program) × IsProgramState u) (ok_is made t c.2)
    (refl, record { body = same_body s places.Program (site b.0.0) [] kept; room = leb-false _ _ a.0; home = within 1 s.sites b.0.0 n.0 n.1; few = refl; statements = refl })

pub statement_keeps : (s : State) (read : Result Statement Fault) (t : State) → IsProgramState s → ((statement : Statement) → read ≡ Ok statement → is_statement (length s.items) statement ≡ true) → statement_line s read ≡ Ok t → (s.place ≡ t.place) × IsProgramState t
unfolding statement_line
statement_keeps s read t kept fits e =
    let a = unless_ok (leb 32 (length s.program)) faults.Many _ t e in
    let b = bind_ok read _ t a.1 in
    let made : State = record s { program = s.program ++ b.0 ∷ [] } in
    let few : leb (length (s.program ++ b.0 ∷ [])) 32 ≡ true = le-leb _ _ (omega (arith, length-append s.program (b.0 ∷ []), leb-false _ _ a.0)) in
    let all : list_all (is_statement (length s.items)) (s.program ++ b.0 ∷ []) ≡ true = list_all-append (is_statement (length s.items)) s.program (b.0 ∷ []) ∙ rw (kept.statements, fits b.0 b.1) refl in
    subst (λ (u : State). (s.place ≡ u.place) × IsProgramState u) (ok_is made t b.2)
    (refl, record { body = same_body s s.place s.home (s.program ++ b.0 ∷ []) kept.body; room = kept.room; home = kept.home; few = few; statements = all })

pub end_keeps : (s : State) (words : List Word) (t : State) → IsProgramState s → end_line s words ≡ Ok t → (t.place ≡ places.Body) × IsBodyState t
unfolding end_line
end_keeps s words t kept e =
    let a = bind_ok (end_at words) _ t e in
    let body = kept.body in
    let rules = body.rules in
    let homed : Homed = record { home = s.home; program = s.program } in
    let is : is_homed s.sites (length s.items) homed ≡ true = rw (kept.home, kept.few, kept.statements) refl in
    let few : leb (length (s.programs ++ homed ∷ [])) 2000 ≡ true = le-leb _ _ (omega (arith, kept.room, length-append s.programs (homed ∷ []))) in
    let all : list_all (is_homed s.sites (length s.items)) (s.programs ++ homed ∷ []) ≡ true = list_all-append (is_homed s.sites (length s.items)) s.programs (homed ∷ []) ∙ rw (rules.programs, is) refl in
    let made : State = record s { place = places.Body; programs = s.programs ++ homed ∷ []; program = [] } in
    subst (λ (u : State). (u.place ≡ places.Body) × IsBodyState u) (ok_is made t a.2)
    (refl, record { rules = record { restarts = rules.restarts; sites = rules.sites; together = rules.together; few_items = rules.few_items; items = rules.items; few_switches = rules.few_switches; switches = rules.switches; few_events = rules.few_events; events = rules.events; few_programs = few; programs = all }; kind = body.kind; trigger = body.trigger; event = body.event })

pub done_keeps : (s : State) (words : List Word) (t : State) → IsBodyState s → done_line s words ≡ Ok t → (t.place ≡ places.Over) × IsBodyState t
unfolding done_line
done_keeps s words t kept e =
    let a = bind_ok (end_at words) _ t e in
    let made : State = record s { place = places.Over } in
    subst (λ (u : State). (u.place ≡ places.Over) × IsBodyState u) (ok_is made t a.2) (refl, same_body s places.Over s.home s.program kept)
