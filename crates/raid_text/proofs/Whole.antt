-- What is written for a workload reads as that workload.
use Rattle.std.proofs.Common.{[], ◌∷◌, List, ap, ◌∙◌, arith}
use Rattle.std.proofs.lemmas.Bool.{leb-true}
use Rattle.raid_base.specs.Sites.{site}
use Rattle.raid_scan.specs.Words.{Word}
use Rattle.raid_scan.proofs.Written.{read_back}
use Rattle.raid_workload.specs.declared.workload.Workload.{Workload}
use Rattle.raid_text.specs.declared.state.State.{State}
use Rattle.raid_text.specs.declared.state.Place.TheVariants as places
use Rattle.raid_text.specs.Said.{said, opening}
use Rattle.raid_text.specs.Outcome.{Reads, ended, outcome_from, outcome_of}
use Rattle.raid_text.specs.Spelling.{version_words, sites_words, restarts_lines, spelling, print_of}
use Rattle.raid_text.proofs.BodyAgain.{at_body, opened, goes_open, goes_switches, goes_events, goes_done}
use Rattle.raid_text.proofs.Goes.{Goes, goes_then, goes_outcome}
use Rattle.raid_text.proofs.HeadAgain.{goes_head, goes_items}
use Rattle.raid_text.proofs.Holders.{within_parts}
use Rattle.raid_text.proofs.Items.{names}
use Rattle.raid_text.proofs.ProgramsAgain.{last_home, goes_programs}
use Rattle.raid_text.proofs.States.{last_kind, last_trigger, last_event, rules_of}

abbrev base_of : Workload → State
base_of w = opened w.version w.restarts w.sites w.together w.items w.kind w.structure

abbrev final : Workload → State
final w = record (at_body (base_of w) w.switches (last_kind w.kind w.switches) (last_trigger 1 w.switches) w.events (last_event 1 w.events) w.programs (last_home (site 1) w.programs)) { place = places.Over }

goes_all : (w : Workload) → Goes opening (spelling w) (final w)
unfolding spelling
goes_all w =
    let is = rules_of (said w) w.kept in
    let small = within_parts 1 8 w.sites is.sites in
    let base = base_of w in
    let k = last_kind w.kind w.switches in
    let t = last_trigger 1 w.switches in
    let e = last_event 1 w.events in
    let inner : State = at_body base w.switches k t w.events e [] (site 1) in
    let done = goes_done base w.switches k t w.events e w.programs (last_home (site 1) w.programs) in
    let programs = goes_programs inner [] (site 1) w.programs (names w.sites w.items is.items) is.programs small.1 (omega (arith, leb-true _ _ is.few_programs)) in
    let events = goes_events base w.switches k t [] 1 w.events is.events (omega arith) (omega (arith, leb-true _ _ is.few_events)) small.1 in
    let switches = goes_switches base [] w.kind 1 w.switches is.switches (omega arith) (omega (arith, leb-true _ _ is.few_switches)) in
    let opens = goes_open w.version w.restarts w.sites w.together w.items w.kind w.structure in
    let items = goes_items w.version w.restarts w.sites w.together [] w.items is.items (omega (arith, leb-true _ _ is.few_items)) small.1 in
    let head = goes_head w.version w.restarts w.sites w.together is.restarts is.sites is.together in
    goes_then _ (version_words w.version ∷ sites_words w.sites w.together ∷ restarts_lines w.version w.restarts) _ _ _ head (goes_then _ _ _ _ _ items (goes_then _ _ _ _ _ opens (goes_then _ _ _ _ _ switches (goes_then _ _ _ _ _ events (goes_then _ _ _ _ _ programs done)))))

pub print_reads : (w : Workload) → Reads (print_of w) w
unfolding outcome_of ended
print_reads w =
    let all = goes_all w in
    ap (λ (ls : List (List Word)). outcome_from 1 opening ls) (read_back (spelling w) all.plain) ∙ goes_outcome 1 opening (spelling w) (final w) all.state
