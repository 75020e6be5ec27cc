-- The lines of the body but for the programs, as they are written, are read again.
use Rattle.std.proofs.Common.{◌≡◌, ℕ, ◌+◌, ◌<◌, ◌≤◌, Bool, true, false, not, ◌&&◌, leb, ltb, List, [], ◌∷◌, ◌++◌, length, map, Ok, refl, sym, arith, subst, append_assoc, codes}
use Rattle.std.specs.Fmt as fmt
use Rattle.std.proofs.lemmas.Bool.{lt-leb, le-ltb, and_parts}
use Rattle.std.proofs.lemmas.List.{append-nil, length-append}
use Rattle.raid_base.specs.declared.names.Site.{Site}
use Rattle.raid_base.specs.declared.verdict.Kind.{Kind}
use Rattle.raid_base.specs.declared.verdict.Kind.TheVariants.{Lock, Stamp, Valid, Graph}
use Rattle.raid_base.specs.declared.verdict.Structure.{Structure}
use Rattle.raid_base.specs.declared.verdict.Structure.TheVariants as structures
use Rattle.raid_base.specs.declared.verdict.Method.{Method}
use Rattle.raid_base.specs.declared.verdict.Method.TheVariants as methods
use Rattle.raid_base.specs.Sites.{site}
use Rattle.raid_scan.specs.Words.{Word, is_plain}
use Rattle.raid_tokens.specs.declared.fault.Fault.TheVariants as faults
use Rattle.raid_tokens.specs.Words.{end_at}
use Rattle.raid_tokens.proofs.Written.{number_plain}
use Rattle.raid_tokens.proofs.Again.{keyword_again, number_at_again}
use Rattle.raid_workload.specs.Rules.{is_within, is_site_of, is_kind, is_method_for, are_switches, is_stopped, is_turn, are_events}
use Rattle.raid_workload.specs.declared.workload.ItemLine.{ItemLine}
use Rattle.raid_workload.specs.declared.workload.Switch.{Switch}
use Rattle.raid_workload.specs.declared.workload.Event.{Event}
use Rattle.raid_workload.specs.declared.workload.Homed.{Homed}
use Rattle.raid_text.specs.declared.state.State.{State}
use Rattle.raid_text.specs.declared.state.Place.TheVariants as places
use Rattle.raid_text.specs.Choices.{kind_of, structure_of, method_of, kind_at, structure_at, method_at}
use Rattle.raid_text.specs.Head.{open_line}
use Rattle.raid_text.specs.Body.{switch_at, switch_fits, allowed_switch, switch_line, event_at, event_line, done_line}
use Rattle.raid_text.specs.Spelling.{kind_word, structure_word, method_word, open_words, switch_words, event_words}
use Rattle.raid_text.specs.Used.{used_line, line_after}
use Rattle.raid_text.proofs.Goes.{Goes, goes_none, goes_line, goes_then}
use Rattle.raid_text.proofs.Holders.{within_parts}
use Rattle.raid_text.proofs.States.{at_items, last_kind, last_trigger, last_event}

kind_again : (kind : Kind) (words : List Word) → kind_at (kind_word kind ∷ words) ≡ Ok (kind, words)
unfolding kind_at kind_of
kind_again Lock words = refl
kind_again Stamp words = refl
kind_again Valid words = refl
kind_again Graph words = refl

structure_again : (structure : Structure) (words : List Word) → structure_at (structure_word structure ∷ words) ≡ Ok (structure, words)
unfolding structure_at structure_of
structure_again structures.Native words = refl
structure_again structures.GenericState words = refl

method_again : (method : Method) (words : List Word) → method_at (method_word method ∷ words) ≡ Ok (method, words)
unfolding method_at method_of
method_again methods.Generic words = refl
method_again methods.Convert words = refl
method_again methods.Suffix words = refl

kind_plain : (kind : Kind) → is_plain (kind_word kind) ≡ true
kind_plain Lock = refl
kind_plain Stamp = refl
kind_plain Valid = refl
kind_plain Graph = refl

structure_plain : (structure : Structure) → is_plain (structure_word structure) ≡ true
structure_plain structures.Native = refl
structure_plain structures.GenericState = refl

method_plain : (method : Method) → is_plain (method_word method) ≡ true
method_plain methods.Generic = refl
method_plain methods.Convert = refl
method_plain methods.Suffix = refl

-- a state of the body; what the lines before it said stands in base
abbrev pub at_body : State → List Switch → Kind → ℕ → List Event → ℕ → List Homed → Site → State
at_body base switches kind trigger events latest programs home = record base { place = places.Body; switches = switches; latest_kind = kind; latest_switch = trigger; events = events; latest_event = latest; programs = programs; home = home; program = [] }

abbrev pub opened : ℕ → ℕ → ℕ → ℕ → List ItemLine → Kind → Structure → State
opened version restarts sites together items kind structure = record (at_items version restarts sites together items) { kind = kind; structure = structure }

pub goes_open : (version restarts sites together : ℕ) (items : List ItemLine) (kind : Kind) (structure : Structure) → Goes (at_items version restarts sites together items) (open_words kind structure ∷ []) (at_body (opened version restarts sites together items kind structure) [] kind 1 [] 1 [] (site 1))
unfolding line_after used_line open_line end_at
goes_open version restarts sites together items kind structure =
    goes_line (at_items version restarts sites together items) (open_words kind structure) (at_body (opened version restarts sites together items kind structure) [] kind 1 [] 1 [] (site 1))
    (rw (kind_plain kind, structure_plain structure) refl)
    (rw (kind_again kind (structure_word structure ∷ []), structure_again structure []) refl)

not_true : (b : Bool) → not b ≡ true → b ≡ false
not_true true h = absurd cc
not_true false h = refl

-- ---- switches

-- the first switch against what stands before it, and the switches behind it
record SwitchParts (structure : Structure) (kind : Kind) (least : ℕ) (s : Switch) (ss : List Switch) : Type 0 where
  other : is_kind kind s.kind ≡ false
  method : is_method_for structure s.method ≡ true
  trigger : is_within least 2000 s.trigger ≡ true
  rest : are_switches structure s.kind s.trigger ss ≡ true

switch_parts : (structure : Structure) (kind : Kind) (least : ℕ) (s : Switch) (ss : List Switch) → are_switches structure kind least (s ∷ ss) ≡ true → SwitchParts structure kind least s ss
switch_parts structure kind least s ss h =
    let a = and_parts (not (is_kind kind s.kind) && is_method_for structure s.method && is_within least 2000 s.trigger) (are_switches structure s.kind s.trigger ss) h in
    let b = and_parts (not (is_kind kind s.kind) && is_method_for structure s.method) (is_within least 2000 s.trigger) a.0 in
    let c = and_parts (not (is_kind kind s.kind)) (is_method_for structure s.method) b.0 in
    record { other = not_true _ c.0; method = c.1; trigger = b.1; rest = a.1 }

switch_again : (base : State) (switches : List Switch) (kind : Kind) (least : ℕ) (events : List Event) (latest : ℕ) (programs : List Homed) (home : Site) (s : Switch) (ss : List Switch) → SwitchParts base.structure kind least s ss → 1 ≤ least → length switches < 64 →
    Goes (at_body base switches kind least events latest programs home) (switch_words s ∷ []) (at_body base (switches ++ s ∷ []) s.kind s.trigger events latest programs home)
unfolding line_after used_line switch_line allowed_switch switch_at switch_fits end_at
switch_again base switches kind least events latest programs home s ss is some few =
    let room : leb 64 (length switches) ≡ false = lt-leb _ _ few in
    let t = within_parts least 2000 s.trigger is.trigger in
    let later : ltb s.trigger least ≡ false = le-ltb _ _ t.0 in
    goes_line (at_body base switches kind least events latest programs home) (switch_words s) (at_body base (switches ++ s ∷ []) s.kind s.trigger events latest programs home)
    (rw (kind_plain s.kind, method_plain s.method, number_plain s.trigger (omega (arith, t.1))) refl)
    (rw (room, kind_again s.kind (codes "by" ∷ method_word s.method ∷ codes "after" ∷ fmt.decimal s.trigger ∷ []), keyword_again (codes "by") (method_word s.method ∷ codes "after" ∷ fmt.decimal s.trigger ∷ []), method_again s.method (codes "after" ∷ fmt.decimal s.trigger ∷ []), keyword_again (codes "after") (fmt.decimal s.trigger ∷ []), number_at_again 1 2000 faults.Range s.trigger [] (omega (arith, some, t.0)) t.1 (omega (arith, t.1)), is.method, is.other, later) refl)

pub goes_switches : (base : State) (before : List Switch) (kind : Kind) (least : ℕ) (switches : List Switch) → are_switches base.structure kind least switches ≡ true → 1 ≤ least → length before + length switches ≤ 64 →
    Goes (at_body base before kind least [] 1 [] (site 1)) (map switch_words switches) (at_body base (before ++ switches) (last_kind kind switches) (last_trigger least switches) [] 1 [] (site 1))
goes_switches base before kind least [] are some few = subst (λ (xs : List Switch). Goes (at_body base before kind least [] 1 [] (site 1)) [] (at_body base xs kind least [] 1 [] (site 1))) (sym (append-nil before)) (goes_none (at_body base before kind least [] 1 [] (site 1)))
goes_switches base before kind least (s ∷ ss) are some few =
    let is = switch_parts base.structure kind least s ss are in
    let t = within_parts least 2000 s.trigger is.trigger in
    let one = switch_again base before kind least [] 1 [] (site 1) s ss is some (omega arith) in
    let others = goes_switches base (before ++ s ∷ []) s.kind s.trigger ss is.rest (omega (arith, some, t.0)) (omega (arith, length-append before (s ∷ []))) in
    let k = last_kind s.kind ss in
    let u = last_trigger s.trigger ss in
    subst (λ (xs : List Switch). Goes (at_body base before kind least [] 1 [] (site 1)) (map switch_words (s ∷ ss)) (at_body base xs k u [] 1 [] (site 1))) (append_assoc before (s ∷ []) ss)
    (goes_then (at_body base before kind least [] 1 [] (site 1)) (switch_words s ∷ []) (at_body base (before ++ s ∷ []) s.kind s.trigger [] 1 [] (site 1)) (map switch_words ss) (at_body base ((before ++ s ∷ []) ++ ss) k u [] 1 [] (site 1)) one others)

-- ---- stops and returns

record EventParts (sites : ℕ) (earlier : List Event) (least : ℕ) (e : Event) (es : List Event) : Type 0 where
  site : is_site_of sites e.site ≡ true
  trigger : is_within least 2000 e.trigger ≡ true
  turn : is_turn e.stop (is_stopped earlier e.site) ≡ true
  rest : are_events sites (earlier ++ e ∷ []) e.trigger es ≡ true

event_parts : (sites : ℕ) (earlier : List Event) (least : ℕ) (e : Event) (es : List Event) → are_events sites earlier least (e ∷ es) ≡ true → EventParts sites earlier least e es
event_parts sites earlier least e es h =
    let a = and_parts (is_site_of sites e.site && is_within least 2000 e.trigger && is_turn e.stop (is_stopped earlier e.site)) (are_events sites (earlier ++ e ∷ []) e.trigger es) h in
    let b = and_parts (is_site_of sites e.site && is_within least 2000 e.trigger) (is_turn e.stop (is_stopped earlier e.site)) a.0 in
    let c = and_parts (is_site_of sites e.site) (is_within least 2000 e.trigger) b.0 in
    record { site = c.0; trigger = c.1; turn = b.1; rest = a.1 }

event_again : (base : State) (switches : List Switch) (kind : Kind) (trigger : ℕ) (events : List Event) (latest : ℕ) (stop : Bool) (n at : ℕ) → is_within 1 base.sites n ≡ true → base.sites ≤ 8 → 1 ≤ latest → is_within latest 2000 at ≡ true → is_turn stop (is_stopped events (site n)) ≡ true → length events < 64 →
    let event : Event = record { stop = stop; site = site n; trigger = at } in
    Goes (at_body base switches kind trigger events latest [] (site 1)) (event_words event ∷ []) (at_body base switches kind trigger (events ++ event ∷ []) at [] (site 1))
unfolding line_after used_line event_line event_at end_at
event_again base switches kind trigger events latest true n at a small some b turn few =
    let room : leb 64 (length events) ≡ false = lt-leb _ _ few in
    let s = within_parts 1 base.sites n a in
    let t = within_parts latest 2000 at b in
    let after : ltb at latest ≡ false = le-ltb _ _ t.0 in
    goes_line _ _ _
    (rw (number_plain n (omega (arith, s.1, small)), number_plain at (omega (arith, t.1))) refl)
    (rw (room, number_at_again 1 base.sites faults.Site n (codes "after" ∷ fmt.decimal at ∷ []) s.0 s.1 (omega (arith, s.1, small)), keyword_again (codes "after") (fmt.decimal at ∷ []), number_at_again 1 2000 faults.Range at [] (omega (arith, some, t.0)) t.1 (omega (arith, t.1)), after, turn) refl)
event_again base switches kind trigger events latest false n at a small some b turn few =
    let room : leb 64 (length events) ≡ false = lt-leb _ _ few in
    let s = within_parts 1 base.sites n a in
    let t = within_parts latest 2000 at b in
    let after : ltb at latest ≡ false = le-ltb _ _ t.0 in
    goes_line _ _ _
    (rw (number_plain n (omega (arith, s.1, small)), number_plain at (omega (arith, t.1))) refl)
    (rw (room, number_at_again 1 base.sites faults.Site n (codes "after" ∷ fmt.decimal at ∷ []) s.0 s.1 (omega (arith, s.1, small)), keyword_again (codes "after") (fmt.decimal at ∷ []), number_at_again 1 2000 faults.Range at [] (omega (arith, some, t.0)) t.1 (omega (arith, t.1)), after, turn) refl)

pub goes_events : (base : State) (switches : List Switch) (kind : Kind) (trigger : ℕ) (before : List Event) (latest : ℕ) (events : List Event) → are_events base.sites before latest events ≡ true → 1 ≤ latest → length before + length events ≤ 64 → base.sites ≤ 8 →
    Goes (at_body base switches kind trigger before latest [] (site 1)) (map event_words events) (at_body base switches kind trigger (before ++ events) (last_event latest events) [] (site 1))
goes_events base switches kind trigger before latest [] are some few small = subst (λ (xs : List Event). Goes (at_body base switches kind trigger before latest [] (site 1)) [] (at_body base switches kind trigger xs latest [] (site 1))) (sym (append-nil before)) (goes_none (at_body base switches kind trigger before latest [] (site 1)))
goes_events base switches kind trigger before latest (e ∷ es) are some few small =
    let is = event_parts base.sites before latest e es are in
    let t = within_parts latest 2000 e.trigger is.trigger in
    let one = event_again base switches kind trigger before latest e.stop e.site.0 e.trigger is.site small some is.trigger is.turn (omega arith) in
    let others = goes_events base switches kind trigger (before ++ e ∷ []) e.trigger es is.rest (omega (arith, some, t.0)) (omega (arith, length-append before (e ∷ []))) small in
    let u = last_event e.trigger es in
    subst (λ (xs : List Event). Goes (at_body base switches kind trigger before latest [] (site 1)) (map event_words (e ∷ es)) (at_body base switches kind trigger xs u [] (site 1))) (append_assoc before (e ∷ []) es)
    (goes_then (at_body base switches kind trigger before latest [] (site 1)) (event_words e ∷ []) (at_body base switches kind trigger (before ++ e ∷ []) e.trigger [] (site 1)) (map event_words es) (at_body base switches kind trigger ((before ++ e ∷ []) ++ es) u [] (site 1)) one others)

pub goes_done : (base : State) (switches : List Switch) (kind : Kind) (trigger : ℕ) (events : List Event) (latest : ℕ) (programs : List Homed) (home : Site) →
    Goes (at_body base switches kind trigger events latest programs home) ((codes "done" ∷ []) ∷ []) (record (at_body base switches kind trigger events latest programs home) { place = places.Over })
unfolding line_after used_line done_line end_at
goes_done base switches kind trigger events latest programs home = goes_line _ _ _ refl refl
