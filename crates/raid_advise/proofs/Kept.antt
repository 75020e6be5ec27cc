-- A workload with a switch that may be added keeps the rules.
use Rattle.std.proofs.Common.{◌≡◌, ℕ, ◌<◌, ◌≤◌, Bool, true, false, not, ◌&&◌, nat_lt, nat_le, List, [], ◌∷◌, ◌++◌, length, fold, arith, refl, sym}
use Rattle.std.specs.List.{list_all}
use Rattle.std.proofs.lemmas.Bool.{and_parts, le-leb, leb-true, lt-ltb, ltb-true, true≢false}
use Rattle.std.proofs.lemmas.List.{length-append}
use Rattle.raid_base.specs.declared.verdict.Kind.{Kind}
use Rattle.raid_base.specs.declared.verdict.Structure.{Structure}
use Rattle.raid_workload.specs.declared.workload.ItemLine.{ItemLine}
use Rattle.raid_workload.specs.declared.workload.Switch.{Switch}
use Rattle.raid_workload.specs.declared.workload.Event.{Event}
use Rattle.raid_workload.specs.declared.workload.Homed.{Homed}
use Rattle.raid_workload.specs.declared.workload.Workload.{Workload}
use Rattle.raid_workload.specs.Rules.{is_within, is_kind, is_method_for, are_restarts, are_items, are_switches, are_events, is_homed, is_workload}
use Rattle.raid_text.specs.Said.{are_kept}
use Rattle.raid_text.specs.Outcome.{Reads}
use Rattle.raid_text.specs.Spelling.{print_of}
use Rattle.raid_advise.specs.Added.{last_kind, last_trigger, may_be_added, with_switch, ReadsWith}

-- the last kind and the last trigger behind those given
abbrev pub kind_from : Kind → List Switch → Kind
kind_from kind ss = fold (λ before (s : Switch). s.kind) kind ss

abbrev pub trigger_from : ℕ → List Switch → ℕ
trigger_from least ss = fold (λ before (s : Switch). s.trigger) least ss

-- a switch behind others keeps the rule of switches
switches_push : (structure : Structure) (kind : Kind) (least : ℕ) (ss : List Switch) (s : Switch) → are_switches structure kind least ss ≡ true →
    is_kind (kind_from kind ss) s.kind ≡ false → is_method_for structure s.method ≡ true → is_within (trigger_from least ss) 2000 s.trigger ≡ true →
    are_switches structure kind least (ss ++ s ∷ []) ≡ true
switches_push structure kind least [] s are other method later = rw (other, method, later) refl
switches_push structure kind least (first ∷ ss) s are other method later =
    let p = and_parts _ (are_switches structure first.kind first.trigger ss) are in
    rw (p.0, switches_push structure first.kind first.trigger ss s p.1 other method later) refl

-- the last trigger is no more than 2,000
pub last_within : (structure : Structure) (kind : Kind) (least : ℕ) (ss : List Switch) → are_switches structure kind least ss ≡ true → least ≤ 2000 → trigger_from least ss ≤ 2000
last_within structure kind least [] are low = low
last_within structure kind least (s ∷ ss) are low =
    let p = and_parts _ (are_switches structure s.kind s.trigger ss) are in
    let q = and_parts _ (is_within least 2000 s.trigger) p.0 in
    let r = and_parts (nat_le least s.trigger) (nat_le s.trigger 2000) q.1 in
    last_within structure s.kind s.trigger ss p.1 (leb-true s.trigger 2000 r.1)

-- the rules before the switches, those of the switches, and those behind
pub record Parts (w : Workload) : Type 0 where
  pub before : (are_restarts w.version w.restarts && is_within 1 8 w.sites && is_within 1 16 w.together && nat_le (length w.items) 1024 && are_items w.sites w.items) ≡ true
  pub few : nat_le (length w.switches) 64 ≡ true
  pub switches : are_switches w.structure w.kind 1 w.switches ≡ true
  pub few_events : nat_le (length w.events) 64 ≡ true
  pub events : are_events w.sites [] 1 w.events ≡ true
  pub few_programs : nat_le (length w.programs) 2000 ≡ true
  pub programs : list_all (is_homed w.sites (length w.items)) w.programs ≡ true

pub parts : (w : Workload) → Parts w
parts w =
    let a = and_parts _ (list_all (is_homed w.sites (length w.items)) w.programs) w.kept in
    let b = and_parts _ (nat_le (length w.programs) 2000) a.0 in
    let c = and_parts _ (are_events w.sites [] 1 w.events) b.0 in
    let d = and_parts _ (nat_le (length w.events) 64) c.0 in
    let e = and_parts _ (are_switches w.structure w.kind 1 w.switches) d.0 in
    let f = and_parts _ (nat_le (length w.switches) 64) e.0 in
    record { before = f.0; few = f.1; switches = e.1; few_events = d.1; events = c.1; few_programs = b.1; programs = a.1 }

-- what it takes to be added
pub record Addable (w : Workload) (s : Switch) : Type 0 where
  pub room : length w.switches < 64
  pub other : is_kind (last_kind w) s.kind ≡ false
  pub method : is_method_for w.structure s.method ≡ true
  pub within : is_within (last_trigger w) 2000 s.trigger ≡ true

not_so : (b : Bool) → not b ≡ true → b ≡ false
not_so false q = refl
not_so true q = absurd (true≢false (sym q))

pub addable : (w : Workload) (s : Switch) → may_be_added w s ≡ true → Addable w s
addable w s m =
    let a = and_parts _ (is_within (last_trigger w) 2000 s.trigger) m in
    let b = and_parts _ (is_method_for w.structure s.method) a.0 in
    let c = and_parts (nat_lt (length w.switches) 64) (not (is_kind (last_kind w) s.kind)) b.0 in
    record { room = ltb-true _ _ c.0; other = not_so (is_kind (last_kind w) s.kind) c.1; method = b.1; within = a.1 }

pub may_add : (w : Workload) (s : Switch) → Addable w s → may_be_added w s ≡ true
may_add w s a = rw (lt-ltb _ _ a.room, a.other, a.method, a.within) refl

pub with_kept : (w : Workload) (s : Switch) → may_be_added w s ≡ true → are_kept (with_switch w s) ≡ true
with_kept w s m =
    let p = parts w in
    let a = addable w s m in
    let few : nat_le (length (w.switches ++ s ∷ [])) 64 ≡ true = le-leb _ _ (omega (arith, length-append w.switches (s ∷ []), a.room)) in
    rw (p.before, few, switches_push w.structure w.kind 1 w.switches s p.switches a.other a.method a.within, p.few_events, p.events, p.few_programs, p.programs) refl

-- so do parts that are the same
pub parts_kept : (w : Workload) (s : Switch) (items : List ItemLine) (switches : List Switch) (events : List Event) (programs : List Homed) → may_be_added w s ≡ true →
    items ≡ w.items → switches ≡ w.switches ++ s ∷ [] → events ≡ w.events → programs ≡ w.programs →
    is_workload w.version w.restarts w.sites w.together items w.kind w.structure switches events programs ≡ true
parts_kept w s items switches events programs m i ss e p = rw (i, ss, e, p) (with_kept w s m)

-- the workload with the switch
abbrev added : (w : Workload) (s : Switch) → may_be_added w s ≡ true → Workload
added w s m = record { version = w.version; restarts = w.restarts; sites = w.sites; together = w.together; items = w.items; kind = w.kind; structure = w.structure; switches = w.switches ++ s ∷ []; events = w.events; programs = w.programs; kept = with_kept w s m }

-- where what is written for a workload reads as it, so does what is written for this one
pub added_reads : ((v : Workload) → Reads (print_of v) v) → (w : Workload) (s : Switch) → may_be_added w s ≡ true → ReadsWith w s
added_reads print_reads w s m = (added w s m, refl, print_reads (added w s m))
