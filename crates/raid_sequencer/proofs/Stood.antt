-- What the kept parts say to those who ask them, and what stays when they are asked.
use Rattle.std.proofs.Common.{◌≡◌, ℕ, true, List, [], ◌∷◌, ◌++◌, Some, None, refl, subst, arith, sym, ap, ◌∙◌}
use Rattle.raid_base.specs.declared.names.Txn.{Txn}
use Rattle.raid_base.specs.declared.names.Site.{Site}
use Rattle.raid_base.specs.declared.request.Request.{Request}
use Rattle.raid_base.specs.declared.entry.Entry.{Entry}
use Rattle.raid_base.specs.declared.entry.Entry.TheVariants.{Abort, Commit, SwitchOn, SwitchEnd}
use Rattle.raid_base.specs.declared.entry.Noted.{Noted}
use Rattle.raid_workload.specs.declared.workload.Workload.{Workload}
use Rattle.std.proofs.lemmas.Grind.{common_steps}
use Rattle.raid_rules.specs.History.{noted, next, is_running}
use Rattle.raid_legal.specs.Legal.{is_free}
use Rattle.raid_placed.specs.Placed.{Placed}
use Rattle.raid_placed.proofs.Settled.{settle_step, settle_done}
use Rattle.raid_steps.specs.Sequencer.{so_far, place, settle}
use Rattle.raid_rules.specs.Sessions.{turn_vector, is_site_up}
use Rattle.raid_rules.proofs.Push.{noted_push, vector_push}
use Rattle.raid_legal.specs.Seen.{vector, is_up}
use Rattle.raid_legal.specs.Forced.{forced}
use Rattle.raid_legal.proofs.Left.{Compels, forced_compels}
use Rattle.raid_conflict.specs.declared.state.State.{State}
use Rattle.raid_conflict.specs.Live as graphs
use Rattle.raid_faillock.specs.Stands.{names_sites}
use Rattle.raid_switch.specs.declared.eras.Eras.{Eras}
use Rattle.raid_decide.specs.Stand.{AreKept, PartsStand, SwitchesStand}
use Rattle.raid_steps.specs.State.{Out, Turn, Sequencer}
use Rattle.raid_record.specs.declared.records.Record.{Record}
use Rattle.raid_record.specs.Tells as records
use Rattle.raid_boxed.specs.Boxed.{Says}
use Rattle.raid_sequencer.specs.declared.parts.Parts.{Parts}
use Rattle.raid_sequencer.specs.Kept.{IsKept}
use Rattle.raid_sequencer.proofs.Asked.{asked_on}

-- the parts that answers are asked of
pub stand_of : {V : Type 0} {D : V → Type 0} (say : Says V D) (w : Workload) (parts : Parts V D) → IsKept say w parts → PartsStand say w parts.record.history parts.record.locks parts.record.waits parts.force.eras
stand_of say w parts k = record {
  asked = record { placed = k.kept.placed; views = (k.force.in_step k.goes_on).views };
  locked = k.kept.tables.locks;
  waited = k.kept.tables.waits;
}

-- and those that forced entries are
pub switches_of : {V : Type 0} {D : V → Type 0} (say : Says V D) (w : Workload) (parts : Parts V D) → IsKept say w parts →
    SwitchesStand w parts.record.history parts.record.graph parts.force.eras.since parts.force.switches parts.force.off
switches_of say w parts k =
    let step = k.force.in_step k.goes_on in
    record { drawn = k.kept.tables.graph; joined = step.since; counted = step.switches; aborted = step.off }

-- the record with a graph that stands for the history too
drawn_on : (w : Workload) (r : Record) (graph : State) → graphs.Stands graph (noted r.history) → records.IsKept w r → records.IsKept w (record r { graph = graph })
drawn_on w r graph stands k = record {
  placed = k.placed;
  tables = record {
    graph = stands;
    locks = k.tables.locks;
    waits = k.tables.waits;
    nexts = k.tables.nexts;
    left = k.tables.left;
    begun = k.tables.begun;
    waited = k.tables.waited;
  };
  sites = k.sites;
}

pub drawn_turns : (w : Workload) (r : Record) (graph : State) (outs : List Out) → ((view : List Noted) → graphs.Stands r.graph view → graphs.Stands graph view) → records.Turns w r outs (record r { graph = graph }) outs (λ turn. turn)
drawn_turns w r graph outs keeps turn o = record {
  state = record {
    kept = drawn_on w r graph (keeps _ o.state.kept.tables.graph) o.state.kept;
    history = o.state.history;
    announced = o.state.announced;
    copying = o.state.copying;
  };
  outs = o.outs;
}

-- asking leaves the parts kept
pub kept_asked : {V : Type 0} {D : V → Type 0} (say : Says V D) (w : Workload) (parts : Parts V D) (graph : State) (eras : Eras V D) → ((view : List Noted) → graphs.Stands parts.record.graph view → graphs.Stands graph view) →
    AreKept say parts.force.eras eras → IsKept say w parts → IsKept say w (record parts { «record» = record (parts.record) { graph = graph }; force = record (parts.force) { eras = eras } })
kept_asked say w parts graph eras keeps same k = record {
  kept = drawn_on w parts.record graph (keeps _ k.kept.tables.graph) k.kept;
  force = asked_on say w parts.force eras (noted parts.record.history) same k.force;
  goes_on = k.goes_on;
}

-- a forced entry names no site but the workload's
compels_names : (w : Workload) (p : List Noted) (e : Entry) → Compels w p e → names_sites w.sites e ≡ true
compels_names w p (Abort t cause act) c = refl
compels_names w p (Commit t request applied) c = refl
compels_names w p (SwitchOn k kind method) c = refl
compels_names w p (SwitchEnd k) c = refl
compels_names w p other c = absurd c

pub forced_names : (w : Workload) (p : List Noted) (e : Entry) → forced w p ≡ Some e → names_sites w.sites e ≡ true
forced_names w p e q = compels_names w p e (forced_compels w p e q)

-- so does a question that leaves the waiting requests as they were
waited_on : (w : Workload) (r : Record) (waits : List (Txn × Request)) → waits ≡ r.waits → records.IsKept w r → records.IsKept w (record r { waits = waits })
waited_on w r waits same k = record {
  placed = k.placed;
  tables = record {
    graph = k.tables.graph;
    locks = k.tables.locks;
    waits = same ∙ k.tables.waits;
    nexts = k.tables.nexts;
    left = k.tables.left;
    begun = k.tables.begun;
    waited = k.tables.waited;
  };
  sites = k.sites;
}

pub waited_turns : (w : Workload) (r : Record) (waits : List (Txn × Request)) (outs : List Out) → waits ≡ r.waits → records.Turns w r outs (record r { waits = waits }) outs (λ turn. turn)
waited_turns w r waits outs same turn o = record {
  state = record {
    kept = waited_on w r waits same o.state.kept;
    history = o.state.history;
    announced = o.state.announced;
    copying = o.state.copying;
  };
  outs = o.outs;
}

pub kept_waiting : {V : Type 0} {D : V → Type 0} (say : Says V D) (w : Workload) (parts : Parts V D) (waits : List (Txn × Request)) (eras : Eras V D) → waits ≡ parts.record.waits →
    AreKept say parts.force.eras eras → IsKept say w parts → IsKept say w (record parts { «record» = record (parts.record) { waits = waits }; force = record (parts.force) { eras = eras } })
kept_waiting say w parts waits eras same keeps k = record {
  kept = waited_on w parts.record waits same k.kept;
  force = asked_on say w parts.force eras (noted parts.record.history) keeps k.force;
  goes_on = k.goes_on;
}

pub kept_reading : {V : Type 0} {D : V → Type 0} (say : Says V D) (w : Workload) (parts : Parts V D) (eras : Eras V D) →
    AreKept say parts.force.eras eras → IsKept say w parts → IsKept say w (record parts { force = record (parts.force) { eras = eras } })
kept_reading say w parts eras keeps k = record {
  kept = k.kept;
  force = asked_on say w parts.force eras (noted parts.record.history) keeps k.force;
  goes_on = k.goes_on;
}

-- what may ask runs
pub free_runs : (p : List Noted) (t : Txn) → is_free p t ≡ true → is_running p t ≡ true
free_runs p t free = grind (arith, common_steps, free)

-- what settles the turn with a forced entry placed settles the turn
pub settle_before : (w : Workload) (before after last : Record) (sent more all : List Out) (e : Entry) → records.IsKept w before → forced w (noted before.history) ≡ Some e →
    records.Turns w before sent after more (λ turn. place w 0 turn e) → records.Turns w after more last all (settle w) → records.Turns w before sent last all (settle w)
settle_before w before after last sent more all e k q first rest turn o =
    let here : forced w (so_far turn) ≡ Some e = subst (λ (h : List Entry). forced w (noted h) ≡ Some e) o.state.history q in
    let placed : Placed w turn.state.history = subst (Placed w) o.state.history k.placed in
    subst (records.IsOf w last all) (sym (settle_step w turn e placed here)) (rest (place w 0 turn e) (first turn o))

-- where none is forced the turn is settled
pub settle_none : (w : Workload) (r : Record) (sent : List Out) → forced w (noted r.history) ≡ None → records.Turns w r sent r sent (settle w)
settle_none w r sent q turn o =
    let here : forced w (so_far turn) ≡ None = subst (λ (h : List Entry). forced w (noted h) ≡ None) o.state.history q in
    let placed : Placed w turn.state.history = subst (Placed w) o.state.history o.state.kept.placed in
    subst (records.IsOf w r sent) (sym (settle_done w turn placed here)) o

-- one step after another
pub then_turns : (w : Workload) (a b c : Record) (x y z : List Out) (f g : Turn Sequencer → Turn Sequencer) → records.Turns w a x b y f → records.Turns w b y c z g → records.Turns w a x c z (λ turn. g (f turn))
then_turns w a b c x y z f g first second turn o = second (f turn) (first turn o)

-- forced entries leave the sites as they are
compelled_still : (w : Workload) (p : List Noted) (e : Entry) (v : List ℕ) → Compels w p e → turn_vector v e ≡ v
compelled_still w p (Abort t cause act) v c = refl
compelled_still w p (Commit t request applied) v c = refl
compelled_still w p (SwitchOn k kind method) v c = refl
compelled_still w p (SwitchEnd k) v c = refl
compelled_still w p other v c = absurd c

pub forced_still : (w : Workload) (h : List Entry) (e : Entry) (s : Site) → forced w (noted h) ≡ Some e → is_up w (noted (h ++ e ∷ [])) s ≡ is_up w (noted h) s
forced_still w h e s q =
    ap (λ p. is_up w p s) (noted_push h e)
    ∙ ap (λ v. is_site_up v s) (vector_push w.sites (noted h) (next (noted h) e) ∙ compelled_still w (noted h) e (vector w (noted h)) (forced_compels w (noted h) e q))
