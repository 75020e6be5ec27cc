-- The tables and the replay after one more entry, and after questions.
use Rattle.std.proofs.Common.{◌≡◌, ◌<◌, true, List, [], ◌∷◌, ◌++◌, length, arith, ap, sym, subst, ◌∙◌}
use Rattle.std.proofs.lemmas.List.Sums.{count_by-le-length}
use Rattle.raid_base.specs.declared.names.Txn.{Txn}
use Rattle.raid_base.specs.declared.names.Site.{Site}
use Rattle.raid_base.specs.declared.request.Request.{Request}
use Rattle.raid_base.specs.declared.entry.Entry.{Entry}
use Rattle.raid_base.specs.declared.entry.Noted.{Noted}
use Rattle.raid_base.specs.Names.{is_site, has_txn}
use Rattle.raid_workload.specs.declared.workload.Workload.{Workload}
use Rattle.raid_workload.specs.Parts.{txns}
use Rattle.raid_rules.specs.Entries.{is_down, is_up}
use Rattle.raid_rules.specs.History.{noted, add, is_running, has_begun}
use Rattle.raid_rules.proofs.Push.{noted_push}
use Rattle.raid_legal.specs.Legal.{Legal, Allowed, is_free}
use Rattle.raid_legal.proofs.Push.{legal_push}
use Rattle.std.proofs.lemmas.Bool.{and_parts}
use Rattle.raid_history.proofs.Stand.{length_noted}
use Rattle.raid_conflict.specs.declared.state.State.{State}
use Rattle.raid_conflict.specs.Live as graphs
use Rattle.raid_switch.specs.declared.eras.Eras.{Eras}
use Rattle.raid_placed.specs.Placed.{Placeable}
use Rattle.raid_placed.proofs.Sent.{legal_placed, placed_push}
use Rattle.raid_decide.specs.Stand.{AreKept, PartsStand, SwitchesStand}
use Rattle.raid_record.specs.Keeps as records
use Rattle.raid_record.specs.Tells.{Suits}
use Rattle.raid_record.proofs.Placing.{suits}
use Rattle.raid_boxed.specs.Boxed.{Says}
use Rattle.raid_check.proofs.Asked.{asked_on}
use Rattle.raid_seen.specs.declared.outages.Outage.{Outage}
use Rattle.raid_seen.specs.Tables.{outage_of, AreValues, AreReadings, AreOutages}
use Rattle.raid_check.specs.declared.tables.Tables.{Tables}
use Rattle.raid_check.specs.declared.replay.Replay.{Replay}
use Rattle.raid_check.specs.Replay.{AreOf, Stands}
use Rattle.raid_check.proofs.Known.{allowed_names}

-- an entry that is allowed may be placed
pub allowed_placeable : (w : Workload) (h : List Entry) (e : Entry) → Legal w h → Allowed w (noted h) e → Placeable w (noted h) e
allowed_placeable w h e l a = ((placed_push w h e).0 (legal_placed w (h ++ e ∷ []) ((legal_push w h e).1 (l, a)))).1

-- and suits the tables
pub allowed_suits : (w : Workload) (t : Tables) (e : Entry) → AreOf w t → Allowed w (noted t.history) e → Suits w (noted t.history) e
allowed_suits w t e o a = suits w t.history e t.locks (legal_placed w t.history o.legal) (allowed_placeable w t.history e o.legal a) (allowed_names w t.history e o.legal a) o.kept.locks

-- no site has gone down or come up more often than there are entries
pub few_downs : (rows : List Outage) (h : List Entry) (s : Site) → AreOutages rows (noted h) → length h < 4294967295 → (outage_of rows s).downs < 4294967295
few_downs rows h s o short = omega (arith, o.downs s, count_by-le-length (λ (n : Noted). is_down (is_site s) n.entry) (noted h), length_noted h, short)

pub few_ups : (rows : List Outage) (h : List Entry) (s : Site) → AreOutages rows (noted h) → length h < 4294967295 → (outage_of rows s).ups < 4294967295
few_ups rows h s o short = omega (arith, o.ups s, count_by-le-length (λ (n : Noted). is_up (is_site s) n.entry) (noted h), length_noted h, short)

-- the tables with one entry more
pub more_tables : (w : Workload) (t u : Tables) (e : Entry) → Legal w t.history → Allowed w (noted t.history) e → u.history ≡ t.history ++ e ∷ [] →
    records.Stands w u.graph u.locks u.waits u.nexts u.left (add (noted t.history) e) → AreValues w u.values (add (noted t.history) e) → AreReadings w u.readings (add (noted t.history) e) → AreOutages u.outages (add (noted t.history) e) → AreOf w u
more_tables w t u e l a is kept values readings outages =
    let p : noted u.history ≡ add (noted t.history) e = ap noted is ∙ noted_push t.history e in
    record {
      legal = subst (Legal w) (sym is) ((legal_push w t.history e).1 (l, a));
      kept = subst (λ q. records.Stands w u.graph u.locks u.waits u.nexts u.left q) (sym p) kept;
      values = subst (AreValues w u.values) (sym p) values;
      readings = subst (AreReadings w u.readings) (sym p) readings;
      outages = subst (AreOutages u.outages) (sym p) outages;
    }

-- who is free runs, and who runs is of the workload
pub free_running : (p : List Noted) (t : Txn) → is_free p t ≡ true → is_running p t ≡ true
free_running p t f = (and_parts (is_running p t) _ f).0

pub running_known : (w : Workload) (t : Tables) (u : Txn) → AreOf w t → is_running (noted t.history) u ≡ true → has_txn (txns w) u ≡ true
running_known w t u o r = o.kept.begun u (and_parts (has_begun (noted t.history) u) _ r).0

-- what is asked of the tables
pub parts_of : {V : Type 0} {D : V → Type 0} (say : Says V D) (w : Workload) (r : Replay V D) → Stands say w r → PartsStand say w r.tables.history r.tables.locks r.tables.waits r.force.eras
parts_of say w r k = record {
  asked = record { placed = legal_placed w r.tables.history k.tables.legal; views = (k.force.in_step k.goes_on).views };
  locked = k.tables.kept.locks;
  waited = k.tables.kept.waits;
}

pub switches_of : {V : Type 0} {D : V → Type 0} (say : Says V D) (w : Workload) (r : Replay V D) → Stands say w r → SwitchesStand w r.tables.history r.tables.graph r.force.eras.since r.force.switches r.force.off
switches_of say w r k =
    let step = k.force.in_step k.goes_on in
    record { drawn = k.tables.kept.graph; joined = step.since; counted = step.switches; aborted = step.off }

-- the tables stay those of the history when they are asked
tables_asked : (w : Workload) (t : Tables) (graph : State) (waits : List (Txn × Request)) → graphs.Stands graph (noted t.history) → waits ≡ t.waits → AreOf w t → AreOf w (record t { graph = graph; waits = waits })
tables_asked w t graph waits drawn same o = record {
  legal = o.legal;
  kept = record {
    graph = drawn;
    locks = o.kept.locks;
    waits = same ∙ o.kept.waits;
    nexts = o.kept.nexts;
    left = o.kept.left;
    begun = o.kept.begun;
    waited = o.kept.waited;
  };
  values = o.values;
  readings = o.readings;
  outages = o.outages;
}

-- so does the replay
pub asked_graph : {V : Type 0} {D : V → Type 0} (say : Says V D) (w : Workload) (r : Replay V D) (graph : State) (eras : Eras V D) → ((view : List Noted) → graphs.Stands r.tables.graph view → graphs.Stands graph view) → AreKept say r.force.eras eras → Stands say w r →
    Stands say w (record { tables = record (r.tables) { graph = graph }; force = record (r.force) { eras = eras } })
asked_graph say w r graph eras keeps same k = record {
  tables = tables_asked w r.tables graph r.tables.waits (keeps _ k.tables.kept.graph) (λ i. r.tables.waits) k.tables;
  force = asked_on say w r.force eras (noted r.tables.history) same k.force;
  goes_on = k.goes_on;
}

pub asked_waits : {V : Type 0} {D : V → Type 0} (say : Says V D) (w : Workload) (r : Replay V D) (waits : List (Txn × Request)) (eras : Eras V D) → waits ≡ r.tables.waits → AreKept say r.force.eras eras → Stands say w r →
    Stands say w (record { tables = record (r.tables) { waits = waits }; force = record (r.force) { eras = eras } })
asked_waits say w r waits eras is same k = record {
  tables = tables_asked w r.tables r.tables.graph waits k.tables.kept.graph is k.tables;
  force = asked_on say w r.force eras (noted r.tables.history) same k.force;
  goes_on = k.goes_on;
}

pub asked_eras : {V : Type 0} {D : V → Type 0} (say : Says V D) (w : Workload) (r : Replay V D) (eras : Eras V D) → AreKept say r.force.eras eras → Stands say w r → Stands say w (record { tables = r.tables; force = record (r.force) { eras = eras } })
asked_eras say w r eras same k = record {
  tables = k.tables;
  force = asked_on say w r.force eras (noted r.tables.history) same k.force;
  goes_on = k.goes_on;
}
