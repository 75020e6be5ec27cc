-- What every workload keeps, as facts.
use Rattle.std.proofs.Common.{◌≡◌, ◌≤◌, true, Bool, ◌&&◌, leb, [], length}
use Rattle.std.proofs.lemmas.Bool.{and_parts, leb-true}
use Rattle.std.specs.List.{list_all}
use Rattle.raid_workload.specs.declared.workload.Workload.{Workload}
use Rattle.raid_workload.specs.Rules.{are_restarts, is_within, are_items, are_switches, are_events, is_homed}

pub record IsSized (w : Workload) : Type 0 where
  pub some_version : 1 ≤ w.version
  pub version : w.version ≤ 2
  pub restarts : w.restarts ≤ 3
  pub some_sites : 1 ≤ w.sites
  pub sites : w.sites ≤ 8
  pub items : length w.items ≤ 1024
  pub named : are_items w.sites w.items ≡ true
  pub programs : length w.programs ≤ 2000

left : (a b : Bool) → (a && b) ≡ true → a ≡ true
left a b h = let p = and_parts a b h in p.0

right : (a b : Bool) → (a && b) ≡ true → b ≡ true
right a b h = let p = and_parts a b h in p.1

pub sized : (w : Workload) → IsSized w
sized w =
    let c1 = are_restarts w.version w.restarts in
    let c2 = is_within 1 8 w.sites in
    let c3 = is_within 1 16 w.together in
    let c4 = leb (length w.items) 1024 in
    let c5 = are_items w.sites w.items in
    let c6 = leb (length w.switches) 64 in
    let c7 = are_switches w.structure w.kind 1 w.switches in
    let c8 = leb (length w.events) 64 in
    let c9 = are_events w.sites [] 1 w.events in
    let c10 = leb (length w.programs) 2000 in
    let c11 = list_all (is_homed w.sites (length w.items)) w.programs in
    let h10 = left (c1 && c2 && c3 && c4 && c5 && c6 && c7 && c8 && c9 && c10) c11 w.kept in
    let h9 = left (c1 && c2 && c3 && c4 && c5 && c6 && c7 && c8 && c9) c10 h10 in
    let h8 = left (c1 && c2 && c3 && c4 && c5 && c6 && c7 && c8) c9 h9 in
    let h7 = left (c1 && c2 && c3 && c4 && c5 && c6 && c7) c8 h8 in
    let h6 = left (c1 && c2 && c3 && c4 && c5 && c6) c7 h7 in
    let h5 = left (c1 && c2 && c3 && c4 && c5) c6 h6 in
    let h4 = left (c1 && c2 && c3 && c4) c5 h5 in
    let h3 = left (c1 && c2 && c3) c4 h4 in
    let h2 = left (c1 && c2) c3 h3 in
    let h1 = left c1 c2 h2 in
    let within = right c1 c2 h2 in
    let v1 = is_within 1 2 w.version in
    let v2 = leb w.restarts 3 in
    let v = left (v1 && v2) _ h1 in
    record {
      some_version = leb-true _ _ (left (leb 1 w.version) (leb w.version 2) (left v1 v2 v));
      version = leb-true _ _ (right (leb 1 w.version) (leb w.version 2) (left v1 v2 v));
      restarts = leb-true _ _ (right v1 v2 v);
      some_sites = leb-true _ _ (left (leb 1 w.sites) (leb w.sites 8) within);
      sites = leb-true _ _ (right (leb 1 w.sites) (leb w.sites 8) within);
      items = leb-true _ _ (right (c1 && c2 && c3) c4 h4);
      named = right (c1 && c2 && c3 && c4) c5 h5;
      programs = leb-true _ _ (right (c1 && c2 && c3 && c4 && c5 && c6 && c7 && c8 && c9) c10 h10);
    }
