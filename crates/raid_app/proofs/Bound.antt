-- The bound on a run is a small number, as the rules of a workload say.
use Rattle.std.proofs.Common.{◌≡◌, ℕ, ◌+◌, ◌*◌, ◌≤◌, Bool, true, ◌&&◌, leb, [], length, arith}
use Rattle.std.specs.List.{list_all}
use Rattle.std.proofs.lemmas.Bool.{and_parts, leb-true}
use Rattle.std.proofs.lemmas.Nat.{mul-le}
use Rattle.raid_workload.specs.declared.workload.Workload.{Workload}
use Rattle.raid_workload.specs.Rules.{are_restarts, is_within, are_items, are_switches, are_events, is_homed}
use Rattle.raid_steps.specs.World.{rounds}

front : (a b : Bool) → (a && b) ≡ true → a ≡ true
front a b h = (and_parts a b h).0

back : (a b : Bool) → (a && b) ≡ true → b ≡ true
back a b h = (and_parts a b h).1

-- what the rules say of the sizes of a workload
record Sized (w : Workload) : Type 0 where
  restarts : w.restarts ≤ 3
  sites : w.sites ≤ 8
  together : w.together ≤ 16
  items : length w.items ≤ 1024
  events : length w.events ≤ 64
  programs : length w.programs ≤ 2000

sized : (w : Workload) → Sized w
sized w =
    let a = are_restarts w.version w.restarts in
    let b = is_within 1 8 w.sites in
    let c = is_within 1 16 w.together in
    let d = leb (length w.items) 1024 in
    let e = are_items w.sites w.items in
    let f = leb (length w.switches) 64 in
    let g = are_switches w.structure w.kind 1 w.switches in
    let h = leb (length w.events) 64 in
    let i = are_events w.sites [] 1 w.events in
    let j = leb (length w.programs) 2000 in
    let k = list_all (is_homed w.sites (length w.items)) w.programs in
    let to-j = front (a && b && c && d && e && f && g && h && i && j) k w.kept in
    let to-h = front (a && b && c && d && e && f && g && h) i (front (a && b && c && d && e && f && g && h && i) j to-j) in
    let to-d = front (a && b && c && d) e (front (a && b && c && d && e) f (front (a && b && c && d && e && f) g (front (a && b && c && d && e && f && g) h to-h))) in
    let to-c = front (a && b && c) d to-d in
    let to-b = front (a && b) c to-c in
    let some = is_within 1 2 w.version in
    record {
      restarts = leb-true _ _ (back some (leb w.restarts 3) (front (some && leb w.restarts 3) _ (front a b to-b)));
      sites = leb-true _ _ (back (leb 1 w.sites) (leb w.sites 8) (back a b to-b));
      together = leb-true _ _ (back (leb 1 w.together) (leb w.together 16) (back (a && b) c to-c));
      items = leb-true _ _ (back (a && b && c) d to-d);
      events = leb-true _ _ (back (a && b && c && d && e && f && g) h to-h);
      programs = leb-true _ _ (back (a && b && c && d && e && f && g && h && i) j to-j);
    }

few : (r s t i e p : ℕ) → r ≤ 3 → s ≤ 8 → t ≤ 16 → i ≤ 1024 → e ≤ 64 → p ≤ 2000 →
    1 + s + ((r + 1) * p + t * e) * (132 + 6 * e + 4 * s) + e * (s + 2) + 3 * s * i * e ≤ 10000000
few r s t i e p hr hs ht hi he hp =
    let first : (r + 1) * p ≤ 8000 = mul-le (r + 1) p 4 2000 (let q : r + 1 ≤ 4 = omega (arith, hr) in q) hp in
    let lost : t * e ≤ 1024 = mul-le t e 16 64 ht he in
    let each : 132 + 6 * e + 4 * s ≤ 548 = omega (arith, hs, he) in
    let made : ((r + 1) * p + t * e) * (132 + 6 * e + 4 * s) ≤ 4945152 = mul-le ((r + 1) * p + t * e) (132 + 6 * e + 4 * s) 9024 548 (let q : (r + 1) * p + t * e ≤ 9024 = omega (arith, first, lost) in q) each in
    let stops : e * (s + 2) ≤ 640 = mul-le e (s + 2) 64 10 he (let q : s + 2 ≤ 10 = omega (arith, hs) in q) in
    let copies : 3 * s * i * e ≤ 1572864 = mul-le (3 * s * i) e 24576 64 (mul-le (3 * s) i 24 1024 (let q : 3 * s ≤ 24 = omega (arith, hs) in q) hi) he in
    omega (arith, made, stops, copies, hs)

pub few_rounds : (w : Workload) → rounds w ≤ 10000000
few_rounds w =
    let z = sized w in
    few w.restarts w.sites w.together (length w.items) (length w.events) (length w.programs) z.restarts z.sites z.together z.items z.events z.programs
