-- What every workload keeps, as its rules say: few sites and switches, and homes that are sites.
use Rattle.std.proofs.Common.{◌≡◌, ℕ, zero, suc, ◌+◌, ◌-◌, ◌*◌, ◌%◌, ◌<◌, ◌≤◌, ◌==◌, nat_lt, nat_le, Bool, true, false, ◌&&◌, ◌||◌, List, [], ◌∷◌, map, length, slice_get, arith, ap, sym, ◌∙◌}
use Rattle.std.specs.List.{list_all}
use Rattle.std.specs.Option.{option_map_or}
use Rattle.std.proofs.lemmas.Bool.{and_parts}
use Rattle.raid_base.specs.declared.names.Txn.{Txn}
use Rattle.raid_base.specs.declared.names.Site.{Site}
use Rattle.raid_base.specs.Names.{has_txn}
use Rattle.raid_base.specs.Sites.{site}
use Rattle.raid_workload.specs.declared.workload.Workload.{Workload}
use Rattle.raid_workload.specs.declared.workload.Homed.{Homed}
use Rattle.raid_workload.specs.Parts.{count_from, txns, home}
use Rattle.raid_workload.specs.Rules.{is_homed, are_restarts, is_within, are_items, are_switches, are_events, is_statement, is_site_of}

abbrev txn : ℕ → Txn
txn k = record { 0 = k }

-- how many transactions there are, attempts counted
abbrev count : Workload → ℕ
count w = length w.programs * (w.restarts + 1)

record Parts (b f j k : Bool) : Type 0 where
  sites : b ≡ true
  switches : f ≡ true
  programs : j ≡ true
  homed : k ≡ true

parts : (a b c d e f g h i j k : Bool) → (a && b && c && d && e && f && g && h && i && j && k) ≡ true → Parts b f j k
parts a b c d e f g h i j k all =
    let to-k = and_parts (a && b && c && d && e && f && g && h && i && j) k all in
    let to-j = and_parts (a && b && c && d && e && f && g && h && i) j to-k.0 in
    let to-i = and_parts (a && b && c && d && e && f && g && h) i to-j.0 in
    let to-h = and_parts (a && b && c && d && e && f && g) h to-i.0 in
    let to-g = and_parts (a && b && c && d && e && f) g to-h.0 in
    let to-f = and_parts (a && b && c && d && e) f to-g.0 in
    let to-e = and_parts (a && b && c && d) e to-f.0 in
    let to-d = and_parts (a && b && c) d to-e.0 in
    let to-c = and_parts (a && b) c to-d.0 in
    record { sites = (and_parts a b to-c.0).1; switches = to-f.1; programs = to-j.1; homed = to-k.1 }

of_workload : (w : Workload) → Parts (is_within 1 8 w.sites) (nat_le (length w.switches) 64) (nat_le (length w.programs) 2000) (list_all (is_homed w.sites (length w.items)) w.programs)
of_workload w =
    parts (are_restarts w.version w.restarts) (is_within 1 8 w.sites) (is_within 1 16 w.together) (nat_le (length w.items) 1024) (are_items w.sites w.items)
    (nat_le (length w.switches) 64) (are_switches w.structure w.kind 1 w.switches) (nat_le (length w.events) 64) (are_events w.sites [] 1 w.events)
    (nat_le (length w.programs) 2000) (list_all (is_homed w.sites (length w.items)) w.programs) w.kept

at_most : (n m : ℕ) → nat_le n m ≡ true → n ≤ m
at_most n m h = grind (arith, h)

pub few_switches : (w : Workload) → length w.switches ≤ 64
few_switches w = at_most (length w.switches) 64 (of_workload w).switches

pub few_sites : (w : Workload) → w.sites ≤ 8
few_sites w = at_most w.sites 8 (and_parts (nat_le 1 w.sites) (nat_le w.sites 8) (of_workload w).sites).1

-- the transactions of a workload are those of the numbers from 1 on
pub has_range : (a n : ℕ) (t : Txn) → has_txn (map txn (count_from a n)) t ≡ (nat_le a t.0 && nat_lt t.0 (a + n))
has_range a zero t = let e : false ≡ (nat_le a t.0 && nat_lt t.0 (a + zero)) = grind arith in e
has_range a (suc n) t =
    ap (λ b. (a == t.0) || b) (has_range (a + 1) n t)
    ∙ (let e : ((a == t.0) || (nat_le (a + 1) t.0 && nat_lt t.0 (a + 1 + n))) ≡ (nat_le a t.0 && nat_lt t.0 (a + suc n)) = grind arith in e)

pub is_known : (w : Workload) (t : Txn) → has_txn (txns w) t ≡ (nat_le 1 t.0 && nat_le t.0 (count w))
is_known w t = has_range 1 (count w) t ∙ (let e : (nat_le 1 t.0 && nat_lt t.0 (1 + count w)) ≡ (nat_le 1 t.0 && nat_le t.0 (count w)) = grind arith in e)

-- homes are sites
pub record IsSite (sites : ℕ) (s : Site) : Type 0 where
  pub least : 1 ≤ s.0
  pub most : s.0 ≤ sites

home_in : (sites n : ℕ) (hs : List Homed) (k : ℕ) → list_all (is_homed sites n) hs ≡ true → k < length hs → IsSite sites (option_map_or (λ (h : Homed). h.home) (slice_get hs k) (site 0))
home_in sites n [] k all below = absurd (omega (arith, below))
home_in sites n (h ∷ hs) zero all below =
    let this = (and_parts (is_homed sites n h) (list_all (is_homed sites n) hs) all).0 in
    let short = and_parts (is_site_of sites h.home && nat_le (length h.program) 32) (list_all (is_statement n) h.program) this in
    let one = and_parts (is_site_of sites h.home) (nat_le (length h.program) 32) short.0 in
    let two = and_parts (nat_le 1 h.home.0) (nat_le h.home.0 sites) one.0 in
    record { least = at_most 1 h.home.0 two.0; most = at_most h.home.0 sites two.1 }
home_in sites n (h ∷ hs) (suc k) all below = home_in sites n hs k (and_parts (is_homed sites n h) (list_all (is_homed sites n) hs) all).1 (omega (arith, below))

some_programs : (n r k : ℕ) → nat_le 1 k ≡ true → nat_le k (n * (r + 1)) ≡ true → 0 < n
some_programs zero r k least most = absurd (omega (arith, at_most 1 k least, at_most k (0 * (r + 1)) most))
some_programs (suc n) r k least most = omega arith

index_below : (m n : ℕ) → 0 < n → 1 + m % n - 1 < n
index_below m n some = grind (arith, some)

pub home_is_site : (w : Workload) (t : Txn) → has_txn (txns w) t ≡ true → IsSite w.sites (home w t)
home_is_site w t h =
    let both = and_parts (nat_le 1 t.0) (nat_le t.0 (count w)) (sym (is_known w t) ∙ h) in
    let some = some_programs (length w.programs) w.restarts t.0 both.0 both.1 in
    home_in w.sites (length w.items) w.programs (1 + (t.0 - 1) % length w.programs - 1) (of_workload w).homed (index_below (t.0 - 1) (length w.programs) some)

pub home_among : (w : Workload) (t : Txn) → has_txn (txns w) t ≡ true → IsSite 8 (home w t)
home_among w t h = let s = home_is_site w t h in record { least = s.least; most = omega (arith, s.most, few_sites w) }
