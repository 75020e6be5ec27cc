-- The measure of the world at the start, part by part, and why it is below the bound.
use Rattle.std.proofs.Common.{◌≡◌, ℕ, zero, suc, ◌+◌, ◌-◌, ◌*◌, ◌<◌, ◌≤◌, nat_le, Bool, true, false, not, ◌&&◌, List, [], ◌∷◌, length, map, replicate, if◌then◌else◌, arith, sym, subst, ap, ◌∙◌, refl}
use Rattle.std.specs.Prelude.{count_by}
use Rattle.std.specs.List.{sum_by, list_any, list_all}
use Rattle.std.proofs.Math.Nat.{mul-le-mul_left, mul_comm, le_trans}
use Rattle.std.proofs.lemmas.Bool.{and_parts}
use Rattle.std.proofs.lemmas.Grind.{common_steps}
use Rattle.std.proofs.lemmas.List.{length-map}
use Rattle.std.proofs.lemmas.List.Sums.{sum_by-cons, sum_by_from, count_by-le-length}
use Rattle.std.proofs.lemmas.List.Folds.{sum_by-replicate}
use Rattle.raid_base.specs.declared.names.Txn.{Txn}
use Rattle.raid_base.specs.declared.names.Item.{Item}
use Rattle.raid_base.specs.declared.names.Site.{Site}
use Rattle.raid_base.specs.Names.{is_item, is_site, has_site}
use Rattle.raid_base.specs.Sites.{site}
use Rattle.raid_workload.specs.declared.workload.Workload.{Workload}
use Rattle.raid_workload.specs.declared.workload.Event.{Event}
use Rattle.raid_workload.specs.Rules.{is_within, are_restarts, are_items, are_switches, are_events, is_homed}
use Rattle.raid_workload.specs.Parts.{count_from, txns, sites, items, placement, home}
use Rattle.raid_rules.specs.Sessions.{holders}
use Rattle.raid_legal.specs.Seen.{is_up}
use Rattle.raid_steps.specs.State.{Copying, Sequencer}
use Rattle.raid_steps.specs.World.{open_world, first_site, first_links, first_servers, rounds}
use Rattle.raid_measure.specs.Measure.{start_cost, end_cost, stop_cost, return_cost, down_cost, up_cost, copier_cost, link_cost, links_cost, event_cost, events_cost, ends_cost, site_cost, is_idle_at, events_of, downs_left, ups_left, turns_cost, other_downs_left, is_to_renew, copy_cost, copies_cost, measure}
use Rattle.raid_measure.proofs.Sums.{sum_at_most, sum_grows, sum_of_sums, sum_of_times, sum_mapped, one_if, counted_by_site}

length_count : (k n : ℕ) → length (count_from k n) ≡ n
length_count k zero = refl
length_count k (suc n) = let rest = length_count (k + 1) n in omega (arith, rest)

module _ (w : Workload) where
  -- stops, or else returns, whatever their sites
  abbrev all_events : Bool → ℕ
  all_events stop = count_by (λ (e : Event). if e.stop then stop else not stop) w.events

  pub length_sites : length (sites w) ≡ w.sites
  length_sites = length-map (count_from 1 w.sites) site ∙ length_count 1 w.sites

  -- The letters: a Welcome for each site.

  empty_row : (server n : ℕ) → sum_by (link_cost w server) (replicate n []) ≡ 0
  empty_row server n = let all : sum_by (link_cost w server) (replicate n []) ≡ n * 0 = sum_by-replicate (link_cost w server) n [] in omega arith

  welcome_row : (server : ℕ) (s : Site) → sum_by (link_cost w server) (first_links w s) ≡ 1
  welcome_row server s = sum_by_from (link_cost w server) 1 (replicate w.sites []) ∙ ap (λ n. 1 + n) (empty_row server w.sites)

  welcomes : (server : ℕ) (ss : List Site) → links_cost w server (map (first_links w) ss) ≡ length ss
  welcomes server [] = refl
  welcomes server (s ∷ ss) = let rest = welcomes (server + 1) ss in let first = welcome_row server s in omega (arith, rest, first)

  -- The events, each a stop or a return.

  abbrev of_sort : Bool → List Event → ℕ
  of_sort stop es = count_by (λ (e : Event). if e.stop then stop else not stop) es

  of_cons : (stop : Bool) (e : Event) (es : List Event) → of_sort stop (e ∷ es) ≡ one_if (if e.stop then stop else not stop) + of_sort stop es
  of_cons stop e es = sum_by-cons (λ (e : Event). one_if (if e.stop then stop else not stop)) e es

  all_sorts : (es : List Event) → of_sort true es + of_sort false es ≡ length es
  all_sorts [] = refl
  all_sorts (e ∷ es) = let rest = all_sorts es in let first = one e.stop in omega (arith, rest, first, of_cons true e es, of_cons false e es)
    where
      one : (b : Bool) → one_if (if b then true else false) + one_if (if b then false else true) ≡ 1
      one true = refl
      one false = refl

  events_to_come : (es : List Event) → sum_by (event_cost w) es ≡ of_sort true es * stop_cost w + of_sort false es * return_cost
  events_to_come [] = omega arith
  events_to_come (e ∷ es) =
      let rest = events_to_come es in
      let first = one e.stop in
      let stops = ap (λ n. n * stop_cost w) (of_cons true e es) in
      let returns = ap (λ n. n * return_cost) (of_cons false e es) in
      omega (arith, rest, first, stops, returns, sum_by-cons (event_cost w) e es)
    where
      one : (b : Bool) → (if b then stop_cost w else return_cost) ≡ one_if (if b then true else false) * stop_cost w + one_if (if b then false else true) * return_cost
      one true = omega arith
      one false = omega arith

  -- those of one site are some of these
  of_each_site : (stop : Bool) → sum_by (events_of w stop) (sites w) ≤ of_sort stop w.events
  of_each_site stop = counted_by_site (λ (e : Event). e.site) (λ (e : Event). if e.stop then stop else not stop) 1 w.sites w.events

  of_one_site : (stop : Bool) (s : Site) → events_of w stop s ≤ of_sort stop w.events
  of_one_site stop s =
      sum_grows (λ (e : Event). one_if (is_site s e.site && (if e.stop then stop else not stop))) (λ (e : Event). one_if (if e.stop then stop else not stop))
      (λ (e : Event). fewer (is_site s e.site) (if e.stop then stop else not stop)) w.events
    where
      fewer : (a b : Bool) → one_if (a && b) ≤ one_if b
      fewer true b = omega arith
      fewer false b = omega arith

  -- The sites: nothing runs, and each transaction is at one home.

  first_sites : sum_by (site_cost w []) (map (first_site w) (sites w)) ≤ start_cost w * length (txns w)
  first_sites =
      let mapped = sum_mapped (site_cost w []) (first_site w) (sites w) in
      let each = sum_grows (λ s. site_cost w [] (first_site w s)) (λ s. start_cost w * count_by (λ t. is_site s (home w t) && true) (txns w)) one (sites w) in
      let all = sum_of_times (start_cost w) (λ s. count_by (λ t. is_site s (home w t) && true) (txns w)) (sites w) in
      let once = counted_by_site (home w) (λ t. true) 1 w.sites (txns w) in
      let few = count_by-le-length (λ (t : Txn). true) (txns w) in
      let most = mul-le-mul_left (start_cost w) (le_trans once few) in
      omega (arith, mapped, each, all, most)
    where
      both : (b : Bool) → one_if (b && true && true) ≤ one_if (b && true)
      both true = omega arith
      both false = omega arith

      one : (s : Site) → site_cost w [] (first_site w s) ≤ start_cost w * count_by (λ t. is_site s (home w t) && true) (txns w)
      one s =
          let fewer = sum_grows (λ t. one_if (is_idle_at w [] (first_site w s) t)) (λ t. one_if (is_site s (home w t) && true)) (λ t. both (is_site s (home w t))) (txns w) in
          let times : start_cost w * count_by (is_idle_at w [] (first_site w s)) (txns w) ≤ start_cost w * count_by (λ t. is_site s (home w t) && true) (txns w) = mul-le-mul_left (start_cost w) fewer in
          omega (arith, times)

  -- The stops and returns that the history is to have.

  first_turns : sum_by (turns_cost w []) (sites w) ≤ down_cost w * of_sort true w.events + up_cost w * of_sort false w.events
  first_turns =
      let each = sum_grows (turns_cost w []) (λ s. down_cost w * events_of w true s + up_cost w * events_of w false s) one (sites w) in
      let both = sum_of_sums (λ s. down_cost w * events_of w true s) (λ s. up_cost w * events_of w false s) (sites w) in
      let stops = sum_of_times (down_cost w) (events_of w true) (sites w) in
      let returns = sum_of_times (up_cost w) (events_of w false) (sites w) in
      let most_stops = mul-le-mul_left (down_cost w) (of_each_site true) in
      let most_returns = mul-le-mul_left (up_cost w) (of_each_site false) in
      omega (arith, each, both, stops, returns, most_stops, most_returns)
    where
      one : (s : Site) → turns_cost w [] s ≤ down_cost w * events_of w true s + up_cost w * events_of w false s
      one s =
          let few_downs : down_cost w * downs_left w [] s ≤ down_cost w * events_of w true s = mul-le-mul_left (down_cost w) (omega arith) in
          let few_ups : up_cost w * ups_left w [] s ≤ up_cost w * events_of w false s = mul-le-mul_left (up_cost w) (omega arith) in
          omega (arith, few_downs, few_ups)

  -- The copies: none is locked.

  abbrev first : Sequencer
  first = (first_servers w).sequencer

  none_to_renew : (s : Site) (x : Item) → is_to_renew w first s x ≡ false
  none_to_renew s x = never (is_up w [] s) (has_site (holders (placement w) x) s) (not (list_any (λ (c : Copying). is_site s c.target && is_item x c.item) []))
    where
      never : (a b c : Bool) → (a && (b && false) && c) ≡ false
      never true true c = refl
      never true false c = refl
      never false b c = refl

  few_other_downs : (s : Site) → other_downs_left w [] s ≤ of_sort true w.events
  few_other_downs s =
      let each = sum_grows (λ r. if is_site s r then 0 else downs_left w [] r) (events_of w true) (λ r. fewer (is_site s r) (events_of w true r)) (sites w) in
      let all = of_each_site true in
      omega (arith, each, all)
    where
      fewer : (b : Bool) (n : ℕ) → (if b then 0 else n - 0) ≤ n
      fewer true n = omega arith
      fewer false n = omega arith

  first_copy : (s : Site) (x : Item) → copy_cost w first s x ≤ copier_cost * length w.events
  first_copy s x = go (has_site (holders (placement w) x) s)
    where
      go : (b : Bool) → (if b then copier_cost * (ups_left w [] s + other_downs_left w [] s + (if is_to_renew w first s x then 1 else 0)) else 0) ≤ copier_cost * length w.events
      go true =
          let none : (if is_to_renew w first s x then 1 else 0) ≡ 0 = ap (λ b. one_if b) (none_to_renew s x) in
          let returns = of_one_site false s in
          let others = few_other_downs s in
          let sorts = all_sorts w.events in
          omega (arith, none, returns, others, sorts)
      go false = omega arith

  first_copies : copies_cost w first ≤ w.sites * (length w.items * (copier_cost * length w.events))
  first_copies =
      let each = sum_at_most (λ s. sum_by (copy_cost w first s) (items w)) (length (items w) * (copier_cost * length w.events))
      (λ s. sum_at_most (copy_cost w first s) (copier_cost * length w.events) (first_copy s) (items w)) (sites w) in
      subst (λ n. copies_cost w first ≤ n) (ap (λ n. n * (length (items w) * (copier_cost * length w.events))) length_sites ∙ ap (λ n. w.sites * (n * (copier_cost * length w.events))) length_items) each
    where
      length_items : length (items w) ≡ length w.items
      length_items = length-map (count_from 0 (length w.items)) (λ k. let x : Item = record { 0 = k } in x) ∙ length_count 0 (length w.items)

  -- All together.

  length_txns : length (txns w) ≡ length w.programs * (w.restarts + 1)
  length_txns = length-map (count_from 1 (length w.programs * (w.restarts + 1))) (λ k. let t : Txn = record { 0 = k } in t) ∙ length_count 1 (length w.programs * (w.restarts + 1))

-- the parts in numbers: s sites, t transactions of which m run at once, i items, a stops and b returns
numbers_below : (s t m i a b : ℕ) → 1 ≤ s →
    s + (a * (3 + m * (128 + 2 * s)) + b * 2) + (2 * s + 2) * t + (128 + 2 * s) * t + ((s - 1 + 4 * t) * a + (s + 2 * t) * b) + s * (i * (3 * (a + b)))
    < 1 + s + (t + m * (a + b)) * (132 + 6 * (a + b) + 4 * s) + (a + b) * (s + 2) + 3 * s * i * (a + b)
numbers_below zero t m i a b l = absurd (omega arith)
numbers_below (suc n) t m i a b l = rw less at_others
  where
    less : suc n - 1 ≡ n
    less = omega arith

    at_others :
        suc n + (a * (3 + m * (128 + 2 * suc n)) + b * 2) + (2 * suc n + 2) * t + (128 + 2 * suc n) * t + ((n + 4 * t) * a + (suc n + 2 * t) * b) + suc n * (i * (3 * (a + b)))
        < 1 + suc n + (t + m * (a + b)) * (132 + 6 * (a + b) + 4 * suc n) + (a + b) * (suc n + 2) + 3 * suc n * i * (a + b)
    at_others = omega arith

-- a workload has a site
second : (a b c d e f g h i j k : Bool) → (a && b && c && d && e && f && g && h && i && j && k) ≡ true → b ≡ true
second a b c d e f g h i j k all = (and_parts a b (front c (front d (front e (front f (front g (front h (front i (front j (front k all)))))))))).1
  where
    front : {a : Bool} (b : Bool) → (a && b) ≡ true → a ≡ true
    front {a} b q = (and_parts a b q).0

has_site_one : (w : Workload) → 1 ≤ w.sites
has_site_one w =
    at_least w.sites
    (second (are_restarts w.version w.restarts) (is_within 1 8 w.sites) (is_within 1 16 w.together) (nat_le (length w.items) 1024) (are_items w.sites w.items)
    (nat_le (length w.switches) 64) (are_switches w.structure w.kind 1 w.switches) (nat_le (length w.events) 64) (are_events w.sites [] 1 w.events)
    (nat_le (length w.programs) 2000) (list_all (is_homed w.sites (length w.items)) w.programs) w.kept)
  where
    at_least : (n : ℕ) → is_within 1 8 n ≡ true → 1 ≤ n
    at_least n q = grind (arith, common_steps, q)

-- the bound, with so many transactions and events
abbrev bound : Workload → ℕ → ℕ → ℕ
bound w t e = 1 + w.sites + (t + w.together * e) * (132 + 6 * e + 4 * w.sites) + e * (w.sites + 2) + 3 * w.sites * length w.items * e

below_with : (w : Workload) (a b : ℕ) → a + b ≡ length w.events → (letters events ends homes turns copies : ℕ) →
    letters ≡ w.sites → events ≡ a * stop_cost w + b * return_cost → ends ≤ end_cost w * length (txns w) → homes ≤ start_cost w * length (txns w) →
    turns ≤ down_cost w * a + up_cost w * b → copies ≤ w.sites * (length w.items * (copier_cost * length w.events)) →
    letters + (events + ends + homes + turns + copies) < bound w (length w.programs * (w.restarts + 1)) (length w.events)
below_with w a b sorts letters events ends homes turns copies l e n h t c =
    let least = has_site_one w in
    let start : start_cost w ≡ 128 + 2 * w.sites = omega arith in
    let stops : a * stop_cost w ≡ a * (3 + w.together * (128 + 2 * w.sites)) = ap (λ n. a * (3 + w.together * n)) start in
    let starts : start_cost w * length (txns w) ≡ (128 + 2 * w.sites) * length (txns w) = ap (λ n. n * length (txns w)) start in
    let renewed : w.sites * (length w.items * (copier_cost * length w.events)) ≡ w.sites * (length w.items * (3 * (a + b))) = ap (λ n. w.sites * (length w.items * (copier_cost * n))) (sym sorts) in
    let numbers = numbers_below w.sites (length (txns w)) w.together (length w.items) a b least in
    let here : letters + (events + ends + homes + turns + copies) < bound w (length (txns w)) (a + b) = omega (arith, l, e, n, h, t, c, stops, starts, renewed, numbers) in
    subst (λ t. letters + (events + ends + homes + turns + copies) < bound w t (length w.events)) (length_txns w)
    (subst (λ e. letters + (events + ends + homes + turns + copies) < bound w (length (txns w)) e) sorts here)

pub opening_below : (w : Workload) → measure w (open_world w) < rounds w
opening_below w = subst (λ n. measure w (open_world w) < bound w n (length w.events)) (mul_comm (length w.programs) (w.restarts + 1))
    (below_with w (of_sort w true w.events) (of_sort w false w.events) (all_sorts w w.events)
    (links_cost w 0 (open_world w).links) (events_cost w 0) (ends_cost w []) (sum_by (site_cost w []) (map (first_site w) (sites w))) (sum_by (turns_cost w []) (sites w)) (copies_cost w (first w))
    letters (events_to_come w w.events) ends (first_sites w) (first_turns w) (first_copies w))
  where
    letters : links_cost w 0 (open_world w).links ≡ w.sites
    letters =
        let welcomed : links_cost w 2 (map (first_links w) (sites w)) ≡ length (sites w) = welcomes w 2 (sites w) in
        let none = empty_row w 0 (w.sites + 2) in
        let nor = empty_row w 1 (w.sites + 2) in
        omega (arith, welcomed, none, nor, length_sites w)

    ends : ends_cost w [] ≤ end_cost w * length (txns w)
    ends = mul-le-mul_left (end_cost w) (count_by-le-length (λ (t : Txn). true) (txns w))
