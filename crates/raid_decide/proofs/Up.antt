-- The sites that are up, those that take part in a commit, and those that know other sessions.
use Rattle.std.proofs.Common.{◌≡◌, ℕ, zero, suc, ◌+◌, ◌-◌, ◌<◌, ◌≤◌, ◌==◌, nat_lt, Bool, not, ◌&&◌, ◌||◌, cond, List, [], ◌∷◌, ◌++◌, map, filter, fold, length, append-nil, slice_index, refl, ap, sym, arith, ◌∙◌}
use Rattle.std.specs.List.{list_any, list_all}
use Rattle.std.proofs.lemmas.List.{map-append, length-replicate}
use Rattle.std.proofs.lemmas.List.Elements.{filter-append}
use Rattle.std.proofs.lemmas.Grind.{common_steps}
use Rattle.raid_base.specs.declared.names.Site.{Site}
use Rattle.raid_base.specs.declared.entry.Entry.{Entry}
use Rattle.raid_base.specs.declared.entry.Entry.TheVariants as entries
use Rattle.raid_base.specs.declared.entry.Noted.{Noted}
use Rattle.raid_base.specs.Sites.{site, all_sites, session}
use Rattle.raid_workload.specs.declared.workload.Workload.{Workload}
use Rattle.raid_workload.specs.Parts.{count_from, sites}
use Rattle.raid_rules.specs.Sessions.{is_site_up, turn_vector}
use Rattle.raid_legal.specs.Seen.{vector}
use Rattle.raid_session.specs.Agreed.{is_same}
use Rattle.raid_session.proofs.Kept.{kept_twice}
use Rattle.raid_decide.proofs.Rules.{few_sites}

-- who says the same as a vector in which nobody is up is down
pub none_elsewhere : (v : List ℕ) (ss : List Site) → not (list_all (is_same [] v) ss) ≡ list_any (is_site_up v) ss
none_elsewhere v [] = refl
none_elsewhere v (s ∷ ss) = go (session v s) (list_all (is_same [] v) ss) (list_any (is_site_up v) ss) (none_elsewhere v ss)
  where
    go : (k : ℕ) (a b : Bool) → not a ≡ b → not ((not (nat_lt 0 k) || (k == 0)) && a) ≡ (nat_lt 0 k || b)
    go zero a b h = h
    go (suc k) a b h = grind arith

-- among those that pass a test and are up, one differs where not all of them are down or the same
some_differ : (up holds same : Site → Bool) (ss : List Site) →
    not (list_all (λ s. not (up s) || same s) (filter (λ s. up s && holds s) ss)) ≡ list_any (λ s. not (same s)) (filter (λ s. up s && holds s) ss)
some_differ up holds same [] = refl
some_differ up holds same (s ∷ ss) = grind (arith, common_steps, some_differ up holds same ss)

pub differ_where_not_agreed : (v u : List ℕ) (holds : Site → Bool) (ss : List Site) →
    not (list_all (is_same u v) (filter (λ s. is_site_up v s && holds s) ss)) ≡ list_any (λ s. not (session v s == session u s)) (filter (λ s. is_site_up v s && holds s) ss)
differ_where_not_agreed v u holds ss = some_differ (is_site_up v) holds (λ s. session v s == session u s) ss

-- the vector has a session for each site
length_turn : (v : List ℕ) (e : Entry) → length (turn_vector v e) ≡ length v
length_turn v (entries.Begin t home) = refl
length_turn v (entries.Read t y site) = refl
length_turn v (entries.Wait t request) = refl
length_turn v (entries.Commit t request applied) = refl
length_turn v (entries.Abort t cause act) = refl
length_turn v (entries.Ack t site) = refl
length_turn v (entries.SwitchOn k kind method) = refl
length_turn v (entries.SwitchEnd k) = refl
length_turn v (entries.Down site) = grind (arith, common_steps)
length_turn v (entries.Up site session) = grind (arith, common_steps)
length_turn v (entries.Clear site y version) = refl

length_after : (v : List ℕ) (p : List Noted) → length (fold (λ v n. turn_vector v n.entry) v p) ≡ length v
length_after v [] = refl
length_after v (n ∷ p) = length_after (turn_vector v n.entry) p ∙ length_turn v n.entry

pub length_vector : (w : Workload) (p : List Noted) → length (vector w p) ≡ w.sites
length_vector w p = length_after _ p ∙ length-replicate w.sites 1

-- numbers one after the other, in two parts
count_split : (a n m : ℕ) → count_from a (n + m) ≡ count_from a n ++ count_from (a + n) m
count_split a zero m = ap (λ k. count_from a k) (let e : zero + m ≡ m = omega arith in e) ∙ ap (λ k. count_from k m) (let e : a ≡ a + zero = omega arith in e)
count_split a (suc n) m =
    ap (λ k. count_from a k) (let e : suc n + m ≡ suc (n + m) = omega arith in e)
    ∙ ap (λ ks. a ∷ ks) (count_split (a + 1) n m ∙ ap (λ k. count_from (a + 1) n ++ count_from k m) (let e : a + 1 + n ≡ a + suc n = omega arith in e))

-- past the end of a vector no site is up
past_end : (v : List ℕ) (k : ℕ) → length v ≤ k → slice_index v k ≡ 0
past_end [] k below = refl
past_end (x ∷ v) zero below = absurd (omega (arith, below))
past_end (x ∷ v) (suc k) below = past_end v k (omega (arith, below))

none_up : (v : List ℕ) (a m : ℕ) → length v < a → filter (is_site_up v) (map site (count_from a m)) ≡ []
none_up v a zero above = refl
none_up v a (suc m) above =
    ap (λ b. cond b (site a ∷ filter (is_site_up v) (map site (count_from (a + 1) m))) (filter (is_site_up v) (map site (count_from (a + 1) m)))) (ap (λ k. nat_lt 0 k) (past_end v (a - 1) (omega (arith, above))))
    ∙ none_up v (a + 1) m (omega (arith, above))

all_up : (v : List ℕ) (n : ℕ) → length v ≡ n → n ≤ 8 → filter (is_site_up v) (map site (count_from 1 n)) ≡ filter (is_site_up v) all_sites
all_up v n is most =
    sym (append-nil (filter (is_site_up v) (map site (count_from 1 n))))
    ∙ ap (λ xs. filter (is_site_up v) (map site (count_from 1 n)) ++ xs) (sym (none_up v (1 + n) (8 - n) (omega (arith, is))))
    ∙ sym (filter-append (is_site_up v) (map site (count_from 1 n)) (map site (count_from (1 + n) (8 - n))))
    ∙ ap (filter (is_site_up v)) (sym (map-append site (count_from 1 n) (count_from (1 + n) (8 - n))))
    ∙ ap (λ ks. filter (is_site_up v) (map site ks)) (sym (count_split 1 n (8 - n)))
    ∙ ap (λ k. filter (is_site_up v) (map site (count_from 1 k))) (let e : n + (8 - n) ≡ 8 = omega (arith, most) in e)

-- so those that are up and pass a test are of the workload's sites
pub up_are_of_workload : (w : Workload) (v : List ℕ) (holds : Site → Bool) → length v ≡ w.sites →
    filter (λ s. is_site_up v s && holds s) all_sites ≡ filter (λ s. is_site_up v s && holds s) (sites w)
up_are_of_workload w v holds is =
    sym (kept_twice (is_site_up v) holds all_sites) ∙ ap (filter holds) (sym (all_up v w.sites is (few_sites w))) ∙ kept_twice (is_site_up v) holds (sites w)
