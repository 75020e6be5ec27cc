-- Which sites hold what is written.
use Rattle.std.proofs.Common.{◌≡◌, ℕ, zero, suc, ◌+◌, ◌-◌, ◌<◌, ◌≤◌, nat_lt, nat_le, Bool, true, false, ◌&&◌, List, [], ◌∷◌, ◌++◌, map, filter, length, drop, Some, slice_get, arith, ap, sym, ◌∙◌, refl, append_assoc}
use Rattle.std.specs.Prelude.{slice_index_or}
use Rattle.std.specs.List.{list_all}
use Rattle.std.proofs.lemmas.Grind.{common_steps}
use Rattle.std.proofs.lemmas.Bool.{and_parts}
use Rattle.raid_base.specs.declared.names.Site.{Site}
use Rattle.raid_base.specs.Sites.{site, all_sites}
use Rattle.raid_workload.specs.declared.workload.Workload.{Workload}
use Rattle.raid_workload.specs.declared.workload.ItemLine.{ItemLine}
use Rattle.raid_workload.specs.Parts.{count_from}
use Rattle.raid_workload.specs.Rules.{is_homed, are_restarts, is_within, are_items, are_switches, are_events}
use Rattle.raid_steps.specs.State.{Out}
use Rattle.raid_session.proofs.Searched.{below}
use Rattle.raid_session.proofs.Kept.{same_kept}

-- the holders of an item of the workload, and of another
pub holders_at : (lines : List ItemLine) (k : ℕ) (line : ItemLine) → slice_get lines k ≡ Some line → slice_index_or (map (λ (z : ItemLine). z.holders) lines) k [] ≡ line.holders
holders_at [] k line is = absurd (cc is)
holders_at (l ∷ lines) zero line is = let here : l ≡ line = cc is in ap (λ (z : ItemLine). z.holders) here
holders_at (l ∷ lines) (suc k) line is = holders_at lines k line is

pub holders_past : (lines : List ItemLine) (k : ℕ) → length lines ≤ k → slice_index_or (map (λ (z : ItemLine). z.holders) lines) k [] ≡ []
holders_past [] k past = refl
holders_past (l ∷ lines) zero past = absurd (omega (arith, past))
holders_past (l ∷ lines) (suc k) past = holders_past lines k (omega (arith, past))

-- there are at most eight sites
second : (a b c d e f g h i j k : Bool) → (a && b && c && d && e && f && g && h && i && j && k) ≡ true → b ≡ true
second a b c d e f g h i j k all =
    let to-j = and_parts (a && b && c && d && e && f && g && h && i && j) k all in
    let to-i = and_parts (a && b && c && d && e && f && g && h && i) j to-j.0 in
    let to-h = and_parts (a && b && c && d && e && f && g && h) i to-i.0 in
    let to-g = and_parts (a && b && c && d && e && f && g) h to-h.0 in
    let to-f = and_parts (a && b && c && d && e && f) g to-g.0 in
    let to-e = and_parts (a && b && c && d && e) f to-f.0 in
    let to-d = and_parts (a && b && c && d) e to-e.0 in
    let to-c = and_parts (a && b && c) d to-d.0 in
    let to-b = and_parts (a && b) c to-c.0 in
    (and_parts a b to-b.0).1

at_most : (n : ℕ) → is_within 1 8 n ≡ true → n ≤ 8
at_most n h = grind (arith, common_steps, h)

pub few_sites : (w : Workload) → w.sites ≤ 8
few_sites w =
    at_most w.sites
    (second (are_restarts w.version w.restarts) (is_within 1 8 w.sites) (is_within 1 16 w.together) (nat_le (length w.items) 1024) (are_items w.sites w.items)
    (nat_le (length w.switches) 64) (are_switches w.structure w.kind 1 w.switches) (nat_le (length w.events) 64) (are_events w.sites [] 1 w.events)
    (nat_le (length w.programs) 2000) (list_all (is_homed w.sites (length w.items)) w.programs) w.kept)

-- the sites of the workload among those that there can be
pub sites_passed : (test : Site → Bool) (n : ℕ) → n ≤ 8 → filter (below 9 (λ s. nat_le s.0 n && test s)) all_sites ≡ filter test (map site (count_from 1 n))
sites_passed test zero few = refl
sites_passed test (suc zero) few = refl
sites_passed test (suc (suc zero)) few = refl
sites_passed test (suc (suc (suc zero))) few = refl
sites_passed test (suc (suc (suc (suc zero)))) few = refl
sites_passed test (suc (suc (suc (suc (suc zero))))) few = refl
sites_passed test (suc (suc (suc (suc (suc (suc zero)))))) few = refl
sites_passed test (suc (suc (suc (suc (suc (suc (suc zero))))))) few = refl
sites_passed test (suc (suc (suc (suc (suc (suc (suc (suc zero)))))))) few = refl
sites_passed test (suc (suc (suc (suc (suc (suc (suc (suc (suc n))))))))) few = absurd (omega (arith, few))

-- the sites from one on
from_site : (n : ℕ) → 1 ≤ n → n < 9 → drop (n - 1) all_sites ≡ site n ∷ drop n all_sites
from_site zero least most = absurd (omega (arith, least))
from_site (suc zero) least most = refl
from_site (suc (suc zero)) least most = refl
from_site (suc (suc (suc zero))) least most = refl
from_site (suc (suc (suc (suc zero)))) least most = refl
from_site (suc (suc (suc (suc (suc zero))))) least most = refl
from_site (suc (suc (suc (suc (suc (suc zero)))))) least most = refl
from_site (suc (suc (suc (suc (suc (suc (suc zero))))))) least most = refl
from_site (suc (suc (suc (suc (suc (suc (suc (suc zero)))))))) least most = refl
from_site (suc (suc (suc (suc (suc (suc (suc (suc (suc n))))))))) least most = absurd (omega (arith, most))

same_from : (n : ℕ) → drop (n + 1 - 1) all_sites ≡ drop n all_sites
same_from n = ap (λ k. drop k all_sites) (let e : n + 1 - 1 ≡ n = omega arith in e)

one_case : (f : Site → Out) (t : Site → Bool) (n : ℕ) (b : Bool) → t (site n) ≡ b → map f (filter t (site n ∷ drop n all_sites)) ≡ map f (filter t (site n ∷ [])) ++ map f (filter t (drop n all_sites))
one_case f t n true is = rw is refl
one_case f t n false is = rw is refl

pub asked_more : (f : Site → Out) (t : Site → Bool) (outs : List Out) (n : ℕ) → 1 ≤ n → n < 9 →
    (outs ++ map f (filter t (site n ∷ []))) ++ map f (filter t (drop (n + 1 - 1) all_sites)) ≡ outs ++ map f (filter t (drop (n - 1) all_sites))
asked_more f t outs n least most =
    let one = map f (filter t (site n ∷ [])) in
    ap (λ zs. (outs ++ one) ++ map f (filter t zs)) (same_from n)
    ∙ append_assoc outs one (map f (filter t (drop n all_sites)))
    ∙ ap (λ zs. outs ++ zs) (sym (one_case f t n (t (site n)) refl) ∙ ap (λ zs. map f (filter t zs)) (sym (from_site n least most)))

pub sites_end : (test : Site → Bool) (n m : ℕ) → 9 ≤ n → m ≤ 8 → filter (below n (λ s. nat_le s.0 m && test s)) all_sites ≡ filter test (map site (count_from 1 m))
sites_end test n m past few =
    same_kept (below n (λ s. nat_le s.0 m && test s)) (below 9 (λ s. nat_le s.0 m && test s))
    (λ r least most. let one : nat_lt r n ≡ true = grind (arith, past, most) in let two : nat_lt r 9 ≡ true = grind (arith, most) in rw (one, two) refl)
    ∙ sites_passed test m few
