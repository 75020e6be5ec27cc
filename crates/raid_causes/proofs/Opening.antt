-- From the start on: the law, and that journals rise.
use Rattle.std.proofs.Common.{◌≡◌, ℕ, zero, suc, ◌+◌, ◌<◌, true, List, [], ◌∷◌, ◌++◌, length, map, replicate, All, inl, inr, arith, sym, ap, subst, ◌∙◌, get_or}
use Rattle.std.specs.Prelude.{max, slice_index, slice_index_or}
use Rattle.std.proofs.lemmas.List.{get_or_default}
use Rattle.std.proofs.lemmas.List.Elements.{All-nil, All-cons, All-weaker}
use Rattle.std.proofs.lemmas.List.Kept.{AllPairs-cons}
use Rattle.raid_base.specs.declared.names.Site.{Site}
use Rattle.raid_base.specs.Sites.{site}
use Rattle.raid_workload.specs.declared.workload.Workload.{Workload}
use Rattle.raid_workload.specs.Parts.{count_from, sites}
use Rattle.raid_message.specs.declared.letter.Letter.{Letter}
use Rattle.raid_message.specs.declared.letter.Pick.{Pick}
use Rattle.raid_message.specs.declared.letter.Step.{Step}
use Rattle.raid_merge.specs.Merged.{IsRising, ComesBefore, IsMerge}
use Rattle.raid_steps.specs.World.{World, first_site, first_links, open_world, run, is_schedule}
use Rattle.raid_causes.specs.Histories.{History, alone, IsWhole, Histories}
use Rattle.raid_causes.specs.Order.{IsOrder}
use Rattle.raid_causes.proofs.Lists.{below_or_not, past, count_long, map_long, alike_long, alike_at}
use Rattle.raid_causes.proofs.Alone.{step_of, steps_from, journal_is}
use Rattle.raid_causes.proofs.Causal.{NoLater, AreSteps, goes}

module _ (w : Workload) where
  rows_long : (ss : List Site) (k : ℕ) → k < length ss → length (slice_index_or (map (first_links w) ss) k []) ≡ w.sites + 2
  rows_long [] k lt = absurd (omega (arith, lt))
  rows_long (s ∷ ss) zero lt = let e : length {A = List Letter} (replicate w.sites []) ≡ w.sites = alike_long w.sites [] in omega (arith, e)
  rows_long (s ∷ ss) (suc k) lt = rows_long ss k (omega (arith, lt))

  sites_long : length (sites w) ≡ w.sites
  sites_long = map_long site (count_from 1 w.sites) ∙ count_long 1 w.sites

  open_rows : (k : ℕ) → k < w.sites + 2 → length (slice_index_or (open_world w).links k []) ≡ w.sites + 2
  open_rows zero lt = alike_long (w.sites + 2) []
  open_rows (suc zero) lt = alike_long (w.sites + 2) []
  open_rows (suc (suc k)) lt = rows_long (sites w) k (let e = sites_long in omega (arith, lt, e))

  pub open_whole : IsWhole w (open_world w)
  open_whole = record {
    sites = map_long (first_site w) (sites w) ∙ sites_long;
    clocks = alike_long (w.sites + 2) 0;
    journals = alike_long (w.sites + 2) [];
    links = record {
      count = let e : length (map (first_links w) (sites w)) ≡ w.sites = map_long (first_links w) (sites w) ∙ sites_long in omega (arith, e);
      rows = open_rows;
    };
  }

  -- the journals at the end of histories are of the steps that these make
  journal_of : (histories : ℕ → History) (end : World) → Histories w (open_world w) histories end → (k : ℕ) → slice_index_or end.journals k [] ≡ steps_from (slice_index (open_world w).clocks k) (histories k)
  journal_of histories end h k = elim (below_or_not k (w.sites + 2)) [
    | inl lt ↦
        h.journals k lt ∙ journal_is w k (histories k) (alone (open_world w) k)
        ∙ ap (λ j. j ++ steps_from (slice_index (open_world w).clocks k) (histories k)) (alike_at (w.sites + 2) k [])
    | inr le ↦
        past end.journals k [] (let c = h.whole.journals in omega (arith, le, c)) ∙ ap (steps_from (slice_index (open_world w).clocks k)) (sym (h.none k le))
  ]

  pub merged_runs : (histories : ℕ → History) (end : World) (picks : List Pick) → Histories w (open_world w) histories end → IsOrder end.journals picks → (is_schedule w picks ≡ true) × (run w picks ≡ end)
  merged_runs histories end picks h o =
      let are : AreSteps (open_world w) histories o.steps = λ k. o.each k ∙ journal_of histories end h k in
      subst (λ ps. (is_schedule w ps ≡ true) × (run w ps ≡ end)) (sym o.picks_are) (goes w end o.steps (open_world w) histories open_whole h are o.rising)

  -- the steps that letters make rise
  rises : (c : ℕ) (hs : History) → All (λ (s : Step). c < s.clock) (steps_from c hs) × IsRising (steps_from c hs)
  rises c [] = (All-nil (λ (s : Step). c < s.clock), λ i j d a b. absurd (omega (arith, b)))
  rises c (x ∷ hs) =
      let next : ℕ = 1 + max c x.1.clock in
      let rest = rises next hs in
      let later : All (λ (s : Step). c < s.clock) (steps_from next hs) = All-weaker (λ (s : Step). next < s.clock) (λ (s : Step). c < s.clock) (λ s q. omega (arith, q)) (steps_from next hs) rest.0 in (
        All-cons (λ (s : Step). c < s.clock) (step_of c x) (steps_from next hs) (omega arith) later,
        AllPairs-cons (λ (a b : Step). a.clock < b.clock) (step_of c x) (steps_from next hs) rest.0 rest.1,
      )

  pub journals_rise : (histories : ℕ → History) (end : World) → Histories w (open_world w) histories end → All IsRising end.journals
  journals_rise histories end h = λ k d lt.
      subst IsRising (sym (get_or_default end.journals k d [] lt ∙ journal_of histories end h k)) ((rises (slice_index (open_world w).clocks k) (histories k)).1)

no_later : (a b : ℕ × Step) → ComesBefore a b → NoLater a b
no_later a b (inl q) = omega (arith, q)
no_later a b (inr q) = let e = q.0 in omega (arith, e)

pub merges_order : (journals : List (List Step)) (picks : List Pick) → IsMerge journals picks → IsOrder journals picks
merges_order journals picks m = record {
  steps = m.steps;
  each = m.each;
  rising = λ i j d a b. no_later (get_or m.steps i d) (get_or m.steps j d) (m.ordered i j d a b);
  picks_are = m.picks_are;
}

pub merge_runs : (w : Workload) (histories : ℕ → History) (end : World) (picks : List Pick) → Histories w (open_world w) histories end → IsMerge end.journals picks → (is_schedule w picks ≡ true) × (run w picks ≡ end)
merge_runs w histories end picks h m = merged_runs w histories end picks h (merges_order end.journals picks m)
