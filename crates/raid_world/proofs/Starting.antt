-- The links at the start, site by site.
use Rattle.std.proofs.Common.{◌≡◌, ℕ, zero, suc, ◌+◌, ◌-◌, ◌<◌, ◌≤◌, List, [], ◌∷◌, ◌++◌, length, map, replicate, arith, sym, ap, subst, ◌∙◌, refl, append-nil}
use Rattle.std.specs.Prelude.{slice_set, slice_index, slice_index_or}
use Rattle.std.specs.List.{All}
use Rattle.std.proofs.lemmas.List.Elements.{All-nil, All-push, All-replicate}
use Rattle.std.proofs.lemmas.List.{map-append}
use Rattle.raid_base.specs.declared.names.Site.{Site}
use Rattle.raid_base.specs.Sites.{site}
use Rattle.raid_workload.specs.declared.workload.Workload.{Workload}
use Rattle.raid_workload.specs.Parts.{count_from}
use Rattle.raid_message.specs.declared.letter.Letter.{Letter}
use Rattle.raid_steps.specs.World.{link, set_link, first_links, first_letter, open_world}
use Rattle.raid_world.specs.Stands.{AreLinks, InTime, Go, NoneHeard, Live, heard, all_steps}
use Rattle.raid_boxed.specs.Boxed.{Says}
use Rattle.raid_world.specs.declared.world.World.{World}
use Rattle.raid_world.proofs.Shape.{set_shape}
use Rattle.raid_world.proofs.Timing.{set_all, link_all, later_all}
use Rattle.raid_world.proofs.Serving.{count_push, count_length}

-- the links once the letters of the first so many sites are on their way
abbrev pub sites_opened : Workload → ℕ → List (List (List Letter))
sites_opened w k = map (first_links w) (map site (count_from 1 k)) ++ replicate (w.sites - k) (replicate (w.sites + 2) [])

pub record Opened (w : Workload) (k : ℕ) (links : List (List (List Letter))) : Type 0 where
  pub within : k ≤ w.sites
  pub are : links ≡ replicate (w.sites + 2) [] ∷ replicate (w.sites + 2) [] ∷ sites_opened w k
  pub shape : AreLinks (w.sites + 2) links
  pub letters : All (All (All (InTime 0))) links

-- the front of a rest
at_end : {X : Type 0} (xs ys : List X) (k : ℕ) (d y : X) → length xs ≡ k → slice_set (xs ++ d ∷ ys) k y ≡ (xs ++ y ∷ []) ++ ys
at_end [] ys k d y q = subst (λ j. slice_set (d ∷ ys) j y ≡ y ∷ ys) q refl
at_end (x ∷ xs) ys zero d y q = absurd (omega (arith, q))
at_end (x ∷ xs) ys (suc k) d y q = ap (λ zs. x ∷ zs) (at_end xs ys k d y (let e : length xs ≡ k = omega (arith, q) in e))

end_at : {X : Type 0} (xs ys : List X) (k : ℕ) (d y : X) → length xs ≡ k → slice_index_or (xs ++ y ∷ ys) k d ≡ y
end_at [] ys k d y q = subst (λ j. slice_index_or (y ∷ ys) j d ≡ y) q refl
end_at (x ∷ xs) ys zero d y q = absurd (omega (arith, q))
end_at (x ∷ xs) ys (suc k) d y q = end_at xs ys k d y (let e : length xs ≡ k = omega (arith, q) in e)

map_long : {X Y : Type 0} (f : X → Y) (xs : List X) → length (map f xs) ≡ length xs
map_long f [] = refl
map_long f (x ∷ xs) = ap suc (map_long f xs)

empty_long : {X : Type 0} (n : ℕ) (x : X) → length (replicate n x) ≡ n
empty_long zero x = refl
empty_long (suc n) x = ap suc (empty_long n x)

empty_at : {X : Type 0} (n k : ℕ) (x d : X) → k < n → slice_index_or (replicate n x) k d ≡ x
empty_at zero k x d below = absurd (omega (arith, below))
empty_at (suc n) zero x d below = refl
empty_at (suc n) (suc k) x d below = empty_at n k x d (omega (arith, below))

pub empty_shape : (n : ℕ) → AreLinks n (replicate n (replicate n []))
empty_shape n = record { count = empty_long n (replicate n []); rows = λ k below. ap length (empty_at n k (replicate n []) [] below) ∙ empty_long n [] }

two_more : {X : Type 0} (n : ℕ) (x : X) → replicate (n + 2) x ≡ x ∷ x ∷ replicate n x
two_more n x = let e : n + 2 ≡ suc (suc n) = omega arith in ap (λ k. replicate k x) e

pub opened_none : (w : Workload) → Opened w 0 (replicate (w.sites + 2) (replicate (w.sites + 2) []))
opened_none w = record {
  within = omega arith;
  are = two_more w.sites (replicate (w.sites + 2) []) ∙ (let e : w.sites ≡ w.sites - 0 = omega arith in ap (λ k. replicate (w.sites + 2) [] ∷ replicate (w.sites + 2) [] ∷ replicate k (replicate (w.sites + 2) [])) e);
  shape = empty_shape (w.sites + 2);
  letters = All-replicate (All (All (InTime 0))) (w.sites + 2) (replicate (w.sites + 2) []) (All-replicate (All (InTime 0)) (w.sites + 2) [] (All-nil (InTime 0)));
}

module _ (w : Workload) (k : ℕ) (below : k < w.sites) where
  abbrev pub s : Site
  s = site (k + 1)

  abbrev row : List (List Letter)
  row = replicate (w.sites + 2) []

  abbrev front : List (List (List Letter))
  front = map (first_links w) (map site (count_from 1 k))

  abbrev rest : List (List (List Letter))
  rest = replicate (w.sites - (k + 1)) row

  abbrev whole : List (List (List Letter))
  whole = row ∷ row ∷ (front ++ row ∷ rest)

  front_long : length front ≡ k
  front_long = map_long (first_links w) (map site (count_from 1 k)) ∙ map_long site (count_from 1 k) ∙ count_length 1 k

  filled : slice_set row 1 (slice_index_or row 1 [] ++ first_letter w s ∷ []) ≡ first_links w s
  filled = ap (λ (r : List (List Letter)). slice_set r 1 (slice_index_or r 1 [] ++ first_letter w s ∷ [])) (two_more w.sites [])

  pushed : set_link whole (k + 2) 1 (link whole (k + 2) 1 ++ first_letter w s ∷ []) ≡ row ∷ row ∷ ((front ++ first_links w s ∷ []) ++ rest)
  pushed =
      (let e : k + 2 ≡ suc (suc k) = omega arith in ap (λ n. set_link whole n 1 (link whole n 1 ++ first_letter w s ∷ [])) e)
      ∙ ap (λ r. row ∷ row ∷ slice_set (front ++ row ∷ rest) k (slice_set r 1 (slice_index_or r 1 [] ++ first_letter w s ∷ []))) (end_at front rest k [] row front_long)
      ∙ ap (λ r. row ∷ row ∷ slice_set (front ++ row ∷ rest) k r) filled
      ∙ ap (λ z. row ∷ row ∷ z) (at_end front rest k row (first_links w s) front_long)

  more : front ++ first_links w s ∷ [] ≡ map (first_links w) (map site (count_from 1 (k + 1)))
  more =
      let e : k + 1 ≡ suc k = omega arith in
      let f : 1 + k ≡ k + 1 = omega arith in
      sym (
      ap (λ n. map (first_links w) (map site (count_from 1 n))) e ∙ ap (λ ks. map (first_links w) (map site ks)) (count_push 1 k)
      ∙ ap (map (first_links w)) (map-append site (count_from 1 k) ((1 + k) ∷ [])) ∙ map-append (first_links w) (map site (count_from 1 k)) (site (1 + k) ∷ [])
      ∙ ap (λ n. front ++ first_links w (site n) ∷ []) f
      )

  pub opened_more : (links : List (List (List Letter))) → Opened w k links → Opened w (k + 1) (set_link links (k + 2) 1 (link links (k + 2) 1 ++ first_letter w (site (k + 1)) ∷ []))
  opened_more links o =
      let left : w.sites - k ≡ suc (w.sites - (k + 1)) = omega (arith, below) in
      let is : links ≡ whole = o.are ∙ ap (λ n. row ∷ row ∷ (front ++ replicate n row)) left in
      record {
        within = omega (arith, below);
        are = ap (λ ls. set_link ls (k + 2) 1 (link ls (k + 2) 1 ++ first_letter w s ∷ [])) is ∙ pushed ∙ ap (λ z. row ∷ row ∷ (z ++ rest)) more;
        shape = set_shape (w.sites + 2) links (k + 2) 1 _ o.shape;
        letters = set_all (InTime 0) links (k + 2) 1 _ o.letters (All-push (InTime 0) (link links (k + 2) 1) (first_letter w s) (link_all (InTime 0) links (k + 2) 1 o.letters) (omega arith));
      }

pub opened_all : (w : Workload) (k : ℕ) (links : List (List (List Letter))) → w.sites ≤ k → Opened w k links → links ≡ (open_world w).links
opened_all w k links past o =
    let same : k ≡ w.sites = omega (arith, past, o.within) in
    let none : w.sites - k ≡ 0 = omega (arith, past) in
    o.are ∙ ap (λ n. replicate (w.sites + 2) [] ∷ replicate (w.sites + 2) [] ∷ (map (first_links w) (map site (count_from 1 k)) ++ replicate n (replicate (w.sites + 2) []))) none
    ∙ ap (λ z. replicate (w.sites + 2) [] ∷ replicate (w.sites + 2) [] ∷ z) (append-nil (map (first_links w) (map site (count_from 1 k))))
    ∙ ap (λ n. replicate (w.sites + 2) [] ∷ replicate (w.sites + 2) [] ∷ map (first_links w) (map site (count_from 1 n))) same

-- a world at the start goes on
pub live_first : {V : Type 0} {D : V → Type 0} (say : Says V D) (w : Workload) (world : World V D) → Go say w world.servers → NoneHeard world.servers → All (All (All (InTime 0))) world.links →
    world.times.clocks.items ≡ replicate (w.sites + 2) 0 → world.times.journals.items ≡ replicate (w.sites + 2) [] → Live say w world
live_first say w world goes none letters clocks journals = record {
  servers = goes;
  clocks = ap length clocks ∙ empty_long (w.sites + 2) 0;
  journals = ap length journals ∙ empty_long (w.sites + 2) [];
  heard = λ k. let q : heard world.servers k ≡ 0 = none.none k in omega (arith, q);
  times = record {
    servers = λ k. let q : slice_index world.times.clocks.items k ≡ 0 = ap (λ cs. slice_index cs k) clocks ∙ zeros (w.sites + 2) k in omega (arith, q);
    letters = later_all 0 (all_steps world.times.journals.items) world.links (omega arith) letters;
  };
}
  where
    zeros : (n k : ℕ) → slice_index (replicate n 0) k ≡ 0
    zeros zero k = refl
    zeros (suc n) zero = refl
    zeros (suc n) (suc k) = zeros n k
