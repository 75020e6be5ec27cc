-- In every run a site has one copy of each item that it holds, and of no other.
use Rattle.std.proofs.Common.{◌≡◌, ◌≢◌, ◌⊎◌, inl, inr, ℕ, zero, suc, ◌+◌, ◌<◌, ◌==◌, Bool, true, false, List, [], ◌∷◌, ◌++◌, length, map, filter, find, Option, Some, None, if◌then◌else◌, arith, sym, subst, ap, ◌∙◌, refl, append-nil, append_assoc}
use Rattle.std.specs.Prelude.{slice_get, slice_set}
use Rattle.std.specs.List.{AllByRecursion}
use Rattle.std.proofs.lemmas.List.Sums.{fold-append}
use Rattle.raid_base.specs.declared.names.Item.{Item}
use Rattle.raid_base.specs.Names.{is_item}
use Rattle.raid_base.specs.Sites.{site}
use Rattle.raid_workload.specs.declared.workload.Workload.{Workload}
use Rattle.raid_workload.specs.Parts.{items, count_from, initial}
use Rattle.raid_message.specs.declared.letter.Letter.{Letter}
use Rattle.raid_message.specs.declared.letter.Pick.{Pick}
use Rattle.raid_steps.specs.State.{Copy, SiteState}
use Rattle.raid_steps.specs.Copies.{renewed}
use Rattle.raid_steps.specs.Site.{hear_site}
use Rattle.raid_steps.specs.World.{World, hear, hear_at, link, take_front, pick, run, open_world}
use Rattle.raid_sessions.proofs.Lists.{get_below, get_set, get_other, some_is}
use Rattle.raid_sessions.proofs.Mail.{same_or_not}
use Rattle.raid_moves.specs.Moves.{Ascend}
use Rattle.raid_moves.proofs.Places.{all_kept, all_both}
use Rattle.raid_asks.proofs.Reached.{first_state}
use Rattle.raid_letters.specs.Says.{is_held}
use Rattle.raid_staged.proofs.Runs.{landed}
use Rattle.raid_versions.proofs.SiteCopies.{renewed_item, set_in, set_item}
use Rattle.raid_versions.proofs.SiteParts.{Copied, keeps, applies, renews, step_copies}

abbrev pub items_of : List Copy → List Item
items_of cs = map (λ (c : Copy). c.item) cs

-- a change of each copy that keeps its item
pub same_items : (f : Copy → Copy) → ((c : Copy) → (f c).item ≡ c.item) → (cs : List Copy) → items_of (map f cs) ≡ items_of cs
same_items f each [] = refl
same_items f each (c ∷ cs) = ap (λ x. x ∷ items_of (map f cs)) (each c) ∙ ap (λ xs. c.item ∷ xs) (same_items f each cs)

-- items ascend
abbrev AreAbove : Item → List Item → Type 0
AreAbove x xs = AllByRecursion (λ (y : Item). x.0 < y.0) xs

abbrev AscendItems : List Item → Type 0
AscendItems [] = Unit {0}
AscendItems (x ∷ xs) = AreAbove x xs × AscendItems xs

abbrev pub numbered : List ℕ → List Item
numbered ks = map (λ k. let x : Item = record { 0 = k } in x) ks

above_from : (x : Item) (a n : ℕ) → x.0 < a → AreAbove x (numbered (count_from a n))
above_from x a zero low = tt
above_from x a (suc n) low = (low, above_from x (a + 1) n (omega (arith, low)))

from_ascends : (a n : ℕ) → AscendItems (numbered (count_from a n))
from_ascends a zero = tt
from_ascends a (suc n) = (above_from (record { 0 = a }) (a + 1) n (omega arith), from_ascends (a + 1) n)

kept_ascend : (test : Item → Bool) (xs : List Item) → AscendItems xs → AscendItems (filter test xs)
kept_ascend test [] a = tt
kept_ascend test (x ∷ xs) a = go (test x) (kept_ascend test xs a.1)
  where
    go : (b : Bool) → AscendItems (filter test xs) → AscendItems (if b then x ∷ filter test xs else filter test xs)
    go true rest = (all_kept (λ (y : Item). x.0 < y.0) test xs a.0, rest)
    go false rest = rest

passes : (test : Item → Bool) (xs : List Item) → AllByRecursion (λ (x : Item). test x ≡ true) (filter test xs)
passes test [] = tt
passes test (x ∷ xs) = go (test x) refl (passes test xs)
  where
    go : (b : Bool) → test x ≡ b → AllByRecursion (λ (x : Item). test x ≡ true) (filter test xs) → AllByRecursion (λ (x : Item). test x ≡ true) (if b then x ∷ filter test xs else filter test xs)
    go true q rest = (q, rest)
    go false q rest = rest

-- what holds of their items holds of copies
pub of_items : (P : Item → Type 0) (cs : List Copy) → AllByRecursion P (items_of cs) → AllByRecursion (λ (c : Copy). P c.item) cs
of_items P [] a = tt
of_items P (c ∷ cs) a = (a.0, of_items P cs a.1)

-- each is the one that is found of its item
each_found : (cs : List Copy) → AscendItems (items_of cs) → AllByRecursion (λ (c : Copy). find (λ (d : Copy). is_item c.item d.item) cs ≡ Some c) cs
each_found [] a = tt
each_found (c ∷ cs) a = (
  ap (λ b. if b then Some c else find (λ (d : Copy). is_item c.item d.item) cs) (self c.item.0),
  all_both (λ (d : Copy). c.item.0 < d.item.0) (λ (d : Copy). find (λ (e : Copy). is_item d.item e.item) cs ≡ Some d) (λ (d : Copy). find (λ (e : Copy). is_item d.item e.item) (c ∷ cs) ≡ Some d) cs
      (λ d less found. ap (λ b. if b then Some c else find (λ (e : Copy). is_item d.item e.item) cs) (apart c.item.0 d.item.0 less) ∙ found) (of_items (λ (x : Item). c.item.0 < x.0) cs a.0) (each_found cs a.1),
)
  where
    self : (n : ℕ) → (n == n) ≡ true
    self n = grind arith

    apart : (n m : ℕ) → n < m → (n == m) ≡ false
    apart n m q = grind (arith, q)

module _ (w : Workload) where
  -- the items that the site at a place holds
  abbrev pub held_items : ℕ → List Item
  held_items k = filter (λ x. is_held w (site (k + 1)) x) (items w)

  abbrev At : World → Type 0
  At state = (k : ℕ) (s : SiteState) → slice_get state.servers.sites k ≡ Some s → items_of s.copies ≡ held_items k

  copied_items : (state : SiteState) (from : ℕ) (letter : Letter) → Copied w state from letter (hear_site w state from letter) → items_of (hear_site w state from letter).state.copies ≡ items_of state.copies
  copied_items state from letter (keeps same passes sent) = ap items_of same
  copied_items state from letter (applies t number ps m q same sent) = ap items_of same ∙ same_items (renewed number ps) (renewed_item number ps) state.copies
  copied_items state from letter (renews k x v version c m q l same sent) = ap items_of same ∙ same_items (set_in x v version) (set_item x v version) state.copies

  hear_items : (state : World) → ((k : ℕ) (s : SiteState) → slice_get state.servers.sites k ≡ Some s → Ascend s.running) → At state → (server from : ℕ) (l : Letter) →
      (k : ℕ) (s : SiteState) → slice_get (hear w state.servers server from l).0.sites k ≡ Some s → items_of s.copies ≡ held_items k
  hear_items state ascends all zero from l k s there = all k s there
  hear_items state ascends all (suc zero) from l k s there = all k s there
  hear_items state ascends all (suc (suc j)) from l k s there = go (slice_get state.servers.sites j) refl k s there
    where
      go : (o : Option SiteState) → slice_get state.servers.sites j ≡ o → (k : ℕ) (s : SiteState) → slice_get (hear_at w state.servers j from l o).0.sites k ≡ Some s → items_of s.copies ≡ held_items k
      go None none k s there = all k s there
      go (Some own) at k s there = by (same_or_not k j)
        where
          by : (k ≡ j) ⊎ (k ≢ j) → items_of s.copies ≡ held_items k
          by (inl e) =
              let is : (hear_site w own from l).state ≡ s = some_is (hear_site w own from l).state s (sym (get_set state.servers.sites j (hear_site w own from l).state (get_below state.servers.sites j own at)) ∙ ap (slice_get (slice_set state.servers.sites j (hear_site w own from l).state)) (sym e) ∙ there) in
              ap (λ (z : SiteState). items_of z.copies) (sym is) ∙ copied_items own from l (step_copies w own from l (ascends j own at)) ∙ all j own at ∙ ap held_items (sym e)
          by (inr differ) = all k s (sym (get_other state.servers.sites j k (hear_site w own from l).state differ) ∙ there)

  front_items : (state : World) (server from : ℕ) (queue : List Letter) → ((k : ℕ) (s : SiteState) → slice_get state.servers.sites k ≡ Some s → Ascend s.running) → At state → At (take_front w state server from queue)
  front_items state server from [] ascends all = all
  front_items state server from (l ∷ rest) ascends all = hear_items state ascends all server from l

  first_items : (xs : List Item) → items_of (map (λ x. let c : Copy = record { item = x; value = initial w x; version = 0 } in c) xs) ≡ xs
  first_items [] = refl
  first_items (x ∷ xs) = ap (λ ys. x ∷ ys) (first_items xs)

  open_items : At (open_world w)
  open_items k s at =
      ap (λ (z : SiteState). items_of z.copies) (sym (first_state w 1 w.sites k s at)) ∙ first_items (filter (λ x. is_held w (site (1 + k)) x) (items w))
      ∙ ap (λ n. filter (λ x. is_held w (site n) x) (items w)) (let e : 1 + k ≡ k + 1 = omega arith in e)

  steps : (before more : List Pick) → At (run w before) → At (run w (before ++ more))
  steps before [] all = subst (λ z. At (run w z)) (sym (append-nil before)) all
  steps before (p ∷ more) all =
      let s = run w before in
      subst (λ z. At (run w z)) (append_assoc before (p ∷ []) more)
      (steps (before ++ p ∷ []) more (subst At (sym (fold-append (pick w) (open_world w) before (p ∷ []))) (front_items s p.server p.from (link s.links p.server p.from) (λ k z at. ((landed w before).says.homes k z at).ascend) all)))

  pub runs_items : (schedule : List Pick) (k : ℕ) (s : SiteState) → slice_get (run w schedule).servers.sites k ≡ Some s → items_of s.copies ≡ held_items k
  runs_items schedule = steps [] schedule open_items

  -- so each copy is of an item that the site holds, and is the one that is found of its item
  pub copies_held : (k : ℕ) (cs : List Copy) → items_of cs ≡ held_items k → AllByRecursion (λ (c : Copy). is_held w (site (k + 1)) c.item ≡ true) cs
  copies_held k cs same = of_items (λ x. is_held w (site (k + 1)) x ≡ true) cs (subst (AllByRecursion (λ (x : Item). is_held w (site (k + 1)) x ≡ true)) (sym same) (passes (λ x. is_held w (site (k + 1)) x) (items w)))

  pub copies_found : (k : ℕ) (cs : List Copy) → items_of cs ≡ held_items k → AllByRecursion (λ (c : Copy). find (λ (d : Copy). is_item c.item d.item) cs ≡ Some c) cs
  copies_found k cs same = each_found cs (subst AscendItems (sym same) (kept_ascend (λ x. is_held w (site (k + 1)) x) (items w) (from_ascends 0 (length w.items))))
