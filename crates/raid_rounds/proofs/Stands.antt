-- What stands between two rounds, and that a round keeps it.
use Rattle.std.proofs.Common.{◌≡◌, ℕ, ◌+◌, ◌-◌, ◌*◌, ◌<◌, ◌≤◌, List, [], ◌∷◌, Bool, true, false, arith, All, map, add-one}
use Rattle.std.proofs.lemmas.List.Elements.{All-nil, All-cons, All-head, All-tail, All-weaker}
use Rattle.raid_link.specs.Laws.{SomeOf, NodeLaws}
use Rattle.raid_rounds.specs.Rounds.{Round, Reached, Within}
use Rattle.raid_rounds.proofs.Turns.{turned_all, turned_keeps, turned_weaker}

-- two lists with the same numbers, and a fact of each number
pub same_numbers : {S : Type 0} (f : S → ℕ) (P : ℕ → Type 0) (xs ys : List S) → map f ys ≡ map f xs → All (λ x. P (f x)) xs → All (λ y. P (f y)) ys
same_numbers f P [] [] e a = All-nil (λ y. P (f y))
same_numbers f P [] (y ∷ ys) e a = cc
same_numbers f P (x ∷ xs) [] e a = cc
same_numbers f P (x ∷ xs) (y ∷ ys) e a =
    let head : f y ≡ f x = cc in
    let rest : map f ys ≡ map f xs = cc in
    let px : P (f x) = All-head (λ z. P (f z)) x xs a in
    All-cons (λ z. P (f z)) y ys (rw head px) (same_numbers f P xs ys rest (All-tail (λ z. P (f z)) x xs a))

pub record Stands {S : Type 0} (T : S → ℕ → S → Type 0) (settles : List S → Bool → List S → Type 0) (whole : List S → Type 0) (own : S → Type 0) (some_left : List S → Type 0) (has_known : S → Type 0) (taken : S → ℕ) (most : ℕ) (start : List S) (made spare : ℕ) (now : List S) : Type 0 where
  pub reached : Reached T settles made start true now
  pub whole_now : whole now
  pub own_now : All own now
  pub room : All (λ x. taken x + spare + 64 * most ≤ 1000000000 + 64 * made) now
  pub letter_left : some_left now
  pub letter_known : SomeOf has_known now

module _ {S : Type 0} (T : S → ℕ → S → Type 0) (settles : List S → Bool → List S → Type 0) (whole : List S → Type 0) (own : S → Type 0) (some_left : List S → Type 0) (has_known : S → Type 0) (taken : S → ℕ) (laws : NodeLaws T settles whole own some_left has_known taken) (most : ℕ) where
  -- after the first settling, where a letter is left
  pub stands_first : (xs ys : List S) → settles xs true ys → whole xs → All own xs → All (λ x. taken x + 64 * most ≤ 640000000) xs → Stands T settles whole own some_left has_known taken most xs 0 360000000 ys
  stands_first xs ys s w o r =
      let some = laws.settle_some xs ys s w in
      record {
        reached = s;
        whole_now = laws.settle_whole xs true ys s w;
        own_now = laws.settle_own xs true ys s o;
        room = same_numbers taken (λ n. n + 360000000 + 64 * most ≤ 1000000000 + 64 * 0) xs ys (laws.settle_taken xs true ys s) (All-weaker (λ x. taken x + 64 * most ≤ 640000000) (λ x. taken x + 360000000 + 64 * most ≤ 1000000000 + 64 * 0) (λ x h. omega arith) xs r);
        letter_left = some.0;
        letter_known = some.1;
      }

  -- what the turns of a round ask
  pub stands_asks : (start : List S) (made spare more : ℕ) (xs : List S) → made < most → more ≤ spare → Stands T settles whole own some_left has_known taken most start made spare xs → All (λ x. own x × (taken x + (64 + more) ≤ 1000000000)) xs
  stands_asks start made spare more xs below enough s k d h = (s.own_now k d h, (let p = s.room k d h in omega arith))

  -- a round whose turns take at most so many letters is a round
  abbrev pub round_weaker : (letters : ℕ) (xs ys : List S) (b : Bool) → Round (Within T letters) settles xs b ys → Round T settles xs b ys
  round_weaker letters xs ys b r = record { mid = r.mid; count = r.count; turned = turned_weaker (Within T letters) T (λ x k y t. t.0) xs r.count r.mid r.turned; some = r.some; settled = r.settled }

  -- what holds in the middle of a round
  pub mid_whole : (xs ys : List S) (b : Bool) → Round T settles xs b ys → whole xs → whole ys
  mid_whole xs ys b r w = laws.settle_whole r.mid b ys r.settled (turned_keeps T whole laws.turn_whole [] xs r.count r.mid r.turned w)

  pub mid_own : (xs ys : List S) (b : Bool) → Round T settles xs b ys → All own xs → All own ys
  mid_own xs ys b r o = laws.settle_own r.mid b ys r.settled (turned_all T own own laws.turn_own xs r.count r.mid r.turned o)

  -- a round that leaves a letter
  pub stands_more : (start : List S) (made spare more : ℕ) (xs ys : List S) → more ≤ spare → Round (Within T (64 + more)) settles xs true ys → Stands T settles whole own some_left has_known taken most start made spare xs →
      Stands T settles whole own some_left has_known taken most start (made + 1) (spare - more) ys
  stands_more start made spare more xs ys enough q s =
      let r = round_weaker (64 + more) xs ys true q in
      let w = turned_keeps T whole laws.turn_whole [] xs r.count r.mid r.turned s.whole_now in
      let some = laws.settle_some r.mid ys r.settled w in
      let P : ℕ → Type 0 = λ n. n + (spare - more) + 64 * most ≤ 1000000000 + 64 * (made + 1) in
      let counted : All (λ y. P (taken y)) r.mid = turned_all (Within T (64 + more)) (λ x. taken x + spare + 64 * most ≤ 1000000000 + 64 * made) (λ y. P (taken y)) (λ x n y t h. let c = laws.turn_counts x n y t.0 in omega (arith, c, t.1, enough)) xs q.count q.mid q.turned s.room in
      record {
        reached = rw add-one (xs, s.reached, r);
        whole_now = mid_whole xs ys true r s.whole_now;
        own_now = mid_own xs ys true r s.own_now;
        room = same_numbers taken P r.mid ys (laws.settle_taken r.mid true ys r.settled) counted;
        letter_left = some.0;
        letter_known = some.1;
      }

  -- a round that leaves none
  pub stands_none : (start : List S) (made spare : ℕ) (xs ys : List S) → Round T settles xs false ys → Stands T settles whole own some_left has_known taken most start made spare xs → Reached T settles (made + 1) start false ys × (some_left ys → ⊥) × whole ys × All own ys
  stands_none start made spare xs ys r s =
      let w = turned_keeps T whole laws.turn_whole [] xs r.count r.mid r.turned s.whole_now in
      (rw add-one (xs, s.reached, r), laws.settle_none r.mid ys r.settled w, mid_whole xs ys false r s.whole_now, mid_own xs ys false r s.own_now)
