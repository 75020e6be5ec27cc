-- Copies that a Commit renews.
use Rattle.std.proofs.Common.{◌≡◌, ℕ, ℤ, ◌+◌, ◌<◌, ◌==◌, nat_lt, Bool, true, false, not, ◌&&◌, ◌||◌, cond, if◌then◌else◌, List, [], ◌∷◌, filter, take, length, get_or, Option, Some, None, true≢false, refl, sym, ap, arith, ◌∙◌}
use Rattle.std.proofs.lemmas.Bool.{eqb-true, eq-eqb}
use Rattle.std.proofs.lemmas.List.Folds.{list_any_more}
use Rattle.raid_base.specs.declared.names.Txn.{Txn}
use Rattle.raid_base.specs.declared.names.Item.{Item}
use Rattle.raid_base.specs.declared.names.Site.{Site}
use Rattle.raid_base.specs.declared.request.Request.{Request}
use Rattle.raid_base.specs.declared.entry.Entry.TheVariants.{Commit}
use Rattle.raid_base.specs.Names.{is_item, is_site, has_site, holds}
use Rattle.raid_base.specs.Sites.{site}
use Rattle.raid_steps.specs.State.{Copying}
use Rattle.raid_steps.specs.Sequencer.{ends_copying}
use Rattle.raid_copier.specs.Copiers.{copies}

-- equality of numbers, the other way round
pub turned : (m n : ℕ) (b : Bool) → (m == n) ≡ b → (n == m) ≡ b
turned m n true e = eq-eqb n m (sym (eqb-true m n e))
turned m n false e = go (n == m) refl
  where
    go : (b : Bool) → (n == m) ≡ b → b ≡ false
    go true h = absurd (true≢false (sym (eq-eqb m n (sym (eqb-true n m h))) ∙ e))
    go false h = refl

swapped : (a b : Bool) → (a && b) ≡ (b && a)
swapped true true = refl
swapped true false = refl
swapped false true = refl
swapped false false = refl

-- the copy of a written item to a site where the writes are applied taken out
pub renewed_one : (t : Txn) (request : Request) (writes : List (Item × ℤ)) (applied : List Site) (s : Site) (x : Item) (o : Option Site) → request.writes ≡ writes →
    filter (λ c. not (ends_copying (Commit t request applied) c)) (copies s x o) ≡ copies s x (if holds x writes && has_site applied s then None else o)
renewed_one t request writes applied s x None e = none (holds x writes && has_site applied s)
  where
    none : (b : Bool) → [] ≡ copies s x (if b then None else None)
    none true = refl
    none false = refl
renewed_one t request writes applied s x (Some r) e =
    one (has_site applied s && holds x request.writes)
    ∙ ap (λ b. copies s x (if b then None else Some r)) (ap (λ ps. has_site applied s && holds x ps) e ∙ swapped (has_site applied s) (holds x writes))
  where
    one : (b : Bool) → (let c : Copying = record { target = s; item = x; source = r } in cond (not b) (c ∷ []) []) ≡ copies s x (if b then None else Some r)
    one true = refl
    one false = refl

-- a site's copy of one item
pub renewed_at : (target s : Site) (x item : Item) (has b : Bool) (o : Option Site) → b ≡ (is_site target s && is_item item x) → has ≡ true →
    (if b then None else o) ≡ (if (is_site target s && is_item x item) && has then None else o)
renewed_at target s x item has b o e h =
    ap (λ c. if c then None else o) (e ∙ ap (λ c. is_site target s && c) (sym (turned x.0 item.0 (is_item item x) refl)) ∙ whole (is_site target s && is_item x item) has h)
  where
    whole : (a d : Bool) → d ≡ true → a ≡ (a && d)
    whole true d q = sym q
    whole false d q = refl

-- a site that has none of the writes
pub passed_by : (a has : Bool) (o : Option Site) → has ≡ false → o ≡ (if a && has then None else o)
passed_by true has o h = sym (ap (λ b. if b then None else o) h)
passed_by false has o h = refl

-- one more site
pub more_sites : (applied : List Site) (number : ℕ) (s : Site) (same : Bool) (old before now : Option Site) →
    now ≡ (if (is_site (site number) s && same) && has_site applied (site number) then None else before) →
    before ≡ (if (same && has_site applied s) && nat_lt s.0 number then None else old) →
    now ≡ (if (same && has_site applied s) && nat_lt s.0 (number + 1) then None else old)
more_sites applied number s same old before now e h = e ∙ go (s.0 == number) refl
  where
    this : s.0 ≡ number → (if (true && same) && has_site applied (site number) then None else before) ≡ (if (same && has_site applied s) && nat_lt s.0 (number + 1) then None else old)
    this q = ap (λ k. if (true && same) && has_site applied (site k) then None else before) (sym q) ∙ two same (has_site applied s) (nat_lt s.0 number) (nat_lt s.0 (number + 1)) (let l : nat_lt s.0 (number + 1) ≡ true = grind (arith, q) in l) (let l : nat_lt s.0 number ≡ false = grind (arith, q) in l) h
      where
        two : (a b c d : Bool) → d ≡ true → c ≡ false → before ≡ (if (a && b) && c then None else old) → (if (true && a) && b then None else before) ≡ (if (a && b) && d then None else old)
        two true true c true f g k = refl
        two true false c d f g k = k
        two false b c d f g k = k
        two true true c false f g k = absurd (true≢false (sym f))

    go : (b : Bool) → (s.0 == number) ≡ b → (if (is_site (site number) s && same) && has_site applied (site number) then None else before) ≡ (if (same && has_site applied s) && nat_lt s.0 (number + 1) then None else old)
    go true q = rw q (this (eqb-true s.0 number q))
    go false q =
        let less : nat_lt s.0 number ≡ nat_lt s.0 (number + 1) = grind (arith, q) in
        rw q (h ∙ ap (λ b. if (same && has_site applied s) && b then None else old) less)

-- one more of the writes
pub more_items : (x : Item) (writes : List (Item × ℤ)) (i : ℕ) (d : Item × ℤ) (has : Bool) (old before now : Option Site) → i < length writes →
    now ≡ (if is_item x (get_or writes i d).0 && has then None else before) → before ≡ (if holds x (take i writes) && has then None else old) →
    now ≡ (if holds x (take (i + 1) writes) && has then None else old)
more_items x writes i d has old before now below e h =
    e ∙ ap (λ o. if is_item x (get_or writes i d).0 && has then None else o) h ∙ either (holds x (take i writes)) (is_item x (get_or writes i d).0) has
    ∙ ap (λ b. if b && has then None else old) (sym (list_any_more (λ p. is_item x p.0) writes i d below))
  where
    either : (a b c : Bool) → (if b && c then None else if a && c then None else old) ≡ (if (a || b) && c then None else old)
    either true true true = refl
    either true true false = refl
    either true false true = refl
    either true false false = refl
    either false true true = refl
    either false true false = refl
    either false false c = refl
