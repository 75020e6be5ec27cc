-- What a history with one more entry says of values: of those that Commits gave, of the last one, and of what was seen.
use Rattle.std.proofs.Common.{◌≡◌, ℕ, ℤ, ◌+◌, ◌<◌, ◌≤◌, ◌==◌, nat_lt, Bool, true, false, ◌&&◌, ◌||◌, List, [], ◌∷◌, ◌++◌, length, Some, None, unwrap_or, if◌then◌else◌, arith, sym, subst, ap, ◌∙◌, refl}
use Rattle.std.specs.List.{AllByRecursion, list_any}
use Rattle.std.proofs.lemmas.Bool.{and_parts, eqb-true, true≢false}
use Rattle.std.proofs.lemmas.List.Sums.{fold-append}
use Rattle.raid_base.specs.declared.names.Txn.{Txn}
use Rattle.raid_base.specs.declared.names.Item.{Item}
use Rattle.raid_base.specs.declared.entry.Entry.{Entry}
use Rattle.raid_base.specs.declared.entry.Noted.{Noted}
use Rattle.raid_base.specs.Find.{first_of}
use Rattle.raid_base.specs.Names.{holds}
use Rattle.raid_workload.specs.declared.workload.Workload.{Workload}
use Rattle.raid_workload.specs.Parts.{initial}
use Rattle.raid_rules.specs.Entries.{reads_item, writes_of}
use Rattle.raid_rules.specs.History.{noted, add, next, version}
use Rattle.raid_rules.proofs.Places.{by_last}
use Rattle.raid_rules.proofs.Push.{fold_seeing_push, noted_push, number_of_push}
use Rattle.raid_legal.specs.Seen.{seen, value_of}
use Rattle.raid_layers.proofs.Histories.{any_push}
use Rattle.raid_versions.specs.Versions.{was_written}
use Rattle.raid_versions.proofs.Written.{at_push, long_push, numbered, version_is, version_long}
use Rattle.raid_values.specs.Values.{committed_value}

-- pairs
pub held_first : (x : Item) (ps : List (Item × ℤ)) → holds x ps ≡ true → (v : ℤ) × (first_of x ps ≡ Some v)
held_first x [] q = absurd (true≢false (sym q))
held_first x (p ∷ ps) q = go (p.0.0 == x.0) q (held_first x ps)
  where
    go : (b : Bool) → (b || holds x ps) ≡ true → (holds x ps ≡ true → (v : ℤ) × (first_of x ps ≡ Some v)) → (v : ℤ) × ((if b then Some p.1 else first_of x ps) ≡ Some v)
    go true q rest = (p.1, refl)
    go false q rest = rest q

pub unheld_first : (x : Item) (ps : List (Item × ℤ)) → holds x ps ≡ false → first_of x ps ≡ None
unheld_first x [] q = refl
unheld_first x (p ∷ ps) q = go (p.0.0 == x.0) q (unheld_first x ps)
  where
    go : (b : Bool) → (b || holds x ps) ≡ false → (holds x ps ≡ false → first_of x ps ≡ None) → (if b then Some p.1 else first_of x ps) ≡ None
    go true q rest = absurd (true≢false q)
    go false q rest = rest q

-- numbers
other_number : (a b : ℕ) → a < b → (b == a) ≡ false
other_number a b q = grind (arith, q)

pub positive : (n : ℕ) → nat_lt 0 n ≡ true → 0 < n
positive n q = grind (arith, q)

same_number : (a : ℕ) → (a == a) ≡ true
same_number a = grind arith

module _ (w : Workload) where
  -- what Commits gave
  pub committed_push : (p : List Noted) (n : Noted) (x : Item) (number : ℕ) →
      committed_value w (p ++ n ∷ []) x number ≡ (if n.at == number then unwrap_or (first_of x (writes_of n.entry)) (committed_value w p x number) else committed_value w p x number)
  committed_push p n x number = fold-append (λ (v : ℤ) (n : Noted). if n.at == number then unwrap_or (first_of x (writes_of n.entry)) v else v) (initial w x) p (n ∷ [])

  pub committed_still : (p : List Noted) (e : Entry) (x : Item) (number : ℕ) → number ≤ length p → committed_value w (add p e) x number ≡ committed_value w p x number
  committed_still p e x number low =
      committed_push p (next p e) x number
      ∙ ap (λ b. if b then unwrap_or (first_of x (writes_of e)) (committed_value w p x number) else committed_value w p x number) (other_number number (length p + 1) (omega (arith, low)))

  pub committed_now : (p : List Noted) (e : Entry) (x : Item) → committed_value w (add p e) x (length p + 1) ≡ unwrap_or (first_of x (writes_of e)) (committed_value w p x (length p + 1))
  committed_now p e x =
      committed_push p (next p e) x (length p + 1)
      ∙ ap (λ b. if b then unwrap_or (first_of x (writes_of e)) (committed_value w p x (length p + 1)) else committed_value w p x (length p + 1)) (same_number (length p + 1))

  -- those to come gave nothing yet
  committed_later : (x : Item) (h : List Entry) (number : ℕ) → length (noted h) < number → committed_value w (noted h) x number ≡ initial w x
  committed_later x = by_last (λ h. (number : ℕ) → length (noted h) < number → committed_value w (noted h) x number ≡ initial w x) (λ number above. refl) more
    where
      more : (h : List Entry) (e : Entry) → ((number : ℕ) → length (noted h) < number → committed_value w (noted h) x number ≡ initial w x) →
          (number : ℕ) → length (noted (h ++ e ∷ [])) < number → committed_value w (noted (h ++ e ∷ [])) x number ≡ initial w x
      more h e rest number above =
          let p = noted h in
          let long = ap length (noted_push h e) ∙ long_push p e in
          ap (λ q. committed_value w q x number) (noted_push h e) ∙ committed_push p (next p e) x number
          ∙ ap (λ b. if b then unwrap_or (first_of x (writes_of e)) (committed_value w p x number) else committed_value w p x number) (below (length p + 1) number (omega (arith, above, long)))
          ∙ rest number (omega (arith, above, long))
        where
          below : (a b : ℕ) → a < b → (a == b) ≡ false
          below a b q = grind (arith, q)

  -- the entry with a number, of which something holds: what it wrote is what its number gave
  pub record Gave (Q : Entry → Type 0) (test : Entry → Bool) (p : List Noted) (number : ℕ) : Type 0 where
    pub entry : Entry
    pub passes : test entry ≡ true
    pub holds_of : Q entry
    pub value : (x : Item) → committed_value w p x number ≡ unwrap_or (first_of x (writes_of entry)) (initial w x)
    pub written : (x : Item) → was_written p x number ≡ holds x (writes_of entry)

  pub written_still : (p : List Noted) (e : Entry) (x : Item) (number : ℕ) → number ≤ length p → was_written (add p e) x number ≡ was_written p x number
  written_still p e x number low =
      at_push (λ e. holds x (writes_of e)) p e number ∙ ap (λ b. was_written p x number || (b && holds x (writes_of e))) (other_number number (length p + 1) (omega (arith, low))) ∙ none (was_written p x number)
    where
      none : (b : Bool) → (b || false) ≡ b
      none true = refl
      none false = refl

  module _ (Q : Entry → Type 0) (test : Entry → Bool) (number : ℕ) where
    abbrev IsThere : List Noted → Type 0
    IsThere p = list_any (λ (n : Noted). (n.at == number) && test n.entry) p ≡ true

    abbrev AllOf : List Noted → Type 0
    AllOf p = AllByRecursion (λ (n : Noted). Q n.entry) p

    all_first : (p : List Noted) (n : Noted) → AllOf (p ++ n ∷ []) → AllOf p × Q n.entry
    all_first [] n a = (tt, a.0)
    all_first (m ∷ p) n a = (let rest = all_first p n a.1 in ((a.0, rest.0), rest.1))

    one_more : (h : List Entry) (e : Entry) → (IsThere (noted h) → AllOf (noted h) → Gave Q test (noted h) number) → IsThere (add (noted h) e) → AllOf (add (noted h) e) → Gave Q test (add (noted h) e) number
    one_more h e rest q a =
        let p = noted h in
        let parts = all_first p (next p e) a in
        either (list_any (λ (n : Noted). (n.at == number) && test n.entry) p) ((length p + 1 == number) && test e) (sym (any_push (λ (n : Noted). (n.at == number) && test n.entry) p (next p e)) ∙ q)
        (λ old. before (numbered h test number old).1 (rest old parts.0))
        (λ now. let both = and_parts (length p + 1 == number) (test e) now in latest (eqb-true (length p + 1) number both.0) both.1 parts.1)
      where
        p : List Noted
        p = noted h

        either : (a b : Bool) → (a || b) ≡ true → (a ≡ true → Gave Q test (add (noted h) e) number) → (b ≡ true → Gave Q test (add (noted h) e) number) → Gave Q test (add (noted h) e) number
        either true b q f g = f refl
        either false b q f g = g q

        before : number ≤ length (noted h) → Gave Q test (noted h) number → Gave Q test (add (noted h) e) number
        before low g = record {
          entry = g.entry;
          passes = g.passes;
          holds_of = g.holds_of;
          value = λ x. committed_still p e x number low ∙ g.value x;
          written = λ x. written_still p e x number low ∙ g.written x;
        }

        latest : length (noted h) + 1 ≡ number → test e ≡ true → Q e → Gave Q test (add (noted h) e) number
        latest same passes has = subst (Gave Q test (add (noted h) e)) same (record {
          entry = e;
          passes = passes;
          holds_of = has;
          value = λ x. committed_now p e x ∙ ap (unwrap_or (first_of x (writes_of e))) (committed_later x h (length p + 1) (omega arith));
          written = λ x. at_push (λ e. holds x (writes_of e)) p e (length p + 1) ∙ ap (λ b. was_written p x (length p + 1) || (b && holds x (writes_of e))) (same_number (length p + 1)) ∙ now (was_written p x (length p + 1)) (holds x (writes_of e)) (beyond x);
        })
          where
            now : (a b : Bool) → (a ≡ true → ⊥) → (a || b) ≡ b
            now true b none = absurd (none refl)
            now false b none = refl

            beyond : (x : Item) → was_written p x (length p + 1) ≡ true → ⊥
            beyond x q = (let low = (numbered h (λ e. holds x (writes_of e)) (length p + 1) q).1 in omega (arith, low))

    pub gave : (h : List Entry) → IsThere (noted h) → AllOf (noted h) → Gave Q test (noted h) number
    gave = by_last (λ h. IsThere (noted h) → AllOf (noted h) → Gave Q test (noted h) number) (λ q a. absurd (true≢false (sym q)))
        (λ h e rest. subst (λ p. IsThere p → AllOf p → Gave Q test p number) (sym (noted_push h e)) (one_more h e rest))

  -- the last value
  value_push : (p : List Noted) (e : Entry) (x : Item) → value_of w (add p e) x ≡ unwrap_or (first_of x (writes_of e)) (value_of w p x)
  value_push p e x = fold-append (λ (v : ℤ) (n : Noted). unwrap_or (first_of x (writes_of n.entry)) v) (initial w x) p (next p e ∷ [])

  version_push : (p : List Noted) (e : Entry) (x : Item) → version (add p e) x ≡ (if holds x (writes_of e) then length p + 1 else version p x)
  version_push p e x = number_of_push (λ e. holds x (writes_of e)) p (next p e)

  -- the last version is no larger than there are entries
  pub version_within : (x : Item) (h : List Entry) → version (noted h) x ≤ length (noted h)
  version_within x h = version_long h x (version (noted h) x) (version_is h x)

  -- the last version's value is the item's
  pub version_value : (x : Item) (h : List Entry) → committed_value w (noted h) x (version (noted h) x) ≡ value_of w (noted h) x
  version_value x = by_last (λ h. committed_value w (noted h) x (version (noted h) x) ≡ value_of w (noted h) x) refl more
    where
      more : (h : List Entry) (e : Entry) → committed_value w (noted h) x (version (noted h) x) ≡ value_of w (noted h) x → committed_value w (noted (h ++ e ∷ [])) x (version (noted (h ++ e ∷ [])) x) ≡ value_of w (noted (h ++ e ∷ [])) x
      more h e same = subst (λ q. committed_value w q x (version q x) ≡ value_of w q x) (sym (noted_push h e)) (ap (committed_value w (add p e) x) (version_push p e x) ∙ go (holds x (writes_of e)) refl ∙ sym (value_push p e x))
        where
          p : List Noted
          p = noted h

          go : (b : Bool) → holds x (writes_of e) ≡ b → committed_value w (add (noted h) e) x (if b then length (noted h) + 1 else version (noted h) x) ≡ unwrap_or (first_of x (writes_of e)) (value_of w (noted h) x)
          go true q =
              let v = held_first x (writes_of e) q in
              committed_now p e x ∙ ap (λ o. unwrap_or o (committed_value w p x (length p + 1))) v.1 ∙ sym (ap (λ o. unwrap_or o (value_of w p x)) v.1)
          go false q = committed_still p e x (version p x) (version_within x h) ∙ same ∙ sym (ap (λ o. unwrap_or o (value_of w p x)) (unheld_first x (writes_of e) q))

  -- what was seen
  pub seen_push : (p : List Noted) (e : Entry) (t : Txn) (x : Item) → seen w (add p e) t x ≡ (if reads_item t x e then Some (value_of w p x) else seen w p t x)
  seen_push p e t x = fold_seeing_push (λ before v n. if reads_item t x n.entry then Some (value_of w before x) else v) None p (next p e)

  -- A history that goes on from another: what Commits gave and wrote stays
  pub record GoesOn (p q : List Noted) : Type 0 where
    pub long : length p ≤ length q
    pub values : (x : Item) (number : ℕ) → number ≤ length p → committed_value w q x number ≡ committed_value w p x number
    pub written : (x : Item) (number : ℕ) → number ≤ length p → was_written q x number ≡ was_written p x number

  pub goes_same : (p : List Noted) → GoesOn p p
  goes_same p = record { long = omega arith; values = λ x number low. refl; written = λ x number low. refl }

  pub goes_further : (p q r : List Noted) → GoesOn p q → GoesOn q r → GoesOn p r
  goes_further p q r a b = record {
    long = (let m = a.long in let n = b.long in omega (arith, m, n));
    values = λ x number low. b.values x number (let m = a.long in omega (arith, m, low)) ∙ a.values x number low;
    written = λ x number low. b.written x number (let m = a.long in omega (arith, m, low)) ∙ a.written x number low;
  }

  pub goes_more : (h : List Entry) (e : Entry) → GoesOn (noted h) (noted (h ++ e ∷ []))
  goes_more h e = subst (GoesOn (noted h)) (sym (noted_push h e)) (record {
    long = (let l = long_push (noted h) e in omega (arith, l));
    values = committed_still (noted h) e;
    written = written_still (noted h) e;
  })
