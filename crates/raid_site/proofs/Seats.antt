-- The transactions that run and those that have ballots: there are no more ballots than programs.
use Rattle.std.proofs.Common.{◌≡◌, ℕ, suc, ◌+◌, ◌<◌, ◌≤◌, nat_lt, Bool, true, false, not, ◌&&◌, ◌||◌, if◌then◌else◌, List, [], ◌∷◌, ◌++◌, filter, length, arith, ap, sym, subst, ◌∙◌, refl}
use Rattle.std.specs.List.{list_all, AllByRecursion, IsDistinct}
use Rattle.std.specs.Cmp.{IsEquivalence}
use Rattle.std.proofs.lemmas.Bool.{and_parts, and_from, not-true, not_from_false}
use Rattle.std.proofs.lemmas.Map.Made.{length-le_from_is_member, is_member-filter}
use Rattle.raid_base.specs.declared.names.Txn.{Txn}
use Rattle.raid_base.specs.Names.{is_txn, has_txn}
use Rattle.raid_steps.proofs.Parts.{all_filtered, all_appended}
use Rattle.raid_site.specs.Whole.{is_once, Whole}
use Rattle.raid_base.specs.declared.names.Site.{Site}
use Rattle.raid_site.proofs.Rows.{same_txn}

-- a list without a transaction
abbrev pub without_txn : Txn → List Txn → List Txn
without_txn t ts = filter (λ u. not (is_txn t u)) ts

-- a list with a transaction in its place, by its number
abbrev pub put_txn : Txn → List Txn → List Txn
put_txn t [] = t ∷ []
put_txn t (u ∷ us) = if is_txn t u then t ∷ us else if nat_lt t.0 u.0 then t ∷ u ∷ us else u ∷ put_txn t us

-- transactions are told apart as numbers are
own_txn : (t : Txn) → is_txn t t ≡ true
own_txn t = grind arith

same_both : (t u : Txn) → is_txn t u ≡ is_txn u t
same_both t u = grind arith

txn_laws : IsEquivalence is_txn
txn_laws = record {
  refl = own_txn;
  symm = same_both;
  congr = λ t u v same. let e : u ≡ t = same_txn t u same in ap (λ z. is_txn z v) (sym e);
}

-- who is in a list
or_later : (a b : Bool) → b ≡ true → (a || b) ≡ true
or_later true b is = refl
or_later false b is = is

has_later : (t q : Txn) (ts : List Txn) → has_txn ts q ≡ true → has_txn (t ∷ ts) q ≡ true
has_later t q ts here = or_later (is_txn q t) (has_txn ts q) here

has_first : (t : Txn) (ts : List Txn) → has_txn (t ∷ ts) t ≡ true
has_first t ts = ap (λ b. b || has_txn ts t) (own_txn t)

member_case : (q t : Txn) (ts us : List Txn) (b : Bool) → is_txn q t ≡ b → has_txn us t ≡ true → (b || has_txn ts q) ≡ true → (has_txn ts q ≡ true → has_txn us q ≡ true) → has_txn us q ≡ true
member_case q t ts us true is this here rest = subst (λ z. has_txn us z ≡ true) (same_txn q t is) this
member_case q t ts us false is this here rest = rest here

pub within_member : (ts us : List Txn) → list_all (has_txn us) ts ≡ true → (q : Txn) → has_txn ts q ≡ true → has_txn us q ≡ true
within_member [] us all q here = absurd (cc here)
within_member (t ∷ ts) us all q here =
    let parts = and_parts (has_txn us t) (list_all (has_txn us) ts) all in
    member_case q t ts us (is_txn q t) refl parts.0 here (within_member ts us parts.1 q)

pub within_by : (ts us : List Txn) → ((q : Txn) → has_txn ts q ≡ true → has_txn us q ≡ true) → list_all (has_txn us) ts ≡ true
within_by [] us each = refl
within_by (t ∷ ts) us each = and_from (has_txn us t) (list_all (has_txn us) ts) (each t (has_first t ts)) (within_by ts us (λ q here. each q (has_later t q ts here)))

-- without one
pub has_without : (t q : Txn) (ts : List Txn) → has_txn (without_txn t ts) q ≡ (has_txn ts q && not (is_txn t q))
has_without t q ts = is_member-filter txn_laws (λ u. not (is_txn t u)) q (λ u same. ap (λ z. not (is_txn t z)) (sym (same_txn q u same))) ts

and_false : (b : Bool) → (b && false) ≡ false
and_false true = refl
and_false false = refl

pub lacks_own : (t : Txn) (ts : List Txn) → has_txn (without_txn t ts) t ≡ false
lacks_own t ts = has_without t t ts ∙ ap (λ b. has_txn ts t && not b) (own_txn t) ∙ and_false (has_txn ts t)

within_without : (t : Txn) (ts us : List Txn) → list_all (has_txn us) ts ≡ true → list_all (has_txn (without_txn t us)) (without_txn t ts) ≡ true
within_without t ts us all = within_by (without_txn t ts) (without_txn t us) (λ q here.
    let parts = and_parts (has_txn ts q) (not (is_txn t q)) (sym (has_without t q ts) ∙ here) in
    has_without t q us ∙ and_from (has_txn us q) (not (is_txn t q)) (within_member ts us all q parts.0) parts.1)

not_and : (a b : Bool) → not a ≡ true → not (a && b) ≡ true
not_and true b is = absurd (cc is)
not_and false b is = refl

once_case : (t u : Txn) (us : List Txn) (b : Bool) → not (has_txn us u) ≡ true → is_once (without_txn t us) ≡ true → is_once (if not b then u ∷ without_txn t us else without_txn t us) ≡ true
once_case t u us true lone rest = rest
once_case t u us false lone rest =
    and_from (not (has_txn (without_txn t us) u)) (is_once (without_txn t us)) (ap not (has_without t u us) ∙ not_and (has_txn us u) (not (is_txn t u)) lone) rest

once_without : (t : Txn) (ts : List Txn) → is_once ts ≡ true → is_once (without_txn t ts) ≡ true
once_without t [] once = refl
once_without t (u ∷ us) once = let parts = and_parts (not (has_txn us u)) (is_once us) once in once_case t u us (is_txn t u) parts.0 (once_without t us parts.1)

-- with one more
neither : (a b : Bool) → (a || b) ≡ false → (a ≡ false) × (b ≡ false)
neither true b none = absurd (cc none)
neither false b none = (refl, none)

lacks_more : (t u : Txn) (ts : List Txn) → has_txn ts u ≡ false → is_txn u t ≡ false → has_txn (ts ++ t ∷ []) u ≡ false
lacks_more t u [] none other = ap (λ b. b || false) other
lacks_more t u (v ∷ vs) none other =
    let parts = neither (is_txn u v) (has_txn vs u) none in
    ap (λ b. b || has_txn (vs ++ t ∷ []) u) parts.0 ∙ lacks_more t u vs parts.1 other

once_more : (t : Txn) (ts : List Txn) → is_once ts ≡ true → has_txn ts t ≡ false → is_once (ts ++ t ∷ []) ≡ true
once_more t [] once none = refl
once_more t (u ∷ us) once none =
    let lone = and_parts (not (has_txn us u)) (is_once us) once in
    let parts = neither (is_txn t u) (has_txn us t) none in
    and_from (not (has_txn (us ++ t ∷ []) u)) (is_once (us ++ t ∷ []))
    (not_from_false (has_txn (us ++ t ∷ []) u) (lacks_more t u us (not-true (has_txn us u) lone.0) (same_both u t ∙ parts.0)))
    (once_more t us lone.1 parts.1)

-- a list that has no transaction twice is no longer than one that has all of it
apart : (t : Txn) (ts : List Txn) → has_txn ts t ≡ false → AllByRecursion (λ u. is_txn t u ≡ false) ts
apart t [] none = tt
apart t (u ∷ us) none = let parts = neither (is_txn t u) (has_txn us t) none in (parts.0, apart t us parts.1)

distinct : (ts : List Txn) → is_once ts ≡ true → IsDistinct is_txn ts
unfolding IsDistinct
distinct [] once = tt
distinct (t ∷ ts) once = let parts = and_parts (not (has_txn ts t)) (is_once ts) once in (apart t ts (not-true (has_txn ts t) parts.0), distinct ts parts.1)

pub fits_in : (ts us : List Txn) → list_all (has_txn us) ts ≡ true → is_once ts ≡ true → length ts ≤ length us
fits_in ts us all once = length-le_from_is_member txn_laws ts us (distinct ts once) (within_member ts us all)

-- how many are left
length_case : (t u : Txn) (us : List Txn) (b : Bool) → length (without_txn t us) ≤ length us → length (if not b then u ∷ without_txn t us else without_txn t us) ≤ suc (length us)
length_case t u us true rest = omega arith
length_case t u us false rest = omega arith

length_without : (t : Txn) (ts : List Txn) → length (without_txn t ts) ≤ length ts
length_without t [] = omega arith
length_without t (u ∷ us) = length_case t u us (is_txn t u) (length_without t us)

fewer_case : (t u : Txn) (us : List Txn) (b : Bool) → (b || has_txn us t) ≡ true → (has_txn us t ≡ true → length (without_txn t us) < length us) → length (without_txn t us) ≤ length us →
    length (if not b then u ∷ without_txn t us else without_txn t us) < suc (length us)
fewer_case t u us true here less most = omega arith
fewer_case t u us false here less most = let fewer = less here in omega (arith, fewer)

fewer_without : (t : Txn) (ts : List Txn) → has_txn ts t ≡ true → length (without_txn t ts) < length ts
fewer_without t [] here = absurd (cc here)
fewer_without t (u ∷ us) here = fewer_case t u us (is_txn t u) here (fewer_without t us) (length_without t us)

-- with one put in its place
put_case : (t u : Txn) (us : List Txn) (b c : Bool) → length (put_txn t us) ≤ length us + 1 → length (if b then t ∷ us else if c then t ∷ u ∷ us else u ∷ put_txn t us) ≤ suc (length us) + 1
put_case t u us true c rest = omega arith
put_case t u us false true rest = omega arith
put_case t u us false false rest = omega (arith, rest)

pub length_put : (t : Txn) (ts : List Txn) → length (put_txn t ts) ≤ length ts + 1
length_put t [] = omega arith
length_put t (u ∷ us) = put_case t u us (is_txn t u) (nat_lt t.0 u.0) (length_put t us)

own_case : (t u : Txn) (us : List Txn) (b c : Bool) → has_txn (put_txn t us) t ≡ true → has_txn (if b then t ∷ us else if c then t ∷ u ∷ us else u ∷ put_txn t us) t ≡ true
own_case t u us true c rest = has_first t us
own_case t u us false true rest = has_first t (u ∷ us)
own_case t u us false false rest = has_later u t (put_txn t us) rest

pub has_put_own : (t : Txn) (ts : List Txn) → has_txn (put_txn t ts) t ≡ true
has_put_own t [] = has_first t []
has_put_own t (u ∷ us) = own_case t u us (is_txn t u) (nat_lt t.0 u.0) (has_put_own t us)

or_rest : (a b c : Bool) → (a || b) ≡ true → (b ≡ true → c ≡ true) → (a || c) ≡ true
or_rest true b c here rest = refl
or_rest false b c here rest = rest here

others_case : (t u q : Txn) (us : List Txn) (b c : Bool) → is_txn t u ≡ b → has_txn (u ∷ us) q ≡ true → (has_txn us q ≡ true → has_txn (put_txn t us) q ≡ true) →
    has_txn (if b then t ∷ us else if c then t ∷ u ∷ us else u ∷ put_txn t us) q ≡ true
others_case t u q us true c is here rest = subst (λ z. has_txn (z ∷ us) q ≡ true) (same_txn t u is) here
others_case t u q us false true is here rest = has_later t q (u ∷ us) here
others_case t u q us false false is here rest = or_rest (is_txn q u) (has_txn us q) (has_txn (put_txn t us) q) here rest

pub has_put : (t q : Txn) (ts : List Txn) → has_txn ts q ≡ true → has_txn (put_txn t ts) q ≡ true
has_put t q [] here = absurd (cc here)
has_put t q (u ∷ us) here = others_case t u q us (is_txn t u) (nat_lt t.0 u.0) refl here (has_put t q us)

-- What each call makes of programs and ballots that fit.

module _ (m : ℕ) (ts vs : List Txn) (space : ℕ) (stored own : Site) (whole : Whole m ts vs space stored own) where
  -- one begins
  pub begins : (t : Txn) → length ts < m → Whole m (put_txn t ts) vs space stored own
  begins t fewer = record {
    few = let most = length_put t ts in omega (arith, most, fewer);
    room = whole.room;
    run = within_by vs (put_txn t ts) (λ q here. has_put t q ts (within_member vs ts whole.run q here));
    once = whole.once;
    home = whole.home;
  }

  -- one has ended
  pub ends : (t : Txn) → Whole m (without_txn t ts) (without_txn t vs) space stored own
  ends t = record {
    few = let most = length_without t ts in let few = whole.few in omega (arith, most, few);
    room = whole.room;
    run = within_without t vs ts whole.run;
    once = once_without t vs whole.once;
    home = whole.home;
  }

  -- a ballot is closed
  pub closes : (t : Txn) → Whole m ts (without_txn t vs) space stored own
  closes t = record {
    few = whole.few;
    room = whole.room;
    run = all_filtered (has_txn ts) (λ u. not (is_txn t u)) vs whole.run;
    once = once_without t vs whole.once;
    home = whole.home;
  }

  -- a ballot of one that runs is opened in place of the one that it had
  pub opens : (t : Txn) → has_txn ts t ≡ true → Whole m ts (without_txn t vs ++ t ∷ []) space stored own
  opens t runs = record {
    few = whole.few;
    room = whole.room;
    run = all_appended (has_txn ts) (without_txn t vs) (t ∷ []) (all_filtered (has_txn ts) (λ u. not (is_txn t u)) vs whole.run) (and_from (has_txn ts t) true runs refl);
    once = once_more t (without_txn t vs) (once_without t vs whole.once) (lacks_own t vs);
    home = whole.home;
  }

  -- nothing runs
  pub clears : Whole m [] [] space stored own
  clears = record { few = omega arith; room = whole.room; run = refl; once = refl; home = whole.home }

  -- one that runs has ended and another begins
  pub again : (t u : Txn) → has_txn ts t ≡ true → Whole m (put_txn u (without_txn t ts)) (without_txn t vs) space stored own
  again t u runs = record {
    few = let most = length_put u (without_txn t ts) in let fewer = fewer_without t ts runs in let few = whole.few in omega (arith, most, fewer, few);
    room = whole.room;
    run = within_by (without_txn t vs) (put_txn u (without_txn t ts)) (λ q here. has_put u q (without_txn t ts) (within_member (without_txn t vs) (without_txn t ts) (within_without t vs ts whole.run) q here));
    once = once_without t vs whole.once;
    home = whole.home;
  }

  -- there is room for a ballot of one that runs
  pub room_left : (t : Txn) → has_txn ts t ≡ true → length (without_txn t vs) < space
  room_left t runs =
      let most = fits_in (t ∷ without_txn t vs) ts
      (and_from (has_txn ts t) (list_all (has_txn ts) (without_txn t vs)) runs (all_filtered (has_txn ts) (λ u. not (is_txn t u)) vs whole.run))
      (and_from (not (has_txn (without_txn t vs) t)) (is_once (without_txn t vs)) (not_from_false (has_txn (without_txn t vs) t) (lacks_own t vs)) (once_without t vs whole.once)) in
      let few = whole.few in
      let room = whole.room in
      omega (arith, most, few, room)
