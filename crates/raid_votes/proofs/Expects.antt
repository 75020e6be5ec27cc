-- What is kept of each vote that a program awaits, and of lists of sites, programs and letters.
use Rattle.std.proofs.Common.{◌≡◌, inl, inr, ℕ, ℤ, ◌+◌, ◌<◌, ◌≤◌, ◌==◌, nat_lt, Bool, true, false, List, [], ◌∷◌, ◌++◌, if◌then◌else◌, arith, sym, subst, ◌∙◌, refl}
use Rattle.std.specs.Prelude.{⊤}
use Rattle.std.specs.List.{AllByRecursion, list_any, list_all}
use Rattle.std.proofs.lemmas.Bool.{and_parts, eqb-true, true≢false}
use Rattle.std.proofs.lemmas.List.Folds.{list_any-append}
use Rattle.raid_base.specs.declared.names.Txn.{Txn}
use Rattle.raid_base.specs.declared.names.Item.{Item}
use Rattle.raid_base.specs.declared.names.Site.{Site}
use Rattle.raid_base.specs.Names.{is_site, has_site}
use Rattle.raid_base.specs.Sites.{session, site}
use Rattle.raid_workload.specs.declared.workload.Workload.{Workload}
use Rattle.raid_legal.specs.Seen.{holds_some}
use Rattle.raid_message.specs.declared.letter.Letter.{Letter}
use Rattle.raid_steps.specs.State.{Phase, preparing, Running, SiteState}
use Rattle.raid_steps.specs.Fits.{knows_site}
use Rattle.raid_steps.specs.Programs.{put_running}
use Rattle.raid_sessions.proofs.Lists.{same_self}
use Rattle.raid_moves.specs.Moves.{Ascend}
use Rattle.raid_moves.proofs.Places.{IsBehind, all_both, all_weaken}
use Rattle.raid_asks.proofs.Facts.{or_left, or_right, or_parts}
use Rattle.raid_letters.proofs.Sends.{same_site}
use Rattle.raid_votes.specs.Votes.{VoteComes}

-- lists of letters
pub any_on : {X : Type 0} (test : X → Bool) (xs ys : List X) → list_any test xs ≡ true → list_any test (xs ++ ys) ≡ true
any_on test xs ys q = list_any-append test xs ys ∙ or_left (list_any test xs) (list_any test ys) q

pub any_new : {X : Type 0} (test : X → Bool) (xs ys : List X) → list_any test ys ≡ true → list_any test (xs ++ ys) ≡ true
any_new test xs ys q = list_any-append test xs ys ∙ or_right (list_any test xs) (list_any test ys) q

-- lists of sites
members : (ss : List Site) → AllByRecursion (λ a. has_site ss a ≡ true) ss
members [] = tt
members (s ∷ ss) = (or_left (s.0 == s.0) (has_site ss s) (same_self s.0), all_weaken (λ a. has_site ss a ≡ true) (λ a. has_site (s ∷ ss) a ≡ true) ss (λ a h. or_right (is_site a s) (has_site ss a) h) (members ss))

pub each_in : (P : Site → Type 0) (ss : List Site) → ((a : Site) → has_site ss a ≡ true → P a) → AllByRecursion P ss
each_in P ss each = all_weaken (λ a. has_site ss a ≡ true) P ss each (members ss)

pub one_of : (P : Site → Type 0) (ss : List Site) (a : Site) → AllByRecursion P ss → has_site ss a ≡ true → P a
one_of P [] a all has = absurd (true≢false (sym has))
one_of P (s ∷ ss) a all has = elim (or_parts (is_site a s) (has_site ss a) has) [
  | inl here ↦ subst P (same_site a s here) all.0
  | inr more ↦ one_of P ss a all.1 more
]

pub one_passes : (test : Site → Bool) (ss : List Site) (a : Site) → list_all test ss ≡ true → has_site ss a ≡ true → test a ≡ true
one_passes test [] a all has = absurd (true≢false (sym has))
one_passes test (s ∷ ss) a all has = (let both = and_parts (test s) (list_all test ss) all in elim (or_parts (is_site a s) (has_site ss a) has) [
  | inl here ↦ subst (λ z. test z ≡ true) (same_site a s here) both.0
  | inr more ↦ one_passes test ss a both.1 more
])

-- a program is put, and what holds of it and of all of other transactions holds of all
pub all_put_other : (P : Running → Type 0) (r : Running) (rs : List Running) → P r → Ascend rs → AllByRecursion (λ (q : Running). (q.txn.0 == r.txn.0) ≡ false → P q) rs → AllByRecursion P (put_running r rs)
all_put_other P r [] h a each = (h, tt)
all_put_other P r (q ∷ qs) h a each = go (q.txn.0 == r.txn.0) refl (nat_lt r.txn.0 q.txn.0) refl (all_put_other P r qs h a.1 each.1)
  where
    above : (a b : ℕ) → b < a → (a == b) ≡ false
    above a b l = grind (arith, l)

    less : (a b : ℕ) → nat_lt a b ≡ true → a < b
    less a b l = grind (arith, l)

    behind : r.txn.0 ≤ q.txn.0 → AllByRecursion P qs
    behind low = all_both (IsBehind q.txn) (λ (x : Running). (x.txn.0 == r.txn.0) ≡ false → P x) P qs (λ x l f. f (above x.txn.0 r.txn.0 (omega (arith, l, low)))) a.0 each.1

    go : (b : Bool) → (q.txn.0 == r.txn.0) ≡ b → (c : Bool) → nat_lt r.txn.0 q.txn.0 ≡ c → AllByRecursion P (put_running r qs) → AllByRecursion P (if b then r ∷ qs else if c then r ∷ q ∷ qs else q ∷ put_running r qs)
    go true e c l rest = (h, behind (let same = eqb-true q.txn.0 r.txn.0 e in omega (arith, same)))
    go false e true l rest = (h, (each.0 e, behind (let low = less r.txn.0 q.txn.0 l in omega (arith, low))))
    go false e false l rest = (each.0 e, rest)

-- A vote that is awaited of a site, for a transaction of the site at a place k, in its session m: the voter is another site, which the vector has up and
-- which holds a written item; and its vote comes, where these letters are on their way to it and from it
module _ (w : Workload) (sites : List SiteState) (k m : ℕ) (v : List ℕ) (asks votes : Site → List Letter) (t : Txn) where
  pub record Expects (writes : List (Item × ℤ)) (a : Site) : Type 0 where
    pub known : knows_site w a ≡ true
    pub other : is_site (site (k + 1)) a ≡ false
    pub holds : holds_some w writes a ≡ true
    pub up : 1 ≤ session v a
    pub comes : VoteComes sites (asks a) (votes a) m (session v a) t a

  abbrev pub ExpectsAll : Phase → Type 0
  ExpectsAll (preparing reads writes awaited) = AllByRecursion (Expects writes) awaited
  ExpectsAll other = ⊤

-- what holds of each awaited vote may be changed one by one
pub phase_on : (w : Workload) (sites after : List SiteState) (k m n : ℕ) (u v : List ℕ) (asks votes more left : Site → List Letter) (t : Txn) →
    ((writes : List (Item × ℤ)) (a : Site) → Expects w sites k m u asks votes t writes a → Expects w after k n v more left t writes a) →
    (phase : Phase) → ExpectsAll w sites k m u asks votes t phase → ExpectsAll w after k n v more left t phase
phase_on w sites after k m n u v asks votes more left t each (preparing reads writes awaited) h = all_weaken (Expects w sites k m u asks votes t writes) (Expects w after k n v more left t writes) awaited (each writes) h
phase_on w sites after k m n u v asks votes more left t each other h = tt
