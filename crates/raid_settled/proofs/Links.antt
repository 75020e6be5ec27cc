-- Letters on links, by tests: what is added at the end of a link, and what is left when its front is taken.
use Rattle.std.proofs.Common.{◌≡◌, ◌⊎◌, inl, inr, ℕ, ◌+◌, ◌<◌, ◌==◌, Bool, true, false, ◌&&◌, ◌||◌, List, [], ◌∷◌, ◌++◌, fold, if◌then◌else◌, sym, subst, refl}
use Rattle.std.specs.List.{list_any}
use Rattle.std.proofs.lemmas.Bool.{true≢false}
use Rattle.raid_message.specs.declared.letter.Letter.{Letter}
use Rattle.raid_steps.specs.State.{Out, Copying, SiteState}
use Rattle.raid_steps.specs.World.{link, set_link, post}
use Rattle.raid_sessions.proofs.Mail.{AreSquare, letter_of, letters_to, posts_here}
use Rattle.raid_letters.proofs.Runs.{set_all}
use Rattle.raid_settled.specs.Settled.{asks_copy, brings_copy, tells_copy, HasLetter, asked, brought, told, source_ended, target_ended}

pub or_right : (a b : Bool) → b ≡ true → (a || b) ≡ true
or_right true b h = refl
or_right false b h = h

pub or_left : (a b : Bool) → a ≡ true → (a || b) ≡ true
or_left true b h = refl
or_left false b h = absurd (true≢false (sym h))

pub any_behind : {X : Type 0} (test : X → Bool) (xs ys : List X) → list_any test xs ≡ true → list_any test (xs ++ ys) ≡ true
any_behind test [] ys h = absurd (true≢false (sym h))
any_behind test (x ∷ xs) ys h = go (test x) h (any_behind test xs ys)
  where
    go : (b : Bool) → (b || list_any test xs) ≡ true → (list_any test xs ≡ true → list_any test (xs ++ ys) ≡ true) → (b || list_any test (xs ++ ys)) ≡ true
    go true h rest = refl
    go false h rest = rest h

pub any_ahead : {X : Type 0} (test : X → Bool) (xs ys : List X) → list_any test ys ≡ true → list_any test (xs ++ ys) ≡ true
any_ahead test [] ys h = h
any_ahead test (x ∷ xs) ys h = or_right (test x) (list_any test (xs ++ ys)) (any_ahead test xs ys h)

-- what there is on a link is still there after
abbrev pub Grows : List (List (List Letter)) → List (List (List Letter)) → Type 0
Grows links after = (a b : ℕ) (test : Letter → Bool) → list_any test (link links a b) ≡ true → list_any test (link after a b) ≡ true

pub posts_grow : (server session clock : ℕ) (outs : List Out) (links : List (List (List Letter))) → Grows links (fold (post server session clock) links outs)
posts_grow server session clock [] links a b test h = h
posts_grow server session clock (out ∷ outs) links a b test h =
    posts_grow server session clock outs (post server session clock links out) a b test
    (set_all (λ s f queue. list_any test (link links s f) ≡ true → list_any test queue ≡ true) links out.0 server (link links out.0 server ++ letter_of session clock out ∷ [])
    (λ s f h. h) (any_behind test (link links out.0 server) (letter_of session clock out ∷ [])) a b h)

abbrev LeftOf : List (List (List Letter)) → ℕ → ℕ → Letter → (Letter → Bool) → ℕ → ℕ → List Letter → Type 0
LeftOf links server from l test s f queue = list_any test (link links s f) ≡ true → (list_any test queue ≡ true) ⊎ ((s ≡ server) × ((f ≡ from) × (test l ≡ true)))

-- and so it is when a front is taken, unless it is that
pub front_left : (links : List (List (List Letter))) (server from : ℕ) (l : Letter) (rest : List Letter) → link links server from ≡ l ∷ rest → (test : Letter → Bool) (a b : ℕ) → list_any test (link links a b) ≡ true →
    (list_any test (link (set_link links server from rest) a b) ≡ true) ⊎ ((a ≡ server) × ((b ≡ from) × (test l ≡ true)))
front_left links server from l rest front test a b =
    set_all (LeftOf links server from l test) links server from rest (λ s f h. inl h) (λ h. go (test l) refl (subst (λ q. list_any test q ≡ true) front h)) a b
  where
    go : (b : Bool) → test l ≡ b → (b || list_any test rest) ≡ true → (list_any test rest ≡ true) ⊎ ((server ≡ server) × ((from ≡ from) × (test l ≡ true)))
    go true q h = inr (refl, (refl, q))
    go false q h = inl h

among_one : (test : Letter → Bool) (l : Letter) (rest : List Letter) (a b more : Bool) → test l ≡ b → ((a && b) || more) ≡ true → (more ≡ true → list_any test rest ≡ true) → list_any test (if a then l ∷ rest else rest) ≡ true
among_one test l rest true true more q h each = or_left (test l) (list_any test rest) q
among_one test l rest true false more q h each = or_right (test l) (list_any test rest) (each h)
among_one test l rest false b more q h each = each h

-- what is sent stands on its link
pub among : (test : Letter → Bool) (c session clock : ℕ) (outs : List Out) → list_any (λ (out : Out). (out.0 == c) && test (letter_of session clock out)) outs ≡ true → list_any test (letters_to c session clock outs) ≡ true
among test c session clock [] h = absurd (true≢false (sym h))
among test c session clock (out ∷ outs) h =
    among_one test (letter_of session clock out) (letters_to c session clock outs) (out.0 == c) (test (letter_of session clock out)) (list_any (λ (out : Out). (out.0 == c) && test (letter_of session clock out)) outs) refl h (among test c session clock outs)

pub sent_there : (n server session clock : ℕ) (outs : List Out) (links : List (List (List Letter))) (c : ℕ) (test : Letter → Bool) → AreSquare n links → server < n → c < n →
    list_any (λ (out : Out). (out.0 == c) && test (letter_of session clock out)) outs ≡ true → list_any test (link (fold (post server session clock) links outs) c server) ≡ true
sent_there n server session clock outs links c test square inside below h =
    subst (λ q. list_any test q ≡ true) (sym (posts_here n server session clock outs links c square inside below)) (any_ahead test (link links c server) (letters_to c session clock outs) (among test c session clock outs h))

-- so a copy keeps its letter
pub letter_grows : (sites : List SiteState) (links after : List (List (List Letter))) (m n : ℕ) (c : Copying) → Grows links after → HasLetter sites links m n c → HasLetter sites after m n c
letter_grows sites links after m n c grows (asked h) = asked (grows (c.source.0 + 1) 1 (asks_copy m n c) h)
letter_grows sites links after m n c grows (brought h) = brought (grows (c.target.0 + 1) (c.source.0 + 1) (brings_copy n c) h)
letter_grows sites links after m n c grows (told h) = told (grows 1 (c.target.0 + 1) (tells_copy n c) h)
letter_grows sites links after m n c grows (source_ended h) = source_ended h
letter_grows sites links after m n c grows (target_ended h) = target_ended h

-- the letter that a server takes is the copy's
pub data IsIts (server from m n : ℕ) (c : Copying) (l : Letter) : Type 0 where
  was_asked : c.source.0 + 1 ≡ server → 1 ≡ from → asks_copy m n c l ≡ true → IsIts server from m n c l
  was_brought : c.target.0 + 1 ≡ server → c.source.0 + 1 ≡ from → brings_copy n c l ≡ true → IsIts server from m n c l
  was_told : 1 ≡ server → c.target.0 + 1 ≡ from → tells_copy n c l ≡ true → IsIts server from m n c l

pub letter_left : (sites : List SiteState) (links : List (List (List Letter))) (server from m n : ℕ) (c : Copying) (l : Letter) (rest : List Letter) → link links server from ≡ l ∷ rest →
    HasLetter sites links m n c → HasLetter sites (set_link links server from rest) m n c ⊎ IsIts server from m n c l
letter_left sites links server from m n c l rest front (asked h) =
    elim (front_left links server from l rest front (asks_copy m n c) (c.source.0 + 1) 1 h) [ inl left ↦ inl (asked left) | inr its ↦ inr (was_asked its.0 its.1.0 its.1.1) ]
letter_left sites links server from m n c l rest front (brought h) =
    elim (front_left links server from l rest front (brings_copy n c) (c.target.0 + 1) (c.source.0 + 1) h) [ inl left ↦ inl (brought left) | inr its ↦ inr (was_brought its.0 its.1.0 its.1.1) ]
letter_left sites links server from m n c l rest front (told h) =
    elim (front_left links server from l rest front (tells_copy n c) 1 (c.target.0 + 1) h) [ inl left ↦ inl (told left) | inr its ↦ inr (was_told its.0 its.1.0 its.1.1) ]
letter_left sites links server from m n c l rest front (source_ended h) = inl (source_ended h)
letter_left sites links server from m n c l rest front (target_ended h) = inl (target_ended h)
