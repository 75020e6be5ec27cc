-- Clocks and journals: no clock is beyond the number of steps taken.
use Rattle.std.proofs.Common.{◌≡◌, ◌≢◌, ◌⊎◌, inl, inr, ℕ, zero, suc, ◌+◌, ◌*◌, ◌-◌, ◌^◌, ◌<◌, ◌≤◌, List, [], ◌∷◌, ◌++◌, length, drop, fold, Some, arith, sym, ap, subst, ◌∙◌, refl, Result, Ok, Err, OnOk, length-append}
use Rattle.std.specs.Prelude.{max, min, slice_get, slice_set, slice_index, slice_index_or}
use Rattle.std.specs.List.{All, sum_by}
use Rattle.std.proofs.lemmas.List.Elements.{All-set, All-push, All-head, All-tail, All-nil, All-drop, All-weaker}
use Rattle.std.proofs.lemmas.List.Sums.{sum_by-cons}
use Rattle.raid_message.specs.declared.letter.Letter.{Letter}
use Rattle.raid_message.specs.declared.letter.Step.{Step}
use Rattle.raid_steps.specs.State.{Out}
use Rattle.raid_steps.specs.World.{link, set_link, post}
use Rattle.raid_world.specs.Stands.{AreClocks, InTime, all_steps, most_steps}
use Rattle.raid_world.proofs.Shape.{same_or_not, index_other, set_at}

-- one step more
pub total_more : (js : List (List Step)) (k : ℕ) (s : Step) → k < length js → all_steps (slice_set js k (slice_index_or js k [] ++ s ∷ [])) ≡ all_steps js + 1
total_more [] k s below = absurd (omega (arith, below))
total_more (j ∷ js) zero s below =
    let a : sum_by length ((j ++ s ∷ []) ∷ js) ≡ length (j ++ s ∷ []) + sum_by length js = sum_by-cons length (j ++ s ∷ []) js in
    let b : sum_by length (j ∷ js) ≡ length j + sum_by length js = sum_by-cons length j js in
    let c : length (j ++ s ∷ []) ≡ length j + 1 = pushed j in
    omega (arith, a, b, c)
  where
    pushed : (xs : List Step) → length (xs ++ s ∷ []) ≡ length xs + 1
    pushed [] = refl
    pushed (x ∷ xs) = let h : length (xs ++ s ∷ []) ≡ length xs + 1 = pushed xs in omega (arith, h)
total_more (j ∷ js) (suc k) s below =
    let h : all_steps (slice_set js k (slice_index_or js k [] ++ s ∷ [])) ≡ all_steps js + 1 = total_more js k s (omega (arith, below)) in
    let a : sum_by length (j ∷ slice_set js k (slice_index_or js k [] ++ s ∷ [])) ≡ length j + sum_by length (slice_set js k (slice_index_or js k [] ++ s ∷ [])) = sum_by-cons length j (slice_set js k (slice_index_or js k [] ++ s ∷ [])) in
    let b : sum_by length (j ∷ js) ≡ length j + sum_by length js = sum_by-cons length j js in
    omega (arith, a, b, h)

abbrev longest : ℕ → List (List Step) → ℕ
longest n js = fold (λ n (j : List Step). max n (length j)) n js

longest_from : (n : ℕ) (js : List (List Step)) → n ≤ longest n js
longest_from n [] = omega arith
longest_from n (j ∷ js) = let h : max n (length j) ≤ longest (max n (length j)) js = longest_from (max n (length j)) js in omega (arith, h)

longest_at : (n : ℕ) (js : List (List Step)) (k : ℕ) → length (slice_index_or js k []) ≤ longest n js
longest_at n [] k = omega arith
longest_at n (j ∷ js) zero = let h : max n (length j) ≤ longest (max n (length j)) js = longest_from (max n (length j)) js in omega (arith, h)
longest_at n (j ∷ js) (suc k) = longest_at (max n (length j)) js k

pub within_most : (js : List (List Step)) (k : ℕ) → length (slice_index_or js k []) ≤ most_steps js
within_most js k = longest_at 0 js k

-- few steps each are few together
total_from : (n : ℕ) (js : List (List Step)) → longest n js ≤ 1000000000 → all_steps js ≤ length js * 1000000000
total_from n [] few = omega arith
total_from n (j ∷ js) few =
    let a : sum_by length (j ∷ js) ≡ length j + sum_by length js = sum_by-cons length j js in
    let b : length j ≤ longest n (j ∷ js) = longest_at n (j ∷ js) 0 in
    let c : all_steps js ≤ length js * 1000000000 = total_from (max n (length j)) js few in
    omega (arith, a, b, c, few)

pub total_few : (js : List (List Step)) → most_steps js < 1000000000 → all_steps js ≤ length js * 1000000000
total_few js few = total_from 0 js (let h : most_steps js ≤ 1000000000 = omega (arith, few) in h)

-- so no clock is at its greatest value
pub exact : (a b most n : ℕ) → a ≤ most → b ≤ most → most ≤ n * 1000000000 → n ≤ 10 → min (1 + max a b) (2 ^ 64 - 1) ≡ 1 + max a b
exact a b most n p q few ten = omega (arith, p, q, few, ten)

pub next_within : (a b most clock : ℕ) → a ≤ most → b ≤ most → clock ≡ 1 + max a b → clock ≤ most + 1
next_within a b most clock p q is = omega (arith, p, q, is)

-- whatever is true of all letters
module _ (P : Letter → Type 0) where
  abbrev AllLetters : List (List (List Letter)) → Type 0
  AllLetters links = All (All (All P)) links

  index_all : {X : Type 0} (Q : X → Type 0) (xs : List X) (k : ℕ) (d : X) → All Q xs → Q d → Q (slice_index_or xs k d)
  index_all Q [] k d all none = none
  index_all Q (x ∷ xs) zero d all none = All-head Q x xs all
  index_all Q (x ∷ xs) (suc k) d all none = index_all Q xs k d (All-tail Q x xs all) none

  row_all : (links : List (List (List Letter))) (a : ℕ) → AllLetters links → All (All P) (slice_index_or links a [])
  row_all links a all = index_all (All (All P)) links a [] all (All-nil (All P))

  pub link_all : (links : List (List (List Letter))) (a b : ℕ) → AllLetters links → All P (link links a b)
  link_all links a b all = index_all (All P) (slice_index_or links a []) b [] (row_all links a all) (All-nil P)

  pub set_all : (links : List (List (List Letter))) (a b : ℕ) (queue : List Letter) → AllLetters links → All P queue → AllLetters (set_link links a b queue)
  set_all links a b queue all these = All-set (All (All P)) links a _ (All-set (All P) (slice_index_or links a []) b queue these (row_all links a all)) all

  pub posts_all : (server session clock : ℕ) (outs : List Out) (links : List (List (List Letter))) → ((l : Letter) → l.clock ≡ clock → P l) → AllLetters links →
      AllLetters (fold (post server session clock) links outs)
  posts_all server session clock [] links own all = all
  posts_all server session clock (out ∷ outs) links own all =
      posts_all server session clock outs (post server session clock links out) own
      (set_all links out.0 server _ all (All-push P (link links out.0 server) (record { clock = clock; from = session; to = out.1; message = out.2 }) (link_all links out.0 server all) (own _ refl)))

-- a later bound
pub later_all : (m n : ℕ) (links : List (List (List Letter))) → m ≤ n → All (All (All (InTime m))) links → All (All (All (InTime n))) links
later_all m n links le all = All-weaker (All (All (InTime m))) (All (All (InTime n))) (λ row r. All-weaker (All (InTime m)) (All (InTime n)) (λ queue q. All-weaker (InTime m) (InTime n) (λ l h. later l h) queue q) row r) links all
  where
    later : (l : Letter) → l.clock ≤ m → l.clock ≤ n
    later l h = omega (arith, h, le)

-- a letter is taken from the front
pub front_is : (queue : List Letter) (letter : Letter) → slice_get queue 0 ≡ Some letter → queue ≡ letter ∷ drop 1 queue
front_is [] letter q = absurd (cc q)
front_is (l ∷ ls) letter q = let e : l ≡ letter = cc q in ap (λ x. x ∷ ls) e

pub popped : (most : ℕ) (links : List (List (List Letter))) (clocks : List ℕ) (server from : ℕ) → AreClocks most links clocks → AreClocks most (set_link links server from (drop 1 (link links server from))) clocks
popped most links clocks server from a = record {
  servers = a.servers;
  letters = set_all (InTime most) links server from _ a.letters (All-drop (InTime most) 1 (link links server from) (link_all (InTime most) links server from a.letters));
}

pub front_within : (most : ℕ) (links : List (List (List Letter))) (clocks : List ℕ) (server from : ℕ) (letter : Letter) → AreClocks most links clocks → slice_get (link links server from) 0 ≡ Some letter → letter.clock ≤ most
front_within most links clocks server from letter a q = All-head (InTime most) letter (drop 1 (link links server from)) (subst (All (InTime most)) (front_is (link links server from) letter q) (link_all (InTime most) links server from a.letters))

-- after a step
pub times_after : (most : ℕ) (links : List (List (List Letter))) (clocks : List ℕ) (server session clock : ℕ) (outs : List Out) → AreClocks most links clocks → clock ≤ most + 1 →
    AreClocks (most + 1) (fold (post server session clock) links outs) (slice_set clocks server clock)
times_after most links clocks server session clock outs a within = record {
  servers = clock_at clocks server a.servers;
  letters = posts_all (InTime (most + 1)) server session clock outs links (λ l q. own l q) (later_all most (most + 1) links (omega arith) a.letters);
}
  where
    own : (l : Letter) → l.clock ≡ clock → l.clock ≤ most + 1
    own l q = omega (arith, q, within)

    clock_at : (cs : List ℕ) (i : ℕ) → ((k : ℕ) → slice_index cs k ≤ most) → (k : ℕ) → slice_index (slice_set cs i clock) k ≤ most + 1
    clock_at [] i below k = let h : slice_index [] k ≤ most = below k in omega (arith, h)
    clock_at (c ∷ cs) zero below zero = within
    clock_at (c ∷ cs) zero below (suc k) = let h : slice_index cs k ≤ most = below (suc k) in omega (arith, h)
    clock_at (c ∷ cs) (suc i) below zero = let h : c ≤ most = below zero in omega (arith, h)
    clock_at (c ∷ cs) (suc i) below (suc k) = clock_at cs i (λ j. below (suc j)) k

-- each server's journal has as many steps as it has heard letters
pub heard_more : (after before : ℕ → ℕ) (js : List (List Step)) (server : ℕ) (s : Step) → server < length js → ((k : ℕ) → before k ≤ length (slice_index_or js k [])) →
    ((k : ℕ) → k ≢ server → after k ≤ before k) → after server ≤ before server + 1 →
    (k : ℕ) → after k ≤ length (slice_index_or (slice_set js server (slice_index_or js server [] ++ s ∷ [])) k [])
heard_more after before js server s within heard there here k = go (same_or_not k server)
  where
    pushed : (xs : List Step) → length (xs ++ s ∷ []) ≡ length xs + 1
    pushed [] = refl
    pushed (x ∷ xs) = let h : length (xs ++ s ∷ []) ≡ length xs + 1 = pushed xs in omega (arith, h)

    at_server : after server ≤ length (slice_index_or (slice_set js server (slice_index_or js server [] ++ s ∷ [])) server [])
    at_server =
        let is : length (slice_index_or (slice_set js server (slice_index_or js server [] ++ s ∷ [])) server []) ≡ length (slice_index_or js server []) + 1 =
        ap length (set_at js server (slice_index_or js server [] ++ s ∷ []) [] within) ∙ pushed (slice_index_or js server []) in
        let h : before server ≤ length (slice_index_or js server []) = heard server in
        omega (arith, is, h, here)

    go : (k ≡ server) ⊎ (k ≢ server) → after k ≤ length (slice_index_or (slice_set js server (slice_index_or js server [] ++ s ∷ [])) k [])
    go (inl q) = subst (λ n. after n ≤ length (slice_index_or (slice_set js server (slice_index_or js server [] ++ s ∷ [])) n [])) (sym q) at_server
    go (inr q) =
        let is : length (slice_index_or (slice_set js server (slice_index_or js server [] ++ s ∷ [])) k []) ≡ length (slice_index_or js k []) = ap length (index_other js server k (slice_index_or js server [] ++ s ∷ []) [] q) in
        let h : before k ≤ length (slice_index_or js k []) = heard k in
        let t : after k ≤ before k = there k q in
        omega (arith, is, h, t)

-- one more step in one journal is at most one more in the longest
longest_more : (m n : ℕ) (js : List (List Step)) → m ≤ n + 1 → longest m js ≤ longest n js + 1
longest_more m n [] le = le
longest_more m n (j ∷ js) le = longest_more (max m (length j)) (max n (length j)) js (omega (arith, le))

longest_set : (n : ℕ) (js : List (List Step)) (k : ℕ) (x : Step) → longest n (slice_set js k (slice_index_or js k [] ++ x ∷ [])) ≤ longest n js + 1
longest_set n [] k x = omega arith
longest_set n (j ∷ js) zero x = longest_more (max n (length (j ++ x ∷ []))) (max n (length j)) js (let l = length-append j (x ∷ []) in omega (arith, l))
longest_set n (j ∷ js) (suc k) x = longest_set (max n (length j)) js k x

always : {T E P : Type 0} (r : Result T E) → P → OnOk r P
always (Ok v) p = p
always (Err e) p = tt

pub one_more : {T E : Type 0} (r : Result T E) (js ks : List (List Step)) (k : ℕ) (x : Step) → ks ≡ slice_set js k (slice_index_or js k [] ++ x ∷ []) → OnOk r (most_steps ks ≤ most_steps js + 1)
one_more r js ks k x is = always r (subst (λ (z : List (List Step)). most_steps z ≤ most_steps js + 1) (sym is) (longest_set 0 js k x))
