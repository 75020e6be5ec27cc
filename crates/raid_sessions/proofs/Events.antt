-- The workload's stops and returns: how many of a site's have had their trigger, and how many the monitor has sent out.
use Rattle.std.proofs.Common.{◌≡◌, ℕ, zero, suc, ◌+◌, ◌≤◌, ◌==◌, nat_le, Bool, true, false, not, cond, ◌&&◌, List, [], ◌∷◌, ◌++◌, length, map, if◌then◌else◌, arith, sym, subst, ap, ◌∙◌, refl}
use Rattle.std.specs.Prelude.{take, drop, count_by, take_while}
use Rattle.std.specs.List.{AllByRecursion, prefix_len}
use Rattle.std.proofs.lemmas.Grind.{common_steps}
use Rattle.std.proofs.lemmas.List.Sums.{sum_by-append, sum_by-cons}
use Rattle.std.proofs.lemmas.List.Folds.{length-prefix_len}
use Rattle.std.proofs.Math.Seq.{take-add}
use Rattle.raid_base.specs.declared.names.Site.{Site}
use Rattle.raid_base.specs.Names.{is_site}
use Rattle.raid_base.specs.Sites.{site}
use Rattle.raid_workload.specs.declared.workload.Workload.{Workload}
use Rattle.raid_workload.specs.declared.workload.Event.{Event}
use Rattle.raid_message.specs.declared.letter.Message.{Message}
use Rattle.raid_message.specs.declared.letter.Message.TheVariants as letters
use Rattle.raid_message.specs.declared.letter.Letter.{Letter}
use Rattle.raid_steps.specs.Monitor.{due_events, event_out}
use Rattle.raid_sessions.proofs.Mail.{letter_of, letters_to}

-- a stop of the site, or else a return of it
abbrev pub is_event : Bool → Site → Event → Bool
is_event stop s e = is_site s e.site && (if e.stop then stop else not stop)

-- such an event whose trigger has been reached where so many transactions have ended
abbrev pub is_due : ℕ → Bool → Site → Event → Bool
is_due n stop s e = is_site s e.site && (if e.stop then stop else not stop) && nat_le e.trigger n

-- how many of each there are
abbrev pub of_site : Bool → Site → List Event → ℕ
of_site stop s es = count_by (is_event stop s) es

abbrev pub due_of : ℕ → Bool → Site → List Event → ℕ
due_of n stop s es = count_by (is_due n stop s) es

of_cons : (stop : Bool) (s : Site) (e : Event) (es : List Event) → of_site stop s (e ∷ es) ≡ cond (is_event stop s e) 1 0 + of_site stop s es
of_cons stop s e es = sum_by-cons (λ (e : Event). cond (is_event stop s e) 1 0) e es

due_cons : (n : ℕ) (stop : Bool) (s : Site) (e : Event) (es : List Event) → due_of n stop s (e ∷ es) ≡ cond (is_due n stop s e) 1 0 + due_of n stop s es
due_cons n stop s e es = sum_by-cons (λ (e : Event). cond (is_due n stop s e) 1 0) e es

-- an event whose trigger has been reached
abbrev pub IsReached : ℕ → Event → Type 0
IsReached n e = e.trigger ≤ n

-- with more ends no fewer are due
one_grows : (a b : Bool) (t n m : ℕ) → n ≤ m → cond (a && b && nat_le t n) 1 0 ≤ cond (a && b && nat_le t m) 1 0
one_grows a b t n m le = grind (arith, common_steps, le)

pub due_grows : (es : List Event) (n m : ℕ) (stop : Bool) (s : Site) → n ≤ m → due_of n stop s es ≤ due_of m stop s es
due_grows [] n m stop s le = omega arith
due_grows (e ∷ es) n m stop s le =
    let here = one_grows (is_site s e.site) (if e.stop then stop else not stop) e.trigger n m le in
    let rest = due_grows es n m stop s le in
    omega (arith, here, rest, due_cons n stop s e es, due_cons m stop s e es)

-- reached events are due
one_due : (a b : Bool) (t n : ℕ) → t ≤ n → cond (a && b) 1 0 ≤ cond (a && b && nat_le t n) 1 0
one_due a b t n le = grind (arith, common_steps, le)

pub reached_due : (es : List Event) (k n : ℕ) (stop : Bool) (s : Site) → AllByRecursion (IsReached n) (take k es) → of_site stop s (take k es) ≤ due_of n stop s es
reached_due es zero n stop s a = omega arith
reached_due [] (suc k) n stop s a = omega arith
reached_due (e ∷ es) (suc k) n stop s a =
    let here = one_due (is_site s e.site) (if e.stop then stop else not stop) e.trigger n a.0 in
    let rest = reached_due es k n stop s a.1 in
    omega (arith, here, rest, of_cons stop s e (take k es), due_cons n stop s e es)

pub still_reached : (es : List Event) (n m : ℕ) → n ≤ m → AllByRecursion (IsReached n) es → AllByRecursion (IsReached m) es
still_reached [] n m le a = tt
still_reached (e ∷ es) n m le a = (omega (arith, le, a.0), still_reached es n m le a.1)

both_reached : (n : ℕ) (es fs : List Event) → AllByRecursion (IsReached n) es → AllByRecursion (IsReached n) fs → AllByRecursion (IsReached n) (es ++ fs)
both_reached n [] fs a b = b
both_reached n (e ∷ es) fs a b = (a.0, both_reached n es fs a.1 b)

-- what the monitor sends out next
prefix_reached : (es : List Event) (n : ℕ) → AllByRecursion (IsReached n) (take_while (λ (e : Event). nat_le e.trigger n) es)
prefix_reached [] n = tt
prefix_reached (e ∷ es) n = go (nat_le e.trigger n) refl (prefix_reached es n)
  where
    at_most : (a b : ℕ) → nat_le a b ≡ true → a ≤ b
    at_most a b q = grind (arith, q)

    next : (k : ℕ) → 1 + k ≡ suc k
    next k = omega arith

    go : (b : Bool) → nat_le e.trigger n ≡ b → AllByRecursion (IsReached n) (take_while (λ (e : Event). nat_le e.trigger n) es) →
        AllByRecursion (IsReached n) (take (cond b (1 + prefix_len (λ (e : Event). nat_le e.trigger n) es) 0) (e ∷ es))
    go true q rest = subst (λ k. AllByRecursion (IsReached n) (take k (e ∷ es))) (sym (next (prefix_len (λ (e : Event). nat_le e.trigger n) es))) (at_most e.trigger n q, rest)
    go false q rest = tt

pub fired_more : (w : Workload) (fired count : ℕ) → take (fired + length (due_events w fired count)) w.events ≡ take fired w.events ++ due_events w fired count
fired_more w fired count = ap (λ k. take (fired + k) w.events) (length-prefix_len (λ (e : Event). nat_le e.trigger count) (drop fired w.events)) ∙ take-add fired (prefix_len (λ (e : Event). nat_le e.trigger count) (drop fired w.events)) w.events

pub more_reached : (w : Workload) (fired count n : ℕ) → count ≤ n → AllByRecursion (IsReached n) (take fired w.events) → AllByRecursion (IsReached n) (take (fired + length (due_events w fired count)) w.events)
more_reached w fired count n le a =
    subst (AllByRecursion (IsReached n)) (sym (fired_more w fired count))
    (both_reached n (take fired w.events) (due_events w fired count) a (still_reached (due_events w fired count) count n le (prefix_reached (drop fired w.events) count)))

-- the letters by which a site is told to stop, or else to return
abbrev pub is_order_of : Bool → Message → Bool
is_order_of true letters.Stop = true
is_order_of false letters.Return = true
is_order_of stop other = false

abbrev pub orders : Bool → List Letter → ℕ
orders stop ls = count_by (λ (l : Letter). is_order_of stop l.message) ls

pub orders_append : (stop : Bool) (ls ms : List Letter) → orders stop (ls ++ ms) ≡ orders stop ls + orders stop ms
orders_append stop ls ms = sum_by-append (λ (l : Letter). cond (is_order_of stop l.message) 1 0) ls ms

same_place : (n k : ℕ) → (n + 1 == k + 2) ≡ (n == k + 1)
same_place n k = grind (arith, common_steps)

order_said : (stop b : Bool) → is_order_of stop (if b then letters.Stop else letters.Return) ≡ (if b then stop else not stop)
order_said true true = refl
order_said true false = refl
order_said false true = refl
order_said false false = refl

-- each event sent out is told to its site
pub orders_sent : (stop : Bool) (k session clock : ℕ) (es : List Event) → orders stop (letters_to (k + 2) session clock (map event_out es)) ≡ of_site stop (site (k + 1)) es
orders_sent stop k session clock [] = refl
orders_sent stop k session clock (e ∷ es) = ap (λ b. orders stop (if b then mine ∷ others else others)) (same_place e.site.0 k) ∙ go (e.site.0 == k + 1) refl (orders_sent stop k session clock es)
  where
    mine : Letter
    mine = letter_of session clock (event_out e)

    others : List Letter
    others = letters_to (k + 2) session clock (map event_out es)

    skip : (n : ℕ) → n ≡ 0 + n
    skip n = omega arith

    first : orders stop (mine ∷ others) ≡ cond (is_order_of stop mine.message) 1 0 + orders stop others
    first = sum_by-cons (λ (l : Letter). cond (is_order_of stop l.message) 1 0) mine others

    go : (b : Bool) → (e.site.0 == k + 1) ≡ b → orders stop others ≡ of_site stop (site (k + 1)) es → orders stop (if b then mine ∷ others else others) ≡ of_site stop (site (k + 1)) (e ∷ es)
    go true here q =
        first ∙ ap (λ b. cond b 1 0 + orders stop others) (order_said stop e.stop) ∙ ap (λ n. cond (if e.stop then stop else not stop) 1 0 + n) q
        ∙ ap (λ b. cond (b && (if e.stop then stop else not stop)) 1 0 + of_site stop (site (k + 1)) es) (sym here) ∙ sym (of_cons stop (site (k + 1)) e es)
    go false here q =
        q ∙ skip (of_site stop (site (k + 1)) es) ∙ ap (λ b. cond (b && (if e.stop then stop else not stop)) 1 0 + of_site stop (site (k + 1)) es) (sym here) ∙ sym (of_cons stop (site (k + 1)) e es)

pub orders_cons : (stop : Bool) (l : Letter) (ls : List Letter) → orders stop (l ∷ ls) ≡ cond (is_order_of stop l.message) 1 0 + orders stop ls
orders_cons stop l ls = sum_by-cons (λ (l : Letter). cond (is_order_of stop l.message) 1 0) l ls

pub of_append : (stop : Bool) (s : Site) (es fs : List Event) → of_site stop s (es ++ fs) ≡ of_site stop s es + of_site stop s fs
of_append stop s es fs = sum_by-append (λ (e : Event). cond (is_event stop s e) 1 0) es fs
