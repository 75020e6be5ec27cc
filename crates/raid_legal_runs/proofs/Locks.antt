-- Under locking alone no running transaction has an edge to another; and where each edge of committed transactions goes to the later Commit,
-- the serial order is that of the Commits.
use Rattle.std.proofs.Common.{◌≡◌, ℕ, ◌+◌, ◌<◌, ◌≤◌, ◌==◌, ◌⊎◌, Bool, true, false, not, ◌&&◌, ◌||◌, if◌then◌else◌, List, [], ◌∷◌, ◌++◌, length, length-append, map, fold, Some, None, arith, sym, ◌∙◌, ap, subst, refl, append-nil, append_assoc}
use Rattle.std.specs.Prelude.{find, option_to_list}
use Rattle.std.specs.List.{AllByRecursion, list_any, list_all}
use Rattle.std.proofs.lemmas.Bool.{and_parts, and_from, true≢false}
use Rattle.raid_base.specs.declared.names.Txn.{Txn}
use Rattle.raid_base.specs.declared.entry.Entry.{Entry}
use Rattle.raid_base.specs.declared.entry.Entry.TheVariants.{Commit}
use Rattle.raid_base.specs.declared.entry.Noted.{Noted}
use Rattle.raid_base.specs.declared.verdict.Kind.TheVariants.{Lock, Valid}
use Rattle.raid_base.specs.Names.{is_txn, has_txn}
use Rattle.raid_workload.specs.declared.workload.Workload.{Workload}
use Rattle.raid_rules.specs.Conflict.{Edge, edges, committed, commit_of, waits_for, is_next, list_next, listing, serial_order}
use Rattle.raid_rules.specs.Entries.{is_commit_of}
use Rattle.raid_rules.specs.History.{noted, add, next, commit_number, stamp, has_begun, has_committed, has_ended, is_running}
use Rattle.raid_rules.proofs.Edges.{pair_edge}
use Rattle.raid_rules.proofs.Listing.{committed_has, committed_push, any_find}
use Rattle.raid_rules.proofs.Places.{by_last}
use Rattle.raid_rules.proofs.Push.{noted_push, number_of_push, same_txn}
use Rattle.raid_legal.specs.InForce.{InForce, in_force, opening}
use Rattle.raid_legal.specs.Legal.{Legal}
use Rattle.raid_serial.proofs.Graph.{one}
use Rattle.raid_serial.proofs.Model.{Member}
use Rattle.raid_serial.proofs.OneKind.{stays_alone, commits_in_turn}
use Rattle.raid_serial.proofs.Real.{run_model, edge_model}
use Rattle.raid_serial.proofs.System.{Hist, Live, view_path}
use Rattle.raid_serial.proofs.Tamed.{Stands, stands}
use Rattle.raid_serial.proofs.Theorem.{inv}
use Rattle.raid_serial.proofs.Translate.{txn, numbers_of, kind_of, hist_of, rep_hist}
use Rattle.raid_serial.proofs.Verdicts.{Promise}
use Rattle.raid_placed.specs.Placed.{Placed, Placeable}
use Rattle.raid_placed.proofs.Orderly.{placeable_follows}
use Rattle.raid_placed.proofs.Sent.{legal_placed, placed_push}
use Rattle.raid_layers.proofs.Histories.{committed_ended}

-- members of lists
self : (n : ℕ) → (n == n) ≡ true
self n = grind arith

here : (x : Txn) (xs : List Txn) → has_txn (x ∷ xs) x ≡ true
here x xs = ap (λ b. b || has_txn xs x) (self x.0)

or_right : (a b : Bool) → b ≡ true → (a || b) ≡ true
or_right true b q = refl
or_right false b q = q

there : (x y : Txn) (xs : List Txn) → has_txn xs y ≡ true → has_txn (x ∷ xs) y ≡ true
there x y xs i = or_right (is_txn y x) (has_txn xs y) i

-- a running transaction holds its locks
pub no_edge : (w : Workload) (h : List Entry) → Legal w h → w.switches ≡ [] → w.kind ≡ Lock → (t u : Txn) → is_running (noted h) t ≡ true → Edge (noted h) t u → ⊥
no_edge w h l none kind t u runs edge = subst (λ k. Promise S k t.0 u.0) (ap (λ (f : InForce). kind_of f.kind) alone ∙ ap kind_of kind) law
  where
    p : List Noted
    p = noted h

    S : ℕ → ℕ
    S k = stamp (noted h) (txn k)

    st : Stands (λ k. stamp (noted h) (txn k)) w (noted h)
    st = stands (λ k. stamp (noted h) (txn k)) w h l (λ t b. refl)

    alone : in_force w (noted h) ≡ opening w
    alone = stays_alone w none h l

    live : Live (hist_of (noted h)) (numbers_of (in_force w (noted h)).off) t.0
    live = (run_model (Hist (hist_of (noted h))) (noted h) (rep_hist (noted h)) t.0 runs, λ m. subst (λ (f : InForce). Member t.0 (numbers_of f.off)) alone m)

    law : Promise (λ k. stamp (noted h) (txn k)) (kind_of (in_force w (noted h)).kind) t.0 u.0
    law =
        (inv (λ k. stamp (noted h) (txn k)) st.tame).law t.0 u.0 live
        (view_path (hist_of p) (in_force w p).view.cut (numbers_of (in_force w p).view.keep) (numbers_of (in_force w p).off) (inv (λ k. stamp (noted h) (txn k)) st.tame).cover t.0 u.0 live
        (one (edge_model (Hist (hist_of p)) p (rep_hist p) t u edge)))

-- listing one after the other, where in each place the next of the list is next
found_behind : (f : Txn → Bool) (xs ys : List Txn) (t : Txn) → ((x : Txn) → has_txn xs x ≡ true → f x ≡ false) → f t ≡ true → find f (xs ++ t ∷ ys) ≡ Some t
found_behind f [] ys t none passes = ap (λ b. if b then Some t else find f ys) passes
found_behind f (x ∷ xs) ys t none passes = ap (λ b. if b then Some x else find f (xs ++ t ∷ ys)) (none x (here x xs)) ∙ found_behind f xs ys t (λ y i. none y (there x y xs i)) passes

module _ (pairs : List (Txn × Txn)) (all : List Txn) (turn : (xs ys : List Txn) (t : Txn) → all ≡ xs ++ t ∷ ys → is_next pairs all xs t ≡ true) where
  lists : (xs ys : List Txn) → all ≡ xs ++ ys → fold (λ listed t. list_next pairs all listed) xs ys ≡ xs ++ ys
  lists xs [] q = sym (append-nil xs)
  lists xs (t ∷ ys) q =
      let found : find (is_next pairs all xs) all ≡ Some t = ap (find (is_next pairs all xs)) q ∙ found_behind (is_next pairs all xs) xs ys t (λ x i. ap (λ b. not b && not (list_any (waits_for all xs x) pairs)) i) (turn xs ys t q) in
      let one : list_next pairs all xs ≡ xs ++ t ∷ [] = ap (λ o. xs ++ option_to_list o) found in
      ap (λ l. fold (λ listed t. list_next pairs all listed) l ys) one ∙ lists (xs ++ t ∷ []) ys (q ∙ sym (append_assoc xs (t ∷ []) ys)) ∙ append_assoc xs (t ∷ []) ys

  pub listing_is : listing pairs all ≡ all
  listing_is = lists [] all refl

-- numbers of transactions that ascend along a list
abbrev pub Rises : (Txn → ℕ) → List Txn → Type 0
Rises f [] = Unit {0}
Rises f (t ∷ ts) = AllByRecursion (λ (u : Txn). f t < f u) ts × Rises f ts

-- what is told of each member of a list
all_of : (P Q : Txn → Type 0) (xs : List Txn) → ((u : Txn) → has_txn xs u ≡ true → P u → Q u) → AllByRecursion P xs → AllByRecursion Q xs
all_of P Q [] each a = tt
all_of P Q (x ∷ xs) each a = (each x (here x xs) a.0, all_of P Q xs (λ u i. each u (there x u xs i)) a.1)

is_of : (P : Txn → Type 0) (xs : List Txn) (u : Txn) → AllByRecursion P xs → has_txn xs u ≡ true → P u
is_of P [] u a i = absurd (true≢false (sym i))
is_of P (x ∷ xs) u a i = go (x.0 == u.0) refl i (is_of P xs u a.1)
  where
    go : (b : Bool) → (x.0 == u.0) ≡ b → (b || has_txn xs u) ≡ true → (has_txn xs u ≡ true → P u) → P u
    go true q i rest = subst P (same_txn x u q) a.0
    go false q i rest = rest i

rises_as : (f g : Txn → ℕ) (xs : List Txn) → ((u : Txn) → has_txn xs u ≡ true → g u ≡ f u) → Rises f xs → Rises g xs
rises_as f g [] same r = tt
rises_as f g (x ∷ xs) same r = (
  all_of (λ u. f x < f u) (λ u. g x < g u) xs (λ u i less. (let a = same x (here x xs) in let b = same u (there x u xs i) in omega (arith, less, a, b))) r.0,
  rises_as f g xs (λ u i. same u (there x u xs i)) r.1,
)

all_push : (P : Txn → Type 0) (xs : List Txn) (t : Txn) → AllByRecursion P xs → P t → AllByRecursion P (xs ++ t ∷ [])
all_push P [] t a h = (h, tt)
all_push P (x ∷ xs) t a h = (a.0, all_push P xs t a.1 h)

rises_push : (f : Txn → ℕ) (xs : List Txn) (t : Txn) → Rises f xs → AllByRecursion (λ (u : Txn). f u < f t) xs → Rises f (xs ++ t ∷ [])
rises_push f [] t r a = (tt, tt)
rises_push f (x ∷ xs) t r a = (all_push (λ u. f x < f u) xs t r.0 a.0, rises_push f xs t r.1 a.1)

-- who stands before another has the smaller number, and who doesn't has none smaller
rises_before : (f : Txn → ℕ) (xs ys : List Txn) (t : Txn) → Rises f (xs ++ t ∷ ys) → (x : Txn) → has_txn xs x ≡ true → f x < f t
rises_before f [] ys t r x i = absurd (true≢false (sym i))
rises_before f (z ∷ xs) ys t r x i = go (z.0 == x.0) refl i (rises_before f xs ys t r.1 x)
  where
    last : (xs : List Txn) → has_txn (xs ++ t ∷ ys) t ≡ true
    last [] = here t ys
    last (y ∷ xs) = there y t (xs ++ t ∷ ys) (last xs)

    go : (b : Bool) → (z.0 == x.0) ≡ b → (b || has_txn xs x) ≡ true → (has_txn xs x ≡ true → f x < f t) → f x < f t
    go true q i rest = subst (λ u. f u < f t) (same_txn z x q) (is_of (λ u. f z < f u) (xs ++ t ∷ ys) t r.0 (last xs))
    go false q i rest = rest i

rises_after : (f : Txn → ℕ) (xs ys : List Txn) (t : Txn) → Rises f (xs ++ t ∷ ys) → (x : Txn) → has_txn (xs ++ t ∷ ys) x ≡ true → has_txn xs x ≡ false → f t ≤ f x
rises_after f [] ys t r x i out = go (t.0 == x.0) refl i
  where
    go : (b : Bool) → (t.0 == x.0) ≡ b → (b || has_txn ys x) ≡ true → f t ≤ f x
    go true q i = subst (λ u. f t ≤ f u) (same_txn t x q) (omega arith)
    go false q i = (let less = is_of (λ u. f t < f u) ys x r.0 i in omega (arith, less))
rises_after f (z ∷ xs) ys t r x i out = go (z.0 == x.0) refl i out (rises_after f xs ys t r.1 x)
  where
    go : (b : Bool) → (z.0 == x.0) ≡ b → (b || has_txn (xs ++ t ∷ ys) x) ≡ true → (b || has_txn xs x) ≡ false → (has_txn (xs ++ t ∷ ys) x ≡ true → has_txn xs x ≡ false → f t ≤ f x) → f t ≤ f x
    go true q i out rest = absurd (true≢false out)
    go false q i out rest = rest i out

-- the numbers of the Commits ascend along the committed transactions
record Ascends (p : List Noted) : Type 0 where
  rises : Rises (commit_number p) (committed p)
  low : AllByRecursion (λ (u : Txn). commit_number p u ≤ length p) (committed p)

module _ (w : Workload) where
  module _ (p : List Noted) (e : Entry) (goes : Placeable w p e) (a : Ascends p) where
    long : length (add p e) ≡ length p + 1
    long = length-append p (next p e ∷ [])

    number : (u : Txn) → commit_number (add p e) u ≡ (if is_commit_of u e then length p + 1 else commit_number p u)
    number u = number_of_push (is_commit_of u) p (next p e)

    same_numbers : ((u : Txn) → has_txn (committed p) u ≡ true → is_commit_of u e ≡ false) → (u : Txn) → has_txn (committed p) u ≡ true → commit_number (add p e) u ≡ commit_number p u
    same_numbers none u i = number u ∙ ap (λ b. if b then length p + 1 else commit_number p u) (none u i)

    others : ((u : Txn) → is_commit_of u e ≡ false) → commit_of e ≡ None → Ascends (add p e)
    others none unmade = record {
      rises = subst (Rises (commit_number (add p e))) (sym same) (rises_as (commit_number p) (commit_number (add p e)) (committed p) (same_numbers (λ u i. none u)) a.rises);
      low = subst (AllByRecursion (λ (u : Txn). commit_number (add p e) u ≤ length (add p e))) (sym same)
          (all_of (λ u. commit_number p u ≤ length p) (λ u. commit_number (add p e) u ≤ length (add p e)) (committed p) (λ u i l. (let q = same_numbers (λ u i. none u) u i in let m = long in omega (arith, l, q, m))) a.low);
    }
      where
        same : committed (add p e) ≡ committed p
        same = committed_push p (next p e) ∙ ap (λ o. committed p ++ map (λ c. c.0) (option_to_list o)) unmade ∙ append-nil (committed p)

  ascends_add : (p : List Noted) (e : Entry) → Placeable w p e → Ascends p → Ascends (add p e)
  ascends_add p (Commit t request applied) goes a = record {
    rises = subst (Rises f) (sym more) (rises_push f (committed p) t (rises_as (commit_number p) f (committed p) old a.rises) (all_of (λ u. commit_number p u ≤ length p) (λ u. f u < f t) (committed p) (λ u i l. (let q = old u i in let n = new in omega (arith, l, q, n))) a.low));
    low = subst (AllByRecursion (λ (u : Txn). f u ≤ length (add p e))) (sym more)
        (all_push (λ u. f u ≤ length (add p e)) (committed p) t (all_of (λ u. commit_number p u ≤ length p) (λ u. f u ≤ length (add p e)) (committed p) (λ u i l. (let q = old u i in let m = long p e goes a in omega (arith, l, q, m))) a.low) (let n = new in let m = long p e goes a in omega (arith, n, m)));
  }
    where
      e : Entry
      e = Commit t request applied

      f : Txn → ℕ
      f u = commit_number (add p (Commit t request applied)) u

      more : committed (add p (Commit t request applied)) ≡ committed p ++ t ∷ []
      more = committed_push p (next p (Commit t request applied))

      not_both : (b : Bool) → not b ≡ true → b ≡ true → ⊥
      not_both true q r = true≢false (sym q)
      not_both false q r = true≢false (sym r)

      apart : (u : Txn) → has_txn (committed p) u ≡ true → (b : Bool) → is_commit_of u (Commit t request applied) ≡ b → b ≡ false
      apart u i true q =
          absurd (not_both (has_ended p t) (and_parts (has_begun p t) (not (has_ended p t)) (placeable_follows w p (Commit t request applied) goes)).1
          (committed_ended p t (subst (λ z. has_committed p z ≡ true) (sym (same_txn t u q)) (sym (committed_has p u) ∙ i))))
      apart u i false q = refl

      old : (u : Txn) → has_txn (committed p) u ≡ true → f u ≡ commit_number p u
      old u i = same_numbers p (Commit t request applied) goes a (λ u i. apart u i (is_commit_of u (Commit t request applied)) refl) u i

      new : f t ≡ length p + 1
      new = number p (Commit t request applied) goes a t ∙ ap (λ b. if b then length p + 1 else commit_number p t) (self t.0)
  ascends_add p other goes a = others p other goes a (λ u. refl) refl

  placed_ascends : (h : List Entry) → Placed w h → Ascends (noted h)
  placed_ascends = by_last (λ h. Placed w h → Ascends (noted h)) (λ l. record { rises = tt; low = tt }) (λ h e rest l. (let q = (placed_push w h e).0 l in subst Ascends (sym (noted_push h e)) (ascends_add (noted h) e q.1 (rest q.0))))

  pub in_commit_order : (h : List Entry) → Legal w h → w.switches ≡ [] → (w.kind ≡ Lock) ⊎ (w.kind ≡ Valid) → serial_order (noted h) ≡ committed (noted h)
  in_commit_order h l none kind = ap (λ l. if list_all (has_txn l) all then l else []) (listing_is pairs all turn) ∙ ap (λ b. if b then all else []) (each_listed all all (λ u i. i))
    where
      all : List Txn
      all = committed (noted h)

      pairs : List (Txn × Txn)
      pairs = edges (noted h)

      rises : Rises (commit_number (noted h)) (committed (noted h))
      rises = (placed_ascends h (legal_placed w h l)).rises

      each_listed : (xs ys : List Txn) → ((u : Txn) → has_txn ys u ≡ true → has_txn xs u ≡ true) → list_all (has_txn xs) ys ≡ true
      each_listed xs [] each = refl
      each_listed xs (y ∷ ys) each = ap (λ b. b && list_all (has_txn xs) ys) (each y (here y ys)) ∙ each_listed xs ys (λ u i. each u (there y u ys i))

      decide : (b : Bool) → (b ≡ true → ⊥) → b ≡ false
      decide true n = absurd (n refl)
      decide false n = refl

      three : (a b c : Bool) → (a && b && c) ≡ true → (a ≡ true) × (b ≡ true) × (c ≡ true)
      three true true c e = (refl, refl, e)
      three true false c e = absurd (true≢false (sym e))
      three false b c e = absurd (true≢false (sym e))

      turn : (xs ys : List Txn) (t : Txn) → committed (noted h) ≡ xs ++ t ∷ ys → is_next (edges (noted h)) (committed (noted h)) xs t ≡ true
      turn xs ys t q = ap (λ b. not b && not (list_any (waits_for all xs t) pairs)) unlisted ∙ ap not quiet
        where
          rise : Rises (commit_number (noted h)) (xs ++ t ∷ ys)
          rise = subst (Rises (commit_number (noted h))) q rises

          unlisted : has_txn xs t ≡ false
          unlisted = decide (has_txn xs t) (λ i. (let less = rises_before (commit_number (noted h)) xs ys t rise t i in omega (arith, less)))

          clash : (o : Txn × Txn) → (waits_for (committed (noted h)) xs t o ≡ true) → list_any (λ (e : Txn × Txn). is_txn o.0 e.0 && is_txn t e.1) (edges (noted h)) ≡ true → ⊥
          clash o passes pair =
              let parts = three (is_txn t o.1) (has_txn all o.0) (not (has_txn xs o.0)) passes in
              let out : has_txn xs o.0 ≡ false = decide (has_txn xs o.0) (λ i. true≢false (sym parts.2 ∙ ap not i)) in
              let high = rises_after (commit_number (noted h)) xs ys t rise o.0 (subst (λ l. has_txn l o.0 ≡ true) q parts.1) out in
              let member : has_txn (committed (noted h)) t ≡ true = subst (λ l. has_txn l t ≡ true) (sym q) (last xs) in
              let less = commits_in_turn w h l none kind o.0 t (pair_edge (noted h) o.0 t pair, sym (committed_has (noted h) o.0) ∙ parts.1, sym (committed_has (noted h) t) ∙ member) in
              omega (arith, high, less)
            where
              last : (xs : List Txn) → has_txn (xs ++ t ∷ ys) t ≡ true
              last [] = here t ys
              last (y ∷ xs) = there y t (xs ++ t ∷ ys) (last xs)

          quiet : list_any (waits_for (committed (noted h)) xs t) (edges (noted h)) ≡ false
          quiet = decide (list_any (waits_for all xs t) pairs) (λ any. (let f = any_find (waits_for all xs t) pairs any in
              clash f.0 f.1 (f.2 (λ e. is_txn (f.0).0 e.0 && is_txn t e.1) (and_from (is_txn (f.0).0 (f.0).0) (is_txn t (f.0).1) (self (f.0).0.0) (three (is_txn t (f.0).1) (has_txn all (f.0).0) (not (has_txn xs (f.0).0)) f.1).0))))
