-- One controller in force, and two.
use Rattle.std.proofs.Common.{◌≡◌, Bool, true, false, not, ◌||◌, ◌&&◌, cond, List, [], ◌∷◌, ◌++◌, Option, Some, None, filter, sym, ◌∙◌, ap, subst, refl}
use Rattle.std.specs.Prelude.{option_to_list, Result, Ok, Err, OnOk}
use Rattle.std.specs.List.{list_any, All}
use Rattle.std.proofs.lemmas.List.Elements.{All-head, All-tail}
use Rattle.raid_base.specs.declared.names.Txn.{Txn}
use Rattle.raid_base.specs.declared.entry.Noted.{Noted}
use Rattle.raid_base.specs.declared.verdict.Kind.{Kind}
use Rattle.raid_base.specs.declared.verdict.Verdict.{Verdict}
use Rattle.raid_base.specs.Meet.{meeting}
use Rattle.raid_rules.specs.Order.{is_of, Fits, MayNote}
use Rattle.raid_rules.specs.Verdicts.{Question, verdict_of}
use Rattle.raid_switch.specs.Force.{Each, AreInForce, verdict_by, grown, without}

module _ {C : Type 0} (kind_of : C → Kind) (stands : C → List Noted → Type 0) where
  -- what holds of the kind and each view of one holds of what is in force
  one : (P : List (Kind × List Noted) → Type 0) (first : C) → ((view : List Noted) → stands first view → P ((kind_of first, view) ∷ [])) →
      (cs : List (Kind × List Noted)) → Each kind_of stands (first ∷ []) cs → P cs
  one P first f [] e = absurd e
  one P first f (c ∷ []) e = subst (λ k. P ((k, c.1) ∷ [])) e.0 (f c.1 e.1)
  one P first f (c ∷ d ∷ cs) e = absurd e.2

  pub alone : (P : List (Kind × List Noted) → Type 0) (first : C) (second : Option C) → second ≡ None → ((view : List Noted) → stands first view → P ((kind_of first, view) ∷ [])) →
      (cs : List (Kind × List Noted)) → AreInForce kind_of stands first second cs → P cs
  alone P first second none f cs e = one P first f cs (subst (λ s. AreInForce kind_of stands first s cs) none e)

  -- and of two
  two : (P : List (Kind × List Noted) → Type 0) (first next : C) → ((v w : List Noted) → stands first v → stands next w → P ((kind_of first, v) ∷ (kind_of next, w) ∷ [])) →
      (cs : List (Kind × List Noted)) → Each kind_of stands (first ∷ next ∷ []) cs → P cs
  two P first next f [] e = absurd e
  two P first next f (c ∷ []) e = absurd e.2
  two P first next f (c ∷ d ∷ []) e = subst (λ k. P ((k, c.1) ∷ d ∷ [])) e.0 (subst (λ k. P ((kind_of first, c.1) ∷ (k, d.1) ∷ [])) e.2.0 (f c.1 d.1 e.1 e.2.1))
  two P first next f (c ∷ d ∷ b ∷ cs) e = absurd e.2.2

  pub joint : (P : List (Kind × List Noted) → Type 0) (first next : C) (second : Option C) → second ≡ Some next →
      ((v w : List Noted) → stands first v → stands next w → P ((kind_of first, v) ∷ (kind_of next, w) ∷ [])) →
      (cs : List (Kind × List Noted)) → AreInForce kind_of stands first second cs → P cs
  joint P first next second some f cs e = two P first next f cs (subst (λ s. AreInForce kind_of stands first s cs) some e)

-- filters one after the other
pub both : {X : Type 0} (p q : X → Bool) (xs : List X) → filter p (filter q xs) ≡ filter (λ x. q x && p x) xs
both p q [] = refl
both p q (x ∷ xs) = go (q x) (both p q xs)
  where
    go : (b : Bool) → filter p (filter q xs) ≡ filter (λ x. q x && p x) xs → filter p (cond b (x ∷ filter q xs) (filter q xs)) ≡ cond (b && p x) (x ∷ filter (λ x. q x && p x) xs) (filter (λ x. q x && p x) xs)
    go true e = ap (λ ys. cond (p x) (x ∷ ys) ys) e
    go false e = e

same_filter : {X : Type 0} (p q : X → Bool) → ((x : X) → p x ≡ q x) → (xs : List X) → filter p xs ≡ filter q xs
same_filter p q h [] = refl
same_filter p q h (x ∷ xs) = ap (λ b. cond b (x ∷ filter p xs) (filter p xs)) (h x) ∙ ap (λ ys. cond (q x) (x ∷ ys) ys) (same_filter p q h xs)

-- one more out
pub without_push : (ts : List Txn) (t : Txn) (view : List Noted) → filter (λ n. not (is_of t n.entry)) (without ts view) ≡ without (ts ++ t ∷ []) view
without_push ts t view =
    both (λ n. not (is_of t n.entry)) (λ n. not (list_any (λ u. is_of u n.entry) ts)) view
    ∙ same_filter (λ n. not (list_any (λ u. is_of u n.entry) ts) && not (is_of t n.entry)) (λ n. not (list_any (λ u. is_of u n.entry) (ts ++ t ∷ []))) (λ n. out (λ u. is_of u n.entry) ts t) view
  where
    out : (f : Txn → Bool) (us : List Txn) (u : Txn) → (not (list_any f us) && not (f u)) ≡ not (list_any f (us ++ u ∷ []))
    out f [] u = last (f u)
      where
        last : (b : Bool) → not b ≡ not (b || false)
        last true = refl
        last false = refl
    out f (v ∷ us) u = more (f v) (out f us u)
      where
        more : (b : Bool) → (not (list_any f us) && not (f u)) ≡ not (list_any f (us ++ u ∷ [])) → (not (b || list_any f us) && not (f u)) ≡ not (b || list_any f (us ++ u ∷ []))
        more true e = refl
        more false e = e

pub without_none : (view : List Noted) → view ≡ without [] view
without_none [] = refl
without_none (n ∷ ns) = ap (λ ys. n ∷ ys) (without_none ns)

-- what holds of all holds of the first, and of the second
pub fits_first : (q : Question) (c : Kind × List Noted) (cs : List (Kind × List Noted)) → All (λ d. Fits d.1 q) (c ∷ cs) → Fits c.1 q
fits_first q c cs f = All-head (λ d. Fits d.1 q) c cs f

pub fits_second : (q : Question) (c d : Kind × List Noted) (cs : List (Kind × List Noted)) → All (λ e. Fits e.1 q) (c ∷ d ∷ cs) → Fits d.1 q
fits_second q c d cs f = All-head (λ e. Fits e.1 q) d cs (All-tail (λ e. Fits e.1 q) c (d ∷ cs) f)

-- what two say, and what one says
pub both_say : (C : Type 0) (first : C) (second : Option C) (kind_of : C → Kind) (stands : C → List Noted → Type 0) (q : Question) (next : C) (v w : Verdict) → second ≡ Some next →
    ((view : List Noted) → stands first view → Fits view q → v ≡ verdict_of (kind_of first) view q) → ((view : List Noted) → stands next view → Fits view q → w ≡ verdict_of (kind_of next) view q) →
    (cs : List (Kind × List Noted)) → AreInForce kind_of stands first second cs → All (λ c. Fits c.1 q) cs → meeting v w ≡ verdict_by cs q
both_say C first second kind_of stands q next v w some f g =
    joint kind_of stands (λ cs. All (λ c. Fits c.1 q) cs → meeting v w ≡ verdict_by cs q) first next second some
    (λ x y s t fits. ap (λ z. meeting z w) (f x s (fits_first q (kind_of first, x) ((kind_of next, y) ∷ []) fits)) ∙ ap (meeting (verdict_of (kind_of first) x q)) (g y t (fits_second q (kind_of first, x) (kind_of next, y) [] fits)))

pub one_says : (C : Type 0) (first : C) (second : Option C) (kind_of : C → Kind) (stands : C → List Noted → Type 0) (q : Question) (v : Verdict) → second ≡ None →
    ((view : List Noted) → stands first view → Fits view q → v ≡ verdict_of (kind_of first) view q) →
    (cs : List (Kind × List Noted)) → AreInForce kind_of stands first second cs → All (λ c. Fits c.1 q) cs → v ≡ verdict_by cs q
one_says C first second kind_of stands q v none f =
    alone kind_of stands (λ cs. All (λ c. Fits c.1 q) cs → v ≡ verdict_by cs q) first second none (λ x s fits. f x s (fits_first q (kind_of first, x) [] fits))

-- one more entry is noted in each
pub note_more : (C : Type 0) (first more : C) (second rest : Option C) (kind_of : C → Kind) (stands : C → List Noted → Type 0) (n : Noted) → kind_of more ≡ kind_of first →
    ((view : List Noted) → stands first view → MayNote (kind_of first) view n → stands more (view ++ n ∷ [])) →
    ((cs : List (Kind × List Noted)) → Each kind_of stands (option_to_list second) cs → All (λ c. MayNote c.0 c.1 n) cs → Each kind_of stands (option_to_list rest) (grown n cs)) →
    (cs : List (Kind × List Noted)) → AreInForce kind_of stands first second cs → All (λ c. MayNote c.0 c.1 n) cs → AreInForce kind_of stands more rest (grown n cs)
note_more C first more second rest kind_of stands n same f g [] e may = absurd e
note_more C first more second rest kind_of stands n same f g (c ∷ cs) e may =
    let head : MayNote c.0 c.1 n = All-head (λ d. MayNote d.0 d.1 n) c cs may in
    (same ∙ e.0, f c.1 e.1 (subst (λ k. MayNote k c.1 n) (sym e.0) head), g cs e.2 (All-tail (λ d. MayNote d.0 d.1 n) c cs may))

pub note_the_second : (C : Type 0) (next more : C) (second : Option C) (kind_of : C → Kind) (stands : C → List Noted → Type 0) (n : Noted) → second ≡ Some next → kind_of more ≡ kind_of next →
    ((view : List Noted) → stands next view → MayNote (kind_of next) view n → stands more (view ++ n ∷ [])) →
    (cs : List (Kind × List Noted)) → Each kind_of stands (option_to_list second) cs → All (λ c. MayNote c.0 c.1 n) cs → Each kind_of stands (more ∷ []) (grown n cs)
note_the_second C next more second kind_of stands n some same f cs e =
    note_more C next more None None kind_of stands n same f none cs (subst (λ s. Each kind_of stands (option_to_list s) cs) some e)
  where
    none : (ds : List (Kind × List Noted)) → Each kind_of stands [] ds → All (λ c. MayNote c.0 c.1 n) ds → Each kind_of stands [] (grown n ds)
    none [] d m = tt
    none (b ∷ ds) d m = absurd d

pub note_none : (C : Type 0) (second : Option C) (kind_of : C → Kind) (stands : C → List Noted → Type 0) (n : Noted) → second ≡ None →
    (cs : List (Kind × List Noted)) → Each kind_of stands (option_to_list second) cs → Each kind_of stands [] (grown n cs)
note_none C second kind_of stands n none [] e = tt
note_none C second kind_of stands n none (c ∷ cs) e = absurd (subst (λ s. Each kind_of stands (option_to_list s) (c ∷ cs)) none e)

-- a fact for a success from another
pub on_ok : {T E P Q : Type 0} → (r : Result T E) → (P → Q) → OnOk r P → OnOk r Q
on_ok (Ok v) f h = f h
on_ok (Err e) f h = h
