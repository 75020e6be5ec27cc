-- The entries of a history by their places, and those of a view by their numbers.
use Rattle.std.proofs.Common.{◌≡◌, ℕ, ◌+◌, ◌<◌, ◌≤◌, ⊎_elim, List, [], ◌∷◌, ◌++◌, length, get_or, map, arith, sym, ◌∙◌, ap, subst, refl, append-nil, length-append, append_assoc}
use Rattle.std.specs.List.{Contains}
use Rattle.std.proofs.lemmas.Bool.{cases_lt}
use Rattle.std.proofs.lemmas.List.{map-append, get_or_append_left, get_or_default}
use Rattle.std.proofs.Math.Seq.{get_or-append_seam}
use Rattle.raid_base.specs.declared.entry.Entry.{Entry}
use Rattle.raid_base.specs.declared.entry.Noted.{Noted}
use Rattle.raid_rules.specs.History.{noted, next}
use Rattle.raid_rules.specs.Order.{IsInOrder}
use Rattle.raid_rules.proofs.Push.{noted_push}

-- what holds of the empty history, and of each history with one more entry, holds of all
pub by_last : (P : List Entry → Type 0) → P [] → ((h : List Entry) (e : Entry) → P h → P (h ++ e ∷ [])) → (h : List Entry) → P h
by_last P none more h = go [] h none
  where
    go : (before h : List Entry) → P before → P (before ++ h)
    go before [] q = subst P (sym (append-nil before)) q
    go before (e ∷ h) q = subst P (append_assoc before (e ∷ []) h) (go (before ++ e ∷ []) h (more before e q))

-- noting keeps the number of entries, and the entries
pub noted_length : (h : List Entry) → length (noted h) ≡ length h
noted_length = by_last (λ h. length (noted h) ≡ length h) refl more
  where
    more : (h : List Entry) (e : Entry) → length (noted h) ≡ length h → length (noted (h ++ e ∷ [])) ≡ length (h ++ e ∷ [])
    more h e q =
        let a = length-append (noted h) (next (noted h) e ∷ []) in
        let b = length-append h (e ∷ []) in
        ap length (noted_push h e) ∙ omega (arith, a, b, q)

pub noted_entries : (h : List Entry) → map (λ n. n.entry) (noted h) ≡ h
noted_entries = by_last (λ h. map (λ n. n.entry) (noted h) ≡ h) refl more
  where
    more : (h : List Entry) (e : Entry) → map (λ n. n.entry) (noted h) ≡ h → map (λ n. n.entry) (noted (h ++ e ∷ [])) ≡ h ++ e ∷ []
    more h e q = ap (map (λ n. n.entry)) (noted_push h e) ∙ map-append (λ n. n.entry) (noted h) (next (noted h) e ∷ []) ∙ ap (λ l. l ++ e ∷ []) q

-- the entry at a place has the number of the place
pub noted_number : (h : List Entry) (k : ℕ) (d : Noted) → k < length h → (get_or (noted h) k d).at ≡ k + 1
noted_number = by_last (λ h. (k : ℕ) (d : Noted) → k < length h → (get_or (noted h) k d).at ≡ k + 1) (λ k d l. absurd (omega (arith, l))) more
  where
    more : (h : List Entry) (e : Entry) → ((k : ℕ) (d : Noted) → k < length h → (get_or (noted h) k d).at ≡ k + 1) → (k : ℕ) (d : Noted) → k < length (h ++ e ∷ []) → (get_or (noted (h ++ e ∷ [])) k d).at ≡ k + 1
    more h e q k d l =
        let a = length-append h (e ∷ []) in
        let b = noted_length h in
        ap (λ p. (get_or p k d).at) (noted_push h e)
        ∙ ⊎_elim
        (λ (early : k < length h). ap (λ (n : Noted). n.at) (get_or_append_left (noted h) (next (noted h) e ∷ []) d k (omega (arith, early, b))) ∙ q k d early)
        (λ (late : length h ≤ k).
        (let same : k ≡ length (noted h) = omega (arith, a, b, l, late) in
        ap (λ j. (get_or (noted h ++ next (noted h) e ∷ []) j d).at) same ∙ ap (λ (n : Noted). n.at) (get_or-append_seam (noted h) (next (noted h) e) [] d) ∙ ap (λ j. j + 1) (sym same)))
        (cases_lt k (length h))

-- in a view in order one entry has a number
pub one_entry : (view : List Noted) → IsInOrder view → (a b : Noted) → Contains view a → Contains view b → a.at ≡ b.at → a ≡ b
one_entry view o a b i j same =
    ⊎_elim
    (λ (l : i.0 < j.0). absurd (let q : (get_or view i.0 a).at < (get_or view j.0 a).at = o.ascends i.0 j.0 a l j.1 in let x : (get_or view i.0 a).at ≡ a.at = ap (λ (n : Noted). n.at) i.2 in let y : (get_or view j.0 a).at ≡ b.at = ap (λ (n : Noted). n.at) (get_or_default view j.0 a b j.1 ∙ j.2) in omega arith))
    (λ (m : j.0 ≤ i.0).
    ⊎_elim
    (λ (l : j.0 < i.0). absurd (let q : (get_or view j.0 a).at < (get_or view i.0 a).at = o.ascends j.0 i.0 a l i.1 in let x : (get_or view i.0 a).at ≡ a.at = ap (λ (n : Noted). n.at) i.2 in let y : (get_or view j.0 a).at ≡ b.at = ap (λ (n : Noted). n.at) (get_or_default view j.0 a b j.1 ∙ j.2) in omega arith))
    (λ (l : i.0 ≤ j.0). let e : i.0 ≡ j.0 = omega arith in sym i.2 ∙ ap (λ k. get_or view k a) e ∙ get_or_default view j.0 a b j.1 ∙ j.2)
    (cases_lt j.0 i.0))
    (cases_lt i.0 j.0)
