-- What the first mark does to the pieces.
use Rattle.std.proofs.Common.{◌≡◌, ◌==◌, ℕ, zero, suc, ◌+◌, ◌<◌, ◌≤◌, true, false, cond, List, [], ◌∷◌, length, get_or, drop, take, refl, sym, ap, ◌∙◌, arith, add-one, inl, inr}
use Rattle.std.proofs.Math.Seq.{drop-cons}
use Rattle.std.proofs.lemmas.List.{take_all, drop_all}
use Rattle.std.proofs.lemmas.Bool.{cases_lt}
use Rattle.std.specs.List.{slice_split, onto_first}
use Rattle.raid_pieces.specs.Pieces.{pieces, without_first, without_last, pieces_behind, full_lines, last_of, unfinished}

pub pieces_cut : (mark n : ℕ) (bytes : List ℕ) → n < length bytes → ((k : ℕ) → k < n → (get_or bytes k 0 == mark) ≡ false) → (get_or bytes n 0 == mark) ≡ true →
    pieces mark bytes ≡ take n bytes ∷ pieces mark (drop (suc n) bytes)
unfolding pieces
pieces_cut mark n [] lt before at = absurd (omega arith)
pieces_cut mark zero (b ∷ bytes) lt before at = rw at refl
pieces_cut mark (suc n) (b ∷ bytes) lt before at =
    let first : (b == mark) ≡ false = before 0 (omega arith) in
    let rest : slice_split (λ b. b == mark) bytes ≡ take n bytes ∷ slice_split (λ b. b == mark) (drop (suc n) bytes) = pieces_cut mark n bytes (omega arith) (λ k h. before (suc k) (omega arith)) at in
    rw (first, rest) refl

pub pieces_whole : (mark : ℕ) (bytes : List ℕ) → ((k : ℕ) → k < length bytes → (get_or bytes k 0 == mark) ≡ false) → pieces mark bytes ≡ bytes ∷ []
unfolding pieces
pieces_whole mark [] before = refl
pieces_whole mark (b ∷ bytes) before =
    let first : (b == mark) ≡ false = before 0 (omega arith) in
    let rest : slice_split (λ b. b == mark) bytes ≡ bytes ∷ [] = pieces_whole mark bytes (λ k h. before (suc k) (omega arith)) in
    rw (first, rest) refl

-- behind the first mark stand all pieces but the first
behind_cut : (mark n : ℕ) (bytes : List ℕ) → n < length bytes → ((k : ℕ) → k < n → (get_or bytes k 0 == mark) ≡ false) → (get_or bytes n 0 == mark) ≡ true →
    pieces_behind mark bytes ≡ pieces mark (drop (n + 1) bytes)
unfolding pieces_behind
behind_cut mark n bytes lt before at = ap without_first (pieces_cut mark n bytes lt before at) ∙ rw (add-one n) refl

behind_whole : (mark : ℕ) (bytes : List ℕ) → ((k : ℕ) → k < length bytes → (get_or bytes k 0 == mark) ≡ false) → pieces_behind mark bytes ≡ []
unfolding pieces_behind
behind_whole mark bytes before = ap without_first (pieces_whole mark bytes before)

behind_mark : (mark b : ℕ) (bytes : List ℕ) → (b == mark) ≡ true → pieces_behind mark (b ∷ bytes) ≡ pieces mark bytes
unfolding pieces_behind pieces
behind_mark mark b bytes h = rw h refl

pub first_is : (mark n : ℕ) (bytes : List ℕ) → n ≤ length bytes → ((k : ℕ) → k < n → (get_or bytes k 0 == mark) ≡ false) → (n < length bytes → (get_or bytes n 0 == mark) ≡ true) →
    pieces mark bytes ≡ take n bytes ∷ pieces_behind mark (drop n bytes)
first_is mark n bytes le before at =
    elim (cases_lt n (length bytes)) [
      | inl lt ↦
          pieces_cut mark n bytes lt before (at lt)
          ∙ ap (λ (ps : List (List ℕ)). take n bytes ∷ ps) (sym (rw (drop-cons bytes n 0 lt) (behind_mark mark (get_or bytes n 0) (drop (suc n) bytes) (at lt))))
      | inr ge ↦
          pieces_whole mark bytes (λ k h. before k (omega arith))
          ∙ rw (take_all n bytes ge, drop_all n bytes ge) (ap (λ (ps : List (List ℕ)). bytes ∷ ps) (sym (behind_whole mark [] (λ k h. absurd (omega arith)))))
    ]

pub none_behind : (mark n : ℕ) (bytes : List ℕ) → n ≡ length bytes → ((k : ℕ) → k < n → (get_or bytes k 0 == mark) ≡ false) → pieces_behind mark bytes ≡ []
none_behind mark n bytes e before = behind_whole mark bytes (λ k h. before k (omega arith))

pub next_is : (mark n : ℕ) (bytes : List ℕ) → n < length bytes → ((k : ℕ) → k < n → (get_or bytes k 0 == mark) ≡ false) → (get_or bytes n 0 == mark) ≡ true →
    pieces_behind mark bytes ≡ pieces mark (drop (n + 1) bytes)
next_is mark n bytes lt before at = behind_cut mark n bytes lt before at

-- ---- lines

pub some_pieces : (mark : ℕ) (bytes : List ℕ) → (q : List ℕ × List (List ℕ)) × (pieces mark bytes ≡ q.0 ∷ q.1)
unfolding pieces
some_pieces mark [] = (([], []), refl)
some_pieces mark (b ∷ bytes) =
    elim (b == mark) as (λ t. (q : List ℕ × List (List ℕ)) × (cond t ([] ∷ slice_split (λ b. b == mark) bytes) (onto_first b (slice_split (λ b. b == mark) bytes)) ≡ q.0 ∷ q.1)) [
      | true ↦ (([], slice_split (λ b. b == mark) bytes), refl)
      | false ↦ onto_some b (slice_split (λ b. b == mark) bytes)
    ]
  where
    onto_some : (b : ℕ) (ps : List (List ℕ)) → (q : List ℕ × List (List ℕ)) × (onto_first b ps ≡ q.0 ∷ q.1)
    onto_some b [] = ((b ∷ [], []), refl)
    onto_some b (p ∷ ps) = ((b ∷ p, ps), refl)

pub keeps : (p : List ℕ) (mark : ℕ) (bytes : List ℕ) → without_last (p ∷ pieces mark bytes) ≡ p ∷ without_last (pieces mark bytes)
keeps p mark bytes = let some = some_pieces mark bytes in rw some.1 refl

pub line_is : (text : List ℕ) (n : ℕ) → n < length text → ((k : ℕ) → k < n → (get_or text k 0 == 10) ≡ false) → (get_or text n 0 == 10) ≡ true →
    full_lines text ≡ take n text ∷ full_lines (drop (n + 1) text)
unfolding full_lines
line_is text n lt before at = ap without_last (pieces_cut 10 n text lt before at) ∙ keeps (take n text) 10 (drop (suc n) text) ∙ rw (← add-one n) refl

pub no_line : (text : List ℕ) (n : ℕ) → n ≡ length text → ((k : ℕ) → k < n → (get_or text k 0 == 10) ≡ false) → full_lines text ≡ []
unfolding full_lines
no_line text n e before = ap without_last (pieces_whole 10 text (λ k h. before k (omega arith)))

pub passes : (p : List ℕ) (mark : ℕ) (bytes : List ℕ) → last_of (p ∷ pieces mark bytes) ≡ last_of (pieces mark bytes)
passes p mark bytes = let some = some_pieces mark bytes in rw some.1 refl

pub rest_is : (text : List ℕ) (n : ℕ) → n < length text → ((k : ℕ) → k < n → (get_or text k 0 == 10) ≡ false) → (get_or text n 0 == 10) ≡ true →
    unfinished (drop (n + 1) text) ≡ unfinished text
unfolding unfinished
rest_is text n lt before at = sym (ap last_of (pieces_cut 10 n text lt before at) ∙ passes (take n text) 10 (drop (suc n) text) ∙ rw (← add-one n) refl)

pub whole_is : (text : List ℕ) (n : ℕ) → n ≡ length text → ((k : ℕ) → k < n → (get_or text k 0 == 10) ≡ false) → unfinished text ≡ text
unfolding unfinished
whole_is text n e before = ap last_of (pieces_whole 10 text (λ k h. before k (omega arith)))
