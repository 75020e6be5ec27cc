-- What a cut does to the pieces.
use Rattle.std.proofs.Common.{◌≡◌, ℕ, zero, suc, ◌+◌, ◌<◌, ◌≤◌, Bool, true, false, cond, List, [], ◌∷◌, length, get_or, drop, take, refl, sym, ap, ◌∙◌, arith, add-one, inl, inr}
use Rattle.std.proofs.lemmas.List.{at_drop_more, take_all, drop_all, nil_from_length}
use Rattle.std.proofs.lemmas.Bool.{cases_lt, both_ways}
use Rattle.std.specs.List.{filter}
use Rattle.raid_scan.specs.Words.{with_first, pieces, is_separator, is_line_feed, is_filled, without_empty_last, lines_of, words_of, words_by_line}

pub pieces_cut : (cuts : ℕ → Bool) (n : ℕ) (bytes : List ℕ) → n < length bytes → ((k : ℕ) → k < n → cuts (get_or bytes k 0) ≡ false) → cuts (get_or bytes n 0) ≡ true → pieces cuts bytes ≡ take n bytes ∷ pieces cuts (drop (suc n) bytes)
pieces_cut cuts n [] lt before at = absurd (omega arith)
pieces_cut cuts zero (b ∷ bytes) lt before at = rw at refl
pieces_cut cuts (suc n) (b ∷ bytes) lt before at =
    let first : cuts b ≡ false = before 0 (omega arith) in
    let rest : pieces cuts bytes ≡ take n bytes ∷ pieces cuts (drop (suc n) bytes) = pieces_cut cuts n bytes (omega arith) (λ k h. before (suc k) (omega arith)) at in
    rw (first, rest) refl

pub pieces_whole : (cuts : ℕ → Bool) (bytes : List ℕ) → ((k : ℕ) → k < length bytes → cuts (get_or bytes k 0) ≡ false) → pieces cuts bytes ≡ bytes ∷ []
pieces_whole cuts [] before = refl
pieces_whole cuts (b ∷ bytes) before =
    let first : cuts b ≡ false = before 0 (omega arith) in
    let rest : pieces cuts bytes ≡ bytes ∷ [] = pieces_whole cuts bytes (λ k h. before (suc k) (omega arith)) in
    rw (first, rest) refl

-- ---- words

pub words_skip : (b : ℕ) (bytes : List ℕ) → is_separator b ≡ true → words_of (b ∷ bytes) ≡ words_of bytes
unfolding words_of
words_skip b bytes h = rw h refl

-- one separator more is skipped
pub words_drop : (line : List ℕ) (i : ℕ) → i < length line → is_separator (get_or line i 0) ≡ true → words_of (drop (i + 1) line) ≡ words_of (drop i line)
words_drop line i lt h = sym (at_drop_more words_of line i 0 lt ∙ words_skip (get_or line i 0) (drop (i + 1) line) h)

filled_keeps : (n : ℕ) (bytes : List ℕ) (others : List (List ℕ)) → 0 < n → 0 < length bytes → filter is_filled (take n bytes ∷ others) ≡ take n bytes ∷ filter is_filled others
filled_keeps zero bytes others lt some = absurd (omega arith)
filled_keeps (suc n) [] others lt some = absurd (omega arith)
filled_keeps (suc n) (b ∷ bytes) others lt some = refl

pub word_is : (line : List ℕ) (n : ℕ) → 0 < n → n ≤ length line → ((k : ℕ) → k < n → is_separator (get_or line k 0) ≡ false) → (n < length line → is_separator (get_or line n 0) ≡ true) → words_of line ≡ take n line ∷ words_of (drop n line)
unfolding words_of
word_is line n some le word behind =
    elim (cases_lt n (length line)) [
      | inl lt ↦
          let cut = pieces_cut is_separator n line lt word (behind lt) in
          ap (filter is_filled) cut ∙ filled_keeps n line (pieces is_separator (drop (suc n) line)) some (omega arith) ∙ ap (λ (ws : List (List ℕ)). take n line ∷ ws) (rw (← add-one n) (words_drop line n lt (behind lt)))
      | inr ge ↦
          let whole = pieces_whole is_separator line (λ k h. word k (omega arith)) in
          let e1 : take n line ≡ line = take_all n line ge in
          let e2 : drop n line ≡ [] = drop_all n line ge in
          ap (filter is_filled) (whole ∙ ap (λ (w : List ℕ). w ∷ []) (sym e1)) ∙ filled_keeps n line [] some (omega arith) ∙ rw e2 refl
    ]

-- ---- lines

with_first_some : (b : ℕ) (ps : List (List ℕ)) → (q : List ℕ × List (List ℕ)) × (with_first b ps ≡ q.0 ∷ q.1)
with_first_some b [] = ((b ∷ [], []), refl)
with_first_some b (p ∷ ps) = ((b ∷ p, ps), refl)

pieces_some : (cuts : ℕ → Bool) (bytes : List ℕ) → (q : List ℕ × List (List ℕ)) × (pieces cuts bytes ≡ q.0 ∷ q.1)
pieces_some cuts [] = (([], []), refl)
pieces_some cuts (b ∷ bytes) =
    elim (cuts b) as (λ t. (q : List ℕ × List (List ℕ)) × (cond t ([] ∷ pieces cuts bytes) (with_first b (pieces cuts bytes)) ≡ q.0 ∷ q.1)) [
      | true ↦ (([], pieces cuts bytes), refl)
      | false ↦ with_first_some b (pieces cuts bytes)
    ]

keeps : (p : List ℕ) (cuts : ℕ → Bool) (bytes : List ℕ) → without_empty_last (p ∷ pieces cuts bytes) ≡ p ∷ without_empty_last (pieces cuts bytes)
keeps p cuts bytes = let some = pieces_some cuts bytes in rw some.1 refl

pub line_is : (text : List ℕ) (n : ℕ) → n < length text → ((k : ℕ) → k < n → is_line_feed (get_or text k 0) ≡ false) → is_line_feed (get_or text n 0) ≡ true → lines_of text ≡ take n text ∷ lines_of (drop (n + 1) text)
unfolding lines_of
line_is text n lt before at = ap without_empty_last (pieces_cut is_line_feed n text lt before at) ∙ keeps (take n text) is_line_feed (drop (suc n) text) ∙ rw (← add-one n) refl

last_kept : (text : List ℕ) → 0 < length text → without_empty_last (text ∷ []) ≡ text ∷ []
last_kept [] some = absurd (omega arith)
last_kept (b ∷ bytes) some = refl

pub last_line_is : (text : List ℕ) → 0 < length text → ((k : ℕ) → k < length text → is_line_feed (get_or text k 0) ≡ false) → lines_of text ≡ text ∷ []
unfolding lines_of
last_line_is text some before = ap without_empty_last (pieces_whole is_line_feed text before) ∙ last_kept text some

pub no_lines : (text : List ℕ) → length text ≡ 0 → lines_of text ≡ []
unfolding lines_of
no_lines text e = rw (nil_from_length text e) refl

pub no_words : (line : List ℕ) → length line ≡ 0 → words_of line ≡ []
unfolding words_of
no_words line e = rw (nil_from_length line e) refl

pub word_starts : (line : List ℕ) (n : ℕ) → is_separator (get_or line 0 0) ≡ false → 0 < length line → (n < length line → is_separator (get_or line n 0) ≡ true) → 0 < n
word_starts line zero front some behind = absurd (both_ways (is_separator (get_or line 0 0)) front (behind some))
word_starts line (suc n) front some behind = omega arith

pub by_line_more : (text line rest : List ℕ) → lines_of text ≡ line ∷ lines_of rest → words_by_line text ≡ words_of line ∷ words_by_line rest
unfolding words_by_line
by_line_more text line rest h = rw h refl

pub by_line_end : (text : List ℕ) → lines_of text ≡ [] → words_by_line text ≡ []
unfolding words_by_line
by_line_end text h = rw h refl
