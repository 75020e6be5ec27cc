-- What is written is read again.
use Rattle.std.proofs.Common.{◌≡◌, ℕ, ◌+◌, ◌<◌, ◌≤◌, Bool, true, false, ◌&&◌, leb, eqb, List, [], ◌∷◌, ◌++◌, length, get_or, drop, refl, sym, ap, ◌∙◌, arith, inl, inr}
use Rattle.std.proofs.lemmas.List.{take_at, drop_at, get_or_at, get_or_append_left, length-append, take_all, drop_all, drop-drop}
use Rattle.std.proofs.lemmas.List.Folds.{list_all_at, list_all-append}
use Rattle.std.proofs.lemmas.Bool.{leb-true, le-leb, and_parts, both_ways, cases_Bool, ne_eqb}
use Rattle.std.specs.List.{list_all}
use Rattle.raid_scan.specs.Words.{Word, is_separator, is_line_feed, is_filled, lines_of, words_of, words_by_line, is_visible, is_plain, joined, text_of, are_plain}
use Rattle.raid_scan.proofs.Pieces.{word_is, line_is, no_words, no_lines, words_skip, by_line_more, by_line_end}

-- a byte of a line as it is written: visible or a space
abbrev pub is_written : ℕ → Bool
is_written b = leb 32 b && leb b 126

visible_at : (word : List ℕ) (k : ℕ) → list_all is_visible word ≡ true → k < length word → (33 ≤ get_or word k 0) × (get_or word k 0 ≤ 126)
visible_at word k h lt =
    elim (cases_Bool (is_visible (get_or word k 0))) [
      | inl pass ↦ let q = and_parts (leb 33 (get_or word k 0)) (leb (get_or word k 0) 126) pass in (leb-true _ _ q.0, leb-true _ _ q.1)
      | inr fail ↦ absurd (both_ways (list_all is_visible word) (list_all_at is_visible word k 0 lt fail) h)
    ]

written_at : (line : List ℕ) (k : ℕ) → list_all is_written line ≡ true → k < length line → 32 ≤ get_or line k 0
written_at line k h lt =
    elim (cases_Bool (is_written (get_or line k 0))) [
      | inl pass ↦ let q = and_parts (leb 32 (get_or line k 0)) (leb (get_or line k 0) 126) pass in leb-true _ _ q.0
      | inr fail ↦ absurd (both_ways (list_all is_written line) (list_all_at is_written line k 0 lt fail) h)
    ]

no_separator : (b : ℕ) → 33 ≤ b → is_separator b ≡ false
no_separator b le =
    let a : eqb b 32 ≡ false = ne_eqb b 32 (λ e. omega arith) in
    let t : eqb b 9 ≡ false = ne_eqb b 9 (λ e. omega arith) in
    let r : eqb b 13 ≡ false = ne_eqb b 13 (λ e. omega arith) in
    rw (a, t, r) refl

no_line_feed : (b : ℕ) → 32 ≤ b → is_line_feed b ≡ false
no_line_feed b le = ne_eqb b 10 (λ e. omega arith)

filled_len : (word : List ℕ) → is_filled word ≡ true → 0 < length word
filled_len [] h = absurd cc
filled_len (b ∷ bytes) h = omega arith

plain_parts : (word : List ℕ) → is_plain word ≡ true → (0 < length word) × (list_all is_visible word ≡ true)
plain_parts word plain = let p = and_parts (is_filled word) (list_all is_visible word) plain in (filled_len word p.0, p.1)

-- a word, and a space behind it
word_before : (word rest : List ℕ) → is_plain word ≡ true → words_of (word ++ (32 ∷ rest)) ≡ word ∷ words_of rest
word_before word rest plain =
    let p = plain_parts word plain in
    let len = length-append word (32 ∷ rest) in
    let inside : (k : ℕ) → k < length word → is_separator (get_or (word ++ (32 ∷ rest)) k 0) ≡ false =
    λ k lt. rw (get_or_append_left word (32 ∷ rest) 0 k lt) (let v = visible_at word k p.1 lt in no_separator (get_or word k 0) v.0) in
    let behind : length word < length (word ++ (32 ∷ rest)) → is_separator (get_or (word ++ (32 ∷ rest)) (length word) 0) ≡ true = λ lt. rw (get_or_at word 32 rest 0 (length word) refl) refl in
    let le : length word ≤ length (word ++ (32 ∷ rest)) = omega arith in
    rw (take_at word (32 ∷ rest) (length word) refl, drop_at word (32 ∷ rest) (length word) refl) at (word_is (word ++ (32 ∷ rest)) (length word) p.0 le inside behind)
    ∙ ap (λ (ws : List Word). word ∷ ws) (words_skip 32 rest refl)

word_alone : (word : List ℕ) → is_plain word ≡ true → words_of word ≡ word ∷ []
word_alone word plain =
    let p = plain_parts word plain in
    let inside : (k : ℕ) → k < length word → is_separator (get_or word k 0) ≡ false = λ k lt. (let v = visible_at word k p.1 lt in no_separator (get_or word k 0) v.0) in
    let le : length word ≤ length word = omega arith in
    rw (take_all (length word) word le, drop_all (length word) word le) at (word_is word (length word) p.0 le inside (λ lt. absurd (omega arith)))
    ∙ ap (λ (ws : List Word). word ∷ ws) (no_words [] refl)

pub joined_words : (words : List Word) → list_all is_plain words ≡ true → words_of (joined words) ≡ words
joined_words [] h = no_words [] refl
joined_words (word ∷ []) h = let p = and_parts (is_plain word) true h in word_alone word p.0
joined_words (word ∷ next ∷ words) h =
    let p = and_parts (is_plain word) (list_all is_plain (next ∷ words)) h in
    word_before word (joined (next ∷ words)) p.0 ∙ ap (λ (ws : List Word). word ∷ ws) (joined_words (next ∷ words) p.1)

visible_written : (word : List ℕ) → list_all is_visible word ≡ true → list_all is_written word ≡ true
visible_written [] h = refl
visible_written (b ∷ bytes) h =
    let p = and_parts (is_visible b) (list_all is_visible bytes) h in
    let q = and_parts (leb 33 b) (leb b 126) p.0 in
    let low : leb 32 b ≡ true = le-leb 32 b (omega (arith, leb-true _ _ q.0)) in
    rw (low, q.1) (visible_written bytes p.1)

pub joined_written : (words : List Word) → list_all is_plain words ≡ true → list_all is_written (joined words) ≡ true
joined_written [] h = refl
joined_written (word ∷ []) h =
    let p = and_parts (is_plain word) true h in
    let v = plain_parts word p.0 in
    visible_written word v.1
joined_written (word ∷ next ∷ words) h =
    let p = and_parts (is_plain word) (list_all is_plain (next ∷ words)) h in
    let v = plain_parts word p.0 in
    list_all-append is_written word (32 ∷ joined (next ∷ words)) ∙ rw (visible_written word v.1) (joined_written (next ∷ words) p.1)

line_before : (line rest : List ℕ) → list_all is_written line ≡ true → lines_of (line ++ (10 ∷ rest)) ≡ line ∷ lines_of rest
line_before line rest written =
    let len = length-append line (10 ∷ rest) in
    let inside : (k : ℕ) → k < length line → is_line_feed (get_or (line ++ (10 ∷ rest)) k 0) ≡ false =
    λ k lt. rw (get_or_append_left line (10 ∷ rest) 0 k lt) (no_line_feed (get_or line k 0) (written_at line k written lt)) in
    let behind : is_line_feed (get_or (line ++ (10 ∷ rest)) (length line) 0) ≡ true = rw (get_or_at line 10 rest 0 (length line) refl) refl in
    let lt : length line < length (line ++ (10 ∷ rest)) = omega arith in
    let cut : drop (length line + 1) (line ++ (10 ∷ rest)) ≡ rest = sym (drop-drop 1 (length line) (line ++ (10 ∷ rest))) ∙ ap (λ (xs : List ℕ). drop 1 xs) (drop_at line (10 ∷ rest) (length line) refl) in
    rw (take_at line (10 ∷ rest) (length line) refl, cut) at (line_is (line ++ (10 ∷ rest)) (length line) lt inside behind)

pub read_back : (lines : List (List Word)) → are_plain lines ≡ true → words_by_line (text_of lines) ≡ lines
read_back [] h = by_line_end [] (no_lines [] refl)
read_back (words ∷ lines) h =
    let p = and_parts (list_all is_plain words) (are_plain lines) h in
    by_line_more (text_of (words ∷ lines)) (joined words) (text_of lines) (line_before (joined words) (text_of lines) (joined_written words p.0)) ∙ ap (λ (ws : List Word). ws ∷ words_by_line (text_of lines)) (joined_words words p.0) ∙ ap (λ (ls : List (List Word)). words ∷ ls) (read_back lines p.1)
