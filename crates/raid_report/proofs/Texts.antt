-- The text of a report falls into the lines of its spelling, and these into their words.
use Rattle.std.proofs.Common.{◌≡◌, ◌==◌, ℕ, ◌+◌, Bool, true, false, ◌||◌, List, [], ◌∷◌, ◌++◌, map, refl, sym, ap, ◌∙◌, append_assoc}
use Rattle.std.specs.List.{list_all, flat_map}
use Rattle.std.proofs.lemmas.Bool.{and_parts}
use Rattle.std.proofs.lemmas.List.{append-nil}
use Rattle.std.proofs.lemmas.List.Folds.{list_all-append}
use Rattle.raid_base.specs.declared.entry.Entry.{Entry}
use Rattle.raid_base.specs.declared.report.Report.{Report}
use Rattle.raid_workload.specs.declared.workload.Workload.{Workload}
use Rattle.raid_pieces.specs.Pieces.{pieces, full_lines, unfinished}
use Rattle.raid_pieces.proofs.Glued.{free, free_of, glued, pieces_glued, line_before, unfinished_before, nothing_unfinished, no_full_lines}
use Rattle.raid_pieces.proofs.Written.{wider}
use Rattle.raid_report.specs.Spelling.{Word, entry_lines, final_words, copy_words, spelling, line_text, text_of, print_of}
use Rattle.raid_report.specs.Known.{IsReportOf}
use Rattle.raid_report.specs.Typed.{IsHeld}
use Rattle.raid_report.specs.Beginnings.{fed}
use Rattle.raid_report.proofs.Bytes.{is_word_byte, both_bytes, marked_bytes}
use Rattle.raid_report.proofs.Plain.{is_plain, are_plain, plain_spelling}

-- ---- lines with line feeds

pub fed_lines : (ls : List (List ℕ)) (rest : List ℕ) → list_all (free 10) ls ≡ true → full_lines (flat_map fed ls ++ rest) ≡ ls ++ full_lines rest
fed_lines [] rest h = refl
fed_lines (l ∷ ls) rest h =
    let p = and_parts (free 10 l) (list_all (free 10) ls) h in
    let shape : flat_map fed (l ∷ ls) ++ rest ≡ l ++ (10 ∷ (flat_map fed ls ++ rest)) = simp append_assoc in
    ap full_lines shape ∙ line_before l (flat_map fed ls ++ rest) p.0 ∙ ap (λ (xs : List (List ℕ)). l ∷ xs) (fed_lines ls rest p.1)

pub fed_whole : (ls : List (List ℕ)) → list_all (free 10) ls ≡ true → unfinished (flat_map fed ls) ≡ []
fed_whole [] h = nothing_unfinished
fed_whole (l ∷ ls) h =
    let p = and_parts (free 10 l) (list_all (free 10) ls) h in
    let shape : flat_map fed (l ∷ ls) ≡ l ++ (10 ∷ flat_map fed ls) = simp append_assoc in
    ap unfinished shape ∙ unfinished_before l (flat_map fed ls) p.0 ∙ fed_whole ls p.1

line_fed : (words : List Word) → line_text words ≡ fed (glued 32 words)
line_fed [] = refl
line_fed (word ∷ words) = simp append_assoc

text_fed : (lines : List (List Word)) → text_of lines ≡ flat_map fed (map (glued 32) lines)
text_fed [] = refl
text_fed (words ∷ lines) = ap (λ (xs : List ℕ). xs ++ text_of lines) (line_fed words) ∙ ap (λ (xs : List ℕ). fed (glued 32 words) ++ xs) (text_fed lines)

-- ---- lines of plain words

-- a line has a word
abbrev pub has_words : List Word → Bool
has_words [] = false
has_words (word ∷ words) = true

-- a byte of a line: of a word, or a space
abbrev is_line_byte : ℕ → Bool
is_line_byte b = is_word_byte b || b == 32

or_left : (a b : Bool) → a ≡ true → (a || b) ≡ true
or_left true b h = refl
or_left false b h = absurd cc

line_bytes : (word : Word) → is_plain word ≡ true → list_all is_line_byte word ≡ true
line_bytes word h = wider is_word_byte is_line_byte word (λ b e. or_left (is_word_byte b) (b == 32) e) h

plain_glued : (words : List Word) → are_plain words ≡ true → list_all is_line_byte (glued 32 words) ≡ true
plain_glued [] h = refl
plain_glued (word ∷ words) h =
    let p = and_parts (is_plain word) (are_plain words) h in
    both_bytes is_line_byte word (flat_map (λ next. 32 ∷ next) words) (line_bytes word p.0) (marked_bytes is_line_byte 32 words refl (all words p.1))
  where
    all : (words : List Word) → are_plain words ≡ true → list_all (list_all is_line_byte) words ≡ true
    all [] h = refl
    all (word ∷ words) h = let p = and_parts (is_plain word) (are_plain words) h in rw (line_bytes word p.0) (all words p.1)

free_lines : (lines : List (List Word)) → list_all are_plain lines ≡ true → list_all (free 10) (map (glued 32) lines) ≡ true
free_lines [] h = refl
free_lines (words ∷ lines) h =
    let p = and_parts (are_plain words) (list_all are_plain lines) h in
    rw (free_of is_line_byte 10 (glued 32 words) refl (plain_glued words p.0)) (free_lines lines p.1)

words_again : (words : List Word) → are_plain words ≡ true → has_words words ≡ true → pieces 32 (glued 32 words) ≡ words
words_again [] h some = absurd cc
words_again (word ∷ words) h some =
    let p = and_parts (is_plain word) (are_plain words) h in
    pieces_glued 32 word words (free_of is_word_byte 32 word refl p.0) (all words p.1)
  where
    all : (words : List Word) → are_plain words ≡ true → list_all (free 32) words ≡ true
    all [] h = refl
    all (word ∷ words) h = let p = and_parts (is_plain word) (are_plain words) h in rw (free_of is_word_byte 32 word refl p.0) (all words p.1)

lines_again : (lines : List (List Word)) → list_all are_plain lines ≡ true → list_all has_words lines ≡ true → map (pieces 32) (map (glued 32) lines) ≡ lines
lines_again [] h some = refl
lines_again (words ∷ lines) h some =
    let p = and_parts (are_plain words) (list_all are_plain lines) h in
    let q = and_parts (has_words words) (list_all has_words lines) some in
    rw (words_again words p.0 q.0, lines_again lines p.1 q.1) refl

-- ---- the lines of a report

both_filled : (xs ys : List (List Word)) → list_all has_words xs ≡ true → list_all has_words ys ≡ true → list_all has_words (xs ++ ys) ≡ true
both_filled xs ys h k = list_all-append has_words xs ys ∙ rw h k

entries_filled : (w : Workload) (k : ℕ) (es : List Entry) → list_all has_words (entry_lines w k es) ≡ true
entries_filled w k [] = refl
entries_filled w k (e ∷ es) = entries_filled w (k + 1) es

images_filled : {X : Type 0} (f : X → List Word) (xs : List X) → ((x : X) → has_words (f x) ≡ true) → list_all has_words (map f xs) ≡ true
images_filled f [] h = refl
images_filled f (x ∷ xs) h = rw (h x) (images_filled f xs h)

filled_spelling : (w : Workload) (r : Report) → list_all has_words (spelling w r) ≡ true
unfolding spelling
filled_spelling w r =
    both_filled (entry_lines w 1 r.entries) _ (entries_filled w 1 r.entries)
    (both_filled (map (final_words w) r.finals) _ (images_filled (final_words w) r.finals (λ p. refl))
    (both_filled (map (copy_words w) r.copies) _ (images_filled (copy_words w) r.copies (λ c. refl)) refl))

-- the lines of a report as they stand in its text
abbrev pub printed_lines : Workload → Report → List (List ℕ)
printed_lines w r = map (glued 32) (spelling w r)

pub print_fed : (w : Workload) (r : Report) → print_of w r ≡ flat_map fed (printed_lines w r)
print_fed w r = text_fed (spelling w r)

pub printed_free : (w : Workload) (r : Report) → IsReportOf w r → IsHeld r → list_all (free 10) (printed_lines w r) ≡ true
printed_free w r h k = free_lines (spelling w r) (plain_spelling w r h k)

pub print_lines : (w : Workload) (r : Report) → IsReportOf w r → IsHeld r → full_lines (print_of w r) ≡ printed_lines w r
print_lines w r h k =
    ap full_lines (print_fed w r ∙ sym (append-nil (flat_map fed (printed_lines w r)))) ∙ fed_lines (printed_lines w r) [] (printed_free w r h k)
    ∙ ap (λ (ls : List (List ℕ)). printed_lines w r ++ ls) no_full_lines ∙ append-nil (printed_lines w r)

pub print_whole : (w : Workload) (r : Report) → IsReportOf w r → IsHeld r → unfinished (print_of w r) ≡ []
print_whole w r h k = ap unfinished (print_fed w r) ∙ fed_whole (printed_lines w r) (printed_free w r h k)

pub printed_words : (w : Workload) (r : Report) → IsReportOf w r → IsHeld r → map (pieces 32) (printed_lines w r) ≡ spelling w r
printed_words w r h k = lines_again (spelling w r) (plain_spelling w r h k) (filled_spelling w r)
