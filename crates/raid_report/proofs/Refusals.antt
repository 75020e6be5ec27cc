-- A refusal names the first line that doesn't fit, and no two reports have one text.
use Rattle.std.proofs.Common.{◌≡◌, ◌==◌, ℕ, zero, suc, ◌+◌, ◌-◌, ◌<◌, ◌≤◌, ◌^◌, Bool, true, false, cond, ◌&&◌, List, [], ◌∷◌, ◌++◌, length, map, take, drop, Option, Some, None, Result, Ok, Err, refl, sym, ap, ◌∙◌, arith, append_assoc, length-append}
use Rattle.std.specs.List.{list_all, flat_map}
use Rattle.std.proofs.lemmas.Bool.{and_parts}
use Rattle.std.proofs.lemmas.List.{append-nil}
use Rattle.std.proofs.lemmas.List.Concat.{flat_map-append}
use Rattle.raid_base.specs.declared.report.Report.{Report}
use Rattle.raid_workload.specs.declared.workload.Workload.{Workload}
use Rattle.raid_pieces.specs.Pieces.{pieces, full_lines, unfinished}
use Rattle.raid_pieces.proofs.Glued.{free, lines_free}
use Rattle.raid_report.specs.declared.draft.Draft.{Draft}
use Rattle.raid_report.specs.Spelling.{Word, spelling, line_text, text_of, print_of}
use Rattle.raid_report.specs.Known.{IsReportOf}
use Rattle.raid_report.specs.Typed.{IsHeld}
use Rattle.raid_report.specs.Drafts.{opening, line_after, lines_after, report_of}
use Rattle.raid_report.specs.Outcome.{is_over, ended, after_line, outcome_from, outcome_of}
use Rattle.raid_report.specs.Beginnings.{fed, IsTextOf, Begins, IsFirstUnfit}
use Rattle.raid_report.proofs.Drafts.{begun, IsDraft}
use Rattle.raid_report.proofs.Tails.{line_exact}
use Rattle.raid_report.proofs.Outcomes.{lines_are, text_is}
use Rattle.raid_report.proofs.AgainDrafts.{over_draft, spelling_again}
use Rattle.raid_report.proofs.Texts.{fed_lines, printed_lines, print_lines, print_whole, printed_words}
use Rattle.raid_report.proofs.Completed.{completed, entries_within}

-- ---- where reading stops

-- at the end, where something is missing or too much, or before a line that doesn't fit
abbrev Stops : Workload → Draft → Bool → List (List ℕ) → Type 0
Stops w d whole [] = (whole && is_over d.place) ≡ false
Stops w d whole (line ∷ lines) = line_after w d (pieces 32 line) ≡ None

record IsStop (w : Workload) (d : Draft) (whole : Bool) (lines : List (List ℕ)) (number n : ℕ) : Type 0 where
  pub read : List (List ℕ)
  pub left : List (List ℕ)
  pub at : Draft
  pub split : lines ≡ read ++ left
  pub count : n ≡ number + length read
  pub went : lines_after w (Some d) (map (pieces 32) read) ≡ Some at
  pub draft : IsDraft w at
  pub begun_are : begun w at ≡ begun w d ++ map (pieces 32) read
  pub stops : Stops w at whole left

err_if : {X : Type 0} (b : Bool) (x : X) (m n : ℕ) → cond b (let o : Result X ℕ = Ok x in o) (Err m) ≡ Err n → (b ≡ false) × (m ≡ n)
err_if true x m n e = absurd cc
err_if false x m n e = (refl, cc)

-- a step came to nothing, or it went on
stopped_or : (go : Draft → Result Report ℕ) (number n : ℕ) (o : Option Draft) (P : Type 0) → after_line go number o ≡ Err n → (o ≡ None → number ≡ n → P) → ((e : Draft) → o ≡ Some e → go e ≡ Err n → P) → P
stopped_or go number n None P h stop on = stop refl cc
stopped_or go number n (Some e) P h stop on = on e refl h

stop_from : (w : Workload) (d : Draft) (whole : Bool) (lines : List (List ℕ)) (number n : ℕ) → IsDraft w d → outcome_from w number d whole lines ≡ Err n → IsStop w d whole lines number n
unfolding outcome_from ended
stop_from w d whole [] number n is h =
    let e = err_if (whole && is_over d.place) (report_of d) number n h in
    record { read = []; left = []; at = d; split = refl; count = omega (arith, e.1); went = refl; draft = is; begun_are = sym (append-nil (begun w d)); stops = e.0 }
stop_from w d whole (line ∷ lines) number n is h =
    stopped_or (λ next. outcome_from w (number + 1) next whole lines) number n (line_after w d (pieces 32 line)) (IsStop w d whole (line ∷ lines) number n) h
    (λ none e. record { read = []; left = line ∷ lines; at = d; split = refl; count = omega (arith, e); went = refl; draft = is; begun_are = sym (append-nil (begun w d)); stops = none })
    (λ next some go.
    let x = line_exact w d (pieces 32 line) next is some in
    let s = stop_from w next whole lines (number + 1) n x.draft go in
    record {
      read = line ∷ s.read;
      left = s.left;
      at = s.at;
      split = ap (λ (ls : List (List ℕ)). line ∷ ls) s.split;
      count = omega (arith, s.count);
      went = ap (λ o. lines_after w o (map (pieces 32) s.read)) some ∙ s.went;
      draft = s.draft;
      begun_are = s.begun_are ∙ ap (λ (ls : List (List Word)). ls ++ map (pieces 32) s.read) x.lines ∙ simp append_assoc;
      stops = s.stops;
    })

-- ---- reading on

nothing_after : (w : Workload) (lines : List (List Word)) → lines_after w None lines ≡ None
nothing_after w [] = refl
nothing_after w (l ∷ lines) = refl

after_both : (w : Workload) (o : Option Draft) (a b : List (List Word)) → lines_after w o (a ++ b) ≡ lines_after w (lines_after w o a) b
after_both w None [] b = refl
after_both w None (l ∷ a) b = nothing_after w (a ++ b) ∙ sym (nothing_after w b)
after_both w (Some d) [] b = refl
after_both w (Some d) (l ∷ a) b = after_both w (line_after w d l) a b

-- lines that were read, then one that doesn't fit, are no report's
no_fit : (w : Workload) (r : Report) (read : List (List ℕ)) (at : Draft) (line : List ℕ) (more : List (List Word)) → IsReportOf w r → IsHeld r →
    lines_after w (Some opening) (map (pieces 32) read) ≡ Some at → line_after w at (pieces 32 line) ≡ None →
    spelling w r ≡ map (pieces 32) read ++ (pieces 32 line ∷ more) → ⊥
no_fit w r read at line more h k went none is =
    let reads : lines_after w (Some opening) (spelling w r) ≡ Some (over_draft r) = spelling_again w r h k in
    let stops : lines_after w (Some opening) (spelling w r) ≡ None =
    ap (lines_after w (Some opening)) is ∙ after_both w (Some opening) (map (pieces 32) read) (pieces 32 line ∷ more)
    ∙ ap (λ o. lines_after w o (pieces 32 line ∷ more)) went ∙ ap (λ o. lines_after w o more) none ∙ nothing_after w more in
    apart (lines_after w (Some opening) (spelling w r)) (over_draft r) reads stops
  where
    apart : (o : Option Draft) (d : Draft) → o ≡ Some d → o ≡ None → ⊥
    apart o d a b = absurd cc

map_both : {X Y : Type 0} (f : X → Y) (xs ys : List X) → map f (xs ++ ys) ≡ map f xs ++ map f ys
map_both f [] ys = refl
map_both f (x ∷ xs) ys = ap (λ zs. f x ∷ zs) (map_both f xs ys)

-- ---- no report has the text

stop_no_text : (w : Workload) (text : List ℕ) (read left : List (List ℕ)) (at : Draft) (r : Report) → full_lines text ≡ read ++ left → lines_after w (Some opening) (map (pieces 32) read) ≡ Some at →
    Stops w at (length (unfinished text) == 0) left → IsTextOf w text r → ⊥
stop_no_text w text read [] at r split went stops t =
    let lines : full_lines text ≡ printed_lines w r = ap full_lines t.printed ∙ print_lines w r t.report t.held in
    let none : unfinished text ≡ [] = ap unfinished t.printed ∙ print_whole w r t.report t.held in
    let words : map (pieces 32) read ≡ spelling w r = ap (map (pieces 32)) (sym (split ∙ append-nil read) ∙ lines) ∙ printed_words w r t.report t.held in
    let over : at ≡ over_draft r = some_is at (over_draft r) (sym went ∙ ap (lines_after w (Some opening)) words ∙ spelling_again w r t.report t.held) in
    let yes : ((length (unfinished text) == 0) && is_over at.place) ≡ true = rw (none, over) refl in
    untrue ((length (unfinished text) == 0) && is_over at.place) yes stops
  where
    some_is : (d e : Draft) → (let o : Option Draft = Some d in o) ≡ Some e → d ≡ e
    some_is d e h = cc

    untrue : (b : Bool) → b ≡ true → b ≡ false → ⊥
    untrue true h k = absurd cc
    untrue false h k = absurd cc
stop_no_text w text read (line ∷ left) at r split went stops t =
    let lines : full_lines text ≡ printed_lines w r = ap full_lines t.printed ∙ print_lines w r t.report t.held in
    let words : spelling w r ≡ map (pieces 32) read ++ (pieces 32 line ∷ map (pieces 32) left) =
    sym (printed_words w r t.report t.held) ∙ ap (map (pieces 32)) (sym lines ∙ split) ∙ map_both (pieces 32) read (line ∷ left) in
    no_fit w r read at line (map (pieces 32) left) t.report t.held went stops words

-- ---- the lines before begin a report's text

fed_both : (a b : List (List ℕ)) → flat_map fed (a ++ b) ≡ flat_map fed a ++ flat_map fed b
fed_both a b = flat_map-append fed a b

taken : {X : Type 0} (k : ℕ) (xs ys : List X) → k ≤ length xs → take k (xs ++ ys) ≡ take k xs
taken zero xs ys le = refl
taken (suc k) [] ys le = absurd (omega arith)
taken (suc k) (x ∷ xs) ys le = ap (λ zs. x ∷ zs) (taken k xs ys (omega arith))

split_at : {X : Type 0} (k : ℕ) (xs : List X) → take k xs ++ drop k xs ≡ xs
split_at zero xs = refl
split_at (suc k) [] = refl
split_at (suc k) (x ∷ xs) = ap (λ zs. x ∷ zs) (split_at k xs)

glued_all : (lines : List (List ℕ)) → text_of (map (pieces 32) lines) ≡ flat_map fed lines
glued_all lines = lines_are lines

pub lines_within : (lines : List (List ℕ)) → length lines ≤ length (flat_map fed lines)
lines_within [] = omega arith
lines_within (l ∷ lines) = let c = lines_within lines in omega (arith, length-append (fed l) (flat_map fed lines), length-append l (10 ∷ []))

stop_before : (w : Workload) (text : List ℕ) (k : ℕ) (s : IsStop w opening (length (unfinished text) == 0) (full_lines text) 1 (1 + k)) → length text < 2 ^ 32 - 1 → (j : ℕ) → j ≤ length s.read → Begins w text j
stop_before w text k s short j le =
    let long = length-append s.read s.left in
    let within = lines_within (full_lines text) in
    let all = ap length (text_is text) in
    let sizes = length-append (flat_map fed (full_lines text)) (unfinished text) in
    let few : length s.at.entries < 2 ^ 32 - 1 = omega (arith, entries_within w s.at s.draft, ap length s.begun_are, same_length (pieces 32) s.read, ap length s.split) in
    let c = completed w s.at s.draft few in
    let spelled : spelling w c.report ≡ map (pieces 32) s.read ++ c.more = c.spelled ∙ ap (λ (ls : List (List Word)). ls ++ c.more) s.begun_are in
    let printed : print_of w c.report ≡ flat_map fed s.read ++ text_of c.more = ap text_of spelled ∙ text_both (map (pieces 32) s.read) c.more ∙ ap (λ (xs : List ℕ). xs ++ text_of c.more) (glued_all s.read) in
    let first : take j (full_lines text) ≡ take j s.read = ap (take j) s.split ∙ taken j s.read s.left le in
    let parts : flat_map fed s.read ≡ flat_map fed (take j s.read) ++ flat_map fed (drop j s.read) = ap (flat_map fed) (sym (split_at j s.read)) ∙ fed_both (take j s.read) (drop j s.read) in
    record {
      full = omega (arith, ap length s.split);
      report = c.report;
      rest = flat_map fed (drop j s.read) ++ text_of c.more;
      begun = record {
        report = c.of;
        held = c.held;
        printed = ap (λ (ls : List (List ℕ)). flat_map fed ls ++ (flat_map fed (drop j s.read) ++ text_of c.more)) first
            ∙ sym (printed ∙ ap (λ (xs : List ℕ). xs ++ text_of c.more) parts ∙ append_assoc (flat_map fed (take j s.read)) (flat_map fed (drop j s.read)) (text_of c.more));
      };
    }
  where
    same_length : {X Y : Type 0} (f : X → Y) (xs : List X) → length (map f xs) ≡ length xs
    same_length f [] = refl
    same_length f (x ∷ xs) = let e = same_length f xs in omega arith

    text_both : (a b : List (List Word)) → text_of (a ++ b) ≡ text_of a ++ text_of b
    text_both a b = flat_map-append line_text a b

-- ---- one line more doesn't

free_taken : (k : ℕ) (ls : List (List ℕ)) → list_all (free 10) ls ≡ true → list_all (free 10) (take k ls) ≡ true
free_taken zero ls h = refl
free_taken (suc k) [] h = refl
free_taken (suc k) (l ∷ ls) h = let p = and_parts (free 10 l) (list_all (free 10) ls) h in rw p.0 (free_taken k ls p.1)

one_more : (read left : List (List ℕ)) (line : List ℕ) → take (suc (length read)) (read ++ line ∷ left) ≡ read ++ line ∷ []
one_more [] left line = refl
one_more (l ∷ read) left line = ap (λ (ls : List (List ℕ)). l ∷ ls) (one_more read left line)

stop_here : (w : Workload) (text : List ℕ) (read left : List (List ℕ)) (at : Draft) (n : ℕ) → full_lines text ≡ read ++ left → n ≡ suc (length read) → lines_after w (Some opening) (map (pieces 32) read) ≡ Some at →
    Stops w at (length (unfinished text) == 0) left → Begins w text n → ⊥
stop_here w text read [] at n split is went stops b = absurd (omega (arith, b.full, ap length split, length-append read []))
stop_here w text read (line ∷ left) at n split is went stops b =
    let r = b.report in
    let t = b.begun in
    let first : take n (full_lines text) ≡ read ++ line ∷ [] = ap (take n) split ∙ ap (λ k. take k (read ++ line ∷ left)) is ∙ one_more read left line in
    let lines : take n (full_lines text) ++ full_lines b.rest ≡ printed_lines w r =
    sym (fed_lines (take n (full_lines text)) b.rest (free_taken n (full_lines text) (lines_free text))) ∙ ap full_lines t.printed ∙ print_lines w r t.report t.held in
    let words : spelling w r ≡ map (pieces 32) read ++ (pieces 32 line ∷ map (pieces 32) (full_lines b.rest)) =
    sym (printed_words w r t.report t.held) ∙ ap (map (pieces 32)) (sym lines ∙ ap (λ (ls : List (List ℕ)). ls ++ full_lines b.rest) first ∙ append_assoc read (line ∷ []) (full_lines b.rest)) ∙ map_both (pieces 32) read (line ∷ full_lines b.rest) in
    no_fit w r read at line (map (pieces 32) (full_lines b.rest)) t.report t.held went stops words

-- ---- the answers

pub first_unfit : (w : Workload) (text : List ℕ) (n : ℕ) → length text < 2 ^ 32 - 1 → outcome_of w text ≡ Err n → IsFirstUnfit w text n
unfolding outcome_of
first_unfit w text n short h =
    let s = stop_from w opening (length (unfinished text) == 0) (full_lines text) 1 n refl h in
    let same : IsStop w opening (length (unfinished text) == 0) (full_lines text) 1 (1 + length s.read) = record { read = s.read; left = s.left; at = s.at; split = s.split; count = refl; went = s.went; draft = s.draft; begun_are = s.begun_are; stops = s.stops } in
    record {
      no_text = λ r t. stop_no_text w text s.read s.left s.at r s.split s.went s.stops t;
      some = omega (arith, s.count);
      before = λ k less. stop_before w text (length s.read) same short k (omega (arith, s.count));
      here = λ b. stop_here w text s.read s.left s.at n s.split (omega (arith, s.count)) s.went s.stops b;
    }

-- two reports with one text are one
pub print_apart : (w : Workload) (r v : Report) → IsReportOf w r → IsHeld r → IsReportOf w v → IsHeld v → print_of w r ≡ print_of w v → r ≡ v
print_apart w r v h k i j e =
    let lines : printed_lines w r ≡ printed_lines w v = sym (print_lines w r h k) ∙ ap full_lines e ∙ print_lines w v i j in
    let words : spelling w r ≡ spelling w v = sym (printed_words w r h k) ∙ ap (map (pieces 32)) lines ∙ printed_words w v i j in
    let drafts : over_draft r ≡ over_draft v = some_is (over_draft r) (over_draft v) (sym (spelling_again w r h k) ∙ ap (lines_after w (Some opening)) words ∙ spelling_again w v i j) in
    ap report_of drafts
  where
    some_is : (d e : Draft) → (let o : Option Draft = Some d in o) ≡ Some e → d ≡ e
    some_is d e h = cc
