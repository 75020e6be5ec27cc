-- A text that was read is the print of the report.
use Rattle.std.proofs.Common.{◌≡◌, ◌==◌, ℕ, ◌+◌, Bool, true, false, cond, ◌&&◌, List, [], ◌∷◌, ◌++◌, length, map, Option, Some, None, Result, Ok, Err, refl, sym, ap, subst, ◌∙◌, append_assoc}
use Rattle.std.specs.List.{flat_map}
use Rattle.std.proofs.lemmas.Bool.{eqb-true, and_parts}
use Rattle.std.proofs.lemmas.List.{append-nil, nil_from_length}
use Rattle.raid_base.specs.declared.report.Report.{Report}
use Rattle.raid_workload.specs.declared.workload.Workload.{Workload}
use Rattle.raid_pieces.specs.Pieces.{pieces, full_lines, unfinished, without_last, last_of}
use Rattle.raid_pieces.proofs.Cuts.{some_pieces}
use Rattle.raid_pieces.proofs.Glued.{glued, glued_pieces}
use Rattle.raid_report.specs.declared.draft.Draft.{Draft}
use Rattle.raid_report.specs.declared.draft.Place.{Place}
use Rattle.raid_report.specs.declared.draft.Place.TheVariants.{Start, Entries, Tail, Over}
use Rattle.raid_report.specs.Spelling.{Word, spelling, spaced, line_text, text_of, print_of}
use Rattle.raid_report.specs.Known.{IsReportOf}
use Rattle.raid_report.specs.Typed.{IsTyped}
use Rattle.raid_report.specs.Drafts.{opening, line_after, report_of}
use Rattle.raid_report.specs.Beginnings.{fed}
use Rattle.raid_report.specs.Outcome.{is_over, ended, after_line, outcome_from, outcome_of}
use Rattle.raid_report.proofs.Drafts.{begun_at, begun, IsWhole, IsDraftAt, IsDraft}
use Rattle.raid_report.proofs.Tails.{line_exact}

-- a report, with its lines
pub record IsRead (w : Workload) (whole : Bool) (lines : List (List Word)) (r : Report) : Type 0 where
  pub complete : whole ≡ true
  pub report : IsReportOf w r
  pub typed : IsTyped r
  pub spelled : spelling w r ≡ lines

is_place_over : (p : Place) → is_over p ≡ true → p ≡ Over
is_place_over Start h = absurd cc
is_place_over Entries h = absurd cc
is_place_over Tail h = absurd cc
is_place_over Over h = refl

pub spelled_over : (w : Workload) (d : Draft) → spelling w (report_of d) ≡ begun_at w Over d
unfolding spelling
spelled_over w d = simp append_assoc

ok_if : {X : Type 0} (b : Bool) (x y : X) (n : ℕ) → cond b (let o : Result X ℕ = Ok x in o) (Err n) ≡ Ok y → (b ≡ true) × (x ≡ y)
ok_if true x y n e = (refl, cc)
ok_if false x y n e = absurd cc

ended_ok : (w : Workload) (number : ℕ) (d : Draft) (whole : Bool) (r : Report) → IsDraft w d → ended number d whole ≡ Ok r → IsRead w whole (begun w d) r
unfolding ended
ended_ok w number d whole r is h =
    let a = ok_if (whole && is_over d.place) (report_of d) r number h in
    let b = and_parts whole (is_over d.place) a.0 in
    let over = is_place_over d.place b.1 in
    let x : IsWhole w d = subst (λ (p : Place). IsDraftAt w p d) over is in
    let made : IsRead w whole (begun w d) (report_of d) = record {
      complete = b.0;
      report = x.report;
      typed = x.typed;
      spelled = spelled_over w d ∙ ap (λ (p : Place). begun_at w p d) (sym over);
    } in
    subst (IsRead w whole (begun w d)) a.1 made

went_on : (go : Draft → Result Report ℕ) (number : ℕ) (o : Option Draft) (r : Report) → after_line go number o ≡ Ok r → (d : Draft) × (o ≡ Some d) × (go d ≡ Ok r)
went_on go number None r h = absurd cc
went_on go number (Some d) r h = (d, refl, h)

ok_from : (w : Workload) (number : ℕ) (d : Draft) (whole : Bool) (lines : List (List ℕ)) (r : Report) → IsDraft w d → outcome_from w number d whole lines ≡ Ok r → IsRead w whole (begun w d ++ map (pieces 32) lines) r
unfolding outcome_from
ok_from w number d whole [] r is h = subst (λ (ls : List (List Word)). IsRead w whole ls r) (sym (append-nil (begun w d))) (ended_ok w number d whole r is h)
ok_from w number d whole (line ∷ lines) r is h =
    let a = went_on (λ next. outcome_from w (number + 1) next whole lines) number (line_after w d (pieces 32 line)) r h in
    let x = line_exact w d (pieces 32 line) a.0 is a.1 in
    let rest = ok_from w (number + 1) a.0 whole lines r x.draft a.2 in
    let same : begun w a.0 ++ map (pieces 32) lines ≡ begun w d ++ (pieces 32 line ∷ map (pieces 32) lines) =
    ap (λ (ls : List (List Word)). ls ++ map (pieces 32) lines) x.lines ∙ simp append_assoc in
    subst (λ (ls : List (List Word)). IsRead w whole ls r) same rest

-- ---- bytes

pub line_is : (line : List ℕ) → line_text (pieces 32 line) ≡ fed line
line_is line =
    let some = some_pieces 32 line in
    let whole : some.0.0 ++ spaced some.0.1 ≡ line = rw some.1 at (glued_pieces 32 line) in
    ap line_text some.1 ∙ (simp append_assoc at (ap fed whole))

pub lines_are : (lines : List (List ℕ)) → text_of (map (pieces 32) lines) ≡ flat_map fed lines
lines_are [] = refl
lines_are (line ∷ lines) = ap (λ (xs : List ℕ). xs ++ text_of (map (pieces 32) lines)) (line_is line) ∙ ap (λ (xs : List ℕ). fed line ++ xs) (lines_are lines)

-- pieces with marks between them are the full ones with marks behind them, and the last
glued_last : (ps : List (List ℕ)) (p : List ℕ) → glued 10 (p ∷ ps) ≡ flat_map fed (without_last (p ∷ ps)) ++ last_of (p ∷ ps)
glued_last [] p = append-nil p
glued_last (q ∷ ps) p = ap (λ (xs : List ℕ). p ++ (10 ∷ xs)) (glued_last ps q) ∙ simp append_assoc

pub text_is : (text : List ℕ) → text ≡ flat_map fed (full_lines text) ++ unfinished text
unfolding full_lines unfinished
text_is text =
    let some = some_pieces 10 text in
    sym (glued_pieces 10 text) ∙ ap (glued 10) some.1 ∙ glued_last some.0.1 some.0.0
    ∙ ap (λ (ps : List (List ℕ)). flat_map fed (without_last ps) ++ last_of ps) (sym some.1)

pub record IsReading (w : Workload) (text : List ℕ) (r : Report) : Type 0 where
  pub report : IsReportOf w r
  pub typed : IsTyped r
  pub printed : text ≡ print_of w r

pub read_ok : (w : Workload) (text : List ℕ) (r : Report) → outcome_of w text ≡ Ok r → IsReading w text r
unfolding outcome_of
read_ok w text r h =
    let x = ok_from w 1 opening (length (unfinished text) == 0) (full_lines text) r refl h in
    let none : unfinished text ≡ [] = nil_from_length (unfinished text) (eqb-true (length (unfinished text)) 0 x.complete) in
    record {
      report = x.report;
      typed = x.typed;
      printed = text_is text ∙ ap (λ (xs : List ℕ). flat_map fed (full_lines text) ++ xs) none ∙ append-nil (flat_map fed (full_lines text)) ∙ sym (ap text_of x.spelled ∙ lines_are (full_lines text));
    }
