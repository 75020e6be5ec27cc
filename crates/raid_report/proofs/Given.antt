-- What parse gives, from what the text comes to.
use Rattle.std.proofs.Common.{◌≡◌, ℕ, ◌+◌, ◌-◌, ◌<◌, ◌≤◌, ◌^◌, List, [], ◌∷◌, ◌++◌, length, map, codes, refl, Result, Ok, Err, sym, ap, ◌∙◌, arith, length-append}
use Rattle.std.specs.Prelude.{IfOk, IfErr}
use Rattle.raid_base.specs.declared.entry.Entry.{Entry}
use Rattle.raid_base.specs.declared.report.Report.{Report}
use Rattle.raid_workload.specs.declared.workload.Workload.{Workload}
use Rattle.raid_pieces.proofs.Glued.{glued}
use Rattle.raid_report.specs.declared.reading.ReportRefused.{ReportRefused}
use Rattle.raid_report.specs.declared.reading.ReportRefused.TheVariants as refusals
use Rattle.raid_report.specs.Spelling.{entry_lines, order_words, final_words, copy_words, spelling, print_of}
use Rattle.raid_report.specs.Outcome.{outcome_of, Answers}
use Rattle.raid_report.specs.Beginnings.{IsTextOf, IsGiven, IsRefusal}
use Rattle.raid_report.proofs.Outcomes.{read_ok}
use Rattle.raid_report.proofs.Refusals.{first_unfit, print_apart, lines_within}
use Rattle.raid_report.proofs.Texts.{printed_lines, print_fed}

entries_counted : (w : Workload) (k : ℕ) (es : List Entry) → length (entry_lines w k es) ≡ length es
entries_counted w k [] = refl
entries_counted w k (e ∷ es) = let c = entries_counted w (k + 1) es in omega arith

same_length : {X Y : Type 0} (f : X → Y) (xs : List X) → length (map f xs) ≡ length xs
same_length f [] = refl
same_length f (x ∷ xs) = let e = same_length f xs in omega arith

entries_in : (w : Workload) (r : Report) → length r.entries ≤ length (spelling w r)
unfolding spelling
entries_in w r =
    omega (arith, entries_counted w 1 r.entries, length-append (entry_lines w 1 r.entries) (order_words w r.order ∷ (map (final_words w) r.finals ++ (map (copy_words w) r.copies ++ ((codes "done" ∷ []) ∷ [])))))

-- a report has fewer entries than its text has bytes
entries_few : (w : Workload) (r : Report) → length r.entries ≤ length (print_of w r)
entries_few w r =
    let lines = lines_within (printed_lines w r) in
    let same = same_length (glued 32) (spelling w r) in
    omega (arith, ap length (print_fed w r), entries_in w r)

pub text_of_read : (w : Workload) (text : List ℕ) (r : Report) → length text < 2 ^ 32 - 1 → outcome_of w text ≡ Ok r → IsTextOf w text r
text_of_read w text r short h =
    let x = read_ok w text r h in
    record { report = x.report; held = record { typed = x.typed; few = omega (arith, entries_few w r, ap length x.printed) }; printed = x.printed }

pub is_read : (w : Workload) (text : List ℕ) (result : Result Report ReportRefused) → length text < 2 ^ 32 - 1 → Answers result (outcome_of w text) → IfOk result (IsTextOf w text)
is_read w text (Ok r) short h = text_of_read w text r short h
is_read w text (Err e) short h = tt

pub is_given : (w : Workload) (text : List ℕ) (r : Report) (result : Result Report ReportRefused) → length text < 2 ^ 32 - 1 → IsTextOf w text r → Answers result (outcome_of w text) → IsGiven r result
is_given w text r (Ok v) short t h =
    let x = text_of_read w text v short h in
    print_apart w v r x.report x.held t.report t.held (sym x.printed ∙ t.printed)
is_given w text r (Err refusals.NoMemory) short t h = tt
is_given w text r (Err (refusals.Line n)) short t h = let x = first_unfit w text n short h in x.no_text r t

pub is_refusal : (w : Workload) (text : List ℕ) (result : Result Report ReportRefused) → length text < 2 ^ 32 - 1 → Answers result (outcome_of w text) → IfErr result (IsRefusal w text)
is_refusal w text (Ok r) short h = tt
is_refusal w text (Err refusals.NoMemory) short h = tt
is_refusal w text (Err (refusals.Line n)) short h = first_unfit w text n short h
