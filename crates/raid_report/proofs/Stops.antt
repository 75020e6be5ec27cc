-- How reading goes on line by line, and where it stops.
use Rattle.std.proofs.Common.{◌≡◌, ◌==◌, ℕ, ◌+◌, Bool, List, [], ◌∷◌, length, Some, Result, Err, refl, sym, ◌∙◌}
use Rattle.raid_base.specs.declared.report.Report.{Report}
use Rattle.raid_workload.specs.declared.workload.Workload.{Workload}
use Rattle.raid_pieces.specs.Pieces.{pieces, full_lines, unfinished}
use Rattle.raid_report.specs.declared.error.LineError.{LineError}
use Rattle.raid_report.specs.declared.error.LineError.TheVariants.{Memory, Unfit}
use Rattle.raid_report.specs.declared.draft.Draft.{Draft}
use Rattle.raid_report.specs.Drafts.{opening, line_after}
use Rattle.raid_report.specs.Outcome.{Gives, ended, outcome_from, outcome_of, Answers, refusal_of}

pub outcome_starts : (w : Workload) (text : List ℕ) → outcome_from w 1 opening (length (unfinished text) == 0) (full_lines text) ≡ outcome_of w text
unfolding outcome_of
outcome_starts w text = refl

pub outcome_goes_on : (w : Workload) (number : ℕ) (d e : Draft) (whole : Bool) (line : List ℕ) (lines : List (List ℕ)) → line_after w d (pieces 32 line) ≡ Some e →
    outcome_from w number d whole (line ∷ lines) ≡ outcome_from w (number + 1) e whole lines
unfolding outcome_from
outcome_goes_on w number d e whole line lines h = rw h refl

pub outcome_ends : (w : Workload) (number : ℕ) (d : Draft) (whole : Bool) → outcome_from w number d whole [] ≡ ended number d whole
unfolding outcome_from
outcome_ends w number d whole = refl

pub is_refused : (w : Workload) (number : ℕ) (d e : Draft) (whole : Bool) (line : List ℕ) (lines : List (List ℕ)) (error : LineError) (o : Result Report ℕ) →
    Gives {X = Unit {0}} (λ _. e) (Err error) (line_after w d (pieces 32 line)) → outcome_from w number d whole (line ∷ lines) ≡ o → Answers (Err (refusal_of number error)) o
unfolding outcome_from
is_refused w number d e whole line lines Memory o h so_far = tt
is_refused w number d e whole line lines Unfit o h so_far = sym so_far ∙ rw h refl
