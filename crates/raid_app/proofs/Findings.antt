-- What is said of reports, from the facts that the code finds.
use Rattle.std.proofs.Common.{◌≡◌, ℕ, ◌<◌, ◌≤◌, true, false, true≢false, List, length, refl, subst, sym, ap, ◌∙◌}
use Rattle.std.specs.Prelude.{Result, Ok, Err, IfOk, IfErr}
use Rattle.raid_base.specs.declared.names.NoMemory.{NoMemory}
use Rattle.raid_base.specs.declared.report.Report.{Report}
use Rattle.raid_tokens.specs.declared.fault.Fault.{Fault}
use Rattle.raid_workload.specs.declared.workload.Workload.{Workload}
use Rattle.raid_text.specs.Outcome.{Reads, IsFirstFault}
use Rattle.raid_report.specs.declared.reading.ReportRefused.{ReportRefused}
use Rattle.raid_report.specs.declared.reading.ReportRefused.TheVariants.{Line}
use Rattle.raid_report.specs.Beginnings.{IsTextOf, IsFirstUnfit, IsRefusal}
use Rattle.raid_check.specs.declared.finding.Finding.{Finding}
use Rattle.raid_check.specs.declared.finding.Finding.TheVariants.{Sound, Legal, Serial, Copies, Finished}
use Rattle.raid_check.specs.Finding.{Finds}
use Rattle.raid_app.specs.declared.answer.Answer.{Answer}
use Rattle.raid_app.specs.Answer.{saying}
use Rattle.raid_app.specs.Judged.{most, Telling, is_sound, JudgesReport, unfit, unsound, sound, JudgesTexts, faulty, reads, JudgesInput, long, short}
use Rattle.raid_app.specs.Input.{workload_text, report_text}
use Rattle.raid_app.specs.Lines.{too_long_line, fault_line, unfit_line, finding_line}

sound_alone : (finding : Finding) → is_sound finding ≡ true → finding ≡ Sound
sound_alone Sound is = refl
sound_alone (Legal n) wrong = absurd (true≢false (sym wrong))
sound_alone Serial wrong = absurd (true≢false (sym wrong))
sound_alone Copies wrong = absurd (true≢false (sym wrong))
sound_alone Finished wrong = absurd (true≢false (sym wrong))

pub judges_long : (told : Telling) (input : List ℕ) (r : Result Answer NoMemory) → most < length input → IfOk r (λ a. a ≡ saying 3 too_long_line) → IfOk r (JudgesInput told input)
judges_long told input (Ok a) b e = subst (JudgesInput told input) (sym e) (long b)
judges_long told input (Err e) b h = tt

pub judges_short : (told : Telling) (input text report : List ℕ) (r : Result Answer NoMemory) → length input ≤ most → text ≡ workload_text input → report ≡ report_text input → IfOk r (JudgesTexts told text report) → IfOk r (JudgesInput told input)
judges_short told input text report (Ok a) b is behind s = short a b (subst (λ x. JudgesTexts told x (report_text input) a) is (subst (λ x. JudgesTexts told text x a) behind s))
judges_short told input text report (Err e) b is behind s = tt

pub judges_faulty : (told : Telling) (text report : List ℕ) (line : ℕ) (fault : Fault) (answer : Answer) (t : List ℕ) → IsFirstFault text line fault → answer ≡ saying 3 t → t ≡ fault_line line fault → JudgesTexts told text report answer
judges_faulty told text report line fault answer t f e g = subst (JudgesTexts told text report) (sym (e ∙ ap (saying 3) g)) (faulty line fault f)

pub judges_reads : (told : Telling) (text report : List ℕ) (w : Workload) (r : Result Answer NoMemory) → Reads text w → IfOk r (JudgesReport told w report) → IfOk r (JudgesTexts told text report)
judges_reads told text report w (Ok a) k s = reads w a k s
judges_reads told text report w (Err e) k s = tt

pub judges_unfit : (told : Telling) (w : Workload) (text : List ℕ) (line : ℕ) (answer : Answer) (t : List ℕ) → IsFirstUnfit w text line → answer ≡ saying 3 t → t ≡ unfit_line line → JudgesReport told w text answer
judges_unfit told w text line answer t f e g = subst (JudgesReport told w text) (sym (e ∙ ap (saying 3) g)) (unfit line f)

pub judges_unsound : (told : Telling) (w : Workload) (text : List ℕ) (r : Report) (finding : Finding) (answer : Answer) (t : List ℕ) → IsTextOf w text r → Finds w r finding → is_sound finding ≡ false → answer ≡ saying 8 t → t ≡ finding_line finding → JudgesReport told w text answer
judges_unsound told w text r finding answer t is f isnt e g = subst (JudgesReport told w text) (sym (e ∙ ap (saying 8) g)) (unsound r finding is f isnt)

pub judges_sound : (told : Telling) (w : Workload) (text : List ℕ) (r : Report) (finding : Finding) (answer : Answer) (t : List ℕ) → IsTextOf w text r → Finds w r finding → is_sound finding ≡ true → answer ≡ saying 0 t → t ≡ told w r → JudgesReport told w text answer
judges_sound told w text r finding answer t is f right e g = subst (JudgesReport told w text) (sym (e ∙ ap (saying 0) g)) (sound r is (subst (Finds w r) (sound_alone finding right) f))

-- a refusal that was given names the first line that doesn't fit
pub first_unfit : (w : Workload) (text : List ℕ) (line : ℕ) (r : Result Report ReportRefused) → r ≡ Err (Line line) → IfErr r (IsRefusal w text) → IsFirstUnfit w text line
first_unfit w text line r e h = subst (λ (q : Result Report ReportRefused). IfErr q (IsRefusal w text)) e h
