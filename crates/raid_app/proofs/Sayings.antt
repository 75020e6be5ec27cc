-- What is said of texts and workloads, from the facts that the code finds.
use Rattle.std.proofs.Common.{◌≡◌, ℕ, ◌<◌, ◌≤◌, Bool, true, List, length, subst, sym, ap, ◌∙◌, Option, Some, None}
use Rattle.std.specs.Prelude.{Result, Ok, Err, IfOk, IfErr, OnErr}
use Rattle.raid_base.specs.declared.names.NoMemory.{NoMemory}
use Rattle.raid_base.specs.declared.report.Report.{Report}
use Rattle.raid_tokens.specs.declared.fault.Fault.{Fault}
use Rattle.raid_message.specs.declared.letter.Pick.{Pick}
use Rattle.raid_workload.specs.declared.workload.Workload.{Workload}
use Rattle.raid_text.specs.declared.error.Refused.{Refused}
use Rattle.raid_text.specs.declared.error.Refused.TheVariants.{Text}
use Rattle.raid_text.specs.Outcome.{Reads, IsFirstFault, IsFirst}
use Rattle.raid_text.specs.Spelling as texts
use Rattle.raid_generator.specs.Made.{IsMade}
use Rattle.raid_steps.specs.World.{run, report, is_schedule, is_idle}
use Rattle.raid_idle.proofs.Finished.{sound}
use Rattle.raid_command.specs.declared.asked.Command.{Command}
use Rattle.raid_command.specs.declared.asked.Command.TheVariants as commands
use Rattle.raid_command.specs.Asked.{command_of}
use Rattle.raid_io.specs.declared.whole.ReadError.{ReadError}
use Rattle.raid_io.specs.declared.whole.ReadError.TheVariants as errors
use Rattle.raid_io.specs.Whole.{OnFailed}
use Rattle.raid_app.specs.declared.answer.Answer.{Answer}
use Rattle.raid_app.specs.Answer.{limit, saying, silent, told, Runs, idle, Says, long, faulty, reads, HasRead, OfText, read, no_memory}
use Rattle.raid_app.specs.Asked.{Asked}
use Rattle.raid_app.specs.Asked as answers
use Rattle.raid_app.specs.Change.{Change}
use Rattle.raid_app.specs.Lines.{usage_line, too_long_line, fault_line}

-- the report of a run in which no letter is left is said
pub said_report : (brief : Bool) (w : Workload) (schedule : List Pick) (r : Report) (text : List ℕ) → is_schedule w schedule ≡ true → is_idle (run w schedule) ≡ true → r ≡ report w (run w schedule).servers → text ≡ told brief w r →
    Runs brief w (record { status = 0; text = Some text; schedule = schedule })
said_report brief w schedule r text is end e f =
    subst (λ t. Runs brief w (record { status = 0; text = Some t; schedule = schedule })) (sym (f ∙ ap (told brief w) e)) (idle schedule is end (sound w schedule end))

pub says_faulty : (brief : Bool) (text : List ℕ) (line : ℕ) (fault : Fault) (answer : Answer) (t : List ℕ) → length text ≤ limit → IsFirstFault text line fault → answer ≡ saying 3 t → t ≡ fault_line line fault → Says brief text answer
says_faulty brief text line fault answer t b f e g = subst (Says brief text) (sym (e ∙ ap (saying 3) g)) (faulty line fault b f)

pub says_reads : (brief : Bool) (text : List ℕ) (w : Workload) (r : Result Answer NoMemory) → length text ≤ limit → Reads text w → IfOk r (Runs brief w) → IfOk r (Says brief text)
says_reads brief text w (Ok a) b k s = reads w a b k s
says_reads brief text w (Err e) b k s = tt

pub says_long : (brief : Bool) (text : List ℕ) (r : Result Answer NoMemory) → limit < length text → IfOk r (λ a. a ≡ saying 3 too_long_line) → IfOk r (Says brief text)
says_long brief text (Ok a) b e = subst (Says brief text) (sym e) (long b)
says_long brief text (Err e) b h = tt

-- a refusal that was given names the text's first fault
pub first_fault : (text : List ℕ) (line : ℕ) (fault : Fault) (r : Result Workload Refused) → r ≡ Err (Text line fault) → IfErr r (IsFirst text) → IsFirstFault text line fault
first_fault text line fault r e h = subst (λ (q : Result Workload Refused). IfErr q (IsFirst text)) e h

-- what holds where the source failed holds where it did
pub where_failed : {T P : Type 0} (r : Result T ReadError) → r ≡ Err errors.Failed → OnFailed r P → P
where_failed {T} {P} r e h = subst (λ (q : Result T ReadError). OnFailed q P) e h

-- an answer that was found, or silence, where memory was refused
pub settled_read : (most : ℕ) (Of : List ℕ → Answer → Type 0) (source : Change) (text : List ℕ) (found : Result Answer NoMemory) (answer : Answer) → HasRead most source.before source.after text → IfOk found (Of text) →
    IfOk found (λ a. answer ≡ a) → OnErr found (answer ≡ silent 6) → OfText most Of source answer
settled_read most Of source text (Ok a) answer h s f e = subst (OfText most Of source) (sym f) (read text a h s)
settled_read most Of source text (Err x) answer h s f e = subst (OfText most Of source) (sym e) no_memory

pub settled_usage : (words : List (List ℕ)) (source : Change) (found : Result Answer NoMemory) (answer : Answer) → command_of words ≡ None → source.after ≡ source.before → IfOk found (λ a. a ≡ saying 2 usage_line) →
    IfOk found (λ a. answer ≡ a) → OnErr found (answer ≡ silent 6) → Asked words source answer
settled_usage words source (Ok a) answer none same s f e = subst (Asked words source) (sym (f ∙ s)) (answers.usage none same)
settled_usage words source (Err x) answer none same s f e = subst (Asked words source) (sym e) (answers.no_memory same)

pub settled_made : (words : List (List ℕ)) (source : Change) (seed count : ℕ) (found : Result Answer NoMemory) (answer : Answer) → command_of words ≡ Some (commands.Make seed count) → source.after ≡ source.before →
    IfOk found (λ a. (w : Workload) × IsMade seed count w × (a ≡ saying 0 (texts.print_of w))) →
    IfOk found (λ a. answer ≡ a) → OnErr found (answer ≡ silent 6) → Asked words source answer
settled_made words source seed count (Ok a) answer asked same s f e = subst (Asked words source) (sym (f ∙ s.2)) (answers.made seed count s.0 asked same s.1)
settled_made words source seed count (Err x) answer asked same s f e = subst (Asked words source) (sym e) (answers.no_memory same)

-- the command that was found is what the words ask for
pub found_command : (words : List (List ℕ)) (found : Result (Option Command) NoMemory) (command : Option Command) → found ≡ Ok command → IfOk found (λ c. c ≡ command_of words) → command_of words ≡ command
found_command words found command e h = sym (subst (λ (q : Result (Option Command) NoMemory). IfOk q (λ c. c ≡ command_of words)) e h)
