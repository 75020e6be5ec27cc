-- The one text that is written for a workload.
use Rattle.std.specs.Prelude.{ℕ, ◌==◌, List, [], ◌∷◌, ◌++◌, map, slice_get, codes, if◌then◌else◌, Bool, true, false}
use Rattle.std.specs.List.{flat_map}
use Rattle.std.specs.Option.{option_map_or}
use Rattle.std.specs.Fmt.{decimal, signed_decimal}
use Rattle.raid_base.specs.declared.names.Item.{Item}
use Rattle.raid_base.specs.declared.names.Site.{Site}
use Rattle.raid_base.specs.declared.verdict.Kind.{Kind}
use Rattle.raid_base.specs.declared.verdict.Kind.TheVariants.{Lock, Stamp, Valid, Graph}
use Rattle.raid_base.specs.declared.verdict.Structure.{Structure}
use Rattle.raid_base.specs.declared.verdict.Structure.TheVariants as structures
use Rattle.raid_base.specs.declared.verdict.Method.{Method}
use Rattle.raid_base.specs.declared.verdict.Method.TheVariants as methods
use Rattle.raid_program.specs.declared.program.Term.{Term}
use Rattle.raid_program.specs.declared.program.Expr.{Expr}
use Rattle.raid_program.specs.declared.program.Statement.{Statement}
use Rattle.raid_program.specs.declared.program.Statement.TheVariants as statements
use Rattle.raid_scan.specs.Words.{Word, text_of}
use Rattle.raid_tokens.specs.Spelled.{term_word, register_word}
use Rattle.raid_workload.specs.declared.workload.ItemLine.{ItemLine}
use Rattle.raid_workload.specs.declared.workload.Switch.{Switch}
use Rattle.raid_workload.specs.declared.workload.Event.{Event}
use Rattle.raid_workload.specs.declared.workload.Homed.{Homed}
use Rattle.raid_workload.specs.declared.workload.Workload.{Workload}

abbrev pub kind_word : Kind → Word
kind_word Lock = codes "lock"
kind_word Stamp = codes "stamp"
kind_word Valid = codes "valid"
kind_word Graph = codes "graph"

abbrev pub structure_word : Structure → Word
structure_word structures.Native = codes "native"
structure_word structures.GenericState = codes "generic"

abbrev pub method_word : Method → Word
method_word methods.Generic = codes "generic"
method_word methods.Convert = codes "convert"
method_word methods.Suffix = codes "suffix"

abbrev pub version_words : ℕ → List Word
version_words version = codes "workload" ∷ decimal version ∷ []

abbrev pub sites_words : ℕ → ℕ → List Word
sites_words sites together = codes "sites" ∷ decimal sites ∷ codes "together" ∷ decimal together ∷ []

-- version 2 says how many restarts there are
abbrev pub restarts_lines : ℕ → ℕ → List (List Word)
restarts_lines version restarts = if version == 2 then (codes "restarts" ∷ decimal restarts ∷ []) ∷ [] else []

abbrev pub site_word : Site → Word
site_word s = decimal s.0

abbrev pub item_words : ItemLine → List Word
item_words line = codes "item" ∷ line.name ∷ signed_decimal line.value ∷ codes "at" ∷ map site_word line.holders

abbrev pub open_words : Kind → Structure → List Word
open_words kind structure = codes "open" ∷ kind_word kind ∷ structure_word structure ∷ []

abbrev pub switch_words : Switch → List Word
switch_words switch = codes "switch" ∷ kind_word switch.kind ∷ codes "by" ∷ method_word switch.method ∷ codes "after" ∷ decimal switch.trigger ∷ []

abbrev pub event_words : Event → List Word
event_words event = (if event.stop then codes "stop" else codes "return") ∷ site_word event.site ∷ codes "after" ∷ decimal event.trigger ∷ []

abbrev pub sign_word : Bool → Word
sign_word true = codes "+"
sign_word false = codes "-"

abbrev pub steps_words : List (Bool × Term) → List Word
steps_words [] = []
steps_words (step ∷ steps) = sign_word step.0 ∷ term_word step.1 ∷ steps_words steps

abbrev pub expr_words : Expr → List Word
expr_words expr = term_word expr.first ∷ steps_words expr.rest

-- an item's name
abbrev pub name_of : List ItemLine → Item → Word
name_of items x = option_map_or (λ (line : ItemLine). line.name) (slice_get items x.0) []

abbrev pub statement_words : List ItemLine → Statement → List Word
statement_words items (statements.Read x reg) = codes "read" ∷ name_of items x ∷ register_word reg ∷ []
statement_words items (statements.Write x expr) = codes "write" ∷ name_of items x ∷ expr_words expr
statement_words items (statements.StopIf left right) = codes "stop" ∷ codes "if" ∷ (expr_words left ++ (codes "<" ∷ expr_words right))

abbrev pub program_words : Site → List Word
program_words home = codes "program" ∷ site_word home ∷ []

abbrev pub program_lines : List ItemLine → Homed → List (List Word)
program_lines items homed = program_words homed.home ∷ (map (statement_words items) homed.program ++ ((codes "end" ∷ []) ∷ []))

-- the lines of a workload, each as its words
unfoldable pub spelling : Workload → List (List Word)
spelling w =
    version_words w.version ∷ sites_words w.sites w.together ∷ (restarts_lines w.version w.restarts ++
    (map item_words w.items ++ (open_words w.kind w.structure ∷
    (map switch_words w.switches ++ (map event_words w.events ++ (flat_map (program_lines w.items) w.programs ++ ((codes "done" ∷ []) ∷ [])))))))

-- the text: one space between any two words, and a line feed behind each line
abbrev pub print_of : Workload → List ℕ
print_of w = text_of (spelling w)

-- ---- the same, as it is put down piece by piece

abbrev pub spaced : List Word → List ℕ
spaced words = flat_map (λ word. 0x20 ∷ word) words

abbrev pub line_text : List Word → List ℕ
line_text [] = 0x0a ∷ []
line_text (word ∷ words) = word ++ (spaced words ++ (0x0a ∷ []))
