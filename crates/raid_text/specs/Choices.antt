-- Words of which a line has one of a few.
use Rattle.std.specs.Prelude.{if◌then◌else◌, List, [], ◌∷◌, Option, Some, None, Result, Ok, Err, codes, bytes_eq}
use Rattle.raid_scan.specs.Words.{Word}
use Rattle.raid_tokens.specs.declared.fault.Fault.{Fault}
use Rattle.raid_tokens.specs.declared.fault.Fault.TheVariants as faults
use Rattle.raid_base.specs.declared.verdict.Kind.{Kind}
use Rattle.raid_base.specs.declared.verdict.Kind.TheVariants.{Lock, Stamp, Valid, Graph}
use Rattle.raid_base.specs.declared.verdict.Structure.{Structure}
use Rattle.raid_base.specs.declared.verdict.Structure.TheVariants as structures
use Rattle.raid_base.specs.declared.verdict.Method.{Method}
use Rattle.raid_base.specs.declared.verdict.Method.TheVariants as methods

unfoldable pub kind_of : Word → Option Kind
kind_of word =
    if bytes_eq word (codes "lock") then Some Lock else
    (if bytes_eq word (codes "stamp") then Some Stamp else
    (if bytes_eq word (codes "valid") then Some Valid else
    (if bytes_eq word (codes "graph") then Some Graph else None)))

unfoldable pub structure_of : Word → Option Structure
structure_of word =
    if bytes_eq word (codes "native") then Some structures.Native else
    (if bytes_eq word (codes "generic") then Some structures.GenericState else None)

unfoldable pub method_of : Word → Option Method
method_of word =
    if bytes_eq word (codes "generic") then Some methods.Generic else
    (if bytes_eq word (codes "convert") then Some methods.Convert else
    (if bytes_eq word (codes "suffix") then Some methods.Suffix else None))

-- what was chosen, and the words behind it; a word that is none of them is fault `Word`
abbrev pub chosen : {A : Type 0} → Option A → List Word → Result (A × List Word) Fault
chosen None words = Err faults.Word
chosen (Some x) words = Ok (x, words)

unfoldable pub kind_at : List Word → Result (Kind × List Word) Fault
kind_at [] = Err faults.Token
kind_at (word ∷ words) = chosen (kind_of word) words

unfoldable pub structure_at : List Word → Result (Structure × List Word) Fault
structure_at [] = Err faults.Token
structure_at (word ∷ words) = chosen (structure_of word) words

unfoldable pub method_at : List Word → Result (Method × List Word) Fault
method_at [] = Err faults.Token
method_at (word ∷ words) = chosen (method_of word) words
