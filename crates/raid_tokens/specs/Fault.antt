-- The number and the word of each fault.
use Rattle.std.specs.Prelude.{ℕ, List, codes}
use Rattle.raid_tokens.specs.declared.fault.Fault.{Fault}
use Rattle.raid_tokens.specs.declared.fault.Fault.TheVariants.{First, Token, Range, Site, Item, Twice, NoCopy, Word, Many, Generic, Same, Order, State, End}

abbrev pub number : Fault → ℕ
number First = 1
number Token = 2
number Range = 3
number Site = 4
number Item = 5
number Twice = 6
number NoCopy = 7
number Word = 8
number Many = 9
number Generic = 10
number Same = 11
number Order = 12
number State = 13
number End = 14

abbrev pub word : Fault → List ℕ
word First = codes "first"
word Token = codes "token"
word Range = codes "range"
word Site = codes "site"
word Item = codes "item"
word Twice = codes "twice"
word NoCopy = codes "nocopy"
word Word = codes "word"
word Many = codes "many"
word Generic = codes "generic"
word Same = codes "same"
word Order = codes "order"
word State = codes "state"
word End = codes "end"
