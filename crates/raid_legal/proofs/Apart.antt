-- How two values are told apart by computation: each is written as a list of numbers, and the lists differ.
use Rattle.std.specs.Prelude.{◌≡◌, ℕ, ℤ, pos, negsuc, true, false, List, [], ◌∷◌, ◌++◌, length, flat_map, bytes_eq, Option, Some, None}
use Rattle.std.proofs.Common.{sym, subst, rules, ◌∙◌}
use Rattle.std.proofs.lemmas.Bool.{true≢false}
use Rattle.raid_base.specs.declared.names.Item.{Item}
use Rattle.raid_base.specs.declared.names.Txn.{Txn}
use Rattle.raid_base.specs.declared.names.Site.{Site}
use Rattle.raid_base.specs.declared.request.Request.{Request}
use Rattle.raid_base.specs.declared.entry.Act.{Act}
use Rattle.raid_base.specs.declared.entry.Act.TheVariants as acts
use Rattle.raid_base.specs.declared.entry.Cause.{Cause}
use Rattle.raid_base.specs.declared.entry.Cause.TheVariants as causes
use Rattle.raid_base.specs.declared.entry.Entry.{Entry}
use Rattle.raid_base.specs.declared.entry.Entry.TheVariants as entries
use Rattle.raid_base.specs.declared.verdict.Kind.{Kind}
use Rattle.raid_base.specs.declared.verdict.Kind.TheVariants as kinds
use Rattle.raid_base.specs.declared.verdict.Method.{Method}
use Rattle.raid_base.specs.declared.verdict.Method.TheVariants as methods
use Rattle.raid_program.specs.declared.program.Want.{Want}
use Rattle.raid_program.specs.declared.program.Want.TheVariants as wants

-- a number: its sign, then how much
abbrev pub number_code : ℤ → List ℕ
number_code (pos n) = 0 ∷ n ∷ []
number_code (negsuc n) = 1 ∷ n ∷ []

-- a list of numbers: how many, then they
abbrev pub list_code : List ℕ → List ℕ
list_code ns = length ns ∷ ns

-- items with values
abbrev pub pairs_code : List (Item × ℤ) → List ℕ
pairs_code ps = list_code (flat_map (λ p. p.0.0 ∷ number_code p.1) ps)

-- a list of sites
abbrev pub sites_code : List Site → List ℕ
sites_code ss = list_code (flat_map (λ s. s.0 ∷ []) ss)

-- a site
abbrev pub site_code : Site → List ℕ
site_code s = s.0 ∷ []

-- a number
abbrev pub count_code : ℕ → List ℕ
count_code n = n ∷ []

-- a list of transactions
abbrev pub txns_code : List Txn → List ℕ
txns_code ts = list_code (flat_map (λ t. t.0 ∷ []) ts)

-- a request: its reads, writes and vector
abbrev pub request_code : Request → List ℕ
request_code r = pairs_code r.reads ++ pairs_code r.writes ++ list_code r.under

-- what an aborted transaction wanted
abbrev pub act_code : Act → List ℕ
act_code acts.Nothing = 0 ∷ []
act_code (acts.Ended reads) = 1 ∷ pairs_code reads
act_code (acts.Read item) = 2 ∷ item.0 ∷ []
act_code (acts.Commit request) = 3 ∷ request_code request

-- a cause of abort
abbrev pub cause_code : Cause → List ℕ
cause_code causes.Own = 0 ∷ []
cause_code causes.Overflow = 1 ∷ []
cause_code causes.Late = 2 ∷ []
cause_code causes.Invalid = 3 ∷ []
cause_code causes.Cycle = 4 ∷ []
cause_code causes.Deadlock = 5 ∷ []
cause_code (causes.SwitchOff k) = 6 ∷ k ∷ []
cause_code causes.HomeDown = 7 ∷ []
cause_code (causes.Stale v) = 8 ∷ list_code v
cause_code causes.NoCopy = 9 ∷ []

-- a kind
abbrev pub kind_code : Kind → ℕ
kind_code kinds.Lock = 0
kind_code kinds.Stamp = 1
kind_code kinds.Valid = 2
kind_code kinds.Graph = 3

-- a method
abbrev pub method_code : Method → ℕ
method_code methods.Generic = 0
method_code methods.Convert = 1
method_code methods.Suffix = 2

-- an entry: its sort, then its fields
abbrev pub entry_code : Entry → List ℕ
entry_code (entries.Begin t s) = 0 ∷ t.0 ∷ s.0 ∷ []
entry_code (entries.Read t item s) = 1 ∷ t.0 ∷ item.0 ∷ s.0 ∷ []
entry_code (entries.Wait t request) = 2 ∷ t.0 ∷ request_code request
entry_code (entries.Commit t request applied) = 3 ∷ t.0 ∷ request_code request ++ sites_code applied
entry_code (entries.Abort t cause act) = 4 ∷ t.0 ∷ cause_code cause ++ act_code act
entry_code (entries.Ack t s) = 5 ∷ t.0 ∷ s.0 ∷ []
entry_code (entries.SwitchOn k kind method) = 6 ∷ k ∷ kind_code kind ∷ method_code method ∷ []
entry_code (entries.SwitchEnd k) = 7 ∷ k ∷ []
entry_code (entries.Down s) = 8 ∷ s.0 ∷ []
entry_code (entries.Up s session) = 9 ∷ s.0 ∷ session ∷ []
entry_code (entries.Clear s item version) = 10 ∷ s.0 ∷ item.0 ∷ version ∷ []

-- an answer, if there is one
abbrev pub answer_code : Option Entry → List ℕ
answer_code None = []
answer_code (Some e) = entry_code e

-- what a program wants
abbrev pub want_code : Want → List ℕ
want_code (wants.Read item) = 0 ∷ item.0 ∷ []
want_code wants.Done = 1 ∷ []
want_code wants.Own = 2 ∷ []
want_code wants.Overflow = 3 ∷ []

-- a list of numbers equals itself
same_bytes : (ns : List ℕ) → bytes_eq ns ns ≡ true
same_bytes ns = search rules

-- values whose codes differ are not the same
pub apart : {A : Type 0} (code : A → List ℕ) (a b : A) → bytes_eq (code a) (code b) ≡ false → a ≡ b → ⊥
apart code a b differ same = true≢false (sym (subst (λ c. bytes_eq (code a) (code c) ≡ true) same (same_bytes (code a))) ∙ differ)

-- a test that fails doesn't hold
pub untrue : false ≡ true → ⊥
untrue q = true≢false (sym q)
