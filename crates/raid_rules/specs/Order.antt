-- When a view is in order, when a question fits it, and when an entry may be noted.
use Rattle.std.specs.Prelude.{◌≡◌, ℕ, ◌<◌, Bool, true, false, ◌||◌, List, [], ◌∷◌, ◌++◌, All, AllPairs, ⊤}
use Rattle.std.specs.List.{list_any}
use Rattle.std.specs.Option.{option_map_or}
use Rattle.raid_base.specs.declared.names.Txn.{Txn}
use Rattle.raid_base.specs.declared.entry.Entry.{Entry}
use Rattle.raid_base.specs.declared.entry.Entry.TheVariants.{Read, Commit}
use Rattle.raid_base.specs.declared.entry.Noted.{Noted}
use Rattle.raid_base.specs.declared.verdict.Kind.{Kind}
use Rattle.raid_base.specs.declared.verdict.Verdict.TheVariants.{Grant}
use Rattle.raid_base.specs.Names.{is_txn}
use Rattle.raid_rules.specs.Entries.{is_begin_of, is_commit, named}
use Rattle.raid_rules.specs.History.{has_begun, has_ended}
use Rattle.raid_rules.specs.Verdicts.{Question, reading, writing, asker, stamp_of, as_noted, verdict_of}

-- the entry is one of the transaction's
abbrev pub is_of : Txn → Entry → Bool
is_of t e = option_map_or (is_txn t) (named e) false

-- the transaction has an entry in the view
abbrev pub is_seen : List Noted → Txn → Bool
is_seen view t = list_any (λ n. is_of t n.entry) view

-- where both entries are of the transaction, they carry one stamp, and the later one is no Begin
abbrev pub AgreesOn : Txn → Noted → Noted → Type 0
AgreesOn t a b = is_of t a.entry ≡ true → is_of t b.entry ≡ true → (a.stamp ≡ b.stamp) × (is_begin_of t b.entry ≡ false)

-- the stamp of a Begin is its number
abbrev pub BeginsAtStamp : Txn → Noted → Type 0
BeginsAtStamp t n = is_begin_of t n.entry ≡ true → n.stamp ≡ n.at

-- a view in order; its numbers are counted from 1
pub record IsInOrder (view : List Noted) : Type 0 where
  pub counted : All (λ n. 0 < n.at) view
  pub ascends : AllPairs (λ a b. a.at < b.at) view
  pub agrees : (t : Txn) → AllPairs (AgreesOn t) view
  pub begins : (t : Txn) → All (BeginsAtStamp t) view
  pub older : (t : Txn) → has_begun view t ≡ false →
      All (λ n. is_of t n.entry ≡ true → All (λ c. is_commit (λ u request. true) c.entry ≡ true → n.stamp < c.at) view) view

-- each transaction in the view has its Begin there, as in a whole history
abbrev pub IsWhole : List Noted → Type 0
IsWhole view = (t : Txn) → is_seen view t ≡ true → has_begun view t ≡ true

-- the entry may come next in a whole view
pub record Follows (view : List Noted) (n : Noted) : Type 0 where
  pub counted : 0 < n.at
  pub above : All (λ m. m.at < n.at) view
  pub agrees : (t : Txn) → All (λ m. AgreesOn t m n) view
  pub begins : (t : Txn) → BeginsAtStamp t n
  pub begun : (t : Txn) → is_of t n.entry ≡ true → (has_begun view t || is_begin_of t n.entry) ≡ true

-- the transaction has begun with this stamp, and goes on
pub record RunsWith (view : List Noted) (t : Txn) (stamp : ℕ) : Type 0 where
  pub begun : has_begun view t ≡ true
  pub goes_on : has_ended view t ≡ false
  pub stamped : All (λ m. is_of t m.entry ≡ true → m.stamp ≡ stamp) view

-- the question fits the view: the asker goes on there, and the view is in order also with the action added under each larger number
pub record Fits (view : List Noted) (q : Question) : Type 0 where
  pub goes_on : has_ended view (asker q) ≡ false
  pub in_order : (at : ℕ) → All (λ n. n.at < at) view → stamp_of q < at → IsInOrder (view ++ as_noted at q ∷ [])

-- the question was granted to a transaction that goes on
abbrev pub Grants : Kind → List Noted → Question → Type 0
Grants kind view q = (has_ended view (asker q) ≡ false) × (verdict_of kind view q ≡ Grant)

-- the entry, where it is an action, was granted
abbrev pub IsGranted : Kind → List Noted → ℕ → Entry → Type 0
IsGranted kind view k (Read t x site) = Grants kind view (reading t k x)
IsGranted kind view k (Commit t request applied) = Grants kind view (writing t k request.writes)
IsGranted kind view k other = ⊤

-- the entry may be noted after the view
pub record MayNote (kind : Kind) (view : List Noted) (n : Noted) : Type 0 where
  pub in_order : IsInOrder (view ++ n ∷ [])
  pub granted : IsGranted kind view n.stamp n.entry
