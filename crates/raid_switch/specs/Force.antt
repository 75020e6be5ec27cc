-- Controllers in force, each with its kind and a view that it stands for, and what they say together.
use Rattle.std.specs.Prelude.{◌≡◌, ℤ, Bool, true, false, not, ◌&&◌, List, [], ◌∷◌, ◌++◌, filter, fold, map, option_map, option_to_list, Option, ⊤}
use Rattle.std.specs.List.{list_any}
use Rattle.raid_base.specs.declared.names.Txn.{Txn}
use Rattle.raid_base.specs.declared.names.Item.{Item}
use Rattle.raid_base.specs.declared.entry.Entry.{Entry}
use Rattle.raid_base.specs.declared.entry.Entry.TheVariants.{SwitchOn, SwitchEnd}
use Rattle.raid_base.specs.declared.entry.Noted.{Noted}
use Rattle.raid_base.specs.declared.verdict.Kind.{Kind}
use Rattle.raid_base.specs.declared.verdict.Verdict.{Verdict}
use Rattle.raid_base.specs.declared.verdict.Verdict.TheVariants.{Grant}
use Rattle.raid_base.specs.Meet.{meeting}
use Rattle.raid_rules.specs.Order.{is_of}
use Rattle.raid_rules.specs.Verdicts.{Question, verdict_of, is_blocked_by}
use Rattle.raid_legal.specs.Answers.{is_lock}

-- the controllers, in their order, have these kinds and stand for these views
abbrev pub Each : {C : Type 0} → (C → Kind) → (C → List Noted → Type 0) → List C → List (Kind × List Noted) → Type 0
Each kind_of stands [] [] = ⊤
Each kind_of stands (b ∷ bs) (c ∷ cs) = (kind_of b ≡ c.0) × stands b c.1 × Each kind_of stands bs cs
Each kind_of stands [] (c ∷ cs) = ⊥
Each kind_of stands (b ∷ bs) [] = ⊥

-- the same of one controller, and of a second where there is one
abbrev pub AreInForce : {C : Type 0} → (C → Kind) → (C → List Noted → Type 0) → C → Option C → List (Kind × List Noted) → Type 0
AreInForce kind_of stands first second cs = Each kind_of stands (first ∷ option_to_list second) cs

-- what is so of one, and of the second
abbrev pub of_each : {C X : Type 0} → (C → X) → C → Option C → X × Option X
of_each f first second = (f first, option_map f second)

-- what they say of an action: the meeting of their verdicts, the first one's first
abbrev pub verdict_by : List (Kind × List Noted) → Question → Verdict
verdict_by cs q = fold (λ v c. meeting v (verdict_of c.0 c.1 q)) Grant cs

-- under one of them that locks, a read of u keeps t from making these writes
abbrev pub blocks_by : List (Kind × List Noted) → Txn → Txn → List (Item × ℤ) → Bool
blocks_by cs u t writes = list_any (λ c. is_lock c.0 && is_blocked_by u c.1 t writes) cs

-- each view with the entry added
abbrev pub grown : Noted → List (Kind × List Noted) → List (Kind × List Noted)
grown n cs = map (λ c. (c.0, c.1 ++ n ∷ [])) cs

-- the entries that are of none of these transactions
abbrev pub without : List Txn → List Noted → List Noted
without off view = filter (λ n. not (list_any (λ t. is_of t n.entry) off)) view

-- the entry is neither the start nor the end of a switch
abbrev pub turns_nothing : Entry → Bool
turns_nothing (SwitchOn k kind method) = false
turns_nothing (SwitchEnd k) = false
turns_nothing other = true
