-- An ask that a letter makes is among those that are made for its transaction.
use Rattle.std.proofs.Common.{◌≡◌, ◌⊎◌, inl, inr, List, [], ◌∷◌, ◌++◌, refl}
use Rattle.std.specs.List.{AllByRecursion}
use Rattle.raid_base.specs.declared.names.Txn.{Txn}
use Rattle.raid_message.specs.declared.letter.Message.{Message}
use Rattle.raid_message.specs.declared.letter.Letter.{Letter}
use Rattle.raid_moves.proofs.Places.{all_weaken}
use Rattle.raid_layers.specs.Asks.{ask_of, asks_of}
use Rattle.raid_layers.proofs.Tokens.{IsAskOf, AsksFor, asks_not, asks_it, asks_for}

-- the message is one of the list
abbrev pub Among : Message → List Message → Type 0
Among m [] = ⊥
Among m (x ∷ xs) = (m ≡ x) ⊎ Among m xs

pub among_one : (m x : Message) → Among m (x ∷ []) → m ≡ x
among_one m x (inl is) = is
among_one m x (inr none) = absurd none

among_right : (m : Message) (xs ys : List Message) → Among m ys → Among m (xs ++ ys)
among_right m [] ys a = a
among_right m (x ∷ xs) ys a = inr (among_right m xs ys a)

-- the letter's message, if it asks for a transaction, is among what these letters ask for it
abbrev pub IsAskAmong : List Letter → Letter → Type 0
IsAskAmong ls l = (t : Txn) → IsAskOf t l.message → Among l.message (asks_of t ls)

front_among : (l : Letter) (ls : List Letter) → IsAskAmong (l ∷ ls) l
front_among l ls t asks = go (asks_for t l.message)
  where
    go : {xs : List Message} → AsksFor t l.message xs → Among l.message (xs ++ asks_of t ls)
    go (asks_not n) = absurd (n asks)
    go (asks_it h) = inl refl

pub each_among : (ls : List Letter) → AllByRecursion (IsAskAmong ls) ls
each_among [] = tt
each_among (l ∷ ls) = (front_among l ls, all_weaken (IsAskAmong ls) (IsAskAmong (l ∷ ls)) ls (λ k h t asks. among_right k.message (ask_of t l.message) (asks_of t ls) (h t asks)) (each_among ls))
