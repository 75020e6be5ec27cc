-- Who may note an entry may add it to a graph.
use Rattle.std.proofs.Common.{◌≡◌, ℕ, ◌<◌, Bool, true, false, ◌||◌, List, [], ◌∷◌, ◌++◌, length, get_or, arith, refl, sym, subst, length-append}
use Rattle.std.specs.List.{All, AllPairs}
use Rattle.std.proofs.lemmas.Bool.{true≢false}
use Rattle.std.proofs.lemmas.List.{get_or_append_left}
use Rattle.std.proofs.Math.Seq.{get_or-append_seam}
use Rattle.raid_base.specs.declared.names.Txn.{Txn}
use Rattle.raid_base.specs.declared.entry.Entry.{Entry}
use Rattle.raid_base.specs.declared.entry.Entry.TheVariants.{Read, Commit}
use Rattle.raid_base.specs.declared.entry.Noted.{Noted}
use Rattle.raid_base.specs.declared.verdict.Kind.{Kind}
use Rattle.raid_rules.specs.History.{has_ended}
use Rattle.raid_rules.specs.Last.{acts_by}
use Rattle.raid_rules.specs.Order.{MayNote, Follows, AgreesOn, IsGranted}
use Rattle.raid_rules.proofs.Push.{same_txn}
use Rattle.raid_conflict.specs.Listed.{Extends}

-- what holds of each pair of a longer list holds of each of the list with the last
pub before_last : {X : Type 0} (R : X → X → Type 0) (xs : List X) (y : X) → AllPairs R (xs ++ y ∷ []) → All (λ x. R x y) xs
before_last R xs y h k d l =
    let more = length-append xs (y ∷ []) in
    subst (λ z. R z y) (get_or_append_left xs (y ∷ []) d k l)
    (subst (λ z. R (get_or (xs ++ y ∷ []) k d) z) (get_or-append_seam xs y [] d)
    (h k (length xs) d l (omega (arith, more))))

left : (b : Bool) → (b || false) ≡ true → b ≡ true
left true e = refl
left false e = e

granted_goes : (kind : Kind) (view : List Noted) (k : ℕ) (e : Entry) → IsGranted kind view k e → (t : Txn) → acts_by t e ≡ true → has_ended view t ≡ false
granted_goes kind view k (Read u x site) g t a = subst (λ z. has_ended view z ≡ false) (same_txn u t (left _ a)) g.0
granted_goes kind view k (Commit u request applied) g t a = subst (λ z. has_ended view z ≡ false) (same_txn u t a) g.0
granted_goes kind view k other g t a = absurd (true≢false (sym a))

pub may_extend : (kind : Kind) (view : List Noted) (n : Noted) → MayNote kind view n → Extends view n
may_extend kind view n m = record {
  above = before_last (λ a b. a.at < b.at) view n m.in_order.ascends;
  stamped = λ t here k d l own. (before_last (AgreesOn t) view n (m.in_order.agrees t) k d l own here).0;
  goes_on = granted_goes kind view n.stamp n.entry m.granted;
}

pub follows_extends : (view : List Noted) (n : Noted) → Follows view n → ((t : Txn) → acts_by t n.entry ≡ true → has_ended view t ≡ false) → Extends view n
follows_extends view n f goes = record {
  above = f.above;
  stamped = λ t here k d l own. (f.agrees t k d l own here).0;
  goes_on = goes;
}
