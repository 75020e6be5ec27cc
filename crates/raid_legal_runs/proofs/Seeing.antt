-- What a transaction has seen changes only by its Reads, and only for the item that is read.
use Rattle.std.proofs.Common.{◌≡◌, ℤ, Bool, true, false, ◌||◌, List, [], ◌∷◌, ◌++◌, Option, Some, None, if◌then◌else◌, subst, ap, ◌∙◌, refl}
use Rattle.std.specs.List.{list_any}
use Rattle.std.proofs.lemmas.Bool.{true≢false}
use Rattle.raid_base.specs.declared.names.Txn.{Txn}
use Rattle.raid_base.specs.declared.names.Item.{Item}
use Rattle.raid_base.specs.declared.entry.Entry.{Entry}
use Rattle.raid_base.specs.declared.entry.Noted.{Noted}
use Rattle.raid_program.specs.declared.program.Want.TheVariants as wants
use Rattle.raid_program.specs.Run.{Answers, Outcome, outcome_of}
use Rattle.raid_program.proofs.Tables.{on_table}
use Rattle.raid_workload.specs.declared.workload.Workload.{Workload}
use Rattle.raid_workload.specs.Parts.{program}
use Rattle.raid_rules.specs.Entries.{reads_item}
use Rattle.raid_rules.specs.History.{add, next, fold_seeing}
use Rattle.raid_rules.proofs.Push.{fold_seeing_push}
use Rattle.raid_legal.specs.Seen.{value_of, seen, outcome}
use Rattle.raid_made.specs.Made.{made_of}
use Rattle.raid_layers.specs.Asks.{has_read}
use Rattle.raid_layers.proofs.Histories.{any_same}
use Rattle.raid_runs.specs.Asked.{IsSeen}

pub untrue : (b : Bool) → (b ≡ true → ⊥) → b ≡ false
untrue true n = absurd (n refl)
untrue false n = refl

-- a fold that is kept by all entries
pub seen_add : (w : Workload) (p : List Noted) (e : Entry) (t : Txn) (x : Item) → reads_item t x e ≡ false → seen w (add p e) t x ≡ seen w p t x
seen_add w p e t x f =
    fold_seeing_push (λ before v n. if reads_item t x n.entry then Some (value_of w before x) else v) None p (next p e)
    ∙ ap (λ b. if b then Some (value_of w p x) else seen w p t x) f

-- the transaction has seen, and read, in the second history what it had in the first
pub record SeesSame (w : Workload) (t : Txn) (p q : List Noted) : Type 0 where
  pub seen : (x : Item) → seen w q t x ≡ seen w p t x
  pub reads : (x : Item) → has_read q t x ≡ has_read p t x

pub same_on : (w : Workload) (t : Txn) (p q r : List Noted) → SeesSame w t p q → SeesSame w t q r → SeesSame w t p r
same_on w t p q r a b = record { seen = λ x. b.seen x ∙ a.seen x; reads = λ x. b.reads x ∙ a.reads x }

pub same_add : (w : Workload) (t : Txn) (p : List Noted) (e : Entry) → ((x : Item) → reads_item t x e ≡ false) → SeesSame w t p (add p e)
same_add w t p e none = record {
  seen = λ x. seen_add w p e t x (none x);
  reads = λ x. any_same (λ n. reads_item t x n.entry) p (next p e) (none x);
}

-- so its program comes to the same
pub same_outcome : (w : Workload) (t : Txn) (p q : List Noted) → SeesSame w t p q → outcome w q t ≡ outcome w p t
same_outcome w t p q a =
    let both : seen w q t ≡ seen w p t = λ i x. a.seen x i in
    ap (λ (s : Answers). outcome_of (program w t) s) both

-- an item that wasn't read wasn't seen
unseen_from : (w : Workload) (t : Txn) (x : Item) (before ns : List Noted) → list_any (λ (n : Noted). reads_item t x n.entry) ns ≡ false →
    fold_seeing (λ before v n. if reads_item t x n.entry then Some (value_of w before x) else v) before None ns ≡ None
unseen_from w t x before [] q = refl
unseen_from w t x before (n ∷ ns) q = go (reads_item t x n.entry) q (unseen_from w t x (before ++ n ∷ []) ns)
  where
    step : List Noted → Option ℤ → Noted → Option ℤ
    step = λ before v n. if reads_item t x n.entry then Some (value_of w before x) else v

    go : (b : Bool) → (b || list_any (λ (n : Noted). reads_item t x n.entry) ns) ≡ false →
        (list_any (λ (n : Noted). reads_item t x n.entry) ns ≡ false → fold_seeing step (before ++ n ∷ []) None ns ≡ None) → fold_seeing step (before ++ n ∷ []) (if b then Some (value_of w before x) else None) ns ≡ None
    go true q rest = absurd (true≢false q)
    go false q rest = rest q

pub unseen : (w : Workload) (p : List Noted) (t : Txn) (x : Item) → has_read p t x ≡ false → seen w p t x ≡ None
unseen w p t x q = unseen_from w t x [] p q

-- a program that was answered what was seen, and wants an item that wasn't read, wants it on what was seen
pub wants_too : (w : Workload) (p : List Noted) (t : Txn) (x : Item) (answers : List (Item × ℤ)) → (made_of w t answers).reads ≡ answers → (made_of w t answers).end ≡ wants.Read x → IsSeen w p t answers → has_read p t x ≡ false →
    (outcome w p t).end ≡ wants.Read x
wants_too w p t x answers all wish same unread =
    let o = made_of w t answers in
    let wished : (y : Item) → o.end ≡ wants.Read y → seen w p t y ≡ None = λ y e. (let is : x ≡ y = cc (wish, e) in subst (λ z. seen w p t z ≡ None) is (unseen w p t x unread)) in
    let is : outcome w p t ≡ o = on_table (program w t) answers (seen w p t) o refl all same wished in
    ap (λ (z : Outcome). z.end) is ∙ wish
