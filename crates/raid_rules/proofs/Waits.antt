-- A commit has to wait exactly where somebody blocks it.
use Rattle.std.proofs.Common.{◌≡◌, ◌↔◌, ℤ, Bool, true, false, ◌&&◌, List, [], ◌∷◌, ap, sym, subst, refl}
use Rattle.std.specs.List.{list_any}
use Rattle.std.proofs.lemmas.Bool.{true≢false, and_parts, and_from}
use Rattle.raid_base.specs.declared.names.Txn.{Txn}
use Rattle.raid_base.specs.declared.names.Item.{Item}
use Rattle.raid_base.specs.declared.entry.Entry.{Entry}
use Rattle.raid_base.specs.declared.entry.Entry.TheVariants.{Read}
use Rattle.raid_base.specs.declared.entry.Noted.{Noted}
use Rattle.raid_base.specs.Names.{is_txn, is_item}
use Rattle.raid_rules.specs.Verdicts.{is_in_the_way, is_read_by, is_held, is_blocked_by}
use Rattle.raid_rules.proofs.Push.{same_txn}
use Rattle.raid_rules.proofs.Listing.{any_find}
use Rattle.raid_rules.proofs.Txns.{eq_self}

-- whose Read it is
reader_of : (test : Txn → Bool) (x : Item) (e : Entry) → is_read_by test x e ≡ true → (t : Txn) × (test t ≡ true) × ((f : Txn → Bool) → f t ≡ true → is_read_by f x e ≡ true)
reader_of test x (Read t y s) h = let q = and_parts (is_item x y) (test t) h in (t, q.1, λ f g. and_from _ _ q.0 g)
reader_of test x other h = absurd (true≢false (sym h))

-- the items of some of the writes were read by those who pass the test
abbrev are_read_by : (Txn → Bool) → List Noted → List (Item × ℤ) → Bool
are_read_by test view writes = list_any (λ p. list_any (λ n. is_read_by test p.0 n.entry) view) writes

reader_in : (test : Txn → Bool) (view : List Noted) (writes : List (Item × ℤ)) → are_read_by test view writes ≡ true → (t : Txn) × (test t ≡ true) × ((f : Txn → Bool) → f t ≡ true → are_read_by f view writes ≡ true)
reader_in test view writes h =
    let p = any_find (λ (p : Item × ℤ). list_any (λ n. is_read_by test p.0 n.entry) view) writes h in
    let n = any_find (λ (n : Noted). is_read_by test (p.0).0 n.entry) view p.1 in
    let t = reader_of test (p.0).0 (n.0).entry n.1 in
    (t.0, t.1, λ f g. p.2 (λ p. list_any (λ n. is_read_by f p.0 n.entry) view) (n.2 (λ n. is_read_by f (p.0).0 n.entry) (t.2 f g)))

pub held_iff_blocked : (view : List Noted) (writer : Txn) (writes : List (Item × ℤ)) → (is_held view writer writes ≡ true) ↔ ((reader : Txn) × (is_blocked_by reader view writer writes ≡ true))
held_iff_blocked view writer writes = (into, back)
  where
    into : is_held view writer writes ≡ true → (reader : Txn) × (is_blocked_by reader view writer writes ≡ true)
    into h = let r = reader_in (is_in_the_way view writer) view writes h in (r.0, and_from _ _ r.1 (r.2 (is_txn r.0) (eq_self r.0.0 r.0.0 refl)))

    back : (reader : Txn) × (is_blocked_by reader view writer writes ≡ true) → is_held view writer writes ≡ true
    back b =
        let q = and_parts (is_in_the_way view writer b.0) (are_read_by (is_txn b.0) view writes) b.1 in
        let r = reader_in (is_txn b.0) view writes q.1 in
        r.2 (is_in_the_way view writer) (subst (λ z. is_in_the_way view writer z ≡ true) (sym (same_txn r.0 b.0 r.1)) q.0)
