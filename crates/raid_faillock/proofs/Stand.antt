-- The fail-locks stand for a list with one more entry.
use Rattle.std.proofs.Common.{◌≡◌, ℕ, ◌≤◌, Bool, true, false, not, ◌&&◌, ◌||◌, if◌then◌else◌, List, [], ◌∷◌, ◌++◌, length, true≢false, refl, sym, ap, subst, arith, ◌∙◌}
use Rattle.std.specs.Prelude.{Result, Ok, Err, OnOk, OnErr}
use Rattle.std.specs.List.{list_any}
use Rattle.std.proofs.lemmas.Bool.{eqb-true, eq-eqb}
use Rattle.std.proofs.lemmas.Grind.{common_steps}
use Rattle.std.proofs.lemmas.List.Folds.{list_any-append}
use Rattle.raid_base.specs.declared.names.Txn.{Txn}
use Rattle.raid_base.specs.declared.names.Item.{Item}
use Rattle.raid_base.specs.declared.names.Site.{Site}
use Rattle.raid_base.specs.declared.request.Request.{Request}
use Rattle.raid_base.specs.declared.entry.Entry.{Entry}
use Rattle.raid_base.specs.declared.entry.Entry.TheVariants as entries
use Rattle.raid_base.specs.declared.entry.Noted.{Noted}
use Rattle.raid_base.specs.Names.{is_txn, is_item, is_site, has_txn, has_site, holds}
use Rattle.raid_rules.specs.Entries.{is_commit, writes_item}
use Rattle.raid_rules.specs.Sessions.{turn_vector, owes, turn_owed, owes_for, turn_lock, is_copy_locked, holders}
use Rattle.raid_rules.proofs.Push.{same_txn, owes_push, vector_push, is_copy_locked_push}
use Rattle.raid_faillock.specs.declared.debts.Debts.{Debts}
use Rattle.raid_faillock.specs.Sets.{has_at}
use Rattle.raid_faillock.specs.Debts.{owes_in, wrote_in, AreListed, owed_for, DebtsAlike}
use Rattle.raid_faillock.specs.Stands.{Parts, Stands, Turns, Alike, turn_held}

any_true : (a : Bool) → (a || true) ≡ true
any_true true = refl
any_true false = refl

-- one of a list passes: which one, with what it passes else
one_of : {X G : Type 0} (test : X → Bool) (xs : List X) → list_any test xs ≡ true → ((x : X) → test x ≡ true → ((other : X → Bool) → other x ≡ true → list_any other xs ≡ true) → G) → G
one_of test [] h found = absurd (true≢false (sym h))
one_of {X} {G} test (x ∷ xs) h found = go (test x) refl (one_of test xs)
  where
    go : (b : Bool) → test x ≡ b → (list_any test xs ≡ true → ((y : X) → test y ≡ true → ((other : X → Bool) → other y ≡ true → list_any other xs ≡ true) → G) → G) → G
    go true e rest = found x e (λ other p. ap (λ b. b || list_any other xs) p)
    go false e rest = rest (sym (ap (λ b. b || list_any test xs) e) ∙ h) (λ y p others. found y p (λ other q. ap (λ b. other x || b) (others other q) ∙ any_true (other x)))

-- an entry that is a Commit has a transaction and a request
commit_of : {G : Type 0} (test : Txn → Request → Bool) (e : Entry) → is_commit test e ≡ true → ((t : Txn) (request : Request) → test t request ≡ true → ((other : Txn → Request → Bool) → is_commit other e ≡ other t request) → G) → G
commit_of test (entries.Begin t home) h found = absurd (true≢false (sym h))
commit_of test (entries.Read t x site) h found = absurd (true≢false (sym h))
commit_of test (entries.Wait t request) h found = absurd (true≢false (sym h))
commit_of test (entries.Commit t request applied) h found = found t request h (λ other. refl)
commit_of test (entries.Abort t cause act) h found = absurd (true≢false (sym h))
commit_of test (entries.Ack t site) h found = absurd (true≢false (sym h))
commit_of test (entries.SwitchOn k kind method) h found = absurd (true≢false (sym h))
commit_of test (entries.SwitchEnd k) h found = absurd (true≢false (sym h))
commit_of test (entries.Down site) h found = absurd (true≢false (sym h))
commit_of test (entries.Up site session) h found = absurd (true≢false (sym h))
commit_of test (entries.Clear site x version) h found = absurd (true≢false (sym h))

both : (a b : Bool) → a ≡ true → b ≡ true → (a && b) ≡ true
both a b p q = ap (λ z. z && b) p ∙ q

first_true : (a b : Bool) → (a && b) ≡ true → a ≡ true
first_true true b h = refl
first_true false b h = h

second_true : (a b : Bool) → (a && b) ≡ true → b ≡ true
second_true true b h = h
second_true false b h = absurd (true≢false (sym h))

same_answer : (a b : Bool) → (a ≡ true → b ≡ true) → (b ≡ true → a ≡ true) → a ≡ b
same_answer true b f g = sym (f refl)
same_answer false true f g = g refl
same_answer false false f g = refl

-- the listed transactions of which an acknowledgement is owed are those that the entries tell
owed_alike : (f : Parts) (sites : ℕ) (placement : List (List Site)) (p : List Noted) → Stands f sites placement p → (s : Site) (x : Item) → 1 ≤ s.0 → s.0 ≤ 8 → owed_for f.debts s x ≡ owes_for p s x
owed_alike f sites placement p o s x least most = same_answer _ _ there back
  where
    d : Debts
    d = f.debts

    there : owed_for d s x ≡ true → owes_for p s x ≡ true
    there h = one_of (λ t. owes_in d s t && wrote_in d t x) d.unpaid.items h (λ t q others.
        let owing : owes p s t ≡ true = sym (o.owed s t least most) ∙ first_true (owes_in d s t) (wrote_in d t x) q in
        let wrote : list_any (λ n. writes_item t x n.entry) p ≡ true = sym (o.wrote t x) ∙ second_true (owes_in d s t) (wrote_in d t x) q in
        one_of (λ n. writes_item t x n.entry) p wrote (λ n r rest.
        rest (λ n. is_commit (λ t request. holds x request.writes && owes p s t) n.entry)
        (commit_of (λ u request. is_txn t u && holds x request.writes) n.entry r (λ u request both_hold at.
        at (λ t request. holds x request.writes && owes p s t)
        ∙ both (holds x request.writes) (owes p s u) (second_true (is_txn t u) (holds x request.writes) both_hold) (ap (owes p s) (same_txn u t (first_true (is_txn t u) (holds x request.writes) both_hold)) ∙ owing)))))

    back : owes_for p s x ≡ true → owed_for d s x ≡ true
    back h = one_of (λ n. is_commit (λ t request. holds x request.writes && owes p s t) n.entry) p h (λ n r rest.
        commit_of (λ t request. holds x request.writes && owes p s t) n.entry r (λ t request both_hold at.
        let owing : owes_in d s t ≡ true = o.owed s t least most ∙ second_true (holds x request.writes) (owes p s t) both_hold in
        let wrote : wrote_in d t x ≡ true = o.wrote t x ∙ rest (λ n. writes_item t x n.entry) (at (λ u request. is_txn t u && holds x request.writes) ∙ both (is_txn t t) (holds x request.writes) (eq-eqb t.0 t.0 refl) (first_true (holds x request.writes) (owes p s t) both_hold)) in
        one_of (is_txn t) d.unpaid.items (o.listed s t least most owing) (λ u same others.
        others (λ t. owes_in d s t && wrote_in d t x) (subst (λ v. (owes_in d s v && wrote_in d v x) ≡ true) (sym (same_txn u t same)) (both (owes_in d s t) (wrote_in d t x) owing wrote)))))

-- a held copy's lock after an entry
held_turn : (s : Site) (x : Item) (p : List Noted) (held owed locked : Bool) (e : Entry) → owed ≡ owes_for p s x → turn_held s x held owed (held && locked) e ≡ (held && turn_lock s x p locked e)
held_turn s x p held owed locked (entries.Begin t home) h = refl
held_turn s x p held owed locked (entries.Read t y site) h = refl
held_turn s x p held owed locked (entries.Wait t request) h = refl
held_turn s x p held owed locked (entries.Commit t request applied) h = go (holds x request.writes)
  where
    go : (b : Bool) → (if b then held && not (has_site applied s) else held && locked) ≡ (held && (if b then not (has_site applied s) else locked))
    go true = refl
    go false = refl
held_turn s x p held owed locked (entries.Abort t cause act) h = refl
held_turn s x p held owed locked (entries.Ack t site) h = refl
held_turn s x p held owed locked (entries.SwitchOn k kind method) h = refl
held_turn s x p held owed locked (entries.SwitchEnd k) h = refl
held_turn s x p held owed locked (entries.Down site) h = go held locked (is_site s site) owed (owes_for p s x) h
  where
    go : (a b c d e : Bool) → d ≡ e → ((a && b) || (d && c && a)) ≡ (a && (b || (c && e)))
    go a b c true true h = grind arith
    go a b c false false h = grind arith
    go a b c true false h = absurd (true≢false h)
    go a b c false true h = absurd (true≢false (sym h))
held_turn s x p held owed locked (entries.Up site session) h = refl
held_turn s x p held owed locked (entries.Clear site y version) h = go held
  where
    go : (a : Bool) → ((a && locked) && not (is_site s site && is_item x y)) ≡ (a && (locked && not (is_site s site && is_item x y)))
    go true = refl
    go false = refl

-- the vector keeps its length
length_turn : (v : List ℕ) (e : Entry) → length (turn_vector v e) ≡ length v
length_turn v (entries.Begin t home) = refl
length_turn v (entries.Read t y site) = refl
length_turn v (entries.Wait t request) = refl
length_turn v (entries.Commit t request applied) = refl
length_turn v (entries.Abort t cause act) = refl
length_turn v (entries.Ack t site) = refl
length_turn v (entries.SwitchOn k kind method) = refl
length_turn v (entries.SwitchEnd k) = refl
length_turn v (entries.Down site) = grind (arith, common_steps)
length_turn v (entries.Up site session) = grind (arith, common_steps)
length_turn v (entries.Clear site y version) = refl

-- the fail-locks after an entry stand for the list with that entry
pub stands_turn : (f g : Parts) (sites : ℕ) (placement : List (List Site)) (p : List Noted) (n : Noted) → Stands f sites placement p → Turns f g n.entry → Stands g sites placement (p ++ n ∷ [])
stands_turn f g sites placement p n o d = record {
  holders = d.holders ∙ o.holders;
  locks = λ s x least most.
      d.locks s x least most
      ∙ ap (λ (h : List (List Site)). turn_held s x (has_at h x.0 s) (owed_for f.debts s x) (has_at f.locks x.0 s) n.entry) o.holders
      ∙ ap (λ b. turn_held s x (has_site (holders placement x) s) (owed_for f.debts s x) b n.entry) (o.locks s x least most)
      ∙ held_turn s x p (has_site (holders placement x) s) (owed_for f.debts s x) (is_copy_locked p s x) n.entry (owed_alike f sites placement p o s x least most)
      ∙ ap (λ b. has_site (holders placement x) s && b) (sym (is_copy_locked_push p n s x));
  owed = λ s t least most. d.debts.owed s t least most ∙ ap (λ b. turn_owed s t b n.entry) (o.owed s t least most) ∙ sym (owes_push p n s t);
  wrote = λ t x. d.debts.wrote t x ∙ ap (λ b. b || writes_item t x n.entry) (o.wrote t x) ∙ sym (list_any-append (λ n. writes_item t x n.entry) p (n ∷ []) ∙ ap (λ b. list_any (λ n. writes_item t x n.entry) p || b) (sym (or_false (writes_item t x n.entry))));
  listed = d.debts.listed;
  vector = d.vector ∙ ap (λ v. turn_vector v n.entry) o.vector ∙ sym (vector_push sites p n);
  count = ap length d.vector ∙ length_turn f.vector n.entry ∙ o.count;
}
  where
    or_false : (a : Bool) → a ≡ (a || false)
    or_false true = refl
    or_false false = refl

listed_alike : (d e : Debts) → DebtsAlike d e → AreListed d → AreListed e
listed_alike d e a listed s t least most owes = ap (λ (ts : List Txn). has_txn ts t) a.unpaid ∙ listed s t least most (sym (a.owed s t) ∙ owes)

-- fail-locks that say the same stand for the same
pub stands_alike : (f g : Parts) (sites : ℕ) (placement : List (List Site)) (p : List Noted) → Stands f sites placement p → Alike f g → Stands g sites placement p
stands_alike f g sites placement p o a = record {
  holders = a.holders ∙ o.holders;
  locks = λ s x least most. ap (λ (l : List (List Site)). has_at l x.0 s) a.locks ∙ o.locks s x least most;
  owed = λ s t least most. a.debts.owed s t ∙ o.owed s t least most;
  wrote = λ t x. a.debts.wrote t x ∙ o.wrote t x;
  listed = listed_alike f.debts g.debts a.debts o.listed;
  vector = a.vector ∙ o.vector;
  count = ap length a.vector ∙ o.count;
}

-- what is owed by a site is looked at for that site alone
pub at_site : (d : Debts) (s site : Site) (x : Item) (locked held : Bool) → (locked || (owed_for d site x && is_site s site && held)) ≡ (locked || (owed_for d s x && is_site s site && held))
at_site d s site x locked held = ap (λ b. locked || b) (go (is_site s site) refl)
  where
    none : (a : Bool) → (a && false && held) ≡ false
    none true = refl
    none false = refl

    go : (b : Bool) → is_site s site ≡ b → (owed_for d site x && is_site s site && held) ≡ (owed_for d s x && is_site s site && held)
    go true e = ap (λ k. owed_for d (let r : Site = record { 0 = k } in r) x && is_site s site && held) (eqb-true site.0 s.0 e)
    go false e = rw e (none (owed_for d site x) ∙ sym (none (owed_for d s x)))

-- a fact for a success, or for a failure, from another
pub on_ok : {T E P Q : Type 0} → (r : Result T E) → (P → Q) → OnOk r P → OnOk r Q
on_ok (Ok v) f h = f h
on_ok (Err e) f h = h

pub on_err : {T E P Q : Type 0} → (r : Result T E) → (P → Q) → OnErr r P → OnErr r Q
on_err (Ok v) f h = h
on_err (Err e) f h = f h
