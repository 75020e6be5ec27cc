-- The sequencer takes a Begin: the transaction may begin, and does.
use Rattle.std.proofs.Common.{◌≡◌, inl, inr, ℕ, ◌+◌, ◌*◌, ◌<◌, ◌==◌, nat_lt, Bool, true, false, not, ◌&&◌, ◌||◌, List, [], ◌∷◌, length, Option, Some, None, arith, sym, subst, ap, ◌∙◌, refl}
use Rattle.std.specs.List.{AllByRecursion}
use Rattle.std.specs.Option.{option_map_or}
use Rattle.std.proofs.lemmas.Bool.{and_parts, and_from, eqb-true, true≢false}
use Rattle.std.proofs.lemmas.Grind.{common_steps}
use Rattle.raid_base.specs.declared.names.Txn.{Txn}
use Rattle.raid_base.specs.declared.names.Site.{Site}
use Rattle.raid_base.specs.declared.entry.Noted.{Noted}
use Rattle.raid_base.specs.Names.{is_txn, is_site, has_txn}
use Rattle.raid_workload.specs.declared.workload.Workload.{Workload}
use Rattle.raid_workload.specs.Parts.{txns, home}
use Rattle.raid_rules.specs.History.{has_begun}
use Rattle.raid_rules.proofs.Push.{same_txn}
use Rattle.raid_legal.specs.Legal.{may_begin}
use Rattle.raid_legal.specs.Seen.{attempt, again, next_of, is_up}
use Rattle.raid_message.specs.declared.letter.Message.{Message}
use Rattle.raid_message.specs.declared.letter.Message.TheVariants as letters
use Rattle.raid_message.specs.declared.letter.Letter.{Letter}
use Rattle.raid_steps.specs.Programs.{next_attempt}
use Rattle.raid_steps.specs.State.{Running}
use Rattle.raid_asks.proofs.Facts.{or_left, or_right}
use Rattle.raid_asks.proofs.Least.{Least, least, txn_known, known_txn, IsFirst}
use Rattle.raid_asks.proofs.Line.{Due, Line, IsAfter, Counts, Promise, FineAt, NoteOk, Notes, CountsAt, below_is}

module _ (w : Workload) (s : Site) (p : List Noted) (t : Txn) (bs : List Txn) (n : ℕ) (line : Line w s p (t ∷ bs)) (counts : Counts w s p (t ∷ bs) n) where
  due : Due w s p t
  due = line.0

  pub site_same : home w t ≡ s
  site_same = ap (λ n. let x : Site = record { 0 = n } in x) (eqb-true (home w t).0 s.0 due.ours.at)

  test : Txn → Bool
  test u = attempt w u == 0 && is_site (home w t) (home w u) && not (has_begun p u)

  member_after : (v : Txn) (us : List Txn) → AllByRecursion (IsAfter w s p t) us → has_txn us v ≡ true → IsAfter w s p t v
  member_after v [] a q = absurd (true≢false (sym q))
  member_after v (u ∷ us) a q = go (u.0 == v.0) refl q (λ q. member_after v us a.1 q)
    where
      go : (b : Bool) → (u.0 == v.0) ≡ b → (b || has_txn us v) ≡ true → (has_txn us v ≡ true → IsAfter w s p t v) → IsAfter w s p t v
      go true e q rest = subst (IsAfter w s p t) (same_txn u v e) a.0
      go false e q rest = rest q

  three : (a b c : Bool) → a ≡ true → b ≡ true → c ≡ false → (a && b && not c) ≡ true
  three true true false x y z = refl
  three true true true x y z = absurd (true≢false z)
  three true false c x y z = absurd (true≢false (sym y))
  three false b c x y z = absurd (true≢false (sym x))

  chosen : (attempt w t == 0) ≡ true → (o : Option Txn) → Least (λ u. attempt w u == 0 && is_site (home w t) (home w u) && not (has_begun p u)) 1 (length w.programs * (w.restarts + 1)) o → option_map_or (is_txn t) o false ≡ true
  chosen first None l = (let r = known_txn w t due.ours.known in absurd (true≢false (sym (three (attempt w t == 0) (is_site (home w t) (home w t)) (has_begun p t) first (self (home w t).0) due.fresh) ∙ l t.0 r.0 r.1)))
    where
      self : (n : ℕ) → (n == n) ≡ true
      self n = grind arith
  chosen first (Some v) l = go (nat_lt v.0 t.0) refl (nat_lt t.0 v.0) refl
    where
      self : (n : ℕ) → (n == n) ≡ true
      self n = grind arith

      same : (a b : ℕ) → nat_lt a b ≡ false → nat_lt b a ≡ false → (a == b) ≡ true
      same a b q r = grind (arith, q, r)

      differ : (a b : ℕ) → nat_lt a b ≡ true → (b == a) ≡ false
      differ a b q = grind (arith, q)

      over : (a b : ℕ) → nat_lt a b ≡ true → b < a → ⊥
      over a b q l = grind (arith, q, l)

      up_to : (a b n : ℕ) → nat_lt a b ≡ true → (n == 0 || nat_lt b n) ≡ true → (n == 0 || nat_lt a n) ≡ true
      up_to a b n q r = grind (arith, common_steps, q, r)

      only : (a b c : Bool) → (a || (b || c)) ≡ true → a ≡ false → b ≡ false → c ≡ true
      only true b c q x y = absurd (true≢false x)
      only false true c q x y = absurd (true≢false y)
      only false false c q x y = q

      untrue : (b : Bool) → not b ≡ true → b ≡ false
      untrue true q = absurd (true≢false (sym q))
      untrue false q = refl

      go : (a : Bool) → nat_lt v.0 t.0 ≡ a → (b : Bool) → nat_lt t.0 v.0 ≡ b → (v.0 == t.0) ≡ true
      go false q false r = same v.0 t.0 q r
      go a q true r = (let k = known_txn w t due.ours.known in absurd (true≢false (sym (three (attempt w t == 0) (is_site (home w t) (home w t)) (has_begun p t) first (self (home w t).0) due.fresh) ∙ l.before t.0 k.0 (below_is t.0 v.0 r))))
      go true q false r =
          let parts = and_parts (attempt w v == 0 && is_site (home w t) (home w v)) (not (has_begun p v)) l.yes in
          let both = and_parts (attempt w v == 0) (is_site (home w t) (home w v)) parts.0 in
          let its : IsFirst w s v = record { ours = record { known = txn_known w v.0 l.low l.high; at = subst (λ x. is_site x (home w v) ≡ true) site_same both.1 }; first = both.0 } in
          let mine : IsFirst w s t = record { ours = due.ours; first = first } in
          let passed = up_to v.0 t.0 n q (sym (counts.1 t mine) ∙ or_right (has_begun p t) (has_txn (t ∷ bs) t) (or_left (t.0 == t.0) (has_txn bs t) (self t.0))) in
          let there = only (has_begun p v) (t.0 == v.0) (has_txn bs v) (counts.1 v its ∙ passed) (untrue (has_begun p v) parts.1) (differ v.0 t.0 q) in
          absurd (over v.0 t.0 q ((member_after v bs line.1.0 there).1 first both.0))

  pub begins_now : is_up w p s ≡ true → may_begin w p t ≡ true
  begins_now up =
      and_from (has_txn (txns w) t && not (has_begun p t) && is_up w p (home w t)) (option_map_or (is_txn t) (next_of w p (home w t)) false || again w p t)
      (and_from (has_txn (txns w) t && not (has_begun p t)) (is_up w p (home w t)) (and_from (has_txn (txns w) t) (not (has_begun p t)) due.ours.known (ap not due.fresh)) (ap (is_up w p) site_same ∙ up))
      (elim due.turn [
        | inl first ↦ or_left (option_map_or (is_txn t) (next_of w p (home w t)) false) (again w p t) (chosen first (next_of w p (home w t)) (least (λ u. attempt w u == 0 && is_site (home w t) (home w u) && not (has_begun p u)) 1 (length w.programs * (w.restarts + 1))))
        | inr later ↦ or_right (option_map_or (is_txn t) (next_of w p (home w t)) false) (again w p t) later
      ])

  -- after it
  module _ (q : List Noted) (begun_is : (u : Txn) → has_begun q u ≡ (has_begun p u || (t.0 == u.0))) (again_kept : (u : Txn) → again w p u ≡ true → again w q u ≡ true) where
    no_more : (b : Bool) → (b || false) ≡ b
    no_more true = refl
    no_more false = refl

    unlike : (u : Txn) → (t.0 == u.0) ≡ false → has_begun q u ≡ has_begun p u
    unlike u e = begun_is u ∙ ap (λ b. has_begun p u || b) e ∙ no_more (has_begun p u)

    line_left : (us : List Txn) → AllByRecursion (IsAfter w s p t) us → Line w s p us → Line w s q us
    line_left [] a l = tt
    line_left (u ∷ us) a l = (record { ours = l.0.ours; fresh = unlike u a.0.0 ∙ l.0.fresh; turn = elim l.0.turn [ inl first ↦ inl first | inr later ↦ inr (again_kept u later) ] }, (l.1.0, line_left us a.1 l.1.1))

    regroup : (a b c : Bool) → ((a || b) || c) ≡ (a || (b || c))
    regroup true b c = refl
    regroup false b c = refl

    counts_left : Counts w s q bs n
    counts_left = (counts.0, λ u f. ap (λ b. b || has_txn bs u) (begun_is u) ∙ regroup (has_begun p u) (t.0 == u.0) (has_txn bs u) ∙ counts.1 u f)

    halves : (a b : Bool) → (a || b) ≡ false → (a ≡ false) × (b ≡ false)
    halves true b q = absurd (true≢false q)
    halves false b q = (refl, q)

    promise_left : (u : Txn) → Promise w s p (t ∷ bs) u → Promise w s q bs u
    promise_left u a = (let parts = halves (t.0 == (next_attempt w u).0) (has_txn bs (next_attempt w u)) a.free in record { more = a.more; due = again_kept (next_attempt w u) a.due; fresh = unlike (next_attempt w u) parts.0 ∙ a.fresh; free = parts.1; at = a.at })

    notes_left : (m : ℕ) (ls : List Letter) → Notes w s p m (t ∷ bs) ls → Notes w s q m bs ls
    notes_left m [] a = tt
    notes_left m (l ∷ ls) a = ((λ to. go l.message (a.0 to)), notes_left m ls a.1)
      where
        go : (message : Message) → NoteOk w s p m (t ∷ bs) message ls → NoteOk w s q m bs message ls
        go (letters.Welcome v i) a = a
        go (letters.Drop u true) a = λ here. (let both = a here in (promise_left u both.0, both.1))
        go (letters.Drop u false) a = a
        go other a = a

    pub counts_taken : (m : ℕ) (ls : List Letter) → Notes w s p m (t ∷ bs) ls → CountsAt w s q m ls bs n
    counts_taken m ls a = record { line = line_left bs line.1.0 line.1.1; counts = counts_left; notes = notes_left m ls a }

    absent : (us : List Txn) → AllByRecursion (IsAfter w s p t) us → has_txn us t ≡ false
    absent [] a = refl
    absent (u ∷ us) a = ap (λ b. b || has_txn us t) (turned t.0 u.0 a.0.0) ∙ absent us a.1
      where
        turned : (a b : ℕ) → (a == b) ≡ false → (b == a) ≡ false
        turned a b q = grind (arith, q)

    pub fine_taken : (rs : List Running) → AllByRecursion (λ (r : Running). FineAt w s p (t ∷ bs) r.txn) rs → AllByRecursion (λ (r : Running). FineAt w s q bs r.txn) rs
    fine_taken [] a = tt
    fine_taken (r ∷ rs) a = ((a.0.0, go (t.0 == r.txn.0) refl a.0.1), fine_taken rs a.1)
      where
        go : (b : Bool) → (t.0 == r.txn.0) ≡ b → (b || has_txn bs r.txn) ≡ not (has_begun p r.txn) → has_txn bs r.txn ≡ not (has_begun q r.txn)
        go true e f = ap (has_txn bs) (sym (same_txn t r.txn e)) ∙ absent bs line.1.0 ∙ sym (ap not (begun_is r.txn ∙ ap (λ b. has_begun p r.txn || b) e ∙ or_right (has_begun p r.txn) true refl))
        go false e f = f ∙ ap not (sym (unlike r.txn e))
