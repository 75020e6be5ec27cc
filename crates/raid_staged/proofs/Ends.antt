-- A transaction commits once, and none is aborted that has committed.
use Rattle.std.proofs.Common.{◌≡◌, ◌⊎◌, inl, inr, ℕ, ◌+◌, ◌==◌, Bool, true, false, not, ◌&&◌, List, [], ◌∷◌, ◌++◌, length, if◌then◌else◌, sym, subst, ap, ◌∙◌, refl}
use Rattle.std.proofs.lemmas.Bool.{and_parts, eqb-true, true≢false}
use Rattle.raid_base.specs.declared.names.Txn.{Txn}
use Rattle.raid_base.specs.declared.names.Site.{Site}
use Rattle.raid_base.specs.declared.entry.Entry.{Entry}
use Rattle.raid_base.specs.declared.entry.Entry.TheVariants.{Commit, Abort}
use Rattle.raid_base.specs.declared.entry.Noted.{Noted}
use Rattle.raid_base.specs.Names.{is_txn, has_site}
use Rattle.raid_workload.specs.declared.workload.Workload.{Workload}
use Rattle.raid_rules.specs.Entries.{is_commit_of, is_abort_of, is_end_of}
use Rattle.raid_rules.specs.History.{noted, add, next, has_begun, has_committed, has_aborted, has_ended, commit_number}
use Rattle.raid_rules.proofs.Places.{by_last}
use Rattle.raid_rules.proofs.Push.{noted_push, number_of_push, same_txn}
use Rattle.raid_placed.specs.Placed.{Placed, Placeable}
use Rattle.raid_placed.proofs.Orderly.{placeable_follows}
use Rattle.raid_placed.proofs.Sent.{placed_push}
use Rattle.raid_asks.proofs.Facts.{or_right, or_parts, any_weaken}
use Rattle.raid_letters.specs.Says.{is_applied, was_applied}
use Rattle.raid_layers.proofs.Histories.{any_push, committed_ended}

pub aborted_ended : (p : List Noted) (t : Txn) → has_aborted p t ≡ true → has_ended p t ≡ true
aborted_ended p t q = any_weaken (λ n. is_abort_of t n.entry) (λ n. is_end_of t n.entry) (λ n h. or_right (is_commit_of t n.entry) (is_abort_of t n.entry) h) p q

-- what is applied at a site has committed
applied_commits : (e : Entry) (t : Txn) (s : Site) → is_applied t s e ≡ true → is_commit_of t e ≡ true
applied_commits (Commit u request applied) t s h = (and_parts (is_txn t u) (has_site applied s) h).0
applied_commits other t s h = absurd (true≢false (sym h))

pub applied_committed : (p : List Noted) (t : Txn) (s : Site) (n : ℕ) → was_applied p t s n ≡ true → has_committed p t ≡ true
applied_committed p t s n h = any_weaken (λ z. (z.at == n) && is_applied t s z.entry) (λ z. is_commit_of t z.entry) (λ z q. applied_commits z.entry t s (and_parts (z.at == n) (is_applied t s z.entry) q).1) p h

pub record EndsOnce (p : List Noted) : Type 0 where
  pub number : (t : Txn) (s : Site) (n : ℕ) → was_applied p t s n ≡ true → n ≡ commit_number p t
  pub apart : (t : Txn) → has_committed p t ≡ true → has_aborted p t ≡ true → ⊥

module _ (w : Workload) where
  module _ (p : List Noted) (e : Entry) (o : EndsOnce p) (goes : Placeable w p e) where
    -- who ends now hasn't ended
    clash : (b : Bool) → not b ≡ true → b ≡ true → ⊥
    clash true q r = true≢false (sym q)
    clash false q r = true≢false (sym r)

    commits_open : (e : Entry) → Placeable w p e → (t : Txn) → is_commit_of t e ≡ true → has_ended p t ≡ true → ⊥
    commits_open (Commit u request applied) g t is over =
        clash (has_ended p u) (and_parts (has_begun p u) (not (has_ended p u)) (placeable_follows w p (Commit u request applied) g)).1 (subst (λ z. has_ended p z ≡ true) (sym (same_txn u t is)) over)
    commits_open other g t is over = true≢false (sym is)

    aborts_open : (e : Entry) → Placeable w p e → (t : Txn) → is_abort_of t e ≡ true → has_ended p t ≡ true → ⊥
    aborts_open (Abort u cause act) g t is over =
        clash (has_ended p u) (and_parts (has_begun p u) (not (has_ended p u)) (placeable_follows w p (Abort u cause act) g)).1 (subst (λ z. has_ended p z ≡ true) (sym (same_txn u t is)) over)
    aborts_open other g t is over = true≢false (sym is)

    not_both : (e : Entry) (t : Txn) → is_commit_of t e ≡ true → is_abort_of t e ≡ true → ⊥
    not_both (Commit u request applied) t a b = true≢false (sym b)
    not_both other t a b = true≢false (sym a)

    number_is : (t : Txn) (s : Site) (n : ℕ) → (was_applied p t s n ≡ true) ⊎ (((length p + 1 == n) && is_applied t s e) ≡ true) → n ≡ commit_number (add p e) t
    number_is t s n (inl old) = o.number t s n old ∙ sym (number_of_push (is_commit_of t) p (next p e) ∙ ap (λ b. if b then length p + 1 else commit_number p t) (not_now (is_commit_of t e) refl))
      where
        not_now : (b : Bool) → is_commit_of t e ≡ b → is_commit_of t e ≡ false
        not_now true q = absurd (commits_open e goes t q (committed_ended p t (applied_committed p t s n old)))
        not_now false q = q
    number_is t s n (inr now) =
        let both = and_parts (length p + 1 == n) (is_applied t s e) now in
        sym (eqb-true (length p + 1) n both.0) ∙ sym (number_of_push (is_commit_of t) p (next p e) ∙ ap (λ b. if b then length p + 1 else commit_number p t) (applied_commits e t s both.1))

    apart_is : (t : Txn) → (has_committed p t ≡ true) ⊎ (is_commit_of t e ≡ true) → (has_aborted p t ≡ true) ⊎ (is_abort_of t e ≡ true) → ⊥
    apart_is t (inl c) (inl a) = o.apart t c a
    apart_is t (inl c) (inr a) = aborts_open e goes t a (committed_ended p t c)
    apart_is t (inr c) (inl a) = commits_open e goes t c (aborted_ended p t a)
    apart_is t (inr c) (inr a) = not_both e t c a

    once_add : EndsOnce (add p e)
    once_add = record {
      number = λ t s n h. number_is t s n (or_parts (was_applied p t s n) ((length p + 1 == n) && is_applied t s e) (sym (any_push (λ z. (z.at == n) && is_applied t s z.entry) p (next p e)) ∙ h));
      apart = λ t c a. apart_is t (or_parts (has_committed p t) (is_commit_of t e) (sym (any_push (λ z. is_commit_of t z.entry) p (next p e)) ∙ c)) (or_parts (has_aborted p t) (is_abort_of t e) (sym (any_push (λ z. is_abort_of t z.entry) p (next p e)) ∙ a));
    }

  pub placed_once : (h : List Entry) → Placed w h → EndsOnce (noted h)
  placed_once = by_last (λ h. Placed w h → EndsOnce (noted h)) (λ l. record { number = λ t s n h. absurd (true≢false (sym h)); apart = λ t c a. true≢false (sym c) }) step
    where
      step : (h : List Entry) (e : Entry) → (Placed w h → EndsOnce (noted h)) → Placed w (h ++ e ∷ []) → EndsOnce (noted (h ++ e ∷ []))
      step h e rest l = (let q = (placed_push w h e).0 l in subst EndsOnce (sym (noted_push h e)) (once_add (noted h) e (rest q.0) q.1))
