-- Histories whose stops, returns and renewed copies were due, and how often each site has gone down and come up in them.
use Rattle.std.proofs.Common.{◌≡◌, ◌⊎◌, inl, inr, ℕ, zero, suc, ◌+◌, ◌-◌, ◌<◌, ◌≤◌, ◌==◌, nat_lt, Bool, true, false, not, cond, ◌&&◌, List, [], ◌∷◌, ◌++◌, length, replicate, if◌then◌else◌, arith, sym, subst, ap, ◌∙◌, refl}
use Rattle.std.specs.Prelude.{slice_index, slice_set}
use Rattle.std.proofs.lemmas.Bool.{and_from, eqb-true, true≢false}
use Rattle.std.proofs.lemmas.Grind.{common_steps}
use Rattle.raid_base.specs.declared.names.Site.{Site}
use Rattle.raid_base.specs.declared.entry.Entry.{Entry}
use Rattle.raid_base.specs.declared.entry.Entry.TheVariants.{Down, Up}
use Rattle.raid_base.specs.declared.entry.Noted.{Noted}
use Rattle.raid_base.specs.Names.{is_site}
use Rattle.raid_base.specs.Sites.{session}
use Rattle.raid_workload.specs.declared.workload.Workload.{Workload}
use Rattle.raid_rules.specs.Entries.{is_down, is_up as is_up_entry}
use Rattle.raid_rules.specs.History.{noted, add, next, ends}
use Rattle.raid_rules.specs.Sessions.{turn_vector, turn_last, last_session}
use Rattle.raid_rules.proofs.Push.{noted_push, vector_push}
use Rattle.raid_legal.specs.Seen.{vector, is_up}
use Rattle.raid_legal.specs.Legal.{EachSeeing, due, downs, ups}
use Rattle.raid_legal.proofs.Push.{each_push}
use Rattle.raid_steps.specs.Fits.{knows_site}
use Rattle.raid_sessions.specs.Due.{IsDue, AreDue}
use Rattle.raid_sessions.proofs.Events.{due_of}
use Rattle.raid_sessions.proofs.Lists.{apart, index_other, is_same, same_self, set_index, within}

-- a site's session, its last one, and how often it has gone down and come up: it came up once for each session after the first, and went
-- down once for each that has ended
pub record Account (now last fallen risen : ℕ) : Type 0 where
  pub first : 1 ≤ last
  pub come : risen + 1 ≡ last
  pub gone : ((now ≡ 0) × (fallen ≡ last)) ⊎ ((now ≡ last) × (fallen + 1 ≡ last))

abbrev pub AccountAt : Workload → List Noted → Site → Type 0
AccountAt w p s = Account (session (vector w p) s) (last_session p s) (downs p s) (ups p s)

-- a history in which they were due, with its accounts
pub record Ledger (w : Workload) (h : List Entry) : Type 0 where
  pub due : AreDue w h
  pub long : length (vector w (noted h)) ≡ w.sites
  pub accounts : (s : Site) → knows_site w s ≡ true → AccountAt w (noted h) s

-- what one more entry does to each part
last_push : (p : List Noted) (n : Noted) (s : Site) → last_session (p ++ n ∷ []) s ≡ turn_last s (last_session p s) n.entry
last_push p n s = grind (arith, common_steps)

downs_push : (p : List Noted) (n : Noted) (s : Site) → downs (p ++ n ∷ []) s ≡ downs p s + cond (is_down (is_site s) n.entry) 1 0
downs_push p n s = grind (arith, common_steps)

ups_push : (p : List Noted) (n : Noted) (s : Site) → ups (p ++ n ∷ []) s ≡ ups p s + cond (is_up_entry (is_site s) n.entry) 1 0
ups_push p n s = grind (arith, common_steps)

pub ends_push : (p : List Noted) (n : Noted) → ends p ≤ ends (p ++ n ∷ [])
ends_push p n = grind (arith, common_steps)

length_turn : (v : List ℕ) (e : Entry) → length (turn_vector v e) ≡ length v
length_turn v (Down site) = grind (arith, common_steps)
length_turn v (Up site session) = grind (arith, common_steps)
length_turn v other = refl

account_is : {a b c d i j k l : ℕ} → i ≡ a → j ≡ b → k ≡ c → l ≡ d → Account a b c d → Account i j k l
account_is {a} {b} {c} {d} {i} {j} {k} {l} q r s t account =
    subst (λ z. Account z j k l) (sym q) (subst (λ z. Account a z k l) (sym r) (subst (λ z. Account a b z l) (sym s) (subst (λ z. Account a b c z) (sym t) account)))

-- neither a Down nor an Up
abbrev pub is_still : Entry → Bool
is_still (Down s) = false
is_still (Up s session) = false
is_still other = true

module _ (w : Workload) where
  account_push : (p : List Noted) (n : Noted) (s : Site) →
      Account (session (turn_vector (vector w p) n.entry) s) (turn_last s (last_session p s) n.entry) (downs p s + cond (is_down (is_site s) n.entry) 1 0) (ups p s + cond (is_up_entry (is_site s) n.entry) 1 0) →
      AccountAt w (p ++ n ∷ []) s
  account_push p n s account = account_is (ap (λ v. session v s) (vector_push w.sites p n)) (last_push p n s) (downs_push p n s) (ups_push p n s) account

  plus_none : (n : ℕ) → n + 0 ≡ n
  plus_none n = omega arith

  account_still : (p : List Noted) (e : Entry) (v : List ℕ) (s : Site) → is_still e ≡ true → Account (session v s) (last_session p s) (downs p s) (ups p s) →
      Account (session (turn_vector v e) s) (turn_last s (last_session p s) e) (downs p s + cond (is_down (is_site s) e) 1 0) (ups p s + cond (is_up_entry (is_site s) e) 1 0)
  account_still p (Down r) v s q a = absurd (true≢false (sym q))
  account_still p (Up r n) v s q a = absurd (true≢false (sym q))
  account_still p other v s q a = account_is refl refl (plus_none (downs p s)) (plus_none (ups p s)) a

  abbrev EachDue : List Noted → Type 0
  EachDue p = EachSeeing (λ p n. IsDue w p n.entry) [] p

  ledger_push : (h : List Entry) (e : Entry) → Ledger w h → IsDue w (noted h) e → ((s : Site) → knows_site w s ≡ true → AccountAt w (add (noted h) e) s) → Ledger w (h ++ e ∷ [])
  ledger_push h e l d a = record {
    due = subst EachDue (sym (noted_push h e)) ((each_push (λ p n. IsDue w p n.entry) (noted h) (next (noted h) e)).1 (l.due, d));
    long = ap (λ p. length (vector w p)) (noted_push h e) ∙ ap length (vector_push w.sites (noted h) (next (noted h) e)) ∙ length_turn (vector w (noted h)) e ∙ l.long;
    accounts = λ s known. subst (λ p. AccountAt w p s) (sym (noted_push h e)) (a s known);
  }

  pub still_push : (h : List Entry) (e : Entry) → Ledger w h → is_still e ≡ true → IsDue w (noted h) e → Ledger w (h ++ e ∷ [])
  still_push h e l q d = ledger_push h e l d (λ s known. account_push (noted h) (next (noted h) e) s (account_still (noted h) e (vector w (noted h)) s q (l.accounts s known)))

  -- sites by their places in the vector
  session_same : (v : List ℕ) (s r : Site) (n : ℕ) → length v ≡ w.sites → knows_site w s ≡ true → (s.0 == r.0) ≡ true → session (slice_set v (s.0 - 1) n) r ≡ n
  session_same v s r n long known same =
      let bounds = within w.sites s.0 known in
      ap (λ k. slice_index (slice_set v (s.0 - 1) n) (k - 1)) (sym (eqb-true s.0 r.0 same)) ∙ set_index v (s.0 - 1) n (omega (arith, bounds.0, bounds.1, long))

  session_other : (v : List ℕ) (s r : Site) (n : ℕ) → knows_site w s ≡ true → knows_site w r ≡ true → (s.0 == r.0) ≡ false → session (slice_set v (s.0 - 1) n) r ≡ session v r
  session_other v s r n known known_too differ =
      let bounds = within w.sites s.0 known in
      let bounds_too = within w.sites r.0 known_too in
      index_other v (s.0 - 1) (r.0 - 1) n (apart s.0 r.0 differ bounds.0 bounds_too.0)

  -- a site that is up is in its last session
  up_is : (n : ℕ) → nat_lt 0 n ≡ true → 1 ≤ n
  up_is n q = grind (arith, q)

  not_up_is : (n : ℕ) → nat_lt 0 n ≡ false → n ≡ 0
  not_up_is n q = grind (arith, q)

  up_account : {now last gone come : ℕ} → Account now last gone come → nat_lt 0 now ≡ true → (now ≡ last) × (gone + 1 ≡ last)
  up_account {now} account up = elim account.gone [
    | inl q ↦ absurd (omega (arith, up_is now up, q.0))
    | inr q ↦ q
  ]

  down_account : {now last gone come : ℕ} → Account now last gone come → nat_lt 0 now ≡ false → (now ≡ 0) × (gone ≡ last)
  down_account {now} account down = elim account.gone [
    | inl q ↦ q
    | inr q ↦ absurd (omega (arith, not_up_is now down, q.0, account.first))
  ]

  pub up_last : (h : List Entry) (s : Site) → Ledger w h → knows_site w s ≡ true → is_up w (noted h) s ≡ true → session (vector w (noted h)) s ≡ last_session (noted h) s
  up_last h s l known up = (up_account (l.accounts s known) up).0

  -- a Down
  below : (a b : ℕ) → a + 1 ≤ b → nat_lt a b ≡ true
  below a b q = grind (arith, q)

  pub down_push : (h : List Entry) (s : Site) → Ledger w h → knows_site w s ≡ true → is_up w (noted h) s ≡ true → last_session (noted h) s ≤ due_of (ends (noted h)) true s w.events → Ledger w (h ++ Down s ∷ [])
  down_push h s l known up enough =
      let mine = up_account (l.accounts s known) up in
      let room : last_session (noted h) s ≤ due w (noted h) true s = enough in
      let short : nat_lt (downs (noted h) s) (due w (noted h) true s) ≡ true = below (downs (noted h) s) (due w (noted h) true s) (omega (arith, mine.1, room)) in
      ledger_push h (Down s) l (and_from (is_up w (noted h) s) (nat_lt (downs (noted h) s) (due w (noted h) true s)) up short)
      (λ r known_too. account_push (noted h) (next (noted h) (Down s)) r (go r known_too (s.0 == r.0) refl mine))
    where
      go : (r : Site) → knows_site w r ≡ true → (b : Bool) → (s.0 == r.0) ≡ b → (session (vector w (noted h)) s ≡ last_session (noted h) s) × (downs (noted h) s + 1 ≡ last_session (noted h) s) →
          Account (session (slice_set (vector w (noted h)) (s.0 - 1) 0) r) (last_session (noted h) r) (downs (noted h) r + cond (s.0 == r.0) 1 0) (ups (noted h) r + 0)
      go r known_too true same mine =
          let old = l.accounts r known_too in
          account_is (session_same (vector w (noted h)) s r 0 l.long known same) refl (ap (λ b. downs (noted h) r + cond b 1 0) same) (plus_none (ups (noted h) r))
          (record { first = old.first; come = old.come; gone = inl (refl, at_r same mine) })
        where
          same_site : (s r : Site) → (s.0 == r.0) ≡ true → s ≡ r
          same_site s r e = ap (λ k. let x : Site = record { 0 = k } in x) (eqb-true s.0 r.0 e)

          at_r : (s.0 == r.0) ≡ true → (session (vector w (noted h)) s ≡ last_session (noted h) s) × (downs (noted h) s + 1 ≡ last_session (noted h) s) → downs (noted h) r + 1 ≡ last_session (noted h) r
          at_r same mine = subst (λ x. downs (noted h) x + 1 ≡ last_session (noted h) x) (same_site s r same) mine.1
      go r known_too false differ mine =
          account_is (session_other (vector w (noted h)) s r 0 known known_too differ) refl (ap (λ b. downs (noted h) r + cond b 1 0) differ ∙ plus_none (downs (noted h) r)) (plus_none (ups (noted h) r)) (l.accounts r known_too)

  -- an Up
  pub up_push : (h : List Entry) (s : Site) (n : ℕ) → Ledger w h → knows_site w s ≡ true → is_up w (noted h) s ≡ false → n ≡ last_session (noted h) s + 1 → last_session (noted h) s ≤ due_of (ends (noted h)) false s w.events → Ledger w (h ++ Up s n ∷ [])
  up_push h s n l known down follows enough =
      let come = (l.accounts s known).come in
      let room : last_session (noted h) s ≤ due w (noted h) false s = enough in
      let short : nat_lt (ups (noted h) s) (due w (noted h) false s) ≡ true = below (ups (noted h) s) (due w (noted h) false s) (omega (arith, come, room)) in
      ledger_push h (Up s n) l
      (and_from (not (is_up w (noted h) s) && n == last_session (noted h) s + 1) (nat_lt (ups (noted h) s) (due w (noted h) false s))
      (and_from (not (is_up w (noted h) s)) (n == last_session (noted h) s + 1) (ap not down) (is_same n (last_session (noted h) s + 1) follows)) short)
      (λ r known_too. account_push (noted h) (next (noted h) (Up s n)) r (go r known_too (s.0 == r.0) refl))
    where
      same_site : (s r : Site) → (s.0 == r.0) ≡ true → s ≡ r
      same_site s r e = ap (λ k. let x : Site = record { 0 = k } in x) (eqb-true s.0 r.0 e)

      renewed : (now last gone come : ℕ) → n ≡ last + 1 → Account now last gone come → nat_lt 0 now ≡ false → Account n n (gone + 0) (come + 1)
      renewed now last gone come q a d = (let old = down_account a d in record { first = omega (arith, q); come = omega (arith, q, a.come); gone = inr (refl, omega (arith, q, old.1)) })

      go : (r : Site) → knows_site w r ≡ true → (b : Bool) → (s.0 == r.0) ≡ b →
          Account (session (slice_set (vector w (noted h)) (s.0 - 1) n) r) (if s.0 == r.0 then n else last_session (noted h) r) (downs (noted h) r + 0) (ups (noted h) r + cond (s.0 == r.0) 1 0)
      go r known_too true same =
          account_is (session_same (vector w (noted h)) s r n l.long known same) (ap (λ b. if b then n else last_session (noted h) r) same) refl (ap (λ b. ups (noted h) r + cond b 1 0) same)
          (subst (λ x. Account n n (downs (noted h) x + 0) (ups (noted h) x + 1)) (same_site s r same)
          (renewed (session (vector w (noted h)) s) (last_session (noted h) s) (downs (noted h) s) (ups (noted h) s) follows (l.accounts s known) down))
      go r known_too false differ =
          account_is (session_other (vector w (noted h)) s r n known known_too differ) (ap (λ b. if b then n else last_session (noted h) r) differ) (plus_none (downs (noted h) r)) (ap (λ b. ups (noted h) r + cond b 1 0) differ ∙ plus_none (ups (noted h) r)) (l.accounts r known_too)

  -- and then the site is up
  pub up_risen : (h : List Entry) (s : Site) (n : ℕ) → Ledger w h → knows_site w s ≡ true → 1 ≤ n → is_up w (noted (h ++ Up s n ∷ [])) s ≡ true
  up_risen h s n l known some =
      ap (λ p. is_up w p s) (noted_push h (Up s n)) ∙ ap (λ v. nat_lt 0 (session v s)) (vector_push w.sites (noted h) (next (noted h) (Up s n)))
      ∙ ap (nat_lt 0) (session_same (vector w (noted h)) s s n l.long known (same_self s.0)) ∙ below 0 n (omega (arith, some))

  -- what becomes of a site's session
  session_push : (h : List Entry) (e : Entry) (s : Site) → session (vector w (noted (h ++ e ∷ []))) s ≡ session (turn_vector (vector w (noted h)) e) s
  session_push h e s = ap (λ p. session (vector w p) s) (noted_push h e) ∙ ap (λ v. session v s) (vector_push w.sites (noted h) (next (noted h) e))

  pub session_still : (h : List Entry) (e : Entry) (s : Site) → is_still e ≡ true → session (vector w (noted (h ++ e ∷ []))) s ≡ session (vector w (noted h)) s
  session_still h e s q = session_push h e s ∙ go e q
    where
      go : (e : Entry) → is_still e ≡ true → session (turn_vector (vector w (noted h)) e) s ≡ session (vector w (noted h)) s
      go (Down r) q = absurd (true≢false (sym q))
      go (Up r n) q = absurd (true≢false (sym q))
      go other q = refl

  pub session_set : (v : List ℕ) (s r : Site) (n : ℕ) → length v ≡ w.sites → knows_site w s ≡ true → knows_site w r ≡ true → session (slice_set v (s.0 - 1) n) r ≡ (if is_site r s then n else session v r)
  session_set v s r n long known known_too = go (s.0 == r.0) refl
    where
      go : (b : Bool) → (s.0 == r.0) ≡ b → session (slice_set v (s.0 - 1) n) r ≡ (if s.0 == r.0 then n else session v r)
      go true q = session_same v s r n long known q ∙ ap (λ b. if b then n else session v r) (sym q)
      go false q = session_other v s r n known known_too q ∙ ap (λ b. if b then n else session v r) (sym q)

  pub session_down : (h : List Entry) (s r : Site) → Ledger w h → knows_site w s ≡ true → knows_site w r ≡ true → session (vector w (noted (h ++ Down s ∷ []))) r ≡ (if is_site r s then 0 else session (vector w (noted h)) r)
  session_down h s r l known known_too = session_push h (Down s) r ∙ session_set (vector w (noted h)) s r 0 l.long known known_too

  pub session_up : (h : List Entry) (s : Site) (n : ℕ) (r : Site) → Ledger w h → knows_site w s ≡ true → knows_site w r ≡ true → session (vector w (noted (h ++ Up s n ∷ []))) r ≡ (if is_site r s then n else session (vector w (noted h)) r)
  session_up h s n r l known known_too = session_push h (Up s n) r ∙ session_set (vector w (noted h)) s r n l.long known known_too

  -- a site is in no session after its last
  pub session_most : (h : List Entry) (s : Site) → Ledger w h → knows_site w s ≡ true → session (vector w (noted h)) s ≤ last_session (noted h) s
  session_most h s l known =
      elim (l.accounts s known).gone [
        | inl q ↦ omega (arith, q.0)
        | inr q ↦ omega (arith, q.0)
      ]

  -- what becomes of a site's last session
  pub last_still : (h : List Entry) (e : Entry) (s : Site) → is_still e ≡ true → last_session (noted (h ++ e ∷ [])) s ≡ last_session (noted h) s
  last_still h e s q = ap (λ p. last_session p s) (noted_push h e) ∙ last_push (noted h) (next (noted h) e) s ∙ go e q
    where
      go : (e : Entry) → is_still e ≡ true → turn_last s (last_session (noted h) s) e ≡ last_session (noted h) s
      go (Down r) q = refl
      go (Up r n) q = absurd (true≢false (sym q))
      go other q = refl

  pub last_down : (h : List Entry) (r s : Site) → last_session (noted (h ++ Down r ∷ [])) s ≡ last_session (noted h) s
  last_down h r s = ap (λ p. last_session p s) (noted_push h (Down r)) ∙ last_push (noted h) (next (noted h) (Down r)) s

  pub last_up : (h : List Entry) (r : Site) (n : ℕ) (s : Site) → last_session (noted (h ++ Up r n ∷ [])) s ≡ (if is_site s r then n else last_session (noted h) s)
  last_up h r n s = ap (λ p. last_session p s) (noted_push h (Up r n)) ∙ last_push (noted h) (next (noted h) (Up r n)) s

  pub ends_grow : (h : List Entry) (e : Entry) → ends (noted h) ≤ ends (noted (h ++ e ∷ []))
  ends_grow h e = subst (λ p. ends (noted h) ≤ ends p) (sym (noted_push h e)) (ends_push (noted h) (next (noted h) e))

  -- before the first entry
  ones : (n : ℕ) → length {A = ℕ} (replicate n 1) ≡ n
  ones zero = refl
  ones (suc n) = ap suc (ones n)

  one_at : (n k : ℕ) → k < n → slice_index (replicate n 1) k ≡ 1
  one_at zero k below = absurd (omega (arith, below))
  one_at (suc n) zero below = refl
  one_at (suc n) (suc k) below = one_at n k (omega (arith, below))

  pub opening_session : (s : Site) → knows_site w s ≡ true → session (vector w []) s ≡ 1
  opening_session s known = (let bounds = within w.sites s.0 known in one_at w.sites (s.0 - 1) (omega (arith, bounds.0, bounds.1)))

  pub opening_ledger : Ledger w []
  opening_ledger = record {
    due = tt;
    long = ones w.sites;
    accounts = λ s known. account_is (opening_session s known) refl refl refl (record { first = omega arith; come = omega arith; gone = inr (refl, omega arith) });
  }
