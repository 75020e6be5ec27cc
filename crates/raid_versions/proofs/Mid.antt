-- What holds in the middle of the sequencer's step, and what one entry makes of it but for the copies.
use Rattle.std.proofs.Common.{◌≡◌, ◌⊎◌, inl, inr, ℕ, ◌+◌, ◌-◌, ◌<◌, ◌≤◌, ◌==◌, nat_lt, Bool, true, false, not, ◌&&◌, ◌||◌, List, [], ◌∷◌, ◌++◌, length, fold, Some, if◌then◌else◌, arith, sym, subst, ap, ◌∙◌, refl}
use Rattle.std.specs.Prelude.{⊤, slice_get}
use Rattle.std.specs.List.{AllByRecursion}
use Rattle.std.proofs.lemmas.Bool.{and_parts, true≢false}
use Rattle.std.proofs.lemmas.List.Sums.{fold-append}
use Rattle.raid_base.specs.declared.names.Txn.{Txn}
use Rattle.raid_base.specs.declared.names.Item.{Item}
use Rattle.raid_base.specs.declared.names.Site.{Site}
use Rattle.raid_base.specs.declared.entry.Entry.{Entry}
use Rattle.raid_base.specs.declared.entry.Entry.TheVariants.{Read, Commit, Abort, Ack, Down, Up}
use Rattle.raid_base.specs.declared.entry.Noted.{Noted}
use Rattle.raid_base.specs.Names.{is_txn, is_site, has_site, holds}
use Rattle.raid_base.specs.Sites.{session, site}
use Rattle.raid_workload.specs.declared.workload.Workload.{Workload}
use Rattle.raid_workload.specs.Parts.{home}
use Rattle.raid_rules.specs.Entries.{writes_of, writes_item, is_commit_of}
use Rattle.raid_rules.specs.History.{noted, add, next, has_committed, has_ended, version}
use Rattle.raid_rules.specs.Sessions.{last_session, owes, turn_owed, turn_vector, turn_last}
use Rattle.raid_rules.proofs.Push.{vector_push, owes_push, number_of_push, same_txn}
use Rattle.raid_legal.specs.Seen.{vector, is_up}
use Rattle.raid_message.specs.declared.letter.Message.{Message}
use Rattle.raid_message.specs.declared.letter.Message.TheVariants as letters
use Rattle.raid_message.specs.declared.letter.Letter.{Letter}
use Rattle.raid_steps.specs.State.{Out, SiteState, to_site}
use Rattle.raid_steps.specs.Fits.{knows_site}
use Rattle.raid_steps.specs.Sequencer as rows
use Rattle.raid_steps.specs.World.{link, post}
use Rattle.raid_steps.proofs.Parts.{number_known}
use Rattle.raid_placed.specs.Placed.{Placeable}
use Rattle.raid_sessions.proofs.Ledger.{session_set}
use Rattle.raid_sessions.proofs.Lists.{all_append, all_weaken, get_below, set_long}
use Rattle.raid_sessions.proofs.Mail.{AreSquare, letter_of, letters_to, posts_here, posts_square}
use Rattle.raid_asks.proofs.Facts.{or_parts}
use Rattle.raid_asks.proofs.Notes.{all_sent}
use Rattle.raid_letters.specs.Says.{is_applied}
use Rattle.raid_letters.proofs.Sends.{same_site}
use Rattle.raid_layers.proofs.Histories.{any_kept, committed_ended}
use Rattle.raid_versions.specs.Versions.{was_written_by, IsLive, LastVersions, Told}
use Rattle.raid_versions.proofs.Grown.{Was, was, risen, Grows}
use Rattle.raid_versions.proofs.Links.{IsAlike, AreAlike, IsUnread, IsUnapplied, AppliesOnly, ApplyOnly, AreForOthers}
use Rattle.raid_versions.proofs.Placing.{commit_whole, commit_runs, holder_up, up_was_down}
use Rattle.raid_versions.proofs.Sent.{posts_others, place_is, SendsOf, sends_of}
use Rattle.raid_versions.proofs.Steps.{Why}
use Rattle.raid_versions.proofs.Written.{at_number, at_push, at_parts, at_kept, at_last, numbered, version_long, long_push}

-- what is to be applied at a site was applied there
abbrev pub ApplySays : List Noted → Site → Message → Type 0
ApplySays p here (letters.Apply t n) = at_number (is_applied t here) p n ≡ true
ApplySays p here other = ⊤

-- a site is down or in its last session
pub record Stands (now last : ℕ) : Type 0 where
  pub some : 1 ≤ last
  pub so : (now ≡ 0) ⊎ (now ≡ last)

module _ (w : Workload) (sites : List SiteState) where
  pub record Mid (p : List Noted) (links : List (List (List Letter))) : Type 0 where
    pub square : AreSquare (w.sites + 2) links
    pub last : LastVersions p sites links
    pub applied : (k : ℕ) → k < w.sites → AllByRecursion (λ (l : Letter). ApplySays p (site (k + 1)) l.message) (link links (k + 2) 1)
    pub past : (k : ℕ) → k < w.sites → AllByRecursion (λ (l : Letter). l.to ≤ last_session p (site (k + 1))) (link links (k + 2) 1)
    pub vectors : length (vector w p) ≡ w.sites
    pub stand : (k : ℕ) → k < w.sites → Stands (session (vector w p) (site (k + 1))) (last_session p (site (k + 1)))
    pub owers : (k : ℕ) → k < w.sites → (t : Txn) → owes p (site (k + 1)) t ≡ true → 1 ≤ session (vector w p) (site (k + 1))

  -- live sites are up in the history
  abbrev pub Alive : List Noted → Type 0
  Alive p = (k : ℕ) (s : SiteState) → IsLive p sites k s → session (vector w p) (site (k + 1)) ≡ s.session

  -- a letter of a site to the sequencer tells what is so of the site, in the history before it
  abbrev pub IsTold : ℕ → Letter → List Noted → Type 0
  IsTold from letter first = (k : ℕ) (s : SiteState) → from ≡ k + 2 → slice_get sites k ≡ Some s → Told first s letter.message

-- one more entry
pub last_push : (p : List Noted) (e : Entry) (s : Site) → last_session (add p e) s ≡ turn_last s (last_session p s) e
last_push p e s = fold-append (λ last n. turn_last s last n.entry) 1 p (next p e ∷ [])

pub owes_now : (p : List Noted) (e : Entry) (s : Site) (t : Txn) → owes (add p e) s t ≡ turn_owed s t (owes p s t) e
owes_now p e s t = owes_push p (next p e) s t

pub version_now : (p : List Noted) (e : Entry) (x : Item) → version (add p e) x ≡ (if holds x (writes_of e) then length p + 1 else version p x)
version_now p e x = number_of_push (λ e. holds x (writes_of e)) p (next p e)

-- each site keeps its place in the vector
pub sized_push : (w : Workload) (p : List Noted) (e : Entry) → length (vector w p) ≡ w.sites → length (vector w (add p e)) ≡ w.sites
sized_push w p e sized = ap length (vector_push w.sites p (next p e)) ∙ go e
  where
    go : (e : Entry) → length (turn_vector (vector w p) e) ≡ w.sites
    go (Down r) = set_long (vector w p) (r.0 - 1) 0 ∙ sized
    go (Up r n) = set_long (vector w p) (r.0 - 1) n ∙ sized
    go other = sized

-- with a new number, what was written stays
pub old_number : (test : Entry → Bool) (p : List Noted) (e : Entry) (n : ℕ) → n ≤ length p → at_number test (add p e) n ≡ at_number test p n
old_number test p e n low = at_push test p e n ∙ go (at_number test p n) (length p + 1 == n) (test e) (differ (length p) n low)
  where
    differ : (a n : ℕ) → n ≤ a → (a + 1 == n) ≡ false
    differ a n low = grind (arith, low)

    go : (a b c : Bool) → b ≡ false → (a || (b && c)) ≡ a
    go true b c q = refl
    go false true c q = absurd (true≢false q)
    go false false c q = refl

module _ (w : Workload) (sites : List SiteState) (long : length sites ≡ w.sites) (from : ℕ) (letter : Letter) (first : List Noted)
    (h : List Entry) (links : List (List (List Letter))) (clock ask : ℕ) (e : Entry) (mid : Mid w sites (noted h) links) (goes : Placeable w (noted h) e) (why : Why w from letter first (noted h) e) where
  abbrev pub p : List Noted
  p = noted h

  abbrev pub q : List Noted
  q = add (noted h) e

  abbrev pub outs : List Out
  outs = rows.sends w (add (noted h) e) ask e

  abbrev pub after : List (List (List Letter))
  after = fold (post 1 0 clock) links (rows.sends w (add (noted h) e) ask e)

  abbrev pub new : ℕ → List Letter
  new k = letters_to (k + 2) 0 clock (rows.sends w (add (noted h) e) ask e)

  pub inside : (k : ℕ) (s : SiteState) → slice_get sites k ≡ Some s → k < w.sites
  inside k s at = (let b = get_below sites k s at in omega (arith, b, long))

  pub known : (k : ℕ) → k < w.sites → knows_site w (site (k + 1)) ≡ true
  known k low = number_known w k (omega (arith, low))

  pub notes_are : (k : ℕ) → k < w.sites → link after (k + 2) 1 ≡ link links (k + 2) 1 ++ new k
  notes_are k low = posts_here (w.sites + 2) 1 0 clock outs links (k + 2) mid.square (omega arith) (omega (arith, low))

  -- sessions
  vector_now : vector w q ≡ turn_vector (vector w p) e
  vector_now = vector_push w.sites p (next p e)

  pub stand_now : (k : ℕ) → k < w.sites → Stands (session (vector w q) (site (k + 1))) (last_session q (site (k + 1)))
  stand_now k low =
      subst (λ z. Stands z (last_session q (site (k + 1)))) (sym (ap (λ v. session v (site (k + 1))) vector_now))
      (subst (λ z. Stands (session (turn_vector (vector w p) e) (site (k + 1))) z) (sym (last_push p e (site (k + 1)))) (go e why))
    where
      old : Stands (session (vector w p) (site (k + 1))) (last_session p (site (k + 1)))
      old = mid.stand k low

      fall : (b : Bool) → Stands (if b then 0 else session (vector w p) (site (k + 1))) (last_session p (site (k + 1)))
      fall true = record { some = old.some; so = inl refl }
      fall false = old

      rise : (b : Bool) (n : ℕ) (r : Site) → is_site (site (k + 1)) r ≡ b → last_session p r < n → Stands (if b then n else session (vector w p) (site (k + 1))) (if b then n else last_session p (site (k + 1)))
      rise true n r is more = record { some = omega (arith, more); so = inr refl }
      rise false n r is more = old

      go : (e : Entry) → Why w from letter first p e → Stands (session (turn_vector (vector w p) e) (site (k + 1))) (turn_last (site (k + 1)) (last_session p (site (k + 1))) e)
      go (Down r) y = subst (λ z. Stands z (last_session p (site (k + 1)))) (sym (session_set w (vector w p) r (site (k + 1)) 0 mid.vectors y (known k low))) (fall (is_site (site (k + 1)) r))
      go (Up r n) y = subst (λ z. Stands z (if is_site (site (k + 1)) r then n else last_session p (site (k + 1)))) (sym (session_set w (vector w p) r (site (k + 1)) n mid.vectors y.0 (known k low))) (rise (is_site (site (k + 1)) r) n r refl y.1)
      go other y = old

  vectors_now : length (vector w q) ≡ w.sites
  vectors_now = sized_push w p e mid.vectors

  -- no last session falls
  pub last_grows : (k : ℕ) → k < w.sites → last_session p (site (k + 1)) ≤ last_session q (site (k + 1))
  last_grows k low = subst (λ z. last_session p (site (k + 1)) ≤ z) (sym (last_push p e (site (k + 1)))) (go e why)
    where
      rise : (b : Bool) (n : ℕ) (r : Site) → is_site (site (k + 1)) r ≡ b → last_session p r < n → last_session p (site (k + 1)) ≤ (if b then n else last_session p (site (k + 1)))
      rise true n r is more = (let same = ap (last_session p) (sym (same_site (site (k + 1)) r is)) in omega (arith, same, more))
      rise false n r is more = omega arith

      go : (e : Entry) → Why w from letter first p e → last_session p (site (k + 1)) ≤ turn_last (site (k + 1)) (last_session p (site (k + 1))) e
      go (Up r n) y = rise (is_site (site (k + 1)) r) n r refl y.1
      go other y = omega arith

  -- who owes an Ack is up
  up_is : (n : ℕ) → nat_lt 0 n ≡ true → 1 ≤ n
  up_is n r = grind (arith, r)

  owers_now : (k : ℕ) → k < w.sites → (t : Txn) → owes q (site (k + 1)) t ≡ true → 1 ≤ session (vector w q) (site (k + 1))
  owers_now k low t h =
      subst (λ z. 1 ≤ z) (sym (ap (λ v. session v (site (k + 1))) vector_now)) (go e goes why (sym (owes_now p e (site (k + 1)) t) ∙ h))
    where
      old : owes p (site (k + 1)) t ≡ true → 1 ≤ session (vector w p) (site (k + 1))
      old = mid.owers k low t

      clash : (b : Bool) → not b ≡ true → b ≡ true → ⊥
      clash true a b = true≢false (sym a)
      clash false a b = true≢false (sym b)

      fall : (b : Bool) → not b ≡ true → owes p (site (k + 1)) t ≡ true → 1 ≤ (if b then 0 else session (vector w p) (site (k + 1)))
      fall true a o = absurd (true≢false (sym a))
      fall false a o = old o

      rise : (b : Bool) (n : ℕ) → 1 ≤ n → owes p (site (k + 1)) t ≡ true → 1 ≤ (if b then n else session (vector w p) (site (k + 1)))
      rise true n some o = some
      rise false n some o = old o

      go : (e : Entry) → Placeable w p e → Why w from letter first p e → turn_owed (site (k + 1)) t (owes p (site (k + 1)) t) e ≡ true → 1 ≤ session (turn_vector (vector w p) e) (site (k + 1))
      go (Commit u r applied) g y o = elim (or_parts (owes p (site (k + 1)) t) (is_txn t u && has_site applied (site (k + 1))) o) [
        | inl before ↦ old before
        | inr now ↦ up_is (session (vector w p) (site (k + 1))) (holder_up w p r.writes (site (k + 1)) (subst (λ ss. has_site ss (site (k + 1)) ≡ true) (commit_whole w p u r applied g) (and_parts (is_txn t u) (has_site applied (site (k + 1))) now).1)).0
      ]
      go (Ack u r) g y o = old (and_parts (owes p (site (k + 1)) t) (not (is_txn t u && is_site (site (k + 1)) r)) o).0
      go (Down r) g y o =
          let both = and_parts (owes p (site (k + 1)) t) (not (is_site (site (k + 1)) r)) o in
          subst (λ z. 1 ≤ z) (sym (session_set w (vector w p) r (site (k + 1)) 0 mid.vectors y (known k low))) (fall (is_site (site (k + 1)) r) both.1 both.0)
      go (Up r n) g y o =
          subst (λ z. 1 ≤ z) (sym (session_set w (vector w p) r (site (k + 1)) n mid.vectors y.0 (known k low))) (rise (is_site (site (k + 1)) r) n (let more = y.1 in omega (arith, more)) o)
      go other g y o = old o

  -- what is on its way was applied, and is for sessions that there have been
  apply_old : (here : Site) (m : Message) → ApplySays p here m → ApplySays q here m
  apply_old here (letters.Apply t n) r = at_kept (is_applied t here) p e n r
  apply_old here other r = tt

  abbrev ToSays : Out → Type 0
  ToSays out = (k : ℕ) → out.0 ≡ k + 2 → ApplySays q (site (k + 1)) out.2

  applied_new : AllByRecursion ToSays outs
  applied_new = sends_of w q ask ToSays e (go e refl)
    where
      own : (t : Txn) → is_txn t t ≡ true
      own t = self t.0
        where
          self : (n : ℕ) → (n == n) ≡ true
          self n = grind arith

      go : (d : Entry) → e ≡ d → SendsOf w q ask ToSays d
      go (Read t x s) is = ((λ k of. tt), (λ k of. tt))
      go (Commit t r applied) is = λ s. (
        (λ there k of. subst (λ n. at_number (is_applied t (site (k + 1))) q n ≡ true) (sym (long_push p e))
            (at_last (is_applied t (site (k + 1))) p e (ap (is_applied t (site (k + 1))) is ∙ ap (λ b. b && has_site applied (site (k + 1))) (own t) ∙ subst (λ z. has_site applied z ≡ true) (place_is s k of) there))),
        (λ k of. tt),
      )
      go (Abort t cause act) is = λ s k of. tt
      go (Down r) is = λ s k of. tt
      go (Up r n) is = ((λ k of. tt), (λ s k of. tt))
      go other is = tt

  applied_now : (k : ℕ) → k < w.sites → AllByRecursion (λ (l : Letter). ApplySays q (site (k + 1)) l.message) (link after (k + 2) 1)
  applied_now k low =
      subst (AllByRecursion (λ (l : Letter). ApplySays q (site (k + 1)) l.message)) (sym (notes_are k low))
      (all_append (λ (l : Letter). ApplySays q (site (k + 1)) l.message) (link links (k + 2) 1) (new k)
      (all_weaken (λ (l : Letter). ApplySays p (site (k + 1)) l.message) (λ (l : Letter). ApplySays q (site (k + 1)) l.message) (link links (k + 2) 1) (λ l r. apply_old (site (k + 1)) l.message r) (mid.applied k low))
      (all_sent (λ (l : Letter). ApplySays q (site (k + 1)) l.message) (k + 2) 0 clock outs (all_weaken ToSays (λ (out : Out). out.0 ≡ k + 2 → ApplySays q (site (k + 1)) out.2) outs (λ out r. r k) applied_new)))

  abbrev ToPast : Out → Type 0
  ToPast out = (k : ℕ) → out.0 ≡ k + 2 → k < w.sites → out.1 ≤ last_session q (site (k + 1))

  past_new : AllByRecursion ToPast outs
  past_new = sends_of w q ask ToPast e (go e)
    where
      each : (s : Site) (m : Message) → ToPast (to_site (vector w q) s m)
      each s m k of low =
          let st = stand_now k low in
          let here = ap (session (vector w q)) (place_is s k of) in
          elim st.so [ inl down ↦ omega (arith, here, down) | inr up ↦ omega (arith, here, up) ]

      go : (d : Entry) → SendsOf w q ask ToPast d
      go (Read t x s) = (each s (letters.ReadDo t ask x (home w t) (session (vector w q) (home w t))), each (home w t) (letters.Serving t ask s))
      go (Commit t r applied) = λ s. ((λ there. each s (letters.Apply t (length q))), each s (letters.Done t))
      go (Abort t cause act) = λ s. each s (rows.drop_of w t cause)
      go (Down r) = λ s. each s (letters.DownNote r)
      go (Up r n) = (each r (letters.Welcome (vector w q) (rows.next_number w q r)), (λ s. each s (letters.UpNote r n)))
      go other = tt

  past_now : (k : ℕ) → k < w.sites → AllByRecursion (λ (l : Letter). l.to ≤ last_session q (site (k + 1))) (link after (k + 2) 1)
  past_now k low =
      subst (AllByRecursion (λ (l : Letter). l.to ≤ last_session q (site (k + 1)))) (sym (notes_are k low))
      (all_append (λ (l : Letter). l.to ≤ last_session q (site (k + 1))) (link links (k + 2) 1) (new k)
      (all_weaken (λ (l : Letter). l.to ≤ last_session p (site (k + 1))) (λ (l : Letter). l.to ≤ last_session q (site (k + 1))) (link links (k + 2) 1) (λ l r. (let more = last_grows k low in omega (arith, r, more))) (mid.past k low))
      (all_sent (λ (l : Letter). l.to ≤ last_session q (site (k + 1))) (k + 2) 0 clock outs (all_weaken ToPast (λ (out : Out). out.0 ≡ k + 2 → out.1 ≤ last_session q (site (k + 1))) outs (λ out r of. r k of low) past_new)))

  pub mid_now : LastVersions q sites after → Mid w sites q after
  mid_now last = record { square = posts_square (w.sites + 2) 1 0 clock outs links mid.square; last = last; applied = applied_now; past = past_now; vectors = vectors_now; stand = stand_now; owers = owers_now }

  -- the entry as a part of a step
  by_now : (t : Txn) (x : Item) (n : ℕ) → has_committed p t ≡ true → was_written_by q t x n ≡ true → was_written_by p t x n ≡ true
  by_now t x n done wrote = elim (at_parts (writes_item t x) p e n wrote) [ inl old ↦ old | inr now ↦ absurd (again e goes now.1) ]
    where
      again : (d : Entry) → Placeable w p d → writes_item t x d ≡ true → ⊥
      again (Commit u r applied) g is =
          true≢false (sym (committed_ended p t done) ∙ subst (λ z. has_ended p z ≡ false) (sym (same_txn t u (flip (and_parts (is_txn t u) (holds x r.writes) is).0))) (commit_runs w p u r applied g))
        where
          flip : is_txn t u ≡ true → (t.0 == u.0) ≡ true
          flip r = swap u.0 t.0 r
            where
              swap : (a b : ℕ) → (a == b) ≡ true → (b == a) ≡ true
              swap a b r = grind (arith, r)
      again other g is = true≢false (sym is)

  pub live_now : (k : ℕ) (s : SiteState) → IsLive q sites k s → Was w.sites p q (length p + 1) sites links after new k s
  live_now k s live = go e refl why (sym (last_push p e (site (k + 1))) ∙ live.last)
    where
      others : (n : ℕ) → last_session p (site (k + 1)) < n → n ≡ s.session → AreForOthers s.session (link links (k + 2) 1)
      others n more is = all_weaken (λ (l : Letter). l.to ≤ last_session p (site (k + 1))) (λ (l : Letter). (l.to == s.session) ≡ false) (link links (k + 2) 1) (λ l low. apart l.to (last_session p (site (k + 1))) n s.session low more is) (mid.past k (inside k s live.at))
        where
          apart : (a b n c : ℕ) → a ≤ b → b < n → n ≡ c → (a == c) ≡ false
          apart a b n c low more is = grind (arith, low, more, is)

      -- who comes up was down, and owes nothing
      owing : (r : Site) (n : ℕ) → e ≡ Up r n → site (k + 1) ≡ r → (t : Txn) → owes q (site (k + 1)) t ≡ false
      owing r n is here t = owes_now p e (site (k + 1)) t ∙ ap (turn_owed (site (k + 1)) t (owes p (site (k + 1)) t)) is ∙ none (owes p (site (k + 1)) t) refl
        where
          down : is_up w p (site (k + 1)) ≡ false
          down = ap (is_up w p) here ∙ up_was_down w p r n (subst (Placeable w p) is goes)

          not_up : (n : ℕ) → 1 ≤ n → nat_lt 0 n ≡ false → ⊥
          not_up n some r = grind (arith, some, r)

          none : (b : Bool) → owes p (site (k + 1)) t ≡ b → b ≡ false
          none true o = absurd (not_up (session (vector w p) (site (k + 1))) (mid.owers k (inside k s live.at) t o) down)
          none false o = refl

      sent : (Q : Out → Type 0) (R : Letter → Type 0) → ((out : Out) → Q out → R (letter_of 0 clock out)) → (r : Site) (n : ℕ) → e ≡ Up r n → SendsOf w q ask Q (Up r n) → AllByRecursion R (new k)
      sent Q R each r n is of = all_sent R (k + 2) 0 clock outs (all_weaken Q (λ (out : Out). out.0 ≡ k + 2 → R (letter_of 0 clock out)) outs (λ out h to. each out h) (sends_of w q ask Q e (subst (SendsOf w q ask Q) (sym is) of)))

      rise : (b : Bool) (n : ℕ) (r : Site) → e ≡ Up r n → is_site (site (k + 1)) r ≡ b → last_session p r < n → (if b then n else last_session p (site (k + 1))) ≡ s.session → Was w.sites p q (length p + 1) sites links after new k s
      rise true n r it is more same = risen (others n (subst (λ z. last_session p z < n) (same_site (site (k + 1)) r is) more) same) (owing r n it (sym (same_site (site (k + 1)) r is)))
          (sent (λ (out : Out). IsUnapplied out.2) (λ (l : Letter). IsUnapplied l.message) (λ out h. h) r n it (tt, (λ s. tt))) (sent (λ (out : Out). IsUnread out.2) (λ (l : Letter). IsUnread l.message) (λ out h. h) r n it (tt, (λ s. tt)))
      rise false n r it is more same = was (record { at = live.at; up = live.up; last = same })

      go : (d : Entry) → e ≡ d → Why w from letter first p d → turn_last (site (k + 1)) (last_session p (site (k + 1))) d ≡ s.session → Was w.sites p q (length p + 1) sites links after new k s
      go (Up r n) is y same = rise (is_site (site (k + 1)) r) n r is refl y.1 same
      go other is y same = was (record { at = live.at; up = live.up; last = same })

  alike_now : (k : ℕ) → k < w.sites → (x : Item) → AreAlike p q x (link links (k + 2) 1)
  alike_now k low x = all_weaken (λ (l : Letter). ApplySays p (site (k + 1)) l.message) (λ (l : Letter). IsAlike p q x l.message) (link links (k + 2) 1) (λ l r. go l.message r) (mid.applied k low)
    where
      go : (m : Message) → ApplySays p (site (k + 1)) m → IsAlike p q x m
      go (letters.Apply t n) r = old_number (λ e. holds x (writes_of e)) p e n (numbered h (is_applied t (site (k + 1))) n r).1
      go other r = tt

  pub only_now : (k : ℕ) → k < w.sites → ApplyOnly (length p + 1) (new k)
  only_now k low = all_sent (λ (l : Letter). AppliesOnly (length p + 1) l.message) (k + 2) 0 clock outs (all_weaken (λ (out : Out). AppliesOnly (length p + 1) out.2) (λ (out : Out). out.0 ≡ k + 2 → AppliesOnly (length p + 1) out.2) outs (λ out r of. r) (sends_of w q ask (λ (out : Out). AppliesOnly (length p + 1) out.2) e (go e)))
    where
      go : (d : Entry) → SendsOf w q ask (λ (out : Out). AppliesOnly (length p + 1) out.2) d
      go (Read t x s) = (tt, tt)
      go (Commit t r applied) = λ s. ((λ there. long_push p e), tt)
      go (Abort t cause act) = λ s. tt
      go (Down r) = λ s. tt
      go (Up r n) = (tt, (λ s. tt))
      go other = tt

  pub grows_now : Grows w.sites p q (length p + 1) sites links after new
  grows_now = record {
    written = λ x n old. at_kept (λ e. holds x (writes_of e)) p e n old;
    by = by_now;
    committed = λ t old. any_kept (λ n. is_commit_of t n.entry) p (next p e) old;
    below = λ x v is. (let low = version_long h x v is in omega (arith, low));
    inside = inside;
    live = live_now;
    alike = alike_now;
    only = only_now;
    notes = notes_are;
    asks = λ k. inl (posts_others 1 0 clock outs links 1 (k + 2) (λ r. omega (arith, r)));
    peers = λ k j. posts_others 1 0 clock outs links (k + 2) (j + 2) (λ r. omega (arith, r));
  }
