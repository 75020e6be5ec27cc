-- The sequencer's step keeps what holds of each site's programs and Begins.
use Rattle.std.proofs.Common.{◌≡◌, ◌⊎◌, inl, inr, ℕ, suc, ◌+◌, ◌<◌, ◌≤◌, ◌==◌, nat_lt, nat_le, Bool, true, false, ◌&&◌, ◌||◌, List, [], ◌∷◌, ◌++◌, Some, None, if◌then◌else◌, arith, sym, subst, ap, ◌∙◌, refl, append-nil}
use Rattle.std.specs.List.{AllByRecursion}
use Rattle.std.proofs.lemmas.Bool.{and_from, eqb-true, true≢false}
use Rattle.raid_base.specs.declared.names.Txn.{Txn}
use Rattle.raid_base.specs.declared.names.Site.{Site}
use Rattle.raid_base.specs.declared.entry.Entry.{Entry}
use Rattle.raid_base.specs.declared.entry.Entry.TheVariants.{Begin}
use Rattle.raid_base.specs.declared.entry.Noted.{Noted}
use Rattle.raid_base.specs.Sites.{session, site}
use Rattle.raid_workload.specs.declared.workload.Workload.{Workload}
use Rattle.raid_workload.specs.Parts.{home}
use Rattle.raid_rules.specs.History.{noted, has_begun}
use Rattle.raid_rules.specs.Sessions.{last_session}
use Rattle.raid_legal.specs.Legal.{may_begin}
use Rattle.raid_legal.specs.Seen.{vector, is_up, again}
use Rattle.raid_legal.specs.Forced.{forced}
use Rattle.raid_message.specs.declared.letter.Message.{Message}
use Rattle.raid_message.specs.declared.letter.Message.TheVariants as letters
use Rattle.raid_message.specs.declared.letter.Letter.{Letter}
use Rattle.raid_steps.specs.State.{Turn, Sequencer, SiteState, opened}
use Rattle.raid_steps.specs.Fits.{is_to_sequencer}
use Rattle.raid_steps.specs.Sequencer as rows
use Rattle.raid_steps.specs.Sequencer.{so_far, place, is_hello, finish, hear_sequencer}
use Rattle.raid_placed.specs.Placed.{Placed, Placeable}
use Rattle.raid_placed.proofs.Heard.{sent_placed}
use Rattle.raid_placed.proofs.Sent.{unforced_placeable}
use Rattle.raid_sessions.proofs.Ledger.{last_still, session_still}
use Rattle.raid_sessions.proofs.Lists.{all_weaken}
use Rattle.raid_sessions.proofs.Mail.{letters_to}
use Rattle.raid_asks.proofs.Begun.{begins_now, counts_taken, fine_taken}
use Rattle.raid_asks.proofs.Cares.{Stage, stopped, asleep, fresh, awake}
use Rattle.raid_asks.proofs.Entries.{IsQuiet, begun_is, again_on}
use Rattle.raid_asks.proofs.Facts.{or_right}
use Rattle.raid_asks.proofs.Least.{known_txn}
use Rattle.raid_asks.proofs.Line.{FineAt, CountsAt}
use Rattle.raid_asks.proofs.Steps.{Steps, hear_steps, finish_steps}
use Rattle.raid_asks.proofs.Turns.{IsHello, Now, sleeping, welcomed, awake as runs, gone, Then, steps_then}
use Rattle.raid_asks.specs.Way.{begun_by, begins_of as begins}

-- no Begin among letters of which the first is one more
fewer : (m : ℕ) (l : Letter) (ls : List Letter) → begins m (l ∷ ls) ≡ [] → begins m ls ≡ []
fewer m l ls q = go (l.from == m) (begun_by l.message) q
  where
    go : (b : Bool) (ts : List Txn) → (if b then ts ++ begins m ls else begins m ls) ≡ [] → begins m ls ≡ []
    go true [] q = q
    go true (t ∷ ts) q = absurd (some q) where
      some : t ∷ (ts ++ begins m ls) ≡ [] → ⊥
      some q = cc q
    go false ts q = q

module _ (w : Workload) (k from clock : ℕ) (letter : Letter) (s : Sequencer) (state : SiteState) (notes : List Letter) (inside : k < w.sites) (placed : Placed w s.history) (quiet : forced w (noted s.history) ≡ None) where
  abbrev here : Site
  here = site (k + 1)

  abbrev m : ℕ
  m = state.session

  abbrev p : List Noted
  p = noted s.history

  abbrev turn : Turn Sequencer
  turn = hear_sequencer w s from letter

  abbrev after : List Letter
  after = notes ++ letters_to (k + 2) 0 clock turn.outs

  module _ (hello : IsHello w k m from letter p inside clock) (still_up : state.up ≡ true → last_session (so_far turn) here ≡ m → is_up w (so_far turn) here ≡ true)
      (most : session (vector w p) here ≤ last_session p here) (early : AllByRecursion (λ (l : Letter). l.to ≤ last_session p here) notes) (told_up : state.up ≡ true → last_session p here ≡ m → session (vector w p) here ≡ m) (some : state.up ≡ true → last_session p here ≡ m → 1 ≤ m) where
    abbrev Ends : List Txn → Type 0
    Ends bs = Stage w k (so_far turn) state.up m state.running state.next bs after

    ends : (bs : List Txn) → state.up ≡ true → Then w k m from letter p inside clock hello state.running state.next bs (so_far turn) after → Ends bs
    ends bs up (sess, now) = go now
      where
        go : Now w k m from letter p inside clock hello state.running state.next bs (so_far turn) after → Ends bs
        go (sleeping l r n b e) = asleep up l r n b
        go (welcomed l q r n b e) = fresh up l r n b e
        go (runs l q f c) = awake up l f c
        go (gone l down) = absurd (true≢false (sym (still_up up l) ∙ down))

    -- the steps, from where they begin
    stepped : (bs : List Txn) → state.up ≡ true → (a : Turn Sequencer) → Steps w from letter p a turn → Then w k m from letter p inside clock hello state.running state.next bs (so_far a) (notes ++ letters_to (k + 2) 0 clock a.outs) → Ends bs
    stepped bs up a steps t = ends bs up (steps_then w k m from letter p inside clock hello state.running state.next bs notes a turn steps t)

    opened_steps : Steps w from letter p (opened s) turn
    opened_steps = hear_steps w from letter p s from refl refl placed quiet

    from_open : (bs : List Txn) → state.up ≡ true → Now w k m from letter p inside clock hello state.running state.next bs p notes → Ends bs
    from_open bs up now = stepped bs up (opened s) opened_steps (subst (λ ns. Then w k m from letter p inside clock hello state.running state.next bs p ns) (sym (append-nil notes)) (most, now))

    sleeps : (bs : List Txn) → state.up ≡ true → last_session p here < m → state.running ≡ [] → state.next ≡ 0 → bs ≡ [] → Ends bs
    sleeps bs up l r n b = from_open bs up (sleeping l r n b (all_weaken (λ (l : Letter). l.to ≤ last_session p here) _ notes (λ x le to. absurd (let same = eqb-true x.to m to in omega (arith, le, l, same))) early))

    -- the letter is no Begin of the site's, or does nothing
    pub silent : (bs : List Txn) → (IsQuiet w k m from letter p p) ⊎ (turn ≡ opened s) → Stage w k p state.up m state.running state.next bs notes → Ends bs
    silent bs how (stopped d r n) = stopped d r n
    silent bs how (asleep u l r n b) = sleeps bs u l r n b
    silent bs (inl how) (fresh u l r n b e) = from_open bs u (welcomed l how r n b e)
    silent bs (inl how) (awake u l f c) = from_open bs u (runs l how f c)
    silent bs (inr same) stage = subst (λ (x : Turn Sequencer). Stage w k (so_far x) state.up m state.running state.next bs (notes ++ letters_to (k + 2) 0 clock x.outs)) (sym same)
        (subst (λ ns. Stage w k p state.up m state.running state.next bs ns) (sym (append-nil notes)) stage)

    -- the site's own letter
    module _ (of : from ≡ k + 2) where
      abbrev valid : Message → Bool
      valid message = (is_hello message || letter.from == session (vector w p) here) && is_to_sequencer w message

      heard_is : turn ≡ (if valid letter.message then finish w s (rows.site_row w (opened s) here letter.from letter.message) else opened s)
      heard_is = ap (λ f. hear_sequencer w s f letter) (of ∙ place k)
        where
          place : (k : ℕ) → k + 2 ≡ suc (suc k)
          place k = omega arith

      -- a Begin of another session
      stale : (t : Txn) → letter.message ≡ letters.Begin t → state.up ≡ true → last_session p here ≡ m → (letter.from == m) ≡ false → turn ≡ opened s
      stale t is up l other =
          heard_is ∙ ap (λ b. if b then finish w s (rows.site_row w (opened s) here letter.from letter.message) else opened s)
          (ap valid is ∙ ap (λ v. (false || letter.from == v) && is_to_sequencer w (letters.Begin t)) (told_up up l) ∙ ap (λ b. (false || b) && is_to_sequencer w (letters.Begin t)) other)

      -- a Begin of this one
      taken : (t : Txn) → letter.message ≡ letters.Begin t → state.up ≡ true → last_session p here ≡ m → letter.from ≡ m → (bs : List Txn) → AllByRecursion (λ r. FineAt w here p (t ∷ bs) r.txn) state.running → CountsAt w here p m notes (t ∷ bs) state.next → Ends bs
      taken t is up l mine bs fine c = stepped bs up begun steps (subst (λ ns. Then w k m from letter p inside clock hello state.running state.next bs q ns) (sym (append-nil notes)) (less, runs (last_still w s.history e here refl ∙ l) now_quiet (fine_taken w here p t bs state.next c.line c.counts q is_begun kept state.running fine) (counts_taken w here p t bs state.next c.line c.counts q is_begun kept m notes c.notes)))
        where
          e : Entry
          e = Begin t (home w t)

          q : List Noted
          q = noted (s.history ++ Begin t (home w t) ∷ [])

          begun : Turn Sequencer
          begun = place w 0 (opened s) (Begin t (home w t))

          lt : (n : ℕ) → 1 ≤ n → nat_lt 0 n ≡ true
          lt n q = grind (arith, q)

          may : may_begin w p t ≡ true
          may = begins_now w here p t bs state.next c.line c.counts (lt (session (vector w p) here) (let a = told_up up l in let b = some up l in omega (arith, a, b)))

          goes : Placeable w p (Begin t (home w t))
          goes = unforced_placeable w p (Begin t (home w t)) quiet (refl, may)

          is_begun : (u : Txn) → has_begun (noted (s.history ++ Begin t (home w t) ∷ [])) u ≡ (has_begun p u || (t.0 == u.0))
          is_begun u = begun_is w k m from letter p s.history (Begin t (home w t)) placed goes u

          kept : (u : Txn) → again w p u ≡ true → again w (noted (s.history ++ Begin t (home w t) ∷ [])) u ≡ true
          kept u d = again_on w k m from letter p s.history (Begin t (home w t)) placed goes u refl d

          same_txn : (u : Txn) → letters.Begin t ≡ letters.Begin u → t ≡ u
          same_txn u q = cc q

          self : (n : ℕ) → (n == n) ≡ true
          self n = grind arith

          now_quiet : IsQuiet w k m from letter p (noted (s.history ++ Begin t (home w t) ∷ []))
          now_quiet u r = inr (subst (λ u. has_begun (noted (s.history ++ Begin t (home w t) ∷ [])) u ≡ true) (same_txn u (sym is ∙ r)) (is_begun t ∙ or_right (has_begun p t) (t.0 == t.0) (self t.0)))

          less : session (vector w (noted (s.history ++ Begin t (home w t) ∷ []))) here ≤ last_session (noted (s.history ++ Begin t (home w t) ∷ [])) here
          less = (let a = session_still w s.history (Begin t (home w t)) here refl in let b = last_still w s.history (Begin t (home w t)) here refl in let c = most in omega (arith, a, b, c))

          small : (n most : ℕ) → n < 1 + most → nat_le n most ≡ true
          small n most q = grind (arith, q)

          large : (n : ℕ) → 1 ≤ n → nat_le 1 n ≡ true
          large n q = grind (arith, q)

          same_number : (a b : ℕ) → a ≡ b → (a == b) ≡ true
          same_number a b q = grind (arith, q)

          known_so : is_to_sequencer w (letters.Begin t) ≡ true
          known_so = (let r = known_txn w t c.line.0.ours.known in and_from (nat_le 1 t.0) _ (large t.0 r.0) (small t.0 _ r.1))

          heard : turn ≡ finish w s (place w 0 (opened s) (Begin t (home w t)))
          heard = heard_is
              ∙ ap (λ b. if b then finish w s (rows.site_row w (opened s) here letter.from letter.message) else opened s)
              (ap valid is ∙ and_from (false || letter.from == session (vector w p) here) (is_to_sequencer w (letters.Begin t)) (same_number letter.from (session (vector w p) here) (mine ∙ sym (told_up up l))) known_so)
              ∙ ap (λ message. finish w s (rows.site_row w (opened s) here letter.from message)) is
              ∙ ap (λ b. finish w s (rows.place_if w 0 (opened s) (if b then Some (Begin t (home w t)) else None))) may

          steps : Steps w from letter p (place w 0 (opened s) (Begin t (home w t))) turn
          steps = subst (Steps w from letter p (place w 0 (opened s) (Begin t (home w t)))) (sym heard) (finish_steps w from letter p s (place w 0 (opened s) (Begin t (home w t))) (sent_placed w 0 (opened s) (Begin t (home w t)) (placed, quiet) (refl, may)))

      -- whatever it is
      pub own_letter : (rest : List Letter) → Stage w k p state.up m state.running state.next (begins m (letter ∷ rest)) notes → Ends (begins m rest)
      own_letter rest stage = go letter.message refl
        where
          plain : (message : Message) → letter.message ≡ message → begun_by message ≡ [] → begins m (letter ∷ rest) ≡ begins m rest
          plain message is none = ap (λ ts. if letter.from == m then ts ++ begins m rest else begins m rest) (ap begun_by is ∙ none) ∙ either (letter.from == m)
            where
              either : (b : Bool) → (if b then begins m rest else begins m rest) ≡ begins m rest
              either true = refl
              either false = refl

          calm : (message : Message) → letter.message ≡ message → begun_by message ≡ [] → ((u : Txn) → message ≡ letters.Begin u → ⊥) → Ends (begins m rest)
          calm message is none other = silent (begins m rest) (inl (λ u b. absurd (other u (sym is ∙ b)))) (subst (λ bs. Stage w k p state.up m state.running state.next bs notes) (plain message is none) stage)

          begin : (t : Txn) → letter.message ≡ letters.Begin t → (b : Bool) → (letter.from == m) ≡ b → Stage w k p state.up m state.running state.next (if b then begun_by letter.message ++ begins m rest else begins m rest) notes → Ends (begins m rest)
          begin t is b same (stopped d r n) = stopped d r n
          begin t is false other (asleep u l r n none) = sleeps (begins m rest) u l r n none
          begin t is true same (asleep u l r n none) = sleeps (begins m rest) u l r n (fewer m letter rest (ap (λ b. if b then begun_by letter.message ++ begins m rest else begins m rest) same ∙ none))
          begin t is false other (fresh u l r n none e) = silent (begins m rest) (inr (stale t is u l other)) (fresh u l r n none e)
          begin t is true same (fresh u l r n none e) = absurd (some_begin (sym (ap (λ x. begun_by x ++ begins m rest) is) ∙ none))
            where
              some_begin : t ∷ begins m rest ≡ [] → ⊥
              some_begin q = cc q
          begin t is false other (awake u l f c) = silent (begins m rest) (inr (stale t is u l other)) (awake u l f c)
          begin t is true same (awake u l f c) =
              let front = ap (λ x. begun_by x ++ begins m rest) is in
              taken t is u l (eqb-true letter.from m same) (begins m rest) (subst (λ bs. AllByRecursion (λ r. FineAt w here p bs r.txn) state.running) front f) (subst (λ bs. CountsAt w here p m notes bs state.next) front c)

          go : (message : Message) → letter.message ≡ message → Ends (begins m rest)
          go (letters.Begin t) is = begin t is (letter.from == m) refl stage
          go other is = calm other is refl (λ u q. cc q)
