-- A site's step keeps what holds of its programs and of its Begins on the way.
use Rattle.std.proofs.Common.{◌≡◌, inl, inr, ℕ, suc, ◌+◌, ◌*◌, ◌<◌, ◌≤◌, ◌==◌, nat_le, Bool, true, false, ◌&&◌, List, [], ◌∷◌, ◌++◌, length, if◌then◌else◌, arith, sym, subst, ap, ◌∙◌, refl, append-nil}
use Rattle.std.specs.List.{AllByRecursion}
use Rattle.std.proofs.lemmas.Bool.{and_from, eqb-true, true≢false}
use Rattle.raid_base.specs.declared.names.Txn.{Txn}
use Rattle.raid_base.specs.declared.entry.Noted.{Noted}
use Rattle.raid_base.specs.Sites.{site}
use Rattle.raid_workload.specs.declared.workload.Workload.{Workload}
use Rattle.raid_rules.specs.Sessions.{last_session}
use Rattle.raid_message.specs.declared.letter.Message.{Message}
use Rattle.raid_message.specs.declared.letter.Message.TheVariants as letters
use Rattle.raid_message.specs.declared.letter.Letter.{Letter}
use Rattle.raid_steps.specs.State.{Out, Turn, Running, SiteState, opened, with_state}
use Rattle.raid_steps.specs.Fits.{knows_vector, is_of_sequencer}
use Rattle.raid_steps.specs.Programs as programs
use Rattle.raid_steps.specs.Site as rows
use Rattle.raid_sessions.proofs.Lists.{all_append, all_weaken}
use Rattle.raid_sessions.proofs.Mail.{letter_of, letters_to}
use Rattle.raid_sessions.proofs.Site.{Stays, hears_server}
use Rattle.raid_moves.specs.Moves.{Ascend}
use Rattle.raid_asks.proofs.Cares.{begins_append, begins_told, none_later, here, IsOurs, AreOurs, Stage, stopped, asleep, fresh, awake, Cares, Still, still_heard, still_told, Runs, runs_turn, runs_heard, runs_told}
use Rattle.raid_asks.proofs.Least.{Ours, known_txn}
use Rattle.raid_asks.proofs.Line.{Line, CountsAt, FineNow, CountsNow, next_begins}
use Rattle.raid_asks.proofs.Notes.{Welcoming, WelcomeOk}
use Rattle.raid_moves.specs.Moves.{Hears, Tells, Moves, at_welcome}
use Rattle.raid_moves.proofs.Steps.{on, ascend_moves, starts, asks_commits}
use Rattle.raid_asks.proofs.Programs.{told, Kept, moves_keep}
use Rattle.raid_asks.specs.Way.{begun_by, begins_of as begins}

module _ (w : Workload) (k : ℕ) (p : List Noted) where
  -- what is told is of the site's own
  due_tail : (xs ys : List Txn) → Line w (here w k) p (xs ++ ys) → AllByRecursion (Ours w (here w k)) ys
  due_tail [] ys l = ours ys l
    where
      ours : (ys : List Txn) → Line w (here w k) p ys → AllByRecursion (Ours w (here w k)) ys
      ours [] l = tt
      ours (y ∷ ys) l = (l.0.ours, ours ys l.1.1)
  due_tail (x ∷ xs) ys l = due_tail xs ys l.1.1

  told_ours : (m clock : ℕ) (outs : List Out) → AllByRecursion (Ours w (here w k)) (told outs) → AreOurs w k (letters_to 1 m clock outs)
  told_ours m clock [] a = tt
  told_ours m clock (out ∷ outs) a = go (out.0 == 1) a (told_ours m clock outs)
    where
      one : (message : Message) (ts : List Txn) → AllByRecursion (Ours w (here w k)) (begun_by message ++ ts) → IsOurs w k message × AllByRecursion (Ours w (here w k)) ts
      one (letters.Begin t) ts a = a
      one other ts a = (tt, a)

      go : (b : Bool) → AllByRecursion (Ours w (here w k)) (if b then begun_by out.2 ++ told outs else told outs) → (AllByRecursion (Ours w (here w k)) (told outs) → AreOurs w k (letters_to 1 m clock outs)) → AreOurs w k (if b then letter_of m clock out ∷ letters_to 1 m clock outs else letters_to 1 m clock outs)
      go true a rest = (let both = one out.2 (told outs) a in (both.0, rest both.1))
      go false a rest = rest a

  sent_now : (m clock : ℕ) (outs : List Out) → AllByRecursion (λ (l : Letter). l.from ≤ m) (letters_to 1 m clock outs)
  sent_now m clock [] = tt
  sent_now m clock (out ∷ outs) = go (out.0 == 1) (sent_now m clock outs)
    where
      go : (b : Bool) → AllByRecursion (λ (l : Letter). l.from ≤ m) (letters_to 1 m clock outs) → AllByRecursion (λ (l : Letter). l.from ≤ m) (if b then letter_of m clock out ∷ letters_to 1 m clock outs else letters_to 1 m clock outs)
      go true rest = (omega arith, rest)
      go false rest = rest

  module _ (state : SiteState) (asks : List Letter) (clock : ℕ) (place : state.site ≡ site (k + 1)) (ascend : Ascend state.running) where
    after : Turn SiteState → List Letter
    after turn = asks ++ letters_to 1 turn.state.session clock turn.outs

    begins_after : (turn : Turn SiteState) → turn.state.session ≡ state.session → begins turn.state.session (after turn) ≡ begins state.session asks ++ told turn.outs
    unfolding after
    begins_after turn q = ap (λ n. begins n (asks ++ letters_to 1 n clock turn.outs)) q ∙ begins_append state.session asks (letters_to 1 state.session clock turn.outs) ∙ ap (λ ts. begins state.session asks ++ ts) (begins_told state.session clock turn.outs)

    module _ (sent : AllByRecursion (λ (l : Letter). l.from ≤ state.session) asks) (known : AreOurs w k asks) (notes : List Letter) where
      cares : (turn : Turn SiteState) → turn.state.session ≡ state.session → AllByRecursion (Ours w (here w k)) (told turn.outs) →
          Stage w k p turn.state.up turn.state.session turn.state.running turn.state.next (begins turn.state.session (after turn)) notes → Cares w k p turn.state (after turn) notes
      unfolding after
      cares turn q ours stage = record {
        sent = subst (λ n. AllByRecursion (λ (l : Letter). l.from ≤ n) (asks ++ letters_to 1 n clock turn.outs)) (sym q) (all_append (λ (l : Letter). l.from ≤ state.session) asks (letters_to 1 state.session clock turn.outs) sent (sent_now state.session clock turn.outs));
        known = all_append (λ (l : Letter). IsOurs w k l.message) asks (letters_to 1 turn.state.session clock turn.outs) known (told_ours turn.state.session clock turn.outs ours);
        stage = stage;
      }

      -- nothing begins
      still_cares : (turn : Turn SiteState) → turn.state.session ≡ state.session → begins state.session asks ≡ [] → Still w k p state place ascend turn →
          ((begins turn.state.session (after turn) ≡ []) → Stage w k p turn.state.up turn.state.session turn.state.running turn.state.next (begins turn.state.session (after turn)) notes) → Cares w k p turn.state (after turn) notes
      still_cares turn q none still stage =
          cares turn q (subst (AllByRecursion (Ours w (here w k))) (sym still.1.1) tt)
          (stage (begins_after turn q ∙ ap (λ ts. ts ++ told turn.outs) none ∙ still.1.1))

      -- programs run
      runs_cares : (turn : Turn SiteState) → turn.state.session ≡ state.session → turn.state.up ≡ true → last_session p (here w k) ≡ state.session → Runs w k p state place ascend state.session refl (begins state.session asks) notes turn → Cares w k p turn.state (after turn) notes
      runs_cares turn q up last runs =
          cares turn q (due_tail (begins state.session asks) (told turn.outs) runs.1.line)
          (subst (λ bs. Stage w k p turn.state.up turn.state.session turn.state.running turn.state.next bs notes) (sym (begins_after turn q))
          (subst (λ n. Stage w k p turn.state.up n turn.state.running turn.state.next (begins state.session asks ++ told turn.outs) notes) (sym q) (awake up last runs.0 runs.1)))

    -- the Welcome
    welcomed : state.up ≡ true → (m : ℕ) (mine : state.session ≡ m) (letter : Letter) (rest : List Letter) → state.running ≡ [] → (letter.to == state.session) ≡ true → WelcomeOk w (here w k) m p letter.message rest → Runs w k p state place ascend m mine [] rest (rows.hear_up w state 1 letter)
    welcomed up m mine letter rest none to ok = subst (λ b. Runs w k p state place ascend m mine [] rest (if b then rows.hear_sequencer w state letter else opened state)) (sym to) (go letter.message refl ok)
      where
        go : (message : Message) → letter.message ≡ message → WelcomeOk w (here w k) m p message rest → Runs w k p state place ascend m mine [] rest (rows.hear_if (is_of_sequencer w message && rows.fits_here w state message) state (rows.sequencer_row w (opened state) message))
        go (letters.Welcome v n) is ok = subst (λ b. Runs w k p state place ascend m mine [] rest (rows.hear_if b state (rows.sequencer_row w (opened state) (letters.Welcome v n)))) (sym fits) (runs_turn w k p state place ascend m mine [] rest (programs.ask_commits begun) kept)
          where
            opening : Turn SiteState
            opening = with_state (opened state) (record state { vector = v; next = n })

            begun : Turn SiteState
            begun = programs.start w (with_state (opened state) (record state { vector = v; next = n }))

            small : (n most : ℕ) → n < 1 + most → nat_le n most ≡ true
            small n most q = grind (arith, q)

            least : (n most : ℕ) → n ≡ 0 → nat_le n most ≡ true
            least n most q = grind (arith, q)

            few : nat_le n (length w.programs * (w.restarts + 1)) ≡ true
            few = elim ok.1.0.0 [
              | inl zero_is ↦ least n (length w.programs * (w.restarts + 1)) zero_is
              | inr found ↦ small n (length w.programs * (w.restarts + 1)) (known_txn w (record { 0 = n }) found.1.ours.known).1
            ]

            fits : (is_of_sequencer w (letters.Welcome v n) && rows.fits_here w state (letters.Welcome v n)) ≡ true
            fits = and_from (is_of_sequencer w (letters.Welcome v n)) (length state.running == 0) (and_from (knows_vector w v) (nat_le n (length w.programs * (w.restarts + 1))) ok.0 few) (ap (λ (rs : List Running). length rs == 0) none)

            heard : Hears state letter
            heard = record { up = up; meant = to }

            says : Tells w state 1 letter (letters.Welcome v n)
            says = record { heard = heard; by = refl; is = is; fits = fits }

            first : Moves w state 1 letter opening begun
            first = starts w state 1 letter (at_welcome v n says) opening

            kept : Kept w (here w k) (FineNow w (here w k) p m rest []) (CountsNow w (here w k) p m rest []) (programs.ask_commits begun)
            kept = moves_keep w (here w k) (FineNow w (here w k) p m rest []) (CountsNow w (here w k) p m rest []) state 1 letter (next_begins w (here w k) p m rest []) (on w state 1 letter first (asks_commits w state 1 letter heard begun (ascend_moves w state 1 letter ascend first))) ascend
                ([], (refl, record { site = place; fine = subst (λ rs. AllByRecursion (λ (r : Running). FineNow w (here w k) p m rest [] [] r.txn) rs) (sym none) tt; counts = record { line = tt; counts = ok.1.0; notes = ok.1.1 }; ascend = ascend }))
        go other is ok = absurd ok

    -- the whole step
    module _ (notes : List Letter) (c : Cares w k p state asks notes) (within : AllByRecursion (λ (l : Letter). l.to ≤ last_session p (here w k)) notes) (follows : last_session p (here w k) ≤ state.session) where
      pub same_cares : (s : SiteState) (left : List Letter) → Cares w k p s asks left → Cares w k p s (asks ++ []) left
      same_cares s left c = subst (λ a. Cares w k p s a left) (sym (append-nil asks)) c

      pub halts : (message : Message) → Cares w k p (rows.stop w state message).state (asks ++ letters_to 1 (rows.stop w state message).state.session clock (rows.stop w state message).outs) notes
      halts letters.Stop = same_cares (rows.stop w state letters.Stop).state notes (record { sent = c.sent; known = c.known; stage = stopped refl refl refl })
      halts other = same_cares state notes c

      pub restarts : state.up ≡ false → (message : Message) → Cares w k p (rows.return state message).state (asks ++ letters_to 1 (rows.return state message).state.session clock (rows.return state message).outs) notes
      restarts down letters.Return = record {
        sent = all_append (λ (l : Letter). l.from ≤ state.session + 1) asks (hello ∷ []) (all_weaken (λ (l : Letter). l.from ≤ state.session) (λ (l : Letter). l.from ≤ state.session + 1) asks (λ l q. omega (arith, q)) c.sent) (omega arith, tt);
        known = all_append (λ (l : Letter). IsOurs w k l.message) asks (hello ∷ []) c.known (tt, tt);
        stage = idle c.stage;
      }
        where
          hello : Letter
          hello = record { clock = clock; from = state.session + 1; to = 0; message = letters.Hello }

          none : begins (state.session + 1) (asks ++ (let l : Letter = record { clock = clock; from = state.session + 1; to = 0; message = letters.Hello } in l) ∷ []) ≡ []
          none = begins_append (state.session + 1) asks _ ∙ ap (λ ts. ts ++ (if state.session + 1 == state.session + 1 then [] else [])) (none_later state.session asks c.sent) ∙ either (state.session + 1 == state.session + 1)
            where
              either : (b : Bool) → (let ts : List Txn = (if b then [] else []) in ts) ≡ []
              either true = refl
              either false = refl

          up_false : true ≡ false → ⊥
          up_false q = true≢false q

          idle : Stage w k p state.up state.session state.running state.next (begins state.session asks) notes → Stage w k p true (state.session + 1) state.running state.next (begins (state.session + 1) (asks ++ (let l : Letter = record { clock = clock; from = state.session + 1; to = 0; message = letters.Hello } in l) ∷ [])) notes
          idle (stopped d r n) = asleep refl (let f = follows in omega (arith, f)) r n none
          idle (asleep u l r n b) = absurd (true≢false (sym u ∙ down))
          idle (fresh u l r n b q) = absurd (true≢false (sym u ∙ down))
          idle (awake u l f q) = absurd (true≢false (sym u ∙ down))
      restarts down other = same_cares state notes c

      up_as : (i : ℕ) (letter : Letter) → Stays state.up state.session (rows.hear_up w state (suc i) letter)
      up_as i letter = hears_server w state.up state.session state i letter (refl, refl, refl)

      abbrev pub Goal : Turn SiteState → List Letter → Type 0
      Goal turn left = Cares w k p turn.state (asks ++ letters_to 1 turn.state.session clock turn.outs) left

      pub peers : state.up ≡ true → (i : ℕ) (letter : Letter) → Goal (rows.hear_up w state (suc (suc i)) letter) notes
      unfolding after
      peers up i letter = go c.stage
        where
          turn : Turn SiteState
          turn = rows.hear_up w state (suc (suc i)) letter

          go : Stage w k p state.up state.session state.running state.next (begins state.session asks) notes → Goal (rows.hear_up w state (suc (suc i)) letter) notes
          go (stopped d r n) = absurd (true≢false (sym up ∙ d))
          go (asleep u l r n b) = (let s = still_told w k p state place ascend u r n i letter in let m = (up_as (suc i) letter).1 in still_cares c.sent c.known notes (rows.hear_up w state (suc (suc i)) letter) m b s (λ none. asleep ((up_as (suc i) letter).0 ∙ up) (subst (λ x. last_session p (here w k) < x) (sym m) l) s.0 s.1.0 none))
          go (fresh u l r n b q) = (let s = still_told w k p state place ascend u r n i letter in let m = (up_as (suc i) letter).1 in still_cares c.sent c.known notes (rows.hear_up w state (suc (suc i)) letter) m b s (λ none. fresh ((up_as (suc i) letter).0 ∙ up) (l ∙ sym m) s.0 s.1.0 none (subst (λ x. Welcoming w (here w k) x p notes) (sym m) q)))
          go (awake u l f q) = runs_cares c.sent c.known notes (rows.hear_up w state (suc (suc i)) letter) (up_as (suc i) letter).1 ((up_as (suc i) letter).0 ∙ up) l (runs_told w k p state place ascend state.session refl (begins state.session asks) notes u f q i letter)

      pub notes_taken : state.up ≡ true → (letter : Letter) (rest : List Letter) → notes ≡ letter ∷ rest → Goal (rows.hear_up w state 1 letter) rest
      unfolding after
      notes_taken up letter rest front = go c.stage
        where
          late : last_session p (here w k) < state.session → (letter.to == state.session) ≡ true → ⊥
          late l to = (let q = (subst (λ ns. AllByRecursion (λ (l : Letter). l.to ≤ last_session p (here w k)) ns) front within).0 in let e = eqb-true letter.to state.session to in omega (arith, l, q, e))

          go : Stage w k p state.up state.session state.running state.next (begins state.session asks) notes → Goal (rows.hear_up w state 1 letter) rest
          go (stopped d r n) = absurd (true≢false (sym up ∙ d))
          go (asleep u l r n b) = (let s = still_heard w k p state place ascend u r n letter (λ to. absurd (late l to)) in let m = (up_as 0 letter).1 in still_cares c.sent c.known rest (rows.hear_up w state 1 letter) m b s (λ none. asleep ((up_as 0 letter).0 ∙ up) (subst (λ x. last_session p (here w k) < x) (sym m) l) s.0 s.1.0 none))
          go (fresh u l r n b q) = first (subst (Welcoming w (here w k) state.session p) front q)
            where
              first : Welcoming w (here w k) state.session p (letter ∷ rest) → Goal (rows.hear_up w state 1 letter) rest
              first (inl ok) = runs_cares c.sent c.known rest (rows.hear_up w state 1 letter) (up_as 0 letter).1 ((up_as 0 letter).0 ∙ up) l (subst (λ bs. Runs w k p state place ascend state.session refl bs rest (rows.hear_up w state 1 letter)) (sym b) (welcomed u state.session refl letter rest r ok.0 ok.1))
              first (inr later) = (let s = still_heard w k p state place ascend u r n letter later.0 in let m = (up_as 0 letter).1 in still_cares c.sent c.known rest (rows.hear_up w state 1 letter) m b s (λ none. fresh ((up_as 0 letter).0 ∙ up) (l ∙ sym m) s.0 s.1.0 none (subst (λ x. Welcoming w (here w k) x p rest) (sym m) later.1)))
          go (awake u l f q) = (let q2 = subst (λ ns. CountsAt w (here w k) p state.session ns (begins state.session asks) state.next) front q in
              runs_cares c.sent c.known rest (rows.hear_up w state 1 letter) (up_as 0 letter).1 ((up_as 0 letter).0 ∙ up) l
              (runs_heard w k p state place ascend state.session refl (begins state.session asks) rest u f (record { line = q2.line; counts = q2.counts; notes = q2.notes.1 }) letter q2.notes.0))
