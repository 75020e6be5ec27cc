-- The sequencer's step: it answers what it is asked for a transaction that may ask, and otherwise grants it no read and lets it wait no more.
use Rattle.std.proofs.Common.{◌≡◌, ◌⊎◌, inl, inr, ℕ, zero, suc, ◌+◌, ◌==◌, Bool, true, false, ◌||◌, List, [], ◌∷◌, ◌++◌, Option, Some, None, if◌then◌else◌, sym, subst, ap, ◌∙◌, refl}
use Rattle.std.specs.List.{AllByRecursion, list_any}
use Rattle.std.specs.Option.{option_map_or}
use Rattle.std.proofs.lemmas.Bool.{and_from, true≢false}
use Rattle.raid_base.specs.declared.names.Txn.{Txn}
use Rattle.raid_base.specs.declared.names.Item.{Item}
use Rattle.raid_base.specs.declared.names.Site.{Site}
use Rattle.raid_base.specs.declared.request.Request.{Request}
use Rattle.raid_base.specs.declared.entry.Act.{Act}
use Rattle.raid_base.specs.declared.entry.Act.TheVariants as acts
use Rattle.raid_base.specs.declared.entry.Cause.{Cause}
use Rattle.raid_base.specs.declared.entry.Cause.TheVariants as causes
use Rattle.raid_base.specs.declared.entry.Entry.{Entry}
use Rattle.raid_base.specs.declared.entry.Entry.TheVariants.{Read, Wait, Commit, Abort}
use Rattle.raid_base.specs.declared.entry.Noted.{Noted}
use Rattle.raid_base.specs.declared.verdict.Verdict.{Verdict}
use Rattle.raid_base.specs.declared.verdict.Verdict.TheVariants as verdicts
use Rattle.raid_base.specs.Names.{is_txn}
use Rattle.raid_base.specs.Sites.{session, site}
use Rattle.raid_workload.specs.declared.workload.Workload.{Workload}
use Rattle.raid_workload.specs.Parts.{home}
use Rattle.raid_rules.specs.Entries.{is_read, is_end_of}
use Rattle.raid_rules.specs.History.{noted, next, stamp, has_ended, waiting, is_waiting}
use Rattle.raid_rules.specs.Sessions.{source_for}
use Rattle.raid_rules.specs.Verdicts.{reading, writing}
use Rattle.raid_rules.proofs.Push.{noted_push, same_txn}
use Rattle.raid_legal.specs.Seen.{vector, sources}
use Rattle.raid_legal.specs.InForce.{verdict}
use Rattle.raid_legal.specs.Answers.{served, answer_read, answer_commit, answered, decided, closes_waits, site_refusal}
use Rattle.raid_legal.specs.Forced.{forced}
use Rattle.raid_legal.specs.Legal.{is_free}
use Rattle.raid_legal.proofs.Left.{Compels, forced_compels}
use Rattle.raid_message.specs.declared.letter.Message.{Message}
use Rattle.raid_message.specs.declared.letter.Message.TheVariants as letters
use Rattle.raid_message.specs.declared.letter.Letter.{Letter}
use Rattle.raid_steps.specs.State.{Turn, Sequencer, opened}
use Rattle.raid_steps.specs.Fits.{is_to_sequencer}
use Rattle.raid_steps.specs.Sequencer as rows
use Rattle.raid_steps.specs.Sequencer.{so_far, place, place_if, settle_from, finish, is_hello, hear_sequencer}
use Rattle.raid_sessions.proofs.Lists.{same_self}
use Rattle.raid_asks.proofs.Facts.{or_left, or_right}
use Rattle.raid_layers.specs.Asks.{is_wait_of, has_waited, asks_end}
use Rattle.raid_layers.proofs.Histories.{any_last, any_kept, HasWait, wait_waited, all_wait}
use Rattle.raid_layers.proofs.Opening.{IsLater, Chain, done, places, sends, First, reads, waits, nothing, Opens, hear_opens}
use Rattle.raid_layers.proofs.Tokens.{IsAskOf}
use Rattle.raid_witness.specs.Ended.{count_reads}
use Rattle.raid_answered.proofs.Counts.{count_push, count_waits, asks_item, IsAsOften, as_often, often_on, often_push}

-- who waits was made to
pub unwaiting : (p : List Noted) (t : Txn) → has_waited p t ≡ false → is_waiting p t ≡ false
unwaiting p t unwaited = none (waiting p) (all_wait p)
  where
    by : (u : Txn) (request : Request) → HasWait p u request → (b : Bool) → (u.0 == t.0) ≡ b → b ≡ false
    by u request h true e = absurd (true≢false (sym (wait_waited p u request h) ∙ ap (has_waited p) (same_txn u t e) ∙ unwaited))
    by u request h false e = refl

    none : (rs : List (Txn × Request)) → AllByRecursion (λ (r : Txn × Request). HasWait p r.0 r.1) rs → list_any (λ r. is_txn t r.0) rs ≡ false
    none [] a = refl
    none (r ∷ rs) a = go (none rs a.1)
      where
        go : list_any (λ r. is_txn t r.0) rs ≡ false → (is_txn t r.0 || list_any (λ r. is_txn t r.0) rs) ≡ false
        go rest = ap (λ b. b || list_any (λ r. is_txn t r.0) rs) (by r.0 r.1 a.0 (r.0.0 == t.0) refl) ∙ rest

-- An ask of the transaction was answered: it is over, or was granted a read where it asked for one, or made to wait where it asked for its end
pub record Counted (t : Txn) (m : Message) (p q : List Noted) : Type 0 where
  pub reads : count_reads q t ≡ count_reads p t + (if asks_item m then 1 else 0)
  pub waits : count_waits q t ≡ count_waits p t + (if asks_end m then 1 else 0)

abbrev pub IsAnswer : Txn → Message → List Noted → List Noted → Type 0
IsAnswer t m p q = (has_ended q t ≡ true) ⊎ Counted t m p q

module _ (w : Workload) (t : Txn) where
  pushed : (h : List Entry) (e : Entry) → is_read (λ u x s. is_txn t u) e ≡ false → is_wait_of t e ≡ false → IsAsOften t (noted h) (noted (h ++ e ∷ []))
  pushed h e unread unwaited = subst (IsAsOften t (noted h)) (sym (noted_push h e)) (often_push t (noted h) e unread unwaited)

  -- a step without an ask of the transaction
  module _ (from : ℕ) (letter : Letter) where
    later_often : (a b : Turn Sequencer) → Chain w from letter a b → IsAsOften t (so_far a) (so_far b)
    later_often a b done = as_often t (so_far a)
    later_often a b (places ask e y rest) = often_on t (so_far a) (so_far (place w ask a e)) (so_far b) (pushed a.state.history e (unread e y) (unwaited e y)) (later_often (place w ask a e) b rest)
      where
        unread : (e : Entry) → IsLater w from letter (so_far a) e → is_read (λ u x s. is_txn t u) e ≡ false
        unread (Read u x s) y = absurd y
        unread other y = refl

        unwaited : (e : Entry) → IsLater w from letter (so_far a) e → is_wait_of t e ≡ false
        unwaited (Wait u request) y = absurd y
        unwaited other y = refl
    later_often a b (sends {next = next} outs same is other rest) = subst (λ h. IsAsOften t (noted h) (so_far b)) same (later_often next b rest)

    module _ (none : (k : ℕ) → from ≡ k + 2 → IsAskOf t letter.message → ⊥) where
      first_often : (a b : Turn Sequencer) → First w from letter a b → IsAsOften t (so_far a) (so_far b)
      first_often a b nothing = as_often t (so_far a)
      first_often a b (reads k u ask x s of is) = go (is_txn t u) refl
        where
          go : (c : Bool) → is_txn t u ≡ c → IsAsOften t (so_far a) (noted (a.state.history ++ Read u x s ∷ []))
          go true q = absurd (none k of (subst (IsAskOf t) (sym is) q))
          go false q = pushed a.state.history (Read u x s) q refl
      first_often a b (waits k u request of is) = go (is_txn t u) refl
        where
          go : (c : Bool) → is_txn t u ≡ c → IsAsOften t (so_far a) (noted (a.state.history ++ Wait u request ∷ []))
          go true q = absurd (none k of (subst (IsAskOf t) (sym is) q))
          go false q = pushed a.state.history (Wait u request) refl q

      pub unasked_often : (state : Sequencer) → IsAsOften t (noted state.history) (noted (hear_sequencer w state from letter).state.history)
      unasked_often state = go (hear_opens w from letter state from refl)
        where
          go : Opens w from letter (opened state) (hear_sequencer w state from letter) → IsAsOften t (noted state.history) (noted (hear_sequencer w state from letter).state.history)
          go (next, (one, chain)) = often_on t (noted state.history) (so_far next) (noted (hear_sequencer w state from letter).state.history) (first_often (opened state) next one) (later_often next (hear_sequencer w state from letter) chain)

  aborts : (m : Message) (p : List Noted) (ask : ℕ) (turn : Turn Sequencer) (cause : Cause) (act : Act) → IsAnswer t m p (so_far (place w ask turn (Abort t cause act)))
  aborts m p ask turn cause act = inl (ap (λ q. has_ended q t) (noted_push turn.state.history (Abort t cause act)) ∙ any_last (λ n. is_end_of t n.entry) (so_far turn) (next (so_far turn) (Abort t cause act)) (or_right false (is_txn t t) (same_self t.0)))

  commits : (m : Message) (p : List Noted) (ask : ℕ) (turn : Turn Sequencer) (request : Request) (applied : List Site) → IsAnswer t m p (so_far (place w ask turn (Commit t request applied)))
  commits m p ask turn request applied = inl (ap (λ q. has_ended q t) (noted_push turn.state.history (Commit t request applied)) ∙ any_last (λ n. is_end_of t n.entry) (so_far turn) (next (so_far turn) (Commit t request applied)) (or_left (is_txn t t) false (same_self t.0)))

  -- what is forced ends transactions alone
  settles : (i : ℕ) (m : Message) (p : List Noted) (turn : Turn Sequencer) → IsAnswer t m p (so_far turn) → IsAnswer t m p (so_far (settle_from w i turn))
  settles zero m p turn a = a
  settles (suc i) m p turn a = go (forced w (so_far turn)) refl (λ e. settles i m p (place w 0 turn e))
    where
      unread : (e : Entry) → Compels w (so_far turn) e → is_read (λ u x s. is_txn t u) e ≡ false
      unread (Read u x s) c = absurd c
      unread other c = refl

      unwaited : (e : Entry) → Compels w (so_far turn) e → is_wait_of t e ≡ false
      unwaited (Wait u request) c = absurd c
      unwaited other c = refl

      one : (e : Entry) → Compels w (so_far turn) e → IsAnswer t m p (so_far (place w 0 turn e))
      one e c = elim a [
        | inl over ↦ inl (ap (λ q. has_ended q t) (noted_push turn.state.history e) ∙ any_kept (λ n. is_end_of t n.entry) (so_far turn) (next (so_far turn) e) over)
        | inr counted ↦ inr (let same = pushed turn.state.history e (unread e c) (unwaited e c) in record { reads = same.reads ∙ counted.reads; waits = same.waits ∙ counted.waits })
      ]

      go : (o : Option Entry) → forced w (so_far turn) ≡ o → ((e : Entry) → IsAnswer t m p (so_far (place w 0 turn e)) → IsAnswer t m p (so_far (settle_from w i (place w 0 turn e)))) → IsAnswer t m p (so_far (option_map_or (λ e. settle_from w i (place w 0 turn e)) o turn))
      go None q rest = a
      go (Some e) q rest = rest e (one e (forced_compels w (so_far turn) e q))

  finishes : (m : Message) (p : List Noted) (state : Sequencer) (turn : Turn Sequencer) → IsAnswer t m p (so_far turn) → IsAnswer t m p (so_far (finish w state turn))
  finishes m p state turn a = settles _ m p turn a

  -- the rows of a transaction that may ask
  module _ (state : Sequencer) (free : is_free (noted state.history) t ≡ true) (unwaited : is_waiting (noted state.history) t ≡ false) where
    abbrev p : List Noted
    p = noted state.history

    frees : (m : Message) (ask : ℕ) (o : Option Entry) → IsAnswer t m (noted state.history) (so_far (place_if w ask (opened state) o)) → IsAnswer t m (noted state.history) (so_far (rows.free_row w ask (opened state) t o))
    frees m ask o a = subst (λ b. IsAnswer t m (noted state.history) (so_far (if b then place_if w ask (opened state) o else opened state))) (sym free) a

    granted : (ask : ℕ) (x : Item) (s : Site) → IsAnswer t (letters.ReadAsk t ask x) (noted state.history) (so_far (place w ask (opened state) (Read t x s)))
    granted ask x s = inr (subst (Counted t (letters.ReadAsk t ask x) (noted state.history)) (sym (noted_push state.history (Read t x s))) (record {
      reads = count_push (λ n. is_read (λ u x s. is_txn t u) n.entry) p (next p (Read t x s)) true (same_self t.0);
      waits = count_push (λ n. is_wait_of t n.entry) p (next p (Read t x s)) false refl;
    }))

    reading_row : (ask : ℕ) (x : Item) (o : Option Site) (v : Verdict) → IsAnswer t (letters.ReadAsk t ask x) (noted state.history) (so_far (place w ask (opened state) (served t x o v)))
    reading_row ask x None v = aborts (letters.ReadAsk t ask x) p ask (opened state) causes.NoCopy (acts.Read x)
    reading_row ask x (Some s) (verdicts.Reject why) = aborts (letters.ReadAsk t ask x) p ask (opened state) _ (acts.Read x)
    reading_row ask x (Some s) verdicts.Wait = granted ask x s
    reading_row ask x (Some s) verdicts.Grant = granted ask x s

    committing_row : (r : Request) → IsAnswer t (letters.CommitAsk t r) (noted state.history) (so_far (place_if w 0 (opened state) (answer_commit w (noted state.history) t r)))
    committing_row r = answers (site_refusal w p r)
      where
        message : Message
        message = letters.CommitAsk t r

        made : IsAnswer t (letters.CommitAsk t r) (noted state.history) (so_far (place w 0 (opened state) (Wait t r)))
        made = inr (subst (Counted t message p) (sym (noted_push state.history (Wait t r))) (record {
          reads = count_push (λ n. is_read (λ u x s. is_txn t u) n.entry) p (next p (Wait t r)) false refl;
          waits = count_push (λ n. is_wait_of t n.entry) p (next p (Wait t r)) true (same_self t.0);
        }))

        waits_so : (a b : Bool) → a ≡ false → IsAnswer t (letters.CommitAsk t r) (noted state.history) (so_far (place_if w 0 (opened state) (if a then None else if b then Some (Abort t causes.Deadlock (acts.Commit r)) else Some (Wait t r))))
        waits_so true b q = absurd (true≢false q)
        waits_so false true q = aborts message p 0 (opened state) causes.Deadlock (acts.Commit r)
        waits_so false false q = made

        decides : (v : Verdict) → IsAnswer t (letters.CommitAsk t r) (noted state.history) (so_far (place_if w 0 (opened state) (decided w (noted state.history) t r v)))
        decides (verdicts.Reject why) = aborts message p 0 (opened state) _ (acts.Commit r)
        decides verdicts.Grant = commits message p 0 (opened state) r _
        decides verdicts.Wait = waits_so (is_waiting p t) (closes_waits w p t r) unwaited

        answers : (o : Option Cause) → IsAnswer t (letters.CommitAsk t r) (noted state.history) (so_far (place_if w 0 (opened state) (answered w (noted state.history) t r o)))
        answers (Some why) = aborts message p 0 (opened state) why (acts.Commit r)
        answers None = decides (verdict w p (writing t (stamp p t) r.writes))

    -- whatever it asks in a letter that is heard is answered
    module _ (k : ℕ) (n : ℕ) where
      asking_row : (m : Message) → IsAskOf t m → IsAnswer t m (noted state.history) (so_far (rows.site_row w (opened state) (site (k + 1)) n m))
      asking_row (letters.ReadAsk u ask x) h =
          subst (λ z. IsAnswer t (letters.ReadAsk z ask x) p (so_far (rows.read_row w (opened state) z ask x))) (sym (same_txn u t h))
          (frees (letters.ReadAsk t ask x) ask (Some (answer_read w p t x)) (reading_row ask x (source_for (sources w p x) (home w t)) (verdict w p (reading t (stamp p t) x))))
      asking_row (letters.CommitAsk u request) h =
          subst (λ z. IsAnswer t (letters.CommitAsk z request) p (so_far (rows.commit_row w (opened state) z request))) (sym (same_txn u t h)) (frees (letters.CommitAsk t request) 0 (answer_commit w p t request) (committing_row request))
      asking_row (letters.EndAsk u cause told) h =
          subst (λ z. IsAnswer t (letters.EndAsk z cause told) p (so_far (rows.end_row w (opened state) z cause told))) (sym (same_txn u t h))
          (frees (letters.EndAsk t cause told) 0 (Some (Abort t cause (acts.Ended told))) (aborts (letters.EndAsk t cause told) p 0 (opened state) cause (acts.Ended told)))
      asking_row other h = absurd h

    pub ask_answered : (k : ℕ) (letter : Letter) → IsAskOf t letter.message → (letter.from == session (vector w (noted state.history)) (site (k + 1))) ≡ true → is_to_sequencer w letter.message ≡ true →
        IsAnswer t letter.message (noted state.history) (noted (hear_sequencer w state (suc (suc k)) letter).state.history)
    ask_answered k letter h present fits =
        subst (λ b. IsAnswer t letter.message p (so_far (if b then finish w state (rows.site_row w (opened state) (site (k + 1)) letter.from letter.message) else opened state)))
        (sym (and_from (is_hello letter.message || letter.from == session (vector w p) (site (k + 1))) (is_to_sequencer w letter.message) (or_right (is_hello letter.message) (letter.from == session (vector w p) (site (k + 1))) present) fits))
        (finishes letter.message p state (rows.site_row w (opened state) (site (k + 1)) letter.from letter.message) (asking_row k letter.from letter.message h))
