-- What the sequencer's step does to a transaction's reads: nothing, but that it may answer the ReadAsk that it takes.
use Rattle.std.proofs.Common.{◌≡◌, ◌⊎◌, inl, inr, ℕ, zero, suc, ◌+◌, ◌-◌, ◌<◌, ◌≤◌, ◌==◌, nat_le, Bool, true, false, ◌&&◌, ◌||◌, List, [], ◌∷◌, ◌++◌, length, Option, Some, None, if◌then◌else◌, arith, sym, subst, ap, ◌∙◌, refl}
use Rattle.std.specs.Prelude.{slice_index, slice_get}
use Rattle.std.specs.List.{AllByRecursion}
use Rattle.std.specs.Option.{option_map_or}
use Rattle.std.proofs.lemmas.Bool.{and_parts, and_from, eqb-true, true≢false}
use Rattle.raid_base.specs.declared.names.Txn.{Txn}
use Rattle.raid_base.specs.declared.names.Item.{Item}
use Rattle.raid_base.specs.declared.names.Site.{Site}
use Rattle.raid_base.specs.declared.entry.Entry.{Entry}
use Rattle.raid_base.specs.declared.entry.Entry.TheVariants.{Read, Wait, Commit, Abort, SwitchOn, SwitchEnd}
use Rattle.raid_base.specs.declared.entry.Noted.{Noted}
use Rattle.raid_base.specs.declared.verdict.Verdict.{Verdict}
use Rattle.raid_base.specs.declared.verdict.Verdict.TheVariants as verdicts
use Rattle.raid_base.specs.Names.{is_txn, has_site}
use Rattle.raid_base.specs.Sites.{session, site, all_sites}
use Rattle.raid_workload.specs.declared.workload.Workload.{Workload}
use Rattle.raid_workload.specs.Parts.{home, placement}
use Rattle.raid_rules.specs.Entries.{is_read}
use Rattle.raid_rules.specs.History.{noted, stamp}
use Rattle.raid_rules.specs.Sessions.{source_for}
use Rattle.raid_rules.specs.Sessions as rules
use Rattle.raid_rules.specs.Verdicts.{reading}
use Rattle.raid_rules.proofs.Push.{noted_push, same_txn}
use Rattle.raid_rules.proofs.Sources.{has_kept}
use Rattle.raid_legal.specs.Seen.{vector, is_up, sources}
use Rattle.raid_legal.specs.InForce.{verdict}
use Rattle.raid_legal.specs.Answers.{served, answer_read}
use Rattle.raid_legal.specs.Forced.{forced}
use Rattle.raid_legal.specs.Legal.{is_free}
use Rattle.raid_legal.proofs.Left.{Compels, forced_compels}
use Rattle.raid_message.specs.declared.letter.Message.{Message}
use Rattle.raid_message.specs.declared.letter.Message.TheVariants as letters
use Rattle.raid_message.specs.declared.letter.Letter.{Letter}
use Rattle.raid_steps.specs.State.{Turn, Sequencer, opened}
use Rattle.raid_steps.specs.Fits.{knows_site, is_to_sequencer}
use Rattle.raid_steps.specs.Sequencer as rows
use Rattle.raid_steps.specs.Sequencer.{so_far, place, settle_from, finish, hear_sequencer}
use Rattle.raid_placed.specs.Placed.{Placed}
use Rattle.raid_placed.proofs.Heard.{Fine, sent_placed, read_sent}
use Rattle.raid_sessions.proofs.Lists.{same_self}
use Rattle.raid_letters.proofs.Sends.{first_in}
use Rattle.raid_layers.proofs.Opening.{IsLater, Chain, done, places, sends, First, reads, waits, nothing, Opens, hear_opens}
use Rattle.raid_versions.proofs.Steps.{source_unlocked}
use Rattle.raid_grants.proofs.Entries.{some_session}
use Rattle.raid_grants.proofs.Facts.{Same, same_none, same_both, same_push}

index_within : (v : List ℕ) (k : ℕ) → 1 ≤ slice_index v k → k < length v
index_within [] k some = absurd (omega (arith, some))
index_within (x ∷ v) zero some = omega arith
index_within (x ∷ v) (suc k) some = (let rest = index_within v k some in omega (arith, rest))

-- the site that serves is one of the sources
source_in : (found : List Site) (h s : Site) → source_for found h ≡ Some s → has_site found s ≡ true
source_in found h s q = go (has_site found h) refl q
  where
    go : (b : Bool) → has_site found h ≡ b → (if b then Some h else slice_get found 0) ≡ Some s → has_site found s ≡ true
    go true e q = (let same : h ≡ s = cc q in subst (λ z. has_site found z ≡ true) same e)
    go false e q = first_in found s q

module _ (from : ℕ) (letter : Letter) where
  -- whether the letter asks to read for the transaction
  pub data Taking (t : Txn) : Type 0 where
    takes : (j ask : ℕ) (x : Item) → from ≡ j + 2 → letter.message ≡ letters.ReadAsk t ask x → Taking t
    takes_not : ((j ask : ℕ) (x : Item) → from ≡ j + 2 → letter.message ≡ letters.ReadAsk t ask x → ⊥) → Taking t

  pub taking : (t : Txn) → Taking t
  taking t = by letter.message refl (sender from refl)
    where
      sender : (f : ℕ) → from ≡ f → ((j : ℕ) × (from ≡ j + 2)) ⊎ ((j : ℕ) → from ≡ j + 2 → ⊥)
      sender zero of = inr (λ j e. omega (arith, of, e))
      sender (suc zero) of = inr (λ j e. omega (arith, of, e))
      sender (suc (suc j)) of = inl (j, omega (arith, of))

      reads : (u : Txn) (ask : ℕ) (x : Item) → letter.message ≡ letters.ReadAsk u ask x → (j : ℕ) → from ≡ j + 2 → (c : Bool) → is_txn t u ≡ c → Taking t
      reads u ask x is j of true e = takes j ask x of (is ∙ ap (λ z. letters.ReadAsk z ask x) (same_txn u t e))
      reads u ask x is j of false e = takes_not (λ i a y f g. (let same : letters.ReadAsk u ask x ≡ letters.ReadAsk t a y = sym is ∙ g in let it : u ≡ t = cc same in true≢false (sym (same_self t.0) ∙ subst (λ z. is_txn t z ≡ false) it e)))

      by : (message : Message) → letter.message ≡ message → ((j : ℕ) × (from ≡ j + 2)) ⊎ ((j : ℕ) → from ≡ j + 2 → ⊥) → Taking t
      by (letters.ReadAsk u ask x) is (inl (j, of)) = reads u ask x is j of (is_txn t u) refl
      by message is (inr never) = takes_not (λ i a y f g. never i f)
      by other is some = takes_not (λ i a y f g. cc (sym is ∙ g))

module _ (w : Workload) where
  -- a source is up, and known
  source_known : (p : List Noted) (x : Item) (s : Site) → length (vector w p) ≡ w.sites → has_site (sources w p x) s ≡ true → knows_site w s ≡ true
  source_known p x s long q = known (numbered all_sites firsts both.1) (let a = index_within (vector w p) (s.0 - 1) (some_session (session (vector w p) s) (source_unlocked w p x s q).0) in omega (arith, a, long))
    where
      both : (rules.is_source w.sites (placement w) p x s ≡ true) × (has_site all_sites s ≡ true)
      both = and_parts (rules.is_source w.sites (placement w) p x s) (has_site all_sites s) (sym (has_kept (rules.is_source w.sites (placement w) p x) s all_sites) ∙ q)

      at_most : (a b : ℕ) → a ≤ b → nat_le a b ≡ true
      at_most a b below = grind (arith, below)

      known : 1 ≤ s.0 → s.0 - 1 < w.sites → knows_site w s ≡ true
      known least high = and_from (nat_le 1 s.0) (nat_le s.0 w.sites) (at_most 1 s.0 least) (at_most s.0 w.sites (omega (arith, least, high)))

      numbered : (ss : List Site) → AllByRecursion (λ (r : Site). 1 ≤ r.0) ss → has_site ss s ≡ true → 1 ≤ s.0
      numbered [] a h = absurd (true≢false (sym h))
      numbered (r ∷ ss) a h = go (r.0 == s.0) refl h (numbered ss a.1)
        where
          go : (b : Bool) → (r.0 == s.0) ≡ b → (b || has_site ss s) ≡ true → (has_site ss s ≡ true → 1 ≤ s.0) → 1 ≤ s.0
          go true same h rest = subst (λ n. 1 ≤ n) (eqb-true r.0 s.0 same) a.0
          go false other h rest = rest h

      firsts : AllByRecursion (λ (r : Site). 1 ≤ r.0) all_sites
      firsts = (omega arith, (omega arith, (omega arith, (omega arith, (omega arith, (omega arith, (omega arith, (omega arith, tt))))))))

  module _ (t : Txn) where
    placed_same : (ask : ℕ) (turn : Turn Sequencer) (e : Entry) → is_read (λ u x s. is_txn t u) e ≡ false → Same (so_far turn) (so_far (place w ask turn e)) t
    placed_same ask turn e none = subst (λ q. Same (so_far turn) q t) (sym (noted_push turn.state.history e)) (same_push (so_far turn) e t none)

    -- forced entries
    settle_same : (i : ℕ) (turn : Turn Sequencer) → Same (so_far turn) (so_far (settle_from w i turn)) t
    settle_same zero turn = same_none (so_far turn) t
    settle_same (suc i) turn = go (forced w (so_far turn)) refl (λ e. settle_same i (place w 0 turn e))
      where
        compelled : (e : Entry) → Compels w (so_far turn) e → is_read (λ u x s. is_txn t u) e ≡ false
        compelled (Abort u cause act) c = refl
        compelled (Commit u request applied) c = refl
        compelled (SwitchOn i kind method) c = refl
        compelled (SwitchEnd i) c = refl
        compelled other c = absurd c

        go : (o : Option Entry) → forced w (so_far turn) ≡ o → ((e : Entry) → Same (so_far (place w 0 turn e)) (so_far (settle_from w i (place w 0 turn e))) t) → Same (so_far turn) (so_far (option_map_or (λ e. settle_from w i (place w 0 turn e)) o turn)) t
        go None q rest = same_none (so_far turn) t
        go (Some e) q rest = same_both (so_far turn) (so_far (place w 0 turn e)) (so_far (settle_from w i (place w 0 turn e))) t (placed_same 0 turn e (compelled e (forced_compels w (so_far turn) e q))) (rest e)

    pub finish_same : (state : Sequencer) (turn : Turn Sequencer) → Same (so_far turn) (so_far (finish w state turn)) t
    finish_same state turn = settle_same _ turn

    -- the whole step, where it takes no ReadAsk of the transaction
    module _ (from : ℕ) (letter : Letter) where
      chain_same : (a b : Turn Sequencer) → Chain w from letter a b → Same (so_far a) (so_far b) t
      chain_same a b done = same_none (so_far a) t
      chain_same a b (places ask e y rest) = same_both (so_far a) (so_far (place w ask a e)) (so_far b) t (placed_same ask a e (later e y)) (chain_same (place w ask a e) b rest)
        where
          later : (e : Entry) → IsLater w from letter (so_far a) e → is_read (λ u x s. is_txn t u) e ≡ false
          later (Read u x s) y = absurd y
          later other y = refl
      chain_same a b (sends {next = next} outs same is other rest) = subst (λ h. Same (noted h) (so_far b) t) same (chain_same next b rest)

      first_same : (a b : Turn Sequencer) → First w from letter a b → ((j ask : ℕ) (x : Item) → from ≡ j + 2 → letter.message ≡ letters.ReadAsk t ask x → ⊥) → Same (so_far a) (so_far b) t
      first_same a b nothing never = same_none (so_far a) t
      first_same a b (waits j u request of is) never = placed_same 0 a (Wait u request) refl
      first_same a b (reads j u ask x s of is) never = placed_same ask a (Read u x s) (go (is_txn t u) refl)
        where
          go : (c : Bool) → is_txn t u ≡ c → is_txn t u ≡ false
          go true e = absurd (never j ask x of (is ∙ ap (λ z. letters.ReadAsk z ask x) (same_txn u t e)))
          go false e = e

      pub unread : (state : Sequencer) → ((j ask : ℕ) (x : Item) → from ≡ j + 2 → letter.message ≡ letters.ReadAsk t ask x → ⊥) → Same (noted state.history) (noted (hear_sequencer w state from letter).state.history) t
      unread state never = go (hear_opens w from letter state from refl)
        where
          go : Opens w from letter (opened state) (hear_sequencer w state from letter) → Same (noted state.history) (noted (hear_sequencer w state from letter).state.history) t
          go (next, (one, chain)) = same_both (noted state.history) (so_far next) (noted (hear_sequencer w state from letter).state.history) t (first_same (opened state) next one never) (chain_same next (hear_sequencer w state from letter) chain)

    -- its ReadAsk was taken: nothing was read, or a Read at a site that is up
    pub data Came (state : Sequencer) (ask : ℕ) (x : Item) (turn : Turn Sequencer) : Type 0 where
      unanswered : Same (noted state.history) (so_far turn) t → Came state ask x turn
      granted_at : (s : Site) → knows_site w s ≡ true → is_up w (noted state.history) s ≡ true → Placed w (state.history ++ Read t x s ∷ []) → turn ≡ finish w state (place w ask (opened state) (Read t x s)) → Came state ask x turn

    module _ (state : Sequencer) (ask : ℕ) (x : Item) (long : length (vector w (noted state.history)) ≡ w.sites) (fine : Fine w (opened state)) where
      abbrev p : List Noted
      p = noted state.history

      served_came : (o : Option Site) (v : Verdict) → source_for (sources w p x) (home w t) ≡ o → Placed w (state.history ++ served t x o v ∷ []) → Came state ask x (finish w state (place w ask (opened state) (served t x o v)))
      served_came None v q ok = unanswered (same_both p _ _ t (placed_same ask (opened state) (served t x None v) refl) (finish_same state (place w ask (opened state) (served t x None v))))
      served_came (Some s) (verdicts.Reject why) q ok =
          unanswered (same_both p _ _ t (placed_same ask (opened state) (served t x (Some s) (verdicts.Reject why)) refl) (finish_same state (place w ask (opened state) (served t x (Some s) (verdicts.Reject why)))))
      served_came (Some s) verdicts.Wait q ok = (let found = source_in (sources w p x) (home w t) s q in granted_at s (source_known p x s long found) (source_unlocked w p x s found).0 ok refl)
      served_came (Some s) verdicts.Grant q ok = (let found = source_in (sources w p x) (home w t) s q in granted_at s (source_known p x s long found) (source_unlocked w p x s found).0 ok refl)

      read_came : (k : ℕ) (letter : Letter) → letter.message ≡ letters.ReadAsk t ask x → Came state ask x (hear_sequencer w state (suc (suc k)) letter)
      read_came k letter is = go ((rows.is_hello letter.message || letter.from == session (vector w (noted state.history)) (site (k + 1))) && is_to_sequencer w letter.message)
        where
          free : (b : Bool) → is_free p t ≡ b → Came state ask x (finish w state (if b then place w ask (opened state) (answer_read w p t x) else opened state))
          free true e = served_came (source_for (sources w p x) (home w t)) (verdict w p (reading t (stamp p t) x)) refl (sent_placed w ask (opened state) (answer_read w p t x) fine (read_sent w p t x e))
          free false e = unanswered (finish_same state (opened state))

          go : (b : Bool) → Came state ask x (if b then finish w state (rows.site_row w (opened state) (site (k + 1)) letter.from letter.message) else opened state)
          go true = subst (λ m. Came state ask x (finish w state (rows.site_row w (opened state) (site (k + 1)) letter.from m))) (sym is) (free (is_free p t) refl)
          go false = unanswered (same_none p t)

      pub came_from : (j from : ℕ) → from ≡ j + 2 → (letter : Letter) → letter.message ≡ letters.ReadAsk t ask x → Came state ask x (hear_sequencer w state from letter)
      came_from j from of letter is = subst (λ f. Came state ask x (hear_sequencer w state f letter)) (let e : suc (suc j) ≡ from = omega (arith, of) in e) (read_came j letter is)
