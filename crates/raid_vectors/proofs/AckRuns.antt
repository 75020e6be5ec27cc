-- In every run, who owes an Ack has its Apply or the Ack on its way.
use Rattle.std.proofs.Common.{◌≡◌, ◌≢◌, ◌⊎◌, inl, inr, ℕ, zero, suc, ◌+◌, ◌-◌, ◌<◌, ◌≤◌, ◌==◌, Bool, true, false, not, ◌&&◌, ◌||◌, List, [], ◌∷◌, ◌++◌, fold, length, map, Some, None, if◌then◌else◌, arith, sym, subst, ap, ◌∙◌, refl, append-nil}
use Rattle.std.specs.Prelude.{slice_get}
use Rattle.std.specs.List.{list_any}
use Rattle.std.proofs.lemmas.Bool.{and_from, and_parts, eqb-true, true≢false}
use Rattle.raid_base.specs.declared.names.Txn.{Txn}
use Rattle.raid_base.specs.declared.names.Site.{Site}
use Rattle.raid_base.specs.declared.entry.Entry.{Entry}
use Rattle.raid_base.specs.declared.entry.Entry.TheVariants.{Commit, Ack, Down}
use Rattle.raid_base.specs.declared.entry.Noted.{Noted}
use Rattle.raid_base.specs.Names.{is_txn, is_site, has_site}
use Rattle.raid_base.specs.Sites.{session, site}
use Rattle.raid_workload.specs.declared.workload.Workload.{Workload}
use Rattle.raid_workload.specs.Parts.{txns, sites, count_from}
use Rattle.raid_rules.specs.Entries.{is_commit_of}
use Rattle.raid_rules.specs.History.{noted, next, has_committed}
use Rattle.raid_rules.specs.Sessions.{owes, turn_owed}
use Rattle.raid_rules.proofs.Push.{noted_push, vector_push, same_txn}
use Rattle.raid_legal.specs.Seen.{vector}
use Rattle.raid_message.specs.declared.letter.Message.{Message}
use Rattle.raid_message.specs.declared.letter.Message.TheVariants as letters
use Rattle.raid_message.specs.declared.letter.Letter.{Letter}
use Rattle.raid_message.specs.declared.letter.Pick.{Pick}
use Rattle.raid_steps.specs.State.{Turn, Sequencer, SiteState, opened}
use Rattle.raid_steps.specs.Fits.{knows_txn, is_to_sequencer}
use Rattle.raid_steps.specs.Sequencer as seq
use Rattle.raid_steps.specs.Sequencer.{so_far, place, is_hello, finish, hear_sequencer}
use Rattle.raid_steps.specs.World.{World, link, run, open_world, is_idle}
use Rattle.raid_placed.proofs.Heard.{sent_placed}
use Rattle.raid_sessions.proofs.Agreed.{run_idle}
use Rattle.raid_sessions.specs.Present.{own_session}
use Rattle.raid_sessions.proofs.Lists.{get_known, is_same, same_self}
use Rattle.raid_sessions.proofs.Reached.{reached}
use Rattle.raid_sessions.proofs.Mail.{same_or_not, letters_to}
use Rattle.raid_asks.proofs.Facts.{or_left, or_right, or_parts}
use Rattle.raid_versions.proofs.Mid.{owes_now, sized_push}
use Rattle.raid_versions.proofs.Owed.{Known}
use Rattle.raid_versions.proofs.Runs as below
use Rattle.raid_versions.proofs.SiteFacts.{committed_known}
use Rattle.raid_versions.proofs.Steps.{Steps}
use Rattle.raid_vectors.specs.Vectors.{IsTold}
use Rattle.raid_vectors.specs.Acks.{acks, is_to_apply, is_acked, OwesWhatComes, AcksCome, NoneOwes}
use Rattle.raid_vectors.proofs.Acks.{Owed, entries_owe, copies_owe}
use Rattle.raid_vectors.proofs.AckSites.{site_owes}
use Rattle.raid_vectors.proofs.Along.{steps_keep, finish_keep}
use Rattle.raid_vectors.proofs.Frame.{Each, AtSequencer, AtSite, in_runs}
use Rattle.raid_vectors.proofs.Runs.{idle_link, low_at, some_at, heard_by_steps}

-- what is owed was committed
owed_committed : (s : Site) (t : Txn) (p : List Noted) (b : Bool) → fold (λ owed n. turn_owed s t owed n.entry) b p ≡ true → (b ≡ true) ⊎ (list_any (λ n. is_commit_of t n.entry) p ≡ true)
owed_committed s t [] b q = inl q
owed_committed s t (n ∷ p) b q = elim (owed_committed s t p (turn_owed s t b n.entry) q) [
  | inl owed ↦ step n.entry owed
  | inr done ↦ inr (or_right (is_commit_of t n.entry) (list_any (λ n. is_commit_of t n.entry) p) done)
]
  where
    step : (e : Entry) → turn_owed s t b e ≡ true → (b ≡ true) ⊎ ((is_commit_of t e || list_any (λ n. is_commit_of t n.entry) p) ≡ true)
    step (Commit u request applied) o = elim (or_parts b (is_txn t u && has_site applied s) o) [
      | inl old ↦ inl old
      | inr new ↦ inr (or_left (is_txn t u) (list_any (λ n. is_commit_of t n.entry) p) (and_parts (is_txn t u) (has_site applied s) new).0)
    ]
    step (Ack u r) o = inl (and_parts b (not (is_txn t u && is_site s r)) o).0
    step (Down r) o = inl (and_parts b (not (is_site s r)) o).0
    step other o = inl o

module _ (w : Workload) where
  abbrev J : ℕ → List Noted → SiteState → List Letter → List Letter → Type 0
  J k p s asks notes = ((t : Txn) → owes p (site (k + 1)) t ≡ true → 1 ≤ session (vector w p) (site (k + 1))) × (IsTold w p k s → OwesWhatComes p k s asks notes)

  module _ (world : World) (known : Known w world) (from clock : ℕ) (letter : Letter) (rest : List Letter) (front : link world.links 1 from ≡ letter ∷ rest) (k : ℕ) (s : SiteState) (at : slice_get world.servers.sites k ≡ Some s)
      (j : J k (noted world.servers.sequencer.history) s (link world.links 1 (k + 2)) (link world.links (k + 2) 1)) where
    abbrev state : Sequencer
    state = world.servers.sequencer

    abbrev p : List Noted
    p = noted world.servers.sequencer.history

    abbrev notes : List Letter
    notes = link world.links (k + 2) 1

    abbrev asks : List Letter
    asks = link world.links 1 (k + 2)

    abbrev left : List Letter
    left = if from == k + 2 then rest else link world.links 1 (k + 2)

    abbrev Result : Type 0
    Result = J k (noted (hear_sequencer w world.servers.sequencer from letter).state.history) s left (notes ++ letters_to (k + 2) 0 clock (hear_sequencer w world.servers.sequencer from letter).outs)

    along : (a : Turn Sequencer) → Steps w from letter p a (hear_sequencer w world.servers.sequencer from letter) → Owed w k s left (so_far a) (notes ++ letters_to (k + 2) 0 clock a.outs) → Result
    along a steps before =
        let after = steps_keep w from letter p k clock (Owed w k s left) notes (entries_owe w k s left from clock letter p (low_at w world known k s at) (some_at w world known k s at)) (copies_owe w k s left from clock letter p (low_at w world known k s at) (some_at w world known k s at)) a (hear_sequencer w world.servers.sequencer from letter) steps before in
        (after.owers, after.comes)

    -- the letter is no Ack that is owed
    generic : (IsTold w p k s → OwesWhatComes p k s left notes) → Result
    generic comes = along (opened state) (heard_by_steps w world known from clock letter rest front) (subst (Owed w k s left p) (sym (append-nil notes)) (record { long = known.says.reached.ledger.long; owers = j.0; comes = comes }))

    elsewhere : from ≢ k + 2 → Result
    elsewhere other = generic (subst (λ ls. IsTold w p k s → OwesWhatComes p k s ls notes) (sym (ap (λ b. if b then rest else asks) (differs (from == k + 2) refl))) j.1)
      where
        differs : (b : Bool) → (from == k + 2) ≡ b → (from == k + 2) ≡ false
        differs true e = absurd (other (eqb-true from (k + 2) e))
        differs false e = e

    module _ (of : from ≡ k + 2) where
      left_is : left ≡ rest
      left_is = ap (λ b. if b then rest else asks) (is_same from (k + 2) of)

      asks_are : link world.links 1 (k + 2) ≡ letter ∷ rest
      asks_are = ap (link world.links 1) (sym of) ∙ front

      -- a witness that isn't the letter is behind it
      behind : (t : Txn) → ((letter.from == s.session) && acks t letter.message) ≡ false → (is_to_apply s.session t notes || is_acked s.session t asks) ≡ true → (is_to_apply s.session t notes || is_acked s.session t left) ≡ true
      behind t unlike old = subst (λ ls. (is_to_apply s.session t notes || is_acked s.session t ls) ≡ true) (sym left_is)
          (elim (or_parts (is_to_apply s.session t notes) (is_acked s.session t asks) old) [
            | inl a ↦ or_left (is_to_apply s.session t notes) (is_acked s.session t rest) a
            | inr a ↦ or_right (is_to_apply s.session t notes) (is_acked s.session t rest) (later (or_parts ((letter.from == s.session) && acks t letter.message) (is_acked s.session t rest) (sym (ap (is_acked s.session t) asks_are) ∙ a)))
          ])
        where
          later : (((letter.from == s.session) && acks t letter.message) ≡ true) ⊎ (is_acked s.session t rest ≡ true) → is_acked s.session t rest ≡ true
          later (inl here) = absurd (true≢false (sym here ∙ unlike))
          later (inr there) = there

      all_behind : ((t : Txn) → IsTold w p k s → owes p (site (k + 1)) t ≡ true → ((letter.from == s.session) && acks t letter.message) ≡ false) → Result
      all_behind unlike = generic (λ told t o. behind t (unlike t told o) (j.1 told t o))

      -- an Ack that is owed
      module _ (u : Txn) (is : letter.message ≡ letters.Ack u) (mine : letter.from ≡ s.session) (told : IsTold w p k s) (owed : owes p (site (k + 1)) u ≡ true) where
        abbrev taken : Turn Sequencer
        taken = place w 0 (opened state) (Ack u (site (k + 1)))

        abbrev valid : Message → Bool
        valid m = (is_hello m || letter.from == session (vector w p) (site (k + 1))) && is_to_sequencer w m

        is_known : knows_txn w u ≡ true
        is_known = elim (owed_committed (site (k + 1)) u p false owed) [
          | inl never ↦ absurd (true≢false (sym never))
          | inr done ↦ committed_known w world.servers.sequencer.history known.says.reached.placed u done
        ]

        heard : hear_sequencer w world.servers.sequencer from letter ≡ finish w world.servers.sequencer (place w 0 (opened world.servers.sequencer) (Ack u (site (k + 1))))
        heard =
            ap (λ f. hear_sequencer w state f letter) (of ∙ place_is k)
            ∙ ap (λ b. if b then finish w state (seq.site_row w (opened state) (site (k + 1)) letter.from letter.message) else opened state)
            (ap valid is ∙ and_from (false || letter.from == session (vector w p) (site (k + 1))) (knows_txn w u) (is_same letter.from (session (vector w p) (site (k + 1))) (mine ∙ sym told.told)) is_known)
            ∙ ap (λ m. finish w state (seq.site_row w (opened state) (site (k + 1)) letter.from m)) is
            ∙ ap (λ b. finish w state (seq.place_if w 0 (opened state) (if b then Some (Ack u (site (k + 1))) else None))) owed
          where
            place_is : (k : ℕ) → k + 2 ≡ suc (suc k)
            place_is k = omega arith

        -- what is still owed
        now : session (vector w (noted (world.servers.sequencer.history ++ Ack u (site (k + 1)) ∷ []))) (site (k + 1)) ≡ session (vector w (noted world.servers.sequencer.history)) (site (k + 1))
        now = ap (λ v. session v (site (k + 1))) (ap (vector w) (noted_push state.history (Ack u (site (k + 1)))) ∙ vector_push w.sites p (next p (Ack u (site (k + 1)))))

        still : (t : Txn) → owes (noted (world.servers.sequencer.history ++ Ack u (site (k + 1)) ∷ [])) (site (k + 1)) t ≡ true → (owes p (site (k + 1)) t ≡ true) × (not (is_txn t u && is_site (site (k + 1)) (site (k + 1))) ≡ true)
        still t o = and_parts (owes p (site (k + 1)) t) (not (is_txn t u && is_site (site (k + 1)) (site (k + 1)))) (sym (ap (λ z. owes z (site (k + 1)) t) (noted_push state.history (Ack u (site (k + 1)))) ∙ owes_now p (Ack u (site (k + 1))) (site (k + 1)) t) ∙ o)

        no_more : (t : Txn) → not (is_txn t u && is_site (site (k + 1)) (site (k + 1))) ≡ true → ((letter.from == s.session) && acks t letter.message) ≡ false
        no_more t q = ap (λ m. (letter.from == s.session) && acks t m) is ∙ go (letter.from == s.session) (is_txn t u) (is_site (site (k + 1)) (site (k + 1))) (same_self (k + 1)) q
          where
            go : (a b c : Bool) → c ≡ true → not (b && c) ≡ true → (a && b) ≡ false
            go true true true e q = absurd (true≢false (sym q))
            go true false c e q = refl
            go false b c e q = refl
            go a b false e q = absurd (true≢false (sym e))

        before : Owed w k s left (so_far taken) (notes ++ letters_to (k + 2) 0 clock taken.outs)
        before = subst (Owed w k s left (so_far taken)) (sym (append-nil notes)) (record {
          long = ap (λ z. length (vector w z)) (noted_push state.history (Ack u (site (k + 1)))) ∙ sized_push w p (Ack u (site (k + 1))) known.says.reached.ledger.long;
          owers = λ t o. (let a = j.0 t (still t o).0 in let b = now in omega (arith, a, b));
          comes = λ later t o. (let q = still t o in behind t (no_more t q.1) (j.1 told t q.0));
        })

        special : Result
        special = subst (λ (turn : Turn Sequencer). J k (so_far turn) s left (notes ++ letters_to (k + 2) 0 clock turn.outs)) (sym heard) (last.owers, last.comes)
          where
            done : Turn Sequencer
            done = finish w state taken

            last : Owed w k s left (so_far (finish w state taken)) (notes ++ letters_to (k + 2) 0 clock (finish w state taken).outs)
            last = finish_keep w from letter p k clock (Owed w k s left) notes (entries_owe w k s left from clock letter p (low_at w world known k s at) (some_at w world known k s at)) (copies_owe w k s left from clock letter p (low_at w world known k s at) (some_at w world known k s at))
                state taken (sent_placed w 0 (opened state) (Ack u (site (k + 1))) (known.says.reached.placed, known.says.reached.quiet) owed) before

      -- whatever the letter is
      here : Result
      here = go letter.message refl
        where
          ack : (u : Txn) → letter.message ≡ letters.Ack u → (letter.from ≡ s.session) ⊎ (letter.from ≢ s.session) → (b : Bool) → s.up ≡ b → (session (vector w p) (site (k + 1)) ≡ s.session) ⊎ (session (vector w p) (site (k + 1)) ≢ s.session) → (c : Bool) → owes p (site (k + 1)) u ≡ c → Result
          ack u is (inr other) b up t c o = all_behind (λ x told owed. ap (λ d. d && acks x letter.message) (differs (letter.from == s.session) refl))
            where
              differs : (b : Bool) → (letter.from == s.session) ≡ b → (letter.from == s.session) ≡ false
              differs true e = absurd (other (eqb-true letter.from s.session e))
              differs false e = e
          ack u is (inl mine) false up t c o = all_behind (λ x told owed. absurd (true≢false (sym told.up ∙ up)))
          ack u is (inl mine) true up (inr other) c o = all_behind (λ x told owed. absurd (other told.told))
          ack u is (inl mine) true up (inl t) true o = special u is mine (record { up = up; told = t }) o
          ack u is (inl mine) true up (inl t) false o = all_behind (λ x told owed. ap (λ m. (letter.from == s.session) && acks x m) is ∙ none x owed (letter.from == s.session) (is_txn x u) refl)
            where
              none : (x : Txn) → owes p (site (k + 1)) x ≡ true → (a b : Bool) → is_txn x u ≡ b → (a && b) ≡ false
              none x owed true true e = absurd (true≢false (sym owed ∙ ap (owes p (site (k + 1))) (sym (same_txn u x e)) ∙ o))
              none x owed true false e = refl
              none x owed false b e = refl

          quiet : (m : Message) → letter.message ≡ m → ((t : Txn) → acks t m ≡ false) → Result
          quiet m is none = all_behind (λ t told owed. ap (λ x. (letter.from == s.session) && acks t x) is ∙ ap (λ b. (letter.from == s.session) && b) (none t) ∙ neither (letter.from == s.session))
            where
              neither : (b : Bool) → (b && false) ≡ false
              neither true = refl
              neither false = refl

          go : (m : Message) → letter.message ≡ m → Result
          go (letters.Ack u) is = ack u is (same_or_not letter.from s.session) s.up refl (same_or_not (session (vector w p) (site (k + 1))) s.session) (owes p (site (k + 1)) u) refl
          go other is = quiet other is (λ t. refl)

    sequencer_owes : Result
    sequencer_owes = elim (same_or_not from (k + 2)) [ inl of ↦ here of | inr other ↦ elsewhere other ]

  sequencer : AtSequencer w J
  sequencer world known from clock letter rest front k s at j = sequencer_owes world known from clock letter rest front k s at j

  own : AtSite w J
  own world known from clock letter rest k s at front j = (j.0, site_owes w world known from clock letter rest k s at front j.1)

  owe : (schedule : List Pick) → Each w J (run w schedule).servers (run w schedule).links
  owe = in_runs w J sequencer own (λ k s q. ((λ t o. absurd (true≢false (sym o))), λ told t o. absurd (true≢false (sym o))))

  pub runs_owe : (schedule : List Pick) → AcksCome w (run w schedule)
  runs_owe schedule k s at told = (owe schedule k s at).1 told

  -- where no letter is left, none does
  module _ (schedule : List Pick) (idle : is_idle (run w schedule) ≡ true) where
    abbrev told : List Noted
    told = noted (run w schedule).servers.sequencer.history

    none_of : {X : Type 0} (test : X → Bool) (xs : List X) → ((x : X) → test x ≡ true → ⊥) → list_any test xs ≡ false
    none_of test [] none = refl
    none_of test (x ∷ xs) none = go (test x) refl (none_of test xs none)
      where
        go : (b : Bool) → test x ≡ b → list_any test xs ≡ false → (b || list_any test xs) ≡ false
        go true q rest = absurd (none x q)
        go false q rest = rest

    owes_none : (k : ℕ) → k < w.sites → (t : Txn) → owes told (site (k + 1)) t ≡ true → ⊥
    owes_none k low t o = go own.0.up refl
      where
        own : (s : SiteState) × (slice_get (run w schedule).servers.sites k ≡ Some s)
        own = get_known (run w schedule).servers.sites k (let long = (reached w schedule).long in omega (arith, low, long))

        up : 1 ≤ session (vector w told) (site (k + 1))
        up = (owe schedule k own.0 own.1).0 t o

        agrees : session (vector w told) (site (k + 1)) ≡ own_session own.0
        agrees = run_idle w schedule idle k own.0 own.1

        go : (b : Bool) → own.0.up ≡ b → ⊥
        go false stopped = (let none : session (vector w told) (site (k + 1)) ≡ 0 = agrees ∙ ap (λ b. if b then own.0.session else 0) stopped in omega (arith, up, none))
        go true here = true≢false (sym comes ∙ nothing)
          where
            comes : (is_to_apply own.0.session t (link (run w schedule).links (k + 2) 1) || is_acked own.0.session t (link (run w schedule).links 1 (k + 2))) ≡ true
            comes = (owe schedule k own.0 own.1).1 (record { up = here; told = agrees ∙ ap (λ b. if b then own.0.session else 0) here }) t o

            nothing : (is_to_apply own.0.session t (link (run w schedule).links (k + 2) 1) || is_acked own.0.session t (link (run w schedule).links 1 (k + 2))) ≡ false
            nothing =
                ap (λ ls. is_to_apply own.0.session t ls || is_acked own.0.session t (link (run w schedule).links 1 (k + 2))) (idle_link (run w schedule) (k + 2) 1 idle)
                ∙ ap (is_acked own.0.session t) (idle_link (run w schedule) 1 (k + 2) idle)

    among : (a n : ℕ) → 1 ≤ a → a + n ≤ w.sites + 1 → list_any (λ s. list_any (owes told s) (txns w)) (map site (count_from a n)) ≡ false
    among a zero low high = refl
    among a (suc n) low high = go (list_any (owes told (site a)) (txns w)) here (among (a + 1) n (omega (arith, low)) (omega (arith, high)))
      where
        back : site (a - 1 + 1) ≡ site a
        back = ap site (let e : a - 1 + 1 ≡ a = omega (arith, low) in e)

        here : list_any (owes told (site a)) (txns w) ≡ false
        here = none_of (owes told (site a)) (txns w) (λ t o. owes_none (a - 1) (omega (arith, low, high)) t (subst (λ s. owes told s t ≡ true) (sym back) o))

        go : (b : Bool) → b ≡ false → list_any (λ s. list_any (owes told s) (txns w)) (map site (count_from (a + 1) n)) ≡ false → (b || list_any (λ s. list_any (owes told s) (txns w)) (map site (count_from (a + 1) n))) ≡ false
        go false q rest = rest
        go true q rest = q

    pub none_owe : NoneOwes w (run w schedule)
    none_owe = among 1 w.sites (omega arith) (omega arith)
