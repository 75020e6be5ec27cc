-- What a home does that goes through all its programs, or counts a vote, keeps the votes coming that are awaited still.
use Rattle.std.proofs.Common.{◌≡◌, ℕ, ℤ, ◌+◌, ◌≤◌, ◌==◌, Bool, true, false, not, List, [], ◌∷◌, ◌++◌, fold, length, Option, Some, None, if◌then◌else◌, arith, sym, subst, ap, ◌∙◌, refl}
use Rattle.std.specs.Prelude.{⊤}
use Rattle.std.specs.List.{AllByRecursion, list_any}
use Rattle.std.specs.Option.{option_map_or}
use Rattle.std.proofs.lemmas.Bool.{and_parts, true≢false}
use Rattle.raid_base.specs.declared.names.Txn.{Txn}
use Rattle.raid_base.specs.declared.names.Item.{Item}
use Rattle.raid_base.specs.declared.names.Site.{Site}
use Rattle.raid_base.specs.declared.entry.Answer.TheVariants.{Yes}
use Rattle.raid_base.specs.Names.{is_txn, is_site, has_site}
use Rattle.raid_base.specs.Sites.{session, site}
use Rattle.raid_workload.specs.declared.workload.Workload.{Workload}
use Rattle.raid_rules.proofs.Sources.{has_kept}
use Rattle.raid_legal.specs.Seen.{holds_some}
use Rattle.raid_message.specs.declared.letter.Message.TheVariants as letters
use Rattle.raid_message.specs.declared.letter.Letter.{Letter}
use Rattle.raid_report.proofs.Lists.{image_known}
use Rattle.raid_steps.specs.State.{Out, Turn, opened, send, Phase, asking, preparing, sent, Running, SiteState}
use Rattle.raid_steps.specs.Fits.{knows_site}
use Rattle.raid_steps.specs.Programs as programs
use Rattle.raid_steps.specs.Programs.{put_running, running_of, prepare_out, with_running, change, without_vote, ask_commits}
use Rattle.raid_steps.specs.Site as rows
use Rattle.raid_steps.specs.Site.{hear_site}
use Rattle.raid_sessions.proofs.Ledger.{session_set}
use Rattle.raid_sessions.proofs.Lists.{not_false}
use Rattle.raid_sessions.proofs.Mail.{letters_to}
use Rattle.raid_moves.specs.Moves.{Ascend, Tells, Says, but}
use Rattle.raid_moves.specs.After.{lost_in, lost, joined_in, joined}
use Rattle.raid_moves.proofs.Places.{program_of, nothing, found_txn, ascend_put, all_found, all_both, all_weaken}
use Rattle.raid_moves.proofs.Steps.{sequencer_rows, asks_commits, ascend_row, ascend_moves}
use Rattle.raid_moves.proofs.Swept.{told_is, said_is, lost_all, joined_all}
use Rattle.raid_asks.proofs.Notes.{letters_append}
use Rattle.raid_letters.proofs.Sends.{same_site}
use Rattle.raid_votes.specs.Votes.{asks_vote, VoteComes}
use Rattle.raid_votes.proofs.Expects.{any_on, any_new, each_in, one_of, all_put_other, Expects}
use Rattle.raid_votes.proofs.Home.{with_outs, Waits, Each, Rises, Now, comes_on, comes_new, one_asked, with_one, moves_now}

folds : (P : Turn SiteState → Type 0) (step : Turn SiteState → Running → Turn SiteState) → ((turn : Turn SiteState) (r : Running) → P turn → P (step turn r)) → (rs : List Running) (turn : Turn SiteState) → P turn → P (fold step turn rs)
folds P step each [] turn h = h
folds P step each (r ∷ rs) turn h = folds P step each rs (step turn r) (each turn r h)

either : {A : Type 0} (P : A → Type 0) (b : Bool) (x y : A) → P x → P y → P (if b then x else y)
either P true x y h g = h
either P false x y h g = g

-- where none is found, all are of others
none_found : (t : Txn) (rs : List Running) → program_of t rs ≡ None → AllByRecursion (λ (r : Running). is_txn t r.txn ≡ false) rs
none_found t [] q = tt
none_found t (r ∷ rs) q = go (r.txn.0 == t.0) refl q (none_found t rs)
  where
    go : (b : Bool) → (r.txn.0 == t.0) ≡ b → (if b then Some r else program_of t rs) ≡ None → (program_of t rs ≡ None → AllByRecursion (λ (r : Running). is_txn t r.txn ≡ false) rs) → AllByRecursion (λ (r : Running). is_txn t r.txn ≡ false) (r ∷ rs)
    go true e q rest = absurd (nothing (sym q))
    go false e q rest = (e, rest q)

module _ (w : Workload) (all : List SiteState) (k : ℕ) (state : SiteState) (from clock : ℕ) (letter : Letter) (asks votes : Site → List Letter) (at_home : state.site ≡ site (k + 1)) (ascend : Ascend state.running) where
  abbrev Good : Turn SiteState → Type 0
  Good turn = Now w all k state from clock letter asks votes turn

  abbrev WaitsIn : Turn SiteState → Txn → Phase → Type 0
  WaitsIn turn t phase = Waits w all k state from clock letter asks votes turn t phase

  abbrev ExpectsIn : Turn SiteState → Txn → List (Item × ℤ) → Site → Type 0
  ExpectsIn turn t writes a = Expects w all k state.session turn.state.vector (with_outs w all k state from clock letter asks votes turn.outs) votes t writes a

  -- the home and the vector are these
  abbrev IsAt : List ℕ → Turn SiteState → Type 0
  IsAt v turn = (turn.state.site ≡ state.site) × (turn.state.vector ≡ v)

  -- a vote of a site whose session is left
  left_one : (turn : Turn SiteState) (t : Txn) (writes : List (Item × ℤ)) (a : Site) → session turn.state.vector a ≡ session state.vector a → ExpectsIn (opened state) t writes a → ExpectsIn turn t writes a
  left_one turn t writes a same e = record {
    known = e.known;
    other = e.other;
    holds = e.holds;
    up = subst (λ n. 1 ≤ n) (sym same) e.up;
    comes = subst (λ n. VoteComes all (with_outs w all k state from clock letter asks votes turn.outs a) (votes a) state.session n t a) (sym same) (comes_on w all k state from clock letter asks votes [] turn.outs (session state.vector a) t a e.comes);
  }

  turned : (a b : ℕ) → (a == b) ≡ false → (b == a) ≡ false
  turned a b q = grind (arith, q)

  module _ (long : length state.vector ≡ w.sites) where
    -- the vector with another session of one site
    other_session : (z a : Site) (n : ℕ) → knows_site w z ≡ true → knows_site w a ≡ true → is_site z a ≡ false → session (rows.with_vector (opened state) z n).state.vector a ≡ session state.vector a
    other_session z a n known too differ = session_set w state.vector z a n long known too ∙ ap (λ b. if b then n else session state.vector a) (turned a.0 z.0 differ)

    -- a site is down
    module _ (z : Site) (e : Tells w state from letter (letters.DownNote z)) (start : Each w all k state from clock letter asks votes (opened state)) where
      abbrev fallen : Turn SiteState
      fallen = rows.down_row (opened state) z

      fallen_at : IsAt (rows.with_vector (opened state) z 0).state.vector fallen
      fallen_at = folds (IsAt (rows.with_vector (opened state) z 0).state.vector) (λ now r. programs.lose z now r r.phase) (λ turn r h. one turn r h r.phase) state.running (rows.with_vector (opened state) z 0) (refl, refl)
        where
          one : (turn : Turn SiteState) (r : Running) → IsAt (rows.with_vector (opened state) z 0).state.vector turn → (phase : Phase) → IsAt (rows.with_vector (opened state) z 0).state.vector (programs.lose z turn r phase)
          one turn r h (asking i x None) = h
          one turn r h (asking i x (Some q)) = either (IsAt (rows.with_vector (opened state) z 0).state.vector) (is_site z q) (programs.ask turn r x) turn h h
          one turn r h (preparing reads writes awaited) = h
          one turn r h sent = h

      known : knows_site w z ≡ true
      known = (and_parts (knows_site w z) true e.fits).0

      lost_waits : (r : Running) → WaitsIn (opened state) r.txn r.phase → WaitsIn fallen (lost z r).txn (lost z r).phase
      lost_waits r h = go r.phase refl h
        where
          go : (phase : Phase) → r.phase ≡ phase → WaitsIn (opened state) r.txn phase → WaitsIn fallen (lost_in z r phase).txn (lost_in z r phase).phase
          go (asking i x None) is h = subst (WaitsIn fallen r.txn) (sym is) tt
          go (asking i x (Some q)) is h = either (λ (y : Running). WaitsIn fallen y.txn y.phase) (is_site z q) (record r { asks = r.asks + 1; phase = asking (r.asks + 1) x None }) r tt (subst (WaitsIn fallen r.txn) (sym is) tt)
          go (preparing reads writes awaited) is h = each_in (ExpectsIn fallen r.txn writes) (but z awaited) (λ a has.
              (let kept = and_parts (not (is_site z a)) (has_site awaited a) (sym (has_kept (λ r. not (is_site z r)) a awaited) ∙ has) in
              let old = one_of (ExpectsIn (opened state) r.txn writes) awaited a h kept.1 in
              left_one fallen r.txn writes a (ap (λ v. session v a) fallen_at.1 ∙ other_session z a 0 known old.known (not_false (is_site z a) kept.0)) old))
          go sent is h = subst (WaitsIn fallen r.txn) (sym is) tt

      no_rise : Rises w all k state from clock letter asks votes fallen.state.vector
      no_rise r n tells = absurd (differ (sym e.is ∙ tells.is))
        where
          differ : letters.DownNote z ≡ letters.UpNote r n → ⊥
          differ q = cc q

      fallen_now : Good fallen
      fallen_now = record {
        place = fallen_at.0 ∙ at_home;
        each = subst (AllByRecursion (λ (r : Running). WaitsIn fallen r.txn r.phase)) (sym (lost_all z (opened state) ascend))
            (image_known (λ (r : Running). WaitsIn fallen r.txn r.phase) (lost z) state.running (all_weaken (λ (r : Running). WaitsIn (opened state) r.txn r.phase) (λ (r : Running). WaitsIn fallen (lost z r).txn (lost z r).phase) state.running lost_waits start));
        rises = no_rise;
      }

      pub falls_now : Now w all k state from clock letter asks votes (hear_site w state from letter)
      falls_now =
          let reached = sequencer_rows w state from letter ascend (letters.DownNote z) e in
          let still = ascend_moves w state from letter (ascend_row w state from letter ascend reached.1.0) reached.1.1 in
          subst Good (sym (told_is w state from letter (letters.DownNote z) e)) (moves_now w all k state from clock letter asks votes (asks_commits w state from letter e.heard fallen still) fallen_now)

    -- a site is up
    module _ (z : Site) (n : ℕ) (e : Tells w state from letter (letters.UpNote z n)) (some : 1 ≤ n) (other : is_site (site (k + 1)) z ≡ false) (start : Each w all k state from clock letter asks votes (opened state)) where
      abbrev v : List ℕ
      v = (rows.with_vector (opened state) z n).state.vector

      abbrev risen : Turn SiteState
      risen = rows.up_row w (opened state) z n

      abbrev join : Turn SiteState → Running → Turn SiteState
      join now r = programs.join w z now r r.phase

      known_too : knows_site w z ≡ true
      known_too = (and_parts (knows_site w z) true e.fits).0

      itself : (a : ℕ) → (a == a) ≡ true
      itself a = grind arith

      its_session : session (rows.with_vector (opened state) z n).state.vector z ≡ n
      its_session = session_set w state.vector z z n long known_too known_too ∙ ap (λ b. if b then n else session state.vector z) (itself z.0)

      join_at : (turn : Turn SiteState) (r : Running) → IsAt v turn → (phase : Phase) → IsAt v (programs.join w z turn r phase)
      join_at turn r h (asking i x q) = h
      join_at turn r h (preparing reads writes awaited) =
          either (IsAt v) (holds_some w writes z) (send (with_running turn (record r { phase = preparing reads writes (programs.with_vote z awaited) })) (prepare_out w turn.state.vector r.txn writes z)) turn h h
      join_at turn r h sent = h

      risen_at : IsAt (rows.with_vector (opened state) z n).state.vector risen
      risen_at = folds (IsAt v) join (λ turn r h. join_at turn r h r.phase) state.running (rows.with_vector (opened state) z n) (refl, refl)

      -- the vote is asked for
      abbrev IsAsked : Txn → Turn SiteState → Type 0
      IsAsked t turn = list_any (asks_vote state.session (session v z) t) (letters_to (z.0 + 1) state.session clock turn.outs) ≡ true

      asked_more : (t : Txn) (turn : Turn SiteState) (r : Running) (out : Out) → IsAsked t turn → list_any (asks_vote state.session (session v z) t) (letters_to (z.0 + 1) state.session clock (turn.outs ++ out ∷ [])) ≡ true
      asked_more t turn r out h =
          ap (list_any (asks_vote state.session (session v z) t)) (letters_append (z.0 + 1) state.session clock turn.outs (out ∷ []))
          ∙ any_on (asks_vote state.session (session v z) t) (letters_to (z.0 + 1) state.session clock turn.outs) (letters_to (z.0 + 1) state.session clock (out ∷ [])) h

      join_keeps : (t : Txn) (turn : Turn SiteState) (r : Running) → IsAsked t turn → (phase : Phase) → IsAsked t (programs.join w z turn r phase)
      join_keeps t turn r h (asking i x q) = h
      join_keeps t turn r h (preparing reads writes awaited) =
          either (IsAsked t) (holds_some w writes z) (send (with_running turn (record r { phase = preparing reads writes (programs.with_vote z awaited) })) (prepare_out w turn.state.vector r.txn writes z)) turn
          (asked_more t turn r (prepare_out w turn.state.vector r.txn writes z) h) h
      join_keeps t turn r h sent = h

      abbrev AskedIn : Turn SiteState → Txn → Phase → Type 0
      AskedIn turn t (preparing reads writes awaited) = holds_some w writes z ≡ true → IsAsked t turn
      AskedIn turn t phase = ⊤

      joins_ask : (rs : List Running) (turn : Turn SiteState) → IsAt (rows.with_vector (opened state) z n).state.vector turn → AllByRecursion (λ (r : Running). AskedIn (fold (λ now r. programs.join w z now r r.phase) turn rs) r.txn r.phase) rs
      joins_ask [] turn h = tt
      joins_ask (r ∷ rs) turn h = (first r.phase, joins_ask rs (join turn r) (join_at turn r h r.phase))
        where
          first : (phase : Phase) → AskedIn (fold (λ now r. programs.join w z now r r.phase) (programs.join w z turn r phase) rs) r.txn phase
          first (asking i x q) = tt
          first (preparing reads writes awaited) = λ holds. folds (IsAsked r.txn) join (λ turn q h. join_keeps r.txn turn q h q.phase) rs (programs.join w z turn r (preparing reads writes awaited)) (now holds)
            where
              after : Turn SiteState
              after = send (with_running turn (record r { phase = preparing reads writes (programs.with_vote z awaited) })) (prepare_out w turn.state.vector r.txn writes z)

              told : IsAsked r.txn (send (with_running turn (record r { phase = preparing reads writes (programs.with_vote z awaited) })) (prepare_out w turn.state.vector r.txn writes z))
              told =
                  ap (list_any (asks_vote state.session (session v z) r.txn)) (letters_append (z.0 + 1) state.session clock turn.outs (prepare_out w turn.state.vector r.txn writes z ∷ []))
                  ∙ any_new (asks_vote state.session (session v z) r.txn) (letters_to (z.0 + 1) state.session clock turn.outs) (letters_to (z.0 + 1) state.session clock (prepare_out w turn.state.vector r.txn writes z ∷ []))
                  (subst (λ u. list_any (asks_vote state.session (session u z) r.txn) (letters_to (z.0 + 1) state.session clock (prepare_out w turn.state.vector r.txn writes z ∷ [])) ≡ true) h.1 (one_asked w all k state from clock letter asks votes turn.state.vector r.txn writes z))

              now : holds_some w writes z ≡ true → IsAsked r.txn (programs.join w z turn r (preparing reads writes awaited))
              now holds = subst (λ b. IsAsked r.txn (if b then send (with_running turn (record r { phase = preparing reads writes (programs.with_vote z awaited) })) (prepare_out w turn.state.vector r.txn writes z) else turn)) (sym holds) told
          first sent = tt

      joined_waits : (r : Running) → WaitsIn (opened state) r.txn r.phase → AskedIn risen r.txn r.phase → WaitsIn risen (joined w z r).txn (joined w z r).phase
      joined_waits r h asked = go r.phase refl h asked
        where
          go : (phase : Phase) → r.phase ≡ phase → WaitsIn (opened state) r.txn phase → AskedIn risen r.txn phase → WaitsIn risen (joined_in w z r phase).txn (joined_in w z r phase).phase
          go (asking i x q) is h asked = subst (WaitsIn risen r.txn) (sym is) tt
          go (preparing reads writes awaited) is h asked = joins (holds_some w writes z) refl
            where
              old : (a : Site) → is_site z a ≡ false → has_site awaited a ≡ true → ExpectsIn risen r.txn writes a
              old a differ has = (let before = one_of (ExpectsIn (opened state) r.txn writes) awaited a h has in left_one risen r.txn writes a (ap (λ v. session v a) risen_at.1 ∙ other_session z a n known_too before.known differ) before)

              session_is : session risen.state.vector z ≡ session (rows.with_vector (opened state) z n).state.vector z
              session_is = ap (λ v. session v z) risen_at.1

              new : holds_some w writes z ≡ true → ExpectsIn risen r.txn writes z
              new holds = record {
                known = known_too;
                other = other;
                holds = holds;
                up = (let a = session_is in let b = its_session in omega (arith, a, b, some));
                comes = comes_new w all k state from clock letter asks votes [] risen.outs (session risen.state.vector z) r.txn z
                    (subst (λ n. list_any (asks_vote state.session n r.txn) (letters_to (z.0 + 1) state.session clock risen.outs) ≡ true) (sym session_is) (asked holds));
              }

              joins : (b : Bool) → holds_some w writes z ≡ b →
                  WaitsIn risen (if b then record r { phase = preparing reads writes (programs.with_vote z awaited) } else r).txn (if b then record r { phase = preparing reads writes (programs.with_vote z awaited) } else r).phase
              joins true q = with_one w all k state from clock letter asks votes (ExpectsIn risen r.txn writes) z awaited (new q) old
              joins false q = subst (WaitsIn risen r.txn) (sym is) (each_in (ExpectsIn risen r.txn writes) awaited (λ a has. old a (apart a has (is_site z a) refl) has))
                where
                  apart : (a : Site) → has_site awaited a ≡ true → (b : Bool) → is_site z a ≡ b → b ≡ false
                  apart a has true here = absurd (true≢false (sym (one_of (ExpectsIn (opened state) r.txn writes) awaited a h has).holds ∙ ap (holds_some w writes) (same_site z a here) ∙ q))
                  apart a has false here = refl
          go sent is h asked = subst (WaitsIn risen r.txn) (sym is) tt

      risen_now : Good risen
      risen_now = record {
        place = risen_at.0 ∙ at_home;
        each = subst (AllByRecursion (λ (r : Running). WaitsIn risen r.txn r.phase)) (sym (joined_all w z n (opened state) ascend))
            (image_known (λ (r : Running). WaitsIn risen r.txn r.phase) (joined w z) state.running
            (all_both (λ (r : Running). WaitsIn (opened state) r.txn r.phase) (λ (r : Running). AskedIn risen r.txn r.phase) (λ (r : Running). WaitsIn risen (joined w z r).txn (joined w z r).phase) state.running joined_waits start
            (joins_ask state.running (rows.with_vector (opened state) z n) (refl, refl))));
        rises = rises;
      }
        where
          rises : Rises w all k state from clock letter asks votes risen.state.vector
          rises r i tells = subst (λ x. (is_site (site (k + 1)) x ≡ false) × (1 ≤ session risen.state.vector x)) (same (sym e.is ∙ tells.is)) (other, (let a = ap (λ v. session v z) risen_at.1 in let b = its_session in omega (arith, a, b, some)))
            where
              same : letters.UpNote z n ≡ letters.UpNote r i → z ≡ r
              same q = cc q

      pub rises_now : Now w all k state from clock letter asks votes (hear_site w state from letter)
      rises_now =
          let reached = sequencer_rows w state from letter ascend (letters.UpNote z n) e in
          let still = ascend_moves w state from letter (ascend_row w state from letter ascend reached.1.0) reached.1.1 in
          subst Good (sym (told_is w state from letter (letters.UpNote z n) e)) (moves_now w all k state from clock letter asks votes (asks_commits w state from letter e.heard risen still) risen_now)

  -- a vote is counted
  module _ (i : ℕ) (u : Txn) (e : Says w state from letter i (letters.Vote u Yes)) (counted : (session state.vector (site (i + 1)) == letter.from) ≡ true)
      (others : AllByRecursion (λ (r : Running). is_txn u r.txn ≡ false → Waits w all k state from clock letter asks votes (opened state) r.txn r.phase) state.running)
      (its : AllByRecursion (λ (r : Running). Waits w all k state from clock letter asks votes (opened state) r.txn (without_vote (site (i + 1)) r.phase)) state.running) where
    abbrev changed : Option Running → Turn SiteState
    changed o = option_map_or (λ r. with_running (opened state) (record r { phase = without_vote (site (i + 1)) r.phase })) o (opened state)

    heard_is : hear_site w state from letter ≡ ask_commits (changed (running_of state u))
    heard_is = said_is w state from letter i (letters.Vote u Yes) e ∙ ap (λ b. ask_commits (if b then change (opened state) u (without_vote (site (i + 1))) else opened state)) counted

    not_risen : Rises w all k state from clock letter asks votes state.vector
    not_risen z n tells = absurd (let one = tells.by in let two = e.by in omega (arith, one, two))

    put_now : (o : Option Running) → running_of state u ≡ o → Good (changed o)
    put_now None q = record {
      place = at_home;
      each = all_both (λ (r : Running). is_txn u r.txn ≡ false → WaitsIn (opened state) r.txn r.phase) (λ (r : Running). is_txn u r.txn ≡ false) (λ (r : Running). WaitsIn (opened state) r.txn r.phase) state.running (λ r f d. f d) others (none_found u state.running q);
      rises = not_risen;
    }
    put_now (Some r) q = record {
      place = at_home;
      each = all_put_other (λ (r : Running). WaitsIn (opened state) r.txn r.phase) (record r { phase = without_vote (site (i + 1)) r.phase }) state.running
          (all_found (λ (r : Running). WaitsIn (opened state) r.txn (without_vote (site (i + 1)) r.phase)) (λ (r : Running). is_txn u r.txn) state.running r its q) ascend
          (subst (λ t. AllByRecursion (λ (r : Running). is_txn t r.txn ≡ false → WaitsIn (opened state) r.txn r.phase) state.running) (sym (found_txn u state.running r q)) others);
      rises = not_risen;
    }

    ascends : (o : Option Running) → Ascend (changed o).state.running
    ascends None = ascend
    ascends (Some r) = ascend_put (record r { phase = without_vote (site (i + 1)) r.phase }) state.running ascend

    pub counts_now : Now w all k state from clock letter asks votes (hear_site w state from letter)
    counts_now = subst Good (sym heard_is) (moves_now w all k state from clock letter asks votes (asks_commits w state from letter e.heard (changed (running_of state u)) (ascends (running_of state u))) (put_now (running_of state u) refl))
