-- What a site sends says what there is.
use Rattle.std.proofs.Common.{◌≡◌, inl, inr, ℕ, ℤ, zero, suc, ◌+◌, ◌-◌, ◌≤◌, ◌==◌, nat_le, Bool, true, false, not, ◌&&◌, ◌||◌, List, [], ◌∷◌, ◌++◌, length, map, filter, fold, Option, Some, None, if◌then◌else◌, arith, sym, subst, ap, ◌∙◌, refl}
use Rattle.std.specs.Prelude.{⊤}
use Rattle.std.specs.List.{AllByRecursion, list_any}
use Rattle.std.specs.Option.{option_map_or}
use Rattle.std.proofs.lemmas.Bool.{and_parts, eqb-true, true≢false}
use Rattle.raid_base.specs.declared.names.Txn.{Txn}
use Rattle.raid_base.specs.declared.names.Item.{Item}
use Rattle.raid_base.specs.declared.names.Site.{Site}
use Rattle.raid_base.specs.declared.entry.Answer.{Answer}
use Rattle.raid_base.specs.declared.entry.Answer.TheVariants.{Yes, No}
use Rattle.raid_base.specs.declared.entry.Cause.{Cause}
use Rattle.raid_base.specs.declared.entry.Cause.TheVariants as causes
use Rattle.raid_base.specs.declared.entry.Noted.{Noted}
use Rattle.raid_base.specs.Names.{is_txn, is_site}
use Rattle.raid_base.specs.Find.{first_of}
use Rattle.raid_base.specs.Sites.{session, site}
use Rattle.raid_program.specs.declared.program.Outcome.{Outcome}
use Rattle.raid_program.specs.declared.program.Want.{Want}
use Rattle.raid_program.specs.declared.program.Want.TheVariants as wants
use Rattle.raid_program.specs.Run.{outcome_of, put}
use Rattle.raid_workload.specs.declared.workload.Workload.{Workload}
use Rattle.raid_workload.specs.Parts.{count_from, program, sites, home}
use Rattle.raid_rules.specs.Sessions.{is_site_up, last_session}
use Rattle.raid_rules.proofs.Push.{same_txn}
use Rattle.raid_legal.specs.Seen.{holds_some}
use Rattle.raid_message.specs.declared.letter.Message.{Message}
use Rattle.raid_message.specs.declared.letter.Message.TheVariants as letters
use Rattle.raid_message.specs.declared.letter.Letter.{Letter}
use Rattle.raid_steps.specs.State.{Out, Turn, with_state, opened, send, tell, Copy, Phase, asking, preparing, sent, Running, SiteState}
use Rattle.raid_steps.specs.Fits.{is_of_sequencer, is_of_site}
use Rattle.raid_steps.specs.Copies.{copy_of, staged_of, apply, unstage, stage, set_copy}
use Rattle.raid_steps.specs.Programs as programs
use Rattle.raid_steps.specs.Site as rows
use Rattle.raid_sessions.proofs.Lists.{all_append}
use Rattle.raid_asks.specs.Own.{IsOf}
use Rattle.raid_asks.proofs.Least.{txn, Ours, IsNext, following_is, ours_next}
use Rattle.raid_moves.proofs.Places.{all_found, all_kept, all_put}
use Rattle.raid_asks.proofs.Homes.{IsTold}
use Rattle.raid_letters.specs.Says.{is_held, AreReached, NoteSays, AskSays, ValueSays, PeerSays}
use Rattle.raid_letters.proofs.Sends.{same_site, site_back}

-- what is kept of a list passes, and something is where something passes
kept_pass : {X : Type 0} (test : X → Bool) (xs : List X) → AllByRecursion (λ x. test x ≡ true) (filter test xs)
kept_pass test [] = tt
kept_pass {X} test (x ∷ xs) = go (test x) refl (kept_pass test xs)
  where
    go : (b : Bool) → test x ≡ b → AllByRecursion (λ x. test x ≡ true) (filter test xs) → AllByRecursion (λ x. test x ≡ true) (if b then x ∷ filter test xs else filter test xs)
    go true q rest = (q, rest)
    go false q rest = rest

kept_some : {X : Type 0} (test : X → Bool) (xs : List X) → list_any test xs ≡ true → 1 ≤ length (filter test xs)
kept_some test [] q = absurd (true≢false (sym q))
kept_some {X} test (x ∷ xs) q = go (test x) q (kept_some test xs)
  where
    go : (b : Bool) → (b || list_any test xs) ≡ true → (list_any test xs ≡ true → 1 ≤ length (filter test xs)) → 1 ≤ length (if b then x ∷ filter test xs else filter test xs)
    go true q rest = omega arith
    go false q rest = rest q

-- in one session of a site, while the history is as it is
module _ (w : Workload) (p : List Noted) (here : Site) (m : ℕ) where
  abbrev pub SaysIn : ℕ → Out → Type 0
  SaysIn n out = AskSays w p here out.2 × PeerSays w p (site (out.0 - 1)) here n out.2

  abbrev Says : Out → Type 0
  Says out = SaysIn m out

  abbrev Runs : Running → Type 0
  Runs r = Ours w here r.txn

  -- the site is itself, in the session; its programs, and the next, are its own; and what it has sent says what there is
  record Fine (turn : Turn SiteState) : Type 0 where
    place : turn.state.site ≡ here
    same : turn.state.session ≡ m
    own : AllByRecursion Runs turn.state.running
    next : IsNext w here turn.state.next
    says : AllByRecursion Says turn.outs

  its : (t : Txn) → Ours w here t → IsOf w here t
  its t o = (o.known, o.at)

  at_home : (t : Txn) → Ours w here t → home w t ≡ here
  at_home t o = same_site here (home w t) o.at

  -- a message to a site
  peer_says : (s : Site) (n : ℕ) (message : Message) → AskSays w p here message → PeerSays w p s here m message → Says (s.0 + 1, n, message)
  peer_says s n message a q = (a, subst (λ r. PeerSays w p r here m message) (site_back s) q)

  says_more : (turn : Turn SiteState) (outs : List Out) → AllByRecursion Says outs → AllByRecursion Says turn.outs → AllByRecursion Says (turn.outs ++ outs)
  says_more turn outs a b = all_append Says turn.outs outs b a

  either : (b : Bool) (x y : Turn SiteState) → Fine x → Fine y → Fine (if b then x else y)
  either true x y h g = h
  either false x y h g = g

  options : {X : Type 0} (f : X → Turn SiteState) (o : Option X) (turn : Turn SiteState) → ((x : X) → o ≡ Some x → Fine (f x)) → Fine turn → Fine (option_map_or f o turn)
  options f None turn each fine = fine
  options f (Some x) turn each fine = each x refl

  folds : {X : Type 0} (P : X → Type 0) (step : Turn SiteState → X → Turn SiteState) (turn : Turn SiteState) (xs : List X) → AllByRecursion P xs → ((turn : Turn SiteState) (x : X) → P x → Fine turn → Fine (step turn x)) → Fine turn → Fine (fold step turn xs)
  folds P step turn [] a each fine = fine
  folds P step turn (x ∷ xs) a each fine = folds P step (step turn x) xs a.1 each (each turn x a.0 fine)

  any : {X : Type 0} (xs : List X) → AllByRecursion (λ x. ⊤) xs
  any [] = tt
  any (x ∷ xs) = (tt, any xs)

  -- a program is put, and more is sent
  puts : (turn : Turn SiteState) (r : Running) → Runs r → Fine turn → Fine (programs.with_running turn r)
  puts turn r o fine = record { place = fine.place; same = fine.same; own = all_put Runs r turn.state.running o fine.own; next = fine.next; says = fine.says }

  sends : (turn : Turn SiteState) (out : Out) → Says out → Fine turn → Fine (send turn out)
  sends turn out q fine = record { place = fine.place; same = fine.same; own = fine.own; next = fine.next; says = says_more turn (out ∷ []) (q, tt) fine.says }

  asks : (turn : Turn SiteState) (r : Running) (x : Item) → Runs r → Fine turn → Fine (programs.ask turn r x)
  asks turn r x o fine =
      let k = r.asks + 1 in
      let now : Running = record r { asks = k; phase = asking k x None } in
      sends (programs.with_running turn now) (1, 0, letters.ReadAsk r.txn k x) ((its r.txn o, omega arith), tt) (puts turn now o fine)

  ends : (turn : Turn SiteState) (r : Running) (cause : Cause) (o : Outcome) → Runs r → Fine turn → Fine (programs.end_by turn r cause o)
  ends turn r cause o ours fine =
      let now : Running = record r { phase = sent } in
      sends (programs.with_running turn now) (1, 0, letters.EndAsk r.txn cause o.reads) (its r.txn ours, tt) (puts turn now ours fine)

  prepare_says : (v : List ℕ) (t : Txn) (writes : List (Item × ℤ)) (s : Site) → Ours w here t → holds_some w writes s ≡ true → Says (programs.prepare_out w v t writes s)
  prepare_says v t writes s o q =
      peer_says s (session v s) (letters.Prepare t (programs.held_by w s writes)) tt
      (record { of = at_home t o; some = kept_some (λ pair. is_held w s pair.0) writes q; held = kept_pass (λ pair. is_held w s pair.0) writes })

  prepares_say : (v : List ℕ) (t : Txn) (writes : List (Item × ℤ)) (ss : List Site) → Ours w here t → AllByRecursion (λ s. holds_some w writes s ≡ true) ss → AllByRecursion Says (map (programs.prepare_out w v t writes) ss)
  prepares_say v t writes [] o a = tt
  prepares_say v t writes (s ∷ ss) o a = (prepare_says v t writes s o a.0, prepares_say v t writes ss o a.1)

  voters_hold : (state : SiteState) (writes : List (Item × ℤ)) (ss : List Site) → AllByRecursion (λ s. holds_some w writes s ≡ true) (filter (λ s. is_site_up state.vector s && not (is_site state.site s) && holds_some w writes s) ss)
  voters_hold state writes [] = tt
  voters_hold state writes (s ∷ ss) = go (is_site_up state.vector s && not (is_site state.site s) && holds_some w writes s) refl (voters_hold state writes ss)
    where
      rest : List Site
      rest = filter (λ s. is_site_up state.vector s && not (is_site state.site s) && holds_some w writes s) ss

      go : (b : Bool) → (is_site_up state.vector s && not (is_site state.site s) && holds_some w writes s) ≡ b → AllByRecursion (λ s. holds_some w writes s ≡ true) rest → AllByRecursion (λ s. holds_some w writes s ≡ true) (if b then s ∷ rest else rest)
      go true q a = ((and_parts (is_site_up state.vector s && not (is_site state.site s)) (holds_some w writes s) q).1, a)
      go false q a = a

  staged_fine : (turn : Turn SiteState) (t : Txn) (writes : List (Item × ℤ)) → Fine turn → Fine (with_state turn (programs.stage_own w turn.state t writes))
  staged_fine turn t writes fine = go (holds_some w writes turn.state.site)
    where
      more : SiteState
      more = record (turn.state) { staged = stage t (programs.held_by w turn.state.site writes) turn.state.staged }

      go : (b : Bool) → Fine (with_state turn (if b then more else turn.state))
      go true = record { place = fine.place; same = fine.same; own = fine.own; next = fine.next; says = fine.says }
      go false = fine

  prepares : (turn : Turn SiteState) (r : Running) (o : Outcome) → Runs r → Fine turn → Fine (programs.prepare w turn r o)
  prepares turn r o ours fine =
      let vs = programs.voters w turn.state o.writes in
      let own = with_state turn (programs.stage_own w turn.state r.txn o.writes) in
      let there = puts own (record r { phase = preparing o.reads o.writes vs }) ours (staged_fine turn r.txn o.writes fine) in
      record {
        place = there.place;
        same = there.same;
        own = there.own;
        next = there.next;
        says = says_more turn (map (programs.prepare_out w turn.state.vector r.txn o.writes) vs) (prepares_say turn.state.vector r.txn o.writes vs ours (voters_hold turn.state o.writes (sites w))) fine.says;
      }

  turns_to : (turn : Turn SiteState) (r : Running) (o : Outcome) (want : Want) → Runs r → Fine turn → Fine (programs.turn_to w turn r o want)
  turns_to turn r o (wants.Read x) ours fine = asks turn r x ours fine
  turns_to turn r o wants.Done ours fine = prepares turn r o ours fine
  turns_to turn r o wants.Own ours fine = ends turn r causes.Own o ours fine
  turns_to turn r o wants.Overflow ours fine = ends turn r causes.Overflow o ours fine

  goes_on : (turn : Turn SiteState) (r : Running) → Runs r → Fine turn → Fine (programs.go_on w turn r)
  goes_on turn r ours fine = let o = outcome_of (program w r.txn) (λ x. first_of x r.answers) in turns_to turn r o o.end ours fine

  begins : (turn : Turn SiteState) (t : Txn) → Ours w here t → Fine turn → Fine (programs.begin w turn t)
  begins turn t ours fine = goes_on (tell turn (letters.Begin t)) (record { txn = t; answers = []; asks = 0; phase = sent }) ours (sends turn (1, 0, letters.Begin t) (its t ours, tt) fine)

  begins_next : (turn : Turn SiteState) → Fine turn → Fine (programs.begin_next w turn)
  begins_next turn fine = go (turn.state.next == 0) refl
    where
      after : Turn SiteState
      after = with_state turn (record (turn.state) { next = programs.following w turn.state.site turn.state.next })

      there : Fine after
      there = record { place = fine.place; same = fine.same; own = fine.own; next = subst (λ s. IsNext w here (programs.following w s turn.state.next)) (sym fine.place) (following_is w here turn.state.next).0; says = fine.says }

      ours : (turn.state.next == 0) ≡ false → IsNext w here turn.state.next → Ours w here (txn turn.state.next)
      ours some (inl none) = absurd (true≢false (sym (ap (λ k. k == 0) none) ∙ some))
      ours some (inr found) = found.1.ours

      go : (b : Bool) → (turn.state.next == 0) ≡ b → Fine (if b then turn else programs.begin w after (record { 0 = turn.state.next }))
      go true q = fine
      go false q = begins after (record { 0 = turn.state.next }) (ours q fine.next) there

  starts : (turn : Turn SiteState) → Fine turn → Fine (programs.start w turn)
  starts turn fine =
      let rounds = count_from 0 (w.together - length turn.state.running) in
      folds (λ k. ⊤) (λ t k. programs.begin_next w t) turn rounds (any rounds) (λ t k h fine. begins_next t fine) fine

  gives_to : (turn : Turn SiteState) (k : ℕ) (v : ℤ) (r : Running) (phase : Phase) → Runs r → Fine turn → Fine (programs.give_to w turn k v r phase)
  gives_to turn k v r (asking j x s) ours fine = either (j == k) (programs.go_on w turn (record r { answers = put r.answers x v })) turn (goes_on turn (record r { answers = put r.answers x v }) ours fine) fine
  gives_to turn k v r (preparing reads writes awaited) ours fine = fine
  gives_to turn k v r sent ours fine = fine

  found : (turn : Turn SiteState) (t : Txn) (r : Running) → Fine turn → programs.running_of turn.state t ≡ Some r → Runs r
  found turn t r fine q = all_found Runs (λ (r : Running). is_txn t r.txn) turn.state.running r fine.own q

  gives : (turn : Turn SiteState) (t : Txn) (k : ℕ) (v : ℤ) → Fine turn → Fine (programs.give w turn t k v)
  gives turn t k v fine = options (λ r. programs.give_to w turn k v r r.phase) (programs.running_of turn.state t) turn (λ r q. gives_to turn k v r r.phase (found turn t r fine q) fine) fine

  changes : (turn : Turn SiteState) (t : Txn) (f : Phase → Phase) → Fine turn → Fine (programs.change turn t f)
  changes turn t f fine =
      options (λ r. programs.with_running turn (record r { phase = f r.phase })) (programs.running_of turn.state t) turn (λ r q. puts turn (record r { phase = f r.phase }) (found turn t r fine q) fine) fine

  loses : (s : Site) (turn : Turn SiteState) (r : Running) (phase : Phase) → Runs r → Fine turn → Fine (programs.lose s turn r phase)
  loses s turn r (asking k x None) ours fine = fine
  loses s turn r (asking k x (Some q)) ours fine = either (is_site s q) (programs.ask turn r x) turn (asks turn r x ours fine) fine
  loses s turn r (preparing reads writes awaited) ours fine = puts turn (record r { phase = programs.without_vote s r.phase }) ours fine
  loses s turn r sent ours fine = fine

  joins : (s : Site) (turn : Turn SiteState) (r : Running) (phase : Phase) → Runs r → Fine turn → Fine (programs.join w s turn r phase)
  joins s turn r (asking k x q) ours fine = fine
  joins s turn r (preparing reads writes awaited) ours fine = go (holds_some w writes s) refl
    where
      joined : Running
      joined = record r { phase = preparing reads writes (programs.with_vote s awaited) }

      out : Out
      out = programs.prepare_out w turn.state.vector r.txn writes s

      go : (b : Bool) → holds_some w writes s ≡ b → Fine (if b then send (programs.with_running turn joined) out else turn)
      go true q = sends (programs.with_running turn joined) out (prepare_says turn.state.vector r.txn writes s ours q) (puts turn joined ours fine)
      go false q = fine
  joins s turn r sent ours fine = fine

  -- commits are asked for under the vector that the step ends with
  same_vector : (turn : Turn SiteState) (r : Running) (phase : Phase) → (programs.ask_commit turn r phase).state.vector ≡ turn.state.vector
  same_vector turn r (asking k x q) = refl
  same_vector turn r (preparing reads writes []) = refl
  same_vector turn r (preparing reads writes (s ∷ ss)) = refl
  same_vector turn r sent = refl

  vector_kept : (turn : Turn SiteState) (rs : List Running) → (fold (λ now r. programs.ask_commit now r r.phase) turn rs).state.vector ≡ turn.state.vector
  vector_kept turn [] = refl
  vector_kept turn (r ∷ rs) = vector_kept (programs.ask_commit turn r r.phase) rs ∙ same_vector turn r r.phase

  asks_commit : (turn : Turn SiteState) (r : Running) (phase : Phase) → Runs r → AreReached w p turn.state.vector → Fine turn → Fine (programs.ask_commit turn r phase)
  asks_commit turn r (asking k x q) ours past fine = fine
  asks_commit turn r (preparing reads writes []) ours past fine =
      let now : Running = record r { phase = sent } in
      sends (programs.with_running turn now) (1, 0, letters.CommitAsk r.txn (record { reads = reads; writes = writes; under = turn.state.vector })) ((its r.txn ours, past), tt) (puts turn now ours fine)
  asks_commit turn r (preparing reads writes (s ∷ ss)) ours past fine = fine
  asks_commit turn r sent ours past fine = fine

  all_ask : (turn : Turn SiteState) (rs : List Running) → AllByRecursion Runs rs → AreReached w p turn.state.vector → Fine turn → Fine (fold (λ now r. programs.ask_commit now r r.phase) turn rs)
  all_ask turn [] a past fine = fine
  all_ask turn (r ∷ rs) a past fine = all_ask (programs.ask_commit turn r r.phase) rs a.1 (subst (AreReached w p) (sym (same_vector turn r r.phase)) past) (asks_commit turn r r.phase a.0 past fine)

  hears_if : (fits : Bool) (state : SiteState) (after : Turn SiteState) → Fine (opened state) → Fine after → AreReached w p (rows.hear_if fits state after).state.vector → Fine (rows.hear_if fits state after)
  hears_if true state after fine there past = all_ask after after.state.running there.own (subst (AreReached w p) (vector_kept after after.state.running) past) there
  hears_if false state after fine there past = fine

  -- the rows
  serves : (turn : Turn SiteState) (t : Txn) (k : ℕ) (h : Site) (n : ℕ) (c : Copy) → ValueSays w p h t k → Fine turn → Fine (rows.serve w turn t k h n c)
  serves turn t k h n c q fine =
      either (is_site turn.state.site h) (programs.give w turn t k c.value) (send turn (h.0 + 1, n, letters.Value t k c.value)) (gives turn t k c.value fine)
      (sends turn (h.0 + 1, n, letters.Value t k c.value) (peer_says h n (letters.Value t k c.value) tt q) fine)

  ended_fine : (turn : Turn SiteState) (t : Txn) → Fine turn → Fine (programs.ended turn t)
  ended_fine turn t fine = record { place = fine.place; same = fine.same; own = all_kept Runs (λ (r : Running). not (is_txn t r.txn)) turn.state.running fine.own; next = fine.next; says = fine.says }

  running_ours : (t : Txn) (rs : List Running) → AllByRecursion Runs rs → list_any (λ (r : Running). is_txn t r.txn) rs ≡ true → Ours w here t
  running_ours t [] a q = absurd (true≢false (sym q))
  running_ours t (r ∷ rs) a q = go (r.txn.0 == t.0) refl q (λ q. running_ours t rs a.1 q)
    where
      go : (b : Bool) → (r.txn.0 == t.0) ≡ b → (b || list_any (λ (r : Running). is_txn t r.txn) rs) ≡ true → (list_any (λ (r : Running). is_txn t r.txn) rs ≡ true → Ours w here t) → Ours w here t
      go true e q others = subst (Ours w here) (same_txn r.txn t e) a.0
      go false e q others = others q

  drops : (turn : Turn SiteState) (t : Txn) (again : Bool) → IsTold w here (letters.Drop t again) → Fine turn → Fine (rows.drop_row w turn t again)
  drops turn t again told fine = starts (if programs.runs_here turn.state t && again then programs.begin w dropped (programs.next_attempt w t) else dropped) (go (programs.runs_here turn.state t) refl again told)
    where
      dropped : Turn SiteState
      dropped = programs.ended (with_state turn (record (turn.state) { staged = unstage t turn.state.staged })) t

      there : Fine dropped
      there = ended_fine (with_state turn (record (turn.state) { staged = unstage t turn.state.staged })) t (record { place = fine.place; same = fine.same; own = fine.own; next = fine.next; says = fine.says })

      go : (b : Bool) → programs.runs_here turn.state t ≡ b → (c : Bool) → IsTold w here (letters.Drop t c) → Fine (if b && c then programs.begin w dropped (programs.next_attempt w t) else dropped)
      go true q true more = begins dropped (programs.next_attempt w t) (ours_next w here t (running_ours t turn.state.running fine.own q) more) there
      go true q false more = there
      go false q c more = there

  with_vector_fine : (turn : Turn SiteState) (s : Site) (n : ℕ) → Fine turn → Fine (rows.with_vector turn s n)
  with_vector_fine turn s n fine = record { place = fine.place; same = fine.same; own = fine.own; next = fine.next; says = fine.says }

  sequencer_rows : (turn : Turn SiteState) (to : ℕ) (message : Message) → IsTold w here message → NoteSays w p here to message → Fine turn → Fine (rows.sequencer_row w turn message)
  sequencer_rows turn to (letters.Welcome v next) told note fine = starts (with_state turn (record (turn.state) { vector = v; next = next })) (record { place = fine.place; same = fine.same; own = fine.own; next = told; says = fine.says })
  sequencer_rows turn to (letters.ReadDo t k x h n) told note fine =
      options (rows.serve w turn t k h n) (copy_of turn.state x) turn (λ c q. serves turn t k h n c (record { of = sym note.of; begun = note.begun; some = note.some }) fine) fine
  sequencer_rows turn to (letters.Serving t k s) told note fine = changes turn t (programs.noted_at k s) fine
  sequencer_rows turn to (letters.Apply t number) told note fine =
      options (λ ps. tell (with_state turn (apply turn.state t number ps)) (letters.Ack t)) (staged_of turn.state t) turn
      (λ ps q. sends (with_state turn (apply turn.state t number ps)) (1, 0, letters.Ack t) (tt, tt) (record { place = fine.place; same = fine.same; own = fine.own; next = fine.next; says = fine.says })) fine
  sequencer_rows turn to (letters.Done t) told note fine = starts (programs.ended turn t) (ended_fine turn t fine)
  sequencer_rows turn to (letters.Drop t again) told note fine = drops turn t again told fine
  sequencer_rows turn to (letters.DownNote s) told note fine =
      folds Runs (λ now r. programs.lose s now r r.phase) (rows.with_vector turn s 0) turn.state.running fine.own (λ now r h fine. loses s now r r.phase h fine) (with_vector_fine turn s 0 fine)
  sequencer_rows turn to (letters.UpNote s n) told note fine =
      folds Runs (λ now r. programs.join w s now r r.phase) (rows.with_vector turn s n) turn.state.running fine.own (λ now r h fine. joins s now r r.phase h fine) (with_vector_fine turn s n fine)
  sequencer_rows turn to (letters.CopyDo x target n) told note fine =
      options (λ (c : Copy). send turn (target.0 + 1, n, letters.CopyValue x c.value c.version)) (copy_of turn.state x) turn
      (λ c q. sends turn (target.0 + 1, n, letters.CopyValue x c.value c.version) (peer_says target n (letters.CopyValue x c.value c.version) tt note.wanted) fine) fine
  sequencer_rows turn to other told note fine = fine

  votes : (turn : Turn SiteState) (t : Txn) (s : Site) (n : ℕ) (answer : Answer) → Fine turn → Fine (rows.vote_row turn t s n answer)
  votes turn t s n Yes fine = either (session turn.state.vector s == n) (programs.change turn t (programs.without_vote s)) turn (changes turn t (programs.without_vote s) fine) fine
  votes turn t s n (No named own) fine = fine

  refreshes : (turn : Turn SiteState) (x : Item) (v : ℤ) (version : ℕ) (c : Copy) → Fine turn → Fine (rows.refresh turn x v version c)
  refreshes turn x v version c fine =
      let after = with_state turn (record (turn.state) { copies = set_copy x v version turn.state.copies }) in
      either (nat_le c.version version) (tell after (letters.CopyDone x version)) turn
      (sends after (1, 0, letters.CopyDone x version) (tt, tt) (record { place = fine.place; same = fine.same; own = fine.own; next = fine.next; says = fine.says })) fine

  peer_rows : (turn : Turn SiteState) (s : Site) (n : ℕ) (message : Message) → m ≤ last_session p here → PeerSays w p here s n message → Fine turn → Fine (rows.peer_row w turn s n message)
  peer_rows turn s n (letters.Value t k v) low word fine = gives turn t k v fine
  peer_rows turn s n (letters.Prepare t writes) low word fine =
      sends (with_state turn (record (turn.state) { staged = stage t writes turn.state.staged })) (s.0 + 1, n, letters.Vote t Yes) (peer_says s n (letters.Vote t Yes) tt (word.of, low))
      (record { place = fine.place; same = fine.same; own = fine.own; next = fine.next; says = fine.says })
  peer_rows turn s n (letters.Vote t answer) low word fine = votes turn t s n answer fine
  peer_rows turn s n (letters.CopyValue x v version) low word fine = options (rows.refresh turn x v version) (copy_of turn.state x) turn (λ c q. refreshes turn x v version c fine) fine
  peer_rows turn s n other low word fine = fine

  -- the step
  all_in : (turn : Turn SiteState) → Fine turn → AllByRecursion (SaysIn turn.state.session) turn.outs
  all_in turn fine = subst (λ n. AllByRecursion (SaysIn n) turn.outs) (sym fine.same) fine.says

  module _ (state : SiteState) (letter : Letter) (fine : Fine (opened state)) where
    refuses : (i : ℕ) (message : Message) → PeerSays w p here (site (i + 1)) letter.from message → Fine (rows.refuse state (i + 2) letter message)
    refuses i (letters.Prepare t writes) word =
        sends (opened state) (i + 2, letter.from, letters.Vote t (No letter.to state.session)) (tt, subst (λ n. home w t ≡ site n) (back i) word.of) fine
      where
        back : (i : ℕ) → i + 1 ≡ i + 2 - 1
        back i = omega arith
    refuses i other word = fine

    stops : (message : Message) → AllByRecursion (SaysIn (rows.stop w state message).state.session) (rows.stop w state message).outs
    stops letters.Stop = ((tt, tt), tt)
    stops other = tt

    returns : (message : Message) → AllByRecursion (SaysIn (rows.return state message).state.session) (rows.return state message).outs
    returns letters.Return = ((tt, tt), tt)
    returns other = tt

    hears_up : (from : ℕ) → (from ≡ 1 → IsTold w here letter.message × NoteSays w p here letter.to letter.message) →
        ((j : ℕ) → from ≡ j + 2 → (letter.to ≤ last_session p here) × PeerSays w p here (site (j + 1)) letter.from letter.message) →
        AreReached w p (rows.hear_up w state from letter).state.vector → AllByRecursion (SaysIn (rows.hear_up w state from letter).state.session) (rows.hear_up w state from letter).outs
    hears_up zero note word past = stops letter.message
    hears_up (suc zero) note word past = all_in (rows.hear_up w state 1 letter) (go (letter.to == state.session) past)
      where
        go : (b : Bool) → AreReached w p (if b then rows.hear_sequencer w state letter else opened state).state.vector → Fine (if b then rows.hear_sequencer w state letter else opened state)
        go true past =
            hears_if (is_of_sequencer w letter.message && rows.fits_here w state letter.message) state (rows.sequencer_row w (opened state) letter.message) fine
            (sequencer_rows (opened state) letter.to letter.message (note refl).0 (note refl).1 fine) past
        go false past = fine
    hears_up (suc (suc i)) note word past = all_in (rows.hear_up w state (suc (suc i)) letter) (go (letter.to == state.session) refl past)
      where
        heard : (letter.to ≤ last_session p here) × PeerSays w p here (site (i + 1)) letter.from letter.message
        heard = word i (omega arith)

        low : (letter.to == state.session) ≡ true → letter.to ≤ last_session p here → state.session ≡ m → m ≤ last_session p here
        low q le same = (let e = eqb-true letter.to state.session q in omega (arith, e, le, same))

        go : (b : Bool) → (letter.to == state.session) ≡ b → AreReached w p (if b then rows.hear_peer w state (site (i + 1)) letter else rows.refuse state (i + 2) letter letter.message).state.vector →
            Fine (if b then rows.hear_peer w state (site (i + 1)) letter else rows.refuse state (i + 2) letter letter.message)
        go true q past =
            hears_if (is_of_site w letter.message && rows.fits_here w state letter.message) state (rows.peer_row w (opened state) (site (i + 1)) letter.from letter.message) fine
            (peer_rows (opened state) (site (i + 1)) letter.from letter.message (low q heard.0 fine.same) heard.1 fine) past
        go false q past = refuses i letter.message heard.1

    hears_down : (from : ℕ) → AllByRecursion (SaysIn (rows.hear_down state from letter).state.session) (rows.hear_down state from letter).outs
    hears_down zero = returns letter.message
    hears_down (suc k) = tt

  pub site_says : (state : SiteState) (letter : Letter) → state.site ≡ here → state.session ≡ m → AllByRecursion (λ (r : Running). Ours w here r.txn) state.running → IsNext w here state.next →
      (from : ℕ) → (from ≡ 1 → IsTold w here letter.message × NoteSays w p here letter.to letter.message) →
      ((j : ℕ) → from ≡ j + 2 → (letter.to ≤ last_session p here) × PeerSays w p here (site (j + 1)) letter.from letter.message) →
      AreReached w p (rows.hear_site w state from letter).state.vector → AllByRecursion (SaysIn (rows.hear_site w state from letter).state.session) (rows.hear_site w state from letter).outs
  site_says state letter place same own next from note word = go state.up
    where
      fine : Fine (opened state)
      fine = record { place = place; same = same; own = own; next = next; says = tt }

      go : (u : Bool) → AreReached w p (if u then rows.hear_up w state from letter else rows.hear_down state from letter).state.vector →
          AllByRecursion (SaysIn (if u then rows.hear_up w state from letter else rows.hear_down state from letter).state.session) (if u then rows.hear_up w state from letter else rows.hear_down state from letter).outs
      go true past = hears_up state letter fine from note word past
      go false past = hears_down state letter fine from
