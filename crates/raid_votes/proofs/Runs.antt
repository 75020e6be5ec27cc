-- In every run, the votes that are awaited come; so where no letter is left none is awaited.
use Rattle.std.proofs.Common.{◌≡◌, ◌≢◌, ◌⊎◌, inl, inr, ℕ, zero, suc, ◌+◌, ◌-◌, ◌<◌, ◌≤◌, ◌==◌, Bool, true, false, ◌||◌, List, [], ◌∷◌, ◌++◌, length, Option, Some, None, if◌then◌else◌, arith, sym, subst, ap, ◌∙◌, refl, append-nil, append_assoc}
use Rattle.std.specs.Prelude.{max, slice_get, slice_set, slice_index}
use Rattle.std.specs.List.{AllByRecursion, list_any}
use Rattle.std.specs.Option.{option_map_or}
use Rattle.std.proofs.lemmas.Bool.{eqb-true, true≢false}
use Rattle.std.proofs.lemmas.List.Sums.{fold-append}
use Rattle.raid_base.specs.declared.names.Txn.{Txn}
use Rattle.raid_base.specs.declared.names.Site.{Site}
use Rattle.raid_base.specs.Sites.{session, site}
use Rattle.raid_workload.specs.declared.workload.Workload.{Workload}
use Rattle.raid_rules.specs.History.{noted}
use Rattle.raid_rules.specs.Sessions.{last_session}
use Rattle.raid_legal.specs.Seen.{vector}
use Rattle.raid_message.specs.declared.letter.Letter.{Letter}
use Rattle.raid_message.specs.declared.letter.Pick.{Pick}
use Rattle.raid_steps.specs.State.{Out, Turn, Phase, asking, preparing, sent, Running, SiteState}
use Rattle.raid_steps.specs.Fits.{knows_site}
use Rattle.raid_steps.specs.Monitor.{hear_monitor}
use Rattle.raid_steps.specs.Sequencer.{hear_sequencer}
use Rattle.raid_steps.specs.Site.{hear_site}
use Rattle.raid_steps.specs.World.{World, hear, hear_at, session_of, link, take_front, pick, run, open_world, is_idle}
use Rattle.raid_sessions.specs.Present.{own_session}
use Rattle.raid_sessions.proofs.Agreed.{told_follows, run_idle}
use Rattle.raid_sessions.proofs.Lists.{get_below, get_known, get_set, get_other, is_same, some_is, within}
use Rattle.raid_sessions.proofs.Mail.{same_or_not, letters_to, moved, moved_taken, moved_sent, moved_other}
use Rattle.raid_sessions.proofs.Reached.{from_below, server_below}
use Rattle.raid_moves.specs.After.{is_ready, NoneIsReady}
use Rattle.raid_moves.specs.Moves.{is_preparing}
use Rattle.raid_moves.proofs.Places.{all_both, all_weaken}
use Rattle.raid_asks.proofs.Least.{Ours}
use Rattle.raid_asks.proofs.Reached.{first_state}
use Rattle.raid_layers.proofs.Runs.{nobody}
use Rattle.raid_versions.proofs.Owed.{Known}
use Rattle.raid_versions.proofs.Runs as below
use Rattle.raid_vectors.specs.Vectors.{IsTold}
use Rattle.raid_vectors.proofs.Runs.{idle_link, runs_agree}
use Rattle.raid_witness.specs.Ended.{HasEnded}
use Rattle.raid_votes.specs.Votes.{asks_vote, votes_yes, VoteComes, asked, voted, ended, Awaits, AwaitsVotes, VotesCome, NoneIsPreparing}
use Rattle.raid_votes.proofs.Expects.{Expects, ExpectsAll, phase_on}
use Rattle.raid_votes.proofs.Heard.{kind, none_ready}
use Rattle.raid_votes.proofs.Home.{with_outs}
use Rattle.raid_votes.proofs.HomeSteps.{txn_fits, nobody_runs, Result, home_step}
use Rattle.raid_votes.proofs.UpNotes.{NameSessions, long_vectors, notes_name}
use Rattle.raid_votes.proofs.Voters.{voter_step}

-- the letters between the site at a place and another, in both ways
abbrev to_voter : List (List (List Letter)) → ℕ → Site → List Letter
to_voter links k a = link links (a.0 + 1) (k + 2)

abbrev of_voter : List (List (List Letter)) → ℕ → Site → List Letter
of_voter links k a = link links (k + 2) (a.0 + 1)

unequal : (a b : ℕ) → a ≢ b → (a == b) ≡ false
unequal a b other = go (a == b) refl
  where
    go : (c : Bool) → (a == b) ≡ c → c ≡ false
    go true e = absurd (other (eqb-true a b e))
    go false e = refl

none_any : (test : Running → Bool) (rs : List Running) → AllByRecursion (λ (r : Running). test r ≡ false) rs → list_any test rs ≡ false
none_any test [] a = refl
none_any test (r ∷ rs) a = ap (λ b. b || list_any test rs) a.0 ∙ none_any test rs a.1

module _ (w : Workload) where
  abbrev ExpectsHere : List SiteState → List (List (List Letter)) → ℕ → SiteState → Txn → Phase → Type 0
  ExpectsHere sites links k s t phase = ExpectsAll w sites k s.session s.vector (to_voter links k) (of_voter links k) t phase

  abbrev AllExpect : List SiteState → List (List (List Letter)) → Type 0
  AllExpect sites links = (k : ℕ) (s : SiteState) → slice_get sites k ≡ Some s → NoneIsReady s × AllByRecursion (λ (r : Running). ExpectsHere sites links k s r.txn r.phase) s.running

  -- what is known of a world besides
  record Besides (world : World) : Type 0 where
    known : Known w world
    long : (k : ℕ) (s : SiteState) → slice_get world.servers.sites k ≡ Some s → length s.vector ≡ w.sites
    names : (k : ℕ) (s : SiteState) → slice_get world.servers.sites k ≡ Some s → NameSessions (link world.links (k + 2) 1)

  module _ (world : World) (besides : Besides world) (all : AllExpect world.servers.sites world.links) (from clock : ℕ) (letter : Letter) (rest : List Letter) where
    abbrev links : List (List (List Letter))
    links = world.links

    abbrev sites : List SiteState
    sites = world.servers.sites

    room : (k : ℕ) (s : SiteState) → slice_get world.servers.sites k ≡ Some s → k + 2 < w.sites + 2
    room k s at = (let b = get_below world.servers.sites k s at in let l = besides.known.says.reached.long in omega (arith, b, l))

    -- a step of the monitor or of the sequencer leaves the links between sites
    far_step : (server n : ℕ) (outs : List Out) → server < 2 → AllExpect world.servers.sites (moved world.links server from n clock rest outs)
    far_step server n outs low k s at =
        let before = all k s at in (
          before.0,
          all_weaken (λ (r : Running). ExpectsHere sites links k s r.txn r.phase) (λ (r : Running). ExpectsHere sites (moved links server from n clock rest outs) k s r.txn r.phase) s.running
              (λ r h. phase_on w sites sites k s.session s.session s.vector s.vector (to_voter links k) (of_voter links k) (to_voter (moved links server from n clock rest outs) k) (of_voter (moved links server from n clock rest outs) k) r.txn
              (λ writes a e. record { known = e.known; other = e.other; holds = e.holds; up = e.up; comes = same_links r.txn a (within w.sites a.0 e.known) e.comes }) r.phase h) before.1,
        )
      where
        after : List (List (List Letter))
        after = moved links server from n clock rest outs

        same_links : (t : Txn) (a : Site) → (1 ≤ a.0) × (a.0 ≤ w.sites) → VoteComes sites (to_voter links k a) (of_voter links k a) s.session (session s.vector a) t a →
            VoteComes sites (to_voter (moved links server from n clock rest outs) k a) (of_voter (moved links server from n clock rest outs) k a) s.session (session s.vector a) t a
        same_links t a both c =
            let few = both.0 in
            let most = both.1 in
            subst (λ ls. VoteComes sites ls (of_voter after k a) s.session (session s.vector a) t a)
            (sym (moved_other (w.sites + 2) links server from n clock rest outs besides.known.says.reached.square (omega (arith, low)) (a.0 + 1) (k + 2) (omega (arith, most)) (λ e. omega (arith, e, low)) (inl (λ e. omega (arith, e, low, few)))))
            (subst (λ ls. VoteComes sites (to_voter links k a) ls s.session (session s.vector a) t a)
            (sym (moved_other (w.sites + 2) links server from n clock rest outs besides.known.says.reached.square (omega (arith, low)) (k + 2) (a.0 + 1) (room k s at) (λ e. omega (arith, e, low, few)) (inl (λ e. omega (arith, e, low))))) c)

    -- a site's step
    module _ (j : ℕ) (own : SiteState) (at : slice_get world.servers.sites j ≡ Some own) (front : link world.links (j + 2) from ≡ letter ∷ rest) where
      abbrev turn : Turn SiteState
      turn = hear_site w own from letter

      abbrev changed : List SiteState
      changed = slice_set world.servers.sites j (hear_site w own from letter).state

      abbrev after : List (List (List Letter))
      after = moved world.links (j + 2) from (hear_site w own from letter).state.session clock rest (hear_site w own from letter).outs

      low_from : from < w.sites + 2
      low_from = from_below (w.sites + 2) links (j + 2) from letter rest besides.known.says.reached.square front

      own_room : j + 2 < w.sites + 2
      own_room = room j own at

      apart : (a : Site) (i : ℕ) → (a.0 == i + 1) ≡ false → a.0 ≡ i + 1 → ⊥
      apart a i differ q = true≢false (sym (is_same a.0 (i + 1) q) ∙ differ)

      still_ended : (a : Site) (n : ℕ) → 1 ≤ a.0 → (a.0 ≡ j + 1 → ⊥) → HasEnded world.servers.sites a n → HasEnded (slice_set world.servers.sites j (hear_site w own from letter).state) a n
      still_ended a n few differ past z there up = past z (sym (get_other sites j (a.0 - 1) turn.state (λ q. differ (omega (arith, q, few)))) ∙ there) up

      -- what it sends, and what is left for it
      sends : (c : ℕ) → c < w.sites + 2 → c ≢ j + 2 → link (moved world.links (j + 2) from (hear_site w own from letter).state.session clock rest (hear_site w own from letter).outs) c (j + 2) ≡ link world.links c (j + 2) ++ letters_to c (hear_site w own from letter).state.session clock (hear_site w own from letter).outs
      sends c few differ = moved_sent (w.sites + 2) links (j + 2) from turn.state.session clock rest turn.outs besides.known.says.reached.square own_room c few differ

      leaves : (c : ℕ) → c ≢ j + 2 → link (moved world.links (j + 2) from (hear_site w own from letter).state.session clock rest (hear_site w own from letter).outs) (j + 2) c ≡ (if from == c then rest else link world.links (j + 2) c)
      leaves c differ = go (same_or_not from c)
        where
          go : (from ≡ c) ⊎ (from ≢ c) → link (moved world.links (j + 2) from (hear_site w own from letter).state.session clock rest (hear_site w own from letter).outs) (j + 2) c ≡ (if from == c then rest else link world.links (j + 2) c)
          go (inl of) =
              ap (link after (j + 2)) (sym of) ∙ moved_taken (w.sites + 2) links (j + 2) from turn.state.session clock rest turn.outs besides.known.says.reached.square own_room low_from (λ q. differ (sym of ∙ q))
              ∙ ap (λ b. if b then rest else link links (j + 2) c) (sym (is_same from c of))
          go (inr other) =
              moved_other (w.sites + 2) links (j + 2) from turn.state.session clock rest turn.outs besides.known.says.reached.square own_room (j + 2) c own_room differ (inr (λ q. other (sym q)))
              ∙ ap (λ b. if b then rest else link links (j + 2) c) (sym (unequal from c other))

      others : (c d : ℕ) → c < w.sites + 2 → c ≢ j + 2 → d ≢ j + 2 → link (moved world.links (j + 2) from (hear_site w own from letter).state.session clock rest (hear_site w own from letter).outs) c d ≡ link world.links c d
      others c d few differ far = moved_other (w.sites + 2) links (j + 2) from turn.state.session clock rest turn.outs besides.known.says.reached.square own_room c d few far (inl differ)

      abbrev left_here : Site → List Letter
      left_here a = if from == a.0 + 1 then rest else link world.links (j + 2) (a.0 + 1)

      abbrev sent_here : Site → List Letter
      sent_here = with_outs w world.servers.sites j own from clock letter (to_voter world.links j) left_here (hear_site w own from letter).outs

      -- the home itself
      at_home : NoneIsReady (hear_site w own from letter).state × AllByRecursion (λ (r : Running). ExpectsHere (slice_set world.servers.sites j (hear_site w own from letter).state) (moved world.links (j + 2) from (hear_site w own from letter).state.session clock rest (hear_site w own from letter).outs) j (hear_site w own from letter).state r.txn r.phase) (hear_site w own from letter).state.running
      at_home = (
        none_ready w own from letter (besides.known.says.homes j own at).ascend (kind w own from letter (nobody_runs w world besides.known j own at)) (all j own at).0,
        go (home_step w world besides.known from clock letter rest j own at front (besides.long j own at) (besides.names j own at) (all j own at).1),
      )
        where
          one : (t : Txn) (a : Site) (n : ℕ) → (1 ≤ a.0) × (a.0 ≤ w.sites) → ((a.0 == j + 1) ≡ false) → (hear_site w own from letter).state.session ≡ own.session →
              VoteComes world.servers.sites (link world.links (a.0 + 1) (j + 2) ++ letters_to (a.0 + 1) own.session clock (hear_site w own from letter).outs) (if from == a.0 + 1 then rest else link world.links (j + 2) (a.0 + 1)) own.session n t a →
              VoteComes changed (to_voter after j a) (of_voter after j a) own.session n t a
          one t a n both other same c =
              let few = both.0 in
              let most = both.1 in
              let far : a.0 + 1 ≢ j + 2 = (λ q. apart a j other (omega (arith, q))) in
              subst (λ ls. VoteComes changed ls (of_voter after j a) own.session n t a) (sym (sends (a.0 + 1) (omega (arith, most)) far ∙ ap (λ m. link links (a.0 + 1) (j + 2) ++ letters_to (a.0 + 1) m clock turn.outs) same))
              (subst (λ ls. VoteComes changed (link links (a.0 + 1) (j + 2) ++ letters_to (a.0 + 1) own.session clock turn.outs) ls own.session n t a) (sym (leaves (a.0 + 1) far)) (with_sites c))
            where
              with_sites : VoteComes world.servers.sites (link world.links (a.0 + 1) (j + 2) ++ letters_to (a.0 + 1) own.session clock (hear_site w own from letter).outs) (if from == a.0 + 1 then rest else link world.links (j + 2) (a.0 + 1)) own.session n t a →
                  VoteComes changed (link world.links (a.0 + 1) (j + 2) ++ letters_to (a.0 + 1) own.session clock (hear_site w own from letter).outs) (if from == a.0 + 1 then rest else link world.links (j + 2) (a.0 + 1)) own.session n t a
              with_sites (asked q) = asked q
              with_sites (voted q) = voted q
              with_sites (ended q) = ended (still_ended a n both.0 (apart a j other) q)

          go : Result w world besides.known from clock letter rest j own at front (besides.long j own at) (besides.names j own at) (all j own at).1 → AllByRecursion (λ (r : Running). ExpectsHere changed after j turn.state r.txn r.phase) turn.state.running
          go (inl none) = subst (AllByRecursion (λ (r : Running). ExpectsHere changed after j turn.state r.txn r.phase)) (sym none) tt
          go (inr (same, kept)) = all_weaken (λ (r : Running). ExpectsAll w sites j own.session turn.state.vector sent_here left_here r.txn r.phase) (λ (r : Running). ExpectsHere changed after j turn.state r.txn r.phase) turn.state.running
              (λ r h. phase_on w sites changed j own.session turn.state.session turn.state.vector turn.state.vector sent_here left_here (to_voter after j) (of_voter after j) r.txn
              (λ writes a e. record {
                known = e.known;
                other = e.other;
                holds = e.holds;
                up = e.up;
                comes = subst (λ m. VoteComes changed (to_voter after j a) (of_voter after j a) m (session turn.state.vector a) r.txn a) (sym same) (one r.txn a (session turn.state.vector a) (within w.sites a.0 e.known) e.other same e.comes);
              }) r.phase h) kept

      -- a home elsewhere
      elsewhere : (i : ℕ) (s : SiteState) → slice_get world.servers.sites i ≡ Some s → i ≢ j → AllByRecursion (λ (r : Running). ExpectsHere (slice_set world.servers.sites j (hear_site w own from letter).state) (moved world.links (j + 2) from (hear_site w own from letter).state.session clock rest (hear_site w own from letter).outs) i s r.txn r.phase) s.running
      elsewhere i s there far =
          all_both (λ (r : Running). Ours w (site (i + 1)) r.txn) (λ (r : Running). ExpectsHere sites links i s r.txn r.phase) (λ (r : Running). ExpectsHere changed after i s r.txn r.phase) s.running
          (λ r ours h. phase_on w sites changed i s.session s.session s.vector s.vector (to_voter links i) (of_voter links i) (to_voter after i) (of_voter after i) r.txn
          (λ writes a e. record { known = e.known; other = e.other; holds = e.holds; up = e.up; comes = one r.txn ours a e.known (same_or_not a.0 (j + 1)) (come_to a e.known) e.comes }) r.phase h) (besides.known.says.homes i s there).running (all i s there).1
        where
          come_to : (a : Site) → knows_site w a ≡ true → a.0 ≡ j + 1 → session s.vector a ≤ own.session
          come_to a knows here =
              let past = besides.known.says.reached.vectors i s there a knows in
              let follows = told_follows w world besides.known.says.reached j own at in
              let is : a ≡ site (j + 1) = ap (λ n. let z : Site = record { 0 = n } in z) here in
              let last = ap (λ z. last_session (noted world.servers.sequencer.history) z) is in
              omega (arith, past, follows, last)

          apart_here : i + 2 ≢ j + 2
          apart_here = λ q. far (omega (arith, q))

          one : (t : Txn) → Ours w (site (i + 1)) t → (a : Site) → knows_site w a ≡ true → (a.0 ≡ j + 1) ⊎ (a.0 ≢ j + 1) → (a.0 ≡ j + 1 → session s.vector a ≤ own.session) → VoteComes world.servers.sites (to_voter world.links i a) (of_voter world.links i a) s.session (session s.vector a) t a →
              VoteComes changed (to_voter after i a) (of_voter after i a) s.session (session s.vector a) t a
          one t ours a knows (inl here) past c =
              let is : a ≡ site (j + 1) = ap (λ n. let z : Site = record { 0 = n } in z) here in
              subst (λ z. VoteComes changed (to_voter after i z) (of_voter after i z) s.session (session s.vector a) t z) (sym is) (at_voter (subst (λ z. VoteComes sites (to_voter links i z) (of_voter links i z) s.session (session s.vector a) t z) is c))
            where
              at_voter : VoteComes world.servers.sites (to_voter world.links i (site (j + 1))) (of_voter world.links i (site (j + 1))) s.session (session s.vector a) t (site (j + 1)) → VoteComes changed (to_voter after i (site (j + 1))) (of_voter after i (site (j + 1))) s.session (session s.vector a) t (site (j + 1))
              at_voter c =
                  let two : j + 1 + 1 ≡ j + 2 = omega arith in
                  let now = voter_step w world besides.known from clock letter rest j own at front i s.session (session s.vector a) t (txn_fits w t ours.known) (past here)
                  (subst (λ c. VoteComes sites (link links c (i + 2)) (link links (i + 2) c) s.session (session s.vector a) t (site (j + 1))) two c) in
                  subst (λ c. VoteComes changed (link after c (i + 2)) (link after (i + 2) c) s.session (session s.vector a) t (site (j + 1))) (sym two)
                  (subst (λ ls. VoteComes changed ls (link after (i + 2) (j + 2)) s.session (session s.vector a) t (site (j + 1))) (sym (leaves (i + 2) apart_here))
                  (subst (λ ls. VoteComes changed (if from == i + 2 then rest else link links (j + 2) (i + 2)) ls s.session (session s.vector a) t (site (j + 1))) (sym (sends (i + 2) (room i s there) apart_here)) now))
          one t ours a knows (inr other) past c =
              let both = within w.sites a.0 knows in
              let few = both.0 in
              let most = both.1 in
              let off : a.0 + 1 ≢ j + 2 = (λ q. other (omega (arith, q))) in
              subst (λ ls. VoteComes changed ls (of_voter after i a) s.session (session s.vector a) t a) (sym (others (a.0 + 1) (i + 2) (omega (arith, most)) off apart_here))
              (subst (λ ls. VoteComes changed (to_voter links i a) ls s.session (session s.vector a) t a) (sym (others (i + 2) (a.0 + 1) (room i s there) apart_here off)) (with_sites c))
            where
              with_sites : VoteComes world.servers.sites (to_voter world.links i a) (of_voter world.links i a) s.session (session s.vector a) t a → VoteComes changed (to_voter world.links i a) (of_voter world.links i a) s.session (session s.vector a) t a
              with_sites (asked q) = asked q
              with_sites (voted q) = voted q
              with_sites (ended q) = ended (still_ended a (session s.vector a) (within w.sites a.0 knows).0 other q)

      site_expects : AllExpect (slice_set world.servers.sites j (hear_site w own from letter).state) (moved world.links (j + 2) from (hear_site w own from letter).state.session clock rest (hear_site w own from letter).outs)
      site_expects i s there = go (same_or_not i j)
        where
          go : (i ≡ j) ⊎ (i ≢ j) → NoneIsReady s × AllByRecursion (λ (r : Running). ExpectsHere changed after i s r.txn r.phase) s.running
          go (inl q) =
              let same : turn.state ≡ s = some_is turn.state s (sym (get_set sites j turn.state (get_below sites j own at)) ∙ ap (slice_get changed) (sym q) ∙ there) in
              subst (λ i. NoneIsReady s × AllByRecursion (λ (r : Running). ExpectsHere changed after i s r.txn r.phase) s.running) (sym q)
              (subst (λ z. NoneIsReady z × AllByRecursion (λ (r : Running). ExpectsHere changed after j z r.txn r.phase) z.running) same at_home)
          go (inr far) =
              let was = sym (get_other sites j i turn.state far) ∙ there in
              ((all i s was).0, elsewhere i s was far)

    -- any server's step
    abbrev Heard : ℕ → Type 0
    Heard server = AllExpect (hear w world.servers server from letter).0.sites (moved world.links server from (session_of (hear w world.servers server from letter).0 server) clock rest (hear w world.servers server from letter).1)

    at_site : (k : ℕ) → link world.links (suc (suc k)) from ≡ letter ∷ rest → (o : Option SiteState) → slice_get world.servers.sites k ≡ o →
        AllExpect (hear_at w world.servers k from letter o).0.sites (moved world.links (suc (suc k)) from (session_of (hear_at w world.servers k from letter o).0 (suc (suc k))) clock rest (hear_at w world.servers k from letter o).1)
    at_site k front None none =
        absurd (nobody sites k none (let inside = server_below (w.sites + 2) links (suc (suc k)) from letter rest besides.known.says.reached.square front in let long = besides.known.says.reached.long in omega (arith, inside, long)))
    at_site k front (Some own) at =
        let turn = hear_site w own from letter in
        let place : suc (suc k) ≡ k + 2 = omega arith in
        let same = ap (λ (o : Option SiteState). option_map_or (λ (s : SiteState). s.session) o 0) (get_set sites k turn.state (get_below sites k own at)) in
        subst (λ z. AllExpect (slice_set sites k turn.state) (moved links (suc (suc k)) from z clock rest turn.outs)) (sym same)
        (subst (λ c. AllExpect (slice_set sites k turn.state) (moved links c from turn.state.session clock rest turn.outs)) (sym place) (site_expects k own at (ap (λ c. link links c from) (sym place) ∙ front)))

    heard : (server : ℕ) → link world.links server from ≡ letter ∷ rest → Heard server
    heard zero front = far_step 0 0 (hear_monitor w world.servers.fired from letter).outs (omega arith)
    heard (suc zero) front = far_step 1 0 (hear_sequencer w world.servers.sequencer from letter).outs (omega arith)
    heard (suc (suc k)) front = at_site k front (slice_get sites k) refl

  front_expects : (world : World) (server from : ℕ) (queue : List Letter) → link world.links server from ≡ queue → Besides world → AllExpect world.servers.sites world.links → AllExpect (take_front w world server from queue).servers.sites (take_front w world server from queue).links
  front_expects world server from [] q besides all = all
  front_expects world server from (l ∷ rest) q besides all = heard world besides all from (1 + max (slice_index world.clocks server) l.clock) l rest server q

  besides_of : (schedule : List Pick) → Besides (run w schedule)
  besides_of schedule = record { known = below.known w schedule; long = long_vectors w schedule; names = notes_name w schedule }

  abbrev At : World → Type 0
  At world = AllExpect world.servers.sites world.links

  step : (schedule : List Pick) (p : Pick) → At (run w schedule) → At (run w (schedule ++ p ∷ []))
  step schedule p all =
      let s = run w schedule in
      subst At (sym (fold-append (pick w) (open_world w) schedule (p ∷ []))) (front_expects s p.server p.from (link s.links p.server p.from) refl (besides_of schedule) all)

  steps : (before more : List Pick) → At (run w before) → At (run w (before ++ more))
  steps before [] all = subst (λ z. At (run w z)) (sym (append-nil before)) all
  steps before (p ∷ more) all = subst (λ z. At (run w z)) (append_assoc before (p ∷ []) more) (steps (before ++ p ∷ []) more (step before p all))

  opens : At (open_world w)
  opens k s at = subst (λ z. NoneIsReady z × AllByRecursion (λ (r : Running). ExpectsHere (open_world w).servers.sites (open_world w).links k z r.txn r.phase) z.running) (first_state w 1 w.sites k s at) (tt, tt)

  runs_expect : (schedule : List Pick) → At (run w schedule)
  runs_expect schedule = steps [] schedule opens

  pub runs_come : (schedule : List Pick) → VotesCome (run w schedule)
  runs_come schedule k s at =
      let here = runs_expect schedule k s at in
      all_both (λ (r : Running). is_ready r.phase ≡ false) (λ (r : Running). ExpectsHere (run w schedule).servers.sites (run w schedule).links k s r.txn r.phase) (λ (r : Running). AwaitsVotes (run w schedule).servers.sites (run w schedule).links k s r.txn r.phase) s.running
      (λ r ready h. go r.txn r.phase ready h) here.0 here.1
    where
      go : (t : Txn) (phase : Phase) → is_ready phase ≡ false → ExpectsHere (run w schedule).servers.sites (run w schedule).links k s t phase → AwaitsVotes (run w schedule).servers.sites (run w schedule).links k s t phase
      go t (asking ask x q) ready h = tt
      go t (preparing reads writes []) ready h = absurd (true≢false ready)
      go t (preparing reads writes (a ∷ awaited)) ready h = (
        omega arith,
        all_weaken (Expects w (run w schedule).servers.sites k s.session s.vector (to_voter (run w schedule).links k) (of_voter (run w schedule).links k) t writes) (Awaits (run w schedule).servers.sites (run w schedule).links k s t) (a ∷ awaited)
            (λ a e. record { up = e.up; comes = e.comes }) h,
      )
      go t sent ready h = tt

  -- where no letter is left
  pub idle_none : (schedule : List Pick) → is_idle (run w schedule) ≡ true → NoneIsPreparing (run w schedule)
  idle_none schedule idle k s at = go s.up refl
    where
      go : (u : Bool) → s.up ≡ u → list_any (λ (r : Running). is_preparing r.phase) s.running ≡ false
      go false down = ap (list_any (λ (r : Running). is_preparing r.phase)) (nobody_runs w (run w schedule) (below.known w schedule) k s at down)
      go true up = none_any (λ (r : Running). is_preparing r.phase) s.running
          (all_both (λ (r : Running). is_ready r.phase ≡ false) (λ (r : Running). ExpectsHere (run w schedule).servers.sites (run w schedule).links k s r.txn r.phase) (λ (r : Running). is_preparing r.phase ≡ false) s.running
          (λ r ready h. one r.txn r.phase ready h) (runs_expect schedule k s at).0 (runs_expect schedule k s at).1)
        where
          told : IsTold w (noted (run w schedule).servers.sequencer.history) k s
          told = record { up = up; told = run_idle w schedule idle k s at ∙ ap (λ u. if u then s.session else 0) up }

          vector_is : s.vector ≡ vector w (noted (run w schedule).servers.sequencer.history)
          vector_is = runs_agree w schedule idle k s at told

          none : (test : Letter → Bool) (server from : ℕ) → list_any test (link (run w schedule).links server from) ≡ true → ⊥
          none test server from q = true≢false (sym q ∙ ap (list_any test) (idle_link (run w schedule) server from idle))

          lasts : (a : Site) → (1 ≤ a.0) × (a.0 ≤ w.sites) → 1 ≤ session s.vector a → HasEnded (run w schedule).servers.sites a (session s.vector a) → ⊥
          lasts a both some past =
              let few = both.0 in
              let most = both.1 in
              let long = (below.known w schedule).says.reached.long in
              let its = get_known (run w schedule).servers.sites (a.0 - 1) (omega (arith, few, most, long)) in
              let here : site (a.0 - 1 + 1) ≡ a = ap (λ n. let z : Site = record { 0 = n } in z) (let e : a.0 - 1 + 1 ≡ a.0 = omega (arith, few) in e) in
              let is : session s.vector a ≡ own_session its.0 = ap (session s.vector) (sym here) ∙ ap (λ v. session v (site (a.0 - 1 + 1))) vector_is ∙ run_idle w schedule idle (a.0 - 1) its.0 its.1 in
              by its.0.up its.0 refl its.1 is
            where
              by : (u : Bool) → (own : SiteState) → own.up ≡ u → slice_get (run w schedule).servers.sites (a.0 - 1) ≡ Some own → session s.vector a ≡ own_session own → ⊥
              by false own down there is = (let none = is ∙ ap (λ u. if u then own.session else 0) down in omega (arith, none, some))
              by true own on there is = (let less = past own there on in let same = is ∙ ap (λ u. if u then own.session else 0) on in omega (arith, less, same))

          comes_not : (t : Txn) (a : Site) → (1 ≤ a.0) × (a.0 ≤ w.sites) → 1 ≤ session s.vector a → VoteComes (run w schedule).servers.sites (to_voter (run w schedule).links k a) (of_voter (run w schedule).links k a) s.session (session s.vector a) t a → ⊥
          comes_not t a both some (asked q) = none (asks_vote s.session (session s.vector a) t) (a.0 + 1) (k + 2) q
          comes_not t a both some (voted q) = none (votes_yes s.session (session s.vector a) t) (k + 2) (a.0 + 1) q
          comes_not t a both some (ended q) = lasts a both some q

          one : (t : Txn) (phase : Phase) → is_ready phase ≡ false → ExpectsHere (run w schedule).servers.sites (run w schedule).links k s t phase → is_preparing phase ≡ false
          one t (asking ask x q) ready h = refl
          one t (preparing reads writes []) ready h = absurd (true≢false ready)
          one t (preparing reads writes (a ∷ awaited)) ready h = absurd (comes_not t a (within w.sites a.0 h.0.known) h.0.up h.0.comes)
          one t sent ready h = refl
