-- The steps in the world keep what holds of the programs at each site and of the Begins on their way.
use Rattle.std.proofs.Common.{◌≡◌, ◌≢◌, ◌⊎◌, inl, inr, ℕ, zero, suc, ◌+◌, ◌<◌, ◌≤◌, ◌==◌, nat_lt, Bool, true, false, List, [], ◌∷◌, ◌++◌, Some, if◌then◌else◌, arith, sym, subst, ap, ◌∙◌, refl}
use Rattle.std.specs.Prelude.{slice_get, slice_set}
use Rattle.std.proofs.lemmas.Bool.{eqb-true, true≢false}
use Rattle.raid_base.specs.declared.names.Txn.{Txn}
use Rattle.raid_base.specs.Names.{is_site}
use Rattle.raid_base.specs.Sites.{session, site}
use Rattle.raid_workload.specs.declared.workload.Workload.{Workload}
use Rattle.raid_workload.specs.Parts.{home}
use Rattle.raid_rules.specs.History.{noted}
use Rattle.std.specs.List.{AllByRecursion}
use Rattle.raid_rules.specs.Sessions.{last_session}
use Rattle.raid_legal.specs.Seen.{vector, is_up}
use Rattle.raid_message.specs.declared.letter.Message.{Message}
use Rattle.raid_message.specs.declared.letter.Message.TheVariants as letters
use Rattle.raid_message.specs.declared.letter.Letter.{Letter}
use Rattle.raid_steps.specs.State.{Out, Turn, SiteState, opened}
use Rattle.raid_steps.specs.Fits.{knows_site}
use Rattle.raid_steps.specs.Sequencer as seq
use Rattle.raid_steps.specs.Sequencer.{is_hello, hear_sequencer}
use Rattle.raid_steps.specs.Site as rows
use Rattle.raid_steps.specs.World.{World, Servers, link}
use Rattle.raid_steps.proofs.Parts.{number_known}
use Rattle.raid_sessions.proofs.Agreed as agreed
use Rattle.raid_sessions.proofs.AtSequencer.{sequencer_holds}
use Rattle.raid_sessions.proofs.Holds.{last_of, IsHeard, Holds}
use Rattle.raid_sessions.proofs.Ledger.{session_most}
use Rattle.raid_sessions.proofs.Lists.{all_weaken, get_below, get_known, get_set, get_other, some_is}
use Rattle.raid_sessions.proofs.Mail.{same_or_not, letters_to, moved, moved_taken, moved_sent, moved_other}
use Rattle.raid_sessions.proofs.Sessions.{Chain, chain_le, said}
use Rattle.raid_asks.proofs.AtSequencer.{own_letter, silent}
use Rattle.raid_asks.proofs.Cares.{IsOurs, AreOurs, Stage, stopped, asleep, fresh, awake, Cares}
use Rattle.raid_asks.proofs.Entries.{IsQuiet}
use Rattle.raid_asks.proofs.Homes.{Homes}
use Rattle.raid_asks.proofs.Least.{Ours}
use Rattle.raid_asks.proofs.SiteStep.{halts, restarts, peers, notes_taken, same_cares}
use Rattle.raid_asks.proofs.Turns.{IsHello}
use Rattle.raid_asks.specs.Way.{begins_of as begins}

module _ (w : Workload) where
  abbrev pub Waits : Servers → List (List (List Letter)) → Type 0
  Waits s links = (k : ℕ) (state : SiteState) → slice_get s.sites k ≡ Some state → Cares w k (noted s.sequencer.history) state (link links 1 (k + 2)) (link links (k + 2) 1)

  module _ (s : Servers) (links : List (List (List Letter))) (holds : Holds w s links) (k : ℕ) (state : SiteState) (at : slice_get s.sites k ≡ Some state) where
    pub below : k < w.sites
    below = (let b = get_below s.sites k state at in let l = holds.long in omega (arith, b, l))

    -- no letter of the sequencer to the site is for a session after its last
    pub within : AllByRecursion (λ (l : Letter). l.to ≤ last_session (noted s.sequencer.history) (site (k + 1))) (link links (k + 2) 1)
    within = all_weaken (IsHeard w (last_of s.sequencer.history) k) (λ (l : Letter). l.to ≤ last_session (noted s.sequencer.history) (site (k + 1))) (link links (k + 2) 1) (λ l q. q.0) (holds.heard k below)

    pub known_site : knows_site w (site (k + 1)) ≡ true
    known_site = number_known w k (let b = below in omega (arith, b))

    abbrev world : World
    world = record { servers = s; links = links; clocks = []; journals = [] }

    pub present : state.up ≡ true → last_session (noted s.sequencer.history) (site (k + 1)) ≡ state.session → session (vector w (noted s.sequencer.history)) (site (k + 1)) ≡ state.session
    present up l = agreed.told_up w world holds k state at up l

    pub some_session : state.up ≡ true → last_session (noted s.sequencer.history) (site (k + 1)) ≡ state.session → 1 ≤ state.session
    some_session up l = (let a = (holds.ledger.accounts (site (k + 1)) known_site).first in omega (arith, a, l))

    pub is_there : state.up ≡ true → last_session (noted s.sequencer.history) (site (k + 1)) ≡ state.session → is_up w (noted s.sequencer.history) (site (k + 1)) ≡ true
    is_there up l = ap (λ n. nat_lt 0 n) (present up l) ∙ positive state.session (some_session up l)
      where
        positive : (n : ℕ) → 1 ≤ n → nat_lt 0 n ≡ true
        positive n q = grind (arith, q)

  module _ (s : Servers) (links : List (List (List Letter))) (from clock : ℕ) (letter : Letter) (rest : List Letter) (known : from < w.sites + 2) (holds : Holds w s links) (homes : Homes w s links) (waits : Waits s links) where
    cares_is : (k : ℕ) (state : SiteState) {A B C D : List Letter} → C ≡ A → D ≡ B → Cares w k (noted s.sequencer.history) state A B → Cares w k (noted s.sequencer.history) state C D
    cares_is k state {A} {B} {C} {D} q r c = subst (λ x. Cares w k (noted s.sequencer.history) state x D) (sym q) (subst (λ x. Cares w k (noted s.sequencer.history) state A x) (sym r) c)

    room : (k : ℕ) (state : SiteState) → slice_get s.sites k ≡ Some state → k + 2 < w.sites + 2
    room k state at = (let b = below s links holds k state at in omega (arith, b))

    pub monitor_waits : (fired : ℕ) (outs : List Out) → Waits (record s { fired = fired }) (moved links 0 from 0 clock rest outs)
    monitor_waits fired outs k state at =
        cares_is k state
        (moved_other (w.sites + 2) links 0 from 0 clock rest outs holds.square (omega arith) 1 (k + 2) (omega arith) (λ e. omega (arith, e)) (inl (λ e. omega (arith, e))))
        (moved_other (w.sites + 2) links 0 from 0 clock rest outs holds.square (omega arith) (k + 2) 1 (room k state at) (λ e. omega (arith, e)) (inl (λ e. omega (arith, e))))
        (waits k state at)

    module _ (front : link links 1 from ≡ letter ∷ rest) where
      pub sequencer_waits : Waits (record s { sequencer = (hear_sequencer w s.sequencer from letter).state }) (moved links 1 from 0 clock rest (hear_sequencer w s.sequencer from letter).outs)
      sequencer_waits k state at =
          subst (λ ns. Cares w k (noted (hear_sequencer w s.sequencer from letter).state.history) state (link (moved links 1 from 0 clock rest (hear_sequencer w s.sequencer from letter).outs) 1 (k + 2)) ns)
          (sym (moved_sent (w.sites + 2) links 1 from 0 clock rest (hear_sequencer w s.sequencer from letter).outs holds.square (omega arith) (k + 2) (room k state at) (λ e. omega (arith, e))))
          (go (same_or_not from (k + 2)))
        where
          mine : Cares w k (noted s.sequencer.history) state (link links 1 (k + 2)) (link links (k + 2) 1)
          mine = waits k state at

          opens : IsHello w k state.session from letter (noted s.sequencer.history) (below s links holds k state at) clock
          opens of is =
              let c = subst (λ ls. Chain (last_session (noted s.sequencer.history) (site (k + 1))) (said is_hello ls) state.session) (ap (link links 1) (sym of) ∙ front) (holds.each k state at).opened in
              let d = subst (λ m. Chain (last_session (noted s.sequencer.history) (site (k + 1))) (if is_hello m then letter.from ∷ said is_hello rest else said is_hello rest) state.session) is c in
              let most = chain_le (last_session (noted s.sequencer.history) (site (k + 1)) + 1) (said is_hello rest) state.session d.1 in
              (d.0, (let a = d.0 in omega (arith, a, most)))

          after_holds : Holds w (record s { sequencer = (hear_sequencer w s.sequencer from letter).state }) (moved links 1 from 0 clock rest (hear_sequencer w s.sequencer from letter).outs)
          after_holds = sequencer_holds w s links from clock letter rest known front holds

          far : (j : ℕ) → from ≡ j + 2 → from ≢ k + 2 → (u : Txn) → letter.message ≡ letters.Begin u → is_site (site (k + 1)) (home w u) ≡ false
          far j of other u is =
              let found = get_known s.sites j (let l = holds.long in omega (arith, known, of, l)) in
              let theirs = subst (AreOurs w j) (ap (link links 1) (sym of) ∙ front) (waits j found.0 found.1).known in
              let ours : Ours w (site (j + 1)) u = subst (IsOurs w j) is theirs.0 in
              apart (home w u).0 j of other ours.at
            where
              apart : (h j : ℕ) → from ≡ j + 2 → from ≢ k + 2 → (h == j + 1) ≡ true → (h == k + 1) ≡ false
              apart h j of other q = grind (arith, of, other, q)

          from_monitor : (message : Message) → letter.message ≡ message → (IsQuiet w k state.session from letter (noted s.sequencer.history) (noted s.sequencer.history)) ⊎ (seq.hear_down w s.sequencer letter.message ≡ opened s.sequencer)
          from_monitor (letters.Down r n) is = inl (λ u b. absurd (other u (sym is ∙ b)))
            where
              other : (u : Txn) → letters.Down r n ≡ letters.Begin u → ⊥
              other u q = cc q
          from_monitor other is = inr (ap (seq.hear_down w s.sequencer) is)

          quiet_or : (f : ℕ) → from ≡ f → from ≢ k + 2 → (IsQuiet w k state.session from letter (noted s.sequencer.history) (noted s.sequencer.history)) ⊎ (hear_sequencer w s.sequencer from letter ≡ opened s.sequencer)
          quiet_or zero of other = subst (λ f. (IsQuiet w k state.session from letter (noted s.sequencer.history) (noted s.sequencer.history)) ⊎ (hear_sequencer w s.sequencer f letter ≡ opened s.sequencer)) (sym of) (from_monitor letter.message refl)
          quiet_or (suc zero) of other = inr (ap (λ f. hear_sequencer w s.sequencer f letter) of)
          quiet_or (suc (suc j)) of other = inl (λ u is. inl (far j (let e = of in omega (arith, e)) other u is))

          go : (from ≡ k + 2) ⊎ (from ≢ k + 2) → Cares w k (noted (hear_sequencer w s.sequencer from letter).state.history) state (link (moved links 1 from 0 clock rest (hear_sequencer w s.sequencer from letter).outs) 1 (k + 2)) (link links (k + 2) 1 ++ letters_to (k + 2) 0 clock (hear_sequencer w s.sequencer from letter).outs)
          go (inl of) =
              let taken = ap (link (moved links 1 from 0 clock rest (hear_sequencer w s.sequencer from letter).outs) 1) (sym of) ∙ moved_taken (w.sites + 2) links 1 from 0 clock rest (hear_sequencer w s.sequencer from letter).outs holds.square (omega arith) known (λ r. omega (arith, of, r)) in
              let was = subst (λ ls. Cares w k (noted s.sequencer.history) state ls (link links (k + 2) 1)) (ap (link links 1) (sym of) ∙ front) mine in
              subst (λ ls. Cares w k (noted (hear_sequencer w s.sequencer from letter).state.history) state ls (link links (k + 2) 1 ++ letters_to (k + 2) 0 clock (hear_sequencer w s.sequencer from letter).outs)) (sym taken)
              (record {
                sent = was.sent.1;
                known = was.known.1;
                stage = own_letter w k from clock letter s.sequencer state (link links (k + 2) 1) (below s links holds k state at) holds.placed holds.quiet opens
                    (is_there (record s { sequencer = (hear_sequencer w s.sequencer from letter).state }) (moved links 1 from 0 clock rest (hear_sequencer w s.sequencer from letter).outs) after_holds k state at)
                    (session_most w s.sequencer.history (site (k + 1)) holds.ledger (known_site s links holds k state at)) (within s links holds k state at) (present s links holds k state at) (some_session s links holds k state at) of rest was.stage;
              })
          go (inr other) =
              let same = moved_other (w.sites + 2) links 1 from 0 clock rest (hear_sequencer w s.sequencer from letter).outs holds.square (omega arith) 1 (k + 2) (omega arith) (λ r. omega (arith, r)) (inr (λ r. other (sym r))) in
              subst (λ ls. Cares w k (noted (hear_sequencer w s.sequencer from letter).state.history) state ls (link links (k + 2) 1 ++ letters_to (k + 2) 0 clock (hear_sequencer w s.sequencer from letter).outs)) (sym same)
              (record {
                sent = mine.sent;
                known = mine.known;
                stage = silent w k from clock letter s.sequencer state (link links (k + 2) 1) (below s links holds k state at) holds.placed holds.quiet opens
                    (is_there (record s { sequencer = (hear_sequencer w s.sequencer from letter).state }) (moved links 1 from 0 clock rest (hear_sequencer w s.sequencer from letter).outs) after_holds k state at)
                    (session_most w s.sequencer.history (site (k + 1)) holds.ledger (known_site s links holds k state at)) (within s links holds k state at) (present s links holds k state at) (some_session s links holds k state at) (begins state.session (link links 1 (k + 2))) (quiet_or from refl other) mine.stage;
              })

    -- a site's step
    module _ (k : ℕ) (front : link links (k + 2) from ≡ letter ∷ rest) (state : SiteState) (at : slice_get s.sites k ≡ Some state) where
      abbrev now : Turn SiteState
      now = rows.hear_site w state from letter

      abbrev after : List (List (List Letter))
      after = moved links (k + 2) from now.state.session clock rest now.outs

      abbrev asked : Turn SiteState → List Letter
      asked t = link links 1 (k + 2) ++ letters_to 1 t.state.session clock t.outs

      mine : Cares w k (noted s.sequencer.history) state (link links 1 (k + 2)) (link links (k + 2) 1)
      mine = waits k state at

      follows : last_session (noted s.sequencer.history) (site (k + 1)) ≤ state.session
      follows = chain_le _ _ state.session (holds.each k state at).opened

      -- by who sent it
      by_sender : (f : ℕ) → from ≡ f → Cares w k (noted s.sequencer.history) (rows.hear_site w state f letter).state (asked (rows.hear_site w state f letter)) (if f == 1 then rest else link links (k + 2) 1)
      by_sender f of = go state.up refl f of
        where
          restop : (u : Bool) → u ≡ false → (left : List Letter) → Stage w k (noted s.sequencer.history) u state.session state.running state.next (begins state.session (link links 1 (k + 2))) (link links (k + 2) 1) → Stage w k (noted s.sequencer.history) u state.session state.running state.next (begins state.session (link links 1 (k + 2))) left
          restop u down left (stopped d r n) = stopped d r n
          restop u down left (asleep v l r n b) = asleep v l r n b
          restop u down left (fresh v l r n b e) = absurd (true≢false (sym v ∙ down))
          restop u down left (awake v l f c) = absurd (true≢false (sym v ∙ down))

          far : (i : ℕ) → (suc (suc i) == 1) ≡ false
          far i = grind arith

          go : (u : Bool) → state.up ≡ u → (f : ℕ) → from ≡ f → Cares w k (noted s.sequencer.history) (if u then rows.hear_up w state f letter else rows.hear_down state f letter).state (asked (if u then rows.hear_up w state f letter else rows.hear_down state f letter)) (if f == 1 then rest else link links (k + 2) 1)
          go true up zero of = halts w k (noted s.sequencer.history) state (link links 1 (k + 2)) clock (homes k state at).place (homes k state at).ascend (link links (k + 2) 1) mine (within s links holds k state at) follows letter.message
          go true up (suc zero) of = notes_taken w k (noted s.sequencer.history) state (link links 1 (k + 2)) clock (homes k state at).place (homes k state at).ascend (link links (k + 2) 1) mine (within s links holds k state at) follows up letter rest (ap (link links (k + 2)) (sym of) ∙ front)
          go true up (suc (suc i)) of =
              subst (λ b. Cares w k (noted s.sequencer.history) (rows.hear_up w state (suc (suc i)) letter).state (asked (rows.hear_up w state (suc (suc i)) letter)) (if b then rest else link links (k + 2) 1)) (sym (far i))
              (peers w k (noted s.sequencer.history) state (link links 1 (k + 2)) clock (homes k state at).place (homes k state at).ascend (link links (k + 2) 1) mine (within s links holds k state at) follows up i letter)
          go false down zero of = restarts w k (noted s.sequencer.history) state (link links 1 (k + 2)) clock (homes k state at).place (homes k state at).ascend (link links (k + 2) 1) mine (within s links holds k state at) follows down letter.message
          go false down (suc i) of =
              same_cares w k (noted s.sequencer.history) state (link links 1 (k + 2)) clock (homes k state at).place (homes k state at).ascend (link links (k + 2) 1) mine (within s links holds k state at) follows state (if suc i == 1 then rest else link links (k + 2) 1)
              (record { sent = mine.sent; known = mine.known; stage = restop state.up down (if suc i == 1 then rest else link links (k + 2) 1) mine.stage })

      asks_after : link after 1 (k + 2) ≡ asked now
      asks_after = moved_sent (w.sites + 2) links (k + 2) from now.state.session clock rest now.outs holds.square (room k state at) 1 (omega arith) (λ q. omega (arith, q))

      notes_after : (b : Bool) → (from == 1) ≡ b → link after (k + 2) 1 ≡ (if b then rest else link links (k + 2) 1)
      notes_after true q =
          let one = eqb-true from 1 q in
          ap (link after (k + 2)) (sym one) ∙ moved_taken (w.sites + 2) links (k + 2) from now.state.session clock rest now.outs holds.square (room k state at) known (λ r. omega (arith, one, r))
      notes_after false q = moved_other (w.sites + 2) links (k + 2) from now.state.session clock rest now.outs holds.square (room k state at) (k + 2) 1 (room k state at) (λ r. omega (arith, r)) (inr (λ r. differs r))
        where
          differs : 1 ≡ from → ⊥
          differs r = true≢false (sym (same from (sym r)) ∙ q)
            where
              same : (a : ℕ) → a ≡ 1 → (a == 1) ≡ true
              same a q = grind (arith, q)

      pub site_waits : Waits (record s { sites = slice_set s.sites k (rows.hear_site w state from letter).state }) (moved links (k + 2) from (rows.hear_site w state from letter).state.session clock rest (rows.hear_site w state from letter).outs)
      site_waits j other there = go (same_or_not j k)
        where
          go : (j ≡ k) ⊎ (j ≢ k) → Cares w j (noted s.sequencer.history) other (link after 1 (j + 2)) (link after (j + 2) 1)
          go (inl q) =
              let same : now.state ≡ other = some_is now.state other (sym (get_set s.sites k now.state (get_below s.sites k state at)) ∙ ap (slice_get (slice_set s.sites k now.state)) (sym q) ∙ there) in
              subst (λ i. Cares w i (noted s.sequencer.history) other (link after 1 (i + 2)) (link after (i + 2) 1)) (sym q)
              (subst (λ x. Cares w k (noted s.sequencer.history) x (link after 1 (k + 2)) (link after (k + 2) 1)) same (cares_is k now.state asks_after (notes_after (from == 1) refl) (by_sender from refl)))
          go (inr q) =
              let was = sym (get_other s.sites k j now.state q) ∙ there in
              let apart : j + 2 ≢ k + 2 = (λ e. q (omega (arith, e))) in
              cares_is j other
              (moved_other (w.sites + 2) links (k + 2) from now.state.session clock rest now.outs holds.square (room k state at) 1 (j + 2) (omega arith) apart (inl (λ e. omega (arith, e))))
              (moved_other (w.sites + 2) links (k + 2) from now.state.session clock rest now.outs holds.square (room k state at) (j + 2) 1 (room j other was) (λ e. omega (arith, e)) (inl apart))
              (waits j other was)
