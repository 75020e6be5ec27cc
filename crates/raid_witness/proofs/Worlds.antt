-- Each server's step leaves the programs at their homes.
use Rattle.std.proofs.Common.{◌≡◌, ◌≢◌, ◌⊎◌, inl, inr, ℕ, zero, suc, ◌+◌, ◌-◌, ◌<◌, ◌==◌, Bool, true, false, not, ◌&&◌, ◌||◌, List, [], ◌∷◌, ◌++◌, Some, if◌then◌else◌, arith, sym, subst, ap, ◌∙◌, refl, append-nil}
use Rattle.std.specs.Prelude.{slice_get, slice_set}
use Rattle.std.specs.List.{AllByRecursion}
use Rattle.std.proofs.lemmas.Bool.{and_parts, eqb-true, true≢false}
use Rattle.std.proofs.lemmas.List.Folds.{list_any-append}
use Rattle.raid_base.specs.declared.names.Txn.{Txn}
use Rattle.raid_base.specs.declared.names.Site.{Site}
use Rattle.raid_base.specs.declared.entry.Noted.{Noted}
use Rattle.raid_base.specs.Names.{is_txn, is_site, has_txn}
use Rattle.raid_base.specs.Sites.{session, site}
use Rattle.raid_workload.specs.declared.workload.Workload.{Workload}
use Rattle.raid_workload.specs.Parts.{home}
use Rattle.raid_rules.specs.History.{noted, has_begun, has_ended, is_running}
use Rattle.raid_rules.specs.Sessions.{last_session}
use Rattle.raid_rules.proofs.Push.{same_txn}
use Rattle.raid_legal.specs.Seen.{vector}
use Rattle.raid_message.specs.declared.letter.Message.TheVariants as letters
use Rattle.raid_message.specs.declared.letter.Letter.{Letter}
use Rattle.raid_steps.specs.State.{Out, Turn, Sequencer, opened, SiteState}
use Rattle.raid_steps.specs.Fits.{is_to_sequencer}
use Rattle.raid_steps.specs.Sequencer as rows
use Rattle.raid_steps.specs.Sequencer.{so_far, finish, is_hello, hear_sequencer}
use Rattle.raid_steps.specs.Site.{hear_site}
use Rattle.raid_steps.specs.World.{World, Servers, link}
use Rattle.raid_placed.proofs.Orderly.{placed_whole}
use Rattle.raid_sessions.proofs.Agreed as agreed
use Rattle.raid_sessions.proofs.Holds.{Holds}
use Rattle.raid_sessions.proofs.Lists.{get_below, get_set, get_other, some_is, same_self}
use Rattle.raid_sessions.proofs.Mail.{same_or_not, letters_to, moved, moved_taken, moved_sent, moved_other}
use Rattle.raid_asks.specs.Own.{IsOf}
use Rattle.raid_asks.specs.Way.{begun_by, begins_of as begins}
use Rattle.raid_asks.proofs.Cares.{Stage, stopped, asleep, awake, begins_append, begins_told}
use Rattle.raid_asks.proofs.Cares as cares
use Rattle.raid_asks.proofs.Facts.{or_left, or_right, or_parts}
use Rattle.raid_asks.proofs.Homes.{Homes}
use Rattle.raid_asks.proofs.Line.{Due, line_due}
use Rattle.raid_asks.proofs.Programs.{told}
use Rattle.raid_asks.proofs.Steps.{Steps, hear_steps}
use Rattle.raid_asks.proofs.Waits.{Waits}
use Rattle.raid_letters.specs.Says.{NoteSays, AskSays}
use Rattle.raid_letters.proofs.Runs.{LetterSays, LinksSay}
use Rattle.raid_layers.proofs.Histories.{fresh_unended}
use Rattle.raid_layers.proofs.SiteWorlds as steps
use Rattle.raid_layers.proofs.SiteWorlds.{HomeStep, home_step}
use Rattle.raid_witness.specs.AtHome.{RunsAt}
use Rattle.raid_witness.proofs.Histories.{steps_run, steps_last, hello_runs}
use Rattle.raid_witness.proofs.Sites.{step_stays}

module _ (w : Workload) where
  -- who is to run at a site: whose Begin is on its way from there, and who runs and has its home there
  abbrev pub IsWanted : List Noted → List Letter → ℕ → SiteState → Txn → Type 0
  IsWanted p asks k state t = (has_txn (begins state.session asks) t ≡ true) ⊎ ((is_running p t ≡ true) × (is_site (site (k + 1)) (home w t) ≡ true))

  abbrev pub HomeOn : List Noted → List Letter → ℕ → SiteState → Type 0
  HomeOn p asks k state = state.up ≡ true → last_session p (site (k + 1)) ≡ state.session → (t : Txn) → IsWanted p asks k state t → RunsAt state t

  abbrev pub HomeAll : Servers → List (List (List Letter)) → Type 0
  HomeAll s links = (k : ℕ) (state : SiteState) → slice_get s.sites k ≡ Some state → HomeOn (noted s.sequencer.history) (link links 1 (k + 2)) k state

  -- what holds besides, of the servers and links of each run
  pub record Below (s : Servers) (links : List (List (List Letter))) : Type 0 where
    pub holds : Holds w s links
    pub homes : Homes w s links
    pub waits : Waits w s links
    pub says : LinksSay w (noted s.sequencer.history) links

  -- whose Begin is on its way hasn't begun
  due_fresh : (here : Site) (p : List Noted) (bs : List Txn) (t : Txn) → AllByRecursion (Due w here p) bs → has_txn bs t ≡ true → has_begun p t ≡ false
  due_fresh here p [] t a has = absurd (true≢false (sym has))
  due_fresh here p (u ∷ bs) t a has = elim (or_parts (u.0 == t.0) (has_txn bs t) has) [
    | inl it ↦ subst (λ z. has_begun p z ≡ false) (same_txn u t it) a.0.fresh
    | inr more ↦ due_fresh here p bs t a.1 more
  ]

  module _ (s : Servers) (links : List (List (List Letter))) (low : Below s links) (all : HomeAll s links) (from clock : ℕ) (letter : Letter) (rest : List Letter) (known : from < w.sites + 2) where
    abbrev p : List Noted
    p = noted s.sequencer.history

    -- the monitor
    pub monitor_homes : (fired : ℕ) (outs : List Out) → HomeAll (record s { fired = fired }) (moved links 0 from 0 clock rest outs)
    monitor_homes fired outs k state at =
        subst (λ ls. HomeOn p ls k state) (sym (moved_other (w.sites + 2) links 0 from 0 clock rest outs low.holds.square (omega arith) 1 (k + 2) (omega arith) (λ e. omega (arith, e)) (inl (λ e. omega (arith, e))))) (all k state at)

    -- the sequencer
    module _ (front : link links 1 from ≡ letter ∷ rest) where
      abbrev now : Turn Sequencer
      now = hear_sequencer w s.sequencer from letter

      abbrev q : List Noted
      q = noted (hear_sequencer w s.sequencer from letter).state.history

      abbrev after : List (List (List Letter))
      after = moved links 1 from 0 clock rest (hear_sequencer w s.sequencer from letter).outs

      -- what was asked, and who asked it
      data Asked (k : ℕ) : Type 0 where
        left : link after 1 (k + 2) ≡ link links 1 (k + 2) → Asked k
        took : from ≡ k + 2 → link after 1 (k + 2) ≡ rest → link links 1 (k + 2) ≡ letter ∷ rest → Asked k

      asked : (k : ℕ) → Asked k
      asked k = go (same_or_not from (k + 2))
        where
          go : (from ≡ k + 2) ⊎ (from ≢ k + 2) → Asked k
          go (inl of) = took of (ap (link after 1) (sym of) ∙ moved_taken (w.sites + 2) links 1 from 0 clock rest now.outs low.holds.square (omega arith) known (λ e. omega (arith, e, of))) (ap (link links 1) (sym of) ∙ front)
          go (inr other) = left (moved_other (w.sites + 2) links 1 from 0 clock rest now.outs low.holds.square (omega arith) 1 (k + 2) (omega arith) (λ e. omega (arith, e)) (inr (λ e. other (sym e))))

      -- a Begin on its way was so before
      way_before : (k m : ℕ) (t : Txn) → has_txn (begins m (link after 1 (k + 2))) t ≡ true → has_txn (begins m (link links 1 (k + 2))) t ≡ true
      way_before k m t way = go (asked k)
        where
          more : (b : Bool) (ts us : List Txn) → has_txn us t ≡ true → has_txn (if b then ts ++ us else us) t ≡ true
          more true ts us h = list_any-append (is_txn t) ts us ∙ or_right (has_txn ts t) (has_txn us t) h
          more false ts us h = h

          go : Asked k → has_txn (begins m (link links 1 (k + 2))) t ≡ true
          go (left kept) = subst (λ ls. has_txn (begins m ls) t ≡ true) kept way
          go (took of gone first) = subst (λ ls. has_txn (begins m ls) t ≡ true) (sym first) (more (letter.from == m) (begun_by letter.message) (begins m rest) (subst (λ ls. has_txn (begins m ls) t ≡ true) gone way))

      steps_all : Steps w from letter p (opened s.sequencer) (hear_sequencer w s.sequencer from letter)
      steps_all = hear_steps w from letter p s.sequencer from refl refl low.holds.placed low.holds.quiet

      module _ (k : ℕ) (state : SiteState) (at : slice_get s.sites k ≡ Some state) (up : state.up ≡ true) where
        abbrev here : Site
        here = site (k + 1)

        -- where a new session was told nothing is on its way from the site
        none_yet : last_session p (site (k + 1)) ≢ state.session → begins state.session (link links 1 (k + 2)) ≡ []
        none_yet differ = go (low.waits k state at).stage
          where
            go : Stage w k p state.up state.session state.running state.next (begins state.session (link links 1 (k + 2))) (link links (k + 2) 1) → begins state.session (link links 1 (k + 2)) ≡ []
            go (stopped d r z) = absurd (true≢false (sym up ∙ d))
            go (asleep u l r z b) = b
            go (cares.fresh u l r z b e) = absurd (differ l)
            go (awake u l f c) = absurd (differ l)

        abbrev world : World
        world = record { servers = s; links = links; clocks = []; journals = [] }

        -- a Begin that the letter asks for came from there
        begun_here : (t : Txn) → last_session p (site (k + 1)) ≡ state.session → is_site (site (k + 1)) (home w t) ≡ true → letter.message ≡ letters.Begin t → (is_running q t ≡ true) → (is_running p t ≡ false) → has_txn (begins state.session (link links 1 (k + 2))) t ≡ true
        begun_here t last mine is runs rested = by from refl
          where
            idle : is_running (noted (rows.hear_down w s.sequencer letter.message).state.history) t ≡ true → is_running p t ≡ true
            idle r = subst (λ m. is_running (noted (rows.hear_down w s.sequencer m).state.history) t ≡ true) is r

            numbers : (h j : ℕ) → (h == j + 1) ≡ true → (h == k + 1) ≡ true → j ≡ k
            numbers h j a b = (let x = eqb-true h (j + 1) a in let y = eqb-true h (k + 1) b in omega (arith, x, y))

            by : (f : ℕ) → from ≡ f → has_txn (begins state.session (link links 1 (k + 2))) t ≡ true
            by zero of = absurd (true≢false (sym (idle (subst (λ f. is_running (noted (hear_sequencer w s.sequencer f letter).state.history) t ≡ true) of runs)) ∙ rested))
            by (suc zero) of = absurd (true≢false (sym (subst (λ f. is_running (noted (hear_sequencer w s.sequencer f letter).state.history) t ≡ true) of runs) ∙ rested))
            by (suc (suc j)) of = subst (λ ls. has_txn (begins state.session ls) t ≡ true) (sym first) (subst (λ b. has_txn (if b then begun_by letter.message ++ begins state.session rest else begins state.session rest) t ≡ true) (sym own) (subst (λ m. has_txn (begun_by m ++ begins state.session rest) t ≡ true) (sym is) (or_left (t.0 == t.0) (has_txn (begins state.session rest) t) (same_self t.0))))
              where
                says : IsOf w (site (j + 1)) t
                says = subst (AskSays w p (site (j + 1))) is (subst (λ d. LetterSays w p 1 d letter) of (subst (AllByRecursion (LetterSays w p 1 from)) front (low.says 1 from)).0).0

                place : j ≡ k
                place = numbers (home w t).0 j says.1 mine

                first : link links 1 (k + 2) ≡ letter ∷ rest
                first = ap (link links 1) (let e : k + 2 ≡ from = omega (arith, of, place) in e) ∙ front

                own : (letter.from == state.session) ≡ true
                own = subst (λ z. (letter.from == z) ≡ true) (agreed.front_asked w world low.holds k state at letter rest first ∙ ap (λ b. if b then last_session p (site (k + 1)) + 1 else last_session p (site (k + 1))) (ap is_hello is) ∙ last) (same_self letter.from)

        -- after a Hello from there nobody of the site runs
        hello_none : (t : Txn) → is_site (site (k + 1)) (home w t) ≡ true → letter.message ≡ letters.Hello → from ≡ (site (k + 1)).0 + 1 → is_running q t ≡ true → ⊥
        hello_none t mine is of runs = hello_runs w s.sequencer k letter.from low.holds.placed low.holds.quiet t mine
            (subst (λ m. is_running (noted (if (is_hello m || letter.from == session (vector w p) (site (k + 1))) && is_to_sequencer w m then finish w s.sequencer (rows.site_row w (opened s.sequencer) (site (k + 1)) letter.from m) else opened s.sequencer).state.history) t ≡ true) is
            (subst (λ f. is_running (noted (hear_sequencer w s.sequencer f letter).state.history) t ≡ true) (let e : from ≡ suc (suc k) = omega (arith, of) in e) runs))

        sequencer_home : HomeOn (noted (hear_sequencer w s.sequencer from letter).state.history) (link (moved links 1 from 0 clock rest (hear_sequencer w s.sequencer from letter).outs) 1 (k + 2)) k state
        sequencer_home up_too last t (inl way) = go (same_or_not (last_session p (site (k + 1))) state.session)
          where
            go : (last_session p (site (k + 1)) ≡ state.session) ⊎ (last_session p (site (k + 1)) ≢ state.session) → RunsAt state t
            go (inl before) = all k state at up before t (inl (way_before k state.session t way))
            go (inr differ) = absurd (true≢false (sym (way_before k state.session t way) ∙ ap (λ ts. has_txn ts t) (none_yet differ)))
        sequencer_home up_too last t (inr want) = go (steps_last w from letter p (opened s.sequencer) now steps_all (site (k + 1)))
          where
            go : (last_session q (site (k + 1)) ≡ last_session p (site (k + 1))) ⊎ ((letter.message ≡ letters.Hello) × (from ≡ (site (k + 1)).0 + 1)) → RunsAt state t
            go (inr hello) = absurd (hello_none t want.1 hello.0 hello.1 want.0)
            go (inl still) = ran (is_running p t) refl
              where
                before : last_session p (site (k + 1)) ≡ state.session
                before = sym still ∙ last

                ran : (b : Bool) → is_running p t ≡ b → RunsAt state t
                ran true r = all k state at up before t (inr (r, want.1))
                ran false r = elim (steps_run w from letter p (opened s.sequencer) now steps_all t want.0) [
                  | inl was ↦ absurd (true≢false (sym was ∙ r))
                  | inr is ↦ all k state at up before t (inl (begun_here t before want.1 is want.0 r))
                ]

      pub sequencer_homes : HomeAll (record s { sequencer = (hear_sequencer w s.sequencer from letter).state }) (moved links 1 from 0 clock rest (hear_sequencer w s.sequencer from letter).outs)
      sequencer_homes k state at = λ up last t want. sequencer_home k state at up up last t want

    -- a site
    module _ (j : ℕ) (state : SiteState) (at : slice_get s.sites j ≡ Some state) (front : link links (suc (suc j)) from ≡ letter ∷ rest) where
      abbrev turn : Turn SiteState
      turn = hear_site w state from letter

      abbrev m : ℕ
      m = state.session

      abbrev asks : List Letter
      asks = link links 1 (j + 2)

      place : suc (suc j) ≡ j + 2
      place = omega arith

      inside : suc (suc j) < w.sites + 2
      inside = (let b = get_below s.sites j state at in let l = low.holds.long in omega (arith, b, l))

      asks_after : link (moved links (suc (suc j)) from turn.state.session clock rest turn.outs) 1 (j + 2) ≡ asks ++ letters_to 1 turn.state.session clock turn.outs
      asks_after =
          ap (link (moved links (suc (suc j)) from turn.state.session clock rest turn.outs) 1) (sym place) ∙ moved_sent (w.sites + 2) links (suc (suc j)) from turn.state.session clock rest turn.outs low.holds.square inside 1 (omega arith) (λ e. omega (arith, e))
          ∙ ap (λ d. link links 1 d ++ letters_to 1 turn.state.session clock turn.outs) place

      asks_other : (k : ℕ) → k ≢ j → link (moved links (suc (suc j)) from turn.state.session clock rest turn.outs) 1 (k + 2) ≡ link links 1 (k + 2)
      asks_other k differ = moved_other (w.sites + 2) links (suc (suc j)) from turn.state.session clock rest turn.outs low.holds.square inside 1 (k + 2) (omega arith) (λ e. differ (omega (arith, e))) (inl (λ e. omega (arith, e)))

      note : from ≡ 1 → NoteSays w p (site (j + 1)) letter.to letter.message
      note of =
          let says = (subst (AllByRecursion (LetterSays w p (suc (suc j)) from)) front (low.says (suc (suc j)) from)).0 in
          subst (λ z. NoteSays w p z letter.to letter.message) (ap site (let e : suc (suc j) - 1 ≡ j + 1 = omega arith in e)) (subst (λ d. LetterSays w p (suc (suc j)) d letter) of says)

      abbrev world_now : World
      world_now = record { servers = s; links = links; clocks = []; journals = [] }

      module _ (after_waits : Waits w (record s { sites = slice_set s.sites j (hear_site w state from letter).state }) (moved links (suc (suc j)) from (hear_site w state from letter).state.session clock rest (hear_site w state from letter).outs)) where
        abbrev moved_on : List (List (List Letter))
        moved_on = moved links (suc (suc j)) from (hear_site w state from letter).state.session clock rest (hear_site w state from letter).outs

        abbrev Own : Type 0
        Own = HomeOn p (link moved_on 1 (j + 2)) j turn.state

        -- it hears a server
        module _ (some : from ≡ 0 → ⊥) (up : state.up ≡ true) (up_same : turn.state.up ≡ state.up) (session_same : turn.state.session ≡ state.session) (last : last_session p (site (j + 1)) ≡ state.session) where
          begins_is : begins turn.state.session (link moved_on 1 (j + 2)) ≡ begins m asks ++ told turn.outs
          begins_is = ap (begins turn.state.session) asks_after
              ∙ subst (λ z. begins z (asks ++ letters_to 1 z clock turn.outs) ≡ begins m asks ++ told turn.outs) (sym session_same) (begins_append m asks (letters_to 1 m clock turn.outs) ∙ ap (λ ts. begins m asks ++ ts) (begins_told m clock turn.outs))

          stays : (t : Txn) → RunsAt state t ⊎ (has_txn (told turn.outs) t ≡ true) → (has_ended p t ≡ true) ⊎ RunsAt turn.state t
          stays = (step_stays w p j state from letter note some (low.homes j state at).ascend).all

          fresh : (t : Txn) → has_txn (begins turn.state.session (link moved_on 1 (j + 2))) t ≡ true → has_begun p t ≡ false
          fresh t way = go (after_waits j turn.state (get_set s.sites j turn.state (get_below s.sites j state at))).stage
            where
              go : Stage w j p turn.state.up turn.state.session turn.state.running turn.state.next (begins turn.state.session (link moved_on 1 (j + 2))) (link moved_on (j + 2) 1) → has_begun p t ≡ false
              go (stopped d r z) = absurd (true≢false (sym (up_same ∙ up) ∙ d))
              go (asleep u l r z b) = absurd (true≢false (sym way ∙ ap (λ ts. has_txn ts t) b))
              go (cares.fresh u l r z b e) = absurd (true≢false (sym way ∙ ap (λ ts. has_txn ts t) b))
              go (awake u l f c) = due_fresh (site (j + 1)) p (begins turn.state.session (link moved_on 1 (j + 2))) t (line_due w (site (j + 1)) p (begins turn.state.session (link moved_on 1 (j + 2))) c.line) way

          own_way : (t : Txn) → has_txn (begins turn.state.session (link moved_on 1 (j + 2))) t ≡ true → RunsAt turn.state t
          own_way t way = elim (stays t (go (or_parts (has_txn (begins m asks) t) (has_txn (told turn.outs) t) (sym (list_any-append (is_txn t) (begins m asks) (told turn.outs)) ∙ ap (λ ts. has_txn ts t) (sym begins_is) ∙ way)))) [
            | inl over ↦ absurd (true≢false (sym over ∙ fresh_unended p (placed_whole w s.sequencer.history low.holds.placed) t (fresh t way)))
            | inr runs ↦ runs
          ]
            where
              go : (has_txn (begins m asks) t ≡ true) ⊎ (has_txn (told turn.outs) t ≡ true) → RunsAt state t ⊎ (has_txn (told turn.outs) t ≡ true)
              go (inl old) = inl (all j state at up last t (inl old))
              go (inr new) = inr new

          own_runs : (t : Txn) → is_running p t ≡ true → is_site (site (j + 1)) (home w t) ≡ true → RunsAt turn.state t
          own_runs t runs mine = elim (stays t (inl (all j state at up last t (inr (runs, mine))))) [
            | inl over ↦ absurd (true≢false (sym (and_parts (has_begun p t) (not (has_ended p t)) runs).1 ∙ ap not over))
            | inr still ↦ still
          ]

        own : Own
        own = go (home_step w state from letter)
          where
            go : HomeStep state from (hear_site w state from letter) → Own
            go (steps.same none is) =
                subst (λ ls. HomeOn p ls j turn.state) (sym (asks_after ∙ ap (λ outs. asks ++ letters_to 1 turn.state.session clock outs) none ∙ append-nil asks)) (subst (HomeOn p asks j) (sym is) (all j state at))
            go (steps.falls none down) = λ u l t want. absurd (true≢false (sym u ∙ down))
            go (steps.rises none next) = λ u l t want. absurd (let f = agreed.told_follows w world_now low.holds j state at in omega (arith, f, l, next))
            go (steps.hears up some up_same session_same) = λ u l t want. elim want [
              | inl way ↦ own_way some up up_same session_same (l ∙ session_same) t way
              | inr runs ↦ own_runs some up up_same session_same (l ∙ session_same) t runs.0 runs.1
            ]

        pub site_homes : HomeAll (record s { sites = slice_set s.sites j (hear_site w state from letter).state }) (moved links (suc (suc j)) from (hear_site w state from letter).state.session clock rest (hear_site w state from letter).outs)
        site_homes k other there = go (same_or_not k j)
          where
            go : (k ≡ j) ⊎ (k ≢ j) → HomeOn p (link moved_on 1 (k + 2)) k other
            go (inl e) =
                let is : turn.state ≡ other = some_is turn.state other (sym (get_set s.sites j turn.state (get_below s.sites j state at)) ∙ ap (slice_get (slice_set s.sites j turn.state)) (sym e) ∙ there) in
                subst (λ z. HomeOn p (link moved_on 1 (z + 2)) z other) (sym e) (subst (HomeOn p (link moved_on 1 (j + 2)) j) is own)
            go (inr differ) = subst (λ ls. HomeOn p ls k other) (sym (asks_other k differ)) (all k other (sym (get_other s.sites j k turn.state differ) ∙ there))
