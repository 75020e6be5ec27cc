-- The sequencer's step keeps what comes to each site.
use Rattle.std.proofs.Common.{◌≡◌, ◌≢◌, ◌⊎◌, inl, inr, ℕ, zero, suc, ◌+◌, ◌<◌, ◌==◌, Bool, true, false, not, ◌&&◌, List, [], ◌∷◌, ◌++◌, Some, if◌then◌else◌, arith, sym, subst, ap, ◌∙◌, refl, append-nil}
use Rattle.std.specs.Prelude.{slice_get}
use Rattle.std.specs.List.{AllByRecursion}
use Rattle.std.proofs.lemmas.Bool.{eqb-true, true≢false}
use Rattle.std.proofs.lemmas.List.Folds.{list_any-append}
use Rattle.raid_base.specs.declared.names.Txn.{Txn}
use Rattle.raid_base.specs.declared.names.Site.{Site}
use Rattle.raid_base.specs.declared.entry.Entry.{Entry}
use Rattle.raid_base.specs.declared.entry.Entry.TheVariants.{Begin}
use Rattle.raid_base.specs.declared.entry.Noted.{Noted}
use Rattle.raid_base.specs.Names.{is_txn, is_site, has_txn}
use Rattle.raid_base.specs.Sites.{site}
use Rattle.raid_workload.specs.declared.workload.Workload.{Workload}
use Rattle.raid_workload.specs.Parts.{home}
use Rattle.raid_rules.specs.Entries.{is_begin_of}
use Rattle.raid_rules.specs.History.{noted, next, has_begun}
use Rattle.raid_rules.specs.Sessions.{last_session}
use Rattle.raid_rules.proofs.Push.{noted_push, has_begun_push, same_txn}
use Rattle.raid_rules.proofs.Txns.{not_true}
use Rattle.raid_legal.specs.Seen.{previous}
use Rattle.raid_message.specs.declared.letter.Message.TheVariants as letters
use Rattle.raid_message.specs.declared.letter.Letter.{Letter}
use Rattle.raid_steps.specs.State.{Turn, Sequencer, Running, SiteState, opened}
use Rattle.raid_steps.specs.Programs.{runs_here}
use Rattle.raid_steps.specs.Sequencer as rows
use Rattle.raid_steps.specs.Sequencer.{so_far, place, is_hello, hear_sequencer}
use Rattle.raid_steps.specs.World.{World, Servers, link}
use Rattle.raid_sessions.proofs.Agreed as agreed
use Rattle.raid_sessions.proofs.AtSequencer.{sequencer_holds}
use Rattle.raid_sessions.proofs.Holds.{Holds}
use Rattle.raid_sessions.proofs.Ledger.{session_most}
use Rattle.raid_sessions.proofs.Lists.{is_same, same_self}
use Rattle.raid_sessions.proofs.Reached.{from_below}
use Rattle.raid_sessions.proofs.Mail.{same_or_not, letters_to, moved, moved_taken, moved_other}
use Rattle.raid_asks.specs.Own.{IsOf}
use Rattle.raid_asks.specs.Way.{begun_by, begins_of}
use Rattle.raid_asks.proofs.Cares.{Stage, stopped, asleep, fresh, awake, Cares}
use Rattle.raid_asks.proofs.Facts.{or_left, or_right, or_parts}
use Rattle.raid_asks.proofs.Least.{Ours}
use Rattle.raid_asks.proofs.Line.{FineAt}
use Rattle.raid_asks.proofs.Steps as asks_steps
use Rattle.raid_asks.proofs.Waits.{sequencer_waits}
use Rattle.raid_letters.specs.Says.{AskSays}
use Rattle.raid_letters.proofs.Runs.{LetterSays}
use Rattle.raid_versions.proofs.Owed.{Known}
use Rattle.raid_vectors.specs.Vectors.{IsTold}
use Rattle.raid_vectors.proofs.Along.{steps_keep}
use Rattle.raid_vectors.proofs.Runs.{low_at, known_at, some_at, heard_by_steps}
use Rattle.raid_witness.proofs.Histories.{steps_last}
use Rattle.raid_starts.specs.Starts.{retries, is_coming}
use Rattle.raid_starts.proofs.Puts.{is_among}
use Rattle.raid_starts.proofs.Coming.{Good, Coming}
use Rattle.raid_starts.proofs.Entries.{Inner, Mid, Ready, entries_come, copies_come}

-- what holds of each program's transaction holds of one that runs
pub at_among : (P : Txn → Type 0) (rs : List Running) (t : Txn) → AllByRecursion (λ (r : Running). P r.txn) rs → is_among t rs ≡ true → P t
at_among P [] t a q = absurd (true≢false (sym q))
at_among P (r ∷ rs) t a q = elim (or_parts (is_txn t r.txn) (is_among t rs) q) [
  | inl it ↦ subst P (same_txn r.txn t it) a.0
  | inr more ↦ at_among P rs t a.1 more
]

-- nobody runs where none do
pub none_among : (rs : List Running) (t : Txn) → rs ≡ [] → is_among t rs ≡ true → ⊥
none_among rs t none q = true≢false (sym q ∙ ap (is_among t) none)

-- who has begun after a step had before it, or the letter begins it
module _ (w : Workload) (from : ℕ) (letter : Letter) (first : List Noted) where
  steps_begun : (a b : Turn Sequencer) → asks_steps.Steps w from letter first a b → (t : Txn) → has_begun (so_far b) t ≡ true → (has_begun (so_far a) t ≡ true) ⊎ (letter.message ≡ letters.Begin t)
  steps_begun a b asks_steps.done t q = inl q
  steps_begun a b (asks_steps.placed ask e p goes why rest) t q = elim (steps_begun (place w ask a e) b rest t q) [
    | inl before ↦ elim (or_parts (has_begun (so_far a) t) (is_begin_of t e) (sym (ap (λ p. has_begun p t) (noted_push a.state.history e) ∙ has_begun_push (so_far a) (next (so_far a) e) t) ∙ before)) [
      | inl old ↦ inl old
      | inr now ↦ inr (go e why now)
    ]
    | inr asked ↦ inr asked
  ]
    where
      go : (e : Entry) → asks_steps.Why w from letter first (so_far a) ask e → is_begin_of t e ≡ true → letter.message ≡ letters.Begin t
      go (Begin u s) why is = why ∙ ap letters.Begin (same_txn u t is)
      go other why is = absurd (true≢false (sym is))
  steps_begun a b (asks_steps.passes {next = next} outs same more other rest) t q = subst (λ h. (has_begun (noted h) t ≡ true) ⊎ (letter.message ≡ letters.Begin t)) same (steps_begun next b rest t q)

module _ (w : Workload) (world : World) (known : Known w world) (from clock : ℕ) (letter : Letter) (rest : List Letter) (front : link world.links 1 from ≡ letter ∷ rest) (k : ℕ) (s : SiteState) (at : slice_get world.servers.sites k ≡ Some s)
    (j : Coming w k (noted world.servers.sequencer.history) s (link world.links 1 (k + 2)) (link world.links (k + 2) 1)) where
  abbrev state : Sequencer
  state = world.servers.sequencer

  abbrev here : Site
  here = site (k + 1)

  abbrev p : List Noted
  p = noted world.servers.sequencer.history

  abbrev turn : Turn Sequencer
  turn = hear_sequencer w world.servers.sequencer from letter

  abbrev q : List Noted
  q = noted (hear_sequencer w world.servers.sequencer from letter).state.history

  abbrev notes : List Letter
  notes = link world.links (k + 2) 1

  abbrev asks : List Letter
  asks = link world.links 1 (k + 2)

  abbrev left : List Letter
  left = if from == k + 2 then rest else link world.links 1 (k + 2)

  abbrev sent : List Letter
  sent = notes ++ letters_to (k + 2) 0 clock (hear_sequencer w world.servers.sequencer from letter).outs

  abbrev after : List (List (List Letter))
  after = moved world.links 1 from 0 clock rest (hear_sequencer w world.servers.sequencer from letter).outs

  abbrev servers : Servers
  servers = record (world.servers) { sequencer = (hear_sequencer w world.servers.sequencer from letter).state }

  steps : asks_steps.Steps w from letter p (opened world.servers.sequencer) (hear_sequencer w world.servers.sequencer from letter)
  steps = asks_steps.hear_steps w from letter p state from refl refl known.says.reached.placed known.says.reached.quiet

  low_from : from < w.sites + 2
  low_from = from_below (w.sites + 2) world.links 1 from letter rest known.says.reached.square front

  -- the world after it
  holds : Holds w (record (world.servers) { sequencer = (hear_sequencer w world.servers.sequencer from letter).state }) (moved world.links 1 from 0 clock rest (hear_sequencer w world.servers.sequencer from letter).outs)
  holds = sequencer_holds w world.servers world.links from clock letter rest low_from front known.says.reached

  cares : Cares w k (noted (hear_sequencer w world.servers.sequencer from letter).state.history) s (link (moved world.links 1 from 0 clock rest (hear_sequencer w world.servers.sequencer from letter).outs) 1 (k + 2)) (link (moved world.links 1 from 0 clock rest (hear_sequencer w world.servers.sequencer from letter).outs) (k + 2) 1)
  cares = sequencer_waits w world.servers world.links from clock letter rest low_from known.says.reached known.says.homes known.cares front k s at

  asks_after : link (moved world.links 1 from 0 clock rest (hear_sequencer w world.servers.sequencer from letter).outs) 1 (k + 2) ≡ (if from == k + 2 then rest else link world.links 1 (k + 2))
  asks_after = go (same_or_not from (k + 2))
    where
      go : (from ≡ k + 2) ⊎ (from ≢ k + 2) → link after 1 (k + 2) ≡ (if from == k + 2 then rest else link world.links 1 (k + 2))
      go (inl of) =
          ap (link after 1) (sym of) ∙ moved_taken (w.sites + 2) world.links 1 from 0 clock rest turn.outs known.says.reached.square (omega arith) low_from (λ r. omega (arith, of, r))
          ∙ ap (λ b. if b then rest else asks) (sym (is_same from (k + 2) of))
      go (inr other) =
          moved_other (w.sites + 2) world.links 1 from 0 clock rest turn.outs known.says.reached.square (omega arith) 1 (k + 2) (omega arith) (λ r. omega (arith, r)) (inr (λ r. other (sym r)))
          ∙ ap (λ b. if b then rest else asks) (sym (not_true (from == k + 2) (λ e. other (eqb-true from (k + 2) e))))

  -- a Begin that is left was on its way
  way_before : (m : ℕ) (t : Txn) → has_txn (begins_of m (if from == k + 2 then rest else link world.links 1 (k + 2))) t ≡ true → has_txn (begins_of m (link world.links 1 (k + 2))) t ≡ true
  way_before m t way = go (from == k + 2) refl way
    where
      more : (b : Bool) (ts us : List Txn) → has_txn us t ≡ true → has_txn (if b then ts ++ us else us) t ≡ true
      more true ts us h = list_any-append (is_txn t) ts us ∙ or_right (has_txn ts t) (has_txn us t) h
      more false ts us h = h

      go : (b : Bool) → (from == k + 2) ≡ b → has_txn (begins_of m (if b then rest else link world.links 1 (k + 2))) t ≡ true → has_txn (begins_of m (link world.links 1 (k + 2))) t ≡ true
      go true of h = subst (λ ls. has_txn (begins_of m ls) t ≡ true) (sym (ap (link world.links 1) (sym (eqb-true from (k + 2) of)) ∙ front)) (more (letter.from == m) (begun_by letter.message) (begins_of m rest) h)
      go false of h = h

  -- along the entries
  module _ (last : List Noted) where
    walk : Ready w k s asks p last → Mid w k s asks p last q sent
    walk ready = steps_keep w from letter p k clock (Mid w k s asks p last) notes (entries_come w k s asks p last ready from clock letter) (copies_come w k s asks p last ready from clock letter) (opened state) turn (heard_by_steps w world known from clock letter rest front)
        (subst (Mid w k s asks p last p) (sym (append-nil notes)) (record {
          long = known.says.reached.ledger.long;
          lasts = omega arith;
          grown = λ t b. b;
          up = j.up;
          good = λ within told. record { runs = (j.good told).runs; over = (j.good told).over; next = (j.good told).next };
        }))

    ready_for : ((t : Txn) → is_site (site (k + 1)) (home w t) ≡ true → has_begun last t ≡ true → (has_begun p t ≡ true) ⊎ (runs_here s t ≡ true)) → Ready w k s asks p last
    ready_for began = record {
      low = low_at w world known k s at;
      some = some_at w world known k s at;
      own = λ t r. (let o = at_among (Ours w here) s.running t (known.says.homes k s at).running r in (o.known, o.at));
      early = λ l. go l (known.cares k s at).stage;
      began = began;
    }
      where
        go : last_session p here < s.session → Stage w k p s.up s.session s.running s.next (begins_of s.session asks) notes → s.running ≡ []
        go l (stopped d r n) = r
        go l (asleep u b r n x) = r
        go l (fresh u b r n x e) = r
        go l (awake u b f c) = absurd (omega (arith, l, b))

  -- where the history has the site in its session after the step
  module _ (told : IsTold w q k s) where
    same_last : last_session q (site (k + 1)) ≡ s.session
    same_last =
        let world_after : World = record { servers = servers; links = after; clocks = []; journals = [] } in
        let a = session_most w turn.state.history here holds.ledger (known_at w world known k s at) in
        let b = agreed.told_follows w world_after holds k s at in
        let c = told.told in omega (arith, a, b, c)

    told_before : last_session p (site (k + 1)) ≡ s.session → IsTold w p k s
    told_before same = record { up = told.up; told = agreed.told_up w world known.says.reached k s at told.up same }

    -- whose Begin is on its way runs
    way_runs : (t : Txn) → has_txn (begins_of s.session (link world.links 1 (k + 2))) t ≡ true → runs_here s t ≡ true
    way_runs t way = go (known.cares k s at).stage
      where
        go : Stage w k p s.up s.session s.running s.next (begins_of s.session asks) notes → runs_here s t ≡ true
        go (stopped d r n) = absurd (true≢false (sym told.up ∙ d))
        go (asleep u l r n b) = absurd (true≢false (sym way ∙ ap (λ ts. has_txn ts t) b))
        go (fresh u l r n b e) = absurd (true≢false (sym way ∙ ap (λ ts. has_txn ts t) b))
        go (awake u l f c) = (j.good (told_before l)).begins t way

    -- who begins in the step runs
    began : (t : Txn) → is_site (site (k + 1)) (home w t) ≡ true → has_begun q t ≡ true → (has_begun p t ≡ true) ⊎ (runs_here s t ≡ true)
    began t mine b = elim (steps_begun w from letter p (opened state) turn steps t b) [
      | inl old ↦ inl old
      | inr is ↦ by is from refl
    ]
      where
        numbers : (h j : ℕ) → (h == j + 1) ≡ true → (h == k + 1) ≡ true → j ≡ k
        numbers h j a b = (let x = eqb-true h (j + 1) a in let y = eqb-true h (k + 1) b in omega (arith, x, y))

        by : letter.message ≡ letters.Begin t → (f : ℕ) → from ≡ f → (has_begun p t ≡ true) ⊎ (runs_here s t ≡ true)
        by is zero of = inl (subst (λ m. has_begun (noted (rows.hear_down w state m).state.history) t ≡ true) is (subst (λ f. has_begun (noted (hear_sequencer w state f letter).state.history) t ≡ true) of b))
        by is (suc zero) of = inl (subst (λ f. has_begun (noted (hear_sequencer w state f letter).state.history) t ≡ true) of b)
        by is (suc (suc i)) of = go (same_or_not (last_session p here) s.session)
          where
            says : IsOf w (site (i + 1)) t
            says = subst (AskSays w p (site (i + 1))) is (subst (λ d. LetterSays w p 1 d letter) of (subst (AllByRecursion (LetterSays w p 1 from)) front (known.says.says 1 from)).0).0

            place_is : i ≡ k
            place_is = numbers (home w t).0 i says.1 mine

            first : link world.links 1 (k + 2) ≡ letter ∷ rest
            first = ap (link world.links 1) (let e : k + 2 ≡ from = omega (arith, of, place_is) in e) ∙ front

            from_is : letter.from ≡ last_session p here
            from_is = agreed.front_asked w world known.says.reached k s at letter rest first ∙ ap (λ b. if b then last_session p here + 1 else last_session p here) (ap is_hello is)

            go : (last_session p here ≡ s.session) ⊎ (last_session p here ≢ s.session) → (has_begun p t ≡ true) ⊎ (runs_here s t ≡ true)
            go (inl same) = inr (way_runs t (subst (λ ls. has_txn (begins_of s.session ls) t ≡ true) (sym first)
                (subst (λ b. has_txn (if b then begun_by letter.message ++ begins_of s.session rest else begins_of s.session rest) t ≡ true) (sym (is_same letter.from s.session (from_is ∙ same)))
                (subst (λ m. has_txn (begun_by m ++ begins_of s.session rest) t ≡ true) (sym is) (or_left (is_txn t t) (has_txn (begins_of s.session rest) t) (same_self t.0))))))
            go (inr differ) = elim (steps_last w from letter p (opened state) turn steps here) [
              | inl still ↦ absurd (differ (sym still ∙ same_last))
              | inr hello ↦ absurd (unlike (sym hello.0 ∙ is))
            ]
              where
                unlike : letters.Hello ≡ letters.Begin t → ⊥
                unlike e = cc e

    inner : Inner w k s asks p q q sent
    inner = (walk q (ready_for q began)).good (λ t b. b) told

    -- whose Begin was on its way, and who hasn't begun, has it on its way
    still_way : (t : Txn) → has_txn (begins_of s.session (link world.links 1 (k + 2))) t ≡ true → has_begun q t ≡ false → has_txn (begins_of s.session (if from == k + 2 then rest else link world.links 1 (k + 2))) t ≡ true
    still_way t way new = subst (λ ls. has_txn (begins_of s.session ls) t ≡ true) asks_after (go cares.stage)
      where
        go : Stage w k q s.up s.session s.running s.next (begins_of s.session (link after 1 (k + 2))) (link after (k + 2) 1) → has_txn (begins_of s.session (link after 1 (k + 2))) t ≡ true
        go (stopped d r n) = absurd (true≢false (sym told.up ∙ d))
        go (asleep u l r n b) = absurd (none_among s.running t r (way_runs t way))
        go (fresh u l r n b e) = absurd (none_among s.running t r (way_runs t way))
        go (awake u l f c) = (at_among (FineAt w here q (begins_of s.session (link after 1 (k + 2)))) s.running t f (way_runs t way)).1 ∙ ap not new

    kept_good : Good w q k s left sent
    kept_good = record {
      runs = inner.runs;
      begins = λ t way. way_runs t (way_before s.session t way);
      over = inner.over;
      next = λ t of due new. elim (or_parts (is_coming (retries (previous w t)) s.session sent && runs_here s (previous w t)) (has_txn (begins_of s.session asks) t) (inner.next t of due new)) [
        | inl drop ↦ or_left (is_coming (retries (previous w t)) s.session sent && runs_here s (previous w t)) (has_txn (begins_of s.session left) t) drop
        | inr way ↦ or_right (is_coming (retries (previous w t)) s.session sent && runs_here s (previous w t)) (has_txn (begins_of s.session left) t) (still_way t way new)
      ];
    }

  pub sequencer_comes : Coming w k (noted (hear_sequencer w world.servers.sequencer from letter).state.history) s (if from == k + 2 then rest else link world.links 1 (k + 2))
      (link world.links (k + 2) 1 ++ letters_to (k + 2) 0 clock (hear_sequencer w world.servers.sequencer from letter).outs)
  sequencer_comes = record { full = j.full; up = (walk p (ready_for p (λ t mine b. inl b))).up; good = kept_good }
