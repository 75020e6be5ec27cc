-- The sequencer's step keeps what copies have and get.
use Rattle.std.proofs.Common.{◌≡◌, ◌⊎◌, inl, inr, ℕ, zero, suc, ◌+◌, ◌-◌, ◌<◌, ◌≤◌, ◌==◌, Bool, true, false, ◌||◌, List, [], ◌∷◌, ◌++◌, length, map, fold, Some, if◌then◌else◌, arith, sym, subst, ap, ◌∙◌, refl, append-nil}
use Rattle.std.specs.Prelude.{slice_get}
use Rattle.std.specs.List.{AllByRecursion}
use Rattle.std.proofs.lemmas.List.Sums.{fold-append}
use Rattle.raid_base.specs.declared.names.Txn.{Txn}
use Rattle.raid_base.specs.declared.names.Site.{Site}
use Rattle.raid_base.specs.declared.entry.Entry.{Entry}
use Rattle.raid_base.specs.declared.entry.Entry.TheVariants.{Down, Up}
use Rattle.raid_base.specs.declared.entry.Noted.{Noted}
use Rattle.raid_base.specs.Names.{is_site, has_site}
use Rattle.raid_base.specs.Sites.{session, site}
use Rattle.raid_workload.specs.declared.workload.Workload.{Workload}
use Rattle.raid_workload.specs.Parts.{count_from}
use Rattle.raid_rules.specs.History.{noted, add, next}
use Rattle.raid_rules.specs.Sessions.{last_session, owes, turn_vector, turn_last}
use Rattle.raid_rules.proofs.Push.{noted_push, vector_push}
use Rattle.raid_legal.specs.Seen.{vector}
use Rattle.raid_message.specs.declared.letter.Message.{Message}
use Rattle.raid_message.specs.declared.letter.Message.TheVariants as letters
use Rattle.raid_message.specs.declared.letter.Letter.{Letter}
use Rattle.raid_steps.specs.State.{Turn, Sequencer, SiteState, opened}
use Rattle.raid_steps.specs.Fits.{knows_site}
use Rattle.raid_steps.specs.Sequencer as rows
use Rattle.raid_steps.specs.Sequencer.{so_far, place, is_hello, hear_sequencer}
use Rattle.raid_steps.specs.World.{World, link, set_link, post, take_front}
use Rattle.raid_steps.proofs.Parts.{number_known}
use Rattle.raid_sessions.proofs.Agreed.{front_asked, told_follows, told_up}
use Rattle.raid_sessions.proofs.Holds.{last_of, IsHeard}
use Rattle.raid_sessions.proofs.Ledger.{session_set}
use Rattle.raid_sessions.proofs.Lists.{all_weaken, get_below, get_known}
use Rattle.raid_sessions.proofs.Mail.{same_or_not, moved, set_square, set_here, set_server}
use Rattle.raid_sessions.proofs.Reached.{Reached, from_below, front_reached}
use Rattle.raid_letters.specs.Says.{NoteSays}
use Rattle.raid_letters.proofs.Sends.{same_site}
use Rattle.raid_versions.specs.Versions.{IsLive, IsKeptUp, ApplyOwed, Told, LastVersions, HaveLastVersions}
use Rattle.raid_versions.proofs.Entries.{placed_mid}
use Rattle.raid_versions.proofs.Grown.{was, Grows, grown}
use Rattle.raid_versions.proofs.Links.{all_alike}
use Rattle.raid_versions.proofs.Mid.{ApplySays, Stands, Mid, Alive, IsTold, last_push, sized_push, stand_now}
use Rattle.raid_versions.proofs.Owed.{HoldsOwn, Known}
use Rattle.raid_versions.proofs.Renewing.{sent_mid, due_goes, count_goes}
use Rattle.raid_versions.proofs.Sent.{set_others}
use Rattle.raid_versions.proofs.Steps.{Why, Steps, done, placed, renews, counts, passes, IsOpening, IsKnown, hear_steps}
use Rattle.raid_versions.proofs.Written.{version_long}

-- the workload's sites
pub counted : (a n k : ℕ) → a ≤ k → k < a + n → has_site (map site (count_from a n)) (site k) ≡ true
counted a zero k least most = absurd (omega (arith, least, most))
counted a (suc n) k least most = go (a == k) refl (λ more. counted (a + 1) n k more (omega (arith, most)))
  where
    beyond : (a == k) ≡ false → a + 1 ≤ k
    beyond q = grind (arith, q, least)

    go : (b : Bool) → (a == k) ≡ b → (a + 1 ≤ k → has_site (map site (count_from (a + 1) n)) (site k) ≡ true) → (b || has_site (map site (count_from (a + 1) n)) (site k)) ≡ true
    go true q rest = refl
    go false q rest = rest (beyond q)

module _ (w : Workload) where
  -- a site's session in two histories, one before the other: its last one doesn't fall, and a site that is down stays so, or comes up in a later one
  abbrev Fall : List Noted → List Noted → Site → Type 0
  Fall p q s = (last_session p s ≤ last_session q s) × (session (vector w p) s ≡ 0 → ((session (vector w q) s ≡ 0) × (last_session q s ≡ last_session p s)) ⊎ (last_session p s < last_session q s))

  same_fall : (p : List Noted) (s : Site) → Fall p p s
  same_fall p s = (omega arith, (λ none. inl (none, refl)))

  fall_on : (p q r : List Noted) (s : Site) → Fall p q s → Fall q r s → Fall p r s
  fall_on p q r s a b = ((let x = a.0 in let y = b.0 in omega (arith, x, y)), go)
    where
      go : session (vector w p) s ≡ 0 → ((session (vector w r) s ≡ 0) × (last_session r s ≡ last_session p s)) ⊎ (last_session p s < last_session r s)
      go none = elim (a.1 none) [
        | inl still ↦ elim (b.1 still.0) [ inl more ↦ inl (more.0, more.1 ∙ still.1) | inr later ↦ (let x = still.1 in inr (omega (arith, x, later))) ]
        | inr later ↦ (let y = b.0 in inr (omega (arith, later, y)))
      ]

  module _ (from : ℕ) (letter : Letter) (first : List Noted) where
    -- one entry
    abbrev Falls : List Noted → Site → ℕ → ℕ → Type 0
    Falls p s now last = (last_session p s ≤ last) × (session (vector w p) s ≡ 0 → ((now ≡ 0) × (last ≡ last_session p s)) ⊎ (last_session p s < last))

    one_fall : (p : List Noted) (e : Entry) → length (vector w p) ≡ w.sites → Why w from letter first p e → (s : Site) → knows_site w s ≡ true → Fall p (add p e) s
    one_fall p e sized why s known =
        subst (λ z. (last_session p s ≤ z) × (session (vector w p) s ≡ 0 → ((session (vector w (add p e)) s ≡ 0) × (z ≡ last_session p s)) ⊎ (last_session p s < z))) (sym (last_push p e s))
        (subst (λ (v : List ℕ). (last_session p s ≤ turn_last s (last_session p s) e) × (session (vector w p) s ≡ 0 → ((session v s ≡ 0) × (turn_last s (last_session p s) e ≡ last_session p s)) ⊎ (last_session p s < turn_last s (last_session p s) e))) (sym (vector_push w.sites p (next p e))) (go e why))
      where
        down : (b : Bool) → Falls p s (if b then 0 else session (vector w p) s) (last_session p s)
        down true = (omega arith, (λ none. inl (refl, refl)))
        down false = (omega arith, (λ none. inl (none, refl)))

        up : (b : Bool) (n : ℕ) (r : Site) → is_site s r ≡ b → last_session p r < n → Falls p s (if b then n else session (vector w p) s) (if b then n else last_session p s)
        up true n r is more = (let same = ap (last_session p) (sym (same_site s r is)) in (omega (arith, same, more), (λ none. inr (omega (arith, same, more)))))
        up false n r is more = (omega arith, (λ none. inl (none, refl)))

        go : (e : Entry) → Why w from letter first p e → Falls p s (session (turn_vector (vector w p) e) s) (turn_last s (last_session p s) e)
        go (Down r) y = subst (λ z. Falls p s z (last_session p s)) (sym (session_set w (vector w p) r s 0 sized y known)) (down (is_site s r))
        go (Up r n) y = subst (λ z. Falls p s z (if is_site s r then n else last_session p s)) (sym (session_set w (vector w p) r s n sized y.0 known)) (up (is_site s r) n r refl y.1)
        go other y = (omega arith, (λ none. inl (none, refl)))

    -- along the step
    steps_fall : (a b : Turn Sequencer) → Steps w from letter first a b → length (vector w (so_far a)) ≡ w.sites → (s : Site) → knows_site w s ≡ true → Fall (so_far a) (so_far b) s
    steps_fall a b done sized s known = same_fall (so_far a) s
    steps_fall a b (placed ask e p goes why rest) sized s known =
        let now = so_far (place w ask a e) in
        fall_on (so_far a) now (so_far b) s (subst (λ z. Fall (so_far a) z s) (sym (noted_push a.state.history e)) (one_fall (so_far a) e sized why s known))
        (steps_fall (place w ask a e) b rest (subst (λ z. length (vector w z) ≡ w.sites) (sym (noted_push a.state.history e)) (sized_push w (so_far a) e sized)) s known)
    steps_fall a b (renews {next = next} due same more all rest) sized s known = subst (λ h. Fall (noted h) (so_far b) s) same (steps_fall next b rest (subst (λ h. length (vector w (noted h)) ≡ w.sites) (sym same) sized) s known)
    steps_fall a b (counts {next = next} n same more rest) sized s known = subst (λ h. Fall (noted h) (so_far b) s) same (steps_fall next b rest (subst (λ h. length (vector w (noted h)) ≡ w.sites) (sym same) sized) s known)
    steps_fall a b (passes {next = next} same more rest) sized s known = subst (λ h. Fall (noted h) (so_far b) s) same (steps_fall next b rest (subst (λ h. length (vector w (noted h)) ≡ w.sites) (sym same) sized) s known)

    module _ (sites : List SiteState) (long : length sites ≡ w.sites) (held : (k : ℕ) (s : SiteState) → slice_get sites k ≡ Some s → HoldsOwn w k s) (told : IsTold w sites from letter first) (base : List (List (List Letter))) (clock : ℕ) where
      -- what holds of the sites once the step is done
      record Ends (q : List Noted) : Type 0 where
        follows : (k : ℕ) (s : SiteState) → slice_get sites k ≡ Some s → last_session q (site (k + 1)) ≤ s.session
        up : (k : ℕ) (s : SiteState) → IsLive q sites k s → session (vector w q) (site (k + 1)) ≡ s.session

      known_at : (k : ℕ) (s : SiteState) → slice_get sites k ≡ Some s → knows_site w (site (k + 1)) ≡ true
      known_at k s at = number_known w k (let b = get_below sites k s at in omega (arith, b, long))

      -- so live sites are up all along
      alive : (p q : List Noted) → ((k : ℕ) → k < w.sites → Stands (session (vector w p) (site (k + 1))) (last_session p (site (k + 1)))) → ((s : Site) → knows_site w s ≡ true → Fall p q s) → Ends q → Alive w sites p
      alive p q stand fall ends k s live = go (stand k (let b = get_below sites k s live.at in omega (arith, b, long)))
        where
          go : Stands (session (vector w p) (site (k + 1))) (last_session p (site (k + 1))) → session (vector w p) (site (k + 1)) ≡ s.session
          go st = elim st.so [
            | inr up ↦ up ∙ live.last
            | inl down ↦ absurd (elim ((fall (site (k + 1)) (known_at k s live.at)).1 down) [
              | inl still ↦ (let now = ends.up k s (record { at = live.at; up = live.up; last = still.1 ∙ live.last }) in let none = still.0 in let last = live.last in let some = st.some in omega (arith, now, none, last, some))
              | inr later ↦ (let most = ends.follows k s live.at in let last = live.last in omega (arith, later, most, last))
            ])
          ]

      abbrev Now : Turn Sequencer → List (List (List Letter))
      Now a = fold (post 1 0 clock) base a.outs

      steps_mid : (a b : Turn Sequencer) → Steps w from letter first a b → Ends (so_far b) → Mid w sites (so_far a) (fold (post 1 0 clock) base a.outs) → Mid w sites (so_far b) (fold (post 1 0 clock) base b.outs)
      steps_mid a b done ends mid = mid
      steps_mid a b (placed ask e p goes why rest) ends mid = steps_mid (place w ask a e) b rest ends after
        where
          h : List Entry
          h = a.state.history

          fall_after : (s : Site) → knows_site w s ≡ true → Fall (add (so_far a) e) (so_far b) s
          fall_after s known = subst (λ z. Fall z (so_far b) s) (noted_push h e) (steps_fall (place w ask a e) b rest (subst (λ z. length (vector w z) ≡ w.sites) (sym (noted_push h e)) (sized_push w (so_far a) e mid.vectors)) s known)

          fall_before : (s : Site) → knows_site w s ≡ true → Fall (so_far a) (so_far b) s
          fall_before s known = fall_on (so_far a) (add (so_far a) e) (so_far b) s (one_fall (so_far a) e mid.vectors why s known) (fall_after s known)

          one : Mid w sites (add (so_far a) e) (fold (post 1 0 clock) (Now a) (rows.sends w (add (so_far a) e) ask e))
          one = placed_mid w sites long held (λ k low. counted 1 w.sites (k + 1) (omega arith) (omega (arith, low))) from letter first told h (Now a) clock ask e p mid goes why
              (alive (so_far a) (so_far b) mid.stand fall_before ends) (alive (add (so_far a) e) (so_far b) (stand_now w sites long from letter first h (Now a) clock ask e mid goes why) fall_after ends)

          after : Mid w sites (so_far (place w ask a e)) (fold (post 1 0 clock) base (place w ask a e).outs)
          after = subst (Mid w sites (so_far (place w ask a e))) (sym (fold-append (post 1 0 clock) base a.outs (rows.sends w (so_far (place w ask a e)) ask e)))
              (subst (λ z. Mid w sites z (fold (post 1 0 clock) (Now a) (rows.sends w z ask e))) (sym (noted_push h e)) one)
      steps_mid a b (renews {next = next} due same more all rest) ends mid =
          steps_mid next b rest ends
          (subst (λ h. Mid w sites (noted h) (fold (post 1 0 clock) base next.outs)) (sym same)
          (subst (λ outs. Mid w sites (so_far a) (fold (post 1 0 clock) base outs)) (sym more)
          (subst (Mid w sites (so_far a)) (sym (fold-append (post 1 0 clock) base a.outs (map (rows.copy_out (vector w (so_far a))) due)))
          (sent_mid w sites long held a.state.history (Now a) clock (map (rows.copy_out (vector w (so_far a))) due) mid (due_goes w (so_far a) due all)))))
      steps_mid a b (counts {next = next} n same more rest) ends mid =
          steps_mid next b rest ends
          (subst (λ h. Mid w sites (noted h) (fold (post 1 0 clock) base next.outs)) (sym same)
          (subst (λ outs. Mid w sites (so_far a) (fold (post 1 0 clock) base outs)) (sym more)
          (subst (Mid w sites (so_far a)) (sym (fold-append (post 1 0 clock) base a.outs ((0, 0, letters.Ends n) ∷ [])))
          (sent_mid w sites long held a.state.history (Now a) clock ((0, 0, letters.Ends n) ∷ []) mid (count_goes w (so_far a) n)))))
      steps_mid a b (passes {next = next} same more rest) ends mid =
          steps_mid next b rest ends (subst (λ h. Mid w sites (noted h) (fold (post 1 0 clock) base next.outs)) (sym same) (subst (λ outs. Mid w sites (so_far a) (fold (post 1 0 clock) base outs)) (sym more) mid))

  -- who owes an Ack is up
  abbrev pub OwersAreUp : List Noted → Type 0
  OwersAreUp p = (k : ℕ) → k < w.sites → (t : Txn) → owes p (site (k + 1)) t ≡ true → 1 ≤ session (vector w p) (site (k + 1))

  -- the whole step
  module _ (state : World) (knows : Known w state) (owers : OwersAreUp (noted state.servers.sequencer.history)) (last : HaveLastVersions state) (from clock : ℕ) (letter : Letter) (rest : List Letter) (front : link state.links 1 from ≡ letter ∷ rest) where
    abbrev p : List Noted
    p = noted state.servers.sequencer.history

    abbrev base : List (List (List Letter))
    base = set_link state.links 1 from rest

    low_from : from < w.sites + 2
    low_from = from_below (w.sites + 2) state.links 1 from letter rest knows.says.reached.square front

    known_place : (k : ℕ) → k < w.sites → knows_site w (site (k + 1)) ≡ true
    known_place k low = number_known w k (omega (arith, low))

    inside : (k : ℕ) (s : SiteState) → slice_get state.servers.sites k ≡ Some s → k < w.sites
    inside k s at = (let b = get_below state.servers.sites k s at in let l = knows.says.reached.long in omega (arith, b, l))

    -- the letter is taken
    notes_are : (k : ℕ) → link base (k + 2) 1 ≡ link state.links (k + 2) 1 ++ []
    notes_are k = set_server state.links 1 from (k + 2) 1 rest (λ q. omega (arith, q)) ∙ sym (append-nil (link state.links (k + 2) 1))

    asks_are : (k : ℕ) → (link base 1 (k + 2) ≡ link state.links 1 (k + 2)) ⊎ ((l : Letter) × (link state.links 1 (k + 2) ≡ l ∷ link base 1 (k + 2)))
    asks_are k = elim (same_or_not (k + 2) from) [
      | inl of ↦ inr (letter, ap (link state.links 1) of ∙ front ∙ ap (λ ls. letter ∷ ls) (sym (ap (link base 1) of ∙ set_here (w.sites + 2) state.links 1 from rest knows.says.reached.square (omega arith) low_from)))
      | inr differ ↦ inl (set_others state.links 1 from 1 (k + 2) rest differ)
    ]

    taken_grows : Grows w.sites p p (length p + 1) state.servers.sites state.links base (λ k. [])
    taken_grows = record {
      written = λ x n old. old;
      by = λ t x n done wrote. wrote;
      committed = λ t old. old;
      below = λ x v is. (let low = version_long state.servers.sequencer.history x v is in omega (arith, low));
      inside = inside;
      live = λ k s live. was live;
      alike = λ k low x. all_alike p p x (λ n. refl) (link state.links (k + 2) 1);
      only = λ k low. tt;
      notes = λ k low. notes_are k;
      asks = asks_are;
      peers = λ k j. set_server state.links 1 from (k + 2) (j + 2) rest (λ q. omega (arith, q));
    }

    taken : LastVersions p state.servers.sites base
    taken = grown w.sites p p (length p + 1) state.servers.sites state.links base (λ k. []) taken_grows last (record {
      unlocked = last.unlocked;
      kept = λ k s live x c has. subst (IsKeptUp p (site (k + 1)) x s.session c.version) (sym (append-nil (link state.links (k + 2) 1))) (last.kept k s live x c has);
      owed = λ k s live. subst (AllByRecursion (λ (l : Letter). (l.to == s.session) ≡ true → ApplyOwed p (site (k + 1)) l.message)) (sym (append-nil (link state.links (k + 2) 1))) (last.owed k s live);
      sends = λ k s live x c has. tt;
    })

    says_note : (k : ℕ) → AllByRecursion (λ (l : Letter). NoteSays w p (site (k + 1)) l.to l.message) (link state.links (k + 2) 1)
    says_note k = subst (λ z. AllByRecursion (λ (l : Letter). NoteSays w p (site z) l.to l.message) (link state.links (k + 2) 1)) (let e : k + 2 - 1 ≡ k + 1 = omega arith in e) (knows.says.says (k + 2) 1)

    applied : (k : ℕ) → k < w.sites → AllByRecursion (λ (l : Letter). ApplySays p (site (k + 1)) l.message) (link base (k + 2) 1)
    applied k low = subst (AllByRecursion (λ (l : Letter). ApplySays p (site (k + 1)) l.message)) (sym (set_server state.links 1 from (k + 2) 1 rest (λ q. omega (arith, q))))
        (all_weaken (λ (l : Letter). NoteSays w p (site (k + 1)) l.to l.message) (λ (l : Letter). ApplySays p (site (k + 1)) l.message) (link state.links (k + 2) 1) (λ l h. go l.to l.message h) (says_note k))
      where
        go : (to : ℕ) (m : Message) → NoteSays w p (site (k + 1)) to m → ApplySays p (site (k + 1)) m
        go to (letters.Apply t n) h = h
        go to other h = tt

    past : (k : ℕ) → k < w.sites → AllByRecursion (λ (l : Letter). l.to ≤ last_session p (site (k + 1))) (link base (k + 2) 1)
    past k low = subst (AllByRecursion (λ (l : Letter). l.to ≤ last_session p (site (k + 1)))) (sym (set_server state.links 1 from (k + 2) 1 rest (λ q. omega (arith, q))))
        (all_weaken (IsHeard w (last_of state.servers.sequencer.history) k) (λ (l : Letter). l.to ≤ last_session p (site (k + 1))) (link state.links (k + 2) 1) (λ l h. h.0) (knows.says.reached.heard k low))

    stand : (k : ℕ) → k < w.sites → Stands (session (vector w p) (site (k + 1))) (last_session p (site (k + 1)))
    stand k low = (let a = knows.says.reached.ledger.accounts (site (k + 1)) (known_place k low) in record { some = a.first; so = elim a.gone [ inl q ↦ inl q.0 | inr q ↦ inr q.0 ] })

    begins : Mid w state.servers.sites p base
    begins = record { square = set_square (w.sites + 2) state.links 1 from rest knows.says.reached.square; last = taken; applied = applied; past = past; vectors = knows.says.reached.ledger.long; stand = stand; owers = owers }

    -- what the letter says
    told : IsTold w state.servers.sites from letter p
    told k s of at = (subst (AllByRecursion (λ (l : Letter). Told p s l.message)) (ap (link state.links 1) (sym of) ∙ front) (last.told k s at)).0

    pub opens : IsOpening w from letter p
    opens k of hello =
        let l = knows.says.reached.long in
        let low = low_from in
        let own = get_known state.servers.sites k (omega (arith, low, of, l)) in
        let asked = front_asked w state knows.says.reached k own.0 own.1 letter rest (ap (link state.links 1) (sym of) ∙ front) ∙ ap (λ b. if b then last_session p (site (k + 1)) + 1 else last_session p (site (k + 1))) (ap is_hello hello) in
        omega (arith, asked)

    pub known : IsKnown w from letter p
    known k of = number_known w k (let low = low_from in omega (arith, low, of))

    abbrev turn : Turn Sequencer
    turn = hear_sequencer w state.servers.sequencer from letter

    -- the world after it
    abbrev later : World
    later = take_front w state 1 from (letter ∷ rest)

    later_reached : Reached w later
    later_reached = front_reached w state 1 from (letter ∷ rest) front knows.says.reached

    pub sequencer_mid : Mid w state.servers.sites (noted (hear_sequencer w state.servers.sequencer from letter).state.history) (moved state.links 1 from 0 clock rest (hear_sequencer w state.servers.sequencer from letter).outs)
    sequencer_mid =
        steps_mid from letter p state.servers.sites knows.says.reached.long knows.held told base clock (opened state.servers.sequencer) turn
        (hear_steps w from letter p opens known state.servers.sequencer from refl refl knows.says.reached.placed knows.says.reached.quiet)
        (record { follows = λ k s at. told_follows w later later_reached k s at; up = λ k s live. told_up w later later_reached k s live.at live.up live.last }) begins

  -- the sequencer's step keeps the last versions
  pub sequencer_versions : (state : World) → Known w state → OwersAreUp (noted state.servers.sequencer.history) → HaveLastVersions state → (from clock : ℕ) (letter : Letter) (rest : List Letter) → link state.links 1 from ≡ letter ∷ rest →
      LastVersions (noted (hear_sequencer w state.servers.sequencer from letter).state.history) state.servers.sites (moved state.links 1 from 0 clock rest (hear_sequencer w state.servers.sequencer from letter).outs)
      × OwersAreUp (noted (hear_sequencer w state.servers.sequencer from letter).state.history)
  sequencer_versions state knows owers last from clock letter rest front = (let m = sequencer_mid state knows owers last from clock letter rest front in (m.last, m.owers))
