-- A site's step leaves the value of a read that was granted on its way, but for the letter that it takes: and what is to be read for another
-- home is sent there.
use Rattle.std.proofs.Common.{◌≡◌, ◌≢◌, ◌⊎◌, inl, inr, ℕ, suc, ◌+◌, ◌-◌, ◌<◌, ◌≤◌, ◌==◌, Bool, true, false, ◌&&◌, ◌||◌, List, [], ◌∷◌, ◌++◌, Option, Some, if◌then◌else◌, arith, sym, subst, ap, ◌∙◌, refl}
use Rattle.std.specs.Prelude.{slice_get, slice_set, is_some}
use Rattle.std.specs.List.{AllByRecursion, list_any}
use Rattle.std.specs.Option.{option_map_or}
use Rattle.std.proofs.lemmas.Bool.{and_from, and_parts, eqb-true, true≢false}
use Rattle.raid_base.specs.declared.names.Txn.{Txn}
use Rattle.raid_base.specs.declared.names.Item.{Item}
use Rattle.raid_base.specs.declared.names.Site.{Site}
use Rattle.raid_base.specs.declared.entry.Noted.{Noted}
use Rattle.raid_base.specs.Names.{is_txn, is_site}
use Rattle.raid_base.specs.Sites.{session, site}
use Rattle.raid_workload.specs.declared.workload.Workload.{Workload}
use Rattle.raid_workload.specs.Parts.{home}
use Rattle.raid_rules.specs.History.{noted}
use Rattle.raid_rules.specs.Sessions.{last_session}
use Rattle.raid_legal.specs.Seen.{vector}
use Rattle.raid_message.specs.declared.letter.Message.TheVariants as letters
use Rattle.raid_message.specs.declared.letter.Letter.{Letter}
use Rattle.raid_steps.specs.State.{Out, Turn, opened, Copy, SiteState}
use Rattle.raid_steps.specs.Copies.{copy_of, holds_copy}
use Rattle.raid_steps.specs.Fits.{knows_txn, knows_item, knows_site, is_of_sequencer}
use Rattle.raid_steps.specs.Programs.{give, ask_commits}
use Rattle.raid_steps.specs.Site.{hear_site, serve, fits_here}
use Rattle.raid_steps.specs.World.{World, link}
use Rattle.raid_steps.proofs.Parts.{home_known}
use Rattle.raid_sessions.proofs.Agreed.{told_follows}
use Rattle.raid_sessions.proofs.Ledger.{session_most}
use Rattle.raid_sessions.proofs.Lists.{get_below, some_is, is_same, same_self, within}
use Rattle.raid_sessions.proofs.Mail.{same_or_not, letter_of, letters_to, moved, moved_sent, moved_other}
use Rattle.raid_sessions.proofs.Reached.{from_below}
use Rattle.raid_moves.specs.Moves.{Hears, Tells}
use Rattle.raid_moves.proofs.Swept.{told_is}
use Rattle.raid_asks.proofs.Facts.{or_left}
use Rattle.raid_letters.specs.Says.{NoteSays, ReadDoSays}
use Rattle.raid_letters.proofs.Runs.{LetterSays}
use Rattle.raid_layers.specs.Asks.{asks_of, tells_server}
use Rattle.raid_witness.specs.Ended.{HasEnded}
use Rattle.raid_grants.specs.Grants.{reads_for, is_to_read, brings_value, note_comes, ValueComes, told, brought, ended}
use Rattle.raid_grants.proofs.Answers.{copy_held}
use Rattle.raid_grants.proofs.Facts.{any_new}
use Rattle.raid_grants.proofs.Links.{any_moved, ended_still, commits_extend, item_known}
use Rattle.raid_grants.proofs.Messages.{reads_is}
use Rattle.raid_grants.proofs.Standing.{sent_there, comes_still, Standing, waiting, granted, Below}

module _ (w : Workload) (world : World) (below : Below w world) (from clock : ℕ) (letter : Letter) (rest : List Letter) (j : ℕ) (state : SiteState) (at : slice_get world.servers.sites j ≡ Some state) (front : link world.links (suc (suc j)) from ≡ letter ∷ rest) where
  abbrev pub turn : Turn SiteState
  turn = hear_site w state from letter

  abbrev pub after : List (List (List Letter))
  after = moved world.links (suc (suc j)) from (hear_site w state from letter).state.session clock rest (hear_site w state from letter).outs

  abbrev pub others : List SiteState
  others = slice_set world.servers.sites j (hear_site w state from letter).state

  abbrev p : List Noted
  p = noted world.servers.sequencer.history

  abbrev links : List (List (List Letter))
  links = world.links

  low : j < w.sites
  low = (let b = get_below world.servers.sites j state at in let l = below.landed.holds.long in omega (arith, b, l))

  inside : suc (suc j) < w.sites + 2
  inside = (let b = low in omega (arith, b))

  known : from < w.sites + 2
  known = from_below (w.sites + 2) links (suc (suc j)) from letter rest below.landed.holds.square front

  follows : last_session p (site (j + 1)) ≤ state.session
  follows = told_follows w world below.landed.holds j state at

  pub place_is : state.site ≡ site (j + 1)
  place_is = (below.landed.homes j state at).place

  pub moved_or : (c d : ℕ) → c < w.sites + 2 → (test : Letter → Bool) → list_any test (link links c d) ≡ true → ((c ≡ suc (suc j)) × ((d ≡ from) × (test letter ≡ true))) ⊎ (list_any test (link after c d) ≡ true)
  moved_or c d room test q = any_moved (w.sites + 2) links (suc (suc j)) from turn.state.session clock letter rest turn.outs below.landed.holds.square inside known front c d room test q

  -- what the sequencer says there
  pub note : from ≡ 1 → NoteSays w p (site (j + 1)) letter.to letter.message
  note of =
      let says = (subst (AllByRecursion (LetterSays w p (suc (suc j)) from)) front (below.landed.says (suc (suc j)) from)).0 in
      subst (λ z. NoteSays w p z letter.to letter.message) (ap site (let e : suc (suc j) - 1 ≡ j + 1 = omega arith in e)) (subst (λ d. LetterSays w p (suc (suc j)) d letter) of says)

  -- it is told to read, in its session
  pub read_tells : (t : Txn) (ask : ℕ) (x : Item) (h : Site) (n : ℕ) → knows_txn w t ≡ true → from ≡ 1 → letter.message ≡ letters.ReadDo t ask x h n → Hears state letter → Tells w state from letter (letters.ReadDo t ask x h n) × ((holds_copy state x ≡ true) × (h ≡ home w t))
  read_tells t ask x h n known_txn of is hears = (record { heard = hears; by = of; is = is; fits = fits }, (held, says.of))
    where
      says : ReadDoSays w p (site (j + 1)) letter.to t ask x h n
      says = subst (NoteSays w p (site (j + 1)) letter.to) is (note of)

      held : holds_copy state x ≡ true
      held = below.known.held j state at x ∙ says.held

      fits : (is_of_sequencer w (letters.ReadDo t ask x h n) && fits_here w state (letters.ReadDo t ask x h n)) ≡ true
      fits = and_from (is_of_sequencer w (letters.ReadDo t ask x h n)) (holds_copy state x)
          (and_from (knows_txn w t && knows_item w x) (knows_site w h) (and_from (knows_txn w t) (knows_item w x) known_txn (item_known w (site (j + 1)) x says.held)) (subst (λ z. knows_site w z ≡ true) (sym says.of) (home_known w t known_txn))) held

  -- a session that has ended stays so
  pub ended_on : (s : Site) → knows_site w s ≡ true → HasEnded world.servers.sites s (session (vector w p) s) → HasEnded others s (session (vector w p) s)
  ended_on s is_known over = ended_still w p world.servers.sites j from state letter at follows s (session (vector w p) s) is_known (session_most w world.servers.sequencer.history s below.landed.holds.ledger is_known) over

  -- the value for another home, or for this
  pub comes_after : (k m : ℕ) (t : Txn) (ask : ℕ) (s : Site) → k < w.sites → knows_site w s ≡ true →
      (s.0 + 1 ≡ suc (suc j) → 1 ≡ from → is_to_read (session (vector w p) s) k m t ask letter ≡ true → ValueComes others after k m (session (vector w p) s) t ask s) →
      (k + 2 ≡ suc (suc j) → s.0 + 1 ≡ from → brings_value m t ask letter ≡ true → ValueComes others after k m (session (vector w p) s) t ask s) →
      ValueComes world.servers.sites links k m (session (vector w p) s) t ask s → ValueComes others after k m (session (vector w p) s) t ask s
  comes_after k m t ask s k_low is_known reads brings c =
      comes_still world.servers.sites others links after k m (session (vector w p) s) t ask s
      (λ e. elim (moved_or (s.0 + 1) 1 (let b = (within w.sites s.0 is_known).1 in omega (arith, b)) (is_to_read (session (vector w p) s) k m t ask) e) [ inl q ↦ reads q.0 q.1.0 q.1.1 | inr q ↦ told q ])
      (λ e. elim (moved_or (k + 2) (s.0 + 1) (omega (arith, k_low)) (brings_value m t ask) e) [ inl q ↦ brings q.0 q.1.0 q.1.1 | inr q ↦ brought q ])
      (λ e. ended (ended_on s is_known e)) c

  -- another home
  module _ (k : ℕ) (apart : k ≢ j) (other : SiteState) (there : slice_get world.servers.sites k ≡ Some other) (t : Txn) (mine : is_site (site (k + 1)) (home w t) ≡ true) (known_txn : knows_txn w t ≡ true) (ask m : ℕ) where
    k_low : k < w.sites
    k_low = (let b = get_below world.servers.sites k other there in let l = below.landed.holds.long in omega (arith, b, l))

    room : k + 2 < w.sites + 2
    room = (let b = k_low in omega (arith, b))

    read_there : (s : Site) → knows_site w s ≡ true → s.0 + 1 ≡ suc (suc j) → 1 ≡ from → is_to_read (session (vector w p) s) k m t ask letter ≡ true → ValueComes others after k m (session (vector w p) s) t ask s
    read_there s is_known place of q = by_up state.up refl
      where
        n : ℕ
        n = session (vector w p) s

        parts : ((letter.to == n) ≡ true) × (reads_for k m t ask letter.message ≡ true)
        parts = and_parts (letter.to == n) (reads_for k m t ask letter.message) q

        s_is : s ≡ site (j + 1)
        s_is = ap (λ i. let z : Site = record { 0 = i } in z) (omega (arith, place))

        its_own : (own : SiteState) → slice_get world.servers.sites (s.0 - 1) ≡ Some own → state ≡ own
        its_own own e = some_is state own (sym at ∙ ap (slice_get world.servers.sites) (let a : j ≡ s.0 - 1 = omega (arith, place) in a) ∙ e)

        past : session (vector w p) s ≤ state.session
        past = (let a = session_most w world.servers.sequencer.history s below.landed.holds.ledger is_known in let b = ap (last_session p) s_is in let f = follows in omega (arith, a, b, f))

        -- it is heard
        sent_so : state.up ≡ true → state.session ≡ session (vector w p) s → ValueComes others after k m (session (vector w p) s) t ask s
        sent_so up same = serves (reads_is t ask k m letter.message parts.1)
          where
            serves : (x : Item) × ((h : Site) × ((i : ℕ) × ((letter.message ≡ letters.ReadDo t ask x h i) × (((h.0 == k + 1) ≡ true) × ((i == m) ≡ true))))) → ValueComes others after k m (session (vector w p) s) t ask s
            serves (x, (h, (i, (is, (of_home, of_session))))) = brought (subst (λ ls. list_any (brings_value m t ask) ls ≡ true) (sym grown) (any_new (brings_value m t ask) (link links (k + 2) (s.0 + 1)) (letters_to (k + 2) turn.state.session clock turn.outs) new))
              where
                tells : Tells w state from letter (letters.ReadDo t ask x h i) × ((holds_copy state x ≡ true) × (h ≡ home w t))
                tells = read_tells t ask x h i known_txn (sym of) is (record { up = up; meant = is_same letter.to state.session (eqb-true letter.to n parts.0 ∙ sym same) })

                copy : (c : Copy) × (copy_of state x ≡ Some c)
                copy = copy_held state x tells.1.0

                out : Out
                out = (h.0 + 1, i, letters.Value t ask copy.0.value)

                sends : Turn SiteState
                sends = record { state = state; outs = out ∷ [] }

                elsewhere : is_site state.site h ≡ false
                elsewhere = ap (λ z. is_site z h) place_is ∙ differ h.0 of_home
                  where
                    differ : (a : ℕ) → (a == k + 1) ≡ true → (a == j + 1) ≡ false
                    differ a e = by (a == j + 1) refl
                      where
                        by : (b : Bool) → (a == j + 1) ≡ b → (a == j + 1) ≡ false
                        by true f = absurd (apart (let g = eqb-true a (k + 1) e in let i = eqb-true a (j + 1) f in omega (arith, g, i)))
                        by false f = f

                turn_is : turn ≡ ask_commits sends
                turn_is = told_is w state from letter (letters.ReadDo t ask x h i) tells.0 ∙ ap (λ o. ask_commits (option_map_or (serve w (opened state) t ask h i) o (opened state))) copy.1 ∙ ap (λ b. ask_commits (if b then give w (opened state) t ask copy.0.value else sends)) elsewhere

                more : (outs : List Out) × (turn.outs ≡ (out ∷ []) ++ outs)
                more = (let e = commits_extend sends in (e.0, ap (λ (z : Turn SiteState). z.outs) turn_is ∙ e.1))

                new : list_any (brings_value m t ask) (letters_to (k + 2) turn.state.session clock turn.outs) ≡ true
                new = subst (λ outs. list_any (brings_value m t ask) (letters_to (k + 2) turn.state.session clock outs) ≡ true) (sym more.1)
                    (sent_there (k + 2) turn.state.session clock (brings_value m t ask) (out ∷ more.0)
                    (or_left (out.0 == k + 2 && brings_value m t ask (letter_of turn.state.session clock out)) _
                    (and_from (h.0 + 1 == k + 2) (brings_value m t ask (letter_of turn.state.session clock out)) (is_same (h.0 + 1) (k + 2) (let e = eqb-true h.0 (k + 1) of_home in omega (arith, e)))
                    (and_from (i == m) (is_txn t t && ask == ask) of_session (and_from (is_txn t t) (ask == ask) (same_self t.0) (same_self ask))))))

                grown : link after (k + 2) (s.0 + 1) ≡ link links (k + 2) (s.0 + 1) ++ letters_to (k + 2) turn.state.session clock turn.outs
                grown = ap (link after (k + 2)) place ∙ moved_sent (w.sites + 2) links (suc (suc j)) from turn.state.session clock rest turn.outs below.landed.holds.square inside (k + 2) room (λ e. apart (omega (arith, e)))
                    ∙ ap (λ d. link links (k + 2) d ++ letters_to (k + 2) turn.state.session clock turn.outs) (sym place)

        by_up : (b : Bool) → state.up ≡ b → ValueComes others after k m (session (vector w p) s) t ask s
        by_up false down = ended (ended_on s is_known (λ own e u. absurd (true≢false (sym u ∙ ap (λ (z : SiteState). z.up) (sym (its_own own e)) ∙ down))))
        by_up true up = by_session (same_or_not state.session (session (vector w p) s))
          where
            less : (a b : ℕ) → a ≤ b → b ≢ a → a < b
            less a b le differ = strict (a == b) refl
              where
                strict : (c : Bool) → (a == b) ≡ c → a < b
                strict true e = absurd (differ (sym (eqb-true a b e)))
                strict false e = grind (arith, le, e)

            by_session : (state.session ≡ session (vector w p) s) ⊎ (state.session ≢ session (vector w p) s) → ValueComes others after k m (session (vector w p) s) t ask s
            by_session (inl same) = sent_so up same
            by_session (inr differ) = ended (ended_on s is_known (λ own e u. subst (λ (z : SiteState). n < z.session) (its_own own e) (less n state.session past differ)))

    -- what was granted there
    pub other_comes : (s : Site) → knows_site w s ≡ true → ValueComes world.servers.sites links k m (session (vector w p) s) t ask s → ValueComes others after k m (session (vector w p) s) t ask s
    other_comes s is_known c = comes_after k m t ask s k_low is_known (λ place of q. read_there s is_known place of q) (λ place of q. absurd (apart (omega (arith, place)))) c

    asks_other : link after 1 (k + 2) ≡ link links 1 (k + 2)
    asks_other = moved_other (w.sites + 2) links (suc (suc j)) from turn.state.session clock rest turn.outs below.landed.holds.square inside 1 (k + 2) (omega arith) (λ e. apart (omega (arith, e))) (inl (λ e. omega (arith, e)))

    notes_other : link after (k + 2) 1 ≡ link links (k + 2) 1
    notes_other = moved_other (w.sites + 2) links (suc (suc j)) from turn.state.session clock rest turn.outs below.landed.holds.square inside (k + 2) 1 room (λ e. omega (arith, e)) (inl (λ e. apart (omega (arith, e))))

    pub other_stands : (x : Item) (o : Option Site) → Standing w p world.servers.sites links k m t ask x o (asks_of t (link links 1 (k + 2))) → Standing w p others after k m t ask x o (asks_of t (link after 1 (k + 2)))
    other_stands x o (waiting few) = waiting few
    other_stands x o (granted none count u) = granted (ap (asks_of t) asks_other ∙ none) count (record {
      read = u.read;
      server = u.server;
      last = u.last;
      is = u.is;
      known = u.known;
      up = u.up;
      comes = λ up. other_comes u.server u.known (u.comes up);
      falls = λ fell. subst (λ ls. note_comes m t ask u.server (is_some o) ls ≡ true) (sym notes_other) (u.falls fell);
      serves = subst (λ ls. (is_site u.server (site (k + 1)) || (is_some o || list_any (tells_server t m ask) ls)) ≡ true) (sym notes_other) u.serves;
    })
