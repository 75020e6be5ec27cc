-- The sequencer's step leaves programs standing: what it grants is on its way, and what was granted stays so.
use Rattle.std.proofs.Common.{◌≡◌, ◌≢◌, ◌⊎◌, inl, inr, ℕ, suc, ◌+◌, ◌-◌, ◌<◌, ◌≤◌, ◌==◌, nat_lt, Bool, true, false, ◌&&◌, ◌||◌, List, [], ◌∷◌, ◌++◌, length, length-append, Option, Some, None, if◌then◌else◌, arith, sym, subst, ap, ◌∙◌, refl, append-nil}
use Rattle.std.specs.Prelude.{slice_get, is_some}
use Rattle.std.specs.List.{AllByRecursion, list_any}
use Rattle.std.proofs.lemmas.Bool.{and_from, eqb-true, true≢false}
use Rattle.raid_base.specs.declared.names.Txn.{Txn}
use Rattle.raid_base.specs.declared.names.Item.{Item}
use Rattle.raid_base.specs.declared.names.Site.{Site}
use Rattle.raid_base.specs.declared.entry.Entry.TheVariants.{Read}
use Rattle.raid_base.specs.declared.entry.Noted.{Noted}
use Rattle.raid_base.specs.Names.{is_txn, is_site}
use Rattle.raid_base.specs.Sites.{session, site}
use Rattle.raid_workload.specs.declared.workload.Workload.{Workload}
use Rattle.raid_workload.specs.Parts.{home}
use Rattle.raid_rules.specs.Entries.{is_down, is_end_of}
use Rattle.raid_rules.specs.History.{noted, next, has_ended}
use Rattle.raid_rules.specs.Sessions.{last_session}
use Rattle.raid_rules.proofs.Push.{noted_push, vector_push}
use Rattle.raid_legal.specs.Seen.{vector, is_up, has_down_after}
use Rattle.raid_legal.specs.Legal.{last_read}
use Rattle.raid_message.specs.declared.letter.Message.{Message}
use Rattle.raid_message.specs.declared.letter.Message.TheVariants as letters
use Rattle.raid_message.specs.declared.letter.Letter.{Letter}
use Rattle.raid_steps.specs.State.{Out, Turn, Sequencer, opened, to_site, asking, Running, SiteState}
use Rattle.raid_steps.specs.Fits.{knows_site}
use Rattle.raid_steps.specs.Programs.{running_of}
use Rattle.raid_steps.specs.Sequencer.{so_far, place, finish, hear_sequencer}
use Rattle.raid_steps.specs.World.{World, link}
use Rattle.raid_placed.specs.Placed.{Placed}
use Rattle.raid_sessions.proofs.Agreed.{told_up}
use Rattle.raid_sessions.proofs.Holds.{Holds}
use Rattle.raid_sessions.proofs.Lists.{is_same, same_self, within}
use Rattle.raid_sessions.proofs.Mail.{same_or_not, letter_of, letters_to, moved, moved_taken, moved_sent, moved_other}
use Rattle.raid_sessions.proofs.Reached.{from_below}
use Rattle.raid_moves.proofs.Places.{program_of, all_found, found_txn, nothing}
use Rattle.raid_asks.specs.Way.{begins_of as begins}
use Rattle.raid_asks.proofs.Cares.{Stage, stopped, asleep, fresh, awake}
use Rattle.raid_asks.proofs.Facts.{or_left, or_right, placed_order}
use Rattle.raid_asks.proofs.Least.{Ours}
use Rattle.raid_letters.specs.Says.{AskSays}
use Rattle.raid_letters.proofs.Runs.{LetterSays}
use Rattle.raid_layers.specs.Asks.{ask_of, asks_of, tells_server, Outstanding, asked, dropped, read, IsAbout, Talks}
use Rattle.raid_layers.proofs.Histories.{any_same, any_kept, read_push, last_within}
use Rattle.raid_layers.proofs.Tokens.{IsAskOf, asked_home}
use Rattle.raid_versions.proofs.Mid.{last_push}
use Rattle.raid_vectors.proofs.Along.{sent, steps_keep, finish_keep}
use Rattle.raid_vectors.proofs.Runs.{low_at, some_at, heard_by_steps}
use Rattle.raid_witness.specs.Ended.{count_reads}
use Rattle.raid_grants.specs.Grants.{reads_for, is_to_read, brings_value, ValueComes, told, brought, ended, IsUnderWay}
use Rattle.raid_grants.proofs.Entries.{Mid, some_session, entries_keep, copies_keep}
use Rattle.raid_grants.proofs.Facts.{any_on, any_new, count_push, Same}
use Rattle.raid_grants.proofs.Reading.{finish_same, unread, Came, unanswered, granted_at, came_from, Taking, takes, takes_not, taking}
use Rattle.raid_grants.proofs.Standing.{sent_there, comes_still, Standing, waiting, granted, StandAll, Below, under}

-- no entry of a history has a number past its length
none_past : (n : ℕ) (s : Site) (p : List Noted) → AllByRecursion (λ (z : Noted). z.at ≤ n) p → list_any (λ (z : Noted). nat_lt (n + 1) z.at && is_down (is_site s) z.entry) p ≡ false
none_past n s [] a = refl
none_past n s (z ∷ p) a = ap (λ b. (b && is_down (is_site s) z.entry) || list_any (λ (z : Noted). nat_lt (n + 1) z.at && is_down (is_site s) z.entry) p) (over z.at a.0) ∙ none_past n s p a.1
  where
    over : (i : ℕ) → i ≤ n → nat_lt (n + 1) i ≡ false
    over i q = grind (arith, q)

module _ (w : Workload) (world : World) (below : Below w world) (from clock : ℕ) (letter : Letter) (rest : List Letter) (front : link world.links 1 from ≡ letter ∷ rest) where
  abbrev links : List (List (List Letter))
  links = world.links

  abbrev st : Sequencer
  st = world.servers.sequencer

  abbrev p : List Noted
  p = noted world.servers.sequencer.history

  abbrev turn : Turn Sequencer
  turn = hear_sequencer w world.servers.sequencer from letter

  abbrev q : List Noted
  q = noted (hear_sequencer w world.servers.sequencer from letter).state.history

  abbrev after : List (List (List Letter))
  after = moved world.links 1 from 0 clock rest (hear_sequencer w world.servers.sequencer from letter).outs

  abbrev next_world : World
  next_world = record { servers = record (world.servers) { sequencer = (hear_sequencer w world.servers.sequencer from letter).state }; links = after; clocks = []; journals = [] }

  known_from : from < w.sites + 2
  known_from = from_below (w.sites + 2) links 1 from letter rest below.landed.holds.square front

  grown : (c : ℕ) → c < w.sites + 2 → c ≢ 1 → link after c 1 ≡ link links c 1 ++ letters_to c 0 clock turn.outs
  grown c room other = moved_sent (w.sites + 2) links 1 from 0 clock rest turn.outs below.landed.holds.square (omega arith) c room other

  module _ (after_holds : Holds w (record (world.servers) { sequencer = (hear_sequencer w world.servers.sequencer from letter).state }) after) (k : ℕ) (state : SiteState) (at : slice_get world.servers.sites k ≡ Some state) (up : state.up ≡ true)
      (last_before : last_session p (site (k + 1)) ≡ state.session) (last_after : last_session q (site (k + 1)) ≡ state.session) (t : Txn) (r : Running) (found : running_of state t ≡ Some r) (ask : ℕ) (x : Item) (o : Option Site) (phase : r.phase ≡ asking ask x o) where
    abbrev m : ℕ
    m = state.session

    low : k < w.sites
    low = low_at w world below.known k state at

    some : 1 ≤ state.session
    some = some_at w world below.known k state at

    here_after : session (vector w q) (site (k + 1)) ≡ m
    here_after = told_up w next_world after_holds k state at up last_after

    here_before : session (vector w p) (site (k + 1)) ≡ m
    here_before = told_up w world below.landed.holds k state at up last_before

    notes_after : link after (k + 2) 1 ≡ link links (k + 2) 1 ++ letters_to (k + 2) 0 clock turn.outs
    notes_after = grown (k + 2) (let b = low in omega (arith, b)) (λ e. omega (arith, e))

    mine : is_site (site (k + 1)) (home w t) ≡ true
    mine = subst (λ z. is_site (site (k + 1)) (home w z) ≡ true) (found_txn t state.running r found) ours.at
      where
        ours : Ours w (site (k + 1)) r.txn
        ours = all_found (λ (z : Running). Ours w (site (k + 1)) z.txn) (λ (z : Running). is_txn t z.txn) state.running r (below.landed.homes k state at).running found

    -- what comes from the site stays on its way
    comes_on : (n : ℕ) (s : Site) → knows_site w s ≡ true → ValueComes world.servers.sites links k m n t ask s → ValueComes world.servers.sites after k m n t ask s
    comes_on n s is_known c =
        comes_still world.servers.sites world.servers.sites links after k m n t ask s
        (λ e. told (subst (λ ls. list_any (is_to_read n k m t ask) ls ≡ true) (sym (grown (s.0 + 1) (let b = bounds in omega (arith, b.1)) (let b = bounds in λ e. omega (arith, b.0, e)))) (any_on (is_to_read n k m t ask) (link links (s.0 + 1) 1) (letters_to (s.0 + 1) 0 clock turn.outs) e)))
        (λ e. brought (subst (λ ls. list_any (brings_value m t ask) ls ≡ true) (sym (moved_other (w.sites + 2) links 1 from 0 clock rest turn.outs below.landed.holds.square (omega arith) (k + 2) (s.0 + 1) (let b = low in omega (arith, b)) (let b = bounds in λ e. omega (arith, b.0, e)) (inl (λ e. omega (arith, e))))) e))
        (λ e. ended e) c
      where
        bounds : (1 ≤ s.0) × (s.0 ≤ w.sites)
        bounds = within w.sites s.0 is_known

    -- nothing of it was asked: what was granted is on its way still
    module _ (same : Same p q t) where
      asks_less : asks_of t (link links 1 (k + 2)) ≡ [] → asks_of t (link after 1 (k + 2)) ≡ []
      asks_less none = go (same_or_not from (k + 2))
        where
          tail : (xs ys : List Message) → xs ++ ys ≡ [] → ys ≡ []
          tail [] ys e = e
          tail (z ∷ xs) ys e = absurd (cc e)

          go : (from ≡ k + 2) ⊎ (from ≢ k + 2) → asks_of t (link after 1 (k + 2)) ≡ []
          go (inl of) =
              let gone = ap (link after 1) (sym of) ∙ moved_taken (w.sites + 2) links 1 from 0 clock rest turn.outs below.landed.holds.square (omega arith) known_from (λ e. omega (arith, e, of)) in
              ap (asks_of t) gone ∙ tail (ask_of t letter.message) (asks_of t rest) (sym (ap (asks_of t) (ap (link links 1) (sym of) ∙ front)) ∙ none)
          go (inr other) = ap (asks_of t) (moved_other (w.sites + 2) links 1 from 0 clock rest turn.outs below.landed.holds.square (omega arith) 1 (k + 2) (omega arith) (λ e. omega (arith, e)) (inr (λ e. other (sym e)))) ∙ none

      module _ (u : IsUnderWay w p world.servers.sites links k m t ask x o) where
        -- in the session in which the site was
        in_session : (of : ℕ) (fallen : Bool) → has_down_after p u.read.at u.server ≡ fallen → 1 ≤ of → (fallen ≡ false → session (vector w p) u.server ≡ of) → IsUnderWay w q world.servers.sites after k m t ask x o
        in_session of fallen is lives stays =
            under w q world.servers.sites after k m t ask x o u.read u.server of fallen (same.last ∙ u.last) u.is u.known lives here_after (subst (M q) (sym notes_after) ends)
            (λ up. comes_on of u.server u.known (before fallen is stays (λ e. true≢false (sym (ends.more e) ∙ up))))
          where
            M : List Noted → List Letter → Type 0
            M h notes = Mid w k m t ask u.server u.read.at of (is_some o) fallen h notes

            within_p : u.read.at ≤ length p
            within_p = last_within (length p) t p (placed_order w st.history below.landed.holds.placed).numbered u.read u.last

            starts : M p (link links (k + 2) 1 ++ [])
            starts = subst (M p) (sym (append-nil (link links (k + 2) 1))) (record {
              long = below.landed.holds.ledger.long;
              numbers = within_p;
              most = omega (arith, last_before);
              stays = λ up. stays (sym is ∙ up);
              falls = λ here fell. u.falls fell;
              serves = u.serves;
              more = λ e. is ∙ e;
            })

            ends : M q (link links (k + 2) 1 ++ letters_to (k + 2) 0 clock turn.outs)
            ends =
                steps_keep w from letter p k clock (Mid w k m t ask u.server u.read.at of (is_some o) fallen) (link links (k + 2) 1) (entries_keep w k m t ask u.server u.read.at of (is_some o) fallen from clock letter p low some lives u.known)
                (copies_keep w k m t ask u.server u.read.at of (is_some o) fallen from clock letter p low some lives u.known) (opened st) turn (heard_by_steps w world below.known from clock letter rest front) starts

            before : (b : Bool) → has_down_after p u.read.at u.server ≡ b → (b ≡ false → session (vector w p) u.server ≡ of) → (b ≡ true → ⊥) → ValueComes world.servers.sites links k m of t ask u.server
            before true e stays never = absurd (never refl)
            before false e stays never = subst (λ z. ValueComes world.servers.sites links k m z t ask u.server) (stays refl) (u.comes e)

        still_under : IsUnderWay w q world.servers.sites after k m t ask x o
        still_under = go (has_down_after p u.read.at u.server) refl
          where
            go : (b : Bool) → has_down_after p u.read.at u.server ≡ b → IsUnderWay w q world.servers.sites after k m t ask x o
            go true e = in_session 1 true e (omega arith) (λ f. absurd (true≢false f))
            go false e = in_session (session (vector w p) u.server) false e (some_session (session (vector w p) u.server) (u.up e)) (λ f. refl)

      pub stands_on : Standing w p world.servers.sites links k m t ask x o (asks_of t (link links 1 (k + 2))) → Standing w q world.servers.sites after k m t ask x o (asks_of t (link after 1 (k + 2)))
      stands_on (waiting few) = waiting (let c = same.count in omega (arith, few, c))
      stands_on (granted none count u) = granted (asks_less none) (same.count ∙ count) (still_under u)

    -- its ask is granted
    module _ (s : Site) (is_known : knows_site w s ≡ true) (is_there : is_up w p s ≡ true) (placed : Placed w (st.history ++ Read t x s ∷ [])) (is : turn ≡ finish w st (place w ask (opened st) (Read t x s))) where
      abbrev b : Turn Sequencer
      b = place w ask (opened st) (Read t x s)

      abbrev n : Noted
      n = next p (Read t x s)

      abbrev of : ℕ
      of = session (vector w p) s

      abbrev M : List Noted → List Letter → Type 0
      M h notes = Mid w k m t ask s (length p + 1) of false false h notes

      lives : 1 ≤ session (vector w p) s
      lives = some_session (session (vector w p) s) is_there

      vectors : vector w (so_far b) ≡ vector w p
      vectors = ap (vector w) (noted_push st.history (Read t x s)) ∙ vector_push w.sites p n

      lasts : last_session (so_far b) (site (k + 1)) ≡ last_session p (site (k + 1))
      lasts = ap (λ z. last_session z (site (k + 1))) (noted_push st.history (Read t x s)) ∙ last_push p (Read t x s) (site (k + 1))

      home_is : home w t ≡ site (k + 1)
      home_is = ap (λ i. let z : Site = record { 0 = i } in z) (eqb-true (home w t).0 (k + 1) mine)

      home_session : session (vector w (so_far b)) (home w t) ≡ m
      home_session = ap (session (vector w (so_far b))) home_is ∙ ap (λ v. session v (site (k + 1))) vectors ∙ here_before

      undowned : has_down_after (so_far b) (length p + 1) s ≡ false
      undowned = ap (λ z. has_down_after z (length p + 1) s) (noted_push st.history (Read t x s)) ∙ any_same (λ (z : Noted). nat_lt (length p + 1) z.at && is_down (is_site s) z.entry) p n (no (nat_lt (length p + 1) n.at)) ∙ none_past (length p) s p (placed_order w st.history below.landed.holds.placed).numbered
        where
          no : (c : Bool) → (c && false) ≡ false
          no true = refl
          no false = refl

      abbrev read_do : Out
      read_do = to_site (vector w (so_far b)) s (letters.ReadDo t ask x (home w t) (session (vector w (so_far b)) (home w t)))

      abbrev serving_out : Out
      serving_out = to_site (vector w (so_far b)) (home w t) (letters.Serving t ask s)

      serves_told : is_site s (home w t) ≡ false → list_any (λ (out : Out). out.0 == k + 2 && tells_server t m ask (letter_of 0 clock out)) b.outs ≡ true
      serves_told other =
          subst (λ (c : Bool). list_any tests (read_do ∷ (if c then [] else serving_out ∷ [])) ≡ true) (sym other)
          (or_right (tests read_do) (list_any tests (serving_out ∷ []))
          (or_left (tests serving_out) false
          (and_from ((home w t).0 + 1 == k + 2) (tells_server t m ask (letter_of 0 clock serving_out)) (is_same ((home w t).0 + 1) (k + 2) (let e = ap (λ (z : Site). z.0) home_is in omega (arith, e)))
          (and_from (session (vector w (so_far b)) (home w t) == m) (is_txn t t && ask == ask) (is_same (session (vector w (so_far b)) (home w t)) m home_session) (and_from (is_txn t t) (ask == ask) (same_self t.0) (same_self ask))))))
        where
          tests : Out → Bool
          tests out = out.0 == k + 2 && tells_server t m ask (letter_of 0 clock out)

      start : M (so_far b) (link links (k + 2) 1 ++ letters_to (k + 2) 0 clock b.outs)
      start = record {
        long = ap length vectors ∙ below.landed.holds.ledger.long;
        numbers = (let l = ap length (noted_push st.history (Read t x s)) ∙ length-append p (n ∷ []) in omega (arith, l));
        most = (let l = lasts in omega (arith, l, last_before));
        stays = λ up. ap (λ v. session v s) vectors;
        falls = λ here fell. absurd (true≢false (sym fell ∙ undowned));
        serves = by (is_site s (site (k + 1))) refl;
        more = λ e. absurd (true≢false (sym e));
      }
        where
          by : (c : Bool) → is_site s (site (k + 1)) ≡ c → (is_site s (site (k + 1)) || (false || list_any (tells_server t m ask) (link links (k + 2) 1 ++ letters_to (k + 2) 0 clock b.outs))) ≡ true
          by true e = or_left (is_site s (site (k + 1))) (list_any (tells_server t m ask) (link links (k + 2) 1 ++ letters_to (k + 2) 0 clock b.outs)) e
          by false e =
              or_right (is_site s (site (k + 1))) (list_any (tells_server t m ask) (link links (k + 2) 1 ++ letters_to (k + 2) 0 clock b.outs))
              (any_new (tells_server t m ask) (link links (k + 2) 1) (letters_to (k + 2) 0 clock b.outs) (sent_there (k + 2) 0 clock (tells_server t m ask) b.outs (serves_told (ap (is_site s) home_is ∙ e))))

      its_mid : M q (link links (k + 2) 1 ++ letters_to (k + 2) 0 clock turn.outs)
      its_mid =
          subst (λ (z : Turn Sequencer). M (so_far z) (link links (k + 2) 1 ++ letters_to (k + 2) 0 clock z.outs)) (sym is)
          (finish_keep w from letter p k clock (Mid w k m t ask s (length p + 1) of false false) (link links (k + 2) 1) (entries_keep w k m t ask s (length p + 1) of false false from clock letter p low some lives is_known)
          (copies_keep w k m t ask s (length p + 1) of false false from clock letter p low some lives is_known) st b placed start)

      bounds : (1 ≤ s.0) × (s.0 ≤ w.sites)
      bounds = within w.sites s.0 is_known

      abbrev test : Letter → Bool
      test l = is_to_read of k m t ask l

      read_told : list_any test (letters_to (s.0 + 1) 0 clock turn.outs) ≡ true
      read_told =
          subst (λ c. list_any test (letters_to c 0 clock turn.outs) ≡ true) (let z = bounds.0 in omega (arith, z))
          (subst (λ (z : Turn Sequencer). list_any test (letters_to (s.0 - 1 + 2) 0 clock z.outs) ≡ true) (sym is)
          (finish_keep w from letter p (s.0 - 1) clock (λ h ls. list_any test ls ≡ true) [] (λ h e ask_too ok goes why notes j. any_on test notes (sent w from letter p (s.0 - 1) clock (noted (h ++ e ∷ [])) ask_too e) j)
          (λ h due notes j. any_on test notes _ j) st b placed first))
        where
          first : list_any test (letters_to (s.0 - 1 + 2) 0 clock b.outs) ≡ true
          first = sent_there (s.0 - 1 + 2) 0 clock test b.outs
              (or_left (read_do.0 == s.0 - 1 + 2 && test (letter_of 0 clock read_do)) _
              (and_from (s.0 + 1 == s.0 - 1 + 2) (test (letter_of 0 clock read_do)) (is_same (s.0 + 1) (s.0 - 1 + 2) (let z = bounds.0 in omega (arith, z)))
              (and_from (session (vector w (so_far b)) s == of) (reads_for k m t ask read_do.2) (is_same (session (vector w (so_far b)) s) of (ap (λ v. session v s) vectors))
              (and_from (is_txn t t) (ask == ask && ((home w t).0 == k + 1 && session (vector w (so_far b)) (home w t) == m)) (same_self t.0)
              (and_from (ask == ask) ((home w t).0 == k + 1 && session (vector w (so_far b)) (home w t) == m) (same_self ask)
              (and_from ((home w t).0 == k + 1) (session (vector w (so_far b)) (home w t) == m) mine (is_same (session (vector w (so_far b)) (home w t)) m home_session)))))))

      comes_now : ValueComes world.servers.sites after k m of t ask s
      comes_now = told (subst (λ ls. list_any test ls ≡ true) (sym (grown (s.0 + 1) (let z = bounds in omega (arith, z.1)) (let z = bounds in λ e. omega (arith, z.0, e)))) (any_new test (link links (s.0 + 1) 1) (letters_to (s.0 + 1) 0 clock turn.outs) read_told))

      same_end : Same (so_far b) q t
      same_end = subst (λ (z : Turn Sequencer). Same (so_far b) (so_far z) t) (sym is) (finish_same w t st b)

      count_now : count_reads q t ≡ count_reads p t + 1
      count_now = same_end.count ∙ ap (λ z. count_reads z t) (noted_push st.history (Read t x s)) ∙ count_push p (Read t x s) t ∙ ap (λ c. count_reads p t + (if c then 1 else 0)) (same_self t.0)

      last_now : last_read q t ≡ Some n
      last_now = same_end.last ∙ ap (λ z. last_read z t) (noted_push st.history (Read t x s)) ∙ read_push p n t ∙ ap (λ c. if c then Some n else last_read p t) (same_self t.0)

      pub is_granted : (rest_asks : List Message) → rest_asks ≡ [] → count_reads p t < ask → Standing w q world.servers.sites after k m t ask x None rest_asks
      is_granted rest_asks none few = go (same_or_not (count_reads p t + 1) ask)
        where
          go : (count_reads p t + 1 ≡ ask) ⊎ (count_reads p t + 1 ≢ ask) → Standing w q world.servers.sites after k m t ask x None rest_asks
          go (inl e) = granted none (count_now ∙ e) (under w q world.servers.sites after k m t ask x None n s of false last_now refl is_known lives here_after (subst (M q) (sym notes_after) its_mid) (λ up. comes_now))
          go (inr other) = waiting (less (count_reads q t) ask (let c = count_now in omega (arith, c, few)) (λ e. other (sym count_now ∙ e)))
            where
              strict : (i j : ℕ) → i ≤ j → i ≢ j → (c : Bool) → (i == j) ≡ c → i < j
              strict i j le differ true e = absurd (differ (eqb-true i j e))
              strict i j le differ false e = grind (arith, le, e)

              less : (i j : ℕ) → i ≤ j → i ≢ j → i < j
              less i j le differ = strict i j le differ (i == j) refl

  -- who is over stays so
  over_stays : (t : Txn) → has_ended p t ≡ true → has_ended q t ≡ true
  over_stays t over = go (taking from letter t)
    where
      came : (j ask : ℕ) (x : Item) → Came w t st ask x turn → has_ended q t ≡ true
      came j ask x (unanswered same) = same.over over
      came j ask x (granted_at s is_known is_there placed is) =
          subst (λ (z : Turn Sequencer). has_ended (so_far z) t ≡ true) (sym is)
          ((finish_same w t st (place w ask (opened st) (Read t x s))).over (subst (λ z. has_ended z t ≡ true) (sym (noted_push st.history (Read t x s))) (any_kept (λ z. is_end_of t z.entry) p (next p (Read t x s)) over)))

      go : Taking from letter t → has_ended q t ≡ true
      go (takes_not never) = (unread w t from letter st never).over over
      go (takes j ask x of is) = came j ask x (came_from w t st ask x below.landed.holds.ledger.long (below.landed.holds.placed, below.landed.holds.quiet) j from of letter is)

  nothing_found : (t : Txn) (r : Running) (state : SiteState) → state.running ≡ [] → running_of state t ≡ Some r → ⊥
  nothing_found t r state none found = nothing (sym (ap (program_of t) none) ∙ found)

  module _ (after_holds : Holds w (record (world.servers) { sequencer = (hear_sequencer w world.servers.sequencer from letter).state }) after) (all : StandAll w p world.servers.sites links) where
    pub sequencer_stands : StandAll w q world.servers.sites after
    sequencer_stands k state at up last t r found ask x o phase runs = by_last (same_or_not (last_session p (site (k + 1))) state.session)
      where
        unended : (c : Bool) → has_ended p t ≡ c → has_ended p t ≡ false
        unended true e = absurd (true≢false (sym (over_stays t e) ∙ runs))
        unended false e = e

        -- a session that is told in this step: nothing runs there yet
        asleep_yet : last_session p (site (k + 1)) ≢ state.session → Stage w k p state.up state.session state.running state.next (begins state.session (link links 1 (k + 2))) (link links (k + 2) 1) → ⊥
        asleep_yet differ (stopped d e z) = nothing_found t r state e found
        asleep_yet differ (asleep u l e z c) = nothing_found t r state e found
        asleep_yet differ (fresh u l e z c n) = nothing_found t r state e found
        asleep_yet differ (awake u l f c) = differ l

        stood : last_session p (site (k + 1)) ≡ state.session → Standing w p world.servers.sites links k state.session t ask x o (asks_of t (link links 1 (k + 2)))
        stood before = all k state at up before t r found ask x o phase (unended (has_ended p t) refl)

        by_taking : last_session p (site (k + 1)) ≡ state.session → Taking from letter t → Standing w q world.servers.sites after k state.session t ask x o (asks_of t (link after 1 (k + 2)))
        by_taking before (takes_not never) = stands_on after_holds k state at up before last t r found ask x o phase (unread w t from letter st never) (stood before)
        by_taking before (takes j a y of is) = talked (below.talks.1 k state at up before t)
          where
            asked_there : AskSays w p (site (j + 1)) letter.message
            asked_there = (subst (AllByRecursion (λ (l : Letter). LetterSays w p 1 (suc (suc j)) l)) (ap (link links 1) (let e : suc (suc j) ≡ from = omega (arith, of) in e) ∙ front) (below.landed.says 1 (suc (suc j)))).0.0

            it_is : j ≡ k
            it_is = numbers (home w t).0 (asked_home w p (site (j + 1)) t letter.message asked_there (subst (IsAskOf t) (sym is) (same_self t.0))) (mine after_holds k state at up before last t r found ask x o phase)
              where
                numbers : (h : ℕ) → (h == j + 1) ≡ true → (h == k + 1) ≡ true → j ≡ k
                numbers h c d = (let e = eqb-true h (j + 1) c in let f = eqb-true h (k + 1) d in omega (arith, e, f))

            from_is : from ≡ k + 2
            from_is = of ∙ ap (λ i. i + 2) it_is

            asks_before : asks_of t (link links 1 (k + 2)) ≡ letters.ReadAsk t a y ∷ asks_of t rest
            asks_before = ap (asks_of t) (ap (link links 1) (sym from_is) ∙ front) ∙ ap (λ z. ask_of t z ++ asks_of t rest) is ∙ ap (λ c. (if c then letters.ReadAsk t a y ∷ [] else []) ++ asks_of t rest) (same_self t.0)

            asks_after : asks_of t (link after 1 (k + 2)) ≡ asks_of t rest
            asks_after = ap (asks_of t) (ap (link after 1) (sym from_is) ∙ moved_taken (w.sites + 2) links 1 from 0 clock rest turn.outs below.landed.holds.square (omega arith) known_from (λ e. omega (arith, e, from_is)))

            came : Came w t st a y turn
            came = came_from w t st a y below.landed.holds.ledger.long (below.landed.holds.placed, below.landed.holds.quiet) j from of letter is

            few : Standing w p world.servers.sites links k state.session t ask x o (asks_of t (link links 1 (k + 2))) → count_reads p t < ask
            few (waiting n) = n
            few (granted none c u) = absurd (cc (asks_before, none))

            answered : (a ≡ ask) → (y ≡ x) → o ≡ None → asks_of t rest ≡ [] → Came w t st a y turn → Standing w q world.servers.sites after k state.session t ask x o (asks_of t (link after 1 (k + 2)))
            answered numbers items none empty (unanswered same) = waiting (let c = same.count in let n = few (stood before) in omega (arith, c, n))
            answered numbers items none empty (granted_at s is_known is_there placed g) =
                subst (λ z. Standing w q world.servers.sites after k state.session t ask x z (asks_of t (link after 1 (k + 2)))) (sym none)
                (is_granted after_holds k state at up before last t r found ask x o phase s is_known is_there (subst (λ z. Placed w (st.history ++ Read t z s ∷ [])) items placed)
                (g ∙ ap (λ z. finish w st (place w z (opened st) (Read t y s))) numbers ∙ ap (λ z. finish w st (place w ask (opened st) (Read t z s))) items) (asks_of t (link after 1 (k + 2))) (asks_after ∙ empty) (few (stood before)))

            outstanding : Outstanding p links k state.session t ask x o (asks_of t (link links 1 (k + 2))) → Standing w q world.servers.sites after k state.session t ask x o (asks_of t (link after 1 (k + 2)))
            outstanding (asked e none h) = (let both : letters.ReadAsk t a y ∷ asks_of t rest ≡ letters.ReadAsk t ask x ∷ [] = sym asks_before ∙ e in answered (cc both) (cc both) none (cc both) came)
            outstanding (dropped e none h) = absurd (cc (asks_before, e))
            outstanding (read n s e l i has h server falls) = absurd (cc (asks_before, e))

            talked : Talks p links k state.session t (asks_of t (link links 1 (k + 2))) (running_of state t) → Standing w q world.servers.sites after k state.session t ask x o (asks_of t (link after 1 (k + 2)))
            talked talks = about (subst (Talks p links k state.session t (asks_of t (link links 1 (k + 2)))) found talks).1
              where
                about : (has_ended p t ≡ true) ⊎ IsAbout p links k state.session t r.asks r.answers (asks_of t (link links 1 (k + 2))) r.phase → Standing w q world.servers.sites after k state.session t ask x o (asks_of t (link after 1 (k + 2)))
                about (inl over) = absurd (true≢false (sym over ∙ unended (has_ended p t) refl))
                about (inr a) = outstanding (subst (IsAbout p links k state.session t r.asks r.answers (asks_of t (link links 1 (k + 2)))) phase a).1.1.1

        by_last : (last_session p (site (k + 1)) ≡ state.session) ⊎ (last_session p (site (k + 1)) ≢ state.session) → Standing w q world.servers.sites after k state.session t ask x o (asks_of t (link after 1 (k + 2)))
        by_last (inl before) = by_taking before (taking from letter t)
        by_last (inr differ) = absurd (asleep_yet differ (below.landed.waits k state at).stage)
