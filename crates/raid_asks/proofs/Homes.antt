-- At each site of a reached world run programs of that site's own transactions, each once: what holds, and the steps that keep it.
use Rattle.std.proofs.Common.{◌≡◌, ◌≢◌, ◌⊎◌, inl, inr, ℕ, zero, suc, ◌+◌, ◌*◌, ◌<◌, ◌≤◌, ◌==◌, nat_lt, Bool, true, false, not, ◌&&◌, ◌||◌, List, [], ◌∷◌, ◌++◌, length, map, Option, Some, None, if◌then◌else◌, arith, sym, subst, ap, ◌∙◌, refl}
use Rattle.std.specs.Prelude.{⊤, filter, flat_map, slice_get, slice_set, find}
use Rattle.std.specs.List.{AllByRecursion, list_any}
use Rattle.std.specs.Option.{option_map_or}
use Rattle.std.proofs.lemmas.Bool.{and_parts, eqb-true, true≢false}
use Rattle.raid_base.specs.declared.names.Txn.{Txn}
use Rattle.raid_base.specs.declared.names.Site.{Site}
use Rattle.raid_base.specs.declared.entry.Entry.{Entry}
use Rattle.raid_base.specs.declared.entry.Entry.TheVariants.{Read, Commit, Abort, Down, Up}
use Rattle.raid_base.specs.declared.entry.Noted.{Noted}
use Rattle.raid_base.specs.Names.{is_txn, is_site, has_site}
use Rattle.raid_base.specs.Sites.{site}
use Rattle.raid_workload.specs.declared.workload.Workload.{Workload}
use Rattle.raid_workload.specs.Parts.{txns, sites, home}
use Rattle.raid_rules.specs.History.{noted, has_begun}
use Rattle.raid_rules.proofs.Push.{same_txn}
use Rattle.raid_legal.specs.Seen.{vector, is_up, attempt, is_restartable}
use Rattle.raid_message.specs.declared.letter.Message.{Message}
use Rattle.raid_message.specs.declared.letter.Message.TheVariants as letters
use Rattle.raid_message.specs.declared.letter.Letter.{Letter}
use Rattle.raid_steps.specs.State.{Out, Turn, Sequencer, Running, SiteState, opened, to_site}
use Rattle.raid_steps.specs.Sequencer as seq
use Rattle.raid_steps.specs.Sequencer.{so_far, place, hear_sequencer}
use Rattle.raid_steps.specs.Site as rows
use Rattle.raid_steps.specs.World.{Servers, link}
use Rattle.raid_sessions.proofs.Holds.{Holds}
use Rattle.raid_sessions.proofs.Lists.{get_below, get_set, get_other, some_is, all_append}
use Rattle.raid_sessions.proofs.Mail.{same_or_not, letter_of, letters_to, moved, moved_taken, moved_sent, moved_other}
use Rattle.raid_moves.specs.Moves.{Ascend}
use Rattle.raid_asks.proofs.Least.{txn, least, txn_known, Least, Ours, IsNext, following_is, ours_next}
use Rattle.raid_asks.proofs.Programs.{Keeps, Kept, BeginsNext, BeginsAgain, hears_sequencer, hears_site}
use Rattle.raid_asks.proofs.Steps.{IsOther, AreOther, Steps, done, placed, passes, hear_steps}

module _ (w : Workload) where
  -- what the sequencer tells a site: which of its transactions begins next, and which attempts are left
  abbrev pub IsTold : Site → Message → Type 0
  IsTold s (letters.Welcome v n) = IsNext w s n
  IsTold s (letters.Drop t true) = attempt w t < w.restarts
  IsTold s other = ⊤

  abbrev pub AreTold : Site → List Letter → Type 0
  AreTold s ls = AllByRecursion (λ (l : Letter). IsTold s l.message) ls

  -- a site, the one at a place counted from 0, and what it is told
  pub record Housed (k : ℕ) (state : SiteState) (told : List Letter) : Type 0 where
    pub place : state.site ≡ site (k + 1)
    pub running : AllByRecursion (λ (r : Running). Ours w (site (k + 1)) r.txn) state.running
    pub ascend : Ascend state.running
    pub next : IsNext w (site (k + 1)) state.next
    pub notes : AreTold (site (k + 1)) told

  abbrev pub Homes : Servers → List (List (List Letter)) → Type 0
  Homes s links = (k : ℕ) (state : SiteState) → slice_get s.sites k ≡ Some state → Housed k state (link links (k + 2) 1)

  -- the site's own step
  module _ (k : ℕ) where
    abbrev pub here : Site
    here = site (k + 1)

    abbrev Fine : List Txn → Txn → Type 0
    Fine ts t = Ours w here t

    abbrev Counts : List Txn → ℕ → Type 0
    Counts ts n = IsNext w here n

    next_begins : BeginsNext w here Fine Counts
    next_begins ts s rs n q some = (record { site = q.site; fine = q.fine; counts = (following_is w here n).0; ascend = q.ascend }, its q.counts)
      where
        its : IsNext w here n → Ours w here (txn n)
        its (inl none) = absurd (true≢false (sym (ap (λ k. k == 0) none) ∙ some))
        its (inr found) = found.1.ours

    running_ours : (t : Txn) (rs : List Running) → AllByRecursion (λ (r : Running). Ours w here r.txn) rs → list_any (λ (r : Running). is_txn t r.txn) rs ≡ true → Ours w here t
    running_ours t [] a q = absurd (true≢false (sym q))
    running_ours t (r ∷ rs) a q = go (r.txn.0 == t.0) refl q (λ q. running_ours t rs a.1 q)
      where
        go : (b : Bool) → (r.txn.0 == t.0) ≡ b → (b || list_any (λ (r : Running). is_txn t r.txn) rs) ≡ true → (list_any (λ (r : Running). is_txn t r.txn) rs ≡ true → Ours w here t) → Ours w here t
        go true e q others = subst (Ours w here) (same_txn r.txn t e) a.0
        go false e q others = others q

    begins_again : (t : Txn) → attempt w t < w.restarts → BeginsAgain w here Fine Counts t
    begins_again t more s rs n q runs = (record { site = q.site; fine = q.fine; counts = q.counts; ascend = q.ascend }, ours_next w here t (running_ours t rs q.fine runs) more)

    module _ (state : SiteState) (notes : List Letter) (h : Housed k state notes) where
      keeps : Keeps w here Fine Counts [] state.site state.running state.next
      keeps = record { site = h.place; fine = h.running; counts = h.next; ascend = h.ascend }

      from_kept : (left : List Letter) → AreTold here left → (turn : Turn SiteState) → Kept w here Fine Counts turn → Housed k turn.state left
      from_kept left a turn q = record { place = q.1.1.site; running = q.1.1.fine; ascend = q.1.1.ascend; next = q.1.1.counts; notes = a }

      housed : (left : List Letter) → AreTold here left → Housed k state left
      housed left a = record { place = h.place; running = h.running; ascend = h.ascend; next = h.next; notes = a }

      stopped : (left : List Letter) → AreTold here left → (m : Message) → Housed k (rows.stop w state m).state left
      stopped left a letters.Stop = record { place = h.place; running = tt; ascend = tt; next = inl refl; notes = a }
      stopped left a other = housed left a

      returned : (left : List Letter) → AreTold here left → (m : Message) → Housed k (rows.return state m).state left
      returned left a letters.Return = record { place = h.place; running = h.running; ascend = h.ascend; next = h.next; notes = a }
      returned left a other = housed left a

      told_next : (m : Message) → IsTold here m → (v : List ℕ) (n : ℕ) → m ≡ letters.Welcome v n → IsNext w here n
      told_next m q v n e = subst (IsTold here) e q

      told_more : (m : Message) → IsTold here m → (t : Txn) → m ≡ letters.Drop t true → attempt w t < w.restarts
      told_more m q t e = subst (IsTold here) e q

      -- what it takes from the sequencer's link is as it was told
      pub site_step : (from : ℕ) (letter : Letter) (left : List Letter) → AreTold here left → (from ≡ 1 → IsTold here letter.message) → Housed k (rows.hear_site w state from letter).state left
      site_step from letter left a told = go state.up refl from told
        where
          go : (u : Bool) → state.up ≡ u → (f : ℕ) → (f ≡ 1 → IsTold here letter.message) → Housed k (if u then rows.hear_up w state f letter else rows.hear_down state f letter).state left
          go true up zero q = stopped left a letter.message
          go true up (suc zero) q =
              from_kept left a (rows.hear_up w state 1 letter)
              (hears_sequencer w here Fine Counts next_begins state keeps up letter (λ to v n e. told_next letter.message (q refl) v n e) (λ to t e. begins_again t (told_more letter.message (q refl) t e)))
          go true up (suc (suc i)) q = from_kept left a (rows.hear_up w state (suc (suc i)) letter) (hears_site w here Fine Counts next_begins state keeps up i letter)
          go false up zero q = returned left a letter.message
          go false up (suc i) q = housed left a

  -- what the sequencer sends a site
  module _ (k : ℕ) where
    abbrev GoesWell : Out → Type 0
    GoesWell out = out.0 ≡ k + 2 → IsTold (site (k + 1)) out.2

    site_is : (s : Site) → s.0 + 1 ≡ k + 2 → s ≡ site (k + 1)
    site_is s q = ap (λ n. let x : Site = record { 0 = n } in x) (omega (arith, q))

    -- the next of a home
    pub next_ours : (p : List Noted) (s : Site) → IsNext w s (seq.next_number w p s)
    next_ours p s = go (find test (txns w)) (least test 1 (length w.programs * (w.restarts + 1)))
      where
        test : Txn → Bool
        test t = attempt w t == 0 && is_site s (home w t) && not (has_begun p t)

        some : (n : ℕ) → 1 ≤ n → (n == 0) ≡ false
        some n q = grind (arith, q)

        go : (o : Option Txn) → Least test 1 (length w.programs * (w.restarts + 1)) o → IsNext w s (option_map_or (λ (t : Txn). t.0) o 0)
        go None q = inl refl
        go (Some t) q =
            let parts = and_parts (attempt w t == 0 && is_site s (home w t)) (not (has_begun p t)) q.yes in
            let both = and_parts (attempt w t == 0) (is_site s (home w t)) parts.0 in
            inr (some t.0 q.low, record { ours = record { known = txn_known w t.0 q.low q.high; at = both.1 }; first = both.0 })

    lt_is : (a b : ℕ) → nat_lt a b ≡ true → a < b
    lt_is a b q = grind (arith, q)

    drop_told : (t : Txn) (b : Bool) → (is_restartable_so : Bool) → (is_restartable_so && nat_lt (attempt w t) w.restarts) ≡ b → IsTold (site (k + 1)) (letters.Drop t b)
    drop_told t true r q = lt_is (attempt w t) w.restarts (and_parts r (nat_lt (attempt w t) w.restarts) q).1
    drop_told t false r q = tt

    notes_well : (p : List Noted) (m : Message) (ss : List Site) → IsTold (site (k + 1)) m → AllByRecursion GoesWell (map (λ s. to_site (vector w p) s m) ss)
    notes_well p m [] q = tt
    notes_well p m (s ∷ ss) q = ((λ e. q), notes_well p m ss q)

    commits_well : (p : List Noted) (t : Txn) (applied : List Site) (ss : List Site) → AllByRecursion GoesWell (flat_map (seq.commit_sends w p t applied) ss)
    commits_well p t applied [] = tt
    commits_well p t applied (s ∷ ss) =
        all_append GoesWell (seq.commit_sends w p t applied s) (flat_map (seq.commit_sends w p t applied) ss)
        (all_append GoesWell (if has_site applied s then to_site (vector w p) s (letters.Apply t (length p)) ∷ [] else []) (if is_site s (home w t) && is_up w p s then to_site (vector w p) s (letters.Done t) ∷ [] else [])
        (if_well (has_site applied s)) (done_well (is_site s (home w t) && is_up w p s)))
        (commits_well p t applied ss)
      where
        if_well : (b : Bool) → AllByRecursion GoesWell (let outs : List Out = (if b then to_site (vector w p) s (letters.Apply t (length p)) ∷ [] else []) in outs)
        if_well true = ((λ e. tt), tt)
        if_well false = tt

        done_well : (b : Bool) → AllByRecursion GoesWell (let outs : List Out = (if b then to_site (vector w p) s (letters.Done t) ∷ [] else []) in outs)
        done_well true = ((λ e. tt), tt)
        done_well false = tt

    serving_well : (p : List Noted) (ask : ℕ) (t : Txn) (s : Site) (b : Bool) → AllByRecursion GoesWell (let outs : List Out = (if b then [] else to_site (vector w p) (home w t) (letters.Serving t ask s) ∷ []) in outs)
    serving_well p ask t s true = tt
    serving_well p ask t s false = ((λ e. tt), tt)

    sends_well : (p : List Noted) (ask : ℕ) (e : Entry) → AllByRecursion GoesWell (seq.sends w p ask e)
    sends_well p ask (Read t x s) = ((λ e. tt), serving_well p ask t s (is_site s (home w t)))
    sends_well p ask (Commit t request applied) = commits_well p t applied (sites w)
    sends_well p ask (Abort t cause act) = notes_well p (seq.drop_of w t cause) (filter (is_up w p) (sites w)) (drop_told t (is_restartable cause && nat_lt (attempt w t) w.restarts) (is_restartable cause) refl)
    sends_well p ask (Down s) = notes_well p (letters.DownNote s) (filter (is_up w p) (sites w)) tt
    sends_well p ask (Up s n) =
        ((λ e. subst (λ r. IsNext w r (seq.next_number w p s)) (site_is s e) (next_ours p s)), notes_well p (letters.UpNote s n) (filter (λ r. is_up w p r && not (is_site s r)) (sites w)) tt)
    sends_well p ask other = tt

    other_well : (outs : List Out) → AreOther outs → AllByRecursion GoesWell outs
    other_well [] a = tt
    other_well (out ∷ outs) a = ((λ e. go out.2 a.0), other_well outs a.1)
      where
        go : (m : Message) → IsOther m → IsTold (site (k + 1)) m
        go (letters.CopyDo x target n) q = tt
        go (letters.Ends count) q = tt
        go other q = absurd q

    steps_well : (from : ℕ) (letter : Letter) (first : List Noted) (a b : Turn Sequencer) → Steps w from letter first a b → AllByRecursion GoesWell a.outs → AllByRecursion GoesWell b.outs
    steps_well from letter first a b done q = q
    steps_well from letter first a b (placed ask e p goes why rest) q = steps_well from letter first (place w ask a e) b rest (all_append GoesWell a.outs (seq.sends w (noted (a.state.history ++ e ∷ [])) ask e) q (sends_well (noted (a.state.history ++ e ∷ [])) ask e))
    steps_well from letter first a b (passes {next = next} outs same more other rest) q = steps_well from letter first next b rest (subst (AllByRecursion GoesWell) (sym more) (all_append GoesWell a.outs outs q (other_well outs other)))

    sent_told : (clock : ℕ) (outs : List Out) → AllByRecursion GoesWell outs → AreTold (site (k + 1)) (letters_to (k + 2) 0 clock outs)
    sent_told clock [] q = tt
    sent_told clock (out ∷ outs) q = go (out.0 == k + 2) refl (sent_told clock outs q.1)
      where
        go : (b : Bool) → (out.0 == k + 2) ≡ b → AreTold (site (k + 1)) (letters_to (k + 2) 0 clock outs) → AreTold (site (k + 1)) (if b then letter_of 0 clock out ∷ letters_to (k + 2) 0 clock outs else letters_to (k + 2) 0 clock outs)
        go true e rest = (q.0 (eqb-true out.0 (k + 2) e), rest)
        go false e rest = rest

  -- the steps in the world
  module _ (s : Servers) (links : List (List (List Letter))) (from clock : ℕ) (letter : Letter) (rest : List Letter) (known : from < w.sites + 2) (holds : Holds w s links) (homes : Homes s links) where
    inside : (k : ℕ) (state : SiteState) → slice_get s.sites k ≡ Some state → k + 2 < w.sites + 2
    inside k state q = (let b = get_below s.sites k state q in let l = holds.long in omega (arith, b, l))

    pub monitor_homes : (fired : ℕ) (outs : List Out) → Homes (record s { fired = fired }) (moved links 0 from 0 clock rest outs)
    monitor_homes fired outs k state q =
        housed k state (link links (k + 2) 1) (homes k state q) (link (moved links 0 from 0 clock rest outs) (k + 2) 1)
        (subst (AreTold (site (k + 1))) (sym (moved_other (w.sites + 2) links 0 from 0 clock rest outs holds.square (omega arith) (k + 2) 1 (inside k state q) (λ e. omega (arith, e)) (inl (λ e. omega (arith, e))))) (homes k state q).notes)

    pub sequencer_homes : Homes (record s { sequencer = (hear_sequencer w s.sequencer from letter).state }) (moved links 1 from 0 clock rest (hear_sequencer w s.sequencer from letter).outs)
    sequencer_homes k state q =
        let outs = (hear_sequencer w s.sequencer from letter).outs in
        housed k state (link links (k + 2) 1) (homes k state q) (link (moved links 1 from 0 clock rest outs) (k + 2) 1)
        (subst (AreTold (site (k + 1))) (sym (moved_sent (w.sites + 2) links 1 from 0 clock rest outs holds.square (omega arith) (k + 2) (inside k state q) (λ e. omega (arith, e))))
        (all_append (λ (l : Letter). IsTold (site (k + 1)) l.message) (link links (k + 2) 1) (letters_to (k + 2) 0 clock outs) (homes k state q).notes
        (sent_told k clock outs (steps_well k from letter (noted s.sequencer.history) (opened s.sequencer) (hear_sequencer w s.sequencer from letter) (hear_steps w from letter (noted s.sequencer.history) s.sequencer from refl refl holds.placed holds.quiet) tt))))

    module _ (k : ℕ) (front : link links (k + 2) from ≡ letter ∷ rest) (state : SiteState) (here : slice_get s.sites k ≡ Some state) where
      pub site_homes : Homes (record s { sites = slice_set s.sites k (rows.hear_site w state from letter).state }) (moved links (k + 2) from (rows.hear_site w state from letter).state.session clock rest (rows.hear_site w state from letter).outs)
      site_homes j other there = go (same_or_not j k)
        where
          turn : Turn SiteState
          turn = rows.hear_site w state from letter

          after : List (List (List Letter))
          after = moved links (k + 2) from turn.state.session clock rest turn.outs

          mine : Housed k state (link links (k + 2) 1)
          mine = homes k state here

          told_front : from ≡ 1 → AreTold (site (k + 1)) (letter ∷ rest)
          told_front q = subst (AreTold (site (k + 1))) (ap (link links (k + 2)) (sym q) ∙ front) mine.notes

          left : (from ≡ 1) ⊎ (from ≢ 1) → AreTold (site (k + 1)) (link after (k + 2) 1)
          left (inl q) = subst (AreTold (site (k + 1))) (sym (ap (link after (k + 2)) (sym q) ∙ moved_taken (w.sites + 2) links (k + 2) from turn.state.session clock rest turn.outs holds.square (inside k state here) known (λ r. omega (arith, q, r)))) (told_front q).1
          left (inr q) = subst (AreTold (site (k + 1))) (sym (moved_other (w.sites + 2) links (k + 2) from turn.state.session clock rest turn.outs holds.square (inside k state here) (k + 2) 1 (inside k state here) (λ r. omega (arith, r)) (inr (λ r. q (sym r))))) mine.notes

          go : (j ≡ k) ⊎ (j ≢ k) → Housed j other (link after (j + 2) 1)
          go (inl q) =
              let same : turn.state ≡ other = some_is turn.state other (sym (get_set s.sites k turn.state (get_below s.sites k state here)) ∙ ap (slice_get (slice_set s.sites k turn.state)) (sym q) ∙ there) in
              subst (λ i. Housed i other (link after (i + 2) 1)) (sym q)
              (subst (λ x. Housed k x (link after (k + 2) 1)) same (site_step k state (link links (k + 2) 1) mine from letter (link after (k + 2) 1) (left (same_or_not from 1)) (λ e. (told_front e).0)))
          go (inr q) =
              let was = sym (get_other s.sites k j turn.state q) ∙ there in
              housed j other (link links (j + 2) 1) (homes j other was) (link after (j + 2) 1)
              (subst (AreTold (site (j + 1))) (sym (moved_other (w.sites + 2) links (k + 2) from turn.state.session clock rest turn.outs holds.square (inside k state here) (j + 2) 1 (inside j other was) (λ e. omega (arith, e)) (inl (λ e. q (omega (arith, e)))))) (homes j other was).notes)
