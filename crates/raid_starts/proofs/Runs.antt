-- In every run, what may begin comes, and who is over is told so.
use Rattle.std.proofs.Common.{◌≡◌, inl, inr, ℕ, zero, suc, ◌+◌, ◌-◌, ◌≤◌, ◌==◌, nat_lt, nat_le, Bool, true, false, not, ◌&&◌, ◌||◌, List, [], ◌∷◌, replicate, Some, arith, sym, subst, ap, ◌∙◌, refl}
use Rattle.std.specs.Prelude.{slice_get, slice_index_or}
use Rattle.std.specs.List.{list_all}
use Rattle.std.proofs.lemmas.Bool.{and_from, and_parts, true≢false}
use Rattle.std.proofs.lemmas.Grind.{common_steps}
use Rattle.raid_base.specs.declared.names.Txn.{Txn}
use Rattle.raid_base.specs.declared.names.Site.{Site}
use Rattle.raid_base.specs.declared.entry.Noted.{Noted}
use Rattle.raid_base.specs.Names.{is_site, has_txn}
use Rattle.raid_base.specs.Sites.{site}
use Rattle.raid_workload.specs.declared.workload.Workload.{Workload}
use Rattle.raid_workload.specs.Parts.{txns, home}
use Rattle.raid_rules.specs.History.{noted, has_begun}
use Rattle.raid_legal.specs.Seen.{running, attempt, again, previous, is_up}
use Rattle.raid_legal.specs.Switched.{is_served}
use Rattle.raid_message.specs.declared.letter.Message.{Message}
use Rattle.raid_message.specs.declared.letter.Message.TheVariants as letters
use Rattle.raid_message.specs.declared.letter.Letter.{Letter}
use Rattle.raid_message.specs.declared.letter.Pick.{Pick}
use Rattle.raid_moves.specs.After.{is_full}
use Rattle.raid_steps.specs.State.{SiteState}
use Rattle.raid_steps.specs.Fits.{knows_txn}
use Rattle.raid_steps.specs.Programs.{next_attempt}
use Rattle.raid_steps.specs.World.{link, run, open_world, is_idle}
use Rattle.raid_steps.proofs.Parts.{home_known}
use Rattle.raid_sessions.proofs.Lists.{get_known, within, is_same, same_self}
use Rattle.raid_sessions.proofs.Reached.{reached}
use Rattle.raid_asks.specs.Own.{IsOf}
use Rattle.raid_asks.specs.Way.{begins_of}
use Rattle.raid_asks.proofs.Cares.{Stage, stopped, asleep, fresh, awake}
use Rattle.raid_asks.proofs.Facts.{or_left, or_right, again_aborted}
use Rattle.raid_asks.proofs.Least.{txn, IsFirst, known_txn, home_next}
use Rattle.raid_asks.proofs.Notes.{Welcoming, WelcomeOk}
use Rattle.raid_asks.proofs.Reached.{first_state}
use Rattle.raid_layers.proofs.Histories.{fresh_unended}
use Rattle.raid_placed.proofs.Orderly.{placed_known, placed_whole}
use Rattle.raid_staged.proofs.Ends.{aborted_ended}
use Rattle.raid_versions.proofs.Runs as below
use Rattle.raid_vectors.specs.Vectors.{IsTold}
use Rattle.raid_vectors.proofs.Frame.{Each, AtSequencer, AtSite, in_runs}
use Rattle.raid_vectors.proofs.Runs.{most_at}
use Rattle.raid_starts.specs.Starts.{welcomes, is_coming, is_at_most, FirstAttemptsCome, NextAttemptsCome, EndsCome}
use Rattle.raid_starts.proofs.Coming.{Coming}
use Rattle.raid_starts.proofs.Idle.{served}
use Rattle.raid_starts.proofs.Sequencer.{sequencer_comes}
use Rattle.raid_starts.proofs.Sites.{site_comes}

module _ (w : Workload) where
  sequencer : AtSequencer w (Coming w)
  sequencer world known from clock letter rest front k s at j = sequencer_comes w world known from clock letter rest front k s at j

  own : AtSite w (Coming w)
  own world known from clock letter rest k s at front j = site_comes w world known from clock letter rest k s at front j

  empty_at : (n k : ℕ) → slice_index_or (replicate {A = List Letter} n []) k [] ≡ []
  empty_at zero k = refl
  empty_at (suc n) zero = refl
  empty_at (suc n) (suc k) = empty_at n k

  none_due : (t : Txn) → again w [] t ≡ true → ⊥
  none_due t q = true≢false (sym (and_parts (nat_lt 0 (attempt w t)) false q).1)

  opens : Each w (Coming w) (open_world w).servers (open_world w).links
  opens k s q = record {
    full = subst (λ z. is_full w z ≡ true) (first_state w 1 w.sites k s q) refl;
    up = λ t at due. absurd (none_due t due);
    good = λ told. record {
      runs = λ t r at. absurd (true≢false (sym r));
      begins = λ t way. absurd (true≢false (sym way ∙ ap (λ ls. has_txn (begins_of s.session ls) t) (empty_at (w.sites + 2) (k + 2))));
      over = λ t r e. absurd (true≢false (sym e));
      next = λ t of due new. absurd (none_due t due);
    };
  }

  come : (schedule : List Pick) → Each w (Coming w) (run w schedule).servers (run w schedule).links
  come = in_runs w (Coming w) sequencer own opens

  pub runs_end : (schedule : List Pick) → EndsCome w (run w schedule)
  runs_end schedule k s at told = ((come schedule k s at).good told).over

  -- the home of an attempt that is due is up
  home_stays : (schedule : List Pick) (t : Txn) → again w (noted (run w schedule).servers.sequencer.history) t ≡ true → is_up w (noted (run w schedule).servers.sequencer.history) (home w t) ≡ true
  home_stays schedule t due = subst (λ z. is_up w p z ≡ true) back ((come schedule ((home w t).0 - 1) found.0 found.1).up t (ap (λ z. is_site z (home w t)) back ∙ same_self (home w t).0) due)
    where
      p : List Noted
      p = noted (run w schedule).servers.sequencer.history

      u : Txn
      u = previous w t

      begun : (b : Bool) → has_begun p u ≡ b → b ≡ true
      begun true q = refl
      begun false q = absurd (true≢false (sym (aborted_ended p u (again_aborted w p t due)) ∙ fresh_unended p (placed_whole w (run w schedule).servers.sequencer.history (reached w schedule).placed) u q))

      known : has_txn (txns w) u ≡ true
      known = placed_known w (run w schedule).servers.sequencer.history (reached w schedule).placed u (begun (has_begun p u) refl)

      next_is : next_attempt w u ≡ t
      next_is = ap txn (numbers t.0 _ (known_txn w u known).0)
        where
          numbers : (a n : ℕ) → 1 ≤ a - n → a - n + n ≡ a
          numbers a n l = omega (arith, l)

      home_is : home w t ≡ home w u
      home_is = ap (home w) (sym next_is) ∙ home_next w u known

      fits : knows_txn w u ≡ true
      fits = (let low = (known_txn w u known).0 in let high = (known_txn w u known).1 in grind (arith, common_steps, low, high))

      numbered : (1 ≤ (home w t).0) × ((home w t).0 ≤ w.sites)
      numbered = subst (λ (z : Site). (1 ≤ z.0) × (z.0 ≤ w.sites)) (sym home_is) (within w.sites (home w u).0 (home_known w u fits))

      found : (s : SiteState) × (slice_get (run w schedule).servers.sites ((home w t).0 - 1) ≡ Some s)
      found = get_known (run w schedule).servers.sites ((home w t).0 - 1) (let low = numbered.0 in let high = numbered.1 in let long = (reached w schedule).long in omega (arith, low, high, long))

      back : site ((home w t).0 - 1 + 1) ≡ home w t
      back = ap site (let low = numbered.0 in let e : (home w t).0 - 1 + 1 ≡ (home w t).0 = omega (arith, low) in e)

  pub runs_next : (schedule : List Pick) → NextAttemptsCome w (run w schedule)
  runs_next schedule = record { up = home_stays schedule; comes = λ k s at told. ((come schedule k s at).good told).next }

  -- a first attempt that hasn't begun is at or behind the next
  at_or_behind : (n t : ℕ) → (n == 0 || nat_lt t n) ≡ false → (not (n == 0) && nat_le n t) ≡ true
  at_or_behind n t q = grind (arith, common_steps, q)

  welcome_comes : (here : Site) (m : ℕ) (p : List Noted) (t : Txn) → IsFirst w here t → has_begun p t ≡ false → (ls : List Letter) → Welcoming w here m p ls → is_coming (welcomes t) m ls ≡ true
  welcome_comes here m p t f new [] a = absurd a
  welcome_comes here m p t f new (l ∷ ls) (inl a) = or_left (l.to == m && welcomes t l.message) (is_coming (welcomes t) m ls) (and_from (l.to == m) (welcomes t l.message) a.0 (go l.message a.1))
    where
      go : (message : Message) → WelcomeOk w here m p message ls → welcomes t message ≡ true
      go (letters.Welcome v n) ok = at_or_behind n t.0 (sym (ok.1.0.1 t f) ∙ ap (λ b. b || false) new)
      go other ok = absurd ok
  welcome_comes here m p t f new (l ∷ ls) (inr a) = or_right (l.to == m && welcomes t l.message) (is_coming (welcomes t) m ls) (welcome_comes here m p t f new ls a.1)

  module _ (schedule : List Pick) (k : ℕ) (s : SiteState) (at : slice_get (run w schedule).servers.sites k ≡ Some s) (told : IsTold w (noted (run w schedule).servers.sequencer.history) k s) where
    abbrev p : List Noted
    p = noted (run w schedule).servers.sequencer.history

    abbrev asks : List Letter
    asks = link (run w schedule).links 1 (k + 2)

    abbrev notes : List Letter
    notes = link (run w schedule).links (k + 2) 1

    first_waits : (t : Txn) → IsOf w (site (k + 1)) t → attempt w t ≡ 0 → has_begun p t ≡ false → (is_coming (welcomes t) s.session notes || has_txn (begins_of s.session asks) t || is_at_most s.next t) ≡ true
    first_waits t of zero_is new = by ((below.known w schedule).cares k s at).stage
      where
        is_first : IsFirst w (site (k + 1)) t
        is_first = record { ours = record { known = of.0; at = of.1 }; first = is_same (attempt w t) 0 zero_is }

        by : Stage w k p s.up s.session s.running s.next (begins_of s.session asks) notes → (is_coming (welcomes t) s.session notes || has_txn (begins_of s.session asks) t || is_at_most s.next t) ≡ true
        by (stopped d r n) = absurd (true≢false (sym told.up ∙ d))
        by (asleep u l r n b) = absurd (let a = most_at w (run w schedule) (below.known w schedule) k s at in let c = told.told in omega (arith, a, c, l))
        by (fresh u l r n b e) = or_left (is_coming (welcomes t) s.session notes || has_txn (begins_of s.session asks) t) (is_at_most s.next t) (or_left (is_coming (welcomes t) s.session notes) (has_txn (begins_of s.session asks) t) (welcome_comes (site (k + 1)) s.session p t is_first new notes e))
        by (awake u l f c) = way (has_txn (begins_of s.session asks) t) refl
          where
            way : (b : Bool) → has_txn (begins_of s.session asks) t ≡ b → (is_coming (welcomes t) s.session notes || has_txn (begins_of s.session asks) t || is_at_most s.next t) ≡ true
            way true q = or_left (is_coming (welcomes t) s.session notes || has_txn (begins_of s.session asks) t) (is_at_most s.next t) (or_right (is_coming (welcomes t) s.session notes) (has_txn (begins_of s.session asks) t) q)
            way false q = or_right (is_coming (welcomes t) s.session notes || has_txn (begins_of s.session asks) t) (is_at_most s.next t)
                (at_or_behind s.next t.0 (sym (c.counts.1 t is_first) ∙ ap (λ b. b || has_txn (begins_of s.session asks) t) new ∙ q))

  pub runs_first : (schedule : List Pick) → FirstAttemptsCome w (run w schedule)
  runs_first schedule k s at told = record { waits = first_waits schedule k s at told; full = (come schedule k s at).full }

  pub idle_served : (schedule : List Pick) → is_idle (run w schedule) ≡ true → running w (noted (run w schedule).servers.sequencer.history) ≡ [] → list_all (is_served w (noted (run w schedule).servers.sequencer.history)) (txns w) ≡ true
  idle_served schedule idle none = served w schedule (runs_first schedule) (runs_next schedule) (runs_end schedule) idle none
