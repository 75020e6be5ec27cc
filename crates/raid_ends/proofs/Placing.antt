-- An entry pays for what it sends: it lowers the measure by as much, but for a Read, whose ask pays the rest.
use Rattle.std.proofs.Common.{◌≡◌, ℕ, zero, suc, ◌+◌, ◌-◌, ◌≤◌, ◌==◌, nat_lt, Bool, true, false, not, ◌&&◌, ◌||◌, List, [], ◌∷◌, ◌++◌, filter, map, arith, sym, subst, ap, ◌∙◌, refl}
use Rattle.std.specs.List.{sum_by}
use Rattle.std.proofs.lemmas.Bool.{true≢false}
use Rattle.std.proofs.lemmas.List.Sums.{sum_by-append, sum_by_push}
use Rattle.raid_base.specs.declared.names.Site.{Site}
use Rattle.raid_base.specs.declared.entry.Entry.{Entry}
use Rattle.raid_base.specs.declared.entry.Entry.TheVariants.{Begin, Read, Wait, Commit, Abort, Ack, SwitchOn, SwitchEnd, Down, Up, Clear}
use Rattle.raid_base.specs.declared.entry.Noted.{Noted}
use Rattle.raid_base.specs.Names.{is_site, has_site}
use Rattle.raid_base.specs.Sites.{site}
use Rattle.raid_workload.specs.declared.workload.Workload.{Workload}
use Rattle.raid_workload.specs.Parts.{count_from, sites}
use Rattle.raid_rules.specs.Entries.{is_end}
use Rattle.raid_rules.specs.History.{next, ends}
use Rattle.raid_rules.proofs.Push.{noted_push}
use Rattle.raid_legal.specs.Seen.{vector, is_up, is_restartable, attempt}
use Rattle.raid_steps.specs.State.{Out, Turn, Sequencer, Copying, SiteState}
use Rattle.raid_steps.specs.Sequencer.{so_far, place, sends, ends_copying}
use Rattle.raid_measure.specs.Measure.{end_cost, down_cost, up_cost, letter_cost, ends_cost, site_cost, turns_cost}
use Rattle.raid_measure.proofs.Sums.{one_if}
use Rattle.raid_ends.specs.Placing.{MayPlace}
use Rattle.raid_ends.proofs.Links.{outs_cost}
use Rattle.raid_ends.proofs.Histories.{same_site, after, ends_less, one_ends, sites_less, turns_less, one_down, one_up, turns_down, turns_up, up_turned, session_none}
use Rattle.raid_ends.proofs.Copies.{copies_at, still, steady, cleared, committed, risen, fallen}
use Rattle.raid_ends.proofs.Sent.{down_sent, up_sent, abort_sent, read_sent, commit_sent}

-- what the ask of an entry pays
abbrev pub extra : Entry → ℕ
extra (Read t x s) = 3
extra other = 0

module _ (w : Workload) (ss : List SiteState) where
  -- what is left of the measure for a history, but for what is sent
  abbrev pub left : List Noted → List Copying → ℕ
  left p out = ends_cost w p + sum_by (site_cost w p) ss + sum_by (turns_cost w p) (sites w) + copies_at w p out

  -- and with what is sent; an end pays for one letter more, in which it is counted
  abbrev pub Left : Turn Sequencer → ℕ
  Left turn = outs_cost w turn.outs + left (so_far turn) turn.state.copying + ends (so_far turn)

  module _ (p : List Noted) (at stamp : ℕ) (out : List Copying) (ask : ℕ) where
    abbrev note : Entry → Noted
    note e = record { at = at; stamp = stamp; entry = e }

    abbrev now : Entry → List Noted
    now e = after w p (note e)

    -- by how much an entry lowers which part, and that this is enough
    record Pays (e : Entry) : Type 0 where
      ended : ℕ
      turned : ℕ
      ends_less : ends_cost w (now e) + ended ≤ ends_cost w p
      turns_less : sum_by (turns_cost w (now e)) (sites w) + turned ≤ sum_by (turns_cost w p) (sites w)
      copies_less : copies_at w (now e) (still w p at stamp out e) ≤ copies_at w p out
      enough : outs_cost w (sends w (now e) ask e) + one_if (is_end e) ≤ ended + turned + extra e

    ends_kept : (e : Entry) → ends_cost w (now e) + 0 ≤ ends_cost w p
    ends_kept e = let less = ends_less w p (note e) in omega (arith, less)

    turns_kept : (e : Entry) → sum_by (turns_cost w (now e)) (sites w) + 0 ≤ sum_by (turns_cost w p) (sites w)
    turns_kept e = let less = turns_less w p (note e) in omega (arith, less)

    self : (a : ℕ) → (a == a) ≡ true
    self a = grind arith

    least : (z : Site) (k n : ℕ) → has_site (map site (count_from k n)) z ≡ true → k ≤ z.0
    least z k zero q = absurd (true≢false (sym q))
    least z k (suc n) q = go (k == z.0) refl q (least z (k + 1) n)
      where
        same : (a b : ℕ) → (a == b) ≡ true → a ≤ b
        same a b e = grind (arith, e)

        go : (b : Bool) → (k == z.0) ≡ b → (b || has_site (map site (count_from (k + 1) n)) z) ≡ true → (has_site (map site (count_from (k + 1) n)) z ≡ true → k + 1 ≤ z.0) → k ≤ z.0
        go true e q rest = same k z.0 e
        go false e q rest = let l = rest q in omega (arith, l)

    pays : (e : Entry) → MayPlace w p e → Pays e
    pays (Begin t h) may = record { ended = 0; turned = 0; ends_less = ends_kept (Begin t h); turns_less = turns_kept (Begin t h); copies_less = steady w p at stamp out (Begin t h) refl (λ s k x u l. l) (λ s k x u l c i. refl); enough = omega arith }
    pays (Read t x z) may = record {
      ended = 0;
      turned = 0;
      ends_less = ends_kept (Read t x z);
      turns_less = turns_kept (Read t x z);
      copies_less = steady w p at stamp out (Read t x z) refl (λ s k x u l. l) (λ s k x u l c i. refl);
      enough = let few = read_sent w (now (Read t x z)) ask t x z in omega (arith, few);
    }
    pays (Wait t request) may = record { ended = 0; turned = 0; ends_less = ends_kept (Wait t request); turns_less = turns_kept (Wait t request); copies_less = steady w p at stamp out (Wait t request) refl (λ s k x u l. l) (λ s k x u l c i. refl); enough = omega arith }
    pays (Commit t request applied) may = record {
      ended = end_cost w;
      turned = 0;
      ends_less = one_ends w p (note (Commit t request applied)) t may.0.0 may.0.1 (ap (λ b. b || false) (self t.0));
      turns_less = turns_kept (Commit t request applied);
      copies_less = committed w p at stamp out t request applied may.1;
      enough = let few = commit_sent w (now (Commit t request applied)) t applied in omega (arith, few);
    }
    pays (Abort t cause act) may = record {
      ended = end_cost w;
      turned = 0;
      ends_less = one_ends w p (note (Abort t cause act)) t may.0 may.1 (self t.0);
      turns_less = turns_kept (Abort t cause act);
      copies_less = steady w p at stamp out (Abort t cause act) refl (λ s k x u l. l) (λ s k x u l c i. refl);
      enough = let few = abort_sent w (now (Abort t cause act)) t (is_restartable cause && nat_lt (attempt w t) w.restarts) in omega (arith, few);
    }
    pays (Ack t z) may = record { ended = 0; turned = 0; ends_less = ends_kept (Ack t z); turns_less = turns_kept (Ack t z); copies_less = steady w p at stamp out (Ack t z) refl (λ s k x u l. l) (λ s k x u l c i. refl); enough = omega arith }
    pays (SwitchOn k kind method) may = record { ended = 0; turned = 0; ends_less = ends_kept (SwitchOn k kind method); turns_less = turns_kept (SwitchOn k kind method); copies_less = steady w p at stamp out (SwitchOn k kind method) refl (λ s k x u l. l) (λ s k x u l c i. refl); enough = omega arith }
    pays (SwitchEnd k) may = record { ended = 0; turned = 0; ends_less = ends_kept (SwitchEnd k); turns_less = turns_kept (SwitchEnd k); copies_less = steady w p at stamp out (SwitchEnd k) refl (λ s k x u l. l) (λ s k x u l c i. refl); enough = omega arith }
    pays (Down z) may = record {
      ended = 0;
      turned = down_cost w;
      ends_less = ends_kept (Down z);
      turns_less = turns_down w p (note (Down z)) z may.0 (one_down w p (note (Down z)) z may.0 (self z.0) may.1);
      copies_less = fallen w p at stamp out z may.0 may.1;
      enough = let few = down_sent w (now (Down z)) z may.0 fallen_now in omega (arith, few);
    }
      where
        fallen_now : (r : Site) → is_site z r ≡ true → is_up w (now (Down z)) r ≡ false
        fallen_now r e = subst (λ r. is_up w (now (Down z)) r ≡ false) (sym (same_site z r e)) (up_turned w p (note (Down z)) z ∙ ap (λ n. nat_lt 0 n) (session_none (vector w p) (z.0 - 1)))
    pays (Up z k) may = record {
      ended = 0;
      turned = up_cost w;
      ends_less = ends_kept (Up z k);
      turns_less = turns_up w p (note (Up z k)) z may.0 (one_up w p (note (Up z k)) z may.0 (self z.0) may.1);
      copies_less = risen w p at stamp out z k may.0 (least z 1 w.sites may.0) may.1;
      enough = let few = up_sent w (now (Up z k)) z k may.0 in omega (arith, few);
    }
    pays (Clear z y v) may = record { ended = 0; turned = 0; ends_less = ends_kept (Clear z y v); turns_less = turns_kept (Clear z y v); copies_less = cleared w p at stamp out z y v; enough = omega arith }

    sums : (o so en en2 si si2 tu tu2 co co2 k m d1 d2 x : ℕ) → so + m ≤ d1 + d2 + x → en2 + d1 ≤ en → si2 ≤ si → tu2 + d2 ≤ tu → co2 ≤ co → (o + so) + (en2 + si2 + tu2 + co2) + (k + m) ≤ o + (en + si + tu + co) + k + x
    sums o so en en2 si si2 tu tu2 co co2 k m d1 d2 x a b c d e = omega arith

    pub paid : (e : Entry) (o : ℕ) → MayPlace w p e → (o + outs_cost w (sends w (now e) ask e)) + left (now e) (still w p at stamp out e) + (ends p + one_if (is_end e)) ≤ o + left p out + ends p + extra e
    paid e o may =
        let a = pays e may in
        sums o (outs_cost w (sends w (now e) ask e)) (ends_cost w p) (ends_cost w (now e)) (sum_by (site_cost w p) ss) (sum_by (site_cost w (now e)) ss) (sum_by (turns_cost w p) (sites w)) (sum_by (turns_cost w (now e)) (sites w))
        (copies_at w p out) (copies_at w (now e) (still w p at stamp out e)) (ends p) (one_if (is_end e)) a.ended a.turned (extra e) a.enough a.ends_less (sites_less w p (note e) ss) a.turns_less a.copies_less

  -- the turn with an entry placed
  pub place_pays : (ask : ℕ) (turn : Turn Sequencer) (e : Entry) → MayPlace w (so_far turn) e → Left (place w ask turn e) ≤ Left turn + extra e
  place_pays ask turn e may =
      subst (λ r. outs_cost w (turn.outs ++ sends w r ask e) + left r kept + ends r ≤ Left turn + extra e) (sym (noted_push turn.state.history e))
      (subst (λ o. o + left now_p kept + ends now_p ≤ Left turn + extra e) (sym (sum_by-append (λ (out : Out). letter_cost w out.0 out.2) turn.outs (sends w now_p ask e)))
      (subst (λ k. (outs_cost w turn.outs + outs_cost w (sends w now_p ask e)) + left now_p kept + k ≤ Left turn + extra e) (sym (sum_by_push (λ (n : Noted). one_if (is_end n.entry)) (so_far turn) (next (so_far turn) e)))
      (paid (so_far turn) (next (so_far turn) e).at (next (so_far turn) e).stamp turn.state.copying ask e (outs_cost w turn.outs) may)))
    where
      kept : List Copying
      kept = filter (λ c. not (ends_copying e c)) turn.state.copying

      now_p : List Noted
      now_p = so_far turn ++ next (so_far turn) e ∷ []
