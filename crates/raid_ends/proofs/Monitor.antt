-- The monitor's step lowers the measure.
use Rattle.std.proofs.Common.{◌≡◌, ℕ, ◌+◌, ◌<◌, ◌==◌, nat_le, Bool, true, false, List, [], ◌∷◌, length, map, if◌then◌else◌, arith, sym, subst, ap, refl}
use Rattle.std.specs.Prelude.{drop}
use Rattle.std.specs.List.{sum_by, prefix_len}
use Rattle.std.proofs.lemmas.List.{drop-drop}
use Rattle.std.proofs.lemmas.List.Sums.{sum_by-cons, sum_by-take-drop}
use Rattle.std.proofs.lemmas.List.Folds.{length-prefix_len}
use Rattle.raid_workload.specs.declared.workload.Workload.{Workload}
use Rattle.raid_workload.specs.declared.workload.Event.{Event}
use Rattle.raid_message.specs.declared.letter.Message.{Message}
use Rattle.raid_message.specs.declared.letter.Message.TheVariants as letters
use Rattle.raid_message.specs.declared.letter.Letter.{Letter}
use Rattle.raid_message.specs.declared.letter.Pick.{Pick}
use Rattle.raid_steps.specs.State.{Turn, Out, opened}
use Rattle.raid_steps.specs.Monitor.{due_events, event_out, ends_row, halted_row, monitor_row}
use Rattle.raid_steps.specs.World.{World, pick, finds}
use Rattle.raid_measure.specs.Measure.{letter_cost, event_cost, events_cost, stop_cost, return_cost, measure}
use Rattle.raid_ends.proofs.Links.{outs_cost, Lowers, pick_lowers}

module _ (w : Workload) where
  -- each event costs what the letter that tells of it does
  sent_events : (es : List Event) → outs_cost w (map event_out es) ≡ sum_by (event_cost w) es
  sent_events [] = refl
  sent_events (e ∷ es) =
      let rest = sent_events es in
      let first = one e.stop in
      omega (arith, rest, first, sum_by-cons (λ (out : Out). letter_cost w out.0 out.2) (event_out e) (map event_out es), sum_by-cons (event_cost w) e es)
    where
      one : (b : Bool) → letter_cost w (e.site.0 + 1) (if b then letters.Stop else letters.Return) ≡ (if b then stop_cost w else return_cost)
      one true = refl
      one false = refl

  -- what holds of a step of the monitor
  abbrev Fewer : ℕ → Message → Turn ℕ → Type 0
  Fewer fired m turn = outs_cost w turn.outs + events_cost w turn.state < letter_cost w 0 m + events_cost w fired

  told_ends : (fired count : ℕ) → Fewer fired (letters.Ends count) (ends_row w fired count)
  told_ends fired count =
      let late = drop fired w.events in
      let n = prefix_len (λ (e : Event). nat_le e.trigger count) late in
      let sent = sent_events (due_events w fired count) in
      let left : events_cost w (fired + n) ≡ sum_by (event_cost w) (drop n late) = ap (sum_by (event_cost w)) (sym (drop-drop n fired w.events)) in
      let long : events_cost w (fired + length (due_events w fired count)) ≡ events_cost w (fired + n) = ap (λ k. events_cost w (fired + k)) (length-prefix_len (λ (e : Event). nat_le e.trigger count) late) in
      let parts = sum_by-take-drop (event_cost w) late n in
      omega (arith, sent, left, long, parts)

  pub rows : (fired from session : ℕ) (m : Message) → Fewer fired m (monitor_row w fired from session m)
  rows fired from session (letters.Ends count) = go (from == 1)
    where
      go : (b : Bool) → Fewer fired (letters.Ends count) (if b then ends_row w fired count else opened fired)
      go true = told_ends fired count
      go false = omega arith
  rows fired from session letters.Halted = go (nat_le 2 from)
    where
      go : (b : Bool) → Fewer fired letters.Halted (if b then halted_row fired from session else opened fired)
      go true = omega arith
      go false = omega arith
  rows fired from session m = omega arith

  hears : (state : World) (from : ℕ) (letter : Letter) → Lowers w state 0 from letter
  hears state from letter = let fewer = rows state.servers.fired from letter.from letter.message in omega (arith, fewer)

  pub monitor_lowers : (state : World) (p : Pick) → p.server ≡ 0 → finds state p ≡ true → measure w (pick w state p) < measure w state
  monitor_lowers state p q found = pick_lowers w state p (λ letter rest front. subst (λ n. Lowers w state n p.from letter) (sym q) (hears state p.from letter)) found
