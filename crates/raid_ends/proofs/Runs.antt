-- Each pick lowers the measure where all are ready, and so runs end.
use Rattle.std.proofs.Common.{◌≡◌, ℕ, zero, suc, ◌+◌, ◌<◌, ◌≤◌, true, List, [], ◌∷◌, length, fold, Option, Some, None, arith, sym, subst, refl}
use Rattle.std.specs.Prelude.{slice_get}
use Rattle.std.proofs.lemmas.Bool.{and_parts}
use Rattle.raid_workload.specs.declared.workload.Workload.{Workload}
use Rattle.raid_message.specs.declared.letter.Message.{Message}
use Rattle.raid_message.specs.declared.letter.Message.TheVariants as letters
use Rattle.raid_message.specs.declared.letter.Letter.{Letter}
use Rattle.raid_message.specs.declared.letter.Pick.{Pick}
use Rattle.raid_steps.specs.State.{SiteState}
use Rattle.raid_steps.specs.World.{World, hear_at, link, open_world, pick, run, finds, is_schedule, is_schedule_from, rounds}
use Rattle.raid_measure.specs.Measure.{letter_cost, servers_cost, measure}
use Rattle.raid_measure.proofs.Opening.{opening_below}
use Rattle.raid_ends.specs.Hearing.{AreReady}
use Rattle.raid_ends.proofs.Links.{outs_cost, Lowers, pick_lowers}
use Rattle.raid_ends.proofs.Monitor.{monitor_lowers}
use Rattle.raid_ends.proofs.Sequencer.{sequencer_lowers}
use Rattle.raid_ends.proofs.Sites.{site_lowers}

module _ (w : Workload) where
  -- a letter to nobody is lost
  nobody : (state : World) (k from : ℕ) (letter : Letter) → slice_get state.servers.sites k ≡ None → Lowers w state (suc (suc k)) from letter
  nobody state k from letter none =
      let some = costs letter.message in
      subst (λ o. outs_cost w (hear_at w state.servers k from letter o).1 + servers_cost w (hear_at w state.servers k from letter o).0 < letter_cost w (suc (suc k)) letter.message + servers_cost w state.servers) (sym none) (omega (arith, some))
    where
      costs : (m : Message) → 1 ≤ letter_cost w (suc (suc k)) m
      costs letters.Stop = omega arith
      costs m = omega arith

  pub pick_falls : (state : World) (p : Pick) → AreReady w state → finds state p ≡ true → measure w (pick w state p) < measure w state
  pick_falls state p ready found = go p.server refl
    where
      at : (server n : ℕ) → server ≡ n → (letter : Letter) (rest : List Letter) → link state.links server p.from ≡ letter ∷ rest → link state.links n p.from ≡ letter ∷ rest
      at server n q letter rest front = subst (λ n. link state.links n p.from ≡ letter ∷ rest) q front

      of_site : (k : ℕ) → p.server ≡ suc (suc k) → (o : Option SiteState) → slice_get state.servers.sites k ≡ o → measure w (pick w state p) < measure w state
      of_site k q (Some s) here =
          let number : p.server ≡ k + 2 = omega (arith, q) in
          site_lowers w state k s here (ready.places k s here) p number (λ letter rest front. ready.sites k s here p.from letter rest (at p.server (k + 2) number letter rest front)) found
      of_site k q None here = pick_lowers w state p (λ letter rest front. subst (λ n. Lowers w state n p.from letter) (sym q) (nobody state k p.from letter here)) found

      go : (n : ℕ) → p.server ≡ n → measure w (pick w state p) < measure w state
      go zero q = monitor_lowers w state p q found
      go (suc zero) q = sequencer_lowers w state p q (λ letter rest front. ready.sequencer p.from letter rest (at p.server 1 q letter rest front)) found
      go (suc (suc k)) q = of_site k q (slice_get state.servers.sites k) refl

  falls_along : (state : World) (ps : List Pick) → ((earlier : List Pick) → AreReady w (fold (pick w) state earlier)) → is_schedule_from w state ps ≡ true → measure w (fold (pick w) state ps) + length ps ≤ measure w state
  falls_along state [] ready q = omega arith
  falls_along state (p ∷ ps) ready q =
      let parts = and_parts (finds state p) (is_schedule_from w (pick w state p) ps) q in
      let first = pick_falls state p (ready []) parts.0 in
      let rest = falls_along (pick w state p) ps (λ earlier. ready (p ∷ earlier)) parts.1 in
      omega (arith, first, rest)

  pub ends : ((earlier : List Pick) → AreReady w (run w earlier)) → (schedule : List Pick) → is_schedule w schedule ≡ true → length schedule < rounds w
  ends ready schedule q =
      let along = falls_along (open_world w) schedule ready q in
      let below = opening_below w in
      omega (arith, along, below)
