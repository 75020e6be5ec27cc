-- A site that is ready for a letter lowers the measure as it hears it.
use Rattle.std.proofs.Common.{◌≡◌, ℕ, zero, suc, ◌+◌, ◌-◌, ◌*◌, ◌<◌, ◌≤◌, ◌==◌, Bool, true, false, ◌&&◌, List, [], ◌∷◌, length, Some, arith, sym, subst, ap, refl}
use Rattle.std.specs.Prelude.{slice_get, slice_set}
use Rattle.std.specs.List.{sum_by}
use Rattle.std.proofs.lemmas.List.Sums.{sum_by-cons}
use Rattle.raid_base.specs.declared.names.Site.{Site}
use Rattle.raid_base.specs.declared.entry.Noted.{Noted}
use Rattle.raid_base.specs.Names.{is_site, has_txn}
use Rattle.raid_base.specs.Sites.{site}
use Rattle.raid_workload.specs.declared.workload.Workload.{Workload}
use Rattle.raid_workload.specs.Parts.{txns, home}
use Rattle.raid_rules.specs.History.{noted}
use Rattle.raid_message.specs.declared.letter.Message.{Message}
use Rattle.raid_message.specs.declared.letter.Message.TheVariants as letters
use Rattle.raid_message.specs.declared.letter.Letter.{Letter}
use Rattle.raid_message.specs.declared.letter.Pick.{Pick}
use Rattle.raid_steps.specs.State.{Turn, SiteState}
use Rattle.raid_steps.specs.Site as rows
use Rattle.raid_steps.specs.World.{World, hear_at, link, pick, finds}
use Rattle.raid_moves.specs.Moves.{Starts, Reached, next_of}
use Rattle.raid_moves.specs.Moves as parts
use Rattle.raid_moves.proofs.Steps.{on}
use Rattle.raid_measure.specs.Measure.{homed_at, letter_cost, site_cost, servers_cost, measure}
use Rattle.raid_measure.proofs.Sums.{sum_grows, one_if}
use Rattle.raid_ends.specs.Ready.{Ready}
use Rattle.raid_ends.proofs.Links.{outs_cost, Lowers, pick_lowers}
use Rattle.raid_ends.proofs.Programs.{runs, may_take_up, few_run}
use Rattle.raid_ends.proofs.Site.{again_cost, is_up_note}
use Rattle.raid_ends.proofs.Rows as rows_cost
use Rattle.raid_ends.proofs.UpNotes.{up_note_falls}

module _ (w : Workload) (p : List Noted) (state : SiteState) (from : ℕ) (letter : Letter) (server : ℕ) (number : server ≡ state.site.0 + 1) (ready : Ready w p state from letter) where
  -- no more programs run than there are transactions at home
  few_home : length state.running ≤ homed_at w state.site
  few_home =
      let run = few_run w p state.site state.running ready.once ready.own in
      let all = sum_grows (λ t. one_if (is_site state.site (home w t) && runs state.running t)) (λ t. one_if (is_site state.site (home w t))) (λ t. fewer (is_site state.site (home w t)) (runs state.running t)) (txns w) in
      omega (arith, run, all)
    where
      fewer : (a b : Bool) → one_if (a && b) ≤ one_if a
      fewer true true = omega arith
      fewer true false = omega arith
      fewer false b = omega arith

  addressee : site (server - 1) ≡ state.site
  addressee = ap site (let e : server - 1 ≡ state.site.0 = omega (arith, number) in e)

  -- each letter pays itself, and a note of a Down or an Up what the programs here may do for it
  pays : (m : Message) → 1 + again_cost m * length state.running ≤ letter_cost w server m
  pays (letters.DownNote z) = let few : length state.running ≤ homed_at w (site (server - 1)) = subst (λ r. length state.running ≤ homed_at w r) (sym addressee) few_home in omega (arith, few)
  pays (letters.Stop) = omega arith
  pays m = omega arith

  pays_up : (m : Message) → is_up_note m ≡ true → 1 + 2 * length state.running ≤ letter_cost w server m
  pays_up (letters.UpNote z n) e = let few : length state.running ≤ homed_at w (site (server - 1)) = subst (λ r. length state.running ≤ homed_at w r) (sym addressee) few_home in omega (arith, few)
  pays_up m e = absurd (cc e)

  abbrev Falls : Type 0
  Falls = outs_cost w (rows.hear_site w state from letter).outs + site_cost w p (rows.hear_site w state from letter).state < letter_cost w server letter.message + site_cost w p state

  others : is_up_note letter.message ≡ false → Falls
  others other = rows_cost.step_costs w p state.site ready.known state from letter server sound (λ turn. Reached w state from letter turn) starts
      (λ after r. (after, (r, parts.done))) (λ turn after m a r. (r.0, (r.1.0, on w state from letter r.1.1 (parts.moves m parts.done))))
    where
      starts : Starts w state from letter → (turn : Turn SiteState) → Reached w state from letter turn → turn.state.site ≡ state.site → (turn.state.next == 0) ≡ false → (has_txn (txns w) (next_of turn) ≡ true) × (may_take_up w p state.site turn.state.running (next_of turn) ≡ true)
      starts b turn r place n = let may = ready.starts b turn r n in (may.0, subst (λ z. may_take_up w p z turn.state.running (next_of turn) ≡ true) place may.1)

      sound : rows_cost.Sound w p state.site ready.known state from letter server
      sound = record {
        place = refl;
        ascend = ready.once;
        few = ready.together;
        pays = pays letter.message;
        done = ready.done;
        dropped = ready.dropped;
        gives = λ r k x q v f e. (let g = ready.gives r k x q v f e in record { more = g.more; few = g.few; room = g.room });
        retries = ready.retries;
        other = other;
      }

  is_one : (m : Message) → letter.message ≡ m → is_up_note m ≡ true → Falls
  is_one (letters.UpNote z n) is e = up_note_falls w p state.site ready.known state from letter z n is refl ready.once (letter_cost w server letter.message) (pays_up letter.message (ap is_up_note is))
  is_one m is e = absurd (cc e)

  pub site_falls : Falls
  site_falls = go (is_up_note letter.message) refl
    where
      go : (b : Bool) → is_up_note letter.message ≡ b → Falls
      go true q = is_one letter.message refl q
      go false q = others q

-- one site's part of the sum
set_one : {X : Type 0} (f : X → ℕ) (xs : List X) (k : ℕ) (x y : X) → slice_get xs k ≡ Some x → sum_by f (slice_set xs k y) + f x ≡ sum_by f xs + f y
set_one f [] k x y q = absurd (cc q)
set_one f (z ∷ zs) zero x y q = let same : z ≡ x = cc q in let e = ap f same in omega (arith, e, sum_by-cons f y zs, sum_by-cons f z zs)
set_one f (z ∷ zs) (suc k) x y q = let rest = set_one f zs k x y q in omega (arith, rest, sum_by-cons f z (slice_set zs k y), sum_by-cons f z zs)

module _ (w : Workload) (state : World) (k : ℕ) (s : SiteState) (at : slice_get state.servers.sites k ≡ Some s) (place : s.site ≡ site (k + 1)) where
  lowers_at : (from : ℕ) (letter : Letter) → Ready w (noted state.servers.sequencer.history) s from letter → Lowers w state (suc (suc k)) from letter
  lowers_at from letter ready =
      let turn = rows.hear_site w s from letter in
      let number : suc (suc k) ≡ s.site.0 + 1 = (let e = ap (λ (r : Site). r.0) place in omega (arith, e)) in
      let falls = site_falls w (noted state.servers.sequencer.history) s from letter (suc (suc k)) number ready in
      let sum = set_one (site_cost w (noted state.servers.sequencer.history)) state.servers.sites k s turn.state at in
      subst (λ o. outs_cost w (hear_at w state.servers k from letter o).1 + servers_cost w (hear_at w state.servers k from letter o).0 < letter_cost w (suc (suc k)) letter.message + servers_cost w state.servers) (sym at) (omega (arith, falls, sum))

  pub site_lowers : (p : Pick) → p.server ≡ k + 2 → ((letter : Letter) (rest : List Letter) → link state.links p.server p.from ≡ letter ∷ rest → Ready w (noted state.servers.sequencer.history) s p.from letter) →
      finds state p ≡ true → measure w (pick w state p) < measure w state
  site_lowers p q ready found =
      let number : suc (suc k) ≡ p.server = omega (arith, q) in
      pick_lowers w state p (λ letter rest front. subst (λ n. Lowers w state n p.from letter) number (lowers_at p.from letter (ready letter rest front))) found
