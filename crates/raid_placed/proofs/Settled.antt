-- Placing the forced entries keeps a history placed, and goes on until none is forced.
use Rattle.std.proofs.Common.{◌≡◌, ℕ, zero, suc, ◌+◌, ◌-◌, ◌*◌, ◌<◌, ◌≤◌, Bool, true, false, List, [], ◌∷◌, ◌++◌, length, if◌then◌else◌, Option, Some, None, arith, sym, subst, refl, ◌∙◌}
use Rattle.std.specs.Prelude.{filter}
use Rattle.std.specs.Option.{option_map_or}
use Rattle.std.proofs.lemmas.Bool.{true≢false}
use Rattle.std.proofs.lemmas.Grind.{common_steps}
use Rattle.raid_base.specs.declared.names.Txn.{Txn}
use Rattle.raid_base.specs.declared.entry.Entry.{Entry}
use Rattle.raid_base.specs.declared.entry.Entry.TheVariants.{SwitchOn, SwitchEnd}
use Rattle.raid_base.specs.declared.entry.Noted.{Noted}
use Rattle.raid_base.specs.declared.verdict.Kind.{Kind}
use Rattle.raid_base.specs.declared.verdict.Method.{Method}
use Rattle.raid_base.specs.declared.verdict.Method.TheVariants.{Generic, Convert, Suffix}
use Rattle.raid_workload.specs.declared.workload.Workload.{Workload}
use Rattle.raid_workload.specs.Parts.{txns}
use Rattle.raid_rules.specs.History.{noted, add, is_running}
use Rattle.raid_rules.proofs.Push.{noted_push}
use Rattle.raid_rules.proofs.Places.{by_last}
use Rattle.raid_legal.specs.Seen.{running}
use Rattle.raid_legal.specs.InForce.{InForce, in_force, is_joint, turn, turn_on, turn_end}
use Rattle.raid_legal.specs.Forced.{forced}
use Rattle.raid_legal.proofs.Left.{Compels, Known, forced_compels, forced_falls}
use Rattle.raid_serial.proofs.Facts.{some_is, none_is}
use Rattle.raid_serial.proofs.Force.{in_force_push}
use Rattle.raid_serial.proofs.Ordered.{run_begun}
use Rattle.raid_steps.specs.State.{Turn, Sequencer}
use Rattle.raid_steps.specs.Sequencer.{so_far, place, settle_from, settle, Settles, quiet, more}
use Rattle.raid_placed.specs.Placed.{Goes, Placeable, Placed, to_force}
use Rattle.raid_placed.proofs.Sent.{placed_push, forced_placeable}
use Rattle.raid_placed.proofs.Orderly.{placed_known}

-- each forced entry leaves fewer to be forced
runs_known : (w : Workload) (h : List Entry) → Placed w h → Known w (noted h)
runs_known w h l t run = placed_known w h l t (run_begun (noted h) t run)

pub placed_falls : (w : Workload) (h : List Entry) (e : Entry) → Placed w h → forced w (noted h) ≡ Some e → to_force w (add (noted h) e) < to_force w (noted h)
placed_falls w h e l q = forced_falls w (noted h) e (runs_known w h l) (forced_compels w (noted h) e q)

-- no more switches come on than the workload has, and one is on only after one came on
pub record Counted (w : Workload) (f : InForce) : Type 0 where
  pub some_on : is_joint f ≡ true → 0 < f.switches
  pub within : f.switches ≤ length w.switches

turned_on : (w : Workload) (p : List Noted) (f : InForce) (at : ℕ) (kind : Kind) (method : Method) → (turn_on w p f at kind method).switches ≡ f.switches + 1
turned_on w p f at kind Generic = refl
turned_on w p f at kind Convert = refl
turned_on w p f at kind Suffix = refl

ended_counted : (w : Workload) (f : InForce) (o : Option (Kind × ℕ)) → Counted w f → Counted w (turn_end f o)
ended_counted w f None c = c
ended_counted w f (Some n) c = record { some_on = λ q. absurd (true≢false (sym q)); within = c.within }

turn_counted : (w : Workload) (p : List Noted) (at : ℕ) (e : Entry) (o : Option Entry) → forced w p ≡ o → Goes w p e o → Counted w (in_force w p) → Counted w (turn w p (in_force w p) at e)
turn_counted w p at (SwitchOn k kind method) None q g c = absurd g
turn_counted w p at (SwitchOn k kind method) (Some must) q g c =
    let room = (subst (Compels w p) (sym g) (forced_compels w p must q)).0 in
    record {
      some_on = λ j. subst (λ n. 0 < n) (sym (turned_on w p (in_force w p) at kind method)) (omega arith);
      within = subst (λ n. n ≤ length w.switches) (sym (turned_on w p (in_force w p) at kind method)) (omega (arith, room));
    }
turn_counted w p at (SwitchEnd k) o q g c = ended_counted w (in_force w p) (in_force w p).next c
turn_counted w p at other o q g c = c

placed_counted : (w : Workload) (h : List Entry) → Placed w h → Counted w (in_force w (noted h))
placed_counted w = by_last (λ h. Placed w h → Counted w (in_force w (noted h))) (λ l. record { some_on = λ q. absurd (true≢false (sym q)); within = omega arith }) step
  where
    step : (h : List Entry) (e : Entry) → (Placed w h → Counted w (in_force w (noted h))) → Placed w (h ++ e ∷ []) → Counted w (in_force w (noted (h ++ e ∷ [])))
    step h e rest l =
        let q = (placed_push w h e).0 l in
        subst (λ p. Counted w (in_force w p)) (sym (noted_push h e))
        (subst (Counted w) (sym (in_force_push w (noted h) e)) (turn_counted w (noted h) (length (noted h) + 1) e (forced w (noted h)) refl q.1 (rest q.0)))

fits_bound : (a b s n : ℕ) (joint : Bool) → a ≤ b → s ≤ n → (joint ≡ true → 0 < s) → a + (2 * (n - s) + (if joint then 1 else 0)) ≤ b + 2 * n
fits_bound a b s n true le within c = omega (arith, le, within, c refl)
fits_bound a b s n false le within c = omega (arith, le)

filter_within : (f : Txn → Bool) (ts : List Txn) → length (filter f ts) ≤ length ts
filter_within f [] = grind arith
filter_within f (x ∷ ts) = grind (arith, common_steps, filter_within f ts)

pub placed_bound : (w : Workload) (h : List Entry) → Placed w h → to_force w (noted h) ≤ length (txns w) + 2 * length w.switches
placed_bound w h l =
    let p = noted h in
    let c = placed_counted w h l in
    fits_bound (length (running w p)) (length (txns w)) (in_force w p).switches (length w.switches) (is_joint (in_force w p)) (filter_within (is_running p) (txns w)) c.within c.some_on

-- an entry that may be placed is placed
pub place_placed : (w : Workload) (ask : ℕ) (turn : Turn Sequencer) (e : Entry) → Placed w turn.state.history → Placeable w (so_far turn) e → Placed w (place w ask turn e).state.history
place_placed w ask turn e l a = (placed_push w turn.state.history e).1 (l, a)

pub forced_placed : (w : Workload) (turn : Turn Sequencer) (e : Entry) → Placed w turn.state.history → forced w (so_far turn) ≡ Some e → Placed w (place w 0 turn e).state.history
forced_placed w turn e l q = place_placed w 0 turn e l (forced_placeable w (so_far turn) e q)

forced_fewer : (w : Workload) (turn : Turn Sequencer) (e : Entry) → Placed w turn.state.history → forced w (so_far turn) ≡ Some e →
    to_force w (so_far (place w 0 turn e)) < to_force w (so_far turn)
forced_fewer w turn e l q =
    subst (λ p. to_force w p < to_force w (so_far turn)) (sym (noted_push turn.state.history e)) (placed_falls w turn.state.history e l q)

-- whatever the bound, the history stays placed
settle_from_placed : (w : Workload) (n : ℕ) (turn : Turn Sequencer) → Placed w turn.state.history → Placed w (settle_from w n turn).state.history
settle_from_placed w zero turn l = l
settle_from_placed w (suc n) turn l = step (λ e. settle_from_placed w n (place w 0 turn e)) (forced w (so_far turn)) refl where
  step : ((e : Entry) → Placed w (place w 0 turn e).state.history → Placed w (settle_from w n (place w 0 turn e)).state.history) → (o : Option Entry) → forced w (so_far turn) ≡ o →
      Placed w (option_map_or (λ e. settle_from w n (place w 0 turn e)) o turn).state.history
  step rest None q = l
  step rest (Some e) q = rest e (forced_placed w turn e l q)

pub settle_placed : (w : Workload) (turn : Turn Sequencer) → Placed w turn.state.history → Placed w (settle w turn).state.history
settle_placed w turn l = settle_from_placed w _ turn l

-- a bound that isn't met leaves none forced
settle_from_settles : (w : Workload) (n : ℕ) (turn : Turn Sequencer) → Placed w turn.state.history → to_force w (so_far turn) ≤ n → Settles w turn (settle_from w n turn)
settle_from_settles w zero turn l le = step (forced w (so_far turn)) refl where
  step : (o : Option Entry) → forced w (so_far turn) ≡ o → Settles w turn turn
  step None q = quiet q
  step (Some e) q = absurd (omega (arith, forced_fewer w turn e l q, le))
settle_from_settles w (suc n) turn l le = step (λ e. settle_from_settles w n (place w 0 turn e)) (forced w (so_far turn)) refl where
  step : ((e : Entry) → Placed w (place w 0 turn e).state.history → to_force w (so_far (place w 0 turn e)) ≤ n → Settles w (place w 0 turn e) (settle_from w n (place w 0 turn e))) →
      (o : Option Entry) → forced w (so_far turn) ≡ o → Settles w turn (option_map_or (λ e. settle_from w n (place w 0 turn e)) o turn)
  step rest None q = quiet q
  step rest (Some e) q = more q (rest e (forced_placed w turn e l q) (omega (arith, forced_fewer w turn e l q, le)))

pub settle_settles : (w : Workload) (turn : Turn Sequencer) → Placed w turn.state.history → Settles w turn (settle w turn)
settle_settles w turn l = settle_from_settles w _ turn l (placed_bound w turn.state.history l)

settles_quiet : (w : Workload) (turn last : Turn Sequencer) → Settles w turn last → forced w (so_far last) ≡ None
settles_quiet w turn last (quiet q) = q
settles_quiet w turn last (more q rest) = settles_quiet w _ last rest

pub settle_quiet : (w : Workload) (turn : Turn Sequencer) → Placed w turn.state.history → forced w (so_far (settle w turn)) ≡ None
settle_quiet w turn l = settles_quiet w turn (settle w turn) (settle_settles w turn l)

-- there is one way to settle, and it goes step by step
settles_same : (w : Workload) (turn a b : Turn Sequencer) → Settles w turn a → Settles w turn b → a ≡ b
settles_same w turn a b (quiet q) (quiet r) = refl
settles_same w turn a b (quiet q) (more {e = e} r rest) = absurd (none_is e (sym q ∙ r))
settles_same w turn a b (more {e = e} q rest) (quiet r) = absurd (none_is e (sym r ∙ q))
settles_same w turn a b (more {e = e} q rest) (more {e = d} r other) =
    settles_same w (place w 0 turn e) a b rest (subst (λ z. Settles w (place w 0 turn z) b) (some_is d e (sym r ∙ q)) other)

pub settled_is : (w : Workload) (turn last : Turn Sequencer) → Placed w turn.state.history → Settles w turn last → last ≡ settle w turn
settled_is w turn last l s = settles_same w turn last (settle w turn) s (settle_settles w turn l)

pub settle_done : (w : Workload) (turn : Turn Sequencer) → Placed w turn.state.history → forced w (so_far turn) ≡ None → settle w turn ≡ turn
settle_done w turn l q = sym (settled_is w turn turn l (quiet q))

pub settle_step : (w : Workload) (turn : Turn Sequencer) (e : Entry) → Placed w turn.state.history → forced w (so_far turn) ≡ Some e → settle w turn ≡ settle w (place w 0 turn e)
settle_step w turn e l q = sym (settled_is w turn (settle w (place w 0 turn e)) l (more q (settle_settles w (place w 0 turn e) (forced_placed w turn e l q))))
