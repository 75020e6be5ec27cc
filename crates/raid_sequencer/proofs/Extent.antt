-- Each entry that a letter asks for lets the history become longer by one, and forced ones were counted already.
use Rattle.std.proofs.Common.{◌≡◌, ℕ, ◌+◌, ◌-◌, ◌*◌, ◌<◌, ◌≤◌, Bool, true, false, not, ◌&&◌, List, [], ◌∷◌, ◌++◌, length, Option, Some, None, if◌then◌else◌, arith, sym, subst, ap, ◌∙◌, refl}
use Rattle.std.specs.Prelude.{filter}
use Rattle.std.proofs.lemmas.List.{length-append}
use Rattle.std.proofs.lemmas.Bool.{true≢false}
use Rattle.std.proofs.lemmas.Grind.{common_steps}
use Rattle.raid_base.specs.declared.names.Txn.{Txn}
use Rattle.raid_base.specs.declared.entry.Entry.{Entry}
use Rattle.raid_base.specs.declared.entry.Entry.TheVariants.{Begin, Read, Wait, Commit, Abort, Ack, SwitchOn, SwitchEnd, Down, Up, Clear}
use Rattle.raid_base.specs.declared.entry.Noted.{Noted}
use Rattle.raid_workload.specs.declared.workload.Workload.{Workload}
use Rattle.raid_workload.specs.Parts.{txns}
use Rattle.raid_rules.specs.History.{noted, add, next, has_begun, has_ended, is_running}
use Rattle.raid_rules.specs.Order.{is_seen, IsWhole}
use Rattle.raid_rules.proofs.Push.{noted_push}
use Rattle.raid_legal.specs.InForce.{InForce, is_joint}
use Rattle.raid_legal.specs.Forced.{forced}
use Rattle.raid_switch.specs.Force.{turns_nothing}
use Rattle.raid_placed.specs.Placed.{Goes, Placeable, Placed, Sent, to_force}
use Rattle.raid_placed.proofs.Orderly.{placed_whole}
use Rattle.raid_placed.proofs.Settled.{placed_falls}
use Rattle.raid_placed.proofs.Growth.{placed_same}
use Rattle.raid_sequencer.specs.Extent.{unasked, extent}

-- a stricter test leaves no more
filter_fewer : (f g : Txn → Bool) (ts : List Txn) → ((u : Txn) → g u ≡ true → f u ≡ true) → length (filter g ts) ≤ length (filter f ts)
filter_fewer f g [] h = grind arith
filter_fewer f g (x ∷ ts) h = grind (arith, common_steps, filter_fewer f g ts h, h x)

-- who hasn't ended runs or hasn't begun
split_step : (begun ended : Bool) (a b c : ℕ) → (ended ≡ true → begun ≡ true) → a ≡ b + c →
    (if not ended then 1 else 0) + a ≡ ((if begun && not ended then 1 else 0) + b) + ((if not begun then 1 else 0) + c)
split_step true true a b c h e = omega (arith, e)
split_step true false a b c h e = omega (arith, e)
split_step false true a b c h e = absurd (true≢false (sym (h refl)))
split_step false false a b c h e = omega (arith, e)

counted : (f : Txn → Bool) (x : Txn) (ts : List Txn) → length (filter f (x ∷ ts)) ≡ (if f x then 1 else 0) + length (filter f ts)
counted f x ts = grind (arith, common_steps)

split : (p : List Noted) (ts : List Txn) → ((t : Txn) → has_ended p t ≡ true → has_begun p t ≡ true) →
    length (filter (λ t. not (has_ended p t)) ts) ≡ length (filter (is_running p) ts) + length (filter (λ t. not (has_begun p t)) ts)
split p [] h = refl
split p (x ∷ ts) h =
    counted (λ t. not (has_ended p t)) x ts
    ∙ split_step (has_begun p x) (has_ended p x) _ _ _ (h x) (split p ts h)
    ∙ sym (ap (λ n. n + length (filter (λ t. not (has_begun p t)) (x ∷ ts))) (counted (is_running p) x ts)
    ∙ ap (λ n. ((if is_running p x then 1 else 0) + length (filter (is_running p) ts)) + n) (counted (λ t. not (has_begun p t)) x ts))

-- who has ended has begun
ends_seen : (t : Txn) (p : List Noted) → has_ended p t ≡ true → is_seen p t ≡ true
ends_seen t [] e = absurd (true≢false (sym e))
ends_seen t (n ∷ p) e = grind (arith, common_steps, e, ends_seen t p)

ended_begun : (p : List Noted) → IsWhole p → (t : Txn) → has_ended p t ≡ true → has_begun p t ≡ true
ended_begun p whole t e = whole t (ends_seen t p e)

-- what can still come unasked is what can be forced, and an end for each that hasn't begun
abbrev pub unbegun : Workload → List Noted → ℕ
unbegun w p = length (filter (λ t. not (has_begun p t)) (txns w))

unasked_is : (w : Workload) (h : List Entry) → Placed w h → unasked w (noted h) ≡ to_force w (noted h) + unbegun w (noted h)
unasked_is w h l = omega (arith, split (noted h) (txns w) (ended_begun (noted h) (placed_whole w h l)))

begun_stays : (p : List Noted) (n : Noted) (t : Txn) → not (has_begun (p ++ n ∷ []) t) ≡ true → not (has_begun p t) ≡ true
begun_stays p n t e = grind (arith, common_steps, e)

ended_stays : (p : List Noted) (n : Noted) (t : Txn) → not (has_ended (p ++ n ∷ []) t) ≡ true → not (has_ended p t) ≡ true
ended_stays p n t e = grind (arith, common_steps, e)

unbegun_fewer : (w : Workload) (p : List Noted) (e : Entry) → unbegun w (add p e) ≤ unbegun w p
unbegun_fewer w p e = filter_fewer (λ t. not (has_begun p t)) (λ t. not (has_begun (add p e) t)) (txns w) (begun_stays p (next p e))

-- a forced entry was counted
forced_fewer : (w : Workload) (h : List Entry) (e : Entry) → Placed w h → Placed w (h ++ e ∷ []) → forced w (noted h) ≡ Some e → unasked w (add (noted h) e) < unasked w (noted h)
forced_fewer w h e l after q =
    let is_after = subst (λ p. unasked w p ≡ to_force w p + unbegun w p) (noted_push h e) (unasked_is w (h ++ e ∷ []) after) in
    omega (arith, is_after, unasked_is w h l, unbegun_fewer w (noted h) e, placed_falls w h e l q)

-- any other leaves no more
other_fewer : (w : Workload) (p : List Noted) (e : Entry) → turns_nothing e ≡ true → unasked w (add p e) ≤ unasked w p
other_fewer w p e still =
    omega (
      arith,
      filter_fewer (λ t. not (has_ended p t)) (λ t. not (has_ended (add p e) t)) (txns w) (ended_stays p (next p e)),
      ap (λ (f : InForce). 2 * (length w.switches - f.switches) + (if is_joint f then 1 else 0)) (placed_same w p e still),
    )

sent_still : (w : Workload) (p : List Noted) (e : Entry) → Sent w p e → turns_nothing e ≡ true
sent_still w p (SwitchOn k kind method) s = absurd s
sent_still w p (SwitchEnd k) s = absurd s
sent_still w p (Begin t s) x = refl
sent_still w p (Read t x s) y = refl
sent_still w p (Wait t request) x = refl
sent_still w p (Commit t request applied) x = refl
sent_still w p (Abort t cause act) x = refl
sent_still w p (Ack t s) x = refl
sent_still w p (Down s) x = refl
sent_still w p (Up s session) x = refl
sent_still w p (Clear s x v) y = refl

longer : (h : List Entry) (e : Entry) → length (h ++ e ∷ []) ≡ length h + 1
longer h e = omega (arith, length-append h (e ∷ []))

pub forced_extent : (w : Workload) (h : List Entry) (e : Entry) → Placed w h → Placed w (h ++ e ∷ []) → forced w (noted h) ≡ Some e → extent w (h ++ e ∷ []) ≤ extent w h
forced_extent w h e l after q =
    let fewer = forced_fewer w h e l after q in
    let same = ap (unasked w) (noted_push h e) in
    omega (arith, longer h e, fewer, same)

pub placed_extent : (w : Workload) (h : List Entry) (e : Entry) → Placed w h → Placed w (h ++ e ∷ []) → Placeable w (noted h) e → extent w (h ++ e ∷ []) ≤ extent w h + 1
placed_extent w h e l after goes = by_forced (forced w (noted h)) refl goes where
  by_forced : (o : Option Entry) → forced w (noted h) ≡ o → Goes w (noted h) e o → extent w (h ++ e ∷ []) ≤ extent w h + 1
  by_forced (Some must) q g = omega (arith, forced_extent w h e l after (subst (λ m. forced w (noted h) ≡ Some m) (sym g) q))
  by_forced None q g =
      let fewer = other_fewer w (noted h) e (sent_still w (noted h) e g) in
      let same = ap (unasked w) (noted_push h e) in
      omega (arith, longer h e, fewer, same)

-- at the start
pub opening_extent : (w : Workload) → extent w [] ≤ length (txns w) + (2 * length w.switches + 0)
opening_extent w = omega (arith, all_there (txns w)) where
  all_there : (ts : List Txn) → length (filter (λ t. not (has_ended [] t)) ts) ≤ length ts
  all_there [] = omega arith
  all_there (x ∷ ts) = grind (arith, common_steps, all_there ts)
