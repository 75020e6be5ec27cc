-- How the waiting requests of a placed history change.
use Rattle.std.proofs.Common.{◌≡◌, ℕ, ◌==◌, ◌||◌, ◌&&◌, Bool, true, false, not, cond, List, [], ◌∷◌, ◌++◌, arith, sym, ◌∙◌, ap, subst, refl, append-nil, Option, Some, None, inl, inr}
use Rattle.std.specs.List.{filter, filter_map, cons_option}
use Rattle.std.proofs.lemmas.Bool.{true≢false, and_parts, eqb-true}
use Rattle.std.proofs.lemmas.Grind.{common_steps}
use Rattle.std.proofs.lemmas.List.Elements.{filter-append, filter_map-append}
use Rattle.raid_base.specs.declared.names.Txn.{Txn}
use Rattle.raid_base.specs.declared.request.Request.{Request}
use Rattle.raid_base.specs.declared.entry.Entry.{Entry}
use Rattle.raid_base.specs.declared.entry.Entry.TheVariants.{Begin, Read, Wait, Commit, Abort, Ack, SwitchOn, SwitchEnd, Down, Up, Clear}
use Rattle.raid_base.specs.declared.entry.Noted.{Noted}
use Rattle.raid_base.specs.Names.{is_txn}
use Rattle.raid_workload.specs.declared.workload.Workload.{Workload}
use Rattle.raid_rules.specs.Entries.{is_begin_of, is_end_of, wait_of}
use Rattle.raid_rules.specs.History.{noted, add, next, has_begun, is_running, is_waiting, waiting}
use Rattle.raid_rules.specs.Order.{is_of}
use Rattle.raid_legal.specs.Forced.{forced}
use Rattle.raid_legal.proofs.Left.{Compels, forced_compels}
use Rattle.raid_serial.proofs.Facts.{Fact, some_is, none_is, not_off}
use Rattle.raid_serial.proofs.Ordered.{Ordered}
use Rattle.raid_serial.proofs.Translate.{Has, has_any, not_true, eq_self}
use Rattle.raid_serial.proofs.Views.{same_tests}
use Rattle.raid_rules.proofs.Push.{same_txn}
use Rattle.raid_placed.specs.Placed.{Placeable, Placed, Goes}
use Rattle.raid_placed.specs.Waiting.{turn_waiting}
use Rattle.raid_placed.proofs.Sent.{placed_fact}
use Rattle.raid_placed.proofs.Orderly.{placed_ordered}

-- who waits has a Wait
wait_own : (e : Entry) (r : Txn × Request) → wait_of e ≡ Some r → is_of r.0 e ≡ true
wait_own (Wait t request) r q = subst (λ z. is_of z.0 (Wait t request) ≡ true) (some_is (t, request) r q) (grind (arith, common_steps))
wait_own other r q = absurd (none_is r q)

begin_not : (w : Workload) (p : List Noted) (e : Entry) (t : Txn) → Fact w p e → has_begun p t ≡ true → is_begin_of t e ≡ false
begin_not w p (Begin u home) t f b = not_true (is_txn t u) (λ q. true≢false (sym b ∙ subst (λ z. has_begun p z ≡ false) (same_txn u t q) f.1))
begin_not w p other t f b = refl

-- who has begun runs on, but for its end
runs_on : (p : List Noted) (n : Noted) (t : Txn) → is_begin_of t n.entry ≡ false → is_running (p ++ n ∷ []) t ≡ (is_running p t && not (is_end_of t n.entry))
runs_on p n t none = grind (arith, common_steps, none)

-- the requests of a part of the history whose transactions have all begun: filters alike on those that have are alike
alike_waits : (p ns : List Noted) (f g : Txn → Bool) → ((t : Txn) (n : Noted) → Has n ns → is_of t n.entry ≡ true → f t ≡ g t) →
    filter (λ r. f r.0) (filter_map (λ n. wait_of n.entry) ns) ≡ filter (λ r. g r.0) (filter_map (λ n. wait_of n.entry) ns)
alike_waits p [] f g h = refl
alike_waits p (n ∷ ns) f g h = step (wait_of n.entry) refl (alike_waits p ns f g (λ t m i q. h t m (inr i) q))
  where
    W : List (Txn × Request)
    W = filter_map (λ n. wait_of n.entry) ns

    step : (o : Option (Txn × Request)) → wait_of n.entry ≡ o → filter (λ r. f r.0) W ≡ filter (λ r. g r.0) W → filter (λ r. f r.0) (cons_option o W) ≡ filter (λ r. g r.0) (cons_option o W)
    step None q rest = rest
    step (Some r) q rest =
        ap (λ b. cond b (r ∷ filter (λ r. f r.0) W) (filter (λ r. f r.0) W)) (h r.0 n (inl refl) (wait_own n.entry r q))
        ∙ ap (λ ys. cond (g r.0) (r ∷ ys) ys) rest

both : (f g : Txn → Bool) (rs : List (Txn × Request)) → filter (λ r. f r.0) (filter (λ r. g r.0) rs) ≡ filter (λ r. g r.0 && f r.0) rs
both f g [] = refl
both f g (x ∷ xs) = step (g x.0) (both f g xs)
  where
    step : (b : Bool) → filter (λ r. f r.0) (filter (λ r. g r.0) xs) ≡ filter (λ r. g r.0 && f r.0) xs →
        filter (λ r. f r.0) (cond b (x ∷ filter (λ r. g r.0) xs) (filter (λ r. g r.0) xs)) ≡ cond (b && f x.0) (x ∷ filter (λ r. g r.0 && f r.0) xs) (filter (λ r. g r.0 && f r.0) xs)
    step true q = ap (λ ys. cond (f x.0) (x ∷ ys) ys) q
    step false q = q

module _ (w : Workload) (p : List Noted) (o : Ordered p) where
  abbrev asked : List (Txn × Request)
  asked = filter_map (λ n. wait_of n.entry) p

  stays : (e : Entry) → Fact w p e → filter (λ r. is_running (add p e) r.0) asked ≡ filter (λ r. is_running p r.0 && not (is_end_of r.0 e)) asked
  stays e f = alike_waits p p (is_running (add p e)) (λ t. is_running p t && not (is_end_of t e)) (λ t m i q. runs_on p (next p e) t (begin_not w p e t f (o.whole t (has_any (λ n. is_of t n.entry) p m i q))))

  split : (e : Entry) → waiting (add p e) ≡ filter (λ r. is_running (add p e) r.0) asked ++ filter (λ r. is_running (add p e) r.0) (filter_map (λ n. wait_of n.entry) (next p e ∷ []))
  split e =
      ap (filter (λ r. is_running (add p e) r.0)) (filter_map-append (λ n. wait_of n.entry) p (next p e ∷ []))
      ∙ filter-append (λ r. is_running (add p e) r.0) asked (filter_map (λ n. wait_of n.entry) (next p e ∷ []))

  -- an entry that is no Wait and ends nobody
  others : (e : Entry) → Fact w p e → wait_of e ≡ None → ((t : Txn) → is_end_of t e ≡ false) → waiting (add p e) ≡ waiting p
  others e f none ends =
      split e
      ∙ ap (λ xs. xs ++ filter (λ r. is_running (add p e) r.0) (filter_map (λ n. wait_of n.entry) (next p e ∷ []))) (stays e f ∙ alike_waits p p (λ t. is_running p t && not (is_end_of t e)) (is_running p) (λ t m i q. ap (λ b. is_running p t && not b) (ends t) ∙ and_true (is_running p t)))
      ∙ ap (λ c. waiting p ++ filter (λ r. is_running (add p e) r.0) (cons_option c [])) none
      ∙ append-nil (waiting p)
    where
      and_true : (b : Bool) → (b && not false) ≡ b
      and_true true = refl
      and_true false = refl

  -- an end of t
  ended : (e : Entry) (t : Txn) → Fact w p e → wait_of e ≡ None → ((u : Txn) → is_end_of u e ≡ is_txn u t) → waiting (add p e) ≡ filter (λ r. not (is_txn t r.0)) (waiting p)
  ended e t f none ends =
      split e
      ∙ ap (λ xs. xs ++ filter (λ r. is_running (add p e) r.0) (filter_map (λ n. wait_of n.entry) (next p e ∷ []))) (stays e f ∙ alike_waits p p (λ u. is_running p u && not (is_end_of u e)) (λ u. is_running p u && not (is_txn t u)) (λ u m i q. ap (λ b. is_running p u && not b) (ends u ∙ turned u.0 t.0)) ∙ sym (both (λ u. not (is_txn t u)) (is_running p) asked))
      ∙ ap (λ c. filter (λ r. not (is_txn t r.0)) (waiting p) ++ filter (λ r. is_running (add p e) r.0) (cons_option c [])) none
      ∙ append-nil (filter (λ r. not (is_txn t r.0)) (waiting p))
    where
      turned : (a b : ℕ) → (b == a) ≡ (a == b)
      turned a b = same_tests (b == a) (a == b) (λ r. eq_self a b (sym (eqb-true b a r))) (λ r. eq_self b a (sym (eqb-true a b r)))

  waits : (t : Txn) (request : Request) → is_running p t ≡ true → waiting (add p (Wait t request)) ≡ waiting p ++ (t, request) ∷ []
  waits t request run =
      let e : Entry = Wait t request in
      split e
      ∙ ap (λ xs. xs ++ filter (λ r. is_running (add p e) r.0) ((t, request) ∷ [])) (stays e run ∙ alike_waits p p (λ u. is_running p u && true) (is_running p) (λ u m i q. and_true (is_running p u)))
      ∙ ap (λ b. waiting p ++ cond b ((t, request) ∷ []) []) (runs_on p (next p e) t refl ∙ and_true (is_running p t) ∙ run)
    where
      and_true : (b : Bool) → (b && true) ≡ b
      and_true true = refl
      and_true false = refl

  or_false : (b : Bool) → (b || false) ≡ b
  or_false true = refl
  or_false false = refl

  turns : (e : Entry) → Fact w p e → waiting (add p e) ≡ turn_waiting (waiting p) e
  turns (Wait t request) f = waits t request f
  turns (Commit t request applied) f = ended (Commit t request applied) t f refl (λ u. or_false (is_txn u t))
  turns (Abort t cause act) f = ended (Abort t cause act) t f refl (λ u. refl)
  turns (Begin t home) f = others (Begin t home) f refl (λ u. refl)
  turns (Read t x site) f = others (Read t x site) f refl (λ u. refl)
  turns (Ack t site) f = others (Ack t site) f refl (λ u. refl)
  turns (SwitchOn k kind method) f = others (SwitchOn k kind method) f refl (λ u. refl)
  turns (SwitchEnd k) f = others (SwitchEnd k) f refl (λ u. refl)
  turns (Down site) f = others (Down site) f refl (λ u. refl)
  turns (Up site session) f = others (Up site session) f refl (λ u. refl)
  turns (Clear site x version) f = others (Clear site x version) f refl (λ u. refl)

pub placed_waiting : (w : Workload) (h : List Entry) (e : Entry) → Placed w h → Placeable w (noted h) e → waiting (add (noted h) e) ≡ turn_waiting (waiting (noted h)) e
placed_waiting w h e l g = turns w (noted h) (placed_ordered w h l) e (placed_fact w (noted h) e g)

-- only who doesn't wait begins to
pub waits_once : (w : Workload) (p : List Noted) (t : Txn) (request : Request) → Placeable w p (Wait t request) → is_waiting p t ≡ false
waits_once w p t request g = step (forced w p) refl g
  where
    step : (o : Option Entry) → forced w p ≡ o → Goes w p (Wait t request) o → is_waiting p t ≡ false
    step None q g = not_off (is_waiting p t) (and_parts (is_running p t) (not (is_waiting p t)) g.0).1
    step (Some must) q g = absurd (subst (Compels w p) (sym g) (forced_compels w p must q))
