-- An abort after which its transaction may be tried again comes only while the transaction's home is up.
use Rattle.std.proofs.Common.{◌≡◌, ◌==◌, Bool, true, false, not, ◌||◌, List, [], ◌∷◌, ◌++◌, filter, find, Option, Some, None, if◌then◌else◌, sym, subst, ap, ◌∙◌, refl}
use Rattle.std.specs.Prelude.{option_map}
use Rattle.std.proofs.lemmas.Bool.{and_parts, true≢false}
use Rattle.raid_base.specs.declared.names.Txn.{Txn}
use Rattle.raid_base.specs.declared.entry.Act.{Act}
use Rattle.raid_base.specs.declared.entry.Act.TheVariants as acts
use Rattle.raid_base.specs.declared.entry.Cause.{Cause}
use Rattle.raid_base.specs.declared.entry.Cause.TheVariants.{HomeDown}
use Rattle.raid_base.specs.declared.entry.Entry.{Entry}
use Rattle.raid_base.specs.declared.entry.Entry.TheVariants.{Abort}
use Rattle.raid_base.specs.declared.entry.Noted.{Noted}
use Rattle.raid_base.specs.Names.{has_txn}
use Rattle.raid_workload.specs.declared.workload.Workload.{Workload}
use Rattle.raid_workload.specs.Parts.{txns, home}
use Rattle.raid_rules.specs.History.{noted, has_begun, has_ended, is_running}
use Rattle.raid_rules.proofs.Push.{same_txn}
use Rattle.raid_legal.specs.Seen.{running, is_up, is_restartable}
use Rattle.raid_legal.specs.InForce.{in_force}
use Rattle.raid_legal.specs.Forced.{forced, home_down, switch_off, switch_end, switch_on, woken, earliest}
use Rattle.raid_serial.proofs.Facts.{map_none}
use Rattle.raid_placed.specs.Placed.{Goes, Placeable, Placed}
use Rattle.raid_placed.proofs.Orderly.{placeable_follows, placed_known}
use Rattle.raid_placed.proofs.Sent.{placed_push}

-- where none is found that fails a test, each passes it
all_pass : (f g : Txn → Bool) (ts : List Txn) (t : Txn) → find (λ u. not (f u)) (filter g ts) ≡ None → has_txn ts t ≡ true → g t ≡ true → f t ≡ true
all_pass f g [] t none here passes = absurd (true≢false (sym here))
all_pass f g (x ∷ ts) t none here passes = go (g x) refl (x.0 == t.0) refl none here (λ none here. all_pass f g ts t none here passes)
  where
    rest : Option Txn
    rest = find (λ u. not (f u)) (filter g ts)

    first : (b : Bool) → (if not b then Some x else rest) ≡ None → (b ≡ true) × (rest ≡ None)
    first true q = (refl, q)
    first false q = absurd (cc q)

    go : (b : Bool) → g x ≡ b → (c : Bool) → (x.0 == t.0) ≡ c → find (λ u. not (f u)) (if b then x ∷ filter g ts else filter g ts) ≡ None → (c || has_txn ts t) ≡ true → (find (λ u. not (f u)) (filter g ts) ≡ None → has_txn ts t ≡ true → f t ≡ true) → f t ≡ true
    go true q true e none here more = subst (λ u. f u ≡ true) (same_txn x t e) (first (f x) none).0
    go true q false e none here more = more (first (f x) none).1 here
    go false q true e none here more = absurd (true≢false (sym passes ∙ ap g (sym (same_txn x t e)) ∙ q))
    go false q false e none here more = more none here

pub restart_home : (w : Workload) (h : List Entry) (t : Txn) (cause : Cause) (act : Act) → Placed w (h ++ Abort t cause act ∷ []) → is_restartable cause ≡ true → is_up w (noted h) (home w t) ≡ true
restart_home w h t cause act placed restarts = go (home_down w (noted h)) refl
  where
    p : List Noted
    p = noted h

    both : Placed w h × Placeable w (noted h) (Abort t cause act)
    both = (placed_push w h (Abort t cause act)).0 placed

    runs : is_running (noted h) t ≡ true
    runs = placeable_follows w (noted h) (Abort t cause act) both.1

    known : has_txn (txns w) t ≡ true
    known = placed_known w h both.0 t (and_parts (has_begun (noted h) t) (not (has_ended (noted h) t)) runs).0

    not_home : (u : Txn) → Abort t cause act ≡ Abort u HomeDown acts.Nothing → ⊥
    not_home u q = (let its : cause ≡ HomeDown = cc q in true≢false (sym restarts ∙ ap is_restartable its))

    lost : (o : Option Txn) (e : Entry) → option_map (λ u. Abort u HomeDown acts.Nothing) o ≡ Some e → Abort t cause act ≡ e → ⊥
    lost None e q is = cc q
    lost (Some u) e q is = not_home u (is ∙ sym (cc q))

    go : (o : Option Entry) → home_down w (noted h) ≡ o → is_up w (noted h) (home w t) ≡ true
    go None q = all_pass (λ u. is_up w (noted h) (home w u)) (is_running (noted h)) (txns w) t (map_none _ (find (λ u. not (is_up w (noted h) (home w u))) (running w (noted h))) q) known runs
    go (Some e) q =
        let f = in_force w p in
        let must : forced w p ≡ Some e = ap (λ o. earliest (o ∷ switch_off p f ∷ switch_end w p f ∷ switch_on w p f ∷ woken w p ∷ [])) q in
        absurd (lost (find (λ u. not (is_up w p (home w u))) (running w p)) e q (subst (Goes w p (Abort t cause act)) must both.1))
