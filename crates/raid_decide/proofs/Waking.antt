-- The waiting requests, from a place on.
use Rattle.std.proofs.Common.{◌≡◌, ℕ, zero, suc, ◌+◌, ◌<◌, ◌≤◌, true, false, List, [], ◌∷◌, length, drop, Option, Some, None, slice_get, ap, sym, subst, refl, arith, ◌∙◌}
use Rattle.std.specs.Prelude.{is_some, option_and_then, filter_map}
use Rattle.std.specs.List.{cons_option}
use Rattle.std.proofs.lemmas.Bool.{true≢false}
use Rattle.std.proofs.lemmas.Option.{slice_get_within, get_or_from_slice_get}
use Rattle.std.proofs.lemmas.List.Elements.{filter_passes}
use Rattle.std.proofs.lemmas.List.Folds.{list_any_at}
use Rattle.raid_base.specs.declared.names.Txn.{Txn}
use Rattle.raid_base.specs.declared.request.Request.{Request}
use Rattle.raid_base.specs.declared.entry.Noted.{Noted}
use Rattle.raid_base.specs.Names.{is_txn}
use Rattle.raid_rules.specs.Entries.{wait_of}
use Rattle.raid_rules.specs.History.{waiting, is_waiting, is_running}
use Rattle.raid_serial.proofs.Translate.{eq_self}

-- the first answer from a place on
abbrev pub first_from : {X Y : Type 0} → (X → Option Y) → List X → ℕ → Option Y
first_from f xs k = slice_get (filter_map f (drop k xs)) 0

pub here : {X Y : Type 0} (f : X → Option Y) (xs : List X) (k : ℕ) (o : Option Y) → k < length xs → is_some o ≡ true → o ≡ option_and_then f (slice_get xs k) → o ≡ first_from f xs k
here f [] k o below s q = absurd (omega (arith, below))
here f (x ∷ xs) zero None below s q = absurd (true≢false (sym s))
here f (x ∷ xs) zero (Some e) below s q = ap (λ z. slice_get (cons_option z (filter_map f xs)) 0) q
here f (x ∷ xs) (suc k) o below s q = here f xs k o (omega (arith, below)) s q

pub beyond : {X Y : Type 0} (f : X → Option Y) (xs : List X) (k : ℕ) (o : Option Y) → k < length xs → is_some o ≡ false → o ≡ option_and_then f (slice_get xs k) → first_from f xs (k + 1) ≡ first_from f xs k
beyond f [] k o below s q = absurd (omega (arith, below))
beyond f (x ∷ xs) zero None below s q = ap (λ z. slice_get (cons_option z (filter_map f xs)) 0) q
beyond f (x ∷ xs) zero (Some e) below s q = absurd (true≢false s)
beyond f (x ∷ xs) (suc k) o below s q = ap (first_from f (x ∷ xs)) (let e : suc k + 1 ≡ suc (k + 1) = omega arith in e) ∙ beyond f xs k o (omega (arith, below)) s q

pub none_left : {X Y : Type 0} (f : X → Option Y) (xs : List X) (k : ℕ) → length xs ≤ k → None ≡ first_from f xs k
none_left f [] zero below = refl
none_left f [] (suc k) below = refl
none_left f (x ∷ xs) zero below = absurd (omega (arith, below))
none_left f (x ∷ xs) (suc k) below = none_left f xs k (omega (arith, below))

-- who waits runs
pub waits_running : (p : List Noted) (k : ℕ) (r : Txn × Request) → slice_get (waiting p) k ≡ Some r → is_running p r.0 ≡ true
waits_running p k r q =
    subst (λ z. is_running p z.0 ≡ true) (get_or_from_slice_get (waiting p) k r r q)
    (filter_passes (λ (z : Txn × Request). is_running p z.0) (filter_map (λ n. wait_of n.entry) p) k r (slice_get_within (waiting p) k r q))

pub waits_among : (p : List Noted) (k : ℕ) (r : Txn × Request) → slice_get (waiting p) k ≡ Some r → is_waiting p r.0 ≡ true
waits_among p k r q =
    list_any_at (λ z. is_txn r.0 z.0) (waiting p) k r (slice_get_within (waiting p) k r q)
    (subst (λ z. is_txn r.0 z.0 ≡ true) (sym (get_or_from_slice_get (waiting p) k r r q)) (eq_self r.0.0 r.0.0 refl))
