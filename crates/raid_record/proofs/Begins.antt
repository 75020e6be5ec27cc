-- Who may begin again, from the marks.
use Rattle.std.proofs.Common.{◌≡◌, ℕ, zero, suc, ◌+◌, ◌-◌, ◌*◌, ◌/◌, ◌%◌, ◌<◌, nat_lt, Bool, true, false, not, ◌&&◌, List, length, slice_get, slice_index_or, refl, ap, sym, arith, ◌∙◌}
use Rattle.std.proofs.lemmas.Nat.{div-add-mod', mod-mul-add, mod_below}
use Rattle.std.specs.List.{list_any}
use Rattle.std.specs.Option.{option_map_or}
use Rattle.raid_base.specs.declared.names.Txn.{Txn}
use Rattle.raid_base.specs.declared.names.Site.{Site}
use Rattle.raid_base.specs.declared.entry.Noted.{Noted}
use Rattle.raid_base.specs.Sites.{site}
use Rattle.raid_workload.specs.declared.workload.Workload.{Workload}
use Rattle.raid_workload.specs.declared.workload.Homed.{Homed}
use Rattle.raid_workload.specs.Parts.{home}
use Rattle.raid_legal.specs.Seen.{attempt, again, previous, has_down_after, is_restart}
use Rattle.raid_record.specs.Keeps.{AreLeft}

-- an attempt before has the same home
less : (q n r m : ℕ) → q * n + r ≡ m → 0 < q → r < n → (m - n) % n ≡ m % n
less zero n r m e some below = absurd (omega (arith, some))
less (suc q) n r m e some below =
    let rest : m - n ≡ q * n + r = omega (arith, e) in
    ap (λ k. k % n) rest ∙ mod-mul-add q n r below ∙ sym (mod-mul-add (suc q) n r below) ∙ ap (λ k. k % n) e

back : (m n : ℕ) → nat_lt 0 (m / n) ≡ true → (m - n) % n ≡ m % n
back m zero later = ap (λ k. k % zero) (let e : m - zero ≡ m = omega arith in e)
back m (suc n) later = less (m / suc n) (suc n) (m % suc n) m (div-add-mod' m (suc n)) (above (m / suc n) later) (mod_below m (suc n) (omega arith))
  where
    above : (k : ℕ) → nat_lt 0 k ≡ true → 0 < k
    above k h = grind (arith, h)

same_home : (w : Workload) (t : Txn) → nat_lt 0 (attempt w t) ≡ true → home w (previous w t) ≡ home w t
same_home w t later =
    let n = length w.programs in
    let e : t.0 - n - 1 ≡ t.0 - 1 - n = omega arith in
    ap (λ k. option_map_or (λ (h : Homed). h.home) (slice_get w.programs (1 + k - 1)) (site 0)) (ap (λ k. k % n) e ∙ back (t.0 - 1) n later)

pub is_again : (w : Workload) (ms : List Bool) (p : List Noted) (t : Txn) → AreLeft w ms p → (nat_lt 0 (attempt w t) && slice_index_or ms (t.0 - length w.programs) false) ≡ again w p t
is_again w ms p t left = go (nat_lt 0 (attempt w t)) refl
  where
    go : (b : Bool) → nat_lt 0 (attempt w t) ≡ b →
        (b && slice_index_or ms (t.0 - length w.programs) false) ≡ (b && list_any (λ n. is_restart (previous w t) n.entry && not (has_down_after p n.at (home w t))) p)
    go true later = left (previous w t) ∙ ap (λ (h : Site). list_any (λ n. is_restart (previous w t) n.entry && not (has_down_after p n.at h)) p) (same_home w t later)
    go false later = refl
