-- What is told of the copies, site by site.
use Rattle.std.proofs.Common.{◌≡◌, ℕ, zero, suc, ◌+◌, ◌-◌, ◌<◌, ◌≤◌, List, [], ◌∷◌, ◌++◌, length, take, arith, sym, ap, subst, ◌∙◌, refl, append_assoc, append-nil}
use Rattle.std.specs.Prelude.{flat_map, slice_get, slice_index_or}
use Rattle.std.specs.Option.{option_map_or}
use Rattle.std.proofs.lemmas.List.Concat.{flat_map-cons}
use Rattle.raid_base.specs.declared.report.CopyLine.{CopyLine}
use Rattle.raid_workload.specs.declared.workload.Workload.{Workload}
use Rattle.raid_steps.specs.World as steps
use Rattle.raid_steps.specs.World.{copy_lines}
use Rattle.raid_nodes.specs.Nodes.{IsServer}
use Rattle.raid_nodes.specs.Ran.{AreServers, lines_at}
use Rattle.raid_nodes.specs.declared.node.ServerNode.{ServerNode}

flat_next : {X Y : Type 0} (f : X → List Y) (xs : List X) (k : ℕ) → flat_map f (take (suc k) xs) ≡ flat_map f (take k xs) ++ option_map_or f (slice_get xs k) []
flat_next f [] zero = refl
flat_next f [] (suc k) = refl
flat_next f (x ∷ xs) zero = flat_map-cons f x [] ∙ append-nil (f x)
flat_next f (x ∷ xs) (suc k) =
    flat_map-cons f x (take (suc k) xs) ∙ ap (λ ys. f x ++ ys) (flat_next f xs k) ∙ sym (append_assoc (f x) (flat_map f (take k xs)) (option_map_or f (slice_get xs k) []))
    ∙ ap (λ ys. ys ++ option_map_or f (slice_get xs k) []) (sym (flat_map-cons f x (take k xs)))

take_whole : {X : Type 0} (xs : List X) (k : ℕ) → length xs ≤ k → take k xs ≡ xs
take_whole [] zero h = refl
take_whole [] (suc k) h = refl
take_whole (x ∷ xs) zero h = absurd (omega (arith, h))
take_whole (x ∷ xs) (suc k) h = ap (λ ys. x ∷ ys) (take_whole xs k (omega (arith, h)))

-- the copies of one server more
pub lines_next : (k : ℕ) (s : steps.Servers) (copies lines : List CopyLine) → copies ≡ flat_map copy_lines (take (k - 2) s.sites) → lines ≡ lines_at k s → copies ++ lines ≡ flat_map copy_lines (take (k + 1 - 2) s.sites)
lines_next zero s copies lines c l = ap (λ ls. copies ++ ls) l ∙ append-nil copies ∙ c
lines_next (suc zero) s copies lines c l = ap (λ ls. copies ++ ls) l ∙ append-nil copies ∙ c
lines_next (suc (suc k)) s copies lines c l =
    let before : suc (suc k) - 2 ≡ k = omega arith in
    let after : suc (suc k) + 1 - 2 ≡ suc k = omega arith in
    ap (λ ls. copies ++ ls) l ∙ ap (λ cs. cs ++ option_map_or copy_lines (slice_get s.sites k) []) (c ∙ ap (λ n. flat_map copy_lines (take n s.sites)) before) ∙ sym (flat_next copy_lines s.sites k)
    ∙ ap (λ n. flat_map copy_lines (take n s.sites)) (sym after)

-- the copies of all
pub lines_all : {V : Type 0} {D : V → Type 0} (w : Workload) (xs : List (ServerNode V D)) (k : ℕ) (s : steps.Servers) (copies : List CopyLine) → length xs ≤ k → AreServers w xs s → copies ≡ flat_map copy_lines (take (k - 2) s.sites) →
    copies ≡ flat_map copy_lines s.sites
lines_all w xs k s copies past are c = c ∙ ap (flat_map copy_lines) (take_whole s.sites (k - 2) (let n = are.count in let m = are.sites in omega (arith, past, n, m)))
