-- The other way: each run of a schedule is of the histories that it gives its servers.
use Rattle.std.proofs.Common.{◌≡◌, inl, inr, ℕ, ◌+◌, ◌<◌, ◌==◌, cond, true, not, List, [], ◌∷◌, length, fold, arith, sym, ap, subst, ◌∙◌, refl, append-nil}
use Rattle.std.specs.Prelude.{slice_index_or}
use Rattle.std.proofs.lemmas.Bool.{cases_eq, and_parts}
use Rattle.raid_workload.specs.declared.workload.Workload.{Workload}
use Rattle.raid_message.specs.declared.letter.Letter.{Letter}
use Rattle.raid_message.specs.declared.letter.Pick.{Pick}
use Rattle.raid_merge.proofs.Flat.{choose_same, choose_other}
use Rattle.raid_steps.specs.World.{World, link, take_letter, pick, finds, run, open_world, is_schedule, is_schedule_from}
use Rattle.raid_causes.specs.Histories.{History, HasLinks, IsWhole, Histories}
use Rattle.raid_causes.proofs.Lists.{below_or_not, past, not_empty}
use Rattle.raid_causes.proofs.Alone.{alike_refl}
use Rattle.raid_causes.proofs.Taking.{dropped, picked, whole_after, giving}
use Rattle.raid_causes.proofs.Opening.{open_whole}

-- the histories with one more letter in front of a server's
abbrev grown : (ℕ → History) → ℕ → ℕ × Letter → ℕ → History
grown histories server x k = cond (server == k) (x ∷ histories k) (histories k)

dropped_grown : (histories : ℕ → History) (i : ℕ) (x : ℕ × Letter) (k : ℕ) → histories k ≡ dropped (grown histories i x) i (histories i) k
dropped_grown histories i x k = elim (cases_eq i k) [
  | inl q ↦ subst (λ m. histories m ≡ dropped (grown histories i x) i (histories i) m) q (sym (choose_same i (histories i) (grown histories i x i)))
  | inr q ↦ sym (choose_other i k (histories i) (grown histories i x k) q ∙ choose_other i k (x ∷ histories k) (histories k) q)
]

-- a letter that waits has an addressee
addressee : (n : ℕ) (links : List (List (List Letter))) (server from : ℕ) (l : Letter) (ls : List Letter) → HasLinks n links → link links server from ≡ l ∷ ls → server < n
addressee n links server from l ls h e = elim (below_or_not server n) [
  | inl q ↦ q
  | inr q ↦ absurd (not_empty l ls (sym (ap (λ row. slice_index_or row from []) (past links server [] (let c = h.count in omega (arith, q, c)))) ∙ e))
]

none_found : (A : Type 0) → not (length {A = Letter} [] == 0) ≡ true → A
none_found A e = absurd (cc e)

module _ (w : Workload) where
  abbrev Comes : World → World → Type 0
  Comes s end = (histories : ℕ → History) × Histories w s histories end

  idle : (s : World) → IsWhole w s → Comes s s
  idle s whole = (
    (λ k. []),
    record {
      whole = whole;
      none = λ k le. refl;
      states = λ k lt. alike_refl k s.servers;
      clocks = λ k lt. refl;
      journals = λ k lt. refl;
      links = λ c d lt. sym (append-nil (link s.links c d));
    },
  )

  module _ (s : World) (whole : IsWhole w s) (p : Pick) (end : World) (next : (t : World) → IsWhole w t → pick w s p ≡ t → Comes t end) where
    one_more : (queue : List Letter) → link s.links p.server p.from ≡ queue → not (length queue == 0) ≡ true → Comes s end
    one_more [] q f = none_found (Comes s end) f
    one_more (l ∷ rest) q f =
        let i : ℕ = p.server in let j : ℕ = p.from in
        let below : i < w.sites + 2 = addressee (w.sites + 2) s.links i j l rest whole.links q in
        let t : World = take_letter w s i j l rest in
        let later = next t (whole_after w s i j l rest whole below q) (picked w s i j l rest whole below q) in
        let histories : ℕ → History = grown later.0 i (j, l) in
        let first : histories i ≡ (j, l) ∷ later.0 i = choose_same i ((j, l) ∷ later.0 i) (later.0 i) in
        (histories, giving w s i j l rest whole below q histories (later.0 i) first end later.0 (dropped_grown later.0 i (j, l)) later.1)

  comes : (ps : List Pick) (s : World) → IsWhole w s → is_schedule_from w s ps ≡ true → Comes s (fold (pick w) s ps)
  comes [] s whole f = idle s whole
  comes (p ∷ ps) s whole f =
      let parts = and_parts (finds s p) (is_schedule_from w (pick w s p) ps) f in
      one_more s whole p (fold (pick w) (pick w s p) ps)
      (λ t is q. subst (λ u. Comes t (fold (pick w) u ps)) (sym q) (comes ps t is (subst (λ u. is_schedule_from w u ps ≡ true) q parts.1)))
      (link s.links p.server p.from) refl parts.0

  pub runs_come : (picks : List Pick) → is_schedule w picks ≡ true → Comes (open_world w) (run w picks)
  runs_come picks f = comes picks (open_world w) (open_whole w) f
