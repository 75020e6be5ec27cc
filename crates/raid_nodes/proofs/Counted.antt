-- The schedule of a run: as long as the steps of all nodes, and a run of the definitions.
use Rattle.std.proofs.Common.{◌≡◌, ◌≢◌, ◌⊎◌, inl, inr, ℕ, zero, suc, ◌+◌, ◌<◌, ◌≤◌, ◌&&◌, List, [], ◌∷◌, Bool, true, false, Result, Ok, Err, IfOk, nat_le, length, map, All, arith, sym, ap, subst, ◌∙◌, refl}
use Rattle.std.specs.Prelude.{slice_index_or}
use Rattle.std.specs.List.{list_all}
use Rattle.std.proofs.lemmas.Bool.{and_parts}
use Rattle.raid_base.specs.declared.names.NoMemory.{NoMemory}
use Rattle.raid_boxed.specs.Boxed.{Says}
use Rattle.raid_rounds.specs.declared.run.Rounds.{Rounds}
use Rattle.raid_rounds.specs.declared.run.Rounds.TheVariants.{Idle, Spent}
use Rattle.raid_workload.specs.declared.workload.Workload.{Workload}
use Rattle.raid_workload.specs.Rules.{is_homed, are_restarts, is_within, are_items, are_switches, are_events}
use Rattle.raid_message.specs.declared.letter.Pick.{Pick}
use Rattle.raid_message.specs.declared.letter.Step.{Step}
use Rattle.raid_merge.specs.Merged.{of, pick_of, IsRising, IsMerge}
use Rattle.raid_merge.proofs.Flat.{choose_same, choose_other}
use Rattle.raid_steps.specs.World.{run, is_schedule, is_idle}
use Rattle.raid_causes.proofs.Lists.{same_or_not, below_or_not, past, map_long}
use Rattle.raid_causes.proofs.Opening.{merge_runs, journals_rise}
use Rattle.raid_nodes.specs.Ran.{AllGo, AreServers, BelowLimit, Ran, all_steps}
use Rattle.raid_nodes.specs.declared.node.ServerNode.{ServerNode}

-- how many steps so many servers have among these, from the one with this number on
abbrev total_of : ℕ → ℕ → List (ℕ × Step) → ℕ
total_of k zero steps = 0
total_of k (suc n) steps = length (of k steps) + total_of (suc k) n steps

none_of_empty : (k n : ℕ) → total_of k n [] ≡ 0
none_of_empty k zero = refl
none_of_empty k (suc n) = let r : total_of (suc k) n [] ≡ 0 = none_of_empty (suc k) n in omega (arith, r)

one_other : (k n : ℕ) (x : ℕ × Step) (steps : List (ℕ × Step)) → x.0 < k → total_of k n (x ∷ steps) ≡ total_of k n steps
one_other k zero x steps low = refl
one_other k (suc n) x steps low =
    let here : length (of k (x ∷ steps)) ≡ length (of k steps) = ap length (choose_other x.0 k (x.1 ∷ of k steps) (of k steps) (λ q. omega (arith, q, low))) in
    let rest : total_of (suc k) n (x ∷ steps) ≡ total_of (suc k) n steps = one_other (suc k) n x steps (omega (arith, low)) in
    omega (arith, here, rest)

one_more : (k n : ℕ) (x : ℕ × Step) (steps : List (ℕ × Step)) → k ≤ x.0 → x.0 < k + n → total_of k n (x ∷ steps) ≡ suc (total_of k n steps)
one_more k zero x steps low high = absurd (omega (arith, low, high))
one_more k (suc n) x steps low high = go (same_or_not x.0 k) (λ apart. one_more (suc k) n x steps (omega (arith, low, apart)) (omega (arith, high)))
  where
    go : (x.0 ≡ k) ⊎ (x.0 ≢ k) → (x.0 ≢ k → total_of (suc k) n (x ∷ steps) ≡ suc (total_of (suc k) n steps)) → total_of k (suc n) (x ∷ steps) ≡ suc (total_of k (suc n) steps)
    go (inl q) later =
        let here : length (of k (x ∷ steps)) ≡ suc (length (of k steps)) = subst (λ m. length (of m (x ∷ steps)) ≡ suc (length (of m steps))) q (ap length (choose_same x.0 (x.1 ∷ of x.0 steps) (of x.0 steps))) in
        let rest : total_of (suc k) n (x ∷ steps) ≡ total_of (suc k) n steps = one_other (suc k) n x steps (omega (arith, q)) in
        omega (arith, here, rest)
    go (inr apart) later =
        let here : length (of k (x ∷ steps)) ≡ length (of k steps) = ap length (choose_other x.0 k (x.1 ∷ of k steps) (of k steps) apart) in
        let rest : total_of (suc k) n (x ∷ steps) ≡ suc (total_of (suc k) n steps) = later apart in
        omega (arith, here, rest)

-- where no other server has a step, they have all
total_all : (n : ℕ) (steps : List (ℕ × Step)) → ((k : ℕ) → n ≤ k → of k steps ≡ []) → total_of 0 n steps ≡ length steps
total_all n [] none = none_of_empty 0 n
total_all n (x ∷ steps) none = go (below_or_not x.0 n) (λ low. total_all n steps (λ k le. sym (choose_other x.0 k (x.1 ∷ of k steps) (of k steps) (λ q. omega (arith, q, low, le))) ∙ none k le))
  where
    go : (x.0 < n) ⊎ (n ≤ x.0) → (x.0 < n → total_of 0 n steps ≡ length steps) → total_of 0 n (x ∷ steps) ≡ suc (length steps)
    go (inl low) rest = one_more 0 n x steps (omega arith) (omega (arith, low)) ∙ ap suc (rest low)
    go (inr le) rest = absurd (let e : x.1 ∷ of x.0 steps ≡ [] = sym (choose_same x.0 (x.1 ∷ of x.0 steps) (of x.0 steps)) ∙ none x.0 le in cc e)

few_sites : (w : Workload) → w.sites ≤ 8
few_sites w = within w.sites (first (are_restarts w.version w.restarts) (is_within 1 8 w.sites) _ _ _ _ _ _ _ _ _ w.kept)
  where
    first : (a b c d e f g h i j k : Bool) → (a && b && c && d && e && f && g && h && i && j && k) ≡ true → b ≡ true
    first a b c d e f g h i j k all =
        let to-k = and_parts (a && b && c && d && e && f && g && h && i && j) k all in
        let to-j = and_parts (a && b && c && d && e && f && g && h && i) j to-k.0 in
        let to-i = and_parts (a && b && c && d && e && f && g && h) i to-j.0 in
        let to-h = and_parts (a && b && c && d && e && f && g) h to-i.0 in
        let to-g = and_parts (a && b && c && d && e && f) g to-h.0 in
        let to-f = and_parts (a && b && c && d && e) f to-g.0 in
        let to-e = and_parts (a && b && c && d) e to-f.0 in
        let to-d = and_parts (a && b && c) d to-e.0 in
        let to-c = and_parts (a && b) c to-d.0 in
        (and_parts a b to-c.0).1

    within : (n : ℕ) → is_within 1 8 n ≡ true → n ≤ 8
    within n h = grind (arith, h)

module _ {V : Type 0} {D : V → Type 0} where
  abbrev pub journals_of : List (ServerNode V D) → List (List Step)
  journals_of xs = map (λ (x : ServerNode V D). x.journal) xs

  counted : (xs : List (ServerNode V D)) (k : ℕ) (steps : List (ℕ × Step)) → ((j : ℕ) → of (k + j) steps ≡ slice_index_or (journals_of xs) j []) → total_of k (length xs) steps ≡ all_steps xs
  counted [] k steps each = refl
  counted (x ∷ xs) k steps each =
      let here : length (of k steps) ≡ length x.journal = ap length ((let e : k ≡ k + 0 = omega arith in ap (λ i. of i steps) e) ∙ each 0) in
      let rest : total_of (suc k) (length xs) steps ≡ all_steps xs = counted xs (suc k) steps (λ j. (let e : suc k + j ≡ k + suc j = omega arith in ap (λ i. of i steps) e) ∙ each (suc j)) in
      omega (arith, here, rest)

  pub long : (xs : List (ServerNode V D)) (picks : List Pick) → IsMerge (journals_of xs) picks → length picks ≡ all_steps xs
  long xs picks m =
      ap length m.picks_are ∙ map_long pick_of m.steps
      ∙ sym (total_all (length xs) m.steps (λ k le. m.each k ∙ past (journals_of xs) k [] (let l : length (journals_of xs) ≡ length xs = map_long (λ (x : ServerNode V D). x.journal) xs in omega (arith, l, le))))
      ∙ counted xs 0 m.steps (λ j. (let e : 0 + j ≡ j = omega arith in ap (λ i. of i m.steps) e) ∙ m.each j)

  pub few_nodes : (w : Workload) (b : Bool) (xs : List (ServerNode V D)) → Ran w b xs → length xs ≤ 65536
  few_nodes w b xs r = let c = r.servers.count in let f = few_sites w in omega (arith, c, f)

  pub rising : (w : Workload) (b : Bool) (xs : List (ServerNode V D)) → Ran w b xs → All IsRising (journals_of xs)
  rising w b xs r = subst (λ (js : List (List Step)). All IsRising js) r.journals (journals_rise w r.histories r.end r.are)

  pub scheduled : (w : Workload) (b : Bool) (xs : List (ServerNode V D)) (picks : List Pick) → Ran w b xs → IsMerge (journals_of xs) picks →
      (is_schedule w picks ≡ true) × (is_idle (run w picks) ≡ b) × AreServers w xs (run w picks).servers
  scheduled w b xs picks r m =
      let both = merge_runs w r.histories r.end picks r.are (subst (λ (js : List (List Step)). IsMerge js picks) (sym r.journals) m) in
      (both.0, ap is_idle both.1 ∙ r.idle, subst (λ e. AreServers w xs e.servers) (sym both.1) r.servers)

  -- what a merge of the journals is
  pub schedule_ok : (xs : List (ServerNode V D)) (js : List (List Step)) (r : Result (List Pick) NoMemory) → js ≡ journals_of xs → IfOk r (IsMerge js) → IfOk r (λ s. (w : Workload) (b : Bool) → Ran w b xs → is_schedule w s ≡ true)
  schedule_ok xs js (Ok s) e m = λ w b r. (scheduled w b xs s r (subst (λ ks. IsMerge ks s) e m)).0
  schedule_ok xs js (Err x) e m = m

  pub idle_ok : (xs : List (ServerNode V D)) (js : List (List Step)) (r : Result (List Pick) NoMemory) → js ≡ journals_of xs → IfOk r (IsMerge js) → IfOk r (λ s. (w : Workload) (b : Bool) → Ran w b xs → is_idle (run w s) ≡ b)
  idle_ok xs js (Ok s) e m = λ w b r. (scheduled w b xs s r (subst (λ ks. IsMerge ks s) e m)).1
  idle_ok xs js (Err x) e m = m

  pub servers_ok : (xs : List (ServerNode V D)) (js : List (List Step)) (r : Result (List Pick) NoMemory) → js ≡ journals_of xs → IfOk r (IsMerge js) → IfOk r (λ s. (w : Workload) (b : Bool) → Ran w b xs → AreServers w xs (run w s).servers)
  servers_ok xs js (Ok s) e m = λ w b r. (scheduled w b xs s r (subst (λ ks. IsMerge ks s) e m)).2
  servers_ok xs js (Err x) e m = m

  pub long_ok : (xs : List (ServerNode V D)) (js : List (List Step)) (r : Result (List Pick) NoMemory) → js ≡ journals_of xs → IfOk r (IsMerge js) → IfOk r (λ s. length s ≡ all_steps xs)
  long_ok xs js (Ok s) e m = long xs s (subst (λ ks. IsMerge ks s) e m)
  long_ok xs js (Err x) e m = m

  -- after rounds the nodes are looked at
  pub idle_kept : (w : Workload) (all new now : List (ServerNode V D)) (r : Rounds) → all ≡ new → now ≡ all → BelowLimit now → (r ≡ Idle → BelowLimit new → Ran w true new) → r ≡ Idle → Ran w true all
  idle_kept w all new now r e f below ran q = subst (λ xs. Ran w true xs) (sym e) (ran q (subst (λ xs. BelowLimit xs) (f ∙ e) below))

  pub spent_kept : (w : Workload) (most : ℕ) (all new now : List (ServerNode V D)) (r : Rounds) → all ≡ new → now ≡ all → BelowLimit now → (r ≡ Spent → BelowLimit new → Ran w false new × (most ≤ all_steps new)) → r ≡ Spent →
      Ran w false all × (most ≤ all_steps all)
  spent_kept w most all new now r e f below ran q = subst (λ xs. Ran w false xs × (most ≤ all_steps xs)) (sym e) (ran q (subst (λ xs. BelowLimit xs) (f ∙ e) below))

  pub go_kept : (say : Says V D) (w : Workload) (all new : List (ServerNode V D)) → all ≡ new → AllGo say w new → AllGo say w all
  go_kept say w all new e go = subst (λ xs. AllGo say w xs) (sym e) go

  pub some_ran : (w : Workload) (most : ℕ) (all new now : List (ServerNode V D)) (r : Rounds) → all ≡ new → now ≡ all → BelowLimit now → (r ≡ Idle → BelowLimit new → Ran w true new) →
      (r ≡ Spent → BelowLimit new → Ran w false new × (most ≤ all_steps new)) → (b : Bool) × Ran w b all
  some_ran w most all new now Idle e f below idle spent = (true, idle_kept w all new now Idle e f below idle refl)
  some_ran w most all new now Spent e f below idle spent = (false, (spent_kept w most all new now Spent e f below spent refl).0)
