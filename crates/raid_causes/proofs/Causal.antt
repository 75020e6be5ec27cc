-- Whoever's step is next by the clocks finds its letter: so the steps can be taken one after another.
use Rattle.std.proofs.Common.{◌≡◌, inl, inr, ℕ, suc, ◌+◌, ◌<◌, ◌≤◌, ◌==◌, Bool, true, not, ◌&&◌, List, [], ◌∷◌, ◌++◌, length, map, fold, All, arith, sym, ap, ap₂, subst, ◌∙◌, refl, append-nil}
use Rattle.std.specs.Prelude.{max, AllPairs, slice_index, slice_index_or}
use Rattle.std.proofs.lemmas.Bool.{ne_eqb}
use Rattle.std.proofs.lemmas.List.Elements.{All-cons, All-head}
use Rattle.raid_workload.specs.declared.workload.Workload.{Workload}
use Rattle.raid_message.specs.declared.letter.Letter.{Letter}
use Rattle.raid_message.specs.declared.letter.Pick.{Pick}
use Rattle.raid_message.specs.declared.letter.Step.{Step}
use Rattle.raid_merge.specs.Merged.{of, pick_of}
use Rattle.raid_merge.proofs.Flat.{choose_same, choose_other}
use Rattle.raid_merge.proofs.Unique.{all_of}
use Rattle.raid_merge.proofs.Only.{pairs_head, pairs_tail}
use Rattle.raid_steps.specs.State.{Sequencer, SiteState}
use Rattle.raid_steps.specs.World.{Servers, World, link, take_letter, pick, finds, is_schedule_from}
use Rattle.raid_causes.specs.Histories.{History, alone, after, IsAlike, IsWhole, Histories}
use Rattle.raid_causes.proofs.Lists.{same_or_not, below_or_not, same_lists, same_gets, front, not_empty}
use Rattle.raid_causes.proofs.Alone.{step_of, steps_from, sent_is, late}
use Rattle.raid_causes.proofs.Taking.{dropped, picked, whole_after, clock_own, clock_other, taking}

-- the clocks of pairs do not fall
abbrev pub NoLater : ℕ × Step → ℕ × Step → Type 0
NoLater a b = a.1.clock ≤ b.1.clock

-- these steps are all that the histories make from the world on
abbrev pub AreSteps : World → (ℕ → History) → List (ℕ × Step) → Type 0
AreSteps s histories steps = (k : ℕ) → of k steps ≡ steps_from (slice_index s.clocks k) (histories k)

-- the first step of a server takes the first letter of its history
first_of : (c : ℕ) (st : Step) (more : List Step) (hs : History) → st ∷ more ≡ steps_from c hs →
    (x : ℕ × Letter) × (rest : History) × (hs ≡ x ∷ rest) × (st ≡ step_of c x) × (more ≡ steps_from (1 + max c x.1.clock) rest)
first_of c st more [] e = absurd (cc e)
first_of c st more (x ∷ rest) e = let a : st ≡ step_of c x = cc e in let b : more ≡ steps_from (1 + max c x.1.clock) rest = cc e in (x, rest, refl, a, b)

none_of : (c : ℕ) (hs : History) → [] ≡ steps_from c hs → hs ≡ []
none_of c [] e = refl
none_of c (x ∷ hs) e = absurd (cc e)

both_true : (a b : Bool) → a ≡ true → b ≡ true → a && b ≡ true
both_true a b p q = rw (p, q)

some_there : (l : Letter) (ls : List Letter) → not (length (l ∷ ls) == 0) ≡ true
some_there l ls = ap not (ne_eqb (suc (length ls)) 0 (λ q. omega (arith, q)))

module _ (w : Workload) (end : World) where
  -- the letter of a step than which none has a smaller clock waits on its link: what its sender has yet to send has this clock at least,
  -- and the letter's is smaller
  find : (s : World) (histories : ℕ → History) → Histories w s histories end → (i : ℕ) (x : ℕ × Letter) (hs : History) (c : ℕ) → i < w.sites + 2 → histories i ≡ x ∷ hs →
      (steps : List (ℕ × Step)) → AreSteps s histories steps → All (λ u. c ≤ u.1.clock) steps → c ≡ 1 + max (slice_index s.clocks i) x.1.clock → (rest : List Letter) × (link s.links i x.0 ≡ x.1 ∷ rest)
  find s histories h i x hs c below first steps are low is =
      let j : ℕ = x.0 in let l : Letter = x.1 in
      let sent : List (ℕ × Letter) = (after w s j (histories j)).sent in
      let got : of j (histories i) ≡ l ∷ of j hs = ap (of j) first ∙ choose_same j (l ∷ of j hs) (of j hs) in
      let heads : l ∷ (of j hs ++ link end.links i j) ≡ link s.links i j ++ of i sent = sym (ap (λ ls. ls ++ link end.links i j) got) ∙ h.links i j below in
      elim (front (link s.links i j) (of i sent) l (of j hs ++ link end.links i j) heads) [
        | inl f ↦ f
        | inr f ↦
            let later : All (λ (st : Step). c ≤ st.clock) (steps_from (slice_index s.clocks j) (histories j)) =
            subst (All (λ (st : Step). c ≤ st.clock)) (are j) (all_of (λ n (st : Step). c ≤ st.clock) j steps low) in
            let all : All (λ (y : ℕ × Letter). c ≤ y.1.clock) sent =
            subst (All (λ (y : ℕ × Letter). c ≤ y.1.clock)) (sym (sent_is w j (histories j) (alone s j))) (late w c j (histories j) (alone s j) later) in
            let high : c ≤ l.clock = All-head (λ (y : Letter). c ≤ y.clock) l (of j hs ++ link end.links i j) (subst (All (λ (y : Letter). c ≤ y.clock)) f (all_of (λ n (y : Letter). c ≤ y.clock) i sent all)) in
            absurd (omega (arith, high, is))
      ]

  abbrev make_servers : ℕ → Sequencer → List SiteState → Servers
  make_servers f q ss = record { fired = f; sequencer = q; sites = ss }

  abbrev make_world : Servers → List (List (List Letter)) → List ℕ → List (List Step) → World
  make_world s ls cs js = record { servers = s; links = ls; clocks = cs; journals = js }

  -- where nothing is left of the histories, the end is reached
  ended : (s : World) (histories : ℕ → History) → IsWhole w s → Histories w s histories end → ((k : ℕ) → histories k ≡ []) → s ≡ end
  ended s histories whole h none =
      let now : (k : ℕ) → after w s k (histories k) ≡ alone s k = λ k. ap (after w s k) (none k) in
      let state : (k : ℕ) → k < w.sites + 2 → IsAlike k end.servers s.servers = λ k lt. subst (λ a. IsAlike k end.servers a.servers) (now k) (h.states k lt) in
      let clocks : s.clocks ≡ end.clocks =
      same_lists s.clocks end.clocks 0 (whole.clocks ∙ sym h.whole.clocks)
      (λ k lt. sym (h.clocks k (let c = whole.clocks in omega (arith, lt, c)) ∙ ap (λ a. a.clock) (now k))) in
      let journals : s.journals ≡ end.journals =
      same_lists s.journals end.journals [] (whole.journals ∙ sym h.whole.journals)
      (λ k lt. sym (h.journals k (let c = whole.journals in omega (arith, lt, c)) ∙ ap (λ a. a.journal) (now k))) in
      let waits : (c d : ℕ) → c < w.sites + 2 → link s.links c d ≡ link end.links c d =
      λ c d lt. sym (append-nil (link s.links c d)) ∙ ap (λ a. link s.links c d ++ of c a.sent) (sym (now d)) ∙ sym (h.links c d lt) ∙ ap (λ hs. of d hs ++ link end.links c d) (none c) in
      let links : s.links ≡ end.links =
      same_lists s.links end.links [] (whole.links.count ∙ sym h.whole.links.count)
      (λ k lt.
      let within : k < w.sites + 2 = let c = whole.links.count in omega (arith, lt, c) in
      same_lists (slice_index_or s.links k []) (slice_index_or end.links k []) [] (whole.links.rows k within ∙ sym (h.whole.links.rows k within)) (λ m less. waits k m within)) in
      let sites : s.servers.sites ≡ end.servers.sites =
      same_gets s.servers.sites end.servers.sites (whole.sites ∙ sym h.whole.sites)
      (λ k lt. sym (state (suc (suc k)) (let c = whole.sites in omega (arith, lt, c)))) in
      let servers : s.servers ≡ end.servers =
      ap (λ f. make_servers f s.servers.sequencer s.servers.sites) (sym (state 0 (omega arith))) ∙ ap₂ (make_servers end.servers.fired) (sym (state 1 (omega arith))) sites in
      ap₂ (λ a ls. make_world a ls s.clocks s.journals) servers links ∙ ap₂ (make_world end.servers end.links) clocks journals

  pub goes : (steps : List (ℕ × Step)) (s : World) (histories : ℕ → History) → IsWhole w s → Histories w s histories end → AreSteps s histories steps → AllPairs NoLater steps →
      (is_schedule_from w s (map pick_of steps) ≡ true) × (fold (pick w) s (map pick_of steps) ≡ end)
  goes [] s histories whole h are o = (refl, ended s histories whole h (λ k. none_of (slice_index s.clocks k) (histories k) (are k)))
  goes (x ∷ more) s histories whole h are o =
      let i : ℕ = x.0 in let c : ℕ = slice_index s.clocks i in
      let one = first_of c x.1 (of i more) (histories i) (sym (choose_same i (x.1 ∷ of i more) (of i more)) ∙ are i) in
      let y : ℕ × Letter = one.0 in let hs : History = one.1 in
      let below : i < w.sites + 2 = elim (below_or_not i (w.sites + 2)) [
        | inl q ↦ q
        | inr q ↦ absurd (not_empty y hs (sym (h.none i q) ∙ one.2))
      ] in
      let low : All (λ (u : ℕ × Step). x.1.clock ≤ u.1.clock) (x ∷ more) = All-cons (λ (u : ℕ × Step). x.1.clock ≤ u.1.clock) x more (omega arith) (pairs_head NoLater x more o) in
      let found = find s histories h i y hs x.1.clock below one.2 (x ∷ more) are low (ap (λ st. st.clock) one.3) in
      let rest : List Letter = found.0 in
      let t : World = take_letter w s i y.0 y.1 rest in
      let p : Pick = record { server = i; from = y.0 } in
      let is : pick_of x ≡ p = ap (λ n. let r : Pick = record { server = i; from = n } in r) (ap (λ st. st.from) one.3) in
      let after : pick w s (pick_of x) ≡ t = ap (pick w s) is ∙ picked w s i y.0 y.1 rest whole below found.1 in
      let finding : finds s (pick_of x) ≡ true = ap (finds s) is ∙ ap (λ ls. not (length ls == 0)) found.1 ∙ some_there y.1 rest in
      let left : AreSteps t (dropped histories i hs) more = λ k. elim (same_or_not k i) [
        | inl q ↦
            subst (λ m. of m more ≡ steps_from (slice_index t.clocks m) (dropped histories i hs m)) (sym q)
            (one.4 ∙ ap₂ steps_from (sym (clock_own w s i y.0 y.1 rest whole below found.1)) (sym (choose_same i hs (histories i))))
        | inr q ↦
            sym (choose_other i k (x.1 ∷ of k more) (of k more) (λ e. q (sym e))) ∙ are k
            ∙ ap₂ steps_from (sym (clock_other w s i y.0 y.1 rest whole below found.1 k q)) (sym (choose_other i k hs (histories k) (λ e. q (sym e))))
      ] in
      let all = goes more t (dropped histories i hs) (whole_after w s i y.0 y.1 rest whole below found.1) (taking w s i y.0 y.1 rest whole below found.1 histories hs one.2 end h) left (pairs_tail NoLater x more o) in (
        both_true (finds s (pick_of x)) (is_schedule_from w (pick w s (pick_of x)) (map pick_of more)) finding (subst (λ u. is_schedule_from w u (map pick_of more) ≡ true) (sym after) all.0),
        subst (λ u. fold (pick w) u (map pick_of more) ≡ end) (sym after) all.1,
      )
