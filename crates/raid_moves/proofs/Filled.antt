-- Transactions begin until as many run as may, or none is left.
use Rattle.std.proofs.Common.{◌≡◌, ℕ, suc, zero, ◌+◌, ◌-◌, ◌≤◌, ◌==◌, nat_le, nat_lt, Bool, true, false, ◌||◌, List, [], ◌∷◌, length, map, fold, Some, None, if◌then◌else◌, arith, sym, ap, subst, ◌∙◌, refl}
use Rattle.raid_workload.specs.declared.workload.Workload.{Workload}
use Rattle.raid_workload.specs.Parts.{count_from}
use Rattle.raid_message.specs.declared.letter.Message.TheVariants as letters
use Rattle.raid_steps.specs.State.{Turn, tell, Phase, asking, preparing, sent, Running, SiteState}
use Rattle.raid_steps.specs.Programs.{running_of, put_running, begin, begin_next, start, ask_commit, ask_commits}
use Rattle.raid_moves.specs.Moves.{Ascend, fresh, next_of, passed}
use Rattle.raid_moves.specs.After.{is_full, committed}
use Rattle.raid_moves.proofs.Places.{program_of}
use Rattle.raid_moves.proofs.Steps.{goes_on, goes_put}
use Rattle.raid_moves.proofs.Swept.{committed_all}

-- one that didn't run makes one more
length_new : (r : Running) (rs : List Running) → program_of r.txn rs ≡ None → length (put_running r rs) ≡ length rs + 1
length_new r [] n = refl
length_new r (q ∷ qs) n = go (q.txn.0 == r.txn.0) n (nat_lt r.txn.0 q.txn.0) (length_new r qs)
  where
    some_none : {X : Type 0} {x : X} → Some x ≡ None → ⊥
    some_none e = cc e

    go : (b : Bool) → (if b then Some q else program_of r.txn qs) ≡ None → (c : Bool) → (program_of r.txn qs ≡ None → length (put_running r qs) ≡ length qs + 1) → length (if b then r ∷ qs else if c then r ∷ q ∷ qs else q ∷ put_running r qs) ≡ length (q ∷ qs) + 1
    go true n c rest = absurd (some_none n)
    go false n true rest = (let two : suc (suc (length qs)) ≡ suc (length qs) + 1 = omega arith in two)
    go false n false rest = (let more = rest n in let two : suc (length (put_running r qs)) ≡ suc (length qs) + 1 = omega (arith, more) in two)

-- I is kept as transactions begin, and says that the next one doesn't run yet
module _ (w : Workload) (I : Turn SiteState → Type 0) (new : (turn : Turn SiteState) → I turn → (turn.state.next == 0) ≡ false → running_of turn.state (next_of turn) ≡ None) (keeps : (turn : Turn SiteState) → I turn → (turn.state.next == 0) ≡ false → I (begin w (passed w turn) (next_of turn))) where
  begun : (turn : Turn SiteState) → running_of turn.state (next_of turn) ≡ None → length (begin w (passed w turn) (next_of turn)).state.running ≡ length turn.state.running + 1
  begun turn n =
      goes_put w (λ rs. length rs ≡ length turn.state.running + 1) (tell (passed w turn) (letters.Begin (next_of turn))) (fresh (next_of turn))
      (λ now same. length_new now turn.state.running (subst (λ t. program_of t turn.state.running ≡ None) (sym same) n)) (goes_on w (tell (passed w turn) (letters.Begin (next_of turn))) (fresh (next_of turn)))

  full_by : (b : Bool) (a c : ℕ) → a ≤ c → (b || nat_le a c) ≡ true
  full_by true a c l = refl
  full_by false a c l = grind (arith, l)

  none_left : (b : Bool) (c : Bool) → b ≡ true → (b || c) ≡ true
  none_left true c q = refl
  none_left false c q = q_false q
    where
      q_false : false ≡ true → c ≡ true
      q_false q = absurd (cc q)

  rests : (is : List ℕ) (turn : Turn SiteState) → (turn.state.next == 0) ≡ true → fold (λ t i. begin_next w t) turn is ≡ turn
  rests [] turn q = refl
  rests (i ∷ is) turn q = (let same : begin_next w turn ≡ turn = ap (λ b. if b then turn else begin w (passed w turn) (next_of turn)) q in ap (λ t. fold (λ t i. begin_next w t) t is) same ∙ rests is turn q)

  fills : (is : List ℕ) (turn : Turn SiteState) → w.together ≤ length is + length turn.state.running → I turn → is_full w (fold (λ t i. begin_next w t) turn is).state ≡ true
  fills [] turn few i = full_by (turn.state.next == 0) w.together (length turn.state.running) (omega (arith, few))
  fills (n ∷ ns) turn few i = go (turn.state.next == 0) refl (fills ns (begin w (passed w turn) (next_of turn)))
    where
      next : Turn SiteState
      next = begin w (passed w turn) (next_of turn)

      go : (b : Bool) → (turn.state.next == 0) ≡ b → (w.together ≤ length ns + length next.state.running → I next → is_full w (fold (λ t i. begin_next w t) next ns).state ≡ true) → is_full w (fold (λ t i. begin_next w t) (if b then turn else next) ns).state ≡ true
      go true q rest = subst (λ (t : Turn SiteState). is_full w t.state ≡ true) (sym (rests ns turn q)) (none_left (turn.state.next == 0) (nat_le w.together (length turn.state.running)) q)
      go false q rest = (let more = begun turn (new turn i q) in rest (omega (arith, few, more)) (keeps turn i q))

  length_count : (k n : ℕ) → length (count_from k n) ≡ n
  length_count k zero = refl
  length_count k (suc n) = ap suc (length_count (k + 1) n)

  pub starts_fill : (turn : Turn SiteState) → I turn → is_full w (start w turn).state ≡ true
  starts_fill turn i = (let n = w.together - length turn.state.running in let long = length_count 0 n in fills (count_from 0 n) turn (omega (arith, long)) i)

-- asking for commits changes nothing of it
next_kept : (rs : List Running) (turn : Turn SiteState) → (fold (λ now r. ask_commit now r r.phase) turn rs).state.next ≡ turn.state.next
next_kept [] turn = refl
next_kept (r ∷ rs) turn = next_kept rs (ask_commit turn r r.phase) ∙ go r.phase
  where
    go : (phase : Phase) → (ask_commit turn r phase).state.next ≡ turn.state.next
    go (asking k x q) = refl
    go (preparing reads writes []) = refl
    go (preparing reads writes (s ∷ ss)) = refl
    go sent = refl

length_mapped : (f : Running → Running) (rs : List Running) → length (map f rs) ≡ length rs
length_mapped f [] = refl
length_mapped f (r ∷ rs) = ap suc (length_mapped f rs)

pub commits_fill : (w : Workload) (turn : Turn SiteState) → Ascend turn.state.running → is_full w turn.state ≡ true → is_full w (ask_commits turn).state ≡ true
commits_fill w turn a q =
    ap (λ n. n == 0 || nat_le w.together (length (ask_commits turn).state.running)) (next_kept turn.state.running turn)
    ∙ ap (λ n. turn.state.next == 0 || nat_le w.together n) (ap length (committed_all turn a) ∙ length_mapped committed turn.state.running) ∙ q
