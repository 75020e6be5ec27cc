-- A server by itself: only its own state counts.
use Rattle.std.proofs.Common.{◌≡◌, ℕ, zero, suc, ◌+◌, ◌≤◌, List, [], ◌∷◌, ◌++◌, map, fold, Option, Some, None, All, sym, ap, ap₂, subst, ◌∙◌, refl, append-nil, append_assoc}
use Rattle.std.specs.Prelude.{max, slice_get}
use Rattle.std.specs.Option.{option_map_or}
use Rattle.std.proofs.lemmas.List.Elements.{All-nil, All-cons, All-head, All-tail, All-append}
use Rattle.raid_workload.specs.declared.workload.Workload.{Workload}
use Rattle.raid_message.specs.declared.letter.Letter.{Letter}
use Rattle.raid_message.specs.declared.letter.Step.{Step}
use Rattle.raid_steps.specs.State.{Out, SiteState}
use Rattle.raid_steps.specs.Monitor.{hear_monitor}
use Rattle.raid_steps.specs.Sequencer.{hear_sequencer}
use Rattle.raid_steps.specs.World.{Servers, hear, hear_at, session_of}
use Rattle.raid_causes.specs.Histories.{History, Alone, letter_of, hearing, IsAlike}
use Rattle.raid_causes.proofs.Lists.{get_set}

pub alike_refl : (k : ℕ) (s : Servers) → IsAlike k s s
alike_refl zero s = refl
alike_refl (suc zero) s = refl
alike_refl (suc (suc k)) s = refl

pub alike_sym : (k : ℕ) (s t : Servers) → IsAlike k s t → IsAlike k t s
alike_sym zero s t e = sym e
alike_sym (suc zero) s t e = sym e
alike_sym (suc (suc k)) s t e = sym e

pub alike_trans : (k : ℕ) (s t u : Servers) → IsAlike k s t → IsAlike k t u → IsAlike k s u
alike_trans zero s t u e f = e ∙ f
alike_trans (suc zero) s t u e f = e ∙ f
alike_trans (suc (suc k)) s t u e f = e ∙ f

pub session_alike : (k : ℕ) (s t : Servers) → IsAlike k s t → session_of s k ≡ session_of t k
session_alike zero s t e = refl
session_alike (suc zero) s t e = refl
session_alike (suc (suc k)) s t e = ap (λ o. option_map_or (λ (state : SiteState). state.session) o 0) e

-- the steps that letters make from a clock on
abbrev pub step_of : ℕ → ℕ × Letter → Step
step_of c h = record { clock = 1 + max c h.1.clock; from = h.0 }

abbrev pub steps_from : ℕ → History → List Step
steps_from c [] = []
steps_from c (h ∷ hs) = step_of c h ∷ steps_from (1 + max c h.1.clock) hs

module _ (w : Workload) where
  -- two turns are alike for a server
  abbrev Turns : ℕ → Servers × List Out → Servers × List Out → Type 0
  Turns k a b = IsAlike k a.0 b.0 × (a.1 ≡ b.1)

  at_alike : (s t : Servers) (k from : ℕ) (l : Letter) (o : Option SiteState) → slice_get s.sites k ≡ o → slice_get t.sites k ≡ o → Turns (suc (suc k)) (hear_at w s k from l o) (hear_at w t k from l o)
  at_alike s t k from l None p q = (p ∙ sym q, refl)
  at_alike s t k from l (Some state) p q = (get_set s.sites k state _ p ∙ sym (get_set t.sites k state _ q), refl)

  hear_alike : (k : ℕ) (s t : Servers) (from : ℕ) (l : Letter) → IsAlike k s t → Turns k (hear w s k from l) (hear w t k from l)
  hear_alike zero s t from l e = (ap (λ f. (hear_monitor w f from l).state) e, ap (λ f. (hear_monitor w f from l).outs) e)
  hear_alike (suc zero) s t from l e = (ap (λ q. (hear_sequencer w q from l).state) e, ap (λ q. (hear_sequencer w q from l).outs) e)
  hear_alike (suc (suc k)) s t from l e =
      subst (λ o. Turns (suc (suc k)) (hear_at w s k from l o) (hear_at w t k from l (slice_get t.sites k))) (sym e) (at_alike s t k from l (slice_get t.sites k) e refl)

  -- what a server by itself is, but for what it has sent
  pub record Same (k : ℕ) (a b : Alone) : Type 0 where
    pub servers : IsAlike k a.servers b.servers
    pub clock : a.clock ≡ b.clock
    pub journal : a.journal ≡ b.journal

  abbrev clock_of : Alone → ℕ × Letter → ℕ
  clock_of a h = 1 + max a.clock h.1.clock

  -- what it sends at one more letter
  abbrev pub sends : ℕ → Alone → ℕ × Letter → List (ℕ × Letter)
  sends k a h = map (letter_of (session_of (hear w a.servers k h.0 h.1).0 k) (clock_of a h)) (hear w a.servers k h.0 h.1).1

  hearing_same : (k : ℕ) (a b : Alone) (h : ℕ × Letter) → Same k a b → Same k (hearing w k a h) (hearing w k b h)
  hearing_same k a b h e = record {
    servers = (hear_alike k a.servers b.servers h.0 h.1 e.servers).0;
    clock = ap (λ c. 1 + max c h.1.clock) e.clock;
    journal = ap₂ (λ (j : List Step) (c : ℕ). j ++ record { clock = 1 + max c h.1.clock; from = h.0 } ∷ []) e.journal e.clock;
  }

  sends_same : (k : ℕ) (a b : Alone) (h : ℕ × Letter) → Same k a b → sends k a h ≡ sends k b h
  sends_same k a b h e =
      let turns = hear_alike k a.servers b.servers h.0 h.1 e.servers in
      let session : session_of (hear w a.servers k h.0 h.1).0 k ≡ session_of (hear w b.servers k h.0 h.1).0 k = session_alike k (hear w a.servers k h.0 h.1).0 (hear w b.servers k h.0 h.1).0 turns.0 in
      let clock : clock_of a h ≡ clock_of b h = ap (λ c. 1 + max c h.1.clock) e.clock in
      ap₂ (λ (s c : ℕ). map (letter_of s c) (hear w a.servers k h.0 h.1).1) session clock
      ∙ ap (λ (outs : List Out). map (letter_of (session_of (hear w b.servers k h.0 h.1).0 k) (clock_of b h)) outs) turns.1

  pub folds_same : (k : ℕ) (hs : History) (a b : Alone) → Same k a b → Same k (fold (hearing w k) a hs) (fold (hearing w k) b hs)
  folds_same k [] a b e = e
  folds_same k (h ∷ hs) a b e = folds_same k hs (hearing w k a h) (hearing w k b h) (hearing_same k a b h e)

  -- what it sends in all
  abbrev pub sends_all : ℕ → Alone → History → List (ℕ × Letter)
  sends_all k a [] = []
  sends_all k a (h ∷ hs) = sends k a h ++ sends_all k (hearing w k a h) hs

  pub sends_all_same : (k : ℕ) (hs : History) (a b : Alone) → Same k a b → sends_all k a hs ≡ sends_all k b hs
  sends_all_same k [] a b e = refl
  sends_all_same k (h ∷ hs) a b e = ap₂ ◌++◌ (sends_same k a b h e) (sends_all_same k hs (hearing w k a h) (hearing w k b h) (hearing_same k a b h e))

  pub sent_is : (k : ℕ) (hs : History) (a : Alone) → (fold (hearing w k) a hs).sent ≡ a.sent ++ sends_all k a hs
  sent_is k [] a = sym (append-nil a.sent)
  sent_is k (h ∷ hs) a = sent_is k hs (hearing w k a h) ∙ append_assoc a.sent (sends k a h) (sends_all k (hearing w k a h) hs)

  pub journal_is : (k : ℕ) (hs : History) (a : Alone) → (fold (hearing w k) a hs).journal ≡ a.journal ++ steps_from a.clock hs
  journal_is k [] a = sym (append-nil a.journal)
  journal_is k (h ∷ hs) a = journal_is k hs (hearing w k a h) ∙ append_assoc a.journal (step_of a.clock h ∷ []) (steps_from (1 + max a.clock h.1.clock) hs)

  sent_late : (c session clock : ℕ) (outs : List Out) → c ≤ clock → All (λ x. c ≤ x.1.clock) (map (letter_of session clock) outs)
  sent_late c session clock [] h = All-nil (λ (x : ℕ × Letter). c ≤ x.1.clock)
  sent_late c session clock (out ∷ outs) h = All-cons (λ (x : ℕ × Letter). c ≤ x.1.clock) (letter_of session clock out) (map (letter_of session clock) outs) h (sent_late c session clock outs h)

  -- late steps send letters with late clocks
  pub late : (c k : ℕ) (hs : History) (a : Alone) → All (λ s. c ≤ s.clock) (steps_from a.clock hs) → All (λ x. c ≤ x.1.clock) (sends_all k a hs)
  late c k [] a h = All-nil (λ (x : ℕ × Letter). c ≤ x.1.clock)
  late c k (x ∷ hs) a h =
      let now : c ≤ clock_of a x = All-head (λ (s : Step). c ≤ s.clock) (step_of a.clock x) (steps_from (clock_of a x) hs) h in
      let later : All (λ s. c ≤ s.clock) (steps_from (clock_of a x) hs) = All-tail (λ (s : Step). c ≤ s.clock) (step_of a.clock x) (steps_from (clock_of a x) hs) h in
      All-append (λ (x : ℕ × Letter). c ≤ x.1.clock) (sends k a x) (sends_all k (hearing w k a x) hs)
      (sent_late c (session_of (hear w a.servers k x.0 x.1).0 k) (clock_of a x) (hear w a.servers k x.0 x.1).1 now) (late c k hs (hearing w k a x) later)
