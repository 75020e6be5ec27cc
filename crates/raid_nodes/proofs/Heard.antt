-- A node after a letter.
use Rattle.std.proofs.Common.{◌≡◌, ◌⊎◌, inl, inr, ℕ, zero, suc, ◌+◌, ◌<◌, ◌≤◌, ◌==◌, nat_le, Bool, true, false, ◌&&◌, ◌||◌, List, [], ◌∷◌, ◌++◌, length, map, arith, sym, ap, ap₂, subst, ◌∙◌, refl, append_assoc, length-append}
use Rattle.std.specs.Prelude.{max, min}
use Rattle.std.specs.List.{All, list_all}
use Rattle.std.proofs.lemmas.Bool.{and_parts, eqb-true}
use Rattle.std.proofs.lemmas.List.Elements.{All-nil, All-cons}
use Rattle.raid_workload.specs.declared.workload.Workload.{Workload}
use Rattle.raid_message.specs.declared.letter.Letter.{Letter}
use Rattle.raid_message.specs.declared.letter.Step.{Step}
use Rattle.raid_boxed.specs.Boxed.{Says}
use Rattle.raid_steps.specs.State.{Out}
use Rattle.raid_steps.specs.Table.{may_send, is_site_number}
use Rattle.raid_steps.specs.World as steps
use Rattle.raid_steps.specs.World.{hear, session_of, link}
use Rattle.raid_steps.proofs.Addressed.{hear_right}
use Rattle.raid_merge.specs.Merged.{of}
use Rattle.raid_merge.proofs.Flat.{of-append}
use Rattle.raid_causes.specs.Histories.{Alone, letter_of}
use Rattle.raid_causes.specs.Limited.{hearing_within}
use Rattle.raid_link.specs.declared.ends.Sender.{Sender}
use Rattle.raid_nodes.specs.Nodes.{limit, IsServer, GoesOn, heard, AreSent, Goes, IsAlone, Heard}
use Rattle.raid_nodes.specs.declared.node.ServerNode.{ServerNode}

-- what may be sent goes to a server of the workload
cases : (a b : Bool) → (a || b) ≡ true → (a ≡ true) ⊎ (b ≡ true)
cases true b q = inl refl
cases false b q = inr q

three : (a b c : Bool) → (a || b || c) ≡ true → (a ≡ true) ⊎ ((b ≡ true) ⊎ (c ≡ true))
three true b c q = inl refl
three false true c q = inr (inl refl)
three false false c q = inr (inr q)

to_number : (w : Workload) (n k : ℕ) (b : Bool) → k ≤ 1 → (n == k && b) ≡ true → n < w.sites + 2
to_number w n k b few q = let e : n ≡ k = eqb-true n k (and_parts (n == k) b q).0 in omega (arith, e, few)

at_most : (n m : ℕ) → nat_le n m ≡ true → n ≤ m
at_most n m h = grind (arith, h)

to_site : (w : Workload) (n : ℕ) (b : Bool) → (is_site_number w n && b) ≡ true → n < w.sites + 2
to_site w n b q = let e : n ≤ w.sites + 1 = at_most n (w.sites + 1) (and_parts (nat_le 2 n) (nat_le n (w.sites + 1)) (and_parts (is_site_number w n) b q).0).1 in omega (arith, e)

to_either : (w : Workload) (n k : ℕ) (b c : Bool) → k ≤ 1 → ((n == k && b) || (is_site_number w n && c)) ≡ true → n < w.sites + 2
to_either w n k b c few q = elim (cases (n == k && b) (is_site_number w n && c) q) [
  | inl p ↦ to_number w n k b few p
  | inr p ↦ to_site w n c p
]

of_three : (w : Workload) (n : ℕ) (a b c : Bool) → ((n == 0 && a) || (n == 1 && b) || (is_site_number w n && c)) ≡ true → n < w.sites + 2
of_three w n a b c q = elim (three (n == 0 && a) (n == 1 && b) (is_site_number w n && c) q) [
  | inl p ↦ to_number w n 0 a (omega arith) p
  | inr (inl p) ↦ to_number w n 1 b (omega arith) p
  | inr (inr p) ↦ to_site w n c p
]

sent_to : (w : Workload) (server : ℕ) (out : Out) → may_send w server out ≡ true → out.0 < w.sites + 2
sent_to w zero out q = to_either w out.0 1 _ _ (omega arith) q
sent_to w (suc zero) out q = to_either w out.0 0 _ _ (omega arith) q
sent_to w (suc (suc k)) out q = of_three w out.0 _ _ _ q

all_to : (w : Workload) (server : ℕ) (outs : List Out) → list_all (may_send w server) outs ≡ true → All (λ (out : Out). out.0 < w.sites + 2) outs
all_to w server [] q = All-nil (λ (out : Out). out.0 < w.sites + 2)
all_to w server (out ∷ outs) q =
    let both = and_parts (may_send w server out) (list_all (may_send w server) outs) q in
    All-cons (λ (o : Out). o.0 < w.sites + 2) out outs (sent_to w server out both.0) (all_to w server outs both.1)

module _ {V : Type 0} {D : V → Type 0} where
  pub addressed : (say : Says V D) (w : Workload) (x : ServerNode V D) (from : ℕ) (letter : Letter) (outs : List Out) (senders : List Sender) → Goes say w x → from < w.sites + 2 →
      senders ≡ x.outs.items → ((number : ℕ) (s : steps.Servers) → IsServer number x.server s → outs ≡ (hear w s number from letter).1) → All (λ (out : Out). out.0 < length senders) outs
  addressed say w x from letter outs senders g below same is =
      let count : length senders ≡ w.sites + 2 = ap length same ∙ g.outs in
      let sent = all_to w x.number (hear w g.state x.number from letter).1 (hear_right w g.state x.number from letter below) in
      subst (λ m. All (λ (out : Out). out.0 < m) outs) (sym count) (subst (All (λ (out : Out). out.0 < w.sites + 2)) (sym (is x.number g.state g.is)) sent)

  pub goes_after : (say : Says V D) (w : Workload) (x y : ServerNode V D) (from : ℕ) (letter : Letter) (step : Step) (letters : List (ℕ × Letter)) → Goes say w x → GoesOn say w y.server →
      ((number : ℕ) (s : steps.Servers) → IsServer number x.server s → IsServer number y.server (hear w s number from letter).0) → heard y.server ≤ heard x.server + 1 →
      AreSent letters x.outs.items y.outs.items → y.number ≡ x.number → y.journal ≡ x.journal ++ step ∷ [] → y.inputs ≡ x.inputs → Goes say w y
  goes_after say w x y from letter step letters g goes states more sent number journal inputs =
      let long : length y.journal ≡ length x.journal + 1 = ap length journal ∙ length-append x.journal (step ∷ []) in
      let few : heard x.server ≤ length x.journal = g.heard in
      record {
        server = goes;
        state = (hear w g.state x.number from letter).0;
        is = subst (λ n. IsServer n y.server (hear w g.state x.number from letter).0) (sym number) (states x.number g.state g.is);
        heard = omega (arith, more, few, long);
        outs = sent.count ∙ g.outs;
        inputs = ap (λ ins. length ins.items) inputs ∙ g.inputs;
      }

  module _ (w : Workload) (x y : ServerNode V D) (from session clock : ℕ) (letter : Letter) (outs : List Out)
      (states : (number : ℕ) (s : steps.Servers) → IsServer number x.server s → IsServer number y.server (hear w s number from letter).0)
      (is : (number : ℕ) (s : steps.Servers) → IsServer number x.server s → outs ≡ (hear w s number from letter).1)
      (now : (number : ℕ) (s : steps.Servers) → IsServer number y.server s → session ≡ session_of s number)
      (tick : clock ≡ min (1 + max x.clock letter.clock) limit)
      (sent : AreSent (map (letter_of session clock) outs) x.outs.items y.outs.items)
      (number : y.number ≡ x.number) (clocks : y.clock ≡ clock) (journal : y.journal ≡ x.journal ++ record { clock = clock; from = from } ∷ []) (inputs : y.inputs ≡ x.inputs) where
    -- the step of a server by itself, and its clock
    abbrev turn : Alone → steps.Servers × List Out
    turn a = hear w a.servers x.number from letter

    abbrev at : Alone → ℕ
    at a = min (1 + max a.clock letter.clock) limit

    abbrev letters : Alone → List (ℕ × Letter)
    letters a = map (letter_of (session_of (turn a).0 x.number) (at a)) (turn a).1

    at_clock : (a : Alone) → x.clock ≡ a.clock → clock ≡ at a
    at_clock a q = tick ∙ ap (λ c. min (1 + max c letter.clock) limit) q

    at_letters : (a : Alone) → IsServer x.number x.server a.servers → x.clock ≡ a.clock → map (letter_of session clock) outs ≡ letters a
    at_letters a server q =
        ap (λ n. map (letter_of n clock) outs) (now x.number (turn a).0 (states x.number a.servers server))
        ∙ ap (λ c. map (letter_of (session_of (turn a).0 x.number) c) outs) (at_clock a q)
        ∙ ap (map (letter_of (session_of (turn a).0 x.number) (at a))) (is x.number a.servers server)

    -- the node as a server by itself
    alone_after : (links : List (List (List Letter))) (a : Alone) → IsAlone links x a → IsAlone links y (hearing_within w limit x.number a (from, letter))
    alone_after links a was = record {
      server = subst (λ n. IsServer n y.server (turn a).0) (sym number) (states x.number a.servers was.server);
      clock = clocks ∙ at_clock a was.clock;
      journal = journal ∙ ap₂ (λ (j : List Step) (c : ℕ). j ++ record { clock = c; from = from } ∷ []) was.journal (at_clock a was.clock);
      sent = λ k d low.
          let below : k < length x.outs.items = subst (λ n. k < n) sent.count low in
          sent.sent k d below ∙ ap (λ ls. ls ++ of k (map (letter_of session clock) outs)) (was.sent k d below)
          ∙ append_assoc (link links k x.number) (of k a.sent) (of k (map (letter_of session clock) outs))
          ∙ ap (λ ls. link links k x.number ++ (of k a.sent ++ of k ls)) (at_letters a was.server was.clock)
          ∙ ap (λ ls. link links k x.number ++ ls) (sym (of-append k a.sent (letters a)))
          ∙ ap (λ n. link links k n ++ of k (a.sent ++ letters a)) (sym number);
    }

    pub heard_after : Heard w x (from, letter) y
    heard_after = record {
      alone = alone_after;
      number = number;
      steps = ap length journal ∙ length-append x.journal (record { clock = clock; from = from } ∷ []);
      outs = sent.count;
      same = sent.same;
      inputs = inputs;
    }
