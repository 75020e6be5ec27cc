-- Letters taken one after another.
use Rattle.std.proofs.Common.{◌≡◌, ◌≢◌, ◌⊎◌, inl, inr, ℕ, zero, suc, ◌+◌, ◌<◌, ◌≤◌, List, [], ◌∷◌, ◌++◌, length, fold, arith, sym, ap, subst, ◌∙◌, refl, append_assoc, length-append}
use Rattle.std.specs.Prelude.{slice_set, slice_index_or, Option, Some, None, IfNone}
use Rattle.std.proofs.lemmas.List.{append-nil, get_or_default}
use Rattle.raid_workload.specs.declared.workload.Workload.{Workload}
use Rattle.raid_message.specs.declared.letter.Letter.{Letter}
use Rattle.raid_steps.specs.World.{link}
use Rattle.raid_merge.specs.Merged.{of}
use Rattle.raid_merge.proofs.Flat.{of-append}
use Rattle.raid_causes.specs.Histories.{History, Alone}
use Rattle.raid_causes.specs.Limited.{hearing_within}
use Rattle.raid_causes.proofs.Lists.{same_or_not, below_or_not, index_other, length_set, set_at}
use Rattle.raid_link.specs.Link.{all_sent, given, known, SameSender, SameReceiver}
use Rattle.raid_link.specs.declared.ends.Sender.{Sender}
use Rattle.raid_link.specs.declared.ends.Receiver.{Receiver}
use Rattle.raid_link.proofs.Same.{SameSender-same, SameReceiver-same, SameSender-trans, SameReceiver-trans}
use Rattle.raid_nodes.proofs.Steps.{of_one, of_none}
use Rattle.raid_nodes.specs.Nodes.{limit, IsServer, AreSent, IsAlone, Heard}
use Rattle.raid_nodes.specs.Turns.{Fetched, Took, SameKnown, NoneKnown, Found, Missed, Still, SomeKnown, TurnMade}
use Rattle.raid_nodes.specs.Settled.{with_receiver}
use Rattle.raid_nodes.specs.Fits.{element_of}
use Rattle.raid_nodes.specs.declared.node.ServerNode.{ServerNode}

fold_parts : {A B : Type 0} (f : A → B → A) (a : A) (xs ys : List B) → fold f a (xs ++ ys) ≡ fold f (fold f a xs) ys
fold_parts f a [] ys = refl
fold_parts f a (x ∷ xs) ys = fold_parts f (f a x) xs ys

pub some_none : {X : Type 0} (xs : List X) → xs ≡ [] → 0 < length xs → ⊥
some_none xs q h = let e : length xs ≡ 0 = ap length q in omega (arith, e, h)

-- a number of letters that may not be none
pub positive : (i : ℕ) → (i ≡ 0 → ⊥) → 0 < i
positive zero f = absurd (f refl)
positive (suc i) f = omega arith

module _ {V : Type 0} {D : V → Type 0} where
  pub fetched_none : (x : ServerNode V D) → Fetched x [] x
  fetched_none x = record {
    number = refl;
    server = refl;
    clock = refl;
    journal = refl;
    outs = refl;
    inputs = refl;
    senders = λ k d low. SameSender-same (slice_index_or x.outs.items k d);
    receivers = λ k d low. SameReceiver-same (slice_index_or x.inputs.items k d);
    sent = λ k d low. refl;
    taken = λ k d low. sym (append-nil (given (slice_index_or x.inputs.items k d)));
    others = λ k past. refl;
  }

  pub fetched_more : (x y z : ServerNode V D) (h g : History) → Fetched x h y → Fetched y g z → Fetched x (h ++ g) z
  fetched_more x y z h g p q = record {
    number = q.number ∙ p.number;
    server = q.server ∙ p.server;
    clock = q.clock ∙ p.clock;
    journal = q.journal ∙ p.journal;
    outs = q.outs ∙ p.outs;
    inputs = q.inputs ∙ p.inputs;
    senders = λ k d low. SameSender-trans (slice_index_or x.outs.items k d) (slice_index_or y.outs.items k d) (slice_index_or z.outs.items k d) (p.senders k d low) (q.senders k d (subst (λ n. k < n) (sym p.outs) low));
    receivers = λ k d low. SameReceiver-trans (slice_index_or x.inputs.items k d) (slice_index_or y.inputs.items k d) (slice_index_or z.inputs.items k d) (p.receivers k d low) (q.receivers k d (subst (λ n. k < n) (sym p.inputs) low));
    sent = λ k d low. q.sent k d (subst (λ n. k < n) (sym p.outs) low) ∙ p.sent k d low;
    taken = λ k d low.
        q.taken k d (subst (λ n. k < n) (sym p.inputs) low) ∙ ap (λ ls. ls ++ of k g) (p.taken k d low)
        ∙ append_assoc (given (slice_index_or x.inputs.items k d)) (of k h) (of k g) ∙ ap (λ ls. given (slice_index_or x.inputs.items k d) ++ ls) (sym (of-append k h g));
    others = λ k past. of-append k h g ∙ ap (λ ls. ls ++ of k g) (p.others k past) ∙ q.others k (subst (λ n. n ≤ k) (sym p.inputs) past);
  }

  alone_fetched : (x y : ServerNode V D) (h : History) → Fetched x h y → (links : List (List (List Letter))) (a : Alone) → IsAlone links x a → IsAlone links y a
  alone_fetched x y h f links a is = record {
    server = subst (λ n. IsServer n y.server a.servers) (sym f.number) (subst (λ s. IsServer x.number s a.servers) (sym f.server) is.server);
    clock = f.clock ∙ is.clock;
    journal = f.journal ∙ is.journal;
    sent = λ k d low.
        let below : k < length x.outs.items = subst (λ n. k < n) f.outs low in
        f.sent k d below ∙ is.sent k d below ∙ ap (λ n. link links k n ++ of k a.sent) (sym f.number);
  }

  pub took_fetched : (w : Workload) (x y : ServerNode V D) → Fetched x [] y → Took w x [] y
  took_fetched w x y f = record {
    alone = λ links a is. alone_fetched x y [] f links a is;
    number = f.number;
    steps = let e : length y.journal ≡ length x.journal = ap length f.journal in omega (arith, e);
    outs = f.outs;
    inputs = f.inputs;
    senders = f.senders;
    receivers = f.receivers;
    taken = f.taken;
    others = f.others;
  }

  pub took_none : (w : Workload) (x : ServerNode V D) → Took w x [] x
  took_none w x = took_fetched w x x (fetched_none x)

  pub took_heard : (w : Workload) (x m z : ServerNode V D) (l : ℕ × Letter) → Fetched x (l ∷ []) m → Heard w m l z → Took w x (l ∷ []) z
  took_heard w x m z l f h = record {
    alone = λ links a is. subst (λ n. IsAlone links z (hearing_within w limit n a l)) f.number (h.alone links a (alone_fetched x m (l ∷ []) f links a is));
    number = h.number ∙ f.number;
    steps = let e : length m.journal ≡ length x.journal = ap length f.journal in let s = h.steps in omega (arith, e, s);
    outs = h.outs ∙ f.outs;
    inputs = ap (λ ins. length ins.items) h.inputs ∙ f.inputs;
    senders = λ k d low. SameSender-trans (slice_index_or x.outs.items k d) (slice_index_or m.outs.items k d) (slice_index_or z.outs.items k d) (f.senders k d low) (h.same k d (subst (λ n. k < n) (sym f.outs) low));
    receivers = λ k d low. subst (λ ins. SameReceiver (slice_index_or x.inputs.items k d) (slice_index_or ins.items k d)) (sym h.inputs) (f.receivers k d low);
    taken = λ k d low. ap (λ ins. given (slice_index_or ins.items k d)) h.inputs ∙ f.taken k d low;
    others = f.others;
  }

  pub took_more : (w : Workload) (x y z : ServerNode V D) (h g : History) → Took w x h y → Took w y g z → Took w x (h ++ g) z
  took_more w x y z h g p q = record {
    alone = λ links a is.
        subst (IsAlone links z) (ap (λ n. fold (hearing_within w limit n) (fold (hearing_within w limit x.number) a h) g) p.number ∙ sym (fold_parts (hearing_within w limit x.number) a h g))
        (q.alone links (fold (hearing_within w limit x.number) a h) (p.alone links a is));
    number = q.number ∙ p.number;
    steps = let e : length (h ++ g) ≡ length h + length g = length-append h g in omega (arith, p.steps, q.steps, e);
    outs = q.outs ∙ p.outs;
    inputs = q.inputs ∙ p.inputs;
    senders = λ k d low. SameSender-trans (slice_index_or x.outs.items k d) (slice_index_or y.outs.items k d) (slice_index_or z.outs.items k d) (p.senders k d low) (q.senders k d (subst (λ n. k < n) (sym p.outs) low));
    receivers = λ k d low. SameReceiver-trans (slice_index_or x.inputs.items k d) (slice_index_or y.inputs.items k d) (slice_index_or z.inputs.items k d) (p.receivers k d low) (q.receivers k d (subst (λ n. k < n) (sym p.inputs) low));
    taken = λ k d low.
        q.taken k d (subst (λ n. k < n) (sym p.inputs) low) ∙ ap (λ ls. ls ++ of k g) (p.taken k d low)
        ∙ append_assoc (given (slice_index_or x.inputs.items k d)) (of k h) (of k g) ∙ ap (λ ls. given (slice_index_or x.inputs.items k d) ++ ls) (sym (of-append k h g));
    others = λ k past. of-append k h g ∙ ap (λ ls. ls ++ of k g) (p.others k past) ∙ q.others k (subst (λ n. n ≤ k) (sym p.inputs) past);
  }

  -- the end of the link from one server changes, and nothing else
  module _ (x : ServerNode V D) (from : ℕ) (old r : Receiver) (below : from < length x.inputs.items) (at : old ≡ slice_index_or x.inputs.items from old) (still : SameReceiver old r) where
    abbrev y : ServerNode V D
    y = with_receiver x from r

    here : (d : Receiver) → slice_index_or x.inputs.items from d ≡ old
    here d = get_or_default x.inputs.items from d old below ∙ sym at

    long : length y.inputs.items ≡ length x.inputs.items
    long = length_set x.inputs.items from r

    -- what holds of each end
    each : (P : ℕ → Receiver → Receiver → Type 0) → P from old r → ((k : ℕ) (d : Receiver) → k ≢ from → P k (slice_index_or x.inputs.items k d) (slice_index_or x.inputs.items k d)) →
        (k : ℕ) (d : Receiver) → P k (slice_index_or x.inputs.items k d) (slice_index_or y.inputs.items k d)
    each P one other k d = go (same_or_not k from)
      where
        go : (k ≡ from) ⊎ (k ≢ from) → P k (slice_index_or x.inputs.items k d) (slice_index_or y.inputs.items k d)
        go (inl q) = subst (λ n. P n (slice_index_or x.inputs.items n d) (slice_index_or y.inputs.items n d)) (sym q)
            (subst (λ b. P from (slice_index_or x.inputs.items from d) b) (sym (set_at x.inputs.items from r d below)) (subst (λ b. P from b r) (sym (here d)) one))
        go (inr q) = subst (λ b. P k (slice_index_or x.inputs.items k d) b) (sym (index_other x.inputs.items from k r d q)) (other k d q)

    pub fetched_at : (letters : History) → given r ≡ given old ++ of from letters → ((k : ℕ) → k ≢ from → of k letters ≡ []) → Fetched x letters y
    fetched_at letters taken none = record {
      number = refl;
      server = refl;
      clock = refl;
      journal = refl;
      outs = refl;
      inputs = long;
      senders = λ k d low. SameSender-same (slice_index_or x.outs.items k d);
      receivers = λ k d low. each (λ k a b. SameReceiver a b) still (λ k d q. SameReceiver-same (slice_index_or x.inputs.items k d)) k d;
      sent = λ k d low. refl;
      taken = λ k d low. each (λ k a b. given b ≡ given a ++ of k letters) taken (λ k d q. sym (ap (λ ls. given (slice_index_or x.inputs.items k d) ++ ls) (none k q) ∙ append-nil (given (slice_index_or x.inputs.items k d)))) k d;
      others = λ k past. none k (λ q. omega (arith, q, past, below));
    }

    pub found_at : (letter : Letter) → given r ≡ given old ++ letter ∷ [] → Fetched x ((from, letter) ∷ []) y
    found_at letter taken = fetched_at ((from, letter) ∷ []) (taken ∙ ap (λ ls. given old ++ ls) (sym (of_one from (from, letter) refl))) (λ k q. of_none k (from, letter) (λ e. q (sym e)))

    pub missed_at : given r ≡ given old → known old ≡ [] → known r ≡ [] → Missed x from (from + 1) y
    missed_at taken was now = record {
      fetched = fetched_at [] (taken ∙ sym (append-nil (given old))) (λ k q. refl);
      same = record { same = λ k d low. each (λ k a b. known b ≡ known a) (now ∙ sym was) (λ k d q. refl) k d };
      none = record { none = λ k d a b low. let q : k ≡ from = omega (arith, a, b) in subst (λ n. known (slice_index_or x.inputs.items n d) ≡ []) (sym q) (ap known (here d) ∙ was) };
    }

  same_more : (x y z : ServerNode V D) → length y.inputs.items ≡ length x.inputs.items → SameKnown x y → SameKnown y z → SameKnown x z
  same_more x y z long p q = record { same = λ k d low. q.same k d (subst (λ n. k < n) (sym long) low) ∙ p.same k d low }

  pub still_none : (x : ServerNode V D) → Still x x
  still_none x = record { fetched = fetched_none x; same = record { same = λ k d low. refl } }

  pub missed_none : (x : ServerNode V D) (first : ℕ) → Missed x first first x
  missed_none x first = record { fetched = fetched_none x; same = record { same = λ k d low. refl }; none = record { none = λ k d a b low. absurd (omega (arith, a, b)) } }

  -- servers of which none came, and then those after them
  pub missed_more : (x y z : ServerNode V D) (first mid end : ℕ) → Missed x first mid y → Missed y mid end z → Missed x first end z
  missed_more x y z first mid end p q = record {
    fetched = fetched_more x y z [] [] p.fetched q.fetched;
    same = same_more x y z p.fetched.inputs p.same q.same;
    none = record { none = λ k d a b low. go k d a b low (below_or_not k mid) };
  }
    where
      go : (k : ℕ) (d : Receiver) → first ≤ k → k < end → k < length x.inputs.items → (k < mid) ⊎ (mid ≤ k) → known (slice_index_or x.inputs.items k d) ≡ []
      go k d a b low (inl c) = p.none.none k d a c low
      go k d a b low (inr c) = sym (p.same.same k d low) ∙ q.none.none k d c b (subst (λ n. k < n) (sym p.fetched.inputs) low)

  -- a letter that came where none of other servers had come
  pub found_later : (x y z : ServerNode V D) (first mid : ℕ) (l : ℕ × Letter) → Missed x first mid y → Found y l z → Found x l z
  found_later x y z first mid l p f = record {
    from = subst (λ n. l.0 < n) p.fetched.inputs f.from;
    fetched = fetched_more x y z [] (l ∷ []) p.fetched f.fetched;
  }

  -- all servers, in two parts
  pub missed_all : (x y z : ServerNode V D) (first end : ℕ) → first ≤ end → Missed x first end y → Missed y 0 first z → Missed x 0 end z
  missed_all x y z first end within p q = record {
    fetched = fetched_more x y z [] [] p.fetched q.fetched;
    same = same_more x y z p.fetched.inputs p.same q.same;
    none = record { none = λ k d a b low. go k d b low (below_or_not k first) };
  }
    where
      go : (k : ℕ) (d : Receiver) → k < end → k < length x.inputs.items → (k < first) ⊎ (first ≤ k) → known (slice_index_or x.inputs.items k d) ≡ []
      go k d b low (inl c) = sym (p.same.same k d low) ∙ q.none.none k d (omega arith) c (subst (λ n. k < n) (sym p.fetched.inputs) low)
      go k d b low (inr c) = p.none.none k d c b low

  -- ends that are moved on, and parts that no contract speaks of
  pub still_more : (x y z : ServerNode V D) → Still x y → Still y z → Still x z
  still_more x y z p q = record { fetched = fetched_more x y z [] [] p.fetched q.fetched; same = same_more x y z p.fetched.inputs p.same q.same }

  pub still_sent : (x y : ServerNode V D) → y.number ≡ x.number → y.server ≡ x.server → y.clock ≡ x.clock → y.journal ≡ x.journal → y.inputs ≡ x.inputs → AreSent [] x.outs.items y.outs.items → Still x y
  still_sent x y number server clock journal inputs sent = record {
    fetched = record {
      number = number;
      server = server;
      clock = clock;
      journal = journal;
      outs = sent.count;
      inputs = ap (λ ins. length ins.items) inputs;
      senders = sent.same;
      receivers = λ k d low. subst (λ ins. SameReceiver (slice_index_or x.inputs.items k d) (slice_index_or ins.items k d)) (sym inputs) (SameReceiver-same (slice_index_or x.inputs.items k d));
      sent = λ k d low. sent.sent k d low ∙ append-nil (all_sent (slice_index_or x.outs.items k d));
      taken = λ k d low. ap (λ ins. given (slice_index_or ins.items k d)) inputs ∙ sym (append-nil (given (slice_index_or x.inputs.items k d)));
      others = λ k past. refl;
    };
    same = record { same = λ k d low. ap (λ ins. known (slice_index_or ins.items k d)) inputs };
  }

  pub found_still : (x y z : ServerNode V D) (l : ℕ × Letter) → Still x y → Found y l z → Found x l z
  found_still x y z l p f = record { from = subst (λ n. l.0 < n) p.fetched.inputs f.from; fetched = fetched_more x y z [] (l ∷ []) p.fetched f.fetched }

  pub still_found : (x y z : ServerNode V D) (l : ℕ × Letter) → Found x l y → Still y z → Found x l z
  still_found x y z l f q = record { from = f.from; fetched = fetched_more x y z (l ∷ []) [] f.fetched q.fetched }

  pub missed_between : (x y z t : ServerNode V D) (first end : ℕ) → Still x y → Missed y first end z → Still z t → Missed x first end t
  missed_between x y z t first end p m q = record {
    fetched = fetched_more x z t [] [] (fetched_more x y z [] [] p.fetched m.fetched) q.fetched;
    same = same_more x z t (m.fetched.inputs ∙ p.fetched.inputs) (same_more x y z p.fetched.inputs p.same m.same) q.same;
    none = record { none = λ k d a b low. sym (p.same.same k d low) ∙ m.none.none k d a b (subst (λ n. k < n) (sym p.fetched.inputs) low) };
  }

-- what follows where there is none
pub if_none_then : {X : Type 0} (r : Option X) {P Q : Type 0} → IfNone r P → (P → Q) → IfNone r Q
if_none_then None p f = f p
if_none_then (Some x) p f = p
