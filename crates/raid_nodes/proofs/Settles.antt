-- Settling one link after another.
use Rattle.std.proofs.Common.{◌≡◌, ◌≢◌, ◌⊎◌, inl, inr, ℕ, zero, suc, ◌+◌, ◌<◌, ◌≤◌, List, [], ◌∷◌, ◌++◌, Bool, true, false, ◌||◌, IsTrue, ◌↔◌, length, drop, arith, sym, ap, ap₂, subst, ◌∙◌, refl}
use Rattle.std.specs.Prelude.{slice_set, slice_index_or}
use Rattle.std.proofs.lemmas.List.{append-nil, get_or_default}
use Rattle.raid_causes.proofs.Lists.{same_or_not, index_other, length_set, set_at}
use Rattle.raid_link.specs.Link.{all_sent, given, left, IsLink, IsSettled, SameSender, SameReceiver}
use Rattle.raid_link.specs.declared.ends.Sender.{Sender}
use Rattle.raid_link.specs.declared.ends.Receiver.{Receiver}
use Rattle.raid_link.proofs.Same.{SameSender-same, SameReceiver-same}
use Rattle.raid_nodes.specs.Turns.{Fetched}
use Rattle.raid_nodes.specs.Settled.{sender_of, receiver_of, with_sender, with_receiver, with_ends, on_link, WholeNodes, SomeLeft, SettledSo, Settled, EndsSettled, PairSettled}
use Rattle.raid_nodes.specs.Fits.{element_of, ends_fetched, whole_after}
use Rattle.raid_nodes.specs.declared.node.ServerNode.{ServerNode}
use Rattle.raid_nodes.proofs.Fetches.{fetched_none, fetched_more, fetched_at}

some_or : {A : Type 0} (b r : Bool) → (b ≡ true → A) → (r ≡ true → A) → b || r ≡ true → A
some_or true r f g e = f refl
some_or false r f g e = g e

none_or : {A B : Type 0} (b r : Bool) → (b ≡ false → A) → (r ≡ false → B) → b || r ≡ false → A × B
none_or true r f g e = cc
none_or false r f g e = (f refl, g e)

none_left : (n : ℕ) (r : Bool) → (IsTrue r ↔ (0 < n)) → r ≡ false → n ≡ 0
none_left n true h e = cc
none_left zero false h e = refl
none_left (suc n) false h e = let t : IsTrue false = h.1 (omega arith) in cc t

-- a link's ends as they were read and as they are settled
pub ends_settled : (outs : List Sender) (k : ℕ) (s t : Sender) (inputs : List Receiver) (m : ℕ) (r q : Receiver) (b : Bool) → k < length outs → s ≡ slice_index_or outs k s → m < length inputs → r ≡ slice_index_or inputs m r →
    SameSender s t → SameReceiver r q → all_sent t ≡ all_sent s → given q ≡ given r → IsSettled t q → (IsTrue b ↔ (0 < length (left t q))) → (e : Sender) (f : Receiver) → EndsSettled (slice_index_or outs k e) (slice_index_or inputs m f) b t q
ends_settled outs k s t inputs m r q b low at high there same still sent taken settled value e f =
    subst (λ a. EndsSettled a (slice_index_or inputs m f) b t q) (at ∙ get_or_default outs k s e low)
    (subst (λ g. EndsSettled s g b t q) (there ∙ get_or_default inputs m r f high) (record { sender = same; receiver = still; sent = sent; given = taken; settled = settled; value = value }))

set_twice : {X : Type 0} (xs : List X) (k : ℕ) (x y : X) → slice_set (slice_set xs k x) k y ≡ slice_set xs k y
set_twice [] k x y = refl
set_twice (z ∷ xs) zero x y = refl
set_twice (z ∷ xs) (suc k) x y = ap (λ zs. z ∷ zs) (set_twice xs k x y)

module _ {V : Type 0} {D : V → Type 0} where
  -- another end of the link to one server, from which as much was sent
  pub fetched_sender : (x : ServerNode V D) (to : ℕ) (old t : Sender) → to < length x.outs.items → slice_index_or x.outs.items to old ≡ old → SameSender old t → all_sent t ≡ all_sent old → Fetched x [] (with_sender x to t)
  fetched_sender x to old t below at still sent = record {
    number = refl;
    server = refl;
    clock = refl;
    journal = refl;
    outs = length_set x.outs.items to t;
    inputs = refl;
    senders = λ k d low. each (λ a b. SameSender a b) still (λ k d. SameSender-same (slice_index_or x.outs.items k d)) k d;
    receivers = λ k d low. SameReceiver-same (slice_index_or x.inputs.items k d);
    sent = λ k d low. each (λ a b. all_sent b ≡ all_sent a) sent (λ k d. refl) k d;
    taken = λ k d low. sym (append-nil (given (slice_index_or x.inputs.items k d)));
    others = λ k past. refl;
  }
    where
      each : (P : Sender → Sender → Type 0) → P old t → ((k : ℕ) (d : Sender) → P (slice_index_or x.outs.items k d) (slice_index_or x.outs.items k d)) →
          (k : ℕ) (d : Sender) → P (slice_index_or x.outs.items k d) (slice_index_or (slice_set x.outs.items to t) k d)
      each P one other k d = elim (same_or_not k to) [
        | inl q ↦
            subst (λ n. P (slice_index_or x.outs.items n d) (slice_index_or (slice_set x.outs.items to t) n d)) (sym q)
            (subst (λ b. P (slice_index_or x.outs.items to d) b) (sym (set_at x.outs.items to t d below)) (subst (λ a. P a t) (sym (get_or_default x.outs.items to d old below ∙ at)) one))
        | inr q ↦ subst (λ b. P (slice_index_or x.outs.items k d) b) (sym (index_other x.outs.items to k t d q)) (other k d)
      ]

  -- as many letters are on each link while nothing is sent and nothing taken
  on_link_kept : (xs ys : List (ServerNode V D)) → WholeNodes xs → ((k : ℕ) (d : ServerNode V D) → k < length xs → Fetched (slice_index_or xs k d) [] (slice_index_or ys k d)) →
      (i j : ℕ) (d : ServerNode V D) (e : Sender) (f : Receiver) → i < length xs → j < length xs → on_link ys i j d e f ≡ on_link xs i j d e f
  on_link_kept xs ys w kept i j d e f low high =
      let to : j < length (slice_index_or xs i d).outs.items = let o = w.outs i d low in omega (arith, high, o) in
      let from : i < length (slice_index_or xs j d).inputs.items = let o = w.inputs j d high in omega (arith, low, o) in
      let sent : all_sent (sender_of (slice_index_or ys i d) j e) ≡ all_sent (sender_of (slice_index_or xs i d) j e) = (kept i d low).sent j e to in
      let taken : given (receiver_of (slice_index_or ys j d) i f) ≡ given (receiver_of (slice_index_or xs j d) i f) = (kept j d high).taken i f from ∙ append-nil (given (receiver_of (slice_index_or xs j d) i f)) in
      ap₂ (λ ls gs. length (drop (length gs) ls)) sent taken

  some_kept : (xs ys : List (ServerNode V D)) → WholeNodes xs → length ys ≡ length xs → ((k : ℕ) (d : ServerNode V D) → k < length xs → Fetched (slice_index_or xs k d) [] (slice_index_or ys k d)) → SomeLeft xs → SomeLeft ys
  some_kept xs ys w long kept t = (
    t.0,
    t.1,
    omega (arith, t.2, long),
    omega (arith, t.3, long),
    λ d e f. subst (λ n. 0 < n) (sym (on_link_kept xs ys w kept t.0 t.1 d e f t.2 t.3)) (t.4 d e f),
  )

  pub none_settled : (P : ℕ → ℕ → Type 0) (xs : List (ServerNode V D)) → ((i j : ℕ) → P i j → ⊥) → SettledSo P xs false xs
  none_settled P xs none = record {
    long = refl;
    kept = λ k d low. fetched_none (slice_index_or xs k d);
    senders = λ i j d e low high off. refl;
    receivers = λ i j d f low high off. refl;
    settled = λ i j d e f low high p. absurd (none i j p);
    some = λ q. cc;
    none = λ q i j d e f low high p. absurd (none i j p);
  }

  -- the same links, said in other words
  pub settled_same : (P Q : ℕ → ℕ → Type 0) (xs : List (ServerNode V D)) (b : Bool) (ys : List (ServerNode V D)) → ((i j : ℕ) → P i j → Q i j) → ((i j : ℕ) → i < length xs → j < length xs → Q i j → P i j) → SettledSo P xs b ys → SettledSo Q xs b ys
  settled_same P Q xs b ys out back s = record {
    long = s.long;
    kept = s.kept;
    senders = λ i j d e low high off. s.senders i j d e low high (λ p. off (out i j p));
    receivers = λ i j d f low high off. s.receivers i j d f low high (λ p. off (out i j p));
    settled = λ i j d e f low high q. s.settled i j d e f low high (back i j low high q);
    some = s.some;
    none = λ e i j d s' f low high q. s.none e i j d s' f low high (back i j low high q);
  }

  pub whole_settled : (P : ℕ → ℕ → Type 0) (xs : List (ServerNode V D)) (b : Bool) (ys : List (ServerNode V D)) → WholeNodes xs → SettledSo P xs b ys → WholeNodes ys
  whole_settled P xs b ys w s = whole_after xs ys s.long (λ k d low. ends_fetched (slice_index_or xs k d) (slice_index_or ys k d) (s.kept k d low)) w

  -- some links, and then others
  module _ (P Q R : ℕ → ℕ → Type 0) (xs ys zs : List (ServerNode V D)) (b r : Bool) (w : WholeNodes xs) (p : SettledSo P xs b ys) (q : SettledSo Q ys r zs)
      (parts : (i j : ℕ) → R i j → (Q i j) ⊎ ((Q i j → ⊥) × P i j)) (first : (i j : ℕ) → P i j → R i j) (second : (i j : ℕ) → Q i j → R i j) where
    in_mid : (i : ℕ) → i < length xs → i < length ys
    in_mid i low = omega (arith, low, p.long)

    mid_whole : WholeNodes ys
    mid_whole = whole_settled P xs b ys w p

    settled_then : (i j : ℕ) (d : ServerNode V D) (e : Sender) (f : Receiver) → i < length xs → j < length xs → (Q i j) ⊎ ((Q i j → ⊥) × P i j) → IsSettled (sender_of (slice_index_or zs i d) j e) (receiver_of (slice_index_or zs j d) i f)
    settled_then i j d e f low high (inl here) = q.settled i j d e f (in_mid i low) (in_mid j high) here
    settled_then i j d e f low high (inr (off, before)) =
        subst (λ s. IsSettled s (receiver_of (slice_index_or zs j d) i f)) (sym (q.senders i j d e (in_mid i low) (in_mid j high) off))
        (subst (λ g. IsSettled (sender_of (slice_index_or ys i d) j e) g) (sym (q.receivers i j d f (in_mid i low) (in_mid j high) off)) (p.settled i j d e f low high before))

    none_then : (b ≡ false → (i j : ℕ) (d : ServerNode V D) (e : Sender) (f : Receiver) → i < length xs → j < length xs → P i j → on_link ys i j d e f ≡ 0) →
        ((i j : ℕ) (d : ServerNode V D) (e : Sender) (f : Receiver) → i < length ys → j < length ys → Q i j → on_link zs i j d e f ≡ 0) → b ≡ false →
        (i j : ℕ) (d : ServerNode V D) (e : Sender) (f : Receiver) → i < length xs → j < length xs → (Q i j) ⊎ ((Q i j → ⊥) × P i j) → on_link zs i j d e f ≡ 0
    none_then g h o i j d e f low high (inl here) = h i j d e f (in_mid i low) (in_mid j high) here
    none_then g h o i j d e f low high (inr (off, before)) = on_link_kept ys zs mid_whole q.kept i j d e f (in_mid i low) (in_mid j high) ∙ g o i j d e f low high before

    none_of : b || r ≡ false → (b ≡ false) × (r ≡ false)
    none_of e = none_or b r (λ o. o) (λ o. o) e

    pub settled_more : SettledSo R xs (b || r) zs
    settled_more = record {
      long = q.long ∙ p.long;
      kept = λ k d low. fetched_more (slice_index_or xs k d) (slice_index_or ys k d) (slice_index_or zs k d) [] [] (p.kept k d low) (q.kept k d (in_mid k low));
      senders = λ i j d e low high off. q.senders i j d e (in_mid i low) (in_mid j high) (λ h. off (second i j h)) ∙ p.senders i j d e low high (λ h. off (first i j h));
      receivers = λ i j d f low high off. q.receivers i j d f (in_mid i low) (in_mid j high) (λ h. off (second i j h)) ∙ p.receivers i j d f low high (λ h. off (first i j h));
      settled = λ i j d e f low high h. settled_then i j d e f low high (parts i j h);
      some = some_or b r (λ e. some_kept ys zs mid_whole q.long q.kept (p.some e)) q.some;
      none = λ e i j d s f low high h. none_then p.none (q.none (none_of e).1) (none_of e).0 i j d s f low high (parts i j h);
    }

  -- the link from i to j was settled
  module _ (xs ys : List (ServerNode V D)) (i j : ℕ) (b : Bool) (w : WholeNodes xs) (low : i < length xs) (high : j < length xs) (p : PairSettled i j xs b ys) where
    abbrev d₀ : ServerNode V D
    d₀ = element_of xs i low

    abbrev t : Sender
    t = p.sender

    abbrev q : Receiver
    q = p.receiver

    abbrev one : List (ServerNode V D)
    one = slice_set xs i (with_sender (slice_index_or xs i d₀) j t)

    long_one : length one ≡ length xs
    long_one = length_set xs i (with_sender (slice_index_or xs i d₀) j t)

    is : ys ≡ slice_set one j (with_receiver (slice_index_or one j d₀) i q)
    is = p.are d₀

    long_two : length ys ≡ length xs
    long_two = ap length is ∙ length_set one j (with_receiver (slice_index_or one j d₀) i q) ∙ long_one

    high_one : j < length one
    high_one = omega (arith, high, long_one)

    to : j < length (slice_index_or xs i d₀).outs.items
    to = let o = w.outs i d₀ low in omega (arith, high, o)

    one_at : (d : ServerNode V D) → slice_index_or one i d ≡ with_sender (slice_index_or xs i d₀) j t
    one_at d = set_at xs i (with_sender (slice_index_or xs i d₀) j t) d low

    one_other : (k : ℕ) (d : ServerNode V D) → k ≢ i → slice_index_or one k d ≡ slice_index_or xs k d
    one_other k d off = index_other xs i k (with_sender (slice_index_or xs i d₀) j t) d off

    two_at : (d : ServerNode V D) → slice_index_or ys j d ≡ with_receiver (slice_index_or one j d₀) i q
    two_at d = ap (λ zs. slice_index_or zs j d) is ∙ set_at one j (with_receiver (slice_index_or one j d₀) i q) d high_one

    two_other : (k : ℕ) (d : ServerNode V D) → k ≢ j → slice_index_or ys k d ≡ slice_index_or one k d
    two_other k d off = ap (λ zs. slice_index_or zs k d) is ∙ index_other one j k (with_receiver (slice_index_or one j d₀) i q) d off

    outs_two : (k : ℕ) (d : ServerNode V D) → (slice_index_or ys k d).outs ≡ (slice_index_or one k d).outs
    outs_two k d = elim (same_or_not k j) [
      | inl e ↦ subst (λ n. (slice_index_or ys n d).outs ≡ (slice_index_or one n d).outs) (sym e) (ap (λ x. x.outs) (two_at d) ∙ ap (λ x. x.outs) (get_or_default one j d₀ d high_one))
      | inr off ↦ ap (λ x. x.outs) (two_other k d off)
    ]

    inputs_one : (k : ℕ) (d : ServerNode V D) → (slice_index_or one k d).inputs ≡ (slice_index_or xs k d).inputs
    inputs_one k d = elim (same_or_not k i) [
      | inl e ↦ subst (λ n. (slice_index_or one n d).inputs ≡ (slice_index_or xs n d).inputs) (sym e) (ap (λ x. x.inputs) (one_at d) ∙ ap (λ x. x.inputs) (get_or_default xs i d₀ d low))
      | inr off ↦ ap (λ x. x.inputs) (one_other k d off)
    ]

    sender_here : (d : ServerNode V D) (e : Sender) → sender_of (slice_index_or ys i d) j e ≡ t
    sender_here d e = ap (λ o. slice_index_or o.items j e) (outs_two i d) ∙ ap (λ x. sender_of x j e) (one_at d) ∙ set_at (slice_index_or xs i d₀).outs.items j t e to

    from : i < length (slice_index_or one j d₀).inputs.items
    from = subst (λ ins. i < length ins.items) (sym (inputs_one j d₀)) (let o = w.inputs j d₀ high in omega (arith, low, o))

    receiver_here : (d : ServerNode V D) (f : Receiver) → receiver_of (slice_index_or ys j d) i f ≡ q
    receiver_here d f = ap (λ x. receiver_of x i f) (two_at d) ∙ set_at (slice_index_or one j d₀).inputs.items i q f from

    sender_there : (a c : ℕ) (d : ServerNode V D) (e : Sender) → ((a ≡ i) × (c ≡ j) → ⊥) → (a ≡ i) ⊎ (a ≢ i) → sender_of (slice_index_or one a d) c e ≡ sender_of (slice_index_or xs a d) c e
    sender_there a c d e off (inl h) =
        let other : c ≢ j = λ g. off (h, g) in
        subst (λ n. sender_of (slice_index_or one n d) c e ≡ sender_of (slice_index_or xs n d) c e) (sym h)
        (ap (λ x. sender_of x c e) (one_at d) ∙ index_other (slice_index_or xs i d₀).outs.items j c t e other ∙ ap (λ x. sender_of x c e) (get_or_default xs i d₀ d low))
    sender_there a c d e off (inr h) = ap (λ x. sender_of x c e) (one_other a d h)

    receiver_there : (a c : ℕ) (d : ServerNode V D) (f : Receiver) → ((a ≡ i) × (c ≡ j) → ⊥) → (c ≡ j) ⊎ (c ≢ j) → receiver_of (slice_index_or ys c d) a f ≡ receiver_of (slice_index_or xs c d) a f
    receiver_there a c d f off (inl h) =
        let other : a ≢ i = λ g. off (g, h) in
        subst (λ n. receiver_of (slice_index_or ys n d) a f ≡ receiver_of (slice_index_or xs n d) a f) (sym h)
        (
        ap (λ x. receiver_of x a f) (two_at d) ∙ index_other (slice_index_or one j d₀).inputs.items i a q f other ∙ ap (λ ins. slice_index_or ins.items a f) (inputs_one j d₀)
        ∙ ap (λ x. receiver_of x a f) (get_or_default xs j d₀ d high)
        )
    receiver_there a c d f off (inr h) = ap (λ x. receiver_of x a f) (two_other c d h) ∙ ap (λ ins. slice_index_or ins.items a f) (inputs_one c d)

    -- some ends, to name those of the link
    abbrev e₀ : Sender
    e₀ = sender_of (slice_index_or xs i d₀) j t

    abbrev f₀ : Receiver
    f₀ = receiver_of (slice_index_or one j d₀) i q

    ends₀ : EndsSettled e₀ f₀ b t q
    ends₀ = subst (λ g. EndsSettled e₀ g b t q) (ap (λ ins. slice_index_or ins.items i q) (sym (inputs_one j d₀))) (p.ends d₀ t q)

    kept_one : (k : ℕ) (d : ServerNode V D) → Fetched (slice_index_or xs k d) [] (slice_index_or one k d)
    kept_one k d = elim (same_or_not k i) [
      | inl h ↦
          subst (λ n. Fetched (slice_index_or xs n d) [] (slice_index_or one n d)) (sym h)
          (subst (λ x. Fetched x [] (slice_index_or one i d)) (get_or_default xs i d₀ d low)
          (subst (λ y. Fetched (slice_index_or xs i d₀) [] y) (sym (one_at d))
          (fetched_sender (slice_index_or xs i d₀) j e₀ t to (get_or_default (slice_index_or xs i d₀).outs.items j e₀ t to) ends₀.sender ends₀.sent)))
      | inr off ↦ subst (λ y. Fetched (slice_index_or xs k d) [] y) (sym (one_other k d off)) (fetched_none (slice_index_or xs k d))
    ]

    kept_two : (k : ℕ) (d : ServerNode V D) → Fetched (slice_index_or one k d) [] (slice_index_or ys k d)
    kept_two k d = elim (same_or_not k j) [
      | inl h ↦
          subst (λ n. Fetched (slice_index_or one n d) [] (slice_index_or ys n d)) (sym h)
          (subst (λ x. Fetched x [] (slice_index_or ys j d)) (get_or_default one j d₀ d high_one)
          (subst (λ y. Fetched (slice_index_or one j d₀) [] y) (sym (two_at d))
          (fetched_at (slice_index_or one j d₀) i f₀ q from (get_or_default (slice_index_or one j d₀).inputs.items i q f₀ from) ends₀.receiver [] (ends₀.given ∙ sym (append-nil (given f₀))) (λ k off. refl))))
      | inr off ↦ subst (λ y. Fetched (slice_index_or one k d) [] y) (sym (two_other k d off)) (fetched_none (slice_index_or one k d))
    ]

    count_here : (d : ServerNode V D) (e : Sender) (f : Receiver) → on_link ys i j d e f ≡ length (left t q)
    count_here d e f = ap₂ (λ s r. length (left s r)) (sender_here d e) (receiver_here d f)

    pub pair_settled : SettledSo (λ a c. (a ≡ i) × (c ≡ j)) xs b ys
    pair_settled = record {
      long = long_two;
      kept = λ k d below. fetched_more (slice_index_or xs k d) (slice_index_or one k d) (slice_index_or ys k d) [] [] (kept_one k d) (kept_two k d);
      senders = λ a c d e la lc off. ap (λ o. slice_index_or o.items c e) (outs_two a d) ∙ sender_there a c d e off (same_or_not a i);
      receivers = λ a c d f la lc off. receiver_there a c d f off (same_or_not c j);
      settled = λ a c d e f la lc h.
          subst (λ n. IsSettled (sender_of (slice_index_or ys n d) c e) (receiver_of (slice_index_or ys c d) n f)) (sym h.0)
          (subst (λ n. IsSettled (sender_of (slice_index_or ys i d) n e) (receiver_of (slice_index_or ys n d) i f)) (sym h.1)
          (subst (λ s. IsSettled s (receiver_of (slice_index_or ys j d) i f)) (sym (sender_here d e)) (subst (λ r. IsSettled t r) (sym (receiver_here d f)) ends₀.settled)));
      some = λ h. (i, j, omega (arith, low, long_two), omega (arith, high, long_two), λ d e f. subst (λ n. 0 < n) (sym (count_here d e f)) (ends₀.value.0 h));
      none = λ o a c d e f la lc h.
          subst (λ n. on_link ys n c d e f ≡ 0) (sym h.0) (subst (λ n. on_link ys i n d e f ≡ 0) (sym h.1) (count_here d e f ∙ none_left (length (left t q)) b ends₀.value o));
    }

  -- one link more of those from one member
  pub one_more : (xs ys zs : List (ServerNode V D)) (from to : ℕ) (b r : Bool) → WholeNodes xs → from < length xs → to < length xs → SettledSo (λ i j. (i ≡ from) × (j < to)) xs b ys → PairSettled from to ys r zs → SettledSo (λ i j. (i ≡ from) × (j < to + 1)) xs (b || r) zs
  one_more xs ys zs from to b r w low high s p =
      let mid : WholeNodes ys = whole_settled (λ i j. (i ≡ from) × (j < to)) xs b ys w s in
      let l : length ys ≡ length xs = s.long in
      let pair : SettledSo (λ i j. (i ≡ from) × (j ≡ to)) ys r zs = pair_settled ys zs from to r mid (omega (arith, low, l)) (omega (arith, high, l)) p in
      settled_more (λ i j. (i ≡ from) × (j < to)) (λ i j. (i ≡ from) × (j ≡ to)) (λ i j. (i ≡ from) × (j < to + 1)) xs ys zs b r w s pair
      (λ i j h. go i j h (same_or_not j to))
      (λ i j h. let g = h.1 in (h.0, omega (arith, g)))
      (λ i j h. let g = h.1 in (h.0, omega (arith, g)))
    where
      go : (i j : ℕ) → (i ≡ from) × (j < to + 1) → (j ≡ to) ⊎ (j ≢ to) → ((i ≡ from) × (j ≡ to)) ⊎ (((i ≡ from) × (j ≡ to) → ⊥) × ((i ≡ from) × (j < to)))
      go i j h (inl e) = inl (h.0, e)
      go i j h (inr off) = inr ((λ p. off p.1), (h.0, (let g = h.1 in omega (arith, g, off))))

  pub all_from : (xs ys : List (ServerNode V D)) (from to : ℕ) (b : Bool) → length xs ≤ to → SettledSo (λ i j. (i ≡ from) × (j < to)) xs b ys → SettledSo (λ i j. i ≡ from) xs b ys
  all_from xs ys from to b past s = settled_same (λ i j. (i ≡ from) × (j < to)) (λ i j. i ≡ from) xs b ys (λ i j h. h.0) (λ i j low high h. (h, omega (arith, high, past))) s

  -- the links from one member more
  pub row_more : (xs ys zs : List (ServerNode V D)) (from : ℕ) (b r : Bool) → WholeNodes xs → SettledSo (λ i j. i < from) xs b ys → SettledSo (λ i j. i ≡ from) ys r zs → SettledSo (λ i j. i < from + 1) xs (b || r) zs
  row_more xs ys zs from b r w s p =
      settled_more (λ i j. i < from) (λ i j. i ≡ from) (λ i j. i < from + 1) xs ys zs b r w s p
      (λ i j h. go i h (same_or_not i from))
      (λ i j h. omega (arith, h))
      (λ i j h. omega (arith, h))
    where
      go : (i : ℕ) → i < from + 1 → (i ≡ from) ⊎ (i ≢ from) → (i ≡ from) ⊎ ((i ≡ from → ⊥) × (i < from))
      go i h (inl e) = inl e
      go i h (inr off) = inr (off, omega (arith, h, off))

  pub all_rows : (xs ys : List (ServerNode V D)) (from : ℕ) (b : Bool) → length xs ≤ from → SettledSo (λ i j. i < from) xs b ys → Settled xs b ys
  all_rows xs ys from b past s =
      record {
        long = s.long;
        kept = s.kept;
        senders = λ i j d e low high off. absurd (off low);
        receivers = λ i j d f low high off. absurd (off low);
        settled = λ i j d e f low high h. s.settled i j d e f low high (omega (arith, low, past));
        some = s.some;
        none = λ o i j d e f low high h. s.none o i j d e f low high (omega (arith, low, past));
      }

  -- a node's link to itself
  pub pair_own : (xs : List (ServerNode V D)) (i j : ℕ) (x y : ServerNode V D) (b : Bool) (t : Sender) (q : Receiver) → i ≡ j → i < length xs → x ≡ slice_index_or xs i x → y ≡ with_receiver (with_sender x i t) i q →
      ((e : Sender) (f : Receiver) → EndsSettled (sender_of x i e) (receiver_of x i f) b t q) → PairSettled i j xs b (slice_set xs i y)
  pair_own xs i j x y b t q same low at is ends =
      subst (λ k. PairSettled i k xs b (slice_set xs i y)) same
      (record {
        sender = t;
        receiver = q;
        are = λ d.
            let z : ServerNode V D = slice_index_or xs i d in
            let here : x ≡ z = at ∙ get_or_default xs i x d low in
            ap (slice_set xs i) (is ∙ ap (λ n. with_receiver (with_sender n i t) i q) here)
            ∙ sym (set_twice xs i (with_sender z i t) (with_receiver (with_sender z i t) i q))
            ∙ ap (λ n. slice_set (slice_set xs i (with_sender z i t)) i (with_receiver n i q)) (sym (set_at xs i (with_sender z i t) d low));
        ends = λ d e f. subst (λ n. EndsSettled (sender_of n i e) (receiver_of n i f) b t q) (at ∙ get_or_default xs i x d low) (ends e f);
      })

  -- the link from one node to another
  pub pair_two : (xs ys : List (ServerNode V D)) (i j : ℕ) (x z y u : ServerNode V D) (b : Bool) (t : Sender) (q : Receiver) → i ≢ j → i < length xs → j < length xs → ((d : ServerNode V D) → slice_index_or xs i d ≡ x) →
      ((d : ServerNode V D) → slice_index_or xs j d ≡ z) → y ≡ with_sender x j t → u ≡ with_receiver z i q → ys ≡ slice_set (slice_set xs i y) j u →
      ((e : Sender) (f : Receiver) → EndsSettled (sender_of x j e) (receiver_of z i f) b t q) → PairSettled i j xs b ys
  pair_two xs ys i j x z y u b t q apart low high at there is was all ends = record {
    sender = t;
    receiver = q;
    are = λ d.
        let one : List (ServerNode V D) = slice_set xs i (with_sender (slice_index_or xs i d) j t) in
        let first : y ≡ with_sender (slice_index_or xs i d) j t = is ∙ ap (λ n. with_sender n j t) (sym (at d)) in
        let second : u ≡ with_receiver (slice_index_or one j d) i q = was ∙ ap (λ n. with_receiver n i q) (sym (index_other xs i j (with_sender (slice_index_or xs i d) j t) d (λ e. apart (sym e)) ∙ there d)) in
        all ∙ ap₂ (λ a c. slice_set (slice_set xs i a) j c) first second;
    ends = λ d e f. subst (λ n. EndsSettled (sender_of n j e) (receiver_of (slice_index_or xs j d) i f) b t q) (sym (at d)) (subst (λ n. EndsSettled (sender_of x j e) (receiver_of n i f) b t q) (sym (there d)) (ends e f));
  }
