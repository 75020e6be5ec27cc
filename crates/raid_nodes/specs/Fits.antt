-- The laws of a node.
use Rattle.std.proofs.Common.{◌≡◌, ◌≢◌, ◌⊎◌, inl, inr, ℕ, zero, suc, ◌+◌, ◌<◌, ◌≤◌, List, [], ◌∷◌, ◌++◌, Bool, true, false, length, take, map, All, refl, ap, ap₂, sym, subst, ◌∙◌, arith, length-append, length-take}
use Rattle.std.specs.Prelude.{slice_set, slice_index_or}
use Rattle.std.proofs.lemmas.Bool.{cases_eq}
use Rattle.std.proofs.lemmas.List.{get_or-set_other}
use Rattle.std.proofs.Math.Seq.{set-append_seam, get_or-append_seam}
use Rattle.raid_workload.specs.declared.workload.Workload.{Workload}
use Rattle.raid_boxed.specs.Boxed.{Says}
use Rattle.raid_link.specs.Laws.{SomeOf, NodeLaws}
use Rattle.raid_link.specs.Link.{known, left, places_of, IsLink, SameSender, SameReceiver}
use Rattle.raid_link.specs.declared.ends.Sender.{Sender}
use Rattle.raid_link.specs.declared.ends.Receiver.{Receiver}
use Rattle.raid_link.proofs.Same.{SameSender-same, SameReceiver-same, IsLink-same}
use Rattle.raid_nodes.specs.Nodes.{IsServer, GoesOn, heard, Goes}
use Rattle.raid_nodes.specs.Turns.{Fetched, Took, TurnMade, SomeKnown}
use Rattle.raid_nodes.specs.Settled.{sender_of, receiver_of, on_link, WholeNodes, SomeLeft, Settled}
use Rattle.raid_nodes.specs.declared.node.ServerNode.{ServerNode}

module _ {S : Type 0} where
  -- a list that has a place has an element
  pub element_of : (xs : List S) (k : ℕ) → k < length xs → S
  element_of [] k low = absurd (omega (arith, low))
  element_of (x ∷ xs) k low = x

  SomeOf-at : (K : S → Type 0) (xs : List S) (k : ℕ) → k < length xs → ((d : S) → K (slice_index_or xs k d)) → SomeOf K xs
  SomeOf-at K [] k h f = absurd (omega arith)
  SomeOf-at K (x ∷ xs) zero h f = inl (f x)
  SomeOf-at K (x ∷ xs) (suc k) h f = inr (SomeOf-at K xs k (omega arith) f)

  same_map : (f : S → ℕ) (xs ys : List S) → length ys ≡ length xs → ((k : ℕ) (d : S) → k < length xs → f (slice_index_or ys k d) ≡ f (slice_index_or xs k d)) → map f ys ≡ map f xs
  same_map f [] [] l h = refl
  same_map f [] (y ∷ ys) l h = absurd (omega arith)
  same_map f (x ∷ xs) [] l h = absurd (omega arith)
  same_map f (x ∷ xs) (y ∷ ys) l h =
      let head : f y ≡ f x = h 0 y (omega arith) in
      let rest : map f ys ≡ map f xs = same_map f xs ys (omega arith) (λ k d g. h (suc k) d (omega arith)) in
      ap₂ ◌∷◌ head rest

known_some : {X : Type 0} (places : ℕ) (ls ks : List X) → 0 < places → 0 < length ls → ks ≡ take places ls → 0 < length ks
known_some places ls ks a b e = rw (e, length-take) (omega arith)

module _ {V : Type 0} {D : V → Type 0} where
  -- a node that goes on does so while nothing changes but its links' ends
  pub goes_fetched : (say : Says V D) (w : Workload) (x y : ServerNode V D) → Fetched x [] y → Goes say w x → Goes say w y
  goes_fetched say w x y f g = record {
    server = subst (GoesOn say w) (sym f.server) g.server;
    state = g.state;
    is = subst (λ n. IsServer n y.server g.state) (sym f.number) (subst (λ s. IsServer x.number s g.state) (sym f.server) g.is);
    heard = subst (λ s. heard s ≤ length y.journal) (sym f.server) (subst (λ j. heard x.server ≤ length j) (sym f.journal) g.heard);
    outs = f.outs ∙ g.outs;
    inputs = f.inputs ∙ g.inputs;
  }

  -- it is still that node, with the same ends of the same links
  pub record SameEnds (x y : ServerNode V D) : Type 0 where
    pub number : y.number ≡ x.number
    pub outs : length y.outs.items ≡ length x.outs.items
    pub inputs : length y.inputs.items ≡ length x.inputs.items
    pub senders : (k : ℕ) (d : Sender) → k < length x.outs.items → SameSender (sender_of x k d) (sender_of y k d)
    pub receivers : (k : ℕ) (d : Receiver) → k < length x.inputs.items → SameReceiver (receiver_of x k d) (receiver_of y k d)

  ends_same : (x : ServerNode V D) → SameEnds x x
  ends_same x = record { number = refl; outs = refl; inputs = refl; senders = λ k d low. SameSender-same (sender_of x k d); receivers = λ k d low. SameReceiver-same (receiver_of x k d) }

  pub ends_fetched : (x y : ServerNode V D) → Fetched x [] y → SameEnds x y
  ends_fetched x y f = record { number = f.number; outs = f.outs; inputs = f.inputs; senders = f.senders; receivers = f.receivers }

  pub ends_made : (w : Workload) (x : ServerNode V D) (n : ℕ) (y : ServerNode V D) → TurnMade w x n y → SameEnds x y
  ends_made w x n y t = record { number = t.took.number; outs = t.took.outs; inputs = t.took.inputs; senders = t.took.senders; receivers = t.took.receivers }

  -- nodes that stay the same nodes are those of one world later on
  pub whole_after : (xs ys : List (ServerNode V D)) → length ys ≡ length xs → ((k : ℕ) (d : ServerNode V D) → k < length xs → SameEnds (slice_index_or xs k d) (slice_index_or ys k d)) → WholeNodes xs → WholeNodes ys
  whole_after xs ys l e w = record {
    numbers = λ k d low. let b : k < length xs = omega (arith, low, l) in (e k d b).number ∙ w.numbers k d b;
    outs = λ k d low. let b : k < length xs = omega (arith, low, l) in (e k d b).outs ∙ w.outs k d b ∙ sym l;
    inputs = λ k d low. let b : k < length xs = omega (arith, low, l) in (e k d b).inputs ∙ w.inputs k d b ∙ sym l;
    links = λ i j d s r low high.
        let a : i < length xs = omega (arith, low, l) in
        let b : j < length xs = omega (arith, high, l) in
        let to : j < length (slice_index_or xs i d).outs.items = let o = w.outs i d a in omega (arith, b, o) in
        let from : i < length (slice_index_or xs j d).inputs.items = let o = w.inputs j d b in omega (arith, a, o) in
        IsLink-same (sender_of (slice_index_or xs i d) j s) (sender_of (slice_index_or ys i d) j s) (receiver_of (slice_index_or xs j d) i r) (receiver_of (slice_index_or ys j d) i r)
        ((e i d a).senders j s to) ((e j d b).receivers i r from) (w.links i j d s r a b);
  }

  -- one node is replaced
  ends_replaced : (pre : List (ServerNode V D)) (x : ServerNode V D) (post : List (ServerNode V D)) (y : ServerNode V D) → SameEnds x y → (k : ℕ) (d : ServerNode V D) →
      SameEnds (slice_index_or (pre ++ x ∷ post) k d) (slice_index_or (pre ++ y ∷ post) k d)
  ends_replaced pre x post y e k d =
      elim (cases_eq k (length pre)) [
        | inl q ↦ rw (q, get_or-append_seam pre x post d, get_or-append_seam pre y post d) e
        | inr a ↦
            let same : slice_index_or (pre ++ y ∷ post) k d ≡ slice_index_or (pre ++ x ∷ post) k d = rw (← set-append_seam pre x post y) (get_or-set_other (pre ++ x ∷ post) (length pre) k y d a) in
            rw same (ends_same (slice_index_or (pre ++ x ∷ post) k d))
      ]

  left_known : (xs : List (ServerNode V D)) (b : Bool) (ys : List (ServerNode V D)) → Settled xs b ys → WholeNodes ys → SomeLeft ys → SomeOf SomeKnown ys
  left_known xs b ys s w (i, j, low, high, some) =
      let a : i < length xs = omega (arith, low, s.long) in
      let c : j < length xs = omega (arith, high, s.long) in
      let there : (d : ServerNode V D) → SomeKnown (slice_index_or ys j d) =
      λ d.
      let one : ServerNode V D = slice_index_or ys i d in
      let long : length one.outs.items ≡ length ys = w.outs i d low in
      let e : Sender = element_of one.outs.items j (omega (arith, long, high)) in
      let wide : length (slice_index_or ys j d).inputs.items ≡ length ys = w.inputs j d high in (
        i,
        omega (arith, wide, low),
        λ f.
            let r : Receiver = receiver_of (slice_index_or ys j d) i f in
            known_some (places_of r) (left (sender_of one j e) r) (known r) ((w.links i j d e f low high).some) (some d e f) ((s.settled i j d e f a c a).first),
      ) in
      SomeOf-at SomeKnown ys j high there

  pub nodes_fit : (w : Workload) (Own : ServerNode V D → Type 0) → ((x y : ServerNode V D) → Fetched x [] y → Own x → Own y) →
      NodeLaws (λ (x : ServerNode V D) n y. TurnMade w x n y × (Own x → Own y)) Settled WholeNodes Own SomeLeft SomeKnown (λ x. length x.journal)
  nodes_fit w Own keeps = record {
    turn_counts = λ x n y t. let s = t.0.took.steps in let c = t.0.count in omega (arith, s, c);
    turn_takes = λ x n y t h. t.0.some h;
    turn_own = λ x n y t h. t.1 h;
    turn_whole = λ xs x zs n y t whole. whole_after (xs ++ x ∷ zs) (xs ++ y ∷ zs) (simp length-append) (λ j d h. ends_replaced xs x zs y (ends_made w x n y t.0) j d) whole;
    settle_taken = λ xs b ys s. same_map (λ x. length x.journal) xs ys s.long (λ k d h. ap length ((s.kept k d h).journal));
    settle_own = λ xs b ys s o k d h. let below : k < length xs = omega (arith, h, s.long) in keeps (slice_index_or xs k d) (slice_index_or ys k d) (s.kept k d below) (o k d below);
    settle_whole = λ xs b ys s whole. whole_after xs ys s.long (λ k d h. ends_fetched (slice_index_or xs k d) (slice_index_or ys k d) (s.kept k d h)) whole;
    settle_some = λ xs ys s whole.
        let after = whole_after xs ys s.long (λ k d h. ends_fetched (slice_index_or xs k d) (slice_index_or ys k d) (s.kept k d h)) whole in
        (s.some refl, left_known xs true ys s after (s.some refl));
    settle_none = λ xs ys s whole t.
        let i = t.0 in let j = t.1 in
        let low : i < length xs = omega (arith, t.2, s.long) in
        let high : j < length xs = omega (arith, t.3, s.long) in
        let d : ServerNode V D = element_of ys i t.2 in
        let after = whole_after xs ys s.long (λ k d h. ends_fetched (slice_index_or xs k d) (slice_index_or ys k d) (s.kept k d h)) whole in
        let long : length (slice_index_or ys i d).outs.items ≡ length ys = after.outs i d t.2 in
        let e : Sender = element_of (slice_index_or ys i d).outs.items j (omega (arith, long, t.3)) in
        let wide : length (slice_index_or ys j d).inputs.items ≡ length ys = after.inputs j d t.3 in
        let f : Receiver = element_of (slice_index_or ys j d).inputs.items i (omega (arith, wide, t.2)) in
        let none : on_link ys i j d e f ≡ 0 = s.none refl i j d e f low high low in
        let some : 0 < on_link ys i j d e f = t.4 d e f in
        omega (arith, none, some);
  }
