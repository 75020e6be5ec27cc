-- What stands on a link after letters were taken and sent.
use Rattle.std.proofs.Common.{◌≡◌, ◌≢◌, ◌⊎◌, inl, inr, ℕ, zero, suc, ◌<◌, ◌==◌, cond, Bool, true, false, List, [], ◌∷◌, ◌++◌, length, map, fold, arith, sym, ap, subst, ◌∙◌, refl, append-nil, append_assoc}
use Rattle.std.specs.Prelude.{slice_set, slice_index_or}
use Rattle.raid_message.specs.declared.letter.Letter.{Letter}
use Rattle.raid_merge.specs.Merged.{of}
use Rattle.raid_merge.proofs.Flat.{choose_same, choose_other}
use Rattle.raid_steps.specs.State.{Out}
use Rattle.raid_steps.specs.World.{link, set_link, post}
use Rattle.raid_causes.specs.Histories.{HasLinks, letter_of}
use Rattle.raid_causes.proofs.Lists.{same_or_not, index_other, length_set, set_at}

abbrev All_links : Type 0
All_links = List (List (List Letter))

other_server : (links : All_links) (a b c d : ℕ) (queue : List Letter) → c ≢ a → link (set_link links a b queue) c d ≡ link links c d
other_server links a b c d queue differ = ap (λ row. slice_index_or row d []) (index_other links a c (slice_set (slice_index_or links a []) b queue) [] differ)

module _ (n : ℕ) where
  pub set_shape : (links : All_links) (a b : ℕ) (queue : List Letter) → HasLinks n links → HasLinks n (set_link links a b queue)
  set_shape links a b queue l = record {
    count = length_set links a _ ∙ l.count;
    rows = λ k below. go k below (same_or_not k a);
  } where
    row : List (List Letter)
    row = slice_set (slice_index_or links a []) b queue

    go : (k : ℕ) → k < n → (k ≡ a) ⊎ (k ≢ a) → length (slice_index_or (set_link links a b queue) k []) ≡ n
    go k below (inl q) =
        let within : a < length links = omega (arith, below, l.count, q) in
        ap (λ j. length (slice_index_or (set_link links a b queue) j [])) q ∙ ap length (set_at links a row [] within) ∙ length_set (slice_index_or links a []) b queue
        ∙ l.rows a (subst (λ j. j < n) q below)
    go k below (inr q) = ap length (index_other links a k row [] q) ∙ l.rows k below

  row_of : (links : All_links) (a b : ℕ) (queue : List Letter) → HasLinks n links → a < n → slice_index_or (set_link links a b queue) a [] ≡ slice_set (slice_index_or links a []) b queue
  row_of links a b queue l below = set_at links a (slice_set (slice_index_or links a []) b queue) [] (let c = l.count in omega (arith, below, c))

  -- the link that is set
  pub set_here : (links : All_links) (a b : ℕ) (queue : List Letter) → HasLinks n links → a < n → b < n → link (set_link links a b queue) a b ≡ queue
  set_here links a b queue l below within =
      ap (λ row. slice_index_or row b []) (row_of links a b queue l below) ∙ set_at (slice_index_or links a []) b queue [] (let c = l.rows a below in omega (arith, within, c))

  -- and any other
  pub set_elsewhere : (links : All_links) (a b c d : ℕ) (queue : List Letter) → HasLinks n links → a < n → (c ≢ a) ⊎ (d ≢ b) → link (set_link links a b queue) c d ≡ link links c d
  set_elsewhere links a b c d queue l below (inl differ) = other_server links a b c d queue differ
  set_elsewhere links a b c d queue l below (inr differ) = go (same_or_not c a) where
    go : (c ≡ a) ⊎ (c ≢ a) → link (set_link links a b queue) c d ≡ link links c d
    go (inl q) = subst (λ e. link (set_link links a b queue) e d ≡ link links e d) (sym q)
        (ap (λ row. slice_index_or row d []) (row_of links a b queue l below) ∙ index_other (slice_index_or links a []) b d queue [] differ)
    go (inr q) = other_server links a b c d queue q

  module _ (server session clock : ℕ) where
    pub posts_shape : (outs : List Out) (links : All_links) → HasLinks n links → HasLinks n (fold (post server session clock) links outs)
    posts_shape [] links l = l
    posts_shape (out ∷ outs) links l = posts_shape outs (post server session clock links out) (set_shape links out.0 server _ l)

    set_other : (links : All_links) (a c d : ℕ) (queue : List Letter) → d ≢ server → link (set_link links a server queue) c d ≡ link links c d
    set_other links a c d queue differ = go (same_or_not c a) where
      go : (c ≡ a) ⊎ (c ≢ a) → link (set_link links a server queue) c d ≡ link links c d
      go (inl q) = subst (λ e. link (set_link links a server queue) e d ≡ link links e d) (sym q) (here links a d queue differ) where
        here : (links : All_links) (a d : ℕ) (queue : List Letter) → d ≢ server → link (set_link links a server queue) a d ≡ link links a d
        here [] a d queue differ = refl
        here (row ∷ links) zero d queue differ = index_other row server d queue [] differ
        here (row ∷ links) (suc a) d queue differ = here links a d queue differ
      go (inr q) = other_server links a server c d queue q

    -- the links of other senders after sending
    pub posts_other : (outs : List Out) (links : All_links) (c d : ℕ) → d ≢ server → link (fold (post server session clock) links outs) c d ≡ link links c d
    posts_other [] links c d differ = refl
    posts_other (out ∷ outs) links c d differ = posts_other outs (post server session clock links out) c d differ ∙ set_other links out.0 c d _ differ

    -- the sender's own
    post_own : (out : Out) (links : All_links) (c : ℕ) → HasLinks n links → server < n → c < n →
        link (post server session clock links out) c server ≡ link links c server ++ of c (letter_of session clock out ∷ [])
    post_own out links c l below within = go (same_or_not out.0 c) where
      sent : Letter
      sent = record { clock = clock; from = session; to = out.1; message = out.2 }

      go : (out.0 ≡ c) ⊎ (out.0 ≢ c) → link (post server session clock links out) c server ≡ link links c server ++ of c (letter_of session clock out ∷ [])
      go (inl q) =
          subst (λ e. link (post server session clock links out) e server ≡ link links e server ++ of e (letter_of session clock out ∷ [])) q
          (set_here links out.0 server (link links out.0 server ++ sent ∷ []) l (subst (λ e. e < n) (sym q) within) below
          ∙ ap (λ ls. link links out.0 server ++ ls) (sym (choose_same out.0 (sent ∷ []) [])))
      go (inr q) =
          other_server links out.0 server c server (link links out.0 server ++ sent ∷ []) (λ e. q (sym e))
          ∙ sym (append-nil (link links c server)) ∙ ap (λ ls. link links c server ++ ls) (sym (choose_other out.0 c (sent ∷ []) [] q))

    of-cons : {X : Type 0} (c : ℕ) (x : ℕ × X) (xs : List (ℕ × X)) → of c (x ∷ []) ++ of c xs ≡ of c (x ∷ xs)
    of-cons c x xs = go (x.0 == c) where
      go : (b : Bool) → cond b (x.1 ∷ []) [] ++ of c xs ≡ cond b (x.1 ∷ of c xs) (of c xs)
      go true = refl
      go false = refl

    pub posts_own : (outs : List Out) (links : All_links) (c : ℕ) → HasLinks n links → server < n → c < n →
        link (fold (post server session clock) links outs) c server ≡ link links c server ++ of c (map (letter_of session clock) outs)
    posts_own [] links c l below within = sym (append-nil (link links c server))
    posts_own (out ∷ outs) links c l below within =
        let one : ℕ × Letter = letter_of session clock out in
        let more : List (ℕ × Letter) = map (letter_of session clock) outs in
        posts_own outs (post server session clock links out) c (set_shape links out.0 server _ l) below within
        ∙ ap (λ ls. ls ++ of c more) (post_own out links c l below within)
        ∙ append_assoc (link links c server) (of c (one ∷ [])) (of c more)
        ∙ ap (λ ls. link links c server ++ ls) (of-cons c one more)
