-- What is sent, one letter after another.
use Rattle.std.proofs.Common.{◌≡◌, ◌≢◌, ◌⊎◌, inl, inr, ℕ, zero, suc, ◌+◌, ◌<◌, List, [], ◌∷◌, ◌++◌, length, map, take, arith, sym, ap, subst, ◌∙◌, refl, append_assoc}
use Rattle.std.specs.Prelude.{slice_set, slice_index_or, slice_get, Some}
use Rattle.std.specs.List.{All}
use Rattle.std.proofs.lemmas.List.{append-nil, map-append, get_or_default}
use Rattle.raid_message.specs.declared.letter.Letter.{Letter}
use Rattle.raid_message.specs.declared.letter.Message.{Message}
use Rattle.raid_steps.specs.State.{Out}
use Rattle.raid_merge.specs.Merged.{of}
use Rattle.raid_merge.proofs.Flat.{choose_same, choose_other, of-append}
use Rattle.raid_causes.specs.Histories.{letter_of}
use Rattle.raid_causes.proofs.Lists.{same_or_not, index_other, length_set, set_at}
use Rattle.raid_link.specs.Link.{all_sent, SameSender}
use Rattle.raid_link.specs.declared.ends.Sender.{Sender}
use Rattle.raid_link.proofs.Same.{SameSender-same, SameSender-trans}
use Rattle.raid_nodes.specs.Nodes.{AreSent}

pub none_sent : (senders : List Sender) → AreSent [] senders senders
none_sent senders = record {
  count = refl;
  sent = λ k d below. sym (append-nil (all_sent (slice_index_or senders k d)));
  same = λ k d below. SameSender-same (slice_index_or senders k d);
}

pub of_one : (k : ℕ) (l : ℕ × Letter) → l.0 ≡ k → of k (l ∷ []) ≡ l.1 ∷ []
of_one k l q = subst (λ n. of n (l ∷ []) ≡ l.1 ∷ []) q (choose_same l.0 (l.1 ∷ []) [])

pub of_none : (k : ℕ) (l : ℕ × Letter) → (l.0 ≡ k → ⊥) → of k (l ∷ []) ≡ []
of_none k l q = choose_other l.0 k (l.1 ∷ []) [] q

-- one letter more was sent, by the sender at its addressee's number
pub sent_more : (letters : List (ℕ × Letter)) (before mid after : List Sender) (to : ℕ) (letter : Letter) (here new : Sender) → AreSent letters before mid → to < length before →
    here ≡ slice_index_or mid to here → all_sent new ≡ all_sent here ++ letter ∷ [] → SameSender here new → after ≡ slice_set mid to new → AreSent (letters ++ (to, letter) ∷ []) before after
sent_more letters before mid after to letter here new s below at sent same is = record {
  count = ap length is ∙ length_set mid to new ∙ s.count;
  sent = λ k d low. go k d low (same_or_not k to);
  same = λ k d low. keep k d low (same_or_not k to);
}
  where
    there : (d : Sender) → slice_index_or mid to d ≡ here
    there d = get_or_default mid to d here (omega (arith, s.count, below)) ∙ sym at

    after_at : (d : Sender) → slice_index_or after to d ≡ new
    after_at d = ap (λ ss. slice_index_or ss to d) is ∙ set_at mid to new d (omega (arith, s.count, below))

    after_other : (k : ℕ) (d : Sender) → k ≢ to → slice_index_or after k d ≡ slice_index_or mid k d
    after_other k d differ = ap (λ ss. slice_index_or ss k d) is ∙ index_other mid to k new d differ

    go : (k : ℕ) (d : Sender) → k < length before → (k ≡ to) ⊎ (k ≢ to) → all_sent (slice_index_or after k d) ≡ all_sent (slice_index_or before k d) ++ of k (letters ++ (to, letter) ∷ [])
    go k d low (inl q) =
        let one : all_sent here ≡ all_sent (slice_index_or before to d) ++ of to letters = sym (ap all_sent (there d)) ∙ s.sent to d below in
        let last : of to (letters ++ (to, letter) ∷ []) ≡ of to letters ++ letter ∷ [] = of-append to letters ((to, letter) ∷ []) ∙ ap (λ ls. of to letters ++ ls) (of_one to (to, letter) refl) in
        subst (λ n. all_sent (slice_index_or after n d) ≡ all_sent (slice_index_or before n d) ++ of n (letters ++ (to, letter) ∷ [])) (sym q)
        (ap all_sent (after_at d) ∙ sent ∙ ap (λ ls. ls ++ letter ∷ []) one ∙ append_assoc (all_sent (slice_index_or before to d)) (of to letters) (letter ∷ [])
        ∙ ap (λ ls. all_sent (slice_index_or before to d) ++ ls) (sym last))
    go k d low (inr differ) =
        ap all_sent (after_other k d differ) ∙ s.sent k d low
        ∙ ap (λ ls. all_sent (slice_index_or before k d) ++ ls) (sym (of-append k letters ((to, letter) ∷ []) ∙ ap (λ ls. of k letters ++ ls) (of_none k (to, letter) (λ e. differ (sym e))) ∙ append-nil (of k letters)))

    keep : (k : ℕ) (d : Sender) → k < length before → (k ≡ to) ⊎ (k ≢ to) → SameSender (slice_index_or before k d) (slice_index_or after k d)
    keep k d low (inl q) =
        let first : SameSender (slice_index_or before to d) here = subst (SameSender (slice_index_or before to d)) (there d) (s.same to d below) in
        subst (λ n. SameSender (slice_index_or before n d) (slice_index_or after n d)) (sym q)
        (subst (SameSender (slice_index_or before to d)) (sym (after_at d)) (SameSender-trans (slice_index_or before to d) here new first same))
    keep k d low (inr differ) = subst (SameSender (slice_index_or before k d)) (sym (after_other k d differ)) (s.same k d low)

-- the letters of one message more
taken_next : {X : Type 0} (xs : List X) (k : ℕ) (x : X) → slice_get xs k ≡ Some x → take (suc k) xs ≡ take k xs ++ x ∷ []
taken_next [] k x q = absurd (cc q)
taken_next (y ∷ ys) zero x q = let h : y ≡ x = cc q in ap (λ z. z ∷ []) h
taken_next (y ∷ ys) (suc k) x q = ap (λ zs. y ∷ zs) (taken_next ys k x q)

-- an element of a loop
element : {X : Type 0} (xs : List X) (k : ℕ) (x : X) → k < length xs → x ≡ slice_index_or xs k x → slice_get xs k ≡ Some x
element [] k x below q = absurd (omega (arith, below))
element (y ∷ ys) zero x below q = ap Some (sym q)
element (y ∷ ys) (suc k) x below q = element ys k x (omega (arith, below)) q

letters_more : (session clock : ℕ) (outs : List Out) (k : ℕ) (out : Out) → k < length outs → out ≡ slice_index_or outs k out →
    map (letter_of session clock) (take (k + 1) outs) ≡ map (letter_of session clock) (take k outs) ++ letter_of session clock out ∷ []
letters_more session clock outs k out below q =
    (let e : k + 1 ≡ suc k = omega arith in ap (λ n. map (letter_of session clock) (take n outs)) e)
    ∙ ap (map (letter_of session clock)) (taken_next outs k out (element outs k out below q)) ∙ map-append (letter_of session clock) (take k outs) (out ∷ [])

-- one message more was sent
pub message_sent : (session clock : ℕ) (outs items : List Out) (k : ℕ) (out : Out) (message : Message) (before mid after : List Sender) (d new : Sender) → items ≡ outs →
    All (λ (o : Out). o.0 < length before) outs → AreSent (map (letter_of session clock) (take k items)) before mid → k < length items → out ≡ slice_index_or items k out → message ≡ out.2 →
    all_sent new ≡ all_sent (slice_index_or mid out.0 d) ++ record { clock = clock; from = session; to = out.1; message = message } ∷ [] → SameSender (slice_index_or mid out.0 d) new →
    after ≡ slice_set mid out.0 new → AreSent (map (letter_of session clock) (take (k + 1) items)) before after
message_sent session clock outs items k out message before mid after d new same to s below item copy sent still is =
    let here : Sender = slice_index_or mid out.0 d in
    let letter : Letter = record { clock = clock; from = session; to = out.1; message = out.2 } in
    let all : All (λ (o : Out). o.0 < length before) items = subst (All (λ (o : Out). o.0 < length before)) (sym same) to in
    let number : out.0 < length before = subst (λ (o : Out). o.0 < length before) (sym item) (all k out below) in
    let at : here ≡ slice_index_or mid out.0 here = get_or_default mid out.0 d here (omega (arith, s.count, number)) in
    let went : all_sent new ≡ all_sent here ++ letter ∷ [] = sent ∙ ap (λ (m : Message). all_sent here ++ record { clock = clock; from = session; to = out.1; message = m } ∷ []) copy in
    subst (λ ls. AreSent ls before after) (sym (letters_more session clock items k out below item))
    (sent_more (map (letter_of session clock) (take k items)) before mid after out.0 letter here new s number at went still is)
