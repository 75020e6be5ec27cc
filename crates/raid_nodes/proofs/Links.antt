-- The links between all servers, as they are made.
use Rattle.std.proofs.Common.{◌≡◌, ◌≢◌, ◌⊎◌, inl, inr, ℕ, zero, suc, ◌+◌, ◌<◌, ◌≤◌, List, [], ◌∷◌, ◌++◌, length, map, replicate, arith, sym, ap, subst, ◌∙◌, refl, length-append}
use Rattle.std.specs.Prelude.{slice_set, slice_index_or}
use Rattle.std.proofs.lemmas.List.{append-nil, get_or_default, get_or_append_left}
use Rattle.std.proofs.Math.Seq.{get_or-append_seam}
use Rattle.raid_base.specs.declared.names.Site.{Site}
use Rattle.raid_base.specs.Sites.{site}
use Rattle.raid_workload.specs.declared.workload.Workload.{Workload}
use Rattle.raid_workload.specs.Parts.{count_from, sites}
use Rattle.raid_message.specs.declared.letter.Letter.{Letter}
use Rattle.raid_steps.specs.World.{link, open_world, first_links, first_letter}
use Rattle.raid_causes.proofs.Lists.{same_or_not, index_other, length_set, set_at, past, alike_long, alike_at}
use Rattle.raid_link.specs.Link.{all_sent, given, IsLink, SameSender}
use Rattle.raid_link.specs.declared.ends.Sender.{Sender}
use Rattle.raid_link.specs.declared.ends.Receiver.{Receiver}
use Rattle.raid_link.proofs.Same.{SameSender-same, SameReceiver-same, SameSender-trans, IsLink-same}
use Rattle.raid_nodes.specs.Fits.{element_of}
use Rattle.raid_nodes.specs.Opening.{IsNew, out, input, AddedUpTo, AllLinks, Welcomed, AreOpened}

-- the last of a list
last_at : {X : Type 0} (xs : List X) (k : ℕ) (y d : X) → length xs ≡ k → slice_index_or (xs ++ y ∷ []) k d ≡ y
last_at xs k y d q = subst (λ n. slice_index_or (xs ++ y ∷ []) n d ≡ y) q (get_or-append_seam xs y [] d)

before_last : {X : Type 0} (xs : List X) (k : ℕ) (y d : X) → k < length xs → slice_index_or (xs ++ y ∷ []) k d ≡ slice_index_or xs k d
before_last xs k y d low = get_or_append_left xs (y ∷ []) d k low

longer : {X : Type 0} (xs : List X) (y : X) → length (xs ++ y ∷ []) ≡ length xs + 1
longer xs y = length-append xs (y ∷ [])

pub one_alike : {X : Type 0} (n : ℕ) (x : X) → replicate n x ++ x ∷ [] ≡ replicate (n + 1) x
one_alike zero x = refl
one_alike (suc n) x = let e : suc n + 1 ≡ suc (n + 1) = omega arith in ap (λ xs. x ∷ xs) (one_alike n x) ∙ ap (λ m. replicate m x) (sym e)

pub added_none : (before : List (List Receiver)) → AddedUpTo 0 before [] before
added_none before = record { long = refl; many = refl; added = λ j a low. absurd (omega (arith, a)); rest = λ j h. refl }

-- a link more
pub added_more : (k : ℕ) (before mid after : List (List Receiver)) (ss : List Sender) (s : Sender) (r : Receiver) → k < length before → AddedUpTo k before ss mid → IsLink s r → all_sent s ≡ [] → given r ≡ [] →
    after ≡ slice_set mid k (slice_index_or mid k [] ++ r ∷ []) → AddedUpTo (k + 1) before (ss ++ s ∷ []) after
added_more k before mid after ss s r low a is sent given after_is = record {
  long = ap length after_is ∙ length_set mid k (slice_index_or mid k [] ++ r ∷ []) ∙ a.long;
  many = longer ss s ∙ ap (λ n. n + 1) a.many;
  added = λ j h within. go j h within (same_or_not j k);
  rest = λ j h. ap (λ rows. slice_index_or rows j []) after_is ∙ index_other mid k j (slice_index_or mid k [] ++ r ∷ []) [] (λ q. omega (arith, q, h)) ∙ a.rest j (omega (arith, h));
}
  where
    go : (j : ℕ) → j < k + 1 → j < length before → (j ≡ k) ⊎ (j ≢ k) → (q : Receiver) × (slice_index_or after j [] ≡ slice_index_or before j [] ++ q ∷ []) × ((e : Sender) → IsNew (slice_index_or (ss ++ s ∷ []) j e) q)
    go j h within (inl q) = (
      r,
      subst (λ n. slice_index_or after n [] ≡ slice_index_or before n [] ++ r ∷ []) (sym q)
          (
          ap (λ rows. slice_index_or rows k []) after_is ∙ set_at mid k (slice_index_or mid k [] ++ r ∷ []) [] (let l = a.long in omega (arith, l, low))
          ∙ ap (λ row. row ++ r ∷ []) (a.rest k (omega arith))
          ),
      λ e. subst (λ t. IsNew t r) (sym (ap (λ n. slice_index_or (ss ++ s ∷ []) n e) q ∙ last_at ss k s e a.many)) (record { link = is; sent = sent; given = given }),
    )
    go j h within (inr off) =
        let under : j < k = omega (arith, h, off) in
        let was = a.added j under within in (
          was.0,
          ap (λ rows. slice_index_or rows j []) after_is ∙ index_other mid k j (slice_index_or mid k [] ++ r ∷ []) [] off ∙ was.1,
          λ e. subst (λ t. IsNew t was.0) (sym (before_last ss j s e (let m = a.many in omega (arith, m, under)))) (was.2 e),
        )

pub links_none : (n : ℕ) (outs : List (List Sender)) (inputs : List (List Receiver)) → outs ≡ [] → inputs ≡ replicate n [] → AllLinks 0 n outs inputs
links_none n outs inputs o is = record {
  senders = ap length o;
  receivers = ap length is ∙ alike_long n [];
  each_out = λ i low. absurd (omega (arith, low));
  each_input = λ j low. ap (λ rows. length (slice_index_or rows j [])) is ∙ ap length (alike_at n j []);
  are = λ i j e f low high. absurd (omega (arith, low));
}

-- the links from one server more
pub links_more : (k n : ℕ) (outs outs' : List (List Sender)) (inputs inputs' : List (List Receiver)) (ss : List Sender) (m : ℕ) → AllLinks k n outs inputs → m ≡ n → AddedUpTo m inputs ss inputs' → outs' ≡ outs ++ ss ∷ [] →
    AllLinks (k + 1) n outs' inputs'
links_more k n outs outs' inputs inputs' ss m a same b is = record {
  senders = ap length is ∙ longer outs ss ∙ ap (λ i. i + 1) a.senders;
  receivers = b.long ∙ a.receivers;
  each_out = λ i low. ap (λ rows. length (slice_index_or rows i [])) is ∙ out_long i low (same_or_not i k);
  each_input = λ j low.
      let new = b.added j (omega (arith, low, same)) (let r = a.receivers in omega (arith, low, r)) in
      ap length new.1 ∙ longer (slice_index_or inputs j []) new.0 ∙ ap (λ i. i + 1) (a.each_input j low);
  are = λ i j e f low high. subst (λ rows. IsNew (out rows i j e) (input inputs' j i f)) (sym is) (go i j e f low high (same_or_not i k) (b.added j (omega (arith, high, same)) (let r = a.receivers in omega (arith, high, r))));
}
  where
    out_long : (i : ℕ) → i < k + 1 → (i ≡ k) ⊎ (i ≢ k) → length (slice_index_or (outs ++ ss ∷ []) i []) ≡ n
    out_long i low (inl q) = ap length (ap (λ j. slice_index_or (outs ++ ss ∷ []) j []) q ∙ last_at outs k ss [] a.senders) ∙ b.many ∙ same
    out_long i low (inr off) = let c = a.senders in ap length (before_last outs i ss [] (omega (arith, low, off, c))) ∙ a.each_out i (omega (arith, low, off))

    go : (i j : ℕ) (e : Sender) (f : Receiver) → i < k + 1 → j < n → (i ≡ k) ⊎ (i ≢ k) → (r : Receiver) × (slice_index_or inputs' j [] ≡ slice_index_or inputs j [] ++ r ∷ []) × ((s : Sender) → IsNew (slice_index_or ss j s) r) →
        IsNew (out (outs ++ ss ∷ []) i j e) (input inputs' j i f)
    go i j e f low high (inl q) (r, row, new) =
        let sender : out (outs ++ ss ∷ []) i j e ≡ slice_index_or ss j e = ap (λ ls. slice_index_or ls j e) (ap (λ m. slice_index_or (outs ++ ss ∷ []) m []) q ∙ last_at outs k ss [] a.senders) in
        let receiver : input inputs' j i f ≡ r = ap (λ ls. slice_index_or ls i f) row ∙ last_at (slice_index_or inputs j []) i r f (a.each_input j high ∙ sym q) in
        subst (λ s. IsNew s (input inputs' j i f)) (sym sender) (subst (λ t. IsNew (slice_index_or ss j e) t) (sym receiver) (new e))
    go i j e f low high (inr off) (r, row, new) =
        let under : i < k = omega (arith, low, off) in
        let c = a.senders in
        let l = a.each_input j high in
        let sender : out (outs ++ ss ∷ []) i j e ≡ out outs i j e = ap (λ ls. slice_index_or ls j e) (before_last outs i ss [] (omega (arith, under, c))) in
        let receiver : input inputs' j i f ≡ input inputs j i f = ap (λ ls. slice_index_or ls i f) row ∙ before_last (slice_index_or inputs j []) i r f (omega (arith, under, l)) in
        subst (λ s. IsNew s (input inputs' j i f)) (sym sender) (subst (λ t. IsNew (out outs i j e) t) (sym receiver) (a.are i j e f under high))

-- the letters on the links at the start
module _ (w : Workload) where
  at_site : (f : Site → List (List Letter)) (a n k : ℕ) → k < n → slice_index_or (map f (map site (count_from a n))) k [] ≡ f (site (a + k))
  at_site f a zero k low = absurd (omega (arith, low))
  at_site f a (suc n) zero low = let e : a ≡ a + 0 = omega arith in ap (λ i. f (site i)) e
  at_site f a (suc n) (suc k) low = at_site f (a + 1) n k (omega (arith, low)) ∙ (let e : a + 1 + k ≡ a + suc k = omega arith in ap (λ i. f (site i)) e)

  row_of : (k : ℕ) → k < w.sites → slice_index_or (open_world w).links (suc (suc k)) [] ≡ first_links w (site (1 + k))
  row_of k low = at_site (first_links w) 1 w.sites k low

  -- the sequencer's
  pub welcome_at : (k : ℕ) → k < w.sites → link (open_world w).links (k + 2) 1 ≡ first_letter w (site (k + 1)) ∷ []
  welcome_at k low =
      (let e : k + 2 ≡ suc (suc k) = omega arith in ap (λ n. link (open_world w).links n 1) e)
      ∙ ap (λ row. slice_index_or row 1 []) (row_of k low) ∙ (let e : 1 + k ≡ k + 1 = omega arith in ap (λ n. first_letter w (site n) ∷ []) e)

  none_at : (j : ℕ) → j < 2 → link (open_world w).links j 1 ≡ []
  none_at zero low = alike_at (w.sites + 2) 1 []
  none_at (suc zero) low = alike_at (w.sites + 2) 1 []
  none_at (suc (suc j)) low = absurd (omega (arith, low))

  -- all others
  others_at : (i j : ℕ) → j < w.sites + 2 → i ≢ 1 → link (open_world w).links j i ≡ []
  others_at i zero low off = alike_at (w.sites + 2) i []
  others_at i (suc zero) low off = alike_at (w.sites + 2) i []
  others_at i (suc (suc k)) low off = ap (λ row. slice_index_or row i []) (row_of k (omega (arith, low))) ∙ go i off
    where
      go : (i : ℕ) → i ≢ 1 → slice_index_or (first_links w (site (1 + k))) i [] ≡ []
      go zero off = refl
      go (suc zero) off = absurd (off refl)
      go (suc (suc m)) off = alike_at w.sites m []

  pub welcomed_none : (senders : List Sender) → ((k : ℕ) (e : Sender) → k < length senders → all_sent (slice_index_or senders k e) ≡ []) → Welcomed w 2 senders senders
  welcomed_none senders none = record {
    long = refl;
    same = λ j e low. SameSender-same (slice_index_or senders j e);
    sent = λ j e low h. none j e low ∙ sym (none_at j h);
    rest = λ j e low h. none j e low;
  }

  pub welcomed_more : (k : ℕ) (before mid after : List Sender) (s t : Sender) (letter : Letter) → k < w.sites → length before ≡ w.sites + 2 → Welcomed w (k + 2) before mid → s ≡ slice_index_or mid (k + 2) s →
      letter ≡ first_letter w (site (k + 1)) → all_sent t ≡ all_sent s ++ letter ∷ [] → SameSender s t → after ≡ slice_set mid (k + 2) t → Welcomed w (k + 1 + 2) before after
  welcomed_more k before mid after s t letter low count a at is sent still after_is = record {
    long = ap length after_is ∙ length_set mid (k + 2) t ∙ a.long;
    same = λ j e within. keep j e within (same_or_not j (k + 2));
    sent = λ j e within h. go j e within h (same_or_not j (k + 2));
    rest = λ j e within h. other j e (λ q. omega (arith, q, h)) within ∙ a.rest j e within (omega (arith, h));
  }
    where
      here : k + 2 < length mid
      here = let l = a.long in omega (arith, l, count, low)

      there : (e : Sender) → slice_index_or mid (k + 2) e ≡ s
      there e = get_or_default mid (k + 2) e s here ∙ sym at

      after_at : (e : Sender) → slice_index_or after (k + 2) e ≡ t
      after_at e = ap (λ ss. slice_index_or ss (k + 2) e) after_is ∙ set_at mid (k + 2) t e here

      elsewhere : (j : ℕ) (e : Sender) → j ≢ k + 2 → slice_index_or after j e ≡ slice_index_or mid j e
      elsewhere j e off = ap (λ ss. slice_index_or ss j e) after_is ∙ index_other mid (k + 2) j t e off

      other : (j : ℕ) (e : Sender) → j ≢ k + 2 → j < length before → all_sent (slice_index_or after j e) ≡ all_sent (slice_index_or mid j e)
      other j e off within = ap all_sent (elsewhere j e off)

      keep : (j : ℕ) (e : Sender) → j < length before → (j ≡ k + 2) ⊎ (j ≢ k + 2) → SameSender (slice_index_or before j e) (slice_index_or after j e)
      keep j e within (inl q) =
          let within' : k + 2 < length before = subst (λ n. n < length before) q within in
          let first : SameSender (slice_index_or before (k + 2) e) s = subst (SameSender (slice_index_or before (k + 2) e)) (there e) (a.same (k + 2) e within') in
          subst (λ n. SameSender (slice_index_or before n e) (slice_index_or after n e)) (sym q)
          (subst (SameSender (slice_index_or before (k + 2) e)) (sym (after_at e)) (SameSender-trans (slice_index_or before (k + 2) e) s t first still))
      keep j e within (inr off) = subst (SameSender (slice_index_or before j e)) (sym (elsewhere j e off)) (a.same j e within)

      go : (j : ℕ) (e : Sender) → j < length before → j < k + 1 + 2 → (j ≡ k + 2) ⊎ (j ≢ k + 2) → all_sent (slice_index_or after j e) ≡ link (open_world w).links j 1
      go j e within h (inl q) =
          let within' : k + 2 < length before = subst (λ n. n < length before) q within in
          let none : all_sent s ≡ [] = ap all_sent (sym (there e)) ∙ a.rest (k + 2) e within' (omega arith) in
          subst (λ n. all_sent (slice_index_or after n e) ≡ link (open_world w).links n 1) (sym q)
          (ap all_sent (after_at e) ∙ sent ∙ ap (λ ls. ls ++ letter ∷ []) none ∙ ap (λ l. l ∷ []) is ∙ sym (welcome_at k low))
      go j e within h (inr off) = other j e off within ∙ a.sent j e within (omega (arith, h, off))

  -- all links, once the sequencer has welcomed the sites
  pub opened : (n : ℕ) (outs : List (List Sender)) (inputs : List (List Receiver)) (after : List Sender) → n ≡ w.sites + 2 → AllLinks n n outs inputs → Welcomed w (w.sites + 2) (slice_index_or outs 1 []) after →
      AreOpened w (slice_set outs 1 after) inputs
  opened n outs inputs after same a h = record {
    senders = length_set outs 1 after ∙ a.senders ∙ same;
    receivers = a.receivers ∙ same;
    each_out = λ i low. out_long i low (same_or_not i 1);
    each_input = λ j low. a.each_input j (omega (arith, low, same)) ∙ same;
    are = λ i j e f low high. link_at i j e f (omega (arith, low, same)) (omega (arith, high, same)) (same_or_not i 1);
    sent = λ i j e low high. sent_at i j e (omega (arith, low, same)) high (same_or_not i 1);
    given = λ i j f low high. (a.are i j (some_sender i j (omega (arith, low, same)) (omega (arith, high, same))) f (omega (arith, low, same)) (omega (arith, high, same))).given;
  }
    where
      one : 1 < length outs
      one = let l = a.senders in omega (arith, l, same)

      one_n : 1 < n
      one_n = omega (arith, same)

      first : slice_index_or (slice_set outs 1 after) 1 [] ≡ after
      first = set_at outs 1 after [] one

      elsewhere : (i : ℕ) → i ≢ 1 → slice_index_or (slice_set outs 1 after) i [] ≡ slice_index_or outs i []
      elsewhere i off = index_other outs 1 i after [] off

      out_long : (i : ℕ) → i < w.sites + 2 → (i ≡ 1) ⊎ (i ≢ 1) → length (slice_index_or (slice_set outs 1 after) i []) ≡ w.sites + 2
      out_long i low (inl q) = ap (λ m. length (slice_index_or (slice_set outs 1 after) m [])) q ∙ ap length first ∙ h.long ∙ a.each_out 1 one_n ∙ same
      out_long i low (inr off) = ap length (elsewhere i off) ∙ a.each_out i (omega (arith, low, same)) ∙ same

      some_of : {X : Type 0} (xs : List X) (k : ℕ) → k < length xs → X
      some_of [] k low = absurd (omega (arith, low))
      some_of (x ∷ xs) k low = x

      some_sender : (i j : ℕ) → i < n → j < n → Sender
      some_sender i j low high = some_of (slice_index_or outs i []) j (let l = a.each_out i low in omega (arith, l, high))

      within : (j : ℕ) → j < n → j < length (slice_index_or outs 1 [])
      within j high = let l = a.each_out 1 one_n in omega (arith, l, high)

      link_at : (i j : ℕ) (e : Sender) (f : Receiver) → i < n → j < n → (i ≡ 1) ⊎ (i ≢ 1) → IsLink (out (slice_set outs 1 after) i j e) (input inputs j i f)
      link_at i j e f low high (inl q) =
          subst (λ m. IsLink (out (slice_set outs 1 after) m j e) (input inputs j m f)) (sym q)
          (subst (λ row. IsLink (slice_index_or row j e) (input inputs j 1 f)) (sym first)
          (IsLink-same (out outs 1 j e) (slice_index_or after j e) (input inputs j 1 f) (input inputs j 1 f) (h.same j e (within j high)) (SameReceiver-same (input inputs j 1 f)) (a.are 1 j e f one_n high).link))
      link_at i j e f low high (inr off) = subst (λ row. IsLink (slice_index_or row j e) (input inputs j i f)) (sym (elsewhere i off)) (a.are i j e f low high).link

      sent_at : (i j : ℕ) (e : Sender) → i < n → j < w.sites + 2 → (i ≡ 1) ⊎ (i ≢ 1) → all_sent (out (slice_set outs 1 after) i j e) ≡ link (open_world w).links j i
      sent_at i j e low high (inl q) =
          subst (λ m. all_sent (out (slice_set outs 1 after) m j e) ≡ link (open_world w).links j m) (sym q)
          (ap (λ row. all_sent (slice_index_or row j e)) first ∙ h.sent j e (within j (omega (arith, high, same))) high)
      sent_at i j e low high (inr off) =
          ap (λ row. all_sent (slice_index_or row j e)) (elsewhere i off)
          ∙ (a.are i j e (some_receiver i j low (omega (arith, high, same))) low (omega (arith, high, same))).sent ∙ sym (others_at i j high off)
        where
          some_receiver : (i j : ℕ) → i < n → j < n → Receiver
          some_receiver i j low high = some_of (slice_index_or inputs j []) i (let l = a.each_input j high in omega (arith, l, low))

-- no letter has been sent on a link of one row
pub none_sent_yet : (n : ℕ) (outs : List (List Sender)) (inputs : List (List Receiver)) (row : List Sender) → AllLinks n n outs inputs → 1 < n → row ≡ slice_index_or outs 1 [] → (k : ℕ) (e : Sender) → k < length row → all_sent (slice_index_or row k e) ≡ []
none_sent_yet n outs inputs row a some is k e low =
    let high : k < n = let l : length row ≡ n = ap length is ∙ a.each_out 1 some in omega (arith, low, l) in
    let wide = a.each_input k high in
    let f : Receiver = element_of (slice_index_or inputs k []) 1 (omega (arith, wide, some)) in
    ap (λ ss. all_sent (slice_index_or ss k e)) is ∙ (a.are 1 k e f some high).sent
