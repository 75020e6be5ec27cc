-- One letter is taken: from the world after it on, the servers come to the same end by what is left of their histories.
use Rattle.std.proofs.Common.{◌≡◌, ◌≢◌, ◌⊎◌, inl, inr, ℕ, zero, suc, ◌+◌, ◌<◌, ◌==◌, cond, List, [], ◌∷◌, ◌++◌, length, Option, Some, None, arith, sym, ap, subst, ◌∙◌, refl, append-nil, append_assoc}
use Rattle.std.specs.Prelude.{max, slice_get, slice_index, slice_index_or}
use Rattle.raid_workload.specs.declared.workload.Workload.{Workload}
use Rattle.raid_message.specs.declared.letter.Letter.{Letter}
use Rattle.raid_message.specs.declared.letter.Pick.{Pick}
use Rattle.raid_merge.specs.Merged.{of}
use Rattle.raid_merge.proofs.Flat.{choose_same, choose_other, of-append}
use Rattle.raid_steps.specs.State.{Out, SiteState}
use Rattle.raid_steps.specs.Own.{ChangesOwn}
use Rattle.raid_steps.specs.World.{Servers, World, hear, hear_at, session_of, link, set_link, take_letter, take_front, pick}
use Rattle.raid_steps.proofs.Links.{step_changes_own}
use Rattle.raid_causes.specs.Histories.{History, alone, hearing, after, IsAlike, HasLinks, IsWhole, Histories}
use Rattle.raid_causes.proofs.Lists.{same_or_not, below_or_not, index_other, length_set, set_at, past, not_empty}
use Rattle.raid_causes.proofs.Links.{set_shape, set_here, set_elsewhere, posts_shape, posts_other, posts_own}
use Rattle.raid_causes.proofs.Alone.{alike_refl, alike_sym, alike_trans, Same, folds_same, sends_all, sends, sends_all_same, sent_is}

-- what is left of the histories once one server has taken its first letter
abbrev pub dropped : (ℕ → History) → ℕ → History → ℕ → History
dropped histories server rest k = cond (server == k) rest (histories k)

-- a letter that waits has a sender
pub sender : (n : ℕ) (links : List (List (List Letter))) (server from : ℕ) (l : Letter) (ls : List Letter) → HasLinks n links → server < n → link links server from ≡ l ∷ ls → from < n
sender n links server from l ls h below e = elim (below_or_not from n) [
  | inl q ↦ q
  | inr q ↦ absurd (not_empty l ls (sym (past (slice_index_or links server []) from [] (let r = h.rows server below in omega (arith, q, r))) ∙ e))
]

tail_of : (x : Letter) (xs ys : List Letter) → x ∷ xs ≡ x ∷ ys → xs ≡ ys
tail_of x xs ys e = cc e

-- what was taken and left before, and after: either the front was taken, or nothing was
abbrev Took : List Letter → List Letter → List Letter → List Letter → Type 0
Took taken less before now = ((x : Letter) × (taken ≡ x ∷ less) × (before ≡ x ∷ now)) ⊎ ((taken ≡ less) × (before ≡ now))

still : (taken less before now end sent later extra after : List Letter) → taken ++ end ≡ before ++ sent → Took taken less before now → after ≡ now ++ extra → sent ≡ extra ++ later → less ++ end ≡ after ++ later
still taken less before now end sent later extra after e t a q =
    let same : now ++ sent ≡ after ++ later = ap (λ ls. now ++ ls) q ∙ sym (append_assoc now extra later) ∙ ap (λ ls. ls ++ later) (sym a) in
    go t ∙ same where
      go : Took taken less before now → less ++ end ≡ now ++ sent
      go (inl f) = tail_of f.0 (less ++ end) (now ++ sent) (ap (λ ls. ls ++ end) (sym f.1) ∙ e ∙ ap (λ ls. ls ++ sent) f.2)
      go (inr f) = ap (λ ls. ls ++ end) (sym f.0) ∙ e ∙ ap (λ ls. ls ++ sent) f.1

-- and the other way
was : (taken less before now end sent later extra after : List Letter) → less ++ end ≡ after ++ later → Took taken less before now → after ≡ now ++ extra → sent ≡ extra ++ later → taken ++ end ≡ before ++ sent
was taken less before now end sent later extra after e t a q =
    let same : less ++ end ≡ now ++ sent = e ∙ ap (λ ls. ls ++ later) a ∙ append_assoc now extra later ∙ ap (λ ls. now ++ ls) (sym q) in
    go t same where
      go : Took taken less before now → less ++ end ≡ now ++ sent → taken ++ end ≡ before ++ sent
      go (inl f) same = ap (λ ls. ls ++ end) f.1 ∙ ap (λ ls. f.0 ∷ ls) same ∙ ap (λ ls. ls ++ sent) (sym f.2)
      go (inr f) same = ap (λ ls. ls ++ end) f.0 ∙ same ∙ ap (λ ls. ls ++ sent) (sym f.1)

at_long : (w : Workload) (s : Servers) (k from : ℕ) (l : Letter) (o : Option SiteState) → length (hear_at w s k from l o).0.sites ≡ length s.sites
at_long w s k from l None = refl
at_long w s k from l (Some state) = length_set s.sites k _

hear_long : (w : Workload) (s : Servers) (k from : ℕ) (l : Letter) → length (hear w s k from l).0.sites ≡ length s.sites
hear_long w s zero from l = refl
hear_long w s (suc zero) from l = refl
hear_long w s (suc (suc k)) from l = at_long w s k from l (slice_get s.sites k)

module _ (w : Workload) (s : World) (i j : ℕ) (l : Letter) (rest : List Letter) (whole : IsWhole w s) (below : i < w.sites + 2) (found : link s.links i j ≡ l ∷ rest) where
  abbrev heard : Servers × List Out
  heard = hear w s.servers i j l

  abbrev clock : ℕ
  clock = 1 + max (slice_index s.clocks i) l.clock

  abbrev session : ℕ
  session = session_of heard.0 i

  abbrev t : World
  t = take_letter w s i j l rest

  abbrev left : List (List (List Letter))
  left = set_link s.links i j rest

  abbrev p : Pick
  p = record { server = i; from = j }

  pub picked : pick w s p ≡ t
  picked = ap (take_front w s i j) found

  own : ChangesOwn p s t
  own = subst (ChangesOwn p s) picked (step_changes_own w s p)

  left_links : HasLinks (w.sites + 2) left
  left_links = set_shape (w.sites + 2) s.links i j rest whole.links

  pub whole_after : IsWhole w t
  whole_after = record {
    sites = hear_long w s.servers i j l ∙ whole.sites;
    clocks = length_set s.clocks i clock ∙ whole.clocks;
    journals = length_set s.journals i _ ∙ whole.journals;
    links = posts_shape (w.sites + 2) i session clock heard.1 left left_links;
  }

  servers_other : (k : ℕ) → k ≢ i → IsAlike k t.servers s.servers
  servers_other zero differ = own.monitor (λ q. differ (sym q))
  servers_other (suc zero) differ = own.sequencer (λ q. differ (sym q))
  servers_other (suc (suc k)) differ = own.sites k (λ q. differ (omega (arith, q)))

  -- the other servers by themselves, and the server itself
  alone_other : (k : ℕ) → k ≢ i → Same w k (alone t k) (alone s k)
  alone_other k differ = record {
    servers = servers_other k differ;
    clock = index_other s.clocks i k clock 0 differ;
    journal = index_other s.journals i k _ [] differ;
  }

  pub clock_own : slice_index t.clocks i ≡ clock
  clock_own = set_at s.clocks i clock 0 (let c = whole.clocks in omega (arith, below, c))

  pub clock_other : (k : ℕ) → k ≢ i → slice_index t.clocks k ≡ slice_index s.clocks k
  clock_other k differ = index_other s.clocks i k clock 0 differ

  alone_own : Same w i (alone t i) (hearing w i (alone s i) (j, l))
  alone_own = record {
    servers = alike_refl i heard.0;
    clock = clock_own;
    journal = set_at s.journals i _ [] (let c = whole.journals in omega (arith, below, c));
  }

  module _ (histories : ℕ → History) (hs : History) (first : histories i ≡ (j, l) ∷ hs) where
    abbrev now : ℕ → History
    now = dropped histories i hs

    after_own : Same w i (after w t i (now i)) (after w s i (histories i))
    after_own =
        subst (λ h. Same w i (after w t i h) (after w s i (histories i))) (sym (choose_same i hs (histories i)))
        (subst (λ h. Same w i (after w t i hs) (after w s i h)) (sym first) (folds_same w i hs (alone t i) (hearing w i (alone s i) (j, l)) alone_own))

    after_other : (k : ℕ) → k ≢ i → Same w k (after w t k (now k)) (after w s k (histories k))
    after_other k differ =
        subst (λ h. Same w k (after w t k h) (after w s k (histories k))) (sym (choose_other i k hs (histories k) (λ q. differ (sym q))))
        (folds_same w k (histories k) (alone t k) (alone s k) (alone_other k differ))

    after_same : (k : ℕ) → Same w k (after w t k (now k)) (after w s k (histories k))
    after_same k = elim (same_or_not k i) [
      | inl q ↦ subst (λ m. Same w m (after w t m (now m)) (after w s m (histories m))) (sym q) after_own
      | inr q ↦ after_other k q
    ]

    -- what is sent in the step, and after it
    abbrev Extra : ℕ → ℕ → Type 0
    Extra c d = (extra : List Letter) × (link t.links c d ≡ link left c d ++ extra) × (of c (after w s d (histories d)).sent ≡ extra ++ of c (after w t d (now d)).sent)

    extra_own : (c : ℕ) → c < w.sites + 2 → Extra c i
    extra_own c within =
        let step : List (ℕ × Letter) = sends w i (alone s i) (j, l) in
        let later : List (ℕ × Letter) = sends_all w i (hearing w i (alone s i) (j, l)) hs in
        let is : (after w t i (now i)).sent ≡ later =
        ap (λ h. (after w t i h).sent) (choose_same i hs (histories i)) ∙ sent_is w i hs (alone t i) ∙ sends_all_same w i hs (alone t i) (hearing w i (alone s i) (j, l)) alone_own in
        let was : (after w s i (histories i)).sent ≡ step ++ later = ap (λ h. (after w s i h).sent) first ∙ sent_is w i ((j, l) ∷ hs) (alone s i) in (
          of c step,
          posts_own (w.sites + 2) i session clock heard.1 left c left_links below within,
          ap (of c) was ∙ of-append c step later ∙ ap (λ xs. of c step ++ of c xs) (sym is),
        )

    extra_other : (c d : ℕ) → d ≢ i → Extra c d
    extra_other c d differ =
        let is : (after w t d (now d)).sent ≡ sends_all w d (alone s d) (histories d) =
        ap (λ h. (after w t d h).sent) (choose_other i d hs (histories d) (λ q. differ (sym q))) ∙ sent_is w d (histories d) (alone t d) ∙ sends_all_same w d (histories d) (alone t d) (alone s d) (alone_other d differ) in (
          [],
          posts_other (w.sites + 2) i session clock heard.1 left c d differ ∙ sym (append-nil (link left c d)),
          ap (of c) (sent_is w d (histories d) (alone s d) ∙ sym is),
        )

    extra : (c d : ℕ) → c < w.sites + 2 → Extra c d
    extra c d within = elim (same_or_not d i) [
      | inl q ↦ subst (Extra c) (sym q) (extra_own c within)
      | inr q ↦ extra_other c d q
    ]

    -- what is taken in the step, and after it
    abbrev Taken : ℕ → ℕ → Type 0
    Taken c d = Took (of d (histories c)) (of d (now c)) (link s.links c d) (link left c d)

    taken_own : (d : ℕ) → (d ≡ j) ⊎ (d ≢ j) → Taken i d
    taken_own d (inl q) = subst (Taken i) (sym q) (inl (
      l,
      ap (of j) first ∙ choose_same j (l ∷ of j hs) (of j hs) ∙ ap (λ h. l ∷ of j h) (sym (choose_same i hs (histories i))),
      found ∙ ap (λ ls. l ∷ ls) (sym (set_here (w.sites + 2) s.links i j rest whole.links below (sender (w.sites + 2) s.links i j l rest whole.links below found))),
    ))
    taken_own d (inr q) = inr (
      ap (of d) first ∙ choose_other j d (l ∷ of d hs) (of d hs) (λ e. q (sym e)) ∙ ap (of d) (sym (choose_same i hs (histories i))),
      sym (set_elsewhere (w.sites + 2) s.links i j i d rest whole.links below (inr q)),
    )

    taken : (c d : ℕ) → Taken c d
    taken c d = elim (same_or_not c i) [
      | inl q ↦ subst (λ m. Taken m d) (sym q) (taken_own d (same_or_not d j))
      | inr q ↦ inr (ap (of d) (sym (choose_other i c hs (histories c) (λ e. q (sym e)))), sym (set_elsewhere (w.sites + 2) s.links i j c d rest whole.links below (inl q)))
    ]

    -- the same end
    pub taking : (end : World) → Histories w s histories end → Histories w t now end
    taking end h = record {
      whole = h.whole;
      none = λ k le. choose_other i k hs (histories k) (λ q. omega (arith, q, le, below)) ∙ h.none k le;
      states = λ k lt. alike_trans k end.servers (after w s k (histories k)).servers (after w t k (now k)).servers (h.states k lt)
          (alike_sym k (after w t k (now k)).servers (after w s k (histories k)).servers ((after_same k).servers));
      clocks = λ k lt. h.clocks k lt ∙ sym ((after_same k).clock);
      journals = λ k lt. h.journals k lt ∙ sym ((after_same k).journal);
      links = λ c d lt.
          let e = extra c d lt in
          still (of d (histories c)) (of d (now c)) (link s.links c d) (link left c d) (link end.links c d) (of c (after w s d (histories d)).sent) (of c (after w t d (now d)).sent) e.0 (link t.links c d)
          (h.links c d lt) (taken c d) e.1 e.2;
    }

    -- and the same end with that letter in front, where what is left are these histories
    pub giving : (end : World) (after_it : ℕ → History) → ((k : ℕ) → after_it k ≡ now k) → Histories w t after_it end → Histories w s histories end
    giving end after_it are h =
        let here : (k : ℕ) → after w t k (after_it k) ≡ after w t k (now k) = λ k. ap (after w t k) (are k) in
        record {
          whole = h.whole;
          none = λ k le. sym (are k ∙ choose_other i k hs (histories k) (λ q. omega (arith, q, le, below))) ∙ h.none k le;
          states = λ k lt. alike_trans k end.servers (after w t k (now k)).servers (after w s k (histories k)).servers
              (subst (λ a. IsAlike k end.servers a.servers) (here k) (h.states k lt)) ((after_same k).servers);
          clocks = λ k lt. h.clocks k lt ∙ ap (λ a. a.clock) (here k) ∙ (after_same k).clock;
          journals = λ k lt. h.journals k lt ∙ ap (λ a. a.journal) (here k) ∙ (after_same k).journal;
          links = λ c d lt.
              let e = extra c d lt in
              was (of d (histories c)) (of d (now c)) (link s.links c d) (link left c d) (link end.links c d) (of c (after w s d (histories d)).sent) (of c (after w t d (now d)).sent) e.0 (link t.links c d)
              (ap (λ hs. of d hs ++ link end.links c d) (sym (are c)) ∙ h.links c d lt ∙ ap (λ a. link t.links c d ++ of c a.sent) (here d)) (taken c d) e.1 e.2;
        }
