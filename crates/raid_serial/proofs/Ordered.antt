-- A legal history is in order, and each transaction that it names has its Begin there.
use Rattle.std.proofs.Common.{◌≡◌, ℕ, ◌+◌, ◌<◌, ◌⊎◌, inl, inr, Bool, true, false, not, ◌&&◌, ◌||◌, if◌then◌else◌, List, [], ◌∷◌, ◌++◌, length, get_or, arith, sym, ◌∙◌, ap, subst, refl, length-append}
use Rattle.std.specs.List.{All}
use Rattle.std.proofs.lemmas.Bool.{true≢false, and_parts, or_left}
use Rattle.std.proofs.lemmas.Grind.{common_steps}
use Rattle.std.proofs.lemmas.List.Elements.{All-push}
use Rattle.std.proofs.lemmas.List.Folds.{list_any_at}
use Rattle.raid_base.specs.declared.names.Txn.{Txn}
use Rattle.raid_base.specs.declared.names.Site.{Site}
use Rattle.raid_base.specs.declared.entry.Entry.{Entry as Real}
use Rattle.raid_base.specs.declared.entry.Entry.TheVariants.{Begin, Read, Wait, Commit, Abort, Ack, Down}
use Rattle.raid_base.specs.declared.entry.Noted.{Noted as RNoted}
use Rattle.raid_base.specs.Names.{is_txn, is_site, has_site}
use Rattle.raid_workload.specs.declared.workload.Workload.{Workload}
use Rattle.raid_rules.specs.Entries.{is_begin_of}
use Rattle.raid_rules.specs.History.{noted as noted_in, add, next, stamp, stamp_at, has_begun, has_ended, is_running}
use Rattle.raid_rules.specs.Sessions.{owes, turn_owed}
use Rattle.raid_rules.specs.Order.{is_of, IsInOrder, IsWhole, Follows}
use Rattle.raid_rules.proofs.Push.{same_txn, whole_push, in_order_push, number_of_push, has_begun_push, owes_push, noted_push}
use Rattle.raid_legal.specs.Legal.{Legal}
use Rattle.raid_legal.proofs.Push.{legal_push}
use Rattle.raid_serial.proofs.Translate.{Has, has_contains, cases_true}
use Rattle.raid_serial.proofs.Grants.{number_some}
use Rattle.raid_serial.proofs.Facts.{Fact, fact}
use Rattle.raid_rules.proofs.Places.{by_last}

pub record Ordered (p : List RNoted) : Type 0 where
  pub in_order : IsInOrder p
  pub whole : IsWhole p
  pub stamped : (t : Txn) → All (λ m. is_of t m.entry ≡ true → m.stamp ≡ stamp p t) p
  pub bounded : All (λ m. m.at < length p + 1) p
  pub later : All (λ m. m.stamp < m.at + 1) p
  pub acked : (s : Site) (t : Txn) → owes p s t ≡ true → has_begun p t ≡ true

-- what holds of all entries holds of one
pub all_has : (P : RNoted → Type 0) (p : List RNoted) (n : RNoted) → All P p → Has n p → P n
all_has P p n a i = let c = has_contains p n i in subst P c.2 (a c.0 n c.1)

-- an entry with a transaction of its own is its Begin, or comes after it
abbrev Placed : List RNoted → Real → Txn → Type 0
Placed p e t = ((is_begin_of t e ≡ true) × (has_begun p t ≡ false)) ⊎ ((is_begin_of t e ≡ false) × (has_begun p t ≡ true))

-- the stamp of the next entry
pub stamp_of_next : (p : List RNoted) (k : ℕ) (e : Real) (t : Txn) → is_of t e ≡ true → stamp_at p k e ≡ (if is_begin_of t e then k else stamp p t)
stamp_of_next p k (Begin u home) t q = sym (ap (λ b. if b then k else stamp p t) q)
stamp_of_next p k (Read u x site) t q = ap (stamp p) (same_txn u t q)
stamp_of_next p k (Wait u request) t q = ap (stamp p) (same_txn u t q)
stamp_of_next p k (Commit u request applied) t q = ap (stamp p) (same_txn u t q)
stamp_of_next p k (Abort u cause act) t q = ap (stamp p) (same_txn u t q)
stamp_of_next p k (Ack u site) t q = ap (stamp p) (same_txn u t q)
stamp_of_next p k other t q = absurd (true≢false (sym q))

begins_at : (p : List RNoted) (k : ℕ) (e : Real) (t : Txn) → is_begin_of t e ≡ true → stamp_at p k e ≡ k
begins_at p k (Begin u home) t q = refl
begins_at p k other t q = absurd (true≢false (sym q))

pub own_begin : (e : Real) (t : Txn) → is_begin_of t e ≡ true → is_of t e ≡ true
own_begin (Begin u home) t q = q
own_begin other t q = absurd (true≢false (sym q))

pub run_begun : (p : List RNoted) (t : Txn) → is_running p t ≡ true → has_begun p t ≡ true
run_begun p t h = (and_parts (has_begun p t) (not (has_ended p t)) h).0

module _ (w : Workload) (p : List RNoted) (o : Ordered p) where
  placed : (e : Real) (t : Txn) → Fact w p e → is_of t e ≡ true → Placed p e t
  placed (Begin u home) t f q = inl (q, subst (λ z. has_begun p z ≡ false) (same_txn u t q) f.1)
  placed (Read u x site) t f q = inr (refl, subst (λ z. has_begun p z ≡ true) (same_txn u t q) (run_begun p u f.0))
  placed (Wait u request) t f q = inr (refl, subst (λ z. has_begun p z ≡ true) (same_txn u t q) (run_begun p u f))
  placed (Commit u request applied) t f q = inr (refl, subst (λ z. has_begun p z ≡ true) (same_txn u t q) (run_begun p u f.0))
  placed (Abort u cause act) t f q = inr (refl, subst (λ z. has_begun p z ≡ true) (same_txn u t q) (run_begun p u f))
  placed (Ack u site) t f q = inr (refl, subst (λ z. has_begun p z ≡ true) (same_txn u t q) (o.acked site u f))
  placed other t f q = absurd (true≢false (sym q))

  owed_begun : (e : Real) (s : Site) (t : Txn) → Fact w p e → turn_owed s t (owes p s t) e ≡ true → has_begun p t ≡ true
  owed_begun (Commit u request applied) s t f q = from_commit (owes p s t) refl q
    where
      from_commit : (owed : Bool) → owes p s t ≡ owed → (owed || (is_txn t u && has_site applied s)) ≡ true → has_begun p t ≡ true
      from_commit true h q = o.acked s t h
      from_commit false h q = subst (λ z. has_begun p z ≡ true) (same_txn u t (and_parts (is_txn t u) (has_site applied s) q).0) (run_begun p u f.0)
  owed_begun (Ack u site) s t f q = o.acked s t (and_parts (owes p s t) (not (is_txn t u && is_site s site)) q).0
  owed_begun (Down site) s t f q = o.acked s t (and_parts (owes p s t) (not (is_site s site)) q).0
  owed_begun other s t f q = o.acked s t q

  seen_begun : (t : Txn) (k : ℕ) (d : RNoted) → k < length p → is_of t (get_or p k d).entry ≡ true → has_begun p t ≡ true
  seen_begun t k d l own = o.whole t (list_any_at (λ m. is_of t m.entry) p k d l own)

  follows : (e : Real) → Fact w p e → Follows p (next p e)
  follows e f = record {
    counted = omega arith;
    above = o.bounded;
    agrees = λ t k d l own here. elim (placed e t f here) [
      | inl b ↦ absurd (true≢false (sym (seen_begun t k d l own) ∙ b.1))
      | inr b ↦ (o.stamped t k d l own ∙ sym (stamp_of_next p (length p + 1) e t here ∙ ap (λ c. if c then length p + 1 else stamp p t) b.0), b.0)
    ];
    begins = λ t here. begins_at p (length p + 1) e t here;
    begun = λ t here. elim (placed e t f here) [
      | inl b ↦ grind (arith, common_steps, b.0)
      | inr b ↦ or_left _ _ b.1
    ];
  }

  pub ordered_add : (e : Real) → Fact w p e → Ordered (add p e)
  ordered_add e f = record {
    in_order = in_order_push p (next p e) o.in_order o.whole (follows e f);
    whole = whole_push p (next p e) o.whole (follows e f);
    stamped = λ t. All-push (λ m. is_of t m.entry ≡ true → m.stamp ≡ stamp (add p e) t) p (next p e) (before t) (λ here. stamp_of_next p (length p + 1) e t here ∙ sym (number_of_push (is_begin_of t) p (next p e)));
    bounded = All-push (λ m. m.at < length (add p e) + 1) p (next p e) (λ k d l. let b : (get_or p k d).at < length p + 1 = o.bounded k d l in omega (arith, length-append p (next p e ∷ []))) (omega (arith, length-append p (next p e ∷ [])));
    later = All-push (λ m. m.stamp < m.at + 1) p (next p e) o.later (stamp_low e);
    acked = λ s t h. has_begun_push p (next p e) t ∙ or_left _ _ (owed_begun e s t f (sym (owes_push p (next p e) s t) ∙ h));
  }
    where
      stamp_below : (t : Txn) → stamp p t < length p + 1 + 1
      stamp_below t = elim (number_some (is_begin_of t) p 0) [
        | inl z ↦ omega (arith, (let y : stamp p t ≡ 0 = z in y))
        | inr b ↦ omega (arith, (let y : stamp p t ≡ (b.0).at = b.3 in y), all_has (λ m. m.at < length p + 1) p b.0 o.bounded b.1)
      ]

      stamp_low : (e : Real) → stamp_at p (length p + 1) e < length p + 1 + 1
      stamp_low (Begin u home) = omega arith
      stamp_low (Read u x site) = stamp_below u
      stamp_low (Wait u request) = stamp_below u
      stamp_low (Commit u request applied) = stamp_below u
      stamp_low (Abort u cause act) = stamp_below u
      stamp_low (Ack u site) = stamp_below u
      stamp_low other = omega arith

      before : (t : Txn) → All (λ m. is_of t m.entry ≡ true → m.stamp ≡ stamp (add p e) t) p
      before t k d l own = o.stamped t k d l own ∙ sym (number_of_push (is_begin_of t) p (next p e) ∙ elim (cases_true (is_begin_of t e)) [
        | inr b ↦ ap (λ c. if c then length p + 1 else stamp p t) b
        | inl b ↦ elim (placed e t f (own_begin e t b)) [
          | inl c ↦ absurd (true≢false (sym (seen_begun t k d l own) ∙ c.1))
          | inr c ↦ absurd (true≢false (sym b ∙ c.0))
        ]
      ])

pub ordered_none : Ordered []
ordered_none = record {
  in_order = record { counted = λ k d l. absurd (omega (arith, l)); ascends = λ i j d ij jl. absurd (omega (arith, jl)); agrees = λ t i j d ij jl. absurd (omega (arith, jl)); begins = λ t k d l. absurd (omega (arith, l)); older = λ t n k d l. absurd (omega (arith, l)) };
  whole = λ t q. absurd (true≢false (sym q));
  stamped = λ t k d l. absurd (omega (arith, l));
  bounded = λ k d l. absurd (omega (arith, l));
  later = λ k d l. absurd (omega (arith, l));
  acked = λ s t q. absurd (true≢false (sym q));
}

pub legal_ordered : (w : Workload) (h : List Real) → Legal w h → Ordered (noted_in h)
legal_ordered w = by_last (λ h. Legal w h → Ordered (noted_in h)) (λ l. ordered_none) more
  where
    more : (h : List Real) (e : Real) → (Legal w h → Ordered (noted_in h)) → Legal w (h ++ e ∷ []) → Ordered (noted_in (h ++ e ∷ []))
    more h e rest l =
        let q = (legal_push w h e).0 l in
        subst Ordered (sym (noted_push h e)) (ordered_add w (noted_in h) (rest q.0) e (fact w (noted_in h) e q.1))

pub in_order : (w : Workload) (h : List Real) → Legal w h → IsInOrder (noted_in h)
in_order w h l = (legal_ordered w h l).in_order

pub whole : (w : Workload) (h : List Real) → Legal w h → IsWhole (noted_in h)
whole w h l = (legal_ordered w h l).whole
