-- What the views in force after a legal history have of the running transactions: all their Begins and Reads.
use Rattle.std.proofs.Common.{◌≡◌, ℕ, ◌+◌, ◌<◌, ◌≤◌, ◌⊎◌, inl, inr, Bool, true, false, not, ◌==◌, cond, nat_lt, List, [], ◌∷◌, ◌++◌, length, arith, sym, ◌∙◌, ap, subst, refl, Option, Some, None, length-append}
use Rattle.std.specs.List.{list_any, filter}
use Rattle.std.proofs.lemmas.Bool.{true≢false, and_parts, or_left, eqb-true, cases_lt}
use Rattle.std.proofs.lemmas.Grind.{common_steps}
use Rattle.raid_base.specs.declared.names.Txn.{Txn}
use Rattle.raid_base.specs.declared.entry.Entry.{Entry}
use Rattle.raid_base.specs.declared.entry.Entry.TheVariants.{Begin, Read, Commit, Abort, SwitchOn, SwitchEnd}
use Rattle.raid_base.specs.declared.entry.Noted.{Noted}
use Rattle.raid_base.specs.declared.verdict.Kind.{Kind}
use Rattle.raid_base.specs.declared.verdict.Method.{Method}
use Rattle.raid_base.specs.declared.verdict.Method.TheVariants.{Generic, Convert, Suffix}
use Rattle.raid_base.specs.Names.{is_txn, has_txn}
use Rattle.raid_workload.specs.declared.workload.Workload.{Workload}
use Rattle.raid_workload.specs.Parts.{txns}
use Rattle.raid_rules.specs.Entries.{is_begin_of, is_end_of}
use Rattle.raid_rules.specs.History.{noted, add, next, stamp, has_begun, has_ended, is_running}
use Rattle.raid_rules.specs.Order.{is_of, BeginsAtStamp}
use Rattle.raid_rules.specs.Views.{View}
use Rattle.raid_rules.proofs.Places.{by_last}
use Rattle.raid_rules.proofs.Push.{noted_push, same_txn}
use Rattle.raid_legal.specs.Seen.{running}
use Rattle.raid_legal.specs.InForce.{InForce, in_force, turn, turn_end, off_list, survivors, is_tied, is_over}
use Rattle.raid_legal.specs.Legal.{Legal}
use Rattle.raid_legal.proofs.Push.{legal_push}
use Rattle.raid_control.specs.Carried.{is_start}
use Rattle.raid_serial.proofs.Facts.{Fact, Quiet, fact, none_is, some_is}
use Rattle.raid_serial.proofs.Force.{in_force_push}
use Rattle.raid_serial.proofs.Grants.{has_split}
use Rattle.raid_serial.proofs.Ordered.{Ordered, legal_ordered, all_has, own_begin}
use Rattle.raid_serial.proofs.Tamed.{begun_fresh, find_none, keep_txn, legal_stands}
use Rattle.raid_serial.proofs.Translate.{Has, any_has, has_any, not_true, cases_true, eq_self}

-- a Begin or Read of the transaction
abbrev pub starts : Txn → Entry → Bool
starts t e = is_start (is_txn t) e

pub starts_own : (t : Txn) (e : Entry) → starts t e ≡ true → is_of t e ≡ true
starts_own t (Begin u home) s = grind (arith, common_steps, s)
starts_own t (Read u x site) s = s
starts_own t other s = absurd (true≢false (sym s))

pub ends_own : (t : Txn) (e : Entry) → is_end_of t e ≡ true → is_of t e ≡ true
ends_own t (Commit u request applied) s = grind (arith, common_steps, s)
ends_own t (Abort u cause act) s = s
ends_own t other s = absurd (true≢false (sym s))

never_both : (t : Txn) (e : Entry) → starts t e ≡ true → is_end_of t e ≡ true → ⊥
never_both t (Commit u request applied) s e = true≢false (sym s)
never_both t (Abort u cause act) s e = true≢false (sym s)
never_both t other s e = true≢false (sym e)

-- the view has what running transactions begin and read with, but for those that are to be aborted
abbrev Seen : List Noted → View → List Txn → Type 0
Seen p v off = (t : Txn) → is_running p t ≡ true → has_txn off t ≡ false → (n : Noted) → Has n p → starts t n.entry ≡ true → (v.cut < n.at) ⊎ (has_txn v.keep t ≡ true)

-- whom it keeps ran at its cut
abbrev Ended : List Noted → View → Type 0
Ended p v = (t : Txn) (n : Noted) → Has n p → is_end_of t n.entry ≡ true → has_txn v.keep t ≡ true → v.cut < n.at

-- the newer view starts at no Begin
abbrev Apart : List Noted → Option (Kind × ℕ) → Type 0
Apart p next = (c : Kind × ℕ) → next ≡ Some c → (c.1 ≤ length p) × ((t : Txn) (n : Noted) → Has n p → is_begin_of t n.entry ≡ true → n.at ≡ c.1 → ⊥)

-- nobody begins or reads once it has ended
abbrev Before : List Noted → Type 0
Before p = (t : Txn) (m b : Noted) → Has m p → Has b p → starts t m.entry ≡ true → is_end_of t b.entry ≡ true → m.at < b.at

pub record Kept (p : List Noted) (f : InForce) : Type 0 where
  pub cut : f.view.cut ≤ length p
  pub apart : Apart p f.next
  pub seen : Seen p f.view f.off
  pub ended : Ended p f.view
  pub before : Before p

pub bounded : (p : List Noted) → Ordered p → (n : Noted) → Has n p → n.at ≤ length p
bounded p o n i = let l : n.at < length p + 1 = all_has (λ m. m.at < length p + 1) p n o.bounded i in omega (arith, l)

pub begun_of : (p : List Noted) → Ordered p → (t : Txn) (n : Noted) → Has n p → is_of t n.entry ≡ true → has_begun p t ≡ true
begun_of p o t n i own = o.whole t (has_any (λ m. is_of t m.entry) p n i own)

pub runs_on : (p : List Noted) (t : Txn) → is_running p t ≡ true → has_ended p t ≡ false
runs_on p t r = grind (arith, common_steps, (and_parts (has_begun p t) (not (has_ended p t)) r).1)

module _ (w : Workload) (p : List Noted) (o : Ordered p) (known : (t : Txn) → has_begun p t ≡ true → has_txn (txns w) t ≡ true) where
  pub running_has : (t : Txn) → is_running p t ≡ true → has_txn (running w p) t ≡ true
  running_has t r = keep_txn (is_running p) (txns w) t r (known t (and_parts (has_begun p t) _ r).0)

  pub survives : (method : Method) (to : Kind) (t : Txn) → is_running p t ≡ true → has_txn (off_list w p method to) t ≡ false → has_txn (survivors w p method to) t ≡ true
  survives method to t r out = keep_txn (λ u. not (has_txn (off_list w p method to) u)) (running w p) t (ap not out) (running_has t r)

-- who passes a filter passes its test
pub filter_txn : (f : Txn → Bool) (ts : List Txn) (t : Txn) → has_txn (filter f ts) t ≡ true → (f t ≡ true) × (has_txn ts t ≡ true)
filter_txn f [] t h = absurd (true≢false (sym h))
filter_txn f (u ∷ ts) t h = go (f u) refl (filter_txn f ts t) h
  where
    go : (b : Bool) → f u ≡ b → (has_txn (filter f ts) t ≡ true → (f t ≡ true) × (has_txn ts t ≡ true)) → has_txn (cond b (u ∷ filter f ts) (filter f ts)) t ≡ true → (f t ≡ true) × (has_txn (u ∷ ts) t ≡ true)
    go true e r k = elim (cases_true (u.0 == t.0)) [
      | inl q ↦ (ap f (sym (same_txn u t q)) ∙ e, or_left _ _ q)
      | inr q ↦ let s = r (grind (arith, common_steps, k, q)) in (s.0, grind (arith, common_steps, s.1))
    ]
    go false e r k = let s = r k in (s.0, grind (arith, common_steps, s.1))

pub survivor_runs : (w : Workload) (p : List Noted) (method : Method) (to : Kind) (t : Txn) → has_txn (survivors w p method to) t ≡ true → (is_running p t ≡ true) × (has_txn (off_list w p method to) t ≡ false)
survivor_runs w p method to t h =
    let a = filter_txn (λ u. not (has_txn (off_list w p method to) u)) (running w p) t h in
    ((filter_txn (is_running p) (txns w) t a.1).0, grind (arith, common_steps, a.0))

-- one more entry
module _ (w : Workload) (p : List Noted) (e : Entry) (o : Ordered p) (f : Fact w p e) (known : (t : Txn) → has_begun p t ≡ true → has_txn (txns w) t ≡ true) (K : Kept p (in_force w p)) where
  abbrev n : Noted
  n = next p e

  abbrev g : InForce
  g = in_force w p

  longer : length (add p e) ≡ length p + 1
  longer = length-append p (n ∷ [])

  -- who runs ran before, or begins now
  was_running : (t : Txn) → is_running (add p e) t ≡ true → is_begin_of t e ≡ false → is_running p t ≡ true
  was_running t r b = grind (arith, common_steps, r, b)

  fresh : (t : Txn) → is_begin_of t e ≡ true → (m : Noted) → Has m p → is_of t m.entry ≡ true → ⊥
  fresh t b m i own = true≢false (sym (begun_of p o t m i own) ∙ (begun_fresh w p e t f b).1)

  -- nobody that begins or reads now has ended
  open_start : (t : Txn) → starts t e ≡ true → (b : Noted) → Has b p → is_end_of t b.entry ≡ true → ⊥
  open_start t s b i ends = go e f s
    where
      go : (a : Entry) → Fact w p a → starts t a ≡ true → ⊥
      go (Begin u home) k s =
          let q : u ≡ t = same_txn u t (grind (arith, common_steps, s)) in
          true≢false (sym (begun_of p o t b i (ends_own t b.entry ends)) ∙ ap (has_begun p) (sym q) ∙ k.1)
      go (Read u x site) k s =
          let q : u ≡ t = same_txn u t s in
          true≢false (sym (has_any (λ m. is_end_of t m.entry) p b i ends) ∙ ap (has_ended p) (sym q) ∙ runs_on p u k.0)
      go other k s = true≢false (sym s)

  before_more : Before (add p e)
  before_more t m b i j s ends = go (has_split p m n i) (has_split p b n j)
    where
      go : Has m p ⊎ (m ≡ n) → Has b p ⊎ (b ≡ n) → m.at < b.at
      go (inl x) (inl y) = K.before t m b x y s ends
      go (inl x) (inr y) = let l = bounded p o m x in let q : b.at ≡ length p + 1 = ap (λ z. z.at) y in omega (arith, l, q)
      go (inr x) (inl y) = absurd (open_start t (subst (λ z. starts t z.entry ≡ true) x s) b y ends)
      go (inr x) (inr y) = absurd (never_both t e (subst (λ z. starts t z.entry ≡ true) x s) (subst (λ z. is_end_of t z.entry ≡ true) y ends))

  -- the same view
  seen_more : (off : List Txn) → ((t : Txn) → is_running p t ≡ true → has_txn off t ≡ false → has_txn g.off t ≡ false) → Seen (add p e) g.view off
  seen_more off spared t r out m i s = go (has_split p m n i)
    where
      go : Has m p ⊎ (m ≡ n) → (g.view.cut < m.at) ⊎ (has_txn g.view.keep t ≡ true)
      go (inl x) = elim (cases_true (is_begin_of t e)) [
        | inl b ↦ absurd (fresh t b m x (starts_own t m.entry s))
        | inr b ↦ let ran = was_running t r b in K.seen t ran (spared t ran out) m x s
      ]
      go (inr x) = inl (let q : m.at ≡ length p + 1 = ap (λ z. z.at) x in let c = K.cut in omega (arith, q, c))

  ended_more : Ended (add p e) g.view
  ended_more t m i ends k = go (has_split p m n i)
    where
      go : Has m p ⊎ (m ≡ n) → g.view.cut < m.at
      go (inl x) = K.ended t m x ends k
      go (inr x) = let q : m.at ≡ length p + 1 = ap (λ z. z.at) x in let c = K.cut in omega (arith, q, c)

  cut_more : g.view.cut ≤ length (add p e)
  cut_more = let c = K.cut in omega (arith, c, longer)

  apart_more : Apart (add p e) g.next
  apart_more c s =
      let a = K.apart c s in
      let low : c.1 ≤ length p = a.0 in (
        omega (arith, low, longer),
        λ t m i b same. elim (has_split p m n i) [
          | inl x ↦ a.1 t m x b same
          | inr x ↦ (let q : m.at ≡ length p + 1 = ap (λ z. z.at) x in absurd (omega (arith, q, same, low)))
        ],
      )

  pub calm : (off : List Txn) → ((t : Txn) → is_running p t ≡ true → has_txn off t ≡ false → has_txn g.off t ≡ false) → (h : InForce) → h.view ≡ g.view → h.off ≡ off → Apart (add p e) h.next → Kept (add p e) h
  calm off spared h same is a = record {
    cut = subst (λ (v : View). v.cut ≤ length (add p e)) (sym same) cut_more;
    apart = a;
    seen = subst (λ v. Seen (add p e) v h.off) (sym same) (subst (Seen (add p e) g.view) (sym is) (seen_more off spared));
    ended = subst (Ended (add p e)) (sym same) ended_more;
    before = before_more;
  }

  quiet : Quiet w p → (t : Txn) → is_running p t ≡ true → has_txn g.off t ≡ false
  quiet q t r = not_true (has_txn g.off t) (find_none (is_running p) g.off t r q)

any_of : (f : Txn → Bool) (ts : List Txn) (t : Txn) → f t ≡ true → has_txn ts t ≡ true → list_any f ts ≡ true
any_of f [] t e h = absurd (true≢false (sym h))
any_of f (u ∷ ts) t e h = elim (cases_true (u.0 == t.0)) [
  | inl q ↦ or_left _ _ (ap f (same_txn u t q) ∙ e)
  | inr q ↦ let r = any_of f ts t e (grind (arith, common_steps, h, q)) in grind (arith, common_steps, r)
]

-- who isn't tied to the time before a number begins and reads past it
module _ (p : List Noted) (o : Ordered p) (k : ℕ) (apart : (t : Txn) (n : Noted) → Has n p → is_begin_of t n.entry ≡ true → n.at ≡ k → ⊥) where
  past_start : (t : Txn) → is_tied p k t ≡ false → (m : Noted) → Has m p → is_of t m.entry ≡ true → k < m.at
  past_start t free m i own =
      let b = any_has (λ n. is_begin_of t n.entry) p (begun_of p o t m i own) in
      let begins : (b.0).stamp ≡ (b.0).at = all_has (BeginsAtStamp t) p b.0 (o.in_order.begins t) b.1 b.2 in
      let first : (b.0).stamp ≡ stamp p t = all_has (λ x. is_of t x.entry ≡ true → x.stamp ≡ stamp p t) p b.0 (o.stamped t) b.1 (own_begin (b.0).entry t b.2) in
      let same : m.stamp ≡ stamp p t = all_has (λ x. is_of t x.entry ≡ true → x.stamp ≡ stamp p t) p m (o.stamped t) i own in
      let later : m.stamp < m.at + 1 = all_has (λ x. x.stamp < x.at + 1) p m o.later i in
      let young : k ≤ stamp p t = not_below (stamp p t) k (grind (arith, common_steps, free)) in
      elim (cases_true ((b.0).at == k)) [
        | inl q ↦ absurd (apart t b.0 b.1 b.2 (eqb-true (b.0).at k q))
        | inr q ↦ (let d : (b.0).at ≡ k → ⊥ = λ e. true≢false (sym (eq_self (b.0).at k e) ∙ q) in apart_by (b.0).at k m.at d (omega (arith, young, begins, first)) (omega (arith, begins, first, same, later)))
      ]
    where
      not_below : (a c : ℕ) → nat_lt a c ≡ false → c ≤ a
      not_below a c e = grind (arith, common_steps, e)

      apart_by : (a c d : ℕ) → (a ≡ c → ⊥) → c ≤ a → a ≤ d → c < d
      apart_by a c d x y z = elim (cases_lt c a) [
        | inl l ↦ omega (arith, l, z)
        | inr l ↦ absurd (x (omega (arith, y, l)))
      ]

untied : (w : Workload) (p : List Noted) (k : ℕ) (t : Txn) → not (list_any (is_tied p k) (running w p)) ≡ true → has_txn (running w p) t ≡ true → is_tied p k t ≡ false
untied w p k t over r = not_true (is_tied p k t) (λ tied. true≢false (sym over ∙ ap not (any_of (is_tied p k) (running w p) t tied r)))

-- what is kept after one more entry
end_push : (w : Workload) (p : List Noted) (j : ℕ) (o : Ordered p) (f : Fact w p (SwitchEnd j)) (known : (t : Txn) → has_begun p t ≡ true → has_txn (txns w) t ≡ true) → Kept p (in_force w p) →
    (next : Option (Kind × ℕ)) → (in_force w p).next ≡ next → is_over w p next ≡ true → Kept (add p (SwitchEnd j)) (turn_end (in_force w p) next)
end_push w p j o f known K None e over = absurd (true≢false (sym over))
end_push w p j o f known K (Some c) e over =
    let a = K.apart c e in
    let low : c.1 ≤ length p = a.0 in
    record {
      cut = omega (arith, low, longer w p (SwitchEnd j) o f known K);
      apart = λ d s. absurd (none_is d s);
      seen = λ t r out m i s. elim (has_split p m (next_of p (SwitchEnd j)) i) [
        | inl x ↦ (let ran = was_running w p (SwitchEnd j) o f known K t r refl in inl (past_start p o c.1 a.1 t (untied w p c.1 t over (running_has w p o known t ran)) m x (starts_own t m.entry s)))
        | inr x ↦ absurd (true≢false (sym (subst (λ (z : Noted). starts t z.entry ≡ true) x s)))
      ];
      ended = λ t m i ends k. absurd (true≢false (sym k));
      before = before_more w p (SwitchEnd j) o f known K;
    }
  where
    next_of : List Noted → Entry → Noted
    next_of q a = next q a

pub kept_push : (w : Workload) (p : List Noted) (e : Entry) → Ordered p → Fact w p e → ((t : Txn) → has_begun p t ≡ true → has_txn (txns w) t ≡ true) → Kept p (in_force w p) →
    Kept (add p e) (turn w p (in_force w p) (length p + 1) e)
kept_push w p (SwitchOn j to Generic) o f known K =
    calm w p (SwitchOn j to Generic) o f known K (off_list w p Generic to) (λ t r out. quiet w p (SwitchOn j to Generic) o f known K f.0 t r) (turn w p (in_force w p) (length p + 1) (SwitchOn j to Generic)) refl refl
    (apart_more w p (SwitchOn j to Generic) o f known K)
kept_push w p (SwitchOn j to Convert) o f known K = record {
  cut = omega (arith, longer w p (SwitchOn j to Convert) o f known K);
  apart = apart_more w p (SwitchOn j to Convert) o f known K;
  seen = λ t r out m i s. elim (has_split p m (next p (SwitchOn j to Convert)) i) [
    | inl x ↦ inr (survives w p o known Convert to t (was_running w p (SwitchOn j to Convert) o f known K t r refl) out)
    | inr x ↦ absurd (true≢false (sym (subst (λ (z : Noted). starts t z.entry ≡ true) x s)))
  ];
  ended = λ t m i ends k. elim (has_split p m (next p (SwitchOn j to Convert)) i) [
    | inl x ↦ absurd (true≢false (sym (has_any (λ z. is_end_of t z.entry) p m x ends) ∙ runs_on p t (survivor_runs w p Convert to t k).0))
    | inr x ↦ absurd (true≢false (sym (subst (λ (z : Noted). is_end_of t z.entry ≡ true) x ends)))
  ];
  before = before_more w p (SwitchOn j to Convert) o f known K;
}
kept_push w p (SwitchOn j to Suffix) o f known K =
    calm w p (SwitchOn j to Suffix) o f known K [] (λ t r out. quiet w p (SwitchOn j to Suffix) o f known K f.0 t r) (turn w p (in_force w p) (length p + 1) (SwitchOn j to Suffix)) refl refl apart
  where
    apart : Apart (add p (SwitchOn j to Suffix)) (Some (to, length p + 1))
    apart c s =
        let q : length p + 1 ≡ c.1 = ap (λ (d : Kind × ℕ). d.1) (some_is (to, length p + 1) c s) in (
          omega (arith, q, length-append p (next p (SwitchOn j to Suffix) ∷ [])),
          λ t m i b same. elim (has_split p m (next p (SwitchOn j to Suffix)) i) [
            | inl x ↦ (let l = bounded p o m x in absurd (omega (arith, l, same, q)))
            | inr x ↦ absurd (true≢false (sym (subst (λ (z : Noted). is_begin_of t z.entry ≡ true) x b)))
          ],
        )
kept_push w p (SwitchEnd j) o f known K = end_push w p j o f known K (in_force w p).next refl f
kept_push w p other o f known K = calm w p other o f known K (in_force w p).off (λ t r out. out) (in_force w p) refl refl (apart_more w p other o f known K)

pub legal_kept : (w : Workload) (h : List Entry) → Legal w h → Kept (noted h) (in_force w (noted h))
legal_kept w = by_last (λ h. Legal w h → Kept (noted h) (in_force w (noted h))) (λ l. none) more
  where
    none : Kept [] (in_force w [])
    none = record { cut = omega arith; apart = λ c s. absurd (none_is c s); seen = λ t r out n i s. absurd i; ended = λ t n i. absurd i; before = λ t m b i. absurd i }

    more : (h : List Entry) (e : Entry) → (Legal w h → Kept (noted h) (in_force w (noted h))) → Legal w (h ++ e ∷ []) → Kept (noted (h ++ e ∷ [])) (in_force w (noted (h ++ e ∷ [])))
    more h e rest l =
        let q = (legal_push w h e).0 l in
        subst (λ p. Kept p (in_force w p)) (sym (noted_push h e)) (subst (Kept (add (noted h) e)) (sym (in_force_push w (noted h) e))
        (kept_push w (noted h) e (legal_ordered w h q.0) (fact w (noted h) e q.1) (legal_stands_known w h q.0) (rest q.0)))
      where
        legal_stands_known : (w : Workload) (h : List Entry) → Legal w h → (t : Txn) → has_begun (noted h) t ≡ true → has_txn (txns w) t ≡ true
        legal_stands_known w h l = (legal_stands w h l).known
