-- Marks and ways to the start.
use Rattle.std.proofs.Common.{◌≡◌, ℕ, ◌+◌, ◌<◌, ◌≤◌, ◌⊎◌, inl, inr, Bool, true, false, ◌&&◌, ◌==◌, cond, List, [], ◌∷◌, map, length, get_or, set, arith, sym, ◌∙◌, ap, subst, refl, All}
use Rattle.std.specs.Prelude.{Contains, count_by, slice_index}
use Rattle.std.specs.List.{sum_by}
use Rattle.std.proofs.lemmas.Bool.{true≢false, and_parts, and_from, cases_Bool, eqb-true, cases_eq, cases_lt, cond-true, cond-false, and_left, ne_eqb, eq-eqb}
use Rattle.std.proofs.lemmas.List.{get_or-set_same, get_or-set_other, length-set, get_or-map, get_or_default, length-map}
use Rattle.std.proofs.lemmas.List.Elements.{All-nil, All-cons, All-head, All-tail, Contains-get_or}
use Rattle.std.proofs.lemmas.List.Sums.{sum_by-set}
use Rattle.raid_base.specs.declared.names.Txn.{Txn}
use Rattle.raid_cycles.specs.Cycles.{Edges, leads_along}
use Rattle.raid_cycles.specs.Marks.{member_at, HasWay, AreMarked, AreSettled}

-- a way of more than one edge goes on from a member
pub record GoesOn (members : List Txn) (leads : Edges) (start from : Txn) (edges : ℕ) : Type 0 where
  pub place : ℕ
  pub below : place < length members
  pub leads_on : leads from (member_at members place) ≡ true
  pub rest : ℕ
  pub long : edges ≡ rest + 1
  pub way : HasWay members leads start (member_at members place) rest

-- a member's place
pub place_of : (members : List Txn) (t : Txn) (c : Contains members t) → member_at members c.0 ≡ t
place_of members t c = get_or_default members c.0 _ t c.1 ∙ c.2

module _ (members : List Txn) (leads : Edges) (start : Txn) where
  -- a way through one more
  pub longer : (from : Txn) (k edges : ℕ) → k < length members → leads from (member_at members k) ≡ true →
      HasWay members leads start (member_at members k) edges → HasWay members leads start from (edges + 1)
  longer from k edges below e w = record {
    through = member_at members k ∷ w.through;
    long = let l = w.long in omega (arith, l);
    among = All-cons (Contains members) (member_at members k) w.through (Contains-get_or members k _ below) w.among;
    along = and_from _ _ e w.along;
  }

  -- the first edge of a way
  pub first_edge : (from : Txn) (edges : ℕ) → HasWay members leads start from edges →
      ((edges ≡ 1) × (leads from start ≡ true)) ⊎ GoesOn members leads start from edges
  first_edge from edges w = go w.through w.long w.among w.along
    where
      go : (through : List Txn) → length through + 1 ≡ edges → All (Contains members) through → leads_along leads from through start ≡ true →
          ((edges ≡ 1) × (leads from start ≡ true)) ⊎ GoesOn members leads start from edges
      go [] long among along = inl (omega (arith, long), along)
      go (next ∷ rest) long among along =
          let c : Contains members next = All-head (Contains members) next rest among in
          let q = and_parts (leads from next) (leads_along leads next rest start) along in
          let same : next ≡ member_at members c.0 = sym (place_of members next c) in
          inr (record {
            place = c.0;
            below = c.1;
            leads_on = subst (λ z. leads from z ≡ true) same q.0;
            rest = length rest + 1;
            long = omega (arith, long);
            way = subst (λ z. HasWay members leads start z (length rest + 1)) same (record { through = rest; long = refl; among = All-tail (Contains members) next rest among; along = q.1 });
          })

  -- the marks of those that lead to the start at once
  pub first_marked : (marks : List ℕ) → marks ≡ map (λ t. cond (leads t start) 1 0) members → AreMarked members leads start 1 marks
  first_marked marks e = record {
    long = ap length e ∙ length-map members (λ t. cond (leads t start) 1 0);
    has_way = λ k below marked. elim (cases_Bool (leads (member_at members k) start)) [
      | inl h ↦
          subst (λ n. HasWay members leads start (member_at members k) n) (sym (at k below ∙ ap (λ b. cond b 1 0) h))
          (record { through = []; long = refl; among = All-nil (Contains members); along = h })
      | inr h ↦ let z : slice_index marks k ≡ 0 = at k below ∙ ap (λ b. cond b 1 0) h in absurd (omega (arith, z, marked))
    ];
    fewest = λ k edges below few w. elim (first_edge (member_at members k) edges w) [
      | inl h ↦ let one : slice_index marks k ≡ 1 = at k below ∙ ap (λ b. cond b 1 0) h.1 in let i = h.0 in (omega (arith, one), omega (arith, one, i))
      | inr g ↦ let l = g.way.long in let m = g.long in absurd (omega (arith, l, m, few))
    ];
    within = λ k below. elim (cases_Bool (leads (member_at members k) start)) [
      | inl h ↦ let one : slice_index marks k ≡ 1 = at k below ∙ ap (λ b. cond b 1 0) h in omega (arith, one)
      | inr h ↦ let z : slice_index marks k ≡ 0 = at k below ∙ ap (λ b. cond b 1 0) h in omega (arith, z)
    ];
  }
    where
      at : (k : ℕ) → k < length members → slice_index marks k ≡ cond (leads (member_at members k) start) 1 0
      at k below = ap (λ z. get_or z k 0) e ∙ get_or-map (λ t. cond (leads t start) 1 0) members k _ 0 below

  -- while more are marked: those that lead to one of the first places that has the last mark have one too
  pub record Marks (most next places : ℕ) (marks : List ℕ) : Type 0 where
    pub long : length marks ≡ length members
    pub has_way : (k : ℕ) → k < length members → 0 < slice_index marks k → HasWay members leads start (member_at members k) (slice_index marks k)
    pub fewest : (k edges : ℕ) → k < length members → edges ≤ most → HasWay members leads start (member_at members k) edges →
        (0 < slice_index marks k) × (slice_index marks k ≤ edges)
    pub within : (k : ℕ) → k < length members → slice_index marks k ≤ next
    pub sources : (j k : ℕ) → j < places → j < length members → k < length members → slice_index marks j ≡ most →
        leads (member_at members k) (member_at members j) ≡ true → 0 < slice_index marks k

  -- a place with another mark
  pub passes : (most next places : ℕ) (marks : List ℕ) → (slice_index marks places ≡ most → ⊥) → Marks most next places marks →
      Marks most next (places + 1) marks
  passes most next places marks other m = record {
    long = m.long;
    has_way = m.has_way;
    fewest = m.fewest;
    within = m.within;
    sources = λ j k before there below is e. elim (cases_eq j places) [
      | inl h ↦ absurd (other (ap (slice_index marks) (sym h) ∙ is))
      | inr h ↦ m.sources j k (omega (arith, before, h)) there below is e
    ];
  }

  -- a place with the last mark, whose sources are marked
  module _ (most next places : ℕ) (marks more : List ℕ) (some : 0 < most) (up : next ≡ most + 1) (here : places < length members) (is_last : slice_index marks places ≡ most) (m : Marks most next places marks)
      (as_long : length more ≡ length marks)
      (each : (k : ℕ) → k < length members → slice_index more k ≡ cond (slice_index marks k == 0 && leads (member_at members k) (member_at members places)) next (slice_index marks k))
    where
      kept : (k : ℕ) → k < length members → 0 < slice_index marks k → slice_index more k ≡ slice_index marks k
      kept k below marked =
          each k below ∙ cond-false _ next (slice_index marks k) (and_left (slice_index marks k == 0) _ (ne_eqb (slice_index marks k) 0 (λ z. omega (arith, z, marked))))

      changed : (k : ℕ) → k < length members →
          (slice_index more k ≡ slice_index marks k) ⊎ ((slice_index more k ≡ next) × (slice_index marks k ≡ 0) × (leads (member_at members k) (member_at members places) ≡ true))
      changed k below = elim (cases_Bool (slice_index marks k == 0 && leads (member_at members k) (member_at members places))) [
        | inl h ↦ let q = and_parts (slice_index marks k == 0) (leads (member_at members k) (member_at members places)) h in inr (each k below ∙ cond-true _ next (slice_index marks k) h, eqb-true (slice_index marks k) 0 q.0, q.1)
        | inr h ↦ inl (each k below ∙ cond-false _ next (slice_index marks k) h)
      ]

      pub adds : Marks most next (places + 1) more
      adds = record {
        long = as_long ∙ m.long;
        has_way = λ k below marked. elim (changed k below) [
          | inl h ↦ subst (λ n. HasWay members leads start (member_at members k) n) (sym h) (m.has_way k below (omega (arith, h, marked)))
          | inr h ↦
              let w : HasWay members leads start (member_at members places) most = subst (λ n. HasWay members leads start (member_at members places) n) is_last (m.has_way places here (omega (arith, is_last, some))) in
              subst (λ n. HasWay members leads start (member_at members k) n) (sym up ∙ sym h.0) (longer (member_at members k) places most here h.2 w)
        ];
        fewest = λ k edges below few w.
            let f = m.fewest k edges below few w in
            let same : slice_index more k ≡ slice_index marks k = kept k below f.0 in
            (subst (λ n. 0 < n) (sym same) f.0, subst (λ n. n ≤ edges) (sym same) f.1);
        within = λ k below. elim (changed k below) [
          | inl h ↦ subst (λ n. n ≤ next) (sym h) (m.within k below)
          | inr h ↦ let i = h.0 in omega (arith, i)
        ];
        sources = λ j k before there below is e. elim (cases_lt 0 (slice_index marks k)) [
          | inl h ↦ subst (λ n. 0 < n) (sym (kept k below h)) h
          | inr h ↦
              elim (cases_eq j places) [
                | inl i ↦
                    let z : slice_index marks k ≡ 0 = omega (arith, h) in
                    let n : slice_index more k ≡ next = each k below ∙ cond-true _ next (slice_index marks k) (and_from _ _ (eq-eqb (slice_index marks k) 0 z) (subst (λ x. leads (member_at members k) (member_at members x) ≡ true) i e)) in
                    omega (arith, n, up)
                | inr i ↦ absurd (elim (changed j there) [
                  | inl s ↦ let g = m.sources j k (omega (arith, before, i)) there below (sym s ∙ is) e in omega (arith, g, h)
                  | inr s ↦ let t = s.0 in omega (arith, t, is, up)
                ])
              ]
        ];
      }

  -- all places looked at
  pub ends : (most next places : ℕ) (marks : List ℕ) → 0 < most → next ≡ most + 1 → length members ≤ places → Marks most next places marks →
      AreMarked members leads start next marks
  ends most next places marks some up all m = record {
    long = m.long;
    has_way = m.has_way;
    fewest = λ k edges below few w. elim (cases_lt most edges) [
      | inr h ↦ m.fewest k edges below h w
      | inl h ↦
          elim (first_edge (member_at members k) edges w) [
            | inl i ↦ let one = i.0 in absurd (omega (arith, one, some, h))
            | inr g ↦
                let e = g.long in
                let r : g.rest ≡ most = omega (arith, e, h, few, up) in
                let f = m.fewest g.place g.rest g.below (omega (arith, r)) g.way in
                elim (cases_eq (slice_index marks g.place) most) [
                  | inl last ↦
                      let w = m.within k below in
                      (m.sources g.place k (let b = g.below in omega (arith, b, all)) g.below below last g.leads_on, omega (arith, w, h, up))
                  | inr other ↦
                      let a = f.1 in
                      let l : slice_index marks g.place + 1 ≤ most = omega (arith, a, r, other) in
                      let n = m.fewest k (slice_index marks g.place + 1) below l (longer (member_at members k) g.place (slice_index marks g.place) g.below g.leads_on (m.has_way g.place g.below f.0)) in
                      let c = n.1 in
                      (n.0, omega (arith, c, l, h))
                ]
          ]
    ];
    within = m.within;
  }

  -- where the next round marks no more, all that lead to the start are marked
  pub all_marked : (most : ℕ) (marks : List ℕ) → AreMarked members leads start most marks → AreMarked members leads start (most + 1) marks →
      (through : List Txn) (k : ℕ) → k < length members → All (Contains members) through →
      leads_along leads (member_at members k) through start ≡ true → 0 < slice_index marks k
  all_marked most marks m n [] k below among along = (n.fewest k 1 below (omega arith) (record { through = []; long = refl; among = among; along = along })).0
  all_marked most marks m n (next ∷ rest) k below among along =
      let c : Contains members next = All-head (Contains members) next rest among in
      let q = and_parts (leads (member_at members k) next) (leads_along leads next rest start) along in
      let same : next ≡ member_at members c.0 = sym (place_of members next c) in
      let r : 0 < slice_index marks c.0 = all_marked most marks m n rest c.0 c.1 (All-tail (Contains members) next rest among) (subst (λ z. leads_along leads z rest start ≡ true) same q.1) in
      let w = m.within c.0 c.1 in
      (n.fewest k (slice_index marks c.0 + 1) below (omega (arith, w)) (longer (member_at members k) c.0 (slice_index marks c.0) c.1 (subst (λ z. leads (member_at members k) z ≡ true) same q.0) (m.has_way c.0 c.1 r))).0

-- how a look stands that has passed the first members: those without a mark that pass the test have the mark
pub record Scan (test : ℕ → Bool) (mark : ℕ) (before : List ℕ) (places : ℕ) (marks : List ℕ) (found : Bool) : Type 0 where
  pub long : length marks ≡ length before
  pub done : (k : ℕ) → k < places → slice_index marks k ≡ cond (slice_index before k == 0 && test k) mark (slice_index before k)
  pub left : (k : ℕ) → places ≤ k → slice_index marks k ≡ slice_index before k
  pub none : found ≡ false → marks ≡ before
  pub fewer : count_by (λ m. m == 0) marks + cond found 1 0 ≤ count_by (λ m. m == 0) before

pub scan_same : (test : ℕ → Bool) (mark : ℕ) (before : List ℕ) (places : ℕ) (marks ms : List ℕ) (found f : Bool) → ms ≡ marks → f ≡ found →
    Scan test mark before places marks found → Scan test mark before places ms f
scan_same test mark before places marks ms found f e i r = subst (λ z. Scan test mark before places z f) (sym e) (subst (λ z. Scan test mark before places marks z) (sym i) r)

module _ (test : ℕ → Bool) (mark : ℕ) (before : List ℕ) (places : ℕ) (marks : List ℕ) (found : Bool) (s : Scan test mark before places marks found) where
  pub scan_leaves : (slice_index marks places == 0 && test places) ≡ false → Scan test mark before (places + 1) marks found
  scan_leaves e = record {
    long = s.long;
    done = λ k less. elim (cases_eq k places) [
      | inl h ↦
          let here : slice_index marks k ≡ slice_index before k = s.left k (omega (arith, h)) in
          here ∙ sym (cond-false (slice_index before k == 0 && test k) mark (slice_index before k) (ap (λ n. n == 0 && test k) (sym here) ∙ ap (λ j. slice_index marks j == 0 && test j) h ∙ e))
      | inr h ↦ s.done k (omega (arith, less, h))
    ];
    left = λ k more. s.left k (omega (arith, more));
    none = s.none;
    fewer = s.fewer;
  }

  pub scan_marks : places < length before → 0 < mark → slice_index marks places ≡ 0 → test places ≡ true → Scan test mark before (places + 1) (set marks places mark) true
  scan_marks below some bare passed = record {
    long = length-set marks places mark ∙ s.long;
    done = λ k less. elim (cases_eq k places) [
      | inl h ↦
          let here : slice_index before k ≡ 0 = sym (s.left k (omega (arith, h))) ∙ ap (slice_index marks) h ∙ bare in
          ap (slice_index (set marks places mark)) h ∙ get_or-set_same marks places mark 0 there
          ∙ sym (cond-true (slice_index before k == 0 && test k) mark (slice_index before k) (and_from _ _ (eq-eqb (slice_index before k) 0 here) (ap test h ∙ passed)))
      | inr h ↦ get_or-set_other marks places k mark 0 h ∙ s.done k (omega (arith, less, h))
    ];
    left = λ k more. get_or-set_other marks places k mark 0 (λ e. omega (arith, e, more)) ∙ s.left k (omega (arith, more));
    none = λ e. absurd (true≢false e);
    fewer =
        let f : ℕ → ℕ = λ m. cond (m == 0) 1 0 in
        let sums : sum_by f (set marks places mark) + f (slice_index marks places) ≡ sum_by f marks + f mark = sum_by-set f marks places mark 0 there in
        let one : f (slice_index marks places) ≡ f 0 = ap f bare in
        let zero_ : f mark ≡ f 1 = cond-false (mark == 0) 1 0 (ne_eqb mark 0 (λ e. omega (arith, e, some))) in
        let fewer = s.fewer in
        omega (arith, sums, one, zero_, fewer);
  }
    where
      there : places < length marks
      there = let l = s.long in omega (arith, below, l)

-- how a round stands that has looked at the first places
pub record Round (members : List Txn) (leads : Edges) (most next : ℕ) (before : List ℕ) (places : ℕ) (marks : List ℕ) (found : Bool) : Type 0 where
  pub long : length marks ≡ length members
  pub marked : (start : Txn) → AreMarked members leads start most before → Marks members leads start most next places marks
  pub none : found ≡ false → marks ≡ before
  pub fewer : count_by (λ m. m == 0) marks + cond found 1 0 ≤ count_by (λ m. m == 0) before

pub round_same : (members : List Txn) (leads : Edges) (most next : ℕ) (before : List ℕ) (places : ℕ) (marks ms : List ℕ) (found f : Bool) →
    ms ≡ marks → f ≡ found →
    Round members leads most next before places marks found → Round members leads most next before places ms f
round_same members leads most next before places marks ms found f e i r =
    subst (λ z. Round members leads most next before places z f) (sym e) (subst (λ z. Round members leads most next before places marks z) (sym i) r)

pub round_passes : (members : List Txn) (leads : Edges) (most next : ℕ) (before : List ℕ) (places : ℕ) (marks : List ℕ) (found : Bool) →
    Round members leads most next before places marks found →
    (slice_index marks places ≡ most → ⊥) → Round members leads most next before (places + 1) marks found
round_passes members leads most next before places marks found r other = record {
  long = r.long;
  marked = λ start m. passes members leads start most next places marks other (r.marked start m);
  none = r.none;
  fewer = r.fewer;
}

pub round_adds : (members : List Txn) (leads : Edges) (most next : ℕ) (before : List ℕ) (places : ℕ) (marks : List ℕ) (found : Bool) (more : List ℕ) (any : Bool) → Round members leads most next before places marks found →
    0 < most → next ≡ most + 1 → places < length members → slice_index marks places ≡ most → length more ≡ length marks →
    ((k : ℕ) → k < length members → slice_index more k ≡ cond (slice_index marks k == 0 && leads (member_at members k) (member_at members places)) next (slice_index marks k)) →
    (any ≡ false → more ≡ marks) → count_by (λ m. m == 0) more + cond any 1 0 ≤ count_by (λ m. m == 0) marks → Round members leads most next before (places + 1) more (cond any true found)
round_adds members leads most next before places marks found more any r some up here last long each none fewer = record {
  long = long ∙ r.long;
  marked = λ start m. adds members leads start most next places marks more some up here last (r.marked start m) long each;
  none = same any none;
  fewer = let f = r.fewer in less any fewer f;
}
  where
    same : (b : Bool) → (b ≡ false → more ≡ marks) → cond b true found ≡ false → more ≡ before
    same true s e = absurd (true≢false e)
    same false s e = s refl ∙ r.none e

    less : (b : Bool) → count_by (λ m. m == 0) more + cond b 1 0 ≤ count_by (λ m. m == 0) marks →
        count_by (λ m. m == 0) marks + cond found 1 0 ≤ count_by (λ m. m == 0) before →
        count_by (λ m. m == 0) more + cond (cond b true found) 1 0 ≤ count_by (λ m. m == 0) before
    less true e f = omega (arith, e, f)
    less false e f = omega (arith, e, f)

-- a search that marks no more is settled
pub settled_none : (members : List Txn) (leads : Edges) (place most : ℕ) (marks more : List ℕ) → place < length members →
    AreMarked members leads (member_at members place) most marks →
    AreMarked members leads (member_at members place) (most + 1) more → more ≡ marks → AreSettled members leads (member_at members place) place more
settled_none members leads place most marks more below m n same = record {
  most = most + 1;
  marked = n;
  whole = λ edges w. all_marked members leads (member_at members place) most more (subst (λ z. AreMarked members leads (member_at members place) most z) (sym same) m) n w.through place below w.among w.along;
}
