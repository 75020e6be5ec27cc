-- From each member to the first that has one edge less to go.
use Rattle.std.proofs.Common.{◌≡◌, ℕ, suc, ◌+◌, ◌<◌, ◌≤◌, inl, inr, true, false, ◌&&◌, ◌==◌, cond, List, [], ◌∷◌, length, arith, sym, ◌∙◌, ap, subst, refl, All}
use Rattle.std.specs.Prelude.{Contains, slice_index, nat_lt, position, Some, None}
use Rattle.std.specs.List.{position_or_len}
use Rattle.std.proofs.lemmas.Bool.{and_parts, and_from, and_left, and_right, or_from, le-ltb, lt-ltb, eqb-true, eq-eqb, true≢false, ne_eqb, cases_eq, cases_lt}
use Rattle.std.proofs.lemmas.List.Elements.{All-nil, All-cons, All-head, All-tail, Contains-get_or}
use Rattle.std.proofs.lemmas.List.Quantifiers.{position-Some}
use Rattle.std.proofs.lemmas.List.Sums.{fails_before_first}
use Rattle.std.proofs.lemmas.Option.{none-some}
use Rattle.raid_base.specs.declared.names.Txn.{Txn}
use Rattle.raid_base.specs.Names.{is_txn}
use Rattle.raid_cycles.specs.Cycles.{Edges, IsAscending, leads_along, is_smaller, comes_before, IsCycle, IsLeastCycle}
use Rattle.raid_cycles.specs.Marks.{member_at, HasWay, AreMarked, AreSettled}
use Rattle.raid_cycles.proofs.Marking.{place_of, longer, first_edge}

-- a way to the start, of so many edges, that is the least of these
pub record IsLeastWay (members : List Txn) (leads : Edges) (start from : Txn) (edges : ℕ) (through : List Txn) : Type 0 where
  pub long : length through + 1 ≡ edges
  pub among : All (Contains members) through
  pub along : leads_along leads from through start ≡ true
  pub least : (other : List Txn) → length other ≡ length through → All (Contains members) other → leads_along leads from other start ≡ true →
      is_smaller other through ≡ false

-- nothing is smaller than the same before what isn't smaller
not_smaller : (t u : Txn) (ts us : List Txn) → t ≡ u → is_smaller ts us ≡ false → is_smaller (t ∷ ts) (u ∷ us) ≡ false
not_smaller t u ts us same e =
    let a : nat_lt t.0 u.0 ≡ false = let n : t.0 ≡ u.0 = ap (λ z. z.0) same in le-ltb t.0 u.0 (omega (arith, n)) in
    or_from (nat_lt t.0 u.0) (t.0 == u.0 && is_smaller ts us) a (and_right (t.0 == u.0) (is_smaller ts us) e)

larger_first : (t u : Txn) (ts us : List Txn) → u.0 < t.0 → is_smaller (t ∷ ts) (u ∷ us) ≡ false
larger_first t u ts us above =
    or_from (nat_lt t.0 u.0) (t.0 == u.0 && is_smaller ts us) (le-ltb t.0 u.0 (omega (arith, above))) (and_left (t.0 == u.0) (is_smaller ts us) (ne_eqb t.0 u.0 (λ e. omega (arith, e, above))))

module _ (members : List Txn) (leads : Edges) (start : Txn) (most : ℕ) (marks : List ℕ) (m : AreMarked members leads start most marks) where
  -- one that is led to, and has a way of one edge less, has that mark
  one_less : (place k edges : ℕ) → place < length members → k < length members → slice_index marks place ≡ edges + 1 →
      leads (member_at members place) (member_at members k) ≡ true →
      HasWay members leads start (member_at members k) edges → slice_index marks k ≡ edges
  one_less place k edges below there here e w =
      let in_reach = m.within place below in
      let f = m.fewest k edges there (omega (arith, here, in_reach)) w in
      let a = f.1 in
      elim (cases_lt (slice_index marks k) edges) [
        | inl h ↦
            let g = m.fewest place (slice_index marks k + 1) below (omega (arith, h, here, in_reach)) (longer members leads start (member_at members place) k (slice_index marks k) there e (m.has_way k there f.0)) in
            let b = g.1 in absurd (omega (arith, b, h, here))
        | inr h ↦ omega (arith, a, h)
      ]

  -- there is one
  pub some_onward : (place edges : ℕ) → place < length members → 0 < edges → slice_index marks place ≡ edges + 1 →
      (k : ℕ) × (k < length members) × (slice_index marks k ≡ edges) × (leads (member_at members place) (member_at members k) ≡ true)
  some_onward place edges below some here = elim (first_edge members leads start (member_at members place) (edges + 1) (subst (λ n. HasWay members leads start (member_at members place) n) here (m.has_way place below (omega (arith, here))))) [
    | inl h ↦ let one = h.0 in absurd (omega (arith, one, some))
    | inr g ↦
        let l = g.long in
        let r : g.rest ≡ edges = omega (arith, l) in
        (g.place, g.below, one_less place g.place edges below g.below here g.leads_on (subst (λ n. HasWay members leads start (member_at members g.place) n) r g.way), g.leads_on)
  ]

  -- and the least way goes on by the first
  pub goes_first : IsAscending members → (place k edges : ℕ) (through : List Txn) → place < length members → k < length members →
      slice_index marks place ≡ edges + 1 → slice_index marks k ≡ edges →
      leads (member_at members place) (member_at members k) ≡ true →
      ((j : ℕ) → j < k → slice_index marks j ≡ edges → leads (member_at members place) (member_at members j) ≡ true → ⊥) →
      IsLeastWay members leads start (member_at members k) edges through → IsLeastWay members leads start (member_at members place) (edges + 1) (member_at members k ∷ through)
  goes_first ascending place k edges through below there here is e first way = record {
    long = let l = way.long in omega (arith, l);
    among = All-cons (Contains members) (member_at members k) through (Contains-get_or members k _ there) way.among;
    along = and_from _ _ e way.along;
    least = other;
  }
    where
      other : (ts : List Txn) → length ts ≡ length (member_at members k ∷ through) → All (Contains members) ts →
          leads_along leads (member_at members place) ts start ≡ true → is_smaller ts (member_at members k ∷ through) ≡ false
      other [] long among along = absurd (omega (arith, long))
      other (t ∷ ts) long among along =
          let c : Contains members t = All-head (Contains members) t ts among in
          let q = and_parts (leads (member_at members place) t) (leads_along leads t ts start) along in
          let same : member_at members c.0 ≡ t = place_of members t c in
          let on : leads (member_at members place) (member_at members c.0) ≡ true = subst (λ z. leads (member_at members place) z ≡ true) (sym same) q.0 in
          let tail = All-tail (Contains members) t ts among in
          let l = way.long in
          let w : HasWay members leads start (member_at members c.0) edges = subst (λ z. HasWay members leads start z edges) (sym same) (record { through = ts; long = omega (arith, long, l); among = tail; along = q.1 }) in
          let mark : slice_index marks c.0 ≡ edges = one_less place c.0 edges below c.1 here on w in
          elim (cases_lt c.0 k) [
            | inl h ↦ absurd (first c.0 h mark on)
            | inr h ↦
                elim (cases_eq c.0 k) [
                  | inl i ↦
                      let u : t ≡ member_at members k = sym same ∙ ap (member_at members) i in
                      not_smaller t (member_at members k) ts through u (way.least ts (omega (arith, long)) tail (subst (λ z. leads_along leads z ts start ≡ true) u q.1))
                  | inr i ↦
                      let above : (member_at members k).0 < (member_at members c.0).0 = ascending k c.0 _ (omega (arith, h, i)) c.1 in
                      larger_first t (member_at members k) ts through (subst (λ z. (member_at members k).0 < z.0) same above)
                ]
          ]

none_smaller : (ts : List Txn) → is_smaller ts [] ≡ false
none_smaller [] = refl
none_smaller (t ∷ ts) = refl

-- the way from the last one is the start's own edge
pub at_once : (members : List Txn) (leads : Edges) (start from : Txn) → HasWay members leads start from 1 → IsLeastWay members leads start from 1 []
at_once members leads start from w = go w.through w.long w.along
  where
    go : (through : List Txn) → length through + 1 ≡ 1 → leads_along leads from through start ≡ true → IsLeastWay members leads start from 1 []
    go [] long along = record { long = refl; among = All-nil (Contains members); along = along; least = λ other l a b. none_smaller other }
    go (t ∷ ts) long along = absurd (omega (arith, long))

-- the least way from the start closes the least cycle
pub closes_least : (members : List Txn) (leads : Edges) (place : ℕ) (marks : List ℕ) (tail : List Txn) → place < length members →
    AreSettled members leads (member_at members place) place marks →
    IsLeastWay members leads (member_at members place) (member_at members place) (slice_index marks place) tail → IsLeastCycle members leads (member_at members place) (member_at members place ∷ tail)
closes_least members leads place marks tail below settled way = record {
  cycles = record {
    rest = tail;
    begins = refl;
    among = All-cons (Contains members) (member_at members place) tail (Contains-get_or members place _ below) way.among;
    closed = way.along;
  };
  least = λ other c. subst (λ z. comes_before z (member_at members place ∷ tail) ≡ false) (sym c.begins) (least c.rest (All-tail (Contains members) (member_at members place) c.rest (subst (All (Contains members)) c.begins c.among)) c.closed);
}
  where
    least : (rest : List Txn) → All (Contains members) rest → leads_along leads (member_at members place) rest (member_at members place) ≡ true →
        comes_before (member_at members place ∷ rest) (member_at members place ∷ tail) ≡ false
    least rest among along =
        let m = settled.marked in
        let w : HasWay members leads (member_at members place) (member_at members place) (length rest + 1) = record { through = rest; long = refl; among = among; along = along } in
        let few : slice_index marks place ≤ length rest + 1 = elim (cases_lt settled.most (length rest + 1)) [
          | inl h ↦ let i = m.within place below in omega (arith, h, i)
          | inr h ↦ (m.fewest place (length rest + 1) below h w).1
        ] in
        let l = way.long in
        or_from (nat_lt (suc (length rest)) (suc (length tail))) _ (le-ltb (suc (length rest)) (suc (length tail)) (omega (arith, few, l)))
        (elim (cases_eq (length rest) (length tail)) [
          | inl e ↦ and_right (suc (length rest) == suc (length tail)) _ (not_smaller (member_at members place) (member_at members place) rest tail refl (way.least rest e among along))
          | inr e ↦ and_left (suc (length rest) == suc (length tail)) _ (ne_eqb (suc (length rest)) (suc (length tail)) (λ s. e (omega (arith, s))))
        ])

-- a cycle begins at a member, and is a way to it
pub begins_there : (members : List Txn) (leads : Edges) (start : Txn) (cycle : List Txn) → IsCycle members leads start cycle → Contains members start
begins_there members leads start cycle c = All-head (Contains members) start c.rest (subst (All (Contains members)) c.begins c.among)

pub cycle_way : (members : List Txn) (leads : Edges) (start : Txn) (cycle : List Txn) (c : IsCycle members leads start cycle) →
    HasWay members leads start start (length c.rest + 1)
cycle_way members leads start cycle c = record { through = c.rest; long = refl; among = All-tail (Contains members) start c.rest (subst (All (Contains members)) c.begins c.among); along = c.closed }

-- the place that is found, or none
pub found_there : (members : List Txn) (t : Txn) (k : ℕ) → position (is_txn t) members ≡ Some k → (k < length members) × (member_at members k ≡ t)
found_there members t k e =
    let p = position-Some (is_txn t) members k _ e in
    (p.0, ap (λ n. let z : Txn = record { 0 = n } in z) (eqb-true (member_at members k).0 t.0 p.1))

pub found_nowhere : (members : List Txn) (t : Txn) → position (is_txn t) members ≡ None → Contains members t → ⊥
found_nowhere members t e c = elim (cases_lt (position_or_len (is_txn t) members) (length members)) [
  | inl h ↦ none-some (position_or_len (is_txn t) members) (sym e ∙ ap (λ b. cond b (Some (position_or_len (is_txn t) members)) None) (lt-ltb (position_or_len (is_txn t) members) (length members) h))
  | inr h ↦
      let b = c.1 in
      true≢false (sym (eq-eqb (member_at members c.0).0 t.0 (ap (λ z. z.0) (place_of members t c))) ∙ fails_before_first (is_txn t) members c.0 _ (omega (arith, b, h)))
]
