-- The edges after one last entry, and cycles.
use Rattle.std.proofs.Common.{◌≡◌, ◌↔◌, ℕ, ◌<◌, ◌⊎◌, inl, inr, ⊎_elim, Bool, true, false, not, ◌&&◌, ◌||◌, ◌==◌, List, [], ◌∷◌, ◌++◌, length, get_or, arith, sym, ◌∙◌, ap, subst, refl}
use Rattle.std.specs.List.{list_any, Contains, All}
use Rattle.std.proofs.lemmas.Bool.{true≢false, cases_Bool, and_parts, and_from, or_left}
use Rattle.std.proofs.lemmas.Grind.{common_steps}
use Rattle.std.proofs.lemmas.List.Elements.{All-contains, Contains-append_left, Contains-push, Contains-push_cases}
use Rattle.std.proofs.lemmas.List.Folds.{list_any-append}
use Rattle.raid_base.specs.declared.names.Txn.{Txn}
use Rattle.raid_base.specs.declared.names.Item.{Item}
use Rattle.raid_base.specs.declared.entry.Entry.{Entry}
use Rattle.raid_base.specs.declared.entry.Entry.TheVariants.{Begin, Read, Wait, Commit, Abort, Ack, SwitchOn, SwitchEnd, Down, Up, Clear}
use Rattle.raid_base.specs.declared.entry.Noted.{Noted}
use Rattle.raid_base.specs.Names.{is_txn, holds, is_item}
use Rattle.raid_rules.specs.Entries.{reads_item, writes_item, is_abort_of, is_commit_of}
use Rattle.raid_rules.specs.History.{has_aborted, has_committed}
use Rattle.raid_rules.specs.Conflict.{Edge, Path, clash}
use Rattle.raid_rules.specs.Committed.{CommittedEdge}
use Rattle.raid_rules.specs.Last.{Star, NewEdge, acts_by}
use Rattle.raid_rules.proofs.Push.{same_txn}
use Rattle.raid_rules.proofs.Txns.{not_true}
use Rattle.raid_rules.proofs.Edges.{path_map}
use Rattle.raid_rules.proofs.Paths.{no_cycle, last_path}

-- two entries that clash: each is an action of its transaction
second_acts : (wa ra rb wb : Bool) → ((wa && (rb || wb)) || (ra && wb)) ≡ true → (rb || wb) ≡ true
second_acts wa ra true wb c = refl
second_acts wa ra false true c = refl
second_acts true true false false c = absurd (true≢false (sym c))
second_acts true false false false c = absurd (true≢false (sym c))
second_acts false true false false c = absurd (true≢false (sym c))
second_acts false false false false c = absurd (true≢false (sym c))

first_acts : (wa ra rb wb : Bool) → ((wa && (rb || wb)) || (ra && wb)) ≡ true → (ra || wa) ≡ true
first_acts true true rb wb c = refl
first_acts true false rb wb c = refl
first_acts false true rb wb c = refl
first_acts false false rb wb c = absurd (true≢false (sym c))

-- an entry is an action of one transaction only
act_is : (e : Entry) (t u : Txn) (x : Item) → acts_by t e ≡ true → (reads_item u x e || writes_item u x e) ≡ true → u ≡ t
act_is (Read v y s) t u x a r = sym (same_txn v u (and_parts (is_txn u v) (is_item x y) (left _ r)).0) ∙ same_txn v t (left _ a)
  where
    left : (b : Bool) → (b || false) ≡ true → b ≡ true
    left true e = refl
    left false e = e
act_is (Commit v request applied) t u x a r = sym (same_txn v u (and_parts (is_txn u v) (holds x request.writes) r).0) ∙ same_txn v t a
act_is other t u x a r = absurd (true≢false (sym a))

-- an action of a transaction is an entry of it
act_by : (e : Entry) (u : Txn) (x : Item) → (reads_item u x e || writes_item u x e) ≡ true → acts_by u e ≡ true
act_by (Read v y s) u x r = or_left _ _ (and_parts (is_txn u v) (is_item x y) (left _ r)).0
  where
    left : (b : Bool) → (b || false) ≡ true → b ≡ true
    left true e = refl
    left false e = e
act_by (Commit v request applied) u x r = (and_parts (is_txn u v) (holds x request.writes) r).0
act_by other u x r = absurd (true≢false (sym r))

-- a Commit is an action of its own transaction only
commit_is : (e : Entry) (t u : Txn) → is_commit_of u e ≡ true → acts_by t e ≡ true → u ≡ t
commit_is (Commit v request applied) t u c a = sym (same_txn v u c) ∙ same_txn v t a
commit_is other t u c a = absurd (true≢false (sym c))

-- it is no Abort
no_abort : (e : Entry) (t u : Txn) → acts_by t e ≡ true → is_abort_of u e ≡ false
no_abort (Read v y s) t u a = refl
no_abort (Commit v request applied) t u a = refl
no_abort other t u a = absurd (true≢false (sym a))

-- who is aborted before one more entry, and after
aborted_before : (view : List Noted) (n : Noted) (u : Txn) → has_aborted (view ++ n ∷ []) u ≡ false → has_aborted view u ≡ false
aborted_before view n u h = not_true _ (λ e. true≢false (sym (grind (arith, common_steps, e)) ∙ h))

aborted_after : (view : List Noted) (n : Noted) (u : Txn) → is_abort_of u n.entry ≡ false → has_aborted view u ≡ false → has_aborted (view ++ n ∷ []) u ≡ false
aborted_after view n u none h = grind (arith, common_steps, none, h)

module _ (view : List Noted) (n : Noted) where
  -- an edge of the view stays, unless the last entry is an Abort
  pub edge_stays : ((w : Txn) → is_abort_of w n.entry ≡ false) → (u v : Txn) → Edge view u v → Edge (view ++ n ∷ []) u v
  edge_stays none u v e = record {
    first = e.first;
    second = e.second;
    item = e.item;
    in_first = Contains-append_left view (n ∷ []) e.first e.in_first;
    in_second = Contains-append_left view (n ∷ []) e.second e.in_second;
    earlier = e.earlier;
    clashing = e.clashing;
    differ = e.differ;
    stays = aborted_after view n u (none u) e.stays;
    stays_too = aborted_after view n v (none v) e.stays_too;
  }

  -- an edge between entries of the view was there
  edge_was : (u v : Txn) (e : Edge (view ++ n ∷ []) u v) → Contains view e.first → Contains view e.second → Edge view u v
  edge_was u v e i j = record {
    first = e.first;
    second = e.second;
    item = e.item;
    in_first = i;
    in_second = j;
    earlier = e.earlier;
    clashing = e.clashing;
    differ = e.differ;
    stays = aborted_before view n u e.stays;
    stays_too = aborted_before view n v e.stays_too;
  }

  -- an entry that is no action adds no edge
  pub edge_none : ((w : Txn) → acts_by w n.entry ≡ false) → (u v : Txn) → Edge (view ++ n ∷ []) u v → Edge view u v
  edge_none idle u v e =
      edge_was u v e
      (inside u e.first e.in_first (act_by e.first.entry u e.item (first_acts (writes_item u e.item e.first.entry) (reads_item u e.item e.first.entry) (reads_item v e.item e.second.entry) (writes_item v e.item e.second.entry) e.clashing)))
      (inside v e.second e.in_second (act_by e.second.entry v e.item (second_acts (writes_item u e.item e.first.entry) (reads_item u e.item e.first.entry) (reads_item v e.item e.second.entry) (writes_item v e.item e.second.entry) e.clashing)))
    where
      inside : (w : Txn) (m : Noted) → Contains (view ++ n ∷ []) m → acts_by w m.entry ≡ true → Contains view m
      inside w m c a = ⊎_elim (λ (i : Contains view m). i) (λ (s : n ≡ m). absurd (true≢false (sym a ∙ ap (λ z. acts_by w z.entry) (sym s) ∙ idle w))) (Contains-push_cases view n m c)

  module _ (t : Txn) (acts : acts_by t n.entry ≡ true) (last : All (λ m. m.at < n.at) view) where
    below : (m : Noted) → Contains view m → m.at < n.at
    below m c = All-contains (λ m. m.at < n.at) view m last c

    -- an edge after the action was there before, or leads to t from whoever has a clashing action before
    pub edge_last : (u v : Txn) → Edge (view ++ n ∷ []) u v → Edge view u v ⊎ ((v ≡ t) × NewEdge view n t u)
    edge_last u v e =
        ⊎_elim
        (λ (i : Contains view e.first).
        ⊎_elim
        (λ (j : Contains view e.second). inl (edge_was u v e i j))
        (λ (s : n ≡ e.second).
        (let c : clash u v e.item e.first.entry n.entry ≡ true = subst (λ z. clash u v e.item e.first.entry z.entry ≡ true) (sym s) e.clashing in
        let is : v ≡ t = act_is n.entry t v e.item acts (second_acts (writes_item u e.item e.first.entry) (reads_item u e.item e.first.entry) (reads_item v e.item n.entry) (writes_item v e.item n.entry) c) in
        inr (
          is,
          record {
            first = e.first;
            item = e.item;
            in_first = i;
            clashing = subst (λ z. clash u z e.item e.first.entry n.entry ≡ true) is c;
            differ = subst (λ z. is_txn u z ≡ false) is e.differ;
            stays = aborted_before view n u e.stays;
          },
        )))
        (Contains-push_cases view n e.second e.in_second))
        (λ (s : n ≡ e.first).
        ⊎_elim
        (λ (j : Contains view e.second).
        absurd (let l : e.second.at < n.at = below e.second j in let k : e.first.at < e.second.at = e.earlier in let q : n.at ≡ e.first.at = ap (λ z. z.at) s in omega arith))
        (λ (r : n ≡ e.second).
        absurd (let k : e.first.at < e.second.at = e.earlier in let q : n.at ≡ e.first.at = ap (λ z. z.at) s in let o : n.at ≡ e.second.at = ap (λ z. z.at) r in omega arith))
        (Contains-push_cases view n e.second e.in_second))
        (Contains-push_cases view n e.first e.in_first)

    -- and each such edge is there
    pub edge_new : has_aborted view t ≡ false → (u : Txn) → NewEdge view n t u → Edge (view ++ n ∷ []) u t
    edge_new goes_on u e = record {
      first = e.first;
      second = n;
      item = e.item;
      in_first = Contains-append_left view (n ∷ []) e.first e.in_first;
      in_second = Contains-push view n;
      earlier = below e.first e.in_first;
      clashing = e.clashing;
      differ = e.differ;
      stays = aborted_after view n u (no_abort n.entry t u acts) e.stays;
      stays_too = aborted_after view n t (no_abort n.entry t t acts) goes_on;
    }

    -- a path after the action was there before, or comes to t by such an edge
    pub path_last : (a b : Txn) → Path (Edge (view ++ n ∷ [])) a b → Path (Edge view) a b ⊎ ((u : Txn) × Star (Edge view) a u × NewEdge view n t u × Star (Edge view) t b)
    path_last a b p = last_path (Edge view) (Edge (view ++ n ∷ [])) (NewEdge view n t) t edge_last p

    -- a new cycle passes through t
    pub cycle_last : ((a : Txn) → Path (Edge view) a a → ⊥) → (Path (Edge (view ++ n ∷ [])) t t → ⊥) → (a : Txn) → Path (Edge (view ++ n ∷ [])) a a → ⊥
    cycle_last h k a p =
        no_cycle (Edge view) (Edge (view ++ n ∷ [])) t
        (λ u v e. ⊎_elim (λ (o : Edge view u v). inl o) (λ (w : (v ≡ t) × NewEdge view n t u). inr (inr w.0)) (edge_last u v e)) h k a p

    -- whoever is committed after the action was so before, or is t
    committed_last : (u : Txn) → has_committed (view ++ n ∷ []) u ≡ true → (has_committed view u ≡ true) ⊎ (u ≡ t)
    committed_last u h = elim (cases_Bool (has_committed view u)) [
      | inl q ↦ inl q
      | inr q ↦ inr (commit_is n.entry t u (grind (arith, common_steps, h, q)) acts)
    ]

    -- a new cycle of committed transactions passes through t
    pub committed_cycle_last : ((a : Txn) → Path (CommittedEdge view) a a → ⊥) → (Path (Edge (view ++ n ∷ [])) t t → ⊥) → (a : Txn) → Path (CommittedEdge (view ++ n ∷ [])) a a → ⊥
    committed_cycle_last h k a p =
        no_cycle (CommittedEdge view) (CommittedEdge (view ++ n ∷ [])) t split h (λ q. k (path_map (λ u v e. e.0) q)) a p
      where
        split : (u v : Txn) → CommittedEdge (view ++ n ∷ []) u v → CommittedEdge view u v ⊎ ((u ≡ t) ⊎ (v ≡ t))
        split u v e = go (edge_last u v e.0) (committed_last u e.1) (committed_last v e.2)
          where
            go : Edge view u v ⊎ ((v ≡ t) × NewEdge view n t u) → (has_committed view u ≡ true) ⊎ (u ≡ t) → (has_committed view v ≡ true) ⊎ (v ≡ t) → CommittedEdge view u v ⊎ ((u ≡ t) ⊎ (v ≡ t))
            go (inr w) c d = inr (inr w.0)
            go (inl o) (inr c) d = inr (inl c)
            go (inl o) (inl c) (inr d) = inr (inr d)
            go (inl o) (inl c) (inl d) = inl (o, c, d)

-- the edges after a last action are the old ones and the new ones
pub edge_last_iff : (view : List Noted) (n : Noted) (t : Txn) → acts_by t n.entry ≡ true → All (λ m. m.at < n.at) view → has_aborted view t ≡ false → (u v : Txn) → Edge (view ++ n ∷ []) u v ↔ (Edge view u v ⊎ ((v ≡ t) × NewEdge view n t u))
edge_last_iff view n t acts last goes_on u v = (
  edge_last view n t acts last u v,
  λ e. ⊎_elim
      (λ (o : Edge view u v). edge_stays view n (λ w. no_abort n.entry t w acts) u v o)
      (λ (w : (v ≡ t) × NewEdge view n t u). subst (λ z. Edge (view ++ n ∷ []) u z) (sym w.0) (edge_new view n t acts last goes_on u w.1)) e,
)
