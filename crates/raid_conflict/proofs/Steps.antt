-- The steps of a search are the edges of the list.
use Rattle.std.proofs.Common.{◌≡◌, ◌↔◌, ℕ, zero, suc, ◌<◌, nat_lt, Bool, true, false, not, ◌&&◌, ◌||◌, if◌then◌else◌, List, [], ◌∷◌, length, arith, sym, ◌∙◌, ap, subst, refl}
use Rattle.std.specs.List.{list_any, filter, AllPairs}
use Rattle.std.proofs.lemmas.Bool.{true≢false, and_parts, and_from}
use Rattle.std.proofs.lemmas.Grind.{common_steps}
use Rattle.raid_base.specs.declared.names.Txn.{Txn}
use Rattle.raid_base.specs.declared.entry.Noted.{Noted}
use Rattle.raid_base.specs.Names.{is_txn, is_item}
use Rattle.raid_rules.specs.declared.conflict.Action.{Action}
use Rattle.raid_rules.specs.History.{has_aborted}
use Rattle.raid_rules.specs.Conflict.{Path, actions, edges, precedes, leads}
use Rattle.raid_rules.proofs.Push.{same_txn}
use Rattle.raid_rules.proofs.Reach.{IsPair, any_mono, leads_path, path_leads}
use Rattle.raid_rules.proofs.Edges.{path_map}
use Rattle.raid_conflict.specs.declared.chains.Chain.{Chain}
use Rattle.raid_conflict.specs.declared.tables.Tables.{Tables}
use Rattle.raid_conflict.specs.Tables.{chain_at, chains_against, all_actions, Tells}
use Rattle.raid_conflict.specs.Search.{latest, is_against, is_after, leads_on, is_step, Step}
use Rattle.raid_conflict.proofs.Lists.{any_filter, any_congr, any_pair, from_any}
use Rattle.raid_conflict.proofs.Latest.{filter_orderly, view_orderly, latest_enough}

-- a chain with something in it has a place
chain_placed : (chains : List Chain) (k : ℕ) (f : Action → Bool) → list_any f (chain_at chains k) ≡ true → k < length chains
chain_placed [] k f e = absurd (true≢false (sym e))
chain_placed (c ∷ cs) zero f e = omega arith
chain_placed (c ∷ cs) (suc k) f e = omega (arith, chain_placed cs k f e)

module _ (t : Tables) (view : List Noted) (s : Tells t view) where
  -- who acts has a place
  acts_placed : (v : Txn) → list_any (λ b. is_txn v b.by) (all_actions view) ≡ true → v.0 < length t.own.items
  acts_placed v e =
      chain_placed t.own.items v.0 (λ b. is_txn v b.by)
      (ap (list_any (λ b. is_txn v b.by)) (s.own v) ∙ any_filter (λ b. is_txn v b.by) (λ b. is_txn v b.by) (all_actions view)
      ∙ any_congr (λ b. is_txn v b.by && is_txn v b.by) (λ b. is_txn v b.by) (λ b. twice (is_txn v b.by)) (all_actions view) ∙ e)
    where
      twice : (b : Bool) → (b && b) ≡ b
      twice true = refl
      twice false = refl

  -- an edge, over all actions
  pub pair_all : (u v : Txn) → list_any (λ e. is_txn u e.0 && is_txn v e.1) (edges view)
      ≡ list_any (λ a. not (has_aborted view a.by) && list_any (λ b. not (has_aborted view b.by) && (precedes a b && (is_txn u a.by && is_txn v b.by))) (all_actions view)) (all_actions view)
  pair_all u v =
      any_pair (actions view) u v
      ∙ any_filter (λ a. list_any (λ b. precedes a b && (is_txn u a.by && is_txn v b.by)) (actions view)) (λ a. not (has_aborted view a.by)) (all_actions view)
      ∙ any_congr (λ a. not (has_aborted view a.by) && list_any (λ b. precedes a b && (is_txn u a.by && is_txn v b.by)) (actions view)) (λ a. not (has_aborted view a.by) && list_any (λ b. not (has_aborted view b.by) && (precedes a b && (is_txn u a.by && is_txn v b.by))) (all_actions view))
      (λ a. ap (λ b. not (has_aborted view a.by) && b) (any_filter (λ b. precedes a b && (is_txn u a.by && is_txn v b.by)) (λ b. not (has_aborted view b.by)) (all_actions view))) (all_actions view)

  -- what an edge says of its two transactions
  abbrev pub edge_to : (u v : Txn) → Action → Bool
  edge_to u v a = list_any (λ b. not (has_aborted view b.by) && (precedes a b && (is_txn u a.by && is_txn v b.by))) (all_actions view)

  abbrev pub edge_from : (u v : Txn) → Action → Bool
  edge_from u v a = not (has_aborted view a.by) && edge_to u v a

  pub edge_first : (u v : Txn) (a : Action) → edge_to u v a ≡ true → is_txn u a.by ≡ true
  edge_first u v a h = from_any (is_txn u a.by ≡ true) (λ b. not (has_aborted view b.by) && (precedes a b && (is_txn u a.by && is_txn v b.by))) (λ b i. grind (arith, common_steps, i)) (all_actions view) h

  edge_stays : (u v : Txn) → list_any (edge_from u v) (all_actions view) ≡ true → not (has_aborted view u) ≡ true
  edge_stays u v f =
      from_any (not (has_aborted view u) ≡ true) (edge_from u v)
      (λ a h. let q = and_parts (not (has_aborted view a.by)) (edge_to u v a) h in subst (λ z. not (has_aborted view z) ≡ true) (same_txn a.by u (edge_first u v a q.1)) q.0) (all_actions view) f

  edge_placed : (u v : Txn) → list_any (edge_from u v) (all_actions view) ≡ true → (b : Action) → is_txn v b.by ≡ true → nat_lt b.by.0 (length t.own.items) ≡ true
  edge_placed u v f b e =
      let l : v.0 < length t.own.items = from_any (v.0 < length t.own.items) (edge_from u v)
      (λ a h. let q = and_parts (not (has_aborted view a.by)) (edge_to u v a) h in
      acts_placed v (any_mono (λ b. not (has_aborted view b.by) && (precedes a b && (is_txn u a.by && is_txn v b.by))) (λ b. is_txn v b.by) (λ b i. grind (arith, common_steps, i)) (all_actions view) q.1)) (all_actions view) f in
      let m : b.by.0 < length t.own.items = subst (λ (z : Txn). z.0 < length t.own.items) (sym (same_txn b.by v e)) l in
      grind (arith, m)

  -- the actions that an action can conflict with on its item
  abbrev meets : Action → Action → Bool
  meets a b = (a.writes || b.writes) && is_item a.item b.item

  -- the chain in which it is followed has just those
  chain_meets : (a : Action) → chain_at (chains_against t a) a.item.0 ≡ filter (meets a) (all_actions view)
  chain_meets a = go a.writes
    where
      go : (b : Bool) → chain_at (if b then t.items.items else t.writes.items) a.item.0 ≡ filter (λ c. (b || c.writes) && is_item a.item c.item) (all_actions view)
      go true = s.on a.item
      go false = s.writes a.item

  module _ (up : AllPairs (λ m n. m.at < n.at) view) where
    -- whom an action leads to, over all actions
    after_all : (a : Action) (v : Txn) → is_after t a (latest a.at (chain_at (chains_against t a) a.item.0)) v ≡ list_any (λ b. is_item a.item b.item && (is_against t a b && is_txn v b.by)) (all_actions view)
    after_all a v =
        ap (λ l. is_after t a (latest a.at l) v) (chain_meets a)
        ∙ latest_enough a.at (λ b. is_against t a b && is_txn v b.by) (λ b h. grind (arith, common_steps, h)) (filter (meets a) (all_actions view)) (filter_orderly a.at (meets a) (all_actions view) (view_orderly a.at view up))
        ∙ any_filter (λ b. is_against t a b && is_txn v b.by) (meets a) (all_actions view)
        ∙ any_congr (λ b. meets a b && (is_against t a b && is_txn v b.by)) (λ b. is_item a.item b.item && (is_against t a b && is_txn v b.by)) (λ b. grind (arith, common_steps)) (all_actions view)

    -- a step, over all actions
    step_all : (u v : Txn) → is_step t u v ≡ (not (has_aborted view u) && list_any (λ a. is_txn u a.by && list_any (λ b. is_item a.item b.item && (is_against t a b && is_txn v b.by)) (all_actions view)) (all_actions view))
    step_all u v =
        ap (λ b. not b && leads_on t (chain_at t.own.items u.0) v) (s.aborted u)
        ∙ ap (λ l. not (has_aborted view u) && leads_on t l v) (s.own u)
        ∙ ap (λ b. not (has_aborted view u) && b)
        (any_filter (λ a. is_after t a (latest a.at (chain_at (chains_against t a) a.item.0)) v) (λ a. is_txn u a.by) (all_actions view)
        ∙ any_congr (λ a. is_txn u a.by && is_after t a (latest a.at (chain_at (chains_against t a) a.item.0)) v) (λ a. is_txn u a.by && list_any (λ b. is_item a.item b.item && (is_against t a b && is_txn v b.by)) (all_actions view))
        (λ a. ap (λ b. is_txn u a.by && b) (after_all a v)) (all_actions view))

    pub step_pair : (u v : Txn) → Step t u v → IsPair (edges view) u v
    step_pair u v e =
        let p = and_parts (not (has_aborted view u)) _ (sym (step_all u v) ∙ e) in
        pair_all u v ∙ any_mono (λ a. is_txn u a.by && list_any (λ b. is_item a.item b.item && (is_against t a b && is_txn v b.by)) (all_actions view)) (λ a. not (has_aborted view a.by) && list_any (λ b. not (has_aborted view b.by) && (precedes a b && (is_txn u a.by && is_txn v b.by))) (all_actions view))
        (λ a h. let q = and_parts (is_txn u a.by) _ h in
        and_from _ _ (subst (λ z. not (has_aborted view z) ≡ true) (sym (same_txn a.by u q.0)) p.0)
        (any_mono (λ b. is_item a.item b.item && (is_against t a b && is_txn v b.by)) (λ b. not (has_aborted view b.by) && (precedes a b && (is_txn u a.by && is_txn v b.by)))
        (λ b i. grind (arith, common_steps, i, q.0, s.aborted b.by)) (all_actions view) q.1))
        (all_actions view) p.1

    pub pair_step : (u v : Txn) → IsPair (edges view) u v → Step t u v
    pair_step u v e =
        let f : list_any (λ a. not (has_aborted view a.by) && list_any (λ b. not (has_aborted view b.by) && (precedes a b && (is_txn u a.by && is_txn v b.by))) (all_actions view)) (all_actions view) ≡ true = sym (pair_all u v) ∙ e in
        step_all u v ∙ and_from _ _ (edge_stays u v f) (any_mono (λ a. not (has_aborted view a.by) && list_any (λ b. not (has_aborted view b.by) && (precedes a b && (is_txn u a.by && is_txn v b.by))) (all_actions view)) (λ a. is_txn u a.by && list_any (λ b. is_item a.item b.item && (is_against t a b && is_txn v b.by)) (all_actions view))
        (λ a h. let q = and_parts (not (has_aborted view a.by)) _ h in
        and_from _ _ (edge_first u v a q.1)
        (any_mono (λ b. not (has_aborted view b.by) && (precedes a b && (is_txn u a.by && is_txn v b.by))) (λ b. is_item a.item b.item && (is_against t a b && is_txn v b.by))
        (λ b i. grind (arith, common_steps, i, s.aborted b.by, edge_placed u v f b)) (all_actions view) q.1))
        (all_actions view) f)

    -- so what a search finds is what the list says
    pub steps_lead : (u v : Txn) → Path (Step t) u v ↔ (leads (edges view) u v ≡ true)
    steps_lead u v = (λ p. path_leads (edges view) u v (path_map step_pair p), λ l. path_map pair_step (leads_path (edges view) u v l))
