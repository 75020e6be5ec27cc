-- What a search from those that run finds is what is live.
use Rattle.std.proofs.Common.{◌≡◌, ◌↔◌, inl, inr, Bool, true, false, not, ◌&&◌, ◌||◌, List, [], ◌∷◌, arith, refl, sym, ap, subst, ◌∙◌}
use Rattle.std.specs.List.{list_any, filter}
use Rattle.std.proofs.lemmas.Bool.{true≢false, cases_Bool, and_parts, and_from, or_left}
use Rattle.std.proofs.lemmas.List.Folds.{Any-from_list_any, list_any_at}
use Rattle.std.proofs.lemmas.Grind.{common_steps}
use Rattle.raid_base.specs.declared.names.Txn.{Txn}
use Rattle.raid_base.specs.declared.names.Item.{Item}
use Rattle.raid_base.specs.declared.entry.Entry.{Entry}
use Rattle.raid_base.specs.declared.entry.Entry.TheVariants.{Read, Commit}
use Rattle.raid_base.specs.declared.entry.Noted.{Noted}
use Rattle.raid_base.specs.Names.{is_txn, has_txn}
use Rattle.raid_rules.specs.Entries.{is_commit_of, is_abort_of, is_end_of}
use Rattle.raid_rules.specs.History.{has_committed, has_aborted, has_ended}
use Rattle.raid_rules.specs.Conflict.{Edge, Path, one, cons, clash, edges, leads}
use Rattle.raid_rules.specs.Committed.{AllOnce}
use Rattle.raid_rules.proofs.Edges.{leads_iff}
use Rattle.raid_rules.proofs.Push.{same_txn}
use Rattle.raid_rules.proofs.Reach.{any_mono}
use Rattle.raid_rules.proofs.Txns.{not_true, off, has_kept, eq_self}
use Rattle.raid_conflict.specs.declared.state.State.{State}
use Rattle.raid_conflict.specs.Search.{Step}
use Rattle.raid_conflict.specs.Live.{parts, is_reached, is_live, Stands, Reached}
use Rattle.raid_conflict.proofs.Cycles.{reached_stays}
use Rattle.raid_conflict.proofs.Lists.{both_ways}
use Rattle.raid_conflict.proofs.Runs.{is_part, parts_has, parts_once, filter_once}
use Rattle.raid_conflict.proofs.Steps.{steps_lead}

-- who acts takes part
clash_part : (t u : Txn) (x : Item) (a b : Entry) → clash t u x a b ≡ true → is_part u b ≡ true
clash_part t u x a (Read v y s) h = grind (arith, common_steps, h)
clash_part t u x a (Commit v request applied) h = grind (arith, common_steps, h)
clash_part t u x a other h = grind (arith, common_steps, h)

edge_part : (view : List Noted) (t u : Txn) → Edge view t u → has_txn (parts view) u ≡ true
edge_part view t u e =
    parts_has view u ∙ list_any_at (λ n. is_part u n.entry) view e.in_second.0 e.second e.in_second.1
    (subst (λ (n : Noted). is_part u n.entry ≡ true) (sym e.in_second.2) (clash_part t u e.item e.first.entry e.second.entry e.clashing))

path_part : (view : List Noted) → {t u : Txn} → Path (Edge view) t u → has_txn (parts view) u ≡ true
path_part view {t} {u} (one e) = edge_part view t u e
path_part view (cons e p) = path_part view p

-- who has not ended has neither a Commit nor an Abort
no_abort : (view : List Noted) (t : Txn) → has_ended view t ≡ false → has_aborted view t ≡ false
no_abort view t h = not_true _ (λ a. true≢false (sym (any_mono (λ n. is_abort_of t n.entry) (λ n. is_end_of t n.entry) (λ n e. grind (arith, common_steps, e)) view a) ∙ h))

no_commit : (view : List Noted) (t : Txn) → has_ended view t ≡ false → has_committed view t ≡ false
no_commit view t h = not_true _ (λ a. true≢false (sym (any_mono (λ n. is_commit_of t n.entry) (λ n. is_end_of t n.entry) (λ n e. or_left _ _ e) view a) ∙ h))

-- and the other way round
no_end : (view : List Noted) (t : Txn) → has_aborted view t ≡ false → has_committed view t ≡ false → has_ended view t ≡ false
no_end [] t a c = refl
no_end (n ∷ ns) t a c = grind (arith, common_steps, a, c, no_end ns t (rest (is_abort_of t n.entry) a) (rest (is_commit_of t n.entry) c))
  where
    rest : (b : Bool) {d : Bool} → (b || d) ≡ false → d ≡ false
    rest true h = absurd (true≢false h)
    rest false h = h

-- a test of the transaction in the list
has_any : (f : Txn → Bool) (ts : List Txn) (t : Txn) → has_txn ts t ≡ true → f t ≡ true → list_any f ts ≡ true
has_any f ts t i e =
    let a = Any-from_list_any (is_txn t) ts i in
    list_any_at f ts a.0 a.1 a.2 (subst (λ z. f z ≡ true) (sym (a.3 ∙ same_txn a.1 t a.4)) e)

any_has : (f : Txn → Bool) (ts : List Txn) → list_any f ts ≡ true → (t : Txn) × (has_txn ts t ≡ true) × (f t ≡ true)
any_has f ts h =
    let a = Any-from_list_any f ts h in
    (a.1, list_any_at (is_txn a.1) ts a.0 a.1 a.2 (subst (λ z. is_txn a.1 z ≡ true) (sym a.3) (eq_self (a.1).0 (a.1).0 refl)), a.4)

module _ (g : State) (view : List Noted) (s : Stands g view) where
  running : (t : Txn) → has_txn g.running.list.items t ≡ true → (has_txn (parts view) t ≡ true) × (has_ended view t ≡ false)
  running t i = let p = and_parts (has_txn (parts view) t) (not (has_ended view t)) (sym (s.runs.listed t) ∙ i) in (p.0, off _ p.1)

  to_path : (u v : Txn) → Path (Step g.tables) u v → Path (Edge view) u v
  to_path u v p = (leads_iff view u v).0 ((steps_lead g.tables view s.tells s.ascends u v).0 p)

  -- who is found is live
  alive_start : (t : Txn) → has_txn g.running.list.items t ≡ true → (is_live view t && has_txn (parts view) t) ≡ true
  alive_start t i =
      let r = running t i in
      and_from (is_live view t) _
      (and_from (not (has_aborted view t)) _ (ap not (no_abort view t r.1)) (or_left (not (has_committed view t)) (is_reached view t) (ap not (no_commit view t r.1)))) r.0

  alive_reached : (u v : Txn) → has_txn g.running.list.items u ≡ true → Path (Step g.tables) u v → (is_live view v && has_txn (parts view) v) ≡ true
  alive_reached u v i p =
      let r = running u i in
      let q : Path (Edge view) u v = to_path u v p in
      let l : (not (has_ended view u) && leads (edges view) u v) ≡ true = and_from _ _ (ap not r.1) ((leads_iff view u v).1 q) in
      let a : is_reached view v ≡ true = has_any (λ w. not (has_ended view w) && leads (edges view) w v) (parts view) u r.0 l in
      and_from (is_live view v) _
      (and_from (not (has_aborted view v)) _ (ap not (reached_stays view q)) (or_second (not (has_committed view v)) a)) (path_part view q)
    where
      or_second : (b : Bool) {c : Bool} → c ≡ true → (b || c) ≡ true
      or_second true e = refl
      or_second false e = e

  there : (v : Txn) → Reached g.tables g.running.list.items v → (is_live view v && has_txn (parts view) v) ≡ true
  there v (inl i) = alive_start v i
  there v (inr r) = alive_reached r.0 v r.1 r.2

  -- who is live is found
  back : (v : Txn) → (is_live view v && has_txn (parts view) v) ≡ true → Reached g.tables g.running.list.items v
  back v h =
      let p = and_parts (is_live view v) (has_txn (parts view) v) h in
      let q = and_parts (not (has_aborted view v)) (not (has_committed view v) || is_reached view v) p.0 in
      elim (cases_Bool (has_committed view v)) [
        | inl c ↦
            let w = any_has (λ u. not (has_ended view u) && leads (edges view) u v) (parts view) (sym (ap (λ b. not b || is_reached view v) c) ∙ q.1) in
            let r = and_parts (not (has_ended view w.0)) (leads (edges view) w.0 v) w.2 in
            inr (w.0, s.runs.listed w.0 ∙ and_from _ _ w.1 r.0, (steps_lead g.tables view s.tells s.ascends w.0 v).1 r.1)
        | inr c ↦ inl (s.runs.listed v ∙ and_from _ _ p.1 (ap not (no_end view v (off _ q.0) c)))
      ]

  pub alive_is : (found : List Txn) → ((v : Txn) → (has_txn found v ≡ true) ↔ Reached g.tables g.running.list.items v) → (v : Txn) → has_txn found v ≡ has_txn (filter (is_live view) (parts view)) v
  alive_is found h v =
      both_ways _ _ (λ i. there v ((h v).0 i)) (λ a. (h v).1 (back v a))
      ∙ sym (has_kept (is_live view) v (parts view))

pub alive_once : (view : List Noted) → AllOnce (filter (is_live view) (parts view))
alive_once view = filter_once (is_live view) (parts view) (parts_once view)
