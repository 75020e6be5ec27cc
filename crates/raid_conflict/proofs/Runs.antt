-- Who runs, with one more entry.
use Rattle.std.proofs.Common.{◌≡◌, ◌⊎◌, ℕ, Bool, true, false, not, ◌&&◌, ◌||◌, List, [], ◌∷◌, ◌++◌, fold, filter_map, cond, arith, refl, sym, ap, ◌∙◌, Option, Some, None, inl, inr}
use Rattle.std.specs.List.{list_any, filter, cons_option}
use Rattle.std.specs.Option.{option_map_or}
use Rattle.std.proofs.lemmas.List.Folds.{list_any-append}
use Rattle.std.proofs.lemmas.Grind.{common_steps}
use Rattle.raid_base.specs.declared.names.Txn.{Txn}
use Rattle.raid_base.specs.declared.entry.Entry.{Entry}
use Rattle.raid_base.specs.declared.entry.Entry.TheVariants.{Begin, Read, Wait, Commit, Abort, Ack, SwitchOn, SwitchEnd, Down, Up, Clear}
use Rattle.raid_base.specs.declared.entry.Noted.{Noted}
use Rattle.raid_base.specs.declared.entry.Cause.{Cause}
use Rattle.raid_base.specs.declared.entry.Act.{Act}
use Rattle.raid_base.specs.declared.names.Item.{Item}
use Rattle.raid_base.specs.declared.names.Site.{Site}
use Rattle.raid_base.specs.declared.request.Request.{Request}
use Rattle.raid_base.specs.Names.{is_txn, has_txn}
use Rattle.raid_rules.specs.Entries.{is_end_of}
use Rattle.raid_rules.specs.History.{has_ended}
use Rattle.raid_rules.specs.Committed.{AllOnce}
use Rattle.raid_rules.proofs.Push.{same_txn}
use Rattle.raid_rules.proofs.Txns.{has_kept, once_push}
use Rattle.raid_conflict.specs.declared.running.Running.{Running}
use Rattle.raid_conflict.specs.Found.{is_marked}
use Rattle.raid_conflict.specs.Listed.{noted_as}
use Rattle.raid_conflict.specs.Live.{part_of, with_txn, parts, Runs}
use Rattle.raid_conflict.proofs.Marks.{has_added}
use Rattle.raid_conflict.proofs.Stand.{IsIdle}

abbrev pub is_part : Txn → Entry → Bool
is_part t e = option_map_or (is_txn t) (part_of e) false

or_false : (b : Bool) → (b || false) ≡ b
or_false true = refl
or_false false = refl

or_three : (a b c : Bool) → ((a || b) || c) ≡ (a || (b || c))
or_three true b c = refl
or_three false b c = refl

-- who is in a list that was put together one after the other
has_fold : (had ts : List Txn) (t : Txn) → has_txn (fold with_txn had ts) t ≡ (has_txn had t || has_txn ts t)
has_fold had [] t = sym (or_false (has_txn had t))
has_fold had (u ∷ us) t = has_fold (with_txn had u) us t ∙ ap (λ b. b || has_txn us t) (has_added had u t) ∙ or_three (has_txn had t) (is_txn t u) (has_txn us t)

has_named : (view : List Noted) (t : Txn) → has_txn (filter_map (λ n. part_of n.entry) view) t ≡ list_any (λ n. is_part t n.entry) view
has_named [] t = refl
has_named (n ∷ ns) t = go (part_of n.entry) (has_named ns t)
  where
    go : (o : Option Txn) → has_txn (filter_map (λ n. part_of n.entry) ns) t ≡ list_any (λ n. is_part t n.entry) ns →
        has_txn (cons_option o (filter_map (λ n. part_of n.entry) ns)) t ≡ (option_map_or (is_txn t) o false || list_any (λ n. is_part t n.entry) ns)
    go (Some u) h = ap (λ b. is_txn t u || b) h
    go None h = h

pub parts_has : (view : List Noted) (t : Txn) → has_txn (parts view) t ≡ list_any (λ n. is_part t n.entry) view
parts_has view t = has_fold [] (filter_map (λ n. part_of n.entry) view) t ∙ has_named view t

-- each once
once_fold : (had ts : List Txn) → AllOnce had → AllOnce (fold with_txn had ts)
once_fold had [] h = h
once_fold had (t ∷ ts) h = once_fold (with_txn had t) ts (go (has_txn had t) refl)
  where
    go : (b : Bool) → has_txn had t ≡ b → AllOnce (cond b had (had ++ t ∷ []))
    go true e = h
    go false e = once_push had t h e

pub parts_once : (view : List Noted) → AllOnce (parts view)
parts_once view = once_fold [] (filter_map (λ n. part_of n.entry) view) tt

pub filter_once : (p : Txn → Bool) (ts : List Txn) → AllOnce ts → AllOnce (filter p ts)
filter_once p [] h = tt
filter_once p (t ∷ ts) h = go (p t) (filter_once p ts h.1)
  where
    go : (b : Bool) → AllOnce (filter p ts) → AllOnce (cond b (t ∷ filter p ts) (filter p ts))
    go true r = (has_kept p t ts ∙ ap (λ b. p t && b) h.0 ∙ and_no (p t), r)
      where
        and_no : (b : Bool) → (b && false) ≡ false
        and_no true = refl
        and_no false = refl
    go false r = r

parts_push : (view : List Noted) (n : Noted) (t : Txn) → has_txn (parts (view ++ n ∷ [])) t ≡ (has_txn (parts view) t || is_part t n.entry)
parts_push view n t =
    parts_has (view ++ n ∷ []) t ∙ list_any-append (λ m. is_part t m.entry) view (n ∷ [])
    ∙ ap (λ b. list_any (λ m. is_part t m.entry) view || b) (or_false (is_part t n.entry)) ∙ ap (λ b. b || is_part t n.entry) (sym (parts_has view t))

ended_push : (view : List Noted) (n : Noted) (t : Txn) → has_ended (view ++ n ∷ []) t ≡ (has_ended view t || is_end_of t n.entry)
ended_push view n t = list_any-append (λ m. is_end_of t m.entry) view (n ∷ []) ∙ ap (λ b. has_ended view t || b) (or_false (is_end_of t n.entry))

-- the two answers for a transaction after one more entry
goes : (p e q : Bool) → q ≡ true → ((p && not e) || (true && not e)) ≡ ((p || q) && not (e || false))
goes true true q h = refl
goes true false q h = refl
goes false true q h = sym (ap (λ b. b && false) h)
goes false false q h = sym (ap (λ b. b && true) h)

stays : (p e : Bool) → ((p && not e) || false) ≡ ((p || false) && not (e || false))
stays true true = refl
stays true false = refl
stays false e = refl

ends : (p e q : Bool) → false ≡ ((p || q) && not (e || true))
ends true true q = refl
ends true false q = refl
ends false true true = refl
ends false true false = refl
ends false false true = refl
ends false false false = refl

module _ (r s : Running) (view : List Noted) (n : Noted) (runs : Runs r view) where
  pub runs_goes : (by : Txn) → ((t : Txn) → is_part t n.entry ≡ is_txn t by) → ((t : Txn) → is_end_of t n.entry ≡ false) → s.ended.items ≡ r.ended.items →
      ((t : Txn) → has_txn s.list.items t ≡ (has_txn r.list.items t || (is_txn t by && not (is_marked r.ended.items by)))) → Runs s (view ++ n ∷ [])
  runs_goes by part end same list = record {
    ended = λ t. ap (λ l. is_marked l t) same ∙ runs.ended t ∙ sym (ended_push view n t ∙ ap (λ b. has_ended view t || b) (end t) ∙ or_false (has_ended view t));
    listed = λ t. list t ∙ ap (λ b. b || (is_txn t by && not (is_marked r.ended.items by))) (runs.listed t) ∙ go t (is_txn t by) refl ∙ sym (after t);
  }
    where
      after : (t : Txn) → (has_txn (parts (view ++ n ∷ [])) t && not (has_ended (view ++ n ∷ []) t)) ≡ ((has_txn (parts view) t || is_txn t by) && not (has_ended view t || false))
      after t =
          ap (λ b. b && not (has_ended (view ++ n ∷ []) t)) (parts_push view n t ∙ ap (λ b. has_txn (parts view) t || b) (part t))
          ∙ ap (λ b. (has_txn (parts view) t || is_txn t by) && not b) (ended_push view n t ∙ ap (λ b. has_ended view t || b) (end t))

      go : (t : Txn) (b : Bool) → is_txn t by ≡ b → ((has_txn (parts view) t && not (has_ended view t)) || (b && not (is_marked r.ended.items by))) ≡ ((has_txn (parts view) t || is_txn t by) && not (has_ended view t || false))
      go t true e =
          ap (λ b. (has_txn (parts view) t && not (has_ended view t)) || (true && not b)) (ap (is_marked r.ended.items) (same_txn by t e) ∙ runs.ended t)
          ∙ goes (has_txn (parts view) t) (has_ended view t) (is_txn t by) e
      go t false e = stays (has_txn (parts view) t) (has_ended view t) ∙ ap (λ b. (has_txn (parts view) t || b) && not (has_ended view t || false)) (sym e)

  pub runs_ends : (by : Txn) → ((t : Txn) → is_end_of t n.entry ≡ is_txn t by) → ((t : Txn) → is_txn t by ≡ false → is_part t n.entry ≡ false) →
      ((t : Txn) → is_marked s.ended.items t ≡ (is_marked r.ended.items t || is_txn t by)) → s.list.items ≡ filter (λ u. not (is_txn by u)) r.list.items → Runs s (view ++ n ∷ [])
  runs_ends by end part ended list = record {
    ended = λ t. ended t ∙ ap (λ b. b || is_txn t by) (runs.ended t) ∙ sym (ended_push view n t ∙ ap (λ b. has_ended view t || b) (end t));
    listed = λ t.
        ap (λ l. has_txn l t) list ∙ has_kept (λ u. not (is_txn by u)) t r.list.items ∙ ap (λ b. not (is_txn by t) && b) (runs.listed t) ∙ ap (λ b. not b && (has_txn (parts view) t && not (has_ended view t))) (turned t)
        ∙ go t (is_txn t by) refl ∙ sym (after t);
  }
    where
      turned : (t : Txn) → is_txn by t ≡ is_txn t by
      turned t = grind (arith, common_steps)

      after : (t : Txn) → (has_txn (parts (view ++ n ∷ [])) t && not (has_ended (view ++ n ∷ []) t)) ≡ ((has_txn (parts view) t || is_part t n.entry) && not (has_ended view t || is_txn t by))
      after t =
          ap (λ b. b && not (has_ended (view ++ n ∷ []) t)) (parts_push view n t)
          ∙ ap (λ b. (has_txn (parts view) t || is_part t n.entry) && not b) (ended_push view n t ∙ ap (λ b. has_ended view t || b) (end t))

      go : (t : Txn) (b : Bool) → is_txn t by ≡ b → (not b && (has_txn (parts view) t && not (has_ended view t))) ≡ ((has_txn (parts view) t || is_part t n.entry) && not (has_ended view t || is_txn t by))
      go t true e = ends (has_txn (parts view) t) (has_ended view t) (is_part t n.entry) ∙ ap (λ b. (has_txn (parts view) t || is_part t n.entry) && not (has_ended view t || b)) (sym e)
      go t false e =
          kept (has_txn (parts view) t) (has_ended view t)
          ∙ ap (λ b. (has_txn (parts view) t || b) && not (has_ended view t || false)) (sym (part t e))
          ∙ ap (λ b. (has_txn (parts view) t || is_part t n.entry) && not (has_ended view t || b)) (sym e)
        where
          kept : (p q : Bool) → (true && (p && not q)) ≡ ((p || false) && not (q || false))
          kept true true = refl
          kept true false = refl
          kept false q = refl

  pub runs_idle : ((t : Txn) → is_part t n.entry ≡ false) → ((t : Txn) → is_end_of t n.entry ≡ false) → Runs r (view ++ n ∷ [])
  runs_idle part end = record {
    ended = λ t. runs.ended t ∙ sym (ended_push view n t ∙ ap (λ b. has_ended view t || b) (end t) ∙ or_false (has_ended view t));
    listed = λ t. runs.listed t ∙ sym (ap (λ b. b && not (has_ended (view ++ n ∷ []) t)) (parts_push view n t ∙ ap (λ b. has_txn (parts view) t || b) (part t) ∙ or_false (has_txn (parts view) t))
        ∙ ap (λ b. has_txn (parts view) t && not b) (ended_push view n t ∙ ap (λ b. has_ended view t || b) (end t) ∙ or_false (has_ended view t)));
  }

-- who takes part in an entry, and who ends
pub begins_or_reads : (e : Entry) (by : Txn) → ((home : Site) × (e ≡ Begin by home)) ⊎ ((x : Item) × (site : Site) × (e ≡ Read by x site)) →
    ((t : Txn) → is_part t e ≡ is_txn t by) × ((t : Txn) → is_end_of t e ≡ false)
begins_or_reads e by (inl q) = (λ t. ap (is_part t) q.1, λ t. ap (is_end_of t) q.1)
begins_or_reads e by (inr q) = (λ t. ap (is_part t) q.2, λ t. ap (is_end_of t) q.2)

pub commits_or_aborts : (e : Entry) (by : Txn) → ((request : Request) × (applied : List Site) × (e ≡ Commit by request applied)) ⊎ ((cause : Cause) × (act : Act) × (e ≡ Abort by cause act)) →
    ((t : Txn) → is_end_of t e ≡ is_txn t by) × ((t : Txn) → is_txn t by ≡ false → is_part t e ≡ false)
commits_or_aborts e by (inl q) = (λ t. ap (is_end_of t) q.2 ∙ or_false (is_txn t by), λ t h. ap (is_part t) q.2 ∙ h)
commits_or_aborts e by (inr q) = (λ t. ap (is_end_of t) q.2, λ t h. ap (is_part t) q.2)

pub idles : (e : Entry) → IsIdle e → ((t : Txn) → is_part t e ≡ false) × ((t : Txn) → is_end_of t e ≡ false)
idles (Begin u home) i = absurd i
idles (Read u x site) i = absurd i
idles (Commit u request applied) i = absurd i
idles (Abort u cause act) i = absurd i
idles (Wait u request) i = (λ t. refl, λ t. refl)
idles (Ack u site) i = (λ t. refl, λ t. refl)
idles (SwitchOn k kind method) i = (λ t. refl, λ t. refl)
idles (SwitchEnd k) i = (λ t. refl, λ t. refl)
idles (Down site) i = (λ t. refl, λ t. refl)
idles (Up site session) i = (λ t. refl, λ t. refl)
idles (Clear site x version) i = (λ t. refl, λ t. refl)

pub note_idles : (r : Running) (e : Entry) → IsIdle e → (view : List Noted) (at stamp : ℕ) → Runs r view → Runs r (view ++ noted_as at stamp e ∷ [])
note_idles r e i view at stamp runs = let q = idles e i in runs_idle r r view (noted_as at stamp e) runs q.0 q.1
