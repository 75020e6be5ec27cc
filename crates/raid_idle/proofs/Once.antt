-- Nobody begins or ends twice in a history that can be placed.
use Rattle.std.proofs.Common.{◌≡◌, ℕ, ◌+◌, ◌==◌, nat_lt, Bool, true, false, not, ◌&&◌, ◌||◌, List, [], ◌∷◌, ◌++◌, if◌then◌else◌, true≢false, refl, ap, sym, subst, arith, ◌∙◌}
use Rattle.std.specs.Prelude.{count_by, filter}
use Rattle.std.specs.List.{list_all}
use Rattle.std.proofs.lemmas.Bool.{and_parts}
use Rattle.std.proofs.lemmas.Grind.{common_steps}
use Rattle.std.proofs.lemmas.List.Folds.{list_any-append}
use Rattle.raid_base.specs.declared.names.Txn.{Txn}
use Rattle.raid_base.specs.declared.entry.Entry.{Entry}
use Rattle.raid_base.specs.declared.entry.Entry.TheVariants.{Begin, Commit, Abort}
use Rattle.raid_base.specs.declared.entry.Noted.{Noted}
use Rattle.raid_workload.specs.declared.workload.Workload.{Workload}
use Rattle.raid_rules.specs.Entries.{is_begin_of, is_end_of}
use Rattle.raid_rules.specs.History.{noted, add, next, has_begun, has_ended, is_running}
use Rattle.raid_rules.proofs.Push.{noted_push, same_txn}
use Rattle.raid_rules.proofs.Places.{by_last}
use Rattle.raid_rules.proofs.Txns.{off}
use Rattle.raid_history.specs.Tables.{may_follow}
use Rattle.raid_legal.specs.Switched.{is_once}
use Rattle.raid_placed.specs.Placed.{Placed}
use Rattle.raid_placed.proofs.Orderly.{placeable_follows}
use Rattle.raid_placed.proofs.Sent.{placed_push}

-- how often it has begun and ended
record Once (p : List Noted) (t : Txn) : Type 0 where
  begins : count_by (λ n. is_begin_of t n.entry) p ≡ (if has_begun p t then 1 else 0)
  ends : count_by (λ n. is_end_of t n.entry) p ≡ (if has_ended p t then 1 else 0)
  begun : has_ended p t ≡ true → has_begun p t ≡ true

-- what an entry that may follow says of it
record Follows (p : List Noted) (t : Txn) (e : Entry) : Type 0 where
  first : is_begin_of t e ≡ true → has_begun p t ≡ false
  last : is_end_of t e ≡ true → (has_begun p t ≡ true) × (has_ended p t ≡ false)

none : (p : List Noted) (t : Txn) (e : Entry) → is_begin_of t e ≡ false → is_end_of t e ≡ false → Follows p t e
none p t e a b = record { first = λ q. absurd (true≢false (sym q ∙ a)); last = λ q. absurd (true≢false (sym q ∙ b)) }

runs : (p : List Noted) (t : Txn) → is_running p t ≡ true → (has_begun p t ≡ true) × (has_ended p t ≡ false)
runs p t r = let both = and_parts (has_begun p t) (not (has_ended p t)) r in (both.0, off (has_ended p t) both.1)

follows : (p : List Noted) (t : Txn) (e : Entry) → may_follow p e ≡ true → Follows p t e
follows p t (Begin u h) m = record {
  first = λ q. subst (λ z. has_begun p z ≡ false) (same_txn u t q) (off (has_begun p u) m);
  last = λ q. absurd (true≢false (sym q));
}
follows p t (Commit u r ss) m = record {
  first = λ q. absurd (true≢false (sym q));
  last = λ q. subst (λ z. (has_begun p z ≡ true) × (has_ended p z ≡ false)) (same_txn u t (grind (arith, common_steps, q))) (runs p u m);
}
follows p t (Abort u c a) m = record {
  first = λ q. absurd (true≢false (sym q));
  last = λ q. subst (λ z. (has_begun p z ≡ true) × (has_ended p z ≡ false)) (same_txn u t (grind (arith, common_steps, q))) (runs p u m);
}
follows p t other m = none p t other refl refl

-- one more
counted : (k : ℕ) (h b : Bool) → k ≡ (if h then 1 else 0) → (b ≡ true → h ≡ false) → (if b then k + 1 else k) ≡ (if h || b then 1 else 0)
counted k true true q f = absurd (true≢false (f refl))
counted k true false q f = q
counted k false true q f = omega (arith, q)
counted k false false q f = q

once_more : (p : List Noted) (e : Entry) (t : Txn) → may_follow p e ≡ true → Once p t → Once (add p e) t
once_more p e t m o = record {
  begins = begin_count ∙ counted _ (has_begun p t) (is_begin_of t e) o.begins f.first ∙ ap (λ b. if b then 1 else 0) (sym begun);
  ends = end_count ∙ counted _ (has_ended p t) (is_end_of t e) o.ends (λ q. (f.last q).1) ∙ ap (λ b. if b then 1 else 0) (sym ended);
  begun = λ q. begun ∙ go (has_begun p t) (has_ended p t) (is_begin_of t e) (is_end_of t e) o.begun (λ z. (f.last z).0) (sym ended ∙ q);
}
  where
    f : Follows p t e
    f = follows p t e m

    begin_count : count_by (λ n. is_begin_of t n.entry) (add p e) ≡ (if is_begin_of t e then count_by (λ n. is_begin_of t n.entry) p + 1 else count_by (λ n. is_begin_of t n.entry) p)
    begin_count = grind (arith, common_steps)

    end_count : count_by (λ n. is_end_of t n.entry) (add p e) ≡ (if is_end_of t e then count_by (λ n. is_end_of t n.entry) p + 1 else count_by (λ n. is_end_of t n.entry) p)
    end_count = grind (arith, common_steps)

    begun : has_begun (add p e) t ≡ (has_begun p t || is_begin_of t e)
    begun = grind (arith, common_steps, list_any-append (λ n. is_begin_of t n.entry) p (next p e ∷ []))

    ended : has_ended (add p e) t ≡ (has_ended p t || is_end_of t e)
    ended = grind (arith, common_steps, list_any-append (λ n. is_end_of t n.entry) p (next p e ∷ []))

    go : (hb he b d : Bool) → (he ≡ true → hb ≡ true) → (d ≡ true → hb ≡ true) → (he || d) ≡ true → (hb || b) ≡ true
    go true he b d x y q = refl
    go false true b d x y q = absurd (true≢false (sym (x refl)))
    go false false b true x y q = absurd (true≢false (sym (y refl)))
    go false false b false x y q = absurd (true≢false (sym q))

once_in : (w : Workload) (t : Txn) (h : List Entry) → Placed w h → Once (noted h) t
once_in w t = by_last (λ h. Placed w h → Once (noted h) t) (λ l. record { begins = refl; ends = refl; begun = λ q. q }) more
  where
    more : (h : List Entry) (e : Entry) → (Placed w h → Once (noted h) t) → Placed w (h ++ e ∷ []) → Once (noted (h ++ e ∷ [])) t
    more h e rest l =
        let q = (placed_push w h e).0 l in
        subst (λ p. Once p t) (sym (noted_push h e)) (once_more (noted h) e t (placeable_follows w (noted h) e q.1) (rest q.0))

-- so who doesn't run has begun and ended once, or neither
ended_once : (b e : ℕ) (hb he : Bool) → b ≡ (if hb then 1 else 0) → e ≡ (if he then 1 else 0) → (he ≡ true → hb ≡ true) → (hb && not he) ≡ false → (nat_lt b 2 && b == e) ≡ true
ended_once b e true true p q f r = grind (arith, p, q)
ended_once b e true false p q f r = absurd (true≢false r)
ended_once b e false true p q f r = absurd (true≢false (sym (f refl)))
ended_once b e false false p q f r = grind (arith, p, q)

is_once_of : (w : Workload) (h : List Entry) (t : Txn) → Placed w h → is_running (noted h) t ≡ false → is_once (noted h) t ≡ true
is_once_of w h t l r = let o = once_in w t h l in ended_once _ _ (has_begun (noted h) t) (has_ended (noted h) t) o.begins o.ends o.begun r

one_once : (w : Workload) (h : List Entry) (t : Txn) (ts : List Txn) (b : Bool) → Placed w h → is_running (noted h) t ≡ b → (filter (is_running (noted h)) ts ≡ [] → list_all (is_once (noted h)) ts ≡ true) →
    (if b then t ∷ filter (is_running (noted h)) ts else filter (is_running (noted h)) ts) ≡ [] → list_all (is_once (noted h)) (t ∷ ts) ≡ true
one_once w h t ts true l q rest e = absurd (cc e)
one_once w h t ts false l q rest e = ap (λ b. b && list_all (is_once (noted h)) ts) (is_once_of w h t l q) ∙ rest e

pub once_where_none_runs : (w : Workload) (h : List Entry) (ts : List Txn) → Placed w h → filter (is_running (noted h)) ts ≡ [] → list_all (is_once (noted h)) ts ≡ true
once_where_none_runs w h [] l e = refl
once_where_none_runs w h (t ∷ ts) l e = one_once w h t ts (is_running (noted h) t) l refl (λ q. once_where_none_runs w h ts l q) e
