-- The switches of a legal history did what they may.
use Rattle.std.proofs.Common.{◌≡◌, ℕ, zero, suc, ◌+◌, ◌*◌, ◌<◌, ◌≤◌, ◌⊎◌, inl, inr, Bool, true, false, not, ◌&&◌, ◌==◌, cond, if◌then◌else◌, List, [], ◌∷◌, ◌++◌, length, map, arith, sym, ◌∙◌, ap, subst, refl, Option, Some, None, append-nil, append_assoc, length-append}
use Rattle.std.specs.Prelude.{find, count_by, take, drop, option_map}
use Rattle.std.specs.List.{list_any, list_all, filter}
use Rattle.std.specs.Option.{option_map_or}
use Rattle.std.proofs.lemmas.Bool.{true≢false, and_from, or_left, eqb-true, OnTrue_from}
use Rattle.std.proofs.lemmas.Grind.{common_steps}
use Rattle.std.proofs.lemmas.List.{drop-append-le, drop_all, map-append, length-map}
use Rattle.std.proofs.lemmas.List.Folds.{list_any-append}
use Rattle.std.proofs.lemmas.List.Sums.{sum_by-append}
use Rattle.std.proofs.Math.Seq.{take-append_seam}
use Rattle.raid_base.specs.declared.names.Txn.{Txn}
use Rattle.raid_base.specs.declared.entry.Entry.{Entry as Real}
use Rattle.raid_base.specs.declared.entry.Entry.TheVariants.{Begin, Read, Wait, Commit, Abort, Ack, SwitchOn, SwitchEnd, Down, Up, Clear}
use Rattle.raid_base.specs.declared.entry.Act.TheVariants as acts
use Rattle.raid_base.specs.declared.entry.Cause.{Cause}
use Rattle.raid_base.specs.declared.entry.Cause.TheVariants.{SwitchOff}
use Rattle.raid_base.specs.declared.entry.Noted.{Noted as RNoted}
use Rattle.raid_base.specs.declared.verdict.Kind.{Kind as RKind}
use Rattle.raid_base.specs.declared.verdict.Method.{Method}
use Rattle.raid_base.specs.declared.verdict.Method.TheVariants.{Generic, Convert, Suffix}
use Rattle.raid_base.specs.declared.verdict.Verdict.TheVariants as verdicts
use Rattle.raid_base.specs.Names.{is_txn, has_txn, has_site}
use Rattle.raid_workload.specs.declared.workload.Workload.{Workload}
use Rattle.raid_workload.specs.Parts.{txns, home, count_from}
use Rattle.raid_rules.specs.Committed.{AllOnce}
use Rattle.raid_rules.specs.Entries.{is_switch_on, is_begin_of, is_end_of}
use Rattle.raid_rules.specs.History.{noted as noted_in, add, next, stamp, is_running, has_ended}
use Rattle.raid_rules.specs.Sessions.{is_site_up}
use Rattle.raid_rules.specs.Verdicts.{Question, reading, writing, verdict_of}
use Rattle.raid_rules.specs.Views.{view_of, is_backward, aborts_backward}
use Rattle.raid_rules.proofs.Places.{by_last, noted_length}
use Rattle.raid_rules.proofs.Push.{same_txn, noted_push, has_begun_push, vector_push}
use Rattle.raid_legal.specs.Seen.{running, sources, is_up, vector}
use Rattle.raid_legal.specs.InForce.{InForce, in_force, verdict, is_joint, turn_end, turn, off_list, newer, past}
use Rattle.raid_legal.specs.Forced.{forced, home_down, switch_off, switch_end, switch_on, woken, earliest}
use Rattle.raid_legal.specs.Legal.{Legal, Allowed, EachSeeing}
use Rattle.raid_legal.specs.Switched.{switch_of, is_aborted_by, is_after_switch, AbortsJust, is_granted, GrantedByAll, SwitchRow, Switched}
use Rattle.raid_legal.proofs.Push.{legal_push, each_push}
use Rattle.raid_serial.proofs.Translate.{txn, cases_true, eq_self, not_true}
use Rattle.raid_serial.proofs.Facts.{Fact, fact, each_grants, map_none, none_is}
use Rattle.raid_serial.proofs.Attempts.{counted}
use Rattle.raid_serial.proofs.Force.{in_force_push}
use Rattle.raid_serial.proofs.Says.{Caused, Says, says, homes_up, off_comes}

-- the entry that aborts a transaction for the switch
abbrev off_by : ℕ → Txn → Real
off_by k t = Abort t (SwitchOff k) acts.Nothing

-- how far a switch has come that came on with the number at: whom it aborts, first those that are aborted, then those that are to be
pub record Progress (w : Workload) (h : List Real) (p : List RNoted) (at k : ℕ) (ts : List Txn) : Type 0 where
  pub aborted : List Txn
  pub left : List Txn
  pub behind : List Real
  pub whole : ts ≡ aborted ++ left
  pub within : at ≤ length h
  pub follow : drop at h ≡ map (off_by k) aborted ++ behind
  pub count : count_by (is_aborted_by k) h ≡ length aborted
  pub low : k ≤ (in_force w p).switches
  pub last : (in_force w p).switches ≡ k → (in_force w p).off ≡ ts
  pub over : (left ≡ []) ⊎ ((behind ≡ []) × ((in_force w p).switches ≡ k) × (home_down w p ≡ None))
  pub ended : (t : Txn) → has_txn aborted t ≡ true → has_ended p t ≡ true
  pub runs : (t : Txn) → has_txn left t ≡ true → is_running p t ≡ true
  pub once : AllOnce left

-- as the row of the entry, with how far a switch has come
abbrev Row : Workload → List Real → List RNoted → List RNoted → ℕ → Real → Type 0
Row w h p q at (Begin t site) = Unit {0}
Row w h p q at (Read t x site) = GrantedByAll w q (reading t (stamp q t) x) × (has_site (sources w q x) site ≡ true)
Row w h p q at (Wait t request) = Unit {0}
Row w h p q at (Commit t request applied) = GrantedByAll w q (writing t (stamp q t) request.writes)
Row w h p q at (Abort t cause act) = is_after_switch q cause ≡ true
Row w h p q at (Ack t site) = Unit {0}
Row w h p q at (SwitchOn k kind method) = Progress w h p at k (off_list w q method kind)
Row w h p q at (SwitchEnd k) = Unit {0}
Row w h p q at (Down site) = Unit {0}
Row w h p q at (Up site session) = Unit {0}
Row w h p q at (Clear site x version) = Unit {0}

pub record Switching (w : Workload) (h : List Real) (p : List RNoted) : Type 0 where
  pub rows : EachSeeing (λ q n. Row w h p q n.at n.entry) [] p
  pub fresh : (k : ℕ) → (in_force w p).switches < k → count_by (is_aborted_by k) h ≡ 0
  pub named : ((in_force w p).off ≡ []) ⊎ (list_any (λ n. is_switch_on (λ j. j == (in_force w p).switches) n.entry) p ≡ true)

-- lists
each_weaker : (R T : List RNoted → RNoted → Type 0) → ((q : List RNoted) (n : RNoted) → R q n → T q n) → (before p : List RNoted) → EachSeeing R before p → EachSeeing T before p
each_weaker R T f before [] e = tt
each_weaker R T f before (n ∷ ns) e = (f before n e.0, each_weaker R T f (before ++ n ∷ []) ns e.1)

count_push : (f : Real → Bool) (h : List Real) (e : Real) → count_by f (h ++ e ∷ []) ≡ count_by f h + (if f e then 1 else 0)
count_push f h e = sum_by-append (λ x. cond (f x) 1 0) h (e ∷ []) ∙ omega arith

find_past : (f : Txn → Bool) (xs ys : List Txn) → ((t : Txn) → has_txn xs t ≡ true → f t ≡ false) → find f (xs ++ ys) ≡ find f ys
find_past f [] ys none = refl
find_past f (x ∷ xs) ys none = ap (λ b. cond b (Some x) (find f (xs ++ ys))) (none x (or_left _ _ (eq_self x.0 x.0 refl))) ∙ find_past f xs ys (λ t m. none t (grind (arith, common_steps, m)))

find_head : (f : Txn → Bool) (x : Txn) (xs : List Txn) → f x ≡ true → find f (x ∷ xs) ≡ Some x
find_head f x xs e = ap (λ b. cond b (Some x) (find f xs)) e

find_less : (f g k : Txn → Bool) (xs : List Txn) → ((t : Txn) → k t ≡ true → g t ≡ true) → find f (filter g xs) ≡ None → find f (filter k xs) ≡ None
find_less f g k [] sub e = refl
find_less f g k (x ∷ xs) sub e = go (k x) (g x) (f x) refl refl refl e (find_less f g k xs sub)
  where
    go : (b c d : Bool) → k x ≡ b → g x ≡ c → f x ≡ d → find f (cond c (x ∷ filter g xs) (filter g xs)) ≡ None → (find f (filter g xs) ≡ None → find f (filter k xs) ≡ None) → find f (cond b (x ∷ filter k xs) (filter k xs)) ≡ None
    go true true true kq gq fq e rest = absurd (none_is x (sym e ∙ ap (λ d. cond d (Some x) (find f (filter g xs))) fq))
    go true true false kq gq fq e rest = ap (λ d. cond d (Some x) (find f (filter k xs))) fq ∙ rest (sym (ap (λ d. cond d (Some x) (find f (filter g xs))) fq) ∙ e)
    go true false d kq gq fq e rest = absurd (true≢false (sym (sub x kq) ∙ gq))
    go false true true kq gq fq e rest = absurd (none_is x (sym e ∙ ap (λ d. cond d (Some x) (find f (filter g xs))) fq))
    go false true false kq gq fq e rest = rest (sym (ap (λ d. cond d (Some x) (find f (filter g xs))) fq) ∙ e)
    go false false d kq gq fq e rest = rest e

has_split_txn : (xs ys : List Txn) (t : Txn) → has_txn (xs ++ ys) t ≡ true → (has_txn xs t ≡ true) ⊎ (has_txn ys t ≡ true)
has_split_txn xs ys t h = elim (cases_true (has_txn xs t)) [ inl q ↦ inl q | inr q ↦ inr (grind (arith, common_steps, h, q, list_any-append (is_txn t) xs ys)) ]

-- filters keep lists without repetition
filter_member : (f : Txn → Bool) (xs : List Txn) (t : Txn) → has_txn (filter f xs) t ≡ true → (has_txn xs t ≡ true) × (f t ≡ true)
filter_member f [] t h = absurd (true≢false (sym h))
filter_member f (x ∷ xs) t h = go (f x) refl h (filter_member f xs t)
  where
    go : (b : Bool) → f x ≡ b → has_txn (cond b (x ∷ filter f xs) (filter f xs)) t ≡ true → (has_txn (filter f xs) t ≡ true → (has_txn xs t ≡ true) × (f t ≡ true)) → (has_txn (x ∷ xs) t ≡ true) × (f t ≡ true)
    go true q h rest = elim (cases_true (x.0 == t.0)) [
      | inl e ↦ (or_left _ _ e, subst (λ z. f z ≡ true) (same_txn x t e) q)
      | inr e ↦ (let r = rest (grind (arith, common_steps, h, e)) in (grind (arith, common_steps, r.0), r.1))
    ]
    go false q h rest = let r = rest h in (grind (arith, common_steps, r.0), r.1)

filter_once : (f : Txn → Bool) (xs : List Txn) → AllOnce xs → AllOnce (filter f xs)
filter_once f [] o = tt
filter_once f (x ∷ xs) o = go (f x) (filter_once f xs o.1)
  where
    go : (b : Bool) → AllOnce (filter f xs) → AllOnce (cond b (x ∷ filter f xs) (filter f xs))
    go true rest = (not_true (has_txn (filter f xs) x) (λ h. true≢false (sym (filter_member f xs x h).0 ∙ o.0)), rest)
    go false rest = rest

counted_once : (first many : ℕ) → AllOnce (map txn (count_from first many))
counted_once first zero = tt
counted_once first (suc many) = (not_true (has_txn (map txn (count_from (first + 1) many)) (txn first)) (λ h. omega (arith, (counted (first + 1) many first h).0)), counted_once (first + 1) many)

-- what entries do to what is in force
turned_end : (f : InForce) (next : Option (RKind × ℕ)) → ((turn_end f next).switches ≡ f.switches) × ((turn_end f next).off ≡ f.off)
turned_end f None = (refl, refl)
turned_end f (Some c) = (refl, refl)

turned : (w : Workload) (p : List RNoted) (k : ℕ) (e : Real) → is_switch_on (λ j. true) e ≡ false → ((turn w p (in_force w p) k e).switches ≡ (in_force w p).switches) × ((turn w p (in_force w p) k e).off ≡ (in_force w p).off)
turned w p k (SwitchOn j kind method) q = absurd (true≢false q)
turned w p k (SwitchEnd j) q = turned_end (in_force w p) (in_force w p).next
turned w p k other q = (refl, refl)

nobody_off : (g : Txn → Bool) (ts : List Txn) → filter (λ t. false && g t) ts ≡ []
nobody_off g [] = refl
nobody_off g (t ∷ ts) = nobody_off g ts

module _ (w : Workload) (p : List RNoted) (e : Real) where
  kept : is_switch_on (λ j. true) e ≡ false → ((in_force w (add p e)).switches ≡ (in_force w p).switches) × ((in_force w (add p e)).off ≡ (in_force w p).off)
  kept q = let t = turned w p (length p + 1) e q in let f = in_force_push w p e in (ap (λ (f : InForce). f.switches) f ∙ t.0, ap (λ (f : InForce). f.off) f ∙ t.1)

  ended_add : (t : Txn) → has_ended p t ≡ true → has_ended (add p e) t ≡ true
  ended_add t h = list_any-append (λ n. is_end_of t n.entry) p (next p e ∷ []) ∙ or_left _ _ h

  pub ran : (t : Txn) → is_begin_of t e ≡ false → is_running (add p e) t ≡ true → is_running p t ≡ true
  ran t b h = grind (arith, common_steps, b, h, has_begun_push p (next p e) t, list_any-append (λ n. is_end_of t n.entry) p (next p e ∷ []))

  runs_on : (t : Txn) → is_end_of t e ≡ false → is_running p t ≡ true → is_running (add p e) t ≡ true
  runs_on t b h = grind (arith, common_steps, b, h, has_begun_push p (next p e) t, list_any-append (λ n. is_end_of t n.entry) p (next p e ∷ []))

  homes_stay : vector w (add p e) ≡ vector w p → ((t : Txn) → is_begin_of t e ≡ false) → home_down w p ≡ None → home_down w (add p e) ≡ None
  homes_stay same none up =
      let old : find (λ t. not (is_up w p (home w t))) (running w p) ≡ None = map_none _ (find (λ t. not (is_up w p (home w t))) (running w p)) up in
      let less : find (λ t. not (is_up w p (home w t))) (running w (add p e)) ≡ None = find_less (λ t. not (is_up w p (home w t))) (is_running p) (is_running (add p e)) (txns w) (λ t. ran t (none t)) old in
      ap (option_map _) (ap (λ v. find (λ t. not (is_site_up v (home w t))) (running w (add p e))) same ∙ less)

came : (w : Workload) (p : List RNoted) (k : ℕ) (kind : RKind) (method : Method) → ((in_force w (add p (SwitchOn k kind method))).switches ≡ (in_force w p).switches + 1) × ((in_force w (add p (SwitchOn k kind method))).off ≡ off_list w p method kind)
came w p k kind Generic = let f = in_force_push w p (SwitchOn k kind Generic) in (ap (λ (f : InForce). f.switches) f, ap (λ (f : InForce). f.off) f)
came w p k kind Convert = let f = in_force_push w p (SwitchOn k kind Convert) in (ap (λ (f : InForce). f.switches) f, ap (λ (f : InForce). f.off) f)
came w p k kind Suffix = let f = in_force_push w p (SwitchOn k kind Suffix) in (ap (λ (f : InForce). f.switches) f, ap (λ (f : InForce). f.off) f ∙ sym (nobody_off (is_backward p) (running w p)))

not_running : (p : List RNoted) (t : Txn) → has_ended p t ≡ true → is_running p t ≡ false
not_running p t h = grind (arith, common_steps, h)

-- an Abort that names a switch names the last, which aborts its transaction next
names : (w : Workload) (p : List RNoted) (k : ℕ) (e : Real) → Says w p e → is_aborted_by k e ≡ true → ((in_force w p).switches ≡ k) × ((t : Txn) × (find (is_running p) (in_force w p).off ≡ Some t))
names w p k (Abort t cause act) (inl free) q = absurd (true≢false (sym q ∙ ap (λ o. option_map_or (λ j. j == k) o false) free))
names w p k (Abort t cause act) (inr (is, found)) q = (eqb-true (in_force w p).switches k (sym (ap (λ c. option_map_or (λ j. j == k) (switch_of c) false) is) ∙ q), (t, found))
names w p k other f q = absurd (true≢false (sym q))

switch_calm : (k : ℕ) (e : Real) → is_switch_on (λ j. true) e ≡ true → is_aborted_by k e ≡ false
switch_calm k (SwitchOn j kind method) q = refl
switch_calm k other q = absurd (true≢false (sym q))

module _ (w : Workload) (h : List Real) (at k : ℕ) (ts : List Txn) (g : Progress w h (noted_in h) at k ts) where
  found_left : (in_force w (noted_in h)).switches ≡ k → find (is_running (noted_in h)) (in_force w (noted_in h)).off ≡ find (is_running (noted_in h)) g.left
  found_left q = ap (find (is_running (noted_in h))) (g.last q ∙ g.whole) ∙ find_past (is_running (noted_in h)) g.aborted g.left (λ t m. not_running (noted_in h) t (g.ended t m))

  within_more : (e : Real) → at ≤ length (h ++ e ∷ [])
  within_more e = let l : at ≤ length h = g.within in omega (arith, length-append h (e ∷ []))

  follow_more : (e : Real) → drop at (h ++ e ∷ []) ≡ (map (off_by k) g.aborted ++ g.behind) ++ e ∷ []
  follow_more e = drop-append-le at h (e ∷ []) g.within ∙ ap (λ l. l ++ e ∷ []) g.follow

  -- nobody is left to abort
  over_add : (e : Real) → Says w (noted_in h) e → g.left ≡ [] → ((j : ℕ) (kind : RKind) (method : Method) → e ≡ SwitchOn j kind method → (in_force w (add (noted_in h) e)).switches ≡ (in_force w (noted_in h)).switches + 1) → Progress w (h ++ e ∷ []) (add (noted_in h) e) at k ts
  over_add e says none on = record {
    aborted = g.aborted;
    left = g.left;
    behind = g.behind ++ e ∷ [];
    whole = g.whole;
    within = within_more e;
    follow = follow_more e ∙ append_assoc (map (off_by k) g.aborted) g.behind (e ∷ []);
    count = count_push (is_aborted_by k) h e ∙ ap (λ b. count_by (is_aborted_by k) h + (if b then 1 else 0)) other ∙ omega (arith, g.count);
    low = elim more [ inl a ↦ (let l : k ≤ (in_force w (noted_in h)).switches = g.low in omega (arith, a.0)) | inr a ↦ (let l : k ≤ (in_force w (noted_in h)).switches = g.low in omega (arith, a)) ];
    last = λ q. elim more [ inl a ↦ a.1 ∙ g.last (sym a.0 ∙ q) | inr a ↦ absurd (let l : k ≤ (in_force w (noted_in h)).switches = g.low in omega (arith, a, q)) ];
    over = inl none;
    ended = λ t m. ended_add w (noted_in h) e t (g.ended t m);
    runs = λ t m. absurd (true≢false (sym m ∙ ap (λ l. has_txn l t) none));
    once = g.once;
  }
    where
      other : is_aborted_by k e ≡ false
      other = not_true (is_aborted_by k e) (λ q. (let n = names w (noted_in h) k e says q in none_is n.1.0 (ap (find (is_running (noted_in h))) (sym none) ∙ sym (found_left n.0) ∙ n.1.1)))

      is_on : (e : Real) → is_switch_on (λ j. true) e ≡ true → (j : ℕ) × (kind : RKind) × (method : Method) × (e ≡ SwitchOn j kind method)
      is_on (SwitchOn j kind method) q = (j, kind, method, refl)
      is_on other q = absurd (true≢false (sym q))

      more : (((in_force w (add (noted_in h) e)).switches ≡ (in_force w (noted_in h)).switches) × ((in_force w (add (noted_in h) e)).off ≡ (in_force w (noted_in h)).off)) ⊎ ((in_force w (add (noted_in h) e)).switches ≡ (in_force w (noted_in h)).switches + 1)
      more = elim (cases_true (is_switch_on (λ j. true) e)) [
        | inl q ↦ (let i = is_on e q in inr (on i.0 i.1 i.2 i.3))
        | inr q ↦ inl (kept w (noted_in h) e q)
      ]

  -- the first of those left is aborted
  abort_add : (t : Txn) (rest : List Txn) → g.left ≡ t ∷ rest → g.behind ≡ [] → (in_force w (noted_in h)).switches ≡ k → home_down w (noted_in h) ≡ None → Progress w (h ++ off_by k t ∷ []) (add (noted_in h) (off_by k t)) at k ts
  abort_add t rest left empty now up = record {
    aborted = g.aborted ++ t ∷ [];
    left = rest;
    behind = [];
    whole = g.whole ∙ ap (λ l. g.aborted ++ l) left ∙ sym (append_assoc g.aborted (t ∷ []) rest);
    within = within_more (off_by k t);
    follow = follow_more (off_by k t) ∙ ap (λ l. (map (off_by k) g.aborted ++ l) ++ off_by k t ∷ []) empty ∙ ap (λ l. l ++ off_by k t ∷ []) (append-nil (map (off_by k) g.aborted)) ∙ sym (map-append (off_by k) g.aborted (t ∷ [])) ∙ sym (append-nil (map (off_by k) (g.aborted ++ t ∷ [])));
    count = count_push (is_aborted_by k) h (off_by k t) ∙ ap (λ b. count_by (is_aborted_by k) h + (if b then 1 else 0)) (eq_self k k refl) ∙ omega (arith, g.count, length-append g.aborted (t ∷ []));
    low = (let l : k ≤ (in_force w (noted_in h)).switches = g.low in omega (arith, same.0));
    last = λ q. same.1 ∙ g.last now;
    over = inr (refl, same.0 ∙ now, homes_stay w (noted_in h) (off_by k t) (vector_push w.sites (noted_in h) (next (noted_in h) (off_by k t))) (λ u. refl) up);
    ended = λ u m. elim (has_split_txn g.aborted (t ∷ []) u m) [
      | inl old ↦ ended_add w (noted_in h) (off_by k t) u (g.ended u old)
      | inr new ↦ list_any-append (λ n. is_end_of u n.entry) (noted_in h) (next (noted_in h) (off_by k t) ∷ []) ∙ grind (arith, common_steps, new)
    ];
    runs = λ u m. runs_on w (noted_in h) (off_by k t) u (not_true (t.0 == u.0) (λ q. true≢false (sym m ∙ ap (has_txn rest) (sym (same_txn t u q)) ∙ once.0))) (g.runs u (ap (λ l. has_txn l u) left ∙ grind (arith, common_steps, m)));
    once = once.1;
  }
    where
      same : ((in_force w (add (noted_in h) (off_by k t))).switches ≡ (in_force w (noted_in h)).switches) × ((in_force w (add (noted_in h) (off_by k t))).off ≡ (in_force w (noted_in h)).off)
      same = kept w (noted_in h) (off_by k t) refl

      once : AllOnce (t ∷ rest)
      once = subst AllOnce left g.once

  -- who is next to be aborted where somebody is left
  next_off : (t : Txn) (rest : List Txn) → g.left ≡ t ∷ rest → (in_force w (noted_in h)).switches ≡ k → find (is_running (noted_in h)) (in_force w (noted_in h)).off ≡ Some t
  next_off t rest left now = found_left now ∙ ap (find (is_running (noted_in h))) left ∙ find_head (is_running (noted_in h)) t rest (g.runs t (ap (λ l. has_txn l t) left ∙ or_left _ _ (eq_self t.0 t.0 refl)))

  progress_add : (e : Real) → Allowed w (noted_in h) e → ((j : ℕ) (kind : RKind) (method : Method) → e ≡ SwitchOn j kind method → (in_force w (add (noted_in h) e)).switches ≡ (in_force w (noted_in h)).switches + 1) → Progress w (h ++ e ∷ []) (add (noted_in h) e) at k ts
  progress_add e allowed on = elim g.over [ inl none ↦ over_add e (says w (noted_in h) e allowed) none on | inr (empty, now, up) ↦ pending g.left refl empty now up ]
    where
      pending : (left : List Txn) → g.left ≡ left → g.behind ≡ [] → (in_force w (noted_in h)).switches ≡ k → home_down w (noted_in h) ≡ None → Progress w (h ++ e ∷ []) (add (noted_in h) e) at k ts
      pending [] q empty now up = over_add e (says w (noted_in h) e allowed) q on
      pending (t ∷ rest) q empty now up =
          let comes : e ≡ off_by (in_force w (noted_in h)).switches t = off_comes w (noted_in h) e (off_by (in_force w (noted_in h)).switches t) allowed up (ap (option_map _) (next_off t rest q now)) in
          subst (λ z. Progress w (h ++ z ∷ []) (add (noted_in h) z) at k ts) (sym (comes ∙ ap (λ j. off_by j t) now)) (abort_add t rest q empty now up)

  -- where nothing is forced any more all are aborted
  just : forced w (noted_in h) ≡ None → AbortsJust h at k ts
  just free = record {
    follow = ap (λ l. take (length ts) l) g.follow ∙ ap (λ l. take (length l) (map (off_by k) g.aborted ++ g.behind)) all ∙ ap (λ n. take n (map (off_by k) g.aborted ++ g.behind)) (sym (length-map g.aborted (off_by k))) ∙ take-append_seam (map (off_by k) g.aborted) g.behind ∙ sym (ap (map (off_by k)) all);
    no_other = g.count ∙ sym (ap length all);
  }
    where
      off_none : (a b c d f : Option Real) → earliest (a ∷ b ∷ c ∷ d ∷ f ∷ []) ≡ None → b ≡ None
      off_none (Some a) b c d f q = absurd (none_is a (sym q))
      off_none None (Some b) c d f q = absurd (none_is b (sym q))
      off_none None None c d f q = refl

      nobody : find (is_running (noted_in h)) (in_force w (noted_in h)).off ≡ None
      nobody = map_none _ (find (is_running (noted_in h)) (in_force w (noted_in h)).off) (off_none (home_down w (noted_in h)) (switch_off (noted_in h) (in_force w (noted_in h))) (switch_end w (noted_in h) (in_force w (noted_in h))) (switch_on w (noted_in h) (in_force w (noted_in h))) (woken w (noted_in h)) free)

      none_left : (left : List Txn) → g.left ≡ left → (in_force w (noted_in h)).switches ≡ k → left ≡ []
      none_left [] q now = refl
      none_left (t ∷ rest) q now = absurd (none_is t (sym nobody ∙ next_off t rest q now))

      all : ts ≡ g.aborted
      all = g.whole ∙ ap (λ l. g.aborted ++ l) (elim g.over [ inl none ↦ none | inr (empty, now, up) ↦ none_left g.left refl now ]) ∙ append-nil g.aborted

-- what was granted is granted by each controller in force
granted_by_all : (w : Workload) (p : List RNoted) (q : Question) → verdict w p q ≡ verdicts.Grant → GrantedByAll w p q
granted_by_all w p q e = OnTrue_from (is_joint (in_force w p)) _ (λ j. go (in_force w p).next (each_grants w p q e).1)
  where
    go : (next : Option (RKind × ℕ)) → ((c : RKind × ℕ) → next ≡ Some c → verdict_of c.0 (view_of (past c.1) p) q ≡ verdicts.Grant) → list_all (λ c. is_granted (verdict_of c.0 c.1 q)) (((in_force w p).kind, view_of (in_force w p).view p) ∷ newer p next) ≡ true
    go None g = and_from _ _ (ap is_granted (each_grants w p q e).0) refl
    go (Some c) g = and_from _ _ (ap is_granted (each_grants w p q e).0) (and_from _ _ (ap is_granted (g c refl)) refl)

module _ (w : Workload) (h : List Real) (e : Real) (s : Switching w h (noted_in h)) (allowed : Allowed w (noted_in h) e) where
  on_grows : (j : ℕ) (kind : RKind) (method : Method) → e ≡ SwitchOn j kind method → (in_force w (add (noted_in h) e)).switches ≡ (in_force w (noted_in h)).switches + 1
  on_grows j kind method q = subst (λ z. (in_force w (add (noted_in h) z)).switches ≡ (in_force w (noted_in h)).switches + 1) (sym q) (came w (noted_in h) j kind method).0

  row_add : (q : List RNoted) (at : ℕ) (o : Real) → Row w h (noted_in h) q at o → Row w (h ++ e ∷ []) (add (noted_in h) e) q at o
  row_add q at (SwitchOn k kind method) r = progress_add w h at k (off_list w q method kind) r e allowed on_grows
  row_add q at (Begin t site) r = tt
  row_add q at (Read t x site) r = r
  row_add q at (Wait t request) r = tt
  row_add q at (Commit t request applied) r = r
  row_add q at (Abort t cause act) r = r
  row_add q at (Ack t site) r = tt
  row_add q at (SwitchEnd k) r = tt
  row_add q at (Down site) r = tt
  row_add q at (Up site session) r = tt
  row_add q at (Clear site x version) r = tt

after_switch : (w : Workload) (h : List Real) → Switching w h (noted_in h) → (t : Txn) (cause : Cause) → Caused w (noted_in h) t cause → is_after_switch (noted_in h) cause ≡ true
after_switch w h s t cause (inl free) = ap (λ o. option_map_or (λ k. list_any (λ n. is_switch_on (λ j. j == k) n.entry) (noted_in h)) o true) free
after_switch w h s t cause (inr (is, found)) = elim s.named [
  | inl none ↦ absurd (none_is t (ap (find (is_running (noted_in h))) (sym none) ∙ found))
  | inr on ↦ ap (λ c. option_map_or (λ k. list_any (λ n. is_switch_on (λ j. j == k) n.entry) (noted_in h)) (switch_of c) true) is ∙ on
]

-- a switch that comes on now
switch_starts : (w : Workload) (h : List Real) (k : ℕ) (kind : RKind) (method : Method) → Switching w h (noted_in h) → Allowed w (noted_in h) (SwitchOn k kind method) → Progress w (h ++ SwitchOn k kind method ∷ []) (add (noted_in h) (SwitchOn k kind method)) (length (noted_in h) + 1) k (off_list w (noted_in h) method kind)
switch_starts w h k kind method s allowed = record {
  aborted = [];
  left = off_list w (noted_in h) method kind;
  behind = [];
  whole = refl;
  within = omega (arith, noted_length h, length-append h (SwitchOn k kind method ∷ []));
  follow = drop_all (length (noted_in h) + 1) (h ++ SwitchOn k kind method ∷ []) (omega (arith, noted_length h, length-append h (SwitchOn k kind method ∷ [])));
  count = count_push (is_aborted_by k) h (SwitchOn k kind method) ∙ omega (arith, s.fresh k (omega (arith, said.0)));
  low = omega (arith, said.0, now.0);
  last = λ q. now.1;
  over = inr (refl, now.0 ∙ sym said.0, homes_stay w (noted_in h) (SwitchOn k kind method) (vector_push w.sites (noted_in h) (next (noted_in h) (SwitchOn k kind method))) (λ t. refl) (homes_up w (noted_in h) k kind method allowed));
  ended = λ t m. absurd (true≢false (sym m));
  runs = λ t m. runs_on w (noted_in h) (SwitchOn k kind method) t refl (filter_member (is_running (noted_in h)) (txns w) t (filter_member (λ t. aborts_backward method kind && is_backward (noted_in h) t) (running w (noted_in h)) t m).0).1;
  once = filter_once (λ t. aborts_backward method kind && is_backward (noted_in h) t) (running w (noted_in h)) (filter_once (is_running (noted_in h)) (txns w) (counted_once 1 (length w.programs * (w.restarts + 1))));
}
  where
    said : Says w (noted_in h) (SwitchOn k kind method)
    said = says w (noted_in h) (SwitchOn k kind method) allowed

    now : ((in_force w (add (noted_in h) (SwitchOn k kind method))).switches ≡ (in_force w (noted_in h)).switches + 1) × ((in_force w (add (noted_in h) (SwitchOn k kind method))).off ≡ off_list w (noted_in h) method kind)
    now = came w (noted_in h) k kind method

row_new : (w : Workload) (h : List Real) (e : Real) → Switching w h (noted_in h) → Allowed w (noted_in h) e → Fact w (noted_in h) e → Says w (noted_in h) e → Row w (h ++ e ∷ []) (add (noted_in h) e) (noted_in h) (length (noted_in h) + 1) e
row_new w h (SwitchOn k kind method) s a f y = switch_starts w h k kind method s a
row_new w h (Begin t site) s a f y = tt
row_new w h (Read t x site) s a f y = (granted_by_all w (noted_in h) (reading t (stamp (noted_in h) t) x) f.2, y)
row_new w h (Wait t request) s a f y = tt
row_new w h (Commit t request applied) s a f y = granted_by_all w (noted_in h) (writing t (stamp (noted_in h) t) request.writes) f.2
row_new w h (Abort t cause act) s a f y = after_switch w h s t cause y
row_new w h (Ack t site) s a f y = tt
row_new w h (SwitchEnd k) s a f y = tt
row_new w h (Down site) s a f y = tt
row_new w h (Up site session) s a f y = tt
row_new w h (Clear site x version) s a f y = tt

-- what becomes of the counts and of the last SwitchOn
fresh_add : (w : Workload) (h : List Real) (e : Real) → Switching w h (noted_in h) → Says w (noted_in h) e → (((in_force w (add (noted_in h) e)).switches ≡ (in_force w (noted_in h)).switches) ⊎ ((in_force w (add (noted_in h) e)).switches ≡ (in_force w (noted_in h)).switches + 1)) → (k : ℕ) → (in_force w (add (noted_in h) e)).switches < k → count_by (is_aborted_by k) (h ++ e ∷ []) ≡ 0
fresh_add w h e s y more k l = count_push (is_aborted_by k) h e ∙ ap (λ b. count_by (is_aborted_by k) h + (if b then 1 else 0)) other ∙ omega (arith, s.fresh k past)
  where
    past : (in_force w (noted_in h)).switches < k
    past = elim more [ inl q ↦ omega (arith, q, l) | inr q ↦ omega (arith, q, l) ]

    other : is_aborted_by k e ≡ false
    other = not_true (is_aborted_by k e) (λ q. omega (arith, (names w (noted_in h) k e y q).0, past))

pub switching_add : (w : Workload) (h : List Real) (e : Real) → Switching w h (noted_in h) → Allowed w (noted_in h) e → Switching w (h ++ e ∷ []) (add (noted_in h) e)
switching_add w h e s a = record {
  rows = (each_push (λ q n. Row w (h ++ e ∷ []) (add (noted_in h) e) q n.at n.entry) (noted_in h) (next (noted_in h) e)).1 (each_weaker (λ q n. Row w h (noted_in h) q n.at n.entry) (λ q n. Row w (h ++ e ∷ []) (add (noted_in h) e) q n.at n.entry) (λ q n. row_add w h e s a q n.at n.entry) [] (noted_in h) s.rows, row_new w h e s a (fact w (noted_in h) e a) (says w (noted_in h) e a));
  fresh = fresh_add w h e s (says w (noted_in h) e a) (elim (sorted e) [ inl q ↦ inl (kept w (noted_in h) e q).0 | inr i ↦ inr (on_grows w h e s a i.0 i.1 i.2 i.3) ]);
  named = elim (sorted e) [
    | inl q ↦ stays (kept w (noted_in h) e q)
    | inr i ↦ inr (list_any-append (λ n. is_switch_on (λ j. j == (in_force w (add (noted_in h) e)).switches) n.entry) (noted_in h) (next (noted_in h) e ∷ []) ∙ grind (arith, common_steps, came_named i))
  ];
}
  where
    sorted : (o : Real) → (is_switch_on (λ j. true) o ≡ false) ⊎ ((j : ℕ) × (kind : RKind) × (method : Method) × (o ≡ SwitchOn j kind method))
    sorted (SwitchOn j kind method) = inr (j, kind, method, refl)
    sorted other = inl refl

    stays : ((in_force w (add (noted_in h) e)).switches ≡ (in_force w (noted_in h)).switches) × ((in_force w (add (noted_in h) e)).off ≡ (in_force w (noted_in h)).off) → ((in_force w (add (noted_in h) e)).off ≡ []) ⊎ (list_any (λ n. is_switch_on (λ j. j == (in_force w (add (noted_in h) e)).switches) n.entry) (add (noted_in h) e) ≡ true)
    stays same = elim s.named [
      | inl none ↦ inl (same.1 ∙ none)
      | inr on ↦ inr (ap (λ k. list_any (λ n. is_switch_on (λ j. j == k) n.entry) (add (noted_in h) e)) same.0 ∙ list_any-append (λ n. is_switch_on (λ j. j == (in_force w (noted_in h)).switches) n.entry) (noted_in h) (next (noted_in h) e ∷ []) ∙ or_left _ _ on)
    ]

    came_named : (j : ℕ) × (kind : RKind) × (method : Method) × (e ≡ SwitchOn j kind method) → is_switch_on (λ j. j == (in_force w (add (noted_in h) e)).switches) e ≡ true
    came_named (j, kind, method, q) =
        let y : Says w (noted_in h) (SwitchOn j kind method) = subst (Says w (noted_in h)) q (says w (noted_in h) e a) in
        ap (is_switch_on (λ j. j == (in_force w (add (noted_in h) e)).switches)) q ∙ eq_self j (in_force w (add (noted_in h) e)).switches (y.0 ∙ sym (on_grows w h e s a j kind method q))

legal_switching : (w : Workload) (h : List Real) → Legal w h → Switching w h (noted_in h)
legal_switching w = by_last (λ h. Legal w h → Switching w h (noted_in h)) (λ l. record { rows = tt; fresh = λ k l. refl; named = inl refl }) more
  where
    more : (h : List Real) (e : Real) → (Legal w h → Switching w h (noted_in h)) → Legal w (h ++ e ∷ []) → Switching w (h ++ e ∷ []) (noted_in (h ++ e ∷ []))
    more h e rest l = let q = (legal_push w h e).0 l in subst (Switching w (h ++ e ∷ [])) (sym (noted_push h e)) (switching_add w h e (rest q.0) q.1)

-- so a legal history after which nothing is forced is switched
pub legal_switched : (w : Workload) (h : List Real) → Legal w h → forced w (noted_in h) ≡ None → Switched w h
legal_switched w h l free = each_weaker (λ q n. Row w h (noted_in h) q n.at n.entry) (λ q n. SwitchRow w h q n.at n.entry) (λ q n. row q n.at n.entry) [] (noted_in h) (legal_switching w h l).rows
  where
    row : (q : List RNoted) (at : ℕ) (e : Real) → Row w h (noted_in h) q at e → SwitchRow w h q at e
    row q at (SwitchOn k kind method) r = just w h at k (off_list w q method kind) r free
    row q at (Begin t site) r = tt
    row q at (Read t x site) r = r
    row q at (Wait t request) r = tt
    row q at (Commit t request applied) r = r
    row q at (Abort t cause act) r = r
    row q at (Ack t site) r = tt
    row q at (SwitchEnd k) r = tt
    row q at (Down site) r = tt
    row q at (Up site session) r = tt
    row q at (Clear site x version) r = tt
