-- The switches of a placed history did what they may. The forced entries are those of legal histories, so what those do is known; the others
-- are no switch's, and abort nobody for one.
use Rattle.std.proofs.Common.{◌≡◌, ℕ, ◌+◌, ◌<◌, ◌≤◌, inl, inr, Bool, true, false, cond, if◌then◌else◌, ◌==◌, List, [], ◌∷◌, ◌++◌, length, map, arith, sym, ◌∙◌, ap, subst, refl, Option, Some, None, append-nil, append_assoc, length-append}
use Rattle.std.specs.Prelude.{count_by, take, slice_get, ⊤}
use Rattle.std.specs.List.{AllByRecursion, list_any, list_all}
use Rattle.std.specs.Option.{option_map_or}
use Rattle.std.proofs.lemmas.Bool.{true≢false, and_from, or_left, or_right, OnTrue_from}
use Rattle.std.proofs.lemmas.List.{drop-append-le, length-map}
use Rattle.std.proofs.lemmas.List.Folds.{list_any-append}
use Rattle.std.proofs.lemmas.List.Sums.{sum_by-append}
use Rattle.std.proofs.Math.Seq.{take-append_seam}
use Rattle.raid_base.specs.declared.names.Txn.{Txn}
use Rattle.raid_base.specs.declared.names.Item.{Item}
use Rattle.raid_base.specs.declared.names.Site.{Site}
use Rattle.raid_base.specs.declared.entry.Act.{Act}
use Rattle.raid_base.specs.declared.entry.Act.TheVariants as acts
use Rattle.raid_base.specs.declared.entry.Cause.{Cause}
use Rattle.raid_base.specs.declared.entry.Cause.TheVariants.{SwitchOff}
use Rattle.raid_base.specs.declared.entry.Entry.{Entry}
use Rattle.raid_base.specs.declared.entry.Entry.TheVariants.{Begin, Read, Wait, Commit, Abort, Ack, SwitchOn, SwitchEnd, Down, Up, Clear}
use Rattle.raid_base.specs.declared.entry.Noted.{Noted}
use Rattle.raid_base.specs.declared.verdict.Kind.{Kind}
use Rattle.raid_base.specs.declared.verdict.Verdict.{Verdict}
use Rattle.raid_base.specs.declared.verdict.Verdict.TheVariants as verdicts
use Rattle.raid_base.specs.Names.{has_txn, has_site}
use Rattle.raid_workload.specs.declared.workload.Workload.{Workload}
use Rattle.raid_workload.specs.Parts.{home}
use Rattle.raid_rules.specs.Entries.{is_switch_on, is_end_of}
use Rattle.raid_rules.specs.History.{noted, add, next, stamp, is_running}
use Rattle.raid_rules.specs.Sessions.{source_for}
use Rattle.raid_rules.specs.Verdicts.{Question, reading, writing, verdict_of}
use Rattle.raid_rules.specs.Views.{view_of}
use Rattle.raid_rules.proofs.Places.{by_last}
use Rattle.raid_rules.proofs.Push.{noted_push}
use Rattle.raid_legal.specs.Seen.{sources}
use Rattle.raid_legal.specs.InForce.{InForce, in_force, verdict, is_joint, newer, past, off_list}
use Rattle.raid_legal.specs.Answers.{served}
use Rattle.raid_legal.specs.Forced.{forced}
use Rattle.raid_legal.specs.Legal.{Comes, EachSeeing}
use Rattle.raid_legal.specs.Switched.{switch_of, is_aborted_by, AbortsJust, is_granted, GrantedByAll, SwitchRow, Switched}
use Rattle.raid_legal.proofs.Push.{each_push}
use Rattle.raid_switch.specs.Force.{turns_nothing}
use Rattle.raid_serial.proofs.Facts.{Fact, each_grants, none_is, some_is}
use Rattle.raid_serial.proofs.Tamed.{find_none}
use Rattle.raid_serial.proofs.Translate.{eq_self}
use Rattle.raid_serial.proofs.Switches.{Progress, Switching, switching_add}
use Rattle.raid_placed.specs.Placed.{Sent, SentAbort, Goes, Placed}
use Rattle.raid_placed.proofs.Growth.{placed_same}
use Rattle.raid_placed.proofs.Sent.{placed_push, placed_fact, unforced_quiet}
use Rattle.raid_runs.specs.Unasked.{IsUnasked, SwitchesUnasked}

-- relations between entries and what stands before them
abbrev Passes : (List Noted → Noted → Type 0) → (List Noted → Noted → Type 0) → Entry → Type 0
Passes R T e = (q : List Noted) (at k : ℕ) → R q (record { at = at; stamp = k; entry = e }) → T q (record { at = at; stamp = k; entry = e })

each_weaker : (R T : List Noted → Noted → Type 0) (before p : List Noted) → EachSeeing R before p → ((e : Entry) → Passes R T e) → EachSeeing T before p
each_weaker R T before [] each f = tt
each_weaker R T before (n ∷ ns) each f = (f n.entry before n.at n.stamp each.0, each_weaker R T (before ++ n ∷ []) ns each.1 f)

each_add : (R S T : List Noted → Noted → Type 0) (p : List Noted) (n : Noted) → EachSeeing R [] p → S p n → ((e : Entry) → Passes R T e) → ((e : Entry) → Passes S T e) → EachSeeing T [] (p ++ n ∷ [])
each_add R S T p n each new f g = (each_push T p n).1 (each_weaker R T [] p each f, g n.entry p n.at n.stamp new)

-- lists
all_last : (P : Entry → Type 0) (h : List Entry) (e : Entry) → AllByRecursion P (h ++ e ∷ []) → AllByRecursion P h × P e
all_last P [] e a = (tt, a.0)
all_last P (x ∷ h) e a = let rest = all_last P h e a.1 in ((a.0, rest.0), rest.1)

count_push : (f : Entry → Bool) (h : List Entry) (e : Entry) → f e ≡ false → count_by f (h ++ e ∷ []) ≡ count_by f h
count_push f h e q = sum_by-append (λ x. cond (f x) 1 0) h (e ∷ []) ∙ ap (λ b. count_by f h + (0 + cond b 1 0)) q ∙ omega arith

any_push : (f : Noted → Bool) (p : List Noted) (n : Noted) → list_any f p ≡ true → list_any f (p ++ n ∷ []) ≡ true
any_push f p n q = list_any-append f p (n ∷ []) ∙ or_left _ _ q

-- the site that a read is granted at is a source
first_there : (found : List Site) (s : Site) → slice_get found 0 ≡ Some s → has_site found s ≡ true
first_there [] s q = absurd (none_is s q)
first_there (r ∷ rs) s q = or_left _ _ (eq_self r.0 s.0 (ap (λ (z : Site). z.0) (some_is r s q)))

source_there : (found : List Site) (home s : Site) → source_for found home ≡ Some s → has_site found s ≡ true
source_there found home s q = go (has_site found home) refl q
  where
    go : (b : Bool) → has_site found home ≡ b → (if b then Some home else slice_get found 0) ≡ Some s → has_site found s ≡ true
    go true here q = subst (λ z. has_site found z ≡ true) (some_is home s q) here
    go false here q = first_there found s q

served_there : (t : Txn) (x : Item) (o : Option Site) (v : Verdict) (s : Site) → served t x o v ≡ Read t x s → o ≡ Some s
served_there t x None v s q = absurd (cc q)
served_there t x (Some r) (verdicts.Reject why) s q = absurd (cc q)
served_there t x (Some r) verdicts.Wait s q = ap Some (cc q)
served_there t x (Some r) verdicts.Grant s q = ap Some (cc q)

-- what was granted is granted by each controller in force
granted_by_all : (w : Workload) (p : List Noted) (q : Question) → verdict w p q ≡ verdicts.Grant → GrantedByAll w p q
granted_by_all w p q e = OnTrue_from (is_joint (in_force w p)) _ (λ j. go (in_force w p).next (each_grants w p q e).1)
  where
    go : (next : Option (Kind × ℕ)) → ((c : Kind × ℕ) → next ≡ Some c → verdict_of c.0 (view_of (past c.1) p) q ≡ verdicts.Grant) →
        list_all (λ c. is_granted (verdict_of c.0 c.1 q)) (((in_force w p).kind, view_of (in_force w p).view p) ∷ newer p next) ≡ true
    go None g = and_from _ _ (ap is_granted (each_grants w p q e).0) refl
    go (Some c) g = and_from _ _ (ap is_granted (each_grants w p q e).0) (and_from _ _ (ap is_granted (g c refl)) refl)

-- what an entry says that wasn't forced: it is no switch's
abbrev Says : Workload → List Noted → Entry → Type 0
Says w p (Read t x site) = GrantedByAll w p (reading t (stamp p t) x) × (has_site (sources w p x) site ≡ true)
Says w p (Commit t request applied) = GrantedByAll w p (writing t (stamp p t) request.writes)
Says w p (Abort t cause act) = switch_of cause ≡ None
Says w p (SwitchOn k kind method) = ⊥
Says w p (SwitchEnd k) = ⊥
Says w p other = ⊤

module _ (w : Workload) (p : List Noted) where
  names_none : (t : Txn) (cause : Cause) (act : Act) → IsUnasked (Abort t cause act) → SentAbort w p t cause act → switch_of cause ≡ None
  names_none t (SwitchOff k) act unasked sent = absurd (subst (SentAbort w p t (SwitchOff k)) unasked sent)
  names_none t other act unasked sent = refl

  says : (e : Entry) → Fact w p e → IsUnasked e → Sent w p e → Says w p e
  says (Read t x site) fact unasked sent =
      (granted_by_all w p (reading t (stamp p t) x) fact.2, source_there (sources w p x) (home w t) site (served_there t x (source_for (sources w p x) (home w t)) (verdict w p (reading t (stamp p t) x)) site sent.1))
  says (Commit t request applied) fact unasked sent = granted_by_all w p (writing t (stamp p t) request.writes) fact.2
  says (Abort t cause act) fact unasked sent = names_none t cause act unasked sent
  says (SwitchOn k kind method) fact unasked sent = absurd sent
  says (SwitchEnd k) fact unasked sent = absurd sent
  says (Begin t site) fact unasked sent = tt
  says (Wait t request) fact unasked sent = tt
  says (Ack t site) fact unasked sent = tt
  says (Down site) fact unasked sent = tt
  says (Up site session) fact unasked sent = tt
  says (Clear site x version) fact unasked sent = tt

  calm : (k : ℕ) (e : Entry) → Says w p e → (turns_nothing e ≡ true) × (is_aborted_by k e ≡ false)
  calm k (Abort t cause act) said = (refl, ap (λ o. option_map_or (λ j. j == k) o false) said)
  calm k (SwitchOn j kind method) said = absurd said
  calm k (SwitchEnd j) said = absurd said
  calm k other said = (refl, refl)

-- the entry that aborts a transaction for the switch
abbrev off_by : ℕ → Txn → Entry
off_by k t = Abort t (SwitchOff k) acts.Nothing

-- a switch, where nothing is forced
module _ (w : Workload) (h : List Entry) (free : forced w (noted h) ≡ None) (at k : ℕ) (ts : List Txn) (g : Progress w h (noted h) at k ts) where
  none_left : g.left ≡ []
  none_left = elim g.over [ inl none ↦ none | inr (empty, now, up) ↦ go g.left refl now ]
    where
      go : (left : List Txn) → g.left ≡ left → (in_force w (noted h)).switches ≡ k → left ≡ []
      go [] q now = refl
      go (t ∷ rest) q now =
          let here : has_txn g.left t ≡ true = ap (λ l. has_txn l t) q ∙ or_left _ _ (eq_self t.0 t.0 refl) in
          absurd (find_none (is_running (noted h)) (in_force w (noted h)).off t (g.runs t here) (unforced_quiet w (noted h) free)
          (ap (λ l. has_txn l t) (g.last now ∙ g.whole) ∙ list_any-append (λ u. u.0 == t.0) g.aborted g.left ∙ or_right _ _ here))

  all : ts ≡ g.aborted
  all = g.whole ∙ ap (λ l. g.aborted ++ l) none_left ∙ append-nil g.aborted

  -- it has aborted just those that it may
  just : AbortsJust h at k ts
  just = record {
    follow = ap (take (length ts)) g.follow ∙ ap (λ l. take (length l) (map (off_by k) g.aborted ++ g.behind)) all
        ∙ ap (λ n. take n (map (off_by k) g.aborted ++ g.behind)) (sym (length-map g.aborted (off_by k)))
        ∙ take-append_seam (map (off_by k) g.aborted) g.behind ∙ sym (ap (map (off_by k)) all);
    no_other = g.count ∙ sym (ap length all);
  }

  -- and stays so with an entry that is no switch's
  stays : (e : Entry) → Says w (noted h) e → Progress w (h ++ e ∷ []) (add (noted h) e) at k ts
  stays e said = record {
    aborted = g.aborted;
    left = g.left;
    behind = g.behind ++ e ∷ [];
    whole = g.whole;
    within = (let short : at ≤ length h = g.within in omega (arith, short, length-append h (e ∷ [])));
    follow = drop-append-le at h (e ∷ []) g.within ∙ ap (λ l. l ++ e ∷ []) g.follow ∙ append_assoc (map (off_by k) g.aborted) g.behind (e ∷ []);
    count = count_push (is_aborted_by k) h e (calm w (noted h) k e said).1 ∙ g.count;
    low = subst (λ (f : InForce). k ≤ f.switches) (sym same) g.low;
    last = subst (λ (f : InForce). f.switches ≡ k → f.off ≡ ts) (sym same) g.last;
    over = inl none_left;
    ended = λ t m. any_push (λ n. is_end_of t n.entry) (noted h) (next (noted h) e) (g.ended t m);
    runs = λ t m. absurd (true≢false (sym m ∙ ap (λ l. has_txn l t) none_left));
    once = g.once;
  }
    where
      same : in_force w (add (noted h) e) ≡ in_force w (noted h)
      same = placed_same w (noted h) e (calm w (noted h) k e said).0

-- an entry that wasn't forced leaves all switches as they are
switching_stays : (w : Workload) (h : List Entry) (e : Entry) → Switching w h (noted h) → forced w (noted h) ≡ None → Says w (noted h) e → Switching w (h ++ e ∷ []) (add (noted h) e)
switching_stays w h e s free said = record {
  rows = each_add _ (λ q n. Says w q n.entry) _ (noted h) (next (noted h) e) s.rows said
      (elim [ SwitchOn k kind method ↦ λ q at j g. stays w h free at k (off_list w q method kind) g e said | other ↦ λ q at j r. r ])
      (elim [
        | SwitchOn k kind method ↦ λ q at j r. absurd r
        | SwitchEnd k ↦ λ q at j r. absurd r
        | Abort t cause act ↦ λ q at j r. ap (λ o. option_map_or (λ k. list_any (λ n. is_switch_on (λ j. j == k) n.entry) q) o true) r
        | other ↦ λ q at j r. r
      ]);
  fresh = λ k below. count_push (is_aborted_by k) h e (calm w (noted h) k e said).1 ∙ s.fresh k (subst (λ (f : InForce). f.switches < k) same below);
  named = elim s.named [
    | inl none ↦ inl (ap (λ (f : InForce). f.off) same ∙ none)
    | inr on ↦ inr (any_push (λ n. is_switch_on (λ j. j == (in_force w (add (noted h) e)).switches) n.entry) (noted h) (next (noted h) e)
        (ap (λ (f : InForce). list_any (λ n. is_switch_on (λ j. j == f.switches) n.entry) (noted h)) same ∙ on))
  ];
}
  where
    same : in_force w (add (noted h) e) ≡ in_force w (noted h)
    same = placed_same w (noted h) e (calm w (noted h) 0 e said).0

-- a forced entry is one that a legal history could have there
switching_goes : (w : Workload) (h : List Entry) (e : Entry) (o : Option Entry) → forced w (noted h) ≡ o → Goes w (noted h) e o → Fact w (noted h) e → IsUnasked e → Switching w h (noted h) → Switching w (h ++ e ∷ []) (add (noted h) e)
switching_goes w h e (Some must) q goes fact unasked s = switching_add w h e s (subst (Comes w (noted h) e) (sym q) goes)
switching_goes w h e None q goes fact unasked s = switching_stays w h e s q (says w (noted h) e fact unasked goes)

placed_switching : (w : Workload) (h : List Entry) → Placed w h → SwitchesUnasked h → Switching w h (noted h)
placed_switching w = by_last (λ h. Placed w h → SwitchesUnasked h → Switching w h (noted h)) (λ l u. record { rows = tt; fresh = λ k l. refl; named = inl refl }) more
  where
    more : (h : List Entry) (e : Entry) → (Placed w h → SwitchesUnasked h → Switching w h (noted h)) → Placed w (h ++ e ∷ []) → SwitchesUnasked (h ++ e ∷ []) → Switching w (h ++ e ∷ []) (noted (h ++ e ∷ []))
    more h e before l u =
        let parts = (placed_push w h e).0 l in
        let unasked = all_last IsUnasked h e u in
        subst (Switching w (h ++ e ∷ [])) (sym (noted_push h e)) (switching_goes w h e (forced w (noted h)) refl parts.1 (placed_fact w (noted h) e parts.1) unasked.1 (before parts.0 unasked.0))

-- so a placed history after which nothing is forced is switched
pub placed_switched : (w : Workload) (h : List Entry) → Placed w h → SwitchesUnasked h → forced w (noted h) ≡ None → Switched w h
placed_switched w h l u free =
    each_weaker _ (λ q n. SwitchRow w h q n.at n.entry) [] (noted h) (placed_switching w h l u).rows
    (elim [ SwitchOn k kind method ↦ λ q at j g. just w h free at k (off_list w q method kind) g | other ↦ λ q at j r. r ])
