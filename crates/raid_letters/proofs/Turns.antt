-- What the sequencer sends a site stands in turn: Applies ascend, and no transaction is dropped twice.
use Rattle.std.proofs.Common.{◌≡◌, ℕ, zero, suc, ◌+◌, ◌<◌, ◌≤◌, ◌==◌, Bool, true, false, not, ◌&&◌, ◌||◌, List, [], ◌∷◌, ◌++◌, length, length-append, map, filter, Option, Some, None, if◌then◌else◌, arith, sym, subst, ap, ◌∙◌, refl}
use Rattle.std.specs.Prelude.{⊤, flat_map}
use Rattle.std.specs.List.{AllByRecursion}
use Rattle.std.proofs.lemmas.Bool.{and_parts, eqb-true, true≢false}
use Rattle.std.proofs.lemmas.List.Folds.{list_any-append}
use Rattle.raid_base.specs.declared.names.Txn.{Txn}
use Rattle.raid_base.specs.declared.names.Site.{Site}
use Rattle.raid_base.specs.declared.entry.Act.{Act}
use Rattle.raid_base.specs.declared.entry.Act.TheVariants as acts
use Rattle.raid_base.specs.declared.entry.Cause.{Cause}
use Rattle.raid_base.specs.declared.entry.Entry.{Entry}
use Rattle.raid_base.specs.declared.entry.Entry.TheVariants.{Read, Commit, Abort, Down, Up}
use Rattle.raid_base.specs.declared.entry.Noted.{Noted}
use Rattle.raid_base.specs.Names.{is_txn, is_site, has_site}
use Rattle.raid_base.specs.Sites.{site}
use Rattle.raid_workload.specs.declared.workload.Workload.{Workload}
use Rattle.raid_workload.specs.Parts.{count_from, sites, home}
use Rattle.raid_rules.specs.Entries.{is_abort_of, is_end_of}
use Rattle.raid_rules.specs.History.{noted, next, has_begun, has_aborted, has_ended, is_running, is_waiting}
use Rattle.raid_rules.proofs.Push.{noted_push, same_txn}
use Rattle.raid_legal.specs.Seen.{vector, is_up}
use Rattle.raid_legal.specs.Forced.{forced}
use Rattle.raid_legal.specs.Legal.{is_free}
use Rattle.raid_legal.proofs.Left.{forced_compels}
use Rattle.raid_message.specs.declared.letter.Message.{Message}
use Rattle.raid_message.specs.declared.letter.Message.TheVariants as letters
use Rattle.raid_message.specs.declared.letter.Letter.{Letter}
use Rattle.raid_rules.specs.Sessions.{last_session}
use Rattle.raid_steps.specs.State.{Out, Turn, Sequencer, to_site}
use Rattle.raid_steps.specs.Sequencer as seq
use Rattle.raid_steps.specs.Sequencer.{so_far, place}
use Rattle.raid_placed.specs.Placed.{Placeable, Goes, SentAbort}
use Rattle.raid_sessions.proofs.Lists.{all_append, all_weaken}
use Rattle.raid_asks.proofs.Facts.{or_left, or_right, any_weaken}
use Rattle.raid_asks.proofs.Steps.{IsOther, AreOther, Steps, done, placed, passes}
use Rattle.raid_letters.specs.Says.{is_applied, was_applied, NoteSays, IsAfterApply, IsAfterDrop, IsBefore}
use Rattle.raid_letters.proofs.Later.{Later, later_on, placed_later}

-- an Apply or a Drop of what is in the history, and one of what isn't yet
abbrev pub IsOld : List Noted → Message → Type 0
IsOld p (letters.Apply t number) = number ≤ length p
IsOld p (letters.Drop t again) = has_aborted p t ≡ true
IsOld p other = ⊤

abbrev pub IsFresh : List Noted → Message → Type 0
IsFresh p (letters.Apply t number) = length p < number
IsFresh p (letters.Drop t again) = has_aborted p t ≡ false
IsFresh p other = ⊤

after_apply : (p : List Noted) (n : ℕ) (m : Message) → n ≤ length p → IsFresh p m → IsAfterApply n m
after_apply p n (letters.Apply t number) old fresh = omega (arith, old, fresh)
after_apply p n other old fresh = tt

after_drop : (p : List Noted) (t : Txn) (m : Message) → has_aborted p t ≡ true → IsFresh p m → IsAfterDrop t m
after_drop p t (letters.Drop u again) old fresh = go (is_txn t u) refl
  where
    go : (b : Bool) → is_txn t u ≡ b → is_txn t u ≡ false
    go true q = absurd (true≢false (sym old ∙ subst (λ z. has_aborted p z ≡ false) (same_txn u t q) fresh))
    go false q = q
after_drop p t other old fresh = tt

pub before_fresh : (p : List Noted) (m k : Message) → IsOld p m → IsFresh p k → IsBefore m k
before_fresh p (letters.Apply t number) k old fresh = after_apply p number k old fresh
before_fresh p (letters.Drop t again) k old fresh = after_drop p t k old fresh
before_fresh p other k old fresh = tt

old_later : (p q : List Noted) → Later p q → (m : Message) → IsOld p m → IsOld q m
old_later p q later (letters.Apply t number) old = (let long = later.long in omega (arith, old, long))
old_later p q later (letters.Drop t again) old = later.any (λ n. is_abort_of t n.entry) old
old_later p q later other old = tt

fresh_before : (p q : List Noted) → Later p q → (m : Message) → IsFresh q m → IsFresh p m
fresh_before p q later (letters.Apply t number) fresh = (let long = later.long in omega (arith, fresh, long))
fresh_before p q later (letters.Drop t again) fresh = go (has_aborted p t) refl
  where
    go : (b : Bool) → has_aborted p t ≡ b → has_aborted p t ≡ false
    go true e = absurd (true≢false (sym (later.any (λ n. is_abort_of t n.entry) e) ∙ fresh))
    go false e = e
fresh_before p q later other fresh = tt

-- a letter that says what there is is old
number_old : (k : ℕ) (t : Txn) (s : Site) (number : ℕ) (p : List Noted) → AllByRecursion (λ (n : Noted). n.at ≤ k) p → was_applied p t s number ≡ true → number ≤ k
number_old k t s number [] a q = absurd (true≢false (sym q))
number_old k t s number (n ∷ p) a q = go (n.at == number) refl (is_applied t s n.entry) q (number_old k t s number p a.1)
  where
    go : (b : Bool) → (n.at == number) ≡ b → (c : Bool) → (b && c || was_applied p t s number) ≡ true → (was_applied p t s number ≡ true → number ≤ k) → number ≤ k
    go true e true q rest = (let same = eqb-true n.at number e in let low = a.0 in omega (arith, same, low))
    go true e false q rest = rest q
    go false e c q rest = rest q

pub note_old : (w : Workload) (p : List Noted) (here : Site) (to : ℕ) (m : Message) → AllByRecursion (λ (n : Noted). n.at ≤ length p) p → NoteSays w p here to m → IsOld p m
note_old w p here to (letters.Apply t number) numbered q = number_old (length p) t here number p numbered q
note_old w p here to (letters.Drop t again) numbered q = q
note_old w p here to other numbered q = tt

-- of messages to one server the later may stand behind the earlier
abbrev pub IsBehind : Out → Out → Type 0
IsBehind x y = x.0 ≡ y.0 → IsBefore x.2 y.2

abbrev pub ArePaired : List Out → Type 0
ArePaired [] = ⊤
ArePaired (x ∷ xs) = AllByRecursion (IsBehind x) xs × ArePaired xs

pairs_append : (xs ys : List Out) → ArePaired xs → ArePaired ys → AllByRecursion (λ x. AllByRecursion (IsBehind x) ys) xs → ArePaired (xs ++ ys)
pairs_append [] ys a b c = b
pairs_append (x ∷ xs) ys a b c = (all_append (IsBehind x) xs ys a.0 c.0, pairs_append xs ys a.1 b c.1)

cross_fresh : (p : List Noted) (xs ys : List Out) → AllByRecursion (λ (x : Out). IsOld p x.2) xs → AllByRecursion (λ (y : Out). IsFresh p y.2) ys → AllByRecursion (λ x. AllByRecursion (IsBehind x) ys) xs
cross_fresh p [] ys a b = tt
cross_fresh p (x ∷ xs) ys a b = (all_weaken (λ (y : Out). IsFresh p y.2) (IsBehind x) ys (λ y q e. before_fresh p x.2 y.2 a.0 q) b, cross_fresh p xs ys a.1 b)

cross_apart : (k : ℕ) (xs ys : List Out) → AllByRecursion (λ (x : Out). x.0 ≡ k) xs → AllByRecursion (λ (y : Out). k + 1 ≤ y.0) ys → AllByRecursion (λ x. AllByRecursion (IsBehind x) ys) xs
cross_apart k [] ys a b = tt
cross_apart k (x ∷ xs) ys a b = (all_weaken (λ (y : Out). k + 1 ≤ y.0) (IsBehind x) ys (λ y q e. absurd (let at = a.0 in omega (arith, q, e, at))) b, cross_apart k xs ys a.1 b)

abbrev IsLoose : Out → Type 0
IsLoose x = (m : Message) → IsBefore x.2 m

loose_pairs : (xs : List Out) → AllByRecursion IsLoose xs → ArePaired xs
loose_pairs [] a = tt
loose_pairs (x ∷ xs) a = (go xs, loose_pairs xs a.1)
  where
    go : (ys : List Out) → AllByRecursion (IsBehind x) ys
    go [] = tt
    go (y ∷ ys) = ((λ e. a.0 y.2), go ys)

module _ (w : Workload) where
  loose_notes : (v : List ℕ) (m : Message) (ss : List Site) → ((k : Message) → IsBefore m k) → AllByRecursion IsLoose (map (λ s. to_site v s m) ss)
  loose_notes v m [] q = tt
  loose_notes v m (s ∷ ss) q = (q, loose_notes v m ss q)

  -- the same message to some sites, each once
  module _ (v : List ℕ) (m : Message) (test : Site → Bool) where
    abbrev notes : ℕ → ℕ → List Out
    notes a n = map (λ s. to_site v s m) (filter test (map site (count_from a n)))

    notes_high : (k a n : ℕ) → k ≤ a → AllByRecursion (λ (y : Out). k + 1 ≤ y.0) (notes a n)
    notes_high k a zero q = tt
    notes_high k a (suc n) q = go (test (site a)) (notes_high k (a + 1) n (omega (arith, q)))
      where
        go : (b : Bool) → AllByRecursion (λ (y : Out). k + 1 ≤ y.0) (notes (a + 1) n) → AllByRecursion (λ (y : Out). k + 1 ≤ y.0) (map (λ s. to_site v s m) (if b then site a ∷ filter test (map site (count_from (a + 1) n)) else filter test (map site (count_from (a + 1) n))))
        go true rest = (omega (arith, q), rest)
        go false rest = rest

    notes_pairs : (a n : ℕ) → ArePaired (notes a n)
    notes_pairs a zero = tt
    notes_pairs a (suc n) = go (test (site a)) (notes_pairs (a + 1) n)
      where
        go : (b : Bool) → ArePaired (notes (a + 1) n) → ArePaired (map (λ s. to_site v s m) (if b then site a ∷ filter test (map site (count_from (a + 1) n)) else filter test (map site (count_from (a + 1) n))))
        go true rest = ((cross_apart (a + 1) (to_site v (site a) m ∷ []) (notes (a + 1) n) (refl, tt) (notes_high (a + 1) (a + 1) n (omega arith))).0, rest)
        go false rest = rest

  -- what a Commit sends
  module _ (p : List Noted) (t : Txn) (applied : List Site) where
    commit_at : (s : Site) → AllByRecursion (λ (x : Out). x.0 ≡ s.0 + 1) (seq.commit_sends w p t applied s)
    commit_at s = go (has_site applied s) (is_site s (home w t) && is_up w p s)
      where
        go : (b c : Bool) → AllByRecursion (λ (x : Out). x.0 ≡ s.0 + 1) ((if b then to_site (vector w p) s (letters.Apply t (length p)) ∷ [] else []) ++ (if c then to_site (vector w p) s (letters.Done t) ∷ [] else []))
        go true true = (refl, (refl, tt))
        go true false = (refl, tt)
        go false true = (refl, tt)
        go false false = tt

    commit_paired : (s : Site) → ArePaired (seq.commit_sends w p t applied s)
    commit_paired s = go (has_site applied s) (is_site s (home w t) && is_up w p s)
      where
        go : (b c : Bool) → ArePaired ((if b then to_site (vector w p) s (letters.Apply t (length p)) ∷ [] else []) ++ (if c then to_site (vector w p) s (letters.Done t) ∷ [] else []))
        go true true = (((λ e. tt), tt), (tt, tt))
        go true false = (tt, tt)
        go false true = (tt, tt)
        go false false = tt

    commits_high : (k a n : ℕ) → k ≤ a → AllByRecursion (λ (y : Out). k + 1 ≤ y.0) (flat_map (seq.commit_sends w p t applied) (map site (count_from a n)))
    commits_high k a zero q = tt
    commits_high k a (suc n) q =
        all_append (λ (y : Out). k + 1 ≤ y.0) (seq.commit_sends w p t applied (site a)) (flat_map (seq.commit_sends w p t applied) (map site (count_from (a + 1) n)))
        (all_weaken (λ (x : Out). x.0 ≡ a + 1) (λ (y : Out). k + 1 ≤ y.0) (seq.commit_sends w p t applied (site a)) (λ x e. omega (arith, e, q)) (commit_at (site a))) (commits_high k (a + 1) n (omega (arith, q)))

    commits_paired : (a n : ℕ) → ArePaired (flat_map (seq.commit_sends w p t applied) (map site (count_from a n)))
    commits_paired a zero = tt
    commits_paired a (suc n) =
        let rest = flat_map (seq.commit_sends w p t applied) (map site (count_from (a + 1) n)) in
        pairs_append (seq.commit_sends w p t applied (site a)) rest (commit_paired (site a)) (commits_paired (a + 1) n)
        (cross_apart (a + 1) (seq.commit_sends w p t applied (site a)) rest (commit_at (site a)) (commits_high (a + 1) (a + 1) n (omega arith)))

  loose_if : (b : Bool) (out : Out) → IsLoose out → AllByRecursion IsLoose (if b then [] else out ∷ [])
  loose_if true out q = tt
  loose_if false out q = (q, tt)

  sends_paired : (p : List Noted) (ask : ℕ) (e : Entry) → ArePaired (seq.sends w p ask e)
  sends_paired p ask (Read t x s) = loose_pairs (seq.sends w p ask (Read t x s)) ((λ k. tt), loose_if (is_site s (home w t)) (to_site (vector w p) (home w t) (letters.Serving t ask s)) (λ k. tt))
  sends_paired p ask (Commit t request applied) = commits_paired p t applied 1 w.sites
  sends_paired p ask (Abort t cause act) = notes_pairs (vector w p) (seq.drop_of w t cause) (is_up w p) 1 w.sites
  sends_paired p ask (Down s) = loose_pairs (seq.sends w p ask (Down s)) (loose_notes (vector w p) (letters.DownNote s) (filter (is_up w p) (sites w)) (λ k. tt))
  sends_paired p ask (Up s n) = loose_pairs (seq.sends w p ask (Up s n)) ((λ k. tt), loose_notes (vector w p) (letters.UpNote s n) (filter (λ r. is_up w p r && not (is_site s r)) (sites w)) (λ k. tt))
  sends_paired p ask other = tt

  -- an Abort is of who runs, and so has no Abort yet
  free_runs : (p : List Noted) (t : Txn) → is_free p t ≡ true → is_running p t ≡ true
  free_runs p t q = (and_parts (is_running p t) (not (is_waiting p t)) q).0

  abort_runs : (p : List Noted) (t : Txn) (cause : Cause) (act : Act) → Placeable w p (Abort t cause act) → is_running p t ≡ true
  abort_runs p t cause act q = go (forced w p) refl q
    where
      sent : (act : Act) → SentAbort w p t cause act → is_running p t ≡ true
      sent acts.Nothing q = absurd q
      sent (acts.Ended reads) q = free_runs p t q
      sent (acts.Read x) q = free_runs p t q.0
      sent (acts.Commit request) q = free_runs p t q.0

      go : (o : Option Entry) → forced w p ≡ o → Goes w p (Abort t cause act) o → is_running p t ≡ true
      go None f g = sent act g
      go (Some must) f g = forced_compels w p (Abort t cause act) (f ∙ ap Some (sym g))

  abort_ends : (t : Txn) (e : Entry) → is_abort_of t e ≡ true → is_end_of t e ≡ true
  abort_ends t (Abort u cause act) q = q
  abort_ends t other q = absurd (true≢false (sym q))

  abort_fresh : (p : List Noted) (t : Txn) → is_running p t ≡ true → has_aborted p t ≡ false
  abort_fresh p t q = go (has_aborted p t) refl (and_parts (has_begun p t) (not (has_ended p t)) q).1
    where
      clash : (b : Bool) → not b ≡ true → b ≡ true → ⊥
      clash true q r = true≢false (sym q)
      clash false q r = true≢false (sym r)

      go : (b : Bool) → has_aborted p t ≡ b → not (has_ended p t) ≡ true → has_aborted p t ≡ false
      go true e r = absurd (clash (has_ended p t) r (any_weaken (λ n. is_abort_of t n.entry) (λ n. is_end_of t n.entry) (λ n q. abort_ends t n.entry q) p e))
      go false e r = e

  -- what an entry sends is fresh before it, and old after it
  abbrev IsNew : List Noted → List Noted → Message → Type 0
  IsNew p q m = IsFresh p m × IsOld q m

  notes_new : (p q : List Noted) (v : List ℕ) (m : Message) (ss : List Site) → IsNew p q m → AllByRecursion (λ (out : Out). IsNew p q out.2) (map (λ s. to_site v s m) ss)
  notes_new p q v m [] h = tt
  notes_new p q v m (s ∷ ss) h = (h, notes_new p q v m ss h)

  commits_new : (p q : List Noted) (t : Txn) (applied : List Site) (ss : List Site) → length p < length q → AllByRecursion (λ (out : Out). IsNew p q out.2) (flat_map (seq.commit_sends w q t applied) ss)
  commits_new p q t applied [] more = tt
  commits_new p q t applied (s ∷ ss) more =
      all_append (λ (out : Out). IsNew p q out.2) (seq.commit_sends w q t applied s) (flat_map (seq.commit_sends w q t applied) ss) (go (has_site applied s) (is_site s (home w t) && is_up w q s)) (commits_new p q t applied ss more)
    where
      go : (b c : Bool) → AllByRecursion (λ (out : Out). IsNew p q out.2) ((if b then to_site (vector w q) s (letters.Apply t (length q)) ∷ [] else []) ++ (if c then to_site (vector w q) s (letters.Done t) ∷ [] else []))
      go true true = ((more, omega arith), ((tt, tt), tt))
      go true false = ((more, omega arith), tt)
      go false true = ((tt, tt), tt)
      go false false = tt

  is_self : (n : ℕ) → (n == n) ≡ true
  is_self n = grind arith

  sends_new : (h : List Entry) (ask : ℕ) (e : Entry) → Placeable w (noted h) e → AllByRecursion (λ (out : Out). IsNew (noted h) (noted (h ++ e ∷ [])) out.2) (seq.sends w (noted (h ++ e ∷ [])) ask e)
  sends_new h ask (Read t x s) goes = ((tt, tt), go (is_site s (home w t)))
    where
      q : List Noted
      q = noted (h ++ Read t x s ∷ [])

      go : (b : Bool) → AllByRecursion (λ (out : Out). IsNew (noted h) q out.2) (let outs : List Out = (if b then [] else to_site (vector w q) (home w t) (letters.Serving t ask s) ∷ []) in outs)
      go true = tt
      go false = ((tt, tt), tt)
  sends_new h ask (Commit t request applied) goes =
      let e = Commit t request applied in
      commits_new (noted h) (noted (h ++ e ∷ [])) t applied (sites w) (let long = ap length (noted_push h e) ∙ length-append (noted h) (next (noted h) e ∷ []) in omega (arith, long))
  sends_new h ask (Abort t cause act) goes =
      let e = Abort t cause act in
      let q = noted (h ++ e ∷ []) in
      notes_new (noted h) q (vector w q) (seq.drop_of w t cause) (filter (is_up w q) (sites w)) (
        abort_fresh (noted h) t (abort_runs (noted h) t cause act goes),
        subst (λ p. has_aborted p t ≡ true) (sym (noted_push h e))
            (list_any-append (λ n. is_abort_of t n.entry) (noted h) (next (noted h) e ∷ []) ∙ or_right (has_aborted (noted h) t) ((t.0 == t.0) || false) (or_left (t.0 == t.0) false (is_self t.0))),
      )
  sends_new h ask (Down s) goes = (let q = noted (h ++ Down s ∷ []) in notes_new (noted h) q (vector w q) (letters.DownNote s) (filter (is_up w q) (sites w)) (tt, tt))
  sends_new h ask (Up s n) goes = (let q = noted (h ++ Up s n ∷ []) in ((tt, tt), notes_new (noted h) q (vector w q) (letters.UpNote s n) (filter (λ r. is_up w q r && not (is_site s r)) (sites w)) (tt, tt)))
  sends_new h ask other goes = tt

  -- along the sequencer's step
  module _ (from : ℕ) (letter : Letter) (first : List Noted) (opens : (s : Site) → letter.message ≡ letters.Hello → from ≡ s.0 + 1 → 1 ≤ s.0 → letter.from ≡ last_session first s + 1) where
    pub record InTurn (turn : Turn Sequencer) : Type 0 where
      pub later : Later first (so_far turn)
      pub old : AllByRecursion (λ (out : Out). IsOld (so_far turn) out.2) turn.outs
      pub fresh : AllByRecursion (λ (out : Out). IsFresh first out.2) turn.outs
      pub pairs : ArePaired turn.outs

    other_all : (P : Message → Type 0) → ((m : Message) → IsOther m → P m) → (outs : List Out) → AreOther outs → AllByRecursion (λ (out : Out). P out.2) outs
    other_all P each [] a = tt
    other_all P each (out ∷ outs) a = (each out.2 a.0, other_all P each outs a.1)

    other_old : (p : List Noted) (m : Message) → IsOther m → IsOld p m
    other_old p (letters.CopyDo x target n) q = tt
    other_old p (letters.Ends count) q = tt
    other_old p other q = absurd q

    other_fresh : (p : List Noted) (m : Message) → IsOther m → IsFresh p m
    other_fresh p (letters.CopyDo x target n) q = tt
    other_fresh p (letters.Ends count) q = tt
    other_fresh p other q = absurd q

    other_loose : (m : Message) → IsOther m → (k : Message) → IsBefore m k
    other_loose (letters.CopyDo x target n) q k = tt
    other_loose (letters.Ends count) q k = tt
    other_loose other q k = absurd q

    pub steps_in_turn : (a b : Turn Sequencer) → Steps w from letter first a b → InTurn a → InTurn b
    steps_in_turn a b done r = r
    steps_in_turn a b (placed ask e p goes why rest) r =
        let h = a.state.history in
        let now = noted (h ++ e ∷ []) in
        let outs = seq.sends w now ask e in
        let step = placed_later w from letter first opens h ask e why in
        let new = sends_new h ask e goes in
        let fresh = all_weaken (λ (out : Out). IsNew (noted h) now out.2) (λ (out : Out). IsFresh (noted h) out.2) outs (λ out q. q.0) new in
        steps_in_turn (place w ask a e) b rest
        (record {
          later = later_on first (noted h) now r.later step;
          old = all_append (λ (out : Out). IsOld now out.2) a.outs outs (all_weaken (λ (out : Out). IsOld (noted h) out.2) (λ (out : Out). IsOld now out.2) a.outs (λ out q. old_later (noted h) now step out.2 q) r.old)
              (all_weaken (λ (out : Out). IsNew (noted h) now out.2) (λ (out : Out). IsOld now out.2) outs (λ out q. q.1) new);
          fresh = all_append (λ (out : Out). IsFresh first out.2) a.outs outs r.fresh (all_weaken (λ (out : Out). IsFresh (noted h) out.2) (λ (out : Out). IsFresh first out.2) outs (λ out q. fresh_before first (noted h) r.later out.2 q) fresh);
          pairs = pairs_append a.outs outs r.pairs (sends_paired now ask e) (cross_fresh (noted h) a.outs outs r.old fresh);
        })
    steps_in_turn a b (passes {next = next} outs same more other rest) r =
        let p = so_far a in
        steps_in_turn next b rest
        (record {
          later = subst (λ h. Later first (noted h)) (sym same) r.later;
          old = subst (λ h. AllByRecursion (λ (out : Out). IsOld (noted h) out.2) next.outs) (sym same) (subst (AllByRecursion (λ (out : Out). IsOld p out.2)) (sym more) (all_append (λ (out : Out). IsOld p out.2) a.outs outs r.old (other_all (IsOld p) (other_old p) outs other)));
          fresh = subst (AllByRecursion (λ (out : Out). IsFresh first out.2)) (sym more) (all_append (λ (out : Out). IsFresh first out.2) a.outs outs r.fresh (other_all (IsFresh first) (other_fresh first) outs other));
          pairs = subst ArePaired (sym more)
              (pairs_append a.outs outs r.pairs (loose_pairs outs (other_all (λ m. (k : Message) → IsBefore m k) other_loose outs other)) (cross_fresh p a.outs outs r.old (other_all (IsFresh p) (other_fresh p) outs other)));
        })
