-- What the sequencer sends says what there is.
use Rattle.std.proofs.Common.{◌≡◌, ℕ, ◌+◌, ◌-◌, ◌≤◌, ◌==◌, nat_lt, Bool, true, false, not, ◌&&◌, ◌||◌, List, [], ◌∷◌, ◌++◌, length, length-append, map, filter, Option, Some, None, if◌then◌else◌, arith, sym, subst, ap, ◌∙◌, refl}
use Rattle.std.specs.Prelude.{⊤, flat_map, slice_get}
use Rattle.std.specs.List.{AllByRecursion, list_any}
use Rattle.std.proofs.lemmas.Bool.{and_parts, eqb-true, true≢false}
use Rattle.std.proofs.lemmas.Grind.{common_steps}
use Rattle.std.proofs.lemmas.List.Folds.{list_any-append}
use Rattle.raid_base.specs.declared.names.Txn.{Txn}
use Rattle.raid_base.specs.declared.names.Item.{Item}
use Rattle.raid_base.specs.declared.names.Site.{Site}
use Rattle.raid_base.specs.declared.entry.Entry.{Entry}
use Rattle.raid_base.specs.declared.entry.Entry.TheVariants.{Read, Commit, Abort, Down, Up}
use Rattle.raid_base.specs.declared.entry.Noted.{Noted}
use Rattle.raid_base.specs.declared.verdict.Verdict.{Verdict}
use Rattle.raid_base.specs.declared.verdict.Verdict.TheVariants as verdicts
use Rattle.raid_base.specs.Names.{is_txn, is_site, has_site}
use Rattle.raid_base.specs.Sites.{session, site, all_sites}
use Rattle.raid_workload.specs.declared.workload.Workload.{Workload}
use Rattle.raid_workload.specs.Parts.{sites, home, placement}
use Rattle.raid_rules.specs.Entries.{is_begin_of, is_commit_of, is_abort_of}
use Rattle.raid_rules.specs.History.{noted, next, has_begun, has_ended, is_waiting, is_running, has_committed, stamp}
use Rattle.raid_rules.specs.Sessions.{holders, is_site_up, is_copy_locked, source_for}
use Rattle.raid_rules.specs.Sessions as rules
use Rattle.raid_rules.specs.Verdicts.{reading}
use Rattle.raid_rules.proofs.Push.{noted_push, vector_push}
use Rattle.raid_rules.proofs.Sources.{has_kept}
use Rattle.raid_legal.specs.Seen.{vector, is_up, sources}
use Rattle.raid_legal.specs.InForce.{verdict}
use Rattle.raid_legal.specs.Answers.{served, answer_read}
use Rattle.raid_legal.specs.Forced.{forced}
use Rattle.raid_legal.specs.Legal.{is_free}
use Rattle.raid_legal.proofs.Left.{forced_compels}
use Rattle.raid_message.specs.declared.letter.Message.{Message}
use Rattle.raid_message.specs.declared.letter.Message.TheVariants as letters
use Rattle.raid_message.specs.declared.letter.Letter.{Letter}
use Rattle.raid_steps.specs.State.{Out, Turn, Sequencer, to_site}
use Rattle.raid_steps.specs.Sequencer as seq
use Rattle.raid_steps.specs.Sequencer.{so_far, place, hear_sequencer}
use Rattle.raid_placed.specs.Placed.{Placeable, Goes}
use Rattle.raid_sessions.proofs.Lists.{all_append, all_weaken, set_most}
use Rattle.raid_asks.proofs.Facts.{or_left, or_right}
use Rattle.raid_asks.proofs.Steps.{IsOther, AreOther, Why, Steps, done, placed, passes}
use Rattle.raid_letters.specs.Says.{is_held, is_applied, was_applied, NoteSays}
use Rattle.raid_letters.proofs.Later.{Later, later_note, placed_later, steps_later}

pub same_site : (s r : Site) → is_site s r ≡ true → r ≡ s
same_site s r q = ap (λ k. let z : Site = record { 0 = k } in z) (eqb-true r.0 s.0 q)

pub own_site : (s : Site) → is_site s s ≡ true
own_site s = grind (arith, common_steps)

-- the site that a server's number is of
pub site_back : (s : Site) → s ≡ site (s.0 + 1 - 1)
site_back s = ap (λ k. let z : Site = record { 0 = k } in z) (back s.0)
  where
    back : (n : ℕ) → n ≡ n + 1 - 1
    back n = omega arith

-- the first of a list is on it, and so is a home that is chosen
pub first_in : (ss : List Site) (s : Site) → slice_get ss 0 ≡ Some s → has_site ss s ≡ true
first_in [] s q = absurd (nothing q) where
  nothing : None ≡ Some s → ⊥
  nothing q = cc q
first_in (r ∷ ss) s q = or_left (is_site s r) (has_site ss s) (subst (λ z. is_site s z ≡ true) (sym (same q)) (own_site s))
  where
    same : Some r ≡ Some s → r ≡ s
    same q = cc q

source_in : (found : List Site) (h s : Site) → source_for found h ≡ Some s → has_site found s ≡ true
source_in found h s q = go (has_site found h) refl q
  where
    same : Some h ≡ Some s → h ≡ s
    same q = cc q

    go : (b : Bool) → has_site found h ≡ b → (if b then Some h else slice_get found 0) ≡ Some s → has_site found s ≡ true
    go true e q = subst (λ z. has_site found z ≡ true) (same q) e
    go false e q = first_in found s q

served_site : (t : Txn) (x : Item) (o : Option Site) (v : Verdict) (s : Site) → served t x o v ≡ Read t x s → o ≡ Some s
served_site t x None v s q = cc q
served_site t x (Some r) (verdicts.Reject why) s q = cc q
served_site t x (Some r) verdicts.Wait s q = cc q
served_site t x (Some r) verdicts.Grant s q = cc q

module _ (w : Workload) where
  -- a source holds the item
  pub source_holds : (p : List Noted) (x : Item) (s : Site) → has_site (sources w p x) s ≡ true → is_held w s x ≡ true
  source_holds p x s q =
      let both = and_parts (rules.is_source w.sites (placement w) p x s) (has_site all_sites s) (sym (has_kept (rules.is_source w.sites (placement w) p x) s all_sites) ∙ q) in
      (and_parts (is_held w s x) (is_site_up (rules.vector w.sites p) s) (and_parts (is_held w s x && is_site_up (rules.vector w.sites p) s) (not (is_copy_locked p s x)) both.0).0).0

  -- a Read that is placed answers one that was asked
  read_answers : (p : List Noted) (t : Txn) (x : Item) (s : Site) → Placeable w p (Read t x s) → (is_free p t ≡ true) × (answer_read w p t x ≡ Read t x s)
  read_answers p t x s q = go (forced w p) refl q
    where
      go : (o : Option Entry) → forced w p ≡ o → Goes w p (Read t x s) o → (is_free p t ≡ true) × (answer_read w p t x ≡ Read t x s)
      go None f g = g
      go (Some must) f g = absurd (forced_compels w p (Read t x s) (f ∙ ap Some (sym g)))

  read_begun : (p : List Noted) (t : Txn) → is_free p t ≡ true → has_begun p t ≡ true
  read_begun p t q = (and_parts (has_begun p t) (not (has_ended p t)) (and_parts (is_running p t) (not (is_waiting p t)) q).0).0

  -- notes but for those on copies
  abbrev pub PlainSays : List Noted → Site → ℕ → Message → Type 0
  PlainSays p here to (letters.CopyDo x target n) = ⊤
  PlainSays p here to other = NoteSays w p here to other

  pub later_plain : (p q : List Noted) → Later p q → (here : Site) (to : ℕ) (m : Message) → PlainSays p here to m → PlainSays q here to m
  later_plain p q later here to (letters.CopyDo x target n) r = tt
  later_plain p q later here to (letters.Welcome v n) r = tt
  later_plain p q later here to (letters.ReadDo t ask x h n) r = later_note w p q later here to (letters.ReadDo t ask x h n) r
  later_plain p q later here to (letters.Serving t ask s) r = later_note w p q later here to (letters.Serving t ask s) r
  later_plain p q later here to (letters.Apply t number) r = later_note w p q later here to (letters.Apply t number) r
  later_plain p q later here to (letters.Done t) r = later_note w p q later here to (letters.Done t) r
  later_plain p q later here to (letters.Drop t again) r = later_note w p q later here to (letters.Drop t again) r
  later_plain p q later here to (letters.DownNote s) r = r
  later_plain p q later here to (letters.UpNote s n) r = r
  later_plain p q later here to other r = tt

  abbrev pub Says : List Noted → Out → Type 0
  Says p out = PlainSays p (site (out.0 - 1)) out.1 out.2

  to_says : (p : List Noted) (s : Site) (n : ℕ) (m : Message) → PlainSays p s n m → Says p (s.0 + 1, n, m)
  to_says p s n m q = subst (λ r. PlainSays p r n m) (site_back s) q

  -- what an entry sends
  module _ (h : List Entry) (ask : ℕ) (e : Entry) where
    abbrev now : List Noted
    now = noted (h ++ e ∷ [])

    notes_say : (m : Message) (test : Site → Bool) (ss : List Site) → ((s : Site) → test s ≡ true → PlainSays now s (session (vector w now) s) m) → AllByRecursion (Says now) (map (λ s. to_site (vector w now) s m) (filter test ss))
    notes_say m test [] each = tt
    notes_say m test (s ∷ ss) each = go (test s) refl (notes_say m test ss each)
      where
        go : (b : Bool) → test s ≡ b → AllByRecursion (Says now) (map (λ s. to_site (vector w now) s m) (filter test ss)) → AllByRecursion (Says now) (map (λ s. to_site (vector w now) s m) (if b then s ∷ filter test ss else filter test ss))
        go true q rest = (to_says now s (session (vector w now) s) m (each s q), rest)
        go false q rest = rest

    one_if : (b : Bool) (out : Out) → (b ≡ true → Says now out) → AllByRecursion (Says now) (if b then out ∷ [] else [])
    one_if true out q = (q refl, tt)
    one_if false out q = tt

    none_if : (b : Bool) (out : Out) → (b ≡ false → Says now out) → AllByRecursion (Says now) (if b then [] else out ∷ [])
    none_if true out q = tt
    none_if false out q = (q refl, tt)

    last_any : (test : Noted → Bool) → test (next (noted h) e) ≡ true → list_any test now ≡ true
    last_any test q =
        subst (λ p. list_any test p ≡ true) (sym (noted_push h e))
        (list_any-append test (noted h) (next (noted h) e ∷ []) ∙ or_right (list_any test (noted h)) (test (next (noted h) e) || false) (or_left (test (next (noted h) e)) false q))

    now_long : length now ≡ length (noted h) + 1
    now_long = ap length (noted_push h e) ∙ length-append (noted h) (next (noted h) e ∷ [])

    commits_say : (t : Txn) (applied : List Site) → ((s : Site) → has_site applied s ≡ true → was_applied now t s (length now) ≡ true) → has_committed now t ≡ true → (ss : List Site) → AllByRecursion (Says now) (flat_map (seq.commit_sends w now t applied) ss)
    commits_say t applied each committed [] = tt
    commits_say t applied each committed (s ∷ ss) =
        let v = vector w now in
        let apply : Out = to_site v s (letters.Apply t (length now)) in
        let end : Out = to_site v s (letters.Done t) in
        all_append (Says now) (seq.commit_sends w now t applied s) (flat_map (seq.commit_sends w now t applied) ss)
        (all_append (Says now) (if has_site applied s then apply ∷ [] else []) (if is_site s (home w t) && is_up w now s then end ∷ [] else [])
        (one_if (has_site applied s) apply (λ q. to_says now s (session v s) (letters.Apply t (length now)) (each s q)))
        (one_if (is_site s (home w t) && is_up w now s) end (λ q. to_says now s (session v s) (letters.Done t) (committed, same_site s (home w t) (and_parts (is_site s (home w t)) (is_up w now s) q).0))))
        (commits_say t applied each committed ss)

  -- a site that has just gone down isn't up
  none_up : (n : ℕ) → n ≤ 0 → nat_lt 0 n ≡ false
  none_up n q = grind (arith, q)

  down_now : (h : List Entry) (s : Site) → is_up w (noted (h ++ Down s ∷ [])) s ≡ false
  down_now h s =
      let v = ap (λ p. rules.vector w.sites p) (noted_push h (Down s)) ∙ vector_push w.sites (noted h) (next (noted h) (Down s)) in
      none_up (session (vector w (noted (h ++ Down s ∷ []))) s) (subst (λ v. session v s ≤ 0) (sym v) (set_most (rules.vector w.sites (noted h)) (s.0 - 1) 0))

  is_self : (n : ℕ) → (n == n) ≡ true
  is_self n = grind arith

  both_true : (a b : Bool) → a ≡ true → b ≡ true → (a && b) ≡ true
  both_true true true q r = refl
  both_true true false q r = r
  both_true false b q r = q

  pub sends_say : (h : List Entry) (ask : ℕ) (e : Entry) → Placeable w (noted h) e → Later (noted h) (noted (h ++ e ∷ [])) → ((t : Txn) (x : Item) (s : Site) → e ≡ Read t x s → 1 ≤ ask) →
      AllByRecursion (Says (noted (h ++ e ∷ []))) (seq.sends w (noted (h ++ e ∷ [])) ask e)
  sends_say h ask (Read t x s) goes later some =
      let p = noted (h ++ Read t x s ∷ []) in
      let v = vector w p in
      let answers = read_answers (noted h) t x s goes in
      let begun : has_begun p t ≡ true = later.any (λ n. is_begin_of t n.entry) (read_begun (noted h) t answers.0) in
      let found = source_in (sources w (noted h) x) (home w t) s (served_site t x (source_for (sources w (noted h) x) (home w t)) (verdict w (noted h) (reading t (stamp (noted h) t) x)) s answers.1) in (
        to_says p s (session v s) (letters.ReadDo t ask x (home w t) (session v (home w t)))
            (record { of = refl; held = source_holds (noted h) x s found; begun = begun; some = some t x s refl; own = λ q. ap (session v) (same_site s (home w t) q) }),
        none_if h ask (Read t x s) (is_site s (home w t)) (to_site v (home w t) (letters.Serving t ask s))
            (λ q. to_says p (home w t) (session v (home w t)) (letters.Serving t ask s) (record { of = refl; other = q; begun = begun; some = some t x s refl })),
      )
  sends_say h ask (Commit t request applied) goes later some =
      let e = Commit t request applied in
      let p = noted (h ++ e ∷ []) in
      commits_say h ask e t applied
      (λ s q. last_any h ask e (λ n. (n.at == length p) && is_applied t s n.entry) (both_true (length (noted h) + 1 == length p) (is_txn t t && has_site applied s) (subst (λ k. (k == length p) ≡ true) (now_long h ask e) (is_self (length p))) (both_true (is_txn t t) (has_site applied s) (is_self t.0) q)))
      (last_any h ask e (λ n. is_commit_of t n.entry) (is_self t.0)) (sites w)
  sends_say h ask (Abort t cause act) goes later some =
      let e = Abort t cause act in
      notes_say h ask e (seq.drop_of w t cause) (is_up w (noted (h ++ e ∷ []))) (sites w) (λ s q. last_any h ask e (λ n. is_abort_of t n.entry) (is_self t.0))
  sends_say h ask (Down s) goes later some =
      notes_say h ask (Down s) (letters.DownNote s) (is_up w (noted (h ++ Down s ∷ []))) (sites w) (λ r q. other r (is_site s r) refl q)
    where
      other : (r : Site) (b : Bool) → is_site s r ≡ b → is_up w (noted (h ++ Down s ∷ [])) r ≡ true → is_site s r ≡ false
      other r true e q = absurd (true≢false (sym q ∙ subst (λ z. is_up w (noted (h ++ Down s ∷ [])) z ≡ false) (sym (same_site s r e)) (down_now h s)))
      other r false e q = e
  sends_say h ask (Up s n) goes later some =
      let p = noted (h ++ Up s n ∷ []) in
      (tt, notes_say h ask (Up s n) (letters.UpNote s n) (λ r. is_up w p r && not (is_site s r)) (sites w) (λ r q. untrue (is_site s r) (and_parts (is_up w p r) (not (is_site s r)) q).1))
    where
      untrue : (b : Bool) → not b ≡ true → b ≡ false
      untrue true q = absurd (true≢false (sym q))
      untrue false q = refl
  sends_say h ask other goes later some = tt

  other_says : (p : List Noted) (outs : List Out) → AreOther outs → AllByRecursion (Says p) outs
  other_says p [] a = tt
  other_says p (out ∷ outs) a = (go out.2 a.0, other_says p outs a.1)
    where
      go : (m : Message) → IsOther m → PlainSays p (site (out.0 - 1)) out.1 m
      go (letters.CopyDo x target n) q = tt
      go (letters.Ends count) q = tt
      go other q = absurd q

  module _ (from : ℕ) (letter : Letter) (first : List Noted) (opens : (s : Site) → letter.message ≡ letters.Hello → from ≡ s.0 + 1 → 1 ≤ s.0 → letter.from ≡ rules.last_session first s + 1)
      (asked : (t : Txn) (ask : ℕ) (x : Item) → letter.message ≡ letters.ReadAsk t ask x → 1 ≤ ask) where
    asked_some : (p : List Noted) (ask : ℕ) (e : Entry) → Why w from letter first p ask e → (t : Txn) (x : Item) (s : Site) → e ≡ Read t x s → 1 ≤ ask
    asked_some p ask e y t x s q = asked t ask x (subst (Why w from letter first p ask) q y)

    pub steps_say : (a b : Turn Sequencer) → Steps w from letter first a b → AllByRecursion (Says (so_far b)) a.outs → AllByRecursion (Says (so_far b)) b.outs
    steps_say a b done q = q
    steps_say a b (placed ask e p goes why rest) q =
        let after = place w ask a e in
        let now = noted (a.state.history ++ e ∷ []) in
        steps_say after b rest
        (all_append (Says (so_far b)) a.outs (seq.sends w now ask e) q
        (all_weaken (Says now) (Says (so_far b)) (seq.sends w now ask e)
        (λ out r. later_plain now (so_far b) (steps_later w from letter first opens after b rest) (site (out.0 - 1)) out.1 out.2 r)
        (sends_say a.state.history ask e goes (placed_later w from letter first opens a.state.history ask e why) (asked_some (noted a.state.history) ask e why))))
    steps_say a b (passes {next = next} outs same more other rest) q =
        steps_say next b rest (subst (AllByRecursion (Says (so_far b))) (sym more) (all_append (Says (so_far b)) a.outs outs q (other_says (so_far b) outs other)))
