-- What the sequencer sends to be applied is staged, where the request for it was made under sessions in which all was staged.
use Rattle.std.proofs.Common.{◌≡◌, ◌⊎◌, inl, inr, ℕ, ◌+◌, ◌≤◌, ◌==◌, Bool, true, false, not, ◌&&◌, ◌||◌, List, [], ◌∷◌, ◌++◌, length, map, filter, Some, None, if◌then◌else◌, arith, sym, subst, ap, ◌∙◌, refl}
use Rattle.std.specs.Prelude.{⊤, flat_map, slice_get}
use Rattle.std.specs.List.{AllByRecursion, list_any}
use Rattle.std.proofs.lemmas.Bool.{and_parts, eqb-true, true≢false}
use Rattle.raid_base.specs.declared.names.Txn.{Txn}
use Rattle.raid_base.specs.declared.names.Site.{Site}
use Rattle.raid_base.specs.declared.request.Request.{Request}
use Rattle.raid_base.specs.declared.entry.Cause.TheVariants as causes
use Rattle.raid_base.specs.declared.entry.Act.TheVariants as acts
use Rattle.raid_base.specs.declared.entry.Entry.{Entry}
use Rattle.raid_base.specs.declared.entry.Entry.TheVariants.{Read, Wait, Commit, Abort, Down, Up}
use Rattle.raid_base.specs.declared.entry.Noted.{Noted}
use Rattle.raid_base.specs.declared.verdict.Verdict.{Verdict}
use Rattle.raid_base.specs.declared.verdict.Verdict.TheVariants as verdicts
use Rattle.raid_base.specs.Names.{is_site, has_site}
use Rattle.raid_base.specs.Sites.{session, site}
use Rattle.raid_workload.specs.declared.workload.Workload.{Workload}
use Rattle.raid_workload.specs.Parts.{sites, home}
use Rattle.raid_rules.specs.Entries.{is_end_of}
use Rattle.raid_rules.specs.History.{noted, add, next, stamp, has_begun, has_ended, is_waiting}
use Rattle.raid_rules.specs.Sessions.{last_session}
use Rattle.raid_rules.specs.Verdicts.{writing}
use Rattle.raid_rules.proofs.Push.{noted_push}
use Rattle.raid_rules.proofs.Sources.{has_kept}
use Rattle.raid_legal.specs.Seen.{vector, is_up, up_holders, holds_some}
use Rattle.raid_legal.specs.InForce.{verdict}
use Rattle.raid_legal.specs.Answers.{answer_commit, answered, decided, closes_waits, has_no_holder, is_stale}
use Rattle.raid_message.specs.declared.letter.Message.{Message}
use Rattle.raid_message.specs.declared.letter.Message.TheVariants as letters
use Rattle.raid_message.specs.declared.letter.Letter.{Letter}
use Rattle.raid_steps.specs.Fits.{knows_site}
use Rattle.raid_steps.specs.State.{Out, Turn, Sequencer, to_site, SiteState}
use Rattle.raid_steps.specs.Sequencer as rows
use Rattle.raid_steps.specs.Sequencer.{so_far, place}
use Rattle.raid_sessions.proofs.Ledger.{session_still}
use Rattle.raid_sessions.proofs.Lists.{all_append}
use Rattle.raid_asks.proofs.Steps.{IsOther, AreOther}
use Rattle.raid_letters.specs.Says.{AreReached}
use Rattle.raid_letters.proofs.Sends.{same_site}
use Rattle.raid_layers.proofs.Histories.{Grows, HasWait, any_kept}
use Rattle.raid_layers.proofs.Opening.{First, reads, waits as waits_first, nothing as nothing_first, IsAskedFor, IsLater, Chain, done, places, sends}
use Rattle.raid_staged.specs.Staged.{AreStaged, ApplyStaged}

some_same : {X : Type 0} {x y : X} → Some x ≡ Some y → x ≡ y
some_same q = cc q

-- a test that no element passes isn't passed by one that is there
none_passes : (f : Site → Bool) (ss : List Site) (s : Site) → list_any f ss ≡ false → has_site ss s ≡ true → f s ≡ false
none_passes f [] s none here = absurd (true≢false (sym here))
none_passes f (r ∷ ss) s none here = go (f r) refl (is_site s r) refl none here (none_passes f ss s)
  where
    go : (b : Bool) → f r ≡ b → (c : Bool) → is_site s r ≡ c → (b || list_any f ss) ≡ false → (c || has_site ss s) ≡ true → (list_any f ss ≡ false → has_site ss s ≡ true → f s ≡ false) → f s ≡ false
    go true q c r none here rest = absurd (true≢false none)
    go false q true same none here rest = subst (λ z. f z ≡ false) (same_site s r same) q
    go false q false other none here rest = rest none here

-- with one more entry
last_wait : (ns : List Noted) (n : Noted) (t : Txn) (r : Request) → HasWait (ns ++ n ∷ []) t r → HasWait ns t r ⊎ (n.entry ≡ Wait t r)
last_wait [] n t r (inl is) = inr is
last_wait [] n t r (inr more) = inl more
last_wait (z ∷ ns) n t r (inl is) = inl (inl is)
last_wait (z ∷ ns) n t r (inr more) = elim (last_wait ns n t r more) [ inl old ↦ inl (inr old) | inr now ↦ inr now ]

module _ (w : Workload) where
  -- a commit that is granted is applied where its writes are held, in the sessions under which it was asked for
  granted : (p : List Noted) (t : Txn) (r : Request) (applied : List Site) → answer_commit w p t r ≡ Some (Commit t r applied) → (applied ≡ up_holders w p r.writes) × (is_stale w p r ≡ false)
  granted p t r applied q = go (has_no_holder w p r) (is_stale w p r) refl q
    where
      waits : (a b : Bool) → (if a then None else if b then Some (Abort t causes.Deadlock (acts.Commit r)) else Some (Wait t r)) ≡ Some (Commit t r applied) → applied ≡ up_holders w p r.writes
      waits true b q = absurd (cc q)
      waits false true q = absurd (cc q)
      waits false false q = absurd (cc q)

      decides : (v : Verdict) → decided w p t r v ≡ Some (Commit t r applied) → applied ≡ up_holders w p r.writes
      decides (verdicts.Reject why) q = absurd (cc q)
      decides verdicts.Grant q = cc q
      decides verdicts.Wait q = waits (is_waiting p t) (closes_waits w p t r) q

      go : (a b : Bool) → is_stale w p r ≡ b → answered w p t r (if a then Some causes.NoCopy else if b then Some (causes.Stale (vector w p)) else None) ≡ Some (Commit t r applied) → (applied ≡ up_holders w p r.writes) × (is_stale w p r ≡ false)
      go true b is q = absurd (cc q)
      go false true is q = absurd (cc q)
      go false false is q = (decides (verdict w p (writing t (stamp p t) r.writes)) q, is)

  -- so at each site where it is applied
  record AppliesAt (p : List Noted) (r : Request) (s : Site) : Type 0 where
    holds : holds_some w r.writes s ≡ true
    same : session (vector w p) s ≡ session r.under s

  applies_at : (p : List Noted) (t : Txn) (r : Request) (applied : List Site) (s : Site) → answer_commit w p t r ≡ Some (Commit t r applied) → has_site applied s ≡ true → AppliesAt p r s
  applies_at p t r applied s q here =
      let g = granted p t r applied q in
      let there : has_site (up_holders w p r.writes) s ≡ true = subst (λ ss. has_site ss s ≡ true) g.0 here in
      let kept = and_parts (is_up w p s && holds_some w r.writes s) (has_site (sites w) s) (sym (has_kept (λ s. is_up w p s && holds_some w r.writes s) s (sites w)) ∙ there) in
      record {
        holds = (and_parts (is_up w p s) (holds_some w r.writes s) kept.0).1;
        same = eqb-true (session (vector w p) s) (session r.under s) (untrue (session (vector w p) s == session r.under s) (none_passes (λ s. not (session (vector w p) s == session r.under s)) (up_holders w p r.writes) s g.1 there));
      }
    where
      untrue : (b : Bool) → not b ≡ false → b ≡ true
      untrue true q = refl
      untrue false q = absurd (true≢false q)

  module _ (from : ℕ) (letter : Letter) where
    -- an entry that is no Wait leaves those that there are
    pub no_wait : (r : List Noted) (e : Entry) → IsLater w from letter r e → (t : Txn) (request : Request) → HasWait (add r e) t request → HasWait r t request
    no_wait r e y t request h = go r (next r e) refl h
      where
        not_wait : (e : Entry) → IsLater w from letter r e → e ≡ Wait t request → ⊥
        not_wait (Wait u q) y is = y
        not_wait (Read u x s) y is = cc is
        not_wait other y is = cc is

        go : (ns : List Noted) (n : Noted) → n.entry ≡ e → HasWait (ns ++ n ∷ []) t request → HasWait ns t request
        go [] n same (inl is) = absurd (not_wait e y (sym same ∙ is))
        go [] n same (inr more) = more
        go (z ∷ ns) n same (inl is) = inl is
        go (z ∷ ns) n same (inr more) = inr (go ns n same more)

    -- nor do other entries
    pub chain_waits : (a b : Turn Sequencer) → Chain w from letter a b → (t : Txn) (r : Request) → HasWait (so_far b) t r → HasWait (so_far a) t r
    chain_waits a b done t r h = h
    chain_waits a b (places ask e y rest) t r h = no_wait (so_far a) e y t r (subst (λ z. HasWait z t r) (noted_push a.state.history e) (chain_waits (place w ask a e) b rest t r h))
    chain_waits a b (sends {next = next} outs same is other rest) t r h = subst (λ z. HasWait (noted z) t r) same (chain_waits next b rest t r h)

    -- the first part of a step: a Wait in it is of what is asked for
    pub first_waits : {a b : Turn Sequencer} → First w from letter a b → (t : Txn) (r : Request) → HasWait (so_far b) t r → HasWait (so_far a) t r ⊎ IsAskedFor w from letter t r
    first_waits {a = a} (reads k u ask x s of is) t r h =
        elim (last_wait (so_far a) (next (so_far a) (Read u x s)) t r (subst (λ z. HasWait z t r) (noted_push a.state.history (Read u x s)) h)) [ inl old ↦ inl old | inr now ↦ absurd (cc now) ]
    first_waits {a = a} (waits_first k u request of is) t r h =
        elim (last_wait (so_far a) (next (so_far a) (Wait u request)) t r (subst (λ z. HasWait z t r) (noted_push a.state.history (Wait u request)) h)) [ inl old ↦ inl old | inr same ↦ inr (its same) ]
      where
        its : Wait u request ≡ Wait t r → IsAskedFor w from letter t r
        its same =
            let txns : u ≡ t = cc same in
            let requests : request ≡ r = cc same in
            (k, (of, is ∙ ap (λ z. letters.CommitAsk z request) txns ∙ ap (letters.CommitAsk t) requests))
    first_waits nothing_first t r h = inl h

    pub first_grows : {a b : Turn Sequencer} → First w from letter a b → Grows (so_far a) (so_far b)
    first_grows {a = a} (reads k u ask x s of is) test c = subst (λ z. list_any test z ≡ true) (sym (noted_push a.state.history (Read u x s))) (any_kept test (so_far a) (next (so_far a) (Read u x s)) c)
    first_grows {a = a} (waits_first k u request of is) test c = subst (λ z. list_any test z ≡ true) (sym (noted_push a.state.history (Wait u request))) (any_kept test (so_far a) (next (so_far a) (Wait u request)) c)
    first_grows nothing_first test c = c

  module _ (from : ℕ) (letter : Letter) (p q : List Noted) (places_of : List SiteState) (inside : (j : ℕ) (s : SiteState) → slice_get places_of j ≡ Some s → knows_site w (site (j + 1)) ≡ true)
      (follows : (s : Site) → last_session p s ≤ last_session q s) where
    -- what was asked for is staged
    abbrev pub IsGood : Txn → Request → Type 0
    IsGood t r = AreStaged w p places_of t r.writes r.under × AreReached w p r.under

    -- what is sent to be applied at a site that is up in its last session is staged there
    abbrev pub IsFit : ℕ → ℕ → Message → Type 0
    IsFit server to message = (j : ℕ) (s : SiteState) → slice_get places_of j ≡ Some s → s.up ≡ true → server ≡ j + 2 → (to == s.session) ≡ true → last_session q (site (j + 1)) ≡ s.session → ApplyStaged s message

    abbrev pub AreFit : List Out → Type 0
    AreFit outs = AllByRecursion (λ (out : Out). IsFit out.0 out.1 out.2) outs

    -- messages that apply nothing
    abbrev IsNone : Message → Type 0
    IsNone (letters.Apply t number) = ⊥
    IsNone other = ⊤

    none_fit : (server to : ℕ) (message : Message) → IsNone message → IsFit server to message
    none_fit server to (letters.Apply t number) n = absurd n
    none_fit server to other n = λ j s at up is fits last. tt

    notes_fit : (v : List ℕ) (m : Message) (ss : List Site) → IsNone m → AreFit (map (λ s. to_site v s m) ss)
    notes_fit v m [] n = tt
    notes_fit v m (s ∷ ss) n = (none_fit (s.0 + 1) (session v s) m n, notes_fit v m ss n)

    commits_fit : (r : List Noted) (t : Txn) (applied : List Site) → ((s : Site) → has_site applied s ≡ true → IsFit (s.0 + 1) (session (vector w r) s) (letters.Apply t (length r))) → (ss : List Site) → AreFit (flat_map (rows.commit_sends w r t applied) ss)
    commits_fit r t applied each [] = tt
    commits_fit r t applied each (s ∷ ss) =
        all_append (λ (out : Out). IsFit out.0 out.1 out.2) (rows.commit_sends w r t applied s) (flat_map (rows.commit_sends w r t applied) ss) (go (has_site applied s) refl (is_site s (home w t) && is_up w r s)) (commits_fit r t applied each ss)
      where
        go : (b : Bool) → has_site applied s ≡ b → (c : Bool) → AreFit ((if b then to_site (vector w r) s (letters.Apply t (length r)) ∷ [] else []) ++ (if c then to_site (vector w r) s (letters.Done t) ∷ [] else []))
        go true q true = (each s q, (none_fit (s.0 + 1) (session (vector w r) s) (letters.Done t) tt, tt))
        go true q false = (each s q, tt)
        go false q true = (none_fit (s.0 + 1) (session (vector w r) s) (letters.Done t) tt, tt)
        go false q false = tt

    module _ (asked : (t : Txn) (r : Request) → IsAskedFor w from letter t r → IsGood t r) where
      entry_fit : (h : List Entry) (ask : ℕ) (e : Entry) → Grows p (noted h) → ((t : Txn) (r : Request) → HasWait (noted h) t r → IsGood t r) → IsLater w from letter (noted h) e → AreFit (rows.sends w (noted (h ++ e ∷ [])) ask e)
      entry_fit h ask (Read t x s) grows waits y = absurd y
      entry_fit h ask (Commit t r applied) grows waits y = commits_fit (noted (h ++ Commit t r applied ∷ [])) t applied each (sites w)
        where
          good : IsGood t r
          good = elim y.1.1 [ inl wait ↦ waits t r wait | inr now ↦ asked t r now ]

          alive : has_ended p t ≡ true → ⊥
          alive over = clash (has_ended (noted h) t) (and_parts (has_begun (noted h) t) (not (has_ended (noted h) t)) y.0).1 (grows (λ n. is_end_of t n.entry) over)
            where
              clash : (b : Bool) → not b ≡ true → b ≡ true → ⊥
              clash true q r = true≢false (sym q)
              clash false q r = true≢false (sym r)

          each : (s : Site) → has_site applied s ≡ true → IsFit (s.0 + 1) (session (vector w (noted (h ++ Commit t r applied ∷ []))) s) (letters.Apply t (length (noted (h ++ Commit t r applied ∷ []))))
          each s here j state at up is fits last =
              let mine : s ≡ site (j + 1) = ap (λ n. let z : Site = record { 0 = n } in z) (let e : s.0 ≡ j + 1 = omega (arith, is) in e) in
              let there = subst (AppliesAt (noted h) r) mine (applies_at (noted h) t r applied s y.1.0 here) in
              let now : session (vector w (noted (h ++ Commit t r applied ∷ []))) s ≡ session r.under (site (j + 1)) = session_still w h (Commit t r applied) s refl ∙ ap (session (vector w (noted h))) mine ∙ there.same in
              let same : session r.under (site (j + 1)) ≡ state.session = sym now ∙ eqb-true _ state.session fits in
              let reached = good.1 (site (j + 1)) (inside j state at) in
              let more = follows (site (j + 1)) in
              elim (good.0 j there.holds) [
                | inl over ↦ absurd (alive over)
                | inr has ↦ has state at up (sym same) (omega (arith, same, reached, more, last))
              ]
      entry_fit h ask (Abort t cause act) grows waits y = notes_fit (vector w (noted (h ++ Abort t cause act ∷ []))) (rows.drop_of w t cause) (filter (is_up w (noted (h ++ Abort t cause act ∷ []))) (sites w)) tt
      entry_fit h ask (Down s) grows waits y = notes_fit (vector w (noted (h ++ Down s ∷ []))) (letters.DownNote s) (filter (is_up w (noted (h ++ Down s ∷ []))) (sites w)) tt
      entry_fit h ask (Up s n) grows waits y =
          (none_fit (s.0 + 1) _ (letters.Welcome (vector w (noted (h ++ Up s n ∷ []))) (rows.next_number w (noted (h ++ Up s n ∷ [])) s)) tt, notes_fit (vector w (noted (h ++ Up s n ∷ []))) (letters.UpNote s n) (filter (λ r. is_up w (noted (h ++ Up s n ∷ [])) r && not (is_site s r)) (sites w)) tt)
      entry_fit h ask other grows waits y = tt

      others_fit : (outs : List Out) → AreOther outs → AreFit outs
      others_fit [] a = tt
      others_fit (out ∷ outs) a = (go out.2 a.0, others_fit outs a.1)
        where
          go : (m : Message) → IsOther m → IsFit out.0 out.1 m
          go (letters.CopyDo x target n) o = none_fit out.0 out.1 (letters.CopyDo x target n) tt
          go (letters.Ends count) o = none_fit out.0 out.1 (letters.Ends count) tt
          go other o = absurd o

      pub chain_fit : (a b : Turn Sequencer) → Chain w from letter a b → Grows p (so_far a) → ((t : Txn) (r : Request) → HasWait (so_far a) t r → IsGood t r) → AreFit a.outs → AreFit b.outs
      chain_fit a b done grows waits fit = fit
      chain_fit a b (places ask e y rest) grows waits fit =
          let now = so_far (place w ask a e) in
          chain_fit (place w ask a e) b rest (λ test h. subst (λ r. list_any test r ≡ true) (sym (noted_push a.state.history e)) (any_kept test (so_far a) (next (so_far a) e) (grows test h)))
          (λ t r h. waits t r (no_wait from letter (so_far a) e y t r (subst (λ z. HasWait z t r) (noted_push a.state.history e) h)))
          (all_append (λ (out : Out). IsFit out.0 out.1 out.2) a.outs (rows.sends w (noted (a.state.history ++ e ∷ [])) ask e) fit (entry_fit a.state.history ask e grows waits y))
      chain_fit a b (sends {next = next} outs same is other rest) grows waits fit =
          chain_fit next b rest (subst (λ h. Grows p (noted h)) (sym same) grows) (subst (λ h. (t : Txn) (r : Request) → HasWait (noted h) t r → IsGood t r) (sym same) waits)
          (subst AreFit (sym is) (all_append (λ (out : Out). IsFit out.0 out.1 out.2) a.outs outs fit (others_fit outs other)))
