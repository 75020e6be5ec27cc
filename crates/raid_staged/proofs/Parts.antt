-- A step of a site keeps the parts of its transactions' writes those of the writes that are to be committed.
use Rattle.std.proofs.Common.{◌≡◌, ◌⊎◌, inl, inr, ℕ, ℤ, ◌+◌, ◌-◌, ◌==◌, Bool, true, false, not, List, [], ◌∷◌, ◌++◌, map, filter, Option, Some, None, if◌then◌else◌, arith, sym, subst, ap, ◌∙◌, refl, append-nil, append_assoc}
use Rattle.std.specs.Prelude.{⊤}
use Rattle.std.specs.List.{AllByRecursion}
use Rattle.std.proofs.lemmas.Bool.{eqb-true, true≢false}
use Rattle.raid_base.specs.declared.names.Txn.{Txn}
use Rattle.raid_base.specs.declared.names.Item.{Item}
use Rattle.raid_base.specs.declared.names.Site.{Site}
use Rattle.raid_base.specs.declared.request.Request.{Request}
use Rattle.raid_base.specs.declared.entry.Answer.TheVariants.{Yes, No}
use Rattle.raid_base.specs.declared.entry.Noted.{Noted}
use Rattle.raid_base.specs.Names.{is_txn}
use Rattle.raid_base.specs.Sites.{site}
use Rattle.raid_program.specs.declared.program.Want.TheVariants as wants
use Rattle.raid_program.specs.Run.{put}
use Rattle.raid_workload.specs.declared.workload.Workload.{Workload}
use Rattle.raid_rules.specs.History.{has_begun, has_ended}
use Rattle.raid_legal.specs.Seen.{holds_some}
use Rattle.raid_message.specs.declared.letter.Message.{Message}
use Rattle.raid_message.specs.declared.letter.Message.TheVariants as letters
use Rattle.raid_message.specs.declared.letter.Letter.{Letter}
use Rattle.raid_steps.specs.State.{Out, Turn, opened, tell, Phase, asking, preparing, sent, Running, SiteState}
use Rattle.raid_steps.specs.Copies.{stage, unstage}
use Rattle.raid_steps.specs.Programs as programs
use Rattle.raid_steps.specs.Programs.{held_by, put_running, running_of, prepare_out, voters}
use Rattle.raid_sessions.proofs.Lists.{all_append, same_self}
use Rattle.raid_moves.specs.Moves as parts
use Rattle.raid_moves.specs.Moves.{Ascend, Hears, Tells, Says, Given, comes_to, Goes, fresh, Begins, Row, Starts, next_of, passed, Move, Moves}
use Rattle.raid_moves.proofs.Places.{program_of, nothing, put_found, put_other, all_kept}
use Rattle.raid_layers.proofs.AtSite.{Extends, goes_extends, moves_extend}
use Rattle.raid_layers.proofs.Turns.{filtered_out, filtered_other}
use Rattle.raid_staged.specs.Agree.{writes_at, writes_of, first_writes, IsPartOf, AsksPart}

abbrev Writes : Type 0
Writes = List (Item × ℤ)

-- something that is neither a part nor asks for a commit
abbrev IsPlain : Message → Type 0
IsPlain (letters.Prepare t pairs) = ⊥
IsPlain (letters.CommitAsk t r) = ⊥
IsPlain other = ⊤

abbrev ArePlain : List Out → Type 0
ArePlain outs = AllByRecursion (λ (out : Out). IsPlain out.2) outs

-- a commit is asked for, for the transaction, with this request
abbrev pub HasAsk : List Out → Txn → Request → Type 0
HasAsk [] t r = ⊥
HasAsk (out ∷ outs) t r = (out.2 ≡ letters.CommitAsk t r) ⊎ HasAsk outs t r

ask_parted : (xs ys : List Out) (t : Txn) (r : Request) → HasAsk (xs ++ ys) t r → HasAsk xs t r ⊎ HasAsk ys t r
ask_parted [] ys t r h = inr h
ask_parted (x ∷ xs) ys t r (inl is) = inl (inl is)
ask_parted (x ∷ xs) ys t r (inr more) = elim (ask_parted xs ys t r more) [ inl a ↦ inl (inr a) | inr b ↦ inr b ]

plain_unasked : (outs : List Out) (t : Txn) (r : Request) → ArePlain outs → HasAsk outs t r → ⊥
plain_unasked [] t r a h = h
plain_unasked (out ∷ outs) t r a (inl is) = subst IsPlain is a.0
plain_unasked (out ∷ outs) t r a (inr more) = plain_unasked outs t r a.1 more

-- a Begin to the sequencer of who hasn't begun
abbrev pub IsFresh : List Noted → ℕ → Message → Type 0
IsFresh p n (letters.Begin t) = n ≡ 1 → has_begun p t ≡ false
IsFresh p n other = ⊤

abbrev pub AreFresh : List Noted → List Out → Type 0
AreFresh p outs = AllByRecursion (λ (out : Out). IsFresh p out.0 out.2) outs

all_first : {X : Type 0} (P : X → Type 0) (xs ys : List X) → AllByRecursion P (xs ++ ys) → AllByRecursion P xs
all_first P [] ys a = tt
all_first P (x ∷ xs) ys a = (a.0, all_first P xs ys a.1)

pub all_last : {X : Type 0} (P : X → Type 0) (xs ys : List X) → AllByRecursion P (xs ++ ys) → AllByRecursion P ys
all_last P [] ys a = a
all_last P (x ∷ xs) ys a = all_last P xs ys a.1

-- of none there is no part, so it is one of any
none_part : (w : Workload) (s : Site) (o : Option Writes) (pairs : Writes) → IsPartOf w s None pairs → IsPartOf w s o pairs
none_part w s o pairs h = absurd h

pub none_asked : (w : Workload) (t : Txn) (o : Option Writes) (s : Site) (m : Message) → AsksPart w t None s m → AsksPart w t o s m
none_asked w t o s (letters.Prepare u pairs) h = λ same. absurd (h same)
none_asked w t o s other h = tt

-- a part of a site, as a site is asked to stage it
own_part : (w : Workload) (s : Site) (n : ℕ) (writes : Writes) → n ≡ s.0 + 1 → IsPartOf w (site (n - 1)) (Some writes) (held_by w s writes)
own_part w s n writes is = ap (λ z. held_by w z writes) (ap (λ i. let z : Site = record { 0 = i } in z) (let e : s.0 ≡ n - 1 = omega (arith, is) in e))

module _ (w : Workload) (p : List Noted) (k : ℕ) (state : SiteState) (from : ℕ) (letter : Letter) (Told Old : Txn → Option (List (Item × ℤ)) → Type 0) where
  -- what is staged here, and what is sent
  abbrev pub StagedOk : Txn → Option (List (Item × ℤ)) → List (Txn × List (Item × ℤ)) → Type 0
  StagedOk t o staged = AllByRecursion (λ (e : Txn × List (Item × ℤ)). is_txn t e.0 ≡ true → IsPartOf w (site (k + 1)) o e.1) staged

  abbrev pub OutsOk : Txn → Option (List (Item × ℤ)) → List Out → Type 0
  OutsOk t o outs = AllByRecursion (λ (out : Out). AsksPart w t o (site (out.0 - 1)) out.2) outs

  -- all parts, with those elsewhere
  abbrev pub Held : Txn → Option (List (Item × ℤ)) → Turn SiteState → Type 0
  Held t o turn = Old t o × (StagedOk t o turn.state.staged × OutsOk t o turn.outs)

  -- what is told of a transaction by now
  abbrev pub SentAsk : List Out → Txn → Option (List (Item × ℤ)) → Type 0
  SentAsk outs t o = (has_ended p t ≡ false) × ((r : Request) × (HasAsk outs t r × (o ≡ Some r.writes)))

  abbrev pub ToldIn : Turn SiteState → Txn → Option (List (Item × ℤ)) → Type 0
  ToldIn turn t o = Told t o ⊎ SentAsk turn.outs t o

  abbrev First : Txn → Option (List (Item × ℤ)) → Type 0
  First t o = has_begun p t ≡ false → o ≡ first_writes w t

  -- of a program that asks or prepares
  abbrev pub RunNow : Turn SiteState → Txn → Option (List (Item × ℤ)) → Type 0
  RunNow turn t o = (has_ended p t ≡ false → Held t o turn) × (First t o × ((q : Option (List (Item × ℤ))) → ToldIn turn t q → q ≡ o))

  abbrev pub OpenNow : Turn SiteState → Txn → Phase → Type 0
  OpenNow turn t (asking ask x q) = RunNow turn t None
  OpenNow turn t (preparing reads writes awaited) = RunNow turn t (Some writes)
  OpenNow turn t sent = ⊤

  pub record Now (turn : Turn SiteState) : Type 0 where
    pub place : turn.state.site ≡ site (k + 1)
    pub told : (t : Txn) (o : Option (List (Item × ℤ))) → ToldIn turn t o → Held t o turn × First t o
    pub runs : (t : Txn) (r : Running) → running_of turn.state t ≡ Some r → OpenNow turn t r.phase

  -- more is sent
  sent_parted : (turn : Turn SiteState) (new outs : List Out) (t : Txn) (o : Option Writes) → outs ≡ turn.outs ++ new → SentAsk outs t o → SentAsk turn.outs t o ⊎ SentAsk new t o
  sent_parted turn new outs t o more (alive, (r, (h, is))) = elim (ask_parted turn.outs new t r (subst (λ xs. HasAsk xs t r) more h)) [ inl a ↦ inl (alive, (r, (a, is))) | inr b ↦ inr (alive, (r, (b, is))) ]

  module _ (turn after : Turn SiteState) (new : List Out) (more : after.outs ≡ turn.outs ++ new) where
    run_kept : (t : Txn) (o : Option Writes) → (Held t o turn → Held t o after) → ((q : Option Writes) → SentAsk new t q → ⊥) → RunNow turn t o → RunNow after t o
    run_kept t o held unasked n = ((λ alive. held (n.0 alive)), (n.1.0, each))
      where
        each : (q : Option Writes) → ToldIn after t q → q ≡ o
        each q (inl told) = n.1.1 q (inl told)
        each q (inr sends) = elim (sent_parted turn new after.outs t q more sends) [ inl old ↦ n.1.1 q (inr old) | inr now ↦ absurd (unasked q now) ]

    open_kept : (t : Txn) (phase : Phase) → ((o : Option Writes) → Held t o turn → Held t o after) → ((q : Option Writes) → SentAsk new t q → ⊥) → OpenNow turn t phase → OpenNow after t phase
    open_kept t (asking ask x q) held unasked n = run_kept t None (held None) unasked n
    open_kept t (preparing reads writes awaited) held unasked n = run_kept t (Some writes) (held (Some writes)) unasked n
    open_kept t sent held unasked n = tt

    -- a program that runs: as it did, and nothing is asked for it; or as it is said
    abbrev IsRunning : (Txn → Option Writes → Type 0) → Txn → Running → Type 0
    IsRunning Okay t r = ((running_of turn.state t ≡ Some r) × (((o : Option Writes) → Okay t o) × ((q : Option Writes) → SentAsk new t q → ⊥))) ⊎ OpenNow after t r.phase

    now_more : (Okay : Txn → Option Writes → Type 0) → after.state.site ≡ turn.state.site → ((t : Txn) (o : Option Writes) → Okay t o → Held t o turn → Held t o after) → ((t : Txn) (o : Option Writes) → ToldIn turn t o → Okay t o) →
        ((t : Txn) (o : Option Writes) → SentAsk new t o → Held t o after × First t o) → ((t : Txn) (r : Running) → running_of after.state t ≡ Some r → IsRunning Okay t r) → Now turn → Now after
    now_more Okay here held okay asked running n = record {
      place = here ∙ n.place;
      told = told;
      runs = λ t r f. go t r (running t r f);
    }
      where
        told : (t : Txn) (o : Option Writes) → ToldIn after t o → Held t o after × First t o
        told t o (inl h) = (held t o (okay t o (inl h)) (n.told t o (inl h)).0, (n.told t o (inl h)).1)
        told t o (inr h) = elim (sent_parted turn new after.outs t o more h) [ inl old ↦ (held t o (okay t o (inr old)) (n.told t o (inr old)).0, (n.told t o (inr old)).1) | inr now ↦ asked t o now ]

        go : (t : Txn) (r : Running) → IsRunning Okay t r → OpenNow after t r.phase
        go t r (inl (f, (fine, unasked))) = open_kept t r.phase (λ o. held t o (fine o)) unasked (n.runs t r f)
        go t r (inr opens) = opens

  -- what is sent is plain, and what is staged stays as it should be
  plain_ok : (t : Txn) (o : Option Writes) (new : List Out) → ArePlain new → OutsOk t o new
  plain_ok t o [] a = tt
  plain_ok t o (out ∷ new) a = (one out.2 a.0, plain_ok t o new a.1)
    where
      one : (m : Message) → IsPlain m → AsksPart w t o (site (out.0 - 1)) m
      one (letters.Prepare u pairs) h = absurd h
      one other h = tt

  outs_more : (t : Txn) (o : Option Writes) (turn after : Turn SiteState) (new : List Out) → after.outs ≡ turn.outs ++ new → OutsOk t o turn.outs → OutsOk t o new → OutsOk t o after.outs
  outs_more t o turn after new more a b = subst (OutsOk t o) (sym more) (all_append (λ (out : Out). AsksPart w t o (site (out.0 - 1)) out.2) turn.outs new a b)

  unasked_new : (new : List Out) → ArePlain new → (t : Txn) (q : Option Writes) → SentAsk new t q → ⊥
  unasked_new new a t q (alive, (r, (h, is))) = plain_unasked new t r a h

  now_plain : (turn after : Turn SiteState) (new : List Out) → after.state.site ≡ turn.state.site → after.outs ≡ turn.outs ++ new → ArePlain new → ((t : Txn) (o : Option Writes) → Held t o turn → StagedOk t o after.state.staged) →
      ((t : Txn) (r : Running) → running_of after.state t ≡ Some r → (running_of turn.state t ≡ Some r) ⊎ OpenNow after t r.phase) → Now turn → Now after
  now_plain turn after new here more plain staged running n =
      now_more turn after new more (λ t o. ⊤) here (λ t o fine h. (h.0, (staged t o h, outs_more t o turn after new more h.1.1 (plain_ok t o new plain)))) (λ t o h. tt) (λ t o h. absurd (unasked_new new plain t o h))
      (λ t r f. elim (running t r f) [ inl was ↦ inl (was, ((λ o. tt), unasked_new new plain t)) | inr now ↦ inr now ]) n

  -- a program that is put
  put_cases : (rs : List Running) (now : Running) (t : Txn) (r : Running) → program_of t (put_running now rs) ≡ Some r → ((program_of t rs ≡ Some r) × ((now.txn.0 == t.0) ≡ false)) ⊎ ((now.txn ≡ t) × (now ≡ r))
  put_cases rs now t r f = go (now.txn.0 == t.0) refl
    where
      go : (b : Bool) → (now.txn.0 == t.0) ≡ b → ((program_of t rs ≡ Some r) × ((now.txn.0 == t.0) ≡ false)) ⊎ ((now.txn ≡ t) × (now ≡ r))
      go true e =
          let same : now.txn ≡ t = ap (λ n. let z : Txn = record { 0 = n } in z) (eqb-true now.txn.0 t.0 e) in
          inr (same, cc (put_found now rs, subst (λ u. program_of u (put_running now rs) ≡ Some r) (sym same) f))
      go false e = inl ((sym (put_other t now rs e) ∙ f), e)

  plain_puts : (turn after : Turn SiteState) (now : Running) (new : List Out) → after.state.site ≡ turn.state.site → after.state.staged ≡ turn.state.staged → after.state.running ≡ put_running now turn.state.running → after.outs ≡ turn.outs ++ new → ArePlain new →
      OpenNow after now.txn now.phase → Now turn → Now after
  plain_puts turn after now new here kept put more plain opens n =
      now_plain turn after new here more plain (λ t o h. subst (StagedOk t o) (sym kept) h.1.0)
      (λ t r f. elim (put_cases turn.state.running now t r (ap (program_of t) (sym put) ∙ f)) [
        | inl was ↦ inl was.0
        | inr same ↦ inr (subst (λ (z : Running). OpenNow after t z.phase) same.1 (subst (λ u. OpenNow after u now.phase) same.0 opens))
      ]) n

  -- a program whose parts are sent, or staged here
  parts_puts : (turn after : Turn SiteState) (now : Running) (reads writes : Writes) (awaited : List Site) (new : List Out) → now.phase ≡ preparing reads writes awaited → after.state.site ≡ turn.state.site → after.state.running ≡ put_running now turn.state.running → after.outs ≡ turn.outs ++ new →
      ((t : Txn) (r : Request) → HasAsk new t r → ⊥) → ((t : Txn) (o : Option Writes) → ((now.txn.0 == t.0) ≡ true → o ≡ Some writes) → Held t o turn → StagedOk t o after.state.staged × OutsOk t o new) →
      RunNow turn now.txn (Some writes) → Now turn → Now after
  parts_puts turn after now reads writes awaited new is here put more unasked parts ready n =
      now_more turn after new more Okay here held (λ t o h e. ready.1.1 o (subst (λ u. ToldIn turn u o) (sym (its t e)) h)) (λ t o h. absurd (none t o h))
      (λ t r f. elim (put_cases turn.state.running now t r (ap (program_of t) (sym put) ∙ f)) [
        | inl was ↦ inl (was.0, ((λ o e. absurd (true≢false (sym e ∙ was.1))), none t))
        | inr both ↦ inr (subst (λ (z : Running). OpenNow after t z.phase) both.1 (subst (λ u. OpenNow after u now.phase) both.0 (subst (OpenNow after now.txn) (sym is)
            (run_kept turn after new more now.txn (Some writes) (held now.txn (Some writes) (λ e. refl)) (none now.txn) ready))))
      ]) n
    where
      Okay : Txn → Option Writes → Type 0
      Okay t o = (now.txn.0 == t.0) ≡ true → o ≡ Some writes

      its : (t : Txn) → (now.txn.0 == t.0) ≡ true → now.txn ≡ t
      its t e = ap (λ n. let z : Txn = record { 0 = n } in z) (eqb-true now.txn.0 t.0 e)

      none : (t : Txn) (o : Option Writes) → SentAsk new t o → ⊥
      none t o (alive, (r, (h, q))) = unasked t r h

      held : (t : Txn) (o : Option Writes) → Okay t o → Held t o turn → Held t o after
      held t o fine h = (h.0, ((parts t o fine h).0, outs_more t o turn after new more h.1.1 (parts t o fine h).1))

  -- a program goes on
  comes_none : (r : Running) (x : Item) → (comes_to w r).end ≡ wants.Read x → writes_of (comes_to w r) ≡ None
  comes_none r x e = ap (λ z. writes_at z (comes_to w r).writes) e

  comes_some : (r : Running) → (comes_to w r).end ≡ wants.Done → writes_of (comes_to w r) ≡ Some (comes_to w r).writes
  comes_some r e = ap (λ z. writes_at z (comes_to w r).writes) e

  -- the same with plain letters more
  run_plain : (turn after : Turn SiteState) (new : List Out) (t : Txn) (o : Option Writes) → after.outs ≡ turn.outs ++ new → ArePlain new → after.state.staged ≡ turn.state.staged → RunNow turn t o → RunNow after t o
  run_plain turn after new t o more plain kept n =
      run_kept turn after new more t o (λ h. (h.0, (subst (StagedOk t o) (sym kept) h.1.0, outs_more t o turn after new more h.1.1 (plain_ok t o new plain)))) (unasked_new new plain t) n

  prepares_ask : (v : List ℕ) (u : Txn) (writes : Writes) (ss : List Site) (t : Txn) (r : Request) → HasAsk (map (prepare_out w v u writes) ss) t r → ⊥
  prepares_ask v u writes [] t r h = h
  prepares_ask v u writes (s ∷ ss) t r (inl is) = cc is
  prepares_ask v u writes (s ∷ ss) t r (inr more) = prepares_ask v u writes ss t r more

  prepare_part : (v : List ℕ) (u : Txn) (writes : Writes) (s : Site) (t : Txn) (o : Option Writes) → ((u.0 == t.0) ≡ true → o ≡ Some writes) → AsksPart w t o (site ((prepare_out w v u writes s).0 - 1)) (prepare_out w v u writes s).2
  prepare_part v u writes s t o fine same = subst (λ z. IsPartOf w (site (s.0 + 1 - 1)) z (held_by w s writes)) (sym (fine same)) (own_part w s (s.0 + 1) writes refl)

  prepares_parts : (v : List ℕ) (u : Txn) (writes : Writes) (ss : List Site) (t : Txn) (o : Option Writes) → ((u.0 == t.0) ≡ true → o ≡ Some writes) → OutsOk t o (map (prepare_out w v u writes) ss)
  prepares_parts v u writes [] t o fine = tt
  prepares_parts v u writes (s ∷ ss) t o fine = (prepare_part v u writes s t o fine, prepares_parts v u writes ss t o fine)

  -- one more is staged
  staged_more : (t u : Txn) (o : Option Writes) (pairs : Writes) (staged : List (Txn × Writes)) → ((u.0 == t.0) ≡ true → IsPartOf w (site (k + 1)) o pairs) → StagedOk t o staged → StagedOk t o (stage u pairs staged)
  staged_more t u o pairs staged fine a =
      all_append (λ (e : Txn × List (Item × ℤ)). is_txn t e.0 ≡ true → IsPartOf w (site (k + 1)) o e.1) (unstage u staged) ((u, pairs) ∷ [])
      (all_kept (λ (e : Txn × List (Item × ℤ)). is_txn t e.0 ≡ true → IsPartOf w (site (k + 1)) o e.1) (λ e. not (is_txn u e.0)) staged a) (fine, tt)

  goes_now : (turn : Turn SiteState) (r : Running) {after : Turn SiteState} → Goes w turn r after → RunNow turn r.txn (writes_of (comes_to w r)) → Now turn → Now after
  goes_now turn r (parts.reads_next x e) ready n =
      plain_puts turn (programs.ask turn r x) (record r { asks = r.asks + 1; phase = asking (r.asks + 1) x None }) ((1, 0, letters.ReadAsk r.txn (r.asks + 1) x) ∷ []) refl refl refl refl (tt, tt)
      (run_plain turn (programs.ask turn r x) ((1, 0, letters.ReadAsk r.txn (r.asks + 1) x) ∷ []) r.txn None refl (tt, tt) refl (subst (RunNow turn r.txn) (comes_none r x e) ready)) n
  goes_now turn r (parts.stops e) ready n = plain_puts turn _ (record r { phase = sent }) ((1, 0, letters.EndAsk r.txn _ (comes_to w r).reads) ∷ []) refl refl refl refl (tt, tt) tt n
  goes_now turn r (parts.overflows e) ready n = plain_puts turn _ (record r { phase = sent }) ((1, 0, letters.EndAsk r.txn _ (comes_to w r).reads) ∷ []) refl refl refl refl (tt, tt) tt n
  goes_now turn r (parts.prepares e) ready n =
      parts_puts turn (programs.prepare w turn r (comes_to w r)) now (comes_to w r).reads writes vs (map (prepare_out w turn.state.vector r.txn writes) vs) refl (here (holds_some w writes turn.state.site)) (runs (holds_some w writes turn.state.site)) refl
      (prepares_ask turn.state.vector r.txn writes vs) (λ t o fine h. (staged t o fine h.1.0 (holds_some w writes turn.state.site), prepares_parts turn.state.vector r.txn writes vs t o fine))
      (subst (RunNow turn r.txn) (comes_some r e) ready) n
    where
      writes : Writes
      writes = (comes_to w r).writes

      vs : List Site
      vs = voters w turn.state (comes_to w r).writes

      now : Running
      now = record r { phase = preparing (comes_to w r).reads (comes_to w r).writes (voters w turn.state (comes_to w r).writes) }

      here : (b : Bool) → (let s : SiteState = (if b then record (turn.state) { staged = stage r.txn (held_by w turn.state.site (comes_to w r).writes) turn.state.staged } else turn.state) in s.site) ≡ turn.state.site
      here true = refl
      here false = refl

      runs : (b : Bool) → (let s : SiteState = (if b then record (turn.state) { staged = stage r.txn (held_by w turn.state.site (comes_to w r).writes) turn.state.staged } else turn.state) in put_running now s.running) ≡ put_running now turn.state.running
      runs true = refl
      runs false = refl

      staged : (t : Txn) (o : Option Writes) → ((r.txn.0 == t.0) ≡ true → o ≡ Some (comes_to w r).writes) → StagedOk t o turn.state.staged → (b : Bool) →
          StagedOk t o (let s : SiteState = (if b then record (turn.state) { staged = stage r.txn (held_by w turn.state.site (comes_to w r).writes) turn.state.staged } else turn.state) in s.staged)
      staged t o fine a true =
          staged_more t r.txn o (held_by w turn.state.site (comes_to w r).writes) turn.state.staged
          (λ e. subst (λ z. IsPartOf w (site (k + 1)) z (held_by w turn.state.site (comes_to w r).writes)) (sym (fine e)) (ap (λ z. held_by w z (comes_to w r).writes) n.place)) a
      staged t o fine a false = a

  begins_now : (unbegun : (t : Txn) → has_begun p t ≡ false → Told t (first_writes w t)) (turn : Turn SiteState) (t : Txn) {after : Turn SiteState} → Begins w turn t after → has_begun p t ≡ false → Now turn → Now after
  begins_now unbegun turn t g new n =
      goes_now begun (fresh t) g ((λ alive. (one.told t (first_writes w t) (inl (unbegun t new))).0), ((λ b. refl), λ o h. (one.told t o h).1 new)) one
    where
      begun : Turn SiteState
      begun = tell turn (letters.Begin t)

      one : Now (tell turn (letters.Begin t))
      one = now_plain turn (tell turn (letters.Begin t)) ((1, 0, letters.Begin t) ∷ []) refl refl (tt, tt) (λ u o h. h.1.0) (λ u r f. inl f) n

  module _ (unbegun : (t : Txn) → has_begun p t ≡ false → Told t (first_writes w t)) where
    -- a Begin that is sent is of who hasn't begun
    sent_fresh : (outs more last : List Out) (t : Txn) → last ≡ (outs ++ (1, 0, letters.Begin t) ∷ []) ++ more → AreFresh p last → has_begun p t ≡ false
    sent_fresh outs more last t is a =
        (all_last (λ (out : Out). IsFresh p out.0 out.2) outs ((1, 0, letters.Begin t) ∷ []) (all_first (λ (out : Out). IsFresh p out.0 out.2) (outs ++ (1, 0, letters.Begin t) ∷ []) more (subst (AreFresh p) is a))).0 refl

    start_heard : Starts w state from letter → Hears state letter
    start_heard (parts.at_welcome v z e) = e.heard
    start_heard (parts.at_done t e) = e.heard
    start_heard (parts.at_drop t again e) = e.heard

    begun_new : (turn : Turn SiteState) (t : Txn) {after : Turn SiteState} → Begins w turn t after → (last : Turn SiteState) → Extends w after last → AreFresh p last.outs → has_begun p t ≡ false
    begun_new turn t {after = after} g last more a =
        let further = goes_extends w (tell turn (letters.Begin t)) (fresh t) g in
        sent_fresh turn.outs (further.0 ++ more.0) last.outs t (more.1 ∙ ap (λ outs. outs ++ more.0) further.1 ∙ append_assoc (turn.outs ++ (1, 0, letters.Begin t) ∷ []) further.0 more.0) a

    its : (turn : Turn SiteState) (r : Running) {phase : Phase} → running_of turn.state r.txn ≡ Some r → r.phase ≡ phase → Now turn → OpenNow turn r.txn phase
    its turn r f is n = subst (OpenNow turn r.txn) is (n.runs r.txn r f)

    move_now : {turn after : Turn SiteState} → Move w state from letter turn after → (last : Turn SiteState) → Extends w after last → (Hears state letter → AreFresh p last.outs) → Now turn → Now after
    move_now {turn = turn} (parts.begins s z l g) last more a n =
        begins_now unbegun (passed w turn) (next_of turn) g (begun_new (passed w turn) (next_of turn) g last more (a (start_heard s))) (record { place = n.place; told = n.told; runs = n.runs })
    move_now {turn = turn} (parts.asks r ask x s q f ph m y) last more a n =
        plain_puts turn (programs.ask turn r x) (record r { asks = r.asks + 1; phase = asking (r.asks + 1) x None }) ((1, 0, letters.ReadAsk r.txn (r.asks + 1) x) ∷ []) refl refl refl refl (tt, tt)
        (run_plain turn (programs.ask turn r x) ((1, 0, letters.ReadAsk r.txn (r.asks + 1) x) ∷ []) r.txn None refl (tt, tt) refl (its turn r f ph n)) n
    move_now {turn = turn} (parts.loses r told writes awaited s f ph m) last more a n =
        plain_puts turn (programs.with_running turn (record r { phase = preparing told writes (parts.but s awaited) })) (record r { phase = preparing told writes (parts.but s awaited) }) [] refl refl refl (sym (append-nil turn.outs)) tt
        (run_plain turn (programs.with_running turn (record r { phase = preparing told writes (parts.but s awaited) })) [] r.txn (Some writes) (sym (append-nil turn.outs)) tt refl (its turn r f ph n)) n
    move_now {turn = turn} (parts.joins r told writes awaited s z f ph m y) last more a n =
        parts_puts turn _ (record r { phase = preparing told writes (programs.with_vote s awaited) }) told writes (programs.with_vote s awaited) (prepare_out w turn.state.vector r.txn writes s ∷ []) refl refl refl refl
        (λ t q h. prepares_ask turn.state.vector r.txn writes (s ∷ []) t q h) (λ t o fine h. (h.1.0, (prepare_part turn.state.vector r.txn writes s t o fine, tt))) (its turn r f ph n) n
    move_now {turn = turn} (parts.commits r told writes f ph m) last more a n =
        now_more turn after new refl (λ t o. ⊤) refl (λ t o fine h. held t o h) (λ t o h. tt) asked running n
      where
        new : List Out
        new = (1, 0, letters.CommitAsk r.txn (record { reads = told; writes = writes; under = turn.state.vector })) ∷ []

        after : Turn SiteState
        after = tell (programs.with_running turn (record r { phase = sent })) (letters.CommitAsk r.txn (record { reads = told; writes = writes; under = turn.state.vector }))

        ready : RunNow turn r.txn (Some writes)
        ready = its turn r f ph n

        held : (t : Txn) (o : Option Writes) → Held t o turn → Held t o after
        held t o h = (h.0, (h.1.0, outs_more t o turn after new refl h.1.1 (tt, tt)))

        its_ask : (t : Txn) (o : Option Writes) (q : Request) → HasAsk new t q → o ≡ Some q.writes → (r.txn ≡ t) × (o ≡ Some writes)
        its_ask t o q (inl is) same = (let txns : r.txn ≡ t = cc is in let writes_are : writes ≡ q.writes = cc is in (txns, same ∙ ap Some (sym writes_are)))
        its_ask t o q (inr none) same = absurd none

        asked : (t : Txn) (o : Option Writes) → SentAsk new t o → Held t o after × First t o
        asked t o (alive, (q, (h, same))) =
            let its = its_ask t o q h same in
            subst (λ z. Held z o after × First z o) its.0
            (subst (λ z. Held r.txn z after × First r.txn z) (sym its.1) (held r.txn (Some writes) (ready.0 (subst (λ u. has_ended p u ≡ false) (sym its.0) alive)), ready.1.0))

        running : (t : Txn) (q : Running) → running_of after.state t ≡ Some q → IsRunning turn after new refl (λ t o. ⊤) t q
        running t q g = elim (put_cases turn.state.running (record r { phase = sent }) t q g) [
          | inl was ↦ inl (was.0, ((λ o. tt), λ o h. (let its = its_ask t o h.1.0 h.1.1.0 h.1.1.1 in absurd (true≢false (sym (same_self t.0) ∙ subst (λ (z : Txn). (z.0 == t.0) ≡ false) its.0 was.1)))))
          | inr both ↦ inr (subst (λ (z : Running). OpenNow after t z.phase) both.1 tt)
        ]

    moves_now : {turn last : Turn SiteState} → Moves w state from letter turn last → (Hears state letter → AreFresh p last.outs) → Now turn → Now last
    moves_now parts.done a n = n
    moves_now {last = last} (parts.moves m rest) a n = moves_now rest a (move_now m last (moves_extend w state from letter rest) a n)

    -- the rows, given what is so before the step
    module _ (at_home : state.site ≡ site (k + 1)) (old_told : (t : Txn) (o : Option (List (Item × ℤ))) → Told t o → Old t o × (has_begun p t ≡ false → o ≡ first_writes w t)) (old_staged : (t : Txn) (o : Option (List (Item × ℤ))) → Old t o → StagedOk t o state.staged)
        (none_any : (t : Txn) (o : Option (List (Item × ℤ))) → Old t None → Old t o)
        (old_prepare : (i : ℕ) (u : Txn) (pairs : List (Item × ℤ)) (t : Txn) (o : Option (List (Item × ℤ))) → Says w state from letter i (letters.Prepare u pairs) → Old t o → is_txn t u ≡ true → IsPartOf w (site (k + 1)) o pairs)
        (old_runs : (t : Txn) (r : Running) → running_of state t ≡ Some r → OpenNow (opened state) t r.phase)
        (untold : (t : Txn) (r : Running) (ask : ℕ) (x : Item) (q : Option Site) → running_of state t ≡ Some r → r.phase ≡ asking ask x q → (o : Option (List (Item × ℤ))) → Told t o → has_begun p t ≡ false)
        (given_begun : (t : Txn) (ask : ℕ) (v : ℤ) → Given w state from letter t ask v → has_begun p t ≡ true) where
      opening : Now (opened state)
      opening = record { place = at_home; told = told; runs = old_runs }
        where
          told : (t : Txn) (o : Option Writes) → ToldIn (opened state) t o → Held t o (opened state) × First t o
          told t o (inl h) = (let old = old_told t o h in ((old.0, (old_staged t o old.0, tt)), old.1))
          told t o (inr h) = absurd h.1.1.0

      found_left : (t u : Txn) (r : Running) (rs : List Running) → program_of u (filter (λ (r : Running). not (is_txn t r.txn)) rs) ≡ Some r → program_of u rs ≡ Some r
      found_left t u r rs f = go (t.0 == u.0) refl
        where
          go : (b : Bool) → (t.0 == u.0) ≡ b → program_of u rs ≡ Some r
          go true e =
              let same : u ≡ t = ap (λ n. let z : Txn = record { 0 = n } in z) (sym (eqb-true t.0 u.0 e)) in
              absurd (nothing (sym (filtered_out t rs) ∙ subst (λ z. program_of z (filter (λ (r : Running). not (is_txn t r.txn)) rs) ≡ Some r) same f))
          go false e = sym (filtered_other t u rs e) ∙ f

      left_ok : (t u : Txn) (o : Option Writes) → StagedOk t o state.staged → StagedOk t o (unstage u state.staged)
      left_ok t u o a = all_kept (λ (e : Txn × List (Item × ℤ)). is_txn t e.0 ≡ true → IsPartOf w (site (k + 1)) o e.1) (λ e. not (is_txn u e.0)) state.staged a

      dropped_now : (u : Txn) → Now (parts.drops state u)
      dropped_now u = now_plain (opened state) (parts.drops state u) [] refl refl tt (λ t o h. left_ok t u o h.1.0) (λ t r f. inl (found_left u t r state.running f)) opening

      -- nothing is staged or put
      still_now : (after : Turn SiteState) (new : List Out) → after.state.site ≡ state.site → after.state.staged ≡ state.staged → after.state.running ≡ state.running → after.outs ≡ new → ArePlain new → Now after
      still_now after new here kept same more plain = now_plain (opened state) after new here more plain (λ t o h. subst (StagedOk t o) (sym kept) h.1.0) (λ t r f. inl (ap (program_of t) (sym same) ∙ f)) opening

      given_now : (r : Running) (ask : ℕ) (x : Item) (q : Option Site) (v : ℤ) → running_of state r.txn ≡ Some r → r.phase ≡ asking ask x q → Given w state from letter r.txn ask v → {after : Turn SiteState} → Goes w (opened state) (record r { answers = put r.answers x v }) after → Now after
      given_now r ask x q v f ph g gg = goes_now (opened state) (record r { answers = put r.answers x v }) gg ((λ alive. any (none.0 alive)), ((λ new. absurd (begun new)), λ o h. absurd (told o h))) opening
        where
          target : Option Writes
          target = writes_of (comes_to w (record r { answers = put r.answers x v }))

          none : RunNow (opened state) r.txn None
          none = its (opened state) r f ph opening

          any : Held r.txn None (opened state) → Held r.txn target (opened state)
          any h = (let old = none_any r.txn target h.0 in (old, (old_staged r.txn target old, tt)))

          begun : has_begun p r.txn ≡ false → ⊥
          begun new = true≢false (sym (given_begun r.txn ask v g) ∙ new)

          told : (o : Option Writes) → ToldIn (opened state) r.txn o → ⊥
          told o (inl h) = begun (untold r.txn r ask x q f ph o h)
          told o (inr h) = h.1.1.0

      row_now : {after : Turn SiteState} → Row w state from letter after → (last : Turn SiteState) → Extends w after last → (Hears state letter → AreFresh p last.outs) → Now after
      row_now (parts.halts u f e) last more a = now_plain (opened state) _ ((0, 0, letters.Halted) ∷ []) refl refl (tt, tt) (λ t o h. tt) (λ t r f. absurd (nothing f)) opening
      row_now (parts.returns u f e) last more a = still_now _ ((1, 0, letters.Hello) ∷ []) refl refl refl refl (tt, tt)
      row_now (parts.refuses i u writes v f l e) last more a = still_now _ ((i + 2, letter.from, letters.Vote u (No letter.to state.session)) ∷ []) refl refl refl refl (tt, tt)
      row_now (parts.idle i) last more a = opening
      row_now (parts.welcomed v z e) last more a = still_now _ [] refl refl refl refl tt
      row_now (parts.served u ask x h z c e q o) last more a = still_now _ ((h.0 + 1, z, letters.Value u ask c.value) ∷ []) refl refl refl refl (tt, tt)
      row_now (parts.notes r ask x q s f ph e) last more a =
          plain_puts (opened state) (programs.with_running (opened state) (record r { phase = asking ask x (Some s) })) (record r { phase = asking ask x (Some s) }) [] refl refl refl refl tt
          (run_plain (opened state) (programs.with_running (opened state) (record r { phase = asking ask x (Some s) })) [] r.txn None refl tt refl (its (opened state) r f ph opening)) opening
      row_now (parts.applied u number ps e q) last more a = now_plain (opened state) _ ((1, 0, letters.Ack u) ∷ []) refl refl (tt, tt) (λ t o h. left_ok t u o h.1.0) (λ t r f. inl f) opening
      row_now (parts.over u e) last more a = now_plain (opened state) _ [] refl refl tt (λ t o h. h.1.0) (λ t r f. inl (found_left u t r state.running f)) opening
      row_now (parts.dropped u again e q) last more a = dropped_now u
      row_now (parts.retried u e q g) last more a = begins_now unbegun (parts.drops state u) (programs.next_attempt w u) g (begun_new (parts.drops state u) (programs.next_attempt w u) g last more (a e.heard)) (dropped_now u)
      row_now (parts.falls s e) last more a = still_now _ [] refl refl refl refl tt
      row_now (parts.rises s z e) last more a = still_now _ [] refl refl refl refl tt
      row_now (parts.copies x target z c e q) last more a = still_now _ ((target.0 + 1, z, letters.CopyValue x c.value c.version) ∷ []) refl refl refl refl (tt, tt)
      row_now (parts.staged i u writes e) last more a =
          now_plain (opened state) _ (((site (i + 1)).0 + 1, letter.from, letters.Vote u Yes) ∷ []) refl refl (tt, tt) (λ t o h. staged_more t u o writes state.staged (λ same. old_prepare i u writes t o e h.0 same) h.1.0) (λ t r f. inl f) opening
      row_now (parts.counts i r told writes awaited f ph e q) last more a =
          plain_puts (opened state) (programs.with_running (opened state) (record r { phase = preparing told writes (parts.but (site (i + 1)) awaited) })) (record r { phase = preparing told writes (parts.but (site (i + 1)) awaited) }) [] refl refl refl refl tt
          (run_plain (opened state) (programs.with_running (opened state) (record r { phase = preparing told writes (parts.but (site (i + 1)) awaited) })) [] r.txn (Some writes) refl tt refl (its (opened state) r f ph opening)) opening
      row_now (parts.renewed i x v version c e q l) last more a = still_now _ ((1, 0, letters.CopyDone x version) ∷ []) refl refl refl refl (tt, tt)
      row_now (parts.given r ask x q v f ph g gg) last more a = given_now r ask x q v f ph g gg

      pub step_now : {last : Turn SiteState} → parts.Reached w state from letter last → (Hears state letter → AreFresh p last.outs) → Now last
      step_now {last = last} (after, (row, rest)) a = moves_now rest a (row_now row last (moves_extend w state from letter rest) a)
