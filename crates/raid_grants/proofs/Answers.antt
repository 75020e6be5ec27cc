-- What a home does with what it hears for the ask that a program waits for: a value lets the program go on, and who serves is noted.
use Rattle.std.proofs.Common.{◌≡◌, ℕ, ℤ, ◌+◌, ◌==◌, Bool, true, false, List, [], ◌∷◌, map, Option, Some, None, if◌then◌else◌, sym, subst, ap, ◌∙◌, refl}
use Rattle.std.specs.Option.{option_map_or}
use Rattle.raid_base.specs.declared.names.Txn.{Txn}
use Rattle.raid_base.specs.declared.names.Item.{Item}
use Rattle.raid_base.specs.declared.names.Site.{Site}
use Rattle.raid_base.specs.Names.{is_item, is_site}
use Rattle.raid_program.specs.Run.{put}
use Rattle.raid_workload.specs.declared.workload.Workload.{Workload}
use Rattle.raid_legal.specs.Seen.{holds_some}
use Rattle.raid_message.specs.declared.letter.Message.TheVariants as letters
use Rattle.raid_message.specs.declared.letter.Letter.{Letter}
use Rattle.raid_steps.specs.State.{Turn, opened, Copy, Phase, asking, preparing, sent, Running, SiteState}
use Rattle.raid_steps.specs.Copies.{copy_of, holds_copy, stage}
use Rattle.raid_steps.specs.Programs as programs
use Rattle.raid_steps.specs.Programs.{put_running, running_of, voters, go_on, give, give_to, ask_commits}
use Rattle.raid_steps.specs.Site.{hear_site, serve}
use Rattle.raid_sessions.proofs.Lists.{same_self}
use Rattle.raid_moves.specs.Moves as parts
use Rattle.raid_moves.specs.Moves.{Ascend, Tells, Says, comes_to, Goes}
use Rattle.raid_moves.specs.After.{committed, committed_in}
use Rattle.raid_moves.proofs.Places.{nothing, something, one_found, ascend_put, program_of, found_txn, put_found}
use Rattle.raid_moves.proofs.Steps.{goes_on, goes_put}
use Rattle.raid_moves.proofs.Swept.{committed_all, told_is, said_is}

-- programs that were changed each by itself
found_mapped : (f : Running → Running) → ((r : Running) → (f r).txn ≡ r.txn) → (t : Txn) (rs : List Running) (r : Running) → program_of t (map f rs) ≡ Some r → (q : Running) × ((program_of t rs ≡ Some q) × (f q ≡ r))
found_mapped f same t [] r e = absurd (nothing e)
found_mapped f same t (q ∷ rs) r e = go (q.txn.0 == t.0) (subst (λ (z : Txn). (if z.0 == t.0 then Some (f q) else program_of t (map f rs)) ≡ Some r) (same q) e) (found_mapped f same t rs r)
  where
    go : (b : Bool) → (if b then Some (f q) else program_of t (map f rs)) ≡ Some r → (program_of t (map f rs) ≡ Some r → (z : Running) × ((program_of t rs ≡ Some z) × (f z ≡ r))) → (z : Running) × (((if b then Some q else program_of t rs) ≡ Some z) × (f z ≡ r))
    go true e rest = (q, (refl, something e))
    go false e rest = rest e

committed_txn : (r : Running) → (committed r).txn ≡ r.txn
committed_txn r = go r.phase
  where
    go : (phase : Phase) → (committed_in r phase).txn ≡ r.txn
    go (asking k x q) = refl
    go (preparing reads writes []) = refl
    go (preparing reads writes (s ∷ ss)) = refl
    go sent = refl

waited : (q r : Running) (a : ℕ) (y : Item) (o : Option Site) → committed q ≡ r → r.phase ≡ asking a y o → q.phase ≡ asking a y o
waited q r a y o is ph = go q.phase is
  where
    go : (phase : Phase) → committed_in q phase ≡ r → q.phase ≡ asking a y o
    go (asking k x z) e = ap (λ (r : Running). r.phase) e ∙ ph
    go (preparing reads writes []) e = absurd (no_phase (ap (λ (r : Running). r.phase) e ∙ ph))
      where
        no_phase : sent ≡ asking a y o → ⊥
        no_phase e = cc e
    go (preparing reads writes (s ∷ ss)) e = ap (λ (r : Running). r.phase) e ∙ ph
    go sent e = ap (λ (r : Running). r.phase) e ∙ ph

-- who waits after the commits were asked for waited before
last_waits : (turn : Turn SiteState) → Ascend turn.state.running → (t : Txn) (r : Running) (a : ℕ) (y : Item) (o : Option Site) → running_of (ask_commits turn).state t ≡ Some r → r.phase ≡ asking a y o → (q : Running) × ((running_of turn.state t ≡ Some q) × (q.phase ≡ asking a y o))
last_waits turn ascend t r a y o f ph =
    let found = found_mapped committed committed_txn t turn.state.running r (ap (program_of t) (sym (committed_all turn ascend)) ∙ f) in
    (found.0, (found.1.0, waited found.0 r a y o found.1.1 ph))

-- a program that goes on waits for a later ask, if it waits
module _ (w : Workload) (turn : Turn SiteState) (r : Running) where
  put_asks : (now q : Running) (rs : List Running) → now.txn ≡ r.txn → program_of r.txn (put_running now rs) ≡ Some q → now ≡ q
  put_asks now q rs e f = something (sym (subst (λ t. program_of t (put_running now rs) ≡ Some now) e (put_found now rs)) ∙ f)

  goes_later : {after : Turn SiteState} → Goes w turn r after → (q : Running) (a : ℕ) (y : Item) (o : Option Site) → running_of after.state r.txn ≡ Some q → q.phase ≡ asking a y o → a ≡ r.asks + 1
  goes_later (parts.reads_next x e) q a y o f ph = sym (number (ap (λ (z : Running). z.phase) (put_asks (record r { asks = r.asks + 1; phase = asking (r.asks + 1) x None }) q turn.state.running refl f) ∙ ph))
    where
      number : asking (r.asks + 1) x None ≡ asking a y o → r.asks + 1 ≡ a
      number e = cc e
  goes_later (parts.prepares e) q a y o f ph = absurd (by (holds_some w (comes_to w r).writes turn.state.site) f)
    where
      now : Running
      now = record r { phase = preparing (comes_to w r).reads (comes_to w r).writes (voters w turn.state (comes_to w r).writes) }

      no_phase : now ≡ q → ⊥
      no_phase e = cc (ap (λ (z : Running). z.phase) e ∙ ph)

      by : (b : Bool) → program_of r.txn (put_running now (let s : SiteState = (if b then record (turn.state) { staged = stage r.txn (programs.held_by w turn.state.site (comes_to w r).writes) turn.state.staged } else turn.state) in s.running)) ≡ Some q → ⊥
      by true f = no_phase (put_asks now q turn.state.running refl f)
      by false f = no_phase (put_asks now q turn.state.running refl f)
  goes_later (parts.stops e) q a y o f ph = absurd (no_phase (put_asks (record r { phase = sent }) q turn.state.running refl f))
    where
      no_phase : (let now : Running = record r { phase = sent } in now ≡ q) → ⊥
      no_phase e = cc (ap (λ (z : Running). z.phase) e ∙ ph)
  goes_later (parts.overflows e) q a y o f ph = absurd (no_phase (put_asks (record r { phase = sent }) q turn.state.running refl f))
    where
      no_phase : (let now : Running = record r { phase = sent } in now ≡ q) → ⊥
      no_phase e = cc (ap (λ (z : Running). z.phase) e ∙ ph)

-- an item's copy, where there is one
copy_there : (state : SiteState) (x : Item) (o : Option Copy) → copy_of state x ≡ o → holds_copy state x ≡ true → (c : Copy) × (copy_of state x ≡ Some c)
copy_there state x None e h = absurd (one_found (λ (c : Copy). is_item x c.item) state.copies h e)
copy_there state x (Some c) e h = (c, e)

pub copy_held : (state : SiteState) (x : Item) → holds_copy state x ≡ true → (c : Copy) × (copy_of state x ≡ Some c)
copy_held state x h = copy_there state x (copy_of state x) refl h

module _ (w : Workload) (state : SiteState) (from : ℕ) (letter : Letter) (ascend : Ascend state.running) (t : Txn) (r : Running) (ask : ℕ) (x : Item) (o : Option Site) (found : running_of state t ≡ Some r) (phase : r.phase ≡ asking ask x o) where
  its : r.txn ≡ t
  its = found_txn t state.running r found

  given_is : (v : ℤ) → give w (opened state) t ask v ≡ go_on w (opened state) (record r { answers = put r.answers x v })
  given_is v =
      ap (λ z. option_map_or (λ (r : Running). give_to w (opened state) ask v r r.phase) z (opened state)) found ∙ ap (give_to w (opened state) ask v r) phase
      ∙ ap (λ b. if b then go_on w (opened state) (record r { answers = put r.answers x v }) else opened state) (same_self ask)

  given_later : (v : ℤ) → hear_site w state from letter ≡ ask_commits (give w (opened state) t ask v) → (last : Running) (a : ℕ) (y : Item) (z : Option Site) → running_of (hear_site w state from letter).state t ≡ Some last → last.phase ≡ asking a y z → a ≡ r.asks + 1
  given_later v is last a y z f ph =
      let q = last_waits (go_on w (opened state) now) (goes_put w Ascend (opened state) now (λ put e. ascend_put put state.running ascend) (goes_on w (opened state) now)) t last a y z (ap (λ (turn : Turn SiteState). running_of turn.state t) (sym (is ∙ ap ask_commits (given_is v))) ∙ f) ph in
      goes_later w (opened state) now (goes_on w (opened state) now) q.0 a y z (subst (λ u. running_of (go_on w (opened state) now).state u ≡ Some q.0) (sym its) q.1.0) q.1.1
    where
      now : Running
      now = record r { answers = put r.answers x v }

  -- its own copy is read, or another site's value comes: it waits for that ask no more
  pub read_later : (y : Item) (h : Site) (n : ℕ) → Tells w state from letter (letters.ReadDo t ask y h n) → holds_copy state y ≡ true → is_site state.site h ≡ true → (last : Running) (a : ℕ) (z : Item) (k : Option Site) → running_of (hear_site w state from letter).state t ≡ Some last → last.phase ≡ asking a z k → a ≡ r.asks + 1
  read_later y h n tells held own last a z k f ph =
      let c = copy_held state y held in
      given_later c.0.value
      (told_is w state from letter (letters.ReadDo t ask y h n) tells ∙ ap (λ s. ask_commits (option_map_or (serve w (opened state) t ask h n) s (opened state))) c.1 ∙ ap (λ b. ask_commits (if b then give w (opened state) t ask c.0.value else parts_sent c.0)) own) last a z k f ph
    where
      parts_sent : Copy → Turn SiteState
      parts_sent c = record { state = state; outs = (h.0 + 1, n, letters.Value t ask c.value) ∷ [] }

  pub value_later : (j : ℕ) (v : ℤ) → Says w state from letter j (letters.Value t ask v) → (last : Running) (a : ℕ) (z : Item) (k : Option Site) → running_of (hear_site w state from letter).state t ≡ Some last → last.phase ≡ asking a z k → a ≡ r.asks + 1
  value_later j v says last a z k f ph = given_later v (said_is w state from letter j (letters.Value t ask v) says) last a z k f ph

  -- who serves is known then
  pub server_known : (s : Site) → Tells w state from letter (letters.Serving t ask s) → (last : Running) (a : ℕ) (y : Item) (k : Option Site) → running_of (hear_site w state from letter).state t ≡ Some last → last.phase ≡ asking a y k → k ≡ Some s
  server_known s tells last a y k f ph = noted (ap (λ (z : Running). z.phase) same ∙ q.1.1)
    where
      now : Running
      now = record r { phase = asking ask x (Some s) }

      turned : programs.change (opened state) t (programs.noted_at ask s) ≡ programs.with_running (opened state) now
      turned = ap (λ z. option_map_or (λ (r : Running). programs.with_running (opened state) (record r { phase = programs.noted_at ask s r.phase })) z (opened state)) found
          ∙ ap (λ (p : Phase). programs.with_running (opened state) (record r { phase = programs.noted_at ask s p })) phase
          ∙ ap (λ b. programs.with_running (opened state) (record r { phase = if b then asking ask x (Some s) else asking ask x o })) (same_self ask)

      q : (q : Running) × ((running_of (programs.with_running (opened state) now).state t ≡ Some q) × (q.phase ≡ asking a y k))
      q = last_waits (programs.with_running (opened state) now) (ascend_put now state.running ascend) t last a y k (ap (λ (turn : Turn SiteState). running_of turn.state t) (sym (told_is w state from letter (letters.Serving t ask s) tells ∙ ap ask_commits turned)) ∙ f) ph

      same : now ≡ q.0
      same = something (sym (subst (λ u. program_of u (put_running now state.running) ≡ Some now) its (put_found now state.running)) ∙ q.1.0)

      noted : asking ask x (Some s) ≡ asking a y k → k ≡ Some s
      noted e = sym (sites e)
        where
          sites : asking ask x (Some s) ≡ asking a y k → Some s ≡ k
          sites e = cc e
