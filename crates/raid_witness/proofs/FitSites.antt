-- What a site asks in a step names only what the workload has.
use Rattle.std.proofs.Common.{◌≡◌, ℕ, ℤ, zero, suc, ◌+◌, ◌-◌, ◌*◌, ◌==◌, nat_le, Bool, true, false, not, ◌&&◌, List, [], ◌∷◌, ◌++◌, length, map, replicate, Some, None, if◌then◌else◌, arith, subst, ap, ◌∙◌, refl}
use Rattle.std.specs.Prelude.{⊤}
use Rattle.std.specs.List.{AllByRecursion}
use Rattle.std.proofs.lemmas.Bool.{and_parts, and_from, eqb-true}
use Rattle.raid_base.specs.declared.names.Txn.{Txn}
use Rattle.raid_base.specs.declared.names.Item.{Item}
use Rattle.raid_base.specs.declared.names.Site.{Site}
use Rattle.raid_base.specs.declared.request.Request.{Request}
use Rattle.raid_base.specs.Names.{is_txn}
use Rattle.raid_base.specs.Sites.{site}
use Rattle.raid_base.specs.Find.{first_of}
use Rattle.raid_workload.specs.declared.workload.Workload.{Workload}
use Rattle.raid_legal.specs.Seen.{holds_some}
use Rattle.raid_message.specs.declared.letter.Message.{Message}
use Rattle.raid_message.specs.declared.letter.Message.TheVariants as letters
use Rattle.raid_message.specs.declared.letter.Letter.{Letter}
use Rattle.raid_steps.specs.State.{Out, Turn, opened, tell, Phase, asking, preparing, sent, Running, SiteState}
use Rattle.raid_steps.specs.Copies.{stage}
use Rattle.raid_steps.specs.Fits.{knows_item, knows_pairs, knows_request, knows_vector, is_own_end, is_of_sequencer}
use Rattle.raid_steps.specs.Programs as programs
use Rattle.raid_steps.specs.Programs.{prepare_out, voters}
use Rattle.raid_steps.specs.Site.{hear_site, fits_here}
use Rattle.raid_sessions.proofs.Lists.{all_append, set_long}
use Rattle.raid_moves.specs.Moves as parts
use Rattle.raid_moves.specs.Moves.{Ascend, comes_to, Goes, fresh, Row, next_of, passed, Move}
use Rattle.raid_moves.proofs.Places.{all_put, all_kept, all_found}
use Rattle.raid_moves.proofs.Steps.{step_keeps}
use Rattle.raid_witness.proofs.Named.{IsNamed, outcome_named}

pub long_zeros : (n : ℕ) → length {A = ℕ} (replicate n 0) ≡ n
long_zeros zero = refl
long_zeros (suc n) = ap suc (long_zeros n)

module _ (w : Workload) where
  -- the message, if it asks for what a transaction does next, names what there is, its transaction left out
  abbrev pub Names : Message → Type 0
  Names (letters.ReadAsk t ask x) = knows_item w x ≡ true
  Names (letters.CommitAsk t request) = knows_request w request ≡ true
  Names (letters.EndAsk t cause reads) = (is_own_end cause ≡ true) × (knows_pairs w reads ≡ true)
  Names other = ⊤

  abbrev pub NameAll : List Out → Type 0
  NameAll outs = AllByRecursion (λ (out : Out). Names out.2) outs

  -- so does what a program is about
  abbrev pub IsAboutKnown : Phase → Type 0
  IsAboutKnown (asking ask x q) = knows_item w x ≡ true
  IsAboutKnown (preparing reads writes awaited) = (knows_pairs w reads ≡ true) × (knows_pairs w writes ≡ true)
  IsAboutKnown sent = ⊤

  -- a turn in which the programs are about what is known, and known things are asked
  pub record IsFit (turn : Turn SiteState) : Type 0 where
    pub long : length turn.state.vector ≡ w.sites
    pub programs : AllByRecursion (λ (r : Running). IsAboutKnown r.phase) turn.state.running
    pub names : NameAll turn.outs

  all_names : (xs ys : List Out) → NameAll xs → NameAll ys → NameAll (xs ++ ys)
  all_names xs ys a b = all_append (λ (out : Out). Names out.2) xs ys a b

  prepares_name : (v : List ℕ) (t : Txn) (writes : List (Item × ℤ)) (ss : List Site) → NameAll (map (prepare_out w v t writes) ss)
  prepares_name v t writes [] = tt
  prepares_name v t writes (s ∷ ss) = (tt, prepares_name v t writes ss)

  puts : (turn : Turn SiteState) (r : Running) → IsAboutKnown r.phase → IsFit turn → AllByRecursion (λ (r : Running). IsAboutKnown r.phase) (programs.put_running r turn.state.running)
  puts turn r known fit = all_put (λ (r : Running). IsAboutKnown r.phase) r turn.state.running known fit.programs

  goes_fit : (turn : Turn SiteState) (r : Running) {after : Turn SiteState} → Goes w turn r after → IsFit turn → IsFit after
  goes_fit turn r (parts.reads_next x e) fit =
      let known = (outcome_named w r.txn (λ x. first_of x r.answers)).wish x e in
      record { long = fit.long; programs = puts turn (record r { asks = r.asks + 1; phase = asking (r.asks + 1) x None }) known fit; names = all_names turn.outs _ fit.names (known, tt) }
  goes_fit turn r (parts.prepares e) fit = go (holds_some w (comes_to w r).writes turn.state.site)
    where
      vs : List Site
      vs = voters w turn.state (comes_to w r).writes

      now : Running
      now = record r { phase = preparing (comes_to w r).reads (comes_to w r).writes vs }

      named : IsNamed w (comes_to w r)
      named = outcome_named w r.txn (λ x. first_of x r.answers)

      go : (b : Bool) → (let s : SiteState = (if b then record (turn.state) { staged = stage r.txn (programs.held_by w turn.state.site (comes_to w r).writes) turn.state.staged } else turn.state) in
          IsFit (let after : Turn SiteState = record { state = record s { running = programs.put_running now s.running }; outs = turn.outs ++ map (prepare_out w turn.state.vector r.txn (comes_to w r).writes) vs } in after))
      go true = record { long = fit.long; programs = puts turn now (named.reads, named.writes) fit; names = all_names turn.outs _ fit.names (prepares_name turn.state.vector r.txn (comes_to w r).writes vs) }
      go false = record { long = fit.long; programs = puts turn now (named.reads, named.writes) fit; names = all_names turn.outs _ fit.names (prepares_name turn.state.vector r.txn (comes_to w r).writes vs) }
  goes_fit turn r (parts.stops e) fit =
      record { long = fit.long; programs = puts turn (record r { phase = sent }) tt fit; names = all_names turn.outs _ fit.names ((refl, (outcome_named w r.txn (λ x. first_of x r.answers)).reads), tt) }
  goes_fit turn r (parts.overflows e) fit =
      record { long = fit.long; programs = puts turn (record r { phase = sent }) tt fit; names = all_names turn.outs _ fit.names ((refl, (outcome_named w r.txn (λ x. first_of x r.answers)).reads), tt) }

  begins_fit : (turn : Turn SiteState) (t : Txn) {after : Turn SiteState} → Goes w (tell turn (letters.Begin t)) (fresh t) after → IsFit turn → IsFit after
  begins_fit turn t g fit = goes_fit (tell turn (letters.Begin t)) (fresh t) g (record { long = fit.long; programs = fit.programs; names = all_names turn.outs _ fit.names (tt, tt) })

  module _ (state : SiteState) (from : ℕ) (letter : Letter) (before : IsFit (opened state)) where
    its : (turn : Turn SiteState) (r : Running) (phase : Phase) → programs.running_of turn.state r.txn ≡ Some r → r.phase ≡ phase → IsFit turn → IsAboutKnown phase
    its turn r phase f is fit = subst IsAboutKnown is (all_found (λ (r : Running). IsAboutKnown r.phase) (λ (z : Running). is_txn r.txn z.txn) turn.state.running r fit.programs f)

    request_known : (v : List ℕ) (reads writes : List (Item × ℤ)) → length v ≡ w.sites → (knows_pairs w reads ≡ true) × (knows_pairs w writes ≡ true) → (let request : Request = record { reads = reads; writes = writes; under = v } in knows_request w request) ≡ true
    request_known v reads writes long known = and_from (knows_pairs w reads && knows_pairs w writes) (knows_vector w v) (and_from (knows_pairs w reads) (knows_pairs w writes) known.0 known.1) (same (length v) w.sites long)
      where
        same : (a b : ℕ) → a ≡ b → (a == b) ≡ true
        same a b e = grind (arith, e)

    move_fits : {turn after : Turn SiteState} → Move w state from letter turn after → IsFit turn → IsFit after
    move_fits {turn = turn} (parts.begins s z l g) fit = begins_fit (passed w turn) (next_of turn) g (record { long = fit.long; programs = fit.programs; names = fit.names })
    move_fits {turn = turn} (parts.asks r i x s q f ph m y) fit =
        let known = its turn r (asking i x (Some q)) f ph fit in
        record { long = fit.long; programs = puts turn (record r { asks = r.asks + 1; phase = asking (r.asks + 1) x None }) known fit; names = all_names turn.outs _ fit.names (known, tt) }
    move_fits {turn = turn} (parts.loses r reads writes awaited s f ph m) fit = record { long = fit.long; programs = puts turn (record r { phase = preparing reads writes (parts.but s awaited) }) (its turn r (preparing reads writes awaited) f ph fit) fit; names = fit.names }
    move_fits {turn = turn} (parts.joins r reads writes awaited s z f ph m y) fit =
        record { long = fit.long; programs = puts turn (record r { phase = preparing reads writes (programs.with_vote s awaited) }) (its turn r (preparing reads writes awaited) f ph fit) fit; names = all_names turn.outs _ fit.names (tt, tt) }
    move_fits {turn = turn} (parts.commits r reads writes f ph m) fit =
        record { long = fit.long; programs = puts turn (record r { phase = sent }) tt fit; names = all_names turn.outs _ fit.names (request_known turn.state.vector reads writes fit.long (its turn r (preparing reads writes []) f ph fit), tt) }

    row_fits : {after : Turn SiteState} → Row w state from letter after → IsFit after
    row_fits (parts.halts u f e) = record { long = long_zeros w.sites; programs = tt; names = (tt, tt) }
    row_fits (parts.returns u f e) = record { long = before.long; programs = before.programs; names = (tt, tt) }
    row_fits (parts.refuses i t writes u f l e) = record { long = before.long; programs = before.programs; names = (tt, tt) }
    row_fits (parts.idle i) = before
    row_fits (parts.welcomed v z e) =
        record { long = eqb-true (length v) w.sites (and_parts (knows_vector w v) (nat_le z (length w.programs * (w.restarts + 1))) (and_parts (is_of_sequencer w (letters.Welcome v z)) (fits_here w state (letters.Welcome v z)) e.fits).0).0; programs = before.programs; names = tt }
    row_fits (parts.served t ask x h z c e q o) = record { long = before.long; programs = before.programs; names = (tt, tt) }
    row_fits (parts.notes r ask x q s f ph e) = record { long = before.long; programs = puts (opened state) (record r { phase = asking ask x (Some s) }) (its (opened state) r (asking ask x q) f ph before) before; names = tt }
    row_fits (parts.applied t number ps e q) = record { long = before.long; programs = before.programs; names = (tt, tt) }
    row_fits (parts.over t e) = record { long = before.long; programs = all_kept (λ (r : Running). IsAboutKnown r.phase) (λ (r : Running). not (is_txn t r.txn)) state.running before.programs; names = tt }
    row_fits (parts.dropped t again e q) = record { long = before.long; programs = all_kept (λ (r : Running). IsAboutKnown r.phase) (λ (r : Running). not (is_txn t r.txn)) state.running before.programs; names = tt }
    row_fits (parts.retried t e q g) =
        begins_fit (parts.drops state t) (programs.next_attempt w t) g (record { long = before.long; programs = all_kept (λ (r : Running). IsAboutKnown r.phase) (λ (r : Running). not (is_txn t r.txn)) state.running before.programs; names = tt })
    row_fits (parts.falls s e) = record { long = set_long state.vector (s.0 - 1) 0 ∙ before.long; programs = before.programs; names = tt }
    row_fits (parts.rises s z e) = record { long = set_long state.vector (s.0 - 1) z ∙ before.long; programs = before.programs; names = tt }
    row_fits (parts.copies x target z c e q) = record { long = before.long; programs = before.programs; names = (tt, tt) }
    row_fits (parts.staged i t writes e) = record { long = before.long; programs = before.programs; names = (tt, tt) }
    row_fits (parts.counts i r reads writes awaited f ph e q) = record { long = before.long; programs = puts (opened state) (record r { phase = preparing reads writes (parts.but (site (i + 1)) awaited) }) (its (opened state) r (preparing reads writes awaited) f ph before) before; names = tt }
    row_fits (parts.renewed i x v version c e q l) = record { long = before.long; programs = before.programs; names = (tt, tt) }
    row_fits (parts.given r ask x q v f ph g gg) = goes_fit (opened state) (record r { answers = _ }) gg before

    pub step_fits : Ascend state.running → IsFit (hear_site w state from letter)
    step_fits ascend = step_keeps w state from letter IsFit (λ after r. row_fits r) (λ turn after move a h. move_fits move h) ascend
