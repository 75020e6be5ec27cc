-- A site that is told that another is up again: each of its programs may prepare there too, which the note pays.
use Rattle.std.proofs.Common.{◌≡◌, ℕ, zero, suc, ◌+◌, ◌*◌, ◌<◌, ◌≤◌, ◌==◌, Bool, true, false, ◌&&◌, List, [], ◌∷◌, length, fold, Some, if◌then◌else◌, arith, sym, subst, ap, ◌∙◌, refl}
use Rattle.std.specs.List.{AllByRecursion, sum_by}
use Rattle.raid_base.specs.declared.names.Txn.{Txn}
use Rattle.raid_base.specs.declared.names.Site.{Site}
use Rattle.raid_base.specs.declared.entry.Noted.{Noted}
use Rattle.raid_base.specs.Names.{has_site}
use Rattle.raid_base.specs.Sites.{site}
use Rattle.raid_workload.specs.declared.workload.Workload.{Workload}
use Rattle.raid_workload.specs.Parts.{sites}
use Rattle.raid_legal.specs.Seen.{holds_some}
use Rattle.raid_message.specs.declared.letter.Message.TheVariants as letters
use Rattle.raid_message.specs.declared.letter.Letter.{Letter}
use Rattle.raid_steps.specs.State.{Turn, opened, send, Phase, asking, preparing, sent, Running, SiteState}
use Rattle.raid_steps.specs.Fits.{is_of_sequencer, is_of_site}
use Rattle.raid_steps.specs.Programs.{running_of, with_running, with_vote, prepare_out, join, ask_commits}
use Rattle.raid_steps.specs.Site as rows
use Rattle.raid_moves.specs.Moves.{Ascend, Hears, Moves}
use Rattle.raid_moves.specs.Moves as parts
use Rattle.raid_moves.proofs.Steps.{asks_commits}
use Rattle.raid_moves.proofs.Left.{moves_leave}
use Rattle.raid_moves.proofs.Places.{all_both, IsBehind, apart, ascend_put, put_other, IsFoundIn, each_found}
use Rattle.raid_measure.specs.Measure.{start_cost, program_cost, site_cost}
use Rattle.raid_ends.proofs.Links.{outs_cost}
use Rattle.raid_ends.proofs.Programs.{idle}
use Rattle.raid_ends.proofs.Site as site_costs

module _ (w : Workload) (p : List Noted) (s : Site) (here : has_site (sites w) s ≡ true) where
  abbrev load : Running → ℕ
  load r = site_costs.load w p s here 0 r

  abbrev Spent : Turn SiteState → ℕ
  Spent turn = site_costs.Spent w p s here 0 turn

  -- what joining one program makes of a turn
  record Joins (turn : Turn SiteState) (r : Running) (after : Turn SiteState) : Type 0 where
    cost : Spent after ≤ Spent turn + 2
    ascend : Ascend after.state.running
    others : (t : Txn) → (r.txn.0 == t.0) ≡ false → running_of after.state t ≡ running_of turn.state t
    place : after.state.site ≡ turn.state.site

  one_joins : (z : Site) (turn : Turn SiteState) (r : Running) → Ascend turn.state.running → running_of turn.state r.txn ≡ Some r → Joins turn r (join w z turn r r.phase)
  one_joins z turn r a f = go r.phase refl
    where
      stays : Joins turn r turn
      stays = record { cost = omega arith; ascend = a; others = λ t d. refl; place = refl }

      go : (phase : Phase) → r.phase ≡ phase → Joins turn r (join w z turn r phase)
      go (asking k x q) e = stays
      go (preparing read writes awaited) e = joined (holds_some w writes z)
        where
          now : Running
          now = record r { phase = preparing read writes (with_vote z awaited) }

          old : load r ≡ 1
          old = let q : load r ≡ site_costs.phase_load w p s here 0 (length r.answers) (preparing read writes awaited) = ap (site_costs.phase_load w p s here 0 (length r.answers)) e in omega (arith, q)

          joined : (b : Bool) → Joins turn r (if b then send (with_running turn now) (prepare_out w turn.state.vector r.txn writes z) else turn)
          joined true =
              let change = site_costs.changes w p s here 0 r now turn.state.running a f 0 (omega (arith, old)) in
              let told = site_costs.told_one w p s here 0 turn.outs (prepare_out w turn.state.vector r.txn writes z) in
              record { cost = omega (arith, change, told); ascend = ascend_put now turn.state.running a; others = λ t d. put_other t now turn.state.running d; place = refl }
          joined false = stays
      go sent e = stays

  all_join : (z : Site) (rs : List Running) (turn : Turn SiteState) → Ascend turn.state.running → Ascend rs → AllByRecursion (IsFoundIn turn.state.running) rs →
      (Spent (fold (λ now r. join w z now r r.phase) turn rs) ≤ Spent turn + 2 * length rs) × (Ascend (fold (λ now r. join w z now r r.phase) turn rs).state.running × ((fold (λ now r. join w z now r r.phase) turn rs).state.site ≡ turn.state.site))
  all_join z [] turn a b f = (omega arith, (a, refl))
  all_join z (r ∷ rs) turn a b f =
      let first = one_joins z turn r a f.0 in
      let next = join w z turn r r.phase in
      let rest = all_join z rs next first.ascend b.1 (all_both (IsBehind r.txn) (IsFoundIn turn.state.running) (IsFoundIn next.state.running) rs (λ q l g. first.others q.txn (apart r.txn.0 q.txn.0 l) ∙ g) b.0 f.1) in
      let one = first.cost in
      let more = rest.0 in
      (omega (arith, one, more), (rest.1.0, rest.1.1 ∙ first.place))

  -- what is asked for after it: no move but a CommitAsk is made for a letter that says nothing
  module _ (state : SiteState) (from : ℕ) (letter : Letter) (silent : letter.message ≡ letters.Halted) where
    commits_cost : {turn last : Turn SiteState} → Moves w state from letter turn last → Ascend turn.state.running → Spent last ≤ Spent turn
    commits_cost parts.done a = omega arith
    commits_cost (parts.moves (parts.begins (parts.at_welcome v n m) k l g) rest) a = absurd (cc (m.is, silent))
    commits_cost (parts.moves (parts.begins (parts.at_done t m) k l g) rest) a = absurd (cc (m.is, silent))
    commits_cost (parts.moves (parts.begins (parts.at_drop t again m) k l g) rest) a = absurd (cc (m.is, silent))
    commits_cost (parts.moves (parts.asks r k x z q f e m i) rest) a = absurd (cc (m.is, silent))
    commits_cost (parts.moves (parts.loses r read writes awaited z f e m) rest) a = absurd (cc (m.is, silent))
    commits_cost (parts.moves (parts.joins r read writes awaited z n f e m h) rest) a = absurd (cc (m.is, silent))
    commits_cost (parts.moves {turn = turn} (parts.commits r read writes f e m) rest) a =
        let now : Running = record r { phase = sent } in
        let old : load r ≡ site_costs.phase_load w p s here 0 (length r.answers) (preparing read writes []) = ap (site_costs.phase_load w p s here 0 (length r.answers)) e in
        let change = site_costs.changes w p s here 0 r now turn.state.running a f 1 (omega (arith, old)) in
        let told = site_costs.told_one w p s here 0 turn.outs (1, 0, letters.CommitAsk r.txn (record { reads = read; writes = writes; under = turn.state.vector })) in
        let more = commits_cost rest (ascend_put now turn.state.running a) in
        omega (arith, change, told, more)

  -- the step
  module _ (state : SiteState) (from : ℕ) (letter : Letter) (z : Site) (n : ℕ) (is : letter.message ≡ letters.UpNote z n) (place : state.site ≡ s) (a : Ascend state.running) (cost : ℕ) (pays : 1 + 2 * length state.running ≤ cost) where
    abbrev Falls : Turn SiteState → Type 0
    Falls turn = outs_cost w turn.outs + site_cost w p turn.state < cost + site_cost w p state

    nothing : Falls (opened state)
    nothing = omega (arith, pays)

    heard : state.up ≡ true → (letter.to == state.session) ≡ true → Falls (ask_commits (rows.up_row w (opened state) z n))
    heard up meant =
        let quiet : Letter = record letter { message = letters.Halted } in
        let hears : Hears state quiet = record { up = up; meant = meant } in
        let opening = rows.with_vector (opened state) z n in
        let turn = rows.up_row w (opened state) z n in
        let joined = all_join z state.running opening a a (each_found state.running a) in
        let chain : Moves w state from quiet turn (ask_commits turn) = asks_commits w state from quiet hears turn joined.1.0 in
        let commits = commits_cost state from quiet refl chain joined.1.0 in
        let there : (ask_commits turn).state.site ≡ s = (moves_leave w state from quiet chain).site ∙ joined.1.1 ∙ place in
        let most = site_costs.loads_most w p s here 0 state.running in
        let least = site_costs.loads_least w p s here 0 (ask_commits turn).state.running in
        let more = joined.0 in
        let fits : outs_cost w (ask_commits turn).outs + (start_cost w * idle w p s (ask_commits turn).state.running + sum_by (program_cost w) (ask_commits turn).state.running)
        < cost + (start_cost w * idle w p s state.running + sum_by (program_cost w) state.running) = omega (arith, commits, most, least, more, pays) in
        subst (λ y. outs_cost w (ask_commits turn).outs + (start_cost w * idle w p y (ask_commits turn).state.running + sum_by (program_cost w) (ask_commits turn).state.running) < cost + site_cost w p state) (sym there)
        (subst (λ y. outs_cost w (ask_commits turn).outs + (start_cost w * idle w p s (ask_commits turn).state.running + sum_by (program_cost w) (ask_commits turn).state.running)
        < cost + (start_cost w * idle w p y state.running + sum_by (program_cost w) state.running)) (sym place) fits)

    pub up_note_falls : Falls (rows.hear_site w state from letter)
    up_note_falls = go state.up refl from
      where
        fits : (b : Bool) → state.up ≡ true → (letter.to == state.session) ≡ true → Falls (rows.hear_if b state (rows.up_row w (opened state) z n))
        fits true up meant = heard up meant
        fits false up meant = nothing

        told : state.up ≡ true → (b : Bool) → (letter.to == state.session) ≡ b → Falls (if b then rows.hear_sequencer w state letter else opened state)
        told up true meant =
            subst (λ m. Falls (rows.hear_if (is_of_sequencer w m && rows.fits_here w state m) state (rows.sequencer_row w (opened state) m))) (sym is)
            (fits (is_of_sequencer w (letters.UpNote z n) && rows.fits_here w state (letters.UpNote z n)) up meant)
        told up false meant = nothing

        said : (k : ℕ) (b : Bool) → Falls (if b then rows.hear_peer w state (site (k + 1)) letter else rows.refuse state (k + 2) letter letter.message)
        said k true = subst (λ m. Falls (rows.hear_if (is_of_site w m && rows.fits_here w state m) state (rows.peer_row w (opened state) (site (k + 1)) letter.from m))) (sym is) nothing
        said k false = subst (λ m. Falls (rows.refuse state (k + 2) letter m)) (sym is) nothing

        go : (b : Bool) → state.up ≡ b → (f : ℕ) → Falls (if b then rows.hear_up w state f letter else rows.hear_down state f letter)
        go true up zero = subst (λ m. Falls (rows.stop w state m)) (sym is) nothing
        go true up (suc zero) = told up (letter.to == state.session) refl
        go true up (suc (suc k)) = said k (letter.to == state.session)
        go false up zero = subst (λ m. Falls (rows.return state m)) (sym is) nothing
        go false up (suc k) = nothing
