-- In every run, what sites ask names only what the workload has.
use Rattle.std.proofs.Common.{◌≡◌, ◌≢◌, ◌⊎◌, inl, inr, ℕ, zero, suc, ◌+◌, true, ◌&&◌, List, [], ◌∷◌, ◌++◌, map, Option, Some, None, arith, sym, subst, ap, ◌∙◌, refl, append-nil, append_assoc}
use Rattle.std.specs.Prelude.{max, slice_get, slice_set, slice_index, slice_index_or}
use Rattle.std.specs.List.{AllByRecursion}
use Rattle.std.proofs.lemmas.Bool.{and_from}
use Rattle.std.proofs.lemmas.Grind.{common_steps}
use Rattle.std.proofs.lemmas.List.Sums.{fold-append}
use Rattle.raid_base.specs.declared.names.Txn.{Txn}
use Rattle.raid_base.specs.declared.names.Site.{Site}
use Rattle.raid_base.specs.declared.entry.Noted.{Noted}
use Rattle.raid_base.specs.Sites.{site}
use Rattle.raid_workload.specs.declared.workload.Workload.{Workload}
use Rattle.raid_workload.specs.Parts.{sites}
use Rattle.raid_rules.specs.History.{noted}
use Rattle.raid_message.specs.declared.letter.Message.{Message}
use Rattle.raid_message.specs.declared.letter.Message.TheVariants as letters
use Rattle.raid_message.specs.declared.letter.Letter.{Letter}
use Rattle.raid_message.specs.declared.letter.Pick.{Pick}
use Rattle.raid_steps.specs.State.{Out, SiteState, opened}
use Rattle.raid_steps.specs.Fits.{knows_txn, knows_item, knows_pairs, knows_request, is_own_end}
use Rattle.raid_steps.specs.Monitor.{hear_monitor}
use Rattle.raid_steps.specs.Sequencer.{hear_sequencer}
use Rattle.raid_steps.specs.Site.{hear_site}
use Rattle.raid_steps.specs.World.{World, Servers, hear, hear_at, session_of, link, take_front, pick, run, open_world, first_links}
use Rattle.raid_sessions.proofs.Lists.{get_below, get_set, get_other, some_is}
use Rattle.raid_sessions.proofs.Mail.{same_or_not, moved}
use Rattle.raid_moves.proofs.Places.{all_both, all_weaken}
use Rattle.raid_asks.specs.Own.{IsOf}
use Rattle.raid_asks.proofs.Begins.{reached_all}
use Rattle.raid_asks.proofs.Homes.{Homes}
use Rattle.raid_asks.proofs.Least.{known_txn}
use Rattle.raid_asks.proofs.Reached.{first_state}
use Rattle.raid_letters.specs.Says.{AskSays}
use Rattle.raid_letters.proofs.Runs.{all_at, all_empty, runs_say}
use Rattle.raid_layers.proofs.Tokens.{OnLinks, step_all}
use Rattle.raid_witness.specs.Fit.{AskFits, AsksFit}
use Rattle.raid_witness.proofs.FitSites.{long_zeros, Names, IsFit, step_fits}

module _ (w : Workload) where
  -- what a site sends names what there is
  abbrev Named : ℕ → ℕ → Letter → Type 0
  Named server from l = (j : ℕ) → from ≡ j + 2 → Names w l.message

  abbrev FitAll : Servers → List (List (List Letter)) → Type 0
  FitAll s links = ((k : ℕ) (state : SiteState) → slice_get s.sites k ≡ Some state → IsFit w (opened state)) × OnLinks Named links

  -- other servers send what they like
  others : (server : ℕ) (session clock : ℕ) (outs : List Out) → ((j : ℕ) → server ≡ j + 2 → ⊥) → AllByRecursion (λ (out : Out). Named out.0 server (let l : Letter = record { clock = clock; from = session; to = out.1; message = out.2 } in l)) outs
  others server session clock [] none = tt
  others server session clock (out ∷ outs) none = ((λ j e. absurd (none j e)), others server session clock outs none)

  at_site : (s : Servers) (links : List (List (List Letter))) (homes : Homes w s links) (k from clock : ℕ) (l : Letter) (rest : List Letter) → link links (suc (suc k)) from ≡ l ∷ rest → FitAll s links → (o : Option SiteState) → slice_get s.sites k ≡ o →
      FitAll (hear_at w s k from l o).0 (moved links (suc (suc k)) from (session_of (hear_at w s k from l o).0 (suc (suc k))) clock rest (hear_at w s k from l o).1)
  at_site s links homes k from clock l rest front all None none = (all.0, step_all Named (suc (suc k)) from (session_of s (suc (suc k))) clock l rest [] links front tt all.1)
  at_site s links homes k from clock l rest front all (Some state) at = (
    (λ j other there. site j other there (same_or_not j k)),
    step_all Named (suc (suc k)) from (session_of (record s { sites = slice_set s.sites k (hear_site w state from l).state }) (suc (suc k))) clock l rest (hear_site w state from l).outs links front (sent (hear_site w state from l).outs fit.names) all.1,
  )
    where
      fit : IsFit w (hear_site w state from l)
      fit = step_fits w state from l (all.0 k state at) (homes k state at).ascend

      session : ℕ
      session = session_of (record s { sites = slice_set s.sites k (hear_site w state from l).state }) (suc (suc k))

      sent : (outs : List Out) → AllByRecursion (λ (out : Out). Names w out.2) outs →
          AllByRecursion (λ (out : Out). Named out.0 (suc (suc k)) (let l : Letter = record { clock = clock; from = session_of (record s { sites = slice_set s.sites k (hear_site w state from l).state }) (suc (suc k)); to = out.1; message = out.2 } in l)) outs
      sent [] a = tt
      sent (out ∷ outs) a = ((λ j e. a.0), sent outs a.1)

      site : (j : ℕ) (other : SiteState) → slice_get (slice_set s.sites k (hear_site w state from l).state) j ≡ Some other → (j ≡ k) ⊎ (j ≢ k) → IsFit w (opened other)
      site j other there (inl e) =
          let is : (hear_site w state from l).state ≡ other = some_is (hear_site w state from l).state other (sym (get_set s.sites k (hear_site w state from l).state (get_below s.sites k state at)) ∙ ap (slice_get (slice_set s.sites k (hear_site w state from l).state)) (sym e) ∙ there) in
          subst (λ z. IsFit w (opened z)) is (record { long = fit.long; programs = fit.programs; names = tt })
      site j other there (inr differ) = all.0 j other (sym (get_other s.sites k j (hear_site w state from l).state differ) ∙ there)

  hear_fits : (s : Servers) (links : List (List (List Letter))) (homes : Homes w s links) (server from clock : ℕ) (l : Letter) (rest : List Letter) → link links server from ≡ l ∷ rest → FitAll s links →
      FitAll (hear w s server from l).0 (moved links server from (session_of (hear w s server from l).0 server) clock rest (hear w s server from l).1)
  hear_fits s links homes zero from clock l rest front all = (all.0, step_all Named 0 from 0 clock l rest (hear_monitor w s.fired from l).outs links front (others 0 0 clock (hear_monitor w s.fired from l).outs (λ j e. omega (arith, e))) all.1)
  hear_fits s links homes (suc zero) from clock l rest front all = (all.0, step_all Named 1 from 0 clock l rest (hear_sequencer w s.sequencer from l).outs links front (others 1 0 clock (hear_sequencer w s.sequencer from l).outs (λ j e. omega (arith, e))) all.1)
  hear_fits s links homes (suc (suc k)) from clock l rest front all = at_site s links homes k from clock l rest front all (slice_get s.sites k) refl

  front_fits : (s : World) (server from : ℕ) (queue : List Letter) → link s.links server from ≡ queue → Homes w s.servers s.links → FitAll s.servers s.links → FitAll (take_front w s server from queue).servers (take_front w s server from queue).links
  front_fits s server from [] q homes all = all
  front_fits s server from (l ∷ rest) q homes all = hear_fits s.servers s.links homes server from (1 + max (slice_index s.clocks server) l.clock) l rest q all

  abbrev At : List Pick → Type 0
  At schedule = FitAll (run w schedule).servers (run w schedule).links

  step : (schedule : List Pick) (p : Pick) → At schedule → At (schedule ++ p ∷ [])
  step schedule p all =
      let s = run w schedule in
      subst (λ s. FitAll s.servers s.links) (sym (fold-append (pick w) (open_world w) schedule (p ∷ []))) (front_fits s p.server p.from (link s.links p.server p.from) refl (reached_all w schedule).1.0 all)

  steps : (before more : List Pick) → At before → At (before ++ more)
  steps before [] all = subst At (sym (append-nil before)) all
  steps before (p ∷ more) all = subst At (append_assoc before (p ∷ []) more) (steps (before ++ p ∷ []) more (step before p all))

  -- at the start each letter is a Welcome
  abbrev AreNamed : List Letter → Type 0
  AreNamed ls = AllByRecursion (λ (l : Letter). Names w l.message) ls

  rows_open : (ss : List Site) → AllByRecursion (AllByRecursion AreNamed) (map (first_links w) ss)
  rows_open [] = tt
  rows_open (s ∷ ss) = ((tt, ((tt, tt), all_empty AreNamed w.sites [] tt)), rows_open ss)

  open_named : (server from : ℕ) → AreNamed (link (open_world w).links server from)
  open_named server from =
      all_at AreNamed (slice_index_or (open_world w).links server []) from []
      (all_at (AllByRecursion AreNamed) (open_world w).links server [] (all_empty AreNamed (w.sites + 2) [] tt, (all_empty AreNamed (w.sites + 2) [] tt, rows_open (sites w))) tt) tt

  open_fits : At []
  open_fits = (
    (λ k state at. subst (λ z. IsFit w (opened z)) (first_state w 1 w.sites k state at) (record { long = long_zeros w.sites; programs = tt; names = tt })),
    (λ server from. all_weaken (λ (l : Letter). Names w l.message) (Named server from) (link (open_world w).links server from) (λ l named j e. named) (open_named server from)),
  )

  -- what is asked names what there is, and is of the site's own transactions
  known : (here : Site) (t : Txn) → IsOf w here t → knows_txn w t ≡ true
  known here t of = (let low = (known_txn w t of.0).0 in let high = (known_txn w t of.0).1 in grind (arith, common_steps, low, high))

  fits : (p : List Noted) (here : Site) (m : Message) → Names w m → AskSays w p here m → AskFits w m
  fits p here (letters.Begin t) named says = known here t says
  fits p here (letters.ReadAsk t ask x) named says = and_from (knows_txn w t) (knows_item w x) (known here t says.0) named
  fits p here (letters.CommitAsk t request) named says = and_from (knows_txn w t) (knows_request w request) (known here t says.0) named
  fits p here (letters.EndAsk t cause reads) named says = and_from (knows_txn w t && is_own_end cause) (knows_pairs w reads) (and_from (knows_txn w t) (is_own_end cause) (known here t says) named.0) named.1
  fits p here other named says = tt

  pub runs_fit : (schedule : List Pick) → AsksFit w (run w schedule)
  runs_fit schedule k =
      let s = run w schedule in
      let all = steps [] schedule open_fits in
      all_both (Named 1 (k + 2)) (λ (l : Letter). AskSays w (noted s.servers.sequencer.history) (site (k + 1)) l.message) (λ (l : Letter). AskFits w l.message) (link s.links 1 (k + 2))
      (λ l named says. fits (noted s.servers.sequencer.history) (site (k + 1)) l.message (named k refl) says) (all.1 1 (k + 2)) ((runs_say w schedule).asks k)
