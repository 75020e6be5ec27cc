-- In every run, what is to be applied is staged.
use Rattle.std.proofs.Common.{◌≡◌, inl, inr, ℕ, zero, suc, ◌+◌, ◌==◌, true, List, [], ◌∷◌, ◌++◌, map, replicate, Option, Some, None, arith, sym, subst, ap, refl, append-nil, append_assoc}
use Rattle.std.specs.Prelude.{max, slice_get, slice_set, slice_index, slice_index_or}
use Rattle.std.specs.List.{AllByRecursion}
use Rattle.std.specs.Option.{option_map_or}
use Rattle.std.proofs.lemmas.List.Sums.{fold-append}
use Rattle.raid_base.specs.declared.names.Txn.{Txn}
use Rattle.raid_base.specs.declared.names.Site.{Site}
use Rattle.raid_base.specs.declared.request.Request.{Request}
use Rattle.raid_base.specs.declared.entry.Entry.{Entry}
use Rattle.raid_base.specs.declared.entry.Entry.TheVariants.{Wait}
use Rattle.raid_base.specs.declared.entry.Noted.{Noted}
use Rattle.raid_workload.specs.declared.workload.Workload.{Workload}
use Rattle.raid_workload.specs.Parts.{sites}
use Rattle.raid_rules.specs.History.{noted}
use Rattle.raid_message.specs.declared.letter.Letter.{Letter}
use Rattle.raid_message.specs.declared.letter.Pick.{Pick}
use Rattle.raid_steps.specs.State.{Running, SiteState}
use Rattle.raid_steps.specs.Programs.{running_of}
use Rattle.raid_steps.specs.Monitor.{hear_monitor}
use Rattle.raid_steps.specs.Site.{hear_site}
use Rattle.raid_steps.specs.World.{World, hear, hear_at, session_of, link, take_front, pick, run, open_world, first_letter, first_links}
use Rattle.raid_record.proofs.Rules.{few_sites}
use Rattle.raid_sessions.proofs.Lists.{all_weaken, get_below, get_set}
use Rattle.raid_sessions.proofs.Mail.{moved}
use Rattle.raid_sessions.proofs.Reached.{server_below}
use Rattle.raid_moves.proofs.Places.{nothing, each_found}
use Rattle.raid_asks.proofs.Begins.{reached_all}
use Rattle.raid_asks.proofs.Reached.{first_state}
use Rattle.raid_letters.proofs.Runs.{all_at, all_empty, reaches}
use Rattle.raid_layers.proofs.Histories.{HasWait}
use Rattle.raid_layers.proofs.Runs.{nobody}
use Rattle.raid_staged.specs.Staged.{AreStaged, VoteStaged, AskStaged, WaitStaged, ApplyStaged, IsPrepared, StagedFirst}
use Rattle.raid_staged.proofs.SiteWorlds.{site_staged}
use Rattle.raid_staged.proofs.Worlds.{LetterStaged, PreparedAt, AllStaged, Landed, monitor_staged, sequencer_staged}

module _ (w : Workload) where
  abbrev At : World → Type 0
  At state = AllStaged w (noted state.servers.sequencer.history) state.servers.sites state.links

  module _ (state : World) (landed : Landed w state) (all : At state) (from clock : ℕ) (l : Letter) (rest : List Letter) where
    -- the world after the letter was heard, by its servers and links
    abbrev Heard : ℕ → Type 0
    Heard server = AllStaged w (noted (hear w state.servers server from l).0.sequencer.history) (hear w state.servers server from l).0.sites
        (moved state.links server from (session_of (hear w state.servers server from l).0 server) clock rest (hear w state.servers server from l).1)

    at_site : (k : ℕ) → link state.links (suc (suc k)) from ≡ l ∷ rest → (o : Option SiteState) → slice_get state.servers.sites k ≡ o →
        AllStaged w (noted (hear_at w state.servers k from l o).0.sequencer.history) (hear_at w state.servers k from l o).0.sites
        (moved state.links (suc (suc k)) from (session_of (hear_at w state.servers k from l o).0 (suc (suc k))) clock rest (hear_at w state.servers k from l o).1)
    at_site k front None none =
        absurd (nobody state.servers.sites k none (let inside = server_below (w.sites + 2) state.links (suc (suc k)) from l rest landed.says.reached.square front in let long = landed.says.reached.long in omega (arith, inside, long)))
    at_site k front (Some own) at =
        let turn = hear_site w own from l in
        let same = ap (λ (o : Option SiteState). option_map_or (λ (s : SiteState). s.session) o 0) (get_set state.servers.sites k turn.state (get_below state.servers.sites k own at)) in
        subst (λ z. AllStaged w (noted state.servers.sequencer.history) (slice_set state.servers.sites k turn.state) (moved state.links (suc (suc k)) from z clock rest turn.outs)) (sym same)
        (site_staged w (few_sites w) state landed all from clock l rest k own at front)

    heard : (server : ℕ) → link state.links server from ≡ l ∷ rest → Heard server
    heard zero front = monitor_staged w state landed all from clock l rest (hear_monitor w state.servers.fired from l).outs front
    heard (suc zero) front = sequencer_staged w state landed all from clock l rest front
    heard (suc (suc k)) front = at_site k front (slice_get state.servers.sites k) refl

  front_staged : (state : World) (server from : ℕ) (queue : List Letter) → link state.links server from ≡ queue → Landed w state → At state → At (take_front w state server from queue)
  front_staged state server from [] q landed all = all
  front_staged state server from (l ∷ rest) q landed all = heard state landed all from (1 + max (slice_index state.clocks server) l.clock) l rest server q

  -- at the start there is no letter but the first to each site
  abbrev QueueOpen : List Letter → Type 0
  QueueOpen queue = (server from : ℕ) → AllByRecursion (LetterStaged w [] (open_world w).servers.sites server from) queue

  first_open : (s : Site) → QueueOpen (first_letter w s ∷ [])
  first_open s server zero = (tt, tt)
  first_open s server (suc zero) = ((λ j z at up is fits last. tt), tt)
  first_open s server (suc (suc j)) = ((tt, tt), tt)

  empty_open : (n : ℕ) → AllByRecursion QueueOpen (replicate n [])
  empty_open n = all_empty QueueOpen n [] (λ server from. tt)

  rows_open : (ss : List Site) → AllByRecursion (AllByRecursion QueueOpen) (map (first_links w) ss)
  rows_open [] = tt
  rows_open (s ∷ ss) = (((λ server from. tt), (first_open s, empty_open w.sites)), rows_open ss)

  open_staged : At (open_world w)
  open_staged = record {
    on_links = λ server from. all_at QueueOpen (slice_index_or (open_world w).links server []) from []
        (all_at (AllByRecursion QueueOpen) (open_world w).links server [] (empty_open (w.sites + 2), (empty_open (w.sites + 2), rows_open (sites w))) tt) (λ server from. tt) server from;
    waits = λ t r h. absurd h;
    prepared = λ k s at. subst (PreparedAt w [] (open_world w).servers.sites k) (first_state w 1 w.sites k s at) (λ up last t r f. absurd (nothing f));
  }

  pub landed : (schedule : List Pick) → Landed w (run w schedule)
  landed schedule = record { says = reaches w schedule; cares = (reached_all w schedule).1.1 }

  step : (schedule : List Pick) (p : Pick) → At (run w schedule) → At (run w (schedule ++ p ∷ []))
  step schedule p all =
      let s = run w schedule in
      subst At (sym (fold-append (pick w) (open_world w) schedule (p ∷ []))) (front_staged s p.server p.from (link s.links p.server p.from) refl (landed schedule) all)

  steps : (before more : List Pick) → At (run w before) → At (run w (before ++ more))
  steps before [] all = subst (λ z. At (run w z)) (sym (append-nil before)) all
  steps before (p ∷ more) all = subst (λ z. At (run w z)) (append_assoc before (p ∷ []) more) (steps (before ++ p ∷ []) more (step before p all))

  -- what the claims say of each kind of letter
  waits_in : (p : List Noted) (ss : List SiteState) (ns : List Noted) → ((t : Txn) (r : Request) → HasWait ns t r → AreStaged w p ss t r.writes r.under) → AllByRecursion (λ (n : Noted). WaitStaged w p ss n.entry) ns
  waits_in p ss [] f = tt
  waits_in p ss (n ∷ ns) f = (go n.entry refl, waits_in p ss ns (λ t r h. f t r (inr h)))
    where
      go : (e : Entry) → n.entry ≡ e → WaitStaged w p ss e
      go (Wait t r) is = f t r (inl is)
      go other is = tt

  pub runs_stage : (schedule : List Pick) → StagedFirst w (run w schedule)
  runs_stage schedule = record {
    votes = λ k j. subst (λ c. AllByRecursion (λ (l : Letter). VoteStaged p ss j l.from l.message) (link links (k + 2) c)) (two j)
        (all_weaken (LetterStaged w p ss (k + 2) (suc (suc j))) (λ (l : Letter). VoteStaged p ss j l.from l.message) (link links (k + 2) (suc (suc j))) (λ l h. h.0) (all.on_links (k + 2) (suc (suc j))));
    asks = λ k. subst (λ c. AllByRecursion (λ (l : Letter). AskStaged w p ss l.message) (link links 1 c)) (two k)
        (all_weaken (LetterStaged w p ss 1 (suc (suc k))) (λ (l : Letter). AskStaged w p ss l.message) (link links 1 (suc (suc k))) (λ l h. h.1) (all.on_links 1 (suc (suc k))));
    waits = waits_in p ss p all.waits;
    prepared = λ k s at up last. all_weaken (λ (r : Running). running_of s r.txn ≡ Some r) (λ (r : Running). IsPrepared w p ss k s r.txn r.phase) s.running (λ r f. all.prepared k s at up last r.txn r f) (each_found s.running ((reaches w schedule).homes k s at).ascend);
    applies = λ j s at up last. all_weaken (LetterStaged w p ss (j + 2) 1) (λ (l : Letter). (l.to == s.session) ≡ true → ApplyStaged s l.message) (link links (j + 2) 1) (λ l h meant. h j s at up refl meant last) (all.on_links (j + 2) 1);
  }
    where
      p : List Noted
      p = noted (run w schedule).servers.sequencer.history

      ss : List SiteState
      ss = (run w schedule).servers.sites

      links : List (List (List Letter))
      links = (run w schedule).links

      all : At (run w schedule)
      all = steps [] schedule open_staged

      two : (k : ℕ) → suc (suc k) ≡ k + 2
      two k = omega arith
