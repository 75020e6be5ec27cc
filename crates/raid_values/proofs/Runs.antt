-- In every run, copies have the values of their commits.
use Rattle.std.proofs.Common.{◌≡◌, ℕ, zero, suc, ◌+◌, List, [], ◌∷◌, ◌++◌, map, replicate, Option, Some, None, arith, sym, subst, ap, refl, append-nil, append_assoc}
use Rattle.std.specs.Prelude.{max, slice_get, slice_set, slice_index, slice_index_or}
use Rattle.std.specs.List.{AllByRecursion}
use Rattle.std.specs.Option.{option_map_or}
use Rattle.std.proofs.lemmas.List.Sums.{fold-append}
use Rattle.raid_base.specs.declared.names.Item.{Item}
use Rattle.raid_base.specs.declared.names.Site.{Site}
use Rattle.raid_base.specs.declared.entry.Noted.{Noted}
use Rattle.raid_workload.specs.declared.workload.Workload.{Workload}
use Rattle.raid_workload.specs.Parts.{sites, initial}
use Rattle.raid_rules.specs.History.{noted}
use Rattle.raid_message.specs.declared.letter.Message.{Message}
use Rattle.raid_message.specs.declared.letter.Message.TheVariants as letters
use Rattle.raid_message.specs.declared.letter.Letter.{Letter}
use Rattle.raid_message.specs.declared.letter.Pick.{Pick}
use Rattle.raid_steps.specs.State.{Copy, SiteState}
use Rattle.raid_steps.specs.Monitor.{hear_monitor}
use Rattle.raid_steps.specs.Site.{hear_site}
use Rattle.raid_steps.specs.World.{World, hear, hear_at, session_of, link, take_front, pick, run, open_world, first_letter, first_links}
use Rattle.raid_sessions.proofs.Lists.{all_weaken, get_below, get_set}
use Rattle.raid_sessions.proofs.Mail.{moved}
use Rattle.raid_sessions.proofs.Reached.{server_below}
use Rattle.raid_asks.proofs.Reached.{first_state}
use Rattle.raid_letters.proofs.Runs.{all_at, all_empty}
use Rattle.raid_layers.proofs.Runs.{nobody}
use Rattle.raid_staged.specs.Agree.{PartsAgree}
use Rattle.raid_staged.proofs.PartRuns.{runs_agree}
use Rattle.raid_staged.proofs.Runs.{landed}
use Rattle.raid_staged.proofs.Worlds.{Landed}
use Rattle.raid_values.specs.Values.{IsCommitted, BringsCommitted, CopiesAreCommitted}
use Rattle.raid_values.proofs.Committed.{AllOf, CopyOf, MessageOf, LetterOf, monitor_of, sequencer_of, site_of}

module _ (w : Workload) where
  abbrev At : World → Type 0
  At state = AllOf w (noted state.servers.sequencer.history) state.servers.sites state.links

  module _ (state : World) (landed : Landed w state) (agree : PartsAgree w state) (all : At state) (from clock : ℕ) (l : Letter) (rest : List Letter) where
    -- the world after the letter was heard, by its servers and links
    abbrev Heard : ℕ → Type 0
    Heard server = AllOf w (noted (hear w state.servers server from l).0.sequencer.history) (hear w state.servers server from l).0.sites
        (moved state.links server from (session_of (hear w state.servers server from l).0 server) clock rest (hear w state.servers server from l).1)

    at_site : (k : ℕ) → link state.links (suc (suc k)) from ≡ l ∷ rest → (o : Option SiteState) → slice_get state.servers.sites k ≡ o →
        AllOf w (noted (hear_at w state.servers k from l o).0.sequencer.history) (hear_at w state.servers k from l o).0.sites
        (moved state.links (suc (suc k)) from (session_of (hear_at w state.servers k from l o).0 (suc (suc k))) clock rest (hear_at w state.servers k from l o).1)
    at_site k front None none =
        absurd (nobody state.servers.sites k none (let inside = server_below (w.sites + 2) state.links (suc (suc k)) from l rest landed.says.reached.square front in let long = landed.says.reached.long in omega (arith, inside, long)))
    at_site k front (Some own) at =
        let turn = hear_site w own from l in
        let same = ap (λ (o : Option SiteState). option_map_or (λ (s : SiteState). s.session) o 0) (get_set state.servers.sites k turn.state (get_below state.servers.sites k own at)) in
        subst (λ z. AllOf w (noted state.servers.sequencer.history) (slice_set state.servers.sites k turn.state) (moved state.links (suc (suc k)) from z clock rest turn.outs)) (sym same)
        (site_of w state landed agree all from clock l rest k own at front)

    heard : (server : ℕ) → link state.links server from ≡ l ∷ rest → Heard server
    heard zero front = monitor_of w state landed agree all from clock l rest (hear_monitor w state.servers.fired from l).outs front
    heard (suc zero) front = sequencer_of w state landed agree all from clock l rest front
    heard (suc (suc k)) front = at_site k front (slice_get state.servers.sites k) refl

  front_of : (state : World) (server from : ℕ) (queue : List Letter) → link state.links server from ≡ queue → Landed w state → PartsAgree w state → At state → At (take_front w state server from queue)
  front_of state server from [] q landed agree all = all
  front_of state server from (l ∷ rest) q landed agree all = heard state landed agree all from (1 + max (slice_index state.clocks server) l.clock) l rest server q

  -- at the start there is no letter but the first to each site, and each copy has the initial value
  abbrev QueueOpen : List Letter → Type 0
  QueueOpen queue = (server from : ℕ) → AllByRecursion (LetterOf w [] server from) queue

  first_open : (s : Site) → QueueOpen (first_letter w s ∷ [])
  first_open s server zero = (tt, tt)
  first_open s server (suc zero) = (tt, tt)
  first_open s server (suc (suc j)) = (tt, tt)

  empty_open : (n : ℕ) → AllByRecursion QueueOpen (replicate n [])
  empty_open n = all_empty QueueOpen n [] (λ server from. tt)

  rows_open : (ss : List Site) → AllByRecursion (AllByRecursion QueueOpen) (map (first_links w) ss)
  rows_open [] = tt
  rows_open (s ∷ ss) = (((λ server from. tt), (first_open s, empty_open w.sites)), rows_open ss)

  copies_open : (xs : List Item) → AllByRecursion (CopyOf w []) (map (λ x. let c : Copy = record { item = x; value = initial w x; version = 0 } in c) xs)
  copies_open [] = tt
  copies_open (x ∷ xs) = (record { within = omega arith; value = refl }, copies_open xs)

  open_of : At (open_world w)
  open_of = record {
    copies = λ k s at. subst (λ (s : SiteState). AllByRecursion (CopyOf w []) s.copies) (first_state w 1 w.sites k s at) (copies_open _);
    on_links = λ server from. all_at QueueOpen (slice_index_or (open_world w).links server []) from []
        (all_at (AllByRecursion QueueOpen) (open_world w).links server [] (empty_open (w.sites + 2), (empty_open (w.sites + 2), rows_open (sites w))) tt) (λ server from. tt) server from;
  }

  step : (schedule : List Pick) (p : Pick) → At (run w schedule) → At (run w (schedule ++ p ∷ []))
  step schedule p all =
      let s = run w schedule in
      subst At (sym (fold-append (pick w) (open_world w) schedule (p ∷ []))) (front_of s p.server p.from (link s.links p.server p.from) refl (landed w schedule) (runs_agree w schedule) all)

  steps : (before more : List Pick) → At (run w before) → At (run w (before ++ more))
  steps before [] all = subst (λ z. At (run w z)) (sym (append-nil before)) all
  steps before (p ∷ more) all = subst (λ z. At (run w z)) (append_assoc before (p ∷ []) more) (steps (before ++ p ∷ []) more (step before p all))

  pub runs_of : (schedule : List Pick) → AllOf w (noted (run w schedule).servers.sequencer.history) (run w schedule).servers.sites (run w schedule).links
  runs_of schedule = steps [] schedule open_of

  -- as it is claimed
  brings : (p : List Noted) (m : Message) → MessageOf w p m → BringsCommitted w p m
  brings p (letters.CopyValue x v version) h = h.value
  brings p other h = tt

  pub runs_committed : (schedule : List Pick) → CopiesAreCommitted w (run w schedule)
  runs_committed schedule = record {
    copies = λ k s at. all_weaken (CopyOf w p) (IsCommitted w p) s.copies (λ c h. h.value) (all.copies k s at);
    brought = λ k j. subst (λ c. AllByRecursion (λ (l : Letter). BringsCommitted w p l.message) (link links (k + 2) c)) (let e : suc (suc j) ≡ j + 2 = omega arith in e)
        (all_weaken (LetterOf w p (k + 2) (suc (suc j))) (λ (l : Letter). BringsCommitted w p l.message) (link links (k + 2) (suc (suc j))) (λ l h. brings p l.message h) (all.on_links (k + 2) (suc (suc j))));
  }
    where
      p : List Noted
      p = noted (run w schedule).servers.sequencer.history

      links : List (List (List Letter))
      links = (run w schedule).links

      all : AllOf w (noted (run w schedule).servers.sequencer.history) (run w schedule).servers.sites (run w schedule).links
      all = runs_of schedule
