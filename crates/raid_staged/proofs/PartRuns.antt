-- In every run, the parts of writes are those of the writes that are to be committed.
use Rattle.std.proofs.Common.{◌≡◌, inl, inr, ℕ, ℤ, zero, suc, ◌+◌, ◌-◌, true, false, List, [], ◌∷◌, ◌++◌, map, replicate, Option, Some, None, arith, sym, subst, ap, refl, append-nil, append_assoc}
use Rattle.std.specs.Prelude.{max, slice_get, slice_set, slice_index, slice_index_or}
use Rattle.std.specs.List.{AllByRecursion}
use Rattle.std.specs.Option.{option_map_or}
use Rattle.std.proofs.lemmas.List.Sums.{fold-append}
use Rattle.raid_base.specs.declared.names.Txn.{Txn}
use Rattle.raid_base.specs.declared.names.Item.{Item}
use Rattle.raid_base.specs.declared.names.Site.{Site}
use Rattle.raid_base.specs.declared.request.Request.{Request}
use Rattle.raid_base.specs.declared.entry.Entry.{Entry}
use Rattle.raid_base.specs.declared.entry.Entry.TheVariants.{Wait, Commit}
use Rattle.raid_base.specs.declared.entry.Noted.{Noted}
use Rattle.raid_base.specs.Names.{is_txn}
use Rattle.raid_base.specs.Sites.{site}
use Rattle.raid_workload.specs.declared.workload.Workload.{Workload}
use Rattle.raid_workload.specs.Parts.{sites}
use Rattle.raid_rules.specs.History.{noted, has_begun, has_ended}
use Rattle.raid_rules.specs.Sessions.{last_session}
use Rattle.raid_message.specs.declared.letter.Message.{Message}
use Rattle.raid_message.specs.declared.letter.Message.TheVariants as letters
use Rattle.raid_message.specs.declared.letter.Letter.{Letter}
use Rattle.raid_message.specs.declared.letter.Pick.{Pick}
use Rattle.raid_steps.specs.State.{Phase, asking, preparing, sent, Running, SiteState}
use Rattle.raid_steps.specs.Programs.{running_of}
use Rattle.raid_steps.specs.Monitor.{hear_monitor}
use Rattle.raid_steps.specs.Site.{hear_site}
use Rattle.raid_steps.specs.World.{World, hear, hear_at, session_of, link, take_front, pick, run, open_world, first_letter, first_links}
use Rattle.raid_sessions.proofs.Lists.{all_weaken, get_below, get_set}
use Rattle.raid_sessions.proofs.Mail.{moved}
use Rattle.raid_sessions.proofs.Reached.{server_below}
use Rattle.raid_moves.specs.Moves.{Ascend}
use Rattle.raid_moves.proofs.Places.{nothing, each_found}
use Rattle.raid_asks.proofs.Begins.{reached_all}
use Rattle.raid_asks.proofs.Reached.{first_state}
use Rattle.raid_asks.proofs.Waits.{Waits}
use Rattle.raid_letters.proofs.Runs.{all_at, all_empty, reaches}
use Rattle.raid_layers.proofs.Laws.{reads, gives, asks_one}
use Rattle.raid_layers.proofs.Runs as layers
use Rattle.raid_layers.proofs.Histories.{HasWait}
use Rattle.raid_layers.proofs.Worlds as layered
use Rattle.raid_layers.proofs.Worlds.{TalkAll}
use Rattle.raid_staged.specs.Agree.{first_writes, AreParts, AsksPart, IsPartOf, AskAgrees, EntryAgrees, PhaseAgrees, PartsAgree}
use Rattle.raid_staged.proofs.PartSites.{site_parts}
use Rattle.raid_staged.proofs.PartWorlds.{HasAskOn, LinkPart, PartsIn, Told, unbegun, asked, waits, committed, HasCommit, OpenParts, AllParts, monitor_parts, sequencer_parts}
use Rattle.raid_staged.proofs.Runs as staged
use Rattle.raid_staged.proofs.Worlds.{Landed}

module _ (w : Workload) where
  abbrev At : World → Type 0
  At state = AllParts w (noted state.servers.sequencer.history) state.servers.sites state.links

  module _ (state : World) (landed : Landed w state) (layer : layered.Landed w state.servers state.links) (talk : TalkAll w state.servers state.links) (all : At state) (from clock : ℕ) (l : Letter) (rest : List Letter) where
    abbrev Heard : ℕ → Type 0
    Heard server = AllParts w (noted (hear w state.servers server from l).0.sequencer.history) (hear w state.servers server from l).0.sites
        (moved state.links server from (session_of (hear w state.servers server from l).0 server) clock rest (hear w state.servers server from l).1)

    at_site : (k : ℕ) → link state.links (suc (suc k)) from ≡ l ∷ rest → (o : Option SiteState) → slice_get state.servers.sites k ≡ o →
        Waits w (hear_at w state.servers k from l o).0 (moved state.links (suc (suc k)) from (session_of (hear_at w state.servers k from l o).0 (suc (suc k))) clock rest (hear_at w state.servers k from l o).1) →
        AllParts w (noted (hear_at w state.servers k from l o).0.sequencer.history) (hear_at w state.servers k from l o).0.sites
        (moved state.links (suc (suc k)) from (session_of (hear_at w state.servers k from l o).0 (suc (suc k))) clock rest (hear_at w state.servers k from l o).1)
    at_site k front None none cares =
        absurd (layers.nobody state.servers.sites k none (let inside = server_below (w.sites + 2) state.links (suc (suc k)) from l rest landed.says.reached.square front in let long = landed.says.reached.long in omega (arith, inside, long)))
    at_site k front (Some own) at cares =
        let turn = hear_site w own from l in
        let same = ap (λ (o : Option SiteState). option_map_or (λ (s : SiteState). s.session) o 0) (get_set state.servers.sites k turn.state (get_below state.servers.sites k own at)) in
        subst (λ z. AllParts w (noted state.servers.sequencer.history) (slice_set state.servers.sites k turn.state) (moved state.links (suc (suc k)) from z clock rest turn.outs)) (sym same)
        (site_parts w state landed layer talk all from clock l rest k own at front
        (subst (λ z. Waits w (record (state.servers) { sites = slice_set state.servers.sites k turn.state }) (moved state.links (suc (suc k)) from z clock rest turn.outs)) same cares))

    heard : (server : ℕ) → link state.links server from ≡ l ∷ rest → Waits w (hear w state.servers server from l).0 (moved state.links server from (session_of (hear w state.servers server from l).0 server) clock rest (hear w state.servers server from l).1) → Heard server
    heard zero front cares = monitor_parts w state landed all from clock l rest (hear_monitor w state.servers.fired from l).outs front
    heard (suc zero) front cares = sequencer_parts w state landed all from clock l rest front
    heard (suc (suc k)) front cares = at_site k front (slice_get state.servers.sites k) refl cares

  front_parts : (state : World) (server from : ℕ) (queue : List Letter) → link state.links server from ≡ queue → Landed w state → layered.Landed w state.servers state.links → TalkAll w state.servers state.links → At state →
      Waits w (take_front w state server from queue).servers (take_front w state server from queue).links → At (take_front w state server from queue)
  front_parts state server from [] q landed layer talk all cares = all
  front_parts state server from (l ∷ rest) q landed layer talk all cares = heard state landed layer talk all from (1 + max (slice_index state.clocks server) l.clock) l rest server q cares

  -- at the start nothing is staged, and there is no letter but the first to each site
  abbrev QueueOpen : Txn → Option (List (Item × ℤ)) → List Letter → Type 0
  QueueOpen t o queue = (server from : ℕ) → AllByRecursion (LinkPart w t o server from) queue

  first_open : (t : Txn) (o : Option (List (Item × ℤ))) (s : Site) → QueueOpen t o (first_letter w s ∷ [])
  first_open t o s server zero = (tt, tt)
  first_open t o s server (suc zero) = (tt, tt)
  first_open t o s server (suc (suc j)) = (tt, tt)

  empty_open : (t : Txn) (o : Option (List (Item × ℤ))) (n : ℕ) → AllByRecursion (QueueOpen t o) (replicate n [])
  empty_open t o n = all_empty (QueueOpen t o) n [] (λ server from. tt)

  rows_open : (t : Txn) (o : Option (List (Item × ℤ))) (ss : List Site) → AllByRecursion (AllByRecursion (QueueOpen t o)) (map (first_links w) ss)
  rows_open t o [] = tt
  rows_open t o (s ∷ ss) = (((λ server from. tt), (first_open t o s, empty_open t o w.sites)), rows_open t o ss)

  open_in : (t : Txn) (o : Option (List (Item × ℤ))) → PartsIn w (open_world w).servers.sites (open_world w).links t o
  open_in t o = record {
    staged = λ k s at. subst (λ (s : SiteState). AllByRecursion (λ (e : Txn × List (Item × ℤ)). is_txn t e.0 ≡ true → IsPartOf w (site (k + 1)) o e.1) s.staged) (first_state w 1 w.sites k s at) tt;
    on_links = λ server from. all_at (QueueOpen t o) (slice_index_or (open_world w).links server []) from []
        (all_at (AllByRecursion (QueueOpen t o)) (open_world w).links server [] (empty_open t o (w.sites + 2), (empty_open t o (w.sites + 2), rows_open t o (sites w))) tt) (λ server from. tt) server from;
  }

  none_asked : (k : ℕ) (t : Txn) (r : Request) → HasAskOn (link (open_world w).links 1 (k + 2)) t r → ⊥
  none_asked k t r h = subst (λ ls. HasAskOn ls t r) (layers.empty_at (w.sites + 2) (k + 2)) h

  first_told : (t : Txn) (o : Option (List (Item × ℤ))) → Told w [] (open_world w).links t o → has_begun [] t ≡ false → o ≡ first_writes w t
  first_told t o (unbegun new is) q = is
  first_told t o (asked k r h alive is) q = absurd (none_asked k t r h)
  first_told t o (waits r h alive is) q = absurd h
  first_told t o (committed r h is) q = absurd h

  abbrev OpensAt : ℕ → SiteState → Type 0
  OpensAt k s = s.up ≡ true → last_session [] (site (k + 1)) ≡ s.session → (t : Txn) (r : Running) → running_of s t ≡ Some r → OpenParts w [] (open_world w).servers.sites (open_world w).links t r.phase

  open_parts : At (open_world w)
  open_parts = record {
    told = λ t o h. (open_in t o, first_told t o h);
    runs = λ k s at. subst (OpensAt k) (first_state w 1 w.sites k s at) (λ up last t r f. absurd (nothing f));
  }

  layer_of : (schedule : List Pick) → layered.Landed w (run w schedule).servers (run w schedule).links
  layer_of schedule = layers.landed w (reads w) (gives w) schedule

  talk_of : (schedule : List Pick) → TalkAll w (run w schedule).servers (run w schedule).links
  talk_of schedule = (let a = asks_one w schedule in (a.one, a.talks))

  step : (schedule : List Pick) (p : Pick) → At (run w schedule) → At (run w (schedule ++ p ∷ []))
  step schedule p all =
      let s = run w schedule in
      let same = fold-append (pick w) (open_world w) schedule (p ∷ []) in
      subst At (sym same)
      (front_parts s p.server p.from (link s.links p.server p.from) refl (staged.landed w schedule) (layer_of schedule) (talk_of schedule) all (subst (λ (z : World). Waits w z.servers z.links) same (reached_all w (schedule ++ p ∷ [])).1.1))

  steps : (before more : List Pick) → At (run w before) → At (run w (before ++ more))
  steps before [] all = subst (λ z. At (run w z)) (sym (append-nil before)) all
  steps before (p ∷ more) all = subst (λ z. At (run w z)) (append_assoc before (p ∷ []) more) (steps (before ++ p ∷ []) more (step before p all))

  -- what is claimed, by place
  module _ (state : World) (ascends : (k : ℕ) (s : SiteState) → slice_get state.servers.sites k ≡ Some s → Ascend s.running) (all : At state) where
    abbrev p : List Noted
    p = noted state.servers.sequencer.history

    are_parts : (t : Txn) (o : Option (List (Item × ℤ))) → PartsIn w state.servers.sites state.links t o → AreParts w state t o
    are_parts t o h = record {
      staged = h.staged;
      asked = λ k j. subst (λ c. AllByRecursion (λ (l : Letter). AsksPart w t o (site (k + 1)) l.message) (link state.links (k + 2) c)) (let e : suc (suc j) ≡ j + 2 = omega arith in e)
          (all_weaken (LinkPart w t o (k + 2) (suc (suc j))) (λ (l : Letter). AsksPart w t o (site (k + 1)) l.message) (link state.links (k + 2) (suc (suc j)))
          (λ l q. subst (λ z. AsksPart w t o z l.message) (ap site (let e : k + 2 - 1 ≡ k + 1 = omega arith in e)) q) (h.on_links (k + 2) (suc (suc j))));
    }

    phases : (t : Txn) (phase : Phase) → OpenParts w p state.servers.sites state.links t phase → has_ended p t ≡ false → PhaseAgrees w state t phase
    phases t (asking ask x q) h alive = are_parts t None (h.0 alive)
    phases t (preparing told writes awaited) h alive = are_parts t (Some writes) (h.0 alive)
    phases t sent h alive = tt

    asks_in : (k : ℕ) (ls : List Letter) → ((t : Txn) (r : Request) → HasAskOn ls t r → HasAskOn (link state.links 1 (k + 2)) t r) → AllByRecursion (λ (l : Letter). AskAgrees w state l.message) ls
    asks_in k [] f = tt
    asks_in k (l ∷ ls) f = (go l.message refl, asks_in k ls (λ t r h. f t r (inr h)))
      where
        go : (m : Message) → l.message ≡ m → AskAgrees w state m
        go (letters.CommitAsk t r) is = λ alive. are_parts t (Some r.writes) (all.told t (Some r.writes) (asked k r (f t r (inl is)) alive refl)).0
        go other is = tt

    entries_in : (ns : List Noted) → ((t : Txn) (r : Request) → HasWait ns t r → HasWait p t r) → ((t : Txn) (r : Request) → HasCommit ns t r → HasCommit p t r) → AllByRecursion (λ (n : Noted). EntryAgrees w state n.entry) ns
    entries_in [] f g = tt
    entries_in (n ∷ ns) f g = (go n.entry refl, entries_in ns (λ t r h. f t r (inr h)) (λ t r h. g t r (inr h)))
      where
        go : (e : Entry) → n.entry ≡ e → EntryAgrees w state e
        go (Wait t r) is = λ alive. are_parts t (Some r.writes) (all.told t (Some r.writes) (waits r (f t r (inl is)) alive refl)).0
        go (Commit t r applied) is = are_parts t (Some r.writes) (all.told t (Some r.writes) (committed r (g t r (inl (applied, is))) refl)).0
        go other is = tt

    parts_agree : PartsAgree w state
    parts_agree = record {
      unbegun = λ t new. are_parts t (first_writes w t) (all.told t (first_writes w t) (unbegun new refl)).0;
      running = λ k s at up last. all_weaken (λ (r : Running). running_of s r.txn ≡ Some r) (λ (r : Running). has_ended p r.txn ≡ false → PhaseAgrees w state r.txn r.phase) s.running (λ r f alive. phases r.txn r.phase (all.runs k s at up last r.txn r f) alive) (each_found s.running (ascends k s at));
      asks = λ k. asks_in k (link state.links 1 (k + 2)) (λ t r h. h);
      entries = entries_in p (λ t r h. h) (λ t r h. h);
    }

  pub runs_agree : (schedule : List Pick) → PartsAgree w (run w schedule)
  runs_agree schedule = parts_agree (run w schedule) (λ k s at. ((reaches w schedule).homes k s at).ascend) (steps [] schedule open_parts)
