-- In every run, copiers tell the versions of the items whose copies wait for them.
use Rattle.std.proofs.Common.{◌≡◌, inl, inr, ℕ, zero, suc, ◌+◌, ◌-◌, ◌<◌, ◌≤◌, nat_lt, true, ◌&&◌, List, [], ◌∷◌, ◌++◌, Option, Some, None, if◌then◌else◌, arith, sym, subst, ap, ◌∙◌, refl, append-nil, append_assoc}
use Rattle.std.specs.Prelude.{max, slice_get, slice_index}
use Rattle.std.specs.Option.{option_map_or}
use Rattle.std.proofs.lemmas.Bool.{and_parts, true≢false}
use Rattle.std.proofs.lemmas.List.Sums.{fold-append}
use Rattle.raid_base.specs.declared.names.Item.{Item}
use Rattle.raid_base.specs.declared.names.Site.{Site}
use Rattle.raid_base.specs.declared.entry.Noted.{Noted}
use Rattle.raid_base.specs.Sites.{session, site}
use Rattle.raid_workload.specs.declared.workload.Workload.{Workload}
use Rattle.raid_rules.specs.History.{noted, version}
use Rattle.raid_rules.specs.Sessions.{last_session, is_copy_locked}
use Rattle.raid_legal.specs.Seen.{vector, is_up, is_locked}
use Rattle.raid_message.specs.declared.letter.Message.{Message}
use Rattle.raid_message.specs.declared.letter.Message.TheVariants as letters
use Rattle.raid_message.specs.declared.letter.Letter.{Letter}
use Rattle.raid_message.specs.declared.letter.Pick.{Pick}
use Rattle.raid_steps.specs.State.{SiteState, opened}
use Rattle.raid_steps.specs.Fits.{knows_site}
use Rattle.raid_steps.specs.Monitor.{hear_monitor}
use Rattle.raid_steps.specs.Sequencer.{is_hello, hear_sequencer}
use Rattle.raid_steps.specs.Site.{hear_site}
use Rattle.raid_steps.specs.World.{World, hear, hear_at, session_of, link, set_link, take_front, pick, run, open_world}
use Rattle.raid_steps.proofs.Parts.{number_known}
use Rattle.raid_sessions.proofs.Agreed.{front_asked}
use Rattle.raid_sessions.proofs.Ledger.{session_most}
use Rattle.raid_sessions.proofs.Lists.{get_below, get_known, get_set}
use Rattle.raid_sessions.proofs.Mail.{moved}
use Rattle.raid_sessions.proofs.Reached.{from_below}
use Rattle.raid_letters.specs.Says.{is_held}
use Rattle.raid_versions.proofs.Chain.{opens, known}
use Rattle.raid_versions.proofs.Opening.{IsWelcome, AreWelcomes, welcomes, open_versions}
use Rattle.raid_versions.proofs.Owed.{Known}
use Rattle.raid_versions.proofs.Runs as below
use Rattle.raid_versions.proofs.Steps.{hear_steps}
use Rattle.raid_told.specs.Copiers.{IsCurrent, Asks, Speaks, QueueTells, LinksTell, CopiersTell}
use Rattle.raid_told.proofs.Queues.{monitor_posts, front_taken}
use Rattle.raid_told.proofs.Sequencer.{steps_tell}
use Rattle.raid_told.proofs.Sites.{site_tells}

module _ (w : Workload) where
  -- at the start each letter is a Welcome
  open_tells : CopiersTell w (open_world w)
  open_tells server from = go from (link (open_world w).links server from) (welcomes w server from)
    where
      asks : (here : Site) (to : ℕ) (m : Message) (behind : List Letter) → IsWelcome w m → Asks w [] here to m behind
      asks here to (letters.Welcome v next) behind q = tt
      asks here to other behind q = absurd q

      speaks : (here there : Site) (to n : ℕ) (m : Message) → IsWelcome w m → Speaks w [] here there to n m
      speaks here there to n (letters.Welcome v next) q = tt
      speaks here there to n other q = absurd q

      go : (d : ℕ) (ls : List Letter) → AreWelcomes w ls → QueueTells w [] server d ls
      go zero ls a = tt
      go (suc zero) [] a = tt
      go (suc zero) (l ∷ ls) a = (asks (site (server - 1)) l.to l.message ls a.0, go 1 ls a.1)
      go (suc (suc j)) [] a = tt
      go (suc (suc j)) (l ∷ ls) a = (speaks (site (server - 1)) (site (j + 1)) l.to l.from l.message a.0, go (suc (suc j)) ls a.1)

  module _ (state : World) (knows : Known w state) (last : below.Last w state) (all : CopiersTell w state) (from clock : ℕ) (l : Letter) (rest : List Letter) where
    -- the world after the letter was heard, by its servers and links
    abbrev Heard : ℕ → Type 0
    Heard server = LinksTell w (noted (hear w state.servers server from l).0.sequencer.history) (moved state.links server from (session_of (hear w state.servers server from l).0 server) clock rest (hear w state.servers server from l).1)

    at_sequencer : link state.links 1 from ≡ l ∷ rest → Heard 1
    at_sequencer front =
        let told = noted state.servers.sequencer.history in
        let history = state.servers.sequencer.history in
        steps_tell w from l told (set_link state.links 1 from rest) clock (opened state.servers.sequencer) (hear_sequencer w state.servers.sequencer from l)
        (hear_steps w from l told (opens w state knows last.owers last.versions from clock l rest front) (known w state knows last.owers last.versions from clock l rest front) state.servers.sequencer from refl refl knows.says.reached.placed knows.says.reached.quiet)
        (record { long = knows.says.reached.ledger.long; most = λ s is. session_most w history s knows.says.reached.ledger is })
        (front_taken w told state.links 1 from l rest front all)

    at_site : (k : ℕ) → link state.links (suc (suc k)) from ≡ l ∷ rest → (o : Option SiteState) → slice_get state.servers.sites k ≡ o →
        LinksTell w (noted (hear_at w state.servers k from l o).0.sequencer.history) (moved state.links (suc (suc k)) from (session_of (hear_at w state.servers k from l o).0 (suc (suc k))) clock rest (hear_at w state.servers k from l o).1)
    at_site k front None none = front_taken w (noted state.servers.sequencer.history) state.links (suc (suc k)) from l rest front all
    at_site k front (Some own) at =
        let turn = hear_site w own from l in
        let same = ap (λ (o : Option SiteState). option_map_or (λ (s : SiteState). s.session) o 0) (get_set state.servers.sites k turn.state (get_below state.servers.sites k own at)) in
        subst (λ z. LinksTell w (noted state.servers.sequencer.history) (moved state.links (suc (suc k)) from z clock rest turn.outs)) (sym same)
        (site_tells w state knows last.versions from clock l rest k own at front all)

    heard : (server : ℕ) → link state.links server from ≡ l ∷ rest → Heard server
    heard zero front = monitor_posts w (noted state.servers.sequencer.history) 0 clock (hear_monitor w state.servers.fired from l).outs (set_link state.links 0 from rest) (front_taken w (noted state.servers.sequencer.history) state.links 0 from l rest front all)
    heard (suc zero) front = at_sequencer front
    heard (suc (suc k)) front = at_site k front (slice_get state.servers.sites k) refl

  front_tells : (state : World) (server from : ℕ) (queue : List Letter) → link state.links server from ≡ queue → Known w state → below.Last w state → CopiersTell w state → CopiersTell w (take_front w state server from queue)
  front_tells state server from [] q knows last all = all
  front_tells state server from (l ∷ rest) q knows last all = heard state knows last all from (1 + max (slice_index state.clocks server) l.clock) l rest server q

  step : (schedule : List Pick) (p : Pick) → CopiersTell w (run w schedule) → CopiersTell w (run w (schedule ++ p ∷ []))
  step schedule p all =
      let s = run w schedule in
      subst (CopiersTell w) (sym (fold-append (pick w) (open_world w) schedule (p ∷ [])))
      (front_tells s p.server p.from (link s.links p.server p.from) refl (below.known w schedule) (below.steps w [] schedule (record { versions = open_versions w; owers = λ k low t owed. absurd (true≢false (sym owed)) })) all)

  steps : (before more : List Pick) → CopiersTell w (run w before) → CopiersTell w (run w (before ++ more))
  steps before [] all = subst (λ z. CopiersTell w (run w z)) (sym (append-nil before)) all
  steps before (p ∷ more) all = subst (λ z. CopiersTell w (run w z)) (append_assoc before (p ∷ []) more) (steps (before ++ p ∷ []) more (step before p all))

  pub runs_tell : (schedule : List Pick) → CopiersTell w (run w schedule)
  runs_tell schedule = steps [] schedule open_tells

  -- what the sequencer hears next of a locked copy at an up site
  module _ (state : World) (knows : Known w state) (all : CopiersTell w state) where
    abbrev p : List Noted
    p = noted state.servers.sequencer.history

    front_told : (k : ℕ) (letter : Letter) (rest : List Letter) (x : Item) (v : ℕ) → link state.links 1 (k + 2) ≡ letter ∷ rest → letter.message ≡ letters.CopyDone x v → (is_up w p (site (k + 1)) && is_locked w p (site (k + 1)) x) ≡ true → v ≡ version p x
    front_told k letter rest x v front is waits = current.current (record { some = some; up = up; held = (and_parts (is_held w (site (k + 1)) x) (is_copy_locked p (site (k + 1)) x) both.1).0; locked = (and_parts (is_held w (site (k + 1)) x) (is_copy_locked p (site (k + 1)) x) both.1).1 })
      where
        both : (is_up w p (site (k + 1)) ≡ true) × (is_locked w p (site (k + 1)) x ≡ true)
        both = and_parts (is_up w p (site (k + 1))) (is_locked w p (site (k + 1)) x) waits

        low : k + 2 < w.sites + 2
        low = from_below (w.sites + 2) state.links 1 (k + 2) letter rest knows.says.reached.square front

        here_known : knows_site w (site (k + 1)) ≡ true
        here_known = number_known w k low

        place : k + 2 ≡ suc (suc k)
        place = omega arith

        current : IsCurrent w p (site (k + 1)) letter.from x v
        current = subst (λ m. Speaks w p (site 0) (site (k + 1)) letter.to letter.from m) is (subst (QueueTells w p 1 (suc (suc k))) (ap (link state.links 1) (sym place) ∙ front) (all 1 (suc (suc k)))).0 here_known

        at_least : (n : ℕ) → nat_lt 0 n ≡ true → 1 ≤ n
        at_least n q = grind (arith, q)

        own : (s : SiteState) × (slice_get state.servers.sites k ≡ Some s)
        own = get_known state.servers.sites k (let long = knows.says.reached.long in let b = low in omega (arith, b, long))

        sent : letter.from ≡ last_session p (site (k + 1))
        sent = front_asked w state knows.says.reached k own.0 own.1 letter rest front ∙ ap (λ b. if b then last_session p (site (k + 1)) + 1 else last_session p (site (k + 1))) (ap is_hello is)

        up : session (vector w p) (site (k + 1)) ≡ letter.from
        up = elim (knows.says.reached.ledger.accounts (site (k + 1)) here_known).gone [
          | inl down ↦ absurd (let more = at_least (session (vector w p) (site (k + 1))) both.0 in let none = down.0 in omega (arith, more, none))
          | inr same ↦ same.0 ∙ sym sent
        ]

        some : 1 ≤ letter.from
        some = subst (λ z. 1 ≤ z) up (at_least (session (vector w p) (site (k + 1))) both.0)

  pub runs_told : (schedule : List Pick) (k : ℕ) (letter : Letter) (rest : List Letter) (x : Item) (v : ℕ) → link (run w schedule).links 1 (k + 2) ≡ letter ∷ rest → letter.message ≡ letters.CopyDone x v →
      (is_up w (noted (run w schedule).servers.sequencer.history) (site (k + 1)) && is_locked w (noted (run w schedule).servers.sequencer.history) (site (k + 1)) x) ≡ true → v ≡ version (noted (run w schedule).servers.sequencer.history) x
  runs_told schedule = front_told (run w schedule) (below.known w schedule) (runs_tell schedule)
