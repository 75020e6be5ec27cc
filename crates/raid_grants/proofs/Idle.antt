-- Where no letter is left, no program waits for a read that was granted.
use Rattle.std.proofs.Common.{◌≡◌, ℕ, ◌+◌, ◌-◌, ◌≤◌, Bool, true, false, List, Option, Some, if◌then◌else◌, arith, sym, ap, ◌∙◌, refl}
use Rattle.std.specs.Prelude.{slice_get, is_some}
use Rattle.std.specs.List.{list_any}
use Rattle.std.proofs.lemmas.Bool.{true≢false}
use Rattle.raid_base.specs.declared.names.Txn.{Txn}
use Rattle.raid_base.specs.declared.names.Item.{Item}
use Rattle.raid_base.specs.declared.names.Site.{Site}
use Rattle.raid_base.specs.declared.entry.Noted.{Noted}
use Rattle.raid_base.specs.Sites.{session, site}
use Rattle.raid_workload.specs.declared.workload.Workload.{Workload}
use Rattle.raid_rules.specs.History.{noted}
use Rattle.raid_legal.specs.Seen.{vector, has_down_after}
use Rattle.raid_message.specs.declared.letter.Letter.{Letter}
use Rattle.raid_message.specs.declared.letter.Pick.{Pick}
use Rattle.raid_steps.specs.State.{SiteState}
use Rattle.raid_steps.specs.World.{World, run, link, is_idle}
use Rattle.raid_sessions.specs.Present.{own_session}
use Rattle.raid_sessions.proofs.Agreed.{run_idle}
use Rattle.raid_sessions.proofs.Lists.{get_known, within}
use Rattle.raid_sessions.proofs.Reached.{reached}
use Rattle.raid_layers.specs.Asks.{asks_of}
use Rattle.raid_vectors.proofs.Runs.{idle_link}
use Rattle.raid_grants.specs.Grants.{note_comes, is_to_read, brings_value, ValueComes, told, brought, ended, IsUnderWay, NoGrantIsAwaited}
use Rattle.raid_grants.proofs.Entries.{some_session}
use Rattle.raid_grants.proofs.Runs.{runs_grant}

module _ (w : Workload) (schedule : List Pick) (idle : is_idle (run w schedule) ≡ true) where
  abbrev world : World
  world = run w schedule

  abbrev p : List Noted
  p = noted (run w schedule).servers.sequencer.history

  no_letter : (server from : ℕ) (test : Letter → Bool) → list_any test (link (run w schedule).links server from) ≡ true → ⊥
  no_letter server from test q = true≢false (sym q ∙ ap (list_any test) (idle_link (run w schedule) server from idle))

  none_under : (k m : ℕ) (t : Txn) (ask : ℕ) (x : Item) (o : Option Site) → IsUnderWay w p (run w schedule).servers.sites (run w schedule).links k m t ask x o → ⊥
  none_under k m t ask x o u = go (has_down_after p u.read.at u.server) refl
    where
      bounds : (1 ≤ u.server.0) × (u.server.0 ≤ w.sites)
      bounds = within w.sites u.server.0 u.known

      own : (s : SiteState) × (slice_get (run w schedule).servers.sites (u.server.0 - 1) ≡ Some s)
      own = get_known (run w schedule).servers.sites (u.server.0 - 1) (let l = (reached w schedule).long in let b = bounds in omega (arith, l, b.0, b.1))

      its_site : site (u.server.0 - 1 + 1) ≡ u.server
      its_site = ap (λ i. let z : Site = record { 0 = i } in z) (let b = bounds in let e : u.server.0 - 1 + 1 ≡ u.server.0 = omega (arith, b.0) in e)

      told_is : session (vector w p) u.server ≡ own_session own.0
      told_is = ap (session (vector w p)) (sym its_site) ∙ run_idle w schedule idle (u.server.0 - 1) own.0 own.1

      -- the history has the site up in the session that it is in, which hasn't ended
      stays : 1 ≤ session (vector w p) u.server → ValueComes (run w schedule).servers.sites (run w schedule).links k m (session (vector w p) u.server) t ask u.server → ⊥
      stays lives (told q) = no_letter (u.server.0 + 1) 1 (is_to_read (session (vector w p) u.server) k m t ask) q
      stays lives (brought q) = no_letter (k + 2) (u.server.0 + 1) (brings_value m t ask) q
      stays lives (ended over) = by_up own.0.up refl
        where
          by_up : (b : Bool) → own.0.up ≡ b → ⊥
          by_up true e = (let a = told_is ∙ ap (λ c. if c then own.0.session else 0) e in let b = over own.0 own.1 e in omega (arith, a, b))
          by_up false e = (let a = told_is ∙ ap (λ c. if c then own.0.session else 0) e in omega (arith, a, lives))

      go : (b : Bool) → has_down_after p u.read.at u.server ≡ b → ⊥
      go true e = true≢false (sym (u.falls e) ∙ ap (note_comes m t ask u.server (is_some o)) (idle_link (run w schedule) (k + 2) 1 idle))
      go false e = stays (some_session (session (vector w p) u.server) (u.up e)) (u.comes e)

pub idle_grants : (w : Workload) (schedule : List Pick) → is_idle (run w schedule) ≡ true → NoGrantIsAwaited w (run w schedule)
idle_grants w schedule idle k s awake t r found ask x q phase still count =
    none_under w schedule idle k s.session t ask x q (runs_grant w schedule k s awake t r found ask x q phase still (ap (asks_of t) (idle_link (run w schedule) 1 (k + 2) idle)) count)
