-- Which server a node is, by its number.
use Rattle.std.proofs.Common.{◌≡◌, ℕ, zero, suc, ◌<◌, ◌≤◌, [], List, Some, Result, Ok, Err, IfOk, length, arith, sym, ap, subst, ◌∙◌, refl}
use Rattle.std.specs.Prelude.{slice_get, slice_index_or}
use Rattle.std.specs.Option.{option_map_or}
use Rattle.raid_base.specs.declared.names.NoMemory.{NoMemory}
use Rattle.raid_base.specs.declared.report.CopyLine.{CopyLine}
use Rattle.raid_workload.specs.declared.workload.Workload.{Workload}
use Rattle.raid_boxed.specs.Boxed.{Says}
use Rattle.raid_steps.specs.State.{SiteState}
use Rattle.raid_steps.specs.World as steps
use Rattle.raid_steps.specs.World.{copy_lines}
use Rattle.raid_sequencer.specs.declared.sequencer.Sequencer.{Sequencer}
use Rattle.raid_sequencer.specs.Runs as deciding
use Rattle.raid_site.specs.declared.server.SiteServer.{SiteServer}
use Rattle.raid_site.specs.Server as serving
use Rattle.raid_world.specs.Stands as worlds
use Rattle.raid_nodes.specs.Nodes.{IsServer, GoesOn, Goes}
use Rattle.raid_nodes.specs.Ran.{AllGo, AreServers, lines_at}
use Rattle.raid_nodes.specs.declared.server.Server.{Server}
use Rattle.raid_nodes.specs.declared.server.Server.TheVariants as servers
use Rattle.raid_nodes.specs.declared.node.ServerNode.{ServerNode}

module _ {V : Type 0} {D : V → Type 0} where
  -- a site's node
  pub site_goes : (say : Says V D) (w : Workload) (x : ServerNode V D) (site : SiteServer) → x.server ≡ servers.Site site → Goes say w x → worlds.GoesOn w site
  site_goes say w x site is g = let s = subst (GoesOn say w) is g.server in record { run = s.0; live = s.1 }

  site_lines : (x : Server V D) (site : SiteServer) (lines : List CopyLine) → x ≡ servers.Site site → lines ≡ copy_lines (serving.state_of site) → (k : ℕ) (s : steps.Servers) → IsServer k x s → lines ≡ lines_at k s
  site_lines x site lines is l k s are =
      let here = subst (λ y. IsServer k y s) is are in
      subst (λ n. lines ≡ lines_at n s) (sym here.1) (l ∙ ap (λ o. option_map_or copy_lines o []) (sym here.2))

  pub site_lines_ok : (x : Server V D) (site : SiteServer) (r : Result (List CopyLine) NoMemory) → x ≡ servers.Site site → IfOk r (λ lines. lines ≡ copy_lines (serving.state_of site)) →
      IfOk r (λ lines. (k : ℕ) (s : steps.Servers) → IsServer k x s → lines ≡ lines_at k s)
  site_lines_ok x site (Ok lines) is l = site_lines x site lines is l
  site_lines_ok x site (Err e) is l = l

  -- the monitor's, and the sequencer's
  pub monitor_lines : (x : Server V D) (fired : ℕ) (lines : List CopyLine) → x ≡ servers.Monitor fired → lines ≡ [] → (k : ℕ) (s : steps.Servers) → IsServer k x s → lines ≡ lines_at k s
  monitor_lines x fired lines is l k s are = let here = subst (λ y. IsServer k y s) is are in subst (λ n. lines ≡ lines_at n s) (sym here.0) l

  pub sequencer_lines : (x : Server V D) (q : Sequencer V D) (lines : List CopyLine) → x ≡ servers.Sequencer q → lines ≡ [] → (k : ℕ) (s : steps.Servers) → IsServer k x s → lines ≡ lines_at k s
  sequencer_lines x q lines is l k s are = let here = subst (λ y. IsServer k y s) is are in subst (λ n. lines ≡ lines_at n s) (sym here.0) l

  -- the node with number 1
  pub second : (w : Workload) (xs : List (ServerNode V D)) (s : steps.Servers) → AreServers w xs s → 1 < length xs
  second w xs s are = let c = are.count in omega (arith, c)

  pub not_monitor : (w : Workload) (xs : List (ServerNode V D)) (s : steps.Servers) (x : ServerNode V D) (fired : ℕ) → AreServers w xs s → x ≡ slice_index_or xs 1 x → x.server ≡ servers.Monitor fired → ⊥
  not_monitor w xs s x fired are at is =
      let here = subst (λ y. IsServer 1 y s) is (subst (λ y. IsServer 1 y.server s) (sym at) (are.are 1 x (second w xs s are))) in
      let e : 1 ≡ 0 = here.0 in omega (arith, e)

  pub not_site : (w : Workload) (xs : List (ServerNode V D)) (s : steps.Servers) (x : ServerNode V D) (site : SiteServer) → AreServers w xs s → x ≡ slice_index_or xs 1 x → x.server ≡ servers.Site site → ⊥
  not_site w xs s x site are at is =
      let here = subst (λ y. IsServer 1 y s) is (subst (λ y. IsServer 1 y.server s) (sym at) (are.are 1 x (second w xs s are))) in
      let e : 1 ≡ suc (suc here.0) = here.1 in omega (arith, e)

  pub sequencer_tells : (w : Workload) (xs : List (ServerNode V D)) (s : steps.Servers) (x : ServerNode V D) (q : Sequencer V D) → AreServers w xs s → x ≡ slice_index_or xs 1 x → x.server ≡ servers.Sequencer q → deciding.Tells q s.sequencer
  sequencer_tells w xs s x q are at is =
      let here = subst (λ y. IsServer 1 y s) is (subst (λ y. IsServer 1 y.server s) (sym at) (are.are 1 x (second w xs s are))) in
      here.1

  pub sequencer_goes : (say : Says V D) (w : Workload) (xs : List (ServerNode V D)) (x : ServerNode V D) (q : Sequencer V D) → 1 < length xs → AllGo say w xs → x ≡ slice_index_or xs 1 x → x.server ≡ servers.Sequencer q → GoesOn say w (servers.Sequencer q)
  sequencer_goes say w xs x q low go at is = subst (GoesOn say w) is (subst (λ y. GoesOn say w y.server) (sym at) (go 1 x low).server)

  -- a node by its place
  pub server_at : (w : Workload) (xs : List (ServerNode V D)) (s : steps.Servers) (k : ℕ) (x : ServerNode V D) → AreServers w xs s → k < length xs → x ≡ slice_index_or xs k x → IsServer k x.server s
  server_at w xs s k x are low at = subst (λ y. IsServer k y.server s) (sym at) (are.are k x low)

  only_sequencer : (server : Server V D) (s : steps.Servers) → IsServer 1 server s → ((q : Sequencer V D) → server ≡ servers.Sequencer q → ⊥) → ⊥
  only_sequencer (servers.Monitor fired) s is off = let e : 1 ≡ 0 = is.0 in omega (arith, e)
  only_sequencer (servers.Sequencer q) s is off = off q refl
  only_sequencer (servers.Site site) s is off = let e : 1 ≡ suc (suc is.0) = is.1 in omega (arith, e)

  -- the node with number 1 is the sequencer
  pub must_decide : (w : Workload) (xs : List (ServerNode V D)) (s : steps.Servers) (x : ServerNode V D) → AreServers w xs s → x ≡ slice_index_or xs 1 x → ((q : Sequencer V D) → x.server ≡ servers.Sequencer q → ⊥) → ⊥
  must_decide w xs s x are at off = only_sequencer x.server s (server_at w xs s 1 x are (second w xs s are) at) off

  -- its controllers can be given back
  pub racked : (say : Says V D) (w : Workload) (q : Sequencer V D) → GoesOn say w (servers.Sequencer q) → deciding.IsRacked say q
  racked say w q g = (g.0 g.2).kept.force.racked

  pub goes_at : (say : Says V D) (w : Workload) (xs : List (ServerNode V D)) (k : ℕ) (x : ServerNode V D) → AllGo say w xs → k < length xs → x ≡ slice_index_or xs k x → Goes say w x
  goes_at say w xs k x go low at = subst (λ y. Goes say w y) (sym at) (go k x low)
