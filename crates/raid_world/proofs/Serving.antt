-- The servers at the start, and after one of them has taken a letter.
use Rattle.std.proofs.Common.{◌≡◌, ◌≢◌, ◌⊎◌, inl, inr, ℕ, zero, suc, ◌+◌, ◌<◌, ◌≤◌, ◌==◌, Bool, true, false, List, [], ◌∷◌, ◌++◌, length, map, Some, if◌then◌else◌, arith, sym, ap, subst, ◌∙◌, refl}
use Rattle.std.specs.Prelude.{slice_get, slice_set, Result, Ok, Err, OnOk, IfOk}
use Rattle.std.specs.List.{All}
use Rattle.std.specs.Option.{option_map_or}
use Rattle.std.proofs.lemmas.List.Elements.{All-set, All-push, All-head, All-tail}
use Rattle.std.proofs.lemmas.List.{map-append}
use Rattle.raid_base.specs.declared.names.NoMemory.{NoMemory}
use Rattle.raid_base.specs.Sites.{site}
use Rattle.raid_workload.specs.declared.workload.Workload.{Workload}
use Rattle.raid_workload.specs.Parts.{count_from}
use Rattle.raid_message.specs.declared.letter.Letter.{Letter}
use Rattle.raid_steps.specs.State.{Out, Turn, SiteState}
use Rattle.raid_steps.specs.State as states
use Rattle.raid_steps.specs.Site.{hear_site}
use Rattle.raid_steps.specs.Sequencer.{hear_sequencer}
use Rattle.raid_steps.specs.World as steps
use Rattle.raid_steps.specs.World.{hear, hear_at, session_of, first_site, first_servers}
use Rattle.raid_site.specs.declared.server.SiteServer.{SiteServer}
use Rattle.raid_site.specs.Server as serving
use Rattle.raid_boxed.specs.Boxed.{Says}
use Rattle.raid_sequencer.specs.Runs as deciding
use Rattle.raid_world.specs.declared.servers.Servers.{Servers}
use Rattle.raid_world.specs.Stands.{Are, Go, GoesOn, AreFirst, NoneHeard, heard}
use Rattle.raid_world.proofs.Shape.{same_or_not, get_other, get_set, length_set, map_set, map_get, map_length}

pub count_push : (a n : ℕ) → count_from a (suc n) ≡ count_from a n ++ (a + n) ∷ []
count_push a zero = let e : a ≡ a + 0 = omega arith in ap (λ k. k ∷ []) e
count_push a (suc n) = let e : a + 1 + n ≡ a + suc n = omega arith in ap (λ ks. a ∷ ks) (count_push (a + 1) n ∙ ap (λ k. count_from (a + 1) n ++ k ∷ []) e)

pub count_length : (a n : ℕ) → length (count_from a n) ≡ n
count_length a zero = refl
count_length a (suc n) = ap suc (count_length (a + 1) n)

site_states : (w : Workload) (n : ℕ) → map (first_site w) (map site (count_from 1 (n + 1))) ≡ map (first_site w) (map site (count_from 1 n)) ++ first_site w (site (n + 1)) ∷ []
site_states w n =
    let e : n + 1 ≡ suc n = omega arith in
    let f : 1 + n ≡ n + 1 = omega arith in
    ap (λ k. map (first_site w) (map site (count_from 1 k))) e ∙ ap (λ ks. map (first_site w) (map site ks)) (count_push 1 n)
    ∙ ap (map (first_site w)) (map-append site (count_from 1 n) ((1 + n) ∷ [])) ∙ map-append (first_site w) (map site (count_from 1 n)) (site (1 + n) ∷ [])
    ∙ ap (λ k. map (first_site w) (map site (count_from 1 n)) ++ first_site w (site k) ∷ []) f

-- one site more stands
pub first_more : (w : Workload) (n : ℕ) (sites : List SiteServer) (new : SiteServer) → AreFirst w n sites → serving.state_of new ≡ first_site w (site (n + 1)) →
    serving.IsRun w new → serving.is_finished new ≡ false → serving.heard new ≡ 0 → AreFirst w (n + 1) (sites ++ new ∷ [])
first_more w n sites new are state run live none = record {
  states = map-append serving.state_of sites (new ∷ []) ∙ ap (λ ss. ss ++ serving.state_of new ∷ []) are.states ∙ ap (λ s. map (first_site w) (map site (count_from 1 n)) ++ s ∷ []) state ∙ sym (site_states w n);
  go = All-push (GoesOn w) sites new are.go (record { run = run; live = live });
  heard = All-push (λ server. serving.heard server ≡ 0) sites new are.heard none;
}

none_heard : (sites : List SiteServer) (k : ℕ) → All (λ server. serving.heard server ≡ 0) sites → option_map_or serving.heard (slice_get sites k) 0 ≡ 0
none_heard [] k all = refl
none_heard (x ∷ xs) zero all = All-head (λ server. serving.heard server ≡ 0) x xs all
none_heard (x ∷ xs) (suc k) all = none_heard xs k (All-tail (λ server. serving.heard server ≡ 0) x xs all)

-- a number that may be one more
pub may_be_more : (b : Bool) (n : ℕ) → n ≤ (if b then n + 1 else n)
may_be_more true n = omega arith
may_be_more false n = omega arith

same_number : (a b : ℕ) → a ≡ b → (a == b) ≡ true
same_number a b q = grind (arith, q)

counts_by : (after before : ℕ → ℕ) (server : ℕ) → ((j : ℕ) → j ≢ server → after j ≡ before j) → after server ≡ before server + 1 →
    (j : ℕ) → after j ≤ (if j == server then before j + 1 else before j)
counts_by after before server there here j = go (same_or_not j server)
  where
    go : (j ≡ server) ⊎ (j ≢ server) → after j ≤ (if j == server then before j + 1 else before j)
    go (inl q) =
        let is : after j ≡ before j + 1 = subst (λ n. after n ≡ before n + 1) (sym q) here in
        subst (λ b. after j ≤ (if b then before j + 1 else before j)) (sym (same_number j server q)) (omega (arith, is))
    go (inr q) =
        let is : after j ≡ before j = there j q in
        let more = may_be_more (j == server) (before j) in
        omega (arith, is, more)

module _ {V : Type 0} {D : V → Type 0} where
  pub go_first : (say : Says V D) (w : Workload) (servers : Servers V D) → deciding.Runs say servers.sequencer → deciding.workload_of servers.sequencer ≡ w →
      deciding.is_finished servers.sequencer ≡ false → deciding.Tells servers.sequencer (first_servers w).sequencer → AreFirst w w.sites servers.sites.items → Go say w servers
  go_first say w servers runs workload live tells are = record {
    sequencer = runs;
    workload = workload;
    live = live;
    state = (first_servers w).sequencer;
    tells = tells;
    count = sym (map_length serving.state_of servers.sites.items) ∙ ap length are.states ∙ map_length (first_site w) (map site (count_from 1 w.sites)) ∙ map_length site (count_from 1 w.sites) ∙ count_length 1 w.sites;
    sites = are.go;
  }

  pub none_first : (w : Workload) (servers : Servers V D) → deciding.heard servers.sequencer ≡ 0 → AreFirst w w.sites servers.sites.items → NoneHeard servers
  none_first w servers none are = record { none = go }
    where
      go : (k : ℕ) → heard servers k ≡ 0
      go zero = refl
      go (suc zero) = none
      go (suc (suc k)) = none_heard servers.sites.items k are.heard

  -- the sequencer's step
  pub sequencer_goes : (say : Says V D) (w : Workload) (servers after : Servers V D) (from : ℕ) (letter : Letter) (r : Result (List Out) NoMemory) → Go say w servers →
      OnOk r ((s : states.Sequencer) → deciding.Tells servers.sequencer s → deciding.Tells after.sequencer (hear_sequencer (deciding.workload_of servers.sequencer) s from letter).state) →
      deciding.Runs say after.sequencer → deciding.workload_of after.sequencer ≡ deciding.workload_of servers.sequencer → OnOk r (deciding.is_finished after.sequencer ≡ false) →
      after.sites.items ≡ servers.sites.items → OnOk r (Go say w after)
  sequencer_goes say w servers after from letter (Err e) g tells runs workload live sites = tt
  sequencer_goes say w servers after from letter (Ok outs) g tells runs workload live sites = record {
    sequencer = runs;
    workload = workload ∙ g.workload;
    live = live;
    state = (hear_sequencer (deciding.workload_of servers.sequencer) g.state from letter).state;
    tells = tells g.state g.tells;
    count = ap length sites ∙ g.count;
    sites = subst (All (GoesOn w)) (sym sites) g.sites;
  }

  -- none has heard more
  pub no_more : (servers after : Servers V D) (server : ℕ) (r : Result (List Out) NoMemory) → OnOk r ((k : ℕ) → heard after k ≤ heard servers k) →
      OnOk r ((k : ℕ) → heard after k ≤ (if k == server then heard servers k + 1 else heard servers k))
  no_more servers after server (Err e) h = tt
  no_more servers after server (Ok outs) h = λ k. let less : heard after k ≤ heard servers k = h k in let more = may_be_more (k == server) (heard servers k) in omega (arith, less, more)

  pub session_is : (servers : Servers V D) (server k : ℕ) → server ≡ suc (suc k) → (here : SiteServer) → slice_get servers.sites.items k ≡ Some here → (s : steps.Servers) → Are servers s →
      (serving.state_of here).session ≡ session_of s server
  session_is servers server k number here at s are =
      sym (ap (session_of s) number ∙ ap (λ o. option_map_or (λ (state : SiteState). state.session) o 0) (ap (λ ss. slice_get ss k) (sym are.sites) ∙ map_get serving.state_of servers.sites.items k here at))

  -- the step of a site, by its place
  module _ (w : Workload) (servers after : Servers V D) (server k : ℕ) (number : server ≡ suc (suc k)) (before new : SiteServer) (at : slice_get servers.sites.items k ≡ Some before) where
    abbrev pub turn_of : List Out → Turn SiteState
    turn_of outs = record { state = serving.state_of new; outs = outs }

    hear_is : (s : steps.Servers) (from : ℕ) (letter : Letter) → Are servers s →
        hear w s server from letter ≡ (record s { sites = slice_set s.sites k (hear_site w (serving.state_of before) from letter).state }, (hear_site w (serving.state_of before) from letter).outs)
    hear_is s from letter are =
        ap (λ n. hear w s n from letter) number
        ∙ ap (hear_at w s k from letter) (ap (λ ss. slice_get ss k) (sym are.sites) ∙ map_get serving.state_of servers.sites.items k before at)

    pub site_outs : (from : ℕ) (letter : Letter) (r : Result (List Out) NoMemory) → IfOk r (λ outs. turn_of outs ≡ hear_site w (serving.state_of before) from letter) →
        IfOk r (λ outs. (s : steps.Servers) → Are servers s → outs ≡ (hear w s server from letter).1)
    site_outs from letter (Err e) q = tt
    site_outs from letter (Ok outs) q = λ s are. ap (λ (t : Turn SiteState). t.outs) q ∙ ap (λ (h : steps.Servers × List Out). h.1) (sym (hear_is s from letter are))

    module _ (monitor : after.monitor ≡ servers.monitor) (sequencer : after.sequencer ≡ servers.sequencer) (sites : after.sites.items ≡ slice_set servers.sites.items k new) where
      pub site_state : (from : ℕ) (letter : Letter) (r : Result (List Out) NoMemory) → IfOk r (λ outs. turn_of outs ≡ hear_site w (serving.state_of before) from letter) →
          OnOk r ((s : steps.Servers) → Are servers s → Are after (hear w s server from letter).0)
      site_state from letter (Err e) q = tt
      site_state from letter (Ok outs) q = λ s are.
          subst (λ (h : steps.Servers × List Out). Are after h.0) (sym (hear_is s from letter are)) (record {
            monitor = monitor ∙ are.monitor;
            sequencer = subst (λ z. deciding.Tells z s.sequencer) (sym sequencer) are.sequencer;
            sites = ap (map serving.state_of) sites ∙ map_set serving.state_of servers.sites.items k new
                ∙ ap (λ ss. slice_set ss k (serving.state_of new)) are.sites ∙ ap (λ (t : Turn SiteState). slice_set s.sites k t.state) q;
          })

      pub site_goes : (say : Says V D) (r : Result (List Out) NoMemory) → Go say w servers → serving.IsRun w new → OnOk r (serving.is_finished new ≡ false) → OnOk r (Go say w after)
      site_goes say (Err e) g run live = tt
      site_goes say (Ok outs) g run live = record {
        sequencer = subst (deciding.Runs say) (sym sequencer) g.sequencer;
        workload = ap deciding.workload_of sequencer ∙ g.workload;
        live = ap deciding.is_finished sequencer ∙ g.live;
        state = g.state;
        tells = subst (λ z. deciding.Tells z g.state) (sym sequencer) g.tells;
        count = ap length sites ∙ length_set servers.sites.items k new ∙ g.count;
        sites = subst (All (GoesOn w)) (sym sites) (All-set (GoesOn w) servers.sites.items k new (record { run = run; live = live }) g.sites);
      }

      pub site_counts : (r : Result (List Out) NoMemory) → k < length servers.sites.items → OnOk r (serving.heard new ≡ serving.heard before + 1) →
          OnOk r ((j : ℕ) → heard after j ≤ (if j == server then heard servers j + 1 else heard servers j))
      site_counts (Err e) below one = tt
      site_counts (Ok outs) below one = counts_by (heard after) (heard servers) server there (subst (λ n. heard after n ≡ heard servers n + 1) (sym number) here)
        where
          here : heard after (suc (suc k)) ≡ heard servers (suc (suc k)) + 1
          here = ap (λ xs. option_map_or serving.heard (slice_get xs k) 0) sites ∙ ap (λ o. option_map_or serving.heard o 0) (get_set servers.sites.items k new below) ∙ one
              ∙ ap (λ o. option_map_or serving.heard o 0 + 1) (sym at)

          there : (j : ℕ) → j ≢ server → heard after j ≡ heard servers j
          there zero differ = refl
          there (suc zero) differ = ap deciding.heard sequencer
          there (suc (suc i)) differ =
              ap (λ xs. option_map_or serving.heard (slice_get xs i) 0) sites
              ∙ ap (λ o. option_map_or serving.heard o 0) (get_other servers.sites.items k i new (λ q. differ (ap (λ n. suc (suc n)) q ∙ sym number)))
