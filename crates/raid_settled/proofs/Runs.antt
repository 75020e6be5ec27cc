-- In every run, copies are cared for.
use Rattle.std.proofs.Common.{◌≡◌, inl, inr, ℕ, zero, suc, ◌+◌, Bool, true, false, not, ◌&&◌, ◌||◌, List, [], ◌∷◌, ◌++◌, Option, Some, None, arith, sym, subst, ap, refl, append-nil, append_assoc}
use Rattle.std.specs.Prelude.{max, slice_get, slice_index}
use Rattle.std.specs.List.{AllByRecursion, list_all}
use Rattle.std.specs.Option.{option_map_or}
use Rattle.std.proofs.lemmas.Bool.{and_from, true≢false}
use Rattle.std.proofs.lemmas.List.Sums.{fold-append}
use Rattle.raid_base.specs.declared.names.Item.{Item}
use Rattle.raid_base.specs.declared.names.Site.{Site}
use Rattle.raid_workload.specs.declared.workload.Workload.{Workload}
use Rattle.raid_workload.specs.Parts.{sites, items}
use Rattle.raid_rules.specs.History.{noted}
use Rattle.raid_rules.specs.Sessions.{is_copy_locked}
use Rattle.raid_legal.specs.Switched.{is_settled}
use Rattle.raid_message.specs.declared.letter.Letter.{Letter}
use Rattle.raid_message.specs.declared.letter.Pick.{Pick}
use Rattle.raid_steps.specs.State.{Sequencer, Copying, SiteState}
use Rattle.raid_steps.specs.Monitor.{hear_monitor}
use Rattle.raid_steps.specs.Site.{hear_site}
use Rattle.raid_steps.specs.World.{World, hear, hear_at, session_of, link, set_link, take_front, pick, run, open_world, is_idle}
use Rattle.raid_sessions.proofs.Lists.{all_weaken, get_below, get_set}
use Rattle.raid_sessions.proofs.Mail.{moved}
use Rattle.raid_sessions.proofs.Reached.{server_below}
use Rattle.raid_layers.proofs.Runs.{nobody}
use Rattle.raid_letters.specs.Says.{is_held}
use Rattle.raid_versions.specs.Versions.{HaveLastVersions}
use Rattle.raid_versions.proofs.Owed.{Known}
use Rattle.raid_versions.proofs.Runs as below
use Rattle.raid_told.specs.Copiers.{CopiersTell}
use Rattle.raid_told.proofs.Runs.{runs_tell}
use Rattle.raid_settled.specs.Settled.{is_cared_for, are_cared_for, UnderWay, CopiesAreCaredFor}
use Rattle.raid_settled.proofs.Hears.{sequencer_cares}
use Rattle.raid_settled.proofs.Idle.{idle_settled}
use Rattle.raid_settled.proofs.Links.{posts_grow, letter_grows, letter_left, IsIts, was_asked, was_brought, was_told}
use Rattle.raid_settled.proofs.SiteWorlds.{site_way}

module _ (w : Workload) where
  -- what the sequencer has, among the sites and links
  abbrev InWorld : Sequencer → List SiteState → List (List (List Letter)) → Type 0
  InWorld sequencer sites links = AllByRecursion (UnderWay w (noted sequencer.history) sites links) sequencer.copying × (are_cared_for w (noted sequencer.history) sequencer.copying ≡ true)

  module _ (state : World) (knows : Known w state) (last : HaveLastVersions state) (speak : CopiersTell w state) (care : CopiesAreCaredFor w state) (from clock : ℕ) (l : Letter) (rest : List Letter) where
    -- the world after the letter was heard, by its servers and links
    abbrev Heard : ℕ → Type 0
    Heard server = InWorld (hear w state.servers server from l).0.sequencer (hear w state.servers server from l).0.sites
        (moved state.links server from (session_of (hear w state.servers server from l).0 server) clock rest (hear w state.servers server from l).1)

    at_site : (k : ℕ) → link state.links (suc (suc k)) from ≡ l ∷ rest → (o : Option SiteState) → slice_get state.servers.sites k ≡ o →
        InWorld (hear_at w state.servers k from l o).0.sequencer (hear_at w state.servers k from l o).0.sites
        (moved state.links (suc (suc k)) from (session_of (hear_at w state.servers k from l o).0 (suc (suc k))) clock rest (hear_at w state.servers k from l o).1)
    at_site k front None none =
        absurd (nobody state.servers.sites k none (let inside = server_below (w.sites + 2) state.links (suc (suc k)) from l rest knows.says.reached.square front in let long = knows.says.reached.long in omega (arith, inside, long)))
    at_site k front (Some own) at =
        let turn = hear_site w own from l in
        let same = ap (λ (o : Option SiteState). option_map_or (λ (s : SiteState). s.session) o 0) (get_set state.servers.sites k turn.state (get_below state.servers.sites k own at)) in
        subst (λ z. InWorld state.servers.sequencer (hear_at w state.servers k from l (Some own)).0.sites (moved state.links (suc (suc k)) from z clock rest turn.outs)) (sym same)
        (all_weaken (UnderWay w (noted state.servers.sequencer.history) state.servers.sites state.links) _ state.servers.sequencer.copying (site_way w state knows last speak from clock l rest k own at front) care.under_way, care.cared_for)

    -- the monitor takes no letter of a copy
    at_monitor : link state.links 0 from ≡ l ∷ rest → Heard 0
    at_monitor front = (all_weaken (UnderWay w (noted state.servers.sequencer.history) state.servers.sites state.links) _ state.servers.sequencer.copying each care.under_way, care.cared_for)
      where
        taken : List (List (List Letter))
        taken = set_link state.links 0 from rest

        not_its : (m n : ℕ) (c : Copying) → IsIts 0 from m n c l → ⊥
        not_its m n c (was_asked e f h) = omega (arith, e)
        not_its m n c (was_brought e f h) = omega (arith, e)
        not_its m n c (was_told e f h) = omega (arith, e)

        each : (c : Copying) → UnderWay w (noted state.servers.sequencer.history) state.servers.sites state.links c → UnderWay w (noted state.servers.sequencer.history) state.servers.sites (moved state.links 0 from 0 clock rest (hear_monitor w state.servers.fired from l).outs) c
        each c way = record {
          stands = way.stands;
          letter = elim (letter_left state.servers.sites state.links 0 from _ _ c l rest front way.letter) [
            | inl left ↦ letter_grows state.servers.sites taken (moved state.links 0 from 0 clock rest (hear_monitor w state.servers.fired from l).outs) _ _ c (posts_grow 0 0 clock (hear_monitor w state.servers.fired from l).outs taken) left
            | inr its ↦ absurd (not_its _ _ c its)
          ];
        }

    heard : (server : ℕ) → link state.links server from ≡ l ∷ rest → Heard server
    heard zero front = at_monitor front
    heard (suc zero) front = sequencer_cares w state knows care from clock l rest front
    heard (suc (suc k)) front = at_site k front (slice_get state.servers.sites k) refl

  front_cared : (state : World) (server from : ℕ) (queue : List Letter) → link state.links server from ≡ queue → Known w state → HaveLastVersions state → CopiersTell w state → CopiesAreCaredFor w state → CopiesAreCaredFor w (take_front w state server from queue)
  front_cared state server from [] q knows last speak care = care
  front_cared state server from (l ∷ rest) q knows last speak care = (let both = heard state knows last speak care from (1 + max (slice_index state.clocks server) l.clock) l rest server q in record { under_way = both.0; cared_for = both.1 })

  -- at the start no copy is locked
  open_cared : CopiesAreCaredFor w (open_world w)
  open_cared = record { under_way = tt; cared_for = all (sites w) }
    where
      held_open : (b : Bool) → (b && false) ≡ false
      held_open true = refl
      held_open false = refl

      loose : (u l z b : Bool) → l ≡ false → ((not u || not l || z) || b) ≡ true
      loose u true z b q = absurd (true≢false q)
      loose true false z b q = refl
      loose false false z b q = refl

      row : (s : Site) (xs : List Item) → list_all (is_cared_for w [] [] s) xs ≡ true
      row s [] = refl
      row s (x ∷ xs) = and_from (is_cared_for w [] [] s x) (list_all (is_cared_for w [] [] s) xs) (loose _ (is_held w s x && is_copy_locked [] s x) _ false (held_open (is_held w s x))) (row s xs)

      all : (ss : List Site) → list_all (λ s. list_all (is_cared_for w [] [] s) (items w)) ss ≡ true
      all [] = refl
      all (s ∷ ss) = and_from (list_all (is_cared_for w [] [] s) (items w)) (list_all (λ s. list_all (is_cared_for w [] [] s) (items w)) ss) (row s (items w)) (all ss)

  step : (schedule : List Pick) (p : Pick) → CopiesAreCaredFor w (run w schedule) → CopiesAreCaredFor w (run w (schedule ++ p ∷ []))
  step schedule p care =
      let s = run w schedule in
      subst (CopiesAreCaredFor w) (sym (fold-append (pick w) (open_world w) schedule (p ∷ [])))
      (front_cared s p.server p.from (link s.links p.server p.from) refl (below.known w schedule) (below.runs_last w schedule) (runs_tell w schedule) care)

  steps : (before more : List Pick) → CopiesAreCaredFor w (run w before) → CopiesAreCaredFor w (run w (before ++ more))
  steps before [] care = subst (λ z. CopiesAreCaredFor w (run w z)) (sym (append-nil before)) care
  steps before (p ∷ more) care = subst (λ z. CopiesAreCaredFor w (run w z)) (append_assoc before (p ∷ []) more) (steps (before ++ p ∷ []) more (step before p care))

  pub runs_cared : (schedule : List Pick) → CopiesAreCaredFor w (run w schedule)
  runs_cared schedule = steps [] schedule open_cared

  pub runs_settled : (schedule : List Pick) → is_idle (run w schedule) ≡ true → list_all (λ s. list_all (is_settled w (noted (run w schedule).servers.sequencer.history) s) (items w)) (sites w) ≡ true
  runs_settled schedule idle = idle_settled w schedule idle (runs_cared schedule)
