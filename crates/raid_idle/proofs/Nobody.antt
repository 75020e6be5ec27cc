-- Where no letter is left nobody runs: who does is at home, is answered all that it asked, and so waits for others that run. So none does.
use Rattle.std.proofs.Common.{◌≡◌, inl, inr, ℕ, ◌+◌, ◌-◌, ◌<◌, ◌≤◌, nat_lt, Bool, true, false, not, List, [], ◌∷◌, Some, if◌then◌else◌, arith, sym, subst, ap, ◌∙◌, refl}
use Rattle.std.specs.Prelude.{slice_get, find}
use Rattle.std.specs.List.{list_any}
use Rattle.std.proofs.lemmas.Bool.{and_parts, true≢false}
use Rattle.raid_base.specs.declared.names.Txn.{Txn}
use Rattle.raid_base.specs.declared.entry.Noted.{Noted}
use Rattle.raid_base.specs.Names.{is_site, is_txn}
use Rattle.raid_base.specs.Sites.{session, site}
use Rattle.raid_workload.specs.declared.workload.Workload.{Workload}
use Rattle.raid_workload.specs.Parts.{home}
use Rattle.raid_rules.specs.History.{noted, has_begun, has_ended, is_running, is_waiting}
use Rattle.raid_legal.specs.Seen.{vector, running, is_up}
use Rattle.raid_message.specs.declared.letter.Pick.{Pick}
use Rattle.raid_steps.specs.State.{Phase, asking, preparing, sent, Running, SiteState}
use Rattle.raid_steps.specs.Programs.{running_of}
use Rattle.raid_steps.specs.World.{run, link, is_idle}
use Rattle.raid_placed.proofs.Orderly.{placed_known}
use Rattle.raid_record.proofs.Rules.{home_is_site}
use Rattle.raid_sessions.specs.Present.{told_session, last_told, own_session}
use Rattle.raid_sessions.proofs.Agreed.{run_idle}
use Rattle.raid_sessions.proofs.Ledger.{AccountAt}
use Rattle.raid_sessions.proofs.Lists.{get_known, same_self, some_is}
use Rattle.raid_sessions.proofs.Reached.{reached}
use Rattle.raid_steps.proofs.Parts.{number_known}
use Rattle.raid_untrapped.proofs.Free.{all_wait_none}
use Rattle.raid_vectors.specs.Vectors.{IsTold}
use Rattle.raid_vectors.proofs.Runs.{idle_link}
use Rattle.raid_layers.specs.Asks.{asks_of}
use Rattle.raid_moves.specs.Moves.{is_preparing}
use Rattle.raid_asks.proofs.Facts.{or_left, or_right}
use Rattle.raid_answered.specs.Answered.{IsAnswered}
use Rattle.raid_answered.proofs.Runs.{runs_answer}
use Rattle.raid_votes.proofs.Runs.{idle_none}
use Rattle.raid_grants.proofs.Idle.{idle_grants}
use Rattle.raid_witness.specs.AtHome.{IsAwake}
use Rattle.raid_witness.proofs.Runs.{runs_home}

module _ (w : Workload) (schedule : List Pick) (idle : is_idle (run w schedule) ≡ true) where
  abbrev p : List Noted
  p = noted (run w schedule).servers.sequencer.history

  -- a site that the history has up is awake
  pub awake_at : (k : ℕ) → k < w.sites → 1 ≤ session (vector w p) (site (k + 1)) → (s : SiteState) → slice_get (run w schedule).servers.sites k ≡ Some s → IsAwake (run w schedule) k s × IsTold w p k s
  awake_at k low some s at = go s.up refl
    where
      agrees : told_session w (run w schedule) k ≡ own_session s
      agrees = run_idle w schedule idle k s at

      account : AccountAt w p (site (k + 1))
      account = (reached w schedule).ledger.accounts (site (k + 1)) (number_known w k (omega (arith, low)))

      last_is : told_session w (run w schedule) k ≡ last_told (run w schedule) k
      last_is = elim account.gone [ inl none ↦ absurd (let down = none.0 in omega (arith, down, some)) | inr up ↦ up.0 ]

      go : (b : Bool) → s.up ≡ b → IsAwake (run w schedule) k s × IsTold w p k s
      go false down = absurd (let none : told_session w (run w schedule) k ≡ 0 = agrees ∙ ap (λ b. if b then s.session else 0) down in omega (arith, none, some))
      go true up = (record { at = at; up = up; last = sym last_is ∙ told }, record { up = up; told = told })
        where
          told : told_session w (run w schedule) k ≡ s.session
          told = agrees ∙ ap (λ b. if b then s.session else 0) up

  -- of whom nothing is asked, and who neither reads nor prepares
  unasked : (k : ℕ) (t : Txn) → asks_of t (link (run w schedule).links 1 (k + 2)) ≡ []
  unasked k t = ap (asks_of t) (idle_link (run w schedule) 1 (k + 2) idle)

  found_any : (test : Txn → Bool) (g : Running → Bool) (rs : List Running) (r : Running) → find (λ (r : Running). test r.txn) rs ≡ Some r → g r ≡ true → list_any g rs ≡ true
  found_any test g [] r found q = absurd (cc found)
  found_any test g (x ∷ xs) r found q = go (test x.txn) found (found_any test g xs r)
    where
      go : (b : Bool) → (if b then Some x else find (λ (r : Running). test r.txn) xs) ≡ Some r → (find (λ (r : Running). test r.txn) xs ≡ Some r → g r ≡ true → list_any g xs ≡ true) → list_any g (x ∷ xs) ≡ true
      go true is rest = or_left (g x) (list_any g xs) (ap g (some_is x r is) ∙ q)
      go false is rest = or_right (g x) (list_any g xs) (rest is q)

  its_phase : (k : ℕ) (s : SiteState) → IsAwake (run w schedule) k s → (t : Txn) (r : Running) → running_of s t ≡ Some r → has_ended p t ≡ false → (phase : Phase) → r.phase ≡ phase → is_waiting p t ≡ true
  its_phase k s awake t r here alive (asking ask x by) q =
      absurd (idle_grants w schedule idle k s awake t r here ask x by q alive (subst (IsAnswered p t) q (runs_answer w schedule k s awake t r here alive (unasked k t))))
  its_phase k s awake t r here alive (preparing reads writes awaited) q =
      absurd (true≢false (sym (found_any (is_txn t) (λ (r : Running). is_preparing r.phase) s.running r here (ap is_preparing q)) ∙ idle_none w schedule idle k s awake.at))
  its_phase k s awake t r here alive sent q = subst (IsAnswered p t) q (runs_answer w schedule k s awake t r here alive (unasked k t))

  all_wait : (t : Txn) → is_running p t ≡ true → is_waiting p t ≡ true
  all_wait t runs = its_phase ((home w t).0 - 1) own.0 here.0 t program.0 program.1 alive program.0.phase refl
    where
      parts : (has_begun p t ≡ true) × (not (has_ended p t) ≡ true)
      parts = and_parts (has_begun p t) (not (has_ended p t)) runs

      alive : has_ended p t ≡ false
      alive = go (has_ended p t) parts.1
        where
          go : (b : Bool) → not b ≡ true → b ≡ false
          go false q = refl
          go true q = sym q

      least : 1 ≤ (home w t).0
      least = (home_is_site w t (placed_known w (run w schedule).servers.sequencer.history (reached w schedule).placed t parts.0)).least

      most : (home w t).0 ≤ w.sites
      most = (home_is_site w t (placed_known w (run w schedule).servers.sequencer.history (reached w schedule).placed t parts.0)).most

      back : site ((home w t).0 - 1 + 1) ≡ home w t
      back = ap site (let e : (home w t).0 - 1 + 1 ≡ (home w t).0 = omega (arith, least) in e)

      lt_is : (a b : ℕ) → nat_lt a b ≡ true → a < b
      lt_is a b q = grind (arith, q)

      up : 1 ≤ session (vector w p) (site ((home w t).0 - 1 + 1))
      up = lt_is 0 (session (vector w p) (site ((home w t).0 - 1 + 1))) (subst (λ s. is_up w p s ≡ true) (sym back) ((runs_home w schedule).up t runs))

      own : (o : SiteState) × (slice_get (run w schedule).servers.sites ((home w t).0 - 1) ≡ Some o)
      own = get_known (run w schedule).servers.sites ((home w t).0 - 1) (let long = (reached w schedule).long in omega (arith, least, most, long))

      here : IsAwake (run w schedule) ((home w t).0 - 1) own.0 × IsTold w p ((home w t).0 - 1) own.0
      here = awake_at ((home w t).0 - 1) (omega (arith, least, most)) up own.0 own.1

      program : (r : Running) × (running_of own.0 t ≡ Some r)
      program = (runs_home w schedule).runs ((home w t).0 - 1) own.0 here.0 t runs (subst (λ s. is_site s (home w t) ≡ true) (sym back) (same_self (home w t).0))

  pub nobody_runs : running w p ≡ []
  nobody_runs = all_wait_none w (run w schedule).servers.sequencer.history (reached w schedule).placed (reached w schedule).quiet all_wait
