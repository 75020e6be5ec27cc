-- Where sites and history agree on the sessions.
use Rattle.std.proofs.Common.{◌≡◌, ◌≢◌, inl, inr, ℕ, zero, suc, ◌+◌, ◌-◌, ◌<◌, ◌≤◌, ◌==◌, nat_lt, Bool, true, false, List, [], ◌∷◌, ◌++◌, length, Some, if◌then◌else◌, arith, sym, subst, ap, ◌∙◌, refl, append-nil}
use Rattle.std.specs.Prelude.{slice_get, slice_index, slice_index_or}
use Rattle.std.specs.List.{AllByRecursion, list_all}
use Rattle.std.proofs.lemmas.Bool.{and_parts, eqb-true}
use Rattle.raid_base.specs.Sites.{site}
use Rattle.raid_workload.specs.declared.workload.Workload.{Workload}
use Rattle.raid_rules.specs.History.{noted}
use Rattle.raid_message.specs.declared.letter.Letter.{Letter}
use Rattle.raid_message.specs.declared.letter.Pick.{Pick}
use Rattle.raid_steps.specs.State.{SiteState}
use Rattle.raid_steps.specs.Table.{is_farewell}
use Rattle.raid_steps.specs.Sequencer.{is_hello}
use Rattle.raid_steps.specs.World.{World, link, run, is_idle}
use Rattle.raid_steps.proofs.Parts.{number_known}
use Rattle.raid_sessions.specs.Present.{told_session, last_told, own_session}
use Rattle.raid_sessions.proofs.Holds.{last_of, IsHeard, IsSpoken, LivesIn}
use Rattle.raid_sessions.proofs.Ledger.{AccountAt}
use Rattle.raid_sessions.proofs.Lists.{get_below, all_weaken}
use Rattle.raid_sessions.proofs.Reached.{no_link, Reached, reached}
use Rattle.raid_sessions.proofs.Sessions.{Chain, chain_le, said, news, ended, Sent}

-- an empty link
no_length : (ls : List Letter) → (length ls == 0) ≡ true → ls ≡ []
no_length [] q = refl
no_length (l ∷ ls) q = absurd (let e = eqb-true (length (l ∷ ls)) 0 q in omega (arith, e))

idle_at : {X : Type 0} (p : X → Bool) (xs : List X) (k : ℕ) (d : X) → list_all p xs ≡ true → p d ≡ true → p (slice_index_or xs k d) ≡ true
idle_at p [] k d all q = q
idle_at p (x ∷ xs) zero d all q = (and_parts (p x) (list_all p xs) all).0
idle_at p (x ∷ xs) (suc k) d all q = idle_at p xs k d (and_parts (p x) (list_all p xs) all).1 q

idle_link : (state : World) (server from : ℕ) → is_idle state ≡ true → link state.links server from ≡ []
idle_link state server from idle =
    no_length (link state.links server from)
    (idle_at (λ (queue : List Letter). length queue == 0) (slice_index_or state.links server []) from []
    (idle_at (λ (row : List (List Letter)). list_all (λ (queue : List Letter). length queue == 0) row) state.links server [] idle refl) refl)

module _ (w : Workload) (state : World) (holds : Reached w state) (k : ℕ) (s : SiteState) (here : slice_get state.servers.sites k ≡ Some s) where
  mine : LivesIn w state.servers.fired state.servers.sequencer.history state.servers.sequencer.announced state.links k s
  mine = holds.each k s here

  below : k < w.sites
  below = (let q = get_below state.servers.sites k s here in let l = holds.long in omega (arith, q, l))

  account : AccountAt w (noted state.servers.sequencer.history) (site (k + 1))
  account = holds.ledger.accounts (site (k + 1)) (number_known w k (omega (arith, below)))

  -- the history follows the site
  pub told_follows : last_told state k ≤ s.session
  told_follows = chain_le (last_told state k) (said is_hello (link state.links 1 (k + 2))) s.session mine.opened

  ended_up : s.up ≡ true → ended s.up s.session ≡ s.session - 1
  ended_up up = ap (λ u. ended u s.session) up

  -- a site that is up in the last session told is up in the vector
  pub told_up : s.up ≡ true → last_told state k ≡ s.session → told_session w state k ≡ s.session
  told_up up same =
      elim account.gone [
        | inl q ↦ absurd (let over = mine.fallen q.0 in let first = account.first in let e = ended_up up in omega (arith, over, first, e, same))
        | inr q ↦ q.0 ∙ same
      ]

  heard_one : (n : ℕ) → n ≤ last_told state k → s.up ≡ true → n ≡ s.session → told_session w state k ≡ s.session
  heard_one n most up to = told_up up (let follows = told_follows in omega (arith, most, follows, to))

  abbrev IsPresent : Letter → Type 0
  IsPresent l = s.up ≡ true → l.to ≡ s.session → told_session w state k ≡ s.session

  -- a letter of the sequencer or of a site that the site may hear
  pub heard_present : (from : ℕ) → from ≢ 0 → AllByRecursion (λ (l : Letter). s.up ≡ true → l.to ≡ s.session → told_session w state k ≡ s.session) (link state.links (k + 2) from)
  heard_present zero some = absurd (some refl)
  heard_present (suc zero) some = all_weaken (IsHeard w (last_of state.servers.sequencer.history) k) IsPresent (link state.links (k + 2) 1) (λ l q up to. heard_one l.to q.0 up to) (holds.heard k below)
  heard_present (suc (suc j)) some = go (nat_lt j w.sites) refl
    where
      lt_is : (a b : ℕ) → nat_lt a b ≡ true → a < b
      lt_is a b q = grind (arith, q)

      lt_or : (a b : ℕ) → nat_lt a b ≡ false → b ≤ a
      lt_or a b q = grind (arith, q)

      go : (b : Bool) → nat_lt j w.sites ≡ b → AllByRecursion (λ (l : Letter). s.up ≡ true → l.to ≡ s.session → told_session w state k ≡ s.session) (link state.links (k + 2) (suc (suc j)))
      go true q =
          subst (λ c. AllByRecursion IsPresent (link state.links (k + 2) c)) (omega arith)
          (all_weaken (IsSpoken w (last_of state.servers.sequencer.history) k j) IsPresent (link state.links (k + 2) (j + 2)) (λ l q up to. heard_one l.to q.0 up to) (holds.spoken k j below (lt_is j w.sites q)))
      go false q =
          subst (AllByRecursion IsPresent) (sym (no_link (w.sites + 2) state.links (k + 2) (suc (suc j)) holds.square (let beyond = lt_or j w.sites q in omega (arith, beyond)))) tt

  -- the front letter of the site to the sequencer
  pub front_asked : (l : Letter) (rest : List Letter) → link state.links 1 (k + 2) ≡ l ∷ rest → l.from ≡ (if is_hello l.message then last_told state k + 1 else last_told state k)
  front_asked l rest front =
      go (is_hello l.message) refl (subst (λ ls. Chain (last_told state k) (said is_hello ls) s.session) front mine.opened) (subst (Sent (last_told state k)) front mine.sent)
    where
      go : (b : Bool) → is_hello l.message ≡ b → Chain (last_told state k) (said is_hello (l ∷ rest)) s.session → Sent (last_told state k) (l ∷ rest) → l.from ≡ (if is_hello l.message then last_told state k + 1 else last_told state k)
      go true q c f = (subst (λ b. Chain (last_told state k) (if b then l.from ∷ said is_hello rest else said is_hello rest) s.session) q c).0 ∙ ap (λ b. if b then last_told state k + 1 else last_told state k) (sym q)
      go false q c f = (f.1 q).0 ∙ ap (λ b. if b then last_told state k + 1 else last_told state k) (sym q)

  -- where nothing is on its way
  module _ (idle : is_idle state ≡ true) where
    abbrev heard : ℕ
    heard = slice_index state.servers.sequencer.announced ((site (k + 1)).0 - 1)

    all_opened : last_told state k ≡ s.session
    all_opened = subst (λ ls. Chain (last_told state k) (said is_hello ls) s.session) (idle_link state 1 (k + 2) idle) mine.opened

    all_closed : heard ≡ ended s.up s.session
    all_closed =
        subst (λ ls. Chain heard (news (site (k + 1)) ls) (ended s.up s.session)) (idle_link state 1 0 idle)
        (subst (λ xs. Chain heard xs (ended s.up s.session)) (nothing (news (site (k + 1)) (link state.links 1 0)) (idle_link state 0 (k + 2) idle)) mine.closed)
      where
        nothing : (xs : List ℕ) → link state.links 0 (k + 2) ≡ [] → xs ++ said is_farewell (link state.links 0 (k + 2)) ≡ xs
        nothing xs q = ap (λ ls. xs ++ said is_farewell ls) q ∙ append-nil xs

    pub idle_session : told_session w state k ≡ own_session s
    idle_session = go s.up refl
      where
        go : (u : Bool) → s.up ≡ u → told_session w state k ≡ (if u then s.session else 0)
        go true up = told_up up all_opened
        go false down =
            elim account.gone [
              | inl q ↦ q.0
              | inr q ↦ absurd (let e : ended s.up s.session ≡ s.session = ap (λ u. ended u s.session) down in let first = account.first in let opened = all_opened in let closed = all_closed in let session_is = q.0 in let more = mine.ahead (omega (arith, session_is, first)) in omega (arith, more, session_is, opened, closed, e))
            ]

pub run_follows : (w : Workload) (schedule : List Pick) (k : ℕ) (s : SiteState) → slice_get (run w schedule).servers.sites k ≡ Some s → last_told (run w schedule) k ≤ s.session
run_follows w schedule k s here = told_follows w (run w schedule) (reached w schedule) k s here

pub run_present : (w : Workload) (schedule : List Pick) (k from : ℕ) (s : SiteState) → from ≢ 0 → slice_get (run w schedule).servers.sites k ≡ Some s →
    AllByRecursion (λ (l : Letter). s.up ≡ true → l.to ≡ s.session → told_session w (run w schedule) k ≡ s.session) (link (run w schedule).links (k + 2) from)
run_present w schedule k from s some here = heard_present w (run w schedule) (reached w schedule) k s here from some

pub run_idle : (w : Workload) (schedule : List Pick) → is_idle (run w schedule) ≡ true → (k : ℕ) (s : SiteState) → slice_get (run w schedule).servers.sites k ≡ Some s → told_session w (run w schedule) k ≡ own_session s
run_idle w schedule idle k s here = idle_session w (run w schedule) (reached w schedule) k s here idle

pub run_asked : (w : Workload) (schedule : List Pick) (k : ℕ) (s : SiteState) (l : Letter) (rest : List Letter) → slice_get (run w schedule).servers.sites k ≡ Some s → link (run w schedule).links 1 (k + 2) ≡ l ∷ rest →
    l.from ≡ (if is_hello l.message then last_told (run w schedule) k + 1 else last_told (run w schedule) k)
run_asked w schedule k s l rest here front = front_asked w (run w schedule) (reached w schedule) k s here l rest front
