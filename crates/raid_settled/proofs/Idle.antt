-- Where no letter is left nothing is under way, so what is cared for is settled.
use Rattle.std.proofs.Common.{◌≡◌, ℕ, zero, suc, ◌+◌, ◌-◌, ◌≤◌, ◌==◌, Bool, true, false, ◌||◌, List, [], ◌∷◌, length, Some, if◌then◌else◌, arith, sym, subst, ap, ◌∙◌, refl}
use Rattle.std.specs.Prelude.{slice_get, slice_index_or}
use Rattle.std.specs.List.{AllByRecursion, list_any, list_all}
use Rattle.std.proofs.lemmas.Bool.{and_parts, and_from, eqb-true, true≢false}
use Rattle.raid_base.specs.declared.names.Site.{Site}
use Rattle.raid_base.specs.declared.entry.Noted.{Noted}
use Rattle.raid_base.specs.Sites.{session, site}
use Rattle.raid_workload.specs.declared.workload.Workload.{Workload}
use Rattle.raid_workload.specs.Parts.{sites, items}
use Rattle.raid_rules.specs.History.{noted}
use Rattle.raid_legal.specs.Seen.{vector}
use Rattle.raid_legal.specs.Switched.{is_settled}
use Rattle.raid_message.specs.declared.letter.Letter.{Letter}
use Rattle.raid_message.specs.declared.letter.Pick.{Pick}
use Rattle.raid_steps.specs.State.{Copying, SiteState}
use Rattle.raid_steps.specs.Fits.{knows_site}
use Rattle.raid_steps.specs.World.{link, run, is_idle}
use Rattle.raid_sessions.specs.Present.{own_session}
use Rattle.raid_sessions.proofs.Agreed.{run_idle}
use Rattle.raid_sessions.proofs.Lists.{get_known, within}
use Rattle.raid_sessions.proofs.Reached.{reached}
use Rattle.raid_witness.specs.Ended.{HasEnded}
use Rattle.raid_settled.specs.Settled.{asks_copy, brings_copy, tells_copy, HasLetter, asked, brought, told, source_ended, target_ended, UnderWay, is_cared_for, CopiesAreCaredFor}

-- an empty link, at each place
idle_at : {X : Type 0} (p : X → Bool) (xs : List X) (k : ℕ) (d : X) → list_all p xs ≡ true → p d ≡ true → p (slice_index_or xs k d) ≡ true
idle_at p [] k d all q = q
idle_at p (x ∷ xs) zero d all q = (and_parts (p x) (list_all p xs) all).0
idle_at p (x ∷ xs) (suc k) d all q = idle_at p xs k d (and_parts (p x) (list_all p xs) all).1 q

no_letter : (test : Letter → Bool) (queue : List Letter) → (length queue == 0) ≡ true → list_any test queue ≡ true → ⊥
no_letter test [] none h = true≢false (sym h)
no_letter test (l ∷ ls) none h = (let e = eqb-true (length (l ∷ ls)) 0 none in omega (arith, e))

pub all_on : {X : Type 0} (p q : X → Bool) (xs : List X) → ((x : X) → p x ≡ true → q x ≡ true) → list_all p xs ≡ true → list_all q xs ≡ true
all_on p q [] each all = refl
all_on p q (x ∷ xs) each all = (let both = and_parts (p x) (list_all p xs) all in and_from (q x) (list_all q xs) (each x both.0) (all_on p q xs each both.1))

module _ (w : Workload) (schedule : List Pick) (idle : is_idle (run w schedule) ≡ true) where
  abbrev p : List Noted
  p = noted (run w schedule).servers.sequencer.history

  nothing : (test : Letter → Bool) (server from : ℕ) → list_any test (link (run w schedule).links server from) ≡ true → ⊥
  nothing test server from h =
      no_letter test (link (run w schedule).links server from)
      (idle_at (λ (queue : List Letter). length queue == 0) (slice_index_or (run w schedule).links server []) from []
      (idle_at (λ (row : List (List Letter)). list_all (λ (queue : List Letter). length queue == 0) row) (run w schedule).links server [] idle refl) refl) h

  -- nobody has stopped without its being told
  still_up : (s : Site) → knows_site w s ≡ true → 1 ≤ session (vector w p) s → HasEnded (run w schedule).servers.sites s (session (vector w p) s) → ⊥
  still_up s known some ended = go own.0.up refl
    where
      numbered : (1 ≤ s.0) × (s.0 ≤ w.sites)
      numbered = within w.sites s.0 known

      own : (o : SiteState) × (slice_get (run w schedule).servers.sites (s.0 - 1) ≡ Some o)
      own = get_known (run w schedule).servers.sites (s.0 - 1) (let low = numbered.0 in let high = numbered.1 in let long = (reached w schedule).long in omega (arith, low, high, long))

      back : site (s.0 - 1 + 1) ≡ s
      back = ap site (let low = numbered.0 in let e : s.0 - 1 + 1 ≡ s.0 = omega (arith, low) in e)

      told_is : session (vector w p) s ≡ own_session own.0
      told_is = ap (session (vector w p)) (sym back) ∙ run_idle w schedule idle (s.0 - 1) own.0 own.1

      go : (u : Bool) → own.0.up ≡ u → ⊥
      go true up = (let more = ended own.0 own.1 up in let same : session (vector w p) s ≡ own.0.session = told_is ∙ ap (λ b. if b then own.0.session else 0) up in omega (arith, more, same))
      go false down = (let none : session (vector w p) s ≡ 0 = told_is ∙ ap (λ b. if b then own.0.session else 0) down in omega (arith, none, some))

  alone : (c : Copying) → UnderWay w p (run w schedule).servers.sites (run w schedule).links c → ⊥
  alone c way = go way.letter
    where
      go : HasLetter (run w schedule).servers.sites (run w schedule).links (session (vector w p) c.source) (session (vector w p) c.target) c → ⊥
      go (asked h) = nothing (asks_copy (session (vector w p) c.source) (session (vector w p) c.target) c) (c.source.0 + 1) 1 h
      go (brought h) = nothing (brings_copy (session (vector w p) c.target) c) (c.target.0 + 1) (c.source.0 + 1) h
      go (told h) = nothing (tells_copy (session (vector w p) c.target) c) 1 (c.target.0 + 1) h
      go (source_ended h) = still_up c.source way.stands.source_known way.stands.source_up h
      go (target_ended h) = still_up c.target way.stands.target_known way.stands.target_up h

  none_out : (out : List Copying) → AllByRecursion (UnderWay w p (run w schedule).servers.sites (run w schedule).links) out → out ≡ []
  none_out [] a = refl
  none_out (c ∷ out) a = absurd (alone c a.0)

  pub idle_settled : CopiesAreCaredFor w (run w schedule) → list_all (λ s. list_all (is_settled w p s) (items w)) (sites w) ≡ true
  idle_settled care =
      all_on (λ s. list_all (is_cared_for w p (run w schedule).servers.sequencer.copying s) (items w)) (λ s. list_all (is_settled w p s) (items w)) (sites w)
      (λ s cared. all_on (is_cared_for w p (run w schedule).servers.sequencer.copying s) (is_settled w p s) (items w) (λ x h. alone_settled (is_settled w p s x) (subst (λ out. is_cared_for w p out s x ≡ true) (none_out (run w schedule).servers.sequencer.copying care.under_way) h)) cared)
      care.cared_for
    where
      alone_settled : (b : Bool) → (b || false) ≡ true → b ≡ true
      alone_settled true h = refl
      alone_settled false h = absurd (true≢false (sym h))
