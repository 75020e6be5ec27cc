-- What letters may say of sessions: none after the last that the history has of the site.
use Rattle.std.proofs.Common.{◌≡◌, ℕ, ◌+◌, ◌<◌, ◌≤◌, true, List, arith, sym, subst, ap}
use Rattle.std.specs.Prelude.{⊤}
use Rattle.raid_base.specs.declared.names.Site.{Site}
use Rattle.raid_base.specs.Sites.{session, site}
use Rattle.raid_workload.specs.declared.workload.Workload.{Workload}
use Rattle.raid_message.specs.declared.letter.Message.{Message}
use Rattle.raid_message.specs.declared.letter.Message.TheVariants as letters
use Rattle.raid_steps.specs.State.{Out}
use Rattle.raid_steps.specs.Fits.{knows_site}
use Rattle.raid_steps.proofs.Parts.{number_known}

module _ (w : Workload) (L : Site → ℕ) where
  -- a session of the site
  abbrev pub IsPast : Site → ℕ → Type 0
  IsPast s n = knows_site w s ≡ true → n ≤ L s

  -- a vector
  abbrev pub ArePast : List ℕ → Type 0
  ArePast v = (s : Site) → IsPast s (session v s)

  -- what the sequencer may tell a site; it tells it no count of ends
  abbrev pub IsNote : Message → Type 0
  IsNote (letters.Welcome v next) = ArePast v
  IsNote (letters.ReadDo t ask x home n) = IsPast home n
  IsNote (letters.UpNote s n) = IsPast s n
  IsNote (letters.CopyDo x target n) = IsPast target n
  IsNote (letters.Ends count) = ⊥
  IsNote other = ⊤

  -- a letter to a site is meant for none after its last
  abbrev pub IsWithin : Out → Type 0
  IsWithin out = (k : ℕ) → k < w.sites → out.0 ≡ k + 2 → out.1 ≤ L (site (k + 1))

  pub within_site : (s : Site) (n : ℕ) (m : Message) → IsPast s n → IsWithin (s.0 + 1, n, m)
  within_site s n m past k below to =
      let here : site (k + 1) ≡ s = ap (λ i. let x : Site = record { 0 = i } in x) (omega (arith, to)) in
      let most = past (subst (λ x. knows_site w x ≡ true) here (number_known w k (omega (arith, below)))) in
      subst (λ x. n ≤ L x) (sym here) most

  -- what a site may say to another: what it asks to be staged, it asks in a session that the history has
  abbrev pub IsSaid : Site → ℕ → Message → Type 0
  IsSaid s n (letters.Prepare t writes) = IsPast s n
  IsSaid s n other = ⊤

-- all that stays so when the last sessions grow
module _ (w : Workload) (L M : Site → ℕ) (grows : (s : Site) → L s ≤ M s) where
  pub still_past : (s : Site) (n : ℕ) → IsPast w L s n → IsPast w M s n
  still_past s n past known = (let most = past known in let more = grows s in omega (arith, most, more))

  pub still_note : (m : Message) → IsNote w L m → IsNote w M m
  still_note (letters.Welcome v next) q = λ s. still_past s (session v s) (q s)
  still_note (letters.ReadDo t ask x home n) q = still_past home n q
  still_note (letters.UpNote s n) q = still_past s n q
  still_note (letters.CopyDo x target n) q = still_past target n q
  still_note (letters.Ends count) q = q
  still_note other q = tt

  pub still_within : (out : Out) → IsWithin w L out → IsWithin w M out
  still_within out q k below to = (let most = q k below to in let more = grows (site (k + 1)) in omega (arith, most, more))

  pub still_said : (s : Site) (n : ℕ) (m : Message) → IsSaid w L s n m → IsSaid w M s n m
  still_said s n (letters.Prepare t writes) q = still_past s n q
  still_said s n other q = tt
