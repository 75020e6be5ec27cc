-- What a site's step comes to, by whether the letter is heard; and that no commit is left to be asked for after it.
use Rattle.std.proofs.Common.{◌≡◌, ℕ, zero, suc, ◌+◌, ◌==◌, Bool, true, false, ◌&&◌, [], if◌then◌else◌, sym, subst, ap, ◌∙◌, refl}
use Rattle.std.specs.List.{AllByRecursion}
use Rattle.std.proofs.lemmas.Bool.{true≢false}
use Rattle.raid_base.specs.Sites.{site}
use Rattle.raid_workload.specs.declared.workload.Workload.{Workload}
use Rattle.raid_message.specs.declared.letter.Message.{Message}
use Rattle.raid_message.specs.declared.letter.Message.TheVariants as letters
use Rattle.raid_message.specs.declared.letter.Letter.{Letter}
use Rattle.raid_steps.specs.State.{Turn, opened, Running, SiteState}
use Rattle.raid_steps.specs.Fits.{is_of_sequencer, is_of_site}
use Rattle.raid_steps.specs.Site as rows
use Rattle.raid_steps.specs.Site.{hear_site, fits_here}
use Rattle.raid_moves.specs.Moves.{Ascend, Tells, Says}
use Rattle.raid_moves.specs.After.{is_ready, NoneIsReady}
use Rattle.raid_moves.proofs.Swept.{none_ready_told, none_ready_said}

module _ (w : Workload) (s : SiteState) (from : ℕ) (letter : Letter) where
  -- the letter isn't heard: neither of the sequencer nor of another site
  pub record IsUnheard : Type 0 where
    pub told : (m : Message) → Tells w s from letter m → ⊥
    pub said : (i : ℕ) (m : Message) → Says w s from letter i m → ⊥

  pub data Kind : Type 0 where
    tells : (m : Message) → Tells w s from letter m → Kind
    says : (i : ℕ) (m : Message) → Says w s from letter i m → Kind
    keeps : IsUnheard → (hear_site w s from letter).state ≡ s → Kind
    empties : (hear_site w s from letter).state.running ≡ [] → Kind

  -- a stopped site runs nothing
  module _ (down : s.up ≡ false → s.running ≡ []) where
    up_is : s.up ≡ true → (f : ℕ) → from ≡ f → hear_site w s from letter ≡ rows.hear_up w s f letter
    up_is up f by = ap (λ u. if u then rows.hear_up w s from letter else rows.hear_down s from letter) up ∙ ap (λ f. rows.hear_up w s f letter) by

    down_is : s.up ≡ false → (f : ℕ) → from ≡ f → hear_site w s from letter ≡ rows.hear_down s f letter
    down_is off f by = ap (λ u. if u then rows.hear_up w s from letter else rows.hear_down s from letter) off ∙ ap (λ f. rows.hear_down s f letter) by

    still_runs : (f : ℕ) → (rows.hear_down s f letter).state.running ≡ s.running
    still_runs zero = go letter.message
      where
        go : (m : Message) → (rows.return s m).state.running ≡ s.running
        go letters.Return = refl
        go other = refl
    still_runs (suc i) = refl

    -- of the monitor
    stops : from ≡ 0 → hear_site w s from letter ≡ rows.stop w s letter.message → Kind
    stops by is = go letter.message is
      where
        unheard : IsUnheard
        unheard = record { told = λ m t. zero_not (sym by ∙ t.by); said = λ i m t. zero_not (sym by ∙ t.by) }
          where
            zero_not : {n : ℕ} → 0 ≡ suc n → ⊥
            zero_not q = cc q

        go : (m : Message) → hear_site w s from letter ≡ rows.stop w s m → Kind
        go letters.Stop is = empties (ap (λ (turn : Turn SiteState). turn.state.running) is)
        go other is = keeps unheard (ap (λ (turn : Turn SiteState). turn.state) is)

    module _ (up : s.up ≡ true) where
      late : (letter.to == s.session) ≡ false → IsUnheard
      late to = record { told = λ m t. true≢false (sym t.heard.meant ∙ to); said = λ i m t. true≢false (sym t.heard.meant ∙ to) }

      of_sequencer : from ≡ 1 → Kind
      of_sequencer by = meets (letter.to == s.session) refl (is_of_sequencer w letter.message && fits_here w s letter.message) refl
        where
          at : hear_site w s from letter ≡ (if letter.to == s.session then rows.hear_sequencer w s letter else opened s)
          at = up_is up 1 by

          unfit : (is_of_sequencer w letter.message && fits_here w s letter.message) ≡ false → IsUnheard
          unfit bad = record { told = λ m t. true≢false (sym t.fits ∙ subst (λ m. (is_of_sequencer w m && fits_here w s m) ≡ false) t.is bad); said = λ i m t. one_not (sym by ∙ t.by) }
            where
              one_not : {n : ℕ} → 1 ≡ suc (suc n) → ⊥
              one_not q = cc q

          meets : (b : Bool) → (letter.to == s.session) ≡ b → (c : Bool) → (is_of_sequencer w letter.message && fits_here w s letter.message) ≡ c → Kind
          meets false to c fits = keeps (late to) (ap (λ (turn : Turn SiteState). turn.state) (at ∙ ap (λ b. if b then rows.hear_sequencer w s letter else opened s) to))
          meets true to true fits = tells letter.message (record { heard = record { up = up; meant = to }; by = by; is = refl; fits = fits })
          meets true to false fits =
              keeps (unfit fits)
              (ap (λ (turn : Turn SiteState). turn.state) (at ∙ ap (λ b. if b then rows.hear_sequencer w s letter else opened s) to ∙ ap (λ b. rows.hear_if b s (rows.sequencer_row w (opened s) letter.message)) fits))

      of_peer : (i : ℕ) → from ≡ suc (suc i) → Kind
      of_peer i by = meets (letter.to == s.session) refl (is_of_site w letter.message && fits_here w s letter.message) refl
        where
          at : hear_site w s from letter ≡ (if letter.to == s.session then rows.hear_peer w s (site (i + 1)) letter else rows.refuse s (i + 2) letter letter.message)
          at = up_is up (suc (suc i)) by

          refused : (m : Message) → (rows.refuse s (i + 2) letter m).state ≡ s
          refused (letters.Prepare t writes) = refl
          refused other = refl

          unfit : (is_of_site w letter.message && fits_here w s letter.message) ≡ false → IsUnheard
          unfit bad = record { told = λ m t. one_not (sym t.by ∙ by); said = λ i m t. true≢false (sym t.fits ∙ subst (λ m. (is_of_site w m && fits_here w s m) ≡ false) t.is bad) }
            where
              one_not : {n : ℕ} → 1 ≡ suc (suc n) → ⊥
              one_not q = cc q

          meets : (b : Bool) → (letter.to == s.session) ≡ b → (c : Bool) → (is_of_site w letter.message && fits_here w s letter.message) ≡ c → Kind
          meets false to c fits =
              keeps (late to)
              (ap (λ (turn : Turn SiteState). turn.state) (at ∙ ap (λ b. if b then rows.hear_peer w s (site (i + 1)) letter else rows.refuse s (i + 2) letter letter.message) to) ∙ refused letter.message)
          meets true to true fits = says i letter.message (record { heard = record { up = up; meant = to }; by = by; is = refl; fits = fits })
          meets true to false fits =
              keeps (unfit fits)
              (ap (λ (turn : Turn SiteState). turn.state) (at ∙ ap (λ b. if b then rows.hear_peer w s (site (i + 1)) letter else rows.refuse s (i + 2) letter letter.message) to
              ∙ ap (λ b. rows.hear_if b s (rows.peer_row w (opened s) (site (i + 1)) letter.from letter.message)) fits))

    pub kind : Kind
    kind = go s.up refl from refl
      where
        go : (u : Bool) → s.up ≡ u → (f : ℕ) → from ≡ f → Kind
        go false off f by = empties (ap (λ (turn : Turn SiteState). turn.state.running) (down_is off f by) ∙ still_runs f ∙ down off)
        go true up zero by = stops by (up_is up 0 by)
        go true up (suc zero) by = of_sequencer up by
        go true up (suc (suc i)) by = of_peer up i by

  pub none_ready : Ascend s.running → Kind → NoneIsReady s → NoneIsReady (hear_site w s from letter).state
  none_ready ascend (tells m t) before = none_ready_told w s from letter m t ascend
  none_ready ascend (says i m t) before = none_ready_said w s from letter i m t ascend
  none_ready ascend (keeps u is) before = subst NoneIsReady (sym is) before
  none_ready ascend (empties is) before = subst (AllByRecursion (λ (r : Running). is_ready r.phase ≡ false)) (sym is) tt
