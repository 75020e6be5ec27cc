-- Which transactions run as the history grows.
use Rattle.std.proofs.Common.{◌≡◌, ◌⊎◌, inl, inr, ℕ, zero, suc, ◌+◌, ◌==◌, nat_le, Bool, true, false, not, ◌||◌, List, [], ◌∷◌, ◌++◌, Option, Some, None, if◌then◌else◌, sym, subst, ap, ◌∙◌, refl}
use Rattle.std.specs.Prelude.{find, option_map}
use Rattle.std.specs.Option.{option_map_or}
use Rattle.std.proofs.lemmas.Bool.{and_parts, and_from, true≢false}
use Rattle.raid_base.specs.declared.names.Txn.{Txn}
use Rattle.raid_base.specs.declared.names.Site.{Site}
use Rattle.raid_base.specs.declared.entry.Act.TheVariants as acts
use Rattle.raid_base.specs.declared.entry.Cause.TheVariants as causes
use Rattle.raid_base.specs.declared.entry.Entry.{Entry}
use Rattle.raid_base.specs.declared.entry.Entry.TheVariants.{Begin, Abort, Commit, SwitchOn, SwitchEnd, Down, Up}
use Rattle.raid_base.specs.declared.entry.Noted.{Noted}
use Rattle.raid_base.specs.Names.{is_site, has_txn}
use Rattle.raid_base.specs.Sites.{site}
use Rattle.raid_workload.specs.declared.workload.Workload.{Workload}
use Rattle.raid_workload.specs.Parts.{txns, home}
use Rattle.raid_rules.specs.Entries.{is_begin_of, is_end_of}
use Rattle.raid_rules.specs.History.{noted, add, next, has_begun, has_ended, is_running}
use Rattle.raid_rules.specs.Sessions.{last_session}
use Rattle.raid_rules.proofs.Push.{noted_push, same_txn}
use Rattle.raid_rules.proofs.Txns.{has_kept}
use Rattle.raid_legal.specs.InForce.{in_force}
use Rattle.raid_legal.specs.Seen.{is_up, running}
use Rattle.raid_legal.specs.Forced.{forced, home_down, switch_off, switch_end, switch_on, woken, earliest}
use Rattle.raid_legal.proofs.Left.{Compels, forced_compels}
use Rattle.raid_message.specs.declared.letter.Message.TheVariants as letters
use Rattle.raid_message.specs.declared.letter.Letter.{Letter}
use Rattle.raid_steps.specs.State.{Turn, Sequencer, opened}
use Rattle.raid_steps.specs.Sequencer as rows
use Rattle.raid_steps.specs.Sequencer.{so_far, place, settle_from, settle, finish, leave}
use Rattle.raid_placed.specs.Placed.{Placed}
use Rattle.raid_placed.proofs.Heard.{Fine, leave_fine}
use Rattle.raid_placed.proofs.Orderly.{placed_known}
use Rattle.raid_sessions.proofs.Ledger.{last_still, last_down, last_up}
use Rattle.raid_asks.proofs.Steps.{Why, Steps, done, placed, passes}
use Rattle.raid_letters.proofs.Sends.{same_site}
use Rattle.raid_layers.proofs.Histories.{any_same, any_kept}

-- who isn't found has failed the test
not_found : (test : Txn → Bool) (ts : List Txn) (t : Txn) → find test ts ≡ None → has_txn ts t ≡ true → test t ≡ false
not_found test [] t none has = absurd (true≢false (sym has))
not_found test (u ∷ ts) t none has = go (test u) refl none (u.0 == t.0) refl has (not_found test ts t)
  where
    go : (b : Bool) → test u ≡ b → (if b then Some u else find test ts) ≡ None → (c : Bool) → (u.0 == t.0) ≡ c → (c || has_txn ts t) ≡ true → (find test ts ≡ None → has_txn ts t ≡ true → test t ≡ false) → test t ≡ false
    go true q none c e has later = absurd (cc none)
    go false q none true e has later = subst (λ z. test z ≡ false) (same_txn u t e) q
    go false q none false e has later = later none has

module _ (w : Workload) where
  -- where nothing is forced, who runs has its home up
  pub home_up : (h : List Entry) → Placed w h → forced w (noted h) ≡ None → (t : Txn) → is_running (noted h) t ≡ true → is_up w (noted h) (home w t) ≡ true
  home_up h legal none t runs = go (is_up w p (home w t)) (not_found (λ t. not (is_up w p (home w t))) (running w p) t (nobody (find (λ t. not (is_up w p (home w t))) (running w p)) (first (home_down w p) none)) among)
    where
      p : List Noted
      p = noted h

      known : has_txn (txns w) t ≡ true
      known = placed_known w h legal t (and_parts (has_begun p t) (not (has_ended p t)) runs).0

      among : has_txn (running w p) t ≡ true
      among = has_kept (is_running p) t (txns w) ∙ and_from (is_running p t) (has_txn (txns w) t) runs known

      first : (o : Option Entry) → (let f = in_force w p in earliest (o ∷ switch_off p f ∷ switch_end w p f ∷ switch_on w p f ∷ woken w p ∷ [])) ≡ None → o ≡ None
      first None q = refl
      first (Some e) q = q

      nobody : (o : Option Txn) → option_map (λ t. Abort t causes.HomeDown acts.Nothing) o ≡ None → o ≡ None
      nobody None q = refl
      nobody (Some u) q = absurd (cc q)

      go : (b : Bool) → not b ≡ false → b ≡ true
      go true q = refl
      go false q = absurd (true≢false q)

  -- an entry that begins nobody makes nobody run
  pub run_push : (h : List Entry) (e : Entry) (t : Txn) → is_begin_of t e ≡ false → is_running (noted (h ++ e ∷ [])) t ≡ true → is_running (noted h) t ≡ true
  run_push h e t other runs = and_from (has_begun p t) (not (has_ended p t)) begun (ap not (unended (has_ended p t) refl))
    where
      p : List Noted
      p = noted h

      both : (has_begun (add p e) t ≡ true) × (not (has_ended (add p e) t) ≡ true)
      both = and_parts (has_begun (add p e) t) (not (has_ended (add p e) t)) (subst (λ q. is_running q t ≡ true) (noted_push h e) runs)

      begun : has_begun p t ≡ true
      begun = sym (any_same (λ n. is_begin_of t n.entry) p (next p e) other) ∙ both.0

      unended : (b : Bool) → has_ended p t ≡ b → has_ended p t ≡ false
      unended true over = absurd (true≢false (sym both.1 ∙ ap not (any_kept (λ n. is_end_of t n.entry) p (next p e) over)))
      unended false over = over

  forced_begins : (p : List Noted) (e : Entry) (t : Txn) → Compels w p e → is_begin_of t e ≡ false
  forced_begins p (Abort u cause act) t c = refl
  forced_begins p (Commit u request applied) t c = refl
  forced_begins p (SwitchOn k kind method) t c = refl
  forced_begins p (SwitchEnd k) t c = refl
  forced_begins p other t c = absurd c

  settle_runs : (i : ℕ) (turn : Turn Sequencer) (t : Txn) → is_running (so_far (settle_from w i turn)) t ≡ true → is_running (so_far turn) t ≡ true
  settle_runs zero turn t runs = runs
  settle_runs (suc i) turn t runs = go (forced w (so_far turn)) refl (λ e. settle_runs i (place w 0 turn e) t) runs
    where
      go : (o : Option Entry) → forced w (so_far turn) ≡ o → ((e : Entry) → is_running (so_far (settle_from w i (place w 0 turn e))) t ≡ true → is_running (so_far (place w 0 turn e)) t ≡ true) →
          is_running (so_far (option_map_or (λ e. settle_from w i (place w 0 turn e)) o turn)) t ≡ true → is_running (so_far turn) t ≡ true
      go None q later runs = runs
      go (Some e) q later runs = run_push turn.state.history e t (forced_begins (so_far turn) e t (forced_compels w (so_far turn) e q)) (later e runs)

  module _ (from : ℕ) (letter : Letter) (first : List Noted) where
    -- who runs after a step ran before it, or the letter begins it
    pub steps_run : (a b : Turn Sequencer) → Steps w from letter first a b → (t : Txn) → is_running (so_far b) t ≡ true → (is_running (so_far a) t ≡ true) ⊎ (letter.message ≡ letters.Begin t)
    steps_run a b done t runs = inl runs
    steps_run a b (placed ask e p goes why rest) t runs = elim (steps_run (place w ask a e) b rest t runs) [
      | inl before ↦ go e why (is_begin_of t e) refl before
      | inr asked ↦ inr asked
    ]
      where
        go : (e : Entry) → Why w from letter first (so_far a) ask e → (c : Bool) → is_begin_of t e ≡ c → is_running (noted (a.state.history ++ e ∷ [])) t ≡ true → (is_running (so_far a) t ≡ true) ⊎ (letter.message ≡ letters.Begin t)
        go e why false is before = inl (run_push a.state.history e t is before)
        go (Begin u s) why true is before = inr (why ∙ ap letters.Begin (same_txn u t is))
        go other why true is before = absurd (true≢false (sym is))
    steps_run a b (passes {next = next} outs same more other rest) t runs = subst (λ h. (is_running (noted h) t ≡ true) ⊎ (letter.message ≡ letters.Begin t)) same (steps_run next b rest t runs)

    -- a site's last session is as before, or the letter is its Hello
    pub steps_last : (a b : Turn Sequencer) → Steps w from letter first a b → (s : Site) → (last_session (so_far b) s ≡ last_session (so_far a) s) ⊎ ((letter.message ≡ letters.Hello) × (from ≡ s.0 + 1))
    steps_last a b done s = inl refl
    steps_last a b (placed ask e p goes why rest) s = elim (steps_last (place w ask a e) b rest s) [
      | inl same ↦ go e why same
      | inr hello ↦ inr hello
    ]
      where
        Now : Entry → Type 0
        Now e = last_session (so_far b) s ≡ last_session (noted (a.state.history ++ e ∷ [])) s

        Is : Type 0
        Is = (last_session (so_far b) s ≡ last_session (so_far a) s) ⊎ ((letter.message ≡ letters.Hello) × (from ≡ s.0 + 1))

        go : (e : Entry) → Why w from letter first (so_far a) ask e → Now e → Is
        go (Down r) why same = inl (same ∙ last_down w a.state.history r s)
        go (Up r n) why same = rises (is_site s r) refl
          where
            rises : (b : Bool) → is_site s r ≡ b → Is
            rises true is = inr (why.0, why.1 ∙ ap (λ (z : Site). z.0 + 1) (same_site s r is))
            rises false is = inl (same ∙ last_up w a.state.history r n s ∙ ap (λ b. if b then n else last_session (so_far a) s) is)
        go other why same = inl (same ∙ last_still w a.state.history other s refl)
    steps_last a b (passes {next = next} outs same more other rest) s = subst (λ h. (last_session (so_far b) s ≡ last_session (noted h) s) ⊎ ((letter.message ≡ letters.Hello) × (from ≡ s.0 + 1))) same (steps_last next b rest s)

  -- after a Hello nobody of the site runs
  pub hello_runs : (state : Sequencer) (k n : ℕ) → Placed w state.history → forced w (noted state.history) ≡ None → (t : Txn) → is_site (site (k + 1)) (home w t) ≡ true → is_running (so_far (finish w state (rows.hello_row w (opened state) (site (k + 1)) n))) t ≡ true → ⊥
  hello_runs state k n p quiet t mine runs = true≢false (sym up ∙ ap (is_up w (so_far gone)) home_is ∙ left.1)
    where
      here : Site
      here = site (k + 1)

      gone : Turn Sequencer
      gone = leave w (opened state) here

      left : Fine w gone × (is_up w (so_far gone) here ≡ false)
      left = leave_fine w (opened state) here (p, quiet)

      home_is : home w t ≡ here
      home_is = same_site here (home w t) mine

      risen : Turn Sequencer
      risen = place w 0 gone (Up here n)

      falls : (b : Bool) → is_running (so_far (if b then place w 0 (settle w risen) (Down here) else risen)) t ≡ true → is_running (so_far risen) t ≡ true
      falls true runs = settle_runs _ risen t (run_push (settle w risen).state.history (Down here) t refl runs)
      falls false runs = runs

      before : is_running (so_far gone) t ≡ true
      before = run_push gone.state.history (Up here n) t refl (falls (nat_le n (rows.announced risen here)) (settle_runs _ (rows.hello_row w (opened state) here n) t runs))

      up : is_up w (so_far gone) (home w t) ≡ true
      up = home_up gone.state.history left.0.0 left.0.1 t before
