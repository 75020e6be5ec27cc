-- Along the sequencer's step: what each entry keeps with the letters that it sends to a site holds
-- after the step. And what of these letters is the site's, where one message goes to some of the sites.
use Rattle.std.proofs.Common.{◌≡◌, ℕ, zero, suc, ◌+◌, ◌<◌, ◌≤◌, ◌==◌, Bool, true, false, List, [], ◌∷◌, ◌++◌, map, filter, nat_lt, Option, Some, None, if◌then◌else◌, arith, sym, subst, ap, ◌∙◌, refl, append-nil, append_assoc}
use Rattle.std.specs.Prelude.{flat_map}
use Rattle.std.specs.Option.{option_map_or}
use Rattle.raid_base.specs.declared.names.Site.{Site}
use Rattle.raid_base.specs.declared.entry.Entry.{Entry}
use Rattle.raid_base.specs.declared.entry.Entry.TheVariants.{Commit, Abort, SwitchOn, SwitchEnd}
use Rattle.raid_base.specs.declared.entry.Noted.{Noted}
use Rattle.raid_base.specs.Sites.{site}
use Rattle.raid_workload.specs.declared.workload.Workload.{Workload}
use Rattle.raid_workload.specs.Parts.{count_from, sites}
use Rattle.raid_rules.specs.History.{noted, ends}
use Rattle.raid_legal.specs.Seen.{vector, is_up}
use Rattle.raid_legal.specs.Forced.{forced}
use Rattle.raid_legal.proofs.Left.{Compels, forced_compels}
use Rattle.raid_message.specs.declared.letter.Message.{Message}
use Rattle.raid_message.specs.declared.letter.Message.TheVariants as letters
use Rattle.raid_message.specs.declared.letter.Letter.{Letter}
use Rattle.raid_steps.specs.State.{Out, Turn, Sequencer, Copying, to_site}
use Rattle.raid_steps.specs.Sequencer as rows
use Rattle.raid_steps.specs.Sequencer.{so_far, place, settle_from, settle, finish}
use Rattle.raid_placed.specs.Placed.{Placed, Placeable}
use Rattle.raid_placed.proofs.Sent.{forced_placeable}
use Rattle.raid_placed.proofs.Settled.{place_placed}
use Rattle.raid_sessions.proofs.Mail.{letter_of, letters_to}
use Rattle.raid_asks.proofs.Notes.{letters_append}
use Rattle.raid_versions.proofs.Steps.{Why, Steps, done, placed, renews, counts, passes}

-- a message to each of some sites: the one at a place gets one letter where it is among them
module _ (k clock : ℕ) (v : List ℕ) (message : Message) (test : Site → Bool) where
  abbrev pub sent_to : ℕ → ℕ → List Letter
  sent_to a n = letters_to (k + 2) 0 clock (map (λ s. to_site v s message) (filter test (map site (count_from a n))))

  abbrev pub its_letter : Letter
  its_letter = letter_of 0 clock (to_site v (site (k + 1)) message)

  other : (a : ℕ) → k + 1 < a → (a + 1 == k + 2) ≡ false
  other a q = grind (arith, q)

  beyond : (a n : ℕ) → k + 1 < a → sent_to a n ≡ []
  beyond a zero q = refl
  beyond a (suc n) q = go (test (site a)) (beyond (a + 1) n (omega (arith, q)))
    where
      go : (b : Bool) → sent_to (a + 1) n ≡ [] → letters_to (k + 2) 0 clock (map (λ s. to_site v s message) (if b then site a ∷ filter test (map site (count_from (a + 1) n)) else filter test (map site (count_from (a + 1) n)))) ≡ []
      go true rest = ap (λ b. if b then letter_of 0 clock (to_site v (site a) message) ∷ sent_to (a + 1) n else sent_to (a + 1) n) (other a q) ∙ rest
      go false rest = rest

  -- what the site gets, by whether it passes the test
  abbrev pub gets : Bool → List Letter
  gets b = if b then its_letter ∷ [] else []

  pub one_gets : (a n : ℕ) → a ≤ k + 1 → k + 1 < a + n → sent_to a n ≡ gets (test (site (k + 1)))
  one_gets a zero low high = absurd (omega (arith, low, high))
  one_gets a (suc n) low high = go (a == k + 1) refl (one_gets (a + 1) n)
    where
      same : (a == k + 1) ≡ true → a ≡ k + 1
      same q = grind (arith, q)

      below : (a == k + 1) ≡ false → a + 1 ≤ k + 1
      below q = grind (arith, q, low)

      apart : (a == k + 1) ≡ false → (a + 1 == k + 2) ≡ false
      apart q = grind (arith, q)

      self : (k : ℕ) → (k + 1 + 1 == k + 2) ≡ true
      self k = grind arith

      rest : List Site
      rest = filter test (map site (count_from (a + 1) n))

      first : (x : ℕ) → x ≡ k + 1 → a ≡ x → (b : Bool) → test (site x) ≡ b → sent_to (a + 1) n ≡ [] → letters_to (k + 2) 0 clock (map (λ s. to_site v s message) (if b then site x ∷ filter test (map site (count_from (a + 1) n)) else filter test (map site (count_from (a + 1) n)))) ≡ gets (test (site (k + 1)))
      first x e f true t none =
          subst (λ y. letters_to (k + 2) 0 clock (map (λ s. to_site v s message) (site y ∷ filter test (map site (count_from (a + 1) n)))) ≡ gets (test (site (k + 1)))) (sym e)
          (ap (λ b. if b then its_letter ∷ sent_to (a + 1) n else sent_to (a + 1) n) (self k) ∙ ap (λ ls. its_letter ∷ ls) none ∙ ap gets (sym (subst (λ y. test (site y) ≡ true) e t)))
      first x e f false t none = none ∙ ap gets (sym (subst (λ y. test (site y) ≡ false) e t))

      skip : (b : Bool) → (a + 1 == k + 2) ≡ false → letters_to (k + 2) 0 clock (map (λ s. to_site v s message) (if b then site a ∷ filter test (map site (count_from (a + 1) n)) else filter test (map site (count_from (a + 1) n)))) ≡ sent_to (a + 1) n
      skip true q = ap (λ b. if b then letter_of 0 clock (to_site v (site a) message) ∷ sent_to (a + 1) n else sent_to (a + 1) n) q
      skip false q = refl

      go : (b : Bool) → (a == k + 1) ≡ b → (a + 1 ≤ k + 1 → k + 1 < a + 1 + n → sent_to (a + 1) n ≡ gets (test (site (k + 1)))) → sent_to a (suc n) ≡ gets (test (site (k + 1)))
      go true q later = first a (same q) refl (test (site a)) refl (beyond (a + 1) n (let e = same q in omega (arith, e)))
      go false q later = skip (test (site a)) (apart q) ∙ later (below q) (omega (arith, high))

module _ (w : Workload) (from : ℕ) (letter : Letter) (first : List Noted) (k clock : ℕ) where
  -- the letters of an entry to the site
  abbrev pub sent : List Noted → ℕ → Entry → List Letter
  sent q ask e = letters_to (k + 2) 0 clock (rows.sends w q ask e)

  abbrev pub copied : List Noted → List Copying → List Letter
  copied p due = letters_to (k + 2) 0 clock (map (rows.copy_out (vector w p)) due)

  module _ (J : List Noted → List Letter → Type 0) where
    abbrev pub EntriesKeep : Type 0
    EntriesKeep = (h : List Entry) (e : Entry) (ask : ℕ) → Placed w h → Placeable w (noted h) e → Why w from letter first (noted h) e → (notes : List Letter) → J (noted h) notes → J (noted (h ++ e ∷ [])) (notes ++ sent (noted (h ++ e ∷ [])) ask e)

    abbrev pub CopiesKeep : Type 0
    CopiesKeep = (p : List Noted) (due : List Copying) (notes : List Letter) → J p notes → J p (notes ++ copied p due)

    module _ (notes : List Letter) (entry : EntriesKeep) (copies : CopiesKeep) where
      abbrev Now : Turn Sequencer → Type 0
      Now a = J (so_far a) (notes ++ letters_to (k + 2) 0 clock a.outs)

      more : (outs new : List Out) → notes ++ letters_to (k + 2) 0 clock (outs ++ new) ≡ (notes ++ letters_to (k + 2) 0 clock outs) ++ letters_to (k + 2) 0 clock new
      more outs new = ap (λ ls. notes ++ ls) (letters_append (k + 2) 0 clock outs new) ∙ sym (append_assoc notes (letters_to (k + 2) 0 clock outs) (letters_to (k + 2) 0 clock new))

      no_count : (n : ℕ) (ls : List Letter) → ls ++ letters_to (k + 2) 0 clock ((0, 0, letters.Ends n) ∷ []) ≡ ls
      no_count n ls = ap (λ b. ls ++ (if b then letter_of 0 clock (0, 0, letters.Ends n) ∷ [] else [])) (far k) ∙ append-nil ls
        where
          far : (k : ℕ) → (0 == k + 2) ≡ false
          far k = grind arith

      pub steps_keep : (a b : Turn Sequencer) → Steps w from letter first a b → J (so_far a) (notes ++ letters_to (k + 2) 0 clock a.outs) → J (so_far b) (notes ++ letters_to (k + 2) 0 clock b.outs)
      steps_keep a b done j = j
      steps_keep a b (placed ask e p goes why rest) j =
          let q = noted (a.state.history ++ e ∷ []) in
          steps_keep (place w ask a e) b rest (subst (J q) (sym (more a.outs (rows.sends w q ask e))) (entry a.state.history e ask p goes why (notes ++ letters_to (k + 2) 0 clock a.outs) j))
      steps_keep a b (renews {next = next} due same outs all rest) j =
          steps_keep next b rest
          (subst (λ h. J (noted h) (notes ++ letters_to (k + 2) 0 clock next.outs)) (sym same)
          (subst (λ os. J (so_far a) (notes ++ letters_to (k + 2) 0 clock os)) (sym outs)
          (subst (J (so_far a)) (sym (more a.outs (map (rows.copy_out (vector w (so_far a))) due))) (copies (so_far a) due (notes ++ letters_to (k + 2) 0 clock a.outs) j))))
      steps_keep a b (counts {next = next} n same outs rest) j =
          steps_keep next b rest
          (subst (λ h. J (noted h) (notes ++ letters_to (k + 2) 0 clock next.outs)) (sym same)
          (subst (λ os. J (so_far a) (notes ++ letters_to (k + 2) 0 clock os)) (sym outs)
          (subst (J (so_far a)) (sym (more a.outs ((0, 0, letters.Ends n) ∷ []) ∙ no_count n (notes ++ letters_to (k + 2) 0 clock a.outs))) j)))
      steps_keep a b (passes {next = next} same outs rest) j =
          steps_keep next b rest
          (subst (λ h. J (noted h) (notes ++ letters_to (k + 2) 0 clock next.outs)) (sym same) (subst (λ os. J (so_far a) (notes ++ letters_to (k + 2) 0 clock os)) (sym outs) j))

      -- the forced entries, and what follows them
      compelled_why : (p : List Noted) (e : Entry) → Compels w p e → Why w from letter first p e
      compelled_why p (Abort t cause act) c = tt
      compelled_why p (Commit t request applied) c = tt
      compelled_why p (SwitchOn i kind method) c = tt
      compelled_why p (SwitchEnd i) c = tt
      compelled_why p other c = absurd c

      settle_steps : (i : ℕ) (turn : Turn Sequencer) → Placed w turn.state.history → Steps w from letter first turn (settle_from w i turn)
      settle_steps zero turn p = done
      settle_steps (suc i) turn p = go (forced w (so_far turn)) refl (λ e. settle_steps i (place w 0 turn e))
        where
          go : (o : Option Entry) → forced w (so_far turn) ≡ o → ((e : Entry) → Placed w (place w 0 turn e).state.history → Steps w from letter first (place w 0 turn e) (settle_from w i (place w 0 turn e))) → Steps w from letter first turn (option_map_or (λ e. settle_from w i (place w 0 turn e)) o turn)
          go None q rest = done
          go (Some e) q rest =
              let goes : Placeable w (so_far turn) e = forced_placeable w (so_far turn) e q in
              placed 0 e p goes (compelled_why (so_far turn) e (forced_compels w (so_far turn) e q)) (rest e (place_placed w 0 turn e p goes))

      pub finish_keep : (state : Sequencer) (turn : Turn Sequencer) → Placed w turn.state.history → J (so_far turn) (notes ++ letters_to (k + 2) 0 clock turn.outs) →
          J (so_far (finish w state turn)) (notes ++ letters_to (k + 2) 0 clock (finish w state turn).outs)
      finish_keep state turn p j = counted (nat_lt (ends (noted state.history)) (ends (so_far settled)))
        where
          settled : Turn Sequencer
          settled = settle w turn

          due : List Copying
          due = flat_map (rows.copies_due w (so_far (settle w turn)) (settle w turn).state.copying) (filter (is_up w (so_far (settle w turn))) (sites w))

          sent_for : List Out
          sent_for = map (rows.copy_out (vector w (so_far (settle w turn)))) (flat_map (rows.copies_due w (so_far (settle w turn)) (settle w turn).state.copying) (filter (is_up w (so_far (settle w turn))) (sites w)))

          after_settling : J (so_far (settle w turn)) (notes ++ letters_to (k + 2) 0 clock (settle w turn).outs)
          after_settling = steps_keep turn (settle w turn) (settle_steps _ turn p) j

          after_copies : J (so_far (settle w turn)) (notes ++ letters_to (k + 2) 0 clock ((settle w turn).outs ++ map (rows.copy_out (vector w (so_far (settle w turn)))) (flat_map (rows.copies_due w (so_far (settle w turn)) (settle w turn).state.copying) (filter (is_up w (so_far (settle w turn))) (sites w)))))
          after_copies = subst (J (so_far settled)) (sym (more settled.outs sent_for)) (copies (so_far settled) due (notes ++ letters_to (k + 2) 0 clock settled.outs) after_settling)

          counted : (b : Bool) → J (so_far (settle w turn)) (notes ++ letters_to (k + 2) 0 clock (((settle w turn).outs ++ map (rows.copy_out (vector w (so_far (settle w turn)))) (flat_map (rows.copies_due w (so_far (settle w turn)) (settle w turn).state.copying) (filter (is_up w (so_far (settle w turn))) (sites w)))) ++ (if b then (0, 0, letters.Ends (ends (so_far (settle w turn)))) ∷ [] else [])))
          counted true = subst (J (so_far settled)) (sym (more (settled.outs ++ sent_for) ((0, 0, letters.Ends (ends (so_far settled))) ∷ []) ∙ no_count (ends (so_far settled)) (notes ++ letters_to (k + 2) 0 clock (settled.outs ++ sent_for)))) after_copies
          counted false = subst (λ os. J (so_far settled) (notes ++ letters_to (k + 2) 0 clock os)) (sym (append-nil (settled.outs ++ sent_for))) after_copies
