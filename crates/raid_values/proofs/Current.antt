-- In every run, the unlocked copies of live sites have the last values, or get them by the Applies on their way.
use Rattle.std.proofs.Common.{◌≡◌, ℕ, ℤ, ◌+◌, ◌-◌, ◌==◌, Bool, true, false, ◌||◌, List, [], ◌∷◌, find, Option, Some, None, if◌then◌else◌, arith, sym, subst, ap, ◌∙◌, refl}
use Rattle.std.specs.Prelude.{⊤, option_map}
use Rattle.std.specs.Option.{option_map_or}
use Rattle.std.specs.List.{AllByRecursion, list_any}
use Rattle.std.proofs.lemmas.Bool.{true≢false}
use Rattle.raid_base.specs.declared.names.Txn.{Txn}
use Rattle.raid_base.specs.declared.names.Item.{Item}
use Rattle.raid_base.specs.declared.entry.Noted.{Noted}
use Rattle.raid_base.specs.Find.{first_of}
use Rattle.raid_base.specs.Names.{is_txn}
use Rattle.raid_base.specs.Sites.{site}
use Rattle.raid_workload.specs.declared.workload.Workload.{Workload}
use Rattle.raid_rules.specs.History.{noted, version}
use Rattle.raid_rules.specs.Sessions.{is_copy_locked}
use Rattle.raid_legal.specs.Seen.{value_of}
use Rattle.raid_message.specs.declared.letter.Message.{Message}
use Rattle.raid_message.specs.declared.letter.Message.TheVariants as letters
use Rattle.raid_message.specs.declared.letter.Letter.{Letter}
use Rattle.raid_message.specs.declared.letter.Pick.{Pick}
use Rattle.raid_steps.specs.State.{Copy, SiteState}
use Rattle.raid_steps.specs.Copies.{copy_of, staged_of, renewed}
use Rattle.raid_steps.specs.World.{World, link, run}
use Rattle.raid_moves.proofs.Places.{all_both}
use Rattle.raid_letters.specs.Says.{NoteSays, is_held, was_applied}
use Rattle.raid_letters.proofs.Runs.{LetterSays, WorldSays}
use Rattle.raid_staged.specs.Agree.{PartsAgree}
use Rattle.raid_staged.specs.Staged.{is_staged, ApplyStaged, StagedFirst}
use Rattle.raid_staged.proofs.PartRuns.{runs_agree}
use Rattle.raid_staged.proofs.Runs.{landed, runs_stage}
use Rattle.raid_versions.specs.Versions.{was_written, IsLive, after_message, after_letter, latest}
use Rattle.raid_versions.proofs.Runs.{runs_last}
use Rattle.raid_values.specs.Values.{committed_value, after_hearing, after_all, IsCurrentIn, CopiesBecomeCurrent}
use Rattle.raid_values.proofs.Committed.{CopyOf, IsOf}
use Rattle.raid_values.proofs.Items.{items_of, held_items, copies_held, copies_found, runs_items}
use Rattle.raid_values.proofs.Pushes.{version_value}
use Rattle.raid_values.proofs.Runs.{runs_of}
use Rattle.raid_values.proofs.Written.{Applied, applied_here}

-- one that passes a test is found
any_found : {X : Type 0} (test : X → Bool) (xs : List X) → list_any test xs ≡ true → (x : X) × (find test xs ≡ Some x)
any_found {X} test [] q = absurd (true≢false (sym q))
any_found {X} test (x ∷ xs) q = go (test x) q (any_found test xs)
  where
    go : (b : Bool) → (b || list_any test xs) ≡ true → (list_any test xs ≡ true → (y : X) × (find test xs ≡ Some y)) → (y : X) × ((if b then Some x else find test xs) ≡ Some y)
    go true q rest = (x, refl)
    go false q rest = rest q

module _ (w : Workload) (state : World) (says : WorldSays w state) (agree : PartsAgree w state) (staged : StagedFirst w state) (k : ℕ) (s : SiteState) (live : IsLive (noted state.servers.sequencer.history) state.servers.sites k s) where
  abbrev p : List Noted
  p = noted state.servers.sequencer.history

  abbrev m : ℕ
  m = s.session

  -- what is to be applied is staged, and was committed to be applied here
  abbrev IsReady : Message → Type 0
  IsReady (letters.Apply t number) = (is_staged t s ≡ true) × (was_applied p t (site (k + 1)) number ≡ true)
  IsReady other = ⊤

  all_ready : AllByRecursion (λ (l : Letter). (l.to == m) ≡ true → IsReady l.message) (link state.links (k + 2) 1)
  all_ready = all_both (λ (l : Letter). (l.to == m) ≡ true → ApplyStaged s l.message) (LetterSays w p (k + 2) 1) (λ (l : Letter). (l.to == m) ≡ true → IsReady l.message) (link state.links (k + 2) 1) (λ l a b meant. ready l.message l.to (a meant) b) (staged.applies k s live.at live.up live.last) (says.says (k + 2) 1)
    where
      ready : (message : Message) (to : ℕ) → ApplyStaged s message → NoteSays w p (site (k + 2 - 1)) to message → IsReady message
      ready (letters.Apply t number) to a b = (a, subst (λ n. was_applied p t (site n) number ≡ true) (let e : k + 2 - 1 ≡ k + 1 = omega arith in e) b)
      ready other to a b = tt

  -- a copy of the item has the version, and its value
  record Has (x : Item) (v : ℕ) (c : Copy) : Type 0 where
    of : c.item ≡ x
    version : c.version ≡ v
    value : c.value ≡ committed_value w p x v

  module _ (x : Item) (held : is_held w (site (k + 1)) x ≡ true) where
    renewed_has : (t : Txn) (number v : ℕ) (c : Copy) → Has x v c → (ps : List (Item × ℤ)) → Applied w p (site (k + 1)) number ps → Has x (if was_written p x number then number else v) (renewed number ps c)
    renewed_has t number v c h ps applied = go (first_of c.item ps) refl
      where
        here : {o : Option ℤ} → first_of c.item ps ≡ o → first_of x ps ≡ o
        here q = ap (λ i. first_of i ps) (sym h.of) ∙ q

        go : (o : Option ℤ) → first_of c.item ps ≡ o → Has x (if was_written p x number then number else v) (option_map_or (λ u. let d : Copy = record { item = c.item; value = u; version = number } in d) o c)
        go None q = subst (λ n. Has x n c) (sym (ap (λ b. if b then number else v) (applied.none x held (here q)))) h
        go (Some u) q =
            let both = applied.values x u (here q) in
            subst (λ n. Has x n (record { item = c.item; value = u; version = number })) (sym (ap (λ b. if b then number else v) both.1)) (record { of = h.of; version = refl; value = sym both.0 })

    heard_has : (message : Message) → IsReady message → (v : ℕ) (c : Copy) → Has x v c → Has x (after_message p x v message) (after_hearing s c message)
    heard_has (letters.Apply t number) ready v c h =
        let e = any_found (λ (e : Txn × List (Item × ℤ)). is_txn t e.0) s.staged ready.0 in
        let found : staged_of s t ≡ Some e.0.1 = ap (option_map (λ (e : Txn × List (Item × ℤ)). e.1)) e.1 in
        subst (λ o. Has x (if was_written p x number then number else v) (option_map_or (λ ps. renewed number ps c) o c)) (sym found) (renewed_has t number v c h e.0.1 (applied_here w state agree k s live.at t number ready.1 e.0.1 found))
    heard_has other ready v c h = h

    all_has : (ls : List Letter) → AllByRecursion (λ (l : Letter). (l.to == m) ≡ true → IsReady l.message) ls → (v : ℕ) (c : Copy) → Has x v c → Has x (latest p x m v ls) (after_all s c ls)
    all_has [] a v c h = h
    all_has (l ∷ ls) a v c h = all_has ls a.1 (after_letter p x m v l) (if l.to == m then after_hearing s c l.message else c) (go (l.to == m) refl)
      where
        go : (b : Bool) → (l.to == m) ≡ b → Has x (if b then after_message p x v l.message else v) (let d : Copy = if b then after_hearing s c l.message else c in d)
        go true q = heard_has l.message (a.0 q) v c h
        go false q = h

-- so each such copy
module _ (w : Workload) (schedule : List Pick) where
  abbrev now : World
  now = run w schedule

  abbrev entries : List Noted
  entries = noted (run w schedule).servers.sequencer.history

  current : (k : ℕ) (s : SiteState) → IsLive entries now.servers.sites k s → (c : Copy) → IsOf w entries c.item c.value c.version → is_held w (site (k + 1)) c.item ≡ true → copy_of s c.item ≡ Some c → is_copy_locked entries (site (k + 1)) c.item ≡ false →
      IsCurrentIn w entries (after_all s c (link now.links (k + 2) 1))
  current k s live c is held found unlocked =
      let h = all_has w now (landed w schedule).says (runs_agree w schedule) (runs_stage w schedule) k s live c.item held (link now.links (k + 2) 1) (all_ready w now (landed w schedule).says (runs_agree w schedule) (runs_stage w schedule) k s live) c.version c (record { of = refl; version = refl; value = is.value }) in
      let last : latest entries c.item s.session c.version (link now.links (k + 2) 1) ≡ version entries c.item = ((runs_last w schedule).kept k s live c.item c found).current unlocked in
      record {
        value = h.value ∙ ap (committed_value w entries c.item) last ∙ version_value w c.item (run w schedule).servers.sequencer.history ∙ ap (value_of w entries) (sym h.of);
        version = h.version ∙ last ∙ ap (version entries) (sym h.of);
      }

  pub become_current : CopiesBecomeCurrent w (run w schedule)
  become_current k s live =
      all_both (λ (c : Copy). is_held w (site (k + 1)) c.item ≡ true) (λ (c : Copy). IsOf w entries c.item c.value c.version × (copy_of s c.item ≡ Some c))
      (λ (c : Copy). is_copy_locked entries (site (k + 1)) c.item ≡ false → IsCurrentIn w entries (after_all s c (link now.links (k + 2) 1))) s.copies (λ c held both unlocked. current k s live c both.0 held both.1 unlocked)
      (copies_held w k s.copies same)
      (all_both (CopyOf w entries) (λ (c : Copy). copy_of s c.item ≡ Some c) (λ (c : Copy). IsOf w entries c.item c.value c.version × (copy_of s c.item ≡ Some c)) s.copies (λ c a b. (a, b)) ((runs_of w schedule).copies k s live.at) (copies_found w k s.copies same))
    where
      same : items_of s.copies ≡ held_items w k
      same = runs_items w schedule k s live.at
