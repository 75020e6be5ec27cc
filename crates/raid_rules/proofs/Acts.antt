-- The actions of a Commit, kept or left out together, and those of a view with one more entry.
use Rattle.std.proofs.Common.{◌≡◌, ℕ, ℤ, ◌+◌, Bool, true, false, not, List, [], ◌∷◌, ◌++◌, map, arith, ap, refl, ◌∙◌, append-nil}
use Rattle.std.specs.List.{filter, flat_map}
use Rattle.std.proofs.lemmas.List.Concat.{flat_map-append}
use Rattle.std.proofs.lemmas.List.Elements.{filter-append}
use Rattle.std.proofs.lemmas.Grind.{common_steps}
use Rattle.raid_base.specs.declared.names.Txn.{Txn}
use Rattle.raid_base.specs.declared.names.Item.{Item}
use Rattle.raid_base.specs.declared.entry.Noted.{Noted}
use Rattle.raid_rules.specs.declared.conflict.Action.{Action}
use Rattle.raid_rules.specs.Entries.{is_abort_of}
use Rattle.raid_rules.specs.History.{has_aborted}
use Rattle.raid_rules.specs.Conflict.{acts, actions}
use Rattle.raid_rules.specs.Verdicts.{Question, reading, writing, as_entry, as_noted, last_number, with_action}

-- a write of each of the items
abbrev pub writes_at : ℕ → Txn → List (Item × ℤ) → List Action
writes_at at by writes = map (λ p. let a : Action = record { at = at; by = by; item = p.0; writes = true } in a) writes

-- a test of the transaction passes all of them
pub writes_kept : (test : Txn → Bool) (at : ℕ) (by : Txn) (writes : List (Item × ℤ)) → test by ≡ true → filter (λ a. test a.by) (writes_at at by writes) ≡ writes_at at by writes
writes_kept test at by [] e = refl
writes_kept test at by (w ∷ ws) e = rw e (ap (λ l. (let a : Action = record { at = at; by = by; item = w.0; writes = true } in a) ∷ l) (writes_kept test at by ws e))

-- or none of them
pub writes_left : (test : Txn → Bool) (at : ℕ) (by : Txn) (writes : List (Item × ℤ)) → test by ≡ false → filter (λ a. test a.by) (writes_at at by writes) ≡ []
writes_left test at by [] e = refl
writes_left test at by (w ∷ ws) e = rw e (writes_left test at by ws e)

-- no entry but an Abort changes who is aborted
aborted_push : (view : List Noted) (n : Noted) → ((t : Txn) → is_abort_of t n.entry ≡ false) → ◌≡◌ {A = Txn → Bool} (has_aborted (view ++ n ∷ [])) (has_aborted view)
aborted_push view n none = λ i t. (let same : has_aborted (view ++ n ∷ []) t ≡ has_aborted view t = grind (arith, common_steps, none t) in same) i

-- the actions of a view with one more entry
pub actions_push : (view : List Noted) (n : Noted) → ((t : Txn) → is_abort_of t n.entry ≡ false) →
    actions (view ++ n ∷ []) ≡ actions view ++ filter (λ a. not (has_aborted view a.by)) (acts n n.entry)
actions_push view n none =
    ap (λ f. filter (λ a. not (f a.by)) (flat_map (λ m. acts m m.entry) (view ++ n ∷ []))) (aborted_push view n none)
    ∙ ap (filter (λ a. not (has_aborted view a.by))) (flat_map-append (λ m. acts m m.entry) view (n ∷ []) ∙ ap (λ l. flat_map (λ m. acts m m.entry) view ++ l) (append-nil (acts n n.entry)))
    ∙ filter-append (λ a. not (has_aborted view a.by)) (flat_map (λ m. acts m m.entry) view) (acts n n.entry)

-- the actions of a view with the asked action
pub actions_with : (view : List Noted) (q : Question) → actions (with_action view q) ≡ actions view ++ filter (λ a. not (has_aborted view a.by)) (acts (as_noted (last_number view + 1) q) (as_entry q))
actions_with view (reading t k x) = actions_push view (as_noted (last_number view + 1) (reading t k x)) (λ u. refl)
actions_with view (writing t k writes) = actions_push view (as_noted (last_number view + 1) (writing t k writes)) (λ u. refl)
