-- What is staged at a site for a Commit that is applied there is what the Commit gave the site's items.
use Rattle.std.proofs.Common.{◌≡◌, ℕ, ℤ, ◌+◌, ◌≤◌, Bool, true, false, List, [], ◌∷◌, length, Option, Some, None, unwrap_or, if◌then◌else◌, sym, subst, ap, ◌∙◌, refl}
use Rattle.std.specs.Prelude.{slice_get}
use Rattle.std.proofs.lemmas.Bool.{and_parts, true≢false}
use Rattle.raid_base.specs.declared.names.Txn.{Txn}
use Rattle.raid_base.specs.declared.names.Item.{Item}
use Rattle.raid_base.specs.declared.names.Site.{Site}
use Rattle.raid_base.specs.declared.entry.Entry.{Entry}
use Rattle.raid_base.specs.declared.entry.Entry.TheVariants.{Commit}
use Rattle.raid_base.specs.declared.entry.Noted.{Noted}
use Rattle.raid_base.specs.Find.{first_of}
use Rattle.raid_base.specs.Names.{is_txn, is_item, has_site, holds}
use Rattle.raid_base.specs.Sites.{site}
use Rattle.raid_workload.specs.declared.workload.Workload.{Workload}
use Rattle.raid_workload.specs.Parts.{initial}
use Rattle.raid_rules.specs.Entries.{writes_of}
use Rattle.raid_rules.specs.History.{noted}
use Rattle.raid_rules.proofs.Push.{same_txn}
use Rattle.raid_steps.specs.State.{SiteState}
use Rattle.raid_steps.specs.Copies.{staged_of}
use Rattle.raid_steps.specs.Programs.{held_by}
use Rattle.raid_steps.specs.World.{World}
use Rattle.raid_moves.proofs.Places.{nothing}
use Rattle.raid_letters.specs.Says.{is_held, is_applied, was_applied}
use Rattle.raid_staged.specs.Agree.{AreParts, EntryAgrees, IsPartOf, PartsAgree}
use Rattle.raid_versions.specs.Versions.{was_written}
use Rattle.raid_versions.proofs.SiteCopies.{same_item, staged_has}
use Rattle.raid_versions.proofs.Written.{numbered}
use Rattle.raid_values.specs.Values.{committed_value}
use Rattle.raid_values.proofs.Pushes.{Gave, gave, held_first, unheld_first}

-- a site's part of some writes has the same value of an item that the site holds, and none of another
pub part_first : (w : Workload) (s : Site) (x : Item) (ps : List (Item × ℤ)) → first_of x (held_by w s ps) ≡ (if is_held w s x then first_of x ps else None)
part_first w s x [] = go (is_held w s x) None
  where
    go : (b : Bool) (o : Option ℤ) → o ≡ (if b then o else o)
    go true o = refl
    go false o = refl
part_first w s x (p ∷ ps) = go (is_item x p.0) refl (is_held w s p.0) refl (part_first w s x ps)
  where
    own : (b : Bool) → b ≡ is_held w s x → (o : Option ℤ) → (if b then o else None) ≡ (if is_held w s x then o else None)
    own b q o = ap (λ b. if b then o else None) q

    go : (a : Bool) → is_item x p.0 ≡ a → (b : Bool) → is_held w s p.0 ≡ b → first_of x (held_by w s ps) ≡ (if is_held w s x then first_of x ps else None) →
        first_of x (if b then p ∷ held_by w s ps else held_by w s ps) ≡ (if is_held w s x then (if is_item x p.0 then Some p.1 else first_of x ps) else None)
    go true same true here rest =
        let held : true ≡ is_held w s x = sym here ∙ ap (is_held w s) (same_item x p.0 same) in
        ap (λ a. if a then Some p.1 else first_of x (held_by w s ps)) same ∙ own true held (Some p.1) ∙ ap (λ a. if is_held w s x then (if a then Some p.1 else first_of x ps) else None) (sym same)
    go true same false away rest =
        let held : false ≡ is_held w s x = sym away ∙ ap (is_held w s) (same_item x p.0 same) in
        rest ∙ ap (λ b. if b then first_of x ps else None) (sym held) ∙ ap (λ b. if b then (if is_item x p.0 then Some p.1 else first_of x ps) else None) held
    go false other true here rest = ap (λ a. if a then Some p.1 else first_of x (held_by w s ps)) other ∙ rest ∙ ap (λ a. if is_held w s x then (if a then Some p.1 else first_of x ps) else None) (sym other)
    go false other false away rest = rest ∙ ap (λ a. if is_held w s x then (if a then Some p.1 else first_of x ps) else None) (sym other)

module _ (w : Workload) where
  -- The Commit with this number is applied at the site: the pairs, staged for its transaction there, are what it wrote of the site's items
  pub record Applied (p : List Noted) (here : Site) (number : ℕ) (ps : List (Item × ℤ)) : Type 0 where
    pub within : number ≤ length p
    -- each value staged is the one that the Commit gave
    pub values : (x : Item) (v : ℤ) → first_of x ps ≡ Some v → (committed_value w p x number ≡ v) × (was_written p x number ≡ true)
    -- none is staged of an item that the site holds and the Commit doesn't write
    pub none : (x : Item) → is_held w here x ≡ true → first_of x ps ≡ None → was_written p x number ≡ false

  module _ (state : World) (agree : PartsAgree w state) (k : ℕ) (s : SiteState) (at : slice_get state.servers.sites k ≡ Some s) (t : Txn) (number : ℕ) (told : was_applied (noted state.servers.sequencer.history) t (site (k + 1)) number ≡ true)
      (ps : List (Item × ℤ)) (has : staged_of s t ≡ Some ps) where
    abbrev p : List Noted
    p = noted state.servers.sequencer.history

    the_entry : Gave w (EntryAgrees w state) (is_applied t (site (k + 1))) p number
    the_entry = gave w (EntryAgrees w state) (is_applied t (site (k + 1))) number state.servers.sequencer.history told agree.entries

    part : (e : Entry) → is_applied t (site (k + 1)) e ≡ true → EntryAgrees w state e → ps ≡ held_by w (site (k + 1)) (writes_of e)
    part (Commit u request applied) h agrees =
        let mine : u ≡ t = same_txn u t (and_parts (is_txn t u) (has_site applied (site (k + 1))) h).0 in
        let parts : AreParts w state t (Some request.writes) = subst (λ z. AreParts w state z (Some request.writes)) mine agrees in
        staged_has (IsPartOf w (site (k + 1)) (Some request.writes)) s t ps has (parts.staged k s at)
    part other h agrees = absurd (true≢false (sym h))

    abbrev writes : List (Item × ℤ)
    writes = writes_of the_entry.entry

    -- the pairs' value of an item
    first_is : (x : Item) → first_of x ps ≡ (if is_held w (site (k + 1)) x then first_of x (writes_of the_entry.entry) else None)
    first_is x = ap (first_of x) (part the_entry.entry the_entry.passes the_entry.holds_of) ∙ part_first w (site (k + 1)) x (writes_of the_entry.entry)

    value_is : (x : Item) (v : ℤ) (b : Bool) → (if b then first_of x (writes_of the_entry.entry) else None) ≡ Some v → first_of x (writes_of the_entry.entry) ≡ Some v
    value_is x v true q = q
    value_is x v false q = absurd (nothing q)

    is_written : (x : Item) (v : ℤ) (b : Bool) → holds x (writes_of the_entry.entry) ≡ b → first_of x (writes_of the_entry.entry) ≡ Some v → b ≡ true
    is_written x v true h q = refl
    is_written x v false h q = absurd (nothing (sym (unheld_first x writes h) ∙ q))

    unwritten : (x : Item) (b : Bool) → holds x (writes_of the_entry.entry) ≡ b → first_of x (writes_of the_entry.entry) ≡ None → b ≡ false
    unwritten x true h q = absurd (nothing (sym q ∙ (held_first x writes h).1))
    unwritten x false h q = refl

    pub applied_here : Applied (noted state.servers.sequencer.history) (site (k + 1)) number ps
    applied_here = record {
      within = (numbered state.servers.sequencer.history (is_applied t (site (k + 1))) number told).1;
      values = λ x v q. (let first = value_is x v (is_held w (site (k + 1)) x) (sym (first_is x) ∙ q) in
          (the_entry.value x ∙ ap (λ o. unwrap_or o (initial w x)) first, the_entry.written x ∙ is_written x v (holds x writes) refl first));
      none = λ x here q. the_entry.written x ∙ unwritten x (holds x writes) refl (sym (ap (λ b. if b then first_of x writes else None) here) ∙ sym (first_is x) ∙ q);
    }
