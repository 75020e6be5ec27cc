-- Once the copies that are due are sent for, each copy is cared for.
use Rattle.std.proofs.Common.{◌≡◌, ◌==◌, Bool, true, false, not, ◌&&◌, ◌||◌, List, [], ◌∷◌, ◌++◌, length, filter, Option, Some, None, if◌then◌else◌, sym, subst, ap, ◌∙◌, refl}
use Rattle.std.specs.Prelude.{flat_map, filter_map, slice_get, option_map}
use Rattle.std.specs.List.{list_any, list_all, cons_option}
use Rattle.std.proofs.lemmas.Bool.{and_from, true≢false}
use Rattle.raid_base.specs.declared.names.Item.{Item}
use Rattle.raid_base.specs.declared.names.Site.{Site}
use Rattle.raid_base.specs.declared.entry.Noted.{Noted}
use Rattle.raid_base.specs.Names.{is_item, is_site}
use Rattle.raid_workload.specs.declared.workload.Workload.{Workload}
use Rattle.raid_workload.specs.Parts.{sites, items}
use Rattle.raid_legal.specs.Seen.{is_up, is_locked, sources}
use Rattle.raid_sessions.proofs.Lists.{same_self}
use Rattle.raid_steps.specs.State.{Copying}
use Rattle.raid_steps.specs.Sequencer as rows
use Rattle.raid_settled.specs.Settled.{is_sent_for, is_cared_for, are_cared_for}
use Rattle.raid_settled.proofs.Links.{or_left, or_right, any_behind, any_ahead}

-- what passes a test in the first list does in the second
abbrev Covers : List Copying → List Copying → Type 0
Covers due more = (test : Copying → Bool) → list_any test due ≡ true → list_any test more ≡ true

-- a copy that could be renewed is to be sent for
cared : (u l z b : Bool) → (u ≡ true → l ≡ true → z ≡ false → b ≡ true) → ((not u || not l || z) || b) ≡ true
cared true true true b sent = refl
cared true true false b sent = sent refl refl refl
cared true false z b sent = refl
cared false l z b sent = refl

first_there : (ss : List Site) → (length ss == 0) ≡ false → (r : Site) × (slice_get ss 0 ≡ Some r)
first_there [] none = absurd (true≢false none)
first_there (r ∷ ss) some = (r, refl)

module _ (w : Workload) (p : List Noted) (out more : List Copying) where
  -- a site that is down
  down_cared : (s : Site) → is_up w p s ≡ false → (xs : List Item) → list_all (is_cared_for w p (out ++ more) s) xs ≡ true
  down_cared s down [] = refl
  down_cared s down (x ∷ xs) =
      and_from (is_cared_for w p (out ++ more) s x) (list_all (is_cared_for w p (out ++ more) s) xs)
      (cared (is_up w p s) (is_locked w p s x) (length (sources w p x) == 0) (is_sent_for (out ++ more) s x) (λ up locked some. absurd (true≢false (sym up ∙ down)))) (down_cared s down xs)

  module _ (s : Site) where
    -- the copy that is due of an item
    abbrev due_from : Item → Option Site → Option Copying
    due_from x o = option_map (λ r. let c : Copying = record { target = s; item = x; source = r } in c) o

    abbrev due_of : Item → Option Copying
    due_of x = if is_locked w p s x && not (list_any (λ (c : Copying). is_site s c.target && is_item x c.item) out) then due_from x (slice_get (sources w p x) 0) else None

    one_cared : (x : Item) (xs : List Item) → Covers (filter_map due_of (x ∷ xs)) more → is_cared_for w p (out ++ more) s x ≡ true
    one_cared x xs covers = cared (is_up w p s) (is_locked w p s x) (length (sources w p x) == 0) (is_sent_for (out ++ more) s x) (λ up locked some. go locked (first_there (sources w p x) some) (is_sent_for out s x) refl)
      where
        test : Copying → Bool
        test c = is_site s c.target && is_item x c.item

        go : is_locked w p s x ≡ true → (r : Site) × (slice_get (sources w p x) 0 ≡ Some r) → (b : Bool) → is_sent_for out s x ≡ b → is_sent_for (out ++ more) s x ≡ true
        go locked first true sent = any_behind test out more sent
        go locked first false sent =
            any_ahead test out more
            (covers test (subst (λ o. list_any test (cons_option o (filter_map due_of xs)) ≡ true) (sym due_is) (or_left (test due) (list_any test (filter_map due_of xs)) (and_from (is_site s s) (is_item x x) (same_self s.0) (same_self x.0)))))
          where
            due : Copying
            due = record { target = s; item = x; source = first.0 }

            due_is : due_of x ≡ Some due
            due_is =
                ap (λ b. if b then due_from x (slice_get (sources w p x) 0) else None) (and_from (is_locked w p s x) (not (is_sent_for out s x)) locked (ap not sent))
                ∙ ap (due_from x) first.1

    behind : (x : Item) (xs : List Item) → Covers (filter_map due_of xs) (filter_map due_of (x ∷ xs))
    behind x xs test h = go (due_of x)
      where
        go : (o : Option Copying) → list_any test (cons_option o (filter_map due_of xs)) ≡ true
        go None = h
        go (Some c) = or_right (test c) (list_any test (filter_map due_of xs)) h

    items_cared : (xs : List Item) → Covers (filter_map due_of xs) more → list_all (is_cared_for w p (out ++ more) s) xs ≡ true
    items_cared [] covers = refl
    items_cared (x ∷ xs) covers = and_from (is_cared_for w p (out ++ more) s x) (list_all (is_cared_for w p (out ++ more) s) xs) (one_cared x xs covers) (items_cared xs (λ test h. covers test (behind x xs test h)))

  sites_cared : (ss : List Site) → Covers (flat_map (rows.copies_due w p out) (filter (is_up w p) ss)) more → list_all (λ s. list_all (is_cared_for w p (out ++ more) s) (items w)) ss ≡ true
  sites_cared [] covers = refl
  sites_cared (s ∷ ss) covers = go (is_up w p s) refl covers (sites_cared ss)
    where
      later : List Copying
      later = flat_map (rows.copies_due w p out) (filter (is_up w p) ss)

      here : Bool
      here = list_all (is_cared_for w p (out ++ more) s) (items w)

      others : Bool
      others = list_all (λ s. list_all (is_cared_for w p (out ++ more) s) (items w)) ss

      go : (b : Bool) → is_up w p s ≡ b → Covers (flat_map (rows.copies_due w p out) (if b then s ∷ filter (is_up w p) ss else filter (is_up w p) ss)) more → (Covers later more → others ≡ true) → (here && others) ≡ true
      go true up covers all =
          and_from here others (items_cared s (items w) (λ test h. covers test (any_behind test (rows.copies_due w p out s) later h)))
          (all (λ test h. covers test (any_ahead test (rows.copies_due w p out s) later h)))
      go false down covers all = and_from here others (down_cared s down (items w)) (all covers)

-- those that are due and those that are under way are all
pub sent_cared : (w : Workload) (p : List Noted) (out : List Copying) → are_cared_for w p (out ++ flat_map (rows.copies_due w p out) (filter (is_up w p) (sites w))) ≡ true
sent_cared w p out = sites_cared w p out (flat_map (rows.copies_due w p out) (filter (is_up w p) (sites w))) (sites w) (λ test h. h)
