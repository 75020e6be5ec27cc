-- Lists of copies that a table of sources stands for.
use Rattle.std.proofs.Common.{◌≡◌, ◌≤◌, Bool, true, false, not, ◌&&◌, ◌||◌, cond, if◌then◌else◌, List, [], ◌∷◌, filter, Option, Some, None, slice_get, refl, sym, ap, ◌∙◌}
use Rattle.std.specs.Prelude.{is_some}
use Rattle.std.specs.List.{list_any}
use Rattle.raid_base.specs.declared.names.Item.{Item}
use Rattle.raid_base.specs.declared.names.Site.{Site}
use Rattle.raid_base.specs.declared.entry.Entry.TheVariants.{Down}
use Rattle.raid_base.specs.Names.{is_item, is_site}
use Rattle.raid_steps.specs.State.{Copying}
use Rattle.raid_steps.specs.Sequencer.{ends_copying}
use Rattle.raid_copier.specs.Copiers.{is_to, copies, left}

-- of the list each site and item have the one copy of which there is the source
abbrev pub Have : (Site → Item → Option Site) → List Copying → Type 0
Have h out = (s : Site) (x : Item) → 1 ≤ s.0 → s.0 ≤ 8 → filter (is_to s x) out ≡ copies s x (h s x)

-- one test after the other, in either order
either_first : (f g : Copying → Bool) (cs : List Copying) → filter f (filter g cs) ≡ filter g (filter f cs)
either_first f g [] = refl
either_first f g (c ∷ cs) = go (f c) (g c) refl refl (either_first f g cs)
  where
    go : (a b : Bool) → f c ≡ a → g c ≡ b → filter f (filter g cs) ≡ filter g (filter f cs) → filter f (cond (g c) (c ∷ filter g cs) (filter g cs)) ≡ filter g (cond (f c) (c ∷ filter f cs) (filter f cs))
    go true true p q h = rw (p, q, p) (ap (λ z. c ∷ z) h)
    go true false p q h = rw (p, q) h
    go false true p q h = rw (p, q, p) h
    go false false p q h = rw (p, q) h

-- a list without some of its copies
pub thinned : (test : Copying → Bool) (h k : Site → Item → Option Site) (out : List Copying) →
    ((s : Site) (x : Item) → 1 ≤ s.0 → s.0 ≤ 8 → filter test (copies s x (h s x)) ≡ copies s x (k s x)) → Have h out → Have k (filter test out)
thinned test h k out e have s x least most = either_first (is_to s x) test out ∙ ap (λ cs. filter test cs) (have s x least most) ∙ e s x least most

-- the copy of one item to one site taken out
pub closed_one : (t s : Site) (y x : Item) (o : Option Site) → filter (λ c. not (is_to t y c)) (copies s x o) ≡ copies s x (if is_site t s && is_item y x then None else o)
closed_one t s y x None = none (is_site t s && is_item y x)
  where
    none : (b : Bool) → [] ≡ copies s x (if b then None else None)
    none true = refl
    none false = refl
closed_one t s y x (Some r) = one (is_site t s && is_item y x)
  where
    one : (b : Bool) → (let c : Copying = record { target = s; item = x; source = r } in cond (not b) (c ∷ []) []) ≡ copies s x (if b then None else Some r)
    one true = refl
    one false = refl

-- the copies to a site and from it taken out
pub lost_one : (lost s : Site) (x : Item) (o : Option Site) → filter (λ c. not (ends_copying (Down lost) c)) (copies s x o) ≡ copies s x (left lost s o)
lost_one lost s x None = refl
lost_one lost s x (Some r) = one (is_site lost s || is_site lost r)
  where
    one : (b : Bool) → (let c : Copying = record { target = s; item = x; source = r } in cond (not b) (c ∷ []) []) ≡ copies s x (if b then None else Some r)
    one true = refl
    one false = refl

-- whether one is under way
any_kept : (test : Copying → Bool) (cs : List Copying) → list_any test cs ≡ is_some (slice_get (filter test cs) 0)
any_kept test [] = refl
any_kept test (c ∷ cs) = go (test c) (any_kept test cs)
  where
    go : (b : Bool) → list_any test cs ≡ is_some (slice_get (filter test cs) 0) → (b || list_any test cs) ≡ is_some (slice_get (cond b (c ∷ filter test cs) (filter test cs)) 0)
    go true h = refl
    go false h = h

pub is_under_way : (s : Site) (x : Item) (o : Option Site) (out : List Copying) → filter (is_to s x) out ≡ copies s x o → is_some o ≡ list_any (is_to s x) out
is_under_way s x o out e = sym (any_kept (is_to s x) out ∙ ap (λ cs. is_some (slice_get cs 0)) e ∙ first o)
  where
    first : (o : Option Site) → is_some (slice_get (copies s x o) 0) ≡ is_some o
    first None = refl
    first (Some r) = refl
