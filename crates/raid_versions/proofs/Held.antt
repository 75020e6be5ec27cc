-- In every run, each site has copies of just the items that it holds.
use Rattle.std.proofs.Common.{◌≡◌, ◌≢◌, ◌⊎◌, inl, inr, ℕ, ℤ, zero, suc, ◌+◌, ◌<◌, ◌≤◌, ◌==◌, Bool, true, false, ◌||◌, List, [], ◌∷◌, ◌++◌, length, map, filter, Option, Some, None, if◌then◌else◌, arith, sym, subst, ap, ◌∙◌, refl, append-nil, append_assoc}
use Rattle.std.specs.Prelude.{slice_get, slice_set, slice_index_or}
use Rattle.std.specs.List.{list_any}
use Rattle.std.proofs.lemmas.Bool.{true≢false}
use Rattle.std.proofs.lemmas.List.Sums.{fold-append}
use Rattle.raid_base.specs.declared.names.Item.{Item}
use Rattle.raid_base.specs.declared.names.Site.{Site}
use Rattle.raid_base.specs.Names.{is_item, has_site}
use Rattle.raid_base.specs.Sites.{site}
use Rattle.raid_workload.specs.declared.workload.Workload.{Workload}
use Rattle.raid_workload.specs.declared.workload.ItemLine.{ItemLine}
use Rattle.raid_workload.specs.Parts.{count_from, items, initial}
use Rattle.raid_message.specs.declared.letter.Letter.{Letter}
use Rattle.raid_message.specs.declared.letter.Pick.{Pick}
use Rattle.raid_serial.proofs.Views.{same_tests}
use Rattle.raid_steps.specs.State.{Copy, SiteState, Turn}
use Rattle.raid_steps.specs.Copies.{holds_copy, renewed}
use Rattle.raid_steps.specs.Site.{hear_site}
use Rattle.raid_steps.specs.World.{World, Servers, hear, hear_at, link, take_front, pick, run, open_world, first_site}
use Rattle.raid_moves.specs.Moves.{Ascend}
use Rattle.raid_sessions.proofs.Lists.{get_below, get_set, get_other, some_is}
use Rattle.raid_sessions.proofs.Mail.{same_or_not}
use Rattle.raid_asks.proofs.Reached.{first_state}
use Rattle.raid_letters.specs.Says.{is_held}
use Rattle.raid_letters.proofs.Runs.{WorldSays, reaches}
use Rattle.raid_versions.proofs.Owed.{HoldsOwn}
use Rattle.raid_versions.proofs.SiteCopies.{same_item, renewed_item, set_in, set_item}
use Rattle.raid_versions.proofs.SiteParts.{Copied, step_copies}
use Rattle.raid_versions.proofs.SiteParts as made

-- the items of copies of which each was made another of its item
holds_mapped : (f : Copy → Copy) → ((c : Copy) → (f c).item ≡ c.item) → (x : Item) (cs : List Copy) → list_any (λ (c : Copy). is_item x c.item) (map f cs) ≡ list_any (λ (c : Copy). is_item x c.item) cs
holds_mapped f same x [] = refl
holds_mapped f same x (c ∷ cs) = ap (λ y. is_item x y || list_any (λ (c : Copy). is_item x c.item) (map f cs)) (same c) ∙ ap (λ b. is_item x c.item || b) (holds_mapped f same x cs)

-- a site's step leaves the items that it has copies of
pub step_holds : (w : Workload) (state : SiteState) (from : ℕ) (letter : Letter) → Ascend state.running → (x : Item) → holds_copy (hear_site w state from letter).state x ≡ holds_copy state x
step_holds w state from letter a x = go (step_copies w state from letter a)
  where
    go : Copied w state from letter (hear_site w state from letter) → holds_copy (hear_site w state from letter).state x ≡ holds_copy state x
    go (made.keeps same passes sent) = ap (list_any (λ (c : Copy). is_item x c.item)) same
    go (made.applies t number ps tells q same sent) = ap (list_any (λ (c : Copy). is_item x c.item)) same ∙ holds_mapped (renewed number ps) (renewed_item number ps) x state.copies
    go (made.renews k y v version c says q most same sent) = ap (list_any (λ (c : Copy). is_item x c.item)) same ∙ holds_mapped (set_in y v version) (set_item y v version) x state.copies

-- the items that pass a test
kept_passes : (f : Item → Bool) (x : Item) (ys : List Item) → list_any (is_item x) (filter f ys) ≡ true → f x ≡ true
kept_passes f x [] h = absurd (true≢false (sym h))
kept_passes f x (y ∷ ys) h = go (f y) refl h (kept_passes f x ys)
  where
    here : (b : Bool) → is_item x y ≡ b → f y ≡ true → (b || list_any (is_item x) (filter f ys)) ≡ true → (list_any (is_item x) (filter f ys) ≡ true → f x ≡ true) → f x ≡ true
    here true same is h rest = subst (λ z. f z ≡ true) (same_item x y same) is
    here false same is h rest = rest h

    go : (b : Bool) → f y ≡ b → list_any (is_item x) (if b then y ∷ filter f ys else filter f ys) ≡ true → (list_any (is_item x) (filter f ys) ≡ true → f x ≡ true) → f x ≡ true
    go true is h rest = here (is_item x y) refl is h rest
    go false is h rest = rest h

kept_has : (f : Item → Bool) (x : Item) (ys : List Item) → f x ≡ true → list_any (is_item x) ys ≡ true → list_any (is_item x) (filter f ys) ≡ true
kept_has f x [] is h = h
kept_has f x (y ∷ ys) is h = go (f y) refl (is_item x y) refl h (kept_has f x ys is)
  where
    go : (b : Bool) → f y ≡ b → (c : Bool) → is_item x y ≡ c → (c || list_any (is_item x) ys) ≡ true → (list_any (is_item x) ys ≡ true → list_any (is_item x) (filter f ys) ≡ true) → list_any (is_item x) (if b then y ∷ filter f ys else filter f ys) ≡ true
    go true q true same h rest = ap (λ c. c || list_any (is_item x) (filter f ys)) same
    go true q false same h rest = ap (λ c. c || list_any (is_item x) (filter f ys)) same ∙ rest h
    go false q true same h rest = absurd (true≢false (sym is ∙ subst (λ z. f z ≡ false) (same_item x y same) q))
    go false q false same h rest = rest h

-- an item of the workload
abbrev item_of : ℕ → Item
item_of k = record { 0 = k }

counted : (a n : ℕ) (x : Item) → a ≤ x.0 → x.0 < a + n → list_any (is_item x) (map item_of (count_from a n)) ≡ true
counted a zero x least most = absurd (omega (arith, least, most))
counted a (suc n) x least most = go (a == x.0) refl (λ more. counted (a + 1) n x more (omega (arith, most)))
  where
    beyond : (a == x.0) ≡ false → a + 1 ≤ x.0
    beyond q = grind (arith, q, least)

    go : (b : Bool) → (a == x.0) ≡ b → (a + 1 ≤ x.0 → list_any (is_item x) (map item_of (count_from (a + 1) n)) ≡ true) → (b || list_any (is_item x) (map item_of (count_from (a + 1) n))) ≡ true
    go true q rest = refl
    go false q rest = rest (beyond q)

-- that is held somewhere
held_low : (lines : List ItemLine) (k : ℕ) (s : Site) → has_site (slice_index_or (map (λ (line : ItemLine). line.holders) lines) k []) s ≡ true → k < length lines
held_low [] k s h = absurd (true≢false (sym h))
held_low (line ∷ lines) zero s h = omega arith
held_low (line ∷ lines) (suc k) s h = (let low = held_low lines k s h in omega (arith, low))

-- at the start
first_copies : (f : Item → ℤ) (x : Item) (ys : List Item) → list_any (λ (c : Copy). is_item x c.item) (map (λ y. let c : Copy = record { item = y; value = f y; version = 0 } in c) ys) ≡ list_any (is_item x) ys
first_copies f x [] = refl
first_copies f x (y ∷ ys) = ap (λ b. is_item x y || b) (first_copies f x ys)

module _ (w : Workload) where
  first_holds : (s : Site) (x : Item) → holds_copy (first_site w s) x ≡ is_held w s x
  first_holds s x =
      first_copies (initial w) x (filter (is_held w s) (items w))
      ∙ same_tests (list_any (is_item x) (filter (is_held w s) (items w))) (is_held w s x) (kept_passes (is_held w s) x (items w))
      (λ held. kept_has (is_held w s) x (items w) held (counted 0 (length w.items) x (omega arith) (let low = held_low w.items x.0 s held in omega (arith, low))))

  abbrev pub AllHold : List SiteState → Type 0
  AllHold sites = (k : ℕ) (s : SiteState) → slice_get sites k ≡ Some s → HoldsOwn w k s

  open_holds : AllHold (open_world w).servers.sites
  open_holds k s at =
      let one = first_state w 1 w.sites k s at in
      let place : site (1 + k) ≡ site (k + 1) = ap site (let e : 1 + k ≡ k + 1 = omega arith in e) in
      λ x. ap (λ (z : SiteState). holds_copy z x) (sym one) ∙ ap (λ z. holds_copy (first_site w z) x) place ∙ first_holds (site (k + 1)) x

  -- a step
  hear_holds : (s : Servers) → ((k : ℕ) (state : SiteState) → slice_get s.sites k ≡ Some state → Ascend state.running) → AllHold s.sites → (server from : ℕ) (l : Letter) → AllHold (hear w s server from l).0.sites
  hear_holds s ascends all zero from l = all
  hear_holds s ascends all (suc zero) from l = all
  hear_holds s ascends all (suc (suc j)) from l = go (slice_get s.sites j) refl
    where
      go : (o : Option SiteState) → slice_get s.sites j ≡ o → AllHold (hear_at w s j from l o).0.sites
      go None at = all
      go (Some own) at = λ k z there. each k z there (same_or_not k j)
        where
          turn : Turn SiteState
          turn = hear_site w own from l

          each : (k : ℕ) (z : SiteState) → slice_get (slice_set s.sites j turn.state) k ≡ Some z → (k ≡ j) ⊎ (k ≢ j) → HoldsOwn w k z
          each k z there (inr differ) = all k z (sym (get_other s.sites j k turn.state differ) ∙ there)
          each k z there (inl e) =
              let is : turn.state ≡ z = some_is turn.state z (sym (get_set s.sites j turn.state (get_below s.sites j own at)) ∙ subst (λ i. slice_get (slice_set s.sites j turn.state) i ≡ Some z) e there) in
              λ x. ap (λ (y : SiteState). holds_copy y x) (sym is) ∙ step_holds w own from l (ascends j own at) x ∙ all j own at x ∙ ap (λ i. is_held w (site (i + 1)) x) (sym e)

  front_holds : (state : World) (server from : ℕ) (queue : List Letter) → WorldSays w state → AllHold state.servers.sites → AllHold (take_front w state server from queue).servers.sites
  front_holds state server from [] says all = all
  front_holds state server from (l ∷ rest) says all = hear_holds state.servers (λ k s at. (says.homes k s at).ascend) all server from l

  step : (schedule : List Pick) (p : Pick) → AllHold (run w schedule).servers.sites → AllHold (run w (schedule ++ p ∷ [])).servers.sites
  step schedule p all =
      let s = run w schedule in
      subst (λ (z : World). AllHold z.servers.sites) (sym (fold-append (pick w) (open_world w) schedule (p ∷ []))) (front_holds s p.server p.from (link s.links p.server p.from) (reaches w schedule) all)

  steps : (before more : List Pick) → AllHold (run w before).servers.sites → AllHold (run w (before ++ more)).servers.sites
  steps before [] all = subst (λ z. AllHold (run w z).servers.sites) (sym (append-nil before)) all
  steps before (p ∷ more) all = subst (λ z. AllHold (run w z).servers.sites) (append_assoc before (p ∷ []) more) (steps (before ++ p ∷ []) more (step before p all))

  pub runs_hold : (schedule : List Pick) (k : ℕ) (s : SiteState) → slice_get (run w schedule).servers.sites k ≡ Some s → HoldsOwn w k s
  runs_hold schedule = steps [] schedule open_holds
