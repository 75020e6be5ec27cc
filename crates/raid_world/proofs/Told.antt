-- What is told at the end: items, values, copies.
use Rattle.std.proofs.Common.{◌≡◌, ℕ, ℤ, zero, suc, ◌+◌, List, [], ◌∷◌, ◌++◌, map, take, pos, unwrap_or, Some, arith, sym, ap, ◌∙◌, refl, append-nil, append_assoc}
use Rattle.std.specs.Prelude.{slice_get, slice_index_or, flat_map}
use Rattle.std.specs.Option.{option_map_or}
use Rattle.std.proofs.lemmas.List.{map-append}
use Rattle.std.proofs.lemmas.List.Sums.{fold_push}
use Rattle.raid_base.specs.declared.names.Item.{Item}
use Rattle.raid_base.specs.declared.entry.Entry.{Entry}
use Rattle.raid_base.specs.declared.entry.Noted.{Noted}
use Rattle.raid_base.specs.declared.names.Txn.{Txn}
use Rattle.raid_base.specs.declared.report.Report.{Report}
use Rattle.raid_base.specs.declared.report.CopyLine.{CopyLine}
use Rattle.raid_base.specs.Find.{first_of}
use Rattle.raid_workload.specs.declared.workload.Workload.{Workload}
use Rattle.raid_workload.specs.declared.workload.ItemLine.{ItemLine}
use Rattle.raid_workload.specs.Parts.{count_from, initial, items}
use Rattle.raid_rules.specs.Entries.{writes_of}
use Rattle.raid_rules.specs.History.{noted, next}
use Rattle.raid_rules.proofs.Push.{noted_push}
use Rattle.raid_legal.specs.Seen.{value_of}
use Rattle.raid_rules.specs.Conflict.{serial_order}
use Rattle.raid_steps.specs.World as steps
use Rattle.raid_steps.specs.World.{copy_lines}
use Rattle.raid_site.specs.declared.server.SiteServer.{SiteServer}
use Rattle.raid_site.specs.Server.{state_of}
use Rattle.raid_world.proofs.Serving.{count_push}

abbrev pub item : ℕ → Item
item k = record { 0 = k }

-- the items whose numbers are below a number
abbrev pub items_below : ℕ → List Item
items_below n = map item (count_from 0 n)

pub items_more : {Y : Type 0} (f : Item → Y) (k : ℕ) → map f (items_below (k + 1)) ≡ map f (items_below k) ++ f (item k) ∷ []
items_more f k =
    let e : k + 1 ≡ suc k = omega arith in
    let z : 0 + k ≡ k = omega arith in
    ap (λ n. map f (items_below n)) e ∙ ap (λ ks. map f (map item ks)) (count_push 0 k) ∙ ap (map f) (map-append item (count_from 0 k) ((0 + k) ∷ []))
    ∙ map-append f (items_below k) (item (0 + k) ∷ []) ∙ ap (λ n. map f (items_below k) ++ f (item n) ∷ []) z

taken_next : {X : Type 0} (xs : List X) (k : ℕ) (x : X) → slice_get xs k ≡ Some x → take (suc k) xs ≡ take k xs ++ x ∷ []
taken_next [] k x q = absurd (cc q)
taken_next (y ∷ ys) zero x q = let h : y ≡ x = cc q in ap (λ z. z ∷ []) h
taken_next (y ∷ ys) (suc k) x q = ap (λ zs. y ∷ zs) (taken_next ys k x q)

-- one entry more
pub taken : {X : Type 0} (xs : List X) (k : ℕ) (x : X) → slice_get xs k ≡ Some x → take (k + 1) xs ≡ take k xs ++ x ∷ []
taken xs k x q = (let e : k + 1 ≡ suc k = omega arith in ap (λ n. take n xs) e) ∙ taken_next xs k x q

pub value_more : (w : Workload) (h : List Entry) (k : ℕ) (e : Entry) (x : Item) → slice_get h k ≡ Some e →
    value_of w (noted (take (k + 1) h)) x ≡ unwrap_or (first_of x (writes_of e)) (value_of w (noted (take k h)) x)
value_more w h k e x q =
    ap (λ g. value_of w (noted g) x) (taken h k e q) ∙ ap (λ p. value_of w p x) (noted_push (take k h) e)
    ∙ fold_push (λ v (n : Noted). unwrap_or (first_of x (writes_of n.entry)) v) (initial w x) (noted (take k h)) (next (noted (take k h)) e)

-- the values at the start
pub first_at : (lines : List ItemLine) (k : ℕ) → slice_index_or (map (λ (line : ItemLine). line.value) lines) k (pos 0) ≡ option_map_or (λ (line : ItemLine). line.value) (slice_get lines k) (pos 0)
first_at [] k = refl
first_at (l ∷ ls) zero = refl
first_at (l ∷ ls) (suc k) = first_at ls k

-- the copies of one site more
pub copies_more : (sites : List SiteServer) (k : ℕ) (s : SiteServer) → slice_get sites k ≡ Some s →
    flat_map copy_lines (map state_of (take (k + 1) sites)) ≡ flat_map copy_lines (map state_of (take k sites)) ++ copy_lines (state_of s)
copies_more sites k s q =
    ap (λ ss. flat_map copy_lines (map state_of ss)) (taken sites k s q) ∙ go (take k sites)
  where
    go : (ss : List SiteServer) → flat_map copy_lines (map state_of (ss ++ s ∷ [])) ≡ flat_map copy_lines (map state_of ss) ++ copy_lines (state_of s)
    go [] = append-nil (copy_lines (state_of s))
    go (t ∷ ts) = ap (λ ls. copy_lines (state_of t) ++ ls) (go ts) ∙ sym (append_assoc (copy_lines (state_of t)) (flat_map copy_lines (map state_of ts)) (copy_lines (state_of s)))

-- all together
pub report_is : (w : Workload) (s : steps.Servers) (h es : List Entry) (order : List Txn) (finals : List (Item × ℤ)) (copies : List CopyLine) → h ≡ s.sequencer.history → es ≡ h →
    order ≡ serial_order (noted s.sequencer.history) → finals ≡ map (λ x. (x, value_of w (noted h) x)) (items w) → copies ≡ flat_map copy_lines s.sites →
    (let r : Report = record { entries = es; order = order; finals = finals; copies = copies } in r) ≡ steps.report w s
report_is w s h es order finals copies here e o f c =
    let told : List Entry → List Txn → List (Item × ℤ) → List CopyLine → Report = λ (a : List Entry) (b : List Txn) (g : List (Item × ℤ)) (d : List CopyLine). record { entries = a; order = b; finals = g; copies = d } in
    ap (λ a. told a order finals copies) (e ∙ here) ∙ ap (λ b. told s.sequencer.history b finals copies) o
    ∙ ap (λ g. told s.sequencer.history (serial_order (noted s.sequencer.history)) g copies) (f ∙ ap (λ p. map (λ x. (x, value_of w (noted p) x)) (items w)) here)
    ∙ ap (λ d. told s.sequencer.history (serial_order (noted s.sequencer.history)) (map (λ x. (x, value_of w (noted s.sequencer.history) x)) (items w)) d) c
