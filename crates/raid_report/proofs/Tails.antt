-- The lines behind the order, and all lines: a draft that has read a line has its words as the next line.
use Rattle.std.proofs.Common.{◌≡◌, ◌==◌, ℕ, ℤ, zero, suc, ◌+◌, ◌<◌, ◌≤◌, Bool, true, false, cond, List, [], ◌∷◌, ◌++◌, length, map, codes, Option, Some, None, refl, sym, ap, subst, ◌∙◌, arith, append_assoc, length-append}
use Rattle.std.specs.Prelude.{slice_get, nat_lt}
use Rattle.std.specs.Fmt.{decimal, signed_decimal}
use Rattle.std.proofs.lemmas.Bool.{eqb-true, and_parts, ltb-true}
use Rattle.std.proofs.lemmas.Bool.Decides.{nat_tests}
use Rattle.std.proofs.lemmas.List.{append-nil, nil_from_length}
use Rattle.raid_base.specs.declared.names.Item.{Item}
use Rattle.raid_base.specs.declared.names.Site.{Site}
use Rattle.raid_base.specs.declared.report.CopyLine.{CopyLine}
use Rattle.raid_workload.specs.declared.workload.Workload.{Workload}
use Rattle.raid_workload.specs.Parts.{count_from, items}
use Rattle.raid_report.specs.declared.draft.Draft.{Draft}
use Rattle.raid_report.specs.declared.draft.Place.{Place}
use Rattle.raid_report.specs.declared.draft.Place.TheVariants.{Start, Entries, Tail, Over}
use Rattle.raid_report.specs.Spelling.{Word, order_words, entry_lines, final_words, copy_words, name_of, site_word}
use Rattle.raid_report.specs.Known.{places, place_of}
use Rattle.raid_report.specs.Typed.{IsTypedPair, IsTypedCopy}
use Rattle.raid_report.specs.Next.{end_at, number_at, value_at, site_at, item_at}
use Rattle.raid_report.specs.Drafts.{where_true, order_line, numbered_line, version_line, final_line, is_place, copy_line, done_line, tail_line, line_at, line_after}
use Rattle.raid_report.proofs.Bind.{bind_some, some_is, end_exact}
use Rattle.raid_report.proofs.ReadEntries.{before, none_left, number_at_exact, value_at_exact, site_at_exact, item_at_exact}
use Rattle.raid_report.proofs.Aborts.{by_word}
use Rattle.raid_report.proofs.Drafts.{head_line, begun_at, item_of_pair, IsTail, IsDraftAt, IsDraft, IsNext, IsAt, at_next, pushed, map_pushed, where_exact, version_exact, numbered_exact, order_line_exact}

abbrev pub item : ℕ → Item
item k = record { 0 = k }

-- ---- lists that go on

pub length_map : {X Y : Type 0} (f : X → Y) (xs : List X) → length (map f xs) ≡ length xs
length_map f [] = refl
length_map f (x ∷ xs) = let e = length_map f xs in omega arith

-- what stands at the place behind the first part is the first of the other
pub at_seam : {X : Type 0} (xs : List X) (y : X) (ys all : List X) → xs ++ y ∷ ys ≡ all → slice_get all (length xs) ≡ Some y
at_seam xs y ys all e = rw (← e) (seam xs y ys)
  where
    seam : {X : Type 0} (xs : List X) (y : X) (ys : List X) → slice_get (xs ++ y ∷ ys) (length xs) ≡ Some y
    seam [] y ys = refl
    seam (x ∷ xs) y ys = seam xs y ys

-- there is more where the first part is shorter than all
more_left : {X : Type 0} (xs ys all : List X) → xs ++ ys ≡ all → length xs < length all → (q : X × List X) × (ys ≡ q.0 ∷ q.1)
more_left xs [] all e less = absurd (omega (arith, ap length e, length-append xs []))
more_left xs (y ∷ ys) all e less = ((y, ys), refl)

none_more : {X : Type 0} (xs ys all : List X) → xs ++ ys ≡ all → length all ≤ length xs → ys ≡ []
none_more xs ys all e le = nil_from_length ys (omega (arith, ap length e, length-append xs ys))

counted_at : (k n i : ℕ) → i < n → slice_get (map item (count_from k n)) i ≡ Some (item (k + i))
counted_at k zero i less = absurd (omega arith)
counted_at k (suc n) zero less = ap (λ j. let o : Option Item = Some (item j) in o) (omega arith)
counted_at k (suc n) (suc i) less = counted_at (k + 1) n i (omega arith) ∙ ap (λ j. let o : Option Item = Some (item j) in o) (omega arith)

counted_length : (k n : ℕ) → length (count_from k n) ≡ n
counted_length k zero = refl
counted_length k (suc n) = let e = counted_length (k + 1) n in omega arith

pub items_length : (w : Workload) → length (items w) ≡ length w.items
items_length w = length_map (λ k. item k) (count_from 0 (length w.items)) ∙ counted_length 0 (length w.items)

pub items_at : (w : Workload) (k : ℕ) → k < length w.items → slice_get (items w) k ≡ Some (item k)
items_at w k less = counted_at 0 (length w.items) k less ∙ ap (λ j. let o : Option Item = Some (item j) in o) (omega arith)

-- one element more of the first part
shifted : {X Y : Type 0} (f : X → Y) (xs : List X) (x : X) (y : Y) (ys all : List Y) → map f xs ++ y ∷ ys ≡ all → f x ≡ y → map f (xs ++ x ∷ []) ++ ys ≡ all
shifted f xs x y ys all e is = ap (λ zs. zs ++ ys) (map_pushed f xs x) ∙ rw is (simp append_assoc) ∙ e

-- ---- a final value

none_yet : (n : ℕ) (left : List Item) (y : Item) (ys : List Item) → (0 < n → left ≡ []) → left ≡ y ∷ ys → n ≡ 0
none_yet zero left y ys late e = refl
none_yet (suc n) left y ys late e = absurd (let none : left ≡ [] = late (omega arith) in cc)

last : (xs : List (List Word)) (x : List Word) (cs : List CopyLine) (line : List Word) (f : CopyLine → List Word) → cs ≡ [] → x ≡ line → (xs ++ x ∷ []) ++ map f cs ≡ (xs ++ map f cs) ++ line ∷ []
last xs x [] line f none is = rw (append-nil (xs ++ x ∷ []), append-nil xs, is) refl
last xs x (c ∷ cs) line f none is = absurd cc

-- a line more at the end of the lines that were read
grows : (w : Workload) (d : Draft) (rest more : List (List Word)) (line : List Word) → more ≡ rest ++ line ∷ [] →
    head_line w ∷ (entry_lines w 1 d.entries ++ (order_words w d.order ∷ more)) ≡ (head_line w ∷ (entry_lines w 1 d.entries ++ (order_words w d.order ∷ rest))) ++ line ∷ []
grows w d rest more line e =
    ap (λ (ls : List (List Word)). head_line w ∷ (entry_lines w 1 d.entries ++ (order_words w d.order ∷ ls))) e
    ∙ simp append_assoc

tail_grows : (w : Workload) (d : Draft) (p : Item × ℤ) (line : List Word) → d.copies ≡ [] → final_words w p ≡ line →
    begun_at w Tail (record d { finals = d.finals ++ p ∷ [] }) ≡ begun_at w Tail d ++ line ∷ []
tail_grows w d p line none is =
    grows w d (map (final_words w) d.finals ++ map (copy_words w) d.copies) (map (final_words w) (d.finals ++ p ∷ []) ++ map (copy_words w) d.copies) line
    (ap (λ (ls : List (List Word)). ls ++ map (copy_words w) d.copies) (map_pushed (final_words w) d.finals p) ∙ last (map (final_words w) d.finals) (final_words w p) d.copies line (copy_words w) none is)

final_exact : (w : Workload) (d : Draft) (words : List Word) (e : Draft) → d.place ≡ Tail → IsTail w d → length d.finals < length w.items → final_line w d words ≡ Some e → IsNext w d (codes "final" ∷ words) e
unfolding final_line
final_exact w d words e at t less h =
    let x = bind_some (item_at w words) _ e h in
    let xx = item_at_exact w words x.0 x.1 in
    let r = bind_some (where_true (x.0.0.0 == length d.finals)) _ e x.2 in
    let same = eqb-true x.0.0.0 (length d.finals) (where_exact (x.0.0.0 == length d.finals) r.0 r.1) in
    let z = bind_some (value_at x.0.1) _ e r.2 in
    let zx = value_at_exact x.0.1 z.0 z.1 in
    let n = bind_some (end_at z.0.1) _ e z.2 in
    let made : Draft = record d { finals = d.finals ++ (x.0.0, z.0.0) ∷ [] } in
    let line : words ≡ name_of w x.0.0 ∷ signed_decimal z.0.0 ∷ [] = before xx.0 (before zx.0 (end_exact z.0.1 n.0 n.1)) in
    let long = length_map item_of_pair d.finals in
    let left = more_left (map item_of_pair d.finals) t.items_left (items w) t.finals (omega (arith, items_length w)) in
    let split : map item_of_pair d.finals ++ left.0.0 ∷ left.0.1 ≡ items w = ap (λ (ys : List Item). map item_of_pair d.finals ++ ys) (sym left.1) ∙ t.finals in
    let here : slice_get (items w) (length d.finals) ≡ Some left.0.0 = ap (slice_get (items w)) (sym long) ∙ at_seam (map item_of_pair d.finals) left.0.0 left.0.1 (items w) split in
    let first : x.0.0 ≡ left.0.0 = ap item same ∙ some_is (item (length d.finals)) left.0.0 (sym (items_at w (length d.finals) less) ∙ here) in
    let no_copies : d.copies ≡ [] = nil_from_length d.copies (omega (arith, none_yet (length d.copies) t.items_left left.0.0 left.0.1 t.late left.1)) in
    let next : IsAt w d Tail (begun_at w Tail d ++ (codes "final" ∷ words) ∷ []) made = record {
      place = at;
      draft = record {
        known = t.known;
        typed = t.typed;
        order = t.order;
        items_left = left.0.1;
        finals = shifted item_of_pair d.finals (x.0.0, z.0.0) left.0.0 left.0.1 (items w) split first;
        values = pushed IsTypedPair d.finals (x.0.0, z.0.0) t.values zx.1;
        places_left = t.places_left;
        copies = t.copies;
        typed_copies = t.typed_copies;
        late = λ some. absurd (omega (arith, ap length no_copies));
      };
      lines_are = tail_grows w d (x.0.0, z.0.0) (codes "final" ∷ words) no_copies (ap (λ (xs : List Word). codes "final" ∷ xs) (sym line));
    } in
    subst (IsNext w d (codes "final" ∷ words)) (some_is made e n.2) (at_next w d Tail Tail (codes "final" ∷ words) made at next)

-- ---- a copy

copies_grow : (w : Workload) (d : Draft) (c : CopyLine) (line : List Word) → copy_words w c ≡ line →
    begun_at w Tail (record d { copies = d.copies ++ c ∷ [] }) ≡ begun_at w Tail d ++ line ∷ []
copies_grow w d c line is =
    grows w d (map (final_words w) d.finals ++ map (copy_words w) d.copies) (map (final_words w) d.finals ++ map (copy_words w) (d.copies ++ c ∷ [])) line
    (ap (λ (ls : List (List Word)). map (final_words w) d.finals ++ ls) (map_pushed (copy_words w) d.copies c ∙ ap (λ (l : List Word). map (copy_words w) d.copies ++ l ∷ []) is) ∙ (simp append_assoc))

placed : (o : Option (Site × Item)) (s : Site) (x : Item) → is_place o s x ≡ true → o ≡ (let p : Option (Site × Item) = Some (s, x) in p)
placed None s x h = absurd cc
placed (Some p) s x h =
    let q = and_parts (p.0.0 == s.0) (p.1.0 == x.0) h in
    let a = eqb-true p.0.0 s.0 q.0 in
    let b = eqb-true p.1.0 x.0 q.1 in
    same p.0 s p.1 x a b
  where
    same : (r s : Site) (y x : Item) → r.0 ≡ s.0 → y.0 ≡ x.0 → (let p : Option (Site × Item) = Some (r, y) in p) ≡ (let p : Option (Site × Item) = Some (s, x) in p)
    same r s y x a b = ap (λ k. let t : Site = record { 0 = k } in let p : Option (Site × Item) = Some (t, y) in p) a ∙ ap (λ k. let z : Item = record { 0 = k } in let p : Option (Site × Item) = Some (s, z) in p) b

copy_exact : (w : Workload) (d : Draft) (words : List Word) (e : Draft) → d.place ≡ Tail → IsTail w d → length w.items ≤ length d.finals → length d.copies < length (places w) → copy_line w d words ≡ Some e → IsNext w d (codes "copy" ∷ words) e
unfolding copy_line
copy_exact w d words e at t whole less h =
    let s = bind_some (site_at w words) _ e h in
    let sx = site_at_exact w words s.0 s.1 in
    let x = bind_some (item_at w s.0.1) _ e s.2 in
    let xx = item_at_exact w s.0.1 x.0 x.1 in
    let r = bind_some (where_true (is_place (slice_get (places w) (length d.copies)) s.0.0 x.0.0)) _ e x.2 in
    let there = placed (slice_get (places w) (length d.copies)) s.0.0 x.0.0 (where_exact (is_place (slice_get (places w) (length d.copies)) s.0.0 x.0.0) r.0 r.1) in
    let z = bind_some (value_at x.0.1) _ e r.2 in
    let zx = value_at_exact x.0.1 z.0 z.1 in
    let v = bind_some (number_at 4294967295 z.0.1) _ e z.2 in
    let vx = number_at_exact 4294967295 z.0.1 v.0 v.1 in
    let n = bind_some (end_at v.0.1) _ e v.2 in
    let c : CopyLine = record { site = s.0.0; item = x.0.0; value = z.0.0; version = v.0.0 } in
    let made : Draft = record d { copies = d.copies ++ c ∷ [] } in
    let line : words ≡ site_word s.0.0 ∷ name_of w x.0.0 ∷ signed_decimal z.0.0 ∷ decimal v.0.0 ∷ [] = before sx.0 (before xx.0 (before zx.0 (before vx.0 (end_exact v.0.1 n.0 n.1)))) in
    let left = more_left (map place_of d.copies) t.places_left (places w) t.copies (omega (arith, length_map place_of d.copies)) in
    let split : map place_of d.copies ++ left.0.0 ∷ left.0.1 ≡ places w = ap (λ (ys : List (Site × Item)). map place_of d.copies ++ ys) (sym left.1) ∙ t.copies in
    let here : slice_get (places w) (length d.copies) ≡ Some left.0.0 = ap (slice_get (places w)) (sym (length_map place_of d.copies)) ∙ at_seam (map place_of d.copies) left.0.0 left.0.1 (places w) split in
    let first : place_of c ≡ left.0.0 = some_is (s.0.0, x.0.0) left.0.0 (sym there ∙ here) in
    let next : IsAt w d Tail (begun_at w Tail d ++ (codes "copy" ∷ words) ∷ []) made = record {
      place = at;
      draft = record {
        known = t.known;
        typed = t.typed;
        order = t.order;
        items_left = t.items_left;
        finals = t.finals;
        values = t.values;
        places_left = left.0.1;
        copies = shifted place_of d.copies c left.0.0 left.0.1 (places w) split first;
        typed_copies = pushed IsTypedCopy d.copies c t.typed_copies (record { value = zx.1; version = omega (arith, vx.1) });
        late = λ some. none_more (map item_of_pair d.finals) t.items_left (items w) t.finals (omega (arith, items_length w, length_map item_of_pair d.finals));
      };
      lines_are = copies_grow w d c (codes "copy" ∷ words) (ap (λ (xs : List Word). codes "copy" ∷ xs) (sym line));
    } in
    subst (IsNext w d (codes "copy" ∷ words)) (some_is made e n.2) (at_next w d Tail Tail (codes "copy" ∷ words) made at next)

-- ---- the last line

done_exact : (w : Workload) (d : Draft) (words : List Word) (e : Draft) → d.place ≡ Tail → IsTail w d → length w.items ≤ length d.finals → length (places w) ≤ length d.copies → done_line d words ≡ Some e → IsNext w d (codes "done" ∷ words) e
unfolding done_line
done_exact w d words e at t whole all h =
    let n = bind_some (end_at words) _ e h in
    let none = end_exact words n.0 n.1 in
    let made : Draft = record d { place = Over } in
    let no_items = none_more (map item_of_pair d.finals) t.items_left (items w) t.finals (omega (arith, items_length w, length_map item_of_pair d.finals)) in
    let no_places = none_more (map place_of d.copies) t.places_left (places w) t.copies (omega (arith, length_map place_of d.copies)) in
    let next : IsAt w d Over (begun_at w Tail d ++ (codes "done" ∷ words) ∷ []) made = record {
      place = refl;
      draft = record {
        report = record {
          entries = t.known;
          order = t.order;
          finals = sym (append-nil (map item_of_pair d.finals)) ∙ ap (λ (ys : List Item). map item_of_pair d.finals ++ ys) (sym no_items) ∙ t.finals;
          copies = sym (append-nil (map place_of d.copies)) ∙ ap (λ (ys : List (Site × Item)). map place_of d.copies ++ ys) (sym no_places) ∙ t.copies;
        };
        typed = record { entries = t.typed; finals = t.values; copies = t.typed_copies };
      };
      lines_are = ap (λ (xs : List Word). begun_at w Tail d ++ (codes "done" ∷ xs) ∷ []) (sym none);
    } in
    subst (IsNext w d (codes "done" ∷ words)) (some_is made e n.2) (at_next w d Tail Over (codes "done" ∷ words) made at next)

-- ---- all lines

either_test : {X : Type 0} (b : Bool) (x r : Option X) (y : X) (P : Type 0) → cond b x r ≡ Some y → (b ≡ true → x ≡ Some y → P) → (b ≡ false → r ≡ Some y → P) → P
either_test true x r y P e here there = here refl e
either_test false x r y P e here there = there refl e

less_is : (a b : ℕ) → nat_lt a b ≡ true → a < b
less_is a b h = ltb-true a b h

not_less : (a b : ℕ) → nat_lt a b ≡ false → b ≤ a
not_less a b h = grind (arith, nat_tests)

tail_exact : (w : Workload) (d : Draft) (word : Word) (words : List Word) (e : Draft) → d.place ≡ Tail → IsTail w d → tail_line w d word words ≡ Some e → IsNext w d (word ∷ words) e
unfolding tail_line
tail_exact w d word words e at t h =
    either_test (nat_lt (length d.finals) (length w.items)) _ _ e (IsNext w d (word ∷ words) e) h
    (λ less h. by_word word (codes "final") (final_line w d words) None e (λ x. IsNext w d (x ∷ words) e) h (final_exact w d words e at t (less_is (length d.finals) (length w.items) less)) (none_left e (IsNext w d (word ∷ words))))
    (λ more h. either_test (nat_lt (length d.copies) (length (places w))) _ _ e (IsNext w d (word ∷ words) e) h
    (λ less h. by_word word (codes "copy") (copy_line w d words) None e (λ x. IsNext w d (x ∷ words) e) h (copy_exact w d words e at t (not_less (length d.finals) (length w.items) more) (less_is (length d.copies) (length (places w)) less)) (none_left e (IsNext w d (word ∷ words))))
    (λ all h. by_word word (codes "done") (done_line d words) None e (λ x. IsNext w d (x ∷ words) e) h (done_exact w d words e at t (not_less (length d.finals) (length w.items) more) (not_less (length d.copies) (length (places w)) all)) (none_left e (IsNext w d (word ∷ words)))))

line_at_exact : (w : Workload) (p : Place) (d : Draft) (word : Word) (words : List Word) (e : Draft) → d.place ≡ p → IsDraftAt w p d → line_at w p d word words ≡ Some e → IsNext w d (word ∷ words) e
unfolding line_at
line_at_exact w Start d word words e at is h = by_word word (codes "report") (version_line w d words) None e (λ x. IsNext w d (x ∷ words) e) h (version_exact w d words e is) (none_left e (IsNext w d (word ∷ words)))
line_at_exact w Entries d word words e at is h = by_word word (codes "order") (order_line w d words) (numbered_line w d word words) e (λ x. IsNext w d (x ∷ words) e) h (order_line_exact w d words e at is) (numbered_exact w d word words e at is)
line_at_exact w Tail d word words e at is h = tail_exact w d word words e at is h
line_at_exact w Over d word words e at is h = absurd cc

pub line_exact : (w : Workload) (d : Draft) (words : List Word) (e : Draft) → IsDraft w d → line_after w d words ≡ Some e → IsNext w d words e
unfolding line_after
line_exact w d [] e is h = absurd cc
line_exact w d (word ∷ words) e is h = line_at_exact w d.place d word words e refl is h
