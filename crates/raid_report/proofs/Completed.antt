-- What was read so far is the beginning of some report's lines.
use Rattle.std.proofs.Common.{◌≡◌, ℕ, ℤ, pos, ◌+◌, ◌-◌, ◌<◌, ◌≤◌, ◌^◌, List, [], ◌∷◌, ◌++◌, length, map, codes, refl, sym, ap, ◌∙◌, arith, append_assoc, length-append}
use Rattle.std.specs.List.{AllByRecursion}
use Rattle.std.proofs.lemmas.List.{append-nil}
use Rattle.raid_base.specs.declared.names.Item.{Item}
use Rattle.raid_base.specs.declared.names.Site.{Site}
use Rattle.raid_base.specs.declared.entry.Entry.{Entry}
use Rattle.raid_base.specs.declared.report.Report.{Report}
use Rattle.raid_base.specs.declared.report.CopyLine.{CopyLine}
use Rattle.raid_workload.specs.declared.workload.Workload.{Workload}
use Rattle.raid_workload.specs.Parts.{items}
use Rattle.raid_report.specs.declared.draft.Draft.{Draft}
use Rattle.raid_report.specs.declared.draft.Place.{Place}
use Rattle.raid_report.specs.declared.draft.Place.TheVariants.{Start, Entries, Tail, Over}
use Rattle.raid_report.specs.Spelling.{Word, entry_lines, order_words, final_words, copy_words, spelling}
use Rattle.raid_report.specs.Known.{IsEntryOf, IsReportOf, places, place_of}
use Rattle.raid_report.specs.Typed.{IsTypedEntry, IsTypedPair, IsTypedCopy, IsHeld}
use Rattle.raid_report.specs.Drafts.{report_of}
use Rattle.raid_report.proofs.Drafts.{head_line, begun_at, begun, item_of_pair, IsTail, IsDraftAt, IsDraft}
use Rattle.raid_report.proofs.Outcomes.{spelled_over}

-- a report that goes on from the lines
pub record IsCompleted (w : Workload) (lines : List (List Word)) : Type 0 where
  pub report : Report
  pub of : IsReportOf w report
  pub held : IsHeld report
  pub more : List (List Word)
  pub spelled : spelling w report ≡ lines ++ more

-- ---- zeros for the items and the copies that are left

abbrev zero_pair : Item → Item × ℤ
zero_pair x = (x, pos 0)

abbrev zero_copy : Site × Item → CopyLine
zero_copy p = record { site = p.0; item = p.1; value = pos 0; version = 0 }

pairs_are : (xs : List Item) → map item_of_pair (map zero_pair xs) ≡ xs
pairs_are [] = refl
pairs_are (x ∷ xs) = ap (λ (ys : List Item). x ∷ ys) (pairs_are xs)

copies_are : (ps : List (Site × Item)) → map place_of (map zero_copy ps) ≡ ps
copies_are [] = refl
copies_are (p ∷ ps) = ap (λ (qs : List (Site × Item)). p ∷ qs) (copies_are ps)

pairs_typed : (xs : List Item) → AllByRecursion IsTypedPair (map zero_pair xs)
pairs_typed [] = tt
pairs_typed (x ∷ xs) = (omega arith, pairs_typed xs)

copies_typed : (ps : List (Site × Item)) → AllByRecursion IsTypedCopy (map zero_copy ps)
copies_typed [] = tt
copies_typed (p ∷ ps) = (record { value = omega arith; version = omega arith }, copies_typed ps)

map_both : {X Y : Type 0} (f : X → Y) (xs ys : List X) → map f (xs ++ ys) ≡ map f xs ++ map f ys
map_both f [] ys = refl
map_both f (x ∷ xs) ys = ap (λ zs. f x ∷ zs) (map_both f xs ys)

both_hold : {X : Type 0} (P : X → Type 0) (xs ys : List X) → AllByRecursion P xs → AllByRecursion P ys → AllByRecursion P (xs ++ ys)
both_hold P [] ys h k = k
both_hold P (x ∷ xs) ys h k = (h.0, both_hold P xs ys h.1 k)

-- ---- from each place on

-- the lines of finals and copies, with what is left of both behind them
record IsFilledUp (w : Workload) (finals zeros : List (Item × ℤ)) (copies others : List CopyLine) : Type 0 where
  pub more : List (List Word)
  pub are : map (final_words w) (finals ++ zeros) ++ (map (copy_words w) (copies ++ others) ++ ((codes "done" ∷ []) ∷ [])) ≡ (map (final_words w) finals ++ map (copy_words w) copies) ++ more

filled_up : (w : Workload) (finals zeros : List (Item × ℤ)) (copies others : List CopyLine) → (0 < length copies → zeros ≡ []) → IsFilledUp w finals zeros copies others
filled_up w finals zeros [] others late = record {
  more = map (final_words w) zeros ++ (map (copy_words w) others ++ ((codes "done" ∷ []) ∷ []));
  are = ap (λ (ls : List (List Word)). ls ++ (map (copy_words w) others ++ ((codes "done" ∷ []) ∷ []))) (map_both (final_words w) finals zeros) ∙ simp (append_assoc, append-nil);
}
filled_up w finals [] (c ∷ copies) others late = record {
  more = map (copy_words w) others ++ ((codes "done" ∷ []) ∷ []);
  are = ap (λ (ls : List (Item × ℤ)). map (final_words w) ls ++ (map (copy_words w) ((c ∷ copies) ++ others) ++ ((codes "done" ∷ []) ∷ []))) (append-nil finals)
      ∙ ap (λ (ls : List (List Word)). map (final_words w) finals ++ (ls ++ ((codes "done" ∷ []) ∷ []))) (map_both (copy_words w) (c ∷ copies) others) ∙ simp append_assoc;
}
filled_up w finals (z ∷ zeros) (c ∷ copies) others late = absurd (let none : z ∷ zeros ≡ [] = late (omega arith) in cc)

-- from the order on
completed_tail : (w : Workload) (d : Draft) → IsTail w d → length d.entries < 2 ^ 32 - 1 → IsCompleted w (begun_at w Tail d)
unfolding spelling
completed_tail w d t few =
    let zeros = map zero_pair t.items_left in
    let others = map zero_copy t.places_left in
    let none_left : 0 < length d.copies → zeros ≡ [] = λ some. ap (map zero_pair) (t.late some) in
    let filled = filled_up w d.finals zeros d.copies others none_left in
    let r : Report = record { entries = d.entries; order = d.order; finals = d.finals ++ zeros; copies = d.copies ++ others } in
    record {
      report = r;
      of = record {
        entries = t.known;
        order = t.order;
        finals = map_both item_of_pair d.finals zeros ∙ ap (λ (xs : List Item). map item_of_pair d.finals ++ xs) (pairs_are t.items_left) ∙ t.finals;
        copies = map_both place_of d.copies others ∙ ap (λ (ps : List (Site × Item)). map place_of d.copies ++ ps) (copies_are t.places_left) ∙ t.copies;
      };
      held = record {
        typed = record {
          entries = t.typed;
          finals = both_hold IsTypedPair d.finals zeros t.values (pairs_typed t.items_left);
          copies = both_hold IsTypedCopy d.copies others t.typed_copies (copies_typed t.places_left);
        };
        few = few;
      };
      more = filled.more;
      spelled = ap (λ (ls : List (List Word)). head_line w ∷ (entry_lines w 1 d.entries ++ (order_words w d.order ∷ ls))) filled.are ∙ simp append_assoc;
    }

tail_of : (w : Workload) (es : List Entry) → Draft
tail_of w es = record { place = Tail; entries = es; order = []; finals = []; copies = [] }

is_tail : (w : Workload) (es : List Entry) → AllByRecursion (IsEntryOf w) es → AllByRecursion IsTypedEntry es → IsTail w (tail_of w es)
unfolding tail_of
is_tail w es h t = record {
  known = h;
  typed = t;
  order = tt;
  items_left = items w;
  finals = refl;
  values = tt;
  places_left = places w;
  copies = refl;
  typed_copies = tt;
  late = λ some. absurd (omega arith);
}

-- from some entries on
completed_entries : (w : Workload) (es : List Entry) → AllByRecursion (IsEntryOf w) es → AllByRecursion IsTypedEntry es → length es < 2 ^ 32 - 1 → IsCompleted w (head_line w ∷ entry_lines w 1 es)
unfolding tail_of
completed_entries w es h t few =
    let c = completed_tail w (tail_of w es) (is_tail w es h t) few in
    record {
      report = c.report;
      of = c.of;
      held = c.held;
      more = (order_words w [] ∷ []) ++ c.more;
      spelled = c.spelled ∙ simp append_assoc;
    }

completed_at : (w : Workload) (p : Place) (d : Draft) → IsDraftAt w p d → length d.entries < 2 ^ 32 - 1 → IsCompleted w (begun_at w p d)
completed_at w Start d is few =
    let c = completed_entries w [] tt tt (omega arith) in
    record { report = c.report; of = c.of; held = c.held; more = (head_line w ∷ []) ++ c.more; spelled = c.spelled }
completed_at w Entries d is few = completed_entries w d.entries is.known is.typed few
completed_at w Tail d is few = completed_tail w d is few
completed_at w Over d is few = record {
  report = report_of d;
  of = is.report;
  held = record { typed = is.typed; few = few };
  more = [];
  spelled = spelled_over w d ∙ sym (append-nil (begun_at w Over d));
}

pub completed : (w : Workload) (d : Draft) → IsDraft w d → length d.entries < 2 ^ 32 - 1 → IsCompleted w (begun w d)
completed w d is few = completed_at w d.place d is few

-- ---- there are no more entries than lines

entries_counted : (w : Workload) (k : ℕ) (es : List Entry) → length (entry_lines w k es) ≡ length es
entries_counted w k [] = refl
entries_counted w k (e ∷ es) = let c = entries_counted w (k + 1) es in omega arith

entries_within_at : (w : Workload) (p : Place) (d : Draft) → IsDraftAt w p d → length d.entries ≤ length (begun_at w p d)
entries_within_at w Start d is = omega (arith, ap (λ (e : Draft). length e.entries) is)
entries_within_at w Entries d is = omega (arith, entries_counted w 1 d.entries)
entries_within_at w Tail d is = omega (arith, entries_counted w 1 d.entries, length-append (entry_lines w 1 d.entries) (order_words w d.order ∷ (map (final_words w) d.finals ++ map (copy_words w) d.copies)))
entries_within_at w Over d is =
    let inner = length-append (entry_lines w 1 d.entries) (order_words w d.order ∷ (map (final_words w) d.finals ++ map (copy_words w) d.copies)) in
    omega (arith, entries_counted w 1 d.entries, inner, length-append (begun_at w Tail d) ((codes "done" ∷ []) ∷ []))

pub entries_within : (w : Workload) (d : Draft) → IsDraft w d → length d.entries ≤ length (begun w d)
entries_within w d is = entries_within_at w d.place d is
