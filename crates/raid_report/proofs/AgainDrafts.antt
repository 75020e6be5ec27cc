-- What is written is read again: the lines of a report.
use Rattle.std.proofs.Common.{◌≡◌, ◌==◌, ℕ, ℤ, ◌+◌, ◌-◌, ◌<◌, ◌^◌, true, false, List, [], ◌∷◌, ◌++◌, length, map, codes, Option, Some, refl, sym, ap, ◌∙◌, arith, append_assoc, length-append}
use Rattle.std.specs.Prelude.{bytes_eq, nat_lt, slice_get}
use Rattle.std.specs.List.{list_all, AllByRecursion}
use Rattle.std.specs.Fmt.{decimal, signed_decimal}
use Rattle.std.proofs.lemmas.Bool.{lt-ltb, both_ways}
use Rattle.std.proofs.lemmas.Bool.Decides.{nat_tests}
use Rattle.std.proofs.lemmas.List.{append-nil}
use Rattle.raid_base.specs.declared.names.Txn.{Txn}
use Rattle.raid_base.specs.declared.names.Item.{Item}
use Rattle.raid_base.specs.declared.entry.Entry.{Entry}
use Rattle.raid_base.specs.declared.report.Report.{Report}
use Rattle.raid_base.specs.declared.report.CopyLine.{CopyLine}
use Rattle.raid_workload.specs.declared.workload.Workload.{Workload}
use Rattle.raid_workload.specs.Parts.{items}
use Rattle.raid_pieces.specs.Numbers.{is_digit}
use Rattle.raid_pieces.proofs.Written.{number_again, digits_are, same_bytes}
use Rattle.raid_report.specs.declared.draft.Draft.{Draft}
use Rattle.raid_report.specs.declared.draft.Place.TheVariants.{Entries, Tail, Over}
use Rattle.raid_report.specs.Spelling.{Word, txn_word, txns_words, order_words, entry_words, entry_lines, final_words, copy_words, spelling, name_of}
use Rattle.raid_report.specs.Known.{KnowsTxn, KnowsSite, KnowsItem, KnowsCopy, IsEntryOf, IsReportOf, places, place_of}
use Rattle.raid_report.specs.Typed.{IsTypedEntry, IsTypedPair, IsTypedCopy, IsHeld}
use Rattle.raid_report.specs.Next.{end_at}
use Rattle.raid_report.specs.Drafts.{opening, version_line, all_txns, no_txns, order_of, order_line, numbered_line, final_line, copy_line, done_line, tail_line, line_at, line_after, lines_after}
use Rattle.raid_report.proofs.Facts.{sized}
use Rattle.raid_report.proofs.ReadWords.{txn_again}
use Rattle.raid_report.proofs.AgainEntries.{number_at_again, value_at_again, site_at_again, item_at_again, entry_again}
use Rattle.raid_report.proofs.Drafts.{head_line, item_of_pair}
use Rattle.raid_report.proofs.Tails.{item, length_map, at_seam, items_at, items_length}
use Rattle.raid_report.proofs.Lists.{copies_known, places_sited}

abbrev pub entries_draft : List Entry → Draft
entries_draft es = record { place = Entries; entries = es; order = []; finals = []; copies = [] }

abbrev pub tail_draft : List Entry → List Txn → List (Item × ℤ) → List CopyLine → Draft
tail_draft es ts fs cs = record { place = Tail; entries = es; order = ts; finals = fs; copies = cs }

abbrev pub over_draft : Report → Draft
over_draft r = record { place = Over; entries = r.entries; order = r.order; finals = r.finals; copies = r.copies }

same_number : (n : ℕ) → (n == n) ≡ true
same_number n = grind (arith, nat_tests)

first_again : (w : Workload) → line_after w opening (head_line w) ≡ Some (entries_draft [])
unfolding line_after line_at version_line end_at
first_again w =
    let z = sized w in
    rw (number_at_again 255 w.version [] (omega (arith, z.version)) (omega (arith, z.version))) (rw (same_number w.version) refl)

no_order : (n : ℕ) → n < 2 ^ 64 → bytes_eq (decimal n) (codes "order") ≡ false
no_order n h =
    elim (bytes_eq (decimal n) (codes "order")) as (λ b. bytes_eq (decimal n) (codes "order") ≡ b → b ≡ false) [
      | true ↦ λ e. absurd (both_ways false refl (sym (ap (list_all is_digit) (same_bytes (decimal n) (codes "order") e)) ∙ digits_are n h))
      | false ↦ λ e. refl
    ] refl

numbered_again : (w : Workload) (es : List Entry) (e : Entry) (k : ℕ) → k ≡ length es + 1 → k < 2 ^ 32 → IsEntryOf w e → IsTypedEntry e →
    line_after w (entries_draft es) (decimal k ∷ entry_words w e) ≡ Some (entries_draft (es ++ e ∷ []))
unfolding line_after line_at numbered_line
numbered_again w es e k is few h t =
    let right : (k == length es + 1) ≡ true = rw is (same_number (length es + 1)) in
    rw (no_order k (omega arith), number_again 4294967295 k (omega arith) few, right, entry_again w e h t) refl

lines_step : (w : Workload) (d e : Draft) (words : List Word) (lines : List (List Word)) → line_after w d words ≡ Some e → lines_after w (Some d) (words ∷ lines) ≡ lines_after w (Some e) lines
lines_step w d e words lines h = ap (λ o. lines_after w o lines) h

entries_again : (w : Workload) (es more : List Entry) (k : ℕ) (rest : List (List Word)) → k ≡ length es + 1 → length es + length more < 2 ^ 32 - 1 → AllByRecursion (IsEntryOf w) more → AllByRecursion IsTypedEntry more →
    lines_after w (Some (entries_draft es)) (entry_lines w k more ++ rest) ≡ lines_after w (Some (entries_draft (es ++ more))) rest
entries_again w es [] k rest is few h t = ap (λ xs. lines_after w (Some (entries_draft xs)) rest) (sym (append-nil es))
entries_again w es (e ∷ more) k rest is few h t =
    lines_step w (entries_draft es) (entries_draft (es ++ e ∷ [])) (decimal k ∷ entry_words w e) (entry_lines w (k + 1) more ++ rest) (numbered_again w es e k is (omega arith) h.0 t.0)
    ∙ entries_again w (es ++ e ∷ []) more (k + 1) rest (omega (arith, length-append es (e ∷ []))) (omega (arith, length-append es (e ∷ []))) h.1 t.1
    ∙ ap (λ xs. lines_after w (Some (entries_draft xs)) rest) (append_assoc es (e ∷ []) more)

all_txns_again : (w : Workload) (ts : List Txn) → AllByRecursion (KnowsTxn w) ts → all_txns w (map (txn_word w) ts) ≡ Some ts
unfolding all_txns
all_txns_again w [] h = refl
all_txns_again w (t ∷ ts) h = rw (txn_again w t h.0, all_txns_again w ts h.1) refl

order_again : (w : Workload) (ts : List Txn) → AllByRecursion (KnowsTxn w) ts → order_of w (txns_words w ts) ≡ Some ts
unfolding order_of no_txns end_at
order_again w [] h = refl
order_again w (t ∷ ts) h = all_txns_again w (t ∷ ts) h

order_line_again : (w : Workload) (es : List Entry) (ts : List Txn) → AllByRecursion (KnowsTxn w) ts → line_after w (entries_draft es) (order_words w ts) ≡ Some (tail_draft es ts [] [])
unfolding line_after line_at order_line
order_line_again w es ts h = rw (order_again w ts h) refl

-- ---- finals

final_again : (w : Workload) (es : List Entry) (ts : List Txn) (fs : List (Item × ℤ)) (g : Item × ℤ) → length fs < length w.items → g.0 ≡ item (length fs) → IsTypedPair g →
    line_after w (tail_draft es ts fs []) (final_words w g) ≡ Some (tail_draft es ts (fs ++ g ∷ []) [])
unfolding line_after line_at tail_line final_line end_at
final_again w es ts fs g less is t =
    let more : nat_lt (length fs) (length w.items) ≡ true = lt-ltb (length fs) (length w.items) less in
    let place : g.0.0 ≡ length fs = ap (λ (x : Item). x.0) is in
    let right : (g.0.0 == length fs) ≡ true = rw place (same_number (length fs)) in
    rw (more, item_at_again w g.0 (signed_decimal g.1 ∷ []) (omega (arith, place)), right, value_at_again g.1 [] t) refl

seam_less : {X : Type 0} (xs : List X) (y : X) (ys all : List X) → xs ++ y ∷ ys ≡ all → length xs < length all
seam_less xs y ys all e = omega (arith, ap length e, length-append xs (y ∷ ys))

some_same : {X : Type 0} (o : Option X) (x y : X) → o ≡ Some x → o ≡ Some y → x ≡ y
some_same o x y a b = cc

finals_again : (w : Workload) (es : List Entry) (ts : List Txn) (fs gs : List (Item × ℤ)) (rest : List (List Word)) → map item_of_pair fs ++ map item_of_pair gs ≡ items w → AllByRecursion IsTypedPair gs →
    lines_after w (Some (tail_draft es ts fs [])) (map (final_words w) gs ++ rest) ≡ lines_after w (Some (tail_draft es ts (fs ++ gs) [])) rest
finals_again w es ts fs [] rest e t = ap (λ xs. lines_after w (Some (tail_draft es ts xs [])) rest) (sym (append-nil fs))
finals_again w es ts fs (g ∷ gs) rest e t =
    let long = length_map item_of_pair fs in
    let less : length fs < length w.items = omega (arith, seam_less (map item_of_pair fs) g.0 (map item_of_pair gs) (items w) e, items_length w) in
    let here : slice_get (items w) (length fs) ≡ Some g.0 = ap (slice_get (items w)) (sym long) ∙ at_seam (map item_of_pair fs) g.0 (map item_of_pair gs) (items w) e in
    let is : g.0 ≡ item (length fs) = some_same (slice_get (items w) (length fs)) g.0 (item (length fs)) here (items_at w (length fs) less) in
    lines_step w (tail_draft es ts fs []) (tail_draft es ts (fs ++ g ∷ []) []) (final_words w g) (map (final_words w) gs ++ rest) (final_again w es ts fs g less is t.0)
    ∙ finals_again w es ts (fs ++ g ∷ []) gs rest (shift item_of_pair fs g gs (items w) e) t.1
    ∙ ap (λ xs. lines_after w (Some (tail_draft es ts xs [])) rest) (append_assoc fs (g ∷ []) gs)
  where
    shift : {X Y : Type 0} (f : X → Y) (xs : List X) (x : X) (ys : List X) (all : List Y) → map f xs ++ f x ∷ map f ys ≡ all → map f (xs ++ x ∷ []) ++ map f ys ≡ all
    shift f [] x ys all e = e
    shift f (z ∷ xs) x ys all e = ap (λ zs. f z ∷ zs) (shift f xs x ys (map f xs ++ f x ∷ map f ys) refl) ∙ e

-- ---- copies

places_known : (w : Workload) (c : CopyLine) → KnowsSite w c.site → KnowsItem w c.item → Unit {0}
places_known w c s x = tt

copy_again : (w : Workload) (es : List Entry) (ts : List Txn) (fs : List (Item × ℤ)) (cs : List CopyLine) (c : CopyLine) → length fs ≡ length w.items → length cs < length (places w) → slice_get (places w) (length cs) ≡ Some (place_of c) → KnowsSite w c.site → KnowsItem w c.item → IsTypedCopy c →
    line_after w (tail_draft es ts fs cs) (copy_words w c) ≡ Some (tail_draft es ts fs (cs ++ c ∷ []))
unfolding line_after line_at tail_line copy_line end_at
copy_again w es ts fs cs c whole less here s x t =
    let none : nat_lt (length fs) (length w.items) ≡ false = rw whole (not_less_itself (length w.items)) in
    let more : nat_lt (length cs) (length (places w)) ≡ true = lt-ltb (length cs) (length (places w)) less in
    rw (none, more) (
    rw (site_at_again w c.site (name_of w c.item ∷ signed_decimal c.value ∷ decimal c.version ∷ []) s) (
    rw (item_at_again w c.item (signed_decimal c.value ∷ decimal c.version ∷ []) x, here, same_number c.site.0, same_number c.item.0) (
    rw (value_at_again c.value (decimal c.version ∷ []) t.value, number_at_again 4294967295 c.version [] (omega (arith, t.version)) t.version) refl)))
  where
    not_less_itself : (n : ℕ) → nat_lt n n ≡ false
    not_less_itself n = grind (arith, nat_tests)

copies_again : (w : Workload) (es : List Entry) (ts : List Txn) (fs : List (Item × ℤ)) (cs more : List CopyLine) (rest : List (List Word)) → length fs ≡ length w.items → map place_of cs ++ map place_of more ≡ places w →
    AllByRecursion (λ (c : CopyLine). KnowsSite w c.site) more → AllByRecursion (KnowsCopy w) more → AllByRecursion IsTypedCopy more →
    lines_after w (Some (tail_draft es ts fs cs)) (map (copy_words w) more ++ rest) ≡ lines_after w (Some (tail_draft es ts fs (cs ++ more))) rest
copies_again w es ts fs cs [] rest whole e s x t = ap (λ xs. lines_after w (Some (tail_draft es ts fs xs)) rest) (sym (append-nil cs))
copies_again w es ts fs cs (c ∷ more) rest whole e s x t =
    let long = length_map place_of cs in
    let less : length cs < length (places w) = omega (arith, seam_less (map place_of cs) (place_of c) (map place_of more) (places w) e) in
    let here : slice_get (places w) (length cs) ≡ Some (place_of c) = ap (slice_get (places w)) (sym long) ∙ at_seam (map place_of cs) (place_of c) (map place_of more) (places w) e in
    lines_step w (tail_draft es ts fs cs) (tail_draft es ts fs (cs ++ c ∷ [])) (copy_words w c) (map (copy_words w) more ++ rest) (copy_again w es ts fs cs c whole less here s.0 x.0 t.0)
    ∙ copies_again w es ts fs (cs ++ c ∷ []) more rest whole (shift place_of cs c more (places w) e) s.1 x.1 t.1
    ∙ ap (λ xs. lines_after w (Some (tail_draft es ts fs xs)) rest) (append_assoc cs (c ∷ []) more)
  where
    shift : {X Y : Type 0} (f : X → Y) (xs : List X) (x : X) (ys : List X) (all : List Y) → map f xs ++ f x ∷ map f ys ≡ all → map f (xs ++ x ∷ []) ++ map f ys ≡ all
    shift f [] x ys all e = e
    shift f (z ∷ xs) x ys all e = ap (λ zs. f z ∷ zs) (shift f xs x ys (map f xs ++ f x ∷ map f ys) refl) ∙ e

done_again : (w : Workload) (r : Report) → length r.finals ≡ length w.items → length r.copies ≡ length (places w) → line_after w (tail_draft r.entries r.order r.finals r.copies) (codes "done" ∷ []) ≡ Some (over_draft r)
unfolding line_after line_at tail_line done_line end_at
done_again w r whole all =
    let none : nat_lt (length r.finals) (length w.items) ≡ false = rw whole (not_less_itself (length w.items)) in
    let no_more : nat_lt (length r.copies) (length (places w)) ≡ false = rw all (not_less_itself (length (places w))) in
    rw (none, no_more) refl
  where
    not_less_itself : (n : ℕ) → nat_lt n n ≡ false
    not_less_itself n = grind (arith, nat_tests)

-- ---- all lines

pub spelling_again : (w : Workload) (r : Report) → IsReportOf w r → IsHeld r → lines_after w (Some opening) (spelling w r) ≡ Some (over_draft r)
unfolding spelling
spelling_again w r h k =
    let all_finals : length r.finals ≡ length w.items = sym (length_map item_of_pair r.finals) ∙ ap length h.finals ∙ items_length w in
    let all_copies : length r.copies ≡ length (places w) = sym (length_map place_of r.copies) ∙ ap length h.copies in
    lines_step w opening (entries_draft []) (head_line w) _ (first_again w)
    ∙ entries_again w [] r.entries 1 _ refl (omega (arith, k.few)) h.entries k.typed.entries
    ∙ lines_step w (entries_draft r.entries) (tail_draft r.entries r.order [] []) (order_words w r.order) _ (order_line_again w r.entries r.order h.order)
    ∙ finals_again w r.entries r.order [] r.finals _ h.finals k.typed.finals
    ∙ copies_again w r.entries r.order r.finals [] r.copies _ all_finals h.copies (places_sited w r.copies h.copies) (copies_known w r.copies h.copies) k.typed.copies
    ∙ lines_step w (tail_draft r.entries r.order r.finals r.copies) (over_draft r) (codes "done" ∷ []) [] (done_again w r all_finals all_copies)
