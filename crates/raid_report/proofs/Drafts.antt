-- What a draft has read is the beginning of a report's lines.
use Rattle.std.proofs.Common.{◌≡◌, ◌==◌, ℕ, ℤ, ◌+◌, ◌<◌, Bool, true, false, List, [], ◌∷◌, ◌++◌, length, map, codes, Some, refl, sym, ap, subst, ◌∙◌, arith}
use Rattle.std.specs.List.{AllByRecursion}
use Rattle.std.specs.Fmt.{decimal}
use Rattle.std.proofs.lemmas.Bool.{eqb-true}
use Rattle.raid_base.specs.declared.names.Txn.{Txn}
use Rattle.raid_base.specs.declared.names.Item.{Item}
use Rattle.raid_base.specs.declared.names.Site.{Site}
use Rattle.raid_base.specs.declared.entry.Entry.{Entry}
use Rattle.raid_workload.specs.declared.workload.Workload.{Workload}
use Rattle.raid_workload.specs.Parts.{items}
use Rattle.raid_pieces.specs.Reading.{◌>>=◌}
use Rattle.raid_pieces.specs.Numbers.{number_of}
use Rattle.raid_pieces.proofs.Written.{number_exact}
use Rattle.raid_report.specs.declared.draft.Draft.{Draft}
use Rattle.raid_report.specs.declared.draft.Place.{Place}
use Rattle.raid_report.specs.declared.draft.Place.TheVariants.{Start, Entries, Tail, Over}
use Rattle.raid_report.specs.Spelling.{Word, txn_word, txns_words, order_words, entry_words, entry_lines, final_words, copy_words}
use Rattle.raid_report.specs.Known.{KnowsTxn, IsEntryOf, IsReportOf, places, place_of}
use Rattle.raid_report.specs.Typed.{IsTypedEntry, IsTypedPair, IsTypedCopy, IsTyped}
use Rattle.raid_report.specs.Forms.{txn_of}
use Rattle.raid_report.specs.Next.{end_at, number_at, entry_at}
use Rattle.raid_report.specs.Drafts.{opening, where_true, version_line, all_txns, no_txns, order_of, order_line, numbered_line, report_of}
use Rattle.raid_report.proofs.Bind.{bind_some, some_is, end_exact}
use Rattle.raid_report.proofs.ReadWords.{txn_exact}
use Rattle.raid_report.proofs.ReadEntries.{before, number_at_exact}
use Rattle.raid_report.proofs.Aborts.{by_word, entry_exact}

abbrev pub head_line : Workload → List Word
head_line w = codes "report" ∷ decimal w.version ∷ []

-- the lines from the order on, without the last
abbrev pub tail_lines : Workload → Draft → List (List Word)
tail_lines w d = entry_lines w 1 d.entries ++ (order_words w d.order ∷ (map (final_words w) d.finals ++ map (copy_words w) d.copies))

-- the lines that were read
abbrev pub begun_at : Workload → Place → Draft → List (List Word)
begun_at w Start d = []
begun_at w Entries d = head_line w ∷ entry_lines w 1 d.entries
begun_at w Tail d = head_line w ∷ tail_lines w d
begun_at w Over d = (head_line w ∷ tail_lines w d) ++ (codes "done" ∷ []) ∷ []

abbrev pub begun : Workload → Draft → List (List Word)
begun w d = begun_at w d.place d

abbrev pub item_of_pair : Item × ℤ → Item
item_of_pair p = p.0

pub record AreEntries (w : Workload) (d : Draft) : Type 0 where
  pub known : AllByRecursion (IsEntryOf w) d.entries
  pub typed : AllByRecursion IsTypedEntry d.entries
  pub no_order : d.order ≡ []
  pub no_finals : d.finals ≡ []
  pub no_copies : d.copies ≡ []

-- with the items and the copies that are left
pub record IsTail (w : Workload) (d : Draft) : Type 0 where
  pub known : AllByRecursion (IsEntryOf w) d.entries
  pub typed : AllByRecursion IsTypedEntry d.entries
  pub order : AllByRecursion (KnowsTxn w) d.order
  pub items_left : List Item
  pub finals : map item_of_pair d.finals ++ items_left ≡ items w
  pub values : AllByRecursion IsTypedPair d.finals
  pub places_left : List (Site × Item)
  pub copies : map place_of d.copies ++ places_left ≡ places w
  pub typed_copies : AllByRecursion IsTypedCopy d.copies
  pub late : 0 < length d.copies → items_left ≡ []

pub record IsWhole (w : Workload) (d : Draft) : Type 0 where
  pub report : IsReportOf w (report_of d)
  pub typed : IsTyped (report_of d)

abbrev pub IsDraftAt : Workload → Place → Draft → Type 0
IsDraftAt w Start d = d ≡ opening
IsDraftAt w Entries d = AreEntries w d
IsDraftAt w Tail d = IsTail w d
IsDraftAt w Over d = IsWhole w d

abbrev pub IsDraft : Workload → Draft → Type 0
IsDraft w d = IsDraftAt w d.place d

-- a line more was read
pub record IsNext (w : Workload) (d : Draft) (words : List Word) (e : Draft) : Type 0 where
  pub draft : IsDraft w e
  pub lines : begun w e ≡ begun w d ++ words ∷ []

-- ---- parts

pub where_exact : (b : Bool) (x : Unit {0}) → where_true b ≡ Some x → b ≡ true
where_exact true x e = refl
where_exact false x e = absurd cc

pub pushed : {X : Type 0} (P : X → Type 0) (xs : List X) (x : X) → AllByRecursion P xs → P x → AllByRecursion P (xs ++ x ∷ [])
pushed P [] x h p = (p, tt)
pushed P (y ∷ xs) x h p = (h.0, pushed P xs x h.1 p)

pub map_pushed : {X Y : Type 0} (f : X → Y) (xs : List X) (x : X) → map f (xs ++ x ∷ []) ≡ map f xs ++ f x ∷ []
map_pushed f [] x = refl
map_pushed f (y ∷ xs) x = ap (λ ys. f y ∷ ys) (map_pushed f xs x)

lines_pushed : (w : Workload) (k : ℕ) (es : List Entry) (e : Entry) → entry_lines w k (es ++ e ∷ []) ≡ entry_lines w k es ++ (decimal (k + length es) ∷ entry_words w e) ∷ []
lines_pushed w k [] e = ap (λ n. (decimal n ∷ entry_words w e) ∷ []) (omega arith)
lines_pushed w k (x ∷ es) e = ap (λ (ls : List (List Word)). (decimal k ∷ entry_words w x) ∷ ls) (lines_pushed w (k + 1) es e ∙ ap (λ n. entry_lines w (k + 1) es ++ (decimal n ∷ entry_words w e) ∷ []) (omega arith))

-- ---- the first line

pub version_exact : (w : Workload) (d : Draft) (words : List Word) (e : Draft) → d ≡ opening → version_line w d words ≡ Some e → IsNext w d (codes "report" ∷ words) e
unfolding version_line
version_exact w d words e first h =
    let n = bind_some (number_at 255 words) _ e h in
    let nx = number_at_exact 255 words n.0 n.1 in
    let r = bind_some (where_true (n.0.0 == w.version)) _ e n.2 in
    let same = eqb-true n.0.0 w.version (where_exact (n.0.0 == w.version) r.0 r.1) in
    let z = bind_some (end_at n.0.1) _ e r.2 in
    let made : Draft = record d { place = Entries } in
    let is : made ≡ e = some_is made e z.2 in
    let line : words ≡ decimal w.version ∷ [] = before nx.0 (end_exact n.0.1 z.0 z.1) ∙ ap (λ k. decimal k ∷ []) same in
    let next : IsNext w d (codes "report" ∷ words) made = subst (λ (o : Draft). IsNext w o (codes "report" ∷ words) (record o { place = Entries })) (sym first) (record {
      draft = record { known = tt; typed = tt; no_order = refl; no_finals = refl; no_copies = refl };
      lines = ap (λ (xs : List Word). (codes "report" ∷ xs) ∷ []) (sym line);
    }) in
    subst (IsNext w d (codes "report" ∷ words)) is next

-- ---- entries and the order

pub record IsAt (w : Workload) (d : Draft) (p : Place) (lines : List (List Word)) (e : Draft) : Type 0 where
  pub place : e.place ≡ p
  pub draft : IsDraftAt w p e
  pub lines_are : begun_at w p e ≡ lines

pub at_next : (w : Workload) (d : Draft) (p q : Place) (words : List Word) (e : Draft) → d.place ≡ p → IsAt w d q (begun_at w p d ++ words ∷ []) e → IsNext w d words e
at_next w d p q words e at x = record {
  draft = subst (λ (r : Place). IsDraftAt w r e) (sym x.place) x.draft;
  lines = ap (λ (r : Place). begun_at w r e) x.place ∙ x.lines_are ∙ ap (λ (r : Place). begun_at w r d ++ words ∷ []) (sym at);
}

pub numbered_exact : (w : Workload) (d : Draft) (word : Word) (words : List Word) (e : Draft) → d.place ≡ Entries → AreEntries w d → numbered_line w d word words ≡ Some e → IsNext w d (word ∷ words) e
unfolding numbered_line
numbered_exact w d word words e at are h =
    let n = bind_some (number_of 4294967295 word) _ e h in
    let nx = number_exact 4294967295 word n.0 n.1 in
    let r = bind_some (where_true (n.0 == length d.entries + 1)) _ e n.2 in
    let same = eqb-true n.0 (length d.entries + 1) (where_exact (n.0 == length d.entries + 1) r.0 r.1) in
    let x = bind_some (entry_at w words) _ e r.2 in
    let xx = entry_exact w words x.0 x.1 in
    let made : Draft = record d { entries = d.entries ++ x.0 ∷ [] } in
    let is : made ≡ e = some_is made e x.2 in
    let line : decimal (1 + length d.entries) ∷ entry_words w x.0 ≡ word ∷ words =
    ap (λ k. decimal k ∷ entry_words w x.0) (omega (arith, same)) ∙ ap (λ (y : Word). y ∷ entry_words w x.0) nx.0 ∙ ap (λ (xs : List Word). word ∷ xs) xx.written in
    let next : IsAt w d Entries (begun_at w Entries d ++ (word ∷ words) ∷ []) made = record {
      place = at;
      draft = record {
        known = pushed (IsEntryOf w) d.entries x.0 are.known xx.known;
        typed = pushed IsTypedEntry d.entries x.0 are.typed xx.typed;
        no_order = are.no_order;
        no_finals = are.no_finals;
        no_copies = are.no_copies;
      };
      lines_are = ap (λ (ls : List (List Word)). head_line w ∷ ls) (lines_pushed w 1 d.entries x.0 ∙ ap (λ (l : List Word). entry_lines w 1 d.entries ++ l ∷ []) line);
    } in
    subst (IsNext w d (word ∷ words)) is (at_next w d Entries Entries (word ∷ words) made at next)

record AreTxnWords (w : Workload) (words : List Word) (ts : List Txn) : Type 0 where
  pub written : map (txn_word w) ts ≡ words
  pub known : AllByRecursion (KnowsTxn w) ts

all_txns_exact : (w : Workload) (words : List Word) (ts : List Txn) → all_txns w words ≡ Some ts → AreTxnWords w words ts
unfolding all_txns
all_txns_exact w [] ts e = let is = some_is [] ts e in subst (AreTxnWords w []) is (record { written = refl; known = tt })
all_txns_exact w (word ∷ words) ts e =
    let a = bind_some (txn_of w word) _ ts e in
    let x = txn_exact w word a.0 a.1 in
    let b = bind_some (all_txns w words) _ ts a.2 in
    let rest = all_txns_exact w words b.0 b.1 in
    let made : AreTxnWords w (word ∷ words) (a.0 ∷ b.0) = record { written = rw (x.written, rest.written) refl; known = (x.known, rest.known) } in
    subst (AreTxnWords w (word ∷ words)) (some_is (a.0 ∷ b.0) ts b.2) made

record IsOrderWords (w : Workload) (words : List Word) (ts : List Txn) : Type 0 where
  pub written : txns_words w ts ≡ words
  pub known : AllByRecursion (KnowsTxn w) ts

some_txns : (w : Workload) (word : Word) (words : List Word) (ts : List Txn) → AreTxnWords w (word ∷ words) ts → IsOrderWords w (word ∷ words) ts
some_txns w word words [] x = absurd (let e : [] ≡ word ∷ words = x.written in cc)
some_txns w word words (t ∷ ts) x = record { written = x.written; known = x.known }

order_exact : (w : Workload) (words : List Word) (ts : List Txn) → order_of w words ≡ Some ts → IsOrderWords w words ts
unfolding order_of no_txns
order_exact w [] ts e = absurd cc
order_exact w (word ∷ words) ts e =
    by_word word (codes "-") (end_at words >>= λ _. Some []) (all_txns w (word ∷ words)) ts (λ x. IsOrderWords w (x ∷ words) ts) e
    (λ h.
    let n = bind_some (end_at words) _ ts h in
    let none = end_exact words n.0 n.1 in
    let made : IsOrderWords w (codes "-" ∷ words) [] = record { written = ap (λ (xs : List Word). codes "-" ∷ xs) (sym none); known = tt } in
    subst (IsOrderWords w (codes "-" ∷ words)) (some_is [] ts n.2) made)
    (λ h. some_txns w word words ts (all_txns_exact w (word ∷ words) ts h))

pub order_line_exact : (w : Workload) (d : Draft) (words : List Word) (e : Draft) → d.place ≡ Entries → AreEntries w d → order_line w d words ≡ Some e → IsNext w d (codes "order" ∷ words) e
unfolding order_line
order_line_exact w d words e at are h =
    let ts = bind_some (order_of w words) _ e h in
    let x = order_exact w words ts.0 ts.1 in
    let made : Draft = record d { place = Tail; order = ts.0 } in
    let none : map (final_words w) d.finals ++ map (copy_words w) d.copies ≡ [] =
    ap (λ (fs : List (Item × ℤ)). map (final_words w) fs ++ map (copy_words w) d.copies) are.no_finals ∙ ap (map (copy_words w)) are.no_copies in
    let next : IsAt w d Tail (begun_at w Entries d ++ (codes "order" ∷ words) ∷ []) made = record {
      place = refl;
      draft = record {
        known = are.known;
        typed = are.typed;
        order = x.known;
        items_left = items w;
        finals = rw are.no_finals refl;
        values = rw are.no_finals tt;
        places_left = places w;
        copies = rw are.no_copies refl;
        typed_copies = rw are.no_copies tt;
        late = λ some. absurd (omega (arith, ap length are.no_copies));
      };
      lines_are = ap (λ (ls : List (List Word)). head_line w ∷ (entry_lines w 1 d.entries ++ ls)) (ap (λ (rest : List (List Word)). order_words w ts.0 ∷ rest) none ∙ ap (λ (xs : List Word). (codes "order" ∷ xs) ∷ []) x.written);
    } in
    subst (IsNext w d (codes "order" ∷ words)) (some_is made e ts.2) (at_next w d Entries Tail (codes "order" ∷ words) made at next)
