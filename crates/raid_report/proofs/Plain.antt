-- No word of a report has a space or a line feed in it.
use Rattle.std.proofs.Common.{◌≡◌, ℕ, ℤ, zero, suc, ◌+◌, ◌<◌, ◌^◌, Bool, true, List, [], ◌∷◌, ◌++◌, length, map, codes, refl, ◌∙◌, arith}
use Rattle.std.specs.List.{list_all, AllByRecursion}
use Rattle.std.specs.Fmt.{decimal, signed_decimal}
use Rattle.std.proofs.lemmas.Bool.{and_parts}
use Rattle.std.proofs.lemmas.List.Folds.{list_all-append}
use Rattle.raid_base.specs.declared.names.Txn.{Txn}
use Rattle.raid_base.specs.declared.names.Item.{Item}
use Rattle.raid_base.specs.declared.names.Site.{Site}
use Rattle.raid_base.specs.declared.verdict.Kind.{Kind}
use Rattle.raid_base.specs.declared.verdict.Kind.TheVariants as kinds
use Rattle.raid_base.specs.declared.verdict.Method.{Method}
use Rattle.raid_base.specs.declared.verdict.Method.TheVariants as methods
use Rattle.raid_base.specs.declared.request.Request.{Request}
use Rattle.raid_base.specs.declared.entry.Entry.{Entry}
use Rattle.raid_base.specs.declared.entry.Entry.TheVariants.{Begin, Read, Wait, Commit, Abort, Ack, SwitchOn, SwitchEnd, Down, Up, Clear}
use Rattle.raid_base.specs.declared.entry.Act.{Act}
use Rattle.raid_base.specs.declared.entry.Act.TheVariants as acts
use Rattle.raid_base.specs.declared.entry.Cause.{Cause}
use Rattle.raid_base.specs.declared.entry.Cause.TheVariants as causes
use Rattle.raid_base.specs.declared.report.Report.{Report}
use Rattle.raid_base.specs.declared.report.CopyLine.{CopyLine}
use Rattle.raid_base.specs.Names.{program_of, attempt_of}
use Rattle.raid_workload.specs.declared.workload.Workload.{Workload}
use Rattle.raid_pieces.specs.Numbers.{IsValue}
use Rattle.raid_pieces.proofs.Written.{wider}
use Rattle.raid_report.specs.Spelling.{Word, listed, behind_commas, attempt_part, txn_word, site_word, name_of, pair_part, pairs_word, session_part, vector_word, set_word, kind_word, method_word, request_words, act_words, cause_words, entry_words, entry_lines, order_words, final_words, copy_words, spelling}
use Rattle.raid_report.specs.Known.{KnowsTxn, KnowsSite, KnowsItem, KnowsPair, KnowsCopy, KnowsRequest, KnowsAct, IsEntryOf, IsReportOf}
use Rattle.raid_report.specs.Typed.{IsTypedPair, IsSession, IsTypedRequest, IsTypedAct, IsTypedCause, IsTypedEntry, IsTypedCopy, IsHeld}
use Rattle.raid_report.proofs.Acts.{act_known}
use Rattle.raid_report.proofs.Again.{pair_bytes, session_bytes, site_bytes}
use Rattle.raid_report.proofs.Bytes.{is_part_byte, is_word_byte, part_is_word, name_bytes, value_bytes, decimal_bytes, both_bytes, marked_bytes}
use Rattle.raid_report.proofs.Facts.{sized}
use Rattle.raid_report.proofs.Items.{item_named}
use Rattle.raid_report.proofs.Lists.{finals_known, copies_known, places_sited}
use Rattle.raid_report.proofs.ReadWords.{attempt_is}

-- a word without spaces and line feeds; all words of a line; all lines
abbrev pub is_plain : Word → Bool
is_plain word = list_all is_word_byte word

abbrev pub are_plain : List Word → Bool
are_plain words = list_all is_plain words

plain_part : (word : Word) → list_all is_part_byte word ≡ true → is_plain word ≡ true
plain_part word h = wider is_part_byte is_word_byte word part_is_word h

plain_number : (n : ℕ) → n < 2 ^ 64 → is_plain (decimal n) ≡ true
plain_number n h = plain_part (decimal n) (decimal_bytes n h)

plain_attempt : (a : ℕ) → a < 2 ^ 64 → is_plain (attempt_part a) ≡ true
plain_attempt zero h = refl
plain_attempt (suc a) h = plain_number (suc a) h

plain_txn : (w : Workload) (t : Txn) → KnowsTxn w t → is_plain (txn_word w t) ≡ true
plain_txn w t h =
    let a = attempt_is w t h in
    let z = sized w in
    both_bytes is_word_byte (decimal (program_of t (length w.programs))) (attempt_part (attempt_of t (length w.programs)))
    (plain_number (program_of t (length w.programs)) (omega (arith, a.program, z.programs)))
    (plain_attempt (attempt_of t (length w.programs)) (omega (arith, a.attempt, z.restarts)))

plain_site : (w : Workload) (s : Site) → KnowsSite w s → is_plain (site_word s) ≡ true
plain_site w s h = plain_part (site_word s) (site_bytes w s h)

plain_name : (w : Workload) (x : Item) → KnowsItem w x → is_plain (name_of w x) ≡ true
plain_name w x h = plain_part (name_of w x) (name_bytes (name_of w x) (item_named w x h))

plain_value : (z : ℤ) → IsValue z → is_plain (signed_decimal z) ≡ true
plain_value z h = plain_part (signed_decimal z) (value_bytes z h)

plain_listed : (parts : List Word) → list_all is_plain parts ≡ true → is_plain (listed parts) ≡ true
plain_listed [] h = refl
plain_listed (part ∷ parts) h =
    let p = and_parts (is_plain part) (list_all is_plain parts) h in
    both_bytes is_word_byte part (behind_commas parts) p.0 (marked_bytes is_word_byte 44 parts refl p.1)

plain_pairs : (w : Workload) (ps : List (Item × ℤ)) → AllByRecursion (KnowsPair w) ps → AllByRecursion IsTypedPair ps → is_plain (pairs_word w ps) ≡ true
plain_pairs w ps h t = plain_listed (map (pair_part w) ps) (all w ps h t)
  where
    all : (w : Workload) (ps : List (Item × ℤ)) → AllByRecursion (KnowsPair w) ps → AllByRecursion IsTypedPair ps → list_all is_plain (map (pair_part w) ps) ≡ true
    all w [] h t = refl
    all w (p ∷ ps) h t = rw (plain_part (pair_part w p) (pair_bytes w p h.0 t.0)) (all w ps h.1 t.1)

plain_vector : (v : List ℕ) → AllByRecursion IsSession v → is_plain (vector_word v) ≡ true
plain_vector v h = plain_listed (map session_part v) (all v h)
  where
    all : (v : List ℕ) → AllByRecursion IsSession v → list_all is_plain (map session_part v) ≡ true
    all [] h = refl
    all (n ∷ v) h = rw (plain_part (session_part n) (session_bytes n h.0)) (all v h.1)

plain_set : (w : Workload) (ss : List Site) → AllByRecursion (KnowsSite w) ss → is_plain (set_word ss) ≡ true
plain_set w ss h = plain_listed (map site_word ss) (all w ss h)
  where
    all : (w : Workload) (ss : List Site) → AllByRecursion (KnowsSite w) ss → list_all is_plain (map site_word ss) ≡ true
    all w [] h = refl
    all w (s ∷ ss) h = rw (plain_site w s h.0) (all w ss h.1)

plain_kind : (k : Kind) → is_plain (kind_word k) ≡ true
plain_kind kinds.Lock = refl
plain_kind kinds.Stamp = refl
plain_kind kinds.Valid = refl
plain_kind kinds.Graph = refl

plain_method : (m : Method) → is_plain (method_word m) ≡ true
plain_method methods.Generic = refl
plain_method methods.Convert = refl
plain_method methods.Suffix = refl

-- ---- lines

plain_request : (w : Workload) (r : Request) → KnowsRequest w r → IsTypedRequest r → are_plain (request_words w r) ≡ true
plain_request w r h t = rw (plain_pairs w r.reads h.reads t.reads, plain_pairs w r.writes h.writes t.writes, plain_vector r.under t.under) refl

plain_act : (w : Workload) (a : Act) → KnowsAct w a → IsTypedAct a → are_plain (act_words w a) ≡ true
plain_act w acts.Nothing h t = refl
plain_act w (acts.Ended reads) h t = rw (plain_pairs w reads h t) refl
plain_act w (acts.Read x) h t = rw (plain_name w x h) refl
plain_act w (acts.Commit r) h t = plain_request w r h t

plain_cause : (c : Cause) → IsTypedCause c → are_plain (cause_words c) ≡ true
plain_cause causes.Own t = refl
plain_cause causes.Overflow t = refl
plain_cause causes.Late t = refl
plain_cause causes.Invalid t = refl
plain_cause causes.Cycle t = refl
plain_cause causes.Deadlock t = refl
plain_cause (causes.SwitchOff k) t = rw (plain_number k (omega arith)) refl
plain_cause causes.HomeDown t = refl
plain_cause (causes.Stale v) t = rw (plain_vector v t) refl
plain_cause causes.NoCopy t = refl

both_plain : (xs ys : List Word) → are_plain xs ≡ true → are_plain ys ≡ true → are_plain (xs ++ ys) ≡ true
both_plain xs ys h k = list_all-append is_plain xs ys ∙ rw h k

plain_entry : (w : Workload) (e : Entry) → IsEntryOf w e → IsTypedEntry e → are_plain (entry_words w e) ≡ true
plain_entry w (Begin t s) h y = rw (plain_txn w t h.0, plain_site w s h.1) refl
plain_entry w (Read t x s) h y = rw (plain_txn w t h.0, plain_name w x h.1, plain_site w s h.2) refl
plain_entry w (Wait t r) h y = rw (plain_txn w t h.0) (plain_request w r h.1 y)
plain_entry w (Commit t r applied) h y = rw (plain_txn w t h.0) (both_plain (request_words w r) (codes "applied" ∷ set_word applied ∷ []) (plain_request w r h.1 y.0) (rw (plain_set w applied h.2) refl))
plain_entry w (Abort t cause act) h y = rw (plain_txn w t h.0) (both_plain (cause_words cause) (act_words w act) (plain_cause cause y.0) (plain_act w act (act_known w cause act h.1) y.1))
plain_entry w (Ack t s) h y = rw (plain_txn w t h.0, plain_site w s h.1) refl
plain_entry w (SwitchOn k kind method) h y = rw (plain_number k (omega arith), plain_kind kind, plain_method method) refl
plain_entry w (SwitchEnd k) h y = rw (plain_number k (omega arith)) refl
plain_entry w (Down s) h y = rw (plain_site w s h) refl
plain_entry w (Up s session) h y = rw (plain_site w s h, plain_number session (omega arith)) refl
plain_entry w (Clear s x version) h y = rw (plain_site w s h.0, plain_name w x h.1, plain_number version (omega arith)) refl

plain_entries : (w : Workload) (k : ℕ) (es : List Entry) → k + length es < 2 ^ 64 → AllByRecursion (IsEntryOf w) es → AllByRecursion IsTypedEntry es → list_all are_plain (entry_lines w k es) ≡ true
plain_entries w k [] few h t = refl
plain_entries w k (e ∷ es) few h t = rw (plain_number k (omega arith), plain_entry w e h.0 t.0) (plain_entries w (k + 1) es (omega arith) h.1 t.1)

plain_order : (w : Workload) (ts : List Txn) → AllByRecursion (KnowsTxn w) ts → are_plain (order_words w ts) ≡ true
plain_order w [] h = refl
plain_order w (t ∷ ts) h = all w (t ∷ ts) h
  where
    all : (w : Workload) (ts : List Txn) → AllByRecursion (KnowsTxn w) ts → are_plain (map (txn_word w) ts) ≡ true
    all w [] h = refl
    all w (t ∷ ts) h = rw (plain_txn w t h.0) (all w ts h.1)

plain_finals : (w : Workload) (ps : List (Item × ℤ)) → AllByRecursion (KnowsPair w) ps → AllByRecursion IsTypedPair ps → list_all are_plain (map (final_words w) ps) ≡ true
plain_finals w [] h t = refl
plain_finals w (p ∷ ps) h t = rw (plain_name w p.0 h.0, plain_value p.1 t.0) (plain_finals w ps h.1 t.1)

plain_copies : (w : Workload) (cs : List CopyLine) → AllByRecursion (λ (c : CopyLine). KnowsSite w c.site) cs → AllByRecursion (KnowsCopy w) cs → AllByRecursion IsTypedCopy cs → list_all are_plain (map (copy_words w) cs) ≡ true
plain_copies w [] s x t = refl
plain_copies w (c ∷ cs) s x t = rw (plain_site w c.site s.0, plain_name w c.item x.0, plain_value c.value t.0.value, plain_number c.version (omega (arith, t.0.version))) (plain_copies w cs s.1 x.1 t.1)

both_lines : (xs ys : List (List Word)) → list_all are_plain xs ≡ true → list_all are_plain ys ≡ true → list_all are_plain (xs ++ ys) ≡ true
both_lines xs ys h k = list_all-append are_plain xs ys ∙ rw h k

pub plain_spelling : (w : Workload) (r : Report) → IsReportOf w r → IsHeld r → list_all are_plain (spelling w r) ≡ true
unfolding spelling
plain_spelling w r h k =
    let z = sized w in
    rw (plain_number w.version (omega (arith, z.version))) (
    both_lines (entry_lines w 1 r.entries) _ (plain_entries w 1 r.entries (omega (arith, k.few)) h.entries k.typed.entries) (
    rw (plain_order w r.order h.order) (
    both_lines (map (final_words w) r.finals) _ (plain_finals w r.finals (finals_known w r.finals h.finals) k.typed.finals) (
    both_lines (map (copy_words w) r.copies) _ (plain_copies w r.copies (places_sited w r.copies h.copies) (copies_known w r.copies h.copies) k.typed.copies) refl))))
