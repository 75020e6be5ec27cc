-- What is written is read again: the words of a report.
use Rattle.std.proofs.Common.{◌≡◌, ◌==◌, ℕ, ℤ, zero, suc, ◌+◌, ◌<◌, ◌≤◌, ◌^◌, Bool, true, false, cond, eqb, ◌&&◌, List, [], ◌∷◌, ◌++◌, length, map, drop, filter, codes, Some, refl, sym, ap, subst, ◌∙◌, arith, append_assoc}
use Rattle.std.specs.Prelude.{bytes_eq, nat_lt, nat_le}
use Rattle.std.specs.List.{list_all, AllByRecursion}
use Rattle.std.specs.Fmt.{decimal, signed_decimal}
use Rattle.std.proofs.lemmas.Bool.{and_parts, ne_eqb, leb-true, lt-ltb, both_ways}
use Rattle.std.proofs.lemmas.Bool.Decides.{nat_tests}
use Rattle.std.proofs.lemmas.List.{append-nil}
use Rattle.raid_base.specs.declared.names.Item.{Item}
use Rattle.raid_base.specs.declared.names.Site.{Site}
use Rattle.raid_base.specs.declared.verdict.Kind.{Kind}
use Rattle.raid_base.specs.declared.verdict.Kind.TheVariants as kinds
use Rattle.raid_base.specs.declared.verdict.Method.{Method}
use Rattle.raid_base.specs.declared.verdict.Method.TheVariants as methods
use Rattle.raid_base.specs.Names.{has_site}
use Rattle.raid_base.specs.Sites.{site, all_sites}
use Rattle.raid_workload.specs.declared.workload.Workload.{Workload}
use Rattle.raid_workload.specs.Name.{is_small, is_part, is_name}
use Rattle.raid_pieces.specs.Pieces.{pieces}
use Rattle.raid_pieces.specs.Numbers.{is_digit}
use Rattle.raid_pieces.proofs.Glued.{free, free_of, pieces_glued}
use Rattle.raid_pieces.proofs.Written.{value_again, digits_are, same_bytes, is_signed_byte, signed_bytes}
use Rattle.raid_report.specs.Spelling.{Word, listed, behind_commas, name_of, pair_part, pairs_word, session_part, vector_word, site_word, set_word, kind_word, method_word}
use Rattle.raid_report.specs.Known.{KnowsSite, KnowsPair}
use Rattle.raid_report.specs.Typed.{IsTypedPair, IsSession, IsSet}
use Rattle.raid_report.specs.Forms.{pair_parts, pair_of, all_pairs, pairs_of, session_of, all_sessions, vector_of, sites_above, set_of, kind_of, method_of}
use Rattle.raid_report.proofs.Bytes.{is_part_byte, name_parts, name_bytes, value_bytes, both_bytes, decimal_bytes}
use Rattle.raid_report.proofs.Facts.{sized}
use Rattle.raid_report.proofs.Items.{item_again, item_named}
use Rattle.raid_report.proofs.ReadWords.{positive_again, site_again}
use Rattle.raid_report.proofs.Ascending.{IsAbove}
use Rattle.raid_report.proofs.Sets.{sites_from}

-- ---- bytes of parts

pub pair_bytes : (w : Workload) (p : Item × ℤ) → KnowsPair w p → IsTypedPair p → list_all is_part_byte (pair_part w p) ≡ true
pair_bytes w p h t = both_bytes is_part_byte (name_of w p.0) (61 ∷ signed_decimal p.1) (name_bytes (name_of w p.0) (item_named w p.0 h)) (value_bytes p.1 t)

pub session_bytes : (n : ℕ) → IsSession n → list_all is_part_byte (session_part n) ≡ true
session_bytes zero h = refl
session_bytes (suc n) h = decimal_bytes (suc n) (omega arith)

pub site_bytes : (w : Workload) (s : Site) → KnowsSite w s → list_all is_part_byte (site_word s) ≡ true
site_bytes w s h = let z = sized w in decimal_bytes s.0 (omega (arith, h.last))

-- all of them have such bytes
pub bytes_of_all : {X : Type 0} (spell : X → Word) (P Q : X → Type 0) (xs : List X) → ((x : X) → P x → Q x → list_all is_part_byte (spell x) ≡ true) → AllByRecursion P xs → AllByRecursion Q xs → list_all (list_all is_part_byte) (map spell xs) ≡ true
bytes_of_all spell P Q [] f h k = refl
bytes_of_all spell P Q (x ∷ xs) f h k = rw (f x h.0 k.0) (bytes_of_all spell P Q xs f h.1 k.1)

all_free : (parts : List Word) → list_all (list_all is_part_byte) parts ≡ true → list_all (free 44) parts ≡ true
all_free [] h = refl
all_free (part ∷ parts) h =
    let p = and_parts (list_all is_part_byte part) (list_all (list_all is_part_byte) parts) h in
    rw (free_of is_part_byte 44 part refl p.0) (all_free parts p.1)

-- the parts of a list, cut at the commas
pub parts_again : (part : Word) (parts : List Word) → list_all (list_all is_part_byte) (part ∷ parts) ≡ true → pieces 44 (listed (part ∷ parts)) ≡ part ∷ parts
parts_again part parts h =
    let p = and_parts (list_all is_part_byte part) (list_all (list_all is_part_byte) parts) h in
    pieces_glued 44 part parts (free_of is_part_byte 44 part refl p.0) (all_free parts p.1)

-- ---- pairs

pub pair_again : (w : Workload) (p : Item × ℤ) → KnowsPair w p → IsTypedPair p → pair_of w (pair_part w p) ≡ Some p
unfolding pair_of pair_parts
pair_again w p h t =
    let f = free_of is_part 61 (name_of w p.0) refl (name_parts (name_of w p.0) (item_named w p.0 h)) in
    let g = free_of is_signed_byte 61 (signed_decimal p.1) refl (signed_bytes p.1 t) in
    let cut : pieces 61 (pair_part w p) ≡ name_of w p.0 ∷ signed_decimal p.1 ∷ [] =
    rw (← append-nil (61 ∷ signed_decimal p.1)) (pieces_glued 61 (name_of w p.0) (signed_decimal p.1 ∷ []) f (rw g refl)) in
    rw (cut, item_again w p.0 h, value_again p.1 t) refl

pub all_pairs_again : (w : Workload) (ps : List (Item × ℤ)) → AllByRecursion (KnowsPair w) ps → AllByRecursion IsTypedPair ps → all_pairs w (map (pair_part w) ps) ≡ Some ps
unfolding all_pairs
all_pairs_again w [] h t = refl
all_pairs_again w (p ∷ ps) h t = rw (pair_again w p h.0 t.0, all_pairs_again w ps h.1 t.1) refl

no_dash : (name rest : Word) → is_name name ≡ true → bytes_eq (name ++ rest) (codes "-") ≡ false
no_dash [] rest h = absurd cc
no_dash (b ∷ bytes) rest h =
    let p = and_parts (is_small b && nat_le (length bytes) 15) (list_all is_part bytes) h in
    let q = and_parts (is_small b) (nat_le (length bytes) 15) p.0 in
    let s = and_parts (nat_le 97 b) (nat_le b 122) q.0 in
    let apart : eqb b 45 ≡ false = ne_eqb b 45 (λ e. omega (arith, leb-true _ _ s.0)) in
    rw apart refl

pub pairs_again : (w : Workload) (ps : List (Item × ℤ)) → AllByRecursion (KnowsPair w) ps → AllByRecursion IsTypedPair ps → pairs_of w (pairs_word w ps) ≡ Some ps
unfolding pairs_of
pairs_again w [] h t = refl
pairs_again w (p ∷ ps) h t =
    let dash : bytes_eq (pairs_word w (p ∷ ps)) (codes "-") ≡ false =
    subst (λ (word : Word). bytes_eq word (codes "-") ≡ false) (sym (append_assoc (name_of w p.0) (61 ∷ signed_decimal p.1) (behind_commas (map (pair_part w) ps)))) (no_dash (name_of w p.0) ((61 ∷ signed_decimal p.1) ++ behind_commas (map (pair_part w) ps)) (item_named w p.0 h.0)) in
    let cut = parts_again (pair_part w p) (map (pair_part w) ps) (bytes_of_all (pair_part w) (KnowsPair w) IsTypedPair (p ∷ ps) (pair_bytes w) h t) in
    rw (dash, cut) (all_pairs_again w (p ∷ ps) h t)

-- ---- vectors

digits_no_dash : (n : ℕ) → n < 2 ^ 64 → bytes_eq (decimal n) (codes "-") ≡ false
digits_no_dash n h =
    elim (bytes_eq (decimal n) (codes "-")) as (λ b. bytes_eq (decimal n) (codes "-") ≡ b → b ≡ false) [
      | true ↦ λ e. absurd (both_ways false refl (sym (ap (list_all is_digit) (same_bytes (decimal n) (codes "-") e)) ∙ digits_are n h))
      | false ↦ λ e. refl
    ] refl

pub session_again : (n : ℕ) → IsSession n → session_of (session_part n) ≡ Some n
unfolding session_of
session_again zero h = refl
session_again (suc n) h = rw (digits_no_dash (suc n) (omega arith)) (positive_again 4294967295 (suc n) (omega arith) (omega arith) h)

all_sessions_again : (v : List ℕ) → AllByRecursion IsSession v → all_sessions (map session_part v) ≡ Some v
unfolding all_sessions
all_sessions_again [] h = refl
all_sessions_again (n ∷ v) h = rw (session_again n h.0, all_sessions_again v h.1) refl

same_length : (n : ℕ) → (n == n) ≡ true
same_length n = grind (arith, nat_tests)

pub vector_again : (w : Workload) (v : List ℕ) → length v ≡ w.sites → AllByRecursion IsSession v → vector_of w (vector_word v) ≡ Some v
unfolding vector_of
vector_again w [] long h = let z = sized w in absurd (omega (arith, long, z.some_sites))
vector_again w (n ∷ v) long h =
    let cut = parts_again (session_part n) (map session_part v) (sessions_bytes (n ∷ v) h) in
    rw (cut, all_sessions_again (n ∷ v) h) (rw (← long, same_length (length (n ∷ v))) refl)
  where
    sessions_bytes : (v : List ℕ) → AllByRecursion IsSession v → list_all (list_all is_part_byte) (map session_part v) ≡ true
    sessions_bytes [] h = refl
    sessions_bytes (n ∷ v) h = rw (session_bytes n h.0) (sessions_bytes v h.1)

-- ---- sets

kept_above : (n i : ℕ) (f : Site → Bool) → i + n ≡ 8 → IsAbove i (filter f (drop i all_sites))
kept_above zero i f e = let is : i ≡ 8 = omega arith in rw is tt
kept_above (suc n) i f e =
    subst (λ (xs : List Site). IsAbove i (filter f xs)) (sym (sites_from i (omega arith)))
    (elim (f (site (i + 1))) as (λ b. IsAbove i (cond b (site (i + 1) ∷ filter f (drop (i + 1) all_sites)) (filter f (drop (i + 1) all_sites)))) [
      | true ↦ (omega arith, omega arith, kept_above n (i + 1) f (omega arith))
      | false ↦ lower i (i + 1) (filter f (drop (i + 1) all_sites)) (omega arith) (kept_above n (i + 1) f (omega arith))
    ])
  where
    lower : (i j : ℕ) (ss : List Site) → i ≤ j → IsAbove j ss → IsAbove i ss
    lower i j [] le h = tt
    lower i j (s ∷ ss) le h = (omega (arith, h.0), h.1, h.2)

pub ascending_is : (ss : List Site) → IsSet ss → IsAbove 0 ss
ascending_is ss h = subst (IsAbove 0) h (kept_above 8 0 (has_site ss) refl)

sites_above_again : (w : Workload) (least : ℕ) (ss : List Site) → AllByRecursion (KnowsSite w) ss → IsAbove least ss → sites_above w least (map site_word ss) ≡ Some ss
unfolding sites_above
sites_above_again w least [] h a = refl
sites_above_again w least (s ∷ ss) h a =
    let up : nat_lt least s.0 ≡ true = lt-ltb least s.0 a.0 in
    rw (site_again w s h.0, up, sites_above_again w s.0 ss h.1 a.2) refl

sites_bytes : (w : Workload) (ss : List Site) → AllByRecursion (KnowsSite w) ss → list_all (list_all is_part_byte) (map site_word ss) ≡ true
sites_bytes w [] h = refl
sites_bytes w (s ∷ ss) h = rw (site_bytes w s h.0) (sites_bytes w ss h.1)

pub set_again : (w : Workload) (ss : List Site) → AllByRecursion (KnowsSite w) ss → IsSet ss → set_of w (set_word ss) ≡ Some ss
unfolding set_of
set_again w [] h t = refl
set_again w (s ∷ ss) h t =
    let cut = parts_again (site_word s) (map site_word ss) (sites_bytes w (s ∷ ss) h) in
    rw cut (sites_above_again w 0 (s ∷ ss) h (ascending_is (s ∷ ss) t))

-- ---- choices

pub kind_again : (k : Kind) → kind_of (kind_word k) ≡ Some k
unfolding kind_of
kind_again kinds.Lock = refl
kind_again kinds.Stamp = refl
kind_again kinds.Valid = refl
kind_again kinds.Graph = refl

pub method_again : (m : Method) → method_of (method_word m) ≡ Some m
unfolding method_of
method_again methods.Generic = refl
method_again methods.Convert = refl
method_again methods.Suffix = refl
