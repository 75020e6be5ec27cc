-- The lines before the body, as they are written, are read again.
use Rattle.std.proofs.Common.{◌≡◌, ℕ, ◌+◌, ◌<◌, ◌≤◌, Bool, true, false, ◌&&◌, ◌||◌, leb, eqb, List, [], ◌∷◌, ◌++◌, length, map, Some, refl, sym, arith, subst, append_assoc, codes, inl, inr}
use Rattle.std.specs.Fmt as fmt
use Rattle.std.proofs.lemmas.Bool.{leb-true, lt-leb, cases_Bool, eqb-true, eqb-false, and_parts}
use Rattle.std.proofs.lemmas.Fmt.{decimal_digit}
use Rattle.std.proofs.lemmas.List.{append-nil, length-append}
use Rattle.raid_tokens.specs.declared.fault.Fault.TheVariants as faults
use Rattle.raid_tokens.specs.Words.{end_at}
use Rattle.raid_tokens.proofs.Written.{number_plain, value_plain, name_plain}
use Rattle.raid_tokens.proofs.Again.{keyword_again, name_at_again, number_at_again, value_at_again}
use Rattle.raid_workload.specs.Rules.{is_within, are_restarts, are_items}
use Rattle.raid_workload.specs.declared.workload.ItemLine.{ItemLine}
use Rattle.raid_text.specs.declared.state.State.{State}
use Rattle.raid_text.specs.Head.{version_of, version_line, after_sites, sites_line, restarts_line, item_line}
use Rattle.raid_text.specs.Said.{opening}
use Rattle.raid_text.specs.Spelling.{version_words, sites_words, restarts_lines, site_word, item_words}
use Rattle.raid_text.specs.Used.{used_line, line_after}
use Rattle.raid_text.proofs.Goes.{Goes, goes_none, goes_line, goes_then}
use Rattle.raid_text.proofs.Holders.{within_parts}
use Rattle.raid_text.proofs.HoldersAgain.{holders_again}
use Rattle.raid_text.proofs.Items.{item_parts, item_behind, item_new}
use Rattle.raid_text.proofs.States.{at_sites, at_restarts, at_items}

version_one : version_of (codes "workload") (fmt.decimal 1 ∷ []) ≡ Some 1
unfolding version_of
version_one = rw (decimal_digit 1 (omega arith)) refl

version_two : version_of (codes "workload") (fmt.decimal 2 ∷ []) ≡ Some 2
unfolding version_of
version_two = rw (decimal_digit 2 (omega arith)) refl

version_again : (version : ℕ) → is_within 1 2 version ≡ true → version_of (codes "workload") (fmt.decimal version ∷ []) ≡ Some version
version_again version h =
    let w = within_parts 1 2 version h in
    elim (cases_Bool (eqb version 2)) [
      | inl two ↦ subst (λ (v : ℕ). version_of (codes "workload") (fmt.decimal v ∷ []) ≡ Some v) (sym (eqb-true _ _ two)) version_two
      | inr other ↦ let one : 1 ≡ version = omega (arith, w.0, w.1, eqb-false _ _ other) in subst (λ (v : ℕ). version_of (codes "workload") (fmt.decimal v ∷ []) ≡ Some v) one version_one
    ]

goes_version : (version : ℕ) → is_within 1 2 version ≡ true → Goes opening (version_words version ∷ []) (at_sites version)
unfolding line_after used_line version_line
goes_version version h =
    let w = within_parts 1 2 version h in
    goes_line opening (version_words version) (at_sites version) (rw (number_plain version (omega (arith, w.1))) refl) (rw (version_again version h) refl)

-- the state behind the line of the sites
abbrev behind_sites : ℕ → ℕ → ℕ → State
behind_sites version sites together = record (at_sites version) { place = after_sites version; sites = sites; together = together }

goes_sites : (version sites together : ℕ) → is_within 1 8 sites ≡ true → is_within 1 16 together ≡ true → Goes (at_sites version) (sites_words sites together ∷ []) (behind_sites version sites together)
unfolding line_after used_line sites_line end_at
goes_sites version sites together s t =
    let a = within_parts 1 8 sites s in
    let b = within_parts 1 16 together t in
    goes_line (at_sites version) (sites_words sites together) (behind_sites version sites together)
    (rw (number_plain sites (omega (arith, a.1)), number_plain together (omega (arith, b.1))) refl)
    (rw (number_at_again 1 8 faults.Range sites (codes "together" ∷ fmt.decimal together ∷ []) a.0 a.1 (omega (arith, a.1)), keyword_again (codes "together") (fmt.decimal together ∷ []), number_at_again 1 16 faults.Range together [] b.0 b.1 (omega (arith, b.1))) refl)

goes_restarts : (version restarts sites together : ℕ) → restarts ≤ 3 → Goes (at_restarts version sites together) ((codes "restarts" ∷ fmt.decimal restarts ∷ []) ∷ []) (at_items version restarts sites together [])
unfolding line_after used_line restarts_line end_at
goes_restarts version restarts sites together few =
    goes_line (at_restarts version sites together) (codes "restarts" ∷ fmt.decimal restarts ∷ []) (at_items version restarts sites together [])
    (rw (number_plain restarts (omega (arith, few))) refl)
    (rw (number_at_again 0 3 faults.Range restarts [] (omega arith) few (omega (arith, few))) refl)

second : (b c : Bool) → (b || c) ≡ true → b ≡ false → c ≡ true
second true c h n = absurd cc
second false c h n = h

after : (version restarts sites together : ℕ) → are_restarts version restarts ≡ true → Goes (behind_sites version sites together) (restarts_lines version restarts) (at_items version restarts sites together [])
after version restarts sites together h =
    let a = and_parts (is_within 1 2 version && leb restarts 3) (eqb version 2 || eqb restarts 0) h in
    let b = and_parts (is_within 1 2 version) (leb restarts 3) a.0 in
    elim (cases_Bool (eqb version 2)) [
      | inl two ↦ rw two (goes_restarts version restarts sites together (leb-true _ _ b.1))
      | inr one ↦
          let none : restarts ≡ 0 = eqb-true _ _ (second (eqb version 2) (eqb restarts 0) a.1 one) in
          rw (one, none) (goes_none (at_items version 0 sites together []))
    ]

pub goes_head : (version restarts sites together : ℕ) → are_restarts version restarts ≡ true → is_within 1 8 sites ≡ true → is_within 1 16 together ≡ true →
    Goes opening (version_words version ∷ sites_words sites together ∷ restarts_lines version restarts) (at_items version restarts sites together [])
goes_head version restarts sites together r s t =
    let a = and_parts (is_within 1 2 version && leb restarts 3) (eqb version 2 || eqb restarts 0) r in
    let b = and_parts (is_within 1 2 version) (leb restarts 3) a.0 in
    goes_then _ _ _ _ _ (goes_version version b.0) (goes_then _ _ _ _ _ (goes_sites version sites together s t) (after version restarts sites together r))

-- ---- items

item_again : (version restarts sites together : ℕ) (earlier : List ItemLine) (line : ItemLine) (later : List ItemLine) → are_items sites (earlier ++ (line ∷ later)) ≡ true → length earlier < 1024 → sites ≤ 8 →
    Goes (at_items version restarts sites together earlier) (item_words line ∷ []) (at_items version restarts sites together (earlier ++ line ∷ []))
unfolding line_after used_line item_line
item_again version restarts sites together earlier line later are few small =
    let is = item_parts sites line (item_behind sites earlier line later are) in
    let h = holders_again sites line.holders small is.some is.holders in
    let room : leb 1024 (length earlier) ≡ false = lt-leb _ _ few in
    goes_line (at_items version restarts sites together earlier) (item_words line) (at_items version restarts sites together (earlier ++ line ∷ []))
    (rw (name_plain line.name is.name, value_plain line.value is.value) h.1)
    (rw (room, name_at_again line.name (fmt.signed_decimal line.value ∷ codes "at" ∷ map site_word line.holders) is.name, item_new sites earlier line later are, value_at_again line.value (codes "at" ∷ map site_word line.holders) is.value, keyword_again (codes "at") (map site_word line.holders), h.0) refl)

pub goes_items : (version restarts sites together : ℕ) (earlier later : List ItemLine) → are_items sites (earlier ++ later) ≡ true → length earlier + length later ≤ 1024 → sites ≤ 8 →
    Goes (at_items version restarts sites together earlier) (map item_words later) (at_items version restarts sites together (earlier ++ later))
goes_items version restarts sites together earlier [] are few small = subst (λ (xs : List ItemLine). Goes (at_items version restarts sites together earlier) [] (at_items version restarts sites together xs)) (sym (append-nil earlier)) (goes_none (at_items version restarts sites together earlier))
goes_items version restarts sites together earlier (line ∷ later) are few small =
    let one = item_again version restarts sites together earlier line later are (omega arith) small in
    let e : (earlier ++ line ∷ []) ++ later ≡ earlier ++ (line ∷ later) = append_assoc earlier (line ∷ []) later in
    let others = goes_items version restarts sites together (earlier ++ line ∷ []) later (rw e are) (omega (arith, length-append earlier (line ∷ []))) small in
    subst (λ (xs : List ItemLine). Goes (at_items version restarts sites together earlier) (map item_words (line ∷ later)) (at_items version restarts sites together xs)) e
    (goes_then (at_items version restarts sites together earlier) (item_words line ∷ []) (at_items version restarts sites together (earlier ++ line ∷ [])) (map item_words later) (at_items version restarts sites together ((earlier ++ line ∷ []) ++ later)) one others)
