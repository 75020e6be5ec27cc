-- Transactions and sites: what is written is read again, and what is read is written so.
use Rattle.std.proofs.Common.{◌≡◌, ◌==◌, ℕ, zero, suc, ◌+◌, ◌-◌, ◌*◌, ◌/◌, ◌%◌, ◌^◌, ◌<◌, ◌≤◌, List, [], ◌∷◌, ◌++◌, length, Option, Some, refl, sym, ap, subst, ◌∙◌, arith}
use Rattle.std.specs.Fmt.{decimal}
use Rattle.std.proofs.lemmas.Bool.{eqb-true}
use Rattle.std.proofs.lemmas.List.{append-nil}
use Rattle.std.proofs.lemmas.Nat.{mod-mul-add, div-mul-add}
use Rattle.std.proofs.Math.Nat.{div-add-mod, div-lt_iff_lt-mul, mod-lt, mul-le-mul_right, mul_comm}
use Rattle.raid_base.specs.declared.names.Txn.{Txn}
use Rattle.raid_base.specs.declared.names.Site.{Site}
use Rattle.raid_base.specs.Names.{program_of, attempt_of}
use Rattle.raid_base.specs.Sites.{site}
use Rattle.raid_workload.specs.declared.workload.Workload.{Workload}
use Rattle.raid_pieces.specs.Reading.{◌>>=◌}
use Rattle.raid_pieces.specs.Pieces.{pieces}
use Rattle.raid_pieces.specs.Numbers.{is_digit, number_of}
use Rattle.raid_pieces.proofs.Glued.{free_of, glued, glued_pieces, pieces_glued, piece_alone}
use Rattle.raid_pieces.proofs.Written.{number_again, number_exact, digits_are}
use Rattle.raid_report.specs.Spelling.{Word, attempt_part, txn_word, site_word}
use Rattle.raid_report.specs.Known.{KnowsTxn, KnowsSite}
use Rattle.raid_report.specs.Forms.{nonzero, positive_of, txn_at, txn_parts, txn_of, site_of}
use Rattle.raid_report.proofs.Bind.{bind_some, test_some, some_is}
use Rattle.raid_report.proofs.Facts.{sized}

-- ---- numbers of at least 1

pub record IsPositive (most : ℕ) (word : Word) (n : ℕ) : Type 0 where
  pub written : decimal n ≡ word
  pub some : 1 ≤ n
  pub within : n ≤ most

nonzero_parts : (m n : ℕ) → nonzero m ≡ Some n → (m ≡ n) × (1 ≤ n)
nonzero_parts zero n e = absurd cc
nonzero_parts (suc m) n e = let s = some_is (suc m) n e in (s, omega arith)

pub positive_exact : (most : ℕ) (word : Word) (n : ℕ) → positive_of most word ≡ Some n → IsPositive most word n
unfolding positive_of
positive_exact most word n e =
    let a = bind_some (number_of most word) _ n e in
    let x = number_exact most word a.0 a.1 in
    let p = nonzero_parts a.0 n a.2 in
    record { written = rw (← p.0) x.0; some = p.1; within = rw (← p.0) x.1 }

pub positive_again : (most n : ℕ) → 1 ≤ n → n ≤ most → n < 2 ^ 32 → positive_of most (decimal n) ≡ Some n
unfolding positive_of
positive_again most zero some le short = absurd (omega arith)
positive_again most (suc n) some le short = rw (number_again most (suc n) le short) refl

-- ---- transactions

number : ℕ → Txn
number k = record { 0 = k }

-- the attempt at a program, as a number, has this program and this attempt
numbered : (programs program attempt : ℕ) → 1 ≤ program → program ≤ programs → (program_of (number (attempt * programs + program)) programs ≡ program) × (attempt_of (number (attempt * programs + program)) programs ≡ attempt)
unfolding number
numbered programs zero attempt some le = absurd (omega arith)
numbered programs (suc p) attempt some le =
    let e : attempt * programs + suc p - 1 ≡ attempt * programs + p = omega arith in
    let m = mod-mul-add attempt programs p (omega arith) in
    let d = div-mul-add attempt programs p (omega arith) in
    let first : 1 + (attempt * programs + suc p - 1) % programs ≡ suc p = rw (e, m) (omega arith) in
    (first, rw (e, d) refl)

within_all : (programs restarts program attempt : ℕ) → program ≤ programs → attempt ≤ restarts → attempt * programs + program ≤ programs * (restarts + 1)
within_all programs restarts program attempt le few =
    let m = mul-le-mul_right {m = attempt} {n = restarts} programs few in
    let e : programs * (restarts + 1) ≡ restarts * programs + programs = omega arith in
    omega arith

attempt_some : (a : ℕ) → 1 ≤ a → attempt_part a ≡ 46 ∷ decimal a
attempt_some zero some = absurd (omega arith)
attempt_some (suc a) some = refl

pub record IsTxnWord (w : Workload) (word : Word) (t : Txn) : Type 0 where
  pub written : txn_word w t ≡ word
  pub known : KnowsTxn w t

known_at : (w : Workload) (p a : ℕ) → 1 ≤ p → p ≤ length w.programs → a ≤ w.restarts → KnowsTxn w (txn_at w p a)
known_at w p a some le few = record { first = omega arith; last = within_all (length w.programs) w.restarts p a le few }

tail_of : Workload → Txn → Word
tail_of w t = decimal (program_of t (length w.programs)) ++ attempt_part (attempt_of t (length w.programs))

parts_exact : (w : Workload) (parts : List Word) (t : Txn) → txn_parts w parts ≡ Some t → (tail_of w t ≡ glued 46 parts) × KnowsTxn w t
unfolding txn_parts tail_of number
parts_exact w [] t e = absurd cc
parts_exact w (program ∷ []) t e =
    let a = bind_some (positive_of (length w.programs) program) _ t e in
    let x = positive_exact (length w.programs) program a.0 a.1 in
    let s = some_is (txn_at w a.0 0) t a.2 in
    let n = numbered (length w.programs) a.0 0 x.some x.within in
    (rw (← s) (rw (n.0, n.1, x.written) refl), subst (KnowsTxn w) s (known_at w a.0 0 x.some x.within (omega arith)))
parts_exact w (program ∷ attempt ∷ []) t e =
    let a = bind_some (positive_of (length w.programs) program) _ t e in
    let x = positive_exact (length w.programs) program a.0 a.1 in
    let b = bind_some (positive_of w.restarts attempt) _ t a.2 in
    let y = positive_exact w.restarts attempt b.0 b.1 in
    let s = some_is (txn_at w a.0 b.0) t b.2 in
    let n = numbered (length w.programs) a.0 b.0 x.some x.within in
    (rw (← s) (rw (n.0, n.1, attempt_some b.0 y.some, x.written, y.written) (rw (append-nil (46 ∷ attempt)) refl)), subst (KnowsTxn w) s (known_at w a.0 b.0 x.some x.within y.within))
parts_exact w (program ∷ attempt ∷ more ∷ others) t e = absurd cc

pub txn_exact : (w : Workload) (word : Word) (t : Txn) → txn_of w word ≡ Some t → IsTxnWord w word t
unfolding txn_of tail_of
txn_exact w [] t e = absurd cc
txn_exact w (b ∷ bytes) t e =
    let a = test_some (b == 116) (txn_parts w (pieces 46 bytes)) t e in
    let x = parts_exact w (pieces 46 bytes) t a.1 in
    record { written = rw (eqb-true b 116 a.0) (ap (λ (xs : List ℕ). 116 ∷ xs) (x.0 ∙ glued_pieces 46 bytes)); known = x.1 }

parts_again : (w : Workload) (p a : ℕ) → 1 ≤ p → p ≤ length w.programs → a ≤ w.restarts → txn_parts w (pieces 46 (decimal p ++ attempt_part a)) ≡ Some (txn_at w p a)
unfolding txn_parts
parts_again w p zero some le few =
    let z = sized w in
    let f = free_of is_digit 46 (decimal p) refl (digits_are p (omega arith)) in
    let c : pieces 46 (decimal p ++ attempt_part 0) ≡ decimal p ∷ [] = rw (append-nil (decimal p)) (piece_alone 46 (decimal p) f) in
    rw (c, positive_again (length w.programs) p some le (omega arith)) refl
parts_again w p (suc a) some le few =
    let z = sized w in
    let f = free_of is_digit 46 (decimal p) refl (digits_are p (omega arith)) in
    let g = free_of is_digit 46 (decimal (suc a)) refl (digits_are (suc a) (omega arith)) in
    let c : pieces 46 (decimal p ++ attempt_part (suc a)) ≡ decimal p ∷ decimal (suc a) ∷ [] =
    rw (← append-nil (46 ∷ decimal (suc a))) (pieces_glued 46 (decimal p) (decimal (suc a) ∷ []) f (rw g refl)) in
    rw (c, positive_again (length w.programs) p some le (omega arith), positive_again w.restarts (suc a) (omega arith) few (omega arith)) refl

pub record IsAttempt (w : Workload) (t : Txn) : Type 0 where
  pub some : 1 ≤ program_of t (length w.programs)
  pub program : program_of t (length w.programs) ≤ length w.programs
  pub attempt : attempt_of t (length w.programs) ≤ w.restarts
  pub back : attempt_of t (length w.programs) * length w.programs + program_of t (length w.programs) ≡ t.0

some_programs : (p r t : ℕ) → 1 ≤ t → t ≤ p * (r + 1) → 0 < p
some_programs zero r t some le = absurd (omega arith)
some_programs (suc p) r t some le = omega arith

pub attempt_is : (w : Workload) (t : Txn) → KnowsTxn w t → IsAttempt w t
attempt_is w t h =
    let p = length w.programs in
    let some = some_programs p w.restarts t.0 h.first h.last in
    let m = mod-lt (t.0 - 1) {m = p} some in
    let d = div-add-mod (t.0 - 1) p in
    let iff = div-lt_iff_lt-mul {k = p} {x = t.0 - 1} {y = w.restarts + 1} some in
    let c = mul_comm (w.restarts + 1) p in
    let few : (t.0 - 1) / p < w.restarts + 1 = iff.1 (rw c (omega (arith, h.first, h.last))) in
    let e = mul_comm ((t.0 - 1) / p) p in
    record { some = omega arith; program = omega arith; attempt = omega arith; back = rw e (omega (arith, h.first)) }

pub txn_again : (w : Workload) (t : Txn) → KnowsTxn w t → txn_of w (txn_word w t) ≡ Some t
unfolding txn_of
txn_again w t h =
    let a = attempt_is w t h in
    parts_again w (program_of t (length w.programs)) (attempt_of t (length w.programs)) a.some a.program a.attempt
    ∙ ap (λ k. let u : Txn = record { 0 = k } in let o : Option Txn = Some u in o) a.back

-- ---- sites

pub record IsSiteWord (w : Workload) (word : Word) (s : Site) : Type 0 where
  pub written : site_word s ≡ word
  pub known : KnowsSite w s

pub site_exact : (w : Workload) (word : Word) (s : Site) → site_of w word ≡ Some s → IsSiteWord w word s
unfolding site_of
site_exact w [] s e = absurd cc
site_exact w (b ∷ bytes) s e =
    let a = test_some (b == 115) (positive_of w.sites bytes >>= λ n. Some (site n)) s e in
    let p = bind_some (positive_of w.sites bytes) _ s a.1 in
    let x = positive_exact w.sites bytes p.0 p.1 in
    let is = some_is (site p.0) s p.2 in
    record {
      written = rw (eqb-true b 115 a.0) (ap site_word (sym is) ∙ ap (λ (xs : List ℕ). 115 ∷ xs) x.written);
      known = subst (KnowsSite w) is (record { first = x.some; last = x.within });
    }

pub site_again : (w : Workload) (s : Site) → KnowsSite w s → site_of w (site_word s) ≡ Some s
unfolding site_of
site_again w s h = let z = sized w in rw (positive_again w.sites s.0 h.first h.last (omega (arith, h.last))) refl
