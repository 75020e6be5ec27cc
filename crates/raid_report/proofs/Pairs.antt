-- Pairs, vectors and sets of sites: what is written is read again, and what is read is written so.
use Rattle.std.proofs.Common.{◌≡◌, ◌==◌, ℕ, ℤ, zero, suc, ◌≤◌, Bool, true, false, cond, List, [], ◌∷◌, length, map, codes, Option, Some, refl, sym, ap, subst, ◌∙◌, arith}
use Rattle.std.specs.Prelude.{bytes_eq}
use Rattle.std.specs.List.{AllByRecursion}
use Rattle.std.specs.Fmt.{decimal}
use Rattle.std.proofs.lemmas.Bool.{eqb-true}
use Rattle.std.proofs.lemmas.List.{append-nil}
use Rattle.raid_base.specs.declared.names.Item.{Item}
use Rattle.raid_workload.specs.declared.workload.Workload.{Workload}
use Rattle.raid_pieces.specs.Pieces.{pieces}
use Rattle.raid_pieces.specs.Numbers.{value_of}
use Rattle.raid_pieces.proofs.Cuts.{some_pieces}
use Rattle.raid_pieces.proofs.Glued.{glued, glued_pieces}
use Rattle.raid_pieces.proofs.Written.{value_exact, same_bytes}
use Rattle.raid_report.specs.Spelling.{Word, listed, pair_part, pairs_word, session_part, vector_word}
use Rattle.raid_report.specs.Known.{KnowsPair}
use Rattle.raid_report.specs.Typed.{IsTypedPair, IsSession}
use Rattle.raid_report.specs.Forms.{item_of, pair_parts, pair_of, all_pairs, pairs_of, positive_of, session_of, all_sessions, vector_of}
use Rattle.raid_report.proofs.Bind.{bind_some, test_some, some_is}
use Rattle.raid_report.proofs.Items.{item_exact}
use Rattle.raid_report.proofs.ReadWords.{positive_exact}

-- a test that failed
pub test_else : {A : Type 0} (b : Bool) (x r : Option A) (y : Option A) → b ≡ false → r ≡ y → cond b x r ≡ y
test_else b x r y h e = rw h e

-- the pieces of a word, listed, are the word
pub listed_again : (word : Word) → listed (pieces 44 word) ≡ word
listed_again word = let some = some_pieces 44 word in ap listed some.1 ∙ (rw some.1 at (glued_pieces 44 word))

-- ---- pairs

pub record IsPairPart (w : Workload) (part : Word) (p : Item × ℤ) : Type 0 where
  pub written : pair_part w p ≡ part
  pub known : KnowsPair w p
  pub typed : IsTypedPair p

parts_exact : (w : Workload) (parts : List Word) (p : Item × ℤ) → pair_parts w parts ≡ Some p → IsPairPart w (glued 61 parts) p
unfolding pair_parts
parts_exact w [] p e = absurd cc
parts_exact w (name ∷ []) p e = absurd cc
parts_exact w (name ∷ value ∷ []) p e =
    let a = bind_some (item_of w name) _ p e in
    let x = item_exact w name a.0 a.1 in
    let b = bind_some (value_of value) _ p a.2 in
    let z = value_exact value b.0 b.1 in
    let is = some_is (a.0, b.0) p b.2 in
    let made : IsPairPart w (glued 61 (name ∷ value ∷ [])) (a.0, b.0) = record {
      written = rw (x.written, z.0) (rw (append-nil (61 ∷ value)) refl);
      known = x.known;
      typed = z.1;
    } in
    subst (IsPairPart w (glued 61 (name ∷ value ∷ []))) is made
parts_exact w (name ∷ value ∷ more ∷ others) p e = absurd cc

pub pair_exact : (w : Workload) (part : Word) (p : Item × ℤ) → pair_of w part ≡ Some p → IsPairPart w part p
unfolding pair_of
pair_exact w part p e = subst (λ (xs : Word). IsPairPart w xs p) (glued_pieces 61 part) (parts_exact w (pieces 61 part) p e)

pub record ArePairParts (w : Workload) (parts : List Word) (ps : List (Item × ℤ)) : Type 0 where
  pub written : map (pair_part w) ps ≡ parts
  pub known : AllByRecursion (KnowsPair w) ps
  pub typed : AllByRecursion IsTypedPair ps

pub all_pairs_exact : (w : Workload) (parts : List Word) (ps : List (Item × ℤ)) → all_pairs w parts ≡ Some ps → ArePairParts w parts ps
unfolding all_pairs
all_pairs_exact w [] ps e = let is = some_is [] ps e in subst (ArePairParts w []) is (record { written = refl; known = tt; typed = tt })
all_pairs_exact w (part ∷ parts) ps e =
    let a = bind_some (pair_of w part) _ ps e in
    let x = pair_exact w part a.0 a.1 in
    let b = bind_some (all_pairs w parts) _ ps a.2 in
    let rest = all_pairs_exact w parts b.0 b.1 in
    let is = some_is (a.0 ∷ b.0) ps b.2 in
    let made : ArePairParts w (part ∷ parts) (a.0 ∷ b.0) = record {
      written = rw (x.written, rest.written) refl;
      known = (x.known, rest.known);
      typed = (x.typed, rest.typed);
    } in
    subst (ArePairParts w (part ∷ parts)) is made

pub record IsPairsWord (w : Workload) (word : Word) (ps : List (Item × ℤ)) : Type 0 where
  pub written : pairs_word w ps ≡ word
  pub known : AllByRecursion (KnowsPair w) ps
  pub typed : AllByRecursion IsTypedPair ps

either_pairs : (w : Workload) (word : Word) (b : Bool) (ps : List (Item × ℤ)) → (b ≡ true → word ≡ codes "-") → cond b (Some []) (all_pairs w (pieces 44 word)) ≡ Some ps → IsPairsWord w word ps
either_pairs w word true ps none e = let is = some_is [] ps e in subst (IsPairsWord w word) is (record { written = sym (none refl); known = tt; typed = tt })
either_pairs w word false ps none e =
    let x = all_pairs_exact w (pieces 44 word) ps e in
    record { written = ap listed x.written ∙ listed_again word; known = x.known; typed = x.typed }

pub pairs_exact : (w : Workload) (word : Word) (ps : List (Item × ℤ)) → pairs_of w word ≡ Some ps → IsPairsWord w word ps
unfolding pairs_of
pairs_exact w word ps e = either_pairs w word (bytes_eq word (codes "-")) ps (λ h. same_bytes word (codes "-") h) e

-- ---- vectors

pub record IsSessionPart (part : Word) (n : ℕ) : Type 0 where
  pub written : session_part n ≡ part
  pub typed : IsSession n

some_session : (n : ℕ) → 1 ≤ n → session_part n ≡ decimal n
some_session zero some = absurd (omega arith)
some_session (suc n) some = refl

either_session : (part : Word) (b : Bool) (n : ℕ) → (b ≡ true → part ≡ codes "-") → cond b (Some 0) (positive_of 4294967295 part) ≡ Some n → IsSessionPart part n
either_session part true n none e = let is = some_is 0 n e in subst (IsSessionPart part) is (record { written = sym (none refl); typed = omega arith })
either_session part false n none e = let x = positive_exact 4294967295 part n e in record { written = some_session n x.some ∙ x.written; typed = omega (arith, x.within) }

pub session_exact : (part : Word) (n : ℕ) → session_of part ≡ Some n → IsSessionPart part n
unfolding session_of
session_exact part n e = either_session part (bytes_eq part (codes "-")) n (λ h. same_bytes part (codes "-") h) e

pub record AreSessionParts (parts : List Word) (v : List ℕ) : Type 0 where
  pub written : map session_part v ≡ parts
  pub typed : AllByRecursion IsSession v

pub all_sessions_exact : (parts : List Word) (v : List ℕ) → all_sessions parts ≡ Some v → AreSessionParts parts v
unfolding all_sessions
all_sessions_exact [] v e = let is = some_is [] v e in subst (AreSessionParts []) is (record { written = refl; typed = tt })
all_sessions_exact (part ∷ parts) v e =
    let a = bind_some (session_of part) _ v e in
    let x = session_exact part a.0 a.1 in
    let b = bind_some (all_sessions parts) _ v a.2 in
    let rest = all_sessions_exact parts b.0 b.1 in
    let is = some_is (a.0 ∷ b.0) v b.2 in
    let made : AreSessionParts (part ∷ parts) (a.0 ∷ b.0) = record { written = rw (x.written, rest.written) refl; typed = (x.typed, rest.typed) } in
    subst (AreSessionParts (part ∷ parts)) is made

pub record IsVectorWord (w : Workload) (word : Word) (v : List ℕ) : Type 0 where
  pub written : vector_word v ≡ word
  pub long : length v ≡ w.sites
  pub typed : AllByRecursion IsSession v

pub vector_exact : (w : Workload) (word : Word) (v : List ℕ) → vector_of w word ≡ Some v → IsVectorWord w word v
unfolding vector_of
vector_exact w word v e =
    let a = bind_some (all_sessions (pieces 44 word)) _ v e in
    let b = test_some (length a.0 == w.sites) (Some a.0) v a.2 in
    let is = some_is a.0 v b.1 in
    let x = all_sessions_exact (pieces 44 word) a.0 a.1 in
    let made : IsVectorWord w word a.0 = record { written = ap listed x.written ∙ listed_again word; long = eqb-true (length a.0) w.sites b.0; typed = x.typed } in
    subst (IsVectorWord w word) is made
