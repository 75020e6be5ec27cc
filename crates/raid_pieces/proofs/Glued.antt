-- Pieces and marks, put together, are cut again at the marks.
use Rattle.std.proofs.Common.{◌≡◌, ◌==◌, ℕ, Bool, true, false, not, cond, List, [], ◌∷◌, ◌++◌, refl, sym, ap, ◌∙◌, arith}
use Rattle.std.specs.List.{slice_split, onto_first, flat_map, list_all}
use Rattle.std.proofs.lemmas.Bool.{eqb-true, and_parts, both_ways}
use Rattle.std.proofs.lemmas.List.{append-nil}
use Rattle.std.proofs.lemmas.Bool.Decides.{nat_tests}
use Rattle.raid_pieces.specs.Pieces.{pieces, without_last, full_lines, last_of, unfinished}
use Rattle.raid_pieces.proofs.Cuts.{some_pieces, keeps, passes}

-- the mark stands nowhere
abbrev pub free : ℕ → List ℕ → Bool
free mark bytes = list_all (λ b. not (b == mark)) bytes

-- the pieces with a mark between each two
abbrev pub glued : ℕ → List (List ℕ) → List ℕ
glued mark [] = []
glued mark (piece ∷ others) = piece ++ flat_map (λ next. mark ∷ next) others

glued_onto : (mark b : ℕ) (ps : List (List ℕ)) → glued mark (onto_first b ps) ≡ b ∷ glued mark ps
glued_onto mark b [] = refl
glued_onto mark b (p ∷ ps) = refl

glued_empty : (mark : ℕ) (ps q : List (List ℕ)) (p : List ℕ) → ps ≡ p ∷ q → glued mark ([] ∷ ps) ≡ mark ∷ glued mark ps
glued_empty mark ps q p e = rw e refl

-- cut and put together again
pub glued_pieces : (mark : ℕ) (bytes : List ℕ) → glued mark (pieces mark bytes) ≡ bytes
unfolding pieces
glued_pieces mark [] = refl
glued_pieces mark (b ∷ bytes) =
    elim (b == mark) as (λ t. (b == mark) ≡ t → glued mark (cond t ([] ∷ slice_split (λ b. b == mark) bytes) (onto_first b (slice_split (λ b. b == mark) bytes))) ≡ b ∷ bytes) [
      | true ↦ λ h. (let some = some_pieces mark bytes in glued_empty mark (slice_split (λ b. b == mark) bytes) some.0.1 some.0.0 some.1 ∙ rw (eqb-true b mark h, glued_pieces mark bytes) refl)
      | false ↦ λ h. glued_onto mark b (slice_split (λ b. b == mark) bytes) ∙ rw (glued_pieces mark bytes) refl
    ] refl

free_first : (mark b : ℕ) (bytes : List ℕ) → free mark (b ∷ bytes) ≡ true → ((b == mark) ≡ false) × (free mark bytes ≡ true)
free_first mark b bytes h = let p = and_parts (not (b == mark)) (free mark bytes) h in (not_true (b == mark) p.0, p.1)
  where
    not_true : (t : Bool) → not t ≡ true → t ≡ false
    not_true true e = sym e
    not_true false e = refl

pub piece_before : (mark : ℕ) (piece rest : List ℕ) → free mark piece ≡ true → pieces mark (piece ++ (mark ∷ rest)) ≡ piece ∷ pieces mark rest
unfolding pieces
piece_before mark [] rest h = let e : (mark == mark) ≡ true = grind (arith, nat_tests) in rw e refl
piece_before mark (b ∷ piece) rest h =
    let p = free_first mark b piece h in
    let e : slice_split (λ b. b == mark) (piece ++ (mark ∷ rest)) ≡ piece ∷ slice_split (λ b. b == mark) rest = piece_before mark piece rest p.1 in
    rw (p.0, e) refl

pub piece_alone : (mark : ℕ) (piece : List ℕ) → free mark piece ≡ true → pieces mark piece ≡ piece ∷ []
unfolding pieces
piece_alone mark [] h = refl
piece_alone mark (b ∷ piece) h =
    let p = free_first mark b piece h in
    let e : slice_split (λ b. b == mark) piece ≡ piece ∷ [] = piece_alone mark piece p.1 in
    rw (p.0, e) refl

-- put together and cut again
pub pieces_glued : (mark : ℕ) (piece : List ℕ) (others : List (List ℕ)) → free mark piece ≡ true → list_all (free mark) others ≡ true →
    pieces mark (piece ++ flat_map (λ next. mark ∷ next) others) ≡ piece ∷ others
pieces_glued mark piece [] h k = rw (append-nil piece) (piece_alone mark piece h)
pieces_glued mark piece (next ∷ others) h k =
    let p = and_parts (free mark next) (list_all (free mark) others) k in
    piece_before mark piece (next ++ flat_map (λ next. mark ∷ next) others) h ∙ ap (λ (ps : List (List ℕ)). piece ∷ ps) (pieces_glued mark next others p.0 p.1)

-- a line with a line feed behind it is a full line
pub line_before : (line rest : List ℕ) → free 10 line ≡ true → full_lines (line ++ (10 ∷ rest)) ≡ line ∷ full_lines rest
unfolding full_lines
line_before line rest h = ap without_last (piece_before 10 line rest h) ∙ keeps line 10 rest

-- bytes of a class that the mark isn't of are free of the mark
pub free_of : (P : ℕ → Bool) (mark : ℕ) (bytes : List ℕ) → P mark ≡ false → list_all P bytes ≡ true → free mark bytes ≡ true
free_of P mark [] none h = refl
free_of P mark (b ∷ bytes) none h =
    let p = and_parts (P b) (list_all P bytes) h in
    let apart : (b == mark) ≡ false = differ (b == mark) (λ e. both_ways (P b) (ap P (eqb-true b mark e) ∙ none) p.0) in
    rw apart (free_of P mark bytes none p.1)
  where
    differ : (t : Bool) → (t ≡ true → ⊥) → t ≡ false
    differ true f = absurd (f refl)
    differ false f = refl

pub unfinished_before : (line rest : List ℕ) → free 10 line ≡ true → unfinished (line ++ (10 ∷ rest)) ≡ unfinished rest
unfolding unfinished
unfinished_before line rest h = ap last_of (piece_before 10 line rest h) ∙ passes line 10 rest

pub nothing_unfinished : unfinished [] ≡ []
unfolding unfinished pieces
nothing_unfinished = refl

pub no_full_lines : full_lines [] ≡ []
unfolding full_lines pieces
no_full_lines = refl

onto_free : (mark b : ℕ) (ps : List (List ℕ)) → (b == mark) ≡ false → list_all (free mark) ps ≡ true → list_all (free mark) (onto_first b ps) ≡ true
onto_free mark b [] apart h = rw apart refl
onto_free mark b (p ∷ ps) apart h = rw apart h

-- no piece has a mark in it
pub pieces_free : (mark : ℕ) (bytes : List ℕ) → list_all (free mark) (pieces mark bytes) ≡ true
unfolding pieces
pieces_free mark [] = refl
pieces_free mark (b ∷ bytes) =
    elim (b == mark) as (λ t. (b == mark) ≡ t → list_all (free mark) (cond t ([] ∷ slice_split (λ b. b == mark) bytes) (onto_first b (slice_split (λ b. b == mark) bytes))) ≡ true) [
      | true ↦ λ h. pieces_free mark bytes
      | false ↦ λ h. onto_free mark b (slice_split (λ b. b == mark) bytes) h (pieces_free mark bytes)
    ] refl

kept_free : (mark : ℕ) (ps : List (List ℕ)) → list_all (free mark) ps ≡ true → list_all (free mark) (without_last ps) ≡ true
kept_free mark [] h = refl
kept_free mark (p ∷ []) h = refl
kept_free mark (p ∷ q ∷ ps) h = let a = and_parts (free mark p) (list_all (free mark) (q ∷ ps)) h in rw a.0 (kept_free mark (q ∷ ps) a.1)

pub lines_free : (text : List ℕ) → list_all (free 10) (full_lines text) ≡ true
unfolding full_lines
lines_free text = kept_free 10 (pieces 10 text) (pieces_free 10 text)
