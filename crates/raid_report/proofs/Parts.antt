-- A text, part by part.
use Rattle.std.proofs.Common.{◌≡◌, ℕ, List, [], ◌∷◌, ◌++◌, append_assoc}
use Rattle.std.proofs.lemmas.List.{append-nil}
use Rattle.std.proofs.lemmas.List.Concat.{flat_map-append}
use Rattle.raid_report.specs.Spelling.{Word, line_text, text_of}

-- what was put down line by line, and part by part
pub parts : (out : List ℕ) (first : List Word) (entries : List (List Word)) (order : List Word) (finals copies : List (List Word)) (last : List Word) →
    (((((out ++ line_text first) ++ text_of entries) ++ line_text order) ++ text_of finals) ++ text_of copies) ++ line_text last
    ≡ out ++ text_of (first ∷ (entries ++ (order ∷ (finals ++ (copies ++ (last ∷ []))))))
parts out first entries order finals copies last = simp (flat_map-append, append_assoc, append-nil)
