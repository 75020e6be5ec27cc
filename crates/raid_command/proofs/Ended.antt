-- Words with a `--` among them ask for nothing.
use Rattle.std.proofs.Common.{◌≡◌, ◌∙◌, ◌∷◌, ◌++◌, ◌||◌, ◌&&◌, ◌⊎◌, inl, inr, Bool, List, [], true, false, true≢false, refl, sym, ap, Option, None, cond, codes, subst}
use Rattle.std.specs.List.{flat_map}
use Rattle.std.specs.Str.{bytes_eq}
use Rattle.raid_command.specs.declared.asked.Command.{Command}
use Rattle.raid_command.specs.Asked.{Word, advise_of, advised, check_of, command_of, last_of, made, make_of, options_of, run_of, spread}
use Rattle.raid_command.specs.Options.{has_end_of_options}
use Rattle.raid_command.proofs.Split.{same_word}
use Rattle.raid_command.proofs.MakeWords.{hyphen_no_number, made_left, made_right}
use Rattle.raid_command.proofs.LastWords.{value_no_number}

abbrev end : Word
end = codes "--"

either : (a b : Bool) → (a || b) ≡ true → (a ≡ true) ⊎ (b ≡ true)
either true b e = inl refl
either false b e = inr e

or_true : (a b : Bool) → b ≡ true → (a || b) ≡ true
or_true true b e = refl
or_true false b e = e

run_ended : (words : List Word) → has_end_of_options words ≡ true → run_of words ≡ None
run_ended [] e = absurd (true≢false (sym e))
run_ended (x ∷ []) e = elim (either (bytes_eq x end) false e) [
  | inl is ↦ ap (λ y. run_of (y ∷ [])) (same_word x end is)
  | inr wrong ↦ absurd (true≢false (sym wrong))
]
run_ended (x ∷ y ∷ xs) e = refl

-- ---- behind `make`

still_ended : (pieces words : List Word) → has_end_of_options words ≡ true → has_end_of_options (pieces ++ words) ≡ true
still_ended [] words e = e
still_ended (p ∷ ps) words e = or_true (bytes_eq p end) (has_end_of_options (ps ++ words)) (still_ended ps words e)

spread_ended : (words : List Word) → has_end_of_options words ≡ true → has_end_of_options (flat_map spread words) ≡ true
spread_ended [] e = e
spread_ended (x ∷ xs) e = elim (either (bytes_eq x end) (has_end_of_options xs) e) [
  | inl is ↦ subst (λ y. has_end_of_options (spread y ++ flat_map spread xs) ≡ true) (sym (same_word x end is)) refl
  | inr later ↦ still_ended (spread x) (flat_map spread xs) (spread_ended xs later)
]

neither_made : (t u : Bool) (x y : Word) → made x y ≡ None → made y x ≡ None → cond t (made x y) (cond u (made y x) None) ≡ None
neither_made true u x y a b = a
neither_made false true x y a b = b
neither_made false false x y a b = refl

value_ended : (t u : Bool) (x y : Word) → x ≡ end → cond t (made x y) (cond u (made y x) None) ≡ None
value_ended t u x y is = subst (λ z. cond t (made z y) (cond u (made y z) None) ≡ None) (sym is) (neither_made t u end y (made_left end y (hyphen_no_number (45 ∷ []))) (made_right y end (hyphen_no_number (45 ∷ []))))

other_ended : (t u : Bool) (x y : Word) → y ≡ end → cond t (made x y) (cond u (made y x) None) ≡ None
other_ended t u x y is = subst (λ z. cond t (made x z) (cond u (made z x) None) ≡ None) (sym is) (neither_made t u x end (made_right x end (hyphen_no_number (45 ∷ []))) (made_left end x (hyphen_no_number (45 ∷ []))))

name_ended : (t u : Bool) (x y : Option Command) → cond (t && false) x (cond (u && false) y None) ≡ None
name_ended true true x y = refl
name_ended true false x y = refl
name_ended false true x y = refl
name_ended false false x y = refl

options_ended : (pieces : List Word) → has_end_of_options pieces ≡ true → options_of pieces ≡ None
options_ended [] e = refl
options_ended (a ∷ []) e = refl
options_ended (a ∷ b ∷ []) e = refl
options_ended (a ∷ b ∷ c ∷ []) e = refl
options_ended (a ∷ b ∷ c ∷ d ∷ []) e =
    let seeds = bytes_eq a (codes "--seed") in
    let counts = bytes_eq a (codes "--count") in
    let swapped = seeds && bytes_eq c (codes "--count") in
    let straight = counts && bytes_eq c (codes "--seed") in
    elim (either (bytes_eq a end) _ e) [
      | inl is ↦ ap (λ y. options_of (y ∷ b ∷ c ∷ d ∷ [])) (same_word a end is)
      | inr later ↦ elim (either (bytes_eq b end) _ later) [
        | inl is ↦ value_ended swapped straight b d (same_word b end is)
        | inr more ↦ elim (either (bytes_eq c end) _ more) [
          | inl is ↦ ap (λ y. options_of (a ∷ b ∷ y ∷ d ∷ [])) (same_word c end is) ∙ name_ended seeds counts (made b d) (made d b)
          | inr last ↦ elim (either (bytes_eq d end) false last) [
            | inl is ↦ other_ended swapped straight b d (same_word d end is)
            | inr wrong ↦ absurd (true≢false (sym wrong))
          ]
        ]
      ]
    ]
options_ended (a ∷ b ∷ c ∷ d ∷ x ∷ rest) e = refl

-- ---- behind `advise` and `check`

last_ended : (pieces : List Word) → has_end_of_options pieces ≡ true → last_of pieces ≡ None
last_ended [] e = refl
last_ended (a ∷ []) e = refl
last_ended (a ∷ b ∷ []) e = elim (either (bytes_eq a end) _ e) [
  | inl is ↦ ap (λ y. last_of (y ∷ b ∷ [])) (same_word a end is)
  | inr later ↦ elim (either (bytes_eq b end) false later) [
    | inl is ↦ ap (λ y. last_of (a ∷ y ∷ [])) (same_word b end is) ∙ no_value (bytes_eq a (codes "--last"))
    | inr wrong ↦ absurd (true≢false (sym wrong))
  ]
]
  where
    no_value : (t : Bool) → cond t (advised end) None ≡ None
    no_value true = value_no_number end (hyphen_no_number (45 ∷ []))
    no_value false = refl
last_ended (a ∷ b ∷ c ∷ rest) e = refl

check_ended : (words : List Word) → has_end_of_options words ≡ true → check_of words ≡ None
check_ended [] e = absurd (true≢false (sym e))
check_ended (x ∷ xs) e = refl

pick : (t : Bool) (x y : Option Command) → x ≡ None → y ≡ None → cond t x y ≡ None
pick true x y a b = a
pick false x y a b = b

pub command_ended : (word : Word) (words : List Word) → has_end_of_options words ≡ true → command_of (word ∷ words) ≡ None
command_ended word words e =
    pick (bytes_eq word (codes "run")) (run_of words) _ (run_ended words e)
    (pick (bytes_eq word (codes "make")) (make_of words) _ (options_ended (flat_map spread words) (spread_ended words e))
    (pick (bytes_eq word (codes "check")) (check_of words) _ (check_ended words e)
    (pick (bytes_eq word (codes "advise")) (advise_of words) None (last_ended (flat_map spread words) (spread_ended words e)) refl)))
