-- A command to make a workload has a count in range.
use Rattle.std.proofs.Common.{◌≡◌, ℕ, ◌≤◌, Bool, true, false, ◌&&◌, leb, if◌then◌else◌, List, [], ◌∷◌, codes, Option, Some, None, subst, refl}
use Rattle.std.specs.Str.{bytes_eq}
use Rattle.std.specs.Str.Parse.{digits_value}
use Rattle.std.specs.List.{flat_map}
use Rattle.std.proofs.lemmas.Bool.{and_parts, leb-true}
use Rattle.raid_command.specs.declared.asked.Command.{Command}
use Rattle.raid_command.specs.declared.asked.Command.TheVariants.{Run, Make, Check, Advise}
use Rattle.raid_command.specs.Asked.{Word, advise_of, advised, check_of, command_of, last_of, make_of, made, options_of, run_of, is_number, is_count, spread}

-- 1 to 2,000
pub record IsCount (n : ℕ) : Type 0 where
  pub some : 1 ≤ n
  pub few : n ≤ 2000

-- the command, if there is one, has a count in range, if it has one
HasCount : Option Command → Type 0
HasCount None = Unit {0}
HasCount (Some (Run brief)) = Unit {0}
HasCount (Some (Make seed count)) = IsCount count
HasCount (Some Check) = Unit {0}
HasCount (Some (Advise last)) = Unit {0}

if_has : (b : Bool) (c d : Option Command) → HasCount c → HasCount d → HasCount (if b then c else d)
if_has true c d h k = h
if_has false c d h k = k

made_has : (seed count : Word) → HasCount (made seed count)
unfolding HasCount
made_has seed count = go (is_number seed && is_count count) (λ h. h)
  where
    go : (b : Bool) → (b ≡ true → (is_number seed && is_count count) ≡ true) → HasCount (if b then Some (Make (digits_value 10 seed) (digits_value 10 count)) else None)
    go false h = tt
    go true h =
        let range = (and_parts (is_number count) _ (and_parts (is_number seed) _ (h refl)).1).1 in
        record {
          some = leb-true _ _ (and_parts (leb 1 (digits_value 10 count)) _ range).0;
          few = leb-true _ _ (and_parts (leb 1 (digits_value 10 count)) _ range).1;
        }

run_has : (words : List Word) → HasCount (run_of words)
unfolding HasCount
run_has [] = tt
run_has (word ∷ []) = if_has (bytes_eq word (codes "--brief")) (Some (Run true)) None tt tt
run_has (word ∷ next ∷ words) = tt

options_has : (words : List Word) → HasCount (options_of words)
unfolding HasCount
options_has [] = tt
options_has (first ∷ []) = tt
options_has (first ∷ one ∷ []) = tt
options_has (first ∷ one ∷ second ∷ []) = tt
options_has (first ∷ one ∷ second ∷ other ∷ []) =
    if_has (bytes_eq first (codes "--seed") && bytes_eq second (codes "--count")) (made one other) _ (made_has one other)
    (if_has (bytes_eq first (codes "--count") && bytes_eq second (codes "--seed")) (made other one) None (made_has other one) tt)
options_has (first ∷ one ∷ second ∷ other ∷ more ∷ words) = tt

check_has : (words : List Word) → HasCount (check_of words)
unfolding HasCount
check_has [] = tt
check_has (word ∷ words) = tt

last_has : (words : List Word) → HasCount (last_of words)
unfolding HasCount
last_has [] = tt
last_has (name ∷ []) = tt
last_has (name ∷ value ∷ []) = if_has (bytes_eq name (codes "--last")) (advised value) None (if_has (is_count value) (Some (Advise (digits_value 10 value))) None tt tt) tt
last_has (name ∷ value ∷ more ∷ words) = tt

command_has : (words : List Word) → HasCount (command_of words)
unfolding HasCount
command_has [] = tt
command_has (word ∷ words) =
    if_has (bytes_eq word (codes "run")) (run_of words) _ (run_has words)
    (if_has (bytes_eq word (codes "make")) (make_of words) _ (options_has (flat_map spread words))
    (if_has (bytes_eq word (codes "check")) (check_of words) _ (check_has words)
    (if_has (bytes_eq word (codes "advise")) (advise_of words) None (last_has (flat_map spread words)) tt)))

-- words that ask to make a workload give a count in range
pub count_in_range : (words : List Word) (seed count : ℕ) → command_of words ≡ Some (Make seed count) → IsCount count
unfolding HasCount
count_in_range words seed count e = subst HasCount e (command_has words)
