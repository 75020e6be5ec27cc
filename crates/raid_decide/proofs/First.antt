-- The first entry that there is, of those that may have to come next.
use Rattle.std.proofs.Common.{◌≡◌, true, false, List, [], ◌∷◌, ◌++◌, Option, Some, None, ap, sym, refl, ◌∙◌}
use Rattle.std.specs.Prelude.{is_some}
use Rattle.std.proofs.lemmas.Bool.{true≢false}
use Rattle.raid_base.specs.declared.entry.Entry.{Entry}
use Rattle.raid_legal.specs.Forced.{earliest}

-- one that is there comes first
pub comes : (o a : Option Entry) (rest : List (Option Entry)) → is_some o ≡ true → o ≡ a → o ≡ earliest (a ∷ rest)
comes None a rest s q = absurd (true≢false (sym s))
comes (Some e) a rest s q = ap (λ (z : Option Entry). earliest (z ∷ rest)) q

-- one that isn't is passed over
pub passed : (o a r : Option Entry) (rest : List (Option Entry)) → is_some o ≡ false → o ≡ a → r ≡ earliest rest → r ≡ earliest (a ∷ rest)
passed None a r rest s q e = e ∙ ap (λ (z : Option Entry). earliest (z ∷ rest)) q
passed (Some f) a r rest s q e = absurd (true≢false s)

pub last : (o a : Option Entry) → o ≡ a → o ≡ earliest (a ∷ [])
last None a q = ap (λ (z : Option Entry). earliest (z ∷ [])) q
last (Some e) a q = ap (λ (z : Option Entry). earliest (z ∷ [])) q

-- one more, behind those
found : (os : List (Option Entry)) (x : Option Entry) (e : Entry) → Some e ≡ earliest os → Some e ≡ earliest (os ++ x ∷ [])
found [] x e q = cc
found (Some f ∷ os) x e q = q
found (None ∷ os) x e q = found os x e q

none_found : (os : List (Option Entry)) (x : Option Entry) → None ≡ earliest os → x ≡ earliest (os ++ x ∷ [])
none_found [] (Some e) q = refl
none_found [] None q = refl
none_found (Some f ∷ os) x q = cc
none_found (None ∷ os) x q = none_found os x q

pub comes_before : (os : List (Option Entry)) (x o : Option Entry) → is_some o ≡ true → o ≡ earliest os → o ≡ earliest (os ++ x ∷ [])
comes_before os x None s q = absurd (true≢false (sym s))
comes_before os x (Some e) s q = found os x e q

pub comes_last : (os : List (Option Entry)) (x o r : Option Entry) → is_some o ≡ false → o ≡ earliest os → r ≡ x → r ≡ earliest (os ++ x ∷ [])
comes_last os x None r s q e = e ∙ none_found os x q
comes_last os x (Some f) r s q e = absurd (true≢false s)
