-- A text, piece by piece.
use Rattle.std.proofs.Common.{◌≡◌, ℕ, zero, suc, ◌+◌, ◌<◌, Bool, true, false, filter, map, List, [], ◌∷◌, ◌++◌, drop, Some, slice_get, refl, sym, ap, ◌∙◌, arith, add-one, append_assoc}
use Rattle.std.specs.List.{flat_map}
use Rattle.std.proofs.lemmas.List.{append-nil}
use Rattle.std.proofs.lemmas.List.Concat.{flat_map-append}
use Rattle.raid_base.specs.declared.names.Site.{Site}
use Rattle.raid_base.specs.Sites.{site, all_sites}
use Rattle.raid_scan.specs.Words.{Word, joined, text_of}
use Rattle.raid_text.specs.Spelling.{spaced, line_text, site_word}

joined_spaced : (word : Word) (words : List Word) → joined (word ∷ words) ≡ word ++ spaced words
joined_spaced word [] = sym (append-nil word)
joined_spaced word (next ∷ words) = ap (λ (xs : List ℕ). word ++ (32 ∷ xs)) (joined_spaced next words)

line_is : (words : List Word) (rest : List ℕ) → joined words ++ (10 ∷ rest) ≡ line_text words ++ rest
line_is [] rest = refl
line_is (word ∷ words) rest = ap (λ (xs : List ℕ). xs ++ (10 ∷ rest)) (joined_spaced word words) ∙ simp append_assoc

pub text_is : (lines : List (List Word)) → text_of lines ≡ flat_map line_text lines
text_is [] = refl
text_is (words ∷ lines) = line_is words (text_of lines) ∙ ap (λ (xs : List ℕ). line_text words ++ xs) (text_is lines)

-- what was put down part by part
pub parts : (o : List ℕ) (v s : List Word) (restarts items : List (List Word)) (opens : List Word) (switches events programs : List (List Word)) (done : List Word) →
    ((((((o ++ flat_map line_text (v ∷ s ∷ restarts)) ++ flat_map line_text items) ++ line_text opens) ++ flat_map line_text switches) ++ flat_map line_text events) ++ flat_map line_text programs) ++ line_text done
    ≡ o ++ flat_map line_text (v ∷ s ∷ (restarts ++ (items ++ (opens ∷ (switches ++ (events ++ (programs ++ (done ∷ []))))))))
parts o v s restarts items opens switches events programs done = simp (flat_map-append, append_assoc, append-nil)

pub site_more : (n : ℕ) → n < 8 → drop n all_sites ≡ site (n + 1) ∷ drop (n + 1) all_sites
site_more zero less = refl
site_more (suc zero) less = refl
site_more (suc (suc zero)) less = refl
site_more (suc (suc (suc zero))) less = refl
site_more (suc (suc (suc (suc zero)))) less = refl
site_more (suc (suc (suc (suc (suc zero))))) less = refl
site_more (suc (suc (suc (suc (suc (suc zero)))))) less = refl
site_more (suc (suc (suc (suc (suc (suc (suc zero))))))) less = refl
site_more (suc (suc (suc (suc (suc (suc (suc (suc n)))))))) less = absurd (omega arith)

-- a site that is among those to be written, and one that isn't
pub site_written : (test : Site → Bool) (out : List ℕ) (n : ℕ) → n < 8 → test (site (n + 1)) ≡ true →
    (out ++ (32 ∷ site_word (site (n + 1)))) ++ spaced (map site_word (filter test (drop (n + 1) all_sites))) ≡ out ++ spaced (map site_word (filter test (drop n all_sites)))
site_written test out n less pass =
    rw (site_more n less, pass) (append_assoc out (32 ∷ site_word (site (n + 1))) (spaced (map site_word (filter test (drop (n + 1) all_sites)))))

pub site_skipped : (test : Site → Bool) (out : List ℕ) (n : ℕ) → n < 8 → test (site (n + 1)) ≡ false →
    out ++ spaced (map site_word (filter test (drop (n + 1) all_sites))) ≡ out ++ spaced (map site_word (filter test (drop n all_sites)))
site_skipped test out n less fail = rw (site_more n less, fail) refl

drop_next : {X : Type 0} (xs : List X) (k : ℕ) (x : X) → slice_get xs k ≡ Some x → drop k xs ≡ x ∷ drop (suc k) xs
drop_next [] zero x e = absurd cc
drop_next [] (suc k) x e = absurd cc
drop_next (y ∷ ys) zero x e = let s : y ≡ x = cc in rw s refl
drop_next (y ∷ ys) (suc k) x e = drop_next ys k x e

-- what stands at a place stands first behind those before it
pub drop_more : {X : Type 0} (xs : List X) (k : ℕ) (x : X) → slice_get xs k ≡ Some x → drop k xs ≡ x ∷ drop (k + 1) xs
drop_more xs k x e = rw (add-one k) (drop_next xs k x e)

-- behind the last site stands none
pub sites_end : (test : Site → Bool) (out : List ℕ) (n : ℕ) → n ≡ 8 → out ≡ out ++ spaced (map site_word (filter test (drop n all_sites)))
sites_end test out n e = rw e (sym (append-nil out))
