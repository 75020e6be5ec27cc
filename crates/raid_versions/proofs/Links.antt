-- What is pending on a link, and the version that a copy comes to along it: with more letters, and with a longer history.
use Rattle.std.proofs.Common.{◌≡◌, ◌⊎◌, inl, inr, ℕ, ◌==◌, Bool, true, false, ◌&&◌, ◌||◌, List, [], ◌∷◌, ◌++◌, if◌then◌else◌, sym, subst, ap, ◌∙◌, refl}
use Rattle.std.specs.Prelude.{⊤}
use Rattle.std.specs.List.{AllByRecursion}
use Rattle.std.proofs.lemmas.Bool.{and_parts, eqb-true, true≢false}
use Rattle.std.proofs.lemmas.List.Folds.{list_any-append}
use Rattle.std.proofs.lemmas.List.Sums.{fold-append}
use Rattle.raid_base.specs.declared.names.Item.{Item}
use Rattle.raid_base.specs.declared.entry.Noted.{Noted}
use Rattle.raid_message.specs.declared.letter.Message.{Message}
use Rattle.raid_message.specs.declared.letter.Message.TheVariants as letters
use Rattle.raid_message.specs.declared.letter.Letter.{Letter}
use Rattle.raid_sessions.proofs.Lists.{same_self}
use Rattle.raid_asks.proofs.Facts.{or_parts}
use Rattle.raid_versions.specs.Versions.{was_written, IsVersion, applies, is_pending, after_message, after_letter, latest, NonePending, reads_copy, Along}

-- more letters
pub pending_on : (m n : ℕ) (xs ys : List Letter) → is_pending m n (xs ++ ys) ≡ (is_pending m n xs || is_pending m n ys)
pending_on m n xs ys = list_any-append (λ (l : Letter). l.to == m && applies n l.message) xs ys

pub pending_parts : (m n : ℕ) (xs ys : List Letter) → is_pending m n (xs ++ ys) ≡ true → (is_pending m n xs ≡ true) ⊎ (is_pending m n ys ≡ true)
pending_parts m n xs ys h = or_parts (is_pending m n xs) (is_pending m n ys) (sym (pending_on m n xs ys) ∙ h)

pub latest_on : (p : List Noted) (x : Item) (m v : ℕ) (xs ys : List Letter) → latest p x m v (xs ++ ys) ≡ latest p x m (latest p x m v xs) ys
latest_on p x m v xs ys = fold-append (after_letter p x m) v xs ys

-- a version stays one
pub after_version : (p : List Noted) (x : Item) (m v : ℕ) (l : Letter) → IsVersion p x v → IsVersion p x (after_letter p x m v l)
after_version p x m v l h = go (l.to == m) l.message
  where
    told : (n : ℕ) (b : Bool) → was_written p x n ≡ b → IsVersion p x (if b then n else v)
    told n true q = inr q
    told n false q = h

    say : (message : Message) → IsVersion p x (after_message p x v message)
    say (letters.Apply t n) = told n (was_written p x n) refl
    say other = h

    go : (b : Bool) (message : Message) → IsVersion p x (if b then after_message p x v message else v)
    go true message = say message
    go false message = h

pub latest_version : (p : List Noted) (x : Item) (m v : ℕ) (ls : List Letter) → IsVersion p x v → IsVersion p x (latest p x m v ls)
latest_version p x m v [] h = h
latest_version p x m v (l ∷ ls) h = latest_version p x m (after_letter p x m v l) ls (after_version p x m v l h)

-- another history, in which what is to be applied writes the item as before
abbrev pub IsAlike : List Noted → List Noted → Item → Message → Type 0
IsAlike p q x (letters.Apply t n) = was_written q x n ≡ was_written p x n
IsAlike p q x other = ⊤

abbrev pub AreAlike : List Noted → List Noted → Item → List Letter → Type 0
AreAlike p q x ls = AllByRecursion (λ (l : Letter). IsAlike p q x l.message) ls

pub all_alike : (p q : List Noted) (x : Item) → ((n : ℕ) → was_written q x n ≡ was_written p x n) → (ls : List Letter) → AreAlike p q x ls
all_alike p q x same [] = tt
all_alike p q x same (l ∷ ls) = (go l.message, all_alike p q x same ls)
  where
    go : (message : Message) → IsAlike p q x message
    go (letters.Apply t n) = same n
    go other = tt

pub after_alike : (p q : List Noted) (x : Item) (m v : ℕ) (l : Letter) → IsAlike p q x l.message → after_letter q x m v l ≡ after_letter p x m v l
after_alike p q x m v l h = ap (λ k. if l.to == m then k else v) (go l.message h)
  where
    go : (message : Message) → IsAlike p q x message → after_message q x v message ≡ after_message p x v message
    go (letters.Apply t n) same = ap (λ b. if b then n else v) same
    go other same = refl

pub latest_alike : (p q : List Noted) (x : Item) (m v : ℕ) (ls : List Letter) → AreAlike p q x ls → latest q x m v ls ≡ latest p x m v ls
latest_alike p q x m v [] a = refl
latest_alike p q x m v (l ∷ ls) a = ap (λ k. latest q x m k ls) (after_alike p q x m v l a.0) ∙ latest_alike p q x m (after_letter p x m v l) ls a.1

-- so along a link, with more letters behind
pub along_on : (p q : List Noted) (x : Item) (m : ℕ) (P Q : ℕ → Message → List Letter → Type 0) (ys : List Letter) →
    ((v : ℕ) (message : Message) (behind : List Letter) → IsVersion p x v → P v message behind → Q v message (behind ++ ys)) →
    (v : ℕ) → IsVersion p x v → (ls : List Letter) → AreAlike p q x ls → Along P p x m v ls → Along Q q x m (latest q x m v ls) ys → Along Q q x m v (ls ++ ys)
along_on p q x m P Q ys each v is [] alike h last = last
along_on p q x m P Q ys each v is (l ∷ ls) alike h last = (
  (λ to. each v l.message ls is (h.0 to)),
  subst (λ k. Along Q q x m k (ls ++ ys)) (sym (after_alike p q x m v l alike.0))
      (along_on p q x m P Q ys each (after_letter p x m v l) (after_version p x m v l is) ls alike.1 h.1 (subst (λ k. Along Q q x m (latest q x m k ls) ys) (after_alike p q x m v l alike.0) last)),
)

-- letters that have no copy read or sent
abbrev pub IsUnread : Message → Type 0
IsUnread (letters.ReadDo t ask x home session) = ⊥
IsUnread (letters.CopyDo x target session) = ⊥
IsUnread other = ⊤

-- that tell to apply only the Commit with this number; and none
abbrev pub AppliesOnly : ℕ → Message → Type 0
AppliesOnly number (letters.Apply t n) = n ≡ number
AppliesOnly number other = ⊤

abbrev pub IsUnapplied : Message → Type 0
IsUnapplied (letters.Apply t n) = ⊥
IsUnapplied other = ⊤

abbrev pub AreUnread : List Letter → Type 0
AreUnread ls = AllByRecursion (λ (l : Letter). IsUnread l.message) ls

abbrev pub ApplyOnly : ℕ → List Letter → Type 0
ApplyOnly number ls = AllByRecursion (λ (l : Letter). AppliesOnly number l.message) ls

abbrev pub AreUnapplied : List Letter → Type 0
AreUnapplied ls = AllByRecursion (λ (l : Letter). IsUnapplied l.message) ls

pub along_unread : (Q : ℕ → Message → List Letter → Type 0) → ((v : ℕ) (message : Message) (behind : List Letter) → IsUnread message → Q v message behind) →
    (p : List Noted) (x : Item) (m v : ℕ) (ls : List Letter) → AreUnread ls → Along Q p x m v ls
along_unread Q each p x m v [] a = tt
along_unread Q each p x m v (l ∷ ls) a = ((λ to. each v l.message ls a.0), along_unread Q each p x m (after_letter p x m v l) ls a.1)

pub unread : (x : Item) (message : Message) → IsUnread message → reads_copy x message ≡ false
unread x (letters.ReadDo t ask y home session) u = absurd u
unread x (letters.CopyDo y target session) u = absurd u
unread x other u = refl

-- nothing is applied
unapplied : (n : ℕ) (message : Message) → IsUnapplied message → applies n message ≡ false
unapplied n (letters.Apply t k) u = absurd u
unapplied n other u = refl

pub pending_none : (m n : ℕ) (ls : List Letter) → AreUnapplied ls → is_pending m n ls ≡ false
pending_none m n [] a = refl
pending_none m n (l ∷ ls) a = go (l.to == m) (applies n l.message) (unapplied n l.message a.0) (pending_none m n ls a.1)
  where
    go : (b c : Bool) → c ≡ false → is_pending m n ls ≡ false → ((b && c) || is_pending m n ls) ≡ false
    go true c q r = ap (λ z. z || is_pending m n ls) q ∙ r
    go false c q r = r

pub after_none : (p : List Noted) (x : Item) (m v : ℕ) (l : Letter) → IsUnapplied l.message → after_letter p x m v l ≡ v
after_none p x m v l u = go (l.to == m) l.message u
  where
    say : (message : Message) → IsUnapplied message → after_message p x v message ≡ v
    say (letters.Apply t k) u = absurd u
    say other u = refl

    go : (b : Bool) (message : Message) → IsUnapplied message → (if b then after_message p x v message else v) ≡ v
    go true message u = say message u
    go false message u = refl

pub latest_none : (p : List Noted) (x : Item) (m v : ℕ) (ls : List Letter) → AreUnapplied ls → latest p x m v ls ≡ v
latest_none p x m v [] a = refl
latest_none p x m v (l ∷ ls) a = ap (λ k. latest p x m k ls) (after_none p x m v l a.0) ∙ latest_none p x m v ls a.1

-- one Commit is applied
pub pending_only : (m n number : ℕ) (ls : List Letter) → ApplyOnly number ls → is_pending m n ls ≡ true → n ≡ number
pending_only m n number [] a h = absurd (true≢false (sym h))
pending_only m n number (l ∷ ls) a h = elim (or_parts (l.to == m && applies n l.message) (is_pending m n ls) h) [
  | inl first ↦ say l.message a.0 (and_parts (l.to == m) (applies n l.message) first).1
  | inr more ↦ pending_only m n number ls a.1 more
]
  where
    say : (message : Message) → AppliesOnly number message → applies n message ≡ true → n ≡ number
    say (letters.Apply t k) is q = sym (eqb-true k n q) ∙ is
    say other is q = absurd (true≢false (sym q))

-- which doesn't write the item
pub latest_off : (p : List Noted) (x : Item) (m v number : ℕ) (ls : List Letter) → was_written p x number ≡ false → ApplyOnly number ls → latest p x m v ls ≡ v
latest_off p x m v number [] none a = refl
latest_off p x m v number (l ∷ ls) none a = ap (λ k. latest p x m k ls) (go (l.to == m) l.message a.0) ∙ latest_off p x m v number ls none a.1
  where
    say : (message : Message) → AppliesOnly number message → after_message p x v message ≡ v
    say (letters.Apply t k) is = ap (λ b. if b then k else v) (ap (was_written p x) is ∙ none)
    say other is = refl

    go : (b : Bool) (message : Message) → AppliesOnly number message → (if b then after_message p x v message else v) ≡ v
    go true message is = say message is
    go false message is = refl

-- which does: the copy has it once it is applied, and then stays so
pub latest_stays : (p : List Noted) (x : Item) (m number : ℕ) (ls : List Letter) → ApplyOnly number ls → latest p x m number ls ≡ number
latest_stays p x m number [] a = refl
latest_stays p x m number (l ∷ ls) a = ap (λ k. latest p x m k ls) (go (l.to == m) l.message a.0) ∙ latest_stays p x m number ls a.1
  where
    told : (k : ℕ) (b : Bool) → k ≡ number → (if b then k else number) ≡ number
    told k true is = is
    told k false is = refl

    say : (message : Message) → AppliesOnly number message → after_message p x number message ≡ number
    say (letters.Apply t k) is = told k (was_written p x k) is
    say other is = refl

    go : (b : Bool) (message : Message) → AppliesOnly number message → (if b then after_message p x number message else number) ≡ number
    go true message is = say message is
    go false message is = refl

pub latest_now : (p : List Noted) (x : Item) (m v number : ℕ) (ls : List Letter) → was_written p x number ≡ true → ApplyOnly number ls → is_pending m number ls ≡ true → latest p x m v ls ≡ number
latest_now p x m v number [] written a h = absurd (true≢false (sym h))
latest_now p x m v number (l ∷ ls) written a h = go (l.to == m) refl (applies number l.message) refl (latest_now p x m (after_letter p x m v l) number ls written a.1)
  where
    now : (message : Message) → AppliesOnly number message → applies number message ≡ true → after_message p x v message ≡ number
    now (letters.Apply t k) is q = ap (λ b. if b then k else v) (ap (was_written p x) is ∙ written) ∙ is
    now other is q = absurd (true≢false (sym q))

    both : (b : Bool) → ((b && false) || is_pending m number ls) ≡ is_pending m number ls
    both true = refl
    both false = refl

    go : (b : Bool) → (l.to == m) ≡ b → (c : Bool) → applies number l.message ≡ c → (is_pending m number ls ≡ true → latest p x m (after_letter p x m v l) ls ≡ number) → latest p x m (after_letter p x m v l) ls ≡ number
    go true to true is later = ap (λ k. latest p x m k ls) (ap (λ b. if b then after_message p x v l.message else v) to ∙ now l.message a.0 is) ∙ latest_stays p x m number ls a.1
    go true to false is later = later (sym (ap (λ c. (l.to == m && c) || is_pending m number ls) is ∙ both (l.to == m)) ∙ h)
    go false to c is later = later (sym (ap (λ b. (b && applies number l.message) || is_pending m number ls) to) ∙ h)

-- none is meant for the session
abbrev pub AreForOthers : ℕ → List Letter → Type 0
AreForOthers m ls = AllByRecursion (λ (l : Letter). (l.to == m) ≡ false) ls

pub pending_others : (m n : ℕ) (ls : List Letter) → AreForOthers m ls → is_pending m n ls ≡ false
pending_others m n [] a = refl
pending_others m n (l ∷ ls) a = ap (λ b. (b && applies n l.message) || is_pending m n ls) a.0 ∙ pending_others m n ls a.1

pub latest_others : (p : List Noted) (x : Item) (m v : ℕ) (ls : List Letter) → AreForOthers m ls → latest p x m v ls ≡ v
latest_others p x m v [] a = refl
latest_others p x m v (l ∷ ls) a = ap (λ k. latest p x m k ls) (ap (λ b. if b then after_message p x v l.message else v) a.0) ∙ latest_others p x m v ls a.1

pub along_others : (Q : ℕ → Message → List Letter → Type 0) (p : List Noted) (x : Item) (m v : ℕ) (ls ys : List Letter) → AreForOthers m ls → Along Q p x m v ys → Along Q p x m v (ls ++ ys)
along_others Q p x m v [] ys a h = h
along_others Q p x m v (l ∷ ls) ys a h = (
  (λ to. absurd (true≢false (sym to ∙ a.0))),
  subst (λ k. Along Q p x m k (ls ++ ys)) (sym (ap (λ b. if b then after_message p x v l.message else v) a.0)) (along_others Q p x m v ls ys a.1 h),
)

-- what is pending writes the item as before
pub pending_alike : (p q : List Noted) (x : Item) (m n : ℕ) (ls : List Letter) → AreAlike p q x ls → is_pending m n ls ≡ true → was_written q x n ≡ was_written p x n
pending_alike p q x m n [] a h = absurd (true≢false (sym h))
pending_alike p q x m n (l ∷ ls) a h = elim (or_parts (l.to == m && applies n l.message) (is_pending m n ls) h) [
  | inl here ↦ say l.message a.0 (and_parts (l.to == m) (applies n l.message) here).1
  | inr more ↦ pending_alike p q x m n ls a.1 more
]
  where
    say : (message : Message) → IsAlike p q x message → applies n message ≡ true → was_written q x n ≡ was_written p x n
    say (letters.Apply t k) same r = subst (λ z. was_written q x z ≡ was_written p x z) (eqb-true k n r) same
    say other same r = absurd (true≢false (sym r))

-- where nothing that writes the item is pending, the copy keeps its version
pub latest_quiet : (p : List Noted) (x : Item) (m v : ℕ) (ls : List Letter) → NonePending p x m ls → latest p x m v ls ≡ v
latest_quiet p x m v [] none = refl
latest_quiet p x m v (l ∷ ls) none = ap (λ k. latest p x m k ls) (go (l.to == m) refl) ∙ latest_quiet p x m v ls (λ n pending. none n (ap (λ b. (l.to == m && applies n l.message) || b) pending ∙ or_true (l.to == m && applies n l.message)))
  where
    or_true : (b : Bool) → (b || true) ≡ true
    or_true true = refl
    or_true false = refl

    say : (message : Message) → ((n : ℕ) → applies n message ≡ true → was_written p x n ≡ false) → after_message p x v message ≡ v
    say (letters.Apply t k) each = ap (λ b. if b then k else v) (each k (same_self k))
    say other each = refl

    go : (b : Bool) → (l.to == m) ≡ b → (if b then after_message p x v l.message else v) ≡ v
    go true to = say l.message (λ n is. none n (ap (λ b. b || is_pending m n ls) (ap (λ b. b && applies n l.message) to ∙ is)))
    go false to = refl
