-- What holds along the letters to a site: when its front letter is taken, and when a copy comes to have a later version.
use Rattle.std.proofs.Common.{◌≡◌, ℕ, ◌<◌, ◌≤◌, ◌==◌, Bool, true, false, ◌&&◌, ◌||◌, List, [], ◌∷◌, if◌then◌else◌, arith, sym, subst, ap, ◌∙◌, refl}
use Rattle.std.specs.List.{AllByRecursion}
use Rattle.std.proofs.lemmas.Bool.{eqb-true, true≢false}
use Rattle.raid_base.specs.declared.names.Item.{Item}
use Rattle.raid_base.specs.declared.names.Txn.{Txn}
use Rattle.raid_base.specs.declared.names.Site.{Site}
use Rattle.raid_base.specs.declared.entry.Noted.{Noted}
use Rattle.raid_rules.specs.History.{version}
use Rattle.raid_message.specs.declared.letter.Message.{Message}
use Rattle.raid_message.specs.declared.letter.Message.TheVariants as letters
use Rattle.raid_message.specs.declared.letter.Letter.{Letter}
use Rattle.raid_steps.specs.State.{SiteState}
use Rattle.raid_asks.proofs.Facts.{or_right}
use Rattle.raid_letters.specs.Says.{IsAfterApply, IsBefore, AreInTurn}
use Rattle.raid_versions.specs.Versions.{was_written, applies, is_pending, after_message, after_letter, latest, AreAbove, NonePending, NoGap, Along, reads_copy, ReadsWhole, IsKeptUp, Sends}

-- an Apply that stands behind one with this number has a larger one
behind_apply : (m number k : ℕ) (ls : List Letter) → AllByRecursion (λ (l : Letter). IsAfterApply number l.message) ls → is_pending m k ls ≡ true → number < k
behind_apply m number k [] a h = absurd (true≢false (sym h))
behind_apply m number k (l ∷ ls) a h = go (l.to == m) (applies k l.message) refl h (behind_apply m number k ls a.1)
  where
    now : (message : Message) → applies k message ≡ true → IsAfterApply number message → number < k
    now (letters.Apply t n) is after = (let same = eqb-true n k is in omega (arith, same, after))
    now other is after = absurd (true≢false (sym is))

    go : (b c : Bool) → applies k l.message ≡ c → (b && c || is_pending m k ls) ≡ true → (is_pending m k ls ≡ true → number < k) → number < k
    go true true is h rest = now l.message is a.0
    go true false is h rest = rest h
    go false c is h rest = rest h

-- what is left is pending still
pub pending_rest : (m number : ℕ) (l : Letter) (ls : List Letter) → is_pending m number ls ≡ true → is_pending m number (l ∷ ls) ≡ true
pending_rest m number l ls h = or_right (l.to == m && applies number l.message) (is_pending m number ls) h

module _ (p : List Noted) (x : Item) (m : ℕ) where
  pub above_rest : (v : ℕ) (l : Letter) (ls : List Letter) → AreAbove p x m v (l ∷ ls) → AreAbove p x m v ls
  above_rest v l ls above number pending written = above number (pending_rest m number l ls pending) written

  pub none_rest : (l : Letter) (ls : List Letter) → NonePending p x m (l ∷ ls) → NonePending p x m ls
  none_rest l ls none number pending = none number (pending_rest m number l ls pending)

  -- a letter that applies a write of the item sets the version; any other leaves it
  pub data Effect (l : Letter) : Type 0 where
    leaves : ((v : ℕ) → after_letter p x m v l ≡ v) → Effect l
    sets : (t : Txn) (number : ℕ) → (l.to == m) ≡ true → l.message ≡ letters.Apply t number → was_written p x number ≡ true → ((v : ℕ) → after_letter p x m v l ≡ number) → Effect l

  pub effect : (l : Letter) → Effect l
  effect l = go (l.to == m) refl l.message refl
    where
      meant_for : (b : Bool) → (l.to == m) ≡ b → (v : ℕ) → after_letter p x m v l ≡ (if b then after_message p x v l.message else v)
      meant_for b q v = ap (λ b. if b then after_message p x v l.message else v) q

      applied : (t : Txn) (number : ℕ) → (l.to == m) ≡ true → l.message ≡ letters.Apply t number → (b : Bool) → was_written p x number ≡ b → Effect l
      applied t number q is true written = sets t number q is written (λ v. meant_for true q v ∙ ap (after_message p x v) is ∙ ap (λ b. if b then number else v) written)
      applied t number q is false written = leaves (λ v. meant_for true q v ∙ ap (after_message p x v) is ∙ ap (λ b. if b then number else v) written)

      go : (b : Bool) → (l.to == m) ≡ b → (message : Message) → l.message ≡ message → Effect l
      go false q message is = leaves (meant_for false q)
      go true q (letters.Apply t number) is = applied t number q is (was_written p x number) refl
      go true q other is = leaves (λ v. meant_for true q v ∙ ap (after_message p x v) is)

  -- a larger version stays so
  after_grows : (u v : ℕ) (l : Letter) → u ≤ v → after_letter p x m u l ≤ after_letter p x m v l
  after_grows u v l low = go (effect l)
    where
      go : Effect l → after_letter p x m u l ≤ after_letter p x m v l
      go (leaves same) = (let a = same u in let b = same v in omega (arith, a, b, low))
      go (sets t number meant is written set) = (let a = set u in let b = set v in omega (arith, a, b))

  -- the letters leave the version, or it comes to be what they tell
  pub data Latest (ls : List Letter) : Type 0 where
    stays : ((v : ℕ) → latest p x m v ls ≡ v) → Latest ls
    comes : (number : ℕ) → ((v : ℕ) → latest p x m v ls ≡ number) → Latest ls

  pub latest_of : (ls : List Letter) → Latest ls
  latest_of [] = stays (λ v. refl)
  latest_of (l ∷ ls) = go (effect l) (latest_of ls)
    where
      go : Effect l → Latest ls → Latest (l ∷ ls)
      go (leaves same) (stays s) = stays (λ v. ap (λ z. latest p x m z ls) (same v) ∙ s v)
      go (sets t number meant is written set) (stays s) = comes number (λ v. s (after_letter p x m v l) ∙ set v)
      go e (comes number c) = comes number (λ v. c (after_letter p x m v l))

  -- the front letter is taken
  above_after : (v : ℕ) (l : Letter) (ls : List Letter) → AreInTurn (l ∷ ls) → AreAbove p x m v (l ∷ ls) → AreAbove p x m (after_letter p x m v l) ls
  above_after v l ls turn above = go (effect l)
    where
      go : Effect l → AreAbove p x m (after_letter p x m v l) ls
      go (leaves same) = subst (λ z. AreAbove p x m z ls) (sym (same v)) (above_rest v l ls above)
      go (sets t number meant is written set) =
          subst (λ z. AreAbove p x m z ls) (sym (set v)) (λ k pending w. behind_apply m number k ls (subst (λ message. AllByRecursion (λ (later : Letter). IsBefore message later.message) ls) is turn.0) pending)

  pub kept_rest : (here : Site) (v : ℕ) (l : Letter) (ls : List Letter) → AreInTurn (l ∷ ls) → IsKeptUp p here x m v (l ∷ ls) → IsKeptUp p here x m (after_letter p x m v l) ls
  kept_rest here v l ls turn kept = record {
    current = kept.current;
    locked = λ locked. none_rest l ls (kept.locked locked);
    above = above_after v l ls turn kept.above;
    whole = kept.whole.1;
  }

  -- the copy comes to have a later version
  gap_later : (u v : ℕ) (ls : List Letter) → u ≤ v → NoGap p x m u ls → NoGap p x m v ls
  gap_later u v ls low gap number written more = gap number written (omega (arith, low, more))

  whole_later : (u v : ℕ) (ls : List Letter) → u ≤ v → Along (ReadsWhole p x m) p x m u ls → Along (ReadsWhole p x m) p x m v ls
  whole_later u v [] low whole = tt
  whole_later u v (l ∷ ls) low whole = (
    (λ meant reads. gap_later u v ls low (whole.0 meant reads)),
    whole_later (after_letter p x m u l) (after_letter p x m v l) ls (after_grows u v l low) whole.1,
  )

  pub kept_later : (here : Site) (u v : ℕ) (ls : List Letter) → u ≤ v → v ≤ version p x → AreAbove p x m v ls → IsKeptUp p here x m u ls → IsKeptUp p here x m v ls
  kept_later here u v ls low most above kept = record {
    current = λ unlocked. now (latest_of ls) (kept.current unlocked);
    locked = kept.locked;
    above = above;
    whole = whole_later u v ls low kept.whole;
  }
    where
      now : Latest ls → latest p x m u ls ≡ version p x → latest p x m v ls ≡ version p x
      now (stays s) q = (let a = s u in let b = s v in omega (arith, a, b, q, low, most))
      now (comes number c) q = c v ∙ sym (c u) ∙ q

  -- what is to be sent is claimed with the larger version, since behind a letter that sends it the smaller one would miss that
  pub sends_later : (sites : List SiteState) (links : List (List (List Letter))) (u v : ℕ) (ls : List Letter) → u < v → was_written p x v ≡ true → is_pending m v ls ≡ false →
      Along (ReadsWhole p x m) p x m u ls → Along (Sends p sites links x) p x m u ls → Along (Sends p sites links x) p x m v ls
  sends_later sites links u v [] less written absent whole sends = tt
  sends_later sites links u v (l ∷ ls) less written absent whole sends = ((λ meant. missed l.message (whole.0 meant)), go (effect l) (λ w s. sends_later sites links u v ls less written absent_rest w s))
    where
      left : (b c : Bool) → (b || c) ≡ false → c ≡ false
      left true c q = absurd (true≢false q)
      left false c q = q

      absent_rest : is_pending m v ls ≡ false
      absent_rest = left (l.to == m && applies v l.message) (is_pending m v ls) absent

      missed : (message : Message) → (reads_copy x message ≡ true → NoGap p x m u ls) → Sends p sites links x v message ls
      missed (letters.CopyDo y target n) gap = λ same j is. absurd (true≢false (sym (gap same v written less) ∙ absent_rest))
      missed other gap = tt

      go : Effect l → (Along (ReadsWhole p x m) p x m u ls → Along (Sends p sites links x) p x m u ls → Along (Sends p sites links x) p x m v ls) → Along (Sends p sites links x) p x m (after_letter p x m v l) ls
      go (leaves same) rest =
          subst (λ z. Along (Sends p sites links x) p x m z ls) (sym (same v))
          (rest (subst (λ z. Along (ReadsWhole p x m) p x m z ls) (same u) whole.1) (subst (λ z. Along (Sends p sites links x) p x m z ls) (same u) sends.1))
      go (sets t number meant is applied set) rest = subst (λ z. Along (Sends p sites links x) p x m z ls) (set u ∙ sym (set v)) sends.1

  -- what holds of each letter, by what it is given, holds of another claim that follows
  pub along_weaken : (P Q : ℕ → Message → List Letter → Type 0) → ((v : ℕ) (message : Message) (behind : List Letter) → P v message behind → Q v message behind) → (v : ℕ) (ls : List Letter) → Along P p x m v ls → Along Q p x m v ls
  along_weaken P Q each v [] a = tt
  along_weaken P Q each v (l ∷ ls) a = ((λ meant. each v l.message ls (a.0 meant)), along_weaken P Q each (after_letter p x m v l) ls a.1)
