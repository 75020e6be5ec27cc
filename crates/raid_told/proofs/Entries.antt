-- One more entry: while a copy waits at a site that stays up, its item isn't written; and a source that stays up stays unlocked.
use Rattle.std.proofs.Common.{◌≡◌, inl, inr, ℕ, ◌+◌, ◌<◌, ◌≤◌, nat_lt, nat_le, Bool, true, false, not, ◌&&◌, ◌||◌, List, [], ◌∷◌, length, if◌then◌else◌, arith, sym, subst, ap, ◌∙◌, refl}
use Rattle.std.proofs.lemmas.Bool.{and_parts, true≢false}
use Rattle.raid_base.specs.declared.names.Txn.{Txn}
use Rattle.raid_base.specs.declared.names.Item.{Item}
use Rattle.raid_base.specs.declared.names.Site.{Site}
use Rattle.raid_base.specs.declared.request.Request.{Request}
use Rattle.raid_base.specs.declared.entry.Entry.{Entry}
use Rattle.raid_base.specs.declared.entry.Entry.TheVariants.{Commit, Down, Up, Clear}
use Rattle.raid_base.specs.declared.entry.Noted.{Noted}
use Rattle.raid_base.specs.Names.{is_item, is_site, has_site, holds}
use Rattle.raid_base.specs.Sites.{session}
use Rattle.raid_workload.specs.declared.workload.Workload.{Workload}
use Rattle.raid_workload.specs.Parts.{sites}
use Rattle.raid_rules.specs.Entries.{writes_of}
use Rattle.raid_rules.specs.History.{add, next, version}
use Rattle.raid_rules.specs.Sessions.{last_session, is_copy_locked, owes_for, turn_lock, turn_last, turn_vector}
use Rattle.raid_rules.proofs.Push.{is_copy_locked_push, vector_push}
use Rattle.raid_legal.specs.Seen.{vector}
use Rattle.raid_message.specs.declared.letter.Message.{Message}
use Rattle.raid_message.specs.declared.letter.Message.TheVariants as letters
use Rattle.raid_message.specs.declared.letter.Letter.{Letter}
use Rattle.raid_placed.specs.Placed.{Placeable}
use Rattle.raid_sessions.proofs.Ledger.{session_set}
use Rattle.raid_steps.specs.Fits.{knows_site}
use Rattle.raid_letters.specs.Says.{is_held}
use Rattle.raid_letters.proofs.Sends.{same_site}
use Rattle.raid_versions.specs.Versions.{was_written}
use Rattle.raid_versions.proofs.Chain.{counted}
use Rattle.raid_versions.proofs.Mid.{last_push, version_now}
use Rattle.raid_versions.proofs.Placing.{commit_whole, up_holder, held_some}
use Rattle.raid_versions.proofs.Steps.{Why}
use Rattle.raid_versions.proofs.Written.{at_parts}
use Rattle.raid_told.specs.Copiers.{Awaits, IsCurrent, IsOff, AreOff, Copies, Asks, Speaks, AskAlong}

module _ (w : Workload) (from : ℕ) (letter : Letter) (first p : List Noted) (e : Entry) (goes : Placeable w p e) (why : Why w from letter first p e) (sized : length (vector w p) ≡ w.sites) where
  abbrev q : List Noted
  q = add p e

  vector_now : vector w q ≡ turn_vector (vector w p) e
  vector_now = vector_push w.sites p (next p e)

  -- no last session falls
  pub last_on : (s : Site) → last_session p s ≤ last_session q s
  last_on s = subst (λ z. last_session p s ≤ z) (sym (last_push p e s)) (go e why)
    where
      rise : (b : Bool) (n : ℕ) (r : Site) → is_site s r ≡ b → last_session p r < n → last_session p s ≤ (if b then n else last_session p s)
      rise true n r is more = (let same = ap (last_session p) (sym (same_site s r is)) in omega (arith, same, more))
      rise false n r is more = omega arith

      go : (d : Entry) → Why w from letter first p d → last_session p s ≤ turn_last s (last_session p s) d
      go (Up r n) y = rise (is_site s r) n r refl y.1
      go other y = omega arith

  -- a site that is up in a session that there was before was up in it
  was_up : (s : Site) (n : ℕ) → knows_site w s ≡ true → n ≤ last_session p s → 1 ≤ n → session (vector w q) s ≡ n → session (vector w p) s ≡ n
  was_up s n known past some up = go e why (sym (ap (λ v. session v s) vector_now) ∙ up)
    where
      fall : (b : Bool) → (if b then 0 else session (vector w p) s) ≡ n → session (vector w p) s ≡ n
      fall true is = absurd (omega (arith, is, some))
      fall false is = is

      rise : (b : Bool) (m : ℕ) (r : Site) → is_site s r ≡ b → last_session p r < m → (if b then m else session (vector w p) s) ≡ n → session (vector w p) s ≡ n
      rise true m r same more is = absurd (let one = ap (last_session p) (same_site s r same) in omega (arith, one, more, is, past))
      rise false m r same more is = is

      go : (d : Entry) → Why w from letter first p d → session (turn_vector (vector w p) d) s ≡ n → session (vector w p) s ≡ n
      go (Down r) y is = fall (is_site s r) (sym (session_set w (vector w p) r s 0 sized y known) ∙ is)
      go (Up r m) y is = rise (is_site s r) m r refl y.1 (sym (session_set w (vector w p) r s m sized y.0 known) ∙ is)
      go other y is = is

  -- a Commit writes the item and unlocks the copy of a holder that is up before and after; any other entry leaves the item, and locks no such copy
  data Locks (s : Site) (x : Item) : Type 0 where
    writes : holds x (writes_of e) ≡ true → is_copy_locked q s x ≡ false → Locks s x
    leaves : holds x (writes_of e) ≡ false → (is_copy_locked q s x ≡ true → is_copy_locked p s x ≡ true) → Locks s x

  locks : (s : Site) (x : Item) → knows_site w s ≡ true → is_held w s x ≡ true → 1 ≤ session (vector w p) s → 1 ≤ session (vector w q) s → Locks s x
  locks s x known held was now = go e refl
    where
      lock : is_copy_locked q s x ≡ turn_lock s x p (is_copy_locked p s x) e
      lock = is_copy_locked_push p (next p e) s x

      up : (n : ℕ) → 1 ≤ n → nat_lt 0 n ≡ true
      up n some = grind (arith, some)

      numbered : (1 ≤ s.0) × (s.0 ≤ w.sites)
      numbered = (let both = and_parts (nat_le 1 s.0) (nat_le s.0 w.sites) known in (at_least 1 s.0 both.0, at_least s.0 w.sites both.1))
        where
          at_least : (a b : ℕ) → nat_le a b ≡ true → a ≤ b
          at_least a b is = grind (arith, is)

      listed : has_site (sites w) s ≡ true
      listed = (let low = numbered.0 in let high = numbered.1 in counted 1 w.sites s.0 low (omega (arith, high)))

      committing : (t : Txn) (r : Request) (applied : List Site) → e ≡ Commit t r applied → (b : Bool) → holds x r.writes ≡ b → Locks s x
      committing t r applied is true wrote =
          let there : has_site applied s ≡ true = subst (λ ss. has_site ss s ≡ true) (sym (commit_whole w p t r applied (subst (Placeable w p) is goes))) (up_holder w p r.writes s listed (up (session (vector w p) s) was) (held_some w r.writes s x wrote held)) in
          writes (ap (λ z. holds x (writes_of z)) is ∙ wrote) (lock ∙ ap (turn_lock s x p (is_copy_locked p s x)) is ∙ ap (λ b. if b then not (has_site applied s) else is_copy_locked p s x) wrote ∙ ap not there)
      committing t r applied is false wrote =
          leaves (ap (λ z. holds x (writes_of z)) is ∙ wrote) (λ locked. sym (lock ∙ ap (turn_lock s x p (is_copy_locked p s x)) is ∙ ap (λ b. if b then not (has_site applied s) else is_copy_locked p s x) wrote) ∙ locked)

      falling : (r : Site) → e ≡ Down r → (b : Bool) → is_site s r ≡ b → Locks s x
      falling r is true same = absurd (let none = ap (λ v. session v s) vector_now ∙ ap (λ d. session (turn_vector (vector w p) d) s) is ∙ session_set w (vector w p) r s 0 sized (subst (Why w from letter first p) is why) known ∙ ap (λ b. if b then 0 else session (vector w p) s) same in omega (arith, none, now))
      falling r is false same =
          leaves (ap (λ z. holds x (writes_of z)) is) (λ locked. or_none (is_copy_locked p s x) (sym (lock ∙ ap (turn_lock s x p (is_copy_locked p s x)) is ∙ ap (λ b. is_copy_locked p s x || (b && owes_for p s x)) same) ∙ locked))
        where
          or_none : (a : Bool) → (a || (false && owes_for p s x)) ≡ true → a ≡ true
          or_none true is = refl
          or_none false is = is

      plain : (d : Entry) → e ≡ d → holds x (writes_of d) ≡ false → (turn_lock s x p (is_copy_locked p s x) d ≡ true → is_copy_locked p s x ≡ true) → Locks s x
      plain d is none same = leaves (ap (λ z. holds x (writes_of z)) is ∙ none) (λ locked. same (sym (lock ∙ ap (turn_lock s x p (is_copy_locked p s x)) is) ∙ locked))

      go : (d : Entry) → e ≡ d → Locks s x
      go (Commit t r applied) is = committing t r applied is (holds x r.writes) refl
      go (Down r) is = falling r is (is_site s r) refl
      go (Clear r y v) is = plain (Clear r y v) is refl (λ locked. (and_parts (is_copy_locked p s x) (not (is_site s r && is_item x y)) locked).0)
      go other is = plain other is refl (λ locked. locked)

  -- a copy that waits in a session that there was before waited in it, and its item wasn't written
  pub waited : (s : Site) (n : ℕ) (x : Item) → knows_site w s ≡ true → n ≤ last_session p s → Awaits w q s n x → Awaits w p s n x × (holds x (writes_of e) ≡ false)
  waited s n x known past waits = go (locks s x known waits.held (subst (λ z. 1 ≤ z) (sym was) waits.some) (subst (λ z. 1 ≤ z) (sym waits.up) waits.some))
    where
      was : session (vector w p) s ≡ n
      was = was_up s n known past waits.some waits.up

      go : Locks s x → Awaits w p s n x × (holds x (writes_of e) ≡ false)
      go (writes wrote free) = absurd (true≢false (sym waits.locked ∙ free))
      go (leaves none locked) = (record { some = waits.some; up = was; held = waits.held; locked = locked waits.locked }, none)

  -- an entry that writes an item leaves none of its copies waiting
  pub none_waits : (s : Site) (n : ℕ) (x : Item) → knows_site w s ≡ true → holds x (writes_of e) ≡ true → Awaits w q s n x → ⊥
  none_waits s n x known wrote waits = go (locks s x known waits.held (subst (λ z. 1 ≤ z) (sym (was e refl wrote)) some) some)
    where
      some : 1 ≤ session (vector w q) s
      some = subst (λ z. 1 ≤ z) (sym waits.up) waits.some

      was : (d : Entry) → e ≡ d → holds x (writes_of d) ≡ true → session (vector w p) s ≡ session (vector w q) s
      was (Commit t r applied) is wrote = sym (ap (λ v. session v s) vector_now ∙ ap (λ d. session (turn_vector (vector w p) d) s) is)
      was other is wrote = absurd (true≢false (sym wrote))

      go : Locks s x → ⊥
      go (writes wrote free) = true≢false (sym waits.locked ∙ free)
      go (leaves none locked) = true≢false (sym wrote ∙ none)

  -- a source that is up in a session that there was before stays unlocked
  still_unlocked : (s : Site) (to : ℕ) (x : Item) → knows_site w s ≡ true → is_held w s x ≡ true → to ≤ last_session p s → 1 ≤ to → session (vector w q) s ≡ to → (session (vector w p) s ≡ to → is_copy_locked p s x ≡ false) → is_copy_locked q s x ≡ false
  still_unlocked s to x known held past some up free = go (locks s x known held (subst (λ z. 1 ≤ z) (sym was) some) (subst (λ z. 1 ≤ z) (sym up) some))
    where
      was : session (vector w p) s ≡ to
      was = was_up s to known past some up

      either : (b : Bool) → is_copy_locked q s x ≡ b → (is_copy_locked q s x ≡ true → is_copy_locked p s x ≡ true) → b ≡ false
      either true is locked = absurd (true≢false (sym (locked is) ∙ free was))
      either false is locked = refl

      go : Locks s x → is_copy_locked q s x ≡ false
      go (writes wrote now) = now
      go (leaves none locked) = either (is_copy_locked q s x) refl locked

  -- so what comes for a copy stays current
  pub current_on : (s : Site) (n : ℕ) (x : Item) (v : ℕ) → knows_site w s ≡ true → IsCurrent w p s n x v → IsCurrent w q s n x v
  current_on s n x v known h = record { past = (let a = h.past in let b = last_on s in omega (arith, a, b)); current = now }
    where
      now : Awaits w q s n x → v ≡ version q x
      now waits = (let both = waited s n x known h.past waits in h.current both.0 ∙ sym (version_now p e x ∙ ap (λ b. if b then length p + 1 else version p x) both.1))

  pub speaks_on : (here there : Site) (to n : ℕ) (m : Message) → Speaks w p here there to n m → Speaks w q here there to n m
  speaks_on here there to n (letters.CopyValue x value v) h = λ known. current_on here to x v known (h known)
  speaks_on here there to n (letters.CopyDone x v) h = λ known. current_on there n x v known (h known)
  speaks_on here there to n other h = tt

  -- and so do the letters to sources
  off_on : (x : Item) → holds x (writes_of e) ≡ false → (ls : List Letter) → AreOff p x ls → AreOff q x ls
  off_on x none [] a = tt
  off_on x none (l ∷ ls) a = (go l.message a.0, off_on x none ls a.1)
    where
      either : (number : ℕ) → was_written p x number ≡ false → (b : Bool) → was_written q x number ≡ b → b ≡ false
      either number off true is = absurd (elim (at_parts (λ d. holds x (writes_of d)) p e number is) [ inl old ↦ true≢false (sym old ∙ off) | inr new ↦ true≢false (sym new.1 ∙ none) ])
      either number off false is = refl

      go : (m : Message) → IsOff p x m → IsOff q x m
      go (letters.Apply t number) off = either number off (was_written q x number) refl
      go other off = tt

  copies_on : (here : Site) (to : ℕ) (x : Item) (target : Site) (n : ℕ) (behind : List Letter) → knows_site w here ≡ true → knows_site w target ≡ true → Copies w p here to x target n behind → Copies w q here to x target n behind
  copies_on here to x target n behind known wanted old = record {
    past = (let a = old.past in let b = last_on here in omega (arith, a, b));
    target_past = (let a = old.target_past in let b = last_on target in omega (arith, a, b));
    unlocked = λ held some up waits. still_unlocked here to x known held old.past some up (λ was. old.unlocked held some was (waited target n x wanted old.target_past waits).0);
    off = λ waits. (let both = waited target n x wanted old.target_past waits in off_on x both.1 behind (old.off both.0));
  }

  asks_on : (here : Site) (to : ℕ) (m : Message) (behind : List Letter) → Asks w p here to m behind → Asks w q here to m behind
  asks_on here to (letters.CopyDo x target n) behind h = λ known wanted. copies_on here to x target n behind known wanted (h known wanted)
  asks_on here to other behind h = tt

  pub along_on : (here : Site) (ls : List Letter) → AskAlong w p here ls → AskAlong w q here ls
  along_on here [] a = tt
  along_on here (l ∷ ls) a = (asks_on here l.to l.message ls a.0, along_on here ls a.1)
