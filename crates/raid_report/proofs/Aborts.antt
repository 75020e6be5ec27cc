-- An abort that was read is written as the line that it was read from, and so is each entry.
use Rattle.std.proofs.Common.{◌≡◌, Bool, true, false, cond, List, [], ◌∷◌, ◌++◌, codes, Option, Some, refl, sym, ap, subst, ◌∙◌, arith}
use Rattle.std.specs.Prelude.{bytes_eq}
use Rattle.raid_base.specs.declared.names.Txn.{Txn}
use Rattle.raid_base.specs.declared.entry.Entry.{Entry}
use Rattle.raid_base.specs.declared.entry.Entry.TheVariants.{Abort}
use Rattle.raid_base.specs.declared.entry.Act.{Act}
use Rattle.raid_base.specs.declared.entry.Act.TheVariants as acts
use Rattle.raid_base.specs.declared.entry.Cause.{Cause}
use Rattle.raid_base.specs.declared.entry.Cause.TheVariants as causes
use Rattle.raid_workload.specs.declared.workload.Workload.{Workload}
use Rattle.raid_pieces.proofs.Written.{same_bytes}
use Rattle.raid_report.specs.Spelling.{Word, request_words, act_words, cause_words, entry_words}
use Rattle.raid_report.specs.Known.{IsRefused, IsEnded, IsNothing, IsActOf, IsEntryOf}
use Rattle.raid_report.specs.Typed.{IsTypedAct, IsTypedCause, IsTypedEntry}
use Rattle.raid_report.specs.Forms.{pairs_of, vector_of}
use Rattle.raid_report.specs.Next.{word_at, keyword_at, end_at, number_at, txn_next, item_at, request_at, request_of, begin_line, read_line, wait_line, commit_line, ended_at, nothing_at, read_at, commit_at, refused_of, refused_at, cause_of, plain_abort, ended_abort, home_abort, switch_abort, stale_abort, abort_of, abort_line, ack_line, switch_on_line, switch_end_line, down_line, up_line, clear_line, entry_of, entry_at}
use Rattle.raid_report.proofs.Bind.{bind_some, some_is, word_at_exact, keyword_exact, end_exact}
use Rattle.raid_report.proofs.Pairs.{pairs_exact, vector_exact}
use Rattle.raid_report.proofs.ReadEntries.{IsSpelled, before, behind, choose, none_left, txn_next_exact, item_at_exact, number_at_exact, request_exact, request_of_exact, request_is, begin_exact, read_exact, wait_exact, commit_exact, ack_exact, switch_on_exact, switch_end_exact, down_exact, up_exact, clear_exact}

pub record IsActWords (w : Workload) (P : Act → Type 0) (words : List Word) (a : Act) : Type 0 where
  pub written : words ≡ act_words w a
  pub fits : P a
  pub typed : IsTypedAct a

ended_exact : (w : Workload) (words : List Word) (a : Act) → ended_at w words ≡ Some a → IsActWords w (IsEnded w) words a
unfolding ended_at
ended_exact w words a h =
    let k = bind_some (keyword_at (codes "reads") words) _ a h in
    let p = bind_some (word_at k.0) _ a k.2 in
    let n = bind_some (end_at p.0.1) _ a p.2 in
    let r = bind_some (pairs_of w p.0.0) _ a n.2 in
    let x = pairs_exact w p.0.0 r.0 r.1 in
    let made : IsActWords w (IsEnded w) words (acts.Ended r.0) = record {
      written = before (keyword_exact _ words k.0 k.1) (before (word_at_exact k.0 p.0 p.1) (end_exact p.0.1 n.0 n.1)) ∙ ap (λ (y : Word). codes "reads" ∷ y ∷ []) (sym x.written);
      fits = x.known;
      typed = x.typed;
    } in
    subst (IsActWords w (IsEnded w) words) (some_is (acts.Ended r.0) a r.2) made

nothing_exact : (w : Workload) (words : List Word) (a : Act) → nothing_at words ≡ Some a → IsActWords w IsNothing words a
unfolding nothing_at
nothing_exact w words a h =
    let n = bind_some (end_at words) _ a h in
    let made : IsActWords w IsNothing words acts.Nothing = record { written = end_exact words n.0 n.1; fits = tt; typed = tt } in
    subst (IsActWords w IsNothing words) (some_is acts.Nothing a n.2) made

read_act_exact : (w : Workload) (words : List Word) (a : Act) → read_at w words ≡ Some a → IsActWords w (IsRefused w) (codes "read" ∷ words) a
unfolding read_at
read_act_exact w words a h =
    let x = bind_some (item_at w words) _ a h in
    let xx = item_at_exact w words x.0 x.1 in
    let n = bind_some (end_at x.0.1) _ a x.2 in
    let made : IsActWords w (IsRefused w) (codes "read" ∷ words) (acts.Read x.0.0) = record {
      written = ap (λ (xs : List Word). codes "read" ∷ xs) (before xx.0 (end_exact x.0.1 n.0 n.1));
      fits = xx.1;
      typed = tt;
    } in
    subst (IsActWords w (IsRefused w) (codes "read" ∷ words)) (some_is (acts.Read x.0.0) a n.2) made

commit_act_exact : (w : Workload) (words : List Word) (a : Act) → commit_at w words ≡ Some a → IsActWords w (IsRefused w) (codes "commit" ∷ words) a
unfolding commit_at
commit_act_exact w words a h =
    let p = bind_some (request_at words) _ a h in
    let px = request_exact words p.0 p.1 in
    let n = bind_some (end_at p.0.3) _ a p.2 in
    let r = bind_some (request_of w p.0.0 p.0.1 p.0.2) _ a n.2 in
    let q = request_of_exact w p.0.0 p.0.1 p.0.2 r.0 r.1 in
    let none = end_exact p.0.3 n.0 n.1 in
    let all : words ≡ request_words w r.0 = px ∙ ap (λ (xs : List Word). codes "reads" ∷ p.0.0 ∷ codes "writes" ∷ p.0.1 ∷ codes "under" ∷ p.0.2 ∷ xs) none ∙ sym (request_is w p.0.0 p.0.1 p.0.2 r.0 q) in
    let made : IsActWords w (IsRefused w) (codes "commit" ∷ words) (acts.Commit r.0) = record { written = ap (λ (xs : List Word). codes "commit" ∷ xs) all; fits = q.known; typed = q.typed } in
    subst (IsActWords w (IsRefused w) (codes "commit" ∷ words)) (some_is (acts.Commit r.0) a r.2) made

-- one of several lines, by their first words
pub by_word : {X : Type 0} (word expected : Word) (x r : Option X) (y : X) (P : Word → Type 0) → cond (bytes_eq word expected) x r ≡ Some y → (x ≡ Some y → P expected) → (r ≡ Some y → P word) → P word
by_word word expected x r y P e here there = either (bytes_eq word expected) x r y (P word) e (λ h i. subst P (sym (same_bytes word expected h)) (here i)) there
  where
    either : {X : Type 0} (b : Bool) (x r : Option X) (y : X) (P : Type 0) → cond b x r ≡ Some y → (b ≡ true → x ≡ Some y → P) → (r ≡ Some y → P) → P
    either true x r y P e here there = here refl e
    either false x r y P e here there = there e

refused_exact : (w : Workload) (words : List Word) (a : Act) → refused_at w words ≡ Some a → IsActWords w (IsRefused w) words a
unfolding refused_at refused_of
refused_exact w words a h =
    let p = bind_some (word_at words) _ a h in
    let is = word_at_exact words p.0 p.1 in
    let q : IsActWords w (IsRefused w) (p.0.0 ∷ p.0.1) a =
    by_word p.0.0 (codes "read") (read_at w p.0.1) _ a (λ word. IsActWords w (IsRefused w) (word ∷ p.0.1) a) p.2 (read_act_exact w p.0.1 a) (λ e.
    by_word p.0.0 (codes "commit") (commit_at w p.0.1) _ a (λ word. IsActWords w (IsRefused w) (word ∷ p.0.1) a) e (commit_act_exact w p.0.1 a) (λ e.
    none_left a (λ a. IsActWords w (IsRefused w) (p.0.0 ∷ p.0.1) a) e)) in
    subst (λ (xs : List Word). IsActWords w (IsRefused w) xs a) (sym is) q

-- a cause that stands before what was refused
pub record IsPlainCause (word : Word) (c : Cause) : Type 0 where
  pub written : cause_words c ≡ word ∷ []
  pub typed : IsTypedCause c
  pub refuses : (w : Workload) (a : Act) → IsRefused w a → IsActOf w c a

cause_exact : (word : Word) (c : Cause) → cause_of word ≡ Some c → IsPlainCause word c
unfolding cause_of
cause_exact word c e =
    choose (bytes_eq word (codes "late")) causes.Late c _ (IsPlainCause word) e (λ h. record { written = ap (λ (x : Word). x ∷ []) (sym (same_bytes word (codes "late") h)); typed = tt; refuses = λ w a r. r }) (λ e.
    choose (bytes_eq word (codes "invalid")) causes.Invalid c _ (IsPlainCause word) e (λ h. record { written = ap (λ (x : Word). x ∷ []) (sym (same_bytes word (codes "invalid") h)); typed = tt; refuses = λ w a r. r }) (λ e.
    choose (bytes_eq word (codes "cycle")) causes.Cycle c _ (IsPlainCause word) e (λ h. record { written = ap (λ (x : Word). x ∷ []) (sym (same_bytes word (codes "cycle") h)); typed = tt; refuses = λ w a r. r }) (λ e.
    choose (bytes_eq word (codes "deadlock")) causes.Deadlock c _ (IsPlainCause word) e (λ h. record { written = ap (λ (x : Word). x ∷ []) (sym (same_bytes word (codes "deadlock") h)); typed = tt; refuses = λ w a r. r }) (λ e.
    choose (bytes_eq word (codes "nocopy")) causes.NoCopy c _ (IsPlainCause word) e (λ h. record { written = ap (λ (x : Word). x ∷ []) (sym (same_bytes word (codes "nocopy") h)); typed = tt; refuses = λ w a r. r }) (λ e.
    none_left c (IsPlainCause word) e)))))

-- an abort of the transaction that has these words behind it
pub record IsAbort (w : Workload) (t : Txn) (words : List Word) (e : Entry) : Type 0 where
  pub cause : Cause
  pub act : Act
  pub is : Abort t cause act ≡ e
  pub written : words ≡ cause_words cause ++ act_words w act
  pub fits : IsActOf w cause act
  pub typed : IsTypedCause cause × IsTypedAct act

plain_exact : (w : Workload) (t : Txn) (word : Word) (words : List Word) (e : Entry) → plain_abort w t word words ≡ Some e → IsAbort w t (word ∷ words) e
unfolding plain_abort
plain_exact w t word words e h =
    let c = bind_some (cause_of word) _ e h in
    let cx = cause_exact word c.0 c.1 in
    let a = bind_some (refused_at w words) _ e c.2 in
    let ax = refused_exact w words a.0 a.1 in
    record {
      cause = c.0;
      act = a.0;
      is = some_is (Abort t c.0 a.0) e a.2;
      written = ap (λ (xs : List Word). word ∷ xs) ax.written ∙ ap (λ (xs : List Word). xs ++ act_words w a.0) (sym cx.written);
      fits = cx.refuses w a.0 ax.fits;
      typed = (cx.typed, ax.typed);
    }

own_exact : (w : Workload) (t : Txn) (words : List Word) (e : Entry) → ended_abort w t causes.Own words ≡ Some e → IsAbort w t (codes "own" ∷ words) e
unfolding ended_abort
own_exact w t words e h =
    let a = bind_some (ended_at w words) _ e h in
    let ax = ended_exact w words a.0 a.1 in
    record { cause = causes.Own; act = a.0; is = some_is (Abort t causes.Own a.0) e a.2; written = ap (λ (xs : List Word). codes "own" ∷ xs) ax.written; fits = ax.fits; typed = (tt, ax.typed) }

overflow_exact : (w : Workload) (t : Txn) (words : List Word) (e : Entry) → ended_abort w t causes.Overflow words ≡ Some e → IsAbort w t (codes "overflow" ∷ words) e
unfolding ended_abort
overflow_exact w t words e h =
    let a = bind_some (ended_at w words) _ e h in
    let ax = ended_exact w words a.0 a.1 in
    record { cause = causes.Overflow; act = a.0; is = some_is (Abort t causes.Overflow a.0) e a.2; written = ap (λ (xs : List Word). codes "overflow" ∷ xs) ax.written; fits = ax.fits; typed = (tt, ax.typed) }

home_exact : (w : Workload) (t : Txn) (words : List Word) (e : Entry) → home_abort t words ≡ Some e → IsAbort w t (codes "homedown" ∷ words) e
unfolding home_abort
home_exact w t words e h =
    let a = bind_some (nothing_at words) _ e h in
    let ax = nothing_exact w words a.0 a.1 in
    record { cause = causes.HomeDown; act = a.0; is = some_is (Abort t causes.HomeDown a.0) e a.2; written = ap (λ (xs : List Word). codes "homedown" ∷ xs) ax.written; fits = ax.fits; typed = (tt, ax.typed) }

switch_exact : (w : Workload) (t : Txn) (words : List Word) (e : Entry) → switch_abort t words ≡ Some e → IsAbort w t (codes "switchoff" ∷ words) e
unfolding switch_abort
switch_exact w t words e h =
    let k = bind_some (number_at 255 words) _ e h in
    let kx = number_at_exact 255 words k.0 k.1 in
    let a = bind_some (nothing_at k.0.1) _ e k.2 in
    let ax = nothing_exact w k.0.1 a.0 a.1 in
    record {
      cause = causes.SwitchOff k.0.0;
      act = a.0;
      is = some_is (Abort t (causes.SwitchOff k.0.0) a.0) e a.2;
      written = ap (λ (xs : List Word). codes "switchoff" ∷ xs) (before kx.0 ax.written);
      fits = ax.fits;
      typed = (omega (arith, kx.1), ax.typed);
    }

stale_exact : (w : Workload) (t : Txn) (words : List Word) (e : Entry) → stale_abort w t words ≡ Some e → IsAbort w t (codes "stale" ∷ words) e
unfolding stale_abort
stale_exact w t words e h =
    let p = bind_some (word_at words) _ e h in
    let v = bind_some (vector_of w p.0.0) _ e p.2 in
    let vx = vector_exact w p.0.0 v.0 v.1 in
    let a = bind_some (refused_at w p.0.1) _ e v.2 in
    let ax = refused_exact w p.0.1 a.0 a.1 in
    record {
      cause = causes.Stale v.0;
      act = a.0;
      is = some_is (Abort t (causes.Stale v.0) a.0) e a.2;
      written = ap (λ (xs : List Word). codes "stale" ∷ xs) (before (word_at_exact words p.0 p.1) ax.written ∙ ap (λ (x : Word). x ∷ act_words w a.0) (sym vx.written));
      fits = (vx.long, ax.fits);
      typed = (vx.typed, ax.typed);
    }

abort_of_exact : (w : Workload) (t : Txn) (word : Word) (words : List Word) (e : Entry) → abort_of w t word words ≡ Some e → IsAbort w t (word ∷ words) e
unfolding abort_of
abort_of_exact w t word words e h =
    by_word word (codes "own") (ended_abort w t causes.Own words) _ e (λ x. IsAbort w t (x ∷ words) e) h (own_exact w t words e) (λ h.
    by_word word (codes "overflow") (ended_abort w t causes.Overflow words) _ e (λ x. IsAbort w t (x ∷ words) e) h (overflow_exact w t words e) (λ h.
    by_word word (codes "switchoff") (switch_abort t words) _ e (λ x. IsAbort w t (x ∷ words) e) h (switch_exact w t words e) (λ h.
    by_word word (codes "homedown") (home_abort t words) _ e (λ x. IsAbort w t (x ∷ words) e) h (home_exact w t words e) (λ h.
    by_word word (codes "stale") (stale_abort w t words) _ e (λ x. IsAbort w t (x ∷ words) e) h (stale_exact w t words e) (λ h.
    plain_exact w t word words e h)))))

abort_exact : (w : Workload) (words : List Word) (e : Entry) → abort_line w words ≡ Some e → IsSpelled w (codes "abort") words e
unfolding abort_line
abort_exact w words e h =
    let t = bind_some (txn_next w words) _ e h in
    let tx = txn_next_exact w words t.0 t.1 in
    let p = bind_some (word_at t.0.1) _ e t.2 in
    let x = abort_of_exact w t.0.0 p.0.0 p.0.1 e p.2 in
    let made : IsSpelled w (codes "abort") words (Abort t.0.0 x.cause x.act) = record {
      written = behind (codes "abort") (before tx.0 (word_at_exact t.0.1 p.0 p.1 ∙ x.written));
      known = (tx.1, x.fits);
      typed = x.typed;
    } in
    subst (IsSpelled w (codes "abort") words) x.is made

entry_of_exact : (w : Workload) (word : Word) (words : List Word) (e : Entry) → entry_of w word words ≡ Some e → IsSpelled w word words e
unfolding entry_of
entry_of_exact w word words e h =
    by_word word (codes "begin") (begin_line w words) _ e (λ x. IsSpelled w x words e) h (begin_exact w words e) (λ h.
    by_word word (codes "read") (read_line w words) _ e (λ x. IsSpelled w x words e) h (read_exact w words e) (λ h.
    by_word word (codes "wait") (wait_line w words) _ e (λ x. IsSpelled w x words e) h (wait_exact w words e) (λ h.
    by_word word (codes "commit") (commit_line w words) _ e (λ x. IsSpelled w x words e) h (commit_exact w words e) (λ h.
    by_word word (codes "abort") (abort_line w words) _ e (λ x. IsSpelled w x words e) h (abort_exact w words e) (λ h.
    by_word word (codes "ack") (ack_line w words) _ e (λ x. IsSpelled w x words e) h (ack_exact w words e) (λ h.
    by_word word (codes "switchon") (switch_on_line words) _ e (λ x. IsSpelled w x words e) h (switch_on_exact w words e) (λ h.
    by_word word (codes "switchend") (switch_end_line words) _ e (λ x. IsSpelled w x words e) h (switch_end_exact w words e) (λ h.
    by_word word (codes "down") (down_line w words) _ e (λ x. IsSpelled w x words e) h (down_exact w words e) (λ h.
    by_word word (codes "up") (up_line w words) _ e (λ x. IsSpelled w x words e) h (up_exact w words e) (λ h.
    by_word word (codes "clear") (clear_line w words) _ e (λ x. IsSpelled w x words e) h (clear_exact w words e) (λ h.
    none_left e (IsSpelled w word words) h)))))))))))

pub record IsEntryWords (w : Workload) (words : List Word) (e : Entry) : Type 0 where
  pub written : entry_words w e ≡ words
  pub known : IsEntryOf w e
  pub typed : IsTypedEntry e

pub entry_exact : (w : Workload) (words : List Word) (e : Entry) → entry_at w words ≡ Some e → IsEntryWords w words e
unfolding entry_at
entry_exact w words e h =
    let p = bind_some (word_at words) _ e h in
    let x = entry_of_exact w p.0.0 p.0.1 e p.2 in
    record { written = x.written ∙ sym (word_at_exact words p.0 p.1); known = x.known; typed = x.typed }
