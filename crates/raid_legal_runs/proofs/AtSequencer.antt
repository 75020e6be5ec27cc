-- What the sequencer's step makes of what transactions have seen, and that all that it places is asked.
use Rattle.std.proofs.Common.{◌≡◌, ℕ, ℤ, ◌+◌, ◌==◌, Bool, true, false, not, List, [], ◌∷◌, ◌++◌, Option, Some, None, if◌then◌else◌, arith, sym, subst, ap, ◌∙◌, refl}
use Rattle.std.proofs.lemmas.Bool.{and_parts, true≢false}
use Rattle.raid_base.specs.declared.names.Txn.{Txn}
use Rattle.raid_base.specs.declared.names.Item.{Item}
use Rattle.raid_base.specs.declared.names.Site.{Site}
use Rattle.raid_base.specs.declared.request.Request.{Request}
use Rattle.raid_base.specs.declared.entry.Act.TheVariants as acts
use Rattle.raid_base.specs.declared.entry.Cause.{Cause}
use Rattle.raid_base.specs.declared.entry.Cause.TheVariants as causes
use Rattle.raid_base.specs.declared.entry.Entry.{Entry}
use Rattle.raid_base.specs.declared.entry.Entry.TheVariants.{Read, Wait, Commit, Abort}
use Rattle.raid_base.specs.declared.entry.Noted.{Noted}
use Rattle.raid_base.specs.declared.verdict.Verdict.{Verdict}
use Rattle.raid_base.specs.declared.verdict.Verdict.TheVariants as verdicts
use Rattle.raid_base.specs.Names.{is_txn, is_item}
use Rattle.raid_workload.specs.declared.workload.Workload.{Workload}
use Rattle.raid_workload.specs.Parts.{home}
use Rattle.raid_rules.specs.Entries.{reads_item}
use Rattle.raid_rules.specs.History.{noted, add, next, stamp, has_begun, has_ended, is_running, is_waiting}
use Rattle.raid_rules.specs.Sessions.{source_for}
use Rattle.raid_rules.specs.Verdicts.{reading, writing}
use Rattle.raid_rules.proofs.Push.{noted_push, same_txn}
use Rattle.raid_legal.specs.Seen.{seen, sources, up_holders}
use Rattle.raid_legal.specs.InForce.{verdict}
use Rattle.raid_legal.specs.Answers.{cause_of, served, answer_commit, answered, decided, closes_waits, site_refusal}
use Rattle.raid_legal.specs.Forced.{forced}
use Rattle.raid_legal.specs.Legal.{is_free, is_asked, EachSeeing}
use Rattle.raid_legal.proofs.Left.{forced_compels}
use Rattle.raid_legal.proofs.Push.{each_push}
use Rattle.raid_message.specs.declared.letter.Message.TheVariants as letters
use Rattle.raid_message.specs.declared.letter.Letter.{Letter}
use Rattle.raid_layers.proofs.Histories.{Grows, any_kept}
use Rattle.raid_runs.specs.Asked.{IsSeen, IsAsked, AreAsked}
use Rattle.raid_legal_runs.proofs.Answering.{IsPlain, IsAnswer, to_read, to_commit, to_end, Reason, must, plain, answers, Chain, done, places}
use Rattle.raid_legal_runs.proofs.Seeing.{SeesSame, same_on, same_add, seen_add, untrue}

-- histories grow
pub grows_add : (h : List Entry) (e : Entry) → Grows (noted h) (noted (h ++ e ∷ []))
grows_add h e = subst (Grows (noted h)) (sym (noted_push h e)) (λ test q. any_kept test (noted h) (next (noted h) e) q)

pub free_open : (p : List Noted) (t : Txn) → is_free p t ≡ true → has_ended p t ≡ false
free_open p t free = untrue (has_ended p t) (λ over. true≢false (sym (and_parts (has_begun p t) (not (has_ended p t)) (and_parts (is_running p t) (not (is_waiting p t)) free).0).1 ∙ ap not over))

-- the answer to a read is no Read of another
served_reads : (t : Txn) (x : Item) (o : Option Site) (v : Verdict) (u : Txn) (y : Item) → reads_item u y (served t x o v) ≡ true → (is_txn u t ≡ true) × (is_item y x ≡ true)
served_reads t x None v u y q = absurd (true≢false (sym q))
served_reads t x (Some s) (verdicts.Reject why) u y q = absurd (true≢false (sym q))
served_reads t x (Some s) verdicts.Wait u y q = and_parts (is_txn u t) (is_item y x) q
served_reads t x (Some s) verdicts.Grant u y q = and_parts (is_txn u t) (is_item y x) q

served_asked : (w : Workload) (p : List Noted) (t : Txn) (x : Item) (o : Option Site) (v : Verdict) → is_asked w p t x ≡ true → IsAsked w p (served t x o v)
served_asked w p t x None v h = h
served_asked w p t x (Some s) (verdicts.Reject why) h = h
served_asked w p t x (Some s) verdicts.Wait h = h
served_asked w p t x (Some s) verdicts.Grant h = h

-- what answers a commit tells its request
pub data Tells (t : Txn) (request : Request) (e : Entry) : Type 0 where
  commits : (applied : List Site) → e ≡ Commit t request applied → Tells t request e
  waits : e ≡ Wait t request → Tells t request e
  refuses : (cause : Cause) → e ≡ Abort t cause (acts.Commit request) → Tells t request e

answer_tells : (w : Workload) (p : List Noted) (t : Txn) (r : Request) (e : Entry) → answer_commit w p t r ≡ Some e → Tells t r e
answer_tells w p t r e q = answers_so (site_refusal w p r) q
  where
    decides : (v : Verdict) → decided w p t r v ≡ Some e → Tells t r e
    decides (verdicts.Reject why) q = refuses (cause_of why) (cc q)
    decides verdicts.Grant q = commits (up_holders w p r.writes) (cc q)
    decides verdicts.Wait q = go (is_waiting p t) (closes_waits w p t r) q
      where
        go : (a b : Bool) → (if a then None else if b then Some (Abort t causes.Deadlock (acts.Commit r)) else Some (Wait t r)) ≡ Some e → Tells t r e
        go true b q = absurd (cc q)
        go false true q = refuses causes.Deadlock (cc q)
        go false false q = waits (cc q)

    answers_so : (o : Option Cause) → answered w p t r o ≡ Some e → Tells t r e
    answers_so (Some why) q = refuses why (cc q)
    answers_so None q = decides (verdict w p (writing t (stamp p t) r.writes)) q

tells_unread : (t : Txn) (r : Request) (e : Entry) → Tells t r e → (u : Txn) (y : Item) → reads_item u y e ≡ false
tells_unread t r e (commits applied is) u y = ap (reads_item u y) is
tells_unread t r e (waits is) u y = ap (reads_item u y) is
tells_unread t r e (refuses cause is) u y = ap (reads_item u y) is

tells_asked : (w : Workload) (p : List Noted) (t : Txn) (r : Request) (e : Entry) → Tells t r e → IsSeen w p t r.reads → IsAsked w p e
tells_asked w p t r e (commits applied is) h = subst (IsAsked w p) (sym is) h
tells_asked w p t r e (waits is) h = subst (IsAsked w p) (sym is) h
tells_asked w p t r e (refuses cause is) h = subst (IsAsked w p) (sym is) h

module _ (w : Workload) (from : ℕ) (letter : Letter) (first : List Entry) where
  -- what is asked in the letter may be asked for
  pub record Asks : Type 0 where
    pub read : (k : ℕ) (t : Txn) (ask : ℕ) (x : Item) → from ≡ k + 2 → letter.message ≡ letters.ReadAsk t ask x → is_free (noted first) t ≡ true → is_asked w (noted first) t x ≡ true
    pub commit : (k : ℕ) (t : Txn) (request : Request) → from ≡ k + 2 → letter.message ≡ letters.CommitAsk t request → is_free (noted first) t ≡ true → IsSeen w (noted first) t request.reads
    pub end : (k : ℕ) (t : Txn) (cause : Cause) (reads : List (Item × ℤ)) → from ≡ k + 2 → letter.message ≡ letters.EndAsk t cause reads → is_free (noted first) t ≡ true → IsSeen w (noted first) t reads

  -- What a transaction has seen after a step: just what it had; or a Read of it answers the letter, and what it has seen of other items is as
  -- before
  pub data Sees (t : Txn) (p q : List Noted) : Type 0 where
    same : SeesSame w t p q → Sees t p q
    reads : (k : ℕ) (ask : ℕ) (x : Item) → from ≡ k + 2 → letter.message ≡ letters.ReadAsk t ask x → is_free (noted first) t ≡ true → ((y : Item) → is_item x y ≡ false → seen w q t y ≡ seen w p t y) → Sees t p q

  sees_on : (t : Txn) (p q r : List Noted) → Sees t p q → Sees t q r → Sees t p r
  sees_on t p q r (same a) (same b) = same (same_on w t p q r a b)
  sees_on t p q r (same a) (reads k ask x of is free b) = reads k ask x of is free (λ y d. b y d ∙ a.seen y)
  sees_on t p q r (reads k ask x of is free a) (same b) = reads k ask x of is free (λ y d. b.seen y ∙ a y d)
  sees_on t p q r (reads k ask x of is free a) (reads j ask_too x_too of_too is_too free_too b) =
      let one : letters.ReadAsk t ask_too x_too ≡ letters.ReadAsk t ask x = sym is_too ∙ is in
      let items : x_too ≡ x = cc one in
      reads k ask x of is free (λ y d. b y (ap (λ z. is_item z y) items ∙ d) ∙ a y d)

  -- one entry
  reads_one : (p : List Noted) (t : Txn) (e : Entry) → ((x : Item) → reads_item t x e ≡ false) → Sees t p (add p e)
  reads_one p t e none = same (same_add w t p e none)

  answer_sees : (h : List Entry) (t : Txn) (e : Entry) → IsAnswer w from letter (noted first) e → Sees t (noted h) (add (noted h) e)
  answer_sees h t e (to_read k u ask x of is free at) = go (is_txn t u) refl
    where
      told : (y : Item) → reads_item t y e ≡ true → (is_txn t u ≡ true) × (is_item y x ≡ true)
      told y q = served_reads u x (source_for (sources w (noted first) x) (home w u)) (verdict w (noted first) (reading u (stamp (noted first) u) x)) t y (ap (reads_item t y) (sym at) ∙ q)

      go : (b : Bool) → is_txn t u ≡ b → Sees t (noted h) (add (noted h) e)
      go true q =
          let its : u ≡ t = same_txn u t q in
          reads k ask x of (is ∙ ap (λ z. letters.ReadAsk z ask x) its) (ap (is_free (noted first)) (sym its) ∙ free)
          (λ y d. seen_add w (noted h) e t y (untrue (reads_item t y e) (λ r. other y d (told y r).1)))
        where
          other : (y : Item) → is_item x y ≡ false → is_item y x ≡ true → ⊥
          other y d q = apart x.0 y.0 d q
            where
              apart : (a c : ℕ) → (c == a) ≡ false → (a == c) ≡ true → ⊥
              apart a c d q = true≢false (grind (arith, d, q))
      go false q = reads_one (noted h) t e (λ y. untrue (reads_item t y e) (λ r. true≢false (sym (told y r).0 ∙ q)))
  answer_sees h t e (to_commit k u request of is free at) = reads_one (noted h) t e (λ y. tells_unread u request e (answer_tells w (noted first) u request e at) t y)
  answer_sees h t e (to_end k u cause told of is free at) = reads_one (noted h) t e (λ y. ap (reads_item t y) at)

  plain_unread : (e : Entry) → IsPlain e → (t : Txn) (y : Item) → reads_item t y e ≡ false
  plain_unread (Read u x s) h t y = absurd h
  plain_unread other h t y = refl

  forced_unread : (p : List Noted) (e : Entry) → forced w p ≡ Some e → (t : Txn) (y : Item) → reads_item t y e ≡ false
  forced_unread p (Read u x s) f t y = absurd (forced_compels w p (Read u x s) f)
  forced_unread p other f t y = refl

  entry_sees : (h : List Entry) (e : Entry) → Reason w from letter first h e → (t : Txn) → Sees t (noted h) (noted (h ++ e ∷ []))
  entry_sees h e why t = subst (Sees t (noted h)) (sym (noted_push h e)) (go why)
    where
      go : Reason w from letter first h e → Sees t (noted h) (add (noted h) e)
      go (must f) = reads_one (noted h) t e (forced_unread (noted h) e f t)
      go (plain i) = reads_one (noted h) t e (plain_unread e i t)
      go (answers start a) = answer_sees h t e a

  -- all of them
  pub chain_grows : {h last : List Entry} → Chain w from letter first h last → Grows (noted h) (noted last)
  chain_grows done test q = q
  chain_grows {h = h} (places e why rest) test q = chain_grows rest test (grows_add h e test q)

  pub chain_sees : {h last : List Entry} → Chain w from letter first h last → (t : Txn) → Sees t (noted h) (noted last)
  chain_sees done t = same (record { seen = λ x. refl; reads = λ x. refl })
  chain_sees {h = h} {last = last} (places e why rest) t = sees_on t (noted h) (noted (h ++ e ∷ [])) (noted last) (entry_sees h e why t) (chain_sees rest t)

  -- what is placed was asked for
  plain_asked : (p : List Noted) (e : Entry) → IsPlain e → IsAsked w p e
  plain_asked p (Read t x s) i = absurd i
  plain_asked p (Wait t request) i = absurd i
  plain_asked p (Commit t request applied) i = absurd i
  plain_asked p (Abort t cause act) i = absurd i
  plain_asked p other i = tt

  module _ (asks : Asks) where
    answer_asked : (e : Entry) → IsAnswer w from letter (noted first) e → IsAsked w (noted first) e
    answer_asked e (to_read k t ask x of is free at) =
        subst (IsAsked w (noted first)) (sym at)
        (served_asked w (noted first) t x (source_for (sources w (noted first) x) (home w t)) (verdict w (noted first) (reading t (stamp (noted first) t) x)) (asks.read k t ask x of is free))
    answer_asked e (to_commit k t request of is free at) = tells_asked w (noted first) t request e (answer_tells w (noted first) t request e at) (asks.commit k t request of is free)
    answer_asked e (to_end k t cause told of is free at) = subst (IsAsked w (noted first)) (sym at) (asks.end k t cause told of is free)

    entry_asked : (h : List Entry) (e : Entry) → Reason w from letter first h e → forced w (noted h) ≡ None → IsAsked w (noted h) e
    entry_asked h e (must f) none = absurd (cc (f, none))
    entry_asked h e (plain i) none = plain_asked (noted h) e i
    entry_asked h e (answers start a) none = subst (λ z. IsAsked w (noted z) e) (sym start) (answer_asked e a)

    push_asked : (h : List Entry) (e : Entry) → AreAsked w h → (forced w (noted h) ≡ None → IsAsked w (noted h) e) → AreAsked w (h ++ e ∷ [])
    push_asked h e a now =
        subst (EachSeeing (λ p n. forced w p ≡ None → IsAsked w p n.entry) []) (sym (noted_push h e))
        ((each_push (λ p n. forced w p ≡ None → IsAsked w p n.entry) (noted h) (next (noted h) e)).1 (a, now))

    pub chain_asked : {h last : List Entry} → Chain w from letter first h last → AreAsked w h → AreAsked w last
    chain_asked done a = a
    chain_asked {h = h} (places e why rest) a = chain_asked rest (push_asked h e a (entry_asked h e why))
