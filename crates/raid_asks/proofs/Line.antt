-- The Begins that are on their way from a site, in order, and how they go on when a program begins there.
use Rattle.std.proofs.Common.{◌≡◌, ◌⊎◌, inl, inr, ℕ, ◌+◌, ◌<◌, ◌==◌, nat_lt, Bool, true, false, not, ◌&&◌, ◌||◌, List, [], ◌∷◌, ◌++◌, arith, sym, subst, ap, ◌∙◌, refl, append-nil, append_assoc}
use Rattle.std.specs.Prelude.{⊤}
use Rattle.std.specs.List.{AllByRecursion, list_any}
use Rattle.std.proofs.lemmas.Bool.{and_parts, true≢false}
use Rattle.std.proofs.lemmas.Grind.{common_steps}
use Rattle.std.proofs.lemmas.List.Folds.{list_any-append}
use Rattle.raid_base.specs.declared.names.Txn.{Txn}
use Rattle.raid_base.specs.declared.names.Site.{Site}
use Rattle.raid_base.specs.declared.entry.Noted.{Noted}
use Rattle.raid_base.specs.Names.{is_txn, is_site, has_txn}
use Rattle.raid_workload.specs.declared.workload.Workload.{Workload}
use Rattle.raid_workload.specs.Parts.{home}
use Rattle.raid_rules.specs.History.{has_begun}
use Rattle.raid_rules.proofs.Push.{same_txn}
use Rattle.raid_legal.specs.Seen.{attempt, again, previous, is_restart, has_down_after}
use Rattle.raid_message.specs.declared.letter.Message.{Message}
use Rattle.raid_message.specs.declared.letter.Message.TheVariants as letters
use Rattle.raid_message.specs.declared.letter.Letter.{Letter}
use Rattle.raid_steps.specs.State.{Running}
use Rattle.raid_steps.specs.Programs.{following, next_attempt}
use Rattle.raid_asks.proofs.Least.{txn, Ours, IsFirst, IsNext, following_is, ours_next}
use Rattle.raid_asks.proofs.Programs.{BeginsNext, BeginsAgain}

-- the message drops the transaction
abbrev pub drops : Txn → Message → Bool
drops t (letters.Drop u again) = is_txn t u
drops t other = false

pub has_push : (bs : List Txn) (t u : Txn) → has_txn (bs ++ t ∷ []) u ≡ (has_txn bs u || (t.0 == u.0))
has_push bs t u = list_any-append (is_txn u) bs (t ∷ []) ∙ ap (λ b. has_txn bs u || b) (tail (t.0 == u.0))
  where
    tail : (b : Bool) → (b || false) ≡ b
    tail true = refl
    tail false = refl

-- each element, knowing that it is one
pub all_in : (Q P : Txn → Type 0) (bs : List Txn) → AllByRecursion Q bs → ((u : Txn) → has_txn bs u ≡ true → Q u → P u) → AllByRecursion P bs
all_in Q P [] a f = tt
all_in Q P (b ∷ bs) a f = (f b (self b.0 (has_txn bs b)) a.0, all_in Q P bs a.1 (λ u h q. f u (behind (b.0 == u.0) (has_txn bs u) h) q))
  where
    self : (n : ℕ) (c : Bool) → ((n == n) || c) ≡ true
    self n c = grind (arith, common_steps)

    behind : (c d : Bool) → d ≡ true → (c || d) ≡ true
    behind true d q = refl
    behind false d q = q

pub differ : (bs : List Txn) (t u : Txn) (b : Bool) → has_txn bs t ≡ false → has_txn bs u ≡ true → (t.0 == u.0) ≡ b → b ≡ false
differ bs t u true never has e = absurd (true≢false (sym has ∙ ap (has_txn bs) (sym (same_txn t u e)) ∙ never))
differ bs t u false never has e = refl

turned : (a b : ℕ) → (a == b) ≡ false → (b == a) ≡ false
turned a b q = grind (arith, q)

pub below_is : (a b : ℕ) → nat_lt a b ≡ true → a < b
below_is a b q = grind (arith, q)

module _ (w : Workload) (s : Site) (p : List Noted) where
  abbrev pub First : Txn → Type 0
  First t = (attempt w t == 0) ≡ true

  -- a transaction whose Begin is on its way: it hasn't begun, and may
  pub record Due (t : Txn) : Type 0 where
    pub ours : Ours w s t
    pub fresh : has_begun p t ≡ false
    pub turn : First t ⊎ (again w p t ≡ true)

  -- others behind it: different ones, and of first attempts later ones
  abbrev pub IsAfter : Txn → Txn → Type 0
  IsAfter t u = ((t.0 == u.0) ≡ false) × (First t → First u → t.0 < u.0)

  abbrev pub Line : List Txn → Type 0
  Line [] = ⊤
  Line (t ∷ bs) = Due t × (AllByRecursion (IsAfter t) bs × Line bs)

  pub line_due : (bs : List Txn) → Line bs → AllByRecursion Due bs
  line_due [] l = tt
  line_due (t ∷ bs) l = (l.0, line_due bs l.1.1)

  all_after : (t x : Txn) (bs : List Txn) → AllByRecursion (IsAfter t) bs → IsAfter t x → AllByRecursion (IsAfter t) (bs ++ x ∷ [])
  all_after t x [] a h = (h, tt)
  all_after t x (b ∷ bs) a h = (a.0, all_after t x bs a.1 h)

  pub line_push : (bs : List Txn) (x : Txn) → Line bs → Due x → AllByRecursion (λ t. IsAfter t x) bs → Line (bs ++ x ∷ [])
  line_push [] x l d a = (d, (tt, tt))
  line_push (t ∷ bs) x l d a = (l.0, (all_after t x bs l.1.0 a.0, line_push bs x l.1.1 d a.1))

  -- the number of the next to begin: the first attempts before it have begun, or their Begins are on their way
  abbrev pub Counts : List Txn → ℕ → Type 0
  Counts bs n = IsNext w s n × ((t : Txn) → IsFirst w s t → (has_begun p t || has_txn bs t) ≡ (n == 0 || nat_lt t.0 n))

  -- a transaction that is dropped may begin again
  pub record Promise (bs : List Txn) (t : Txn) : Type 0 where
    pub more : attempt w t < w.restarts
    pub due : again w p (next_attempt w t) ≡ true
    pub fresh : has_begun p (next_attempt w t) ≡ false
    pub free : has_txn bs (next_attempt w t) ≡ false
    pub at : is_site s (home w (next_attempt w t)) ≡ true

  -- a later attempt is no first one
  pub again_later : (t : Txn) → again w p t ≡ true → (attempt w t == 0) ≡ false
  again_later t q = later (attempt w t) (and_parts (nat_lt 0 (attempt w t)) (list_any (λ n. is_restart (previous w t) n.entry && not (has_down_after p n.at (home w t))) p) q).0
    where
      later : (n : ℕ) → nat_lt 0 n ≡ true → (n == 0) ≡ false
      later n q = grind (arith, q)

  -- a transaction that runs: its Begin is on its way exactly where the history hasn't it
  abbrev pub FineAt : List Txn → Txn → Type 0
  FineAt bs t = Ours w s t × (has_txn bs t ≡ not (has_begun p t))

  fine_push : (bs : List Txn) (x : Txn) (rs : List Running) → has_begun p x ≡ false → has_txn bs x ≡ false → AllByRecursion (λ (r : Running). FineAt bs r.txn) rs → AllByRecursion (λ (r : Running). FineAt (bs ++ x ∷ []) r.txn) rs
  fine_push bs x [] fresh free a = tt
  fine_push bs x (r ∷ rs) fresh free a = ((a.0.0, has_push bs x r.txn ∙ go (x.0 == r.txn.0) refl), fine_push bs x rs fresh free a.1)
    where
      no_more : (b : Bool) → (b || false) ≡ b
      no_more true = refl
      no_more false = refl

      go : (c : Bool) → (x.0 == r.txn.0) ≡ c → (has_txn bs r.txn || c) ≡ not (has_begun p r.txn)
      go true e = (let same = same_txn x r.txn e in absurd (true≢false (sym (a.0.1 ∙ ap not (ap (has_begun p) (sym same) ∙ fresh)) ∙ ap (has_txn bs) (sym same) ∙ free)))
      go false e = no_more (has_txn bs r.txn) ∙ a.0.1

  fine_new : (bs : List Txn) (x : Txn) → Ours w s x → has_begun p x ≡ false → FineAt (bs ++ x ∷ []) x
  fine_new bs x o fresh = (o, has_push bs x x ∙ always (has_txn bs x) x.0 ∙ sym (ap not fresh))
    where
      always : (b : Bool) (n : ℕ) → (b || (n == n)) ≡ true
      always b n = grind (arith, common_steps)

  module _ (m : ℕ) where
    abbrev pub NoDrop : Txn → List Letter → Type 0
    NoDrop t ls = AllByRecursion (λ (l : Letter). (l.to == m) ≡ true → drops t l.message ≡ false) ls

    -- what the sequencer tells a site that has been welcomed, with what it tells later
    abbrev pub NoteOk : List Txn → Message → List Letter → Type 0
    NoteOk bs (letters.Welcome v n) ls = ⊥
    NoteOk bs (letters.Drop t true) ls = is_site s (home w t) ≡ true → Promise bs t × NoDrop t ls
    NoteOk bs other ls = ⊤

    abbrev pub Notes : List Txn → List Letter → Type 0
    Notes bs [] = ⊤
    Notes bs (l ∷ ls) = ((l.to == m) ≡ true → NoteOk bs l.message ls) × Notes bs ls

    promise_push : (bs : List Txn) (x t : Txn) → Promise bs t → (x.0 == (next_attempt w t).0) ≡ false → Promise (bs ++ x ∷ []) t
    promise_push bs x t q apart = record { more = q.more; due = q.due; fresh = q.fresh; free = has_push bs x (next_attempt w t) ∙ ap (λ b. b || (x.0 == (next_attempt w t).0)) q.free ∙ apart; at = q.at }

    note_push : (bs : List Txn) (x : Txn) (message : Message) (ls : List Letter) → NoteOk bs message ls → ((t : Txn) → drops t message ≡ true → Promise bs t → (x.0 == (next_attempt w t).0) ≡ false) → NoteOk (bs ++ x ∷ []) message ls
    note_push bs x (letters.Welcome v n) ls q apart = q
    note_push bs x (letters.Drop t true) ls q apart = λ here. (let both = q here in (promise_push bs x t both.0 (apart t (self t.0) both.0), both.1))
      where
        self : (n : ℕ) → (n == n) ≡ true
        self n = grind arith
    note_push bs x (letters.Drop t false) ls q apart = q
    note_push bs x other ls q apart = q

    notes_push : (bs : List Txn) (x : Txn) (ls : List Letter) → Notes bs ls → AllByRecursion (λ (l : Letter). (l.to == m) ≡ true → (t : Txn) → drops t l.message ≡ true → Promise bs t → (x.0 == (next_attempt w t).0) ≡ false) ls → Notes (bs ++ x ∷ []) ls
    notes_push bs x [] n a = tt
    notes_push bs x (l ∷ ls) n a = ((λ to. note_push bs x l.message ls (n.0 to) (a.0 to)), notes_push bs x ls n.1 a.1)

    each_letter : {P : Letter → Type 0} (ls : List Letter) → ((l : Letter) → P l) → AllByRecursion P ls
    each_letter [] f = tt
    each_letter (l ∷ ls) f = (f l, each_letter ls f)

    -- what holds of a site, but for its programs
    module _ (rest : List Letter) where
      pub record CountsAt (bs : List Txn) (n : ℕ) : Type 0 where
        pub line : Line bs
        pub counts : Counts bs n
        pub notes : Notes bs rest

      -- the next one begins
      pub next_counts : (bs : List Txn) (n : ℕ) → CountsAt bs n → (n == 0) ≡ false → (CountsAt (bs ++ txn n ∷ []) (following w s n)) × ((has_begun p (txn n) ≡ false) × ((has_txn bs (txn n) ≡ false) × Ours w s (txn n)))
      next_counts bs n c some = (
        record {
          line = line_push bs (txn n) c.line (record { ours = first.ours; fresh = neither.0; turn = inl first.first }) (all_in Due (λ t. IsAfter t (txn n)) bs (line_due bs c.line) (λ u has d. (turned n u.0 (differ bs (txn n) u (n == u.0) neither.1 has refl), λ mine its. earlier u (record { ours = d.ours; first = mine }) has)));
          counts = (after.0, λ t f. ap (λ b. has_begun p t || b) (has_push bs (txn n) t) ∙ step (has_begun p t) (has_txn bs t) t.0 (c.counts.1 t f) ∙ sym (after.1 t f));
          notes = notes_push bs (txn n) rest c.notes (each_letter rest (λ l to t d q. apart (next_attempt w t) q.due (n == (next_attempt w t).0) refl));
        },
        (neither.0, (neither.1, first.ours)),
      )
        where
          first : IsFirst w s (txn n)
          first = elim c.counts.0 [
            | inl none ↦ absurd (true≢false (sym (ap (λ k. k == 0) none) ∙ some))
            | inr found ↦ found.1
          ]

          after : IsNext w s (following w s n) × ((t : Txn) → IsFirst w s t → (following w s n == 0 || nat_lt t.0 (following w s n)) ≡ not (nat_lt n t.0))
          after = following_is w s n

          no_less : (n : ℕ) → (n == 0) ≡ false → (n == 0 || nat_lt n n) ≡ false
          no_less n q = grind (arith, common_steps, q)

          halves : (a b : Bool) → (a || b) ≡ false → (a ≡ false) × (b ≡ false)
          halves true b q = absurd (true≢false q)
          halves false b q = (refl, q)

          neither : (has_begun p (txn n) ≡ false) × (has_txn bs (txn n) ≡ false)
          neither = halves (has_begun p (txn n)) (has_txn bs (txn n)) (c.counts.1 (txn n) first ∙ no_less n some)

          or_right : (a b : Bool) → b ≡ true → (a || b) ≡ true
          or_right true b q = refl
          or_right false b q = q

          lower : (a : ℕ) → (n == 0) ≡ false → (n == 0 || nat_lt a n) ≡ true → a < n
          lower a q r = grind (arith, common_steps, q, r)

          earlier : (u : Txn) → IsFirst w s u → has_txn bs u ≡ true → u.0 < n
          earlier u f has = lower u.0 some (sym (c.counts.1 u f) ∙ or_right (has_begun p u) (has_txn bs u) has)

          step : (a b : Bool) (k : ℕ) → (a || b) ≡ (n == 0 || nat_lt k n) → (a || (b || (n == k))) ≡ not (nat_lt n k)
          step a b k q = counted a b k (n == 0) some q
            where
              counted : (a b : Bool) (k : ℕ) (z : Bool) → z ≡ false → (a || b) ≡ (z || nat_lt k n) → (a || (b || (n == k))) ≡ not (nat_lt n k)
              counted true b k z e q = grind (arith, common_steps, e, q)
              counted false true k z e q = grind (arith, common_steps, e, q)
              counted false false k z e q = grind (arith, common_steps, e, q)

          apart : (u : Txn) → again w p u ≡ true → (b : Bool) → (n == u.0) ≡ b → b ≡ false
          apart u q true e = absurd (true≢false (sym first.first ∙ ap (λ t. attempt w t == 0) (same_txn (txn n) u e) ∙ again_later u q))
          apart u q false e = refl

      -- an attempt begins again
      pub again_counts : (bs : List Txn) (n : ℕ) (t : Txn) → CountsAt bs n → Promise bs t → NoDrop t rest → Ours w s t → CountsAt (bs ++ next_attempt w t ∷ []) n
      again_counts bs n t c q none o = record {
        line = line_push bs x c.line (record { ours = ours_next w s t o q.more; fresh = q.fresh; turn = inr q.due })
            (all_in Due (λ u. IsAfter u x) bs (line_due bs c.line) (λ u has d. (turned x.0 u.0 (differ bs x u (x.0 == u.0) q.free has refl), λ mine its. absurd (true≢false (sym its ∙ later)))));
        counts = (c.counts.0, λ u f. ap (λ b. has_begun p u || b) (has_push bs x u ∙ ap (λ b. has_txn bs u || b) (other u f (x.0 == u.0) refl) ∙ no_more (has_txn bs u)) ∙ c.counts.1 u f);
        notes = notes_push bs x rest c.notes (all_apart rest none);
      }
        where
          x : Txn
          x = next_attempt w t

          later : (attempt w x == 0) ≡ false
          later = again_later x q.due

          no_more : (b : Bool) → (b || false) ≡ b
          no_more true = refl
          no_more false = refl

          other : (u : Txn) → IsFirst w s u → (b : Bool) → (x.0 == u.0) ≡ b → b ≡ false
          other u f true e = absurd (true≢false (sym f.first ∙ ap (λ t. attempt w t == 0) (sym (same_txn x u e)) ∙ later))
          other u f false e = refl

          apart_from : (u : Txn) (message : Message) → drops t message ≡ false → drops u message ≡ true → (x.0 == (next_attempt w u).0) ≡ false
          apart_from u (letters.Drop v b) never has = numbers t.0 u.0 v.0 _ never has
            where
              numbers : (a b c d : ℕ) → (c == a) ≡ false → (c == b) ≡ true → (a + d == b + d) ≡ false
              numbers a b c d q r = grind (arith, q, r)
          apart_from u message never has = absurd (true≢false (sym has))

          all_apart : (ls : List Letter) → NoDrop t ls → AllByRecursion (λ (l : Letter). (l.to == m) ≡ true → (u : Txn) → drops u l.message ≡ true → Promise bs u → (x.0 == (next_attempt w u).0) ≡ false) ls
          all_apart [] a = tt
          all_apart (l ∷ ls) a = ((λ to u d q. apart_from u l.message (a.0 to) d), all_apart ls a.1)

      -- both, as the step of a site asks for them
      module _ (before : List Txn) where
        abbrev pub FineNow : List Txn → Txn → Type 0
        FineNow ts t = FineAt (before ++ ts) t

        abbrev pub CountsNow : List Txn → ℕ → Type 0
        CountsNow ts n = CountsAt (before ++ ts) n

        pub next_begins : BeginsNext w s FineNow CountsNow
        next_begins ts r rs n k some =
            let c = next_counts (before ++ ts) n k.counts some in
            let place = append_assoc before ts (txn n ∷ []) in (
              record {
                site = k.site;
                fine = subst (λ bs. AllByRecursion (λ (r : Running). FineAt bs r.txn) rs) place (fine_push (before ++ ts) (txn n) rs c.1.0 c.1.1.0 k.fine);
                counts = subst (λ bs. CountsAt bs (following w s n)) place c.0;
                ascend = k.ascend;
              },
              subst (λ bs. FineAt bs (txn n)) place (fine_new (before ++ ts) (txn n) c.1.1.1 c.1.0),
            )

        pub runs_fine : (bs : List Txn) (t : Txn) (rs : List Running) → AllByRecursion (λ (r : Running). FineAt bs r.txn) rs → list_any (λ (r : Running). is_txn t r.txn) rs ≡ true → Ours w s t
        runs_fine bs t [] a q = absurd (true≢false (sym q))
        runs_fine bs t (r ∷ rs) a q = go (r.txn.0 == t.0) refl q (λ q. runs_fine bs t rs a.1 q)
          where
            go : (b : Bool) → (r.txn.0 == t.0) ≡ b → (b || list_any (λ (r : Running). is_txn t r.txn) rs) ≡ true → (list_any (λ (r : Running). is_txn t r.txn) rs ≡ true → Ours w s t) → Ours w s t
            go true e q others = subst (Ours w s) (same_txn r.txn t e) a.0.0
            go false e q others = others q

        pub begins_again : (t : Txn) → (is_site s (home w t) ≡ true → Promise before t × NoDrop t rest) → BeginsAgain w s FineNow CountsNow t
        begins_again t promised r rs n k here =
            let fine = subst (λ bs. AllByRecursion (λ (r : Running). FineAt bs r.txn) rs) (append-nil before) k.fine in
            let counts = subst (λ bs. CountsAt bs n) (append-nil before) k.counts in
            let o = runs_fine before t rs fine here in
            let q = promised o.at in
            let x = next_attempt w t in (
              record {
                site = k.site;
                fine = fine_push before x rs q.0.fresh q.0.free fine;
                counts = again_counts before n t counts q.0 q.1 o;
                ascend = k.ascend;
              },
              fine_new before x (ours_next w s t o q.0.more) q.0.fresh,
            )
