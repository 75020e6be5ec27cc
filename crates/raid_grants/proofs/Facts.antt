-- What is on its way, where letters come and go; and what an entry more says of reads.
use Rattle.std.proofs.Common.{◌≡◌, inl, inr, ℕ, ◌+◌, ◌==◌, Bool, true, false, ◌&&◌, ◌||◌, List, [], ◌∷◌, ◌++◌, Some, if◌then◌else◌, arith, sym, ap, ◌∙◌, refl}
use Rattle.std.specs.List.{list_any}
use Rattle.std.proofs.lemmas.Bool.{and_from, true≢false}
use Rattle.std.proofs.lemmas.List.Folds.{list_any-append}
use Rattle.std.proofs.lemmas.List.Sums.{sum_by_push}
use Rattle.raid_base.specs.declared.names.Txn.{Txn}
use Rattle.raid_base.specs.declared.names.Site.{Site}
use Rattle.raid_base.specs.declared.entry.Entry.{Entry}
use Rattle.raid_base.specs.declared.entry.Noted.{Noted}
use Rattle.raid_base.specs.Names.{is_txn}
use Rattle.raid_rules.specs.Entries.{is_read, is_end_of}
use Rattle.raid_rules.specs.History.{add, next, has_ended}
use Rattle.raid_legal.specs.Legal.{last_read}
use Rattle.raid_message.specs.declared.letter.Letter.{Letter}
use Rattle.raid_asks.proofs.Facts.{or_left, or_right, or_parts}
use Rattle.raid_layers.specs.Asks.{tells_server}
use Rattle.raid_layers.proofs.Histories.{any_kept, read_push}
use Rattle.raid_witness.specs.Ended.{count_reads}
use Rattle.raid_grants.specs.Grants.{is_down_note, note_comes}

-- letters that are there stay there when more come
pub any_on : (test : Letter → Bool) (xs ys : List Letter) → list_any test xs ≡ true → list_any test (xs ++ ys) ≡ true
any_on test xs ys q = list_any-append test xs ys ∙ or_left (list_any test xs) (list_any test ys) q

pub any_new : (test : Letter → Bool) (xs ys : List Letter) → list_any test ys ≡ true → list_any test (xs ++ ys) ≡ true
any_new test xs ys q = list_any-append test xs ys ∙ or_right (list_any test xs) (list_any test ys) q

pub any_one : (test : Letter → Bool) (l : Letter) → test l ≡ true → list_any test (l ∷ []) ≡ true
any_one test l q = or_left (test l) false q

or_grows : (a b c d : Bool) → (a ≡ true → c ≡ true) → (b ≡ true → d ≡ true) → (a || b) ≡ true → (c || d) ≡ true
or_grows a b c d f g q = elim (or_parts a b q) [ inl x ↦ or_left c d (f x) | inr x ↦ or_right c d (g x) ]

pub or_first : (a b c : Bool) → (b ≡ true → c ≡ true) → (a || b) ≡ true → (a || c) ≡ true
or_first a b c f q = or_grows a b a c (λ x. x) f q

module _ (m : ℕ) (t : Txn) (ask : ℕ) (s : Site) where
  -- what is known helps
  pub note_known : (known : Bool) (ls : List Letter) → note_comes m t ask s known ls ≡ true → note_comes m t ask s true ls ≡ true
  note_known true ls q = q
  note_known false [] q = absurd (true≢false (sym q))
  note_known false (l ∷ ls) q = or_right (l.to == m && is_down_note s l.message) (note_comes m t ask s true ls) (note_known (tells_server t m ask l) ls q)

  pub note_on : (known : Bool) (ls new : List Letter) → note_comes m t ask s known ls ≡ true → note_comes m t ask s known (ls ++ new) ≡ true
  note_on known [] new q = absurd (true≢false (sym q))
  note_on known (l ∷ ls) new q =
      or_first (known && (l.to == m && is_down_note s l.message)) (note_comes m t ask s (known || tells_server t m ask l) ls) (note_comes m t ask s (known || tells_server t m ask l) (ls ++ new))
      (note_on (known || tells_server t m ask l) ls new) q

  -- a note that comes behind all these
  pub note_new : (known : Bool) (ls new : List Letter) → (known || list_any (tells_server t m ask) ls) ≡ true → note_comes m t ask s true new ≡ true → note_comes m t ask s known (ls ++ new) ≡ true
  note_new true [] new q n = n
  note_new false [] new q n = absurd (true≢false (sym q))
  note_new known (l ∷ ls) new q n =
      or_right (known && (l.to == m && is_down_note s l.message)) (note_comes m t ask s (known || tells_server t m ask l) (ls ++ new))
      (note_new (known || tells_server t m ask l) ls new (turned known (tells_server t m ask l) (list_any (tells_server t m ask) ls) q) n)
    where
      turned : (a b c : Bool) → (a || (b || c)) ≡ true → ((a || b) || c) ≡ true
      turned true b c q = refl
      turned false b c q = q

  pub note_one : (l : Letter) → (l.to == m) ≡ true → is_down_note s l.message ≡ true → note_comes m t ask s true (l ∷ []) ≡ true
  note_one l to is = or_left (l.to == m && is_down_note s l.message) false (and_from (l.to == m) (is_down_note s l.message) to is)

-- what changed of a transaction's reads: nothing; and who is over stays so
pub record Same (p q : List Noted) (t : Txn) : Type 0 where
  pub count : count_reads q t ≡ count_reads p t
  pub last : last_read q t ≡ last_read p t
  pub over : has_ended p t ≡ true → has_ended q t ≡ true

pub same_none : (p : List Noted) (t : Txn) → Same p p t
same_none p t = record { count = refl; last = refl; over = λ h. h }

pub same_both : (p q r : List Noted) (t : Txn) → Same p q t → Same q r t → Same p r t
same_both p q r t a b = record { count = b.count ∙ a.count; last = b.last ∙ a.last; over = λ h. b.over (a.over h) }

pub count_push : (p : List Noted) (e : Entry) (t : Txn) → count_reads (add p e) t ≡ count_reads p t + (if is_read (λ u x s. is_txn t u) e then 1 else 0)
count_push p e t = sum_by_push (λ n. if is_read (λ u x s. is_txn t u) n.entry then 1 else 0) p (next p e)

pub same_push : (p : List Noted) (e : Entry) (t : Txn) → is_read (λ u x s. is_txn t u) e ≡ false → Same p (add p e) t
same_push p e t none = record {
  count = (let more = count_push p e t ∙ ap (λ b. count_reads p t + (if b then 1 else 0)) none in omega (arith, more));
  last = read_push p (next p e) t ∙ ap (λ b. if b then Some (next p e) else last_read p t) none;
  over = any_kept (λ n. is_end_of t n.entry) p (next p e);
}
