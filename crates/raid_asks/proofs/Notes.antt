-- What the sequencer tells a site as the history grows: the Welcome, the drops, and letters that begin nothing.
use Rattle.std.proofs.Common.{◌≡◌, ◌⊎◌, inl, inr, ℕ, zero, suc, ◌+◌, ◌<◌, ◌==◌, Bool, true, false, not, ◌||◌, List, [], ◌∷◌, ◌++◌, map, filter, if◌then◌else◌, arith, sym, subst, ap, ◌∙◌, refl}
use Rattle.std.specs.Prelude.{⊤}
use Rattle.std.specs.List.{AllByRecursion}
use Rattle.std.proofs.lemmas.Bool.{eqb-true}
use Rattle.raid_base.specs.declared.names.Txn.{Txn}
use Rattle.raid_base.specs.declared.names.Site.{Site}
use Rattle.raid_base.specs.declared.entry.Noted.{Noted}
use Rattle.raid_base.specs.Names.{is_site, has_txn}
use Rattle.raid_base.specs.Sites.{session, site}
use Rattle.raid_workload.specs.declared.workload.Workload.{Workload}
use Rattle.raid_workload.specs.Parts.{home, count_from}
use Rattle.raid_rules.specs.History.{has_begun}
use Rattle.raid_legal.specs.Seen.{again}
use Rattle.raid_message.specs.declared.letter.Message.{Message}
use Rattle.raid_message.specs.declared.letter.Message.TheVariants as letters
use Rattle.raid_message.specs.declared.letter.Letter.{Letter}
use Rattle.raid_steps.specs.Fits.{knows_vector}
use Rattle.raid_steps.specs.Programs.{next_attempt}
use Rattle.raid_steps.specs.State.{Out, Running, to_site}
use Rattle.raid_sessions.proofs.Lists.{all_append}
use Rattle.raid_sessions.proofs.Mail.{letter_of, letters_to}
use Rattle.raid_asks.proofs.Line.{drops, Line, Counts, Promise, FineAt, NoDrop, NoteOk, Notes, CountsAt}

-- neither a Welcome nor a Drop
abbrev pub IsPlain : Message → Type 0
IsPlain (letters.Welcome v n) = ⊥
IsPlain (letters.Drop t again) = ⊥
IsPlain other = ⊤

pub letters_append : (c session clock : ℕ) (xs ys : List Out) → letters_to c session clock (xs ++ ys) ≡ letters_to c session clock xs ++ letters_to c session clock ys
letters_append c session clock [] ys = refl
letters_append c session clock (x ∷ xs) ys = go (x.0 == c) (letters_append c session clock xs ys)
  where
    go : (b : Bool) → letters_to c session clock (xs ++ ys) ≡ letters_to c session clock xs ++ letters_to c session clock ys →
        (if b then letter_of session clock x ∷ letters_to c session clock (xs ++ ys) else letters_to c session clock (xs ++ ys)) ≡ (if b then letter_of session clock x ∷ letters_to c session clock xs else letters_to c session clock xs) ++ letters_to c session clock ys
    go true q = ap (λ ls. letter_of session clock x ∷ ls) q
    go false q = q

-- what holds of each that is sent to one server
pub all_sent : (P : Letter → Type 0) (c session clock : ℕ) (outs : List Out) → AllByRecursion (λ (out : Out). out.0 ≡ c → P (letter_of session clock out)) outs → AllByRecursion P (letters_to c session clock outs)
all_sent P c session clock [] a = tt
all_sent P c session clock (out ∷ outs) a = go (out.0 == c) refl (all_sent P c session clock outs a.1)
  where
    go : (b : Bool) → (out.0 == c) ≡ b → AllByRecursion P (letters_to c session clock outs) → AllByRecursion P (if b then letter_of session clock out ∷ letters_to c session clock outs else letters_to c session clock outs)
    go true q rest = (a.0 (eqb-true out.0 c q), rest)
    go false q rest = rest

-- the same message to each of some sites: at most one letter for each
pub data AtMostOne (message : Message) (ls : List Letter) : Type 0 where
  none : ls ≡ [] → AtMostOne message ls
  one : (l : Letter) → ls ≡ l ∷ [] → l.message ≡ message → AtMostOne message ls

module _ (k clock : ℕ) (v : List ℕ) (message : Message) (test : Site → Bool) where
  abbrev sent_to : ℕ → ℕ → List Letter
  sent_to a n = letters_to (k + 2) 0 clock (map (λ s. to_site v s message) (filter test (map site (count_from a n))))

  other : (a : ℕ) → k + 1 < a → (a + 1 == k + 2) ≡ false
  other a q = grind (arith, q)

  beyond : (a n : ℕ) → k + 1 < a → sent_to a n ≡ []
  beyond a zero q = refl
  beyond a (suc n) q = go (test (site a)) (beyond (a + 1) n (omega (arith, q)))
    where
      go : (b : Bool) → sent_to (a + 1) n ≡ [] → letters_to (k + 2) 0 clock (map (λ s. to_site v s message) (if b then site a ∷ filter test (map site (count_from (a + 1) n)) else filter test (map site (count_from (a + 1) n)))) ≡ []
      go true rest = ap (λ b. if b then letter_of 0 clock (to_site v (site a) message) ∷ sent_to (a + 1) n else sent_to (a + 1) n) (other a q) ∙ rest
      go false rest = rest

  pub sent_once : (a n : ℕ) → AtMostOne message (sent_to a n)
  sent_once a zero = none refl
  sent_once a (suc n) = go (test (site a)) (a + 1 == k + 2) refl (sent_once (a + 1) n)
    where
      past : (a + 1 == k + 2) ≡ true → k + 1 < a + 1
      past q = grind (arith, q)

      go : (b c : Bool) → (a + 1 == k + 2) ≡ c → AtMostOne message (sent_to (a + 1) n) → AtMostOne message (letters_to (k + 2) 0 clock (map (λ s. to_site v s message) (if b then site a ∷ filter test (map site (count_from (a + 1) n)) else filter test (map site (count_from (a + 1) n)))))
      go true true q rest =
          let l = letter_of 0 clock (to_site v (site a) message) in
          one l (ap (λ b. if b then l ∷ sent_to (a + 1) n else sent_to (a + 1) n) q ∙ ap (λ ls. l ∷ ls) (beyond (a + 1) n (past q))) refl
      go true false q rest = subst (AtMostOne message) (sym (ap (λ b. if b then letter_of 0 clock (to_site v (site a) message) ∷ sent_to (a + 1) n else sent_to (a + 1) n) q)) rest
      go false c q rest = rest

module _ (w : Workload) (s : Site) (m : ℕ) where
  -- the first letter to the site that matters is its Welcome
  abbrev pub WelcomeOk : List Noted → Message → List Letter → Type 0
  WelcomeOk p (letters.Welcome v n) ls = (knows_vector w v ≡ true) × (Counts w s p [] n × Notes w s p m [] ls)
  WelcomeOk p other ls = ⊥

  abbrev pub Welcoming : List Noted → List Letter → Type 0
  Welcoming p [] = ⊥
  Welcoming p (l ∷ ls) = (((l.to == m) ≡ true) × WelcomeOk p l.message ls) ⊎ (((l.to == m) ≡ true → IsPlain l.message) × Welcoming p ls)

  -- new letters, after the history has grown from p to q
  abbrev pub New : List Noted → List Noted → List Txn → List Letter → Type 0
  New p q bs new = Notes w s q m bs new × ((t : Txn) → Promise w s p bs t → NoDrop w s p m t new)

  pub plain_new : (p q : List Noted) (bs : List Txn) (new : List Letter) → AllByRecursion (λ (l : Letter). IsPlain l.message) new → New p q bs new
  plain_new p q bs new a = (notes new a, λ t r. undropped t new a)
    where
      ok : (message : Message) (ls : List Letter) → IsPlain message → NoteOk w s q m bs message ls
      ok (letters.Welcome v n) ls r = absurd r
      ok (letters.Drop t again) ls r = absurd r
      ok other ls r = tt

      notes : (ls : List Letter) → AllByRecursion (λ (l : Letter). IsPlain l.message) ls → Notes w s q m bs ls
      notes [] a = tt
      notes (l ∷ ls) a = ((λ to. ok l.message ls a.0), notes ls a.1)

      undrop : (t : Txn) (message : Message) → IsPlain message → drops t message ≡ false
      undrop t (letters.Drop u again) r = absurd r
      undrop t other r = refl

      undropped : (t : Txn) (ls : List Letter) → AllByRecursion (λ (l : Letter). IsPlain l.message) ls → NoDrop w s p m t ls
      undropped t [] a = tt
      undropped t (l ∷ ls) a = ((λ to. undrop t l.message a.0), undropped t ls a.1)

  -- a drop
  pub drop_new : (p q : List Noted) (bs : List Txn) (t : Txn) (b : Bool) (new : List Letter) → AtMostOne (letters.Drop t b) new → (b ≡ true → is_site s (home w t) ≡ true → Promise w s q bs t) → ((u : Txn) → Promise w s p bs u → (t.0 == u.0) ≡ false) → New p q bs new
  drop_new p q bs t b new (none e) promise apart = subst (New p q bs) (sym e) (tt, λ u a. tt)
  drop_new p q bs t b new (one l e is) promise apart = subst (New p q bs) (sym e) (((λ to. subst (λ x. NoteOk w s q m bs x []) (sym is) (ok b promise)), tt), λ u a. ((λ to. ap (drops u) is ∙ apart u a), tt))
    where
      ok : (b : Bool) → (b ≡ true → is_site s (home w t) ≡ true → Promise w s q bs t) → NoteOk w s q m bs (letters.Drop t b) []
      ok true f = λ here. (f refl here, tt)
      ok false f = tt

  -- a longer history in which no transaction of the site has begun, and attempts that were due still are
  module _ (p q : List Noted) (begun_same : (u : Txn) → is_site s (home w u) ≡ true → has_begun q u ≡ has_begun p u) (again_kept : (u : Txn) → is_site s (home w u) ≡ true → again w p u ≡ true → again w q u ≡ true) where
    line_kept : (bs : List Txn) → Line w s p bs → Line w s q bs
    line_kept [] l = tt
    line_kept (t ∷ bs) l = (record { ours = l.0.ours; fresh = begun_same t l.0.ours.at ∙ l.0.fresh; turn = elim l.0.turn [ inl first ↦ inl first | inr due ↦ inr (again_kept t l.0.ours.at due) ] }, (l.1.0, line_kept bs l.1.1))

    pub fine_kept : (bs : List Txn) (rs : List Running) → AllByRecursion (λ (r : Running). FineAt w s p bs r.txn) rs → AllByRecursion (λ (r : Running). FineAt w s q bs r.txn) rs
    fine_kept bs [] a = tt
    fine_kept bs (r ∷ rs) a = ((a.0.0, a.0.1 ∙ ap not (sym (begun_same r.txn a.0.0.at))), fine_kept bs rs a.1)

    ours_kept : (bs : List Txn) (n : ℕ) → Counts w s p bs n → Counts w s q bs n
    ours_kept bs n c = (c.0, λ t f. ap (λ b. b || has_txn bs t) (begun_same t f.ours.at) ∙ c.1 t f)

    promise_kept : (bs : List Txn) (t : Txn) → Promise w s p bs t → Promise w s q bs t
    promise_kept bs t a = record { more = a.more; due = again_kept (next_attempt w t) a.at a.due; fresh = begun_same (next_attempt w t) a.at ∙ a.fresh; free = a.free; at = a.at }

    notes_on : (bs : List Txn) (ls new : List Letter) → Notes w s p m bs ls → New p q bs new → Notes w s q m bs (ls ++ new)
    notes_on bs [] new n r = r.0
    notes_on bs (l ∷ ls) new n r = ((λ to. go l.message (n.0 to)), notes_on bs ls new n.1 r)
      where
        go : (message : Message) → NoteOk w s p m bs message ls → NoteOk w s q m bs message (ls ++ new)
        go (letters.Welcome v i) a = a
        go (letters.Drop t true) a = λ here. (let both = a here in (promise_kept bs t both.0, all_append (λ (l : Letter). (l.to == m) ≡ true → drops t l.message ≡ false) ls new both.1 (r.1 t both.0)))
        go (letters.Drop t false) a = a
        go other a = a

    pub counts_on : (bs : List Txn) (n : ℕ) (ls new : List Letter) → CountsAt w s p m ls bs n → New p q bs new → CountsAt w s q m (ls ++ new) bs n
    counts_on bs n ls new c r = record { line = line_kept bs c.line; counts = ours_kept bs n c.counts; notes = notes_on bs ls new c.notes r }

    pub welcoming_on : (ls new : List Letter) → Welcoming p ls → New p q [] new → Welcoming q (ls ++ new)
    welcoming_on [] new a r = absurd a
    welcoming_on (l ∷ ls) new (inl a) r = inl (a.0, go l.message a.1)
      where
        go : (message : Message) → WelcomeOk p message ls → WelcomeOk q message (ls ++ new)
        go (letters.Welcome v n) a = (a.0, (ours_kept [] n a.1.0, notes_on [] ls new a.1.1 r))
        go other a = absurd a
    welcoming_on (l ∷ ls) new (inr a) r = inr (a.0, welcoming_on ls new a.1 r)
