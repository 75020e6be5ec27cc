-- What the sequencer's step does to a site, entry by entry.
use Rattle.std.proofs.Common.{◌≡◌, ◌≢◌, ◌⊎◌, inl, inr, ℕ, zero, suc, ◌+◌, ◌-◌, ◌*◌, ◌<◌, ◌≤◌, ◌==◌, nat_lt, Bool, true, false, not, ◌&&◌, ◌||◌, List, [], ◌∷◌, ◌++◌, length, map, filter, fold, find, replicate, Option, Some, None, if◌then◌else◌, arith, sym, subst, ap, ◌∙◌, refl, append_assoc}
use Rattle.std.specs.Prelude.{⊤, flat_map, slice_index, slice_set}
use Rattle.std.specs.List.{AllByRecursion}
use Rattle.std.specs.Option.{option_map_or}
use Rattle.std.proofs.lemmas.Bool.{and_parts, eqb-true, true≢false}
use Rattle.std.proofs.lemmas.Grind.{common_steps}
use Rattle.raid_base.specs.declared.names.Txn.{Txn}
use Rattle.raid_base.specs.declared.names.Site.{Site}
use Rattle.raid_base.specs.declared.entry.Entry.{Entry}
use Rattle.raid_base.specs.declared.entry.Entry.TheVariants.{Read, Commit, Abort, Down, Up}
use Rattle.raid_base.specs.declared.entry.Noted.{Noted}
use Rattle.raid_base.specs.Names.{is_site, has_site}
use Rattle.raid_base.specs.Sites.{session, site}
use Rattle.raid_workload.specs.declared.workload.Workload.{Workload}
use Rattle.raid_workload.specs.Parts.{txns, sites, home}
use Rattle.raid_rules.specs.Entries.{is_down}
use Rattle.raid_rules.specs.History.{noted, next, has_begun}
use Rattle.raid_rules.specs.Sessions.{last_session, turn_vector}
use Rattle.raid_rules.proofs.Push.{noted_push, vector_push}
use Rattle.raid_legal.specs.Seen.{attempt, vector, is_up}
use Rattle.raid_message.specs.declared.letter.Message.{Message}
use Rattle.raid_message.specs.declared.letter.Message.TheVariants as letters
use Rattle.raid_message.specs.declared.letter.Letter.{Letter}
use Rattle.raid_steps.specs.Sequencer as seq
use Rattle.raid_steps.specs.Sequencer.{so_far, place}
use Rattle.raid_steps.specs.State.{Out, Turn, Sequencer, Running, opened, to_site}
use Rattle.raid_placed.specs.Placed.{Placed, Placeable}
use Rattle.raid_placed.proofs.Heard.{down_not_up}
use Rattle.raid_placed.proofs.Sent.{placed_push}
use Rattle.raid_asks.proofs.Sends.{sends_each}
use Rattle.raid_sessions.proofs.Ledger.{is_still, last_still, last_down, last_up, session_still}
use Rattle.raid_sessions.proofs.Lists.{all_append, all_weaken, set_index, index_other, is_same, apart}
use Rattle.raid_sessions.proofs.Mail.{same_or_not, letter_of, letters_to}
use Rattle.raid_asks.proofs.Entries.{IsQuiet, begun_same, quiet_on, again_same, abort_new}
use Rattle.raid_asks.proofs.Facts.{Order, placed_order}
use Rattle.raid_asks.proofs.Homes.{next_ours}
use Rattle.raid_asks.proofs.Least.{Least, least, txn_known, known_txn, IsFirst}
use Rattle.raid_asks.proofs.Line.{Line, Counts, FineAt, Notes, CountsAt}
use Rattle.raid_asks.proofs.Notes.{IsPlain, New, Welcoming, letters_append, all_sent, plain_new, fine_kept, counts_on, welcoming_on}
use Rattle.raid_asks.proofs.Steps.{IsOther, AreOther, Why, Steps, done, placed, passes}

length_turn : (v : List ℕ) (e : Entry) → length (turn_vector v e) ≡ length v
length_turn v (Down r) = grind (arith, common_steps)
length_turn v (Up r n) = grind (arith, common_steps)
length_turn v other = refl

length_after : (v : List ℕ) (p : List Noted) → length (fold (λ v n. turn_vector v n.entry) v p) ≡ length v
length_after v [] = refl
length_after v (n ∷ p) = length_after (turn_vector v n.entry) p ∙ length_turn v n.entry

ones : (n : ℕ) → length {A = ℕ} (replicate n 1) ≡ n
ones zero = refl
ones (suc n) = ap suc (ones n)

same_or_more : (a b : ℕ) → a ≤ b → (a ≡ b) ⊎ (a < b)
same_or_more zero zero le = inl refl
same_or_more zero (suc b) le = inr (omega arith)
same_or_more (suc a) zero le = absurd (omega (arith, le))
same_or_more (suc a) (suc b) le = elim (same_or_more a b (omega (arith, le))) [
  | inl e ↦ inl (ap suc e)
  | inr l ↦ inr (omega (arith, l))
]

strict : (a b : ℕ) → a ≤ b → a ≢ b → a < b
strict a b le ne = elim (same_or_more a b le) [
  | inl e ↦ absurd (ne e)
  | inr l ↦ l
]

no_larger : (v : List ℕ) (i k : ℕ) → slice_index (slice_set v i 0) k ≤ slice_index v k
no_larger [] i k = omega arith
no_larger (x ∷ v) zero zero = omega arith
no_larger (x ∷ v) zero (suc k) = omega arith
no_larger (x ∷ v) (suc i) zero = omega arith
no_larger (x ∷ v) (suc i) (suc k) = no_larger v i k

module _ (w : Workload) (k m from : ℕ) (letter : Letter) (first : List Noted) (inside : k < w.sites) (clock : ℕ) where
  abbrev pub here : Site
  here = site (k + 1)

  abbrev pub IsHello : Type 0
  IsHello = from ≡ k + 2 → letter.message ≡ letters.Hello → (letter.from ≡ last_session first here + 1) × (letter.from ≤ m)

  abbrev pub Early : List Letter → Type 0
  Early ls = AllByRecursion (λ (l : Letter). (l.to == m) ≡ true → IsPlain l.message) ls

  plain_early : (ls : List Letter) → AllByRecursion (λ (l : Letter). IsPlain l.message) ls → Early ls
  plain_early ls a = all_weaken (λ (l : Letter). IsPlain l.message) (λ (l : Letter). (l.to == m) ≡ true → IsPlain l.message) ls (λ l q to. q) a

  -- what is sent to the site
  abbrev sent : List Noted → ℕ → Entry → List Letter
  sent q ask e = letters_to (k + 2) 0 clock (seq.sends w q ask e)

  site_is : (s : Site) → s.0 + 1 ≡ k + 2 → s ≡ here
  site_is s q = ap (λ n. let x : Site = record { 0 = n } in x) (omega (arith, q))

  sent_to : (q : List Noted) (ask : ℕ) (e : Entry) → AllByRecursion (λ (l : Letter). l.to ≤ session (vector w q) here) (sent q ask e)
  sent_to q ask e =
      all_sent (λ (l : Letter). l.to ≤ session (vector w q) here) (k + 2) 0 clock (seq.sends w q ask e)
      (sends_each w (λ (out : Out). out.0 ≡ k + 2 → out.1 ≤ session (vector w q) here) q (λ s message c to. subst (λ x. session (vector w q) x ≤ session (vector w q) here) (sym (site_is s to)) (omega arith)) ask e)

  sent_early : (q : List Noted) (ask : ℕ) (e : Entry) → session (vector w q) here < m → Early (sent q ask e)
  sent_early q ask e less = all_weaken (λ (l : Letter). l.to ≤ session (vector w q) here) (λ (l : Letter). (l.to == m) ≡ true → IsPlain l.message) (sent q ask e) (λ l le to. absurd (let same = eqb-true l.to m to in omega (arith, le, less, same))) (sent_to q ask e)

  abbrev IsPlainOut : Out → Type 0
  IsPlainOut out = out.0 ≡ k + 2 → IsPlain out.2

  notes_plain : (v : List ℕ) (message : Message) (ss : List Site) → IsPlain message → AllByRecursion IsPlainOut (map (λ s. to_site v s message) ss)
  notes_plain v message [] q = tt
  notes_plain v message (s ∷ ss) q = ((λ e. q), notes_plain v message ss q)

  commits_plain : (q : List Noted) (t : Txn) (applied : List Site) (ss : List Site) → AllByRecursion IsPlainOut (flat_map (seq.commit_sends w q t applied) ss)
  commits_plain q t applied [] = tt
  commits_plain q t applied (s ∷ ss) =
      all_append IsPlainOut (seq.commit_sends w q t applied s) (flat_map (seq.commit_sends w q t applied) ss)
      (all_append IsPlainOut (if has_site applied s then to_site (vector w q) s (letters.Apply t (length q)) ∷ [] else []) (if is_site s (home w t) && is_up w q s then to_site (vector w q) s (letters.Done t) ∷ [] else [])
      (applies (has_site applied s)) (dones (is_site s (home w t) && is_up w q s)))
      (commits_plain q t applied ss)
    where
      applies : (b : Bool) → AllByRecursion IsPlainOut (let outs : List Out = (if b then to_site (vector w q) s (letters.Apply t (length q)) ∷ [] else []) in outs)
      applies true = ((λ e. tt), tt)
      applies false = tt

      dones : (b : Bool) → AllByRecursion IsPlainOut (let outs : List Out = (if b then to_site (vector w q) s (letters.Done t) ∷ [] else []) in outs)
      dones true = ((λ e. tt), tt)
      dones false = tt

  serving_plain : (q : List Noted) (ask : ℕ) (t : Txn) (s : Site) (b : Bool) → AllByRecursion IsPlainOut (let outs : List Out = (if b then [] else to_site (vector w q) (home w t) (letters.Serving t ask s) ∷ []) in outs)
  serving_plain q ask t s true = tt
  serving_plain q ask t s false = ((λ e. tt), tt)

  -- an entry that drops nobody, and welcomes another site if any
  abbrev IsMild : Entry → Type 0
  IsMild (Abort t cause act) = ⊥
  IsMild (Up r n) = (r.0 == k + 1) ≡ false
  IsMild other = ⊤

  sends_plain : (q : List Noted) (ask : ℕ) (e : Entry) → IsMild e → AllByRecursion IsPlainOut (seq.sends w q ask e)
  sends_plain q ask (Read t x s) mild = ((λ e. tt), serving_plain q ask t s (is_site s (home w t)))
  sends_plain q ask (Commit t request applied) mild = commits_plain q t applied (sites w)
  sends_plain q ask (Abort t cause act) mild = absurd mild
  sends_plain q ask (Down r) mild = notes_plain (vector w q) (letters.DownNote r) (filter (is_up w q) (sites w)) tt
  sends_plain q ask (Up r n) mild = ((λ to. absurd (true≢false (sym (same r.0 to) ∙ mild))), notes_plain (vector w q) (letters.UpNote r n) (filter (λ x. is_up w q x && not (is_site r x)) (sites w)) tt)
    where
      same : (a : ℕ) → a + 1 ≡ k + 2 → (a == k + 1) ≡ true
      same a q = grind (arith, q)
  sends_plain q ask other mild = tt

  sent_plain : (q : List Noted) (ask : ℕ) (e : Entry) → IsMild e → AllByRecursion (λ (l : Letter). IsPlain l.message) (sent q ask e)
  sent_plain q ask e mild = all_sent (λ (l : Letter). IsPlain l.message) (k + 2) 0 clock (seq.sends w q ask e) (sends_plain q ask e mild)

  -- the next of a home, right after the home has come up
  next_counts : (h : List Entry) → Placed w h → Counts w here (noted h) [] (seq.next_number w (noted h) here)
  next_counts h pl = (next_ours w k (noted h) here, λ t f. go t f (find test (txns w)) (least test 1 (length w.programs * (w.restarts + 1))))
    where
      test : Txn → Bool
      test t = attempt w t == 0 && is_site here (home w t) && not (has_begun (noted h) t)

      begun_else : (a b c : Bool) → a ≡ true → b ≡ true → (a && b && not c) ≡ false → (c || false) ≡ true
      begun_else true true true x y z = refl
      begun_else true true false x y z = absurd (true≢false z)
      begun_else true false c x y z = absurd (true≢false (sym y))
      begun_else false b c x y z = absurd (true≢false (sym x))

      lt_is : (a b : ℕ) → nat_lt a b ≡ true → a < b
      lt_is a b q = grind (arith, q)

      ge_is : (a b : ℕ) → nat_lt a b ≡ false → b ≤ a
      ge_is a b q = grind (arith, q)

      nonzero : (n : ℕ) (b : Bool) → 1 ≤ n → (n == 0 || b) ≡ b
      nonzero n b q = grind (arith, common_steps, q)

      go : (t : Txn) → IsFirst w here t → (o : Option Txn) → Least test 1 (length w.programs * (w.restarts + 1)) o → (has_begun (noted h) t || false) ≡ (option_map_or (λ (t : Txn). t.0) o 0 == 0 || nat_lt t.0 (option_map_or (λ (t : Txn). t.0) o 0))
      go t f None l = (let r = known_txn w t f.ours.known in begun_else (attempt w t == 0) (is_site here (home w t)) (has_begun (noted h) t) f.first f.ours.at (l t.0 r.0 r.1))
      go t f (Some v) l = step (nat_lt t.0 v.0) refl ∙ sym (nonzero v.0 (nat_lt t.0 v.0) l.low)
        where
          order : Order w (noted h)
          order = placed_order w h pl

          parts : ((attempt w v == 0 && is_site here (home w v)) ≡ true) × (not (has_begun (noted h) v) ≡ true)
          parts = and_parts (attempt w v == 0 && is_site here (home w v)) (not (has_begun (noted h) v)) l.yes

          both : ((attempt w v == 0) ≡ true) × (is_site here (home w v) ≡ true)
          both = and_parts (attempt w v == 0) (is_site here (home w v)) parts.0

          its : IsFirst w here v
          its = record { ours = record { known = txn_known w v.0 l.low l.high; at = both.1 }; first = both.0 }

          not_both : (b : Bool) → b ≡ true → not b ≡ true → ⊥
          not_both true q r = true≢false (sym r)
          not_both false q r = true≢false (sym q)

          unbegun : v.0 ≤ t.0 → (b : Bool) → has_begun (noted h) t ≡ b → (b || false) ≡ false
          unbegun le false q = refl
          unbegun le true q = elim (same_or_not v.0 t.0) [
            | inl same ↦ absurd (not_both (has_begun (noted h) v) (ap (λ n. has_begun (noted h) (let x : Txn = record { 0 = n } in x)) same ∙ q) parts.1)
            | inr differ ↦ absurd (not_both (has_begun (noted h) v) (order.closed here t v f its (strict v.0 t.0 le differ) q) parts.1)
          ]

          step : (b : Bool) → nat_lt t.0 v.0 ≡ b → (has_begun (noted h) t || false) ≡ nat_lt t.0 v.0
          step true q = begun_else (attempt w t == 0) (is_site here (home w t)) (has_begun (noted h) t) f.first f.ours.at (l.before t.0 (known_txn w t f.ours.known).0 (lt_is t.0 v.0 q)) ∙ sym q
          step false q = unbegun (ge_is t.0 v.0 q) (has_begun (noted h) t) refl ∙ sym q

  vector_long : (q : List Noted) → length (vector w q) ≡ w.sites
  vector_long q = length_after (replicate w.sites 1) q ∙ ones w.sites

  early_welcoming : (q : List Noted) (ls new : List Letter) → Early ls → Welcoming w here m q new → Welcoming w here m q (ls ++ new)
  early_welcoming q [] new a r = r
  early_welcoming q (l ∷ ls) new a r = inr (a.0, early_welcoming q ls new a.1 r)

  module _ (hello : IsHello) (rs : List Running) (nx : ℕ) (bs : List Txn) where
    -- a site that is up in a session: the history doesn't have it in the session yet; or it has, and the site's Welcome is on its way; or it
    -- was welcomed; or it went down in this step
    pub data Now (p : List Noted) (notes : List Letter) : Type 0 where
      sleeping : last_session p here < m → rs ≡ [] → nx ≡ 0 → bs ≡ [] → Early notes → Now p notes
      welcomed : last_session p here ≡ m → IsQuiet w k m from letter first p → rs ≡ [] → nx ≡ 0 → bs ≡ [] → Welcoming w here m p notes → Now p notes
      awake : last_session p here ≡ m → IsQuiet w k m from letter first p → AllByRecursion (λ (r : Running). FineAt w here p bs r.txn) rs → CountsAt w here p m notes bs nx → Now p notes
      gone : last_session p here ≡ m → is_up w p here ≡ false → Now p notes

    abbrev pub Then : List Noted → List Letter → Type 0
    Then p notes = (session (vector w p) here ≤ last_session p here) × Now p notes

    module _ (h : List Entry) (e : Entry) (ask : ℕ) (placed_so : Placed w h) (goes : Placeable w (noted h) e) (why : Why w from letter first (noted h) ask e) (notes : List Letter) where
      abbrev p : List Noted
      p = noted h

      abbrev q : List Noted
      q = noted (h ++ e ∷ [])

      not_up : (a b : ℕ) → nat_lt 0 a ≡ false → b ≤ a → nat_lt 0 b ≡ false
      not_up a b n le = grind (arith, n, le)

      -- neither a stop nor a return of the site
      goes_on : last_session q here ≡ last_session p here → session (vector w q) here ≤ session (vector w p) here → is_down (is_site here) e ≡ false →
          ((bs : List Txn) → Line w here p bs → IsQuiet w k m from letter first p → New w here m p q bs (sent q ask e)) → Then p notes → Then q (notes ++ sent q ask e)
      goes_on same less up new (sess, now) = ((let a = same in let b = less in let c = sess in omega (arith, a, b, c)), go now)
        where
          go : Now p notes → Now q (notes ++ sent q ask e)
          go (sleeping l r n b early) = sleeping (let a = same in omega (arith, a, l)) r n b (all_append (λ (l : Letter). (l.to == m) ≡ true → IsPlain l.message) notes (sent q ask e) early (sent_early q ask e (let a = less in let c = sess in omega (arith, a, c, l))))
          go (welcomed l quiet r n b welcome) =
              welcomed (same ∙ l) (quiet_on w k m from letter first h e placed_so goes quiet) r n b
              (welcoming_on w here m p q (begun_same w k m from letter first h e placed_so goes ask why quiet) (again_same w k m from letter first h e placed_so goes up) notes (sent q ask e) welcome (new [] tt quiet))
          go (awake l quiet fine counts) =
              awake (same ∙ l) (quiet_on w k m from letter first h e placed_so goes quiet)
              (fine_kept w here m p q (begun_same w k m from letter first h e placed_so goes ask why quiet) (again_same w k m from letter first h e placed_so goes up) bs rs fine)
              (counts_on w here m p q (begun_same w k m from letter first h e placed_so goes ask why quiet) (again_same w k m from letter first h e placed_so goes up) bs nx notes (sent q ask e) counts (new bs counts.line quiet))
          go (gone l down) = gone (same ∙ l) (not_up (session (vector w p) here) (session (vector w q) here) down less)

      mild_new : IsMild e → (bs : List Txn) → Line w here p bs → IsQuiet w k m from letter first p → New w here m p q bs (sent q ask e)
      mild_new mild bs line quiet = plain_new w here m p q bs (sent q ask e) (sent_plain q ask e mild)

      still : is_still e ≡ true → is_down (is_site here) e ≡ false → ((bs : List Txn) → Line w here p bs → IsQuiet w k m from letter first p → New w here m p q bs (sent q ask e)) → Then p notes → Then q (notes ++ sent q ask e)
      still s up new = goes_on (last_still w h e here s) (let same = session_still w h e here s in omega (arith, same)) up new

    -- the site or another one comes up
    module _ (h : List Entry) (r : Site) (n ask : ℕ) (pl : Placed w h) (goes : Placeable w (noted h) (Up r n)) (why : Why w from letter first (noted h) ask (Up r n)) (notes : List Letter) where
      abbrev risen : List Noted
      risen = noted (h ++ Up r n ∷ [])

      pushed : session (vector w risen) here ≡ slice_index (slice_set (vector w (noted h)) (r.0 - 1) n) (here.0 - 1)
      pushed = ap (λ p. session (vector w p) here) (noted_push h (Up r n)) ∙ ap (λ v. session v here) (vector_push w.sites (noted h) (next (noted h) (Up r n)))

      same_site : (r.0 == k + 1) ≡ true → here ≡ r
      same_site c = ap (λ n. let x : Site = record { 0 = n } in x) (sym (eqb-true r.0 (k + 1) c))

      last_is : (c : Bool) → (r.0 == k + 1) ≡ c → last_session risen here ≡ (if c then n else last_session (noted h) here)
      last_is c e = last_up w h r n here ∙ ap (λ b. if b then n else last_session (noted h) here) e

      session_is : (r.0 == k + 1) ≡ true → session (vector w risen) here ≡ n
      session_is c = pushed ∙ ap (λ i. slice_index (slice_set (vector w (noted h)) i n) (here.0 - 1)) (place (eqb-true r.0 (k + 1) c)) ∙ set_index (vector w (noted h)) (here.0 - 1) n (let l = vector_long (noted h) in let b = inside in omega (arith, l, b))
        where
          place : r.0 ≡ k + 1 → r.0 - 1 ≡ here.0 - 1
          place e = omega (arith, e)

      abbrev notes_left : List Letter
      notes_left = letters_to (k + 2) 0 clock (map (λ x. to_site (vector w risen) x (letters.UpNote r n)) (filter (λ x. is_up w risen x && not (is_site r x)) (sites w)))

      abbrev its_letter : Letter
      its_letter = letter_of 0 clock (to_site (vector w risen) r (letters.Welcome (vector w risen) (seq.next_number w risen r)))

      sent_is : (r.0 == k + 1) ≡ true → sent risen ask (Up r n) ≡ its_letter ∷ notes_left
      sent_is c = ap (λ b. if b then its_letter ∷ notes_left else notes_left) (its_number r.0 c)
        where
          its_number : (a : ℕ) → (a == k + 1) ≡ true → (a + 1 == k + 2) ≡ true
          its_number a q = grind (arith, q)

      goes_up : (c : Bool) → (r.0 == k + 1) ≡ c → Then (noted h) notes → Then risen (notes ++ sent risen ask (Up r n))
      goes_up false c t3 =
          goes_on h (Up r n) ask pl goes why notes (last_is false c)
          (let a = pushed in let b = index_other (vector w (noted h)) (r.0 - 1) (here.0 - 1) n (apart r.0 (k + 1) c why.3 (omega arith)) in omega (arith, a, b)) refl (mild_new h (Up r n) ask pl goes why notes c) t3
      goes_up true c (sess, now) = ((let a = session_is c in let b = last_is true c in omega (arith, a, b)), step now)
        where
          ours : (letter.from ≡ last_session first here + 1) × (letter.from ≤ m)
          ours = hello (let a = why.1 in let e = eqb-true r.0 (k + 1) c in omega (arith, a, e)) why.0

          was : last_session (noted h) here ≡ last_session first here
          was = subst (λ s. last_session (noted h) s ≡ last_session first s) (sym (same_site c)) why.4

          never : last_session (noted h) here ≡ m → ⊥
          never l = (let a = was in let b = ours.0 in let d = ours.1 in omega (arith, a, b, d, l))

          lower : (a b : ℕ) → a ≤ b → a ≢ b → last_session risen here ≡ a → last_session risen here < b
          lower a b le ne s = (let l = strict a b le ne in omega (arith, l, s))

          lower_too : (a b : ℕ) → a ≤ b → a ≢ b → session (vector w risen) here ≡ a → session (vector w risen) here < b
          lower_too a b le ne s = (let l = strict a b le ne in omega (arith, l, s))

          to_is : n ≡ m → (session (vector w risen) r == m) ≡ true
          to_is e = is_same (session (vector w risen) r) m (subst (λ s. session (vector w risen) s ≡ m) (same_site c) (session_is c ∙ e))

          left_plain : Notes w here risen m [] (letters_to (k + 2) 0 clock (map (λ x. to_site (vector w risen) x (letters.UpNote r n)) (filter (λ x. is_up w risen x && not (is_site r x)) (sites w))))
          left_plain = (plain_new w here m risen risen [] _ (all_sent (λ (l : Letter). IsPlain l.message) (k + 2) 0 clock _ (notes_plain (vector w risen) (letters.UpNote r n) (filter (λ x. is_up w risen x && not (is_site r x)) (sites w)) tt))).0

          step : Now (noted h) notes → Now risen (notes ++ sent risen ask (Up r n))
          step (sleeping l a z b early) = elim (same_or_not n m) [
            | inl e ↦ welcomed (last_is true c ∙ e) (λ u is. absurd (no_begin u (sym why.0 ∙ is))) a z b (early_welcoming risen notes (sent risen ask (Up r n)) early (subst (Welcoming w here m risen) (sym (sent_is c)) (inl (to_is e, (is_same (length (vector w risen)) w.sites (vector_long risen), (subst (λ s. Counts w here risen [] (seq.next_number w risen s)) (same_site c) (next_counts (h ++ Up r n ∷ []) ((placed_push w h (Up r n)).1 (pl, goes))), left_plain))))))
            | inr e ↦ sleeping (let a = last_is true c in let b = why.2 in let d = ours.1 in lower n m (omega (arith, b, d)) e a) a z b (all_append (λ (l : Letter). (l.to == m) ≡ true → IsPlain l.message) notes (sent risen ask (Up r n)) early (sent_early risen ask (Up r n) (let s = session_is c in let b = why.2 in let d = ours.1 in lower_too n m (omega (arith, b, d)) e s)))
          ]
            where
              no_begin : (u : Txn) → letters.Hello ≡ letters.Begin u → ⊥
              no_begin u is = cc is
          step (welcomed l quiet a z b welcome) = absurd (never l)
          step (awake l quiet fine counts) = absurd (never l)
          step (gone l down) = absurd (never l)

    entry : (h : List Entry) (e : Entry) (ask : ℕ) → Placed w h → Placeable w (noted h) e → Why w from letter first (noted h) ask e → (notes : List Letter) → Then (noted h) notes → Then (noted (h ++ e ∷ [])) (notes ++ sent (noted (h ++ e ∷ [])) ask e)
    entry h (Abort t cause act) ask pl goes why notes t3 = still h (Abort t cause act) ask pl goes why notes refl refl (λ bs line quiet. abort_new w k m from letter first h t cause act pl goes quiet bs line ask clock why) t3
    entry h (Down r) ask pl goes why notes t3 = go (r.0 == k + 1) refl t3
      where
        q : List Noted
        q = noted (h ++ Down r ∷ [])

        pushed : session (vector w (noted (h ++ Down r ∷ []))) here ≡ slice_index (slice_set (vector w (noted h)) (r.0 - 1) 0) (here.0 - 1)
        pushed = ap (λ p. session (vector w p) here) (noted_push h (Down r)) ∙ ap (λ v. session v here) (vector_push w.sites (noted h) (next (noted h) (Down r)))

        less : session (vector w (noted (h ++ Down r ∷ []))) here ≤ session (vector w (noted h)) here
        less = (let a = pushed in let b = no_larger (vector w (noted h)) (r.0 - 1) (here.0 - 1) in omega (arith, a, b))

        same_site : (r.0 == k + 1) ≡ true → here ≡ r
        same_site c = ap (λ n. let x : Site = record { 0 = n } in x) (sym (eqb-true r.0 (k + 1) c))

        plain : AllByRecursion (λ (l : Letter). IsPlain l.message) (sent (noted (h ++ Down r ∷ [])) ask (Down r))
        plain = sent_plain (noted (h ++ Down r ∷ [])) ask (Down r) tt

        falls : (r.0 == k + 1) ≡ true → is_up w (noted (h ++ Down r ∷ [])) here ≡ false
        falls c = subst (λ s. is_up w (noted (h ++ Down r ∷ [])) s ≡ false) (sym (same_site c)) (down_not_up w (opened (record { history = h; announced = []; copying = [] })) r)

        go : (c : Bool) → (r.0 == k + 1) ≡ c → Then (noted h) notes → Then (noted (h ++ Down r ∷ [])) (notes ++ sent (noted (h ++ Down r ∷ [])) ask (Down r))
        go false c t3 = goes_on h (Down r) ask pl goes why notes (last_down w h r here) less c (mild_new h (Down r) ask pl goes why notes tt) t3
        go true c (sess, now) = ((let a = less in let b = last_down w h r here in omega (arith, a, b, sess)), step now)
          where
            step : Now (noted h) notes → Now (noted (h ++ Down r ∷ [])) (notes ++ sent (noted (h ++ Down r ∷ [])) ask (Down r))
            step (sleeping l a n b early) = sleeping (let s = last_down w h r here in omega (arith, s, l)) a n b (all_append (λ (l : Letter). (l.to == m) ≡ true → IsPlain l.message) notes (sent (noted (h ++ Down r ∷ [])) ask (Down r)) early (plain_early (sent (noted (h ++ Down r ∷ [])) ask (Down r)) plain))
            step (welcomed l quiet a n b welcome) = gone (last_down w h r here ∙ l) (falls c)
            step (awake l quiet fine counts) = gone (last_down w h r here ∙ l) (falls c)
            step (gone l down) = gone (last_down w h r here ∙ l) (falls c)
    entry h (Up r n) ask pl goes why notes t3 = goes_up h r n ask pl goes why notes (r.0 == k + 1) refl t3
    entry h other ask pl goes why notes t3 = still h other ask pl goes why notes refl refl (mild_new h other ask pl goes why notes tt) t3

    other_plain : (outs : List Out) → AreOther outs → AllByRecursion IsPlainOut outs
    other_plain [] a = tt
    other_plain (out ∷ outs) a = ((λ to. go out.2 a.0), other_plain outs a.1)
      where
        go : (message : Message) → IsOther message → IsPlain message
        go (letters.CopyDo x target n) o = tt
        go (letters.Ends count) o = tt
        go other o = absurd o

    -- letters that begin nothing
    passing : (p : List Noted) (notes new : List Letter) → AllByRecursion (λ (l : Letter). IsPlain l.message) new → Then p notes → Then p (notes ++ new)
    passing p notes new plain (sess, now) = (sess, go now)
      where
        go : Now p notes → Now p (notes ++ new)
        go (sleeping l a n b early) = sleeping l a n b (all_append (λ (l : Letter). (l.to == m) ≡ true → IsPlain l.message) notes new early (plain_early new plain))
        go (welcomed l quiet a n b welcome) = welcomed l quiet a n b (welcoming_on w here m p p (λ u at. refl) (λ u at d. d) notes new welcome (plain_new w here m p p [] new plain))
        go (awake l quiet fine counts) = awake l quiet fine (counts_on w here m p p (λ u at. refl) (λ u at d. d) bs nx notes new counts (plain_new w here m p p bs new plain))
        go (gone l down) = gone l down

    -- the whole step
    pub steps_then : (notes : List Letter) (a b : Turn Sequencer) → Steps w from letter first a b → Then (so_far a) (notes ++ letters_to (k + 2) 0 clock a.outs) → Then (so_far b) (notes ++ letters_to (k + 2) 0 clock b.outs)
    steps_then notes a b done t = t
    steps_then notes a b (placed ask e pl goes why rest) t =
        let q = noted (a.state.history ++ e ∷ []) in
        let more = ap (λ ls. notes ++ ls) (letters_append (k + 2) 0 clock a.outs (seq.sends w q ask e)) ∙ sym (append_assoc notes (letters_to (k + 2) 0 clock a.outs) (sent q ask e)) in
        steps_then notes (place w ask a e) b rest (subst (Then q) (sym more) (entry a.state.history e ask pl goes why (notes ++ letters_to (k + 2) 0 clock a.outs) t))
    steps_then notes a b (passes {next = next} outs same more other rest) t =
        let spread = ap (λ outs. notes ++ letters_to (k + 2) 0 clock outs) more ∙ ap (λ ls. notes ++ ls) (letters_append (k + 2) 0 clock a.outs outs) ∙ sym (append_assoc notes (letters_to (k + 2) 0 clock a.outs) (letters_to (k + 2) 0 clock outs)) in
        steps_then notes next b rest
        (subst (λ h. Then (noted h) (notes ++ letters_to (k + 2) 0 clock next.outs)) (sym same)
        (subst (Then (so_far a)) (sym spread)
        (passing (so_far a) (notes ++ letters_to (k + 2) 0 clock a.outs) (letters_to (k + 2) 0 clock outs) (all_sent (λ (l : Letter). IsPlain l.message) (k + 2) 0 clock outs (other_plain outs other)) t)))
