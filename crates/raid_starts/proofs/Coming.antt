-- What holds of each site for its transactions to come, and what an end of one of them sends it.
use Rattle.std.proofs.Common.{◌≡◌, ℕ, zero, suc, ◌+◌, ◌<◌, ◌≤◌, ◌==◌, nat_lt, Bool, true, false, ◌&&◌, ◌||◌, List, [], ◌∷◌, ◌++◌, length, map, if◌then◌else◌, arith, sym, subst, ap, ◌∙◌, refl}
use Rattle.std.specs.Prelude.{flat_map}
use Rattle.std.proofs.lemmas.Bool.{and_from, eqb-true, true≢false}
use Rattle.std.proofs.lemmas.List.Folds.{list_any-append}
use Rattle.raid_base.specs.declared.names.Txn.{Txn}
use Rattle.raid_base.specs.declared.names.Site.{Site}
use Rattle.raid_base.specs.declared.entry.Act.{Act}
use Rattle.raid_base.specs.declared.entry.Cause.{Cause}
use Rattle.raid_base.specs.declared.entry.Entry.TheVariants.{Abort}
use Rattle.raid_base.specs.declared.entry.Noted.{Noted}
use Rattle.raid_base.specs.Names.{is_site, has_site, has_txn}
use Rattle.raid_base.specs.Sites.{session, site}
use Rattle.raid_workload.specs.declared.workload.Workload.{Workload}
use Rattle.raid_workload.specs.Parts.{sites, home, count_from}
use Rattle.raid_rules.specs.History.{is_running}
use Rattle.raid_legal.specs.Seen.{vector, is_up, again}
use Rattle.raid_message.specs.declared.letter.Message.{Message}
use Rattle.raid_message.specs.declared.letter.Message.TheVariants as letters
use Rattle.raid_message.specs.declared.letter.Letter.{Letter}
use Rattle.raid_steps.specs.State.{Out, SiteState, to_site}
use Rattle.raid_steps.specs.Programs.{runs_here}
use Rattle.raid_steps.specs.Sequencer as rows
use Rattle.raid_sessions.proofs.Lists.{same_self, is_same}
use Rattle.raid_sessions.proofs.Mail.{letter_of, letters_to}
use Rattle.raid_moves.specs.After.{is_full}
use Rattle.raid_asks.specs.Way.{begins_of}
use Rattle.raid_asks.proofs.Facts.{or_left, or_right}
use Rattle.raid_asks.proofs.Notes.{letters_append}
use Rattle.raid_vectors.specs.Vectors.{IsTold}
use Rattle.raid_vectors.proofs.Along.{gets, one_gets}
use Rattle.raid_starts.specs.Starts.{ends, is_coming, NextCome, EndCome}

-- a letter that is on its way stays so when more is sent
pub coming_on : (test : Message → Bool) (m : ℕ) (xs ys : List Letter) → is_coming test m xs ≡ true → is_coming test m (xs ++ ys) ≡ true
coming_on test m xs ys q = list_any-append (λ (l : Letter). l.to == m && test l.message) xs ys ∙ or_left (is_coming test m xs) (is_coming test m ys) q

pub coming_new : (test : Message → Bool) (m : ℕ) (xs ys : List Letter) → is_coming test m ys ≡ true → is_coming test m (xs ++ ys) ≡ true
coming_new test m xs ys q = list_any-append (λ (l : Letter). l.to == m && test l.message) xs ys ∙ or_right (is_coming test m xs) (is_coming test m ys) q

module _ (w : Workload) where
  -- at a site that the history has up in its session: who runs in the history, and whose Begin is on its way, runs there; and what is told of it
  pub record Good (p : List Noted) (k : ℕ) (s : SiteState) (asks notes : List Letter) : Type 0 where
    pub runs : (t : Txn) → is_running p t ≡ true → is_site (site (k + 1)) (home w t) ≡ true → runs_here s t ≡ true
    pub begins : (t : Txn) → has_txn (begins_of s.session asks) t ≡ true → runs_here s t ≡ true
    pub over : EndCome p s notes
    pub next : NextCome w p k s asks notes

  pub record Coming (k : ℕ) (p : List Noted) (s : SiteState) (asks notes : List Letter) : Type 0 where
    pub full : is_full w s ≡ true
    pub up : (t : Txn) → is_site (site (k + 1)) (home w t) ≡ true → again w p t ≡ true → is_up w p (site (k + 1)) ≡ true
    pub good : IsTold w p k s → Good p k s asks notes

  -- what is sent to a site that is up
  module _ (q : List Noted) (k clock m : ℕ) (low : k < w.sites) (some : 1 ≤ m) (told : session (vector w q) (site (k + 1)) ≡ m) where
    abbrev here : Site
    here = site (k + 1)

    rises : is_up w q (site (k + 1)) ≡ true
    rises = positive (session (vector w q) (site (k + 1))) (let a = told in omega (arith, a, some))
      where
        positive : (n : ℕ) → 1 ≤ n → nat_lt 0 n ≡ true
        positive n q = grind (arith, q)

    -- one letter to it
    one : (test : Message → Bool) (message : Message) → test message ≡ true → is_coming test m (letter_of 0 clock (to_site (vector w q) (site (k + 1)) message) ∷ []) ≡ true
    one test message passes = or_left (session (vector w q) here == m && test message) false (and_from (session (vector w q) here == m) (test message) (is_same (session (vector w q) here) m told) passes)

    -- a Drop goes to each site that is up
    pub abort_coming : (test : Message → Bool) (t : Txn) (cause : Cause) (act : Act) (ask : ℕ) → test (rows.drop_of w t cause) ≡ true → is_coming test m (letters_to (k + 2) 0 clock (rows.sends w q ask (Abort t cause act))) ≡ true
    abort_coming test t cause act ask passes =
        ap (is_coming test m) (one_gets k clock (vector w q) (rows.drop_of w t cause) (is_up w q) 1 w.sites (omega arith) (omega (arith, low)))
        ∙ ap (λ b. is_coming test m (gets k clock (vector w q) (rows.drop_of w t cause) (is_up w q) b)) rises
        ∙ one test (rows.drop_of w t cause) passes

    -- a Done goes to the home
    module _ (t : Txn) (applied : List Site) (at : is_site (site (k + 1)) (home w t) ≡ true) where
      abbrev to_here : List Site → List Letter
      to_here ss = letters_to (k + 2) 0 clock (flat_map (rows.commit_sends w q t applied) ss)

      mine : is_coming (ends t) m (letters_to (k + 2) 0 clock (rows.commit_sends w q t applied (site (k + 1)))) ≡ true
      mine = go (is_site here (home w t) && is_up w q here) (and_from (is_site here (home w t)) (is_up w q here) at rises)
        where
          applies : List Out
          applies = if has_site applied here then to_site (vector w q) here (letters.Apply t (length q)) ∷ [] else []

          done : Out
          done = to_site (vector w q) (site (k + 1)) (letters.Done t)

          same : (k : ℕ) → (k + 1 + 1 == k + 2) ≡ true
          same k = grind arith

          go : (b : Bool) → b ≡ true → is_coming (ends t) m (letters_to (k + 2) 0 clock ((if has_site applied (site (k + 1)) then to_site (vector w q) (site (k + 1)) (letters.Apply t (length q)) ∷ [] else []) ++ (if b then to_site (vector w q) (site (k + 1)) (letters.Done t) ∷ [] else []))) ≡ true
          go true e =
              ap (is_coming (ends t) m) (letters_append (k + 2) 0 clock applies (done ∷ []))
              ∙ coming_new (ends t) m (letters_to (k + 2) 0 clock applies) (letters_to (k + 2) 0 clock (done ∷ []))
              (ap (λ b. is_coming (ends t) m (if b then letter_of 0 clock done ∷ [] else [])) (same k) ∙ one (ends t) (letters.Done t) (same_self t.0))
          go false e = absurd (true≢false (sym e))

      done_coming : (ss : List Site) → has_site ss (site (k + 1)) ≡ true → is_coming (ends t) m (to_here ss) ≡ true
      done_coming [] h = absurd (true≢false (sym h))
      done_coming (s ∷ ss) h = ap (is_coming (ends t) m) (letters_append (k + 2) 0 clock (rows.commit_sends w q t applied s) (flat_map (rows.commit_sends w q t applied) ss)) ∙ go (is_site here s) refl h (done_coming ss)
        where
          its : List Letter
          its = letters_to (k + 2) 0 clock (rows.commit_sends w q t applied s)

          same_site : is_site here s ≡ true → s ≡ here
          same_site e = ap (λ n. let z : Site = record { 0 = n } in z) (eqb-true s.0 (k + 1) e)

          go : (b : Bool) → is_site (site (k + 1)) s ≡ b → (b || has_site ss (site (k + 1))) ≡ true → (has_site ss (site (k + 1)) ≡ true → is_coming (ends t) m (to_here ss) ≡ true) →
              is_coming (ends t) m (letters_to (k + 2) 0 clock (rows.commit_sends w q t applied s) ++ to_here ss) ≡ true
          go true e r rest = coming_on (ends t) m its (to_here ss) (subst (λ z. is_coming (ends t) m (letters_to (k + 2) 0 clock (rows.commit_sends w q t applied z)) ≡ true) (sym (same_site e)) mine)
          go false e r rest = coming_new (ends t) m its (to_here ss) (rest r)

      among : (a n : ℕ) → a ≤ k + 1 → k + 1 < a + n → has_site (map site (count_from a n)) (site (k + 1)) ≡ true
      among a zero l g = absurd (omega (arith, l, g))
      among a (suc n) l g = step (a == k + 1) refl (λ more. among (a + 1) n more (omega (arith, g)))
        where
          later : (a == k + 1) ≡ false → a + 1 ≤ k + 1
          later z = grind (arith, z, l)

          step : (b : Bool) → (a == k + 1) ≡ b → (a + 1 ≤ k + 1 → has_site (map site (count_from (a + 1) n)) (site (k + 1)) ≡ true) → (b || has_site (map site (count_from (a + 1) n)) (site (k + 1))) ≡ true
          step true z rest = refl
          step false z rest = rest (later z)

      pub commit_coming : is_coming (ends t) m (letters_to (k + 2) 0 clock (flat_map (rows.commit_sends w q t applied) (sites w))) ≡ true
      commit_coming = done_coming (sites w) (among 1 w.sites (omega arith) (omega (arith, low)))
