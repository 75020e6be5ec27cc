-- Each entry that the sequencer places keeps what comes to a site.
use Rattle.std.proofs.Common.{◌≡◌, ◌⊎◌, inl, inr, ℕ, ◌+◌, ◌<◌, ◌≤◌, ◌==◌, nat_lt, Bool, true, false, ◌&&◌, ◌||◌, List, [], ◌∷◌, ◌++◌, length, Option, Some, None, if◌then◌else◌, arith, sym, subst, ap, ◌∙◌, refl}
use Rattle.std.specs.List.{list_any}
use Rattle.std.proofs.lemmas.Bool.{and_from, and_parts, eqb-true, true≢false}
use Rattle.raid_base.specs.declared.names.Txn.{Txn}
use Rattle.raid_base.specs.declared.names.Site.{Site}
use Rattle.raid_base.specs.declared.entry.Act.{Act}
use Rattle.raid_base.specs.declared.entry.Cause.{Cause}
use Rattle.raid_base.specs.declared.entry.Entry.{Entry}
use Rattle.raid_base.specs.declared.entry.Entry.TheVariants.{Begin, Commit, Abort, Down, Up}
use Rattle.raid_base.specs.declared.entry.Noted.{Noted}
use Rattle.raid_base.specs.declared.request.Request.{Request}
use Rattle.raid_base.specs.Names.{is_txn, is_site, has_txn}
use Rattle.raid_base.specs.Sites.{session, site}
use Rattle.raid_workload.specs.declared.workload.Workload.{Workload}
use Rattle.raid_workload.specs.Parts.{home}
use Rattle.raid_rules.specs.Entries.{is_begin_of, is_end_of}
use Rattle.raid_rules.specs.History.{noted, next, has_begun, has_ended, is_running}
use Rattle.raid_rules.specs.Sessions.{last_session}
use Rattle.raid_rules.proofs.Push.{noted_push, has_begun_push, vector_push, same_txn}
use Rattle.raid_rules.proofs.Txns.{not_true}
use Rattle.raid_legal.specs.Seen.{attempt, again, previous, is_restartable, vector, is_up}
use Rattle.raid_legal.specs.Forced.{forced}
use Rattle.raid_legal.proofs.Left.{forced_compels}
use Rattle.raid_message.specs.declared.letter.Letter.{Letter}
use Rattle.raid_steps.specs.State.{Running, SiteState}
use Rattle.raid_steps.specs.Fits.{knows_site}
use Rattle.raid_steps.specs.Programs.{runs_here}
use Rattle.raid_steps.proofs.Parts.{number_known}
use Rattle.raid_placed.specs.Placed.{Placed, Placeable, Goes}
use Rattle.raid_sessions.proofs.Ledger.{is_still, last_still, last_down, last_up, session_still, session_set}
use Rattle.raid_sessions.proofs.Lists.{same_self}
use Rattle.raid_asks.specs.Own.{IsOf}
use Rattle.raid_asks.specs.Way.{begins_of}
use Rattle.raid_asks.proofs.Facts.{or_left, or_right, or_parts, begin_may, may_parts}
use Rattle.raid_layers.proofs.Histories.{any_push}
use Rattle.raid_versions.proofs.Mid.{sized_push}
use Rattle.raid_versions.proofs.Placing.{up_was_down}
use Rattle.raid_vectors.specs.Vectors.{IsTold}
use Rattle.raid_vectors.proofs.Along.{sent, copied, EntriesKeep, CopiesKeep}
use Rattle.raid_witness.proofs.Histories as histories
use Rattle.raid_starts.specs.Starts.{retries, ends, is_coming, NextCome, EndCome}
use Rattle.raid_starts.proofs.Attempts.{Restarts, again_was, down_none, before_runs, next_home, next_more, home_up}
use Rattle.raid_starts.proofs.Coming.{coming_on, coming_new, abort_coming, commit_coming}

same_site : (s r : Site) → is_site s r ≡ true → r ≡ s
same_site s r e = ap (λ n. let z : Site = record { 0 = n } in z) (eqb-true r.0 s.0 e)

turned : (s r : Site) → is_site s r ≡ is_site r s
turned s r = numbers s.0 r.0
  where
    numbers : (a b : ℕ) → (b == a) ≡ (a == b)
    numbers a b = grind arith

module _ (w : Workload) (k : ℕ) (s : SiteState) (asks : List Letter) (first last : List Noted) where
  pub record Inner (p : List Noted) (notes : List Letter) : Type 0 where
    pub runs : (t : Txn) → is_running p t ≡ true → is_site (site (k + 1)) (home w t) ≡ true → runs_here s t ≡ true
    pub over : EndCome p s notes
    pub next : NextCome w p k s asks notes

  -- in the middle of the sequencer's step, which goes from the first history to the last one
  pub record Mid (p : List Noted) (notes : List Letter) : Type 0 where
    pub long : length (vector w p) ≡ w.sites
    pub lasts : last_session first (site (k + 1)) ≤ last_session p (site (k + 1))
    pub grown : (t : Txn) → has_begun first t ≡ true → has_begun p t ≡ true
    pub up : (t : Txn) → is_site (site (k + 1)) (home w t) ≡ true → again w p t ≡ true → is_up w p (site (k + 1)) ≡ true
    pub good : ((t : Txn) → has_begun p t ≡ true → has_begun last t ≡ true) → IsTold w p k s → Inner p notes

  -- what is known of the site, and who begins in the step
  pub record Ready : Type 0 where
    pub low : k < w.sites
    pub some : 1 ≤ s.session
    pub own : (t : Txn) → runs_here s t ≡ true → IsOf w (site (k + 1)) t
    pub early : last_session first (site (k + 1)) < s.session → s.running ≡ []
    pub began : (t : Txn) → is_site (site (k + 1)) (home w t) ≡ true → has_begun last t ≡ true → (has_begun first t ≡ true) ⊎ (runs_here s t ≡ true)

  module _ (ready : Ready) (from clock : ℕ) (letter : Letter) where
    abbrev here : Site
    here = site (k + 1)

    known_here : knows_site w (site (k + 1)) ≡ true
    known_here = number_known w k (let b = ready.low in omega (arith, b))

    module _ (h : List Entry) (e : Entry) (ask : ℕ) (placed : Placed w h) (goes : Placeable w (noted h) e) (notes : List Letter) (mid : Mid (noted h) notes) where
      abbrev p : List Noted
      p = noted h

      abbrev q : List Noted
      q = noted (h ++ e ∷ [])

      abbrev new : List Letter
      new = sent w from letter first k clock (noted (h ++ e ∷ [])) ask e

      begun_is : (t : Txn) → has_begun (noted (h ++ e ∷ [])) t ≡ (has_begun (noted h) t || is_begin_of t e)
      begun_is t = ap (λ p. has_begun p t) (noted_push h e) ∙ has_begun_push (noted h) (next (noted h) e) t

      still_begun : (t : Txn) → has_begun (noted h) t ≡ true → has_begun (noted (h ++ e ∷ [])) t ≡ true
      still_begun t b = begun_is t ∙ or_left (has_begun p t) (is_begin_of t e) b

      ended_is : (t : Txn) → has_ended (noted (h ++ e ∷ [])) t ≡ (has_ended (noted h) t || is_end_of t e)
      ended_is t = ap (λ p. has_ended p t) (noted_push h e) ∙ any_push (λ n. is_end_of t n.entry) (noted h) (next (noted h) e)

      fresh_was : (t : Txn) → has_begun (noted (h ++ e ∷ [])) t ≡ false → has_begun (noted h) t ≡ false
      fresh_was t f = not_true (has_begun p t) (λ b. true≢false (sym (still_begun t b) ∙ f))

      -- what the entry adds
      record Adds : Type 0 where
        begins : ((t : Txn) → has_begun (noted (h ++ e ∷ [])) t ≡ true → has_begun last t ≡ true) → (t : Txn) → is_site (site (k + 1)) (home w t) ≡ true → is_begin_of t e ≡ true → runs_here s t ≡ true
        ends_now : (t : Txn) → is_site (site (k + 1)) (home w t) ≡ true → is_end_of t e ≡ true → is_coming (ends t) s.session (sent w from letter first k clock (noted (h ++ e ∷ [])) ask e) ≡ true
        due_now : Inner (noted h) notes → (t : Txn) → IsOf w (site (k + 1)) t → Restarts w e t → (is_coming (retries (previous w t)) s.session (sent w from letter first k clock (noted (h ++ e ∷ [])) ask e) && runs_here s (previous w t)) ≡ true

      inner_on : ((t : Txn) → has_begun (noted (h ++ e ∷ [])) t ≡ true → has_begun last t ≡ true) → Adds → Inner (noted h) notes → Inner (noted (h ++ e ∷ [])) (notes ++ sent w from letter first k clock (noted (h ++ e ∷ [])) ask e)
      inner_on within adds i = record {
        runs = λ t r at. runs_now t r at (is_begin_of t e) refl;
        over = λ t r o. elim (or_parts (has_ended p t) (is_end_of t e) (sym (ended_is t) ∙ o)) [
          | inl old ↦ coming_on (ends t) s.session notes new (i.over t r old)
          | inr now ↦ coming_new (ends t) s.session notes new (adds.ends_now t (ready.own t r).1 now)
        ];
        next = λ t of due f. elim (again_was w h e t due) [
          | inl old ↦ carried t (i.next t of old (fresh_was t f))
          | inr restart ↦ fresh_one t (adds.due_now i t of restart)
        ];
      }
        where
          runs_now : (t : Txn) → is_running (noted (h ++ e ∷ [])) t ≡ true → is_site (site (k + 1)) (home w t) ≡ true → (b : Bool) → is_begin_of t e ≡ b → runs_here s t ≡ true
          runs_now t r at true b = adds.begins within t at b
          runs_now t r at false b = i.runs t (histories.run_push w h e t b r) at

          carried : (t : Txn) → ((is_coming (retries (previous w t)) s.session notes && runs_here s (previous w t)) || has_txn (begins_of s.session asks) t) ≡ true →
              ((is_coming (retries (previous w t)) s.session (notes ++ sent w from letter first k clock (noted (h ++ e ∷ [])) ask e) && runs_here s (previous w t)) || has_txn (begins_of s.session asks) t) ≡ true
          carried t old = elim (or_parts (is_coming (retries (previous w t)) s.session notes && runs_here s (previous w t)) (has_txn (begins_of s.session asks) t) old) [
            | inl drop ↦ (let both = and_parts (is_coming (retries (previous w t)) s.session notes) (runs_here s (previous w t)) drop in
                or_left (is_coming (retries (previous w t)) s.session (notes ++ new) && runs_here s (previous w t)) (has_txn (begins_of s.session asks) t)
                (and_from (is_coming (retries (previous w t)) s.session (notes ++ new)) (runs_here s (previous w t)) (coming_on (retries (previous w t)) s.session notes new both.0) both.1))
            | inr way ↦ or_right (is_coming (retries (previous w t)) s.session (notes ++ new) && runs_here s (previous w t)) (has_txn (begins_of s.session asks) t) way
          ]

          fresh_one : (t : Txn) → (is_coming (retries (previous w t)) s.session (sent w from letter first k clock (noted (h ++ e ∷ [])) ask e) && runs_here s (previous w t)) ≡ true →
              ((is_coming (retries (previous w t)) s.session (notes ++ sent w from letter first k clock (noted (h ++ e ∷ [])) ask e) && runs_here s (previous w t)) || has_txn (begins_of s.session asks) t) ≡ true
          fresh_one t drop = (let both = and_parts (is_coming (retries (previous w t)) s.session new) (runs_here s (previous w t)) drop in
              or_left (is_coming (retries (previous w t)) s.session (notes ++ new) && runs_here s (previous w t)) (has_txn (begins_of s.session asks) t)
              (and_from (is_coming (retries (previous w t)) s.session (notes ++ new)) (runs_here s (previous w t)) (coming_new (retries (previous w t)) s.session notes new both.0) both.1))

      -- an entry after which the history has the site in the same session
      same_on : session (vector w (noted (h ++ e ∷ []))) (site (k + 1)) ≡ session (vector w (noted h)) (site (k + 1)) → last_session (noted (h ++ e ∷ [])) (site (k + 1)) ≡ last_session (noted h) (site (k + 1)) →
          (IsTold w (noted (h ++ e ∷ [])) k s → Adds) → Mid (noted (h ++ e ∷ [])) (notes ++ sent w from letter first k clock (noted (h ++ e ∷ [])) ask e)
      same_on same lasts adds = record {
        long = ap (λ z. length (vector w z)) (noted_push h e) ∙ sized_push w (noted h) e mid.long;
        lasts = (let a = mid.lasts in let b = lasts in omega (arith, a, b));
        grown = λ t b. still_begun t (mid.grown t b);
        up = λ t at due. ap (λ n. nat_lt 0 n) same ∙ elim (again_was w h e t due) [
          | inl old ↦ mid.up t at old
          | inr restart ↦ raised t at restart (subst (Placeable w p) restart.is goes)
        ];
        good = λ within told. inner_on within (adds told) (mid.good (λ t b. within t (still_begun t b)) (record { up = told.up; told = sym same ∙ told.told }));
      }
        where
          raised : (t : Txn) → is_site (site (k + 1)) (home w t) ≡ true → (r : Restarts w e t) → Placeable w (noted h) (Abort r.before r.cause r.act) → is_up w (noted h) (site (k + 1)) ≡ true
          raised t at r g = subst (λ z. is_up w (noted h) z ≡ true) (sym (next_home w h r.before t r.cause r.act placed g r.may r.same) ∙ same_site here (home w t) at) (home_up w h r.before t r.cause r.act placed g r.may r.same)

      -- an entry that neither begins nor ends a transaction
      quiet_adds : ((t : Txn) → is_begin_of t e ≡ false) → ((t : Txn) → is_end_of t e ≡ false) → ((t : Txn) → Restarts w e t → ⊥) → Adds
      quiet_adds nobegin noend none = record {
        begins = λ within t at b. absurd (true≢false (sym b ∙ nobegin t));
        ends_now = λ t at o. absurd (true≢false (sym o ∙ noend t));
        due_now = λ i t of r. absurd (none t r);
      }

      mild : is_still e ≡ true → ((t : Txn) → is_begin_of t e ≡ false) → ((t : Txn) → is_end_of t e ≡ false) → ((t : Txn) → Restarts w e t → ⊥) → Mid (noted (h ++ e ∷ [])) (notes ++ sent w from letter first k clock (noted (h ++ e ∷ [])) ask e)
      mild is nobegin noend none = same_on (session_still w h e here is) (last_still w h e here is) (λ told. quiet_adds nobegin noend none)

    -- a Begin
    begin_keeps : (h : List Entry) (t : Txn) (r : Site) (ask : ℕ) → Placed w h → Placeable w (noted h) (Begin t r) → (notes : List Letter) → Mid (noted h) notes → Mid (noted (h ++ Begin t r ∷ [])) (notes ++ sent w from letter first k clock (noted (h ++ Begin t r ∷ [])) ask (Begin t r))
    begin_keeps h t r ask placed goes notes mid = same_on h (Begin t r) ask placed goes notes mid (session_still w h (Begin t r) here refl) (last_still w h (Begin t r) here refl) (λ told. record {
      begins = λ within u at b. begins within u at b;
      ends_now = λ u at o. absurd (true≢false (sym o));
      due_now = λ i u of x. absurd (unlike x.before x.cause x.act x.is);
    })
      where
        unlike : (u : Txn) (cause : Cause) (act : Act) → Begin t r ≡ Abort u cause act → ⊥
        unlike u cause act e = cc e

        begins : ((u : Txn) → has_begun (noted (h ++ Begin t r ∷ [])) u ≡ true → has_begun last u ≡ true) → (u : Txn) → is_site (site (k + 1)) (home w u) ≡ true → is_txn u t ≡ true → runs_here s u ≡ true
        begins within u at b = elim (ready.began u at (within u now)) [
          | inl old ↦ absurd (true≢false (sym (subst (λ z. has_begun (noted h) z ≡ true) (sym (same_txn t u b)) (mid.grown u old)) ∙ (may_parts w (noted h) t (begin_may w (noted h) t r goes).1).1))
          | inr runs ↦ runs
        ]
          where
            now : has_begun (noted (h ++ Begin t r ∷ [])) u ≡ true
            now = begun_is h (Begin t r) ask placed goes notes mid u ∙ or_right (has_begun (noted h) u) (is_txn u t) b

    -- an end
    commit_keeps : (h : List Entry) (t : Txn) (request : Request) (applied : List Site) (ask : ℕ) → Placed w h → Placeable w (noted h) (Commit t request applied) → (notes : List Letter) → Mid (noted h) notes →
        Mid (noted (h ++ Commit t request applied ∷ [])) (notes ++ sent w from letter first k clock (noted (h ++ Commit t request applied ∷ [])) ask (Commit t request applied))
    commit_keeps h t request applied ask placed goes notes mid = same_on h (Commit t request applied) ask placed goes notes mid (session_still w h (Commit t request applied) here refl) (last_still w h (Commit t request applied) here refl) (λ told. record {
      begins = λ within u at b. absurd (true≢false (sym b));
      ends_now = λ u at o. subst (λ z. is_coming (ends z) s.session (sent w from letter first k clock (noted (h ++ Commit t request applied ∷ [])) ask (Commit t request applied)) ≡ true) (same_txn t u (one (is_txn u t) o))
          (commit_coming w (noted (h ++ Commit t request applied ∷ [])) k clock s.session ready.low ready.some told.told t applied (subst (λ z. is_site (site (k + 1)) (home w z) ≡ true) (sym (same_txn t u (one (is_txn u t) o))) at));
      due_now = λ i u of x. absurd (unlike x.before x.cause x.act x.is);
    })
      where
        unlike : (u : Txn) (cause : Cause) (act : Act) → Commit t request applied ≡ Abort u cause act → ⊥
        unlike u cause act e = cc e

        one : (b : Bool) → (b || false) ≡ true → b ≡ true
        one true q = refl
        one false q = q

    abort_keeps : (h : List Entry) (t : Txn) (cause : Cause) (act : Act) (ask : ℕ) → Placed w h → Placeable w (noted h) (Abort t cause act) → (notes : List Letter) → Mid (noted h) notes →
        Mid (noted (h ++ Abort t cause act ∷ [])) (notes ++ sent w from letter first k clock (noted (h ++ Abort t cause act ∷ [])) ask (Abort t cause act))
    abort_keeps h t cause act ask placed goes notes mid = same_on h (Abort t cause act) ask placed goes notes mid (session_still w h (Abort t cause act) here refl) (last_still w h (Abort t cause act) here refl) (λ told. record {
      begins = λ within u at b. absurd (true≢false (sym b));
      ends_now = λ u at o. subst (λ z. is_coming (ends z) s.session (sent w from letter first k clock (noted (h ++ Abort t cause act ∷ [])) ask (Abort t cause act)) ≡ true) (same_txn t u o)
          (abort_coming w (noted (h ++ Abort t cause act ∷ [])) k clock s.session ready.low ready.some told.told (ends t) t cause act ask (same_self t.0));
      due_now = λ i u of x. due told i u of x;
    })
      where
        its : (u : Txn) (c : Cause) (a : Act) → Abort t cause act ≡ Abort u c a → (t ≡ u) × (cause ≡ c)
        its u c a e = (cc e, cc e)

        due : IsTold w (noted (h ++ Abort t cause act ∷ [])) k s → Inner (noted h) notes → (u : Txn) → IsOf w (site (k + 1)) u → Restarts w (Abort t cause act) u →
            (is_coming (retries (previous w u)) s.session (sent w from letter first k clock (noted (h ++ Abort t cause act ∷ [])) ask (Abort t cause act)) && runs_here s (previous w u)) ≡ true
        due told i u of x = subst (λ z. (is_coming (retries z) s.session (sent w from letter first k clock (noted (h ++ Abort t cause act ∷ [])) ask (Abort t cause act)) && runs_here s z) ≡ true) same
            (and_from (is_coming (retries t) s.session (sent w from letter first k clock (noted (h ++ Abort t cause act ∷ [])) ask (Abort t cause act))) (runs_here s t)
            (abort_coming w (noted (h ++ Abort t cause act ∷ [])) k clock s.session ready.low ready.some told.told (retries t) t cause act ask
            (and_from (is_restartable cause && nat_lt (attempt w t) w.restarts) (is_txn t t) (and_from (is_restartable cause) (nat_lt (attempt w t) w.restarts) may (next_more w h t u cause act placed goes may same of.0)) (same_self t.0)))
            (i.runs t (before_runs w h t u cause act placed goes may same) (ap (is_site here) (sym (next_home w h t u cause act placed goes may same)) ∙ of.1)))
          where
            same : t ≡ previous w u
            same = (its x.before x.cause x.act x.is).0 ∙ x.same

            may : is_restartable cause ≡ true
            may = ap is_restartable (its x.before x.cause x.act x.is).1 ∙ x.may

    -- a site goes down, or comes up
    down_keeps : (h : List Entry) (r : Site) (ask : ℕ) → Placed w h → Placeable w (noted h) (Down r) → knows_site w r ≡ true → (notes : List Letter) → Mid (noted h) notes → Mid (noted (h ++ Down r ∷ [])) (notes ++ sent w from letter first k clock (noted (h ++ Down r ∷ [])) ask (Down r))
    down_keeps h r ask placed goes known notes mid = go (is_site here r) refl
      where
        unlike : (u : Txn) (cause : Cause) (act : Act) → Down r ≡ Abort u cause act → ⊥
        unlike u cause act e = cc e

        session_is : session (vector w (noted (h ++ Down r ∷ []))) (site (k + 1)) ≡ (if is_site (site (k + 1)) r then 0 else session (vector w (noted h)) (site (k + 1)))
        session_is = ap (λ v. session v (site (k + 1))) (ap (vector w) (noted_push h (Down r)) ∙ vector_push w.sites (noted h) (next (noted h) (Down r))) ∙ session_set w (vector w (noted h)) r (site (k + 1)) 0 mid.long known known_here

        go : (c : Bool) → is_site (site (k + 1)) r ≡ c → Mid (noted (h ++ Down r ∷ [])) (notes ++ sent w from letter first k clock (noted (h ++ Down r ∷ [])) ask (Down r))
        go false c = same_on h (Down r) ask placed goes notes mid (session_is ∙ ap (λ b. if b then 0 else session (vector w (noted h)) (site (k + 1))) c) (last_down w h r here) (λ told. quiet_adds h (Down r) ask placed goes notes mid (λ t. refl) (λ t. refl) (λ t x. unlike x.before x.cause x.act x.is))
        go true c = record {
          long = ap (λ z. length (vector w z)) (noted_push h (Down r)) ∙ sized_push w (noted h) (Down r) mid.long;
          lasts = (let a = mid.lasts in let b = last_down w h r here in omega (arith, a, b));
          grown = λ t b. still_begun h (Down r) ask placed goes notes mid t (mid.grown t b);
          up = λ t at due. absurd (down_none w h r t placed (subst (λ z. is_site z r ≡ true) (sym (same_site here (home w t) at)) c) due);
          good = λ within told. absurd (let a = session_is ∙ ap (λ b. if b then 0 else session (vector w (noted h)) (site (k + 1))) c in let b = told.told in let z = ready.some in omega (arith, a, b, z));
        }

    free_up : (p : List Noted) (r : Site) (n : ℕ) → Placeable w p (Up r n) → forced w p ≡ None
    free_up p r n goes = go (forced w p) refl goes
      where
        go : (o : Option Entry) → forced w p ≡ o → Goes w p (Up r n) o → o ≡ None
        go None f g = refl
        go (Some must) f g = absurd (forced_compels w p (Up r n) (f ∙ ap Some (sym g)))

    up_keeps : (h : List Entry) (r : Site) (n ask : ℕ) → Placed w h → Placeable w (noted h) (Up r n) → knows_site w r ≡ true → last_session (noted h) r < n → (notes : List Letter) → Mid (noted h) notes →
        Mid (noted (h ++ Up r n ∷ [])) (notes ++ sent w from letter first k clock (noted (h ++ Up r n ∷ [])) ask (Up r n))
    up_keeps h r n ask placed goes known more notes mid = go (is_site here r) refl
      where
        q : List Noted
        q = noted (h ++ Up r n ∷ [])

        unlike : (u : Txn) (cause : Cause) (act : Act) → Up r n ≡ Abort u cause act → ⊥
        unlike u cause act e = cc e

        session_is : session (vector w (noted (h ++ Up r n ∷ []))) (site (k + 1)) ≡ (if is_site (site (k + 1)) r then n else session (vector w (noted h)) (site (k + 1)))
        session_is = ap (λ v. session v (site (k + 1))) (ap (vector w) (noted_push h (Up r n)) ∙ vector_push w.sites (noted h) (next (noted h) (Up r n))) ∙ session_set w (vector w (noted h)) r (site (k + 1)) n mid.long known known_here

        lasts_is : last_session (noted (h ++ Up r n ∷ [])) (site (k + 1)) ≡ (if is_site (site (k + 1)) r then n else last_session (noted h) (site (k + 1)))
        lasts_is = last_up w h r n here

        go : (c : Bool) → is_site (site (k + 1)) r ≡ c → Mid (noted (h ++ Up r n ∷ [])) (notes ++ sent w from letter first k clock (noted (h ++ Up r n ∷ [])) ask (Up r n))
        go false c = same_on h (Up r n) ask placed goes notes mid (session_is ∙ ap (λ b. if b then n else session (vector w (noted h)) (site (k + 1))) c) (lasts_is ∙ ap (λ b. if b then n else last_session (noted h) (site (k + 1))) c)
            (λ told. quiet_adds h (Up r n) ask placed goes notes mid (λ t. refl) (λ t. refl) (λ t x. unlike x.before x.cause x.act x.is))
        go true c = record {
          long = ap (λ z. length (vector w z)) (noted_push h (Up r n)) ∙ sized_push w (noted h) (Up r n) mid.long;
          lasts = (let a = mid.lasts in let b = lasts_is ∙ ap (λ b. if b then n else last_session (noted h) (site (k + 1))) c in let m = was_less in omega (arith, a, b, m));
          grown = λ t b. still_begun h (Up r n) ask placed goes notes mid t (mid.grown t b);
          up = λ t at due. absurd (none_due t at due);
          good = λ within told. record {
            runs = λ t x at. absurd (true≢false (sym (subst (λ z. is_up w (noted h) z ≡ true) (same_site here (home w t) at) (histories.home_up w h placed (free_up (noted h) r n goes) t (histories.run_push w h (Up r n) t refl x))) ∙ down));
            over = λ t x o. absurd (true≢false (sym x ∙ ap (list_any (λ (z : Running). is_txn t z.txn)) (ready.early (let a = mid.lasts in let b = was_less in let d = told.told in let f = session_is ∙ ap (λ b. if b then n else session (vector w (noted h)) (site (k + 1))) c in omega (arith, a, b, d, f)))));
            next = λ t of due f. absurd (none_due t of.1 due);
          };
        }
          where
            r_is : r ≡ site (k + 1)
            r_is = same_site here r c

            was_less : last_session (noted h) (site (k + 1)) < n
            was_less = subst (λ z. last_session (noted h) z < n) r_is more

            down : is_up w (noted h) (site (k + 1)) ≡ false
            down = subst (λ z. is_up w (noted h) z ≡ false) r_is (up_was_down w (noted h) r n goes)

            none_due : (t : Txn) → is_site (site (k + 1)) (home w t) ≡ true → again w (noted (h ++ Up r n ∷ [])) t ≡ true → ⊥
            none_due t at due = elim (again_was w h (Up r n) t due) [
              | inl old ↦ true≢false (sym (mid.up t at old) ∙ down)
              | inr x ↦ unlike x.before x.cause x.act x.is
            ]

    pub entries_come : EntriesKeep w from letter first k clock Mid
    entries_come h (Begin t r) ask placed goes why notes mid = begin_keeps h t r ask placed goes notes mid
    entries_come h (Commit t request applied) ask placed goes why notes mid = commit_keeps h t request applied ask placed goes notes mid
    entries_come h (Abort t cause act) ask placed goes why notes mid = abort_keeps h t cause act ask placed goes notes mid
    entries_come h (Down r) ask placed goes why notes mid = down_keeps h r ask placed goes why notes mid
    entries_come h (Up r n) ask placed goes why notes mid = up_keeps h r n ask placed goes why.0 why.1 notes mid
    entries_come h other ask placed goes why notes mid = mild h other ask placed goes notes mid refl (λ t. refl) (λ t. refl) (λ t x. unlike x.before x.cause x.act x.is)
      where
        unlike : (u : Txn) (cause : Cause) (act : Act) → other ≡ Abort u cause act → ⊥
        unlike u cause act e = cc e

    pub copies_come : CopiesKeep w from letter first k clock Mid
    copies_come p due notes mid = record {
      long = mid.long;
      lasts = mid.lasts;
      grown = mid.grown;
      up = mid.up;
      good = λ within told. (let i = mid.good within told in record {
        runs = i.runs;
        over = λ t r o. coming_on (ends t) s.session notes more (i.over t r o);
        next = λ t of due f. elim (or_parts (is_coming (retries (previous w t)) s.session notes && runs_here s (previous w t)) (has_txn (begins_of s.session asks) t) (i.next t of due f)) [
          | inl drop ↦ (let both = and_parts (is_coming (retries (previous w t)) s.session notes) (runs_here s (previous w t)) drop in
              or_left (is_coming (retries (previous w t)) s.session (notes ++ more) && runs_here s (previous w t)) (has_txn (begins_of s.session asks) t)
              (and_from (is_coming (retries (previous w t)) s.session (notes ++ more)) (runs_here s (previous w t)) (coming_on (retries (previous w t)) s.session notes more both.0) both.1))
          | inr way ↦ or_right (is_coming (retries (previous w t)) s.session (notes ++ more) && runs_here s (previous w t)) (has_txn (begins_of s.session asks) t) way
        ];
      });
    }
      where
        more : List Letter
        more = copied w from letter first k clock p due
