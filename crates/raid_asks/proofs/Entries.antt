-- What one more entry of the history does to a site: what holds of its programs, of its Begins on the way, and of what it is told.
use Rattle.std.proofs.Common.{◌≡◌, ◌⊎◌, inl, inr, ℕ, ◌+◌, ◌<◌, ◌≤◌, ◌==◌, nat_lt, Bool, true, false, not, ◌&&◌, ◌||◌, List, [], ◌∷◌, ◌++◌, length, arith, sym, subst, ap, ◌∙◌, refl}
use Rattle.std.specs.List.{AllByRecursion, list_any}
use Rattle.std.proofs.lemmas.Bool.{and_parts, and_from, eqb-true, true≢false}
use Rattle.std.proofs.lemmas.Grind.{common_steps}
use Rattle.std.proofs.lemmas.List.Folds.{list_any-append}
use Rattle.raid_base.specs.declared.names.Txn.{Txn}
use Rattle.raid_base.specs.declared.names.Site.{Site}
use Rattle.raid_base.specs.declared.entry.Act.{Act}
use Rattle.raid_base.specs.declared.entry.Cause.{Cause}
use Rattle.raid_base.specs.declared.entry.Entry.{Entry}
use Rattle.raid_base.specs.declared.entry.Entry.TheVariants.{Begin, Abort}
use Rattle.raid_base.specs.declared.entry.Noted.{Noted}
use Rattle.raid_base.specs.Names.{is_txn, is_site, has_txn}
use Rattle.raid_base.specs.Sites.{site}
use Rattle.raid_workload.specs.declared.workload.Workload.{Workload}
use Rattle.raid_workload.specs.Parts.{txns, home}
use Rattle.raid_rules.specs.Entries.{is_begin_of, is_abort_of, is_end_of, is_down}
use Rattle.raid_rules.specs.History.{noted, add, next, has_begun, has_aborted, has_ended, is_running}
use Rattle.raid_rules.proofs.Push.{noted_push, has_begun_push, same_txn}
use Rattle.raid_legal.specs.Seen.{attempt, again, previous, vector, is_up, is_restart, is_restartable, has_down_after}
use Rattle.raid_message.specs.declared.letter.Message.TheVariants as letters
use Rattle.raid_message.specs.declared.letter.Letter.{Letter}
use Rattle.raid_steps.specs.Programs.{next_attempt}
use Rattle.raid_steps.specs.Sequencer as seq
use Rattle.raid_placed.specs.Placed.{Placed, Placeable}
use Rattle.raid_placed.proofs.Orderly.{placed_known, placeable_follows}
use Rattle.raid_sessions.proofs.Mail.{letters_to}
use Rattle.raid_asks.proofs.Facts.{Order, placed_order, any_weaken, or_left, or_right, again_aborted, begin_may, may_parts}
use Rattle.raid_asks.proofs.Least.{attempt_next, home_next, previous_next}
use Rattle.raid_asks.proofs.Line.{Due, Line, Promise}
use Rattle.raid_asks.proofs.Notes.{New, drop_new, sent_once}
use Rattle.raid_asks.proofs.Steps.{Why}

no_more : (b : Bool) → (b || false) ≡ b
no_more true = refl
no_more false = refl

untrue : (b : Bool) → not b ≡ true → b ≡ false
untrue true q = absurd (true≢false (sym q))
untrue false q = refl

abort_ends : (t : Txn) (e : Entry) → is_abort_of t e ≡ true → is_end_of t e ≡ true
abort_ends t (Abort u cause act) q = grind (arith, common_steps, q)
abort_ends t other q = absurd (true≢false (sym q))

-- a transaction that runs wasn't aborted
pub running_unaborted : (p : List Noted) (t : Txn) → is_running p t ≡ true → has_aborted p t ≡ false
running_unaborted p t q = go (has_aborted p t) refl
  where
    go : (b : Bool) → has_aborted p t ≡ b → b ≡ false
    go true h = absurd (true≢false (sym (any_weaken (λ n. is_abort_of t n.entry) (λ n. is_end_of t n.entry) (λ n a. abort_ends t n.entry a) p h) ∙ untrue (has_ended p t) (and_parts (has_begun p t) (not (has_ended p t)) q).1))
    go false h = refl

-- a Begin that is on its way is due
line_member : (w : Workload) (s : Site) (p : List Noted) (bs : List Txn) (u : Txn) → Line w s p bs → has_txn bs u ≡ true → Due w s p u
line_member w s p [] u l q = absurd (true≢false (sym q))
line_member w s p (b ∷ bs) u l q = go (b.0 == u.0) refl q (λ q. line_member w s p bs u l.1.1 q)
  where
    go : (c : Bool) → (b.0 == u.0) ≡ c → (c || has_txn bs u) ≡ true → (has_txn bs u ≡ true → Due w s p u) → Due w s p u
    go true e q rest = subst (Due w s p) (same_txn b u e) l.0
    go false e q rest = rest q

module _ (w : Workload) (k m from : ℕ) (letter : Letter) (first : List Noted) where
  abbrev pub here : Site
  here = site (k + 1)

  -- the letter that was heard is no Begin of the site's, or one that is in the history by now
  abbrev pub IsQuiet : List Noted → Type 0
  IsQuiet p = (u : Txn) → letter.message ≡ letters.Begin u → (is_site here (home w u) ≡ false) ⊎ (has_begun p u ≡ true)

  module _ (h : List Entry) (e : Entry) (placed : Placed w h) (goes : Placeable w (noted h) e) where
    abbrev p : List Noted
    p = noted h

    abbrev q : List Noted
    q = noted (h ++ e ∷ [])

    pub begun_is : (u : Txn) → has_begun q u ≡ (has_begun p u || is_begin_of u e)
    begun_is u = ap (λ p. has_begun p u) (noted_push h e) ∙ has_begun_push p (next p e) u

    pub quiet_on : IsQuiet p → IsQuiet q
    quiet_on quiet u r = elim (quiet u r) [
      | inl other ↦ inl other
      | inr begun ↦ inr (begun_is u ∙ or_left (has_begun p u) (is_begin_of u e) begun)
    ]

    pub begun_same : (ask : ℕ) → Why w from letter first p ask e → IsQuiet p → (u : Txn) → is_site here (home w u) ≡ true → has_begun q u ≡ has_begun p u
    begun_same ask why quiet u at = begun_is u ∙ ap (λ b. has_begun p u || b) (go e goes why) ∙ no_more (has_begun p u)
      where
        go : (e : Entry) → Placeable w p e → Why w from letter first p ask e → is_begin_of u e ≡ false
        go (Begin t s) goes why = step (t.0 == u.0) refl
          where
            step : (b : Bool) → (t.0 == u.0) ≡ b → b ≡ false
            step true e = elim (quiet t why) [
              | inl other ↦ absurd (true≢false (sym at ∙ ap (λ t. is_site here (home w t)) (sym (same_txn t u e)) ∙ other))
              | inr begun ↦ absurd (true≢false (sym begun ∙ (may_parts w p t (begin_may w p t s goes).1).1))
            ]
            step false e = refl
        go other goes why = refl

    -- attempts that are due still are, unless their home goes down
    pub again_on : (u : Txn) → is_down (is_site (home w u)) e ≡ false → again w p u ≡ true → again w q u ≡ true
    again_on u up due = subst (λ p. again w p u ≡ true) (sym (noted_push h e)) (and_from (nat_lt 0 (attempt w u)) (list_any (test (add p e)) (add p e)) parts.0
        (list_any-append (test (add p e)) p (next p e ∷ []) ∙ or_left (list_any (test (add p e)) p) (list_any (test (add p e)) (next p e ∷ [])) (any_weaken (test p) (test (add p e)) same p parts.1)))
      where
        test : List Noted → Noted → Bool
        test p n = is_restart (previous w u) n.entry && not (has_down_after p n.at (home w u))

        parts : (nat_lt 0 (attempt w u) ≡ true) × (list_any (test p) p ≡ true)
        parts = and_parts (nat_lt 0 (attempt w u)) (list_any (test p) p) due

        no_down : (n : Noted) → has_down_after (add p e) n.at (home w u) ≡ has_down_after p n.at (home w u)
        no_down n = list_any-append (λ x. nat_lt n.at x.at && is_down (is_site (home w u)) x.entry) p (next p e ∷ []) ∙ ap (λ b. has_down_after p n.at (home w u) || ((nat_lt n.at (length p + 1) && b) || false)) up ∙ none (nat_lt n.at (length p + 1)) (has_down_after p n.at (home w u))
          where
            none : (a b : Bool) → (b || ((a && false) || false)) ≡ b
            none true b = no_more b
            none false b = no_more b

        same : (n : Noted) → test p n ≡ true → test (add p e) n ≡ true
        same n r = ap (λ b. is_restart (previous w u) n.entry && not b) (no_down n) ∙ r

    pub again_same : is_down (is_site here) e ≡ false → (u : Txn) → is_site here (home w u) ≡ true → again w p u ≡ true → again w q u ≡ true
    again_same up u at due = again_on u (subst (λ s. is_down (is_site s) e ≡ false) (same_site here (home w u) at) up) due
      where
        same_site : (s r : Site) → is_site s r ≡ true → s ≡ r
        same_site s r e = ap (λ n. let x : Site = record { 0 = n } in x) (sym (eqb-true r.0 s.0 e))

  -- an Abort
  module _ (h : List Entry) (t : Txn) (cause : Cause) (act : Act) (placed : Placed w h) (goes : Placeable w (noted h) (Abort t cause act)) (quiet : IsQuiet (noted h)) (bs : List Txn) (line : Line w here (noted h) bs) where
    abbrev e : Entry
    e = Abort t cause act

    runs : is_running (noted h) t ≡ true
    runs = placeable_follows w (noted h) e goes

    order : Order w (noted h)
    order = placed_order w h placed

    unaborted : has_aborted (noted h) t ≡ false
    unaborted = running_unaborted (noted h) t runs

    known : has_txn (txns w) t ≡ true
    known = placed_known w h placed t (and_parts (has_begun (noted h) t) (not (has_ended (noted h) t)) runs).0

    not_yet : again w (noted h) (next_attempt w t) ≡ true → ⊥
    not_yet due = true≢false (sym (again_aborted w (noted h) (next_attempt w t) due) ∙ ap (has_aborted (noted h)) (previous_next w t) ∙ unaborted)

    later : (attempt w (next_attempt w t) == 0) ≡ false
    later = ap (λ n. n == 0) (attempt_next w t known) ∙ positive (attempt w t)
      where
        positive : (n : ℕ) → (n + 1 == 0) ≡ false
        positive n = grind arith

    unbegun : has_begun (noted h) (next_attempt w t) ≡ false
    unbegun = go (has_begun (noted h) (next_attempt w t)) refl
      where
        go : (b : Bool) → has_begun (noted h) (next_attempt w t) ≡ b → b ≡ false
        go true r = elim (order.restarted (next_attempt w t) r) [
          | inl zero ↦ absurd (true≢false (sym zero ∙ later))
          | inr due ↦ absurd (true≢false (sym due ∙ ap (has_aborted (noted h)) (previous_next w t) ∙ unaborted))
        ]
        go false r = refl

    free : has_txn bs (next_attempt w t) ≡ false
    free = go (has_txn bs (next_attempt w t)) refl
      where
        go : (b : Bool) → has_txn bs (next_attempt w t) ≡ b → b ≡ false
        go true r = elim (line_member w here (noted h) bs (next_attempt w t) line r).turn [
          | inl zero ↦ absurd (true≢false (sym zero ∙ later))
          | inr due ↦ absurd (not_yet due)
        ]
        go false r = refl

    now_due : is_restartable cause ≡ true → again w (noted (h ++ e ∷ [])) (next_attempt w t) ≡ true
    now_due may = subst (λ p. again w p (next_attempt w t) ≡ true) (sym (noted_push h e)) (and_from (nat_lt 0 (attempt w (next_attempt w t))) (list_any test (add (noted h) e)) (some (attempt w (next_attempt w t)) later)
        (list_any-append test (noted h) (next (noted h) e ∷ []) ∙ or_right (list_any test (noted h)) (list_any test (next (noted h) e ∷ [])) (or_left (test (next (noted h) e)) false (and_from (is_restart (previous w (next_attempt w t)) e) (not (has_down_after (add (noted h) e) (length (noted h) + 1) (home w (next_attempt w t)))) restarts (ap not undowned)))))
      where
        test : Noted → Bool
        test n = is_restart (previous w (next_attempt w t)) n.entry && not (has_down_after (add (noted h) e) n.at (home w (next_attempt w t)))

        some : (n : ℕ) → (n == 0) ≡ false → nat_lt 0 n ≡ true
        some n q = grind (arith, q)

        self : (n : ℕ) → (n == n) ≡ true
        self n = grind arith

        restarts : is_restart (previous w (next_attempt w t)) e ≡ true
        restarts = ap (λ x. is_restart x e) (previous_next w t) ∙ and_from (is_txn t t) (is_restartable cause) (self t.0) may

        none_after : (n : ℕ) (s : Site) (p : List Noted) → AllByRecursion (λ (x : Noted). x.at ≤ n) p → list_any (λ x. nat_lt (n + 1) x.at && is_down (is_site s) x.entry) p ≡ false
        none_after n s [] a = refl
        none_after n s (x ∷ p) a = ap (λ b. (b && is_down (is_site s) x.entry) || list_any (λ x. nat_lt (n + 1) x.at && is_down (is_site s) x.entry) p) (not_over n x.at a.0) ∙ none_after n s p a.1
          where
            not_over : (n at : ℕ) → at ≤ n → nat_lt (n + 1) at ≡ false
            not_over n at le = grind (arith, le)

        undowned : has_down_after (add (noted h) e) (length (noted h) + 1) (home w (next_attempt w t)) ≡ false
        undowned = list_any-append (λ x. nat_lt (length (noted h) + 1) x.at && is_down (is_site (home w (next_attempt w t))) x.entry) (noted h) (next (noted h) e ∷ []) ∙ ap (λ b. b || ((nat_lt (length (noted h) + 1) (length (noted h) + 1) && false) || false)) (none_after (length (noted h)) (home w (next_attempt w t)) (noted h) order.numbered) ∙ nothing (nat_lt (length (noted h) + 1) (length (noted h) + 1))
          where
            nothing : (b : Bool) → (false || ((b && false) || false)) ≡ false
            nothing true = refl
            nothing false = refl

    pub abort_new : (ask clock : ℕ) → Why w from letter first (noted h) ask e → New w here m (noted h) (noted (h ++ e ∷ [])) bs (letters_to (k + 2) 0 clock (seq.sends w (noted (h ++ e ∷ [])) ask e))
    abort_new ask clock why =
        drop_new w here m (noted h) (noted (h ++ e ∷ [])) bs t (is_restartable cause && nat_lt (attempt w t) w.restarts) (letters_to (k + 2) 0 clock (seq.sends w (noted (h ++ e ∷ [])) ask e))
        (sent_once k clock (vector w (noted (h ++ e ∷ []))) (seq.drop_of w t cause) (is_up w (noted (h ++ e ∷ []))) 1 w.sites)
        (λ flag at. (let parts = and_parts (is_restartable cause) (nat_lt (attempt w t) w.restarts) flag in let mine : is_site here (home w (next_attempt w t)) ≡ true = ap (is_site here) (home_next w t known) ∙ at in record {
          more = less (attempt w t) w.restarts parts.1;
          due = now_due parts.0;
          fresh = begun_same h e placed goes ask why quiet (next_attempt w t) mine ∙ unbegun;
          free = free;
          at = mine;
        }))
        (λ u promise. apart u promise (t.0 == u.0) refl)
      where
        less : (a b : ℕ) → nat_lt a b ≡ true → a < b
        less a b q = grind (arith, q)

        apart : (u : Txn) → Promise w here (noted h) bs u → (b : Bool) → (t.0 == u.0) ≡ b → b ≡ false
        apart u promise true r = absurd (not_yet (subst (λ x. again w (noted h) (next_attempt w x) ≡ true) (sym (same_txn t u r)) promise.due))
        apart u promise false r = refl
