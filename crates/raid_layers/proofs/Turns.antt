-- What programs at a home are about in a turn, given what is on its way from before the step; and how it changes where one program is put.
use Rattle.std.proofs.Common.{◌≡◌, ◌⊎◌, inl, inr, ℕ, ◌==◌, Bool, true, false, not, ◌||◌, List, [], ◌∷◌, ◌++◌, filter, Some, None, if◌then◌else◌, arith, sym, subst, ap, ◌∙◌, refl, append-nil, append_assoc}
use Rattle.std.specs.List.{AllByRecursion}
use Rattle.std.proofs.lemmas.Bool.{eqb-true}
use Rattle.std.proofs.lemmas.List.Folds.{list_any-append}
use Rattle.raid_base.specs.declared.names.Txn.{Txn}
use Rattle.raid_base.specs.declared.names.Site.{Site}
use Rattle.raid_base.specs.declared.entry.Noted.{Noted}
use Rattle.raid_base.specs.Names.{is_txn, has_txn}
use Rattle.raid_workload.specs.declared.workload.Workload.{Workload}
use Rattle.raid_rules.specs.History.{has_begun, has_ended}
use Rattle.raid_rules.proofs.Push.{same_txn}
use Rattle.raid_message.specs.declared.letter.Message.{Message}
use Rattle.raid_message.specs.declared.letter.Letter.{Letter}
use Rattle.raid_steps.specs.State.{Out, Turn, Running, SiteState}
use Rattle.raid_steps.specs.Programs.{put_running, running_of}
use Rattle.raid_sessions.proofs.Mail.{letter_of, letters_to}
use Rattle.raid_moves.proofs.Places.{program_of, put_found, put_other}
use Rattle.raid_asks.proofs.Facts.{or_left}
use Rattle.raid_asks.proofs.Line.{IsAfter, Line}
use Rattle.raid_asks.proofs.Programs.{told, told_append}
use Rattle.raid_layers.specs.Asks.{ask_of, asks_of, IsOneAsk, Talks}

-- what a site's messages ask the sequencer for a transaction
abbrev pub asked_by : Txn → List Out → List Message
asked_by t [] = []
asked_by t (out ∷ outs) = if out.0 == 1 then ask_of t out.2 ++ asked_by t outs else asked_by t outs

pub asked_append : (t : Txn) (xs ys : List Out) → asked_by t (xs ++ ys) ≡ asked_by t xs ++ asked_by t ys
asked_append t [] ys = refl
asked_append t (x ∷ xs) ys = go (x.0 == 1) (asked_append t xs ys)
  where
    go : (b : Bool) → asked_by t (xs ++ ys) ≡ asked_by t xs ++ asked_by t ys → (if b then ask_of t x.2 ++ asked_by t (xs ++ ys) else asked_by t (xs ++ ys)) ≡ (if b then ask_of t x.2 ++ asked_by t xs else asked_by t xs) ++ asked_by t ys
    go true q = ap (λ ms. ask_of t x.2 ++ ms) q ∙ sym (append_assoc (ask_of t x.2) (asked_by t xs) (asked_by t ys))
    go false q = q

pub asked_sent : (t : Txn) (m clock : ℕ) (outs : List Out) → asks_of t (letters_to 1 m clock outs) ≡ asked_by t outs
asked_sent t m clock [] = refl
asked_sent t m clock (out ∷ outs) = go (out.0 == 1) (asked_sent t m clock outs)
  where
    go : (b : Bool) → asks_of t (letters_to 1 m clock outs) ≡ asked_by t outs → asks_of t (if b then letter_of m clock out ∷ letters_to 1 m clock outs else letters_to 1 m clock outs) ≡ (if b then ask_of t out.2 ++ asked_by t outs else asked_by t outs)
    go true q = ap (λ ms. ask_of t out.2 ++ ms) q
    go false q = q

-- a transaction whose Begin is told is new until then
pub line_new : (w : Workload) (s : Site) (p : List Noted) (xs ys : List Txn) (t : Txn) → Line w s p (xs ++ t ∷ ys) → (has_begun p t ≡ false) × (has_txn xs t ≡ false)
line_new w s p [] ys t l = (l.0.fresh, refl)
line_new w s p (x ∷ xs) ys t l =
    let rest = line_new w s p xs ys t l.1.1 in
    (rest.0, ap (λ b. b || has_txn xs t) (after xs l.1.0) ∙ rest.1)
  where
    after : (xs : List Txn) → AllByRecursion (IsAfter w s p x) (xs ++ t ∷ ys) → (x.0 == t.0) ≡ false
    after [] a = a.0.0
    after (z ∷ xs) a = after xs a.1

-- a program that is filtered out isn't found, and others are as before
pub filtered_out : (t : Txn) (rs : List Running) → program_of t (filter (λ (r : Running). not (is_txn t r.txn)) rs) ≡ None
filtered_out t [] = refl
filtered_out t (r ∷ rs) = go (r.txn.0 == t.0) refl (filtered_out t rs)
  where
    go : (b : Bool) → (r.txn.0 == t.0) ≡ b → program_of t (filter (λ (r : Running). not (is_txn t r.txn)) rs) ≡ None → program_of t (if not b then r ∷ filter (λ (r : Running). not (is_txn t r.txn)) rs else filter (λ (r : Running). not (is_txn t r.txn)) rs) ≡ None
    go true e rest = rest
    go false e rest = ap (λ b. if b then Some r else program_of t (filter (λ (r : Running). not (is_txn t r.txn)) rs)) e ∙ rest

pub filtered_other : (t u : Txn) (rs : List Running) → (t.0 == u.0) ≡ false → program_of u (filter (λ (r : Running). not (is_txn t r.txn)) rs) ≡ program_of u rs
filtered_other t u [] d = refl
filtered_other t u (r ∷ rs) d = go (r.txn.0 == t.0) refl (filtered_other t u rs d)
  where
    apart : (a b c : ℕ) → (a == b) ≡ true → (b == c) ≡ false → (a == c) ≡ false
    apart a b c q r = grind (arith, q, r)

    go : (b : Bool) → (r.txn.0 == t.0) ≡ b → program_of u (filter (λ (r : Running). not (is_txn t r.txn)) rs) ≡ program_of u rs →
        program_of u (if not b then r ∷ filter (λ (r : Running). not (is_txn t r.txn)) rs else filter (λ (r : Running). not (is_txn t r.txn)) rs) ≡ program_of u (r ∷ rs)
    go true e rest = rest ∙ sym (ap (λ b. if b then Some r else program_of u rs) (apart r.txn.0 t.0 u.0 e d))
    go false e rest = ap (λ o. if r.txn.0 == u.0 then Some r else o) rest

module _ (p : List Noted) (links : List (List (List Letter))) (k m : ℕ) (asks : List Letter) (bs : List Txn) where
  -- what is asked for a transaction by now
  abbrev pub asked_now : Txn → List Out → List Message
  asked_now t outs = asks_of t asks ++ asked_by t outs

  abbrev pub IsKnown : Txn → List Out → Type 0
  IsKnown t outs = (has_begun p t ≡ true) ⊎ (has_txn (bs ++ told outs) t ≡ true)

  abbrev pub AskOne : Txn → List Out → Type 0
  AskOne t outs = (has_ended p t ≡ true) ⊎ IsOneAsk p t (asked_now t outs)

  pub record Now (turn : Turn SiteState) : Type 0 where
    pub one : (t : Txn) → AskOne t turn.outs
    pub talks : (t : Txn) → Talks p links k m t (asked_now t turn.outs) (running_of turn.state t)
    pub known : (t : Txn) (r : Running) → running_of turn.state t ≡ Some r → IsKnown t turn.outs

  pub asked_more : (t : Txn) (outs new : List Out) → asked_now t (outs ++ new) ≡ asked_now t outs ++ asked_by t new
  asked_more t outs new = ap (λ ms. asks_of t asks ++ ms) (asked_append t outs new) ∙ sym (append_assoc (asks_of t asks) (asked_by t outs) (asked_by t new))

  pub asked_same : (t : Txn) (outs new : List Out) → asked_by t new ≡ [] → asked_now t (outs ++ new) ≡ asked_now t outs
  asked_same t outs new none = asked_more t outs new ∙ ap (λ ms. asked_now t outs ++ ms) none ∙ append-nil (asked_now t outs)

  pub known_more : (t : Txn) (outs new : List Out) → IsKnown t outs → IsKnown t (outs ++ new)
  known_more t outs new (inl begun) = inl begun
  known_more t outs new (inr way) =
      inr (ap (λ ts. has_txn (bs ++ ts) t) (told_append outs new) ∙ ap (λ ts. has_txn ts t) (sym (append_assoc bs (told outs) (told new))) ∙ list_any-append (is_txn t) (bs ++ told outs) (told new) ∙ or_left (has_txn (bs ++ told outs) t) (has_txn (told new) t) way)

  -- more is sent, but nothing is asked
  pub now_sends : (turn after : Turn SiteState) (new : List Out) → after.state.running ≡ turn.state.running → after.outs ≡ turn.outs ++ new → ((t : Txn) → asked_by t new ≡ []) → Now turn → Now after
  now_sends turn after new same more none now = record {
    one = λ t. subst (λ outs. AskOne t outs) (sym more) (subst (λ ms. (has_ended p t ≡ true) ⊎ IsOneAsk p t ms) (sym (asked_same t turn.outs new (none t))) (now.one t));
    talks = λ t. subst (λ outs. Talks p links k m t (asked_now t outs) (running_of after.state t)) (sym more)
        (subst (λ ms. Talks p links k m t ms (running_of after.state t)) (sym (asked_same t turn.outs new (none t))) (subst (λ rs. Talks p links k m t (asked_now t turn.outs) (program_of t rs)) (sym same) (now.talks t)));
    known = λ t r f. subst (IsKnown t) (sym more) (known_more t turn.outs new (now.known t r (ap (program_of t) (sym same) ∙ f)));
  }

  -- a program is put, and what is asked is asked for it
  pub now_puts : (turn after : Turn SiteState) (now : Running) (new : List Out) → after.state.running ≡ put_running now turn.state.running → after.outs ≡ turn.outs ++ new →
      ((t : Txn) → (now.txn.0 == t.0) ≡ false → asked_by t new ≡ []) → AskOne now.txn (turn.outs ++ new) → Talks p links k m now.txn (asked_now now.txn (turn.outs ++ new)) (Some now) → IsKnown now.txn turn.outs → Now turn → Now after
  now_puts turn after now new put more none one talks known n = record {
    one = λ t. subst (AskOne t) (sym more) (ones t (now.txn.0 == t.0) refl);
    talks = λ t. subst (λ outs. Talks p links k m t (asked_now t outs) (running_of after.state t)) (sym more) (subst (λ rs. Talks p links k m t (asked_now t (turn.outs ++ new)) (program_of t rs)) (sym put) (all t (now.txn.0 == t.0) refl));
    known = λ t r f. subst (IsKnown t) (sym more) (known_more t turn.outs new (knows t r (ap (program_of t) (sym put) ∙ f) (now.txn.0 == t.0) refl));
  }
    where
      its : (t : Txn) → (now.txn.0 == t.0) ≡ true → now.txn ≡ t
      its t e = ap (λ n. let u : Txn = record { 0 = n } in u) (eqb-true now.txn.0 t.0 e)

      ones : (t : Txn) (b : Bool) → (now.txn.0 == t.0) ≡ b → AskOne t (turn.outs ++ new)
      ones t true e = subst (λ u. AskOne u (turn.outs ++ new)) (its t e) one
      ones t false e = subst (λ ms. (has_ended p t ≡ true) ⊎ IsOneAsk p t ms) (sym (asked_same t turn.outs new (none t e))) (n.one t)

      all : (t : Txn) (b : Bool) → (now.txn.0 == t.0) ≡ b → Talks p links k m t (asked_now t (turn.outs ++ new)) (program_of t (put_running now turn.state.running))
      all t true e = subst (λ u. Talks p links k m u (asked_now u (turn.outs ++ new)) (program_of u (put_running now turn.state.running))) (its t e) (subst (Talks p links k m now.txn (asked_now now.txn (turn.outs ++ new))) (sym (put_found now turn.state.running)) talks)
      all t false e =
          subst (λ ms. Talks p links k m t ms (program_of t (put_running now turn.state.running))) (sym (asked_same t turn.outs new (none t e)))
          (subst (Talks p links k m t (asked_now t turn.outs)) (sym (put_other t now turn.state.running e)) (n.talks t))

      knows : (t : Txn) (r : Running) → program_of t (put_running now turn.state.running) ≡ Some r → (b : Bool) → (now.txn.0 == t.0) ≡ b → IsKnown t turn.outs
      knows t r f true e = subst (λ u. IsKnown u turn.outs) (its t e) known
      knows t r f false e = n.known t r (sym (put_other t now turn.state.running e) ∙ f)

  -- a program whose transaction is over has ended
  pub now_ends : (turn after : Turn SiteState) (t : Txn) → after.state.running ≡ filter (λ (r : Running). not (is_txn t r.txn)) turn.state.running → after.outs ≡ turn.outs → has_ended p t ≡ true → Now turn → Now after
  now_ends turn after t less same over n = record {
    one = λ u. subst (AskOne u) (sym same) (n.one u);
    talks = λ u. subst (λ outs. Talks p links k m u (asked_now u outs) (running_of after.state u)) (sym same) (subst (λ rs. Talks p links k m u (asked_now u turn.outs) (program_of u rs)) (sym less) (all u (t.0 == u.0) refl));
    known = λ u r f. subst (IsKnown u) (sym same) (knows u r (ap (program_of u) (sym less) ∙ f) (t.0 == u.0) refl);
  }
    where
      left : List Running
      left = filter (λ (r : Running). not (is_txn t r.txn)) turn.state.running

      all : (u : Txn) (b : Bool) → (t.0 == u.0) ≡ b → Talks p links k m u (asked_now u turn.outs) (program_of u left)
      all u true e = subst (λ z. Talks p links k m z (asked_now z turn.outs) (program_of z left)) (same_txn t u e) (subst (Talks p links k m t (asked_now t turn.outs)) (sym (filtered_out t turn.state.running)) (inl over))
      all u false e = subst (Talks p links k m u (asked_now u turn.outs)) (sym (filtered_other t u turn.state.running e)) (n.talks u)

      knows : (u : Txn) (r : Running) → program_of u left ≡ Some r → (b : Bool) → (t.0 == u.0) ≡ b → IsKnown u turn.outs
      knows u r f true e = absurd (cc (sym (filtered_out t turn.state.running) ∙ subst (λ z. program_of z left ≡ Some r) (sym (same_txn t u e)) f))
      knows u r f false e = n.known u r (sym (filtered_other t u turn.state.running e) ∙ f)
