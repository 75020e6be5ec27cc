-- What the sequencer's later entries leave as it was, and what they tell.
use Rattle.std.proofs.Common.{◌≡◌, ◌⊎◌, inl, inr, ℕ, ◌+◌, ◌≤◌, ◌==◌, nat_lt, Bool, true, false, not, ◌&&◌, ◌||◌, List, [], ◌∷◌, ◌++◌, length, length-append, map, filter, if◌then◌else◌, arith, sym, subst, ap, ◌∙◌, refl, append-nil, append_assoc}
use Rattle.std.specs.Prelude.{⊤, flat_map}
use Rattle.std.specs.List.{AllByRecursion, list_any}
use Rattle.std.proofs.lemmas.Bool.{and_parts, and_from, true≢false}
use Rattle.raid_base.specs.declared.names.Txn.{Txn}
use Rattle.raid_base.specs.declared.names.Site.{Site}
use Rattle.raid_base.specs.declared.request.Request.{Request}
use Rattle.raid_base.specs.declared.entry.Entry.{Entry}
use Rattle.raid_base.specs.declared.entry.Entry.TheVariants.{Read, Wait, Commit, Abort, Down, Up}
use Rattle.raid_base.specs.declared.entry.Noted.{Noted}
use Rattle.raid_base.specs.Names.{is_txn, is_site, has_site}
use Rattle.raid_workload.specs.declared.workload.Workload.{Workload}
use Rattle.raid_workload.specs.Parts.{sites, home}
use Rattle.raid_rules.specs.Entries.{is_read, is_commit_of, is_end_of, is_down}
use Rattle.raid_rules.specs.History.{noted, add, next, has_begun, has_committed, has_ended, is_running}
use Rattle.raid_rules.proofs.Push.{noted_push, same_txn}
use Rattle.raid_legal.specs.Seen.{vector, is_up, has_down_after}
use Rattle.raid_message.specs.declared.letter.Message.{Message}
use Rattle.raid_message.specs.declared.letter.Message.TheVariants as letters
use Rattle.raid_message.specs.declared.letter.Letter.{Letter}
use Rattle.raid_steps.specs.State.{Out, Turn, Sequencer, to_site}
use Rattle.raid_steps.specs.Sequencer as rows
use Rattle.raid_steps.specs.Sequencer.{so_far, place}
use Rattle.raid_sessions.proofs.Lists.{all_append, all_weaken}
use Rattle.raid_asks.proofs.Steps.{IsOther, AreOther}
use Rattle.raid_layers.specs.Asks.{has_waited, is_wait_of, Claim, HoldsOf}
use Rattle.raid_layers.proofs.Histories.{Grows, IsQuiet, quiet_same, quiet_on, quiet_push, any_push, any_last, any_kept, wait_waited}
use Rattle.raid_layers.proofs.Opening.{IsAskedFor, IsLater, Chain, done, places, sends}
use Rattle.raid_layers.proofs.Tokens.{SentHolds}

-- no token; and a note that a site is down comes after it went down, and that was after the first of two histories
abbrev pub IsCalm : List Noted → List Noted → Message → Type 0
IsCalm p q (letters.ReadDo t ask x h n) = ⊥
IsCalm p q (letters.Serving t ask s) = ⊥
IsCalm p q (letters.DownNote s) = (at : ℕ) → at ≤ length p → has_down_after q at s ≡ true
IsCalm p q other = ⊤

abbrev pub AreCalm : List Noted → List Noted → List Out → Type 0
AreCalm p q outs = AllByRecursion (λ (out : Out). IsCalm p q out.2) outs

calm_from : (p r q : List Noted) → length p ≤ length r → (m : Message) → IsCalm r q m → IsCalm p q m
calm_from p r q long (letters.ReadDo t ask x h n) c = c
calm_from p r q long (letters.Serving t ask s) c = c
calm_from p r q long (letters.DownNote s) c = λ at low. c at (omega (arith, low, long))
calm_from p r q long other c = tt

calm_to : (p r q : List Noted) → Grows r q → (m : Message) → IsCalm p r m → IsCalm p q m
calm_to p r q grows (letters.ReadDo t ask x h n) c = c
calm_to p r q grows (letters.Serving t ask s) c = c
calm_to p r q grows (letters.DownNote s) c = λ at low. grows (λ n. nat_lt at n.at && is_down (is_site s) n.entry) (c at low)
calm_to p r q grows other c = tt

-- calm messages tell of no token
pub calm_holds : (t : Txn) (k m : ℕ) (P : Claim) (p q : List Noted) (outs : List Out) → AreCalm p q outs → SentHolds t k m P 1 outs
calm_holds t k m P p q [] a = tt
calm_holds t k m P p q (out ∷ outs) a = (go out.2 a.0, calm_holds t k m P p q outs a.1)
  where
    go : (message : Message) → IsCalm p q message → HoldsOf t k m P out.0 1 out.1 message
    go (letters.ReadDo u ask x h n) c = absurd c
    go (letters.Serving u ask s) c = absurd c
    go other c = tt

module _ (w : Workload) where
  -- what an entry sends that is no Read
  notes_calm : (p q : List Noted) (v : List ℕ) (m : Message) (ss : List Site) → IsCalm p q m → AreCalm p q (map (λ s. to_site v s m) ss)
  notes_calm p q v m [] c = tt
  notes_calm p q v m (s ∷ ss) c = (c, notes_calm p q v m ss c)

  commits_calm : (p q : List Noted) (t : Txn) (applied : List Site) (ss : List Site) → AreCalm p q (flat_map (rows.commit_sends w q t applied) ss)
  commits_calm p q t applied [] = tt
  commits_calm p q t applied (s ∷ ss) =
      all_append (λ (out : Out). IsCalm p q out.2) (rows.commit_sends w q t applied s) (flat_map (rows.commit_sends w q t applied) ss) (go (has_site applied s) (is_site s (home w t) && is_up w q s)) (commits_calm p q t applied ss)
    where
      go : (b c : Bool) → AreCalm p q ((if b then to_site (vector w q) s (letters.Apply t (length q)) ∷ [] else []) ++ (if c then to_site (vector w q) s (letters.Done t) ∷ [] else []))
      go true true = (tt, (tt, tt))
      go true false = (tt, tt)
      go false true = (tt, tt)
      go false false = tt

  module _ (from : ℕ) (letter : Letter) where
    sends_calm : (p : List Noted) (ask : ℕ) (e : Entry) → IsLater w from letter p e → AreCalm p (add p e) (rows.sends w (add p e) ask e)
    sends_calm p ask (Read t x s) y = absurd y
    sends_calm p ask (Commit t request applied) y = commits_calm p (add p (Commit t request applied)) t applied (sites w)
    sends_calm p ask (Abort t cause act) y = notes_calm p (add p (Abort t cause act)) (vector w (add p (Abort t cause act))) (rows.drop_of w t cause) (filter (is_up w (add p (Abort t cause act))) (sites w)) tt
    sends_calm p ask (Down s) y =
        notes_calm p (add p (Down s)) (vector w (add p (Down s))) (letters.DownNote s) (filter (is_up w (add p (Down s))) (sites w))
        (λ at low. any_last (λ n. nat_lt at n.at && is_down (is_site s) n.entry) p (next p (Down s)) (and_from (nat_lt at (length p + 1)) (is_site s s) (after at (length p) low) (self s.0)))
      where
        after : (a n : ℕ) → a ≤ n → nat_lt a (n + 1) ≡ true
        after a n low = grind (arith, low)

        self : (n : ℕ) → (n == n) ≡ true
        self n = grind arith
    sends_calm p ask (Up s n) y = (tt, notes_calm p (add p (Up s n)) (vector w (add p (Up s n))) (letters.UpNote s n) (filter (λ r. is_up w (add p (Up s n)) r && not (is_site s r)) (sites w)) tt)
    sends_calm p ask other y = tt

    -- a site asks in the letter to commit the transaction
    abbrev pub IsAsked : Txn → Type 0
    IsAsked t = (request : Request) × IsAskedFor w from letter t request

    -- why a transaction has committed in the second history
    abbrev pub Committed : List Noted → List Noted → Txn → Type 0
    Committed p q t = (has_committed p t ≡ true) ⊎ ((has_ended p t ≡ false) × ((has_waited p t ≡ true) ⊎ IsAsked t))

    pub record Settled (p q : List Noted) (outs : List Out) : Type 0 where
      pub grows : Grows p q
      pub long : length p ≤ length q
      pub quiet : (t : Txn) → IsQuiet t p q
      pub calm : AreCalm p q outs
      pub commits : (t : Txn) → has_committed q t ≡ true → Committed p q t

    settled_none : (p : List Noted) → Settled p p []
    settled_none p = record { grows = λ test h. h; long = omega arith; quiet = λ t. quiet_same t p; calm = tt; commits = λ t h. inl h }

    unended : (p q : List Noted) → Grows p q → (t : Txn) → has_ended q t ≡ false → (b : Bool) → has_ended p t ≡ b → b ≡ false
    unended p q grows t still_open true h = absurd (true≢false (sym (grows (λ n. is_end_of t n.entry) h) ∙ still_open))
    unended p q grows t still_open false h = refl

    settled_on : (p r q : List Noted) (xs ys : List Out) → Settled p r xs → Settled r q ys → Settled p q (xs ++ ys)
    settled_on p r q xs ys a b = record {
      grows = λ test h. b.grows test (a.grows test h);
      long = (let x = a.long in let y = b.long in omega (arith, x, y));
      quiet = λ t. quiet_on t p r q (a.quiet t) (b.quiet t);
      calm = all_append (λ (out : Out). IsCalm p q out.2) xs ys (all_weaken (λ (out : Out). IsCalm p r out.2) (λ (out : Out). IsCalm p q out.2) xs (λ out c. calm_to p r q b.grows out.2 c) a.calm)
          (all_weaken (λ (out : Out). IsCalm r q out.2) (λ (out : Out). IsCalm p q out.2) ys (λ out c. calm_from p r q a.long out.2 c) b.calm);
      commits = λ t h. elim (b.commits t h) [
        | inl before ↦ a.commits t before
        | inr now ↦ inr (unended p r a.grows t now.0 (has_ended p t) refl, elim now.1 [ inl waited ↦ inl (sym (a.quiet t).waits ∙ waited) | inr asked ↦ inr asked ])
      ];
    }

    one_settled : (h : List Entry) (ask : ℕ) (e : Entry) → IsLater w from letter (noted h) e → Settled (noted h) (noted (h ++ e ∷ [])) (rows.sends w (noted (h ++ e ∷ [])) ask e)
    one_settled h ask e y = subst (λ q. Settled (noted h) q (rows.sends w q ask e)) (sym (noted_push h e)) (record {
      grows = λ test q. any_kept test p (next p e) q;
      long = (let l = length-append p (next p e ∷ []) in omega (arith, l));
      quiet = λ t. quiet_push t p e (unread t e y) (unwaited t e y);
      calm = sends_calm p ask e y;
      commits = λ t q. commits e y t (list_any (λ n. is_commit_of t n.entry) p) refl (sym (any_push (λ n. is_commit_of t n.entry) p (next p e)) ∙ q);
    })
      where
        p : List Noted
        p = noted h

        unread : (t : Txn) (e : Entry) → IsLater w from letter p e → is_read (λ u x s. is_txn t u) e ≡ false
        unread t (Read u x s) y = absurd y
        unread t other y = refl

        unwaited : (t : Txn) (e : Entry) → IsLater w from letter p e → is_wait_of t e ≡ false
        unwaited t (Wait u request) y = absurd y
        unwaited t other y = refl

        not_both : (t : Txn) → is_running p t ≡ true → (b : Bool) → has_ended p t ≡ b → b ≡ false
        not_both t runs true q = absurd (true≢false (sym (and_parts (has_begun p t) (not (has_ended p t)) runs).1 ∙ ap not q))
        not_both t runs false q = refl

        commits : (e : Entry) → IsLater w from letter p e → (t : Txn) → (b : Bool) → has_committed p t ≡ b → (b || is_commit_of t e) ≡ true → Committed p (add p e) t
        commits e y t true q r = inl q
        commits (Commit u request applied) y t false q r =
            let same : u ≡ t = same_txn u t r in
            inr (subst (λ z. (has_ended p z ≡ false) × ((has_waited p z ≡ true) ⊎ IsAsked z)) same (not_both u y.0 (has_ended p u) refl, elim y.1.1 [ inl wait ↦ inl (wait_waited p u request wait) | inr asked ↦ inr (request, asked) ]))
        commits other y t false q r = absurd (true≢false (sym r))

    others_settled : (p : List Noted) (outs : List Out) → AreOther outs → Settled p p outs
    others_settled p outs a = record { grows = λ test h. h; long = omega arith; quiet = λ t. quiet_same t p; calm = all_weaken (λ (out : Out). IsOther out.2) (λ (out : Out). IsCalm p p out.2) outs (λ out o. go out.2 o) a; commits = λ t h. inl h }
      where
        go : (m : Message) → IsOther m → IsCalm p p m
        go (letters.CopyDo x target n) o = tt
        go (letters.Ends count) o = tt
        go other o = absurd o

    -- all of them
    pub chain_settled : (a b : Turn Sequencer) → Chain w from letter a b → (outs : List Out) × ((b.outs ≡ a.outs ++ outs) × Settled (so_far a) (so_far b) outs)
    chain_settled a b done = ([], (sym (append-nil a.outs), settled_none (so_far a)))
    chain_settled a b (places ask e y rest) =
        let r = chain_settled (place w ask a e) b rest in
        let new = rows.sends w (noted (a.state.history ++ e ∷ [])) ask e in
        (new ++ r.0, (r.1.0 ∙ append_assoc a.outs new r.0, settled_on (so_far a) (so_far (place w ask a e)) (so_far b) new r.0 (one_settled a.state.history ask e y) r.1.1))
    chain_settled a b (sends {next = next} outs same is other rest) =
        let r = chain_settled next b rest in
        (outs ++ r.0, (r.1.0 ∙ ap (λ xs. xs ++ r.0) is ∙ append_assoc a.outs outs r.0, settled_on (so_far a) (so_far a) (so_far b) outs r.0 (others_settled (so_far a) outs other) (subst (λ h. Settled (noted h) (so_far b) r.0) same r.1.1)))
