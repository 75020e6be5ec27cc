-- Who runs at a site after it has heard that others may begin, and that as many run then as may.
use Rattle.std.proofs.Common.{◌≡◌, ◌⊎◌, inl, inr, ℕ, ◌==◌, nat_lt, Bool, true, false, not, ◌&&◌, ◌||◌, List, [], ◌∷◌, ◌++◌, filter, Option, Some, None, if◌then◌else◌, arith, sym, subst, ap, ◌∙◌, refl}
use Rattle.std.specs.List.{AllByRecursion}
use Rattle.std.proofs.lemmas.Bool.{eqb-true, true≢false}
use Rattle.std.proofs.lemmas.Grind.{common_steps}
use Rattle.std.proofs.lemmas.List.Folds.{list_any-append}
use Rattle.raid_base.specs.declared.names.Txn.{Txn}
use Rattle.raid_base.specs.declared.names.Site.{Site}
use Rattle.raid_base.specs.Names.{is_txn, has_txn}
use Rattle.raid_workload.specs.declared.workload.Workload.{Workload}
use Rattle.raid_rules.proofs.Push.{same_txn}
use Rattle.raid_message.specs.declared.letter.Message.TheVariants as letters
use Rattle.raid_message.specs.declared.letter.Letter.{Letter}
use Rattle.raid_steps.specs.State.{Out, Turn, tell, Running, SiteState}
use Rattle.raid_steps.specs.Programs.{put_running, running_of, following, begin, start, ask_commits}
use Rattle.raid_sessions.proofs.Lists.{same_self}
use Rattle.raid_moves.specs.Moves as parts
use Rattle.raid_moves.specs.Moves.{Ascend, Hears, Starts, fresh, next_of, passed, drops, Move, Moves}
use Rattle.raid_moves.specs.After.{is_full}
use Rattle.raid_moves.proofs.Filled.{starts_fill, commits_fill}
use Rattle.raid_moves.proofs.Places.{all_found, all_put, all_weaken, program_of, found_txn}
use Rattle.raid_moves.proofs.Steps.{goes_on, on, ascend_moves, starts, asks_commits}
use Rattle.raid_asks.proofs.Facts.{or_left, or_right, or_parts}
use Rattle.raid_asks.proofs.Least.{txn, IsFirst, IsNext, following_is}
use Rattle.raid_asks.proofs.Programs.{told, told_append}
use Rattle.raid_starts.proofs.Puts.{is_among, among_put, Puts, goes_puts, Effect, puts, begun, move_effect}

-- one that is found is among them
pub found_among : (t : Txn) (rs : List Running) (r : Running) → program_of t rs ≡ Some r → is_among t rs ≡ true
found_among t [] r f = absurd (cc f)
found_among t (q ∷ qs) r f = go (q.txn.0 == t.0) f (found_among t qs r)
  where
    go : (b : Bool) → (if b then Some q else program_of t qs) ≡ Some r → (program_of t qs ≡ Some r → is_among t qs ≡ true) → (b || is_among t qs) ≡ true
    go true f rest = refl
    go false f rest = rest f

-- the programs but one
abbrev pub without : Txn → List Running → List Running
without u rs = filter (λ (r : Running). not (is_txn u r.txn)) rs

pub among_without : (u t : Txn) (rs : List Running) → is_among t (without u rs) ≡ (is_among t rs && not (is_txn u t))
among_without u t [] = refl
among_without u t (r ∷ rs) = go (r.txn.0 == u.0) refl (r.txn.0 == t.0) refl (is_txn u t) refl (among_without u t rs)
  where
    same : r.txn.0 ≡ u.0 → r.txn.0 ≡ t.0 → (t.0 == u.0) ≡ true
    same e f = grind (arith, e, f)

    apart : (r.txn.0 == u.0) ≡ false → r.txn.0 ≡ t.0 → (t.0 == u.0) ≡ false
    apart e f = grind (arith, e, f)

    go : (b : Bool) → (r.txn.0 == u.0) ≡ b → (c : Bool) → (r.txn.0 == t.0) ≡ c → (d : Bool) → is_txn u t ≡ d → is_among t (without u rs) ≡ (is_among t rs && not d) →
        is_among t (if not b then r ∷ without u rs else without u rs) ≡ ((c || is_among t rs) && not d)
    go true e true f true g rest = rest ∙ none (is_among t rs)
      where
        none : (b : Bool) → (b && false) ≡ false
        none true = refl
        none false = refl
    go true e true f false g rest = absurd (true≢false (sym (same (eqb-true r.txn.0 u.0 e) (eqb-true r.txn.0 t.0 f)) ∙ g))
    go true e false f d g rest = rest
    go false e true f true g rest = absurd (true≢false (sym g ∙ apart e (eqb-true r.txn.0 t.0 f)))
    go false e true f false g rest = or_left (r.txn.0 == t.0) (is_among t (without u rs)) f
    go false e false f d g rest = ap (λ b. b || is_among t (without u rs)) f ∙ rest

told_on : (t : Txn) (outs more : List Out) → has_txn (told outs) t ≡ true → has_txn (told (outs ++ more)) t ≡ true
told_on t outs more q = ap (λ ts. has_txn ts t) (told_append outs more) ∙ list_any-append (is_txn t) (told outs) (told more) ∙ or_left (has_txn (told outs) t) (has_txn (told more) t) q

module _ (w : Workload) (state : SiteState) (from : ℕ) (letter : Letter) where
  -- who runs still does
  pub moves_kept : (t : Txn) {turn last : Turn SiteState} → Moves w state from letter turn last → is_among t turn.state.running ≡ true → is_among t last.state.running ≡ true
  moves_kept t parts.done q = q
  moves_kept t {turn} (parts.moves {next = next} m rest) q = moves_kept t rest (go (move_effect w state from letter m))
    where
      put_kept : (now : Running) (rs : List Running) → rs ≡ put_running now turn.state.running → is_among t rs ≡ true
      put_kept now rs p = ap (is_among t) p ∙ among_put t now turn.state.running ∙ or_right (is_txn t now.txn) (is_among t turn.state.running) q

      go : Effect w state from letter turn next → is_among t next.state.running ≡ true
      go (puts r f p) = put_kept p.now next.state.running p.put
      go (begun s z p) = put_kept p.now next.state.running p.put

  -- who runs ran before, or its Begin was told
  module _ (old : List Running) where
    abbrev pub Came : Turn SiteState → Type 0
    Came turn = (t : Txn) → is_among t turn.state.running ≡ true → (is_among t old ≡ true) ⊎ (has_txn (told turn.outs) t ≡ true)

    came_put : (turn after : Turn SiteState) (u : Txn) → Puts turn after u → (is_among u old ≡ true) ⊎ (has_txn (told turn.outs) u ≡ true) → Came turn → Came after
    came_put turn after u p own c t q = elim (or_parts (is_txn t p.now.txn) (is_among t turn.state.running) (sym (ap (is_among t) p.put ∙ among_put t p.now turn.state.running) ∙ q)) [
      | inl it ↦ later (subst (λ z. (is_among z old ≡ true) ⊎ (has_txn (told turn.outs) z ≡ true)) (sym p.its ∙ same_txn p.now.txn t it) own)
      | inr before ↦ later (c t before)
    ]
      where
        later : (is_among t old ≡ true) ⊎ (has_txn (told turn.outs) t ≡ true) → (is_among t old ≡ true) ⊎ (has_txn (told after.outs) t ≡ true)
        later (inl a) = inl a
        later (inr a) = inr (ap (λ outs. has_txn (told outs) t) p.outs ∙ told_on t turn.outs p.more a)

    -- a transaction begins
    pub came_begin : (turn after : Turn SiteState) (u : Txn) → Puts (tell turn (letters.Begin u)) after u → Came turn → Came after
    came_begin turn after u p c = came_put (tell turn (letters.Begin u)) after u p (inr now) before
      where
        now : has_txn (told (turn.outs ++ (1, 0, letters.Begin u) ∷ [])) u ≡ true
        now = ap (λ ts. has_txn ts u) (told_append turn.outs ((1, 0, letters.Begin u) ∷ [])) ∙ list_any-append (is_txn u) (told turn.outs) (u ∷ []) ∙ or_right (has_txn (told turn.outs) u) (has_txn (u ∷ []) u) (or_left (is_txn u u) false (same_self u.0))

        before : Came (tell turn (letters.Begin u))
        before t q = elim (c t q) [ inl a ↦ inl a | inr a ↦ inr (told_on t turn.outs ((1, 0, letters.Begin u) ∷ []) a) ]

    pub moves_came : {turn last : Turn SiteState} → Moves w state from letter turn last → Came turn → Came last
    moves_came parts.done c = c
    moves_came {turn} (parts.moves {next = next} m rest) c = moves_came rest (go (move_effect w state from letter m))
      where
        go : Effect w state from letter turn next → Came next
        go (puts r f p) = came_put turn next r.txn p (c r.txn (found_among r.txn turn.state.running r f)) c
        go (begun s z p) = came_begin (passed w turn) next (next_of turn) p c

  -- others begin, and then commits are asked for
  pub moves_on : Hears state letter → Starts w state from letter → (turn : Turn SiteState) → Ascend turn.state.running → Moves w state from letter turn (ask_commits (start w turn))
  moves_on heard s turn a = (let first = starts w state from letter s turn in on w state from letter first (asks_commits w state from letter heard (start w turn) (ascend_moves w state from letter a first)))

  -- the first attempts that run are before the next
  module _ (here : Site) where
    abbrev IsBefore : ℕ → Running → Type 0
    IsBefore n r = IsFirst w here r.txn → (n == 0 || nat_lt r.txn.0 n) ≡ true

    pub record Behind (turn : Turn SiteState) : Type 0 where
      pub site : turn.state.site ≡ here
      pub next : IsNext w here turn.state.next
      pub before : AllByRecursion (λ (r : Running). IsFirst w here r.txn → (turn.state.next == 0 || nat_lt r.txn.0 turn.state.next) ≡ true) turn.state.running

    first_next : (turn : Turn SiteState) → Behind turn → (turn.state.next == 0) ≡ false → IsFirst w here (txn turn.state.next)
    first_next turn b some = elim b.next [
      | inl none ↦ absurd (true≢false (sym (ap (λ k. k == 0) none) ∙ some))
      | inr found ↦ found.1
    ]

    new : (turn : Turn SiteState) → Behind turn → (turn.state.next == 0) ≡ false → running_of turn.state (next_of turn) ≡ None
    new turn b some = go (running_of turn.state (next_of turn)) refl
      where
        never : (n : ℕ) → (n == 0) ≡ false → (n == 0 || nat_lt n n) ≡ false
        never n q = grind (arith, common_steps, q)

        go : (o : Option Running) → running_of turn.state (next_of turn) ≡ o → o ≡ None
        go None f = refl
        go (Some r) f =
            let same = found_txn (next_of turn) turn.state.running r f in
            let before = all_found (IsBefore turn.state.next) (λ (x : Running). is_txn (next_of turn) x.txn) turn.state.running r b.before f in
            absurd (true≢false (sym (before (subst (IsFirst w here) (sym same) (first_next turn b some))) ∙ ap (λ (t : Txn). turn.state.next == 0 || nat_lt t.0 turn.state.next) same ∙ never turn.state.next some))

    keeps : (turn : Turn SiteState) → Behind turn → (turn.state.next == 0) ≡ false → Behind (begin w (passed w turn) (next_of turn))
    keeps turn b some = record {
      site = p.site ∙ b.site;
      next = subst (IsNext w here) (sym next_is) after.0;
      before = subst (λ n. AllByRecursion (IsBefore n) (begin w (passed w turn) (next_of turn)).state.running) (sym next_is) (subst (AllByRecursion (IsBefore m)) (sym p.put) (all_put (IsBefore m) p.now turn.state.running its (all_weaken (IsBefore n) (IsBefore m) turn.state.running others b.before)));
    }
      where
        n : ℕ
        n = turn.state.next

        m : ℕ
        m = following w here turn.state.next

        p : Puts (tell (passed w turn) (letters.Begin (next_of turn))) (begin w (passed w turn) (next_of turn)) (next_of turn)
        p = goes_puts w (tell (passed w turn) (letters.Begin (next_of turn))) (fresh (next_of turn)) (goes_on w (tell (passed w turn) (letters.Begin (next_of turn))) (fresh (next_of turn)))

        next_is : (begin w (passed w turn) (next_of turn)).state.next ≡ following w here turn.state.next
        next_is = p.next ∙ ap (λ s. following w s turn.state.next) b.site

        after : IsNext w here (following w here turn.state.next) × ((t : Txn) → IsFirst w here t → (following w here turn.state.next == 0 || nat_lt t.0 (following w here turn.state.next)) ≡ not (nat_lt turn.state.next t.0))
        after = following_is w here turn.state.next

        itself : (n : ℕ) → not (nat_lt n n) ≡ true
        itself n = grind (arith, common_steps)

        lower : (a n : ℕ) → (n == 0) ≡ false → (n == 0 || nat_lt a n) ≡ true → not (nat_lt n a) ≡ true
        lower a n q r = grind (arith, common_steps, q, r)

        its : IsFirst w here p.now.txn → (following w here turn.state.next == 0 || nat_lt p.now.txn.0 (following w here turn.state.next)) ≡ true
        its f = after.1 p.now.txn f ∙ ap (λ (t : Txn). not (nat_lt turn.state.next t.0)) p.its ∙ itself turn.state.next

        others : (r : Running) → (IsFirst w here r.txn → (turn.state.next == 0 || nat_lt r.txn.0 turn.state.next) ≡ true) → IsFirst w here r.txn → (following w here turn.state.next == 0 || nat_lt r.txn.0 (following w here turn.state.next)) ≡ true
        others r e f = after.1 r.txn f ∙ lower r.txn.0 turn.state.next some (e f)

    pub filled : (turn : Turn SiteState) → Hears state letter → Starts w state from letter → Ascend turn.state.running → Behind turn → is_full w (ask_commits (start w turn)).state ≡ true
    filled turn heard s a b = commits_fill w (start w turn) (ascend_moves w state from letter a (starts w state from letter s turn)) (starts_fill w Behind new keeps turn b)
