-- The sequencer's step keeps what programs are about.
use Rattle.std.proofs.Common.{◌≡◌, ◌⊎◌, inl, inr, ℕ, ℤ, ◌+◌, ◌≤◌, ◌==◌, nat_lt, Bool, true, false, ◌&&◌, List, [], ◌∷◌, ◌++◌, length, length-append, Option, Some, None, if◌then◌else◌, arith, sym, subst, ap, ◌∙◌, refl, append-nil}
use Rattle.std.specs.Prelude.{⊤, is_some}
use Rattle.std.specs.List.{AllByRecursion}
use Rattle.std.proofs.lemmas.Bool.{and_from, true≢false}
use Rattle.raid_base.specs.declared.names.Txn.{Txn}
use Rattle.raid_base.specs.declared.names.Item.{Item}
use Rattle.raid_base.specs.declared.names.Site.{Site}
use Rattle.raid_base.specs.declared.request.Request.{Request}
use Rattle.raid_base.specs.declared.entry.Entry.{Entry}
use Rattle.raid_base.specs.declared.entry.Entry.TheVariants.{Read, Wait}
use Rattle.raid_base.specs.declared.entry.Noted.{Noted}
use Rattle.raid_base.specs.Names.{is_txn, is_item, is_site}
use Rattle.raid_base.specs.Sites.{session}
use Rattle.raid_workload.specs.declared.workload.Workload.{Workload}
use Rattle.raid_workload.specs.Parts.{home}
use Rattle.raid_rules.specs.Entries.{is_commit_of, is_end_of, is_down, reads_item}
use Rattle.raid_rules.specs.History.{noted, add, next, has_committed, has_ended}
use Rattle.raid_rules.proofs.Push.{noted_push, same_txn}
use Rattle.raid_legal.specs.Seen.{vector, has_down_after}
use Rattle.raid_legal.specs.Legal.{last_read}
use Rattle.raid_message.specs.declared.letter.Message.{Message}
use Rattle.raid_message.specs.declared.letter.Message.TheVariants as letters
use Rattle.raid_message.specs.declared.letter.Letter.{Letter}
use Rattle.raid_steps.specs.State.{Out, Turn, Sequencer, to_site, Phase, asking, preparing, sent, Running}
use Rattle.raid_steps.specs.Sequencer.{so_far}
use Rattle.raid_steps.specs.World.{link}
use Rattle.raid_sessions.proofs.Lists.{all_append, all_weaken, same_self}
use Rattle.raid_sessions.proofs.Mail.{letter_of, letters_to}
use Rattle.raid_asks.proofs.Notes.{all_sent}
use Rattle.raid_layers.specs.Asks.{has_read, is_wait_of, has_waited, AreReadBut, ask_of, IsOneAsk, no_ask, one_ask, Claim, HoldsOf, AllTokens, IsBelow, IsAtMost, IsOfRead, FallsLater, Outstanding, asked, dropped, read, asks_end, Closing, taken, closes, IsAbout, Talks}
use Rattle.raid_layers.proofs.Histories.{Grows, IsQuiet, quiet_same, quiet_on, quiet_push, any_same, any_last, any_kept, read_push, still_timely, last_within}
use Rattle.raid_layers.proofs.Opening.{First, reads, waits, nothing}
use Rattle.raid_layers.proofs.Settled.{IsAsked, IsCalm, calm_holds, Settled}
use Rattle.raid_layers.proofs.Tokens.{SentHolds, all_weaker, no_falls, falls_on, Fell, IsAskOf, AsksFor, asks_not, asks_it, asks_for}

module _ (w : Workload) (from clock : ℕ) (letter : Letter) where
  -- no note that a site is down
  abbrev pub IsHigh : Message → Type 0
  IsHigh (letters.DownNote s) = ⊥
  IsHigh other = ⊤

  abbrev AreHigh : List Out → Type 0
  AreHigh outs = AllByRecursion (λ (out : Out). IsHigh out.2) outs

  -- the first part of a step, in general
  pub record Starts (p b : List Noted) (outs : List Out) : Type 0 where
    pub grows : Grows p b
    pub long : length p ≤ length b
    pub high : AreHigh outs
    pub commits : (t : Txn) → has_committed b t ≡ has_committed p t

  -- and for one transaction, whose home is at a place, in a session
  pub data Does (t : Txn) (k m : ℕ) (p b : List Noted) (outs : List Out) : Type 1 where
    quiet : IsQuiet t p b → ((P : Claim) → SentHolds t k m P 1 outs) → Does t k m p b outs
    reads_it : (ask : ℕ) (x : Item) (s : Site) → from ≡ k + 2 → letter.message ≡ letters.ReadAsk t ask x → b ≡ add p (Read t x s) → SentHolds t k m (IsOfRead ask x s) 1 outs → Does t k m p b outs
    waits_it : (request : Request) → from ≡ k + 2 → letter.message ≡ letters.CommitAsk t request → ((P : Claim) → SentHolds t k m P 1 outs) → Does t k m p b outs

  -- where the asks of the letter's transaction come from
  abbrev pub ComesHome : Txn → ℕ → Type 0
  ComesHome t k = (j : ℕ) → from ≡ j + 2 → IsAskOf t letter.message → j ≡ k

  read_high : (v : List ℕ) (t : Txn) (ask : ℕ) (x : Item) (s h : Site) (n : ℕ) (b : Bool) → AreHigh (to_site v s (letters.ReadDo t ask x h n) ∷ (if b then [] else to_site v h (letters.Serving t ask s) ∷ []))
  read_high v t ask x s h n true = (tt, tt)
  read_high v t ask x s h n false = (tt, (tt, tt))

  other_holds : (t u : Txn) (k m : ℕ) (P : Claim) (v : List ℕ) (ask : ℕ) (x : Item) (s h : Site) (n : ℕ) (b : Bool) → is_txn t u ≡ false →
      SentHolds t k m P 1 (to_site v s (letters.ReadDo u ask x h n) ∷ (if b then [] else to_site v h (letters.Serving u ask s) ∷ []))
  other_holds t u k m P v ask x s h n true other = ((λ a c d. absurd (true≢false (sym a ∙ other))), tt)
  other_holds t u k m P v ask x s h n false other = ((λ a c d. absurd (true≢false (sym a ∙ other))), ((λ a c d. absurd (true≢false (sym a ∙ other))), tt))

  own_holds : (t : Txn) (k m : ℕ) (v : List ℕ) (ask : ℕ) (x : Item) (s h : Site) (n : ℕ) (b : Bool) →
      SentHolds t k m (IsOfRead ask x s) 1 (to_site v s (letters.ReadDo t ask x h n) ∷ (if b then [] else to_site v h (letters.Serving t ask s) ∷ []))
  own_holds t k m v ask x s h n true = ((λ a c d. (omega arith, λ e. (refl, refl))), tt)
  own_holds t k m v ask x s h n false = ((λ a c d. (omega arith, λ e. (refl, refl))), ((λ a c d. (omega arith, λ e. refl)), tt))

  -- a Read is no Wait
  read_waits : (t u : Txn) (x : Item) (s : Site) → is_wait_of t (Read u x s) ≡ false
  read_waits t u x s = refl

  abbrev pub Firsts : Turn Sequencer → Turn Sequencer → Type 1
  Firsts a b = (outs : List Out) × ((b.outs ≡ a.outs ++ outs) × (Starts (so_far a) (so_far b) outs × ((t : Txn) (k m : ℕ) → ComesHome t k → Does t k m (so_far a) (so_far b) outs)))

  pushed_starts : (h : List Entry) (e : Entry) (outs : List Out) → ((t : Txn) → is_commit_of t e ≡ false) → AreHigh outs → Starts (noted h) (noted (h ++ e ∷ [])) outs
  pushed_starts h e outs none high = subst (λ b. Starts (noted h) b outs) (sym (noted_push h e)) (record {
    grows = λ test q. any_kept test (noted h) (next (noted h) e) q;
    long = (let l = length-append (noted h) (next (noted h) e ∷ []) in omega (arith, l));
    high = high;
    commits = λ t. any_same (λ n. is_commit_of t n.entry) (noted h) (next (noted h) e) (none t);
  })

  pub firsts : (a b : Turn Sequencer) → First w from letter a b → Firsts a b
  firsts a b nothing = ([], (sym (append-nil a.outs), (record { grows = λ test h. h; long = omega arith; high = tt; commits = λ t. refl }, λ t k m comes. quiet (quiet_same t (so_far a)) (λ P. tt))))
  firsts a b (waits j u request of is) =
      ([], (refl, (pushed_starts a.state.history (Wait u request) [] (λ t. refl) tt, λ t k m comes. go t k m comes (is_txn t u) refl)))
    where
      go : (t : Txn) (k m : ℕ) → ComesHome t k → (c : Bool) → is_txn t u ≡ c → Does t k m (so_far a) (noted (a.state.history ++ Wait u request ∷ [])) []
      go t k m comes true q =
          let same : u ≡ t = same_txn u t q in
          let here : j ≡ k = comes j of (subst (IsAskOf t) (sym is) q) in
          waits_it request (of ∙ ap (λ n. n + 2) here) (is ∙ ap (λ z. letters.CommitAsk z request) same) (λ P. tt)
      go t k m comes false q = quiet (subst (IsQuiet t (so_far a)) (sym (noted_push a.state.history (Wait u request))) (quiet_push t (so_far a) (Wait u request) refl q)) (λ P. tt)
  firsts a b (reads j u ask x s of is) =
      (outs, (refl, (pushed_starts a.state.history (Read u x s) outs (λ t. refl) (read_high v u ask x s (home w u) (session v (home w u)) (is_site s (home w u))), λ t k m comes. go t k m comes (is_txn t u) refl)))
    where
      v : List ℕ
      v = vector w (noted (a.state.history ++ Read u x s ∷ []))

      outs : List Out
      outs = to_site v s (letters.ReadDo u ask x (home w u) (session v (home w u))) ∷ (if is_site s (home w u) then [] else to_site v (home w u) (letters.Serving u ask s) ∷ [])

      go : (t : Txn) (k m : ℕ) → ComesHome t k → (c : Bool) → is_txn t u ≡ c → Does t k m (so_far a) (noted (a.state.history ++ Read u x s ∷ [])) outs
      go t k m comes true q =
          let same : u ≡ t = same_txn u t q in
          let here : j ≡ k = comes j of (subst (IsAskOf t) (sym is) q) in
          reads_it ask x s (of ∙ ap (λ n. n + 2) here) (is ∙ ap (λ z. letters.ReadAsk z ask x) same) (noted_push a.state.history (Read u x s) ∙ ap (λ z. add (so_far a) (Read z x s)) same)
          (subst (λ z. SentHolds t k m (IsOfRead ask x s) 1 (to_site v s (letters.ReadDo z ask x (home w u) (session v (home w u))) ∷ (if is_site s (home w u) then [] else to_site v (home w u) (letters.Serving z ask s) ∷ []))) (sym same)
          (own_holds t k m v ask x s (home w u) (session v (home w u)) (is_site s (home w u))))
      go t k m comes false q =
          quiet (subst (IsQuiet t (so_far a)) (sym (noted_push a.state.history (Read u x s))) (quiet_push t (so_far a) (Read u x s) q refl)) (λ P. other_holds t u k m P v ask x s (home w u) (session v (home w u)) (is_site s (home w u)) q)

  -- the asks on the way from the home at a place, before and after
  pub data Taken (t : Txn) (k : ℕ) (asks after : List Message) : Type 0 where
    left : (from ≡ k + 2 → ⊥) → after ≡ asks → Taken t k asks after
    took : from ≡ k + 2 → asks ≡ ask_of t letter.message ++ after → Taken t k asks after

  -- nothing was asked for the transaction; or the first ask was taken
  data Gone (t : Txn) (k m : ℕ) (p b : List Noted) (outs : List Out) (asks after : List Message) : Type 1 where
    kept : after ≡ asks → IsQuiet t p b → ((P : Claim) → SentHolds t k m P 1 outs) → Gone t k m p b outs asks after
    answered : asks ≡ letter.message ∷ after → Gone t k m p b outs asks after

  gone : (t : Txn) (k m : ℕ) (p b : List Noted) (outs : List Out) (asks after : List Message) → Does t k m p b outs → Taken t k asks after → Gone t k m p b outs asks after
  gone t k m p b outs asks after (quiet q mute) (left n e) = kept e q mute
  gone t k m p b outs asks after (reads_it ask x s of is at mute) (left n e) = absurd (n of)
  gone t k m p b outs asks after (waits_it request of is mute) (left n e) = absurd (n of)
  gone t k m p b outs asks after does (took of e) = go (asks_for t letter.message) e
    where
      not_asked : (IsAskOf t letter.message → ⊥) → asks ≡ after → Does t k m p b outs → Gone t k m p b outs asks after
      not_asked n e (quiet q mute) = kept (sym e) q mute
      not_asked n e (reads_it ask x s of is at mute) = absurd (n (subst (IsAskOf t) (sym is) (same_self t.0)))
      not_asked n e (waits_it request of is mute) = absurd (n (subst (IsAskOf t) (sym is) (same_self t.0)))

      go : {xs : List Message} → AsksFor t letter.message xs → asks ≡ xs ++ after → Gone t k m p b outs asks after
      go (asks_not n) e = not_asked n e does
      go (asks_it h) e = answered e

  module _ (t : Txn) (k m : ℕ) (p b q : List Noted) (outs later : List Out) (starts : Starts p b outs) (settled : Settled w from letter b q later) where
    grows : Grows p q
    grows test h = settled.grows test (starts.grows test h)

    -- one ask
    pub one_after : (asks rest : List Message) → ((x : Message) (xs : List Message) → asks ≡ x ∷ xs → Does t k m p b outs) → Taken t k asks rest → (has_ended p t ≡ true) ⊎ IsOneAsk p t asks → (has_ended q t ≡ true) ⊎ IsOneAsk q t rest
    one_after asks rest does taken_so (inl over) = inl (grows (λ n. is_end_of t n.entry) over)
    one_after asks rest does taken_so (inr (no_ask e)) = inr (no_ask (none taken_so))
      where
        none : Taken t k asks rest → rest ≡ []
        none (left n same) = same ∙ e
        none (took of is) = tail (ask_of t letter.message) (sym is ∙ e)
          where
            tail : (xs : List Message) → xs ++ rest ≡ [] → rest ≡ []
            tail [] q = q
            tail (x ∷ xs) q = absurd (cc q)
    one_after asks rest does taken_so (inr (one_ask message e timely)) = inr (go (gone t k m p b outs asks rest (does message [] e) taken_so))
      where
        go : Gone t k m p b outs asks rest → IsOneAsk q t rest
        go (kept same still mute) = one_ask message (same ∙ e) (still_timely t p q grows (quiet_on t p b q still (settled.quiet t)) message timely)
        go (answered is) = no_ask (cc (is, e))

  -- the step, for one transaction
  module _ (t : Txn) (k m : ℕ) (p b q : List Noted) (outs later : List Out) (links after : List (List (List Letter))) (numbered : AllByRecursion (λ (n : Noted). n.at ≤ length p) p)
      (starts : Starts p b outs) (settled : Settled w from letter b q later)
      (tokens : (P : Claim) → SentHolds t k m P 1 (outs ++ later) → AllTokens links t k m P → AllTokens after t k m P)
      (notes : link after (k + 2) 1 ≡ link links (k + 2) 1 ++ letters_to (k + 2) 0 clock (outs ++ later)) where
    further : Grows p q
    further test h = settled.grows test (starts.grows test h)

    -- a transaction that isn't over now wasn't before
    open_in : (r : List Noted) → Grows r q → has_ended q t ≡ false → (c : Bool) → has_ended r t ≡ c → c ≡ false
    open_in r g still true h = absurd (true≢false (sym (g (λ n. is_end_of t n.entry) h) ∙ still))
    open_in r g still false h = refl

    all_hold : (P : Claim) → SentHolds t k m P 1 outs → SentHolds t k m P 1 (outs ++ later)
    all_hold P h = all_append (λ (out : Out). HoldsOf t k m P out.0 1 out.1 out.2) outs later h (calm_holds t k m P b q later settled.calm)

    -- what is told of falls comes later
    fell : (s : Site) (at : ℕ) → at ≤ length b → AllByRecursion (Fell q s at) (letters_to (k + 2) 0 clock (outs ++ later))
    fell s at low =
        all_sent (Fell q s at) (k + 2) 0 clock (outs ++ later)
        (all_append (λ (out : Out). out.0 ≡ k + 2 → Fell q s at (letter_of 0 clock out)) outs later
        (all_weaken (λ (out : Out). IsHigh out.2) (λ (out : Out). out.0 ≡ k + 2 → Fell q s at (letter_of 0 clock out)) outs (λ out h to is. absurd (subst IsHigh is h)) starts.high)
        (all_weaken (λ (out : Out). IsCalm b q out.2) (λ (out : Out). out.0 ≡ k + 2 → Fell q s at (letter_of 0 clock out)) later (λ out h to is. subst (IsCalm b q) is h at low) settled.calm))

    falls_after : (ask : ℕ) (s : Site) (at : ℕ) (known : Bool) (r : List Noted) → (has_down_after r at s ≡ true → has_down_after q at s ≡ true) → at ≤ length b → FallsLater r t m ask s at known (link links (k + 2) 1) → FallsLater q t m ask s at known (link after (k + 2) 1)
    falls_after ask s at known r more low h = subst (FallsLater q t m ask s at known) (sym notes) (falls_on r q t m ask s at more known (link links (k + 2) 1) (letters_to (k + 2) 0 clock (outs ++ later)) h (fell s at low))

    module _ (asks rest : List Message) (number : ℕ) (answers : List (Item × ℤ)) where
      -- nothing of it was asked
      module _ (same : rest ≡ asks) (still : IsQuiet t p b) (mute : (P : Claim) → SentHolds t k m P 1 outs) where
        whole : IsQuiet t p q
        whole = quiet_on t p b q still (settled.quiet t)

        moved : (P : Claim) → AllTokens links t k m P → AllTokens after t k m P
        moved P h = tokens P (all_hold P (mute P)) h

        waits_on : (ask : ℕ) (x : Item) (o : Option Site) → Outstanding p links k m t ask x o asks → Outstanding q after k m t ask x o rest
        waits_on ask x o (asked e none h) = asked (same ∙ e) none (moved (IsBelow ask) h)
        waits_on ask x o (dropped e none h) = dropped (same ∙ e) none (moved (IsBelow ask) h)
        waits_on ask x o (read n s e last is has h server falls) =
            read n s (same ∙ e) (whole.last ∙ last) is (whole.reads x ∙ has) (moved (IsOfRead ask x s) h) server
            (falls_after ask s n.at (is_some o) p (further (λ z. nat_lt n.at z.at && is_down (is_site s) z.entry)) (let low = last_within (length p) t p numbered n last in let long = starts.long in omega (arith, low, long)) falls)

        about_on : (phase : Phase) → IsAbout p links k m t number answers asks phase → IsAbout q after k m t number answers rest phase
        about_on (asking ask x o) a = (a.0, (whole.waits ∙ a.1.0, ((λ y d. a.1.1.0 y d ∙ sym (whole.reads y)), waits_on ask x o a.1.1.1)))
        about_on (preparing r writes awaited) a = (same ∙ a.0, (whole.waits ∙ a.1.0, ((λ y. a.1.1.0 y ∙ sym (whole.reads y)), moved (IsAtMost number) a.1.1.1)))
        about_on sent a = (go a.0, moved (IsAtMost number) a.1)
          where
            go : Closing p t asks → Closing q t rest
            go (taken e) = taken (same ∙ e)
            go (closes message e ends) = closes message (same ∙ e) ends

      -- its ask was taken
      module _ (took_it : asks ≡ letter.message ∷ rest) (does : Does t k m p b outs) where
        some_none : {X : Type 0} → asks ≡ [] → X
        some_none e = absurd (cc (took_it, e))

        alone : (message : Message) → asks ≡ message ∷ [] → (letter.message ≡ message) × (rest ≡ [])
        alone message e = (cc (took_it, e), cc (took_it, e))

        -- a read
        read_now : (ask : ℕ) (x : Item) (s : Site) → b ≡ add p (Read t x s) → SentHolds t k m (IsOfRead ask x s) 1 outs → rest ≡ [] → AllTokens links t k m (IsBelow ask) → Outstanding q after k m t ask x None rest
        read_now ask x s is holds none h =
            read n s none ((settled.quiet t).last ∙ ap (λ r. last_read r t) is ∙ read_push p n t ∙ ap (λ c. if c then Some n else last_read p t) (same_self t.0)) refl
            (settled.grows (λ z. reads_item t x z.entry) (subst (λ r. has_read r t x ≡ true) (sym is) (any_last (λ z. reads_item t x z.entry) p n (and_from (is_txn t t) (is_item x x) (same_self t.0) (same_self x.0)))))
            (tokens (IsOfRead ask x s) (all_hold (IsOfRead ask x s) holds) (all_weaker t k m links (IsBelow ask) (IsOfRead ask x s) (λ a token low. (omega (arith, low), λ e. absurd (omega (arith, low, e)))) h)) tt
            (falls_after ask s n.at false p (further (λ z. nat_lt n.at z.at && is_down (is_site s) z.entry)) (let l = ap length is ∙ length-append p (n ∷ []) in omega (arith, l)) (no_falls t k m p ask s n.at (link links (k + 2) 1) (h (k + 2) 1)))
          where
            n : Noted
            n = next p (Read t x s)

        but_for : (x : Item) (s : Site) → b ≡ add p (Read t x s) → (y : Item) → is_item x y ≡ false → has_read b t y ≡ has_read p t y
        but_for x s is y d = ap (λ r. has_read r t y) is ∙ any_same (λ z. reads_item t y z.entry) p (next p (Read t x s)) (ap (λ c. is_txn t t && c) (turned x.0 y.0 d) ∙ none (is_txn t t))
          where
            turned : (a c : ℕ) → (c == a) ≡ false → (a == c) ≡ false
            turned a c q = grind (arith, q)

            none : (c : Bool) → (c && false) ≡ false
            none true = refl
            none false = refl

        answered_ask : (ask : ℕ) (x : Item) (o : Option Site) → has_waited p t ≡ false → AreReadBut p t x answers → Outstanding p links k m t ask x o asks →
            (has_waited q t ≡ false) × (AreReadBut q t x answers × Outstanding q after k m t ask x o rest)
        answered_ask ask x o unwaited but (dropped e none h) = some_none e
        answered_ask ask x o unwaited but (read n s e last is has h server falls) = some_none e
        answered_ask ask x o unwaited but (asked e none h) = go does
          where
            both : (letter.message ≡ letters.ReadAsk t ask x) × (rest ≡ [])
            both = alone (letters.ReadAsk t ask x) e

            go : Does t k m p b outs → (has_waited q t ≡ false) × (AreReadBut q t x answers × Outstanding q after k m t ask x o rest)
            go (quiet still mute) =
                let all = quiet_on t p b q still (settled.quiet t) in
                (all.waits ∙ unwaited, ((λ y d. but y d ∙ sym (all.reads y)), dropped both.1 none (tokens (IsBelow ask) (all_hold (IsBelow ask) (mute (IsBelow ask))) h)))
            go (reads_it ask_too x_too s of is at holds) =
                let same : letters.ReadAsk t ask_too x_too ≡ letters.ReadAsk t ask x = sym is ∙ both.0 in
                let numbers : ask_too ≡ ask = cc same in
                let items : x_too ≡ x = cc same in
                let placed : b ≡ add p (Read t x s) = at ∙ ap (λ z. add p (Read t z s)) items in
                let sent_so : SentHolds t k m (IsOfRead ask x s) 1 outs = subst (λ z. SentHolds t k m (IsOfRead ask z s) 1 outs) items (subst (λ z. SentHolds t k m (IsOfRead z x_too s) 1 outs) numbers holds) in (
                  (settled.quiet t).waits ∙ ap (λ r. has_waited r t) placed ∙ any_same (λ z. is_wait_of t z.entry) p (next p (Read t x s)) refl ∙ unwaited,
                  (
                    (λ y d. but y d ∙ sym (but_for x s placed y d) ∙ sym ((settled.quiet t).reads y)),
                    subst (λ z. Outstanding q after k m t ask x z rest) (sym none) (read_now ask x s placed sent_so both.1 h),
                  ),
                )
            go (waits_it request of is mute) = absurd (no_commit (sym is ∙ both.0))
              where
                no_commit : letters.CommitAsk t request ≡ letters.ReadAsk t ask x → ⊥
                no_commit q = cc q

        closed : Closing p t asks → AllTokens links t k m (IsAtMost number) → Closing q t rest × AllTokens after t k m (IsAtMost number)
        closed (taken e) h = some_none e
        closed (closes message e ends) h = (taken (alone message e).1, tokens (IsAtMost number) (all_hold (IsAtMost number) (go does)) h)
          where
            go : Does t k m p b outs → SentHolds t k m (IsAtMost number) 1 outs
            go (quiet still mute) = mute (IsAtMost number)
            go (waits_it request of is mute) = mute (IsAtMost number)
            go (reads_it ask x s of is at holds) = absurd (true≢false (sym ends ∙ ap asks_end (sym (alone message e).0 ∙ is)))

        about_answered : (phase : Phase) → IsAbout p links k m t number answers asks phase → IsAbout q after k m t number answers rest phase
        about_answered (asking ask x o) a = (a.0, answered_ask ask x o a.1.0 a.1.1.0 a.1.1.1)
        about_answered (preparing r writes awaited) a = some_none a.0
        about_answered sent a = closed a.0 a.1

      about_after : Does t k m p b outs → Taken t k asks rest → (phase : Phase) → IsAbout p links k m t number answers asks phase → IsAbout q after k m t number answers rest phase
      about_after does taken_so phase a = go (gone t k m p b outs asks rest does taken_so)
        where
          go : Gone t k m p b outs asks rest → IsAbout q after k m t number answers rest phase
          go (kept same still mute) = about_on same still mute phase a
          go (answered e) = about_answered e does phase a

      no_end : ComesHome t k → Does t k m p b outs → Taken t k asks rest → ((request : Request) → asks ≡ letters.CommitAsk t request ∷ rest → ⊥) → has_waited p t ≡ false → (has_waited b t ≡ true) ⊎ IsAsked w from letter t → ⊥
      no_end comes does taken_so never unwaited why = elim why [ inl waited ↦ now waited does | inr (request, (j, (of, is))) ↦ asks_it_now request (let here : j ≡ k = comes j of (subst (IsAskOf t) (sym is) (same_self t.0)) in of ∙ ap (λ n. n + 2) here) is taken_so ]
        where
          asks_it_now : (request : Request) → from ≡ k + 2 → letter.message ≡ letters.CommitAsk t request → Taken t k asks rest → ⊥
          asks_it_now request of is (left n e) = n of
          asks_it_now request of is (took too e) = never request (e ∙ ap (λ xs. xs ++ rest) (ap (ask_of t) is ∙ ap (λ c. if c then letters.CommitAsk t request ∷ [] else []) (same_self t.0)))

          now : has_waited b t ≡ true → Does t k m p b outs → ⊥
          now waited (quiet still mute) = true≢false (sym waited ∙ still.waits ∙ unwaited)
          now waited (reads_it ask x s of is at holds) = true≢false (sym waited ∙ ap (λ r. has_waited r t) at ∙ any_same (λ z. is_wait_of t z.entry) p (next p (Read t x s)) refl ∙ unwaited)
          now waited (waits_it request of is mute) = asks_it_now request of is taken_so

      -- who has committed has sent its last ask
      committed_sent : ComesHome t k → Does t k m p b outs → Taken t k asks rest → (phase : Phase) → IsAbout p links k m t number answers asks phase → (has_waited b t ≡ true) ⊎ IsAsked w from letter t → phase ≡ sent
      committed_sent comes does taken_so sent a why = refl
      committed_sent comes does taken_so (preparing r writes awaited) a why = absurd (no_end comes does taken_so (λ request e. cc (a.0, e)) a.1.0 why)
      committed_sent comes does taken_so (asking ask x o) a why = absurd (no_end comes does taken_so (λ request e. no_commit a.1.1.1 request e) a.1.0 why)
        where
          no_commit : Outstanding p links k m t ask x o asks → (request : Request) → asks ≡ letters.CommitAsk t request ∷ rest → ⊥
          no_commit (asked e none h) request f = cc (e, f)
          no_commit (dropped e none h) request f = cc (e, f)
          no_commit (read n s e last is has h server falls) request f = cc (e, f)

    pub talks_none : (asks rest : List Message) → Taken t k asks rest → Talks p links k m t asks None → Talks q after k m t rest None
    talks_none asks rest taken_so (inl over) = inl (further (λ n. is_end_of t n.entry) over)
    talks_none asks rest taken_so (inr e) = inr (none taken_so)
      where
        none : Taken t k asks rest → rest ≡ []
        none (left n same) = same ∙ e
        none (took of is) = tail (ask_of t letter.message) (sym is ∙ e)
          where
            tail : (xs : List Message) → xs ++ rest ≡ [] → rest ≡ []
            tail [] q = q
            tail (x ∷ xs) q = absurd (cc q)

    pub talks_some : (asks rest : List Message) → ComesHome t k → Does t k m p b outs → Taken t k asks rest → (r : Running) → Talks p links k m t asks (Some r) → Talks q after k m t rest (Some r)
    talks_some asks rest comes does taken_so r a = (
      commits,
      elim a.1 [
        | inl over ↦ inl (further (λ n. is_end_of t n.entry) over)
        | inr about ↦ inr (about_after asks rest r.asks r.answers does taken_so r.phase about)
      ],
    )
      where
        commits : has_committed q t ≡ true → r.phase ≡ sent
        commits h = elim (settled.commits t h) [
          | inl before ↦ a.0 (sym (starts.commits t) ∙ before)
          | inr now ↦ elim a.1 [
            | inl over ↦ absurd (true≢false (sym (starts.grows (λ n. is_end_of t n.entry) over) ∙ now.0))
            | inr about ↦ committed_sent asks rest r.asks r.answers comes does taken_so r.phase about now.1
          ]
        ]
