-- A site's step: who runs after it, and that as many run as may.
use Rattle.std.proofs.Common.{◌≡◌, ◌⊎◌, inl, inr, ℕ, zero, suc, ◌==◌, nat_lt, nat_le, Bool, true, false, not, ◌&&◌, ◌||◌, List, [], length, if◌then◌else◌, arith, sym, subst, ap, ◌∙◌, refl}
use Rattle.std.specs.List.{AllByRecursion}
use Rattle.std.proofs.lemmas.Bool.{and_parts, and_from, eqb-true, true≢false}
use Rattle.raid_base.specs.declared.names.Txn.{Txn}
use Rattle.raid_base.specs.declared.names.Site.{Site}
use Rattle.raid_base.specs.Names.{is_txn, has_txn}
use Rattle.raid_workload.specs.declared.workload.Workload.{Workload}
use Rattle.raid_rules.proofs.Txns.{not_true}
use Rattle.raid_message.specs.declared.letter.Message.{Message}
use Rattle.raid_message.specs.declared.letter.Message.TheVariants as letters
use Rattle.raid_message.specs.declared.letter.Letter.{Letter}
use Rattle.raid_steps.specs.State.{Turn, opened, with_state, tell, Running, SiteState}
use Rattle.raid_steps.specs.Fits.{is_of_sequencer}
use Rattle.raid_steps.specs.Programs.{runs_here, ended, begin, start, ask_commits, next_attempt}
use Rattle.raid_steps.specs.Site as rows
use Rattle.raid_steps.specs.Site.{fits_here, hear_site}
use Rattle.raid_sessions.proofs.Lists.{is_same, same_self}
use Rattle.raid_moves.specs.Moves as parts
use Rattle.raid_moves.specs.Moves.{Ascend, Hears, Tells, Starts, fresh, drops, Moves}
use Rattle.raid_moves.specs.After.{is_full}
use Rattle.raid_moves.proofs.Places.{all_kept, all_put, ascend_put, ascend_kept}
use Rattle.raid_moves.proofs.Steps.{goes_on}
use Rattle.raid_moves.proofs.Swept.{told_is}
use Rattle.raid_asks.proofs.Facts.{or_left, or_right}
use Rattle.raid_asks.proofs.Least.{IsFirst, IsNext}
use Rattle.raid_asks.proofs.Programs.{told}
use Rattle.raid_starts.specs.Starts.{ends}
use Rattle.raid_starts.proofs.Puts.{is_among, among_txns, length_txns, among_put, Puts, goes_puts, is_start, Calm, step_calm}
use Rattle.raid_starts.proofs.Filling.{without, among_without, Came, came_begin, moves_kept, moves_came, moves_on, Behind, filled}

turned : (t u : Txn) → is_txn t u ≡ is_txn u t
turned t u = numbers t.0 u.0
  where
    numbers : (a b : ℕ) → (b == a) ≡ (a == b)
    numbers a b = grind arith

module _ (w : Workload) (state : SiteState) (from : ℕ) (letter : Letter) where
  -- the letter says that the transaction is over
  abbrev pub over : Txn → Bool
  over t = from == 1 && letter.to == state.session && ends t letter.message

  pub record Stepped (turn : Turn SiteState) : Type 0 where
    pub kept : (t : Txn) → over t ≡ false → runs_here state t ≡ true → runs_here turn.state t ≡ true
    pub came : (t : Txn) → runs_here turn.state t ≡ true → ((runs_here state t ≡ true) × (over t ≡ false)) ⊎ (has_txn (told turn.outs) t ≡ true)

  unchanged : ((t : Txn) → runs_here state t ≡ true → over t ≡ false) → Stepped (opened state)
  unchanged none = record { kept = λ t o r. r; came = λ t r. inl (r, none t r) }

  -- the turn with the transaction dropped, and tried again where that is said
  abbrev pub dropped : Txn → Bool → Turn SiteState
  dropped u b = if b then begin w (drops state u) (next_attempt w u) else drops state u

  again_puts : (u : Txn) → Puts (tell (drops state u) (letters.Begin (next_attempt w u))) (begin w (drops state u) (next_attempt w u)) (next_attempt w u)
  again_puts u = goes_puts w (tell (drops state u) (letters.Begin (next_attempt w u))) (fresh (next_attempt w u)) (goes_on w (tell (drops state u) (letters.Begin (next_attempt w u))) (fresh (next_attempt w u)))

  module _ (up : state.up ≡ true) (ascend : Ascend state.running) where
    unmeant : from ≡ 1 → (letter.to == state.session) ≡ false → hear_site w state from letter ≡ opened state
    unmeant of other =
        ap (λ f. hear_site w state f letter) of ∙ ap (λ b. if b then rows.hear_up w state 1 letter else rows.hear_down state 1 letter) up
        ∙ ap (λ b. if b then rows.hear_sequencer w state letter else opened state) other

    unfit : from ≡ 1 → (letter.to == state.session) ≡ true → (is_of_sequencer w letter.message && fits_here w state letter.message) ≡ false → hear_site w state from letter ≡ opened state
    unfit of meant none =
        ap (λ f. hear_site w state f letter) of ∙ ap (λ b. if b then rows.hear_up w state 1 letter else rows.hear_down state 1 letter) up
        ∙ ap (λ b. if b then rows.hear_sequencer w state letter else opened state) meant
        ∙ ap (λ b. rows.hear_if b state (rows.sequencer_row w (opened state) letter.message)) none

    less : (u : Txn) → Ascend (without u state.running)
    less u = ascend_kept (λ (r : Running). not (is_txn u r.txn)) state.running ascend

    dropped_ascends : (u : Txn) (b : Bool) → Ascend (dropped u b).state.running
    dropped_ascends u true = subst Ascend (sym (again_puts u).put) (ascend_put (again_puts u).now (without u state.running) (less u))
    dropped_ascends u false = less u

    dropped_keeps : (u t : Txn) (b : Bool) → is_among t (without u state.running) ≡ true → is_among t (dropped u b).state.running ≡ true
    dropped_keeps u t true q = ap (is_among t) (again_puts u).put ∙ among_put t (again_puts u).now (without u state.running) ∙ or_right (is_txn t (again_puts u).now.txn) (is_among t (without u state.running)) q
    dropped_keeps u t false q = q

    dropped_came : (u : Txn) (b : Bool) → Came w state from letter (without u state.running) (dropped u b)
    dropped_came u true = came_begin w state from letter (without u state.running) (drops state u) (dropped u true) (next_attempt w u) (again_puts u) (λ t q. inl q)
    dropped_came u false = λ t q. inl q

    -- a letter that is heard
    module _ (of : from ≡ 1) (meant : (letter.to == state.session) ≡ true) (fits : (is_of_sequencer w letter.message && fits_here w state letter.message) ≡ true) where
      heard : Hears state letter
      heard = record { up = up; meant = meant }

      tells : (m : Message) → letter.message ≡ m → Tells w state from letter m
      tells m is = record { heard = heard; by = of; is = is; fits = subst (λ m. (is_of_sequencer w m && fits_here w state m) ≡ true) is fits }

      over_is : (m : Message) → letter.message ≡ m → (t : Txn) → over t ≡ ends t m
      over_is m is t = ap (λ b. b && letter.to == state.session && ends t letter.message) (is_same from 1 of) ∙ ap (λ b. b && ends t letter.message) meant ∙ ap (ends t) is

      -- it ends a transaction
      ending : (u : Txn) → ((t : Txn) → over t ≡ is_txn t u) → (s : Starts w state from letter) (turn : Turn SiteState) → hear_site w state from letter ≡ ask_commits (start w turn) → Ascend turn.state.running →
          Came w state from letter (without u state.running) turn → ((t : Txn) → is_among t (without u state.running) ≡ true → is_among t turn.state.running ≡ true) → Stepped (hear_site w state from letter)
      ending u is s turn same a c keeps = subst Stepped (sym same) (record {
        kept = λ t o r. moves_kept w state from letter t moves (keeps t (among_without u t state.running ∙ and_from (is_among t state.running) (not (is_txn u t)) r (ap not (turned u t ∙ sym (is t) ∙ o))));
        came = λ t r. elim (moves_came w state from letter (without u state.running) moves c t r) [
          | inl old ↦ (let both = and_parts (is_among t state.running) (not (is_txn u t)) (sym (among_without u t state.running) ∙ old) in inl (both.0, is t ∙ turned t u ∙ off (is_txn u t) both.1))
          | inr new ↦ inr new
        ];
      })
        where
          moves : Moves w state from letter turn (ask_commits (start w turn))
          moves = moves_on w state from letter heard s turn a

          off : (b : Bool) → not b ≡ true → b ≡ false
          off true q = absurd (true≢false (sym q))
          off false q = refl

      by_message : (m : Message) → letter.message ≡ m → Stepped (hear_site w state from letter)
      by_message (letters.Welcome v n) is = subst Stepped (sym (told_is w state from letter (letters.Welcome v n) (tells (letters.Welcome v n) is))) (record {
        kept = λ t o r. moves_kept w state from letter t moves r;
        came = λ t r. elim (moves_came w state from letter state.running moves (λ t q. inl q) t r) [ inl old ↦ inl (old, over_is (letters.Welcome v n) is t) | inr new ↦ inr new ];
      })
        where
          turn : Turn SiteState
          turn = with_state (opened state) (record state { vector = v; next = n })

          moves : Moves w state from letter (with_state (opened state) (record state { vector = v; next = n })) (ask_commits (start w (with_state (opened state) (record state { vector = v; next = n }))))
          moves = moves_on w state from letter heard (parts.at_welcome v n (tells (letters.Welcome v n) is)) turn ascend
      by_message (letters.Done u) is =
          ending u (over_is (letters.Done u) is) (parts.at_done u (tells (letters.Done u) is)) (ended (opened state) u) (told_is w state from letter (letters.Done u) (tells (letters.Done u) is)) (less u) (λ t q. inl q) (λ t q. q)
      by_message (letters.Drop u b) is =
          ending u (over_is (letters.Drop u b) is) (parts.at_drop u b (tells (letters.Drop u b) is)) (dropped u (runs_here state u && b)) (told_is w state from letter (letters.Drop u b) (tells (letters.Drop u b) is))
          (dropped_ascends u (runs_here state u && b)) (dropped_came u (runs_here state u && b)) (λ t q. dropped_keeps u t (runs_here state u && b) q)
      by_message other is = calmly (step_calm w state from letter ascend (λ z. absurd (omega (arith, of, z))) (λ o. ap is_start is))
        where
          calmly : Calm w state from letter (hear_site w state from letter) → Stepped (hear_site w state from letter)
          calmly c = record {
            kept = λ t o r. among_txns t (hear_site w state from letter).state.running ∙ ap (λ ts. has_txn ts t) c.same ∙ sym (among_txns t state.running) ∙ r;
            came = λ t r. inl (among_txns t state.running ∙ ap (λ ts. has_txn ts t) (sym c.same) ∙ sym (among_txns t (hear_site w state from letter).state.running) ∙ r, over_is other is t);
          }

      -- the next attempt runs after a Drop that says so
      pub retried : (u : Txn) → letter.message ≡ letters.Drop u true → runs_here state u ≡ true → runs_here (hear_site w state from letter).state (next_attempt w u) ≡ true
      retried u is here = subst (λ (turn : Turn SiteState). runs_here turn.state (next_attempt w u) ≡ true) (sym (told_is w state from letter (letters.Drop u true) (tells (letters.Drop u true) is)))
          (moves_kept w state from letter (next_attempt w u) (moves_on w state from letter heard (parts.at_drop u true (tells (letters.Drop u true) is)) (dropped u (runs_here state u && true)) (dropped_ascends u (runs_here state u && true)))
          (subst (λ b. is_among (next_attempt w u) (dropped u b).state.running ≡ true) (sym (and_from (runs_here state u) true here refl)) begun))
        where
          begun : is_among (next_attempt w u) (dropped u true).state.running ≡ true
          begun = ap (is_among (next_attempt w u)) (again_puts u).put ∙ among_put (next_attempt w u) (again_puts u).now (without u state.running)
              ∙ or_left (is_txn (next_attempt w u) (again_puts u).now.txn) (is_among (next_attempt w u) (without u state.running)) (ap (is_txn (next_attempt w u)) (again_puts u).its ∙ same_self (next_attempt w u).0)

    pub stepped : (from ≡ 0 → ⊥) → ((t : Txn) → over t ≡ true → runs_here state t ≡ true → (is_of_sequencer w letter.message && fits_here w state letter.message) ≡ true) → Stepped (hear_site w state from letter)
    stepped some fit = go from refl
      where
        heard_one : from ≡ 1 → (b : Bool) → (letter.to == state.session) ≡ b → (c : Bool) → (is_of_sequencer w letter.message && fits_here w state letter.message) ≡ c → Stepped (hear_site w state from letter)
        heard_one of false meant c fits = subst Stepped (sym (unmeant of meant)) (unchanged (λ t r. ap (λ b. b && letter.to == state.session && ends t letter.message) (is_same from 1 of) ∙ ap (λ b. b && ends t letter.message) meant))
        heard_one of true meant false fits = subst Stepped (sym (unfit of meant fits)) (unchanged (λ t r. not_true (over t) (λ o. true≢false (sym (fit t o r) ∙ fits))))
        heard_one of true meant true fits = by_message of meant fits letter.message refl

        go : (f : ℕ) → from ≡ f → Stepped (hear_site w state from letter)
        go zero of = absurd (some of)
        go (suc zero) of = heard_one of (letter.to == state.session) refl (is_of_sequencer w letter.message && fits_here w state letter.message) refl
        go (suc (suc i)) of = calmly (step_calm w state from letter ascend some (λ o. absurd (omega (arith, o, of))))
          where
            calmly : Calm w state from letter (hear_site w state from letter) → Stepped (hear_site w state from letter)
            calmly c = record {
              kept = λ t o r. among_txns t (hear_site w state from letter).state.running ∙ ap (λ ts. has_txn ts t) c.same ∙ sym (among_txns t state.running) ∙ r;
              came = λ t r. inl (among_txns t state.running ∙ ap (λ ts. has_txn ts t) (sym c.same) ∙ sym (among_txns t (hear_site w state from letter).state.running) ∙ r, ap (λ b. b && letter.to == state.session && ends t letter.message) (not_true (from == 1) (λ q. (let one = eqb-true from 1 q in omega (arith, one, of)))));
            }

    -- as many run as may, where they did
    module _ (here : Site) (place : state.site ≡ here) (full : is_full w state ≡ true) where
      -- what a site is like that lets others begin
      pub data Ready : Type 0 where
        welcomed : (v : List ℕ) (n : ℕ) → letter.message ≡ letters.Welcome v n → IsNext w here n → state.running ≡ [] → Ready
        running : ((v : List ℕ) (n : ℕ) → letter.message ≡ letters.Welcome v n → ⊥) → Behind w state from letter here (opened state) → Ready

      calm_full : Calm w state from letter (hear_site w state from letter) → is_full w (hear_site w state from letter).state ≡ true
      calm_full c =
          let turn = hear_site w state from letter in
          ap (λ n. n == 0 || nat_le w.together (length turn.state.running)) c.next
          ∙ ap (λ n. state.next == 0 || nat_le w.together n) (sym (length_txns turn.state.running) ∙ ap length c.same ∙ length_txns state.running) ∙ full

      same_full : hear_site w state from letter ≡ opened state → is_full w (hear_site w state from letter).state ≡ true
      same_full same = subst (λ (turn : Turn SiteState). is_full w turn.state ≡ true) (sym same) full

      module _ (of : from ≡ 1) (meant : (letter.to == state.session) ≡ true) (fits : (is_of_sequencer w letter.message && fits_here w state letter.message) ≡ true) (later : (u : Txn) → runs_here state u ≡ true → IsFirst w here (next_attempt w u) → ⊥) (ready : Ready) where
        heard_now : Hears state letter
        heard_now = record { up = up; meant = meant }

        says : (m : Message) → letter.message ≡ m → Tells w state from letter m
        says m is = record { heard = heard_now; by = of; is = is; fits = subst (λ m. (is_of_sequencer w m && fits_here w state m) ≡ true) is fits }

        now_full : (turn : Turn SiteState) → hear_site w state from letter ≡ ask_commits (start w turn) → Starts w state from letter → Ascend turn.state.running → Behind w state from letter here turn → is_full w (hear_site w state from letter).state ≡ true
        now_full turn same s a b = subst (λ (turn : Turn SiteState). is_full w turn.state ≡ true) (sym same) (filled w state from letter here turn heard_now s a b)

        behind : ((v : List ℕ) (n : ℕ) → letter.message ≡ letters.Welcome v n → ⊥) → Behind w state from letter here (opened state)
        behind unlike = go ready
          where
            go : Ready → Behind w state from letter here (opened state)
            go (welcomed v n is next none) = absurd (unlike v n is)
            go (running other b) = b

        Before : ℕ → Running → Type 0
        Before n r = IsFirst w here r.txn → (n == 0 || nat_lt r.txn.0 n) ≡ true

        dropped_behind : (u : Txn) (b : Bool) → (b ≡ true → runs_here state u ≡ true) → Behind w state from letter here (opened state) → Behind w state from letter here (dropped u b)
        unfolding Before
        dropped_behind u false runs b = record { site = b.site; next = b.next; before = all_kept (Before state.next) (λ (r : Running). not (is_txn u r.txn)) state.running b.before }
        dropped_behind u true runs b = record {
          site = (again_puts u).site ∙ b.site;
          next = subst (IsNext w here) (sym (again_puts u).next) b.next;
          before = subst (λ n. AllByRecursion (Before n) (dropped u true).state.running) (sym (again_puts u).next) (subst (AllByRecursion (Before state.next)) (sym (again_puts u).put)
              (all_put (Before state.next) (again_puts u).now (without u state.running) (λ f. absurd (later u (runs refl) (subst (IsFirst w here) (again_puts u).its f))) (all_kept (Before state.next) (λ (r : Running). not (is_txn u r.txn)) state.running b.before)));
        }

        full_by : (m : Message) → letter.message ≡ m → is_full w (hear_site w state from letter).state ≡ true
        full_by (letters.Welcome v n) is = go ready
          where
            turn : Turn SiteState
            turn = with_state (opened state) (record state { vector = v; next = n })

            its : (v u : List ℕ) (n k : ℕ) → letters.Welcome v n ≡ letters.Welcome u k → k ≡ n
            its v u n k e = cc e

            go : Ready → is_full w (hear_site w state from letter).state ≡ true
            go (running other b) = absurd (other v n is)
            go (welcomed u k at next none) = now_full turn (told_is w state from letter (letters.Welcome v n) (says (letters.Welcome v n) is)) (parts.at_welcome v n (says (letters.Welcome v n) is)) ascend (record {
              site = place;
              next = subst (IsNext w here) (its v u n k (sym is ∙ at)) next;
              before = subst (λ rs. AllByRecursion (λ (r : Running). IsFirst w here r.txn → (n == 0 || nat_lt r.txn.0 n) ≡ true) rs) (sym none) tt;
            })
        full_by (letters.Done u) is =
            now_full (ended (opened state) u) (told_is w state from letter (letters.Done u) (says (letters.Done u) is)) (parts.at_done u (says (letters.Done u) is)) (less u)
            (let b = behind (λ v n e. absurd (unlike v n (sym is ∙ e))) in record { site = b.site; next = b.next; before = all_kept (λ (r : Running). IsFirst w here r.txn → (state.next == 0 || nat_lt r.txn.0 state.next) ≡ true) (λ (r : Running). not (is_txn u r.txn)) state.running b.before })
          where
            unlike : (v : List ℕ) (n : ℕ) → letters.Done u ≡ letters.Welcome v n → ⊥
            unlike v n e = cc e
        full_by (letters.Drop u b) is =
            now_full (dropped u (runs_here state u && b)) (told_is w state from letter (letters.Drop u b) (says (letters.Drop u b) is)) (parts.at_drop u b (says (letters.Drop u b) is)) (dropped_ascends u (runs_here state u && b))
            (dropped_behind u (runs_here state u && b) (λ q. (and_parts (runs_here state u) b q).0) (behind (λ v n e. absurd (unlike v n (sym is ∙ e)))))
          where
            unlike : (v : List ℕ) (n : ℕ) → letters.Drop u b ≡ letters.Welcome v n → ⊥
            unlike v n e = cc e
        full_by other is = calm_full (step_calm w state from letter ascend (λ z. absurd (omega (arith, of, z))) (λ o. ap is_start is))

      pub step_full : (from ≡ 0 → ⊥) → ((u : Txn) → runs_here state u ≡ true → IsFirst w here (next_attempt w u) → ⊥) → (from ≡ 1 → (letter.to == state.session) ≡ true → Ready) → is_full w (hear_site w state from letter).state ≡ true
      step_full some later ready = go from refl
        where
          heard_one : from ≡ 1 → (b : Bool) → (letter.to == state.session) ≡ b → (c : Bool) → (is_of_sequencer w letter.message && fits_here w state letter.message) ≡ c → is_full w (hear_site w state from letter).state ≡ true
          heard_one of false meant c fits = same_full (unmeant of meant)
          heard_one of true meant false fits = same_full (unfit of meant fits)
          heard_one of true meant true fits = full_by of meant fits later (ready of meant) letter.message refl

          go : (f : ℕ) → from ≡ f → is_full w (hear_site w state from letter).state ≡ true
          go zero of = absurd (some of)
          go (suc zero) of = heard_one of (letter.to == state.session) refl (is_of_sequencer w letter.message && fits_here w state letter.message) refl
          go (suc (suc i)) of = calm_full (step_calm w state from letter ascend some (λ o. absurd (omega (arith, o, of))))
