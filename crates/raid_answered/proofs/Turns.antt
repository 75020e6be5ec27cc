-- What the asks of the programs at a home come to in a turn, given what is on its way from before the step; and how it changes where one
-- program is put.
use Rattle.std.proofs.Common.{◌≡◌, ◌⊎◌, inl, inr, ℕ, ℤ, ◌+◌, ◌==◌, Bool, true, false, not, ◌||◌, List, [], ◌∷◌, ◌++◌, map, filter, Option, Some, None, if◌then◌else◌, sym, subst, ap, ◌∙◌, refl, append_assoc}
use Rattle.std.specs.Prelude.{⊤}
use Rattle.std.proofs.lemmas.Bool.{true≢false}
use Rattle.std.proofs.lemmas.List.Folds.{list_any-append}
use Rattle.raid_base.specs.declared.names.Txn.{Txn}
use Rattle.raid_base.specs.declared.names.Item.{Item}
use Rattle.raid_base.specs.declared.names.Site.{Site}
use Rattle.raid_base.specs.declared.entry.Noted.{Noted}
use Rattle.raid_base.specs.Names.{is_txn, has_txn}
use Rattle.raid_workload.specs.declared.workload.Workload.{Workload}
use Rattle.raid_rules.specs.History.{has_ended}
use Rattle.raid_rules.proofs.Push.{same_txn}
use Rattle.raid_message.specs.declared.letter.Message.{Message}
use Rattle.raid_message.specs.declared.letter.Letter.{Letter}
use Rattle.raid_steps.specs.State.{Out, Turn, Running, SiteState}
use Rattle.raid_steps.specs.Programs.{put_running, running_of, prepare_out}
use Rattle.raid_sessions.proofs.Mail.{letters_to}
use Rattle.raid_moves.proofs.Places.{program_of, put_found, put_other}
use Rattle.raid_asks.specs.Way.{begun_by, begins_of as begins}
use Rattle.raid_asks.proofs.Cares.{begins_append, begins_told}
use Rattle.raid_asks.proofs.Notes.{letters_append}
use Rattle.raid_asks.proofs.Programs.{told}
use Rattle.raid_layers.specs.Asks.{ask_of, asks_of}
use Rattle.raid_layers.proofs.Tokens.{asks_append}
use Rattle.raid_layers.proofs.Turns.{asked_by, asked_sent, filtered_out, filtered_other, IsKnown, asked_same, known_more}
use Rattle.raid_answered.proofs.Counts.{ends_asked, Balance}

-- behind an ask of the transaction stands no Begin of it that was sent in the session
abbrev pub BeginsFirst : ℕ → Txn → List Letter → Type 0
BeginsFirst m t [] = ⊤
BeginsFirst m t (l ∷ ls) = ((ask_of t l.message ≡ []) ⊎ (has_txn (begins m ls) t ≡ false)) × BeginsFirst m t ls

halves : (a b : Bool) → (a || b) ≡ false → (a ≡ false) × (b ≡ false)
halves true b q = absurd (true≢false q)
halves false b q = (refl, q)

-- where no Begin stands behind a letter, or in front of it
pub behind_none : (m : ℕ) (t : Txn) (l : Letter) (ls : List Letter) → has_txn (begins m (l ∷ ls)) t ≡ false → has_txn (begins m ls) t ≡ false
behind_none m t l ls q = go (l.from == m) q
  where
    go : (b : Bool) → has_txn (if b then begun_by l.message ++ begins m ls else begins m ls) t ≡ false → has_txn (begins m ls) t ≡ false
    go true q = (halves (has_txn (begun_by l.message) t) (has_txn (begins m ls) t) (sym (list_any-append (is_txn t) (begun_by l.message) (begins m ls)) ∙ q)).1
    go false q = q

pub none_first : (m : ℕ) (t : Txn) (ls : List Letter) → has_txn (begins m ls) t ≡ false → BeginsFirst m t ls
none_first m t [] q = tt
none_first m t (l ∷ ls) q = (let rest = behind_none m t l ls q in (inr rest, none_first m t ls rest))

none_both : {X : Type 0} (xs ys : List X) → xs ++ ys ≡ [] → (xs ≡ []) × (ys ≡ [])
none_both [] ys q = (refl, q)
none_both (x ∷ xs) ys q = absurd (cc q)

pub first_append : (m : ℕ) (t : Txn) (xs ys : List Letter) → BeginsFirst m t xs → BeginsFirst m t ys → (asks_of t xs ≡ []) ⊎ (has_txn (begins m ys) t ≡ false) → BeginsFirst m t (xs ++ ys)
first_append m t [] ys a b cross = b
first_append m t (x ∷ xs) ys a b (inl none) = (let both = none_both (ask_of t x.message) (asks_of t xs) none in (inl both.0, first_append m t xs ys a.1 b (inl both.1)))
first_append m t (x ∷ xs) ys a b (inr none) = (elim a.0 [ inl quiet ↦ inl quiet | inr before ↦ inr (neither before) ], first_append m t xs ys a.1 b (inr none))
  where
    neither : has_txn (begins m xs) t ≡ false → has_txn (begins m (xs ++ ys)) t ≡ false
    neither before = ap (λ ts. has_txn ts t) (begins_append m xs ys) ∙ list_any-append (is_txn t) (begins m xs) (begins m ys) ∙ ap (λ b. b || has_txn (begins m ys) t) before ∙ none

-- what asks for nothing and begins nothing
pub record AreMute (outs : List Out) : Type 0 where
  pub asks : (t : Txn) → asked_by t outs ≡ []
  pub begins : told outs ≡ []

pub mute_none : AreMute []
mute_none = record { asks = λ t. refl; begins = refl }

pub mute_one : (n to : ℕ) (message : Message) → ((t : Txn) → ask_of t message ≡ []) → begun_by message ≡ [] → AreMute (let out : Out = (n, to, message) in out ∷ [])
mute_one n to message asks begins = record { asks = λ t. asked t (n == 1); begins = begun (n == 1) }
  where
    asked : (t : Txn) (b : Bool) → (if b then ask_of t message ++ [] else []) ≡ []
    asked t true = ap (λ ms. ms ++ []) (asks t)
    asked t false = refl

    begun : (b : Bool) → (if b then begun_by message ++ [] else []) ≡ []
    begun true = ap (λ ts. ts ++ []) begins
    begun false = refl

pub mute_prepared : (w : Workload) (v : List ℕ) (u : Txn) (writes : List (Item × ℤ)) (ss : List Site) → AreMute (map (prepare_out w v u writes) ss)
mute_prepared w v u writes [] = mute_none
mute_prepared w v u writes (s ∷ ss) = go (mute_prepared w v u writes ss)
  where
    rest : List Out
    rest = map (prepare_out w v u writes) ss

    go : AreMute (map (prepare_out w v u writes) ss) → AreMute (prepare_out w v u writes s ∷ map (prepare_out w v u writes) ss)
    go mute = record { asks = λ t. one (s.0 + 1 == 1) (asked_by t rest) (mute.asks t); begins = one (s.0 + 1 == 1) (told rest) mute.begins }
      where
        one : {X : Type 0} (b : Bool) (xs : List X) → xs ≡ [] → (if b then xs else xs) ≡ []
        one true xs q = q
        one false xs q = q

-- of a transaction that isn't over, each ask of its program was answered or is on its way, and nothing is where none runs
abbrev pub Books : List Noted → Txn → List Message → Option Running → Type 0
Books p t asks None = (has_ended p t ≡ true) ⊎ (asks ≡ [])
Books p t asks (Some r) = (has_ended p t ≡ true) ⊎ Balance p t asks r.asks (ends_asked r.phase)

module _ (p : List Noted) (m clock : ℕ) (asks : List Letter) (bs : List Txn) where
  -- what is on its way by now, and what of it asks for a transaction
  abbrev pub on_way : List Out → List Letter
  on_way outs = asks ++ letters_to 1 m clock outs

  abbrev pub asked : Txn → List Out → List Message
  asked t outs = asks_of t asks ++ asked_by t outs

  abbrev pub IsBegun : Txn → List Out → Type 0
  IsBegun t outs = IsKnown p [] 0 m asks bs t outs

  abbrev pub BeginFirst : List Out → Type 0
  BeginFirst outs = (t : Txn) → BeginsFirst m t (asks ++ letters_to 1 m clock outs)

  pub record Kept (turn : Turn SiteState) : Type 0 where
    pub books : (t : Txn) → Books p t (asked t turn.outs) (running_of turn.state t)
    pub known : (t : Txn) (r : Running) → running_of turn.state t ≡ Some r → IsBegun t turn.outs
    pub first : BeginFirst turn.outs

  pub asked_is : (t : Txn) (outs : List Out) → asks_of t (asks ++ letters_to 1 m clock outs) ≡ asked t outs
  asked_is t outs = asks_append t asks (letters_to 1 m clock outs) ∙ ap (λ ms. asks_of t asks ++ ms) (asked_sent t m clock outs)

  pub further : (t : Txn) (outs new : List Out) → BeginsFirst m t (asks ++ letters_to 1 m clock outs) → BeginsFirst m t (letters_to 1 m clock new) → (asked t outs ≡ []) ⊎ (has_txn (told new) t ≡ false) → BeginsFirst m t (asks ++ letters_to 1 m clock (outs ++ new))
  further t outs new a b cross =
      subst (BeginsFirst m t) (sym (ap (λ ls. asks ++ ls) (letters_append 1 m clock outs new) ∙ sym (append_assoc asks (letters_to 1 m clock outs) (letters_to 1 m clock new))))
      (first_append m t (asks ++ letters_to 1 m clock outs) (letters_to 1 m clock new) a b
      (elim cross [ inl none ↦ inl (asked_is t outs ∙ none) | inr none ↦ inr (ap (λ ts. has_txn ts t) (begins_told m clock new) ∙ none) ]))

  silent : (outs new : List Out) → told new ≡ [] → BeginFirst outs → BeginFirst (outs ++ new)
  silent outs new none first t =
      let never = ap (λ ts. has_txn ts t) none in
      further t outs new (first t) (none_first m t (letters_to 1 m clock new) (ap (λ ts. has_txn ts t) (begins_told m clock new) ∙ never)) (inr never)

  -- more is sent, but nothing is asked
  pub kept_sends : (turn after : Turn SiteState) (new : List Out) → after.state.running ≡ turn.state.running → after.outs ≡ turn.outs ++ new → AreMute new → Kept turn → Kept after
  kept_sends turn after new same more mute k = record {
    books = λ t. subst (λ outs. Books p t (asked t outs) (running_of after.state t)) (sym more)
        (subst (λ ms. Books p t ms (running_of after.state t)) (sym (asked_same p [] 0 m asks bs t turn.outs new (mute.asks t))) (subst (λ rs. Books p t (asked t turn.outs) (program_of t rs)) (sym same) (k.books t)));
    known = λ t r f. subst (IsBegun t) (sym more) (known_more p [] 0 m asks bs t turn.outs new (k.known t r (ap (program_of t) (sym same) ∙ f)));
    first = subst BeginFirst (sym more) (silent turn.outs new mute.begins k.first);
  }

  -- a program is put, and what is asked is asked for it
  pub kept_puts : (turn after : Turn SiteState) (now : Running) (new : List Out) → after.state.running ≡ put_running now turn.state.running → after.outs ≡ turn.outs ++ new →
      told new ≡ [] → ((t : Txn) → (now.txn.0 == t.0) ≡ false → asked_by t new ≡ []) → Books p now.txn (asked now.txn (turn.outs ++ new)) (Some now) → IsBegun now.txn turn.outs → Kept turn → Kept after
  kept_puts turn after now new put more quiet none books known k = record {
    books = λ t. subst (λ outs. Books p t (asked t outs) (running_of after.state t)) (sym more) (subst (λ rs. Books p t (asked t (turn.outs ++ new)) (program_of t rs)) (sym put) (all t (now.txn.0 == t.0) refl));
    known = λ t r f. subst (IsBegun t) (sym more) (known_more p [] 0 m asks bs t turn.outs new (knows t r (ap (program_of t) (sym put) ∙ f) (now.txn.0 == t.0) refl));
    first = subst BeginFirst (sym more) (silent turn.outs new quiet k.first);
  }
    where
      all : (t : Txn) (b : Bool) → (now.txn.0 == t.0) ≡ b → Books p t (asked t (turn.outs ++ new)) (program_of t (put_running now turn.state.running))
      all t true e = subst (λ u. Books p u (asked u (turn.outs ++ new)) (program_of u (put_running now turn.state.running))) (same_txn now.txn t e) (subst (Books p now.txn (asked now.txn (turn.outs ++ new))) (sym (put_found now turn.state.running)) books)
      all t false e =
          subst (λ ms. Books p t ms (program_of t (put_running now turn.state.running))) (sym (asked_same p [] 0 m asks bs t turn.outs new (none t e)))
          (subst (Books p t (asked t turn.outs)) (sym (put_other t now turn.state.running e)) (k.books t))

      knows : (t : Txn) (r : Running) → program_of t (put_running now turn.state.running) ≡ Some r → (b : Bool) → (now.txn.0 == t.0) ≡ b → IsBegun t turn.outs
      knows t r f true e = subst (λ u. IsBegun u turn.outs) (same_txn now.txn t e) known
      knows t r f false e = k.known t r (sym (put_other t now turn.state.running e) ∙ f)

  -- a program whose transaction is over has ended
  pub kept_ends : (turn after : Turn SiteState) (t : Txn) → after.state.running ≡ filter (λ (r : Running). not (is_txn t r.txn)) turn.state.running → after.outs ≡ turn.outs → has_ended p t ≡ true → Kept turn → Kept after
  kept_ends turn after t less same over k = record {
    books = λ u. subst (λ outs. Books p u (asked u outs) (running_of after.state u)) (sym same) (subst (λ rs. Books p u (asked u turn.outs) (program_of u rs)) (sym less) (all u (t.0 == u.0) refl));
    known = λ u r f. subst (IsBegun u) (sym same) (knows u r (ap (program_of u) (sym less) ∙ f) (t.0 == u.0) refl);
    first = subst BeginFirst (sym same) k.first;
  }
    where
      left : List Running
      left = filter (λ (r : Running). not (is_txn t r.txn)) turn.state.running

      all : (u : Txn) (b : Bool) → (t.0 == u.0) ≡ b → Books p u (asked u turn.outs) (program_of u left)
      all u true e = subst (λ z. Books p z (asked z turn.outs) (program_of z left)) (same_txn t u e) (subst (Books p t (asked t turn.outs)) (sym (filtered_out t turn.state.running)) (inl over))
      all u false e = subst (Books p u (asked u turn.outs)) (sym (filtered_other t u turn.state.running e)) (k.books u)

      knows : (u : Txn) (r : Running) → program_of u left ≡ Some r → (b : Bool) → (t.0 == u.0) ≡ b → IsBegun u turn.outs
      knows u r f true e = absurd (cc (sym (filtered_out t turn.state.running) ∙ subst (λ z. program_of z left ≡ Some r) (sym (same_txn t u e)) f))
      knows u r f false e = k.known u r (sym (filtered_other t u turn.state.running e) ∙ f)
