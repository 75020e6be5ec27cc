-- What letters say stays so as the history grows.
use Rattle.std.proofs.Common.{◌≡◌, ℕ, ◌+◌, ◌≤◌, ◌==◌, Bool, true, false, ◌&&◌, List, [], ◌∷◌, ◌++◌, if◌then◌else◌, length, length-append, arith, sym, subst, ap, ◌∙◌, refl}
use Rattle.std.specs.List.{list_any}
use Rattle.std.proofs.lemmas.Bool.{eqb-true}
use Rattle.std.proofs.lemmas.List.Folds.{list_any-append}
use Rattle.raid_base.specs.declared.names.Txn.{Txn}
use Rattle.raid_base.specs.declared.names.Site.{Site}
use Rattle.raid_base.specs.declared.entry.Answer.{Answer}
use Rattle.raid_base.specs.declared.entry.Answer.TheVariants.{Yes}
use Rattle.raid_base.specs.declared.entry.Entry.{Entry}
use Rattle.raid_base.specs.declared.entry.Entry.TheVariants.{Down, Up}
use Rattle.raid_base.specs.declared.entry.Noted.{Noted}
use Rattle.raid_base.specs.Names.{is_site}
use Rattle.raid_workload.specs.declared.workload.Workload.{Workload}
use Rattle.raid_rules.specs.Entries.{is_begin_of, is_commit_of, is_abort_of}
use Rattle.raid_rules.specs.History.{noted, next}
use Rattle.raid_rules.specs.Sessions.{last_session}
use Rattle.raid_rules.proofs.Push.{noted_push}
use Rattle.raid_message.specs.declared.letter.Message.{Message}
use Rattle.raid_message.specs.declared.letter.Message.TheVariants as letters
use Rattle.raid_message.specs.declared.letter.Letter.{Letter}
use Rattle.raid_steps.specs.State.{Turn, Sequencer}
use Rattle.raid_steps.specs.Sequencer.{so_far, place}
use Rattle.raid_sessions.proofs.Ledger.{last_still, last_down, last_up}
use Rattle.raid_asks.proofs.Facts.{or_left}
use Rattle.raid_asks.proofs.Steps.{Why, Steps, done, placed, passes}
use Rattle.raid_letters.specs.Says.{is_applied, NoteSays, AskSays, VoteSays, PeerSays}

-- the second history has all entries of the first, and no smaller last sessions
pub record Later (p q : List Noted) : Type 0 where
  pub any : (test : Noted → Bool) → list_any test p ≡ true → list_any test q ≡ true
  pub last : (s : Site) → last_session p s ≤ last_session q s
  pub long : length p ≤ length q

pub later_same : (p : List Noted) → Later p p
later_same p = record { any = λ test h. h; last = λ s. omega arith; long = omega arith }

pub later_on : (p q r : List Noted) → Later p q → Later q r → Later p r
later_on p q r a b = record { any = λ test h. b.any test (a.any test h); last = λ s. (let x = a.last s in let y = b.last s in omega (arith, x, y)); long = (let x = a.long in let y = b.long in omega (arith, x, y)) }

module _ (w : Workload) (p q : List Noted) (later : Later p q) where
  pub later_note : (here : Site) (to : ℕ) (m : Message) → NoteSays w p here to m → NoteSays w q here to m
  later_note here to (letters.ReadDo t ask x h n) r = record { of = r.of; held = r.held; begun = later.any (λ n. is_begin_of t n.entry) r.begun; some = r.some; own = r.own }
  later_note here to (letters.Serving t ask s) r = record { of = r.of; other = r.other; begun = later.any (λ n. is_begin_of t n.entry) r.begun; some = r.some }
  later_note here to (letters.Apply t number) r = later.any (λ n. (n.at == number) && is_applied t here n.entry) r
  later_note here to (letters.Done t) r = (later.any (λ n. is_commit_of t n.entry) r.0, r.1)
  later_note here to (letters.Drop t again) r = later.any (λ n. is_abort_of t n.entry) r
  later_note here to (letters.DownNote s) r = r
  later_note here to (letters.UpNote s n) r = r
  later_note here to (letters.CopyDo x target n) r = r
  later_note here to other r = tt

  pub later_ask : (here : Site) (m : Message) → AskSays w p here m → AskSays w q here m
  later_ask here (letters.Begin t) r = r
  later_ask here (letters.ReadAsk t ask x) r = r
  later_ask here (letters.CommitAsk t request) r = (r.0, λ s known. (let a = r.1 s known in let b = later.last s in omega (arith, a, b)))
  later_ask here (letters.EndAsk t cause reads) r = r
  later_ask here other r = tt

  later_vote : (here there : Site) (from : ℕ) (t : Txn) (answer : Answer) → VoteSays w p here there from t answer → VoteSays w q here there from t answer
  later_vote here there from t Yes r = (r.0, (let a = r.1 in let b = later.last there in omega (arith, a, b)))
  later_vote here there from t other r = r

  pub later_peer : (here there : Site) (from : ℕ) (m : Message) → PeerSays w p here there from m → PeerSays w q here there from m
  later_peer here there from (letters.Value t ask v) r = record { of = r.of; begun = later.any (λ n. is_begin_of t n.entry) r.begun; some = r.some }
  later_peer here there from (letters.Prepare t ps) r = r
  later_peer here there from (letters.Vote t answer) r = later_vote here there from t answer r
  later_peer here there from (letters.CopyValue x v version) r = r
  later_peer here there from other r = tt

-- along the sequencer's step, where a Hello opens the session after the last one
module _ (w : Workload) (from : ℕ) (letter : Letter) (first : List Noted) (opens : (s : Site) → letter.message ≡ letters.Hello → from ≡ s.0 + 1 → 1 ≤ s.0 → letter.from ≡ last_session first s + 1) where
  same_site : (s r : Site) → is_site s r ≡ true → r ≡ s
  same_site s r q = ap (λ k. let z : Site = record { 0 = k } in z) (eqb-true r.0 s.0 q)

  last_grows : (h : List Entry) (ask : ℕ) (e : Entry) → Why w from letter first (noted h) ask e → (s : Site) → last_session (noted h) s ≤ last_session (noted (h ++ e ∷ [])) s
  last_grows h ask (Up r n) y s = go (is_site s r) refl
    where
      go : (b : Bool) → is_site s r ≡ b → last_session (noted h) s ≤ last_session (noted (h ++ Up r n ∷ [])) s
      go true q =
          let now = last_up w h r n s ∙ ap (λ b. if b then n else last_session (noted h) s) q in
          let hello = opens r y.0 y.1 y.3 in
          let is = y.2 in
          let was : last_session (noted h) s ≡ last_session first r = subst (λ z. last_session (noted h) z ≡ last_session first r) (same_site s r q) y.4 in
          omega (arith, now, hello, is, was)
      go false q = (let now = last_up w h r n s ∙ ap (λ b. if b then n else last_session (noted h) s) q in omega (arith, now))
  last_grows h ask (Down r) y s = (let now = last_down w h r s in omega (arith, now))
  last_grows h ask other y s = (let now = last_still w h other s refl in omega (arith, now))

  pub placed_later : (h : List Entry) (ask : ℕ) (e : Entry) → Why w from letter first (noted h) ask e → Later (noted h) (noted (h ++ e ∷ []))
  placed_later h ask e y = record {
    any = λ test q. subst (λ p. list_any test p ≡ true) (sym (noted_push h e)) (list_any-append test (noted h) (next (noted h) e ∷ []) ∙ or_left _ _ q);
    last = last_grows h ask e y;
    long = (let q = ap length (noted_push h e) ∙ length-append (noted h) (next (noted h) e ∷ []) in omega (arith, q));
  }

  pub steps_later : (a b : Turn Sequencer) → Steps w from letter first a b → Later (so_far a) (so_far b)
  steps_later a b done = later_same (so_far a)
  steps_later a b (placed ask e p goes why rest) =
      later_on (so_far a) (so_far (place w ask a e)) (so_far b) (placed_later a.state.history ask e why) (steps_later (place w ask a e) b rest)
  steps_later a b (passes {next = next} outs same more other rest) = subst (λ h. Later (noted h) (so_far b)) same (steps_later next b rest)
