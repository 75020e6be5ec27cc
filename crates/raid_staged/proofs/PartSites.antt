-- Each step of a site keeps the parts of writes those of the writes that are to be committed.
use Rattle.std.proofs.Common.{◌≡◌, ◌≢◌, ◌⊎◌, inl, inr, ℕ, ℤ, zero, suc, ◌+◌, ◌-◌, ◌<◌, ◌==◌, Bool, true, false, List, [], ◌∷◌, ◌++◌, Option, Some, None, if◌then◌else◌, arith, sym, subst, ap, ◌∙◌, refl}
use Rattle.std.specs.Prelude.{⊤, slice_get, slice_set}
use Rattle.std.specs.List.{AllByRecursion}
use Rattle.std.proofs.lemmas.Bool.{eqb-true, true≢false}
use Rattle.raid_base.specs.declared.names.Txn.{Txn}
use Rattle.raid_base.specs.declared.names.Item.{Item}
use Rattle.raid_base.specs.declared.names.Site.{Site}
use Rattle.raid_base.specs.declared.request.Request.{Request}
use Rattle.raid_base.specs.declared.entry.Noted.{Noted}
use Rattle.raid_base.specs.Names.{is_txn, is_site}
use Rattle.raid_base.specs.Sites.{site}
use Rattle.raid_workload.specs.declared.workload.Workload.{Workload}
use Rattle.raid_workload.specs.Parts.{home}
use Rattle.raid_rules.specs.Entries.{is_commit_of}
use Rattle.raid_rules.specs.History.{noted, has_begun, has_committed, has_ended}
use Rattle.raid_rules.specs.Sessions.{last_session}
use Rattle.raid_message.specs.declared.letter.Message.{Message}
use Rattle.raid_message.specs.declared.letter.Message.TheVariants as letters
use Rattle.raid_message.specs.declared.letter.Letter.{Letter}
use Rattle.raid_steps.specs.State.{Out, Turn, opened, Phase, asking, preparing, sent, Running, SiteState}
use Rattle.raid_steps.specs.Programs.{running_of}
use Rattle.raid_steps.specs.Site as rows
use Rattle.raid_steps.specs.Site.{hear_site}
use Rattle.raid_steps.specs.World.{World, link}
use Rattle.raid_sessions.proofs.Agreed.{told_follows}
use Rattle.raid_sessions.proofs.Lists.{all_weaken, get_below, get_set, get_other, some_is, same_self}
use Rattle.raid_sessions.proofs.Mail.{same_or_not, letters_to, letter_of, moved, moved_sent, moved_other}
use Rattle.raid_sessions.proofs.Reached.{server_below, from_below}
use Rattle.raid_sessions.proofs.Site.{hears_server}
use Rattle.raid_moves.specs.Moves.{Hears, Says, Given, read_here, read_elsewhere}
use Rattle.raid_moves.proofs.Places.{all_found, found_txn}
use Rattle.raid_moves.proofs.Steps.{site_moves}
use Rattle.raid_asks.specs.Way.{begins_of, begun_by}
use Rattle.raid_asks.proofs.Facts.{or_left, or_right}
use Rattle.raid_asks.proofs.Least.{Ours}
use Rattle.raid_asks.proofs.Line.{Due, line_due}
use Rattle.raid_asks.proofs.Programs.{told}
use Rattle.raid_asks.proofs.Waits.{Waits}
use Rattle.raid_letters.specs.Says.{NoteSays, AskSays, PeerSays}
use Rattle.raid_letters.proofs.Runs.{LetterSays, QueueSays}
use Rattle.raid_layers.specs.Asks.{ask_of, asks_of, has_waited, Outstanding, IsAbout, Talks}
use Rattle.raid_layers.specs.Asks as talks
use Rattle.raid_layers.proofs.Histories.{wait_waited}
use Rattle.raid_layers.proofs.SiteWorlds.{line, heard_late}
use Rattle.raid_layers.proofs.Tokens.{step_all}
use Rattle.raid_layers.proofs.Worlds as layers
use Rattle.raid_layers.proofs.Worlds.{TalkAll}
use Rattle.raid_staged.specs.Agree.{first_writes, IsPartOf, AsksPart}
use Rattle.raid_staged.proofs.Parts.{HasAsk, all_last, IsFresh, AreFresh, none_asked, OpenNow, step_now}
use Rattle.raid_staged.proofs.Parts as parts
use Rattle.raid_staged.proofs.PartWorlds.{HasAskOn, HasCommit, LinkPart, PartsIn, Told, unbegun, asked, waits, committed, OpenParts, AllParts, opens}
use Rattle.raid_staged.proofs.SiteWorlds.{monitor_sent}
use Rattle.raid_staged.proofs.Worlds.{Landed}

-- what holds of all letters holds of one that asks for a commit
ask_says : (P : Message → Type 0) (ls : List Letter) (t : Txn) (r : Request) → AllByRecursion (λ (l : Letter). P l.message) ls → HasAskOn ls t r → P (letters.CommitAsk t r)
ask_says P [] t r a h = absurd h
ask_says P (l ∷ ls) t r a (inl is) = subst P is a.0
ask_says P (l ∷ ls) t r a (inr more) = ask_says P ls t r a.1 more

-- no commit is asked for
abbrev NoCommit : Message → Type 0
NoCommit (letters.CommitAsk t r) = ⊥
NoCommit other = ⊤

no_commit : (ls : List Letter) (t : Txn) (r : Request) → AllByRecursion NoCommit (asks_of t ls) → HasAskOn ls t r → ⊥
no_commit [] t r a h = h
no_commit (l ∷ ls) t r a (inl is) = first (is_txn t t) (same_self t.0) (subst (λ m. AllByRecursion NoCommit (ask_of t m ++ asks_of t ls)) is a)
  where
    first : (b : Bool) → b ≡ true → AllByRecursion NoCommit ((if b then letters.CommitAsk t r ∷ [] else []) ++ asks_of t ls) → ⊥
    first true q h = h.0
    first false q h = true≢false (sym q)
no_commit (l ∷ ls) t r a (inr more) = no_commit ls t r (all_last NoCommit (ask_of t l.message) (asks_of t ls) a) more

ask_split : (xs ys : List Letter) (t : Txn) (r : Request) → HasAskOn (xs ++ ys) t r → HasAskOn xs t r ⊎ HasAskOn ys t r
ask_split [] ys t r h = inr h
ask_split (x ∷ xs) ys t r (inl is) = inl (inl is)
ask_split (x ∷ xs) ys t r (inr more) = elim (ask_split xs ys t r more) [ inl a ↦ inl (inr a) | inr b ↦ inr b ]

ask_sent : (session clock : ℕ) (outs : List Out) (t : Txn) (r : Request) → HasAskOn (letters_to 1 session clock outs) t r → HasAsk outs t r
ask_sent session clock [] t r h = h
ask_sent session clock (out ∷ outs) t r h = go (out.0 == 1) h (ask_sent session clock outs t r)
  where
    go : (b : Bool) → HasAskOn (if b then letter_of session clock out ∷ letters_to 1 session clock outs else letters_to 1 session clock outs) t r → (HasAskOn (letters_to 1 session clock outs) t r → HasAsk outs t r) → HasAsk (out ∷ outs) t r
    go true (inl is) rest = inl is
    go true (inr more) rest = inr (rest more)
    go false h rest = inr (rest h)

commit_committed : (ns : List Noted) (t : Txn) (r : Request) → HasCommit ns t r → has_committed ns t ≡ true
commit_committed [] t r h = absurd h
commit_committed (n ∷ ns) t r (inl now) = or_left (is_commit_of t n.entry) (has_committed ns t) (ap (is_commit_of t) now.1 ∙ same_self t.0)
commit_committed (n ∷ ns) t r (inr more) = or_right (is_commit_of t n.entry) (has_committed ns t) (commit_committed ns t r more)

-- the Begins that are told are of who hasn't begun
due_fresh : (w : Workload) (s : Site) (p : List Noted) (outs : List Out) → AllByRecursion (Due w s p) (told outs) → AreFresh p outs
due_fresh w s p [] a = tt
due_fresh w s p (out ∷ outs) a = go (out.0 == 1) refl a (due_fresh w s p outs)
  where
    one : (m : Message) → AllByRecursion (Due w s p) (begun_by m) → IsFresh p out.0 m
    one (letters.Begin t) h = λ e. h.0.fresh
    one other h = tt

    none : (m : Message) → (out.0 == 1) ≡ false → IsFresh p out.0 m
    none (letters.Begin t) q = λ e. absurd (true≢false (sym (same_self 1) ∙ subst (λ n. (n == 1) ≡ false) e q))
    none other q = tt

    split : (xs ys : List Txn) → AllByRecursion (Due w s p) (xs ++ ys) → AllByRecursion (Due w s p) xs × AllByRecursion (Due w s p) ys
    split [] ys h = (tt, h)
    split (x ∷ xs) ys h = (let more = split xs ys h.1 in ((h.0, more.0), more.1))

    go : (b : Bool) → (out.0 == 1) ≡ b → AllByRecursion (Due w s p) (if b then begun_by out.2 ++ told outs else told outs) → (AllByRecursion (Due w s p) (told outs) → AreFresh p outs) → AreFresh p (out ∷ outs)
    go true q h rest = (let both = split (begun_by out.2) (told outs) h in (one out.2 both.0, rest both.1))
    go false q h rest = (none out.2 q, rest h)

same_number : (k j : ℕ) (h : Site) → is_site (site (k + 1)) h ≡ true → is_site (site (j + 1)) h ≡ true → k ≡ j
same_number k j h a b = (let x = eqb-true h.0 (k + 1) a in let y = eqb-true h.0 (j + 1) b in omega (arith, x, y))

-- the program hasn't sent its last ask
abbrev IsOpen : Phase → Type 0
IsOpen sent = ⊥
IsOpen other = ⊤

module _ (w : Workload) (state : World) (landed : Landed w state) (layer : layers.Landed w state.servers state.links) (talk : TalkAll w state.servers state.links) (all : AllParts w (noted state.servers.sequencer.history) state.servers.sites state.links)
    (from clock : ℕ) (letter : Letter) (rest : List Letter) (j : ℕ) (own : SiteState) (at : slice_get state.servers.sites j ≡ Some own) (front : link state.links (suc (suc j)) from ≡ letter ∷ rest)
    (after_cares : Waits w (record (state.servers) { sites = slice_set state.servers.sites j (hear_site w own from letter).state }) (moved state.links (suc (suc j)) from (hear_site w own from letter).state.session clock rest (hear_site w own from letter).outs)) where
  abbrev Writes : Type 0
  Writes = List (Item × ℤ)

  abbrev p : List Noted
  p = noted state.servers.sequencer.history

  abbrev sites : List SiteState
  sites = state.servers.sites

  abbrev turn : Turn SiteState
  turn = hear_site w own from letter

  abbrev changed : List SiteState
  changed = slice_set state.servers.sites j (hear_site w own from letter).state

  abbrev after : List (List (List Letter))
  after = moved state.links (suc (suc j)) from (hear_site w own from letter).state.session clock rest (hear_site w own from letter).outs

  known : from < w.sites + 2
  known = from_below (w.sites + 2) state.links (suc (suc j)) from letter rest landed.says.reached.square front

  inside : suc (suc j) < w.sites + 2
  inside = server_below (w.sites + 2) state.links (suc (suc j)) from letter rest landed.says.reached.square front

  place : suc (suc j) ≡ j + 2
  place = omega arith

  number : site (suc (suc j) - 1) ≡ site (j + 1)
  number = ap site (let e : suc (suc j) - 1 ≡ j + 1 = omega arith in e)

  -- a program's home
  at_home : (k : ℕ) (s : SiteState) → slice_get sites k ≡ Some s → (t : Txn) (r : Running) → running_of s t ≡ Some r → is_site (site (k + 1)) (home w t) ≡ true
  at_home k s there t r f =
      subst (λ z. is_site (site (k + 1)) (home w z) ≡ true) (found_txn t s.running r f)
      (all_found (λ (r : Running). is_site (site (k + 1)) (home w r.txn) ≡ true) (λ (r : Running). is_txn t r.txn) s.running r (all_weaken (λ (r : Running). Ours w (site (k + 1)) r.txn) (λ (r : Running). is_site (site (k + 1)) (home w r.txn) ≡ true) s.running (λ r h. h.at) (landed.says.homes k s there).running) f)

  ask_home : (k : ℕ) (t : Txn) (r : Request) → HasAskOn (link state.links 1 (k + 2)) t r → is_site (site (k + 1)) (home w t) ≡ true
  ask_home k t r h =
      (ask_says (AskSays w p (site (k + 1))) (link state.links 1 (suc (suc k))) t r (all_weaken (LetterSays w p 1 (suc (suc k))) (λ (l : Letter). AskSays w p (site (k + 1)) l.message) (link state.links 1 (suc (suc k))) (λ l says. says.0) (landed.says.says 1 (suc (suc k))))
      (subst (λ c. HasAskOn (link state.links 1 c) t r) (let e : k + 2 ≡ suc (suc k) = omega arith in e) h)).0.1

  -- what is claimed of programs elsewhere
  abbrev Elsewhere : Txn → Option (List (Item × ℤ)) → Type 0
  Elsewhere t o = (k : ℕ) × ((k ≢ j) × ((is_site (site (k + 1)) (home w t) ≡ true) × (PartsIn w sites state.links t o × (has_begun p t ≡ false → o ≡ first_writes w t))))

  abbrev Claimed : Txn → Option (List (Item × ℤ)) → Type 0
  Claimed t o = Told w p state.links t o ⊎ Elsewhere t o

  abbrev Old : Txn → Option (List (Item × ℤ)) → Type 0
  Old t o = PartsIn w state.servers.sites state.links t o

  claimed_old : (t : Txn) (o : Option (List (Item × ℤ))) → Claimed t o → Old t o × (has_begun p t ≡ false → o ≡ first_writes w t)
  claimed_old t o (inl told) = all.told t o told
  claimed_old t o (inr (k, (differ, (here, both)))) = both

  -- of a program that runs here and hasn't sent its last ask nothing is told but what is so before it begins
  module _ (t : Txn) (r : Running) (f : running_of own t ≡ Some r) where
    asks : List Message
    asks = asks_of t (link state.links 1 (j + 2))

    about : Talks p state.links j own.session t (asks_of t (link state.links 1 (j + 2))) (Some r)
    about = (let o = opens w state landed all from clock letter rest j own at t r f in subst (Talks p state.links j own.session t (asks_of t (link state.links 1 (j + 2)))) f (talk.1 j own at o.0 o.1.0 t))

    quiet : has_ended p t ≡ false → (phase : Phase) → IsOpen phase → r.phase ≡ phase → (has_waited p t ≡ false) × AllByRecursion NoCommit (asks_of t (link state.links 1 (j + 2)))
    quiet alive phase is_open is = elim about.1 [ inl over ↦ absurd (true≢false (sym over ∙ alive)) | inr is_about ↦ go phase is_open (subst (IsAbout p state.links j own.session t r.asks r.answers (asks_of t (link state.links 1 (j + 2)))) is is_about) ]
      where
        waiting : {ask : ℕ} {x : Item} {q : Option Site} → Outstanding p state.links j own.session t ask x q (asks_of t (link state.links 1 (j + 2))) → AllByRecursion NoCommit (asks_of t (link state.links 1 (j + 2)))
        waiting (talks.asked e n toks) = subst (AllByRecursion NoCommit) (sym e) (tt, tt)
        waiting (talks.dropped e n toks) = subst (AllByRecursion NoCommit) (sym e) tt
        waiting (talks.read n s e l is has toks server falls) = subst (AllByRecursion NoCommit) (sym e) tt

        go : (phase : Phase) → IsOpen phase → IsAbout p state.links j own.session t r.asks r.answers (asks_of t (link state.links 1 (j + 2))) phase → (has_waited p t ≡ false) × AllByRecursion NoCommit (asks_of t (link state.links 1 (j + 2)))
        go (asking ask x q) o a = (a.1.0, waiting a.1.1.1)
        go (preparing told writes awaited) o a = (a.1.0, subst (AllByRecursion NoCommit) (sym a.0) tt)
        go sent o a = absurd o

    untold : (phase : Phase) → IsOpen phase → r.phase ≡ phase → (o : Option Writes) → Claimed t o → has_begun p t ≡ false
    untold phase is_open is o (inl (unbegun new same)) = new
    untold phase is_open is o (inl (asked k q h alive same)) =
        let here = same_number k j (home w t) (ask_home k t q h) (at_home j own at t r f) in
        absurd (no_commit (link state.links 1 (j + 2)) t q (quiet alive phase is_open is).1 (subst (λ z. HasAskOn (link state.links 1 (z + 2)) t q) here h))
    untold phase is_open is o (inl (waits q h alive same)) = absurd (true≢false (sym (wait_waited p t q h) ∙ (quiet alive phase is_open is).0))
    untold phase is_open is o (inl (committed q h same)) = absurd (subst IsOpen (sym is ∙ about.0 (commit_committed p t q h)) is_open)
    untold phase is_open is o (inr (k, (differ, (here, both)))) = absurd (differ (same_number k j (home w t) here (at_home j own at t r f)))

    old_runs : OpenNow w p j own from letter Claimed Old (opened own) t r.phase
    old_runs = go r.phase refl (opens w state landed all from clock letter rest j own at t r f).1.1
      where
        same : (phase : Phase) → IsOpen phase → r.phase ≡ phase → (o : Option Writes) → (has_begun p t ≡ false → o ≡ first_writes w t) → (q : Option Writes) → parts.ToldIn w p j own from letter Claimed Old (opened own) t q → q ≡ o
        same phase is_open is o first q (inl c) = (let new = untold phase is_open is q c in (claimed_old t q c).1 new ∙ sym (first new))
        same phase is_open is o first q (inr h) = absurd h.1.1.0

        go : (phase : Phase) → r.phase ≡ phase → OpenParts w p sites state.links t phase → OpenNow w p j own from letter Claimed Old (opened own) t phase
        go (asking ask x q) is h = ((λ alive. (h.0 alive, ((h.0 alive).staged j own at, tt))), (h.1, same (asking ask x q) tt is None h.1))
        go (preparing told writes awaited) is h = ((λ alive. (h.0 alive, ((h.0 alive).staged j own at, tt))), (h.1, same (preparing told writes awaited) tt is (Some writes) h.1))
        go sent is h = tt

  -- what is known of the letter
  said : QueueSays w p (suc (suc j)) from (letter ∷ rest)
  said = subst (QueueSays w p (suc (suc j)) from) front (landed.says.says (suc (suc j)) from)

  given_begun : (t : Txn) (ask : ℕ) (v : ℤ) → Given w own from letter t ask v → has_begun p t ≡ true
  given_begun t ask v (read_here x h n c e q i) = (subst (NoteSays w p (site (suc (suc j) - 1)) letter.to) e.is (subst (λ d. LetterSays w p (suc (suc j)) d letter) e.by said.0)).begun
  given_begun t ask v (read_elsewhere i u e) = (subst (PeerSays w p (site (suc (suc j) - 1)) (site (i + 1)) letter.from) e.is (subst (λ d. LetterSays w p (suc (suc j)) d letter) e.by said.0).1).begun

  old_prepare : (i : ℕ) (u : Txn) (pairs : Writes) (t : Txn) (o : Option Writes) → Says w own from letter i (letters.Prepare u pairs) → Old t o → is_txn t u ≡ true → IsPartOf w (site (j + 1)) o pairs
  old_prepare i u pairs t o e h same =
      let its = subst (λ d. LinkPart w t o (suc (suc j)) d letter) e.by (subst (AllByRecursion (LinkPart w t o (suc (suc j)) from)) front (h.on_links (suc (suc j)) from)).0 in
      subst (λ z. IsPartOf w z o pairs) number (subst (AsksPart w t o (site (suc (suc j) - 1))) e.is its same)

  none_any : (t : Txn) (o : Option Writes) → Old t None → Old t o
  none_any t o h = record {
    staged = λ k s there. all_weaken (λ (e : Txn × List (Item × ℤ)). is_txn t e.0 ≡ true → IsPartOf w (site (k + 1)) None e.1) (λ (e : Txn × List (Item × ℤ)). is_txn t e.0 ≡ true → IsPartOf w (site (k + 1)) o e.1) s.staged (λ e none same. absurd (none same)) (h.staged k s there);
    on_links = λ c d. all_weaken (LinkPart w t None c d) (LinkPart w t o c d) (link state.links c d) (λ l. weaker c d l) (h.on_links c d);
  }
    where
      weaker : (c d : ℕ) (l : Letter) → LinkPart w t None c d l → LinkPart w t o c d l
      weaker c zero l q = tt
      weaker c (suc zero) l q = tt
      weaker c (suc (suc i)) l q = none_asked w t o (site (c - 1)) l.message q

  -- who begins hasn't begun
  abbrev IsKept : Turn SiteState → Type 0
  IsKept turn = (turn.state.up ≡ own.up) × (turn.state.session ≡ own.session)

  kept_step : (from ≡ 0 → ⊥) → IsKept (hear_site w own from letter)
  kept_step some = go own.up refl from refl
    where
      go : (u : Bool) → own.up ≡ u → (f : ℕ) → from ≡ f → IsKept (if u then rows.hear_up w own f letter else rows.hear_down own f letter)
      go u up zero of = absurd (some of)
      go true up (suc i) of = (let kept = hears_server w own.up own.session own i letter (refl, refl, refl) in (kept.0, kept.1))
      go false up (suc i) of = (refl, refl)

  fresh : Hears own letter → AreFresh p turn.outs
  fresh h = go (same_or_not from 0)
    where
      go : (from ≡ 0) ⊎ (from ≢ 0) → AreFresh p turn.outs
      go (inl none) = all_weaken (λ (out : Out). (n : ℕ) → IsFresh p n out.2) (λ (out : Out). IsFresh p out.0 out.2) turn.outs (λ out a. a out.0) (monitor_sent (λ m. (n : ℕ) → IsFresh p n m) (λ n. tt) (λ n. tt) w own from letter none)
      go (inr some) =
          let kept = kept_step some in
          let to = eqb-true letter.to own.session h.meant in
          let late = heard_late w state.servers state.links layer talk from clock letter rest known j own at front some in
          let follows = told_follows w state landed.says.reached j own at in
          let due = line_due w (site (j + 1)) p _ (line w state.servers state.links layer talk from clock letter rest known j own at front after_cares h.up some kept.0 kept.1 (omega (arith, to, late, follows))) in
          due_fresh w (site (j + 1)) p turn.outs (all_last (Due w (site (j + 1)) p) (begins_of own.session (link state.links 1 (j + 2))) (told turn.outs) due)

  ends : parts.Now w p j own from letter Claimed Old turn
  ends =
      step_now w p j own from letter Claimed Old (λ t new. inl (unbegun new refl)) (landed.says.homes j own at).place claimed_old (λ t o h. h.staged j own at) none_any old_prepare old_runs (λ t r ask x q f is o c. untold t r f (asking ask x q) tt is o c) given_begun
      (site_moves w own from letter (landed.says.homes j own at).ascend) fresh

  -- the world after the step
  own_is : (z : SiteState) → slice_get changed j ≡ Some z → turn.state ≡ z
  own_is z there = some_is turn.state z (sym (get_set sites j turn.state (get_below sites j own at)) ∙ there)

  parts_after : (t : Txn) (o : Option Writes) → parts.Held w p j own from letter Claimed Old t o turn → PartsIn w changed after t o
  parts_after t o h = record {
    staged = λ i s there. staged i s there (same_or_not i j);
    on_links = step_all (LinkPart w t o) (suc (suc j)) from turn.state.session clock letter rest turn.outs state.links front h.1.1 h.0.on_links;
  }
    where
      staged : (i : ℕ) (s : SiteState) → slice_get changed i ≡ Some s → (i ≡ j) ⊎ (i ≢ j) → AllByRecursion (λ (e : Txn × List (Item × ℤ)). is_txn t e.0 ≡ true → IsPartOf w (site (i + 1)) o e.1) s.staged
      staged i s there (inl e) =
          subst (λ z. AllByRecursion (λ (e : Txn × List (Item × ℤ)). is_txn t e.0 ≡ true → IsPartOf w (site (z + 1)) o e.1) s.staged) (sym e)
          (subst (λ (z : SiteState). AllByRecursion (λ (e : Txn × List (Item × ℤ)). is_txn t e.0 ≡ true → IsPartOf w (site (j + 1)) o e.1) z.staged) (own_is s (ap (slice_get changed) (sym e) ∙ there)) h.1.0)
      staged i s there (inr differ) = h.0.staged i s (sym (get_other sites j i turn.state differ) ∙ there)

  told_after : (t : Txn) (o : Option Writes) → Told w p after t o → parts.ToldIn w p j own from letter Claimed Old turn t o
  told_after t o (unbegun new is) = inl (inl (unbegun new is))
  told_after t o (waits r h alive is) = inl (inl (waits r h alive is))
  told_after t o (committed r h is) = inl (inl (committed r h is))
  told_after t o (asked k r h alive is) = go (same_or_not k j)
    where
      sent_is : link after 1 (j + 2) ≡ link state.links 1 (j + 2) ++ letters_to 1 turn.state.session clock turn.outs
      sent_is = ap (link after 1) (sym place) ∙ moved_sent (w.sites + 2) state.links (suc (suc j)) from turn.state.session clock rest turn.outs landed.says.reached.square inside 1 (omega arith) (λ e. omega (arith, e)) ∙ ap (λ d. link state.links 1 d ++ letters_to 1 turn.state.session clock turn.outs) place

      go : (k ≡ j) ⊎ (k ≢ j) → parts.ToldIn w p j own from letter Claimed Old turn t o
      go (inl e) = elim (ask_split (link state.links 1 (j + 2)) (letters_to 1 turn.state.session clock turn.outs) t r (subst (λ ls. HasAskOn ls t r) (ap (λ z. link after 1 (z + 2)) e ∙ sent_is) h)) [
        | inl old ↦ inl (inl (asked j r old alive is))
        | inr new ↦ inr (alive, (r, (ask_sent turn.state.session clock turn.outs t r new, is)))
      ]
      go (inr differ) =
          inl (inl (asked k r (subst (λ ls. HasAskOn ls t r) (moved_other (w.sites + 2) state.links (suc (suc j)) from turn.state.session clock rest turn.outs landed.says.reached.square inside 1 (k + 2) (omega arith) (λ e. differ (omega (arith, e))) (inl (λ e. omega (arith, e)))) h) alive is))

  pub site_parts : AllParts w (noted state.servers.sequencer.history) (slice_set state.servers.sites j (hear_site w own from letter).state)
      (moved state.links (suc (suc j)) from (hear_site w own from letter).state.session clock rest (hear_site w own from letter).outs)
  site_parts = record {
    told = λ t o h. (let now = ends.told t o (told_after t o h) in (parts_after t o now.0, now.1));
    runs = λ k s there up last t r f. runs k s there up last t r f (same_or_not k j);
  }
    where
      here : (t : Txn) (phase : Phase) → OpenNow w p j own from letter Claimed Old turn t phase → OpenParts w p changed after t phase
      here t (asking ask x q) h = ((λ alive. parts_after t None (h.0 alive)), h.1.0)
      here t (preparing told writes awaited) h = ((λ alive. parts_after t (Some writes) (h.0 alive)), h.1.0)
      here t sent h = tt

      there_still : (k : ℕ) (t : Txn) → k ≢ j → is_site (site (k + 1)) (home w t) ≡ true → (phase : Phase) → OpenParts w p sites state.links t phase → OpenParts w p changed after t phase
      there_still k t differ mine (asking ask x q) h = ((λ alive. parts_after t None (ends.told t None (inl (inr (k, (differ, (mine, (h.0 alive, h.1))))))).0), h.1)
      there_still k t differ mine (preparing told writes awaited) h = ((λ alive. parts_after t (Some writes) (ends.told t (Some writes) (inl (inr (k, (differ, (mine, (h.0 alive, h.1))))))).0), h.1)
      there_still k t differ mine sent h = tt

      runs : (k : ℕ) (s : SiteState) → slice_get changed k ≡ Some s → s.up ≡ true → last_session p (site (k + 1)) ≡ s.session → (t : Txn) (r : Running) → running_of s t ≡ Some r → (k ≡ j) ⊎ (k ≢ j) → OpenParts w p changed after t r.phase
      runs k s there up last t r f (inl e) = here t r.phase (ends.runs t r (ap (λ z. running_of z t) (own_is s (ap (slice_get changed) (sym e) ∙ there)) ∙ f))
      runs k s there up last t r f (inr differ) =
          let was = sym (get_other sites j k turn.state differ) ∙ there in
          there_still k t differ (at_home k s was t r f) r.phase (all.runs k s was up last t r f)
