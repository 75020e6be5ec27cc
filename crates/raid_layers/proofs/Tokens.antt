-- Tokens on all links: a claim of them is kept where what is sent keeps it; and notes that a site is down, along the sequencer's link.
use Rattle.std.proofs.Common.{◌≡◌, ℕ, zero, suc, ◌+◌, ◌-◌, ◌==◌, Bool, true, false, ◌||◌, List, [], ◌∷◌, ◌++◌, fold, if◌then◌else◌, arith, sym, subst, ap, ◌∙◌, refl, append_assoc}
use Rattle.std.specs.List.{AllByRecursion}
use Rattle.std.proofs.lemmas.Bool.{and_parts, eqb-true, true≢false}
use Rattle.raid_base.specs.declared.names.Txn.{Txn}
use Rattle.raid_base.specs.declared.names.Site.{Site}
use Rattle.raid_base.specs.declared.entry.Noted.{Noted}
use Rattle.raid_base.specs.Names.{is_txn, is_site}
use Rattle.raid_base.specs.Sites.{site}
use Rattle.raid_workload.specs.declared.workload.Workload.{Workload}
use Rattle.raid_workload.specs.Parts.{home}
use Rattle.raid_rules.specs.History.{has_begun}
use Rattle.raid_rules.proofs.Push.{same_txn}
use Rattle.raid_legal.specs.Seen.{has_down_after}
use Rattle.raid_message.specs.declared.letter.Message.{Message}
use Rattle.raid_message.specs.declared.letter.Message.TheVariants as letters
use Rattle.raid_message.specs.declared.letter.Letter.{Letter}
use Rattle.raid_steps.specs.State.{Out}
use Rattle.raid_steps.specs.World.{link, set_link, post}
use Rattle.raid_sessions.proofs.Lists.{all_append, all_weaken, same_self}
use Rattle.raid_letters.specs.Says.{NoteSays, AskSays, PeerSays}
use Rattle.raid_letters.proofs.Runs.{set_all, LetterSays, LinksSay}
use Rattle.raid_layers.specs.Asks.{ask_of, asks_of, Token, reading, bringing, serving, Claim, OfSequencer, OfSite, HoldsOf, AllTokens, IsBelow, serves_in, tells_server, FallsLater}

-- what holds of each letter, by its link
abbrev pub OnLinks : (ℕ → ℕ → Letter → Type 0) → List (List (List Letter)) → Type 0
OnLinks P links = (server from : ℕ) → AllByRecursion (P server from) (link links server from)

-- still does after a step, where it does of what is sent
pub posts_all : (P : ℕ → ℕ → Letter → Type 0) (server session clock : ℕ) (outs : List Out) (links : List (List (List Letter))) →
    AllByRecursion (λ (out : Out). P out.0 server (let l : Letter = record { clock = clock; from = session; to = out.1; message = out.2 } in l)) outs → OnLinks P links → OnLinks P (fold (post server session clock) links outs)
posts_all P server session clock [] links a h = h
posts_all P server session clock (out ∷ outs) links a h =
    posts_all P server session clock outs (post server session clock links out) a.1
    (set_all (λ c d queue. AllByRecursion (P c d) queue) links out.0 server _ h (all_append (P out.0 server) (link links out.0 server) (record { clock = clock; from = session; to = out.1; message = out.2 } ∷ []) (h out.0 server) (a.0, tt)))

pub step_all : (P : ℕ → ℕ → Letter → Type 0) (server from session clock : ℕ) (l : Letter) (rest : List Letter) (outs : List Out) (links : List (List (List Letter))) → link links server from ≡ l ∷ rest →
    AllByRecursion (λ (out : Out). P out.0 server (let l : Letter = record { clock = clock; from = session; to = out.1; message = out.2 } in l)) outs → OnLinks P links → OnLinks P (fold (post server session clock) (set_link links server from rest) outs)
step_all P server from session clock l rest outs links front a h =
    posts_all P server session clock outs (set_link links server from rest) a (set_all (λ c d queue. AllByRecursion (P c d) queue) links server from rest h (subst (AllByRecursion (P server from)) front (h server from)).1)

module _ (t : Txn) (k m : ℕ) where
  abbrev pub TokenAt : Claim → ℕ → ℕ → Letter → Type 0
  TokenAt P server from l = HoldsOf t k m P server from l.to l.message

  -- a claim that follows from another
  pub weaken : (P Q : Claim) → ((a : ℕ) (token : Token) → P a token → Q a token) → (server from to : ℕ) (message : Message) → HoldsOf t k m P server from to message → HoldsOf t k m Q server from to message
  weaken P Q each server zero to message h = tt
  weaken P Q each server (suc zero) to message h = go message h
    where
      go : (message : Message) → OfSequencer t k m P server to message → OfSequencer t k m Q server to message
      go (letters.ReadDo u ask x s n) h = λ a b c. each ask (reading server x) (h a b c)
      go (letters.Serving u ask s) h = λ a b c. each ask (serving s) (h a b c)
      go other h = tt
  weaken P Q each server (suc (suc j)) to message h = go message h
    where
      go : (message : Message) → OfSite t k m P server to message → OfSite t k m Q server to message
      go (letters.Value u ask v) h = λ a b c. each ask bringing (h a b c)
      go other h = tt

  pub all_weaker : (links : List (List (List Letter))) (P Q : Claim) → ((a : ℕ) (token : Token) → P a token → Q a token) → AllTokens links t k m P → AllTokens links t k m Q
  all_weaker links P Q each a server from = all_weaken (TokenAt P server from) (TokenAt Q server from) (link links server from) (λ l h. weaken P Q each server from l.to l.message h) (a server from)

  -- claims hold of what is sent
  abbrev pub SentHolds : Claim → ℕ → List Out → Type 0
  SentHolds P server outs = AllByRecursion (λ (out : Out). HoldsOf t k m P out.0 server out.1 out.2) outs

  pub tokens_step : (P : Claim) (server from session clock : ℕ) (l : Letter) (rest : List Letter) (outs : List Out) (links : List (List (List Letter))) → link links server from ≡ l ∷ rest →
      SentHolds P server outs → AllTokens links t k m P → AllTokens (fold (post server session clock) (set_link links server from rest) outs) t k m P
  tokens_step P server from session clock l rest outs links front a h = step_all (TokenAt P) server from session clock l rest outs links front a h

  -- of a transaction that hasn't begun there are no tokens
  pub none_of : (w : Workload) (p : List Noted) (links : List (List (List Letter))) (P : Claim) → LinksSay w p links → has_begun p t ≡ false → AllTokens links t k m P
  none_of w p links P says fresh server from = all_weaken (LetterSays w p server from) (TokenAt P server from) (link links server from) (λ l h. go from l h) (says server from)
    where
      begun : (u : Txn) → has_begun p u ≡ true → is_txn t u ≡ true → ⊥
      begun u b same = true≢false (sym b ∙ subst (λ z. has_begun p z ≡ false) (sym (same_txn u t same)) fresh)

      note : (message : Message) (to : ℕ) → NoteSays w p (site (server - 1)) to message → OfSequencer t k m P server to message
      note (letters.ReadDo u ask x s n) to h = λ a b c. absurd (begun u h.begun a)
      note (letters.Serving u ask s) to h = λ a b c. absurd (begun u h.begun a)
      note other to h = tt

      peer : (j : ℕ) (message : Message) (to n : ℕ) → PeerSays w p (site (server - 1)) (site (j + 1)) n message → OfSite t k m P server to message
      peer j (letters.Value u ask v) to n h = λ a b c. absurd (begun u h.begun a)
      peer j other to n h = tt

      go : (from : ℕ) (l : Letter) → LetterSays w p server from l → TokenAt P server from l
      go zero l h = tt
      go (suc zero) l h = note l.message l.to h
      go (suc (suc j)) l h = peer j l.message l.to l.from h.1

  -- where tokens are of earlier asks, none tells who serves this one
  not_served : (ask : ℕ) (l : Letter) (b : Bool) → tells_server t m ask l ≡ b → OfSequencer t k m (IsBelow ask) (k + 2) l.to l.message → b ≡ false
  not_served ask l true q h = absurd (go l.message (and_parts (l.to == m) (serves_in t ask l.message) q) h)
    where
      go : (message : Message) → ((l.to == m) ≡ true) × (serves_in t ask message ≡ true) → OfSequencer t k m (IsBelow ask) (k + 2) l.to message → ⊥
      go (letters.Serving u a s) q h =
          let both = and_parts (is_txn t u) (a == ask) q.1 in
          let low = h both.0 (same_self (k + 2)) q.0 in
          let same = eqb-true a ask both.1 in
          omega (arith, low, same)
      go other q h = true≢false (sym q.1)
  not_served ask l false q h = refl

  pub no_falls : (p : List Noted) (ask : ℕ) (s : Site) (at : ℕ) (ls : List Letter) → AllByRecursion (TokenAt (IsBelow ask) (k + 2) 1) ls → FallsLater p t m ask s at false ls
  no_falls p ask s at [] a = tt
  no_falls p ask s at (l ∷ ls) a = ((λ q. absurd (true≢false (sym q))), subst (λ b. FallsLater p t m ask s at b ls) (sym (not_served ask l (tells_server t m ask l) refl a.0)) (no_falls p ask s at ls a.1))

-- a note that the site is down comes after it went down
abbrev pub Fell : List Noted → Site → ℕ → Letter → Type 0
Fell q s at l = l.message ≡ letters.DownNote s → has_down_after q at s ≡ true

module _ (p q : List Noted) (t : Txn) (m ask : ℕ) (s : Site) (at : ℕ) where
  new_falls : (known : Bool) (new : List Letter) → AllByRecursion (Fell q s at) new → FallsLater q t m ask s at known new
  new_falls known [] a = tt
  new_falls known (l ∷ ls) a = ((λ k to is. a.0 is), new_falls (known || tells_server t m ask l) ls a.1)

  pub falls_on : (has_down_after p at s ≡ true → has_down_after q at s ≡ true) → (known : Bool) (ls new : List Letter) → FallsLater p t m ask s at known ls → AllByRecursion (Fell q s at) new → FallsLater q t m ask s at known (ls ++ new)
  falls_on more known [] new h a = new_falls known new a
  falls_on more known (l ∷ ls) new h a = ((λ k to is. more (h.0 k to is)), falls_on more (known || tells_server t m ask l) ls new h.1 a)

-- what is known needn't be
pub falls_less : (p : List Noted) (t : Txn) (m ask : ℕ) (s : Site) (at : ℕ) (known : Bool) (ls : List Letter) → FallsLater p t m ask s at true ls → FallsLater p t m ask s at known ls
falls_less p t m ask s at known [] h = tt
falls_less p t m ask s at known (l ∷ ls) h = ((λ k. h.0 refl), falls_less p t m ask s at (known || tells_server t m ask l) ls h.1)

pub falls_rest : (p : List Noted) (t : Txn) (m ask : ℕ) (s : Site) (at : ℕ) (known : Bool) (l : Letter) (ls : List Letter) → FallsLater p t m ask s at known (l ∷ ls) → FallsLater p t m ask s at known ls
falls_rest p t m ask s at true l ls h = h.1
falls_rest p t m ask s at false l ls h = go (tells_server t m ask l) h.1
  where
    go : (b : Bool) → FallsLater p t m ask s at b ls → FallsLater p t m ask s at false ls
    go true h = falls_less p t m ask s at false ls h
    go false h = h

-- asks
pub asks_append : (t : Txn) (ls ms : List Letter) → asks_of t (ls ++ ms) ≡ asks_of t ls ++ asks_of t ms
asks_append t [] ms = refl
asks_append t (l ∷ ls) ms = ap (λ xs. ask_of t l.message ++ xs) (asks_append t ls ms) ∙ sym (append_assoc (ask_of t l.message) (asks_of t ls) (asks_of t ms))

-- an ask is of a transaction of the site's
abbrev pub IsAskOf : Txn → Message → Type 0
IsAskOf t (letters.ReadAsk u ask x) = is_txn t u ≡ true
IsAskOf t (letters.CommitAsk u request) = is_txn t u ≡ true
IsAskOf t (letters.EndAsk u cause reads) = is_txn t u ≡ true
IsAskOf t other = ⊥

-- a message that asks for the transaction is such an ask, and one that doesn't isn't
pub data AsksFor (t : Txn) (message : Message) : List Message → Type 0 where
  asks_not : (IsAskOf t message → ⊥) → AsksFor t message []
  asks_it : IsAskOf t message → AsksFor t message (message ∷ [])

pub asks_for : (t : Txn) (message : Message) → AsksFor t message (ask_of t message)
asks_for t (letters.ReadAsk u ask x) = go (is_txn t u) refl
  where
    go : (b : Bool) → is_txn t u ≡ b → AsksFor t (letters.ReadAsk u ask x) (if b then letters.ReadAsk u ask x ∷ [] else [])
    go true q = asks_it q
    go false q = asks_not (λ h. true≢false (sym h ∙ q))
asks_for t (letters.CommitAsk u request) = go (is_txn t u) refl
  where
    go : (b : Bool) → is_txn t u ≡ b → AsksFor t (letters.CommitAsk u request) (if b then letters.CommitAsk u request ∷ [] else [])
    go true q = asks_it q
    go false q = asks_not (λ h. true≢false (sym h ∙ q))
asks_for t (letters.EndAsk u cause reads) = go (is_txn t u) refl
  where
    go : (b : Bool) → is_txn t u ≡ b → AsksFor t (letters.EndAsk u cause reads) (if b then letters.EndAsk u cause reads ∷ [] else [])
    go true q = asks_it q
    go false q = asks_not (λ h. true≢false (sym h ∙ q))
asks_for t other = asks_not (λ h. h)

module _ (w : Workload) (p : List Noted) (s : Site) where
  own_ask : (t : Txn) (message : Message) → AskSays w p s message → IsAskOf t message → is_site s (home w t) ≡ true
  own_ask t (letters.ReadAsk u ask x) says same = subst (λ z. is_site s (home w z) ≡ true) (same_txn u t same) says.0.1
  own_ask t (letters.CommitAsk u request) says same = subst (λ z. is_site s (home w z) ≡ true) (same_txn u t same) says.0.1
  own_ask t (letters.EndAsk u cause reads) says same = subst (λ z. is_site s (home w z) ≡ true) (same_txn u t same) says.1
  own_ask t other says same = absurd same

  pub asked_home : (t : Txn) (message : Message) → AskSays w p s message → IsAskOf t message → is_site s (home w t) ≡ true
  asked_home t message says same = own_ask t message says same

  -- so where there is one
  pub some_home : (t : Txn) (ls : List Letter) (m : Message) (ms : List Message) → AllByRecursion (λ (l : Letter). AskSays w p s l.message) ls → asks_of t ls ≡ m ∷ ms → is_site s (home w t) ≡ true
  some_home t [] m ms a q = absurd (cc q)
  some_home t (l ∷ ls) m ms a q = go (asks_for t l.message) q (λ q. some_home t ls m ms a.1 q)
    where
      go : {xs : List Message} → AsksFor t l.message xs → xs ++ asks_of t ls ≡ m ∷ ms → (asks_of t ls ≡ m ∷ ms → is_site s (home w t) ≡ true) → is_site s (home w t) ≡ true
      go (asks_not n) q rest = rest q
      go (asks_it h) q rest = asked_home t l.message a.0 h
