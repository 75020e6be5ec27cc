-- A step changes only its own server, and only the links that it takes from or sends on.
use Rattle.std.proofs.Common.{◌≡◌, ◌≢◌, ◌⊎◌, inl, inr, ℕ, zero, suc, ◌+◌, List, [], ◌∷◌, ◌++◌, drop, fold, Option, Some, None, arith, sym, subst, ap, ◌∙◌, refl, append-nil, append_assoc}
use Rattle.std.specs.Prelude.{slice_get, slice_set, slice_index, slice_index_or, max}
use Rattle.std.proofs.lemmas.List.{get_or-set_other}
use Rattle.raid_workload.specs.declared.workload.Workload.{Workload}
use Rattle.raid_message.specs.declared.letter.Letter.{Letter}
use Rattle.raid_message.specs.declared.letter.Pick.{Pick}
use Rattle.raid_steps.specs.State.{Out, SiteState}
use Rattle.raid_steps.specs.Site.{hear_site}
use Rattle.raid_steps.specs.World.{World, Servers, hear, hear_at, session_of, link, set_link, post, take_front, pick}
use Rattle.raid_steps.specs.Own.{ChangesOwn}

-- an element elsewhere stays
get_other : {X : Type 0} (xs : List X) (i j : ℕ) (y : X) → j ≢ i → slice_get (slice_set xs i y) j ≡ slice_get xs j
get_other [] i j y differ = refl
get_other (x ∷ xs) zero zero y differ = absurd (differ refl)
get_other (x ∷ xs) zero (suc j) y differ = refl
get_other (x ∷ xs) (suc i) zero y differ = refl
get_other (x ∷ xs) (suc i) (suc j) y differ = get_other xs i j y (λ q. differ (ap suc q))

index_other : {X : Type 0} (xs : List X) (i j : ℕ) (y d : X) → j ≢ i → slice_index_or (slice_set xs i y) j d ≡ slice_index_or xs j d
index_other xs i j y d differ = get_or-set_other xs i j y d differ

-- where an element is set: it is there, or there is no such place
index_same : {X : Type 0} (xs : List X) (i : ℕ) (y d : X) → (slice_index_or (slice_set xs i y) i d ≡ y) ⊎ ((slice_index_or (slice_set xs i y) i d ≡ d) × (slice_index_or xs i d ≡ d))
index_same [] i y d = inr (refl, refl)
index_same (x ∷ xs) zero y d = inl refl
index_same (x ∷ xs) (suc i) y d = index_same xs i y d

-- two numbers are the same or not
same_or_not : (a b : ℕ) → (a ≡ b) ⊎ (a ≢ b)
same_or_not zero zero = inl refl
same_or_not zero (suc b) = inr (λ q. omega (arith, q))
same_or_not (suc a) zero = inr (λ q. omega (arith, q))
same_or_not (suc a) (suc b) = elim (same_or_not a b) [
  | inl q ↦ inl (ap suc q)
  | inr q ↦ inr (λ r. q (omega (arith, r)))
]

-- links of other servers, and links from others to this one, stay where one link is set
other_server : (links : List (List (List Letter))) (a b c d : ℕ) (queue : List Letter) → c ≢ a → link (set_link links a b queue) c d ≡ link links c d
other_server links a b c d queue differ = ap (λ row. slice_index_or row d []) (index_other links a c (slice_set (slice_index_or links a []) b queue) [] differ)

other_sender : (links : List (List (List Letter))) (a b d : ℕ) (queue : List Letter) → d ≢ b → link (set_link links a b queue) a d ≡ link links a d
other_sender links a b d queue differ = elim (index_same links a (slice_set (slice_index_or links a []) b queue) []) [
  | inl q ↦ ap (λ row. slice_index_or row d []) q ∙ index_other (slice_index_or links a []) b d queue [] differ
  | inr q ↦ ap (λ row. slice_index_or row d []) (q.0 ∙ sym q.1)
]

set_elsewhere : (links : List (List (List Letter))) (a b c d : ℕ) (queue : List Letter) → (c ≢ a) ⊎ (d ≢ b) → link (set_link links a b queue) c d ≡ link links c d
set_elsewhere links a b c d queue (inl differ) = other_server links a b c d queue differ
set_elsewhere links a b c d queue (inr differ) = row_step (same_or_not c a) where
  row_step : (c ≡ a) ⊎ (c ≢ a) → link (set_link links a b queue) c d ≡ link links c d
  row_step (inl q) = subst (λ e. link (set_link links a b queue) e d ≡ link links e d) (sym q) (other_sender links a b d queue differ)
  row_step (inr q) = other_server links a b c d queue q

-- the link that is set: it is there, or there is no such link
set_here : (links : List (List (List Letter))) (a b : ℕ) (queue : List Letter) →
    (link (set_link links a b queue) a b ≡ queue) ⊎ ((link (set_link links a b queue) a b ≡ []) × (link links a b ≡ []))
set_here links a b queue = row_step (index_same links a (slice_set (slice_index_or links a []) b queue) []) (index_same (slice_index_or links a []) b queue []) where
  row : List (List Letter)
  row = slice_index_or links a []

  row_step : (slice_index_or (slice_set links a (slice_set row b queue)) a [] ≡ slice_set row b queue) ⊎ ((slice_index_or (slice_set links a (slice_set row b queue)) a [] ≡ []) × (row ≡ [])) →
      (slice_index_or (slice_set row b queue) b [] ≡ queue) ⊎ ((slice_index_or (slice_set row b queue) b [] ≡ []) × (slice_index_or row b [] ≡ [])) →
      (link (set_link links a b queue) a b ≡ queue) ⊎ ((link (set_link links a b queue) a b ≡ []) × (link links a b ≡ []))
  row_step (inl q) (inl r) = inl (ap (λ row. slice_index_or row b []) q ∙ r)
  row_step (inl q) (inr r) = inr (ap (λ row. slice_index_or row b []) q ∙ r.0, r.1)
  row_step (inr q) r = inr (ap (λ row. slice_index_or row b []) q.0, ap (λ row. slice_index_or row b []) q.1)

-- sending leaves the links of other senders as they were
posts_elsewhere : (server session clock : ℕ) (outs : List Out) (links : List (List (List Letter))) (c d : ℕ) → d ≢ server →
    link (fold (post server session clock) links outs) c d ≡ link links c d
posts_elsewhere server session clock [] links c d differ = refl
posts_elsewhere server session clock (out ∷ outs) links c d differ =
    posts_elsewhere server session clock outs (post server session clock links out) c d differ ∙ set_elsewhere links out.0 server c d _ (inr differ)

-- and adds behind what the sender's own links held
abbrev Extends : List (List (List Letter)) → List (List (List Letter)) → ℕ → ℕ → Type 0
Extends before after c d = (letters : List Letter) × (link after c d ≡ link before c d ++ letters)

post_extends : (server session clock : ℕ) (out : Out) (links : List (List (List Letter))) (c : ℕ) → Extends links (post server session clock links out) c server
post_extends server session clock out links c = to_step (same_or_not c out.0) where
  sent : Letter
  sent = record { clock = clock; from = session; to = out.1; message = out.2 }

  queue : List Letter
  queue = link links out.0 server ++ sent ∷ []

  here_step : (link (set_link links out.0 server queue) out.0 server ≡ queue) ⊎ ((link (set_link links out.0 server queue) out.0 server ≡ []) × (link links out.0 server ≡ [])) →
      Extends links (post server session clock links out) out.0 server
  here_step (inl q) = (sent ∷ [], q)
  here_step (inr q) = ([], q.0 ∙ sym q.1 ∙ sym (append-nil (link links out.0 server)))

  to_step : (c ≡ out.0) ⊎ (c ≢ out.0) → Extends links (post server session clock links out) c server
  to_step (inl q) = subst (λ e. Extends links (post server session clock links out) e server) (sym q) (here_step (set_here links out.0 server queue))
  to_step (inr q) = ([], other_server links out.0 server c server queue q ∙ sym (append-nil (link links c server)))

posts_extend : (server session clock : ℕ) (outs : List Out) (links : List (List (List Letter))) (c : ℕ) → Extends links (fold (post server session clock) links outs) c server
posts_extend server session clock [] links c = ([], sym (append-nil (link links c server)))
posts_extend server session clock (out ∷ outs) links c =
    let first = post_extends server session clock out links c in
    let rest = posts_extend server session clock outs (post server session clock links out) c in
    (first.0 ++ rest.0, rest.1 ∙ ap (λ ls. ls ++ rest.0) first.1 ∙ append_assoc (link links c server) first.0 rest.0)

-- the servers after a step
at_only : (w : Workload) (s : Servers) (k from : ℕ) (letter : Letter) (o : Option SiteState) →
    ((hear_at w s k from letter o).0.fired ≡ s.fired) × ((hear_at w s k from letter o).0.sequencer ≡ s.sequencer)
    × ((j : ℕ) → j ≢ k → slice_get (hear_at w s k from letter o).0.sites j ≡ slice_get s.sites j)
at_only w s k from letter None = (refl, refl, λ j differ. refl)
at_only w s k from letter (Some state) = (refl, refl, λ j differ. get_other s.sites k j (hear_site w state from letter).state differ)

hear_monitor_only : (w : Workload) (s : Servers) (server from : ℕ) (letter : Letter) → server ≢ 0 → (hear w s server from letter).0.fired ≡ s.fired
hear_monitor_only w s zero from letter differ = absurd (differ refl)
hear_monitor_only w s (suc zero) from letter differ = refl
hear_monitor_only w s (suc (suc k)) from letter differ = (at_only w s k from letter (slice_get s.sites k)).0

hear_sequencer_only : (w : Workload) (s : Servers) (server from : ℕ) (letter : Letter) → server ≢ 1 → (hear w s server from letter).0.sequencer ≡ s.sequencer
hear_sequencer_only w s zero from letter differ = refl
hear_sequencer_only w s (suc zero) from letter differ = absurd (differ refl)
hear_sequencer_only w s (suc (suc k)) from letter differ = (at_only w s k from letter (slice_get s.sites k)).1

hear_site_only : (w : Workload) (s : Servers) (server from : ℕ) (letter : Letter) (j : ℕ) → server ≢ j + 2 → slice_get (hear w s server from letter).0.sites j ≡ slice_get s.sites j
hear_site_only w s zero from letter j differ = refl
hear_site_only w s (suc zero) from letter j differ = refl
hear_site_only w s (suc (suc k)) from letter j differ = (at_only w s k from letter (slice_get s.sites k)).2 j (λ q. differ (omega (arith, q)))

no_front : (letter : Letter) (rest : List Letter) → [] ≡ letter ∷ rest → ⊥
no_front letter rest r = cc r

-- a step over the front letter of a link
front_changes : (w : Workload) (before : World) (p : Pick) (queue : List Letter) → link before.links p.server p.from ≡ queue →
    ChangesOwn p before (take_front w before p.server p.from queue)
front_changes w before p [] q = record {
  monitor = λ differ. refl;
  sequencer = λ differ. refl;
  sites = λ k differ. refl;
  clocks = λ k differ. refl;
  journals = λ k differ. refl;
  taken = λ differ. q ∙ sym (ap (λ (ls : List Letter). drop 1 ls) q);
  sent = λ server differ. ([], sym (append-nil (link before.links server p.server)));
  others = λ server from differ elsewhere. refl;
}
front_changes w before p (letter ∷ rest) q =
    let heard = hear w before.servers p.server p.from letter in
    let clock = 1 + max (slice_index before.clocks p.server) letter.clock in
    let left = set_link before.links p.server p.from rest in
    record {
      monitor = hear_monitor_only w before.servers p.server p.from letter;
      sequencer = hear_sequencer_only w before.servers p.server p.from letter;
      sites = hear_site_only w before.servers p.server p.from letter;
      clocks = λ k differ. get_other before.clocks p.server k clock differ;
      journals = λ k differ. get_other before.journals p.server k _ differ;
      taken = λ differ.
          posts_elsewhere p.server (session_of heard.0 p.server) clock heard.1 left p.server p.from differ
          ∙ taken_step (set_here before.links p.server p.from rest) ∙ sym (ap (λ (ls : List Letter). drop 1 ls) q);
      sent = λ server differ.
          let more = posts_extend p.server (session_of heard.0 p.server) clock heard.1 left server in
          (more.0, more.1 ∙ ap (λ ls. ls ++ more.0) (other_server before.links p.server p.from server p.server rest differ));
      others = λ server from differ elsewhere.
          posts_elsewhere p.server (session_of heard.0 p.server) clock heard.1 left server from differ ∙ set_elsewhere before.links p.server p.from server from rest elsewhere;
    } where
      taken_step : (link (set_link before.links p.server p.from rest) p.server p.from ≡ rest) ⊎ ((link (set_link before.links p.server p.from rest) p.server p.from ≡ []) × (link before.links p.server p.from ≡ [])) →
          link (set_link before.links p.server p.from rest) p.server p.from ≡ rest
      taken_step (inl r) = r
      taken_step (inr r) = absurd (no_front letter rest (sym r.1 ∙ q))

pub step_changes_own : (w : Workload) (before : World) (p : Pick) → ChangesOwn p before (pick w before p)
step_changes_own w before p = front_changes w before p (link before.links p.server p.from) refl
