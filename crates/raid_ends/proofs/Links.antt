-- What a step does to the measure: it takes the cost of the letter that was taken, and adds those of the letters that it sends.
use Rattle.std.proofs.Common.{◌≡◌, ℕ, zero, suc, ◌+◌, ◌<◌, ◌≤◌, ◌==◌, true, not, List, [], ◌∷◌, ◌++◌, length, fold, arith, subst, ap, ◌∙◌, refl}
use Rattle.std.specs.Prelude.{max, slice_index, slice_set, slice_index_or}
use Rattle.std.specs.List.{sum_by}
use Rattle.std.proofs.lemmas.List.Sums.{sum_by-cons, sum_by_push}
use Rattle.raid_workload.specs.declared.workload.Workload.{Workload}
use Rattle.raid_message.specs.declared.letter.Letter.{Letter}
use Rattle.raid_message.specs.declared.letter.Pick.{Pick}
use Rattle.raid_steps.specs.State.{Out}
use Rattle.raid_steps.specs.World.{World, hear, session_of, link, set_link, post, take_letter, take_front, pick, finds}
use Rattle.raid_measure.specs.Measure.{letter_cost, link_cost, links_cost, servers_cost, measure}

-- what is sent
abbrev pub outs_cost : Workload → List Out → ℕ
outs_cost w outs = sum_by (λ (out : Out). letter_cost w out.0 out.2) outs

-- a list with one element replaced, where an element that isn't there counts nothing
set_sum : {X : Type 0} (f : X → ℕ) (xs : List X) (k : ℕ) (y d : X) → f d ≡ 0 → sum_by f (slice_set xs k y) + f (slice_index_or xs k d) ≤ sum_by f xs + f y
set_sum f [] k y d none = omega (arith, none)
set_sum f (x ∷ xs) zero y d none = omega (arith, sum_by-cons f y xs, sum_by-cons f x xs)
set_sum f (x ∷ xs) (suc k) y d none = let rest = set_sum f xs k y d none in omega (arith, rest, sum_by-cons f x (slice_set xs k y), sum_by-cons f x xs)

module _ (w : Workload) where
  -- a link is replaced
  links_set : (first : ℕ) (links : List (List (List Letter))) (place from : ℕ) (queue : List Letter) (server : ℕ) → first + place ≡ server →
      links_cost w first (set_link links place from queue) + link_cost w server (link links place from) ≤ links_cost w first links + link_cost w server queue
  links_set first [] place from queue server q = omega arith
  links_set first (row ∷ rows) zero from queue server q =
      let here : first ≡ server = omega (arith, q) in
      let one : sum_by (link_cost w first) (slice_set row from queue) + link_cost w first (slice_index_or row from []) ≤ sum_by (link_cost w first) row + link_cost w first queue = set_sum (link_cost w first) row from queue [] refl in
      subst (λ n. links_cost w first (set_link (row ∷ rows) zero from queue) + link_cost w n (link (row ∷ rows) zero from) ≤ links_cost w first (row ∷ rows) + link_cost w n queue) here (omega (arith, one))
  links_set first (row ∷ rows) (suc place) from queue server q = let rest = links_set (first + 1) rows place from queue server (omega (arith, q)) in omega (arith, rest)

  -- a letter is sent
  posted : (server session clock : ℕ) (links : List (List (List Letter))) (out : Out) → links_cost w 0 (post server session clock links out) ≤ links_cost w 0 links + letter_cost w out.0 out.2
  posted server session clock links out =
      let sent : Letter = record { clock = clock; from = session; to = out.1; message = out.2 } in
      let set = links_set 0 links out.0 server (link links out.0 server ++ sent ∷ []) out.0 (omega arith) in
      let more = sum_by_push (λ (l : Letter). letter_cost w out.0 l.message) (link links out.0 server) sent in
      omega (arith, set, more)

  all_posted : (server session clock : ℕ) (outs : List Out) (links : List (List (List Letter))) → links_cost w 0 (fold (post server session clock) links outs) ≤ links_cost w 0 links + outs_cost w outs
  all_posted server session clock [] links = omega arith
  all_posted server session clock (out ∷ outs) links =
      let rest = all_posted server session clock outs (post server session clock links out) in
      let one = posted server session clock links out in
      omega (arith, rest, one, sum_by-cons (λ (out : Out). letter_cost w out.0 out.2) out outs)

  -- a server's step lowers what is left, the letter that it takes counted
  abbrev pub Lowers : World → ℕ → ℕ → Letter → Type 0
  Lowers state server from letter =
      let heard = hear w state.servers server from letter in outs_cost w heard.1 + servers_cost w heard.0 < letter_cost w server letter.message + servers_cost w state.servers

  adds : (after set outs before link rest letter then now : ℕ) → after ≤ set + outs → set + link ≤ before + rest → link ≡ letter + rest → outs + then < letter + now → after + then < before + now
  adds after set outs before link rest letter then now a b c d = omega arith

  taken : (state : World) (server from : ℕ) (letter : Letter) (rest : List Letter) → link state.links server from ≡ letter ∷ rest → Lowers state server from letter → measure w (take_letter w state server from letter rest) < measure w state
  taken state server from letter rest front lowers =
      let heard = hear w state.servers server from letter in
      adds (links_cost w 0 (take_letter w state server from letter rest).links) (links_cost w 0 (set_link state.links server from rest)) (outs_cost w heard.1)
      (links_cost w 0 state.links) (link_cost w server (link state.links server from)) (link_cost w server rest) (letter_cost w server letter.message) (servers_cost w heard.0) (servers_cost w state.servers)
      (all_posted server (session_of heard.0 server) (1 + max (slice_index state.clocks server) letter.clock) heard.1 (set_link state.links server from rest))
      (links_set 0 state.links server from rest server (omega arith))
      (ap (link_cost w server) front ∙ sum_by-cons (λ (l : Letter). letter_cost w server l.message) letter rest)
      lowers

  pub pick_lowers : (state : World) (p : Pick) → ((letter : Letter) (rest : List Letter) → link state.links p.server p.from ≡ letter ∷ rest → Lowers state p.server p.from letter) → finds state p ≡ true →
      measure w (pick w state p) < measure w state
  pick_lowers state p lowers found = go (link state.links p.server p.from) refl found
    where
      go : (queue : List Letter) → link state.links p.server p.from ≡ queue → not (length queue == 0) ≡ true → measure w (take_front w state p.server p.from queue) < measure w state
      go [] q some = absurd (cc some)
      go (letter ∷ rest) q some = taken state p.server p.from letter rest q (lowers letter rest q)
