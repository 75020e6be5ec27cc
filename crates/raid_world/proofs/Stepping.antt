-- The world after a step, and after a pick.
use Rattle.std.proofs.Common.{◌≡◌, ◌⊎◌, inl, inr, ℕ, zero, suc, ◌+◌, ◌<◌, ◌≤◌, ◌==◌, nat_le, Bool, true, false, not, ◌&&◌, ◌||◌, List, [], ◌∷◌, ◌++◌, length, drop, fold, map, Some, None, if◌then◌else◌, arith, sym, ap, subst, ◌∙◌, refl}
use Rattle.std.specs.Prelude.{max, min, ◌^◌, ◌-◌, slice_get, slice_set, slice_index, slice_index_or, Result, Ok, Err, OnOk}
use Rattle.std.specs.List.{All, list_all}
use Rattle.std.proofs.lemmas.Bool.{and_parts, eqb-true}
use Rattle.std.proofs.lemmas.List.Elements.{All-nil, All-cons}
use Rattle.raid_base.specs.declared.names.NoMemory.{NoMemory}
use Rattle.raid_workload.specs.declared.workload.Workload.{Workload}
use Rattle.raid_message.specs.declared.letter.Letter.{Letter}
use Rattle.raid_message.specs.declared.letter.Step.{Step}
use Rattle.raid_site.specs.Server as serving
use Rattle.raid_steps.specs.State.{Out}
use Rattle.raid_steps.specs.Table.{may_send, is_site_number}
use Rattle.raid_steps.specs.World as steps
use Rattle.raid_steps.specs.World.{hear, session_of, link, set_link, post, take_letter, take_front, pick, finds}
use Rattle.raid_steps.proofs.Addressed.{hear_right}
use Rattle.raid_boxed.specs.Boxed.{Says}
use Rattle.raid_site.proofs.Holders.{few_sites}
use Rattle.raid_world.specs.declared.servers.Servers.{Servers}
use Rattle.raid_world.specs.declared.world.World.{World}
use Rattle.raid_world.specs.Stands.{Are, Go, Live, Stands, AreLinks, AreClocks, heard, all_steps, steps_of}
use Rattle.raid_world.proofs.Shape.{set_link_same, length_set, set_shape}
use Rattle.raid_world.proofs.Timing.{total_more, total_few, exact, next_within, times_after, heard_more, front_is, front_within, popped as popped_times}

-- what may be sent goes to a server of the workload
or_cases : (a b : Bool) → (a || b) ≡ true → (a ≡ true) ⊎ (b ≡ true)
or_cases true b q = inl refl
or_cases false b q = inr q

three : (a b c : Bool) → (a || b || c) ≡ true → (a ≡ true) ⊎ ((b ≡ true) ⊎ (c ≡ true))
three true b c q = inl refl
three false true c q = inr (inl refl)
three false false c q = inr (inr q)

to_number : (w : Workload) (n k : ℕ) (b : Bool) → k ≤ 1 → (n == k && b) ≡ true → n < w.sites + 2
to_number w n k b few q = let e : n ≡ k = eqb-true n k (and_parts (n == k) b q).0 in omega (arith, e, few)

at_most : (n m : ℕ) → nat_le n m ≡ true → n ≤ m
at_most n m h = grind (arith, h)

to_site : (w : Workload) (n : ℕ) (b : Bool) → (is_site_number w n && b) ≡ true → n < w.sites + 2
to_site w n b q = let e : n ≤ w.sites + 1 = at_most n (w.sites + 1) (and_parts (nat_le 2 n) (nat_le n (w.sites + 1)) (and_parts (is_site_number w n) b q).0).1 in omega (arith, e)

to_either : (w : Workload) (n k : ℕ) (b c : Bool) → k ≤ 1 → ((n == k && b) || (is_site_number w n && c)) ≡ true → n < w.sites + 2
to_either w n k b c few q = elim (or_cases (n == k && b) (is_site_number w n && c) q) [
  | inl p ↦ to_number w n k b few p
  | inr p ↦ to_site w n c p
]

of_three : (w : Workload) (n : ℕ) (a b c : Bool) → ((n == 0 && a) || (n == 1 && b) || (is_site_number w n && c)) ≡ true → n < w.sites + 2
of_three w n a b c q = elim (three (n == 0 && a) (n == 1 && b) (is_site_number w n && c) q) [
  | inl p ↦ to_number w n 0 a (omega arith) p
  | inr (inl p) ↦ to_number w n 1 b (omega arith) p
  | inr (inr p) ↦ to_site w n c p
]

sent_to : (w : Workload) (server : ℕ) (out : Out) → may_send w server out ≡ true → out.0 < w.sites + 2
sent_to w zero out q = to_either w out.0 1 _ _ (omega arith) q
sent_to w (suc zero) out q = to_either w out.0 0 _ _ (omega arith) q
sent_to w (suc (suc k)) out q = of_three w out.0 _ _ _ q

all_to : (w : Workload) (server : ℕ) (outs : List Out) → list_all (may_send w server) outs ≡ true → All (λ (out : Out). out.0 < w.sites + 2) outs
all_to w server [] q = All-nil (λ (out : Out). out.0 < w.sites + 2)
all_to w server (out ∷ outs) q =
    let both = and_parts (may_send w server out) (list_all (may_send w server) outs) q in
    All-cons (λ (o : Out). o.0 < w.sites + 2) out outs (sent_to w server out both.0) (all_to w server outs both.1)

module _ {V : Type 0} {D : V → Type 0} where
  -- the state of servers that go on
  abbrev state_now : (say : Says V D) (w : Workload) (servers : Servers V D) → Go say w servers → steps.Servers
  state_now say w servers g = record { fired = servers.monitor; sequencer = g.state; sites = map serving.state_of servers.sites.items }

  are_now : (say : Says V D) (w : Workload) (servers : Servers V D) (g : Go say w servers) → Are servers (state_now say w servers g)
  are_now say w servers g = record { monitor = refl; sequencer = g.tells; sites = refl }

  pub outs_to : (say : Says V D) (w : Workload) (servers : Servers V D) (server from n : ℕ) (letter : Letter) (outs : List Out) → Go say w servers → from < w.sites + 2 → n ≡ w.sites + 2 →
      ((s : steps.Servers) → Are servers s → outs ≡ (hear w s server from letter).1) → All (λ (out : Out). out.0 < n) outs
  outs_to say w servers server from n letter outs g below count are =
      let s = state_now say w servers g in
      let sent = all_to w server (hear w s server from letter).1 (hear_right w s server from letter below) in
      subst (λ m. All (λ (out : Out). out.0 < m) outs) (sym count) (subst (All (λ (out : Out). out.0 < w.sites + 2)) (sym (are s (are_now say w servers g))) sent)

  -- what a step makes of a world
  module _ (w : Workload) (before after : World V D) (server from session clock : ℕ) (letter : Letter) (outs : List Out) {T : Type 0} (r : Result T NoMemory) where
    pub stands_after :
        ((s : steps.Servers) → Are before.servers s → Are after.servers (hear w s server from letter).0) →
        ((s : steps.Servers) → Are before.servers s → outs ≡ (hear w s server from letter).1) →
        ((s : steps.Servers) → Are after.servers s → session ≡ session_of s server) →
        clock ≡ 1 + max (slice_index before.times.clocks.items server) letter.clock →
        OnOk r (after.links ≡ fold (post server session clock) before.links outs) →
        after.times.clocks.items ≡ slice_set before.times.clocks.items server clock →
        after.times.journals.items ≡ slice_set before.times.journals.items server (slice_index_or before.times.journals.items server [] ++ record { clock = clock; from = from } ∷ []) →
        OnOk r ((s : steps.World) → Stands before s → Stands after (take_letter w s server from letter (link s.links server from)))
    stands_after servers sent now tick links clocks journals = go r links
      where
        go : (q : Result T NoMemory) → OnOk q (after.links ≡ fold (post server session clock) before.links outs) → OnOk q ((s : steps.World) → Stands before s → Stands after (take_letter w s server from letter (link s.links server from)))
        go (Err e) l = tt
        go (Ok u) l = λ s st.
            let heard = hear w s.servers server from letter in
            let at = 1 + max (slice_index s.clocks server) letter.clock in
            let ticked : clock ≡ 1 + max (slice_index s.clocks server) letter.clock = tick ∙ ap (λ cs. 1 + max (slice_index cs server) letter.clock) st.clocks in
            let here = now heard.0 (servers s.servers st.servers) in
            record {
              servers = servers s.servers st.servers;
              links = l ∙ ap (λ n. fold (post server n clock) before.links outs) here
                  ∙ ap (λ n. fold (post server (session_of heard.0 server) n) before.links outs) ticked
                  ∙ ap (λ ls. fold (post server (session_of heard.0 server) at) ls outs) (st.links ∙ sym (set_link_same s.links server from))
                  ∙ ap (fold (post server (session_of heard.0 server) at) (set_link s.links server from (link s.links server from))) (sent s.servers st.servers);
              clocks = clocks ∙ ap (λ cs. slice_set cs server clock) st.clocks ∙ ap (slice_set s.clocks server) ticked;
              journals = journals ∙ ap (λ js. slice_set js server (slice_index_or js server [] ++ record { clock = clock; from = from } ∷ [])) st.journals
                  ∙ ap (λ n. slice_set s.journals server (slice_index_or s.journals server [] ++ record { clock = n; from = from } ∷ [])) ticked;
            }

    pub live_after : (say : Says V D) → Live say w before → server < w.sites + 2 → letter.clock ≤ all_steps before.times.journals.items →
        Go say w after.servers → ((k : ℕ) → heard after.servers k ≤ (if k == server then heard before.servers k + 1 else heard before.servers k)) →
        clock ≡ 1 + max (slice_index before.times.clocks.items server) letter.clock →
        OnOk r (after.links ≡ fold (post server session clock) before.links outs) →
        after.times.clocks.items ≡ slice_set before.times.clocks.items server clock →
        after.times.journals.items ≡ slice_set before.times.journals.items server (slice_index_or before.times.journals.items server [] ++ record { clock = clock; from = from } ∷ []) →
        OnOk r (Live say w after)
    live_after say live below sent goes counts tick links clocks journals = go r links
      where
        js : List (List Step)
        js = before.times.journals.items

        cs : List ℕ
        cs = before.times.clocks.items

        within : server < length js
        within = let e : length js ≡ w.sites + 2 = live.journals in omega (arith, e, below)

        total : all_steps after.times.journals.items ≡ all_steps js + 1
        total = ap all_steps journals ∙ total_more js server (record { clock = clock; from = from }) within

        pick_if : (b : Bool) (a n m : ℕ) → b ≡ false → a ≤ (if b then n else m) → a ≤ m
        pick_if true a n m q h = absurd (cc q)
        pick_if false a n m q h = h

        if_most : (b : Bool) (a n : ℕ) → a ≤ (if b then n + 1 else n) → a ≤ n + 1
        if_most true a n h = h
        if_most false a n h = omega (arith, h)

        other : (a b : ℕ) → (a ≡ b → ⊥) → (a == b) ≡ false
        other a b differ = grind (arith, differ)

        go : (q : Result T NoMemory) → OnOk q (after.links ≡ fold (post server session clock) before.links outs) → OnOk q (Live say w after)
        go (Err e) l = tt
        go (Ok u) l = record {
          servers = goes;
          clocks = ap length clocks ∙ length_set cs server clock ∙ live.clocks;
          journals = ap length journals ∙ length_set js server _ ∙ live.journals;
          heard = λ k. subst (λ (xs : List (List Step)). heard after.servers k ≤ length (slice_index_or xs k [])) (sym journals)
              (heard_more (heard after.servers) (heard before.servers) js server (record { clock = clock; from = from }) within live.heard
              (λ j differ. pick_if (j == server) (heard after.servers j) (heard before.servers j + 1) (heard before.servers j) (other j server differ) (counts j))
              (if_most (server == server) (heard after.servers server) (heard before.servers server) (counts server)) k);
          times = subst (λ most. AreClocks most after.links after.times.clocks.items) (sym total)
              (subst (λ ls. AreClocks (all_steps js + 1) ls after.times.clocks.items) (sym l)
              (subst (AreClocks (all_steps js + 1) (fold (post server session clock) before.links outs)) (sym clocks)
              (times_after (all_steps js) before.links cs server session clock outs live.times
              (next_within (slice_index cs server) letter.clock (all_steps js) clock (live.times.servers server) sent tick))));
        }

  -- the clock of a step is exact
  pub tick_is : (say : Says V D) (w : Workload) (world : World V D) (server sent : ℕ) → Live say w world → sent ≤ all_steps world.times.journals.items → steps_of world < 1000000000 →
      (clock : ℕ) → clock ≡ min (1 + max (slice_index world.times.clocks.items server) sent) (2 ^ 64 - 1) → clock ≡ 1 + max (slice_index world.times.clocks.items server) sent
  tick_is say w world server sent live within few clock q =
      let js = world.times.journals.items in
      let ten : length js ≤ 10 = let e : length js ≡ w.sites + 2 = live.journals in let f : w.sites ≤ 8 = few_sites w in omega (arith, e, f) in
      q ∙ exact (slice_index world.times.clocks.items server) sent (all_steps js) (length js) (live.times.servers server) within (total_few js few) ten

-- a pick that finds a letter is the step with it, once it is off its link
pub picked : (w : Workload) (s : steps.World) (server from : ℕ) (letter : Letter) → slice_get (link s.links server from) 0 ≡ Some letter →
    take_front w s server from (link s.links server from)
    ≡ (let t : steps.World = record s { links = set_link s.links server from (drop 1 (link s.links server from)) } in take_letter w t server from letter (link t.links server from))
picked w s server from letter front =
    let rest = drop 1 (link s.links server from) in
    let heard = hear w s.servers server from letter in
    let clock = 1 + max (slice_index s.clocks server) letter.clock in
    let popped = set_link s.links server from rest in
    let make : List (List (List Letter)) → steps.World = λ (ls : List (List (List Letter))). record {
      servers = heard.0;
      links = fold (post server (session_of heard.0 server) clock) ls heard.1;
      clocks = slice_set s.clocks server clock;
      journals = slice_set s.journals server (slice_index_or s.journals server [] ++ record { clock = clock; from = from } ∷ []);
    } in
    ap (take_front w s server from) (front_is (link s.links server from) letter front) ∙ ap make (sym (set_link_same popped server from))

pub not_picked : (w : Workload) (s : steps.World) (server from : ℕ) → slice_get (link s.links server from) 0 ≡ None → take_front w s server from (link s.links server from) ≡ s
not_picked w s server from q = go (link s.links server from) q
  where
    go : (queue : List Letter) → slice_get queue 0 ≡ None → take_front w s server from queue ≡ s
    go [] e = refl
    go (l ∷ ls) e = absurd (cc e)

some_long : (n : ℕ) → not (suc n == 0) ≡ true
some_long n = grind arith

pub finds_some : (queue : List Letter) (letter : Letter) → slice_get queue 0 ≡ Some letter → not (length queue == 0) ≡ true
finds_some [] letter q = absurd (cc q)
finds_some (l ∷ ls) letter q = some_long (length ls)

pub finds_none : (queue : List Letter) → slice_get queue 0 ≡ None → not (length queue == 0) ≡ false
finds_none [] q = refl
finds_none (l ∷ ls) q = absurd (cc q)

-- a world whose front letter, if there was one, is off its link
pub pop_none : (links : List (List (List Letter))) (server from : ℕ) → slice_get (link links server from) 0 ≡ None → set_link links server from (drop 1 (link links server from)) ≡ links
pop_none links server from q = ap (set_link links server from) (same (link links server from) q) ∙ set_link_same links server from
  where
    same : (queue : List Letter) → slice_get queue 0 ≡ None → drop 1 queue ≡ queue
    same [] e = refl
    same (l ∷ ls) e = absurd (cc e)

module _ {V : Type 0} {D : V → Type 0} (w : Workload) (before : World V D) (links : List (List (List Letter))) (server from : ℕ)
    (popped : links ≡ set_link before.links server from (drop 1 (link before.links server from))) where
  abbrev pub without : World V D
  without = record before { links = links }

  pub shape_popped : (n : ℕ) → AreLinks n before.links → AreLinks n links
  shape_popped n l = subst (AreLinks n) (sym popped) (set_shape n before.links server from _ l)

  pub live_popped : (say : Says V D) → Live say w before → Live say w without
  live_popped say live = record {
    servers = live.servers;
    clocks = live.clocks;
    journals = live.journals;
    heard = live.heard;
    times = subst (λ ls. AreClocks (all_steps before.times.journals.items) ls before.times.clocks.items) (sym popped)
        (popped_times (all_steps before.times.journals.items) before.links before.times.clocks.items server from live.times);
  }

  module _ (front : slice_get (link before.links server from) 0 ≡ None) where
    pub none_found : (s : steps.World) → Stands before s → false ≡ not (length (link s.links server from) == 0)
    none_found s st = sym (finds_none (link s.links server from) (ap (λ ls. slice_get (link ls server from) 0) (sym st.links) ∙ front))

    pub none_stands : (s : steps.World) → Stands before s → Stands without (take_front w s server from (link s.links server from))
    none_stands s st = subst (Stands without) (sym (not_picked w s server from (ap (λ ls. slice_get (link ls server from) 0) (sym st.links) ∙ front))) (record {
      servers = st.servers;
      links = popped ∙ pop_none before.links server from front ∙ st.links;
      clocks = st.clocks;
      journals = st.journals;
    })

  module _ (letter : Letter) (front : slice_get (link before.links server from) 0 ≡ Some letter) where
    pub some_found : (s : steps.World) → Stands before s → true ≡ not (length (link s.links server from) == 0)
    some_found s st = sym (finds_some (link s.links server from) letter (ap (λ ls. slice_get (link ls server from) 0) (sym st.links) ∙ front))

    pub some_stands : (after : World V D) → ((s : steps.World) → Stands without s → Stands after (take_letter w s server from letter (link s.links server from))) →
        (s : steps.World) → Stands before s → Stands after (take_front w s server from (link s.links server from))
    some_stands after go s st =
        let t : steps.World = record s { links = set_link s.links server from (drop 1 (link s.links server from)) } in
        subst (Stands after) (sym (picked w s server from letter (ap (λ ls. slice_get (link ls server from) 0) (sym st.links) ∙ front)))
        (go t (record { servers = st.servers; links = popped ∙ ap (λ ls. set_link ls server from (drop 1 (link ls server from))) st.links; clocks = st.clocks; journals = st.journals }))

    pub sent_before : (say : Says V D) → Live say w before → letter.clock ≤ all_steps before.times.journals.items
    sent_before say live = front_within (all_steps before.times.journals.items) before.links before.times.clocks.items server from letter live.times front
