-- Nodes that have run are those of an end to which histories lead.
use Rattle.std.proofs.Common.{◌≡◌, ◌≢◌, ◌⊎◌, inl, inr, ℕ, zero, suc, ◌+◌, ◌<◌, ◌≤◌, ◌==◌, ◌&&◌, List, [], ◌∷◌, ◌++◌, Bool, true, false, Some, length, map, fold, arith, sym, ap, ap₂, subst, ◌∙◌, refl, append-nil, eq-eqb, ne_eqb}
use Rattle.std.specs.Prelude.{slice_get, slice_index, slice_index_or}
use Rattle.std.specs.List.{list_all}
use Rattle.std.proofs.lemmas.List.{get_or_default}
use Rattle.raid_base.specs.Sites.{site}
use Rattle.raid_workload.specs.declared.workload.Workload.{Workload}
use Rattle.raid_workload.specs.Parts.{count_from}
use Rattle.raid_message.specs.declared.letter.Letter.{Letter}
use Rattle.raid_message.specs.declared.letter.Step.{Step}
use Rattle.raid_boxed.specs.Boxed.{Says}
use Rattle.raid_merge.specs.Merged.{of}
use Rattle.raid_steps.specs.State.{SiteState}
use Rattle.raid_steps.specs.World.{Servers, World, link, open_world, first_site, is_idle}
use Rattle.raid_causes.specs.Histories.{History, Alone, HasLinks, IsAlike, IsWhole, Histories, alone, after, hearing}
use Rattle.raid_causes.specs.Limited.{hearing_within}
use Rattle.raid_causes.proofs.Lists.{below_or_not, past, count_long, map_long, alike_at}
use Rattle.raid_causes.proofs.Limited.{exact}
use Rattle.raid_causes.proofs.Opening.{open_whole}
use Rattle.raid_link.specs.Link.{all_sent, given, left, IsSettled}
use Rattle.raid_link.specs.declared.ends.Sender.{Sender}
use Rattle.raid_link.specs.declared.ends.Receiver.{Receiver}
use Rattle.raid_nodes.specs.Nodes.{limit, IsServer, IsAlone}
use Rattle.raid_nodes.specs.Turns.{Took}
use Rattle.raid_nodes.specs.Settled.{sender_of, receiver_of, on_link, WholeNodes, SomeLeft, Settled}
use Rattle.raid_nodes.specs.Ran.{AreOpen, AreServers, Ran, BelowLimit}
use Rattle.raid_nodes.specs.Fits.{element_of}
use Rattle.raid_nodes.specs.declared.server.Server.{Server}
use Rattle.raid_nodes.specs.declared.server.Server.TheVariants as servers
use Rattle.raid_nodes.specs.declared.node.ServerNode.{ServerNode}
use Rattle.raid_nodes.proofs.Maps.{mapped_at}
use Rattle.raid_nodes.proofs.Together.{Together, together_long, history_of, took_at, none_past}

-- what stands at a place of a list that a function makes
counted_at : {X : Type 0} (f : ℕ → X) (a n k : ℕ) (d : X) → k < n → slice_index_or (map f (count_from a n)) k d ≡ f (a + k)
counted_at f a zero k d low = absurd (omega (arith, low))
counted_at f a (suc n) zero d low = let e : a ≡ a + 0 = omega arith in ap f e
counted_at f a (suc n) (suc k) d low = counted_at f (a + 1) n k d (omega (arith, low)) ∙ (let e : a + 1 + k ≡ a + suc k = omega arith in ap f e)

counted_get : {X : Type 0} (f : ℕ → X) (a n k : ℕ) → k < n → slice_get (map f (count_from a n)) k ≡ Some (f (a + k))
counted_get f a zero k low = absurd (omega (arith, low))
counted_get f a (suc n) zero low = let e : a ≡ a + 0 = omega arith in ap (λ i. Some (f i)) e
counted_get f a (suc n) (suc k) low = counted_get f (a + 1) n k (omega (arith, low)) ∙ (let e : a + 1 + k ≡ a + suc k = omega arith in ap (λ i. Some (f i)) e)

counted_long : {X : Type 0} (f : ℕ → X) (n : ℕ) → length (map f (count_from 0 n)) ≡ n
counted_long f n = map_long f (count_from 0 n) ∙ count_long 0 n

got : {X : Type 0} (xs : List X) (k : ℕ) (x d : X) → slice_get xs k ≡ Some x → slice_index_or xs k d ≡ x
got [] k x d q = absurd (cc q)
got (y ∷ ys) zero x d q = cc q
got (y ∷ ys) (suc k) x d q = got ys k x d q

-- a fact of every number, and of some
all_counted : (p : ℕ → Bool) (a n : ℕ) → ((k : ℕ) → k < n → p (a + k) ≡ true) → list_all p (count_from a n) ≡ true
all_counted p a zero h = refl
all_counted p a (suc n) h =
    let here : p a ≡ true = (let e : a ≡ a + 0 = omega arith in ap p e) ∙ h 0 (omega arith) in
    ap (λ b. b && list_all p (count_from (a + 1) n)) here
    ∙ all_counted p (a + 1) n (λ k low. (let e : a + 1 + k ≡ a + suc k = omega arith in ap p e) ∙ h (suc k) (omega (arith, low)))

and_false : (b : Bool) → b && false ≡ false
and_false true = refl
and_false false = refl

some_counted : (p : ℕ → Bool) (a n k : ℕ) → k < n → p (a + k) ≡ false → list_all p (count_from a n) ≡ false
some_counted p a zero k low h = absurd (omega (arith, low))
some_counted p a (suc n) zero low h = ap (λ b. b && list_all p (count_from (a + 1) n)) ((let e : a ≡ a + 0 = omega arith in ap p e) ∙ h)
some_counted p a (suc n) (suc k) low h =
    ap (λ b. p a && b) (some_counted p (a + 1) n k (omega (arith, low)) ((let e : a + 1 + k ≡ a + suc k = omega arith in ap p e) ∙ h)) ∙ and_false (p a)

all_mapped : {X Y : Type 0} (p : Y → Bool) (f : X → Y) (xs : List X) → list_all p (map f xs) ≡ list_all (λ x. p (f x)) xs
all_mapped p f [] = refl
all_mapped p f (x ∷ xs) = ap (λ b. p (f x) && b) (all_mapped p f xs)

module _ {V : Type 0} {D : V → Type 0} where
  -- a server is that of any state in which its own part is the same
  server_alike : (k : ℕ) (x : Server V D) (s t : Servers) → IsAlike k s t → IsServer k x t → IsServer k x s
  server_alike zero (servers.Monitor fired) s t same is = (is.0, is.1 ∙ sym same)
  server_alike (suc zero) (servers.Monitor fired) s t same is = absurd (cc is.0)
  server_alike (suc (suc k)) (servers.Monitor fired) s t same is = absurd (cc is.0)
  server_alike zero (servers.Sequencer q) s t same is = absurd (cc is.0)
  server_alike (suc zero) (servers.Sequencer q) s t same is = subst (λ state. IsServer (suc zero) (servers.Sequencer q) (record s { sequencer = state })) (sym same) is
  server_alike (suc (suc k)) (servers.Sequencer q) s t same is = absurd (let e : suc (suc k) ≡ 1 = is.0 in omega (arith, e))
  server_alike zero (servers.Site site) s t same is = absurd (let e : zero ≡ suc (suc is.0) = is.1 in omega (arith, e))
  server_alike (suc zero) (servers.Site site) s t same is = absurd (let e : suc zero ≡ suc (suc is.0) = is.1 in omega (arith, e))
  server_alike (suc (suc k)) (servers.Site site) s t same is =
      let e : is.0 ≡ k = (let f : suc (suc k) ≡ suc (suc is.0) = is.1 in omega (arith, f)) in
      (k, refl, same ∙ ap (λ n. slice_get t.sites n) (sym e) ∙ is.2)

  -- the server of a site is that of some state of it
  site_there : (k : ℕ) (x : Server V D) (t : Servers) → IsServer (suc (suc k)) x t → (state : SiteState) × (slice_get t.sites k ≡ Some state)
  site_there k (servers.Monitor fired) t is = absurd (cc is.0)
  site_there k (servers.Sequencer q) t is = absurd (let e : suc (suc k) ≡ 1 = is.0 in omega (arith, e))
  site_there k (servers.Site site) t is =
      let e : is.0 ≡ k = (let f : suc (suc k) ≡ suc (suc is.0) = is.1 in omega (arith, f)) in
      (_, ap (λ n. slice_get t.sites n) (sym e) ∙ is.2)

  module _ (say : Says V D) (w : Workload) (xs ys mid : List (ServerNode V D)) (b : Bool) (n : ℕ) (opened : AreOpen say w xs) (t : Together w xs n ys) (whole : WholeNodes ys) (s : Settled mid b ys) (below : BelowLimit ys) where
    abbrev many : ℕ
    many = w.sites + 2

    abbrev histories : ℕ → History
    histories = history_of w xs n ys t

    abbrev by : ℕ → Alone
    by k = after w (open_world w) k (histories k)

    long : length ys ≡ length xs
    long = together_long w xs n ys t

    count : length ys ≡ many
    count = long ∙ opened.count

    first : (k : ℕ) → k < many → k < length xs
    first k low = omega (arith, low, opened.count)

    last : (k : ℕ) → k < many → k < length ys
    last k low = omega (arith, low, count)

    in_mid : (k : ℕ) → k < many → k < length mid
    in_mid k low = let l : length ys ≡ length mid = s.long in omega (arith, low, count, l)

    some : 0 < length ys
    some = omega (arith, count)

    abbrev d₀ : ServerNode V D
    d₀ = element_of ys 0 some

    abbrev e₀ : Sender
    e₀ = element_of (slice_index_or ys 0 d₀).outs.items 0 (let o = whole.outs 0 d₀ some in let h = some in omega (arith, o, h))

    abbrev f₀ : Receiver
    f₀ = element_of (slice_index_or ys 0 d₀).inputs.items 0 (let o = whole.inputs 0 d₀ some in let h = some in omega (arith, o, h))

    -- each node at the end is a server by itself after its history
    alone_end : (k : ℕ) (d : ServerNode V D) → k < many → IsAlone (open_world w).links (slice_index_or ys k d) (by k)
    alone_end k d low =
        let x : ServerNode V D = slice_index_or xs k d in
        let y : ServerNode V D = slice_index_or ys k d in
        let took : Took w x (histories k) y = took_at w xs n ys t k d (first k low) in
        let number : x.number ≡ k = opened.whole.numbers k d (first k low) in
        let within : IsAlone (open_world w).links y (fold (hearing_within w limit k) (alone (open_world w) k) (histories k)) =
        subst (λ i. IsAlone (open_world w).links y (fold (hearing_within w limit i) (alone (open_world w) k) (histories k))) number (took.alone (open_world w).links (alone (open_world w) k) (opened.alone k d (first k low))) in
        let few : (fold (hearing_within w limit k) (alone (open_world w) k) (histories k)).clock < limit = subst (λ c. c < limit) within.clock (below k d (last k low)) in
        subst (IsAlone (open_world w).links y) (exact w limit k (histories k) (alone (open_world w) k) few) within

    number_end : (k : ℕ) (d : ServerNode V D) → k < many → (slice_index_or ys k d).number ≡ k
    number_end k d low = whole.numbers k d (last k low)

    server_end : (k : ℕ) (d : ServerNode V D) → k < many → IsServer k (slice_index_or ys k d).server (by k).servers
    server_end k d low = subst (λ i. IsServer i (slice_index_or ys k d).server (by k).servers) (number_end k d low) (alone_end k d low).server

    abbrev site_at : ℕ → SiteState
    site_at k = slice_index_or (by (suc (suc k))).servers.sites k (first_site w (site 0))

    abbrev left_on : ℕ → ℕ → List Letter
    left_on i j = left (sender_of (slice_index_or ys j d₀) i e₀) (receiver_of (slice_index_or ys i d₀) j f₀)

    abbrev row : ℕ → List (List Letter)
    row i = map (left_on i) (count_from 0 many)

    abbrev end : World
    end = record {
      servers = record { fired = (by 0).servers.fired; sequencer = (by 1).servers.sequencer; sites = map site_at (count_from 0 w.sites) };
      links = map row (count_from 0 many);
      clocks = map (λ (x : ServerNode V D). x.clock) ys;
      journals = map (λ (x : ServerNode V D). x.journal) ys;
    }

    states : (k : ℕ) → k < many → IsAlike k end.servers (by k).servers
    states zero low = refl
    states (suc zero) low = refl
    states (suc (suc k)) low =
        let there = site_there k (slice_index_or ys (suc (suc k)) d₀).server (by (suc (suc k))).servers (server_end (suc (suc k)) d₀ low) in
        counted_get site_at 0 w.sites k (omega (arith, low)) ∙ (let e : 0 + k ≡ k = omega arith in ap (λ i. Some (site_at i)) e)
        ∙ ap Some (got (by (suc (suc k))).servers.sites k there.0 (first_site w (site 0)) there.1) ∙ sym there.1

    row_at : (i : ℕ) → i < many → slice_index_or end.links i [] ≡ row i
    row_at i low = counted_at row 0 many i [] low ∙ (let e : 0 + i ≡ i = omega arith in ap row e)

    link_at : (i j : ℕ) → i < many → j < many → link end.links i j ≡ left_on i j
    link_at i j low high = ap (λ r. slice_index_or r j []) (row_at i low) ∙ counted_at (left_on i) 0 many j [] high ∙ (let e : 0 + j ≡ j = omega arith in ap (left_on i) e)

    link_past : (i j : ℕ) → i < many → many ≤ j → link end.links i j ≡ []
    link_past i j low le = ap (λ r. slice_index_or r j []) (row_at i low) ∙ past (row i) j [] (let l = counted_long (left_on i) many in omega (arith, l, le))

    open_past : (i j : ℕ) → i < many → many ≤ j → link (open_world w).links i j ≡ []
    open_past i j low le = past (slice_index_or (open_world w).links i []) j [] (let l = (open_whole w).links.rows i low in omega (arith, l, le))

    links_end : (i j : ℕ) → i < many → (j < many) ⊎ (many ≤ j) → of j (histories i) ++ link end.links i j ≡ link (open_world w).links i j ++ of i (by j).sent
    links_end i j low (inl high) =
        let x : ServerNode V D = slice_index_or xs i d₀ in
        let r : Receiver = receiver_of (slice_index_or ys i d₀) j f₀ in
        let q : Sender = sender_of (slice_index_or ys j d₀) i e₀ in
        let wide : length x.inputs.items ≡ length xs = opened.whole.inputs i d₀ (first i low) in
        let at : j < length x.inputs.items = let h = first j high in omega (arith, wide, h) in
        let out : length (slice_index_or ys j d₀).outs.items ≡ length ys = whole.outs j d₀ (last j high) in
        let to : i < length (slice_index_or ys j d₀).outs.items = let h = last i low in omega (arith, out, h) in
        let taken : given r ≡ of j (histories i) = (took_at w xs n ys t i d₀ (first i low)).taken j f₀ at ∙ ap (λ ls. ls ++ of j (histories i)) (opened.given i j d₀ f₀ (first i low) (first j high)) in
        let sent : all_sent q ≡ link (open_world w).links i j ++ of i (by j).sent = (alone_end j d₀ high).sent i e₀ to ∙ ap (λ m. link (open_world w).links i m ++ of i (by j).sent) (number_end j d₀ high) in
        let settled : IsSettled q r = s.settled j i d₀ e₀ f₀ (in_mid j high) (in_mid i low) (in_mid j high) in
        ap₂ ◌++◌ (sym taken) (link_at i j low high) ∙ settled.whole ∙ sent
    links_end i j low (inr le) =
        let wide : length (slice_index_or xs i d₀).inputs.items ≡ length xs = opened.whole.inputs i d₀ (first i low) in
        let none : of j (histories i) ≡ [] = (took_at w xs n ys t i d₀ (first i low)).others j (let c = opened.count in omega (arith, wide, c, le)) in
        let unsent : of i (by j).sent ≡ [] = ap (λ h. of i (after w (open_world w) j h).sent) (none_past w xs n ys t j (let c = opened.count in omega (arith, c, le))) in
        ap₂ ◌++◌ none (link_past i j low le) ∙ sym (ap₂ ◌++◌ (open_past i j low le) unsent)

    whole_end : IsWhole w end
    whole_end = record {
      sites = counted_long site_at w.sites;
      clocks = map_long (λ (x : ServerNode V D). x.clock) ys ∙ count;
      journals = map_long (λ (x : ServerNode V D). x.journal) ys ∙ count;
      links = record { count = counted_long row many; rows = λ i low. ap length (row_at i low) ∙ counted_long (left_on i) many };
    }

    have : Histories w (open_world w) histories end
    have = record {
      whole = whole_end;
      none = λ k le. none_past w xs n ys t k (let c = opened.count in omega (arith, c, le));
      states = states;
      clocks = λ k low. mapped_at (λ (x : ServerNode V D). x.clock) ys k d₀ 0 (last k low) ∙ (alone_end k d₀ low).clock;
      journals = λ k low. mapped_at (λ (x : ServerNode V D). x.journal) ys k d₀ [] (last k low) ∙ (alone_end k d₀ low).journal;
      links = λ i j low. links_end i j low (below_or_not j many);
    }

    servers_end : AreServers w ys end.servers
    servers_end = record {
      count = count;
      sites = counted_long site_at w.sites;
      are = λ k d low. let h : k < many = omega (arith, low, count) in server_alike k (slice_index_or ys k d).server end.servers (by k).servers (states k h) (server_end k d h);
    }

    -- whether all links are empty
    idle_is : is_idle end ≡ list_all (λ i. list_all (λ j. length (left_on i j) == 0) (count_from 0 many)) (count_from 0 many)
    idle_is = all_mapped (λ r. list_all (λ queue. length queue == 0) r) row (count_from 0 many) ∙ rows (count_from 0 many)
      where
        rows : (is : List ℕ) → list_all (λ i. list_all (λ queue. length queue == 0) (row i)) is ≡ list_all (λ i. list_all (λ j. length (left_on i j) == 0) (count_from 0 many)) is
        rows [] = refl
        rows (i ∷ is) = ap₂ ◌&&◌ (all_mapped (λ (queue : List Letter). length queue == 0) (left_on i) (count_from 0 many)) (rows is)

    none_left : ((i j : ℕ) → i < many → j < many → length (left_on i j) ≡ 0) → is_idle end ≡ true
    none_left h =
        idle_is
        ∙ all_counted (λ i. list_all (λ j. length (left_on i j) == 0) (count_from 0 many)) 0 many
        (λ i low. all_counted (λ j. length (left_on (0 + i) j) == 0) 0 many (λ j high. eq-eqb (length (left_on (0 + i) (0 + j))) 0 (h (0 + i) (0 + j) (omega (arith, low)) (omega (arith, high)))))

    some_left : SomeLeft ys → is_idle end ≡ false
    some_left (j, i, high, low, more) =
        let a : i < many = omega (arith, low, count) in
        let c : j < many = omega (arith, high, count) in
        let there : 0 < length (left_on (0 + i) (0 + j)) = (let e : i ≡ 0 + i = omega arith in let f : j ≡ 0 + j = omega arith in subst (λ m. 0 < length (left_on m (0 + j))) e (subst (λ m. 0 < length (left_on i m)) f (more d₀ e₀ f₀))) in
        idle_is
        ∙ some_counted (λ i. list_all (λ j. length (left_on i j) == 0) (count_from 0 many)) 0 many i a
        (some_counted (λ j. length (left_on (0 + i) j) == 0) 0 many j c (ne_eqb (length (left_on (0 + i) (0 + j))) 0 (λ q. omega (arith, q, there))))

    pub ran_idle : b ≡ false → Ran w true ys
    ran_idle q = record {
      end = end;
      histories = histories;
      are = have;
      servers = servers_end;
      journals = refl;
      idle = none_left (λ i j low high. s.none q j i d₀ e₀ f₀ (in_mid j high) (in_mid i low) (in_mid j high));
    }

    pub ran_spent : b ≡ true → Ran w false ys
    ran_spent q = record {
      end = end;
      histories = histories;
      are = have;
      servers = servers_end;
      journals = refl;
      idle = some_left (s.some q);
    }
