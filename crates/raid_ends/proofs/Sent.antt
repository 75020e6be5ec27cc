-- What the letters cost that an entry sends.
use Rattle.std.proofs.Common.{◌≡◌, ℕ, suc, ◌+◌, ◌-◌, ◌*◌, ◌≤◌, Bool, true, false, not, ◌&&◌, List, [], ◌∷◌, ◌++◌, length, filter, map, flat_map, if◌then◌else◌, arith, ap, ◌∙◌, refl}
use Rattle.std.specs.Prelude.{count_by}
use Rattle.std.specs.List.{sum_by}
use Rattle.std.proofs.Math.Nat.{mul-le-mul_left}
use Rattle.std.proofs.lemmas.List.Sums.{sum_by-cons, sum_by-append, count_by-le-length}
use Rattle.raid_base.specs.declared.names.Txn.{Txn}
use Rattle.raid_base.specs.declared.names.Item.{Item}
use Rattle.raid_base.specs.declared.names.Site.{Site}
use Rattle.raid_base.specs.declared.entry.Noted.{Noted}
use Rattle.raid_base.specs.Names.{is_site, has_site}
use Rattle.raid_base.specs.Sites.{site, session}
use Rattle.raid_workload.specs.declared.workload.Workload.{Workload}
use Rattle.raid_workload.specs.Parts.{txns, sites, home}
use Rattle.raid_legal.specs.Seen.{vector, is_up}
use Rattle.raid_message.specs.declared.letter.Message.{Message}
use Rattle.raid_message.specs.declared.letter.Message.TheVariants as letters
use Rattle.raid_steps.specs.State.{Out, to_site}
use Rattle.raid_steps.specs.Sequencer.{to_all, read_sends, commit_sends, up_sends, next_number}
use Rattle.raid_measure.specs.Measure.{read_cost, down_cost, up_cost, homed_at, letter_cost}
use Rattle.raid_measure.proofs.Sums.{sum_grows, one_if, one_site, counted_by_site}
use Rattle.raid_measure.proofs.Opening.{length_sites}
use Rattle.raid_ends.proofs.Links.{outs_cost}
use Rattle.raid_ends.proofs.Site.{one_fails}

-- of a sum some terms
some_terms : {X : Type 0} (f : X → ℕ) (test : X → Bool) (xs : List X) → sum_by f (filter test xs) ≤ sum_by f xs
some_terms f test [] = omega arith
some_terms f test (x ∷ xs) = go (test x) (some_terms f test xs)
  where
    go : (b : Bool) → sum_by f (filter test xs) ≤ sum_by f xs → sum_by f (if b then x ∷ filter test xs else filter test xs) ≤ sum_by f (x ∷ xs)
    go true rest = omega (arith, rest, sum_by-cons f x (filter test xs), sum_by-cons f x xs)
    go false rest = omega (arith, rest, sum_by-cons f x xs)

few_terms : {X : Type 0} (test : X → Bool) (xs : List X) → length (filter test xs) ≤ length xs
few_terms test [] = omega arith
few_terms test (x ∷ xs) = go (test x) (few_terms test xs)
  where
    go : (b : Bool) → length (filter test xs) ≤ length xs → length (if b then x ∷ filter test xs else filter test xs) ≤ length (x ∷ xs)
    go true rest = omega (arith, rest)
    go false rest = omega (arith, rest)

module _ (w : Workload) where
  abbrev cost_of : Out → ℕ
  cost_of out = letter_cost w out.0 out.2

  -- the same message to some sites, at so much each and so much for each of a site's transactions
  to_sites : (v : List ℕ) (m : Message) (each some : ℕ) → ((s : Site) → letter_cost w (s.0 + 1) m ≤ each + some * homed_at w s) → (ss : List Site) → outs_cost w (map (λ s. to_site v s m) ss) ≤ length ss * each + some * sum_by (homed_at w) ss
  to_sites v m each some one [] = omega arith
  to_sites v m each some one (s ∷ ss) =
      let rest = to_sites v m each some one ss in
      let first = one s in
      let all : outs_cost w (map (λ s. to_site v s m) (s ∷ ss)) ≡ letter_cost w (s.0 + 1) m + outs_cost w (map (λ s. to_site v s m) ss) = sum_by-cons cost_of (to_site v s m) (map (λ s. to_site v s m) ss) in
      let sum = ap (λ n. some * n) (sum_by-cons (homed_at w) s ss) in
      let expand : some * (homed_at w s + sum_by (homed_at w) ss) ≡ some * homed_at w s + some * sum_by (homed_at w) ss = distributes some (homed_at w s) (sum_by (homed_at w) ss) in
      joins (outs_cost w (map (λ s. to_site v s m) (s ∷ ss))) (letter_cost w (s.0 + 1) m) (outs_cost w (map (λ s. to_site v s m) ss)) each (length ss) (some * homed_at w s) (some * sum_by (homed_at w) ss) (some * sum_by (homed_at w) (s ∷ ss)) all first rest (sum ∙ expand)
    where
      distributes : (a b c : ℕ) → a * (b + c) ≡ a * b + a * c
      distributes a b c = omega arith

      joins : (x l o e n h r t : ℕ) → x ≡ l + o → l ≤ e + h → o ≤ n * e + r → t ≡ h + r → x ≤ suc n * e + t
      joins x l o e n h r t a b c d = omega (arith, a, b, c, d)

  -- all homes together have no more transactions than there are
  homes : sum_by (homed_at w) (sites w) ≤ length (txns w)
  homes =
      let each = sum_grows (homed_at w) (λ s. count_by (λ t. is_site s (home w t) && true) (txns w)) one (sites w) in
      let once = counted_by_site (home w) (λ t. true) 1 w.sites (txns w) in
      let few = count_by-le-length (λ (t : Txn). true) (txns w) in
      omega (arith, each, once, few)
    where
      both : (b : Bool) → one_if b ≤ one_if (b && true)
      both true = omega arith
      both false = omega arith

      one : (s : Site) → homed_at w s ≤ count_by (λ t. is_site s (home w t) && true) (txns w)
      one s = sum_grows (λ t. one_if (is_site s (home w t))) (λ t. one_if (is_site s (home w t) && true)) (λ t. both (is_site s (home w t))) (txns w)

  -- a note to some of the other sites
  note_others : (v : List ℕ) (m : Message) (some : ℕ) (z : Site) (test : Site → Bool) → ((s : Site) → letter_cost w (s.0 + 1) m ≤ 1 + some * homed_at w s) → has_site (sites w) z ≡ true → ((r : Site) → is_site z r ≡ true → test r ≡ false) →
      outs_cost w (map (λ s. to_site v s m) (filter test (sites w))) + 1 ≤ w.sites + some * length (txns w)
  note_others v m some z test one known fails =
      let all = to_sites v m 1 some one (filter test (sites w)) in
      let fewer = one_fails test z fails (sites w) known in
      let long = length_sites w in
      let terms = some_terms (homed_at w) test (sites w) in
      let at_home = homes in
      let times : some * sum_by (homed_at w) (filter test (sites w)) ≤ some * length (txns w) = mul-le-mul_left some (let l : sum_by (homed_at w) (filter test (sites w)) ≤ length (txns w) = omega (arith, terms, at_home) in l) in
      omega (arith, all, fewer, long, times)

  same_place : (s : Site) → site (s.0 + 1 - 1) ≡ s
  same_place s = ap (λ k. let z : Site = record { 0 = k } in z) (let e : s.0 + 1 - 1 ≡ s.0 = omega arith in e)

  -- Down: a note to each other site that is up
  pub down_sent : (p : List Noted) (z : Site) → has_site (sites w) z ≡ true → ((r : Site) → is_site z r ≡ true → is_up w p r ≡ false) → outs_cost w (to_all w p (letters.DownNote z)) ≤ down_cost w
  down_sent p z known fails =
      let all = note_others (vector w p) (letters.DownNote z) read_cost z (is_up w p) (λ s. let e = ap (λ r. read_cost * homed_at w r) (same_place s) in omega (arith, e)) known fails in
      omega (arith, all)

  -- Up: the Welcome, and a note to each other site that is up
  pub up_sent : (p : List Noted) (z : Site) (k : ℕ) → has_site (sites w) z ≡ true → outs_cost w (up_sends w p z k) ≤ up_cost w
  up_sent p z k known =
      let welcome : Out = to_site (vector w p) z (letters.Welcome (vector w p) (next_number w p z)) in
      let others : List Out = map (λ r. to_site (vector w p) r (letters.UpNote z k)) (filter (λ r. is_up w p r && not (is_site z r)) (sites w)) in
      let all = note_others (vector w p) (letters.UpNote z k) 2 z (λ r. is_up w p r && not (is_site z r)) (λ s. let e = ap (λ r. 2 * homed_at w r) (same_place s) in omega (arith, e)) known (λ r e. never (is_up w p r) (is_site z r) e) in
      let sum : outs_cost w (welcome ∷ others) ≡ 1 + outs_cost w others = sum_by-cons cost_of welcome others in
      omega (arith, all, sum)
    where
      never : (a b : Bool) → b ≡ true → (a && not b) ≡ false
      never true b q = ap not q
      never false b q = refl

  -- Abort: a Drop to each site that is up
  pub abort_sent : (p : List Noted) (t : Txn) (again : Bool) → outs_cost w (to_all w p (letters.Drop t again)) ≤ w.sites
  abort_sent p t again =
      let all = to_sites (vector w p) (letters.Drop t again) 1 0 (λ s. omega arith) (filter (is_up w p) (sites w)) in
      let few = few_terms (is_up w p) (sites w) in
      let long = length_sites w in
      omega (arith, all, few, long)

  -- Read: a ReadDo, and a Serving where another site serves
  pub read_sent : (p : List Noted) (ask : ℕ) (t : Txn) (x : Item) (s : Site) → outs_cost w (read_sends w p ask t x s) ≤ 3
  read_sent p ask t x s = go (is_site s (home w t))
    where
      go : (b : Bool) → outs_cost w (to_site (vector w p) s (letters.ReadDo t ask x (home w t) (session (vector w p) (home w t))) ∷ (if b then [] else to_site (vector w p) (home w t) (letters.Serving t ask s) ∷ [])) ≤ 3
      go true = omega arith
      go false = omega arith

  -- Commit: an Apply to some sites, and a Done to the home
  pub commit_sent : (p : List Noted) (t : Txn) (applied : List Site) → outs_cost w (flat_map (commit_sends w p t applied) (sites w)) ≤ 2 * w.sites + 1
  commit_sent p t applied =
      let all = each (sites w) in
      let once = one_site (home w t) true 1 w.sites in
      let long = length_sites w in
      omega (arith, all, once, long)
    where
      cost_at : (s : Site) → outs_cost w (commit_sends w p t applied s) ≤ 2 + one_if (is_site s (home w t) && true)
      cost_at s = go (has_site applied s) (is_site s (home w t)) (is_up w p s)
        where
          go : (a b c : Bool) → outs_cost w ((if a then to_site (vector w p) s (letters.Apply t (length p)) ∷ [] else []) ++ (if b && c then to_site (vector w p) s (letters.Done t) ∷ [] else [])) ≤ 2 + one_if (b && true)
          go true true true = omega arith
          go true true false = omega arith
          go true false c = omega arith
          go false true true = omega arith
          go false true false = omega arith
          go false false c = omega arith

      each : (ss : List Site) → outs_cost w (flat_map (commit_sends w p t applied) ss) ≤ 2 * length ss + sum_by (λ s. one_if (is_site s (home w t) && true)) ss
      each [] = omega arith
      each (s ∷ ss) =
          let rest = each ss in
          let here = cost_at s in
          let sum : outs_cost w (commit_sends w p t applied s ++ flat_map (commit_sends w p t applied) ss) ≡ outs_cost w (commit_sends w p t applied s) + outs_cost w (flat_map (commit_sends w p t applied) ss) = sum_by-append cost_of (commit_sends w p t applied s) (flat_map (commit_sends w p t applied) ss) in
          omega (arith, rest, here, sum, sum_by-cons (λ s. one_if (is_site s (home w t) && true)) s ss)
