-- The reports of reached worlds name only what the workload has.
use Rattle.std.proofs.Common.{◌≡◌, ℕ, zero, suc, ◌+◌, ◌*◌, ◌<◌, ◌≤◌, nat_le, nat_lt, Bool, true, false, List, [], ◌∷◌, ◌++◌, length, map, fold, replicate, Option, Some, None, if◌then◌else◌, arith, sym, ap, subst, ◌∙◌, refl}
use Rattle.std.specs.Prelude.{max, slice_get, slice_set, slice_index, slice_index_or, find, option_to_list}
use Rattle.std.specs.List.{AllByRecursion, cons_option, list_all}
use Rattle.std.proofs.lemmas.Bool.{and_parts}
use Rattle.raid_base.specs.declared.names.Txn.{Txn}
use Rattle.raid_base.specs.declared.names.Site.{Site}
use Rattle.raid_base.specs.declared.request.Request.{Request}
use Rattle.raid_base.specs.declared.entry.Entry.{Entry}
use Rattle.raid_base.specs.declared.entry.Entry.TheVariants.{Begin, Read, Wait, Commit, Abort, Ack, SwitchOn, SwitchEnd, Down, Up, Clear}
use Rattle.raid_base.specs.declared.entry.Noted.{Noted}
use Rattle.raid_base.specs.Names.{has_txn}
use Rattle.raid_workload.specs.declared.workload.Workload.{Workload}
use Rattle.raid_workload.specs.Parts.{txns, sites}
use Rattle.raid_rules.specs.Entries.{named}
use Rattle.raid_rules.specs.History.{noted}
use Rattle.raid_rules.specs.Conflict.{commit_of, commits, committed, edges, is_next, list_next, listing, serial_order}
use Rattle.raid_rules.proofs.Places.{by_last, noted_entries}
use Rattle.raid_record.proofs.Rules.{is_known}
use Rattle.raid_legal.specs.Forced.{forced}
use Rattle.raid_message.specs.declared.letter.Letter.{Letter}
use Rattle.raid_message.specs.declared.letter.Pick.{Pick}
use Rattle.raid_steps.specs.State.{Out, SiteState}
use Rattle.raid_steps.specs.World.{World, Servers, hear, hear_at, session_of, link, set_link, post, take_front, pick, run, open_world, first_links, report}
use Rattle.raid_placed.specs.Placed.{Placed}
use Rattle.raid_placed.proofs.Sent.{placed_push}
use Rattle.raid_placed.proofs.Named.{placed_names}
use Rattle.raid_placed.proofs.Heard.{hear_placed, hear_quiet}
use Rattle.raid_placed.proofs.Opening.{opening_placed, opening_quiet}
use Rattle.raid_report.specs.Known.{KnowsTxn, IsEntryOf, IsReportOf}
use Rattle.raid_known.specs.Rest.{Rest, Told}
use Rattle.raid_known.proofs.Copies.{copies_told, finals_told}
use Rattle.raid_known.proofs.Entries.{all_push}
use Rattle.raid_known.proofs.Hearing.{hear_told}

-- lists under a change
pub all_set : {X : Type 0} (P : X → Type 0) (xs : List X) (k : ℕ) (y : X) → AllByRecursion P xs → P y → AllByRecursion P (slice_set xs k y)
all_set P [] k y a h = tt
all_set P (x ∷ xs) zero y a h = (h, a.1)
all_set P (x ∷ xs) (suc k) y a h = (a.0, all_set P xs k y a.1 h)

pub all_at : {X : Type 0} (P : X → Type 0) (xs : List X) (k : ℕ) (d : X) → AllByRecursion P xs → P d → P (slice_index_or xs k d)
all_at P [] k d a h = h
all_at P (x ∷ xs) zero d a h = a.0
all_at P (x ∷ xs) (suc k) d a h = all_at P xs k d a.1 h

set_long : {X : Type 0} (xs : List X) (k : ℕ) (y : X) → length (slice_set xs k y) ≡ length xs
set_long [] k y = refl
set_long (x ∷ xs) zero y = refl
set_long (x ∷ xs) (suc k) y = ap suc (set_long xs k y)

empty_long : {X : Type 0} (n : ℕ) (x : X) → length (replicate n x) ≡ n
empty_long zero x = refl
empty_long (suc n) x = ap suc (empty_long n x)

pub all_empty : {X : Type 0} (P : X → Type 0) (n : ℕ) (x : X) → P x → AllByRecursion P (replicate n x)
all_empty P zero x h = tt
all_empty P (suc n) x h = (h, all_empty P n x h)

past : {X : Type 0} (xs : List X) (k : ℕ) (d : X) → length xs ≤ k → slice_index_or xs k d ≡ d
past [] k d le = refl
past (x ∷ xs) zero d le = absurd (omega (arith, le))
past (x ∷ xs) (suc k) d le = past xs k d (omega (arith, le))

module _ (w : Workload) where
  -- no server has links from more than there are
  abbrev pub Narrow : List (List Letter) → Type 0
  Narrow row = length row ≤ w.sites + 2

  abbrev pub AreNarrow : List (List (List Letter)) → Type 0
  AreNarrow links = AllByRecursion Narrow links

  none_narrow : Narrow []
  none_narrow = omega arith

  set_narrow : (links : List (List (List Letter))) (a b : ℕ) (queue : List Letter) → AreNarrow links → AreNarrow (set_link links a b queue)
  set_narrow links a b queue n =
      let row : Narrow (slice_index_or links a []) = all_at Narrow links a [] n none_narrow in
      all_set Narrow links a _ n (subst (λ k. k ≤ w.sites + 2) (sym (set_long (slice_index_or links a []) b queue)) row)

  posts_narrow : (server session clock : ℕ) (outs : List Out) (links : List (List (List Letter))) → AreNarrow links → AreNarrow (fold (post server session clock) links outs)
  posts_narrow server session clock [] links n = n
  posts_narrow server session clock (out ∷ outs) links n = posts_narrow server session clock outs (post server session clock links out) (set_narrow links out.0 server _ n)

  lt_or : (a b : ℕ) → nat_lt a b ≡ false → b ≤ a
  lt_or a b q = grind (arith, q)

  lt_is : (a b : ℕ) → nat_lt a b ≡ true → a < b
  lt_is a b q = grind (arith, q)

  no_letter : (l : Letter) (rest : List Letter) → [] ≡ l ∷ rest → ⊥
  no_letter l rest q = cc q

  pub sender : (links : List (List (List Letter))) (server from : ℕ) (l : Letter) (rest : List Letter) → AreNarrow links → link links server from ≡ l ∷ rest → from < w.sites + 2
  sender links server from l rest n q = go (nat_lt from (w.sites + 2)) refl
    where
      row : Narrow (slice_index_or links server [])
      row = all_at Narrow links server [] n none_narrow

      go : (b : Bool) → nat_lt from (w.sites + 2) ≡ b → from < w.sites + 2
      go true e = lt_is from (w.sites + 2) e
      go false e =
          let beyond : w.sites + 2 ≤ from = lt_or from (w.sites + 2) e in
          let h : length (slice_index_or links server []) ≤ w.sites + 2 = row in
          absurd (no_letter l rest (sym (past (slice_index_or links server []) from [] (omega (arith, h, beyond))) ∙ q))

  -- what holds of reached worlds
  pub record Reached (s : World) : Type 0 where
    pub narrow : AreNarrow s.links
    told : Told w s.servers.sequencer.history
    pub placed : Placed w s.servers.sequencer.history
    pub quiet : forced w (noted s.servers.sequencer.history) ≡ None

  record Sound (h : List Entry) : Type 0 where
    told : Told w h
    placed : Placed w h
    quiet : forced w (noted h) ≡ None

  at_sound : (s : Servers) (k from : ℕ) (l : Letter) (o : Option SiteState) → Sound s.sequencer.history → Sound (hear_at w s k from l o).0.sequencer.history
  at_sound s k from l None h = h
  at_sound s k from l (Some state) h = h

  hear_sound : (s : Servers) (server from : ℕ) (l : Letter) → from < w.sites + 2 → Sound s.sequencer.history → Sound (hear w s server from l).0.sequencer.history
  hear_sound s zero from l below h = h
  hear_sound s (suc zero) from l below h = record {
    told = hear_told w s.sequencer from l below h.told;
    placed = hear_placed w s.sequencer from l h.placed h.quiet;
    quiet = hear_quiet w s.sequencer from l h.placed h.quiet;
  }
  hear_sound s (suc (suc k)) from l below h = at_sound s k from l (slice_get s.sites k) h

  pub front_reached : (s : World) (server from : ℕ) (queue : List Letter) → link s.links server from ≡ queue → Reached s → Reached (take_front w s server from queue)
  front_reached s server from [] q r = r
  front_reached s server from (l ∷ rest) q r =
      let h = hear_sound s.servers server from l (sender s.links server from l rest r.narrow q) (record { told = r.told; placed = r.placed; quiet = r.quiet }) in
      record {
        narrow = posts_narrow server (session_of (hear w s.servers server from l).0 server) (1 + max (slice_index s.clocks server) l.clock) (hear w s.servers server from l).1 (set_link s.links server from rest) (set_narrow s.links server from rest r.narrow);
        told = h.told;
        placed = h.placed;
        quiet = h.quiet;
      }

  picks_reached : (s : World) (ps : List Pick) → Reached s → Reached (fold (pick w) s ps)
  picks_reached s [] r = r
  picks_reached s (p ∷ ps) r = picks_reached (pick w s p) ps (front_reached s p.server p.from (link s.links p.server p.from) refl r)

  rows_narrow : (ss : List Site) → AreNarrow (map (first_links w) ss)
  rows_narrow [] = tt
  rows_narrow (s ∷ ss) = ((let e : length {A = List Letter} (replicate w.sites []) ≡ w.sites = empty_long w.sites [] in omega (arith, e)), rows_narrow ss)

  pub open_reached : Reached (open_world w)
  open_reached =
      let e : length {A = List Letter} (replicate (w.sites + 2) []) ≡ w.sites + 2 = empty_long (w.sites + 2) [] in
      record {
        narrow = (omega (arith, e), (omega (arith, e), rows_narrow (sites w)));
        told = tt;
        placed = opening_placed w;
        quiet = opening_quiet w;
      }

  pub reached : (schedule : List Pick) → Reached (run w schedule)
  reached schedule = picks_reached (open_world w) schedule open_reached

  -- whom the entries name
  abbrev Names : Entry → Type 0
  Names e = (t : Txn) → named e ≡ Some t → has_txn (txns w) t ≡ true

  names_all : (h : List Entry) → Placed w h → AllByRecursion Names h
  names_all = by_last (λ h. Placed w h → AllByRecursion Names h) (λ p. tt)
      (λ h e before p. let parts = (placed_push w h e).0 p in all_push Names h e (before parts.0) (λ t q. placed_names w h e t parts.0 parts.1 q))

  at_most : (n m : ℕ) → nat_le n m ≡ true → n ≤ m
  at_most n m q = grind (arith, q)

  txn_known : (t : Txn) → has_txn (txns w) t ≡ true → KnowsTxn w t
  txn_known t q =
      let both = and_parts (nat_le 1 t.0) (nat_le t.0 (length w.programs * (w.restarts + 1))) (sym (is_known w t) ∙ q) in
      record { first = at_most 1 t.0 both.0; last = at_most t.0 (length w.programs * (w.restarts + 1)) both.1 }

  whole : (e : Entry) → Rest w e → Names e → IsEntryOf w e
  whole (Begin t s) r n = (txn_known t (n t refl), r)
  whole (Read t x s) r n = (txn_known t (n t refl), r.0, r.1)
  whole (Wait t request) r n = (txn_known t (n t refl), r)
  whole (Commit t request applied) r n = (txn_known t (n t refl), r.0, r.1)
  whole (Abort t cause act) r n = (txn_known t (n t refl), r)
  whole (Ack t s) r n = (txn_known t (n t refl), r)
  whole (SwitchOn k kind method) r n = tt
  whole (SwitchEnd k) r n = tt
  whole (Down s) r n = r
  whole (Up s session) r n = r
  whole (Clear s x version) r n = r

  all_whole : (h : List Entry) → Told w h → AllByRecursion Names h → AllByRecursion (IsEntryOf w) h
  all_whole [] r n = tt
  all_whole (e ∷ es) r n = (whole e r.0 n.0, all_whole es r.1 n.1)

  -- the order lists committed ones
  commit_names : (e : Entry) (rest : List (Txn × Request)) → Names e → AllByRecursion (λ (c : Txn × Request). KnowsTxn w c.0) rest → AllByRecursion (λ (c : Txn × Request). KnowsTxn w c.0) (cons_option (commit_of e) rest)
  commit_names (Commit t request applied) rest n a = (txn_known t (n t refl), a)
  commit_names (Begin t s) rest n a = a
  commit_names (Read t x s) rest n a = a
  commit_names (Wait t request) rest n a = a
  commit_names (Abort t cause act) rest n a = a
  commit_names (Ack t s) rest n a = a
  commit_names (SwitchOn k kind method) rest n a = a
  commit_names (SwitchEnd k) rest n a = a
  commit_names (Down s) rest n a = a
  commit_names (Up s session) rest n a = a
  commit_names (Clear s x version) rest n a = a

  commits_known : (p : List Noted) → AllByRecursion Names (map (λ n. n.entry) p) → AllByRecursion (λ (c : Txn × Request). KnowsTxn w c.0) (commits p)
  commits_known [] a = tt
  commits_known (n ∷ p) a = commit_names n.entry (commits p) a.0 (commits_known p a.1)

  mapped : (cs : List (Txn × Request)) → AllByRecursion (λ (c : Txn × Request). KnowsTxn w c.0) cs → AllByRecursion (KnowsTxn w) (map (λ c. c.0) cs)
  mapped [] a = tt
  mapped (c ∷ cs) a = (a.0, mapped cs a.1)

  found_one : (test : Txn → Bool) (ts : List Txn) → AllByRecursion (KnowsTxn w) ts → AllByRecursion (KnowsTxn w) (option_to_list (find test ts))
  found_one test [] a = tt
  found_one test (t ∷ ts) a = go (test t) (found_one test ts a.1)
    where
      go : (b : Bool) → AllByRecursion (KnowsTxn w) (option_to_list (find test ts)) → AllByRecursion (KnowsTxn w) (option_to_list (if b then Some t else find test ts))
      go true rest = (a.0, tt)
      go false rest = rest

  both_all : (xs ys : List Txn) → AllByRecursion (KnowsTxn w) xs → AllByRecursion (KnowsTxn w) ys → AllByRecursion (KnowsTxn w) (xs ++ ys)
  both_all [] ys a b = b
  both_all (x ∷ xs) ys a b = (a.0, both_all xs ys a.1 b)

  listed_all : (pairs : List (Txn × Txn)) (all : List Txn) → AllByRecursion (KnowsTxn w) all → (rounds listed : List Txn) → AllByRecursion (KnowsTxn w) listed →
      AllByRecursion (KnowsTxn w) (fold (λ listed t. list_next pairs all listed) listed rounds)
  listed_all pairs all a [] listed b = b
  listed_all pairs all a (r ∷ rs) listed b = listed_all pairs all a rs (list_next pairs all listed) (both_all listed _ b (found_one (is_next pairs all listed) all a))

  order_known : (p : List Noted) → AllByRecursion Names (map (λ n. n.entry) p) → AllByRecursion (KnowsTxn w) (serial_order p)
  order_known p a = go (list_all (has_txn (listing (edges p) (committed p))) (committed p))
    where
      go : (b : Bool) → AllByRecursion (KnowsTxn w) (if b then listing (edges p) (committed p) else [])
      go true = listed_all (edges p) (committed p) (mapped (commits p) (commits_known p a)) (committed p) [] tt
      go false = tt

  pub report_known : (schedule : List Pick) → IsReportOf w (report w (run w schedule).servers)
  report_known schedule =
      let h = (run w schedule).servers.sequencer.history in
      let r = reached schedule in
      let names = names_all h r.placed in
      record {
        entries = all_whole h r.told names;
        order = order_known (noted h) (subst (AllByRecursion Names) (sym (noted_entries h)) names);
        finals = finals_told w schedule;
        copies = copies_told w schedule;
      }
