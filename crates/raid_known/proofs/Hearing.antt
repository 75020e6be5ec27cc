-- Whatever letter of a server of the workload the sequencer hears, its entries say only what the workload has.
use Rattle.std.proofs.Common.{◌≡◌, ℕ, ℤ, zero, suc, ◌+◌, ◌==◌, ◌<◌, ◌≤◌, nat_le, nat_lt, Bool, true, false, ◌&&◌, ◌||◌, List, [], ◌∷◌, length, Option, Some, None, if◌then◌else◌, arith, sym, ◌∙◌, refl}
use Rattle.std.specs.List.{AllByRecursion}
use Rattle.std.specs.Option.{option_map_or}
use Rattle.std.proofs.lemmas.Bool.{and_parts, eqb-true, true≢false}
use Rattle.raid_base.specs.declared.names.Txn.{Txn}
use Rattle.raid_base.specs.declared.names.Item.{Item}
use Rattle.raid_base.specs.declared.names.Site.{Site}
use Rattle.raid_base.specs.declared.request.Request.{Request}
use Rattle.raid_base.specs.declared.entry.Act.TheVariants as acts
use Rattle.raid_base.specs.declared.entry.Cause.{Cause}
use Rattle.raid_base.specs.declared.entry.Cause.TheVariants as causes
use Rattle.raid_base.specs.declared.entry.Entry.{Entry}
use Rattle.raid_base.specs.declared.entry.Entry.TheVariants.{Begin, Abort, Ack, Down, Up, Clear}
use Rattle.raid_base.specs.Sites.{site, session}
use Rattle.raid_workload.specs.declared.workload.Workload.{Workload}
use Rattle.raid_workload.specs.Parts.{home}
use Rattle.raid_rules.specs.History.{noted, version}
use Rattle.raid_rules.specs.Sessions.{owes}
use Rattle.raid_record.proofs.Rules.{is_known, home_is_site}
use Rattle.raid_legal.specs.Seen.{vector, is_up, is_locked}
use Rattle.raid_legal.specs.Answers.{answer_read, answer_commit}
use Rattle.raid_legal.specs.Forced.{forced}
use Rattle.raid_legal.specs.Legal.{is_free, may_begin}
use Rattle.raid_message.specs.declared.letter.Message.{Message}
use Rattle.raid_message.specs.declared.letter.Message.TheVariants as letters
use Rattle.raid_message.specs.declared.letter.Letter.{Letter}
use Rattle.raid_steps.specs.State.{Turn, Sequencer, opened}
use Rattle.raid_steps.specs.Fits.{knows_txn, knows_site, knows_item, knows_pairs, knows_request, is_own_end, is_to_sequencer}
use Rattle.raid_steps.specs.Sequencer as steps
use Rattle.raid_steps.specs.Sequencer.{so_far, place, place_if, settle_from, settle, finish, hear_sequencer}
use Rattle.raid_report.specs.Known.{KnowsSite, KnowsItem, KnowsPair, KnowsRequest}
use Rattle.raid_known.specs.Rest.{Rest, Told}
use Rattle.raid_known.proofs.Entries.{Opt, all_push, read_rest, commit_rest, forced_rest}

module _ (w : Workload) where
  abbrev Tells : Turn Sequencer → Type 0
  Tells turn = Told w turn.state.history

  place_told : (ask : ℕ) (turn : Turn Sequencer) (e : Entry) → Tells turn → Rest w e → Tells (place w ask turn e)
  place_told ask turn e h r = all_push (Rest w) turn.state.history e h r

  place_if_told : (ask : ℕ) (turn : Turn Sequencer) (o : Option Entry) → Tells turn → Opt w o → Tells (place_if w ask turn o)
  place_if_told ask turn None h r = h
  place_if_told ask turn (Some e) h r = place_told ask turn e h r

  settle_from_told : (n : ℕ) (turn : Turn Sequencer) → Tells turn → Tells (settle_from w n turn)
  settle_from_told zero turn h = h
  settle_from_told (suc n) turn h = go (forced w (so_far turn)) (forced_rest w turn.state.history h) (λ e r. settle_from_told n (place w 0 turn e) (place_told 0 turn e h r))
    where
      go : (o : Option Entry) → Opt w o → ((e : Entry) → Rest w e → Tells (settle_from w n (place w 0 turn e))) → Tells (option_map_or (λ e. settle_from w n (place w 0 turn e)) o turn)
      go None r rest = h
      go (Some e) r rest = rest e r

  settle_told : (turn : Turn Sequencer) → Tells turn → Tells (settle w turn)
  settle_told turn h = settle_from_told _ turn h

  finish_told : (s : Sequencer) (turn : Turn Sequencer) → Tells turn → Tells (finish w s turn)
  finish_told s turn h = settle_told turn h

  if_told : (b : Bool) (a c : Turn Sequencer) → Tells a → Tells c → Tells (if b then a else c)
  if_told true a c x y = x
  if_told false a c x y = y

  when : (b : Bool) (e : Entry) → Rest w e → Opt w (if b then Some e else None)
  when true e r = r
  when false e r = tt

  leave_told : (turn : Turn Sequencer) (s : Site) → KnowsSite w s → Tells turn → Tells (steps.leave w turn s)
  leave_told turn s k h = if_told (is_up w (so_far turn) s) (settle w (place w 0 turn (Down s))) turn (settle_told (place w 0 turn (Down s)) (place_told 0 turn (Down s) h k)) h

  hello_told : (turn : Turn Sequencer) (s : Site) (n : ℕ) → KnowsSite w s → Tells turn → Tells (steps.hello_row w turn s n)
  hello_told turn s n k h =
      let up = place w 0 (steps.leave w turn s) (Up s n) in
      let told = place_told 0 (steps.leave w turn s) (Up s n) (leave_told turn s k h) k in
      if_told (nat_le n (steps.announced up s)) (place w 0 (settle w up) (Down s)) up (place_told 0 (settle w up) (Down s) (settle_told up told) k) told

  free_told : (ask : ℕ) (turn : Turn Sequencer) (t : Txn) (o : Option Entry) → Tells turn → Opt w o → Tells (steps.free_row w ask turn t o)
  free_told ask turn t o h r = if_told (is_free (so_far turn) t) (place_if w ask turn o) turn (place_if_told ask turn o h r) h

  at_most : (n m : ℕ) → nat_le n m ≡ true → n ≤ m
  at_most n m q = grind (arith, q)

  below : (n m : ℕ) → nat_lt n m ≡ true → n < m
  below n m q = grind (arith, q)

  site_known : (s : Site) → knows_site w s ≡ true → KnowsSite w s
  site_known s q = let both = and_parts (nat_le 1 s.0) (nat_le s.0 w.sites) q in record { first = at_most 1 s.0 both.0; last = at_most s.0 w.sites both.1 }

  item_known : (x : Item) → knows_item w x ≡ true → KnowsItem w x
  item_known x q = below x.0 (length w.items) q

  pairs_known : (ps : List (Item × ℤ)) → knows_pairs w ps ≡ true → AllByRecursion (KnowsPair w) ps
  pairs_known [] q = tt
  pairs_known (p ∷ ps) q = let both = and_parts (knows_item w p.0) (knows_pairs w ps) q in (item_known p.0 both.0, pairs_known ps both.1)

  request_known : (r : Request) → knows_request w r ≡ true → KnowsRequest w r
  request_known r q =
      let both = and_parts (knows_pairs w r.reads && knows_pairs w r.writes) (length r.under == w.sites) q in
      let pairs = and_parts (knows_pairs w r.reads) (knows_pairs w r.writes) both.0 in
      record { reads = pairs_known r.reads pairs.0; writes = pairs_known r.writes pairs.1; under = eqb-true (length r.under) w.sites both.1 }

  home_known : (t : Txn) → knows_txn w t ≡ true → KnowsSite w (home w t)
  home_known t q = let s = home_is_site w t (is_known w t ∙ q) in record { first = s.least; last = s.most }

  end_rest : (t : Txn) (cause : Cause) (reads : List (Item × ℤ)) → is_own_end cause ≡ true → AllByRecursion (KnowsPair w) reads → Rest w (Abort t cause (acts.Ended reads))
  end_rest t causes.Own reads q k = k
  end_rest t causes.Overflow reads q k = k
  end_rest t causes.Late reads q k = absurd (true≢false (sym q))
  end_rest t causes.Invalid reads q k = absurd (true≢false (sym q))
  end_rest t causes.Cycle reads q k = absurd (true≢false (sym q))
  end_rest t causes.Deadlock reads q k = absurd (true≢false (sym q))
  end_rest t (causes.SwitchOff n) reads q k = absurd (true≢false (sym q))
  end_rest t causes.HomeDown reads q k = absurd (true≢false (sym q))
  end_rest t (causes.Stale v) reads q k = absurd (true≢false (sym q))
  end_rest t causes.NoCopy reads q k = absurd (true≢false (sym q))

  row_told : (turn : Turn Sequencer) (s : Site) (n : ℕ) (m : Message) → KnowsSite w s → is_to_sequencer w m ≡ true → Tells turn → Tells (steps.site_row w turn s n m)
  row_told turn s n letters.Hello k q h = hello_told turn s n k h
  row_told turn s n (letters.Begin t) k q h = place_if_told 0 turn _ h (when (may_begin w (so_far turn) t) (Begin t (home w t)) (home_known t q))
  row_told turn s n (letters.ReadAsk t ask x) k q h =
      let both = and_parts (knows_txn w t) (knows_item w x) q in
      free_told ask turn t (Some (answer_read w (so_far turn) t x)) h (read_rest w (so_far turn) t x (item_known x both.1) (home_known t both.0))
  row_told turn s n (letters.CommitAsk t r) k q h =
      free_told 0 turn t (answer_commit w (so_far turn) t r) h (commit_rest w (so_far turn) t r (request_known r (and_parts (knows_txn w t) (knows_request w r) q).1))
  row_told turn s n (letters.EndAsk t cause reads) k q h =
      let both = and_parts (knows_txn w t && is_own_end cause) (knows_pairs w reads) q in
      free_told 0 turn t (Some (Abort t cause (acts.Ended reads))) h (end_rest t cause reads (and_parts (knows_txn w t) (is_own_end cause) both.0).1 (pairs_known reads both.1))
  row_told turn s n (letters.Ack t) k q h = place_if_told 0 turn _ h (when (owes (so_far turn) s t) (Ack t s) k)
  row_told turn s n (letters.CopyDone x v) k q h =
      place_if_told 0 turn _ h (when (is_locked w (so_far turn) s x && v == version (so_far turn) x) (Clear s x v) (k, item_known x q))
  row_told turn s n (letters.Welcome v next) k q h = h
  row_told turn s n (letters.ReadDo x j i home m) k q h = h
  row_told turn s n (letters.Serving x j r) k q h = h
  row_told turn s n (letters.Apply x number) k q h = h
  row_told turn s n (letters.Done x) k q h = h
  row_told turn s n (letters.Drop x again) k q h = h
  row_told turn s n (letters.DownNote r) k q h = h
  row_told turn s n (letters.UpNote r m) k q h = h
  row_told turn s n (letters.CopyDo x r m) k q h = h
  row_told turn s n (letters.Value x j v) k q h = h
  row_told turn s n (letters.Prepare x writes) k q h = h
  row_told turn s n (letters.Vote x answer) k q h = h
  row_told turn s n (letters.CopyValue x v version) k q h = h
  row_told turn s n letters.Stop k q h = h
  row_told turn s n letters.Return k q h = h
  row_told turn s n letters.Halted k q h = h
  row_told turn s n (letters.Down r m) k q h = h
  row_told turn s n (letters.Ends count) k q h = h

  -- the monitor's news
  news_told : (state : Sequencer) (m : Message) → Told w state.history → Told w (steps.hear_down w state m).state.history
  news_told state (letters.Down s n) h = go (knows_site w s) refl
    where
      go : (b : Bool) → knows_site w s ≡ b → Told w (if b then finish w state (steps.down_row w (opened state) s n) else opened state).state.history
      go true q = finish_told state (steps.down_row w (opened state) s n) (place_if_told 0 (steps.announce (opened state) s n) _ h (when (is_up w (so_far (opened state)) s && session (vector w (so_far (opened state))) s == n) (Down s) (site_known s q)))
      go false q = h
  news_told state letters.Hello h = h
  news_told state (letters.Begin t) h = h
  news_told state (letters.ReadAsk t ask x) h = h
  news_told state (letters.CommitAsk t r) h = h
  news_told state (letters.EndAsk t cause reads) h = h
  news_told state (letters.Ack t) h = h
  news_told state (letters.CopyDone x v) h = h
  news_told state (letters.Welcome v next) h = h
  news_told state (letters.ReadDo x j i home m) h = h
  news_told state (letters.Serving x j r) h = h
  news_told state (letters.Apply x number) h = h
  news_told state (letters.Done x) h = h
  news_told state (letters.Drop x again) h = h
  news_told state (letters.DownNote r) h = h
  news_told state (letters.UpNote r m) h = h
  news_told state (letters.CopyDo x r m) h = h
  news_told state (letters.Value x j v) h = h
  news_told state (letters.Prepare x writes) h = h
  news_told state (letters.Vote x answer) h = h
  news_told state (letters.CopyValue x v version) h = h
  news_told state letters.Stop h = h
  news_told state letters.Return h = h
  news_told state letters.Halted h = h
  news_told state (letters.Ends count) h = h

  -- a site's letter
  of_site_told : (state : Sequencer) (s : Site) (l : Letter) → KnowsSite w s → Told w state.history → Told w (steps.hear_of_site w state s l).state.history
  of_site_told state s l k h = go ((steps.is_hello l.message || l.from == session (vector w (noted state.history)) s) && is_to_sequencer w l.message) refl
    where
      go : (b : Bool) → ((steps.is_hello l.message || l.from == session (vector w (noted state.history)) s) && is_to_sequencer w l.message) ≡ b →
          Told w (if b then finish w state (steps.site_row w (opened state) s l.from l.message) else opened state).state.history
      go true q = finish_told state (steps.site_row w (opened state) s l.from l.message)
          (row_told (opened state) s l.from l.message k (and_parts (steps.is_hello l.message || l.from == session (vector w (noted state.history)) s) (is_to_sequencer w l.message) q).1 h)
      go false q = h

  pub hear_told : (state : Sequencer) (from : ℕ) (l : Letter) → from < w.sites + 2 → Told w state.history → Told w (hear_sequencer w state from l).state.history
  hear_told state zero l below h = news_told state l.message h
  hear_told state (suc zero) l below h = h
  hear_told state (suc (suc k)) l below h = of_site_told state (site (k + 1)) l (record { first = omega arith; last = omega (arith, below) }) h
