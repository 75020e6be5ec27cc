-- What the monitor and the sequencer send goes to whom the table of letters says, and so for every server.
use Rattle.std.proofs.Common.{◌≡◌, ℕ, zero, suc, ◌+◌, ◌-◌, ◌*◌, ◌<◌, ◌==◌, nat_le, Bool, true, false, not, ◌&&◌, ◌||◌, List, [], ◌∷◌, ◌++◌, length, map, Option, Some, None, if◌then◌else◌, arith, sym, subst, ap, ◌∙◌, refl}
use Rattle.std.specs.Prelude.{filter, filter_map, flat_map, slice_get, nat_lt, option_map, drop}
use Rattle.std.specs.List.{list_any, list_all, cons_option, prefix_len}
use Rattle.std.specs.Option.{option_map_or}
use Rattle.std.proofs.lemmas.Bool.{true≢false, and_parts, and_from}
use Rattle.std.proofs.lemmas.Grind.{common_steps}
use Rattle.raid_base.specs.declared.names.Txn.{Txn}
use Rattle.raid_base.specs.declared.names.Item.{Item}
use Rattle.raid_base.specs.declared.names.Site.{Site}
use Rattle.raid_base.specs.declared.request.Request.{Request}
use Rattle.raid_base.specs.declared.entry.Entry.{Entry}
use Rattle.raid_base.specs.declared.entry.Entry.TheVariants.{Begin, Read, Wait, Commit, Abort, Ack, Down, Up, Clear}
use Rattle.raid_base.specs.declared.entry.Act.TheVariants as acts
use Rattle.raid_base.specs.declared.entry.Cause.{Cause}
use Rattle.raid_base.specs.declared.entry.Cause.TheVariants as causes
use Rattle.raid_base.specs.declared.entry.Noted.{Noted}
use Rattle.raid_base.specs.declared.verdict.Verdict.{Verdict}
use Rattle.raid_base.specs.declared.verdict.Verdict.TheVariants as verdicts
use Rattle.raid_base.specs.Names.{is_item, is_site, has_site}
use Rattle.raid_base.specs.Sites.{all_sites, session, site}
use Rattle.raid_workload.specs.declared.workload.Workload.{Workload}
use Rattle.raid_workload.specs.declared.workload.Event.{Event}
use Rattle.raid_workload.specs.Parts.{txns, sites, items, placement, home}
use Rattle.raid_rules.specs.History.{noted, ends, stamp, is_waiting, version}
use Rattle.raid_rules.specs.Sessions.{holders, is_source, source_for, owes}
use Rattle.raid_rules.specs.Verdicts.{reading, writing}
use Rattle.raid_legal.specs.Seen.{vector, is_up, is_locked, sources}
use Rattle.raid_legal.specs.InForce.{verdict}
use Rattle.raid_legal.specs.Answers.{served, answer_read, answer_commit, answered, decided, closes_waits, site_refusal}
use Rattle.raid_legal.specs.Forced.{forced}
use Rattle.raid_legal.specs.Legal.{is_free, may_begin}
use Rattle.raid_legal.proofs.Left.{Compels, forced_compels}
use Rattle.raid_message.specs.declared.letter.Message.{Message}
use Rattle.raid_message.specs.declared.letter.Message.TheVariants as letters
use Rattle.raid_message.specs.declared.letter.Letter.{Letter}
use Rattle.raid_steps.specs.State.{Out, Turn, opened, tell, to_site, Copying, Sequencer, SiteState}
use Rattle.raid_steps.specs.Fits.{knows_txn, knows_site, knows_item, is_to_sequencer}
use Rattle.raid_steps.specs.Table.{may_monitor, may_sequencer, may_site, may_send, is_note}
use Rattle.raid_steps.specs.Monitor.{due_events, event_out, monitor_row}
use Rattle.raid_steps.specs.Sequencer as rows
use Rattle.raid_steps.specs.World.{Servers, hear, hear_at}
use Rattle.raid_steps.proofs.Parts.{all_filtered, all_appended, all_cut, all_dropped, all_got, sites_known, number_known, events_known, holders_known, home_known}
use Rattle.raid_steps.proofs.AddressedSite.{site_right}

-- the monitor
event_right : (w : Workload) (e : Event) → knows_site w e.site ≡ true → may_monitor w (event_out e) ≡ true
event_right w e known = by_stop e.stop where
  by_stop : (stop : Bool) → may_monitor w (e.site.0 + 1, 0, if stop then letters.Stop else letters.Return) ≡ true
  by_stop true = grind (arith, common_steps, known)
  by_stop false = grind (arith, common_steps, known)

events_right : (w : Workload) (es : List Event) → list_all (λ (e : Event). knows_site w e.site) es ≡ true → list_all (may_monitor w) (map event_out es) ≡ true
events_right w [] all = refl
events_right w (e ∷ es) all =
    let parts = and_parts (knows_site w e.site) (list_all (λ (e : Event). knows_site w e.site) es) all in
    and_from (may_monitor w (event_out e)) (list_all (may_monitor w) (map event_out es)) (event_right w e parts.0) (events_right w es parts.1)

monitor_right : (w : Workload) (fired from session : ℕ) (m : Message) → list_all (may_monitor w) (monitor_row w fired from session m).outs ≡ true
monitor_right w fired from session (letters.Ends count) = by_sender (from == 1) where
  by_sender : (b : Bool) → list_all (may_monitor w) (if b then record { state = fired + length (due_events w fired count); outs = map event_out (due_events w fired count) } else opened fired).outs ≡ true
  by_sender true = events_right w (due_events w fired count) (all_cut _ (prefix_len (λ (e : Event). nat_le e.trigger count) (drop fired w.events)) (drop fired w.events) (all_dropped _ fired w.events (events_known w)))
  by_sender false = refl
monitor_right w fired from session letters.Halted = by_sender (nat_le 2 from) where
  by_sender : (b : Bool) → list_all (may_monitor w) (if b then tell (opened fired) (letters.Down (site (from - 1)) session) else opened fired).outs ≡ true
  by_sender true = refl
  by_sender false = refl
monitor_right w fired from session other = refl

module _ (w : Workload) where
  -- all that was sent goes where it may
  abbrev Right : Turn Sequencer → Type 0
  Right turn = list_all (may_sequencer w) turn.outs ≡ true

  note_right : (v : List ℕ) (s : Site) (m : Message) → knows_site w s ≡ true → is_note m ≡ true → may_sequencer w (to_site v s m) ≡ true
  note_right v s m known fits = grind (arith, common_steps, known, fits)

  notes_right : (v : List ℕ) (m : Message) (ss : List Site) → is_note m ≡ true → list_all (knows_site w) ss ≡ true → list_all (may_sequencer w) (map (λ s. to_site v s m) ss) ≡ true
  notes_right v m [] fits known = refl
  notes_right v m (s ∷ ss) fits known =
      let parts = and_parts (knows_site w s) (list_all (knows_site w) ss) known in
      and_from (may_sequencer w (to_site v s m)) (list_all (may_sequencer w) (map (λ s. to_site v s m) ss)) (note_right v s m parts.0 fits) (notes_right v m ss fits parts.1)

  both : (a b : List Out) → list_all (may_sequencer w) a ≡ true → list_all (may_sequencer w) b ≡ true → list_all (may_sequencer w) (a ++ b) ≡ true
  both a b right right_too = all_appended (may_sequencer w) a b right right_too

  one_if : (b : Bool) (out : Out) → may_sequencer w out ≡ true → list_all (may_sequencer w) (if b then out ∷ [] else []) ≡ true
  one_if true out right = and_from (may_sequencer w out) true right refl
  one_if false out right = refl

  -- what the entries send
  abbrev Named : Entry → Type 0
  Named (Read t x s) = (knows_site w s ≡ true) × (knows_site w (home w t) ≡ true)
  Named (Up s n) = knows_site w s ≡ true
  Named other = Unit {0}

  reads_right : (p : List Noted) (ask : ℕ) (t : Txn) (x : Item) (s : Site) → knows_site w s ≡ true → knows_site w (home w t) ≡ true → list_all (may_sequencer w) (rows.read_sends w p ask t x s) ≡ true
  reads_right p ask t x s known home_too =
      let v = vector w p in
      let h = home w t in
      and_from (may_sequencer w (to_site v s (letters.ReadDo t ask x h (session v h)))) (list_all (may_sequencer w) (if is_site s h then [] else to_site v h (letters.Serving t ask s) ∷ []))
      (note_right v s (letters.ReadDo t ask x h (session v h)) known refl) (elsewhere (is_site s h)) where
        elsewhere : (b : Bool) → list_all (may_sequencer w) (if b then [] else to_site (vector w p) (home w t) (letters.Serving t ask s) ∷ []) ≡ true
        elsewhere true = refl
        elsewhere false = and_from (may_sequencer w (to_site (vector w p) (home w t) (letters.Serving t ask s))) true (note_right (vector w p) (home w t) (letters.Serving t ask s) home_too refl) refl

  commit_right : (p : List Noted) (t : Txn) (applied : List Site) (s : Site) → knows_site w s ≡ true → list_all (may_sequencer w) (rows.commit_sends w p t applied s) ≡ true
  commit_right p t applied s known =
      let v = vector w p in
      both (if has_site applied s then to_site v s (letters.Apply t (length p)) ∷ [] else []) (if is_site s (home w t) && is_up w p s then to_site v s (letters.Done t) ∷ [] else [])
      (one_if (has_site applied s) (to_site v s (letters.Apply t (length p))) (note_right v s (letters.Apply t (length p)) known refl))
      (one_if (is_site s (home w t) && is_up w p s) (to_site v s (letters.Done t)) (note_right v s (letters.Done t) known refl))

  commits_right : (p : List Noted) (t : Txn) (applied : List Site) (ss : List Site) → list_all (knows_site w) ss ≡ true → list_all (may_sequencer w) (flat_map (rows.commit_sends w p t applied) ss) ≡ true
  commits_right p t applied [] known = refl
  commits_right p t applied (s ∷ ss) known =
      let parts = and_parts (knows_site w s) (list_all (knows_site w) ss) known in
      both (rows.commit_sends w p t applied s) (flat_map (rows.commit_sends w p t applied) ss) (commit_right p t applied s parts.0) (commits_right p t applied ss parts.1)

  to_all_right : (p : List Noted) (m : Message) → is_note m ≡ true → list_all (may_sequencer w) (rows.to_all w p m) ≡ true
  to_all_right p m fits = notes_right (vector w p) m (filter (is_up w p) (sites w)) fits (all_filtered (knows_site w) (is_up w p) (sites w) (sites_known w))

  up_right : (p : List Noted) (s : Site) (n : ℕ) → knows_site w s ≡ true → list_all (may_sequencer w) (rows.up_sends w p s n) ≡ true
  up_right p s n known =
      let v = vector w p in
      let welcome = letters.Welcome v (rows.next_number w p s) in
      let others = filter (λ r. is_up w p r && not (is_site s r)) (sites w) in
      and_from (may_sequencer w (to_site v s welcome)) (list_all (may_sequencer w) (map (λ r. to_site v r (letters.UpNote s n)) others))
      (note_right v s welcome known refl) (notes_right v (letters.UpNote s n) others refl (all_filtered (knows_site w) (λ r. is_up w p r && not (is_site s r)) (sites w) (sites_known w)))

  sends_right : (p : List Noted) (ask : ℕ) (e : Entry) → Named e → list_all (may_sequencer w) (rows.sends w p ask e) ≡ true
  sends_right p ask (Read t x s) named = reads_right p ask t x s named.0 named.1
  sends_right p ask (Commit t request applied) named = commits_right p t applied (sites w) (sites_known w)
  sends_right p ask (Abort t cause act) named = to_all_right p (rows.drop_of w t cause) refl
  sends_right p ask (Down s) named = to_all_right p (letters.DownNote s) refl
  sends_right p ask (Up s n) named = up_right p s n named
  sends_right p ask other named = refl

  places : (ask : ℕ) (turn : Turn Sequencer) (e : Entry) → Named e → Right turn → Right (rows.place w ask turn e)
  places ask turn e named right = both turn.outs (rows.sends w (noted (turn.state.history ++ e ∷ [])) ask e) right (sends_right (noted (turn.state.history ++ e ∷ [])) ask e named)

  abbrev NamedIf : Option Entry → Type 0
  NamedIf None = Unit {0}
  NamedIf (Some e) = Named e

  places_if : (ask : ℕ) (turn : Turn Sequencer) (o : Option Entry) → NamedIf o → Right turn → Right (rows.place_if w ask turn o)
  places_if ask turn None named right = right
  places_if ask turn (Some e) named right = places ask turn e named right

  -- forced entries name no site
  compelled : (p : List Noted) (e : Entry) → Compels w p e → Named e
  compelled p (Read t x s) c = absurd c
  compelled p (Up s n) c = absurd c
  compelled p other c = tt

  settles_from : (n : ℕ) (turn : Turn Sequencer) → Right turn → Right (rows.settle_from w n turn)
  settles_from zero turn right = right
  settles_from (suc n) turn right = step (λ e. settles_from n (rows.place w 0 turn e)) (forced w (rows.so_far turn)) refl where
    step : ((e : Entry) → Right (rows.place w 0 turn e) → Right (rows.settle_from w n (rows.place w 0 turn e))) → (o : Option Entry) → forced w (rows.so_far turn) ≡ o →
        Right (option_map_or (λ e. rows.settle_from w n (rows.place w 0 turn e)) o turn)
    step rest None q = right
    step rest (Some e) q = rest e (places 0 turn e (compelled (rows.so_far turn) e (forced_compels w (rows.so_far turn) e q)) right)

  settles : (turn : Turn Sequencer) → Right turn → Right (rows.settle w turn)
  settles turn right = settles_from (length (txns w) + 2 * length w.switches) turn right

  -- the rows
  either : (b : Bool) (x y : Turn Sequencer) → Right x → Right y → Right (if b then x else y)
  either true x y right right_too = right
  either false x y right right_too = right_too

  named_if : (b : Bool) (e : Entry) → Named e → NamedIf (if b then Some e else None)
  named_if true e named = named
  named_if false e named = tt

  frees : (ask : ℕ) (turn : Turn Sequencer) (t : Txn) (o : Option Entry) → NamedIf o → Right turn → Right (rows.free_row w ask turn t o)
  frees ask turn t o named right = either (is_free (rows.so_far turn) t) (rows.place_if w ask turn o) turn (places_if ask turn o named right) right

  downs : (turn : Turn Sequencer) (s : Site) (n : ℕ) → Right turn → Right (rows.down_row w turn s n)
  downs turn s n right = places_if 0 (rows.announce turn s n) _ (named_if (is_up w (rows.so_far turn) s && session (vector w (rows.so_far turn)) s == n) (Down s) tt) right

  leaves : (turn : Turn Sequencer) (s : Site) → Right turn → Right (rows.leave w turn s)
  leaves turn s right = either (is_up w (rows.so_far turn) s) (rows.settle w (rows.place w 0 turn (Down s))) turn (settles (rows.place w 0 turn (Down s)) (places 0 turn (Down s) tt right)) right

  leaves_again : (turn : Turn Sequencer) (s : Site) (n : ℕ) → Right turn → Right (rows.leave_again w turn s n)
  leaves_again turn s n right = either (nat_le n (rows.announced turn s)) (rows.place w 0 (rows.settle w turn) (Down s)) turn (places 0 (rows.settle w turn) (Down s) tt (settles turn right)) right

  hellos : (turn : Turn Sequencer) (s : Site) (n : ℕ) → knows_site w s ≡ true → Right turn → Right (rows.hello_row w turn s n)
  hellos turn s n known right = leaves_again (rows.place w 0 (rows.leave w turn s) (Up s n)) s n (places 0 (rows.leave w turn s) (Up s n) known (leaves turn s right))

  -- sources are known, and so the answer to a read names a known site
  inside_known : (ss : List Site) (s : Site) → list_all (knows_site w) ss ≡ true → has_site ss s ≡ true → knows_site w s ≡ true
  inside_known [] s all inside = absurd (true≢false (sym inside))
  inside_known (r ∷ ss) s all inside = let parts = and_parts (knows_site w r) (list_all (knows_site w) ss) all in step parts.0 (inside_known ss s parts.1) (is_site s r) refl where
    step : knows_site w r ≡ true → (has_site ss s ≡ true → knows_site w s ≡ true) → (b : Bool) → is_site s r ≡ b → knows_site w s ≡ true
    step known rest true q = grind (arith, common_steps, known, q)
    step known rest false q = rest (sym (ap (λ b. b || has_site ss s) q) ∙ inside)

  passing_known : (f : Site → Bool) (ss : List Site) → ((s : Site) → f s ≡ true → knows_site w s ≡ true) → list_all (knows_site w) (filter f ss) ≡ true
  passing_known f [] each = refl
  passing_known f (s ∷ ss) each = step (passing_known f ss each) (f s) refl where
    step : list_all (knows_site w) (filter f ss) ≡ true → (b : Bool) → f s ≡ b → list_all (knows_site w) (if b then s ∷ filter f ss else filter f ss) ≡ true
    step rest true q = and_from (knows_site w s) (list_all (knows_site w) (filter f ss)) (each s q) rest
    step rest false q = rest

  sources_known : (p : List Noted) (x : Item) → list_all (knows_site w) (sources w p x) ≡ true
  sources_known p x = passing_known (is_source w.sites (placement w) p x) all_sites (λ s q. inside_known (holders (placement w) x) s (holders_known w x) (and_parts _ _ (and_parts _ _ q).0).0)

  source_known : (p : List Noted) (x : Item) (h s : Site) → source_for (sources w p x) h ≡ Some s → knows_site w s ≡ true
  source_known p x h s q = step (has_site (sources w p x) h) refl q where
    same : Some h ≡ Some s → h ≡ s
    same q = cc q

    step : (b : Bool) → has_site (sources w p x) h ≡ b → (if b then Some h else slice_get (sources w p x) 0) ≡ Some s → knows_site w s ≡ true
    step true inside q = subst (λ r. knows_site w r ≡ true) (same q) (inside_known (sources w p x) h (sources_known p x) inside)
    step false inside q = all_got (knows_site w) (sources w p x) 0 s (sources_known p x) q

  served_named : (t : Txn) (x : Item) (o : Option Site) (v : Verdict) → knows_site w (home w t) ≡ true → ((s : Site) → o ≡ Some s → knows_site w s ≡ true) → Named (served t x o v)
  served_named t x None v home_too known = tt
  served_named t x (Some s) (verdicts.Reject why) home_too known = tt
  served_named t x (Some s) verdicts.Wait home_too known = (known s refl, home_too)
  served_named t x (Some s) verdicts.Grant home_too known = (known s refl, home_too)

  read_named : (p : List Noted) (t : Txn) (x : Item) → knows_txn w t ≡ true → Named (answer_read w p t x)
  read_named p t x known = served_named t x (source_for (sources w p x) (home w t)) (verdict w p (reading t (stamp p t) x)) (home_known w t known) (source_known p x (home w t))

  -- the answer to a commit names no site
  decided_named : (p : List Noted) (t : Txn) (request : Request) (v : Verdict) → NamedIf (decided w p t request v)
  decided_named p t request (verdicts.Reject why) = tt
  decided_named p t request verdicts.Grant = tt
  decided_named p t request verdicts.Wait = waits_named (is_waiting p t) (closes_waits w p t request) where
    waits_named : (a b : Bool) → NamedIf (if a then None else if b then Some (Abort t causes.Deadlock (acts.Commit request)) else Some (Wait t request))
    waits_named true b = tt
    waits_named false true = tt
    waits_named false false = tt

  answered_named : (p : List Noted) (t : Txn) (request : Request) (o : Option Cause) → NamedIf (answered w p t request o)
  answered_named p t request (Some why) = tt
  answered_named p t request None = decided_named p t request (verdict w p (writing t (stamp p t) request.writes))

  site_rows : (turn : Turn Sequencer) (s : Site) (n : ℕ) (m : Message) → knows_site w s ≡ true → is_to_sequencer w m ≡ true → Right turn → Right (rows.site_row w turn s n m)
  site_rows turn s n letters.Hello known fits right = hellos turn s n known right
  site_rows turn s n (letters.Begin t) known fits right = places_if 0 turn _ (named_if (may_begin w (rows.so_far turn) t) (Begin t (home w t)) tt) right
  site_rows turn s n (letters.ReadAsk t ask x) known fits right =
      frees ask turn t (Some (answer_read w (rows.so_far turn) t x)) (read_named (rows.so_far turn) t x (and_parts (knows_txn w t) (knows_item w x) fits).0) right
  site_rows turn s n (letters.CommitAsk t request) known fits right =
      frees 0 turn t (answer_commit w (rows.so_far turn) t request) (answered_named (rows.so_far turn) t request (site_refusal w (rows.so_far turn) request)) right
  site_rows turn s n (letters.EndAsk t cause reads) known fits right = frees 0 turn t (Some (Abort t cause (acts.Ended reads))) tt right
  site_rows turn s n (letters.Ack t) known fits right = places_if 0 turn _ (named_if (owes (rows.so_far turn) s t) (Ack t s) tt) right
  site_rows turn s n (letters.CopyDone x v) known fits right =
      places_if 0 turn _ (named_if (is_locked w (rows.so_far turn) s x && v == version (rows.so_far turn) x) (Clear s x v) tt) right
  site_rows turn s n other known fits right = absurd (true≢false (sym fits))

  -- copies are asked of sources
  due_known : (p : List Noted) (out : List Copying) (s : Site) (xs : List Item) → list_all (λ (c : Copying). knows_site w c.source)
      (filter_map
      (λ x. if is_locked w p s x && not (list_any (λ c. is_site s c.target && is_item x c.item) out)
      then option_map (λ r. record { target = s; item = x; source = r }) (slice_get (sources w p x) 0)
      else None)
      xs) ≡ true
  due_known p out s [] = refl
  due_known p out s (x ∷ xs) = step (due_known p out s xs) (is_locked w p s x && not (list_any (λ c. is_site s c.target && is_item x c.item) out)) (slice_get (sources w p x) 0) refl where
    rest : List Copying
    rest = filter_map
        (λ x. if is_locked w p s x && not (list_any (λ c. is_site s c.target && is_item x c.item) out)
        then option_map (λ r. record { target = s; item = x; source = r }) (slice_get (sources w p x) 0)
        else None)
        xs

    step : list_all (λ (c : Copying). knows_site w c.source) rest ≡ true → (b : Bool) (o : Option Site) → slice_get (sources w p x) 0 ≡ o →
        list_all (λ (c : Copying). knows_site w c.source) (cons_option (if b then option_map (λ r. record { target = s; item = x; source = r }) o else None) rest) ≡ true
    step known true None q = known
    step known true (Some r) q = and_from (knows_site w r) (list_all (λ (c : Copying). knows_site w c.source) rest) (all_got (knows_site w) (sources w p x) 0 r (sources_known p x) q) known
    step known false o q = known

  all_due : (p : List Noted) (out : List Copying) (ss : List Site) → list_all (λ (c : Copying). knows_site w c.source) (flat_map (rows.copies_due w p out) ss) ≡ true
  all_due p out [] = refl
  all_due p out (s ∷ ss) = all_appended _ (rows.copies_due w p out s) (flat_map (rows.copies_due w p out) ss) (due_known p out s (items w)) (all_due p out ss)

  copies_right : (v : List ℕ) (cs : List Copying) → list_all (λ (c : Copying). knows_site w c.source) cs ≡ true → list_all (may_sequencer w) (map (rows.copy_out v) cs) ≡ true
  copies_right v [] known = refl
  copies_right v (c ∷ cs) known =
      let parts = and_parts (knows_site w c.source) (list_all (λ (c : Copying). knows_site w c.source) cs) known in
      and_from (may_sequencer w (rows.copy_out v c)) (list_all (may_sequencer w) (map (rows.copy_out v) cs))
      (note_right v c.source (letters.CopyDo c.item c.target (session v c.target)) parts.0 refl) (copies_right v cs parts.1)

  sends_copies : (turn : Turn Sequencer) → Right turn → Right (rows.send_copies w turn)
  sends_copies turn right =
      let p = rows.so_far turn in
      both turn.outs _ right (copies_right (vector w p) (flat_map (rows.copies_due w p turn.state.copying) (filter (is_up w p) (sites w))) (all_due p turn.state.copying (filter (is_up w p) (sites w))))

  sends_ends : (before : ℕ) (turn : Turn Sequencer) → Right turn → Right (rows.send_ends before turn)
  sends_ends before turn right = both turn.outs _ right (one_if (nat_lt before (ends (rows.so_far turn))) (0, 0, letters.Ends (ends (rows.so_far turn))) refl)

  finishes : (state : Sequencer) (turn : Turn Sequencer) → Right turn → Right (rows.finish w state turn)
  finishes state turn right = sends_ends (ends (noted state.history)) (rows.send_copies w (rows.settle w turn)) (sends_copies (rows.settle w turn) (settles turn right))

  -- the step
  hears_down : (state : Sequencer) (m : Message) → Right (rows.hear_down w state m)
  hears_down state (letters.Down s n) = either (knows_site w s) (rows.finish w state (rows.down_row w (opened state) s n)) (opened state) (finishes state (rows.down_row w (opened state) s n) (downs (opened state) s n refl)) refl
  hears_down state other = refl

  hears_site : (state : Sequencer) (s : Site) (letter : Letter) → knows_site w s ≡ true → Right (rows.hear_of_site w state s letter)
  hears_site state s letter known = step (rows.is_hello letter.message || letter.from == session (vector w (noted state.history)) s) (is_to_sequencer w letter.message) refl where
    after : Turn Sequencer
    after = rows.finish w state (rows.site_row w (opened state) s letter.from letter.message)

    step : (a b : Bool) → is_to_sequencer w letter.message ≡ b → Right (if a && b then after else opened state)
    step true true q = finishes state (rows.site_row w (opened state) s letter.from letter.message) (site_rows (opened state) s letter.from letter.message known q refl)
    step true false q = refl
    step false b q = refl

  sequencer_right : (state : Sequencer) (from : ℕ) (letter : Letter) → from < w.sites + 2 → Right (rows.hear_sequencer w state from letter)
  sequencer_right state zero letter below = hears_down state letter.message
  sequencer_right state (suc zero) letter below = refl
  sequencer_right state (suc (suc k)) letter below = hears_site state (site (k + 1)) letter (number_known w k (omega (arith, below)))

-- each server sends as the table says
at_right : (w : Workload) (s : Servers) (k from : ℕ) (letter : Letter) (o : Option SiteState) → from < w.sites + 2 → list_all (may_site w) (hear_at w s k from letter o).1 ≡ true
at_right w s k from letter None below = refl
at_right w s k from letter (Some state) below = site_right w state from letter below

pub hear_right : (w : Workload) (s : Servers) (server from : ℕ) (letter : Letter) → from < w.sites + 2 → list_all (may_send w server) (hear w s server from letter).1 ≡ true
hear_right w s zero from letter below = monitor_right w s.fired from letter.from letter.message
hear_right w s (suc zero) from letter below = sequencer_right w s.sequencer from letter below
hear_right w s (suc (suc k)) from letter below = at_right w s k from letter (slice_get s.sites k) below
