-- What the sequencer sends for copies says what there is: both sites hold the item, and they are two.
use Rattle.std.proofs.Common.{◌≡◌, ℕ, zero, suc, ◌+◌, ◌-◌, ◌*◌, ◌==◌, nat_le, nat_lt, Bool, true, false, not, ◌&&◌, ◌||◌, List, [], ◌∷◌, ◌++◌, length, map, filter, Option, Some, None, if◌then◌else◌, sym, subst, ◌∙◌, refl}
use Rattle.std.specs.Prelude.{⊤, flat_map, filter_map, slice_get, option_map}
use Rattle.std.specs.List.{AllByRecursion, list_any, cons_option}
use Rattle.std.specs.Option.{option_map_or}
use Rattle.std.proofs.lemmas.Bool.{and_parts, true≢false}
use Rattle.raid_base.specs.declared.names.Txn.{Txn}
use Rattle.raid_base.specs.declared.names.Item.{Item}
use Rattle.raid_base.specs.declared.names.Site.{Site}
use Rattle.raid_base.specs.declared.entry.Act.TheVariants as acts
use Rattle.raid_base.specs.declared.entry.Entry.{Entry}
use Rattle.raid_base.specs.declared.entry.Entry.TheVariants.{Read, Commit, Abort, Down, Up}
use Rattle.raid_base.specs.declared.entry.Noted.{Noted}
use Rattle.raid_base.specs.Names.{is_item, is_site, has_site}
use Rattle.raid_base.specs.Sites.{session, site, all_sites}
use Rattle.raid_workload.specs.declared.workload.Workload.{Workload}
use Rattle.raid_workload.specs.Parts.{txns, sites, items, home, placement}
use Rattle.raid_rules.specs.History.{noted, ends}
use Rattle.raid_rules.specs.Sessions.{is_copy_locked, is_site_up}
use Rattle.raid_rules.specs.Sessions as rules
use Rattle.raid_rules.proofs.Sources.{has_kept}
use Rattle.raid_legal.specs.Seen.{vector, is_up, is_locked, sources}
use Rattle.raid_legal.specs.Answers.{answer_read, answer_commit}
use Rattle.raid_legal.specs.Forced.{forced}
use Rattle.raid_legal.specs.Legal.{is_free}
use Rattle.raid_message.specs.declared.letter.Message.{Message}
use Rattle.raid_message.specs.declared.letter.Message.TheVariants as letters
use Rattle.raid_message.specs.declared.letter.Letter.{Letter}
use Rattle.raid_steps.specs.State.{Out, Turn, opened, to_site, Copying, Sequencer}
use Rattle.raid_steps.specs.Fits.{knows_site, is_to_sequencer}
use Rattle.raid_steps.specs.Sequencer as rows
use Rattle.raid_sessions.proofs.Lists.{all_append, some_is}
use Rattle.raid_letters.specs.Says.{is_held, CopyDoSays}
use Rattle.raid_letters.proofs.Sends.{same_site, site_back, first_in, source_holds}

-- what holds of each that is made holds of all
all_mapped : {X Y : Type 0} (P : Y → Type 0) (f : X → Option Y) (xs : List X) → ((x : X) (y : Y) → f x ≡ Some y → P y) → AllByRecursion P (filter_map f xs)
all_mapped {X} {Y} P f [] each = tt
all_mapped {X} {Y} P f (x ∷ xs) each = go (f x) refl (all_mapped P f xs each)
  where
    go : (o : Option Y) → f x ≡ o → AllByRecursion P (filter_map f xs) → AllByRecursion P (cons_option o (filter_map f xs))
    go None q rest = rest
    go (Some y) q rest = (each x y q, rest)

module _ (w : Workload) where
  -- what a note on a copy says; of others nothing is said
  abbrev pub CopySays : Site → Message → Type 0
  CopySays here (letters.CopyDo x target n) = CopyDoSays w here x target
  CopySays here other = ⊤

  abbrev pub GoesRight : Out → Type 0
  GoesRight out = CopySays (site (out.0 - 1)) out.2

  abbrev pub AllRight : List Out → Type 0
  AllRight outs = AllByRecursion GoesRight outs

  both_right : (xs ys : List Out) → AllRight xs → AllRight ys → AllRight (xs ++ ys)
  both_right xs ys a b = all_append GoesRight xs ys a b

  one_if : (b : Bool) (out : Out) → GoesRight out → AllRight (if b then out ∷ [] else [])
  one_if true out h = (h, tt)
  one_if false out h = tt

  none_if : (b : Bool) (out : Out) → GoesRight out → AllRight (if b then [] else out ∷ [])
  none_if true out h = tt
  none_if false out h = (h, tt)

  abbrev Right : Turn Sequencer → Type 0
  Right turn = AllRight turn.outs

  -- what the entries send
  notes_right : (v : List ℕ) (m : Message) (ss : List Site) → ((s : Site) → CopySays s m) → AllRight (map (λ s. to_site v s m) ss)
  notes_right v m [] plain = tt
  notes_right v m (s ∷ ss) plain = (plain (site (s.0 + 1 - 1)), notes_right v m ss plain)

  commits_right : (p : List Noted) (t : Txn) (applied : List Site) (ss : List Site) → AllRight (flat_map (rows.commit_sends w p t applied) ss)
  commits_right p t applied [] = tt
  commits_right p t applied (s ∷ ss) =
      let v = vector w p in
      both_right (rows.commit_sends w p t applied s) (flat_map (rows.commit_sends w p t applied) ss)
      (both_right (if has_site applied s then to_site v s (letters.Apply t (length p)) ∷ [] else []) (if is_site s (home w t) && is_up w p s then to_site v s (letters.Done t) ∷ [] else [])
      (one_if (has_site applied s) (to_site v s (letters.Apply t (length p))) tt) (one_if (is_site s (home w t) && is_up w p s) (to_site v s (letters.Done t)) tt))
      (commits_right p t applied ss)

  sends_right : (p : List Noted) (ask : ℕ) (e : Entry) → AllRight (rows.sends w p ask e)
  sends_right p ask (Read t x s) = (tt, none_if (is_site s (home w t)) (to_site (vector w p) (home w t) (letters.Serving t ask s)) tt)
  sends_right p ask (Commit t request applied) = commits_right p t applied (sites w)
  sends_right p ask (Abort t cause act) = notes_right (vector w p) (rows.drop_of w t cause) (filter (is_up w p) (sites w)) (λ s. tt)
  sends_right p ask (Down s) = notes_right (vector w p) (letters.DownNote s) (filter (is_up w p) (sites w)) (λ s. tt)
  sends_right p ask (Up s n) = (tt, notes_right (vector w p) (letters.UpNote s n) (filter (λ r. is_up w p r && not (is_site s r)) (sites w)) (λ s. tt))
  sends_right p ask other = tt

  places : (ask : ℕ) (turn : Turn Sequencer) (e : Entry) → Right turn → Right (rows.place w ask turn e)
  places ask turn e right = both_right turn.outs (rows.sends w (noted (turn.state.history ++ e ∷ [])) ask e) right (sends_right (noted (turn.state.history ++ e ∷ [])) ask e)

  places_if : (ask : ℕ) (turn : Turn Sequencer) (o : Option Entry) → Right turn → Right (rows.place_if w ask turn o)
  places_if ask turn None right = right
  places_if ask turn (Some e) right = places ask turn e right

  settles_from : (n : ℕ) (turn : Turn Sequencer) → Right turn → Right (rows.settle_from w n turn)
  settles_from zero turn right = right
  settles_from (suc n) turn right = go (forced w (rows.so_far turn)) (λ e. settles_from n (rows.place w 0 turn e) (places 0 turn e right))
    where
      go : (o : Option Entry) → ((e : Entry) → Right (rows.settle_from w n (rows.place w 0 turn e))) → Right (option_map_or (λ e. rows.settle_from w n (rows.place w 0 turn e)) o turn)
      go None rest = right
      go (Some e) rest = rest e

  settles : (turn : Turn Sequencer) → Right turn → Right (rows.settle w turn)
  settles turn right = settles_from (length (txns w) + 2 * length w.switches) turn right

  -- the rows
  either : (b : Bool) (x y : Turn Sequencer) → Right x → Right y → Right (if b then x else y)
  either true x y h g = h
  either false x y h g = g

  frees : (ask : ℕ) (turn : Turn Sequencer) (t : Txn) (o : Option Entry) → Right turn → Right (rows.free_row w ask turn t o)
  frees ask turn t o right = either (is_free (rows.so_far turn) t) (rows.place_if w ask turn o) turn (places_if ask turn o right) right

  leaves : (turn : Turn Sequencer) (s : Site) → Right turn → Right (rows.leave w turn s)
  leaves turn s right = either (is_up w (rows.so_far turn) s) (rows.settle w (rows.place w 0 turn (Down s))) turn (settles (rows.place w 0 turn (Down s)) (places 0 turn (Down s) right)) right

  hellos : (turn : Turn Sequencer) (s : Site) (n : ℕ) → Right turn → Right (rows.hello_row w turn s n)
  hellos turn s n right =
      let up = rows.place w 0 (rows.leave w turn s) (Up s n) in
      let there = places 0 (rows.leave w turn s) (Up s n) (leaves turn s right) in
      either (nat_le n (rows.announced up s)) (rows.place w 0 (rows.settle w up) (Down s)) up (places 0 (rows.settle w up) (Down s) (settles up there)) there

  site_rows : (turn : Turn Sequencer) (s : Site) (n : ℕ) (m : Message) → Right turn → Right (rows.site_row w turn s n m)
  site_rows turn s n letters.Hello right = hellos turn s n right
  site_rows turn s n (letters.Begin t) right = places_if 0 turn _ right
  site_rows turn s n (letters.ReadAsk t ask x) right = frees ask turn t (Some (answer_read w (rows.so_far turn) t x)) right
  site_rows turn s n (letters.CommitAsk t request) right = frees 0 turn t (answer_commit w (rows.so_far turn) t request) right
  site_rows turn s n (letters.EndAsk t cause reads) right = frees 0 turn t (Some (Abort t cause (acts.Ended reads))) right
  site_rows turn s n (letters.Ack t) right = places_if 0 turn _ right
  site_rows turn s n (letters.CopyDone x v) right = places_if 0 turn _ right
  site_rows turn s n other right = right

  -- copies that are due: the target's is locked, and the source is a source
  module _ (p : List Noted) where
    record IsDue (c : Copying) : Type 0 where
      locked : is_locked w p c.target c.item ≡ true
      source : slice_get (sources w p c.item) 0 ≡ Some c.source

    abbrev AreDue : List Copying → Type 0
    AreDue cs = AllByRecursion IsDue cs

    all_due : (out : List Copying) (s : Site) → AreDue (rows.copies_due w p out s)
    all_due out s = all_mapped IsDue _ (items w) due
      where
        under_way : Item → Bool
        under_way x = list_any (λ (c : Copying). is_site s c.target && is_item x c.item) out

        found : (x : Item) (o : Option Site) (c : Copying) → is_locked w p s x ≡ true → slice_get (sources w p x) 0 ≡ o → option_map (λ r. let c : Copying = record { target = s; item = x; source = r } in c) o ≡ Some c → IsDue c
        found x None c locked q e = absurd (cc e)
        found x (Some r) c locked q e = subst IsDue (some_is (record { target = s; item = x; source = r }) c e) (record { locked = locked; source = q })

        due : (x : Item) (c : Copying) → (if is_locked w p s x && not (under_way x) then option_map (λ r. let c : Copying = record { target = s; item = x; source = r } in c) (slice_get (sources w p x) 0) else None) ≡ Some c → IsDue c
        due x c q = go (is_locked w p s x && not (under_way x)) refl q
          where
            go : (b : Bool) → (is_locked w p s x && not (under_way x)) ≡ b → (if b then option_map (λ r. let c : Copying = record { target = s; item = x; source = r } in c) (slice_get (sources w p x) 0) else None) ≡ Some c → IsDue c
            go true e q = found x (slice_get (sources w p x) 0) c (and_parts (is_locked w p s x) (not (under_way x)) e).0 refl q
            go false e q = absurd (cc q)

    sites_due : (out : List Copying) (ss : List Site) → AreDue (flat_map (rows.copies_due w p out) ss)
    sites_due out [] = tt
    sites_due out (s ∷ ss) = all_append IsDue (rows.copies_due w p out s) (flat_map (rows.copies_due w p out) ss) (all_due out s) (sites_due out ss)

    due_says : (c : Copying) → IsDue c → CopyDoSays w c.source c.item c.target
    due_says c due =
        let has = first_in (sources w p c.item) c.source due.source in
        let both = and_parts (is_held w c.target c.item) (is_copy_locked p c.target c.item) due.locked in
        record { held = source_holds w p c.item c.source has; wanted = both.0; other = apart (is_site c.target c.source) refl has both.1 }
      where
        unlocked : has_site (sources w p c.item) c.source ≡ true → not (is_copy_locked p c.source c.item) ≡ true
        unlocked q =
            (and_parts (is_held w c.source c.item && is_site_up (rules.vector w.sites p) c.source) (not (is_copy_locked p c.source c.item))
            (and_parts (rules.is_source w.sites (placement w) p c.item c.source) (has_site all_sites c.source) (sym (has_kept (rules.is_source w.sites (placement w) p c.item) c.source all_sites) ∙ q)).0).1

        clash : (b : Bool) → not b ≡ true → b ≡ true → ⊥
        clash true q r = true≢false (sym q)
        clash false q r = true≢false (sym r)

        apart : (b : Bool) → is_site c.target c.source ≡ b → has_site (sources w p c.item) c.source ≡ true → is_copy_locked p c.target c.item ≡ true → is_site c.target c.source ≡ false
        apart true e has locked = absurd (clash (is_copy_locked p c.target c.item) (subst (λ z. not (is_copy_locked p z c.item) ≡ true) (same_site c.target c.source e) (unlocked has)) locked)
        apart false e has locked = e

    copies_right : (v : List ℕ) (cs : List Copying) → AreDue cs → AllRight (map (rows.copy_out v) cs)
    copies_right v [] a = tt
    copies_right v (c ∷ cs) a = (subst (λ r. CopyDoSays w r c.item c.target) (site_back c.source) (due_says c a.0), copies_right v cs a.1)

  -- what follows any row
  finishes : (state : Sequencer) (turn : Turn Sequencer) → Right turn → Right (rows.finish w state turn)
  finishes state turn right =
      let settled = rows.settle w turn in
      let p = rows.so_far settled in
      let due = flat_map (rows.copies_due w p settled.state.copying) (filter (is_up w p) (sites w)) in
      let sent = rows.send_copies w settled in
      both_right sent.outs _ (both_right settled.outs (map (rows.copy_out (vector w p)) due) (settles turn right) (copies_right p (vector w p) due (sites_due p settled.state.copying (filter (is_up w p) (sites w)))))
      (one_if (nat_lt (ends (noted state.history)) (ends (rows.so_far sent))) (0, 0, letters.Ends (ends (rows.so_far sent))) tt)

  -- the step
  hears_down : (state : Sequencer) (m : Message) → Right (rows.hear_down w state m)
  hears_down state (letters.Down s n) =
      either (knows_site w s) (rows.finish w state (rows.down_row w (opened state) s n)) (opened state) (finishes state (rows.down_row w (opened state) s n) (places_if 0 (rows.announce (opened state) s n) _ tt)) tt
  hears_down state other = tt

  hears_site : (state : Sequencer) (s : Site) (l : Letter) → Right (rows.hear_of_site w state s l)
  hears_site state s l =
      either ((rows.is_hello l.message || l.from == session (vector w (noted state.history)) s) && is_to_sequencer w l.message)
      (rows.finish w state (rows.site_row w (opened state) s l.from l.message)) (opened state) (finishes state (rows.site_row w (opened state) s l.from l.message) (site_rows (opened state) s l.from l.message tt)) tt

  pub copies_right_heard : (state : Sequencer) (from : ℕ) (l : Letter) → AllRight (rows.hear_sequencer w state from l).outs
  copies_right_heard state zero l = hears_down state l.message
  copies_right_heard state (suc zero) l = tt
  copies_right_heard state (suc (suc k)) l = hears_site state (site (k + 1)) l
