-- The sequencer tells no site of itself that it is up again.
use Rattle.std.proofs.Common.{◌≡◌, ℕ, zero, suc, ◌+◌, ◌*◌, ◌==◌, nat_le, nat_lt, Bool, true, false, not, ◌&&◌, ◌||◌, List, [], ◌∷◌, ◌++◌, length, map, filter, Option, Some, None, if◌then◌else◌, arith, refl}
use Rattle.std.specs.Prelude.{flat_map}
use Rattle.std.specs.List.{AllByRecursion}
use Rattle.std.specs.Option.{option_map_or}
use Rattle.std.proofs.lemmas.Grind.{common_steps}
use Rattle.raid_base.specs.declared.names.Txn.{Txn}
use Rattle.raid_base.specs.declared.names.Site.{Site}
use Rattle.raid_base.specs.declared.entry.Act.TheVariants as acts
use Rattle.raid_base.specs.declared.entry.Entry.{Entry}
use Rattle.raid_base.specs.declared.entry.Entry.TheVariants.{Read, Commit, Abort, Down, Up}
use Rattle.raid_base.specs.declared.entry.Noted.{Noted}
use Rattle.raid_base.specs.Names.{is_site, has_site}
use Rattle.raid_base.specs.Sites.{session, site}
use Rattle.raid_workload.specs.declared.workload.Workload.{Workload}
use Rattle.raid_workload.specs.Parts.{txns, sites, home}
use Rattle.raid_rules.specs.History.{noted, ends}
use Rattle.raid_legal.specs.Seen.{vector, is_up}
use Rattle.raid_legal.specs.Answers.{answer_read, answer_commit}
use Rattle.raid_legal.specs.Forced.{forced}
use Rattle.raid_legal.specs.Legal.{is_free}
use Rattle.raid_message.specs.declared.letter.Message.{Message}
use Rattle.raid_message.specs.declared.letter.Message.TheVariants as letters
use Rattle.raid_message.specs.declared.letter.Letter.{Letter}
use Rattle.raid_steps.specs.State.{Out, Turn, opened, to_site, Copying, Sequencer}
use Rattle.raid_steps.specs.Fits.{knows_site, is_to_sequencer}
use Rattle.raid_steps.specs.Sequencer as rows
use Rattle.raid_stands.specs.Stands.{IsOfAnother}

-- what is sent tells no site of itself that it is up again
abbrev pub GoesRight : Out → Type 0
GoesRight out = IsOfAnother out.0 out.2

abbrev pub AllRight : List Out → Type 0
AllRight outs = AllByRecursion GoesRight outs

both_right : (xs ys : List Out) → AllRight xs → AllRight ys → AllRight (xs ++ ys)
both_right [] ys a b = b
both_right (x ∷ xs) ys a b = (a.0, both_right xs ys a.1 b)

one_if : (b : Bool) (out : Out) → GoesRight out → AllRight (if b then out ∷ [] else [])
one_if true out h = (h, tt)
one_if false out h = tt

module _ (w : Workload) where
  abbrev Right : Turn Sequencer → Type 0
  Right turn = AllRight turn.outs

  -- what the entries send
  notes_right : (v : List ℕ) (m : Message) (ss : List Site) → ((n : ℕ) → IsOfAnother n m) → AllRight (map (λ s. to_site v s m) ss)
  notes_right v m [] plain = tt
  notes_right v m (s ∷ ss) plain = (plain (s.0 + 1), notes_right v m ss plain)

  commit_right : (p : List Noted) (t : Txn) (applied : List Site) (s : Site) → AllRight (rows.commit_sends w p t applied s)
  commit_right p t applied s =
      let v = vector w p in
      both_right (if has_site applied s then to_site v s (letters.Apply t (length p)) ∷ [] else []) (if is_site s (home w t) && is_up w p s then to_site v s (letters.Done t) ∷ [] else [])
      (one_if (has_site applied s) (to_site v s (letters.Apply t (length p))) tt) (one_if (is_site s (home w t) && is_up w p s) (to_site v s (letters.Done t)) tt)

  commits_right : (p : List Noted) (t : Txn) (applied : List Site) (ss : List Site) → AllRight (flat_map (rows.commit_sends w p t applied) ss)
  commits_right p t applied [] = tt
  commits_right p t applied (s ∷ ss) = both_right (rows.commit_sends w p t applied s) (flat_map (rows.commit_sends w p t applied) ss) (commit_right p t applied s) (commits_right p t applied ss)

  differ : (s r : Site) → is_site s r ≡ false → (s.0 + 1 == r.0 + 1) ≡ false
  differ s r q = grind (arith, common_steps, q)

  ups_right : (p : List Noted) (v : List ℕ) (s : Site) (n : ℕ) (ss : List Site) → AllRight (map (λ r. to_site v r (letters.UpNote s n)) (filter (λ r. is_up w p r && not (is_site s r)) ss))
  ups_right p v s n [] = tt
  ups_right p v s n (r ∷ ss) = go (is_up w p r) (is_site s r) refl (ups_right p v s n ss)
    where
      rest : List Site
      rest = filter (λ r. is_up w p r && not (is_site s r)) ss

      go : (a b : Bool) → is_site s r ≡ b → AllRight (map (λ r. to_site v r (letters.UpNote s n)) rest) → AllRight (map (λ r. to_site v r (letters.UpNote s n)) (if a && not b then r ∷ rest else rest))
      go true true q h = h
      go true false q h = (differ s r q, h)
      go false b q h = h

  sends_right : (p : List Noted) (ask : ℕ) (e : Entry) → AllRight (rows.sends w p ask e)
  sends_right p ask (Read t x s) = (tt, go (is_site s (home w t)))
    where
      go : (b : Bool) → AllRight (if b then [] else to_site (vector w p) (home w t) (letters.Serving t ask s) ∷ [])
      go true = tt
      go false = (tt, tt)
  sends_right p ask (Commit t request applied) = commits_right p t applied (sites w)
  sends_right p ask (Abort t cause act) = notes_right (vector w p) (rows.drop_of w t cause) (filter (is_up w p) (sites w)) (λ n. tt)
  sends_right p ask (Down s) = notes_right (vector w p) (letters.DownNote s) (filter (is_up w p) (sites w)) (λ n. tt)
  sends_right p ask (Up s n) = (tt, ups_right p (vector w p) s n (sites w))
  sends_right p ask other = tt

  places : (ask : ℕ) (turn : Turn Sequencer) (e : Entry) → Right turn → Right (rows.place w ask turn e)
  places ask turn e right = both_right turn.outs (rows.sends w (noted (turn.state.history ++ e ∷ [])) ask e) right (sends_right (noted (turn.state.history ++ e ∷ [])) ask e)

  places_if : (ask : ℕ) (turn : Turn Sequencer) (o : Option Entry) → Right turn → Right (rows.place_if w ask turn o)
  places_if ask turn None right = right
  places_if ask turn (Some e) right = places ask turn e right

  settles_from : (n : ℕ) (turn : Turn Sequencer) → Right turn → Right (rows.settle_from w n turn)
  settles_from zero turn right = right
  settles_from (suc n) turn right = go (forced w (rows.so_far turn)) (λ e. settles_from n (rows.place w 0 turn e) (places 0 turn e right))
    where
      go : (o : Option Entry) → ((e : Entry) → Right (rows.settle_from w n (rows.place w 0 turn e))) → Right (option_map_or (λ e. rows.settle_from w n (rows.place w 0 turn e)) o turn)
      go None rest = right
      go (Some e) rest = rest e

  settles : (turn : Turn Sequencer) → Right turn → Right (rows.settle w turn)
  settles turn right = settles_from (length (txns w) + 2 * length w.switches) turn right

  -- the rows
  either : (b : Bool) (x y : Turn Sequencer) → Right x → Right y → Right (if b then x else y)
  either true x y h g = h
  either false x y h g = g

  frees : (ask : ℕ) (turn : Turn Sequencer) (t : Txn) (o : Option Entry) → Right turn → Right (rows.free_row w ask turn t o)
  frees ask turn t o right = either (is_free (rows.so_far turn) t) (rows.place_if w ask turn o) turn (places_if ask turn o right) right

  leaves : (turn : Turn Sequencer) (s : Site) → Right turn → Right (rows.leave w turn s)
  leaves turn s right = either (is_up w (rows.so_far turn) s) (rows.settle w (rows.place w 0 turn (Down s))) turn (settles (rows.place w 0 turn (Down s)) (places 0 turn (Down s) right)) right

  hellos : (turn : Turn Sequencer) (s : Site) (n : ℕ) → Right turn → Right (rows.hello_row w turn s n)
  hellos turn s n right =
      let up = rows.place w 0 (rows.leave w turn s) (Up s n) in
      let there = places 0 (rows.leave w turn s) (Up s n) (leaves turn s right) in
      either (nat_le n (rows.announced up s)) (rows.place w 0 (rows.settle w up) (Down s)) up (places 0 (rows.settle w up) (Down s) (settles up there)) there

  site_rows : (turn : Turn Sequencer) (s : Site) (n : ℕ) (m : Message) → Right turn → Right (rows.site_row w turn s n m)
  site_rows turn s n letters.Hello right = hellos turn s n right
  site_rows turn s n (letters.Begin t) right = places_if 0 turn _ right
  site_rows turn s n (letters.ReadAsk t ask x) right = frees ask turn t (Some (answer_read w (rows.so_far turn) t x)) right
  site_rows turn s n (letters.CommitAsk t request) right = frees 0 turn t (answer_commit w (rows.so_far turn) t request) right
  site_rows turn s n (letters.EndAsk t cause reads) right = frees 0 turn t (Some (Abort t cause (acts.Ended reads))) right
  site_rows turn s n (letters.Ack t) right = places_if 0 turn _ right
  site_rows turn s n (letters.CopyDone x v) right = places_if 0 turn _ right
  site_rows turn s n other right = right

  -- what follows any row
  copies_right : (v : List ℕ) (cs : List Copying) → AllRight (map (rows.copy_out v) cs)
  copies_right v [] = tt
  copies_right v (c ∷ cs) = (tt, copies_right v cs)

  finishes : (state : Sequencer) (turn : Turn Sequencer) → Right turn → Right (rows.finish w state turn)
  finishes state turn right =
      let settled = rows.settle w turn in
      let p = rows.so_far settled in
      let due = flat_map (rows.copies_due w p settled.state.copying) (filter (is_up w p) (sites w)) in
      let sent = rows.send_copies w settled in
      both_right sent.outs _ (both_right settled.outs (map (rows.copy_out (vector w p)) due) (settles turn right) (copies_right (vector w p) due))
      (one_if (nat_lt (ends (noted state.history)) (ends (rows.so_far sent))) (0, 0, letters.Ends (ends (rows.so_far sent))) tt)

  -- the step
  hears_down : (state : Sequencer) (m : Message) → Right (rows.hear_down w state m)
  hears_down state (letters.Down s n) =
      either (knows_site w s) (rows.finish w state (rows.down_row w (opened state) s n)) (opened state) (finishes state (rows.down_row w (opened state) s n) (places_if 0 (rows.announce (opened state) s n) _ tt)) tt
  hears_down state other = tt

  hears_site : (state : Sequencer) (s : Site) (l : Letter) → Right (rows.hear_of_site w state s l)
  hears_site state s l =
      either ((rows.is_hello l.message || l.from == session (vector w (noted state.history)) s) && is_to_sequencer w l.message)
      (rows.finish w state (rows.site_row w (opened state) s l.from l.message)) (opened state) (finishes state (rows.site_row w (opened state) s l.from l.message) (site_rows (opened state) s l.from l.message tt)) tt

  pub sequencer_right : (state : Sequencer) (from : ℕ) (l : Letter) → AllRight (rows.hear_sequencer w state from l).outs
  sequencer_right state zero l = hears_down state l.message
  sequencer_right state (suc zero) l = tt
  sequencer_right state (suc (suc k)) l = hears_site state (site (k + 1)) l
