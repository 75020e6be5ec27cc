-- The sequencer's step lowers the measure, where each entry may be placed that it places.
use Rattle.std.proofs.Common.{◌≡◌, ℕ, zero, suc, ◌+◌, ◌<◌, ◌≤◌, ◌==◌, nat_lt, nat_le, Bool, true, false, not, ◌&&◌, ◌||◌, List, [], ◌∷◌, ◌++◌, map, Option, Some, None, if◌then◌else◌, arith, sym, subst, ap, ◌∙◌, refl}
use Rattle.std.specs.Option.{option_map_or}
use Rattle.std.proofs.lemmas.Bool.{true≢false}
use Rattle.std.proofs.lemmas.Grind.{common_steps}
use Rattle.std.proofs.lemmas.List.Sums.{sum_by-append, sum_by_push}
use Rattle.raid_base.specs.declared.names.Txn.{Txn}
use Rattle.raid_base.specs.declared.names.Item.{Item}
use Rattle.raid_base.specs.declared.names.Site.{Site}
use Rattle.raid_base.specs.declared.request.Request.{Request}
use Rattle.raid_base.specs.declared.entry.Cause.{Cause}
use Rattle.raid_base.specs.declared.entry.Cause.TheVariants as causes
use Rattle.raid_base.specs.declared.entry.Act.TheVariants as acts
use Rattle.raid_base.specs.declared.entry.Entry.{Entry}
use Rattle.raid_base.specs.declared.entry.Entry.TheVariants.{Begin, Read, Abort, Ack, Down, Up, Clear}
use Rattle.raid_base.specs.declared.entry.Entry.TheVariants as entries
use Rattle.raid_base.specs.declared.entry.Noted.{Noted}
use Rattle.raid_base.specs.declared.verdict.Verdict.{Verdict}
use Rattle.raid_base.specs.declared.verdict.Verdict.TheVariants as verdicts
use Rattle.raid_base.specs.Names.{is_item, is_site, has_site}
use Rattle.raid_base.specs.Sites.{site, session}
use Rattle.raid_workload.specs.declared.workload.Workload.{Workload}
use Rattle.raid_workload.specs.Parts.{home, placement}
use Rattle.raid_rules.specs.Entries.{is_end}
use Rattle.raid_rules.specs.History.{noted, next, ends, is_waiting, version}
use Rattle.raid_rules.specs.Sessions.{holders, is_copy_locked, owes}
use Rattle.raid_rules.proofs.Push.{noted_push}
use Rattle.raid_legal.specs.Seen.{vector, is_up, is_locked}
use Rattle.raid_legal.specs.Answers.{answer_read, answer_commit, answered, decided, waits, closes_waits, site_refusal}
use Rattle.raid_legal.specs.Forced.{forced}
use Rattle.raid_legal.specs.Legal.{is_free, may_begin, EachSeeing}
use Rattle.raid_legal.proofs.Left.{Compels, forced_compels}
use Rattle.raid_legal.proofs.Push.{each_push}
use Rattle.raid_message.specs.declared.letter.Message.{Message}
use Rattle.raid_message.specs.declared.letter.Message.TheVariants as letters
use Rattle.raid_message.specs.declared.letter.Letter.{Letter}
use Rattle.raid_message.specs.declared.letter.Pick.{Pick}
use Rattle.raid_steps.specs.State.{Out, Turn, opened, Sequencer, SiteState}
use Rattle.raid_steps.specs.Fits.{is_to_sequencer, knows_site}
use Rattle.raid_steps.specs.Sequencer as seq
use Rattle.raid_steps.specs.Sequencer.{so_far, place, place_if, settle, settle_from, hear_sequencer}
use Rattle.raid_steps.specs.World.{World, link, pick, finds}
use Rattle.raid_measure.specs.Measure.{letter_cost, measure}
use Rattle.raid_measure.proofs.Sums.{one_if}
use Rattle.raid_ends.specs.Placing.{MayPlace, EachMay, MayHear}
use Rattle.raid_ends.proofs.Links.{outs_cost, Lowers, pick_lowers}
use Rattle.raid_ends.proofs.Histories.{locked_turned}
use Rattle.raid_ends.proofs.Renewals.{all_due, due_pays, closed_pays}
use Rattle.raid_ends.proofs.Placing.{extra, left, Left, place_pays}

-- what the ask pays of the entry that answers it
abbrev option_extra : Option Entry → ℕ
option_extra None = 0
option_extra (Some e) = extra e

extra_most : (e : Entry) → extra e ≤ 3
extra_most (Read t x s) = omega arith
extra_most e = omega arith

-- no commit's answer is a Read, and no forced entry
module _ (w : Workload) (p : List Noted) where
  waits_quiet : (t : Txn) (request : Request) → option_extra (waits w p t request) ≡ 0
  waits_quiet t request = go (is_waiting p t) (closes_waits w p t request)
    where
      go : (a b : Bool) → option_extra (if a then None else if b then Some (Abort t causes.Deadlock (acts.Commit request)) else Some (entries.Wait t request)) ≡ 0
      go true b = refl
      go false true = refl
      go false false = refl

  decided_quiet : (t : Txn) (request : Request) (v : Verdict) → option_extra (decided w p t request v) ≡ 0
  decided_quiet t request (verdicts.Reject why) = refl
  decided_quiet t request verdicts.Grant = refl
  decided_quiet t request verdicts.Wait = waits_quiet t request

  commit_quiet : (t : Txn) (request : Request) → option_extra (answer_commit w p t request) ≡ 0
  commit_quiet t request = go (site_refusal w p request)
    where
      go : (o : Option Cause) → option_extra (answered w p t request o) ≡ 0
      go (Some why) = refl
      go None = decided_quiet t request _

  compelled_quiet : (e : Entry) → Compels w p e → extra e ≡ 0
  compelled_quiet (Read t x s) c = absurd c
  compelled_quiet e c = refl

module _ (w : Workload) (ss : List SiteState) where
  abbrev Rest : Turn Sequencer → ℕ
  Rest turn = Left w ss turn

  -- from one turn to another: each entry between them may be placed, and what is left grows by so much at most
  record Came (turn last : Turn Sequencer) (more : ℕ) : Type 0 where
    may : EachMay w turn.state.history
    cost : Rest last ≤ Rest turn + more
    grown : ends (so_far turn) ≤ ends (so_far last)

  abbrev Step : Turn Sequencer → Turn Sequencer → ℕ → Type 0
  Step turn last more = EachMay w last.state.history → Came turn last more

  stays : (turn : Turn Sequencer) → Step turn turn 0
  stays turn all = record { may = all; cost = omega arith; grown = omega arith }

  on : {a b c : Turn Sequencer} {m : ℕ} → Step a b m → Step b c 0 → Step a c m
  on f g all =
      let second = g all in
      let first = f second.may in
      let x = first.cost in let y = second.cost in let u = first.grown in let v = second.grown in
      record { may = first.may; cost = omega (arith, x, y); grown = omega (arith, u, v) }

  most : {a b : Turn Sequencer} {m : ℕ} (n : ℕ) → m ≤ n → Step a b m → Step a b n
  most n l f all = (let came = f all in let x = came.cost in record { may = came.may; cost = omega (arith, l, x); grown = came.grown })

  places : (ask : ℕ) (turn : Turn Sequencer) (e : Entry) → Step turn (place w ask turn e) (extra e)
  places ask turn e all =
      let parts = (each_push (λ p n. MayPlace w p n.entry) (so_far turn) (next (so_far turn) e)).0 (subst (λ p. EachSeeing (λ p n. MayPlace w p n.entry) [] p) (noted_push turn.state.history e) all) in
      record {
        may = parts.0;
        cost = place_pays w ss ask turn e parts.1;
        grown = subst (λ p. ends (so_far turn) ≤ ends p) (sym (noted_push turn.state.history e)) (let more = sum_by_push (λ (n : Noted). one_if (is_end n.entry)) (so_far turn) (next (so_far turn) e) in omega (arith, more));
      }

  places_if : (ask : ℕ) (turn : Turn Sequencer) (o : Option Entry) (n : ℕ) → option_extra o ≤ n → Step turn (place_if w ask turn o) n
  places_if ask turn None n l = most n l (stays turn)
  places_if ask turn (Some e) n l = most n l (places ask turn e)

  either : {a : Turn Sequencer} {n : ℕ} (b : Bool) (x y : Turn Sequencer) → Step a x n → Step a y n → Step a (if b then x else y) n
  either true x y f g = f
  either false x y f g = g

  settles_from : (n : ℕ) (turn : Turn Sequencer) → Step turn (settle_from w n turn) 0
  settles_from zero turn = stays turn
  settles_from (suc n) turn = go (λ e. settles_from n (place w 0 turn e)) (forced w (so_far turn)) refl
    where
      go : ((e : Entry) → Step (place w 0 turn e) (settle_from w n (place w 0 turn e)) 0) → (o : Option Entry) → forced w (so_far turn) ≡ o → Step turn (option_map_or (λ e. settle_from w n (place w 0 turn e)) o turn) 0
      go rest None q = stays turn
      go rest (Some e) q = on (most 0 (let z : extra e ≡ 0 = compelled_quiet w (so_far turn) e (forced_compels w (so_far turn) e q) in omega (arith, z)) (places 0 turn e)) (rest e)

  settles : (turn : Turn Sequencer) → Step turn (settle w turn) 0
  settles turn = settles_from _ turn

  -- the rows
  if_quiet : (b : Bool) (e : Entry) → extra e ≡ 0 → option_extra (if b then Some e else None) ≤ 0
  if_quiet true e q = omega (arith, q)
  if_quiet false e q = omega arith

  announces : (turn : Turn Sequencer) (s : Site) (n : ℕ) → Step turn (seq.announce turn s n) 0
  announces turn s n all = record { may = all; cost = omega arith; grown = omega arith }

  downs : (turn : Turn Sequencer) (s : Site) (n : ℕ) → Step turn (seq.down_row w turn s n) 0
  downs turn s n = on (announces turn s n) (places_if 0 (seq.announce turn s n) (if is_up w (so_far turn) s && session (vector w (so_far turn)) s == n then Some (Down s) else None) 0 (if_quiet (is_up w (so_far turn) s && session (vector w (so_far turn)) s == n) (Down s) refl))

  leaves : (turn : Turn Sequencer) (s : Site) → Step turn (seq.leave w turn s) 0
  leaves turn s = either (is_up w (so_far turn) s) (settle w (place w 0 turn (Down s))) turn (on (places 0 turn (Down s)) (settles (place w 0 turn (Down s)))) (stays turn)

  leaves_again : (turn : Turn Sequencer) (s : Site) (n : ℕ) → Step turn (seq.leave_again w turn s n) 0
  leaves_again turn s n = either (nat_le n (seq.announced turn s)) (place w 0 (settle w turn) (Down s)) turn (on (settles turn) (places 0 (settle w turn) (Down s))) (stays turn)

  hellos : (turn : Turn Sequencer) (s : Site) (n : ℕ) → Step turn (seq.hello_row w turn s n) 0
  hellos turn s n = on (on (leaves turn s) (places 0 (seq.leave w turn s) (Up s n))) (leaves_again (place w 0 (seq.leave w turn s) (Up s n)) s n)

  frees : (ask : ℕ) (turn : Turn Sequencer) (t : Txn) (o : Option Entry) (n : ℕ) → option_extra o ≤ n → Step turn (seq.free_row w ask turn t o) n
  frees ask turn t o n l = either (is_free (so_far turn) t) (place_if w ask turn o) turn (places_if ask turn o n l) (most n (omega arith) (stays turn))

  -- a copy is closed: it wasn't locked, or is cleared now
  copied : (turn : Turn Sequencer) (s : Site) (x : Item) (v : ℕ) → ((is_up w (so_far turn) s && is_locked w (so_far turn) s x) ≡ true → v ≡ version (so_far turn) x) → Step turn (seq.copied_row w turn s x v) 0
  copied turn s x v known = go (is_locked w (so_far turn) s x && v == version (so_far turn) x) refl
    where
      closes : (last : Turn Sequencer) → Step turn last 0 → (is_up w (so_far last) s && is_locked w (so_far last) s x) ≡ false → Step turn (seq.close last s x) 0
      closes last f quiet all =
          let came = f all in
          let cost = came.cost in
          let closed = closed_pays w (so_far last) last.state.copying s x quiet in
          record { may = came.may; cost = omega (arith, cost, closed); grown = came.grown }

      own : (n m : ℕ) → (n == n && m == m) ≡ true
      own n m = grind (arith, common_steps)

      none : (a b c d : Bool) → d ≡ true → (a && (b && (c && not d))) ≡ false
      none true true true d q = ap not q
      none true true false d q = refl
      none true false c d q = refl
      none false b c d q = refl

      cleared : (is_up w (so_far (place w 0 turn (Clear s x v))) s && is_locked w (so_far (place w 0 turn (Clear s x v))) s x) ≡ false
      cleared =
          subst (λ p. (is_up w p s && is_locked w p s x) ≡ false) (sym (noted_push turn.state.history (Clear s x v)))
          (ap (λ b. is_up w (so_far turn ++ next (so_far turn) (Clear s x v) ∷ []) s && b) (locked_turned w (so_far turn) (next (so_far turn) (Clear s x v)) s x)
          ∙ none (is_up w (so_far turn ++ next (so_far turn) (Clear s x v) ∷ []) s) (has_site (holders (placement w) x) s) (is_copy_locked (so_far turn) s x) (is_site s s && is_item x x) (own s.0 x.0))

      same : (a b : ℕ) → a ≡ b → (a == b) ≡ true
      same a b q = grind (arith, common_steps, q)

      unlocked : (is_locked w (so_far turn) s x && v == version (so_far turn) x) ≡ false → (b : Bool) → (is_up w (so_far turn) s && is_locked w (so_far turn) s x) ≡ b → b ≡ false
      unlocked q false e = refl
      unlocked q true e =
          let locked = behind (is_up w (so_far turn) s) (is_locked w (so_far turn) s x) e in
          absurd (true≢false (sym (both (is_locked w (so_far turn) s x) (v == version (so_far turn) x) locked (same v (version (so_far turn) x) (known e))) ∙ q))
        where
          behind : (a b : Bool) → (a && b) ≡ true → b ≡ true
          behind true b q = q
          behind false b q = absurd (true≢false (sym q))

          both : (a b : Bool) → a ≡ true → b ≡ true → (a && b) ≡ true
          both true b q r = r
          both false b q r = absurd (true≢false (sym q))

      go : (b : Bool) → (is_locked w (so_far turn) s x && v == version (so_far turn) x) ≡ b → Step turn (seq.close (place_if w 0 turn (if b then Some (Clear s x v) else None)) s x) 0
      go true q = closes (place w 0 turn (Clear s x v)) (places 0 turn (Clear s x v)) cleared
      go false q = closes turn (stays turn) (unlocked q (is_up w (so_far turn) s && is_locked w (so_far turn) s x) refl)

  -- what a message pays beside itself
  abbrev ask_pays : Message → ℕ
  ask_pays (letters.ReadAsk t ask x) = 3
  ask_pays other = 0

  abbrev IsCopied : List Noted → Site → Message → Type 0
  IsCopied p s m = (x : Item) (v : ℕ) → m ≡ letters.CopyDone x v → (is_up w p s && is_locked w p s x) ≡ true → v ≡ version p x

  site_rows : (turn : Turn Sequencer) (s : Site) (n : ℕ) (m : Message) → IsCopied (so_far turn) s m → Step turn (seq.site_row w turn s n m) (ask_pays m)
  site_rows turn s n letters.Hello known = hellos turn s n
  site_rows turn s n (letters.Begin t) known = places_if 0 turn (if may_begin w (so_far turn) t then Some (Begin t (home w t)) else None) 0 (if_quiet (may_begin w (so_far turn) t) (Begin t (home w t)) refl)
  site_rows turn s n (letters.ReadAsk t ask x) known = frees ask turn t (Some (answer_read w (so_far turn) t x)) 3 (extra_most (answer_read w (so_far turn) t x))
  site_rows turn s n (letters.CommitAsk t request) known = frees 0 turn t (answer_commit w (so_far turn) t request) 0 (let z = commit_quiet w (so_far turn) t request in omega (arith, z))
  site_rows turn s n (letters.EndAsk t cause reads) known = frees 0 turn t (Some (Abort t cause (acts.Ended reads))) 0 (omega arith)
  site_rows turn s n (letters.Ack t) known = places_if 0 turn (if owes (so_far turn) s t then Some (Ack t s) else None) 0 (if_quiet (owes (so_far turn) s t) (Ack t s) refl)
  site_rows turn s n (letters.CopyDone x v) known = copied turn s x v (known x v refl)
  site_rows turn s n m known = most (ask_pays m) (omega arith) (stays turn)

  -- after the row: the forced entries, the copies that are due, and the count of ends
  finishes : (q : Sequencer) (turn : Turn Sequencer) (more : ℕ) → Step (opened q) turn more → EachMay w (seq.finish w q turn).state.history →
      outs_cost w (seq.finish w q turn).outs + left w ss (so_far (seq.finish w q turn)) (seq.finish w q turn).state.copying ≤ left w ss (noted q.history) q.copying + more
  finishes q turn more f all = go (nat_lt (ends (noted q.history)) (ends (so_far last))) refl
    where
      last : Turn Sequencer
      last = settle w turn

      due : List Out
      due = map (seq.copy_out (vector w (so_far last))) (all_due w (so_far last) last.state.copying)

      came : Came (opened q) last more
      came = on f (settles turn) all

      sent : outs_cost w (last.outs ++ due) ≡ outs_cost w last.outs + outs_cost w due
      sent = sum_by-append (λ (o : Out). letter_cost w o.0 o.2) last.outs due

      so : outs_cost w (last.outs ++ due) + left w ss (so_far last) (last.state.copying ++ all_due w (so_far last) last.state.copying) + ends (so_far last) ≤ left w ss (noted q.history) q.copying + ends (noted q.history) + more
      so = let cost = came.cost in let pays = due_pays w (so_far last) last.state.copying (vector w (so_far last)) in let s = sent in omega (arith, cost, pays, s)

      less : (a b : ℕ) → nat_lt a b ≡ true → a < b
      less a b q = grind (arith, q)

      told : outs_cost w ((last.outs ++ due) ++ (0, 0, letters.Ends (ends (so_far last))) ∷ []) ≡ outs_cost w (last.outs ++ due) + 1
      told = sum_by_push (λ (o : Out). letter_cost w o.0 o.2) (last.outs ++ due) (0, 0, letters.Ends (ends (so_far last)))

      untold : outs_cost w ((last.outs ++ due) ++ []) ≡ outs_cost w (last.outs ++ due)
      untold = let e = sum_by-append (λ (o : Out). letter_cost w o.0 o.2) (last.outs ++ due) [] in omega (arith, e)

      go : (b : Bool) → nat_lt (ends (noted q.history)) (ends (so_far last)) ≡ b →
          outs_cost w ((last.outs ++ due) ++ (if b then (0, 0, letters.Ends (ends (so_far last))) ∷ [] else [])) + left w ss (so_far last) (last.state.copying ++ all_due w (so_far last) last.state.copying) ≤ left w ss (noted q.history) q.copying + more
      go true r = let s = so in let t = told in let l = less (ends (noted q.history)) (ends (so_far last)) r in omega (arith, s, t, l)
      go false r = let s = so in let t = untold in let g = came.grown in omega (arith, s, t, g)

  -- the step
  module _ (q : Sequencer) (letter : Letter) where
    abbrev Falls : Turn Sequencer → Type 0
    Falls turn = outs_cost w turn.outs + left w ss (so_far turn) turn.state.copying < letter_cost w 1 letter.message + left w ss (noted q.history) q.copying

    pays_asked : (m : Message) → ask_pays m + 1 ≤ letter_cost w 1 m
    pays_asked (letters.ReadAsk t ask x) = omega arith
    pays_asked m = omega arith

    nothing : Falls (opened q)
    nothing = let l = pays_asked letter.message in omega (arith, l)

    sites_hear : (s : Site) → EachMay w (seq.hear_of_site w q s letter).state.history → IsCopied (noted q.history) s letter.message → Falls (seq.hear_of_site w q s letter)
    sites_hear s all known = go ((seq.is_hello letter.message || letter.from == session (vector w (noted q.history)) s) && is_to_sequencer w letter.message) all
      where
        row : Turn Sequencer
        row = seq.site_row w (opened q) s letter.from letter.message

        go : (b : Bool) → EachMay w (if b then seq.finish w q row else opened q).state.history → Falls (if b then seq.finish w q row else opened q)
        go true all = let f = finishes q row (ask_pays letter.message) (site_rows (opened q) s letter.from letter.message known) all in let l = pays_asked letter.message in omega (arith, f, l)
        go false all = nothing

    monitor_hears : (m : Message) → letter.message ≡ m → EachMay w (seq.hear_down w q m).state.history → Falls (seq.hear_down w q m)
    monitor_hears (letters.Down s n) is all = go (knows_site w s) all
      where
        row : Turn Sequencer
        row = seq.down_row w (opened q) s n

        go : (b : Bool) → EachMay w (if b then seq.finish w q row else opened q).state.history → Falls (if b then seq.finish w q row else opened q)
        go true all = let f = finishes q row 0 (downs (opened q) s n) all in let l = pays_asked letter.message in omega (arith, f, l)
        go false all = nothing
    monitor_hears m is all = nothing

    pub hears : (from : ℕ) → MayHear w q from letter → Falls (hear_sequencer w q from letter)
    hears zero may = monitor_hears letter.message refl may.entries
    hears (suc zero) may = nothing
    hears (suc (suc k)) may = sites_hear (site (k + 1)) may.entries (λ x v is locked. may.copied k x v (omega arith) is locked)

pub sequencer_lowers : (w : Workload) (state : World) (p : Pick) → p.server ≡ 1 → ((letter : Letter) (rest : List Letter) → link state.links p.server p.from ≡ letter ∷ rest → MayHear w state.servers.sequencer p.from letter) →
    finds state p ≡ true → measure w (pick w state p) < measure w state
sequencer_lowers w state p one may found = pick_lowers w state p (λ letter rest front. subst (λ n. Lowers w state n p.from letter) (sym one) (lowers p.from letter (may letter rest front))) found
  where
    lowers : (from : ℕ) (letter : Letter) → MayHear w state.servers.sequencer from letter → Lowers w state 1 from letter
    lowers from letter may = let falls = hears w state.servers.sites state.servers.sequencer letter from may in omega (arith, falls)
