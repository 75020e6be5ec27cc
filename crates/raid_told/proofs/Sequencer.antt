-- The sequencer's step, entry by entry, keeps what copiers are told and tell.
use Rattle.std.proofs.Common.{◌≡◌, inl, inr, ℕ, zero, suc, ◌+◌, ◌-◌, ◌≤◌, Bool, true, false, List, [], ◌∷◌, length, map, fold, if◌then◌else◌, arith, sym, subst, ap}
use Rattle.std.specs.List.{AllByRecursion}
use Rattle.std.proofs.lemmas.List.Sums.{fold-append}
use Rattle.raid_base.specs.declared.names.Item.{Item}
use Rattle.raid_base.specs.declared.names.Site.{Site}
use Rattle.raid_base.specs.declared.entry.Entry.{Entry}
use Rattle.raid_base.specs.declared.entry.Entry.TheVariants.{Read, Commit, Abort, Down, Up}
use Rattle.raid_base.specs.declared.entry.Noted.{Noted}
use Rattle.raid_base.specs.Names.{is_site, holds}
use Rattle.raid_base.specs.Sites.{session, site}
use Rattle.raid_workload.specs.declared.workload.Workload.{Workload}
use Rattle.raid_rules.specs.Entries.{writes_of}
use Rattle.raid_rules.specs.History.{noted, add, next}
use Rattle.raid_rules.specs.Sessions.{last_session, turn_last, turn_vector}
use Rattle.raid_rules.proofs.Push.{noted_push, vector_push}
use Rattle.raid_legal.specs.Seen.{vector}
use Rattle.raid_message.specs.declared.letter.Message.TheVariants as letters
use Rattle.raid_message.specs.declared.letter.Letter.{Letter}
use Rattle.raid_placed.specs.Placed.{Placeable}
use Rattle.raid_sessions.proofs.Ledger.{session_set}
use Rattle.raid_sessions.proofs.Lists.{all_weaken}
use Rattle.raid_steps.specs.Fits.{knows_site}
use Rattle.raid_steps.specs.State.{Turn, Sequencer, Copying}
use Rattle.raid_steps.specs.Sequencer as rows
use Rattle.raid_steps.specs.Sequencer.{so_far, place}
use Rattle.raid_steps.specs.World.{link, post}
use Rattle.raid_versions.specs.Versions.{was_written}
use Rattle.raid_versions.proofs.Mid.{last_push, sized_push}
use Rattle.raid_versions.proofs.Sent.{SendsOf, sends_of}
use Rattle.raid_versions.proofs.Steps.{AreDue, Why, Steps, done, placed, renews, counts, passes}
use Rattle.raid_versions.proofs.Written.{at_parts, numbered, long_push}
use Rattle.raid_told.specs.Copiers.{Awaits, Asks, Speaks, QueueTells, LinksTell}
use Rattle.raid_told.proofs.Entries.{none_waits, speaks_on, along_on}
use Rattle.raid_told.proofs.Queues.{Sent, sequencer_posts}

module _ (w : Workload) where
  -- each site has its place in the vector, and none is in a session after its last
  pub record IsSized (p : List Noted) : Type 0 where
    pub long : length (vector w p) ≡ w.sites
    pub most : (s : Site) → knows_site w s ≡ true → session (vector w p) s ≤ last_session p s

  -- the copies that are due are sent for
  due_sent : (p : List Noted) → IsSized p → (due : List Copying) → AreDue w p due → AllByRecursion (Sent w p) (map (rows.copy_out (vector w p)) due)
  due_sent p sized [] a = tt
  due_sent p sized (c ∷ due) a = ((tt, subst (λ z. Asks w p z (session (vector w p) c.source) (letters.CopyDo c.item c.target (session (vector w p) c.target)) []) (sym (back c.source)) asks), due_sent p sized due a.1)
    where
      back : (s : Site) → site (s.0 + 1 - 1) ≡ s
      back s = ap site (let e : s.0 + 1 - 1 ≡ s.0 = omega arith in e)

      asks : Asks w p c.source (session (vector w p) c.source) (letters.CopyDo c.item c.target (session (vector w p) c.target)) []
      asks known wanted = record { past = sized.most c.source known; target_past = sized.most c.target wanted; unlocked = λ held some up waits. a.0.unlocked; off = λ waits. tt }

  module _ (from : ℕ) (letter : Letter) (first : List Noted) where
    -- one entry
    sized_on : (p : List Noted) (e : Entry) → Why w from letter first p e → IsSized p → IsSized (add p e)
    sized_on p e why sized = record { long = sized_push w p e sized.long; most = most }
      where
        most : (s : Site) → knows_site w s ≡ true → session (vector w (add p e)) s ≤ last_session (add p e) s
        most s known =
            subst (λ z. session (vector w (add p e)) s ≤ z) (sym (last_push p e s))
            (subst (λ v. session v s ≤ turn_last s (last_session p s) e) (sym (vector_push w.sites p (next p e))) (go e why))
          where
            fall : (b : Bool) → (if b then 0 else session (vector w p) s) ≤ last_session p s
            fall true = omega arith
            fall false = sized.most s known

            rise : (b : Bool) (n : ℕ) → (if b then n else session (vector w p) s) ≤ (if b then n else last_session p s)
            rise true n = omega arith
            rise false n = sized.most s known

            go : (d : Entry) → Why w from letter first p d → session (turn_vector (vector w p) d) s ≤ turn_last s (last_session p s) d
            go (Down r) y = subst (λ z. z ≤ last_session p s) (sym (session_set w (vector w p) r s 0 sized.long y known)) (fall (is_site s r))
            go (Up r n) y = subst (λ z. z ≤ (if is_site s r then n else last_session p s)) (sym (session_set w (vector w p) r s n sized.long y.0 known)) (rise (is_site s r) n)
            go other y = sized.most s known

    module _ (h : List Entry) (e : Entry) (goes : Placeable w (noted h) e) (why : Why w from letter first (noted h) e) (sized : IsSized (noted h)) where
      abbrev p : List Noted
      p = noted h

      abbrev q : List Noted
      q = add (noted h) e

      -- what it sends: a Commit's own Apply comes when no copy that it writes waits
      sent : (ask : ℕ) → AllByRecursion (Sent w q) (rows.sends w q ask e)
      sent ask = sends_of w q ask (Sent w q) e (go e)
        where
          joins : (x : Item) → was_written q x (length q) ≡ true → (s : Site) (n : ℕ) → knows_site w s ≡ true → Awaits w q s n x → ⊥
          joins x wrote s n known waits = elim (at_parts (λ d. holds x (writes_of d)) p e (length q) wrote) [
            | inl old ↦ (let most = (numbered h (λ d. holds x (writes_of d)) (length q) old).1 in let long = long_push p e in omega (arith, most, long))
            | inr new ↦ none_waits w from letter first p e goes why sized.long s n x known new.1 waits
          ]

          go : (d : Entry) → SendsOf w q ask (Sent w q) d
          go (Read t x s) = ((tt, tt), (tt, tt))
          go (Commit t r applied) = λ s. ((λ there. (joins, tt)), (tt, tt))
          go (Abort t cause act) = λ s. (tt, tt)
          go (Down r) = λ s. (tt, tt)
          go (Up r n) = ((tt, tt), (λ s. (tt, tt)))
          go other = tt

      -- what there was stays so
      later : (links : List (List (List Letter))) → LinksTell w p links → LinksTell w q links
      later links h server d = go d (h server d)
        where
          go : (d : ℕ) → QueueTells w p server d (link links server d) → QueueTells w q server d (link links server d)
          go zero a = tt
          go (suc zero) a = along_on w from letter first p e goes why sized.long (site (server - 1)) (link links server 1) a
          go (suc (suc j)) a =
              all_weaken (λ (l : Letter). Speaks w p (site (server - 1)) (site (j + 1)) l.to l.from l.message) (λ (l : Letter). Speaks w q (site (server - 1)) (site (j + 1)) l.to l.from l.message) (link links server (suc (suc j)))
              (λ l. speaks_on w from letter first p e goes why sized.long (site (server - 1)) (site (j + 1)) l.to l.from l.message) a

      entry_tells : (clock ask : ℕ) (links : List (List (List Letter))) → LinksTell w p links → LinksTell w q (fold (post 1 0 clock) links (rows.sends w q ask e))
      entry_tells clock ask links all = sequencer_posts w q clock (rows.sends w q ask e) links (sent ask) (later links all)

    module _ (base : List (List (List Letter))) (clock : ℕ) where
      abbrev Now : Turn Sequencer → List (List (List Letter))
      Now a = fold (post 1 0 clock) base a.outs

      -- along the step
      pub steps_tell : (a b : Turn Sequencer) → Steps w from letter first a b → IsSized (so_far a) → LinksTell w (so_far a) (fold (post 1 0 clock) base a.outs) → LinksTell w (so_far b) (fold (post 1 0 clock) base b.outs)
      steps_tell a b done sized all = all
      steps_tell a b (placed ask e p goes why rest) sized all = steps_tell (place w ask a e) b rest (subst IsSized (sym (noted_push h e)) (sized_on (so_far a) e why sized)) after
        where
          h : List Entry
          h = a.state.history

          after : LinksTell w (so_far (place w ask a e)) (fold (post 1 0 clock) base (place w ask a e).outs)
          after = subst (LinksTell w (so_far (place w ask a e))) (sym (fold-append (post 1 0 clock) base a.outs (rows.sends w (so_far (place w ask a e)) ask e)))
              (subst (λ z. LinksTell w z (fold (post 1 0 clock) (Now a) (rows.sends w z ask e))) (sym (noted_push h e)) (entry_tells h e goes why sized clock ask (Now a) all))
      steps_tell a b (renews {next = next} due same more due_all rest) sized all =
          steps_tell next b rest (subst (λ h. IsSized (noted h)) (sym same) sized)
          (subst (λ h. LinksTell w (noted h) (fold (post 1 0 clock) base next.outs)) (sym same)
          (subst (λ outs. LinksTell w (so_far a) (fold (post 1 0 clock) base outs)) (sym more)
          (subst (LinksTell w (so_far a)) (sym (fold-append (post 1 0 clock) base a.outs (map (rows.copy_out (vector w (so_far a))) due)))
          (sequencer_posts w (so_far a) clock (map (rows.copy_out (vector w (so_far a))) due) (Now a) (due_sent (so_far a) sized due due_all) all))))
      steps_tell a b (counts {next = next} n same more rest) sized all =
          steps_tell next b rest (subst (λ h. IsSized (noted h)) (sym same) sized)
          (subst (λ h. LinksTell w (noted h) (fold (post 1 0 clock) base next.outs)) (sym same)
          (subst (λ outs. LinksTell w (so_far a) (fold (post 1 0 clock) base outs)) (sym more)
          (subst (LinksTell w (so_far a)) (sym (fold-append (post 1 0 clock) base a.outs ((0, 0, letters.Ends n) ∷ [])))
          (sequencer_posts w (so_far a) clock ((0, 0, letters.Ends n) ∷ []) (Now a) ((tt, tt), tt) all))))
      steps_tell a b (passes {next = next} same more rest) sized all =
          steps_tell next b rest (subst (λ h. IsSized (noted h)) (sym same) sized)
          (subst (λ h. LinksTell w (noted h) (fold (post 1 0 clock) base next.outs)) (sym same) (subst (λ outs. LinksTell w (so_far a) (fold (post 1 0 clock) base outs)) (sym more) all))
