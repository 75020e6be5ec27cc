-- In every run the sequencer may hear its letters, if copies are told as they should be.
use Rattle.std.proofs.Common.{◌≡◌, ℕ, ◌<◌, true, List, [], ◌∷◌, ◌++◌, subst}
use Rattle.std.proofs.lemmas.List.Sums.{fold_push}
use Rattle.raid_workload.specs.declared.workload.Workload.{Workload}
use Rattle.raid_message.specs.declared.letter.Letter.{Letter}
use Rattle.raid_message.specs.declared.letter.Pick.{Pick}
use Rattle.raid_steps.specs.Sequencer.{hear_sequencer}
use Rattle.raid_steps.specs.World.{World, open_world, link, take_front, pick, run, finds}
use Rattle.raid_measure.specs.Measure.{measure}
use Rattle.raid_ends.specs.Placing.{EachMay, MayHear}
use Rattle.raid_ends.proofs.Sequencer.{sequencer_lowers}
use Rattle.raid_ready.specs.Told.{CopiesAreTold}
use Rattle.raid_ready.proofs.Entries.{run_may}

module _ (w : Workload) (schedule : List Pick) where
  abbrev now : World
  now = run w schedule

  -- the history after one more letter is that of a run, too
  may_after : (from : ℕ) (letter : Letter) (rest : List Letter) → link now.links 1 from ≡ letter ∷ rest → EachMay w (hear_sequencer w now.servers.sequencer from letter).state.history
  may_after from letter rest front =
      subst (λ queue. EachMay w (take_front w now 1 from queue).servers.sequencer.history) front
      (subst (λ (state : World). EachMay w state.servers.sequencer.history) (fold_push (pick w) (open_world w) schedule next) (run_may w (schedule ++ next ∷ [])))
    where
      next : Pick
      next = record { server = 1; from = from }

  pub may_hear : CopiesAreTold w now → (from : ℕ) (letter : Letter) (rest : List Letter) → link now.links 1 from ≡ letter ∷ rest → MayHear w now.servers.sequencer from letter
  may_hear told from letter rest front = record {
    entries = may_after from letter rest front;
    copied = λ k x v of is locked. told k letter rest x v (subst (λ n. link now.links 1 n ≡ letter ∷ rest) of front) is locked;
  }

  pub run_lowers : CopiesAreTold w now → (p : Pick) → p.server ≡ 1 → finds now p ≡ true → measure w (pick w now p) < measure w now
  run_lowers told p one found = sequencer_lowers w now p one (λ letter rest front. may_hear told p.from letter rest (subst (λ n. link now.links n p.from ≡ letter ∷ rest) one front)) found
