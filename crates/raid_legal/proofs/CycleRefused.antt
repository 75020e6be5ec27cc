-- Graph testing: two transactions read what the other writes; the second commit would close a cycle.
use Rattle.std.specs.Prelude.{◌≡◌, ℕ, pos, List, [], ◌∷◌, take, refl}
use Rattle.raid_base.specs.declared.entry.Entry.TheVariants.{Begin, Read, Commit, Abort, Ack}
use Rattle.raid_base.specs.declared.entry.Act.TheVariants as acts
use Rattle.raid_base.specs.declared.entry.Cause.TheVariants as causes
use Rattle.raid_base.specs.declared.verdict.Kind.TheVariants as kinds
use Rattle.raid_base.specs.declared.verdict.Structure.TheVariants as structures
use Rattle.raid_base.specs.declared.report.Report.{Report}
use Rattle.raid_workload.specs.declared.workload.Workload.{Workload}
use Rattle.raid_workload.specs.declared.workload.ItemLine.{ItemLine}
use Rattle.raid_workload.specs.declared.workload.Homed.{Homed}
use Rattle.raid_rules.specs.History.{noted}
use Rattle.raid_legal.specs.Legal.{Legal}
use Rattle.raid_legal.specs.Serial.{Serial, Copies}
use Rattle.raid_legal.specs.Switched.{Switched, Finished}
use Rattle.raid_legal.specs.Sound.{Sound}
use Rattle.raid_legal.proofs.Scene.{◌also◌, t1, t2, x, y, z, s1, request, item_line, home_at, number, load, store, copy_line}
use Rattle.raid_base.specs.declared.entry.Noted.{Noted}
use Rattle.raid_base.specs.declared.verdict.Refusal.TheVariants as refusals
use Rattle.raid_base.specs.declared.verdict.Verdict.TheVariants as verdicts
use Rattle.raid_rules.specs.Verdicts.{writing}
use Rattle.raid_legal.specs.InForce.{verdict}

-- what was run
abbrev items : List ItemLine
items =
    item_line (120 ∷ []) (pos 0) (s1 ∷ []) ∷
    item_line (121 ∷ []) (pos 0) (s1 ∷ []) ∷
    item_line (122 ∷ []) (pos 0) (s1 ∷ []) ∷
    []

abbrev programs : List Homed
programs =
    home_at s1 (load x 0 ∷ store y (number (pos 1)) ∷ []) ∷
    home_at s1 (load y 0 ∷ store x (number (pos 2)) ∷ []) ∷
    []

abbrev w : Workload
w = record {
  version = 1;
  restarts = 0;
  sites = 1;
  together = 3;
  items = items;
  kind = kinds.Graph;
  structure = structures.Native;
  switches = [];
  events = [];
  programs = programs;
  kept = refl;
}

-- what is told of it
abbrev told : Report
told = record {
  entries =
      Begin t1 s1 ∷
      Begin t2 s1 ∷
      Read t1 x s1 ∷
      Read t2 y s1 ∷
      Commit t1 (request ((x, pos 0) ∷ []) ((y, pos 1) ∷ []) (1 ∷ [])) (s1 ∷ []) ∷
      Abort t2 causes.Cycle (acts.Commit (request ((y, pos 0) ∷ []) ((x, pos 2) ∷ []) (1 ∷ []))) ∷
      Ack t1 s1 ∷
      [];
  order = (t1 ∷ []);
  finals = ((x, pos 0) ∷ (y, pos 1) ∷ (z, pos 0) ∷ []);
  copies = (copy_line s1 x (pos 0) 0 ∷ copy_line s1 y (pos 1) 5 ∷ copy_line s1 z (pos 0) 0 ∷ []);
}

-- the first entries
abbrev before : ℕ → List Noted
before k = noted (take k told.entries)

-- the second commit would come before and behind the first
cycle : verdict w (before 5) (writing t2 2 ((x, pos 2) ∷ [])) ≡ verdicts.Reject refusals.Cycle
cycle = refl

-- its history is legal
legal : Legal w told.entries
legal = (refl, refl)
    also (refl, refl)
    also (refl, refl, refl)
    also (refl, refl, refl)
    also (refl, refl, record { done = refl; reads = refl; writes = refl; sites = refl })
    also (refl, refl, record { done = refl; reads = refl; writes = refl; sites = refl })
    also refl
    also tt

-- it is serial
serial : Serial w told
serial = record { in_order = refl; all = refl; no_other = refl; runs = refl also tt; ends = refl; finals = refl }

-- its switches did what they may
switched : Switched w told.entries
switched = tt
    also tt
    also (tt, refl)
    also (tt, refl)
    also tt
    also refl
    also tt
    also tt

-- its copies are right
copies : Copies w told
copies = record { all = refl; current = (refl, refl) also (refl, refl) also (refl, refl) also tt }

-- nothing is left to do
finished : Finished w told.entries
finished = record { unforced = refl; ended = refl; once = refl; served = refl; settled = refl; acked = refl }

-- so it is sound
sound : Sound w told
sound = record { legal = legal; serial = serial; copies = copies; switched = switched; finished = finished }
