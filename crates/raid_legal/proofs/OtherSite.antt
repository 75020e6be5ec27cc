-- A transaction reads and writes an item that only another site holds.
use Rattle.std.specs.Prelude.{pos, true, List, [], ◌∷◌, refl}
use Rattle.raid_base.specs.declared.entry.Entry.TheVariants.{Begin, Read, Commit, Ack}
use Rattle.raid_base.specs.declared.verdict.Kind.TheVariants as kinds
use Rattle.raid_base.specs.declared.verdict.Structure.TheVariants as structures
use Rattle.raid_base.specs.declared.report.Report.{Report}
use Rattle.raid_program.specs.declared.program.Term.TheVariants as terms
use Rattle.raid_workload.specs.declared.workload.Workload.{Workload}
use Rattle.raid_workload.specs.declared.workload.ItemLine.{ItemLine}
use Rattle.raid_workload.specs.declared.workload.Homed.{Homed}
use Rattle.raid_legal.specs.Legal.{Legal}
use Rattle.raid_legal.specs.Serial.{Serial, Copies}
use Rattle.raid_legal.specs.Switched.{Switched, Finished}
use Rattle.raid_legal.specs.Sound.{Sound}
use Rattle.raid_legal.proofs.Scene.{◌also◌, t1, x, s1, s2, request, item_line, home_at, sum, load, store, copy_line}

-- what was run
abbrev items : List ItemLine
items =
    item_line (120 ∷ []) (pos 5) (s2 ∷ []) ∷
    []

abbrev programs : List Homed
programs =
    home_at s1 (load x 0 ∷ store x (sum (terms.Reg 0) ((true, (terms.Value (pos 1))) ∷ [])) ∷ []) ∷
    []

abbrev w : Workload
w = record {
  version = 1;
  restarts = 0;
  sites = 2;
  together = 1;
  items = items;
  kind = kinds.Lock;
  structure = structures.Native;
  switches = [];
  events = [];
  programs = programs;
  kept = refl;
}

-- what is told of it
abbrev told : Report
told = record {
  entries =
      Begin t1 s1 ∷
      Read t1 x s2 ∷
      Commit t1 (request ((x, pos 5) ∷ []) ((x, pos 6) ∷ []) (1 ∷ 1 ∷ [])) (s2 ∷ []) ∷
      Ack t1 s2 ∷
      [];
  order = (t1 ∷ []);
  finals = ((x, pos 6) ∷ []);
  copies = (copy_line s2 x (pos 6) 3 ∷ []);
}

-- its history is legal
legal : Legal w told.entries
legal = (refl, refl)
    also (refl, refl, refl)
    also (refl, refl, record { done = refl; reads = refl; writes = refl; sites = refl })
    also refl
    also tt

-- it is serial
serial : Serial w told
serial = record { in_order = refl; all = refl; no_other = refl; runs = refl also tt; ends = refl; finals = refl }

-- its switches did what they may
switched : Switched w told.entries
switched = tt
    also (tt, refl)
    also tt
    also tt
    also tt

-- its copies are right
copies : Copies w told
copies = record { all = refl; current = (refl, refl) also tt }

-- nothing is left to do
finished : Finished w told.entries
finished = record { unforced = refl; ended = refl; once = refl; served = refl; settled = refl; acked = refl }

-- so it is sound
sound : Sound w told
sound = record { legal = legal; serial = serial; copies = copies; switched = switched; finished = finished }
