-- A suffix-sufficient switch goes on after its last old transaction has ended, as long as a running one comes before it in conflicts.
use Rattle.std.specs.Prelude.{◌≡◌, ℕ, pos, true, false, List, [], ◌∷◌, take, refl}
use Rattle.raid_base.specs.declared.entry.Entry.TheVariants.{Begin, Read, Commit, Abort, Ack, SwitchOn, SwitchEnd}
use Rattle.raid_base.specs.declared.entry.Act.TheVariants as acts
use Rattle.raid_base.specs.declared.entry.Cause.TheVariants as causes
use Rattle.raid_base.specs.declared.verdict.Kind.TheVariants as kinds
use Rattle.raid_base.specs.declared.verdict.Method.TheVariants as methods
use Rattle.raid_base.specs.declared.verdict.Structure.TheVariants as structures
use Rattle.raid_base.specs.declared.report.Report.{Report}
use Rattle.raid_workload.specs.declared.workload.Workload.{Workload}
use Rattle.raid_workload.specs.declared.workload.ItemLine.{ItemLine}
use Rattle.raid_workload.specs.declared.workload.Switch.{Switch}
use Rattle.raid_workload.specs.declared.workload.Homed.{Homed}
use Rattle.raid_rules.specs.History.{noted}
use Rattle.raid_legal.specs.Legal.{Legal, Allowed}
use Rattle.raid_legal.specs.Serial.{Serial, Copies}
use Rattle.raid_legal.specs.Switched.{Switched, Finished}
use Rattle.raid_legal.specs.Sound.{Sound}
use Rattle.raid_legal.proofs.Scene.{◌also◌, t1, t2, t3, x, y, z, s1, request, item_line, switch, home_at, number, load, store, copy_line}
use Rattle.raid_base.specs.declared.entry.Noted.{Noted}
use Rattle.raid_legal.specs.InForce.{end_due}

-- what was run
abbrev items : List ItemLine
items =
    item_line (120 ∷ []) (pos 0) (s1 ∷ []) ∷
    item_line (121 ∷ []) (pos 0) (s1 ∷ []) ∷
    item_line (122 ∷ []) (pos 0) (s1 ∷ []) ∷
    []

abbrev switches : List Switch
switches =
    switch kinds.Graph methods.Suffix 1 ∷
    []

abbrev programs : List Homed
programs =
    home_at s1 (store x (number (pos 1)) ∷ []) ∷
    home_at s1 (store z (number (pos 1)) ∷ []) ∷
    home_at s1 (load x 0 ∷ store y (number (pos 2)) ∷ []) ∷
    []

abbrev w : Workload
w = record {
  version = 1;
  restarts = 0;
  sites = 1;
  together = 3;
  items = items;
  kind = kinds.Valid;
  structure = structures.Native;
  switches = switches;
  events = [];
  programs = programs;
  kept = refl;
}

-- what is told of it
abbrev told : Report
told = record {
  entries =
      Begin t1 s1 ∷
      Begin t2 s1 ∷
      Commit t2 (request [] ((z, pos 1) ∷ []) (1 ∷ [])) (s1 ∷ []) ∷
      SwitchOn 1 kinds.Graph methods.Suffix ∷
      Begin t3 s1 ∷
      Read t3 x s1 ∷
      Commit t1 (request [] ((x, pos 1) ∷ []) (1 ∷ [])) (s1 ∷ []) ∷
      Abort t3 causes.Invalid (acts.Commit (request ((x, pos 0) ∷ []) ((y, pos 2) ∷ []) (1 ∷ []))) ∷
      SwitchEnd 1 ∷
      Ack t1 s1 ∷
      Ack t2 s1 ∷
      [];
  order = (t2 ∷ t1 ∷ []);
  finals = ((x, pos 1) ∷ (y, pos 0) ∷ (z, pos 1) ∷ []);
  copies = (copy_line s1 x (pos 1) 7 ∷ copy_line s1 y (pos 0) 0 ∷ copy_line s1 z (pos 1) 3 ∷ []);
}

-- the first entries
abbrev before : ℕ → List Noted
before k = noted (take k told.entries)

-- no old transaction runs any more, but a running one comes before one of them
not_yet : end_due w (before 7) ≡ false
not_yet = refl

-- once that one has ended, the switch is over
over : end_due w (before 8) ≡ true
over = refl

-- the switch may not end before that
no_end_yet : Allowed w (before 7) (SwitchEnd 1) → ⊥
no_end_yet = λ q. q

-- its history is legal
legal : Legal w told.entries
legal = (refl, refl)
    also (refl, refl)
    also (refl, refl, record { done = refl; reads = refl; writes = refl; sites = refl })
    also refl
    also (refl, refl)
    also (refl, refl, refl)
    also (refl, refl, record { done = refl; reads = refl; writes = refl; sites = refl })
    also (refl, refl, record { done = refl; reads = refl; writes = refl; sites = refl })
    also refl
    also refl
    also refl
    also tt

-- it is serial
serial : Serial w told
serial = record { in_order = refl; all = refl; no_other = refl; runs = refl also refl also tt; ends = refl; finals = refl }

-- its switches did what they may
switched : Switched w told.entries
switched = tt
    also tt
    also tt
    also record { follow = refl; no_other = refl }
    also tt
    also (refl, refl)
    also refl
    also refl
    also tt
    also tt
    also tt
    also tt

-- its copies are right
copies : Copies w told
copies = record { all = refl; current = (refl, refl) also (refl, refl) also (refl, refl) also tt }

-- nothing is left to do
finished : Finished w told.entries
finished = record { unforced = refl; ended = refl; once = refl; served = refl; settled = refl; acked = refl }

-- so it is sound
sound : Sound w told
sound = record { legal = legal; serial = serial; copies = copies; switched = switched; finished = finished }
