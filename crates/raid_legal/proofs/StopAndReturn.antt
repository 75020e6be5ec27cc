-- A site stops before it took a write, so its copy is locked; it returns, and the copy is renewed.
use Rattle.std.specs.Prelude.{◌≡◌, ℕ, pos, true, List, [], ◌∷◌, take, refl}
use Rattle.raid_base.specs.declared.entry.Entry.TheVariants.{Begin, Read, Commit, Ack, Down, Up, Clear}
use Rattle.raid_base.specs.declared.verdict.Kind.TheVariants as kinds
use Rattle.raid_base.specs.declared.verdict.Structure.TheVariants as structures
use Rattle.raid_base.specs.declared.report.Report.{Report}
use Rattle.raid_workload.specs.declared.workload.Workload.{Workload}
use Rattle.raid_workload.specs.declared.workload.ItemLine.{ItemLine}
use Rattle.raid_workload.specs.declared.workload.Event.{Event}
use Rattle.raid_workload.specs.declared.workload.Homed.{Homed}
use Rattle.raid_rules.specs.History.{noted}
use Rattle.raid_legal.specs.Legal.{Legal, Allowed}
use Rattle.raid_legal.specs.Serial.{Serial, Copies}
use Rattle.raid_legal.specs.Switched.{Switched, Finished}
use Rattle.raid_legal.specs.Sound.{Sound}
use Rattle.raid_legal.proofs.Scene.{◌also◌, t1, t2, x, s1, s2, request, item_line, stops, returns, home_at, number, load, store, copy_line}
use Rattle.raid_legal.proofs.Apart.{untrue}
use Rattle.raid_base.specs.declared.entry.Noted.{Noted}
use Rattle.raid_legal.specs.Seen.{is_locked, sources}

-- what was run
abbrev items : List ItemLine
items =
    item_line (120 ∷ []) (pos 0) (s1 ∷ s2 ∷ []) ∷
    []

abbrev events : List Event
events =
    stops s2 1 ∷
    returns s2 2 ∷
    []

abbrev programs : List Homed
programs =
    home_at s1 (store x (number (pos 1)) ∷ []) ∷
    home_at s1 (load x 0 ∷ []) ∷
    []

abbrev w : Workload
w = record {
  version = 1;
  restarts = 0;
  sites = 2;
  together = 1;
  items = items;
  kind = kinds.Lock;
  structure = structures.Native;
  switches = [];
  events = events;
  programs = programs;
  kept = refl;
}

-- what is told of it
abbrev told : Report
told = record {
  entries =
      Begin t1 s1 ∷
      Commit t1 (request [] ((x, pos 1) ∷ []) (1 ∷ 1 ∷ [])) (s1 ∷ s2 ∷ []) ∷
      Ack t1 s1 ∷
      Down s2 ∷
      Begin t2 s1 ∷
      Read t2 x s1 ∷
      Commit t2 (request ((x, pos 1) ∷ []) [] (1 ∷ 0 ∷ [])) [] ∷
      Up s2 2 ∷
      Clear s2 x 2 ∷
      [];
  order = (t1 ∷ t2 ∷ []);
  finals = ((x, pos 1) ∷ []);
  copies = (copy_line s1 x (pos 1) 2 ∷ copy_line s2 x (pos 1) 2 ∷ []);
}

-- the first entries
abbrev before : ℕ → List Noted
before k = noted (take k told.entries)

-- the site went down owing the write, so its copy is locked
locked : is_locked w (before 4) s2 x ≡ true
locked = refl

-- and the other site is the only source
alone : sources w (before 4) x ≡ s1 ∷ []
alone = refl

-- a copy that isn't locked may not be cleared
once : Allowed w (before 9) (Clear s2 x 2) → ⊥
once = λ q. untrue q

-- its history is legal
legal : Legal w told.entries
legal = (refl, refl)
    also (refl, refl, record { done = refl; reads = refl; writes = refl; sites = refl })
    also refl
    also refl
    also (refl, refl)
    also (refl, refl, refl)
    also (refl, refl, record { done = refl; reads = refl; writes = refl; sites = refl })
    also refl
    also refl
    also tt

-- it is serial
serial : Serial w told
serial = record { in_order = refl; all = refl; no_other = refl; runs = refl also refl also tt; ends = refl; finals = refl }

-- its switches did what they may
switched : Switched w told.entries
switched = tt
    also tt
    also tt
    also tt
    also tt
    also (tt, refl)
    also tt
    also tt
    also tt
    also tt

-- its copies are right
copies : Copies w told
copies = record { all = refl; current = (refl, refl) also (refl, refl) also tt }

-- nothing is left to do
finished : Finished w told.entries
finished = record { unforced = refl; ended = refl; once = refl; served = refl; settled = refl; acked = refl }

-- so it is sound
sound : Sound w told
sound = record { legal = legal; serial = serial; copies = copies; switched = switched; finished = finished }
