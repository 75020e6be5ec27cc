-- A run in which a site stops before it takes an Apply. Its copy is locked and, after its return, renewed.
use Rattle.std.specs.Prelude.{◌≡◌, pos, true, List, [], ◌∷◌, refl}
use Rattle.raid_base.specs.declared.entry.Entry.TheVariants.{Begin, Read, Commit, Ack, Down, Up, Clear}
use Rattle.raid_base.specs.declared.verdict.Kind.TheVariants as kinds
use Rattle.raid_base.specs.declared.verdict.Structure.TheVariants as structures
use Rattle.raid_base.specs.declared.report.Report.{Report}
use Rattle.raid_workload.specs.declared.workload.Workload.{Workload}
use Rattle.raid_workload.specs.declared.workload.ItemLine.{ItemLine}
use Rattle.raid_workload.specs.declared.workload.Event.{Event}
use Rattle.raid_workload.specs.declared.workload.Homed.{Homed}
use Rattle.raid_legal.proofs.Scene.{t1, t2, x, s1, s2, request, item_line, stops, returns, home_at, number, load, store, copy_line}
use Rattle.raid_message.specs.declared.letter.Pick.{Pick}
use Rattle.raid_steps.specs.World.{run, report, is_schedule, is_idle}
use Rattle.raid_steps.proofs.Mail.{takes, step}

-- what is run
abbrev items : List ItemLine
items =
    item_line (120 ∷ []) (pos 0) (s1 ∷ s2 ∷ []) ∷
    []

abbrev events : List Event
events =
    stops s2 1 ∷
    returns s2 2 ∷
    []

abbrev programs : List Homed
programs =
    home_at s1 (store x (number (pos 1)) ∷ []) ∷
    home_at s1 (load x 0 ∷ []) ∷
    []

abbrev w : Workload
w = record {
  version = 1;
  restarts = 0;
  sites = 2;
  together = 1;
  items = items;
  kind = kinds.Lock;
  structure = structures.Native;
  switches = [];
  events = events;
  programs = programs;
  kept = refl;
}

-- who takes a letter from whom
abbrev schedule : List Pick
schedule = (takes 2 1 ∷ takes 3 1 ∷ takes 1 2 ∷ takes 3 2 ∷ takes 2 3 ∷ takes 1 2 ∷ takes 0 1 ∷ takes 2 1 ∷ takes 1 2 ∷ takes 2 1 ∷ takes 3 0 ∷ takes 0 3 ∷ takes 1 0 ∷ takes 1 2 ∷ takes 2 1 ∷ takes 1 2 ∷ takes 2 1 ∷ takes 1 2 ∷ takes 0 1 ∷ takes 2 1 ∷ takes 3 0 ∷ takes 1 3 ∷ takes 3 1 ∷ takes 2 1 ∷ takes 3 1 ∷ takes 2 1 ∷ takes 3 2 ∷ takes 1 3 ∷ [])

-- what is told at the end
abbrev told : Report
told = record {
  entries =
      Begin t1 s1 ∷
      Commit t1 (request [] ((x, pos 1) ∷ []) (1 ∷ 1 ∷ [])) (s1 ∷ s2 ∷ []) ∷
      Ack t1 s1 ∷
      Down s2 ∷
      Begin t2 s1 ∷
      Read t2 x s1 ∷
      Commit t2 (request ((x, pos 1) ∷ []) [] (1 ∷ 0 ∷ [])) [] ∷
      Up s2 2 ∷
      Clear s2 x 2 ∷
      [];
  order = (t1 ∷ t2 ∷ []);
  finals = ((x, pos 1) ∷ []);
  copies = (copy_line s1 x (pos 1) 2 ∷ copy_line s2 x (pos 1) 2 ∷ []);
}

-- the run ends so
ends_so : report w (run w schedule).servers ≡ told
ends_so = refl

-- each pick found a letter
is_one : is_schedule w schedule ≡ true
is_one = refl

-- no letter is left
idle : is_idle (run w schedule) ≡ true
idle = refl

-- the servers' clocks, in the order of their numbers
clocks : (run w schedule).clocks ≡ (13 ∷ 19 ∷ 17 ∷ 18 ∷ [])
clocks = refl

-- the steps of each server
journals : (run w schedule).journals ≡
    (step 5 1 ∷ step 7 3 ∷ step 13 1 ∷ []) ∷
    (step 2 2 ∷ step 4 2 ∷ step 6 2 ∷ step 8 0 ∷ step 9 2 ∷ step 10 2 ∷ step 12 2 ∷ step 15 3 ∷ step 19 3 ∷ []) ∷
    (step 1 1 ∷ step 3 3 ∷ step 5 1 ∷ step 6 1 ∷ step 9 1 ∷ step 11 1 ∷ step 13 1 ∷ step 16 1 ∷ step 17 1 ∷ []) ∷
    (step 1 1 ∷ step 2 2 ∷ step 6 0 ∷ step 14 0 ∷ step 15 1 ∷ step 16 1 ∷ step 18 2 ∷ []) ∷
    []
journals = refl
