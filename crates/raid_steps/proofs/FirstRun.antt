-- A run of one transaction at one site, letter by letter.
use Rattle.std.specs.Prelude.{◌≡◌, pos, true, List, [], ◌∷◌, refl}
use Rattle.raid_base.specs.declared.entry.Entry.TheVariants.{Begin, Read, Commit, Ack}
use Rattle.raid_base.specs.declared.verdict.Kind.TheVariants as kinds
use Rattle.raid_base.specs.declared.verdict.Structure.TheVariants as structures
use Rattle.raid_base.specs.declared.report.Report.{Report}
use Rattle.raid_program.specs.declared.program.Term.TheVariants as terms
use Rattle.raid_workload.specs.declared.workload.Workload.{Workload}
use Rattle.raid_workload.specs.declared.workload.ItemLine.{ItemLine}
use Rattle.raid_workload.specs.declared.workload.Homed.{Homed}
use Rattle.raid_legal.proofs.Scene.{t1, x, s1, request, item_line, home_at, sum, load, store, copy_line}
use Rattle.raid_message.specs.declared.letter.Pick.{Pick}
use Rattle.raid_steps.specs.World.{run, report, is_schedule, is_idle}
use Rattle.raid_steps.proofs.Mail.{takes, step}

-- what is run
abbrev items : List ItemLine
items =
    item_line (120 ∷ []) (pos 100) (s1 ∷ []) ∷
    []

abbrev programs : List Homed
programs =
    home_at s1 (load x 0 ∷ store x (sum (terms.Reg 0) ((true, (terms.Value (pos 5))) ∷ [])) ∷ []) ∷
    []

abbrev w : Workload
w = record {
  version = 1;
  restarts = 0;
  sites = 1;
  together = 1;
  items = items;
  kind = kinds.Lock;
  structure = structures.Native;
  switches = [];
  events = [];
  programs = programs;
  kept = refl;
}

-- who takes a letter from whom
abbrev schedule : List Pick
schedule = (takes 2 1 ∷ takes 1 2 ∷ takes 1 2 ∷ takes 2 1 ∷ takes 1 2 ∷ takes 0 1 ∷ takes 2 1 ∷ takes 1 2 ∷ takes 2 1 ∷ [])

-- what is told at the end
abbrev told : Report
told = record {
  entries =
      Begin t1 s1 ∷
      Read t1 x s1 ∷
      Commit t1 (request ((x, pos 100) ∷ []) ((x, pos 105) ∷ []) (1 ∷ [])) (s1 ∷ []) ∷
      Ack t1 s1 ∷
      [];
  order = (t1 ∷ []);
  finals = ((x, pos 105) ∷ []);
  copies = (copy_line s1 x (pos 105) 3 ∷ []);
}

-- the run ends so
ends_so : report w (run w schedule).servers ≡ told
ends_so = refl

-- each pick found a letter
is_one : is_schedule w schedule ≡ true
is_one = refl

-- no letter is left
idle : is_idle (run w schedule) ≡ true
idle = refl

-- the servers' clocks, in the order of their numbers
clocks : (run w schedule).clocks ≡ (6 ∷ 7 ∷ 7 ∷ [])
clocks = refl

-- the steps of each server
journals : (run w schedule).journals ≡
    (step 6 1 ∷ []) ∷
    (step 2 2 ∷ step 3 2 ∷ step 5 2 ∷ step 7 2 ∷ []) ∷
    (step 1 1 ∷ step 4 1 ∷ step 6 1 ∷ step 7 1 ∷ []) ∷
    []
journals = refl
