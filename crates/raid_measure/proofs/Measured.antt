-- A site stops and comes back: what the measure is at the start, and after some picks.
use Rattle.std.specs.Prelude.{◌≡◌, ℕ, pos, List, [], ◌∷◌, refl}
use Rattle.raid_base.specs.declared.verdict.Kind.TheVariants as kinds
use Rattle.raid_base.specs.declared.verdict.Structure.TheVariants as structures
use Rattle.raid_workload.specs.declared.workload.Workload.{Workload}
use Rattle.raid_legal.proofs.Scene.{x, s1, s2, item_line, stops, returns, home_at, number, load, store}
use Rattle.raid_message.specs.declared.letter.Pick.{Pick}
use Rattle.raid_steps.specs.World.{World, open_world, pick, run, rounds}
use Rattle.raid_steps.proofs.Mail.{takes}
use Rattle.raid_measure.specs.Measure.{measure}

abbrev w : Workload
w = record {
  version = 1;
  restarts = 0;
  sites = 2;
  together = 1;
  items = item_line (120 ∷ []) (pos 0) (s1 ∷ s2 ∷ []) ∷ [];
  kind = kinds.Lock;
  structure = structures.Native;
  switches = [];
  events = stops s2 1 ∷ returns s2 2 ∷ [];
  programs = home_at s1 (store x (number (pos 1)) ∷ []) ∷ home_at s1 (load x 0 ∷ []) ∷ [];
  kept = refl;
}

-- the measure after each of some picks
abbrev measures : Workload → World → List Pick → List ℕ
measures w state [] = []
measures w state (p ∷ ps) = measure w (pick w state p) ∷ measures w (pick w state p) ps

-- the sites are welcomed; the first transaction begins, prepares and commits; both events go out, and the home applies its part
abbrev to_the_stop : List Pick
to_the_stop = takes 2 1 ∷ takes 3 1 ∷ takes 1 2 ∷ takes 3 2 ∷ takes 2 3 ∷ takes 1 2 ∷ takes 0 1 ∷ takes 2 1 ∷ takes 1 2 ∷ takes 2 1 ∷ []

-- site 2 stops before its Apply and goes down; the second transaction runs; site 2 returns, and its copy is renewed
abbrev from_the_stop : List Pick
from_the_stop = takes 3 0 ∷ takes 0 3 ∷ takes 1 0 ∷ takes 1 2 ∷ takes 2 1 ∷ takes 1 2 ∷ takes 2 1 ∷ takes 1 2 ∷ takes 0 1 ∷ takes 2 1 ∷ takes 3 0 ∷ takes 1 3 ∷ takes 3 1 ∷ takes 2 1 ∷ takes 3 1 ∷ takes 2 1 ∷ takes 3 2 ∷ takes 1 3 ∷ []

bound : rounds w ≡ 631
bound = refl

at_first : measure w (open_world w) ≡ 436
at_first = refl

falls : measures w (open_world w) to_the_stop ≡ 307 ∷ 306 ∷ 305 ∷ 304 ∷ 303 ∷ 302 ∷ 301 ∷ 300 ∷ 299 ∷ 298 ∷ []
falls = refl

falls_to_none : measures w (run w to_the_stop) from_the_stop ≡ 165 ∷ 164 ∷ 160 ∷ 159 ∷ 150 ∷ 148 ∷ 20 ∷ 15 ∷ 14 ∷ 13 ∷ 12 ∷ 11 ∷ 9 ∷ 4 ∷ 3 ∷ 2 ∷ 1 ∷ 0 ∷ []
falls_to_none = refl
