-- A commit was prepared at a site that has stopped and returned since: it is refused.
use Rattle.std.specs.Prelude.{◌≡◌, ℕ, pos, false, List, [], ◌∷◌, take, slice_get, fold, refl}
use Rattle.raid_base.specs.declared.entry.Entry.TheVariants.{Begin, Abort, Down, Up}
use Rattle.raid_base.specs.declared.entry.Act.TheVariants as acts
use Rattle.raid_base.specs.declared.entry.Cause.TheVariants as causes
use Rattle.raid_base.specs.declared.verdict.Kind.TheVariants as kinds
use Rattle.raid_base.specs.declared.verdict.Structure.TheVariants as structures
use Rattle.raid_workload.specs.declared.workload.Workload.{Workload}
use Rattle.raid_workload.specs.declared.workload.ItemLine.{ItemLine}
use Rattle.raid_workload.specs.declared.workload.Homed.{Homed}
use Rattle.raid_legal.proofs.Scene.{t1, x, s1, s2, request, item_line, home_at}
use Rattle.std.specs.Option.{option_map_or}
use Rattle.raid_message.specs.declared.letter.Letter.{Letter}
use Rattle.raid_message.specs.declared.letter.Message.TheVariants as letters
use Rattle.raid_steps.specs.State.{Out, Sequencer}
use Rattle.raid_steps.specs.Sequencer.{hear_sequencer}
use Rattle.raid_steps.specs.World.{first_servers}
use Rattle.raid_steps.proofs.Mail.{letter}

-- what is run
abbrev items : List ItemLine
items =
    item_line (120 ∷ []) (pos 0) (s1 ∷ s2 ∷ []) ∷
    item_line (121 ∷ []) (pos 0) (s1 ∷ s2 ∷ []) ∷
    item_line (122 ∷ []) (pos 0) (s1 ∷ s2 ∷ []) ∷
    []

abbrev programs : List Homed
programs =
    home_at s1 [] ∷
    []

abbrev w : Workload
w = record {
  version = 1;
  restarts = 0;
  sites = 2;
  together = 3;
  items = items;
  kind = kinds.Lock;
  structure = structures.Native;
  switches = [];
  events = [];
  programs = programs;
  kept = refl;
}

-- what the sequencer hears: the sender's server number, and the letter
abbrev heard : List (ℕ × Letter)
heard =
    (2, (letter 1 0 (letters.Begin t1))) ∷
    (0, (letter 0 0 (letters.Down s2 1))) ∷
    (3, (letter 2 0 letters.Hello)) ∷
    (2, (letter 1 0 (letters.CommitAsk t1 (request [] ((x, pos 1) ∷ []) (1 ∷ 1 ∷ []))))) ∷
    []

-- the sequencer after so many letters
abbrev after : ℕ → Sequencer
after k = fold (λ s l. (hear_sequencer w s l.0 l.1).state) (first_servers w).sequencer (take k heard)

-- what the next letter sends
abbrev sent : ℕ → List Out
sent k = option_map_or (λ l. (hear_sequencer w (after k) l.0 l.1).outs) (slice_get heard k) []

-- the history at the end
entries : (after 4).history ≡
    Begin t1 s1 ∷
    Down s2 ∷
    Up s2 2 ∷
    Abort t1 (causes.Stale (1 ∷ 2 ∷ [])) (acts.Commit (request [] ((x, pos 1) ∷ []) (1 ∷ 1 ∷ []))) ∷
    []
entries = refl

-- what each letter sends, in order
sent_0 : sent 0 ≡ []
sent_0 = refl

sent_1 : sent 1 ≡ ((2, 1, (letters.DownNote s2)) ∷ [])
sent_1 = refl

sent_2 : sent 2 ≡ ((3, 2, (letters.Welcome (1 ∷ 2 ∷ []) 0)) ∷ (2, 1, (letters.UpNote s2 2)) ∷ [])
sent_2 = refl

sent_3 : sent 3 ≡ ((2, 1, (letters.Drop t1 false)) ∷ (3, 2, (letters.Drop t1 false)) ∷ (0, 0, (letters.Ends 1)) ∷ [])
sent_3 = refl
