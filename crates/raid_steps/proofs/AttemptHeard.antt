-- A transaction that validation refused begins again as a new one, which commits.
use Rattle.std.specs.Prelude.{◌≡◌, ℕ, pos, true, List, [], ◌∷◌, take, slice_get, fold, refl}
use Rattle.raid_base.specs.declared.entry.Entry.TheVariants.{Begin, Read, Commit, Abort}
use Rattle.raid_base.specs.declared.entry.Act.TheVariants as acts
use Rattle.raid_base.specs.declared.entry.Cause.TheVariants as causes
use Rattle.raid_base.specs.declared.verdict.Kind.TheVariants as kinds
use Rattle.raid_base.specs.declared.verdict.Structure.TheVariants as structures
use Rattle.raid_workload.specs.declared.workload.Workload.{Workload}
use Rattle.raid_workload.specs.declared.workload.ItemLine.{ItemLine}
use Rattle.raid_workload.specs.declared.workload.Homed.{Homed}
use Rattle.raid_legal.proofs.Scene.{t1, t2, t3, x, y, s1, request, item_line, home_at}
use Rattle.std.specs.Option.{option_map_or}
use Rattle.raid_message.specs.declared.letter.Letter.{Letter}
use Rattle.raid_message.specs.declared.letter.Message.TheVariants as letters
use Rattle.raid_steps.specs.State.{Out, Sequencer}
use Rattle.raid_steps.specs.Sequencer.{hear_sequencer}
use Rattle.raid_steps.specs.World.{first_servers}
use Rattle.raid_steps.proofs.Mail.{letter}

-- what is run
abbrev items : List ItemLine
items =
    item_line (120 ∷ []) (pos 0) (s1 ∷ []) ∷
    item_line (121 ∷ []) (pos 0) (s1 ∷ []) ∷
    item_line (122 ∷ []) (pos 0) (s1 ∷ []) ∷
    []

abbrev programs : List Homed
programs =
    home_at s1 [] ∷
    home_at s1 [] ∷
    []

abbrev w : Workload
w = record {
  version = 2;
  restarts = 1;
  sites = 1;
  together = 3;
  items = items;
  kind = kinds.Valid;
  structure = structures.Native;
  switches = [];
  events = [];
  programs = programs;
  kept = refl;
}

-- what the sequencer hears: the sender's server number, and the letter
abbrev heard : List (ℕ × Letter)
heard =
    (2, (letter 1 0 (letters.Begin t1))) ∷
    (2, (letter 1 0 (letters.Begin t2))) ∷
    (2, (letter 1 0 (letters.ReadAsk t1 1 x))) ∷
    (2, (letter 1 0 (letters.CommitAsk t2 (request [] ((x, pos 5) ∷ []) (1 ∷ []))))) ∷
    (2, (letter 1 0 (letters.CommitAsk t1 (request ((x, pos 0) ∷ []) ((y, pos 1) ∷ []) (1 ∷ []))))) ∷
    (2, (letter 1 0 (letters.Begin t3))) ∷
    (2, (letter 1 0 (letters.ReadAsk t3 1 x))) ∷
    (2, (letter 1 0 (letters.CommitAsk t3 (request ((x, pos 5) ∷ []) ((y, pos 6) ∷ []) (1 ∷ []))))) ∷
    []

-- the sequencer after so many letters
abbrev after : ℕ → Sequencer
after k = fold (λ s l. (hear_sequencer w s l.0 l.1).state) (first_servers w).sequencer (take k heard)

-- what the next letter sends
abbrev sent : ℕ → List Out
sent k = option_map_or (λ l. (hear_sequencer w (after k) l.0 l.1).outs) (slice_get heard k) []

-- the history at the end
entries : (after 8).history ≡
    Begin t1 s1 ∷
    Begin t2 s1 ∷
    Read t1 x s1 ∷
    Commit t2 (request [] ((x, pos 5) ∷ []) (1 ∷ [])) (s1 ∷ []) ∷
    Abort t1 causes.Invalid (acts.Commit (request ((x, pos 0) ∷ []) ((y, pos 1) ∷ []) (1 ∷ []))) ∷
    Begin t3 s1 ∷
    Read t3 x s1 ∷
    Commit t3 (request ((x, pos 5) ∷ []) ((y, pos 6) ∷ []) (1 ∷ [])) (s1 ∷ []) ∷
    []
entries = refl

-- what each letter sends, in order
sent_0 : sent 0 ≡ []
sent_0 = refl

sent_1 : sent 1 ≡ []
sent_1 = refl

sent_2 : sent 2 ≡ ((2, 1, (letters.ReadDo t1 1 x s1 1)) ∷ [])
sent_2 = refl

sent_3 : sent 3 ≡ ((2, 1, (letters.Apply t2 4)) ∷ (2, 1, (letters.Done t2)) ∷ (0, 0, (letters.Ends 1)) ∷ [])
sent_3 = refl

sent_4 : sent 4 ≡ ((2, 1, (letters.Drop t1 true)) ∷ (0, 0, (letters.Ends 2)) ∷ [])
sent_4 = refl

sent_5 : sent 5 ≡ []
sent_5 = refl

sent_6 : sent 6 ≡ ((2, 1, (letters.ReadDo t3 1 x s1 1)) ∷ [])
sent_6 = refl

sent_7 : sent 7 ≡ ((2, 1, (letters.Apply t3 8)) ∷ (2, 1, (letters.Done t3)) ∷ (0, 0, (letters.Ends 3)) ∷ [])
sent_7 = refl
