-- What the calls make of the record of a turn.
use Rattle.std.proofs.Common.{◌≡◌, ℕ, ◌-◌, not, nat_lt, if◌then◌else◌, max, List, [], ◌∷◌, ◌++◌, map, filter, length, slice_index, slice_set, ap, sym, subst, ◌∙◌}
use Rattle.std.specs.Prelude.{flat_map}
use Rattle.raid_base.specs.declared.names.Item.{Item}
use Rattle.raid_base.specs.declared.names.Site.{Site}
use Rattle.raid_base.specs.declared.entry.Entry.{Entry}
use Rattle.raid_base.specs.declared.entry.Noted.{Noted}
use Rattle.raid_workload.specs.declared.workload.Workload.{Workload}
use Rattle.raid_workload.specs.Parts.{sites}
use Rattle.raid_rules.specs.History.{noted, add, ends}
use Rattle.raid_rules.proofs.Push.{noted_push}
use Rattle.raid_legal.specs.Seen.{vector, is_up}
use Rattle.raid_message.specs.declared.letter.Message.TheVariants as letters
use Rattle.raid_steps.specs.State.{Out, Copying}
use Rattle.raid_steps.specs.Sequencer.{place, sends, ends_copying, send_copies, send_ends, announce, close, copies_due, copy_out}
use Rattle.raid_copier.specs.declared.copiers.Copiers.{Copiers}
use Rattle.raid_copier.specs.Copiers as ways
use Rattle.raid_placed.specs.Placed.{Placed, Placeable}
use Rattle.raid_placed.proofs.Sent.{placed_push}
use Rattle.raid_record.specs.declared.records.Record.{Record}
use Rattle.raid_record.specs.Keeps.{Stands}
use Rattle.raid_record.specs.Turns.{Asked}
use Rattle.raid_record.specs.Tells.{IsKept, Turns}

-- the tables noted the entry, and the history has it
pub kept_push : (w : Workload) (before after : Record) (e : Entry) → IsKept w before → Placeable w (noted before.history) e → after.history ≡ before.history ++ e ∷ [] → after.announced ≡ before.announced →
    Stands w after.graph after.locks after.waits after.nexts after.left (add (noted before.history) e) → IsKept w after
kept_push w before after e kept able history announced tables = record {
  placed = subst (λ (z : List Entry). Placed w z) (sym history) ((placed_push w before.history e).1 (kept.placed, able));
  tables =
      subst (λ (z : List Entry). Stands w after.graph after.locks after.waits after.nexts after.left (noted z)) (sym history)
      (subst (λ (p : List Noted). Stands w after.graph after.locks after.waits after.nexts after.left p) (sym (noted_push before.history e)) tables);
  sites = ap length announced ∙ kept.sites;
}

pub placed_turn : (w : Workload) (before after : Record) (sent more : List Out) (ask : ℕ) (e : Entry) → IsKept w after → after.history ≡ before.history ++ e ∷ [] → after.announced ≡ before.announced →
    ((out : List Copying) → ways.Stands before.copiers out → ways.Stands after.copiers (filter (λ c. not (ends_copying e c)) out)) →
    more ≡ sent ++ sends w (add (noted before.history) e) ask e → Turns w before sent after more (λ turn. place w ask turn e)
placed_turn w before after sent more ask e kept history announced copying outs turn o = record {
  state = record {
    kept = kept;
    history = history ∙ ap (λ (z : List Entry). z ++ e ∷ []) o.state.history;
    announced = announced ∙ o.state.announced;
    copying = copying turn.state.copying o.state.copying;
  };
  outs =
      outs ∙ ap (λ (p : List Noted). sent ++ sends w p ask e) (sym (noted_push before.history e))
      ∙ ap (λ (z : List Entry). sent ++ sends w (noted (z ++ e ∷ [])) ask e) o.state.history
      ∙ ap (λ (os : List Out). os ++ sends w (noted (turn.state.history ++ e ∷ [])) ask e) o.outs;
}

-- the copies that are due
abbrev pub due : Workload → List Noted → List Copying → List Copying
due w p out = flat_map (copies_due w p out) (filter (is_up w p) (sites w))

pub copies_turn : (w : Workload) (r : Record) (c : Copiers) (sent more : List Out) (v : List ℕ) → (IsKept w r → v ≡ vector w (noted r.history)) →
    (IsKept w r → (out : List Copying) → ways.Stands r.copiers out → Asked v c sent more out (due w (noted r.history) out)) → Turns w r sent (record r { copiers = c }) more (send_copies w)
copies_turn w r c sent more v is asked turn o =
    let k = o.state.kept in
    let out = turn.state.copying in
    let a = asked k out o.state.copying in
    record {
      state = record {
        kept = record { placed = k.placed; tables = k.tables; sites = k.sites };
        history = o.state.history;
        announced = o.state.announced;
        copying = subst (λ (z : List Entry). ways.Stands c (out ++ due w (noted z) out)) o.state.history a.copying;
      };
      outs =
          a.outs ∙ ap (λ u. sent ++ map (copy_out u) (due w (noted r.history) out)) (is k)
          ∙ ap (λ (z : List Entry). sent ++ map (copy_out (vector w (noted z))) (due w (noted z) out)) o.state.history
          ∙ ap (λ (os : List Out). os ++ map (copy_out (vector w (noted turn.state.history))) (due w (noted turn.state.history) out)) o.outs;
    }

-- the count of ends
pub ends_turn : (w : Workload) (r : Record) (sent more : List Out) (before : ℕ) → more ≡ sent ++ (if nat_lt before (ends (noted r.history)) then (0, 0, letters.Ends (ends (noted r.history))) ∷ [] else []) → Turns w r sent r more (send_ends before)
ends_turn w r sent more before e turn o = record {
  state = o.state;
  outs =
      e ∙ ap (λ (z : List Entry). sent ++ (if nat_lt before (ends (noted z)) then (0, 0, letters.Ends (ends (noted z))) ∷ [] else [])) o.state.history
      ∙ ap (λ (os : List Out). os ++ (if nat_lt before (ends (noted turn.state.history)) then (0, 0, letters.Ends (ends (noted turn.state.history))) ∷ [] else [])) o.outs;
}

-- an end of a session that is announced
pub announced_turn : (w : Workload) (r : Record) (ns : List ℕ) (sent : List Out) (s : Site) (n : ℕ) → length ns ≡ length r.announced →
    ns ≡ slice_set r.announced (s.0 - 1) (max n (slice_index r.announced (s.0 - 1))) → Turns w r sent (record r { announced = ns }) sent (λ turn. announce turn s n)
announced_turn w r ns sent s n size e turn o =
    let k = o.state.kept in
    record {
      state = record {
        kept = record { placed = k.placed; tables = k.tables; sites = size ∙ k.sites };
        history = o.state.history;
        announced = e ∙ ap (λ (z : List ℕ). slice_set z (s.0 - 1) (max n (slice_index z (s.0 - 1)))) o.state.announced;
        copying = o.state.copying;
      };
      outs = o.outs;
    }

-- a copy that is no longer under way
pub closed_turn : (w : Workload) (r : Record) (c : Copiers) (sent : List Out) (s : Site) (x : Item) → ((out : List Copying) → ways.Stands r.copiers out → ways.Stands c (filter (λ y. not (ways.is_to s x y)) out)) →
    Turns w r sent (record r { copiers = c }) sent (λ turn. close turn s x)
closed_turn w r c sent s x closed turn o =
    let k = o.state.kept in
    record {
      state = record {
        kept = record { placed = k.placed; tables = k.tables; sites = k.sites };
        history = o.state.history;
        announced = o.state.announced;
        copying = closed turn.state.copying o.state.copying;
      };
      outs = o.outs;
    }
