use Rattle.std.proofs.Common.{◌≡◌, ap, sym, arith, ◌∙◌, List, Some, None}
use Rattle.raid_base.specs.declared.entry.Entry.{Entry}
use Rattle.raid_rules.specs.History.{noted}
use Rattle.raid_legal.specs.Seen.{is_up}
use Rattle.raid_legal.specs.Forced.{forced}
use Rattle.raid_sequencer.specs.Extent.{extent}
use Rattle.raid_sequencer.proofs.Stood.{settle_before, settle_none, forced_still}
use Rattle.raid_sequencer.proofs.parts.Parts.settle.Goals as goal

pub loop-entry-preserved : goal.loop-entry-preserved
loop-entry-preserved g c =
    let w = c.args.workload.now in
    let asked = c.forced.new.self.record in
    let same = ap (λ (h : List Entry). forced w (noted h)) c.forced.ensures.history in
    let must : forced w (noted asked.history) ≡ Some c.in-Some.entry = same ∙ sym c.in_ok-entry.ensures.is ∙ c.in-Some.is in
    record {
      kept = c.in_ok-place_forced.ensures.kept;
      extent = let length = ap (λ (h : List Entry). extent w h) c.forced.ensures.history in omega (arith, length, c.in_ok-place_forced.ensures.extent, c.loop-entry.invariant.extent);
      still = λ s. ap (λ (h : List Entry). is_up w (noted h) s) c.in_ok-place_forced.ensures.placed ∙ forced_still w asked.history c.in-Some.entry s must ∙ ap (λ (h : List Entry). is_up w (noted h) s) c.forced.ensures.history ∙ c.loop-entry.invariant.still s;
      settles = λ after more rest. c.loop-entry.invariant.settles after more
          (λ turn o. settle_before w asked c.place_forced.new.self.record after c.loop-entry.outs c.place_forced.new.outs more c.in-Some.entry c.forced.ensures.kept.kept must c.in_ok-place_forced.ensures.turns rest turn
          (c.forced.ensures.turns c.loop-entry.outs turn o));
    }

pub returns-clause-turns : goal.returns-clause-turns
returns-clause-turns g c =
    let w = c.args.workload.now in
    let asked = c.forced.new.self.record in
    let same = ap (λ (h : List Entry). forced w (noted h)) c.forced.ensures.history in
    let none : forced w (noted asked.history) ≡ None = same ∙ sym c.in_ok-entry.ensures.is ∙ c.in_default.is in
    c.loop-entry.invariant.settles asked c.loop-entry.outs (λ turn o. settle_none w asked c.loop-entry.outs none turn (c.forced.ensures.turns c.loop-entry.outs turn o))
