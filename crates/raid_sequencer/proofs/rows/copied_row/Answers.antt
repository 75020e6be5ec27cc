use Rattle.std.proofs.Common.{◌==◌, ◌&&◌, Some, None, if◌then◌else◌}
use Rattle.raid_base.specs.declared.entry.Entry.TheVariants.{Clear}
use Rattle.raid_rules.specs.History.{version}
use Rattle.raid_legal.specs.Seen.{is_locked}
use Rattle.raid_steps.specs.Sequencer.{so_far, place_if}
use Rattle.raid_sequencer.proofs.rows.copied_row.Goals as goal

pub returns-clause-turns : goal.returns-clause-turns
returns-clause-turns g c =
    let w = c.args.workload.now in
    let s = c.args.site in
    let x = c.args.item in
    let v = c.args.version in
    λ turn o. c.close_copy.ensures.turns c.clear.new.outs (place_if w 0 turn (if is_locked w (so_far turn) s x && v == version (so_far turn) x then Some (Clear s x v) else None)) (c.in_ok-clear.ensures.turns turn o)
