use Rattle.std.proofs.Common.{◌∷◌, [], codes, map}
use Rattle.std.specs.List.{flat_map}
use Rattle.raid_text.specs.Said.{said}
use Rattle.raid_text.specs.Spelling.{version_words, sites_words, restarts_lines, item_words, open_words, switch_words, event_words, program_lines, spelling}
use Rattle.raid_text.proofs.Items.{items_all}
use Rattle.raid_text.proofs.Spaced.{parts}
use Rattle.raid_text.proofs.States.{rules_of}
use Rattle.raid_text.proofs.writing.put_workload.Goals as goal

pub put_items-requires-clause-items : goal.put_items-requires-clause-items
put_items-requires-clause-items c =
    let w = c.args.workload.now in
    let rules = rules_of (said w) w.kept in
    rw c.as_slice.ensures (items_all w.sites w.items rules.items)

pub returns : goal.returns
unfolding spelling
returns c =
    let w = c.args.workload.now in
    let e1 = c.in_ok-put_head.ensures in
    let e2 = rw c.as_slice.ensures at c.in_ok-put_items.ensures in
    let e3 = c.in_ok-open_line.ensures in
    let e4 = rw c.as_slice-2.ensures at c.in_ok-put_switches.ensures in
    let e5 = rw c.as_slice-3.ensures at c.in_ok-put_events.ensures in
    let e6 = rw (c.as_slice-4.ensures, c.as_slice-5.ensures) at c.in_ok-put_programs.ensures in
    let e7 = c.in_ok-push_all.ensures.ok in
    rw (e7, e6, e5, e4, e3, e2, e1) (parts c.args.out.now (version_words w.version) (sites_words w.sites w.together) (restarts_lines w.version w.restarts) (map item_words w.items) (open_words w.kind w.structure) (map switch_words w.switches) (map event_words w.events) (flat_map (program_lines w.items) w.programs) (codes "done" ∷ []))
