use Rattle.std.proofs.Common.{◌==◌, List, length, true≢false, ap, sym, ◌∙◌}
use Rattle.raid_base.specs.declared.names.Txn.{Txn}
use Rattle.raid_placed.proofs.Sent.{legal_placed}
use Rattle.raid_placed.proofs.Listed.{placed_running_list}
use Rattle.raid_check.proofs.Judged.{none_iff, none_left}
use Rattle.raid_check.proofs.rest.is_quiet.Goals as goal

pub returns-then-not-is_empty : goal.returns-then-not-is_empty
returns-then-not-is_empty c =
    let w = c.args.workload.now in
    let h = c.args.tables.now.history in
    let list = placed_running_list w h c.running-running.result.now (legal_placed w h c.requires.legal) c.running-running.ensures.has c.running-running.ensures.ascends in
    none_iff (λ q. true≢false (sym (c.is_empty.ensures ∙ ap (λ (ts : List Txn). length ts == 0) (list ∙ q.ended)) ∙ c.if-not-is_empty.true))

pub returns : goal.returns
returns c =
    let w = c.args.workload.now in
    let h = c.args.tables.now.history in
    let list = placed_running_list w h c.running-running.result.now (legal_placed w h c.requires.legal) c.running-running.ensures.has c.running-running.ensures.ascends in (
      λ t. record {
        ended = sym list ∙ none_left c.running-running.result.now (sym c.is_empty.ensures ∙ c.if-not-is_empty.false);
        served = sym c.are_served.ensures ∙ c.if-not-are_served.false;
        settled = sym c.are_settled.ensures ∙ t;
        acked = sym c.is_any_owed.ensures ∙ c.if-is_any_owed.false;
      },
      λ q. c.are_settled.ensures ∙ q.settled,
    )
