use Rattle.std.proofs.Common.{ℕ, ℤ, List, not, ap, ◌∙◌}
use Rattle.raid_base.specs.declared.names.Item.{Item}
use Rattle.raid_base.specs.declared.names.Site.{Site}
use Rattle.raid_workload.specs.Parts.{sites}
use Rattle.raid_legal.specs.Seen.{vector, holds_some, up_holders}
use Rattle.raid_session.specs.Agreed.{agree}
use Rattle.raid_decide.proofs.Up.{differ_where_not_agreed}
use Rattle.raid_decide.proofs.sites.is_stale.Goals as goal

pub returns : goal.returns
returns c = λ p e.
    ap not c.agrees.ensures
    ∙ ap (λ (ss : List Site). not (agree c.args.request.now.under c.args.vector ss)) (c.up_holders-up.ensures p e)
    ∙ ap (λ (writes : List (Item × ℤ)). not (agree c.args.request.now.under c.args.vector (up_holders c.args.workload.now p writes))) c.as_slice.ensures
    ∙ ap (λ (v : List ℕ). not (agree c.args.request.now.under v (up_holders c.args.workload.now p c.args.request.now.writes))) e
    ∙ differ_where_not_agreed (vector c.args.workload.now p) c.args.request.now.under (holds_some c.args.workload.now c.args.request.now.writes) (sites c.args.workload.now)
