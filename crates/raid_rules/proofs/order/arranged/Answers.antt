use Rattle.std.proofs.Common.{sym, ap, ◌∙◌}
use Rattle.std.specs.Prelude.{find}
use Rattle.raid_rules.proofs.Txns.{out, none_out}
use Rattle.raid_rules.proofs.Listing.{left_stuck}
use Rattle.raid_rules.proofs.order.arranged.Goals as goal

pub cycle-requires-clause-stuck : goal.cycle-requires-clause-stuck
cycle-requires-clause-stuck c =
    (left_stuck c.args.pairs.now c.args.all.now c.as_slice-in-Some.result.now c.in-Some.start (c.as_slice-in-Some.ensures ∙ c.in_ok-listed.ensures)
    (ap (λ l. find (out l) c.args.all.now) (c.as_slice-in-Some.ensures ∙ sym c.as_slice.ensures) ∙ sym c.in-Some.ensures)).0

pub cycle-requires-clause-committed : goal.cycle-requires-clause-committed
cycle-requires-clause-committed c =
    (left_stuck c.args.pairs.now c.args.all.now c.as_slice-in-Some.result.now c.in-Some.start (c.as_slice-in-Some.ensures ∙ c.in_ok-listed.ensures)
    (ap (λ l. find (out l) c.args.all.now) (c.as_slice-in-Some.ensures ∙ sym c.as_slice.ensures) ∙ sym c.in-Some.ensures)).1

pub cycle-requires-clause-unlisted : goal.cycle-requires-clause-unlisted
cycle-requires-clause-unlisted c =
    (left_stuck c.args.pairs.now c.args.all.now c.as_slice-in-Some.result.now c.in-Some.start (c.as_slice-in-Some.ensures ∙ c.in_ok-listed.ensures)
    (ap (λ l. find (out l) c.args.all.now) (c.as_slice-in-Some.ensures ∙ sym c.as_slice.ensures) ∙ sym c.in-Some.ensures)).2

pub returns-in-None : goal.returns-in-None
returns-in-None c = (c.in_ok-listed.ensures, none_out c.in_ok-listed.listed c.args.all.now (ap (λ l. find (out l) c.args.all.now) (sym c.as_slice.ensures) ∙ sym c.in-None.ensures))
