use Rattle.std.proofs.Common.{◌≡◌, true, arith, ap, sym, ◌∙◌}
use Rattle.std.proofs.lemmas.Grind.{common_steps}
use Rattle.raid_base.specs.declared.names.Site.{Site}
use Rattle.raid_record.proofs.Rules.{from_one, home_among}
use Rattle.raid_check.proofs.tables.Tables.may_begin.Goals as goal

pub is_next-requires-clause-least : goal.is_next-requires-clause-least
is_next-requires-clause-least c =
    let known : c.is_known.result ≡ true = grind (arith, common_steps, c.if-not-is_known.false) in
    omega (arith, (home_among c.args.workload.now c.args.txn (sym c.is_known.ensures ∙ known)).least, ap (λ (s : Site). s.0) c.home-home.ensures)

pub is_next-requires-clause-most : goal.is_next-requires-clause-most
is_next-requires-clause-most c =
    let known : c.is_known.result ≡ true = grind (arith, common_steps, c.if-not-is_known.false) in
    omega (arith, (home_among c.args.workload.now c.args.txn (sym c.is_known.ensures ∙ known)).most, ap (λ (s : Site). s.0) c.home-home.ensures)

pub is_next-requires-clause-counted : goal.is_next-requires-clause-counted
is_next-requires-clause-counted c =
    let known : c.is_known.result ≡ true = grind (arith, common_steps, c.if-not-is_known.false) in
    from_one c.args.workload.now c.args.txn (sym c.is_known.ensures ∙ known)
