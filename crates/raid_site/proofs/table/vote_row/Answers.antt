use Rattle.std.proofs.Common.{ap, sym, ◌∙◌, ◌==◌, ◌≡◌, true, if◌then◌else◌, subst}
use Rattle.std.proofs.lemmas.Bool.{eq-eqb}
use Rattle.raid_base.specs.Sites.{session}
use Rattle.raid_steps.specs.Programs.{change, without_vote}
use Rattle.raid_steps.specs.Site as steps
use Rattle.raid_vote.specs.Ballots.{Held, without}
use Rattle.raid_site.specs.declared.parts.Parts.{Parts}
use Rattle.raid_site.specs.Whole.{turn, IsWhole}
use Rattle.raid_site.proofs.Rows.{voted}
use Rattle.raid_site.proofs.Fitting.{changed_whole}
use Rattle.raid_site.proofs.table.vote_row.Goals as goal

pub returns-then-session-clause-ok : goal.returns-then-session-clause-ok
returns-then-session-clause-ok c =
    let p = c.args.parts.now in
    let before = turn p c.args.outs.now in
    let test : (session p.vector c.args.site == c.args.session) ≡ true = eq-eqb (session p.vector c.args.site) c.args.session (sym c.session.ensures ∙ c.if-session.true) in
    ap (λ (h : Held). let z : Parts = record p { ballots = h } in turn z c.args.outs.now) c.vote.ensures
    ∙ voted p c.args.outs.now c.args.txn c.args.site (c.ascends.ensures c.requires.live.live)
    ∙ sym (ap (steps.vote_row before c.args.txn c.args.site c.args.session) c.in-Yes.is ∙ ap (λ b. if b then change before c.args.txn (without_vote c.args.site) else before) test)

pub returns-then-session-clause-whole : goal.returns-then-session-clause-whole
returns-then-session-clause-whole c =
    let p = c.args.parts.now in
    let w = c.args.workload.now in
    subst (λ (h : Held). IsWhole w (record p { ballots = h })) (sym c.vote.ensures) (changed_whole w p c.args.txn (without c.args.site) c.requires.whole)
