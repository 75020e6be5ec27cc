use Rattle.std.proofs.Common.{◌≡◌, ◌+◌, [], ◌∷◌, ◌++◌, length, refl, arith, ap, sym, subst, ◌∙◌}
use Rattle.raid_base.specs.declared.entry.Noted.{Noted}
use Rattle.raid_workload.specs.Parts.{placement}
use Rattle.raid_rules.specs.History.{noted, next, stamp_at}
use Rattle.raid_history.proofs.Stand.{length_noted}
use Rattle.raid_conflict.specs.Listed.{noted_as, Extends}
use Rattle.raid_conflict.specs.Live as graphs
use Rattle.raid_record.proofs.Placing.{stands_push}
use Rattle.raid_record.proofs.records.Record.note.Goals as goal

pub returns-clause-tables : goal.returns-clause-tables
returns-clause-tables c =
    let w = c.args.workload.now in
    let p = noted c.args.self.now.history in
    let e = c.args.entry.now in
    let k = c.len-number.result + 1 in
    let o = c.requires.tables in
    let number : k ≡ length p + 1 = omega (arith, c.len-number.ensures, length_noted c.args.self.now.history) in
    let same : noted_as k c.stamp_of-stamp.result e ≡ next p e = ap (λ s. noted_as k s e) c.stamp_of-stamp.ensures ∙ ap (λ j. noted_as j (stamp_at p j e) e) number in
    let graph = c.in_ok-note.ensures.ok p o.graph (subst (λ (n : Noted). Extends p n) (sym same) c.requires.suits.extends) in
    stands_push w p e _ _ _ _ _ _ _ _ _ _ o c.requires.suits (subst (λ (n : Noted). graphs.Stands c.note.new.self (p ++ n ∷ [])) same graph)
    (c.in_ok-note-2.ensures.ok w.sites (placement w) p (next p e) refl o.locks)
    c.in_ok-turn_waits.ensures.ok
    (c.turn_nexts.ensures o.nexts)
    c.in_ok-turn_left.ensures
