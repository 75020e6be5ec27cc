use Rattle.std.proofs.Common.{◌≡◌, ◌+◌, [], ◌∷◌, ◌++◌, length, refl, arith, ap, sym, subst, ◌∙◌}
use Rattle.raid_base.specs.declared.entry.Noted.{Noted}
use Rattle.raid_workload.specs.Parts.{placement}
use Rattle.raid_rules.specs.History.{noted, next, stamp_at}
use Rattle.raid_history.proofs.Stand.{length_noted, on_ok}
use Rattle.raid_conflict.specs.Listed.{noted_as, Extends}
use Rattle.raid_conflict.specs.Live as graphs
use Rattle.raid_record.proofs.Placing.{stands_push}
use Rattle.raid_seen.proofs.Pushed.{values_push, readings_push, outages_push}
use Rattle.raid_check.proofs.Kept.{few_downs, few_ups}
use Rattle.raid_check.proofs.tables.Tables.keep.Goals as goal

pub turn-requires-clause-downs : goal.turn-requires-clause-downs
turn-requires-clause-downs c = λ s. few_downs c.args.self.now.outages c.args.self.now.history s c.requires.of.outages c.requires.short

pub turn-requires-clause-ups : goal.turn-requires-clause-ups
turn-requires-clause-ups c = λ s. few_ups c.args.self.now.outages c.args.self.now.history s c.requires.of.outages c.requires.short

pub returns-clause-kept : goal.returns-clause-kept
returns-clause-kept c =
    let w = c.args.workload.now in
    let p = noted c.args.self.now.history in
    let e = c.args.entry.now in
    let k = c.len-number.result + 1 in
    let o = c.requires.of.kept in
    let number : k ≡ length p + 1 = omega (arith, c.len-number.ensures, length_noted c.args.self.now.history) in
    let same : noted_as k c.stamp_of-stamp.result e ≡ next p e = ap (λ s. noted_as k s e) c.stamp_of-stamp.ensures ∙ ap (λ j. noted_as j (stamp_at p j e) e) number in
    let graph = c.in_ok-note.ensures.ok p o.graph (subst (λ (n : Noted). Extends p n) (sym same) c.requires.suits.extends) in
    on_ok c.turn-3.result (λ turned. stands_push w p e _ _ _ _ _ _ _ _ _ _ o c.requires.suits (subst (λ (n : Noted). graphs.Stands c.note.new.self (p ++ n ∷ [])) same graph)
    (c.in_ok-note-2.ensures.ok w.sites (placement w) p (next p e) refl o.locks)
    c.in_ok-turn_waits.ensures.ok
    (c.turn_nexts.ensures o.nexts)
    c.in_ok-turn_left.ensures) c.turn-3.ensures

pub returns-clause-values : goal.returns-clause-values
returns-clause-values c =
    on_ok c.turn-3.result (λ turned. values_push c.args.workload.now c.args.self.now.values _ (noted c.args.self.now.history) c.args.entry.now turned c.requires.of.values) c.turn-3.ensures

pub returns-clause-readings : goal.returns-clause-readings
returns-clause-readings c =
    let h = c.args.self.now.history in
    let number : c.len-number.result + 1 ≡ length (noted h) + 1 = omega (arith, c.len-number.ensures, length_noted h) in
    on_ok c.turn-3.result (λ turned. readings_push c.args.workload.now c.args.self.now.values c.args.self.now.readings _ (noted h) c.args.entry.now (c.len-number.result + 1) number c.requires.of.values
    c.in_ok-turn-2.ensures.answers c.in_ok-turn-2.ensures.latest c.requires.of.readings) c.turn-3.ensures

pub returns-clause-outages : goal.returns-clause-outages
returns-clause-outages c =
    let h = c.args.self.now.history in
    let number : c.len-number.result + 1 ≡ length (noted h) + 1 = omega (arith, c.len-number.ensures, length_noted h) in
    on_ok c.turn-3.result (λ turned. outages_push c.args.self.now.outages _ (noted h) c.args.entry.now (c.len-number.result + 1) number c.in_ok-turn.ensures c.requires.of.outages) c.turn-3.ensures
