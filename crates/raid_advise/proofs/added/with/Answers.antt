use Rattle.std.proofs.Common.{ap, ◌++◌, ◌∷◌, [], ◌∙◌}
use Rattle.raid_workload.specs.declared.workload.Switch.{Switch}
use Rattle.raid_advise.proofs.Kept.{parts_kept}
use Rattle.raid_advise.proofs.added.with.Goals as goal

pub invariant_of-result : goal.invariant_of-result
invariant_of-result c =
    let s : Switch = record { kind = c.args.kind; method = c.args.method; trigger = c.args.after } in
    record {
      kept = parts_kept c.args.workload.now s c.in_ok-items.items c.push.new.self c.in_ok-events.events c.in_ok-programs.programs c.requires
          c.in_ok-items.ensures (c.in_ok-push.ensures.ok ∙ ap (λ ss. ss ++ s ∷ []) c.in_ok-switches.ensures) c.in_ok-events.ensures c.in_ok-programs.ensures;
    }
