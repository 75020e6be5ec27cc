use Rattle.std.proofs.Common.{rules, refl}
use Rattle.raid_base.specs.declared.entry.Entry.TheVariants.{Commit, Down}
use Rattle.raid_record.proofs.Grown.{copying_plain, copying_turned}
use Rattle.raid_record.proofs.notes.turn_copiers.Goals as goal

pub returns-in-Commit : goal.returns-in-Commit
returns-in-Commit c = λ out stands.
    copying_turned c.renewed.new.self c.args.entry.now (Commit c.in-Commit.txn c.in-Commit.request c.in-Commit.applied) out c.in-Commit.is
    (c.renewed.ensures out c.in-Commit.txn c.in-Commit.request refl stands)

pub returns-in-Down : goal.returns-in-Down
returns-in-Down c = λ out stands. copying_turned c.lost.new.self c.args.entry.now (Down c.in-Down.site) out c.in-Down.is (c.lost.ensures out stands)

pub returns-in_default : goal.returns-in_default
returns-in_default c = λ out stands. copying_plain c.args.copiers.now c.args.entry.now out (search rules) stands
