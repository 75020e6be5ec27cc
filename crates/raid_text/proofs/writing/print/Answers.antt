use Rattle.std.proofs.Common.{◌≡◌, sym}
use Rattle.raid_text.specs.Spelling.{spelling, print_of}
use Rattle.raid_text.proofs.Spaced.{text_is}
use Rattle.raid_text.proofs.Whole.{print_reads}
use Rattle.raid_text.proofs.writing.print.Goals as goal

pub returns-clause-text : goal.returns-clause-text
returns-clause-text c = rw (c.in_ok-put_workload.ensures, c.new-out.ensures) (sym (text_is (spelling c.args.workload.now)))

pub returns-clause-reads : goal.returns-clause-reads
returns-clause-reads c =
    let e : c.put_workload.new.out ≡ print_of c.args.workload.now = rw (c.in_ok-put_workload.ensures, c.new-out.ensures) (sym (text_is (spelling c.args.workload.now))) in
    rw e (print_reads c.args.workload.now)
