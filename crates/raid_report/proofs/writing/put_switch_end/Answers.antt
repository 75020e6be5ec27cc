use Rattle.std.proofs.Common.{append_assoc}
use Rattle.std.proofs.lemmas.List.{append-nil}
use Rattle.raid_report.proofs.writing.put_switch_end.Goals as goal

pub returns : goal.returns
returns c = simp append-nil (simp (c.in_ok-put_word.ensures, c.from.ensures, append_assoc) at c.put_number.ensures)
