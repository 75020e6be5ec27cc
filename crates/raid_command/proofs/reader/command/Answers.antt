use Rattle.std.proofs.Common.{◌∙◌, ap, map, sym}
use Rattle.std.specs.String.{string_bytes}
use Rattle.raid_command.specs.Asked.{command_of}
use Rattle.raid_command.proofs.Ended.{command_ended}
use Rattle.raid_command.proofs.reader.command.Goals as goal

pub returns-then-has_end_of_options : goal.returns-then-has_end_of_options
returns-then-has_end_of_options c =
    let others = map string_bytes c.in-Some.others.now in
    let ended = sym c.has_end_of_options.ensures ∙ c.if-has_end_of_options.true in
    let words = sym c.as_slice.ensures ∙ ap (map string_bytes) c.in-Some.ensures.cases.0 in
    sym (ap command_of words ∙ command_ended (string_bytes c.in-Some.first.now) others ended)
