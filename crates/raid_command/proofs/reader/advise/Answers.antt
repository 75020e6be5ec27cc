use Rattle.std.proofs.Common.{◌∙◌, ap, sym, map, option_map}
use Rattle.std.specs.String.{string_bytes}
use Rattle.clap.specs.Words.{app_of, found_of, rows_of}
use Rattle.raid_command.specs.Options.{advised_from}
use Rattle.raid_command.proofs.Advised.{advise_found, advise_refused}
use Rattle.raid_command.proofs.reader.advise.Goals as goal

pub returns-in_default : goal.returns-in_default
returns-in_default c =
    let read = sym (ap (option_map (λ m. rows_of (found_of m))) c.in_default.is) ∙ c.in_ok-matches.ensures in
    advise_refused (app_of c.in_ok-of_advise.field-0) (map string_bytes c.args.words.now) read c.in_ok-of_advise.ensures c.requires

pub returns : goal.returns
returns c =
    let read = sym (ap (option_map (λ m. rows_of (found_of m))) c.in-Some.is) ∙ c.in_ok-matches.ensures in
    let found = advise_found (found_of c.in-Some.matches) (app_of c.in_ok-of_advise.field-0) (map string_bytes c.args.words.now) read c.in_ok-of_advise.ensures c.requires in
    c.advised.ensures ∙ ap advised_from c.get_str.ensures ∙ found
