use Rattle.std.proofs.Common.{◌∙◌, ap, sym, map, option_map}
use Rattle.std.specs.String.{string_bytes}
use Rattle.clap.specs.Words.{app_of, found_of, rows_of}
use Rattle.raid_command.specs.Options.{made_from}
use Rattle.raid_command.proofs.Made.{make_found, make_refused}
use Rattle.raid_command.proofs.reader.make.Goals as goal

pub returns-in_default : goal.returns-in_default
returns-in_default c =
    let read = sym (ap (option_map (λ m. rows_of (found_of m))) c.in_default.is) ∙ c.in_ok-matches.ensures in
    make_refused (app_of c.in_ok-of_make.field-0) (map string_bytes c.args.words.now) read c.in_ok-of_make.ensures c.requires

pub returns : goal.returns
returns c =
    let read = sym (ap (option_map (λ m. rows_of (found_of m))) c.in-Some.is) ∙ c.in_ok-matches.ensures in
    let found = make_found (found_of c.in-Some.matches) (app_of c.in_ok-of_make.field-0) (map string_bytes c.args.words.now) read c.in_ok-of_make.ensures c.requires in
    c.made.ensures ∙ (λ i. made_from (c.get_str.ensures i) (c.get_str-2.ensures i)) ∙ found
