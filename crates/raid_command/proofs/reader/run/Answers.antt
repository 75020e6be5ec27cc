use Rattle.std.proofs.Common.{◌∙◌, ap, sym, map, option_map}
use Rattle.std.specs.String.{string_bytes}
use Rattle.clap.specs.Words.{app_of, found_of, rows_of}
use Rattle.raid_command.proofs.Ran.{run_found, run_refused}
use Rattle.raid_command.proofs.reader.run.Goals as goal

pub returns-in_default : goal.returns-in_default
returns-in_default c =
    let read = sym (ap (option_map (λ m. rows_of (found_of m))) c.in_default.is) ∙ c.in_ok-matches.ensures in
    run_refused (app_of c.in_ok-of_run.field-0) (map string_bytes c.args.words.now) read c.in_ok-of_run.ensures c.requires

pub returns : goal.returns
returns c =
    let read = sym (ap (option_map (λ m. rows_of (found_of m))) c.in-Some.is) ∙ c.in_ok-matches.ensures in
    run_found (found_of c.in-Some.matches) c.get_flag-brief.result (app_of c.in_ok-of_run.field-0) (map string_bytes c.args.words.now) read c.in_ok-of_run.ensures c.requires c.get_flag-brief.ensures.value c.get_flag-brief.ensures.other
