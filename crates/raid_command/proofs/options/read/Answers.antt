use Rattle.std.proofs.Common.{◌∙◌, sym, ap, map, Some}
use Rattle.std.specs.String.{string_bytes}
use Rattle.clap.specs.Words.{app_of, is_simple}
use Rattle.clap.specs.Simple.{matches_of}
use Rattle.clap.proofs.WalkLemmas.{both}
use Rattle.raid_command.proofs.Walks.{found_when}
use Rattle.raid_command.proofs.options.read.Goals as goal

pub returns-in-Ok : goal.returns-in-Ok
returns-in-Ok c =
    let app = app_of c.args.command in
    let words = map string_bytes c.args.words.now in
    let simple = (both (is_simple app) _ c.requires).0 in
    ap (λ rows. Some rows) (c.in-Ok.ensures.matches simple).0 ∙ sym (ap (λ k. found_when k (matches_of app words)) (c.in-Ok.ensures.kinds c.requires))
