-- The options behind the first word, as `clap` reads them.
use Rattle.std.specs.Prelude.{Bool, List, [], codes, true, Option, Some, None, if◌then◌else◌}
use Rattle.std.specs.List.{list_any}
use Rattle.std.specs.Str.{bytes_eq}
use Rattle.clap.specs.Walk.{Row, Rule, is_empty}
use Rattle.clap.specs.Simple.{App, matches_of, new_app, new_rule, with_rule}
use Rattle.clap.specs.Faults.{fault_of}
use Rattle.clap.specs.declared.builder.action.ArgAction.TheVariants.{SetTrue}
use Rattle.raid_command.specs.Asked.{Word, advised, made}
use Rattle.raid_command.specs.declared.asked.Command.{Command}

-- a command with no option, not even `--help`, whose words begin behind the program's name
abbrev pub bare : Word → App
bare name = record { top = record (new_app name).top { no_binary_name = true; disable_help_flag = true }; subs = [] }

-- `--brief`, a flag
abbrev pub brief_rule : Rule
brief_rule = record (new_rule (codes "brief")) { long = Some (codes "brief"); action = Some SetTrue }

-- `--name value`, which may not be missing
abbrev pub needed_rule : Word → Rule
needed_rule name = record (new_rule name) { long = Some name; required = true }

-- what may follow `run`
abbrev pub run_app : App
run_app = with_rule (bare (codes "run")) brief_rule

-- what has to follow `make`
abbrev pub make_app : App
make_app = with_rule (with_rule (bare (codes "make")) (needed_rule (codes "seed"))) (needed_rule (codes "count"))

-- what has to follow `advise`
abbrev pub advise_app : App
advise_app = with_rule (bare (codes "advise")) (needed_rule (codes "last"))

-- what `clap` finds in the words, or None where it refuses them
abbrev pub rows_read : App → List Word → Option (List Row)
rows_read app words = if is_empty (fault_of app words) then Some (matches_of app words) else None

-- a word is `--`
abbrev pub has_end_of_options : List Word → Bool
has_end_of_options = list_any (λ word. bytes_eq word (codes "--"))

-- what the values that were found ask for
abbrev pub made_from : Option Word → Option Word → Option Command
made_from (Some seed) (Some count) = made seed count
made_from (Some seed) None = None
made_from None count = None

-- what the value that was found asks for
abbrev pub advised_from : Option Word → Option Command
advised_from (Some last) = advised last
advised_from None = None
