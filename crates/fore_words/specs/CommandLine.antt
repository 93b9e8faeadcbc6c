-- The command line of the program, as `clap` reads it: one command with three subcommands, which are its commands.
use Rattle.std.specs.Prelude.{true, false, List, [], ◌∷◌, ◌++◌, map, Some, codes}
use Rattle.clap.specs.Words.{Text, Rule, Shape, App, new_rule, new_app}
use Rattle.clap.specs.declared.builder.action.ArgAction.TheVariants.{Set, SetTrue}

-- a word that a command wants in its place
abbrev pub place_rule : Text → Rule
place_rule name = record (new_rule name) { required = true; action = Some Set }

-- an option that takes one value, `--name value` or `--name=value`, at most once
abbrev pub option_rule : Text → Rule
option_rule name = record (new_rule name) { long = Some name; action = Some Set }

-- an option without a value, `--name`, at most once
abbrev pub flag_rule : Text → Rule
flag_rule name = record (new_rule name) { long = Some name; action = Some SetTrue }

-- a command of this name, with these places, options and flags
abbrev pub command_shape : Text → List Text → List Text → List Text → Shape
command_shape name places options flags = record (new_app name).top {
  rules = map place_rule places ++ (map option_rule options ++ map flag_rule flags);
}

abbrev pub verify_shape : Shape
verify_shape =
    command_shape (codes "verify") (codes "FILE" ∷ [])
    (codes "boxes" ∷ codes "height" ∷ codes "steps" ∷ codes "jobs" ∷ []) (codes "malloc-null" ∷ [])

abbrev pub run_shape : Shape
run_shape =
    command_shape (codes "run") (codes "FILE" ∷ []) (codes "choices" ∷ codes "steps" ∷ [])
    (codes "malloc-null" ∷ [])

abbrev pub gen_shape : Shape
gen_shape = command_shape (codes "gen") (codes "KIND" ∷ codes "N" ∷ []) [] []

-- the words are those behind the program's name, the first of them names a command, and there is no word or flag for
-- help or a version
abbrev pub top_shape : Shape
top_shape = record (new_app (codes "forester")).top {
  is_leaf = false;
  no_binary_name = true;
  disable_help_flag = true;
  disable_help_subcommand = true;
  disable_version_flag = true;
  subcommand_required = true;
}

abbrev pub the_app : App
the_app = record { top = top_shape; subs = verify_shape ∷ run_shape ∷ gen_shape ∷ [] }
