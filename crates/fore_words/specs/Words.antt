-- What the words of the command line ask.
use Rattle.std.specs.Prelude.{◌≡◌, ◌≤◌, ℕ, List, [], Option, Some, String, map, option_map, codes, string_bytes}
use Rattle.std.specs.Option.{option_map_or}
use Rattle.std.specs.declared.alloc.Global.{Global}
use Rattle.clap.specs.Words.{Text, Row, fault_of, subcommand_of, first_of}
use Rattle.c_types.specs.declared.mode.MallocMode.{MallocMode}
use Rattle.fore_words.specs.declared.asked.TheConstants.{
  HEIGHT,
  MOST_HEIGHT,
  BUDGET,
  MOST_BUDGET,
  JOBS,
  MOST_JOBS,
  RUN_STEPS,
  MOST_PHASES,
}
use Rattle.fore_words.specs.declared.asked.Settings.{Settings}
use Rattle.fore_words.specs.declared.asked.Kind.{Kind}
use Rattle.fore_words.specs.declared.asked.Asked.{Asked}
use Rattle.fore_words.specs.declared.asked.Asked.TheVariants.{Verify, Run, Gen}
use Rattle.fore_words.specs.CommandLine.{the_app}
use Rattle.fore_words.specs.Values.{IsNumber, IsChoices, IsKind, IsMode, Reads, IsOption}

-- the bytes of each word
abbrev pub texts : List (String Global) → List Text
texts = map (λ word. string_bytes word)

-- `clap` takes the words, and they name this command
pub record IsCommand (words : List Text) (name : Text) : Type 0 where
  pub taken : fault_of the_app words ≡ []
  pub named : option_map (λ command. command.0) (subcommand_of the_app words) ≡ Some name

-- what the words give the command that they name: rows of a name and its values
abbrev pub given_in : List Text → List Row
given_in words = option_map_or (λ command. command.1) (subcommand_of the_app words) []

-- the settings that were given
pub record AreSettings (given : List Row) (settings : Settings) : Type 0 where
  pub height : IsOption (IsNumber MOST_HEIGHT) HEIGHT (first_of (codes "height") given) settings.height
  pub budget : IsOption (IsNumber MOST_BUDGET) BUDGET (first_of (codes "steps") given) settings.budget
  pub jobs : IsOption (IsNumber MOST_JOBS) JOBS (first_of (codes "jobs") given) settings.jobs
  pub malloc : IsMode (first_of (codes "malloc-null") given) settings.malloc

-- what was given is a file to verify, a file of boxes or none, and settings
pub record IsVerify (given : List Row) (path : Text) (boxes : Option Text) (settings : Settings) : Type 0 where
  pub file : first_of (codes "FILE") given ≡ Some path
  pub box_file : first_of (codes "boxes") given ≡ boxes
  pub how : AreSettings given settings

-- what was given is a file to run, the choices that it takes, how many steps at most, and what `malloc` may answer
pub record IsRun (given : List Row) (path : Text) (choices : List ℕ) (steps : ℕ) (malloc : MallocMode) : Type 0 where
  pub file : first_of (codes "FILE") given ≡ Some path
  pub listed : IsOption IsChoices [] (first_of (codes "choices") given) choices
  pub counted : IsOption (IsNumber RUN_STEPS) RUN_STEPS (first_of (codes "steps") given) steps
  pub mode : IsMode (first_of (codes "malloc-null") given) malloc

-- what was given is a kind of generated programs, and how many phases the program has
pub record IsGen (given : List Row) (kind : Kind) (phases : ℕ) : Type 0 where
  pub named : Reads IsKind (first_of (codes "KIND") given) kind
  pub counted : Reads (IsNumber MOST_PHASES) (first_of (codes "N") given) phases

-- the words ask to verify the file of this path, with these boxes and settings
abbrev pub AsksToVerify : List Text → Text → Option Text → Settings → Type 0
AsksToVerify words path boxes settings =
    IsCommand words (codes "verify") × IsVerify (given_in words) path boxes settings

-- the words ask to run the file of this path
abbrev pub AsksToRun : List Text → Text → List ℕ → ℕ → MallocMode → Type 0
AsksToRun words path choices steps malloc =
    IsCommand words (codes "run") × IsRun (given_in words) path choices steps malloc

-- the words ask for a generated program
abbrev pub AsksToGen : List Text → Kind → ℕ → Type 0
AsksToGen words kind phases = IsCommand words (codes "gen") × IsGen (given_in words) kind phases

-- the words ask this
abbrev pub IsAsked : List Text → Asked → Type 0
IsAsked words (Verify path boxes settings) = AsksToVerify words path boxes settings
IsAsked words (Run path choices steps malloc) = AsksToRun words path choices steps malloc
IsAsked words (Gen kind phases) = AsksToGen words kind phases

-- the words ask nothing
abbrev pub AsksNothing : List Text → Type 0
AsksNothing words = (asked : Asked) → IsAsked words asked → ⊥

-- a number that is at least 1, and at most the greatest
abbrev pub IsUpTo : ℕ → ℕ → Type 0
IsUpTo most n = (1 ≤ n) × (n ≤ most)

-- the numbers of what is asked are in their ranges
abbrev pub IsInRange : Asked → Type 0
IsInRange (Verify path boxes settings) =
    IsUpTo MOST_HEIGHT settings.height × IsUpTo MOST_BUDGET settings.budget × IsUpTo MOST_JOBS settings.jobs
IsInRange (Run path choices steps malloc) = IsUpTo RUN_STEPS steps
IsInRange (Gen kind phases) = IsUpTo MOST_PHASES phases
