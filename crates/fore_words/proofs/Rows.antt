-- Worked values of the definitions.
use Rattle.std.proofs.Common.{
  arith,
  ℕ,
  List,
  [],
  ◌∷◌,
  ◌++◌,
  ◌<◌,
  ◌^◌,
  Option,
  Some,
  None,
  ◌≡◌,
  codes,
  refl,
  ap,
  slice_index,
}
use Rattle.std.specs.Fmt.{digits}
use Rattle.std.specs.Str.Parse.{digits_value}
use Rattle.clap.specs.Words.{Text, fault_of, first_of}
use Rattle.clap.specs.declared.error.kind.ErrorKind.TheVariants.{
  InvalidValue,
  UnknownArgument,
  InvalidSubcommand,
  ArgumentConflict,
  TooManyValues,
  MissingRequiredArgument,
  MissingSubcommand,
}
use Rattle.clap.proofs.OnLiterals.{clap_on_literals}
use Rattle.c_types.specs.declared.mode.MallocMode.{MallocMode}
use Rattle.c_types.specs.declared.mode.MallocMode.TheVariants.{Always, MayFail}
use Rattle.fore_words.specs.CommandLine.{the_app}
use Rattle.fore_words.specs.Usage.{usage_text}
use Rattle.fore_words.specs.Values.{IsNumber, IsChoices, IsKind, IsMode, IsOption, Reads}
use Rattle.fore_words.specs.Words.{given_in, AsksToVerify, AsksToRun, AsksToGen, AsksNothing, IsInRange}
use Rattle.fore_words.specs.declared.asked.Settings.{Settings}
use Rattle.fore_words.specs.declared.asked.Asked.TheVariants.{Verify, Run, Gen}
use Rattle.fore_words.specs.declared.asked.Kind.{Kind}
use Rattle.fore_words.specs.declared.asked.Kind.TheVariants.{ListPhases, DllPhases, TreePhases}
use Rattle.fore_words.proofs.Found.{not_taken}
use Rattle.fore_words.proofs.Numbers.{number_is}

-- Values

most_steps : IsNumber 1000000 (codes "1000000") 1000000
unfolding digits
most_steps = record { written = refl; least = omega arith; greatest = omega arith }

no_zero : IsNumber 1000000 (codes "0") 0 → ⊥
no_zero h = omega (arith, h.least)

no_more_steps : IsNumber 1000000 (codes "1000001") 1000001 → ⊥
no_more_steps h = omega (arith, h.greatest)

no_leading_zero : IsNumber 1000000 (codes "007") 7 → ⊥
unfolding digits
no_leading_zero h = cc (h.written)

no_sign : IsNumber 1000000 (codes "+1") 1 → ⊥
unfolding digits
no_sign h = cc (h.written)

no_height : IsNumber 4 (codes "5") 5 → ⊥
no_height h = omega (arith, h.greatest)

two_choices : IsChoices (codes "09") (0 ∷ 9 ∷ [])
two_choices = record { digits = ((omega arith, omega arith), ((omega arith, omega arith), tt)); are = refl }

no_choices : IsChoices [] []
no_choices = record { digits = tt; are = refl }

no_letter : IsChoices (codes "1x") (1 ∷ 72 ∷ []) → ⊥
no_letter h = omega (arith, h.digits.1.0)

lists : IsKind (codes "list") ListPhases
lists = refl

doubly_linked_lists : IsKind (codes "dll") DllPhases
doubly_linked_lists = refl

trees : IsKind (codes "tree") TreePhases
trees = refl

no_kind : IsKind (codes "heap") TreePhases → ⊥
no_kind h = omega (arith, ap (λ t. slice_index t 0) h)

-- `malloc` may fail where the flag was given, and only there
no_flag : Some (codes "false") ≡ Some (codes "true") → ⊥
no_flag e = cc e

flagged : IsMode (Some (codes "true")) MayFail
flagged = refl

not_flagged : IsMode (Some (codes "false")) Always
not_flagged = no_flag

flag_unknown : IsMode None Always
flag_unknown e = cc e

flagged_for_always : IsMode (Some (codes "true")) Always → ⊥
flagged_for_always h = h refl

not_flagged_to_fail : IsMode (Some (codes "false")) MayFail → ⊥
not_flagged_to_fail h = no_flag h

-- an option that is not named has its default, and only that
default_is_taken : IsOption (IsNumber 4) 1 None 1
default_is_taken = refl

default_alone : IsOption (IsNumber 4) 1 None 2 → ⊥
default_alone h = cc (h)

named_is_read : IsOption (IsNumber 4) 1 (Some (codes "3")) 3
unfolding digits
named_is_read = record { written = refl; least = omega arith; greatest = omega arith }

-- a place that is empty does not read
nothing_to_read : Reads (IsNumber 200) None 1 → ⊥
nothing_to_read h = h

-- What the words ask

abbrev usual : Settings
usual = record { height = 1; budget = 2000; jobs = 1; malloc = Always }

abbrev verify : List Text → List Text
verify words = codes "verify" ∷ codes "x.c" ∷ words

abbrev run : List Text → List Text
run words = codes "run" ∷ codes "x.c" ∷ words

verified : AsksToVerify (verify []) (codes "x.c") None usual
unfolding clap_on_literals
verified = (
  record { taken = refl; named = refl },
  record {
    file = refl;
    box_file = refl;
    how = record { height = refl; budget = refl; jobs = refl; malloc = no_flag };
  },
)

-- options stand in any order and before the file, with a space or an equals sign
abbrev with_all : List Text
with_all = codes "verify" ∷ codes "--jobs" ∷ codes "64" ∷ codes "--steps=100000" ∷ codes "--boxes=d.box" ∷ codes "x.c"
    ∷ codes "--height" ∷ codes "4" ∷ []

abbrev greatest : Settings
greatest = record { height = 4; budget = 100000; jobs = 64; malloc = Always }

verified_with_all : AsksToVerify with_all (codes "x.c") (Some (codes "d.box")) greatest
unfolding clap_on_literals digits
verified_with_all = (
  record { taken = refl; named = refl },
  record {
    file = refl;
    box_file = refl;
    how = record {
      height = record { written = refl; least = omega arith; greatest = omega arith };
      budget = record { written = refl; least = omega arith; greatest = omega arith };
      jobs = record { written = refl; least = omega arith; greatest = omega arith };
      malloc = no_flag;
    };
  },
)

-- two hyphens end the options
behind_hyphens : AsksToVerify (codes "verify" ∷ codes "--" ∷ codes "-x.c" ∷ []) (codes "-x.c") None usual
unfolding clap_on_literals
behind_hyphens = (
  record { taken = refl; named = refl },
  record {
    file = refl;
    box_file = refl;
    how = record { height = refl; budget = refl; jobs = refl; malloc = no_flag };
  },
)

-- behind the flag for a `malloc` that may fail, and before it
abbrev may_fail : Settings
may_fail = record usual { malloc = MayFail }

flag_before : AsksToVerify (codes "verify" ∷ codes "--malloc-null" ∷ codes "x.c" ∷ []) (codes "x.c") None may_fail
unfolding clap_on_literals
flag_before = (
  record { taken = refl; named = refl },
  record {
    file = refl;
    box_file = refl;
    how = record { height = refl; budget = refl; jobs = refl; malloc = refl };
  },
)

flag_behind : AsksToRun (run (codes "--malloc-null" ∷ codes "--choices=0" ∷ [])) (codes "x.c") (0 ∷ []) 1000000 MayFail
unfolding clap_on_literals
flag_behind = (
  record { taken = refl; named = refl },
  record {
    file = refl;
    listed = record { digits = ((omega arith, omega arith), tt); are = refl };
    counted = refl;
    mode = refl;
  },
)

-- behind two hyphens it is a file
flag_for_a_file : AsksToVerify (codes "verify" ∷ codes "--" ∷ codes "--malloc-null" ∷ []) (codes "--malloc-null") None
    usual
unfolding clap_on_literals
flag_for_a_file = (
  record { taken = refl; named = refl },
  record {
    file = refl;
    box_file = refl;
    how = record { height = refl; budget = refl; jobs = refl; malloc = no_flag };
  },
)

ran : AsksToRun (run []) (codes "x.c") [] 1000000 Always
unfolding clap_on_literals
ran = (record { taken = refl; named = refl }, record { file = refl; listed = refl; counted = refl; mode = no_flag })

ran_on_choices : AsksToRun (run (codes "--steps=25" ∷ codes "--choices" ∷ codes "09" ∷ [])) (codes "x.c")
    (0 ∷ 9 ∷ []) 25 Always
unfolding clap_on_literals digits
ran_on_choices = (
  record { taken = refl; named = refl },
  record {
    file = refl;
    listed = two_choices;
    counted = record { written = refl; least = omega arith; greatest = omega arith };
    mode = no_flag;
  },
)

-- an empty list of choices, as a word of its own and behind the equals sign
ran_on_no_choices : AsksToRun (run (codes "--choices" ∷ [] ∷ [])) (codes "x.c") [] 1000000 Always
unfolding clap_on_literals
ran_on_no_choices = (
  record { taken = refl; named = refl },
  record { file = refl; listed = no_choices; counted = refl; mode = no_flag },
)

ran_on_nothing : AsksToRun (run (codes "--choices=" ∷ [])) (codes "x.c") [] 1000000 Always
unfolding clap_on_literals
ran_on_nothing = (
  record { taken = refl; named = refl },
  record { file = refl; listed = no_choices; counted = refl; mode = no_flag },
)

generated : AsksToGen (codes "gen" ∷ codes "tree" ∷ codes "200" ∷ []) TreePhases 200
unfolding clap_on_literals digits
generated = (
  record { taken = refl; named = refl },
  record { named = refl; counted = record { written = refl; least = omega arith; greatest = omega arith } },
)

-- What `clap` refuses

no_words : fault_of the_app [] ≡ MissingSubcommand ∷ []
unfolding clap_on_literals
no_words = refl

-- words that `clap` refuses ask nothing
no_words_ask_nothing : AsksNothing []
no_words_ask_nothing = not_taken [] (λ none. cc (none, no_words))

an_unknown_command : fault_of the_app (codes "verif" ∷ codes "x.c" ∷ []) ≡ UnknownArgument ∷ InvalidSubcommand ∷ []
unfolding clap_on_literals
an_unknown_command = refl

no_file : fault_of the_app (codes "verify" ∷ []) ≡ MissingRequiredArgument ∷ []
unfolding clap_on_literals
no_file = refl

no_file_but_an_option : fault_of the_app (codes "run" ∷ codes "--steps" ∷ codes "1" ∷ []) ≡ MissingRequiredArgument ∷ []
unfolding clap_on_literals
no_file_but_an_option = refl

two_files : fault_of the_app (verify (codes "y.c" ∷ [])) ≡ UnknownArgument ∷ []
unfolding clap_on_literals
two_files = refl

an_option_twice : fault_of the_app (verify (codes "--jobs" ∷ codes "1" ∷ codes "--jobs=1" ∷ [])) ≡ ArgumentConflict ∷ []
unfolding clap_on_literals
an_option_twice = refl

a_flag_twice : fault_of the_app (verify (codes "--malloc-null" ∷ codes "--malloc-null" ∷ [])) ≡ ArgumentConflict ∷ []
unfolding clap_on_literals
a_flag_twice = refl

a_flag_with_a_value : fault_of the_app (run (codes "--malloc-null=1" ∷ [])) ≡ TooManyValues ∷ []
unfolding clap_on_literals
a_flag_with_a_value = refl

a_word_behind_a_flag : fault_of the_app (verify (codes "--malloc-null" ∷ codes "1" ∷ [])) ≡ UnknownArgument ∷ []
unfolding clap_on_literals
a_word_behind_a_flag = refl

no_flag_of_gen : fault_of the_app (codes "gen" ∷ codes "list" ∷ codes "1" ∷ codes "--malloc-null" ∷ [])
    ≡ UnknownArgument ∷ []
unfolding clap_on_literals
no_flag_of_gen = refl

an_option_without_value : fault_of the_app (verify (codes "--boxes" ∷ [])) ≡ InvalidValue ∷ []
unfolding clap_on_literals
an_option_without_value = refl

an_option_of_another_command : fault_of the_app (run (codes "--height=1" ∷ [])) ≡ UnknownArgument ∷ []
unfolding clap_on_literals
an_option_of_another_command = refl

a_short_flag_for_help : fault_of the_app (codes "-h" ∷ []) ≡ UnknownArgument ∷ []
unfolding clap_on_literals
a_short_flag_for_help = refl

a_flag_for_help : fault_of the_app (codes "--help" ∷ []) ≡ UnknownArgument ∷ []
unfolding clap_on_literals
a_flag_for_help = refl

a_flag_for_help_of_a_command : fault_of the_app (verify (codes "--help" ∷ [])) ≡ UnknownArgument ∷ []
unfolding clap_on_literals
a_flag_for_help_of_a_command = refl

a_word_for_help : fault_of the_app (codes "help" ∷ []) ≡ UnknownArgument ∷ InvalidSubcommand ∷ []
unfolding clap_on_literals
a_word_for_help = refl

a_flag_for_the_version : fault_of the_app (codes "--version" ∷ []) ≡ UnknownArgument ∷ []
unfolding clap_on_literals
a_flag_for_the_version = refl

a_kind_without_phases : fault_of the_app (codes "gen" ∷ codes "tree" ∷ []) ≡ MissingRequiredArgument ∷ []
unfolding clap_on_literals
a_kind_without_phases = refl

-- a value that begins with a hyphen is a flag
a_hyphen_for_a_value : fault_of the_app (verify (codes "--height" ∷ codes "-1" ∷ [])) ≡ UnknownArgument ∷ []
unfolding clap_on_literals
a_hyphen_for_a_value = refl

-- What `clap` takes, and what does not read

height_of_nothing : first_of (codes "height") (given_in (verify (codes "--height=" ∷ []))) ≡ Some []
unfolding clap_on_literals
height_of_nothing = refl

-- no number is written `0`
zero_alone : (most n : ℕ) → most < 2 ^ 64 → IsNumber most (codes "0") n → ⊥
zero_alone most n small is = omega (arith, number_is most (codes "0") n small is, is.least)

-- nor is a number that is greater than the greatest
too_great : (most : ℕ) (text : List ℕ) (n : ℕ) → most < 2 ^ 64 → most < digits_value 10 text → IsNumber most text n → ⊥
too_great most text n small great is = omega (arith, number_is most text n small is, is.greatest, great)

height_zero : AsksNothing (verify (codes "--height=0" ∷ []))
unfolding clap_on_literals
height_zero (Verify path boxes settings) h = zero_alone 4 settings.height (omega arith) h.1.how.height
height_zero (Run path choices steps malloc) h = cc (h.0.named)
height_zero (Gen kind phases) h = cc (h.0.named)

height_five : (path : Text) (boxes : Option Text) (settings : Settings)
    → AsksToVerify (verify (codes "--height" ∷ codes "5" ∷ [])) path boxes settings → ⊥
unfolding clap_on_literals
height_five path boxes settings h =
    too_great 4 (codes "5") settings.height (omega arith) (omega arith) h.1.how.height

too_many_states : (path : Text) (boxes : Option Text) (settings : Settings)
    → AsksToVerify (verify (codes "--steps" ∷ codes "100001" ∷ [])) path boxes settings → ⊥
unfolding clap_on_literals
too_many_states path boxes settings h =
    too_great 100000 (codes "100001") settings.budget (omega arith) (omega arith) h.1.how.budget

too_many_jobs : (path : Text) (boxes : Option Text) (settings : Settings)
    → AsksToVerify (verify (codes "--jobs=65" ∷ [])) path boxes settings → ⊥
unfolding clap_on_literals
too_many_jobs path boxes settings h =
    too_great 64 (codes "65") settings.jobs (omega arith) (omega arith) h.1.how.jobs

too_many_steps : (path : Text) (choices : List ℕ) (steps : ℕ) (malloc : MallocMode)
    → AsksToRun (run (codes "--steps" ∷ codes "1000001" ∷ [])) path choices steps malloc → ⊥
unfolding clap_on_literals
too_many_steps path choices steps malloc h =
    too_great 1000000 (codes "1000001") steps (omega arith) (omega arith) h.1.counted

-- a letter among the choices
a_letter : (path : Text) (choices : List ℕ) (steps : ℕ) (malloc : MallocMode)
    → AsksToRun (run (codes "--choices=1x" ∷ [])) path choices steps malloc → ⊥
unfolding clap_on_literals
a_letter path choices steps malloc h = omega (arith, h.1.listed.digits.1.0)

too_many_phases : (kind : Kind) (phases : ℕ) → AsksToGen (codes "gen" ∷ codes "dll" ∷ codes "201" ∷ []) kind phases → ⊥
unfolding clap_on_literals
too_many_phases kind phases h = too_great 200 (codes "201") phases (omega arith) (omega arith) h.1.counted

no_phases : (kind : Kind) (phases : ℕ) → AsksToGen (codes "gen" ∷ codes "list" ∷ codes "0" ∷ []) kind phases → ⊥
unfolding clap_on_literals
no_phases kind phases h = zero_alone 200 phases (omega arith) h.1.counted

-- Ranges

greatest_in_range : IsInRange (Verify (codes "x.c") None greatest)
greatest_in_range = ((omega arith, omega arith), (omega arith, omega arith), (omega arith, omega arith))

height_out_of_range : IsInRange (Verify (codes "x.c") None (record usual { height = 5 })) → ⊥
height_out_of_range h = omega (arith, h.0.1)

budget_out_of_range : IsInRange (Verify (codes "x.c") None (record usual { budget = 100001 })) → ⊥
budget_out_of_range h = omega (arith, h.1.1)

jobs_out_of_range : IsInRange (Verify (codes "x.c") None (record usual { jobs = 65 })) → ⊥
jobs_out_of_range h = omega (arith, h.2.1)

steps_in_range : IsInRange (Run (codes "x.c") [] 1000000 MayFail)
steps_in_range = (omega arith, omega arith)

steps_out_of_range : IsInRange (Run (codes "x.c") [] 1000001 Always) → ⊥
steps_out_of_range h = omega (arith, h.1)

phases_in_range : IsInRange (Gen ListPhases 200)
phases_in_range = (omega arith, omega arith)

phases_out_of_range : IsInRange (Gen ListPhases 0) → ⊥
phases_out_of_range h = omega (arith, h.0)

-- The usage text

three_lines : usage_text
    ≡ codes "forester verify FILE [--boxes FILE] [--height N] [--steps N] [--jobs N] [--malloc-null]" ++ 10 ∷
    (codes "forester run FILE [--choices LIST] [--steps N] [--malloc-null]" ++ 10 ∷
    (codes "forester gen KIND N" ++ 10 ∷ []))
three_lines = refl
