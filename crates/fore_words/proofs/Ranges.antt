-- The numbers of what is asked are in their ranges.
use Rattle.std.proofs.Common.{arith, ℕ, List, Option, Some, None, ◌≤◌, codes}
use Rattle.clap.specs.Words.{Text, Row, first_of}
use Rattle.c_types.specs.declared.mode.MallocMode.{MallocMode}
use Rattle.fore_words.specs.declared.asked.TheConstants.{
  HEIGHT,
  MOST_HEIGHT,
  BUDGET,
  MOST_BUDGET,
  JOBS,
  MOST_JOBS,
  RUN_STEPS,
  MOST_PHASES,
}
use Rattle.fore_words.specs.declared.asked.Settings.{Settings}
use Rattle.fore_words.specs.declared.asked.Kind.{Kind}
use Rattle.fore_words.specs.declared.asked.Asked.TheVariants.{Verify, Run, Gen}
use Rattle.fore_words.specs.Values.{IsNumber, IsOption, Reads}
use Rattle.fore_words.specs.Words.{IsVerify, IsRun, IsGen, IsUpTo, IsInRange}

option_is_up_to : (most default : ℕ) → 1 ≤ default → default ≤ most → (text : Option (List ℕ)) (n : ℕ)
    → IsOption (IsNumber most) default text n → IsUpTo most n
option_is_up_to most default least greatest None n is = (omega (arith, is, least), omega (arith, is, greatest))
option_is_up_to most default least greatest (Some text) n is = (is.least, is.greatest)

read_is_up_to : (most : ℕ) (text : Option (List ℕ)) (n : ℕ) → Reads (IsNumber most) text n → IsUpTo most n
read_is_up_to most None n is = elim is [ ]
read_is_up_to most (Some text) n is = (is.least, is.greatest)

pub verify_in_range : (given : List Row) (path : Text) (boxes : Option Text) (s : Settings)
    → IsVerify given path boxes s → IsInRange (Verify path boxes s)
verify_in_range given path boxes s is = (
  option_is_up_to MOST_HEIGHT HEIGHT (omega arith) (omega arith) (first_of (codes "height") given) s.height
      is.how.height,
  option_is_up_to MOST_BUDGET BUDGET (omega arith) (omega arith) (first_of (codes "steps") given) s.budget
      is.how.budget,
  option_is_up_to MOST_JOBS JOBS (omega arith) (omega arith) (first_of (codes "jobs") given) s.jobs is.how.jobs,
)

pub run_in_range : (given : List Row) (path : Text) (choices : List ℕ) (steps : ℕ) (malloc : MallocMode)
    → IsRun given path choices steps malloc → IsInRange (Run path choices steps malloc)
run_in_range given path choices steps malloc is =
    option_is_up_to RUN_STEPS RUN_STEPS (omega arith) (omega arith) (first_of (codes "steps") given) steps is.counted

pub gen_in_range : (given : List Row) (kind : Kind) (phases : ℕ) → IsGen given kind phases
    → IsInRange (Gen kind phases)
gen_in_range given kind phases is = read_is_up_to MOST_PHASES (first_of (codes "N") given) phases is.counted

pub ruleset ranges = (verify_in_range, run_in_range, gen_in_range)
