-- What the getters of matches give, by the rows of the matches, and what asks nothing.
use Rattle.std.proofs.Common.{arith, ℕ, List, [], Option, Some, ◌≡◌, ap, subst, option_map, codes, slice_index}
use Rattle.std.specs.Option.{option_map_or}
use Rattle.clap.specs.Words.{Text, Row, found_of, rows_of, first_of, first_value, fault_of, subcommand_of}
use Rattle.clap.specs.declared.parser.matches.ArgMatches.{ArgMatches}
use Rattle.clap.proofs.WalkLemmas.{first_value-rows}
use Rattle.c_types.specs.declared.mode.MallocMode.{MallocMode}
use Rattle.fore_words.specs.CommandLine.{the_app}
use Rattle.fore_words.specs.Words.{IsCommand, given_in, IsRun, AsksNothing}
use Rattle.fore_words.specs.declared.asked.Asked.TheVariants.{Verify, Run, Gen}

-- the first value of a name
pub first_given : (m : ArgMatches) (name : Text) → first_value (found_of m) name ≡ first_of name (rows_of (found_of m))
first_given m name = first_value-rows (found_of m) name

-- words that `clap` refuses ask nothing
pub not_taken : (words : List Text) → (fault_of the_app words ≡ [] → ⊥) → AsksNothing words
not_taken words fault (Verify path boxes settings) h = fault h.0.taken
not_taken words fault (Run path choices steps malloc) h = fault h.0.taken
not_taken words fault (Gen kind phases) h = fault h.0.taken

same_name : (found : Option Text) (one other : Text) → found ≡ Some one → found ≡ Some other → one ≡ other
same_name found one other e f = cc (e, f)

run_is_not_verify : codes "run" ≡ codes "verify" → ⊥
run_is_not_verify e = omega (arith, ap (λ t. slice_index t 0) e)

run_is_not_gen : codes "run" ≡ codes "gen" → ⊥
run_is_not_gen e = omega (arith, ap (λ t. slice_index t 0) e)

module _ (words : List Text) (given : List Row) (found : subcommand_of the_app words ≡ Some (codes "run", given)) where
  -- words that ask for a run name no other command
  named_run : (other : Text) → IsCommand words other → codes "run" ≡ other
  named_run other h =
      same_name (option_map (λ command. command.0) (subcommand_of the_app words)) (codes "run") other
      (ap (option_map (λ (command : Text × List Row). command.0)) found) h.named

  given_run : given_in words ≡ given
  given_run = ap (λ c. option_map_or (λ command. command.1) c []) found

  -- nor do they ask anything, where what is given does not read
  pub run_unread : ((path : Text) (choices : List ℕ) (steps : ℕ) (malloc : MallocMode)
      → IsRun given path choices steps malloc → ⊥) → AsksNothing words
  run_unread unread (Verify path boxes settings) h = run_is_not_verify (named_run (codes "verify") h.0)
  run_unread unread (Run path choices steps malloc) h =
      unread path choices steps malloc (subst (λ g. IsRun g path choices steps malloc) given_run h.1)
  run_unread unread (Gen kind phases) h = run_is_not_gen (named_run (codes "gen") h.0)
