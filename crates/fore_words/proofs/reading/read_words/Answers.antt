use Rattle.std.proofs.Common.{rules, ◌≡◌, Some, codes}
use Rattle.clap.specs.Words.{found_of, rows_of, subcommand_of}
use Rattle.fore_words.specs.CommandLine.{the_app}
use Rattle.fore_words.specs.Words.{texts}
use Rattle.fore_words.proofs.Found.{run_unread}
use Rattle.fore_words.proofs.reading.read_words.Goals as goal

pub returns-in_err-path-in-run-clause-usage : goal.returns-in_err-path-in-run-clause-usage
returns-in_err-path-in-run-clause-usage c = λ was.
    let given = rows_of (found_of c.in-Some.given.now) in
    let found : subcommand_of the_app (texts c.args.words.now) ≡ Some (codes "run", given) = search rules in
    run_unread (texts c.args.words.now) given found (c.in_err-path-in-run.ensures.usage (search rules))
