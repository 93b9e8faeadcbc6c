use Rattle.std.proofs.Common.{◌++◌, ◌∙◌, refl, ap}
use Rattle.c_grammar.specs.Syntax as s
use Rattle.c_grammar.specs.words.Faults.Fails.{no_memory}
use Rattle.c_grammar.specs.words.Sets.{no_sign}
use Rattle.c_reader.specs.Bounds.{Stops}
use Rattle.c_statements.specs.Shapes.{read_declarators, read_next_declarator}
use Rattle.c_grammar.proofs.Parts.{takes_made, fails_made}
use Rattle.c_grammar.proofs.Repeats.{least_many}
use Rattle.c_grammar.proofs.Sequences.{takes_as}
use Rattle.c_grammar.proofs.Steps.{passed, pair, in_front, in_back, widen_takes, widen_fails}
use Rattle.c_statements.proofs.Declarators.{good_init_declarator, good_more_declarators}
use Rattle.c_statements.proofs.declarations.declarators.Goals as goal

pub returns-in_err-first-clause-err : goal.returns-in_err-first-clause-err
returns-in_err-first-clause-err c =
    passed c.from_residual.result (Stops (read_declarators c.args.starred) c.args.bounds.now c.args.left.now)
    c.from_residual.ensures.1
    (widen_fails _ _ _ refl refl refl
    (fails_made s.joined _
    (in_front (good_init_declarator c.args.starred) (good_more_declarators c.args.starred) refl refl
    (least_many (read_next_declarator c.args.starred).rule no_sign _) c.in_err-first.ensures.err)))

pub returns-in_err-all-clause-err : goal.returns-in_err-all-clause-err
returns-in_err-all-clause-err c =
    passed c.from_residual-in_err-all.result (Stops (read_declarators c.args.starred) c.args.bounds.now c.args.left.now)
    c.from_residual-in_err-all.ensures.1 no_memory

pub returns-in_err-more-clause-err : goal.returns-in_err-more-clause-err
returns-in_err-more-clause-err c =
    passed c.from_residual-in_err-more.result (Stops (read_declarators c.args.starred) c.args.bounds.now
    c.args.left.now) c.from_residual-in_err-more.ensures.1
    (widen_fails _ _ _ refl refl refl
    (fails_made s.joined _
    (in_back (good_init_declarator c.args.starred) (good_more_declarators c.args.starred) refl refl refl
    c.in_ok-first.ensures.ok c.in_err-more.ensures.err)))

pub returns-in_err-append-clause-err : goal.returns-in_err-append-clause-err
returns-in_err-append-clause-err c =
    passed c.from_residual-in_err-append.result (Stops (read_declarators c.args.starred) c.args.bounds.now
    c.args.left.now) c.from_residual-in_err-append.ensures.1 no_memory

pub returns-clause-ok : goal.returns-clause-ok
returns-clause-ok c = takes_as _
    (c.in_ok-append.ensures.ok ∙ ap (λ l. l ++ c.in_ok-more.more) c.in_ok-all.ensures)
    (widen_takes _ _ refl refl
    (takes_made s.joined
    (pair (good_init_declarator c.args.starred) (good_more_declarators c.args.starred) refl c.in_ok-first.ensures.ok
    c.in_ok-more.ensures.ok)))
