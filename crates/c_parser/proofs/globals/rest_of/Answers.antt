use Rattle.std.proofs.Common.{refl, sym, subst, ◌∙◌}
use Rattle.std.proofs.lemmas.Result.{IfOk-weaker, IfErr-weaker}
use Rattle.c_grammar.specs.words.Parted.{Rest}
use Rattle.c_grammar.specs.words.Sets.{no_sign, elses}
use Rattle.c_reader.specs.Bounds.{Reads, Stops}
use Rattle.c_parser.specs.inner.Shapes.{item_of, read_called, read_declared_names, read_rest_of}
use Rattle.c_grammar.proofs.Choices.{same_fork}
use Rattle.c_grammar.proofs.Parts.{takes_same, fails_same}
use Rattle.c_grammar.proofs.Steps.{widen_takes, widen_fails}
use Rattle.c_statements.proofs.Alternatives.{first_takes, first_fails, second_takes, second_fails}
use Rattle.c_parser.proofs.Bases.{good_base_called, good_base_declared}
use Rattle.c_parser.proofs.globals.rest_of.Goals as goal

pub returns-then-is_next-clause-ok : goal.returns-then-is_next-clause-ok
returns-then-is_next-clause-ok c =
    IfOk-weaker c.called.result
    (λ r. Reads (read_called c.gives_of.result c.args.name) c.args.bounds.now c.args.left.now r.1.now r.0)
    (λ r. Reads (read_rest_of c.args.base c.args.name) c.args.bounds.now c.args.left.now r.1.now r.0)
    (λ r t. takes_same (same_fork (λ (q : Rest). item_of c.args.base c.args.name q))
    (first_takes (good_base_called c.args.base c.args.name) (good_base_declared c.args.base c.args.name) refl refl
    (sym c.is_next.ensures ∙ c.if-is_next.true)
    (subst (λ g. Reads (read_called g c.args.name) c.args.bounds.now c.args.left.now r.1.now r.0) c.gives_of.ensures
    t)))
    c.called.ensures.ok

pub returns-then-is_next-clause-err : goal.returns-then-is_next-clause-err
returns-then-is_next-clause-err c =
    IfErr-weaker c.called.result (Stops (read_called c.gives_of.result c.args.name) c.args.bounds.now c.args.left.now)
    (Stops (read_rest_of c.args.base c.args.name) c.args.bounds.now c.args.left.now)
    (λ e f. fails_same (same_fork (λ (q : Rest). item_of c.args.base c.args.name q)) _
    (first_fails (good_base_called c.args.base c.args.name) (good_base_declared c.args.base c.args.name) refl refl
    (sym c.is_next.ensures ∙ c.if-is_next.true)
    (subst (λ g. Stops (read_called g c.args.name) c.args.bounds.now c.args.left.now e) c.gives_of.ensures f)))
    c.called.ensures.err

pub returns-clause-ok : goal.returns-clause-ok
returns-clause-ok c =
    IfOk-weaker c.declared_names.result
    (λ r. Reads (read_declared_names c.args.base c.args.name) c.args.bounds.now c.args.left.now r.1.now r.0)
    (λ r. Reads (read_rest_of c.args.base c.args.name) c.args.bounds.now c.args.left.now r.1.now r.0)
    (λ r t. takes_same (same_fork (λ (q : Rest). item_of c.args.base c.args.name q))
    (second_takes (good_base_called c.args.base c.args.name) (good_base_declared c.args.base c.args.name) refl refl
    (sym c.is_next.ensures ∙ c.if-is_next.false) (widen_takes no_sign elses refl refl t)))
    c.declared_names.ensures.ok

pub returns-clause-err : goal.returns-clause-err
returns-clause-err c =
    IfErr-weaker c.declared_names.result
    (Stops (read_declared_names c.args.base c.args.name) c.args.bounds.now c.args.left.now)
    (Stops (read_rest_of c.args.base c.args.name) c.args.bounds.now c.args.left.now)
    (λ e f. fails_same (same_fork (λ (q : Rest). item_of c.args.base c.args.name q)) _
    (second_fails (good_base_called c.args.base c.args.name) (good_base_declared c.args.base c.args.name) refl refl
    (sym c.is_next.ensures ∙ c.if-is_next.false) (widen_fails no_sign elses no_sign refl refl refl f)))
    c.declared_names.ensures.err
