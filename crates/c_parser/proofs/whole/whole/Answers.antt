use Rattle.std.proofs.Common.{sym, subst, ◌∙◌}
use Rattle.c_grammar.specs.Items.{unit}
use Rattle.c_grammar.specs.declared.fault.SyntaxFault.TheVariants.{Syntax}
use Rattle.c_grammar.specs.words.Faults.{Takes, Fails}
use Rattle.c_grammar.specs.words.Parted.{begins_item}
use Rattle.c_grammar.specs.words.Sets.{no_sign, elses}
use Rattle.c_grammar.proofs.SignLemmas.{clash}
use Rattle.c_grammar.proofs.Steps.{passed}
use Rattle.c_parser.specs.inner.Stops.{IsStop}
use Rattle.c_parser.proofs.ParseLemmas.{stop_of, stop_rest, read_all}
use Rattle.c_parser.proofs.whole.whole.Goals as goal

pub returns-in_err-items-clause-err : goal.returns-in_err-items-clause-err
returns-in_err-items-clause-err c =
    passed c.from_residual.result (IsStop c.args.tokens.now c.args.bounds.now.end) c.from_residual.ensures.1
    (stop_of _ _ _
    (subst
    (λ m. Fails unit begins_item elses no_sign m c.args.bounds.now.end c.args.tokens.now c.in_err-items.field-0.0)
    c.requires c.in_err-items.ensures.err))

pub returns-then-not-is_over-clause-err : goal.returns-then-not-is_over-clause-err
returns-then-not-is_over-clause-err c =
    subst (λ p. IsStop c.args.tokens.now c.args.bounds.now.end (Syntax p)) (sym c.here-at.ensures)
    (stop_rest _ _ _ _ (λ e. clash (sym (c.is_over.ensures.1 e) ∙ c.if-not-is_over.true))
    (subst (λ m. Takes unit begins_item elses m c.args.tokens.now c.in_ok-items.rest.now c.in_ok-items.items)
    c.requires c.in_ok-items.ensures.ok))

pub returns-clause-ok : goal.returns-clause-ok
returns-clause-ok c = read_all _ _ _ (c.is_over.ensures.0 c.if-not-is_over.false)
    (subst (λ m. Takes unit begins_item elses m c.args.tokens.now c.in_ok-items.rest.now c.in_ok-items.items) c.requires
    c.in_ok-items.ensures.ok)
