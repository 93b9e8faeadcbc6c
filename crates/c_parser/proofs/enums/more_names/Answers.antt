use Rattle.std.proofs.Common.{sym, subst, arith}
use Rattle.c_grammar.specs.words.Faults.Fails.{no_memory}
use Rattle.c_reader.specs.Bounds.{Stops}
use Rattle.c_parser.proofs.Walking.{walk_on, walk_end}
use Rattle.c_parser.specs.inner.Shapes.{read_more_names}
use Rattle.c_grammar.proofs.Enumerators.{Walks, walks_none, names_fails}
use Rattle.c_grammar.proofs.Steps.{passed}
use Rattle.c_parser.proofs.enums.more_names.Goals as goal

pub names-init : goal.names-init
names-init c =
    record {
      shorter = omega arith;
      walks = subst (λ all. Walks c.args.bounds.now.room c.args.bounds.now.end c.args.left.now c.args.left.now all)
          (sym c.new-all.ensures) (walks_none _ _ _);
    }

pub returns-in_err-next-clause-err : goal.returns-in_err-next-clause-err
returns-in_err-next-clause-err c =
    passed c.from_residual.result (Stops read_more_names c.args.bounds.now c.args.left.now) c.from_residual.ensures.1
    (names_fails _ _ _ _ _ c.names.invariant.walks _ c.in_err-next.ensures.err)

pub returns-in_err-push-in-Some-clause-err : goal.returns-in_err-push-in-Some-clause-err
returns-in_err-push-in-Some-clause-err c =
    passed c.from_residual-in_err-push-in-Some.result (Stops read_more_names c.args.bounds.now c.args.left.now)
    c.from_residual-in_err-push-in-Some.ensures.1 no_memory

pub names-preserved : goal.names-preserved
names-preserved c = record {
  shorter = omega (arith, c.names.invariant.shorter, c.in_ok-next.ensures.shorter);
  walks = subst (λ all. Walks c.args.bounds.now.room c.args.bounds.now.end c.args.left.now c.in_ok-next.after.now all)
      (sym c.in_ok-push-in-Some.ensures.ok)
      (walk_on _ _ _ _ _ _ c.names.invariant.walks _ c.in_ok-next.ensures.ok _ c.in-Some.is);
}

pub returns-in-None-clause-ok : goal.returns-in-None-clause-ok
returns-in-None-clause-ok c = walk_end _ _ _ _ _ _ c.names.invariant.walks _ c.in_ok-next.ensures.ok c.in-None.is
