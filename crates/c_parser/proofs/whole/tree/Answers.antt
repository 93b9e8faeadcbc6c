use Rattle.std.proofs.Common.{refl}
use Rattle.c_grammar.proofs.DepthRules.{unit_to}
use Rattle.c_grammar.proofs.Steps.{passed}
use Rattle.c_parser.specs.Parses.{IsFault}
use Rattle.c_parser.proofs.ParseLemmas.{fault_of}
use Rattle.c_parser.proofs.whole.tree.Goals as goal

pub returns-in_err-items-clause-err : goal.returns-in_err-items-clause-err
returns-in_err-items-clause-err c =
    passed c.from_residual.result (IsFault c.args.tokens.now c.args.end) c.from_residual.ensures.1
    (fault_of _ _ _ c.requires c.in_err-items.ensures.err)

pub returns-clause-ok : goal.returns-clause-ok
returns-clause-ok c = let u = unit_to 64 c.args.tokens.now c.in_ok-items.items c.in_ok-items.ensures.ok in
    (c.requires, u.0, u.1, c.over-over.ensures, refl)
