use Rattle.std.proofs.Common.{sym, subst}
use Rattle.c_lexer.specs.inner.Found.{IsFound}
use Rattle.c_lexer.proofs.Sound.{sound}
use Rattle.c_lexer.proofs.step.next_step.Goals as goal

pub returns : goal.returns
returns c = subst (IsFound c.args.fresh c.args.rest.now) (sym c.by_class.ensures)
    (sound c.args.fresh c.args.rest.now c.requires)
