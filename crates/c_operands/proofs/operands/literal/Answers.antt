use Rattle.c_grammar.proofs.Literals.{takes_null, takes_true, takes_false}
use Rattle.c_operands.proofs.operands.literal.Goals as goal

pub returns-in_ok-token-in-Null-clause-ok : goal.returns-in_ok-token-in-Null-clause-ok
returns-in_ok-token-in-Null-clause-ok c = let t = c.in_ok-token-in-Null.ensures.ok in takes_null _ _ _ _ t.0 t.1

pub returns-in_ok-token-in-True-clause-ok : goal.returns-in_ok-token-in-True-clause-ok
returns-in_ok-token-in-True-clause-ok c = let t = c.in_ok-token-in-True.ensures.ok in takes_true _ _ _ _ t.0 t.1

pub returns-in_ok-token-in-False-clause-ok : goal.returns-in_ok-token-in-False-clause-ok
returns-in_ok-token-in-False-clause-ok c = let t = c.in_ok-token-in-False.ensures.ok in takes_false _ _ _ _ t.0 t.1
