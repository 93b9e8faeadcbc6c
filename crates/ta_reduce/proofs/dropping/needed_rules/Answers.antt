use Rattle.std.proofs.lemmas.Result.{IfOk-weaker}
use Rattle.ta_reduce.specs.inner.Thinned.{IsThinned, AreNeeded}
use Rattle.ta_reduce.proofs.Thinning.{needed_from, same_turned}
use Rattle.ta_reduce.proofs.dropping.needed_rules.Goals as goal

pub thinned-requires-2 : goal.thinned-requires-2
thinned-requires-2 c = rw c.as_slice.ensures
    (same_turned c.args.relation.now c.args.rules.now c.in_ok-turned.turned c.requires.same c.in_ok-turned.ensures)

pub returns : goal.returns
returns c = IfOk-weaker _ (IsThinned c.args.relation.now c.in_ok-turned.turned)
    (AreNeeded c.args.relation.now c.args.rules.now)
    (λ made h. needed_from c.args.relation.now c.args.rules.now c.in_ok-turned.turned made c.requires.preorder
    c.in_ok-turned.ensures h) (rw c.as_slice.ensures at c.thinned-2.ensures)
