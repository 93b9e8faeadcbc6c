use Rattle.std.proofs.Common.{◌++◌, ap}
use Rattle.std.proofs.lemmas.Result.{IfOk-weaker}
use Rattle.fa_order.proofs.showing.push_end.Goals as goal

pub returns-in-Link-clause-states : goal.returns-in-Link-clause-states
returns-in-Link-clause-states c = λ slots.
    rw c.in-Link.is (ap (λ z. c.args.made.now ++ z) (c.next_place.ensures.states slots c.in-Link.field-0))

pub returns-in-Field-clause-states : goal.returns-in-Field-clause-states
returns-in-Field-clause-states c = rw c.in-Field.is
    (IfOk-weaker c.push_child.result _ _ (λ next h slots. h slots c.in-Field.field-0) c.push_child.ensures.states)
