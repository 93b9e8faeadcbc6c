use Rattle.fa_order.proofs.FieldStates.{link_there, link_out}
use Rattle.fa_order.proofs.showing.next_place.Goals as goal

pub returns-then-place-children-clause-states : goal.returns-then-place-children-clause-states
returns-then-place-children-clause-states c = link_there c.args.children.now c.args.place c.if-place-children.true

pub returns-else-place-children-clause-states : goal.returns-else-place-children-clause-states
returns-else-place-children-clause-states c =
    link_out c.args.children.now c.args.place c.requires c.if-place-children.false
