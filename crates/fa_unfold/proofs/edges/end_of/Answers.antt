use Rattle.fa_unfold.proofs.EdgeSlots.{end_alone, end_rule, slot_of_link}
use Rattle.fa_unfold.proofs.edges.end_of.Goals as goal

pub component-auto-requires : goal.component-auto-requires
component-auto-requires c = c.requires.at.1.root

pub child_place-requires : goal.child_place-requires
child_place-requires c =
    slot_of_link c.args.forest.now c.args.root c.args.slot c.args.number c.requires.at.0 c.requires.at.1

pub state_at-state-requires : goal.state_at-state-requires
state_at-state-requires c = rw c.component-auto.ensures c.requires.at.1.top

pub leaf_of_state-requires : goal.leaf_of_state-requires
leaf_of_state-requires c = (
  c.requires.at.0,
  rw (c.rules_of.ensures, c.state_at-state.ensures, c.child_place.ensures, c.component-auto.ensures)
      (end_rule c.args.forest.now c.args.root c.args.slot c.args.number c.requires.at.0 c.requires.ranked
      c.requires.at.1),
)

pub returns : goal.returns
returns c =
    end_alone c.args.forest.now c.args.root c.args.slot c.args.number c.requires.at.0 c.requires.ranked
    c.requires.at.1 c.leaf_of_state.result
    (rw (c.rules_of.ensures, c.state_at-state.ensures, c.child_place.ensures, c.component-auto.ensures)
    at c.leaf_of_state.ensures)
