use Rattle.ta_core.proofs.LettingGo.{none_left, some_left, toll_leaf, toll_alone, toll_over, less_most, most_kept}
use Rattle.ta_core.proofs.tree.Tree.let_go_down.Goals as goal

pub returns-then-is_empty : goal.returns-then-is_empty
returns-then-is_empty c =
    let none = none_left _ c.into_children-below.result.items _ c.into_children-below.result.ok.0 c.is_empty.ensures
    c.if-is_empty.true in
    less_most _ _ _
    (toll_leaf c.nodes.self c.into_children-below.result.items c.into_children-below.ensures c.nodes.others.items
    none) c.nodes.invariant

pub returns-then-is_empty-2 : goal.returns-then-is_empty-2
returns-then-is_empty-2 c =
    let none = none_left _ c.nodes.others.items _ c.nodes.others.ok.0 c.is_empty-in-nodes.ensures c.if-is_empty-2.true
    in
    less_most _ _ _
    (toll_alone c.nodes.self c.into_children-below.result.items c.into_children-below.ensures c.nodes.others.items
    none) c.nodes.invariant

pub nodes-smaller : goal.nodes-smaller
nodes-smaller c =
    let below = some_left _ c.into_children-below.result.items _ c.into_children-below.result.ok.0 c.is_empty.ensures
    c.if-is_empty.false in
    let others = some_left _ c.nodes.others.items _ c.nodes.others.ok.0 c.is_empty-in-nodes.ensures
    c.if-is_empty-2.false in
    toll_over c.nodes.self c.into_children-below.result.items c.into_children-below.ensures _ c.replace-self.new.dest
    c.replace-self.result c.index_mut.result.now c.nodes.others.items c.from_vec.result below others
    c.replace-self.ensures.after c.from_vec.ensures c.replace-self.ensures.value c.index_mut.ensures.value

pub nodes-preserved : goal.nodes-preserved
nodes-preserved c =
    let below = some_left _ c.into_children-below.result.items _ c.into_children-below.result.ok.0 c.is_empty.ensures
    c.if-is_empty.false in
    let others = some_left _ c.nodes.others.items _ c.nodes.others.ok.0 c.is_empty-in-nodes.ensures
    c.if-is_empty-2.false in
    most_kept _ _ _
    (toll_over c.nodes.self c.into_children-below.result.items c.into_children-below.ensures _
    c.replace-self.new.dest c.replace-self.result c.index_mut.result.now c.nodes.others.items c.from_vec.result
    below others c.replace-self.ensures.after c.from_vec.ensures c.replace-self.ensures.value
    c.index_mut.ensures.value) c.nodes.invariant
