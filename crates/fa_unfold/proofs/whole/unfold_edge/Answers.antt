use Rattle.std.proofs.Common.{◌∙◌, ap, Some}
use Rattle.ta_core.specs.declared.symbol.Slot.{Slot}
use Rattle.fa_unfold.proofs.EdgeSlots.{field_no_edge, hook_slot, link_slot}
use Rattle.fa_unfold.proofs.UnfoldedEdges.{hooks_unfolded}
use Rattle.fa_unfold.proofs.whole.unfold_edge.Goals as goal

pub edge_at-requires : goal.edge_at-requires
edge_at-requires c = rw c.forest.ensures c.requires.can

pub unfold_link_slot-requires-clause-at : goal.unfold_link_slot-requires-clause-at
unfold_link_slot-requires-clause-at c =
    let e = rw c.forest.ensures at c.edge_at.ensures in
    link_slot c.args.forest.now.forest c.args.root c.args.slot c.known.ensures.ranked c.requires.can
    c.in-Link.number (e ∙ ap (λ (s : Slot). Some s) c.in-Link.is)

pub replace_hook-requires-clause-at : goal.replace_hook-requires-clause-at
replace_hook-requires-clause-at c =
    let e = rw c.forest.ensures at c.edge_at.ensures in
    hook_slot c.args.forest.now.forest c.args.root c.args.slot c.known.ensures.ranked c.requires.can
    c.in-Hook.number (e ∙ ap (λ (s : Slot). Some s) c.in-Hook.is)

pub unreachable-requires : goal.unreachable-requires
unreachable-requires c =
    let e = rw c.forest.ensures at c.edge_at.ensures in
    field_no_edge c.in-Field.field-0 _ c.requires.can.edge (e ∙ ap (λ (s : Slot). Some s) c.in-Field.is)

pub returns-in_ok-made-in-Hook-clause-each : goal.returns-in_ok-made-in-Hook-clause-each
returns-in_ok-made-in-Hook-clause-each c =
    hooks_unfolded c.args.table.now c.args.forest.now.forest c.args.root c.args.slot c.in_ok-made-in-Hook.made
    c.in_ok-made-in-Hook.ensures.each
