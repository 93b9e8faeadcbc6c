use Rattle.std.proofs.Common.{◌≡◌, sym, ◌∙◌}
use Rattle.fore_base.proofs.ListLemmas.{every_weaker}
use Rattle.fa_sound.specs.Soundness.{SoundForest}
use Rattle.fa_unfold.proofs.UnfoldedEdges.{can_split, parts_linked, parts_unfolded, parts_whole, rules_give}
use Rattle.fa_unfold.proofs.whole.unfold_link_slot.Goals as goal

pub split_child-requires-clause-can : goal.split_child-requires-clause-can
split_child-requires-clause-can c =
    rw (c.child_place-place.ensures, c.forest.ensures)
    (can_split c.args.table.now c.args.forest.now c.requires.face c.known.ensures c.args.root c.args.slot c.args.number
    c.requires.at)

pub split_child-requires-clause-gives : goal.split_child-requires-clause-gives
split_child-requires-clause-gives c =
    rules_give c.args.table.now c.args.forest.now c.requires.face c.known.ensures c.args.root c.args.slot c.args.number
    c.requires.at c.known-2.ensures

pub unfold_parts-requires-clause-face : goal.unfold_parts-requires-clause-face
unfold_parts-requires-clause-face c =
    rw c.as_slice.ensures
    (every_weaker (λ (s : SoundForest). s.face ≡ c.args.forest.now.face)
    (λ (s : SoundForest). c.args.table.now.face ≡ s.face) c.in_ok-parts.parts (λ s e. c.requires.face ∙ sym e)
    c.in_ok-parts.ensures.face)

pub unfold_parts-requires-clause-at : goal.unfold_parts-requires-clause-at
unfold_parts-requires-clause-at c =
    let dressed = rw (c.child_place-place.ensures, c.forest.ensures)
    at (c.in_ok-parts.ensures.dressed c.args.table.now.defs) in
    rw c.as_slice.ensures
    (parts_linked c.args.table.now c.args.forest.now c.requires.face c.known.ensures c.args.root c.args.slot
    c.args.number c.requires.at c.in_ok-parts.parts dressed)

pub returns-clause-each : goal.returns-clause-each
returns-clause-each c =
    let dressed = rw (c.child_place-place.ensures, c.forest.ensures)
    at (c.in_ok-parts.ensures.dressed c.args.table.now.defs) in
    parts_unfolded c.args.table.now c.args.forest.now c.requires.face c.known.ensures c.args.root c.args.slot
    c.args.number c.requires.at c.in_ok-parts.parts dressed c.in_ok-parts.ensures.vars c.in_ok-made.made
    (rw c.as_slice.ensures at c.in_ok-made.ensures.each)

pub returns-clause-whole : goal.returns-clause-whole
returns-clause-whole c =
    let dressed = rw (c.child_place-place.ensures, c.forest.ensures)
    at (c.in_ok-parts.ensures.dressed c.args.table.now.defs) in
    let are = rw (c.child_place-place.ensures, c.forest.ensures) at c.in_ok-parts.ensures.value in
    parts_whole c.args.table.now c.args.forest.now c.requires.face c.known.ensures c.args.root c.args.slot
    c.args.number c.requires.at c.in_ok-parts.parts dressed are c.in_ok-made.made
    (rw c.as_slice.ensures at c.in_ok-made.ensures.whole)
