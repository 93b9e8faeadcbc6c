use Rattle.std.proofs.Common.{arith}
use Rattle.fa_core.specs.Folding.{symbol_slots}
use Rattle.fa_sound.specs.Components.{component_at}
use Rattle.fa_split.specs.Split.{top_rule}
use Rattle.fa_unfold.proofs.EdgeSlots.{place_within}
use Rattle.fa_unfold.proofs.edges.child_place.Goals as goal

pub children_before-requires : goal.children_before-requires
children_before-requires c =
    let x = top_rule (component_at c.args.forest.now.autos c.args.root) in
    let k = place_within (symbol_slots x.symbol) x.children c.args.slot _ c.requires.slot in
    rw (c.slots_at_top.ensures, c.component.ensures) (omega (arith, k))
