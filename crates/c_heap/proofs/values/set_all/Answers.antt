use Rattle.std.proofs.Common.{add-one, sym, ap, ◌∙◌}
use Rattle.std.specs.Prelude.{slice_set}
use Rattle.c_types.specs.Steps.{below}
use Rattle.c_heap.proofs.ShapeLemmas.{set_each_more}
use Rattle.c_heap.proofs.values.set_all.Goals as goal

pub loop-i-preserved : goal.loop-i-preserved
loop-i-preserved g c =
    rw add-one (c.set_within.ensures
    ∙ ap (λ xs. slice_set xs c.loop-i.i c.args.item) c.loop-i.invariant
    ∙ sym (set_each_more c.args.list.now (below c.loop-i.i) c.loop-i.i c.args.item))
