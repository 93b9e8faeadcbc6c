use Rattle.std.proofs.Common.{◌<◌, length, sym, ap, ◌∙◌, arith}
use Rattle.std.specs.Prelude.{slice_set}
use Rattle.std.proofs.lemmas.List.Edits.{map_over_more}
use Rattle.std.proofs.lemmas.Option.{get_or_from_slice_get}
use Rattle.fore_base.specs.Stores.{dangle}
use Rattle.c_heap.proofs.values.dangle_all.Goals as goal

pub loop-i-preserved : goal.loop-i-preserved
loop-i-preserved c =
    let value = c.at-value.result.now in
    let within : c.loop-i.i < length c.args.values.now = omega arith in
    c.set.ensures
    ∙ ap (slice_set c.loop-i.values c.loop-i.i) c.dangled.ensures
    ∙ map_over_more (dangle c.args.number) c.args.values.now c.loop-i.values c.loop-i.i value within c.loop-i.invariant
    (sym (get_or_from_slice_get c.loop-i.values c.loop-i.i value value c.at-value.ensures))
