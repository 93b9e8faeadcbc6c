use Rattle.std.proofs.Common.{sym, subst}
use Rattle.fa_core.specs.Filled.{IsSound}
use Rattle.fix_engine.proofs.Starting.{start_sound}
use Rattle.fix_engine.proofs.first.start_forest.Goals as goal

pub of-requires : goal.of-requires
of-requires c =
    subst (IsSound c.face.result.now) (sym c.in_ok-forest.ensures)
    (start_sound c.face.result.now c.graph.inside.ptrs c.graph.inside.datums)
