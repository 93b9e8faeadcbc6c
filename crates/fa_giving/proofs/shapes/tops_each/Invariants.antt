use Rattle.std.proofs.Common.{take}
use Rattle.fore_base.specs.Lists.{Paired}
use Rattle.fa_giving.specs.inner.Shaped.{AreTopStructs}
use Rattle.fa_giving.proofs.shapes.tops_each.Given as goal

abbrev pub invariant-loop-auto : goal.invariant-loop-auto
invariant-loop-auto l = Paired AreTopStructs (take l.auto-index l.autos) l.all
