use Rattle.std.proofs.Common.{take, true, ℕ}
use Rattle.fore_base.specs.Lists.{Every, Paired}
use Rattle.fa_giving.specs.inner.Shaped.{ForStruct, IsShapedRoot, AreTopStructs}
use Rattle.fa_giving.proofs.shapes.are_parts_shaped.Given as goal

abbrev pub invariant-loop-shape : goal.invariant-loop-shape
invariant-loop-shape l = Paired AreTopStructs l.autos l.tops
    × Every (λ (s : ℕ). ForStruct l.autos l.place s (IsShapedRoot l.face l.place) true) (take l.shape-index l.structs)
