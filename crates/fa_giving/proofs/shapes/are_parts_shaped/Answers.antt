use Rattle.std.proofs.Common.{ℕ, true, subst}
use Rattle.std.proofs.lemmas.List.{take_all}
use Rattle.fore_base.specs.Lists.{Every}
use Rattle.fa_giving.specs.inner.Shaped.{ForStruct, IsShapedRoot}
use Rattle.fa_giving.proofs.StructParts.{parts_shaped}
use Rattle.fa_giving.proofs.shapes.are_parts_shaped.Goals as goal

pub returns-clause-shaped : goal.returns-clause-shaped
returns-clause-shaped c =
    parts_shaped c.args.face.now c.args.autos.now c.args.tops.now c.args.place c.args.auto.now c.requires.full
    c.requires.tops c.requires.own c.args.rules.now c.requires.rules c.args.structs.now c.requires.structs
    (subst (Every (λ (s : ℕ). ForStruct c.args.autos.now c.args.place s (IsShapedRoot c.args.face.now c.args.place)
    true))
    (take_all c.loop-shape.shape-index c.args.structs.now c.loop-shape-test.false) c.loop-shape.invariant.1)
