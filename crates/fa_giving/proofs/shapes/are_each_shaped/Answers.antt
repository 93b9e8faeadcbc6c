use Rattle.std.proofs.Common.{subst, Bool}
use Rattle.fa_giving.specs.inner.Shaped.{IsShapedRoot}
use Rattle.fa_giving.specs.inner.Totals.{ForAll}
use Rattle.fa_giving.proofs.RootFields.{one_more}
use Rattle.fa_giving.proofs.shapes.are_each_shaped.Goals as goal

pub loop-place-preserved : goal.loop-place-preserved
loop-place-preserved c =
    let face = c.args.face.now in
    let n = c.loop-place.place in
    let h = subst (λ (b : Bool). ForAll c.args.autos.now (IsShapedRoot face n) b) c.if-not-branch.false
    c.in_ok-is_shaped.ensures.shaped in (
      c.in_ok-is_shaped.ensures.tops,
      λ ts k r l. one_more {Q = λ r. IsShapedRoot face r ts} n (λ r j. c.loop-place.invariant.1 ts k r j) (h ts k) r l,
    )
