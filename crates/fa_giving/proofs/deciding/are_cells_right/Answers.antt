use Rattle.std.proofs.Common.{◌<◌, ℕ, List, Bool, subst, length}
use Rattle.ta_core.specs.declared.tree.Tree.{Tree}
use Rattle.fa_giving.specs.inner.Shaped.{IsShapedRoot, IsOnceRoot}
use Rattle.fa_giving.specs.inner.Totals.{ForAll}
use Rattle.fa_giving.proofs.RightCells.{not_shaped, not_once, cells_decide}
use Rattle.fa_giving.proofs.deciding.are_cells_right.Goals as goal

pub returns-then-not-branch : goal.returns-then-not-branch
returns-then-not-branch c = not_shaped c.args.face.now c.args.ports c.args.autos.now
    (subst (λ (b : Bool). ForAll c.args.autos.now (λ (ts : List Tree). (r : ℕ) → r < length c.args.autos.now
    → IsShapedRoot c.args.face.now r ts) b) c.if-not-branch.true c.in_ok-are_shaped.ensures)

pub returns-then-not-branch-2 : goal.returns-then-not-branch-2
returns-then-not-branch-2 c = not_once c.args.face.now c.args.ports c.args.autos.now
    (subst (λ (b : Bool). ForAll c.args.autos.now (λ (ts : List Tree). (r : ℕ) → r < length c.args.autos.now
    → IsOnceRoot c.args.face.now r ts) b) c.if-not-branch-2.true c.in_ok-are_below_once.ensures)

pub returns : goal.returns
returns c = cells_decide c.args.face.now c.args.ports c.args.autos.now
    (subst (λ (b : Bool). ForAll c.args.autos.now (λ (ts : List Tree). (r : ℕ) → r < length c.args.autos.now
    → IsShapedRoot c.args.face.now r ts) b) c.if-not-branch.false c.in_ok-are_shaped.ensures)
    (subst (λ (b : Bool). ForAll c.args.autos.now (λ (ts : List Tree). (r : ℕ) → r < length c.args.autos.now
    → IsOnceRoot c.args.face.now r ts) b) c.if-not-branch-2.false c.in_ok-are_below_once.ensures)
    c.in_ok-yes.yes c.in_ok-yes.ensures
