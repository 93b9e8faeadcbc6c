use Rattle.std.proofs.Common.{◌<◌, sym, subst}
use Rattle.fa_core.specs.Folding.{FoldOf}
use Rattle.fa_core.specs.declared.forest.Forest.{Forest}
use Rattle.fa_fold.specs.TopFields.{all_top_fields}
use Rattle.fa_fold.proofs.folds.fold_ports.Goals as goal

pub returns-clause-fold : goal.returns-clause-fold
returns-clause-fold c =
    let T = c.args.table.now in
    let F = c.args.forest.now.forest in
    let e = rw c.face.ensures at c.in_ok-made.ensures.value in
    subst (λ (G : Forest). FoldOf T.face.boxes T.defs F G c.args.box_no c.args.input c.args.output c.in_ok-part.part)
    (sym e) (c.requires.can.fold c.in_ok-part.part c.in_ok-part.ensures)

pub returns-clause-falls : goal.returns-clause-falls
returns-clause-falls c =
    let e = rw c.face.ensures at c.in_ok-made.ensures.value in
    subst (λ (G : Forest). all_top_fields G.autos < all_top_fields c.args.forest.now.forest.autos) (sym e)
    c.requires.can.falls
