use Rattle.fa_signatures.proofs.CutLaws.{none_cut}
use Rattle.fa_signatures.proofs.parts.product_forests.Goals as goal

pub returns-then-branch-clause-cut : goal.returns-then-branch-clause-cut
returns-then-branch-clause-cut c =
    let h = rw c.as_slice.ensures at c.in_ok-has_empty.ensures in
    let w = h c.if-branch.true in
    rw c.new.ensures (none_cut c.args.face.now.boxes c.args.forest.now w.0 w.1 w.2)
