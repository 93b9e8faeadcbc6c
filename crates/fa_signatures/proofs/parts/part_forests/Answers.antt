use Rattle.std.proofs.Common.{◌≡◌, List, map, sym, subst}
use Rattle.std.proofs.lemmas.Result.{IfOk-weaker}
use Rattle.fa_sound.specs.Soundness.{SoundForest}
use Rattle.fa_sound.specs.Unions.{forests}
use Rattle.fa_signatures.specs.CutForests.{AreCutForests}
use Rattle.fa_signatures.specs.inner.CutProducts.{product, with_autos}
use Rattle.fa_signatures.proofs.CutLaws.{product_cuts, product_pieces}
use Rattle.fa_signatures.proofs.parts.part_forests.Goals as goal

pub forests-requires-clause-pieces : goal.forests-requires-clause-pieces
forests-requires-clause-pieces c =
    let h = rw (c.as_slice.ensures, c.as_slice-2.ensures) at c.in_ok-pieces.ensures in
    rw (c.as_slice-4.ensures, c.in_ok-choices.ensures, c.as_slice-3.ensures)
    (product_pieces c.args.face.now.boxes c.args.forest.now c.in_ok-pieces.pieces h)

pub returns-clause-cut : goal.returns-clause-cut
returns-clause-cut c =
    let F = c.args.forest.now in
    let fs = c.args.face.now.boxes in
    let pieces = c.in_ok-pieces.pieces in
    let h = rw (c.as_slice.ensures, c.as_slice-2.ensures) at c.in_ok-pieces.ensures in
    let p = rw (c.as_slice-4.ensures, c.in_ok-choices.ensures, c.as_slice-3.ensures) at c.forests.ensures.forests in
    IfOk-weaker c.forests.result (λ (list : List SoundForest). forests list ≡ map (with_autos F) (product pieces))
    (λ (list : List SoundForest). AreCutForests fs F (forests list))
    (λ list e. subst (AreCutForests fs F) (sym e) (product_cuts fs F pieces h)) p
