use Rattle.std.proofs.Common.{◌≡◌, ◌∙◌, sym, subst, ℕ}
use Rattle.std.proofs.lemmas.Result.{IfOk-weaker}
use Rattle.fa_core.specs.Filled.{IsSound}
use Rattle.fa_core.specs.declared.forest.Forest.{Forest}
use Rattle.fa_sound.specs.Components.{component_at}
use Rattle.fa_signatures.specs.CutPieces.{IsPiece}
use Rattle.fa_merge.specs.Merged.{HasTreesOf}
use Rattle.fa_merge.proofs.MergedCut.{piece_within, piece_sound, piece_trees}
use Rattle.fa_merge.proofs.grafting.with_piece.Goals as goal

pub replace-requires : goal.replace-requires
replace-requires c =
    let s = c.args.forest.now in
    piece_within s.face s.forest c.args.root c.args.into c.requires.lone c.known.ensures.sound c.args.made.now
    c.requires.made c.lowered_root-place.result c.lowered_root-place.ensures

pub of-requires : goal.of-requires
of-requires c =
    let s = c.args.forest.now in
    let place = c.lowered_root-place.result in
    let piece = subst (λ (k : ℕ). IsPiece s.face.boxes (component_at c.args.made.now.autos k) c.args.piece)
    (sym c.lowered_root-place.ensures) c.requires.piece in
    rw c.face.ensures
    (subst (λ (z : Forest). IsSound s.face z) (sym c.in_ok-cut.ensures)
    (piece_sound s.face s.forest c.args.root c.args.into c.requires.lone c.known.ensures.sound c.args.made.now
    c.requires.made place c.lowered_root-place.ensures c.args.piece piece))

pub returns-clause-trees : goal.returns-clause-trees
returns-clause-trees c =
    let s = c.args.forest.now in
    let place = c.lowered_root-place.result in
    let piece = subst (λ (k : ℕ). IsPiece s.face.boxes (component_at c.args.made.now.autos k) c.args.piece)
    (sym c.lowered_root-place.ensures) c.requires.piece in
    IfOk-weaker c.of.result (λ x. x.forest ≡ c.in_ok-cut.cut) (λ x. HasTreesOf c.args.made.now x.forest)
    (λ x e. subst (λ (z : Forest). HasTreesOf c.args.made.now z) (sym (e ∙ c.in_ok-cut.ensures))
    (piece_trees s.face s.forest c.args.root c.args.into c.requires.lone c.known.ensures.sound c.args.made.now
    c.requires.made place c.lowered_root-place.ensures c.args.piece piece))
    c.of.ensures.forest
