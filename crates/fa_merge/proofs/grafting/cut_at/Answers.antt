use Rattle.std.proofs.Common.{◌≡◌, ◌∙◌, ap, refl, subst, List}
use Rattle.ta_core.specs.Auto.{Automaton}
use Rattle.fa_core.specs.declared.faces.BoxFace.{BoxFace}
use Rattle.fa_core.specs.declared.faces.Face.{Face}
use Rattle.fa_sound.specs.Components.{component_at}
use Rattle.fa_signatures.specs.CutPieces.{AreCut}
use Rattle.fa_merge.specs.Merged.{lowered}
use Rattle.fa_merge.proofs.MergedCut.{last_piece, piece_within, some_piece}
use Rattle.fa_merge.proofs.grafting.cut_at.Goals as goal

pub component-requires : goal.component-requires
component-requires c =
    let s = c.args.forest.now in
    piece_within s.face s.forest c.args.root c.args.into c.requires.lone c.known.ensures.sound c.args.made.now
    c.requires.made c.lowered_root-place.result c.lowered_root-place.ensures

pub with_piece-requires-clause-piece : goal.with_piece-requires-clause-piece
with_piece-requires-clause-piece c =
    let s = c.args.forest.now in
    let place = lowered c.args.root c.args.into in
    let boxes : c.as_slice-boxes.result.now ≡ s.face.boxes = c.as_slice-boxes.ensures
    ∙ ap (λ (x : Face). x.boxes) c.face.ensures in
    let whole : c.component.result.now ≡ component_at c.args.made.now.autos (lowered c.args.root c.args.into) =
    c.component.ensures ∙ ap (component_at c.args.made.now.autos) c.lowered_root-place.ensures in
    let pieces = c.in_ok-pieces.pieces in
    let cut = subst (λ (a : Automaton). AreCut s.face.boxes a c.in_ok-pieces.pieces) whole
    (subst (λ (bs : List BoxFace). AreCut bs c.component.result.now c.in_ok-pieces.pieces) boxes
    c.in_ok-pieces.ensures.cut) in
    last_piece s.face s.forest c.args.root c.args.into c.requires.lone c.known.ensures.sound c.args.made.now
    c.requires.made place refl pieces _ c.in-Some.piece cut c.in-Some.ensures

pub unreachable-requires : goal.unreachable-requires
unreachable-requires c =
    let s = c.args.forest.now in
    let place = lowered c.args.root c.args.into in
    let boxes : c.as_slice-boxes.result.now ≡ s.face.boxes = c.as_slice-boxes.ensures
    ∙ ap (λ (x : Face). x.boxes) c.face.ensures in
    let whole : c.component.result.now ≡ component_at c.args.made.now.autos (lowered c.args.root c.args.into) =
    c.component.ensures ∙ ap (component_at c.args.made.now.autos) c.lowered_root-place.ensures in
    let cut = subst (λ (a : Automaton). AreCut s.face.boxes a c.in_ok-pieces.pieces) whole
    (subst (λ (bs : List BoxFace). AreCut bs c.component.result.now c.in_ok-pieces.pieces) boxes
    c.in_ok-pieces.ensures.cut) in
    some_piece s.face s.forest c.args.root c.args.into c.requires.lone c.known.ensures.sound c.args.made.now
    c.requires.made place refl c.in_ok-pieces.pieces cut c.in-None.ensures.0
