use Rattle.std.proofs.Common.{◌∙◌, List, [], ap, not}
use Rattle.fa_core.specs.declared.boxes.BoxDef.{BoxDef}
use Rattle.fa_core.specs.declared.forest.Target.{Target}
use Rattle.fa_edit.specs.Fits.{LeafFits}
use Rattle.fa_edit.specs.Leaves.{AllHaveLeaf, AllLackField}
use Rattle.sym_transfer.proofs.Stored.{held_there, put_form}
use Rattle.sym_transfer.proofs.storing.stored_leaf.Goals as goal

pub returns-clause-stored : goal.returns-clause-stored
returns-clause-stored c =
    let F = c.args.forest.now in
    let lacks = (T : List BoxDef) → AllLackField T F.forest c.args.root c.args.field in
    let has = λ (t : Target). ((T : List BoxDef) → AllHaveLeaf T F.forest c.args.root c.args.field t) in
    let fits : LeafFits F.face.shapes.structs F.forest c.args.root c.args.field c.args.leaf =
    c.leaf_fits.ensures.0 c.if-not-leaf_fits.false in
    let h = held_there lacks has c.leaf_of.result (c.is_none.ensures ∙ ap not c.if-is_none.false) c.leaf_of.ensures.held
    in
    (fits, λ T. (h.0, c.in_ok-made.ensures.put T h.0 (h.1 T)))

pub returns-clause-form : goal.returns-clause-form
returns-clause-form c =
    let F = c.args.forest.now in
    let lacks = (T : List BoxDef) → AllLackField T F.forest c.args.root c.args.field in
    let has = λ (t : Target). ((T : List BoxDef) → AllHaveLeaf T F.forest c.args.root c.args.field t) in
    let h = held_there lacks has c.leaf_of.result (c.is_none.ensures ∙ ap not c.if-is_none.false) c.leaf_of.ensures.held
    in
    put_form F c.in_ok-made.made c.args.root c.args.field h.0 c.args.leaf c.in_ok-made.ensures.face
    c.in_ok-made.ensures.plain (c.in_ok-made.ensures.put [] h.0 (h.1 []))
