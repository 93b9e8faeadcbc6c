use Rattle.std.proofs.Common.{refl, subst, sym}
use Rattle.c_cfg.specs.declared.graph.Const.{Const}
use Rattle.c_cfg.specs.declared.graph.Instr.TheVariants.{StoreConst}
use Rattle.sym_core.specs.Kept.{NeedsToStore}
use Rattle.sym_transfer.specs.Edited.{Becomes}
use Rattle.sym_transfer.proofs.Stored.{known_stored, null_stored}
use Rattle.sym_transfer.proofs.storing.stored_const.Goals as goal

pub stored_leaf-requires-clause-at : goal.stored_leaf-requires-clause-at
stored_leaf-requires-clause-at c =
    c.requires.explicit.plain c.args.to c.in-Ok.root c.args.field refl c.in-Ok.ensures.root
    (subst (λ (v : Const). NeedsToStore c.args.field v c.args.field) (sym c.in-Null.is) refl)

pub returns-in_ok-made-in-Null-clause-edited : goal.returns-in_ok-made-in-Null-clause-edited
returns-in_ok-made-in-Null-clause-edited c = λ T table x.
    let F = c.args.forest.now in
    let made = c.in_ok-made-in-Null.made in
    subst (λ (v : Const). Becomes F.face T F.forest (StoreConst c.args.to c.args.field v) x made) (sym c.in-Null.is)
    (null_stored F T x c.args.to c.args.field c.in-Ok.root c.in-Ok.ensures.root c.in-Ok.ensures.top made
    c.in_ok-made-in-Null.ensures.stored)

pub returns-in_ok-made-in-Known-clause-edited : goal.returns-in_ok-made-in-Known-clause-edited
returns-in_ok-made-in-Known-clause-edited c = λ T table x.
    let F = c.args.forest.now in
    let made = c.in_ok-made-in-Known.made in
    subst (λ (v : Const). Becomes F.face T F.forest (StoreConst c.args.to c.args.field v) x made) (sym c.in-Known.is)
    (known_stored F T x c.args.to c.args.field c.in-Ok.root c.in-Ok.ensures.root c.in-Known.number made
    c.in_ok-made-in-Known.ensures.stored)
