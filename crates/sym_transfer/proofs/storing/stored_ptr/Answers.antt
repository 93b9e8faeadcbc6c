use Rattle.std.proofs.Common.{subst}
use Rattle.fa_core.specs.declared.forest.Target.{Target}
use Rattle.sym_transfer.specs.inner.Parts.{IsLeafStored}
use Rattle.sym_transfer.proofs.Below.{top_at}
use Rattle.sym_transfer.proofs.PtrKinds.{store_fails}
use Rattle.sym_transfer.proofs.Stored.{ptr_stored}
use Rattle.sym_transfer.proofs.storing.stored_ptr.Goals as goal

pub returns-in_ok-made-in-Ok-clause-edited : goal.returns-in_ok-made-in-Ok-clause-edited
returns-in_ok-made-in-Ok-clause-edited c = λ T table x.
    let F = c.args.forest.now in
    let made = c.in_ok-made-in-Ok.made in
    ptr_stored F T x c.args.to c.args.field c.in-Ok.root c.in-Ok.ensures.root c.in-Ok.ensures.top
    c.args.from
    (λ k e. top_at F.face F.forest c.known.ensures.sound c.requires.explicit.tops c.args.from k e) made
    (subst (λ (t : Target). IsLeafStored F c.in-Ok.root c.args.field t made) c.target_of-leaf.ensures
    c.in_ok-made-in-Ok.ensures.stored)

pub returns-in-Err-clause-edited : goal.returns-in-Err-clause-edited
returns-in-Err-clause-edited c =
    λ T table x. store_fails c.args.forest.now.face T c.args.forest.now.forest c.args.to c.args.field c.args.from x
    c.in-Err.fault c.in-Err.ensures.fault
