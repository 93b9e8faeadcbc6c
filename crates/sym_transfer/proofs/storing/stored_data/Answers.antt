use Rattle.std.proofs.Common.{subst}
use Rattle.fore_base.specs.declared.store.Datum.{Datum}
use Rattle.sym_transfer.specs.inner.Parts.{IsDatumStored}
use Rattle.sym_transfer.proofs.Stored.{datum_stored}
use Rattle.sym_transfer.proofs.storing.stored_data.Goals as goal

pub returns-in_ok-made-in-Ok-clause-edited : goal.returns-in_ok-made-in-Ok-clause-edited
returns-in_ok-made-in-Ok-clause-edited c = λ T table x.
    let F = c.args.forest.now in
    let made = c.in_ok-made-in-Ok.made in
    datum_stored F T x c.args.to c.args.field c.in-Ok.root c.in-Ok.ensures.root c.args.from made
    (subst (λ (y : Datum). IsDatumStored F c.in-Ok.root c.args.field y made) c.datum_of-datum.ensures
    c.in_ok-made-in-Ok.ensures.stored)
