use Rattle.fa_edit.proofs.DatumPuts.{data_held}
use Rattle.fa_edit.proofs.data.datum_of.Goals as goal

pub returns-clause-held : goal.returns-clause-held
returns-clause-held c = data_held c.args.forest.now.forest c.args.root c.args.field c.requires.root c.requires.top
    c.datum_at.result (rw (c.component.ensures, c.forest.ensures) at c.datum_at.ensures)
