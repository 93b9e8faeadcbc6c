use Rattle.std.proofs.Common.{sym, subst, IfOk}
use Rattle.std.proofs.lemmas.Result.{IfOk-at_ok}
use Rattle.fore_base.proofs.ListLemmas.{same_item}
use Rattle.fa_core.specs.declared.boxes.BoxDef.{BoxDef}
use Rattle.fa_part.proofs.TablePorts.{box_there, output_fits}
use Rattle.fa_part.specs.Parts.{IsPartOrNone}
use Rattle.fa_part.specs.Ports.{AreFieldsOf}
use Rattle.fa_part.proofs.parts.part.Goals as goal

pub part_by-requires-clause-fits : goal.part_by-requires-clause-fits
part_by-requires-clause-fits c =
    output_fits _ c.box_def.result.now c.args.output c.box_def.ensures c.requires.fits

pub returns : goal.returns
returns c = λ def there.
    let T = c.args.table.now in
    let b = c.box_def.result.now in
    let fields = IfOk-at_ok (AreFieldsOf T.face.boxes b) c.in_ok-fields.was (c.box_fields.ensures b c.box_def.ensures)
    in
    subst
    (λ (z : BoxDef). IfOk c.part_by.result
    (IsPartOrNone T.face.boxes c.args.forest.now.forest z c.args.input c.args.output))
    (same_item T.defs c.args.box_no b def c.box_def.ensures there)
    (c.part_by.ensures T.face.boxes fields)
