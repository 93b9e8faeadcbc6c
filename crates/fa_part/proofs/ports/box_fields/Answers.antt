use Rattle.std.proofs.Common.{[], subst}
use Rattle.fore_base.proofs.ListLemmas.{same_item}
use Rattle.fa_core.specs.declared.boxes.BoxDef.{BoxDef}
use Rattle.fa_part.proofs.TablePorts.{table_ports}
use Rattle.fa_part.specs.Ports.{AreFieldsOf}
use Rattle.fa_part.proofs.ports.box_fields.Goals as goal

pub fields_of-requires : goal.fields_of-requires
fields_of-requires c =
    table_ports c.args.table.now.face.shapes [] c.args.table.now.defs c.args.box_no c.box_def.result.now
    c.known.ensures.sound c.box_def.ensures

pub returns : goal.returns
returns c = λ def there.
    let T = c.args.table.now in
    let e = same_item T.defs c.args.box_no c.box_def.result.now def c.box_def.ensures there in
    subst (λ (z : BoxDef). AreFieldsOf T.face.boxes z c.in_ok-made.made) e
    (rw (c.as_slice.ensures, c.face.ensures) at c.in_ok-made.ensures)
