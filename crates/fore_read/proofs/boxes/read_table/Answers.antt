use Rattle.std.proofs.Common.{[], ◌∷◌, IfOk, IfErr, refl, subst}
use Rattle.fore_outside.specs.NamedFiles.{reading}
use Rattle.fa_text.specs.Files.{IsBoxFile}
use Rattle.fore_read.specs.Readings.{reading_of}
use Rattle.fore_read.specs.Bytes.{IsTableFault}
use Rattle.fore_read.proofs.Taking.{gives_table, boxes_fault}
use Rattle.fore_read.proofs.boxes.read_table.Goals as goal

pub returns-in-Ok-clause-ok : goal.returns-in-Ok-clause-ok
returns-in-Ok-clause-ok g c =
    let read = c.in-Ok.ensures in
    gives_table (reading_of g.L.Shelf c.args.shelf.now c.read_all.new.self) c.args.path.now c.in-Ok.text
    c.args.shapes.now read.gives (record { within = read.within; held = read.content }) c.table_of.result
    (subst (λ text. IfOk c.table_of.result (IsBoxFile text c.args.shapes.now)) c.as_slice.ensures
    c.table_of.ensures.ok)

pub returns-in-Ok-clause-err : goal.returns-in-Ok-clause-err
returns-in-Ok-clause-err g c =
    let read = c.in-Ok.ensures in
    boxes_fault (reading_of g.L.Shelf c.args.shelf.now c.read_all.new.self) c.args.path.now c.in-Ok.text
    c.args.shapes.now read.gives (record { within = read.within; held = read.content }) c.table_of.result
    (subst (λ text. IfErr c.table_of.result (IsTableFault text c.args.shapes.now)) c.as_slice.ensures
    c.table_of.ensures.err)

pub returns-in-Ok-clause-reads : goal.returns-in-Ok-clause-reads
returns-in-Ok-clause-reads g c = record {
  done = reading c.args.path.now c.in-Ok.text ∷ [];
  given = c.in-Ok.ensures.gives;
  at_most = refl;
  holds = c.in-Ok.ensures.keeps;
  never_falls = c.in-Ok.ensures.never_falls;
}
