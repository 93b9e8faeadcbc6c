use Rattle.fa_core.specs.Boxes.{Boxes}
use Rattle.fa_core.proofs.TablesGive.{table_push}
use Rattle.fa_core.proofs.table.BoxTable.add.Goals as goal

pub invariant_of-self : goal.invariant_of-self
invariant_of-self c =
    let i = c.self.inside in
    let t : Boxes = record { face = i.face; defs = i.defs } in
    let room = rw (← c.self.view_is) at c.requires.room in
    let new = rw (← c.self.view_is) at c.requires.new in
    let sound = rw (← c.self.view_is) at c.requires.sound in
    rw (
      c.in_ok-push.ensures.ok,
      c.in_ok-defs.ensures,
      c.in_ok-copy.ensures,
      c.in_ok-push-2.ensures.ok,
      c.in_ok-boxes.ensures,
      c.in_ok-copy-2.ensures,
    ) (table_push t c.args.def.now c.self.invariant room c.requires.word new c.requires.inside sound)
