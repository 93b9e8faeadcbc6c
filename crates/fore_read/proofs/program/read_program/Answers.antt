use Rattle.std.proofs.Common.{[], ◌∷◌, IfOk, IfErr, refl, subst}
use Rattle.fore_outside.specs.NamedFiles.{reading}
use Rattle.c_front.specs.Files.{IsProgramOf}
use Rattle.fore_read.specs.Readings.{reading_of}
use Rattle.fore_read.specs.Bytes.{IsProgramFault}
use Rattle.fore_read.proofs.Taking.{gives_program, file_fault}
use Rattle.fore_read.proofs.program.read_program.Goals as goal

pub returns-in-Ok-clause-ok : goal.returns-in-Ok-clause-ok
returns-in-Ok-clause-ok g c =
    let read = c.in-Ok.ensures in
    gives_program (reading_of g.L.Shelf c.args.shelf.now c.read_all.new.self) c.args.path.now c.in-Ok.bytes
    read.gives (record { within = read.within; held = read.content }) c.program_of.result
    (subst (λ bytes. IfOk c.program_of.result (IsProgramOf bytes)) c.as_slice.ensures c.program_of.ensures.ok)

pub returns-in-Ok-clause-err : goal.returns-in-Ok-clause-err
returns-in-Ok-clause-err g c =
    let read = c.in-Ok.ensures in
    file_fault (reading_of g.L.Shelf c.args.shelf.now c.read_all.new.self) c.args.path.now c.in-Ok.bytes
    read.gives (record { within = read.within; held = read.content }) c.program_of.result
    (subst (λ bytes. IfErr c.program_of.result (IsProgramFault bytes)) c.as_slice.ensures c.program_of.ensures.err)

pub returns-in-Ok-clause-reads : goal.returns-in-Ok-clause-reads
returns-in-Ok-clause-reads g c = record {
  done = reading c.args.path.now c.in-Ok.bytes ∷ [];
  given = c.in-Ok.ensures.gives;
  at_most = refl;
  holds = c.in-Ok.ensures.keeps;
  never_falls = c.in-Ok.ensures.never_falls;
}
