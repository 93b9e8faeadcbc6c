use Rattle.fa_written.proofs.ReachLemmas.{not_taken, other_fails}
use Rattle.fa_written.specs.inner.Moves.{moved}
use Rattle.fa_written.proofs.reader.take_said.Goals as goal

pub returns-in-Err-Other-clause-err : goal.returns-in-Err-Other-clause-err
returns-in-Err-Other-clause-err c =
    let none = other_fails c.in-Err-Other.field-0 (moved c.args.reading c.args.number c.args.line)
    c.in-Err-Other.field-0-is
    c.in-Err-Other.ensures in
    not_taken c.args.bytes.now c.args.number c.args.reading c.args.line c.requires none c.in_ok-check_open.ensures.refs
