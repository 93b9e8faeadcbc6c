use Rattle.std.proofs.Common.{rules, ◌≡◌, None}
use Rattle.fa_written.proofs.ReachLemmas.{reached_whole, reached_open}
use Rattle.fa_written.proofs.reader.finished.Goals as goal

pub returns-then-is_whole-clause-ok : goal.returns-then-is_whole-clause-ok
returns-then-is_whole-clause-ok c =
    let none : c.args.reading.current ≡ None = search rules in
    reached_whole c.args.text.now c.args.number c.args.reading.boxes c.args.reading.current c.requires none

pub returns-else-is_whole-clause-err : goal.returns-else-is_whole-clause-err
returns-else-is_whole-clause-err c =
    let some : c.args.reading.current ≡ None → ⊥ = search rules in
    reached_open c.args.text.now c.args.number c.args.reading.boxes c.args.reading.current c.requires some
