use Rattle.fa_written.proofs.ReachLemmas.{reached_fault}
use Rattle.fa_written.proofs.reader.read_lines.Goals as goal

pub returns-in-Err-clause-err : goal.returns-in-Err-clause-err
returns-in-Err-clause-err c =
    reached_fault c.args.text.now c.lines.rest.now c.split_line.result.0.now c.split_line.result.1.now c.lines.number
    c.lines.reading c.in-Err.fault c.lines.invariant.1 c.split_line.ensures.lines c.lines_say_one_thing.ensures
    c.in-Err.ensures.err
