use Rattle.fa_written.proofs.SplitLemmas.{line_front}
use Rattle.fa_written.proofs.splitting.split_line.Goals as goal

pub returns-clause-lines : goal.returns-clause-lines
returns-clause-lines c =
    line_front c.args.text.now c.split_at.result.0.now c.split_at.result.1.now c.behind_newline.result.now
    c.line_size-size.result
    c.requires c.line_size-size.ensures.value c.split_at.ensures.front c.split_at.ensures.back
    c.behind_newline.ensures.value
