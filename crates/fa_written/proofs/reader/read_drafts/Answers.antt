use Rattle.fa_written.proofs.WholeLemmas.{only_boxes, only_first}
use Rattle.fa_written.proofs.reader.read_drafts.Goals as goal

pub returns-clause-boxes : goal.returns-clause-boxes
returns-clause-boxes c = λ boxes t.
    only_boxes c.lines_say_one_thing.ensures c.args.text.now boxes c.read_whole.result c.read_whole.ensures.ok
    c.read_whole.ensures.err t

pub returns-clause-first : goal.returns-clause-first
returns-clause-first c = λ line bad.
    only_first c.lines_say_one_thing.ensures c.args.text.now line c.read_whole.result c.read_whole.ensures.ok
    c.read_whole.ensures.err bad
