use Rattle.std.proofs.Common.{◌∙◌}
use Rattle.fa_kept.proofs.Entries.{answered}
use Rattle.fa_kept.proofs.memo.Memo.answer.Goals as goal

pub returns : goal.returns
returns c =
    let found = answered (c.args.narrow, c.args.wide) c.self.inside.answers.entries c.copied.result
    (c.copied.ensures ∙ c.get.ensures.value) in
    rw c.self.view_is at found
