use Rattle.fore_base.proofs.ListLemmas.{every_at}
use Rattle.fa_unfold.specs.inner.Ranges.{CanUnfoldBy}
use Rattle.fa_unfold.proofs.replacing.open_links.Goals as goal

pub open_link-requires-clause-by : goal.open_link-requires-clause-by
open_link-requires-clause-by c =
    every_at
    (CanUnfoldBy c.args.boxes.now c.args.forest.now c.args.root c.args.place c.args.end c.args.ends.now
    c.args.input.now c.args.output.now.auto c.args.output.now.tops)
    c.args.rules.now c.loop-rule.rule-index c.rule-item.result c.requires.by c.loop-rule-test.true c.rule-item.is
