use Rattle.std.proofs.Common.{sym, ◌∙◌}
use Rattle.fore_base.specs.Marks.{IsMarked}
use Rattle.fore_base.proofs.ListLemmas.{every_weaker}
use Rattle.fore_base.proofs.MarkLemmas.{all_from, all_to}
use Rattle.ta_core.specs.Language.{HasTree}
use Rattle.fa_cover.proofs.tops.have_trees.Goals as goal

pub returns : goal.returns
returns c =
    let marks = c.in_ok-marks.marks in
    let trees = HasTree c.args.auto.now.rules in
    let states = c.args.states.now in
    let e = rw c.as_slice.ensures at c.are_all_marked.ensures in
    let m = c.in_ok-marks.ensures in (
      (λ h. every_weaker (IsMarked marks) trees states m.only (all_from marks states (sym e ∙ h))),
      (λ k. e ∙ all_to marks states (every_weaker trees (IsMarked marks) states m.each k)),
    )
