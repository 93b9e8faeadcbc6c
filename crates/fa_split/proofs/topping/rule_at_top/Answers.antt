use Rattle.std.proofs.Common.{◌∙◌, sym, true≢false}
use Rattle.fa_back.proofs.RootMarks.{in_has}
use Rattle.fa_split.specs.Split.{top_rule}
use Rattle.fa_split.proofs.TopRules.{top_in, top_root}
use Rattle.fa_split.proofs.topping.rule_at_top.Goals as goal

pub unreachable-requires : goal.unreachable-requires
unreachable-requires c =
    let a = c.args.auto.now in
    let none = rw (c.rules_of.ensures, c.roots_of.ensures) at c.in-None.ensures in
    true≢false (sym (in_has (top_rule a).state a.roots (top_root a c.requires))
    ∙ none (top_rule a) (top_in a c.requires))
