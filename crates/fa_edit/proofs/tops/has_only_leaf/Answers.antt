use Rattle.std.proofs.Common.{true≢false, sym}
use Rattle.fa_edit.proofs.PlainFields.{only_all, only_there}
use Rattle.fa_edit.proofs.tops.has_only_leaf.Goals as goal

pub returns-in-Some : goal.returns-in-Some
returns-in-Some c =
    let k = only_all c.args.rules.now c.args.state c.in-Some.rule.now c.target_of.result c.in-Some.ensures.0
    c.in-Some.ensures.1 c.target_of.ensures in
    ((λ t. k.0 (c.are_of.ensures.0 t)), (λ h. c.are_of.ensures.1 (k.1 h)))

pub returns-in-None : goal.returns-in-None
returns-in-None c =
    ((λ t. absurd (true≢false (sym t))), (λ h. absurd (only_there c.args.rules.now c.args.state h c.in-None.ensures)))
