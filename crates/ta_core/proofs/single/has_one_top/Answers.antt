use Rattle.std.proofs.Common.{slice_index_or}
use Rattle.ta_core.proofs.OneTop.{one_alone, one_counted}
use Rattle.ta_core.proofs.single.has_one_top.Goals as goal

pub returns-then-roots-eq1 : goal.returns-then-roots-eq1
returns-then-roots-eq1 c =
    let alone = one_alone c.args.auto.now.roots (rw c.roots_of-roots.ensures at c.if-roots-eq1.true) in
    let k = one_counted c.args.auto.now (slice_index_or c.args.auto.now.roots 0 0) alone in
    let m = rw (c.roots_of-roots.ensures, c.rules_of.ensures) at c.has_one_rule.ensures in
    ((λ t. k.0 (m.0 t)), (λ h. m.1 (k.1 h)))
