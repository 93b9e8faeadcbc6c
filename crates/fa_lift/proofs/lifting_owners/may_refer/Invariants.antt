use Rattle.std.proofs.Common.{take}
use Rattle.fa_lift.specs.Lift.{MayRefer}
use Rattle.fa_lift.proofs.lifting_owners.may_refer.Given as goal

abbrev pub invariant-loop-rule : goal.invariant-loop-rule
invariant-loop-rule l = MayRefer (take l.rule-index l.rules) l.root l.state → ⊥
