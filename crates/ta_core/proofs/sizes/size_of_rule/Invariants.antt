use Rattle.std.proofs.Common.{◌≡◌, drop, Some}
use Rattle.ta_core.specs.inner.Sizes.{total}
use Rattle.ta_core.proofs.sizes.size_of_rule.Given as goal

abbrev pub invariant-loop-child : goal.invariant-loop-child
invariant-loop-child l = total l.sizes l.size (drop l.child-index l.rule.children)
    ≡ total l.sizes (Some 1) l.rule.children
