use Rattle.std.proofs.Common.{take}
use Rattle.fore_base.specs.Lists.{Every}
use Rattle.fa_merge.specs.inner.Idle.{GivesNoneTo}
use Rattle.fa_merge.proofs.idle.give_none_to.Given as goal

abbrev pub invariant-loop-signature : goal.invariant-loop-signature
invariant-loop-signature l = Every (λ s. GivesNoneTo l.root s.refs) (take l.signature-index l.signatures)
