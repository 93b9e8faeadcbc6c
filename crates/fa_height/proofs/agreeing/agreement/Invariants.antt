use Rattle.fa_height.specs.inner.Agreeing.{IsAgreement}
use Rattle.fa_height.proofs.agreeing.agreement.Given as goal

abbrev pub invariant-loop-round : goal.invariant-loop-round
invariant-loop-round l = IsAgreement l.auto'.rules l.auto'.states l._round l.classes
