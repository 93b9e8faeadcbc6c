use Rattle.std.proofs.Common.{◌≡◌, ◌+◌, suc, subst, arith}
use Rattle.ta_core.specs.Auto.{Automaton}
use Rattle.fa_height.specs.inner.Agreeing.{AreRulesEach, IsAgreement, IsRefined}
use Rattle.fa_height.proofs.Agreements.{agree_more}
use Rattle.fa_height.proofs.agreeing.agreement.Goals as goal

pub loop-round-preserved : goal.loop-round-preserved
loop-round-preserved c =
    let own = rw c.as_slice.ensures at c.in_ok-rules.ensures in
    let made = rw (c.as_slice-in-loop-round.ensures, c.as_slice-in-loop-round-2.ensures) at c.in_ok-classes.ensures in
    let next : suc c.loop-round._round ≡ c.loop-round._round + 1 = omega arith in
    subst (λ n. IsAgreement c.args.auto.now.rules c.args.auto.now.states n c.in_ok-classes.classes) next
    (agree_more c.args.auto.now.states c.args.auto.now.rules c.known.ensures.1 c.in_ok-rules.rules
    (subst (λ (a : Automaton). AreRulesEach a.rules a.states c.in_ok-rules.rules) c.auto.view_is own)
    c.loop-round._round c.loop-round.classes c.loop-round.invariant c.in_ok-classes.classes
    (subst (λ (a : Automaton). IsRefined c.in_ok-rules.rules c.loop-round.classes a.states c.in_ok-classes.classes)
    c.auto.view_is made))
