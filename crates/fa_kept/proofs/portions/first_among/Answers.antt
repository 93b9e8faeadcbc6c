use Rattle.std.proofs.Common.{Bool, false, List, arith, drop, subst}
use Rattle.fa_pool.specs.declared.kept.Kept.{Kept}
use Rattle.fa_kept.specs.inner.Asking.{IsPassedTo}
use Rattle.fa_kept.specs.inner.Within.{CoversByNumbers}
use Rattle.fa_kept.proofs.Passing.{least_on, passed_on}
use Rattle.fa_kept.proofs.portions.first_among.Goals as goal

pub returns-then-passed-clause-first : goal.returns-then-passed-clause-first
returns-then-passed-clause-first g c =
    let covers = λ (node : Kept). CoversByNumbers c.args.pool.now node c.args.forest.now in
    let nodes = c.args.nodes.now in
    let count = c.in_ok-passed.passed.count in
    let rest = subst (λ (zs : List Kept). IsPassedTo covers zs count c.in_ok-passed.passed.met) c.split_at.ensures.back
    c.in_ok-passed.ensures.passed in
    least_on covers nodes c.nodes.at count c.nodes.invariant.2
    (subst (λ (b : Bool). IsPassedTo covers (drop c.nodes.at nodes) count b) c.if-passed.true rest)

pub nodes-preserved : goal.nodes-preserved
nodes-preserved g c =
    let covers = λ (node : Kept). CoversByNumbers c.args.pool.now node c.args.forest.now in
    let nodes = c.args.nodes.now in
    let count = c.in_ok-passed.passed.count in
    let rest = subst (λ (b : Bool). IsPassedTo covers c.split_at.result.1.now count b) c.if-passed.false
    c.in_ok-passed.ensures.passed in
    let few = rest.1 in
    let long = c.split_at.ensures.back_len in (
      c.in_ok-passed.ensures.agrees,
      omega (arith, few, long),
      passed_on covers nodes c.nodes.at count c.nodes.invariant.2
          (subst (λ (zs : List Kept). IsPassedTo covers zs count false) c.split_at.ensures.back rest),
    )
