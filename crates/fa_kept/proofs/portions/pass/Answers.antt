use Rattle.std.proofs.Common.{subst, sym}
use Rattle.fore_base.proofs.ListLemmas.{every_in, in_from_place}
use Rattle.fa_pool.specs.Pools.{IsKeptIn}
use Rattle.fa_pool.specs.declared.kept.Kept.{Kept}
use Rattle.fa_kept.specs.inner.Asking.{IsPassed}
use Rattle.fa_kept.specs.inner.Within.{CoversByNumbers}
use Rattle.fa_kept.proofs.Passing.{one_passed}
use Rattle.fa_kept.proofs.portions.pass.Goals as goal

pub returns-in-Some-clause-passed : goal.returns-in-Some-clause-passed
returns-in-Some-clause-passed g c =
    let pool = c.args.pool.now in
    let nodes = c.args.nodes.now in
    let forest = c.args.forest.now in
    let first = c.first_of.result.now in
    let within = every_in (IsKeptIn pool) nodes first c.requires.nodes
    (in_from_place nodes 0 first c.first_of.ensures) in
    subst (IsPassed (λ (node : Kept). CoversByNumbers pool node forest) nodes) (sym c.passed_one.ensures)
    (one_passed (λ (node : Kept). CoversByNumbers pool node forest) nodes first c.in-Some.met c.first_of.ensures
    (c.in-Some.ensures pool c.requires.agrees within c.requires.forest))
