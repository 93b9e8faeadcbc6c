use Rattle.fa_join.proofs.CoveredJoins.{covered_joins}
use Rattle.fa_join.proofs.joining.reduced.Goals as goal

pub returns-clause-joins : goal.returns-clause-joins
returns-clause-joins g c =
    λ H K j. covered_joins H K c.args.forest.now.forest c.in_ok-made.made.forest c.in_ok-made.ensures.covers
    c.in_ok-made.ensures.covered j
