-- What covers a forest both ways joins what it joins.
use Rattle.std.proofs.Common.{◌∙◌}
use Rattle.fa_core.specs.Covering.{Covers}
use Rattle.fa_core.specs.declared.forest.Forest.{Forest}
use Rattle.fa_join.specs.Joined.{Joins}
use Rattle.fa_core.proofs.Composed.{within_trees}

pub covered_joins : (H K F M : Forest) → Covers M F → Covers F M → Joins H K F → Joins H K M
covered_joins H K F M covers covered j = record {
  first = (covered.vars ∙ j.first.0, covered.data_vars ∙ j.first.1);
  second = (covered.vars ∙ j.second.0, covered.data_vars ∙ j.second.1);
  dressed = λ T d. (
    (λ o. (j.dressed T d).0 (within_trees T M.autos F.autos covered.within d o)),
    (λ h. within_trees T F.autos M.autos covers.within d ((j.dressed T d).1 h)),
  );
}
