use Rattle.fa_merge.proofs.LoneFound.{lone_refers}
use Rattle.fa_merge.proofs.MergedAnywhere.{merge_any, unmerge_any}
use Rattle.fa_merge.proofs.laws.merging_regroups.Goals as goal

pub returns-clause-whole : goal.returns-clause-whole
returns-clause-whole c = λ T face F r i sound ranked can refers.
    merge_any F r i (lone_refers face F r i sound ranked can refers) T

pub returns-clause-regroups : goal.returns-clause-regroups
returns-clause-regroups c = λ T face F r i sound ranked can refers.
    unmerge_any F r i (lone_refers face F r i sound ranked can refers) T
