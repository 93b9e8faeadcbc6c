use Rattle.fa_merge.proofs.laws.leaks_follow_roots.Goals as goal
use Rattle.fa_merge.proofs.LeaksDecided.{all_never_leak, one_always_leaks, reached_never_leaks, unreached_leaks}

pub returns-clause-never : goal.returns-clause-never
returns-clause-never c = λ face F filled all. all_never_leak face F filled all

pub returns-clause-always : goal.returns-clause-always
returns-clause-always c = λ face F r filled low never. one_always_leaks face F filled r low never

pub returns-clause-never_plain : goal.returns-clause-never_plain
returns-clause-never_plain c = λ face F plain all T t. reached_never_leaks face F plain all face.shapes.structs T

pub returns-clause-always_plain : goal.returns-clause-always_plain
returns-clause-always_plain c = λ face F r plain low never T t.
    unreached_leaks face F plain r low never face.shapes.structs T
