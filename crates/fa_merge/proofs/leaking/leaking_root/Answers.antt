use Rattle.fore_base.specs.Lists.{Every}
use Rattle.ta_core.specs.Auto.{IsRanked}
use Rattle.fa_merge.proofs.LeaksDecided.{roots_found, leaks_found}
use Rattle.fa_merge.proofs.Members.{exact_of}
use Rattle.fa_merge.proofs.leaking.leaking_root.Goals as goal

pub returns-clause-root : goal.returns-clause-root
returns-clause-root c = roots_found _ _ c.in_ok-marks.marks c.in_ok-marks.ensures.marks c.first_unmarked.result
    (rw c.as_slice.ensures at c.first_unmarked.ensures)

pub returns-clause-leaks : goal.returns-clause-leaks
returns-clause-leaks c = leaks_found _ _ c.in_ok-marks.marks c.in_ok-marks.ensures.marks
    c.known.ensures.sound.well_formed.filled c.first_unmarked.result
    (rw c.as_slice.ensures at c.first_unmarked.ensures)

pub returns-clause-exact : goal.returns-clause-exact
returns-clause-exact c =
    let F = c.args.forest.now.forest in
    let ranked : Every IsRanked F.autos = c.known.ensures.ranked in
    exact_of c.args.forest.now.face F c.known.ensures.sound ranked c.first_unmarked.result
    (leaks_found _ _ c.in_ok-marks.marks c.in_ok-marks.ensures.marks c.known.ensures.sound.well_formed.filled
    c.first_unmarked.result (rw c.as_slice.ensures at c.first_unmarked.ensures))
