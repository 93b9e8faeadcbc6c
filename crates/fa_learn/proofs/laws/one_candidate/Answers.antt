use Rattle.std.proofs.Common.{subst}
use Rattle.fa_core.specs.declared.faces.Face.{Face}
use Rattle.fa_core.specs.Filled.{IsSound}
use Rattle.fa_learn.proofs.OneCandidate.{one_candidate}
use Rattle.fa_learn.proofs.laws.one_candidate.Goals as goal

pub returns : goal.returns
returns c = λ t s i j g h table insides signed e x y.
    one_candidate t table insides s.forest (subst (λ (f : Face). IsSound f s.forest) e signed.sound) signed.ranked i j g
    h x y
