use Rattle.std.proofs.Common.{subst}
use Rattle.fa_core.specs.declared.faces.Face.{Face}
use Rattle.fa_core.specs.Filled.{IsSound}
use Rattle.fa_learn.proofs.OneCandidate.{some_face}
use Rattle.fa_learn.proofs.laws.boxes_have_faces.Goals as goal

pub returns : goal.returns
returns c = λ t s i j g table signed e x.
    some_face t table s.forest (subst (λ (f : Face). IsSound f s.forest) e signed.sound) signed.ranked i j g x
