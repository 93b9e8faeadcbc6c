-- proofs/laws/choices_are_dressed/Answers.antt
use Rattle.fa_core.proofs.laws.choices_are_dressed.Goals as goal
use Rattle.fa_core.proofs.Dressing.{dress_all}

pub returns : goal.returns
returns c = λ T F ts tops p b k a. (let d = dress_all T 0 F.autos ts tops p b k a in (d.nodes, d.trees, d.of, d.cells))
