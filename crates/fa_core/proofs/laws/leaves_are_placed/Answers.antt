-- proofs/laws/leaves_are_placed/Answers.antt
use Rattle.fa_core.proofs.laws.leaves_are_placed.Goals as goal
use Rattle.fa_core.proofs.AlikePlaced.{refers_stay_alike}
use Rattle.fa_core.proofs.Placing.{in_placed, from_placed, refs_placed, placed_boxless}
use Rattle.fa_core.proofs.Uniform.{signed_alike, alike_signed}

pub returns-clause-trees : goal.returns-clause-trees
returns-clause-trees c = λ f a n h. in_placed f a n h

pub returns-clause-alone : goal.returns-clause-alone
returns-clause-alone c = λ f T a n h i. from_placed f T a n h i

pub returns-clause-references : goal.returns-clause-references
returns-clause-references c = refs_placed

pub returns-clause-signatures : goal.returns-clause-signatures
returns-clause-signatures c =
    λ f bs a r b h. alike_signed bs _ (placed_boxless f a b) (refers_stay_alike f a b r (signed_alike bs a b h))
