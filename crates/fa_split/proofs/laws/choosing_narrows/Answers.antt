use Rattle.fa_split.proofs.ChosenForests.{chosen_dressed}
use Rattle.fa_split.proofs.laws.choosing_narrows.Goals as goal

pub returns : goal.returns
returns c = λ T F r x ranked root rule top. chosen_dressed F r x ranked root rule top T
