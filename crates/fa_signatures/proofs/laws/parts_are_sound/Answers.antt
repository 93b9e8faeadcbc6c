use Rattle.fa_signatures.proofs.CutLaws.{part_sound, whole_filled}
use Rattle.fa_signatures.proofs.laws.parts_are_sound.Goals as goal

pub returns-clause-parts : goal.returns-clause-parts
returns-clause-parts c = λ face F G h filled. part_sound face F G h filled

pub returns-clause-whole : goal.returns-clause-whole
returns-clause-whole c = λ face F Gs h sounds rules data_vars. whole_filled face F Gs h sounds rules data_vars
