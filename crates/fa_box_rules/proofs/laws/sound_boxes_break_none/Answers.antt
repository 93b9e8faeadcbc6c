use Rattle.fa_box_rules.proofs.SoundBoxes.{face_is, none_broken}
use Rattle.fa_box_rules.proofs.laws.sound_boxes_break_none.Goals as goal

pub returns-clause-none : goal.returns-clause-none
returns-clause-none c = λ face T b sound. none_broken face T b sound

pub returns-clause-face : goal.returns-clause-face
returns-clause-face c = λ face T b sound. face_is face T b sound
