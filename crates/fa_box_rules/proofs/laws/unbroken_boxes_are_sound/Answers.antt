use Rattle.fa_box_rules.proofs.Unbroken.{unbroken_sound, sound_unbroken, sound_refs}
use Rattle.fa_box_rules.proofs.laws.unbroken_boxes_are_sound.Goals as goal

pub returns-clause-sound : goal.returns-clause-sound
returns-clause-sound c = λ face T b rules refs h. unbroken_sound face T b rules refs h

pub returns-clause-unbroken : goal.returns-clause-unbroken
returns-clause-unbroken c = λ face T b h. sound_unbroken face T b h

pub returns-clause-refs : goal.returns-clause-refs
returns-clause-refs c = λ face T b h. sound_refs face T b h
