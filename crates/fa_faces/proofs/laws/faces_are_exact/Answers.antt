use Rattle.fa_faces.proofs.Exact.{face_sound, sound_face, sound_fault}
use Rattle.fa_faces.proofs.laws.faces_are_exact.Goals as goal

pub returns-clause-sound : goal.returns-clause-sound
returns-clause-sound c = λ t input output inside named x h n. face_sound t input output inside named x h n

pub returns-clause-one : goal.returns-clause-one
returns-clause-one c =
    λ t input output inside named table insides n x i o sound y h.
    sound_face t input output inside named table insides n x i o sound y h

pub returns-clause-none : goal.returns-clause-none
returns-clause-none c =
    λ t input output inside named table insides n x i o sound e f.
    sound_fault t input output inside named table insides n x i o sound e f
