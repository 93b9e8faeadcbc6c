use Rattle.std.proofs.Common.{subst}
use Rattle.fa_core.specs.declared.faces.Face.{Face}
use Rattle.fa_core.specs.Filled.{IsSound}
use Rattle.fa_learn.proofs.Candidates.{candidate_sound, named_word}
use Rattle.fa_learn.proofs.laws.candidates_are_sound.Goals as goal

pub returns-clause-sound : goal.returns-clause-sound
returns-clause-sound c = λ t s i j g table signed e h.
    candidate_sound t table s.forest (subst (λ (f : Face). IsSound f s.forest) e signed.sound) signed.ranked i j g h

pub returns-clause-word : goal.returns-clause-word
returns-clause-word c = λ t s i j g table h. named_word t table g h.named

pub returns-clause-new : goal.returns-clause-new
returns-clause-new c = λ t s i j g h. h.named.new

pub returns-clause-inside : goal.returns-clause-inside
returns-clause-inside c = λ t s i j g h. h.is.no_variables
