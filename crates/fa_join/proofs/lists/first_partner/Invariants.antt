use Rattle.std.proofs.Common.{take}
use Rattle.fore_base.specs.Lists.{Every}
use Rattle.fa_join.specs.Joinable.{Joinable}
use Rattle.fa_join.proofs.lists.first_partner.Given as goal

abbrev pub invariant-loop-place : goal.invariant-loop-place
invariant-loop-place l = Every (λ s. Joinable l.face.boxes s.forest l.next.forest → ⊥) (take l.place l.done)
