use Rattle.std.proofs.Common.{◌≡◌, ◌∷◌, map, take}
use Rattle.fa_lift.proofs.lifting_automata.each_with_first.Given as goal

abbrev pub invariant-loop-states : goal.invariant-loop-states
invariant-loop-states l = l.made ≡ map (λ zs. l.first ∷ zs) (take l.states-index l.lists)
