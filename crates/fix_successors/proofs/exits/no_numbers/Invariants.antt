use Rattle.std.proofs.Common.{◌≡◌, [], replicate}
use Rattle.fix_successors.proofs.exits.no_numbers.Given as goal

abbrev pub invariant-loop-place : goal.invariant-loop-place
invariant-loop-place l = l.made ≡ replicate l._place []
