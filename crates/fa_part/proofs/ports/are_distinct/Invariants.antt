use Rattle.std.proofs.Common.{◌↔◌, drop}
use Rattle.fore_base.specs.Lists.{IsDistinct}
use Rattle.fa_part.proofs.ports.are_distinct.Given as goal

abbrev pub invariant-loop-place : goal.invariant-loop-place
invariant-loop-place l = IsDistinct (drop l.place l.numbers) ↔ IsDistinct l.numbers
