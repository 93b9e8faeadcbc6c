use Rattle.std.proofs.Common.{◌≡◌, ◌++◌, drop}
use Rattle.fa_reach.specs.inner.Parts.{picked}
use Rattle.fa_reach.proofs.choosing.picked.Given as goal

abbrev pub invariant-loop-parts : goal.invariant-loop-parts
invariant-loop-parts l = l.chosen ++ picked (drop l.parts-index l.all) l.rest ≡ picked l.all l.number
