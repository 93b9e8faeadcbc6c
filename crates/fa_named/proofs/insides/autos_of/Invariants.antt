use Rattle.std.proofs.Common.{◌≡◌, map, take}
use Rattle.fa_named.specs.Insides.{auto_of}
use Rattle.fa_named.proofs.insides.autos_of.Given as goal

abbrev pub invariant-loop-part : goal.invariant-loop-part
invariant-loop-part l = l.made ≡ map (auto_of l.known l.boxes) (take l.part-index l.parts)
