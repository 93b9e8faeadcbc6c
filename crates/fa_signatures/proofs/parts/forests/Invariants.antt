use Rattle.std.proofs.Common.{◌≡◌, map, take}
use Rattle.fore_base.specs.Lists.{Every}
use Rattle.fa_sound.specs.Unions.{forests}
use Rattle.fa_signatures.specs.inner.CutProducts.{with_autos}
use Rattle.fa_signatures.proofs.parts.forests.Given as goal

abbrev pub invariant-loop-autos : goal.invariant-loop-autos
invariant-loop-autos l = record {
  face : Every (λ s. s.face ≡ l.face) l.list;
  forests : forests l.list ≡ map (with_autos l.forest) (take l.autos-index l.choices);
}
