use Rattle.std.proofs.Common.{◌≡◌, ◌++◌, drop}
use Rattle.fa_giving.specs.inner.Totals.{given_fields}
use Rattle.fa_giving.proofs.roots.given_fields.Given as goal

abbrev pub invariant-loop-face : goal.invariant-loop-face
invariant-loop-face l = l.all ++ given_fields (drop l.face-index l.boxes) ≡ given_fields l.boxes
