-- Fields that point to structs.
use Rattle.std.specs.Prelude.{◌≡◌, ℕ, List, Option, Some, None}
use Rattle.fore_base.specs.declared.shape.Shape.{Shape}
use Rattle.fa_core.specs.Filled.{target_of}

-- both are structs, and field f of the first points to the second
abbrev pub PointsTo : List Shape → Option ℕ → ℕ → Option ℕ → Type 0
PointsTo hs None f t = ⊥
PointsTo hs (Some s) f None = ⊥
PointsTo hs (Some s) f (Some t) = target_of hs s f ≡ Some t
