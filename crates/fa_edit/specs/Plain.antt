-- Pointer fields of roots at which one leaf stands.
use Rattle.std.specs.Prelude.{◌≡◌, ◌<◌, ℕ, suc, nat_eq, if◌then◌else◌, List, [], ◌∷◌, length, Option, Some, None}
use Rattle.fore_base.specs.Lists.{IsIn}
use Rattle.fore_base.specs.declared.shape.Shape.{Shape}
use Rattle.ta_core.specs.Single.{HasOneTop}
use Rattle.ta_core.specs.declared.auto.Rule.{Rule}
use Rattle.ta_core.specs.declared.symbol.Slot.{Slot}
use Rattle.ta_core.specs.declared.symbol.Slot.TheVariants.{Field, Link, Hook}
use Rattle.fa_core.specs.Filled.{target_of}
use Rattle.fa_core.specs.Folding.{symbol_slots}
use Rattle.fa_core.specs.Member.{leaf_symbol}
use Rattle.fa_core.specs.declared.forest.Forest.{Forest}
use Rattle.fa_core.specs.declared.forest.Target.{Target}
use Rattle.fa_sound.specs.Components.{component_at}
use Rattle.fa_edit.specs.Fits.{shape_at}
use Rattle.fa_split.specs.Split.{top_rule, child_state}

-- the place of field f among the children of a cell with these slots, of which the first child stands at place k; a
-- Hook has no child
abbrev pub field_place_from : ℕ → ℕ → List Slot → Option ℕ
field_place_from k f [] = None
field_place_from k f (Field g ∷ ss) = if nat_eq g f then Some k else field_place_from (suc k) f ss
field_place_from k f (Link b ∷ ss) = field_place_from (suc k) f ss
field_place_from k f (Hook b ∷ ss) = field_place_from k f ss

abbrev pub field_place : ℕ → List Slot → Option ℕ
field_place f ss = field_place_from 0 f ss

-- the place of field f among the children at the top of root r
abbrev pub place_at : Forest → ℕ → ℕ → Option ℕ
place_at F r f = field_place f (symbol_slots (top_rule (component_at F.autos r)).symbol)

-- the one rule of root r has the slot of field f
abbrev pub HasPlace : Forest → ℕ → ℕ → Type 0
HasPlace F r f = (p : ℕ) × (place_at F r f ≡ Some p)

-- each rule of state q is the leaf t, and there is one
pub record IsOnlyLeaf (rules : List Rule) (q : ℕ) (t : Target) : Type 0 where
  pub there : (x : Rule) × IsIn x rules × (x.state ≡ q)
  pub only : (x : Rule) → IsIn x rules → x.state ≡ q → x.symbol ≡ leaf_symbol t

-- each rule of state q is one leaf, and there is one
abbrev pub HasOnlyLeaf : List Rule → ℕ → Type 0
HasOnlyLeaf rules q = (t : Target) × IsOnlyLeaf rules q t

-- the leaf t alone stands at place p below the top of root r
abbrev pub IsLeafPlace : Forest → ℕ → ℕ → Target → Type 0
IsLeafPlace F r p t = IsOnlyLeaf (component_at F.autos r).rules (child_state (component_at F.autos r) p) t

-- the struct has no pointer field f; a leaf, which is of no struct, has none
abbrev pub StructLacks : List Shape → Option ℕ → ℕ → Type 0
StructLacks hs None f = Unit {0}
StructLacks hs (Some s) f = target_of hs s f ≡ None

-- root r has one rule; where that has the slot of field f, one leaf stands there, and where it has not, the struct has
-- no such field: a field that a box edge covers or gives is not shown
pub record IsPlainAt (hs : List Shape) (F : Forest) (r f : ℕ) : Type 0 where
  pub root : r < length F.autos
  pub top : HasOneTop (component_at F.autos r)
  pub leaf : (p : ℕ) → place_at F r f ≡ Some p → (t : Target) × IsLeafPlace F r p t
  pub lacks : place_at F r f ≡ None → StructLacks hs (shape_at F r) f
