-- Which box edges can be unfolded, and what each of the forests is.
use Rattle.std.specs.Prelude.{◌≡◌, ◌↔◌, ◌<◌, ◌⊎◌, ℕ, List, length, Option, Some, None, slice_get}
use Rattle.fore_base.specs.Lists.{IsIn}
use Rattle.fore_base.specs.declared.shape.Shape.{Shape}
use Rattle.fore_base.specs.declared.store.Store.{Store}
use Rattle.ta_core.specs.Single.{HasOneTop}
use Rattle.ta_core.specs.declared.symbol.Slot.{Slot}
use Rattle.ta_core.specs.declared.symbol.Slot.TheVariants.{Field, Link, Hook}
use Rattle.fa_core.specs.declared.boxes.BoxDef.{BoxDef}
use Rattle.fa_core.specs.declared.forest.Forest.{Forest}
use Rattle.fa_core.specs.declared.forest.Target.{Target}
use Rattle.fa_core.specs.Boxes.{Boxes}
use Rattle.fa_core.specs.Folding.{symbol_slots}
use Rattle.fa_core.specs.Member.{Stands}
use Rattle.fa_sound.specs.Components.{component_at}
use Rattle.fa_signatures.specs.CutForests.{IsCutForest}
use Rattle.fa_split.specs.Split.{MayBeCell, MayBeLeaf, split_cells, split_leaf, top_rule}
use Rattle.fa_unfold.specs.Sites.{child_place}
use Rattle.fa_unfold.specs.Unfold.{IsHookUnfolding, IsLinkUnfolding}

-- the slots of root i's one rule
abbrev pub root_slots : Forest → ℕ → List Slot
root_slots F i = symbol_slots (top_rule (component_at F.autos i)).symbol

-- the slot is there, and it is a box edge
abbrev pub IsBoxEdge : Option Slot → Type 0
IsBoxEdge None = ⊥
IsBoxEdge (Some (Field f)) = ⊥
IsBoxEdge (Some (Link b)) = Unit {0}
IsBoxEdge (Some (Hook b)) = Unit {0}

-- root i has one rule, whose slot p is a Link or a Hook. Slots are counted, and Hooks with them
pub record CanUnfold (F : Forest) (i p : ℕ) : Type 0 where
  pub root : i < length F.autos
  pub top : HasOneTop (component_at F.autos i)
  pub edge : IsBoxEdge (slice_get (root_slots F i) p)

-- G is one of the forests into which F is split at the child at place c below root i: that child is one leaf that it
-- may be, or its cells are a new last root
abbrev pub IsSplitAt : Forest → ℕ → ℕ → Forest → Type 0
IsSplitAt F i c G =
    ((y : Target) × MayBeLeaf F i c y × (G ≡ split_leaf F i c y)) ⊎ (MayBeCell F i c × (G ≡ split_cells F i c))

-- G is one of the forests in which the edge at slot p of root i is replaced by the inside of its box: a Hook of F, or a
-- Link of a forest into which F is split at that Link's child, so that one leaf stands at its end
abbrev pub IsOpenedAt : Boxes → Forest → ℕ → ℕ → Forest → Type 0
IsOpenedAt t F i p G =
    IsHookUnfolding t F i p G ⊎ ((S : Forest) × IsSplitAt F i (child_place F i p) S × IsLinkUnfolding t S i p G)

-- G is a part of such a forest: it has the trees of one signature of each component
abbrev pub IsUnfoldingOf : Boxes → Forest → ℕ → ℕ → Forest → Type 0
IsUnfoldingOf t F i p G = (K : Forest) × IsOpenedAt t F i p K × IsCutForest t.face.boxes K G

-- F and the forests of the list together have the same members over this table, whatever the structs are
abbrev pub HaveMembersOf : List BoxDef → Forest → List Forest → Type 0
HaveMembersOf T F Gs =
    (hs : List Shape) (s : Store) →
    Stands hs T F s ↔ ((G : Forest) × IsIn G Gs × Stands hs T G s)
