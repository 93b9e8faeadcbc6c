-- The slots of a cell of a dressed forest, as a list.
use Rattle.std.specs.Prelude.{ℕ, List, [], ◌∷◌}
use Rattle.fore_base.specs.declared.store.Value.{Value}
use Rattle.fa_core.specs.Dressed.{Parts, End, Nodes, no_parts, field, link, hook, end_value}
use Rattle.fa_core.specs.Dressed.{SeenField, SeenLink, SeenHook}
use Rattle.fa_unfold.specs.Opens.{Item, HasSlot}

-- one slot of a cell: a field with its end, a box edge with its inside and its end, or one without an output
pub data Part : Type 0 where
  FieldPart : (f : ℕ) → End → Part
  LinkPart : (b : ℕ) → Nodes → End → Part
  HookPart : (b : ℕ) → Nodes → Part

-- the slots of a cell, as a list
abbrev pub listed : Parts → List Part
listed no_parts = []
listed (field f e ps) = FieldPart f e ∷ listed ps
listed (link b inside e ps) = LinkPart b inside e ∷ listed ps
listed (hook b inside ps) = HookPart b inside ∷ listed ps

-- the item of a slot of cell c
abbrev pub part_item : List Value → ℕ → Part → Item
part_item vs c (FieldPart f e) = HasSlot c (SeenField f (end_value vs e))
part_item vs c (LinkPart b inside e) = HasSlot c (SeenLink b inside (end_value vs e))
part_item vs c (HookPart b inside) = HasSlot c (SeenHook b inside)

-- the slot is a box edge
abbrev pub IsEdge : Part → Type 0
IsEdge (FieldPart f e) = ⊥
IsEdge (LinkPart b inside e) = Unit {0}
IsEdge (HookPart b inside) = Unit {0}
