-- What a dressed forest says outside of its insides: one item for each cell, and one for each slot. A box edge is
-- opened where items with the facts of its inside take the place of its item.
use Rattle.std.specs.Prelude.{◌≡◌, ℕ, List, [], ◌∷◌, ◌++◌, flat_map}
use Rattle.fore_base.specs.Lists.{IsIn}
use Rattle.fore_base.specs.declared.store.Value.{Value}
use Rattle.fore_base.specs.declared.store.Value.TheVariants.{Cell}
use Rattle.fore_base.specs.declared.store.Datum.{Datum}
use Rattle.fa_core.specs.Dressed.{Node, Parts, End, Nodes, node, no_parts, field, link, hook, under, leaf, no_nodes}
use Rattle.fa_core.specs.Dressed.{more, Fact, Head, Points, Seen, SeenField, SeenLink, SeenHook, roots_of, end_value}
use Rattle.fa_core.specs.Dressed.{inside_facts}
use Rattle.fa_core.specs.Rearranged.{Rearranged}

-- a cell, or a slot of a cell with what it ends at
pub data Item : Type 0 where
  IsCell : (cell shape : ℕ) → List Datum → Item
  HasSlot : (cell : ℕ) → Seen → Item

abbrev mutual
  -- the items of a tree
  pub tree_items : List Value → Node → List Item
  tree_items vs (node c s ds ps) = IsCell c s ds ∷ slot_items vs c ps

  -- the items of the slots of cell c, and of what stands below them
  pub slot_items : List Value → ℕ → Parts → List Item
  slot_items vs c no_parts = []
  slot_items vs c (field f e ps) = HasSlot c (SeenField f (end_value vs e)) ∷ (end_items vs e ++ slot_items vs c ps)
  slot_items vs c (link b inside e ps) =
      HasSlot c (SeenLink b inside (end_value vs e)) ∷ (end_items vs e ++ slot_items vs c ps)
  slot_items vs c (hook b inside ps) = HasSlot c (SeenHook b inside) ∷ slot_items vs c ps

  -- the items below an end
  pub end_items : List Value → End → List Item
  end_items vs (under n) = tree_items vs n
  end_items vs (leaf t) = []

-- the items of all trees
abbrev pub forest_items : List Value → Nodes → List Item
forest_items vs no_nodes = []
forest_items vs (more n ns) = tree_items vs n ++ forest_items vs ns

-- the items of a dressed forest
abbrev pub items : Nodes → List Item
items d = forest_items (roots_of d) d

-- the facts for which an item stands
abbrev pub opened : Item → List Fact
opened (IsCell c s ds) = Head c s ds ∷ []
opened (HasSlot c (SeenField f v)) = Points c f v ∷ []
opened (HasSlot c (SeenLink b inside v)) = inside_facts (Cell c ∷ (v ∷ [])) inside
opened (HasSlot c (SeenHook b inside)) = inside_facts (Cell c ∷ []) inside

abbrev mutual
  -- the boxes of the edges of a tree, those of insides left out
  pub tree_boxes : Node → List ℕ
  tree_boxes (node c s ds ps) = slot_boxes ps

  -- of the slots of a cell, and of what stands below them
  pub slot_boxes : Parts → List ℕ
  slot_boxes no_parts = []
  slot_boxes (field f e ps) = end_boxes e ++ slot_boxes ps
  slot_boxes (link b inside e ps) = b ∷ (end_boxes e ++ slot_boxes ps)
  slot_boxes (hook b inside ps) = b ∷ slot_boxes ps

  -- below an end
  pub end_boxes : End → List ℕ
  end_boxes (under n) = tree_boxes n
  end_boxes (leaf t) = []

-- of all trees
abbrev pub all_boxes : Nodes → List ℕ
all_boxes no_nodes = []
all_boxes (more n ns) = tree_boxes n ++ all_boxes ns

-- the box of an item, if it is a box edge's
abbrev pub item_boxes : Item → List ℕ
item_boxes (IsCell c s ds) = []
item_boxes (HasSlot c (SeenField f v)) = []
item_boxes (HasSlot c (SeenLink b inside v)) = b ∷ []
item_boxes (HasSlot c (SeenHook b inside)) = b ∷ []

-- the boxes of the edges in the inside of an item, if it is a box edge's
abbrev pub inside_boxes : Item → List ℕ
inside_boxes (IsCell c s ds) = []
inside_boxes (HasSlot c (SeenField f v)) = []
inside_boxes (HasSlot c (SeenLink b inside v)) = all_boxes inside
inside_boxes (HasSlot c (SeenHook b inside)) = all_boxes inside

-- e is d with the one item x replaced by items that have its facts; the box edges among them are of boxes of its inside
pub record Opens (x : Item) (d e : Nodes) : Type 0 where
  pub others : List Item
  pub gained : List Item
  pub before : Rearranged (items d) (x ∷ others)
  pub after : Rearranged (items e) (gained ++ others)
  pub same : flat_map opened gained ≡ opened x
  pub inner : (b : ℕ) → IsIn b (flat_map item_boxes gained) → IsIn b (inside_boxes x)
