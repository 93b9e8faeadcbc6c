-- Where the box edge for a field is replaced, those for it that come to light are of lower boxes.
use Rattle.std.proofs.Common.{◌≡◌, inl, inr, ℕ, suc, ◌<◌, length, List, [], ◌∷◌, map, refl, sym, ap, subst, ◌∙◌}
use Rattle.std.proofs.Common.{Some, arith}
use Rattle.fore_base.specs.Lists.{IsIn, Every, IsDistinct}
use Rattle.fore_base.specs.declared.store.Value.{Value}
use Rattle.fore_base.specs.declared.store.Value.TheVariants.{Null, Uninit, Dangling, Cell}
use Rattle.fore_base.proofs.ListLemmas.{every_append, every_in, in_append, in_every}
use Rattle.ta_core.specs.Auto.{Automaton}
use Rattle.fa_core.specs.declared.boxes.BoxDef.{BoxDef}
use Rattle.fa_core.specs.declared.faces.BoxFace.{BoxFace}
use Rattle.fa_core.specs.declared.forest.Forest.{Forest}
use Rattle.fa_core.specs.declared.forest.Target.TheVariants.{At}
use Rattle.fa_core.specs.Boxes.{Boxes}
use Rattle.fa_core.specs.Choices.{all_numbers}
use Rattle.fa_core.specs.Dressed.{Node, Parts, End, Nodes, node, no_parts, field, link, hook, under, leaf, no_nodes}
use Rattle.fa_core.specs.Dressed.{more, SeenField, SeenLink, SeenHook, cells, nth_value, roots_of}
use Rattle.fa_core.specs.Member.{OfForest, Regroups, TreesOf, InsidesOf, InsidesOfParts, InsidesOfEnd, inside_of}
use Rattle.fa_core.proofs.FilledKept.{forest_numbers}
use Rattle.fa_core.proofs.Permuted.{distinct_moved, in_rearranged}
use Rattle.fa_core.proofs.Rearranging.{back, mapped}
use Rattle.fa_core.proofs.SeenCells.{HasStruct, RootCell, cell_number, root_cell}
use Rattle.fa_back.proofs.RootMarks.{in_flat}
use Rattle.fa_back.proofs.TablesKnown.{AllUse, faces_long, forest_uses}
use Rattle.fa_merge.proofs.OtherOrders.{count_trees}
use Rattle.fa_unfold.specs.Opens.{Item, IsCell, HasSlot, tree_items, slot_items, end_items, forest_items, items}
use Rattle.fa_unfold.specs.Opens.{all_boxes, inside_boxes, item_boxes}
use Rattle.fa_unfold.specs.Parts.{Part, FieldPart, LinkPart, HookPart, part_item}
use Rattle.fa_unfold.specs.Sites.{IsOver}
use Rattle.fa_unfold.specs.Unfolded.{IsEdgeAt, Unfolded, UnfoldsFrom}
use Rattle.fa_unfold.proofs.InsideBoxes.{trees_have}
use Rattle.fa_unfold.proofs.OpenedFits.{apart_before, IsSlotItem}
use Rattle.fa_unfold.proofs.UnfoldedMembers.{items_regrouped}
use Rattle.fa_opening.specs.Opened.{IsEdgeFor, IsEdgeForRoot}
use Rattle.fa_opening.specs.inner.Rounds.{AreBelow}
use Rattle.fa_opening.proofs.OneEdge.{filled_cells, no_two}
use Rattle.fa_opening.proofs.OpenedForests.{edge_moved, same_root}
use Rattle.fa_opening.proofs.UsedBoxes.{inside_below, trees_below}

-- Numbers of cells.

seen_apart : (d : Nodes) → IsDistinct (all_numbers d) → IsDistinct (map cell_number (cells d))
seen_apart d a = subst IsDistinct (sym (forest_numbers (roots_of d) d)) a

apart_seen : (d : Nodes) → IsDistinct (map cell_number (cells d)) → IsDistinct (all_numbers d)
apart_seen d a = subst IsDistinct (forest_numbers (roots_of d) d) a

-- Regrouped forests.

pub below_regrouped : (bs : List BoxFace) (T : List BoxDef) (r f : ℕ) (F G : Forest) → G.vars ≡ F.vars
    → IsIn (At r) F.vars → Regroups T F G → (k : ℕ) → AreBelow bs T r f F k → AreBelow bs T r f G k
below_regrouped bs T r f F G v i c k h e of a y j w =
    let g = c e of in
    let o = g.1 in
    let m = same_root r F G g.0 e v i (sym o.vars) in
    h g.0 o.of (apart_seen g.0 (distinct_moved (mapped cell_number o.same_cells) (seen_apart e a))) y
    (in_rearranged y (items_regrouped e g.0 o.same_cells) j) (edge_moved bs r f g.0 e y m w)

-- Insides of the items of a forest.

module _ (T : List BoxDef) where
  abbrev HasOwnInside : Item → Type 0
  HasOwnInside (IsCell c s ds) = Unit {0}
  HasOwnInside (HasSlot c (SeenField f v)) = Unit {0}
  HasOwnInside (HasSlot c (SeenLink b inside v)) = (autos : List Automaton) × (inside_of T b ≡ Some autos)
      × TreesOf T autos inside
  HasOwnInside (HasSlot c (SeenHook b inside)) = (autos : List Automaton) × (inside_of T b ≡ Some autos)
      × TreesOf T autos inside

  mutual
    tree_own : (vs : List Value) (n : Node) → InsidesOf T n → Every HasOwnInside (tree_items vs n)
    tree_own vs (node c s ds ps) h = (tt, slots_own vs c ps h)

    slots_own : (vs : List Value) (c : ℕ) (ps : Parts) → InsidesOfParts T ps → Every HasOwnInside (slot_items vs c ps)
    slots_own vs c no_parts h = tt
    slots_own vs c (field f e ps) h =
        (tt, every_append HasOwnInside (end_items vs e) (slot_items vs c ps) (end_own vs e h.0) (slots_own vs c ps h.1))
    slots_own vs c (link b i e ps) h = (
      h.0,
      every_append HasOwnInside (end_items vs e) (slot_items vs c ps) (end_own vs e h.1) (slots_own vs c ps h.2),
    )
    slots_own vs c (hook b i ps) h = (h.0, slots_own vs c ps h.1)

    end_own : (vs : List Value) (e : End) → InsidesOfEnd T e → Every HasOwnInside (end_items vs e)
    end_own vs (under n) h = tree_own vs n h
    end_own vs (leaf t) h = tt

  trees_own : (vs : List Value) (autos : List Automaton) (d : Nodes) → TreesOf T autos d
      → Every HasOwnInside (forest_items vs d)
  trees_own vs [] no_nodes h = tt
  trees_own vs [] (more n ns) h = absurd h
  trees_own vs (a ∷ autos) no_nodes h = absurd h
  trees_own vs (a ∷ autos) (more n ns) h =
      every_append HasOwnInside (tree_items vs n) (forest_items vs ns) (tree_own vs n h.1) (trees_own vs autos ns h.2)

-- Edges replaced.

-- a box edge is a slot
item_slot : (vs : List Value) (c : ℕ) (x : Part) → IsSlotItem (part_item vs c x)
item_slot vs c (FieldPart f e) = tt
item_slot vs c (LinkPart b i e) = tt
item_slot vs c (HookPart b i) = tt

abbrev cell_of : Value → ℕ
cell_of Null = 0
cell_of Uninit = 0
cell_of Dangling = 0
cell_of (Cell n) = n

module _ (t : Boxes) (F : Forest) (over : IsOver t F) (r f : ℕ) where
  abbrev bs : List BoxFace
  bs = t.face.boxes

  abbrev T : List BoxDef
  T = t.defs

  -- the edges in the inside of a box edge are of lower boxes
  edge_below : (d : Nodes) → OfForest T F d → (x : Item) → IsIn x (items d) → (b : ℕ) → IsIn b (inside_boxes x)
      → (c : ℕ) × IsIn c (item_boxes x) × (b < c)
  edge_below d of x i b j =
      told x (every_in (HasOwnInside T) (items d) x (trees_own T (roots_of d) F.autos d of) i) j
    where
      told : (x : Item) → HasOwnInside T x → IsIn b (inside_boxes x) → (c : ℕ) × IsIn c (item_boxes x) × (b < c)
      told (IsCell c s ds) h j = absurd j
      told (HasSlot c (SeenField g v)) h j = absurd j
      told (HasSlot c (SeenLink k inside v)) (autos, e, h) j = (
        k,
        inl refl,
        every_in (λ n. n < k) (all_boxes inside) b
            (inside_below t.face.shapes T over.table.sound k autos inside e h) j,
      )
      told (HasSlot c (SeenHook k inside)) (autos, e, h) j = (
        k,
        inl refl,
        every_in (λ n. n < k) (all_boxes inside) b
            (inside_below t.face.shapes T over.table.sound k autos inside e h) j,
      )

  -- each box edge is of a box of the table
  pub below_first : AreBelow bs T r f F (length T)
  below_first d of a y j w = in_every (λ b. b < length T) (item_boxes y)
      (λ b z. every_in (λ b. b < length T) (all_boxes d) b (trees_below T (length T) F.autos d uses of)
      (subst (IsIn b) (trees_have (roots_of d) d) (in_flat item_boxes (items d) y b j z)))
    where
      uses : AllUse (length T) F.autos
      uses = subst (λ (n : ℕ). AllUse n F.autos)
          (ap (λ (z : List BoxFace). length z) over.table.faces ∙ faces_long T)
          (forest_uses t.face F.autos over.sound.well_formed.filled.rules)

  -- where one for the field is replaced, those for it are lower afterwards
  pub below_unfolded : (G : Forest) → G.vars ≡ F.vars → IsIn (At r) F.vars → r < length F.autos → (u p : ℕ)
      → ((d : Nodes) → OfForest T F d → (x : Item) → IsEdgeAt u p d x → IsEdgeForRoot bs r f d x)
      → UnfoldsFrom T F u p G → (k : ℕ) → AreBelow bs T r f F (suc k) → AreBelow bs T r f G k
  below_unfolded G v i there u p edge from k h e of a y j w = here (from e of)
    where
      here : (d : Nodes) × OfForest T F d × Unfolded F G u p d e → Every (λ b. b < k) (item_boxes y)
      here (d, of_d, o) =
          elim (in_append y o.opens.gained o.opens.others (in_rearranged y o.opens.after j)) [
            | inl q ↦ in_every (λ b. b < k) (item_boxes y)
                (λ b z.
                (let s = o.opens.inner b (in_flat item_boxes o.opens.gained y b q z) in
                let c = edge_below d of_d o.edge x_in b s in
                let l = every_in (λ n. n < suc k) (item_boxes o.edge) c.0 low c.1 in
                let m = c.2 in
                omega (arith, l, m)))
            | inr q ↦ absurd
                (no_two bs wx.0 f t.face d refl apart
                (filled_cells T t.face F d over.sound.well_formed.filled of_d apart) cell.struct
                (subst (λ (n : ℕ). HasStruct (cells d) n cell.struct) (ap cell_of (sym cell.value ∙ wx.1)) cell.has)
                o.edge y o.opens.others o.opens.before wx.2 q
                (subst (λ (n : ℕ). IsEdgeFor bs n f y) (ap cell_of (sym w.1 ∙ sym same ∙ wx.1)) w.2))
          ]
        where
          slot : IsSlotItem o.edge
          slot = subst IsSlotItem (sym o.at.is) (item_slot (roots_of d) o.at.cell o.at.part)

          apart : IsDistinct (all_numbers d)
          apart = apart_seen d (apart_before o.edge d e o.opens slot (seen_apart e a))

          same : nth_value (roots_of d) r ≡ nth_value (roots_of e) r
          same = same_root r F G d e v i o.vars

          wx : IsEdgeForRoot bs r f d o.edge
          wx = edge d of_d o.edge o.at

          x_in : IsIn o.edge (items d)
          x_in = in_rearranged o.edge (back o.opens.before) (inl refl)

          low : Every (λ b. b < suc k) (item_boxes o.edge)
          low = h d of_d apart o.edge x_in wx

          cell : RootCell (roots_of d) d r
          cell = root_cell (roots_of d) d r (subst (λ (n : ℕ). r < n) (sym (count_trees T F.autos d of_d)) there)
