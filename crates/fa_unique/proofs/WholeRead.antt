-- Without box edges each cell of a well-formed forest has the fields of its struct in order, and its references are to
-- roots that are there; and the order of the roots is that of a walk along references alone.
use Rattle.std.proofs.Common.{◌≡◌, inl, inr, ℕ, zero, suc, List, [], ◌∷◌, ◌++◌, map, flat_map, length, refl, sym}
use Rattle.std.proofs.Common.{ap, ap₂, subst, ◌∙◌}
use Rattle.fore_base.specs.Lists.{Every, IsDistinct}
use Rattle.fore_base.proofs.ListLemmas.{every_parts}
use Rattle.ta_core.specs.declared.tree.Tree.{Tree}
use Rattle.fa_core.specs.declared.faces.BoxFace.{BoxFace}
use Rattle.fa_core.specs.declared.faces.Face.{Face}
use Rattle.fa_core.specs.declared.forest.Target.{Target}
use Rattle.fa_core.specs.declared.forest.Target.TheVariants.{Null, Uninit, Dangling, At}
use Rattle.fa_core.specs.Canonical.{Walks, ended, old, new, again, refs_at, var_roots}
use Rattle.fa_core.specs.Choices.{bares, count, all_numbers}
use Rattle.fa_core.specs.Dressed.{Node, Parts, End, Nodes, node, no_parts, field, link, hook, under, leaf, no_nodes}
use Rattle.fa_core.specs.Dressed.{more}
use Rattle.fa_core.specs.Dressed.{value_in, roots_of, refs, refs_of, end_refs, leaf_refs}
use Rattle.fa_core.specs.Filled.{Spot, spots, IsFilledSpot, TreesFilled, TopsAre, IsRoot, covers, least, fields_of}
use Rattle.fa_core.specs.Filled.{given_at}
use Rattle.fa_core.specs.Member.{bare, slots_of}
use Rattle.fa_core.specs.Rearranged.{Rearranged, IsRising}
use Rattle.fa_core.specs.References.{AllBelow}
use Rattle.fa_core.specs.Ways.{ways, to_root, once}
use Rattle.fa_core.proofs.Counts.{below_left, below_right}
use Rattle.fa_core.proofs.NodeSpots.{node_spots, parts_spots, end_spots, end_symbols, spots_are, tree_below}
use Rattle.fa_core.proofs.PlainNodes.{NoEdges, NoEdgesOf, NoEdgesAt, NoEdgesIn}
use Rattle.fa_core.proofs.PlainWays.{IsPlainWay, plain_to, none_given}
use Rattle.fa_core.proofs.SameKeys.{same_by_keys}
use Rattle.fa_core.proofs.WaysOf.{tree_roots}
use Rattle.fa_back.proofs.LinksFit.{tops_long}
use Rattle.fa_sample.proofs.Standing.{numbered_rising}
use Rattle.fa_unique.proofs.AlikeTrees.{field_numbers, IsWhole}
use Rattle.fa_unique.proofs.CellsWithin.{parts_of, IsSub, IsSubOf, IsSubEnd, IsSubIn}
use Rattle.fa_unique.proofs.Heads.{shape_of}
use Rattle.fa_unique.proofs.Pointers.{cell_of}
use Rattle.fa_unique.proofs.RootCells.{root_cell, leaf_cells, leaf_of, leaf_back}
use Rattle.fa_unique.proofs.SameForests.{refs_in}
use Rattle.fa_unique.proofs.SameOrder.{Never}

-- References of the cells within.

module _ (m : ℕ) where
  mutual
    tree_range : (z n : Node) → AllBelow m (refs n) → IsSub z n → AllBelow m (refs z)
    tree_range z (node c s ds ps) h (inl e) = subst (λ (y : Node). AllBelow m (refs y)) (sym e) h
    tree_range z (node c s ds ps) h (inr i) = parts_range z ps h i

    parts_range : (z : Node) (ps : Parts) → AllBelow m (refs_of ps) → IsSubOf z ps → AllBelow m (refs z)
    parts_range z no_parts h i = absurd i
    parts_range z (field f e ps) h (inl i) = end_range z e (below_left m (end_refs e) (refs_of ps) h) i
    parts_range z (field f e ps) h (inr i) = parts_range z ps (below_right m (end_refs e) (refs_of ps) h) i
    parts_range z (link b x e ps) h (inl i) = end_range z e (below_left m (end_refs e) (refs_of ps) h) i
    parts_range z (link b x e ps) h (inr i) = parts_range z ps (below_right m (end_refs e) (refs_of ps) h) i
    parts_range z (hook b x ps) h i = parts_range z ps h i

    end_range : (z : Node) (e : End) → AllBelow m (end_refs e) → IsSubEnd z e → AllBelow m (refs z)
    end_range z (under n) h i = tree_range z n h i
    end_range z (leaf t) h i = absurd i

-- Fields of the cells within.

map_id : (xs : List ℕ) → map (λ n. n) xs ≡ xs
map_id [] = refl
map_id (x ∷ xs) = ap (λ (z : List ℕ). x ∷ z) (map_id xs)

module _ (face : Face) (tops : List ℕ) where
  covered : (ps : Parts) → NoEdgesOf ps → flat_map (covers face.boxes) (slots_of ps) ≡ field_numbers ps
  covered no_parts b = refl
  covered (field f e ps) b = ap (λ (z : List ℕ). f ∷ z) (covered ps b.1)
  covered (link l i e ps) b = absurd b
  covered (hook l i ps) b = absurd b

  leasts : (ps : Parts) → NoEdgesOf ps → map (λ s. least (covers face.boxes s)) (slots_of ps) ≡ field_numbers ps
  leasts no_parts b = refl
  leasts (field f e ps) b = ap (λ (z : List ℕ). f ∷ z) (leasts ps b.1)
  leasts (link l i e ps) b = absurd b
  leasts (hook l i ps) b = absurd b

  abbrev HasFields : Node → Type 0
  HasFields z = field_numbers (parts_of z) ≡ fields_of face.shapes.structs (shape_of z)

  -- a filled cell to which no box edge gives anything
  cell_fields : (c s : ℕ) (ps : Parts) → NoEdgesOf ps
      → IsFilledSpot face tops (record { shape = s; slots = slots_of ps; ends = end_symbols ps; given = [] })
      → field_numbers ps ≡ fields_of face.shapes.structs s
  cell_fields c s ps b h =
      let a : IsRising (map (λ n. n) (fields_of face.shapes.structs s)) =
      subst IsRising (sym (map_id (fields_of face.shapes.structs s))) (numbered_rising 0 _) in
      let o : IsRising (map (λ n. n) (field_numbers ps)) =
      subst IsRising (leasts ps b ∙ sym (map_id (field_numbers ps))) h.order.1 in
      let r : Rearranged (fields_of face.shapes.structs s) (field_numbers ps) =
      subst (λ (z : List ℕ). Rearranged (fields_of face.shapes.structs s) z)
      (none_more (flat_map (covers face.boxes) (slots_of ps)) ∙ covered ps b) h.once in
      sym (same_by_keys (λ n. n) (fields_of face.shapes.structs s) (field_numbers ps) r a o)
    where
      none_more : (xs : List ℕ) → xs ++ [] ≡ xs
      none_more [] = refl
      none_more (x ∷ xs) = ap (λ (z : List ℕ). x ∷ z) (none_more xs)

  mutual
    tree_whole : (z n : Node) → NoEdges n → Every (IsFilledSpot face tops) (node_spots face.boxes n []) → IsSub z n
        → HasFields z
    tree_whole z (node c s ds ps) b h (inl e) = subst HasFields (sym e) (cell_fields c s ps b h.0)
    tree_whole z (node c s ds ps) b h (inr i) = parts_whole z ps b h.1 i

    parts_whole : (z : Node) (ps : Parts) → NoEdgesOf ps → Every (IsFilledSpot face tops) (parts_spots face.boxes ps)
        → IsSubOf z ps → HasFields z
    parts_whole z no_parts b h i = absurd i
    parts_whole z (field f e ps) b h (inl i) = end_whole z e b.0
        (every_parts (IsFilledSpot face tops) (end_spots face.boxes [] e) (parts_spots face.boxes ps) h).0 i
    parts_whole z (field f e ps) b h (inr i) = parts_whole z ps b.1
        (every_parts (IsFilledSpot face tops) (end_spots face.boxes [] e) (parts_spots face.boxes ps) h).1 i
    parts_whole z (link l x e ps) b h i = absurd b
    parts_whole z (hook l x ps) b h i = absurd b

    end_whole : (z : Node) (e : End) → NoEdgesAt e → Every (IsFilledSpot face tops) (end_spots face.boxes [] e)
        → IsSubEnd z e → HasFields z
    end_whole z (under n) b h i = tree_whole z n b h i
    end_whole z (leaf t) b h i = absurd i

  module _ (all : List Tree) (none : (r : ℕ) → given_at face.boxes all r ≡ []) where
    trees_whole : (d : Nodes) (r : ℕ) → NoEdgesIn d → TreesFilled face all tops r (bares d) → (z : Node) → IsSubIn z d
        → HasFields z × AllBelow (length tops) (refs z)
    trees_whole no_nodes r b h z i = absurd i
    trees_whole (more n ns) r b h z (inl i) =
        let k : Every (IsFilledSpot face tops) (spots face.boxes (bare n) []) =
        subst (λ (g : List ℕ). Every (IsFilledSpot face tops) (spots face.boxes (bare n) g)) (none r) h.0 in
        let l : Every (IsFilledSpot face tops) (node_spots face.boxes n []) =
        subst (λ (x : List Spot). Every (IsFilledSpot face tops) x) (spots_are face.boxes n []) k in
        (tree_whole z n b.0 l i, tree_range (length tops) z n (tree_below face tops n [] k) i)
    trees_whole (more n ns) r b h z (inr i) = trees_whole ns (suc r) b.1 h.1 z i

-- where no way gives a field no root is given one
pub nothing_given : (bs : List BoxFace) (ts : List Tree)
    → Every (λ (t : Tree). Every (IsPlainWay bs) (ways t)) ts → (r : ℕ) → given_at bs ts r ≡ []
nothing_given bs [] p r = refl
nothing_given bs (t ∷ ts) p r =
    ap₂ (λ (x y : List ℕ). x ++ y) (none_given bs (to_root r (ways t)) (plain_to bs r (ways t) p.0))
    (nothing_given bs ts p.1 r)

-- each cell has the fields of its struct, and refers to roots that are there
pub whole : (face : Face) (tops : List ℕ) (d : Nodes) → NoEdgesIn d → TopsAre (bares d) tops
    → Every (λ (t : Tree). Every (IsPlainWay face.boxes) (ways t)) (bares d)
    → TreesFilled face (bares d) tops 0 (bares d)
    → IsWhole (fields_of face.shapes.structs) d
whole face tops d b a p h = record {
  slots = λ z i. (trees_whole face tops (bares d) (nothing_given face.boxes (bares d) p) d 0 b h z i).0;
  range = λ z i. subst (λ (n : ℕ). AllBelow n (refs z)) (tops_long d tops a)
      (trees_whole face tops (bares d) (nothing_given face.boxes (bares d) p) d 0 b h z i).1;
}

-- Walks.

-- the roots to which a tree refers, each once
pub refs_once : (d : Nodes) (k : ℕ) → refs_at (bares d) k ≡ once (refs_in d k)
refs_once no_nodes k = refl
refs_once (more n ns) zero = ap once (tree_roots n)
refs_once (more n ns) (suc k) = refs_once ns k

-- a walk that never goes on from somewhere else, with the same references
pub same_walks : (refers others : ℕ → List ℕ) (Next : ℕ → Type 0) → ((k : ℕ) → refers k ≡ others k)
    → ((k : ℕ) → Next k → ⊥) → {todo : List ℕ} {k n : ℕ} → Walks refers Next todo k n → Walks others Never todo k n
same_walks refers others Next e none ended = ended
same_walks refers others Next e none (old l w) = old l (same_walks refers others Next e none w)
same_walks refers others Next e none {n = n} (new {k = k} {todo = todo} w) =
    new (subst (λ (z : List ℕ). Walks others Never (z ++ todo) (suc k) n) (e k)
    (same_walks refers others Next e none w))
same_walks refers others Next e none (again {k = k} l x w) = absurd (none k x)

-- Variables.

target_range : (m : ℕ) (t : Target) → IsRoot m t → AllBelow m (leaf_refs t)
target_range m Null h = tt
target_range m Uninit h = tt
target_range m Dangling h = tt
target_range m (At r) h = (h r refl, tt)

-- the roots at which variables are, as the cells that the variables name
pub var_cells : (d : Nodes) (vs : List Target) → Every (IsRoot (count d)) vs
    → map (root_cell d) (var_roots vs) ≡ flat_map cell_of (map (value_in (roots_of d)) vs)
var_cells d [] h = refl
var_cells d (Null ∷ vs) h = var_cells d vs h.1
var_cells d (Uninit ∷ vs) h = var_cells d vs h.1
var_cells d (Dangling ∷ vs) h = var_cells d vs h.1
var_cells d (At r ∷ vs) h =
    ap₂ (λ (x y : List ℕ). x ++ y) (leaf_cells d (At r) (target_range (count d) (At r) h.0)) (var_cells d vs h.1)

-- targets are found again by the values of the variables
pub vars_back : (d : Nodes) → IsDistinct (all_numbers d) → (vs : List Target) → Every (IsRoot (count d)) vs
    → map (leaf_of d) (map (value_in (roots_of d)) vs) ≡ vs
vars_back d a [] h = refl
vars_back d a (t ∷ vs) h =
    ap₂ (λ (x : Target) (y : List Target). x ∷ y) (leaf_back d a t (target_range (count d) t h.0))
    (vars_back d a vs h.1)
