-- A member of a forest, by a table of boxes, has leaked exactly where some root of its dressed forest is not reached.
use Rattle.std.proofs.Common.{◌≡◌, inl, inr, ℕ, suc, List, [], ◌∷◌, ◌++◌, map, refl, sym, ap, ap₂, subst, ◌∙◌}
use Rattle.std.proofs.Common.{Some}
use Rattle.fore_base.specs.Lists.{IsIn, IsDistinct}
use Rattle.fore_base.specs.Heap.{Reach, by_var, by_field, Leaked, HasCell, AllDiffer}
use Rattle.fore_base.specs.declared.store.Value.{Value}
use Rattle.fore_base.specs.declared.store.Value.TheVariants.{Cell}
use Rattle.fore_base.specs.declared.store.CellRec.{CellRec}
use Rattle.fore_base.specs.declared.store.Store.{Store}
use Rattle.fore_base.specs.declared.shape.Shape.{Shape}
use Rattle.fore_base.proofs.ListLemmas.{in_left, in_right, in_append, in_map, in_mapped}
use Rattle.fa_core.specs.declared.boxes.BoxDef.{BoxDef}
use Rattle.fa_core.specs.declared.faces.BoxFace.{BoxFace}
use Rattle.fa_core.specs.declared.forest.Forest.{Forest}
use Rattle.fa_core.specs.Boxes.{Boxes, IsBoxTable, head_of, heads}
use Rattle.fa_core.specs.Choices.{bares}
use Rattle.fa_core.specs.Dressed.{Node, Parts, End, Nodes, node, no_parts, field, link, hook, under, leaf, no_nodes}
use Rattle.fa_core.specs.Dressed.{more, Points, facts}
use Rattle.fa_core.specs.Dressed.{roots_of, number}
use Rattle.fa_core.specs.Filled.{IsFilled}
use Rattle.fa_core.specs.Member.{StandsBy, store_facts, points}
use Rattle.fa_core.specs.Rearranged.{Rearranged}
use Rattle.fa_core.proofs.PlainNodes.{NoEdges, NoEdgesOf, NoEdgesAt, NoEdgesIn}
use Rattle.fa_core.proofs.Permuted.{in_rearranged, distinct_moved}
use Rattle.fa_core.proofs.Rearranging.{back, flat_mapped, flat_map-append}
use Rattle.fa_core.specs.Boxes.{named, through}
use Rattle.fa_back.specs.Reached.{RootReached, IsDressedBy, CellReached, node_at}
use Rattle.fa_back.proofs.FactParts.{IsPointer, fact_cell, fact_value, node_root}
use Rattle.fa_back.specs.inner.Hops.{Edge, tree_edges, part_edges, end_edges, forest_edges}
use Rattle.fa_back.proofs.CellsReached.{EdgeSound, reached_met, all_reached}
use Rattle.fa_back.proofs.ForestLaws.{sound}
use Rattle.fa_back.proofs.Insides.{root_head}

-- The fields of a store's cells are its pointers.

in_points : (c m f k : ℕ) (vs : List Value) (v : Value) → IsIn (Points m f v) (points c k vs) → (m ≡ c) × IsIn v vs
in_points c m f k [] v i = absurd i
in_points c m f k (w ∷ vs) v (inl e) = (ap fact_cell e, inl (ap fact_value e))
in_points c m f k (w ∷ vs) v (inr i) = let r = in_points c m f (suc k) vs v i in (r.0, inr r.1)

points_in : (c k : ℕ) (vs : List Value) (v : Value) → IsIn v vs → (f : ℕ) × IsIn (Points c f v) (points c k vs)
points_in c k [] v i = absurd i
points_in c k (w ∷ vs) v (inl e) = (k, inl (ap (λ (z : Value). Points c k z) e))
points_in c k (w ∷ vs) v (inr i) = let r = points_in c (suc k) vs v i in (r.0, inr r.1)

store_pointer : (cs : List CellRec) (m f : ℕ) (v : Value) → IsIn (Points m f v) (store_facts cs) → (c : CellRec)
    × IsIn c cs × (m ≡ c.number) × IsIn v c.fields
store_pointer [] m f v i = absurd i
store_pointer (c ∷ cs) m f v (inl e) = absurd (subst IsPointer e tt)
store_pointer (c ∷ cs) m f v (inr i) = elim (in_append (Points m f v) (points c.number 0 c.fields) (store_facts cs) i) [
  | inl j ↦ (let k = in_points c.number m f 0 c.fields v j in (c, inl refl, k.0, k.1))
  | inr j ↦ (let k = store_pointer cs m f v j in (k.0, inr k.1, k.2, k.3))
]

pub pointer_stored : (cs : List CellRec) (c : CellRec) (v : Value) → IsIn c cs → IsIn v c.fields → (f : ℕ)
    × IsIn (Points c.number f v) (store_facts cs)
pointer_stored [] c v i j = absurd i
pointer_stored (x ∷ cs) c v (inl e) j =
    let k = points_in x.number 0 x.fields v (subst (λ (z : CellRec). IsIn v z.fields) e j) in (
      k.0,
      inr
          (in_left (Points c.number k.0 v) (points x.number 0 x.fields) (store_facts cs)
          (subst (λ (z : ℕ). IsIn (Points z k.0 v) (points x.number 0 x.fields))
          (ap (λ (z : CellRec). z.number) (sym e))
          k.1)),
    )
pointer_stored (x ∷ cs) c v (inr i) j =
    let k = pointer_stored cs c v i j in
    (k.0, inr (in_right (Points c.number k.0 v) (points x.number 0 x.fields) (store_facts cs) k.1))

-- The numbers of heads.

no_heads : (c k : ℕ) (vs : List Value) → heads (points c k vs) ≡ []
no_heads c k [] = refl
no_heads c k (v ∷ vs) = no_heads c (suc k) vs

abbrev pub cell_number : CellRec → ℕ
cell_number c = c.number

store_heads : (cs : List CellRec) → heads (store_facts cs) ≡ map cell_number cs
store_heads [] = refl
store_heads (c ∷ cs) = ap (λ (z : List ℕ). c.number ∷ z)
    (flat_map-append head_of (points c.number 0 c.fields) (store_facts cs)
    ∙ ap₂ (λ (x y : List ℕ). x ++ y) (no_heads c.number 0 c.fields) (store_heads cs))

pub has_cell : (cs : List CellRec) (n : ℕ) → IsIn n (map cell_number cs) → HasCell cs n
has_cell [] n i = absurd i
has_cell (c ∷ cs) n (inl e) = inl (sym e)
has_cell (c ∷ cs) n (inr i) = inr (has_cell cs n i)

numbers_differ : (cs : List CellRec) → AllDiffer cs → IsDistinct (map cell_number cs)
numbers_differ [] h = tt
numbers_differ (c ∷ cs) h = ((λ i. h.0 (has_cell cs c.number i)), numbers_differ cs h.1)

module _ (hs : List Shape) (T : List BoxDef) (F : Forest) (d : Nodes) (s : Store) (h : StandsBy hs T F d s) where
  -- the cells of the store are those of the dressed forest
  pub same_numbers : Rearranged (heads (facts d)) (map cell_number s.cells)
  same_numbers = subst (λ (z : List ℕ). Rearranged (heads (facts d)) z) (store_heads s.cells)
      (flat_mapped head_of h.same_facts)

  pub differ : IsDistinct (heads (facts d))
  differ = distinct_moved (back same_numbers) (numbers_differ s.cells h.proper.differ)

  -- what is reached by facts is reached in the store, and the other way
  reach_store : (n : ℕ) → CellReached F d n → Reach s n
  reach_store n (named i) = by_var (rw h.vars i)
  reach_store n (through m f w i) =
      let k = store_pointer s.cells m f (Cell n) (in_rearranged (Points m f (Cell n)) h.same_facts i) in
      by_field k.0 k.1 (rw (sym k.2) (reach_store m w)) k.3

  store_reach : (n : ℕ) → Reach s n → CellReached F d n
  store_reach n (by_var i) = named (rw h.vars at i)
  store_reach n (by_field c i w j) =
      let k = pointer_stored s.cells c (Cell n) i j in
      through c.number k.0 (store_reach c.number w)
      (in_rearranged (Points c.number k.0 (Cell n)) (back h.same_facts) k.1)

  module _ (bs : List BoxFace) (sound : (x : Edge) → IsIn x (forest_edges bs (roots_of d) d) → EdgeSound x) where
    -- where some root is not reached the store has leaked
    pub unreached_by : (r : ℕ) (x : Node) → node_at d r ≡ Some x → (RootReached bs F.vars (bares d) r → ⊥) → Leaked s
    unreached_by r x e never =
        let root = node_root d r x e in
        let i : IsIn (number x) (map cell_number s.cells) =
        in_rearranged (number x) same_numbers (root_head (roots_of d) d r (number x) root) in
        let k = in_mapped cell_number (number x) s.cells i in
        record {
          cell = k.0;
          is_there = k.1;
          unreached = λ w. never
              (reached_met bs F.vars d sound differ r (number x) (rw (sym k.2) at (store_reach k.0.number w)) root);
        }

    -- where each root is reached it has not
    pub reached_by : ((r : ℕ) (x : Node) → node_at d r ≡ Some x → RootReached bs F.vars (bares d) r) → Leaked s → ⊥
    reached_by all l =
        let i : IsIn l.cell.number (heads (facts d)) =
        in_rearranged l.cell.number (back same_numbers) (in_map cell_number l.cell s.cells l.is_there) in
        l.unreached (reach_store l.cell.number (all_reached bs F.vars d sound all l.cell.number i))

module _ (t : Boxes) (table : IsBoxTable t) (F : Forest) (filled : IsFilled t.face F) (d : Nodes) (s : Store)
    (h : StandsBy t.face.shapes.structs t.defs F d s) where
  dressed : IsDressedBy t F d
  dressed = record { table = table; filled = filled; of = h.of }

  -- the same over a table
  pub unreached_store : (r : ℕ) (x : Node) → node_at d r ≡ Some x
      → (RootReached t.face.boxes F.vars (bares d) r → ⊥) → Leaked s
  unreached_store r x e never =
      unreached_by t.face.shapes.structs t.defs F d s h t.face.boxes (sound t F d dressed) r x e never

  pub reached_store : ((r : ℕ) (x : Node) → node_at d r ≡ Some x → RootReached t.face.boxes F.vars (bares d) r)
      → Leaked s → ⊥
  reached_store all l =
      reached_by t.face.shapes.structs t.defs F d s h t.face.boxes (sound t F d dressed) all l

-- Without box edges there is none whose worth is asked for.

module _ (bs : List BoxFace) (vs : List Value) where
  mutual
    no_tree : (n : Node) → NoEdges n → tree_edges bs vs n ≡ []
    no_tree (node c s ds ps) b = no_part c ps b

    no_part : (c : ℕ) (ps : Parts) → NoEdgesOf ps → part_edges bs vs c ps ≡ []
    no_part c no_parts b = refl
    no_part c (field f e ps) b = ap₂ (λ (x y : List Edge). x ++ y) (no_end e b.0) (no_part c ps b.1)
    no_part c (link k i e ps) b = absurd b
    no_part c (hook k i ps) b = absurd b

    no_end : (e : End) → NoEdgesAt e → end_edges bs vs e ≡ []
    no_end (under n) b = no_tree n b
    no_end (leaf t) b = refl

  pub no_edges : (d : Nodes) → NoEdgesIn d → forest_edges bs vs d ≡ []
  no_edges no_nodes b = refl
  no_edges (more n ns) b = ap₂ (λ (x y : List Edge). x ++ y) (no_tree n b.0) (no_edges ns b.1)

  pub none_sound : (d : Nodes) → NoEdgesIn d → (x : Edge) → IsIn x (forest_edges bs vs d) → EdgeSound x
  none_sound d b x i = absurd (subst (λ (es : List Edge). IsIn x es) (no_edges d b) i)
