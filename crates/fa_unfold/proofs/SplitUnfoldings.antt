-- Where a child below a root is split, the box edges of the root stay: what is unfolded afterwards is unfolded so from
-- the first forest.
use Rattle.std.proofs.Common.{◌≡◌, inl, inr, ℕ, zero, suc, ◌<◌, List, [], ◌∷◌, ◌++◌, map, refl, sym, ap, ap₂, subst}
use Rattle.std.proofs.Common.{◌∙◌, slice_get, Some}
use Rattle.std.proofs.lemmas.Option.{same_Some}
use Rattle.fore_base.specs.Lists.{IsIn, Every}
use Rattle.fore_base.specs.declared.store.Value.{Value}
use Rattle.fore_base.specs.declared.store.Value.TheVariants.{Cell}
use Rattle.fore_base.proofs.ListLemmas.{every_parts, every_weaker}
use Rattle.ta_core.specs.Auto.{IsRanked}
use Rattle.fa_core.specs.declared.boxes.BoxDef.{BoxDef}
use Rattle.fa_core.specs.declared.faces.Face.{Face}
use Rattle.fa_core.specs.declared.forest.Forest.{Forest}
use Rattle.fa_core.specs.declared.forest.Target.TheVariants.{At}
use Rattle.fa_core.specs.Choices.{count}
use Rattle.fa_core.specs.Dressed.{Node, Parts, Nodes, node, no_parts, field, link, hook, under, leaf, no_nodes}
use Rattle.fa_core.specs.Dressed.{more, Seen, SeenField, SeenLink, SeenHook, all_refs, end_refs, end_value, nth_value}
use Rattle.fa_core.specs.Dressed.{number, refs, refs_of, roots_of, value_in}
use Rattle.fa_core.specs.Filled.{IsSound}
use Rattle.fa_core.specs.Member.{OfForest}
use Rattle.fa_core.specs.References.{AllBelow}
use Rattle.fa_back.specs.Reached.{node_at}
use Rattle.fa_split.specs.Split.{AreSplit, CanSplit, IsSplitOf, IsTakenOut, end_at, set_end, set_node, split_cells}
use Rattle.fa_split.specs.Split.{split_leaf, top_parts, with_end, with_last}
use Rattle.fa_merge.proofs.OtherOrders.{get_mapped}
use Rattle.fa_merge.proofs.MergedSound.{got_mapped}
use Rattle.fa_split.proofs.Places.{first_node, node_less, node_set, roots_set, set_count, with_end_number}
use Rattle.fa_split.proofs.SplitCells.{all_below, refers_well, taken_of, taken_regroups}
use Rattle.fa_split.proofs.SplitWhole.{all_cases}
use Rattle.fa_split.proofs.TakenOut.{below_tree}
use Rattle.fa_unfold.specs.Opens.{HasSlot, Item}
use Rattle.fa_unfold.specs.Parts.{FieldPart, HookPart, IsEdge, LinkPart, Part, listed, part_item}
use Rattle.fa_unfold.specs.Unfolded.{IsEdgeAt, Unfolded, UnfoldsFrom, UnfoldsInto}
use Rattle.fa_unfold.proofs.OpenedTrees.{nth_more}
use Rattle.fa_unfold.proofs.PartItems.{Agrees, value_wider}
use Rattle.fa_unfold.proofs.UnfoldedMembers.{opens_regrouped}

-- Slots with the values at their ends.

abbrev part_seen : List Value → Part → Seen
part_seen vs (FieldPart f e) = SeenField f (end_value vs e)
part_seen vs (LinkPart b inside e) = SeenLink b inside (end_value vs e)
part_seen vs (HookPart b inside) = SeenHook b inside

seen_item : (vs : List Value) (c : ℕ) (x : Part) → part_item vs c x ≡ HasSlot c (part_seen vs x)
seen_item vs c (FieldPart f e) = refl
seen_item vs c (LinkPart b inside e) = refl
seen_item vs c (HookPart b inside) = refl

-- it is a box edge
abbrev IsSeenEdge : Seen → Type 0
IsSeenEdge (SeenField f v) = ⊥
IsSeenEdge (SeenLink b inside v) = Unit {0}
IsSeenEdge (SeenHook b inside) = Unit {0}

to_seen : (vs : List Value) (x : Part) → IsEdge x → IsSeenEdge (part_seen vs x)
to_seen vs (FieldPart f e) h = h
to_seen vs (LinkPart b inside e) h = h
to_seen vs (HookPart b inside) h = h

from_seen : (vs : List Value) (x : Part) → IsSeenEdge (part_seen vs x) → IsEdge x
from_seen vs (FieldPart f e) h = h
from_seen vs (LinkPart b inside e) h = h
from_seen vs (HookPart b inside) h = h

-- where the slots of one list are seen as those of the other, so is the one at each place
seen_at : (vs ws : List Value) (xs ys : List Part) (p : ℕ) (x : Part)
    → map (part_seen vs) xs ≡ map (part_seen ws) ys → slice_get xs p ≡ Some x
    → (y : Part) × (slice_get ys p ≡ Some y) × (part_seen ws y ≡ part_seen vs x)
seen_at vs ws xs ys p x e h =
    let k = got_mapped (part_seen ws) ys p (part_seen vs x)
    (ap (λ (zs : List Seen). slice_get zs p) (sym e) ∙ get_mapped (part_seen vs) xs p x h) in (k.0, k.1, sym k.2)

-- the slot of a cell is a box edge with the item x
record HasEdge (vs : List Value) (p : ℕ) (x : Item) (c : ℕ) (xs : List Part) : Type 0 where
  part : Part
  has : slice_get xs p ≡ Some part
  edge : IsEdge part
  is : x ≡ part_item vs c part

edge_seen : (vs ws : List Value) (p : ℕ) (x : Item) (c : ℕ) (xs ys : List Part)
    → map (part_seen vs) xs ≡ map (part_seen ws) ys → HasEdge vs p x c xs → HasEdge ws p x c ys
edge_seen vs ws p x c xs ys e h =
    let k = seen_at vs ws xs ys p h.part e h.has in
    record {
      part = k.0;
      has = k.1;
      edge = from_seen ws k.0 (subst IsSeenEdge (sym k.2) (to_seen vs h.part h.edge));
      is = h.is ∙ seen_item vs c h.part ∙ ap (HasSlot c) (sym k.2) ∙ sym (seen_item ws c k.0);
    }

-- Of a tree at its top.

abbrev NodeEdge : List Value → ℕ → Item → Node → Type 0
NodeEdge vs p x (node c s ds ps) = HasEdge vs p x c (listed ps)

edge_node : (i p : ℕ) (d : Nodes) (x : Item) → IsEdgeAt i p d x → (n : Node) × (node_at d i ≡ Some n)
    × NodeEdge (roots_of d) p x n
edge_node i p d x h = (
  node h.cell h.shape h.datums h.parts,
  h.at,
  record { part = h.part; has = h.has; edge = h.edge; is = h.is },
)

node_edge : (i p : ℕ) (d : Nodes) (x : Item) (n : Node) → node_at d i ≡ Some n → NodeEdge (roots_of d) p x n
    → IsEdgeAt i p d x
node_edge i p d x (node c s ds ps) e h = record {
  cell = c;
  shape = s;
  datums = ds;
  parts = ps;
  part = h.part;
  at = e;
  has = h.has;
  edge = h.edge;
  is = h.is;
}

-- A child taken out: each slot has the same value at its end.

module _ (vs ws : List Value) (n : ℕ) (m : Node) (last : nth_value ws n ≡ Cell (number m)) where
  same_ends : (ps : Parts) → Every (Agrees vs ws) (refs_of ps)
      → map (part_seen ws) (listed ps) ≡ map (part_seen vs) (listed ps)
  same_ends no_parts h = refl
  same_ends (field f e ps) h =
      let k = every_parts (Agrees vs ws) (end_refs e) (refs_of ps) h in
      ap₂ (λ (v : Value) (ss : List Seen). SeenField f v ∷ ss) (value_wider vs ws e k.0) (same_ends ps k.1)
  same_ends (link b inside e ps) h =
      let k = every_parts (Agrees vs ws) (end_refs e) (refs_of ps) h in
      ap₂ (λ (v : Value) (ss : List Seen). SeenLink b inside v ∷ ss) (value_wider vs ws e k.0) (same_ends ps k.1)
  same_ends (hook b inside ps) h = ap (λ (ss : List Seen). SeenHook b inside ∷ ss) (same_ends ps h)

  same_seen : (c : ℕ) (ps : Parts) → end_at c ps ≡ Some (under m) → Every (Agrees vs ws) (refs_of ps)
      → map (part_seen ws) (listed (set_end c (leaf (At n)) ps)) ≡ map (part_seen vs) (listed ps)
  same_seen c no_parts i h = refl
  same_seen zero (field f e ps) i h =
      let k = every_parts (Agrees vs ws) (end_refs e) (refs_of ps) h in
      ap₂ (λ (v : Value) (ss : List Seen). SeenField f v ∷ ss)
      (last ∙ ap (end_value vs) (sym (same_Some e (under m) i))) (same_ends ps k.1)
  same_seen (suc c) (field f e ps) i h =
      let k = every_parts (Agrees vs ws) (end_refs e) (refs_of ps) h in
      ap₂ (λ (v : Value) (ss : List Seen). SeenField f v ∷ ss) (value_wider vs ws e k.0) (same_seen c ps i k.1)
  same_seen zero (link b inside e ps) i h =
      let k = every_parts (Agrees vs ws) (end_refs e) (refs_of ps) h in
      ap₂ (λ (v : Value) (ss : List Seen). SeenLink b inside v ∷ ss)
      (last ∙ ap (end_value vs) (sym (same_Some e (under m) i))) (same_ends ps k.1)
  same_seen (suc c) (link b inside e ps) i h =
      let k = every_parts (Agrees vs ws) (end_refs e) (refs_of ps) h in
      ap₂ (λ (v : Value) (ss : List Seen). SeenLink b inside v ∷ ss) (value_wider vs ws e k.0) (same_seen c ps i k.1)
  same_seen c (hook b inside ps) i h = ap (λ (ss : List Seen). SeenHook b inside ∷ ss) (same_seen c ps i h)

  edge_above : (c p : ℕ) (x : Item) (n0 : Node) → end_at c (top_parts n0) ≡ Some (under m)
      → Every (Agrees vs ws) (refs n0) → NodeEdge ws p x (with_end c (leaf (At n)) n0) → NodeEdge vs p x n0
  edge_above c p x (node k s ds ps) i h e =
      edge_seen ws vs p x k (listed (set_end c (leaf (At n)) ps)) (listed ps) (same_seen c ps i h) e

  edge_below : (c p : ℕ) (x : Item) (n0 : Node) → end_at c (top_parts n0) ≡ Some (under m)
      → Every (Agrees vs ws) (refs n0) → NodeEdge vs p x n0 → NodeEdge ws p x (with_end c (leaf (At n)) n0)
  edge_below c p x (node k s ds ps) i h e =
      edge_seen vs ws p x k (listed ps) (listed (set_end c (leaf (At n)) ps)) (sym (same_seen c ps i h)) e

roots_last : (d : Nodes) (m : Node) → roots_of (with_last d m) ≡ roots_of d ++ Cell (number m) ∷ []
roots_last no_nodes m = refl
roots_last (more n ns) m = ap (λ (vs : List Value). Cell (number n) ∷ vs) (roots_last ns m)

nth_last : (d : Nodes) (v : Value) → nth_value (roots_of d ++ v ∷ []) (count d) ≡ v
nth_last no_nodes v = refl
nth_last (more n ns) v = nth_last ns v

module _ (i c : ℕ) (d k : Nodes) (below : AllBelow (count d) (all_refs d)) (t : IsTakenOut i c d k) where
  abbrev top : Node
  top = with_end c (leaf (At (count d))) t.above

  abbrev vs : List Value
  vs = roots_of d

  top_there : node_at k i ≡ Some top
  top_there =
      let l : i < count (set_node i top d) =
      subst (λ (n : ℕ). i < n) (sym (set_count i top d)) (node_less d i t.above t.is_above) in
      ap (λ (x : Nodes). node_at x i) t.taken ∙ first_node (set_node i top d) t.child i l
      ∙ node_set i d t.above top t.is_above

  roots_more : roots_of k ≡ vs ++ Cell (number t.child) ∷ []
  roots_more = ap roots_of t.taken ∙ roots_last (set_node i top d) t.child
      ∙ ap (λ (us : List Value). us ++ Cell (number t.child) ∷ [])
      (roots_set i d t.above top t.is_above (with_end_number c (leaf (At (count d))) t.above))

  last_is : nth_value (roots_of k) (count d) ≡ Cell (number t.child)
  last_is = ap (λ (us : List Value). nth_value us (count d)) roots_more ∙ nth_last d (Cell (number t.child))

  agree : Every (Agrees vs (roots_of k)) (refs t.above)
  agree = every_weaker (λ q. q < count d) (Agrees vs (roots_of k)) (refs t.above)
      (λ q l. ap (λ (us : List Value). nth_value us q) roots_more ∙ nth_more d (Cell (number t.child) ∷ []) q l)
      (below_tree (count d) i d t.above t.is_above below)

  -- a box edge of the root, with the child taken out, is one before
  pub edge_before : (p : ℕ) (x : Item) → IsEdgeAt i p k x → IsEdgeAt i p d x
  edge_before p x h =
      let e = edge_node i p k x h in
      let w : NodeEdge (roots_of k) p x top =
      subst (NodeEdge (roots_of k) p x) (same_Some e.0 top (sym e.1 ∙ top_there)) e.2 in
      node_edge i p d x t.above t.is_above
      (edge_above vs (roots_of k) (count d) t.child last_is c p x t.above t.is_child agree w)

  -- and stays
  pub edge_after : (p : ℕ) (x : Item) → IsEdgeAt i p d x → IsEdgeAt i p k x
  edge_after p x h =
      let e = edge_node i p d x h in
      let w : NodeEdge vs p x t.above =
      subst (NodeEdge vs p x) (same_Some e.0 t.above (sym e.1 ∙ t.is_above)) e.2 in
      node_edge i p k x top top_there
      (edge_below vs (roots_of k) (count d) t.child last_is c p x t.above t.is_child agree w)

-- Unfolded after a split.

-- other names of the same targets and data
vars_of : (F G H : Forest) (i p : ℕ) (d e : Nodes) → G.vars ≡ F.vars → G.data_vars ≡ F.data_vars
    → Unfolded G H i p d e → Unfolded F H i p d e
vars_of F G H i p d e v w u = record {
  edge = u.edge;
  at = u.at;
  opens = u.opens;
  vars = ap (map (value_in (roots_of d))) (sym v) ∙ u.vars;
  data_vars = sym w ∙ u.data_vars;
}

module _ (T : List BoxDef) (face : Face) (F : Forest) (i c : ℕ) (ranked : Every IsRanked F.autos)
    (can : CanSplit F i c) (sound : IsSound face F) (p : ℕ) where
  taken_unfolded : (H : Forest) (d k e : Nodes) → OfForest T F d → IsTakenOut i c d k
      → Unfolded (split_cells F i c) H i p k e → Unfolded F H i p d e
  taken_unfolded H d k e h t u =
      let well = refers_well face F sound in
      let g = taken_regroups F i c ranked can T well d k h t in
      record {
        edge = u.edge;
        at = edge_before i c d k (all_below T F d well h) t p u.edge u.at;
        opens = opens_regrouped u.edge d k e g.same_cells u.opens;
        vars = g.vars ∙ u.vars;
        data_vars = g.data_vars ∙ u.data_vars;
      }

  -- what a forest of the split unfolds to, the first one unfolds to
  pub split_from : (G H : Forest) → IsSplitOf T F i c G → UnfoldsFrom T G i p H → UnfoldsFrom T F i p H
  split_from G H (inl (y, m, is, covers, same)) u e k =
      let w = u e k in
      (w.0, ((same w.0).0 w.1).0, vars_of F G H i p w.0 e covers.vars covers.data_vars w.2)
  split_from G H (inr (m, is, taken)) u e k =
      let w = u e k in
      let q = taken.back w.0 w.1 in (
        q.0,
        q.1,
        taken_unfolded H q.0 w.0 e q.1 q.2 (subst (λ (z : Forest). Unfolded z H i p w.0 e) is w.2),
      )

  -- and none of its dressed forests is lost
  pub split_into : (Gs Hs : List Forest) → AreSplit F i c Gs → ((G : Forest) → IsIn G Gs → UnfoldsInto T G i p Hs)
      → UnfoldsInto T F i p Hs
  split_into Gs Hs are u d h = elim (all_cases F i c ranked can T Gs are d h) [
    | inl (y, may, k, of) ↦
        (let w = u (split_leaf F i c y) k d of in
        (w.0, w.1, (w.2.0, w.2.1, vars_of F (split_leaf F i c y) w.0 i p d w.2.0 refl refl w.2.2)))
    | inr (k, (e, t)) ↦
        (let w = u (split_cells F i c) k e (taken_of F i c ranked can T d e h t) in
        (w.0, w.1, (w.2.0, w.2.1, taken_unfolded w.0 d e w.2.0 h t w.2.2)))
  ]
