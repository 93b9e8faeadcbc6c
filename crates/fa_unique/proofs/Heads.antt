-- The heads among the facts are those of the cells.
use Rattle.std.proofs.Common.{◌≡◌, inl, inr, ℕ, List, [], refl, ap, subst}
use Rattle.fore_base.specs.Lists.{IsIn}
use Rattle.fore_base.specs.declared.store.Datum.{Datum}
use Rattle.fore_base.specs.declared.store.Value.{Value}
use Rattle.fore_base.proofs.ListLemmas.{in_append, in_left, in_right}
use Rattle.fa_core.specs.Dressed.{Node, Parts, End, Nodes, node, no_parts, field, link, hook, under, leaf, no_nodes}
use Rattle.fa_core.specs.Dressed.{more}
use Rattle.fa_core.specs.Dressed.{Fact, Head, Points, facts, tree_facts, slot_facts, end_facts, forest_facts}
use Rattle.fa_core.specs.Dressed.{number, roots_of}
use Rattle.fa_core.proofs.PlainNodes.{NoEdges, NoEdgesOf, NoEdgesAt, NoEdgesIn}
use Rattle.fa_unique.proofs.CellsWithin.{IsSub, IsSubOf, IsSubEnd, IsSubIn}

-- the struct of a cell
abbrev pub shape_of : Node → ℕ
shape_of (node c s ds ps) = s

-- the data of a cell
abbrev pub datums_of : Node → List Datum
datums_of (node c s ds ps) = ds

-- the head of a cell
abbrev pub the_head : Node → Fact
the_head z = Head (number z) (shape_of z) (datums_of z)

abbrev IsHead : Fact → Type 0
IsHead (Head c s ds) = Unit {0}
IsHead (Points c f v) = ⊥

module _ (vs : List Value) where
  mutual
    tree_head : (z n : Node) → NoEdges n → IsSub z n → IsIn (the_head z) (tree_facts vs n)
    tree_head z (node c s ds ps) b (inl h) = inl (ap the_head h)
    tree_head z (node c s ds ps) b (inr h) = inr (parts_head z c ps b h)

    parts_head : (z : Node) (c : ℕ) (ps : Parts) → NoEdgesOf ps → IsSubOf z ps
        → IsIn (the_head z) (slot_facts vs c ps)
    parts_head z c no_parts b h = absurd h
    parts_head z c (field g x ps) b (inl h) = inr (in_left _ (end_facts vs x) (slot_facts vs c ps)
        (end_head z x b.0 h))
    parts_head z c (field g x ps) b (inr h) = inr (in_right _ (end_facts vs x) (slot_facts vs c ps)
        (parts_head z c ps b.1 h))
    parts_head z c (link l inside x ps) b h = absurd b
    parts_head z c (hook l inside ps) b h = absurd b

    end_head : (z : Node) (x : End) → NoEdgesAt x → IsSubEnd z x → IsIn (the_head z) (end_facts vs x)
    end_head z (under n) b h = tree_head z n b h
    end_head z (leaf t) b h = absurd h

  forest_head : (z : Node) (d : Nodes) → NoEdgesIn d → IsSubIn z d → IsIn (the_head z) (forest_facts vs [] d)
  forest_head z no_nodes b h = absurd h
  forest_head z (more n ns) b (inl h) = in_left _ (tree_facts vs n) (forest_facts vs [] ns) (tree_head z n b.0 h)
  forest_head z (more n ns) b (inr h) = in_right _ (tree_facts vs n) (forest_facts vs [] ns) (forest_head z ns b.1 h)

  module _ (m s : ℕ) (ds : List Datum) where
    abbrev Headed : (Node → Type 0) → Type 0
    Headed S = (z : Node) × S z × (Head m s ds ≡ the_head z)

    mutual
      headed_tree : (n : Node) → NoEdges n → IsIn (Head m s ds) (tree_facts vs n) → Headed (λ z. IsSub z n)
      headed_tree (node c s' ds' ps) b (inl e) = (node c s' ds' ps, inl refl, e)
      headed_tree (node c s' ds' ps) b (inr i) = let k = headed_parts c ps b i in (k.0, inr k.1, k.2)

      headed_parts : (c : ℕ) (ps : Parts) → NoEdgesOf ps → IsIn (Head m s ds) (slot_facts vs c ps)
          → Headed (λ z. IsSubOf z ps)
      headed_parts c no_parts b i = absurd i
      headed_parts c (field g x ps) b (inl h) = absurd (subst IsHead h tt)
      headed_parts c (field g x ps) b (inr i) = elim (in_append (Head m s ds) (end_facts vs x)
          (slot_facts vs c ps) i) [
            | inl j ↦ (let k = headed_end x b.0 j in (k.0, inl k.1, k.2))
            | inr j ↦ (let k = headed_parts c ps b.1 j in (k.0, inr k.1, k.2))
          ]
      headed_parts c (link l inside x ps) b i = absurd b
      headed_parts c (hook l inside ps) b i = absurd b

      headed_end : (x : End) → NoEdgesAt x → IsIn (Head m s ds) (end_facts vs x) → Headed (λ z. IsSubEnd z x)
      headed_end (under n) b i = headed_tree n b i
      headed_end (leaf t) b i = absurd i

    headed_in : (d : Nodes) → NoEdgesIn d → IsIn (Head m s ds) (forest_facts vs [] d) → Headed (λ z. IsSubIn z d)
    headed_in no_nodes b h = absurd h
    headed_in (more n ns) b h = elim (in_append (Head m s ds) (tree_facts vs n) (forest_facts vs [] ns) h) [
      | inl i ↦ (let k = headed_tree n b.0 i in (k.0, inl k.1, k.2))
      | inr i ↦ (let k = headed_in ns b.1 i in (k.0, inr k.1, k.2))
    ]

-- the head of each cell is among the facts
pub head_in : (z : Node) (d : Nodes) → NoEdgesIn d → IsSubIn z d → IsIn (the_head z) (facts d)
head_in z d b h = forest_head (roots_of d) z d b h

-- each head among the facts is that of a cell
pub head_from : (m s : ℕ) (ds : List Datum) (d : Nodes) → NoEdgesIn d → IsIn (Head m s ds) (facts d) → (z : Node)
    × IsSubIn z d × (Head m s ds ≡ the_head z)
head_from m s ds d b h = headed_in (roots_of d) m s ds d b h
