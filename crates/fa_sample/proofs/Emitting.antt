-- What a walk writes are the facts of the dressed forest, in another order.
use Rattle.std.proofs.Common.{ℕ, List, [], ◌∷◌, ◌++◌, append_assoc}
use Rattle.fore_base.specs.declared.store.Value.{Value}
use Rattle.fore_base.specs.declared.store.Value.TheVariants.{Null as NullValue, Uninit as UninitValue}
use Rattle.fore_base.specs.declared.store.Value.TheVariants.{Dangling as DanglingValue, Cell}
use Rattle.fa_core.specs.Dressed.{Node, Parts, End, Nodes, node, no_parts, field, link, hook, under, leaf, no_nodes}
use Rattle.fa_core.specs.Dressed.{more, Fact, Head, Points, end_value, with_ports, roots_of, tree_facts, slot_facts}
use Rattle.fa_core.specs.Dressed.{end_facts, forest_facts, port_facts, facts}
use Rattle.fa_core.specs.Rearranged.{Rearranged, empty, keep, chain}
use Rattle.fa_core.proofs.Rearranging.{equal, back, after, both, exchange, middle}
use Rattle.fa_sample.specs.inner.Emitted.{node_head, end_head, root_heads, slots_out, below_out, node_out, trees_out}
use Rattle.fa_sample.specs.inner.Emitted.{port_out, forest_out}

-- x y z written as y x z where x goes before: ((a ++ b) ++ c) from a', b', c'
regroup : (xs ys zs : List Fact) → Rearranged ((xs ++ ys) ++ zs) (xs ++ (ys ++ zs))
regroup xs ys zs = equal (append_assoc xs ys zs)

-- the heads of the first, then its slots, then those of the others
interleave : (h s hs ss : List Fact) → Rearranged ((h ++ s) ++ (hs ++ ss)) ((h ++ hs) ++ (s ++ ss))
interleave h s hs ss = chain (regroup h s (hs ++ ss))
    (chain (after h (exchange s hs ss)) (back (regroup h hs (s ++ ss))))

mutual
  slots_same : (vs : List Value) (c : ℕ) (ps : Parts) → Rearranged (slot_facts vs c ps) (slots_out vs c ps)
  slots_same vs c no_parts = empty
  slots_same vs c (field f e ps) =
      chain
      (keep (Points c f (end_value vs e))
      (chain (both (end_same vs e) (slots_same vs c ps)) (regroup (end_head e) (below_out vs e) (slots_out vs c ps))))
      (back (middle (end_head e) (Points c f (end_value vs e)) (below_out vs e ++ slots_out vs c ps)))
  slots_same vs c (link b i e ps) =
      let ports : List Value = Cell c ∷ (end_value vs e ∷ []) in
      let here = forest_same (with_ports (Cell c ∷ (end_value vs e ∷ [])) i) (Cell c ∷ (end_value vs e ∷ [])) i in
      let rest = both (end_same vs e) (slots_same vs c ps) in
      chain
      (both here (chain rest (regroup (end_head e) (below_out vs e) (slots_out vs c ps))))
      (exchange (root_heads (Cell c ∷ (end_value vs e ∷ [])) i
      ++ trees_out (with_ports (Cell c ∷ (end_value vs e ∷ [])) i) (Cell c ∷ (end_value vs e ∷ [])) i) (end_head e)
      (below_out vs e ++ slots_out vs c ps))
  slots_same vs c (hook b i ps) =
      both (forest_same (with_ports (Cell c ∷ []) i) (Cell c ∷ []) i) (slots_same vs c ps)

  end_same : (vs : List Value) (e : End) → Rearranged (end_facts vs e) (end_head e ++ below_out vs e)
  end_same vs (under n) = tree_same vs n
  end_same vs (leaf t) = empty

  tree_same : (vs : List Value) (n : Node) → Rearranged (tree_facts vs n) (node_head n ++ node_out vs n)
  tree_same vs (node c s ds ps) = keep (Head c s ds) (slots_same vs c ps)

  forest_same : (vs ports : List Value) (ns : Nodes)
      → Rearranged (forest_facts vs ports ns) (root_heads ports ns ++ trees_out vs ports ns)
  forest_same vs ports no_nodes = empty
  forest_same vs [] (more n ns) = chain (both (tree_same vs n) (forest_same vs [] ns))
      (interleave (node_head n) (node_out vs n) (root_heads [] ns) (trees_out vs [] ns))
  forest_same vs (v ∷ ports) (more n ns) = chain (both (port_same vs v n) (forest_same vs ports ns))
      (exchange (port_out vs v n) (root_heads ports ns) (trees_out vs ports ns))

  port_same : (vs : List Value) (v : Value) (n : Node) → Rearranged (port_facts vs v n) (port_out vs v n)
  port_same vs (Cell m) (node c s ds ps) = slots_same vs m ps
  port_same vs NullValue (node c s ds ps) = empty
  port_same vs UninitValue (node c s ds ps) = empty
  port_same vs DanglingValue (node c s ds ps) = empty

pub facts_out : (d : Nodes) → Rearranged (facts d) (forest_out [] d)
facts_out d = forest_same (roots_of d) [] d
