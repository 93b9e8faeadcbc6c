-- A leaf in a field of a root is what the store has there, and another leaf is another value there.
use Rattle.std.proofs.Common.{◌≡◌, inl, ◌∙◌, ℕ, List, ◌∷◌, slice_set, Some, refl, sym, ap, subst}
use Rattle.fore_base.specs.Heap.{NamesCell}
use Rattle.fore_base.specs.Lists.{IsIn}
use Rattle.fore_base.specs.Stores.{with_field}
use Rattle.fore_base.specs.declared.shape.Shape.{Shape}
use Rattle.fore_base.specs.declared.store.CellRec.{CellRec}
use Rattle.fa_core.specs.declared.forest.Target.{Target}
use Rattle.fa_core.specs.Dressed.{Nodes, Points, facts, number, roots_of, value_in}
use Rattle.fa_core.specs.Member.{store_facts}
use Rattle.fa_core.specs.Rearranged.{Rearranged, keep, chain}
use Rattle.fa_core.proofs.Permuted.{in_rearranged, cancel}
use Rattle.fa_core.proofs.Rearranging.{back, equal}
use Rattle.fa_edit.specs.Leaves.{HasLeaf, leaf_put}
use Rattle.c_cfg.specs.Edges.{field_of}
use Rattle.sym_transfer.proofs.CellSet.{heap_after}
use Rattle.sym_transfer.proofs.Facts.{field_there}
use Rattle.sym_transfer.proofs.FieldSet.{store_split, with_field_same, field_cell}
use Rattle.sym_transfer.proofs.LeafPut.{facts_split, leaf_put_same}
use Rattle.sym_transfer.proofs.Places.{every_set, length_set}
use Rattle.sym_transfer.proofs.Standing.{IsHeap, value_names}

module _ (hs : List Shape) (d : Nodes) (cs : List CellRec) (next : ℕ) (h : IsHeap hs d cs next) where
  -- the store has the leaf of the field
  pub field_is : (r f : ℕ) (t : Target) (l : HasLeaf d r f t) → field_of cs (number l.0) f
      ≡ Some (value_in (roots_of d) t)
  field_is r f t (n, e, l) =
      let k = facts_split f t r d n e l in
      let x = Points (number n) f (value_in (roots_of d) t) in
      let i : IsIn x (facts (leaf_put r f t d)) = in_rearranged x (back (k.1 t)) (inl refl) in
      field_there (number n) f (value_in (roots_of d) t) cs h.differ
      (in_rearranged x h.same_facts (subst (λ (y : Nodes). IsIn x (facts y)) (leaf_put_same r f t d (n, e, l)) i))

  -- another leaf in the field, and its value in the cell
  pub heap_put : (r f : ℕ) (t u : Target) (l : HasLeaf d r f t)
      → IsHeap hs (leaf_put r f u d) (with_field cs (number l.0) f (value_in (roots_of d) u)) next
  heap_put r f t u (n, e, l) =
      let k = facts_split f t r d n e l in
      let m = number n in
      let w = value_in (roots_of d) u in
      let v = value_in (roots_of d) t in
      let q = store_split cs m f v (field_is r f t (n, e, l)) in
      let old : Rearranged (Points m f v ∷ k.0) (Points m f v ∷ q.0) =
      chain (back (k.1 t))
      (chain (equal (ap facts (leaf_put_same r f t d (n, e, l))))
      (chain h.same_facts
      (chain (equal (ap store_facts (sym (with_field_same cs m f v (field_is r f t (n, e, l)))))) (q.1 v)))) in
      let rest : Rearranged k.0 q.0 = cancel (Points m f v) k.0 q.0 old in
      heap_after (λ c. record c { fields = slice_set c.fields f w }) (λ c. refl) hs d (leaf_put r f u d) cs next m
      (with_field cs m f w) (field_cell cs m f w) h
      (λ c g. every_set (NamesCell cs) c.fields f w g (value_names hs d cs next h u))
      (λ c p. length_set c.fields f w ∙ p) (chain (k.1 u) (chain (keep (Points m f w) rest) (back (q.1 w))))
