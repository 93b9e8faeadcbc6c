-- A datum in a data field of a root is what the store has there, and another datum is another one there.
use Rattle.std.proofs.Common.{◌≡◌, ◌∙◌, ℕ, List, ◌∷◌, slice_set, Some, None, refl, sym, ap}
use Rattle.fore_base.specs.Stores.{with_datum}
use Rattle.fore_base.specs.declared.shape.Shape.{Shape}
use Rattle.fore_base.specs.declared.store.CellRec.{CellRec}
use Rattle.fore_base.specs.declared.store.Datum.{Datum}
use Rattle.fa_core.specs.Dressed.{Parts, Nodes, node, Head, facts, number, roots_of}
use Rattle.fa_core.specs.Member.{store_facts}
use Rattle.fa_core.specs.Rearranged.{Rearranged, keep, chain}
use Rattle.fa_core.proofs.Permuted.{in_rearranged, cancel}
use Rattle.fa_core.proofs.Rearranging.{back, equal}
use Rattle.fa_back.specs.Reached.{node_at}
use Rattle.fa_edit.specs.Data.{HasDatum, LacksDatum, datum_put}
use Rattle.c_cfg.specs.Edges.{datum_field_of}
use Rattle.sym_transfer.proofs.CellSet.{heap_after}
use Rattle.sym_transfer.proofs.DatumPut.{datum_put_same, facts_head}
use Rattle.sym_transfer.proofs.DatumSet.{
  head_in,
  head_is_in,
  data_field_is,
  head_split,
  with_datum_same,
  datum_cell,
}
use Rattle.sym_transfer.proofs.Standing.{IsHeap, root_head}

module _ (hs : List Shape) (d : Nodes) (cs : List CellRec) (next : ℕ) (h : IsHeap hs d cs next) where
  head_of_root : (r c s : ℕ) (ds : List Datum) (ps : Parts) → node_at d r ≡ Some (node c s ds ps)
      → head_in cs c ≡ Some (Head c s ds)
  head_of_root r c s ds ps e =
      head_is_in c s ds cs h.differ (in_rearranged (Head c s ds) h.same_facts (root_head (roots_of d) r d c s ds ps e))

  -- the store has the datum of the field
  pub datum_is : (r f : ℕ) (y : Datum) (l : HasDatum d r f y) → datum_field_of cs (number l.0) f ≡ Some y
  datum_is r f y (node c s ds ps, e, l) = data_field_is c s f ds cs (head_of_root r c s ds ps e) ∙ l

  -- and none where the root has none
  pub datum_lacks : (r f : ℕ) (l : LacksDatum d r f) → datum_field_of cs (number l.0) f ≡ None
  datum_lacks r f (node c s ds ps, e, l) = data_field_is c s f ds cs (head_of_root r c s ds ps e) ∙ l

  -- another datum in the field
  pub heap_datum : (r f : ℕ) (y x : Datum) (l : HasDatum d r f y)
      → IsHeap hs (datum_put r f x d) (with_datum cs (number l.0) f x) next
  heap_datum r f y x (node c s ds ps, e, l) =
      let a = head_of_root r c s ds ps e in
      let k = facts_head r c s ds ps d e in
      let q = head_split cs c s ds a in
      let o = Head c s (slice_set ds f y) in
      let old : Rearranged (o ∷ k.0) (o ∷ q.0) =
      chain (back (k.1 f y))
      (chain (equal (ap facts (datum_put_same r f y d (node c s ds ps, e, l))))
      (chain h.same_facts
      (chain (equal (ap store_facts (sym (with_datum_same cs c f y (data_field_is c s f ds cs a ∙ l)))))
      (q.1 f y)))) in
      heap_after (λ z. record z { datums = slice_set z.datums f x }) (λ z. refl) hs d (datum_put r f x d) cs next c
      (with_datum cs c f x) (datum_cell cs c f x) h (λ z g. g) (λ z g. g)
      (chain (k.1 f x) (chain (keep (Head c s (slice_set ds f x)) (cancel o k.0 q.0 old)) (back (q.1 f x))))
