-- States related both ways are put into classes: it is an equivalence where the relation is a preorder.
use Rattle.ta_classes.specs.Classes.{IsEquivalence}
use Rattle.ta_sim.specs.Relations.{Table}
use Rattle.ta_reduce.specs.inner.Reduction.{AreMutual, IsPreorder}

pub mutual_equivalence : (rel : Table) → IsPreorder rel → IsEquivalence rel.size (AreMutual rel)
mutual_equivalence rel preorder = record {
  same = λ p l. (preorder.0 p l, preorder.0 p l);
  turned = λ p q h. (h.1, h.0);
  through = λ p q r h k. (preorder.1 p q r h.0 k.0, preorder.1 r q p k.1 h.1);
}
