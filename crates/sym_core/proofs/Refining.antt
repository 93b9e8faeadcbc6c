-- Forests that are split, lifted or unfolded refine the first one step by step, and what they become it becomes.
use Rattle.std.proofs.Common.{◌≡◌, ◌∙◌, inl, inr, List, refl, sym, ap}
use Rattle.fore_base.specs.declared.store.Store.{Store}
use Rattle.fa_core.specs.Dressed.{Seen, SeenCell}
use Rattle.fa_core.specs.Member.{Stands, Regroups}
use Rattle.fa_core.specs.declared.boxes.BoxDef.{BoxDef}
use Rattle.fa_core.specs.declared.faces.BoxFace.{BoxFace}
use Rattle.fa_core.specs.declared.faces.Face.{Face}
use Rattle.fa_core.specs.declared.forest.Forest.{Forest}
use Rattle.fa_core.proofs.Permuted.{in_rearranged}
use Rattle.fa_core.proofs.Rearranging.{back}
use Rattle.fa_core.proofs.Regrouped.{stands_regrouped}
use Rattle.c_cfg.specs.declared.graph.Edge.{Edge}
use Rattle.c_cfg.specs.declared.graph.Instr.{Instr}
use Rattle.sym_core.specs.Cases.{BadAt, IsTrueBad}
use Rattle.sym_core.specs.Kept.{IsExcepted, Keeps}
use Rattle.sym_core.specs.Refined.{Refines}

-- an exception goes by the cell's number and the slot
excepted_at : (bs : List BoxFace) (i : Instr) (s : Store) (c k : SeenCell) (x : Seen) → c.cell ≡ k.cell
    → IsExcepted bs i s c x → IsExcepted bs i s k x
excepted_at bs i s c k x q h = record {
  base = h.base;
  is_base = h.is_base;
  cell = h.cell;
  is_cell = h.is_cell;
  why = elim h.why [
    | inl w ↦ inl (w.0, sym q ∙ w.1)
    | inr w ↦ inr (w.0, w.1, elim w.2 [ inl z ↦ inl (sym q ∙ z.0, z.1) | inr z ↦ inr z ])
  ];
}

module _ (face : Face) (T : List BoxDef) (i : Instr) where
  pub regroups_refine : (F G : Forest) → Regroups T F G → Refines face T i F G
  regroups_refine F G g d s m =
      let k = g d m.of in
      record {
        dressed = k.0;
        stands = stands_regrouped face.shapes.structs T F G s d k.0 m k.1;
        edges = λ c j x l b e n. (c, in_rearranged c (back k.1.same_cells) j, refl, l);
      }

  pub refines_on : (F G H : Forest) → Refines face T i F G → Refines face T i G H → Refines face T i F H
  refines_on F G H a w d s m =
      let k = w d s m in
      let l = a k.dressed s k.stands in
      record {
        dressed = l.dressed;
        stands = l.stands;
        edges = λ c j x p b e n.
            let y = l.edges c j x p b e n in
            let z = k.edges y.0 y.1 x y.3 b e (λ h. n (excepted_at face.boxes i s y.0 c x y.2 h)) in
            (z.0, z.1, z.2 ∙ y.2, z.3);
      }

  pub refined_members : (F G : Forest) → Refines face T i F G → (s : Store) → Stands face.shapes.structs T G s
      → Stands face.shapes.structs T F s
  refined_members F G a s m = let k = a m.0 s m.1 in (k.dressed, k.stands)

module _ (face : Face) (T : List BoxDef) (e : Edge) where
  pub keeps_refined : (F G M : Forest) → Refines face T e.instr F G → Keeps face T G e M → Keeps face T F e M
  keeps_refined F G M a w d u m =
      let c = w d u m in
      let r = a c.dressed c.was c.stands in
      record {
        dressed = r.dressed;
        was = c.was;
        goes_to = c.goes_to;
        stands = r.stands;
        goes = c.goes;
        alike = c.alike;
        edges = λ k j x l b q n.
            let y = r.edges k j x l b q n in
            let z = c.edges y.0 y.1 x y.3 b q (λ h. n (excepted_at face.boxes e.instr c.was y.0 k x y.2 h)) in
            (z.0, z.1, z.2 ∙ ap c.alike.to y.2, z.3);
      }

  pub bads_refined : (F G : Forest) (b : BadAt) → Refines face T e.instr F G → IsTrueBad face T G e b
      → IsTrueBad face T F e b
  bads_refined F G b a w s h = let k = w s h in (refined_members face T e.instr F G a s k.0, k.1)
