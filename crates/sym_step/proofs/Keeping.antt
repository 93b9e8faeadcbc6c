-- Regrouped forests have the members and the box edges of each other, and what an edit gives goes on where it does not
-- leak.
use Rattle.std.proofs.Common.{◌≡◌, ℕ, Bool, true, false, if◌then◌else◌, List, refl, ap, ◌∙◌}
use Rattle.fore_base.specs.Heap.{Leaked, leaks}
use Rattle.fore_base.specs.declared.fault.Fault.{Fault}
use Rattle.fore_base.specs.declared.fault.Fault.TheVariants.{Leak}
use Rattle.fore_base.specs.declared.store.Store.{Store}
use Rattle.fore_base.proofs.Leaks.{leaks_leaked}
use Rattle.fa_core.specs.declared.boxes.BoxDef.{BoxDef}
use Rattle.fa_core.specs.declared.faces.Face.{Face}
use Rattle.fa_core.specs.declared.forest.Forest.{Forest}
use Rattle.fa_core.specs.Dressed.{Nodes, cells}
use Rattle.fa_core.specs.Member.{Stands, Regroups}
use Rattle.fa_core.specs.Rearranged.{Rearranged}
use Rattle.fa_core.proofs.Permuted.{in_rearranged}
use Rattle.fa_core.proofs.Rearranging.{back}
use Rattle.fa_core.proofs.Regrouped.{stands_regrouped}
use Rattle.c_cfg.specs.Edges.{Passed, Faulted, leak_tested, gstep, choice_of}
use Rattle.c_cfg.specs.declared.graph.Edge.{Edge}
use Rattle.sym_core.specs.Carried.{Carries, AllGo}
use Rattle.sym_core.specs.Kept.{HasBoxEdge, Keeps}

edges_moved : (d e : Nodes) → Rearranged (cells d) (cells e) → (m b : ℕ) → HasBoxEdge (cells d) m b
    → HasBoxEdge (cells e) m b
edges_moved d e r m b (c, i, q, x) = (c, in_rearranged c r i, q, x)

-- the leak test is false where the store has not leaked
pub unleaked_sound : (s : Store) → (Leaked s → ⊥) → leaks s ≡ false
unleaked_sound s never = here (leaks s) refl
  where
    here : (b : Bool) → leaks s ≡ b → leaks s ≡ false
    here true e = absurd (never (leaks_leaked s e))
    here false e = e

module _ (face : Face) (T : List BoxDef) (e : Edge) where
  -- what regroups a forest that keeps the box edges keeps them
  pub keeps_regrouped : (F R M : Forest) → Keeps face T F e R → Regroups T R M → Keeps face T F e M
  keeps_regrouped F R M w g d u m =
      let r = g d m.of in
      let c = w r.0 u (stands_regrouped face.shapes.structs T R M u d r.0 m r.1) in
      record {
        dressed = c.dressed;
        was = c.was;
        goes_to = c.goes_to;
        stands = c.stands;
        goes = c.goes;
        alike = c.alike;
        edges = λ a i x j b l n. edges_moved r.0 d (back r.1.same_cells) (c.alike.to a.cell) b (c.edges a i x j b l n);
      }

  -- The leak test.

  -- each member meets the edge's own fault
  pub fault_met : (H : Forest) (k : Fault) → AllGo face T H e.instr (choice_of e.choice) (Faulted k) → (s : Store)
      → Stands face.shapes.structs T H s → gstep face.shapes.structs e s ≡ Faulted k
  fault_met H k w s h = ap leak_tested (w s h)

  -- where the edited forest leaks, the fault is a leak
  pub leak_met : (H R : Forest) → Carries face T H R e.instr (choice_of e.choice)
      → ((t : Store) → Stands face.shapes.structs T R t → leaks t ≡ true) → (s : Store)
      → Stands face.shapes.structs T H s → gstep face.shapes.structs e s ≡ Faulted Leak
  leak_met H R c w s h =
      let g = c.forth s h in
      ap leak_tested g.goes ∙ ap (λ (b : Bool). if b then Faulted Leak else Passed g.next) (w g.next g.stands)

  -- where it does not, the edge goes on
  pub goes_on : (H R : Forest) → Carries face T H R e.instr (choice_of e.choice)
      → ((t : Store) → Stands face.shapes.structs T R t → leaks t ≡ false) → (s : Store)
      → Stands face.shapes.structs T H s → (t : Store) × (gstep face.shapes.structs e s ≡ Passed t)
      × Stands face.shapes.structs T R t
  goes_on H R c w s h =
      let g = c.forth s h in (
        g.next,
        ap leak_tested g.goes ∙ ap (λ (b : Bool). if b then Faulted Leak else Passed g.next) (w g.next g.stands),
        g.stands,
      )

  -- and keeps the box edges
  pub goes_keeps : (H R : Forest) → Carries face T H R e.instr (choice_of e.choice)
      → ((t : Store) → Stands face.shapes.structs T R t → leaks t ≡ false) → Keeps face T H e R
  goes_keeps H R c w d u m =
      let k = c.back d u m in
      record {
        dressed = k.dressed;
        was = k.was;
        goes_to = k.goes_to;
        stands = k.stands;
        goes = ap leak_tested k.goes
            ∙ ap (λ (b : Bool). if b then Faulted Leak else Passed k.goes_to) (w k.goes_to k.into);
        alike = k.alike;
        edges = k.edges;
      }
