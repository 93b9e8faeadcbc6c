-- `free` of a root's cell: the members of the forest without the root are what the members become.
use Rattle.std.proofs.Common.{◌≡◌, inl, ℕ, zero, suc, List, [], ◌∷◌, map, slice_index_or, refl, sym, ap, subst, ◌∙◌}
use Rattle.std.proofs.lemmas.Option.{same_Some}
use Rattle.fore_base.specs.Stores.{var_of, freed}
use Rattle.fore_base.specs.declared.shape.Shape.{Shape}
use Rattle.fore_base.specs.declared.store.Store.{Store}
use Rattle.fore_base.specs.declared.store.Value.{Value}
use Rattle.fore_base.specs.declared.store.Value.TheVariants.{Uninit as UninitValue, Cell}
use Rattle.fa_core.specs.Boxes.{IsTableOf}
use Rattle.fa_core.specs.Dressed.{Nodes, node, number, roots_of, value_in, cells}
use Rattle.fa_core.specs.Filled.{IsFilled}
use Rattle.fa_core.specs.Member.{StandsBy}
use Rattle.fa_core.specs.declared.boxes.BoxDef.{BoxDef}
use Rattle.fa_core.specs.declared.faces.Face.{Face}
use Rattle.fa_core.specs.declared.forest.Forest.{Forest}
use Rattle.fa_core.specs.declared.forest.Target.{Target}
use Rattle.fa_core.specs.declared.forest.Target.TheVariants.{Uninit, At}
use Rattle.fa_merge.specs.Dropped.{dropped, IsCut, IsFlatRoot, IsIdle, Removes, without_cell}
use Rattle.fa_merge.proofs.DroppedBack.{store_again}
use Rattle.fa_merge.proofs.DroppedStores.{store_removed}
use Rattle.fa_back.proofs.FactParts.{node_root}
use Rattle.c_cfg.specs.Edges.{Passed, onto, raw_step}
use Rattle.c_cfg.specs.declared.graph.Instr.TheVariants.{Free}
use Rattle.sym_core.specs.Carried.{GoesInto, ComesRaw, Carries}
use Rattle.sym_core.specs.Explicit.{target_at}
use Rattle.sym_core.specs.Kept.{HasBoxEdge}
use Rattle.sym_transfer.proofs.BoxEdges.{edges_dropped}

-- what a variable is, by its target
value_of_target : (vs : List Value) (ts : List Target) (x : ℕ) → slice_index_or (map (value_in vs) ts) x UninitValue
    ≡ value_in vs (slice_index_or ts x Uninit)
value_of_target vs [] x = refl
value_of_target vs (t ∷ ts) zero = refl
value_of_target vs (t ∷ ts) (suc x) = value_of_target vs ts x

-- a root has one cell
pub one_root : (d : Nodes) (r m n : ℕ) → IsFlatRoot d r m → IsFlatRoot d r n → m ≡ n
one_root d r m n a b = ap number (same_Some (node m a.0 a.1 a.2) (node n b.0 b.1 b.2) (sym a.3 ∙ b.3))

module _ (face : Face) (T : List BoxDef) (F : Forest) (base r : ℕ) (at : target_at F base ≡ At r) where
  abbrev hs : List Shape
  hs = face.shapes.structs

  -- the variable names the root's cell
  base_is : (d : Nodes) (s : Store) (c : ℕ) → StandsBy hs T F d s → IsFlatRoot d r c → var_of s base ≡ Cell c
  base_is d s c h flat =
      ap (λ (vs : List Value). slice_index_or vs base UninitValue) h.vars
      ∙ value_of_target (roots_of d) F.vars base
      ∙ ap (value_in (roots_of d)) at
      ∙ node_root d r (node c flat.0 flat.1 flat.2) flat.3

  free_goes : (d : Nodes) (s : Store) (c x : ℕ) → StandsBy hs T F d s → IsFlatRoot d r c → raw_step hs (Free base) x s
      ≡ Passed (without_cell c s)
  free_goes d s c x h flat = ap (λ (v : Value). onto (freed s v) Passed) (base_is d s c h flat)

  -- by a table of boxes over the face, where the root is idle
  module _ (G : Forest) (table : IsTableOf face T) (filled : IsFilled face F) (idle : IsIdle face.boxes F r)
      (cut : IsCut T F G r) (x : ℕ) where
    removes : Removes face.shapes.structs T F G r
    removes = store_removed face T F G r table filled idle cut

    free_into : (s : Store) (d : Nodes) → StandsBy hs T F d s → GoesInto face T G (Free base) x s
    free_into s d h =
        let k = removes d s h in
        record { next = without_cell k.0 s; goes = free_goes d s k.0 x h k.1; stands = (dropped r d, k.2) }

    free_from : (d : Nodes) (u : Store) → StandsBy hs T G d u → ComesRaw face T F G (Free base) x d u
    free_from d u h =
        let p = store_again T face F G r table filled idle cut d u h in
        let e : Nodes = p.0 in
        let s : Store = p.1 in
        let c : ℕ = p.2 in
        let flat : IsFlatRoot e r c = p.3 in
        let was : StandsBy hs T F e s = p.4 in
        let k = removes e s was in
        record {
          dressed = e;
          was = s;
          goes_to = without_cell c s;
          stands = was;
          goes = free_goes e s c x was flat;
          into = (
            dropped r e,
            subst (λ (n : ℕ). StandsBy hs T G (dropped r e) (without_cell n s))
                (one_root e r k.0 c k.1 flat) k.2,
          );
          alike = p.6.0;
          edges = λ a i z j b l ex.
              let other : (a.cell ≡ c → ⊥) =
              (λ q. ex (record {
                base = base;
                is_base = refl;
                cell = c;
                is_cell = base_is e s c was flat;
                why = inl (tt, q);
              })) in
              subst (λ (m : ℕ). HasBoxEdge (cells d) m b) (sym (p.6.1 a.cell))
              (subst (λ (D : Nodes). HasBoxEdge (cells D) a.cell b) p.5
              (edges_dropped e r c flat a i other b (z, j, l)));
        }

    pub freed_carries : Carries face T F G (Free base) x
    freed_carries = record { forth = λ s m. free_into s m.0 m.1; back = free_from }
