-- Edges that load and store pointers.
use Rattle.std.proofs.Common.{◌≡◌, ◌∙◌, ℕ, Bool, true, if◌then◌else◌, List, slice_set, Option, Some, Err, refl}
use Rattle.std.proofs.Common.{sym, ap, ap₂, subst}
use Rattle.std.proofs.lemmas.Option.{same_Some}
use Rattle.fore_base.specs.Stores.{followed, var_of, set_var, with_field}
use Rattle.fore_base.specs.declared.fault.Fault.{Fault}
use Rattle.fore_base.specs.declared.store.CellRec.{CellRec}
use Rattle.fore_base.specs.declared.store.Store.{Store}
use Rattle.fore_base.specs.declared.store.Value.{Value}
use Rattle.fore_base.specs.declared.store.Value.TheVariants.{Null as NullValue}
use Rattle.fa_core.specs.declared.boxes.BoxDef.{BoxDef}
use Rattle.fa_core.specs.declared.faces.Face.{Face}
use Rattle.fa_core.specs.declared.forest.Forest.{Forest}
use Rattle.fa_core.specs.declared.forest.Target.{Target}
use Rattle.fa_core.specs.declared.forest.Target.TheVariants.{Null, At}
use Rattle.fa_core.specs.Dressed.{Node, Nodes, number, roots_of, value_in, cells}
use Rattle.fa_core.specs.Member.{OfForest, StandsBy, Stands}
use Rattle.fa_back.specs.Reached.{node_at}
use Rattle.fa_edit.specs.Leaves.{AllHaveLeaf, IsPut, leaf_put}
use Rattle.c_cfg.specs.declared.graph.Const.TheVariants.{Null as ConstNull}
use Rattle.c_cfg.specs.declared.graph.Instr.{Instr}
use Rattle.c_cfg.specs.declared.graph.Instr.TheVariants.{LoadPtr, StorePtr, StoreConst}
use Rattle.c_cfg.specs.Edges.{Passed, Faulted, NotPassed, raw_step, onto, if_there, field_of, may_stand, stored}
use Rattle.sym_core.specs.Carried.{ComesRaw, Carries, AllGo}
use Rattle.sym_core.specs.Explicit.{target_at}
use Rattle.sym_core.specs.Kept.{HasBoxEdge}
use Rattle.sym_transfer.specs.inner.Targets.{root_of, with_vars}
use Rattle.sym_transfer.proofs.Carrying.{all_go, carries_vars, set_is, var_is}
use Rattle.sym_transfer.proofs.FieldSet.{with_field_same, with_field_twice}
use Rattle.sym_transfer.proofs.Following.{follow_fails, follow_root}
use Rattle.sym_transfer.proofs.LeafEdges.{edges_kept}
use Rattle.sym_transfer.proofs.LeafHeaps.{field_is, heap_put}
use Rattle.sym_transfer.proofs.LeafPut.{leaf_put_same, leaf_put_twice, roots_kept, node_put, number_kept}
use Rattle.sym_transfer.proofs.Standing.{IsHeap, store_by, same_by, heap_of, is_by, stands_by, alike_equal}

module _ (face : Face) (T : List BoxDef) (H : Forest) where
  pub store_fails : (b f v x : ℕ) (k : Fault) → root_of (target_at H b) ≡ Err k
      → AllGo face T H (StorePtr b f v) x (Faulted k)
  store_fails b f v x k e =
      all_go face T H (StorePtr b f v) x (Faulted k)
      (λ d cs next o h. follow_fails H b d cs next
      (λ n. stored face.shapes.structs (store_by d H cs next) n f (var_of (store_by d H cs next) v)) k e)

  -- the field of root r is the leaf t in each dressed forest
  pub load_ptr : (to b f x r : ℕ) (t : Target) → target_at H b ≡ At r → AllHaveLeaf T H r f t
      → Carries face T H (with_vars H (slice_set H.vars to t) H.data_vars) (LoadPtr to b f) x
  load_ptr to b f x r t e l =
      carries_vars face T H (LoadPtr to b f) x (slice_set H.vars to t) H.data_vars (λ d cs next o h.
      let s = store_by d H cs next in
      let q = l d o in
      follow_root H b d cs next (λ n. if_there (field_of cs n f) (λ v. Passed (set_var s to v))) r e q.0 q.1
      ∙ (ap (λ (m : Option Value). if_there m (λ v. Passed (set_var s to v)))
      (field_is face.shapes.structs d cs next h r f t q)
      ∙ ap Passed (set_is d H cs next to t (value_in (roots_of d) t) refl)))

  -- the leaf u comes into the field in place of the leaf t, by an edge that stores `value` through variable b
  module _ (R : Forest) (r f : ℕ) (t u : Target) (p : IsPut T H R r f t u) (i : Instr) (x b : ℕ)
      (at : target_at H b ≡ At r) (value : Store → Value)
      (does : (s : Store) → raw_step face.shapes.structs i x s
      ≡ onto (followed (var_of s b)) (λ n. stored face.shapes.structs s n f (value s)))
      (is : (d : Nodes) (cs : List CellRec) (next : ℕ) → value (store_by d H cs next) ≡ value_in (roots_of d) u)
      (fits : (d : Nodes) (cs : List CellRec) (next : ℕ) → OfForest T H d → IsHeap face.shapes.structs d cs next
      → (n : Node) → node_at d r ≡ Some n → may_stand face.shapes.structs cs (number n) f (value_in (roots_of d) u)
      ≡ true) where
    -- the store of the dressed forest with u in the field
    abbrev after_put : Nodes → List CellRec → ℕ → Node → Store
    after_put d cs next n = store_by (leaf_put r f u d) R (with_field cs (number n) f (value_in (roots_of d) u)) next

    put_goes : (d : Nodes) (cs : List CellRec) (next : ℕ) → (o : OfForest T H d)
        → (h : IsHeap face.shapes.structs d cs next) → raw_step face.shapes.structs i x (store_by d H cs next)
        ≡ Passed (after_put d cs next (p.old d o).0)
    put_goes d cs next o h =
        let hs = face.shapes.structs in
        let s = store_by d H cs next in
        let q = p.old d o in
        let v = value_in (roots_of d) u in
        does s
        ∙ (follow_root H b d cs next (λ n. stored hs s n f (value s)) r at q.0 q.1
        ∙ (ap (λ (w : Value). stored hs s (number q.0) f w) (is d cs next)
        ∙
        (ap (λ (m : Option Value).
        if_there m (λ old. if may_stand hs cs (number q.0) f v
        then Passed (record s { cells = with_field cs (number q.0) f v }) else NotPassed))
        (field_is hs d cs next h r f t q)
        ∙ (ap (λ (y : Bool). if y then Passed (record s { cells = with_field cs (number q.0) f v }) else NotPassed)
        (fits d cs next o h q.0 q.1)
        ∙ ap Passed (same_by d (leaf_put r f u d) H R (with_field cs (number q.0) f v) next (roots_kept r f u d) p.vars
        p.data_vars)))))

    pub carries_put : Carries face T H R i x
    carries_put = record {
      forth = λ s m.
          let hs = face.shapes.structs in
          let d = m.0 in
          let h = heap_of hs T H d s m.1 in
          let q = p.old d m.1.of in
          record {
            next = after_put d s.cells s.next q.0;
            goes = ap (raw_step hs i x) (is_by hs T H d s m.1) ∙ put_goes d s.cells s.next m.1.of h;
            stands = (
              leaf_put r f u d,
              stands_by hs T R (leaf_put r f u d)
                  (with_field s.cells (number q.0) f (value_in (roots_of d) u)) s.next (p.forth d m.1.of)
                  (heap_put hs d s.cells s.next h r f t u q),
            );
          };
      back = λ d y m. came d y m;
    }
      where
        came : (d : Nodes) (y : Store) → StandsBy face.shapes.structs T R d y → ComesRaw face T H R i x d y
        came d y m =
            let hs = face.shapes.structs in
            let h = heap_of hs T R d y m in
            let n = p.new d m.of in
            let c = number n.0 in
            let v = value_in (roots_of d) t in
            let w = value_in (roots_of d) u in
            let d' = leaf_put r f t d in
            let cs = with_field y.cells c f v in
            let o = p.back d m.of in
            let k = heap_put hs d y.cells y.next h r f u t n in
            let q = p.old d' o in
            let same_d : leaf_put r f u d' ≡ d = leaf_put_twice r f t u d ∙ leaf_put_same r f u d n in
            let same_n : number q.0 ≡ c = ap number (same_Some q.0 _ (sym q.1 ∙ node_put r f t d n.0 n.1))
            ∙ number_kept f t n.0 in
            let same_w : value_in (roots_of d') u ≡ w = ap (λ (vs : List Value). value_in vs u) (roots_kept r f t d) in
            let same_cs : with_field cs (number q.0) f (value_in (roots_of d') u) ≡ y.cells =
            ap₂ (λ (j : ℕ) (z : Value). with_field cs j f z) same_n same_w
            ∙ (with_field_twice y.cells c f v w
            ∙ with_field_same y.cells c f w (field_is hs d y.cells y.next h r f u n)) in
            let same_y : after_put d' cs y.next q.0 ≡ y =
            ap₂ (λ (z : Nodes) (es : List CellRec). store_by z R es y.next) same_d same_cs
            ∙ sym (is_by hs T R d y m) in
            record {
              dressed = d';
              was = store_by d' H cs y.next;
              goes_to = after_put d' cs y.next q.0;
              stands = stands_by hs T H d' cs y.next o k;
              goes = put_goes d' cs y.next o k;
              into = subst (λ (z : Store). Stands hs T R z) (sym same_y) (d, m);
              alike = alike_equal (after_put d' cs y.next q.0) y same_y;
              edges = λ a j z l e g ex.
                  subst (λ (D : Nodes). HasBoxEdge (cells D) a.cell e) same_d
                  (edges_kept r f t u d' q a.cell e (a, j, refl, (z, l, g)));
            }

  pub store_ptr : (R : Forest) (b f v x r : ℕ) (t : Target) → target_at H b ≡ At r → IsPut T H R r f t (target_at H v)
      → ((d : Nodes) (cs : List CellRec) (next : ℕ) → OfForest T H d → IsHeap face.shapes.structs d cs next → (n : Node)
      → node_at d r ≡ Some n → may_stand face.shapes.structs cs (number n) f (value_in (roots_of d) (target_at H v))
      ≡ true) → Carries face T H R (StorePtr b f v) x
  store_ptr R b f v x r t e p fits =
      carries_put R r f t (target_at H v) p (StorePtr b f v) x b e (λ s. var_of s v) (λ s. refl)
      (λ d cs next. var_is d H cs next v) fits

  pub store_null : (R : Forest) (b f x r : ℕ) (t : Target) → target_at H b ≡ At r → IsPut T H R r f t Null
      → Carries face T H R (StoreConst b f ConstNull) x
  store_null R b f x r t e p =
      carries_put R r f t Null p (StoreConst b f ConstNull) x b e (λ s. NullValue) (λ s. refl) (λ d cs next. refl)
      (λ d cs next o h n q. refl)
