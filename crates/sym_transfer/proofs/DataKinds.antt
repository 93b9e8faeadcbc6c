-- Edges that load and store data.
use Rattle.std.proofs.Common.{◌≡◌, ◌∙◌, ℕ, List, slice_set, Option, refl, sym, ap, ap₂, subst}
use Rattle.std.proofs.lemmas.Option.{same_Some}
use Rattle.fore_base.specs.Stores.{followed, var_of, datum_of, set_datum, with_datum}
use Rattle.fore_base.specs.declared.store.CellRec.{CellRec}
use Rattle.fore_base.specs.declared.store.Datum.{Datum}
use Rattle.fore_base.specs.declared.store.Datum.TheVariants.{Known}
use Rattle.fore_base.specs.declared.store.Store.{Store}
use Rattle.fa_core.specs.declared.boxes.BoxDef.{BoxDef}
use Rattle.fa_core.specs.declared.faces.Face.{Face}
use Rattle.fa_core.specs.declared.forest.Forest.{Forest}
use Rattle.fa_core.specs.declared.forest.Target.TheVariants.{At}
use Rattle.fa_core.specs.Dressed.{Node, Nodes, number, cells}
use Rattle.fa_core.specs.Member.{OfForest, StandsBy, Stands}
use Rattle.fa_edit.specs.Data.{AllHaveDatum, AllLackDatum, IsDatumPut, datum_put}
use Rattle.c_cfg.specs.declared.graph.Const.TheVariants.{Known as ConstKnown}
use Rattle.c_cfg.specs.declared.graph.Instr.{Instr}
use Rattle.c_cfg.specs.declared.graph.Instr.TheVariants.{LoadData, StoreConst, StoreData}
use Rattle.c_cfg.specs.Edges.{Passed, NotPassed, raw_step, onto, if_there, datum_field_of, stored_datum}
use Rattle.sym_core.specs.Carried.{ComesRaw, Carries, AllGo}
use Rattle.sym_core.specs.Explicit.{target_at}
use Rattle.sym_core.specs.Kept.{HasBoxEdge}
use Rattle.sym_transfer.specs.inner.Targets.{datum_at, with_vars}
use Rattle.sym_transfer.proofs.Carrying.{all_go, carries_vars}
use Rattle.sym_transfer.proofs.DatumHeaps.{datum_is, datum_lacks, heap_datum}
use Rattle.sym_transfer.proofs.DatumPut.{datum_roots, datum_node, datum_number, datum_put_same, datum_put_twice}
use Rattle.sym_transfer.proofs.DatumPut.{datum_edges}
use Rattle.sym_transfer.proofs.DatumSet.{with_datum_same, with_datum_twice}
use Rattle.sym_transfer.proofs.Following.{follow_root}
use Rattle.sym_transfer.proofs.Standing.{IsHeap, store_by, same_by, heap_of, is_by, stands_by, alike_equal}

module _ (face : Face) (T : List BoxDef) (H : Forest) where
  -- the data field of root r is y in each dressed forest
  pub load_data : (to b f x r : ℕ) (y : Datum) → target_at H b ≡ At r → AllHaveDatum T H r f y
      → Carries face T H (with_vars H H.vars (slice_set H.data_vars to y)) (LoadData to b f) x
  load_data to b f x r y e l =
      carries_vars face T H (LoadData to b f) x H.vars (slice_set H.data_vars to y) (λ d cs next o h.
      let s = store_by d H cs next in
      let q = l d o in
      follow_root H b d cs next (λ n. if_there (datum_field_of cs n f) (λ v. Passed (set_datum s to v))) r e q.0 q.1
      ∙ ap (λ (m : Option Datum). if_there m (λ v. Passed (set_datum s to v)))
      (datum_is face.shapes.structs d cs next h r f y q))

  -- a load of a field that root r does not have does not pass
  pub load_data_stays : (to b f x r : ℕ) → target_at H b ≡ At r → AllLackDatum T H r f
      → AllGo face T H (LoadData to b f) x NotPassed
  load_data_stays to b f x r e l = all_go face T H (LoadData to b f) x NotPassed (λ d cs next o h.
      let s = store_by d H cs next in
      let q = l d o in
      follow_root H b d cs next (λ n. if_there (datum_field_of cs n f) (λ v. Passed (set_datum s to v))) r e q.0 q.1
      ∙ ap (λ (m : Option Datum). if_there m (λ v. Passed (set_datum s to v)))
      (datum_lacks face.shapes.structs d cs next h r f q))

  -- by an edge that stores `value` through variable b
  module _ (r f : ℕ) (i : Instr) (x b : ℕ) (at : target_at H b ≡ At r) (value : Store → Datum)
      (does : (s : Store) → raw_step face.shapes.structs i x s
      ≡ onto (followed (var_of s b)) (λ n. stored_datum s n f (value s))) where
    pub datum_stays : AllLackDatum T H r f → AllGo face T H i x NotPassed
    datum_stays l = all_go face T H i x NotPassed (λ d cs next o h.
        let s = store_by d H cs next in
        let q = l d o in
        does s
        ∙ follow_root H b d cs next (λ n. stored_datum s n f (value s)) r at q.0 q.1
        ∙ ap (λ (m : Option Datum).
        if_there m (λ old. Passed (record s { cells = with_datum cs (number q.0) f (value s) })))
        (datum_lacks face.shapes.structs d cs next h r f q))

    -- the datum z comes into the field in place of the datum y
    module _ (R : Forest) (y z : Datum) (p : IsDatumPut T H R r f y z)
        (is : (d : Nodes) (cs : List CellRec) (next : ℕ) → value (store_by d H cs next) ≡ z) where
      abbrev after_datum : Nodes → List CellRec → ℕ → Node → Store
      after_datum d cs next n = store_by (datum_put r f z d) R (with_datum cs (number n) f z) next

      datum_goes : (d : Nodes) (cs : List CellRec) (next : ℕ) → (o : OfForest T H d)
          → (h : IsHeap face.shapes.structs d cs next) → raw_step face.shapes.structs i x (store_by d H cs next)
          ≡ Passed (after_datum d cs next (p.old d o).0)
      datum_goes d cs next o h =
          let s = store_by d H cs next in
          let q = p.old d o in
          does s
          ∙ (follow_root H b d cs next (λ n. stored_datum s n f (value s)) r at q.0 q.1
          ∙ (ap (λ (w : Datum). stored_datum s (number q.0) f w) (is d cs next)
          ∙ (ap (λ (m : Option Datum). if_there m (λ old. Passed (record s { cells = with_datum cs (number q.0) f z })))
          (datum_is face.shapes.structs d cs next h r f y q)
          ∙ ap Passed (same_by d (datum_put r f z d) H R (with_datum cs (number q.0) f z) next
          (datum_roots r f z d) p.vars p.data_vars))))

      pub carries_datum : Carries face T H R i x
      carries_datum = record {
        forth = λ s m.
            let hs = face.shapes.structs in
            let d = m.0 in
            let h = heap_of hs T H d s m.1 in
            let q = p.old d m.1.of in
            record {
              next = after_datum d s.cells s.next q.0;
              goes = ap (raw_step hs i x) (is_by hs T H d s m.1) ∙ datum_goes d s.cells s.next m.1.of h;
              stands = (
                datum_put r f z d,
                stands_by hs T R (datum_put r f z d) (with_datum s.cells (number q.0) f z) s.next
                    (p.forth d m.1.of) (heap_datum hs d s.cells s.next h r f y z q),
              );
            };
        back = λ d u m. came d u m;
      }
        where
          came : (d : Nodes) (u : Store) → StandsBy face.shapes.structs T R d u → ComesRaw face T H R i x d u
          came d u m =
              let hs = face.shapes.structs in
              let h = heap_of hs T R d u m in
              let n = p.new d m.of in
              let c = number n.0 in
              let d' = datum_put r f y d in
              let cs = with_datum u.cells c f y in
              let o = p.back d m.of in
              let k = heap_datum hs d u.cells u.next h r f z y n in
              let q = p.old d' o in
              let same_d : datum_put r f z d' ≡ d = datum_put_twice r f y z d ∙ datum_put_same r f z d n in
              let same_n : number q.0 ≡ c = ap number (same_Some q.0 _ (sym q.1 ∙ datum_node r f y d n.0 n.1))
              ∙ datum_number f y n.0 in
              let same_cs : with_datum cs (number q.0) f z ≡ u.cells = ap (λ (j : ℕ). with_datum cs j f z) same_n
              ∙ (with_datum_twice u.cells c f y z
              ∙ with_datum_same u.cells c f z (datum_is hs d u.cells u.next h r f z n)) in
              let same_u : after_datum d' cs u.next q.0 ≡ u =
              ap₂ (λ (w : Nodes) (es : List CellRec). store_by w R es u.next) same_d same_cs
              ∙ sym (is_by hs T R d u m) in
              record {
                dressed = d';
                was = store_by d' H cs u.next;
                goes_to = after_datum d' cs u.next q.0;
                stands = stands_by hs T H d' cs u.next o k;
                goes = datum_goes d' cs u.next o k;
                into = subst (λ (w : Store). Stands hs T R w) (sym same_u) (d, m);
                alike = alike_equal (after_datum d' cs u.next q.0) u same_u;
                edges = λ a j w l e g ex.
                    subst (λ (D : Nodes). HasBoxEdge (cells D) a.cell e) same_d
                    (datum_edges r f z d' a.cell e (a, j, refl, (w, l, g)));
              }

  pub store_data : (R : Forest) (b f v x r : ℕ) (y : Datum) → target_at H b ≡ At r
      → IsDatumPut T H R r f y (datum_at H v) → Carries face T H R (StoreData b f v) x
  store_data R b f v x r y e p =
      carries_datum r f (StoreData b f v) x b e (λ s. datum_of s v) (λ s. refl) R y (datum_at H v) p (λ d cs next. refl)

  pub store_known : (R : Forest) (b f k x r : ℕ) (y : Datum) → target_at H b ≡ At r → IsDatumPut T H R r f y (Known k)
      → Carries face T H R (StoreConst b f (ConstKnown k)) x
  store_known R b f k x r y e p =
      carries_datum r f (StoreConst b f (ConstKnown k)) x b e (λ s. Known k) (λ s. refl) R y (Known k) p
      (λ d cs next. refl)

  pub store_data_stays : (b f v x r : ℕ) → target_at H b ≡ At r → AllLackDatum T H r f
      → AllGo face T H (StoreData b f v) x NotPassed
  store_data_stays b f v x r e l = datum_stays r f (StoreData b f v) x b e (λ s. datum_of s v) (λ s. refl) l

  pub store_known_stays : (b f k x r : ℕ) → target_at H b ≡ At r → AllLackDatum T H r f
      → AllGo face T H (StoreConst b f (ConstKnown k)) x NotPassed
  store_known_stays b f k x r e l = datum_stays r f (StoreConst b f (ConstKnown k)) x b e (λ s. Known k) (λ s. refl) l
