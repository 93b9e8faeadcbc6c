-- Edges that load or store pointers and do not go on: the root has no such field, or the value may not stand there.
use Rattle.std.proofs.Common.{◌≡◌, ◌∙◌, ℕ, Bool, if◌then◌else◌, List, Option, Some, None, refl, ap}
use Rattle.fore_base.specs.Stores.{followed, var_of, set_var, with_field}
use Rattle.fore_base.specs.declared.store.CellRec.{CellRec}
use Rattle.fore_base.specs.declared.store.Store.{Store}
use Rattle.fore_base.specs.declared.store.Value.{Value}
use Rattle.fa_core.specs.declared.boxes.BoxDef.{BoxDef}
use Rattle.fa_core.specs.declared.faces.Face.{Face}
use Rattle.fa_core.specs.declared.forest.Forest.{Forest}
use Rattle.fa_core.specs.declared.forest.Target.{Target}
use Rattle.fa_core.specs.declared.forest.Target.TheVariants.{At}
use Rattle.fa_core.specs.Dressed.{Nodes, number, roots_of, value_in}
use Rattle.fa_split.proofs.OtherComponent.{tree_at}
use Rattle.fa_edit.specs.Fits.{LeafFits, shape_at}
use Rattle.fa_edit.specs.Plain.{StructLacks}
use Rattle.c_cfg.specs.declared.graph.Instr.{Instr}
use Rattle.c_cfg.specs.declared.graph.Instr.TheVariants.{LoadPtr}
use Rattle.c_cfg.specs.Edges.{Passed, NotPassed, raw_step, onto, if_there, field_of, may_stand, stored}
use Rattle.sym_core.specs.Carried.{AllGo}
use Rattle.sym_core.specs.Explicit.{target_at}
use Rattle.sym_transfer.specs.inner.Tops.{HasTop, IsTopped}
use Rattle.sym_transfer.proofs.Carrying.{all_go}
use Rattle.sym_transfer.proofs.Fitting.{leaf_stands_not}
use Rattle.sym_transfer.proofs.Following.{follow_root}
use Rattle.sym_transfer.proofs.Missing.{field_lacks}
use Rattle.sym_transfer.proofs.Standing.{store_by}

never_on : (m : Option Value) → if_there m (λ old. NotPassed) ≡ NotPassed
never_on None = refl
never_on (Some v) = refl

module _ (face : Face) (T : List BoxDef) (H : Forest) where
  pub load_ptr_stays : (to b f x r : ℕ) → target_at H b ≡ At r → HasTop H r
      → StructLacks face.shapes.structs (shape_at H r) f → AllGo face T H (LoadPtr to b f) x NotPassed
  load_ptr_stays to b f x r e top l = all_go face T H (LoadPtr to b f) x NotPassed (λ d cs next o h.
      let s = store_by d H cs next in
      let q = tree_at T H.autos r d top.root o in
      follow_root H b d cs next (λ n. if_there (field_of cs n f) (λ v. Passed (set_var s to v))) r e q.0 q.1
      ∙ ap (λ (m : Option Value). if_there m (λ v. Passed (set_var s to v)))
      (field_lacks face.shapes.structs T H d o cs next h r f top l q.0 q.1))

  -- by an edge that stores `value` through variable b
  module _ (r f : ℕ) (i : Instr) (x b : ℕ) (at : target_at H b ≡ At r) (value : Store → Value)
      (does : (s : Store) → raw_step face.shapes.structs i x s
      ≡ onto (followed (var_of s b)) (λ n. stored face.shapes.structs s n f (value s))) where
    pub ptr_stays : HasTop H r → StructLacks face.shapes.structs (shape_at H r) f → AllGo face T H i x NotPassed
    ptr_stays top l = all_go face T H i x NotPassed (λ d cs next o h.
        let hs = face.shapes.structs in
        let s = store_by d H cs next in
        let q = tree_at T H.autos r d top.root o in
        does s
        ∙ follow_root H b d cs next (λ n. stored hs s n f (value s)) r at q.0 q.1
        ∙ ap (λ (m : Option Value).
        if_there m (λ old. if may_stand hs cs (number q.0) f (value s)
        then Passed (record s { cells = with_field cs (number q.0) f (value s) }) else NotPassed))
        (field_lacks hs T H d o cs next h r f top l q.0 q.1))

    pub unfit_stays : (u : Target)
        → ((d : Nodes) (cs : List CellRec) (next : ℕ) → value (store_by d H cs next) ≡ value_in (roots_of d) u)
        → HasTop H r → IsTopped H u → (LeafFits face.shapes.structs H r f u → ⊥) → AllGo face T H i x NotPassed
    unfit_stays u is top g never = all_go face T H i x NotPassed (λ d cs next o h.
        let hs = face.shapes.structs in
        let s = store_by d H cs next in
        let q = tree_at T H.autos r d top.root o in
        let n = number q.0 in
        let v = value_in (roots_of d) u in
        does s
        ∙ follow_root H b d cs next (λ m. stored hs s m f (value s)) r at q.0 q.1
        ∙ ap (λ (w : Value). stored hs s n f w) (is d cs next)
        ∙ ap
        (λ (y : Bool). if_there (field_of cs n f)
        (λ old. if y then Passed (record s { cells = with_field cs n f v }) else NotPassed))
        (leaf_stands_not T H d o hs cs next h r f top q.0 q.1 u g never)
        ∙ never_on (field_of cs n f))
