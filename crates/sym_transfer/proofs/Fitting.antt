-- Whether a root may stand in a field of another: the structs of their one rules decide.
use Rattle.std.proofs.Common.{◌≡◌, ◌∙◌, ℕ, Bool, true, false, nat_eq, List, slice_get, Option, Some, None, refl, sym}
use Rattle.std.proofs.Common.{ap, ap₂, subst}
use Rattle.std.proofs.lemmas.Bool.{eqb-true, eq-eqb}
use Rattle.std.proofs.lemmas.Option.{same_Some}
use Rattle.fore_base.specs.Shapes.{targets_of}
use Rattle.fore_base.specs.declared.shape.Shape.{Shape}
use Rattle.fore_base.specs.declared.store.CellRec.{CellRec}
use Rattle.fore_base.specs.declared.store.Datum.{Datum}
use Rattle.fore_base.specs.declared.store.Value.{Value}
use Rattle.ta_core.specs.declared.symbol.Symbol.{Symbol}
use Rattle.ta_core.specs.declared.tree.Tree.{out-Tree}
use Rattle.fa_core.specs.declared.boxes.BoxDef.{BoxDef}
use Rattle.fa_core.specs.declared.forest.Forest.{Forest}
use Rattle.fa_core.specs.declared.forest.Target.{Target}
use Rattle.fa_core.specs.declared.forest.Target.TheVariants.{Null, Uninit, Dangling, At}
use Rattle.fa_core.specs.Dressed.{Node, Parts, Nodes, node, number, roots_of, value_in}
use Rattle.fa_core.specs.Member.{OfForest, bare}
use Rattle.fa_core.proofs.Dressing.{cell_top}
use Rattle.fa_back.specs.Reached.{node_at}
use Rattle.fa_merge.specs.Reordered.{component_at}
use Rattle.fa_split.proofs.OtherComponent.{tree_at}
use Rattle.fa_split.proofs.TopRules.{tree_by_top}
use Rattle.fa_edit.specs.Fits.{symbol_shape, shape_at, LeafFits}
use Rattle.c_cfg.specs.Edges.{target_of as pointed_by, same_struct, may_stand}
use Rattle.sym_transfer.specs.inner.Tops.{HasTop, IsTopped}
use Rattle.sym_transfer.proofs.Standing.{IsHeap, root_value, struct_is}

-- the symbol of a tree's top
abbrev top_of : Node → Symbol
top_of n = (out-Tree (bare n)).symbol

module _ (T : List BoxDef) (F : Forest) (d : Nodes) (o : OfForest T F d) where
  -- the cell of a root has the struct of its one rule
  pub shape_is : (r : ℕ) → HasTop F r → (c s : ℕ) (ds : List Datum) (ps : Parts) → node_at d r ≡ Some (node c s ds ps)
      → shape_at F r ≡ Some s
  shape_is r h c s ds ps e =
      let k = tree_at T F.autos r d h.root o in
      let same : k.0 ≡ node c s ds ps = same_Some k.0 (node c s ds ps) (sym k.1 ∙ e) in
      let by = tree_by_top (component_at F.autos r) h.top (bare k.0) k.2 in
      ap symbol_shape by.0 ∙ shape_of k.0 same
    where
      shape_of : (n : Node) → n ≡ node c s ds ps → symbol_shape (top_of n) ≡ Some s
      shape_of n q = subst (λ (m : Node). symbol_shape (top_of m) ≡ Some s) (sym q)
          (ap symbol_shape (cell_top c s ds ps))

  module _ (hs : List Shape) (cs : List CellRec) (next : ℕ) (h : IsHeap hs d cs next) (r f : ℕ) (top : HasTop F r)
      (n : Node) (e : node_at d r ≡ Some n) where
    -- where the leaf is a root, both structs decide
    stands : (k : ℕ) → HasTop F k → (s t : ℕ) × (shape_at F r ≡ Some s) × (shape_at F k ≡ Some t)
        × (may_stand hs cs (number n) f (value_in (roots_of d) (At k))
        ≡ same_struct (Some t) (slice_get (targets_of hs s) f))
    stands k l =
        let m = tree_at T F.autos k d l.root o in
        here n e m.0 m.1
      where
        here : (x : Node) → node_at d r ≡ Some x → (y : Node) → node_at d k ≡ Some y → (s t : ℕ)
            × (shape_at F r ≡ Some s) × (shape_at F k ≡ Some t)
            × (may_stand hs cs (number x) f (value_in (roots_of d) (At k))
            ≡ same_struct (Some t) (slice_get (targets_of hs s) f))
        here (node c s ds ps) p (node c' s' ds' ps') q = (
          s,
          s',
          shape_is r top c s ds ps p,
          shape_is k l c' s' ds' ps' q,
          ap (λ (v : Value). may_stand hs cs c f v) (root_value k d (node c' s' ds' ps') q)
              ∙ ap₂ (λ (x y : Option ℕ). same_struct x (pointed_by hs y f)) (struct_is hs d cs next h k c' s' ds' ps' q)
              (struct_is hs d cs next h r c s ds ps p),
        )

    pub leaf_stands : (u : Target) → LeafFits hs F r f u → may_stand hs cs (number n) f (value_in (roots_of d) u) ≡ true
    leaf_stands Null g = refl
    leaf_stands Uninit g = refl
    leaf_stands Dangling g = refl
    leaf_stands (At k) g =
        let w = stands k (record { root = g.root; top = g.top }) in
        let a : g.above ≡ w.0 = same_Some g.above w.0 (sym g.is_above ∙ w.2) in
        let b : g.below ≡ w.1 = same_Some g.below w.1 (sym g.is_below ∙ w.3) in
        w.4 ∙ ap₂ (λ (x : ℕ) (y : ℕ). same_struct (Some x) (slice_get (targets_of hs y) f)) (sym b) (sym a)
        ∙ ap (λ (x : Option ℕ). same_struct (Some g.below) x) g.points
        ∙ eq-eqb g.below g.below refl

    pub leaf_stands_not : (u : Target) → IsTopped F u → (LeafFits hs F r f u → ⊥)
        → may_stand hs cs (number n) f (value_in (roots_of d) u) ≡ false
    leaf_stands_not Null g never = absurd (never tt)
    leaf_stands_not Uninit g never = absurd (never tt)
    leaf_stands_not Dangling g never = absurd (never tt)
    leaf_stands_not (At k) g never =
        let l = g k refl in
        let w = stands k l in
        w.4 ∙ here w.0 w.1 w.2 w.3 l (slice_get (targets_of hs w.0) f) refl
      where
        here : (s t : ℕ) → shape_at F r ≡ Some s → shape_at F k ≡ Some t → HasTop F k → (x : Option ℕ)
            → slice_get (targets_of hs s) f ≡ x → same_struct (Some t) x ≡ false
        here s t a b l None p = refl
        here s t a b l (Some y) p = decide (nat_eq t y) refl
          where
            decide : (q : Bool) → nat_eq t y ≡ q → q ≡ false
            decide false z = refl
            decide true z =
                absurd
                (never
                (record {
                  root = l.root;
                  top = l.top;
                  above = s;
                  is_above = a;
                  below = t;
                  is_below = b;
                  points = p
                      ∙ ap (λ (m : ℕ). Some m) (sym (eqb-true t y z));
                }))
