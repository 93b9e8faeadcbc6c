-- Different roots are different cells, and a root has the struct of its one rule.
use Rattle.std.proofs.Common.{◌≡◌, ◌⊎◌, ◌∙◌, inl, inr, ℕ, zero, suc, Bool, nat_eq, List, [], ◌++◌, length, Some, Ok}
use Rattle.std.proofs.Common.{refl}
use Rattle.std.proofs.Common.{sym, ap, ap₂, subst}
use Rattle.std.proofs.lemmas.Bool.{cases_eq, eq-eqb, ne_eqb}
use Rattle.std.proofs.lemmas.Option.{same_Some}
use Rattle.fore_base.specs.Lists.{IsIn, IsDistinct}
use Rattle.fore_base.specs.declared.shape.Shape.{Shape}
use Rattle.fore_base.specs.declared.store.CellRec.{CellRec}
use Rattle.fore_base.specs.declared.store.Value.{Value}
use Rattle.fore_base.specs.declared.store.Value.TheVariants.{Null as NullValue, Uninit as UninitValue}
use Rattle.fore_base.specs.declared.store.Value.TheVariants.{Dangling as DanglingValue, Cell}
use Rattle.fa_core.specs.Boxes.{head_of, heads}
use Rattle.fa_core.specs.declared.boxes.BoxDef.{BoxDef}
use Rattle.fa_core.specs.declared.forest.Forest.{Forest}
use Rattle.fa_core.specs.declared.forest.Target.{Target}
use Rattle.fa_core.specs.declared.forest.Target.TheVariants.{Null, Uninit, Dangling, At}
use Rattle.fa_core.specs.Dressed.{Node, Nodes, node, no_nodes, more, facts, tree_facts, forest_facts, number, roots_of}
use Rattle.fa_core.specs.Dressed.{nth_value, value_in}
use Rattle.fa_core.specs.Filled.{IsRoot}
use Rattle.fa_core.specs.Member.{OfForest}
use Rattle.fa_core.proofs.Permuted.{none_in_both, distinct_parts}
use Rattle.fa_core.proofs.Rearranging.{flat_map-append}
use Rattle.fa_back.specs.Reached.{node_at}
use Rattle.fa_back.proofs.FactParts.{no_cell, number_of}
use Rattle.fa_back.proofs.Insides.{root_head}
use Rattle.fa_back.proofs.StoreLaws.{differ}
use Rattle.fa_split.proofs.OtherComponent.{tree_at}
use Rattle.c_types.specs.Steps.{same_values}
use Rattle.sym_transfer.specs.inner.Targets.{same_targets}
use Rattle.sym_transfer.proofs.Standing.{IsHeap, store_by, root_value, stands_by}

module _ (vs : List Value) where
  -- the head of a tree's top is among its facts
  top_head : (n : Node) → IsIn (number n) (heads (tree_facts vs n))
  top_head (node c s ds ps) = inl refl

  both_apart : (n : Node) (ns : Nodes) → IsDistinct (heads (forest_facts vs [] (more n ns)))
      → IsDistinct (heads (tree_facts vs n) ++ heads (forest_facts vs [] ns))
  both_apart n ns a = subst (λ (z : List ℕ). IsDistinct z)
      (flat_map-append head_of (tree_facts vs n) (forest_facts vs [] ns)) a

  none_twice : (n : Node) (ns : Nodes) → IsDistinct (heads (forest_facts vs [] (more n ns))) → (j : ℕ)
      → nth_value (roots_of ns) j ≡ Cell (number n) → ⊥
  none_twice n ns a j q =
      none_in_both (number n) (heads (tree_facts vs n)) (heads (forest_facts vs [] ns)) (both_apart n ns a) (top_head n)
      (root_head vs ns j (number n) q)

  -- where the heads differ, roots that are one cell are one root
  roots_apart : (d : Nodes) → IsDistinct (heads (forest_facts vs [] d)) → (i j c : ℕ)
      → nth_value (roots_of d) i ≡ Cell c → nth_value (roots_of d) j ≡ Cell c → i ≡ j
  roots_apart no_nodes a i j c p q = absurd (no_cell DanglingValue c p)
  roots_apart (more n ns) a zero zero c p q = refl
  roots_apart (more n ns) a zero (suc j) c p q =
      absurd (none_twice n ns a j (q ∙ ap (λ (k : ℕ). Cell k) (sym (ap number_of p))))
  roots_apart (more n ns) a (suc i) zero c p q =
      absurd (none_twice n ns a i (p ∙ ap (λ (k : ℕ). Cell k) (sym (ap number_of q))))
  roots_apart (more n ns) a (suc i) (suc j) c p q =
      ap (λ (k : ℕ). suc k)
      (roots_apart ns
      (distinct_parts (heads (tree_facts vs n)) (heads (forest_facts vs [] ns)) (both_apart n ns a)).1 i j c p q)

module _ (hs : List Shape) (T : List BoxDef) (H : Forest) (d : Nodes) (o : OfForest T H d) (cs : List CellRec)
    (next : ℕ) (h : IsHeap hs d cs next) where
  heads_apart : IsDistinct (heads (facts d))
  heads_apart = differ hs T H d (store_by d H cs next) (stands_by hs T H d cs next o h)

  -- two roots are one cell exactly where they are one root
  same_roots : (i k : ℕ) (n m : Node) → node_at d i ≡ Some n → node_at d k ≡ Some m → nat_eq (number n) (number m)
      ≡ nat_eq i k
  same_roots i k n m a b = here (cases_eq i k)
    where
      here : (i ≡ k) ⊎ (i ≡ k → ⊥) → nat_eq (number n) (number m) ≡ nat_eq i k
      here (inl e) = eq-eqb (number n) (number m)
          (ap number (same_Some n m (sym a ∙ (ap (λ (r : ℕ). node_at d r) e ∙ b)))) ∙ sym (eq-eqb i k e)
      here (inr ne) =
          ne_eqb (number n) (number m)
          (λ e. ne
          (roots_apart (roots_of d) d heads_apart i k (number n) (root_value i d n a)
          (root_value k d m b ∙ ap (λ (c : ℕ). Cell c) (sym e)))) ∙ sym (ne_eqb i k ne)

  -- comparing two targets is comparing their values
  pub targets_same : (t u : Target) → IsRoot (length H.autos) t → IsRoot (length H.autos) u
      → same_values (value_in (roots_of d) t) (value_in (roots_of d) u) ≡ same_targets t u
  targets_same Uninit u a b = refl
  targets_same Dangling u a b = refl
  targets_same Null Null a b = refl
  targets_same Null Uninit a b = refl
  targets_same Null Dangling a b = refl
  targets_same Null (At k) a b =
      let m = tree_at T H.autos k d (b k refl) o in
      ap (λ (v : Value). same_values NullValue v) (root_value k d m.0 m.1)
  targets_same (At i) Null a b =
      let n = tree_at T H.autos i d (a i refl) o in
      ap (λ (v : Value). same_values v NullValue) (root_value i d n.0 n.1)
  targets_same (At i) Uninit a b =
      let n = tree_at T H.autos i d (a i refl) o in
      ap (λ (v : Value). same_values v UninitValue) (root_value i d n.0 n.1)
  targets_same (At i) Dangling a b =
      let n = tree_at T H.autos i d (a i refl) o in
      ap (λ (v : Value). same_values v DanglingValue) (root_value i d n.0 n.1)
  targets_same (At i) (At k) a b =
      let n = tree_at T H.autos i d (a i refl) o in
      let m = tree_at T H.autos k d (b k refl) o in
      ap₂ same_values (root_value i d n.0 n.1) (root_value k d m.0 m.1)
      ∙ ap (λ (x : Bool). Ok x) (same_roots i k n.0 m.0 n.1 m.1)
