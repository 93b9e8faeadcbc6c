-- Each cell that a fact of a dressed forest names is one of its cells.
use Rattle.std.proofs.Common.{inl, inr, ℕ, zero, suc, List, [], ◌∷◌, ◌++◌, refl, sym, subst}
use Rattle.fore_base.specs.Lists.{IsIn, Every}
use Rattle.fore_base.specs.declared.store.Value.{Value}
use Rattle.fore_base.specs.declared.store.Value.TheVariants.{Null as NullValue, Uninit as UninitValue}
use Rattle.fore_base.specs.declared.store.Value.TheVariants.{Dangling as DanglingValue, Cell}
use Rattle.fore_base.proofs.ListLemmas.{in_left, in_right, every_append}
use Rattle.fa_core.specs.declared.forest.Target.{Target}
use Rattle.fa_core.specs.declared.forest.Target.TheVariants.{Null, Uninit, Dangling, At}
use Rattle.fa_core.specs.Boxes.{head_of, heads}
use Rattle.fa_core.specs.Dressed.{Node, Parts, End, Nodes, node, no_parts, field, link, hook, under, leaf, no_nodes}
use Rattle.fa_core.specs.Dressed.{more}
use Rattle.fa_core.specs.Dressed.{number, Fact, nth_value, value_in, end_value, roots_of, with_ports}
use Rattle.fa_core.specs.Dressed.{tree_facts, slot_facts, end_facts, forest_facts, port_facts, inside_facts, facts}
use Rattle.fa_core.proofs.Rearranging.{flat_map-append}
use Rattle.fa_facts.specs.Fields.{IsNamed, FactNamed}

module _ (hs : List ℕ) where
  abbrev AreNamed : List Fact → Type 0
  AreNamed fs = Every (FactNamed hs) fs

  -- the heads of the facts are among the cells
  abbrev HeadsIn : List Fact → Type 0
  HeadsIn fs = (n : ℕ) → IsIn n (heads fs) → IsIn n hs

  heads_left : (xs ys : List Fact) → HeadsIn (xs ++ ys) → HeadsIn xs
  heads_left xs ys h n i = h n
      (subst (λ (z : List ℕ). IsIn n z) (sym (flat_map-append head_of xs ys)) (in_left n (heads xs) (heads ys) i))

  heads_right : (xs ys : List Fact) → HeadsIn (xs ++ ys) → HeadsIn ys
  heads_right xs ys h n i = h n
      (subst (λ (z : List ℕ). IsIn n z) (sym (flat_map-append head_of xs ys)) (in_right n (heads xs) (heads ys) i))

  pub nth_named : (vs : List Value) → Every (IsNamed hs) vs → (r : ℕ) → IsNamed hs (nth_value vs r)
  nth_named [] h r = tt
  nth_named (v ∷ vs) h zero = h.0
  nth_named (v ∷ vs) h (suc r) = nth_named vs h.1 r

  pub target_named : (vs : List Value) → Every (IsNamed hs) vs → (t : Target) → IsNamed hs (value_in vs t)
  target_named vs h Null = tt
  target_named vs h Uninit = tt
  target_named vs h Dangling = tt
  target_named vs h (At r) = nth_named vs h r

  -- the top of a tree is one of its heads
  top_named : (vs : List Value) (n : Node) → HeadsIn (tree_facts vs n) → IsIn (number n) hs
  top_named vs (node c s ds ps) h = h c (inl refl)

  end_named : (vs : List Value) → Every (IsNamed hs) vs → (e : End) → HeadsIn (end_facts vs e)
      → IsNamed hs (end_value vs e)
  end_named vs k (under n) h = top_named vs n h
  end_named vs k (leaf t) h = target_named vs k t

  -- the cells of further roots
  roots_named : (vs : List Value) (ns : Nodes) → HeadsIn (forest_facts vs [] ns) → Every (IsNamed hs) (roots_of ns)
  roots_named vs no_nodes h = tt
  roots_named vs (more n ns) h = (
    top_named vs n (heads_left (tree_facts vs n) (forest_facts vs [] ns) h),
    roots_named vs ns (heads_right (tree_facts vs n) (forest_facts vs [] ns) h),
  )

  ports_named : (vs ports : List Value) (ns : Nodes) → Every (IsNamed hs) ports → HeadsIn (forest_facts vs ports ns)
      → Every (IsNamed hs) (with_ports ports ns)
  ports_named vs [] ns k h = roots_named vs ns h
  ports_named vs (v ∷ ports) no_nodes k h = tt
  ports_named vs (v ∷ ports) (more n ns) k h =
      (k.0, ports_named vs ports ns k.1 (heads_right (port_facts vs v n) (forest_facts vs ports ns) h))

  mutual
    tree_names : (vs : List Value) → Every (IsNamed hs) vs → (n : Node) → HeadsIn (tree_facts vs n)
        → AreNamed (tree_facts vs n)
    tree_names vs k (node c s ds ps) h = (tt, slots_name vs k c (h c (inl refl)) ps (λ n i. h n (inr i)))

    slots_name : (vs : List Value) → Every (IsNamed hs) vs → (c : ℕ) → IsIn c hs → (ps : Parts)
        → HeadsIn (slot_facts vs c ps) → AreNamed (slot_facts vs c ps)
    slots_name vs k c o no_parts h = tt
    slots_name vs k c o (field f e ps) h =
        let l = heads_left (end_facts vs e) (slot_facts vs c ps) h in
        let r = heads_right (end_facts vs e) (slot_facts vs c ps) h in (
          end_named vs k e l,
          every_append (FactNamed hs) (end_facts vs e) (slot_facts vs c ps) (end_names vs k e l)
              (slots_name vs k c o ps r),
        )
    slots_name vs k c o (link b i e ps) h =
        let l = heads_left (inside_facts (Cell c ∷ (end_value vs e ∷ [])) i) (end_facts vs e ++ slot_facts vs c ps) h in
        let r = heads_right (inside_facts (Cell c ∷ (end_value vs e ∷ [])) i)
        (end_facts vs e ++ slot_facts vs c ps) h in
        let m = heads_left (end_facts vs e) (slot_facts vs c ps) r in
        every_append (FactNamed hs) (inside_facts (Cell c ∷ (end_value vs e ∷ [])) i)
        (end_facts vs e ++ slot_facts vs c ps)
        (forest_names (with_ports (Cell c ∷ (end_value vs e ∷ [])) i)
        (ports_named (with_ports (Cell c ∷ (end_value vs e ∷ [])) i) (Cell c ∷ (end_value vs e ∷ [])) i
        (o, (end_named vs k e m, tt)) l) (Cell c ∷ (end_value vs e ∷ [])) (o, (end_named vs k e m, tt)) i l)
        (every_append (FactNamed hs) (end_facts vs e) (slot_facts vs c ps) (end_names vs k e m)
        (slots_name vs k c o ps (heads_right (end_facts vs e) (slot_facts vs c ps) r)))
    slots_name vs k c o (hook b i ps) h =
        let l = heads_left (inside_facts (Cell c ∷ []) i) (slot_facts vs c ps) h in
        every_append (FactNamed hs) (inside_facts (Cell c ∷ []) i) (slot_facts vs c ps)
        (forest_names (with_ports (Cell c ∷ []) i) (ports_named (with_ports (Cell c ∷ []) i) (Cell c ∷ []) i (o, tt) l)
        (Cell c ∷ []) (o, tt) i l)
        (slots_name vs k c o ps (heads_right (inside_facts (Cell c ∷ []) i) (slot_facts vs c ps) h))

    end_names : (vs : List Value) → Every (IsNamed hs) vs → (e : End) → HeadsIn (end_facts vs e)
        → AreNamed (end_facts vs e)
    end_names vs k (under n) h = tree_names vs k n h
    end_names vs k (leaf t) h = tt

    forest_names : (vs : List Value) → Every (IsNamed hs) vs → (ports : List Value) → Every (IsNamed hs) ports
        → (ns : Nodes) → HeadsIn (forest_facts vs ports ns) → AreNamed (forest_facts vs ports ns)
    forest_names vs k ports p no_nodes h = tt
    forest_names vs k [] p (more n ns) h =
        every_append (FactNamed hs) (tree_facts vs n) (forest_facts vs [] ns)
        (tree_names vs k n (heads_left (tree_facts vs n) (forest_facts vs [] ns) h))
        (forest_names vs k [] p ns (heads_right (tree_facts vs n) (forest_facts vs [] ns) h))
    forest_names vs k (v ∷ ports) p (more n ns) h =
        every_append (FactNamed hs) (port_facts vs v n) (forest_facts vs ports ns)
        (port_names vs k v p.0 n (heads_left (port_facts vs v n) (forest_facts vs ports ns) h))
        (forest_names vs k ports p.1 ns (heads_right (port_facts vs v n) (forest_facts vs ports ns) h))

    port_names : (vs : List Value) → Every (IsNamed hs) vs → (v : Value) → IsNamed hs v → (n : Node)
        → HeadsIn (port_facts vs v n) → AreNamed (port_facts vs v n)
    port_names vs k (Cell m) o (node c s ds ps) h = slots_name vs k m o ps h
    port_names vs k NullValue o (node c s ds ps) h = tt
    port_names vs k UninitValue o (node c s ds ps) h = tt
    port_names vs k DanglingValue o (node c s ds ps) h = tt

-- all facts of a dressed forest
pub facts_named : (d : Nodes) → Every (FactNamed (heads (facts d))) (facts d)
facts_named d = forest_names (heads (facts d)) (roots_of d)
    (roots_named (heads (facts d)) (roots_of d) d (λ n i. i)) [] tt d (λ n i. i)

-- the roots of a dressed forest are cells of it
pub root_values_named : (d : Nodes) → Every (IsNamed (heads (facts d))) (roots_of d)
root_values_named d = roots_named (heads (facts d)) (roots_of d) d (λ n i. i)
