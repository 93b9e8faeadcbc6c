-- Dressed trees of one tree: they have its slots and leaves, and differ in numbers and insides alone.
use Rattle.std.proofs.Common.{◌≡◌, ℕ, List, [], ◌∷◌, refl, sym, ap, ◌∙◌, arith}
use Rattle.fore_base.specs.Lists.{Every}
use Rattle.fore_base.specs.declared.store.Datum.{Datum}
use Rattle.ta_core.specs.Auto.{Automaton}
use Rattle.ta_core.specs.declared.symbol.Slot.{Slot}
use Rattle.ta_core.specs.declared.symbol.Slot.TheVariants.{Field, Link, Hook}
use Rattle.ta_core.specs.declared.symbol.Symbol.{Symbol}
use Rattle.ta_core.specs.declared.symbol.Symbol.TheVariants.{Cell}
use Rattle.ta_core.specs.declared.tree.Tree.{Tree, out-Tree, out-roll-Tree}
use Rattle.fa_core.specs.declared.boxes.BoxDef.{BoxDef}
use Rattle.fa_core.specs.declared.forest.Target.{Target}
use Rattle.fa_core.specs.Choices.{bares}
use Rattle.fa_core.specs.Dressed.{Node, Parts, End, Nodes, node, no_parts, field, link, hook, under, leaf, no_nodes}
use Rattle.fa_core.specs.Dressed.{more}
use Rattle.fa_core.specs.Filled.{Choice}
use Rattle.fa_core.specs.Folding.{symbol_slots}
use Rattle.fa_core.specs.Member.{TreesOf, bare, bare_parts, bare_end, slots_of}
use Rattle.fa_core.proofs.Dressing.{leaf_top, cell_top, cell_is_no_leaf}
use Rattle.fa_core.proofs.NodeSpots.{one_leaf}
use Rattle.fa_core.proofs.SingleTrees.{IsSingle, single_tree}

mutual
  -- the first tree is the second with other numbers and insides
  pub data NodeOf : Node → Node → Type 0 where
    node_of : {c k s : ℕ} {ds : List Datum} {ps qs : Parts} → PartsOf ps qs → NodeOf (node c s ds ps) (node k s ds qs)

  pub data PartsOf : Parts → Parts → Type 0 where
    none_of : PartsOf no_parts no_parts
    field_of : {f : ℕ} {e x : End} {ps qs : Parts} → EndOf e x → PartsOf ps qs → PartsOf (field f e ps) (field f x qs)
    link_of : {b : ℕ} {i j : Nodes} {e x : End} {ps qs : Parts} → EndOf e x → PartsOf ps qs
        → PartsOf (link b i e ps) (link b j x qs)
    hook_of : {b : ℕ} {i j : Nodes} {ps qs : Parts} → PartsOf ps qs → PartsOf (hook b i ps) (hook b j qs)

  pub data EndOf : End → End → Type 0 where
    under_of : {n m : Node} → NodeOf n m → EndOf (under n) (under m)
    leaf_of : {t : Target} → EndOf (leaf t) (leaf t)

-- each tree is the one in its place with other numbers and insides
pub data NodesOf : Nodes → Nodes → Type 0 where
  no_more : NodesOf no_nodes no_nodes
  one_more : {n m : Node} {ns ms : Nodes} → NodeOf n m → NodesOf ns ms → NodesOf (more n ns) (more m ms)

-- Equal trees without numbers and insides.

abbrev slot_kind : List Slot → ℕ
slot_kind [] = 0
slot_kind (Field f ∷ ss) = 1
slot_kind (Link b ∷ ss) = 2
slot_kind (Hook b ∷ ss) = 3

abbrev slot_number : List Slot → ℕ
slot_number [] = 0
slot_number (Field f ∷ ss) = f
slot_number (Link b ∷ ss) = b
slot_number (Hook b ∷ ss) = b

abbrev other_slots : List Slot → List Slot
other_slots [] = []
other_slots (s ∷ ss) = ss

abbrev pub first_tree : Tree → List Tree → Tree
first_tree d [] = d
first_tree d (t ∷ ts) = t

abbrev other_trees : List Tree → List Tree
other_trees [] = []
other_trees (t ∷ ts) = ts

abbrev symbol_struct : Symbol → ℕ
symbol_struct (Cell s ds ss) = s
symbol_struct y = 0

abbrev symbol_data : Symbol → List Datum
symbol_data (Cell s ds ss) = ds
symbol_data y = []

cell_children : (c s : ℕ) (ds : List Datum) (ps : Parts) → (out-Tree (bare (node c s ds ps))).children ≡ bare_parts ps
cell_children c s ds ps =
    rw (out-roll-Tree (record { symbol = Cell s ds (slots_of ps); children = bare_parts ps })) refl

kinds_differ : (ss us : List Slot) (P : Type 0) → ss ≡ us → (slot_kind ss ≡ slot_kind us → ⊥) → P
kinds_differ ss us P e n = absurd (n (ap slot_kind e))

mutual
  pub same_node : (n m : Node) → bare n ≡ bare m → NodeOf n m
  same_node (node c s ds ps) (node k t es qs) h =
      let top = ap (λ (x : Tree). (out-Tree x).symbol) h in
      let low = ap (λ (x : Tree). (out-Tree x).children) h in
      let y : Cell s ds (slots_of ps) ≡ Cell t es (slots_of qs) = sym (cell_top c s ds ps) ∙ top ∙ cell_top k t es qs in
      let z : bare_parts ps ≡ bare_parts qs = sym (cell_children c s ds ps) ∙ low ∙ cell_children k t es qs in
      let a : s ≡ t = ap symbol_struct y in
      let b : ds ≡ es = ap symbol_data y in
      rw (a, b) (node_of (same_parts ps qs (ap symbol_slots y) z))

  same_parts : (ps qs : Parts) → slots_of ps ≡ slots_of qs → bare_parts ps ≡ bare_parts qs → PartsOf ps qs
  same_parts no_parts no_parts e h = none_of
  same_parts (field f x ps) (field g y qs) e h =
      let a : f ≡ g = ap slot_number e in
      let b = same_end x y (ap (first_tree (bare_end x)) h) in
      rw a (field_of b (same_parts ps qs (ap other_slots e) (ap other_trees h)))
  same_parts (link f i x ps) (link g j y qs) e h =
      let a : f ≡ g = ap slot_number e in
      let b = same_end x y (ap (first_tree (bare_end x)) h) in
      rw a (link_of b (same_parts ps qs (ap other_slots e) (ap other_trees h)))
  same_parts (hook f i ps) (hook g j qs) e h =
      let a : f ≡ g = ap slot_number e in
      rw a (hook_of (same_parts ps qs (ap other_slots e) h))
  same_parts no_parts (field g y qs) e h = kinds_differ _ _ _ e (λ z. omega (arith, z))
  same_parts no_parts (link g j y qs) e h = kinds_differ _ _ _ e (λ z. omega (arith, z))
  same_parts no_parts (hook g j qs) e h = kinds_differ _ _ _ e (λ z. omega (arith, z))
  same_parts (field f x ps) no_parts e h = kinds_differ _ _ _ e (λ z. omega (arith, z))
  same_parts (field f x ps) (link g j y qs) e h = kinds_differ _ _ _ e (λ z. omega (arith, z))
  same_parts (field f x ps) (hook g j qs) e h = kinds_differ _ _ _ e (λ z. omega (arith, z))
  same_parts (link f i x ps) no_parts e h = kinds_differ _ _ _ e (λ z. omega (arith, z))
  same_parts (link f i x ps) (field g y qs) e h = kinds_differ _ _ _ e (λ z. omega (arith, z))
  same_parts (link f i x ps) (hook g j qs) e h = kinds_differ _ _ _ e (λ z. omega (arith, z))
  same_parts (hook f i ps) no_parts e h = kinds_differ _ _ _ e (λ z. omega (arith, z))
  same_parts (hook f i ps) (field g y qs) e h = kinds_differ _ _ _ e (λ z. omega (arith, z))
  same_parts (hook f i ps) (link g j y qs) e h = kinds_differ _ _ _ e (λ z. omega (arith, z))

  same_end : (e x : End) → bare_end e ≡ bare_end x → EndOf e x
  same_end (under n) (under m) h = under_of (same_node n m h)
  same_end (leaf t) (leaf u) h =
      let a : t ≡ u = one_leaf t u (sym (leaf_top t) ∙ ap (λ (x : Tree). (out-Tree x).symbol) h ∙ leaf_top u) in
      rw a leaf_of
  same_end (under (node c s ds ps)) (leaf u) h =
      let top = ap (λ (x : Tree). (out-Tree x).symbol) (sym h) in
      absurd (cell_is_no_leaf u s ds (slots_of ps) (sym (leaf_top u) ∙ top ∙ cell_top c s ds ps))
  same_end (leaf t) (under (node k s ds qs)) h =
      let top = ap (λ (x : Tree). (out-Tree x).symbol) h in
      absurd (cell_is_no_leaf t s ds (slots_of qs) (sym (leaf_top t) ∙ top ∙ cell_top k s ds qs))

-- Single automata: each dressed forest is the worked one with other numbers and insides.

pub single_nodes : (T : List BoxDef) (autos : List Automaton) (d m : Nodes) → Every IsSingle autos
    → Choice autos (bares m) → TreesOf T autos d → NodesOf d m
single_nodes T [] no_nodes no_nodes s c o = no_more
single_nodes T [] no_nodes (more n ms) s c o = absurd c
single_nodes T [] (more n ns) ms s c o = absurd o
single_nodes T (a ∷ autos) no_nodes ms s c o = absurd o
single_nodes T (a ∷ autos) (more n ns) no_nodes s c o = absurd c
single_nodes T (a ∷ autos) (more n ns) (more m ms) s c o =
    one_more (same_node n m (single_tree a (bare n) (bare m) s.0 o.0 c.0)) (single_nodes T autos ns ms s.1 c.1 o.2)
