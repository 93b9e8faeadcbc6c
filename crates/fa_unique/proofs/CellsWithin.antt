-- The cells within the trees of a dressed forest without box edges, their numbers, and the pointers in their fields.
use Rattle.std.proofs.Common.{◌≡◌, ◌⊎◌, inl, inr, ℕ, List, ◌++◌, [], refl, sym, ap, ap₂, subst, ◌∙◌}
use Rattle.fore_base.specs.Lists.{IsIn, IsDistinct}
use Rattle.fore_base.specs.declared.store.Value.{Value}
use Rattle.fore_base.proofs.ListLemmas.{in_append, in_left, in_right}
use Rattle.fa_core.specs.Choices.{numbers, numbers_of, end_numbers, all_numbers}
use Rattle.fa_core.specs.Dressed.{Node, Parts, End, Nodes, node, no_parts, field, link, hook, under, leaf, no_nodes}
use Rattle.fa_core.specs.Dressed.{more}
use Rattle.fa_core.specs.Dressed.{Fact, Head, Points, facts, tree_facts, slot_facts, end_facts, forest_facts}
use Rattle.fa_core.specs.Dressed.{end_value}
use Rattle.fa_core.specs.Dressed.{roots_of, number}
use Rattle.fa_core.proofs.Permuted.{none_in_both, distinct_parts}
use Rattle.fa_core.proofs.PlainNodes.{NoEdges, NoEdgesOf, NoEdgesAt, NoEdgesIn}
use Rattle.fa_back.proofs.FactParts.{IsPointer, fact_cell, fact_value}
use Rattle.fa_unique.proofs.Pointers.{inner, all_inner}

-- the field f of the slots ends at e
abbrev pub HasField : ℕ → End → Parts → Type 0
HasField f e no_parts = ⊥
HasField f e (field g x ps) = ((f ≡ g) × (e ≡ x)) ⊎ HasField f e ps
HasField f e (link b inside x ps) = HasField f e ps
HasField f e (hook b inside ps) = HasField f e ps

-- the slots of a cell
abbrev pub parts_of : Node → Parts
parts_of (node c s ds ps) = ps

abbrev mutual
  -- z is a cell of the tree
  pub IsSub : Node → Node → Type 0
  IsSub z (node c s ds ps) = (z ≡ node c s ds ps) ⊎ IsSubOf z ps

  -- z is a cell below the slots
  pub IsSubOf : Node → Parts → Type 0
  IsSubOf z no_parts = ⊥
  IsSubOf z (field f e ps) = IsSubEnd z e ⊎ IsSubOf z ps
  IsSubOf z (link b inside e ps) = IsSubEnd z e ⊎ IsSubOf z ps
  IsSubOf z (hook b inside ps) = IsSubOf z ps

  -- z is a cell below the end
  pub IsSubEnd : Node → End → Type 0
  IsSubEnd z (under n) = IsSub z n
  IsSubEnd z (leaf t) = ⊥

-- z is a cell of one of the trees
abbrev pub IsSubIn : Node → Nodes → Type 0
IsSubIn z no_nodes = ⊥
IsSubIn z (more n ns) = IsSub z n ⊎ IsSubIn z ns

abbrev IsUnder : End → Type 0
IsUnder (under n) = Unit {0}
IsUnder (leaf y) = ⊥

abbrev node_of : Node → End → Node
node_of d (under n) = n
node_of d (leaf y) = d

under_same : (x y : Node) → under x ≡ under y → x ≡ y
under_same x y e = ap (node_of x) e

abbrev fact_field : Fact → ℕ
fact_field (Head c s ds) = 0
fact_field (Points c f v) = f

-- a tree has its top
pub sub_top : (n : Node) → IsSub n n
sub_top (node c s ds ps) = inl refl

-- a cell of a tree has its number among the tree's
mutual
  sub_number : (z n : Node) → IsSub z n → IsIn (number z) (numbers n)
  sub_number z (node c s ds ps) (inl e) = inl (ap number e)
  sub_number z (node c s ds ps) (inr h) = inr (sub_number_of z ps h)

  sub_number_of : (z : Node) (ps : Parts) → IsSubOf z ps → IsIn (number z) (numbers_of ps)
  sub_number_of z no_parts h = absurd h
  sub_number_of z (field f e ps) (inl h) = in_left (number z) (end_numbers e) (numbers_of ps) (sub_number_end z e h)
  sub_number_of z (field f e ps) (inr h) = in_right (number z) (end_numbers e) (numbers_of ps) (sub_number_of z ps h)
  sub_number_of z (link b inside e ps) (inl h) = in_left (number z) (end_numbers e) (numbers_of ps)
      (sub_number_end z e h)
  sub_number_of z (link b inside e ps) (inr h) = in_right (number z) (end_numbers e) (numbers_of ps)
      (sub_number_of z ps h)
  sub_number_of z (hook b inside ps) h = sub_number_of z ps h

  sub_number_end : (z : Node) (e : End) → IsSubEnd z e → IsIn (number z) (end_numbers e)
  sub_number_end z (under n) h = sub_number z n h
  sub_number_end z (leaf t) h = absurd h

pub sub_numbers : (z : Node) (d : Nodes) → IsSubIn z d → IsIn (number z) (all_numbers d)
sub_numbers z no_nodes h = absurd h
sub_numbers z (more n ns) (inl h) = in_left (number z) (numbers n) (all_numbers ns) (sub_number z n h)
sub_numbers z (more n ns) (inr h) = in_right (number z) (numbers n) (all_numbers ns) (sub_numbers z ns h)

-- numbers that differ differ in both parts
pub differ_left : (xs ys : List ℕ) → IsDistinct (xs ++ ys) → IsDistinct xs
differ_left xs ys a = (distinct_parts xs ys a).0

pub differ_right : (xs ys : List ℕ) → IsDistinct (xs ++ ys) → IsDistinct ys
differ_right xs ys a = (distinct_parts xs ys a).1

-- one number, one cell
mutual
  one_cell : (z y n : Node) → IsDistinct (numbers n) → IsSub z n → IsSub y n → number z ≡ number y → z ≡ y
  one_cell z y (node c s ds ps) a (inl h) (inl k) e = h ∙ sym k
  one_cell z y (node c s ds ps) a (inl h) (inr k) e = absurd (a.0 (rw (sym (ap number h) ∙ e) (sub_number_of y ps k)))
  one_cell z y (node c s ds ps) a (inr h) (inl k) e = absurd
      (a.0 (rw (sym (ap number k) ∙ sym e) (sub_number_of z ps h)))
  one_cell z y (node c s ds ps) a (inr h) (inr k) e = one_cell_of z y ps a.1 h k e

  one_cell_of : (z y : Node) (ps : Parts) → IsDistinct (numbers_of ps) → IsSubOf z ps → IsSubOf y ps
      → number z ≡ number y → z ≡ y
  one_cell_of z y no_parts a h k e = absurd h
  one_cell_of z y (field f x ps) a (inl h) (inl k) e = one_cell_end z y x
      (differ_left (end_numbers x) (numbers_of ps) a) h k e
  one_cell_of z y (field f x ps) a (inl h) (inr k) e = absurd
      (none_in_both (number z) (end_numbers x) (numbers_of ps) a (sub_number_end z x h) (rw e (sub_number_of y ps k)))
  one_cell_of z y (field f x ps) a (inr h) (inl k) e = absurd
      (none_in_both (number y) (end_numbers x) (numbers_of ps) a (sub_number_end y x k)
      (rw (sym e) (sub_number_of z ps h)))
  one_cell_of z y (field f x ps) a (inr h) (inr k) e = one_cell_of z y ps
      (differ_right (end_numbers x) (numbers_of ps) a) h k e
  one_cell_of z y (link b inside x ps) a (inl h) (inl k) e = one_cell_end z y x
      (differ_left (end_numbers x) (numbers_of ps) a) h k e
  one_cell_of z y (link b inside x ps) a (inl h) (inr k) e = absurd
      (none_in_both (number z) (end_numbers x) (numbers_of ps) a (sub_number_end z x h) (rw e (sub_number_of y ps k)))
  one_cell_of z y (link b inside x ps) a (inr h) (inl k) e = absurd
      (none_in_both (number y) (end_numbers x) (numbers_of ps) a (sub_number_end y x k)
      (rw (sym e) (sub_number_of z ps h)))
  one_cell_of z y (link b inside x ps) a (inr h) (inr k) e = one_cell_of z y ps
      (differ_right (end_numbers x) (numbers_of ps) a) h k e
  one_cell_of z y (hook b inside ps) a h k e = one_cell_of z y ps a h k e

  one_cell_end : (z y : Node) (x : End) → IsDistinct (end_numbers x) → IsSubEnd z x → IsSubEnd y x
      → number z ≡ number y → z ≡ y
  one_cell_end z y (under n) a h k e = one_cell z y n a h k e
  one_cell_end z y (leaf t) a h k e = absurd h

-- one number, one cell, in all trees
pub one_cell_in : (z y : Node) (d : Nodes) → IsDistinct (all_numbers d) → IsSubIn z d → IsSubIn y d
    → number z ≡ number y → z ≡ y
one_cell_in z y no_nodes a h k e = absurd h
one_cell_in z y (more n ns) a (inl h) (inl k) e = one_cell z y n (differ_left (numbers n) (all_numbers ns) a) h k e
one_cell_in z y (more n ns) a (inl h) (inr k) e = absurd (none_in_both (number z) (numbers n) (all_numbers ns) a
    (sub_number z n h) (rw e (sub_numbers y ns k)))
one_cell_in z y (more n ns) a (inr h) (inl k) e = absurd (none_in_both (number y) (numbers n) (all_numbers ns) a
    (sub_number y n k) (rw (sym e) (sub_numbers z ns h)))
one_cell_in z y (more n ns) a (inr h) (inr k) e = one_cell_in z y ns
    (differ_right (numbers n) (all_numbers ns) a) h k e

-- a field of a cell is a fact, and a pointer among the facts is a field of a cell
module _ (vs : List Value) where
  field_fact : (c f : ℕ) (e : End) (ps : Parts) → HasField f e ps
      → IsIn (Points c f (end_value vs e)) (slot_facts vs c ps)
  field_fact c f e no_parts h = absurd h
  field_fact c f e (field g x ps) (inl h) = inl (ap₂ (λ (i : ℕ) (y : End). Points c i (end_value vs y)) h.0 h.1)
  field_fact c f e (field g x ps) (inr h) = inr (in_right _ (end_facts vs x) (slot_facts vs c ps)
      (field_fact c f e ps h))
  field_fact c f e (link b inside x ps) h = in_right _ (forest_facts _ _ inside)
      (end_facts vs x ++ slot_facts vs c ps) (in_right _ (end_facts vs x) (slot_facts vs c ps)
      (field_fact c f e ps h))
  field_fact c f e (hook b inside ps) h = in_right _ (forest_facts _ _ inside) (slot_facts vs c ps)
      (field_fact c f e ps h)

  mutual
    tree_fact : (z n : Node) (f : ℕ) (e : End) → NoEdges n → IsSub z n → HasField f e (parts_of z)
        → IsIn (Points (number z) f (end_value vs e)) (tree_facts vs n)
    tree_fact z (node c s ds ps) f e b (inl h) k = subst (λ (y : Node). IsIn (Points (number y) f (end_value vs e))
        (tree_facts vs (node c s ds ps))) (sym h) (inr (field_fact c f e ps
        (subst (λ (y : Node). HasField f e (parts_of y)) h k)))
    tree_fact z (node c s ds ps) f e b (inr h) k = inr (parts_fact z c ps f e b h k)

    parts_fact : (z : Node) (c : ℕ) (ps : Parts) (f : ℕ) (e : End) → NoEdgesOf ps → IsSubOf z ps
        → HasField f e (parts_of z) → IsIn (Points (number z) f (end_value vs e)) (slot_facts vs c ps)
    parts_fact z c no_parts f e b h k = absurd h
    parts_fact z c (field g x ps) f e b (inl h) k = inr (in_left _ (end_facts vs x) (slot_facts vs c ps)
        (end_fact z x f e b.0 h k))
    parts_fact z c (field g x ps) f e b (inr h) k = inr (in_right _ (end_facts vs x) (slot_facts vs c ps)
        (parts_fact z c ps f e b.1 h k))
    parts_fact z c (link l inside x ps) f e b h k = absurd b
    parts_fact z c (hook l inside ps) f e b h k = absurd b

    end_fact : (z : Node) (x : End) (f : ℕ) (e : End) → NoEdgesAt x → IsSubEnd z x → HasField f e (parts_of z)
        → IsIn (Points (number z) f (end_value vs e)) (end_facts vs x)
    end_fact z (under n) f e b h k = tree_fact z n f e b h k
    end_fact z (leaf t) f e b h k = absurd h

  forest_fact : (z : Node) (d : Nodes) (f : ℕ) (e : End) → NoEdgesIn d → IsSubIn z d → HasField f e (parts_of z)
      → IsIn (Points (number z) f (end_value vs e)) (forest_facts vs [] d)
  forest_fact z no_nodes f e b h k = absurd h
  forest_fact z (more n ns) f e b (inl h) k = in_left _ (tree_facts vs n) (forest_facts vs [] ns)
      (tree_fact z n f e b.0 h k)
  forest_fact z (more n ns) f e b (inr h) k = in_right _ (tree_facts vs n) (forest_facts vs [] ns)
      (forest_fact z ns f e b.1 h k)

  -- whose field a pointer is
  abbrev pub Owner : (Node → Type 0) → ℕ → ℕ → Value → Type 0
  Owner S m f v = (z : Node) × (e : End) × S z × (number z ≡ m) × HasField f e (parts_of z) × (end_value vs e ≡ v)

  module _ (m f : ℕ) (v : Value) where
    mutual
      owner_tree : (n : Node) → NoEdges n → IsIn (Points m f v) (tree_facts vs n) → Owner (λ z. IsSub z n) m f v
      owner_tree (node c s ds ps) b (inl e) = absurd (subst IsPointer e tt)
      owner_tree (node c s ds ps) b (inr i) = elim (owner_parts c ps b i) [
        | inl k ↦ (node c s ds ps, k.0, inl refl, sym k.1, k.2, k.3)
        | inr k ↦ (k.0, k.1, inr k.2, k.3, k.4, k.5)
      ]

      owner_parts : (c : ℕ) (ps : Parts) → NoEdgesOf ps → IsIn (Points m f v) (slot_facts vs c ps)
          → ((e : End) × (m ≡ c) × HasField f e ps × (end_value vs e ≡ v)) ⊎ Owner (λ z. IsSubOf z ps) m f v
      owner_parts c no_parts b i = absurd i
      owner_parts c (field g x ps) b (inl h) = inl (
        x,
        ap fact_cell h,
        inl (ap fact_field h, refl),
        sym
            (ap fact_value h),
      )
      owner_parts c (field g x ps) b (inr i) = elim (in_append (Points m f v) (end_facts vs x)
          (slot_facts vs c ps) i) [
            | inl j ↦ (let k = owner_end x b.0 j in inr (k.0, k.1, inl k.2, k.3, k.4, k.5))
            | inr j ↦ elim (owner_parts c ps b.1 j) [
              | inl k ↦ inl (k.0, k.1, inr k.2, k.3)
              | inr k ↦ inr (k.0, k.1, inr k.2, k.3, k.4, k.5)
            ]
          ]
      owner_parts c (link l inside x ps) b i = absurd b
      owner_parts c (hook l inside ps) b i = absurd b

      owner_end : (x : End) → NoEdgesAt x → IsIn (Points m f v) (end_facts vs x) → Owner (λ z. IsSubEnd z x) m f v
      owner_end (under n) b i = owner_tree n b i
      owner_end (leaf t) b i = absurd i

    -- each pointer among the facts is a field of a cell
    pub owner_in : (d : Nodes) → NoEdgesIn d → IsIn (Points m f v) (forest_facts vs [] d)
        → Owner (λ z. IsSubIn z d) m f v
    owner_in no_nodes b h = absurd h
    owner_in (more n ns) b h = elim (in_append (Points m f v) (tree_facts vs n) (forest_facts vs [] ns) h) [
      | inl i ↦ (let k = owner_tree n b.0 i in (k.0, k.1, inl k.2, k.3, k.4, k.5))
      | inr i ↦ (let k = owner_in ns b.1 i in (k.0, k.1, inr k.2, k.3, k.4, k.5))
    ]

-- a field of a cell is a pointer among the facts
pub pointer_of : (d : Nodes) → NoEdgesIn d → (z : Node) (f : ℕ) (e : End) → IsSubIn z d → HasField f e (parts_of z)
    → IsIn (Points (number z) f (end_value (roots_of d) e)) (facts d)
pointer_of d b z f e h k = forest_fact (roots_of d) z d f e b h k

-- the cell in a field is a cell below the slots
field_sub : (f : ℕ) (y : Node) (ps : Parts) → HasField f (under y) ps → IsSubOf y ps
field_sub f y no_parts h = absurd h
field_sub f y (field g (under n) ps) (inl h) = inl (subst (λ (x : Node). IsSub y x) (under_same y n h.1) (sub_top y))
field_sub f y (field g (leaf t) ps) (inl h) = absurd (subst IsUnder h.1 tt)
field_sub f y (field g x ps) (inr h) = inr (field_sub f y ps h)
field_sub f y (link b inside x ps) h = inr (field_sub f y ps h)
field_sub f y (hook b inside ps) h = field_sub f y ps h

-- the cells of a cell's slots are cells of the forest, and are below the tops
mutual
  sub_below : (y z n : Node) → IsSub z n → IsSubOf y (parts_of z) → IsSub y n × IsIn (number y) (inner n)
  sub_below y z (node c s ds ps) (inl e) h = let k : IsSubOf y ps = subst
      (λ (x : Node). IsSubOf y (parts_of x)) e h in
      (inr k, sub_number_of y ps k)
  sub_below y z (node c s ds ps) (inr i) h = let k = sub_below_of y z ps i h in (inr k.0, k.1)

  sub_below_of : (y z : Node) (ps : Parts) → IsSubOf z ps → IsSubOf y (parts_of z) → IsSubOf y ps
      × IsIn (number y) (numbers_of ps)
  sub_below_of y z no_parts i h = absurd i
  sub_below_of y z (field f e ps) (inl i) h = let k = sub_below_end y z e i h in
      (inl k.0, in_left (number y) (end_numbers e) (numbers_of ps) k.1)
  sub_below_of y z (field f e ps) (inr i) h = let k = sub_below_of y z ps i h in
      (inr k.0, in_right (number y) (end_numbers e) (numbers_of ps) k.1)
  sub_below_of y z (link b inside e ps) (inl i) h = let k = sub_below_end y z e i h in
      (inl k.0, in_left (number y) (end_numbers e) (numbers_of ps) k.1)
  sub_below_of y z (link b inside e ps) (inr i) h = let k = sub_below_of y z ps i h in
      (inr k.0, in_right (number y) (end_numbers e) (numbers_of ps) k.1)
  sub_below_of y z (hook b inside ps) i h = sub_below_of y z ps i h

  sub_below_end : (y z : Node) (e : End) → IsSubEnd z e → IsSubOf y (parts_of z) → IsSubEnd y e
      × IsIn (number y) (end_numbers e)
  sub_below_end y z (under n) i h = let k = sub_below y z n i h in (k.0, sub_number y n k.0)
  sub_below_end y z (leaf t) i h = absurd i

sub_below_in : (y z : Node) (d : Nodes) → IsSubIn z d → IsSubOf y (parts_of z) → IsSubIn y d
    × IsIn (number y) (all_inner d)
sub_below_in y z no_nodes i h = absurd i
sub_below_in y z (more n ns) (inl i) h = let k = sub_below y z n i h in
    (inl k.0, in_left (number y) (inner n) (all_inner ns) k.1)
sub_below_in y z (more n ns) (inr i) h = let k = sub_below_in y z ns i h in
    (inr k.0, in_right (number y) (inner n) (all_inner ns) k.1)

-- the cell in a field of a cell is one of the forest, and no top
pub field_cell : (d : Nodes) (z y : Node) (f : ℕ) → IsSubIn z d → HasField f (under y) (parts_of z) → IsSubIn y d
    × IsIn (number y) (all_inner d)
field_cell d z y f i h = sub_below_in y z d i (field_sub f y (parts_of z) h)
