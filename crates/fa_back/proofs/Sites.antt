-- The places of a dressed forest: each cell with what stands above it.
use Rattle.std.proofs.Common.{◌≡◌, ◌⊎◌, inl, inr, ℕ, zero, suc, false, List, [], ◌∷◌, ◌++◌, map}
use Rattle.std.proofs.Common.{refl, sym, ap, ap₂, subst, ◌∙◌, Option, Some, None}
use Rattle.std.proofs.lemmas.Option.{none-some, same_Some}
use Rattle.fore_base.specs.Lists.{IsIn, IsDistinct}
use Rattle.fore_base.specs.declared.store.Value.{Value}
use Rattle.fore_base.specs.declared.store.Value.TheVariants.{Cell, Dangling as DanglingValue}
use Rattle.fore_base.proofs.ListLemmas.{in_left, in_right, in_append, in_map}
use Rattle.fa_core.specs.declared.faces.BoxFace.{BoxFace}
use Rattle.fa_core.specs.Choices.{numbers, numbers_of, end_numbers, all_numbers}
use Rattle.fa_core.specs.Dressed.{Node, Parts, End, Nodes, node, no_parts, field, link, hook, under, leaf, no_nodes}
use Rattle.fa_core.specs.Dressed.{more, Points, end_value, number, refs, refs_of, end_refs}
use Rattle.fa_core.specs.Ways.{back_of}
use Rattle.fa_back.specs.Reached.{node_at}
use Rattle.fa_back.specs.inner.Hops.{Edge, tree_own, part_own, end_own, tree_edges}
use Rattle.fa_back.specs.inner.Hops.{part_edges, end_edges, forest_own, forest_edges}
use Rattle.fa_back.proofs.FactParts.{fact_cell, fact_value, IsPointer}
use Rattle.fa_core.proofs.WaysOf.{map-append}

-- what stands above a cell: nothing, for it is a root; or another cell
pub data Above : Type 0 where
  top : ℕ → Above
  child_of : Node → Above

pub record Site : Type 0 where
  pub above : Above
  pub here : Node

abbrev pub site : Above → Node → Site
site a n = record { above = a; here = n }

abbrev pub num : Site → ℕ
num s = number s.here

abbrev mutual
  pub tree_sites : Above → Node → List Site
  tree_sites a (node c s ds ps) = site a (node c s ds ps) ∷ part_sites (node c s ds ps) ps

  pub part_sites : Node → Parts → List Site
  part_sites z no_parts = []
  part_sites z (field f e ps) = end_sites z e ++ part_sites z ps
  part_sites z (link b inside e ps) = end_sites z e ++ part_sites z ps
  part_sites z (hook b inside ps) = part_sites z ps

  pub end_sites : Node → End → List Site
  end_sites z (under n) = tree_sites (child_of z) n
  end_sites z (leaf t) = []

abbrev pub forest_sites : (ℕ → ℕ) → Nodes → List Site
forest_sites f no_nodes = []
forest_sites f (more n ns) = tree_sites (top (f 0)) n ++ forest_sites (λ i. f (suc i)) ns

-- the ends of a cell's fields and links
abbrev pub ends_of : Parts → List (Option ℕ × End)
ends_of no_parts = []
ends_of (field f e ps) = (None, e) ∷ ends_of ps
ends_of (link b inside e ps) = (Some b, e) ∷ ends_of ps
ends_of (hook b inside ps) = ends_of ps

abbrev pub node_ends : Node → List (Option ℕ × End)
node_ends (node c s ds ps) = ends_of ps

mutual
  pub tree_nums : (a : Above) (n : Node) → map num (tree_sites a n) ≡ numbers n
  tree_nums a (node c s ds ps) = ap (λ (z : List ℕ). c ∷ z) (part_nums (node c s ds ps) ps)

  part_nums : (z : Node) (ps : Parts) → map num (part_sites z ps) ≡ numbers_of ps
  part_nums z no_parts = refl
  part_nums z (field f e ps) = map-append num (end_sites z e) (part_sites z ps)
      ∙ ap₂ (λ (x y : List ℕ). x ++ y) (end_nums z e) (part_nums z ps)
  part_nums z (link b inside e ps) = map-append num (end_sites z e) (part_sites z ps)
      ∙ ap₂ (λ (x y : List ℕ). x ++ y) (end_nums z e) (part_nums z ps)
  part_nums z (hook b inside ps) = part_nums z ps

  end_nums : (z : Node) (e : End) → map num (end_sites z e) ≡ end_numbers e
  end_nums z (under n) = tree_nums (child_of z) n
  end_nums z (leaf t) = refl

pub forest_nums : (f : ℕ → ℕ) (d : Nodes) → map num (forest_sites f d) ≡ all_numbers d
forest_nums f no_nodes = refl
forest_nums f (more n ns) = map-append num (tree_sites (top (f 0)) n) (forest_sites (λ i. f (suc i)) ns)
    ∙ ap₂ (λ (x y : List ℕ). x ++ y) (tree_nums (top (f 0)) n) (forest_nums (λ i. f (suc i)) ns)

-- where no two items have one image, items of one image are one
pub only_one : {X : Type 0} (f : X → ℕ) (xs : List X) (x y : X) → IsDistinct (map f xs) → IsIn x xs → IsIn y xs → f x
    ≡ f y → x ≡ y
only_one f [] x y a i j e = absurd i
only_one f (z ∷ zs) x y a (inl i) (inl j) e = i ∙ sym j
only_one f (z ∷ zs) x y a (inl i) (inr j) e =
    absurd (a.0 (subst (λ (n : ℕ). IsIn n (map f zs)) (sym e ∙ ap f i) (in_map f y zs j)))
only_one f (z ∷ zs) x y a (inr i) (inl j) e =
    absurd (a.0 (subst (λ (n : ℕ). IsIn n (map f zs)) (e ∙ ap f j) (in_map f x zs i)))
only_one f (z ∷ zs) x y a (inr i) (inr j) e = only_one f zs x y a.1 i j e

-- an end's references are its cell's
pub end_in : (ps : Parts) (o : Option ℕ) (e : End) (k : ℕ) → IsIn (o, e) (ends_of ps) → IsIn k (end_refs e)
    → IsIn k (refs_of ps)
end_in no_parts o e k i h = absurd i
end_in (field f x ps) o e k (inl i) h = in_left k (end_refs x) (refs_of ps)
    (subst (λ (z : Option ℕ × End). IsIn k (end_refs z.1)) i h)
end_in (field f x ps) o e k (inr i) h = in_right k (end_refs x) (refs_of ps) (end_in ps o e k i h)
end_in (link b inside x ps) o e k (inl i) h = in_left k (end_refs x) (refs_of ps)
    (subst (λ (z : Option ℕ × End). IsIn k (end_refs z.1)) i h)
end_in (link b inside x ps) o e k (inr i) h = in_right k (end_refs x) (refs_of ps) (end_in ps o e k i h)
end_in (hook b inside ps) o e k i h = end_in ps o e k i h

pub end_in_node : (n : Node) (o : Option ℕ) (e : End) (k : ℕ) → IsIn (o, e) (node_ends n) → IsIn k (end_refs e)
    → IsIn k (refs n)
end_in_node (node c s ds ps) o e k i h = end_in ps o e k i h

-- a cell at an end stands there
end_site : (z u : Node) (e : End) → under u ≡ e → IsIn (site (child_of z) u) (end_sites z e)
end_site z u e h = subst (λ (y : End). IsIn (site (child_of z) u) (end_sites z y)) h (head u)
  where
    head : (n : Node) → IsIn (site (child_of z) n) (tree_sites (child_of z) n)
    head (node c s ds ps) = inl refl

-- the child of a cell at z stands below z
pub child_site : (z : Node) (ps : Parts) (o : Option ℕ) (u : Node) → IsIn (o, under u) (ends_of ps)
    → IsIn (site (child_of z) u) (part_sites z ps)
child_site z no_parts o u i = absurd i
child_site z (field f e ps) o u (inl i) = in_left (site (child_of z) u) (end_sites z e) (part_sites z ps)
    (end_site z u e (ap (λ (y : Option ℕ × End). y.1) i))
child_site z (field f e ps) o u (inr i) = in_right (site (child_of z) u) (end_sites z e) (part_sites z ps)
    (child_site z ps o u i)
child_site z (link b inside e ps) o u (inl i) = in_left (site (child_of z) u) (end_sites z e) (part_sites z ps)
    (end_site z u e (ap (λ (y : Option ℕ × End). y.1) i))
child_site z (link b inside e ps) o u (inr i) = in_right (site (child_of z) u) (end_sites z e) (part_sites z ps)
    (child_site z ps o u i)
child_site z (hook b inside ps) o u i = child_site z ps o u i

mutual
  pub tree_child : (a : Above) (n : Node) (s : Site) (o : Option ℕ) (u : Node) → IsIn s (tree_sites a n)
      → IsIn (o, under u) (node_ends s.here) → IsIn (site (child_of s.here) u) (tree_sites a n)
  tree_child a (node c h ds ps) s o u (inl e) i =
      inr (subst (λ (y : Site). IsIn (site (child_of y.here) u) (part_sites (node c h ds ps) ps)) (sym e)
      (child_site (node c h ds ps) ps o u (subst (λ (y : Site). IsIn (o, under u) (node_ends y.here)) e i)))
  tree_child a (node c h ds ps) s o u (inr e) i = inr (part_child (node c h ds ps) ps s o u e i)

  part_child : (z : Node) (ps : Parts) (s : Site) (o : Option ℕ) (u : Node) → IsIn s (part_sites z ps)
      → IsIn (o, under u) (node_ends s.here) → IsIn (site (child_of s.here) u) (part_sites z ps)
  part_child z no_parts s o u e i = absurd e
  part_child z (field f x ps) s o u e i = elim (in_append s (end_sites z x) (part_sites z ps) e) [
    | inl j ↦ in_left (site (child_of s.here) u) (end_sites z x) (part_sites z ps) (end_child z x s o u j i)
    | inr j ↦ in_right (site (child_of s.here) u) (end_sites z x) (part_sites z ps) (part_child z ps s o u j i)
  ]
  part_child z (link b inside x ps) s o u e i = elim (in_append s (end_sites z x) (part_sites z ps) e) [
    | inl j ↦ in_left (site (child_of s.here) u) (end_sites z x) (part_sites z ps) (end_child z x s o u j i)
    | inr j ↦ in_right (site (child_of s.here) u) (end_sites z x) (part_sites z ps) (part_child z ps s o u j i)
  ]
  part_child z (hook b inside ps) s o u e i = part_child z ps s o u e i

  end_child : (z : Node) (x : End) (s : Site) (o : Option ℕ) (u : Node) → IsIn s (end_sites z x)
      → IsIn (o, under u) (node_ends s.here) → IsIn (site (child_of s.here) u) (end_sites z x)
  end_child z (under n) s o u e i = tree_child (child_of z) n s o u e i
  end_child z (leaf t) s o u e i = absurd e

pub forest_child : (f : ℕ → ℕ) (d : Nodes) (s : Site) (o : Option ℕ) (u : Node) → IsIn s (forest_sites f d)
    → IsIn (o, under u) (node_ends s.here) → IsIn (site (child_of s.here) u) (forest_sites f d)
forest_child f no_nodes s o u e i = absurd e
forest_child f (more n ns) s o u e i = elim (in_append s (tree_sites (top (f 0)) n) (forest_sites (λ i. f (suc i)) ns)
    e) [
      | inl j ↦ in_left (site (child_of s.here) u) (tree_sites (top (f 0)) n) (forest_sites (λ i. f (suc i)) ns)
          (tree_child (top (f 0)) n s o u j i)
      | inr j ↦ in_right (site (child_of s.here) u) (tree_sites (top (f 0)) n) (forest_sites (λ i. f (suc i)) ns)
          (forest_child (λ i. f (suc i)) ns s o u j i)
    ]

-- a place in the forest is a place in one of its trees
pub site_tree : (f : ℕ → ℕ) (d : Nodes) (s : Site) → IsIn s (forest_sites f d) → (j : ℕ) × (x : Node)
    × (node_at d j ≡ Some x) × IsIn s (tree_sites (top (f j)) x)
site_tree f no_nodes s i = absurd i
site_tree f (more n ns) s i = elim (in_append s (tree_sites (top (f 0)) n) (forest_sites (λ i. f (suc i)) ns) i) [
  | inl j ↦ (0, n, refl, j)
  | inr j ↦ (let k = site_tree (λ i. f (suc i)) ns s j in (suc k.0, k.1, k.2, k.3))
]

pub tree_site : (f : ℕ → ℕ) (d : Nodes) (j : ℕ) (x : Node) → node_at d j ≡ Some x
    → IsIn (site (top (f j)) x) (forest_sites f d)
tree_site f no_nodes j x e = absurd (none-some x e)
tree_site f (more n ns) zero x e = in_left (site (top (f 0)) x) (tree_sites (top (f 0)) n)
    (forest_sites (λ i. f (suc i)) ns) (subst (λ (y : Node). IsIn (site (top (f 0)) x) (tree_sites (top (f 0)) y))
    (sym (same_Some n x e)) (head (top (f 0)) x))
  where
    head : (a : Above) (u : Node) → IsIn (site a u) (tree_sites a u)
    head a (node c s ds ps) = inl refl
tree_site f (more n ns) (suc j) x e = in_right (site (top (f (suc j))) x) (tree_sites (top (f 0)) n)
    (forest_sites (λ i. f (suc i)) ns) (tree_site (λ i. f (suc i)) ns j x e)

-- below the top of a tree each cell stands below a cell whose end it is
abbrev pub IsBelow : Site → Type 0
IsBelow s = (p : Node) × (s.above ≡ child_of p) × ((o : Option ℕ) × IsIn (o, under s.here) (node_ends p))

mutual
  pub below_top : (a : Above) (n : Node) (s : Site) → IsIn s (tree_sites a n) → (s ≡ site a n) ⊎ IsBelow s
  below_top a (node c h ds ps) s (inl e) = inl e
  below_top a (node c h ds ps) s (inr i) = inr (below_parts (node c h ds ps) ps (λ x j. j) s i)

  below_parts : (z : Node) (ps : Parts) → ((x : Option ℕ × End) → IsIn x (ends_of ps) → IsIn x (node_ends z))
      → (s : Site) → IsIn s (part_sites z ps) → IsBelow s
  below_parts z no_parts sub s i = absurd i
  below_parts z (field f e ps) sub s i = elim (in_append s (end_sites z e) (part_sites z ps) i) [
    | inl j ↦ below_end z e None (sub (None, e) (inl refl)) s j
    | inr j ↦ below_parts z ps (λ x k. sub x (inr k)) s j
  ]
  below_parts z (link b inside e ps) sub s i = elim (in_append s (end_sites z e) (part_sites z ps) i) [
    | inl j ↦ below_end z e (Some b) (sub (Some b, e) (inl refl)) s j
    | inr j ↦ below_parts z ps (λ x k. sub x (inr k)) s j
  ]
  below_parts z (hook b inside ps) sub s i = below_parts z ps sub s i

  below_end : (z : Node) (e : End) (o : Option ℕ) → IsIn (o, e) (node_ends z) → (s : Site) → IsIn s (end_sites z e)
      → IsBelow s
  below_end z (under n) o h s i = elim (below_top (child_of z) n s i) [
    | inl e ↦ (
      z,
      ap (λ (y : Site). y.above) e,
      (o, subst (λ (y : Node). IsIn (o, under y) (node_ends z)) (ap (λ (y : Site). y.here) (sym e)) h),
    )
    | inr k ↦ k
  ]
  below_end z (leaf t) o h s i = absurd i

-- a pointer of the trees' own fields is one of some place
module _ (bs : List BoxFace) (vs : List Value) where
  abbrev pub OwnFrom : List Site → ℕ → ℕ → Type 0
  OwnFrom S m n = (s : Site) × IsIn s S × (m ≡ num s)
      × ((e : End) × IsIn (None, e) (node_ends s.here) × (end_value vs e ≡ Cell n))

  own_more : (S U : List Site) (m n : ℕ) → ((s : Site) → IsIn s S → IsIn s U) → OwnFrom S m n → OwnFrom U m n
  own_more S U m n sub o = (o.0, sub o.0 o.1, o.2, o.3)

  abbrev pub EdgeFrom : List Site → Edge → Type 0
  EdgeFrom S x = (s : Site) × IsIn s S × (x.input ≡ num s)
      × (((b : ℕ) × (e : End) × IsIn (Some b, e) (node_ends s.here) × (x.output ≡ end_value vs e)
      × (x.back ≡ back_of bs b)) ⊎ ((x.output ≡ DanglingValue) × (x.back ≡ false)))

  edge_more : (S U : List Site) (x : Edge) → ((s : Site) → IsIn s S → IsIn s U) → EdgeFrom S x → EdgeFrom U x
  edge_more S U x sub o = (o.0, sub o.0 o.1, o.2, o.3)

  grow_left : (t : Site) (xs ys : List Site) (s : Site) → IsIn s xs → IsIn s (t ∷ (xs ++ ys))
  grow_left t xs ys s i = inr (in_left s xs ys i)

  grow_right : (t : Site) (xs ys : List Site) (s : Site) → IsIn s (t ∷ ys) → IsIn s (t ∷ (xs ++ ys))
  grow_right t xs ys s (inl e) = inl e
  grow_right t xs ys s (inr i) = inr (in_right s xs ys i)

  mutual
    own_tree : (a : Above) (x : Node) (m f n : ℕ) → IsIn (Points m f (Cell n)) (tree_own vs x)
        → OwnFrom (tree_sites a x) m n
    own_tree a (node c s ds ps) m f n (inl e) = absurd (subst IsPointer e tt)
    own_tree a (node c s ds ps) m f n (inr i) = own_parts (site a (node c s ds ps)) ps (λ y j. j) m f n i

    own_parts : (t : Site) (ps : Parts) → ((x : Option ℕ × End) → IsIn x (ends_of ps) → IsIn x (node_ends t.here))
        → (m f n : ℕ) → IsIn (Points m f (Cell n)) (part_own vs (num t) ps) → OwnFrom (t ∷ part_sites t.here ps) m n
    own_parts t no_parts sub m f n i = absurd i
    own_parts t (field g e ps) sub m f n (inl i) =
        (t, inl refl, ap fact_cell i, (e, sub (None, e) (inl refl), sym (ap fact_value i)))
    own_parts t (field g e ps) sub m f n (inr i) =
        elim (in_append (Points m f (Cell n)) (end_own vs e) (part_own vs (num t) ps) i) [
          | inl j ↦ own_more (end_sites t.here e) (t ∷ (end_sites t.here e ++ part_sites t.here ps)) m n
              (grow_left t (end_sites t.here e) (part_sites t.here ps)) (own_end t.here e m f n j)
          | inr j ↦ own_more (t ∷ part_sites t.here ps) (t ∷ (end_sites t.here e ++ part_sites t.here ps)) m n
              (grow_right t (end_sites t.here e) (part_sites t.here ps)) (own_parts t ps (λ x k. sub x (inr k)) m f n j)
        ]
    own_parts t (link b inside e ps) sub m f n i =
        elim (in_append (Points m f (Cell n)) (end_own vs e) (part_own vs (num t) ps) i) [
          | inl j ↦ own_more (end_sites t.here e) (t ∷ (end_sites t.here e ++ part_sites t.here ps)) m n
              (grow_left t (end_sites t.here e) (part_sites t.here ps)) (own_end t.here e m f n j)
          | inr j ↦ own_more (t ∷ part_sites t.here ps) (t ∷ (end_sites t.here e ++ part_sites t.here ps)) m n
              (grow_right t (end_sites t.here e) (part_sites t.here ps)) (own_parts t ps (λ x k. sub x (inr k)) m f n j)
        ]
    own_parts t (hook b inside ps) sub m f n i = own_parts t ps sub m f n i

    own_end : (z : Node) (e : End) (m f n : ℕ) → IsIn (Points m f (Cell n)) (end_own vs e) → OwnFrom (end_sites z e) m n
    own_end z (under x) m f n i = own_tree (child_of z) x m f n i
    own_end z (leaf t) m f n i = absurd i

  mutual
    edge_tree : (a : Above) (x : Node) (y : Edge) → IsIn y (tree_edges bs vs x) → EdgeFrom (tree_sites a x) y
    edge_tree a (node c s ds ps) y i = edge_parts (site a (node c s ds ps)) ps (λ z j. j) y i

    edge_parts : (t : Site) (ps : Parts) → ((x : Option ℕ × End) → IsIn x (ends_of ps) → IsIn x (node_ends t.here))
        → (y : Edge) → IsIn y (part_edges bs vs (num t) ps) → EdgeFrom (t ∷ part_sites t.here ps) y
    edge_parts t no_parts sub y i = absurd i
    edge_parts t (field g e ps) sub y i = elim (in_append y (end_edges bs vs e) (part_edges bs vs (num t) ps) i) [
      | inl j ↦ edge_more (end_sites t.here e) (t ∷ (end_sites t.here e ++ part_sites t.here ps)) y
          (grow_left t (end_sites t.here e) (part_sites t.here ps)) (edge_end t.here e y j)
      | inr j ↦ edge_more (t ∷ part_sites t.here ps) (t ∷ (end_sites t.here e ++ part_sites t.here ps)) y
          (grow_right t (end_sites t.here e) (part_sites t.here ps)) (edge_parts t ps (λ x k. sub x (inr k)) y j)
    ]
    edge_parts t (link b inside e ps) sub y (inl i) = (
      t,
      inl refl,
      ap (λ (z : Edge). z.input) i,
      inl (b, e, sub (Some b, e) (inl refl), ap (λ (z : Edge). z.output) i, ap (λ (z : Edge). z.back) i),
    )
    edge_parts t (link b inside e ps) sub y (inr i) =
        elim (in_append y (end_edges bs vs e) (part_edges bs vs (num t) ps) i) [
          | inl j ↦ edge_more (end_sites t.here e) (t ∷ (end_sites t.here e ++ part_sites t.here ps)) y
              (grow_left t (end_sites t.here e) (part_sites t.here ps)) (edge_end t.here e y j)
          | inr j ↦ edge_more (t ∷ part_sites t.here ps) (t ∷ (end_sites t.here e ++ part_sites t.here ps)) y
              (grow_right t (end_sites t.here e) (part_sites t.here ps)) (edge_parts t ps (λ x k. sub x (inr k)) y j)
        ]
    edge_parts t (hook b inside ps) sub y (inl i) =
        (t, inl refl, ap (λ (z : Edge). z.input) i, inr (ap (λ (z : Edge). z.output) i, ap (λ (z : Edge). z.back) i))
    edge_parts t (hook b inside ps) sub y (inr i) = edge_parts t ps sub y i

    edge_end : (z : Node) (e : End) (y : Edge) → IsIn y (end_edges bs vs e) → EdgeFrom (end_sites z e) y
    edge_end z (under x) y i = edge_tree (child_of z) x y i
    edge_end z (leaf t) y i = absurd i

  pub own_forest : (f : ℕ → ℕ) (d : Nodes) (m g n : ℕ) → IsIn (Points m g (Cell n)) (forest_own vs d)
      → OwnFrom (forest_sites f d) m n
  own_forest f no_nodes m g n i = absurd i
  own_forest f (more x ns) m g n i = elim (in_append (Points m g (Cell n)) (tree_own vs x) (forest_own vs ns) i) [
    | inl j ↦ own_more (tree_sites (top (f 0)) x) (tree_sites (top (f 0)) x ++ forest_sites (λ i. f (suc i)) ns) m n
        (λ s k. in_left s (tree_sites (top (f 0)) x) (forest_sites (λ i. f (suc i)) ns) k)
        (own_tree (top (f 0)) x m g n j)
    | inr j ↦ own_more (forest_sites (λ i. f (suc i)) ns) (tree_sites (top (f 0)) x ++ forest_sites (λ i. f (suc i)) ns)
        m n (λ s k. in_right s (tree_sites (top (f 0)) x) (forest_sites (λ i. f (suc i)) ns) k)
        (own_forest (λ i. f (suc i)) ns m g n j)
  ]

  pub edge_forest : (f : ℕ → ℕ) (d : Nodes) (y : Edge) → IsIn y (forest_edges bs vs d) → EdgeFrom (forest_sites f d) y
  edge_forest f no_nodes y i = absurd i
  edge_forest f (more x ns) y i = elim (in_append y (tree_edges bs vs x) (forest_edges bs vs ns) i) [
    | inl j ↦ edge_more (tree_sites (top (f 0)) x) (tree_sites (top (f 0)) x ++ forest_sites (λ i. f (suc i)) ns) y
        (λ s k. in_left s (tree_sites (top (f 0)) x) (forest_sites (λ i. f (suc i)) ns) k) (edge_tree (top (f 0)) x y j)
    | inr j ↦ edge_more (forest_sites (λ i. f (suc i)) ns)
        (tree_sites (top (f 0)) x ++ forest_sites (λ i. f (suc i)) ns) y
        (λ s k. in_right s (tree_sites (top (f 0)) x) (forest_sites (λ i. f (suc i)) ns) k)
        (edge_forest (λ i. f (suc i)) ns y j)
  ]
