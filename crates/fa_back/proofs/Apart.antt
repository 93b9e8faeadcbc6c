-- The facts of a dressed forest: those of its own cells, and those of each box edge's inside.
use Rattle.std.proofs.Common.{◌≡◌, inl, inr, ℕ, List, [], ◌∷◌, ◌++◌}
use Rattle.std.proofs.Common.{flat_map, refl, sym, ap, ap₂, subst, ◌∙◌, append_assoc}
use Rattle.fore_base.specs.Lists.{IsIn, IsDistinct}
use Rattle.fore_base.specs.declared.store.Value.{Value}
use Rattle.fore_base.specs.declared.store.Value.TheVariants.{Cell}
use Rattle.fore_base.proofs.ListLemmas.{in_left, in_right, in_append}
use Rattle.fa_core.specs.declared.faces.BoxFace.{BoxFace}
use Rattle.fa_core.specs.Boxes.{head_of, heads}
use Rattle.fa_core.specs.Choices.{numbers, numbers_of, end_numbers, all_numbers}
use Rattle.fa_core.specs.Dressed.{Node, Parts, End, Nodes, node, no_parts, field, link, hook, under, leaf, no_nodes}
use Rattle.fa_core.specs.Dressed.{more, Fact, Head, Points, tree_facts, slot_facts, end_facts, forest_facts}
use Rattle.fa_core.specs.Dressed.{end_value, inside_facts}
use Rattle.fa_core.specs.Rearranged.{Rearranged, empty, keep, chain}
use Rattle.fa_core.proofs.Permuted.{none_in_both}
use Rattle.fa_core.proofs.Rearranging.{equal, both, exchange, after, flat_map-append}
use Rattle.fa_back.specs.inner.Hops.{Edge, tree_own, part_own, end_own, tree_edges, part_edges}
use Rattle.fa_back.specs.inner.Hops.{end_edges, forest_own, forest_edges}

abbrev pub inner : List Edge → List Fact
inner = flat_map (λ (e : Edge). e.facts)

cross : {X : Type 0} (a b c d : List X) → Rearranged ((a ++ b) ++ (c ++ d)) ((a ++ c) ++ (b ++ d))
cross a b c d = chain (equal (append_assoc a b (c ++ d)))
    (chain (after a (exchange b c d)) (equal (sym (append_assoc a c (b ++ d)))))

pub join : (a c : List Fact) (xs ys : List Edge) (us vs : List Fact) → Rearranged us (a ++ inner xs)
    → Rearranged vs (c ++ inner ys) → Rearranged (us ++ vs) ((a ++ c) ++ inner (xs ++ ys))
join a c xs ys us vs p q = chain (both p q) (chain (cross a (inner xs) c (inner ys))
    (equal (ap (λ (z : List Fact). (a ++ c) ++ z) (sym (flat_map-append (λ (e : Edge). e.facts) xs ys)))))

module _ (bs : List BoxFace) (vs : List Value) where
  mutual
    pub tree_apart : (n : Node) → Rearranged (tree_facts vs n) (tree_own vs n ++ inner (tree_edges bs vs n))
    tree_apart (node c s ds ps) = keep (Head c s ds) (parts_apart c ps)

    pub parts_apart : (c : ℕ) (ps : Parts) → Rearranged (slot_facts vs c ps)
        (part_own vs c ps ++ inner (part_edges bs vs c ps))
    parts_apart c no_parts = empty
    parts_apart c (field f e ps) = keep (Points c f (end_value vs e))
        (join (end_own vs e) (part_own vs c ps) (end_edges bs vs e) (part_edges bs vs c ps) (end_facts vs e)
        (slot_facts vs c ps) (end_apart e) (parts_apart c ps))
    parts_apart c (link b inside e ps) =
        chain (after (inside_facts (Cell c ∷ (end_value vs e ∷ [])) inside)
        (join (end_own vs e) (part_own vs c ps) (end_edges bs vs e) (part_edges bs vs c ps) (end_facts vs e)
        (slot_facts vs c ps) (end_apart e) (parts_apart c ps)))
        (exchange (inside_facts (Cell c ∷ (end_value vs e ∷ [])) inside) (end_own vs e ++ part_own vs c ps)
        (inner (end_edges bs vs e ++ part_edges bs vs c ps)))
    parts_apart c (hook b inside ps) =
        chain (after (inside_facts (Cell c ∷ []) inside) (parts_apart c ps))
        (exchange (inside_facts (Cell c ∷ []) inside) (part_own vs c ps) (inner (part_edges bs vs c ps)))

    end_apart : (e : End) → Rearranged (end_facts vs e) (end_own vs e ++ inner (end_edges bs vs e))
    end_apart (under n) = tree_apart n
    end_apart (leaf t) = empty

  pub forest_apart : (d : Nodes) → Rearranged (forest_facts vs [] d) (forest_own vs d ++ inner (forest_edges bs vs d))
  forest_apart no_nodes = empty
  forest_apart (more n ns) = join (tree_own vs n) (forest_own vs ns) (tree_edges bs vs n) (forest_edges bs vs ns)
      (tree_facts vs n) (forest_facts vs [] ns) (tree_apart n) (forest_apart ns)

  mutual
    pub own_numbers : (n : Node) → heads (tree_own vs n) ≡ numbers n
    own_numbers (node c s ds ps) = ap (λ (z : List ℕ). c ∷ z) (part_numbers c ps)

    pub part_numbers : (c : ℕ) (ps : Parts) → heads (part_own vs c ps) ≡ numbers_of ps
    part_numbers c no_parts = refl
    part_numbers c (field f e ps) = flat_map-append head_of (end_own vs e) (part_own vs c ps)
        ∙ ap₂ (λ (x y : List ℕ). x ++ y) (end_numbers_of e) (part_numbers c ps)
    part_numbers c (link b inside e ps) = flat_map-append head_of (end_own vs e) (part_own vs c ps)
        ∙ ap₂ (λ (x y : List ℕ). x ++ y) (end_numbers_of e) (part_numbers c ps)
    part_numbers c (hook b inside ps) = part_numbers c ps

    end_numbers_of : (e : End) → heads (end_own vs e) ≡ end_numbers e
    end_numbers_of (under n) = own_numbers n
    end_numbers_of (leaf t) = refl

  pub forest_numbers : (d : Nodes) → heads (forest_own vs d) ≡ all_numbers d
  forest_numbers no_nodes = refl
  forest_numbers (more n ns) = flat_map-append head_of (tree_own vs n) (forest_own vs ns)
      ∙ ap₂ (λ (x y : List ℕ). x ++ y) (own_numbers n) (forest_numbers ns)

-- lists of facts, one for each edge, with no head twice

pub in_inner : (es : List Edge) (y : Fact) → IsIn y (inner es) → (e : Edge) × IsIn e es × IsIn y e.facts
in_inner [] y i = absurd i
in_inner (e ∷ es) y i = elim (in_append y e.facts (inner es) i) [
  | inl j ↦ (e, inl refl, j)
  | inr j ↦
      (let k = in_inner es y j in (k.0, inr k.1, k.2))
]

pub inner_in : (es : List Edge) (e : Edge) (y : Fact) → IsIn e es → IsIn y e.facts → IsIn y (inner es)
inner_in [] e y i j = absurd i
inner_in (x ∷ es) e y (inl h) j = in_left y x.facts (inner es) (subst (λ (z : Edge). IsIn y z.facts) h j)
inner_in (x ∷ es) e y (inr i) j = in_right y x.facts (inner es) (inner_in es e y i j)

pub heads_in : (es : List Edge) (e : Edge) (n : ℕ) → IsIn e es → IsIn n (heads e.facts) → IsIn n (heads (inner es))
heads_in [] e n i j = absurd i
heads_in (x ∷ es) e n (inl h) j = rw (flat_map-append head_of x.facts (inner es))
    (in_left n (heads x.facts) (heads (inner es)) (subst (λ (z : Edge). IsIn n (heads z.facts)) h j))
heads_in (x ∷ es) e n (inr i) j = rw (flat_map-append head_of x.facts (inner es))
    (in_right n (heads x.facts) (heads (inner es)) (heads_in es e n i j))

pub one_edge : (es : List Edge) → IsDistinct (heads (inner es)) → (e g : Edge) (n : ℕ) → IsIn e es → IsIn g es
    → IsIn n (heads e.facts) → IsIn n (heads g.facts) → e ≡ g
one_edge [] a e g n i j x y = absurd i
one_edge (z ∷ es) a e g n (inl i) (inl j) x y = i ∙ sym j
one_edge (z ∷ es) a e g n (inl i) (inr j) x y =
    absurd (none_in_both n (heads z.facts) (heads (inner es)) (rw (flat_map-append head_of z.facts (inner es)) at a)
    (subst (λ (w : Edge). IsIn n (heads w.facts)) i x) (heads_in es g n j y))
one_edge (z ∷ es) a e g n (inr i) (inl j) x y =
    absurd (none_in_both n (heads z.facts) (heads (inner es)) (rw (flat_map-append head_of z.facts (inner es)) at a)
    (subst (λ (w : Edge). IsIn n (heads w.facts)) j y) (heads_in es e n i x))
one_edge (z ∷ es) a e g n (inr i) (inr j) x y = one_edge es
    (drop_differ (heads z.facts) (heads (inner es)) (rw (flat_map-append head_of z.facts (inner es)) at a)) e g n i j x
    y
  where
    drop_differ : (xs ys : List ℕ) → IsDistinct (xs ++ ys) → IsDistinct ys
    drop_differ [] ys a = a
    drop_differ (x ∷ xs) ys a = drop_differ xs ys a.1

-- a head of the edges is one of some edge
pub head_edge : (es : List Edge) (n : ℕ) → IsIn n (heads (inner es)) → (e : Edge) × IsIn e es × IsIn n (heads e.facts)
head_edge [] n i = absurd i
head_edge (x ∷ es) n i = elim (in_append n (heads x.facts) (heads (inner es))
    (rw (flat_map-append head_of x.facts (inner es)) at i)) [
      | inl j ↦ (x, inl refl, j)
      | inr j ↦ (let k = head_edge es n j in (k.0, inr k.1, k.2))
    ]
