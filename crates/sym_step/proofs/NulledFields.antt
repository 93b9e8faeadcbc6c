-- A null pointer in the place of a leaf in a field of a root's cell: all other pointers stay, and so do the box edges.
use Rattle.std.proofs.Common.{◌≡◌, ◌⊎◌, inl, inr, ℕ, zero, suc, List, [], ◌∷◌, ◌++◌, refl, sym, ap, ap₂, subst, ◌∙◌}
use Rattle.std.proofs.Common.{Some}
use Rattle.std.proofs.lemmas.Option.{none-some, same_Some}
use Rattle.fore_base.specs.Lists.{IsIn, Every, Paired}
use Rattle.fore_base.specs.declared.store.Datum.{Datum}
use Rattle.fore_base.specs.declared.store.Value.{Value}
use Rattle.fore_base.proofs.ListLemmas.{in_append, in_left, in_right}
use Rattle.fa_core.specs.declared.faces.BoxFace.{BoxFace}
use Rattle.fa_core.specs.declared.forest.Target.{Target}
use Rattle.fa_core.specs.declared.forest.Target.TheVariants.{Null}
use Rattle.fa_core.specs.Boxes.{head_of, heads}
use Rattle.fa_core.specs.Dressed.{Node, Parts, End, Nodes, node, no_parts, field, link, hook, under, leaf, no_nodes}
use Rattle.fa_core.specs.Dressed.{more, Fact, Head, Points, tree_facts, slot_facts, end_facts, forest_facts, refs}
use Rattle.fa_core.specs.Dressed.{refs_of, end_refs, end_value}
use Rattle.fa_core.specs.Member.{slots_of}
use Rattle.fa_back.specs.Reached.{node_at}
use Rattle.fa_back.specs.inner.Hops.{Edge, tree_edges, part_edges, end_edges, forest_edges}
use Rattle.fa_split.specs.Split.{end_at, set_end, set_node, top_parts, with_end}
use Rattle.fa_opening.specs.Opened.{IsField}

-- Facts that differ in pointers of one cell.

-- a pointer of cell c
abbrev IsPointerOf : ℕ → Fact → Type 0
IsPointerOf c (Head n s ds) = ⊥
IsPointerOf c (Points n f v) = n ≡ c

abbrev SameBut : ℕ → Fact → Fact → Type 0
SameBut c x y = (x ≡ y) ⊎ (IsPointerOf c x × IsPointerOf c y)

-- one by one the facts are equal, or are both pointers of cell c
abbrev pub AllSame : ℕ → List Fact → List Fact → Type 0
AllSame c = Paired (SameBut c)

same_self : (c : ℕ) (xs : List Fact) → AllSame c xs xs
same_self c [] = tt
same_self c (x ∷ xs) = (inl refl, same_self c xs)

same_both : (c : ℕ) (xs ys us ws : List Fact) → AllSame c xs ys → AllSame c us ws → AllSame c (xs ++ us) (ys ++ ws)
same_both c [] [] us ws h k = k
same_both c [] (y ∷ ys) us ws h k = absurd h
same_both c (x ∷ xs) [] us ws h k = absurd h
same_both c (x ∷ xs) (y ∷ ys) us ws h k = (h.0, same_both c xs ys us ws h.1 k)

-- so the heads are equal
head_same : (c : ℕ) (x y : Fact) → SameBut c x y → head_of x ≡ head_of y
head_same c x y (inl e) = ap head_of e
head_same c (Head n s ds) y (inr h) = absurd h.0
head_same c (Points n f v) (Head m s ds) (inr h) = absurd h.1
head_same c (Points n f v) (Points m g w) (inr h) = refl

pub same_heads : (c : ℕ) (xs ys : List Fact) → AllSame c xs ys → heads xs ≡ heads ys
same_heads c [] [] h = refl
same_heads c [] (y ∷ ys) h = absurd h
same_heads c (x ∷ xs) [] h = absurd h
same_heads c (x ∷ xs) (y ∷ ys) h =
    ap₂ (λ (a b : List ℕ). a ++ b) (head_same c x y h.0) (same_heads c xs ys h.1)

-- and so is a pointer of another cell
pub same_other : (c n f : ℕ) (v : Value) → (n ≡ c → ⊥) → (xs ys : List Fact) → AllSame c xs ys
    → IsIn (Points n f v) xs → IsIn (Points n f v) ys
same_other c n f v d [] ys h i = absurd i
same_other c n f v d (x ∷ xs) [] h i = absurd h
same_other c n f v d (x ∷ xs) (y ∷ ys) h (inl e) = here x y h.0 e
  where
    here : (x y : Fact) → SameBut c x y → Points n f v ≡ x → IsIn (Points n f v) (y ∷ ys)
    here x y (inl w) e = inl (e ∙ w)
    here x y (inr w) e = absurd (d (subst (IsPointerOf c) (sym e) w.0))
same_other c n f v d (x ∷ xs) (y ∷ ys) h (inr i) = inr (same_other c n f v d xs ys h.1 i)

-- A leaf in a field of a cell all of whose slots are fields.

module _ (vs : List Value) (c : ℕ) (t : Target) where
  first_same : (f : ℕ) (e : End) (ps : Parts) → e ≡ leaf t
      → AllSame c (slot_facts vs c (field f e ps)) (slot_facts vs c (field f (leaf Null) ps))
  first_same f e ps q =
      subst (λ (z : End). AllSame c (slot_facts vs c (field f z ps)) (slot_facts vs c (field f (leaf Null) ps))) (sym q)
      (inr (refl, refl), same_self c (slot_facts vs c ps))

  parts_same : (p : ℕ) (ps : Parts) → Every IsField (slots_of ps) → end_at p ps ≡ Some (leaf t)
      → AllSame c (slot_facts vs c ps) (slot_facts vs c (set_end p (leaf Null) ps))
  parts_same p no_parts h e = tt
  parts_same zero (field f x ps) h e = first_same f x ps (same_Some x (leaf t) e)
  parts_same (suc p) (field f x ps) h e = (
    inl refl,
    same_both c (end_facts vs x) (end_facts vs x) (slot_facts vs c ps) (slot_facts vs c (set_end p (leaf Null) ps))
        (same_self c (end_facts vs x)) (parts_same p ps h.1 e),
  )
  parts_same p (link b i x ps) h e = absurd h.0
  parts_same p (hook b i ps) h e = absurd h.0

  module _ (bs : List BoxFace) where
    first_edges : (f : ℕ) (e : End) (ps : Parts) → e ≡ leaf t
        → part_edges bs vs c (field f (leaf Null) ps) ≡ part_edges bs vs c (field f e ps)
    first_edges f e ps q = ap (λ (z : End). part_edges bs vs c (field f z ps)) (sym q)

    parts_edges : (p : ℕ) (ps : Parts) → Every IsField (slots_of ps) → end_at p ps ≡ Some (leaf t)
        → part_edges bs vs c (set_end p (leaf Null) ps) ≡ part_edges bs vs c ps
    parts_edges p no_parts h e = refl
    parts_edges zero (field f x ps) h e = first_edges f x ps (same_Some x (leaf t) e)
    parts_edges (suc p) (field f x ps) h e =
        ap (λ (es : List Edge). end_edges bs vs x ++ es) (parts_edges p ps h.1 e)
    parts_edges p (link b i x ps) h e = absurd h.0
    parts_edges p (hook b i ps) h e = absurd h.0

-- References.

-- a null pointer adds none
parts_refs : (k p : ℕ) (ps : Parts) → IsIn k (refs_of (set_end p (leaf Null) ps)) → IsIn k (refs_of ps)
parts_refs k p no_parts i = i
parts_refs k zero (field f e ps) i = in_right k (end_refs e) (refs_of ps) i
parts_refs k (suc p) (field f e ps) i =
    elim (in_append k (end_refs e) (refs_of (set_end p (leaf Null) ps)) i) [
      | inl j ↦ in_left k (end_refs e) (refs_of ps) j
      | inr j ↦ in_right k (end_refs e) (refs_of ps) (parts_refs k p ps j)
    ]
parts_refs k zero (link b s e ps) i = in_right k (end_refs e) (refs_of ps) i
parts_refs k (suc p) (link b s e ps) i =
    elim (in_append k (end_refs e) (refs_of (set_end p (leaf Null) ps)) i) [
      | inl j ↦ in_left k (end_refs e) (refs_of ps) j
      | inr j ↦ in_right k (end_refs e) (refs_of ps) (parts_refs k p ps j)
    ]
parts_refs k p (hook b s ps) i = parts_refs k p ps i

pub nulled_refs : (k p : ℕ) (x : Node) → IsIn k (refs (with_end p (leaf Null) x)) → IsIn k (refs x)
nulled_refs k p (node c s ds ps) i = parts_refs k p ps i

-- a child's references are the tree's
parts_child : (k p : ℕ) (ps : Parts) (m : Node) → end_at p ps ≡ Some (under m) → IsIn k (refs m) → IsIn k (refs_of ps)
parts_child k p no_parts m e i = absurd (none-some (under m) e)
parts_child k zero (field f x ps) m e i =
    in_left k (end_refs x) (refs_of ps)
    (subst (λ (z : End). IsIn k (end_refs z)) (sym (same_Some x (under m) e)) i)
parts_child k (suc p) (field f x ps) m e i = in_right k (end_refs x) (refs_of ps) (parts_child k p ps m e i)
parts_child k zero (link b s x ps) m e i =
    in_left k (end_refs x) (refs_of ps)
    (subst (λ (z : End). IsIn k (end_refs z)) (sym (same_Some x (under m) e)) i)
parts_child k (suc p) (link b s x ps) m e i = in_right k (end_refs x) (refs_of ps) (parts_child k p ps m e i)
parts_child k p (hook b s ps) m e i = parts_child k p ps m e i

pub child_refs : (k p : ℕ) (x m : Node) → end_at p (top_parts x) ≡ Some (under m) → IsIn k (refs m) → IsIn k (refs x)
child_refs k p (node c s ds ps) m e i = parts_child k p ps m e i

-- The trees.

module _ (vs : List Value) (c p : ℕ) (t : Target) where
  pub tree_same : (s : ℕ) (ds : List Datum) (ps : Parts) → Every IsField (slots_of ps)
      → end_at p ps ≡ Some (leaf t)
      → AllSame c (tree_facts vs (node c s ds ps)) (tree_facts vs (with_end p (leaf Null) (node c s ds ps)))
  tree_same s ds ps h e = (inl refl, parts_same vs c t p ps h e)

  pub forest_same : (x y : Node) → AllSame c (tree_facts vs x) (tree_facts vs y) → (d : Nodes) (r : ℕ)
      → node_at d r ≡ Some x → AllSame c (forest_facts vs [] d) (forest_facts vs [] (set_node r y d))
  forest_same x y h no_nodes r e = tt
  forest_same x y h (more n ns) zero e =
      same_both c (tree_facts vs n) (tree_facts vs y) (forest_facts vs [] ns) (forest_facts vs [] ns)
      (subst (λ (z : Node). AllSame c (tree_facts vs z) (tree_facts vs y)) (sym (same_Some n x e)) h)
      (same_self c (forest_facts vs [] ns))
  forest_same x y h (more n ns) (suc r) e =
      same_both c (tree_facts vs n) (tree_facts vs n) (forest_facts vs [] ns) (forest_facts vs [] (set_node r y ns))
      (same_self c (tree_facts vs n)) (forest_same x y h ns r e)

  module _ (bs : List BoxFace) where
    pub tree_edged : (s : ℕ) (ds : List Datum) (ps : Parts) → Every IsField (slots_of ps)
        → end_at p ps ≡ Some (leaf t)
        → tree_edges bs vs (with_end p (leaf Null) (node c s ds ps)) ≡ tree_edges bs vs (node c s ds ps)
    tree_edged s ds ps h e = parts_edges vs c t bs p ps h e

    pub forest_edged : (x y : Node) → tree_edges bs vs y ≡ tree_edges bs vs x → (d : Nodes) (r : ℕ)
        → node_at d r ≡ Some x → forest_edges bs vs (set_node r y d) ≡ forest_edges bs vs d
    forest_edged x y h no_nodes r e = refl
    forest_edged x y h (more n ns) zero e =
        ap (λ (es : List Edge). es ++ forest_edges bs vs ns)
        (h ∙ ap (tree_edges bs vs) (sym (same_Some n x e)))
    forest_edged x y h (more n ns) (suc r) e =
        ap (λ (es : List Edge). tree_edges bs vs n ++ es) (forest_edged x y h ns r e)
