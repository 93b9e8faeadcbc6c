-- The items of slots as lists: slots put in, taken out, and with other leaves.
use Rattle.std.proofs.Common.{◌≡◌, ℕ, zero, suc, List, [], ◌∷◌, ◌++◌, refl, sym, ap, ap₂, subst, append_assoc}
use Rattle.std.proofs.Common.{append-nil, flat_map, ◌∙◌, Some, slice_get}
use Rattle.std.proofs.lemmas.Option.{none-some, same_Some}
use Rattle.fore_base.specs.Lists.{Every}
use Rattle.fore_base.specs.declared.store.Value.{Value}
use Rattle.fore_base.specs.declared.store.Value.TheVariants.{Null as NullValue, Uninit as UninitValue}
use Rattle.fore_base.specs.declared.store.Value.TheVariants.{Dangling as DanglingValue, Cell}
use Rattle.fore_base.proofs.ListLemmas.{every_append, every_parts}
use Rattle.fa_core.specs.declared.faces.BoxFace.{BoxFace}
use Rattle.fa_core.specs.declared.forest.Target.{Target}
use Rattle.fa_core.specs.declared.forest.Target.TheVariants.{Null, Uninit, Dangling, At}
use Rattle.fa_core.specs.Dressed.{Node, Parts, End, Nodes, node, no_parts, field, link, hook, under, leaf, no_nodes}
use Rattle.fa_core.specs.Dressed.{more, end_value, value_in, nth_value, SeenField, SeenLink, SeenHook, refs, refs_of}
use Rattle.fa_core.specs.Dressed.{end_refs, leaf_refs, all_refs}
use Rattle.fa_core.specs.Placed.{placed_leaf, placed, placed_parts, placed_end, placed_all}
use Rattle.fa_core.specs.Rearranged.{Rearranged, chain}
use Rattle.fa_core.proofs.Placing.{number_placed}
use Rattle.fa_core.proofs.Rearranging.{same, after, exchange, flat_map-append, flat_mapped}
use Rattle.fa_unfold.specs.Opens.{Item, IsCell, HasSlot, tree_items, slot_items, end_items, forest_items}
use Rattle.fa_unfold.specs.Parts.{Part, FieldPart, LinkPart, HookPart, listed, part_item}
use Rattle.fa_unfold.specs.Slots.{joined, without}
use Rattle.fa_unfold.specs.inner.Trees.{unlisted, part_key, joined_parts, parts_without}
use Rattle.fa_unfold.proofs.Joins.{joined_same}
use Rattle.fa_unfold.proofs.Opening.{port_items}

pub comm : {X : Type 0} (xs ys : List X) → Rearranged (xs ++ ys) (ys ++ xs)
comm {X} xs ys = rw (sym (append-nil (ys ++ xs)), append_assoc ys xs [])
    (subst (λ (z : List X). Rearranged (xs ++ z) (ys ++ (xs ++ []))) (append-nil ys) (exchange xs ys []))

-- Lists and slots.

pub listed_again : (ps : Parts) → unlisted (listed ps) ≡ ps
listed_again no_parts = refl
listed_again (field f e ps) = ap (field f e) (listed_again ps)
listed_again (link b i e ps) = ap (link b i e) (listed_again ps)
listed_again (hook b i ps) = ap (hook b i) (listed_again ps)

pub unlisted_again : (xs : List Part) → listed (unlisted xs) ≡ xs
unlisted_again [] = refl
unlisted_again (FieldPart f e ∷ xs) = ap (λ (z : List Part). FieldPart f e ∷ z) (unlisted_again xs)
unlisted_again (LinkPart b i e ∷ xs) = ap (λ (z : List Part). LinkPart b i e ∷ z) (unlisted_again xs)
unlisted_again (HookPart b i ∷ xs) = ap (λ (z : List Part). HookPart b i ∷ z) (unlisted_again xs)

-- the items below a slot
abbrev pub part_below : List Value → Part → List Item
part_below vs (FieldPart f e) = end_items vs e
part_below vs (LinkPart b i e) = end_items vs e
part_below vs (HookPart b i) = []

-- the item of a slot, and those below it
abbrev pub part_items : List Value → ℕ → Part → List Item
part_items vs c x = part_item vs c x ∷ part_below vs x

pub list_items : (vs : List Value) (c : ℕ) (xs : List Part) → slot_items vs c (unlisted xs)
    ≡ flat_map (part_items vs c) xs
list_items vs c [] = refl
list_items vs c (FieldPart f e ∷ xs) =
    ap (λ (z : List Item). HasSlot c (SeenField f (end_value vs e)) ∷ (end_items vs e ++ z)) (list_items vs c xs)
list_items vs c (LinkPart b i e ∷ xs) =
    ap (λ (z : List Item). HasSlot c (SeenLink b i (end_value vs e)) ∷ (end_items vs e ++ z)) (list_items vs c xs)
list_items vs c (HookPart b i ∷ xs) = ap (λ (z : List Item). HasSlot c (SeenHook b i) ∷ z) (list_items vs c xs)

slots_list : (vs : List Value) (c : ℕ) (ps : Parts) → slot_items vs c ps ≡ flat_map (part_items vs c) (listed ps)
slots_list vs c ps =
    ap (slot_items vs c) (sym (listed_again ps)) ∙ list_items vs c (listed ps)

-- slots put in
pub joined_items : (bs : List BoxFace) (vs : List Value) (c : ℕ) (ps qs : Parts)
    → Rearranged (slot_items vs c (joined_parts bs ps qs)) (slot_items vs c qs ++ slot_items vs c ps)
joined_items bs vs c ps qs =
    let r = flat_mapped (part_items vs c) (joined_same (part_key bs) (listed ps) (listed qs)) in
    rw (list_items vs c (joined (part_key bs) (listed ps) (listed qs)), slots_list vs c qs, slots_list vs c ps)
    (subst (λ (z : List Item). Rearranged (flat_map (part_items vs c) (joined (part_key bs) (listed ps) (listed qs))) z)
    (flat_map-append (part_items vs c) (listed qs) (listed ps)) r)

-- a slot taken out
taken_list : (vs : List Value) (c p : ℕ) (xs : List Part) (x : Part) → slice_get xs p ≡ Some x
    → Rearranged (flat_map (part_items vs c) xs) (part_items vs c x ++ flat_map (part_items vs c) (without p xs))
taken_list vs c p [] x e = absurd (none-some x e)
taken_list vs c zero (y ∷ xs) x e =
    subst (λ (z : Part). Rearranged (part_items vs c y ++ flat_map (part_items vs c) xs)
    (part_items vs c z ++ flat_map (part_items vs c) xs)) (same_Some y x e) (same _)
taken_list vs c (suc p) (y ∷ xs) x e =
    chain (after (part_items vs c y) (taken_list vs c p xs x e))
    (exchange (part_items vs c y) (part_items vs c x) (flat_map (part_items vs c) (without p xs)))

pub taken_items : (vs : List Value) (c p : ℕ) (ps : Parts) (x : Part) → slice_get (listed ps) p ≡ Some x
    → Rearranged (slot_items vs c ps)
    (part_item vs c x ∷ (part_below vs x ++ slot_items vs c (parts_without p ps)))
taken_items vs c p ps x e =
    rw (slots_list vs c ps, list_items vs c (without p (listed ps))) (taken_list vs c p (listed ps) x e)

-- The references of the slots.

abbrev pub part_refs : Part → List ℕ
part_refs (FieldPart f e) = end_refs e
part_refs (LinkPart b i e) = end_refs e
part_refs (HookPart b i) = []

pub list_refs : (xs : List Part) → refs_of (unlisted xs) ≡ flat_map part_refs xs
list_refs [] = refl
list_refs (FieldPart f e ∷ xs) = ap (λ (z : List ℕ). end_refs e ++ z) (list_refs xs)
list_refs (LinkPart b i e ∷ xs) = ap (λ (z : List ℕ). end_refs e ++ z) (list_refs xs)
list_refs (HookPart b i ∷ xs) = list_refs xs

pub slots_refs : (ps : Parts) → refs_of ps ≡ flat_map part_refs (listed ps)
slots_refs ps = ap refs_of (sym (listed_again ps)) ∙ list_refs (listed ps)

module _ (P : ℕ → Type 0) where
  left_list : (p : ℕ) (xs : List Part) → Every P (flat_map part_refs xs) → Every P (flat_map part_refs (without p xs))
  left_list p [] h = tt
  left_list zero (x ∷ xs) h = (every_parts P (part_refs x) (flat_map part_refs xs) h).1
  left_list (suc p) (x ∷ xs) h =
      let k = every_parts P (part_refs x) (flat_map part_refs xs) h in
      every_append P (part_refs x) (flat_map part_refs (without p xs)) k.0 (left_list p xs k.1)

  pub refs_without : (p : ℕ) (ps : Parts) → Every P (refs_of ps) → Every P (refs_of (parts_without p ps))
  refs_without p ps h = rw (list_refs (without p (listed ps)))
      (left_list p (listed ps) (subst (Every P) (slots_refs ps) h))

  part_list : (p : ℕ) (xs : List Part) (x : Part) → slice_get xs p ≡ Some x → Every P (flat_map part_refs xs)
      → Every P (part_refs x)
  part_list p [] x e h = absurd (none-some x e)
  part_list zero (y ∷ xs) x e h =
      subst (λ (z : Part). Every P (part_refs z)) (same_Some y x e)
      (every_parts P (part_refs y) (flat_map part_refs xs) h).0
  part_list (suc p) (y ∷ xs) x e h = part_list p xs x e (every_parts P (part_refs y) (flat_map part_refs xs) h).1

  pub refs_part : (p : ℕ) (ps : Parts) (x : Part) → slice_get (listed ps) p ≡ Some x → Every P (refs_of ps)
      → Every P (part_refs x)
  refs_part p ps x e h = part_list p (listed ps) x e (subst (Every P) (slots_refs ps) h)

-- Leaves that are the same outside.

module _ (f : ℕ → Target) (vs ws : List Value) (ok : (k : ℕ) → value_in ws (f k) ≡ nth_value vs k) where
  leaf_items : (t : Target) → value_in ws (placed_leaf f t) ≡ value_in vs t
  leaf_items Null = refl
  leaf_items Uninit = refl
  leaf_items Dangling = refl
  leaf_items (At k) = ok k

  value_items : (e : End) → end_value ws (placed_end f e) ≡ end_value vs e
  value_items (under n) = ap Cell (number_placed f n)
  value_items (leaf t) = leaf_items t

  mutual
    pub node_placed : (n : Node) → tree_items ws (placed f n) ≡ tree_items vs n
    node_placed (node c s ds ps) = ap (λ (z : List Item). IsCell c s ds ∷ z) (parts_placed c ps)

    pub parts_placed : (c : ℕ) (ps : Parts) → slot_items ws c (placed_parts f ps) ≡ slot_items vs c ps
    parts_placed c no_parts = refl
    parts_placed c (field g e ps) = rw (value_items e, end_placed e, parts_placed c ps) refl
    parts_placed c (link b i e ps) = rw (value_items e, end_placed e, parts_placed c ps) refl
    parts_placed c (hook b i ps) = rw (parts_placed c ps) refl

    end_placed : (e : End) → end_items ws (placed_end f e) ≡ end_items vs e
    end_placed (under n) = node_placed n
    end_placed (leaf t) = refl

  pub all_placed : (ns : Nodes) → forest_items ws (placed_all f ns) ≡ forest_items vs ns
  all_placed no_nodes = refl
  all_placed (more n ns) = ap₂ (λ (x y : List Item). x ++ y) (node_placed n) (all_placed ns)

  pub port_placed : (v : Value) (ps : Parts) → port_items ws v (placed_parts f ps) ≡ port_items vs v ps
  port_placed (Cell m) ps = parts_placed m ps
  port_placed NullValue ps = refl
  port_placed UninitValue ps = refl
  port_placed DanglingValue ps = refl

-- Further roots change nothing.

module _ (vs ws : List Value) where
  abbrev pub Agrees : ℕ → Type 0
  Agrees k = nth_value ws k ≡ nth_value vs k

  pub leaf_wider : (t : Target) → Every Agrees (leaf_refs t) → value_in ws t ≡ value_in vs t
  leaf_wider Null h = refl
  leaf_wider Uninit h = refl
  leaf_wider Dangling h = refl
  leaf_wider (At k) h = h.0

  pub value_wider : (e : End) → Every Agrees (end_refs e) → end_value ws e ≡ end_value vs e
  value_wider (under n) h = refl
  value_wider (leaf t) h = leaf_wider t h

  mutual
    node_wider : (n : Node) → Every Agrees (refs n) → tree_items ws n ≡ tree_items vs n
    node_wider (node c s ds ps) h = ap (λ (z : List Item). IsCell c s ds ∷ z) (parts_wider c ps h)

    parts_wider : (c : ℕ) (ps : Parts) → Every Agrees (refs_of ps) → slot_items ws c ps ≡ slot_items vs c ps
    parts_wider c no_parts h = refl
    parts_wider c (field g e ps) h =
        let k = every_parts Agrees (end_refs e) (refs_of ps) h in
        rw (value_wider e k.0, end_wider e k.0, parts_wider c ps k.1) refl
    parts_wider c (link b i e ps) h =
        let k = every_parts Agrees (end_refs e) (refs_of ps) h in
        rw (value_wider e k.0, end_wider e k.0, parts_wider c ps k.1) refl
    parts_wider c (hook b i ps) h = rw (parts_wider c ps h) refl

    end_wider : (e : End) → Every Agrees (end_refs e) → end_items ws e ≡ end_items vs e
    end_wider (under n) h = node_wider n h
    end_wider (leaf t) h = refl

  pub all_wider : (d : Nodes) → Every Agrees (all_refs d) → forest_items ws d ≡ forest_items vs d
  all_wider no_nodes h = refl
  all_wider (more n ns) h =
      let k = every_parts Agrees (refs n) (all_refs ns) h in
      ap₂ (λ (x y : List Item). x ++ y) (node_wider n k.0) (all_wider ns k.1)
