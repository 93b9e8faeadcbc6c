-- Components after a fold: their trees are the folds of the trees before.
use Rattle.std.proofs.Common.{◌≡◌, ◌↔◌, ◌<◌, ℕ, Bool, true, false, cond, length, List, [], ◌∷◌, refl, sym}
use Rattle.std.proofs.Common.{ap, ap₂, subst, ◌∙◌, Option, Some, slice_get, arith}
use Rattle.fore_base.specs.Lists.{IsIn, Every}
use Rattle.fore_base.specs.declared.store.Datum.{Datum}
use Rattle.fore_base.proofs.ListLemmas.{every_parts}
use Rattle.ta_core.specs.Auto.{Automaton}
use Rattle.ta_core.specs.Language.{InLanguage}
use Rattle.ta_core.specs.declared.symbol.Slot.{Slot}
use Rattle.ta_core.specs.declared.symbol.Slot.TheVariants.{Field, Link, Hook}
use Rattle.ta_core.specs.declared.symbol.Symbol.TheVariants.{Cell as CellSymbol}
use Rattle.ta_core.specs.declared.tree.Tree.{Tree, out-Tree}
use Rattle.fa_core.specs.declared.boxes.BoxDef.{BoxDef}
use Rattle.fa_core.specs.declared.faces.BoxFace.{BoxFace}
use Rattle.fa_core.specs.declared.forest.Forest.{Forest}
use Rattle.fa_core.specs.declared.forest.Target.{Target}
use Rattle.fa_core.specs.declared.forest.Target.TheVariants.{Null, Uninit, Dangling, At}
use Rattle.fa_core.specs.Boxes.{Boxes, faces_of}
use Rattle.fa_core.specs.Choices.{count}
use Rattle.fa_core.specs.Dressed.{Node, Parts, End, Nodes, node, no_parts, field, link, hook, under, leaf, end_refs}
use Rattle.fa_core.specs.Dressed.{refs, refs_of}
use Rattle.fa_core.specs.Folding.{IsFoldedAuto, IsFoldedTree, IsPart, IsPartWithin, box_slot, cell_of, gained, left}
use Rattle.fa_core.specs.Folding.{moved_tree, number_without, taken_at, top_places}
use Rattle.fa_core.specs.Member.{OfForest, bare, slots_of}
use Rattle.fa_core.specs.Placed.{placed, placed_end, placed_parts}
use Rattle.fa_core.specs.Ways.{has}
use Rattle.fa_core.proofs.Dressing.{cell_top, dress_all}
use Rattle.fa_core.proofs.FilledKept.{choice_with}
use Rattle.fa_unfold.specs.Sites.{IsOver}
use Rattle.fa_unfold.specs.Slots.{joined}
use Rattle.fa_unfold.proofs.EndStructs.{insides_of}
use Rattle.fa_merge.specs.Reordered.{counted}
use Rattle.fa_folding.specs.Folded.{datums_of, left_parts, node_or, parts_of, shape_of}
use Rattle.fa_folding.proofs.FoldedForests.{one_fold, symbol_datums}
use Rattle.fa_folding.proofs.FoldedPlaces.{gained_places, grown_key, is_folded, joined_are, node_places}
use Rattle.fa_folding.proofs.FoldedSlots.{tree_is}
use Rattle.fa_folding.proofs.FoldedTables.{kept_there, low}
use Rattle.fa_folding.proofs.FoldedTrees.{folded_node, folded_parts, gained_parts, left_alone}
use Rattle.fa_folding.proofs.Folding.{as_many}
use Rattle.fa_folding.proofs.Insides.{moved_is, numbered_at}
use Rattle.fa_folding.proofs.Numbers.{in_counted, kept_in}
use Rattle.fa_folding.proofs.Places.{cell_is, left_places, part_places}
use Rattle.fa_folding.proofs.Moving.{moved_auto, moved_language}
use Rattle.fa_folding.proofs.FoldedOrder.{symbol_struct}

-- nothing is taken of no fields
left_all : (ps : List (Slot × List Tree)) → left [] ps ≡ ps
left_all [] = refl
left_all ((Field f, ts) ∷ ps) = ap (λ (z : List (Slot × List Tree)). (Field f, ts) ∷ z) (left_all ps)
left_all ((Link b, ts) ∷ ps) = ap (λ (z : List (Slot × List Tree)). (Link b, ts) ∷ z) (left_all ps)
left_all ((Hook b, ts) ∷ ps) = ap (λ (z : List (Slot × List Tree)). (Hook b, ts) ∷ z) (left_all ps)

-- Other numbers that agree.

module _ (h f : ℕ → ℕ) where
  abbrev Same : ℕ → Type 0
  Same k = h k ≡ f k

  leaf_same : (t : Target) → Every Same (end_refs (leaf t))
      → placed_end (numbered_at h) (leaf t) ≡ placed_end (numbered_at f) (leaf t)
  leaf_same Null w = refl
  leaf_same Uninit w = refl
  leaf_same Dangling w = refl
  leaf_same (At k) w = ap (λ (j : ℕ). leaf (At j)) w.0

  mutual
    node_same : (n : Node) → Every Same (refs n) → placed (numbered_at h) n ≡ placed (numbered_at f) n
    node_same (node c s ds ps) w = ap (λ (qs : Parts). node c s ds qs) (parts_same ps w)

    pub parts_same : (ps : Parts) → Every Same (refs_of ps)
        → placed_parts (numbered_at h) ps ≡ placed_parts (numbered_at f) ps
    parts_same no_parts w = refl
    parts_same (field g e ps) w =
        let k = every_parts Same (end_refs e) (refs_of ps) w in
        ap₂ (λ (x : End) (y : Parts). field g x y) (end_same e k.0) (parts_same ps k.1)
    parts_same (link b i e ps) w =
        let k = every_parts Same (end_refs e) (refs_of ps) w in
        ap₂ (λ (x : End) (y : Parts). link b i x y) (end_same e k.0) (parts_same ps k.1)
    parts_same (hook b i ps) w = ap (λ (y : Parts). hook b i y) (parts_same ps w)

    end_same : (e : End) → Every Same (end_refs e) → placed_end (numbered_at h) e ≡ placed_end (numbered_at f) e
    end_same (under n) w = ap (λ (x : Node). under x) (node_same n w)
    end_same (leaf t) w = leaf_same t w

left_placed : (fs : List ℕ) (f : ℕ → Target) (ps : Parts) → left_parts fs (placed_parts f ps)
    ≡ placed_parts f (left_parts fs ps)
left_placed fs f no_parts = refl
left_placed fs f (field g e ps) = here (has g fs) (left_placed fs f ps)
  where
    here : (b : Bool) → left_parts fs (placed_parts f ps) ≡ placed_parts f (left_parts fs ps)
        → cond b (left_parts fs (placed_parts f ps)) (field g (placed_end f e) (left_parts fs (placed_parts f ps)))
        ≡ placed_parts f (cond b (left_parts fs ps) (field g e (left_parts fs ps)))
    here true r = r
    here false r = ap (λ (z : Parts). field g (placed_end f e) z) r
left_placed fs f (link b i e ps) = ap (λ (z : Parts). link b i (placed_end f e) z) (left_placed fs f ps)
left_placed fs f (hook b i ps) = ap (λ (z : Parts). hook b i z) (left_placed fs f ps)

placed_own : (f : ℕ → Target) (m : Node) → parts_of (placed f m) ≡ placed_parts f (parts_of m)
placed_own f (node c s ds ps) = refl

placed_symbol_is : (f : ℕ → Target) (m : Node) → (ss : List Slot)
    × ((out-Tree (bare (placed f m))).symbol ≡ CellSymbol (shape_of m) (datums_of m) ss)
placed_symbol_is f (node c s ds ps) = (slots_of (placed_parts f ps), cell_top c s ds (placed_parts f ps))

placed_again : (f : ℕ → Target) (m : Node) → cell_of (shape_of m) (datums_of m) (part_places (parts_of (placed f m)))
    ≡ bare (placed f m)
placed_again f (node c s ds ps) = cell_is c s ds (placed_parts f ps)

module _ (t : Boxes) (F : Forest) (over : IsOver t F) (n i : ℕ) (def : BoxDef) (there : slice_get t.defs n ≡ Some def)
    (out : Option ℕ) (g : BoxDef) (p : IsPart (faces_of t.defs) F def i out g) (fit : IsPartWithin g def) (h : ℕ → ℕ)
    (same : (k : ℕ) → k < length F.autos → (IsIn k p.inner → ⊥) → h k ≡ number_without p.inner k) (r : ℕ)
    (a : Automaton) (at : slice_get F.autos r ≡ Some a) (low_r : r < length F.autos) (own : IsIn r p.inner → ⊥) where
  abbrev bs : List BoxFace
  bs = faces_of t.defs

  abbrev f : ℕ → ℕ
  f = number_without p.inner

  abbrev fs : List ℕ
  fs = taken_at p.ports r

  abbrev more : List (Slot × List Tree)
  more = gained (box_slot f n out) i r

  -- the tree, dressed among others
  record DressedHere (u : Tree) : Type 0 where
    d : Nodes
    of : OfForest t.defs F d
    is : u ≡ bare (node_or d r)

  dressed : (u : Tree) → InLanguage a u → DressedHere u
  dressed u k =
      let c = choice_with F.autos over.sound.full r a u at k in
      let filled = over.sound.well_formed.filled in
      let w = filled.trees c.0 c.1 in
      let z = dress_all t.defs 0 F.autos c.0 w.tops over.ranked (insides_of t F over F.autos filled.rules) c.1 w.are in
      record { d = z.nodes; of = z.of; is = tree_is z.nodes c.0 r u z.trees c.2 }

  module _ (d : Nodes) (of : OfForest t.defs F d) where
    abbrev m : Node
    m = node_or d r

    abbrev lo : (r k : ℕ) → IsIn k (refs (node_or d r)) → k < count d
    lo = low t F over n i def there out g p fit d of

    abbrev fold : Tree
    fold = bare (folded_node t.defs bs F def i out g p d of lo n r)

    kept : IsIn r (kept_there t F over n i def there out g p fit d of)
    kept =
        let e = as_many t.defs F.autos d of in
        kept_in p.inner (counted 0 (count d)) r own
        (in_counted 0 (count d) r (omega arith) (omega (arith, low_r, e)))

    abbrev moved : Tree
    moved = moved_tree h (bare m)

    moved_left : left fs (top_places moved) ≡ part_places (placed_parts (numbered_at f) (left_parts fs (parts_of m)))
    moved_left =
        let e = as_many t.defs F.autos d of in
        ap (λ (z : Tree). left fs (top_places z)) (moved_is h m)
        ∙ ap (left fs) (node_places (placed (numbered_at h) m)
        ∙ ap part_places (placed_own (numbered_at h) m))
        ∙ left_places fs (placed_parts (numbered_at h) (parts_of m))
        ∙ ap part_places (left_placed fs (numbered_at h) (parts_of m)
        ∙ parts_same h f (left_parts fs (parts_of m))
        (agree (refs_of (left_parts fs (parts_of m))) e (left_alone t.defs bs F def i out g p d of lo n r kept)))
      where
        agree : (ks : List ℕ) → count d ≡ length F.autos → Every (λ k. (k < count d) × (IsIn k p.inner → ⊥)) ks
            → Every (λ k. h k ≡ f k) ks
        agree [] e w = tt
        agree (k ∷ ks) e w = (same k (let l = w.0.0 in omega (arith, l, e)) w.0.1, agree ks e w.1)

    fold_is : fold ≡ cell_of (shape_of m) (datums_of m) (joined (grown_key bs) (left fs (top_places moved)) more)
    fold_is =
        sym (cell_is 0 (shape_of m) (datums_of m) (folded_parts t.defs bs F def i out g p d of lo n r))
        ∙ ap (cell_of (shape_of m) (datums_of m))
        (joined_are bs (placed_parts (numbered_at f) (left_parts fs (parts_of m)))
        (gained_parts t.defs bs F def i out g p d of lo n r)
        ∙ ap₂ (λ (x y : List (Slot × List Tree)). joined (grown_key bs) x y) (sym moved_left)
        (gained_places t F over n i def there out g p fit d of r))

    pub folded_here : IsFoldedTree bs f more fs (bare m) fold
    folded_here = is_folded t F over n i def there out g p fit d of r kept

    moved_symbol_is : (s : ℕ) (ds : List Datum) (ss : List Slot) → (out-Tree moved).symbol ≡ CellSymbol s ds ss
        → (shape_of m ≡ s) × (datums_of m ≡ ds)
    moved_symbol_is s ds ss e =
        let w = placed_symbol_is (numbered_at h) m in
        let q : CellSymbol (shape_of m) (datums_of m) w.0 ≡ CellSymbol s ds ss =
        sym w.1 ∙ ap (λ (z : Tree). (out-Tree z).symbol) (sym (moved_is h m)) ∙ e in
        (ap symbol_struct q, ap symbol_datums q)

    fold_of : (s : ℕ) (ds : List Datum) (ss : List Slot) → (out-Tree moved).symbol ≡ CellSymbol s ds ss
        → fold ≡ cell_of s ds (joined (grown_key bs) (left fs (top_places moved)) more)
    fold_of s ds ss e =
        let w = moved_symbol_is s ds ss e in
        fold_is ∙ ap₂ (λ (x : ℕ) (y : List Datum). cell_of x y
        (joined (grown_key bs) (left fs (top_places moved)) more)) w.0 w.1

    fold_plain : fs ≡ [] → more ≡ [] → fold ≡ moved
    fold_plain e q =
        fold_is
        ∙ ap (cell_of (shape_of m) (datums_of m))
        (ap₂ (λ (x : List ℕ) (y : List (Slot × List Tree)). joined (grown_key bs) (left x (top_places moved)) y) e q
        ∙ left_all (top_places moved) ∙ ap top_places (moved_is h m) ∙ node_places (placed (numbered_at h) m))
        ∙ placed_again (numbered_at h) m ∙ sym (moved_is h m)

  -- a component that gains slots
  module _ (c : Automaton) (s : ℕ) (ds : List Datum) (ss : List Slot)
      (tops : (v : Tree) → InLanguage (moved_auto h a) v → (out-Tree v).symbol ≡ CellSymbol s ds ss)
      (language : (u : Tree) → InLanguage c u ↔ ((v : Tree) × InLanguage (moved_auto h a) v
      × (u ≡ cell_of s ds (joined (grown_key bs) (left fs (top_places v)) more)))) where
    pub gained_folds : IsFoldedAuto bs f more fs a c
    gained_folds u = (into, from)
      where
        into : InLanguage c u → (v : Tree) × InLanguage a v × IsFoldedTree bs f more fs v u
        into k =
            let w = (language u).0 k in
            let v = (moved_language h a w.0).0 w.1 in
            let z = dressed v.0 v.1 in
            let e : w.0 ≡ moved_tree h (bare (node_or z.d r)) = v.2 ∙ ap (moved_tree h) z.is in
            let o = fold_of z.d z.of s ds ss (ap (λ (y : Tree). (out-Tree y).symbol) (sym e) ∙ tops w.0 w.1) in (
              bare (node_or z.d r),
              subst (InLanguage a) z.is v.1,
              subst (IsFoldedTree bs f more fs (bare (node_or z.d r)))
                  (o ∙ ap (λ (y : Tree). cell_of s ds (joined (grown_key bs) (left fs (top_places y)) more)) (sym e)
                  ∙ sym w.2)
                  (folded_here z.d z.of),
            )

        from : ((v : Tree) × InLanguage a v × IsFoldedTree bs f more fs v u) → InLanguage c u
        from k =
            let z = dressed k.0 k.1 in
            let v = moved_tree h (bare (node_or z.d r)) in
            let inside : InLanguage (moved_auto h a) v =
            (moved_language h a v).1 (bare (node_or z.d r), subst (InLanguage a) z.is k.1, refl) in
            let o = fold_of z.d z.of s ds ss (tops v inside) in
            let one = one_fold bs f more fs (bare (node_or z.d r)) u
            (bare (folded_node t.defs bs F def i out g p z.d z.of
            (low t F over n i def there out g p fit z.d z.of) n r))
            (subst (λ (y : Tree). IsFoldedTree bs f more fs y u) z.is k.2) (folded_here z.d z.of) in
            (language u).1 (v, inside, one ∙ o)

  -- a component that stays, but for the numbers of roots
  pub plain_folds : fs ≡ [] → more ≡ [] → IsFoldedAuto bs f more fs a (moved_auto h a)
  plain_folds e q u = (into, from)
    where
      into : InLanguage (moved_auto h a) u → (v : Tree) × InLanguage a v × IsFoldedTree bs f more fs v u
      into k =
          let v = (moved_language h a u).0 k in
          let z = dressed v.0 v.1 in (
            bare (node_or z.d r),
            subst (InLanguage a) z.is v.1,
            subst (IsFoldedTree bs f more fs (bare (node_or z.d r)))
                (fold_plain z.d z.of e q ∙ sym (v.2 ∙ ap (moved_tree h) z.is)) (folded_here z.d z.of),
          )

      from : ((v : Tree) × InLanguage a v × IsFoldedTree bs f more fs v u) → InLanguage (moved_auto h a) u
      from k =
          let z = dressed k.0 k.1 in
          let one = one_fold bs f more fs (bare (node_or z.d r)) u (bare (folded_node t.defs bs F def i out g p z.d z.of
          (low t F over n i def there out g p fit z.d z.of) n r))
          (subst (λ (y : Tree). IsFoldedTree bs f more fs y u) z.is k.2) (folded_here z.d z.of) in
          (moved_language h a u).1 (
            bare (node_or z.d r),
            subst (InLanguage a) z.is k.1,
            one ∙ fold_plain z.d z.of e q,
          )
