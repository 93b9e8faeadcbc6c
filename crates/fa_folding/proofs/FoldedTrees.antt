-- The dressed forest in which the part of another one is put inside a box edge: that edge opens into the part.
use Rattle.std.proofs.Common.{◌≡◌, ◌<◌, inl, ℕ, Bool, true, false, true≢false, cond, nat_eq, if◌then◌else◌, List}
use Rattle.std.proofs.Common.{[], ◌∷◌, ◌++◌, map, refl, sym, ap, subst, ◌∙◌, Option, Some, None}
use Rattle.std.proofs.Common.{append_assoc, arith, ◌||◌}
use Rattle.std.proofs.lemmas.Bool.{eqb-true, eq-eqb}
use Rattle.fore_base.specs.Lists.{IsIn, Every, IsDistinct}
use Rattle.fore_base.specs.declared.store.Value.{Value}
use Rattle.fore_base.proofs.ListLemmas.{every_weaker, in_every, in_right}
use Rattle.fa_core.specs.declared.boxes.BoxDef.{BoxDef}
use Rattle.fa_core.specs.declared.faces.BoxFace.{BoxFace}
use Rattle.fa_core.specs.declared.forest.Forest.{Forest}
use Rattle.fa_core.specs.declared.forest.Target.TheVariants.{At}
use Rattle.fa_core.specs.Choices.{bares, count}
use Rattle.fa_core.proofs.Dressing.{bares_length}
use Rattle.fa_core.specs.Dressed.{Node, Parts, Nodes, node, no_parts, field, link, hook, leaf, number, refs, refs_of}
use Rattle.fa_core.specs.Dressed.{nth_value, end_value, roots_of, inside_facts, SeenField, SeenLink, SeenHook}
use Rattle.fa_core.specs.Folding.{Ports, PortsAre, taken_at, number_without, IsPart}
use Rattle.fa_core.specs.Member.{OfForest}
use Rattle.fa_core.specs.Placed.{placed_parts}
use Rattle.fa_core.specs.Rearranged.{Rearranged, keep, chain}
use Rattle.fa_core.specs.Ways.{has}
use Rattle.fa_core.proofs.Rearranging.{same, back, after, exchange, middle}
use Rattle.fa_unfold.specs.Opens.{Item, IsCell, HasSlot, tree_items, slot_items, end_items, opened, Opens}
use Rattle.fa_unfold.specs.Opens.{inside_boxes, all_boxes}
use Rattle.fa_unfold.specs.inner.Trees.{joined_parts}
use Rattle.fa_unfold.proofs.PartItems.{joined_items}
use Rattle.fa_folding.specs.Folded.{taken_parts, left_parts, shape_of, datums_of, parts_of, node_or, each_node}
use Rattle.fa_folding.specs.Folded.{root_cell}
use Rattle.fa_folding.proofs.EdgeIs.{link_is, hook_is}
use Rattle.fa_folding.proofs.Folding.{inside, kept_roots, once_here, choice_of, part_folds}
use Rattle.fa_folding.proofs.Insides.{numbered_at}
use Rattle.fa_folding.proofs.Law.{Agrees, edge_at, port_cells, rest_items, taken_items, none_items, parts_agree}
use Rattle.fa_merge.specs.Reordered.{counted}
use Rattle.fa_folding.proofs.Lists.{ArePartsApart, both_in}
use Rattle.fa_folding.proofs.Numbers.{in_kept, new_number, counted_above}
use Rattle.fa_back.proofs.RootMarks.{has_in}
use Rattle.fa_folding.proofs.Reached.{left_refer, root_there}

-- Slots that are taken by two lists of fields without a common one.

both_or : (f : ℕ) (fs gs : List ℕ) → has f (fs ++ gs) ≡ (has f fs || has f gs)
both_or f [] gs = refl
both_or f (x ∷ fs) gs = here (nat_eq f x) (both_or f fs gs)
  where
    here : (c : Bool) → has f (fs ++ gs) ≡ (has f fs || has f gs)
        → (c || has f (fs ++ gs)) ≡ ((c || has f fs) || has f gs)
    here true q = refl
    here false q = q

module _ (vs : List Value) (c : ℕ) (fs gs : List ℕ) (apart : (f : ℕ) → has f fs ≡ true → has f gs ≡ true → ⊥) where
  abbrev all : Parts → List Item
  all ps = slot_items vs c (taken_parts (fs ++ gs) ps)

  abbrev first : Parts → List Item
  first ps = slot_items vs c (taken_parts fs ps)

  abbrev second : Parts → List Item
  second ps = slot_items vs c (taken_parts gs ps)

  taken_both : (ps : Parts) → Rearranged (all ps) (first ps ++ second ps)
  taken_both no_parts = same []
  taken_both (field f e ps) = here (has f fs) refl (has f gs) refl (taken_both ps)
    where
      x : List Item
      x = HasSlot c (SeenField f (end_value vs e)) ∷ end_items vs e

      here : (a : Bool) → has f fs ≡ a → (b : Bool) → has f gs ≡ b → Rearranged (all ps) (first ps ++ second ps)
          → Rearranged (all (field f e ps)) (first (field f e ps) ++ second (field f e ps))
      here true p true q r = absurd (apart f p q)
      here true p false q r =
          let z : has f (fs ++ gs) ≡ true = both_or f fs gs ∙ ap (λ (b : Bool). b || has f gs) p in
          rw (z, p, q) (subst (λ (l : List Item). Rearranged (x ++ all ps) l)
          (sym (append_assoc x (first ps) (second ps)))
          (after x r))
      here false p true q r =
          let z : has f (fs ++ gs) ≡ true = both_or f fs gs ∙ ap (λ (b : Bool). b || has f gs) p ∙ q in
          rw (z, p, q) (chain (after x r) (exchange x (first ps) (second ps)))
      here false p false q r =
          let z : has f (fs ++ gs) ≡ false = both_or f fs gs ∙ ap (λ (b : Bool). b || has f gs) p ∙ q in
          rw (z, p, q) r
  taken_both (link b k e ps) = taken_both ps
  taken_both (hook b k ps) = taken_both ps

distinct_apart : (fs gs : List ℕ) → IsDistinct (fs ++ gs) → (f : ℕ) → has f fs ≡ true → has f gs ≡ true → ⊥
distinct_apart [] gs d f p q = true≢false (sym p)
distinct_apart (x ∷ fs) gs d f p q = here (nat_eq f x) refl p (λ h. distinct_apart fs gs d.1 f h q)
  where
    here : (b : Bool) → nat_eq f x ≡ b → (b || has f fs) ≡ true → (has f fs ≡ true → ⊥) → ⊥
    here true e h rec = d.0 (in_right x fs gs (subst (λ (z : ℕ). IsIn z gs) (eqb-true f x e) (has_in f gs q)))
    here false e h rec = rec h

module _ (d : Nodes) where
  ports_apart : (ps : Ports) → ((r : ℕ) → IsDistinct (taken_at ps r))
      → ArePartsApart (taken_items (roots_of d) d) (none_items (roots_of d) d) ps
  ports_apart [] h = tt
  ports_apart (p ∷ ps) h = (
    taken_both (roots_of d) (number (node_or d p.0)) p.1 (taken_at ps p.0)
        (distinct_apart p.1 (taken_at ps p.0) (here (h p.0))) (parts_of (node_or d p.0)),
    ports_apart ps (λ r. later r (nat_eq p.0 r) (h r)),
  )
    where
      here : IsDistinct (if nat_eq p.0 p.0 then p.1 ++ taken_at ps p.0 else taken_at ps p.0)
          → IsDistinct (p.1 ++ taken_at ps p.0)
      here w = rw (eq-eqb p.0 p.0 refl) at w

      later : (r : ℕ) (b : Bool) → IsDistinct (cond b (p.1 ++ taken_at ps r) (taken_at ps r))
          → IsDistinct (taken_at ps r)
      later r true w = drop_first p.1 (taken_at ps r) w
        where
          drop_first : (xs ys : List ℕ) → IsDistinct (xs ++ ys) → IsDistinct ys
          drop_first [] ys k = k
          drop_first (x ∷ xs) ys k = drop_first xs ys k.1
      later r false w = w

-- The folded trees.

module _ (T : List BoxDef) (bs : List BoxFace) (F : Forest) (def : BoxDef) (i : ℕ) (out : Option ℕ) (g : BoxDef)
    (p : IsPart bs F def i out g) (d : Nodes) (of : OfForest T F d)
    (low : (r k : ℕ) → IsIn k (refs (node_or d r)) → k < count d) (n : ℕ) where
  abbrev pub new : ℕ → ℕ
  new = number_without p.inner

  abbrev pub within : Nodes
  within = inside T bs F def i out g p d of low

  abbrev pub kept_here : List ℕ
  kept_here = kept_roots T bs F def i out g p d of low

  -- the edge that is put at the input
  abbrev pub edge_parts : Option ℕ → Parts
  edge_parts None = hook n within no_parts
  edge_parts (Some j) = link n within (leaf (At (new j))) no_parts

  abbrev pub edge_item : Option ℕ → Item
  edge_item None = HasSlot (number (node_or d i)) (SeenHook n within)
  edge_item (Some j) = HasSlot (number (node_or d i)) (SeenLink n within (root_cell d j))

  abbrev pub gained_parts : ℕ → Parts
  gained_parts r = if nat_eq i r then edge_parts out else no_parts

  -- the tree of root r after the fold
  abbrev pub folded_parts : ℕ → Parts
  folded_parts r = joined_parts bs
      (placed_parts (numbered_at new) (left_parts (taken_at p.ports r) (parts_of (node_or d r)))) (gained_parts r)

  abbrev pub folded_node : ℕ → Node
  folded_node r = node (number (node_or d r)) (shape_of (node_or d r)) (datums_of (node_or d r)) (folded_parts r)

  -- the trees after the fold
  abbrev pub folded : Nodes
  folded = each_node folded_node kept_here

  pub folded_roots : roots_of folded ≡ map (root_cell d) kept_here
  folded_roots = these kept_here
    where
      these : (rs : List ℕ) → roots_of (each_node folded_node rs) ≡ map (root_cell d) rs
      these [] = refl
      these (r ∷ rs) = ap (λ (z : List Value). root_cell d r ∷ z) (these rs)

  -- a root that is kept has its new number
  pub moves : (k : ℕ) → k < count d → (IsIn k p.inner → ⊥) → nth_value (roots_of folded) (new k) ≡ root_cell d k
  moves k l f =
      ap (λ (z : List Value). nth_value z (new k)) folded_roots
      ∙ new_number (root_cell d) p.inner (once_here T bs F def i out g p d of low) (count d) k l f

  agrees_there : (k : ℕ) → k < count d → (IsIn k p.inner → ⊥)
      → Agrees (numbered_at new) (roots_of d) (roots_of folded) k
  agrees_there k l f = moves k l f ∙ sym (root_there d k l)

  left_low : (m : Node) (fs : List ℕ) (k : ℕ) → IsIn k (refs_of (left_parts fs (parts_of m))) → IsIn k (refs m)
  left_low (node c s ds ps) fs k i = these ps i
    where
      these : (ps : Parts) → IsIn k (refs_of (left_parts fs ps)) → IsIn k (refs_of ps)
      these no_parts i = i
      these (field h e ps) i = one (has h fs) (these ps) i
        where
          one : (b : Bool) → (IsIn k (refs_of (left_parts fs ps)) → IsIn k (refs_of ps))
              → IsIn k (refs_of (cond b (left_parts fs ps) (field h e (left_parts fs ps))))
              → IsIn k (refs_of (field h e ps))
          one true r i = in_right k _ (refs_of ps) (r i)
          one false r i = both_in k _ (refs_of (left_parts fs ps)) (refs_of ps) r i
      these (link b inside e ps) i = both_in k _ (refs_of (left_parts fs ps)) (refs_of ps) (these ps) i
      these (hook b inside ps) i = these ps i

  -- what is left at a kept root refers to kept roots
  pub left_alone : (r : ℕ) → IsIn r kept_here → Every (λ k. (k < count d) × (IsIn k p.inner → ⊥))
      (refs_of (left_parts (taken_at p.ports r) (parts_of (node_or d r))))
  left_alone r m =
      let w = p.reached (bares d) (choice_of T F.autos d of) in
      let o = in_kept p.inner (counted 0 (count d)) r m in
      let l : r < count d = (let q = (counted_above 0 (count d) r o.1).1 in omega (arith, q)) in
      in_every (λ k. (k < count d) × (IsIn k p.inner → ⊥)) _
      (λ k j. (
        low r k (left_low (node_or d r) (taken_at p.ports r) k j),
        (λ q. w.alone r k q o.0 (subst (λ (z : ℕ). r < z) (sym (bares_length d)) l)
            (subst (λ (z : List ℕ). IsIn k z) (sym (left_refer d p.ports r)) j)),
      ))

  left_agrees : (r : ℕ) → IsIn r kept_here → Every (Agrees (numbered_at new) (roots_of d) (roots_of folded))
      (refs_of (left_parts (taken_at p.ports r) (parts_of (node_or d r))))
  left_agrees r m = every_weaker (λ k. (k < count d) × (IsIn k p.inner → ⊥))
      (Agrees (numbered_at new) (roots_of d) (roots_of folded)) _ (λ k h. agrees_there k h.0 h.1) (left_alone r m)

  module _ (ends : (j : ℕ) → out ≡ Some j → (j < count d) × (IsIn j p.inner → ⊥)) where
    edge_there : (o : Option ℕ) → out ≡ o
        → slot_items (roots_of folded) (number (node_or d i)) (edge_parts o) ≡ edge_item o ∷ []
    edge_there None e = refl
    edge_there (Some j) e =
        let w = ends j e in
        ap (λ (v : Value). HasSlot (number (node_or d i)) (SeenLink n within v) ∷ []) (moves j w.0 w.1)

    gained_there : (r : ℕ) → slot_items (roots_of folded) (number (node_or d r)) (gained_parts r)
        ≡ edge_at (edge_item out) i r
    gained_there r = here (nat_eq i r) refl
      where
        here : (b : Bool) → nat_eq i r ≡ b
            → slot_items (roots_of folded) (number (node_or d r)) (cond b (edge_parts out) no_parts)
            ≡ cond b (edge_item out ∷ []) []
        here true e = subst (λ (z : ℕ). slot_items (roots_of folded) (number (node_or d z)) (edge_parts out)
            ≡ edge_item out ∷ []) (eqb-true i r e) (edge_there out refl)
        here false e = refl

    -- each tree has the slots that are left and, at the input, the edge
    tree_there : (r : ℕ) → IsIn r kept_here → Rearranged (tree_items (roots_of folded) (folded_node r))
        (edge_at (edge_item out) i r ++ rest_items (roots_of d) d r (taken_at p.ports r))
    tree_there r m =
        let c = number (node_or d r) in
        let h = IsCell c (shape_of (node_or d r)) (datums_of (node_or d r)) in
        let left = left_parts (taken_at p.ports r) (parts_of (node_or d r)) in
        let a = joined_items bs (roots_of folded) c (placed_parts (numbered_at new) left) (gained_parts r) in
        let b : Rearranged (h ∷ slot_items (roots_of folded) c (folded_parts r))
        (h ∷ (edge_at (edge_item out) i r ++ slot_items (roots_of d) c left)) =
        keep h (rw (
          sym (gained_there r),
          sym (parts_agree (numbered_at new) (roots_of d) (roots_of folded) c left
              (left_agrees r m)),
        ) a) in
        chain b (back (middle (edge_at (edge_item out) i r) h (slot_items (roots_of d) c left)))

    edge_opens : (o : Option ℕ) (ps : Ports) (ss : List ℕ) → PortsAre bs def i o ps ss
        → opened (edge_item o) ≡ inside_facts (port_cells d ps) within
    edge_opens None ps ss (a, ins, at, fields, ports, none, shapes) =
        subst (λ (qs : Ports). opened (edge_item None) ≡ inside_facts (port_cells d qs) within) (sym ports)
        (hook_is d n i ins within)
    edge_opens (Some j) ps ss (a, c, ins, outs, t, at, to, fields, fields_out, ports, some, shapes) =
        subst (λ (qs : Ports). opened (edge_item (Some j)) ≡ inside_facts (port_cells d qs) within) (sym ports)
        (link_is d n i ins within j outs)

    edge_boxes : (o : Option ℕ) → inside_boxes (edge_item o) ≡ all_boxes within
    edge_boxes None = refl
    edge_boxes (Some j) = refl

    input_first : (o : Option ℕ) (ps : Ports) (ss : List ℕ) → PortsAre bs def i o ps ss → IsIn i (map (λ q. q.0) ps)
    input_first None ps ss (a, ins, at, fields, ports, none, shapes) =
        subst (λ (qs : Ports). IsIn i (map (λ q. q.0) qs)) (sym ports) (inl refl)
    input_first (Some j) ps ss (a, c, ins, outs, t, at, to, fields, fields_out, ports, some, shapes) =
        subst (λ (qs : Ports). IsIn i (map (λ q. q.0) qs)) (sym ports) (inl refl)

    -- the edge opens into the part
    pub fold_opens : Opens (edge_item out) folded d
    fold_opens = part_folds T bs F def i out g p d of low (edge_item out) folded_node
        (input_first out p.ports p.shapes p.are_ports) (ports_apart d p.ports p.once)
        (edge_opens out p.ports p.shapes p.are_ports) (edge_boxes out) tree_there
