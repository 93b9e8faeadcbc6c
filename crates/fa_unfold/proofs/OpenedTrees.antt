-- A box edge of a root replaced by its inside: the facts stay, and so does every other item.
use Rattle.std.proofs.Common.{◌≡◌, ℕ, zero, suc, ◌<◌, ◌+◌, List, [], ◌∷◌, ◌++◌, refl, sym, ap, ap₂, subst, append_assoc}
use Rattle.std.proofs.Common.{append-nil, ◌∙◌, Some, slice_get, arith}
use Rattle.std.proofs.lemmas.Option.{none-some, same_Some}
use Rattle.fore_base.specs.Lists.{Every}
use Rattle.fore_base.specs.declared.store.Datum.{Datum}
use Rattle.fore_base.specs.declared.store.Value.{Value}
use Rattle.fore_base.specs.declared.store.Value.TheVariants.{Cell}
use Rattle.fore_base.proofs.ListLemmas.{every_append, every_parts, every_weaker}
use Rattle.fa_core.specs.declared.faces.BoxFace.{BoxFace}
use Rattle.fa_core.specs.declared.forest.Target.{Target}
use Rattle.fa_core.specs.declared.forest.Target.TheVariants.{Null, Uninit, Dangling, At}
use Rattle.fa_core.specs.Choices.{count}
use Rattle.fa_core.specs.Dressed.{Node, Parts, Nodes, node, leaf, no_nodes, more, with_ports, value_in, nth_value}
use Rattle.fa_core.specs.Dressed.{number, SeenLink, SeenHook, roots_of, refs, refs_of, all_refs}
use Rattle.fa_core.specs.Placed.{placed_parts, placed_all}
use Rattle.fa_core.specs.Rearranged.{Rearranged, empty, chain}
use Rattle.fa_core.proofs.Placing.{roots_placed}
use Rattle.fa_core.proofs.Rearranging.{same, after, before, exchange, flat_map-append}
use Rattle.fa_back.specs.Reached.{node_at}
use Rattle.fa_unfold.specs.Opens.{Item, IsCell, HasSlot, tree_items, slot_items, forest_items, opened, Opens}
use Rattle.fa_unfold.specs.Outside.{outside, outside_hook}
use Rattle.fa_unfold.specs.Parts.{LinkPart, HookPart, listed}
use Rattle.fa_unfold.specs.inner.Trees.{joined_parts, parts_without, at_root, at_leaf}
use Rattle.fa_unfold.specs.inner.Trees.{with_all, link_opened, hook_opened}
use Rattle.fa_unfold.proofs.Opening.{port_items, slots_opened, port_opened, trees_opened}
use Rattle.fa_unfold.proofs.PartItems.{comm, joined_items, taken_items, refs_without, refs_part, parts_placed}
use Rattle.fa_unfold.proofs.InsideBoxes.{hook_boxes, link_boxes}
use Rattle.fa_unfold.proofs.PartItems.{all_placed, port_placed, Agrees, leaf_wider, all_wider}

pub nth_more : (d : Nodes) (us : List Value) (k : ℕ) → k < count d → nth_value (roots_of d ++ us) k
    ≡ nth_value (roots_of d) k
nth_more no_nodes us k l = absurd (omega (arith, l))
nth_more (more n ns) us zero l = refl
nth_more (more n ns) us (suc k) l = nth_more ns us k (let z : suc k < suc (count ns) = l in omega (arith, z))

nth_behind : (d : Nodes) (us : List Value) (k : ℕ) → nth_value (roots_of d ++ us) (count d + k) ≡ nth_value us k
nth_behind no_nodes us k = let e : 0 + k ≡ k = omega arith in rw e refl
nth_behind (more n ns) us k =
    let e : suc (count ns) + k ≡ suc (count ns + k) = omega arith in rw e (nth_behind ns us k)

nth_tree : (i : ℕ) (d : Nodes) (us : List Value) (c s : ℕ) (ds : List Datum) (os : Parts)
    → node_at d i ≡ Some (node c s ds os) → nth_value (roots_of d ++ us) i ≡ Cell c
nth_tree i no_nodes us c s ds os e = absurd (none-some (node c s ds os) e)
nth_tree zero (more n ns) us c s ds os e = rw (same_Some n (node c s ds os) e) refl
nth_tree (suc i) (more n ns) us c s ds os e = nth_tree i ns us c s ds os e

-- Slots of a root changed.

pub roots_on : (g : Parts → Parts) (i : ℕ) (d : Nodes) → roots_of (at_root g i d) ≡ roots_of d
roots_on g i no_nodes = refl
roots_on g zero (more (node c s ds ps) ns) = refl
roots_on g (suc i) (more n ns) = ap (λ (z : List Value). Cell (number n) ∷ z) (roots_on g i ns)

pub roots_leaf : (g : Parts → Parts) (t : Target) (d : Nodes) → roots_of (at_leaf g t d) ≡ roots_of d
roots_leaf g Null d = refl
roots_leaf g Uninit d = refl
roots_leaf g Dangling d = refl
roots_leaf g (At j) d = roots_on g j d

pub roots_with : (d ms : Nodes) → roots_of (with_all d ms) ≡ roots_of d ++ roots_of ms
roots_with no_nodes ms = refl
roots_with (more n ns) ms = ap (λ (z : List Value). Cell (number n) ∷ z) (roots_with ns ms)

items_with : (ws : List Value) (d ms : Nodes) → forest_items ws (with_all d ms)
    ≡ forest_items ws d ++ forest_items ws ms
items_with ws no_nodes ms = refl
items_with ws (more n ns) ms =
    rw (items_with ws ns ms) (sym (append_assoc (tree_items ws n) (forest_items ws ns) (forest_items ws ms)))

pub refs_at_root : (P : ℕ → Type 0) (g : Parts → Parts)
    → ((ps : Parts) → Every P (refs_of ps) → Every P (refs_of (g ps)))
    → (i : ℕ) (d : Nodes) → Every P (all_refs d) → Every P (all_refs (at_root g i d))
refs_at_root P g w i no_nodes h = tt
refs_at_root P g w zero (more (node c s ds ps) ns) h =
    let k = every_parts P (refs_of ps) (all_refs ns) h in
    every_append P (refs_of (g ps)) (all_refs ns) (w ps k.0) k.1
refs_at_root P g w (suc i) (more n ns) h =
    let k = every_parts P (refs n) (all_refs ns) h in
    every_append P (refs n) (all_refs (at_root g i ns)) k.0 (refs_at_root P g w i ns k.1)

refs_at : (P : ℕ → Type 0) (i : ℕ) (d : Nodes) (c s : ℕ) (ds : List Datum) (os : Parts)
    → node_at d i ≡ Some (node c s ds os) → Every P (all_refs d) → Every P (refs_of os)
refs_at P i no_nodes c s ds os e h = absurd (none-some (node c s ds os) e)
refs_at P zero (more n ns) c s ds os e h =
    subst (λ (z : Node). Every P (refs z)) (same_Some n (node c s ds os) e) (every_parts P (refs n) (all_refs ns) h).0
refs_at P (suc i) (more n ns) c s ds os e h = refs_at P i ns c s ds os e (every_parts P (refs n) (all_refs ns) h).1

-- slots taken out of root i
items_less : (vs : List Value) (g : Parts → Parts) (xs : List Item) (i : ℕ) (d : Nodes) (c s : ℕ) (ds : List Datum)
    (os : Parts) → node_at d i ≡ Some (node c s ds os)
    → Rearranged (slot_items vs c os) (xs ++ slot_items vs c (g os))
    → Rearranged (forest_items vs d) (xs ++ forest_items vs (at_root g i d))
items_less vs g xs i no_nodes c s ds os e r = absurd (none-some (node c s ds os) e)
items_less vs g xs zero (more n ns) c s ds os e r =
    let h = IsCell c s ds ∷ [] in
    let R = forest_items vs ns in
    let a : Rearranged (h ++ (slot_items vs c os ++ R)) (h ++ ((xs ++ slot_items vs c (g os)) ++ R)) =
    after h (before R r) in
    let b : Rearranged (h ++ (slot_items vs c os ++ R)) (h ++ (xs ++ (slot_items vs c (g os) ++ R))) =
    rw (append_assoc xs (slot_items vs c (g os)) R) at a in
    rw (same_Some n (node c s ds os) e) (chain b (exchange h xs (slot_items vs c (g os) ++ R)))
items_less vs g xs (suc i) (more n ns) c s ds os e r =
    chain (after (tree_items vs n) (items_less vs g xs i ns c s ds os e r))
    (exchange (tree_items vs n) xs (forest_items vs (at_root g i ns)))

module _ (bs : List BoxFace) where
  -- slots added to the cell that root j is
  items_root : (ws : List Value) (qs : Parts) (j : ℕ) (d : Nodes)
      → Rearranged (forest_items ws (at_root (λ os. joined_parts bs os qs) j d))
      (port_items ws (nth_value (roots_of d) j) qs ++ forest_items ws d)
  items_root ws qs j no_nodes = empty
  items_root ws qs zero (more (node c s ds os) ns) =
      let h = IsCell c s ds ∷ [] in
      let R = forest_items ws ns in
      let o = joined_parts bs os qs in
      let a : Rearranged (h ++ (slot_items ws c o ++ R)) (h ++ ((slot_items ws c qs ++ slot_items ws c os) ++ R)) =
      after h (before R (joined_items bs ws c os qs)) in
      let b : Rearranged (h ++ (slot_items ws c o ++ R)) (h ++ (slot_items ws c qs ++ (slot_items ws c os ++ R))) =
      rw (append_assoc (slot_items ws c qs) (slot_items ws c os) R) at a in
      chain b (exchange h (slot_items ws c qs) (slot_items ws c os ++ R))
  items_root ws qs (suc j) (more n ns) =
      chain (after (tree_items ws n) (items_root ws qs j ns))
      (exchange (tree_items ws n) (port_items ws (nth_value (roots_of ns) j) qs) (forest_items ws ns))

  items_leaf : (ws : List Value) (qs : Parts) (t : Target) (d : Nodes)
      → Rearranged (forest_items ws (at_leaf (λ os. joined_parts bs os qs) t d))
      (port_items ws (value_in (roots_of d) t) qs ++ forest_items ws d)
  items_leaf ws qs Null d = same _
  items_leaf ws qs Uninit d = same _
  items_leaf ws qs Dangling d = same _
  items_leaf ws qs (At j) d = items_root ws qs j d

  rest_last : (Q P O N : List Item) → Rearranged ((Q ++ (P ++ O)) ++ N) ((P ++ (Q ++ N)) ++ O)
  rest_last Q P O N =
      rw (append_assoc Q (P ++ O) N, append_assoc P O N, append_assoc P (Q ++ N) O, append_assoc Q N O)
      (chain (exchange Q P (O ++ N)) (after P (after Q (comm O N))))

  rest_after : (P O N : List Item) → Rearranged ((P ++ O) ++ N) ((P ++ N) ++ O)
  rest_after P O N = rw (append_assoc P O N, append_assoc P N O) (after P (comm O N))

  module _ (d : Nodes) (i p c s : ℕ) (ds : List Datum) (os : Parts) (at : node_at d i ≡ Some (node c s ds os))
      (below : Every (λ k. k < count d) (all_refs d)) where
    abbrev vs : List Value
    vs = roots_of d

    abbrev d1 : Nodes
    d1 = at_root (parts_without p) i d

    agree : (us : List Value) → Every (Agrees vs (vs ++ us)) (all_refs d)
    agree us = every_weaker (λ k. k < count d) (Agrees vs (vs ++ us)) (all_refs d) (λ k l. nth_more d us k l) below

    -- what stays is as it was
    stays : (us : List Value) → forest_items (vs ++ us) d1 ≡ forest_items vs d1
    stays us = all_wider vs (vs ++ us) d1
        (refs_at_root (Agrees vs (vs ++ us)) (parts_without p) (refs_without (Agrees vs (vs ++ us)) p) i d (agree us))

    root_there : nth_value (roots_of d1) i ≡ Cell c
    root_there = rw (roots_on (parts_without p) i d)
        (subst (λ (z : List Value). nth_value z i ≡ Cell c) (append-nil vs) (nth_tree i d [] c s ds os at))

    module _ (b : ℕ) (t : Target) (c0 s0 : ℕ) (ds0 : List Datum) (ps : Parts) (c1 s1 : ℕ) (ds1 : List Datum)
        (qs : Parts) (ns : Nodes) where
      abbrev inside : Nodes
      inside = more (node c0 s0 ds0 ps) (more (node c1 s1 ds1 qs) ns)

      abbrev v : Value
      v = value_in vs t

      abbrev vin : List Value
      vin = with_ports (Cell c ∷ (v ∷ [])) inside

      abbrev ws : List Value
      ws = vs ++ roots_of ns

      abbrev f : ℕ → Target
      f = outside i t (count d)

      abbrev e : Nodes
      e = link_opened bs i p t ps qs ns d

      module _ (is : slice_get (listed os) p ≡ Some (LinkPart b inside (leaf t))) where
        -- the end is a root that is there
        end_there : value_in ws t ≡ v
        end_there = leaf_wider vs ws t
            (refs_part (Agrees vs ws) p os (LinkPart b inside (leaf t)) is
            (refs_at (Agrees vs ws) i d c s ds os at (agree (roots_of ns))))

        ok : (k : ℕ) → value_in ws (f k) ≡ nth_value vin k
        ok zero = nth_tree i d (roots_of ns) c s ds os at
        ok (suc zero) = end_there
        ok (suc (suc k)) = nth_behind d (roots_of ns) k

        abbrev d2 : Nodes
        d2 = at_root (λ x. joined_parts bs x (placed_parts f ps)) i d1

        abbrev d3 : Nodes
        d3 = at_leaf (λ x. joined_parts bs x (placed_parts f qs)) t d2

        roots2 : roots_of d2 ≡ vs
        roots2 = roots_on (λ x. joined_parts bs x (placed_parts f ps)) i d1 ∙ roots_on (parts_without p) i d

        pub link_roots : roots_of e ≡ ws
        link_roots = roots_with d3 (placed_all f ns)
            ∙ ap₂ (λ (x y : List Value). x ++ y) (roots_leaf (λ x. joined_parts bs x (placed_parts f qs)) t d2 ∙ roots2)
            (roots_placed f ns)

        input_items : port_items ws (nth_value (roots_of d1) i) (placed_parts f ps) ≡ slot_items vin c ps
        input_items = rw root_there (parts_placed f vin ws ok c ps)

        output_items : port_items ws (value_in (roots_of d2) t) (placed_parts f qs) ≡ port_items vin v qs
        output_items = rw roots2 (port_placed f vin ws ok v qs)

        after2 : Rearranged (forest_items ws d2) (slot_items vin c ps ++ forest_items vs d1)
        after2 =
            subst (λ (z : List Item). Rearranged (forest_items ws d2) (slot_items vin c ps ++ z))
            (stays (roots_of ns))
            (subst (λ (z : List Item). Rearranged (forest_items ws d2) (z ++ forest_items ws d1)) input_items
            (items_root ws (placed_parts f ps) i d1))

        after3 : Rearranged (forest_items ws d3)
            (port_items vin v qs ++ (slot_items vin c ps ++ forest_items vs d1))
        after3 =
            chain
            (subst (λ (z : List Item). Rearranged (forest_items ws d3) (z ++ forest_items ws d2)) output_items
            (items_leaf ws (placed_parts f qs) t d2)) (after (port_items vin v qs) after2)

        after_items : Rearranged (forest_items ws e)
            ((slot_items vin c ps ++ (port_items vin v qs ++ forest_items vin ns)) ++ forest_items vs d1)
        after_items =
            rw (items_with ws d3 (placed_all f ns), all_placed f vin ws ok ns)
            (chain (before (forest_items vin ns) after3)
            (rest_last (port_items vin v qs) (slot_items vin c ps) (forest_items vs d1) (forest_items vin ns)))

        pub opens_link : Opens (HasSlot c (SeenLink b inside v)) d e
        opens_link = record {
          others = forest_items vs d1;
          gained = slot_items vin c ps ++ (port_items vin v qs ++ forest_items vin ns);
          before = items_less vs (parts_without p) (HasSlot c (SeenLink b inside v) ∷ []) i d c s ds os at
              (taken_items vs c p os (LinkPart b inside (leaf t)) is);
          after = rw link_roots after_items;
          same = rw (
            flat_map-append opened (slot_items vin c ps) (port_items vin v qs ++ forest_items vin ns),
            flat_map-append opened (port_items vin v qs) (forest_items vin ns),
            sym (slots_opened vin c ps),
            sym (port_opened vin v c1 s1 ds1 qs),
            sym (trees_opened vin ns),
          ) refl;
          inner = link_boxes vin vin vin c v ps qs ns c0 s0 ds0 c1 s1 ds1;
        }

        -- what it gains
        pub link_gains : opens_link.gained ≡ slot_items vin c ps ++ (port_items vin v qs ++ forest_items vin ns)
        unfolding opens_link
        link_gains = refl

    module _ (b c0 s0 : ℕ) (ds0 : List Datum) (ps : Parts) (ns : Nodes) where
      abbrev hooked : Nodes
      hooked = more (node c0 s0 ds0 ps) ns

      abbrev hin : List Value
      hin = with_ports (Cell c ∷ []) hooked

      abbrev hws : List Value
      hws = vs ++ roots_of ns

      abbrev g : ℕ → Target
      g = outside_hook i (count d)

      hook_ok : (k : ℕ) → value_in hws (g k) ≡ nth_value hin k
      hook_ok zero = nth_tree i d (roots_of ns) c s ds os at
      hook_ok (suc k) = nth_behind d (roots_of ns) k

      abbrev h : Nodes
      h = hook_opened bs i p ps ns d

      abbrev h2 : Nodes
      h2 = at_root (λ x. joined_parts bs x (placed_parts g ps)) i d1

      pub hook_roots : roots_of h ≡ hws
      hook_roots = roots_with h2 (placed_all g ns)
          ∙ ap₂ (λ (x y : List Value). x ++ y)
          (roots_on (λ x. joined_parts bs x (placed_parts g ps)) i d1 ∙ roots_on (parts_without p) i d)
          (roots_placed g ns)

      hook_input : port_items hws (nth_value (roots_of d1) i) (placed_parts g ps) ≡ slot_items hin c ps
      hook_input = rw root_there (parts_placed g hin hws hook_ok c ps)

      hook_after : Rearranged (forest_items hws h)
          ((slot_items hin c ps ++ forest_items hin ns) ++ forest_items vs d1)
      hook_after =
          let a : Rearranged (forest_items hws h2) (slot_items hin c ps ++ forest_items vs d1) =
          subst (λ (z : List Item). Rearranged (forest_items hws h2) (slot_items hin c ps ++ z)) (stays (roots_of ns))
          (subst (λ (z : List Item). Rearranged (forest_items hws h2) (z ++ forest_items hws d1)) hook_input
          (items_root hws (placed_parts g ps) i d1)) in
          rw (items_with hws h2 (placed_all g ns), all_placed g hin hws hook_ok ns)
          (chain (before (forest_items hin ns) a)
          (rest_after (slot_items hin c ps) (forest_items vs d1) (forest_items hin ns)))

      pub opens_hook : slice_get (listed os) p ≡ Some (HookPart b hooked) → Opens (HasSlot c (SeenHook b hooked)) d h
      opens_hook is = record {
        others = forest_items vs d1;
        gained = slot_items hin c ps ++ forest_items hin ns;
        before = items_less vs (parts_without p) (HasSlot c (SeenHook b hooked) ∷ []) i d c s ds os at
            (taken_items vs c p os (HookPart b hooked) is);
        after = rw hook_roots hook_after;
        same = rw (
          flat_map-append opened (slot_items hin c ps) (forest_items hin ns),
          sym (slots_opened hin c ps),
          sym (trees_opened hin ns),
        ) refl;
        inner = hook_boxes hin hin c ps ns c0 s0 ds0;
      }

      pub hook_gains : (is : slice_get (listed os) p ≡ Some (HookPart b hooked)) → (opens_hook is).gained
          ≡ slot_items hin c ps ++ forest_items hin ns
      unfolding opens_hook
      hook_gains is = refl
