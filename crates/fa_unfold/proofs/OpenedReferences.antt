-- Where a box edge is opened, the references are to roots that are there.
use Rattle.std.proofs.Common.{◌≡◌, inl, inr, ℕ, zero, suc, ◌<◌, ◌+◌, List, [], ◌∷◌, ◌++◌, flat_map, refl, sym, ap}
use Rattle.std.proofs.Common.{subst, arith}
use Rattle.fore_base.specs.Lists.{IsIn, Every}
use Rattle.fore_base.specs.declared.store.Datum.{Datum}
use Rattle.fore_base.proofs.ListLemmas.{every_append, every_parts, every_weaker, in_every}
use Rattle.ta_core.specs.declared.tree.Tree.{Tree}
use Rattle.fa_core.specs.declared.faces.BoxFace.{BoxFace}
use Rattle.fa_core.specs.declared.forest.Target.{Target}
use Rattle.fa_core.specs.declared.forest.Target.TheVariants.{Null, Uninit, Dangling, At}
use Rattle.fa_core.specs.Canonical.{RefersTo}
use Rattle.fa_core.specs.Choices.{bares, count}
use Rattle.fa_core.specs.Dressed.{Parts, Nodes, node, no_nodes, more}
use Rattle.fa_core.specs.Dressed.{refs, refs_of, all_refs, leaf_refs}
use Rattle.fa_core.specs.Filled.{IsRoot}
use Rattle.fa_core.specs.Member.{bare}
use Rattle.fa_core.specs.Placed.{placed_parts, placed_all}
use Rattle.fa_core.proofs.Placing.{refs_put, all_refs_placed, count_placed}
use Rattle.fa_core.proofs.Rearranging.{back, flat_mapped, flat_map-append, every_moved}
use Rattle.fa_core.proofs.WaysOf.{tree_roots}
use Rattle.fa_unfold.specs.Outside.{outside, outside_hook}
use Rattle.fa_unfold.specs.Parts.{Part, listed}
use Rattle.fa_unfold.specs.Slots.{joined}
use Rattle.fa_unfold.specs.inner.Trees.{part_key, joined_parts, parts_without, at_root, at_leaf, with_all}
use Rattle.fa_unfold.specs.inner.Trees.{link_opened, hook_opened}
use Rattle.fa_unfold.proofs.EdgeParts.{root_refs}
use Rattle.fa_unfold.proofs.Joins.{joined_same}
use Rattle.fa_unfold.proofs.OpenedTrees.{refs_at_root}
use Rattle.fa_unfold.proofs.PartItems.{part_refs, list_refs, slots_refs, refs_without}

count_on : (g : Parts → Parts) (i : ℕ) (d : Nodes) → count (at_root g i d) ≡ count d
count_on g i no_nodes = refl
count_on g zero (more (node c s ds ps) ns) = refl
count_on g (suc i) (more n ns) = ap suc (count_on g i ns)

count_leaf : (g : Parts → Parts) (y : Target) (d : Nodes) → count (at_leaf g y d) ≡ count d
count_leaf g Null d = refl
count_leaf g Uninit d = refl
count_leaf g Dangling d = refl
count_leaf g (At j) d = count_on g j d

count_with : (d ms : Nodes) → count (with_all d ms) ≡ count d + count ms
count_with no_nodes ms = omega arith
count_with (more n ns) ms = let e = count_with ns ms in omega (arith, e)

-- the inner roots are new
pub link_size : (bs : List BoxFace) (i p : ℕ) (y : Target) (ps qs : Parts) (ns d : Nodes)
    → count (link_opened bs i p y ps qs ns d) ≡ count d + count ns
link_size bs i p y ps qs ns d =
    let f = outside i y (count d) in
    let J : Parts → Parts = λ os. joined_parts bs os (placed_parts f ps) in
    let K : Parts → Parts = λ os. joined_parts bs os (placed_parts f qs) in
    let d1 : Nodes = at_root (parts_without p) i d in
    let a = count_with (at_leaf K y (at_root J i d1)) (placed_all f ns) in
    let b = count_leaf K y (at_root J i d1) in
    let c = count_on J i d1 in
    let e = count_on (parts_without p) i d in
    let g = count_placed f ns in
    omega (arith, a, b, c, e, g)

pub hook_size : (bs : List BoxFace) (i p : ℕ) (ps : Parts) (ns d : Nodes) → count (hook_opened bs i p ps ns d)
    ≡ count d + count ns
hook_size bs i p ps ns d =
    let f = outside_hook i (count d) in
    let J : Parts → Parts = λ os. joined_parts bs os (placed_parts f ps) in
    let d1 : Nodes = at_root (parts_without p) i d in
    let a = count_with (at_root J i d1) (placed_all f ns) in
    let c = count_on J i d1 in
    let e = count_on (parts_without p) i d in
    let g = count_placed f ns in
    omega (arith, a, c, e, g)

-- the references of an inside
pub inside_below : (ns : Nodes) (m : ℕ) → ((t : Tree) (k : ℕ) → IsIn t (bares ns) → RefersTo t k → k < m)
    → Every (λ k. k < m) (all_refs ns)
inside_below no_nodes m h = tt
inside_below (more n ns) m h =
    every_append (λ k. k < m) (refs n) (all_refs ns)
    (in_every (λ k. k < m) (refs n)
    (λ k i. h (bare n) k (inl refl) (subst (λ (z : List ℕ). IsIn k z) (sym (tree_roots n)) i)))
    (inside_below ns m (λ t k i. h t k (inr i)))

module _ (P : ℕ → Type 0) where
  refs_joined : (bs : List BoxFace) (os qs : Parts) → Every P (refs_of os) → Every P (refs_of qs)
      → Every P (refs_of (joined_parts bs os qs))
  refs_joined bs os qs h k =
      let xs : List Part = joined (part_key bs) (listed os) (listed qs) in
      subst (Every P) (sym (list_refs xs))
      (every_moved P (back (flat_mapped part_refs (joined_same (part_key bs) (listed os) (listed qs))))
      (subst (Every P) (sym (flat_map-append part_refs (listed qs) (listed os)))
      (every_append P (flat_map part_refs (listed qs)) (flat_map part_refs (listed os))
      (subst (Every P) (slots_refs qs) k) (subst (Every P) (slots_refs os) h))))

  refs_with : (d ms : Nodes) → Every P (all_refs d) → Every P (all_refs ms) → Every P (all_refs (with_all d ms))
  refs_with no_nodes ms h k = k
  refs_with (more n ns) ms h k =
      let w = every_parts P (refs n) (all_refs ns) h in
      every_append P (refs n) (all_refs (with_all ns ms)) w.0 (refs_with ns ms w.1 k)

  refs_leaf : (g : Parts → Parts) → ((ps : Parts) → Every P (refs_of ps) → Every P (refs_of (g ps))) → (y : Target)
      (d : Nodes) → Every P (all_refs d) → Every P (all_refs (at_leaf g y d))
  refs_leaf g w Null d h = h
  refs_leaf g w Uninit d h = h
  refs_leaf g w Dangling d h = h
  refs_leaf g w (At j) d h = refs_at_root P g w j d h

  put_refs : (f : ℕ → Target) (n : ℕ) (ks : List ℕ) → ((k : ℕ) → k < n → Every P (leaf_refs (f k)))
      → Every (λ k. k < n) ks → Every P (flat_map (refs_put f) ks)
  put_refs f n [] w h = tt
  put_refs f n (k ∷ ks) w h =
      every_append P (leaf_refs (f k)) (flat_map (refs_put f) ks) (w k h.0) (put_refs f n ks w h.1)

  -- the references of an inside, with other leaves
  placed_refs : (f : ℕ → Target) (ms : Nodes) → ((k : ℕ) → k < count ms → Every P (leaf_refs (f k)))
      → Every (λ k. k < count ms) (all_refs ms) → Every P (all_refs (placed_all f ms))
  placed_refs f ms w h = subst (Every P) (sym (all_refs_placed f ms)) (put_refs f (count ms) (all_refs ms) w h)

module _ (bs : List BoxFace) (i p : ℕ) (y : Target) (c0 s0 : ℕ) (ds0 : List Datum) (ps : Parts) (c1 s1 : ℕ)
    (ds1 : List Datum) (qs : Parts) (ns d : Nodes) (there : i < count d) (names : IsRoot (count d) y)
    (below : Every (λ k. k < count d) (all_refs d))
    (inside : Every (λ k. k < count (more (node c0 s0 ds0 ps) (more (node c1 s1 ds1 qs) ns)))
    (all_refs (more (node c0 s0 ds0 ps) (more (node c1 s1 ds1 qs) ns)))) where
  abbrev f : ℕ → Target
  f = outside i y (count d)

  abbrev J : Parts → Parts
  J os = joined_parts bs os (placed_parts f ps)

  abbrev K : Parts → Parts
  K os = joined_parts bs os (placed_parts f qs)

  abbrev d1 : Nodes
  d1 = at_root (parts_without p) i d

  abbrev d2 : Nodes
  d2 = at_root J i d1

  abbrev d3 : Nodes
  d3 = at_leaf K y d2

  abbrev P : ℕ → Type 0
  P k = k < count (with_all d3 (placed_all f ns))

  size : count (with_all d3 (placed_all f ns)) ≡ count d + count ns
  size = link_size bs i p y ps qs ns d

  outer : (k : ℕ) → k < suc (suc (count ns)) → Every P (leaf_refs (f k))
  outer zero l = ((let z = size in omega (arith, z, there)), tt)
  outer (suc zero) l =
      every_weaker (λ k. k < count d) P (leaf_refs y) (λ k j. let z = size in omega (arith, j, z))
      (root_refs (count d) y names)
  outer (suc (suc k)) l = ((let z = size in omega (arith, z, l)), tt)

  all : Every P (refs_of (placed_parts f ps) ++ (refs_of (placed_parts f qs) ++ all_refs (placed_all f ns)))
  all = placed_refs P f (more (node c0 s0 ds0 ps) (more (node c1 s1 ds1 qs) ns)) outer inside

  w : Every P (refs_of (placed_parts f ps)) × Every P (refs_of (placed_parts f qs) ++ all_refs (placed_all f ns))
  w = every_parts P (refs_of (placed_parts f ps)) (refs_of (placed_parts f qs) ++ all_refs (placed_all f ns)) all

  m : Every P (refs_of (placed_parts f qs)) × Every P (all_refs (placed_all f ns))
  m = every_parts P (refs_of (placed_parts f qs)) (all_refs (placed_all f ns)) w.1

  pub link_below : Every (λ k. k < count (link_opened bs i p y ps qs ns d)) (all_refs (link_opened bs i p y ps qs ns d))
  link_below =
      refs_with P d3 (placed_all f ns)
      (refs_leaf P K (λ os h. refs_joined P bs os (placed_parts f qs) h m.0) y d2
      (refs_at_root P J (λ os h. refs_joined P bs os (placed_parts f ps) h w.0) i d1
      (refs_at_root P (parts_without p) (refs_without P p) i d
      (every_weaker (λ k. k < count d) P (all_refs d) (λ k l. let z = size in omega (arith, l, z)) below)))) m.1

module _ (bs : List BoxFace) (i p c0 s0 : ℕ) (ds0 : List Datum) (ps : Parts) (ns d : Nodes) (there : i < count d)
    (below : Every (λ k. k < count d) (all_refs d))
    (inside : Every (λ k. k < count (more (node c0 s0 ds0 ps) ns)) (all_refs (more (node c0 s0 ds0 ps) ns))) where
  abbrev hook_leaf : ℕ → Target
  hook_leaf = outside_hook i (count d)

  abbrev hook_joined : Parts → Parts
  hook_joined os = joined_parts bs os (placed_parts hook_leaf ps)

  abbrev hook_less : Nodes
  hook_less = at_root (parts_without p) i d

  abbrev hook_more : Nodes
  hook_more = at_root hook_joined i hook_less

  abbrev IsHookRoot : ℕ → Type 0
  IsHookRoot k = k < count (with_all hook_more (placed_all hook_leaf ns))

  hook_long : count (with_all hook_more (placed_all hook_leaf ns)) ≡ count d + count ns
  hook_long = hook_size bs i p ps ns d

  hook_outer : (k : ℕ) → k < suc (count ns) → Every IsHookRoot (leaf_refs (hook_leaf k))
  hook_outer zero l = ((let z = hook_long in omega (arith, z, there)), tt)
  hook_outer (suc k) l = ((let z = hook_long in omega (arith, z, l)), tt)

  hook_refs : Every IsHookRoot (refs_of (placed_parts hook_leaf ps) ++ all_refs (placed_all hook_leaf ns))
  hook_refs = placed_refs IsHookRoot hook_leaf (more (node c0 s0 ds0 ps) ns) hook_outer inside

  hook_parts : Every IsHookRoot (refs_of (placed_parts hook_leaf ps))
      × Every IsHookRoot (all_refs (placed_all hook_leaf ns))
  hook_parts =
      every_parts IsHookRoot (refs_of (placed_parts hook_leaf ps)) (all_refs (placed_all hook_leaf ns)) hook_refs

  pub hook_below : Every (λ k. k < count (hook_opened bs i p ps ns d)) (all_refs (hook_opened bs i p ps ns d))
  hook_below =
      refs_with IsHookRoot hook_more (placed_all hook_leaf ns)
      (refs_at_root IsHookRoot hook_joined
      (λ os h. refs_joined IsHookRoot bs os (placed_parts hook_leaf ps) h hook_parts.0) i hook_less
      (refs_at_root IsHookRoot (parts_without p) (refs_without IsHookRoot p) i d
      (every_weaker (λ k. k < count d) IsHookRoot (all_refs d) (λ k l. let z = hook_long in
      omega (arith, l, z)) below)))
      hook_parts.1
