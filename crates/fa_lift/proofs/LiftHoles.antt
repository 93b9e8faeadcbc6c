-- A cell at any place of a tree taken out as a last tree of its own.
use Rattle.std.proofs.Common.{◌≡◌, ℕ, zero, suc, ◌<◌, ◌+◌, true, nat_eq, List, [], ◌∷◌, ◌++◌, refl, sym, ap, ap₂, subst}
use Rattle.std.proofs.Common.{Some, append_assoc, append-nil, arith}
use Rattle.std.proofs.lemmas.Bool.{eq-eqb}
use Rattle.std.proofs.lemmas.Option.{none-some, same_Some}
use Rattle.fore_base.specs.declared.store.Datum.{Datum}
use Rattle.ta_core.specs.declared.symbol.Slot.{Slot}
use Rattle.ta_core.specs.declared.symbol.Slot.TheVariants.{Field, Link, Hook}
use Rattle.fa_core.specs.declared.boxes.BoxDef.{BoxDef}
use Rattle.fa_core.specs.declared.forest.Target.TheVariants.{At}
use Rattle.fa_core.specs.Choices.{count}
use Rattle.fa_core.specs.Dressed.{Node, Parts, End, Nodes, node, field, link, hook, under, leaf, no_nodes}
use Rattle.fa_core.specs.Dressed.{more, cells, refs, refs_of, end_refs, all_refs, number}
use Rattle.fa_core.specs.Member.{InsidesOf, InsidesOfParts, InsidesOfEnd, slots_of}
use Rattle.fa_core.specs.Rearranged.{Rearranged, often}
use Rattle.fa_core.specs.References.{AllBelow, IsOnce, IsNever}
use Rattle.fa_core.proofs.Counts.{often_same, often_both, once_often, often_below, never_below, never_left, never_right}
use Rattle.fa_core.proofs.Counts.{below_left, below_right, below_wider}
use Rattle.fa_core.proofs.Rearranging.{same, back, after, before, middle, exchange, every_moved}
use Rattle.fa_core.specs.Rearranged.{chain}
use Rattle.fa_back.specs.Reached.{node_at}
use Rattle.fa_merge.specs.inner.Grafting.{plug, plug_parts, plug_end, plug_all, with_last}
use Rattle.fa_merge.proofs.CutTrees.{plug_never_tree, plug_never_parts, plug_never_end}
use Rattle.fa_merge.proofs.GraftedCells.{graft_last}
use Rattle.fa_split.specs.Split.{set_node}
use Rattle.fa_split.proofs.Places.{set_count}

mutual
  -- k is w with the cell m, once, taken out, and the leaf Ref(u) in its place
  pub data CutNode (u : ℕ) (m : Node) : Node → Node → Type 0 where
    in_cell : (c s : ℕ) (ds : List Datum) {ps qs : Parts} → CutParts u m ps qs
        → CutNode u m (node c s ds ps) (node c s ds qs)

  pub data CutParts (u : ℕ) (m : Node) : Parts → Parts → Type 0 where
    at_field : (f : ℕ) (ps : Parts) {e x : End} → CutEnd u m e x → CutParts u m (field f e ps) (field f x ps)
    at_link : (b : ℕ) (i : Nodes) (ps : Parts) {e x : End} → CutEnd u m e x
        → CutParts u m (link b i e ps) (link b i x ps)
    on_field : (f : ℕ) (e : End) {ps qs : Parts} → CutParts u m ps qs → CutParts u m (field f e ps) (field f e qs)
    on_link : (b : ℕ) (i : Nodes) (e : End) {ps qs : Parts} → CutParts u m ps qs
        → CutParts u m (link b i e ps) (link b i e qs)
    on_hook : (b : ℕ) (i : Nodes) {ps qs : Parts} → CutParts u m ps qs → CutParts u m (hook b i ps) (hook b i qs)

  pub data CutEnd (u : ℕ) (m : Node) : End → End → Type 0 where
    cut_off : CutEnd u m (under m) (leaf (At u))
    cut_in : {w k : Node} → CutNode u m w k → CutEnd u m (under w) (under k)

flipped : (xs ys : List ℕ) → Rearranged (xs ++ ys) (ys ++ xs)
flipped xs ys = rw (
  sym (append-nil (ys ++ xs)),
  append_assoc ys xs [],
) (subst (λ (z : List ℕ).
    Rearranged (xs ++ z) (ys ++ (xs ++ []))) (append-nil ys) (exchange xs ys []))

later : (xs ys zs : List ℕ) → Rearranged ((xs ++ ys) ++ zs) ((xs ++ zs) ++ ys)
later xs ys zs = rw (append_assoc xs ys zs, append_assoc xs zs ys) (after xs (flipped ys zs))

module _ (u : ℕ) (m : Node) where
  front : (xs ys zs : List ℕ) → Rearranged (xs ++ refs m) (u ∷ ys) → Rearranged ((xs ++ zs) ++ refs m) (u ∷ (ys ++ zs))
  front xs ys zs h = chain (later xs zs (refs m)) (before zs h)

  behind : (xs ys zs : List ℕ) → Rearranged (xs ++ refs m) (u ∷ ys) → Rearranged ((zs ++ xs) ++ refs m) (u ∷ (zs ++ ys))
  behind xs ys zs h = rw (append_assoc zs xs (refs m)) (chain (after zs h) (middle zs u ys))

  mutual
    pub cut_refs : {w k : Node} → CutNode u m w k → Rearranged (refs k ++ refs m) (u ∷ refs w)
    cut_refs (in_cell c s ds h) = cut_refs_in h

    cut_refs_in : {ps qs : Parts} → CutParts u m ps qs → Rearranged (refs_of qs ++ refs m) (u ∷ refs_of ps)
    cut_refs_in (at_field f ps {e} {x} h) = front (end_refs x) (end_refs e) (refs_of ps) (cut_refs_at h)
    cut_refs_in (at_link b i ps {e} {x} h) = front (end_refs x) (end_refs e) (refs_of ps) (cut_refs_at h)
    cut_refs_in (on_field f e {ps} {qs} h) = behind (refs_of qs) (refs_of ps) (end_refs e) (cut_refs_in h)
    cut_refs_in (on_link b i e {ps} {qs} h) = behind (refs_of qs) (refs_of ps) (end_refs e) (cut_refs_in h)
    cut_refs_in (on_hook b i h) = cut_refs_in h

    cut_refs_at : {e x : End} → CutEnd u m e x → Rearranged (end_refs x ++ refs m) (u ∷ end_refs e)
    cut_refs_at cut_off = same (u ∷ refs m)
    cut_refs_at (cut_in h) = cut_refs h

  -- put back, the tree is as before
  mutual
    pub cut_plug : {w k : Node} → CutNode u m w k → IsNever u (refs w) → plug u m k ≡ w
    cut_plug (in_cell c s ds h) o = ap (node c s ds) (cut_plug_in h o)

    cut_plug_in : {ps qs : Parts} → CutParts u m ps qs → IsNever u (refs_of ps) → plug_parts u m qs ≡ ps
    cut_plug_in (at_field f ps {e} {x} h) o =
        ap₂ (field f) (cut_plug_at h (never_left u (end_refs e) (refs_of ps) o))
        (plug_never_parts u m ps (never_right u (end_refs e) (refs_of ps) o))
    cut_plug_in (at_link b i ps {e} {x} h) o =
        ap₂ (link b i) (cut_plug_at h (never_left u (end_refs e) (refs_of ps) o))
        (plug_never_parts u m ps (never_right u (end_refs e) (refs_of ps) o))
    cut_plug_in (on_field f e {ps} {qs} h) o =
        ap₂ (field f) (plug_never_end u m e (never_left u (end_refs e) (refs_of ps) o))
        (cut_plug_in h (never_right u (end_refs e) (refs_of ps) o))
    cut_plug_in (on_link b i e {ps} {qs} h) o =
        ap₂ (link b i) (plug_never_end u m e (never_left u (end_refs e) (refs_of ps) o))
        (cut_plug_in h (never_right u (end_refs e) (refs_of ps) o))
    cut_plug_in (on_hook b i h) o = ap (hook b i) (cut_plug_in h o)

    cut_plug_at : {e x : End} → CutEnd u m e x → IsNever u (end_refs e) → plug_end u m x ≡ e
    cut_plug_at cut_off o = let w : nat_eq u u ≡ true = eq-eqb u u refl in rw w refl
    cut_plug_at (cut_in h) o = ap under (cut_plug h o)

  pub cut_number : {w k : Node} → CutNode u m w k → number k ≡ number w
  cut_number (in_cell c s ds h) = refl

  pub cut_slots : {ps qs : Parts} → CutParts u m ps qs → slots_of qs ≡ slots_of ps
  cut_slots (at_field f ps h) = refl
  cut_slots (at_link b i ps h) = refl
  cut_slots (on_field f e h) = ap (λ (z : List Slot). Field f ∷ z) (cut_slots h)
  cut_slots (on_link b i e h) = ap (λ (z : List Slot). Link b ∷ z) (cut_slots h)
  cut_slots (on_hook b i h) = ap (λ (z : List Slot). Hook b ∷ z) (cut_slots h)

  module _ (T : List BoxDef) where
    -- the insides
    mutual
      pub cut_insides : {w k : Node} → CutNode u m w k → InsidesOf T w → InsidesOf T k × InsidesOf T m
      cut_insides (in_cell c s ds h) i = cut_insides_in h i

      cut_insides_in : {ps qs : Parts} → CutParts u m ps qs → InsidesOfParts T ps → InsidesOfParts T qs × InsidesOf T m
      cut_insides_in (at_field f ps h) i = let z = cut_insides_at h i.0 in ((z.0, i.1), z.1)
      cut_insides_in (at_link b n ps h) i = let z = cut_insides_at h i.1 in ((i.0, z.0, i.2), z.1)
      cut_insides_in (on_field f e h) i = let z = cut_insides_in h i.1 in ((i.0, z.0), z.1)
      cut_insides_in (on_link b n e h) i = let z = cut_insides_in h i.2 in ((i.0, i.1, z.0), z.1)
      cut_insides_in (on_hook b n h) i = let z = cut_insides_in h i.1 in ((i.0, z.0), z.1)

      cut_insides_at : {e x : End} → CutEnd u m e x → InsidesOfEnd T e → InsidesOfEnd T x × InsidesOf T m
      cut_insides_at cut_off i = (tt, i)
      cut_insides_at (cut_in h) i = cut_insides h i

    mutual
      pub uncut_insides : {w k : Node} → CutNode u m w k → InsidesOf T k → InsidesOf T m → InsidesOf T w
      uncut_insides (in_cell c s ds h) i j = uncut_insides_in h i j

      uncut_insides_in : {ps qs : Parts} → CutParts u m ps qs → InsidesOfParts T qs → InsidesOf T m
          → InsidesOfParts T ps
      uncut_insides_in (at_field f ps h) i j = (uncut_insides_at h i.0 j, i.1)
      uncut_insides_in (at_link b n ps h) i j = (i.0, uncut_insides_at h i.1 j, i.2)
      uncut_insides_in (on_field f e h) i j = (i.0, uncut_insides_in h i.1 j)
      uncut_insides_in (on_link b n e h) i j = (i.0, i.1, uncut_insides_in h i.2 j)
      uncut_insides_in (on_hook b n h) i j = (i.0, uncut_insides_in h i.1 j)

      uncut_insides_at : {e x : End} → CutEnd u m e x → InsidesOfEnd T x → InsidesOf T m → InsidesOfEnd T e
      uncut_insides_at cut_off i j = j
      uncut_insides_at (cut_in h) i j = uncut_insides h i j

module _ (u : ℕ) (m w k : Node) (cut : CutNode u m w k) where
  pub all_cut_refs : (r : ℕ) (d : Nodes) → node_at d r ≡ Some w
      → Rearranged (all_refs (set_node r k d) ++ refs m) (u ∷ all_refs d)
  all_cut_refs r no_nodes e = absurd (none-some w e)
  all_cut_refs zero (more n ns) e = rw (same_Some n w e) (front u m (refs k) (refs w) (all_refs ns) (cut_refs u m cut))
  all_cut_refs (suc r) (more n ns) e =
      behind u m (all_refs (set_node r k ns)) (all_refs ns) (refs n) (all_cut_refs r ns e)

  plug_never_all : (ns : Nodes) → IsNever u (all_refs ns) → plug_all u m ns ≡ ns
  plug_never_all no_nodes o = refl
  plug_never_all (more n ns) o =
      ap₂ more (plug_never_tree u m n (never_left u (refs n) (all_refs ns) o))
      (plug_never_all ns (never_right u (refs n) (all_refs ns) o))

  pub all_cut_plug : (r : ℕ) (d : Nodes) → node_at d r ≡ Some w → IsNever u (all_refs d)
      → plug_all u m (set_node r k d) ≡ d
  all_cut_plug r no_nodes e o = refl
  all_cut_plug zero (more n ns) e o =
      let p : n ≡ w = same_Some n w e in
      let o' : IsNever u (refs w ++ all_refs ns) = rw p at o in
      rw p (ap₂ more (cut_plug u m cut (never_left u (refs w) (all_refs ns) o'))
      (plug_never_all ns (never_right u (refs w) (all_refs ns) o')))
  all_cut_plug (suc r) (more n ns) e o =
      ap₂ more (plug_never_tree u m n (never_left u (refs n) (all_refs ns) o))
      (all_cut_plug r ns e (never_right u (refs n) (all_refs ns) o))

-- the cell refers to no other roots than the tree
module _ (u n : ℕ) (m : Node) where
  mutual
    pub below_node : {w k : Node} → CutNode u m w k → AllBelow n (refs w) → AllBelow n (refs m)
    below_node (in_cell c s ds h) b = below_parts h b

    below_parts : {ps qs : Parts} → CutParts u m ps qs → AllBelow n (refs_of ps) → AllBelow n (refs m)
    below_parts (at_field f ps {e} {x} h) b = below_end h (below_left n (end_refs e) (refs_of ps) b)
    below_parts (at_link c i ps {e} {x} h) b = below_end h (below_left n (end_refs e) (refs_of ps) b)
    below_parts (on_field f e {ps} {qs} h) b = below_parts h (below_right n (end_refs e) (refs_of ps) b)
    below_parts (on_link c i e {ps} {qs} h) b = below_parts h (below_right n (end_refs e) (refs_of ps) b)
    below_parts (on_hook c i h) b = below_parts h b

    below_end : {e x : End} → CutEnd u m e x → AllBelow n (end_refs e) → AllBelow n (refs m)
    below_end cut_off b = b
    below_end (cut_in h) b = below_node h b

-- the law: a cell taken out of tree r, at any place, as a last tree of its own leaves the cells as they are
module _ (m w k : Node) (r : ℕ) (d : Nodes) (cut : CutNode (count d) m w k) (at : node_at d r
    ≡ Some w) (below : AllBelow (count d) (all_refs d)) where
  abbrev u : ℕ
  u = count d

  abbrev ns : Nodes
  ns = set_node r k d

  cut_all : Rearranged (all_refs ns ++ refs m) (u ∷ all_refs d)
  cut_all = all_cut_refs u m w k cut r d at

  wide : AllBelow (suc u) (all_refs ns ++ refs m)
  wide = every_moved (λ q. q < suc u) (back cut_all) (
    omega arith,
    below_wider u (suc u) (omega arith) (all_refs d) below,
  )

  pub cell_below : AllBelow u (refs m)
  cell_below = of_forest r d at below
    where
      of_forest : (r : ℕ) (e : Nodes) → node_at e r ≡ Some w → AllBelow u (all_refs e) → AllBelow u (refs m)
      of_forest r no_nodes e h = absurd (none-some w e)
      of_forest zero (more n ns) e h = let z : AllBelow u (refs n) = below_left u (refs n) (all_refs ns) h
          in below_node u u m cut (rw (same_Some n w e) at z)
      of_forest (suc r) (more n ns) e h = of_forest r ns e (below_right u (refs n) (all_refs ns) h)

  cut_once : IsOnce u (all_refs ns)
  cut_once = once_often u (all_refs ns) (
      let a : often u (all_refs ns ++ refs m) ≡ often u (u ∷ all_refs d) = often_same u cut_all in
      let b = often_both u (all_refs ns) (refs m) in
      let e : often u (u ∷ all_refs d) ≡ often u (all_refs d) + 1 =
      (let w : nat_eq u u ≡ true = eq-eqb u u refl in rw w refl) in
      let f = often_below u (all_refs d) below in
      let g = often_below u (refs m) cell_below in
      omega (arith, a, b, e, f, g))

  pub cut_cells : Rearranged (cells d) (cells (with_last ns m))
  cut_cells =
      let n : count ns ≡ u = set_count r k d in
      let q : Rearranged (cells (with_last ns m)) (cells (plug_all u m ns)) =
      subst (λ (j : ℕ). IsOnce j (all_refs ns) → AllBelow (suc j) (all_refs ns) → AllBelow j (refs m)
      → Rearranged (cells (with_last ns m)) (cells (plug_all j m ns))) n (graft_last ns m) cut_once
      (below_left (suc u) (all_refs ns) (refs m) wide) cell_below in
      back (subst (λ (x : Nodes). Rearranged (cells (with_last ns m)) (cells x))
      (all_cut_plug u m w k cut r d at (never_below u (all_refs d) below)) q)
