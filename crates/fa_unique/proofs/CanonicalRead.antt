-- What the definition of canonical forests says of a dressed forest without box edges that stands for a store.
use Rattle.std.proofs.Common.{◌≡◌, ◌⊎◌, inl, inr, ℕ, true≢false, List, [], ◌∷◌}
use Rattle.std.proofs.Common.{◌++◌}
use Rattle.std.proofs.Common.{refl, sym, ap, subst, ◌∙◌, Some, arith}
use Rattle.fore_base.specs.Lists.{IsIn, Every, IsDistinct}
use Rattle.fore_base.specs.declared.store.Datum.{Datum}
use Rattle.fore_base.specs.declared.store.Store.{Store}
use Rattle.fore_base.specs.declared.store.Value.{Value}
use Rattle.fore_base.specs.declared.store.Value.TheVariants.{Cell}
use Rattle.fore_base.proofs.ListLemmas.{every_in, in_from_place, same_item}
use Rattle.ta_core.specs.Auto.{Automaton}
use Rattle.ta_core.specs.declared.symbol.Symbol.TheVariants.{Ref, Cell as CellSymbol}
use Rattle.ta_core.specs.declared.tree.Tree.{Tree, out-Tree, out-roll-Tree}
use Rattle.fa_core.specs.declared.boxes.BoxDef.{BoxDef}
use Rattle.fa_core.specs.declared.faces.BoxFace.{BoxFace}
use Rattle.fa_core.specs.declared.faces.Face.{Face}
use Rattle.fa_core.specs.declared.forest.Forest.{Forest}
use Rattle.fa_core.specs.declared.forest.Target.TheVariants.{At}
use Rattle.fa_core.specs.Boxes.{head_of, heads}
use Rattle.fa_core.specs.Boxless.{HasNoBoxes}
use Rattle.fa_core.specs.Canonical.{IsCanonical, IsShared, IsRootKind, IsKnot, LeadsBack, RefersTo, references}
use Rattle.fa_core.specs.Canonical.{at_fields}
use Rattle.fa_core.specs.Canonical.{field_trees}
use Rattle.fa_core.specs.Choices.{bares, all_numbers}
use Rattle.fa_core.specs.Dressed.{Node, Parts, End, Nodes, node, no_parts, field, link, hook, under, leaf}
use Rattle.fa_core.specs.Dressed.{facts, end_value, nth_value, roots_of, number, refs, all_refs}
use Rattle.fa_core.specs.Filled.{Choice}
use Rattle.fa_core.specs.Member.{StandsBy, bare, bare_parts, bare_end, slots_of}
use Rattle.fa_core.specs.Rearranged.{often}
use Rattle.fa_core.specs.Ways.{ways}
use Rattle.fa_core.proofs.Counts.{often_out}
use Rattle.fa_core.proofs.Dressing.{cell_top, leaf_top, cell_is_no_leaf, choice_of, bares_length}
use Rattle.fa_core.proofs.NodeSpots.{one_leaf}
use Rattle.fa_core.proofs.Permuted.{distinct_moved, distinct_parts}
use Rattle.fa_core.proofs.PlainNodes.{NoEdgesIn, trees_no_edges}
use Rattle.fa_core.proofs.PlainWays.{IsPlainWay, run_plain}
use Rattle.fa_core.proofs.Rearranging.{flat_mapped, flat_map-append}
use Rattle.fa_core.proofs.RootCounts.{references_are}
use Rattle.fa_core.proofs.WaysOf.{tree_roots}
use Rattle.fa_back.specs.Reached.{node_at}
use Rattle.fa_back.specs.inner.Hops.{forest_own, forest_edges}
use Rattle.fa_back.proofs.Apart.{forest_apart, forest_numbers}
use Rattle.fa_back.proofs.Apart.{inner as inside_facts_of}
use Rattle.fa_back.proofs.FactParts.{number_of, node_root, var_target, target_var}
use Rattle.fa_back.proofs.InsideLaws.{node_there}
use Rattle.fa_back.proofs.MetHops.{tree_at, at_tree}
use Rattle.fa_back.proofs.StoreLaws.{differ}
use Rattle.fa_unique.proofs.CellsWithin.{HasField, parts_of}
use Rattle.fa_unique.proofs.Pointers.{pointed, all_inner, named_often}
use Rattle.fa_unique.proofs.RootCells.{roots_apart}
use Rattle.fa_unique.proofs.SameRoots.{IsMain, IsKnotCell, IsCanonicalDressed, root_top, top_outer}
use Rattle.fa_unique.proofs.TwiceNamed.{pointed_counts}

-- Fields of a tree.

field_ends : (c s : ℕ) (ds : List Datum) (ps : Parts) → field_trees (bare (node c s ds ps))
    ≡ at_fields (slots_of ps) (bare_parts ps)
field_ends c s ds ps = rw (out-roll-Tree (record {
  symbol = CellSymbol s ds
      (slots_of ps);
  children = bare_parts ps;
}))
    refl

in_slots : (u : Tree) (ps : Parts) → IsIn u (at_fields (slots_of ps) (bare_parts ps)) → (f : ℕ) × (e : End)
    × HasField f e ps × (u ≡ bare_end e)
in_slots u no_parts i = absurd i
in_slots u (field f e ps) (inl q) = (f, e, inl (refl, refl), q)
in_slots u (field f e ps) (inr i) = let k = in_slots u ps i in (k.0, k.1, inr k.2, k.3)
in_slots u (link b x e ps) i = in_slots u ps i
in_slots u (hook b x ps) i = in_slots u ps i

slots_in : (f : ℕ) (e : End) (ps : Parts) → HasField f e ps → IsIn (bare_end e)
    (at_fields (slots_of ps) (bare_parts ps))
slots_in f e no_parts h = absurd h
slots_in f e (field g x ps) (inl h) = inl (ap bare_end h.1)
slots_in f e (field g x ps) (inr h) = inr (slots_in f e ps h)
slots_in f e (link b i x ps) h = slots_in f e ps h
slots_in f e (hook b i ps) h = slots_in f e ps h

-- the trees in the fields of a tree's top are the ends of its fields
pub tree_fields : (x : Node) (u : Tree) → IsIn u (field_trees (bare x)) → (f : ℕ) × (e : End)
    × HasField f e (parts_of x) × (u ≡ bare_end e)
tree_fields (node c s ds ps) u i = in_slots u ps (subst (λ (z : List Tree). IsIn u z) (field_ends c s ds ps) i)

pub fields_tree : (x : Node) (f : ℕ) (e : End) → HasField f e (parts_of x)
    → IsIn (bare_end e) (field_trees (bare x))
fields_tree (node c s ds ps) f e h = subst (λ (z : List Tree). IsIn (bare_end e) z) (sym (field_ends c s ds ps))
    (slots_in f e ps h)

-- an end whose symbol is a reference is a leaf
pub cell_no_ref : (n : Node) (r : ℕ) → (out-Tree (bare n)).symbol ≡ Ref r → ⊥
cell_no_ref (node c s ds ps) r q = cell_is_no_leaf (At r) s ds (slots_of ps) (sym q ∙ cell_top c s ds ps)

ref_end : (e : End) (r : ℕ) → (out-Tree (bare_end e)).symbol ≡ Ref r → e ≡ leaf (At r)
ref_end (under n) r q = absurd (cell_no_ref n r q)
ref_end (leaf t) r q = ap leaf (one_leaf t (At r) (sym (leaf_top t) ∙ q))

-- a tree refers to the roots of its leaves
pub refers_refs : (x : Node) (r : ℕ) → RefersTo (bare x) r → IsIn r (refs x)
refers_refs x r h = subst (λ (z : List ℕ). IsIn r z) (tree_roots x) h

pub refs_refer : (x : Node) (r : ℕ) → IsIn r (refs x) → RefersTo (bare x) r
refs_refer x r h = subst (λ (z : List ℕ). IsIn r z) (sym (tree_roots x)) h

-- where no rule has a box edge, no way leads back or gives a field
pub ways_plain : (bs : List BoxFace) (autos : List Automaton) (ts : List Tree) → Every HasNoBoxes autos
    → Choice autos ts → Every (λ (t : Tree). Every (IsPlainWay bs) (ways t)) ts
ways_plain bs [] [] p c = tt
ways_plain bs [] (t ∷ ts) p c = absurd c
ways_plain bs (a ∷ autos) [] p c = absurd c
ways_plain bs (a ∷ autos) (t ∷ ts) p c = (run_plain bs a.rules p.0 c.0.2, ways_plain bs autos ts p.1 c.1)

pub no_way_back : (bs : List BoxFace) (ts : List Tree) → Every (λ (t : Tree). Every (IsPlainWay bs) (ways t)) ts
    → (i j r : ℕ) → LeadsBack bs ts i j r → ⊥
no_way_back bs ts p i j r l =
    let w = every_in (IsPlainWay bs) (ways l.0) l.2.0
    (every_in (λ (t : Tree). Every (IsPlainWay bs) (ways t)) ts l.0 p (in_from_place ts j l.0 l.1)) l.2.1 in
    elim l.2.3 [
      | inl k ↦ true≢false (sym k.1 ∙ w.1)
      | inr k ↦ subst (λ (z : List ℕ). IsIn r z) w.2 k
    ]

module _ (face : Face) (F : Forest) (can : IsCanonical face F) (plain : Every HasNoBoxes F.autos) (T : List BoxDef)
    (d : Nodes) (s : Store) (h : StandsBy face.shapes.structs T F d s) where
  edges : NoEdgesIn d
  edges = trees_no_edges T F.autos d plain h.of

  choice : Choice F.autos (bares d)
  choice = choice_of T F.autos d h.of

  -- the numbers of cells are those of heads, which differ
  pub all_differ : IsDistinct (all_numbers d)
  all_differ =
      let own = forest_own (roots_of d) d in
      let rest = inside_facts_of (forest_edges face.boxes (roots_of d) d) in
      let k = distinct_moved (flat_mapped head_of (forest_apart face.boxes (roots_of d) d))
      (differ face.shapes.structs T F d s h) in
      let both : IsDistinct (heads own ++ heads rest) =
      subst (λ (z : List ℕ). IsDistinct z) (flat_map-append head_of own rest) k in
      subst (λ (z : List ℕ). IsDistinct z) (forest_numbers face.boxes (roots_of d) d)
      (distinct_parts (heads own) (heads rest) both).0

  -- one root, one cell
  one_root : (r : ℕ) (x : Node) → node_at d r ≡ Some x → (k : ℕ) → nth_value (roots_of d) k ≡ Cell (number x) → k ≡ r
  one_root r x e k q =
      let y = root_top d k (number x) q in
      roots_apart d all_differ k r (node_there d k y.0 y.1) (node_there d r x e)
      (ap number_of (q ∙ sym (node_root d r x e)))

  -- as many pointers name the cell of a root as there are references to the root
  pointers_are : (r : ℕ) (x : Node) → node_at d r ≡ Some x → often (number x) (pointed (facts d))
      ≡ references (bares d) r
  pointers_are r x e =
      let a = pointed_counts d edges (number x) in
      let b = often_out (number x) (all_inner d) (top_outer d r x all_differ e) in
      let c = named_often (roots_of d) r (number x) (node_root d r x e) (one_root r x e) (all_refs d) in
      let g = references_are d r in
      omega (arith, a, b, c, g)

  main_shared : (r : ℕ) (x : Node) → node_at d r ≡ Some x → IsMain s.vars (facts d) (number x)
      → IsShared F.vars (bares d) r
  main_shared r x e (inl i) =
      let k = var_target (roots_of d) F.vars (number x) (subst
      (λ (z : List Value). IsIn (Cell (number x)) z) h.vars i) in
      inl (subst (λ (z : ℕ). IsIn (At z) F.vars) (one_root r x e k.0 k.2) k.1)
  main_shared r x e (inr l) = let k = pointers_are r x e in inr (omega (arith, k, l))

  shared_main : (r : ℕ) (x : Node) → node_at d r ≡ Some x → IsShared F.vars (bares d) r
      → IsMain s.vars (facts d) (number x)
  shared_main r x e (inl i) = inl (subst (λ (z : List Value). IsIn (Cell (number x)) z) (sym h.vars)
      (target_var (roots_of d) F.vars r (number x) i (node_root d r x e)))
  shared_main r x e (inr l) = let k = pointers_are r x e in inr (omega (arith, k, l))

  knot : (r : ℕ) (x : Node) → node_at d r ≡ Some x → IsKnot F.vars (bares d) r → IsKnotCell s.vars d x
  knot r x e k =
      let top = tree_at d k.from k.above k.is_above in
      let f = tree_fields top.0 k.leaf (subst (λ (t : Tree). IsIn k.leaf (field_trees t)) (sym top.2) k.in_field) in
      let q : f.1 ≡ leaf (At r) = ref_end f.1 r (ap (λ (t : Tree). (out-Tree t).symbol) (sym f.3) ∙ k.refers) in
      let own : k.own ≡ bare x = same_item (bares d) r k.own (bare x) k.is_own (at_tree d r x e) in
      record {
        from = k.from;
        top = top.0;
        at = top.1;
        main = shared_main k.from top.0 top.1 k.shared;
        field_no = f.0;
        end_there = f.1;
        has = f.2;
        ends = ap (λ (y : End). end_value (roots_of d) y) q ∙ node_root d r x e;
        ref = k.from;
        refers = refers_refs x k.from (subst (λ (t : Tree). RefersTo t k.from) own k.ties);
        ties = node_root d k.from top.0 top.1;
      }

  kind : (r : ℕ) (x : Node) → node_at d r ≡ Some x → IsRootKind face.boxes F.vars (bares d) r
      → IsMain s.vars (facts d) (number x) ⊎ IsKnotCell s.vars d x
  kind r x e (inl k) = inl (shared_main r x e k)
  kind r x e (inr (inl k)) = absurd
      (no_way_back face.boxes (bares d) (ways_plain face.boxes F.autos (bares d) plain choice) k.from r r k.led)
  kind r x e (inr (inr k)) = inr (knot r x e k)

  -- all but the order of the roots
  pub canonical_dressed : IsCanonicalDressed s.vars F.vars d
  canonical_dressed = record {
    plain = edges;
    distinct = all_differ;
    named = h.vars;
    kinds = λ r x e. kind r x e
        (can.kinds (bares d) choice r
        (let l = node_there d r x e in let n = bares_length d in omega (arith, l, n)));
    untied = λ r f k p y e m i j q. can.untied (bares d) choice r (bare p) (bare y) (main_shared r p e m)
        (at_tree d r p e)
        (fields_tree p f (under y) i) (cell_no_ref y r)
        (refs_refer y r (subst (λ (z : ℕ). IsIn z (refs y)) (one_root r p e k q) j));
  }
