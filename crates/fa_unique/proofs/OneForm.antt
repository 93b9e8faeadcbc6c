-- The law: two canonical forests without box edges that have a member in common have for it one dressed forest.
use Rattle.std.proofs.Common.{◌≡◌, ℕ, List, ◌∷◌, map, flat_map, refl, sym, ap, ap₂, subst, ◌∙◌}
use Rattle.fore_base.specs.Heap.{IsAlike}
use Rattle.fore_base.specs.Lists.{Every}
use Rattle.fore_base.specs.Shapes.{targets_of}
use Rattle.fore_base.specs.declared.store.Store.{Store}
use Rattle.ta_core.specs.declared.symbol.Slot.{Slot}
use Rattle.ta_core.specs.declared.symbol.Slot.TheVariants.{Field, Link, Hook}
use Rattle.ta_core.specs.declared.symbol.Symbol.TheVariants.{Cell as CellSymbol}
use Rattle.ta_core.specs.declared.tree.Tree.{Tree, roll-Tree}
use Rattle.fa_core.specs.declared.boxes.BoxDef.{BoxDef}
use Rattle.fa_core.specs.declared.faces.Face.{Face}
use Rattle.fa_core.specs.declared.forest.Forest.{Forest}
use Rattle.fa_core.specs.Canonical.{Walks, GoesOn, refs_at, var_roots}
use Rattle.fa_core.specs.Choices.{bares, count}
use Rattle.fa_core.specs.Dressed.{Node, Parts, End, Nodes, node, no_parts, field, link, hook, under, leaf, no_nodes}
use Rattle.fa_core.specs.Dressed.{more}
use Rattle.fa_core.specs.Dressed.{facts}
use Rattle.fa_core.specs.Filled.{Choice, ChoiceFilled, IsRoot, fields_of}
use Rattle.fa_core.specs.Member.{StandsBy, bare, bare_parts, bare_end, slots_of}
use Rattle.fa_core.specs.Rearranged.{Rearranged, chain}
use Rattle.fa_core.specs.Ways.{once, ways}
use Rattle.fa_core.proofs.Dressing.{choice_of, bares_length, numbered_distinct}
use Rattle.fa_core.proofs.PlainNodes.{trees_no_edges}
use Rattle.fa_core.proofs.PlainWays.{IsPlainWay}
use Rattle.fa_core.proofs.Rearranging.{back}
use Rattle.fa_core.proofs.Renamed.{rename, rename_parts, rename_end, rename_all, stands_alike}
use Rattle.fa_unique.specs.Presented.{IsPlainCanonical, PresentAlike}
use Rattle.fa_unique.proofs.AlikeTrees.{IsWhole}
use Rattle.fa_unique.proofs.CanonicalRead.{all_differ, canonical_dressed, ways_plain, no_way_back}
use Rattle.fa_unique.proofs.RootCells.{leaf_of, root_cell}
use Rattle.fa_unique.proofs.Pointers.{cell_of}
use Rattle.fa_unique.proofs.SameForests.{refs_in, unique}
use Rattle.fa_unique.proofs.SameOrder.{Never}
use Rattle.fa_unique.proofs.WholeRead.{whole, refs_once, same_walks, var_cells, vars_back}

-- What one forest says of one of its dressed forests.

module _ (face : Face) (F : Forest) (p : IsPlainCanonical face F) (T : List BoxDef) (d : Nodes) (s : Store)
    (h : StandsBy face.shapes.structs T F d s) where
  choice : Choice F.autos (bares d)
  choice = choice_of T F.autos d h.of

  filled : ChoiceFilled face F (bares d)
  filled = p.canonical.well_formed.filled.trees (bares d) choice

  plain_ways : Every (λ (t : Tree). Every (IsPlainWay face.boxes) (ways t)) (bares d)
  plain_ways = ways_plain face.boxes F.autos (bares d) p.plain choice

  whole_here : IsWhole (fields_of face.shapes.structs) d
  whole_here = whole face filled.tops d (trees_no_edges T F.autos d p.plain h.of) filled.are plain_ways filled.cells

  roots_there : Every (IsRoot (count d)) F.vars
  roots_there = subst (λ (n : ℕ). Every (IsRoot n) F.vars) (bares_length d) filled.vars

  walk : Walks (λ k. once (refs_in d k)) Never (var_roots F.vars) 0 (count d)
  walk =
      let w = same_walks (refs_at (bares d)) (λ k. once (refs_in d k)) (GoesOn face.boxes (bares d)) (refs_once d)
      (λ k g. no_way_back face.boxes (bares d) plain_ways g.from g.into g.open_way.0 g.open_way.3)
      (p.canonical.order (bares d) choice) in
      subst (λ (n : ℕ). Walks (λ k. once (refs_in d k)) Never (var_roots F.vars) 0 n) (bares_length d) w

  starts : map (root_cell d) (var_roots F.vars) ≡ flat_map cell_of s.vars
  starts = var_cells d F.vars roots_there ∙ ap (flat_map cell_of) (sym h.vars)

  targets : map (leaf_of d) s.vars ≡ F.vars
  targets = ap (map (leaf_of d)) h.vars
      ∙ vars_back d (all_differ face F p.canonical p.plain T d s h) F.vars roots_there

-- the same store
pub one_form : (face : Face) (F G : Forest) (T U : List BoxDef) (d e : Nodes) (s : Store) → IsPlainCanonical face F
    → IsPlainCanonical face G → StandsBy face.shapes.structs T F d s → StandsBy face.shapes.structs U G e s
    → (d ≡ e) × (F.vars ≡ G.vars) × (F.data_vars ≡ G.data_vars)
one_form face F G T U d e s p q h g =
    let r : Rearranged (facts d) (facts e) = chain h.same_facts (back g.same_facts) in
    let one : d ≡ e = unique s.vars F.vars G.vars d e (canonical_dressed face F p.canonical p.plain T d s h)
    (canonical_dressed face G q.canonical q.plain U e s g) r (fields_of face.shapes.structs)
    (λ k. numbered_distinct 0 (targets_of face.shapes.structs k)) (whole_here face F p T d s h)
    (whole_here face G q U e s g) (var_roots F.vars) (var_roots G.vars) (walk face F p T d s h)
    (walk face G q U e s g) (starts face F p T d s h ∙ sym (starts face G q U e s g)) in (
      one,
      sym (targets face F p T d s h)
          ∙ (ap (λ (x : Nodes). map (leaf_of x) s.vars) one ∙ targets face G q U e s g),
      sym h.data_vars ∙ g.data_vars,
    )

-- Numbers are no part of what is compared.

module _ (f : ℕ → ℕ) where
  slots_stay : (ps : Parts) → slots_of (rename_parts f ps) ≡ slots_of ps
  slots_stay no_parts = refl
  slots_stay (field g e ps) = ap (λ (z : List Slot). Field g ∷ z) (slots_stay ps)
  slots_stay (link b i e ps) = ap (λ (z : List Slot). Link b ∷ z) (slots_stay ps)
  slots_stay (hook b i ps) = ap (λ (z : List Slot). Hook b ∷ z) (slots_stay ps)

  mutual
    tree_stays : (n : Node) → bare (rename f n) ≡ bare n
    tree_stays (node c s ds ps) =
        ap₂ (λ (xs : List Slot) (ts : List Tree). roll-Tree (record { symbol = CellSymbol s ds xs; children = ts }))
        (slots_stay ps) (parts_stay ps)

    parts_stay : (ps : Parts) → bare_parts (rename_parts f ps) ≡ bare_parts ps
    parts_stay no_parts = refl
    parts_stay (field g e ps) = ap₂ (λ (t : Tree) (ts : List Tree). t ∷ ts) (end_stays e) (parts_stay ps)
    parts_stay (link b i e ps) = ap₂ (λ (t : Tree) (ts : List Tree). t ∷ ts) (end_stays e) (parts_stay ps)
    parts_stay (hook b i ps) = parts_stay ps

    end_stays : (e : End) → bare_end (rename_end f e) ≡ bare_end e
    end_stays (under n) = tree_stays n
    end_stays (leaf t) = refl

  trees_stay : (d : Nodes) → bares (rename_all f d) ≡ bares d
  trees_stay no_nodes = refl
  trees_stay (more n ns) = ap₂ (λ (t : Tree) (ts : List Tree). t ∷ ts) (tree_stays n) (trees_stay ns)

-- alike stores
pub alike_forms : (face : Face) (F G : Forest) (T U : List BoxDef) (d e : Nodes) (s t : Store)
    → IsPlainCanonical face F → IsPlainCanonical face G → StandsBy face.shapes.structs T F d s
    → StandsBy face.shapes.structs U G e t → IsAlike s t → PresentAlike F G d e
alike_forms face F G T U d e s t p q h g a =
    let k = one_form face F G T U (rename_all a.to d) e t p q
    (stands_alike face.shapes.structs T F d s t h a g.proper) g in
    record {
      trees = sym (trees_stay a.to d) ∙ ap bares k.0;
      vars = k.1;
      data_vars = k.2;
    }
