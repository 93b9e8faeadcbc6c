-- The spots of a dressed tree, and that its references are to roots that are there where its spots are filled.
use Rattle.std.proofs.Common.{◌≡◌, ◌⊎◌, inl, inr, ℕ, zero, suc, ◌<◌, length, List, [], ◌∷◌, ◌++◌, map, Some, slice_get}
use Rattle.std.proofs.Common.{refl, sym, ap, ap₂, subst, ◌∙◌, arith}
use Rattle.std.proofs.lemmas.Option.{none-some}
use Rattle.fore_base.specs.Lists.{Every}
use Rattle.fore_base.proofs.ListLemmas.{every_parts}
use Rattle.ta_core.specs.declared.symbol.Symbol.{Symbol}
use Rattle.ta_core.specs.declared.symbol.Symbol.TheVariants.{Null as NullSymbol, Uninit as UninitSymbol}
use Rattle.ta_core.specs.declared.symbol.Symbol.TheVariants.{Dangling as DanglingSymbol, Ref, Cell as CellSymbol}
use Rattle.ta_core.specs.declared.tree.Tree.{Tree, Tree-F, roll-Tree, out-Tree, roll-out-Tree, para-roll-Tree}
use Rattle.fa_core.specs.declared.faces.BoxFace.{BoxFace}
use Rattle.fa_core.specs.declared.faces.Face.{Face}
use Rattle.fa_core.specs.declared.forest.Target.{Target}
use Rattle.fa_core.specs.declared.forest.Target.TheVariants.{Null, Uninit, Dangling, At}
use Rattle.fa_core.specs.Dressed.{Node, Parts, End, node, no_parts, field, link, hook, under, leaf, refs, refs_of}
use Rattle.fa_core.specs.Dressed.{leaf_refs}
use Rattle.fa_core.specs.Filled.{Spot, spots, spots_at, child_spots, NamesStruct, FieldEnds, EndsFit, IsFilledSpot}
use Rattle.fa_core.specs.Member.{bare, bare_parts, bare_end, slots_of, leaf_symbol}
use Rattle.fa_core.specs.References.{AllBelow}
use Rattle.fa_core.specs.Ways.{gives_out_of}
use Rattle.fa_core.proofs.Counts.{below_both}
use Rattle.fa_core.proofs.Dressing.{leaf_top}

-- what stands at the end of each child
abbrev pub end_symbols : Parts → List Symbol
end_symbols no_parts = []
end_symbols (field f e ps) = (out-Tree (bare_end e)).symbol ∷ end_symbols ps
end_symbols (link b inside e ps) = (out-Tree (bare_end e)).symbol ∷ end_symbols ps
end_symbols (hook b inside ps) = end_symbols ps

module _ (bs : List BoxFace) where
  abbrev mutual
    pub node_spots : Node → List ℕ → List Spot
    node_spots (node c s ds ps) above = record { shape = s; slots = slots_of ps; ends = end_symbols ps; given = above }
        ∷ parts_spots ps

    pub parts_spots : Parts → List Spot
    parts_spots no_parts = []
    parts_spots (field f e ps) = end_spots [] e ++ parts_spots ps
    parts_spots (link b inside e ps) = end_spots (gives_out_of bs b) e ++ parts_spots ps
    parts_spots (hook b inside ps) = parts_spots ps

    pub end_spots : List ℕ → End → List Spot
    end_spots g (under n) = node_spots n g
    end_spots g (leaf t) = []

  abbrev pub with_spots : List Tree → List (Tree × (List ℕ → List Spot))
  with_spots ts = map (λ t. (t, spots bs t)) ts

  rolled_spots : (x : Tree-F Tree) (above : List ℕ) → spots bs (roll-Tree x) above
      ≡ spots_at bs x.symbol (with_spots x.children) above
  rolled_spots x above = ap (λ (g : List ℕ → List Spot). g above)
      (para-roll-Tree (List ℕ → List Spot) (λ t. spots_at bs t.symbol t.children) x)

  pub spots_out : (t : Tree) (above : List ℕ) → spots bs t above
      ≡ spots_at bs (out-Tree t).symbol (with_spots (out-Tree t).children) above
  spots_out t above = ap (λ (u : Tree). spots bs u above) (sym (roll-out-Tree t)) ∙ rolled_spots (out-Tree t) above

  symbols_are : (ps : Parts)
      → map (λ (c : Tree × (List ℕ → List Spot)). (out-Tree c.0).symbol) (with_spots (bare_parts ps))
      ≡ end_symbols ps
  symbols_are no_parts = refl
  symbols_are (field f e ps) = ap (λ (z : List Symbol). (out-Tree (bare_end e)).symbol ∷ z) (symbols_are ps)
  symbols_are (link b inside e ps) = ap (λ (z : List Symbol). (out-Tree (bare_end e)).symbol ∷ z) (symbols_are ps)
  symbols_are (hook b inside ps) = symbols_are ps

  mutual
    -- the spots of a tree are those of the dressed tree
    pub spots_are : (n : Node) (above : List ℕ) → spots bs (bare n) above ≡ node_spots n above
    spots_are (node c s ds ps) above =
        rolled_spots (record { symbol = CellSymbol s ds (slots_of ps); children = bare_parts ps }) above
        ∙ ap₂ (λ (x : List Symbol) (y : List Spot). record { shape = s; slots = slots_of ps; ends = x; given = above }
        ∷ y) (symbols_are ps) (spots_below ps)

    spots_below : (ps : Parts)
        → child_spots bs (slots_of ps) (map (λ (c : Tree × (List ℕ → List Spot)). c.1) (with_spots (bare_parts ps)))
        ≡ parts_spots ps
    spots_below no_parts = refl
    spots_below (field f e ps) = ap₂ (λ (x y : List Spot). x ++ y) (spots_end [] e) (spots_below ps)
    spots_below (link c inside e ps) =
        ap₂ (λ (x y : List Spot). x ++ y) (spots_end (gives_out_of bs c) e) (spots_below ps)
    spots_below (hook c inside ps) = spots_below ps

    spots_end : (g : List ℕ) (e : End) → spots bs (bare_end e) g ≡ end_spots g e
    spots_end g (under n) = spots_are n g
    spots_end g (leaf Null) = rolled_spots (record { symbol = leaf_symbol Null; children = [] }) g
    spots_end g (leaf Uninit) = rolled_spots (record { symbol = leaf_symbol Uninit; children = [] }) g
    spots_end g (leaf Dangling) = rolled_spots (record { symbol = leaf_symbol Dangling; children = [] }) g
    spots_end g (leaf (At k)) = rolled_spots (record { symbol = leaf_symbol (At k); children = [] }) g

-- Leaves by their symbols.

abbrev target_back : Symbol → Target
target_back NullSymbol = Null
target_back UninitSymbol = Uninit
target_back DanglingSymbol = Dangling
target_back (Ref k) = At k
target_back (CellSymbol s ds ss) = Null

target_again : (t : Target) → target_back (leaf_symbol t) ≡ t
target_again Null = refl
target_again Uninit = refl
target_again Dangling = refl
target_again (At k) = refl

pub one_leaf : (t u : Target) → leaf_symbol t ≡ leaf_symbol u → t ≡ u
one_leaf t u e = sym (target_again t) ∙ ap target_back e ∙ target_again u

-- References.

get_less : (tops : List ℕ) (r t : ℕ) → slice_get tops r ≡ Some t → r < length tops
get_less [] r t e = absurd (none-some t e)
get_less (x ∷ tops) zero t e = omega arith
get_less (x ∷ tops) (suc r) t e = let l = get_less tops r t e in omega (arith, l)

module _ (face : Face) (tops : List ℕ) where
  field_leaf : (t : ℕ) (u : Target) → FieldEnds tops t (out-Tree (bare_end (leaf u))).symbol
      → AllBelow (length tops) (leaf_refs u)
  field_leaf t Null h = tt
  field_leaf t Uninit h = tt
  field_leaf t Dangling h = tt
  field_leaf t (At r) h = let z : FieldEnds tops t (Ref r) = rw (leaf_top (At r)) at h in (get_less tops r t z, tt)

  link_leaf : (t : ℕ) (u : Target) (g : List ℕ) → NamesStruct tops (out-Tree (bare_end (leaf u))).symbol t
      ⊎ (((out-Tree (bare_end (leaf u))).symbol ≡ DanglingSymbol) × (g ≡ [])) → AllBelow (length tops) (leaf_refs u)
  link_leaf t Null g h = tt
  link_leaf t Uninit g h = tt
  link_leaf t Dangling g h = tt
  link_leaf t (At r) g (inl h) = let z : NamesStruct tops (Ref r) t = rw (leaf_top (At r)) at h in
      (get_less tops r t z, tt)
  link_leaf t (At r) g (inr h) = absurd (no_dangling (one_leaf (At r) Dangling (sym (leaf_top (At r)) ∙ h.0)))
    where
      no_dangling : At r ≡ Dangling → ⊥
      no_dangling e =
          let y : length (leaf_refs (At r)) ≡ length (leaf_refs Dangling) =
          ap (λ (v : Target). length (leaf_refs v)) e in omega (arith, y)

  mutual
    node_below : (n : Node) (above : List ℕ) → Every (IsFilledSpot face tops) (node_spots face.boxes n above)
        → AllBelow (length tops) (refs n)
    node_below (node c s ds ps) above h = parts_below s ps h.0.ends h.1

    parts_below : (s : ℕ) (ps : Parts) → EndsFit face tops s (slots_of ps) (end_symbols ps)
        → Every (IsFilledSpot face tops) (parts_spots face.boxes ps) → AllBelow (length tops) (refs_of ps)
    parts_below s no_parts w h = tt
    parts_below s (field f (leaf u) ps) w h =
        below_both (length tops) (leaf_refs u) (refs_of ps) (field_leaf w.0.0 u w.0.2) (parts_below s ps w.1 h)
    parts_below s (field f (under n) ps) w h =
        let k = every_parts (IsFilledSpot face tops) (node_spots face.boxes n []) (parts_spots face.boxes ps) h in
        below_both (length tops) (refs n) (refs_of ps) (node_below n [] k.0) (parts_below s ps w.1 k.1)
    parts_below s (link b i (leaf u) ps) w h =
        below_both (length tops) (leaf_refs u) (refs_of ps) (link_leaf w.0.1 u w.0.0.gives_out w.0.5)
        (parts_below s ps w.1 h)
    parts_below s (link b i (under n) ps) w h =
        let k = every_parts (IsFilledSpot face tops) (node_spots face.boxes n (gives_out_of face.boxes b))
        (parts_spots face.boxes ps) h in
        below_both (length tops) (refs n) (refs_of ps) (node_below n (gives_out_of face.boxes b) k.0)
        (parts_below s ps w.1 k.1)
    parts_below s (hook b i ps) w h = parts_below s ps w.1 h

  -- a tree whose spots are filled refers to roots that are there
  pub tree_below : (n : Node) (above : List ℕ) → Every (IsFilledSpot face tops) (spots face.boxes (bare n) above)
      → AllBelow (length tops) (refs n)
  tree_below n above h = node_below n above
      (subst (λ (x : List Spot). Every (IsFilledSpot face tops) x) (spots_are face.boxes n above) h)
