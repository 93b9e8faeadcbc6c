-- Laws of leaves put in the place of references: trees, languages, cells and references, whatever the leaves are.
use Rattle.std.proofs.Common.{◌≡◌, ℕ, suc, List, [], ◌∷◌, ◌++◌, map, flat_map, refl, sym, ap, ap₂, subst, ◌∙◌}
use Rattle.std.proofs.Common.{append-nil}
use Rattle.fore_base.specs.Lists.{Every}
use Rattle.fore_base.specs.declared.store.Datum.{Datum}
use Rattle.fore_base.specs.declared.store.Value.{Value}
use Rattle.fore_base.specs.declared.store.Value.TheVariants.{Cell}
use Rattle.fore_base.proofs.ListLemmas.{in_map, in_mapped, every_parts}
use Rattle.ta_core.specs.Arity.{arity}
use Rattle.ta_core.specs.Auto.{Automaton, IsRanked, IsRankedRule}
use Rattle.ta_core.specs.Language.{InLanguage}
use Rattle.ta_core.specs.declared.auto.Rule.{Rule}
use Rattle.ta_core.specs.declared.symbol.Slot.{Slot}
use Rattle.ta_core.specs.declared.symbol.Slot.TheVariants.{Field, Link, Hook}
use Rattle.ta_core.specs.declared.symbol.Symbol.{Symbol}
use Rattle.ta_core.specs.declared.symbol.Symbol.TheVariants.{Null as NullSymbol, Uninit as UninitSymbol}
use Rattle.ta_core.specs.declared.symbol.Symbol.TheVariants.{Dangling as DanglingSymbol, Ref, Cell as CellSymbol}
use Rattle.fa_core.specs.declared.boxes.BoxDef.{BoxDef}
use Rattle.fa_core.specs.declared.faces.Face.{Face}
use Rattle.fa_core.specs.declared.forest.Target.{Target}
use Rattle.fa_core.specs.declared.forest.Target.TheVariants.{Null, Uninit, Dangling, At}
use Rattle.fa_core.specs.Boxless.{IsPlain, HasNoBoxes}
use Rattle.fa_core.specs.Choices.{count, numbers, numbers_of, end_numbers, all_numbers}
use Rattle.fa_core.specs.Dressed.{Node, Parts, End, Nodes, node, no_parts, field, link, hook, under, leaf, no_nodes}
use Rattle.fa_core.specs.Dressed.{more, number, nth_value, value_in, end_value, roots_of, Seen, SeenField, SeenLink}
use Rattle.fa_core.specs.Dressed.{SeenHook, SeenCell, seen, tree_cells, below, end_cells, forest_cells, refs, refs_of}
use Rattle.fa_core.specs.Dressed.{end_refs, leaf_refs, all_refs}
use Rattle.fa_core.specs.Filled.{SymbolFits, RulesFit}
use Rattle.fa_core.specs.Member.{TreesOf, InsidesOf, InsidesOfParts, InsidesOfEnd, bare, leaf_symbol, slots_of}
use Rattle.fa_core.specs.Placed.{placed_leaf, placed, placed_parts, placed_end, placed_all, placed_symbol, placed_rule}
use Rattle.fa_core.specs.Placed.{placed_auto}
use Rattle.fa_core.proofs.Dressing.{cell_is_no_leaf}
use Rattle.fa_core.proofs.NodeRuns.{NodeRun, PartsRun, EndRun, node_bare, bare_node}
use Rattle.fa_core.proofs.NodeSpots.{one_leaf}
use Rattle.fa_core.proofs.Rearranging.{flat_map-append}

module _ (f : ℕ → Target) where
  -- Symbols.

  symbol_placed : (t : Target) → placed_symbol f (leaf_symbol t) ≡ leaf_symbol (placed_leaf f t)
  symbol_placed Null = refl
  symbol_placed Uninit = refl
  symbol_placed Dangling = refl
  symbol_placed (At k) = refl

  -- a symbol that becomes a cell's was that cell's
  cell_before : (y : Symbol) (s : ℕ) (ds : List Datum) (ss : List Slot) → placed_symbol f y ≡ CellSymbol s ds ss
      → y ≡ CellSymbol s ds ss
  cell_before NullSymbol s ds ss e = e
  cell_before UninitSymbol s ds ss e = e
  cell_before DanglingSymbol s ds ss e = e
  cell_before (Ref k) s ds ss e = absurd (cell_is_no_leaf (f k) s ds ss e)
  cell_before (CellSymbol z zs zz) s ds ss e = e

  -- a symbol that becomes a leaf's was a leaf's
  leaf_before : (y : Symbol) (t : Target) → placed_symbol f y ≡ leaf_symbol t → (u : Target) × (y ≡ leaf_symbol u)
      × (placed_leaf f u ≡ t)
  leaf_before NullSymbol t e = (Null, refl, one_leaf Null t e)
  leaf_before UninitSymbol t e = (Uninit, refl, one_leaf Uninit t e)
  leaf_before DanglingSymbol t e = (Dangling, refl, one_leaf Dangling t e)
  leaf_before (Ref k) t e = (At k, refl, one_leaf (f k) t e)
  leaf_before (CellSymbol z zs zz) t e = absurd (cell_is_no_leaf t z zs zz (sym e))

  leaf_arity : (t : Target) → arity (leaf_symbol t) ≡ 0
  leaf_arity Null = refl
  leaf_arity Uninit = refl
  leaf_arity Dangling = refl
  leaf_arity (At k) = refl

  placed_arity : (y : Symbol) → arity (placed_symbol f y) ≡ arity y
  placed_arity NullSymbol = refl
  placed_arity UninitSymbol = refl
  placed_arity DanglingSymbol = refl
  placed_arity (Ref k) = leaf_arity (f k)
  placed_arity (CellSymbol s ds ss) = refl

  -- a fact on symbols that all leaves have is kept
  pub symbol_kept : (P : Symbol → Type 0) → ((t : Target) → P (leaf_symbol t)) → (y : Symbol) → P y
      → P (placed_symbol f y)
  symbol_kept P leaves NullSymbol h = h
  symbol_kept P leaves UninitSymbol h = h
  symbol_kept P leaves DanglingSymbol h = h
  symbol_kept P leaves (Ref k) h = leaves (f k)
  symbol_kept P leaves (CellSymbol s ds ss) h = h

  pub rules_kept : (P : Symbol → Type 0) → ((t : Target) → P (leaf_symbol t)) → (rs : List Rule)
      → Every (λ (r : Rule). P r.symbol) rs → Every (λ (r : Rule). P r.symbol) (map (placed_rule f) rs)
  rules_kept P leaves [] h = tt
  rules_kept P leaves (r ∷ rs) h = (symbol_kept P leaves r.symbol h.0, rules_kept P leaves rs h.1)

  leaf_plain : (t : Target) → IsPlain (leaf_symbol t)
  leaf_plain Null = tt
  leaf_plain Uninit = tt
  leaf_plain Dangling = tt
  leaf_plain (At k) = tt

  leaf_fits : (face : Face) (t : Target) → SymbolFits face (leaf_symbol t)
  leaf_fits face Null = tt
  leaf_fits face Uninit = tt
  leaf_fits face Dangling = tt
  leaf_fits face (At k) = tt

  pub placed_boxless : (a : Automaton) → HasNoBoxes a → HasNoBoxes (placed_auto f a)
  placed_boxless a h = rules_kept IsPlain leaf_plain a.rules h

  pub placed_fit : (face : Face) (a : Automaton) → RulesFit face a → RulesFit face (placed_auto f a)
  placed_fit face a h = rules_kept (SymbolFits face) (leaf_fits face) a.rules h

  rules_ranked : (n : ℕ) (rs : List Rule) → Every (IsRankedRule n) rs → Every (IsRankedRule n) (map (placed_rule f) rs)
  rules_ranked n [] h = tt
  rules_ranked n (r ∷ rs) h = ((h.0.0, h.0.1, h.0.2 ∙ sym (placed_arity r.symbol)), rules_ranked n rs h.1)

  pub placed_ranked : (a : Automaton) → IsRanked a → IsRanked (placed_auto f a)
  placed_ranked a h = (h.0, rules_ranked a.states a.rules h.1)

  -- Trees.

  pub slots_placed : (ps : Parts) → slots_of (placed_parts f ps) ≡ slots_of ps
  slots_placed no_parts = refl
  slots_placed (field g e ps) = ap (λ (z : List Slot). Field g ∷ z) (slots_placed ps)
  slots_placed (link b i e ps) = ap (λ (z : List Slot). Link b ∷ z) (slots_placed ps)
  slots_placed (hook b i ps) = ap (λ (z : List Slot). Hook b ∷ z) (slots_placed ps)

  pub number_placed : (n : Node) → number (placed f n) ≡ number n
  number_placed (node c s ds ps) = refl

  -- the roots stay
  pub roots_placed : (d : Nodes) → roots_of (placed_all f d) ≡ roots_of d
  roots_placed no_nodes = refl
  roots_placed (more n ns) = ap₂ (λ (c : ℕ) (z : List Value). Cell c ∷ z) (number_placed n) (roots_placed ns)

  pub count_placed : (d : Nodes) → count (placed_all f d) ≡ count d
  count_placed no_nodes = refl
  count_placed (more n ns) = ap (λ k. suc k) (count_placed ns)

  mutual
    -- so do the numbers
    pub numbers_placed : (n : Node) → numbers (placed f n) ≡ numbers n
    numbers_placed (node c s ds ps) = ap (λ (z : List ℕ). c ∷ z) (numbers_placed_parts ps)

    numbers_placed_parts : (ps : Parts) → numbers_of (placed_parts f ps) ≡ numbers_of ps
    numbers_placed_parts no_parts = refl
    numbers_placed_parts (field g e ps) =
        ap₂ (λ (x y : List ℕ). x ++ y) (numbers_placed_end e) (numbers_placed_parts ps)
    numbers_placed_parts (link b i e ps) =
        ap₂ (λ (x y : List ℕ). x ++ y) (numbers_placed_end e) (numbers_placed_parts ps)
    numbers_placed_parts (hook b i ps) = numbers_placed_parts ps

    numbers_placed_end : (e : End) → end_numbers (placed_end f e) ≡ end_numbers e
    numbers_placed_end (under n) = numbers_placed n
    numbers_placed_end (leaf t) = refl

  pub all_numbers_placed : (d : Nodes) → all_numbers (placed_all f d) ≡ all_numbers d
  all_numbers_placed no_nodes = refl
  all_numbers_placed (more n ns) = ap₂ (λ (x y : List ℕ). x ++ y) (numbers_placed n) (all_numbers_placed ns)

  -- the references of the leaf of a root's number
  abbrev pub refs_put : ℕ → List ℕ
  refs_put k = leaf_refs (f k)

  mutual
    -- the references are those of the leaves that were put in
    pub refs_placed : (n : Node) → refs (placed f n) ≡ flat_map refs_put (refs n)
    refs_placed (node c s ds ps) = refs_placed_parts ps

    pub refs_placed_parts : (ps : Parts) → refs_of (placed_parts f ps) ≡ flat_map refs_put (refs_of ps)
    refs_placed_parts no_parts = refl
    refs_placed_parts (field g e ps) = ap₂ (λ (x y : List ℕ). x ++ y) (refs_placed_end e) (refs_placed_parts ps)
        ∙ sym (flat_map-append refs_put (end_refs e) (refs_of ps))
    refs_placed_parts (link b i e ps) = ap₂ (λ (x y : List ℕ). x ++ y) (refs_placed_end e) (refs_placed_parts ps)
        ∙ sym (flat_map-append refs_put (end_refs e) (refs_of ps))
    refs_placed_parts (hook b i ps) = refs_placed_parts ps

    pub refs_placed_end : (e : End) → end_refs (placed_end f e) ≡ flat_map refs_put (end_refs e)
    refs_placed_end (under n) = refs_placed n
    refs_placed_end (leaf Null) = refl
    refs_placed_end (leaf Uninit) = refl
    refs_placed_end (leaf Dangling) = refl
    refs_placed_end (leaf (At k)) = sym (append-nil (refs_put k))

  pub all_refs_placed : (d : Nodes) → all_refs (placed_all f d) ≡ flat_map refs_put (all_refs d)
  all_refs_placed no_nodes = refl
  all_refs_placed (more n ns) = ap₂ (λ (x y : List ℕ). x ++ y) (refs_placed n) (all_refs_placed ns)
      ∙ sym (flat_map-append refs_put (refs n) (all_refs ns))

  -- Cells: they stay where each leaf that is put in is what the root was.

  module _ (vs ws : List Value) where
    abbrev pub Agrees : ℕ → Type 0
    Agrees k = value_in ws (f k) ≡ nth_value vs k

    leaf_agrees : (t : Target) → Every Agrees (leaf_refs t) → value_in ws (placed_leaf f t) ≡ value_in vs t
    leaf_agrees Null h = refl
    leaf_agrees Uninit h = refl
    leaf_agrees Dangling h = refl
    leaf_agrees (At k) h = h.0

    end_agrees : (e : End) → Every Agrees (end_refs e) → end_value ws (placed_end f e) ≡ end_value vs e
    end_agrees (under n) h = ap Cell (number_placed n)
    end_agrees (leaf t) h = leaf_agrees t h

    seen_placed : (ps : Parts) → Every Agrees (refs_of ps) → seen ws (placed_parts f ps) ≡ seen vs ps
    seen_placed no_parts h = refl
    seen_placed (field g e ps) h = let k = every_parts Agrees (end_refs e) (refs_of ps) h in
        ap₂ (λ (v : Value) (z : List Seen). SeenField g v ∷ z) (end_agrees e k.0) (seen_placed ps k.1)
    seen_placed (link b i e ps) h = let k = every_parts Agrees (end_refs e) (refs_of ps) h in
        ap₂ (λ (v : Value) (z : List Seen). SeenLink b i v ∷ z) (end_agrees e k.0) (seen_placed ps k.1)
    seen_placed (hook b i ps) h = ap (λ (z : List Seen). SeenHook b i ∷ z) (seen_placed ps h)

    mutual
      pub cells_placed : (n : Node) → Every Agrees (refs n) → tree_cells ws (placed f n) ≡ tree_cells vs n
      cells_placed (node c s ds ps) h =
          ap₂ (λ (x : List Seen) (y : List SeenCell). record { cell = c; shape = s; datums = ds; slots = x } ∷ y)
          (seen_placed ps h) (below_placed ps h)

      below_placed : (ps : Parts) → Every Agrees (refs_of ps) → below ws (placed_parts f ps) ≡ below vs ps
      below_placed no_parts h = refl
      below_placed (field g e ps) h = let k = every_parts Agrees (end_refs e) (refs_of ps) h in
          ap₂ (λ (x y : List SeenCell). x ++ y) (end_cells_placed e k.0) (below_placed ps k.1)
      below_placed (link b i e ps) h = let k = every_parts Agrees (end_refs e) (refs_of ps) h in
          ap₂ (λ (x y : List SeenCell). x ++ y) (end_cells_placed e k.0) (below_placed ps k.1)
      below_placed (hook b i ps) h = below_placed ps h

      end_cells_placed : (e : End) → Every Agrees (end_refs e) → end_cells ws (placed_end f e) ≡ end_cells vs e
      end_cells_placed (under n) h = cells_placed n h
      end_cells_placed (leaf t) h = refl

    pub forest_cells_placed : (d : Nodes) → Every Agrees (all_refs d) → forest_cells ws (placed_all f d)
        ≡ forest_cells vs d
    forest_cells_placed no_nodes h = refl
    forest_cells_placed (more n ns) h = let k = every_parts Agrees (refs n) (all_refs ns) h in
        ap₂ (λ (x y : List SeenCell). x ++ y) (cells_placed n k.0) (forest_cells_placed ns k.1)

  -- Insides stay.

  module _ (T : List BoxDef) where
    mutual
      pub insides_placed : (n : Node) → InsidesOf T n → InsidesOf T (placed f n)
      insides_placed (node c s ds ps) h = insides_placed_parts ps h

      insides_placed_parts : (ps : Parts) → InsidesOfParts T ps → InsidesOfParts T (placed_parts f ps)
      insides_placed_parts no_parts h = tt
      insides_placed_parts (field g e ps) h = (insides_placed_end e h.0, insides_placed_parts ps h.1)
      insides_placed_parts (link b i e ps) h = (h.0, insides_placed_end e h.1, insides_placed_parts ps h.2)
      insides_placed_parts (hook b i ps) h = (h.0, insides_placed_parts ps h.1)

      insides_placed_end : (e : End) → InsidesOfEnd T e → InsidesOfEnd T (placed_end f e)
      insides_placed_end (under n) h = insides_placed n h
      insides_placed_end (leaf t) h = tt

  -- Runs: each tree of the automaton, with other leaves, is one of the automaton with other leaves, and there are no
  -- more.

  module _ (rules : List Rule) where
    mutual
      pub run_placed : (q : ℕ) (n : Node) → NodeRun rules q n → NodeRun (map (placed_rule f) rules) q (placed f n)
      run_placed q (node c s ds ps) h = (
        placed_rule f h.0,
        in_map (placed_rule f) h.0 rules h.1,
        h.2,
        ap (placed_symbol f) h.3
            ∙ ap (CellSymbol s ds) (sym (slots_placed ps)),
        each_placed h.0.children ps h.4,
      )

      each_placed : (qs : List ℕ) (ps : Parts) → PartsRun rules qs ps
          → PartsRun (map (placed_rule f) rules) qs (placed_parts f ps)
      each_placed [] no_parts h = tt
      each_placed (q ∷ qs) no_parts h = absurd h
      each_placed [] (field g e ps) h = absurd h
      each_placed (q ∷ qs) (field g e ps) h = (end_placed q e h.0, each_placed qs ps h.1)
      each_placed [] (link b i e ps) h = absurd h
      each_placed (q ∷ qs) (link b i e ps) h = (end_placed q e h.0, each_placed qs ps h.1)
      each_placed qs (hook b i ps) h = each_placed qs ps h

      pub end_placed : (q : ℕ) (e : End) → EndRun rules q e → EndRun (map (placed_rule f) rules) q (placed_end f e)
      end_placed q (under n) h = run_placed q n h
      end_placed q (leaf t) h = (
        placed_rule f h.0,
        in_map (placed_rule f) h.0 rules h.1,
        h.2,
        ap (placed_symbol f) h.3 ∙ symbol_placed t,
        h.4,
      )

  module _ (T : List BoxDef) (rules : List Rule) where
    abbrev FromNode : ℕ → Node → Type 0
    FromNode q n = (m : Node) × (placed f m ≡ n) × NodeRun rules q m × InsidesOf T m

    abbrev FromParts : List ℕ → Parts → Type 0
    FromParts qs ps = (ms : Parts) × (placed_parts f ms ≡ ps) × PartsRun rules qs ms × InsidesOfParts T ms

    abbrev FromEnd : ℕ → End → Type 0
    FromEnd q e = (m : End) × (placed_end f m ≡ e) × EndRun rules q m × InsidesOfEnd T m

    mutual
      pub run_from : (q : ℕ) (n : Node) → NodeRun (map (placed_rule f) rules) q n → InsidesOf T n → FromNode q n
      run_from q (node c s ds ps) h i =
          let x = in_mapped (placed_rule f) h.0 rules h.1 in
          let k = each_from x.0.children ps
          (subst (λ (z : Rule). PartsRun (map (placed_rule f) rules) z.children ps) x.2 h.4) i in (
            node c s ds k.0,
            ap (node c s ds) k.1,
            (
              x.0,
              x.1,
              sym (ap (λ (z : Rule). z.state) x.2) ∙ h.2,
              cell_before x.0.symbol s ds (slots_of ps) (sym (ap (λ (z : Rule). z.symbol) x.2) ∙ h.3)
                  ∙ ap (CellSymbol s ds) (ap slots_of (sym k.1) ∙ slots_placed k.0),
              k.2,
            ),
            k.3,
          )

      each_from : (qs : List ℕ) (ps : Parts) → PartsRun (map (placed_rule f) rules) qs ps → InsidesOfParts T ps
          → FromParts qs ps
      each_from [] no_parts h i = (no_parts, refl, tt, tt)
      each_from (q ∷ qs) no_parts h i = absurd h
      each_from [] (field g e ps) h i = absurd h
      each_from (q ∷ qs) (field g e ps) h i =
          let a = end_from q e h.0 i.0 in
          let r = each_from qs ps h.1 i.1 in
          (field g a.0 r.0, ap₂ (field g) a.1 r.1, (a.2, r.2), (a.3, r.3))
      each_from [] (link b j e ps) h i = absurd h
      each_from (q ∷ qs) (link b j e ps) h i =
          let a = end_from q e h.0 i.1 in
          let r = each_from qs ps h.1 i.2 in
          (link b j a.0 r.0, ap₂ (link b j) a.1 r.1, (a.2, r.2), (i.0, a.3, r.3))
      each_from qs (hook b j ps) h i =
          let r = each_from qs ps h i.1 in
          (hook b j r.0, ap (hook b j) r.1, r.2, (i.0, r.3))

      pub end_from : (q : ℕ) (e : End) → EndRun (map (placed_rule f) rules) q e → InsidesOfEnd T e → FromEnd q e
      end_from q (under n) h i = let k = run_from q n h i in (under k.0, ap under k.1, k.2, k.3)
      end_from q (leaf t) h i =
          let x = in_mapped (placed_rule f) h.0 rules h.1 in
          let l = leaf_before x.0.symbol t (sym (ap (λ (z : Rule). z.symbol) x.2) ∙ h.3) in (
            leaf l.0,
            ap leaf l.2,
            (
              x.0,
              x.1,
              sym (ap (λ (z : Rule). z.state) x.2) ∙ h.2,
              l.1,
              sym (ap (λ (z : Rule). z.children) x.2)
                  ∙ h.4,
            ),
            tt,
          )

  -- Languages.

  pub in_placed : (a : Automaton) (n : Node) → InLanguage a (bare n) → InLanguage (placed_auto f a) (bare (placed f n))
  in_placed a n h = (
    h.0,
    h.1,
    node_bare (map (placed_rule f) a.rules) h.0 (placed f n)
        (run_placed a.rules h.0 n (bare_node a.rules h.0 n h.2)),
  )

  pub from_placed : (T : List BoxDef) (a : Automaton) (n : Node) → InLanguage (placed_auto f a) (bare n) → InsidesOf T n
      → (m : Node) × (placed f m ≡ n) × InLanguage a (bare m) × InsidesOf T m
  from_placed T a n h i =
      let k = run_from T a.rules h.0 n (bare_node (map (placed_rule f) a.rules) h.0 n h.2) i in
      (k.0, k.1, (h.0, h.1, node_bare a.rules h.0 k.0 k.2), k.3)

  -- Dressed forests.

  pub trees_placed : (T : List BoxDef) (autos : List Automaton) (d : Nodes) → TreesOf T autos d
      → TreesOf T (map (placed_auto f) autos) (placed_all f d)
  trees_placed T [] no_nodes h = tt
  trees_placed T [] (more n ns) h = absurd h
  trees_placed T (a ∷ autos) no_nodes h = absurd h
  trees_placed T (a ∷ autos) (more n ns) h = (in_placed a n h.0, insides_placed T n h.1, trees_placed T autos ns h.2)

  pub trees_from : (T : List BoxDef) (autos : List Automaton) (d : Nodes) → TreesOf T (map (placed_auto f) autos) d
      → (e : Nodes) × (placed_all f e ≡ d) × TreesOf T autos e
  trees_from T [] no_nodes h = (no_nodes, refl, tt)
  trees_from T [] (more n ns) h = absurd h
  trees_from T (a ∷ autos) no_nodes h = absurd h
  trees_from T (a ∷ autos) (more n ns) h =
      let k = from_placed T a n h.0 h.1 in
      let r = trees_from T autos ns h.2 in
      (more k.0 r.0, ap₂ more k.1 r.1, (k.2, k.3, r.2))

-- References in the place of themselves, and leaves put in twice.

same_leaf : (t : Target) → placed_leaf At t ≡ t
same_leaf Null = refl
same_leaf Uninit = refl
same_leaf Dangling = refl
same_leaf (At k) = refl

mutual
  pub placed_same : (n : Node) → placed At n ≡ n
  placed_same (node c s ds ps) = ap (node c s ds) (parts_same ps)

  parts_same : (ps : Parts) → placed_parts At ps ≡ ps
  parts_same no_parts = refl
  parts_same (field g e ps) = ap₂ (field g) (end_same e) (parts_same ps)
  parts_same (link b i e ps) = ap₂ (link b i) (end_same e) (parts_same ps)
  parts_same (hook b i ps) = ap (hook b i) (parts_same ps)

  end_same : (e : End) → placed_end At e ≡ e
  end_same (under n) = ap under (placed_same n)
  end_same (leaf t) = ap leaf (same_leaf t)

module _ (f g : ℕ → Target) where
  abbrev pub then_placed : ℕ → Target
  then_placed k = placed_leaf g (f k)

  twice_leaf : (t : Target) → placed_leaf g (placed_leaf f t) ≡ placed_leaf then_placed t
  twice_leaf Null = refl
  twice_leaf Uninit = refl
  twice_leaf Dangling = refl
  twice_leaf (At k) = refl

  mutual
    pub placed_twice : (n : Node) → placed g (placed f n) ≡ placed then_placed n
    placed_twice (node c s ds ps) = ap (node c s ds) (parts_twice ps)

    parts_twice : (ps : Parts) → placed_parts g (placed_parts f ps) ≡ placed_parts then_placed ps
    parts_twice no_parts = refl
    parts_twice (field h e ps) = ap₂ (field h) (end_twice e) (parts_twice ps)
    parts_twice (link b i e ps) = ap₂ (link b i) (end_twice e) (parts_twice ps)
    parts_twice (hook b i ps) = ap (hook b i) (parts_twice ps)

    end_twice : (e : End) → placed_end g (placed_end f e) ≡ placed_end then_placed e
    end_twice (under n) = ap under (placed_twice n)
    end_twice (leaf t) = ap leaf (twice_leaf t)
