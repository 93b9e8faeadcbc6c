-- The forest in which the child's cells are a new last root is sound.
use Rattle.std.proofs.Common.{◌≡◌, ℕ, suc, ◌<◌, ◌+◌, length, List, [], ◌∷◌, refl, sym, ap, subst, ◌∙◌, slice_get}
use Rattle.std.proofs.Common.{slice_set, Some, true, false, true≢false, length-set, length-append, arith}
use Rattle.std.proofs.lemmas.Option.{slice_get_within}
use Rattle.fore_base.specs.Lists.{IsIn, Every}
use Rattle.fore_base.proofs.ListLemmas.{in_every, every_in, every_append, place_of}
use Rattle.ta_core.specs.Auto.{Automaton, IsRanked}
use Rattle.ta_core.specs.Language.{RunOf, InLanguage}
use Rattle.ta_core.specs.declared.auto.Rule.{Rule}
use Rattle.ta_core.specs.declared.tree.Tree.{Tree, out-Tree}
use Rattle.fa_core.specs.declared.faces.Face.{Face}
use Rattle.fa_core.specs.declared.forest.Forest.{Forest}
use Rattle.fa_core.specs.declared.forest.Target.{Target}
use Rattle.fa_core.specs.declared.forest.Target.TheVariants.{Null, Uninit, Dangling, At}
use Rattle.fa_core.specs.Boxless.{IsPlain, HasNoBoxes}
use Rattle.fa_core.specs.Cells.{is_leaf}
use Rattle.fa_core.specs.Dressed.{Node, End, under, leaf, refs}
use Rattle.fa_core.specs.Filled.{IsRoot, SymbolFits, RulesFit, HasSignatures, HasSome, IsTopped, IsSound}
use Rattle.fa_core.specs.Formed.{IsFormed}
use Rattle.fa_core.specs.Member.{bare, bare_end, leaf_symbol}
use Rattle.fa_core.specs.References.{AllBelow}
use Rattle.fa_core.proofs.Counts.{below_wider}
use Rattle.fa_core.proofs.Dressing.{leaf_top}
use Rattle.fa_core.proofs.FilledKept.{IsFormedTree, filled_kept, formed_by}
use Rattle.fa_core.proofs.WaysOf.{tree_roots}
use Rattle.fa_sound.specs.Components.{component_at}
use Rattle.fa_sound.proofs.ComponentLemmas.{item_component}
use Rattle.fa_merge.proofs.PlacedForests.{component_has, node_topped, topped_node}
use Rattle.fa_split.specs.Giving.{SymbolGives, RulesGive}
use Rattle.fa_split.specs.Split.{top_rule}
use Rattle.fa_split.specs.Split.{CanSplit, MayBeCell, child_state, fixed, lifted, split_cells, end_at, top_parts}
use Rattle.fa_split.specs.Split.{with_end}
use Rattle.fa_split.proofs.ChosenForests.{fresh_signed}
use Rattle.fa_split.proofs.FixedSigned.{fixed_plain, fixed_signed}
use Rattle.fa_split.proofs.FixedTrees.{to_fixed, fixed_leaf, fixed_with, fixed_ranked, fixed_symbols, child_with}
use Rattle.fa_split.proofs.HollowEnds.{run_end, tree_is_node}
use Rattle.fa_split.proofs.LiftedTrees.{lifted_of, to_lifted, lifted_back, lifted_stay, lifted_roots, lifted_ranked}
use Rattle.fa_split.proofs.LiftedTrees.{lifted_symbols}
use Rattle.fa_split.proofs.OtherComponent.{every_put}
use Rattle.fa_split.proofs.Places.{top_of_child, end_is_leaf, with_end_symbol, with_end_children, with_end_at}
use Rattle.fa_split.proofs.Places.{with_end_twice, with_end_same}
use Rattle.fa_split.proofs.SplitCells.{RefersWell, refers_well, cells_regroup}
use Rattle.fa_split.proofs.SplitLeaves.{with_child, with_child_symbol, with_child_children, may_run}
use Rattle.fa_split.proofs.TakenOut.{below_top, below_with}
use Rattle.fa_split.proofs.TopRules.{tree_by_top, top_in}

-- a leaf's symbol is a leaf's
pub leaf_is_leaf : (y : Target) → is_leaf (leaf_symbol y) ≡ true
leaf_is_leaf Null = refl
leaf_is_leaf Uninit = refl
leaf_is_leaf Dangling = refl
leaf_is_leaf (At k) = refl

module _ (face : Face) (F : Forest) (r p : ℕ) (ranked : Every IsRanked F.autos) (can : CanSplit F r p)
    (sound : IsSound face F) (may : MayBeCell F r p) where
  abbrev a : Automaton
  a = component_at F.autos r

  abbrev N : ℕ
  N = length F.autos

  abbrev q : ℕ
  q = child_state a p

  abbrev top_fixed : Automaton
  top_fixed = fixed a p (At N)

  abbrev cells_of : Automaton
  cells_of = lifted a q

  abbrev G : Forest
  G = split_cells F r p

  a_ranked : IsRanked a
  a_ranked = component_has IsRanked F.autos r ranked can.root

  a_fits : RulesFit face a
  a_fits = component_has (RulesFit face) F.autos r sound.well_formed.filled.rules can.root

  top_fits : RulesFit face top_fixed
  top_fits = fixed_symbols a p (At N) a_ranked can.top can.place (SymbolFits face) tt a_fits

  well : RefersWell F
  well = refers_well face F sound

  same_size : length G.autos ≡ suc N
  same_size = length-append (slice_set F.autos r top_fixed) (cells_of ∷ [])
      ∙ ap (λ (n : ℕ). n + 1) (length-set F.autos r top_fixed) ∙ omega arith

  -- what each component of F, the fixed one and the lifted one have
  each_split : (P : Automaton → Type 0) → Every P F.autos → P top_fixed → P cells_of → Every P G.autos
  each_split P h x y = every_append P (slice_set F.autos r top_fixed) (cells_of ∷ [])
      (every_put P F.autos r top_fixed h x) (y, tt)

  -- Trees.

  formed_node : (m : ℕ) (n : Node) → AllBelow m (refs n) → IsFormedTree m (bare n)
  formed_node m n b = (node_topped n, subst (λ (ks : List ℕ). AllBelow m ks) (sym (tree_roots n)) b)

  low : (k : ℕ) (n : Node) → k < N → InLanguage (component_at F.autos k) (bare n) → AllBelow (suc N) (refs n)
  low k n l w = below_wider N (suc N) (omega arith) (refs n) (well.trees k n l w)

  node_tree : (k : ℕ) → k < N → (t : Tree) → InLanguage (component_at F.autos k) t → (n : Node) × (bare n ≡ t)
  node_tree = tree_is_node face F sound.well_formed.filled sound.full ranked

  old_formed : Every (λ b. (t : Tree) → InLanguage b t → IsFormedTree (suc N) t) F.autos
  old_formed = in_every (λ b. (t : Tree) → InLanguage b t → IsFormedTree (suc N) t) F.autos (λ b i t w.
      let k = place_of F.autos b i in
      let e : b ≡ component_at F.autos k.0 = item_component F.autos k.0 b k.1 in
      let l : k.0 < N = slice_get_within F.autos k.0 b k.1 in
      let v : InLanguage (component_at F.autos k.0) t = subst (λ (z : Automaton). InLanguage z t) e w in
      let n = node_tree k.0 l t v in
      subst (λ (z : Tree). IsFormedTree (suc N) z) n.1
      (formed_node (suc N) n.0
      (low k.0 n.0 l (subst (λ (z : Tree). InLanguage (component_at F.autos k.0) z) (sym n.1) v))))

  -- a tree of the child's state that is no leaf
  cell_node : (t : Tree) → RunOf a.rules q t → is_leaf (out-Tree t).symbol ≡ false → (n : Node) × (bare n ≡ t)
  cell_node t w g = (let e = run_end face a a_ranked a_fits q t w in here e.0 e.1)
    where
      here : (e : End) → bare_end e ≡ t → (n : Node) × (bare n ≡ t)
      here (under n) s = (n, s)
      here (leaf y) s = absurd
          (true≢false (sym (leaf_is_leaf y) ∙ ap is_leaf (sym (leaf_top y) ∙ ap (λ (z : Tree). (out-Tree z).symbol) s)
          ∙ g))

  -- one that may stand in the place
  some_cell : (m : Node) × RunOf a.rules q (bare m)
  some_cell =
      let w = may_run F r p ranked can (At 0) may.0 may.2 in
      let n = cell_node may.0 w may.1 in
      (n.0, subst (λ (z : Tree). RunOf a.rules q z) (sym n.1) w)

  fixed_formed : (t : Tree) → InLanguage top_fixed t → IsFormedTree (suc N) t
  fixed_formed t w =
      let e = run_end face top_fixed (fixed_ranked a p (At N) a_ranked can.top can.place) top_fits w.0 t w.2 in
      here e.0 e.1
    where
      -- with a cell in the place, the tree is one of the old component
      topped : (s : ℕ) × IsTopped s t
      topped =
          let m = some_cell in
          let u : Tree = with_child p (bare m.0) t in
          let l : InLanguage a u =
          fixed_with a p (At N) a_ranked can.top can.place t u (bare m.0) w m.1
          (with_child_symbol p (bare m.0) t) (with_child_children p (bare m.0) t) in
          let n = node_tree r can.root u l in
          let k = node_topped n.0 in (
            k.0,
            (
              k.1.0,
              k.1.1,
              sym (with_child_symbol p (bare m.0) t) ∙ ap (λ (z : Tree). (out-Tree z).symbol) (sym n.1)
                  ∙ k.1.2,
            ),
          )

      of_node : (n : Node) → InLanguage top_fixed (bare n) → IsFormedTree (suc N) (bare n)
      of_node n l =
          let m = some_cell in
          let c = top_of_child p n (bare_end (leaf (At N)))
          (fixed_leaf a p (At N) a_ranked can.top can.place (bare n) l) in
          let ends : end_at p (top_parts n) ≡ Some (leaf (At N)) =
          c.1 ∙ ap (λ (z : End). Some z) (end_is_leaf c.0 (At N) c.2) in
          let u : Node = with_end p (under m.0) n in
          let old : InLanguage a (bare u) =
          fixed_with a p (At N) a_ranked can.top can.place (bare n) (bare u) (bare m.0) l m.1
          (with_end_symbol p (under m.0) n) (with_end_children p (under m.0) n) in
          let again : with_end p (leaf (At N)) u ≡ n = with_end_twice p n (leaf (At N)) (under m.0)
          ∙ with_end_same p n (leaf (At N)) ends in
          formed_node (suc N) n
          (subst (λ (z : Node). AllBelow (suc N) (refs z)) again
          (below_with (suc N) p u (leaf (At N)) (omega arith, tt) (low r u can.root old)))

      here : (e : End) → bare_end e ≡ t → IsFormedTree (suc N) t
      here e s =
          let k = topped_node e topped.0 (subst (λ (z : Tree). IsTopped topped.0 z) (sym s) topped.1) in
          let is : bare k.0 ≡ t = ap bare_end (sym k.1) ∙ s in
          subst (λ (z : Tree). IsFormedTree (suc N) z) is
          (of_node k.0 (subst (λ (z : Tree). InLanguage top_fixed z) (sym is) w))

  lifted_formed : (t : Tree) → InLanguage cells_of t → IsFormedTree (suc N) t
  lifted_formed t w =
      let k = lifted_of a q a_ranked t w in
      let m = cell_node t k.0 k.1 in
      subst (λ (z : Tree). IsFormedTree (suc N) z) m.1
      (formed_node (suc N) m.0 (low_child m.0 (subst (λ (z : Tree). RunOf a.rules q z) (sym m.1) k.0)))
    where
      low_child : (m : Node) → RunOf a.rules q (bare m) → AllBelow (suc N) (refs m)
      low_child m w =
          let n = node_tree r can.root may.2.0 may.2.1 in
          let l : InLanguage a (bare n.0) = subst (λ (z : Tree). InLanguage a z) (sym n.1) may.2.1 in
          let c = top_of_child p n.0 may.0
          (subst (λ (z : Tree). slice_get (out-Tree z).children p ≡ Some may.0) (sym n.1) may.2.2) in
          let u : Node = with_end p (under m) n.0 in
          let old : InLanguage a (bare u) =
          child_with a p (At N) a_ranked can.top can.place (bare n.0) (bare u) (bare m) l w
          (with_end_symbol p (under m) n.0) (with_end_children p (under m) n.0) in
          below_top (suc N) p u (under m) (with_end_at p n.0 c.0 (under m) c.1) (low r u can.root old)

  -- Assembled.

  root_vars : (us : List Target) → ((k : ℕ) → IsIn (At k) us → k < N) → Every (IsRoot (suc N)) us
  root_vars us h = in_every (IsRoot (suc N)) us
      (λ u i k e. (let l = h k (subst (λ (z : Target). IsIn z us) e i) in omega (arith, l)))

  pub cells_plain : Every HasNoBoxes F.autos → Every HasNoBoxes G.autos
  cells_plain plain = (let k = component_has HasNoBoxes F.autos r plain can.root in
      each_split HasNoBoxes plain (fixed_plain a p (At N) a_ranked can.top can.place k)
      (lifted_symbols a q a_ranked IsPlain k))

  formed : IsFormed face G
  formed = record {
    ranked = each_split IsRanked ranked (fixed_ranked a p (At N) a_ranked can.top can.place)
        (lifted_ranked a q a_ranked);
    data_vars = sound.well_formed.filled.data_vars;
    rules = each_split (RulesFit face) sound.well_formed.filled.rules top_fits
        (lifted_symbols a q a_ranked (SymbolFits face) a_fits);
    choices = formed_by G
        (rw same_size
        (each_split (λ b. (t : Tree) → InLanguage b t → IsFormedTree (suc N) t) old_formed fixed_formed
        lifted_formed))
        (rw same_size (root_vars F.vars well.vars));
  }

  some_fixed : HasSome top_fixed
  some_fixed =
      let t = may.2.0 in
      let y = bare_end (leaf (At N)) in (
        with_child p y t,
        to_fixed a p (At N) a_ranked can.top can.place (with_child p y t) t
            (tree_by_top a can.top t may.2.1) (with_child_symbol p y t) (with_child_children p y t),
      )

  some_lifted : HasSome cells_of
  some_lifted = (may.0, to_lifted a q a_ranked may.0 (may_run F r p ranked can (At 0) may.0 may.2) may.1)

  -- the rule at the top gives where it leads back
  top_gives : Every (RulesGive face.boxes) F.autos → SymbolGives face.boxes (top_rule a).symbol
  top_gives gives = every_in (λ (o : Rule). SymbolGives face.boxes o.symbol) a.rules (top_rule a)
      (component_has (RulesGive face.boxes) F.autos r gives can.root) (top_in a can.top)

  pub cells_sound : Every (RulesGive face.boxes) F.autos → IsSound face G
  cells_sound gives = record {
    well_formed = record {
      filled = filled_kept face F G sound.well_formed.filled (λ T. cells_regroup F r p ranked can T well) formed;
      signatures =
          (let signed = component_has (HasSignatures face.boxes) F.autos r sound.well_formed.signatures can.root in
          each_split (HasSignatures face.boxes) sound.well_formed.signatures
          (fixed_signed a p (At N) a_ranked can.top can.place face.boxes signed (top_gives gives) may.0
          (may_run F r p ranked can (At 0) may.0 may.2))
          (fresh_signed face.boxes a cells_of q (λ z u l w. lifted_stay a q a_ranked z u l w)
          (λ z u w l. (lifted_back a q a_ranked z u l w).0) (λ z i. lifted_roots a q a_ranked z i) signed));
    };
    full = each_split HasSome sound.full some_fixed some_lifted;
  }
