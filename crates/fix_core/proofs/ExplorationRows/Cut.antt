-- Cases that are cut, and quiet edges with two nodes: no exploration.
use Rattle.std.proofs.Common.{◌≡◌, ℕ, List, [], ◌∷◌, length, None, Some, refl, sym, ◌∙◌, ap}
use Rattle.std.proofs.Common.{subst, arith, inl, inr, lit<, true≢false}
use Rattle.fore_base.specs.Lists.{Paired}
use Rattle.ta_core.proofs.Runs.{run_tree, tree_of}
use Rattle.ta_core.specs.Auto.{Automaton, automaton}
use Rattle.ta_core.specs.Language.{HasSameLanguage, InLanguage, RunOf, run, RunEach, run_none, run_more}
use Rattle.ta_core.specs.declared.auto.Rule.{Rule}
use Rattle.ta_core.specs.declared.symbol.Slot.TheVariants.{Field}
use Rattle.ta_core.specs.declared.symbol.Symbol.{Symbol}
use Rattle.ta_core.specs.declared.symbol.Symbol.TheVariants.{Null as NullLeaf, Uninit as UninitLeaf, Cell}
use Rattle.ta_core.specs.declared.tree.Tree.{Tree, out-Tree}
use Rattle.fa_core.specs.declared.boxes.BoxDef.{BoxDef}
use Rattle.fa_core.specs.declared.folds.FoldStep.{FoldStep}
use Rattle.fa_core.specs.declared.forest.Forest.{Forest}
use Rattle.fa_core.specs.declared.forest.Target.TheVariants.{Null, Uninit, At}
use Rattle.fa_join.specs.Joinable.{Joinable, PairedButOne}
use Rattle.c_cfg.specs.Graphs.{ControlGraph}
use Rattle.c_cfg.specs.declared.graph.Const.TheVariants.{Known as ConstKnown}
use Rattle.c_cfg.specs.declared.graph.Instr.{Instr}
use Rattle.c_cfg.specs.declared.graph.Instr.TheVariants.{New, StoreConst}
use Rattle.fix_core.specs.Explorations.{IsApart, Exploration}
use Rattle.fix_core.specs.Follows.{SameLanguages, Settles}
use Rattle.fix_core.specs.States.{AbstractState}
use Rattle.fix_core.specs.declared.nodes.Node.{Node}
use Rattle.fix_core.proofs.ExplorationRows.Bare.{table, bare, as_it_is, from_case, entry, reached, edge, graph_of}

-- forests of the same trees can be joined, which differ in no child

all_but_one : {X : Type 0} (R S : X → X → Type 0) (xs ys : List X) → Paired R xs ys → PairedButOne R S xs ys
all_but_one R S [] [] p = tt
all_but_one R S [] (y ∷ ys) p = absurd p
all_but_one R S (x ∷ xs) [] p = absurd p
all_but_one R S (x ∷ xs) (y ∷ ys) p = inl (p.0, all_but_one R S xs ys p.1)

same_too : (as' bs cs : List Automaton) → Paired HasSameLanguage as' bs → Paired HasSameLanguage as' cs
    → Paired HasSameLanguage bs cs
same_too [] [] [] p q = tt
same_too [] [] (c ∷ cs) p q = absurd q
same_too [] (b ∷ bs) cs p q = absurd p
same_too (a ∷ as') [] cs p q = absurd p
same_too (a ∷ as') (b ∷ bs) [] p q = absurd q
same_too (a ∷ as') (b ∷ bs) (c ∷ cs) p q =
    ((λ t. ((λ h. (q.0 t).0 ((p.0 t).1 h)), (λ h. (p.0 t).0 ((q.0 t).1 h)))), same_too as' bs cs p.1 q.1)

itself : (as' : List Automaton) → Paired HasSameLanguage as' as'
itself [] = tt
itself (a ∷ as') = ((λ t. ((λ h. h), (λ h. h))), itself as')

joined : (F G H : Forest) → SameLanguages F G → SameLanguages F H → Joinable [] G H
joined F G H g h = record {
  vars = g.vars ∙ sym h.vars;
  data_vars = g.data_vars ∙ sym h.data_vars;
  components = all_but_one HasSameLanguage _ G.autos H.autos (same_too F.autos G.autos H.autos g.languages h.languages);
}

joined_itself : (F : Forest) → Joinable [] F F
joined_itself F = joined F F F (record { vars = refl; data_vars = refl; languages = itself F.autos })
    (record { vars = refl; data_vars = refl; languages = itself F.autos })

-- A cell at which the variable is, whose one field ends at one of these leaves

abbrev leaf : Symbol → Rule
leaf s = record { state = 1; symbol = s; children = [] }

abbrev top : Rule
top = record { state = 0; symbol = Cell 0 [] (Field 0 ∷ []); children = 1 ∷ [] }

abbrev cell_above : List Rule → Automaton
cell_above leaves = automaton 2 (0 ∷ []) (top ∷ leaves)

abbrev ending_at : List Rule → Forest
ending_at leaves = record { autos = cell_above leaves ∷ []; vars = At 0 ∷ []; data_vars = [] }

abbrev either : Forest
either = ending_at (leaf NullLeaf ∷ leaf UninitLeaf ∷ [])

abbrev at_null : Forest
at_null = ending_at (leaf NullLeaf ∷ [])

abbrev never_set : Forest
never_set = ending_at (leaf UninitLeaf ∷ [])

-- without leaves it has no trees; so it can be joined with one that has them, and has not the same
abbrev no_trees : Forest
no_trees = ending_at []

no_leaf : (q : ℕ) (t : Tree) → q ≡ 1 → RunOf (top ∷ []) q t → ⊥
no_leaf q t is (run r (inl e) state symbol below) =
    let z : 0 ≡ 1 = ap (λ (x : Rule). x.state) (sym e) ∙ state ∙ is in omega (arith, z)
no_leaf q t is (run r (inr i) state symbol below) = i

no_child : (ts : List Tree) → RunEach (top ∷ []) (1 ∷ []) ts → ⊥
no_child [] h = elim h [ ]
no_child (t ∷ ts) (run_more h rest) = no_leaf 1 t refl h

no_tree : (q : ℕ) (t : Tree) → RunOf (top ∷ []) q t → ⊥
no_tree q t (run r (inl e) state symbol below) =
    no_child (out-Tree t).children (subst (λ (x : Rule). RunEach (top ∷ []) x.children (out-Tree t).children) e below)
no_tree q t (run r (inr i) state symbol below) = i

differ_in_one_child : Joinable [] at_null no_trees
differ_in_one_child = record {
  vars = refl;
  data_vars = refl;
  components = inr (record { symbols = refl; children = inr ((λ t u h k. absurd (no_leaf 1 u refl k)), tt) }, tt);
}

other_trees_there : SameLanguages at_null no_trees → ⊥
other_trees_there same = no_tree got.0 one got.2
  where
    one : Tree
    one = tree_of top.symbol (tree_of NullLeaf [] ∷ [])

    runs : RunOf (top ∷ leaf NullLeaf ∷ []) 0 one
    runs = run_tree (top ∷ leaf NullLeaf ∷ []) top (tree_of NullLeaf [] ∷ []) (inl refl)
        (run_more (run_tree (top ∷ leaf NullLeaf ∷ []) (leaf NullLeaf) [] (inr (inl refl)) run_none) run_none)

    got : InLanguage (cell_above []) one
    got = (same.languages.0 one).0 (0, inl refl, runs)

-- two nodes that one edge reaches from node 0
abbrev two_at : ℕ → AbstractState → AbstractState → List Node
two_at location a b = entry ∷ reached location 0 0 a ∷ reached location 0 0 b ∷ []

abbrev by : ℕ → Instr → ControlGraph
by location instr = graph_of (edge 0 location 1 instr ∷ [])

apart_of : (location : ℕ) (instr : Instr) (a b : AbstractState)
    (x : Exploration table (by location instr) 1 (two_at location a b))
    → IsApart table (by location instr) 1 (edge 0 location 1 instr) a b (x.grouped 1) (x.grouped 2)
apart_of location instr a b x =
    x.apart 1 2 (reached location 0 0 a) (reached location 0 0 b) 0 0 (edge 0 location 1 instr) (lit< tt) refl refl
    (record { parent = refl; edge = refl }) (record { parent = refl; edge = refl }) refl

-- The case cut in one child, at the loop head 2
case_cut : Exploration table (by 2 (New 0 0)) 1 (two_at 2 (from_case either at_null) (from_case either never_set)) → ⊥
case_cut x =
    elim
    ((apart_of 2 (New 0 0) (from_case either at_null) (from_case either never_set) x).middles either either refl
    refl) [
      | inl one ↦ one.joinable (joined either (x.grouped 1) (x.grouped 2)
          ((x.groups 1 (reached 2 0 0 (from_case either at_null)) either refl refl).unfolded refl)
          ((x.groups 2 (reached 2 0 0 (from_case either never_set)) either refl refl).unfolded refl))
      | inr apart ↦ apart (joined_itself either)
    ]

-- Two cases that differ in one child
cases_joinable : Exploration table (by 2 (New 0 0)) 1
    (two_at 2 (from_case at_null at_null) (from_case no_trees no_trees)) → ⊥
cases_joinable x =
    elim
    ((apart_of 2 (New 0 0) (from_case at_null at_null) (from_case no_trees no_trees) x).middles at_null no_trees
    refl refl) [
      | inl one ↦ other_trees_there one.middles
      | inr apart ↦ apart differ_in_one_child
    ]

-- The same elsewhere, at location 1
joinable_elsewhere : Exploration table (by 1 (New 0 0)) 1 (two_at 1 (as_it_is at_null) (as_it_is no_trees)) → ⊥
joinable_elsewhere x = (apart_of 1 (New 0 0) (as_it_is at_null) (as_it_is no_trees) x).joinable refl differ_in_one_child

-- One case, of which one node was folded, and the other one not
module _ (part : BoxDef) where
  abbrev folded : Forest → Forest → AbstractState
  folded M F =
      record {
        face = table.face;
        forest = F;
        middle = Some M;
        folds = record { box_no = 0; input = 0; output = None; part = part } ∷ [];
      }

  folded_and_not : Exploration table (by 2 (New 0 0)) 1 (two_at 2 (folded either at_null) (from_case either never_set))
      → ⊥
  folded_and_not x =
      elim
      ((apart_of 2 (New 0 0) (folded either at_null) (from_case either never_set) x).middles either either refl
      refl) [
        | inl one ↦ omega (arith, ap (λ (z : List FoldStep). length z) one.folds)
        | inr apart ↦ apart (joined_itself either)
      ]

-- A case without folds that was regrouped into other trees
other_trees : (a : AbstractState) → a.folds ≡ [] → Settles table 1 (bare Null) (bare Uninit) a → ⊥
other_trees a none s = differ (s.unfolded none).vars
  where
    differ : Uninit ∷ [] ≡ Null ∷ [] → ⊥
    differ e = cc

-- A second node of a quiet edge, which stores a number: at location 1; and at the loop head from another case

second_of_a_quiet_edge : Exploration table (by 1 (StoreConst 0 0 (ConstKnown 1))) 1
    (two_at 1 (as_it_is (bare Null)) (as_it_is (bare Uninit))) → ⊥
second_of_a_quiet_edge x =
    true≢false
    (sym
    ((apart_of 1 (StoreConst 0 0 (ConstKnown 1)) (as_it_is (bare Null)) (as_it_is (bare Uninit)) x).quiet_at refl))

second_case_of_a_quiet_edge : Exploration table (by 2 (StoreConst 0 0 (ConstKnown 1))) 1
    (two_at 2 (from_case (bare Null) (bare Null)) (from_case (bare Uninit) (bare Uninit))) → ⊥
second_case_of_a_quiet_edge x =
    differ
    ((apart_of 2 (StoreConst 0 0 (ConstKnown 1)) (from_case (bare Null) (bare Null))
    (from_case (bare Uninit) (bare Uninit)) x).quiet_same
    refl (bare Null) (bare Uninit) refl refl).vars
  where
    differ : Uninit ∷ [] ≡ Null ∷ [] → ⊥
    differ e = cc
