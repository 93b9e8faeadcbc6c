-- A forest without one of its roots: its dressed forests are those of the forest without that root's tree.
use Rattle.std.proofs.Common.{◌≡◌, ℕ, zero, suc, true, true≢false, List, [], ◌∷◌, remove, refl, sym, ap, subst, ◌∙◌}
use Rattle.std.proofs.Common.{slice_get, Some}
use Rattle.std.proofs.lemmas.Option.{none-some, same_Some}
use Rattle.fore_base.specs.Lists.{Every}
use Rattle.fore_base.specs.declared.store.Datum.{Datum}
use Rattle.ta_core.specs.Auto.{Automaton}
use Rattle.ta_core.specs.Language.{InLanguage}
use Rattle.ta_core.specs.declared.symbol.Symbol.TheVariants.{Cell as CellSymbol}
use Rattle.ta_core.specs.declared.tree.Tree.{Tree, out-Tree, out-roll-Tree}
use Rattle.fa_core.specs.declared.boxes.BoxDef.{BoxDef}
use Rattle.fa_core.specs.declared.faces.BoxFace.{BoxFace}
use Rattle.fa_core.specs.declared.forest.Forest.{Forest}
use Rattle.fa_core.specs.Boxless.{IsField}
use Rattle.fa_core.specs.Cells.{is_leaf}
use Rattle.fa_core.specs.Choices.{bares}
use Rattle.fa_core.specs.Dressed.{Node, Parts, End, Nodes, node, no_parts, field, link, hook, under, leaf, no_nodes}
use Rattle.fa_core.specs.Dressed.{more}
use Rattle.fa_core.specs.Member.{TreesOf, OfForest, InsidesOf, InsidesOfParts, bare, bare_parts, bare_end, slots_of}
use Rattle.fa_core.specs.Placed.{placed_all}
use Rattle.fa_core.proofs.Dressing.{choice_of, cell_top}
use Rattle.fa_core.proofs.Placing.{trees_placed, trees_from}
use Rattle.fa_merge.specs.Dropped.{drop_leaf, but_place, dropped_forest, HasFieldsOnly, IsFlat, CanDrop}
use Rattle.fa_back.specs.Reached.{node_at}
use Rattle.fa_merge.specs.Dropped.{without_node, dropped, AreLeaves, IsFlatRoot, IsCut}
use Rattle.fa_merge.proofs.RootTrees.{tree_there, bare_at}

-- Lists without the item at a place.

pub remove_is : {X : Type 0} (xs : List X) (i : ℕ) → remove xs i ≡ but_place i xs
remove_is [] zero = refl
remove_is [] (suc i) = refl
remove_is (x ∷ xs) zero = refl
remove_is {X} (x ∷ xs) (suc i) = ap (λ (z : List X). x ∷ z) (remove_is xs i)

-- Trees by place.

pub trees_removed : (T : List BoxDef) (autos : List Automaton) (r : ℕ) (d : Nodes) → TreesOf T autos d
    → TreesOf T (but_place r autos) (without_node r d)
trees_removed T [] r no_nodes h = tt
trees_removed T [] r (more n ns) h = absurd h
trees_removed T (a ∷ autos) r no_nodes h = absurd h
trees_removed T (a ∷ autos) zero (more n ns) h = h.2
trees_removed T (a ∷ autos) (suc r) (more n ns) h = (h.0, h.1, trees_removed T autos r ns h.2)

-- the trees with one more at place r
pub trees_added : (T : List BoxDef) (autos : List Automaton) (r : ℕ) (a : Automaton) (n : Node) (d : Nodes)
    → slice_get autos r ≡ Some a → InLanguage a (bare n) → InsidesOf T n → TreesOf T (but_place r autos) d
    → (e : Nodes) × TreesOf T autos e × (without_node r e ≡ d) × (node_at e r ≡ Some n)
trees_added T [] r a n d e w i h = absurd (none-some a e)
trees_added T (b ∷ autos) zero a n d e w i h =
    (more n d, (subst (λ (z : Automaton). InLanguage z (bare n)) (sym (same_Some b a e)) w, i, h), refl, refl)
trees_added T (b ∷ autos) (suc r) a n no_nodes e w i h = absurd h
trees_added T (b ∷ autos) (suc r) a n (more m d) e w i h =
    let k = trees_added T autos r a n d e w i h.2 in
    (more m k.0, (h.0, h.1, k.1), ap (more m) k.2, k.3)

-- Flat cells.

abbrev IsLeafEnd : End → Type 0
IsLeafEnd (leaf t) = Unit {0}
IsLeafEnd (under n) = ⊥

leaf_end : (e : End) → is_leaf (out-Tree (bare_end e)).symbol ≡ true → IsLeafEnd e
leaf_end (leaf t) h = tt
leaf_end (under (node c s ds ps)) h = absurd (true≢false (sym h ∙ ap is_leaf (cell_top c s ds ps)))

flat_parts : (ps : Parts) → Every IsField (slots_of ps)
    → Every (λ (u : Tree). is_leaf (out-Tree u).symbol ≡ true) (bare_parts ps) → AreLeaves ps
flat_parts no_parts f h = tt
flat_parts (field g (leaf t) ps) f h = flat_parts ps f.1 h.1
flat_parts (field g (under n) ps) f h = absurd (leaf_end (under n) h.0)
flat_parts (link b i e ps) f h = absurd f.0
flat_parts (hook b i ps) f h = absurd f.0

pub flat_node : (c s : ℕ) (ds : List Datum) (ps : Parts) → IsFlat (bare (node c s ds ps)) → AreLeaves ps
flat_node c s ds ps h =
    flat_parts ps (subst HasFieldsOnly (cell_top c s ds ps) h.0)
    (subst (λ (us : List Tree). Every (λ (u : Tree). is_leaf (out-Tree u).symbol ≡ true) us) (children_of c s ds ps)
    h.1)
  where
    children_of : (c s : ℕ) (ds : List Datum) (ps : Parts) → (out-Tree (bare (node c s ds ps))).children ≡ bare_parts ps
    children_of c s ds ps = rw
        (out-roll-Tree (record { symbol = CellSymbol s ds (slots_of ps); children = bare_parts ps })) refl

-- a flat cell has no insides
flat_insides : (T : List BoxDef) (ps : Parts) → AreLeaves ps → InsidesOfParts T ps
flat_insides T no_parts h = tt
flat_insides T (field g (leaf t) ps) h = (tt, flat_insides T ps h)
flat_insides T (field g (under n) ps) h = absurd h
flat_insides T (link b i e ps) h = absurd h
flat_insides T (hook b i ps) h = absurd h

module _ (T : List BoxDef) (bs : List BoxFace) (F : Forest) (r : ℕ) (can : CanDrop bs F r) where
  flat_root : (d : Nodes) → OfForest T F d → (c : ℕ) × IsFlatRoot d r c
  flat_root d h = let x = tree_there T F.autos d r h can.root in here x.0 x.1
    where
      here : (n : Node) → node_at d r ≡ Some n → (c : ℕ) × IsFlatRoot d r c
      here (node c s ds ps) e = (
        c,
        (
          s,
          ds,
          ps,
          e,
          flat_node c s ds ps
              (can.flat (bares d) (bare (node c s ds ps)) (choice_of T F.autos d h) (bare_at d r (node c s ds ps) e)),
        ),
      )

  -- a flat tree for the root, its cell of any number
  module _ (n : Node) (one : (a : Automaton) × (slice_get F.autos r ≡ Some a) × InLanguage a (bare n))
      (flat : IsFlat (bare n)) where
    numbered : (c : ℕ) → (m : Node) × (bare m ≡ bare n) × InsidesOf T m
        × ((s : ℕ) × (ds : List Datum) × (ps : Parts) × (m ≡ node c s ds ps) × AreLeaves ps)
    numbered c = here n flat
      where
        here : (n : Node) → IsFlat (bare n) → (m : Node) × (bare m ≡ bare n) × InsidesOf T m
            × ((s : ℕ) × (ds : List Datum) × (ps : Parts) × (m ≡ node c s ds ps) × AreLeaves ps)
        here (node b s ds ps) f = let k = flat_node b s ds ps f in
            (node c s ds ps, refl, flat_insides T ps k, (s, ds, ps, refl, k))

    cut_back : (d : Nodes) → OfForest T (dropped_forest r F) d → (c : ℕ) → (e : Nodes) × OfForest T F e
        × (dropped r e ≡ d) × IsFlatRoot e r c
    cut_back d h c =
        let k = trees_from (drop_leaf r) T (but_place r F.autos) d h in
        let m = numbered c in
        let e = trees_added T F.autos r one.0 m.0 k.0 one.1 (subst (λ (z : Tree). InLanguage one.0 z) (sym m.1) one.2)
        m.2 k.2 in (
          e.0,
          e.1,
          ap (placed_all (drop_leaf r)) e.2 ∙ k.1,
          (m.3.0, m.3.1, m.3.2, e.3 ∙ ap (λ (z : Node). Some z) m.3.3, m.3.4),
        )

    pub cut_forest : IsCut T F (dropped_forest r F) r
    cut_forest = record {
      vars = refl;
      data_vars = refl;
      top = flat_root;
      forth = λ d h. trees_placed (drop_leaf r) T (but_place r F.autos) (without_node r d)
          (trees_removed T F.autos r d h);
      back = cut_back;
    }
