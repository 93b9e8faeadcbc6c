-- The forest in which the child's cells are a new last root: its dressed forests are those with the child taken out.
use Rattle.std.proofs.Common.{◌≡◌, inl, inr, ℕ, suc, ◌<◌, length, List, [], ◌∷◌, map, refl, sym, ap, subst, ◌∙◌}
use Rattle.std.proofs.Common.{slice_set, Some, false, arith}
use Rattle.std.proofs.lemmas.Option.{same_Some}
use Rattle.fore_base.specs.Lists.{IsIn, Every}
use Rattle.fore_base.specs.declared.store.Value.{Value}
use Rattle.ta_core.specs.Auto.{Automaton, IsRanked}
use Rattle.ta_core.specs.Language.{RunOf, InLanguage}
use Rattle.ta_core.specs.declared.tree.Tree.{out-Tree}
use Rattle.fa_core.specs.declared.boxes.BoxDef.{BoxDef}
use Rattle.fa_core.specs.declared.faces.Face.{Face}
use Rattle.fa_core.specs.declared.forest.Forest.{Forest}
use Rattle.fa_core.specs.declared.forest.Target.{Target}
use Rattle.fa_core.specs.declared.forest.Target.TheVariants.{Null, Uninit, Dangling, At}
use Rattle.fa_core.specs.Cells.{is_leaf}
use Rattle.fa_core.specs.Choices.{count}
use Rattle.fa_core.specs.Dressed.{Node, End, Nodes, node, under, leaf, no_nodes, more, roots_of, value_in, refs}
use Rattle.fa_core.specs.Dressed.{all_refs}
use Rattle.fa_core.specs.Filled.{IsSound}
use Rattle.fa_core.specs.Member.{TreesOf, OfForest, InsidesOf, Regroups, Regrouping, bare, bare_end}
use Rattle.fa_core.specs.References.{AllBelow}
use Rattle.fa_core.proofs.Counts.{below_both}
use Rattle.fa_core.proofs.Dressing.{cell_top}
use Rattle.fa_core.proofs.FilledKept.{refs_of_filled}
use Rattle.fa_core.proofs.Rearranging.{back}
use Rattle.fa_back.specs.Reached.{node_at}
use Rattle.fa_sound.specs.Components.{component_at}
use Rattle.fa_merge.specs.inner.Grafting as grafting
use Rattle.fa_back.proofs.Dressable.{some_choice}
use Rattle.fa_merge.proofs.MergedLast.{split_last, join_last, vars_same, RootsBelow}
use Rattle.fa_merge.proofs.Named.{var_below}
use Rattle.fa_merge.proofs.OtherOrders.{count_trees}
use Rattle.fa_merge.proofs.PlacedForests.{component_has}
use Rattle.fa_sound.proofs.ComponentLemmas.{component_got}
use Rattle.fa_split.specs.Split.{CanSplit, child_state, fixed, lifted, split_cells, end_at, set_node, with_last}
use Rattle.fa_split.specs.Split.{top_parts, with_end, IsTakenOut, IsSplitCells}
use Rattle.fa_split.proofs.FixedTrees.{to_fixed, fixed_leaf, fixed_with, child_run}
use Rattle.fa_split.proofs.LiftedTrees.{lifted_of, to_lifted}
use Rattle.fa_split.proofs.OtherComponent.{tree_at, tree_in, trees_set, set_components}
use Rattle.fa_split.proofs.Places.{child_of_top, top_of_child, end_is_leaf, with_end_symbol, with_end_children}
use Rattle.fa_split.proofs.Places.{with_end_number, with_end_at, with_end_twice, with_end_same, insides_with}
use Rattle.fa_split.proofs.Places.{insides_child, node_set, node_twice, node_same, set_count, roots_set, last_is}
use Rattle.fa_split.proofs.TakenOut.{cells_taken}
use Rattle.fa_split.proofs.TopRules.{tree_by_top}

pub node_no_leaf : (n : Node) → is_leaf (out-Tree (bare n)).symbol ≡ false
node_no_leaf (node c s ds ps) = rw (cell_top c s ds ps) refl

-- References of a forest are to roots that are there.

pub record RefersWell (F : Forest) : Type 0 where
  pub trees : (k : ℕ) (n : Node) → k < length F.autos → InLanguage (component_at F.autos k) (bare n)
      → AllBelow (length F.autos) (refs n)
  pub vars : (k : ℕ) → IsIn (At k) F.vars → k < length F.autos

pub refers_well : (face : Face) (F : Forest) → IsSound face F → RefersWell F
refers_well face F sound = record {
  trees = λ k n l w. refs_of_filled face F sound.well_formed.filled sound.full k (component_at F.autos k) n
      (component_got F.autos k l) w;
  vars = λ k i. (let c = some_choice F.autos sound.full in var_below face F sound.well_formed.filled c.0 c.1 k i);
}

forest_below : (T : List BoxDef) (m : ℕ) (autos : List Automaton) (d : Nodes)
    → ((k : ℕ) (n : Node) → k < length autos → InLanguage (component_at autos k) (bare n) → AllBelow m (refs n))
    → TreesOf T autos d → AllBelow m (all_refs d)
forest_below T m [] no_nodes w h = tt
forest_below T m [] (more n ns) w h = absurd h
forest_below T m (a ∷ autos) no_nodes w h = absurd h
forest_below T m (a ∷ autos) (more n ns) w h =
    below_both m (refs n) (all_refs ns) (w 0 n (omega arith) h.0)
    (forest_below T m autos ns (λ k z l. w (suc k) z (omega (arith, l))) h.2)

-- so are those of each dressed forest
pub all_below : (T : List BoxDef) (F : Forest) (d : Nodes) → RefersWell F → OfForest T F d
    → AllBelow (count d) (all_refs d)
all_below T F d w h = subst (λ (m : ℕ). AllBelow m (all_refs d)) (sym (count_trees T F.autos d h))
    (forest_below T (length F.autos) F.autos d w.trees h)

pub below_vars : (m : ℕ) (us : List Target) → ((k : ℕ) → IsIn (At k) us → k < m) → RootsBelow m us
below_vars m [] h = tt
below_vars m (Null ∷ us) h = below_vars m us (λ k i. h k (inr i))
below_vars m (Uninit ∷ us) h = below_vars m us (λ k i. h k (inr i))
below_vars m (Dangling ∷ us) h = below_vars m us (λ k i. h k (inr i))
below_vars m (At k ∷ us) h = (h k (inl refl), below_vars m us (λ k i. h k (inr i)))

-- A child taken out leaves the targets as they are.
taken_vars : (F : Forest) (r p : ℕ) (d e : Nodes) → RefersWell F → count d ≡ length F.autos → IsTakenOut r p d e
    → map (value_in (roots_of d)) F.vars ≡ map (value_in (roots_of e)) F.vars
taken_vars F r p d e w c t =
    let ns = set_node r (with_end p (leaf (At (count d))) t.above) d in
    let same : roots_of ns ≡ roots_of d =
    roots_set r d t.above (with_end p (leaf (At (count d))) t.above) t.is_above
    (with_end_number p (leaf (At (count d))) t.above) in
    let long : count ns ≡ length F.autos = set_count r (with_end p (leaf (At (count d))) t.above) d ∙ c in
    let low : RootsBelow (count ns) F.vars =
    subst (λ (m : ℕ). RootsBelow m F.vars) (sym long) (below_vars (length F.autos) F.vars w.vars) in
    ap (λ (vs : List Value). map (value_in vs) F.vars) (sym same)
    ∙ sym (vars_same ns t.child F.vars low)
    ∙ ap (λ (x : Nodes). map (value_in (roots_of x)) F.vars) (sym (last_is ns t.child))
    ∙ ap (λ (x : Nodes). map (value_in (roots_of x)) F.vars) (sym t.taken)

module _ (F : Forest) (r p : ℕ) (ranked : Every IsRanked F.autos) (can : CanSplit F r p) where
  abbrev a : Automaton
  a = component_at F.autos r

  abbrev N : ℕ
  N = length F.autos

  abbrev top_fixed : Automaton
  top_fixed = fixed a p (At N)

  abbrev cells_of : Automaton
  cells_of = lifted a (child_state a p)

  abbrev others : List Automaton
  others = slice_set F.autos r top_fixed

  abbrev G : Forest
  G = split_cells F r p

  a_ranked : IsRanked a
  a_ranked = component_has IsRanked F.autos r ranked can.root

  module _ (T : List BoxDef) where
    -- with the child taken out, a dressed forest is one of the new forest
    pub taken_of : (d e : Nodes) → OfForest T F d → IsTakenOut r p d e → OfForest T G e
    taken_of d e h t =
        let k = tree_at T F.autos r d can.root h in
        let w : k.0 ≡ t.above = same_Some k.0 t.above (sym k.1 ∙ t.is_above) in
        let lang : InLanguage a (bare t.above) = subst (λ (n : Node). InLanguage a (bare n)) w k.2 in
        let ins : InsidesOf T t.above = subst (λ (n : Node). InsidesOf T n) w k.3 in
        let n : Node = with_end p (leaf (At (count d))) t.above in
        let run : RunOf a.rules (child_state a p) (bare t.child) =
        child_run a p (At N) a_ranked can.top can.place (bare t.above) (bare t.child) lang
        (child_of_top p t.above (under t.child) t.is_child) in
        let long : count d ≡ N = count_trees T F.autos d h in
        let top : InLanguage top_fixed (bare n) =
        to_fixed a p (At N) a_ranked can.top can.place (bare n) (bare t.above)
        (tree_by_top a can.top (bare t.above) lang)
        (with_end_symbol p (leaf (At (count d))) t.above)
        (with_end_children p (leaf (At (count d))) t.above
        ∙ ap (λ (m : ℕ). slice_set (out-Tree (bare t.above)).children p (bare_end (leaf (At m)))) long) in
        let all : TreesOf T others (set_node r n d) =
        trees_set T F.autos r top_fixed d n h top (insides_with T p t.above (leaf (At (count d))) tt ins) in
        subst (λ (x : Nodes). TreesOf T G.autos x) (sym (last_is (set_node r n d) t.child) ∙ sym t.taken)
        (join_last T others cells_of (set_node r n d) t.child all
        (to_lifted a (child_state a p) a_ranked (bare t.child) run (node_no_leaf t.child))
        (insides_child T p t.above (under t.child) t.is_child ins))

    -- and each dressed forest of the new one is one with the child taken out
    pub of_taken : (e : Nodes) → OfForest T G e → (d : Nodes) × OfForest T F d × IsTakenOut r p d e
    of_taken e h =
        let s = split_last T others cells_of e h in
        let k = tree_in T F.autos r top_fixed s.0 can.root s.3 in
        here s.0 s.1 s.2 s.3 s.4 s.5 k.0 k.1 k.2 k.3
      where
        here : (ns : Nodes) (m : Node) → e ≡ grafting.with_last ns m → TreesOf T others ns
            → InLanguage cells_of (bare m) → InsidesOf T m → (n : Node) → node_at ns r ≡ Some n
            → InLanguage top_fixed (bare n) → InsidesOf T n → (d : Nodes) × OfForest T F d × IsTakenOut r p d e
        here ns m is all lm im n at ln ins =
            let c = top_of_child p n (bare_end (leaf (At N)))
            (fixed_leaf a p (At N) a_ranked can.top can.place (bare n) ln) in
            let ends : end_at p (top_parts n) ≡ Some (leaf (At N)) =
            c.1 ∙ ap (λ (z : End). Some z) (end_is_leaf c.0 (At N) c.2) in
            let u : Node = with_end p (under m) n in
            let d : Nodes = set_node r u ns in
            let run = lifted_of a (child_state a p) a_ranked (bare m) lm in
            let lang : InLanguage a (bare u) =
            fixed_with a p (At N) a_ranked can.top can.place (bare n) (bare u) (bare m) ln run.0
            (with_end_symbol p (under m) n) (with_end_children p (under m) n) in
            let od : OfForest T F d =
            subst (λ (z : List Automaton). TreesOf T z d) (set_components F.autos r top_fixed can.root)
            (trees_set T others r a ns u all lang (insides_with T p n (under m) im ins)) in
            let long : count d ≡ N = count_trees T F.autos d od in
            let back_top : with_end p (leaf (At (count d))) u ≡ n = ap (λ (z : ℕ). with_end p (leaf (At z)) u) long
            ∙ with_end_twice p n (leaf (At N)) (under m) ∙ with_end_same p n (leaf (At N)) ends in
            let back_all : set_node r (with_end p (leaf (At (count d))) u) d ≡ ns =
            ap (λ (z : Node). set_node r z d) back_top ∙ node_twice r ns n u ∙ node_same r ns n at in (
              d,
              od,
              record {
                above = u;
                child = m;
                is_above = node_set r ns n u at;
                is_child = with_end_at p n (leaf (At N)) (under m) ends;
                taken = is ∙ sym (last_is ns m) ∙ ap (λ (z : Nodes). with_last z m) (sym back_all);
              },
            )

    pub cells_dressed : IsSplitCells T F r p G
    cells_dressed = record { forth = taken_of; back = of_taken }

    module _ (well : RefersWell F) where
      -- the child taken out regroups the cells
      pub taken_regroups : (d e : Nodes) → OfForest T F d → IsTakenOut r p d e → Regrouping T G F d e
      taken_regroups d e h t = record {
        of = taken_of d e h t;
        same_cells = cells_taken r p d e t (all_below T F d well h);
        vars = taken_vars F r p d e well (count_trees T F.autos d h) t;
        data_vars = refl;
      }

      pub cells_regroup : Regroups T F G
      cells_regroup e h =
          let k = of_taken e h in
          let g = taken_regroups k.0 e k.1 k.2 in
          (k.0, record { of = k.1; same_cells = back g.same_cells; vars = sym g.vars; data_vars = refl })
