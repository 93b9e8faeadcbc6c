-- The list of the forests into which a forest is split: what each has, and that none is lost.
use Rattle.std.proofs.Common.{◌≡◌, ◌⊎◌, inl, inr, ℕ, length, List, map, refl, sym, subst, ◌∙◌, slice_set, Some}
use Rattle.fore_base.specs.Lists.{IsIn, Every}
use Rattle.fore_base.proofs.ListLemmas.{every_in, in_every, every_map, every_append, in_left, in_right, in_map}
use Rattle.ta_core.specs.Auto.{Automaton, IsRanked}
use Rattle.ta_core.specs.Language.{InLanguage}
use Rattle.ta_core.specs.Single.{HasOneTop}
use Rattle.fa_core.specs.declared.boxes.BoxDef.{BoxDef}
use Rattle.fa_core.specs.declared.faces.Face.{Face}
use Rattle.fa_core.specs.declared.forest.Forest.{Forest}
use Rattle.fa_core.specs.declared.forest.Target.{Target}
use Rattle.fa_core.specs.declared.forest.Target.TheVariants.{At}
use Rattle.fa_core.specs.Boxless.{HasNoBoxes}
use Rattle.fa_core.specs.Choices.{count}
use Rattle.fa_core.specs.Dressed.{Node, End, Nodes, under, leaf, cells}
use Rattle.fa_core.specs.Filled.{IsSound}
use Rattle.fa_core.specs.Member.{OfForest, Regroups, RegroupsInto, bare}
use Rattle.fa_core.proofs.Rearranging.{same}
use Rattle.fa_back.specs.Reached.{node_at}
use Rattle.fa_sound.specs.Components.{component_at}
use Rattle.fa_merge.proofs.PlacedForests.{component_has}
use Rattle.fa_split.specs.Divided.{HasVarsOf}
use Rattle.fa_split.specs.Split.{CanSplit, MayBeLeaf, MayBeCell, child_state, fixed, lifted, split_leaf, split_cells}
use Rattle.fa_split.specs.Split.{IsWhere, AreSplit, end_at, set_node, with_last, top_parts, with_end, IsTakenOut}
use Rattle.fa_split.specs.Split.{IsSplitOf}
use Rattle.fa_split.proofs.FixedTrees.{fixed_one, has_child}
use Rattle.fa_split.proofs.OtherComponent.{component_set, component_first, set_less, tree_at}
use Rattle.fa_split.proofs.Places.{child_of_top, top_of_child}
use Rattle.fa_split.proofs.SplitCells.{RefersWell, node_no_leaf, cells_dressed, taken_regroups, cells_regroup}
use Rattle.fa_split.proofs.SplitLeaves.{leaf_covers, leaf_dressed, leaf_regroups, leaf_plain}
use Rattle.fa_split.proofs.SplitSound.{cells_plain}

module _ (F : Forest) (r p : ℕ) (ranked : Every IsRanked F.autos) (can : CanSplit F r p) where
  abbrev a : Automaton
  a = component_at F.autos r

  a_ranked : IsRanked a
  a_ranked = component_has IsRanked F.autos r ranked can.root

  -- what each forest of a leaf has, and that of the cells, each forest of the list has
  each_split : (P : Forest → Type 0) → ((y : Target) → MayBeLeaf F r p y → P (split_leaf F r p y))
      → (MayBeCell F r p → P (split_cells F r p)) → (Gs : List Forest) → AreSplit F r p Gs → Every P Gs
  each_split P l c Gs (ys, those, (Hs, where_, is)) =
      subst (Every P) (sym is) (every_append P (map (split_leaf F r p) ys) Hs
      (every_map (split_leaf F r p) P ys
      (in_every (λ y. P (split_leaf F r p y)) ys (λ y i. l y (every_in (MayBeLeaf F r p) ys y those.each i))))
      (of_cells where_))
    where
      of_cells : IsWhere (MayBeCell F r p) (split_cells F r p) Hs → Every P Hs
      of_cells (inl (m, e)) = subst (Every P) (sym e) (c m, tt)
      of_cells (inr (n, e)) = subst (Every P) (sym e) tt

  leaf_in : (Gs : List Forest) → AreSplit F r p Gs → (y : Target) → MayBeLeaf F r p y → IsIn (split_leaf F r p y) Gs
  leaf_in Gs (ys, those, (Hs, where_, is)) y m =
      subst (λ (Ks : List Forest). IsIn (split_leaf F r p y) Ks) (sym is)
      (in_left (split_leaf F r p y) (map (split_leaf F r p) ys) Hs (in_map (split_leaf F r p) y ys (those.all y m)))

  cells_in : (Gs : List Forest) → AreSplit F r p Gs → MayBeCell F r p → IsIn (split_cells F r p) Gs
  cells_in Gs (ys, those, (Hs, where_, is)) m =
      subst (λ (Ks : List Forest). IsIn (split_cells F r p) Ks) (sym is)
      (in_right (split_cells F r p) (map (split_leaf F r p) ys) Hs (here where_))
    where
      here : IsWhere (MayBeCell F r p) (split_cells F r p) Hs → IsIn (split_cells F r p) Hs
      here (inl (k, e)) = subst (λ (Ks : List Forest). IsIn (split_cells F r p) Ks) (sym e) (inl refl)
      here (inr (n, e)) = absurd (n m)

  pub all_vars : (Gs : List Forest) → AreSplit F r p Gs → Every (HasVarsOf F) Gs
  all_vars = each_split (HasVarsOf F) (λ y m. (refl, refl)) (λ m. (refl, refl))

  pub all_dressed : (T : List BoxDef) (Gs : List Forest) → AreSplit F r p Gs → Every (IsSplitOf T F r p) Gs
  all_dressed T = each_split (IsSplitOf T F r p)
      (λ y m. inl (y, m, refl, leaf_covers F r p ranked can y m, leaf_dressed F r p ranked can y m T))
      (λ m. inr (m, refl, cells_dressed F r p ranked can T))

  pub all_plain : (face : Face) → IsSound face F → Every HasNoBoxes F.autos → (Gs : List Forest) → AreSplit F r p Gs
      → Every (λ G. Every HasNoBoxes G.autos) Gs
  all_plain face sound plain =
      each_split (λ G. Every HasNoBoxes G.autos) (λ y m. leaf_plain F r p ranked can y m plain)
      (λ m. cells_plain face F r p ranked can sound m plain)

  pub all_topped : (Gs : List Forest) → AreSplit F r p Gs → Every (λ G. HasOneTop (component_at G.autos r)) Gs
  all_topped = each_split (λ G. HasOneTop (component_at G.autos r))
      (λ y m. subst HasOneTop (sym (component_set F.autos r (fixed a p y) can.root))
      (fixed_one a p y a_ranked can.top can.place))
      (λ m.
      subst HasOneTop
      (sym
      (component_first (slice_set F.autos r (fixed a p (At (length F.autos)))) (lifted a (child_state a p)) r
      (set_less F.autos r (fixed a p (At (length F.autos))) can.root)
      ∙ component_set F.autos r (fixed a p (At (length F.autos))) can.root))
      (fixed_one a p (At (length F.autos)) a_ranked can.top can.place))

  pub all_regroup : RefersWell F → (T : List BoxDef) (Gs : List Forest) → AreSplit F r p Gs → Every (Regroups T F) Gs
  all_regroup well T = each_split (Regroups T F) (λ y m. leaf_regroups F r p ranked can y m T)
      (λ m. cells_regroup F r p ranked can T well)

  -- each dressed forest is one of a forest of the list where its child is a leaf, and with the child taken out where
  -- that is a cell
  pub all_cases : (T : List BoxDef) (Gs : List Forest) → AreSplit F r p Gs → (d : Nodes) → OfForest T F d
      → ((y : Target) × MayBeLeaf F r p y × IsIn (split_leaf F r p y) Gs × OfForest T (split_leaf F r p y) d)
      ⊎ (IsIn (split_cells F r p) Gs × ((e : Nodes) × IsTakenOut r p d e))
  all_cases T Gs k d h =
      let n = tree_at T F.autos r d can.root h in
      let u = has_child a p (At 0) a_ranked can.top can.place (bare n.0) n.2 in
      let c = top_of_child p n.0 u.0 u.1 in
      here n.0 n.1 n.2 c.0 c.1
    where
      here : (n : Node) → node_at d r ≡ Some n → InLanguage a (bare n) → (e : End) → end_at p (top_parts n) ≡ Some e
          → ((y : Target) × MayBeLeaf F r p y × IsIn (split_leaf F r p y) Gs × OfForest T (split_leaf F r p y) d)
          ⊎ (IsIn (split_cells F r p) Gs × ((e : Nodes) × IsTakenOut r p d e))
      here n at l (leaf y) is =
          let may : MayBeLeaf F r p y = (bare n, l, child_of_top p n (leaf y) is) in
          inl (y, may, leaf_in Gs k y may, (leaf_dressed F r p ranked can y may T d).1 (h, (n, at, is)))
      here n at l (under m) is =
          let may : MayBeCell F r p = (bare m, node_no_leaf m, (bare n, l, child_of_top p n (under m) is)) in
          inr (
            cells_in Gs k may,
            (
              with_last (set_node r (with_end p (leaf (At (count d))) n) d) m,
              record { above = n; child = m; is_above = at; is_child = is; taken = refl },
            ),
          )

  pub all_whole : RefersWell F → (T : List BoxDef) (Gs : List Forest) → AreSplit F r p Gs → RegroupsInto T F Gs
  all_whole well T Gs k d h = elim (all_cases T Gs k d h) [
    | inl (y, may, i, of) ↦ (
      split_leaf F r p y,
      i,
      (d, record { of = of; same_cells = same (cells d); vars = refl; data_vars = refl }),
    )
    | inr (i, (e, t)) ↦ (split_cells F r p, i, (e, taken_regroups F r p ranked can T well d e h t))
  ]
