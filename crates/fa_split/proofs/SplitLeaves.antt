-- The forests in which the child is one leaf.
use Rattle.std.proofs.Common.{◌≡◌, ℕ, List, refl, sym, ap, subst, ◌∙◌, slice_get, slice_set, Some}
use Rattle.std.proofs.lemmas.Option.{same_Some}
use Rattle.fore_base.specs.Lists.{Every}
use Rattle.ta_core.specs.Auto.{Automaton, IsRanked}
use Rattle.ta_core.specs.Language.{RunOf, InLanguage, IsWithin}
use Rattle.ta_core.specs.declared.tree.Tree.{Tree, out-Tree, roll-Tree, out-roll-Tree}
use Rattle.fa_core.specs.declared.boxes.BoxDef.{BoxDef}
use Rattle.fa_core.specs.declared.faces.BoxFace.{BoxFace}
use Rattle.fa_core.specs.declared.faces.Face.{Face}
use Rattle.fa_core.specs.declared.forest.Forest.{Forest}
use Rattle.fa_core.specs.declared.forest.Target.{Target}
use Rattle.fa_core.specs.declared.forest.Target.TheVariants.{Null, Uninit, Dangling, At}
use Rattle.fa_core.specs.Boxless.{HasNoBoxes}
use Rattle.fa_core.specs.Covering.{Covers}
use Rattle.fa_core.specs.Dressed.{Node, leaf}
use Rattle.fa_core.specs.Filled.{SymbolFits, RulesFit, HasSignatures, IsSound}
use Rattle.fa_core.specs.Member.{OfForest, Regroups, bare, bare_end, leaf_symbol}
use Rattle.fa_sound.specs.Components.{component_at}
use Rattle.fa_merge.proofs.PlacedForests.{component_has}
use Rattle.fa_split.specs.Split.{CanSplit, MayStand, MayBeLeaf, child_state, fixed, split_leaf, HasChild, IsSplitLeaf}
use Rattle.fa_split.proofs.FixedSigned.{fixed_plain, tops_signed}
use Rattle.fa_split.proofs.FixedTrees.{to_fixed, fixed_leaf, fixed_within, child_run, fixed_symbols}
use Rattle.fa_split.proofs.OtherComponent.{every_put, tree_at, tree_in, trees_keep, within_sound, within_covers}
use Rattle.fa_split.proofs.OtherComponent.{within_dressed, within_regroups}
use Rattle.fa_split.proofs.Places.{child_of_top, top_of_child, end_is_leaf}
use Rattle.fa_split.proofs.RunPlaces.{set_same}
use Rattle.fa_split.proofs.TopRules.{tree_by_top}

-- the tree with another child at place p
abbrev pub with_child : ℕ → Tree → Tree → Tree
with_child p u t = roll-Tree (record { symbol = (out-Tree t).symbol; children = slice_set (out-Tree t).children p u })

pub with_child_symbol : (p : ℕ) (u t : Tree) → (out-Tree (with_child p u t)).symbol ≡ (out-Tree t).symbol
with_child_symbol p u t =
    rw (out-roll-Tree (record { symbol = (out-Tree t).symbol; children = slice_set (out-Tree t).children p u })) refl

pub with_child_children : (p : ℕ) (u t : Tree) → (out-Tree (with_child p u t)).children
    ≡ slice_set (out-Tree t).children p u
with_child_children p u t =
    rw (out-roll-Tree (record { symbol = (out-Tree t).symbol; children = slice_set (out-Tree t).children p u })) refl

pub fitting_leaf : (face : Face) (y : Target) → SymbolFits face (leaf_symbol y)
fitting_leaf face Null = tt
fitting_leaf face Uninit = tt
fitting_leaf face Dangling = tt
fitting_leaf face (At k) = tt

module _ (F : Forest) (r p : ℕ) (ranked : Every IsRanked F.autos) (can : CanSplit F r p) (y : Target) where
  abbrev a : Automaton
  a = component_at F.autos r

  a_ranked : IsRanked a
  a_ranked = component_has IsRanked F.autos r ranked can.root

  -- what may stand in the place has a run to the child's state
  pub may_run : (u : Tree) → MayStand F r p u → RunOf a.rules (child_state a p) u
  may_run u (t, l, e) = child_run a p y a_ranked can.top can.place t u l e

  module _ (may : MayBeLeaf F r p y) where
    leaf_within : IsWithin (fixed a p y) a
    leaf_within = fixed_within a p y a_ranked can.top can.place (may_run (bare_end (leaf y)) may)

    to_leaf : (t : Tree) → InLanguage a t → slice_get (out-Tree t).children p ≡ Some (bare_end (leaf y))
        → InLanguage (fixed a p y) t
    to_leaf t l e = to_fixed a p y a_ranked can.top can.place t t (tree_by_top a can.top t l) refl
        (sym (set_same (out-Tree t).children p (bare_end (leaf y)) e))

    -- the dressed forests are those of F whose child is the leaf
    pub leaf_dressed : (T : List BoxDef) → IsSplitLeaf T F r p y (split_leaf F r p y)
    leaf_dressed T d = (forth, back)
      where
        forth : OfForest T (split_leaf F r p y) d → OfForest T F d × HasChild d r p (leaf y)
        forth h =
            let k = tree_in T F.autos r (fixed a p y) d can.root h in
            let c = top_of_child p k.0 (bare_end (leaf y)) (fixed_leaf a p y a_ranked can.top can.place (bare k.0) k.2)
            in (
              within_dressed F r (fixed a p y) leaf_within T d can.root h,
              (k.0, k.1, c.1 ∙ ap (λ e. Some e) (end_is_leaf c.0 y c.2)),
            )

        back : OfForest T F d × HasChild d r p (leaf y) → OfForest T (split_leaf F r p y) d
        back (h, (n, e, c)) =
            let k = tree_at T F.autos r d can.root h in
            let l : InLanguage a (bare n) =
            subst (λ (z : Node). InLanguage a (bare z)) (same_Some k.0 n (sym k.1 ∙ e)) k.2 in
            trees_keep T F.autos r (fixed a p y) d n h e (to_leaf (bare n) l (child_of_top p n (leaf y) c))

    pub leaf_covers : Covers F (split_leaf F r p y)
    leaf_covers = within_covers F r (fixed a p y) leaf_within

    pub leaf_regroups : (T : List BoxDef) → Regroups T F (split_leaf F r p y)
    leaf_regroups T = within_regroups F r (fixed a p y) leaf_within T can.root

    pub leaf_plain : Every HasNoBoxes F.autos → Every HasNoBoxes (split_leaf F r p y).autos
    leaf_plain plain = every_put HasNoBoxes F.autos r (fixed a p y) plain
        (fixed_plain a p y a_ranked can.top can.place (component_has HasNoBoxes F.autos r plain can.root))

    -- the trees are some of the old component's, so they have its signature
    leaf_signed : (bs : List BoxFace) → HasSignatures bs a → HasSignatures bs (fixed a p y)
    leaf_signed bs h = tops_signed a p y a_ranked can.top can.place bs h
        (λ t u v w. h.component t u (leaf_within t v) (leaf_within u w))

    pub leaf_sound : (face : Face) → IsSound face F → IsSound face (split_leaf F r p y)
    leaf_sound face sound = within_sound F r (fixed a p y) leaf_within face
        (fixed_symbols a p y a_ranked can.top can.place (SymbolFits face) (fitting_leaf face y)
        (component_has (RulesFit face) F.autos r sound.well_formed.filled.rules can.root))
        (leaf_signed face.boxes
        (component_has (HasSignatures face.boxes) F.autos r sound.well_formed.signatures can.root))
        (may.0, to_leaf may.0 may.1 may.2)
        sound
