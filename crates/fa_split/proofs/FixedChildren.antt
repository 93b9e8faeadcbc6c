-- In each forest into which a forest is split the child is one leaf alone.
use Rattle.std.proofs.Common.{◌≡◌, inl, inr, ℕ, suc, ◌<◌, ◌+◌, length, List, [], ◌∷◌, sym, ap, subst, ◌∙◌}
use Rattle.std.proofs.Common.{slice_get, slice_set, Some, length-set, length-append, arith}
use Rattle.fore_base.specs.Lists.{Every}
use Rattle.ta_core.specs.Auto.{Automaton, IsRanked}
use Rattle.ta_core.specs.Language.{RunOf, InLanguage}
use Rattle.ta_core.specs.Single.{HasOneTop}
use Rattle.ta_core.specs.declared.auto.Rule.{Rule}
use Rattle.ta_core.specs.declared.tree.Tree.{Tree, out-Tree}
use Rattle.fa_core.specs.declared.boxes.BoxDef.{BoxDef}
use Rattle.fa_core.specs.declared.faces.Face.{Face}
use Rattle.fa_core.specs.declared.forest.Forest.{Forest}
use Rattle.fa_core.specs.declared.forest.Target.{Target}
use Rattle.fa_core.specs.declared.forest.Target.TheVariants.{At}
use Rattle.fa_core.specs.Dressed.{End, leaf, leaf_refs}
use Rattle.fa_core.specs.Filled.{IsRoot, IsSound}
use Rattle.fa_core.specs.Member.{bare, bare_end}
use Rattle.fa_core.specs.References.{AllBelow}
use Rattle.fa_sound.specs.Components.{component_at}
use Rattle.fa_merge.proofs.PlacedForests.{component_has}
use Rattle.fa_split.specs.Split.{CanSplit, IsFixedAt, IsSplitOf, MayBeLeaf, child_state, end_at, fixed, lifted}
use Rattle.fa_split.specs.Split.{split_cells, split_leaf, top_parts, top_rule}
use Rattle.fa_split.proofs.FixedTrees.{fixed_one, fixed_top, leaf_back, leaf_to}
use Rattle.fa_split.proofs.HollowEnds.{tree_is_node}
use Rattle.fa_split.proofs.OtherComponent.{component_first, component_set, set_less}
use Rattle.fa_split.proofs.Places.{end_is_leaf, top_of_child}
use Rattle.fa_split.proofs.SplitCells.{refers_well}
use Rattle.fa_split.proofs.TakenOut.{below_top}

-- a leaf that refers to roots below n
pub leaf_below : (n : ℕ) (y : Target) → AllBelow n (leaf_refs y) → IsRoot n y
leaf_below n y h k e = (subst (λ (z : Target). AllBelow n (leaf_refs z)) e h).0

module _ (face : Face) (F : Forest) (r p : ℕ) (ranked : Every IsRanked F.autos) (can : CanSplit F r p)
    (sound : IsSound face F) where
  abbrev a : Automaton
  a = component_at F.autos r

  abbrev N : ℕ
  N = length F.autos

  a_ranked : IsRanked a
  a_ranked = component_has IsRanked F.autos r ranked can.root

  -- a forest with the fixed component at root r
  fixed_at : (y : Target) (G : Forest) → r < length G.autos → component_at G.autos r ≡ fixed a p y
      → IsRoot (length G.autos) y → IsFixedAt F r p y G
  fixed_at y G l e h =
      let top = fixed_top a p y a_ranked can.top can.place in
      record {
        root = l;
        top = subst HasOneTop (sym e) (fixed_one a p y a_ranked can.top can.place);
        symbol = ap (λ (b : Automaton). (top_rule b).symbol) e ∙ ap (λ (x : Rule). x.symbol) top;
        state = a.states + 1;
        children = ap (λ (b : Automaton). (top_rule b).children) e ∙ ap (λ (x : Rule). x.children) top;
        run = subst (λ (b : Automaton). RunOf b.rules (a.states + 1) (bare_end (leaf y))) (sym e)
            (leaf_to a p y a_ranked can.top can.place);
        only = λ t w. leaf_back a p y a_ranked can.top can.place (a.states + 1) t (omega arith)
            (subst (λ (b : Automaton). RunOf b.rules (a.states + 1) t) e w);
        end = h;
      }

  -- a leaf that the child may be names a root that is there
  pub leaf_there : (y : Target) → MayBeLeaf F r p y → IsRoot N y
  leaf_there y (t, l, e) =
      let n = tree_is_node face F sound.well_formed.filled sound.full ranked r can.root t l in
      let w : InLanguage a (bare n.0) = subst (λ (z : Tree). InLanguage a z) (sym n.1) l in
      let c = top_of_child p n.0 (bare_end (leaf y))
      (subst (λ (z : Tree). slice_get (out-Tree z).children p ≡ Some (bare_end (leaf y))) (sym n.1) e) in
      let ends : end_at p (top_parts n.0) ≡ Some (leaf y) =
      c.1 ∙ ap (λ (z : End). Some z) (end_is_leaf c.0 y c.2) in
      leaf_below N y (below_top N p n.0 (leaf y) ends ((refers_well face F sound).trees r n.0 can.root w))

  leaf_fixed : (y : Target) → MayBeLeaf F r p y → IsFixedAt F r p y (split_leaf F r p y)
  leaf_fixed y m =
      fixed_at y (split_leaf F r p y) (set_less F.autos r (fixed a p y) can.root)
      (component_set F.autos r (fixed a p y) can.root)
      (subst (λ (n : ℕ). IsRoot n y) (sym (length-set F.autos r (fixed a p y))) (leaf_there y m))

  cells_fixed : IsFixedAt F r p (At N) (split_cells F r p)
  cells_fixed =
      let b = fixed a p (At N) in
      let c = lifted a (child_state a p) in
      let size : length (split_cells F r p).autos ≡ suc N = length-append (slice_set F.autos r b) (c ∷ [])
      ∙ ap (λ (n : ℕ). n + 1) (length-set F.autos r b) ∙ omega arith in
      let l = can.root in
      fixed_at (At N) (split_cells F r p) (omega (arith, size, l))
      (component_first (slice_set F.autos r b) c r (set_less F.autos r b l) ∙ component_set F.autos r b l)
      (subst (λ (n : ℕ). IsRoot n (At N)) (sym size) (leaf_below (suc N) (At N) (omega arith, tt)))

  pub split_fixed : (T : List BoxDef) (G : Forest) → IsSplitOf T F r p G → (y : Target) × IsFixedAt F r p y G
  split_fixed T G (inl (y, m, e, c, k)) = (y, subst (IsFixedAt F r p y) (sym e) (leaf_fixed y m))
  split_fixed T G (inr (m, e, k)) = (At N, subst (IsFixedAt F r p (At N)) (sym e) cells_fixed)
