-- A root with one rule, and a pointer field at which one leaf stands.
use Rattle.std.proofs.Common.{◌≡◌, ◌≢◌, ◌↔◌, ℕ, ◌+◌, length, List, [], ◌∷◌, refl, sym, ap, subst, ◌∙◌, Some, None}
use Rattle.std.proofs.Common.{arith}
use Rattle.fore_base.specs.Lists.{IsIn, Every}
use Rattle.fore_base.specs.declared.shape.Shape.{Shape}
use Rattle.fore_base.proofs.ListLemmas.{every_in, in_every}
use Rattle.ta_core.specs.Arity.{arity, child_slots}
use Rattle.ta_core.specs.Auto.{Automaton, IsRanked, IsRankedRule}
use Rattle.ta_core.specs.Language.{RunOf, run, RunEach, run_none, InLanguage}
use Rattle.ta_core.specs.declared.auto.Rule.{Rule}
use Rattle.ta_core.specs.declared.symbol.Slot.{Slot}
use Rattle.ta_core.specs.declared.symbol.Symbol.{Symbol}
use Rattle.ta_core.specs.declared.symbol.Symbol.TheVariants.{Null as NullSymbol, Uninit as UninitSymbol}
use Rattle.ta_core.specs.declared.symbol.Symbol.TheVariants.{Dangling as DanglingSymbol, Ref, Cell}
use Rattle.ta_core.specs.declared.tree.Tree.{Tree, out-Tree, out-roll-Tree}
use Rattle.fa_core.specs.declared.boxes.BoxDef.{BoxDef}
use Rattle.fa_core.specs.declared.forest.Forest.{Forest}
use Rattle.fa_core.specs.declared.forest.Target.{Target}
use Rattle.fa_core.specs.Dressed.{Node, Parts, End, node, leaf}
use Rattle.fa_core.specs.Folding.{symbol_slots}
use Rattle.fa_core.specs.Member.{bare, bare_end, slots_of, leaf_symbol}
use Rattle.fa_core.proofs.Dressing.{leaf_top, cell_top}
use Rattle.fa_edit.specs.Leaves.{AllHaveLeaf, AllLackField, end_of_field, with_leaf}
use Rattle.fa_edit.specs.Plain.{HasOnlyLeaf, IsOnlyLeaf, IsLeafPlace, IsPlainAt, field_place_from, place_at}
use Rattle.fa_edit.proofs.FieldPlaces.{place_below, end_from, put_from, none_from}
use Rattle.fa_sound.specs.Components.{component_at}
use Rattle.fa_merge.proofs.PlacedForests.{component_has}
use Rattle.fa_split.specs.Split.{CanSplit, top_rule, child_state, top_parts, end_at, with_end}
use Rattle.fa_split.proofs.ChosenTrees.{leaf_arity}
use Rattle.fa_split.proofs.FixedTrees.{child_there}
use Rattle.fa_split.proofs.OtherComponent.{tree_at}
use Rattle.fa_split.proofs.Places.{top_of_child, end_is_leaf, leaf_tree}
use Rattle.fa_split.proofs.RunPlaces.{each_at}
use Rattle.fa_split.proofs.TopRules.{top_in, tree_by_top}

empty : (qs : List ℕ) → length qs ≡ 0 → qs ≡ []
empty [] l = refl
empty (z ∷ qs) l = absurd (omega (arith, l))

-- a cell's symbol has a child for each slot that is no Hook, a leaf's has none
slots_arity : (y : Symbol) → child_slots (symbol_slots y) ≡ arity y
slots_arity NullSymbol = refl
slots_arity UninitSymbol = refl
slots_arity DanglingSymbol = refl
slots_arity (Ref r) = refl
slots_arity (Cell s ds ss) = refl

pub slots_at_top : (n : Node) → symbol_slots (out-Tree (bare n)).symbol ≡ slots_of (top_parts n)
slots_at_top (node c s ds ps) = ap symbol_slots (cell_top c s ds ps)

-- what reads the leaf off a rule of the state reads the one leaf
pub only_read : (rules : List Rule) (q : ℕ) (x : Rule) (u : Target) → IsIn x rules → x.state ≡ q
    → ((t : Target) → x.symbol ≡ leaf_symbol t → u ≡ t) → HasOnlyLeaf rules q → IsOnlyLeaf rules q u
only_read rules q x u i s read (t, h) = subst (λ (v : Target). IsOnlyLeaf rules q v) (sym (read t (h.only x i s))) h

-- and each rule of the state is that leaf exactly where it is the one leaf
pub only_all : (rules : List Rule) (q : ℕ) (x : Rule) (u : Target) → IsIn x rules → x.state ≡ q
    → ((t : Target) → x.symbol ≡ leaf_symbol t → u ≡ t)
    → Every (λ (y : Rule). y.state ≡ q → y.symbol ≡ leaf_symbol u) rules ↔ HasOnlyLeaf rules q
only_all rules q x u i s read = (
  (λ h. (
    u,
    record {
      there = (x, i, s);
      only = λ y j e. every_in (λ (z : Rule). z.state ≡ q → z.symbol ≡ leaf_symbol u) rules y h j e;
    },
  )),
  (λ h.
      (let k = only_read rules q x u i s read h in
      in_every (λ (y : Rule). y.state ≡ q → y.symbol ≡ leaf_symbol u) rules (λ y j e. k.only y j e))),
)

-- there is a rule of the state
pub only_there : (rules : List Rule) (q : ℕ) → HasOnlyLeaf rules q → Every (λ (x : Rule). x.state ≢ q) rules → ⊥
only_there rules q (t, h) none = (let x = h.there in every_in (λ (y : Rule). y.state ≢ q) rules x.0 none x.1 x.2)

module _ (a : Automaton) (ranked : IsRanked a) where
  right : (x : Rule) → IsIn x a.rules → IsRankedRule a.states x
  right x i = every_in (IsRankedRule a.states) a.rules x ranked.1 i

  -- a rule of a leaf has no children
  leaf_children : (x : Rule) (t : Target) → IsIn x a.rules → x.symbol ≡ leaf_symbol t → x.children ≡ []
  leaf_children x t i e = empty x.children ((right x i).2 ∙ ap arity e ∙ leaf_arity t)

  module _ (q : ℕ) (t : Target) (alone : IsOnlyLeaf a.rules q t) where
    -- the leaf runs to its state, and nothing else does
    pub only_runs : RunOf a.rules q (bare_end (leaf t))
    only_runs =
        let x = alone.there in
        let e = alone.only x.0 x.1 x.2 in
        run x.0 x.1 x.2 (e ∙ sym (leaf_top t))
        (subst (λ (qs : List ℕ). RunEach a.rules qs (out-Tree (bare_end (leaf t))).children)
        (sym (leaf_children x.0 t x.1 e))
        (rw (out-roll-Tree (record { symbol = leaf_symbol t; children = [] })) run_none))

    pub runs_only : (u : Tree) → RunOf a.rules q u → u ≡ bare_end (leaf t)
    runs_only u (run x i s e k) =
        let y = alone.only x i s in
        leaf_tree t u (sym y ∙ e)
        (none (subst (λ (qs : List ℕ). RunEach a.rules qs (out-Tree u).children) (leaf_children x t i y) k))
      where
        none : {ts : List Tree} → RunEach a.rules [] ts → ts ≡ []
        none run_none = refl

module _ (hs : List Shape) (F : Forest) (r f : ℕ) (ranked : Every IsRanked F.autos) (at : IsPlainAt hs F r f) where
  abbrev pub a : Automaton
  a = component_at F.autos r

  pub a_ranked : IsRanked a
  a_ranked = component_has IsRanked F.autos r ranked at.root

  -- each tree has the slots of the one rule
  slots_are : (n : Node) → InLanguage a (bare n) → symbol_slots (top_rule a).symbol ≡ slots_of (top_parts n)
  slots_are n l = ap symbol_slots (tree_by_top a at.top (bare n) l).0 ∙ slots_at_top n

  -- where that has not the field, no tree has it
  pub lacks : place_at F r f ≡ None → (T : List BoxDef) → AllLackField T F r f
  lacks e T d o =
      let n = tree_at T F.autos r d at.root o in (
        n.0,
        n.1,
        none_from f 0 (top_parts n.0)
            (subst (λ (ss : List Slot). field_place_from 0 f ss ≡ None) (slots_are n.0 n.2) e),
      )

  module _ (p : ℕ) (place : place_at F r f ≡ Some p) where
    pub can : CanSplit F r p
    can = record {
      root = at.root;
      top = at.top;
      place = (let l = place_below f 0 (symbol_slots (top_rule a).symbol) p place in
          let m : length (top_rule a).children ≡ child_slots (symbol_slots (top_rule a).symbol) =
          (right a a_ranked (top_rule a) (top_in a at.top)).2 ∙ sym (slots_arity (top_rule a).symbol) in
          omega (arith, l, m));
    }

    place_in : (ps : Parts) → symbol_slots (top_rule a).symbol ≡ slots_of ps → field_place_from 0 f (slots_of ps)
        ≡ Some (0 + p)
    place_in ps e =
        let z : p ≡ 0 + p = omega arith in
        subst (λ (n : ℕ). field_place_from 0 f (slots_of ps) ≡ Some n) z
        (subst (λ (ss : List Slot). field_place_from 0 f ss ≡ Some p) e place)

    -- what stands at the end of the field is the child at the place, for slots as those of the rule
    pub end_there : (ps : Parts) → symbol_slots (top_rule a).symbol ≡ slots_of ps → end_of_field f ps ≡ end_at p ps
    end_there ps e = end_from f 0 p ps (place_in ps e)

    pub put_there : (u : Target) (n : Node) → symbol_slots (top_rule a).symbol ≡ slots_of (top_parts n)
        → with_leaf f u n ≡ with_end p (leaf u) n
    put_there u (node c s ds ps) e = ap (node c s ds) (put_from f u 0 p ps (place_in ps e))

    pub tree_end : (n : Node) → InLanguage a (bare n) → end_of_field f (top_parts n) ≡ end_at p (top_parts n)
    tree_end n l = end_there (top_parts n) (slots_are n l)

    pub tree_put : (u : Target) (n : Node) → InLanguage a (bare n) → with_leaf f u n ≡ with_end p (leaf u) n
    tree_put u n l = put_there u n (slots_are n l)

    module _ (t : Target) (alone : IsLeafPlace F r p t) where
      -- the leaf runs to the state of the child
      pub leaf_runs : RunOf a.rules (child_state a p) (bare_end (leaf t))
      leaf_runs = only_runs a a_ranked (child_state a p) t alone

      pub tree_has : (n : Node) → InLanguage a (bare n) → end_of_field f (top_parts n) ≡ Some (leaf t)
      tree_has n l =
          let k = tree_by_top a at.top (bare n) l in
          let c = each_at a.rules (top_rule a).children (out-Tree (bare n)).children p (child_state a p) k.1
          (child_there a p t a_ranked at.top can.place) in
          let e = top_of_child p n c.0 c.1 in
          tree_end n l ∙ e.1 ∙ ap (λ (x : End). Some x)
          (end_is_leaf e.0 t (e.2 ∙ runs_only a a_ranked (child_state a p) t alone c.0 c.2))

      -- it stands there in each dressed forest
      pub all_have : (T : List BoxDef) → AllHaveLeaf T F r f t
      all_have T d o = (let n = tree_at T F.autos r d at.root o in (n.0, n.1, tree_has n.0 n.2))
