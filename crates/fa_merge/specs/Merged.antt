-- A component merged into the one whose trees refer to its root.
use Rattle.std.specs.Prelude.{◌≡◌, ◌↔◌, ◌<◌, ℕ, ◌+◌, ◌-◌, Bool, false, nat_lt, if◌then◌else◌, nat_eq, List, [], ◌∷◌}
use Rattle.std.specs.Prelude.{◌++◌, map, length, Some, slice_get, slice_set}
use Rattle.fore_base.specs.Lists.{IsIn, Paired}
use Rattle.fore_base.specs.declared.shape.Shape.{Shape}
use Rattle.fore_base.specs.declared.store.Store.{Store}
use Rattle.ta_core.specs.Auto.{Automaton}
use Rattle.ta_core.specs.Joined.{shift}
use Rattle.ta_core.specs.Language.{HasSameLanguage}
use Rattle.ta_core.specs.Renumbered.{renumbered}
use Rattle.ta_core.specs.declared.auto.Rule.{Rule}
use Rattle.ta_core.specs.declared.symbol.Symbol.{Symbol}
use Rattle.ta_core.specs.declared.symbol.Symbol.TheVariants.{Null, Uninit, Dangling, Ref, Cell}
use Rattle.ta_core.specs.declared.tree.Tree.{Tree}
use Rattle.fa_core.specs.declared.boxes.BoxDef.{BoxDef}
use Rattle.fa_core.specs.declared.forest.Forest.{Forest}
use Rattle.fa_core.specs.declared.forest.Target.{Target}
use Rattle.fa_core.specs.declared.forest.Target.TheVariants.{At}
use Rattle.fa_core.specs.Canonical.{RefersTo, references}
use Rattle.fa_core.specs.Filled.{Choice}
use Rattle.fa_core.specs.Member.{Stands}
use Rattle.fa_core.specs.Placed.{placed_leaf, placed_auto}
use Rattle.fa_core.specs.Ways.{has}
use Rattle.fa_merge.specs.Reordered.{counted, place_of, renumber}
use Rattle.fa_sound.specs.Components.{component_at}

-- The merged automaton.

-- the symbol is a reference to r
abbrev pub is_ref : ℕ → Symbol → Bool
is_ref r Null = false
is_ref r Uninit = false
is_ref r Dangling = false
is_ref r (Ref k) = nat_eq r k
is_ref r (Cell s ds ss) = false

-- the rules but those of leaves that refer to r
abbrev pub kept : ℕ → List Rule → List Rule
kept r [] = []
kept r (x ∷ xs) = if is_ref r x.symbol then kept r xs else x ∷ kept r xs

-- the rules with n added to their states
abbrev pub moved : ℕ → List Rule → List Rule
moved n xs = map (renumbered (shift n)) xs

-- the rules of root states, at state q, with n added to their children
abbrev pub bridge : ℕ → ℕ → List ℕ → List Rule → List Rule
bridge n q roots [] = []
bridge n q roots (x ∷ xs) = if has x.state roots
    then record { state = q; symbol = x.symbol; children = map (shift n) x.children } ∷ bridge n q roots xs
    else bridge n q roots xs

-- for each rule of a leaf that refers to r, the root rules of l at its state
abbrev pub bridges : ℕ → ℕ → Automaton → List Rule → List Rule
bridges n r l [] = []
bridges n r l (x ∷ xs) = if is_ref r x.symbol then bridge n x.state l.roots l.rules ++ bridges n r l xs
    else bridges n r l xs

-- t with the trees of l in the place of the leaves that refer to r: l's states stand behind t's
abbrev pub merged : ℕ → Automaton → Automaton → Automaton
merged r t l = record {
  states = t.states + l.states;
  roots = t.roots;
  rules = kept r t.rules ++ (moved t.states l.rules ++ bridges t.states r l t.rules);
}

-- The merged forest.

-- the numbers but r
abbrev pub others : ℕ → List ℕ → List ℕ
others r [] = []
others r (x ∷ xs) = if nat_eq x r then others r xs else x ∷ others r xs

-- the roots below n in their order, with r behind them
abbrev pub last_order : ℕ → ℕ → List ℕ
last_order n r = others r (counted 0 n) ++ r ∷ []

-- the new numbers of n roots where r becomes the last: those above r are less by one
abbrev pub to_last : ℕ → ℕ → ℕ → ℕ
to_last n r = place_of (last_order n r)

-- the k-th component of a forest in which r becomes the last root
abbrev pub with_last_root : ℕ → Forest → ℕ → Automaton
with_last_root r F k = placed_auto (renumber (to_last (length F.autos) r)) (component_at F.autos k)

-- the components but that of root r
abbrev pub other_components : ℕ → Forest → List Automaton
other_components r F = map (with_last_root r F) (others r (counted 0 (length F.autos)))

-- root r merged into root i: r, as the last root, goes, and its trees stand where the trees of i refer to it
abbrev pub merged_at : ℕ → ℕ → Forest → Forest
merged_at r i F = record {
  autos = slice_set (other_components r F) (to_last (length F.autos) r i)
      (merged (length (other_components r F)) (with_last_root r F i) (with_last_root r F r));
  vars = map (placed_leaf (renumber (to_last (length F.autos) r))) F.vars;
  data_vars = F.data_vars;
}

-- no variable is at root r, there is one reference to it, and that is not in its own tree
pub record CanMerge (F : Forest) (r : ℕ) : Type 0 where
  pub root : r < length F.autos
  pub no_var : IsIn (At r) F.vars → ⊥
  pub one : (ts : List Tree) → Choice F.autos ts → references ts r ≡ 1
  pub other : (ts : List Tree) (t : Tree) → Choice F.autos ts → slice_get ts r ≡ Some t → RefersTo t r → ⊥

-- the trees of root i refer to root r
pub record Refers (F : Forest) (i r : ℕ) : Type 0 where
  pub there : i < length F.autos
  pub refer : (ts : List Tree) (t : Tree) → Choice F.autos ts → slice_get ts i ≡ Some t → RefersTo t r

-- each component of G has the trees of F's in its place; targets and data are those of F
pub record HasTreesOf (F G : Forest) : Type 0 where
  pub autos : Paired HasSameLanguage F.autos G.autos
  pub vars : G.vars ≡ F.vars
  pub data_vars : G.data_vars ≡ F.data_vars

-- G has the trees of F with root r merged into the root whose trees refer to it
abbrev pub IsMergedInto : Forest → ℕ → Forest → Type 0
IsMergedInto F r G = (i : ℕ) × Refers F i r × HasTreesOf (merged_at r i F) G

-- G is F with root r merged into the root whose trees refer to it, rule by rule
abbrev pub IsMergedExactly : Forest → ℕ → Forest → Type 0
IsMergedExactly F r G = (i : ℕ) × Refers F i r × (G ≡ merged_at r i F)

-- the number of root k where root r is taken out: those above r move down by one
abbrev pub lowered : ℕ → ℕ → ℕ
lowered r k = if nat_lt r k then k - 1 else k

-- the leaf of a root where root r is taken out
abbrev pub lowering : ℕ → ℕ → Target
lowering r k = At (lowered r k)

-- the forests have the same members, whatever the structs and the box table are
abbrev pub HasSameMembers : Forest → Forest → Type 0
HasSameMembers F G = (hs : List Shape) (T : List BoxDef) (s : Store) → Stands hs T F s ↔ Stands hs T G s
