-- A forest with one rule chosen at a root.
use Rattle.std.specs.Prelude.{◌≡◌, ◌↔◌, ℕ, ◌+◌, List, [], ◌∷◌, ◌++◌, map, Some}
use Rattle.fore_base.specs.Lists.{IsIn}
use Rattle.ta_core.specs.Auto.{Automaton}
use Rattle.ta_core.specs.Language.{RunEach}
use Rattle.ta_core.specs.declared.auto.Rule.{Rule}
use Rattle.ta_core.specs.declared.tree.Tree.{Tree, out-Tree}
use Rattle.fa_core.specs.declared.boxes.BoxDef.{BoxDef}
use Rattle.fa_core.specs.declared.forest.Forest.{Forest}
use Rattle.fa_core.specs.Covering.{Covers}
use Rattle.fa_core.specs.Dressed.{Node, Nodes}
use Rattle.fa_core.specs.Member.{OfForest, bare}
use Rattle.fa_back.specs.Reached.{node_at}
use Rattle.fa_sound.specs.Components.{component_at, with_component}

-- The items of a list that meet P, in their order.
pub data Picked {X : Type 0} (P : X → Type 0) : List X → List X → Type 0 where
  none : Picked P [] []
  take : (x : X) {xs ys : List X} → P x → Picked P xs ys → Picked P (x ∷ xs) (x ∷ ys)
  leave : (x : X) {xs ys : List X} → (P x → ⊥) → Picked P xs ys → Picked P (x ∷ xs) ys

-- the tree has a run that ends with the rule
abbrev pub IsBy : List Rule → Rule → Tree → Type 0
IsBy rules x t = (x.symbol ≡ (out-Tree t).symbol) × RunEach rules x.children (out-Tree t).children

-- the rule is of a root state, and stands at the top of some tree
abbrev pub StandsAtTop : Automaton → Rule → Type 0
StandsAtTop a x = IsIn x.state a.roots × ((t : Tree) × IsBy a.rules x t)

-- the rule alone at a root state of its own, behind the states of a
abbrev pub chosen : Automaton → Rule → Automaton
chosen a x = record {
  states = a.states + 1;
  roots = a.states ∷ [];
  rules = a.rules ++ record { state = a.states; symbol = x.symbol; children = x.children } ∷ [];
}

-- the forest with the rule alone at root r
abbrev pub chosen_at : Forest → ℕ → Rule → Forest
chosen_at F r x = with_component F r (chosen (component_at F.autos r) x)

-- one forest for each rule of root r that stands at the top of some tree, in the order of the rules, each with that
-- rule alone at the root
abbrev pub AreChosen : Forest → ℕ → List Forest → Type 0
AreChosen F r Gs = (xs : List Rule) × Picked (StandsAtTop (component_at F.autos r)) (component_at F.autos r).rules xs
    × (Gs ≡ map (chosen_at F r) xs)

-- the r-th tree has a run in a that ends with the rule
abbrev pub IsTreeBy : Automaton → Rule → ℕ → Nodes → Type 0
IsTreeBy a x r d = (n : Node) × (node_at d r ≡ Some n) × IsBy a.rules x (bare n)

-- the dressed forests of G are those of F whose r-th tree has a run that ends with the rule
abbrev pub IsChosenBy : List BoxDef → Forest → ℕ → Rule → Forest → Type 0
IsChosenBy T F r x G = (d : Nodes) → OfForest T G d ↔ (OfForest T F d × IsTreeBy (component_at F.autos r) x r d)

-- G is one of the forests of which each has one rule at root r, and so are its dressed forests; F covers it
abbrev pub IsChosenOf : List BoxDef → Forest → ℕ → Forest → Type 0
IsChosenOf T F r G = (x : Rule) × IsIn x (component_at F.autos r).rules × StandsAtTop (component_at F.autos r) x
    × (G ≡ chosen_at F r x) × Covers F G × IsChosenBy T F r x G
