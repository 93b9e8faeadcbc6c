-- Components cut into parts by what stands at the tops of their trees.
use Rattle.std.specs.Prelude.{◌≡◌, ◌↔◌, ◌⊎◌, ℕ, ◌+◌, Bool, true, false, nat_eq, List, [], ◌∷◌, ◌++◌, length, map, take}
use Rattle.std.specs.Prelude.{drop, slice_set, suc}
use Rattle.std.specs.List.{filter}
use Rattle.fore_base.specs.Lists.{IsIn, Every, IsDistinct}
use Rattle.ta_core.specs.declared.symbol.Symbol.{Symbol}
use Rattle.ta_core.specs.declared.symbol.Symbol.TheVariants.{Null, Uninit, Dangling, Ref, Cell}
use Rattle.ta_core.specs.declared.tree.Tree.{Tree, out-Tree}
use Rattle.ta_core.specs.Auto.{Automaton}
use Rattle.ta_core.specs.Language.{InLanguage, IsTrim, RunEach}
use Rattle.fa_core.specs.declared.faces.Face.{Face}
use Rattle.ta_core.specs.declared.auto.Rule.{Rule}
use Rattle.fa_filling.specs.declared.parts.Part.{Part}
use Rattle.fa_core.specs.Cells.{is_leaf}
use Rattle.fa_core.specs.Filled.{IsTopped}
use Rattle.fa_filling.specs.Ruled.{IsFilledPart}

-- the rule at a state of its own
abbrev pub fresh_rule : Automaton → Rule → Rule
fresh_rule a r = record { state = a.states; symbol = r.symbol; children = r.children }

-- the automaton with these rules alone at its root, which is a state of its own
abbrev pub chosen : Automaton → List Rule → Automaton
chosen a rs = record { states = a.states + 1; roots = a.states ∷ []; rules = a.rules ++ map (fresh_rule a) rs }

-- the tree has a run whose last rule is r
abbrev pub RunBy : List Rule → Rule → Tree → Type 0
RunBy rules r t = (r.symbol ≡ (out-Tree t).symbol) × RunEach rules r.children (out-Tree t).children

-- the trees of a are those of the parts, each of which has one
pub record IsPartOf (a : Automaton) (ps : List Part) : Type 0 where
  pub each : (p : Part) (t : Tree) → IsIn p ps → InLanguage p.auto t → InLanguage a t
  pub some : (t : Tree) → InLanguage a t → (p : Part) × IsIn p ps × InLanguage p.auto t
  pub top : (p : Part) (t : Tree) → IsIn p ps → InLanguage p.auto t → IsTopped p.top t
  pub full : (p : Part) → IsIn p ps → (t : Tree) × InLanguage p.auto t
  pub trim : (p : Part) → IsIn p ps → IsTrim p.auto

-- so for each component
abbrev pub AreParts : List Automaton → List (List Part) → Type 0
AreParts [] [] = Unit {0}
AreParts [] (ps ∷ pss) = ⊥
AreParts (a ∷ autos) [] = ⊥
AreParts (a ∷ autos) (ps ∷ pss) = IsPartOf a ps × AreParts autos pss

-- the structs that may stand at the top of a component's trees
abbrev pub tops_of : List Part → List ℕ
tops_of ps = map (λ p. p.top) ps

abbrev pub all_tops : List (List Part) → List (List ℕ)
all_tops pss = map tops_of pss

-- those of all components, where s alone may stand at the one behind `front`
abbrev pub tops_but : List (List ℕ) → ℕ → List (List Part) → List (List ℕ)
tops_but front s pss = front ++ (s ∷ []) ∷ all_tops pss

-- the structs that may stand at the tops of all components, but for those at the place
pub record AreTopsBut (pss : List (List Part)) (place : ℕ) (tops : List (List ℕ)) : Type 0 where
  pub long : length tops ≡ length pss
  pub others : (own : List ℕ) → slice_set tops place own ≡ slice_set (all_tops pss) place own

-- each part of each component is filled, whatever stands at the tops of the others, where `above` says what is given at
-- each root; the components are those of the roots from r on, and the structs of those before are in `front`
abbrev pub ArePartsFilled : Face → (ℕ → List ℕ) → ℕ → List (List ℕ) → List (List Part) → Type 0
ArePartsFilled face above r front [] = Unit {0}
ArePartsFilled face above r front (ps ∷ pss) =
    Every (λ p. IsFilledPart face (tops_but front p.top pss) p.auto (above r)) ps
    × ArePartsFilled face above (suc r) (front ++ tops_of ps ∷ []) pss

-- the rule is one of a root state, and some tree can use it
abbrev pub IsRootRule : Automaton → Rule → Type 0
IsRootRule a r = IsIn r.state a.roots × ((ts : List Tree) × RunEach a.rules r.children ts)

-- the rules are those of the ones gone through that are of a root state and that some tree can use
pub record AreTopRules (a : Automaton) (done tops : List Rule) : Type 0 where
  pub only : (r : Rule) → IsIn r tops → IsIn r a.rules × IsRootRule a r
  pub all : (r : Rule) → IsIn r done → IsRootRule a r → IsIn r tops

-- a cell of struct s
abbrev pub is_of : ℕ → Symbol → Bool
is_of s Null = false
is_of s Uninit = false
is_of s Dangling = false
is_of s (Ref r) = false
is_of s (Cell t ds ss) = nat_eq t s

-- the rules that have a cell of struct s
abbrev pub rules_of : ℕ → List Rule → List Rule
rules_of s rs = filter (λ r. is_of s r.symbol) rs

-- the structs are those of the rules' cells, each once
pub record AreStructsOf (rules : List Rule) (structs : List ℕ) : Type 0 where
  pub each : (r : Rule) → IsIn r rules → (s : ℕ) × IsIn s structs × (is_of s r.symbol ≡ true)
  pub some : (s : ℕ) → IsIn s structs → (r : Rule) × IsIn r rules × (is_of s r.symbol ≡ true)
  pub once : IsDistinct structs

-- the number is one more of the numbers, where it was none of them
pub record IsAdded (n : ℕ) (old new : List ℕ) : Type 0 where
  pub kept : (m : ℕ) → IsIn m old → IsIn m new
  pub there : IsIn n new
  pub only : (m : ℕ) → IsIn m new → IsIn m old ⊎ (m ≡ n)
  pub once : IsDistinct new

-- one of the rules has a leaf
abbrev pub HasLeafRule : List Rule → Type 0
HasLeafRule rules = (r : Rule) × IsIn r rules × (is_leaf r.symbol ≡ true)

-- the part is trimmed, and its trees are those by one of the rules that have a cell of struct s
pub record IsPartFor (a : Automaton) (tops : List Rule) (s : ℕ) (p : Part) : Type 0 where
  pub top : p.top ≡ s
  pub trim : IsTrim p.auto
  pub trees : (t : Tree) → InLanguage p.auto t ↔ ((r : Rule) × IsIn r (rules_of s tops) × RunBy a.rules r t)

-- a leaf is one of the trees
abbrev pub HasLeaf : Automaton → Type 0
HasLeaf a = (t : Tree) × InLanguage a t × (is_leaf (out-Tree t).symbol ≡ true)

-- some automaton of the list has a leaf
abbrev pub HasLeafIn : List Automaton → Type 0
HasLeafIn autos = (a : Automaton) × IsIn a autos × HasLeaf a

-- the parts are trimmed, and each component has one
abbrev pub AreReady : List Part → Type 0
AreReady ps = ((p : Part) × IsIn p ps) × Every (λ p. IsTrim p.auto) ps

-- the parts of the component at the place are filled, where these fields are given at its root
abbrev pub AreFilledAt : Face → List (List Part) → ℕ → List ℕ → List Part → Type 0
AreFilledAt face pss place above ps =
    Every
    (λ p. IsFilledPart face (tops_but (all_tops (take place pss)) p.top (drop (place + 1) pss)) p.auto above) ps
