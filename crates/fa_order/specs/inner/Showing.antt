-- What the trees of a component show, with a cell in the place of each child that may be one.
use Rattle.std.specs.Prelude.{◌≡◌, ℕ, Bool, false, not, ◌&&◌, ◌||◌, nat_eq, List, [], ◌∷◌, map}
use Rattle.fore_base.specs.Lists.{IsIn, Every}
use Rattle.fore_base.specs.Marks.{all_marked}
use Rattle.ta_core.specs.Auto.{Automaton}
use Rattle.ta_core.specs.Language.{InLanguage, RunOf}
use Rattle.ta_core.specs.declared.auto.Rule.{Rule}
use Rattle.ta_core.specs.declared.symbol.Slot.{Slot}
use Rattle.ta_core.specs.declared.symbol.Slot.TheVariants.{Field, Link, Hook}
use Rattle.ta_core.specs.declared.symbol.Symbol.{Symbol}
use Rattle.ta_core.specs.declared.symbol.Symbol.TheVariants.{Null, Uninit, Dangling, Ref, Cell}
use Rattle.ta_core.specs.declared.tree.Tree.{Tree}
use Rattle.fa_core.specs.Canonical.{field_trees}
use Rattle.fa_core.specs.Cells.{is_leaf, below_of}
use Rattle.fa_core.specs.Ways.{signature}
use Rattle.fa_core.specs.declared.faces.BoxFace.{BoxFace}
use Rattle.fa_core.specs.declared.signature.Below.{Below}
use Rattle.fa_order.specs.declared.showing.Shown.{Shown}
use Rattle.fa_order.specs.inner.Following.{EndFollows, StaysTame}

-- what a tree shows
abbrev pub shown_of : List BoxFace → Tree → Shown
shown_of bs t = record { marks = signature bs t; ends = map (below_of bs) (field_trees t) }

-- one tree shows this, and all trees of the component stay tame beside it
abbrev pub IsShownBy : List BoxFace → Automaton → Shown → Type 0
IsShownBy bs a s = (t : Tree) × InLanguage a t × (shown_of bs t ≡ s) × ((u : Tree) → InLanguage a u → StaysTame bs t u)

-- one tree of the state shows this at the end of a field, and all trees of the state follow it there
abbrev pub IsShownEnd : List BoxFace → List Rule → ℕ → Below → Type 0
IsShownEnd bs rules q e = (t : Tree) × RunOf rules q t × (below_of bs t ≡ e)
    × ((u : Tree) → RunOf rules q u → EndFollows (λ k. k) t u)

-- the rule is one of the state
abbrev pub IsRuleOf : List Rule → ℕ → Rule → Type 0
IsRuleOf rules q r = IsIn r rules × (r.state ≡ q)

-- the state has no rule
abbrev pub HasNoRule : List Rule → ℕ → Type 0
HasNoRule rules q = Every (λ r. r.state ≡ q → ⊥) rules

-- the rule gives cells of the state, where each of its children has a tree
abbrev pub is_cell_rule : List Bool → ℕ → Rule → Bool
is_cell_rule inhabited q r = nat_eq r.state q && (not (is_leaf r.symbol) && all_marked inhabited r.children)

-- some rule does
abbrev pub has_cell_rule : List Bool → ℕ → List Rule → Bool
has_cell_rule inhabited q [] = false
has_cell_rule inhabited q (r ∷ rs) = is_cell_rule inhabited q r || has_cell_rule inhabited q rs

-- the states at the ends of the fields, those at the ends of box edges left out
abbrev pub states_at : List Slot → List ℕ → List ℕ
states_at [] qs = []
states_at (Hook b ∷ ss) qs = states_at ss qs
states_at (Field f ∷ ss) [] = []
states_at (Field f ∷ ss) (q ∷ qs) = q ∷ states_at ss qs
states_at (Link b ∷ ss) [] = []
states_at (Link b ∷ ss) (q ∷ qs) = states_at ss qs

-- the states at the ends of the fields of a cell with this symbol
abbrev pub states_under : Symbol → List ℕ → List ℕ
states_under Null qs = []
states_under Uninit qs = []
states_under Dangling qs = []
states_under (Ref r) qs = []
states_under (Cell s ds ss) qs = states_at ss qs
