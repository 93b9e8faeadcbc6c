-- What is known of the automata where a root is merged into another.
use Rattle.std.specs.Prelude.{◌≢◌, ◌<◌, ℕ, length}
use Rattle.fore_base.specs.Lists.{IsIn, Every}
use Rattle.ta_core.specs.Auto.{Automaton, IsRanked}
use Rattle.ta_core.specs.Language.{InLanguage}
use Rattle.ta_core.specs.declared.auto.Rule.{Rule}
use Rattle.ta_core.specs.declared.tree.Tree.{Tree}
use Rattle.fa_core.specs.declared.forest.Forest.{Forest}
use Rattle.fa_core.specs.declared.forest.Target.{Target}
use Rattle.fa_core.specs.declared.forest.Target.TheVariants.{At}
use Rattle.fa_core.specs.Canonical.{RefersTo}
use Rattle.fa_core.specs.Dressed.{Node, refs}
use Rattle.fa_core.specs.Member.{bare, leaf_symbol}
use Rattle.fa_core.specs.References.{AllBelow, IsOnce, IsNever}
use Rattle.fa_sound.specs.Components.{component_at}

-- no rule of a root state is of a leaf
abbrev pub TopsAreCells : Automaton → Type 0
TopsAreCells a = (o : Rule) → IsIn o a.rules → IsIn o.state a.roots → (y : Target) → o.symbol ≢ leaf_symbol y

-- each tree of the automaton refers to the root
abbrev pub AllRefer : Automaton → ℕ → Type 0
AllRefer a r = (t : Tree) → InLanguage a t → RefersTo t r

-- no tree of the automaton refers to the root
abbrev pub NoneRefer : Automaton → ℕ → Type 0
NoneRefer a r = (t : Tree) → InLanguage a t → RefersTo t r → ⊥

-- the trees of root i refer to root r
abbrev pub IsReferrer : Forest → ℕ → ℕ → Type 0
IsReferrer F r i = (i < length F.autos) × AllRefer (component_at F.autos i) r

-- no tree refers to root r
abbrev pub NoneRefers : Forest → ℕ → Type 0
NoneRefers F r = (k : ℕ) → k < length F.autos → NoneRefer (component_at F.autos k) r

-- no variable is at root r, each tree of root i refers to it once, and no other tree does
pub record IsLone (F : Forest) (r i : ℕ) : Type 0 where
  pub root : r < length F.autos
  pub into : i < length F.autos
  pub apart : i ≢ r
  pub ranked : Every IsRanked F.autos
  pub tops : (k : ℕ) → k < length F.autos → TopsAreCells (component_at F.autos k)
  pub refers : (k : ℕ) (n : Node) → k < length F.autos → InLanguage (component_at F.autos k) (bare n)
      → AllBelow (length F.autos) (refs n)
  pub once : (n : Node) → InLanguage (component_at F.autos i) (bare n) → IsOnce r (refs n)
  pub never : (k : ℕ) (n : Node) → k < length F.autos → k ≢ i → InLanguage (component_at F.autos k) (bare n)
      → IsNever r (refs n)
  pub vars : (k : ℕ) → IsIn (At k) F.vars → (k < length F.autos) × (k ≢ r)
