-- Box edges of the roots of a forest, over a table of boxes.
use Rattle.std.specs.Prelude.{◌≡◌, ◌<◌, ℕ, [], ◌∷◌, length, Some, slice_get}
use Rattle.fore_base.specs.Lists.{Every}
use Rattle.ta_core.specs.Auto.{IsRanked}
use Rattle.ta_core.specs.Language.{RunOf}
use Rattle.ta_core.specs.Single.{HasOneTop}
use Rattle.ta_core.specs.declared.symbol.Slot.TheVariants.{Link, Hook}
use Rattle.ta_core.specs.declared.tree.Tree.{Tree}
use Rattle.fa_core.specs.declared.forest.Forest.{Forest}
use Rattle.fa_core.specs.declared.forest.Target.{Target}
use Rattle.fa_core.specs.Boxes.{Boxes, IsBoxTable}
use Rattle.fa_core.specs.Dressed.{leaf}
use Rattle.fa_core.specs.Filled.{IsRoot, IsSound}
use Rattle.fa_core.specs.Folding.{symbol_slots}
use Rattle.fa_core.specs.Member.{bare_end}
use Rattle.fa_back.specs.Insides.{AreRankedInsides}
use Rattle.fa_sound.specs.Components.{component_at}
use Rattle.fa_split.specs.Split.{top_rule}
use Rattle.fa_unfold.specs.Slots.{children_before, rule_places}

-- the forest is sound over the table, and so are the automata of both
pub record IsOver (t : Boxes) (F : Forest) : Type 0 where
  pub table : IsBoxTable t
  pub insides : AreRankedInsides t.defs
  pub sound : IsSound t.face F
  pub ranked : Every IsRanked F.autos

-- root i has one rule, whose slot p is a Link of box b
pub record IsLinkAtSlot (F : Forest) (i p b : ℕ) : Type 0 where
  pub root : i < length F.autos
  pub top : HasOneTop (component_at F.autos i)
  pub state : ℕ
  pub slot : slice_get (rule_places (top_rule (component_at F.autos i))) p ≡ Some (Link b, state ∷ [])

-- the place of the child of slot p among the children of root i's one rule
abbrev pub child_place : Forest → ℕ → ℕ → ℕ
child_place F i p = children_before (symbol_slots (top_rule (component_at F.autos i)).symbol) p

-- root i has one rule, whose slot p is a Link of box b, and what stands at its end is the leaf y alone
pub record IsLinkAt (F : Forest) (i p b : ℕ) (y : Target) : Type 0 where
  pub root : i < length F.autos
  pub top : HasOneTop (component_at F.autos i)
  pub state : ℕ
  pub slot : slice_get (rule_places (top_rule (component_at F.autos i))) p ≡ Some (Link b, state ∷ [])
  pub run : RunOf (component_at F.autos i).rules state (bare_end (leaf y))
  pub only : (t : Tree) → RunOf (component_at F.autos i).rules state t → t ≡ bare_end (leaf y)
  pub end : IsRoot (length F.autos) y

-- root i has one rule, whose slot p is a Hook of box b
pub record IsHookAt (F : Forest) (i p b : ℕ) : Type 0 where
  pub root : i < length F.autos
  pub top : HasOneTop (component_at F.autos i)
  pub slot : slice_get (rule_places (top_rule (component_at F.autos i))) p ≡ Some (Hook b, [])
