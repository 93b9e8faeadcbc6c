-- Control graphs as contracts see them, and what the type of graphs keeps.
use Rattle.std.specs.Prelude.{◌≡◌, ◌<◌, ◌^◌, ℕ, List, length, nat_eq, Bool, true, false, not, Option, Some, None}
use Rattle.fore_base.specs.declared.shape.Shapes.{Shapes}
use Rattle.fore_base.specs.Lists.{Every}
use Rattle.c_cfg.specs.declared.graph.PtrArg.TheVariants.{Var as PtrVar, Null as PtrNull}
use Rattle.c_cfg.specs.declared.graph.Instr.{Instr}
use Rattle.c_cfg.specs.declared.graph.Instr.TheVariants.{CopyPtr, LoadPtr, StorePtr, StoreConst, New, Free, Kill}
use Rattle.c_cfg.specs.declared.graph.Instr.TheVariants.{CopyData, LoadData, StoreData, TestPtr, TestData, Choose, Stop}
use Rattle.c_cfg.specs.declared.graph.Edge.{Edge}

-- the locations are the numbers below `locations`, of which 0 is the entry; `ptrs` and `datums` are how many variables
-- there are
pub record ControlGraph : Type 0 where
  pub locations : ℕ
  pub ptrs : ℕ
  pub datums : ℕ
  pub edges : List Edge
  pub heads : List Bool
  pub shapes : Shapes

abbrev pub has_choice : Option ℕ → Bool
has_choice None = false
has_choice (Some x) = true

-- no choice, or this one
abbrev pub is_none_or : ℕ → Option ℕ → Bool
is_none_or x None = true
is_none_or x (Some y) = nat_eq y x

-- an edge that takes a choice whatever the mode of `malloc`
abbrev pub is_choose : Instr → Bool
is_choose (CopyPtr to from) = false
is_choose (LoadPtr to from field) = false
is_choose (StorePtr to field from) = false
is_choose (StoreConst to field value) = false
is_choose (New to shape) = false
is_choose (Free from) = false
is_choose (Kill ptrs datums) = false
is_choose (CopyData to from) = false
is_choose (LoadData to from field) = false
is_choose (StoreData to field from) = false
is_choose (TestPtr left right equal) = false
is_choose (TestData left right equal) = false
is_choose (Choose to) = true
is_choose (Stop error) = false

-- Which choice stands at an edge: some choice at a Choose; at the two edges of a `malloc` that may fail 0 for the null
-- pointer and 1 for the new cell, so that a copy of the null pointer has none or 0 and a New has none or 1; at no other
-- edge one.
abbrev pub may_have : Instr → Option ℕ → Bool
may_have (CopyPtr to (PtrVar x)) o = not (has_choice o)
may_have (CopyPtr to PtrNull) o = is_none_or 0 o
may_have (LoadPtr to from field) o = not (has_choice o)
may_have (StorePtr to field from) o = not (has_choice o)
may_have (StoreConst to field value) o = not (has_choice o)
may_have (New to shape) o = is_none_or 1 o
may_have (Free from) o = not (has_choice o)
may_have (Kill ptrs datums) o = not (has_choice o)
may_have (CopyData to from) o = not (has_choice o)
may_have (LoadData to from field) o = not (has_choice o)
may_have (StoreData to field from) o = not (has_choice o)
may_have (TestPtr left right equal) o = not (has_choice o)
may_have (TestData left right equal) o = not (has_choice o)
may_have (Choose to) o = has_choice o
may_have (Stop error) o = not (has_choice o)

-- the edge has a choice where its instruction wants one, and none where it may have none
abbrev pub HasItsChoice : Edge → Type 0
HasItsChoice e = may_have e.instr e.choice ≡ true

-- a choice stands exactly at a Choose
abbrev pub HasChoiceAsChoose : Edge → Type 0
HasChoiceAsChoose e = has_choice e.choice ≡ is_choose e.instr

-- what the type of graphs keeps
pub record IsGraph (g : ControlGraph) : Type 0 where
  pub entry : 0 < g.locations
  pub heads : length g.heads ≡ g.locations
  pub few : length g.edges < 2 ^ 32
  pub choices : Every HasItsChoice g.edges
