-- The rules of root states.
use Rattle.std.specs.Prelude.{◌≡◌, ◌⊎◌, ℕ, Bool, true, false, List, flat_map}
use Rattle.fore_base.specs.Lists.{IsIn, Every}
use Rattle.ta_core.specs.declared.auto.Rule.{Rule}
use Rattle.ta_core.specs.declared.symbol.Symbol.{Symbol}
use Rattle.ta_core.specs.declared.symbol.Symbol.TheVariants.{Null, Uninit, Dangling, Ref, Cell}
use Rattle.fa_core.specs.declared.faces.BoxFace.{BoxFace}
use Rattle.fa_core.specs.Cells.{is_leaf}
use Rattle.fa_core.specs.Filled.{covers, HasField}
use Rattle.fa_core.specs.Folding.{symbol_slots}

-- P holds of the symbol of the rule, if it is one of a root state
abbrev pub AtTop : (Symbol → Type 0) → List ℕ → Rule → Type 0
AtTop P roots r = IsIn r.state roots → P r.symbol

-- P holds of the symbols of all rules of root states
abbrev pub AtTops : (Symbol → Type 0) → List ℕ → List Rule → Type 0
AtTops P roots rules = Every (AtTop P roots) rules

-- the symbol is a cell
abbrev pub IsCell : Symbol → Type 0
IsCell y = is_leaf y ≡ false

-- the symbol is a cell of struct s
abbrev pub IsCellOf : ℕ → Symbol → Type 0
IsCellOf s Null = ⊥
IsCellOf s Uninit = ⊥
IsCellOf s Dangling = ⊥
IsCellOf s (Ref r) = ⊥
IsCellOf s (Cell u ds ss) = u ≡ s

-- the slots of the symbol cover some field
abbrev pub CoversField : List BoxFace → Symbol → Type 0
CoversField bs y = HasField (flat_map (covers bs) (symbol_slots y))

-- the fields that the slots of the symbol cover
abbrev pub fields_by : List BoxFace → Symbol → List ℕ
fields_by bs y = flat_map (covers bs) (symbol_slots y)

-- each of the numbers is one of the others
abbrev pub AreAmong : List ℕ → List ℕ → Type 0
AreAmong ns ms = Every (λ (n : ℕ). IsIn n ms) ns

-- one of the numbers is none of the others
abbrev pub IsOneOut : List ℕ → List ℕ → Type 0
IsOneOut ns ms = (n : ℕ) × IsIn n ns × (IsIn n ms → ⊥)

-- both symbols cover the same fields
abbrev pub IsLike : List BoxFace → Symbol → Symbol → Type 0
IsLike bs x y = AreAmong (fields_by bs x) (fields_by bs y) × AreAmong (fields_by bs y) (fields_by bs x)

-- one of the symbols covers a field that the other does not
abbrev pub Differ : List BoxFace → Symbol → Symbol → Type 0
Differ bs x y = IsOneOut (fields_by bs x) (fields_by bs y) ⊎ IsOneOut (fields_by bs y) (fields_by bs x)

-- the rule is one of a root state
abbrev pub IsTop : List ℕ → List Rule → Rule → Type 0
IsTop roots rules r = IsIn r rules × IsIn r.state roots

-- all rules of root states cover the fields that x covers; or one of them does not
abbrev pub EachAlike : List BoxFace → Symbol → List ℕ → List Rule → Bool → Type 0
EachAlike bs x roots rules true = AtTops (IsLike bs x) roots rules
EachAlike bs x roots rules false = (r : Rule) × IsTop roots rules r × Differ bs x r.symbol

-- all rules of root states cover the same fields; or two of them do not
abbrev pub AllAlike : List BoxFace → List ℕ → List Rule → Bool → Type 0
AllAlike bs roots rules true = (r o : Rule) → IsTop roots rules r → IsTop roots rules o → IsLike bs r.symbol o.symbol
AllAlike bs roots rules false = (r : Rule) × (o : Rule) × IsTop roots rules r × IsTop roots rules o
    × Differ bs r.symbol o.symbol
