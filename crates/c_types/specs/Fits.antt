-- When a store fits a program, which stores a run visits, and when pending items are well typed.
use Rattle.std.specs.Prelude.{◌≡◌, ◌<◌, ◌⊎◌, ℕ, true, Option, None, List, [], ◌∷◌, length}
use Rattle.fore_base.specs.declared.shape.Shape.{Shape}
use Rattle.fore_base.specs.declared.store.Value.{Value}
use Rattle.fore_base.specs.declared.store.Value.TheVariants.{Cell}
use Rattle.fore_base.specs.declared.store.CellRec.{CellRec}
use Rattle.fore_base.specs.declared.store.Store.{Store}
use Rattle.fore_base.specs.Lists.{Every, IsIn}
use Rattle.c_types.specs.declared.mode.MallocMode.{MallocMode}
use Rattle.c_types.specs.declared.program.VarDef.{VarDef}
use Rattle.c_types.specs.declared.program.VarRef.{VarRef}
use Rattle.c_types.specs.declared.program.Arg.{Arg}
use Rattle.c_types.specs.declared.program.Dest.{Dest}
use Rattle.c_types.specs.declared.program.Act.{Act}
use Rattle.c_types.specs.declared.program.Func.{Func}
use Rattle.fore_base.specs.Shapes.{targets_of, datums_of}
use Rattle.c_types.specs.Program.{Program, InBody, act_typed, args_typed, value_typed, to_typed}
use Rattle.c_types.specs.Control.{Items, Done, Do, Close, If, Loop, Again, DoLoop, DoAgain, Enter, Leave, Exit, opened}
use Rattle.c_types.specs.Control.{start_of}
use Rattle.c_types.specs.Steps.{Goes, turn_of}
use Rattle.c_types.specs.Runs.{empty_store}

-- some cell has this number and this struct
abbrev pub HasCellOf : List CellRec → ℕ → ℕ → Type 0
HasCellOf [] n shape = ⊥
HasCellOf (c ∷ cs) n shape = ((c.number ≡ n) × (c.shape ≡ shape)) ⊎ HasCellOf cs n shape

-- a value that names a cell names one of this struct
abbrev pub PointsTo : List CellRec → ℕ → Value → Type 0
PointsTo cs shape (Cell n) = HasCellOf cs n shape
PointsTo cs shape _ = Unit {0}

-- there is a value for each of these structs, and it points to its struct
abbrev pub PointsToEach : List CellRec → List ℕ → List Value → Type 0
PointsToEach cs [] [] = Unit {0}
PointsToEach cs [] (v ∷ vs) = ⊥
PointsToEach cs (shape ∷ shapes) [] = ⊥
PointsToEach cs (shape ∷ shapes) (v ∷ vs) = PointsTo cs shape v × PointsToEach cs shapes vs

-- the structs to which the variables point, in order
abbrev pub var_targets : List VarDef → List ℕ
var_targets [] = []
var_targets (v ∷ vs) = v.shape ∷ var_targets vs

-- a cell has a struct of the program, a value for each pointer field of the struct, which points to the declared
-- struct, and a datum for each data field
pub record CellFits (shapes : List Shape) (cells : List CellRec) (c : CellRec) : Type 0 where
  pub shape : c.shape < length shapes
  pub fields : PointsToEach cells (targets_of shapes c.shape) c.fields
  pub datums : length c.datums ≡ datums_of shapes c.shape

-- a store has a program's variables and cells of its structs, and what names a cell names one of the declared struct
pub record FitsProgram (p : Program) (s : Store) : Type 0 where
  pub vars : PointsToEach s.cells (var_targets p.vars) s.vars
  pub data_vars : length s.data_vars ≡ length p.data_vars
  pub cells : Every (CellFits p.shapes.structs s.cells) s.cells

-- what the runs of a program, on any choices, come to between their steps
pub data Visited (p : Program) (mode : MallocMode) : Items → Store → Type 0 where
  start : Visited p mode (start_of p) (empty_store (length p.vars) (length p.data_vars))
  step : {is js : Items} {s t : Store} (choice : ℕ) → Visited p mode is s
      → turn_of p.shapes.structs mode (opened is) s choice ≡ Goes js t → Visited p mode js t

-- an act is one of the program's, wherever it stands; a Leave is an item of its own
abbrev pub ActFits : Program → Act → Type 0
ActFits p a = act_typed p.shapes.structs p.vars (length p.data_vars) p.funcs None a InBody ≡ true

-- an Enter is one of a function of the program, and its arguments fit the parameters
pub record EnterFits (p : Program) (params : List VarRef) (args : List Arg) : Type 0 where
  pub func : Func
  pub is_there : IsIn func p.funcs
  pub params_are : params ≡ func.params
  pub args_fit : args_typed p.shapes.structs p.vars (length p.data_vars) params args ≡ true

-- a Leave is one of a function of the program, and what it returns fits the result
pub record LeaveFits (p : Program) (result : Option VarRef) (locals : List VarRef) (value : Option Arg) : Type 0 where
  pub func : Func
  pub is_there : IsIn func p.funcs
  pub result_is : result ≡ func.result
  pub locals_are : locals ≡ func.locals
  pub value_fits : value_typed p.shapes.structs p.vars (length p.data_vars) result value ≡ true

-- an Exit is one of a function of the program, and its result fits what it is assigned to
pub record ExitFits (p : Program) (result : Option VarRef) (params : List VarRef) (to' : Option Dest) : Type 0 where
  pub func : Func
  pub is_there : IsIn func p.funcs
  pub result_is : result ≡ func.result
  pub params_are : params ≡ func.params
  pub to_fits : to_typed p.shapes.structs p.vars (length p.data_vars) result to' ≡ true

-- each act, each call and each `return` of the items is one of the program's
abbrev pub ItemsFit : Program → Items → Type 0
ItemsFit p Done = Unit {0}
ItemsFit p (Do a m is) = ActFits p a × ItemsFit p is
ItemsFit p (Close ps ds m is) = ItemsFit p is
ItemsFit p (If c x y is) = ItemsFit p x × ItemsFit p y × ItemsFit p is
ItemsFit p (Loop c n b is) = ItemsFit p n × ItemsFit p b × ItemsFit p is
ItemsFit p (Again c n b is) = ItemsFit p n × ItemsFit p b × ItemsFit p is
ItemsFit p (DoLoop c b is) = ItemsFit p b × ItemsFit p is
ItemsFit p (DoAgain c b is) = ItemsFit p b × ItemsFit p is
ItemsFit p (Enter vs ws m is) = EnterFits p vs ws × ItemsFit p is
ItemsFit p (Leave v vs a m is) = LeaveFits p v vs a × ItemsFit p is
ItemsFit p (Exit v vs d m is) = ExitFits p v vs d × ItemsFit p is
