-- Programs as contracts see them, and when one is well typed.
use Rattle.std.specs.Prelude.{ℕ, zero, suc, List, [], ◌∷◌, map, length, Bool, true, false, ◌&&◌, nat_eq, nat_lt, nat_le}
use Rattle.std.specs.Prelude.{Option, Some, None, is_some, is_none, slice_get}
use Rattle.std.specs.List.{list_all}
use Rattle.fore_base.specs.declared.shape.Shape.{Shape}
use Rattle.fore_base.specs.declared.shape.Shapes.{Shapes}
use Rattle.fore_base.specs.declared.limits.TheConstants.{DATUM}
use Rattle.fore_base.specs.Shapes.{targets_in, targets_of, datums_of}
use Rattle.c_types.specs.declared.program.Path.{Path}
use Rattle.c_types.specs.declared.program.DataPath.{DataPath}
use Rattle.c_types.specs.declared.program.DataPath.TheVariants.{Var as DataVar, Field as DataField}
use Rattle.c_types.specs.declared.program.PtrRhs.{PtrRhs}
use Rattle.c_types.specs.declared.program.PtrRhs.TheVariants.{Path as RhsPath, Null as RhsNull, New as RhsNew}
use Rattle.c_types.specs.declared.program.DataRhs.{DataRhs}
use Rattle.c_types.specs.declared.program.DataRhs.TheVariants.{Path as DataRhsPath, Known as DataRhsKnown}
use Rattle.c_types.specs.declared.program.DataRhs.TheVariants.{Choice as DataRhsChoice}
use Rattle.c_types.specs.declared.program.Act.{Act}
use Rattle.c_types.specs.declared.program.Act.TheVariants.{SetPtr, SetData, Free, Error, Halt, Return, Leave, Break}
use Rattle.c_types.specs.declared.program.Act.TheVariants.{Continue}
use Rattle.c_types.specs.declared.program.PtrOp.{PtrOp}
use Rattle.c_types.specs.declared.program.PtrOp.TheVariants.{Path as OpPath, Null as OpNull}
use Rattle.c_types.specs.declared.program.DataOp.{DataOp}
use Rattle.c_types.specs.declared.program.DataOp.TheVariants.{Path as DataOpPath, Known as DataOpKnown}
use Rattle.c_types.specs.declared.program.Atom.{Atom}
use Rattle.c_types.specs.declared.program.Atom.TheVariants.{Choice as ChoiceAtom, Known as KnownAtom, Ptr as PtrAtom}
use Rattle.c_types.specs.declared.program.Atom.TheVariants.{Data as DataAtom}
use Rattle.c_types.specs.declared.program.Cond.{Cond, Cond-F, fold-Cond}
use Rattle.c_types.specs.declared.program.Cond.TheOpen.{Atom as Atom-F, Not as Not-F, All as All-F, Any as Any-F}
use Rattle.c_types.specs.declared.program.Stmt.{Stmt, Stmt-F, fold-Stmt}
use Rattle.c_types.specs.declared.program.Stmt.TheOpen.{Do as Do-F, Branch as Branch-F, While as While-F}
use Rattle.c_types.specs.declared.program.Stmt.TheOpen.{DoWhile as DoWhile-F, For as For-F, Group as Group-F}
use Rattle.c_types.specs.declared.program.Stmt.TheOpen.{Call as Call-F}
use Rattle.c_types.specs.declared.program.VarDef.{VarDef}
use Rattle.c_types.specs.declared.program.VarRef.{VarRef}
use Rattle.c_types.specs.declared.program.VarRef.TheVariants.{Ptr as PtrVar, Data as DatumVar}
use Rattle.c_types.specs.declared.program.Arg.{Arg}
use Rattle.c_types.specs.declared.program.Arg.TheVariants.{Ptr as PtrArg, Data as DataArg}
use Rattle.c_types.specs.declared.program.Dest.{Dest}
use Rattle.c_types.specs.declared.program.Dest.TheVariants.{Ptr as PtrDest, Data as DataDest}
use Rattle.c_types.specs.declared.program.Func.{Func}
use Rattle.c_types.specs.Bodies.{all_different, func_vars, keeps_to_own, keeps_to_main, calls_of}
use Rattle.c_calls.specs.Calls.{none_recurs}

-- the structs, the pointer variables, the names of the data variables, the functions besides main, and main's body
pub record Program : Type 0 where
  pub shapes : Shapes
  pub vars : List VarDef
  pub data_vars : List (List ℕ)
  pub funcs : List Func
  pub body : List Stmt

-- each number is below n
abbrev pub all_below : ℕ → List ℕ → Bool
all_below n [] = true
all_below n (m ∷ ms) = nat_lt m n && all_below n ms

-- Where a statement stands: outside loops, in the body of a loop, or in what a `for` does between its rounds.
pub data Spot : Type 0 where
  Outside : Spot
  InBody : Spot
  InNext : Spot

-- where the body of a loop stands, given where the loop does
abbrev pub body_of : Spot → Spot
body_of Outside = InBody
body_of InBody = InBody
body_of InNext = InNext

-- `break` and `continue` stand in the body of a loop, and none in a `next`, also not in a loop's body there (6.8.6.2,
-- 6.8.6.3)
abbrev pub is_in_body : Spot → Bool
is_in_body InBody = true
is_in_body _ = false

-- the body is that of the function f; none is that of `main`
abbrev pub is_home : Option ℕ → ℕ → Bool
is_home None f = false
is_home (Some h) f = nat_eq h f

-- Structs and variables

abbrev pub shapes_typed : ℕ → List Shape → Bool
shapes_typed n [] = true
shapes_typed n (s ∷ ss) = all_below n (targets_in s.fields) && shapes_typed n ss

abbrev pub vars_typed : ℕ → List VarDef → Bool
vars_typed n [] = true
vars_typed n (v ∷ vs) = nat_lt v.shape n && vars_typed n vs

-- the struct to which a variable points
abbrev pub var_target : List VarDef → ℕ → Option ℕ
var_target [] x = None
var_target (v ∷ vs) zero = Some v.shape
var_target (v ∷ vs) (suc x) = var_target vs x

-- one of two structs, or none
abbrev pub is_target : Option ℕ → ℕ → Bool
is_target None shape = false
is_target (Some t) shape = nat_eq t shape

-- operands that point to structs, or are null, agree
abbrev pub both_targets : Option ℕ → Option ℕ → Bool
both_targets None t = false
both_targets (Some s) t = is_target t s

module _ (shapes : List Shape) where
  -- the struct to which a field leads
  abbrev pub field_target : ℕ → ℕ → Option ℕ
  field_target shape field = slice_get (targets_of shapes shape) field

  -- the struct to which the arrows lead, one after the other
  abbrev pub target_after : Option ℕ → List ℕ → Option ℕ
  target_after t [] = t
  target_after None (f ∷ fs) = None
  target_after (Some s) (f ∷ fs) = target_after (field_target s f) fs

  abbrev pub has_datum : Option ℕ → ℕ → Bool
  has_datum None field = false
  has_datum (Some s) field = nat_lt field (datums_of shapes s)

  module _ (vars : List VarDef) (datums : ℕ) where
    -- the struct to which a path points; none where the path is not one of the program's
    abbrev pub path_target : Path → Option ℕ
    path_target p = target_after (var_target vars p.var) p.fields

    abbrev pub data_typed : DataPath → Bool
    data_typed (DataVar x) = nat_lt x datums
    data_typed (DataField base field) = has_datum (path_target base) field

    -- a right side may be assigned to a pointer to the struct t
    abbrev pub rhs_typed : Option ℕ → PtrRhs → Bool
    rhs_typed t (RhsPath q) = both_targets t (path_target q)
    rhs_typed t RhsNull = is_some t
    rhs_typed t (RhsNew shape) = is_target t shape

    abbrev pub data_rhs_typed : DataRhs → Bool
    data_rhs_typed (DataRhsPath p) = data_typed p
    data_rhs_typed (DataRhsKnown k) = nat_le k DATUM
    data_rhs_typed DataRhsChoice = true

    abbrev pub returned_typed : Option DataPath → Bool
    returned_typed None = true
    returned_typed (Some p) = data_typed p

    abbrev pub ops_typed : PtrOp → PtrOp → Bool
    ops_typed (OpPath p) (OpPath q) = both_targets (path_target p) (path_target q)
    ops_typed (OpPath p) OpNull = is_some (path_target p)
    ops_typed OpNull (OpPath q) = is_some (path_target q)
    ops_typed OpNull OpNull = true

    abbrev pub data_op_typed : DataOp → Bool
    data_op_typed (DataOpPath p) = data_typed p
    data_op_typed (DataOpKnown k) = nat_le k DATUM

    abbrev pub atom_typed : Atom → Bool
    atom_typed ChoiceAtom = true
    atom_typed (KnownAtom b) = true
    atom_typed (PtrAtom l r e) = ops_typed l r
    atom_typed (DataAtom l r e) = data_op_typed l && data_op_typed r

    abbrev pub all_typed : List Bool → Bool
    all_typed [] = true
    all_typed (b ∷ bs) = b && all_typed bs

    -- there is a part, and each is typed
    abbrev pub parts_typed : List Bool → Bool
    parts_typed [] = false
    parts_typed (b ∷ bs) = b && all_typed bs

    abbrev pub cond_typed_step : Cond-F Bool → Bool
    cond_typed_step (Atom-F a line) = atom_typed a
    cond_typed_step (Not-F c) = c
    cond_typed_step (All-F cs) = parts_typed cs
    cond_typed_step (Any-F cs) = parts_typed cs

    abbrev pub cond_typed : Cond → Bool
    cond_typed = fold-Cond Bool cond_typed_step

    abbrev pub each_typed : List (Spot → Bool) → Spot → Bool
    each_typed [] spot = true
    each_typed (s ∷ ss) spot = s spot && each_typed ss spot

    -- a variable of the program
    abbrev pub var_typed : VarRef → Bool
    var_typed (PtrVar x) = nat_lt x (length vars)
    var_typed (DatumVar x) = nat_lt x datums

    -- an operand may be given to a variable: it is of its kind, and points to its struct or is null
    abbrev pub arg_typed : VarRef → Arg → Bool
    arg_typed (PtrVar x) (PtrArg (OpPath p)) = both_targets (var_target vars x) (path_target p)
    arg_typed (PtrVar x) (PtrArg OpNull) = is_some (var_target vars x)
    arg_typed (PtrVar x) (DataArg p) = false
    arg_typed (DatumVar x) (PtrArg p) = false
    arg_typed (DatumVar x) (DataArg p) = nat_lt x datums && data_op_typed p

    -- there is an argument for each parameter, and none besides (6.5.2.2)
    abbrev pub args_typed : List VarRef → List Arg → Bool
    args_typed [] [] = true
    args_typed [] (a ∷ ws) = false
    args_typed (v ∷ vs) [] = false
    args_typed (v ∷ vs) (a ∷ ws) = arg_typed v a && args_typed vs ws

    -- a value is returned exactly where there is a result (6.8.6.4)
    abbrev pub value_typed : Option VarRef → Option Arg → Bool
    value_typed None None = true
    value_typed None (Some a) = false
    value_typed (Some v) None = false
    value_typed (Some v) (Some a) = arg_typed v a

    -- what a variable holds may be assigned there
    abbrev pub dest_typed : VarRef → Dest → Bool
    dest_typed (PtrVar x) (PtrDest p) = both_targets (var_target vars x) (path_target p)
    dest_typed (PtrVar x) (DataDest p) = false
    dest_typed (DatumVar x) (PtrDest p) = false
    dest_typed (DatumVar x) (DataDest p) = nat_lt x datums && data_typed p

    -- a result is assigned only where there is one
    abbrev pub to_typed : Option VarRef → Option Dest → Bool
    to_typed None None = true
    to_typed None (Some d) = false
    to_typed (Some v) None = true
    to_typed (Some v) (Some d) = dest_typed v d

    -- the value is one that the function returns
    abbrev pub returns_typed : Option Func → Option Arg → Bool
    returns_typed None value = false
    returns_typed (Some f) value = value_typed f.result value

    -- the function may be called with these arguments, its result being assigned there
    abbrev pub call_typed : Option Func → List Arg → Option Dest → Bool
    call_typed None args to = false
    call_typed (Some f) args to = args_typed f.params args && to_typed f.result to

    -- Acts and statements in the body of a function, `home` being its number, or in main's, `home` being none.

    module _ (funcs : List Func) (home : Option ℕ) where
      abbrev pub act_typed : Act → Spot → Bool
      act_typed (SetPtr to rhs) spot = rhs_typed (path_target to) rhs
      act_typed (SetData to rhs) spot = data_typed to && data_rhs_typed rhs
      act_typed (Free p) spot = is_some (path_target p)
      act_typed Error spot = true
      act_typed Halt spot = true
      act_typed (Return operand) spot = is_none home && returned_typed operand
      act_typed (Leave f value) spot = is_home home f && returns_typed (slice_get funcs f) value
      act_typed Break spot = is_in_body spot
      act_typed Continue spot = is_in_body spot

      abbrev pub stmt_typed_step : Stmt-F (Spot → Bool) → Spot → Bool
      stmt_typed_step (Do-F a line) spot = act_typed a spot
      stmt_typed_step (Branch-F c x y) spot = cond_typed c && (each_typed x spot && each_typed y spot)
      stmt_typed_step (While-F c b) spot = cond_typed c && each_typed b (body_of spot)
      stmt_typed_step (DoWhile-F c b) spot = cond_typed c && each_typed b (body_of spot)
      stmt_typed_step (For-F c n b) spot = cond_typed c && (each_typed n InNext && each_typed b (body_of spot))
      stmt_typed_step (Group-F b ps ds m) spot =
          each_typed b spot && (all_below (length vars) ps && all_below datums ds)
      stmt_typed_step (Call-F f args to line) spot = call_typed (slice_get funcs f) args to

      abbrev pub stmt_typed : Stmt → Spot → Bool
      stmt_typed = fold-Stmt (Spot → Bool) stmt_typed_step

      -- the statements of a body, outside loops
      abbrev pub body_typed : List Stmt → Bool
      body_typed ss = each_typed (map stmt_typed ss) Outside

    module _ (funcs : List Func) where
      -- the bodies of the functions from the number n on; each names its own variables alone
      abbrev pub bodies_typed : ℕ → List Func → Bool
      bodies_typed n [] = true
      bodies_typed n (f ∷ fs) = (body_typed funcs (Some n) f.body && keeps_to_own f) && bodies_typed (suc n) fs

-- The functions of a program: none leads to itself by calls, each body is typed, their variables are the program's and
-- all different, and main's body names none of them.
abbrev pub funcs_typed : Program → Bool
funcs_typed p =
    none_recurs (calls_of p.funcs) && (bodies_typed p.shapes.structs p.vars (length p.data_vars) p.funcs 0 p.funcs
    && (list_all (var_typed p.shapes.structs p.vars (length p.data_vars)) (func_vars p.funcs)
    && (all_different (func_vars p.funcs) && keeps_to_main p.funcs p.body)))

-- what the type of programs keeps
unfoldable pub is_typed : Program → Bool
is_typed p =
    ((shapes_typed (length p.shapes.structs) p.shapes.structs && vars_typed (length p.shapes.structs) p.vars)
    && body_typed p.shapes.structs p.vars (length p.data_vars) p.funcs None p.body) && funcs_typed p
