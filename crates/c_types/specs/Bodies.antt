-- Which variables bodies name and declare, and which functions they call.
use Rattle.std.specs.Prelude.{ℕ, List, [], ◌∷◌, ◌++◌, map, Bool, true, false, not, ◌&&◌, nat_eq, Option, Some, None}
use Rattle.std.specs.List.{list_any, list_all, flat_map}
use Rattle.c_types.specs.declared.program.Path.{Path}
use Rattle.c_types.specs.declared.program.DataPath.{DataPath}
use Rattle.c_types.specs.declared.program.DataPath.TheVariants.{Var as DataVar, Field as DataField}
use Rattle.c_types.specs.declared.program.PtrRhs.{PtrRhs}
use Rattle.c_types.specs.declared.program.PtrRhs.TheVariants.{Path as RhsPath, Null as RhsNull, New as RhsNew}
use Rattle.c_types.specs.declared.program.DataRhs.{DataRhs}
use Rattle.c_types.specs.declared.program.DataRhs.TheVariants.{Path as DataRhsPath, Known as DataRhsKnown}
use Rattle.c_types.specs.declared.program.DataRhs.TheVariants.{Choice as DataRhsChoice}
use Rattle.c_types.specs.declared.program.PtrOp.{PtrOp}
use Rattle.c_types.specs.declared.program.PtrOp.TheVariants.{Path as OpPath, Null as OpNull}
use Rattle.c_types.specs.declared.program.DataOp.{DataOp}
use Rattle.c_types.specs.declared.program.DataOp.TheVariants.{Path as DataOpPath, Known as DataOpKnown}
use Rattle.c_types.specs.declared.program.VarRef.{VarRef}
use Rattle.c_types.specs.declared.program.VarRef.TheVariants.{Ptr as PtrVar, Data as DatumVar}
use Rattle.c_types.specs.declared.program.Arg.{Arg}
use Rattle.c_types.specs.declared.program.Arg.TheVariants.{Ptr as PtrArg, Data as DataArg}
use Rattle.c_types.specs.declared.program.Dest.{Dest}
use Rattle.c_types.specs.declared.program.Dest.TheVariants.{Ptr as PtrDest, Data as DataDest}
use Rattle.c_types.specs.declared.program.Act.{Act}
use Rattle.c_types.specs.declared.program.Act.TheVariants.{SetPtr, SetData, Free, Error, Halt, Return, Leave, Break}
use Rattle.c_types.specs.declared.program.Act.TheVariants.{Continue}
use Rattle.c_types.specs.declared.program.Atom.{Atom}
use Rattle.c_types.specs.declared.program.Atom.TheVariants.{Choice as ChoiceAtom, Known as KnownAtom, Ptr as PtrAtom}
use Rattle.c_types.specs.declared.program.Atom.TheVariants.{Data as DataAtom}
use Rattle.c_types.specs.declared.program.Cond.{Cond, Cond-F, fold-Cond}
use Rattle.c_types.specs.declared.program.Cond.TheOpen.{Atom as Atom-F, Not as Not-F, All as All-F, Any as Any-F}
use Rattle.c_types.specs.declared.program.Stmt.{Stmt, Stmt-F, fold-Stmt}
use Rattle.c_types.specs.declared.program.Stmt.TheOpen.{Do as Do-F, Branch as Branch-F, While as While-F}
use Rattle.c_types.specs.declared.program.Stmt.TheOpen.{DoWhile as DoWhile-F, For as For-F, Group as Group-F}
use Rattle.c_types.specs.declared.program.Stmt.TheOpen.{Call as Call-F}
use Rattle.c_types.specs.declared.program.Func.{Func}

-- lists one after the other
abbrev pub in_turn : {X : Type 0} → List (List X) → List X
in_turn xss = flat_map (λ xs. xs) xss

-- Variables

abbrev pub same_var : VarRef → VarRef → Bool
same_var (PtrVar x) (PtrVar y) = nat_eq x y
same_var (PtrVar x) (DatumVar y) = false
same_var (DatumVar x) (PtrVar y) = false
same_var (DatumVar x) (DatumVar y) = nat_eq x y

-- the variable is one of these
abbrev pub is_among : List VarRef → VarRef → Bool
is_among vs v = list_any (same_var v) vs

-- each of the second list is one of the first
abbrev pub all_among : List VarRef → List VarRef → Bool
all_among vs ws = list_all (is_among vs) ws

-- none of the second list is one of the first
abbrev pub none_among : List VarRef → List VarRef → Bool
none_among vs ws = list_all (λ w. not (is_among vs w)) ws

-- no variable stands twice
abbrev pub all_different : List VarRef → Bool
all_different [] = true
all_different (v ∷ vs) = not (is_among vs v) && all_different vs

-- What is named

abbrev pub path_names : Path → List VarRef
path_names p = PtrVar p.var ∷ []

abbrev pub data_names : DataPath → List VarRef
data_names (DataVar x) = DatumVar x ∷ []
data_names (DataField base field) = path_names base

abbrev pub rhs_names : PtrRhs → List VarRef
rhs_names (RhsPath p) = path_names p
rhs_names RhsNull = []
rhs_names (RhsNew shape) = []

abbrev pub data_rhs_names : DataRhs → List VarRef
data_rhs_names (DataRhsPath p) = data_names p
data_rhs_names (DataRhsKnown k) = []
data_rhs_names DataRhsChoice = []

abbrev pub op_names : PtrOp → List VarRef
op_names (OpPath p) = path_names p
op_names OpNull = []

abbrev pub data_op_names : DataOp → List VarRef
data_op_names (DataOpPath p) = data_names p
data_op_names (DataOpKnown k) = []

abbrev pub arg_names : Arg → List VarRef
arg_names (PtrArg p) = op_names p
arg_names (DataArg p) = data_op_names p

abbrev pub dest_names : Dest → List VarRef
dest_names (PtrDest p) = path_names p
dest_names (DataDest p) = data_names p

-- the names of what is there
abbrev pub maybe_names : {X : Type 0} → (X → List VarRef) → Option X → List VarRef
maybe_names names None = []
maybe_names names (Some x) = names x

abbrev pub act_names : Act → List VarRef
act_names (SetPtr to from) = path_names to ++ rhs_names from
act_names (SetData to from) = data_names to ++ data_rhs_names from
act_names (Free p) = path_names p
act_names Error = []
act_names Halt = []
act_names (Return operand) = maybe_names data_names operand
act_names (Leave f value) = maybe_names arg_names value
act_names Break = []
act_names Continue = []

abbrev pub atom_names : Atom → List VarRef
atom_names ChoiceAtom = []
atom_names (KnownAtom b) = []
atom_names (PtrAtom l r equal) = op_names l ++ op_names r
atom_names (DataAtom l r equal) = data_op_names l ++ data_op_names r

abbrev pub cond_names_step : Cond-F (List VarRef) → List VarRef
cond_names_step (Atom-F a line) = atom_names a
cond_names_step (Not-F c) = c
cond_names_step (All-F cs) = in_turn cs
cond_names_step (Any-F cs) = in_turn cs

abbrev pub cond_names : Cond → List VarRef
cond_names = fold-Cond (List VarRef) cond_names_step

abbrev pub stmt_names_step : Stmt-F (List VarRef) → List VarRef
stmt_names_step (Do-F a line) = act_names a
stmt_names_step (Branch-F c x y) = cond_names c ++ in_turn x ++ in_turn y
stmt_names_step (While-F c b) = cond_names c ++ in_turn b
stmt_names_step (DoWhile-F c b) = cond_names c ++ in_turn b
stmt_names_step (For-F c n b) = cond_names c ++ in_turn n ++ in_turn b
stmt_names_step (Group-F b ps ds m) = in_turn b
stmt_names_step (Call-F f args to line) = flat_map arg_names args ++ maybe_names dest_names to

-- the variables at the heads of the paths of a statement
abbrev pub stmt_names : Stmt → List VarRef
stmt_names = fold-Stmt (List VarRef) stmt_names_step

abbrev pub body_names : List Stmt → List VarRef
body_names ss = flat_map stmt_names ss

-- What is declared

abbrev pub declares_step : Stmt-F (List VarRef) → List VarRef
declares_step (Do-F a line) = []
declares_step (Branch-F c x y) = in_turn x ++ in_turn y
declares_step (While-F c b) = in_turn b
declares_step (DoWhile-F c b) = in_turn b
declares_step (For-F c n b) = in_turn n ++ in_turn b
declares_step (Group-F b ps ds m) = map (λ x. PtrVar x) ps ++ map (λ x. DatumVar x) ds ++ in_turn b
declares_step (Call-F f args to line) = []

-- the variables that the groups of a statement declare
abbrev pub stmt_declares : Stmt → List VarRef
stmt_declares = fold-Stmt (List VarRef) declares_step

abbrev pub body_declares : List Stmt → List VarRef
body_declares ss = flat_map stmt_declares ss

-- What is called

abbrev pub calls_step : Stmt-F (List ℕ) → List ℕ
calls_step (Do-F a line) = []
calls_step (Branch-F c x y) = in_turn x ++ in_turn y
calls_step (While-F c b) = in_turn b
calls_step (DoWhile-F c b) = in_turn b
calls_step (For-F c n b) = in_turn n ++ in_turn b
calls_step (Group-F b ps ds m) = in_turn b
calls_step (Call-F f args to line) = f ∷ []

-- the functions that a statement calls, in order
abbrev pub stmt_calls : Stmt → List ℕ
stmt_calls = fold-Stmt (List ℕ) calls_step

abbrev pub body_calls : List Stmt → List ℕ
body_calls ss = flat_map stmt_calls ss

-- for each function those that it calls
abbrev pub calls_of : List Func → List (List ℕ)
calls_of funcs = map (λ f. body_calls f.body) funcs

-- The variables of functions

-- the variable of a function's result, if it has one
abbrev pub result_var : Func → List VarRef
result_var f = maybe_names (λ v. v ∷ []) f.result

-- the variables that a function's body may name
abbrev pub own_vars : Func → List VarRef
own_vars f = f.params ++ f.locals

-- parameters, results and local variables of functions
abbrev pub func_vars : List Func → List VarRef
func_vars funcs = flat_map (λ f. result_var f ++ own_vars f) funcs

-- the body of a function names variables of its own alone, and the local variables are those that it declares
abbrev pub keeps_to_own : Func → Bool
keeps_to_own f =
    all_among (own_vars f) (body_names f.body)
    && (all_among f.locals (body_declares f.body) && all_among (body_declares f.body) f.locals)

-- main's body names and declares no variable of a function
abbrev pub keeps_to_main : List Func → List Stmt → Bool
keeps_to_main funcs body = none_among (func_vars funcs) (body_names body ++ body_declares body)
