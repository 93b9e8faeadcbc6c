-- Short words for the programs of the rows.
use Rattle.std.proofs.Common.{ℕ, Bool, true, false, Option, Some, None, List, [], ◌∷◌, replicate}
use Rattle.fore_base.specs.declared.shape.Shape.{Shape}
use Rattle.fore_base.specs.declared.shape.FieldDef.{FieldDef}
use Rattle.fore_base.specs.declared.shape.FieldKind.TheVariants.{Pointer, Datum}
use Rattle.c_types.specs.declared.mode.MallocMode.TheVariants.{Always, MayFail}
use Rattle.c_types.specs.declared.outcome.Outcome.{Outcome}
use Rattle.c_types.specs.declared.program.Path.{Path}
use Rattle.c_types.specs.declared.program.DataPath.{DataPath}
use Rattle.c_types.specs.declared.program.DataPath.TheVariants.{Var as DataVar, Field as DataField}
use Rattle.c_types.specs.declared.program.PtrRhs.TheVariants.{Path as RhsPath, Null as RhsNull, New as RhsNew}
use Rattle.c_types.specs.declared.program.DataRhs.TheVariants.{Path as DataRhsPath, Known as DataRhsKnown}
use Rattle.c_types.specs.declared.program.DataRhs.TheVariants.{Choice as DataRhsChoice}
use Rattle.c_types.specs.declared.program.Act.TheVariants.{SetPtr, SetData, Free, Error, Halt, Return, Leave, Break}
use Rattle.c_types.specs.declared.program.Act.TheVariants.{Continue}
use Rattle.c_types.specs.declared.program.VarRef.{VarRef}
use Rattle.c_types.specs.declared.program.Arg.{Arg}
use Rattle.c_types.specs.declared.program.Arg.TheVariants.{Ptr as PtrArg, Data as DataArg}
use Rattle.c_types.specs.declared.program.Func.{Func}
use Rattle.c_types.specs.declared.program.PtrOp.{PtrOp}
use Rattle.c_types.specs.declared.program.PtrOp.TheVariants.{Path as OpPath, Null as OpNull}
use Rattle.c_types.specs.declared.program.DataOp.{DataOp}
use Rattle.c_types.specs.declared.program.DataOp.TheVariants.{Path as DataOpPath, Known as DataOpKnown}
use Rattle.c_types.specs.declared.program.Atom.TheVariants.{Choice as ChoiceAtom, Known as KnownAtom, Ptr as PtrAtom}
use Rattle.c_types.specs.declared.program.Atom.TheVariants.{Data as DataAtom}
use Rattle.c_types.specs.declared.program.Cond.{Cond}
use Rattle.c_types.specs.declared.program.Cond.TheVariants.{Atom}
use Rattle.c_types.specs.declared.program.Stmt.{Stmt}
use Rattle.c_types.specs.declared.program.Stmt.TheVariants.{Do, Group}
use Rattle.c_types.specs.Program.{Program}
use Rattle.c_types.specs.Runs.{run}

-- Structs

abbrev pub pointer_to : ℕ → FieldDef
pointer_to shape = record { name = []; kind = Pointer shape }

abbrev pub datum : FieldDef
datum = record { name = []; kind = Datum }

-- struct node { struct node *next; };
abbrev pub nodes : List Shape
nodes = record { name = []; fields = pointer_to 0 ∷ [] } ∷ []

-- struct item { struct item *left; int key; struct item *right; int mark; };
abbrev pub items : List Shape
items = record { name = []; fields = pointer_to 0 ∷ datum ∷ pointer_to 0 ∷ datum ∷ [] } ∷ []

-- Paths

-- the variable x
abbrev pub var : ℕ → Path
var x = record { var = x; fields = [] }

-- x->f
abbrev pub arrow : ℕ → ℕ → Path
arrow x f = record { var = x; fields = f ∷ [] }

-- x->f->g
abbrev pub arrows : ℕ → ℕ → ℕ → Path
arrows x f g = record { var = x; fields = f ∷ g ∷ [] }

-- the data field f of *x
abbrev pub key : ℕ → ℕ → DataPath
key x f = DataField (var x) f

-- Conditions

abbrev pub choice : ℕ → Cond
choice line = Atom ChoiceAtom line

abbrev pub literal : Bool → ℕ → Cond
literal b line = Atom (KnownAtom b) line

abbrev pub compare : PtrOp → PtrOp → Bool → ℕ → Cond
compare l r equal line = Atom (PtrAtom l r equal) line

abbrev pub compare_data : DataOp → DataOp → Bool → ℕ → Cond
compare_data l r equal line = Atom (DataAtom l r equal) line

-- x is NULL, x is not NULL
abbrev pub is_null : ℕ → ℕ → Cond
is_null x line = compare (OpPath (var x)) OpNull true line

abbrev pub is_set : ℕ → ℕ → Cond
is_set x line = compare (OpPath (var x)) OpNull false line

-- the data variable x is k, or is not k
abbrev pub has : ℕ → ℕ → ℕ → Cond
has x k line = compare_data (DataOpPath (DataVar x)) (DataOpKnown k) true line

abbrev pub has_not : ℕ → ℕ → ℕ → Cond
has_not x k line = compare_data (DataOpPath (DataVar x)) (DataOpKnown k) false line

-- Statements

abbrev pub null : Path → ℕ → Stmt
null to line = Do (SetPtr to RhsNull) line

-- to = malloc(sizeof of the struct 0)
abbrev pub new : Path → ℕ → Stmt
new to line = Do (SetPtr to (RhsNew 0)) line

abbrev pub copy : Path → Path → ℕ → Stmt
copy to from line = Do (SetPtr to (RhsPath from)) line

abbrev pub free : Path → ℕ → Stmt
free path line = Do (Free path) line

-- to = k
abbrev pub put : DataPath → ℕ → ℕ → Stmt
put to k line = Do (SetData to (DataRhsKnown k)) line

-- to = from, for data
abbrev pub copy_data : DataPath → DataPath → ℕ → Stmt
copy_data to from line = Do (SetData to (DataRhsPath from)) line

-- to = __VERIFIER_nondet_bool()
abbrev pub choose : DataPath → ℕ → Stmt
choose to line = Do (SetData to DataRhsChoice) line

abbrev pub error : ℕ → Stmt
error line = Do Error line

abbrev pub halt : ℕ → Stmt
halt line = Do Halt line

abbrev pub leave : ℕ → Stmt
leave line = Do (Return None) line

abbrev pub break : ℕ → Stmt
break line = Do Break line

abbrev pub continue : ℕ → Stmt
continue line = Do Continue line

-- a block that declares nothing
abbrev pub block : List Stmt → Stmt
block body = Group body [] [] 0

-- a program over structs, with so many pointer and data variables, whose block ends in the line given
abbrev pub main : List Shape → ℕ → ℕ → List Stmt → ℕ → Program
main shapes ptrs datums body close =
    record {
      shapes = record { structs = shapes };
      vars = replicate ptrs (record { name = []; shape = 0 });
      data_vars = replicate datums [];
      funcs = [];
      body = Group body [] [] close ∷ [];
    }

-- the same, whose block declares these variables
abbrev pub main_with : List Shape → ℕ → ℕ → List Stmt → List ℕ → List ℕ → ℕ → Program
main_with shapes ptrs datums body ps ds close =
    record {
      shapes = record { structs = shapes };
      vars = replicate ptrs (record { name = []; shape = 0 });
      data_vars = replicate datums [];
      funcs = [];
      body = Group body ps ds close ∷ [];
    }

-- Functions

-- a function with these parameters, local variables and result, whose block declares these variables and ends there
abbrev pub func : List VarRef → List VarRef → Option VarRef → List Stmt → List ℕ → List ℕ → ℕ → Func
func params locals result body ps ds close =
    record { name = []; params = params; locals = locals; result = result; body = Group body ps ds close ∷ [] }

-- `return` of the function f, with a value or without one
abbrev pub back : ℕ → Arg → ℕ → Stmt
back f value line = Do (Leave f (Some value)) line

abbrev pub back_none : ℕ → ℕ → Stmt
back_none f line = Do (Leave f None) line

-- arguments and values
abbrev pub give_ptr : Path → Arg
give_ptr p = PtrArg (OpPath p)

abbrev pub give_null : Arg
give_null = PtrArg OpNull

abbrev pub give_datum : DataPath → Arg
give_datum p = DataArg (DataOpPath p)

abbrev pub give_known : ℕ → Arg
give_known k = DataArg (DataOpKnown k)

-- a program with functions
abbrev pub with_funcs : List Shape → ℕ → ℕ → List Func → List Stmt → List ℕ → List ℕ → ℕ → Program
with_funcs shapes ptrs datums funcs body ps ds close =
    record {
      shapes = record { structs = shapes };
      vars = replicate ptrs (record { name = []; shape = 0 });
      data_vars = replicate datums [];
      funcs = funcs;
      body = Group body ps ds close ∷ [];
    }

-- the run in which each `malloc` gives a cell
abbrev pub always : Program → List ℕ → ℕ → Outcome
always p choices steps = run p Always choices steps

-- the run in which each `malloc` may fail
abbrev pub failing : Program → List ℕ → ℕ → Outcome
failing p choices steps = run p MayFail choices steps
