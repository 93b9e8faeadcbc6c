-- The table of edges: which edges a step is. A graph has a program's variables, then the temporaries, two of each kind.
-- The rows are those where each `malloc` gives a cell; `links_in` says what a step is in either mode.
use Rattle.std.specs.Prelude.{ℕ, ◌+◌, List, [], ◌∷◌, ◌++◌, Bool, true, false, Option, Some, None}
use Rattle.c_types.specs.declared.mode.MallocMode.{MallocMode}
use Rattle.c_types.specs.declared.mode.MallocMode.TheVariants.{Always, MayFail}
use Rattle.c_types.specs.declared.program.Path.{Path}
use Rattle.c_types.specs.declared.program.DataPath.{DataPath}
use Rattle.c_types.specs.declared.program.DataPath.TheVariants.{Var as DataVar, Field as DataField}
use Rattle.c_types.specs.declared.program.PtrRhs.{PtrRhs}
use Rattle.c_types.specs.declared.program.PtrRhs.TheVariants.{Path as RhsPath, Null as RhsNull, New as RhsNew}
use Rattle.c_types.specs.declared.program.DataRhs.{DataRhs}
use Rattle.c_types.specs.declared.program.DataRhs.TheVariants.{Path as DataRhsPath, Known as DataRhsKnown}
use Rattle.c_types.specs.declared.program.DataRhs.TheVariants.{Choice as DataRhsChoice}
use Rattle.c_types.specs.declared.program.Act.{Act}
use Rattle.c_types.specs.declared.program.Act.TheVariants.{SetPtr, SetData, Free as FreeAct, Error, Halt, Return, Break}
use Rattle.c_types.specs.declared.program.Act.TheVariants.{Continue, Leave as LeaveAct}
use Rattle.c_types.specs.declared.program.PtrOp.{PtrOp}
use Rattle.c_types.specs.declared.program.PtrOp.TheVariants.{Path as OpPath, Null as OpNull}
use Rattle.c_types.specs.declared.program.DataOp.{DataOp}
use Rattle.c_types.specs.declared.program.DataOp.TheVariants.{Path as DataOpPath, Known as DataOpKnown}
use Rattle.c_types.specs.declared.program.VarRef.{VarRef}
use Rattle.c_types.specs.declared.program.VarRef.TheVariants.{Ptr as PtrRef, Data as DataRef}
use Rattle.c_types.specs.declared.program.Arg.{Arg}
use Rattle.c_types.specs.declared.program.Arg.TheVariants.{Ptr as GivenPtr, Data as GivenData}
use Rattle.c_types.specs.declared.program.Dest.{Dest}
use Rattle.c_types.specs.declared.program.Dest.TheVariants.{Ptr as ToPtr, Data as ToData}
use Rattle.c_types.specs.Control.{Items, closed_ptrs, closed_datums, ptr_vars, datum_vars, with_result}
use Rattle.c_types.specs.Steps.{below}
use Rattle.c_cfg.specs.declared.graph.PtrArg.{PtrArg}
use Rattle.c_cfg.specs.declared.graph.PtrArg.TheVariants.{Var as PtrVar, Null as PtrNull}
use Rattle.c_cfg.specs.declared.graph.DataArg.{DataArg}
use Rattle.c_cfg.specs.declared.graph.DataArg.TheVariants.{Var as ArgVar, Known as ArgKnown}
use Rattle.c_cfg.specs.declared.graph.Const.TheVariants.{Null as ConstNull, Known as ConstKnown}
use Rattle.c_cfg.specs.declared.graph.Instr.{Instr}
use Rattle.c_cfg.specs.declared.graph.Instr.TheVariants.{CopyPtr, LoadPtr, StorePtr, StoreConst, New, Free, Kill}
use Rattle.c_cfg.specs.declared.graph.Instr.TheVariants.{CopyData, LoadData, StoreData, TestPtr, TestData, Choose, Stop}
-- one edge, or the two edges for the choices 0 and 1, from one location to the next
pub use Rattle.c_cfg.specs.declared.link.Link.{Link}
pub use Rattle.c_cfg.specs.declared.link.Link.TheVariants.{One, Two}

-- Arrows

-- a path is read into the temporary t: one LoadPtr for each arrow, the first from the variable b, the others from t
abbrev pub loads : ℕ → ℕ → List ℕ → List Link
loads t b [] = []
loads t b (f ∷ fs) = One (LoadPtr t b f) ∷ loads t t fs

-- the variable that then holds the pointer: a path without arrows is its variable, and needs no edge
abbrev pub holder : ℕ → ℕ → List ℕ → ℕ
holder t b [] = b
holder t b (f ∷ fs) = t

-- the temporary, if reading the path uses it
abbrev pub used : ℕ → List ℕ → List ℕ
used t [] = []
used t (f ∷ fs) = t ∷ []

-- the temporary, if reading the path but for its last arrow uses it
abbrev pub used_before : ℕ → List ℕ → List ℕ
used_before t [] = []
used_before t (f ∷ fs) = used t fs

-- the arrows before the last into t, then the edge of the last one; f is the first arrow, fs are the others
abbrev pub loads_but_last : ℕ → ℕ → ℕ → List ℕ → (ℕ → ℕ → Instr) → List Link
loads_but_last t b f [] last = One (last b f) ∷ []
loads_but_last t b f (g ∷ gs) last = One (LoadPtr t b f) ∷ loads_but_last t t g gs last

-- a step that used temporaries ends with one Kill of those
abbrev pub ends : List ℕ → List ℕ → List Link
ends [] [] = []
ends [] (d ∷ ds) = One (Kill [] (d ∷ ds)) ∷ []
ends (p ∷ ps) ds = One (Kill (p ∷ ps) ds) ∷ []

-- a data field is read into d, its base into t; a data variable needs no edge
abbrev pub data_loads : ℕ → ℕ → DataPath → List Link
data_loads t d (DataVar x) = []
data_loads t d (DataField base f) = loads t base.var base.fields ++ One (LoadData d (holder t base.var base.fields) f)
    ∷ []

-- the data variable that then holds the datum
abbrev pub data_holder : ℕ → DataPath → ℕ
data_holder d (DataVar x) = x
data_holder d (DataField base f) = d

-- the temporaries that reading it uses
abbrev pub base_used : ℕ → DataPath → List ℕ
base_used t (DataVar x) = []
base_used t (DataField base f) = used t base.fields

abbrev pub data_used : ℕ → DataPath → List ℕ
data_used d (DataVar x) = []
data_used d (DataField base f) = d ∷ []

-- Operands of comparisons

abbrev pub op_loads : ℕ → PtrOp → List Link
op_loads t (OpPath p) = loads t p.var p.fields
op_loads t OpNull = []

abbrev pub op_arg : ℕ → PtrOp → PtrArg
op_arg t (OpPath p) = PtrVar (holder t p.var p.fields)
op_arg t OpNull = PtrNull

abbrev pub op_used : ℕ → PtrOp → List ℕ
op_used t (OpPath p) = used t p.fields
op_used t OpNull = []

abbrev pub data_op_loads : ℕ → ℕ → DataOp → List Link
data_op_loads t d (DataOpPath p) = data_loads t d p
data_op_loads t d (DataOpKnown k) = []

abbrev pub data_op_arg : ℕ → DataOp → DataArg
data_op_arg d (DataOpPath p) = ArgVar (data_holder d p)
data_op_arg d (DataOpKnown k) = ArgKnown k

abbrev pub op_base_used : ℕ → DataOp → List ℕ
op_base_used t (DataOpPath p) = base_used t p
op_base_used t (DataOpKnown k) = []

abbrev pub op_data_used : ℕ → DataOp → List ℕ
op_data_used d (DataOpPath p) = data_used d p
op_data_used d (DataOpKnown k) = []

-- Of a program with nv pointer and nd data variables
module _ (nv nd : ℕ) where
  -- The temporaries

  abbrev pub p0 : ℕ
  p0 = nv

  abbrev pub p1 : ℕ
  p1 = nv + 1

  abbrev pub d0 : ℕ
  d0 = nd

  abbrev pub d1 : ℕ
  d1 = nd + 1

  -- Assignments to pointers

  -- the variable x = .. : the arrows before the last into p0, the last one to x
  abbrev pub var_row : ℕ → PtrRhs → List Link
  var_row x (RhsPath q) = from_path q.fields
    where
      from_path : List ℕ → List Link
      from_path [] = One (CopyPtr x (PtrVar q.var)) ∷ []
      from_path (f ∷ fs) = loads_but_last p0 q.var f fs (λ b g. LoadPtr x b g) ++ ends (used p0 fs) []
  var_row x RhsNull = One (CopyPtr x PtrNull) ∷ []
  var_row x (RhsNew shape) = One (New x shape) ∷ []

  -- the path from x by f and fs = .. : the right side into p0, the arrows before the last into p1, the store
  abbrev pub path_row : ℕ → ℕ → List ℕ → PtrRhs → List Link
  path_row x f fs (RhsPath q) =
      loads p0 q.var q.fields
      ++ (loads_but_last p1 x f fs (λ b g. StorePtr b g (holder p0 q.var q.fields))
      ++ ends (used p0 q.fields ++ used p1 fs) [])
  path_row x f fs RhsNull = loads_but_last p1 x f fs (λ b g. StoreConst b g ConstNull) ++ ends (used p1 fs) []
  path_row x f fs (RhsNew shape) =
      One (New p0 shape) ∷ (loads_but_last p1 x f fs (λ b g. StorePtr b g p0) ++ ends (p0 ∷ used p1 fs) [])

  abbrev pub ptr_row : ℕ → List ℕ → PtrRhs → List Link
  ptr_row x [] from = var_row x from
  ptr_row x (f ∷ fs) from = path_row x f fs from

  -- Assignments to data

  -- the data variable x = .. : of a field the base into p0
  abbrev pub data_var_row : ℕ → DataRhs → List Link
  data_var_row x (DataRhsPath (DataVar y)) = One (CopyData x (ArgVar y)) ∷ []
  data_var_row x (DataRhsPath (DataField base f)) = data_loads p0 x (DataField base f) ++ ends (used p0 base.fields) []
  data_var_row x (DataRhsKnown k) = One (CopyData x (ArgKnown k)) ∷ []
  data_var_row x DataRhsChoice = Two (Choose (Some x)) (Choose (Some x)) ∷ []

  -- a data field = .. : the right side into d0, with its base in p0, the left base into p1, the store
  abbrev pub data_field_row : Path → ℕ → DataRhs → List Link
  data_field_row base f (DataRhsPath q) =
      data_loads p0 d0 q
      ++ (loads p1 base.var base.fields
      ++ One (StoreData (holder p1 base.var base.fields) f (data_holder d0 q))
      ∷ ends (base_used p0 q ++ used p1 base.fields) (data_used d0 q))
  data_field_row base f (DataRhsKnown k) =
      loads p1 base.var base.fields ++ One (StoreConst (holder p1 base.var base.fields) f (ConstKnown k))
      ∷ ends (used p1 base.fields) []
  data_field_row base f DataRhsChoice =
      Two (Choose (Some d0)) (Choose (Some d0))
      ∷ (loads p1 base.var base.fields ++ One (StoreData (holder p1 base.var base.fields) f d0)
      ∷ ends (used p1 base.fields) (d0 ∷ []))

  abbrev pub data_row : DataPath → DataRhs → List Link
  data_row (DataVar x) from = data_var_row x from
  data_row (DataField base f) from = data_field_row base f from

  -- Other acts

  abbrev pub free_row : Path → List Link
  free_row p = loads p0 p.var p.fields ++ One (Free (holder p0 p.var p.fields)) ∷ ends (used p0 p.fields) []

  -- the operand's loads, then all variables die, the temporaries with them
  abbrev pub return_row : Option DataPath → List Link
  return_row None = One (Kill (below (nv + 2)) (below (nd + 2))) ∷ []
  return_row (Some p) = data_loads p0 d0 p ++ One (Kill (below (nv + 2)) (below (nd + 2))) ∷ []

  -- the edges of an act that stands before these items
  abbrev pub act_row : Act → Items → List Link
  act_row (SetPtr to from) is = ptr_row to.var to.fields from
  act_row (SetData to from) is = data_row to from
  act_row (FreeAct p) is = free_row p
  act_row Error is = One (Stop true) ∷ []
  act_row Halt is = One (Stop false) ∷ []
  act_row (Return operand) is = return_row operand
  act_row (LeaveAct f value) is = One (Stop false) ∷ []
  act_row Break is = One (Kill (closed_ptrs is) (closed_datums is)) ∷ []
  act_row Continue is = One (Kill (closed_ptrs is) (closed_datums is)) ∷ []

  -- Comparisons: the left operand into p0 or d0, the right one into p1 or d1

  abbrev pub ptr_loads : PtrOp → PtrOp → List Link
  ptr_loads l r = op_loads p0 l ++ op_loads p1 r

  abbrev pub ptr_test : PtrOp → PtrOp → Bool → Instr
  ptr_test l r equal = TestPtr (op_arg p0 l) (op_arg p1 r) equal

  abbrev pub ptr_ends : PtrOp → PtrOp → List Link
  ptr_ends l r = ends (op_used p0 l ++ op_used p1 r) []

  abbrev pub cmp_loads : DataOp → DataOp → List Link
  cmp_loads l r = data_op_loads p0 d0 l ++ data_op_loads p1 d1 r

  abbrev pub data_test : DataOp → DataOp → Bool → Instr
  data_test l r equal = TestData (data_op_arg d0 l) (data_op_arg d1 r) equal

  abbrev pub data_ends : DataOp → DataOp → List Link
  data_ends l r = ends (op_base_used p0 l ++ op_base_used p1 r) (op_data_used d0 l ++ op_data_used d1 r)

  -- Calls (6.5.2.2): what is given to a parameter or returned, its arrows before the last into p0

  -- the pointer variable x is given what stands at the end of the path from b
  abbrev pub give_path : ℕ → ℕ → List ℕ → List Link
  give_path x b [] = One (CopyPtr x (PtrVar b)) ∷ []
  give_path x b (f ∷ fs) = loads_but_last p0 b f fs (λ c g. LoadPtr x c g)

  abbrev pub give_ptr : ℕ → PtrOp → List Link
  give_ptr x (OpPath q) = give_path x q.var q.fields
  give_ptr x OpNull = One (CopyPtr x PtrNull) ∷ []

  abbrev pub give_datum : ℕ → DataOp → List Link
  give_datum x (DataOpPath (DataVar y)) = One (CopyData x (ArgVar y)) ∷ []
  give_datum x (DataOpPath (DataField base f)) = data_loads p0 x (DataField base f)
  give_datum x (DataOpKnown k) = One (CopyData x (ArgKnown k)) ∷ []

  -- a variable is given what an operand is (of its own kind, in a program)
  abbrev pub give_links : VarRef → Arg → List Link
  give_links (PtrRef x) (GivenPtr p) = give_ptr x p
  give_links (PtrRef x) (GivenData p) = One (Kill [] []) ∷ []
  give_links (DataRef x) (GivenPtr p) = One (Kill [] []) ∷ []
  give_links (DataRef x) (GivenData p) = give_datum x p

  -- p0, if reading the operand uses it
  abbrev pub given_used : Arg → List ℕ
  given_used (GivenPtr (OpPath q)) = used_before p0 q.fields
  given_used (GivenPtr OpNull) = []
  given_used (GivenData p) = op_base_used p0 p

  -- each parameter is given its argument, the first one first
  abbrev pub give_each : List VarRef → List Arg → List Link
  give_each [] ws = []
  give_each (v ∷ vs) [] = []
  give_each (v ∷ vs) (a ∷ ws) = give_links v a ++ give_each vs ws

  -- p0 once, if one of the arguments uses it
  abbrev pub one_used : List ℕ → List ℕ → List ℕ
  one_used [] ts = ts
  one_used (t ∷ us) ts = t ∷ []

  abbrev pub each_used : List Arg → List ℕ
  each_used [] = []
  each_used (a ∷ ws) = one_used (given_used a) (each_used ws)

  -- a call begins: without an argument an edge that does nothing
  abbrev pub enter_row : List VarRef → List Arg → List Link
  enter_row [] ws = One (Kill [] []) ∷ []
  enter_row (v ∷ vs) [] = One (Kill [] []) ∷ []
  enter_row (v ∷ vs) (a ∷ ws) = give_each (v ∷ vs) (a ∷ ws) ++ ends (each_used (a ∷ ws)) []

  -- these variables die, and temporaries that stand behind all variables
  abbrev pub die : List VarRef → List ℕ → Link
  die vs ts = One (Kill (ptr_vars vs ++ ts) (datum_vars vs))

  -- `return` of a function (6.8.6.4): the result is given what is returned, and the local variables die
  abbrev pub leave_row : Option VarRef → List VarRef → Option Arg → List Link
  leave_row None locals value = die locals [] ∷ []
  leave_row (Some v) locals None = die locals [] ∷ []
  leave_row (Some v) locals (Some a) = give_links v a ++ die locals (given_used a) ∷ []

  -- what a pointer variable holds is assigned to the path from y: the arrows before the last into p1, the store
  abbrev pub hand_ptr : ℕ → ℕ → List ℕ → List Link
  hand_ptr x y [] = One (CopyPtr y (PtrVar x)) ∷ []
  hand_ptr x y (f ∷ fs) = loads_but_last p1 y f fs (λ b g. StorePtr b g x)

  abbrev pub hand_datum : ℕ → DataPath → List Link
  hand_datum x (DataVar y) = One (CopyData y (ArgVar x)) ∷ []
  hand_datum x (DataField base f) = loads p1 base.var base.fields
      ++ One (StoreData (holder p1 base.var base.fields) f x) ∷ []

  -- what a variable holds is assigned there (to what is of its own kind, in a program)
  abbrev pub hand_links : VarRef → Dest → List Link
  hand_links (PtrRef x) (ToPtr p) = hand_ptr x p.var p.fields
  hand_links (PtrRef x) (ToData p) = []
  hand_links (DataRef x) (ToPtr p) = []
  hand_links (DataRef x) (ToData p) = hand_datum x p

  -- p1, if reading the target uses it
  abbrev pub dest_used : Dest → List ℕ
  dest_used (ToPtr p) = used_before p1 p.fields
  dest_used (ToData p) = base_used p1 p

  -- a call ends: the result is assigned, if it is wanted, and the result and the parameters die
  abbrev pub exit_row : Option VarRef → List VarRef → Option Dest → List Link
  exit_row None params to' = die params [] ∷ []
  exit_row (Some v) params None = die (with_result (Some v) params) [] ∷ []
  exit_row (Some v) params (Some d) = hand_links v d ++ die (with_result (Some v) params) (dest_used d) ∷ []

-- Where a `malloc` may fail (7.22.3)

-- a New is two edges to one location: for the choice 0 the variable is the null pointer, for the choice 1 it is a new
-- cell; each other edge stays
abbrev pub failing : Instr → Link
failing (CopyPtr to from) = One (CopyPtr to from)
failing (LoadPtr to from field) = One (LoadPtr to from field)
failing (StorePtr to field from) = One (StorePtr to field from)
failing (StoreConst to field value) = One (StoreConst to field value)
failing (New to shape) = Two (CopyPtr to PtrNull) (New to shape)
failing (Free from) = One (Free from)
failing (Kill ptrs datums) = One (Kill ptrs datums)
failing (CopyData to from) = One (CopyData to from)
failing (LoadData to from field) = One (LoadData to from field)
failing (StoreData to field from) = One (StoreData to field from)
failing (TestPtr left right equal) = One (TestPtr left right equal)
failing (TestData left right equal) = One (TestData left right equal)
failing (Choose to) = One (Choose to)
failing (Stop error) = One (Stop error)

abbrev pub failing_link : Link → Link
failing_link (One i) = failing i
failing_link (Two i j) = Two i j

-- the links of a step, where `malloc` has this mode
abbrev pub links_in : MallocMode → List Link → List Link
links_in Always ls = ls
links_in MayFail [] = []
links_in MayFail (l ∷ ls) = failing_link l ∷ links_in MayFail ls
