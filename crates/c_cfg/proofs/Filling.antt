-- Each act has an edge, and as many whatever stands after it.
use Rattle.std.proofs.Common.{◌≡◌, ℕ, zero, suc, ◌<◌, ◌≤◌, ◌+◌, List, [], ◌∷◌, ◌++◌, length, refl, arith, Option, Some}
use Rattle.std.proofs.Common.{None}
use Rattle.std.specs.Prelude.{pred}
use Rattle.c_types.specs.declared.mode.MallocMode.{MallocMode}
use Rattle.c_types.specs.declared.mode.MallocMode.TheVariants.{Always, MayFail}
use Rattle.c_types.specs.declared.program.Path.{Path}
use Rattle.c_types.specs.declared.program.DataPath.{DataPath}
use Rattle.c_types.specs.declared.program.DataPath.TheVariants.{Var as DataVar, Field as DataField}
use Rattle.c_types.specs.declared.program.PtrRhs.{PtrRhs}
use Rattle.c_types.specs.declared.program.PtrRhs.TheVariants.{Path as RhsPath, Null as RhsNull, New as RhsNew}
use Rattle.c_types.specs.declared.program.DataRhs.{DataRhs}
use Rattle.c_types.specs.declared.program.DataRhs.TheVariants.{Path as DataRhsPath, Known as DataRhsKnown}
use Rattle.c_types.specs.declared.program.DataRhs.TheVariants.{Choice as DataRhsChoice}
use Rattle.c_types.specs.declared.program.Act.{Act}
use Rattle.c_types.specs.declared.program.Act.TheVariants.{SetPtr, SetData, Free as FreeAct, Return}
use Rattle.c_types.specs.declared.program.VarRef.{VarRef}
use Rattle.c_types.specs.declared.program.VarRef.TheVariants.{Ptr as PtrRef, Data as DataRef}
use Rattle.c_types.specs.declared.program.Arg.{Arg}
use Rattle.c_types.specs.declared.program.Arg.TheVariants.{Ptr as GivenPtr, Data as GivenData}
use Rattle.c_types.specs.declared.program.Dest.{Dest}
use Rattle.c_types.specs.declared.program.PtrOp.{PtrOp}
use Rattle.c_types.specs.declared.program.PtrOp.TheVariants.{Path as OpPath, Null as OpNull}
use Rattle.c_types.specs.declared.program.DataOp.{DataOp}
use Rattle.c_types.specs.declared.program.DataOp.TheVariants.{Path as DataOpPath, Known as DataOpKnown}
use Rattle.c_types.specs.Control.{Items, Done}
use Rattle.c_cfg.specs.declared.graph.Instr.{Instr}
use Rattle.c_cfg.specs.Links.{Link, links_in, loads, loads_but_last, data_loads, var_row, path_row, ptr_row}
use Rattle.c_cfg.specs.Links.{data_var_row, data_field_row, data_row, return_row, act_row, give_path, give_ptr}
use Rattle.c_cfg.specs.Links.{give_datum, give_links, give_each, enter_row, leave_row, hand_links, exit_row}

abbrev pub Filled : List Link → Type 0
Filled [] = ⊥
Filled (l ∷ ls) = Unit {0}

pub filled_length : (ls : List Link) → Filled ls → 0 < length ls
filled_length [] h = absurd h
filled_length (l ∷ ls) h = omega arith

pub filled_in : (mode : MallocMode) (ls : List Link) → Filled ls → Filled (links_in mode ls)
filled_in Always ls h = h
filled_in MayFail [] h = absurd h
filled_in MayFail (l ∷ ls) h = tt

-- something stands after the first ones
filled_after : (ls : List Link) (l : Link) (xs : List Link) → Filled (ls ++ l ∷ xs)
filled_after [] l xs = tt
filled_after (x ∷ ls) l xs = tt

filled_before : (ls xs : List Link) → Filled ls → Filled (ls ++ xs)
filled_before [] xs h = absurd h
filled_before (l ∷ ls) xs h = tt

filled_behind : (ls xs : List Link) → Filled xs → Filled (ls ++ xs)
filled_behind [] xs h = h
filled_behind (l ∷ ls) xs h = tt

but_last_filled : (t b f : ℕ) (fs : List ℕ) (last : ℕ → ℕ → Instr) (xs : List Link)
    → Filled (loads_but_last t b f fs last ++ xs)
but_last_filled t b f [] last xs = tt
but_last_filled t b f (g ∷ gs) last xs = tt

data_filled : (t d f : ℕ) (base : Path) (xs : List Link) → Filled (data_loads t d (DataField base f) ++ xs)
data_filled t d f base xs =
    filled_before (data_loads t d (DataField base f)) xs (filled_after (loads t base.var base.fields) _ [])

module _ (nv nd : ℕ) where
  var_filled : (x : ℕ) (from : PtrRhs) → Filled (var_row nv nd x from)
  var_filled x (RhsPath q) = by_fields q.fields
    where
      by_fields : (fs : List ℕ) → Filled (var_row nv nd x (RhsPath (record { var = q.var; fields = fs })))
      by_fields [] = tt
      by_fields (f ∷ fs) = but_last_filled nv q.var f fs _ _
  var_filled x RhsNull = tt
  var_filled x (RhsNew shape) = tt

  path_filled : (x f : ℕ) (fs : List ℕ) (from : PtrRhs) → Filled (path_row nv nd x f fs from)
  path_filled x f fs (RhsPath q) = filled_behind (loads nv q.var q.fields) _ (but_last_filled (nv + 1) x f fs _ _)
  path_filled x f fs RhsNull = but_last_filled (nv + 1) x f fs _ _
  path_filled x f fs (RhsNew shape) = tt

  ptr_filled : (x : ℕ) (fs : List ℕ) (from : PtrRhs) → Filled (ptr_row nv nd x fs from)
  ptr_filled x [] from = var_filled x from
  ptr_filled x (f ∷ fs) from = path_filled x f fs from

  data_var_filled : (x : ℕ) (from : DataRhs) → Filled (data_var_row nv nd x from)
  data_var_filled x (DataRhsPath (DataField base f)) = data_filled nv x f base _
  data_var_filled x _ = tt

  data_field_filled : (base : Path) (f : ℕ) (from : DataRhs) → Filled (data_field_row nv nd base f from)
  data_field_filled base f (DataRhsPath q) =
      filled_behind (data_loads nv nd q) _ (filled_after (loads (nv + 1) base.var base.fields) _ _)
  data_field_filled base f (DataRhsKnown k) = filled_after (loads (nv + 1) base.var base.fields) _ _
  data_field_filled base f DataRhsChoice = tt

  set_data_filled : (to : DataPath) (from : DataRhs) → Filled (data_row nv nd to from)
  set_data_filled (DataVar x) from = data_var_filled x from
  set_data_filled (DataField base f) from = data_field_filled base f from

  return_filled : (operand : Option DataPath) → Filled (return_row nv nd operand)
  return_filled None = tt
  return_filled (Some p) = filled_after (data_loads nv nd p) _ _

  pub act_filled : (a : Act) (is : Items) → Filled (act_row nv nd a is)
  act_filled (SetPtr to from) is = ptr_filled to.var to.fields from
  act_filled (SetData to from) is = set_data_filled to from
  act_filled (FreeAct p) is = filled_after (loads nv p.var p.fields) _ _
  act_filled (Return operand) is = return_filled operand
  act_filled _ is = tt

  -- Calls

  path_given : (x b : ℕ) (fs : List ℕ) (xs : List Link) → Filled (give_path nv nd x b fs ++ xs)
  path_given x b [] xs = tt
  path_given x b (f ∷ fs) xs = but_last_filled nv b f fs _ xs

  ptr_given : (x : ℕ) (p : PtrOp) (xs : List Link) → Filled (give_ptr nv nd x p ++ xs)
  ptr_given x (OpPath q) xs = path_given x q.var q.fields xs
  ptr_given x OpNull xs = tt

  datum_given : (x : ℕ) (p : DataOp) (xs : List Link) → Filled (give_datum nv nd x p ++ xs)
  datum_given x (DataOpPath (DataVar y)) xs = tt
  datum_given x (DataOpPath (DataField base f)) xs = data_filled nv x f base xs
  datum_given x (DataOpKnown k) xs = tt

  given : (v : VarRef) (a : Arg) (xs : List Link) → Filled (give_links nv nd v a ++ xs)
  given (PtrRef x) (GivenPtr p) xs = ptr_given x p xs
  given (PtrRef x) (GivenData p) xs = tt
  given (DataRef x) (GivenPtr p) xs = tt
  given (DataRef x) (GivenData p) xs = datum_given x p xs

  pub enter_filled : (vs : List VarRef) (ws : List Arg) → Filled (enter_row nv nd vs ws)
  enter_filled [] ws = tt
  enter_filled (v ∷ vs) [] = tt
  enter_filled (v ∷ vs) (a ∷ ws) =
      filled_before (give_each nv nd (v ∷ vs) (a ∷ ws)) _ (given v a (give_each nv nd vs ws))

  pub leave_filled : (v : Option VarRef) (vs : List VarRef) (a : Option Arg) → Filled (leave_row nv nd v vs a)
  leave_filled None vs a = tt
  leave_filled (Some v) vs None = tt
  leave_filled (Some v) vs (Some a) = filled_after (give_links nv nd v a) _ []

  pub exit_filled : (v : Option VarRef) (vs : List VarRef) (d : Option Dest) → Filled (exit_row nv nd v vs d)
  exit_filled None vs d = tt
  exit_filled (Some v) vs None = tt
  exit_filled (Some v) vs (Some d) = filled_after (hand_links nv nd v d) _ []

  pub row_length : (a : Act) (is : Items) → length (act_row nv nd a is) ≡ length (act_row nv nd a Done)
  row_length (SetPtr to from) is = refl
  row_length _ is = refl

pub pred_least : (n : ℕ) → n ≤ suc (pred n)
pred_least zero = omega arith
pred_least (suc n) = omega arith
