-- The table of edges of calls by the counts of a program's variables.
use Rattle.std.specs.Prelude.{ℕ, List, [], ◌∷◌, ◌++◌, Option, Some, None}
use Rattle.c_types.specs.declared.program.DataPath.{DataPath}
use Rattle.c_types.specs.declared.program.DataOp.{DataOp}
use Rattle.c_types.specs.declared.program.VarRef.{VarRef}
use Rattle.c_types.specs.declared.program.VarRef.TheVariants.{Ptr as PtrVar, Data as DatumVar}
use Rattle.c_types.specs.declared.program.Arg.{Arg}
use Rattle.c_types.specs.declared.program.Dest.{Dest}
use Rattle.c_types.specs.Control.{insert, ptr_vars, datum_vars, with_result}
use Rattle.c_cfg.specs.declared.graph.Instr.TheVariants.{Kill}
use Rattle.c_links.specs.declared.counts.Counts.{Counts}
use Rattle.c_cfg.specs.declared.link.Link.{Link}
use Rattle.c_cfg.specs.declared.link.Link.TheVariants.{One}
use Rattle.c_cfg.specs.Links.{ends, enter_row, leave_row, exit_row, give_links, give_datum, given_used, give_each}
use Rattle.c_cfg.specs.Links.{each_used, hand_links, hand_datum, dest_used}

-- an edge that does nothing
abbrev pub nothing_links : List Link
nothing_links = One (Kill [] []) ∷ []

-- a rising list of pointer variables with one more, if it is one
abbrev pub with_ptr : VarRef → List ℕ → List ℕ
with_ptr (PtrVar x) xs = insert x xs
with_ptr (DatumVar x) xs = xs

-- a rising list of data variables with one more, if it is one
abbrev pub with_datum : VarRef → List ℕ → List ℕ
with_datum (PtrVar x) xs = xs
with_datum (DatumVar x) xs = insert x xs

-- these variables die, the first if it is there, and temporaries
abbrev pub dead_links : Option VarRef → List VarRef → List ℕ → List Link
dead_links v vs ts = One (Kill (ptr_vars (with_result v vs) ++ ts) (datum_vars (with_result v vs))) ∷ []

module _ (n : Counts) where
  abbrev pub enter_links : List VarRef → List Arg → List Link
  enter_links vs ws = enter_row n.ptrs n.datums vs ws

  abbrev pub leave_links : Option VarRef → List VarRef → Option Arg → List Link
  leave_links v vs a = leave_row n.ptrs n.datums v vs a

  abbrev pub exit_links : Option VarRef → List VarRef → Option Dest → List Link
  exit_links v vs d = exit_row n.ptrs n.datums v vs d

  abbrev pub given_links : VarRef → Arg → List Link
  given_links v a = give_links n.ptrs n.datums v a

  abbrev pub datum_given_links : ℕ → DataOp → List Link
  datum_given_links x p = give_datum n.ptrs n.datums x p

  abbrev pub given_temps : Arg → List ℕ
  given_temps a = given_used n.ptrs n.datums a

  abbrev pub each_links : List VarRef → List Arg → List Link
  each_links vs ws = give_each n.ptrs n.datums vs ws

  abbrev pub each_temps : List Arg → List ℕ
  each_temps ws = each_used n.ptrs n.datums ws

  -- the end of the temporary that arguments used
  abbrev pub end_temps : List Arg → List Link
  end_temps ws = ends (each_used n.ptrs n.datums ws) []

  abbrev pub handed_links : VarRef → Dest → List Link
  handed_links v d = hand_links n.ptrs n.datums v d

  abbrev pub datum_handed_links : ℕ → DataPath → List Link
  datum_handed_links x p = hand_datum n.ptrs n.datums x p

  abbrev pub dest_temps : Dest → List ℕ
  dest_temps d = dest_used n.ptrs n.datums d

  -- a value is returned
  abbrev pub back_links : VarRef → List VarRef → Arg → List Link
  back_links v locals a = given_links v a ++ dead_links None locals (given_temps a)

  -- the end of a call whose result was assigned
  abbrev pub over_links : Option VarRef → List VarRef → Dest → List Link
  over_links v params d = dead_links v params (dest_temps d)
