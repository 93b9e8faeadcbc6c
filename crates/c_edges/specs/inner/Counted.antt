-- The table of edges by the counts of a program's variables.
use Rattle.std.specs.Prelude.{ℕ, ◌+◌, List, [], ◌∷◌, ◌++◌, Option, Some}
use Rattle.c_types.specs.declared.program.Path.{Path}
use Rattle.c_types.specs.declared.program.DataPath.{DataPath}
use Rattle.c_types.specs.declared.program.DataRhs.{DataRhs}
use Rattle.c_types.specs.declared.program.DataOp.{DataOp}
use Rattle.c_types.specs.declared.program.Arg.{Arg}
use Rattle.c_types.specs.declared.program.Func.{Func}
use Rattle.c_types.specs.Steps.{below}
use Rattle.c_cfg.specs.declared.graph.Instr.TheVariants.{Kill, StoreData, Choose}
use Rattle.c_links.specs.declared.counts.Counts.{Counts}
use Rattle.c_cfg.specs.declared.link.Link.{Link}
use Rattle.c_cfg.specs.declared.link.Link.TheVariants.{One, Two}
use Rattle.c_cfg.specs.Links.{loads, holder, data_var_row, data_field_row, data_row, return_row}
use Rattle.c_cfg.specs.Links.{cmp_loads}
use Rattle.c_edges.specs.ActLinks.{return_of}

module _ (n : Counts) where
  abbrev pub data_links : DataPath → DataRhs → List Link
  data_links to from = data_row n.ptrs n.datums to from

  abbrev pub data_var_links : ℕ → DataRhs → List Link
  data_var_links x from = data_var_row n.ptrs n.datums x from

  abbrev pub data_field_links : Path → ℕ → DataRhs → List Link
  data_field_links base f from = data_field_row n.ptrs n.datums base f from

  -- the arrows of the left base, and the store
  abbrev pub store_links : Path → ℕ → ℕ → List Link
  store_links base f from = loads (n.ptrs + 1) base.var base.fields
      ++ One (StoreData (holder (n.ptrs + 1) base.var base.fields) f from) ∷ []

  abbrev pub return_links : Option DataPath → List Link
  return_links operand = return_row n.ptrs n.datums operand

  -- a `return` of a function
  abbrev pub returned_links : Option Func → Option Arg → List Link
  returned_links f value = return_of n.ptrs n.datums f value

  -- all variables die
  abbrev pub end_links : List Link
  end_links = One (Kill (below (n.ptrs + 2)) (below (n.datums + 2))) ∷ []

  abbrev pub data_op_links : DataOp → DataOp → List Link
  data_op_links l r = cmp_loads n.ptrs n.datums l r

-- the two edges of a choice
abbrev pub choice_links : ℕ → List Link
choice_links to = Two (Choose (Some to)) (Choose (Some to)) ∷ []

-- the end of a round
abbrev pub round_links : List ℕ → List ℕ → List Link
round_links ps ds = One (Kill ps ds) ∷ []
