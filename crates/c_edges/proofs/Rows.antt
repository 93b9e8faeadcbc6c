-- Worked values of the edges of acts and of comparisons, by hand from the table of edges. The program has 10 pointer
-- and 20 data variables: the temporaries are p0 = 10 and p1 = 11, d0 = 20 and d1 = 21.
use Rattle.std.proofs.Common.{◌≡◌, ℕ, [], ◌∷◌, Bool, true, false, None, Some, refl}
use Rattle.c_types.specs.declared.program.Path.{Path}
use Rattle.c_types.specs.declared.program.PtrRhs.TheVariants.{Null as RhsNull}
use Rattle.c_types.specs.declared.program.DataPath.TheVariants.{Var as DataVar}
use Rattle.c_types.specs.declared.program.DataRhs.TheVariants.{Known as DataRhsKnown}
use Rattle.c_types.specs.declared.program.Act.TheVariants.{SetPtr, SetData, Free as FreeAct, Error, Halt, Return, Break}
use Rattle.c_types.specs.declared.program.Act.TheVariants.{Continue, Leave as LeaveAct}
use Rattle.c_types.specs.declared.program.DataOp.TheVariants.{Known as DataOpKnown}
use Rattle.c_types.specs.declared.program.Arg.TheVariants.{Data as GivenData}
use Rattle.c_types.specs.declared.program.VarRef.TheVariants.{Ptr as PtrRef, Data as DataRef}
use Rattle.c_types.specs.declared.program.Func.{Func}
use Rattle.c_cfg.specs.declared.graph.PtrArg.TheVariants.{Var as PtrVar, Null as PtrNull}
use Rattle.c_cfg.specs.declared.graph.DataArg.TheVariants.{Known as ArgKnown}
use Rattle.c_cfg.specs.declared.graph.Instr.{Instr}
use Rattle.c_cfg.specs.declared.graph.Instr.TheVariants.{CopyPtr, LoadPtr, Free, Kill, CopyData, TestPtr, Stop}
use Rattle.c_cfg.specs.declared.link.Link.TheVariants.{One}
use Rattle.c_cfg.specs.Lowering.{edge}
use Rattle.c_edges.specs.ActLinks.{links_of}
use Rattle.c_edges.specs.Comparing.{test_edges}

abbrev var : ℕ → Path
var x = record { var = x; fields = [] }

-- where a round ends, the variables of its blocks die, for `break` and for `continue`
breaks : links_of [] 10 20 (1 ∷ 3 ∷ []) (2 ∷ []) Break ≡ One (Kill (1 ∷ 3 ∷ []) (2 ∷ [])) ∷ []
breaks = refl

goes_on : links_of [] 10 20 (1 ∷ 3 ∷ []) (2 ∷ []) Continue ≡ One (Kill (1 ∷ 3 ∷ []) (2 ∷ [])) ∷ []
goes_on = refl

-- any other act is the same wherever it stands

-- x1 = NULL;
nulls : links_of [] 10 20 (1 ∷ []) [] (SetPtr (var 1) RhsNull) ≡ One (CopyPtr 1 PtrNull) ∷ []
nulls = refl

-- d2 = 7;
knows : links_of [] 10 20 (1 ∷ []) [] (SetData (DataVar 2) (DataRhsKnown 7)) ≡ One (CopyData 2 (ArgKnown 7)) ∷ []
knows = refl

-- free(x1);
frees : links_of [] 10 20 (1 ∷ []) [] (FreeAct (var 1)) ≡ One (Free 1) ∷ []
frees = refl

fails : links_of [] 10 20 (1 ∷ []) [] Error ≡ One (Stop true) ∷ []
fails = refl

halts : links_of [] 10 20 (1 ∷ []) [] Halt ≡ One (Stop false) ∷ []
halts = refl

-- return; of a program with one pointer variable and no datum: it and the temporaries die
returns : links_of [] 1 0 [] [] (Return None) ≡ One (Kill (0 ∷ 1 ∷ 2 ∷ []) (0 ∷ 1 ∷ [])) ∷ []
returns = refl

-- a `return` of a function that is not there ends the run
leaves : links_of [] 1 0 [] [] (LeaveAct 0 None) ≡ One (Stop false) ∷ []
leaves = refl

-- Functions: the first has the result d3, the local variables x2 and d4, and nothing else; the second is as the first
-- but has no result

abbrev gives : Func
gives = record { name = []; params = []; locals = PtrRef 2 ∷ DataRef 4 ∷ []; result = Some (DataRef 3); body = [] }

abbrev tells_none : Func
tells_none = record { name = []; params = []; locals = PtrRef 2 ∷ DataRef 4 ∷ []; result = None; body = [] }

-- return 7; of the first
leaves_with : links_of (gives ∷ tells_none ∷ []) 10 20 (1 ∷ []) [] (LeaveAct 0 (Some (GivenData (DataOpKnown 7))))
    ≡ One (CopyData 3 (ArgKnown 7)) ∷ One (Kill (2 ∷ []) (4 ∷ [])) ∷ []
leaves_with = refl

-- return; of the second
leaves_bare : links_of (gives ∷ tells_none ∷ []) 10 20 (1 ∷ []) [] (LeaveAct 1 None) ≡ One (Kill (2 ∷ []) (4 ∷ [])) ∷ []
leaves_bare = refl

-- of a third, which is not there
leaves_none : links_of (gives ∷ tells_none ∷ []) 10 20 (1 ∷ []) [] (LeaveAct 2 None) ≡ One (Stop false) ∷ []
leaves_none = refl

-- Comparisons, in line 5 from the location 3 on, to 8 where both are equal and to 9 where they are not

abbrev same : Bool → Instr
same equal = TestPtr (PtrVar 1) PtrNull equal

-- without loads and temporaries: two edges
bare : test_edges 5 [] same [] 3 8 9 ≡ edge 5 3 8 (same true) None ∷ edge 5 3 9 (same false) None ∷ []
bare = refl

-- the loads stand before it, and what was used dies on each branch, at a location of its own
loaded : test_edges 5 (One (LoadPtr 10 1 0) ∷ One (LoadPtr 10 10 2) ∷ []) same (One (Kill (10 ∷ []) []) ∷ []) 3 8 9
    ≡ edge 5 3 4 (LoadPtr 10 1 0) None ∷ edge 5 4 5 (LoadPtr 10 10 2) None ∷ edge 5 5 6 (same true) None
    ∷ edge 5 5 7 (same false) None ∷ edge 5 6 8 (Kill (10 ∷ []) []) None ∷ edge 5 7 9 (Kill (10 ∷ []) []) None ∷ []
loaded = refl
