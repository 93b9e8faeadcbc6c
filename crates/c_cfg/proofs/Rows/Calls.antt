-- Rows on the edges of calls, on their places and on their marks. The program has 10 pointer and 20 data variables: the
-- temporaries are p0 = 10 and p1 = 11, d0 = 20 and d1 = 21.
use Rattle.std.proofs.Common.{◌≡◌, ℕ, ◌+◌, true, false, Some, None, List, [], ◌∷◌, refl}
use Rattle.c_types.specs.declared.program.DataPath.TheVariants.{Var as DataVar, Field as DataField}
use Rattle.c_types.specs.declared.program.PtrOp.TheVariants.{Path as OpPath, Null as OpNull}
use Rattle.c_types.specs.declared.program.DataOp.TheVariants.{Path as DataOpPath, Known as DataOpKnown}
use Rattle.c_types.specs.declared.program.PtrRhs.TheVariants.{Null as RhsNull}
use Rattle.c_types.specs.declared.program.Act.TheVariants.{SetPtr, Leave as LeaveAct}
use Rattle.c_types.specs.declared.program.Atom.TheVariants.{Choice}
use Rattle.c_types.specs.declared.program.VarRef.{VarRef}
use Rattle.c_types.specs.declared.program.VarRef.TheVariants.{Ptr as PtrRef, Data as DataRef}
use Rattle.c_types.specs.declared.program.Arg.{Arg}
use Rattle.c_types.specs.declared.program.Arg.TheVariants.{Ptr as GivenPtr, Data as GivenData}
use Rattle.c_types.specs.declared.program.Dest.TheVariants.{Ptr as ToPtr, Data as ToData}
use Rattle.c_types.specs.Control.{Items, Done, Do, If, DoLoop, DoAgain, Ask, Enter, Leave, Exit}
use Rattle.c_cfg.specs.declared.graph.PtrArg.TheVariants.{Var as PtrVar, Null as PtrNull}
use Rattle.c_cfg.specs.declared.graph.DataArg.TheVariants.{Var as ArgVar, Known as ArgKnown}
use Rattle.c_cfg.specs.declared.graph.Instr.TheVariants.{CopyPtr, LoadPtr, StorePtr, Kill, CopyData, LoadData}
use Rattle.c_cfg.specs.declared.graph.Instr.TheVariants.{StoreData, Stop}
use Rattle.c_cfg.specs.Links.{One, act_row, enter_row, leave_row, exit_row}
use Rattle.c_cfg.specs.Places.{places, heads, remark}
use Rattle.c_cfg.specs.LoopFree.{items_free}
use Rattle.c_cfg.proofs.Rows.Forms.{var, arrow, arrows, three}

-- Operands: x2, x2->5, x2->5->6; and the data d4, x2->5, x2->6->5, where 5 is a data field

abbrev variable : Arg
variable = GivenPtr (OpPath (var 2))

abbrev one_arrow : Arg
one_arrow = GivenPtr (OpPath (arrow 2 5))

abbrev two_arrows : Arg
two_arrows = GivenPtr (OpPath (arrows 2 5 6))

abbrev datum : Arg
datum = GivenData (DataOpPath (DataVar 4))

abbrev field : Arg
field = GivenData (DataOpPath (DataField (var 2) 5))

abbrev far_field : Arg
far_field = GivenData (DataOpPath (DataField (arrow 2 6) 5))

-- A call begins

-- f(): of nothing an edge that does nothing
enters : enter_row 10 20 [] [] ≡ One (Kill [] []) ∷ []
enters = refl

-- f(x2), the parameter being x1
gives : enter_row 10 20 (PtrRef 1 ∷ []) (variable ∷ []) ≡ One (CopyPtr 1 (PtrVar 2)) ∷ []
gives = refl

-- f(NULL)
gives_null : enter_row 10 20 (PtrRef 1 ∷ []) (GivenPtr OpNull ∷ []) ≡ One (CopyPtr 1 PtrNull) ∷ []
gives_null = refl

-- f(x2->5): the one load goes to the parameter
gives_field : enter_row 10 20 (PtrRef 1 ∷ []) (one_arrow ∷ []) ≡ One (LoadPtr 1 2 5) ∷ []
gives_field = refl

-- f(x2->5->6): the last load does, and p0 dies
gives_far : enter_row 10 20 (PtrRef 1 ∷ []) (two_arrows ∷ []) ≡ One (LoadPtr 10 2 5) ∷ One (LoadPtr 1 10 6)
    ∷ One (Kill (10 ∷ []) []) ∷ []
gives_far = refl

gives_farther : enter_row 10 20 (PtrRef 1 ∷ []) (GivenPtr (OpPath (three 2 5 6 7)) ∷ [])
    ≡ One (LoadPtr 10 2 5) ∷ One (LoadPtr 10 10 6) ∷ One (LoadPtr 1 10 7) ∷ One (Kill (10 ∷ []) []) ∷ []
gives_farther = refl

-- f(d4), f(3), f(x2->5), f(x2->6->5), the parameter being d1
gives_datum : enter_row 10 20 (DataRef 1 ∷ []) (datum ∷ []) ≡ One (CopyData 1 (ArgVar 4)) ∷ []
gives_datum = refl

gives_known : enter_row 10 20 (DataRef 1 ∷ []) (GivenData (DataOpKnown 3) ∷ []) ≡ One (CopyData 1 (ArgKnown 3)) ∷ []
gives_known = refl

gives_data_field : enter_row 10 20 (DataRef 1 ∷ []) (field ∷ []) ≡ One (LoadData 1 2 5) ∷ []
gives_data_field = refl

gives_far_datum : enter_row 10 20 (DataRef 1 ∷ []) (far_field ∷ []) ≡ One (LoadPtr 10 2 6) ∷ One (LoadData 1 10 5)
    ∷ One (Kill (10 ∷ []) []) ∷ []
gives_far_datum = refl

-- f(x2->5->6, 3, x2->6->5, x2), the parameters being x1, d1, d3, x4: from the left, and p0 dies once
gives_more :
    enter_row 10 20 (PtrRef 1 ∷ DataRef 1 ∷ DataRef 3 ∷ PtrRef 4 ∷ [])
    (two_arrows ∷ GivenData (DataOpKnown 3) ∷ far_field ∷ variable ∷ [])
    ≡ One (LoadPtr 10 2 5) ∷ One (LoadPtr 1 10 6) ∷ One (CopyData 1 (ArgKnown 3)) ∷ One (LoadPtr 10 2 6)
    ∷ One (LoadData 3 10 5) ∷ One (CopyPtr 4 (PtrVar 2)) ∷ One (Kill (10 ∷ []) []) ∷ []
gives_more = refl

-- `return` of a function

-- return; the local variables die, each kind rising
leaves : leave_row 10 20 None (PtrRef 7 ∷ DataRef 3 ∷ PtrRef 2 ∷ []) None ≡ One (Kill (2 ∷ 7 ∷ []) (3 ∷ [])) ∷ []
leaves = refl

-- also of a function that has none
leaves_bare : leave_row 10 20 None [] None ≡ One (Kill [] []) ∷ []
leaves_bare = refl

-- return x2; the result is x0
returns : leave_row 10 20 (Some (PtrRef 0)) (PtrRef 2 ∷ []) (Some variable)
    ≡ One (CopyPtr 0 (PtrVar 2)) ∷ One (Kill (2 ∷ []) []) ∷ []
returns = refl

-- return x2->5->6;
returns_far : leave_row 10 20 (Some (PtrRef 0)) (PtrRef 2 ∷ []) (Some two_arrows)
    ≡ One (LoadPtr 10 2 5) ∷ One (LoadPtr 0 10 6) ∷ One (Kill (2 ∷ 10 ∷ []) []) ∷ []
returns_far = refl

-- return 3; the result is d0
returns_datum : leave_row 10 20 (Some (DataRef 0)) [] (Some (GivenData (DataOpKnown 3)))
    ≡ One (CopyData 0 (ArgKnown 3)) ∷ One (Kill [] []) ∷ []
returns_datum = refl

-- A call ends: the parameters are x3 and d2

abbrev parameters : List VarRef
parameters = PtrRef 3 ∷ DataRef 2 ∷ []

ends_bare : exit_row 10 20 None parameters None ≡ One (Kill (3 ∷ []) (2 ∷ [])) ∷ []
ends_bare = refl

ends_empty : exit_row 10 20 None [] None ≡ One (Kill [] []) ∷ []
ends_empty = refl

-- the result x4 is not used: it dies too
ends_unused : exit_row 10 20 (Some (PtrRef 4)) parameters None ≡ One (Kill (3 ∷ 4 ∷ []) (2 ∷ [])) ∷ []
ends_unused = refl

-- x7 = f();
hands : exit_row 10 20 (Some (PtrRef 4)) parameters (Some (ToPtr (var 7)))
    ≡ One (CopyPtr 7 (PtrVar 4)) ∷ One (Kill (3 ∷ 4 ∷ []) (2 ∷ [])) ∷ []
hands = refl

-- x7->5 = f();
hands_field : exit_row 10 20 (Some (PtrRef 4)) [] (Some (ToPtr (arrow 7 5)))
    ≡ One (StorePtr 7 5 4) ∷ One (Kill (4 ∷ []) []) ∷ []
hands_field = refl

-- x7->5->6 = f();
hands_far : exit_row 10 20 (Some (PtrRef 4)) [] (Some (ToPtr (arrows 7 5 6)))
    ≡ One (LoadPtr 11 7 5) ∷ One (StorePtr 11 6 4) ∷ One (Kill (4 ∷ 11 ∷ []) []) ∷ []
hands_far = refl

-- d7 = f();
hands_datum : exit_row 10 20 (Some (DataRef 4)) parameters (Some (ToData (DataVar 7)))
    ≡ One (CopyData 7 (ArgVar 4)) ∷ One (Kill (3 ∷ []) (2 ∷ 4 ∷ [])) ∷ []
hands_datum = refl

-- x7->5 = f(); and x7->6->5 = f();
hands_data_field : exit_row 10 20 (Some (DataRef 4)) [] (Some (ToData (DataField (var 7) 5)))
    ≡ One (StoreData 7 5 4) ∷ One (Kill [] (4 ∷ [])) ∷ []
hands_data_field = refl

hands_far_datum : exit_row 10 20 (Some (DataRef 4)) [] (Some (ToData (DataField (arrow 7 6) 5)))
    ≡ One (LoadPtr 11 7 6) ∷ One (StoreData 11 5 4) ∷ One (Kill (11 ∷ []) (4 ∷ [])) ∷ []
hands_far_datum = refl

-- a `return` of a function that is not there ends the run
leaves_nothing : act_row 10 20 (LeaveAct 0 None) Done ≡ One (Stop false) ∷ []
leaves_nothing = refl

-- Places, heads and marks

abbrev act : ℕ → Items → Items
act m is = Do (SetPtr (var 0) RhsNull) m is

abbrev after : Items
after = act 9 Done

-- f(); 5 where f is { 2; return; }
abbrev called : Items
called = Enter [] [] 1 (act 2 (Leave None [] None 3 (Exit None [] None 4 (act 5 Done))))

of_a_call : places called after
    ≡ Enter [] [] 1 (act 2 (Leave None [] None 3 (Exit None [] None 4 (act 5 after))))
    ∷ act 2 (Leave None [] None 3 (Exit None [] None 4 (act 5 after)))
    ∷ Leave None [] None 3 (Exit None [] None 4 (act 5 after)) ∷ Exit None [] None 4 (act 5 after) ∷ act 5 after ∷ []
of_a_call = refl

of_its_marks : remark (λ m. m + 10) called
    ≡ Enter [] [] 11 (act 12 (Leave None [] None 13 (Exit None [] None 14 (act 15 Done))))
of_its_marks = refl

-- do { return; } while (2); in the body of a function
abbrev looping : Items
looping = Enter [] [] 1 (DoLoop (Ask Choice 2) (Leave None [] None 3 Done) (Exit None [] None 4 Done))

of_its_loop : heads looping after
    ≡ If (Ask Choice 2) (Leave None [] None 3 (DoAgain (Ask Choice 2) (Leave None [] None 3 Done) Done)) Done
    (Exit None [] None 4 after) ∷ []
of_its_loop = refl

no_heads : heads called after ≡ []
no_heads = refl

is_free : items_free called ≡ true
is_free = refl

is_not_free : items_free looping ≡ false
is_not_free = refl

-- a loop after a call, in a branch, in a function
is_not_free_after : items_free (Leave None [] None 1 (Exit None [] None 2 (If (Ask Choice 3) Done looping Done)))
    ≡ false
is_not_free_after = refl
