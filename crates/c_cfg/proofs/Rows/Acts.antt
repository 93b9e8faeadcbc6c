-- Rows on the edges of acts. The program has 10 pointer and 20 data variables: the temporaries are p0 = 10 and p1 = 11,
-- d0 = 20 and d1 = 21.
use Rattle.std.proofs.Common.{◌≡◌, true, false, Some, None, List, [], ◌∷◌, refl}
use Rattle.c_types.specs.declared.program.DataPath.TheVariants.{Var as DataVar, Field as DataField}
use Rattle.c_types.specs.declared.program.PtrRhs.TheVariants.{Path as RhsPath, Null as RhsNull, New as RhsNew}
use Rattle.c_types.specs.declared.program.DataRhs.TheVariants.{Path as DataRhsPath, Known as DataRhsKnown}
use Rattle.c_types.specs.declared.program.DataRhs.TheVariants.{Choice as DataRhsChoice}
use Rattle.c_types.specs.declared.program.Act.{Act}
use Rattle.c_types.specs.declared.program.Act.TheVariants.{SetPtr, SetData, Free as FreeAct, Error, Halt, Return, Break}
use Rattle.c_types.specs.declared.program.Act.TheVariants.{Continue}
use Rattle.c_types.specs.declared.program.Atom.TheVariants.{Choice as ChoiceAtom}
use Rattle.c_types.specs.declared.program.VarRef.TheVariants.{Ptr as PtrRef, Data as DataRef}
use Rattle.c_types.specs.Control.{Items, Done, Close, If, Again, DoAgain, Ask, Enter, Leave, Exit}
use Rattle.c_cfg.specs.declared.graph.PtrArg.TheVariants.{Var as PtrVar, Null as PtrNull}
use Rattle.c_cfg.specs.declared.graph.DataArg.TheVariants.{Var as ArgVar, Known as ArgKnown}
use Rattle.c_cfg.specs.declared.graph.Const.TheVariants.{Null as ConstNull, Known as ConstKnown}
use Rattle.c_cfg.specs.declared.graph.Instr.TheVariants.{CopyPtr, LoadPtr, StorePtr, StoreConst, New, Free, Kill}
use Rattle.c_cfg.specs.declared.graph.Instr.TheVariants.{CopyData, LoadData, StoreData, Choose, Stop}
use Rattle.c_cfg.specs.Links.{Link, One, Two, act_row}
use Rattle.c_cfg.proofs.Rows.Forms.{var, arrow, arrows, three}

abbrev row : Act → List Link
row a = act_row 10 20 a Done

-- A variable

-- x1 = x2;
copies : row (SetPtr (var 1) (RhsPath (var 2))) ≡ One (CopyPtr 1 (PtrVar 2)) ∷ []
copies = refl

-- x1 = NULL;
nulls : row (SetPtr (var 1) RhsNull) ≡ One (CopyPtr 1 PtrNull) ∷ []
nulls = refl

-- x1 = malloc(..);  (of the struct 4)
makes : row (SetPtr (var 1) (RhsNew 4)) ≡ One (New 1 4) ∷ []
makes = refl

-- x1 = x2->5;
loads_one : row (SetPtr (var 1) (RhsPath (arrow 2 5))) ≡ One (LoadPtr 1 2 5) ∷ []
loads_one = refl

-- x1 = x2->5->6;
loads_two : row (SetPtr (var 1) (RhsPath (arrows 2 5 6))) ≡ One (LoadPtr 10 2 5) ∷ One (LoadPtr 1 10 6)
    ∷ One (Kill (10 ∷ []) []) ∷ []
loads_two = refl

-- x1 = x2->5->6->7;
loads_three : row (SetPtr (var 1) (RhsPath (three 2 5 6 7))) ≡ One (LoadPtr 10 2 5) ∷ One (LoadPtr 10 10 6)
    ∷ One (LoadPtr 1 10 7) ∷ One (Kill (10 ∷ []) []) ∷ []
loads_three = refl

-- A pointer field

-- x1->5 = x2;
stores : row (SetPtr (arrow 1 5) (RhsPath (var 2))) ≡ One (StorePtr 1 5 2) ∷ []
stores = refl

-- x1->5 = NULL;
stores_null : row (SetPtr (arrow 1 5) RhsNull) ≡ One (StoreConst 1 5 ConstNull) ∷ []
stores_null = refl

-- x1->5 = malloc(..);
stores_new : row (SetPtr (arrow 1 5) (RhsNew 4)) ≡ One (New 10 4) ∷ One (StorePtr 1 5 10) ∷ One (Kill (10 ∷ []) []) ∷ []
stores_new = refl

-- x1->5 = x2->6;
stores_loaded : row (SetPtr (arrow 1 5) (RhsPath (arrow 2 6))) ≡ One (LoadPtr 10 2 6) ∷ One (StorePtr 1 5 10)
    ∷ One (Kill (10 ∷ []) []) ∷ []
stores_loaded = refl

-- x1->5 = x2->6->7;
stores_loaded_twice : row (SetPtr (arrow 1 5) (RhsPath (arrows 2 6 7))) ≡ One (LoadPtr 10 2 6) ∷ One (LoadPtr 10 10 7)
    ∷ One (StorePtr 1 5 10) ∷ One (Kill (10 ∷ []) []) ∷ []
stores_loaded_twice = refl

-- x1->5->6 = x2;
stores_behind : row (SetPtr (arrows 1 5 6) (RhsPath (var 2))) ≡ One (LoadPtr 11 1 5) ∷ One (StorePtr 11 6 2)
    ∷ One (Kill (11 ∷ []) []) ∷ []
stores_behind = refl

-- x1->5->6->7 = NULL;
stores_null_behind : row (SetPtr (three 1 5 6 7) RhsNull) ≡ One (LoadPtr 11 1 5) ∷ One (LoadPtr 11 11 6)
    ∷ One (StoreConst 11 7 ConstNull) ∷ One (Kill (11 ∷ []) []) ∷ []
stores_null_behind = refl

-- x1->5->6 = malloc(..);
stores_new_behind : row (SetPtr (arrows 1 5 6) (RhsNew 4)) ≡ One (New 10 4) ∷ One (LoadPtr 11 1 5)
    ∷ One (StorePtr 11 6 10) ∷ One (Kill (10 ∷ 11 ∷ []) []) ∷ []
stores_new_behind = refl

-- x1->5->6->7 = x2->8->9->3;
stores_both : row (SetPtr (three 1 5 6 7) (RhsPath (three 2 8 9 3)))
    ≡ One (LoadPtr 10 2 8) ∷ One (LoadPtr 10 10 9) ∷ One (LoadPtr 10 10 3) ∷ One (LoadPtr 11 1 5)
    ∷ One (LoadPtr 11 11 6) ∷ One (StorePtr 11 7 10) ∷ One (Kill (10 ∷ 11 ∷ []) []) ∷ []
stores_both = refl

-- A data variable

-- d1 = 7;
puts : row (SetData (DataVar 1) (DataRhsKnown 7)) ≡ One (CopyData 1 (ArgKnown 7)) ∷ []
puts = refl

-- d1 = d2;
copies_data : row (SetData (DataVar 1) (DataRhsPath (DataVar 2))) ≡ One (CopyData 1 (ArgVar 2)) ∷ []
copies_data = refl

-- d1 = __VERIFIER_nondet_bool();
chooses : row (SetData (DataVar 1) DataRhsChoice) ≡ Two (Choose (Some 1)) (Choose (Some 1)) ∷ []
chooses = refl

-- d1 = x2->datum 6;
loads_datum : row (SetData (DataVar 1) (DataRhsPath (DataField (var 2) 6))) ≡ One (LoadData 1 2 6) ∷ []
loads_datum = refl

-- d1 = x2->5->datum 6;
loads_datum_behind : row (SetData (DataVar 1) (DataRhsPath (DataField (arrow 2 5) 6))) ≡ One (LoadPtr 10 2 5)
    ∷ One (LoadData 1 10 6) ∷ One (Kill (10 ∷ []) []) ∷ []
loads_datum_behind = refl

-- d1 = x2->5->7->datum 6;
loads_datum_far_behind : row (SetData (DataVar 1) (DataRhsPath (DataField (arrows 2 5 7) 6))) ≡ One (LoadPtr 10 2 5)
    ∷ One (LoadPtr 10 10 7) ∷ One (LoadData 1 10 6) ∷ One (Kill (10 ∷ []) []) ∷ []
loads_datum_far_behind = refl

-- A data field

-- x1->datum 6 = 7;
stores_number : row (SetData (DataField (var 1) 6) (DataRhsKnown 7)) ≡ One (StoreConst 1 6 (ConstKnown 7)) ∷ []
stores_number = refl

-- x1->5->datum 6 = 7;
stores_number_behind : row (SetData (DataField (arrow 1 5) 6) (DataRhsKnown 7)) ≡ One (LoadPtr 11 1 5)
    ∷ One (StoreConst 11 6 (ConstKnown 7)) ∷ One (Kill (11 ∷ []) []) ∷ []
stores_number_behind = refl

-- x1->datum 6 = d2;
stores_datum : row (SetData (DataField (var 1) 6) (DataRhsPath (DataVar 2))) ≡ One (StoreData 1 6 2) ∷ []
stores_datum = refl

-- x1->5->8->datum 6 = d2;
stores_datum_behind : row (SetData (DataField (arrows 1 5 8) 6) (DataRhsPath (DataVar 2))) ≡ One (LoadPtr 11 1 5)
    ∷ One (LoadPtr 11 11 8) ∷ One (StoreData 11 6 2) ∷ One (Kill (11 ∷ []) []) ∷ []
stores_datum_behind = refl

-- x1->datum 6 = x2->datum 7;
stores_loaded_datum : row (SetData (DataField (var 1) 6) (DataRhsPath (DataField (var 2) 7))) ≡ One (LoadData 20 2 7)
    ∷ One (StoreData 1 6 20) ∷ One (Kill [] (20 ∷ [])) ∷ []
stores_loaded_datum = refl

-- x1->5->datum 6 = x2->8->datum 7;
stores_loaded_datum_behind : row (SetData (DataField (arrow 1 5) 6) (DataRhsPath (DataField (arrow 2 8) 7)))
    ≡ One (LoadPtr 10 2 8) ∷ One (LoadData 20 10 7) ∷ One (LoadPtr 11 1 5) ∷ One (StoreData 11 6 20)
    ∷ One (Kill (10 ∷ 11 ∷ []) (20 ∷ [])) ∷ []
stores_loaded_datum_behind = refl

-- x1->datum 6 = __VERIFIER_nondet_bool();
stores_choice : row (SetData (DataField (var 1) 6) DataRhsChoice) ≡ Two (Choose (Some 20)) (Choose (Some 20))
    ∷ One (StoreData 1 6 20) ∷ One (Kill [] (20 ∷ [])) ∷ []
stores_choice = refl

-- x1->5->datum 6 = __VERIFIER_nondet_bool();
stores_choice_behind : row (SetData (DataField (arrow 1 5) 6) DataRhsChoice)
    ≡ Two (Choose (Some 20)) (Choose (Some 20)) ∷ One (LoadPtr 11 1 5) ∷ One (StoreData 11 6 20)
    ∷ One (Kill (11 ∷ []) (20 ∷ [])) ∷ []
stores_choice_behind = refl

-- Other acts

-- free(x1);
frees : row (FreeAct (var 1)) ≡ One (Free 1) ∷ []
frees = refl

-- free(x1->5);
frees_loaded : row (FreeAct (arrow 1 5)) ≡ One (LoadPtr 10 1 5) ∷ One (Free 10) ∷ One (Kill (10 ∷ []) []) ∷ []
frees_loaded = refl

-- free(x1->5->6);
frees_loaded_twice : row (FreeAct (arrows 1 5 6)) ≡ One (LoadPtr 10 1 5) ∷ One (LoadPtr 10 10 6) ∷ One (Free 10)
    ∷ One (Kill (10 ∷ []) []) ∷ []
frees_loaded_twice = refl

errs : row Error ≡ One (Stop true) ∷ []
errs = refl

halts : row Halt ≡ One (Stop false) ∷ []
halts = refl

-- return; of a program with one pointer and two data variables
returns : act_row 1 2 (Return None) Done ≡ One (Kill (0 ∷ 1 ∷ 2 ∷ []) (0 ∷ 1 ∷ 2 ∷ 3 ∷ [])) ∷ []
returns = refl

-- return d1;  return x0->datum 6;  return x0->5->datum 6;
returns_variable : act_row 1 2 (Return (Some (DataVar 1))) Done ≡ One (Kill (0 ∷ 1 ∷ 2 ∷ []) (0 ∷ 1 ∷ 2 ∷ 3 ∷ [])) ∷ []
returns_variable = refl

returns_field : act_row 1 2 (Return (Some (DataField (var 0) 6))) Done ≡ One (LoadData 2 0 6)
    ∷ One (Kill (0 ∷ 1 ∷ 2 ∷ []) (0 ∷ 1 ∷ 2 ∷ 3 ∷ [])) ∷ []
returns_field = refl

returns_field_behind : act_row 1 2 (Return (Some (DataField (arrow 0 5) 6))) Done ≡ One (LoadPtr 1 0 5)
    ∷ One (LoadData 2 1 6) ∷ One (Kill (0 ∷ 1 ∷ 2 ∷ []) (0 ∷ 1 ∷ 2 ∷ 3 ∷ [])) ∷ []
returns_field_behind = refl

-- break and continue: the variables of the Closes up to the end of the round, rising, also those of blocks that were
-- not entered
abbrev left : Items
left = Close (7 ∷ []) (5 ∷ []) 1
    (If (Ask ChoiceAtom 2) (Close (1 ∷ []) [] 3 Done) Done
    (Close (2 ∷ 9 ∷ []) (4 ∷ []) 4 (Again (Ask ChoiceAtom 5) Done Done (Close (3 ∷ []) (3 ∷ []) 6 Done))))

breaks : act_row 10 20 Break left ≡ One (Kill (2 ∷ 7 ∷ 9 ∷ []) (4 ∷ 5 ∷ [])) ∷ []
breaks = refl

continues : act_row 10 20 Continue left ≡ One (Kill (2 ∷ 7 ∷ 9 ∷ []) (4 ∷ 5 ∷ [])) ∷ []
continues = refl

-- and none of a call that is still to come, nor of one that it makes
breaks_before_a_call : act_row 10 20 Break
    (Enter [] [] 1 (Close (0 ∷ []) (0 ∷ []) 1 (Enter [] [] 1 (Close (8 ∷ []) (8 ∷ []) 1 (Exit None [] None 1
    (Leave None (PtrRef 6 ∷ DataRef 6 ∷ []) None 1 (Exit None [] None 1 left)))))))
    ≡ One (Kill (2 ∷ 7 ∷ 9 ∷ []) (4 ∷ 5 ∷ [])) ∷ []
breaks_before_a_call = refl

breaks_out_of_do : act_row 10 20 Break
    (Close (7 ∷ []) [] 1 (DoAgain (Ask ChoiceAtom 5) Done (Close (3 ∷ []) [] 6 Done))) ≡ One (Kill (7 ∷ []) []) ∷ []
breaks_out_of_do = refl
