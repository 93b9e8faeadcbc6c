-- Rows on the edges of comparisons: the loads before the test, the test, and what ends each branch. The temporaries are
-- p0 = 10 and p1 = 11, d0 = 20 and d1 = 21.
use Rattle.std.proofs.Common.{◌≡◌, Bool, true, false, List, [], ◌∷◌, refl}
use Rattle.c_types.specs.declared.program.DataPath.TheVariants.{Var as DataVar, Field as DataField}
use Rattle.c_types.specs.declared.program.PtrOp.{PtrOp}
use Rattle.c_types.specs.declared.program.PtrOp.TheVariants.{Path as OpPath, Null as OpNull}
use Rattle.c_types.specs.declared.program.DataOp.{DataOp}
use Rattle.c_types.specs.declared.program.DataOp.TheVariants.{Path as DataOpPath, Known as DataOpKnown}
use Rattle.c_cfg.specs.declared.graph.PtrArg.TheVariants.{Var as PtrVar, Null as PtrNull}
use Rattle.c_cfg.specs.declared.graph.DataArg.TheVariants.{Var as ArgVar, Known as ArgKnown}
use Rattle.c_cfg.specs.declared.graph.Instr.{Instr}
use Rattle.c_cfg.specs.declared.graph.Instr.TheVariants.{LoadPtr, LoadData, Kill, TestPtr, TestData}
use Rattle.c_cfg.specs.Links.{Link, One, ptr_loads, ptr_test, ptr_ends, cmp_loads, data_test, data_ends}
use Rattle.c_cfg.proofs.Rows.Forms.{var, arrow, arrows}

-- the three parts
data Parts : Type 0 where
  parts : List Link → Instr → List Link → Parts

abbrev ptrs : PtrOp → PtrOp → Bool → Parts
ptrs l r equal = parts (ptr_loads 10 20 l r) (ptr_test 10 20 l r equal) (ptr_ends 10 20 l r)

abbrev data' : DataOp → DataOp → Bool → Parts
data' l r equal = parts (cmp_loads 10 20 l r) (data_test 10 20 l r equal) (data_ends 10 20 l r)

-- x1 == x2
variables : ptrs (OpPath (var 1)) (OpPath (var 2)) true ≡ parts [] (TestPtr (PtrVar 1) (PtrVar 2) true) []
variables = refl

-- NULL == x2, and x1 for itself, which is compared with NULL: the edge for not equal
null_on_the_left : ptrs OpNull (OpPath (var 2)) true ≡ parts [] (TestPtr PtrNull (PtrVar 2) true) []
null_on_the_left = refl

null_on_the_right : ptrs (OpPath (var 1)) OpNull false ≡ parts [] (TestPtr (PtrVar 1) PtrNull false) []
null_on_the_right = refl

two_nulls : ptrs OpNull OpNull true ≡ parts [] (TestPtr PtrNull PtrNull true) []
two_nulls = refl

-- x1->5 == NULL
left_arrow : ptrs (OpPath (arrow 1 5)) OpNull true
    ≡ parts (One (LoadPtr 10 1 5) ∷ []) (TestPtr (PtrVar 10) PtrNull true) (One (Kill (10 ∷ []) []) ∷ [])
left_arrow = refl

-- x1 == x2->5->6
right_arrows : ptrs (OpPath (var 1)) (OpPath (arrows 2 5 6)) true
    ≡ parts (One (LoadPtr 11 2 5) ∷ One (LoadPtr 11 11 6) ∷ []) (TestPtr (PtrVar 1) (PtrVar 11) true)
    (One (Kill (11 ∷ []) []) ∷ [])
right_arrows = refl

-- x1->5->6 == x2->7
arrows_on_both_sides : ptrs (OpPath (arrows 1 5 6)) (OpPath (arrow 2 7)) true
    ≡ parts (One (LoadPtr 10 1 5) ∷ One (LoadPtr 10 10 6) ∷ One (LoadPtr 11 2 7) ∷ [])
    (TestPtr (PtrVar 10) (PtrVar 11) true) (One (Kill (10 ∷ 11 ∷ []) []) ∷ [])
arrows_on_both_sides = refl

-- d1 == 3
data_variable : data' (DataOpPath (DataVar 1)) (DataOpKnown 3) true
    ≡ parts [] (TestData (ArgVar 1) (ArgKnown 3) true) []
data_variable = refl

-- 3 == d1
number_on_the_left : data' (DataOpKnown 3) (DataOpPath (DataVar 1)) false
    ≡ parts [] (TestData (ArgKnown 3) (ArgVar 1) false) []
number_on_the_left = refl

-- x1->datum 6 == d2
left_field : data' (DataOpPath (DataField (var 1) 6)) (DataOpPath (DataVar 2)) true
    ≡ parts (One (LoadData 20 1 6) ∷ []) (TestData (ArgVar 20) (ArgVar 2) true) (One (Kill [] (20 ∷ [])) ∷ [])
left_field = refl

-- 0 == x1->5->datum 6
right_field_behind : data' (DataOpKnown 0) (DataOpPath (DataField (arrow 1 5) 6)) true
    ≡ parts (One (LoadPtr 11 1 5) ∷ One (LoadData 21 11 6) ∷ []) (TestData (ArgKnown 0) (ArgVar 21) true)
    (One (Kill (11 ∷ []) (21 ∷ [])) ∷ [])
right_field_behind = refl

-- x1->5->datum 6 == x2->7->8->datum 9
fields_on_both_sides : data' (DataOpPath (DataField (arrow 1 5) 6)) (DataOpPath (DataField (arrows 2 7 8) 9)) true
    ≡ parts (One (LoadPtr 10 1 5) ∷ One (LoadData 20 10 6) ∷ One (LoadPtr 11 2 7) ∷ One (LoadPtr 11 11 8)
    ∷ One (LoadData 21 11 9) ∷ []) (TestData (ArgVar 20) (ArgVar 21) true)
    (One (Kill (10 ∷ 11 ∷ []) (20 ∷ 21 ∷ [])) ∷ [])
fields_on_both_sides = refl
