-- Rows on places and loop heads. An act is told by the variable that it sets, an atom by its mark.
use Rattle.std.proofs.Common.{◌≡◌, ℕ, ◌+◌, [], ◌∷◌, refl}
use Rattle.c_types.specs.declared.program.PtrRhs.TheVariants.{Null as RhsNull}
use Rattle.c_types.specs.declared.program.Act.TheVariants.{SetPtr}
use Rattle.c_types.specs.declared.program.Atom.TheVariants.{Choice}
use Rattle.c_types.specs.Control.{Items, Done, Do, Close, If, Loop, Again, DoLoop, DoAgain, Test, Ask, Not, Both}
use Rattle.c_types.specs.Control.{Either}
use Rattle.c_cfg.specs.Places.{places, heads, remark}
use Rattle.c_cfg.proofs.Rows.Forms.{var}

-- x = NULL; with this mark
abbrev act : ℕ → Items → Items
act m is = Do (SetPtr (var 0) RhsNull) m is

abbrev asks : ℕ → Test
asks m = Ask Choice m

-- what comes after
abbrev after : Items
after = act 9 Done

-- two acts: each with what is left
of_acts : places (act 1 (act 2 Done)) after ≡ act 1 (act 2 after) ∷ act 2 after ∷ []
of_acts = refl

of_nothing : places Done after ≡ []
of_nothing = refl

of_a_close : places (Close (3 ∷ []) [] 1 (act 2 Done)) after ≡ Close (3 ∷ []) [] 1 (act 2 after) ∷ act 2 after ∷ []
of_a_close = refl

-- if (1) 2 else 3; 4: the sides stand before what comes after the branch, so they join there
of_a_branch : places (If (asks 1) (act 2 Done) (act 3 Done) (act 4 Done)) after
    ≡ If (asks 1) (act 2 Done) (act 3 Done) (act 4 after) ∷ act 2 (act 4 after) ∷ act 3 (act 4 after) ∷ act 4 after ∷ []
of_a_branch = refl

-- if (!(1 && 2) || 3) 4 else 5: each atom goes to the sides, or on to a later atom
of_a_condition : places (If (Either (Not (Both (asks 1) (asks 2))) (asks 3)) (act 4 Done) (act 5 Done) Done) after
    ≡ If (asks 1) (If (asks 2) (If (asks 3) (act 4 Done) (act 5 Done) Done) (act 4 Done) Done) (act 4 Done) after
    ∷ If (asks 2) (If (asks 3) (act 4 Done) (act 5 Done) Done) (act 4 Done) after
    ∷ If (asks 3) (act 4 Done) (act 5 Done) after ∷ act 4 after ∷ act 5 after ∷ []
of_a_condition = refl

-- for (; 1; 3) 2: the body goes on to what is next, and that to the test
of_a_loop : places (Loop (asks 1) (act 3 Done) (act 2 Done) Done) after
    ≡ If (asks 1) (act 2 (Again (asks 1) (act 3 Done) (act 2 Done) Done)) Done after
    ∷ act 2 (Again (asks 1) (act 3 Done) (act 2 Done) after)
    ∷ act 3 (Loop (asks 1) (act 3 Done) (act 2 Done) after) ∷ []
of_a_loop = refl

-- do 2 while (1)
of_a_do : places (DoLoop (asks 1) (act 2 Done) Done) after
    ≡ act 2 (DoAgain (asks 1) (act 2 Done) after) ∷ If (asks 1) (act 2 (DoAgain (asks 1) (act 2 Done) Done)) Done after
    ∷ []
of_a_do = refl

-- Loop heads

of_no_loop : heads (act 1 (Close [] [] 2 (If (asks 3) (act 4 Done) Done Done))) after ≡ []
of_no_loop = refl

-- for (; 1 && 4; 3) 2: where the first atom is tested
of_for : heads (Loop (Both (asks 1) (asks 4)) (act 3 Done) (act 2 Done) Done) after
    ≡ If (asks 1) (If (asks 4) (act 2 (Again (Both (asks 1) (asks 4)) (act 3 Done) (act 2 Done) Done)) Done Done) Done
    after ∷ []
of_for = refl

of_do : heads (DoLoop (asks 1) (act 2 Done) Done) after
    ≡ If (asks 1) (act 2 (DoAgain (asks 1) (act 2 Done) Done)) Done after ∷ []
of_do = refl

-- if (5) while (1) do {} while (2); else while (3) {}  while (4) {}
of_nested :
    heads
    (If (asks 5) (Loop (asks 1) Done (DoLoop (asks 2) Done Done) Done) (Loop (asks 3) Done Done Done)
    (Loop (asks 4) Done Done Done)) Done
    ≡ If (asks 1) (DoLoop (asks 2) Done (Again (asks 1) Done (DoLoop (asks 2) Done Done) Done)) Done
    (Loop (asks 4) Done Done Done)
    ∷ If (asks 2) (DoAgain (asks 2) Done Done) Done
    (Again (asks 1) Done (DoLoop (asks 2) Done Done) (Loop (asks 4) Done Done Done))
    ∷ If (asks 3) (Again (asks 3) Done Done Done) Done (Loop (asks 4) Done Done Done)
    ∷ If (asks 4) (Again (asks 4) Done Done Done) Done Done ∷ []
of_nested = refl

-- for (; 1; do {} while (2)) {}: also a loop in what is next
of_next : heads (Loop (asks 1) (DoLoop (asks 2) Done Done) Done Done) Done
    ≡ If (asks 1) (Again (asks 1) (DoLoop (asks 2) Done Done) Done Done) Done Done
    ∷ If (asks 2) (DoAgain (asks 2) Done Done) Done (Loop (asks 1) (DoLoop (asks 2) Done Done) Done Done) ∷ []
of_next = refl

-- Marks

of_marks : remark (λ m. m + 10)
    (act 1
    (Close [] [] 2
    (If (Not (Both (asks 3) (Either (asks 4) (asks 5)))) (act 6 Done) (act 7 Done)
    (Loop (asks 8) (act 1 Done) (act 2 Done) (DoLoop (asks 3) (act 4 Done) Done)))))
    ≡ act 11
    (Close [] [] 12
    (If (Not (Both (asks 13) (Either (asks 14) (asks 15)))) (act 16 Done) (act 17 Done)
    (Loop (asks 18) (act 11 Done) (act 12 Done) (DoLoop (asks 13) (act 14 Done) Done))))
of_marks = refl
