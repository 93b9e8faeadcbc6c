-- Sets of signs.
use Rattle.std.specs.Prelude.{Bool, false, List, [], ◌∷◌}
use Rattle.c_grammar.specs.declared.signs.Sign.{Sign}
use Rattle.c_grammar.specs.Signs.{or_on, same_sign}
use Rattle.c_grammar.specs.declared.signs.Sign.TheVariants.{Id, Number, Struct, Enum, Int, If, Else, While, Do, For}
use Rattle.c_grammar.specs.declared.signs.Sign.TheVariants.{Return, Break, Continue, Malloc, Free, Assert, Null, True}
use Rattle.c_grammar.specs.declared.signs.Sign.TheVariants.{False, Arrow, Equal, Unequal, And, Or, OpenBrace, Open}
use Rattle.c_grammar.specs.declared.signs.Sign.TheVariants.{Semicolon, Comma, Not}

abbrev pub Signs : Type 0
Signs = Sign → Bool

-- the signs of a list
abbrev pub among : List Sign → Signs
among [] s = false
among (t ∷ ts) s = or_on (same_sign t s) (among ts s)

abbrev pub no_sign : Signs
no_sign s = false

-- what can continue a rule where it could end
abbrev pub arrows : Signs
arrows = among (Arrow ∷ [])

abbrev pub operand_goes_on : Signs
operand_goes_on = among (Arrow ∷ (Open ∷ []))

abbrev pub test_goes_on : Signs
test_goes_on = among (Arrow ∷ (Open ∷ (Equal ∷ (Unequal ∷ []))))

abbrev pub and_goes_on : Signs
and_goes_on = among (Arrow ∷ (Open ∷ (Equal ∷ (Unequal ∷ (And ∷ [])))))

abbrev pub cond_goes_on : Signs
cond_goes_on = among (Arrow ∷ (Open ∷ (Equal ∷ (Unequal ∷ (And ∷ (Or ∷ []))))))

abbrev pub operands_go_on : Signs
operands_go_on = among (Arrow ∷ (Open ∷ (Comma ∷ [])))

-- what can continue a list of operands that may be empty
abbrev pub arguments_go_on : Signs
arguments_go_on = among (Arrow ∷ (Open ∷ (Comma ∷ (Id ∷ (Number ∷ (Null ∷ (True ∷ (False ∷ []))))))))

abbrev pub commas : Signs
commas = among (Comma ∷ [])

abbrev pub opens : Signs
opens = among (Open ∷ [])

abbrev pub tails : Signs
tails = among (Open ∷ (Arrow ∷ []))

-- what may not come after a statement that could take it
abbrev pub elses : Signs
elses = among (Else ∷ [])

-- what a rule can begin with
abbrev pub names : Signs
names = among (Id ∷ [])

abbrev pub begins_operand : Signs
begins_operand = among (Id ∷ (Number ∷ (Null ∷ (True ∷ (False ∷ [])))))

abbrev pub begins_rhs : Signs
begins_rhs = among (Id ∷ (Number ∷ (Null ∷ (True ∷ (False ∷ (Open ∷ (Malloc ∷ [])))))))

abbrev pub begins_simple : Signs
begins_simple = among (Id ∷ (Free ∷ []))

abbrev pub begins_cond : Signs
begins_cond = among (Id ∷ (Number ∷ (Null ∷ (True ∷ (False ∷ (Not ∷ (Open ∷ [])))))))

-- what is a level of a condition
abbrev pub begins_nested : Signs
begins_nested = among (Not ∷ (Open ∷ []))

abbrev pub equals : Signs
equals = among (Equal ∷ (Unequal ∷ []))

abbrev pub begins_declare : Signs
begins_declare = among (Struct ∷ (Enum ∷ (Int ∷ [])))

abbrev pub begins_stmt : Signs
begins_stmt =
    among
    (OpenBrace
    ∷ (If ∷ (While ∷ (Do ∷ (For ∷ (Semicolon ∷ (Id ∷ (Free ∷ (Return ∷ (Break ∷ (Continue ∷ (Assert ∷ []))))))))))))
