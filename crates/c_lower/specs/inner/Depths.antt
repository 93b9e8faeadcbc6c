-- How much of a program is still to be lowered: a number that falls with each statement and each call that is gone
-- into.
use Rattle.std.specs.Prelude.{ℕ, zero, suc, ◌+◌, List, [], ◌∷◌, map}
use Rattle.c_types.specs.declared.program.Func.{Func}
use Rattle.c_types.specs.declared.program.Stmt.{Stmt, Stmt-F, fold-Stmt}
use Rattle.c_types.specs.declared.program.Stmt.TheOpen.{Do as Do-F, Branch as Branch-F, While as While-F}
use Rattle.c_types.specs.declared.program.Stmt.TheOpen.{DoWhile as DoWhile-F, For as For-F, Group as Group-F}
use Rattle.c_types.specs.declared.program.Stmt.TheOpen.{Call as Call-F}

-- one more than all of these
abbrev pub more_than : List ℕ → ℕ
more_than [] = 1
more_than (n ∷ ns) = n + more_than ns

abbrev pub parts_step : Stmt-F ℕ → ℕ
parts_step (Do-F a line) = 2
parts_step (Branch-F c x y) = more_than x + (more_than y + 1)
parts_step (While-F c b) = more_than b + 2
parts_step (DoWhile-F c b) = more_than b + 2
parts_step (For-F c n b) = more_than n + (more_than b + 1)
parts_step (Group-F b ps ds m) = more_than b + 1
parts_step (Call-F f args to' line) = 2

-- how many parts a statement has, and those of a list
unfoldable pub parts_of : Stmt → ℕ
parts_of = fold-Stmt ℕ parts_step

unfoldable pub parts_in : List Stmt → ℕ
parts_in body = more_than (map parts_of body)

-- the parts of all functions
abbrev pub parts_within : List Func → ℕ
parts_within [] = 0
parts_within (g ∷ gs) = parts_in g.body + parts_within gs

-- those of so many calls, one in the other
unfoldable pub parts_ahead : List Func → ℕ → ℕ
parts_ahead funcs zero = 0
parts_ahead funcs (suc n) = parts_within funcs + parts_ahead funcs n
