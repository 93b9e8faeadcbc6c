-- Which of the blocks that are left hold a variable that refers to a cell.
use Rattle.std.specs.Prelude.{List, [], ◌∷◌, map, Bool, false, ◌||◌}
use Rattle.fore_base.specs.declared.store.Value.{Value}
use Rattle.c_types.specs.declared.program.Stmt.{Stmt, Stmt-F, fold-Stmt}
use Rattle.c_types.specs.declared.program.Stmt.TheOpen.{Do as Do-F, Branch as Branch-F, While as While-F}
use Rattle.c_types.specs.declared.program.Stmt.TheOpen.{DoWhile as DoWhile-F, For as For-F, Group as Group-F}
use Rattle.c_types.specs.declared.program.Stmt.TheOpen.{Call as Call-F}
use Rattle.c_types.specs.Losses.{hold_cell}

-- one of them is true
abbrev pub some_true : List Bool → Bool
some_true [] = false
some_true (b ∷ bs) = b || some_true bs

abbrev pub held_step : List Value → Stmt-F Bool → Bool
held_step vs (Do-F a line) = false
held_step vs (Branch-F c x y) = false
held_step vs (While-F c b) = false
held_step vs (DoWhile-F c b) = false
held_step vs (For-F c n b) = false
held_step vs (Group-F b ps ds m) = some_true b || hold_cell vs ps
held_step vs (Call-F f args to' line) = false

-- a variable of the statement, if it is a block, or of a block among what it holds, refers to a cell; a call that is
-- still to come has none
abbrev pub held_in : List Value → Stmt → Bool
held_in vs = fold-Stmt Bool (held_step vs)

abbrev pub held_among : List Value → List Stmt → Bool
held_among vs ss = some_true (map (held_in vs) ss)
