-- The list of pending items, first item first, and its opening.
use Rattle.std.specs.Prelude.{ℕ, zero, suc, List, [], ◌∷◌, map, length, true, nat_lt, if◌then◌else◌, slice_get}
use Rattle.std.specs.Prelude.{Option, Some, None}
use Rattle.c_types.specs.declared.program.VarRef.{VarRef}
use Rattle.c_types.specs.declared.program.VarRef.TheVariants.{Ptr as PtrVar, Data as DatumVar}
use Rattle.c_types.specs.declared.program.Arg.{Arg}
use Rattle.c_types.specs.declared.program.Dest.{Dest}
use Rattle.c_types.specs.declared.program.Act.{Act}
use Rattle.c_types.specs.declared.program.Act.TheVariants.{SetPtr, SetData, Free, Error, Halt, Return, Break, Continue}
use Rattle.c_types.specs.declared.program.Act.TheVariants.{Leave as LeaveAct}
use Rattle.c_types.specs.declared.program.Atom.{Atom}
use Rattle.c_types.specs.declared.program.Atom.TheVariants.{Known as KnownAtom}
use Rattle.c_types.specs.declared.program.Cond.{Cond, Cond-F, fold-Cond}
use Rattle.c_types.specs.declared.program.Cond.TheOpen.{Atom as Atom-F, Not as Not-F, All as All-F, Any as Any-F}
use Rattle.c_types.specs.declared.program.Stmt.{Stmt, Stmt-F, fold-Stmt}
use Rattle.c_types.specs.declared.program.Stmt.TheOpen.{Do as Do-F, Branch as Branch-F, While as While-F}
use Rattle.c_types.specs.declared.program.Stmt.TheOpen.{DoWhile as DoWhile-F, For as For-F, Group as Group-F}
use Rattle.c_types.specs.declared.program.Stmt.TheOpen.{Call as Call-F}
use Rattle.c_types.specs.declared.program.Func.{Func}
use Rattle.c_types.specs.Program.{Program}

-- A condition of binary parts. The number beside an act, an atom, a Close, an Enter, a Leave or an Exit is its mark; in
-- a program's own items it is the line.
pub data Test : Type 0 where
  Ask : Atom → ℕ → Test
  Not : Test → Test
  Both : Test → Test → Test
  Either : Test → Test → Test

-- Pending items: each constructor is the first item, its last argument the items after it.
pub data Items : Type 0 where
  Done : Items
  Do : Act → ℕ → Items → Items
  -- these pointer and data variables die
  Close : List ℕ → List ℕ → ℕ → Items → Items
  -- a branch, and the test of an atom to which it opens
  If : (test : Test) → (yes' no' : Items) → Items → Items
  -- `while` (nothing is next) and `for` (6.8.5)
  Loop : (test : Test) → (next body : Items) → Items → Items
  Again : (test : Test) → (next body : Items) → Items → Items
  -- `do` (6.8.5.2)
  DoLoop : (test : Test) → (body : Items) → Items → Items
  DoAgain : (test : Test) → (body : Items) → Items → Items
  -- a function is called: its parameters, and what they are given (6.5.2.2)
  Enter : (params : List VarRef) → (args : List Arg) → ℕ → Items → Items
  -- `return` of a function: its result, its local variables, and what it returns (6.8.6.4)
  Leave : (result : Option VarRef) → (locals : List VarRef) → (value : Option Arg) → ℕ → Items → Items
  -- the end of a call: the function's result and parameters, and what the result is assigned to
  Exit : (result : Option VarRef) → (params : List VarRef) → (to' : Option Dest) → ℕ → Items → Items

-- items before others
infixr 60 ◌then◌
abbrev pub ◌then◌ : Items → Items → Items
◌then◌ Done r = r
◌then◌ (Do a m is) r = Do a m (is then r)
◌then◌ (Close ps ds m is) r = Close ps ds m (is then r)
◌then◌ (If c x y is) r = If c x y (is then r)
◌then◌ (Loop c n b is) r = Loop c n b (is then r)
◌then◌ (Again c n b is) r = Again c n b (is then r)
◌then◌ (DoLoop c b is) r = DoLoop c b (is then r)
◌then◌ (DoAgain c b is) r = DoAgain c b (is then r)
◌then◌ (Enter vs ws m is) r = Enter vs ws m (is then r)
◌then◌ (Leave v vs a m is) r = Leave v vs a m (is then r)
◌then◌ (Exit v vs d m is) r = Exit v vs d m (is then r)

-- A test opens to its first atom; `!` changes the sides, `&&` and `||` go from the left and stop early (6.5.3.3,
-- 6.5.13, 6.5.14).
abbrev pub ask : Test → Items → Items → Items → Items
ask (Ask a m) x y r = If (Ask a m) x y r
ask (Not c) x y r = ask c y x r
ask (Both c d) x y r = ask c (If d x y Done) y r
ask (Either c d) x y r = ask c x (If d x y Done) r

-- a round of `while` or `for`: the yes side of its test (6.8.5.1, 6.8.5.3)
abbrev pub round : Test → Items → Items → Items
round c n b = b then Again c n b Done

-- a round of `do` (6.8.5.2)
abbrev pub do_round : Test → Items → Items
do_round c b = b then DoAgain c b Done

-- Opens the front of some items that stand before others, `r`, given what those open to, `o`. Opening takes no step.
abbrev pub open_before : Items → Items → Items → Items
open_before Done r o = o
open_before (Do a m is) r o = Do a m (is then r)
open_before (Close ps ds m is) r o = Close ps ds m (is then r)
open_before (If c x y is) r o = ask c x y (is then r)
open_before (Loop c n b is) r o = ask c (round c n b) Done (is then r)
open_before (Again c n b is) r o = open_before n (Loop c n b (is then r)) (ask c (round c n b) Done (is then r))
open_before (DoLoop c b is) r o = open_before b (DoAgain c b (is then r)) (ask c (do_round c b) Done (is then r))
open_before (DoAgain c b is) r o = ask c (do_round c b) Done (is then r)
open_before (Enter vs ws m is) r o = Enter vs ws m (is then r)
open_before (Leave v vs a m is) r o = Leave v vs a m (is then r)
open_before (Exit v vs d m is) r o = Exit v vs d m (is then r)

-- the list with its front opened: it begins with an act, the test of an atom, a Close, an Enter, a Leave or an Exit,
-- or is Done
abbrev pub opened : Items → Items
opened is = open_before is Done Done

-- `break`: the items after the first Again (6.8.6.3)
abbrev pub after_again : Items → Items
after_again Done = Done
after_again (Do a m is) = after_again is
after_again (Close ps ds m is) = after_again is
after_again (If c x y is) = after_again is
after_again (Loop c n b is) = after_again is
after_again (Again c n b is) = is
after_again (DoLoop c b is) = after_again is
after_again (DoAgain c b is) = is
after_again (Enter vs ws m is) = after_again is
after_again (Leave v vs a m is) = after_again is
after_again (Exit v vs d m is) = after_again is

-- `continue`: the items from the first Again on (6.8.6.2)
abbrev pub from_again : Items → Items
from_again Done = Done
from_again (Do a m is) = from_again is
from_again (Close ps ds m is) = from_again is
from_again (If c x y is) = from_again is
from_again (Loop c n b is) = from_again is
from_again (Again c n b is) = Again c n b is
from_again (DoLoop c b is) = from_again is
from_again (DoAgain c b is) = DoAgain c b is
from_again (Enter vs ws m is) = from_again is
from_again (Leave v vs a m is) = from_again is
from_again (Exit v vs d m is) = from_again is

-- the items from the first Exit on that ends none of n calls: a call that is still to come has an Exit of its own
abbrev pub exit_after : ℕ → Items → Items
exit_after n Done = Done
exit_after n (Do a m is) = exit_after n is
exit_after n (Close ps ds m is) = exit_after n is
exit_after n (If c x y is) = exit_after n is
exit_after n (Loop c b d is) = exit_after n is
exit_after n (Again c b d is) = exit_after n is
exit_after n (DoLoop c b is) = exit_after n is
exit_after n (DoAgain c b is) = exit_after n is
exit_after n (Enter vs ws m is) = exit_after (suc n) is
exit_after n (Leave v vs a m is) = exit_after n is
exit_after zero (Exit v vs d m is) = Exit v vs d m is
exit_after (suc n) (Exit v vs d m is) = exit_after n is

-- `return` of a function: the items from the Exit of its own call on (6.8.6.4)
abbrev pub from_exit : Items → Items
from_exit is = exit_after 0 is

-- a rising list with one number more
abbrev pub insert : ℕ → List ℕ → List ℕ
insert n [] = n ∷ []
insert n (m ∷ ms) = if nat_lt n m then n ∷ m ∷ ms else m ∷ insert n ms

-- two rising lists as one
abbrev pub merged : List ℕ → List ℕ → List ℕ
merged [] ms = ms
merged (n ∷ ns) ms = insert n (merged ns ms)

-- The variables that die with `break` and `continue`: of the Closes before the first Again those of the call that goes
-- on, of its pointer and its data variables those that `own` picks. A call that is still to come hides what it would
-- close: behind n Enters as many Exits come first. The Exit of its own call ends what is its own. (6.2.4)
abbrev pub closed_after : (own : List ℕ → List ℕ → List ℕ) → ℕ → Items → List ℕ
closed_after own n Done = []
closed_after own n (Do a m is) = closed_after own n is
closed_after own zero (Close ps ds m is) = merged (own ps ds) (closed_after own zero is)
closed_after own (suc n) (Close ps ds m is) = closed_after own (suc n) is
closed_after own n (If c x y is) = closed_after own n is
closed_after own n (Loop c d b is) = closed_after own n is
closed_after own n (Again c d b is) = []
closed_after own n (DoLoop c b is) = closed_after own n is
closed_after own n (DoAgain c b is) = []
closed_after own n (Enter vs ws m is) = closed_after own (suc n) is
closed_after own n (Leave v vs a m is) = closed_after own n is
closed_after own zero (Exit v vs d m is) = []
closed_after own (suc n) (Exit v vs d m is) = closed_after own n is

abbrev pub closed_ptrs : Items → List ℕ
closed_ptrs is = closed_after (λ ps ds. ps) 0 is

abbrev pub closed_datums : Items → List ℕ
closed_datums is = closed_after (λ ps ds. ds) 0 is

-- the pointer variables of a list, rising
abbrev pub ptr_vars : List VarRef → List ℕ
ptr_vars [] = []
ptr_vars (PtrVar x ∷ vs) = insert x (ptr_vars vs)
ptr_vars (DatumVar x ∷ vs) = ptr_vars vs

-- the data variables of a list, rising
abbrev pub datum_vars : List VarRef → List ℕ
datum_vars [] = []
datum_vars (PtrVar x ∷ vs) = datum_vars vs
datum_vars (DatumVar x ∷ vs) = insert x (datum_vars vs)

-- a result, if there is one, and other variables
abbrev pub with_result : Option VarRef → List VarRef → List VarRef
with_result None vs = vs
with_result (Some v) vs = v ∷ vs

-- The items of a program

-- `&&` or `||` of several parts, from the left (a program's have a part)
abbrev pub joined : (Test → Test → Test) → List Test → Test
joined join [] = Ask (KnownAtom true) 0
joined join (c ∷ []) = c
joined join (c ∷ d ∷ ds) = join c (joined join (d ∷ ds))

-- a condition's test, by its outer part
abbrev pub test_step : Cond-F Test → Test
test_step (Atom-F a line) = Ask a line
test_step (Not-F c) = Not c
test_step (All-F cs) = joined Both cs
test_step (Any-F cs) = joined Either cs

abbrev pub test_of : Cond → Test
test_of = fold-Cond Test test_step

-- each of these items in turn, before others
abbrev pub all_before : List (Items → Items) → Items → Items
all_before [] r = r
all_before (f ∷ fs) r = f (all_before fs r)

-- the end of a block: the variables that it declares die (6.2.4); a block that declares none has no Close
abbrev pub closes : List ℕ → List ℕ → ℕ → Items → Items
closes [] [] m r = r
closes [] (d ∷ ds) m r = Close [] (d ∷ ds) m r
closes (p ∷ ps) ds m r = Close (p ∷ ps) ds m r

-- the items of a `return`, with what it takes from its function; a program's are of functions that are there
abbrev pub leave_items : Option Func → ℕ → Option Arg → ℕ → Items → Items
leave_items None f value m r = Do (LeaveAct f value) m r
leave_items (Some g) f value m r = Leave g.result g.locals value m r

-- the items of an act
abbrev pub act_items : List Func → Act → ℕ → Items → Items
act_items funcs (SetPtr to from) m r = Do (SetPtr to from) m r
act_items funcs (SetData to from) m r = Do (SetData to from) m r
act_items funcs (Free p) m r = Do (Free p) m r
act_items funcs Error m r = Do Error m r
act_items funcs Halt m r = Do Halt m r
act_items funcs (Return operand) m r = Do (Return operand) m r
act_items funcs (LeaveAct f value) m r = leave_items (slice_get funcs f) f value m r
act_items funcs Break m r = Do Break m r
act_items funcs Continue m r = Do Continue m r

-- the items of a call: those of the body of its function, as `inside` gives them, between its Enter and its Exit; a
-- program's are of functions that are there
abbrev pub call_items : (List Stmt → Items → Items) → Option Func → List Arg → Option Dest → ℕ → Items → Items
call_items inside None args to m r = r
call_items inside (Some g) args to m r = Enter g.params args m (inside g.body (Exit g.result g.params to m r))

-- a statement's items, before others, by its outer part (6.8.2, 6.8.4, 6.8.5)
abbrev pub items_step : List Func → (List Stmt → Items → Items) → Stmt-F (Items → Items) → Items → Items
items_step funcs inside (Do-F a line) r = act_items funcs a line r
items_step funcs inside (Branch-F c x y) r = If (test_of c) (all_before x Done) (all_before y Done) r
items_step funcs inside (While-F c b) r = Loop (test_of c) Done (all_before b Done) r
items_step funcs inside (DoWhile-F c b) r = DoLoop (test_of c) (all_before b Done) r
items_step funcs inside (For-F c n b) r = Loop (test_of c) (all_before n Done) (all_before b Done) r
items_step funcs inside (Group-F b ps ds m) r = all_before b (closes ps ds m r)
items_step funcs inside (Call-F f args to line) r = call_items inside (slice_get funcs f) args to line r

-- a statement's items, before others, where `inside` gives the items of the bodies of called functions
abbrev pub items_by : List Func → (List Stmt → Items → Items) → Stmt → Items → Items
items_by funcs inside = fold-Stmt (Items → Items) (items_step funcs inside)

-- the items of a called function's body, before others, where calls are followed n deep: deeper bodies have none
abbrev pub body_within : List Func → ℕ → List Stmt → Items → Items
body_within funcs zero body r = r
body_within funcs (suc n) body r = all_before (map (items_by funcs (body_within funcs n)) body) r

-- a statement's items, before others: no chain of calls is longer than there are functions
abbrev pub items_of : List Func → Stmt → Items → Items
items_of funcs = items_by funcs (body_within funcs (length funcs))

-- the items with which a run begins
abbrev pub start_of : Program → Items
start_of p = all_before (map (items_of p.funcs) p.body) Done
