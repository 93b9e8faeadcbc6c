-- What the machine's stack, and what stands before it, mean as pending items.
use Rattle.std.specs.Prelude.{◌≡◌, ℕ, ◌+◌, ◌≤◌, List, [], ◌∷◌, map, Bool, true, false}
use Rattle.std.specs.Vec.{vec_len, vec_capacity}
use Rattle.fore_base.specs.Lists.{sum_of}
use Rattle.c_types.specs.declared.program.Atom.TheVariants.{Known as KnownAtom}
use Rattle.c_types.specs.declared.program.Cond.{Cond, Cond-F, fold-Cond}
use Rattle.c_types.specs.declared.program.Cond.TheOpen.{Atom as Atom-F, Not as Not-F, All as All-F, Any as Any-F}
use Rattle.c_types.specs.declared.program.Stmt.{Stmt, Stmt-F, fold-Stmt}
use Rattle.c_types.specs.declared.program.Stmt.TheOpen.{Do as Do-F, Branch as Branch-F, While as While-F}
use Rattle.c_types.specs.declared.program.Stmt.TheOpen.{DoWhile as DoWhile-F, For as For-F, Group as Group-F}
use Rattle.c_types.specs.declared.program.Stmt.TheOpen.{Call as Call-F}
use Rattle.c_types.specs.declared.program.Func.{Func}
use Rattle.c_types.specs.Control.{Test, Ask, Both, Either, Items, Done, Do, Close, If, Loop, Again, DoAgain, Enter}
use Rattle.c_types.specs.Control.{Leave}
use Rattle.c_types.specs.Control.{Exit, ◌then◌, round, do_round, opened, joined, test_of, items_of, all_before, closes}
use Rattle.c_types.specs.Control.{after_again, from_again, closed_ptrs, closed_datums}
use Rattle.fore_base.specs.declared.store.Store.{Store}
use Rattle.fore_base.specs.Stores.{kill}
use Rattle.c_machine.specs.declared.items.Body.{Body}
use Rattle.c_machine.specs.declared.items.Item.{Item}
use Rattle.c_machine.specs.declared.items.Item.TheVariants.{Block, Close as ItemClose, Loop as ItemLoop}
use Rattle.c_machine.specs.declared.items.Item.TheVariants.{Again as ItemAgain, DoAgain as ItemDoAgain}
use Rattle.c_machine.specs.declared.items.Item.TheVariants.{Exit as ItemExit}
use Rattle.c_machine.specs.declared.items.Part.{Part}
use Rattle.c_machine.specs.declared.items.Part.TheVariants.{Negated, AllOf, AnyOf}
use Rattle.c_machine.specs.declared.items.Sides.{Sides}
use Rattle.c_machine.specs.declared.items.Sides.TheVariants.{Branch as SideBranch, Round, DoRound}
use Rattle.c_machine.specs.declared.items.Front.{Front}
use Rattle.c_machine.specs.declared.items.Front.TheVariants.{Shut, Asked, Act as FrontAct, Test as FrontTest, Truth}
use Rattle.c_machine.specs.declared.items.Front.TheVariants.{Close as FrontClose, Enter as FrontEnter}
use Rattle.c_machine.specs.declared.items.Front.TheVariants.{Leave as FrontLeave, Exit as FrontExit, Nothing}
use Rattle.c_machine.specs.declared.items.Control.{Control}
use Rattle.c_machine.specs.declared.answering.Past.{Past}
use Rattle.c_machine.specs.declared.answering.Past.TheVariants.{Known, Asks}

-- the items of a statement of a program with these functions, before others
unfoldable pub item_of : List Func → Stmt → Items → Items
item_of funcs s r = items_of funcs s r

-- the same of some statements in turn
unfoldable pub in_order : List Func → List Stmt → Items → Items
in_order funcs ss r = all_before (map (items_of funcs) ss) r

abbrev pub block : Body → Items → Items
block b r = in_order b.program.now.funcs b.stmts.now r

-- an entry of the stack, before others
abbrev pub before : Item → Items → Items
before (Block b) r = block b r
before (ItemClose ps ds m) r = closes ps.now ds.now m r
before (ItemLoop c n b) r = Loop (test_of c.now) (block n Done) (block b Done) r
before (ItemAgain c n b) r = Again (test_of c.now) (block n Done) (block b Done) r
before (ItemDoAgain c b) r = DoAgain (test_of c.now) (block b Done) r
before (ItemExit g d m) r = Exit g.now.result g.now.params d.now m r

-- a stack, its last entry first
abbrev pub onto : Items → List Item → Items
onto r [] = r
onto r (x ∷ xs) = onto (before x r) xs

abbrev pub pending : List Item → Items
pending xs = onto Done xs

-- where the outcomes of a condition lead
pub record Ways : Type 0 where
  pub when : Items
  pub otherwise : Items

abbrev pub and_then : List Cond → Ways → Ways
and_then [] w = w
and_then (c ∷ cs) w = record
    { when = If (joined Both (map test_of (c ∷ cs))) w.when w.otherwise Done; otherwise = w.otherwise }

abbrev pub or_else : List Cond → Ways → Ways
or_else [] w = w
or_else (c ∷ cs) w = record
    { when = w.when; otherwise = If (joined Either (map test_of (c ∷ cs))) w.when w.otherwise Done }

-- where the outcomes of a part lead, by those of what it is a part of
abbrev pub narrowed : Part → Ways → Ways
narrowed Negated w = record { when = w.otherwise; otherwise = w.when }
narrowed (AllOf cs) w = and_then cs.now w
narrowed (AnyOf cs) w = or_else cs.now w

abbrev pub through : Ways → List Part → Ways
through w [] = w
through w (x ∷ xs) = through (narrowed x w) xs

abbrev pub ways_of : Sides → Ways
ways_of (SideBranch x y) = record { when = block x Done; otherwise = block y Done }
ways_of (Round c n b) = record { when = round (test_of c.now) (block n Done) (block b Done); otherwise = Done }
ways_of (DoRound c b) = record { when = do_round (test_of c.now) (block b Done); otherwise = Done }

abbrev pub test_before : Test → Ways → Items → Items
test_before c w r = If c w.when w.otherwise r

-- the front before the stack's items
abbrev pub facing : Front → List Part → Items → Items
facing Shut parts r = r
facing (Asked c sides) parts r = test_before (test_of c.now) (through (ways_of sides) parts) r
facing (FrontAct a m) parts r = Do a.now m r
facing (FrontTest a m sides) parts r = test_before (Ask a.now m) (through (ways_of sides) parts) r
facing (Truth sides) parts r = test_before (Ask (KnownAtom true) 0) (through (ways_of sides) parts) r
facing (FrontClose ps ds m) parts r = Close ps.now ds.now m r
facing (FrontEnter g ws m) parts r = Enter g.now.params ws.now m r
facing (FrontLeave g a m) parts r = Leave g.now.result g.now.locals a.now m r
facing (FrontExit g d m) parts r = Exit g.now.result g.now.params d.now m r
facing Nothing parts r = Done

-- what is left to do, opened
abbrev pub left_of : Control → Items
left_of c = opened (facing c.front c.parts.items (pending c.stack.items))

-- how a whole condition's outcome goes on
abbrev pub way : Bool → Ways → Items
way true w = w.when
way false w = w.otherwise

-- the front is what a step is taken from, or nothing
abbrev pub is_open : Front → Bool
is_open Shut = false
is_open (Asked c sides) = false
is_open (FrontAct a m) = true
is_open (FrontTest a m sides) = true
is_open (Truth sides) = true
is_open (FrontClose ps ds m) = true
is_open (FrontEnter g ws m) = true
is_open (FrontLeave g a m) = true
is_open (FrontExit g d m) = true
is_open Nothing = true

-- the front is open, and there is room for two entries more
pub record IsReady (c : Control) : Type 0 where
  pub open' : is_open c.front ≡ true
  pub room : vec_len c.stack + 2 ≤ vec_capacity c.stack

-- what is known once a part of a condition has an outcome
abbrev pub PastIs : Past → List Part → List Part → Part → Bool → Type 0
PastIs (Known outcome') old new part outcome = (new ≡ old)
    × ((w : Ways) → way outcome (narrowed part w) ≡ way outcome' w)
PastIs (Asks cond) old new part outcome = (w : Ways) (r : Items)
    → opened (test_before (test_of cond.now) (through w new) r)
    ≡ opened (way outcome (narrowed part (through w old)) then r)

-- Measures of opening

abbrev pub size_step : Cond-F ℕ → ℕ
size_step (Atom-F a line) = 1
size_step (Not-F c) = c + 1
size_step (All-F cs) = sum_of cs + 1
size_step (Any-F cs) = sum_of cs + 1

abbrev pub size_of : Cond → ℕ
size_of = fold-Cond ℕ size_step

abbrev pub weight_step : Stmt-F ℕ → ℕ
weight_step (Do-F a line) = 1
weight_step (Branch-F c x y) = 1
weight_step (While-F c b) = 1
weight_step (DoWhile-F c b) = sum_of b + 3
weight_step (For-F c n b) = 1
weight_step (Group-F b ps ds m) = sum_of b + 3
weight_step (Call-F f args to' line) = 1

abbrev pub weight_of : Stmt → ℕ
weight_of = fold-Stmt ℕ weight_step

abbrev pub block_weight : List Stmt → ℕ
block_weight ss = sum_of (map weight_of ss)

abbrev pub item_weight : Item → ℕ
item_weight (Block b) = block_weight b.stmts.now + 1
item_weight (ItemClose ps ds m) = 1
item_weight (ItemLoop c n b) = 1
item_weight (ItemAgain c n b) = block_weight n.stmts.now + 3
item_weight (ItemDoAgain c b) = 1
item_weight (ItemExit g d m) = 1

abbrev pub stack_weight : List Item → ℕ
stack_weight [] = 0
stack_weight (x ∷ xs) = item_weight x + stack_weight xs

abbrev pub asked_size : Front → ℕ
asked_size Shut = 0
asked_size (Asked c sides) = size_of c.now
asked_size (FrontAct a m) = 0
asked_size (FrontTest a m sides) = 0
asked_size (Truth sides) = 0
asked_size (FrontClose ps ds m) = 0
asked_size (FrontEnter g ws m) = 0
asked_size (FrontLeave g a m) = 0
asked_size (FrontExit g d m) = 0
asked_size Nothing = 0

-- how much of a stack, of this weight, may still be opened before there is a front
abbrev pub shut_weight : Front → ℕ → ℕ
shut_weight Shut weight = weight + 1
shut_weight (Asked c sides) weight = 0
shut_weight (FrontAct a m) weight = 0
shut_weight (FrontTest a m sides) weight = 0
shut_weight (Truth sides) weight = 0
shut_weight (FrontClose ps ds m) weight = 0
shut_weight (FrontEnter g ws m) weight = 0
shut_weight (FrontLeave g a m) weight = 0
shut_weight (FrontExit g d m) weight = 0
shut_weight Nothing weight = 0

-- Leaving a round

-- what the end of the blocks among some statements does to a store; a call that is still to come ends none
abbrev pub ends_in_each : List (Store → Store) → Store → Store
ends_in_each [] s = s
ends_in_each (f ∷ fs) s = ends_in_each fs (f s)

abbrev pub ends_step : Stmt-F (Store → Store) → Store → Store
ends_step (Do-F a line) s = s
ends_step (Branch-F c x y) s = s
ends_step (While-F c b) s = s
ends_step (DoWhile-F c b) s = s
ends_step (For-F c n b) s = s
ends_step (Group-F b ps ds m) s = kill ps ds (ends_in_each b s)
ends_step (Call-F f args to' line) s = s

abbrev pub ends_of : Stmt → Store → Store
ends_of = fold-Stmt (Store → Store) ends_step

abbrev pub ends_among : List Stmt → Store → Store
ends_among ss s = ends_in_each (map ends_of ss) s

-- the variables die that are the call's own, of each Close before the first Again
abbrev pub leaving : Items → Store → Store
leaving is s = kill (closed_ptrs is) (closed_datums is) s

-- what is left where a round is left, with its end or without it
abbrev pub left_round : Bool → Items → Items
left_round true is = from_again is
left_round false is = after_again is
