-- The machine's stack and its opening, an entry and a layer at a time.
use Rattle.std.proofs.Common.{Bor, Bool, true, false}
use Rattle.std.proofs.Common.{◌≡◌, ℕ, ◌+◌, Option, None, List, [], ◌∷◌, ◌++◌, map, length, slice_get}
use Rattle.std.proofs.Common.{refl, sym, ap, ◌∙◌, arith}
use Rattle.std.proofs.lemmas.List.{nil_from_length}
use Rattle.c_types.specs.declared.program.Act.{Act}
use Rattle.c_types.specs.declared.program.Func.{Func}
use Rattle.c_types.specs.declared.program.Atom.{Atom}
use Rattle.c_types.specs.declared.program.Cond.{Cond, fold-roll-Cond}
use Rattle.c_types.specs.declared.program.Cond.TheVariants.{Atom as CondAtom, Not as CondNot, All as CondAll}
use Rattle.c_types.specs.declared.program.Cond.TheVariants.{Any as CondAny, rolls-Atom, rolls-Not, rolls-All, rolls-Any}
use Rattle.c_types.specs.declared.program.Cond.TheOpen.{Atom as Atom-F, Not as Not-F, All as All-F, Any as Any-F}
use Rattle.c_types.specs.declared.program.Stmt.{Stmt, fold-roll-Stmt}
use Rattle.c_types.specs.declared.program.Stmt.TheVariants.{Do as StmtDo, Branch, While, For, DoWhile, Group, Call}
use Rattle.c_types.specs.declared.program.Stmt.TheVariants.{rolls-DoWhile, rolls-Group}
use Rattle.c_types.specs.declared.program.Stmt.TheVariants.{rolls-Call}
use Rattle.c_types.specs.declared.program.Arg.{Arg}
use Rattle.c_types.specs.declared.program.Dest.{Dest}
use Rattle.c_types.specs.declared.program.Stmt.TheOpen.{DoWhile as DoWhile-F, Group as Group-F}
use Rattle.c_types.specs.declared.program.Stmt.TheOpen.{Call as Call-F}
use Rattle.c_types.specs.Control.{Items, Done, If, Loop, Again, DoLoop, DoAgain, Enter, Exit, Test}
use Rattle.c_types.specs.Control.{Both, Either, ◌then◌}
use Rattle.c_types.specs.Control.{ask, round, do_round, open_before, opened, joined, test_of, all_before, closes}
use Rattle.c_types.specs.Control.{act_items, call_items, body_within, items_of}
use Rattle.c_types.specs.Control.{start_of}
use Rattle.c_types.proofs.Turns.{then_done}
use Rattle.c_types.proofs.Standing.{then_then, open_then, all_stand}
use Rattle.c_types.proofs.Layers.{test-Atom, test-Not, test-All, test-Any, by-Do, by-Branch, by-While, by-For}
use Rattle.c_types.proofs.Layers.{by-DoWhile, by-Group, by-Call}
use Rattle.c_types.specs.Program.{Program}
use Rattle.c_machine.specs.declared.items.Body.{Body}
use Rattle.c_machine.specs.declared.items.Item.{Item}
use Rattle.c_machine.specs.declared.items.Item.TheVariants.{Block as ItemBlock, Again as ItemAgain}
use Rattle.c_machine.specs.declared.items.Item.TheVariants.{DoAgain as ItemDoAgain}
use Rattle.c_machine.specs.declared.items.Sides.{Sides}
use Rattle.c_machine.specs.declared.items.Sides.TheVariants.{Branch as SideBranch, Round, DoRound}
use Rattle.c_machine.specs.declared.items.Part.{Part}
use Rattle.fore_base.specs.Lists.{sum_of}
use Rattle.c_machine.specs.Pending.{way, ways_of, block}
use Rattle.c_machine.specs.Pending.{item_of, in_order, before, onto, Ways, and_then, or_else, through, narrowed}
use Rattle.c_machine.specs.Pending.{test_before}
use Rattle.c_machine.specs.Pending.{size_step, size_of, weight_step, weight_of, block_weight, item_weight, stack_weight}

-- Statements in turn

pub block_then : (funcs : List Func) (ss : List Stmt) (r : Items)
    → in_order funcs ss Done then r ≡ in_order funcs ss r
unfolding in_order
block_then funcs ss r = sym (all_stand funcs (length funcs) ss Done r)

pub in_order_none : (funcs : List Func) (r : Items) → in_order funcs [] r ≡ r
unfolding in_order
in_order_none funcs r = refl

-- an entry of no statements
pub block_none : (x : Item) (b : Body) (r : Items) → x ≡ ItemBlock b → length b.stmts.now ≡ 0 → r ≡ before x r
block_none x b r is none = sym
    (ap (λ z. before z r) is ∙ ap (λ ss. in_order b.program.now.funcs ss r) (nil_from_length b.stmts.now none)
    ∙ in_order_none b.program.now.funcs r)

pub in_order_more : (funcs : List Func) (s : Stmt) (ss : List Stmt) (r : Items)
    → in_order funcs (s ∷ ss) r ≡ item_of funcs s (in_order funcs ss r)
unfolding in_order item_of
in_order_more funcs s ss r = refl

pub in_order_all : (p : Program) → in_order p.funcs p.body Done ≡ start_of p
unfolding in_order
in_order_all p = refl

-- A statement, by its outer part

abbrev deep : List Func → List Stmt → Items → Items
deep funcs = body_within funcs (length funcs)

pub of-Do : (funcs : List Func) (a : Act) (line : ℕ) (r : Items) → item_of funcs (StmtDo a line) r
    ≡ act_items funcs a line r
unfolding item_of
of-Do funcs = by-Do funcs (deep funcs)

pub of-Branch : (funcs : List Func) (c : Cond) (x y : List Stmt) (r : Items) → item_of funcs (Branch c x y) r
    ≡ If (test_of c) (in_order funcs x Done) (in_order funcs y Done) r
unfolding in_order item_of
of-Branch funcs = by-Branch funcs (deep funcs)

pub of-While : (funcs : List Func) (c : Cond) (b : List Stmt) (r : Items) → item_of funcs (While c b) r
    ≡ Loop (test_of c) (in_order funcs [] Done) (in_order funcs b Done) r
unfolding in_order item_of
of-While funcs = by-While funcs (deep funcs)

pub of-For : (funcs : List Func) (c : Cond) (n b : List Stmt) (r : Items) → item_of funcs (For c n b) r
    ≡ Loop (test_of c) (in_order funcs n Done) (in_order funcs b Done) r
unfolding in_order item_of
of-For funcs = by-For funcs (deep funcs)

pub of-DoWhile : (funcs : List Func) (c : Cond) (b : List Stmt) (r : Items) → item_of funcs (DoWhile c b) r
    ≡ DoLoop (test_of c) (in_order funcs b Done) r
unfolding in_order item_of
of-DoWhile funcs = by-DoWhile funcs (deep funcs)

pub of-Group : (funcs : List Func) (b : List Stmt) (ps ds : List ℕ) (close : ℕ) (r : Items)
    → item_of funcs (Group b ps ds close) r ≡ in_order funcs b (closes ps ds close r)
unfolding in_order item_of
of-Group funcs = by-Group funcs (deep funcs)

pub of_none : (funcs : List Func) (f : ℕ) (args : List Arg) (to' : Option Dest) (line : ℕ) (r : Items)
    → slice_get funcs f ≡ None → item_of funcs (Call f args to' line) r ≡ r
unfolding item_of
of_none funcs f args to' line r at =
    by-Call funcs (deep funcs) f args to' line r ∙ ap (λ o. call_items (deep funcs) o args to' line r) at

-- a call, as a law of programs says what its items are
pub of_call : (funcs : List Func) (g : Func) (f : ℕ) (args : List Arg) (to' : Option Dest) (line : ℕ) (r : Items)
    → items_of funcs (Call f args to' line) r
    ≡ Enter g.params args line (all_before (map (items_of funcs) g.body) (Exit g.result g.params to' line r))
    → item_of funcs (Call f args to' line) r
    ≡ Enter g.params args line (in_order funcs g.body (Exit g.result g.params to' line r))
unfolding in_order item_of
of_call funcs g f args to' line r law = law

-- Openings

-- a `do`'s body goes first
pub opened-DoLoop : (funcs : List Func) (c : Test) (b : List Stmt) (r : Items)
    → opened (DoLoop c (in_order funcs b Done) r) ≡ opened (in_order funcs b (DoAgain c (in_order funcs b Done) r))
opened-DoLoop funcs c b r =
    let is : Items = in_order funcs b Done in
    ap (λ z. open_before is (DoAgain c is z) (ask c (do_round c is) Done z)) (then_done r)
    ∙ ap (λ z. open_before is z (ask c (do_round c is) Done r)) (ap (DoAgain c is) (sym (then_done r)))
    ∙ ap (λ z. open_before is (DoAgain c is (r then Done)) (ask c (do_round c is) Done z)) (sym (then_done r))
    ∙ sym (open_then is (DoAgain c is r) Done Done)
    ∙ ap opened (block_then funcs b (DoAgain c is r))

-- what a `for` does next goes before its loop
pub opened-Again : (funcs : List Func) (c : Test) (n : List Stmt) (b r : Items)
    → opened (Again c (in_order funcs n Done) b r)
    ≡ opened (in_order funcs n (Loop c (in_order funcs n Done) b r))
opened-Again funcs c n b r =
    let is : Items = in_order funcs n Done in
    ap (λ z. open_before is (Loop c is b z) (ask c (round c is b) Done z)) (then_done r)
    ∙ ap (λ z. open_before is z (ask c (round c is b) Done r)) (ap (Loop c is b) (sym (then_done r)))
    ∙ ap (λ z. open_before is (Loop c is b (r then Done)) (ask c (round c is b) Done z)) (sym (then_done r))
    ∙ sym (open_then is (Loop c is b r) Done Done)
    ∙ ap opened (block_then funcs n (Loop c is b r))

-- The side of a condition that is taken, on the stack

pub branch_yes : (sides : Sides) (yes' no' : Body) (b : Bool) (r s : Items) → sides ≡ SideBranch yes' no' → b ≡ true
    → s ≡ block yes' r → s ≡ way b (ways_of sides) then r
branch_yes sides yes' no' b r s at held put =
    put ∙ sym (block_then yes'.program.now.funcs yes'.stmts.now r)
    ∙ ap (λ c. way c (ways_of (SideBranch yes' no')) then r) (sym held)
    ∙ ap (λ x. way b (ways_of x) then r) (sym at)

pub branch_no : (sides : Sides) (yes' no' : Body) (b : Bool) (r s : Items) → sides ≡ SideBranch yes' no' → b ≡ false
    → s ≡ block no' r → s ≡ way b (ways_of sides) then r
branch_no sides yes' no' b r s at missed put =
    put ∙ sym (block_then no'.program.now.funcs no'.stmts.now r)
    ∙ ap (λ c. way c (ways_of (SideBranch yes' no')) then r) (sym missed)
    ∙ ap (λ x. way b (ways_of x) then r) (sym at)

-- Conditions, a layer at a time

pub size-Atom : (a : Atom) (line : ℕ) → size_of (CondAtom a line) ≡ 1
size-Atom a line = ap size_of (sym (rolls-Atom a line)) ∙ fold-roll-Cond ℕ size_step (Atom-F a line)

pub size-Not : (c : Cond) → size_of (CondNot c) ≡ size_of c + 1
size-Not c = ap size_of (sym (rolls-Not c)) ∙ fold-roll-Cond ℕ size_step (Not-F c)

pub size-All : (cs : List Cond) → size_of (CondAll cs) ≡ sum_of (map size_of cs) + 1
size-All cs = ap size_of (sym (rolls-All cs)) ∙ fold-roll-Cond ℕ size_step (All-F cs)

pub size-Any : (cs : List Cond) → size_of (CondAny cs) ≡ sum_of (map size_of cs) + 1
size-Any cs = ap size_of (sym (rolls-Any cs)) ∙ fold-roll-Cond ℕ size_step (Any-F cs)

pub open-Not : (c : Cond) (w : Ways) (r : Items) → opened (test_before (test_of (CondNot c)) w r)
    ≡ opened (test_before (test_of c) (record { when = w.otherwise; otherwise = w.when }) r)
open-Not c w r = ap (λ t. opened (test_before t w r)) (test-Not c)

-- `&&` of this and others
pub ask_all : (c : Cond) (cs : List Cond) (w : Ways) (r : Items)
    → opened (test_before (joined Both (map test_of (c ∷ cs))) w r) ≡ opened (test_before (test_of c) (and_then cs w) r)
ask_all c [] w r = refl
ask_all c (d ∷ ds) w r = refl

pub ask_any : (c : Cond) (cs : List Cond) (w : Ways) (r : Items)
    → opened (test_before (joined Either (map test_of (c ∷ cs))) w r)
    ≡ opened (test_before (test_of c) (or_else cs w) r)
ask_any c [] w r = refl
ask_any c (d ∷ ds) w r = refl

pub open-All : (c : Cond) (cs : List Cond) (w : Ways) (r : Items)
    → opened (test_before (test_of (CondAll (c ∷ cs))) w r) ≡ opened (test_before (test_of c) (and_then cs w) r)
open-All c cs w r = ap (λ t. opened (test_before t w r)) (test-All (c ∷ cs)) ∙ ask_all c cs w r

pub open-Any : (c : Cond) (cs : List Cond) (w : Ways) (r : Items)
    → opened (test_before (test_of (CondAny (c ∷ cs))) w r) ≡ opened (test_before (test_of c) (or_else cs w) r)
open-Any c cs w r = ap (λ t. opened (test_before t w r)) (test-Any (c ∷ cs)) ∙ ask_any c cs w r

-- Weights

pub weight-DoWhile : (c : Cond) (b : List Stmt) → weight_of (DoWhile c b) ≡ block_weight b + 3
weight-DoWhile c b = ap weight_of (sym (rolls-DoWhile c b)) ∙ fold-roll-Stmt ℕ weight_step (DoWhile-F c b)

pub weight-Call : (f : ℕ) (args : List Arg) (to' : Option Dest) (line : ℕ) → weight_of (Call f args to' line) ≡ 1
weight-Call f args to' line = ap weight_of (sym (rolls-Call f args to' line))
    ∙ fold-roll-Stmt ℕ weight_step (Call-F f args to' line)

pub weight-Group : (b : List Stmt) (ps ds : List ℕ) (m : ℕ) → weight_of (Group b ps ds m) ≡ block_weight b + 3
weight-Group b ps ds m = ap weight_of (sym (rolls-Group b ps ds m)) ∙ fold-roll-Stmt ℕ weight_step (Group-F b ps ds m)

-- Stacks

pub onto_push : (r : Items) (xs : List Item) (x : Item) → onto r (xs ++ x ∷ []) ≡ before x (onto r xs)
onto_push r [] x = refl
onto_push r (y ∷ xs) x = onto_push (before y r) xs x

pub weight_push : (xs : List Item) (x : Item) → stack_weight (xs ++ x ∷ []) ≡ item_weight x + stack_weight xs
weight_push [] x = refl
weight_push (y ∷ xs) x = omega (arith, weight_push xs x)

pub through_push : (w : Ways) (xs : List Part) (x : Part) → through w (xs ++ x ∷ []) ≡ narrowed x (through w xs)
through_push w [] x = refl
through_push w (y ∷ xs) x = through_push (narrowed y w) xs x

-- a part taken off
pub through_parts : (w : Ways) (xs ys : List Part) (x : Part) → xs ≡ ys ++ x ∷ []
    → through w xs ≡ narrowed x (through w ys)
through_parts w xs ys x e = ap (through w) e ∙ through_push w ys x

-- the yes side of a loop's test, on the stack
pub turn_then : (funcs : List Func) (c : Test) (n : Items) (b : List Stmt) (r : Items)
    → round c n (in_order funcs b Done) then r ≡ in_order funcs b (Again c n (in_order funcs b Done) r)
turn_then funcs c n b r =
    let is : Items = in_order funcs b Done in
    then_then is (Again c n is Done) r ∙ block_then funcs b (Again c n is r)

pub do_turn_then : (funcs : List Func) (c : Test) (b : List Stmt) (r : Items)
    → do_round c (in_order funcs b Done) then r ≡ in_order funcs b (DoAgain c (in_order funcs b Done) r)
do_turn_then funcs c b r =
    let is : Items = in_order funcs b Done in
    then_then is (DoAgain c is Done) r ∙ block_then funcs b (DoAgain c is r)

pub round_yes : (sides : Sides) (c : Bor Cond) (n body : Body) (b : Bool) (r q s : Items) → sides ≡ Round c n body
    → b ≡ true → q ≡ before (ItemAgain c n body) r → s ≡ block body q → s ≡ way b (ways_of sides) then r
round_yes sides c n body b r q s at held again put =
    put ∙ ap (block body) again
    ∙ sym (turn_then body.program.now.funcs (test_of c.now) (block n Done) body.stmts.now r)
    ∙ ap (λ x. way x (ways_of (Round c n body)) then r) (sym held)
    ∙ ap (λ x. way b (ways_of x) then r) (sym at)

pub do_round_yes : (sides : Sides) (c : Bor Cond) (body : Body) (b : Bool) (r q s : Items) → sides ≡ DoRound c body
    → b ≡ true → q ≡ before (ItemDoAgain c body) r → s ≡ block body q → s ≡ way b (ways_of sides) then r
do_round_yes sides c body b r q s at held again put =
    put ∙ ap (block body) again
    ∙ sym (do_turn_then body.program.now.funcs (test_of c.now) body.stmts.now r)
    ∙ ap (λ x. way x (ways_of (DoRound c body)) then r) (sym held)
    ∙ ap (λ x. way b (ways_of x) then r) (sym at)

pub ruleset sides = (branch_yes, branch_no, round_yes, do_round_yes)

pub ruleset asking = (ask_all, ask_any, through_push)

pub ruleset parting = (through_push, through_parts)

pub ruleset pushing = (onto_push, weight_push, through_push)

pub ruleset layers = (
  in_order_none,
  in_order_more,
  in_order_all,
  of-Do,
  of-Branch,
  of-While,
  of-For,
  of-DoWhile,
  of-Group,
  of_none,
  opened-DoLoop,
  opened-Again,
  weight-DoWhile,
  weight-Group,
  weight-Call,
)

pub ruleset conditions = (
  test-Atom,
  test-Not,
  test-All,
  test-Any,
  size-Atom,
  size-Not,
  size-All,
  size-Any,
  open-Not,
  open-All,
  open-Any,
  through_push,
)
