-- The edges of a program by recursion over its items, with numbers alone.
use Rattle.std.specs.Prelude.{ℕ, zero, suc, ◌+◌, List, [], ◌∷◌, ◌++◌, Option, Some, None, map, slice_get}
use Rattle.c_types.specs.declared.program.Act.{Act}
use Rattle.c_types.specs.declared.program.Act.TheVariants.{SetPtr, SetData, Free as FreeAct, Error, Halt, Return, Break}
use Rattle.c_types.specs.declared.program.Act.TheVariants.{Continue, Leave as LeaveAct}
use Rattle.c_types.specs.declared.program.Cond.{Cond}
use Rattle.c_types.specs.declared.program.Func.{Func}
use Rattle.c_types.specs.declared.program.Stmt.{Stmt}
use Rattle.c_types.specs.Control.{Items, Done, Do, Close, If, Loop, Again, DoLoop, DoAgain, Test, Ask, Not, Both}
use Rattle.c_types.specs.Control.{Either, Enter, Leave, Exit, joined, merged, test_of, items_by, body_within}
use Rattle.c_types.specs.Control.{all_before}
use Rattle.c_cfg.specs.declared.graph.Instr.TheVariants.{Kill}
use Rattle.c_cfg.specs.declared.graph.Edge.{Edge}
use Rattle.c_lower.specs.declared.around.Around.{Around}
use Rattle.c_joints.specs.declared.sides.Joint.{Joint}
use Rattle.c_joints.specs.declared.sides.Joint.TheVariants.{All, Any}
use Rattle.c_cfg.specs.declared.link.Link.{Link}
use Rattle.c_cfg.specs.Links.{enter_row, leave_row, exit_row}
use Rattle.c_cfg.specs.Lowering.{edge}
use Rattle.c_links.specs.Chains.{chain}
use Rattle.c_edges.specs.ActLinks.{links_of}
use Rattle.c_lower.specs.inner.Numbering.{act_width, test_width, width, atom_edges, enter_width, leave_width}
use Rattle.c_lower.specs.inner.Numbering.{exit_width}

-- where some items begin that have w locations from i on and stand before the location k
abbrev pub first_of : ℕ → ℕ → ℕ → ℕ
first_of zero i k = k
first_of (suc w) i k = i

-- The variables that die with a `break` or `continue` that stands before items: up to the first Again, or up to their
-- end, where these die then. Of a block those that `own` picks of its pointer and its data variables; behind the begin of
-- n calls those of no block; and none behind the end of the call in which the items begin.
abbrev pub dying : (List ℕ → List ℕ → List ℕ) → ℕ → Items → List ℕ → List ℕ
dying own n Done base = base
dying own n (Do a m is) base = dying own n is base
dying own zero (Close ps ds m is) base = merged (own ps ds) (dying own zero is base)
dying own (suc n) (Close ps ds m is) base = dying own (suc n) is base
dying own n (If c x y is) base = dying own n is base
dying own n (Loop c d b is) base = dying own n is base
dying own n (Again c d b is) base = []
dying own n (DoLoop c b is) base = dying own n is base
dying own n (DoAgain c b is) base = []
dying own n (Enter vs ws m is) base = dying own (suc n) is base
dying own n (Leave v vs a m is) base = dying own n is base
dying own zero (Exit v vs d m is) base = []
dying own (suc n) (Exit v vs d m is) base = dying own n is base

abbrev pub ptrs_of : Items → List ℕ → List ℕ
ptrs_of is base = dying (λ ps ds. ps) 0 is base

abbrev pub datums_of : Items → List ℕ → List ℕ
datums_of is base = dying (λ ps ds. ds) 0 is base

-- what is around a part that stands before these items, where each call that begins in them ends in them
abbrev pub inside : Around → Items → Around
inside w is = record {
  leave = w.leave;
  again = w.again;
  ptrs = ptrs_of is w.ptrs;
  datums = datums_of is w.datums;
  back = w.back;
}

-- what is around the statements of a block that ends with these variables
abbrev pub closed : Around → List ℕ → List ℕ → Around
closed w ps ds = record {
  leave = w.leave;
  again = w.again;
  ptrs = merged ps w.ptrs;
  datums = merged ds w.datums;
  back = w.back;
}

-- the same where a `return` leads to b
abbrev pub back_at : Around → ℕ → Around
back_at w b = record { leave = w.leave; again = w.again; ptrs = w.ptrs; datums = w.datums; back = b }

-- what is around the body of a function whose call ends at b: nothing of the caller dies in it
abbrev pub in_call : Around → ℕ → Around
in_call w b = record { leave = w.leave; again = w.again; ptrs = []; datums = []; back = b }

-- how many locations the end of a block takes
abbrev pub close_width : List ℕ → List ℕ → ℕ
close_width [] [] = 0
close_width [] (d ∷ ds) = 1
close_width (p ∷ ps) ds = 1

-- the edges of the end of a block
abbrev pub close_edges : List ℕ → List ℕ → ℕ → ℕ → ℕ → List Edge
close_edges [] [] line i k = []
close_edges [] (d ∷ ds) line i k = edge line i k (Kill [] (d ∷ ds)) None ∷ []
close_edges (p ∷ ps) ds line i k = edge line i k (Kill (p ∷ ps) ds) None ∷ []

-- what is around the body of a loop
abbrev pub in_loop : ℕ → ℕ → ℕ → Around
in_loop leave again back = record { leave = leave; again = again; ptrs = []; datums = []; back = back }

module _ (nv nd : ℕ) where
  -- Where a `return` leads that stands before these items, whose first location is i, and after the begin of n calls
  -- that end in them: to the first end of a call in them that is none of these, or, if there is none, to b. (There is
  -- no Again.)
  abbrev pub back_of : Items → ℕ → ℕ → ℕ → ℕ
  back_of Done n i b = b
  back_of (Do a m is) n i b = back_of is n (i + act_width nv nd a) b
  back_of (Close ps ds m is) n i b = back_of is n (i + 1) b
  back_of (If c x y is) n i b = back_of is n (i + test_width nv nd c + width nv nd x + width nv nd y) b
  back_of (Loop c d e is) n i b = back_of is n (i + test_width nv nd c + width nv nd e + width nv nd d) b
  back_of (Again c d e is) n i b = b
  back_of (DoLoop c e is) n i b = back_of is n (i + width nv nd e + test_width nv nd c) b
  back_of (DoAgain c e is) n i b = b
  back_of (Enter vs ws m is) n i b = back_of is (suc n) (i + enter_width nv nd vs ws) b
  back_of (Leave v vs a m is) n i b = back_of is n (i + leave_width nv nd v vs a) b
  back_of (Exit v vs d m is) zero i b = i
  back_of (Exit v vs d m is) (suc n) i b = back_of is n (i + exit_width nv nd v vs d) b

  -- what is around a part that stands before these items, whose first location is i
  abbrev pub before : Around → Items → ℕ → Around
  before w is i = back_at (inside w is) (back_of is 0 i w.back)

  -- the edges of an act with this around it
  abbrev pub act_links : Around → Act → List Link
  act_links w a = links_of [] nv nd w.ptrs w.datums a

  -- a test whose first location is i and whose sides are at x and y
  abbrev pub emit_test : Test → ℕ → ℕ → ℕ → List Edge
  emit_test (Ask a m) i x y = atom_edges nv nd a m i x y
  emit_test (Not c) i x y = emit_test c i y x
  emit_test (Both c d) i x y = emit_test c i (i + test_width nv nd c) y ++ emit_test d (i + test_width nv nd c) x y
  emit_test (Either c d) i x y = emit_test c i x (i + test_width nv nd c) ++ emit_test d (i + test_width nv nd c) x y

module _ (exit : ℕ) where
  -- where an act leads that stands before the location k
  abbrev pub act_to : Around → Act → ℕ → ℕ
  act_to w (SetPtr to from) k = k
  act_to w (SetData to from) k = k
  act_to w (FreeAct p) k = k
  act_to w Error k = exit
  act_to w Halt k = exit
  act_to w (Return operand) k = exit
  act_to w (LeaveAct f value) k = exit
  act_to w Break k = w.leave
  act_to w Continue k = w.again

module _ (nv nd exit : ℕ) where
  -- items whose first location is i and that stand before the location k (there is no Again)
  abbrev pub emit : Items → Around → ℕ → ℕ → List Edge
  emit Done w i k = []
  emit (Do a m is) w i k =
      let i1 = i + act_width nv nd a in
      chain m (act_links nv nd (inside w is) a) i (act_to exit w a (first_of (width nv nd is) i1 k)) ++ emit is w i1 k
  emit (Close ps ds m is) w i k = edge m i (first_of (width nv nd is) (i + 1) k) (Kill ps ds) None ∷ emit is w (i + 1) k
  emit (If c x y is) w i k =
      let i1 = i + test_width nv nd c in let i2 = i1 + width nv nd x in let i3 = i2 + width nv nd y in
      let after = first_of (width nv nd is) i3 k in
      emit_test nv nd c i (first_of (width nv nd x) i1 after) (first_of (width nv nd y) i2 after)
      ++ (emit x (before nv nd w is i3) i1 after ++ (emit y (before nv nd w is i3) i2 after ++ emit is w i3 k))
  emit (Loop c n b is) w i k =
      let i1 = i + test_width nv nd c in let i2 = i1 + width nv nd b in let i3 = i2 + width nv nd n in
      let after = first_of (width nv nd is) i3 k in
      let again = first_of (width nv nd n) i2 i in
      emit_test nv nd c i (first_of (width nv nd b) i1 again) after
      ++ (emit b (in_loop after again (back_of nv nd is 0 i3 w.back)) i1 again
      ++ (emit n (before nv nd w is i3) i2 i ++ emit is w i3 k))
  emit (DoLoop c b is) w i k =
      let i1 = i + width nv nd b in let i2 = i1 + test_width nv nd c in
      let after = first_of (width nv nd is) i2 k in
      emit b (in_loop after i1 (back_of nv nd is 0 i2 w.back)) i i1
      ++ (emit_test nv nd c i1 (first_of (width nv nd b) i i1) after ++ emit is w i2 k)
  emit (Again c n b is) w i k = []
  emit (DoAgain c b is) w i k = []
  emit (Enter vs ws m is) w i k =
      let i1 = i + enter_width nv nd vs ws in
      chain m (enter_row nv nd vs ws) i (first_of (width nv nd is) i1 k) ++ emit is w i1 k
  emit (Leave v vs a m is) w i k =
      let i1 = i + leave_width nv nd v vs a in
      chain m (leave_row nv nd v vs a) i (back_of nv nd is 0 i1 w.back) ++ emit is w i1 k
  emit (Exit v vs d m is) w i k =
      let i1 = i + exit_width nv nd v vs d in
      chain m (exit_row nv nd v vs d) i (first_of (width nv nd is) i1 k) ++ emit is w i1 k

-- The loop heads among them
module _ (nv nd : ℕ) where
  abbrev pub head_numbers : Items → ℕ → List ℕ
  head_numbers Done i = []
  head_numbers (Do a m is) i = head_numbers is (i + act_width nv nd a)
  head_numbers (Close ps ds m is) i = head_numbers is (i + 1)
  head_numbers (If c x y is) i =
      let i1 = i + test_width nv nd c in let i2 = i1 + width nv nd x in let i3 = i2 + width nv nd y in
      head_numbers x i1 ++ (head_numbers y i2 ++ head_numbers is i3)
  head_numbers (Loop c n b is) i =
      let i1 = i + test_width nv nd c in let i2 = i1 + width nv nd b in let i3 = i2 + width nv nd n in
      i ∷ head_numbers b i1 ++ (head_numbers n i2 ++ head_numbers is i3)
  head_numbers (DoLoop c b is) i =
      let i1 = i + width nv nd b in let i2 = i1 + test_width nv nd c in
      i1 ∷ head_numbers b i ++ head_numbers is i2
  head_numbers (Again c n b is) i = []
  head_numbers (DoAgain c b is) i = []
  head_numbers (Enter vs ws m is) i = head_numbers is (i + enter_width nv nd vs ws)
  head_numbers (Leave v vs a m is) i = head_numbers is (i + leave_width nv nd v vs a)
  head_numbers (Exit v vs d m is) i = head_numbers is (i + exit_width nv nd v vs d)

-- Conditions

-- `&&` or `||`
abbrev pub joint_of : Joint → Test → Test → Test
joint_of All = Both
joint_of Any = Either

-- Calls

-- the body of a called function, where calls are followed so deep: deeper bodies have no statement
abbrev pub reached : ℕ → List Stmt → List Stmt
reached zero body = []
reached (suc n) body = body

-- where an act leads in a program with these functions: a `return` of one to the end of its call
module _ (funcs : List Func) (exit : ℕ) where
  abbrev pub return_to : Option Func → Around → ℕ
  return_to None w = exit
  return_to (Some g) w = w.back

  abbrev pub step_to : Around → Act → ℕ → ℕ
  step_to w (SetPtr to from) k = k
  step_to w (SetData to from) k = k
  step_to w (FreeAct p) k = k
  step_to w Error k = exit
  step_to w Halt k = exit
  step_to w (Return operand) k = exit
  step_to w (LeaveAct f value) k = return_to (slice_get funcs f) w
  step_to w Break k = w.leave
  step_to w Continue k = w.again

module _ (nv nd : ℕ) where
  -- how many locations the parts of a condition take
  abbrev pub parts_width : List Cond → ℕ
  parts_width [] = 0
  parts_width (c ∷ cs) = test_width nv nd (test_of c) + parts_width cs

  -- the same of `&&` or `||`; of no part it is a literal
  abbrev pub joined_width : List Cond → ℕ
  joined_width [] = 1
  joined_width (c ∷ cs) = parts_width (c ∷ cs)

  -- the edges of `&&` or `||`
  abbrev pub emit_parts : Joint → List Cond → ℕ → ℕ → ℕ → List Edge
  emit_parts joint cs i x y = emit_test nv nd (joined (joint_of joint) (map test_of cs)) i x y

-- Statements, in a program with these functions whose calls are followed so deep
module _ (funcs : List Func) (deep : ℕ) where
  -- the items of a statement
  abbrev pub items_one : Stmt → Items
  items_one s = items_by funcs (body_within funcs deep) s Done

  -- the items of a block's statements
  abbrev pub items_in : List Stmt → Items
  items_in body = all_before (map (items_by funcs (body_within funcs deep)) body) Done

  -- what is around a statement that stands before this one
  unfoldable pub inside_stmt : Around → Stmt → Around
  inside_stmt w s = inside w (items_one s)

  -- what is around a statement that stands before these
  unfoldable pub inside_all : Around → List Stmt → Around
  inside_all w body = inside w (items_in body)

  -- what is around each of these statements, the last first
  unfoldable pub rests_all : Around → List Stmt → List Around
  rests_all w [] = []
  rests_all w (s ∷ ss) = rests_all w ss ++ inside_all w ss ∷ []

  module _ (nv nd : ℕ) where
    -- how many locations a statement takes, and all statements of a list
    unfoldable pub wide_stmt : Stmt → ℕ
    wide_stmt s = width nv nd (items_one s)

    unfoldable pub wide_all : List Stmt → ℕ
    wide_all body = width nv nd (items_in body)

    module _ (exit : ℕ) where
      -- the edges of a statement, and of all statements of a list
      unfoldable pub emit_stmt : Stmt → Around → ℕ → ℕ → List Edge
      emit_stmt s w i k = emit nv nd exit (items_one s) w i k

      unfoldable pub emit_all : List Stmt → Around → ℕ → ℕ → List Edge
      emit_all body w i k = emit nv nd exit (items_in body) w i k

    unfoldable pub heads_stmt : Stmt → ℕ → List ℕ
    heads_stmt s i = head_numbers nv nd (items_one s) i

    unfoldable pub heads_all : List Stmt → ℕ → List ℕ
    heads_all body i = head_numbers nv nd (items_in body) i
