-- Facts of what stands before other items: one that each form of items has, and what is put together of two that have
-- it, has every statement's items, however deep calls are followed.
use Rattle.std.proofs.Common.{ℕ, zero, suc, Option, Some, None, List, [], ◌∷◌, map, slice_get, sym, subst}
use Rattle.c_types.specs.declared.program.Arg.{Arg}
use Rattle.c_types.specs.declared.program.Dest.{Dest}
use Rattle.c_types.specs.declared.program.Func.{Func}
use Rattle.c_types.specs.declared.program.Act.{Act}
use Rattle.c_types.specs.declared.program.Act.TheVariants.{SetPtr, SetData, Free, Error, Halt, Return, Break, Continue}
use Rattle.c_types.specs.declared.program.Act.TheVariants.{Leave as LeaveAct}
use Rattle.c_types.specs.declared.program.Stmt.{Stmt, Stmt-F, map-Stmt, ind-Stmt, fold-roll-Stmt}
use Rattle.c_types.specs.declared.program.Stmt.TheOpen.{Do as Do-F, Branch as Branch-F, While as While-F}
use Rattle.c_types.specs.declared.program.Stmt.TheOpen.{DoWhile as DoWhile-F, For as For-F, Group as Group-F}
use Rattle.c_types.specs.declared.program.Stmt.TheOpen.{Call as Call-F}
use Rattle.c_types.specs.Control.{Test, Items, Done, Do, Close, If, Loop, DoLoop, Enter, Leave, Exit, test_of}
use Rattle.c_types.specs.Control.{all_before, closes, leave_items, act_items, call_items, items_step, items_by}
use Rattle.c_types.specs.Control.{body_within}

-- each form of items has the fact, and what is put together of two that have it
pub record Composes (P : (Items → Items) → Type 0) : Type 0 where
  pub none : P (λ r. r)
  pub both : (f g : Items → Items) → P f → P g → P (λ r. f (g r))
  pub act : (a : Act) (m : ℕ) → P (Do a m)
  pub close : (ps ds : List ℕ) (m : ℕ) → P (Close ps ds m)
  pub branch : (c : Test) (f g : Items → Items) → P f → P g → P (If c (f Done) (g Done))
  pub loop : (c : Test) (f g : Items → Items) → P f → P g → P (Loop c (f Done) (g Done))
  pub do_loop : (c : Test) (f : Items → Items) → P f → P (DoLoop c (f Done))
  pub leave : (g : Func) (value : Option Arg) (m : ℕ) → P (Leave g.result g.locals value m)
  pub call : (g : Func) (args : List Arg) (to' : Option Dest) (m : ℕ) (f : Items → Items) → P f
      → P (λ r. Enter g.params args m (f (Exit g.result g.params to' m r)))

-- a fact of both forms of items that an act can have
module _ (P : (Items → Items) → Type 0) (acts : (a : Act) (m : ℕ) → P (Do a m))
    (leaves : (g : Func) (value : Option Arg) (m : ℕ) → P (Leave g.result g.locals value m)) where
  leave_composed : (o : Option Func) (f : ℕ) (value : Option Arg) (m : ℕ) → P (leave_items o f value m)
  leave_composed None f value m = acts (LeaveAct f value) m
  leave_composed (Some g) f value m = leaves g value m

  pub act_composed : (funcs : List Func) (a : Act) (m : ℕ) → P (act_items funcs a m)
  act_composed funcs (SetPtr to from) m = acts (SetPtr to from) m
  act_composed funcs (SetData to from) m = acts (SetData to from) m
  act_composed funcs (Free p) m = acts (Free p) m
  act_composed funcs Error m = acts Error m
  act_composed funcs Halt m = acts Halt m
  act_composed funcs (Return operand) m = acts (Return operand) m
  act_composed funcs (LeaveAct f value) m = leave_composed (slice_get funcs f) f value m
  act_composed funcs Break m = acts Break m
  act_composed funcs Continue m = acts Continue m

module _ (P : (Items → Items) → Type 0) (h : Composes P) where
  pub closes_composed : (ps ds : List ℕ) (m : ℕ) → P (closes ps ds m)
  closes_composed [] [] m = h.none
  closes_composed [] (d ∷ ds) m = h.close [] (d ∷ ds) m
  closes_composed (p ∷ ps) ds m = h.close (p ∷ ps) ds m

  -- the fact of the items of statements, where the bodies of called functions have it
  module _ (funcs : List Func) (inside : List Stmt → Items → Items) (bodies : (b : List Stmt) → P (inside b)) where
    abbrev its : Stmt → Items → Items
    its = items_by funcs inside

    abbrev Composed : Type 0
    Composed = (s : Stmt) × P (its s)

    abbrev bare : List Composed → List Stmt
    bare es = map (λ e. e.0) es

    each_composed : (es : List Composed) → P (all_before (map its (bare es)))
    each_composed [] = h.none
    each_composed (e ∷ es) = h.both (its e.0) (all_before (map its (bare es))) e.1 (each_composed es)

    call_composed : (o : Option Func) (args : List Arg) (to' : Option Dest) (m : ℕ)
        → P (call_items inside o args to' m)
    call_composed None args to' m = h.none
    call_composed (Some g) args to' m = h.call g args to' m (inside g.body) (bodies g.body)

    layer_composed : (y : Stmt-F Composed)
        → P (items_step funcs inside (map-Stmt Stmt (Items → Items) its (map-Stmt Composed Stmt (λ e. e.0) y)))
    layer_composed (Do-F a line) = act_composed P h.act h.leave funcs a line
    layer_composed (Branch-F c x y) =
        h.branch (test_of c) (all_before (map its (bare x))) (all_before (map its (bare y))) (each_composed x)
        (each_composed y)
    layer_composed (While-F c b) =
        h.loop (test_of c) (λ r. r) (all_before (map its (bare b))) h.none (each_composed b)
    layer_composed (DoWhile-F c b) = h.do_loop (test_of c) (all_before (map its (bare b))) (each_composed b)
    layer_composed (For-F c n b) =
        h.loop (test_of c) (all_before (map its (bare n))) (all_before (map its (bare b))) (each_composed n)
        (each_composed b)
    layer_composed (Group-F b ps ds m) =
        h.both (all_before (map its (bare b))) (closes ps ds m) (each_composed b) (closes_composed ps ds m)
    layer_composed (Call-F f args to' line) = call_composed (slice_get funcs f) args to' line

    stmt_composed : (s : Stmt) → P (its s)
    stmt_composed = ind-Stmt (λ s. P (its s)) (λ x y is.
        subst P (sym (fold-roll-Stmt (Items → Items) (items_step funcs inside) x))
        (subst (λ z. P (items_step funcs inside (map-Stmt Stmt (Items → Items) its z))) is (layer_composed y)))

    pub all_composed : (ss : List Stmt) → P (all_before (map its ss))
    all_composed [] = h.none
    all_composed (s ∷ ss) = h.both (its s) (all_before (map its ss)) (stmt_composed s) (all_composed ss)

  -- a called function's body, however deep calls are followed
  pub body_composed : (funcs : List Func) (n : ℕ) (b : List Stmt) → P (body_within funcs n b)
  body_composed funcs zero b = h.none
  body_composed funcs (suc n) b = all_composed funcs (body_within funcs n) (body_composed funcs n) b

  -- statements, however deep calls are followed
  pub stmt_within : (funcs : List Func) (n : ℕ) (s : Stmt) → P (items_by funcs (body_within funcs n) s)
  stmt_within funcs n = stmt_composed funcs (body_within funcs n) (body_composed funcs n)

  pub all_within : (funcs : List Func) (n : ℕ) (ss : List Stmt)
      → P (all_before (map (items_by funcs (body_within funcs n)) ss))
  all_within funcs n = all_composed funcs (body_within funcs n) (body_composed funcs n)
