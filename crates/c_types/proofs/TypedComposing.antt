-- Facts of what stands before other items, as in Composing, of the items of a typed program: each form of items has to
-- have the fact only where it is one of the program's.
use Rattle.std.proofs.Common.{◌≡◌, ℕ, zero, suc, Bool, true, true≢false, ◌&&◌, Option, Some, None, is_none, List, []}
use Rattle.std.proofs.Common.{◌∷◌, length, map, slice_get, refl, sym, ap, ◌∙◌, subst}
use Rattle.std.proofs.lemmas.Bool.{and_parts}
use Rattle.fore_base.specs.Lists.{IsIn}
use Rattle.fore_base.proofs.NameLemmas.{in_at}
use Rattle.c_types.specs.declared.program.Act.{Act}
use Rattle.c_types.specs.declared.program.Act.TheVariants.{SetPtr, SetData, Free, Error, Halt, Return, Break, Continue}
use Rattle.c_types.specs.declared.program.Act.TheVariants.{Leave as LeaveAct}
use Rattle.c_types.specs.declared.program.Arg.{Arg}
use Rattle.c_types.specs.declared.program.Dest.{Dest}
use Rattle.c_types.specs.declared.program.Func.{Func}
use Rattle.c_types.specs.declared.program.Cond.{Cond}
use Rattle.c_types.specs.declared.program.Stmt.{Stmt, Stmt-F, roll-Stmt, map-Stmt, fold-roll-Stmt, ind-Stmt}
use Rattle.c_types.specs.declared.program.Stmt.TheOpen.{Do as Do-F, Branch as Branch-F, While as While-F}
use Rattle.c_types.specs.declared.program.Stmt.TheOpen.{DoWhile as DoWhile-F, For as For-F, Group as Group-F}
use Rattle.c_types.specs.declared.program.Stmt.TheOpen.{Call as Call-F}
use Rattle.c_types.specs.Program.{Program, Spot, Outside, InNext, body_of, is_home, all_below, act_typed, cond_typed}
use Rattle.c_types.specs.Program.{args_typed, to_typed, returns_typed, call_typed, each_typed, stmt_typed_step}
use Rattle.c_types.specs.Program.{stmt_typed, is_typed}
use Rattle.c_types.specs.Control.{Items, Done, Do, Close, If, Loop, DoLoop, Enter, Leave, Exit, test_of, all_before}
use Rattle.c_types.specs.Control.{closes, leave_items, act_items, call_items, items_step, items_by, body_within}
use Rattle.c_types.specs.Control.{items_of}
use Rattle.c_types.specs.Fits.{ActFits, EnterFits, LeaveFits, ExitFits}
use Rattle.c_types.proofs.WellTyped.{has_body_typed, own_body}

-- a condition is one of the program's
abbrev pub CondFits : Program → Cond → Type 0
CondFits p c = cond_typed p.shapes.structs p.vars (length p.data_vars) c ≡ true

-- each form of the program's items has the fact, and what is put together of two that have it
pub record ComposesTyped (p : Program) (P : (Items → Items) → Type 0) : Type 0 where
  pub none : P (λ r. r)
  pub both : (f g : Items → Items) → P f → P g → P (λ r. f (g r))
  pub act : (a : Act) (m : ℕ) → ActFits p a → P (Do a m)
  pub close : (ps ds : List ℕ) (m : ℕ) → all_below (length p.vars) ps ≡ true
      → all_below (length p.data_vars) ds ≡ true → P (Close ps ds m)
  pub branch : (c : Cond) (f g : Items → Items) → CondFits p c → P f → P g → P (If (test_of c) (f Done) (g Done))
  pub loop : (c : Cond) (f g : Items → Items) → CondFits p c → P f → P g → P (Loop (test_of c) (f Done) (g Done))
  pub do_loop : (c : Cond) (f : Items → Items) → CondFits p c → P f → P (DoLoop (test_of c) (f Done))
  pub leave : (g : Func) (value : Option Arg) (m : ℕ) → LeaveFits p g.result g.locals value
      → P (Leave g.result g.locals value m)
  pub call : (g : Func) (args : List Arg) (to' : Option Dest) (m : ℕ) (f : Items → Items)
      → EnterFits p g.params args → ExitFits p g.result g.params to' → P f
      → P (λ r. Enter g.params args m (f (Exit g.result g.params to' m r)))

module _ (p : Program) (P : (Items → Items) → Type 0) (h : ComposesTyped p P) where
  abbrev typed : Option ℕ → Stmt → Spot → Bool
  typed = stmt_typed p.shapes.structs p.vars (length p.data_vars) p.funcs

  abbrev typed_step : Option ℕ → Stmt-F (Spot → Bool) → Spot → Bool
  typed_step = stmt_typed_step p.shapes.structs p.vars (length p.data_vars) p.funcs

  abbrev each : List (Spot → Bool) → Spot → Bool
  each = each_typed p.shapes.structs p.vars (length p.data_vars)

  abbrev has_typed : Cond → Bool
  has_typed = cond_typed p.shapes.structs p.vars (length p.data_vars)

  closes_composed : (ps ds : List ℕ) (m : ℕ) → all_below (length p.vars) ps ≡ true
      → all_below (length p.data_vars) ds ≡ true → P (closes ps ds m)
  closes_composed [] [] m hp hd = h.none
  closes_composed [] (d ∷ ds) m hp hd = h.close [] (d ∷ ds) m hp hd
  closes_composed (q ∷ ps) ds m hp hd = h.close (q ∷ ps) ds m hp hd

  leave_composed : (o : Option Func) (f : ℕ) (value : Option Arg) (m : ℕ) → slice_get p.funcs f ≡ o
      → returns_typed p.shapes.structs p.vars (length p.data_vars) o value ≡ true → P (leave_items o f value m)
  leave_composed None f value m got e = absurd (true≢false (sym e))
  leave_composed (Some g) f value m got e = h.leave g value m
      (record { func = g; is_there = in_at p.funcs f g got; result_is = refl; locals_are = refl; value_fits = e })

  act_composed : (home : Option ℕ) (a : Act) (spot : Spot) (m : ℕ)
      → act_typed p.shapes.structs p.vars (length p.data_vars) p.funcs home a spot ≡ true → P (act_items p.funcs a m)
  act_composed home (SetPtr to from) spot m e = h.act (SetPtr to from) m e
  act_composed home (SetData to from) spot m e = h.act (SetData to from) m e
  act_composed home (Free q) spot m e = h.act (Free q) m e
  act_composed home Error spot m e = h.act Error m e
  act_composed home Halt spot m e = h.act Halt m e
  act_composed home (Return operand) spot m e = h.act (Return operand) m (and_parts (is_none home) _ e).1
  act_composed home (LeaveAct f value) spot m e =
      leave_composed (slice_get p.funcs f) f value m refl
      (and_parts (is_home home f)
      (returns_typed p.shapes.structs p.vars (length p.data_vars) (slice_get p.funcs f) value) e).1
  act_composed home Break spot m e = h.act Break m refl
  act_composed home Continue spot m e = h.act Continue m refl

  -- the bodies of the program's functions have the fact
  abbrev InsideHas : (List Stmt → Items → Items) → Type 0
  InsideHas inside = (g : Func) → IsIn g p.funcs → P (inside g.body)

  module _ (inside : List Stmt → Items → Items) (bodies : InsideHas inside) where
    abbrev its : Stmt → Items → Items
    its = items_by p.funcs inside

    call_composed : (o : Option Func) (f : ℕ) (args : List Arg) (to' : Option Dest) (m : ℕ)
        → slice_get p.funcs f ≡ o → call_typed p.shapes.structs p.vars (length p.data_vars) o args to' ≡ true
        → P (call_items inside o args to' m)
    call_composed None f args to' m got e = h.none
    call_composed (Some g) f args to' m got e =
        let there : IsIn g p.funcs = in_at p.funcs f g got in
        let fits = and_parts (args_typed p.shapes.structs p.vars (length p.data_vars) g.params args)
        (to_typed p.shapes.structs p.vars (length p.data_vars) g.result to') e in
        h.call g args to' m (inside g.body)
        (record { func = g; is_there = there; params_are = refl; args_fit = fits.0 })
        (record { func = g; is_there = there; result_is = refl; params_are = refl; to_fits = fits.1 })
        (bodies g there)

    -- a typed statement's items have the fact
    abbrev StmtHas : Stmt → Type 0
    StmtHas s = (home : Option ℕ) (spot : Spot) → typed home s spot ≡ true → P (its s)

    abbrev Known : Type 0
    Known = (s : Stmt) × StmtHas s

    abbrev bare : List Known → List Stmt
    bare ss = map (λ e. e.0) ss

    each_composed : (home : Option ℕ) (ss : List Known) (spot : Spot)
        → each (map (typed home) (bare ss)) spot ≡ true → P (all_before (map its (bare ss)))
    each_composed home [] spot e = h.none
    each_composed home (s ∷ ss) spot e =
        let fits = and_parts (typed home s.0 spot) (each (map (typed home) (bare ss)) spot) e in
        h.both (its s.0) (all_before (map its (bare ss))) (s.1 home spot fits.0) (each_composed home ss spot fits.1)

    layer_composed : (home : Option ℕ) (y : Stmt-F Known) (spot : Spot)
        → typed_step home (map-Stmt Stmt (Spot → Bool) (typed home) (map-Stmt Known Stmt (λ e. e.0) y)) spot ≡ true
        → P (items_step p.funcs inside (map-Stmt Stmt (Items → Items) its (map-Stmt Known Stmt (λ e. e.0) y)))
    layer_composed home (Do-F a line) spot e = act_composed home a spot line e
    layer_composed home (Branch-F c x y) spot e =
        let xs : Bool = each (map (typed home) (bare x)) spot in
        let ys : Bool = each (map (typed home) (bare y)) spot in
        let fits = and_parts (has_typed c) (xs && ys) e in
        let sides = and_parts xs ys fits.1 in
        h.branch c (all_before (map its (bare x))) (all_before (map its (bare y))) fits.0
        (each_composed home x spot sides.0) (each_composed home y spot sides.1)
    layer_composed home (While-F c b) spot e =
        let fits = and_parts (has_typed c) (each (map (typed home) (bare b)) (body_of spot)) e in
        h.loop c (λ r. r) (all_before (map its (bare b))) fits.0 h.none (each_composed home b (body_of spot) fits.1)
    layer_composed home (DoWhile-F c b) spot e =
        let fits = and_parts (has_typed c) (each (map (typed home) (bare b)) (body_of spot)) e in
        h.do_loop c (all_before (map its (bare b))) fits.0 (each_composed home b (body_of spot) fits.1)
    layer_composed home (For-F c n b) spot e =
        let ns : Bool = each (map (typed home) (bare n)) InNext in
        let bs : Bool = each (map (typed home) (bare b)) (body_of spot) in
        let fits = and_parts (has_typed c) (ns && bs) e in
        let sides = and_parts ns bs fits.1 in
        h.loop c (all_before (map its (bare n))) (all_before (map its (bare b))) fits.0
        (each_composed home n InNext sides.0) (each_composed home b (body_of spot) sides.1)
    layer_composed home (Group-F b ps ds m) spot e =
        let bs : Bool = each (map (typed home) (bare b)) spot in
        let fits = and_parts bs (all_below (length p.vars) ps && all_below (length p.data_vars) ds) e in
        let sides = and_parts (all_below (length p.vars) ps) (all_below (length p.data_vars) ds) fits.1 in
        h.both (all_before (map its (bare b))) (closes ps ds m) (each_composed home b spot fits.0)
        (closes_composed ps ds m sides.0 sides.1)
    layer_composed home (Call-F f args to' line) spot e =
        call_composed (slice_get p.funcs f) f args to' line refl e

    rolled_composed : (x : Stmt-F Stmt) (y : Stmt-F Known) → map-Stmt Known Stmt (λ e. e.0) y ≡ x
        → StmtHas (roll-Stmt x)
    rolled_composed x y is home spot e =
        let z : Stmt-F Stmt = map-Stmt Known Stmt (λ w. w.0) y in
        let here : typed_step home (map-Stmt Stmt (Spot → Bool) (typed home) z) spot ≡ true =
        ap (λ w. typed_step home (map-Stmt Stmt (Spot → Bool) (typed home) w) spot) is
        ∙ sym (ap (λ f. f spot) (fold-roll-Stmt (Spot → Bool) (typed_step home) x)) ∙ e in
        subst P (ap (λ w. items_step p.funcs inside (map-Stmt Stmt (Items → Items) its w)) is
        ∙ sym (fold-roll-Stmt (Items → Items) (items_step p.funcs inside) x))
        (layer_composed home y spot here)

    stmt_composed : (s : Stmt) → StmtHas s
    stmt_composed = ind-Stmt StmtHas rolled_composed

    all_composed : (home : Option ℕ) (ss : List Stmt) (spot : Spot) → each (map (typed home) ss) spot ≡ true
        → P (all_before (map its ss))
    all_composed home [] spot e = h.none
    all_composed home (s ∷ ss) spot e =
        let fits = and_parts (typed home s spot) (each (map (typed home) ss) spot) e in
        h.both (its s) (all_before (map its ss)) (stmt_composed s home spot fits.0) (all_composed home ss spot fits.1)

  -- the items of the functions' bodies, however deep calls are followed
  within_composed : is_typed p ≡ true → (n : ℕ) → InsideHas (body_within p.funcs n)
  within_composed e zero g there = h.none
  within_composed e (suc n) g there =
      let at = own_body p e g there in
      all_composed (body_within p.funcs n) (within_composed e n) at.0 g.body Outside at.1

  -- the items with which a run begins
  pub start_composed : is_typed p ≡ true → P (all_before (map (items_of p.funcs) p.body))
  start_composed e =
      all_composed (body_within p.funcs (length p.funcs)) (within_composed e (length p.funcs)) None p.body Outside
      (has_body_typed p e)
