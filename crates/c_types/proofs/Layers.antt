-- What the definitions by folds are on each statement and each condition: one equation for each kind.
use Rattle.std.proofs.Common.{◌≡◌, ℕ, Bool, ◌&&◌, ◌++◌, Option, List, [], ◌∷◌, map, length, slice_get, ap, ◌∙◌}
use Rattle.std.specs.List.{flat_map}
use Rattle.fore_base.specs.declared.shape.Shape.{Shape}
use Rattle.c_types.specs.declared.program.VarRef.{VarRef}
use Rattle.c_types.specs.declared.program.VarRef.TheVariants.{Ptr as PtrVar, Data as DatumVar}
use Rattle.c_types.specs.declared.program.Arg.{Arg}
use Rattle.c_types.specs.declared.program.Dest.{Dest}
use Rattle.c_types.specs.declared.program.Func.{Func}
use Rattle.c_types.specs.declared.program.Act.{Act}
use Rattle.c_types.specs.declared.program.Atom.{Atom as AtomPart}
use Rattle.c_types.specs.declared.program.VarDef.{VarDef}
use Rattle.c_types.specs.declared.program.Cond.{Cond, Cond-F, out-Cond, map-Cond, fold-Cond, fold_out-Cond}
use Rattle.c_types.specs.declared.program.Cond.TheVariants.{Atom, Not, All, Any, outs-Atom, outs-Not, outs-All}
use Rattle.c_types.specs.declared.program.Cond.TheVariants.{outs-Any}
use Rattle.c_types.specs.declared.program.Stmt.{Stmt, Stmt-F, out-Stmt, map-Stmt, fold-Stmt, fold_out-Stmt}
use Rattle.c_types.specs.declared.program.Stmt.TheVariants.{Do, Branch, While, DoWhile, For, Group, outs-Do}
use Rattle.c_types.specs.declared.program.Stmt.TheVariants.{outs-Branch, outs-While, outs-DoWhile, outs-For, outs-Group}
use Rattle.c_types.specs.declared.program.Stmt.TheVariants.{Call, outs-Call}
use Rattle.c_types.specs.Bodies.{in_turn, act_names, cond_names, arg_names, dest_names, maybe_names, cond_names_step}
use Rattle.c_types.specs.Bodies.{atom_names, stmt_names, stmt_names_step, stmt_declares, declares_step, stmt_calls}
use Rattle.c_types.specs.Bodies.{calls_step}
use Rattle.c_types.specs.Program.{Spot, InNext, body_of, all_below, act_typed, atom_typed, parts_typed, cond_typed}
use Rattle.c_types.specs.Program.{cond_typed_step, each_typed, call_typed, stmt_typed, stmt_typed_step}
use Rattle.c_types.specs.Control.{Test, Ask, Not as NotTest, Both, Either, Items, Done, If, Loop, DoLoop}
use Rattle.c_types.specs.Control.{joined, test_step, test_of, all_before, closes, act_items, call_items, items_step}
use Rattle.c_types.specs.Control.{items_by}

-- a fold on a condition or a statement whose outer part is known
pub cond_folded : (A : Type 0) (step : Cond-F A → A) (c : Cond) (y : Cond-F Cond) → out-Cond c ≡ y → fold-Cond A step c
    ≡ step (map-Cond Cond A (fold-Cond A step) y)
cond_folded A step c y is = fold_out-Cond A step c ∙ ap (λ z. step (map-Cond Cond A (fold-Cond A step) z)) is

pub stmt_folded : (A : Type 0) (step : Stmt-F A → A) (s : Stmt) (y : Stmt-F Stmt) → out-Stmt s ≡ y → fold-Stmt A step s
    ≡ step (map-Stmt Stmt A (fold-Stmt A step) y)
stmt_folded A step s y is = fold_out-Stmt A step s ∙ ap (λ z. step (map-Stmt Stmt A (fold-Stmt A step) z)) is

-- Tests

pub test-Atom : (a : AtomPart) (line : ℕ) → test_of (Atom a line) ≡ Ask a line
test-Atom a line = cond_folded Test test_step (Atom a line) _ (outs-Atom a line)

pub test-Not : (c : Cond) → test_of (Not c) ≡ NotTest (test_of c)
test-Not c = cond_folded Test test_step (Not c) _ (outs-Not c)

pub test-All : (cs : List Cond) → test_of (All cs) ≡ joined Both (map test_of cs)
test-All cs = cond_folded Test test_step (All cs) _ (outs-All cs)

pub test-Any : (cs : List Cond) → test_of (Any cs) ≡ joined Either (map test_of cs)
test-Any cs = cond_folded Test test_step (Any cs) _ (outs-Any cs)

-- Items, whatever the functions are and whatever the items of their bodies

module _ (funcs : List Func) (inside : List Stmt → Items → Items) where
  abbrev its : Stmt → Items → Items
  its = items_by funcs inside

  by_items : (s : Stmt) (y : Stmt-F Stmt) (r : Items) → out-Stmt s ≡ y
      → items_by funcs inside s r ≡ items_step funcs inside (map-Stmt Stmt (Items → Items) its y) r
  by_items s y r is = ap (λ f. f r) (stmt_folded (Items → Items) (items_step funcs inside) s y is)

  pub by-Do : (a : Act) (line : ℕ) (r : Items) → items_by funcs inside (Do a line) r ≡ act_items funcs a line r
  by-Do a line r = by_items (Do a line) _ r (outs-Do a line)

  pub by-Branch : (c : Cond) (x y : List Stmt) (r : Items) → items_by funcs inside (Branch c x y) r
      ≡ If (test_of c) (all_before (map (items_by funcs inside) x) Done)
      (all_before (map (items_by funcs inside) y) Done) r
  by-Branch c x y r = by_items (Branch c x y) _ r (outs-Branch c x y)

  pub by-While : (c : Cond) (b : List Stmt) (r : Items) → items_by funcs inside (While c b) r
      ≡ Loop (test_of c) Done (all_before (map (items_by funcs inside) b) Done) r
  by-While c b r = by_items (While c b) _ r (outs-While c b)

  pub by-DoWhile : (c : Cond) (b : List Stmt) (r : Items) → items_by funcs inside (DoWhile c b) r
      ≡ DoLoop (test_of c) (all_before (map (items_by funcs inside) b) Done) r
  by-DoWhile c b r = by_items (DoWhile c b) _ r (outs-DoWhile c b)

  pub by-For : (c : Cond) (n b : List Stmt) (r : Items) → items_by funcs inside (For c n b) r
      ≡ Loop (test_of c) (all_before (map (items_by funcs inside) n) Done)
      (all_before (map (items_by funcs inside) b) Done) r
  by-For c n b r = by_items (For c n b) _ r (outs-For c n b)

  pub by-Group : (b : List Stmt) (ps ds : List ℕ) (close : ℕ) (r : Items)
      → items_by funcs inside (Group b ps ds close) r
      ≡ all_before (map (items_by funcs inside) b) (closes ps ds close r)
  by-Group b ps ds close r = by_items (Group b ps ds close) _ r (outs-Group b ps ds close)

  pub by-Call : (f : ℕ) (args : List Arg) (to' : Option Dest) (line : ℕ) (r : Items)
      → items_by funcs inside (Call f args to' line) r ≡ call_items inside (slice_get funcs f) args to' line r
  by-Call f args to' line r = by_items (Call f args to' line) _ r (outs-Call f args to' line)

pub ruleset layers = (
  test-Atom,
  test-Not,
  test-All,
  test-Any,
  by-Do,
  by-Branch,
  by-While,
  by-DoWhile,
  by-For,
  by-Group,
  by-Call,
)

-- Typing

module _ (shapes : List Shape) (vars : List VarDef) (datums : ℕ) where
  pub typed-Atom : (a : AtomPart) (line : ℕ) → cond_typed shapes vars datums (Atom a line)
      ≡ atom_typed shapes vars datums a
  typed-Atom a line = cond_folded Bool (cond_typed_step shapes vars datums) (Atom a line) _ (outs-Atom a line)

  pub typed-Not : (c : Cond) → cond_typed shapes vars datums (Not c) ≡ cond_typed shapes vars datums c
  typed-Not c = cond_folded Bool (cond_typed_step shapes vars datums) (Not c) _ (outs-Not c)

  pub typed-All : (cs : List Cond) → cond_typed shapes vars datums (All cs)
      ≡ parts_typed shapes vars datums (map (cond_typed shapes vars datums) cs)
  typed-All cs = cond_folded Bool (cond_typed_step shapes vars datums) (All cs) _ (outs-All cs)

  pub typed-Any : (cs : List Cond) → cond_typed shapes vars datums (Any cs)
      ≡ parts_typed shapes vars datums (map (cond_typed shapes vars datums) cs)
  typed-Any cs = cond_folded Bool (cond_typed_step shapes vars datums) (Any cs) _ (outs-Any cs)

  module _ (funcs : List Func) (home : Option ℕ) where
    abbrev typed : Stmt → Spot → Bool
    typed = stmt_typed shapes vars datums funcs home

    abbrev each : List Stmt → Spot → Bool
    each ss = each_typed shapes vars datums (map typed ss)

    by_typed : (s : Stmt) (y : Stmt-F Stmt) (spot : Spot) → out-Stmt s ≡ y → typed s spot
        ≡ stmt_typed_step shapes vars datums funcs home (map-Stmt Stmt (Spot → Bool) typed y) spot
    by_typed s y spot is =
        ap (λ f. f spot) (stmt_folded (Spot → Bool) (stmt_typed_step shapes vars datums funcs home) s y is)

    pub typed-Do : (a : Act) (line : ℕ) (spot : Spot) → stmt_typed shapes vars datums funcs home (Do a line) spot
        ≡ act_typed shapes vars datums funcs home a spot
    typed-Do a line spot = by_typed (Do a line) _ spot (outs-Do a line)

    pub typed-Branch : (c : Cond) (x y : List Stmt) (spot : Spot)
        → stmt_typed shapes vars datums funcs home (Branch c x y) spot
        ≡ (cond_typed shapes vars datums c && (each x spot && each y spot))
    typed-Branch c x y spot = by_typed (Branch c x y) _ spot (outs-Branch c x y)

    pub typed-While : (c : Cond) (b : List Stmt) (spot : Spot)
        → stmt_typed shapes vars datums funcs home (While c b) spot
        ≡ (cond_typed shapes vars datums c && each b (body_of spot))
    typed-While c b spot = by_typed (While c b) _ spot (outs-While c b)

    pub typed-DoWhile : (c : Cond) (b : List Stmt) (spot : Spot)
        → stmt_typed shapes vars datums funcs home (DoWhile c b) spot
        ≡ (cond_typed shapes vars datums c && each b (body_of spot))
    typed-DoWhile c b spot = by_typed (DoWhile c b) _ spot (outs-DoWhile c b)

    pub typed-For : (c : Cond) (n b : List Stmt) (spot : Spot)
        → stmt_typed shapes vars datums funcs home (For c n b) spot
        ≡ (cond_typed shapes vars datums c && (each n InNext && each b (body_of spot)))
    typed-For c n b spot = by_typed (For c n b) _ spot (outs-For c n b)

    pub typed-Group : (b : List Stmt) (ps ds : List ℕ) (close : ℕ) (spot : Spot)
        → stmt_typed shapes vars datums funcs home (Group b ps ds close) spot
        ≡ (each b spot && (all_below (length vars) ps && all_below datums ds))
    typed-Group b ps ds close spot = by_typed (Group b ps ds close) _ spot (outs-Group b ps ds close)

    pub typed-Call : (f : ℕ) (args : List Arg) (to' : Option Dest) (line : ℕ) (spot : Spot)
        → stmt_typed shapes vars datums funcs home (Call f args to' line) spot
        ≡ call_typed shapes vars datums (slice_get funcs f) args to'
    typed-Call f args to' line spot = by_typed (Call f args to' line) _ spot (outs-Call f args to' line)

-- Names, declarations and calls

pub names-Atom : (a : AtomPart) (line : ℕ) → cond_names (Atom a line) ≡ atom_names a
names-Atom a line = cond_folded (List VarRef) cond_names_step (Atom a line) _ (outs-Atom a line)

pub names-Not : (c : Cond) → cond_names (Not c) ≡ cond_names c
names-Not c = cond_folded (List VarRef) cond_names_step (Not c) _ (outs-Not c)

pub names-All : (cs : List Cond) → cond_names (All cs) ≡ in_turn (map cond_names cs)
names-All cs = cond_folded (List VarRef) cond_names_step (All cs) _ (outs-All cs)

pub names-Any : (cs : List Cond) → cond_names (Any cs) ≡ in_turn (map cond_names cs)
names-Any cs = cond_folded (List VarRef) cond_names_step (Any cs) _ (outs-Any cs)

pub names-Do : (a : Act) (line : ℕ) → stmt_names (Do a line) ≡ act_names a
names-Do a line = stmt_folded (List VarRef) stmt_names_step (Do a line) _ (outs-Do a line)

pub names-Branch : (c : Cond) (x y : List Stmt) → stmt_names (Branch c x y)
    ≡ cond_names c ++ in_turn (map stmt_names x) ++ in_turn (map stmt_names y)
names-Branch c x y = stmt_folded (List VarRef) stmt_names_step (Branch c x y) _ (outs-Branch c x y)

pub names-While : (c : Cond) (b : List Stmt) → stmt_names (While c b) ≡ cond_names c ++ in_turn (map stmt_names b)
names-While c b = stmt_folded (List VarRef) stmt_names_step (While c b) _ (outs-While c b)

pub names-DoWhile : (c : Cond) (b : List Stmt) → stmt_names (DoWhile c b)
    ≡ cond_names c ++ in_turn (map stmt_names b)
names-DoWhile c b = stmt_folded (List VarRef) stmt_names_step (DoWhile c b) _ (outs-DoWhile c b)

pub names-For : (c : Cond) (n b : List Stmt) → stmt_names (For c n b)
    ≡ cond_names c ++ in_turn (map stmt_names n) ++ in_turn (map stmt_names b)
names-For c n b = stmt_folded (List VarRef) stmt_names_step (For c n b) _ (outs-For c n b)

pub names-Group : (b : List Stmt) (ps ds : List ℕ) (close : ℕ) → stmt_names (Group b ps ds close)
    ≡ in_turn (map stmt_names b)
names-Group b ps ds close = stmt_folded (List VarRef) stmt_names_step (Group b ps ds close) _ (outs-Group b ps ds close)

pub names-Call : (f : ℕ) (args : List Arg) (to' : Option Dest) (line : ℕ) → stmt_names (Call f args to' line)
    ≡ flat_map arg_names args ++ maybe_names dest_names to'
names-Call f args to' line =
    stmt_folded (List VarRef) stmt_names_step (Call f args to' line) _ (outs-Call f args to' line)

pub declares-Do : (a : Act) (line : ℕ) → stmt_declares (Do a line) ≡ []
declares-Do a line = stmt_folded (List VarRef) declares_step (Do a line) _ (outs-Do a line)

pub declares-Branch : (c : Cond) (x y : List Stmt) → stmt_declares (Branch c x y)
    ≡ in_turn (map stmt_declares x) ++ in_turn (map stmt_declares y)
declares-Branch c x y = stmt_folded (List VarRef) declares_step (Branch c x y) _ (outs-Branch c x y)

pub declares-While : (c : Cond) (b : List Stmt) → stmt_declares (While c b) ≡ in_turn (map stmt_declares b)
declares-While c b = stmt_folded (List VarRef) declares_step (While c b) _ (outs-While c b)

pub declares-DoWhile : (c : Cond) (b : List Stmt) → stmt_declares (DoWhile c b) ≡ in_turn (map stmt_declares b)
declares-DoWhile c b = stmt_folded (List VarRef) declares_step (DoWhile c b) _ (outs-DoWhile c b)

pub declares-For : (c : Cond) (n b : List Stmt) → stmt_declares (For c n b)
    ≡ in_turn (map stmt_declares n) ++ in_turn (map stmt_declares b)
declares-For c n b = stmt_folded (List VarRef) declares_step (For c n b) _ (outs-For c n b)

pub declares-Group : (b : List Stmt) (ps ds : List ℕ) (close : ℕ) → stmt_declares (Group b ps ds close)
    ≡ map (λ x. PtrVar x) ps ++ map (λ x. DatumVar x) ds ++ in_turn (map stmt_declares b)
declares-Group b ps ds close =
    stmt_folded (List VarRef) declares_step (Group b ps ds close) _ (outs-Group b ps ds close)

pub declares-Call : (f : ℕ) (args : List Arg) (to' : Option Dest) (line : ℕ)
    → stmt_declares (Call f args to' line) ≡ []
declares-Call f args to' line =
    stmt_folded (List VarRef) declares_step (Call f args to' line) _ (outs-Call f args to' line)

pub calls-Do : (a : Act) (line : ℕ) → stmt_calls (Do a line) ≡ []
calls-Do a line = stmt_folded (List ℕ) calls_step (Do a line) _ (outs-Do a line)

pub calls-Branch : (c : Cond) (x y : List Stmt) → stmt_calls (Branch c x y)
    ≡ in_turn (map stmt_calls x) ++ in_turn (map stmt_calls y)
calls-Branch c x y = stmt_folded (List ℕ) calls_step (Branch c x y) _ (outs-Branch c x y)

pub calls-While : (c : Cond) (b : List Stmt) → stmt_calls (While c b) ≡ in_turn (map stmt_calls b)
calls-While c b = stmt_folded (List ℕ) calls_step (While c b) _ (outs-While c b)

pub calls-DoWhile : (c : Cond) (b : List Stmt) → stmt_calls (DoWhile c b) ≡ in_turn (map stmt_calls b)
calls-DoWhile c b = stmt_folded (List ℕ) calls_step (DoWhile c b) _ (outs-DoWhile c b)

pub calls-For : (c : Cond) (n b : List Stmt) → stmt_calls (For c n b)
    ≡ in_turn (map stmt_calls n) ++ in_turn (map stmt_calls b)
calls-For c n b = stmt_folded (List ℕ) calls_step (For c n b) _ (outs-For c n b)

pub calls-Group : (b : List Stmt) (ps ds : List ℕ) (close : ℕ) → stmt_calls (Group b ps ds close)
    ≡ in_turn (map stmt_calls b)
calls-Group b ps ds close = stmt_folded (List ℕ) calls_step (Group b ps ds close) _ (outs-Group b ps ds close)

pub calls-Call : (f : ℕ) (args : List Arg) (to' : Option Dest) (line : ℕ) → stmt_calls (Call f args to' line)
    ≡ f ∷ []
calls-Call f args to' line = stmt_folded (List ℕ) calls_step (Call f args to' line) _ (outs-Call f args to' line)

pub ruleset typed_layers = (
  typed-Atom,
  typed-Not,
  typed-All,
  typed-Any,
  typed-Do,
  typed-Branch,
  typed-While,
  typed-DoWhile,
  typed-For,
  typed-Group,
  typed-Call,
  names-Atom,
  names-Not,
  names-All,
  names-Any,
  names-Do,
  names-Branch,
  names-While,
  names-DoWhile,
  names-For,
  names-Group,
  names-Call,
  declares-Do,
  declares-Branch,
  declares-While,
  declares-DoWhile,
  declares-For,
  declares-Group,
  declares-Call,
  calls-Do,
  calls-Branch,
  calls-While,
  calls-DoWhile,
  calls-For,
  calls-Group,
  calls-Call,
)
