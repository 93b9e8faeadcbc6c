-- `break` and `continue`, and `return` of a function, on the machine's stack.
use Rattle.std.proofs.Common.{◌≡◌, ℕ, List, [], ◌∷◌, Bool, true, false, map, length, slice_get, refl, Option, sym, ap}
use Rattle.std.proofs.Common.{◌∙◌, subst}
use Rattle.fore_base.specs.declared.store.Store.{Store}
use Rattle.fore_base.specs.Stores.{kill}
use Rattle.c_types.specs.declared.program.Act.{Act}
use Rattle.c_types.specs.declared.program.Cond.{Cond}
use Rattle.c_types.specs.declared.program.Func.{Func}
use Rattle.c_types.specs.declared.program.Stmt.{Stmt, Stmt-F, map-Stmt, roll-Stmt, ind-Stmt, fold-roll-Stmt}
use Rattle.c_types.specs.declared.program.Stmt.TheVariants.{Do as StmtDo, Branch, While, DoWhile, For, Group, rolls-Do}
use Rattle.c_types.specs.declared.program.Stmt.TheVariants.{rolls-Branch, rolls-While, rolls-DoWhile, rolls-For}
use Rattle.c_types.specs.declared.program.Stmt.TheVariants.{rolls-Group, Call, rolls-Call}
use Rattle.c_types.specs.declared.program.VarRef.{VarRef}
use Rattle.c_types.specs.declared.program.Arg.{Arg}
use Rattle.c_types.specs.declared.program.Dest.{Dest}
use Rattle.c_types.proofs.Composing.{act_composed}
use Rattle.c_types.proofs.OwnEnds.{closes_own, leaves_past, closes_no_again, all_no_again, call_hides}
use Rattle.c_types.specs.declared.program.Stmt.TheOpen.{Do as Do-F, Branch as Branch-F, While as While-F}
use Rattle.c_types.specs.declared.program.Stmt.TheOpen.{DoWhile as DoWhile-F, For as For-F, Group as Group-F}
use Rattle.c_types.specs.declared.program.Stmt.TheOpen.{Call as Call-F}
use Rattle.c_types.specs.Control.{Items, Done, Loop, Exit, Test, from_exit, closed_ptrs}
use Rattle.c_types.specs.Control.{closed_datums, all_before, closes, call_items, items_step, items_by, body_within}
use Rattle.c_acts.proofs.Dying.{kill_merged}
use Rattle.c_machine.specs.Pending.{in_order, ends_in_each, ends_step, ends_of, ends_among}
use Rattle.c_machine.specs.declared.items.Body.{Body}
use Rattle.c_machine.specs.Pending.{block, leaving, left_round}

-- Statements

pub leaving_closes : (ps ds : List ℕ) (m : ℕ) (r : Items) (s : Store) → leaving (closes ps ds m r) s
    ≡ leaving r (kill ps ds s)
leaving_closes [] [] m r s = refl
leaving_closes [] (d ∷ ds) m r s = kill_merged [] (closed_ptrs r) (d ∷ ds) (closed_datums r) s
leaving_closes (p ∷ ps) ds m r s = kill_merged (p ∷ ps) (closed_ptrs r) ds (closed_datums r) s

-- what is said of a statement's items before others
abbrev Dies : (Items → Items) → (Store → Store) → Type 0
Dies f ends = (r : Items) (s : Store) → leaving (f r) s ≡ leaving r (ends s)

module _ (funcs : List Func) (deep : ℕ) where
  abbrev its : Stmt → Items → Items
  its = items_by funcs (body_within funcs deep)

  abbrev DiesAs : Stmt → Type 0
  DiesAs s = Dies (its s) (ends_of s)

  abbrev bare : List ((s : Stmt) × DiesAs s) → List Stmt
  bare es = map (λ e. e.0) es

  each_dies : (es : List ((s : Stmt) × DiesAs s))
      → Dies (all_before (map its (bare es))) (ends_in_each (map ends_of (bare es)))
  each_dies [] r s = refl
  each_dies (e ∷ es) r s = e.1 (all_before (map its (bare es)) r) s ∙ each_dies es r (ends_of e.0 s)

  -- a call that is still to come
  call_dies : (o : Option Func) (args : List Arg) (to' : Option Dest) (m : ℕ)
      → Dies (call_items (body_within funcs deep) o args to' m) (λ s. s)
  call_dies o args to' m r s =
      let own = call_items (body_within funcs deep) o args to' m r in
      ap (λ ps. kill ps (closed_datums own) s) (call_hides funcs deep o args to' m (λ ps ds. ps) r)
      ∙ ap (λ ds. kill (closed_ptrs r) ds s) (call_hides funcs deep o args to' m (λ ps ds. ds) r)

  abbrev LayerDies : Stmt-F Stmt → Type 0
  LayerDies y = Dies (items_step funcs (body_within funcs deep) (map-Stmt Stmt (Items → Items) its y))
      (ends_step (map-Stmt Stmt (Store → Store) ends_of y))

  layer_dies : (y : Stmt-F ((s : Stmt) × DiesAs s)) → LayerDies (map-Stmt ((s : Stmt) × DiesAs s) Stmt (λ e. e.0) y)
  layer_dies (Do-F a line) r s =
      act_composed (λ f. Dies f (λ t. t)) (λ b m q t. refl) (λ g b m q t. refl) funcs a line r s
  layer_dies (Group-F b ps ds m) r s =
      each_dies b (closes ps ds m r) s ∙ leaving_closes ps ds m r (ends_in_each (map ends_of (bare b)) s)
  layer_dies (Call-F f args to' line) r s = call_dies (slice_get funcs f) args to' line r s
  layer_dies _ r s = refl

  stmt_dies : (s : Stmt) → DiesAs s
  stmt_dies = ind-Stmt DiesAs (λ x y is.
      let here : LayerDies x = subst LayerDies is (layer_dies y) in
      subst (λ f. Dies f (ends_of (roll-Stmt x)))
      (sym (fold-roll-Stmt (Items → Items) (items_step funcs (body_within funcs deep)) x))
      (subst (λ f. Dies (items_step funcs (body_within funcs deep) (map-Stmt Stmt (Items → Items) its x)) f)
      (sym (fold-roll-Stmt (Store → Store) ends_step x)) here))

  all_die : (ss : List Stmt) → Dies (all_before (map its ss)) (ends_in_each (map ends_of ss))
  all_die [] r s = refl
  all_die (x ∷ xs) r s = stmt_dies x (all_before (map its xs) r) s ∙ all_die xs r (ends_of x s)

pub block_dies : (funcs : List Func) (ss : List Stmt) (r : Items) (s : Store) → leaving (in_order funcs ss r) s
    ≡ leaving r (ends_among ss s)
unfolding in_order
block_dies funcs ss r s = all_die funcs (length funcs) ss r s

pub block_goes : (funcs : List Func) (ss : List Stmt) (goes_on : Bool) (r : Items)
    → left_round goes_on (in_order funcs ss r) ≡ left_round goes_on r
unfolding in_order
block_goes funcs ss true r = (all_no_again funcs (length funcs) ss).from r
block_goes funcs ss false r = (all_no_again funcs (length funcs) ss).after r

pub closes_goes : (ps ds : List ℕ) (m : ℕ) (goes_on : Bool) (r : Items) → left_round goes_on (closes ps ds m r)
    ≡ left_round goes_on r
closes_goes ps ds m true r = (closes_no_again ps ds m).from r
closes_goes ps ds m false r = (closes_no_again ps ds m).after r

pub loop_goes : (c : Test) (n b : Items) (goes_on : Bool) (r : Items) → left_round goes_on (Loop c n b r)
    ≡ left_round goes_on r
loop_goes c n b true r = refl
loop_goes c n b false r = refl

pub exit_goes : (v : Option VarRef) (vs : List VarRef) (d : Option Dest) (m : ℕ) (goes_on : Bool) (r : Items)
    → left_round goes_on (Exit v vs d m r) ≡ left_round goes_on r
exit_goes v vs d m true r = refl
exit_goes v vs d m false r = refl

pub round_done : (goes_on : Bool) → left_round goes_on Done ≡ Done
round_done true = refl
round_done false = refl

-- The end of a call

pub body_stays : (b : Body) (r : Items) → from_exit (block b r) ≡ from_exit r
unfolding in_order
body_stays b r = leaves_past b.program.now.funcs b.stmts.now r

pub closes_stay : (ps ds : List ℕ) (m : ℕ) (r : Items) → from_exit (closes ps ds m r) ≡ from_exit r
closes_stay ps ds m r = closes_own ps ds m 0 r

-- The blocks among statements

rolled : (x : Stmt-F Stmt) (s : Store) → ends_of (roll-Stmt x) s ≡ ends_step (map-Stmt Stmt (Store → Store) ends_of x) s
rolled x s = ap (λ f. f s) (fold-roll-Stmt (Store → Store) ends_step x)

pub ends-Do : (a : Act) (line : ℕ) (s : Store) → ends_of (StmtDo a line) s ≡ s
ends-Do a line s = ap (λ x. ends_of x s) (sym (rolls-Do a line)) ∙ rolled (Do-F a line) s

pub ends-Branch : (c : Cond) (x y : List Stmt) (s : Store) → ends_of (Branch c x y) s ≡ s
ends-Branch c x y s = ap (λ z. ends_of z s) (sym (rolls-Branch c x y)) ∙ rolled (Branch-F c x y) s

pub ends-While : (c : Cond) (b : List Stmt) (s : Store) → ends_of (While c b) s ≡ s
ends-While c b s = ap (λ z. ends_of z s) (sym (rolls-While c b)) ∙ rolled (While-F c b) s

pub ends-DoWhile : (c : Cond) (b : List Stmt) (s : Store) → ends_of (DoWhile c b) s ≡ s
ends-DoWhile c b s = ap (λ z. ends_of z s) (sym (rolls-DoWhile c b)) ∙ rolled (DoWhile-F c b) s

pub ends-For : (c : Cond) (n b : List Stmt) (s : Store) → ends_of (For c n b) s ≡ s
ends-For c n b s = ap (λ z. ends_of z s) (sym (rolls-For c n b)) ∙ rolled (For-F c n b) s

pub ends-Group : (b : List Stmt) (ps ds : List ℕ) (m : ℕ) (s : Store) → ends_of (Group b ps ds m) s
    ≡ kill ps ds (ends_among b s)
ends-Group b ps ds m s = ap (λ z. ends_of z s) (sym (rolls-Group b ps ds m)) ∙ rolled (Group-F b ps ds m) s

pub ends-Call : (f : ℕ) (args : List Arg) (to' : Option Dest) (line : ℕ) (s : Store)
    → ends_of (Call f args to' line) s ≡ s
ends-Call f args to' line s = ap (λ z. ends_of z s) (sym (rolls-Call f args to' line))
    ∙ rolled (Call-F f args to' line) s

pub ruleset ends = (ends-Do, ends-Branch, ends-While, ends-DoWhile, ends-For, ends-Group, ends-Call)

pub ruleset leaves = (block_dies, block_goes, leaving_closes, closes_goes, loop_goes, exit_goes, round_done)

pub ruleset returns = (body_stays, closes_stay)
