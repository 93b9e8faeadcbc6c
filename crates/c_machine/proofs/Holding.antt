-- Which variables of the blocks that are left refer to a cell.
use Rattle.std.proofs.Common.{◌≡◌, ℕ, zero, suc, Bool, true, false, ◌||◌, nat_lt, if◌then◌else◌, List, [], ◌∷◌}
use Rattle.std.proofs.Common.{Option, slice_get}
use Rattle.std.proofs.Common.{◌++◌, map, length, take, slice_index_or, ◌≤◌, refl, sym, ap, ◌∙◌, subst, arith}
use Rattle.std.proofs.Math.Seq.{take-suc, take-length}
use Rattle.std.proofs.lemmas.List.{map-append}
use Rattle.fore_base.specs.declared.store.Value.{Value}
use Rattle.fore_base.specs.declared.store.Value.TheVariants.{Uninit}
use Rattle.c_types.specs.declared.program.Act.{Act}
use Rattle.c_types.specs.declared.program.Cond.{Cond}
use Rattle.c_types.specs.declared.program.Stmt.{Stmt, Stmt-F, map-Stmt, roll-Stmt, ind-Stmt, fold-roll-Stmt}
use Rattle.c_types.specs.declared.program.Stmt.TheVariants.{Do as StmtDo, Branch, While, DoWhile, For, Group, rolls-Do}
use Rattle.c_types.specs.declared.program.Stmt.TheVariants.{rolls-Branch, rolls-While, rolls-DoWhile, rolls-For}
use Rattle.c_types.specs.declared.program.Stmt.TheVariants.{rolls-Group, Call, rolls-Call}
use Rattle.c_types.specs.declared.program.Arg.{Arg}
use Rattle.c_types.specs.declared.program.Dest.{Dest}
use Rattle.c_types.specs.declared.program.Func.{Func}
use Rattle.c_types.specs.declared.program.VarRef.{VarRef}
use Rattle.c_types.specs.declared.program.VarRef.TheVariants.{Ptr as PtrVar, Data as DatumVar}
use Rattle.c_types.proofs.Composing.{act_composed}
use Rattle.c_types.proofs.OwnEnds.{call_hides}
use Rattle.fore_base.specs.declared.store.Store.{Store}
use Rattle.c_types.specs.declared.program.Stmt.TheOpen.{Do as Do-F, Branch as Branch-F, While as While-F}
use Rattle.c_types.specs.declared.program.Stmt.TheOpen.{DoWhile as DoWhile-F, For as For-F, Group as Group-F}
use Rattle.c_types.specs.declared.program.Stmt.TheOpen.{Call as Call-F}
use Rattle.c_types.specs.Control.{Items, insert, merged, closed_ptrs, all_before, closes, items_step}
use Rattle.c_types.specs.Control.{items_by, body_within, ptr_vars}
use Rattle.c_types.specs.Steps.{below}
use Rattle.c_types.specs.Losses.{is_cell, hold_cell, vars_hold}
use Rattle.c_machine.specs.declared.items.Item.{Item}
use Rattle.c_machine.specs.declared.items.Item.TheVariants.{Block}
use Rattle.c_machine.specs.declared.items.Body.{Body}
use Rattle.c_machine.specs.Pending.{in_order, before, pending}
use Rattle.c_machine.specs.inner.Losing.{some_true, held_step, held_in, held_among}
use Rattle.c_machine.proofs.Stacks.{onto_push}

or_assoc : (a b c : Bool) → (a || b) || c ≡ a || (b || c)
or_assoc true b c = refl
or_assoc false b c = refl

or_swap : (a b c : Bool) → a || (b || c) ≡ b || (a || c)
or_swap true true c = refl
or_swap _ _ c = refl

-- Variables in any order

hold_insert : (vs : List Value) (n : ℕ) (ms : List ℕ) → hold_cell vs (insert n ms)
    ≡ is_cell (slice_index_or vs n Uninit) || hold_cell vs ms
hold_insert vs n [] = refl
hold_insert vs n (m ∷ ms) = here (nat_lt n m) (hold_insert vs n ms)
  where
    here : (b : Bool) → hold_cell vs (insert n ms) ≡ is_cell (slice_index_or vs n Uninit) || hold_cell vs ms
        → hold_cell vs (if b then n ∷ (m ∷ ms) else m ∷ insert n ms) ≡ is_cell (slice_index_or vs n Uninit)
        || hold_cell vs (m ∷ ms)
    here true rest = refl
    here false rest = ap (λ b. is_cell (slice_index_or vs m Uninit) || b) rest
        ∙ or_swap (is_cell (slice_index_or vs m Uninit)) (is_cell (slice_index_or vs n Uninit)) (hold_cell vs ms)

pub hold_merged : (vs : List Value) (ns ms : List ℕ) → hold_cell vs (merged ns ms) ≡ hold_cell vs ns || hold_cell vs ms
hold_merged vs [] ms = refl
hold_merged vs (n ∷ ns) ms =
    hold_insert vs n (merged ns ms)
    ∙ ap (λ b. is_cell (slice_index_or vs n Uninit) || b) (hold_merged vs ns ms)
    ∙ sym (or_assoc (is_cell (slice_index_or vs n Uninit)) (hold_cell vs ns) (hold_cell vs ms))

or_end : (b : Bool) → b || false ≡ b
or_end true = refl
or_end false = refl

hold_last : (vs : List Value) (ns : List ℕ) (n : ℕ) → hold_cell vs (ns ++ n ∷ []) ≡ hold_cell vs ns
    || is_cell (slice_index_or vs n Uninit)
hold_last vs [] n = or_end (is_cell (slice_index_or vs n Uninit))
hold_last vs (m ∷ ms) n =
    ap (λ b. is_cell (slice_index_or vs m Uninit) || b) (hold_last vs ms n)
    ∙ sym (or_assoc (is_cell (slice_index_or vs m Uninit)) (hold_cell vs ms) (is_cell (slice_index_or vs n Uninit)))

-- All variables

some_last : (bs : List Bool) (b : Bool) → some_true (bs ++ b ∷ []) ≡ some_true bs || b
some_last [] b = or_end b
some_last (c ∷ bs) b = ap (λ x. c || x) (some_last bs b) ∙ sym (or_assoc c (some_true bs) b)

hold_taken : (vs : List Value) (n : ℕ) → n ≤ length vs → hold_cell vs (below n) ≡ some_true (map is_cell (take n vs))
hold_taken vs zero less = refl
hold_taken vs (suc n) less =
    let v : Value = slice_index_or vs n Uninit in
    hold_last vs (below n) n
    ∙ ap (λ b. b || is_cell v) (hold_taken vs n (omega (arith, less)))
    ∙ sym (some_last (map is_cell (take n vs)) (is_cell v))
    ∙ ap some_true (sym (map-append is_cell (take n vs) (v ∷ [])))
    ∙ ap (λ xs. some_true (map is_cell xs)) (sym (take-suc vs n Uninit (omega (arith, less))))

pub hold_all : (vs : List Value) → hold_cell vs (below (length vs)) ≡ some_true (map is_cell vs)
hold_all vs = hold_taken vs (length vs) (omega arith) ∙ ap (λ xs. some_true (map is_cell xs)) (take-length vs)

-- Statements

pub hold_closes : (vs : List Value) (ps ds : List ℕ) (m : ℕ) (r : Items) → hold_cell vs (closed_ptrs (closes ps ds m r))
    ≡ hold_cell vs ps || hold_cell vs (closed_ptrs r)
hold_closes vs [] [] m r = refl
hold_closes vs [] (d ∷ ds) m r = refl
hold_closes vs (p ∷ ps) ds m r = hold_merged vs (p ∷ ps) (closed_ptrs r)

module _ (vs : List Value) where
  -- what is said of a statement's items before others
  abbrev Holds : (Items → Items) → Bool → Type 0
  Holds f held = (r : Items) → hold_cell vs (closed_ptrs (f r)) ≡ held || hold_cell vs (closed_ptrs r)

  both_hold : (f : Items → Items) (r : Items) (b c : Bool)
      → hold_cell vs (closed_ptrs (f r)) ≡ c || hold_cell vs (closed_ptrs r)
      → b || hold_cell vs (closed_ptrs (f r)) ≡ (b || c) || hold_cell vs (closed_ptrs r)
  both_hold f r b c e = ap (λ x. b || x) e ∙ sym (or_assoc b c (hold_cell vs (closed_ptrs r)))

  module _ (funcs : List Func) (deep : ℕ) where
    abbrev its : Stmt → Items → Items
    its = items_by funcs (body_within funcs deep)

    abbrev holding : Stmt → Bool
    holding = held_in vs

    abbrev HoldsAs : Stmt → Type 0
    HoldsAs s = Holds (its s) (holding s)

    abbrev bare : List ((s : Stmt) × HoldsAs s) → List Stmt
    bare es = map (λ e. e.0) es

    each_holds : (es : List ((s : Stmt) × HoldsAs s))
        → Holds (all_before (map its (bare es))) (some_true (map holding (bare es)))
    each_holds [] r = refl
    each_holds (e ∷ es) r =
        e.1 (all_before (map its (bare es)) r)
        ∙ both_hold (all_before (map its (bare es))) r (holding e.0) (some_true (map holding (bare es)))
        (each_holds es r)

    abbrev LayerHolds : Stmt-F Stmt → Type 0
    LayerHolds y = Holds (items_step funcs (body_within funcs deep) (map-Stmt Stmt (Items → Items) its y))
        (held_step vs (map-Stmt Stmt Bool holding y))

    layer_holds : (y : Stmt-F ((s : Stmt) × HoldsAs s))
        → LayerHolds (map-Stmt ((s : Stmt) × HoldsAs s) Stmt (λ e. e.0) y)
    layer_holds (Do-F a line) r =
        act_composed (λ f. Holds f false) (λ b m q. refl) (λ g b m q. refl) funcs a line r
    layer_holds (Group-F b ps ds m) r =
        each_holds b (closes ps ds m r)
        ∙ both_hold (closes ps ds m) r (some_true (map holding (bare b))) (hold_cell vs ps)
        (hold_closes vs ps ds m r)
    layer_holds (Call-F f args to' line) r =
        ap (hold_cell vs) (call_hides funcs deep (slice_get funcs f) args to' line (λ ps ds. ps) r)
    layer_holds _ r = refl

    stmt_holds : (s : Stmt) → HoldsAs s
    stmt_holds = ind-Stmt HoldsAs (λ x y is.
        let here : LayerHolds x = subst LayerHolds is (layer_holds y) in
        subst (λ f. Holds f (holding (roll-Stmt x)))
        (sym (fold-roll-Stmt (Items → Items) (items_step funcs (body_within funcs deep)) x))
        (subst (λ b. Holds (items_step funcs (body_within funcs deep) (map-Stmt Stmt (Items → Items) its x)) b)
        (sym (fold-roll-Stmt Bool (held_step vs) x)) here))

    all_hold : (ss : List Stmt) → Holds (all_before (map its ss)) (some_true (map holding ss))
    all_hold [] r = refl
    all_hold (x ∷ xs) r =
        stmt_holds x (all_before (map its xs) r)
        ∙ both_hold (all_before (map its xs)) r (holding x) (some_true (map holding xs)) (all_hold xs r)

  pub block_holds : (funcs : List Func) (ss : List Stmt) (r : Items)
      → hold_cell vs (closed_ptrs (in_order funcs ss r)) ≡ held_among vs ss || hold_cell vs (closed_ptrs r)
  unfolding in_order
  block_holds funcs ss r = all_hold funcs (length funcs) ss r

-- The blocks among statements

module _ (vs : List Value) where
  rolled : (x : Stmt-F Stmt) → held_in vs (roll-Stmt x) ≡ held_step vs (map-Stmt Stmt Bool (held_in vs) x)
  rolled x = fold-roll-Stmt Bool (held_step vs) x

  pub held-Do : (a : Act) (line : ℕ) → held_in vs (StmtDo a line) ≡ false
  held-Do a line = ap (held_in vs) (sym (rolls-Do a line)) ∙ rolled (Do-F a line)

  pub held-Branch : (c : Cond) (x y : List Stmt) → held_in vs (Branch c x y) ≡ false
  held-Branch c x y = ap (held_in vs) (sym (rolls-Branch c x y)) ∙ rolled (Branch-F c x y)

  pub held-While : (c : Cond) (b : List Stmt) → held_in vs (While c b) ≡ false
  held-While c b = ap (held_in vs) (sym (rolls-While c b)) ∙ rolled (While-F c b)

  pub held-DoWhile : (c : Cond) (b : List Stmt) → held_in vs (DoWhile c b) ≡ false
  held-DoWhile c b = ap (held_in vs) (sym (rolls-DoWhile c b)) ∙ rolled (DoWhile-F c b)

  pub held-For : (c : Cond) (n b : List Stmt) → held_in vs (For c n b) ≡ false
  held-For c n b = ap (held_in vs) (sym (rolls-For c n b)) ∙ rolled (For-F c n b)

  pub held-Group : (b : List Stmt) (ps ds : List ℕ) (m : ℕ) → held_in vs (Group b ps ds m)
      ≡ some_true (map (held_in vs) b) || hold_cell vs ps
  held-Group b ps ds m = ap (held_in vs) (sym (rolls-Group b ps ds m)) ∙ rolled (Group-F b ps ds m)

  pub held-Call : (f : ℕ) (args : List Arg) (to' : Option Dest) (line : ℕ) → held_in vs (Call f args to' line) ≡ false
  held-Call f args to' line = ap (held_in vs) (sym (rolls-Call f args to' line)) ∙ rolled (Call-F f args to' line)

pub ruleset held = (held-Do, held-Branch, held-While, held-DoWhile, held-For, held-Group, held-Call)

-- Variables of either kind

pub holds_first : (s : Store) (v : VarRef) (vs : List VarRef) → vars_hold s (v ∷ vs)
    ≡ vars_hold s (v ∷ []) || vars_hold s vs
holds_first s (PtrVar x) vs =
    hold_insert s.vars x (ptr_vars vs)
    ∙ ap (λ b. b || hold_cell s.vars (ptr_vars vs)) (sym (or_end (is_cell (slice_index_or s.vars x Uninit))))
holds_first s (DatumVar x) vs = refl

pub ruleset calls = (holds_first)

-- The stack

pub pending_last : (xs : List Item) (x : Item) → pending (xs ++ x ∷ []) ≡ before x (pending xs)
pending_last xs x = onto_push _ xs x

pub ruleset leaves = (hold_closes, pending_last)

-- the blocks of the entry that comes first, and what comes after it
pub round_block : (vs : List Value) (xs ys : List Item) (x : Item) (b : Body) → ys ≡ xs ++ x ∷ [] → x ≡ Block b
    → hold_cell vs (closed_ptrs (pending ys))
    ≡ held_among vs b.stmts.now || hold_cell vs (closed_ptrs (pending xs))
round_block vs xs ys x b e is =
    ap (λ zs. hold_cell vs (closed_ptrs (pending zs))) e
    ∙ ap (λ r. hold_cell vs (closed_ptrs r)) (pending_last xs x)
    ∙ ap (λ z. hold_cell vs (closed_ptrs (before z (pending xs)))) is
    ∙ block_holds vs b.program.now.funcs b.stmts.now (pending xs)
