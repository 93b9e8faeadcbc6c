-- Calls that are followed deeper than there are functions: where no function leads to itself, that changes nothing.
use Rattle.std.proofs.Common.{◌≡◌, ◌<◌, ◌≤◌, inl, ℕ, zero, suc, true, Option, Some, None, List, [], ◌∷◌}
use Rattle.std.proofs.Common.{map, length, slice_get, refl, sym, ap, ◌∙◌, subst, arith}
use Rattle.std.proofs.lemmas.Option.{slice_get_within}
use Rattle.fore_base.specs.Lists.{IsIn}
use Rattle.fore_base.proofs.ListLemmas.{in_left, in_right}
use Rattle.c_calls.specs.Calls.{called_by, NoneRecurs}
use Rattle.c_calls.proofs.FewCalls.{Room, first_room, next_room, none_left}
use Rattle.c_types.specs.declared.program.Arg.{Arg}
use Rattle.c_types.specs.declared.program.Dest.{Dest}
use Rattle.c_types.specs.declared.program.Func.{Func}
use Rattle.c_types.specs.declared.program.Stmt.{Stmt, Stmt-F, roll-Stmt, map-Stmt, fold-roll-Stmt, ind-Stmt}
use Rattle.c_types.specs.declared.program.Stmt.TheOpen.{Do as Do-F, Branch as Branch-F, While as While-F}
use Rattle.c_types.specs.declared.program.Stmt.TheOpen.{DoWhile as DoWhile-F, For as For-F, Group as Group-F}
use Rattle.c_types.specs.declared.program.Stmt.TheOpen.{Call as Call-F}
use Rattle.c_types.specs.Bodies.{in_turn, calls_step, stmt_calls, body_calls, calls_of}
use Rattle.c_types.specs.Control.{Items, Done, If, Loop, DoLoop, Enter, Exit, test_of, all_before, closes, call_items}
use Rattle.c_types.specs.Control.{items_step, items_by, body_within, items_of}
use Rattle.c_types.specs.declared.program.Stmt.TheVariants.{Call}
use Rattle.c_types.specs.Program.{Program, is_typed}
use Rattle.c_calls.proofs.FewCalls.{test_none}
use Rattle.c_types.proofs.Layers.{by-Call}
use Rattle.c_types.proofs.WellTyped.{has_none_recurs}

module _ (funcs : List Func) (inside outside : List Stmt → Items → Items) where
  -- the two give one body the same items, for each function that is called there
  abbrev AgreeOn : List ℕ → Type 0
  AgreeOn calls = (f : ℕ) → IsIn f calls → (g : Func) → slice_get funcs f ≡ Some g → (r : Items)
      → inside g.body r ≡ outside g.body r

  -- a statement has the same items by both, where they agree on its calls
  abbrev Same : Stmt → Type 0
  Same s = AgreeOn (stmt_calls s) → (r : Items) → items_by funcs inside s r ≡ items_by funcs outside s r

  abbrev bare : List ((s : Stmt) × Same s) → List Stmt
  bare ss = map (λ e. e.0) ss

  all_same : (ss : List ((s : Stmt) × Same s)) → AgreeOn (in_turn (map stmt_calls (bare ss))) → (r : Items)
      → all_before (map (items_by funcs inside) (bare ss)) r ≡ all_before (map (items_by funcs outside) (bare ss)) r
  all_same [] agree r = refl
  all_same (s ∷ ss) agree r =
      s.1 (λ f i. agree f (in_left f (stmt_calls s.0) (in_turn (map stmt_calls (bare ss))) i))
      (all_before (map (items_by funcs inside) (bare ss)) r)
      ∙ ap (items_by funcs outside s.0)
      (all_same ss (λ f i. agree f (in_right f (stmt_calls s.0) (in_turn (map stmt_calls (bare ss))) i)) r)

  call_same : (o : Option Func) (args : List Arg) (to' : Option Dest) (m : ℕ) (r : Items)
      → ((g : Func) → o ≡ Some g → (q : Items) → inside g.body q ≡ outside g.body q)
      → call_items inside o args to' m r ≡ call_items outside o args to' m r
  call_same None args to' m r agree = refl
  call_same (Some g) args to' m r agree =
      ap (Enter g.params args m) (agree g refl (Exit g.result g.params to' m r))

  abbrev by_in : Stmt → Items → Items
  by_in = items_by funcs inside

  abbrev by_out : Stmt → Items → Items
  by_out = items_by funcs outside

  layer_same : (y : Stmt-F ((s : Stmt) × Same s))
      → AgreeOn (calls_step (map-Stmt Stmt (List ℕ) stmt_calls (map-Stmt ((s : Stmt) × Same s) Stmt (λ e. e.0) y)))
      → (r : Items)
      → items_step funcs inside
      (map-Stmt Stmt (Items → Items) by_in (map-Stmt ((s : Stmt) × Same s) Stmt (λ e. e.0) y)) r
      ≡ items_step funcs outside
      (map-Stmt Stmt (Items → Items) by_out (map-Stmt ((s : Stmt) × Same s) Stmt (λ e. e.0) y)) r
  layer_same (Do-F a line) agree r = refl
  layer_same (Branch-F c x y) agree r =
      let xs : List ℕ = in_turn (map stmt_calls (bare x)) in
      let ys : List ℕ = in_turn (map stmt_calls (bare y)) in
      ap (λ z. If (test_of c) z (all_before (map by_in (bare y)) Done) r)
      (all_same x (λ f i. agree f (in_left f xs ys i)) Done)
      ∙ ap (λ z. If (test_of c) (all_before (map by_out (bare x)) Done) z r)
      (all_same y (λ f i. agree f (in_right f xs ys i)) Done)
  layer_same (While-F c b) agree r = ap (λ z. Loop (test_of c) Done z r) (all_same b agree Done)
  layer_same (DoWhile-F c b) agree r = ap (λ z. DoLoop (test_of c) z r) (all_same b agree Done)
  layer_same (For-F c n b) agree r =
      let ns : List ℕ = in_turn (map stmt_calls (bare n)) in
      let bs : List ℕ = in_turn (map stmt_calls (bare b)) in
      ap (λ z. Loop (test_of c) z (all_before (map by_in (bare b)) Done) r)
      (all_same n (λ f i. agree f (in_left f ns bs i)) Done)
      ∙ ap (λ z. Loop (test_of c) (all_before (map by_out (bare n)) Done) z r)
      (all_same b (λ f i. agree f (in_right f ns bs i)) Done)
  layer_same (Group-F b ps ds m) agree r = all_same b agree (closes ps ds m r)
  layer_same (Call-F f args to' line) agree r =
      call_same (slice_get funcs f) args to' line r (λ g e q. agree f (inl refl) g e q)

  rolled_same : (x : Stmt-F Stmt) (y : Stmt-F ((s : Stmt) × Same s))
      → map-Stmt ((s : Stmt) × Same s) Stmt (λ e. e.0) y ≡ x → Same (roll-Stmt x)
  rolled_same x y is agree r =
      let z : Stmt-F Stmt = map-Stmt ((s : Stmt) × Same s) Stmt (λ w. w.0) y in
      let calls_are : stmt_calls (roll-Stmt x) ≡ calls_step (map-Stmt Stmt (List ℕ) stmt_calls z) =
      fold-roll-Stmt (List ℕ) calls_step x ∙ ap (λ w. calls_step (map-Stmt Stmt (List ℕ) stmt_calls w)) (sym is) in
      ap (λ h. h r) (fold-roll-Stmt (Items → Items) (items_step funcs inside) x)
      ∙ ap (λ w. items_step funcs inside (map-Stmt Stmt (Items → Items) by_in w) r) (sym is)
      ∙ layer_same y (subst AgreeOn calls_are agree) r
      ∙ ap (λ w. items_step funcs outside (map-Stmt Stmt (Items → Items) by_out w) r) is
      ∙ sym (ap (λ h. h r) (fold-roll-Stmt (Items → Items) (items_step funcs outside) x))

  pub stmt_same : (s : Stmt) → Same s
  stmt_same = ind-Stmt Same rolled_same

  pub body_same : (ss : List Stmt) → AgreeOn (body_calls ss) → (r : Items)
      → all_before (map by_in ss) r ≡ all_before (map by_out ss) r
  body_same [] agree r = refl
  body_same (s ∷ ss) agree r =
      stmt_same s (λ f i. agree f (in_left f (stmt_calls s) (body_calls ss) i)) (all_before (map by_in ss) r)
      ∙ ap (by_out s) (body_same ss (λ f i. agree f (in_right f (stmt_calls s) (body_calls ss) i)) r)

-- The calls of a file

pub called_there : (funcs : List Func) (f : ℕ) (g : Func) → slice_get funcs f ≡ Some g
    → called_by (calls_of funcs) f ≡ body_calls g.body
called_there [] f g e = cc
called_there (h ∷ funcs) zero g e = let same : h ≡ g = cc in ap (λ (k : Func). body_calls k.body) same
called_there (h ∷ funcs) (suc f) g e = called_there funcs f g e

as_many : (funcs : List Func) → length (calls_of funcs) ≡ length funcs
as_many [] = refl
as_many (h ∷ funcs) = ap suc (as_many funcs)

module _ (funcs : List Func) (free : NoneRecurs (calls_of funcs)) where
  there : (f : ℕ) (g : Func) → slice_get funcs f ≡ Some g → f < length (calls_of funcs)
  there f g e = subst (λ n. f < n) (sym (as_many funcs)) (slice_get_within funcs f g e)

  -- where n functions more may follow, the body of f has the same items for each depth from n - 1 on
  deep_same : (n f : ℕ) (before : List ℕ) → Room (calls_of funcs) (suc n) f before → (g : Func)
      → slice_get funcs f ≡ Some g
      → (k m : ℕ) → n ≤ k → n ≤ m → (r : Items)
      → body_within funcs (suc k) g.body r ≡ body_within funcs (suc m) g.body r
  deep_same zero f before room g at k m less fewer r =
      body_same funcs (body_within funcs k) (body_within funcs m) g.body
      (λ h called c got q. absurd (none_left (calls_of funcs) free h (f ∷ before)
      (next_room (calls_of funcs) free 0 f h before room
      (subst (IsIn h) (sym (called_there funcs f g at)) called)) (there h c got))) r
  deep_same (suc i) f before room g at zero m less fewer r = absurd (omega (arith, less))
  deep_same (suc i) f before room g at (suc k) zero less fewer r = absurd (omega (arith, fewer))
  deep_same (suc i) f before room g at (suc k) (suc m) less fewer r =
      body_same funcs (body_within funcs (suc k)) (body_within funcs (suc m)) g.body
      (λ h called c got q. deep_same i h (f ∷ before)
      (next_room (calls_of funcs) free (suc i) f h before room
      (subst (IsIn h) (sym (called_there funcs f g at)) called))
      c got k m (omega (arith, less)) (omega (arith, fewer)) q) r

  -- the body of each function has the same items for each depth from the number of functions on
  body_deep : (f : ℕ) (g : Func) → slice_get funcs f ≡ Some g → (k m : ℕ) → length funcs ≤ k → length funcs ≤ m
      → (r : Items) → body_within funcs k g.body r ≡ body_within funcs m g.body r
  body_deep f g at k m less fewer r =
      from (length funcs) k m (slice_get_within funcs f g at)
      (subst (λ n. Room (calls_of funcs) n f []) (as_many funcs) (first_room (calls_of funcs) f)) less fewer
    where
      from : (n k m : ℕ) → f < n → Room (calls_of funcs) n f [] → n ≤ k → n ≤ m
          → body_within funcs k g.body r ≡ body_within funcs m g.body r
      from zero k m below room less fewer = absurd (omega (arith, below))
      from (suc n) zero m below room less fewer = absurd (omega (arith, less))
      from (suc n) (suc k) zero below room less fewer = absurd (omega (arith, fewer))
      from (suc n) (suc k) (suc m) below room less fewer =
          deep_same n f [] room g at k m (omega (arith, less)) (omega (arith, fewer)) r

  -- a statement has the same items for each depth from the number of functions on
  pub stmt_deep : (n : ℕ) (s : Stmt) (r : Items) → length funcs ≤ n
      → items_by funcs (body_within funcs n) s r ≡ items_of funcs s r
  stmt_deep n s r less =
      stmt_same funcs (body_within funcs n) (body_within funcs (length funcs)) s
      (λ f called g at q. body_deep f g at n (length funcs) less (omega arith) q) r

  -- so the body of a function that is called has the items of its statements
  pub body_items : (f : ℕ) (g : Func) → slice_get funcs f ≡ Some g → (r : Items)
      → body_within funcs (length funcs) g.body r ≡ all_before (map (items_of funcs) g.body) r
  body_items f g at r = body_deep f g at (length funcs) (suc (length funcs)) (omega arith) (omega arith) r

-- The calls of a program

module _ (p : Program) (typed : is_typed p ≡ true) where
  free : NoneRecurs (calls_of p.funcs)
  free = test_none (calls_of p.funcs) (has_none_recurs p typed)

  pub program_deep : (depth : ℕ) (s : Stmt) (r : Items) → length p.funcs ≤ depth
      → items_by p.funcs (body_within p.funcs depth) s r ≡ items_of p.funcs s r
  program_deep = stmt_deep p.funcs free

  pub call_items_are : (f : ℕ) (g : Func) (args : List Arg) (to' : Option Dest) (line : ℕ) (r : Items)
      → slice_get p.funcs f ≡ Some g → items_of p.funcs (Call f args to' line) r
      ≡ Enter g.params args line (all_before (map (items_of p.funcs) g.body) (Exit g.result g.params to' line r))
  call_items_are f g args to' line r at =
      by-Call p.funcs (body_within p.funcs (length p.funcs)) f args to' line r
      ∙ ap (λ o. call_items (body_within p.funcs (length p.funcs)) o args to' line r) at
      ∙ ap (Enter g.params args line) (body_items p.funcs free f g at (Exit g.result g.params to' line r))
