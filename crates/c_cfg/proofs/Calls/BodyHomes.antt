-- Each place of a typed program keeps the parameters of functions that are not active.
use Rattle.std.proofs.Common.{◌≡◌, ◌⊎◌, inl, inr, ℕ, zero, suc, Bool, true, true≢false, ◌&&◌, Option, Some, None, List}
use Rattle.std.proofs.Common.{[], ◌∷◌, ◌++◌, map, length, slice_get, refl, sym, ap, ◌∙◌, subst}
use Rattle.std.specs.List.{flat_map}
use Rattle.std.proofs.lemmas.Bool.{and_parts}
use Rattle.fore_base.specs.Lists.{IsIn}
use Rattle.fore_base.proofs.ListLemmas.{in_left, in_right, in_append}
use Rattle.fore_base.proofs.NameLemmas.{in_at}
use Rattle.c_calls.specs.Calls.{called_by, Leads, at_once, through}
use Rattle.c_types.specs.declared.program.VarRef.{VarRef}
use Rattle.c_types.specs.declared.program.VarRef.TheVariants.{Ptr as PtrVar}
use Rattle.c_types.specs.declared.program.Arg.{Arg}
use Rattle.c_types.specs.declared.program.Dest.{Dest}
use Rattle.c_types.specs.declared.program.Dest.TheVariants.{Ptr as PtrDest, Data as DataDest}
use Rattle.c_types.specs.declared.program.Act.{Act}
use Rattle.c_types.specs.declared.program.Act.TheVariants.{SetPtr, Break, Continue}
use Rattle.c_types.specs.declared.program.Act.TheVariants.{Leave as LeaveAct}
use Rattle.c_types.specs.declared.program.Func.{Func}
use Rattle.c_types.specs.declared.program.Cond.{Cond}
use Rattle.c_types.specs.declared.program.Stmt.{Stmt, Stmt-F, roll-Stmt, map-Stmt, fold-roll-Stmt, ind-Stmt}
use Rattle.c_types.specs.declared.program.Stmt.TheOpen.{Do as Do-F, Branch as Branch-F, While as While-F}
use Rattle.c_types.specs.declared.program.Stmt.TheOpen.{DoWhile as DoWhile-F, For as For-F, Group as Group-F}
use Rattle.c_types.specs.declared.program.Stmt.TheOpen.{Call as Call-F}
use Rattle.c_types.specs.Bodies.{in_turn, act_names, arg_names, dest_names, maybe_names, cond_names, stmt_names_step}
use Rattle.c_types.specs.Bodies.{stmt_names, body_names, calls_step, stmt_calls, body_calls, calls_of}
use Rattle.c_types.specs.Program.{Program, Spot, Outside, InNext, body_of, is_in_body, all_below, act_typed, cond_typed}
use Rattle.c_types.specs.Program.{each_typed, stmt_typed_step, stmt_typed, is_typed}
use Rattle.c_types.specs.Control.{Items, Done, Loop, Again, DoAgain, Exit, ◌then◌, round, do_round, after_again}
use Rattle.c_types.specs.Control.{test_of, all_before, closes, act_items, leave_items, call_items, items_step, items_by}
use Rattle.c_types.specs.Control.{body_within, start_of}
use Rattle.c_types.proofs.DeepCalls.{called_there}
use Rattle.c_types.proofs.WellTyped.{has_body_typed, own_body}
use Rattle.c_cfg.proofs.Landing.{Each}
use Rattle.c_cfg.proofs.Calls.OpenCalls.{open_vars, from_open}
use Rattle.c_cfg.proofs.Calls.Standing.{IsStanding, closes_stand, all_stand, within_stands}
use Rattle.c_cfg.proofs.Calls.Params.{IsParam, one_func, named_own, main_names_none, free, leads_on}
use Rattle.c_cfg.proofs.Calls.Homes.{Home, DestHomed, Homed, tests_homed}

module _ (p : Program) (typed : is_typed p ≡ true) where
  -- Calls

  -- where these variables are open, the function of this number is the last that was called: its parameters are open,
  -- and besides those of functions that lead to it alone
  pub record Active (f : ℕ) (g : Func) (us : List VarRef) : Type 0 where
    pub own : (x : ℕ) → IsIn (PtrVar x) g.params → IsIn (PtrVar x) us
    pub others : (x : ℕ) → IsIn (PtrVar x) us
        → (a : IsParam p.funcs x) × ((a.number ≡ f) ⊎ Leads (calls_of p.funcs) a.number f)

  -- it may be called there: it is not active, and is the last one then
  pub record MayCall (us : List VarRef) (f : ℕ) (g : Func) : Type 0 where
    pub apart : (x : ℕ) → IsIn (PtrVar x) g.params → IsIn (PtrVar x) us → ⊥
    pub active : Active f g (g.params ++ us)

  main_may : (f : ℕ) (g : Func) → slice_get p.funcs f ≡ Some g → MayCall [] f g
  main_may f g got = record {
    apart = λ x i j. j;
    active = record {
      own = λ x i. in_left (PtrVar x) g.params [] i;
      others = λ x i. elim (in_append (PtrVar x) g.params [] i) [
        | inl own ↦ (record { number = f; func = g; is_there = got; is_param = own }, inl refl)
        | inr none ↦ absurd none
      ];
    };
  }

  body_may : (us : List VarRef) (f h : ℕ) (g k : Func) → slice_get p.funcs f ≡ Some g → Active f g us
      → IsIn h (called_by (calls_of p.funcs) f) → slice_get p.funcs h ≡ Some k → MayCall us h k
  body_may us f h g k at active called got = record {
    apart = λ x i j.
        let a = active.others x j in
        let this : IsParam p.funcs x = record { number = h; func = k; is_there = got; is_param = i } in
        let same : a.0.number ≡ h = one_func p typed x a.0 this in
        free p typed f
        (elim a.1 [
          | inl e ↦ at_once (subst (λ n. IsIn n (called_by (calls_of p.funcs) f)) (sym same ∙ e) called)
          | inr l ↦ through h called (subst (λ n. Leads (calls_of p.funcs) n f) same l)
        ]);
    active = record {
      own = λ x i. in_left (PtrVar x) k.params us i;
      others = λ x i. elim (in_append (PtrVar x) k.params us i) [
        | inl own ↦ (record { number = h; func = k; is_there = got; is_param = own }, inl refl)
        | inr old ↦ (let a = active.others x old in (a.0, inr (leads_now a.0.number a.1)))
      ];
    };
  }
    where
      leads_now : (n : ℕ) → (n ≡ f) ⊎ Leads (calls_of p.funcs) n f → Leads (calls_of p.funcs) n h
      leads_now n (inl e) = at_once (subst (λ m. IsIn h (called_by (calls_of p.funcs) m)) (sym e) called)
      leads_now n (inr l) = leads_on (calls_of p.funcs) n f h l called

  -- the bodies of the program's functions keep those parameters, where they may be called
  abbrev InsideHomed : (List Stmt → Items → Items) → Type 0
  InsideHomed inside = (f : ℕ) (g : Func) → slice_get p.funcs f ≡ Some g → (r q : Items)
      → Active f g (open_vars 0 (r then q)) → Each (Homed p) r q → Each (Homed p) (inside g.body r) q

  -- Statements

  module _ (inside : List Stmt → Items → Items) (stand : (ss : List Stmt) → IsStanding (inside ss))
      (homed : InsideHomed inside) (us : List VarRef) (home : Option ℕ) where
    abbrev its : Stmt → Items → Items
    its = items_by p.funcs inside

    abbrev spot_typed : Stmt → Spot → Bool
    spot_typed = stmt_typed p.shapes.structs p.vars (length p.data_vars) p.funcs home

    abbrev typed_step : Stmt-F (Spot → Bool) → Spot → Bool
    typed_step = stmt_typed_step p.shapes.structs p.vars (length p.data_vars) p.funcs home

    abbrev each_is : List (Spot → Bool) → Spot → Bool
    each_is = each_typed p.shapes.structs p.vars (length p.data_vars)

    abbrev has_typed : Cond → Bool
    has_typed = cond_typed p.shapes.structs p.vars (length p.data_vars)

    abbrev NamesHome : List VarRef → Type 0
    NamesHome names = (x : ℕ) → IsIn (PtrVar x) names → Home p us x

    abbrev CallsMay : List ℕ → Type 0
    CallsMay calls = (f : ℕ) → IsIn f calls → (g : Func) → slice_get p.funcs f ≡ Some g → MayCall us f g

    -- items before which a statement of the body stands
    record Before (spot : Spot) (c : Items) : Type 0 where
      opens : open_vars 0 c ≡ us
      again : is_in_body spot ≡ true → open_vars 0 (after_again c) ≡ us

    before_more : (f : Items → Items) → IsStanding f → (spot : Spot) (r q : Items) → Before spot (r then q)
        → Before spot (f r then q)
    before_more f h spot r q b = record {
      opens = ap (open_vars 0) (sym (h.stands r q)) ∙ h.opens 0 (r then q) ∙ b.opens;
      again = λ e. ap (λ z. open_vars 0 (after_again z)) (sym (h.stands r q))
          ∙ ap (open_vars 0) (h.again (r then q)) ∙ b.again e;
    }

    abbrev Sits : Items → Items → Type 0
    Sits r q = Each (Homed p) r q

    abbrev StmtHomed : Stmt → Type 0
    StmtHomed s = (spot : Spot) (r q : Items) → spot_typed s spot ≡ true → NamesHome (stmt_names s)
        → CallsMay (stmt_calls s) → Before spot (r then q) → Sits r q → Sits (its s r) q

    abbrev Known : Type 0
    Known = (s : Stmt) × StmtHomed s

    abbrev bare : List Known → List Stmt
    bare ss = map (λ e. e.0) ss

    all_homed : (ss : List Known) (spot : Spot) (r q : Items) → each_is (map spot_typed (bare ss)) spot ≡ true
        → NamesHome (in_turn (map stmt_names (bare ss))) → CallsMay (in_turn (map stmt_calls (bare ss)))
        → Before spot (r then q) → Sits r q → Sits (all_before (map its (bare ss)) r) q
    all_homed [] spot r q e names calls b k = k
    all_homed (s ∷ ss) spot r q e names calls b k =
        let both = and_parts (spot_typed s.0 spot) (each_is (map spot_typed (bare ss)) spot) e in
        s.1 spot (all_before (map its (bare ss)) r) q both.0
        (λ x i. names x (in_left (PtrVar x) (stmt_names s.0) _ i))
        (λ f i. calls f (in_left f (stmt_calls s.0) _ i))
        (before_more (all_before (map its (bare ss))) (all_stand p.funcs inside stand (bare ss)) spot r q b)
        (all_homed ss spot r q both.1 (λ x i. names x (in_right (PtrVar x) (stmt_names s.0) _ i))
        (λ f i. calls f (in_right f (stmt_calls s.0) _ i)) b k)

    leave_homed : (o : Option Func) (f : ℕ) (value : Option Arg) (m : ℕ) (r q : Items) → Sits r q
        → Sits (leave_items o f value m r) q
    leave_homed None f value m r q k = (tt, k)
    leave_homed (Some g) f value m r q k = (tt, k)

    act_homed : (a : Act) (spot : Spot) (m : ℕ) (r q : Items)
        → act_typed p.shapes.structs p.vars (length p.data_vars) p.funcs home a spot ≡ true
        → NamesHome (act_names a) → Before spot (r then q) → Sits r q → Sits (act_items p.funcs a m r) q
    act_homed (SetPtr to from) spot m r q e names b k =
        (subst (λ vs. Home p vs to.var) (sym b.opens) (names to.var (inl refl)), k)
    act_homed (LeaveAct f value) spot m r q e names b k = leave_homed (slice_get p.funcs f) f value m r q k
    act_homed Break spot m r q e names b k = (b.again e ∙ sym b.opens, k)
    act_homed Continue spot m r q e names b k = (from_open 0 (r then q) ∙ b.again e ∙ sym b.opens, k)
    act_homed _ spot m r q e names b k = (tt, k)

    closes_homed : (ps ds : List ℕ) (m : ℕ) (r q : Items) → Sits r q → Sits (closes ps ds m r) q
    closes_homed [] [] m r q k = k
    closes_homed [] (d ∷ ds) m r q k = (tt, k)
    closes_homed (x ∷ ps) ds m r q k = (tt, k)

    dest_homed : (to' : Option Dest) (vs : List VarRef) (c : Items) → open_vars 0 c ≡ us
        → NamesHome (vs ++ maybe_names dest_names to') → DestHomed p to' c
    dest_homed None vs c opens names = tt
    dest_homed (Some (PtrDest d)) vs c opens names =
        subst (λ ws. Home p ws d.var) (sym opens) (names d.var (in_right (PtrVar d.var) vs _ (inl refl)))
    dest_homed (Some (DataDest d)) vs c opens names = tt

    call_homed : (o : Option Func) (f : ℕ) (args : List Arg) (to' : Option Dest) (m : ℕ) (r q : Items)
        → slice_get p.funcs f ≡ o → NamesHome (flat_map arg_names args ++ maybe_names dest_names to')
        → CallsMay (f ∷ []) → open_vars 0 (r then q) ≡ us → Sits r q → Sits (call_items inside o args to' m r) q
    call_homed None f args to' m r q got names calls opens k = k
    call_homed (Some g) f args to' m r q got names calls opens k =
        let may : MayCall us f g = calls f (inl refl) g got in
        let e : Items = Exit g.result g.params to' m r in
        let h : IsStanding (inside g.body) = stand g.body in
        let now : open_vars 0 (inside g.body e then q) ≡ g.params ++ open_vars 0 (r then q) =
        ap (open_vars 0) (sym (h.stands e q)) ∙ h.opens 0 (e then q) in
        let later : open_vars 1 (inside g.body e then q) ≡ open_vars 0 (r then q) =
        ap (open_vars 1) (sym (h.stands e q)) ∙ h.opens 1 (e then q) in (
          record {
            opens = now ∙ ap (λ vs. g.params ++ vs) (sym later);
            apart = λ x i j. may.apart x i (subst (IsIn (PtrVar x)) (later ∙ opens) j);
          },
          homed f g got e q (subst (λ vs. Active f g (g.params ++ vs)) (sym opens) may.active)
              (dest_homed to' (flat_map arg_names args) (r then q) opens names, k),
        )

    layer_homed : (y : Stmt-F Known) (spot : Spot) (r q : Items)
        → typed_step (map-Stmt Stmt (Spot → Bool) spot_typed (map-Stmt Known Stmt (λ e. e.0) y)) spot ≡ true
        → NamesHome (stmt_names_step (map-Stmt Stmt (List VarRef) stmt_names (map-Stmt Known Stmt (λ e. e.0) y)))
        → CallsMay (calls_step (map-Stmt Stmt (List ℕ) stmt_calls (map-Stmt Known Stmt (λ e. e.0) y)))
        → Before spot (r then q) → Sits r q
        → Sits
        (items_step p.funcs inside (map-Stmt Stmt (Items → Items) its (map-Stmt Known Stmt (λ e. e.0) y)) r) q
    layer_homed (Do-F a line) spot r q e names calls b k = act_homed a spot line r q e names b k
    layer_homed (Branch-F c x y) spot r q e names calls b k =
        let xs : Bool = each_is (map spot_typed (bare x)) spot in
        let ys : Bool = each_is (map spot_typed (bare y)) spot in
        let sides = and_parts xs ys (and_parts (has_typed c) (xs && ys) e).1 in
        let xn : List VarRef = in_turn (map stmt_names (bare x)) in
        let yn : List VarRef = in_turn (map stmt_names (bare y)) in
        let xc : List ℕ = in_turn (map stmt_calls (bare x)) in
        let yc : List ℕ = in_turn (map stmt_calls (bare y)) in (
          tests_homed p (test_of c) _ _ (r then q),
          all_homed x spot Done (r then q) sides.0
              (λ z i. names z (in_left (PtrVar z) (cond_names c ++ xn) yn (in_right (PtrVar z) (cond_names c) xn i)))
              (λ f i. calls f (in_left f xc yc i)) b tt,
          all_homed y spot Done (r then q) sides.1
              (λ z i. names z (in_right (PtrVar z) (cond_names c ++ xn) yn i))
              (λ f i. calls f (in_right f xc yc i)) b tt,
          k,
        )
    layer_homed (While-F c x) spot r q e names calls b k =
        let bs : Items = all_before (map its (bare x)) Done in (
          tests_homed p (test_of c) (round (test_of c) Done bs) Done (r then q),
          all_homed x (body_of spot) Done (Again (test_of c) Done bs (r then q))
              (and_parts (has_typed c) (each_is (map spot_typed (bare x)) (body_of spot)) e).1
              (λ z i. names z (in_right (PtrVar z) (cond_names c) _ i)) calls
              (record { opens = b.opens; again = λ f. b.opens }) tt,
          tt,
          k,
        )
    layer_homed (DoWhile-F c x) spot r q e names calls b k =
        let bs : Items = all_before (map its (bare x)) Done in (
          tests_homed p (test_of c) (do_round (test_of c) bs) Done (r then q),
          all_homed x (body_of spot) Done (DoAgain (test_of c) bs (r then q))
              (and_parts (has_typed c) (each_is (map spot_typed (bare x)) (body_of spot)) e).1
              (λ z i. names z (in_right (PtrVar z) (cond_names c) _ i)) calls
              (record { opens = b.opens; again = λ f. b.opens }) tt,
          k,
        )
    layer_homed (For-F c n x) spot r q e names calls b k =
        let ns : Items = all_before (map its (bare n)) Done in
        let bs : Items = all_before (map its (bare x)) Done in
        let nt : Bool = each_is (map spot_typed (bare n)) InNext in
        let xt : Bool = each_is (map spot_typed (bare x)) (body_of spot) in
        let sides = and_parts nt xt (and_parts (has_typed c) (nt && xt) e).1 in
        let nn : List VarRef = in_turn (map stmt_names (bare n)) in
        let xn : List VarRef = in_turn (map stmt_names (bare x)) in
        let nc : List ℕ = in_turn (map stmt_calls (bare n)) in
        let xc : List ℕ = in_turn (map stmt_calls (bare x)) in (
          tests_homed p (test_of c) (round (test_of c) ns bs) Done (r then q),
          all_homed x (body_of spot) Done (Again (test_of c) ns bs (r then q)) sides.1
              (λ z i. names z (in_right (PtrVar z) (cond_names c ++ nn) xn i))
              (λ f i. calls f (in_right f nc xc i)) (record { opens = b.opens; again = λ f. b.opens }) tt,
          all_homed n InNext Done (Loop (test_of c) ns bs (r then q)) sides.0
              (λ z i. names z (in_left (PtrVar z) (cond_names c ++ nn) xn (in_right (PtrVar z) (cond_names c) nn i)))
              (λ f i. calls f (in_left f nc xc i))
              (record { opens = b.opens; again = λ f. absurd (true≢false (sym f)) }) tt,
          k,
        )
    layer_homed (Group-F x ps ds m) spot r q e names calls b k =
        let xs : Bool = each_is (map spot_typed (bare x)) spot in
        all_homed x spot (closes ps ds m r) q
        (and_parts xs (all_below (length p.vars) ps && all_below (length p.data_vars) ds) e).0 names calls
        (before_more (closes ps ds m) (closes_stand ps ds m) spot r q b) (closes_homed ps ds m r q k)
    layer_homed (Call-F f args to' line) spot r q e names calls b k =
        call_homed (slice_get p.funcs f) f args to' line r q refl names calls b.opens k

    rolled_homed : (x : Stmt-F Stmt) (y : Stmt-F Known) → map-Stmt Known Stmt (λ e. e.0) y ≡ x
        → StmtHomed (roll-Stmt x)
    rolled_homed x y is spot r q e names calls b k =
        let z : Stmt-F Stmt = map-Stmt Known Stmt (λ w. w.0) y in
        let typed_here : typed_step (map-Stmt Stmt (Spot → Bool) spot_typed z) spot ≡ true =
        ap (λ w. typed_step (map-Stmt Stmt (Spot → Bool) spot_typed w) spot) is
        ∙ sym (ap (λ f. f spot) (fold-roll-Stmt (Spot → Bool) typed_step x)) ∙ e in
        let names_are : stmt_names (roll-Stmt x) ≡ stmt_names_step (map-Stmt Stmt (List VarRef) stmt_names z) =
        fold-roll-Stmt (List VarRef) stmt_names_step x
        ∙ ap (λ w. stmt_names_step (map-Stmt Stmt (List VarRef) stmt_names w)) (sym is) in
        let calls_are : stmt_calls (roll-Stmt x) ≡ calls_step (map-Stmt Stmt (List ℕ) stmt_calls z) =
        fold-roll-Stmt (List ℕ) calls_step x ∙ ap (λ w. calls_step (map-Stmt Stmt (List ℕ) stmt_calls w)) (sym is) in
        subst (λ c. Sits c q) (ap (λ w. items_step p.funcs inside (map-Stmt Stmt (Items → Items) its w) r) is
        ∙ sym (ap (λ f. f r) (fold-roll-Stmt (Items → Items) (items_step p.funcs inside) x)))
        (layer_homed y spot r q typed_here (subst NamesHome names_are names) (subst CallsMay calls_are calls) b k)

    stmt_homed : (s : Stmt) → StmtHomed s
    stmt_homed = ind-Stmt StmtHomed rolled_homed

    body_homed : (ss : List Stmt) (spot : Spot) (r q : Items) → each_is (map spot_typed ss) spot ≡ true
        → NamesHome (body_names ss) → CallsMay (body_calls ss) → Before spot (r then q) → Sits r q
        → Sits (all_before (map its ss) r) q
    body_homed [] spot r q e names calls b k = k
    body_homed (s ∷ ss) spot r q e names calls b k =
        let both = and_parts (spot_typed s spot) (each_is (map spot_typed ss) spot) e in
        stmt_homed s spot (all_before (map its ss) r) q both.0
        (λ x i. names x (in_left (PtrVar x) (stmt_names s) _ i)) (λ f i. calls f (in_left f (stmt_calls s) _ i))
        (before_more (all_before (map its ss)) (all_stand p.funcs inside stand ss) spot r q b)
        (body_homed ss spot r q both.1 (λ x i. names x (in_right (PtrVar x) (stmt_names s) _ i))
        (λ f i. calls f (in_right f (stmt_calls s) _ i)) b k)

    -- a body, outside loops
    whole_homed : (ss : List Stmt) (r q : Items) → each_is (map spot_typed ss) Outside ≡ true
        → NamesHome (body_names ss) → CallsMay (body_calls ss) → open_vars 0 (r then q) ≡ us → Sits r q
        → Sits (all_before (map its ss) r) q
    whole_homed ss r q e names calls opens k =
        body_homed ss Outside r q e names calls
        (record { opens = opens; again = λ f. absurd (true≢false (sym f)) }) k

  -- Bodies

  within_homed : (n : ℕ) → InsideHomed (body_within p.funcs n)
  within_homed zero f g got r q active k = k
  within_homed (suc n) f g got r q active k =
      let there : IsIn g p.funcs = in_at p.funcs f g got in
      let at = own_body p typed g there in
      whole_homed (body_within p.funcs n) (within_stands p.funcs n) (within_homed n) (open_vars 0 (r then q)) at.0
      g.body r q at.1 (λ x i a. active.own x (named_own p typed g x there at.2 i a))
      (λ h i k got'. body_may (open_vars 0 (r then q)) f h g k got active
      (subst (IsIn h) (sym (called_there p.funcs f g got)) i) got') refl k

  pub start_homed : Each (Homed p) (start_of p) Done
  start_homed =
      whole_homed (body_within p.funcs (length p.funcs)) (within_stands p.funcs (length p.funcs))
      (within_homed (length p.funcs)) [] None p.body Done Done (has_body_typed p typed)
      (λ x i a. absurd (main_names_none p typed x i a)) (λ f i g got. main_may f g got) refl tt
