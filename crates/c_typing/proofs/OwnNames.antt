-- Where nothing is broken, the body of a function names variables of its own alone, and calls what it may call. Which
-- variables these are (A), what is called (C), which names are called (M) and which function it is (H) is for others
-- to say.
use Rattle.std.proofs.Common.{◌≡◌, ℕ, Bool, true, false, cond, List, [], ◌∷◌, ◌++◌, map, Option, Some, None}
use Rattle.std.proofs.Common.{refl, sym, ap, ◌∙◌, subst}
use Rattle.std.specs.List.{flat_map}
use Rattle.fore_base.proofs.ListLemmas.{every_append, every_mapped, every_parts}
use Rattle.fore_base.specs.Lists.{Every}
use Rattle.fore_base.specs.declared.place.Place.{Place}
use Rattle.c_ast.specs.declared.conditions.Cond as tree
use Rattle.c_ast.specs.declared.operands.Call.{Call, out-Call, roll-out-Call}
use Rattle.c_ast.specs.declared.operands.Operand.{Operand, Operand-F, out-Operand, roll-Operand, roll-out-Operand}
use Rattle.c_ast.specs.declared.operands.Operand.TheOpen as operand
use Rattle.c_ast.specs.declared.operands.Operand.TheVariants as operand'
use Rattle.c_ast.specs.declared.simples.Rhs.{Rhs}
use Rattle.c_ast.specs.declared.simples.Rhs.TheVariants as rhs
use Rattle.c_ast.specs.declared.simples.Simple.{Simple}
use Rattle.c_ast.specs.declared.simples.Simple.TheVariants as simple
use Rattle.c_ast.specs.declared.statements.Block.{Block, roll-Block}
use Rattle.c_ast.specs.declared.statements.Declarator.{Declarator}
use Rattle.c_ast.specs.declared.statements.Declare.{Declare}
use Rattle.c_ast.specs.declared.statements.Declare.TheVariants as declare
use Rattle.c_ast.specs.declared.statements.First.{First}
use Rattle.c_ast.specs.declared.statements.First.TheVariants as first
use Rattle.c_ast.specs.declared.statements.Part as part
use Rattle.c_ast.specs.declared.statements.Part.TheVariants as part'
use Rattle.c_ast.specs.declared.statements.Stmt as tree'
use Rattle.c_ast.specs.declared.statements.Stmt.TheVariants as stmt
use Rattle.c_types.specs.Bodies.{act_names, arg_names, cond_names, dest_names, in_turn, maybe_names}
use Rattle.c_types.specs.Bodies.{stmt_calls, stmt_declares, stmt_names}
use Rattle.c_types.specs.declared.program.Act.{Act}
use Rattle.c_types.specs.declared.program.Act.TheVariants as act
use Rattle.c_types.specs.declared.program.Cond.{Cond}
use Rattle.c_types.specs.declared.program.DataRhs.TheVariants as data_rhs
use Rattle.c_types.specs.declared.program.Dest.{Dest}
use Rattle.c_types.specs.declared.program.PtrRhs.TheVariants as ptr_rhs
use Rattle.c_types.specs.declared.program.Stmt.{Stmt}
use Rattle.c_types.specs.declared.program.Stmt.TheVariants.{Do, Branch, While, DoWhile, For, Group}
use Rattle.c_types.specs.declared.program.VarRef.{VarRef}
use Rattle.c_types.specs.declared.program.VarRef.TheVariants.{Ptr, Data}
use Rattle.c_types.proofs.Layers.{names-Do, names-Branch, names-While, names-DoWhile, names-For, names-Group}
use Rattle.c_types.proofs.Layers.{names-Call}
use Rattle.c_types.proofs.Layers.{calls-Do, calls-Branch, calls-While, calls-DoWhile, calls-For, calls-Group}
use Rattle.c_types.proofs.Layers.{calls-Call}
use Rattle.c_types.proofs.Layers.{declares-Branch, declares-While, declares-DoWhile, declares-For, declares-Group}
use Rattle.c_typing.specs.BodySites.{maybe_sites, type_sites, declarator_sites, declarators_sites, declare_sites}
use Rattle.c_typing.specs.BodySites.{first_sites, rest_sites, part_sites, stmt_sites, block_sites, parts_sites}
use Rattle.c_typing.specs.BodySites.{other_sites}
use Rattle.c_typing.specs.Callees.{maybe_callees, operand_callees, call_callees, rhs_callees, simple_callees}
use Rattle.c_typing.specs.Callees.{declarator_callees, declare_callees, first_callees, part_callees, stmt_callees}
use Rattle.c_typing.specs.Callees.{block_callees, other_callees, cond_callees}
use Rattle.c_typing.specs.Functions.{called_number, recurs, params_in, function_at}
use Rattle.c_typing.specs.Globals.{Globals, result_at}
use Rattle.c_typing.specs.Meanings.{meaning_of_operand, meaning_of_path}
use Rattle.c_typing.specs.Profile.{errors}
use Rattle.c_typing.specs.Programs.{args_of, assign_stmt, assignment, call_act, call_in, call_stmt, cond_of}
use Rattle.c_typing.specs.Programs.{datum_before, datums_of, declarators_stmts, declare_stmts, dest_of}
use Rattle.c_typing.specs.Programs.{for_stmts, grouped, initialised, loop_of, maybe_cond, maybe_simple, next_variable}
use Rattle.c_typing.specs.Programs.{part_stmts, stmt_stmts, block_stmts, parts_stmts, other_stmts, ptr_before}
use Rattle.c_typing.specs.Programs.{ptrs_of, return_act, returned_value, simple_stmts}
use Rattle.c_typing.specs.Programs.{stored, target_struct}
use Rattle.c_typing.specs.Scopes.{Scope, Var, all_declared, declarators_of, declared, declared_so_far, innermost}
use Rattle.c_typing.specs.Scopes.{kind_of, next_ref, opened, past_declare, past_first, past_part, past_parts, past_stmt}
use Rattle.c_typing.specs.Scopes.{outer, var_name}
use Rattle.c_typing.specs.Sites as site
use Rattle.c_typing.specs.Sites.{Calls, argument_sites, call_sites, cond_sites, rhs_sites, right_step}
use Rattle.c_typing.specs.Sites.{simple_sites, target_sites, value_sites, want_of_kind, want_of_target}
use Rattle.c_typing.specs.Texts.{Text, each_of, has, joined}
use Rattle.c_typing.specs.Typing.{breaches_at}
use Rattle.c_typing.specs.declared.meaning.Kind.{Kind}
use Rattle.c_typing.specs.declared.meaning.Kind.TheVariants.{Points, Datum}
use Rattle.c_typing.specs.declared.meaning.Meaning.{Meaning}
use Rattle.c_typing.specs.declared.meaning.Spot.TheVariants.{Statement, Right as RightSpot}
use Rattle.c_typing.specs.declared.meaning.Want.{Want}
use Rattle.c_typing.proofs.CalleeLayers as named
use Rattle.c_typing.proofs.Clean.{IsClean, call_right, clean_first, clean_parts, new_variable}
use Rattle.c_typing.proofs.OwnMeanings.{OwnMeaning, args_own, assigned_own, arg_own, cond_own, data_rhs_own, dest_own}
use Rattle.c_typing.proofs.OwnMeanings.{freed_own, maybe_cond_own, operand_own, path_own, ptr_rhs_own, returned_own}
use Rattle.c_typing.proofs.OwnMeanings.{turned_back}
use Rattle.c_typing.proofs.OwnScopes.{IsOpen, Own, OwnVar, next_own, open_all, open_declared}
use Rattle.c_typing.proofs.OwnScopes.{outer-all_declared, own_back_all, own_together}
use Rattle.c_typing.proofs.OwnVariables.{ref}
use Rattle.c_typing.proofs.ProgramLayers as made
use Rattle.c_typing.proofs.ScopeLayers as past
use Rattle.c_typing.proofs.ScopeLaws.{home-all_declared, home-declared, part_back, stmt_keeps}
use Rattle.c_typing.proofs.SiteLayers as sites
use Rattle.c_typing.proofs.Trees.{OfOption, Cases, block_holds, part_holds}

-- a call is of its name, and of what its operands call
called_first : (c : Call) → call_callees c
    ≡ (out-Call c).name.text ∷ joined (map operand_callees (out-Call c).operands)
called_first c = ap call_callees (sym (roll-out-Call c))
    ∙ named.callees-operands (out-Call c).name (out-Call c).operands

operand_called : (o : Operand) (c : Call) → out-Operand o ≡ operand.Call c → operand_callees o
    ≡ (out-Call c).name.text ∷ joined (map operand_callees (out-Call c).operands)
operand_called o c is =
    ap operand_callees (sym (roll-out-Operand o) ∙ ap roll-Operand is ∙ operand'.rolls-Call c)
    ∙ named.callees-Call c ∙ called_first c

module _ (g : Globals) (A : VarRef → Type 0) (C : ℕ → Type 0) (M : Text → Type 0) (H : Option ℕ)
    (may : (x : Text) (f : ℕ) → M x → called_number g x ≡ Some f → recurs g H x ≡ false → C f) where
  abbrev pub RightStmt : Stmt → Type 0
  RightStmt s = Every A (stmt_names s) × Every C (stmt_calls s)

  abbrev pub Right : List Stmt → Type 0
  Right ss = Every RightStmt ss

  abbrev pub Owned : List Stmt → Type 0
  Owned ss = Every (λ s. Every A (stmt_declares s)) ss

  do_right : (a : Act) (line : ℕ) → Every A (act_names a) → Right (Do a line ∷ [])
  do_right a line own = ((subst (Every A) (sym (names-Do a line)) own, subst (Every C) (sym (calls-Do a line)) tt), tt)

  pub names_turned : (ss : List Stmt) → Right ss → Every A (in_turn (map stmt_names ss))
  names_turned [] all = tt
  names_turned (s ∷ ss) all =
      every_append A (stmt_names s) (in_turn (map stmt_names ss)) all.0.0 (names_turned ss all.1)

  pub calls_turned : (ss : List Stmt) → Right ss → Every C (in_turn (map stmt_calls ss))
  calls_turned [] all = tt
  calls_turned (s ∷ ss) all =
      every_append C (stmt_calls s) (in_turn (map stmt_calls ss)) all.0.1 (calls_turned ss all.1)

  three_names : (c : Cond) (x y : List Stmt) → Every A (cond_names c) → Right x → Right y
      → Every A (cond_names c ++ in_turn (map stmt_names x) ++ in_turn (map stmt_names y))
  three_names c x y test left right =
      every_append A (cond_names c ++ in_turn (map stmt_names x)) (in_turn (map stmt_names y))
      (every_append A (cond_names c) (in_turn (map stmt_names x)) test (names_turned x left)) (names_turned y right)

  two_calls : (x y : List Stmt) → Right x → Right y
      → Every C (in_turn (map stmt_calls x) ++ in_turn (map stmt_calls y))
  two_calls x y left right = every_append C (in_turn (map stmt_calls x)) (in_turn (map stmt_calls y))
      (calls_turned x left) (calls_turned y right)

  branch_right : (c : Cond) (x y : List Stmt) → Every A (cond_names c) → Right x → Right y
      → RightStmt (Branch c x y)
  branch_right c x y test left right = (
    subst (Every A) (sym (names-Branch c x y)) (three_names c x y test left right),
    subst (Every C) (sym (calls-Branch c x y)) (two_calls x y left right),
  )

  for_right : (c : Cond) (n b : List Stmt) → Every A (cond_names c) → Right n → Right b → RightStmt (For c n b)
  for_right c n b test left right = (
    subst (Every A) (sym (names-For c n b)) (three_names c n b test left right),
    subst (Every C) (sym (calls-For c n b)) (two_calls n b left right),
  )

  while_right : (c : Cond) (b : List Stmt) → Every A (cond_names c) → Right b → RightStmt (While c b)
  while_right c b test round = (
    subst (Every A) (sym (names-While c b))
        (every_append A (cond_names c) (in_turn (map stmt_names b)) test (names_turned b round)),
    subst (Every C) (sym (calls-While c b)) (calls_turned b round),
  )

  do_while_right : (c : Cond) (b : List Stmt) → Every A (cond_names c) → Right b → RightStmt (DoWhile c b)
  do_while_right c b test round = (
    subst (Every A) (sym (names-DoWhile c b))
        (every_append A (cond_names c) (in_turn (map stmt_names b)) test (names_turned b round)),
    subst (Every C) (sym (calls-DoWhile c b)) (calls_turned b round),
  )

  group_right : (b : List Stmt) (ps ds : List ℕ) (line : ℕ) → Right b → RightStmt (Group b ps ds line)
  group_right b ps ds line all = (
    subst (Every A) (sym (names-Group b ps ds line)) (names_turned b all),
    subst (Every C) (sym (calls-Group b ps ds line)) (calls_turned b all),
  )

  -- what parts declare is declared

  owned_two : (x y : List Stmt) → Every A (in_turn (map stmt_declares x) ++ in_turn (map stmt_declares y))
      → Owned x × Owned y
  owned_two x y own =
      let halves : Every A (in_turn (map stmt_declares x)) × Every A (in_turn (map stmt_declares y)) =
      every_parts A (in_turn (map stmt_declares x)) (in_turn (map stmt_declares y)) own in
      (turned_back A stmt_declares x halves.0, turned_back A stmt_declares y halves.1)

  one_own : (k : Kind) (n : ℕ) → Every (λ x. A (Ptr x)) (ptr_before k n) → Every (λ x. A (Data x)) (datum_before k n)
      → A (ref k n)
  one_own (Points to) n ps ds = ps.0
  one_own Datum n ps ds = ds.0

  numbers_own : (ws : List Var) → Every (λ x. A (Ptr x)) (ptrs_of ws) → Every (λ x. A (Data x)) (datums_of ws)
      → Every (OwnVar A) ws
  numbers_own [] ps ds = tt
  numbers_own (w ∷ ws) ps ds =
      let left : Every (λ x. A (Ptr x)) (ptrs_of ws) × Every (λ x. A (Ptr x)) (ptr_before w.kind w.number) =
      every_parts (λ x. A (Ptr x)) (ptrs_of ws) (ptr_before w.kind w.number) ps in
      let right : Every (λ x. A (Data x)) (datums_of ws) × Every (λ x. A (Data x)) (datum_before w.kind w.number) =
      every_parts (λ x. A (Data x)) (datums_of ws) (datum_before w.kind w.number) ds in
      (one_own w.kind w.number left.1 right.1, numbers_own ws left.0 right.0)

  -- what is in scope at the end of a block, and what is declared in it
  group_owned : (body : List Stmt) (scope : Scope) (line : ℕ) → Owned (grouped body scope line ∷ [])
      → Own A (outer scope.blocks) → Own A scope.blocks × Owned body
  group_owned body scope line own rest =
      let ps : List ℕ = ptrs_of (innermost scope.blocks) in
      let ds : List ℕ = datums_of (innermost scope.blocks) in
      let whole : Every A ((map (λ x. Ptr x) ps ++ map (λ x. Data x) ds) ++ in_turn (map stmt_declares body)) =
      subst (Every A) (declares-Group body ps ds line) own.0 in
      let parts : Every A (map (λ x. Ptr x) ps ++ map (λ x. Data x) ds) × Every A (in_turn (map stmt_declares body)) =
      every_parts A (map (λ x. Ptr x) ps ++ map (λ x. Data x) ds) (in_turn (map stmt_declares body)) whole in
      let halves : Every A (map (λ x. Ptr x) ps) × Every A (map (λ x. Data x) ds) =
      every_parts A (map (λ x. Ptr x) ps) (map (λ x. Data x) ds) parts.0 in (
        own_together A scope.blocks
            (numbers_own (innermost scope.blocks) (every_mapped (λ x. Ptr x) A ps halves.0)
            (every_mapped (λ x. Data x) A ds halves.1)) rest,
        turned_back A stmt_declares body parts.1,
      )

  -- Calls and assignments

  call_stmt_right : (scope : Scope) → Own A scope.blocks → (x : Text) (os : List Operand) (to : Option Dest) (a : Act)
      (line : ℕ) → M x → recurs g H x ≡ false → Every A (maybe_names dest_names to) → Every A (act_names a)
      → (k : Option ℕ) → called_number g x ≡ k → Right (call_stmt g scope k os to a line ∷ [])
  call_stmt_right scope own x os to a line there free target named' None is = do_right a line named'
  call_stmt_right scope own x os to a line there free target named' (Some f) is =
      let ks : List Kind = params_in (function_at g (Some f)) in (
        (
          subst (Every A) (sym (names-Call f (args_of g scope ks os) to line))
              (every_append A (flat_map arg_names (args_of g scope ks os)) (maybe_names dest_names to)
              (args_own g A scope own ks os) target),
          subst (Every C) (sym (calls-Call f (args_of g scope ks os) to line)) (may x f there is free, tt),
        ),
        tt,
      )

  module _ (scope : Scope) (home : scope.home ≡ H) (own : Own A scope.blocks) where
    -- the call of a name does not lead back
    free_of : (spot : _) (c : Call) → IsClean g (call_sites g scope spot c)
        → recurs g H (out-Call c).name.text ≡ false
    free_of spot c clean =
        subst (λ h. recurs g h (out-Call c).name.text ≡ false) home
        (call_right g scope spot (out-Call c).name (out-Call c).operands
        (clean_first g (Calls scope spot (out-Call c).name (out-Call c).operands) [] clean).0).0

    act_own : (target : Meaning) (o : Operand) → OwnMeaning g A target
        → Every A (act_names (assignment g scope target (rhs.Operand o)))
    act_own target o mine =
        assigned_own g A target _ _ mine (ptr_rhs_own g A (meaning_of_operand g scope o) (operand_own g A scope own o))
        (data_rhs_own g A (meaning_of_operand g scope o) (operand_own g A scope own o))

    operand_right : (target : Meaning) (w : Want) (o : Operand) (y : Operand-F Operand Call) (line : ℕ)
        → OwnMeaning g A target → out-Operand o ≡ y → IsClean g (right_step g scope w o y)
        → Every M (operand_callees o)
        → Right (stored g scope (call_in y) (dest_of target) (assignment g scope target (rhs.Operand o)) line ∷ [])
    operand_right target w o (operand.Call c) line mine is clean all =
        let calls : IsClean g (call_sites g scope RightSpot c) =
        (clean_parts g (value_sites g scope w c) (call_sites g scope RightSpot c)
        (clean_parts g (value_sites g scope w c ++ call_sites g scope RightSpot c)
        (argument_sites g scope c) clean).0).1
        in
        call_stmt_right scope own (out-Call c).name.text (out-Call c).operands (dest_of target) _ line
        (subst (Every M) (operand_called o c is) all).0 (free_of RightSpot c calls) (dest_own g A target mine)
        (act_own target o mine) (called_number g (out-Call c).name.text) refl
    operand_right target w o _ line mine is clean all = do_right _ line (act_own target o mine)

    assign_right : (target : Meaning) (w : Want) (r : Rhs) (line : ℕ) → OwnMeaning g A target
        → IsClean g (rhs_sites g scope w r) → Every M (rhs_callees r)
        → Right (assign_stmt g scope target r line ∷ [])
    assign_right target w (rhs.Operand o) line mine clean all =
        operand_right target w o (out-Operand o) line mine refl clean all
    assign_right target w (rhs.Malloc cast at size) line mine clean all =
        do_right _ line
        (assigned_own g A target (ptr_rhs.New (target_struct target)) (data_rhs.Known 0) mine tt tt)

    call_act_own : (x : Text) → Every A (act_names (call_act x))
    call_act_own x = either (has x errors)
      where
        either : (b : Bool) → Every A (act_names (cond b act.Error act.Halt))
        either true = tt
        either false = tt

    pub simple_right : (s : Simple) → IsClean g (simple_sites g scope s) → Every M (simple_callees s)
        → Right (simple_stmts g scope s)
    simple_right (simple.Assign to from) clean all =
        assign_right (meaning_of_path g scope to) (want_of_target (meaning_of_path g scope to)) from to.head.at.line
        (path_own g A scope own to)
        (clean_parts g (target_sites g scope to)
        (rhs_sites g scope (want_of_target (meaning_of_path g scope to)) from) clean).1 all
    simple_right (simple.Call c) clean all =
        call_stmt_right scope own (out-Call c).name.text (out-Call c).operands None (call_act (out-Call c).name.text)
        (out-Call c).name.at.line (subst (Every M) (called_first c) all).0
        (free_of Statement c (clean_parts g (call_sites g scope Statement c) (argument_sites g scope c) clean).0) tt
        (call_act_own (out-Call c).name.text) (called_number g (out-Call c).name.text) refl
    simple_right (simple.Free at p) clean all =
        do_right _ at.line (freed_own g A (meaning_of_path g scope p) (path_own g A scope own p))

    pub maybe_simple_right : (s : Option Simple) → IsClean g (maybe_sites (simple_sites g scope) s)
        → Every M (maybe_callees simple_callees s) → Right (maybe_simple g scope s)
    maybe_simple_right None clean all = tt
    maybe_simple_right (Some s) clean all = simple_right s clean all

    value_own : (k : Option Kind) (o : Option Operand) → Every A (maybe_names arg_names (returned_value g scope k o))
    value_own None o = tt
    value_own (Some k) None = tt
    value_own (Some k) (Some o) = arg_own g A k (meaning_of_operand g scope o) (operand_own g A scope own o)

    return_own : (h : Option ℕ) (o : Option Operand) → Every A (act_names (return_act g scope h o))
    return_own None None = tt
    return_own None (Some o) = returned_own g A (meaning_of_operand g scope o) (operand_own g A scope own o)
    return_own (Some f) o = value_own (result_at g f) o

  -- Declarations

  next_mine : (scope : Scope) (k : Kind) → A (next_ref k scope) → OwnMeaning g A (next_variable scope k)
  next_mine scope (Points to) own = own
  next_mine scope Datum own = (own, tt)

  initialised_right : (scope : Scope) (k : Kind) (d : Declarator) → scope.home ≡ H
      → Own A (declared scope d.name.text k).blocks → A (next_ref k scope) → (from : Option Rhs)
      → IsClean g (maybe_sites (rhs_sites g (declared scope d.name.text k) (want_of_kind k)) from)
      → Every M (maybe_callees rhs_callees from)
      → Right (initialised g (declared scope d.name.text k) (next_variable scope k) d.name.at.line from)
  initialised_right scope k d home own mine None clean all = tt
  initialised_right scope k d home own mine (Some r) clean all =
      assign_right (declared scope d.name.text k) (home-declared scope d.name.text k ∙ home) own (next_variable scope k)
      (want_of_kind k) r d.name.at.line (next_mine scope k mine) clean all

  declarators_right : (k : Kind) (ds : List Declarator) (scope : Scope) → IsOpen scope.blocks → scope.home ≡ H
      → Own A (all_declared k ds scope).blocks → IsClean g (declarators_sites g k ds scope)
      → Every M (each_of declarator_callees ds) → Right (declarators_stmts g k ds scope)
  declarators_right k [] scope o home own clean all = tt
  declarators_right k (d ∷ ds) scope o home own clean all =
      let here : Own A (declared scope d.name.text k).blocks =
      own_back_all A k ds (declared scope d.name.text k) own in
      let halves : IsClean g (declarator_sites g k scope d)
      × IsClean g (declarators_sites g k ds (declared scope d.name.text k)) =
      clean_parts g (declarator_sites g k scope d) (declarators_sites g k ds (declared scope d.name.text k)) clean in
      let front : (breaches_at g (site.Defines site.Variable d.name (map var_name (innermost scope.blocks))
      (declared_so_far scope)) ≡ [])
      × IsClean g (maybe_sites (rhs_sites g (declared scope d.name.text k) (want_of_kind k)) d.from) =
      clean_first g (site.Defines site.Variable d.name (map var_name (innermost scope.blocks)) (declared_so_far scope))
      (maybe_sites (rhs_sites g (declared scope d.name.text k) (want_of_kind k)) d.from) halves.0 in
      let names : Every M (declarator_callees d) × Every M (each_of declarator_callees ds) =
      every_parts M (declarator_callees d) (each_of declarator_callees ds) all in
      let mine : A (next_ref k scope) =
      next_own A scope d.name.text k o
      (new_variable g d.name (map var_name (innermost scope.blocks)) (declared_so_far scope) front.0) here in
      every_append RightStmt
      (initialised g (declared scope d.name.text k) (next_variable scope k) d.name.at.line d.from)
      (declarators_stmts g k ds (declared scope d.name.text k))
      (initialised_right scope k d home here mine d.from front.1 names.0)
      (declarators_right k ds (declared scope d.name.text k) (open_declared scope d.name.text k o)
      (home-declared scope d.name.text k ∙ home) own halves.1 names.1)

  declare_named : (d : Declare) → Every M (declare_callees d) → Every M (each_of declarator_callees (declarators_of d))
  declare_named (declare.Pointers at name vars) all = all
  declare_named (declare.Datums base vars) all = all

  declare_right : (d : Declare) (scope : Scope) → IsOpen scope.blocks → scope.home ≡ H
      → Own A (past_declare g d scope).blocks → IsClean g (declare_sites g d scope) → Every M (declare_callees d)
      → Right (declare_stmts g d scope)
  declare_right d scope o home own clean all =
      declarators_right (kind_of g d) (declarators_of d) scope o home own
      (clean_parts g (type_sites d) (declarators_sites g (kind_of g d) (declarators_of d) scope) clean).1
      (declare_named d all)

  -- What is known of the scope before a part of a block, by the one after it

  abbrev Facts : Scope → Scope → Type 0
  Facts before after = (Own A after.blocks → Own A before.blocks)
      × ((IsOpen before.blocks → IsOpen after.blocks) × (outer after.blocks ≡ outer before.blocks))

  abbrev PartFacts : part.Part → Type 0
  PartFacts p = (scope : Scope) → Facts scope (past_part g p scope)

  facts_same : (before after : Scope) → after.blocks ≡ before.blocks → Facts before after
  facts_same before after same =
      (subst (Own A) same, (subst IsOpen (sym same), ap outer same))

  facts_cases : Cases PartFacts (λ s. Unit {0}) (λ b. Unit {0})
  facts_cases = record {
    of_Declare = λ d scope. subst (Facts scope) (sym (past.past-Declare g d scope)) (
      own_back_all A (kind_of g d) (declarators_of d) scope,
      (open_all (kind_of g d) (declarators_of d) scope, outer-all_declared (kind_of g d) (declarators_of d) scope),
    );
    of_Stmt = λ s u scope. subst (Facts scope) (sym (past.past-Stmt g s scope))
        (facts_same scope (past_stmt g s scope) (stmt_keeps g [] 0 s scope).0);
    of_parts = λ at close parts all. tt;
    of_Empty = λ at. tt;
    of_Block = λ b u. tt;
    of_Simple = λ s. tt;
    of_If = λ at c s other u u'. tt;
    of_While = λ at c body u. tt;
    of_Do = λ at body c u. tt;
    of_For = λ at f c next body u. tt;
    of_Return = λ at o. tt;
    of_Break = λ at. tt;
    of_Continue = λ at. tt;
    of_Assert = λ at c. tt;
  }

  part_facts : (p : part.Part) → PartFacts p
  part_facts = part_holds PartFacts (λ s. Unit {0}) (λ b. Unit {0}) facts_cases

  parts_facts : (ps : List part.Part) (scope : Scope) → Facts scope (past_parts g ps scope)
  parts_facts [] scope = (λ own. own, (λ o. o, refl))
  parts_facts (p ∷ ps) scope =
      let one : Facts scope (past_part g p scope) = part_facts p scope in
      let rest : Facts (past_part g p scope) (past_parts g ps (past_part g p scope)) =
      parts_facts ps (past_part g p scope) in
      (λ own. one.0 (rest.0 own), (λ o. rest.1.0 (one.1.0 o), rest.1.1 ∙ one.1.1))

  -- Statements

  abbrev PartOk : part.Part → Type 0
  PartOk p = (loop : Bool) (scope : Scope) → IsOpen scope.blocks → scope.home ≡ H
      → Own A (past_part g p scope).blocks → Owned (part_stmts g p scope) → IsClean g (part_sites g p loop scope)
      → Every M (part_callees p) → Right (part_stmts g p scope)

  abbrev StmtOk : tree'.Stmt → Type 0
  StmtOk s = (loop : Bool) (scope : Scope) → scope.home ≡ H → Own A scope.blocks → Owned (stmt_stmts g s scope)
      → IsClean g (stmt_sites g s loop scope) → Every M (stmt_callees s) → Right (stmt_stmts g s scope)

  abbrev BlockOk : Block → Type 0
  BlockOk b = (loop : Bool) (scope : Scope) → scope.home ≡ H → Own A scope.blocks → Owned (block_stmts g b scope)
      → IsClean g (block_sites g b loop scope) → Every M (block_callees b) → Right (block_stmts g b scope)

  parts_right : (ps : List part.Part) → Every PartOk ps → (loop : Bool) (scope : Scope) → IsOpen scope.blocks
      → scope.home ≡ H → Own A (past_parts g ps scope).blocks → Owned (parts_stmts g ps scope)
      → IsClean g (parts_sites g ps loop scope) → Every M (joined (map part_callees ps))
      → Right (parts_stmts g ps scope)
  parts_right [] all loop scope o home own declares clean names = tt
  parts_right (p ∷ ps) all loop scope o home own declares clean names =
      let next : Scope = past_part g p scope in
      let halves : IsClean g (part_sites g p loop scope) × IsClean g (parts_sites g ps loop next) =
      clean_parts g (part_sites g p loop scope) (parts_sites g ps loop next) clean in
      let mine : Owned (part_stmts g p scope) × Owned (parts_stmts g ps next) =
      every_parts (λ s. Every A (stmt_declares s)) (part_stmts g p scope) (parts_stmts g ps next) declares in
      let called' : Every M (part_callees p) × Every M (joined (map part_callees ps)) =
      every_parts M (part_callees p) (joined (map part_callees ps)) names in
      every_append RightStmt (part_stmts g p scope) (parts_stmts g ps next)
      (all.0 loop scope o home ((parts_facts ps next).0 own) mine.0 halves.0 called'.0)
      (parts_right ps all.1 loop next ((part_facts p scope).1.0 o) ((part_back g [] 0 p scope).1 ∙ home) own mine.1
      halves.1 called'.1)

  other_right : (other : Option tree'.Stmt) → OfOption StmtOk other → (loop : Bool) (scope : Scope) → scope.home ≡ H
      → Own A scope.blocks → Owned (other_stmts g other scope) → IsClean g (other_sites g other loop scope)
      → Every M (other_callees other) → Right (other_stmts g other scope)
  other_right None ok loop scope home own declares clean names = tt
  other_right (Some s) ok loop scope home own declares clean names = ok loop scope home own declares clean names

  -- facts of equal statements
  told : (made ss : List Stmt) → made ≡ ss → (Owned ss → Right ss) → Owned made → Right made
  told made ss is f own = subst Right (sym is) (f (subst Owned is own))

  of_parts : (at close : Place) (parts : List part.Part) → Every PartOk parts
      → BlockOk (roll-Block (record { at = at; parts = parts; close = close }))
  of_parts at close parts all loop scope home own declares clean names =
      told _ _ (made.made-parts g at close parts scope) (λ mine.
      let after : Scope = past_parts g parts (opened scope) in
      let body : List Stmt = parts_stmts g parts (opened scope) in
      let end : Own A after.blocks × Owned body =
      group_owned body after close.line mine
      (subst (Own A) (sym (parts_facts parts (opened scope)).1.1) own) in (
        group_right body (ptrs_of (innermost after.blocks)) (datums_of (innermost after.blocks)) close.line
            (parts_right parts all loop (opened scope) tt home end.0 end.1
            (subst (IsClean g) (sites.block-parts g at close parts loop scope) clean)
            (subst (Every M) (named.callees-parts at close parts) names)),
        tt,
      )) declares

  of_if : (at : Place) (c : tree.Cond) (s : tree'.Stmt) (other : Option tree'.Stmt) → StmtOk s → OfOption StmtOk other
      → StmtOk (stmt.If at c s other)
  of_if at c s other ok ok' loop scope home own declares clean names =
      let mid : Scope = past_stmt g s scope in
      let parts : IsClean g (cond_sites g scope c ++ stmt_sites g s loop scope)
      × IsClean g (other_sites g other loop mid) =
      clean_parts g (cond_sites g scope c ++ stmt_sites g s loop scope) (other_sites g other loop mid)
      (subst (IsClean g) (sites.stmt-If g at c s other loop scope) clean) in
      let called' : Every M (cond_callees c ++ stmt_callees s) × Every M (other_callees other) =
      every_parts M (cond_callees c ++ stmt_callees s) (other_callees other)
      (subst (Every M) (named.callees-If-stmt at c s other) names) in
      told _ _ (made.made-If-stmt g at c s other scope) (λ mine.
      let halves : Owned (stmt_stmts g s scope) × Owned (other_stmts g other mid) =
      owned_two (stmt_stmts g s scope) (other_stmts g other mid)
      (subst (Every A)
      (declares-Branch (cond_of g scope c) (stmt_stmts g s scope) (other_stmts g other mid)) mine.0) in (
        branch_right (cond_of g scope c) (stmt_stmts g s scope) (other_stmts g other mid) (cond_own g A scope own c)
            (ok loop scope home own halves.0
            (clean_parts g (cond_sites g scope c) (stmt_sites g s loop scope) parts.0).1
            (every_parts M (cond_callees c) (stmt_callees s) called'.0).1)
            (other_right other ok' loop mid ((stmt_keeps g [] 0 s scope).1.1 ∙ home)
            (subst (Own A) (sym (stmt_keeps g [] 0 s scope).0) own) halves.1 parts.1 called'.1),
        tt,
      )) declares

  of_while : (at : Place) (c : tree.Cond) (body : tree'.Stmt) → StmtOk body → StmtOk (stmt.While at c body)
  of_while at c body ok loop scope home own declares clean names =
      told _ _ (made.made-While-stmt g at c body scope) (λ mine. (
        while_right (cond_of g scope c) (stmt_stmts g body scope) (cond_own g A scope own c)
            (ok true scope home own
            (turned_back A stmt_declares (stmt_stmts g body scope)
            (subst (Every A) (declares-While (cond_of g scope c) (stmt_stmts g body scope)) mine.0))
            (clean_parts g (cond_sites g scope c) (stmt_sites g body true scope)
            (subst (IsClean g) (sites.stmt-While g at c body loop scope) clean)).1
            (every_parts M (cond_callees c) (stmt_callees body)
            (subst (Every M) (named.callees-While-stmt at c body) names)).1),
        tt,
      )) declares

  of_do : (at : Place) (body : tree'.Stmt) (c : tree.Cond) → StmtOk body → StmtOk (stmt.Do at body c)
  of_do at body c ok loop scope home own declares clean names =
      told _ _ (made.made-Do-stmt g at body c scope) (λ mine. (
        do_while_right (cond_of g scope c) (stmt_stmts g body scope) (cond_own g A scope own c)
            (ok true scope home own
            (turned_back A stmt_declares (stmt_stmts g body scope)
            (subst (Every A) (declares-DoWhile (cond_of g scope c) (stmt_stmts g body scope)) mine.0))
            (clean_parts g (stmt_sites g body true scope) (cond_sites g scope c)
            (subst (IsClean g) (sites.stmt-Do g at body c loop scope) clean)).0
            (every_parts M (stmt_callees body) (cond_callees c)
            (subst (Every M) (named.callees-Do-stmt at body c) names)).0),
        tt,
      )) declares

  -- a loop of a `for`, in the scope behind its head
  loop_right : (at : Place) (c : Option tree.Cond) (next : Option Simple) (body : tree'.Stmt) (scope : Scope)
      → StmtOk body → scope.home ≡ H → Own A scope.blocks
      → Owned (loop_of g at c next (body, stmt_stmts g body) scope ∷ [])
      → IsClean g (rest_sites g c next (body, stmt_sites g body) scope)
      → Every M (maybe_callees simple_callees next) → Every M (stmt_callees body)
      → Right (loop_of g at c next (body, stmt_stmts g body) scope ∷ [])
  loop_right at c next body scope ok home own declares clean steps rounds =
      let halves : Owned (maybe_simple g scope next) × Owned (stmt_stmts g body scope) =
      owned_two (maybe_simple g scope next) (stmt_stmts g body scope)
      (subst (Every A)
      (declares-For (maybe_cond g scope at.line c) (maybe_simple g scope next) (stmt_stmts g body scope))
      declares.0) in
      let parts : IsClean g (maybe_sites (cond_sites g scope) c ++ maybe_sites (simple_sites g scope) next)
      × IsClean g (stmt_sites g body true scope) =
      clean_parts g (maybe_sites (cond_sites g scope) c ++ maybe_sites (simple_sites g scope) next)
      (stmt_sites g body true scope) clean in (
        for_right (maybe_cond g scope at.line c) (maybe_simple g scope next) (stmt_stmts g body scope)
            (maybe_cond_own g A scope own at.line c)
            (maybe_simple_right scope home own next
            (clean_parts g (maybe_sites (cond_sites g scope) c) (maybe_sites (simple_sites g scope) next) parts.0).1
            steps) (ok true scope home own halves.1 parts.1 rounds),
        tt,
      )

  for_parts_right : (f : First) (at : Place) (c : Option tree.Cond) (next : Option Simple) (body : tree'.Stmt)
      (scope : Scope) → StmtOk body → scope.home ≡ H → Own A scope.blocks
      → IsClean g (first_sites g f (opened scope))
      → IsClean g (rest_sites g c next (body, stmt_sites g body) (past_first g f (opened scope)))
      → Every M (first_callees f) → Every M (maybe_callees simple_callees next) → Every M (stmt_callees body)
      → Owned (for_stmts g f at c next (body, stmt_stmts g body) scope)
      → Right (for_stmts g f at c next (body, stmt_stmts g body) scope)
  for_parts_right (first.Declare d) at c next body scope ok home own clean rest heads steps rounds declares =
      let inner : Scope = past_declare g d (opened scope) in
      let loop : Stmt = loop_of g at c next (body, stmt_stmts g body) inner in
      let end : Own A inner.blocks × Owned (declare_stmts g d (opened scope) ++ loop ∷ []) =
      group_owned (declare_stmts g d (opened scope) ++ loop ∷ []) inner at.line declares
      (subst (Own A) (sym (outer-all_declared (kind_of g d) (declarators_of d) (opened scope))) own) in
      let mine : Owned (declare_stmts g d (opened scope)) × Owned (loop ∷ []) =
      every_parts (λ s. Every A (stmt_declares s)) (declare_stmts g d (opened scope)) (loop ∷ []) end.1 in (
        group_right (declare_stmts g d (opened scope) ++ loop ∷ []) (ptrs_of (innermost inner.blocks))
            (datums_of (innermost inner.blocks)) at.line
            (every_append RightStmt (declare_stmts g d (opened scope)) (loop ∷ [])
            (declare_right d (opened scope) tt home end.0 clean heads)
            (loop_right at c next body inner ok
            (home-all_declared (kind_of g d) (declarators_of d) (opened scope) ∙ home) end.0 mine.1 rest steps rounds)),
        tt,
      )
  for_parts_right (first.Simple s) at c next body scope ok home own clean rest heads steps rounds declares =
      let loop : Stmt = loop_of g at c next (body, stmt_stmts g body) (opened scope) in
      let mine : Owned (simple_stmts g (opened scope) s) × Owned (loop ∷ []) =
      every_parts (λ s. Every A (stmt_declares s)) (simple_stmts g (opened scope) s) (loop ∷ []) declares in
      every_append RightStmt (simple_stmts g (opened scope) s) (loop ∷ [])
      (simple_right (opened scope) home own s clean heads)
      (loop_right at c next body (opened scope) ok home own mine.1 rest steps rounds)
  for_parts_right first.Nothing at c next body scope ok home own clean rest heads steps rounds declares =
      loop_right at c next body (opened scope) ok home own declares rest steps rounds

  of_for : (at : Place) (f : First) (c : Option tree.Cond) (next : Option Simple) (body : tree'.Stmt) → StmtOk body
      → StmtOk (stmt.For at f c next body)
  of_for at f c next body ok loop scope home own declares clean names =
      let parts : IsClean g (first_sites g f (opened scope))
      × IsClean g (rest_sites g c next (body, stmt_sites g body) (past_first g f (opened scope))) =
      clean_parts g (first_sites g f (opened scope))
      (rest_sites g c next (body, stmt_sites g body) (past_first g f (opened scope)))
      (subst (IsClean g) (sites.stmt-For g at f c next body loop scope) clean) in
      let called' : Every M (first_callees f ++ maybe_callees cond_callees c ++ maybe_callees simple_callees next)
      × Every M (stmt_callees body) =
      every_parts M (first_callees f ++ maybe_callees cond_callees c ++ maybe_callees simple_callees next)
      (stmt_callees body) (subst (Every M) (named.callees-For-stmt at f c next body) names) in
      let heads : Every M (first_callees f ++ maybe_callees cond_callees c)
      × Every M (maybe_callees simple_callees next) =
      every_parts M (first_callees f ++ maybe_callees cond_callees c) (maybe_callees simple_callees next) called'.0 in
      told _ _ (made.made-For-stmt g at f c next body scope)
      (for_parts_right f at c next body scope ok home own parts.0 parts.1
      (every_parts M (first_callees f) (maybe_callees cond_callees c) heads.0).0 heads.1 called'.1) declares

  right_cases : Cases PartOk StmtOk BlockOk
  right_cases = record {
    of_Declare = λ d loop scope o home own declares clean names.
        subst Right (sym (made.made-Declare g d scope))
        (declare_right d scope o home (subst (λ s. Own A s.blocks) (past.past-Declare g d scope) own)
        (subst (IsClean g) (sites.part-Declare g d loop scope) clean)
        (subst (Every M) (named.callees-Declare d) names));
    of_Stmt = λ s ok loop scope o home own declares clean names.
        told _ _ (made.made-Stmt g s scope) (λ mine.
        ok loop scope home ((part_facts (part'.Stmt s) scope).0 own) mine
        (subst (IsClean g) (sites.part-Stmt g s loop scope) clean)
        (subst (Every M) (named.callees-Stmt s) names)) declares;
    of_parts = of_parts;
    of_Empty = λ at loop scope home own declares clean names. subst Right (sym (made.made-Empty-stmt g at scope)) tt;
    of_Block = λ b ok loop scope home own declares clean names.
        told _ _ (made.made-Block-stmt g b scope) (λ mine.
        ok loop scope home own mine (subst (IsClean g) (sites.stmt-Block g b loop scope) clean)
        (subst (Every M) (named.callees-Block-stmt b) names)) declares;
    of_Simple = λ s loop scope home own declares clean names.
        subst Right (sym (made.made-Simple-stmt g s scope))
        (simple_right scope home own s (subst (IsClean g) (sites.stmt-Simple g s loop scope) clean)
        (subst (Every M) (named.callees-Simple-stmt s) names));
    of_If = of_if;
    of_While = of_while;
    of_Do = of_do;
    of_For = of_for;
    of_Return = λ at o loop scope home own declares clean names.
        subst Right (sym (made.made-Return-stmt g at o scope))
        (do_right (return_act g scope scope.home o) at.line (return_own scope home own scope.home o));
    of_Break = λ at loop scope home own declares clean names.
        subst Right (sym (made.made-Break-stmt g at scope)) (do_right act.Break at.line tt);
    of_Continue = λ at loop scope home own declares clean names.
        subst Right (sym (made.made-Continue-stmt g at scope)) (do_right act.Continue at.line tt);
    of_Assert = λ at x loop scope home own declares clean names.
        subst Right (sym (made.made-Assert-stmt g at x scope)) (
          branch_right (cond_of g scope x) [] (Do act.Error at.line ∷ []) (cond_own g A scope own x) tt
              (do_right act.Error at.line tt),
          tt,
        );
  }

  pub block_right : (b : Block) → BlockOk b
  block_right = block_holds PartOk StmtOk BlockOk right_cases
