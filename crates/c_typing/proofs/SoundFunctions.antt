-- Where nothing is broken, each function of a file is one of the program's, its body is typed and names variables of
-- its own, and what it calls does not lead back to it.
use Rattle.std.proofs.Common.{◌≡◌, ◌<◌, ℕ, suc, Bool, true, false, cond, ◌&&◌, nat_eq, List, [], ◌∷◌, ◌++◌}
use Rattle.std.proofs.Common.{length}
use Rattle.std.proofs.Common.{map, codes, Option, Some, None, inl, inr, refl, sym, ap, ◌∙◌, subst, arith}
use Rattle.std.proofs.lemmas.Bool.{and_from, or_parts}
use Rattle.std.proofs.lemmas.List.{append_assoc, length-append}
use Rattle.std.proofs.lemmas.Option.{none-some}
use Rattle.std.specs.Cmp.Lexicographic.{bytes_decides}
use Rattle.std.specs.List.{flat_map}
use Rattle.fore_base.proofs.ListLemmas.{every_append, every_tests, every_weaker, in_any, in_every, in_left, in_right}
use Rattle.fore_base.specs.Lists.{IsIn, Every}
use Rattle.c_ast.specs.declared.items.Head.{Head}
use Rattle.c_ast.specs.declared.items.Item.{Item}
use Rattle.c_ast.specs.declared.items.Item.TheVariants as item
use Rattle.c_ast.specs.declared.items.Param.{Param}
use Rattle.c_ast.specs.declared.statements.Block.{Block}
use Rattle.c_calls.specs.Calls.{called_by, leads_within}
use Rattle.c_calls.proofs.Places.{called_got}
use Rattle.c_types.specs.Bodies.{all_among, body_calls, body_declares, body_names, is_among, keeps_to_own, own_vars}
use Rattle.c_types.specs.Bodies.{same_var, stmt_calls, stmt_declares, stmt_names}
use Rattle.c_types.specs.Program.{bodies_typed, body_typed, vars_typed}
use Rattle.c_types.specs.declared.program.Func.{Func}
use Rattle.c_types.specs.declared.program.Stmt.{Stmt}
use Rattle.c_types.specs.declared.program.VarDef.{VarDef}
use Rattle.c_types.specs.declared.program.VarRef.{VarRef}
use Rattle.c_typing.specs.Callees.{block_callees}
use Rattle.c_typing.specs.Functions.{called_number, leads_back, recurs}
use Rattle.c_typing.specs.Globals.{Globals, body_callees, body_named, calls_of, function_name, function_number}
use Rattle.c_typing.specs.Globals.{function_of, functions_in, head_name, is_main, maybe_number, names_of_calls}
use Rattle.c_typing.specs.Globals.{numbers_among, param_kind, params_of, result_kind, struct_names}
use Rattle.c_typing.specs.ItemSites.{Seen, items_sites, seen_after}
use Rattle.c_typing.specs.Profile.{given}
use Rattle.c_typing.specs.Programs.{body_stmts, func_of, funcs_in, main_in, param_refs, result_ref}
use Rattle.c_typing.specs.Scopes.{Scope, begun, declared, opened, param_name, past_block, past_head, past_item}
use Rattle.c_typing.specs.Scopes.{past_items}
use Rattle.c_typing.specs.Scopes.{past_params, past_result, result_of}
use Rattle.c_typing.specs.Texts.{Text, each_of, has, number_of}
use Rattle.c_typing.proofs.Clean.{IsClean}
use Rattle.c_typing.proofs.FileCounts.{main_vars, own_list}
use Rattle.c_typing.proofs.FileNames.{Ahead, FunctionClean, Sub, ahead_more, body_here, first_clean, number_behind}
use Rattle.c_typing.proofs.FileNames.{number_front, number_got, rest_clean, sub_more, sub_wide}
use Rattle.c_typing.proofs.OwnNames.{block_right}
use Rattle.c_typing.proofs.OwnScopes.{Own, declared_own}
use Rattle.c_typing.proofs.OwnVariables.{same_itself}
use Rattle.c_typing.proofs.ScopeLaws.{Within, block_keeps}
use Rattle.c_typing.proofs.Sound.{GoodBlocks, GoodGlobals, shapes}
use Rattle.c_typing.proofs.SoundCalls.{GoodFunc, GoodFuncs, GoodRefs, GoodResult}
use Rattle.c_typing.proofs.SoundHeads.{back_items, head_home, head_ready, head_refs, home_below, result_blocks}
use Rattle.c_typing.proofs.SoundStmts.{block_typed}
use Rattle.c_typing.proofs.Trees.{OfOption}

-- Variables among others

pub in_among : (v : VarRef) (ws : List VarRef) → IsIn v ws → is_among ws v ≡ true
in_among v ws i = in_any (same_var v) ws v i (same_itself v)

every_among : (vs ws : List VarRef) → Every (λ w. IsIn w vs) ws → all_among vs ws ≡ true
every_among vs ws all =
    every_tests (is_among vs) ws
    (every_weaker (λ w. IsIn w vs) (λ w. is_among vs w ≡ true) ws (λ w i. in_among w vs i) all)

-- what a body names and calls, statement by statement

pub body_named_each : {Y : Type 0} (P : Y → Type 0) (f : Stmt → List Y) (ss : List Stmt)
    → Every (λ s. Every P (f s)) ss → Every P (flat_map f ss)
body_named_each P f [] all = tt
body_named_each P f (s ∷ ss) all = every_append P (f s) (flat_map f ss) all.0 (body_named_each P f ss all.1)

each_declared : (P : VarRef → Type 0) (ss : List Stmt) → ((v : VarRef) → IsIn v (body_declares ss) → P v)
    → Every (λ s. Every P (stmt_declares s)) ss
each_declared P [] all = tt
each_declared P (s ∷ ss) all = (
  in_every P (stmt_declares s) (λ v i. all v (in_left v (stmt_declares s) (body_declares ss) i)),
  each_declared P ss (λ v i. all v (in_right v (stmt_declares s) (body_declares ss) i)),
)

-- Numbers of names

called_is : (g : Globals) (x : Text) (f : ℕ) → called_number g x ≡ Some f → function_number g x ≡ Some f
called_is g x f is = either (has x given) is
  where
    either : (b : Bool) → cond b None (function_number g x) ≡ Some f → function_number g x ≡ Some f
    either true h = absurd (none-some f h)
    either false h = h

in_numbers : (names xs : List Text) (x : Text) (f : ℕ) → IsIn x xs → number_of x names ≡ Some f
    → IsIn f (numbers_among names xs)
in_numbers names [] x f i is = absurd i
in_numbers names (y ∷ ys) x f (inl same') is =
    in_left f (maybe_number (number_of y names)) (numbers_among names ys)
    (subst (λ o. IsIn f (maybe_number o)) (sym (ap (λ z. number_of z names) (sym same') ∙ is)) (inl refl))
in_numbers names (y ∷ ys) x f (inr i) is =
    in_right f (maybe_number (number_of y names)) (numbers_among names ys) (in_numbers names ys x f i is)

-- what is told of the file, whose items are all these
pub record FileIs (g : Globals) (all : List Item) : Type 0 where
  pub calls : g.calls ≡ calls_of all
  pub names : names_of_calls all ≡ map function_name g.functions ++ codes "main" ∷ []
  pub main : function_number g (codes "main") ≡ None

-- f is called by m, and does not lead to it
abbrev pub CallFacts : Globals → ℕ → ℕ → Type 0
CallFacts g m f = IsIn f (called_by g.calls m)
    × ((nat_eq f m ≡ false) × (leads_within g.calls (length g.calls) f m ≡ false))

may_call : (g : Globals) (all : List Item) → FileIs g all → (m : ℕ) (h : Text) (b : Block)
    → function_number g h ≡ Some m
    → body_named h all ≡ Some b → (x : Text) (f : ℕ) → IsIn x (block_callees b) → called_number g x ≡ Some f
    → recurs g (Some m) x ≡ false → CallFacts g m f
may_call g all file m h b number body x f there is free =
    let names : List Text = map function_name g.functions ++ codes "main" ∷ [] in
    let one : number_of x names ≡ Some f =
    number_front x (map function_name g.functions) (codes "main" ∷ []) f (called_is g x f is) in
    let home : number_of h names ≡ Some m =
    number_front h (map function_name g.functions) (codes "main" ∷ []) m number in
    let got : called_by (calls_of all) m ≡ numbers_among (names_of_calls all) (body_callees (body_named h all)) =
    called_got (calls_of all) m _
    (number_got (λ y. numbers_among (names_of_calls all) (body_callees (body_named y all))) (names_of_calls all) h m
    (ap (number_of h) file.names ∙ home)) in
    let called' : called_by g.calls m ≡ numbers_among names (block_callees b) =
    ap (λ cs. called_by cs m) file.calls ∙ got
    ∙ ap (λ ns. numbers_among ns (body_callees (body_named h all))) file.names
    ∙ ap (λ o. numbers_among names (body_callees o)) body in
    let apart : (nat_eq f m ≡ false) × (leads_within g.calls (length g.calls) f m ≡ false) =
    or_parts (nat_eq f m) (leads_within g.calls (length g.calls) f m)
    (ap (leads_back g m) (sym one) ∙ free) in
    (subst (IsIn f) (sym called') (in_numbers names (block_callees b) x f there one), apart)

-- The functions of the program are those of the file.

params_own : (g : Globals) (A : VarRef → Type 0) (ps : List Param) (scope : Scope) → Own A scope.blocks
    → Every A (param_refs g ps scope) → Own A (past_params g ps scope).blocks
params_own g A [] scope own all = own
params_own g A (p ∷ ps) scope own all =
    params_own g A ps (declared scope (param_name p).text (param_kind (struct_names g) p))
    (declared_own A scope (param_name p).text (param_kind (struct_names g) p) own all.0) all.1

module _ (g : Globals) where
  -- the statements of a body name its own variables, and call what they may
  body_right : (s : Seen) (h : Head) (b : Block) (scope : Scope) (C : ℕ → Type 0) (M : Text → Type 0) (H : Option ℕ)
      → ((x : Text) (f : ℕ) → M x → called_number g x ≡ Some f → recurs g H x ≡ false → C f)
      → FunctionClean g s h b scope → function_number g h.name.text ≡ H → Every M (block_callees b)
      → Every (λ t. Every (λ v. IsIn v (own_list g h b scope)) (stmt_names t) × Every C (stmt_calls t))
      (body_stmts g h b scope)
  body_right s h b scope C M H may c is names =
      let A : VarRef → Type 0 = λ v. IsIn v (own_list g h b scope) in
      let ps : List VarRef = param_refs g (params_of h.params) (opened (past_result g h scope)) in
      let ds : List VarRef = body_declares (body_stmts g h b scope) in
      let begin : Own A (opened (past_result g h scope)).blocks =
      subst (λ bs. Own A ([] ∷ bs)) (sym (result_blocks (result_of g h) h.name.text (begun g h scope) refl)) tt in
      block_right g A C M H may b false (past_head g h scope) (head_home g h scope ∙ is)
      (params_own g A (params_of h.params) (opened (past_result g h scope)) begin
      (in_every A ps (λ v i. in_left v ps ds i)))
      (each_declared A (body_stmts g h b scope) (λ v i. in_right v ps ds i)) c.block names

  -- a function names its own variables alone, and its local ones are those that it declares
  own_kept : (h : Head) (b : Block) (scope : Scope)
      → Every (λ v. IsIn v (own_list g h b scope)) (body_names (body_stmts g h b scope))
      → keeps_to_own (func_of g h b scope) ≡ true
  own_kept h b scope named' =
      let ds : List VarRef = body_declares (body_stmts g h b scope) in
      let self : all_among ds ds ≡ true = every_among ds ds (in_every (λ v. IsIn v ds) ds (λ v i. i)) in
      and_from (all_among (own_vars (func_of g h b scope)) (body_names (body_stmts g h b scope))) _
      (every_among (own_vars (func_of g h b scope)) (body_names (body_stmts g h b scope)) named')
      (and_from (all_among ds ds) (all_among ds ds) self self)

  module _ (V : List VarDef) (D : ℕ) where
    -- what is declared where a body begins
    head_within : (h : Head) (b : Block) (is : List Item) (scope : Scope)
        → Within g V D (past_items g is (past_item g (item.Function h b) scope))
        → Within g V D (past_block g b (past_head g h scope))
    head_within h b is scope w = back_items g V D is (past_item g (item.Function h b) scope) w

    func_good : (n : ℕ) → length g.structs ≡ n → (s : Seen) (h : Head) (b : Block) (scope : Scope)
        → FunctionClean g s h b scope → Within g V D (past_head g h scope) → is_main h ≡ false
        → GoodFunc g V D (function_of (struct_names g) h) (func_of g h b scope)
    func_good n size s h b scope c w other =
        let refs : GoodRefs g V D (map (param_kind (struct_names g)) (params_of h.params))
        (param_refs g (params_of h.params) (opened (past_result g h scope)))
        × GoodResult g V D (result_of g h) (result_ref (result_of g h) (begun g h scope)) =
        head_refs g V D n size h scope w c.gives c.params in (
          refs.0,
          subst (λ k. GoodResult g V D (cond k None (result_kind (struct_names g) h.gives))
              (result_ref (result_of g h) (begun g h scope))) other refs.1,
        )

    pub funcs_good : (n : ℕ) → length g.structs ≡ n → (s : Seen) (is : List Item) (scope : Scope)
        → Within g V D (past_items g is scope) → IsClean g (items_sites g s is scope)
        → GoodFuncs g V D (map (function_of (struct_names g)) (each_of functions_in is)) (funcs_in g is scope)
    funcs_good n size s [] scope w c = tt
    funcs_good n size s (item.Struct at name fields ∷ is) scope w c =
        funcs_good n size (seen_after s (item.Struct at name fields)) is scope w
        (rest_clean g s (item.Struct at name fields) is scope c)
    funcs_good n size s (item.Enum at name values ∷ is) scope w c =
        funcs_good n size (seen_after s (item.Enum at name values)) is scope w
        (rest_clean g s (item.Enum at name values) is scope c)
    funcs_good n size s (item.Proto out h ∷ is) scope w c =
        funcs_good n size (seen_after s (item.Proto out h)) is scope w (rest_clean g s (item.Proto out h) is scope c)
    funcs_good n size s (item.Declare d ∷ is) scope w c =
        funcs_good n size (seen_after s (item.Declare d)) is scope w (rest_clean g s (item.Declare d) is scope c)
    funcs_good n size s (item.Function h b ∷ is) scope w c =
        either (is_main h) refl
        (funcs_good n size (seen_after s (item.Function h b)) is (past_item g (item.Function h b) scope) w
        (rest_clean g s (item.Function h b) is scope c))
      where
        after : Scope
        after = past_item g (item.Function h b) scope

        start : Within g V D (past_head g h scope)
        start = (block_keeps g V D b (past_head g h scope)).1.0 (head_within h b is scope w)

        either : (k : Bool) → is_main h ≡ k
            → GoodFuncs g V D (map (function_of (struct_names g)) (each_of functions_in is)) (funcs_in g is after)
            → GoodFuncs g V D (map (function_of (struct_names g)) (cond k [] (h ∷ []) ++ each_of functions_in is))
            (cond k [] (func_of g h b scope ∷ []) ++ funcs_in g is after)
        either true main rest = rest
        either false other rest = (func_good n size s h b scope (first_clean g s h b is scope c) start other, rest)

    module _ (n : ℕ) (size : length g.structs ≡ n) (globals : GoodGlobals n g) (F : List Func)
        (funcs : GoodFuncs g V D g.functions F) (all : List Item) (file : FileIs g all) where
      abbrev pub FuncFacts : ℕ → Func → Type 0
      FuncFacts m f = ((body_typed (shapes g V D) V D F (Some m) f.body && keeps_to_own f) ≡ true)
          × Every (CallFacts g m) (body_calls f.body)

      abbrev pub AllFacts : ℕ → List Func → Type 0
      AllFacts m [] = Unit {0}
      AllFacts m (f ∷ fs) = FuncFacts m f × AllFacts (suc m) fs

      -- the body of `main`, whose variables are these
      abbrev pub MainFacts : List Stmt → List VarRef → Type 0
      MainFacts ss vs = (body_typed (shapes g V D) V D F None ss ≡ true)
          × Every (λ v. IsIn v vs) (body_names ss ++ body_declares ss)

      -- a body is typed
      function_typed : (s : Seen) (h : Head) (b : Block) (scope : Scope) (H : Option ℕ) → FunctionClean g s h b scope
          → Within g V D (past_block g b (past_head g h scope)) → vars_typed n scope.vars ≡ true
          → function_number g h.name.text ≡ H
          → (body_typed (shapes g V D) V D F H (body_stmts g h b scope) ≡ true)
          × (vars_typed n (past_item g (item.Function h b) scope).vars ≡ true)
      function_typed s h b scope H c w vars is =
          let ready : GoodBlocks g V D (past_head g h scope).blocks
          × (vars_typed n (past_head g h scope).vars ≡ true) =
          head_ready g V D n size h scope ((block_keeps g V D b (past_head g h scope)).1.0 w) vars c.gives c.params in
          block_typed g V D n size globals F H funcs
          (subst (OfOption (λ f. f < length g.functions)) is (home_below g h.name.text)) b false (past_head g h scope) w
          (ready.0, (ready.1, head_home g h scope ∙ is)) c.block

      function_facts : (s : Seen) (h : Head) (b : Block) (scope : Scope) (m : ℕ) → FunctionClean g s h b scope
          → Within g V D (past_block g b (past_head g h scope)) → vars_typed n scope.vars ≡ true
          → function_number g h.name.text ≡ Some m → body_named h.name.text all ≡ Some b
          → FuncFacts m (func_of g h b scope)
      function_facts s h b scope m c w vars number body =
          let right : Every (λ t. Every (λ v. IsIn v (own_list g h b scope)) (stmt_names t)
          × Every (CallFacts g m) (stmt_calls t)) (body_stmts g h b scope) =
          body_right s h b scope (CallFacts g m) (λ x. IsIn x (block_callees b)) (Some m)
          (may_call g all file m h.name.text b number body) c number
          (in_every (λ x. IsIn x (block_callees b)) (block_callees b) (λ x i. i)) in
          let named' : Every (λ v. IsIn v (own_list g h b scope)) (body_names (body_stmts g h b scope)) =
          body_named_each (λ v. IsIn v (own_list g h b scope)) stmt_names (body_stmts g h b scope)
          (every_weaker _ (λ t. Every (λ v. IsIn v (own_list g h b scope)) (stmt_names t)) (body_stmts g h b scope)
          (λ t p. p.0) right) in
          let called' : Every (CallFacts g m) (body_calls (body_stmts g h b scope)) =
          body_named_each (CallFacts g m) stmt_calls (body_stmts g h b scope)
          (every_weaker _ (λ t. Every (CallFacts g m) (stmt_calls t)) (body_stmts g h b scope) (λ t p. p.1) right) in (
            and_from (body_typed (shapes g V D) V D F (Some m) (body_stmts g h b scope)) _
                (function_typed s h b scope (Some m) c w vars number).0 (own_kept h b scope named'),
            called',
          )

      main_facts : (s : Seen) (h : Head) (b : Block) (scope : Scope) → FunctionClean g s h b scope
          → Within g V D (past_block g b (past_head g h scope)) → vars_typed n scope.vars ≡ true
          → function_number g h.name.text ≡ None → MainFacts (body_stmts g h b scope) (own_list g h b scope)
      main_facts s h b scope c w vars number =
          let A : VarRef → Type 0 = λ v. IsIn v (own_list g h b scope) in
          let ps : List VarRef = param_refs g (params_of h.params) (opened (past_result g h scope)) in
          let ds : List VarRef = body_declares (body_stmts g h b scope) in
          let right : Every (λ t. Every A (stmt_names t) × Every (λ f. Unit {0}) (stmt_calls t))
          (body_stmts g h b scope) =
          body_right s h b scope (λ f. Unit {0}) (λ x. Unit {0}) None (λ x f there is free. tt) c number
          (in_every (λ x. Unit {0}) (block_callees b) (λ x i. tt)) in (
            (function_typed s h b scope None c w vars number).0,
            every_append A (body_names (body_stmts g h b scope)) ds
                (body_named_each A stmt_names (body_stmts g h b scope)
                (every_weaker _ (λ t. Every A (stmt_names t)) (body_stmts g h b scope) (λ t p. p.0) right))
                (in_every A ds (λ v i. in_right v ps ds i)),
          )

      abbrev pub ItemFacts : ℕ → List Item → Scope → Type 0
      ItemFacts m is scope = AllFacts m (funcs_in g is scope)
          × (MainFacts (main_in g is scope) (main_vars g is scope)
          × (vars_typed n (past_items g is scope).vars ≡ true))

      pub items_facts : (s : Seen) (is : List Item) (scope : Scope) (pre : List Text) → Sub pre s.functions
          → map function_name g.functions ≡ pre ++ map head_name (each_of functions_in is)
          → Ahead all s.functions is → Within g V D (past_items g is scope) → vars_typed n scope.vars ≡ true
          → IsClean g (items_sites g s is scope) → ItemFacts (length pre) is scope
      items_facts s [] scope pre sub names ahead w vars c = (tt, ((refl, tt), vars))
      items_facts s (item.Struct at name fields ∷ is) scope pre sub names ahead w vars c =
          items_facts (seen_after s (item.Struct at name fields)) is scope pre sub names ahead w vars
          (rest_clean g s (item.Struct at name fields) is scope c)
      items_facts s (item.Enum at name values ∷ is) scope pre sub names ahead w vars c =
          items_facts (seen_after s (item.Enum at name values)) is scope pre sub names ahead w vars
          (rest_clean g s (item.Enum at name values) is scope c)
      items_facts s (item.Proto out h ∷ is) scope pre sub names ahead w vars c =
          items_facts (seen_after s (item.Proto out h)) is scope pre sub names ahead w vars
          (rest_clean g s (item.Proto out h) is scope c)
      items_facts s (item.Declare d ∷ is) scope pre sub names ahead w vars c =
          items_facts (seen_after s (item.Declare d)) is scope pre sub names ahead w vars
          (rest_clean g s (item.Declare d) is scope c)
      items_facts s (item.Function h b ∷ is) scope pre sub names ahead w vars c =
          either (is_main h) refl names
          (λ ns more is' v. items_facts (seen_after s (item.Function h b)) is (past_item g (item.Function h b) scope) ns
          more is' (ahead_more all s.functions h b is ahead) w v (rest_clean g s (item.Function h b) is scope c))
        where
          after : Scope
          after = past_item g (item.Function h b) scope

          heads : List Text
          heads = map head_name (each_of functions_in is)

          clean : FunctionClean g s h b scope
          clean = first_clean g s h b is scope c

          end : Within g V D (past_block g b (past_head g h scope))
          end = head_within h b is scope w

          longer : length (pre ++ h.name.text ∷ []) ≡ suc (length pre)
          longer = omega (arith, length-append pre (h.name.text ∷ []))

          Rest : Type 0
          Rest = (ns : List Text) → Sub ns (s.functions ++ h.name.text ∷ [])
              → map function_name g.functions ≡ ns ++ heads → vars_typed n after.vars ≡ true
              → ItemFacts (length ns) is after

          either : (k : Bool) → is_main h ≡ k
              → map function_name g.functions ≡ pre ++ map head_name (cond k [] (h ∷ []) ++ each_of functions_in is)
              → Rest → AllFacts (length pre) (cond k [] (func_of g h b scope ∷ []) ++ funcs_in g is after)
              × (MainFacts (cond k (body_stmts g h b scope) (main_in g is after))
              (cond k (own_list g h b scope) (main_vars g is after))
              × (vars_typed n (past_items g is after).vars ≡ true))
          either true main all' rest =
              let number : function_number g h.name.text ≡ None =
              ap (function_number g) ((bytes_decides h.name.text (codes "main")).0 main) ∙ file.main in
              let more : ItemFacts (length pre) is after =
              rest pre (sub_wide pre s.functions h.name.text sub) all'
              (function_typed s h b scope None clean end vars number).1 in
              (more.0, (main_facts s h b scope clean end vars number, more.1.1))
          either false other all' rest =
              let number : function_number g h.name.text ≡ Some (length pre) =
              ap (number_of h.name.text) all' ∙ number_behind h.name.text pre heads (sub h.name.text clean.fresh) in
              let more : ItemFacts (length (pre ++ h.name.text ∷ [])) is after =
              rest (pre ++ h.name.text ∷ []) (sub_more pre s.functions h.name.text sub)
              (all' ∙ sym (append_assoc pre (h.name.text ∷ []) heads))
              (function_typed s h b scope (Some (length pre)) clean end vars number).1 in (
                (
                  function_facts s h b scope (length pre) clean end vars number
                      (body_here all s.functions h b is ahead clean.fresh),
                  subst (λ m. AllFacts m (funcs_in g is after)) longer more.0,
                ),
                more.1,
              )

      pub bodies_right : (m : ℕ) (fs : List Func) → AllFacts m fs
          → bodies_typed (shapes g V D) V D F m fs ≡ true
      bodies_right m [] facts = refl
      bodies_right m (f ∷ fs) facts =
          and_from (body_typed (shapes g V D) V D F (Some m) f.body && keeps_to_own f) _ facts.0.0
          (bodies_right (suc m) fs facts.1)
