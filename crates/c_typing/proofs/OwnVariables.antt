-- What a body declares is declared once, and after what was declared before it. For one variable: it is counted how
-- often it is declared, and the count is 1 at most from where its number is the next one.
use Rattle.std.proofs.Common.{◌≡◌, ◌≤◌, ◌<◌, ◌+◌, ℕ, Bool, true, false, not, ◌&&◌, ◌||◌, cond, nat_eq, nat_lt, List, []}
use Rattle.std.proofs.Common.{◌∷◌, ◌++◌, length, map, Option, Some, None, refl, sym, ap, ◌∙◌, subst, arith, true≢false}
use Rattle.std.proofs.lemmas.Bool.{eq-eqb, eqb-true, false_from_ne_true, lt-ltb, ltb-true}
use Rattle.std.proofs.lemmas.List.{length-append}
use Rattle.std.specs.List.{list_all}
use Rattle.fore_base.specs.Lists.{Every}
use Rattle.fore_base.specs.declared.place.Place.{Place}
use Rattle.c_ast.specs.declared.conditions.Cond as tree
use Rattle.c_ast.specs.declared.operands.Call.{Call, out-Call}
use Rattle.c_ast.specs.declared.operands.Operand.{Operand}
use Rattle.c_ast.specs.declared.simples.Rhs.{Rhs}
use Rattle.c_ast.specs.declared.simples.Simple.{Simple}
use Rattle.c_ast.specs.declared.simples.Simple.TheVariants as simple
use Rattle.c_ast.specs.declared.statements.Block.{Block}
use Rattle.c_ast.specs.declared.statements.Declarator.{Declarator}
use Rattle.c_ast.specs.declared.statements.First.{First}
use Rattle.c_ast.specs.declared.statements.First.TheVariants as first
use Rattle.c_ast.specs.declared.statements.Part as part
use Rattle.c_ast.specs.declared.statements.Part.TheVariants as part'
use Rattle.c_ast.specs.declared.statements.Stmt as tree'
use Rattle.c_types.specs.Bodies.{in_turn, same_var, is_among, all_different, stmt_declares, body_declares}
use Rattle.c_types.specs.declared.program.Act.{Act}
use Rattle.c_types.specs.declared.program.Act.TheVariants as act
use Rattle.c_types.specs.declared.program.Dest.{Dest}
use Rattle.c_types.specs.declared.program.Stmt.{Stmt}
use Rattle.c_types.specs.declared.program.Stmt.TheVariants.{Do, Branch}
use Rattle.c_types.specs.declared.program.VarRef.{VarRef}
use Rattle.c_types.specs.declared.program.VarRef.TheVariants.{Ptr, Data}
use Rattle.c_types.proofs.Layers.{declares-Do, declares-Branch, declares-While, declares-DoWhile, declares-For}
use Rattle.c_types.proofs.Layers.{declares-Group, declares-Call}
use Rattle.c_typing.specs.Functions.{called_number}
use Rattle.c_typing.specs.Globals.{Globals}
use Rattle.c_typing.specs.Programs.{simple_stmts, cond_of, maybe_cond, maybe_simple, return_act, call_stmt, stored}
use Rattle.c_typing.specs.Programs.{right_call}
use Rattle.c_typing.specs.Programs.{initialised, declarators_stmts, declare_stmts, next_variable, grouped, loop_of}
use Rattle.c_typing.specs.Programs.{for_stmts, part_stmts, stmt_stmts, block_stmts, parts_stmts, other_stmts, ptrs_of}
use Rattle.c_typing.specs.Programs.{datums_of, ptr_before, datum_before}
use Rattle.c_typing.specs.Scopes.{Var, Scope, innermost, var_name, with_var, or_zero, opened, declared, all_declared}
use Rattle.c_typing.specs.Scopes.{kind_of, declarators_of, past_declare, past_first, past_part, past_parts, past_stmt}
use Rattle.c_typing.specs.Scopes.{past_block, past_other, is_declared, next_ref}
use Rattle.c_typing.specs.Texts.{Text, has}
use Rattle.c_typing.specs.declared.meaning.Kind.{Kind}
use Rattle.c_typing.specs.declared.meaning.Kind.TheVariants.{Points, Datum}
use Rattle.c_typing.proofs.ProgramLayers as made
use Rattle.c_typing.proofs.ScopeLayers as past
use Rattle.c_typing.proofs.ScopeLaws.{stmt_keeps}
use Rattle.c_typing.proofs.Trees.{OfOption, Cases, block_holds}

abbrev pub hit : Bool → ℕ
hit true = 1
hit false = 0

-- the variable of this kind and number
abbrev pub ref : Kind → ℕ → VarRef
ref (Points to) n = Ptr n
ref Datum n = Data n

abbrev refs : List Var → List VarRef
refs [] = []
refs (w ∷ ws) = ref w.kind w.number ∷ refs ws

-- the number that comes next is new, and then there is one more
one_more : (n m : ℕ) → hit (nat_eq n m) + hit (nat_lt n m) ≤ hit (nat_lt n (m + 1))
one_more n m = either (nat_eq n m) (nat_lt n m) refl refl
  where
    there : n < m + 1 → 1 ≤ hit (nat_lt n (m + 1))
    there below = subst (λ t. 1 ≤ hit t) (sym (lt-ltb n (m + 1) below)) (omega (arith))

    either : (b c : Bool) → nat_eq n m ≡ b → nat_lt n m ≡ c → hit b + hit c ≤ hit (nat_lt n (m + 1))
    either true true e f = let is : n ≡ m = eqb-true n m e in
        let under : n < m = ltb-true n m f in absurd (omega (arith, is, under))
    either true false e f = let is : n ≡ m = eqb-true n m e in there (omega (arith, is))
    either false true e f = let under : n < m = ltb-true n m f in there (omega (arith, under))
    either false false e f = omega (arith)

grown : (n : ℕ) {X : Type 0} (xs : List X) (x : X) → hit (nat_eq n (length xs)) + hit (nat_lt n (length xs))
    ≤ hit (nat_lt n (length (xs ++ x ∷ [])))
grown n xs x = subst (λ m. hit (nat_eq n (length xs)) + hit (nat_lt n (length xs)) ≤ hit (nat_lt n m))
    (sym (length-append xs (x ∷ []))) (one_more n (length xs))

pub next_counted : (v : VarRef) (k : Kind) (scope : Scope) (x : Text) → hit (same_var v (next_ref k scope))
    + hit (is_declared scope v) ≤ hit (is_declared (declared scope x k) v)
next_counted (Ptr n) (Points to) scope x = grown n scope.vars (record { name = x; shape = or_zero to })
next_counted (Ptr n) Datum scope x = omega (arith)
next_counted (Data n) (Points to) scope x = omega (arith)
next_counted (Data n) Datum scope x = grown n scope.data_vars x

module _ (v : VarRef) where
  -- how often the variable is one of these
  abbrev pub count : List VarRef → ℕ
  count [] = 0
  count (w ∷ ws) = hit (same_var v w) + count ws

  -- 1 if it was declared
  abbrev pub below : Scope → ℕ
  below scope = hit (is_declared scope v)

  -- how often statements declare it
  abbrev pub total : List Stmt → ℕ
  total [] = 0
  total (s ∷ ss) = count (stmt_declares s) + total ss

  abbrev inner : Scope → ℕ
  inner scope = count (refs (innermost scope.blocks))

  pub count-append : (xs ys : List VarRef) → count (xs ++ ys) ≡ count xs + count ys
  count-append [] ys = omega (arith)
  count-append (x ∷ xs) ys = let rest : count (xs ++ ys) ≡ count xs + count ys = count-append xs ys in
      omega (arith, rest)

  total-append : (xs ys : List Stmt) → total (xs ++ ys) ≡ total xs + total ys
  total-append [] ys = omega (arith)
  total-append (x ∷ xs) ys = let rest : total (xs ++ ys) ≡ total xs + total ys = total-append xs ys in
      omega (arith, rest)

  total-turn : (ss : List Stmt) → count (in_turn (map stmt_declares ss)) ≡ total ss
  total-turn [] = refl
  total-turn (s ∷ ss) =
      let rest : count (in_turn (map stmt_declares ss)) ≡ total ss = total-turn ss in
      let both : count (stmt_declares s ++ in_turn (map stmt_declares ss)) ≡ count (stmt_declares s)
      + count (in_turn (map stmt_declares ss)) = count-append (stmt_declares s) (in_turn (map stmt_declares ss)) in
      omega (arith, rest, both)

  pub total-body : (ss : List Stmt) → count (body_declares ss) ≡ total ss
  total-body [] = refl
  total-body (s ∷ ss) =
      let rest : count (body_declares ss) ≡ total ss = total-body ss in
      let both : count (stmt_declares s ++ body_declares ss) ≡ count (stmt_declares s) + count (body_declares ss) =
      count-append (stmt_declares s) (body_declares ss) in omega (arith, rest, both)

  -- Statements without parts declare nothing.

  do_none : (a : Act) (line : ℕ) → total (Do a line ∷ []) ≡ 0
  do_none a line = ap (λ xs. count xs + 0) (declares-Do a line)

  module _ (g : Globals) where
    call_none : (scope : Scope) (k : Option ℕ) (os : List Operand) (to : Option Dest) (a : Act) (line : ℕ)
        → total (call_stmt g scope k os to a line ∷ []) ≡ 0
    call_none scope None os to a line = do_none a line
    call_none scope (Some f) os to a line = ap (λ xs. count xs + 0) (declares-Call f _ to line)

    stored_none : (scope : Scope) (c : Option Call) (to : Option Dest) (a : Act) (line : ℕ)
        → total (stored g scope c to a line ∷ []) ≡ 0
    stored_none scope None to a line = do_none a line
    stored_none scope (Some c) to a line =
        call_none scope (called_number g (out-Call c).name.text) (out-Call c).operands to a line

    simple_none : (scope : Scope) (s : Simple) → total (simple_stmts g scope s) ≡ 0
    simple_none scope (simple.Assign to from) = stored_none scope (right_call from) _ _ _
    simple_none scope (simple.Call c) =
        call_none scope (called_number g (out-Call c).name.text) (out-Call c).operands _ _ _
    simple_none scope (simple.Free at p) = do_none _ _

    next_none : (scope : Scope) (s : Option Simple) → total (maybe_simple g scope s) ≡ 0
    next_none scope None = refl
    next_none scope (Some s) = simple_none scope s

    initialised_none : (scope : Scope) (k : Kind) (d : Declarator) (from : Option Rhs)
        → total (initialised g (declared scope d.name.text k) (next_variable scope k) d.name.at.line from) ≡ 0
    initialised_none scope k d None = refl
    initialised_none scope k d (Some r) = stored_none (declared scope d.name.text k) (right_call r) _ _ _

    declarators_none : (k : Kind) (ds : List Declarator) (scope : Scope) → total (declarators_stmts g k ds scope) ≡ 0
    declarators_none k [] scope = refl
    declarators_none k (d ∷ ds) scope =
        let first : List Stmt =
        initialised g (declared scope d.name.text k) (next_variable scope k) d.name.at.line d.from in
        let both : total (first ++ declarators_stmts g k ds (declared scope d.name.text k)) ≡ total first
        + total (declarators_stmts g k ds (declared scope d.name.text k)) =
        total-append first (declarators_stmts g k ds (declared scope d.name.text k)) in
        let one : total first ≡ 0 = initialised_none scope k d d.from in
        let rest : total (declarators_stmts g k ds (declared scope d.name.text k)) ≡ 0 =
        declarators_none k ds (declared scope d.name.text k) in omega (arith, both, one, rest)

  -- A variable of the innermost block more

  with_counted : (w : Var) (bs : List (List Var)) → count (refs (innermost (with_var w bs)))
      ≤ hit (same_var v (ref w.kind w.number)) + count (refs (innermost bs))
  with_counted w [] = omega (arith)
  with_counted w (b ∷ bs) = either (has w.name (map var_name b))
    where
      either : (t : Bool) → count (refs (innermost (cond t (b ∷ bs) ((w ∷ b) ∷ bs))))
          ≤ hit (same_var v (ref w.kind w.number)) + count (refs b)
      either true = omega (arith)
      either false = omega (arith)

  one_counted : (k : Kind) (scope : Scope) (x : Text) → inner (declared scope x k) + below scope
      ≤ below (declared scope x k) + inner scope
  one_counted (Points to) scope x = omega (
    arith,
    with_counted (record { name = x; kind = Points to; number = length scope.vars }) scope.blocks,
    next_counted v (Points to) scope x,
  )
  one_counted Datum scope x = omega (
    arith,
    with_counted (record { name = x; kind = Datum; number = length scope.data_vars }) scope.blocks,
    next_counted v Datum scope x,
  )

  all_counted : (k : Kind) (ds : List Declarator) (scope : Scope) → inner (all_declared k ds scope) + below scope
      ≤ below (all_declared k ds scope) + inner scope
  all_counted k [] scope = omega (arith)
  all_counted k (d ∷ ds) scope = omega
      (arith, one_counted k scope d.name.text, all_counted k ds (declared scope d.name.text k))

  -- A block's group declares the variables of the block, and what stands in it.

  map_counted : (f : ℕ → VarRef) (xs : List ℕ) (n : ℕ) → count (map f (xs ++ n ∷ [])) ≡ count (map f xs)
      + hit (same_var v (f n))
  map_counted f [] n = omega (arith)
  map_counted f (x ∷ xs) n = omega (arith, map_counted f xs n)

  map_same : (f : ℕ → VarRef) (xs : List ℕ) → count (map f (xs ++ [])) ≡ count (map f xs)
  map_same f [] = refl
  map_same f (x ∷ xs) = omega (arith, map_same f xs)

  split_more : (k : Kind) (n : ℕ) (ps ds : List ℕ) → count (map (λ x. Ptr x) (ps ++ ptr_before k n))
      + count (map (λ x. Data x) (ds ++ datum_before k n))
      ≡ hit (same_var v (ref k n)) + (count (map (λ x. Ptr x) ps) + count (map (λ x. Data x) ds))
  split_more (Points to) n ps ds = omega (arith, map_counted (λ x. Ptr x) ps n, map_same (λ x. Data x) ds)
  split_more Datum n ps ds = omega (arith, map_same (λ x. Ptr x) ps, map_counted (λ x. Data x) ds n)

  split_counted : (ws : List Var) → count (map (λ x. Ptr x) (ptrs_of ws)) + count (map (λ x. Data x) (datums_of ws))
      ≡ count (refs ws)
  split_counted [] = refl
  split_counted (w ∷ ws) = omega
      (arith, split_more w.kind w.number (ptrs_of ws) (datums_of ws), split_counted ws)

  group_counted : (body : List Stmt) (scope : Scope) (line : ℕ) → total (grouped body scope line ∷ [])
      ≡ inner scope + total body
  group_counted body scope line =
      let ps : List VarRef = map (λ x. Ptr x) (ptrs_of (innermost scope.blocks)) in
      let ds : List VarRef = map (λ x. Data x) (datums_of (innermost scope.blocks)) in
      let whole : count (stmt_declares (grouped body scope line))
      ≡ count ((ps ++ ds) ++ in_turn (map stmt_declares body)) =
      ap count
      (declares-Group body (ptrs_of (innermost scope.blocks)) (datums_of (innermost scope.blocks)) line) in
      let parts : count ((ps ++ ds) ++ in_turn (map stmt_declares body)) ≡ count (ps ++ ds)
      + count (in_turn (map stmt_declares body)) = count-append (ps ++ ds) (in_turn (map stmt_declares body)) in
      let halves : count (ps ++ ds) ≡ count ps + count ds = count-append ps ds in
      let own : count ps + count ds ≡ inner scope = split_counted (innermost scope.blocks) in
      let within : count (in_turn (map stmt_declares body)) ≡ total body = total-turn body in
      omega (arith, whole, parts, halves, own, within)

  module _ (g : Globals) where
    abbrev PartOk : part.Part → Type 0
    PartOk p = (scope : Scope) → (inner (past_part g p scope) + total (part_stmts g p scope)) + below scope
        ≤ below (past_part g p scope) + inner scope

    abbrev StmtOk : tree'.Stmt → Type 0
    StmtOk s = (scope : Scope) → total (stmt_stmts g s scope) + below scope ≤ below (past_stmt g s scope)

    abbrev pub BlockOk : Block → Type 0
    BlockOk b = (scope : Scope) → total (block_stmts g b scope) + below scope ≤ below (past_block g b scope)

    told : (made ss : List Stmt) (after scope before : Scope) → made ≡ ss → after ≡ scope
        → total ss + below before ≤ below scope → total made + below before ≤ below after
    told made ss after scope before is is' h =
        let one : total made ≡ total ss = ap total is in
        let two : below after ≡ below scope = ap below is' in omega (arith, one, two, h)

    parts_counted : (ps : List part.Part) → Every PartOk ps → (scope : Scope)
        → (inner (past_parts g ps scope) + total (parts_stmts g ps scope)) + below scope
        ≤ below (past_parts g ps scope) + inner scope
    parts_counted [] all scope = omega (arith)
    parts_counted (p ∷ ps) all scope =
        let both : total (part_stmts g p scope ++ parts_stmts g ps (past_part g p scope))
        ≡ total (part_stmts g p scope) + total (parts_stmts g ps (past_part g p scope)) =
        total-append (part_stmts g p scope) (parts_stmts g ps (past_part g p scope)) in
        omega (arith, both, all.0 scope, parts_counted ps all.1 (past_part g p scope))

    other_counted : (other : Option tree'.Stmt) → OfOption StmtOk other → (scope : Scope)
        → total (other_stmts g other scope) + below scope ≤ below (past_other g other scope)
    other_counted None ok scope = omega (arith)
    other_counted (Some s) ok scope = ok scope

    loop_counted : (at : Place) (c : Option tree.Cond) (n : Option Simple) (body : tree'.Stmt) (scope : Scope)
        → total (loop_of g at c n (body, stmt_stmts g body) scope ∷ []) ≡ total (stmt_stmts g body scope)
    loop_counted at c n body scope =
        let whole : count (stmt_declares (loop_of g at c n (body, stmt_stmts g body) scope))
        ≡ count (in_turn (map stmt_declares (maybe_simple g scope n))
        ++ in_turn (map stmt_declares (stmt_stmts g body scope))) =
        ap count (declares-For (maybe_cond g scope at.line c) (maybe_simple g scope n) (stmt_stmts g body scope)) in
        let halves : count (in_turn (map stmt_declares (maybe_simple g scope n))
        ++ in_turn (map stmt_declares (stmt_stmts g body scope)))
        ≡ count (in_turn (map stmt_declares (maybe_simple g scope n)))
        + count (in_turn (map stmt_declares (stmt_stmts g body scope))) =
        count-append (in_turn (map stmt_declares (maybe_simple g scope n)))
        (in_turn (map stmt_declares (stmt_stmts g body scope))) in
        let none : count (in_turn (map stmt_declares (maybe_simple g scope n))) ≡ total (maybe_simple g scope n) =
        total-turn (maybe_simple g scope n) in
        let zero' : total (maybe_simple g scope n) ≡ 0 = next_none g scope n in
        let rest : count (in_turn (map stmt_declares (stmt_stmts g body scope))) ≡ total (stmt_stmts g body scope) =
        total-turn (stmt_stmts g body scope) in omega (arith, whole, halves, none, zero', rest)

    for_counted : (at : Place) (f : First) (c : Option tree.Cond) (n : Option Simple) (body : tree'.Stmt)
        (scope : Scope) → StmtOk body → total (for_stmts g f at c n (body, stmt_stmts g body) scope) + below scope
        ≤ below (past_stmt g body (past_first g f (opened scope)))
    for_counted at (first.Declare d) c n body scope ok =
        let mid : Scope = past_declare g d (opened scope) in
        let group : total (grouped (declare_stmts g d (opened scope)
        ++ loop_of g at c n (body, stmt_stmts g body) mid ∷ []) mid at.line ∷ [])
        ≡ inner mid + total (declare_stmts g d (opened scope) ++ loop_of g at c n (body, stmt_stmts g body) mid ∷ []) =
        group_counted (declare_stmts g d (opened scope) ++ loop_of g at c n (body, stmt_stmts g body) mid ∷ []) mid
        at.line in
        let both : total (declare_stmts g d (opened scope) ++ loop_of g at c n (body, stmt_stmts g body) mid ∷ [])
        ≡ total (declare_stmts g d (opened scope)) + total (loop_of g at c n (body, stmt_stmts g body) mid ∷ []) =
        total-append (declare_stmts g d (opened scope)) (loop_of g at c n (body, stmt_stmts g body) mid ∷ []) in
        let none : total (declare_stmts g d (opened scope)) ≡ 0 =
        declarators_none g (kind_of g d) (declarators_of d) (opened scope) in
        let loop : total (loop_of g at c n (body, stmt_stmts g body) mid ∷ []) ≡ total (stmt_stmts g body mid) =
        loop_counted at c n body mid in
        let front : inner mid + below (opened scope) ≤ below mid + inner (opened scope) =
        all_counted (kind_of g d) (declarators_of d) (opened scope) in
        omega (arith, group, both, none, loop, front, ok mid)
    for_counted at (first.Simple s) c n body scope ok =
        let both : total (simple_stmts g (opened scope) s
        ++ loop_of g at c n (body, stmt_stmts g body) (opened scope) ∷ [])
        ≡ total (simple_stmts g (opened scope) s)
        + total (loop_of g at c n (body, stmt_stmts g body) (opened scope) ∷ []) =
        total-append (simple_stmts g (opened scope) s)
        (loop_of g at c n (body, stmt_stmts g body) (opened scope) ∷ []) in
        let none : total (simple_stmts g (opened scope) s) ≡ 0 = simple_none g (opened scope) s in
        let loop : total (loop_of g at c n (body, stmt_stmts g body) (opened scope) ∷ [])
        ≡ total (stmt_stmts g body (opened scope)) = loop_counted at c n body (opened scope) in
        omega (arith, both, none, loop, ok (opened scope))
    for_counted at first.Nothing c n body scope ok =
        let loop : total (loop_of g at c n (body, stmt_stmts g body) (opened scope) ∷ [])
        ≡ total (stmt_stmts g body (opened scope)) = loop_counted at c n body (opened scope) in
        omega (arith, loop, ok (opened scope))

    if_counted : (c : tree.Cond) (s : tree'.Stmt) (other : Option tree'.Stmt) (scope : Scope)
        → StmtOk s → OfOption StmtOk other
        → total (Branch (cond_of g scope c) (stmt_stmts g s scope) (other_stmts g other (past_stmt g s scope)) ∷ [])
        + below scope ≤ below (past_other g other (past_stmt g s scope))
    if_counted c s other scope ok ok' =
        let yes : List Stmt = stmt_stmts g s scope in
        let no : List Stmt = other_stmts g other (past_stmt g s scope) in
        let whole : count (stmt_declares (Branch (cond_of g scope c) yes no))
        ≡ count (in_turn (map stmt_declares yes) ++ in_turn (map stmt_declares no)) =
        ap count (declares-Branch (cond_of g scope c) yes no) in
        let halves : count (in_turn (map stmt_declares yes) ++ in_turn (map stmt_declares no))
        ≡ count (in_turn (map stmt_declares yes)) + count (in_turn (map stmt_declares no)) =
        count-append (in_turn (map stmt_declares yes)) (in_turn (map stmt_declares no)) in
        omega
        (arith, whole, halves, total-turn yes, total-turn no, ok scope, other_counted other ok' (past_stmt g s scope))

    declares_cases : Cases PartOk StmtOk BlockOk
    declares_cases = record {
      of_Declare = λ d scope.
          let none : total (part_stmts g (part'.Declare d) scope) ≡ 0 =
          ap total (made.made-Declare g d scope) ∙ declarators_none g (kind_of g d) (declarators_of d) scope in
          let one : inner (past_part g (part'.Declare d) scope) ≡ inner (past_declare g d scope) =
          ap inner (past.past-Declare g d scope) in
          let two : below (past_part g (part'.Declare d) scope) ≡ below (past_declare g d scope) =
          ap below (past.past-Declare g d scope) in
          omega (arith, none, one, two, all_counted (kind_of g d) (declarators_of d) scope);
      of_Stmt = λ s ok scope.
          let made' : total (part_stmts g (part'.Stmt s) scope) ≡ total (stmt_stmts g s scope) =
          ap total (made.made-Stmt g s scope) in
          let one : inner (past_part g (part'.Stmt s) scope) ≡ inner (past_stmt g s scope) =
          ap inner (past.past-Stmt g s scope) in
          let kept : inner (past_stmt g s scope) ≡ inner scope =
          ap (λ bs. count (refs (innermost bs))) (stmt_keeps g [] 0 s scope).0 in
          let two : below (past_part g (part'.Stmt s) scope) ≡ below (past_stmt g s scope) =
          ap below (past.past-Stmt g s scope) in
          omega (arith, made', one, kept, two, ok scope);
      of_parts = λ at close parts all scope.
          told _ _ _ _ scope (made.made-parts g at close parts scope) (past.past-parts g at close parts scope)
          (omega (
            arith,
            group_counted (parts_stmts g parts (opened scope)) (past_parts g parts (opened scope)) close.line,
            parts_counted parts all (opened scope),
          ));
      of_Empty = λ at scope.
          told _ _ _ _ scope (made.made-Empty-stmt g at scope) (past.past-Empty-stmt g at scope) (omega (arith));
      of_Block = λ b ok scope.
          told _ _ _ _ scope (made.made-Block-stmt g b scope) (past.past-Block-stmt g b scope) (ok scope);
      of_Simple = λ s scope.
          told _ _ _ _ scope (made.made-Simple-stmt g s scope) (past.past-Simple-stmt g s scope)
          (omega (arith, simple_none g scope s));
      of_If = λ at c s other ok ok' scope.
          told _ _ _ _ scope (made.made-If-stmt g at c s other scope) (past.past-If-stmt g at c s other scope)
          (if_counted c s other scope ok ok');
      of_While = λ at c body ok scope.
          told _ _ _ _ scope (made.made-While-stmt g at c body scope) (past.past-While-stmt g at c body scope)
          (omega (
            arith,
            ap count (declares-While (cond_of g scope c) (stmt_stmts g body scope)),
            total-turn (stmt_stmts g body scope),
            ok scope,
          ));
      of_Do = λ at body c ok scope.
          told _ _ _ _ scope (made.made-Do-stmt g at body c scope) (past.past-Do-stmt g at body c scope)
          (omega (
            arith,
            ap count (declares-DoWhile (cond_of g scope c) (stmt_stmts g body scope)),
            total-turn (stmt_stmts g body scope),
            ok scope,
          ));
      of_For = λ at f c n body ok scope.
          told _ _ _ _ scope (made.made-For-stmt g at f c n body scope) (past.past-For-stmt g at f c n body scope)
          (for_counted at f c n body scope ok);
      of_Return = λ at o scope.
          told _ _ _ _ scope (made.made-Return-stmt g at o scope) (past.past-Return-stmt g at o scope)
          (omega (arith, do_none (return_act g scope scope.home o) at.line));
      of_Break = λ at scope.
          told _ _ _ _ scope (made.made-Break-stmt g at scope) (past.past-Break-stmt g at scope)
          (omega (arith, do_none act.Break at.line));
      of_Continue = λ at scope.
          told _ _ _ _ scope (made.made-Continue-stmt g at scope) (past.past-Continue-stmt g at scope)
          (omega (arith, do_none act.Continue at.line));
      of_Assert = λ at x scope.
          told _ _ _ _ scope (made.made-Assert-stmt g at x scope) (past.past-Assert-stmt g at x scope)
          (omega (
            arith,
            ap count (declares-Branch (cond_of g scope x) [] (Do act.Error at.line ∷ [])),
            total-turn (Do act.Error at.line ∷ []),
            do_none act.Error at.line,
          ));
    }

    pub block_counted : (b : Block) → BlockOk b
    block_counted = block_holds PartOk StmtOk BlockOk declares_cases

-- What is counted once at most is all different, and what is counted is new.

pub same_itself : (v : VarRef) → same_var v v ≡ true
same_itself (Ptr n) = eq-eqb n n refl
same_itself (Data n) = eq-eqb n n refl

pub among_counted : (v : VarRef) (ws : List VarRef) → is_among ws v ≡ true → 1 ≤ count v ws
among_counted v [] is = absurd (true≢false (sym is))
among_counted v (w ∷ ws) is = either (same_var v w) (among_counted v ws) is
  where
    either : (b : Bool) → (is_among ws v ≡ true → 1 ≤ count v ws) → (b || is_among ws v) ≡ true
        → 1 ≤ hit b + count v ws
    either true later h = omega (arith)
    either false later h = omega (arith, later h)

pub once_different : (ws : List VarRef) → ((v : VarRef) → count v ws ≤ 1) → all_different ws ≡ true
once_different [] once = refl
once_different (w ∷ ws) once =
    let absent : is_among ws w ≡ false = false_from_ne_true (is_among ws w)
    (λ there.
    let self : hit (same_var w w) ≡ 1 = ap hit (same_itself w) in
    omega (arith, self, among_counted w ws there, once w)) in
    let rest : all_different ws ≡ true = once_different ws (λ v. omega (arith, once v)) in
    ap (λ b. not b && all_different ws) absent ∙ rest

module _ (g : Globals) (b : Block) (scope : Scope) where
  abbrev own : List VarRef
  own = body_declares (block_stmts g b scope)

  at_most_once : (v : VarRef) → count v own + hit (is_declared scope v) ≤ hit (is_declared (past_block g b scope) v)
  at_most_once v = omega (arith, total-body v (block_stmts g b scope), block_counted v g b scope)

  hit_small : (t : Bool) → hit t ≤ 1
  hit_small true = omega (arith)
  hit_small false = omega (arith)

  pub own_different : all_different own ≡ true
  own_different = once_different own
      (λ v. omega (arith, at_most_once v, hit_small (is_declared (past_block g b scope) v)))

  abbrev is_new : VarRef → Bool
  is_new v = not (is_declared scope v) && is_declared (past_block g b scope) v

  counted_new : (v : VarRef) → 1 ≤ count v own → is_new v ≡ true
  counted_new v one = either (is_declared scope v) (is_declared (past_block g b scope) v) (at_most_once v)
    where
      either : (old new : Bool) → count v own + hit old ≤ hit new → (not old && new) ≡ true
      either true true h = absurd (omega (arith, h, one))
      either true false h = absurd (omega (arith, h, one))
      either false true h = refl
      either false false h = absurd (omega (arith, h, one))

  every_new : (ws : List VarRef) → ((v : VarRef) → 1 ≤ count v ws → is_new v ≡ true) → list_all is_new ws ≡ true
  every_new [] new = refl
  every_new (w ∷ ws) new =
      let self : hit (same_var w w) ≡ 1 = ap hit (same_itself w) in
      ap (λ t. t && list_all is_new ws) (new w (omega (arith, self)))
      ∙ every_new ws (λ v one. new v (omega (arith, one)))

  pub own_new : list_all is_new own ≡ true
  own_new = every_new own counted_new
