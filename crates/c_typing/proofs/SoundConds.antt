-- Where nothing is broken, conditions and statements without parts are typed.
use Rattle.std.proofs.Common.{◌≡◌, ℕ, cond, Bool, true, false, ◌&&◌, List, [], ◌∷◌, ◌++◌, map, Option, Some, None, refl}
use Rattle.std.proofs.Common.{ap, ◌∙◌, subst}
use Rattle.std.proofs.lemmas.Bool.{and_from, and_parts}
use Rattle.fore_base.specs.Lists.{Every}
use Rattle.c_ast.specs.declared.conditions.And.{And}
use Rattle.c_ast.specs.declared.conditions.Cond as tree
use Rattle.c_ast.specs.declared.conditions.Test.{Test}
use Rattle.c_ast.specs.declared.conditions.Test.TheVariants as test
use Rattle.c_ast.specs.declared.conditions.Unary.{Unary}
use Rattle.c_ast.specs.declared.operands.Call.{Call, out-Call}
use Rattle.c_ast.specs.declared.operands.Operand.{Operand, Operand-F, out-Operand}
use Rattle.c_ast.specs.declared.operands.Operand.TheOpen as operand
use Rattle.c_ast.specs.declared.simples.Rhs.{Rhs}
use Rattle.c_ast.specs.declared.simples.Rhs.TheVariants as rhs
use Rattle.c_ast.specs.declared.simples.Simple.{Simple}
use Rattle.c_ast.specs.declared.simples.Simple.TheVariants as simple
use Rattle.c_types.specs.Program.{Spot, act_typed, all_typed, cond_typed, each_typed, stmt_typed}
use Rattle.c_types.specs.declared.program.Act.{Act}
use Rattle.c_types.specs.declared.program.Act.TheVariants as act
use Rattle.c_types.specs.declared.program.Atom.TheVariants as atom
use Rattle.c_types.specs.declared.program.Cond.{Cond}
use Rattle.c_types.specs.declared.program.Func.{Func}
use Rattle.c_types.specs.declared.program.Stmt.{Stmt}
use Rattle.c_types.specs.declared.program.Stmt.TheVariants.{Do}
use Rattle.c_types.specs.declared.program.VarDef.{VarDef}
use Rattle.c_types.proofs.Layers.{typed-Atom, typed-Not, typed-All, typed-Any, typed-Do}
use Rattle.c_typing.specs.BodySites.{maybe_sites}
use Rattle.c_typing.specs.Functions.{called, called_number, is_counted, recurs}
use Rattle.c_typing.specs.Globals.{Globals}
use Rattle.c_typing.specs.Meanings.{meaning_of_path, meaning_of_operand, operand_meaning, place_of_operand}
use Rattle.c_typing.specs.Profile.{errors, is_allowed}
use Rattle.c_typing.specs.Programs.{assignment, simple_stmts, all_of, any_of, test_of, unary_of, and_of, cond_of}
use Rattle.c_typing.specs.Programs.{maybe_cond, maybe_simple, comparison, truth, call_act, assign_stmt, call_in}
use Rattle.c_typing.specs.Programs.{call_stmt}
use Rattle.c_typing.specs.Programs.{dest_of, stored}
use Rattle.c_typing.specs.Rules.{differ, wanted_struct}
use Rattle.c_typing.specs.Scopes.{Scope}
use Rattle.c_typing.specs.Sites.{Site, Calls, Gives, want_of_left, want_of_target, struct_at, operand_sites, choice_at}
use Rattle.c_typing.specs.Sites.{argument_sites, call_sites, result_at_call, right_step, value_sites}
use Rattle.c_typing.specs.Sites.{wanted_sites, stands, rhs_sites, target_sites, simple_sites, test_sites, unary_sites}
use Rattle.c_typing.specs.Sites.{and_sites, cond_sites}
use Rattle.c_typing.specs.Texts.{Text, has, joined}
use Rattle.c_typing.specs.declared.meaning.Meaning.{Meaning}
use Rattle.c_typing.specs.declared.meaning.Meaning.TheVariants as meaning
use Rattle.c_typing.specs.declared.meaning.Spot.TheVariants.{Statement, Right, Elsewhere}
use Rattle.c_typing.specs.declared.meaning.Want.{Want}
use Rattle.c_typing.proofs.Clean.{IsClean, clean_parts, clean_first, no_other, call_right, result_right}
use Rattle.c_typing.proofs.ConditionLayers.{sites-Compare, sites-Unary, sites-Not, sites-Bracket, sites-tests}
use Rattle.c_typing.proofs.ConditionLayers.{sites-ands, made-Compare, made-Unary, made-Not, made-Bracket, made-Operand}
use Rattle.c_typing.proofs.ConditionLayers.{made-tests, made-ands}
use Rattle.c_typing.proofs.Formulas.{CondCases, cond_holds}
use Rattle.c_typing.proofs.Sound.{GoodGlobals, shapes, GoodMeaning, GoodBlocks, path_good, operand_good}
use Rattle.c_typing.proofs.SoundActs.{assigned_typed, new_typed, freed_typed, truth_typed}
use Rattle.c_typing.proofs.SoundActs.{comparison_typed}
use Rattle.c_typing.proofs.SoundCalls.{GoodFuncs, calling_typed, dest_good, no_dest_good}

wanted-target : (m : Meaning) → wanted_struct (want_of_target m) ≡ struct_at m
wanted-target (meaning.Pointer p to) = refl
wanted-target _ = refl

differ-none : (t : Option ℕ) → differ t None ≡ false
differ-none None = refl
differ-none (Some s) = refl

module _ (g : Globals) (V : List VarDef) (D : ℕ) (F : List Func) (H : Option ℕ) where
  -- each of these statements is typed there
  abbrev pub Typed : List Stmt → Spot → Type 0
  Typed ss spot = each_typed (shapes g V D) V D (map (stmt_typed (shapes g V D) V D F H) ss) spot ≡ true

  pub typed_one : (s : Stmt) (spot : Spot) → stmt_typed (shapes g V D) V D F H s spot ≡ true → Typed (s ∷ []) spot
  typed_one s spot e = ap (λ b. b && true) e

  pub typed_act : (a : Act) (line : ℕ) (spot : Spot) → act_typed (shapes g V D) V D F H a spot ≡ true
      → Typed (Do a line ∷ []) spot
  typed_act a line spot e = typed_one (Do a line) spot (typed-Do (shapes g V D) V D F H a line spot ∙ e)

  pub typed_append : (xs ys : List Stmt) (spot : Spot) → Typed xs spot → Typed ys spot → Typed (xs ++ ys) spot
  typed_append [] ys spot left right = right
  typed_append (x ∷ xs) ys spot left right =
      let halves : (stmt_typed (shapes g V D) V D F H x spot ≡ true) × Typed xs spot =
      and_parts (stmt_typed (shapes g V D) V D F H x spot) _ left in
      and_from (stmt_typed (shapes g V D) V D F H x spot) _ halves.0 (typed_append xs ys spot halves.1 right)

  -- parts of a condition
  each_part : {X : Type 0} (sites : X → List Site) (made : X → Cond) (xs : List X)
      → Every (λ x. IsClean g (sites x) → cond_typed (shapes g V D) V D (made x) ≡ true) xs
      → IsClean g (joined (map sites xs))
      → all_typed (shapes g V D) V D (map (cond_typed (shapes g V D) V D) (map made xs)) ≡ true
  each_part sites made [] all c = refl
  each_part sites made (x ∷ xs) all c =
      let halves : IsClean g (sites x) × IsClean g (joined (map sites xs)) =
      clean_parts g (sites x) (joined (map sites xs)) c in
      and_from (cond_typed (shapes g V D) V D (made x)) _ (all.0 halves.0) (each_part sites made xs all.1 halves.1)

  module _ (n : ℕ) (globals : GoodGlobals n g) (scope : Scope) (blocks : GoodBlocks g V D scope.blocks)
      (funcs : GoodFuncs g V D g.functions F) where
    means : (o : Operand) → GoodMeaning g V D (meaning_of_operand g scope o)
    means o = operand_good g V D n globals scope blocks o

    leads : (p : _) → GoodMeaning g V D (meaning_of_path g scope p)
    leads p = path_good g V D n globals scope blocks p

    -- what is assigned is no call of a function of the file
    act_assigned : (target : Meaning) (r : Rhs) (o : Operand) (line : ℕ) (spot : Spot) → r ≡ rhs.Operand o
        → GoodMeaning g V D target
        → differ (struct_at target) (struct_at (meaning_of_operand g scope o)) ≡ false
        → Typed (Do (assignment g scope target (rhs.Operand o)) line ∷ []) spot
    act_assigned target r o line spot is good agree =
        typed_act (assignment g scope target (rhs.Operand o)) line spot
        (assigned_typed g V D F H target (meaning_of_operand g scope o) spot good (means o) agree)

    plain_assigned : (target : Meaning) (o : Operand) (line : ℕ) (spot : Spot) → GoodMeaning g V D target
        → IsClean g (wanted_sites g scope Right (want_of_target target) o)
        → Typed (Do (assignment g scope target (rhs.Operand o)) line ∷ []) spot
    plain_assigned target o line spot good c =
        let w : Want = want_of_target target in
        let last : IsClean g (stands g scope w o ∷ []) =
        (clean_parts g (operand_sites g scope Right o) (stands g scope w o ∷ []) c).1 in
        let agree : differ (wanted_struct w) (struct_at (meaning_of_operand g scope o)) ≡ false =
        no_other g w (place_of_operand o) (meaning_of_operand g scope o)
        (clean_first g (stands g scope w o) [] last).0 in
        act_assigned target (rhs.Operand o) o line spot refl good
        (subst (λ t. differ t (struct_at (meaning_of_operand g scope o)) ≡ false) (wanted-target target) agree)

    call_assigned : (target : Meaning) (o : Operand) (c : Call) (line : ℕ) (spot : Spot) → out-Operand o
        ≡ operand.Call c → GoodMeaning g V D target
        → IsClean g (value_sites g scope (want_of_target target) c ++ call_sites g scope Right c
        ++ argument_sites g scope c)
        → (k : Option ℕ) → called_number g (out-Call c).name.text ≡ k
        → Typed (call_stmt g scope k (out-Call c).operands (dest_of target)
        (assignment g scope target (rhs.Operand o)) line ∷ []) spot
    call_assigned target o c line spot is good clean None none =
        act_assigned target (rhs.Operand o) o line spot refl good
        (ap (λ m. differ (struct_at target) (struct_at m)) (ap (operand_meaning g scope) is)
        ∙ differ-none (struct_at target))
    call_assigned target o c line spot is good clean (Some f) there =
        let w : Want = want_of_target target in
        let x : Text = (out-Call c).name.text in
        let parts : IsClean g (value_sites g scope w c ++ call_sites g scope Right c)
        × IsClean g (argument_sites g scope c) =
        clean_parts g (value_sites g scope w c ++ call_sites g scope Right c) (argument_sites g scope c) clean in
        let front : IsClean g (value_sites g scope w c) × IsClean g (call_sites g scope Right c) =
        clean_parts g (value_sites g scope w c) (call_sites g scope Right c) parts.0 in
        let results : IsClean g (result_at_call g scope w (out-Call c).name.at (called g x)) =
        (clean_parts g (choice_at g scope w (out-Call c).name.at (is_allowed g scope Right x (out-Call c).operands))
        (result_at_call g scope w (out-Call c).name.at (called g x)) front.0).1 in
        let call : (recurs g scope.home x ≡ false) × (is_counted (called g x) (out-Call c).operands ≡ true) =
        call_right g scope Right (out-Call c).name (out-Call c).operands
        (clean_first g (Calls scope Right (out-Call c).name (out-Call c).operands) [] front.1).0 in
        typed_one _ spot
        (calling_typed g V D n globals scope blocks F H funcs x f there (out-Call c).operands (dest_of target) line spot
        call.1 parts.1
        (λ d v one result. dest_good g V D d.result v target result good
        (result_right g w (out-Call c).name.at d.result
        (clean_first g (Gives w (out-Call c).name.at d.result) []
        (subst (λ k. IsClean g (result_at_call g scope w (out-Call c).name.at k)) one results)).0)))

    operand_assigned : (target : Meaning) (o : Operand) (y : Operand-F Operand Call) (line : ℕ) (spot : Spot)
        → out-Operand o ≡ y → GoodMeaning g V D target
        → IsClean g (right_step g scope (want_of_target target) o y)
        → Typed (stored g scope (call_in y) (dest_of target) (assignment g scope target (rhs.Operand o)) line ∷ [])
        spot
    operand_assigned target o (operand.Call x) line spot is good c =
        call_assigned target o x line spot is good c (called_number g (out-Call x).name.text) refl
    operand_assigned target o _ line spot is good c = plain_assigned target o line spot good c

    pub assign_typed : (target : Meaning) (r : Rhs) (line : ℕ) (spot : Spot) → GoodMeaning g V D target
        → IsClean g (rhs_sites g scope (want_of_target target) r)
        → Typed (assign_stmt g scope target r line ∷ []) spot
    assign_typed target (rhs.Operand o) line spot good c =
        operand_assigned target o (out-Operand o) line spot refl good c
    assign_typed target (rhs.Malloc cast at size) line spot good c =
        typed_act (assignment g scope target (rhs.Malloc cast at size)) line spot (new_typed g V D F H target spot good)

    call_typed : (x : Text) (spot : Spot) → act_typed (shapes g V D) V D F H (call_act x) spot ≡ true
    call_typed x spot = either (has x errors)
      where
        either : (error : Bool) → act_typed (shapes g V D) V D F H (cond error act.Error act.Halt) spot ≡ true
        either true = refl
        either false = refl

    call_stated : (c : Call) (line : ℕ) (spot : Spot)
        → IsClean g (call_sites g scope Statement c ++ argument_sites g scope c)
        → (k : Option ℕ) → called_number g (out-Call c).name.text ≡ k
        → Typed (call_stmt g scope k (out-Call c).operands None (call_act (out-Call c).name.text) line ∷ []) spot
    call_stated c line spot clean None none =
        typed_act (call_act (out-Call c).name.text) line spot (call_typed (out-Call c).name.text spot)
    call_stated c line spot clean (Some f) there =
        let x : Text = (out-Call c).name.text in
        let parts : IsClean g (call_sites g scope Statement c) × IsClean g (argument_sites g scope c) =
        clean_parts g (call_sites g scope Statement c) (argument_sites g scope c) clean in
        let call : (recurs g scope.home x ≡ false) × (is_counted (called g x) (out-Call c).operands ≡ true) =
        call_right g scope Statement (out-Call c).name (out-Call c).operands
        (clean_first g (Calls scope Statement (out-Call c).name (out-Call c).operands) [] parts.0).0 in
        typed_one _ spot
        (calling_typed g V D n globals scope blocks F H funcs x f there (out-Call c).operands None line spot call.1
        parts.1 (λ d v one result. no_dest_good g V D v))

    pub simple_typed : (s : Simple) (spot : Spot) → IsClean g (simple_sites g scope s)
        → Typed (simple_stmts g scope s) spot
    simple_typed (simple.Assign to from) spot c =
        assign_typed (meaning_of_path g scope to) from to.head.at.line spot (leads to)
        (clean_parts g (target_sites g scope to) (rhs_sites g scope (want_of_target (meaning_of_path g scope to)) from)
        c).1
    simple_typed (simple.Call call) spot c =
        call_stated call (out-Call call).name.at.line spot c (called_number g (out-Call call).name.text) refl
    simple_typed (simple.Free at p) spot c =
        typed_act _ at.line spot (freed_typed g V D F H (meaning_of_path g scope p) spot (leads p))

    pub maybe_simple_typed : (s : Option Simple) (spot : Spot) → IsClean g (maybe_sites (simple_sites g scope) s)
        → Typed (maybe_simple g scope s) spot
    maybe_simple_typed None spot c = refl
    maybe_simple_typed (Some s) spot c = simple_typed s spot c

    -- Conditions

    abbrev TestOk : Test → Type 0
    TestOk t = IsClean g (test_sites g scope t) → cond_typed (shapes g V D) V D (test_of g scope t) ≡ true

    abbrev Cok : Cond → Type 0
    Cok c = cond_typed (shapes g V D) V D c ≡ true

    abbrev UnaryOk : Unary → Type 0
    UnaryOk u = IsClean g (unary_sites g scope u) → Cok (unary_of g scope u)

    abbrev AndOk : And → Type 0
    AndOk a = IsClean g (and_sites g scope a) → Cok (and_of g scope a)

    abbrev CondOk : tree.Cond → Type 0
    CondOk c = IsClean g (cond_sites g scope c) → Cok (cond_of g scope c)

    compare_typed : (l : Operand) (e : Bool) (r : Operand) → TestOk (test.Compare l e r)
    compare_typed l e r c =
        let w : Want = want_of_left (meaning_of_operand g scope l) in
        let sides : IsClean g (wanted_sites g scope Elsewhere w r) =
        (clean_parts g (operand_sites g scope Elsewhere l) (wanted_sites g scope Elsewhere w r)
        (subst (IsClean g) (sites-Compare g scope l e r) c)).1 in
        let last : IsClean g (stands g scope w r ∷ []) =
        (clean_parts g (operand_sites g scope Elsewhere r) (stands g scope w r ∷ []) sides).1 in
        ap (cond_typed (shapes g V D) V D) (made-Compare g scope l e r)
        ∙ typed-Atom (shapes g V D) V D (comparison e (meaning_of_operand g scope l) (meaning_of_operand g scope r))
        (place_of_operand l).line
        ∙ comparison_typed g V D e (meaning_of_operand g scope l) (meaning_of_operand g scope r) (means l) (means r)
        (no_other g w (place_of_operand r) (meaning_of_operand g scope r)
        (clean_first g (stands g scope w r) [] last).0)

    tests_typed : (ts : List Test) → Every TestOk ts → IsClean g (joined (map (test_sites g scope) ts))
        → Cok (all_of (map (test_of g scope) ts))
    tests_typed [] all c = typed-Atom (shapes g V D) V D (atom.Known true) 0
    tests_typed (t ∷ ts) all c = typed-All (shapes g V D) V D (map (test_of g scope) (t ∷ ts))
        ∙ each_part (test_sites g scope) (test_of g scope) (t ∷ ts) all c

    ands_typed : (xs : List And) → Every AndOk xs → IsClean g (joined (map (and_sites g scope) xs))
        → Cok (any_of (map (and_of g scope) xs))
    ands_typed [] all c = typed-Atom (shapes g V D) V D (atom.Known false) 0
    ands_typed (x ∷ xs) all c = typed-Any (shapes g V D) V D (map (and_of g scope) (x ∷ xs))
        ∙ each_part (and_sites g scope) (and_of g scope) (x ∷ xs) all c

    cond_cases : CondCases TestOk UnaryOk AndOk CondOk
    cond_cases = record {
      of_Compare = compare_typed;
      of_Unary = λ u ok c. ap (cond_typed (shapes g V D) V D) (made-Unary g scope u)
          ∙ ok (subst (IsClean g) (sites-Unary g scope u) c);
      of_Not = λ at u ok c. ap (cond_typed (shapes g V D) V D) (made-Not g scope at u)
          ∙ typed-Not (shapes g V D) V D (unary_of g scope u) ∙ ok (subst (IsClean g) (sites-Not g scope at u) c);
      of_Bracket = λ at x ok c. ap (cond_typed (shapes g V D) V D) (made-Bracket g scope at x)
          ∙ ok (subst (IsClean g) (sites-Bracket g scope at x) c);
      of_Operand = λ o c. ap (cond_typed (shapes g V D) V D) (made-Operand g scope o)
          ∙ typed-Atom (shapes g V D) V D (truth (meaning_of_operand g scope o)) (place_of_operand o).line
          ∙ truth_typed g V D (meaning_of_operand g scope o) (means o);
      of_tests = λ ts all c. ap (cond_typed (shapes g V D) V D) (made-tests g scope ts)
          ∙ tests_typed ts all (subst (IsClean g) (sites-tests g scope ts) c);
      of_ands = λ xs all c. ap (cond_typed (shapes g V D) V D) (made-ands g scope xs)
          ∙ ands_typed xs all (subst (IsClean g) (sites-ands g scope xs) c);
    }

    pub cond_is_typed : (c : tree.Cond) → IsClean g (cond_sites g scope c)
        → cond_typed (shapes g V D) V D (cond_of g scope c) ≡ true
    cond_is_typed = cond_holds TestOk UnaryOk AndOk CondOk cond_cases

    pub maybe_cond_typed : (c : Option tree.Cond) (line : ℕ) → IsClean g (maybe_sites (cond_sites g scope) c)
        → cond_typed (shapes g V D) V D (maybe_cond g scope line c) ≡ true
    maybe_cond_typed None line c = typed-Atom (shapes g V D) V D (atom.Known true) line
    maybe_cond_typed (Some x) line c = cond_is_typed x c
