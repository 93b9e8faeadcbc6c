-- Each rule reads a tree with n levels exactly where it reads it with some number of levels and the tree is no deeper
-- than n.
use Rattle.std.proofs.Common.{◌≡◌, ◌≤◌, ℕ, suc, pred, max, List, [], map, Some, None, refl, sym, ap, ◌∙◌, subst, inl}
use Rattle.std.proofs.Common.{inr, arith}
use Rattle.c_lexer.specs.declared.token.Token.{Token}
use Rattle.c_ast.proofs.DepthLemmas as depth
use Rattle.c_ast.specs.Depths.{deepest, depth_of_option, depth_of_argument, depth_of_call, depth_of_operand}
use Rattle.c_ast.specs.Depths.{depth_of_rhs, depth_of_simple, depth_of_test, depth_of_unary, depth_of_and}
use Rattle.c_ast.specs.Depths.{depth_of_cond, depth_of_declarator, depth_of_declare, depth_of_first, depth_of_part}
use Rattle.c_ast.specs.Depths.{depth_of_stmt, depth_of_block, depth_of_item, depth_of_items}
use Rattle.c_ast.specs.declared.conditions.Test.TheVariants as test
use Rattle.c_ast.specs.declared.conditions.Unary.{Unary}
use Rattle.c_ast.specs.declared.conditions.Unary.TheVariants as unary'
use Rattle.c_ast.specs.declared.items.Item.{Item}
use Rattle.c_ast.specs.declared.items.Item.TheVariants as item'
use Rattle.c_ast.specs.declared.operands.Operand.{Operand}
use Rattle.c_ast.specs.declared.operands.Operand.TheVariants as operand'
use Rattle.c_ast.specs.declared.simples.Rhs.TheVariants as rhs'
use Rattle.c_ast.specs.declared.simples.Simple.TheVariants as simple'
use Rattle.c_ast.specs.declared.statements.First.TheVariants as first'
use Rattle.c_ast.specs.declared.statements.Part.TheVariants as part'
use Rattle.c_ast.specs.declared.statements.Stmt.{Stmt}
use Rattle.c_ast.specs.declared.statements.Stmt.TheVariants as stmt'
use Rattle.c_grammar.specs.Grammar.{Part, Rule, token, empty, ◌then◌, unless, level}
use Rattle.c_grammar.specs.Hopeless.{IsWhole}
use Rattle.c_grammar.specs.Items as i
use Rattle.c_grammar.specs.Items.{head, item, unit}
use Rattle.c_grammar.specs.Syntax as s
use Rattle.c_grammar.specs.Syntax.{at, name, path, first, optional, arguments, argument, call_with, call, operand}
use Rattle.c_grammar.specs.Syntax.{literal_part, size, cast, bracketed, rhs, simple, sides, cond, unary, nested_unary}
use Rattle.c_grammar.specs.Syntax.{inner_unary, and_with, cond_with, test_with, data_part, declarator, declare}
use Rattle.c_grammar.specs.Syntax.{flat_stmt, nested_stmt, other_part, first_part, block_with, stmt, block}
use Rattle.c_grammar.specs.declared.signs.Sign.TheVariants as sign
use Rattle.c_grammar.proofs.Conditions.{same_unary}
use Rattle.c_grammar.proofs.Depth.{Deep, zero_le, deep_flat, deep_both, deep_made, deep_or, deep_many, deep_level}
use Rattle.c_grammar.proofs.Depth.{deep_same, deep_fix, deep_token, deep_bracketed, deep_after, deep_optional}
use Rattle.c_grammar.proofs.Depth.{deep_series}
use Rattle.c_grammar.proofs.Goods.{argument_layer, layer_is, layer_causal, same_call}
use Rattle.c_grammar.proofs.Statements.{unary_over, unary_layer, unary_is, unary_causal, stmt_layer, stmt_is}
use Rattle.c_grammar.proofs.Statements.{stmt_causal}

-- what stands beside a part that has no level
before : (k : ℕ) → k ≡ max 0 k
before k = omega arith

behind : (k : ℕ) → k ≡ max k 0
behind k = omega arith

within : (k : ℕ) → k ≡ max 0 (max k 0)
within k = omega arith

third : (k : ℕ) → k ≡ max 0 (max 0 (max k 0))
third k = omega arith

ahead : (k : ℕ) → k ≡ max 0 (max 0 k)
ahead k = omega arith

do_max : (a b : ℕ) → max a b ≡ max 0 (max a (max 0 (max b 0)))
do_max a b = omega arith

for_max : (a b c e : ℕ) → max (max a b) (max c e) ≡ max 0 (max 0 (max a (max b (max 0 (max c (max 0 e))))))
for_max a b c e = omega arith

-- calls and operands
deep_arguments : {I : Rule Operand} → Deep I depth_of_argument
    → Deep (λ n. arguments (I n)) (λ os. deepest (map depth_of_argument os))
deep_arguments d = deep_bracketed (deep_or (deep_series sign.Comma d) no_operands)
  where
    no_operands : Deep (λ n. empty []) (λ os. deepest (map depth_of_argument os))
    no_operands = record {
      bound = λ n ts rest x r. subst (λ os. deepest (map depth_of_argument os) ≤ n) (sym r.1) (zero_le n);
      shrink = λ n m ts rest x r le. r;
    }

deep_call_with : {I : Rule Operand} → Deep I depth_of_argument → Deep (λ n. call_with (I n)) depth_of_call
deep_call_with d = deep_made s.call_of depth_of_call
    (λ p. depth.call-operands p.0 p.1 ∙ before (deepest (map depth_of_argument p.1)))
    (deep_both (deep_flat name) (deep_arguments d))

deep_argument_literal : Deep (λ n. literal_part) depth_of_argument
deep_argument_literal = deep_or (deep_made operand'.Number depth_of_argument depth.argument-Number (deep_flat s.number))
    (deep_or (deep_made operand'.Null depth_of_argument depth.argument-Null (deep_flat (at sign.Null)))
    (deep_or (deep_made operand'.True depth_of_argument depth.argument-True (deep_flat (at sign.True)))
    (deep_made operand'.False depth_of_argument depth.argument-False (deep_flat (at sign.False)))))

deep_operand_literal : Deep (λ n. literal_part) depth_of_operand
deep_operand_literal = deep_or (deep_made operand'.Number depth_of_operand depth.operand-Number (deep_flat s.number))
    (deep_or (deep_made operand'.Null depth_of_operand depth.operand-Null (deep_flat (at sign.Null)))
    (deep_or (deep_made operand'.True depth_of_operand depth.operand-True (deep_flat (at sign.True)))
    (deep_made operand'.False depth_of_operand depth.operand-False (deep_flat (at sign.False)))))

argument_deep : (G : Rule Operand) → Deep G depth_of_argument → Deep (argument_layer G) depth_of_argument
argument_deep G d = deep_or (deep_made operand'.Path depth_of_argument depth.argument-Path (deep_flat path))
    (deep_or
    (deep_made operand'.Call depth_of_argument depth.argument-Call
    (deep_level (λ c. suc (depth_of_call c)) (deep_call_with d) (λ n ts rest x r. refl))) deep_argument_literal)

pub deep_argument : Deep argument depth_of_argument
deep_argument = deep_fix argument_layer argument depth_of_argument (λ x. Unit {0}) layer_is layer_causal
    (λ G n ts rest x r. tt) (λ G d only. argument_deep G d)

pub deep_call : Deep call depth_of_call
deep_call = deep_same same_call (deep_call_with deep_argument)

pub deep_operand : Deep operand depth_of_operand
deep_operand = deep_or (deep_made operand'.Path depth_of_operand depth.operand-Path (deep_flat path))
    (deep_or (deep_made operand'.Call depth_of_operand depth.operand-Call deep_call) deep_operand_literal)

pub deep_rhs : Deep rhs depth_of_rhs
deep_rhs = deep_or (deep_made rhs'.Operand depth_of_rhs (λ o. refl) deep_operand)
    (deep_made s.malloc_of depth_of_rhs (λ p. refl) (deep_flat (optional cast then at sign.Malloc then bracketed size)))

pub deep_simple : Deep simple depth_of_simple
deep_simple =
    deep_or
    (deep_made s.assign_of depth_of_simple (λ p. ahead (depth_of_rhs p.1.1))
    (deep_both (deep_flat path) (deep_both (deep_token sign.Assign) deep_rhs)))
    (deep_or (deep_made simple'.Call depth_of_simple (λ c. refl) deep_call)
    (deep_made s.free_of depth_of_simple (λ p. refl) (deep_flat (at sign.Free then bracketed path))))

-- conditions
module _ {U : Rule Unary} (d : Deep U depth_of_unary) where
  deep_test_with : Deep (λ n. test_with (operand n) (U n)) depth_of_test
  deep_test_with = deep_or
      (deep_made s.compare_of depth_of_test
      (λ p. depth.test-Compare p.0 p.1.0 p.1.1
      ∙ ap (λ k. max (depth_of_operand p.0) k) (before (depth_of_operand p.1.1)))
      (deep_both deep_operand (deep_both (deep_flat sides) deep_operand)))
      (deep_made test.Unary depth_of_test depth.test-Unary d)

  deep_and_with : Deep (λ n. and_with (operand n) (U n)) depth_of_and
  deep_and_with = deep_made s.and_of depth_of_and depth.and-tests (deep_series sign.And deep_test_with)

  deep_cond_with : Deep (λ n. cond_with (operand n) (U n)) depth_of_cond
  deep_cond_with = deep_made s.cond_of depth_of_cond depth.cond-ands (deep_series sign.Or deep_and_with)

  deep_nested_unary : Deep (λ n. nested_unary (operand n) (U n)) (λ u. pred (depth_of_unary u))
  deep_nested_unary = deep_or
      (deep_made s.not_of (λ u. pred (depth_of_unary u))
      (λ p. ap pred (depth.unary-Not p.0 p.1) ∙ before (depth_of_unary p.1))
      (deep_both (deep_flat (at sign.Not)) d))
      (deep_made s.bracket_of (λ u. pred (depth_of_unary u))
      (λ p. ap pred (depth.unary-Bracket p.0 p.1.0) ∙ within (depth_of_cond p.1.0))
      (deep_both (deep_flat (at sign.Open)) (deep_both deep_cond_with (deep_token sign.Close))))

-- a negation and brackets are a level deeper than what is in them
nested_unary_deeper : (o : Part Operand) (u : Part Unary) (ts rest : List Token) (x : Unary)
    → nested_unary o u ts rest x → depth_of_unary x ≡ suc (pred (depth_of_unary x))
nested_unary_deeper o u ts rest x (inl r) = let e = ap depth_of_unary r.is ∙ depth.unary-Not r.part.0 r.part.1 in
    e ∙ ap (λ k. suc (pred k)) (sym e)
nested_unary_deeper o u ts rest x (inr r) = let e = ap depth_of_unary r.is ∙ depth.unary-Bracket r.part.0 r.part.1.0 in
    e ∙ ap (λ k. suc (pred k)) (sym e)

deep_unary_over : {N : Rule Unary} → Deep N depth_of_unary → Deep (λ n. unary_over (operand n) (N n)) depth_of_unary
deep_unary_over d = deep_or d (deep_made unary'.Operand depth_of_unary depth.unary-Operand deep_operand)

abbrev depth_in_unary : Unary → ℕ
depth_in_unary u = pred (depth_of_unary u)

pub deep_inner_unary : Deep inner_unary depth_in_unary
deep_inner_unary = deep_fix unary_layer inner_unary depth_in_unary (λ x. depth_of_unary x ≡ suc (depth_in_unary x))
    unary_is unary_causal
    (λ G n ts rest x r. nested_unary_deeper (operand n) (unary_over (operand n) (level G n)) ts rest x r)
    (λ G d only. deep_nested_unary (deep_unary_over (deep_level depth_of_unary d only)))

pub deep_unary : Deep unary depth_of_unary
deep_unary = deep_same same_unary
    (deep_unary_over
    (deep_level depth_of_unary deep_inner_unary
    (λ n ts rest x r. nested_unary_deeper (operand n) (unary n) ts rest x r)))

pub deep_cond : Deep cond depth_of_cond
deep_cond = deep_cond_with deep_unary

-- declarations
pub deep_declarator : Deep declarator depth_of_declarator
deep_declarator = deep_made s.declarator_of depth_of_declarator (λ p. before (depth_of_option depth_of_rhs p.1))
    (deep_both (deep_flat name) (deep_optional (deep_after deep_rhs sign.Assign)))

pub deep_declare : Deep declare depth_of_declare
deep_declare = deep_or
    (deep_made s.pointers_of depth_of_declare (λ p. third (deepest (map depth_of_declarator p.1.1.0)))
    (deep_both (deep_flat (at sign.Struct))
    (deep_both (deep_flat name)
    (deep_both (deep_series sign.Comma (deep_after deep_declarator sign.Star)) (deep_token sign.Semicolon)))))
    (deep_made s.datums_of depth_of_declare (λ p. within (deepest (map depth_of_declarator p.1.0)))
    (deep_both (deep_flat data_part) (deep_both (deep_series sign.Comma deep_declarator) (deep_token sign.Semicolon))))

-- statements that are no level
pub deep_flat_stmt : Deep flat_stmt depth_of_stmt
deep_flat_stmt =
    deep_or (deep_made stmt'.Empty depth_of_stmt depth.stmt-Empty (deep_flat (at sign.Semicolon)))
    (deep_or
    (deep_made s.simple_of depth_of_stmt (λ p. depth.stmt-Simple p.0 ∙ behind (depth_of_simple p.0))
    (deep_both deep_simple (deep_token sign.Semicolon)))
    (deep_or
    (deep_made s.return_of depth_of_stmt
    (λ p. depth.stmt-Return p.0 p.1.0 ∙ within (depth_of_option depth_of_operand p.1.0))
    (deep_both (deep_flat (at sign.Return)) (deep_both (deep_optional deep_operand) (deep_token sign.Semicolon))))
    (deep_or
    (deep_made s.break_of depth_of_stmt (λ p. depth.stmt-Break p.0)
    (deep_flat (at sign.Break then token sign.Semicolon)))
    (deep_or
    (deep_made s.continue_of depth_of_stmt (λ p. depth.stmt-Continue p.0)
    (deep_flat (at sign.Continue then token sign.Semicolon)))
    (deep_made s.assert_of depth_of_stmt (λ p. depth.stmt-Assert p.0 p.1.0 ∙ within (depth_of_cond p.1.0))
    (deep_both (deep_flat (at sign.Assert)) (deep_both (deep_bracketed deep_cond) (deep_token sign.Semicolon))))))))

-- statements that are levels
module _ {S : Rule Stmt} (d : Deep S depth_of_stmt) where
  deep_block_with : Deep (λ n. block_with (declare n) (S n)) depth_of_block
  deep_block_with = deep_made s.block_of depth_of_block
      (λ p. depth.block-parts p.0 p.1.1.at p.1.0 ∙ within (deepest (map depth_of_part p.1.0)))
      (deep_both (deep_flat (at sign.OpenBrace))
      (deep_both
      (deep_many
      (deep_or (deep_made part'.Declare depth_of_part depth.part-Declare deep_declare)
      (deep_made part'.Stmt depth_of_part depth.part-Stmt d)))
      (deep_token sign.CloseBrace)))

  deep_other : Deep (λ n. other_part (S n)) (depth_of_option depth_of_stmt)
  deep_other = deep_or (deep_made Some (depth_of_option depth_of_stmt) (λ x. refl) (deep_after d sign.Else)) absent
    where
      absent : Deep (λ n. unless sign.Else (empty None)) (depth_of_option depth_of_stmt)
      absent = record {
        bound = λ n ts rest x r. subst (λ o. depth_of_option depth_of_stmt o ≤ n) (sym r.0.1) (zero_le n);
        shrink = λ n m ts rest x r le. r;
      }

  deep_first : Deep (λ n. first_part (declare n) (simple n)) depth_of_first
  deep_first = deep_or (deep_made first'.Declare depth_of_first (λ x. refl) deep_declare)
      (deep_made first depth_of_first (λ p. behind (depth_of_first p.0))
      (deep_both (deep_or (deep_made first'.Simple depth_of_first (λ x. refl) deep_simple) absent)
      (deep_token sign.Semicolon)))
    where
      absent : Deep (λ n. empty first'.Nothing) depth_of_first
      absent = record {
        bound = λ n ts rest x r. subst (λ f. depth_of_first f ≤ n) (sym r.1) (zero_le n);
        shrink = λ n m ts rest x r le. r;
      }

  deep_nested_stmt : Deep (λ n. nested_stmt (declare n) (simple n) (cond n) (S n)) (λ x. pred (depth_of_stmt x))
  deep_nested_stmt =
      deep_or (deep_made stmt'.Block (λ x. pred (depth_of_stmt x)) (λ b. ap pred (depth.stmt-Block b)) deep_block_with)
      (deep_or
      (deep_made s.if_of (λ x. pred (depth_of_stmt x))
      (λ p. ap pred (depth.stmt-If p.0 p.1.0 p.1.1.0 p.1.1.1)
      ∙ before (max (depth_of_cond p.1.0) (max (depth_of_stmt p.1.1.0) (depth_of_option depth_of_stmt p.1.1.1))))
      (deep_both (deep_flat (at sign.If)) (deep_both (deep_bracketed deep_cond) (deep_both d deep_other))))
      (deep_or
      (deep_made s.while_of (λ x. pred (depth_of_stmt x))
      (λ p. ap pred (depth.stmt-While p.0 p.1.0 p.1.1) ∙ before (max (depth_of_cond p.1.0) (depth_of_stmt p.1.1)))
      (deep_both (deep_flat (at sign.While)) (deep_both (deep_bracketed deep_cond) d)))
      (deep_or
      (deep_made s.do_of (λ x. pred (depth_of_stmt x))
      (λ p. ap pred (depth.stmt-Do p.0 p.1.0 p.1.1.1.0) ∙ do_max (depth_of_stmt p.1.0) (depth_of_cond p.1.1.1.0))
      (deep_both (deep_flat (at sign.Do))
      (deep_both d
      (deep_both (deep_token sign.While) (deep_both (deep_bracketed deep_cond) (deep_token sign.Semicolon))))))
      (deep_made s.for_of (λ x. pred (depth_of_stmt x))
      (λ p. ap pred (depth.stmt-For p.0 p.1.1.0 p.1.1.1.0 p.1.1.1.1.1.0 p.1.1.1.1.1.1.1)
      ∙ for_max (depth_of_first p.1.1.0) (depth_of_option depth_of_cond p.1.1.1.0)
      (depth_of_option depth_of_simple p.1.1.1.1.1.0) (depth_of_stmt p.1.1.1.1.1.1.1))
      (deep_both (deep_flat (at sign.For))
      (deep_both (deep_token sign.Open)
      (deep_both deep_first (deep_both (deep_optional deep_cond) (deep_both (deep_token sign.Semicolon)
      (deep_both (deep_optional deep_simple) (deep_both (deep_token sign.Close) d)))))))))))

nested_stmt_deeper : (d : Part _) (m : Part _) (c : Part _) (v : Part Stmt) (ts rest : List Token) (x : Stmt)
    → nested_stmt d m c v ts rest x → depth_of_stmt x ≡ suc (pred (depth_of_stmt x))
nested_stmt_deeper d m c v ts rest x (inl r) = let e = ap depth_of_stmt r.is ∙ depth.stmt-Block r.part in
    e ∙ ap (λ k. suc (pred k)) (sym e)
nested_stmt_deeper d m c v ts rest x (inr (inl r)) =
    let e = ap depth_of_stmt r.is ∙ depth.stmt-If r.part.0 r.part.1.0 r.part.1.1.0 r.part.1.1.1 in
    e ∙ ap (λ k. suc (pred k)) (sym e)
nested_stmt_deeper d m c v ts rest x (inr (inr (inl r))) =
    let e = ap depth_of_stmt r.is ∙ depth.stmt-While r.part.0 r.part.1.0 r.part.1.1 in
    e ∙ ap (λ k. suc (pred k)) (sym e)
nested_stmt_deeper d m c v ts rest x (inr (inr (inr (inl r)))) =
    let e = ap depth_of_stmt r.is ∙ depth.stmt-Do r.part.0 r.part.1.0 r.part.1.1.1.0 in
    e ∙ ap (λ k. suc (pred k)) (sym e)
nested_stmt_deeper d m c v ts rest x (inr (inr (inr (inr r)))) =
    let e = ap depth_of_stmt r.is
    ∙ depth.stmt-For r.part.0 r.part.1.1.0 r.part.1.1.1.0 r.part.1.1.1.1.1.0 r.part.1.1.1.1.1.1.1 in
    e ∙ ap (λ k. suc (pred k)) (sym e)

stmt_deep : (G : Rule Stmt) → Deep G depth_of_stmt → Deep (stmt_layer G) depth_of_stmt
stmt_deep G d =
    deep_or
    (deep_level depth_of_stmt (deep_nested_stmt d)
    (λ n ts rest x r. nested_stmt_deeper (declare n) (simple n) (cond n) (G n) ts rest x r)) deep_flat_stmt

pub deep_stmt : Deep stmt depth_of_stmt
deep_stmt = deep_fix stmt_layer stmt depth_of_stmt (λ x. Unit {0}) stmt_is stmt_causal (λ G n ts rest x r. tt)
    (λ G d only. stmt_deep G d)

pub deep_block : Deep block (λ b. suc (depth_of_block b))
deep_block = deep_level (λ b. suc (depth_of_block b)) (deep_block_with deep_stmt) (λ n ts rest x r. refl)

-- items and units
pub deep_item : Deep item depth_of_item
deep_item =
    deep_or
    (deep_made i.struct_of depth_of_item (λ p. refl)
    (deep_flat (at sign.Struct then name then optional i.braced_fields then token sign.Semicolon)))
    (deep_or (deep_made i.enum_of depth_of_item (λ p. refl) (deep_flat (at sign.Enum then name then i.enum_body)))
    (deep_or
    (deep_made i.proto_of depth_of_item (λ p. refl)
    (deep_flat (optional (at sign.Extern) then head then token sign.Semicolon)))
    (deep_or
    (deep_made i.function_of depth_of_item (λ p. before (suc (depth_of_block p.1)))
    (deep_both (deep_flat head) deep_block))
    (deep_made item'.Declare depth_of_item (λ d. refl) deep_declare))))

pub deep_unit : Deep unit depth_of_items
deep_unit = deep_many deep_item

-- with n levels a text has the trees that are no deeper than n
pub unit_to : (n : ℕ) (ts : List Token) (u : List Item) → unit n ts [] u → IsWhole unit ts u × (depth_of_items u ≤ n)
unit_to n ts u r = ((n, r), deep_unit.bound n ts [] u r)

pub unit_back : (n : ℕ) (ts : List Token) (u : List Item) → IsWhole unit ts u × (depth_of_items u ≤ n) → unit n ts [] u
unit_back n ts u (w, le) = deep_unit.shrink n w.0 ts [] u w.1 le
