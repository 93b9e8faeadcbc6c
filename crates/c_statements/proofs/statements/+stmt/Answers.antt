use Rattle.std.proofs.Common.{Some, refl, sym, ap, subst, arith, ◌∙◌}
use Rattle.std.proofs.lemmas.Result.{IfOk-weaker, IfErr-weaker}
use Rattle.c_ast.specs.declared.conditions.Cond.{Cond}
use Rattle.c_ast.specs.declared.statements.Part.TheVariants as part'
use Rattle.c_ast.specs.declared.statements.Stmt.TheVariants as stmt'
use Rattle.c_lexer.specs.declared.token.Token.{Token}
use Rattle.c_grammar.specs.Grammar.{level}
use Rattle.c_grammar.specs.Syntax as s
use Rattle.c_grammar.specs.Syntax.{at_of}
use Rattle.c_grammar.specs.declared.signs.Sign.TheVariants as sign
use Rattle.c_grammar.specs.words.Faults.{Takes, Fails}
use Rattle.c_grammar.specs.words.Faults.Fails.{no_memory}
use Rattle.c_grammar.specs.words.Parted.{begins_part, begins_level}
use Rattle.c_grammar.specs.words.Sets.{no_sign, elses, begins_declare}
use Rattle.c_reader.specs.Bounds.{Reads, Stops}
use Rattle.c_statements.specs.Shapes.{read_block, read_block_stmt, read_do_stmt, read_flat, read_for_stmt}
use Rattle.c_statements.specs.Shapes.{read_if_stmt, read_nested, read_other, read_part, read_parts, read_stmt}
use Rattle.c_statements.specs.Shapes.{read_while_stmt}
use Rattle.c_grammar.proofs.Branches.{bad_then, bad_else, other_fails, other_takes, other_none, good_tail, least_tail}
use Rattle.c_grammar.proofs.Choices.{left_takes, right_takes, left_fails, right_fails}
use Rattle.c_grammar.proofs.Goods.{good_one, good_at}
use Rattle.c_grammar.proofs.Levels.{deep_stmt, least_stmt}
use Rattle.c_grammar.proofs.Heads.{good_for_head, apart, same_apart}
use Rattle.c_grammar.proofs.Heads.{headed_for, same_for, least_do_tail}
use Rattle.c_grammar.proofs.SignLemmas.{one_of}
use Rattle.c_grammar.proofs.Lists.{lists, leads_none, leads_more, leads_end, leads_stuck, leads_as}
use Rattle.c_grammar.proofs.Parts.{takes_made, fails_made, takes_token, takes_same, fails_same, good_made, takes_level}
use Rattle.c_grammar.proofs.Parts.{fails_level, good_level}
use Rattle.c_grammar.proofs.Repeats.{least_many}
use Rattle.c_grammar.proofs.Sequences.{takes_as, least_one, least_pair, takes_unmade, fails_unmade}
use Rattle.c_grammar.proofs.Statements.{good_declare, good_flat}
use Rattle.c_grammar.proofs.Statements.{good_do_tail, good_nested, good_other, good_part, good_parts, good_stmt}
use Rattle.c_grammar.proofs.Statements.{same_stmt}
use Rattle.c_grammar.proofs.Steps.{passed, pair, in_front, in_back, widen_takes, widen_fails, good_pair}
use Rattle.c_grammar.proofs.Tokens.{fails_one, takes_at, real}
use Rattle.c_grammar.proofs.Carrying.{carried_ok, carried_err}
use Rattle.c_statements.proofs.Alternatives.Picks.{here, later, only}
use Rattle.c_statements.proofs.NestedForms.{at_nested}
use Rattle.c_statements.proofs.Words.{good_tested}
use Rattle.c_statements.proofs.statements.«+stmt».Goals as goal

pub part-returns-in_err-declare-clause-err : goal.part-returns-in_err-declare-clause-err
part-returns-in_err-declare-clause-err n c =
    passed c.from_residual.result (Stops read_part c.args.bounds.now c.args.left.now) c.from_residual.ensures.1
    (widen_fails _ _ _ refl refl refl
    (left_fails (good_made good_declare part'.Declare) (good_made good_stmt part'.Stmt) refl refl
    (sym (ap (λ s. begins_declare s) c.peek.ensures) ∙ sym c.begins_declare.ensures ∙ c.if-begins_declare.true)
    (fails_made part'.Declare _ c.in_err-declare.ensures.err)))

pub part-returns-then-begins_declare-clause-ok : goal.part-returns-then-begins_declare-clause-ok
part-returns-then-begins_declare-clause-ok n c =
    widen_takes _ _ refl refl
    (left_takes (good_made good_declare part'.Declare) (good_made good_stmt part'.Stmt) refl refl
    (sym (ap (λ s. begins_declare s) c.peek.ensures) ∙ sym c.begins_declare.ensures ∙ c.if-begins_declare.true)
    (takes_made part'.Declare c.in_ok-declare.ensures.ok))

pub part-returns-in_err-stmt-clause-err : goal.part-returns-in_err-stmt-clause-err
part-returns-in_err-stmt-clause-err n c =
    passed c.from_residual-in_err-stmt.result (Stops read_part c.args.bounds.now c.args.left.now)
    c.from_residual-in_err-stmt.ensures.1
    (widen_fails _ _ _ refl refl refl
    (right_fails (good_made good_declare part'.Declare) (good_made good_stmt part'.Stmt) refl refl refl
    (sym (ap (λ s. begins_declare s) c.peek.ensures) ∙ sym c.begins_declare.ensures ∙ c.if-begins_declare.false)
    (fails_made part'.Stmt _ c.in_err-stmt.ensures.err)))

pub part-returns-clause-ok : goal.part-returns-clause-ok
part-returns-clause-ok n c =
    widen_takes _ _ refl refl
    (right_takes (good_made good_declare part'.Declare) (good_made good_stmt part'.Stmt) refl refl refl
    (sym (ap (λ s. begins_declare s) c.peek.ensures) ∙ sym c.begins_declare.ensures ∙ c.if-begins_declare.false)
    (takes_made part'.Stmt c.in_ok-stmt.ensures.ok))

pub parts-returns-in_err-one-clause-err : goal.parts-returns-in_err-one-clause-err
parts-returns-in_err-one-clause-err n c =
    passed c.from_residual.result (Stops read_parts c.args.bounds.now c.args.left.now) c.from_residual.ensures.1
    (widen_fails _ _ _ refl refl refl
    (leads_stuck (good_part good_stmt) (lists begins_part no_sign elses begins_level refl refl refl refl refl)
    c.parts.invariant.leads (sym (ap (λ s. begins_part s) c.peek.ensures) ∙ sym c.begins_part.ensures
    ∙ c.parts-test.true) _ c.in_err-one.ensures.err))

pub parts-returns-in_err-push-clause-err : goal.parts-returns-in_err-push-clause-err
parts-returns-in_err-push-clause-err n c =
    passed c.from_residual-in_err-push.result (Stops read_parts c.args.bounds.now c.args.left.now)
    c.from_residual-in_err-push.ensures.1 no_memory

pub parts-parts-init : goal.parts-parts-init
parts-parts-init n c = record {
  shorter = omega arith;
  leads =
      leads_as c.new-all.ensures
      (leads_none read_part.rule begins_part no_sign elses begins_level _ _ _);
}

pub parts-parts-preserved : goal.parts-parts-preserved
parts-parts-preserved n c = record {
  shorter = omega (arith, c.parts.invariant.shorter, c.in_ok-one.ensures.shorter);
  leads =
      leads_as c.in_ok-push.ensures.ok
      (leads_more (good_part good_stmt) (lists begins_part no_sign elses begins_level refl refl refl refl refl)
      c.parts.invariant.leads _ _
      (sym (ap (λ s. begins_part s) c.peek.ensures) ∙ sym c.begins_part.ensures ∙ c.parts-test.true)
      c.in_ok-one.ensures.ok);
}

pub parts-returns-clause-ok : goal.parts-returns-clause-ok
parts-returns-clause-ok n c =
    widen_takes _ _ refl refl
    (leads_end (good_part good_stmt) (lists begins_part no_sign elses begins_level refl refl refl refl refl)
    c.parts.invariant.leads (sym (ap (λ s. begins_part s) c.peek.ensures) ∙ sym c.begins_part.ensures
    ∙ c.parts-test.false))

pub block-returns-in_err-open-clause-err : goal.block-returns-in_err-open-clause-err
block-returns-in_err-open-clause-err n c =
    passed c.from_residual.result (Stops read_block c.args.bounds.now c.args.left.now) c.from_residual.ensures.1
    (widen_fails _ _ _ refl refl refl
    (fails_made s.block_of _
    (in_front (good_at sign.OpenBrace) (good_pair (good_parts good_stmt) (good_one sign.CloseBrace) refl) refl refl
    (least_pair (good_parts good_stmt) (good_one sign.CloseBrace) refl refl _ (least_many read_part.rule elses _)
    (least_one sign.CloseBrace (real sign.CloseBrace tt) _))
    (fails_made at_of _
    (fails_one sign.OpenBrace (real sign.OpenBrace tt) _ _ _ _ c.in_err-open.ensures.err.0
    c.in_err-open.ensures.err.1)))))

pub block-returns-in_err-parts-clause-err : goal.block-returns-in_err-parts-clause-err
block-returns-in_err-parts-clause-err n c =
    passed c.from_residual-in_err-parts.result (Stops read_block c.args.bounds.now c.args.left.now)
    c.from_residual-in_err-parts.ensures.1
    (widen_fails _ _ _ refl refl refl
    (fails_made s.block_of _
    (in_back (good_at sign.OpenBrace) (good_pair (good_parts good_stmt) (good_one sign.CloseBrace) refl) refl refl
    refl (takes_at sign.OpenBrace _ _ _ _ c.in_ok-open.ensures.ok.0 c.in_ok-open.ensures.ok.1)
    (in_front (good_parts good_stmt) (good_one sign.CloseBrace) refl refl
    (least_one sign.CloseBrace (real sign.CloseBrace tt) _) c.in_err-parts.ensures.err))))

pub block-returns-in_err-close-clause-err : goal.block-returns-in_err-close-clause-err
block-returns-in_err-close-clause-err n c =
    passed c.from_residual-in_err-close.result (Stops read_block c.args.bounds.now c.args.left.now)
    c.from_residual-in_err-close.ensures.1
    (widen_fails _ _ _ refl refl refl
    (fails_made s.block_of _
    (in_back (good_at sign.OpenBrace) (good_pair (good_parts good_stmt) (good_one sign.CloseBrace) refl) refl refl
    refl (takes_at sign.OpenBrace _ _ _ _ c.in_ok-open.ensures.ok.0 c.in_ok-open.ensures.ok.1)
    (in_back (good_parts good_stmt) (good_one sign.CloseBrace) refl refl refl c.in_ok-parts.ensures.ok
    (fails_one sign.CloseBrace (real sign.CloseBrace tt) _ _ _ _ c.in_err-close.ensures.err.0
    c.in_err-close.ensures.err.1)))))

pub block-returns-clause-ok : goal.block-returns-clause-ok
block-returns-clause-ok n c =
    widen_takes _ _ refl refl
    (takes_made s.block_of
    (pair (good_at sign.OpenBrace) (good_pair (good_parts good_stmt) (good_one sign.CloseBrace) refl) refl
    (takes_at sign.OpenBrace _ _ _ _ c.in_ok-open.ensures.ok.0 c.in_ok-open.ensures.ok.1)
    (pair (good_parts good_stmt) (good_one sign.CloseBrace) refl c.in_ok-parts.ensures.ok
    (takes_token sign.CloseBrace _ _ _ _ c.in_ok-close.ensures.ok.0 c.in_ok-close.ensures.ok.1))))

pub other-returns-in_err-rest-clause-err : goal.other-returns-in_err-rest-clause-err
other-returns-in_err-rest-clause-err n c =
    passed c.from_residual.result (Stops read_other c.args.bounds.now c.args.left.now) c.from_residual.ensures.1
    (absurd (c.in_err-rest.ensures.err.1 (one_of sign.Else _ (sym c.is_next.ensures ∙ c.if-is_next.true))))

pub other-returns-in_err-rest-clause-begins : goal.other-returns-in_err-rest-clause-begins
other-returns-in_err-rest-clause-begins n c = λ _. (one_of sign.Else _ (sym c.is_next.ensures ∙ c.if-is_next.true))

pub other-returns-in_err-stmt-clause-err : goal.other-returns-in_err-stmt-clause-err
other-returns-in_err-stmt-clause-err n c =
    passed c.from_residual-in_err-stmt.result (Stops read_other c.args.bounds.now c.args.left.now)
    c.from_residual-in_err-stmt.ensures.1
    (other_fails _ _ _ (one_of sign.Else _ (sym c.is_next.ensures ∙ c.if-is_next.true)) _
    (widen_fails no_sign elses no_sign refl refl refl (fails_made s.second _
    (in_back (good_one sign.Else) good_stmt refl refl refl
    (takes_token sign.Else _ _ _ _ c.in_ok-rest.ensures.ok.0 c.in_ok-rest.ensures.ok.1)
    c.in_err-stmt.ensures.err))))

pub other-returns-in_err-stmt-clause-begins : goal.other-returns-in_err-stmt-clause-begins
other-returns-in_err-stmt-clause-begins n c = λ _. (one_of sign.Else _ (sym c.is_next.ensures ∙ c.if-is_next.true))

pub other-returns-in_err-stmt-2-clause-err : goal.other-returns-in_err-stmt-2-clause-err
other-returns-in_err-stmt-2-clause-err n c =
    passed c.from_residual-in_err-stmt-2.result (Stops read_other c.args.bounds.now c.args.left.now)
    c.from_residual-in_err-stmt-2.ensures.1 no_memory

pub other-returns-in_err-stmt-2-clause-begins : goal.other-returns-in_err-stmt-2-clause-begins
other-returns-in_err-stmt-2-clause-begins n c = λ _. (one_of sign.Else _ (sym c.is_next.ensures ∙ c.if-is_next.true))

pub other-returns-then-is_next-clause-ok : goal.other-returns-then-is_next-clause-ok
other-returns-then-is_next-clause-ok n c =
    takes_as _ (ap (λ b. Some b) c.in_ok-stmt-2.ensures)
    (other_takes _ c.args.bounds.now.end _ (one_of sign.Else _ (sym c.is_next.ensures ∙ c.if-is_next.true)) _ _
    (widen_takes no_sign elses refl refl (takes_made s.second
    (pair (good_one sign.Else) good_stmt refl
    (takes_token sign.Else _ _ _ _ c.in_ok-rest.ensures.ok.0 c.in_ok-rest.ensures.ok.1) c.in_ok-stmt.ensures.ok))))

pub other-returns-clause-ok : goal.other-returns-clause-ok
other-returns-clause-ok n c = other_none _ _ (sym c.is_next.ensures ∙ c.if-is_next.false)

pub if_stmt-returns-in_err-head-clause-err : goal.if_stmt-returns-in_err-head-clause-err
if_stmt-returns-in_err-head-clause-err n c =
    passed c.from_residual.result (Stops read_if_stmt c.args.bounds.now c.args.left.now) c.from_residual.ensures.1
    (fails_same (same_apart s.if_of) _
    (widen_fails _ _ _ refl refl refl
    (fails_made (apart s.if_of) _
    (in_front (good_tested sign.If) good_tail refl refl (least_tail _) c.in_err-head.ensures.err))))

pub if_stmt-returns-in_err-then-clause-err : goal.if_stmt-returns-in_err-then-clause-err
if_stmt-returns-in_err-then-clause-err n c =
    passed c.from_residual-in_err-then.result (Stops read_if_stmt c.args.bounds.now c.args.left.now)
    c.from_residual-in_err-then.ensures.1
    (fails_same (same_apart s.if_of) _
    (widen_fails _ _ _ refl refl refl
    (fails_made (apart s.if_of) _
    (in_back (good_tested sign.If) good_tail refl refl refl c.in_ok-head.ensures.ok
    (bad_then _ _ _ _ c.in_err-then.ensures.err)))))

pub if_stmt-returns-in_err-then-2-clause-err : goal.if_stmt-returns-in_err-then-2-clause-err
if_stmt-returns-in_err-then-2-clause-err n c =
    passed c.from_residual-in_err-then-2.result (Stops read_if_stmt c.args.bounds.now c.args.left.now)
    c.from_residual-in_err-then-2.ensures.1 no_memory

pub if_stmt-returns-in_err-other-clause-err : goal.if_stmt-returns-in_err-other-clause-err
if_stmt-returns-in_err-other-clause-err n c =
    passed c.from_residual-in_err-other.result (Stops read_if_stmt c.args.bounds.now c.args.left.now)
    c.from_residual-in_err-other.ensures.1
    (fails_same (same_apart s.if_of) _
    (widen_fails _ _ _ refl refl refl
    (fails_made (apart s.if_of) _
    (in_back (good_tested sign.If) good_tail refl refl refl c.in_ok-head.ensures.ok
    (bad_else _ _ _ _ _ _ c.in_ok-then.ensures.ok (c.in_err-other.ensures.begins refl)
    c.in_err-other.ensures.err)))))

pub if_stmt-returns-clause-ok : goal.if_stmt-returns-clause-ok
if_stmt-returns-clause-ok n c =
    takes_as _ (ap (λ b. stmt'.If c.in_ok-head.head.0 c.in_ok-head.head.1 b c.in_ok-other.other) c.in_ok-then-2.ensures)
    (takes_same (same_apart s.if_of) (widen_takes _ _ refl refl (takes_made (apart s.if_of)
    (pair (good_tested sign.If) good_tail refl c.in_ok-head.ensures.ok
    (widen_takes no_sign elses refl refl
    (pair good_stmt (good_other good_stmt) refl c.in_ok-then.ensures.ok c.in_ok-other.ensures.ok))))))

pub while_stmt-returns-in_err-head-clause-err : goal.while_stmt-returns-in_err-head-clause-err
while_stmt-returns-in_err-head-clause-err n c =
    passed c.from_residual.result (Stops read_while_stmt c.args.bounds.now c.args.left.now) c.from_residual.ensures.1
    (fails_same (same_apart s.while_of) _
    (widen_fails _ _ _ refl refl refl
    (fails_made (apart s.while_of) _
    (in_front (good_tested sign.While) good_stmt refl refl (least_stmt _) c.in_err-head.ensures.err))))

pub while_stmt-returns-in_err-body-clause-err : goal.while_stmt-returns-in_err-body-clause-err
while_stmt-returns-in_err-body-clause-err n c =
    passed c.from_residual-in_err-body.result (Stops read_while_stmt c.args.bounds.now c.args.left.now)
    c.from_residual-in_err-body.ensures.1
    (fails_same (same_apart s.while_of) _
    (widen_fails _ _ _ refl refl refl
    (fails_made (apart s.while_of) _
    (in_back (good_tested sign.While) good_stmt refl refl refl c.in_ok-head.ensures.ok c.in_err-body.ensures.err))))

pub while_stmt-returns-in_err-body-2-clause-err : goal.while_stmt-returns-in_err-body-2-clause-err
while_stmt-returns-in_err-body-2-clause-err n c =
    passed c.from_residual-in_err-body-2.result (Stops read_while_stmt c.args.bounds.now c.args.left.now)
    c.from_residual-in_err-body-2.ensures.1 no_memory

pub while_stmt-returns-clause-ok : goal.while_stmt-returns-clause-ok
while_stmt-returns-clause-ok n c =
    takes_as _ (ap (λ b. stmt'.While c.in_ok-head.head.0 c.in_ok-head.head.1 b) c.in_ok-body-2.ensures)
    (takes_same (same_apart s.while_of)
    (widen_takes _ _ refl refl
    (takes_made (apart s.while_of)
    (pair (good_tested sign.While) good_stmt refl c.in_ok-head.ensures.ok c.in_ok-body.ensures.ok))))

pub do_stmt-returns-in_err-token-clause-err : goal.do_stmt-returns-in_err-token-clause-err
do_stmt-returns-in_err-token-clause-err n c =
    passed c.from_residual.result (Stops read_do_stmt c.args.bounds.now c.args.left.now) c.from_residual.ensures.1
    (widen_fails _ _ _ refl refl refl
    (fails_made s.do_of _
    (in_front (good_at sign.Do) (good_pair good_stmt good_do_tail refl) refl refl
    (least_pair good_stmt good_do_tail refl refl _ (least_stmt _) (least_do_tail _))
    (fails_made at_of _
    (fails_one sign.Do (real sign.Do tt) _ _ _ _ c.in_err-token.ensures.err.0 c.in_err-token.ensures.err.1)))))

pub do_stmt-returns-in_err-body-clause-err : goal.do_stmt-returns-in_err-body-clause-err
do_stmt-returns-in_err-body-clause-err n c =
    passed c.from_residual-in_err-body.result (Stops read_do_stmt c.args.bounds.now c.args.left.now)
    c.from_residual-in_err-body.ensures.1
    (widen_fails _ _ _ refl refl refl
    (fails_made s.do_of _
    (in_back (good_at sign.Do) (good_pair good_stmt good_do_tail refl) refl refl refl
    (takes_at sign.Do _ _ _ _ c.in_ok-token.ensures.ok.0 c.in_ok-token.ensures.ok.1)
    (in_front good_stmt good_do_tail refl refl (least_do_tail _) c.in_err-body.ensures.err))))

pub do_stmt-returns-in_err-body-2-clause-err : goal.do_stmt-returns-in_err-body-2-clause-err
do_stmt-returns-in_err-body-2-clause-err n c =
    passed c.from_residual-in_err-body-2.result (Stops read_do_stmt c.args.bounds.now c.args.left.now)
    c.from_residual-in_err-body-2.ensures.1 no_memory

pub do_stmt-returns-in_err-cond-clause-err : goal.do_stmt-returns-in_err-cond-clause-err
do_stmt-returns-in_err-cond-clause-err n c =
    passed c.from_residual-in_err-cond.result (Stops read_do_stmt c.args.bounds.now c.args.left.now)
    c.from_residual-in_err-cond.ensures.1
    (widen_fails _ _ _ refl refl refl
    (fails_made s.do_of _
    (in_back (good_at sign.Do) (good_pair good_stmt good_do_tail refl) refl refl refl
    (takes_at sign.Do _ _ _ _ c.in_ok-token.ensures.ok.0 c.in_ok-token.ensures.ok.1)
    (in_back good_stmt good_do_tail refl refl refl c.in_ok-body.ensures.ok
    (fails_unmade good_do_tail (λ (q : Token × (Cond × Token)). q.1.0) refl _ c.in_err-cond.ensures.err)))))

pub do_stmt-returns-clause-ok : goal.do_stmt-returns-clause-ok
do_stmt-returns-clause-ok n c =
    takes_as _ (ap (λ b. stmt'.Do c.in_ok-token.token.now.at b c.in_ok-cond.cond) c.in_ok-body-2.ensures)
    (takes_as _
    (ap (λ d. stmt'.Do c.in_ok-token.token.now.at c.in_ok-body.body d)
    (takes_unmade good_do_tail (λ (q : Token × (Cond × Token)). q.1.0) c.in_ok-cond.ensures.ok).1)
    (widen_takes _ _ refl refl
    (takes_made s.do_of
    (pair (good_at sign.Do) (good_pair good_stmt good_do_tail refl) refl
    (takes_at sign.Do _ _ _ _ c.in_ok-token.ensures.ok.0 c.in_ok-token.ensures.ok.1)
    (pair good_stmt good_do_tail refl c.in_ok-body.ensures.ok
    (takes_unmade good_do_tail (λ (q : Token × (Cond × Token)). q.1.0) c.in_ok-cond.ensures.ok).2)))))

pub for_stmt-returns-in_err-head-clause-err : goal.for_stmt-returns-in_err-head-clause-err
for_stmt-returns-in_err-head-clause-err n c =
    passed c.from_residual.result (Stops read_for_stmt c.args.bounds.now c.args.left.now) c.from_residual.ensures.1
    (fails_same same_for _
    (widen_fails _ _ _ refl refl refl
    (fails_made headed_for _
    (in_front good_for_head good_stmt refl refl (least_stmt _) c.in_err-head.ensures.err))))

pub for_stmt-returns-in_err-body-clause-err : goal.for_stmt-returns-in_err-body-clause-err
for_stmt-returns-in_err-body-clause-err n c =
    passed c.from_residual-in_err-body.result (Stops read_for_stmt c.args.bounds.now c.args.left.now)
    c.from_residual-in_err-body.ensures.1
    (fails_same same_for _
    (widen_fails _ _ _ refl refl refl
    (fails_made headed_for _
    (in_back good_for_head good_stmt refl refl refl c.in_ok-head.ensures.ok c.in_err-body.ensures.err))))

pub for_stmt-returns-in_err-body-2-clause-err : goal.for_stmt-returns-in_err-body-2-clause-err
for_stmt-returns-in_err-body-2-clause-err n c =
    passed c.from_residual-in_err-body-2.result (Stops read_for_stmt c.args.bounds.now c.args.left.now)
    c.from_residual-in_err-body-2.ensures.1 no_memory

pub for_stmt-returns-clause-ok : goal.for_stmt-returns-clause-ok
for_stmt-returns-clause-ok n c =
    takes_as _
    (ap (λ b. stmt'.For c.in_ok-head.head.0 c.in_ok-head.head.1 c.in_ok-head.head.2 c.in_ok-head.head.3 b)
    c.in_ok-body-2.ensures)
    (takes_same same_for
    (widen_takes _ _ refl refl
    (takes_made headed_for (pair good_for_head good_stmt refl c.in_ok-head.ensures.ok c.in_ok-body.ensures.ok))))

pub block_stmt-returns-in_err-block-clause-err : goal.block_stmt-returns-in_err-block-clause-err
block_stmt-returns-in_err-block-clause-err n c =
    passed c.from_residual.result (Stops read_block_stmt c.args.bounds.now c.args.left.now) c.from_residual.ensures.1
    (widen_fails _ _ _ refl refl refl (fails_made stmt'.Block _ c.in_err-block.ensures.err))

pub block_stmt-returns-clause-ok : goal.block_stmt-returns-clause-ok
block_stmt-returns-clause-ok n c = widen_takes _ _ refl refl (takes_made stmt'.Block c.in_ok-block.ensures.ok)

pub nested-returns-then-is_next-clause-ok : goal.nested-returns-then-is_next-clause-ok
nested-returns-then-is_next-clause-ok n c =
    carried_ok (at_nested (here (sym c.is_next.ensures ∙ c.if-is_next.true))) c.block_stmt.result (λ r. r.1.now)
    (λ r. r.0)
    c.block_stmt.ensures.ok

pub nested-returns-then-is_next-clause-err : goal.nested-returns-then-is_next-clause-err
nested-returns-then-is_next-clause-err n c =
    carried_err (at_nested (here (sym c.is_next.ensures ∙ c.if-is_next.true))) _ c.block_stmt.result
    c.block_stmt.ensures.err

pub nested-returns-then-is_next-2-clause-ok : goal.nested-returns-then-is_next-2-clause-ok
nested-returns-then-is_next-2-clause-ok n c =
    carried_ok (at_nested (later (sym c.is_next.ensures ∙ c.if-is_next.false) (here
    (sym c.is_next-2.ensures ∙ c.if-is_next-2.true))))
    c.if_stmt.result (λ r. r.1.now) (λ r. r.0) c.if_stmt.ensures.ok

pub nested-returns-then-is_next-2-clause-err : goal.nested-returns-then-is_next-2-clause-err
nested-returns-then-is_next-2-clause-err n c =
    carried_err (at_nested (later (sym c.is_next.ensures ∙ c.if-is_next.false) (here
    (sym c.is_next-2.ensures ∙ c.if-is_next-2.true))))
    _ c.if_stmt.result c.if_stmt.ensures.err

pub nested-returns-then-is_next-3-clause-ok : goal.nested-returns-then-is_next-3-clause-ok
nested-returns-then-is_next-3-clause-ok n c =
    carried_ok (at_nested (later (sym c.is_next.ensures ∙ c.if-is_next.false) (later
    (sym c.is_next-2.ensures ∙ c.if-is_next-2.false) (here (sym c.is_next-3.ensures ∙ c.if-is_next-3.true)))))
    c.while_stmt.result (λ r. r.1.now) (λ r. r.0)
    c.while_stmt.ensures.ok

pub nested-returns-then-is_next-3-clause-err : goal.nested-returns-then-is_next-3-clause-err
nested-returns-then-is_next-3-clause-err n c =
    carried_err (at_nested (later (sym c.is_next.ensures ∙ c.if-is_next.false) (later
    (sym c.is_next-2.ensures ∙ c.if-is_next-2.false) (here (sym c.is_next-3.ensures ∙ c.if-is_next-3.true))))) _
    c.while_stmt.result c.while_stmt.ensures.err

pub nested-returns-then-is_next-4-clause-ok : goal.nested-returns-then-is_next-4-clause-ok
nested-returns-then-is_next-4-clause-ok n c =
    carried_ok (at_nested (later (sym c.is_next.ensures ∙ c.if-is_next.false) (later
    (sym c.is_next-2.ensures ∙ c.if-is_next-2.false) (later (sym c.is_next-3.ensures ∙ c.if-is_next-3.false) (here
    (sym c.is_next-4.ensures ∙ c.if-is_next-4.true)))))) c.do_stmt.result
    (λ r. r.1.now) (λ r. r.0) c.do_stmt.ensures.ok

pub nested-returns-then-is_next-4-clause-err : goal.nested-returns-then-is_next-4-clause-err
nested-returns-then-is_next-4-clause-err n c =
    carried_err (at_nested (later (sym c.is_next.ensures ∙ c.if-is_next.false) (later
    (sym c.is_next-2.ensures ∙ c.if-is_next-2.false) (later (sym c.is_next-3.ensures ∙ c.if-is_next-3.false) (here
    (sym c.is_next-4.ensures ∙ c.if-is_next-4.true)))))) _ c.do_stmt.result
    c.do_stmt.ensures.err

pub nested-returns-clause-ok : goal.nested-returns-clause-ok
nested-returns-clause-ok n c =
    carried_ok (at_nested (later (sym c.is_next.ensures ∙ c.if-is_next.false) (later
    (sym c.is_next-2.ensures ∙ c.if-is_next-2.false) (later (sym c.is_next-3.ensures ∙ c.if-is_next-3.false) (later
    (sym c.is_next-4.ensures ∙ c.if-is_next-4.false) only))))) c.for_stmt.result
    (λ r. r.1.now) (λ r. r.0) c.for_stmt.ensures.ok

pub nested-returns-clause-err : goal.nested-returns-clause-err
nested-returns-clause-err n c =
    carried_err (at_nested (later (sym c.is_next.ensures ∙ c.if-is_next.false) (later
    (sym c.is_next-2.ensures ∙ c.if-is_next-2.false) (later (sym c.is_next-3.ensures ∙ c.if-is_next-3.false) (later
    (sym c.is_next-4.ensures ∙ c.if-is_next-4.false) only))))) _
    c.for_stmt.result c.for_stmt.ensures.err

pub stmt-returns-then-not-begins_level-clause-ok : goal.stmt-returns-then-not-begins_level-clause-ok
stmt-returns-then-not-begins_level-clause-ok n c =
    IfOk-weaker c.flat.result (λ r. Reads read_flat c.args.bounds.now c.args.left.now r.1.now r.0)
    (λ r. Reads read_stmt c.args.bounds.now c.args.left.now r.1.now r.0)
    (λ r t. takes_same same_stmt
    (widen_takes _ _ refl refl
    (right_takes (good_level (good_nested good_stmt)) good_flat refl refl refl
    (sym (ap (λ s. begins_level s) c.peek.ensures) ∙ sym c.begins_level.ensures ∙ c.if-not-begins_level.true) t)))
    c.flat.ensures.ok

pub stmt-returns-then-not-begins_level-clause-err : goal.stmt-returns-then-not-begins_level-clause-err
stmt-returns-then-not-begins_level-clause-err n c =
    IfErr-weaker c.flat.result (Stops read_flat c.args.bounds.now c.args.left.now)
    (Stops read_stmt c.args.bounds.now c.args.left.now)
    (λ e x. fails_same same_stmt _
    (widen_fails _ _ _ refl refl refl
    (right_fails (good_level (good_nested good_stmt)) good_flat refl refl refl
    (sym (ap (λ s. begins_level s) c.peek.ensures) ∙ sym c.begins_level.ensures ∙ c.if-not-begins_level.true) x)))
    c.flat.ensures.err

pub stmt-returns-in_err-inner-clause-err : goal.stmt-returns-in_err-inner-clause-err
stmt-returns-in_err-inner-clause-err n c = let f = c.in_err-inner.ensures.err in
    passed c.from_residual.result (Stops read_stmt c.args.bounds.now c.args.left.now) c.from_residual.ensures.1
    (subst (λ e. Stops read_stmt c.args.bounds.now c.args.left.now e) (sym f.0)
    (deep_stmt _ _ _ f.1 (sym (ap (λ s. begins_level s) c.peek.ensures) ∙ sym c.begins_level.ensures
    ∙ c.if-not-begins_level.false)))

pub stmt-returns-in_err-stmt-clause-err : goal.stmt-returns-in_err-stmt-clause-err
stmt-returns-in_err-stmt-clause-err n c =
    passed c.from_residual-in_err-stmt.result (Stops read_stmt c.args.bounds.now c.args.left.now)
    c.from_residual-in_err-stmt.ensures.1
    (fails_same same_stmt _
    (widen_fails _ _ _ refl refl refl
    (left_fails (good_level (good_nested good_stmt)) good_flat refl refl
    (sym (ap (λ s. begins_level s) c.peek.ensures) ∙ sym c.begins_level.ensures ∙ c.if-not-begins_level.false)
    (subst
    (λ m. Fails (level read_nested.rule) no_sign elses no_sign m c.args.bounds.now.end c.args.left.now
    c.in_err-stmt.field-0.0) (sym c.in_ok-inner.ensures.ok.1)
    (fails_level (good_nested good_stmt) _ _ _ _
    (subst
    (λ end. Fails read_nested.rule no_sign elses no_sign c.in_ok-inner.inner.room end c.args.left.now
    c.in_err-stmt.field-0.0) c.in_ok-inner.ensures.ok.0 c.in_err-stmt.ensures.err))))))

pub stmt-returns-clause-ok : goal.stmt-returns-clause-ok
stmt-returns-clause-ok n c =
    takes_same same_stmt
    (widen_takes _ _ refl refl
    (left_takes (good_level (good_nested good_stmt)) good_flat refl refl
    (sym (ap (λ s. begins_level s) c.peek.ensures) ∙ sym c.begins_level.ensures ∙ c.if-not-begins_level.false)
    (subst (λ m. Takes (level read_nested.rule) no_sign elses m c.args.left.now c.in_ok-stmt.rest.now c.in_ok-stmt.stmt)
    (sym c.in_ok-inner.ensures.ok.1) (takes_level (good_nested good_stmt) _ _ _ _ c.in_ok-stmt.ensures.ok))))
