use Rattle.std.proofs.Common.{◌≡◌, ◌+◌, ◌++◌, List, [], ◌∷◌, OnOk, drop, sym, ap, subst, ◌∙◌, append_assoc}
use Rattle.std.proofs.lemmas.Result.{IfOk-at_ok}
use Rattle.c_ast.specs.declared.statements.Block.{out-Block}
use Rattle.c_types.specs.declared.program.Stmt.{Stmt}
use Rattle.c_types.specs.declared.program.Stmt.TheVariants.{Branch, While, DoWhile}
use Rattle.c_typing.specs.Programs.{cond_of, grouped, part_stmts, parts_stmts, simple_stmts, stmt_stmts, other_stmts}
use Rattle.c_typing.specs.Scopes.{Scope, opened, outer, closed, past_first, past_parts, past_stmt}
use Rattle.c_typing.proofs.ProgramLayers.{made-Declare, made-Stmt, made-parts, made-Empty-stmt, made-Block-stmt}
use Rattle.c_typing.proofs.ProgramLayers.{made-Simple-stmt, made-While-stmt, made-Do-stmt, made-For-stmt}
use Rattle.c_typing.proofs.ProgramLayers.{made-Return-stmt, made-Break-stmt, made-Continue-stmt, made-Assert-stmt}
use Rattle.c_typing.proofs.ProgramLayers.{made-If-stmt}
use Rattle.c_typing.proofs.ScopeLayers.{past-For-stmt, past-parts}
use Rattle.c_making.specs.inner.Making.{first_stmts, for_body, for_made, group_first, past_for}
use Rattle.c_typing.proofs.ScopeLaws.{home-past_first, home-past_parts, home-past_stmt}
use Rattle.c_making.proofs.ScopeSteps.{left_closed, outer-past_first, past_step}
use Rattle.c_making.proofs.MakingLemmas.{made_as, stmts_step, same_group, for_as}
use Rattle.c_making.proofs.statements.«+make».Goals as goal

pub block_stmts-returns-clause-stmts : goal.block_stmts-returns-clause-stmts
block_stmts-returns-clause-stmts t c =
    let g = c.args.tables.now in
    let b = out-Block c.args.block.now in
    let scope = c.args.scope.now in
    let body_as : c.in_ok-body.body ≡ parts_stmts g b.parts (opened scope) =
    c.in_ok-body.ensures.stmts ∙ ap (λ ps. parts_stmts g ps c.enter.new.self) c.as_slice.ensures
    ∙ ap (parts_stmts g b.parts) c.in_ok-enter.ensures in
    let scope_as : c.parts_stmts.new.scope ≡ past_parts g b.parts (opened scope) =
    c.in_ok-body.ensures.past ∙ ap (λ ps. past_parts g ps c.enter.new.self) c.as_slice.ensures
    ∙ ap (past_parts g b.parts) c.in_ok-enter.ensures in
    c.in_ok-stmts.ensures
    ∙ ap (λ (s : Stmt). s ∷ [])
    (c.in_ok-group.ensures ∙ ap (λ x. grouped x c.parts_stmts.new.scope b.close.line) body_as
    ∙ ap (λ s. grouped (parts_stmts g b.parts (opened scope)) s b.close.line) scope_as)
    ∙ sym (made-parts g b.at b.close b.parts scope)

pub block_stmts-returns-clause-past : goal.block_stmts-returns-clause-past
block_stmts-returns-clause-past t c =
    let g = c.args.tables.now in
    let scope = c.args.scope.now in
    let b = out-Block c.args.block.now in
    let within = c.parts_stmts.new.scope in
    let all : within ≡ past_parts g b.parts (opened scope) =
    c.in_ok-body.ensures.past ∙ ap (λ ps. past_parts g ps c.enter.new.self) c.as_slice.ensures
    ∙ ap (past_parts g b.parts) c.in_ok-enter.ensures in
    let outside : outer within.blocks ≡ scope.blocks =
    c.in_ok-body.ensures.outer ∙ ap (λ (s : Scope). outer s.blocks) c.in_ok-enter.ensures in
    let stays : within.home ≡ scope.home =
    ap (λ (s : Scope). s.home) all ∙ home-past_parts g b.parts (opened scope) in
    c.leave.ensures ∙ left_closed scope within outside stays ∙ ap (closed scope) all
    ∙ sym (past-parts g b.at b.close b.parts scope)

pub parts_stmts-loop-part-preserved : goal.parts_stmts-loop-part-preserved
parts_stmts-loop-part-preserved t c =
    let g = c.args.tables.now in
    let parts = c.args.parts.now in
    let i = c.loop-part.part-index in
    let p = c.part-item.result in
    let scope = c.loop-part.scope in
    let rest = parts_stmts g (drop (i + 1) parts) in
    record {
      past =
          ap (past_parts g (drop (i + 1) parts)) c.in_ok-next.ensures.past
          ∙ sym (past_step g parts i p c.loop-part-test.true c.part-item.is scope)
          ∙ c.loop-part.invariant.past;
      outer = c.in_ok-next.ensures.outer ∙ c.loop-part.invariant.outer;
      stmts =
          ap (λ (xs : List Stmt). xs ++ rest c.part_stmts.new.scope) c.in_ok-append.ensures.ok
          ∙ append_assoc c.loop-part.all c.in_ok-next.next (rest c.part_stmts.new.scope)
          ∙ ap (λ (ys : List Stmt). c.loop-part.all ++ ys)
          (ap (λ (xs : List Stmt). xs ++ rest c.part_stmts.new.scope) c.in_ok-next.ensures.stmts
          ∙ ap (λ s. part_stmts g p scope ++ rest s) c.in_ok-next.ensures.past
          ∙ sym (stmts_step g parts i p c.loop-part-test.true c.part-item.is scope))
          ∙ c.loop-part.invariant.stmts;
    }

pub part_stmts-returns-in-Declare-clause-stmts : goal.part_stmts-returns-in-Declare-clause-stmts
part_stmts-returns-in-Declare-clause-stmts t c =
    let g = c.args.tables.now in
    made_as c.declare_stmts.result _ _
    (ap (λ p. part_stmts g p c.args.scope.now) c.in-Declare.is
    ∙ made-Declare g c.in-Declare.declare c.args.scope.now) c.declare_stmts.ensures.stmts

pub part_stmts-returns-in-Stmt-clause-stmts : goal.part_stmts-returns-in-Stmt-clause-stmts
part_stmts-returns-in-Stmt-clause-stmts t c =
    let g = c.args.tables.now in
    made_as c.stmt_stmts.result _ _
    (ap (λ p. part_stmts g p c.args.scope.now) c.in-Stmt.is ∙ made-Stmt g c.in-Stmt.stmt c.args.scope.now)
    c.stmt_stmts.ensures.stmts

pub stmt_stmts-returns-in-Empty-clause-stmts : goal.stmt_stmts-returns-in-Empty-clause-stmts
stmt_stmts-returns-in-Empty-clause-stmts t c =
    let g = c.args.tables.now in
    c.new.ensures
    ∙ sym (ap (λ s. stmt_stmts g s c.args.scope.now) c.in-Empty.is
    ∙ made-Empty-stmt g c.in-Empty.at c.args.scope.now)

pub stmt_stmts-returns-in-Block-clause-stmts : goal.stmt_stmts-returns-in-Block-clause-stmts
stmt_stmts-returns-in-Block-clause-stmts t c =
    let g = c.args.tables.now in
    made_as c.block_stmts.result _ _
    (ap (λ s. stmt_stmts g s c.args.scope.now) c.in-Block.is ∙ made-Block-stmt g c.in-Block.block c.args.scope.now)
    c.block_stmts.ensures.stmts

pub stmt_stmts-returns-in-Simple-clause-stmts : goal.stmt_stmts-returns-in-Simple-clause-stmts
stmt_stmts-returns-in-Simple-clause-stmts t c =
    let g = c.args.tables.now in
    made_as c.simple_stmts.result _ _
    (ap (λ s. stmt_stmts g s c.args.scope.now) c.in-Simple.is
    ∙ made-Simple-stmt g c.in-Simple.simple c.args.scope.now
    ∙ ap (simple_stmts g c.args.scope.now) (sym c.get.ensures)) c.simple_stmts.ensures

pub stmt_stmts-returns-in_ok-stmts-in-If-clause-stmts : goal.stmt_stmts-returns-in_ok-stmts-in-If-clause-stmts
stmt_stmts-returns-in_ok-stmts-in-If-clause-stmts t c =
    let g = c.args.tables.now in
    let scope = c.args.scope.now in
    let inner = c.in-If.then in
    let yes_as : c.in_ok-cond-in-If.yes ≡ stmt_stmts g inner scope = c.in_ok-cond-in-If.ensures.parts.1 in
    let past_as : c.headed.new.scope ≡ past_stmt g inner scope =
    c.in_ok-cond-in-If.ensures.past in
    let no_as : c.in_ok-no-in-If.no ≡ other_stmts g c.in-If.other (past_stmt g inner scope) =
    c.in_ok-no-in-If.ensures.stmts ∙ ap (other_stmts g c.in-If.other) past_as in
    c.in_ok-stmts-in-If.ensures
    ∙ ap (λ x. Branch x c.in_ok-cond-in-If.yes c.in_ok-no-in-If.no ∷ []) c.in_ok-cond-in-If.ensures.parts.0
    ∙ ap (λ x. Branch (cond_of g scope c.in-If.cond) x c.in_ok-no-in-If.no ∷ []) yes_as
    ∙ ap (λ x. Branch (cond_of g scope c.in-If.cond) (stmt_stmts g inner scope) x ∷ []) no_as
    ∙ sym (ap (λ s. stmt_stmts g s scope) c.in-If.is ∙ made-If-stmt g c.in-If.at c.in-If.cond inner c.in-If.other scope)

pub stmt_stmts-returns-in_ok-stmts-in-While-clause-stmts : goal.stmt_stmts-returns-in_ok-stmts-in-While-clause-stmts
stmt_stmts-returns-in_ok-stmts-in-While-clause-stmts t c =
    let g = c.args.tables.now in
    let scope = c.args.scope.now in
    c.in_ok-stmts-in-While.ensures
    ∙ ap (λ x. While x c.in_ok-cond-in-While.body ∷ []) c.in_ok-cond-in-While.ensures.parts.0
    ∙ ap (λ x. While (cond_of g scope c.in-While.cond) x ∷ [])
    c.in_ok-cond-in-While.ensures.parts.1
    ∙ sym (ap (λ s. stmt_stmts g s scope) c.in-While.is
    ∙ made-While-stmt g c.in-While.at c.in-While.cond c.in-While.body scope)

pub stmt_stmts-returns-in_ok-stmts-in-Do-clause-stmts : goal.stmt_stmts-returns-in_ok-stmts-in-Do-clause-stmts
stmt_stmts-returns-in_ok-stmts-in-Do-clause-stmts t c =
    let g = c.args.tables.now in
    let scope = c.args.scope.now in
    c.in_ok-stmts-in-Do.ensures
    ∙ ap (λ x. DoWhile x c.in_ok-cond-in-Do.body ∷ []) c.in_ok-cond-in-Do.ensures.parts.0
    ∙ ap (λ x. DoWhile (cond_of g scope c.in-Do.cond) x ∷ [])
    c.in_ok-cond-in-Do.ensures.parts.1
    ∙ sym (ap (λ s. stmt_stmts g s scope) c.in-Do.is ∙ made-Do-stmt g c.in-Do.at c.in-Do.body c.in-Do.cond scope)

pub stmt_stmts-returns-in-For-clause-past : goal.stmt_stmts-returns-in-For-clause-past
stmt_stmts-returns-in-For-clause-past t c =
    let g = c.args.tables.now in
    let scope = c.args.scope.now in
    subst (λ (s : Scope). OnOk c.for_stmts.result (c.for_stmts.new.scope ≡ s))
    (ap (λ x. past_for g x c.in-For.body scope) c.get-in-For.ensures
    ∙ sym (ap (λ s. past_stmt g s scope) c.in-For.is
    ∙ past-For-stmt g c.in-For.at c.in-For.first c.in-For.cond c.in-For.next c.in-For.body scope))
    c.for_stmts.ensures.past

pub stmt_stmts-returns-in-For-clause-stmts : goal.stmt_stmts-returns-in-For-clause-stmts
stmt_stmts-returns-in-For-clause-stmts t c =
    let g = c.args.tables.now in
    let scope = c.args.scope.now in
    made_as c.for_stmts.result _ _
    (ap (λ s. stmt_stmts g s scope) c.in-For.is
    ∙ made-For-stmt g c.in-For.at c.in-For.first c.in-For.cond c.in-For.next c.in-For.body scope
    ∙ for_as g c.in-For.first c.in-For.at c.in-For.cond c.in-For.next c.in-For.body scope
    ∙ ap (λ x. for_made g c.in-For.at.line x c.in-For.cond c.in-For.next c.in-For.body scope)
    (sym c.get-in-For.ensures))
    c.for_stmts.ensures.stmts

pub stmt_stmts-returns-in-Return-clause-stmts : goal.stmt_stmts-returns-in-Return-clause-stmts
stmt_stmts-returns-in-Return-clause-stmts t c =
    let g = c.args.tables.now in
    made_as c.return_stmts.result _ _
    (ap (λ s. stmt_stmts g s c.args.scope.now) c.in-Return.is
    ∙ made-Return-stmt g c.in-Return.at c.in-Return.operand c.args.scope.now) c.return_stmts.ensures

pub stmt_stmts-returns-in-Break-clause-stmts : goal.stmt_stmts-returns-in-Break-clause-stmts
stmt_stmts-returns-in-Break-clause-stmts t c =
    let g = c.args.tables.now in
    made_as c.doing.result _ _
    (ap (λ s. stmt_stmts g s c.args.scope.now) c.in-Break.is ∙ made-Break-stmt g c.in-Break.at c.args.scope.now)
    c.doing.ensures

pub stmt_stmts-returns-in-Continue-clause-stmts : goal.stmt_stmts-returns-in-Continue-clause-stmts
stmt_stmts-returns-in-Continue-clause-stmts t c =
    let g = c.args.tables.now in
    made_as c.doing-in-Continue.result _ _
    (ap (λ s. stmt_stmts g s c.args.scope.now) c.in-Continue.is
    ∙ made-Continue-stmt g c.in-Continue.at c.args.scope.now) c.doing-in-Continue.ensures

pub stmt_stmts-returns-in-Assert-clause-stmts : goal.stmt_stmts-returns-in-Assert-clause-stmts
stmt_stmts-returns-in-Assert-clause-stmts t c =
    let g = c.args.tables.now in
    made_as c.assert_stmts.result _ _
    (ap (λ s. stmt_stmts g s c.args.scope.now) c.in-Assert.is
    ∙ made-Assert-stmt g c.in-Assert.at c.in-Assert.cond c.args.scope.now) c.assert_stmts.ensures

pub headed-returns-clause-past : goal.headed-returns-clause-past
headed-returns-clause-past t c =
    let g = c.args.tables.now in
    let scope = c.args.scope.now in
    subst (λ r. OnOk r (c.stmt_stmts.new.scope ≡ past_stmt g c.get.result.now scope)) c.in_ok-cond-2.ensures.ok.1
    c.stmt_stmts.ensures.past
    ∙ ap (λ s. past_stmt g s scope) c.get.ensures

pub headed-returns-clause-blocks : goal.headed-returns-clause-blocks
headed-returns-clause-blocks t c =
    subst (λ r. OnOk r (c.stmt_stmts.new.scope.blocks ≡ c.args.scope.now.blocks)) c.in_ok-cond-2.ensures.ok.1
    c.stmt_stmts.ensures.blocks

pub headed-returns-clause-parts : goal.headed-returns-clause-parts
headed-returns-clause-parts t c =
    let g = c.args.tables.now in
    let scope = c.args.scope.now in (
      c.in_ok-cond-2.ensures.ok.0 ∙ c.in_ok-cond.ensures,
      IfOk-at_ok (λ stmts. stmts ≡ stmt_stmts g c.get.result.now scope) c.in_ok-cond-2.ensures.ok.1
          c.stmt_stmts.ensures.stmts
          ∙ ap (λ s. stmt_stmts g s scope) c.get.ensures,
    )

pub for_stmts-returns-clause-past : goal.for_stmts-returns-clause-past
for_stmts-returns-clause-past t c =
    let g = c.args.tables.now in
    let scope = c.args.scope.now in
    let f = c.args.first.now in
    let within = c.for_body.new.scope in
    let first_as : c.first_stmts.new.scope ≡ past_first g f (opened scope) = c.in_ok-all.ensures.past
    ∙ ap (past_first g f) c.in_ok-enter.ensures in
    let outside : outer within.blocks ≡ scope.blocks =
    ap outer c.in_ok-looped.ensures.blocks ∙ ap (λ (s : Scope). outer s.blocks) first_as
    ∙ outer-past_first g f (opened scope) in
    let all : within ≡ past_stmt g c.args.body.now (past_first g f (opened scope)) =
    c.in_ok-looped.ensures.past ∙ ap (past_stmt g c.args.body.now) first_as in
    let stays : within.home ≡ scope.home =
    ap (λ (s : Scope). s.home) all ∙ home-past_stmt g c.args.body.now (past_first g f (opened scope))
    ∙ home-past_first g f (opened scope) in
    c.leave.ensures ∙ left_closed scope within outside stays ∙ ap (closed scope) all

pub for_stmts-returns-clause-stmts : goal.for_stmts-returns-clause-stmts
for_stmts-returns-clause-stmts t c =
    let g = c.args.tables.now in
    let scope = c.args.scope.now in
    let f = c.args.first.now in
    let line = c.args.line in
    let inside = past_first g f (opened scope) in
    let first_as : c.first_stmts.new.scope ≡ inside = c.in_ok-all.ensures.past
    ∙ ap (past_first g f) c.in_ok-enter.ensures in
    let begun : c.in_ok-all.all ≡ first_stmts g f (opened scope) = c.in_ok-all.ensures.stmts
    ∙ ap (first_stmts g f) c.in_ok-enter.ensures in
    let loops : c.in_ok-looped.looped ≡ for_body g line c.args.cond.now c.args.next.now c.args.body.now inside =
    c.in_ok-looped.ensures.stmt ∙ ap (for_body g line c.args.cond.now c.args.next.now c.args.body.now) first_as in
    let all_as : c.push.new.self ≡ first_stmts g f (opened scope)
    ++ for_body g line c.args.cond.now c.args.next.now c.args.body.now inside ∷ [] =
    c.in_ok-push.ensures.ok ∙ ap (λ (xs : List Stmt). xs ++ c.in_ok-looped.looped ∷ []) begun
    ∙ ap (λ (x : Stmt). first_stmts g f (opened scope) ++ x ∷ []) loops in
    c.in_ok-stmts.ensures
    ∙ ap (λ (xs : List Stmt). group_first f xs c.for_body.new.scope line) all_as
    ∙ same_group f _ c.for_body.new.scope inside line
    (c.in_ok-looped.ensures.blocks ∙ ap (λ (s : Scope). s.blocks) first_as)
