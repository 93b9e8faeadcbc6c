use Rattle.std.proofs.Common.{◌≡◌, ◌+◌, OnOk, true, drop, sym, ap, subst, ◌∙◌}
use Rattle.c_ast.specs.declared.statements.Block.{out-Block}
use Rattle.c_typing.specs.BodySites.{maybe_sites, first_sites, part_sites, parts_sites, stmt_sites, other_sites}
use Rattle.c_typing.specs.Sites.{Jumps, cond_sites, simple_sites}
use Rattle.c_typing.specs.Scopes.{Scope, past_parts, past_stmt, past_first, opened, closed, outer}
use Rattle.c_typing.proofs.ScopeLayers.{past-For-stmt, past-parts}
use Rattle.c_typing.proofs.SiteLayers.{part-Declare, part-Stmt, block-parts, stmt-Empty, stmt-Block, stmt-Simple}
use Rattle.c_typing.proofs.SiteLayers.{stmt-While, stmt-Do, stmt-For, stmt-Return, stmt-Break, stmt-Continue}
use Rattle.c_typing.proofs.SiteLayers.{stmt-Assert, stmt-If}
use Rattle.c_expressions.specs.Meeting.{met}
use Rattle.c_typing.proofs.ScopeLaws.{home-past_first, home-past_parts, home-past_stmt}
use Rattle.c_making.proofs.ScopeSteps.{left_closed, outer-past_first, past_step}
use Rattle.c_expressions.proofs.MeetingLemmas.{met-nil, met-one}
use Rattle.c_bodies.proofs.StatementLemmas.{whole, both, both_turned, all_three, after_one, after_two}
use Rattle.c_bodies.proofs.StatementLemmas.{parts_step, parts_end}
use Rattle.c_bodies.proofs.bodies.«+stmt».Goals as goal

pub part_faults-returns-in-Declare-clause-found : goal.part_faults-returns-in-Declare-clause-found
part_faults-returns-in-Declare-clause-found t c =
    let g = c.args.tables.now in
    whole g c.args.found.now _ _ _ _
    (ap (λ p. part_sites g p c.args.looping c.args.scope.now) c.in-Declare.is
    ∙ part-Declare g c.in-Declare.declare c.args.looping c.args.scope.now) c.declare_faults.ensures.found

pub part_faults-returns-in-Stmt-clause-found : goal.part_faults-returns-in-Stmt-clause-found
part_faults-returns-in-Stmt-clause-found t c =
    let g = c.args.tables.now in
    whole g c.args.found.now _ _ _ _
    (ap (λ p. part_sites g p c.args.looping c.args.scope.now) c.in-Stmt.is
    ∙ part-Stmt g c.in-Stmt.stmt c.args.looping c.args.scope.now) c.stmt_faults.ensures.found

pub parts_faults-loop-part-preserved : goal.parts_faults-loop-part-preserved
parts_faults-loop-part-preserved t c =
    let g = c.args.tables.now in
    let loop_ = c.args.looping in
    let parts = c.args.parts.now in
    let i = c.loop-part.part-index in
    let p = c.part-item.result in
    record {
      past =
          ap (past_parts g (drop (i + 1) parts)) c.in_ok-part_faults.ensures.past
          ∙ sym (past_step g parts i p c.loop-part-test.true c.part-item.is c.loop-part.scope)
          ∙ c.loop-part.invariant.past;
      outer = c.in_ok-part_faults.ensures.outer ∙ c.loop-part.invariant.outer;
      found =
          ap (λ f. met g f (parts_sites g (drop (i + 1) parts) loop_ c.part_faults.new.scope))
          c.in_ok-part_faults.ensures.found
          ∙ ap
          (λ s. met g (met g c.loop-part.found (part_sites g p loop_ c.loop-part.scope))
          (parts_sites g (drop (i + 1) parts) loop_ s)) c.in_ok-part_faults.ensures.past
          ∙ sym (parts_step g parts i p c.loop-part-test.true c.part-item.is c.loop-part.found loop_ c.loop-part.scope)
          ∙ c.loop-part.invariant.found;
    }

pub parts_faults-returns-clause-found : goal.parts_faults-returns-clause-found
parts_faults-returns-clause-found t c =
    sym
    (parts_end c.args.tables.now c.args.parts.now c.loop-part.part-index c.loop-part-test.false c.loop-part.found
    c.args.looping c.loop-part.scope) ∙ c.loop-part.invariant.found

pub stmt_faults-returns-in-Empty-clause-found : goal.stmt_faults-returns-in-Empty-clause-found
stmt_faults-returns-in-Empty-clause-found t c =
    let g = c.args.tables.now in
    sym
    (ap (met g c.args.found.now)
    (ap (λ s. stmt_sites g s c.args.looping c.args.scope.now) c.in-Empty.is
    ∙ stmt-Empty g c.in-Empty.at c.args.looping c.args.scope.now) ∙ met-nil g c.args.found.now)

pub stmt_faults-returns-in-Block-clause-found : goal.stmt_faults-returns-in-Block-clause-found
stmt_faults-returns-in-Block-clause-found t c =
    let g = c.args.tables.now in
    whole g c.args.found.now _ _ _ _
    (ap (λ s. stmt_sites g s c.args.looping c.args.scope.now) c.in-Block.is
    ∙ stmt-Block g c.in-Block.block c.args.looping c.args.scope.now) c.block_faults.ensures.found

pub stmt_faults-returns-in-Simple-clause-found : goal.stmt_faults-returns-in-Simple-clause-found
stmt_faults-returns-in-Simple-clause-found t c =
    let g = c.args.tables.now in
    let scope = c.args.scope.now in
    whole g c.args.found.now _ _ _ _
    (ap (λ s. stmt_sites g s c.args.looping scope) c.in-Simple.is
    ∙ stmt-Simple g c.in-Simple.simple c.args.looping scope ∙ ap (simple_sites g scope) (sym c.get.ensures))
    c.simple_faults.ensures

pub stmt_faults-returns-in_ok-stmt_faults-in-If-clause-found :
    goal.stmt_faults-returns-in_ok-stmt_faults-in-If-clause-found
stmt_faults-returns-in_ok-stmt_faults-in-If-clause-found t c =
    let g = c.args.tables.now in
    let loop_ = c.args.looping in
    let scope = c.args.scope.now in
    let r = c.other_faults.result in
    let e = c.other_faults.new.found in
    all_three g c.args.found.now _ _ _ _ _ _ _ _
    (ap (λ s. stmt_sites g s loop_ scope) c.in-If.is
    ∙ stmt-If g c.in-If.at c.in-If.cond c.in-If.then c.in-If.other loop_ scope)
    c.in_ok-cond_faults-in-If.ensures
    (c.in_ok-stmt_faults-in-If.ensures.found
    ∙ ap (λ s. met g c.cond_faults.new.found (stmt_sites g s loop_ scope)) c.get-in-If.ensures)
    (subst (λ s. OnOk r (e ≡ met g c.stmt_faults.new.found (other_sites g c.in-If.other loop_ s)))
    (c.in_ok-stmt_faults-in-If.ensures.past ∙ ap (λ s. past_stmt g s scope) c.get-in-If.ensures)
    c.other_faults.ensures.found)

pub stmt_faults-returns-in_ok-cond_faults-in-While-clause-found :
    goal.stmt_faults-returns-in_ok-cond_faults-in-While-clause-found
stmt_faults-returns-in_ok-cond_faults-in-While-clause-found t c =
    let g = c.args.tables.now in
    let scope = c.args.scope.now in
    let r = c.stmt_faults-in-While.result in
    let e = c.stmt_faults-in-While.new.found in
    both g c.args.found.now _ _ _ _ _ _
    (ap (λ s. stmt_sites g s c.args.looping scope) c.in-While.is
    ∙ stmt-While g c.in-While.at c.in-While.cond c.in-While.body c.args.looping scope)
    c.in_ok-cond_faults-in-While.ensures
    (subst (λ s. OnOk r (e ≡ met g c.cond_faults-in-While.new.found (stmt_sites g s true scope))) c.get-in-While.ensures
    c.stmt_faults-in-While.ensures.found)

pub stmt_faults-returns-in_ok-cond_faults-in-Do-clause-found :
    goal.stmt_faults-returns-in_ok-cond_faults-in-Do-clause-found
stmt_faults-returns-in_ok-cond_faults-in-Do-clause-found t c =
    let g = c.args.tables.now in
    let scope = c.args.scope.now in
    let r = c.stmt_faults-in-Do.result in
    let e = c.stmt_faults-in-Do.new.found in
    both_turned g c.args.found.now _ _ _ _ _ _
    (ap (λ s. stmt_sites g s c.args.looping scope) c.in-Do.is
    ∙ stmt-Do g c.in-Do.at c.in-Do.body c.in-Do.cond c.args.looping scope)
    c.in_ok-cond_faults-in-Do.ensures
    (subst (λ s. OnOk r (e ≡ met g c.cond_faults-in-Do.new.found (stmt_sites g s true scope))) c.get-in-Do.ensures
    c.stmt_faults-in-Do.ensures.found)

pub stmt_faults-returns-in_ok-stmt_faults-in-For-clause-past :
    goal.stmt_faults-returns-in_ok-stmt_faults-in-For-clause-past
stmt_faults-returns-in_ok-stmt_faults-in-For-clause-past t c =
    let g = c.args.tables.now in
    let scope = c.args.scope.now in
    let f = c.in-For.first in
    let within = c.stmt_faults-in-For.new.scope in
    let opened_as = c.in_ok-enter-in-For.ensures in
    let first_as = c.in_ok-first_faults-in-For.ensures.past
    ∙ ap (λ x. past_first g x c.enter.new.self) c.get-in-For.ensures ∙ ap (past_first g f) opened_as in
    let outside : outer within.blocks ≡ scope.blocks =
    ap outer c.in_ok-stmt_faults-in-For.ensures.blocks ∙ ap (λ (s : Scope). outer s.blocks) first_as
    ∙ outer-past_first g f (opened scope) in
    let all : within ≡ past_stmt g c.in-For.body (past_first g f (opened scope)) =
    c.in_ok-stmt_faults-in-For.ensures.past ∙ ap (λ s. past_stmt g s c.first_faults.new.scope) c.get-in-For-2.ensures
    ∙ ap (past_stmt g c.in-For.body) first_as in
    let stays : within.home ≡ scope.home =
    ap (λ (s : Scope). s.home) all ∙ home-past_stmt g c.in-For.body (past_first g f (opened scope))
    ∙ home-past_first g f (opened scope) in
    c.leave.ensures ∙ left_closed scope within outside stays ∙ ap (closed scope) all
    ∙ sym (ap (λ s. past_stmt g s scope) c.in-For.is
    ∙ past-For-stmt g c.in-For.at f c.in-For.cond c.in-For.next c.in-For.body scope)

pub stmt_faults-returns-in_ok-stmt_faults-in-For-clause-found :
    goal.stmt_faults-returns-in_ok-stmt_faults-in-For-clause-found
stmt_faults-returns-in_ok-stmt_faults-in-For-clause-found t c =
    let g = c.args.tables.now in
    let scope = c.args.scope.now in
    let f = c.in-For.first in
    let f0 = c.args.found.now in
    let f1 = c.first_faults.new.found in
    let f2 = c.maybe_cond_faults.new.found in
    let f3 = c.maybe_simple_faults.new.found in
    let f4 = c.stmt_faults-in-For.new.found in
    let opened_as = c.in_ok-enter-in-For.ensures in
    let inside = past_first g f (opened scope) in
    let first_as : c.first_faults.new.scope ≡ inside =
    c.in_ok-first_faults-in-For.ensures.past ∙ ap (λ x. past_first g x c.enter.new.self) c.get-in-For.ensures
    ∙ ap (past_first g f) opened_as in
    let one : f1 ≡ met g f0 (first_sites g f (opened scope)) =
    c.in_ok-first_faults-in-For.ensures.found
    ∙ ap (λ x. met g f0 (first_sites g x c.enter.new.self)) c.get-in-For.ensures
    ∙ ap (λ s. met g f0 (first_sites g f s)) opened_as in
    let two : f2 ≡ met g f1 (maybe_sites (cond_sites g inside) c.in-For.cond) =
    c.in_ok-maybe_cond_faults-in-For.ensures
    ∙ ap (λ s. met g f1 (maybe_sites (cond_sites g s) c.in-For.cond)) first_as in
    let three : f3 ≡ met g f2 (maybe_sites (simple_sites g inside) c.in-For.next) =
    c.in_ok-maybe_simple_faults-in-For.ensures
    ∙ ap (λ s. met g f2 (maybe_sites (simple_sites g s) c.in-For.next)) first_as in
    let four : f4 ≡ met g f3 (stmt_sites g c.in-For.body true inside) =
    c.in_ok-stmt_faults-in-For.ensures.found
    ∙ ap (λ s. met g f3 (stmt_sites g s true c.first_faults.new.scope)) c.get-in-For-2.ensures
    ∙ ap (λ s. met g f3 (stmt_sites g c.in-For.body true s)) first_as in
    after_one g f0 f1 f4 _ _ one (after_two g f1 f2 f3 f4 _ _ _ two three four)
    ∙ ap (met g f0)
    (sym (ap (λ s. stmt_sites g s c.args.looping scope) c.in-For.is
    ∙ stmt-For g c.in-For.at f c.in-For.cond c.in-For.next c.in-For.body c.args.looping scope))

pub stmt_faults-returns-in-Return-clause-found : goal.stmt_faults-returns-in-Return-clause-found
stmt_faults-returns-in-Return-clause-found t c =
    let g = c.args.tables.now in
    whole g c.args.found.now _ _ _ _
    (ap (λ s. stmt_sites g s c.args.looping c.args.scope.now) c.in-Return.is
    ∙ stmt-Return g c.in-Return.at c.in-Return.operand c.args.looping c.args.scope.now) c.return_faults.ensures

pub stmt_faults-returns-in-Assert-clause-found : goal.stmt_faults-returns-in-Assert-clause-found
stmt_faults-returns-in-Assert-clause-found t c =
    let g = c.args.tables.now in
    whole g c.args.found.now _ _ _ _
    (ap (λ s. stmt_sites g s c.args.looping c.args.scope.now) c.in-Assert.is
    ∙ stmt-Assert g c.in-Assert.at c.in-Assert.cond c.args.looping c.args.scope.now) c.cond_faults-in-Assert.ensures

pub stmt_faults-returns-in-Break-clause-found : goal.stmt_faults-returns-in-Break-clause-found
stmt_faults-returns-in-Break-clause-found t c =
    let g = c.args.tables.now in
    c.jumps.ensures ∙ sym (met-one g c.args.found.now (Jumps c.args.looping c.in-Break.at))
    ∙ ap (met g c.args.found.now)
    (sym (ap (λ s. stmt_sites g s c.args.looping c.args.scope.now) c.in-Break.is
    ∙ stmt-Break g c.in-Break.at c.args.looping c.args.scope.now))

pub stmt_faults-returns-in-Continue-clause-found : goal.stmt_faults-returns-in-Continue-clause-found
stmt_faults-returns-in-Continue-clause-found t c =
    let g = c.args.tables.now in
    c.jumps-in-Continue.ensures ∙ sym (met-one g c.args.found.now (Jumps c.args.looping c.in-Continue.at))
    ∙ ap (met g c.args.found.now)
    (sym (ap (λ s. stmt_sites g s c.args.looping c.args.scope.now) c.in-Continue.is
    ∙ stmt-Continue g c.in-Continue.at c.args.looping c.args.scope.now))

pub block_faults-returns-clause-past : goal.block_faults-returns-clause-past
block_faults-returns-clause-past t c =
    let g = c.args.tables.now in
    let scope = c.args.scope.now in
    let b = out-Block c.args.block.now in
    let within = c.parts_faults.new.scope in
    let all : within ≡ past_parts g b.parts (opened scope) =
    c.in_ok-parts_faults.ensures.past ∙ ap (λ ps. past_parts g ps c.enter.new.self) c.as_slice.ensures
    ∙ ap (past_parts g b.parts) c.in_ok-enter.ensures in
    let outside : outer within.blocks ≡ scope.blocks =
    c.in_ok-parts_faults.ensures.outer ∙ ap (λ (s : Scope). outer s.blocks) c.in_ok-enter.ensures in
    let stays : within.home ≡ scope.home =
    ap (λ (s : Scope). s.home) all ∙ home-past_parts g b.parts (opened scope) in
    c.leave.ensures ∙ left_closed scope within outside stays ∙ ap (closed scope) all
    ∙ sym (past-parts g b.at b.close b.parts scope)

pub block_faults-returns-clause-found : goal.block_faults-returns-clause-found
block_faults-returns-clause-found t c =
    let g = c.args.tables.now in
    let f0 = c.args.found.now in
    c.in_ok-parts_faults.ensures.found
    ∙ ap (λ ps. met g f0 (parts_sites g ps c.args.looping c.enter.new.self)) c.as_slice.ensures
    ∙ ap (λ s. met g f0 (parts_sites g (out-Block c.args.block.now).parts c.args.looping s)) c.in_ok-enter.ensures
    ∙ ap (met g f0)
    (sym
    (block-parts g (out-Block c.args.block.now).at (out-Block c.args.block.now).close
    (out-Block c.args.block.now).parts c.args.looping c.args.scope.now))
