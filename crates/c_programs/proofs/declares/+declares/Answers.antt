use Rattle.std.proofs.Common.{◌+◌, ◌++◌, List, drop, sym, ap, ◌∙◌, append_assoc}
use Rattle.std.proofs.lemmas.List.{at_drop_all}
use Rattle.c_types.specs.Bodies.{body_declares, stmt_declares}
use Rattle.c_types.specs.declared.program.Stmt.{Stmt}
use Rattle.c_types.specs.declared.program.VarRef.{VarRef}
use Rattle.c_making.proofs.MakingLemmas.{turn}
use Rattle.c_programs.proofs.DeclareLayers.{appended-none}
use Rattle.c_programs.proofs.declares.«+declares».Goals as goal

pub add_body-loop-stmt-preserved : goal.add_body-loop-stmt-preserved
add_body-loop-stmt-preserved t c =
    let found = c.loop-stmt.found in
    let stmt = c.stmt-item.result in
    let i = c.loop-stmt.stmt-index in
    let stmts = c.args.stmts.now in
    let rest : List VarRef = body_declares (drop (i + 1) stmts) in
    ap (λ (vs : List VarRef). vs ++ rest) c.in_ok-add_stmt.ensures
    ∙ append_assoc found (stmt_declares stmt) rest
    ∙ ap (λ (vs : List VarRef). found ++ vs)
    (turn body_declares stmts i stmt c.loop-stmt-test.true c.stmt-item.is)
    ∙ c.loop-stmt.invariant

pub add_body-returns : goal.add_body-returns
add_body-returns t c =
    let found = c.loop-stmt.found in
    sym
    (at_drop_all (λ (ss : List Stmt). found ++ body_declares ss) c.args.stmts.now c.loop-stmt.stmt-index
    c.loop-stmt-test.false
    ∙ appended-none found)
    ∙ c.loop-stmt.invariant
