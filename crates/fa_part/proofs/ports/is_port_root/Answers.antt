use Rattle.std.proofs.Common.{◌∙◌, sym, true≢false}
use Rattle.fa_part.proofs.PortCells.{cell_by_port, port_by_cell, port_one}
use Rattle.fa_part.proofs.ports.is_port_root.Goals as goal

pub returns-then-has_one_top : goal.returns-then-has_one_top
returns-then-has_one_top c =
    let p = c.args.port.now in
    let autos = c.args.forest.now.autos in
    let cell = rw (c.rule_at_top.ensures, c.component-auto.ensures) at c.is_port_cell.ensures in
    let one = rw c.component-auto.ensures at c.has_one_top.ensures in (
      (λ t. port_by_cell p.shape p.fields autos p.root c.requires (one.0 c.if-has_one_top.true) (cell.0 t)),
      (λ h. cell.1 (cell_by_port p.shape p.fields autos p.root h)),
    )

pub returns-else-has_one_top : goal.returns-else-has_one_top
returns-else-has_one_top c =
    let p = c.args.port.now in
    let autos = c.args.forest.now.autos in
    let one = rw c.component-auto.ensures at c.has_one_top.ensures in (
      (λ t. absurd (true≢false (sym t ∙ c.if-has_one_top.false))),
      (λ h. one.1 (port_one p.shape p.fields autos p.root h)),
    )
