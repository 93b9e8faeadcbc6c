use Rattle.std.proofs.Common.{true≢false, sym, ◌∙◌}
use Rattle.fore_base.proofs.ListLemmas.{in_at, every_at}
use Rattle.ta_core.specs.Language.{IsTrim}
use Rattle.fa_faces.proofs.AtTops.{leaf_found}
use Rattle.fa_faces.proofs.ports.are_all_cells.Goals as goal

pub are_cells-requires : goal.are_cells-requires
are_cells-requires c =
    every_at IsTrim c.args.autos.now c.loop-auto.auto-index c.auto-item.result c.requires c.loop-auto-test.true
    c.auto-item.is

pub returns-then-not-are_cells : goal.returns-then-not-are_cells
returns-then-not-are_cells c =
    let trim = every_at IsTrim c.args.autos.now c.loop-auto.auto-index c.auto-item.result c.requires
    c.loop-auto-test.true c.auto-item.is in
    let f = leaf_found c.auto-item.result c.known.ensures trim
    (λ h. true≢false (sym (c.are_cells.ensures.1 h) ∙ c.if-not-are_cells.true)) in (
      c.auto-item.result,
      f.0,
      in_at c.args.autos.now c.loop-auto.auto-index c.auto-item.result c.loop-auto-test.true
          c.auto-item.is,
      f.1,
      f.2,
    )
