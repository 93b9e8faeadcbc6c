use Rattle.std.proofs.Common.{ap, ◌∙◌}
use Rattle.ta_core.specs.Auto.{Automaton}
use Rattle.fa_boxes.specs.inner.TopRules.{IsCell}
use Rattle.fa_boxes.proofs.TopRules.{tops_iff}
use Rattle.fa_boxes.proofs.tops.are_cells.Goals as goal

pub returns : goal.returns
returns c =
    let e = rw (
      c.as_slice.ensures ∙ ap (λ (b : Automaton). b.roots) c.auto.view_is,
      c.as_slice-2.ensures ∙ ap (λ (b : Automaton). b.rules) c.auto.view_is,
    ) at c.each_is_cell.ensures in
    let t = tops_iff c.args.auto.now c.known.ensures c.requires IsCell in
    ((λ y. t.0 (e.0 y)), (λ h. e.1 (t.1 h)))
