use Rattle.std.proofs.Common.{inl, inr, true≢false, sym, ◌∙◌}
use Rattle.fa_faces.proofs.AtTops.{struct_found, match_from}
use Rattle.fa_faces.proofs.ports.is_port_right.Goals as goal

pub returns-then-not-are_cells_of : goal.returns-then-not-are_cells_of
returns-then-not-are_cells_of c = inl
    (struct_found c.args.auto.now c.known.ensures c.requires.trim c.args.shape c.requires.cells
    (λ h. true≢false (sym (c.are_cells_of.ensures.1 h) ∙ c.if-not-are_cells_of.true)))

pub returns : goal.returns
returns c = match_from c.in_ok-alike.alike
    (λ e. (c.are_cells_of.ensures.0 c.if-not-are_cells_of.false, c.in_ok-alike.ensures.yes e))
    (λ e. inr (c.in_ok-alike.ensures.no e))
