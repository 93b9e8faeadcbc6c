use Rattle.std.proofs.Common.{inr, true≢false, sym, ◌∙◌}
use Rattle.fa_faces.proofs.AtTops.{none_found, match_from}
use Rattle.fa_faces.proofs.ports.is_input_right.Goals as goal

pub returns : goal.returns
returns c =
    let port = rw c.if-not-branch.false at c.in_ok-is_port_right.ensures in
    match_from c.in_ok-some.some
    (λ e. (port, c.in_ok-some.ensures.0 e))
    (λ e. inr (none_found c.args.auto.now c.known.ensures c.requires.trim c.args.boxes.now
    (λ h. true≢false (sym (c.in_ok-some.ensures.1 h) ∙ e))))
