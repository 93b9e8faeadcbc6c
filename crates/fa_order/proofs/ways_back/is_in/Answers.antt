use Rattle.std.proofs.Common.{sym, ◌∙◌}
use Rattle.fa_back.proofs.RootMarks.{has_in, in_has}
use Rattle.fa_order.proofs.ways_back.is_in.Goals as goal

pub returns : goal.returns
returns c = (
  (λ t. has_in c.args.root c.args.roots.now (sym c.has.ensures ∙ t)),
  (λ i. c.has.ensures ∙ in_has c.args.root c.args.roots.now i),
)
