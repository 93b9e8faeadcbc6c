use Rattle.std.proofs.Common.{◌∙◌, ap, sym}
use Rattle.fa_merge.specs.Reordered.{counted}
use Rattle.fa_order.proofs.Exactly.{order_decided}
use Rattle.fa_order.proofs.deciding.is_canonical.Goals as goal

pub returns : goal.returns
returns c =
    let F = c.args.forest.now.forest in
    let face = c.args.forest.now.face in
    let kinds = c.in_ok-is_rooted.ensures.0 c.if-not-is_rooted.false in
    let d = order_decided face F c.known.ensures.sound kinds c.in_ok-order.order c.in_ok-order.ensures in
    let e = c.is_counted.ensures in
    let n = rw c.forest.ensures at c.in_ok-count.ensures.value in (
      (λ t. d.0 (sym c.as_slice.ensures ∙ e.0 t ∙ ap (counted 0) n)),
      (λ can. e.1 (c.as_slice.ensures ∙ d.1 can ∙ ap (counted 0) (sym n))),
    )
