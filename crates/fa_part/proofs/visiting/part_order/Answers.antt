use Rattle.std.proofs.Common.{ℕ, subst}
use Rattle.std.proofs.lemmas.Result.{IfOk-weaker}
use Rattle.fore_base.proofs.ListLemmas.{paired_long}
use Rattle.fa_core.specs.Folding.{Placing}
use Rattle.fa_core.specs.References.{AllBelow}
use Rattle.fa_order.specs.inner.Stacks.{nth_refs}
use Rattle.fa_part.specs.inner.Found.{IsPartOrder}
use Rattle.fa_part.specs.inner.Referring.{AreRootRefs}
use Rattle.fa_part.proofs.Ordering.{lists_below, order_from}
use Rattle.fa_part.proofs.visiting.part_order.Goals as goal

pub visited-requires-clause-from : goal.visited-requires-clause-from
visited-requires-clause-from c =
    subst (λ (n : ℕ). AllBelow n c.args.from.now)
    (paired_long AreRootRefs c.args.forest.now.forest.autos c.in_ok-refers.refers c.in_ok-refers.ensures) c.requires

pub visited-requires-clause-refers : goal.visited-requires-clause-refers
visited-requires-clause-refers c =
    lists_below c.args.forest.now.forest c.in_ok-refers.refers c.in_ok-refers.ensures c.args.forest.now.face
    c.known.ensures.sound

pub returns : goal.returns
returns c =
    let F = c.args.forest.now.forest in
    let refers = c.in_ok-refers.refers in
    let ports = c.args.ports.now in
    let from = c.args.from.now in
    IfOk-weaker c.visited.result (Placing (nth_refs refers) from ports) (IsPartOrder F ports from)
    (order_from F refers c.in_ok-refers.ensures ports from) c.visited.ensures
