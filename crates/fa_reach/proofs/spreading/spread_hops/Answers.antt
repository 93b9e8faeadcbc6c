use Rattle.std.proofs.Common.{List, get_or, subst}
use Rattle.fore_base.specs.Lists.{IsIn}
use Rattle.fore_base.proofs.ListLemmas.{in_place}
use Rattle.fa_back.specs.declared.hops.Hop.{Hop}
use Rattle.fa_reach.proofs.spreading.spread_hops.Goals as goal

pub spread_hop-requires-clause-hop : goal.spread_hop-requires-clause-hop
spread_hop-requires-clause-hop c =
    let d : Hop = record { from = 0; to = 0 } in
    let hops = c.as_slice-hop-items.result.now in
    let i = c.loop-hop.hop-index in
    subst (λ (hs : List Hop). IsIn (get_or hops i d) hs) c.as_slice-hop-items.ensures
    (in_place hops i d c.loop-hop-test.true)
