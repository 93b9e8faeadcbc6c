use Rattle.std.proofs.Common.{◌++◌, subst, sym}
use Rattle.fore_base.proofs.ListLemmas.{every_at, take_item}
use Rattle.fa_core.specs.Folding.{Ports}
use Rattle.fa_part.specs.Ports.{IsPortOf}
use Rattle.fa_part.specs.inner.Found.{ArePortRefs}
use Rattle.fa_part.specs.inner.Thin.{thin_none}
use Rattle.fa_part.proofs.OuterRefs.{port_there, port_top, refs_more}
use Rattle.fa_part.proofs.PortLists.{ports_more}
use Rattle.fa_part.proofs.finding.port_refs.Goals as goal

pub loop-port-init : goal.loop-port-init
loop-port-init c = λ ts h. rw c.new-made.ensures thin_none

pub picked_refs-requires-clause-top : goal.picked_refs-requires-clause-top
picked_refs-requires-clause-top c =
    port_top c.args.forest.now.forest.autos c.port-item.result
    (every_at (IsPortOf c.args.forest.now.forest.autos) c.args.ports.now c.loop-port.port-index c.port-item.result
    c.requires c.loop-port-test.true c.port-item.is)

pub picked_refs-requires-clause-root : goal.picked_refs-requires-clause-root
picked_refs-requires-clause-root c =
    port_there c.args.forest.now.forest.autos c.port-item.result
    (every_at (IsPortOf c.args.forest.now.forest.autos) c.args.ports.now c.loop-port.port-index c.port-item.result
    c.requires c.loop-port-test.true c.port-item.is)

pub loop-port-preserved : goal.loop-port-preserved
loop-port-preserved c =
    let autos = c.args.forest.now.forest.autos in
    let p = c.port-item.result in
    let own = every_at (IsPortOf autos) c.args.ports.now c.loop-port.port-index p c.requires c.loop-port-test.true
    c.port-item.is in
    rw (
      take_item c.args.ports.now c.loop-port.port-index p c.loop-port-test.true c.port-item.is,
      c.in_ok-append.ensures.ok,
    )
    (subst (λ (qs : Ports). ArePortRefs autos qs (c.loop-port.made ++ c.in_ok-picked_refs.field-0))
    (sym (ports_more _ p))
    (refs_more autos _ p.root p.fields _ _ (port_there autos p own) c.loop-port.invariant
    (rw c.as_slice.ensures at c.in_ok-picked_refs.ensures)))
