use Rattle.fore_base.proofs.ListLemmas.{every_at, take_item}
use Rattle.fa_core.specs.Filled.{HasSome}
use Rattle.fa_core.specs.Folding.{position}
use Rattle.fa_merge.proofs.PlacedForests.{component_has}
use Rattle.fa_sound.specs.Components.{component_at}
use Rattle.fa_sound.proofs.ComponentLemmas.{component_got}
use Rattle.fa_part.specs.Ports.{IsPortOf}
use Rattle.fa_part.proofs.OuterRefs.{port_there, port_top}
use Rattle.fa_part.proofs.PortAutos.{autos_more}
use Rattle.fa_part.proofs.components.port_components.Goals as goal

pub port_component-requires-clause-top : goal.port_component-requires-clause-top
port_component-requires-clause-top c =
    let autos = c.args.forest.now.autos in
    rw c.component.ensures
    (port_top autos c.port-item.result
    (every_at (IsPortOf autos) c.args.ports.now c.loop-port.port-index c.port-item.result c.requires.ports
    c.loop-port-test.true c.port-item.is))

pub port_component-requires-clause-some : goal.port_component-requires-clause-some
port_component-requires-clause-some c =
    let autos = c.args.forest.now.autos in
    let r = c.port-item.result.root in
    let l = port_there autos c.port-item.result
    (every_at (IsPortOf autos) c.args.ports.now c.loop-port.port-index c.port-item.result c.requires.ports
    c.loop-port-test.true c.port-item.is) in
    rw c.component.ensures
    (component_has HasSome autos r c.requires.full l)

pub loop-port-preserved : goal.loop-port-preserved
loop-port-preserved c =
    let autos = c.args.forest.now.autos in
    let p = c.port-item.result in
    let l = port_there autos p
    (every_at (IsPortOf autos) c.args.ports.now c.loop-port.port-index p c.requires.ports c.loop-port-test.true
    c.port-item.is) in
    rw (
      take_item c.args.ports.now c.loop-port.port-index p c.loop-port-test.true c.port-item.is,
      c.in_ok-push.ensures.ok,
    )
    (autos_more (position c.args.order.now) autos p _ _ _ c.loop-port.invariant (
      component_at autos p.root,
      component_got autos p.root l,
      rw c.component.ensures at c.in_ok-port_component.ensures,
    ))
