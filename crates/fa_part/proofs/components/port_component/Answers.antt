use Rattle.std.proofs.Common.{sym, subst}
use Rattle.ta_core.specs.Auto.{Automaton}
use Rattle.fa_core.specs.Folding.{IsLanguageOf, port_tree, position}
use Rattle.fa_part.proofs.PortAutos.{port_language}
use Rattle.fa_part.proofs.components.port_component.Goals as goal

pub returns : goal.returns
returns c =
    let f = position c.args.order.now in
    let fs = c.args.port.now.fields in
    subst (λ (x : Automaton). IsLanguageOf (port_tree f c.args.port.now.shape fs) c.args.auto.now x)
    (sym (rw c.as_slice.ensures at c.in_ok-made.ensures))
    (port_language f c.args.port.now.shape fs c.args.auto.now c.known.ensures c.requires.top c.requires.some)
