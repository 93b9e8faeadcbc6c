use Rattle.std.proofs.Common.{subst, sym}
use Rattle.ta_core.specs.Auto.{Automaton}
use Rattle.ta_core.specs.Single.{HasOneTop}
use Rattle.fa_core.specs.Folding.{position}
use Rattle.fa_part.proofs.PortAutos.{port_ranked}
use Rattle.fa_part.proofs.making.ported.Goals as goal

pub invariant_of-result : goal.invariant_of-result
invariant_of-result c =
    let a : Automaton =
    record { states = c.auto.inside.states; roots = c.auto.inside.roots; rules = c.auto.inside.rules } in
    rw (
      c.in_ok-states.ensures,
      c.in_ok-roots.ensures,
      c.in_ok-push.ensures.ok,
      c.in_ok-rules.ensures,
      c.in_ok-port_rule.ensures,
      c.as_slice.ensures,
      c.states_of.ensures,
      ← c.auto.view_is,
    )
    (port_ranked (position c.args.order.now) c.args.shape c.args.fields.now a c.auto.invariant
    (subst HasOneTop (sym c.auto.view_is) c.requires.top))
