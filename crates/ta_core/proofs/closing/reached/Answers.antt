use Rattle.std.proofs.Common.{◌<◌}
use Rattle.ta_core.specs.declared.arc.Arc.{Arc}
use Rattle.ta_core.proofs.Reaching.{closed}
use Rattle.ta_core.proofs.Rounding.{each_own}
use Rattle.ta_core.proofs.closing.reached.Goals as goal

pub take_all-requires-clause-accepts : goal.take_all-requires-clause-accepts
take_all-requires-clause-accepts c = each_own (λ (s : Arc). s.to < c.args.states) c.args.arcs.now c.requires

pub returns : goal.returns
returns c = let k = c.in_ok-take_all.ensures.keeps in
    closed c.args.arcs.now c.take_all.new.value c.in_ok-take_all.ensures.taken c.args.states k.0 k.1
