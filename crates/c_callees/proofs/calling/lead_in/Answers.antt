use Rattle.std.proofs.Common.{arith}
use Rattle.c_callees.proofs.LeadingLemmas.{leads_past, leads_tested}
use Rattle.c_callees.proofs.calling.lead_in.Goals as goal

pub returns-then-to-count : goal.returns-then-to-count
returns-then-to-count c =
    leads_past c.args.graph.now c.known.ensures.within c.args.from c.args.to
    (omega (arith, c.requires, c.if-to-count.true))

pub returns : goal.returns
returns c =
    let is = c.in_ok-yes.ensures in
    leads_tested c.args.graph.now c.in_ok-yes.yes c.args.from c.args.to is.0 is.1
