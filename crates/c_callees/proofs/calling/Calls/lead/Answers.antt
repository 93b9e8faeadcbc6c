use Rattle.std.proofs.Common.{List, Bool, false, get_or, sym, ap, ◌∙◌}
use Rattle.c_callees.proofs.LeadingLemmas.{leads_marked}
use Rattle.c_callees.proofs.calling.Calls.lead.Goals as goal

pub returns-in-Some : goal.returns-in-Some
returns-in-Some c =
    rw (← c.self.view_is)
    (c.is_marked.ensures ∙ ap (λ (ms : List Bool). get_or ms c.args.from false) c.as_slice.ensures
    ∙ leads_marked c.self.inside.graph c.in-Some.marks.now c.args.from c.args.to
    (c.self.invariant.1.each c.args.to c.in-Some.marks.now (sym c.in-Some.ensures.value)))
