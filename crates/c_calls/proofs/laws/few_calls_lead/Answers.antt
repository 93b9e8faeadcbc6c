use Rattle.std.proofs.Common.{length}
use Rattle.c_calls.proofs.FewCalls.{leads_few, within_leads}
use Rattle.c_calls.proofs.laws.few_calls_lead.Goals as goal

pub returns : goal.returns
returns c = λ calls f g. (leads_few calls f g, within_leads calls (length calls) f g)
