use Rattle.std.proofs.Common.{ap, ◌∙◌}
use Rattle.fore_base.specs.Heap.{leaks}
use Rattle.c_machine.proofs.Kept.{empty_kept}
use Rattle.c_machine.proofs.state.Machine.new.Goals as goal

pub invariant_of-result-clause-unleaked : goal.invariant_of-result-clause-unleaked
invariant_of-result-clause-unleaked c = λ e. ap leaks c.in_ok-heap.ensures ∙ empty_kept c.len.result c.len-2.result
