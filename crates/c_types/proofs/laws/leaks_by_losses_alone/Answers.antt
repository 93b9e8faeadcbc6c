use Rattle.c_types.specs.Control.{opened}
use Rattle.c_types.proofs.LeakGained.{turn_leaks}
use Rattle.c_types.proofs.LeakTests.{turn_sound}
use Rattle.c_types.proofs.laws.leaks_by_losses_alone.Goals as goal

pub returns-clause-kept : goal.returns-clause-kept
returns-clause-kept c = λ mode is. turn_sound c.args.program.now.shapes.structs mode (opened is)

pub returns-clause-stays : goal.returns-clause-stays
returns-clause-stays c = λ mode is. turn_leaks c.args.program.now.shapes.structs mode (opened is)
