use Rattle.fa_reach.proofs.Sweeps.{swept_done}
use Rattle.fa_reach.proofs.sweeping.sweep.Goals as goal

pub returns-clause-done : goal.returns-clause-done
returns-clause-done c = λ e.
    let k = rw (c.count_marked.ensures, c.as_slice-2.ensures, c.count_marked-before.ensures, c.as_slice.ensures) at e in
    swept_done c.args.parts.now c.args.set.now c.sweep_parts.new.set c.sweep_parts.ensures k
