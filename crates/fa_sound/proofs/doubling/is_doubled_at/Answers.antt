use Rattle.fa_sound.proofs.GivenTwice.{speaks_at}
use Rattle.fa_sound.proofs.doubling.is_doubled_at.Goals as goal

pub returns : goal.returns
returns c =
    let h = rw c.marks_at.ensures at c.has_doubled.ensures in
    λ e. speaks_at c.args.limit c.args.table.now c.args.state (h e)
