use Rattle.fa_core.proofs.laws.no_boxes_no_edges.Goals as goal
use Rattle.fa_core.proofs.Boxless.{sound_plain}

pub returns : goal.returns
returns c = sound_plain
