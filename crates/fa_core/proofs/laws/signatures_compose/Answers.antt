use Rattle.fa_core.proofs.laws.signatures_compose.Goals as goal
use Rattle.fa_core.proofs.CellMarks.{tree_signature}

pub returns : goal.returns
returns c = tree_signature
