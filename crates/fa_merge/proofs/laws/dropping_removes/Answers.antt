use Rattle.fa_merge.proofs.DroppedBack.{store_restored}
use Rattle.fa_merge.proofs.DroppedStores.{store_removed}
use Rattle.fa_merge.proofs.laws.dropping_removes.Goals as goal

pub returns-clause-removes : goal.returns-clause-removes
returns-clause-removes c = λ face T F G r table filled idle cut. store_removed face T F G r table filled idle cut

pub returns-clause-restores : goal.returns-clause-restores
returns-clause-restores c = λ face T F G r table filled idle cut. store_restored T face F G r table filled idle cut
