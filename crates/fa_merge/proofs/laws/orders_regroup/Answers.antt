use Rattle.std.proofs.Common.{length}
use Rattle.fa_merge.specs.Reordered.{place_of}
use Rattle.fa_merge.proofs.MergedAnywhere.{an_order}
use Rattle.fa_merge.proofs.OtherOrders.{reorder_onto, reorder_back}
use Rattle.fa_merge.proofs.laws.orders_regroup.Goals as goal

pub returns-clause-whole : goal.returns-clause-whole
returns-clause-whole c = λ T F order is. reorder_onto T F (place_of order) order (an_order (length F.autos) order is)

pub returns-clause-regroups : goal.returns-clause-regroups
returns-clause-regroups c = λ T F order is. reorder_back F (place_of order) order (an_order (length F.autos) order is) T
