use Rattle.fa_back.proofs.StoreLaws.{unreached_store, reached_store}
use Rattle.fa_back.proofs.laws.leaks_follow_roots.Goals as goal

pub returns-clause-leaked : goal.returns-clause-leaked
returns-clause-leaked c = λ t F d s table filled h r x e never. unreached_store t table F filled d s h r x e never

pub returns-clause-kept : goal.returns-clause-kept
returns-clause-kept c = λ t F d s table filled h all l. reached_store t table F filled d s h all l
