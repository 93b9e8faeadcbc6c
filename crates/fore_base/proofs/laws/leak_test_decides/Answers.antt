use Rattle.fore_base.proofs.Leaks.{leaks_leaked, sound_unleaked}
use Rattle.fore_base.proofs.laws.leak_test_decides.Goals as goal

pub returns-clause-leaked : goal.returns-clause-leaked
returns-clause-leaked c = leaks_leaked c.args.store.now

pub returns-clause-reached : goal.returns-clause-reached
returns-clause-reached c = sound_unleaked c.args.store.now
