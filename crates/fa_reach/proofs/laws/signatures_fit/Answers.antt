use Rattle.fa_reach.proofs.TreeLaws.{signs_long, signs_full, signs_named}
use Rattle.fa_reach.proofs.laws.signatures_fit.Goals as goal

pub returns-clause-long : goal.returns-clause-long
returns-clause-long c = λ bs autos lists signs. signs_long bs autos lists signs

pub returns-clause-full : goal.returns-clause-full
returns-clause-full c = λ bs autos lists signs full. signs_full bs autos lists signs full

pub returns-clause-within : goal.returns-clause-within
returns-clause-within c = λ bs n autos lists signs below. signs_named bs n autos lists signs below
