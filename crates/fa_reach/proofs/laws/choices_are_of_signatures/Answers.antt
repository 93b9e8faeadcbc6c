use Rattle.fa_reach.proofs.TreeLaws.{all_both, always_both, never_both}
use Rattle.fa_reach.proofs.laws.choices_are_of_signatures.Goals as goal

pub returns-clause-all : goal.returns-clause-all
returns-clause-all c = λ bs autos lists i signs. all_both bs autos lists i signs

pub returns-clause-always : goal.returns-clause-always
returns-clause-always c = λ bs autos lists i j signs. always_both bs autos lists i signs j

pub returns-clause-never : goal.returns-clause-never
returns-clause-never c = λ bs autos lists i j signs. never_both bs autos lists i signs j
