use Rattle.c_prefixes.proofs.Counted.{at_most, at_least}
use Rattle.c_prefixes.proofs.laws.prefixes_are_counted.Goals as goal

pub returns-clause-most : goal.returns-clause-most
returns-clause-most c = λ g n b h. at_most g n b h

pub returns-clause-least : goal.returns-clause-least
returns-clause-least c = λ g n b d h. at_least g n b d h
