use Rattle.fore_words.proofs.OneThing.{one_thing}
use Rattle.fore_words.proofs.laws.words_ask_one_thing.Goals as goal

pub returns : goal.returns
returns c = one_thing
