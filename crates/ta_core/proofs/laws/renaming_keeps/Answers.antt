use Rattle.ta_core.proofs.Shifting.{shifted_same_language}
use Rattle.ta_core.proofs.laws.renaming_keeps.Goals as goal

pub returns : goal.returns
returns c = shifted_same_language
