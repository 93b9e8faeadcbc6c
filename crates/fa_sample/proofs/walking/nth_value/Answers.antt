use Rattle.fa_sample.proofs.Places.{value_found, value_missing}
use Rattle.fa_sample.proofs.walking.nth_value.Goals as goal

pub returns-in-Some : goal.returns-in-Some
returns-in-Some c = value_found c.args.values.now c.args.root c.in-Some.value.now c.in-Some.ensures.lookup.3.0
    c.in-Some.ensures.lookup.1

pub returns-in-None : goal.returns-in-None
returns-in-None c = value_missing c.args.values.now c.args.root c.in-None.ensures.lookup.3
