use Rattle.ta_core.specs.Language.{IsTrim}
use Rattle.fore_base.proofs.ListLemmas.{every_in, in_from_place}
use Rattle.fa_giving.proofs.Sums.{state_trees}
use Rattle.fa_giving.proofs.roots.is_field_right.Goals as goal

pub worths-requires : goal.worths-requires
worths-requires c = state_trees c.args.auto.now (every_in IsTrim c.args.autos.now c.args.auto.now c.requires.trim
    (in_from_place c.args.autos.now c.args.place.root c.args.auto.now c.requires.own))

pub are_tops_right-requires-clause-trim : goal.are_tops_right-requires-clause-trim
are_tops_right-requires-clause-trim c = every_in IsTrim c.args.autos.now c.args.auto.now c.requires.trim
    (in_from_place c.args.autos.now c.args.place.root c.args.auto.now c.requires.own)
