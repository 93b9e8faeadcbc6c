use Rattle.fore_base.specs.Lists.{Every}
use Rattle.fore_base.proofs.ListLemmas.{every_weaker}
use Rattle.ta_core.specs.Language.{IsTrim}
use Rattle.ta_core.specs.Simulations.{AutoReduced}
use Rattle.fa_abstract.proofs.Canonical.{canonical_structs}
use Rattle.room_abstraction.proofs.abstracting.quotient.Goals as goal

pub abstract_height-requires-clause-structs : goal.abstract_height-requires-clause-structs
abstract_height-requires-clause-structs c =
    let F = c.args.forest.now.forest in
    let trim : Every IsTrim F.autos = every_weaker AutoReduced IsTrim F.autos (λ a r. r.trim) c.requires.reduced in
    canonical_structs c.args.forest.now.face F c.requires.canonical c.known.ensures.ranked trim
