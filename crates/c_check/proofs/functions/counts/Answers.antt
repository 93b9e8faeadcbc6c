use Rattle.std.proofs.Common.{Option, sym, ap, ◌∙◌}
use Rattle.fore_base.specs.declared.place.Place.{Place}
use Rattle.c_typing.proofs.Breaching.{fault_at}
use Rattle.c_typing.specs.BodySites.{block_places}
use Rattle.c_typing.specs.declared.fault.TypeFault.TheVariants.{Limit}
use Rattle.c_expressions.specs.First.{first_from}
use Rattle.c_expressions.proofs.MeetingLemmas.{noted-Counts}
use Rattle.c_check.proofs.functions.counts.Goals as goal

pub returns-in-Some : goal.returns-in-Some
returns-in-Some c =
    c.note_limit.ensures
    ∙ ap (λ (at : Option Place). first_from c.args.found.now (fault_at (Limit 7) at))
    (sym c.in-Some.is ∙ c.place_behind.ensures)
    ∙ sym (noted-Counts c.args.tables.now c.args.found.now (block_places c.args.block.now).within)

pub returns-in-None : goal.returns-in-None
returns-in-None c =
    ap (λ (at : Option Place). first_from c.args.found.now (fault_at (Limit 7) at))
    (sym c.in-None.is ∙ c.place_behind.ensures)
    ∙ sym (noted-Counts c.args.tables.now c.args.found.now (block_places c.args.block.now).within)
