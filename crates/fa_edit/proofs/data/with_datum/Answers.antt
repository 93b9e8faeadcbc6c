use Rattle.fore_base.specs.Lists.{Every}
use Rattle.ta_core.specs.Auto.{IsRanked}
use Rattle.fa_edit.specs.Data.{datums_at}
use Rattle.fa_edit.proofs.DatumPuts.{is_datum_put, there_at}
use Rattle.fa_edit.proofs.DatumSound.{datum_plain, datum_canonical}
use Rattle.fa_edit.proofs.data.with_datum.Goals as goal

pub returns-clause-put : goal.returns-clause-put
returns-clause-put c =
    let F = c.args.forest.now.forest in
    let ranked : Every IsRanked F.autos = c.known.ensures.ranked in
    let y = there_at (datums_at F c.args.root) c.args.field c.requires.has in
    rw c.in_ok-made.ensures.forest
    (λ T old all. is_datum_put F c.args.root c.args.field c.requires.root c.requires.top ranked y.0 y.1 c.args.datum
    T old all)

pub returns-clause-plain : goal.returns-clause-plain
returns-clause-plain c = λ plain.
    let F = c.args.forest.now.forest in
    let ranked : Every IsRanked F.autos = c.known.ensures.ranked in
    rw c.in_ok-made.ensures.forest
    (datum_plain c.args.forest.now.face F c.args.root c.args.field c.args.datum ranked c.requires.root c.requires.top
    plain)

pub returns-clause-canonical : goal.returns-clause-canonical
returns-clause-canonical c = λ can.
    let F = c.args.forest.now.forest in
    let ranked : Every IsRanked F.autos = c.known.ensures.ranked in
    rw (c.in_ok-made.ensures.forest, c.in_ok-made.ensures.face)
    (datum_canonical c.args.forest.now.face F c.args.root c.args.field c.args.datum ranked c.requires.root
    c.requires.top c.requires.fits c.known.ensures.sound can)
