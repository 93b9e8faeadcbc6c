use Rattle.std.proofs.Common.{List, subst, take, arith}
use Rattle.std.proofs.lemmas.List.{take_all}
use Rattle.fore_base.specs.Lists.{Every}
use Rattle.fore_base.proofs.ListLemmas.{every_push, take_item}
use Rattle.fa_sound.specs.Soundness.{SoundForest, IsSigned}
use Rattle.fa_opening.proofs.choosing.known_each.Goals as goal

pub loop-part-preserved : goal.loop-part-preserved
loop-part-preserved c =
    rw (take_item c.args.parts.now c.loop-part.part-index c.part-item.result c.loop-part-test.true c.part-item.is)
    (every_push IsSigned (take c.loop-part.part-index c.args.parts.now) c.part-item.result c.loop-part.invariant
    c.known.ensures)

pub returns : goal.returns
returns c =
    let past = c.loop-part-test.false in
    subst (λ (xs : List SoundForest). Every IsSigned xs)
    (take_all c.loop-part.part-index c.args.parts.now (omega (arith, past))) c.loop-part.invariant
