use Rattle.std.proofs.Common.{List}
use Rattle.std.proofs.lemmas.Result.{IfOk-weaker}
use Rattle.fore_base.specs.Lists.{Every}
use Rattle.ta_core.specs.Auto.{Automaton}
use Rattle.fa_core.specs.Boxless.{HasNoBoxes}
use Rattle.fa_signatures.specs.CutPieces.{AreCut}
use Rattle.fa_signatures.proofs.PieceLists.{all_plain}
use Rattle.fa_signatures.proofs.TrimmedCuts.{cut_on}
use Rattle.fa_signatures.proofs.cutting.cut_auto.Goals as goal

pub returns-clause-cut : goal.returns-clause-cut
returns-clause-cut c =
    let bs = c.args.boxes.now in
    let a = c.args.whole.now in
    let part = c.in_ok-part.part in
    let m = c.in_ok-part.ensures in
    IfOk-weaker c.cut_trim.result (AreCut bs part) (AreCut bs a)
    (λ ps h. cut_on bs a part c.known.ensures m.language m.trim m.parts ps h) c.cut_trim.ensures.cut

pub returns-clause-plain : goal.returns-clause-plain
returns-clause-plain c = λ plain.
    let bs = c.args.boxes.now in
    let a = c.args.whole.now in
    let part = c.in_ok-part.part in
    let m = c.in_ok-part.ensures in
    IfOk-weaker c.cut_trim.result (AreCut bs part) (Every HasNoBoxes)
    (λ (ps : List Automaton) h.
    all_plain bs a ps plain (cut_on bs a part c.known.ensures m.language m.trim m.parts ps h)) c.cut_trim.ensures.cut
