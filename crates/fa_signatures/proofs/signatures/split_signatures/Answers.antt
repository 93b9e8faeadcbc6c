use Rattle.std.proofs.Common.{◌≡◌, List, []}
use Rattle.std.proofs.lemmas.Result.{IfOk-weaker}
use Rattle.fore_base.specs.Lists.{IsIn, Every}
use Rattle.ta_core.specs.Auto.{Automaton}
use Rattle.ta_core.specs.Language.{IsBarren}
use Rattle.fa_core.specs.Boxless.{HasNoBoxes}
use Rattle.fa_core.specs.Member.{Regroups, RegroupsInto}
use Rattle.fa_core.specs.declared.boxes.BoxDef.{BoxDef}
use Rattle.fa_sound.specs.Soundness.{SoundForest}
use Rattle.fa_sound.specs.Unions.{IsUnionOf, forests}
use Rattle.fa_signatures.specs.CutForests.{AreCutForests}
use Rattle.fa_signatures.proofs.CutLaws.{regroups_all, cut_into, cut_union, cut_empty, plain_all}
use Rattle.fa_signatures.proofs.signatures.split_signatures.Goals as goal

pub returns-clause-regroups : goal.returns-clause-regroups
returns-clause-regroups c =
    let F = c.args.forest.now in
    let fs = c.args.face.now.boxes in
    IfOk-weaker c.sound_forests.result (λ (list : List SoundForest). AreCutForests fs F (forests list))
    (λ (list : List SoundForest). Every (λ (s : SoundForest). (T : List BoxDef) → Regroups T F s.forest) list)
    (λ list h. regroups_all fs F list h) c.sound_forests.ensures.cut

pub returns-clause-lost : goal.returns-clause-lost
returns-clause-lost c =
    let F = c.args.forest.now in
    let fs = c.args.face.now.boxes in
    IfOk-weaker c.sound_forests.result (λ (list : List SoundForest). AreCutForests fs F (forests list))
    (λ (list : List SoundForest). (T : List BoxDef) → RegroupsInto T F (forests list))
    (λ list h. λ T. cut_into fs F T (forests list) h) c.sound_forests.ensures.cut

pub returns-clause-members : goal.returns-clause-members
returns-clause-members c =
    let F = c.args.forest.now in
    let fs = c.args.face.now.boxes in
    IfOk-weaker c.sound_forests.result (λ (list : List SoundForest). AreCutForests fs F (forests list))
    (λ (list : List SoundForest). IsUnionOf F (forests list))
    (λ list h. cut_union fs F (forests list) h) c.sound_forests.ensures.cut

pub returns-clause-plain : goal.returns-clause-plain
returns-clause-plain c = λ plain.
    let F = c.args.forest.now in
    let fs = c.args.face.now.boxes in
    IfOk-weaker c.sound_forests.result (λ (list : List SoundForest). AreCutForests fs F (forests list))
    (λ (list : List SoundForest). Every (λ (s : SoundForest). Every HasNoBoxes s.forest.autos) list)
    (λ list h. plain_all fs F list plain h) c.sound_forests.ensures.cut

pub returns-clause-empty : goal.returns-clause-empty
returns-clause-empty c =
    let F = c.args.forest.now in
    let fs = c.args.face.now.boxes in
    IfOk-weaker c.sound_forests.result (λ (list : List SoundForest). AreCutForests fs F (forests list))
    (λ (list : List SoundForest). (a : Automaton) → IsIn a F.autos → IsBarren a → list ≡ [])
    (λ list h. λ a i e. cut_empty fs F list a h i e) c.sound_forests.ensures.cut
