use Rattle.std.proofs.Common.{◌≡◌, sym, subst}
use Rattle.std.proofs.lemmas.Result.{IfOk-weaker}
use Rattle.fore_base.specs.Lists.{Paired}
use Rattle.ta_core.specs.Language.{HasSameLanguage}
use Rattle.fa_core.specs.declared.forest.Forest.{Forest}
use Rattle.fa_sound.specs.Soundness.{SoundForest}
use Rattle.fa_join.specs.Joined.{Joins}
use Rattle.fa_join.specs.declared.differing.Difference.{Difference}
use Rattle.fa_join.specs.inner.Differing.{IsDifference}
use Rattle.fa_join.proofs.JoinedForests.{same_joins}
use Rattle.fa_join.proofs.joining.join.Goals as goal

pub returns-in-Nowhere-clause-joins : goal.returns-in-Nowhere-clause-joins
returns-in-Nowhere-clause-joins g c =
    let F = c.args.left.now.forest in
    let G = c.args.right.now.forest in
    let h = c.requires.can.0 in
    let same : Paired HasSameLanguage F.autos G.autos =
    subst (λ (d : Difference). IsDifference c.args.left.now.face.boxes F G d) c.in-Nowhere.is c.requires.can.1
    in
    IfOk-weaker c.copy.result (λ s. s ≡ c.args.left.now) (λ s. Joins F G s.forest)
    (λ s e. subst (λ (z : SoundForest). Joins F G z.forest) (sym e) (same_joins F G (sym h.vars, sym h.data_vars) same))
    c.copy.ensures

pub returns-in_ok-joined-in-Child-clause-joins : goal.returns-in_ok-joined-in-Child-clause-joins
returns-in_ok-joined-in-Child-clause-joins g c =
    let F = c.args.left.now.forest in
    let G = c.args.right.now.forest in
    IfOk-weaker c.reduced.result
    (λ s. (H K : Forest) → Joins H K c.in_ok-joined-in-Child.joined.forest → Joins H K s.forest)
    (λ s. Joins F G s.forest)
    (λ s f. f F G c.in_ok-joined-in-Child.ensures.joins)
    c.reduced.ensures.joins
