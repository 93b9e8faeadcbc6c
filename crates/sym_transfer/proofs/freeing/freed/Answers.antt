use Rattle.std.proofs.Common.{ℕ, refl}
use Rattle.fore_base.specs.Lists.{Every}
use Rattle.ta_core.specs.Auto.{IsRanked}
use Rattle.fa_merge.specs.Dropped.{CanDrop}
use Rattle.fa_merge.proofs.DroppedSound.{can_idle}
use Rattle.fa_edit.specs.Plain.{IsPlainAt}
use Rattle.sym_transfer.proofs.FreedRoots.{root_can_go}
use Rattle.sym_transfer.proofs.FreedStores.{freed_carries}
use Rattle.sym_transfer.proofs.freeing.freed.Goals as goal

pub drop_dead-requires-clause-root : goal.drop_dead-requires-clause-root
drop_dead-requires-clause-root c = (c.requires.explicit.plain c.args.base c.args.root 0 refl c.requires.at tt).root

pub drop_dead-requires-clause-idle : goal.drop_dead-requires-clause-idle
drop_dead-requires-clause-idle c =
    let F = c.args.forest.now.forest in
    let face = c.args.forest.now.face in
    let ranked : Every IsRanked F.autos = c.known.ensures.ranked in
    let shown : ((f : ℕ) → IsPlainAt face.shapes.structs F c.args.root f) =
    (λ f. c.requires.explicit.plain c.args.base c.args.root f refl c.requires.at tt) in
    can_idle face F c.args.root c.known.ensures.sound ranked
    (root_can_go face F c.args.root c.known.ensures.sound shown)

pub returns-clause-carries : goal.returns-clause-carries
returns-clause-carries c = λ T table x.
    let F = c.args.forest.now.forest in
    let face = c.args.forest.now.face in
    let r = c.args.root in
    let sound = c.known.ensures.sound in
    let ranked : Every IsRanked F.autos = c.known.ensures.ranked in
    let shown : ((f : ℕ) → IsPlainAt face.shapes.structs F r f) = (λ f. c.requires.explicit.plain c.args.base r f refl
    c.requires.at tt) in
    let can : CanDrop face.boxes F r = root_can_go face F r sound shown in
    freed_carries face T F c.args.base r c.requires.at c.in_ok-made.made.forest table sound.well_formed.filled
    (can_idle face F r sound ranked can) (c.in_ok-made.ensures.cut can T) x
