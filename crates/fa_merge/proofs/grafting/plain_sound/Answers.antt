use Rattle.std.proofs.Common.{sym, subst}
use Rattle.fa_core.specs.Filled.{IsSound}
use Rattle.fa_core.specs.declared.forest.Forest.{Forest}
use Rattle.fa_merge.proofs.MergedSound.{merged_sound}
use Rattle.fa_merge.proofs.grafting.plain_sound.Goals as goal

pub of-requires : goal.of-requires
of-requires c =
    let F = c.args.forest.now.forest in
    rw c.face.ensures
    (subst (λ (z : Forest). IsSound c.args.forest.now.face z) (sym c.requires.made)
    (merged_sound c.args.forest.now.face F c.args.root c.args.into c.requires.lone c.known.ensures.sound
    c.requires.plain))
