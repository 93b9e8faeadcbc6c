use Rattle.std.proofs.Common.{subst}
use Rattle.fa_core.specs.Filled.{IsSound}
use Rattle.fa_core.specs.declared.faces.Face.{Face}
use Rattle.fa_join.proofs.JoinedForests.{joined_below}
use Rattle.fa_join.proofs.joining.join_below.Goals as goal

pub joined_forest-requires : goal.joined_forest-requires
joined_forest-requires c =
    let F = c.args.left.now in
    let G = c.args.right.now.forest in
    let q = c.requires in
    let second = subst (λ (x : Face). IsSound x G) q.face c.known-2.ensures.sound in
    joined_below F.face F.forest G c.args.root c.args.child q.alike c.known.ensures.ranked c.known-2.ensures.ranked
    q.canonical.0.tops q.canonical.1.tops q.differ q.gives c.known.ensures.sound second q.canonical.0 q.canonical.1
