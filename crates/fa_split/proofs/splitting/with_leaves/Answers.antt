use Rattle.fore_base.proofs.ListLemmas.{every_get}
use Rattle.fa_core.specs.declared.forest.Target.TheVariants.{Null}
use Rattle.fa_split.specs.Split.{MayBeLeaf}
use Rattle.fa_split.proofs.Steps.{split_more}
use Rattle.fa_split.proofs.splitting.with_leaves.Goals as goal

pub with_leaf-requires-clause-may : goal.with_leaf-requires-clause-may
with_leaf-requires-clause-may c =
    every_get (MayBeLeaf c.args.forest.now.forest c.args.root c.args.place) c.args.leaves.now c.loop-leaf.leaf-index
    Null c.requires.may c.loop-leaf-test.true

pub loop-leaf-preserved : goal.loop-leaf-preserved
loop-leaf-preserved c = rw c.in_ok-push.ensures.ok
    (split_more c.args.forest.now.forest c.args.root c.args.place c.args.forest.now.face c.args.leaves.now
    c.loop-leaf.leaf-index c.loop-leaf.made c.in_ok-with_leaf.field-0 c.loop-leaf-test.true c.loop-leaf.invariant
    c.in_ok-with_leaf.ensures.forest c.in_ok-with_leaf.ensures.face)
