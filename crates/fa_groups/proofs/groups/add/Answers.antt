use Rattle.fa_groups.specs.Grouped.{AreSame, IsJoined}
use Rattle.fa_groups.proofs.Grouping.{joined_then, on_err, on_ok, same_then}
use Rattle.fa_groups.proofs.groups.add.Goals as goal

pub returns-clause-ok : goal.returns-clause-ok
returns-clause-ok c =
    on_ok c.join.result (IsJoined c.open.new.groups c.args.key c.args.number c.join.new.groups)
    (IsJoined c.args.groups.now c.args.key c.args.number c.join.new.groups)
    (λ h. joined_then c.args.groups.now c.open.new.groups c.join.new.groups c.args.key c.args.number
    c.open.ensures.same h) c.join.ensures.ok

pub returns-clause-err : goal.returns-clause-err
returns-clause-err c =
    on_err c.join.result (AreSame c.open.new.groups c.join.new.groups) (AreSame c.args.groups.now c.join.new.groups)
    (λ h. same_then c.args.groups.now c.open.new.groups c.join.new.groups c.open.ensures.same h) c.join.ensures.err
