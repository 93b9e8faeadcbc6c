use Rattle.std.proofs.Common.{◌∙◌, ap, sym}
use Rattle.fa_groups.specs.Grouped.{numbers_if}
use Rattle.fa_groups.proofs.Grouping.{groups_same, none_is}
use Rattle.fa_groups.proofs.groups.open.Goals as goal

pub returns-clause-same : goal.returns-clause-same
returns-clause-same c =
    groups_same c.args.groups.now c.insert.new.self c.args.key c.new.result c.in_ok-insert.ensures.updates
    (c.new.ensures ∙ sym (ap numbers_if (none_is _ (sym c.contains_key-has.ensures ∙ c.if-has.false))))
