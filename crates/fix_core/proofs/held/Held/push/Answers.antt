use Rattle.std.proofs.Common.{ℕ, length, refl, subst}
use Rattle.fa_groups.specs.Grouped.{Key, IsJoined}
use Rattle.fix_core.proofs.Holding.{push_undone}
use Rattle.fix_core.proofs.held.Held.push.Goals as goal

pub returns-in-Ok-clause-ok : goal.returns-in-Ok-clause-ok
returns-in-Ok-clause-ok c = record {
  nodes = c.in_ok-push.ensures.ok;
  pool = refl;
  memo = refl;
  groups =
      subst (λ (key : Key). IsJoined c.args.self.now.groups key (length c.args.self.now.nodes) c.add.new.groups)
      c.key_at-key.ensures
      (subst (λ (n : ℕ). IsJoined c.args.self.now.groups c.key_at-key.result n c.add.new.groups) c.len-number.ensures
      c.in-Ok.ensures.ok);
}

pub returns-in-Err-clause-err : goal.returns-in-Err-clause-err
returns-in-Err-clause-err c =
    push_undone c.args.self.now c.args.node c.push.new.self c.pop-last.new.self c.add.new.groups c.pop-last.result
    c.in_ok-push.ensures.ok c.pop-last.ensures c.in-Err.ensures.err
