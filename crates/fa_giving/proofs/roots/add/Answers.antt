use Rattle.std.proofs.Common.{◌∷◌, []}
use Rattle.fore_base.proofs.ListLemmas.{in_left, in_last, in_push}
use Rattle.fa_giving.proofs.roots.add.Goals as goal

pub returns-in_ok-push : goal.returns-in_ok-push
returns-in_ok-push c = rw (c.in_ok-push.ensures.ok) (record {
  there = in_last c.args.number c.args.once.now;
  kept = λ m i. in_left m c.args.once.now (c.args.number ∷ []) i;
  only = λ m i. in_push c.args.number m c.args.once.now i;
})
