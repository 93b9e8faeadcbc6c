use Rattle.std.proofs.Common.{append_assoc, [], ◌∷◌}
use Rattle.fa_split.specs.Split.{fresh_top, fresh_leaf}
use Rattle.fa_split.proofs.FixedTrees.{fixed_ranked}
use Rattle.fa_split.proofs.topping.fix_child.Goals as goal

pub invariant_of-result : goal.invariant_of-result
invariant_of-result c =
    let a = c.args.auto.now in
    rw (
      c.in_ok-states.ensures,
      c.in_ok-roots.ensures,
      c.in_ok-push-2.ensures.ok,
      c.in_ok-push.ensures.ok,
      c.in_ok-rules.ensures,
      c.in_ok-fresh_top_rule.ensures,
      c.fresh_leaf_rule.ensures,
      c.states_of.ensures,
      append_assoc a.rules (fresh_top a c.args.place ∷ []) (fresh_leaf a c.args.leaf ∷ []),
    )
    (fixed_ranked a c.args.place c.args.leaf c.known.ensures c.requires.top c.requires.place)
