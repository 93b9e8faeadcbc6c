use Rattle.std.proofs.Common.{append_assoc, [], ◌∷◌}
use Rattle.fa_lift.specs.Lift.{hat_rules, hole}
use Rattle.fa_lift.proofs.LiftSound.{hatted_ranked}
use Rattle.fa_lift.proofs.lifting_automata.hatted.Goals as goal

pub invariant_of-result : goal.invariant_of-result
invariant_of-result c =
    let a = c.args.auto.now in
    rw (
      c.in_ok-append.ensures.ok,
      c.in_ok-hats.ensures,
      c.in_ok-push.ensures.ok,
      c.in_ok-rules.ensures,
      c.in_ok-roots.ensures,
      c.in_ok-states.ensures,
      c.hole.ensures,
      c.in_ok-twice.ensures,
      c.roots_of.ensures,
      c.rules_of.ensures,
      c.states_of-by.ensures,
      append_assoc a.rules (hole a.states c.args.root ∷ []) (hat_rules a.states c.args.state a.rules),
    )
    (hatted_ranked a c.known.ensures c.args.state c.args.root c.requires)
