use Rattle.std.proofs.lemmas.Result.{IfOk-weaker}
use Rattle.ta_core.specs.Language.{IsWithin}
use Rattle.ta_incl.specs.Inclusions.{IsAntichain, IsClosed, MeetsRoots, IsMissing, IfYes, IfNo}
use Rattle.ta_incl.specs.inner.Answers.{Answers}
use Rattle.ta_incl.proofs.Answering.{says_within, says_antichain, says_closed, says_roots, says_missing}
use Rattle.ta_incl.proofs.including.included.Goals as goal

pub returns-clause-within : goal.returns-clause-within
returns-clause-within c =
    IfOk-weaker c.answered.result (Answers c.args.left.now c.args.right.now)
    (IfYes (λ _. IsWithin c.args.left.now c.args.right.now)) (says_within c.args.left.now c.args.right.now)
    c.answered.ensures

pub returns-clause-antichain : goal.returns-clause-antichain
returns-clause-antichain c =
    IfOk-weaker c.answered.result (Answers c.args.left.now c.args.right.now) (IfYes IsAntichain)
    (says_antichain c.args.left.now c.args.right.now) c.answered.ensures

pub returns-clause-closed : goal.returns-clause-closed
returns-clause-closed c =
    IfOk-weaker c.answered.result (Answers c.args.left.now c.args.right.now)
    (IfYes (IsClosed c.args.left.now c.args.right.now)) (says_closed c.args.left.now c.args.right.now)
    c.answered.ensures

pub returns-clause-roots : goal.returns-clause-roots
returns-clause-roots c =
    IfOk-weaker c.answered.result (Answers c.args.left.now c.args.right.now)
    (IfYes (MeetsRoots c.args.left.now c.args.right.now)) (says_roots c.args.left.now c.args.right.now)
    c.answered.ensures

pub returns-clause-missing : goal.returns-clause-missing
returns-clause-missing c =
    IfOk-weaker c.answered.result (Answers c.args.left.now c.args.right.now)
    (IfNo (IsMissing c.args.left.now c.args.right.now)) (says_missing c.args.left.now c.args.right.now)
    c.answered.ensures
