use Rattle.std.proofs.Common.{◌∙◌, ℕ, ap, slice_set, Some, None}
use Rattle.fore_base.specs.declared.store.Datum.TheVariants.{Known}
use Rattle.fa_sound.specs.Soundness.{SoundForest}
use Rattle.c_cfg.specs.declared.graph.Instr.TheVariants.{Choose}
use Rattle.c_cfg.specs.Edges.{choice_of}
use Rattle.sym_transfer.specs.inner.Targets.{with_vars}
use Rattle.sym_transfer.proofs.Outcomes.{carried}
use Rattle.sym_transfer.proofs.VarKinds.{choose_none, choose_some}
use Rattle.sym_transfer.proofs.variables.chosen.Goals as goal

pub returns-in_ok-made-in-Some-clause-edited : goal.returns-in_ok-made-in-Some-clause-edited
returns-in_ok-made-in-Some-clause-edited c = λ T table.
    let F = c.args.forest.now in
    let x = choice_of c.args.choice in
    let G = λ (y : ℕ). with_vars F.forest F.forest.vars (slice_set F.forest.data_vars c.in-Some.to (Known y)) in
    rw c.in-Some.is
    (carried F.face T F.forest (G x) c.in_ok-made-in-Some.made.forest (Choose (Some c.in-Some.to)) x
    (c.in_ok-made-in-Some.ensures.value ∙ ap G c.choice_of-choice.ensures.value)
    (choose_some F.face T F.forest c.in-Some.to x))

pub returns-in_ok-made-in-None-clause-edited : goal.returns-in_ok-made-in-None-clause-edited
returns-in_ok-made-in-None-clause-edited c = λ T table.
    let F = c.args.forest.now in
    let x = choice_of c.args.choice in
    rw c.in-None.is
    (carried F.face T F.forest F.forest c.in_ok-made-in-None.made.forest (Choose None) x
    (ap (λ (G : SoundForest). G.forest) c.in_ok-made-in-None.ensures) (choose_none F.face T F.forest x))
