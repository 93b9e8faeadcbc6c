use Rattle.std.proofs.Common.{◌≡◌, ◌∙◌, ℕ, ap, sym, Option, None, Ok}
use Rattle.fa_sound.specs.Soundness.{SoundForest}
use Rattle.c_cfg.specs.declared.graph.Instr.TheVariants.{Free}
use Rattle.sym_core.specs.Explicit.{target_at}
use Rattle.sym_transfer.specs.inner.Targets.{freed_root}
use Rattle.sym_transfer.proofs.Outcomes.{carried}
use Rattle.sym_transfer.proofs.TestKinds.{free_null, frees_nothing}
use Rattle.sym_transfer.proofs.editing.released.Goals as goal

pub returns-in_ok-made-in-Ok-None-clause-edited : goal.returns-in_ok-made-in-Ok-None-clause-edited
returns-in_ok-made-in-Ok-None-clause-edited c = λ T table x.
    let F = c.args.forest.now in
    let t = target_at F.forest c.args.from in
    let none : freed_root t ≡ Ok None = sym (c.freed_root.ensures ∙ ap freed_root c.target_of.ensures) ∙ c.in-Ok-None.is
    ∙ ap (λ (o : Option ℕ). Ok o) c.in-Ok-None.field-0-is in
    carried F.face T F.forest F.forest c.in_ok-made-in-Ok-None.made.forest (Free c.args.from) x
    (ap (λ (G : SoundForest). G.forest) c.in_ok-made-in-Ok-None.ensures)
    (free_null F.face T F.forest c.args.from x (frees_nothing t none))
