use Rattle.std.proofs.Common.{List}
use Rattle.fore_base.specs.Lists.{IsIn, Every}
use Rattle.fa_core.specs.Member.{RegroupsInto}
use Rattle.fa_core.specs.declared.boxes.BoxDef.{BoxDef}
use Rattle.fa_sound.specs.Soundness.{SoundForest}
use Rattle.fa_split.specs.Divided.{forests}
use Rattle.fa_opening.specs.Each.{OfSome}
use Rattle.sym_step.specs.inner.Topping.{IsTopped}
use Rattle.sym_step.proofs.topping.top_roots.Given as goal

abbrev pub invariant-loop-root : goal.invariant-loop-root
invariant-loop-root l = Every (OfSome (IsTopped l.root) l.fn.parts) l.made
    × ((S : SoundForest) → IsIn S l.fn.parts → (T : List BoxDef) → RegroupsInto T S.forest (forests l.made))
