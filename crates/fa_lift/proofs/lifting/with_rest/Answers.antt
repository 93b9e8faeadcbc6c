use Rattle.std.proofs.Common.{sym, subst, length, List}
use Rattle.std.proofs.lemmas.Result.{IfOk-weaker}
use Rattle.fore_base.specs.Lists.{IsIn}
use Rattle.ta_core.specs.Auto.{Automaton}
use Rattle.ta_core.specs.Language.{InLanguage}
use Rattle.ta_core.specs.declared.tree.Tree.{Tree}
use Rattle.fa_sound.specs.Components.{component_at}
use Rattle.fa_sound.specs.Soundness.{SoundForest}
use Rattle.fa_lift.specs.Lift.{hatted, lift_in}
use Rattle.fa_lift.specs.inner.Lifting.{Among}
use Rattle.fa_lift.proofs.lifting.with_rest.Goals as goal

pub returns-clause-all : goal.returns-clause-all
returns-clause-all c =
    let F = c.args.forest.now.forest in
    let x = c.args.rule.now in
    let rest : Automaton = hatted (component_at F.autos c.args.from) x.state (length F.autos) in
    let has : Automaton → List SoundForest → Type 0 = λ b made.
    Among made (lift_in F c.args._root c.args.from x c.args._place b)
    in
    IfOk-weaker c.with_pieces.result
    (λ (made : List SoundForest). (b : Automaton) → IsIn b c.as_slice-list.result.now → has b made)
    (λ (made : List SoundForest). (k : Tree) → InLanguage rest k → (b : Automaton) × InLanguage b k × has b made)
    (λ made h k l.
    let g = c.in_ok-pieces.ensures.cut.whole k
    (subst (λ (b : Automaton). InLanguage b k) (sym c.in_ok-rest.ensures) l) in
    (g.0, g.2, h g.0 (rw c.as_slice-list.ensures g.1)))
    c.with_pieces.ensures.all
