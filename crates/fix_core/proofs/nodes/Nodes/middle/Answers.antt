use Rattle.std.proofs.Common.{◌∙◌, Option, Some, ap, sym}
use Rattle.fa_core.specs.declared.forest.Forest.{Forest}
use Rattle.fix_core.specs.Reads.{read, read_if}
use Rattle.fa_pool.specs.declared.kept.Kept.{Kept}
use Rattle.fix_core.specs.declared.nodes.Node.{Node}
use Rattle.fix_core.proofs.HeldSteps.{middle_sound, node_is}
use Rattle.fix_core.proofs.nodes.Nodes.middle.Goals as goal

pub sound_of-requires-clause-sound : goal.sound_of-requires-clause-sound
sound_of-requires-clause-sound c =
    rw c.get.ensures
    (middle_sound c.self.inside.face c.self.inside.held c.self.invariant.1 c.args.node c.at.result.now c.at.ensures
    c.in-Some.kept c.in-Some.is)

pub returns-in_ok-middle-in-Some : goal.returns-in_ok-middle-in-Some
returns-in_ok-middle-in-Some c = λ n is.
    let held = c.self.inside.held in
    let same = node_is c.self.inside.face held.pool held.nodes c.args.self.now c.self.view_is c.args.node
    c.at.result.now n c.at.ensures is in (
      sym (ap (λ (m : Node). m.state.middle) same)
          ∙ ap (λ (o : Option Kept). read_if held.pool o) c.in-Some.is
          ∙ ap (λ (k : Kept). Some (read held.pool k)) (sym c.get.ensures)
          ∙ ap (λ (F : Forest). Some F) (sym c.in_ok-middle-in-Some.ensures.forest),
      c.in_ok-middle-in-Some.ensures.face ∙ ap (λ (m : Node). m.state.face) same,
    )

pub returns-in-None : goal.returns-in-None
returns-in-None c = λ n is.
    let held = c.self.inside.held in
    sym (ap (λ (m : Node). m.state.middle)
    (node_is c.self.inside.face held.pool held.nodes c.args.self.now c.self.view_is c.args.node c.at.result.now n
    c.at.ensures is))
    ∙ ap (λ (o : Option Kept). read_if held.pool o) c.in-None.is
