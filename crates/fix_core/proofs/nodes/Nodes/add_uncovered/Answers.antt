use Rattle.std.proofs.Common.{subst, sym}
use Rattle.fa_core.specs.declared.faces.Face.{Face}
use Rattle.fix_core.specs.Held.{IsHeld}
use Rattle.fix_core.proofs.HeldSteps.{err_is, first_face, placed_is, some_stays}
use Rattle.fix_core.proofs.nodes.Nodes.add_uncovered.Goals as goal

pub place-requires-clause-held : goal.place-requires-clause-held
place-requires-clause-held g c κs within =
    let held = c.self.inside.held in
    subst (λ (f : Face). IsHeld f held)
    (first_face c.self.inside.face held.pool held.nodes c.args.self.now c.self.view_is c.args.state.now.face
    c.self.invariant.0 c.requires.faces) c.self.invariant.1

pub invariant_of-self : goal.invariant_of-self
invariant_of-self g c =
    let face = c.self.inside.face in
    let held = c.self.inside.held in
    let same = first_face face held.pool held.nodes c.args.self.now c.self.view_is c.args.state.now.face
    c.self.invariant.0 c.requires.faces in (
      some_stays c.place.result face c.args.state.now.face held c.place.new.self c.args.self.now
          (record { head = c.args.head; state = c.args.state.now }) c.args.budget same c.self.view_is c.self.invariant.0
          c.place.ensures.placed c.place.ensures.err,
      subst (λ (f : Face). IsHeld f c.place.new.self) (sym same) c.place.ensures.held,
    )

pub returns-clause-placed : goal.returns-clause-placed
returns-clause-placed g c =
    let face = c.self.inside.face in
    let held = c.self.inside.held in
    placed_is c.place.result face c.args.state.now.face held c.place.new.self c.args.self.now
    (record { head = c.args.head; state = c.args.state.now }) c.args.budget
    (first_face face held.pool held.nodes c.args.self.now c.self.view_is c.args.state.now.face c.self.invariant.0
    c.requires.faces) c.self.view_is c.place.ensures.placed

pub returns-clause-err : goal.returns-clause-err
returns-clause-err g c =
    let face = c.self.inside.face in
    let held = c.self.inside.held in
    err_is c.place.result face c.args.state.now.face held c.place.new.self c.args.self.now
    (record { head = c.args.head; state = c.args.state.now }) c.args.budget
    (first_face face held.pool held.nodes c.args.self.now c.self.view_is c.args.state.now.face c.self.invariant.0
    c.requires.faces) c.self.view_is c.place.ensures.err
