use Rattle.std.proofs.Common.{inr, sym, subst}
use Rattle.fa_core.specs.declared.faces.Face.{Face}
use Rattle.fa_opening.specs.inner.Rounds.{HasGiver, IsGiver}
use Rattle.fa_opening.proofs.opening.UnfoldGiverStep.apply.Goals as goal

pub giver-requires : goal.giver-requires
giver-requires c =
    let s = c.args.self.now in
    subst (λ (x : Face). HasGiver x.boxes s.root s.field c.args.part.now.forest) c.requires.0.face c.requires.1

pub unfold_at-requires-clause-face : goal.unfold_at-requires-clause-face
unfold_at-requires-clause-face c = c.requires.0.face

pub unfold_at-requires-clause-target : goal.unfold_at-requires-clause-target
unfold_at-requires-clause-target c = c.requires.0.target

pub unfold_at-requires-clause-edge : goal.unfold_at-requires-clause-edge
unfold_at-requires-clause-edge c =
    let s = c.args.self.now in
    let found = c.in_ok-found.found in
    inr
    (subst (λ (x : Face). IsGiver x.boxes s.root s.field c.args.part.now.forest found.0 found.1)
    (sym c.requires.0.face) c.in_ok-found.ensures)
