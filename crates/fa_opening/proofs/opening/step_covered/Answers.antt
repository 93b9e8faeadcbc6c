use Rattle.std.proofs.Common.{inl, refl, sym, subst, slice_get}
use Rattle.fa_core.specs.declared.faces.Face.{Face}
use Rattle.fa_unfold.specs.UnfoldingOf.{root_slots}
use Rattle.fa_opening.specs.Opened.{IsBared}
use Rattle.fa_opening.specs.inner.Rounds.{IsCoverAt}
use Rattle.fa_opening.proofs.Rounds.{covered_not_bared, stepped}
use Rattle.fa_opening.proofs.Steps.{root_there}
use Rattle.fa_opening.proofs.opening.step_covered.Goals as goal

pub unfold_at-requires-clause-face : goal.unfold_at-requires-clause-face
unfold_at-requires-clause-face c = c.requires.ready.at.face

pub unfold_at-requires-clause-target : goal.unfold_at-requires-clause-target
unfold_at-requires-clause-target c = c.requires.ready.at.target

pub unfold_at-requires-clause-edge : goal.unfold_at-requires-clause-edge
unfold_at-requires-clause-edge c =
    let s = c.args.forest.now in
    inl
    (record {
      root = root_there s c.args.root c.known.ensures c.requires.ready.at.target;
      same = refl;
      top = c.requires.ready.top;
      covers = subst
          (λ (x : Face). IsCoverAt x.boxes c.args.field (slice_get (root_slots s.forest c.args.root) c.args.slot))
          (sym c.requires.ready.at.face) c.requires.covers;
    })

pub returns-clause-each : goal.returns-clause-each
returns-clause-each c =
    let s = c.args.forest.now in
    stepped c.args.table.now c.args.root c.args.field s.forest
    (λ b. covered_not_bared s.face.boxes c.args.root c.args.field s.forest c.args.slot c.requires.covers
    (subst (λ (x : Face). IsBared x.boxes c.args.root c.args.field s.forest) c.requires.ready.at.face b))
    c.in_ok-made.made c.in_ok-made.ensures.each
