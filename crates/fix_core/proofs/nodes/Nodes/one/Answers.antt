use Rattle.std.proofs.Common.{◌∙◌, ◌<◌, ap, length, subst, sym}
use Rattle.fa_core.specs.declared.faces.Face.{Face}
use Rattle.fix_core.specs.Held.{nodes_of, IsHeld}
use Rattle.fix_core.proofs.nodes.Nodes.one.Goals as goal

pub invariant_of-result : goal.invariant_of-result
invariant_of-result c =
    let held = c.in_ok-held.held in
    subst (λ (f : Face). (0 < length held.nodes) × IsHeld f held)
    (sym (c.in_ok-face.ensures ∙ c.face.ensures ∙ c.forest.ensures.face))
    (c.in_ok-held.ensures.some, c.in_ok-held.ensures.held_is)

pub returns : goal.returns
returns c =
    ap (λ (f : Face). nodes_of f c.in_ok-held.held) (c.in_ok-face.ensures ∙ c.face.ensures ∙ c.forest.ensures.face)
    ∙ c.in_ok-held.ensures.nodes_are
