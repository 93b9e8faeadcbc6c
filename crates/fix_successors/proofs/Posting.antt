-- The post of an edge.
use Rattle.std.proofs.Common.{◌≡◌, ◌≤◌, length, true}
use Rattle.std.proofs.Common.{sym, ap, ◌∙◌, subst}
use Rattle.fore_base.specs.Lists.{Every}
use Rattle.fore_base.specs.declared.shape.Shapes.{Shapes}
use Rattle.fore_base.proofs.ListLemmas.{every_weaker}
use Rattle.ta_core.specs.Auto.{IsRanked}
use Rattle.fa_core.specs.Boxes.{Boxes}
use Rattle.fa_core.specs.Boxless.{HasNoBoxes}
use Rattle.fa_core.specs.Canonical.{IsCanonical}
use Rattle.fa_core.specs.Covering.{Reduced}
use Rattle.fa_core.specs.declared.faces.Face.{Face}
use Rattle.fa_join.specs.Joinable.{NoneJoinable}
use Rattle.fa_sound.specs.Soundness.{SoundForest}
use Rattle.fa_sound.specs.Unions.{forests}
use Rattle.c_cfg.specs.Graphs.{ControlGraph}
use Rattle.c_cfg.specs.Ranges.{EdgeFits, IsEdgeOf}
use Rattle.c_cfg.specs.declared.graph.Edge.{Edge}
use Rattle.sym_core.specs.Cases.{AllCases, CaseOf, IsTrueBad}
use Rattle.sym_core.specs.Kept.{Keeps}
use Rattle.sym_core.specs.Quiet.{is_quiet}
use Rattle.sym_step.specs.Posts.{bads, HasAsMany}
use Rattle.sym_step.specs.declared.posts.Bad.{Bad}
use Rattle.sym_step.specs.declared.posts.Post.{Post}
use Rattle.fix_successors.specs.Posting.{IsPost}
use Rattle.fix_successors.specs.Ready.{IsNormal}
use Rattle.fix_successors.proofs.Arriving.{raw_cases}

-- the edge fits the forest
pub edge_fits : (T : Boxes) (g : ControlGraph) (s : SoundForest) (e : Edge) → IsNormal T g s → IsEdgeOf g e
    → g.shapes ≡ T.face.shapes → EdgeFits (length s.forest.vars) (length s.forest.data_vars) s.face.shapes.structs e
edge_fits T g s e n in_range shapes =
    subst (λ z. EdgeFits z (length s.forest.data_vars) s.face.shapes.structs e) (sym n.vars.vars)
    (subst (λ z. EdgeFits g.ptrs z s.face.shapes.structs e) (sym n.vars.data_vars)
    (subst (λ (z : Shapes). EdgeFits g.ptrs g.datums z.structs e) (shapes ∙ ap (λ (z : Face). z.shapes) (sym n.face))
    in_range.fits))

-- what a step gives is the post of the edge
pub post_is : (T : Boxes) (g : ControlGraph) (s : SoundForest) (e : Edge) (p : Post) → IsNormal T g s
    → AllCases s.face T.defs s.forest e (forests p.next) (bads p.faults)
    → Every (Keeps s.face T.defs s.forest e) (forests p.next)
    → Every (CaseOf s.face T.defs s.forest e) (forests p.next)
    → Every (IsTrueBad s.face T.defs s.forest e) (bads p.faults)
    → Every (λ (x : SoundForest). IsCanonical x.face x.forest) p.next
    → Every (λ (x : SoundForest). Reduced x.forest) p.next
    → Every (λ (x : SoundForest). x.face ≡ s.face) p.next
    → Every (λ (x : SoundForest). HasAsMany s.forest x.forest) p.next
    → Every (λ (x : SoundForest). Every IsRanked x.forest.autos) p.next
    → (Every HasNoBoxes s.forest.autos → Every (λ (x : SoundForest). Every HasNoBoxes x.forest.autos) p.next)
    → NoneJoinable s.face.boxes (forests p.next)
    → (is_quiet e.instr ≡ true → length p.next ≤ 1)
    → Every (λ (b : Bad). b.at.face ≡ s.face) p.faults
    → IsPost T g s.forest e p
post_is T g s e p n all keeps true_cases true_bads canonical reduced faces many ranked plains apart quiet
    bad_faces = record {
      all = subst (λ z. AllCases z T.defs s.forest e (forests p.next) (bads p.faults)) n.face all;
      nexts = record {
        each =
            raw_cases T g 0 s.forest e s.face p.next n.face n.vars canonical reduced faces many ranked plains true_cases
            keeps;
        apart = subst (λ (z : Face). NoneJoinable z.boxes (forests p.next)) n.face apart;
        quiet = quiet;
      };
      true_bads = subst (λ z. Every (IsTrueBad z T.defs s.forest e) (bads p.faults)) n.face true_bads;
      faces = every_weaker (λ (b : Bad). b.at.face ≡ s.face) (λ (b : Bad). b.at.face ≡ T.face) p.faults
          (λ b h. h ∙ n.face) bad_faces;
    }
