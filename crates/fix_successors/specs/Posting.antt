-- What an edge makes of a forest.
use Rattle.std.specs.Prelude.{◌≡◌}
use Rattle.fore_base.specs.Lists.{Every}
use Rattle.fa_core.specs.Boxes.{Boxes}
use Rattle.fa_core.specs.declared.forest.Forest.{Forest}
use Rattle.fa_sound.specs.Unions.{forests}
use Rattle.c_cfg.specs.Graphs.{ControlGraph}
use Rattle.c_cfg.specs.declared.graph.Edge.{Edge}
use Rattle.sym_core.specs.Cases.{AllCases, IsTrueBad}
use Rattle.sym_step.specs.Posts.{bads}
use Rattle.sym_step.specs.declared.posts.Bad.{Bad}
use Rattle.sym_step.specs.declared.posts.Post.{Post}
use Rattle.fix_successors.specs.Arriving.{AreCases}

module _ (T : Boxes) (g : ControlGraph) where
  -- what the edge makes of F
  pub record IsPost (F : Forest) (e : Edge) (p : Post) : Type 0 where
    pub all : AllCases T.face T.defs F e (forests p.next) (bads p.faults)
    pub nexts : AreCases T g F e p.next
    pub true_bads : Every (IsTrueBad T.face T.defs F e) (bads p.faults)
    pub faces : Every (λ (b : Bad). b.at.face ≡ T.face) p.faults
