-- The states of an exploration of a program's control graph, and what a trace ends with, can be printed with the
-- program.
use Rattle.std.proofs.Common.{◌≡◌, ℕ, zero, suc, List, Some, length, sym, ap, subst, ◌∙◌, arith}
use Rattle.std.proofs.lemmas.List.{length-map}
use Rattle.std.proofs.lemmas.Option.{none-some, same_Some}
use Rattle.fore_base.specs.declared.store.Store.{Store}
use Rattle.c_types.specs.Program.{Program}
use Rattle.c_types.specs.declared.mode.MallocMode.{MallocMode}
use Rattle.c_cfg.specs.Graphs.{ControlGraph}
use Rattle.c_cfg.specs.Lowering.{LowerOf}
use Rattle.fa_core.specs.Boxes.{Boxes}
use Rattle.fa_core.specs.Dressed.{roots_of, value_in}
use Rattle.fa_core.specs.declared.forest.Forest.{Forest}
use Rattle.fa_print.specs.Conditions.{IsForestOf}
use Rattle.fix_core.specs.Explorations.{AbstractTrace, Exploration, IsNode}
use Rattle.fix_core.specs.Follows.{HasItsVars, IsMember}
use Rattle.fix_core.specs.declared.explored.AbsTrace.{AbsTrace}
use Rattle.fix_core.specs.declared.nodes.Node.{Node}
use Rattle.fore_explored.specs.inner.States.{HasTemporaries, IsStateOf}

module _ (T : Boxes) (g : ControlGraph) (p : Program) (mode : MallocMode) (low : LowerOf p mode g)
    (shapes : g.shapes ≡ T.face.shapes) where
  temporaries : (F : Forest) → HasItsVars g F → HasTemporaries p F
  temporaries F h = (h.vars ∙ low.ptrs, h.data_vars ∙ low.datums)

  pub states_of : (k : ℕ) (nodes : List Node) → Exploration T g k nodes → (j : ℕ) (n : Node) → IsNode nodes j n
      → IsStateOf T p n.state
  states_of k nodes x zero n is =
      let f = x.first in
      subst (λ (m : Node). IsStateOf T p m.state) (same_Some f.node n (sym f.is ∙ is)) (record {
        face = f.face;
        structs = sym shapes ∙ low.shapes;
        forest = temporaries f.node.state.forest f.vars;
        middle = λ M e. absurd (none-some M (sym f.no_middle ∙ e));
      })
  states_of k nodes x (suc j) n is =
      let f = x.follow (suc j) n (omega arith) is in
      let a = f.follows.state in
      record {
        face = a.face;
        structs = sym shapes ∙ low.shapes;
        forest = temporaries n.state.forest a.vars;
        middle = λ M e. temporaries M (a.middle_vars M e);
      }

  -- forests with a common member have as many variables
  as_many : (F G : Forest) (s : Store) → IsMember T F s → IsMember T G s → HasTemporaries p F → HasTemporaries p G
  as_many F G s m n has = (
    sym (length-map G.vars (value_in (roots_of n.0))) ∙ ap length (sym n.1.vars ∙ m.1.vars)
        ∙ length-map F.vars (value_in (roots_of m.0)) ∙ has.0,
    ap length (sym n.1.data_vars ∙ m.1.data_vars) ∙ has.1,
  )

  pub last_of : (k : ℕ) (nodes : List Node) → Exploration T g k nodes → (tr : AbsTrace) → AbstractTrace T g nodes tr
      → (s : Store) → IsMember T tr.last.forest s → IsForestOf T p tr.last
  last_of k nodes x tr a s m = record {
    face = a.face;
    structs = sym shapes ∙ low.shapes;
    vars = as_many a.node.state.forest tr.last.forest s (a.members s m).0 m
        (states_of k nodes x a.at a.node a.is).forest;
  }
