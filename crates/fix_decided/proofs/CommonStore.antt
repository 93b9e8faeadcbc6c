-- All members of the nodes that were reached by the same edges are alike to one store, that of the run on these edges.
use Rattle.std.proofs.Common.{◌≡◌, ℕ, Bool, true, false, List, [], ◌∷◌, ◌++◌, refl, sym, ap, ◌∙◌, subst}
use Rattle.fore_base.specs.Heap.{IsAlike, IsProper}
use Rattle.fore_base.specs.declared.store.Store.{Store}
use Rattle.c_types.specs.Runs.{empty_store}
use Rattle.c_cfg.specs.Alike.{LikePass}
use Rattle.c_cfg.specs.Edges.{Pass, Passed, Faulted, Halted, NotPassed}
use Rattle.c_cfg.specs.Graphs.{ControlGraph}
use Rattle.c_cfg.specs.declared.graph.Edge.{Edge}
use Rattle.c_cfg.proofs.AlikeStores.{alike_chain, unset_alike}
use Rattle.c_cfg.proofs.LikeSteps.{steps_alike}
use Rattle.c_cfg.proofs.Properly.{steps_proper, empty_proper}
use Rattle.sym_core.specs.Cases.{ComesFrom}
use Rattle.fa_core.specs.Boxes.{Boxes}
use Rattle.fa_core.specs.declared.forest.Forest.{Forest}
use Rattle.fix_core.specs.declared.nodes.Node.{Node}
use Rattle.fix_core.specs.Explorations.{IsNode, is_head, Exploration}
use Rattle.fix_core.specs.Follows.{IsMember, passed_by, IsStateAt, IsCarried}
use Rattle.fix_core.proofs.Numbered.{one_node}
use Rattle.fix_decided.proofs.AlikeBack.{alike_back}
use Rattle.fix_decided.proofs.Trails.{IsTrail, begins, goes}

like_passed : (p : Pass) (u : Store) → LikePass p (Passed u) → (v : Store) × (p ≡ Passed v) × IsAlike v u
like_passed (Passed s) u like = (s, refl, like)
like_passed (Faulted k) u like = absurd like
like_passed Halted u like = absurd like
like_passed NotPassed u like = absurd like

module _ (T : Boxes) (g : ControlGraph) (k : ℕ) (nodes : List Node) (explored : Exploration T g k nodes)
    (no_heads : (location : ℕ) → is_head g location ≡ false) where
  -- one edge more
  abbrev step_on : Pass → Edge → Pass
  step_on (Passed s) e = passed_by T e s
  step_on (Faulted f) e = Faulted f
  step_on Halted e = Halted
  step_on NotPassed e = NotPassed

  -- the run on the edges from where an edge led
  abbrev run_on : Pass → List Edge → Pass
  run_on p [] = p
  run_on p (e ∷ es) = run_on (step_on p e) es

  -- from the store with which a run begins
  abbrev run_by : List Edge → Pass
  run_by es = run_on (Passed (empty_store g.ptrs g.datums)) es

  run_push : (p : Pass) (es : List Edge) (e : Edge) (s : Store) → run_on p es ≡ Passed s
      → run_on p (es ++ e ∷ []) ≡ passed_by T e s
  run_push p [] e s h = ap (λ (z : Pass). step_on z e) h
  run_push p (d ∷ es) e s h = run_push (step_on p d) es e s h

  run_more : (es before : List Edge) (e : Edge) (s t : Store) → es ≡ before ++ e ∷ [] → run_by before ≡ Passed s
      → passed_by T e s ≡ Passed t → run_by es ≡ Passed t
  run_more es before e s t is b h =
      subst (λ (xs : List Edge). run_by xs ≡ Passed t) (sym is)
      (run_push (Passed (empty_store g.ptrs g.datums)) before e s b ∙ h)

  -- the run on the edges comes to a store to which t is alike
  pub record Comes (es : List Edge) (t : Store) : Type 0 where
    pub store : Store
    pub is : run_by es ≡ Passed store
    pub proper : IsProper store
    pub alike : IsAlike store t

  -- where there are no loop heads the members of a node come by its edge
  pub carried : (b : Bool) (F : Forest) (e : Edge) (n : Node) → b ≡ false → IsStateAt T b k F e n.state
      → IsCarried T F e n.state
  carried true F e n h st = absurd (differ h)
    where
      differ : true ≡ false → ⊥
      differ h = cc
  carried false F e n h st = st

  pub comes : (j : ℕ) (es : List Edge) (n : Node) → IsTrail T g k nodes j es → IsNode nodes j n → (t : Store)
      → IsMember T n.state.forest t → Comes es t
  comes j es n begins is t m =
      let same = one_node nodes 0 n explored.first.node is explored.first.is in
      let unset = (explored.first.members t).0 (subst (λ (z : Node). IsMember T z.state.forest t) same m) in
      record {
        store = empty_store g.ptrs g.datums;
        is = refl;
        proper = empty_proper g.ptrs g.datums;
        alike = alike_back t (empty_store g.ptrs g.datums) m.1.proper (unset_alike g.ptrs g.datums t unset);
      }
  comes j es n (goes o before more f o_is trail is_more) is t m =
      let c = carried (is_head g f.edge.to) f.parent.state.forest f.edge o (no_heads f.edge.to) f.follows.state.state in
      let w : ComesFrom T.face T.defs f.parent.state.forest f.edge t =
      c.case_of.true_case t (subst (λ (z : Node). IsMember T z.state.forest t) (one_node nodes j n o is o_is) m) in
      let b = comes f.at before f.parent trail f.is w.was w.stands in
      let like : LikePass (passed_by T f.edge b.store) (passed_by T f.edge w.was) =
      steps_alike T.face.shapes.structs f.edge b.store w.was b.proper w.stands.1.proper b.alike in
      let v = like_passed (passed_by T f.edge b.store) w.goes_to
      (subst (λ (z : Pass). LikePass (passed_by T f.edge b.store) z) w.goes like) in
      record {
        store = v.0;
        is = run_more es before f.edge b.store v.0 is_more b.is v.1;
        proper = steps_proper T.face.shapes.structs f.edge b.store v.0 b.proper v.1;
        alike = alike_chain v.0 w.goes_to t v.2 w.alike;
      }
