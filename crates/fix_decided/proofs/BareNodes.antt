-- In an exploration of a graph without loop heads no node has a box edge, and the rules of each node have as many
-- children as their symbols.
use Rattle.std.proofs.Common.{◌≡◌, ◌<◌, ℕ, zero, suc, false, List, [], ◌∷◌, refl, sym, subst, arith}
use Rattle.fore_base.specs.Lists.{Every}
use Rattle.ta_core.specs.Auto.{Automaton, IsRanked}
use Rattle.c_types.specs.Runs.{empty_store}
use Rattle.c_cfg.specs.Graphs.{ControlGraph}
use Rattle.fa_core.specs.Boxes.{Boxes}
use Rattle.fa_core.specs.Boxless.{HasNoBoxes}
use Rattle.fa_core.specs.Dressed.{Nodes, node, more, no_nodes, facts}
use Rattle.fa_core.specs.Member.{TreesOf}
use Rattle.fa_core.specs.Rearranged.{Rearranged}
use Rattle.fa_core.specs.declared.boxes.BoxDef.{BoxDef}
use Rattle.fa_core.proofs.Rearranging.{back}
use Rattle.fix_core.specs.declared.nodes.Node.{Node}
use Rattle.fix_core.specs.Explorations.{IsNode, is_head, Exploration}
use Rattle.fix_core.proofs.Lists.{every_at}
use Rattle.fix_core.proofs.NoCells.{nothing}
use Rattle.fix_core.proofs.Numbered.{one_node}
use Rattle.fix_decided.specs.Bare.{IsBare, AreBare}
use Rattle.fix_decided.proofs.CommonStore.{carried}

-- without facts there is no tree
no_trees : (d : Nodes) → Rearranged (facts d) [] → d ≡ no_nodes
no_trees no_nodes r = refl
no_trees (more (node c s ds ps) ns) r =
    absurd (some (nothing [] (facts (more (node c s ds ps) ns)) (back r) refl))
  where
    some : facts (more (node c s ds ps) ns) ≡ [] → ⊥
    some h = cc

-- and so no component
no_autos : (T : List BoxDef) (autos : List Automaton) (d : Nodes) → TreesOf T autos d → d ≡ no_nodes → autos ≡ []
no_autos T [] d h e = refl
no_autos T (a ∷ autos) d h e = absurd (subst (TreesOf T (a ∷ autos)) e h)

module _ (T : Boxes) (g : ControlGraph) (k : ℕ) (nodes : List Node) (explored : Exploration T g k nodes)
    (no_heads : (location : ℕ) → is_head g location ≡ false) where
  -- the first node stands for a store without cells
  first_empty : explored.first.node.state.forest.autos ≡ []
  first_empty =
      let F = explored.first.node.state.forest in
      let m = (explored.first.members (empty_store g.ptrs g.datums)).1
      (record { vars = refl; data_vars = refl; cells = refl }) in
      no_autos T.defs F.autos m.0 m.1.of (no_trees m.0 m.1.same_facts)

  first_bare : IsBare explored.first.node.state.forest
  first_bare = record {
    plain = subst (Every HasNoBoxes) (sym first_empty) tt;
    ranked = subst (Every IsRanked) (sym first_empty) tt;
  }

  -- a case of a forest without box edges has none
  bare_below : (b j : ℕ) (n : Node) → j < b → IsNode nodes j n → IsBare n.state.forest
  bare_below zero j n l is = absurd (omega (arith, l))
  bare_below (suc b) zero n l is =
      subst (λ (z : Node). IsBare z.state.forest) (one_node nodes 0 explored.first.node n explored.first.is is)
      first_bare
  bare_below (suc b) (suc j) n l is =
      let f = explored.follow (suc j) n (omega arith) is in
      let c = carried T g k nodes explored no_heads (is_head g f.edge.to) f.parent.state.forest f.edge n
      (no_heads f.edge.to) f.follows.state.state in
      let earlier = f.earlier in
      record {
        plain = c.case_of.plain (bare_below b f.at f.parent (omega (arith, l, earlier)) f.is).plain;
        ranked = c.case_of.ranked;
      }

  pub bare_nodes : AreBare nodes
  bare_nodes = every_at (λ (n : Node). IsBare n.state.forest) nodes
      (λ j n is. bare_below (suc j) j n (omega arith) is)
