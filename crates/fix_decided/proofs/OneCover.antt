-- Of two nodes that were reached by the same edges each covers the other.
use Rattle.std.proofs.Common.{◌≡◌, ℕ, false, List, subst}
use Rattle.fore_base.specs.Heap.{IsAlike}
use Rattle.fore_base.specs.declared.store.Store.{Store}
use Rattle.c_cfg.specs.Edges.{Pass, Passed}
use Rattle.c_cfg.specs.Graphs.{ControlGraph}
use Rattle.c_cfg.specs.declared.graph.Edge.{Edge}
use Rattle.fa_core.specs.Boxes.{Boxes, IsBoxTable}
use Rattle.fa_core.specs.Canonical.{IsCanonical}
use Rattle.fa_core.specs.Covering.{Covers}
use Rattle.fa_core.specs.Filled.{IsSound}
use Rattle.fa_core.specs.declared.forest.Forest.{Forest}
use Rattle.fa_core.proofs.Renamed.{alike_member}
use Rattle.fa_back.proofs.Dressable.{some_choice}
use Rattle.fa_unique.proofs.ChoiceMembers.{choice_member}
use Rattle.fa_unique.proofs.MembersCover.{members_cover}
use Rattle.fix_core.specs.declared.nodes.Node.{Node}
use Rattle.fix_core.specs.Explorations.{IsNode, is_head, Exploration}
use Rattle.fix_core.specs.Follows.{IsMember}
use Rattle.fix_core.proofs.Numbered.{one_node}
use Rattle.fix_decided.specs.Bare.{IsBare}
use Rattle.fix_decided.proofs.AlikeBack.{alike_back}
use Rattle.fix_decided.proofs.CommonStore.{comes}
use Rattle.fix_decided.proofs.Trails.{IsTrail, begins, goes}

module _ (T : Boxes) (table : IsBoxTable T) where
  -- a bare and sound forest has a member
  some_member : (F : Forest) → IsSound T.face F → IsBare F → (s : Store) × IsMember T F s
  some_member F sound bare =
      let c = some_choice F.autos sound.full in
      let m = choice_member T.face T.defs table F sound.well_formed.filled bare.plain bare.ranked c.0 c.1 in
      (m.0, (m.1, m.3))

  module _ (g : ControlGraph) (k : ℕ) (nodes : List Node) (explored : Exploration T g k nodes)
      (no_heads : (location : ℕ) → is_head g location ≡ false) where
    -- what holds of the forest of each node
    pub record IsKept (F : Forest) : Type 0 where
      pub sound : IsSound T.face F
      pub canonical : IsCanonical T.face F

    kept : (j : ℕ) (es : List Edge) (n : Node) → IsTrail T g k nodes j es → IsNode nodes j n → IsKept n.state.forest
    kept j es n begins is =
        subst (λ (z : Node). IsKept z.state.forest) (one_node nodes 0 explored.first.node n explored.first.is is)
        (record { sound = explored.first.sound; canonical = explored.first.canonical })
    kept j es n (goes m before more f m_is t is_more) is =
        subst (λ (z : Node). IsKept z.state.forest) (one_node nodes j m n m_is is)
        (record { sound = f.follows.state.sound; canonical = f.follows.state.canonical })

    same_store : (s t : Store) (p : Pass) → p ≡ Passed s → p ≡ Passed t → s ≡ t
    same_store s t p h i = cc

    pub trail_covers : (i j : ℕ) (es : List Edge) (m n : Node) → IsTrail T g k nodes i es → IsTrail T g k nodes j es
        → IsNode nodes i m → IsNode nodes j n → IsBare m.state.forest → IsBare n.state.forest
        → Covers m.state.forest n.state.forest
    trail_covers i j es m n a b m_is n_is m_bare n_bare =
        let mk = kept i es m a m_is in
        let nk = kept j es n b n_is in
        let s = some_member m.state.forest mk.sound m_bare in
        let c = comes T g k nodes explored no_heads i es m a m_is s.0 s.1 in
        let common : IsMember T m.state.forest c.store =
        alike_member T.face.shapes.structs T.defs m.state.forest s.0 c.store s.1
        (alike_back c.store s.0 c.proper c.alike) c.proper in
        (members_cover T.face T.defs m.state.forest n.state.forest table
        (record { canonical = mk.canonical; plain = m_bare.plain })
        (record { canonical = nk.canonical; plain = n_bare.plain }) nk.sound.full n_bare.ranked).1
        (λ t h.
        let d = comes T g k nodes explored no_heads j es n b n_is t h in
        alike_member T.face.shapes.structs T.defs m.state.forest c.store t common
        (subst (λ (z : Store). IsAlike z t) (same_store d.store c.store _ d.is c.is) d.alike) h.1.proper)
