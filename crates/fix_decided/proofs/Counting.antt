-- As many different prefixes as nodes.
use Rattle.std.proofs.Common.{◌≡◌, ◌<◌, ◌≤◌, ℕ, zero, suc, false, true, not, List, [], ◌∷◌, length, inl, inr, refl}
use Rattle.std.proofs.Common.{sym, ap, ◌∙◌, subst, arith, Bool, slice_index_or}
use Rattle.std.specs.List.{list_all}
use Rattle.fore_base.specs.Lists.{IsIn, IsDistinct, Every}
use Rattle.c_cfg.specs.Graphs.{ControlGraph}
use Rattle.c_cfg.specs.declared.graph.Edge.{Edge}
use Rattle.c_prefixes.specs.Prefixes.{IsPrefix, AtMost}
use Rattle.fa_core.specs.Boxes.{Boxes, IsBoxTable}
use Rattle.fix_core.specs.declared.nodes.Node.{Node}
use Rattle.fix_core.specs.Explorations.{IsNode, is_head, Exploration}
use Rattle.fix_core.proofs.Lists.{at_within, in_at, every_in}
use Rattle.fix_decided.specs.Bare.{IsBare, AreBare}
use Rattle.fix_decided.proofs.OneCover.{trail_covers}
use Rattle.fix_decided.proofs.Trails.{IsTrail, trail_to, trail_ends, trail_prefix}

-- where no location is a loop head, none is
pub no_heads : (heads : List Bool) (location : ℕ) → list_all not heads ≡ true → slice_index_or heads location false
    ≡ false
no_heads [] location h = refl
no_heads (true ∷ bs) location h = cc
no_heads (false ∷ bs) zero h = refl
no_heads (false ∷ bs) (suc location) h = no_heads bs location h

module _ (T : Boxes) (table : IsBoxTable T) (g : ControlGraph) (k : ℕ) (nodes : List Node)
    (explored : Exploration T g k nodes) (no_heads : (location : ℕ) → is_head g location ≡ false)
    (bare : AreBare nodes) where
  bare_at : (j : ℕ) (n : Node) → IsNode nodes j n → IsBare n.state.forest
  bare_at j n is = every_in (λ (z : Node). IsBare z.state.forest) nodes n bare (in_at nodes j n is)

  -- no two nodes have one trail
  one_trail : (i j : ℕ) (es : List Edge) → i < j → j < length nodes → IsTrail T g k nodes i es
      → IsTrail T g k nodes j es → ⊥
  one_trail i j es less within a b =
      let m = at_within nodes i (omega (arith, less, within)) in
      let n = at_within nodes j within in
      explored.fresh i j m.0 n.0 less m.1 n.1
      (trail_ends T g k nodes explored i es m.0 a m.1 ∙ sym (trail_ends T g k nodes explored j es n.0 b n.1))
      (trail_covers T table g k nodes explored no_heads i j es m.0 n.0 a b m.1 n.1 (bare_at i m.0 m.1)
      (bare_at j n.0 n.1))

  -- the edges by which some node below n was reached
  pub record IsTrailBelow (n : ℕ) (es : List Edge) : Type 0 where
    pub at : ℕ
    pub below : at < n
    pub trail : IsTrail T g k nodes at es

  -- different prefixes, one for each of the first n nodes
  pub record AreTrails (n : ℕ) (ps : List (List Edge)) : Type 0 where
    pub many : length ps ≡ n
    pub distinct : IsDistinct ps
    pub prefixes : Every (IsPrefix g) ps
    pub each : (es : List Edge) → IsIn es ps → IsTrailBelow n es

  trails : (n : ℕ) → n ≤ length nodes → (ps : List (List Edge)) × AreTrails n ps
  trails zero h = ([], record { many = refl; distinct = tt; prefixes = tt; each = λ es i. absurd i })
  trails (suc n) h =
      let r = trails n (omega (arith, h)) in
      let t = trail_to T g k nodes explored n h in
      let far : IsIn t.0 r.0 → ⊥ =
      λ i. let e = r.1.each t.0 i in one_trail e.at n t.0 e.below h e.trail t.1 in
      let each : (es : List Edge) → IsIn es (t.0 ∷ r.0) → IsTrailBelow (suc n) es =
      λ es i. elim i [
        | inl e ↦ record { at = n; below = omega arith; trail = subst (IsTrail T g k nodes n) (sym e) t.1 }
        | inr l ↦ let b = r.1.each es l in let less = b.below in
            record { at = b.at; below = omega (arith, less); trail = b.trail }
      ] in (
        t.0 ∷ r.0,
        record {
          many = ap suc r.1.many;
          distinct = (far, r.1.distinct);
          prefixes = (trail_prefix T g k nodes explored n t.0 t.1, r.1.prefixes);
          each = each;
        },
      )

  pub at_most_prefixes : (b : ℕ) → AtMost b g → length nodes ≤ b
  at_most_prefixes b most =
      let r = trails (length nodes) (omega arith) in
      subst (λ (z : ℕ). z ≤ b) r.1.many (most r.0 r.1.distinct r.1.prefixes)
