-- The edges of each location.
use Rattle.std.proofs.Common.{◌≡◌, ◌⊎◌, ℕ, suc, zero, ◌+◌, ◌<◌, List, [], ◌∷◌, ◌++◌, slice_get, slice_set}
use Rattle.std.proofs.Common.{Some, refl, sym, ap, ◌∙◌, subst, arith, inl, inr}
use Rattle.fore_base.specs.Lists.{Every}
use Rattle.c_cfg.specs.Graphs.{ControlGraph}
use Rattle.c_cfg.specs.declared.graph.Edge.{Edge}
use Rattle.fix_successors.specs.Exits.{Rises, IsFrom, AreNumbers, AreExits}
use Rattle.fix_core.specs.Listed.{numbers_at}
use Rattle.fix_core.proofs.Covering.{at_or_other, set_length}
use Rattle.fix_core.proofs.Lists.{some_same, in_left, in_right, in_push, every_of, every_both}

pub rises_push : (xs : List ℕ) (d : ℕ) → Rises xs → Every (λ c. c < d) xs → Rises (xs ++ d ∷ [])
rises_push [] d r b = (tt, tt)
rises_push (x ∷ xs) d r b = (every_both (λ c. x < c) xs (d ∷ []) r.0 (b.0, tt), rises_push xs d r.1 b.1)

below_next : (c i : ℕ) → c < i + 1 → (c < i) ⊎ (c ≡ i)
below_next zero zero h = inr refl
below_next zero (suc b) h = inl (omega arith)
below_next (suc j) zero h = absurd (omega (arith, h))
below_next (suc j) (suc b) h =
    elim (below_next j b (omega (arith, h))) [ inl l ↦ inl (omega (arith, l)) | inr e ↦ inr (ap suc e) ]

module _ (edges : List Edge) where
  from_next : (i location c : ℕ) → IsFrom edges i location c → IsFrom edges (i + 1) location c
  from_next i location c h = (omega (arith, h.0), h.1)

  -- an edge of another location
  numbers_other : (i location : ℕ) (e : Edge) (cs : List ℕ) → slice_get edges i ≡ Some e → (location ≡ e.from → ⊥)
      → AreNumbers edges i location cs → AreNumbers edges (i + 1) location cs
  numbers_other i location e cs is other b = record {
    rises = b.rises;
    each = λ c h. from_next i location c (b.each c h);
    all = λ c f less ie fr. elim (below_next c i less) [
      | inl l ↦ b.all c f l ie fr
      | inr s ↦ absurd
          (other (sym fr ∙ ap (λ z. z.from) (some_same f e (sym (subst (λ z. slice_get edges z ≡ Some f) s ie) ∙ is))))
    ];
  }

  -- an edge of the location
  numbers_here : (i location : ℕ) (e : Edge) (cs : List ℕ) → slice_get edges i ≡ Some e → location ≡ e.from
      → AreNumbers edges i location cs → AreNumbers edges (i + 1) location (cs ++ i ∷ [])
  numbers_here i location e cs is here b = record {
    rises = rises_push cs i b.rises (every_of (λ c. c < i) cs (λ c h. (b.each c h).0));
    each = λ c h. elim (in_push cs i c h) [
      | inl old ↦ from_next i location c (b.each c old)
      | inr s ↦ (omega (arith, s), (e, subst (λ z. slice_get edges z ≡ Some e) (sym s) is, sym here))
    ];
    all = λ c f less ie fr. elim (below_next c i less) [
      | inl l ↦ in_left cs (i ∷ []) c (b.all c f l ie fr)
      | inr s ↦ in_right cs (i ∷ []) c (inl s)
    ];
  }

-- one edge more
pub exits_next : (g : ControlGraph) (i : ℕ) (e : Edge) (exits : List (List ℕ)) → slice_get g.edges i ≡ Some e
    → e.from < g.locations → AreExits g i exits
    → AreExits g (i + 1) (slice_set exits e.from (numbers_at exits e.from ++ i ∷ []))
exits_next g i e exits is from x = record {
  count = set_length exits e.from (numbers_at exits e.from ++ i ∷ []) ∙ x.count;
  each = λ location. at_or_other (AreNumbers g.edges (i + 1) location) exits e.from location
      (numbers_at exits e.from ++ i ∷ []) (omega (arith, from, x.count))
      (λ same. numbers_here g.edges i location e (numbers_at exits e.from) is same
      (subst (AreNumbers g.edges i location) (ap (numbers_at exits) same) (x.each location)))
      (λ other. numbers_other g.edges i location e (numbers_at exits location) is other (x.each location));
}
