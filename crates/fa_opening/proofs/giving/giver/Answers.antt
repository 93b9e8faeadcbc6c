use Rattle.std.proofs.Common.{◌≡◌, ◌∙◌, ℕ, length, inl, inr, ap, subst, arith}
use Rattle.fa_core.specs.declared.forest.Forest.{Forest}
use Rattle.fa_merge.proofs.MergedAnywhere.{nat_cases}
use Rattle.fa_opening.specs.inner.Rounds.{IsGiver}
use Rattle.fa_opening.proofs.giving.giver.Goals as goal

pub loop-at-preserved : goal.loop-at-preserved
loop-at-preserved c = λ u p l h. elim (nat_cases u c.loop-at.at) [
  | inl k ↦ c.loop-at.invariant u p k h
  | inr k ↦
      let s = c.args.forest.now in
      let e : u ≡ c.loop-at.at = omega (arith, l, k) in
      (rw c.in-None.is at c.in_ok-slot.ensures) p
      (subst (λ (n : ℕ). IsGiver s.face.boxes c.args.root c.args.field s.forest n p) e h)
]

pub unreachable-requires : goal.unreachable-requires
unreachable-requires c =
    let h = c.requires in
    let n : c.in_ok-count.count ≡ length c.args.forest.now.forest.autos = c.in_ok-count.ensures.value
    ∙ ap (λ (G : Forest). length G.autos) c.forest.ensures in
    let l = h.2.root in
    let m = c.loop-at-test.false in
    c.loop-at.invariant h.0 h.1 (omega (arith, n, l, m)) h.2
