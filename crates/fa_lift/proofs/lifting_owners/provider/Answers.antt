use Rattle.std.proofs.Common.{◌≡◌, ◌∙◌, ℕ, length, inl, inr, ap, sym, subst, true≢false, arith}
use Rattle.fa_core.specs.declared.forest.Forest.{Forest}
use Rattle.fa_merge.proofs.MergedAnywhere.{nat_cases}
use Rattle.fa_lift.specs.Lift.{IsProvider}
use Rattle.fa_lift.proofs.lifting_owners.provider.Goals as goal

pub loop-from-preserved : goal.loop-from-preserved
loop-from-preserved c = λ t l h. elim (nat_cases t c.loop-from.from) [
  | inl k ↦ c.loop-from.invariant t k h
  | inr k ↦
      let s = c.args.forest.now in
      let e : t ≡ c.loop-from.from = omega (arith, l, k) in
      let g = subst (λ (n : ℕ). IsProvider s.face.boxes s.forest c.args.root c.args.field n) e h in
      true≢false (sym (c.provides.ensures.1 g.provides) ∙ c.if-provides.false)
]

pub returns : goal.returns
returns c = λ t h.
    let n : c.in_ok-count.count ≡ length c.args.forest.now.forest.autos = c.in_ok-count.ensures.value
    ∙ ap (λ (G : Forest). length G.autos) c.forest.ensures in
    let l = h.there in
    let m = c.loop-from-test.false in
    c.loop-from.invariant t (omega (arith, n, l, m)) h
