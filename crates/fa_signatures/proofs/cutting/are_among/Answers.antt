use Rattle.std.proofs.Common.{List, inl, inr, true≢false, refl, sym, subst, ◌∙◌}
use Rattle.fore_base.specs.Lists.{IsIn}
use Rattle.fore_base.proofs.ListLemmas.{in_at, in_push, take_item}
use Rattle.fa_core.specs.declared.signature.RefMark.{RefMark}
use Rattle.fa_signatures.proofs.cutting.are_among.Goals as goal

pub returns-then-are_same : goal.returns-then-are_same
returns-then-are_same c =
    let i = in_at c.args.all.now c.loop-other.other-index c.other-item.result c.loop-other-test.true c.other-item.is in
    let s = rw c.as_slice.ensures at c.are_same.ensures in
    (λ _. subst (λ (x : List RefMark). IsIn x c.args.all.now) (sym (s.0 c.if-are_same.true)) i, λ _. refl)

pub loop-other-preserved : goal.loop-other-preserved
loop-other-preserved c =
    let t = take_item c.args.all.now c.loop-other.other-index c.other-item.result c.loop-other-test.true c.other-item.is
    in
    let s = rw c.as_slice.ensures at c.are_same.ensures in
    rw t (λ i. elim (in_push c.other-item.result c.args.marks.now _ i) [
      | inl j ↦ c.loop-other.invariant j
      | inr e ↦ true≢false (sym (s.1 e) ∙ c.if-are_same.false)
    ])
