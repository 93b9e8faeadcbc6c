use Rattle.std.proofs.Common.{◌↔◌, IsTrue}
use Rattle.std.proofs.lemmas.Result.{IfOk-weaker}
use Rattle.ta_core.specs.Language.{HasSameLanguage}
use Rattle.fa_join.specs.Joinable.{SameRuns}
use Rattle.fa_join.specs.inner.Apart.{at_state}
use Rattle.fa_join.proofs.Children.{same_states}
use Rattle.fa_join.proofs.comparing.is_same_state.Goals as goal

pub returns : goal.returns
returns c =
    let a = c.args.left.now in
    let b = c.args.right.now in
    let p = c.args.from in
    let q = c.args.to in
    let d = same_states a b p q in
    IfOk-weaker c.is_same.result (λ yes. IsTrue yes ↔ HasSameLanguage (at_state a p) (at_state b q))
    (λ yes. IsTrue yes ↔ SameRuns a b p q)
    (λ yes h. ((λ t. d.0 (h.0 t)), (λ k. h.1 (d.1 k))))
    (rw (c.in_ok-left.ensures, c.in_ok-right.ensures) at c.is_same.ensures)
