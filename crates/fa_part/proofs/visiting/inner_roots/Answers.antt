use Rattle.std.proofs.Common.{◌≡◌, ◌∙◌, ◌+◌, ◌++◌, ℕ, List, arith, ap, ap₂, drop, length, subst, sym}
use Rattle.std.proofs.lemmas.List.{length-append}
use Rattle.std.proofs.lemmas.Result.{IfOk-weaker}
use Rattle.fa_part.specs.inner.Found.{IsPartOrder}
use Rattle.fa_part.proofs.Ordering.{behind_front, ports_first}
use Rattle.fa_part.proofs.visiting.inner_roots.Goals as goal

pub rest_of-requires : goal.rest_of-requires
rest_of-requires c =
    let ports = c.args.ports.now in
    let m = ports_first c.args.forest.now.face c.args.forest.now.forest c.known.ensures.sound ports c.args.from.now
    c.in_ok-order.order c.in_ok-order.ensures in
    let size : length c.as_slice.result.now ≡ length ports + length m.0 =
    ap length (c.as_slice.ensures ∙ m.1) ∙ length-append ports m.0 in
    let e = c.len.ensures in
    omega (arith, size, e)

pub returns : goal.returns
returns c =
    let F = c.args.forest.now.forest in
    let ports = c.args.ports.now in
    let from = c.args.from.now in
    let m = ports_first c.args.forest.now.face F c.known.ensures.sound ports from c.in_ok-order.order
    c.in_ok-order.ensures in
    let rest : drop c.len.result c.as_slice.result.now ≡ m.0 =
    ap₂ (λ (n : ℕ) (l : List ℕ). drop n l) c.len.ensures (c.as_slice.ensures ∙ m.1) ∙ behind_front ports m.0 in
    IfOk-weaker c.rest_of.result (λ (made : List ℕ). made ≡ drop c.len.result c.as_slice.result.now)
    (λ inner. IsPartOrder F ports from (ports ++ inner))
    (λ made e. subst (λ (order : List ℕ). IsPartOrder F ports from order)
    (m.1 ∙ ap (λ (l : List ℕ). ports ++ l) (sym (e ∙ rest))) c.in_ok-order.ensures)
    c.rest_of.ensures
