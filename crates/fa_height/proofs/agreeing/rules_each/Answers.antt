use Rattle.std.proofs.Common.{[], ◌∷◌, arith}
use Rattle.std.proofs.lemmas.List.{length-append}
use Rattle.fa_height.proofs.Agreements.{each_add}
use Rattle.fa_height.proofs.agreeing.rules_each.Goals as goal

pub loop-state-preserved : goal.loop-state-preserved
loop-state-preserved c =
    let v = c.loop-state.invariant in
    rw c.in_ok-push.ensures.ok (
      (let e = length-append c.loop-state.made (c.in_ok-own.own ∷ []) in let n = v.0 in omega (arith, e, n)),
      each_add c.args.rules.now c.loop-state.state c.loop-state.made c.in_ok-own.own v.0 v.1 c.in_ok-own.ensures,
    )

pub returns : goal.returns
returns c = λ q l. c.loop-state.invariant.1 q (let n = c.loop-state-test.false in omega (arith, l, n))
