use Rattle.std.proofs.Common.{List, subst}
use Rattle.fore_base.specs.Lists.{Every}
use Rattle.fore_base.proofs.ListLemmas.{in_every}
use Rattle.fa_sound.specs.Soundness.{SoundForest}
use Rattle.sym_step.specs.inner.Topping.{IsToppedAt}
use Rattle.sym_step.proofs.ToppedRoots.{some_self}
use Rattle.sym_step.proofs.topping.top_all.Goals as goal

pub returns-then-are_topped-clause-each : goal.returns-then-are_topped-clause-each
returns-then-are_topped-clause-each c =
    let P : SoundForest → Type 0 = λ S. IsToppedAt c.args.root S S in
    some_self c.args.root c.args.parts
    (subst (λ (xs : List SoundForest). Every P xs) c.as_slice.ensures (c.are_topped.ensures c.if-are_topped.true))

pub on_each-requires : goal.on_each-requires
on_each-requires c = in_every (λ (S : SoundForest). Unit {0}) c.as_slice-2.result.now (λ S i. tt)
