use Rattle.std.proofs.Common.{List, [], sym, subst}
use Rattle.std.proofs.lemmas.List.{append-nil, nil_from_length}
use Rattle.ta_incl.specs.declared.found.Found.{Found}
use Rattle.ta_incl.specs.inner.Founds.{AreLasting}
use Rattle.ta_incl.proofs.found.lasting.Goals as goal

pub returns : goal.returns
returns c = subst (AreLasting c.args.order.now c.args.found.now) (append-nil c.pairs.marks)
    (c.pairs.invariant []
    (subst (λ (rest : List Found). AreLasting c.args.order.now rest [])
    (sym (nil_from_length c.pairs.rest.now c.in_default.ensures.cases)) tt))
