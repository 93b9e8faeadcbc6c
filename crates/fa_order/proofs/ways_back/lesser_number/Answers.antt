use Rattle.std.proofs.Common.{◌≤◌, subst, arith}
use Rattle.fa_order.specs.inner.Backs.{IsLeastIn}
use Rattle.fa_order.proofs.LeastFields.{one_least, new_least, only_least}
use Rattle.fa_order.proofs.ways_back.lesser_number.Goals as goal

pub returns-then-number-other : goal.returns-then-number-other
returns-then-number-other c = λ xs h.
    one_least xs c.in-Some.number c.args.other (subst (IsLeastIn xs) c.in-Some.is h) c.if-number-other.true

pub returns-else-number-other : goal.returns-else-number-other
returns-else-number-other c = λ xs h.
    let no = c.if-number-other.false in
    let l : c.args.other ≤ c.in-Some.number = omega (arith, no) in
    new_least xs c.in-Some.number c.args.other (subst (IsLeastIn xs) c.in-Some.is h) l

pub returns-in-None : goal.returns-in-None
returns-in-None c = λ xs h. only_least xs c.args.other (subst (IsLeastIn xs) c.in-None.is h)
