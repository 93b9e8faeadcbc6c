use Rattle.std.proofs.Common.{◌≤◌, ◌+◌, length, sym, ◌∙◌, arith}
use Rattle.ta_incl.proofs.Extending.{late}
use Rattle.ta_incl.proofs.exploring.can_be_due.Goals as goal

pub returns-else-children-places-gt1 : goal.returns-else-children-places-gt1
returns-else-children-places-gt1 c = λ e.
    let m = c.if-children-places-gt1.false in
    let r = c.requires in
    let l : c.args.children ≤ length c.args.places.now + 1 = omega (arith, m, r) in
    late c.args.at c.in-Some.place c.args.places.now c.args.next c.args.children c.in-Some.is c.if-next-place.false l
    (sym c.is_place_of.ensures ∙ e)
