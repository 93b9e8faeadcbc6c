use Rattle.std.proofs.Common.{true≢false, refl, sym, ◌∙◌}
use Rattle.std.proofs.lemmas.Option.{slice_get_read}
use Rattle.ta_incl.proofs.Deriving.{none_due, not_due}
use Rattle.ta_incl.proofs.exploring.may_serve.Goals as goal

pub returns-in-Some-get : goal.returns-in-Some-get
returns-in-Some-get c = λ e.
    let l = c.in-Some-get.ensures.lookup in
    let at = slice_get_read c.args.found.now _ c.in-Some.at c.in-Some-get.pair.now refl l.3.0 l.1 in
    not_due c.args.found.now c.args.rule.now.children c.args.turn.now.at c.in-Some.at c.in-Some.is
    c.in-Some-get.pair.now at (λ i. true≢false (sym (c.is_one_of.ensures.1 (rw c.as_slice.ensures i)) ∙ e))

pub returns-in-None-get : goal.returns-in-None-get
returns-in-None-get c = λ _. none_due c.args.found.now c.args.rule.now.children c.args.turn.now.at c.in-Some.at
    c.in-Some.is c.in-None-get.ensures.lookup.3
