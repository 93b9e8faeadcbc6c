use Rattle.std.proofs.Common.{◌≡◌, Some, slice_get, subst}
use Rattle.fore_base.specs.Lists.{IsIn}
use Rattle.fore_base.proofs.NameLemmas.{found, not_found}
use Rattle.fore_base.proofs.names.Names.find.Goals as goal

pub returns-in-Some : goal.returns-in-Some
returns-in-Some c =
    let at = found (λ text. text.items) c.self.inside.texts c.self.inside.numbers c.self.invariant.1
    c.in-Some.field-0-0.now c.in-Some.number.now c.args.text.now c.in-Some.ensures.same_key
    c.in-Some.ensures.value in
    subst (λ names. slice_get names c.in-Some.number.now ≡ Some c.args.text.now) c.self.view_is at

pub returns-in-None : goal.returns-in-None
returns-in-None c =
    let absent = not_found (λ text. text.items) c.self.inside.texts c.self.inside.numbers c.self.invariant.1
    c.args.text.now c.in-None.ensures.value in
    subst (λ names. IsIn c.args.text.now names → ⊥) c.self.view_is absent
