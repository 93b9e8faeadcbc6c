use Rattle.std.proofs.Common.{◌≡◌, ◌<◌, List, ℕ, ◌∷◌, [], ◌++◌, length, Some, subst, sym, ap, ◌∙◌}
use Rattle.fore_base.specs.Lists.{IsIn}
use Rattle.fore_base.specs.Names.{AreFound, IsNumbered}
use Rattle.fore_base.proofs.NameLemmas.{found_push, found_same, numbered_push, undone}
use Rattle.fore_base.proofs.names.Names.add.Goals as goal

pub invariant_of-self-in-Ok : goal.invariant_of-self-in-Ok
invariant_of-self-in-Ok c =
    let text = c.args.text.now in
    let texts = c.self.inside.texts in
    let absent = subst (λ (ns : List (List ℕ)). IsIn text ns → ⊥) (sym c.self.view_is) c.requires.absent in
    let room = subst (λ (ns : List (List ℕ)). length ns < 4294967295) (sym c.self.view_is) c.requires.room in
    let pushed : c.push.new.self ≡ texts ++ text ∷ [] =
    c.in_ok-push.ensures.ok ∙ ap (λ t. texts ++ t ∷ []) c.in_ok-copy.ensures in (
      subst IsNumbered (sym pushed) (numbered_push texts text c.self.invariant.0 absent room),
      subst (λ ts. AreFound (λ text. text.items) ts c.insert.new.self) (sym pushed)
          (found_push (λ text. text.items) texts c.self.inside.numbers c.insert.new.self c.self.invariant.1
          c.in_ok-key.key
          text c.len-number.result c.in_ok-key.ensures.items c.len-number.ensures c.in-Ok.ensures.updates),
    )

pub invariant_of-self-in-Err : goal.invariant_of-self-in-Err
invariant_of-self-in-Err c =
    let texts = c.self.inside.texts in
    let same : c.pop-last.new.self ≡ texts =
    undone texts c.push.new.self c.pop-last.new.self c.in_ok-copy.copy c.pop-last.result c.in_ok-push.ensures.ok
    c.pop-last.ensures in (
      subst IsNumbered (sym same) c.self.invariant.0,
      found_same (λ text. text.items) texts c.pop-last.new.self c.self.inside.numbers c.insert.new.self
          c.self.invariant.1 same c.in-Err.ensures.err,
    )
