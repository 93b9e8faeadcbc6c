use Rattle.std.proofs.Common.{◌≡◌, true, false, cond, ◌++◌, ◌∷◌, [], arith, sym, ap, ◌∙◌, length-append}
use Rattle.c_typing.specs.Texts.{has}
use Rattle.c_defined.proofs.DirectoryLemmas.{look_up_new, look_up_there}
use Rattle.c_names.proofs.NameLemmas.{not_true, not_false}
use Rattle.c_defined.proofs.structs.put.Goals as goal

pub returns-then-branch-clause-even : goal.returns-then-branch-clause-even
returns-then-branch-clause-even c =
    let names = c.args.names.now in
    let no : has c.args.name.now names ≡ false = not_true _ (sym c.if-branch.true ∙ c.in_ok-add.ensures.new) in
    let is : c.add.new.names ≡ names ++ c.args.name.now ∷ [] = c.in_ok-add.ensures.names
    ∙ ap (λ b. cond b names (names ++ c.args.name.now ∷ [])) no in
    rw (is, c.in_ok-push.ensures.ok) (simp length-append (omega (arith, c.requires)))

pub returns-then-branch-clause-ok : goal.returns-then-branch-clause-ok
returns-then-branch-clause-ok c =
    let names = c.args.names.now in
    let no : has c.args.name.now names ≡ false = not_true _ (sym c.if-branch.true ∙ c.in_ok-add.ensures.new) in
    let is : c.add.new.names ≡ names ++ c.args.name.now ∷ [] = c.in_ok-add.ensures.names
    ∙ ap (λ b. cond b names (names ++ c.args.name.now ∷ [])) no in
    λ x. rw (is, c.in_ok-push.ensures.ok) (look_up_new x c.args.name.now names c.args.uses.now c.args.place c.requires)

pub returns-clause-ok : goal.returns-clause-ok
returns-clause-ok c =
    let names = c.args.names.now in
    let there : has c.args.name.now names ≡ true = not_false _ (sym c.if-branch.false ∙ c.in_ok-add.ensures.new) in
    let is : c.add.new.names ≡ names = c.in_ok-add.ensures.names
    ∙ ap (λ b. cond b names (names ++ c.args.name.now ∷ [])) there in
    λ x. rw is (look_up_there x c.args.name.now names c.args.uses.now c.args.place c.requires there)
