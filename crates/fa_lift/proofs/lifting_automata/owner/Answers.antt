use Rattle.std.proofs.Common.{◌≡◌, ◌<◌, ◌∙◌, ap, sym, subst, length}
use Rattle.std.proofs.lemmas.Result.{IfOk-weaker}
use Rattle.ta_core.specs.Auto.{Automaton}
use Rattle.ta_core.specs.Single.{HasOneTop}
use Rattle.ta_core.specs.declared.auto.Rule.{Rule}
use Rattle.fa_core.specs.declared.forest.Target.TheVariants.{At}
use Rattle.fa_split.specs.Split.{fixed, top_rule}
use Rattle.fa_split.proofs.ChosenTrees.{chosen_one, chosen_top}
use Rattle.fa_lift.specs.Lift.{owner}
use Rattle.fa_lift.proofs.lifting_automata.owner.Goals as goal

pub fix_child-requires-clause-top : goal.fix_child-requires-clause-top
fix_child-requires-clause-top c = subst (λ (a : Automaton). HasOneTop a) (sym c.in_ok-one.ensures)
    (chosen_one c.args.auto.now c.args.rule.now c.known.ensures c.requires.rule)

pub fix_child-requires-clause-place : goal.fix_child-requires-clause-place
fix_child-requires-clause-place c =
    subst (λ (a : Automaton). c.args.place < length (top_rule a).children) (sym c.in_ok-one.ensures)
    (subst (λ (o : Rule). c.args.place < length o.children)
    (sym (chosen_top c.args.auto.now c.args.rule.now c.known.ensures c.requires.rule)) c.requires.place)

pub returns : goal.returns
returns c = IfOk-weaker c.fix_child.result (λ (m : Automaton). m ≡ fixed c.in_ok-one.one c.args.place (At c.args.root))
    (λ (m : Automaton). m ≡ owner c.args.auto.now c.args.rule.now c.args.place c.args.root)
    (λ m e. e ∙ ap (λ (a : Automaton). fixed a c.args.place (At c.args.root)) c.in_ok-one.ensures)
    c.fix_child.ensures
