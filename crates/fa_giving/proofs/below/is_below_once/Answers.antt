use Rattle.std.proofs.Common.{◌↔◌, ◌∙◌, ap, subst, List, IsTrue}
use Rattle.fore_base.specs.Lists.{Every}
use Rattle.ta_core.specs.Auto.{Automaton}
use Rattle.ta_core.specs.declared.auto.Rule.{Rule}
use Rattle.fa_filling.specs.Ruled.{IsOnceBelow}
use Rattle.fa_giving.proofs.OnceRules.{below_decides}
use Rattle.fa_giving.proofs.below.is_below_once.Goals as goal

pub returns : goal.returns
returns c =
    let e = c.as_slice.ensures ∙ ap (λ (b : Automaton). b.rules) c.auto.view_is in
    below_decides c.args.face.now c.args._autos.now c.args._place c.args.auto.now c.known.ensures c.requires.trim
    c.requires.full c.requires.own c.in_ok-yes.yes
    (subst (λ (rs : List Rule). IsTrue c.in_ok-yes.yes
    ↔ Every (IsOnceBelow c.args.face.now rs) rs) e c.in_ok-yes.ensures)
