use Rattle.std.proofs.Common.{sym, subst}
use Rattle.ta_core.specs.Auto.{Automaton}
use Rattle.fa_core.specs.Folding.{IsLanguageOf, moved_tree, position}
use Rattle.fa_folding.proofs.Moving.{moved_language}
use Rattle.fa_part.proofs.components.inner_component.Goals as goal

pub returns : goal.returns
returns c =
    subst (λ (x : Automaton). IsLanguageOf (moved_tree (position c.args.order.now)) c.args.auto.now x)
    (sym c.in_ok-made.ensures) (moved_language (position c.args.order.now) c.args.auto.now)
