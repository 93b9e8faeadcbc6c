use Rattle.std.proofs.Common.{length}
use Rattle.c_grammar.specs.words.Shapes.{an_arrow, some_arrows}
use Rattle.c_grammar.specs.words.Sets.{arrows, no_sign}
use Rattle.c_grammar.proofs.Lists.{Leads}
use Rattle.c_grammar.proofs.Repeats.{cont_many}
use Rattle.c_operands.proofs.paths.arrows.Given as goal

abbrev pub invariant-arrows : goal.invariant-arrows
invariant-arrows l = Leads an_arrow.rule arrows no_sign no_sign no_sign some_arrows.rule (cont_many arrows no_sign)
    no_sign no_sign l.bounds.room l.bounds.end l.left l.rest l.all

abbrev pub decreases-arrows : goal.decreases-arrows
decreases-arrows l = length l.rest
