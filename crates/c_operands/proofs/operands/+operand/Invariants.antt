use Rattle.std.proofs.Common.{◌+◌, ◌*◌, length}
use Rattle.c_grammar.specs.words.Sets.{commas, operand_goes_on, arguments_go_on, no_sign}
use Rattle.c_grammar.specs.words.Shapes.{next_argument, some_arguments}
use Rattle.c_grammar.proofs.Lists.{Leads}
use Rattle.c_operands.proofs.operands.«+operand».Given as goal

abbrev pub decreases-arguments : goal.decreases-arguments
decreases-arguments l = 8 * l.bounds.now.room + 4

abbrev pub decreases-some_operands : goal.decreases-some_operands
decreases-some_operands l = 8 * l.bounds.now.room + 3

abbrev pub decreases-next_operand : goal.decreases-next_operand
decreases-next_operand l = 8 * l.bounds.now.room + 2

abbrev pub decreases-argument : goal.decreases-argument
decreases-argument l = 8 * l.bounds.now.room + 1

abbrev pub invariant-some_operands-operands : goal.invariant-some_operands-operands
invariant-some_operands-operands l =
    Leads next_argument.rule commas operand_goes_on no_sign no_sign some_arguments.rule arguments_go_on no_sign no_sign
    l.bounds.room l.bounds.end l.left l.rest l.all

abbrev pub decreases-some_operands-operands : goal.decreases-some_operands-operands
decreases-some_operands-operands l = length l.rest
