-- What a call adds to the first fault so far.
use Rattle.std.specs.Prelude.{Bool, not, ◌||◌, List, Option}
use Rattle.c_ast.specs.declared.operands.Name.{Name}
use Rattle.c_ast.specs.declared.operands.Operand.{Operand}
use Rattle.c_typing.specs.Functions.{called, is_called, is_counted}
use Rattle.c_typing.specs.Globals.{Globals}
use Rattle.c_typing.specs.declared.fault.TypeFault.{TypeFault}
use Rattle.c_typing.specs.declared.fault.TypeFault.TheVariants.{Rule}
use Rattle.c_typing.specs.declared.meaning.Spot.{Spot}
use Rattle.c_expressions.specs.Meeting.{noted_when}

-- whether its function leads back to the one around, and whether it is right by the given functions, is known
abbrev pub call_noted : Globals → Bool → Bool → Spot → Name → List Operand → Option TypeFault → Option TypeFault
call_noted g recurs allowed spot n os found =
    noted_when (not (is_counted (called g n.text) os)) (Rule 17 n.at)
    (noted_when (not (allowed || is_called g spot n.text os)) (Rule 15 n.at)
    (noted_when recurs (Rule 13 n.at) found))
