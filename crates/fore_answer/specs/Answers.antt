-- What is answered where nothing was judged.
use Rattle.fore_read.specs.declared.fault.ReadFault.{ReadFault as Fault}
use Rattle.fore_read.specs.declared.fault.ReadFault.TheVariants as fault
use Rattle.fore_answer.specs.declared.answer.Answer.{Answer}
use Rattle.fore_answer.specs.declared.answer.Answer.TheVariants.{Refused, ReadFault, NoMemory}

-- what is answered where a file, or a text, is not taken
abbrev pub answer_to : Fault → Answer
answer_to (fault.Refused why) = Refused why
answer_to fault.Failed = ReadFault
answer_to fault.Memory = NoMemory
