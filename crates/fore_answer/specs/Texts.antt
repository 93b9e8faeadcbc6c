-- What each answer writes, and the status with which it ends.
use Rattle.std.specs.Prelude.{ℕ, List, [], ◌++◌, codes, decimal}
use Rattle.c_types.specs.declared.outcome.Outcome.{Outcome}
use Rattle.c_types.specs.declared.outcome.Outcome.TheVariants.{Ended, Fault, Starved, BadChoice, StillRunning}
use Rattle.c_front.specs.declared.broken.Letter.{Letter}
use Rattle.c_front.specs.declared.broken.Letter.TheVariants.{Lexical, Profile, Syntax, Typing, Limit}
use Rattle.c_front.specs.declared.broken.Broken.{Broken}
use Rattle.fore_read.specs.declared.fault.Refusal.{Refusal}
use Rattle.fore_read.specs.declared.fault.Refusal.TheVariants.{
  TooLong,
  Breaks,
  BoxesTooLong,
  BoxRule,
  BoxLimit,
}
use Rattle.fore_report.specs.Texts.{run_text}
use Rattle.fore_report.specs.declared.verdict.Verdict.{Verdict}
use Rattle.fore_report.specs.declared.verdict.Verdict.TheVariants.{Safe, Unsafe, Unknown}
use Rattle.fore_words.specs.Usage.{ended_line, usage_text}
use Rattle.fore_answer.specs.declared.answer.Answer.{Answer}
use Rattle.fore_answer.specs.declared.answer.Answer.TheVariants.{Verified, Ran, Usage, Refused, ReadFault, NoMemory}
use Rattle.fore_answer.specs.declared.status.TheConstants.{NO_FAULT, FAULT, USAGE, UNKNOWN, REFUSED, NOT_READ}
use Rattle.fore_answer.specs.declared.status.TheConstants.{NO_MEMORY}

-- the letter of a rule
abbrev pub letter_text : Letter → List ℕ
letter_text Lexical = codes "L"
letter_text Profile = codes "P"
letter_text Syntax = codes "S"
letter_text Typing = codes "T"
letter_text Limit = codes "K"

-- the line that names a rule and the place at which it is broken
abbrev pub broken_text : Broken → List ℕ
broken_text b =
    ended_line (codes "refused " ++ (letter_text b.letter ++ (decimal b.number
    ++ (codes " " ++ (decimal b.at.line ++ (codes ":" ++ decimal b.at.column))))))

-- the line that names a rule of boxes, or the limit, and the line at which it is broken
abbrev pub box_text : List ℕ → ℕ → ℕ → List ℕ
box_text letter number line =
    ended_line (codes "refused " ++ (letter ++ (decimal number ++ (codes " line " ++ decimal line))))

-- the line that says why what is asked is refused
abbrev pub refusal_text : Refusal → List ℕ
refusal_text TooLong = ended_line (codes "refused K1 file")
refusal_text (Breaks b) = broken_text b
refusal_text BoxesTooLong = ended_line (codes "refused K1 boxes")
refusal_text (BoxRule rule line) = box_text (codes "B") rule line
refusal_text (BoxLimit line) = box_text (codes "K") 6 line

-- what goes to standard output
abbrev pub out_text : Answer → List ℕ
out_text (Verified verdict text) = text
out_text (Ran outcome) = run_text outcome
out_text Usage = []
out_text (Refused why) = []
out_text ReadFault = []
out_text NoMemory = []

-- what goes to standard error
abbrev pub notes_text : Answer → List ℕ
notes_text (Verified verdict text) = []
notes_text (Ran outcome) = []
notes_text Usage = usage_text
notes_text (Refused why) = refusal_text why
notes_text ReadFault = ended_line (codes "read fault")
notes_text NoMemory = []

-- the status with which a run ends
abbrev pub run_status : Outcome → ℕ
run_status (Ended step) = NO_FAULT
run_status (Fault kind line step) = FAULT
run_status (Starved step) = UNKNOWN
run_status (BadChoice index) = UNKNOWN
run_status StillRunning = UNKNOWN

-- the status of a verdict
abbrev pub verdict_status : Verdict → ℕ
verdict_status Safe = NO_FAULT
verdict_status Unsafe = FAULT
verdict_status Unknown = UNKNOWN

-- the status with which the program ends
abbrev pub status_of : Answer → ℕ
status_of (Verified verdict text) = verdict_status verdict
status_of (Ran outcome) = run_status outcome
status_of Usage = USAGE
status_of (Refused why) = REFUSED
status_of ReadFault = NOT_READ
status_of NoMemory = NO_MEMORY
