-- What a parsing function reads, and where it stops.
use Rattle.std.specs.Prelude.{◌≡◌, suc, true, List}
use Rattle.c_grammar.specs.Signs.{sign_at}
use Rattle.c_grammar.specs.declared.fault.SyntaxFault.{SyntaxFault}
use Rattle.c_grammar.specs.words.Faults.{Takes, Fails}
use Rattle.c_grammar.specs.words.Sets.{Signs}
use Rattle.c_grammar.specs.words.Shapes as shapes
use Rattle.c_grammar.specs.words.Shapes.{Shape}
use Rattle.c_lexer.specs.declared.token.Token.{Token}
use Rattle.c_reader.specs.declared.reader.Bounds.{Bounds}

abbrev pub Reads : {X : Type 0} → Shape X → Bounds → List Token → List Token → X → Type 0
Reads s b ts rest x = Takes s.rule s.cont s.bars b.room ts rest x

abbrev pub Stops : {X : Type 0} → Shape X → Bounds → List Token → SyntaxFault → Type 0
Stops s b ts e = Fails s.rule s.cont s.bars s.heads b.room b.end ts e

-- a level that begins with one of these signs may be opened here, and these are the bounds within
abbrev pub StepsIn : Signs → Bounds → List Token → Bounds → Type 0
StepsIn begins b ts inner = (inner.end ≡ b.end) × (b.room ≡ suc inner.room) × (begins (sign_at ts) ≡ true)

-- none may
abbrev pub StaysOut : Signs → Bounds → List Token → SyntaxFault → Type 0
StaysOut begins b ts e = shapes.StaysOut begins b.room b.end ts e
