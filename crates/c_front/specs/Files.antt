-- The program of a file, or the first rule that it breaks.
use Rattle.std.specs.Prelude.{◌≡◌, ⊤, ℕ, List}
use Rattle.fore_base.specs.declared.place.Place.{Place}
use Rattle.c_ast.specs.declared.items.Unit as whole
use Rattle.c_grammar.specs.declared.fault.SyntaxFault.{SyntaxFault}
use Rattle.c_grammar.specs.declared.fault.SyntaxFault.TheVariants as syntax'
use Rattle.c_lexer.specs.Places.{place_after}
use Rattle.c_lexer.specs.Refusals.{IsRefusal}
use Rattle.c_lexer.specs.Tokens.{Tokens}
use Rattle.c_lexer.specs.declared.fault.LexFault.{LexFault}
use Rattle.c_lexer.specs.declared.fault.LexFault.TheVariants as lexical
use Rattle.c_lexer.specs.declared.token.Token.{Token}
use Rattle.c_parser.specs.Parses as parses
use Rattle.c_types.specs.Program.{Program}
use Rattle.c_typing.specs.Typing.{TypedOf, IsFirstFault}
use Rattle.c_typing.specs.declared.fault.TypeFault.{TypeFault}
use Rattle.c_typing.specs.declared.fault.TypeFault.TheVariants as typing
use Rattle.c_front.specs.declared.broken.Broken.{Broken}
use Rattle.c_front.specs.declared.broken.FileFault.{FileFault}
use Rattle.c_front.specs.declared.broken.FileFault.TheVariants.{Breaks, Memory}
use Rattle.c_front.specs.declared.broken.Letter.{Letter}
use Rattle.c_front.specs.declared.broken.Letter.TheVariants.{Lexical, Profile, Syntax, Typing, Limit}

-- The bytes are the text of the program: they are these tokens, the tokens are this tree, and the tree breaks no rule
-- and is this program.
pub record IsProgramOf (bytes : List ℕ) (p : Program) : Type 0 where
  pub tokens : List Token
  pub unit : whole.Unit
  pub lexed : Tokens bytes tokens
  pub parsed : parses.IsParsed tokens (place_after bytes) unit
  pub typed : TypedOf unit p

-- How the faults of tokens, of the grammar and of types are told in one form

abbrev pub broken : Letter → ℕ → Place → FileFault
broken letter number at = Breaks (record { letter = letter; number = number; at = at })

abbrev pub lexical_fault : LexFault → FileFault
lexical_fault (lexical.L1 at) = broken Lexical 1 at
lexical_fault (lexical.L2 at) = broken Lexical 2 at
lexical_fault lexical.Memory = Memory

abbrev pub syntax_fault : SyntaxFault → FileFault
syntax_fault (syntax'.Refused rule at) = broken Profile rule at
syntax_fault (syntax'.Syntax at) = broken Syntax 1 at
syntax_fault (syntax'.Deep at) = broken Syntax 2 at
syntax_fault syntax'.Memory = Memory

abbrev pub type_fault : TypeFault → FileFault
type_fault (typing.Rule rule at) = broken Typing rule at
type_fault (typing.Limit limit at) = broken Limit limit at
type_fault typing.Memory = Memory

-- The first rule that the bytes break: one of tokens; else one of the grammar; else one of names, types and limits.
pub data BreaksFirst (bytes : List ℕ) (b : Broken) : Type 0 where
  no_tokens : (e : LexFault) → IsRefusal bytes e → lexical_fault e ≡ Breaks b → BreaksFirst bytes b
  no_tree : (ts : List Token) (e : SyntaxFault) → Tokens bytes ts → parses.IsFault ts (place_after bytes) e
      → syntax_fault e ≡ Breaks b
      → BreaksFirst bytes b
  no_types : (ts : List Token) (u : whole.Unit) (e : TypeFault) → Tokens bytes ts
      → parses.IsParsed ts (place_after bytes) u → IsFirstFault u e
      → type_fault e ≡ Breaks b → BreaksFirst bytes b

-- why the bytes give no program
abbrev pub IsFault : List ℕ → FileFault → Type 0
IsFault bytes (Breaks b) = BreaksFirst bytes b
IsFault bytes Memory = ⊤
