-- What a refusal says of a text.
use Rattle.std.specs.Prelude.{ℕ, List}
use Rattle.c_lexer.specs.Tokens.{LacksToken, LacksClose}
use Rattle.c_lexer.specs.declared.fault.LexFault.{LexFault}
use Rattle.c_lexer.specs.declared.fault.LexFault.TheVariants.{L1, L2, Memory}

-- the fault is the text's first refusal, or want of memory
abbrev pub IsRefusal : List ℕ → LexFault → Type 0
IsRefusal text (L1 place) = LacksToken text place
IsRefusal text (L2 place) = LacksClose text place
IsRefusal text Memory = Unit {0}
