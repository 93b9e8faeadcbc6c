-- How a reading goes on.
use Rattle.std.specs.Prelude.{◌≡◌, ℕ, List, [], ◌++◌}
use Rattle.c_lexer.specs.Tokens.{Reads, Ending}
use Rattle.c_lexer.specs.Tokens.Ending.{no_token, unclosed}
use Rattle.c_lexer.specs.declared.fault.LexFault.{LexFault}
use Rattle.c_lexer.specs.declared.fault.LexFault.TheVariants.{L1, L2, Memory}
use Rattle.c_lexer.specs.declared.token.Token.{Token}

-- what is read from one place on, with the tokens found before it, is what is read from a later place on with those
-- found before that
abbrev pub ReadsOn : List ℕ → ℕ → List Token → ℕ → List Token → Type 0
ReadsOn text at found later more = (ts : List Token) (e : Ending) → Reads text later ts e → (us : List Token)
    × Reads text at us e × (found ++ us ≡ more ++ ts)

-- the reading from this place on is refused at once
abbrev pub Refuses : List ℕ → ℕ → LexFault → Type 0
Refuses text at (L1 place) = Reads text at [] (no_token place)
Refuses text at (L2 place) = Reads text at [] (unclosed place)
Refuses text at Memory = Unit {0}
