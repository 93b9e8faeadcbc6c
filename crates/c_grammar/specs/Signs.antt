-- What a token is to the grammar.
use Rattle.std.specs.Prelude.{ℕ, ◌==◌, Bool, true, false, List, [], ◌∷◌, cond, codes, nat_eq}
use Rattle.std.specs.Cmp.Lexicographic.{pointwise}
use Rattle.c_lexer.specs.declared.token.TokKind.{TokKind}
use Rattle.c_lexer.specs.declared.token.TokKind.TheVariants as kind
use Rattle.c_lexer.specs.declared.token.Token.{Token}
use Rattle.c_grammar.specs.declared.signs.Sign.{Sign}
use Rattle.c_grammar.specs.declared.signs.Sign.TheVariants.{Id, Number, Struct, Enum, Int, Void, Extern, If, Else}
use Rattle.c_grammar.specs.declared.signs.Sign.TheVariants.{While, Do, For, Return, Break, Continue, Sizeof, Malloc}
use Rattle.c_grammar.specs.declared.signs.Sign.TheVariants.{Free, Assert, Null, True, False, Arrow, Equal, Unequal, And}
use Rattle.c_grammar.specs.declared.signs.Sign.TheVariants.{Or, OpenBrace, CloseBrace, Open, Close, Semicolon, Comma}
use Rattle.c_grammar.specs.declared.signs.Sign.TheVariants.{Star, Assign, Not, Other, End}

abbrev pub Spelling : Type 0
Spelling = List ℕ × Sign

-- the reserved words
abbrev pub reserved : List Spelling
reserved =
    (codes "struct", Struct)
    ∷
    ((codes "enum", Enum)
    ∷ ((codes "int", Int) ∷ ((codes "void", Void) ∷ ((codes "extern", Extern) ∷ ((codes "if", If) ∷
    ((codes "else", Else)
    ∷ ((codes "while", While)
    ∷ ((codes "do", Do) ∷ ((codes "for", For) ∷ ((codes "return", Return) ∷ ((codes "break", Break) ∷
    ((codes "continue", Continue)
    ∷ ((codes "sizeof", Sizeof) ∷ ((codes "malloc", Malloc) ∷ ((codes "free", Free) ∷ ((codes "assert", Assert) ∷
    ((codes "NULL", Null) ∷ ((codes "true", True) ∷ ((codes "false", False) ∷ [])))))))))))))))))))

abbrev pub marks : List Spelling
marks =
    (codes "->", Arrow)
    ∷
    ((codes "==", Equal)
    ∷ ((codes "!=", Unequal) ∷ ((codes "&&", And) ∷ ((codes "||", Or) ∷ ((codes "{", OpenBrace) ∷
    ((codes "}", CloseBrace)
    ∷
    ((codes "(", Open) ∷ ((codes ")", Close) ∷ ((codes ";", Semicolon) ∷ ((codes ",", Comma) ∷ ((codes "*", Star) ∷
    ((codes "=", Assign) ∷ ((codes "!", Not) ∷ [])))))))))))))

-- the sign of this text in a table, or another one where it is not there
abbrev pub sign_in : List Spelling → List ℕ → Sign → Sign
sign_in [] text other = other
sign_in (s ∷ rest) text other = cond (pointwise nat_eq text s.0) s.1 (sign_in rest text other)

abbrev pub sign_as : TokKind → List ℕ → Sign
sign_as kind.Word text = sign_in reserved text Id
sign_as kind.Number text = Number
sign_as kind.Mark text = sign_in marks text Other
sign_as kind.Quoted text = Other
sign_as kind.Hash text = Other
sign_as kind.Refused text = Other

unfoldable pub sign_of : Token → Sign
sign_of t = sign_as t.kind t.text

-- the sign of the token that comes next
abbrev pub sign_at : List Token → Sign
sign_at [] = End
sign_at (t ∷ ts) = sign_of t

abbrev pub or_on : Bool → Bool → Bool
or_on true b = true
or_on false b = b

abbrev pub and : Bool → Bool → Bool
and true b = b
and false b = false

-- signs are told apart by their numbers
abbrev pub number_of : Sign → ℕ
number_of Id = 0
number_of Number = 1
number_of Struct = 2
number_of Enum = 3
number_of Int = 4
number_of Void = 5
number_of Extern = 6
number_of If = 7
number_of Else = 8
number_of While = 9
number_of Do = 10
number_of For = 11
number_of Return = 12
number_of Break = 13
number_of Continue = 14
number_of Sizeof = 15
number_of Malloc = 16
number_of Free = 17
number_of Assert = 18
number_of Null = 19
number_of True = 20
number_of False = 21
number_of Arrow = 22
number_of Equal = 23
number_of Unequal = 24
number_of And = 25
number_of Or = 26
number_of OpenBrace = 27
number_of CloseBrace = 28
number_of Open = 29
number_of Close = 30
number_of Semicolon = 31
number_of Comma = 32
number_of Star = 33
number_of Assign = 34
number_of Not = 35
number_of Other = 36
number_of End = 37

abbrev pub same_sign : Sign → Sign → Bool
same_sign a b = number_of a == number_of b
