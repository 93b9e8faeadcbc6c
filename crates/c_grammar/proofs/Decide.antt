-- What holds of sets of signs is decided sign by sign.
use Rattle.std.proofs.Common.{◌≡◌, ℕ, zero, suc, Bool, true, false, List, [], ◌∷◌, refl, sym, ◌∙◌, not}
use Rattle.c_grammar.specs.words.Sets.{Signs}
use Rattle.c_grammar.specs.declared.signs.Sign.{Sign}
use Rattle.c_grammar.specs.declared.signs.Sign.TheVariants.{Id, Number, Struct, Enum, Int, Void, Extern, If, Else}
use Rattle.c_grammar.specs.declared.signs.Sign.TheVariants.{While, Do, For, Return, Break, Continue, Sizeof, Malloc}
use Rattle.c_grammar.specs.declared.signs.Sign.TheVariants.{Free, Assert, Null, True, False, Arrow, Equal, Unequal, And}
use Rattle.c_grammar.specs.declared.signs.Sign.TheVariants.{Or, OpenBrace, CloseBrace, Open, Close, Semicolon, Comma}
use Rattle.c_grammar.specs.declared.signs.Sign.TheVariants.{Star, Assign, Not, Other, End}
use Rattle.c_grammar.proofs.Rules.{Apart}
use Rattle.c_grammar.proofs.Parts.{Within}
use Rattle.c_grammar.specs.Signs.{and}
use Rattle.c_grammar.proofs.SignLemmas.{clash, and_left, and_right}

abbrev pub all : Signs → List Sign → Bool
all p [] = true
all p (s ∷ ss) = and (p s) (all p ss)

abbrev pub signs : List Sign
signs =
    Id
    ∷
    (Number
    ∷
    (Struct
    ∷
    (Enum
    ∷
    (Int
    ∷
    (Void
    ∷
    (Extern
    ∷
    (If
    ∷
    (Else
    ∷
    (While
    ∷
    (Do
    ∷
    (For
    ∷
    (Return
    ∷
    (Break
    ∷
    (Continue
    ∷
    (Sizeof
    ∷
    (Malloc
    ∷
    (Free
    ∷
    (Assert
    ∷
    (Null
    ∷
    (True
    ∷
    (False
    ∷
    (Arrow
    ∷
    (Equal
    ∷
    (Unequal
    ∷
    (And
    ∷
    (Or
    ∷
    (OpenBrace
    ∷
    (CloseBrace
    ∷
    (Open
    ∷ (Close ∷ (Semicolon ∷ (Comma ∷ (Star ∷ (Assign ∷ (Not ∷ (Other ∷ (End ∷ [])))))))))))))))))))))))))))))))))))))

abbrev pub every : Signs → Bool
every p = all p signs

abbrev skip : ℕ → List Sign → List Sign
skip zero ss = ss
skip (suc k) [] = []
skip (suc k) (s ∷ ss) = skip k ss

all_skip : (p : Signs) (k : ℕ) (ss : List Sign) → all p ss ≡ true → all p (skip k ss) ≡ true
all_skip p zero ss h = h
all_skip p (suc k) [] h = h
all_skip p (suc k) (s ∷ ss) h = all_skip p k ss (and_right (p s) (all p ss) h)

pub holds : (p : Signs) → every p ≡ true → (s : Sign) → p s ≡ true
holds p h Id = and_left (p Id) (all p (skip 1 signs)) (all_skip p 0 signs h)
holds p h Number = and_left (p Number) (all p (skip 2 signs)) (all_skip p 1 signs h)
holds p h Struct = and_left (p Struct) (all p (skip 3 signs)) (all_skip p 2 signs h)
holds p h Enum = and_left (p Enum) (all p (skip 4 signs)) (all_skip p 3 signs h)
holds p h Int = and_left (p Int) (all p (skip 5 signs)) (all_skip p 4 signs h)
holds p h Void = and_left (p Void) (all p (skip 6 signs)) (all_skip p 5 signs h)
holds p h Extern = and_left (p Extern) (all p (skip 7 signs)) (all_skip p 6 signs h)
holds p h If = and_left (p If) (all p (skip 8 signs)) (all_skip p 7 signs h)
holds p h Else = and_left (p Else) (all p (skip 9 signs)) (all_skip p 8 signs h)
holds p h While = and_left (p While) (all p (skip 10 signs)) (all_skip p 9 signs h)
holds p h Do = and_left (p Do) (all p (skip 11 signs)) (all_skip p 10 signs h)
holds p h For = and_left (p For) (all p (skip 12 signs)) (all_skip p 11 signs h)
holds p h Return = and_left (p Return) (all p (skip 13 signs)) (all_skip p 12 signs h)
holds p h Break = and_left (p Break) (all p (skip 14 signs)) (all_skip p 13 signs h)
holds p h Continue = and_left (p Continue) (all p (skip 15 signs)) (all_skip p 14 signs h)
holds p h Sizeof = and_left (p Sizeof) (all p (skip 16 signs)) (all_skip p 15 signs h)
holds p h Malloc = and_left (p Malloc) (all p (skip 17 signs)) (all_skip p 16 signs h)
holds p h Free = and_left (p Free) (all p (skip 18 signs)) (all_skip p 17 signs h)
holds p h Assert = and_left (p Assert) (all p (skip 19 signs)) (all_skip p 18 signs h)
holds p h Null = and_left (p Null) (all p (skip 20 signs)) (all_skip p 19 signs h)
holds p h True = and_left (p True) (all p (skip 21 signs)) (all_skip p 20 signs h)
holds p h False = and_left (p False) (all p (skip 22 signs)) (all_skip p 21 signs h)
holds p h Arrow = and_left (p Arrow) (all p (skip 23 signs)) (all_skip p 22 signs h)
holds p h Equal = and_left (p Equal) (all p (skip 24 signs)) (all_skip p 23 signs h)
holds p h Unequal = and_left (p Unequal) (all p (skip 25 signs)) (all_skip p 24 signs h)
holds p h And = and_left (p And) (all p (skip 26 signs)) (all_skip p 25 signs h)
holds p h Or = and_left (p Or) (all p (skip 27 signs)) (all_skip p 26 signs h)
holds p h OpenBrace = and_left (p OpenBrace) (all p (skip 28 signs)) (all_skip p 27 signs h)
holds p h CloseBrace = and_left (p CloseBrace) (all p (skip 29 signs)) (all_skip p 28 signs h)
holds p h Open = and_left (p Open) (all p (skip 30 signs)) (all_skip p 29 signs h)
holds p h Close = and_left (p Close) (all p (skip 31 signs)) (all_skip p 30 signs h)
holds p h Semicolon = and_left (p Semicolon) (all p (skip 32 signs)) (all_skip p 31 signs h)
holds p h Comma = and_left (p Comma) (all p (skip 33 signs)) (all_skip p 32 signs h)
holds p h Star = and_left (p Star) (all p (skip 34 signs)) (all_skip p 33 signs h)
holds p h Assign = and_left (p Assign) (all p (skip 35 signs)) (all_skip p 34 signs h)
holds p h Not = and_left (p Not) (all p (skip 36 signs)) (all_skip p 35 signs h)
holds p h Other = and_left (p Other) (all p (skip 37 signs)) (all_skip p 36 signs h)
holds p h End = and_left (p End) (all p (skip 38 signs)) (all_skip p 37 signs h)

abbrev pub implies : Bool → Bool → Bool
implies true b = b
implies false b = true

imply : (a b : Bool) → implies a b ≡ true → a ≡ true → b ≡ true
imply true b e f = e
imply false b e f = absurd (clash (sym f))

contra : (a b : Bool) → implies a b ≡ true → b ≡ false → a ≡ false
contra true b e f = absurd (clash (sym e ∙ f))
contra false b e f = refl

separate : (a b : Bool) → implies a (not b) ≡ true → b ≡ true → a ≡ false
separate true true e f = sym e
separate true false e f = absurd (clash (sym f))
separate false b e f = refl

pub inside : (p q : Signs) → every (λ s. implies (p s) (q s)) ≡ true → (s : Sign) → p s ≡ true → q s ≡ true
inside p q h s = imply (p s) (q s) (holds (λ s. implies (p s) (q s)) h s)

pub within : (p q : Signs) → every (λ s. implies (p s) (q s)) ≡ true → Within p q
within p q h s = contra (p s) (q s) (holds (λ s. implies (p s) (q s)) h s)

pub apart_of : (p q : Signs) → every (λ s. implies (p s) (not (q s))) ≡ true → Apart p q
apart_of p q h s = separate (p s) (q s) (holds (λ s. implies (p s) (not (q s))) h s)
